-- The names of the opcodes (ACPI 6.5, 20.2.3 to 20.2.6), each with the mnemonic of its row.
use Prim.Native.String.{String}
use Rattle.std.specs.Prelude.{◌≡◌, ℕ, List, [], ◌∷◌, codes, map}
use Rattle.aml_code.specs.Opcodes.{rows}
use Rattle.aml_walk.specs.declared.opcodes.TheConstants.{BYTE, WORD, DWORD, QWORD, TEXT, ZERO, ONE, ONES, REVISION}
use Rattle.aml_walk.specs.declared.opcodes.TheConstants.{BUFFER, PACKAGE, VAR_PACKAGE, ALIAS, NAME, SCOPE, BANK_FIELD}
use Rattle.aml_walk.specs.declared.opcodes.TheConstants.{CREATE_BIT_FIELD, CREATE_BYTE_FIELD, CREATE_DWORD_FIELD}
use Rattle.aml_walk.specs.declared.opcodes.TheConstants.{CREATE_FIELD, CREATE_QWORD_FIELD, CREATE_WORD_FIELD}
use Rattle.aml_walk.specs.declared.opcodes.TheConstants.{DATA_REGION, DEVICE, EVENT, EXTERNAL, FIELD, INDEX_FIELD}
use Rattle.aml_walk.specs.declared.opcodes.TheConstants.{METHOD, MUTEX, OPERATION_REGION, POWER_RESOURCE, PROCESSOR}
use Rattle.aml_walk.specs.declared.opcodes.TheConstants.{THERMAL_ZONE, BREAK, BREAK_POINT, CONTINUE, FATAL, IF, ELSE}
use Rattle.aml_walk.specs.declared.opcodes.TheConstants.{NOOP, NOTIFY, RELEASE, RESET, RETURN, SIGNAL, SLEEP, STALL}
use Rattle.aml_walk.specs.declared.opcodes.TheConstants.{UNLOAD, WHILE, ACQUIRE, ADD, AND, CONCATENATE}
use Rattle.aml_walk.specs.declared.opcodes.TheConstants.{CONCATENATE_RES_TEMPLATE, COND_REF_OF, COPY_OBJECT, DECREMENT}
use Rattle.aml_walk.specs.declared.opcodes.TheConstants.{DEREF_OF, DIVIDE, FIND_SET_LEFT_BIT, FIND_SET_RIGHT_BIT}
use Rattle.aml_walk.specs.declared.opcodes.TheConstants.{FROM_BCD, INCREMENT, INDEX, LAND, LEQUAL, LGREATER, LLESS, MID}
use Rattle.aml_walk.specs.declared.opcodes.TheConstants.{LNOT, LOAD, LOAD_TABLE, LOR, MATCH, MOD, MULTIPLY, NAND, NOR}
use Rattle.aml_walk.specs.declared.opcodes.TheConstants.{NOT, OBJECT_TYPE, OR, REF_OF, SHIFT_LEFT, SHIFT_RIGHT, SIZE_OF}
use Rattle.aml_walk.specs.declared.opcodes.TheConstants.{STORE, SUBTRACT, TIMER, TO_BCD, TO_BUFFER, TO_DECIMAL_STRING}
use Rattle.aml_walk.specs.declared.opcodes.TheConstants.{TO_HEX_STRING, TO_INTEGER, TO_STRING, WAIT, XOR, ARG0, ARG1}
use Rattle.aml_walk.specs.declared.opcodes.TheConstants.{ARG2, ARG3, ARG4, ARG5, ARG6, LOCAL0, LOCAL1, LOCAL2, LOCAL3}
use Rattle.aml_walk.specs.declared.opcodes.TheConstants.{LOCAL4, LOCAL5, LOCAL6, LOCAL7, DEBUG}

-- an opcode and its mnemonic
pub record Titled : Type 0 where
  pub opcode : ℕ
  pub mnemonic : List ℕ

abbrev titled : ℕ → String → Titled
titled o m = record { opcode = o; mnemonic = codes m }

-- what is named, in the order of the table of opcodes
unfoldable pub names : List Titled
names =
    titled BYTE "Byte" ∷
    titled WORD "Word" ∷
    titled DWORD "Dword" ∷
    titled QWORD "Qword" ∷
    titled TEXT "Text" ∷
    titled ZERO "Zero" ∷
    titled ONE "One" ∷
    titled ONES "Ones" ∷
    titled REVISION "Revision" ∷
    titled BUFFER "Buffer" ∷
    titled PACKAGE "Package" ∷
    titled VAR_PACKAGE "VarPackage" ∷
    titled ALIAS "Alias" ∷
    titled NAME "Name" ∷
    titled SCOPE "Scope" ∷
    titled BANK_FIELD "BankField" ∷
    titled CREATE_BIT_FIELD "CreateBitField" ∷
    titled CREATE_BYTE_FIELD "CreateByteField" ∷
    titled CREATE_DWORD_FIELD "CreateDWordField" ∷
    titled CREATE_FIELD "CreateField" ∷
    titled CREATE_QWORD_FIELD "CreateQWordField" ∷
    titled CREATE_WORD_FIELD "CreateWordField" ∷
    titled DATA_REGION "DataRegion" ∷
    titled DEVICE "Device" ∷
    titled EVENT "Event" ∷
    titled EXTERNAL "External" ∷
    titled FIELD "Field" ∷
    titled INDEX_FIELD "IndexField" ∷
    titled METHOD "Method" ∷
    titled MUTEX "Mutex" ∷
    titled OPERATION_REGION "OperationRegion" ∷
    titled POWER_RESOURCE "PowerResource" ∷
    titled PROCESSOR "Processor" ∷
    titled THERMAL_ZONE "ThermalZone" ∷
    titled BREAK "Break" ∷
    titled BREAK_POINT "BreakPoint" ∷
    titled CONTINUE "Continue" ∷
    titled FATAL "Fatal" ∷
    titled IF "If" ∷
    titled ELSE "Else" ∷
    titled NOOP "Noop" ∷
    titled NOTIFY "Notify" ∷
    titled RELEASE "Release" ∷
    titled RESET "Reset" ∷
    titled RETURN "Return" ∷
    titled SIGNAL "Signal" ∷
    titled SLEEP "Sleep" ∷
    titled STALL "Stall" ∷
    titled UNLOAD "Unload" ∷
    titled WHILE "While" ∷
    titled ACQUIRE "Acquire" ∷
    titled ADD "Add" ∷
    titled AND "And" ∷
    titled CONCATENATE "Concatenate" ∷
    titled CONCATENATE_RES_TEMPLATE "ConcatenateResTemplate" ∷
    titled COND_REF_OF "CondRefOf" ∷
    titled COPY_OBJECT "CopyObject" ∷
    titled DECREMENT "Decrement" ∷
    titled DEREF_OF "DerefOf" ∷
    titled DIVIDE "Divide" ∷
    titled FIND_SET_LEFT_BIT "FindSetLeftBit" ∷
    titled FIND_SET_RIGHT_BIT "FindSetRightBit" ∷
    titled FROM_BCD "FromBCD" ∷
    titled INCREMENT "Increment" ∷
    titled INDEX "Index" ∷
    titled LAND "LAnd" ∷
    titled LEQUAL "LEqual" ∷
    titled LGREATER "LGreater" ∷
    titled LLESS "LLess" ∷
    titled MID "Mid" ∷
    titled LNOT "LNot" ∷
    titled LOAD "Load" ∷
    titled LOAD_TABLE "LoadTable" ∷
    titled LOR "LOr" ∷
    titled MATCH "Match" ∷
    titled MOD "Mod" ∷
    titled MULTIPLY "Multiply" ∷
    titled NAND "NAnd" ∷
    titled NOR "NOr" ∷
    titled NOT "Not" ∷
    titled OBJECT_TYPE "ObjectType" ∷
    titled OR "Or" ∷
    titled REF_OF "RefOf" ∷
    titled SHIFT_LEFT "ShiftLeft" ∷
    titled SHIFT_RIGHT "ShiftRight" ∷
    titled SIZE_OF "SizeOf" ∷
    titled STORE "Store" ∷
    titled SUBTRACT "Subtract" ∷
    titled TIMER "Timer" ∷
    titled TO_BCD "ToBCD" ∷
    titled TO_BUFFER "ToBuffer" ∷
    titled TO_DECIMAL_STRING "ToDecimalString" ∷
    titled TO_HEX_STRING "ToHexString" ∷
    titled TO_INTEGER "ToInteger" ∷
    titled TO_STRING "ToString" ∷
    titled WAIT "Wait" ∷
    titled XOR "XOr" ∷
    titled ARG0 "Arg0" ∷
    titled ARG1 "Arg1" ∷
    titled ARG2 "Arg2" ∷
    titled ARG3 "Arg3" ∷
    titled ARG4 "Arg4" ∷
    titled ARG5 "Arg5" ∷
    titled ARG6 "Arg6" ∷
    titled LOCAL0 "Local0" ∷
    titled LOCAL1 "Local1" ∷
    titled LOCAL2 "Local2" ∷
    titled LOCAL3 "Local3" ∷
    titled LOCAL4 "Local4" ∷
    titled LOCAL5 "Local5" ∷
    titled LOCAL6 "Local6" ∷
    titled LOCAL7 "Local7" ∷
    titled DEBUG "Debug" ∷
    []

-- The table of opcodes has just these opcodes with these mnemonics, a row for each name.
abbrev pub AreNamed : Type 0
AreNamed = map (λ r. record { opcode = r.opcode; mnemonic = r.mnemonic }) rows ≡ names
