-- The opcodes of AML, a line each, in the order of the standard's sections (ACPI 6.5, 20.2.3 to 20.2.6): the opcode,
-- the mnemonic, the group, the place, the parts, the tail and the role. `plain` has no tail and the role Other;
-- `declares` has no tail, and declares an object; `opens` has terms, which stand under the path of the object that it
-- declares. A two-byte opcode `5B xx` is 0x5Bxx. LNotEqual, LLessEqual and LGreaterEqual (92 93, 92 94, 92 95) are LNot
-- around LEqual, LGreater and LLess.
use Prim.Native.String.{String}
use Rattle.std.specs.Prelude.{ℕ, List, [], ◌∷◌, codes, ◌==◌, Bool, true, false, Option, Some, None, is_some, find}
use Rattle.aml_code.specs.declared.rows.Group.{Group}
use Rattle.aml_code.specs.declared.rows.Group.TheVariants.{Value, Expression, Statement, Declaration}
use Rattle.aml_code.specs.declared.rows.Object.{Object}
use Rattle.aml_code.specs.declared.rows.Object.TheVariants as objects
use Rattle.aml_code.specs.declared.rows.PartKind.{PartKind}
use Rattle.aml_code.specs.declared.rows.PartKind.TheVariants.{Term, Target, Name, ScopeName, Data, Byte, Count, Word}
use Rattle.aml_code.specs.declared.rows.PartKind.TheVariants.{Dword, Qword, Text}
use Rattle.aml_code.specs.declared.rows.Place.{Place}
use Rattle.aml_code.specs.declared.rows.Place.TheVariants as places
use Rattle.aml_code.specs.declared.rows.Role.{Role}
use Rattle.aml_code.specs.declared.rows.Role.TheVariants as roles
use Rattle.aml_code.specs.declared.rows.TailKind.{TailKind}
use Rattle.aml_code.specs.declared.rows.TailKind.TheVariants.{Terms, Bytes, Elements, Fields, Body}
use Rattle.aml_code.specs.declared.rows.OpRow.{OpRow}
use Rattle.aml_code.specs.declared.rows.Position.{Position}
use Rattle.aml_code.specs.declared.rows.Position.TheVariants as positions

-- what the table says of an opcode
pub record Row : Type 0 where
  pub opcode : ℕ
  pub mnemonic : List ℕ
  pub group : Group
  pub place : Place
  pub parts : List PartKind
  pub tail : Option TailKind
  pub role : Role

-- a row; one without a package that does nothing to the namespace; one without a package that declares an object; one
-- that declares an object and has terms inside it, under the object's path
abbrev row : ℕ → String → Group → Place → List PartKind → Option TailKind → Role → Row
row o m g p ps t r = record { opcode = o; mnemonic = codes m; group = g; place = p; parts = ps; tail = t; role = r }

abbrev plain : ℕ → String → Group → Place → List PartKind → Row
plain o m g p ps = row o m g p ps None roles.Other

abbrev declares : ℕ → String → Object → List PartKind → Row
declares o m object ps = row o m Declaration places.Declaration ps None (roles.Declares object)

abbrev opens : ℕ → String → Object → List PartKind → Row
opens o m object ps = row o m Declaration places.Scope ps (Some Terms) (roles.Declares object)

unfoldable pub rows : List Row
rows =
    -- data objects (20.2.3)
    plain 0x0A "Byte" Value places.Data (Byte ∷ []) ∷
    plain 0x0B "Word" Value places.Data (Word ∷ []) ∷
    plain 0x0C "Dword" Value places.Data (Dword ∷ []) ∷
    plain 0x0E "Qword" Value places.Data (Qword ∷ []) ∷
    plain 0x0D "Text" Value places.Data (Text ∷ []) ∷
    plain 0x00 "Zero" Value places.Data [] ∷
    plain 0x01 "One" Value places.Data [] ∷
    plain 0xFF "Ones" Value places.Data [] ∷
    plain 0x5B30 "Revision" Value places.Data [] ∷
    row 0x11 "Buffer" Value places.Data (Term ∷ []) (Some Bytes) roles.Other ∷
    row 0x12 "Package" Value places.Data (Byte ∷ []) (Some Elements) roles.Other ∷
    row 0x13 "VarPackage" Value places.Data (Term ∷ []) (Some Elements) roles.Other ∷
    -- namespace modifier objects (20.2.5.1)
    row 0x06 "Alias" Declaration places.Declaration (Name ∷ Name ∷ []) None roles.Alias ∷
    declares 0x08 "Name" objects.Name (Name ∷ Data ∷ []) ∷
    row 0x10 "Scope" Declaration places.Scope (ScopeName ∷ []) (Some Terms) roles.Scope ∷
    -- named objects (20.2.5.2)
    row 0x5B87 "BankField" Declaration places.Declaration (Name ∷ Name ∷ Term ∷ Byte ∷ []) (Some Fields) roles.Fields ∷
    declares 0x8D "CreateBitField" objects.BufferField (Term ∷ Term ∷ Name ∷ []) ∷
    declares 0x8C "CreateByteField" objects.BufferField (Term ∷ Term ∷ Name ∷ []) ∷
    declares 0x8A "CreateDWordField" objects.BufferField (Term ∷ Term ∷ Name ∷ []) ∷
    declares 0x5B13 "CreateField" objects.BufferField (Term ∷ Term ∷ Term ∷ Name ∷ []) ∷
    declares 0x8F "CreateQWordField" objects.BufferField (Term ∷ Term ∷ Name ∷ []) ∷
    declares 0x8B "CreateWordField" objects.BufferField (Term ∷ Term ∷ Name ∷ []) ∷
    declares 0x5B88 "DataRegion" objects.DataRegion (Name ∷ Term ∷ Term ∷ Term ∷ []) ∷
    opens 0x5B82 "Device" objects.Device (Name ∷ []) ∷
    declares 0x5B02 "Event" objects.Event (Name ∷ []) ∷
    row 0x15 "External" Declaration places.External (Name ∷ Byte ∷ Count ∷ []) None roles.External ∷
    row 0x5B81 "Field" Declaration places.Declaration (Name ∷ Byte ∷ []) (Some Fields) roles.Fields ∷
    row 0x5B86 "IndexField" Declaration places.Declaration (Name ∷ Name ∷ Byte ∷ []) (Some Fields) roles.Fields ∷
    row 0x14 "Method" Declaration places.Method (Name ∷ Byte ∷ []) (Some Body) roles.Method ∷
    declares 0x5B01 "Mutex" objects.Mutex (Name ∷ Byte ∷ []) ∷
    declares 0x5B80 "OperationRegion" objects.Region (Name ∷ Byte ∷ Term ∷ Term ∷ []) ∷
    opens 0x5B84 "PowerResource" objects.PowerResource (Name ∷ Byte ∷ Word ∷ []) ∷
    opens 0x5B83 "Processor" objects.Processor (Name ∷ Byte ∷ Dword ∷ Byte ∷ []) ∷
    opens 0x5B85 "ThermalZone" objects.ThermalZone (Name ∷ []) ∷
    -- statement opcodes (20.2.5.3)
    plain 0xA5 "Break" Statement places.Statement [] ∷
    plain 0xCC "BreakPoint" Statement places.Statement [] ∷
    plain 0x9F "Continue" Statement places.Statement [] ∷
    plain 0x5B32 "Fatal" Statement places.Statement (Byte ∷ Dword ∷ Term ∷ []) ∷
    row 0xA0 "If" Statement places.If (Term ∷ []) (Some Terms) roles.Guard ∷
    row 0xA1 "Else" Statement places.Else [] (Some Terms) roles.Other ∷
    plain 0xA3 "Noop" Statement places.Statement [] ∷
    plain 0x86 "Notify" Statement places.Statement (Target ∷ Term ∷ []) ∷
    plain 0x5B27 "Release" Statement places.Statement (Target ∷ []) ∷
    plain 0x5B26 "Reset" Statement places.Statement (Target ∷ []) ∷
    plain 0xA4 "Return" Statement places.Return (Term ∷ []) ∷
    plain 0x5B24 "Signal" Statement places.Statement (Target ∷ []) ∷
    plain 0x5B22 "Sleep" Statement places.Statement (Term ∷ []) ∷
    plain 0x5B21 "Stall" Statement places.Statement (Term ∷ []) ∷
    plain 0x5B2A "Unload" Statement places.Statement (Target ∷ []) ∷
    row 0xA2 "While" Statement places.Statement (Term ∷ []) (Some Terms) roles.Other ∷
    -- expression opcodes (20.2.5.4)
    plain 0x5B23 "Acquire" Expression places.Argument (Target ∷ Word ∷ []) ∷
    plain 0x72 "Add" Expression places.Argument (Term ∷ Term ∷ Target ∷ []) ∷
    plain 0x7B "And" Expression places.Argument (Term ∷ Term ∷ Target ∷ []) ∷
    plain 0x73 "Concatenate" Expression places.Argument (Term ∷ Term ∷ Target ∷ []) ∷
    plain 0x84 "ConcatenateResTemplate" Expression places.Argument (Term ∷ Term ∷ Target ∷ []) ∷
    plain 0x5B12 "CondRefOf" Expression places.Argument (Target ∷ Target ∷ []) ∷
    plain 0x9D "CopyObject" Expression places.Argument (Term ∷ Target ∷ []) ∷
    plain 0x76 "Decrement" Expression places.Argument (Target ∷ []) ∷
    plain 0x83 "DerefOf" Expression places.Target (Term ∷ []) ∷
    plain 0x78 "Divide" Expression places.Argument (Term ∷ Term ∷ Target ∷ Target ∷ []) ∷
    plain 0x81 "FindSetLeftBit" Expression places.Argument (Term ∷ Target ∷ []) ∷
    plain 0x82 "FindSetRightBit" Expression places.Argument (Term ∷ Target ∷ []) ∷
    plain 0x5B28 "FromBCD" Expression places.Argument (Term ∷ Target ∷ []) ∷
    plain 0x75 "Increment" Expression places.Argument (Target ∷ []) ∷
    plain 0x88 "Index" Expression places.Target (Term ∷ Term ∷ Target ∷ []) ∷
    plain 0x90 "LAnd" Expression places.Argument (Term ∷ Term ∷ []) ∷
    plain 0x93 "LEqual" Expression places.Argument (Term ∷ Term ∷ []) ∷
    plain 0x94 "LGreater" Expression places.Argument (Term ∷ Term ∷ []) ∷
    plain 0x95 "LLess" Expression places.Argument (Term ∷ Term ∷ []) ∷
    plain 0x9E "Mid" Expression places.Argument (Term ∷ Term ∷ Term ∷ Target ∷ []) ∷
    plain 0x92 "LNot" Expression places.Argument (Term ∷ []) ∷
    plain 0x5B20 "Load" Expression places.Argument (Name ∷ Target ∷ []) ∷
    plain 0x5B1F "LoadTable" Expression places.Argument (Term ∷ Term ∷ Term ∷ Term ∷ Term ∷ Term ∷ []) ∷
    plain 0x91 "LOr" Expression places.Argument (Term ∷ Term ∷ []) ∷
    plain 0x89 "Match" Expression places.Argument (Term ∷ Byte ∷ Term ∷ Byte ∷ Term ∷ Term ∷ []) ∷
    plain 0x85 "Mod" Expression places.Argument (Term ∷ Term ∷ Target ∷ []) ∷
    plain 0x77 "Multiply" Expression places.Argument (Term ∷ Term ∷ Target ∷ []) ∷
    plain 0x7C "NAnd" Expression places.Argument (Term ∷ Term ∷ Target ∷ []) ∷
    plain 0x7E "NOr" Expression places.Argument (Term ∷ Term ∷ Target ∷ []) ∷
    plain 0x80 "Not" Expression places.Argument (Term ∷ Target ∷ []) ∷
    plain 0x8E "ObjectType" Expression places.Argument (Target ∷ []) ∷
    plain 0x7D "Or" Expression places.Argument (Term ∷ Term ∷ Target ∷ []) ∷
    plain 0x71 "RefOf" Expression places.Target (Target ∷ []) ∷
    plain 0x79 "ShiftLeft" Expression places.Argument (Term ∷ Term ∷ Target ∷ []) ∷
    plain 0x7A "ShiftRight" Expression places.Argument (Term ∷ Term ∷ Target ∷ []) ∷
    plain 0x87 "SizeOf" Expression places.Argument (Target ∷ []) ∷
    plain 0x70 "Store" Expression places.Argument (Term ∷ Target ∷ []) ∷
    plain 0x74 "Subtract" Expression places.Argument (Term ∷ Term ∷ Target ∷ []) ∷
    plain 0x5B33 "Timer" Value places.Argument [] ∷
    plain 0x5B29 "ToBCD" Expression places.Argument (Term ∷ Target ∷ []) ∷
    plain 0x96 "ToBuffer" Expression places.Argument (Term ∷ Target ∷ []) ∷
    plain 0x97 "ToDecimalString" Expression places.Argument (Term ∷ Target ∷ []) ∷
    plain 0x98 "ToHexString" Expression places.Argument (Term ∷ Target ∷ []) ∷
    plain 0x99 "ToInteger" Expression places.Argument (Term ∷ Target ∷ []) ∷
    plain 0x9C "ToString" Expression places.Argument (Term ∷ Term ∷ Target ∷ []) ∷
    plain 0x5B25 "Wait" Expression places.Argument (Target ∷ Term ∷ []) ∷
    plain 0x7F "XOr" Expression places.Argument (Term ∷ Term ∷ Target ∷ []) ∷
    -- Args, Locals and Debug (20.2.6)
    plain 0x68 "Arg0" Value places.Target [] ∷
    plain 0x69 "Arg1" Value places.Target [] ∷
    plain 0x6A "Arg2" Value places.Target [] ∷
    plain 0x6B "Arg3" Value places.Target [] ∷
    plain 0x6C "Arg4" Value places.Target [] ∷
    plain 0x6D "Arg5" Value places.Target [] ∷
    plain 0x6E "Arg6" Value places.Target [] ∷
    plain 0x60 "Local0" Value places.Target [] ∷
    plain 0x61 "Local1" Value places.Target [] ∷
    plain 0x62 "Local2" Value places.Target [] ∷
    plain 0x63 "Local3" Value places.Target [] ∷
    plain 0x64 "Local4" Value places.Target [] ∷
    plain 0x65 "Local5" Value places.Target [] ∷
    plain 0x66 "Local6" Value places.Target [] ∷
    plain 0x67 "Local7" Value places.Target [] ∷
    plain 0x5B31 "Debug" Value places.Target [] ∷
    []

-- ---- What the table of opcodes says, and which opcodes a position takes (ACPI 6.5, 20.2.5 and 20.3).

-- the row of an opcode
unfoldable pub row_of : ℕ → Option Row
row_of opcode = find (λ r. r.opcode == opcode) rows

-- what a row of the code's table says
abbrev pub row_view : OpRow → Row
row_view r = record {
  opcode = r.opcode;
  mnemonic = r.mnemonic.now;
  group = r.group;
  place = r.place;
  parts = r.parts.now;
  tail = r.tail;
  role = r.role;
}

-- a row with a tail has a package length before its parts
abbrev pub has_length : Option TailKind → Bool
has_length tail = is_some tail

-- as a term of a table whose code may run, or of a body, right after an If or not
abbrev pub running : List Position
running = positions.RunTerm ∷ positions.RunAfterIf ∷ positions.BodyTerm ∷ positions.AfterIf ∷ []

-- the positions that take an opcode of a place
abbrev pub takers : Place → List Position
takers places.Data = positions.Data ∷ positions.Argument ∷ running
takers places.Target = positions.Target ∷ positions.Argument ∷ running
takers places.Argument = positions.Argument ∷ running
takers places.Statement = running
takers places.Return = positions.BodyTerm ∷ positions.AfterIf ∷ []
takers places.If = positions.ModuleTerm ∷ running
takers places.Else = positions.RunAfterIf ∷ positions.AfterIf ∷ []
takers places.Declaration = positions.ModuleTerm ∷ running
takers places.External = positions.ModuleTerm ∷ positions.GuardTerm ∷ running
takers places.Scope = positions.ModuleTerm ∷ positions.RunTerm ∷ positions.RunAfterIf ∷ []
takers places.Method = positions.ModuleTerm ∷ positions.RunTerm ∷ positions.RunAfterIf ∷ []

-- the same as a test: whether a position takes an opcode of a place
abbrev pub takes : Position → Place → Bool
takes positions.ModuleTerm places.If = true
takes positions.ModuleTerm places.Declaration = true
takes positions.ModuleTerm places.External = true
takes positions.ModuleTerm places.Scope = true
takes positions.ModuleTerm places.Method = true
takes positions.ModuleTerm _ = false
takes positions.GuardTerm places.External = true
takes positions.GuardTerm _ = false
takes positions.RunTerm places.Else = false
takes positions.RunTerm places.Return = false
takes positions.RunTerm _ = true
takes positions.RunAfterIf places.Return = false
takes positions.RunAfterIf _ = true
takes positions.BodyTerm places.Else = false
takes positions.BodyTerm places.Scope = false
takes positions.BodyTerm places.Method = false
takes positions.BodyTerm _ = true
takes positions.AfterIf places.Scope = false
takes positions.AfterIf places.Method = false
takes positions.AfterIf _ = true
takes positions.Argument places.Data = true
takes positions.Argument places.Target = true
takes positions.Argument places.Argument = true
takes positions.Target places.Target = true
takes positions.Data places.Data = true
takes _ _ = false
