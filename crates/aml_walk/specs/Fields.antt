-- The units of a field list, and what they lie over (ACPI 6.5, 20.2.5.2: DefField, DefIndexField, DefBankField,
-- FieldList).
use Rattle.std.specs.Prelude.{ℕ, ◌+◌, List, [], ◌∷◌, ◌++◌, Option, Some, None, if◌then◌else◌, ◌==◌}
use Rattle.aml_names.specs.declared.names.Name.{Name}
use Rattle.aml_code.specs.Tree.{Tree, op, label, Parts, part_more, Tail, fields, Field, unit, reserved}
use Rattle.aml_code.specs.Tree.{Fields, no_fields, field_more}
use Rattle.aml_walk.specs.declared.fields.FieldUnit.{FieldUnit}

-- How many bits an element takes: a NamedField and a ReservedField as many as they say; AccessField,
-- ExtendedAccessField and ConnectField none.
abbrev pub bits_in : Field → ℕ
bits_in (unit s w n) = n
bits_in (reserved w n) = n
bits_in _ = 0

-- the unit that an element declares, from this bit on
abbrev pub unit_from : ℕ → Field → List FieldUnit
unit_from bit (unit s w n) = record { segment = s; bit = bit; bits = n } ∷ []
unit_from bit _ = []

-- the units of a list, of which the first element begins at this bit, each element behind the one before (19.6.48)
abbrev pub units_from : ℕ → Fields → List FieldUnit
units_from bit no_fields = []
units_from bit (field_more u us) = unit_from bit u ++ units_from (bit + bits_in u) us

abbrev pub units_in : Tail → List FieldUnit
units_in (fields us) = units_from 0 us
units_in _ = []

-- the units of a term: those of its field list, if it has one
abbrev pub units_of : Tree → List FieldUnit
units_of (op o w ps t) = units_in t
units_of _ = []

-- what a field list lies over: a Field over its region; an IndexField over its index register and its data register; a
-- BankField over its region, with its bank register
pub data Base : Type 0 where
  region : Name → Base
  index : Name → Name → Base
  bank : Name → Name → Base

-- the names that a term's parts begin with, by its opcode
abbrev pub base_of_two : ℕ → Name → Name → Option Base
base_of_two o n m = if o == 0x5B86 then Some (index n m) else if o == 0x5B87 then Some (bank n m) else None

abbrev pub base_of_one : ℕ → Name → Option Base
base_of_one o n = if o == 0x5B81 then Some (region n) else None

abbrev pub base_by : ℕ → Parts → Option Base
base_by o (part_more (label n) (part_more (label m) ps)) = base_of_two o n m
base_by o (part_more (label n) ps) = base_of_one o n
base_by o _ = None

abbrev pub base_of : Tree → Option Base
base_of (op o w ps t) = base_by o ps
base_of _ = None
