-- Counts and levels, bytes at an offset, and what a fault says of the byte at its offset.
use Rattle.std.specs.Prelude.{◌≡◌, ◌≢◌, ℕ, ◌+◌, ◌/◌, ◌%◌, ◌<◌, ◌≤◌, true, false, List, [], ◌++◌, length, Option, Some}
use Rattle.std.specs.Prelude.{None, slice_get, ◌⊎◌}
use Rattle.aml_names.specs.declared.faults.CodeFault.{CodeFault}
use Rattle.aml_names.specs.declared.faults.CodeFault.TheVariants as faults
use Rattle.aml_names.specs.declared.names.Name.{Name}
use Rattle.aml_names.specs.Paths.{PathSet}
use Rattle.aml_names.specs.Names.{is_lead_char, is_name_lead, IsName, spelling}
use Rattle.aml_code.specs.declared.packages.PkgWidth.{PkgWidth}
use Rattle.aml_code.specs.Opcodes.{Row, row_of}
use Rattle.aml_code.specs.declared.rows.Place.{Place}
use Rattle.aml_code.specs.declared.rows.Place.TheVariants as places
use Rattle.aml_code.specs.Packages.{width_len, package_bytes, FitsWidth}
use Rattle.aml_code.specs.Tree.{opcode_bytes}

-- the text stands in the code at an offset
pub record StandsThere (code : List ℕ) (at : ℕ) (text : List ℕ) : Type 0 where
  pub before : List ℕ
  pub behind : List ℕ
  pub whole : code ≡ before ++ (text ++ behind)
  pub offset : at ≡ length before

-- a package length is spelled at an offset
pub record LengthThere (code : List ℕ) (at : ℕ) (w : PkgWidth) (v : ℕ) : Type 0 where
  pub fits : FitsWidth w v
  pub there : StandsThere code at (package_bytes w v)

-- the end of the code, or of a package whose length is spelled before an offset
abbrev pub IsEnd : List ℕ → ℕ → ℕ → Type 0
IsEnd code at end =
    (end ≡ length code) ⊎ ((p : ℕ) × (w : PkgWidth) × (v : ℕ) × LengthThere code p w v × (end ≡ p + v) × (p < at))

-- the byte at an offset passes a test
abbrev pub ByteThere : List ℕ → ℕ → (ℕ → Type 0) → Type 0
ByteThere code at Test = (b : ℕ) × (slice_get code at ≡ Some b) × Test b

-- a one-byte opcode, or 5B and a second byte
abbrev pub IsOpcode : ℕ → Type 0
IsOpcode o = ((o < 256) × (o ≢ 0x5B)) ⊎ ((0x5B00 ≤ o) × (o < 0x5C00))

-- an opcode stands at an offset
abbrev pub OpcodeThere : List ℕ → ℕ → (ℕ → Type 0) → Type 0
OpcodeThere code at Test = (o : ℕ) × IsOpcode o × StandsThere code at (opcode_bytes o) × Test o

-- a name stands at an offset
abbrev pub NameThere : List ℕ → ℕ → (Name → Type 0) → Type 0
NameThere code at Test = (n : Name) × IsName n × StandsThere code at (spelling n) × Test n

-- the opcode has a row, of this place
abbrev pub HasRow : (Place → Type 0) → ℕ → Type 0
HasRow Test o = (r : Row) × (row_of o ≡ Some r) × Test r.place

-- a lead byte with bytes after it, of which bit 5 or 4 is set
abbrev pub HasPkgBits : ℕ → Type 0
HasPkgBits b = (64 ≤ b) × (0 < b / 16 % 4)

-- a length that is smaller than its own bytes, or leads past the end of the code or of a package that begins before it
-- and ends behind it
abbrev pub IsPast : List ℕ → ℕ → Type 0
IsPast code at = (w : PkgWidth) × (v : ℕ) × LengthThere code at w v
    × ((v < width_len w) ⊎ ((end : ℕ) × IsEnd code at end × (at < end) × (end < at + v)))

-- the most levels of terms inside each other
abbrev pub most_levels : ℕ
most_levels = 512

-- how many arguments a name takes, by the paths declared so far
abbrev pub Arities : Type 0
Arities = PathSet → Name → Option ℕ

-- what a fault says of the code at its offset
abbrev pub StandsAt : Arities → List ℕ → CodeFault → Type 0
StandsAt arity code (faults.Truncated at) = IsEnd code at at
StandsAt arity code (faults.PkgBits at) = ByteThere code at HasPkgBits
StandsAt arity code (faults.PkgPast at) = IsPast code at
StandsAt arity code (faults.BadName at) = ByteThere code at (λ b. is_lead_char b ≡ false)
StandsAt arity code (faults.UnknownOp at) = OpcodeThere code at (λ o. row_of o ≡ None)
StandsAt arity code (faults.NotHere at) = OpcodeThere code at (HasRow (λ p. Unit {0}))
StandsAt arity code (faults.StrayElse at) = OpcodeThere code at (HasRow (λ p. p ≡ places.Else))
StandsAt arity code (faults.UnknownName at) = NameThere code at (λ n. (ls : PathSet) × (arity ls n ≡ None))
StandsAt arity code (faults.EmptyName at) = NameThere code at (λ n. n.segs ≡ [])
StandsAt arity code (faults.NestedMethod at) = OpcodeThere code at (HasRow (λ p. p ≡ places.Method))
StandsAt arity code (faults.NestedScope at) = OpcodeThere code at (HasRow (λ p. p ≡ places.Scope))
StandsAt arity code (faults.ModuleCode at) =
    ByteThere code at (λ b. is_name_lead b ≡ true) ⊎ OpcodeThere code at (HasRow (λ p. p ≢ places.External))
StandsAt arity code (faults.BadCount at) = ByteThere code at (λ b. 7 < b)
StandsAt arity code (faults.TooDeep at) = (most_levels ≤ at) × (at < length code)
StandsAt arity code faults.NoMemory = Unit {0}

-- what a fault in a package length alone says
abbrev pub IsLengthFault : List ℕ → CodeFault → Type 0
IsLengthFault bytes (faults.Truncated at) = at ≡ length bytes
IsLengthFault bytes (faults.PkgBits at) = ByteThere bytes at HasPkgBits
IsLengthFault bytes _ = ⊥
