-- Telling terms piece by piece as they are read.
use Rattle.std.specs.Prelude.{◌≡◌, ℕ, List, [], ◌∷◌, Bool, true, false, Option, None, Some, Result, Ok, Err, map}
use Rattle.aml_names.specs.declared.faults.CodeFault.{CodeFault}
use Rattle.aml_names.specs.declared.names.Name.{Name}
use Rattle.aml_names.specs.declared.segments.Seg.{Seg}
use Rattle.aml_names.specs.NameReading.{name_at}
use Rattle.aml_names.specs.Paths.{PathSet}
use Rattle.aml_code.specs.declared.rows.PartKind.{PartKind}
use Rattle.aml_code.specs.declared.rows.Position.{Position}
use Rattle.aml_code.specs.Faults.{Arities}
use Rattle.aml_code.specs.Lawful.{last_label, plain_name, field_names}
use Rattle.aml_code.specs.Pieces.{Told, next, part, pieces, part_pieces}
use Rattle.aml_code.specs.Tree.{Tree, Tail, Part, part_more, no_parts}
use Rattle.aml_parse.specs.Reading.{Reader, read_at, part_at}
use Rattle.aml_parse.specs.declared.parser.Parser.{Parser}
use denote.Ref.{Bor}

-- a term with at most so many levels, as a parser reads it
abbrev pub read_by : {N : Type 0} → (N → Arities) → (N → Option (List Seg)) → Parser N → ℕ → Position → Reader Tree
read_by arity scope p levels = read_at (arity p.names.now) (scope p.names.now) levels

-- There is the one thing that reading gives, of which this is so, and the sink was told its pieces.
abbrev pub Tells : {S A : Type 0} → (S → S → List Told → Type 0) → (A → List Told) → (A → Type 0) → S → S → PathSet
    → List ℕ → Result (A × PathSet × List ℕ) CodeFault → Type 0
Tells {A = A} grew told Is old new ls rest read =
    (x : A) × ((read ≡ Ok (x, ls, rest)) × (Is x × grew old new (told x)))

-- the same of what goes to the end of a span
abbrev pub TellsAll : {S A : Type 0} → (S → S → List Told → Type 0) → (A → List Told) → (A → Type 0) → S → S → PathSet
    → Result (A × PathSet) CodeFault → Type 0
TellsAll {A = A} grew told Is old new ls read = (x : A) × ((read ≡ Ok (x, ls)) × (Is x × grew old new (told x)))

-- what stands before an argument, a part or an element: nothing before the first
abbrev pub separator : Bool → List Told
separator true = []
separator false = next ∷ []

-- these are the named units of a tail
abbrev pub AreUnits : List Seg → Tail → Type 0
AreUnits units t = map plain_name units ≡ field_names t

-- the name that begins there, if one does
abbrev pub name_read : Result (Name × List ℕ) CodeFault → Option Name
name_read (Ok n) = Some n.0
name_read (Err e) = None

abbrev pub label_at : ℕ → Option (Bor (List ℕ)) → Option Name
label_at end None = None
label_at end (Some bytes) = name_read (name_at end bytes.now)

-- of a part that holds no terms: there is the one that reading gives, and the sink was told it
abbrev pub TellsPart : {S : Type 0} → (S → S → List Told → Type 0) → (Part → Type 0) → S → S → List ℕ
    → Result (Part × List ℕ) CodeFault → Type 0
TellsPart grew Is old new rest read = (p : Part) × ((read ≡ Ok (p, rest)) × (Is p × grew old new (part p ∷ [])))

-- it is one piece
abbrev pub IsOne : Part → Type 0
IsOne p = (level : ℕ) → part_pieces level p ≡ part p ∷ []

-- and no name
abbrev pub IsPlain : Part → Type 0
IsPlain p = IsOne p × ((found : Option Name) → found ≡ last_label found (part_more p no_parts))

-- or the name that begins there
abbrev pub IsLabel : ℕ → List ℕ → Part → Type 0
IsLabel end bytes p =
    IsOne p × ((found : Option Name) → name_read (name_at end bytes) ≡ last_label found (part_more p no_parts))

-- the kinds of parts that hold no terms
abbrev pub is_flat : PartKind → Bool
is_flat PartKind.Term = false
is_flat PartKind.Target = false
is_flat PartKind.Data = false
is_flat _ = true

-- a part of such a kind was told by its bytes alone: whoever reads it reads it so, and it declares nothing. The names are
-- the last one before it and behind it.
abbrev pub TellsFlat : {S : Type 0} → (S → S → List Told → Type 0) → PartKind → ℕ → Option Name → Option Name → S → S → List ℕ
    → List ℕ → Type 0
TellsFlat grew kind end before after old new bytes rest =
    (read : Position → Reader Tree) (level : ℕ) (ls : PathSet)
    → Tells grew (part_pieces level) (λ p. after ≡ last_label before (part_more p no_parts)) old new ls rest
    (part_at read kind end ls bytes)

-- a term was told by its bytes alone: whoever reads it with so many levels reads it so, and it declares nothing
abbrev pub TellsShort : {S : Type 0} → (S → S → List Told → Type 0) → Position → ℕ → ℕ → ℕ → S → S → List ℕ → List ℕ → Type 0
TellsShort grew p levels level end old new bytes rest =
    (arity : Arities) (scope : Option (List Seg)) (ls : PathSet)
    → Tells grew (pieces level) (λ t. Unit {0}) old new ls rest (read_at arity scope levels p end ls bytes)
