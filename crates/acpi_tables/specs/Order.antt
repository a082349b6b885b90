-- The order in which the definition blocks of a set of dumps are loaded.
use Rattle.std.specs.Prelude.{◌≡◌, ℕ, ◌<◌, ◌≤◌, ◌⊎◌, ◌&&◌, ⊤, not, Bool, List, [], ◌∷◌, ◌++◌, codes}
use Rattle.std.specs.Prelude.{length, take, map, reverse, filter, filter_map, find, position, take_while}
use Rattle.std.specs.Prelude.{slice_index_or, nat_eq, nat_le, IsPermutation, IsSorted, string_bytes, if◌then◌else◌}
use Rattle.std.specs.Prelude.{Option, Some, None, is_some, option_and_then, Result, Ok, Err, MatchBool}
use Rattle.std.specs.Bool.{then_some}
use Rattle.std.specs.Option.{ok_or, option_eq}
use Rattle.std.specs.Char.{is_ascii_digit}
use Rattle.std.specs.Str.Parse.{digits_value}
use Rattle.std.specs.List.{before_last, fold, list_any, range_with_len}
use Rattle.std.specs.declared.cmp.Ordering.{Ordering}
use Rattle.std.specs.Ordering.{then_cmp, on, nat_cmp}
use Rattle.std.specs.Cmp.Lexicographic.{slice_cmp}
use Rattle.acpi_tables.specs.Bytes.{begins_with, number_at}
use Rattle.acpi_tables.specs.Header.{HoldsTable, table_of, revision_of, addresses_of}
use Rattle.acpi_tables.specs.Dumps.{HoldsDump, RefusesDump, most_bytes}
use Rattle.acpi_tables.specs.declared.dump.Dump.{Dump}
use Rattle.acpi_tables.specs.declared.faults.Bad.{Bad}
use Rattle.acpi_tables.specs.declared.faults.Bad.TheVariants.{TooManyTables, RootMissing, FadtMissing, NoDsdt, TwoDsdts}
use Rattle.acpi_tables.specs.declared.faults.TableFault.{TableFault}

-- the bytes of the dump at an index
unfoldable pub bytes_of : List Dump → ℕ → List ℕ
bytes_of dumps index = slice_index_or (map (λ dump. dump.bytes.items) dumps) index []

-- the name of the dump at an index, as bytes
unfoldable pub name_of : List Dump → ℕ → List ℕ
name_of dumps index = slice_index_or (map (λ dump. string_bytes dump.name) dumps) index []

-- whether the dump at an index has a signature
abbrev pub has_signature : List Dump → List ℕ → ℕ → Bool
has_signature dumps signature index = begins_with (bytes_of dumps index) signature

-- Where no dump has an address, the names decide.

-- The stem of a file's name: what stands before its last dot, or the whole name if there is none or it stands first.
abbrev pub stem_of : List ℕ → List ℕ
stem_of name = let stem = before_last (λ c. nat_eq c 46) name in if nat_eq (length stem) 0 then name else stem

-- the number that ends the stem of a file's name, of whose digits the last nine count; 0 where none ends it
abbrev pub ending_number : List ℕ → ℕ
ending_number name = digits_value 10 (reverse (take 9 (take_while is_ascii_digit (reverse (stem_of name)))))

-- dumps by the number that ends the stem, then by their names as bytes, then by their indexes
abbrev pub rank_cmp : List Dump → ℕ → ℕ → Ordering
rank_cmp dumps = then_cmp (on (λ index. ending_number (name_of dumps index)) nat_cmp)
    (then_cmp (on (name_of dumps) (slice_cmp nat_cmp)) nat_cmp)

-- The DSDT is the only one, and the SSDTs are all of them, each once, sorted.
pub record IsNamed (dumps : List Dump) (dsdt : ℕ) (ssdts : List ℕ) : Type 0 where
  pub only : filter (has_signature dumps (codes "DSDT")) (range_with_len 0 (length dumps)) ≡ dsdt ∷ []
  pub all : IsPermutation (filter (has_signature dumps (codes "SSDT")) (range_with_len 0 (length dumps))) ssdts
  pub sorted : IsSorted (rank_cmp dumps) ssdts

-- Where a dump has an address, the chain from the RSDP decides (sections 5.2.5, 5.2.7, 5.2.8 and 5.2.9).

-- whether a dump has an address
abbrev pub is_addressed : List Dump → Bool
is_addressed dumps = list_any (λ dump. is_some dump.address) dumps

-- the first dump at an address
abbrev pub dump_at : List Dump → ℕ → Option ℕ
dump_at dumps address = position (λ dump. option_eq nat_eq dump.address (Some address)) dumps

-- the first dump at an address, if it has this signature; no later dump at that address is tried
abbrev pub signed_at : List Dump → List ℕ → ℕ → Option ℕ
signed_at dumps signature address =
    option_and_then (λ index. then_some (has_signature dumps signature index) index) (dump_at dumps address)

-- the list of the tables that an RSDP leads to (section 5.2.5.3): from revision 2 on the XSDT, where its address isn't
-- 0, else the RSDT
abbrev pub list_of : List Dump → List ℕ → Option ℕ
list_of dumps rsdp = if nat_le 2 (revision_of rsdp) && not (nat_eq (number_at rsdp 24 8) 0)
    then signed_at dumps (codes "XSDT") (number_at rsdp 24 8) else signed_at dumps (codes "RSDT") (number_at rsdp 16 4)

-- one number more, unless it is there already
abbrev pub with_more : List ℕ → ℕ → List ℕ
with_more xs x = if list_any (λ y. nat_eq y x) xs then xs else xs ++ x ∷ []

-- The dumps that a list gives, in its order, each where it stands first. An address with no dump is skipped.
abbrev pub listed_by : List Dump → ℕ → List ℕ
listed_by dumps list = fold with_more [] (filter_map (dump_at dumps)
    (addresses_of (if has_signature dumps (codes "XSDT") list then 8 else 4) (table_of (bytes_of dumps list))))

-- the DSDT's address in a FADT: X_DSDT where the table has its 8 bytes, 148 in all, and it isn't 0, else DSDT
abbrev pub dsdt_address : List ℕ → ℕ
dsdt_address table = if nat_le 148 (length table) && not (nat_eq (number_at table 140 8) 0) then number_at table 140 8
    else number_at table 40 4

-- The first RSDP leads to a list, the first FADT of this list gives the address of the DSDT, and the SSDTs are those of
-- the list, in its order: one that it doesn't list isn't loaded.
pub record IsChained (dumps : List Dump) (dsdt : ℕ) (ssdts : List ℕ) : Type 0 where
  pub root : ℕ
  pub list : ℕ
  pub fadt : ℕ
  pub first : find (has_signature dumps (codes "RSD PTR ")) (range_with_len 0 (length dumps)) ≡ Some root
  pub leads : list_of dumps (bytes_of dumps root) ≡ Some list
  pub names : find (has_signature dumps (codes "FACP")) (listed_by dumps list) ≡ Some fadt
  pub gives : signed_at dumps (codes "DSDT") (dsdt_address (table_of (bytes_of dumps fadt))) ≡ Some dsdt
  pub all : filter (has_signature dumps (codes "SSDT")) (listed_by dumps list) ≡ ssdts

-- The order of the definition blocks, of dumps that are each taken by itself. At most one order holds, and none where
-- `load_order` refuses, but for want of memory (its clauses `only` and `none`, proved). The definition blocks are the
-- DSDT and the SSDTs alone: a PSDT (5.2.11.3) is a table like any other.
pub record IsOrder (dumps : List Dump) (any_sum : Bool) (dsdt : ℕ) (ssdts : List ℕ) : Type 0 where
  pub few : length dumps ≤ 512
  pub each : (index : ℕ) → index < length dumps → HoldsDump any_sum (bytes_of dumps index)
  pub blocks : MatchBool (is_addressed dumps) (IsChained dumps dsdt ssdts) (IsNamed dumps dsdt ssdts)

-- ---- Parts of these, as the code asks them.

-- the indexes of the dumps that have a signature
abbrev pub indexes_with : List Dump → List ℕ → List ℕ
indexes_with dumps signature = filter (has_signature dumps signature) (range_with_len 0 (length dumps))

-- each dump is taken by itself
abbrev pub AreTaken : List Dump → Bool → Type 0
AreTaken dumps any_sum = (index : ℕ) → index < length dumps → HoldsDump any_sum (bytes_of dumps index)

-- Each of the dumps at these indexes is a table with its header, of no more bytes than a dump may have.
abbrev pub AreTables : List Dump → List ℕ → Type 0
AreTables dumps [] = ⊤
AreTables dumps (index ∷ indexes) =
    HoldsTable (bytes_of dumps index) × (length (bytes_of dumps index) ≤ most_bytes) × AreTables dumps indexes

-- ---- Why dumps are refused.

-- the greatest number of dumps
abbrev pub most_dumps : ℕ
most_dumps = 512

-- for `do`: what follows an Ok
infixl 10 ◌>>=◌
abbrev pub ◌>>=◌ : {A B E : Type 0} → Result A E → (A → Result B E) → Result B E
(Ok x) >>= f = f x
(Err e) >>= f = Err e

-- a fault of the set, and one of the dump at an index
abbrev pub of_set : Bad → TableFault
of_set bad = record { dump = None; bad = bad }

abbrev pub of_dump : ℕ → Bad → TableFault
of_dump index bad = record { dump = Some index; bad = bad }

-- What the chain gives as `IsChained` says it, or the fault that a part of it isn't there.
abbrev pub chain_of : List Dump → Result (ℕ × List ℕ) TableFault
chain_of dumps = do
  root ← ok_or (find (has_signature dumps (codes "RSD PTR ")) (range_with_len 0 (length dumps))) (of_set RootMissing)
  list ← ok_or (list_of dumps (bytes_of dumps root)) (of_dump root RootMissing)
  fadt ← ok_or (find (has_signature dumps (codes "FACP")) (listed_by dumps list)) (of_dump list FadtMissing)
  dsdt ← ok_or (signed_at dumps (codes "DSDT") (dsdt_address (table_of (bytes_of dumps fadt)))) (of_set NoDsdt)
  Ok (dsdt, filter (has_signature dumps (codes "SSDT")) (listed_by dumps list))

-- The only DSDT, or the fault that there is none or a second one.
abbrev pub only_dsdt : List ℕ → Result ℕ TableFault
only_dsdt [] = Err (of_set NoDsdt)
only_dsdt (dsdt ∷ []) = Ok dsdt
only_dsdt (_ ∷ second ∷ _) = Err (of_dump second TwoDsdts)

-- Why there is no order of dumps that are all taken.
abbrev pub RefusesOrder : List Dump → TableFault → Type 0
RefusesOrder dumps fault = MatchBool (is_addressed dumps)
    (chain_of dumps ≡ Err fault) (only_dsdt (indexes_with dumps (codes "DSDT")) ≡ Err fault)

-- It names the first dump that isn't taken, and says why.
pub record RefusesBytes (dumps : List Dump) (any_sum : Bool) (fault : TableFault) : Type 0 where
  pub index : ℕ
  pub named : fault.dump ≡ Some index
  pub inside : index < length dumps
  pub refused : RefusesDump any_sum (bytes_of dumps index) fault.bad
  pub earlier : (before : ℕ) → before < index → HoldsDump any_sum (bytes_of dumps before)

-- What a refusal says, the first that is met: there are too many dumps, or one isn't taken, or they have no order.
abbrev pub Refuses : List Dump → Bool → TableFault → Type 0
Refuses dumps any_sum fault =
    ((fault ≡ of_set TooManyTables) × (most_dumps < length dumps))
    ⊎ ((length dumps ≤ most_dumps)
    × (RefusesBytes dumps any_sum fault ⊎ (AreTaken dumps any_sum × RefusesOrder dumps fault)))
