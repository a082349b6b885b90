-- The records of a MADT. A walk over whole records takes them one by one. Where it meets none more they have ended: at
-- the table's end, or where a broken one begins. So a table that is read has no fault.
use Rattle.acpi_tables.proofs.Common.{◌≡◌, ℕ, zero, suc, ◌+◌, ◌-◌, ◌<◌, ◌≤◌, Bool, true, false, cond, List, [], ◌∷◌}
use Rattle.acpi_tables.proofs.Common.{◌++◌, length, map, refl, sym, ap, ◌∙◌, arith, append_assoc, length-append}
use Rattle.acpi_tables.proofs.Common.{append-nil, nat_tests, map-append, concat, number_at, little_endian, take, drop}
use Rattle.acpi_tables.proofs.Common.{length-drop}
use Rattle.std.proofs.Math.ListN.{drop_of_length-le}
use Rattle.std.proofs.lemmas.List.{drop-drop, drop_at, take_at, take-append-drop}
use Rattle.std.proofs.lemmas.List.Folds.{concat-append}
use Rattle.std.specs.List.{AllByRecursion}
use Rattle.acpi_tables.specs.Madt.{HoldsRecord, HoldsMadt, BreaksAt, is_whole, record_bytes_at, record_end}
use Rattle.acpi_tables.specs.Madt.{records_from, records_of, meaning_of, said, RefusesMadt}
use Rattle.acpi_tables.specs.declared.madt.MadtRecord.{MadtRecord}
use Rattle.acpi_tables.specs.declared.faults.Bad.{Bad}
use Rattle.acpi_tables.specs.declared.faults.Bad.TheVariants.{Short, MadtRecord as BadRecord}
use Rattle.acpi_tables.proofs.Numbers.{length-bytes_at}

-- a record: its second byte says how many bytes it has, at least two
abbrev pub IsRecord : List ℕ → Type 0
IsRecord bytes = (2 ≤ length bytes) × (number_at bytes 1 1 ≡ length bytes)

-- whole records up to an offset, and what the records are: these, and those from there on
pub record WalksTo (table : List ℕ) (at : ℕ) : Type 0 where
  pub behind_fields : 44 ≤ at
  pub within : at ≤ length table
  pub records : List (List ℕ)
  pub long : 44 + length (concat records) ≡ at
  pub cut : concat records ++ drop at table ≡ drop 44 table
  pub each : AllByRecursion IsRecord records
  pub left : ℕ
  pub enough : length table ≤ at + left
  pub split : records_of table ≡ records ++ records_from left table at

abbrev pub walk_start : (table : List ℕ) → 44 ≤ length table → WalksTo table 44
walk_start table h = record {
  behind_fields = omega arith;
  within = h;
  records = [];
  long = refl;
  cut = refl;
  each = tt;
  left = length table;
  enough = omega arith;
  split = refl;
}

-- ---- what the test says

pub whole_test : (table : List ℕ) (at : ℕ) → HoldsRecord table at → is_whole table at ≡ true
whole_test table at h =
    let covers = h.covers in
    let inside = h.inside in
    grind (arith, nat_tests)

test_whole : (table : List ℕ) (at : ℕ) → 44 ≤ at → is_whole table at ≡ true → HoldsRecord table at
test_whole table at behind is = record { behind_fields = behind; covers = grind (arith, nat_tests); inside = grind (arith, nat_tests) }

broken_test : (table : List ℕ) (at : ℕ) (b : Bool) → 44 ≤ at → ¬ HoldsRecord table at → is_whole table at ≡ b
    → b ≡ false
broken_test table at true behind broken is = absurd (broken (test_whole table at behind is))
broken_test table at false behind broken is = refl

-- ---- a step

pub longer : (table : List ℕ) (at : ℕ) (records : List (List ℕ)) → HoldsRecord table at
    → 44 + length (concat records) ≡ at
    → 44 + length (concat (records ++ record_bytes_at table at ∷ [])) ≡ record_end table at
longer table at records h long =
    let one = record_bytes_at table at in
    let joined = concat-append records (one ∷ []) ∙ ap (λ bytes. concat records ++ bytes) (append-nil one) in
    omega (arith, long, ap length joined, length-append (concat records) one, length-bytes_at table at (number_at table (at + 1) 1) h.inside)

-- the second byte, in as many bytes at least
second : (n : ℕ) (bytes : List ℕ) → 2 ≤ n → 2 ≤ length bytes → take 1 (drop 1 (take n bytes)) ≡ take 1 (drop 1 bytes)
second (suc (suc n)) (kind ∷ long ∷ bytes) many some = refl
second _ _ many some = absurd (omega arith)

pub record_there : (table : List ℕ) (at : ℕ) → HoldsRecord table at → IsRecord (record_bytes_at table at)
unfolding number_at
record_there table at h =
    let n = number_at table (at + 1) 1 in
    let long : length (record_bytes_at table at) ≡ n = length-bytes_at table at n h.inside in
    let some : 2 ≤ length (drop at table) = omega (arith, length-drop at table, h.covers, h.inside) in
    let same = ap little_endian (second n (drop at table) h.covers some ∙ ap (take 1) (drop-drop 1 at table)) in
    (omega (arith, long, h.covers), same ∙ sym long)

pub record_more : (records : List (List ℕ)) (one : List ℕ) → AllByRecursion IsRecord records → IsRecord one
    → AllByRecursion IsRecord (records ++ one ∷ [])
record_more [] one each is = (is, tt)
record_more (first ∷ records) one each is = (each.0, record_more records one each.1 is)

pub cut_more : (table : List ℕ) (at : ℕ) (records : List (List ℕ)) → concat records ++ drop at table ≡ drop 44 table
    → concat (records ++ record_bytes_at table at ∷ []) ++ drop (record_end table at) table ≡ drop 44 table
cut_more table at records cut =
    let n = number_at table (at + 1) 1 in
    let one = record_bytes_at table at in
    let joined = concat-append records (one ∷ []) ∙ ap (λ bytes. concat records ++ bytes) (append-nil one) in
    let rest = ap (λ bytes. one ++ bytes) (sym (drop-drop n at table)) ∙ take-append-drop n (drop at table) in
    ap (λ bytes. bytes ++ drop (record_end table at) table) joined
    ∙ append_assoc (concat records) one (drop (record_end table at) table)
    ∙ ap (λ bytes. concat records ++ bytes) rest ∙ cut

pub next_split : (table : List ℕ) (at : ℕ) (records : List (List ℕ)) (left fewer : ℕ) → left ≡ suc fewer
    → is_whole table at ≡ true
    → records_of table ≡ records ++ records_from left table at
    → records_of table ≡ (records ++ record_bytes_at table at ∷ []) ++ records_from fewer table (record_end table at)
unfolding records_from
next_split table at records left fewer one whole split =
    let rest = record_bytes_at table at ∷ records_from fewer table (record_end table at) in
    split
    ∙ ap (λ n. records ++ records_from n table at) one
    ∙ ap (λ b. records ++ cond b rest []) whole
    ∙ sym (append_assoc records (record_bytes_at table at ∷ []) (records_from fewer table (record_end table at)))

-- the walk goes on over a whole record
abbrev pub walk_more : (table : List ℕ) (at : ℕ) → WalksTo table at → HoldsRecord table at
    → WalksTo table (record_end table at)
walk_more table at walk h = record {
  behind_fields = omega (arith, walk.behind_fields);
  within = h.inside;
  records = walk.records ++ record_bytes_at table at ∷ [];
  long = longer table at walk.records h walk.long;
  cut = cut_more table at walk.records walk.cut;
  each = record_more walk.records (record_bytes_at table at) walk.each (record_there table at h);
  left = walk.left - 1;
  enough = omega (arith, walk.enough, h.covers);
  split = next_split table at walk.records walk.left (walk.left - 1) (omega (arith, walk.enough, h.covers, h.inside)) (whole_test table at h) walk.split;
}

-- ---- where it ends

none_from : (n : ℕ) (table : List ℕ) (at : ℕ) → is_whole table at ≡ false → records_from n table at ≡ []
unfolding records_from
none_from zero table at e = refl
none_from (suc n) table at e = ap (λ b. cond b (record_bytes_at table at ∷ records_from n table (record_end table at)) []) e

module _ (table : List ℕ) (at : ℕ) (walk : WalksTo table at) where
  records_of-ended : ¬ HoldsRecord table at → records_of table ≡ walk.records
  records_of-ended broken =
      walk.split
      ∙ ap (λ more. walk.records ++ more) (none_from walk.left table at (broken_test table at (is_whole table at) walk.behind_fields broken refl))
      ∙ append-nil walk.records

  records_end-ended : ¬ HoldsRecord table at → 44 + length (concat (records_of table)) ≡ at
  records_end-ended broken = ap (λ records. 44 + length (concat records)) (records_of-ended broken) ∙ walk.long

  pub BreaksAt-walk : at < length table → ¬ HoldsRecord table at → BreaksAt table at
  BreaksAt-walk inside broken = record { before = records_end-ended broken; inside = inside; broken = broken }

  -- to the table's end
  module _ (past : length table ≤ at) where
    none_past : ¬ HoldsRecord table at
    none_past h = absurd (omega (arith, h.covers, h.inside, past))

    pub records_of-walk : records_of table ≡ walk.records
    records_of-walk = records_of-ended none_past

    pub HoldsMadt-walk : HoldsMadt table
    HoldsMadt-walk = record {
      header = omega (arith, walk.behind_fields, walk.within);
      records = walk.records;
      cut = sym (append-nil (concat walk.records)) ∙ ap (λ bytes. concat walk.records ++ bytes) (sym (drop_of_length-le table past)) ∙ walk.cut;
      each = walk.each;
    }

-- ---- from the records of a table that is taken to those of the walk

records_again : (rs : List (List ℕ)) (n : ℕ) (table : List ℕ) (at : ℕ) → 44 ≤ at → AllByRecursion IsRecord rs
    → drop at table ≡ concat rs
    → length (concat rs) ≤ n
    → records_from n table at ≡ rs
unfolding records_from number_at
records_again [] n table at behind each cut enough =
    let past : length table ≤ at = omega (arith, ap length cut, length-drop at table) in
    let none : ¬ HoldsRecord table at = λ h. absurd (omega (arith, h.covers, h.inside, past)) in
    none_from n table at (broken_test table at (is_whole table at) behind none refl)
records_again (r ∷ rs) zero table at behind each cut enough = absurd (omega (arith, each.0.0, length-append r (concat rs)))
records_again (r ∷ rs) (suc n) table at behind each cut enough =
    let many = length-append r (concat rs) in
    let front = sym (second (length r) (r ++ concat rs) each.0.0 (omega (arith, each.0.0, many)))
    ∙ ap (λ bytes. take 1 (drop 1 bytes)) (take_at r (concat rs) (length r) refl) in
    let long : number_at table (at + 1) 1 ≡ length r =
    ap (λ bytes. little_endian (take 1 bytes)) (sym (drop-drop 1 at table) ∙ ap (drop 1) cut) ∙ ap little_endian front ∙ each.0.1 in
    let room : record_end table at ≤ length table = omega (arith, ap length cut, length-drop at table, many, long, each.0.0) in
    let whole = whole_test table at (record { behind_fields = behind; covers = omega (arith, long, each.0.0); inside = room }) in
    let bytes : record_bytes_at table at ≡ r =
    ap (λ k. take k (drop at table)) long ∙ ap (take (length r)) cut ∙ take_at r (concat rs) (length r) refl in
    let next : drop (record_end table at) table ≡ concat rs =
    ap (λ k. drop (at + k) table) long ∙ sym (drop-drop (length r) at table) ∙ ap (drop (length r)) cut
    ∙ drop_at r (concat rs) (length r) refl in
    let rest = records_again rs n table (record_end table at) (omega (arith, behind)) each.1 next (omega (arith, enough, many, each.0.0)) in
    ap (λ b. cond b (record_bytes_at table at ∷ records_from n table (record_end table at)) []) whole
    ∙ ap (λ one. one ∷ records_from n table (record_end table at)) bytes ∙ ap (λ more. r ∷ more) rest

pub records_are : (table : List ℕ) (holds : HoldsMadt table) → records_of table ≡ holds.records
records_are table holds =
    records_again holds.records (length table) table 44 (omega arith) holds.each (sym holds.cut)
    (omega (arith, ap length holds.cut, length-drop 44 table))

-- where the records end with the table none is broken
pub whole_not_broken : (table : List ℕ) (at : ℕ) → HoldsMadt table → ¬ BreaksAt table at
whole_not_broken table at holds breaks =
    let all = ap (λ records. length (concat records)) (records_are table holds) ∙ ap length holds.cut in
    absurd (omega (arith, all, length-drop 44 table, holds.header, breaks.before, breaks.inside))

-- a table that is read has no fault for which it is refused
pub whole_not_refused : (table : List ℕ) → HoldsMadt table → (bad : Bad) → ¬ RefusesMadt table bad
whole_not_refused table holds Short short = absurd (omega (arith, holds.header))
whole_not_refused table holds (BadRecord at) breaks = whole_not_broken table at holds breaks
whole_not_refused table holds _ h = h

-- the walk with what was read of its records, seen by a function
pub record ReadsTo {C : Type 0} (see : C → List ℕ) (table : List ℕ) (at : ℕ) (read : List (MadtRecord C)) : Type 0 where
  pub walk : WalksTo table at
  pub same : map (said see) read ≡ map meaning_of walk.records

module _ {C : Type 0} (see : C → List ℕ) (table : List ℕ) where
  pub read_start : 44 ≤ length table → ReadsTo see table 44 []
  read_start h = record { walk = walk_start table h; same = refl }

  pub read_more : (at : ℕ) (read : List (MadtRecord C)) (one : MadtRecord C) → ReadsTo see table at read
      → HoldsRecord table at
      → said see one ≡ meaning_of (record_bytes_at table at)
      → ReadsTo see table (record_end table at) (read ++ one ∷ [])
  read_more at read one reads holds e = record { walk = walk_more table at reads.walk holds; same = simp map-append (cc (reads.same, e)) }

  pub read_whole : (at : ℕ) (read : List (MadtRecord C)) → ReadsTo see table at read → length table ≤ at
      → map (said see) read ≡ map meaning_of (records_of table)
  read_whole at read reads h = reads.same ∙ ap (map meaning_of) (sym (records_of-walk table at reads.walk h))
