-- A run prints the text of the one listing that the dumps mean: what is kept of the bodies prints as the bodies of
-- whatever they mean do (`texts_output`), and with `--check` says the same of them (`trials_output`); so the writer has
-- the whole text, or its first bytes. Two listings in memory of the same dumps print the same (`one_output`).
use Rattle.acpidis.proofs.Common.{◌≡◌, ℕ, Bool, true, false, cond, List, ◌∷◌, ◌++◌, map, get_or, Result, sym, ap, ◌∙◌}
use Rattle.acpidis.proofs.Common.{methods_of, codes_view, table_codes, table_dumps, body_in_set, methods_in}
use Rattle.acpidis.proofs.Common.{methods_of_set, TableSet, Method, CodeFault, Trees, Dump, BodyText, OneBody, OneBlock}
use Rattle.acpidis.proofs.Common.{levels_of, blocks_of, blocks_in, body_lines, names_in, whole_text, listing_text}
use Rattle.acpidis.proofs.Common.{IsText, body_view, printed_lines, indexes_in, has_raw, Reading, entry_of, AreReadings}
use Rattle.acpidis.proofs.Common.{marks_of, checks_with, check_lines, all_same, IsKept, AreKeptOf, IsSame, has_fault}
use Rattle.acpidis.proofs.Common.{tried_marks, Meaning, Means, Shows, order_of, codes_of, IsSetBy, Options, Tables}
use Rattle.acpidis.proofs.Common.{subst}
use Rattle.aml_code.specs.View.{nodes_view}
use Rattle.aml_namespace.specs.Known.{Known, StandsFor}
use Rattle.aml_namespace.proofs.Stands.{declarations_alone}
use Rattle.acpi_text.specs.Dumps.{dumps_text}
use Rattle.aml_text.specs.declared.listing.Listing.{Listing}
use Rattle.aml_text.specs.Rows.{namespace_text}
use Rattle.aml_text.proofs.SameBlocks.{same_blocks}
use Rattle.acpidis.specs.Endings.{IsOutput, output_of, status_with}
use Rattle.acpidis.proofs.BodyLaws.{texts_agree, trials_are, faults_are}
use Rattle.acpidis.proofs.MeaningLaws.{means_so, means_only}
use Rattle.acpidis.proofs.SameLaws.{all_are_same}
use Rattle.std.specs.FinMap as finite
use Rattle.acpidis.specs.Told.{HasTexts}
use Rattle.aml_text.proofs.ToldLaws.{levels_are, kept_is}
use Rattle.aml_text.specs.Told.{kept_text, levels_kept}

-- ---- what is printed of dumps, a namespace, definition blocks and methods, with bodies

abbrev printed : Bool → List Dump → Known → List OneBlock → List (List ℕ) → List Method → List OneBody → List ℕ
printed false dumps known blocks codes ms bs = whole_text dumps (finite.entries known.declarations) blocks (map body_lines bs)
printed true dumps known blocks codes ms bs = check_lines blocks (checks_with blocks (marks_of codes ms bs))

module _ (dumps : List Dump) (k : Meaning) (order : List ℕ) (codes : List (List ℕ)) (trees : List Trees) (known : Known) (ms : List Method)
    (named : order ≡ order_of k) (coded : codes ≡ codes_of dumps k) (read : trees ≡ k.trees) (stands : StandsFor known k.entries)
    (methods : ms ≡ methods_of k.entries) where
  -- the tables of a listing that they hold, and its methods, are those of that
  at_listing : {Y : Type 0} (F : List OneBlock → List (List ℕ) → List Method → Y)
      → F (blocks_of (names_in dumps order) codes trees) codes ms
      ≡ F (blocks_of (names_in dumps (order_of k)) (codes_of dumps k) k.trees) (codes_of dumps k) (methods_of k.entries)
  at_listing F = λ i. F (blocks_of (names_in dumps (named i)) (coded i) (read i)) (coded i) (methods i)

  -- with its bodies its output is printed
  printed_is : (check : Bool)
      → printed check dumps known (blocks_of (names_in dumps order) codes trees) codes ms k.bodies ≡ output_of check dumps k
  printed_is false =
      let rows = ap finite.entries (declarations_alone known k.entries stands) in
      λ i. listing_text dumps (named i) (rows i) (coded i) (read i) k.bodies
  printed_is true = at_listing (λ blocks codes ms. check_lines blocks (checks_with blocks (marks_of codes ms k.bodies)))

-- ---- Two listings in memory of the same dumps and options, of which one shows what the dumps mean and the other shows
-- whatever they mean, are the same one, whatever number of workers read their bodies, and so is what is printed of
-- them.

module _ (dumps : List Dump) (options : Options) (x y : Listing) (sound : (k : Meaning) × Means dumps options k × Shows x dumps k)
    (one : (k : Meaning) → Means dumps options k → Shows y dumps k) where
  pub one_listing : (k : Meaning) × Means dumps options k × Shows x dumps k × Shows y dumps k
  one_listing = (sound.0, sound.1, sound.2, one sound.0 sound.1)

  abbrev pub shown : Bool → Listing → List ℕ
  shown check l =
      printed check l.dumps.now l.loaded.space (blocks_in l) (codes_view l.loaded.tables.items) (methods_in l.loaded.space l.loaded.methods.items)
      (map body_view l.bodies.items)

  shown_is : (check : Bool) (l : Listing) → Shows l dumps sound.0 → shown check l ≡ output_of check dumps sound.0
  shown_is check l s =
      let trees = map (λ v. nodes_view v.items) l.loaded.trees.items in
      let order = indexes_in l.order in
      let codes = codes_view l.loaded.tables.items in
      let ms = methods_in l.loaded.space l.loaded.methods.items in
      (λ i. printed check (s.same_dumps i) l.loaded.space (blocks_of (names_in (s.same_dumps i) order) codes trees) codes ms (s.bodies i))
      ∙ printed_is dumps sound.0 order codes trees l.loaded.space ms s.order s.set.tables s.set.trees s.set.space
      s.set.methods check

  pub one_output : (check : Bool) → shown check x ≡ shown check y
  one_output check = shown_is check x sound.2 ∙ sym (shown_is check y (one sound.0 sound.1))

-- ---- the output of a set whose bodies were read

module _ (dumps : List Dump) (options : Options) (x : TableSet) (trees : List Trees) where
  abbrev blocks : List OneBlock
  blocks = blocks_of (names_in dumps (table_dumps x.tables.items)) (table_codes x.tables.items) trees

  abbrev printed_set : Bool → List OneBody → List ℕ
  printed_set check bs = printed check dumps x.space blocks (table_codes x.tables.items) (methods_of_set x) bs

  module _ (set : IsSetBy dumps options x trees) (bs : List Reading) (are : AreReadings options.unknown_zero x bs) where
    bodies_are : (k : Meaning) → Means dumps options k → map entry_of bs ≡ k.bodies
    bodies_are k means = means_only dumps options x trees bs are k means (set.one k means.set)

    output_so : (check : Bool) (status : ℕ) (text : List ℕ) → status ≡ cond (has_raw (map entry_of bs)) 3 0
        → text ≡ printed_set check (map entry_of bs) → IsOutput dumps options check status text
    output_so check status text s t =
        let meant = means_so dumps options x trees bs are set.sound in
        let of : (k : Meaning) → Means dumps options k → (status ≡ status_with k) × (text ≡ output_of check dumps k) = λ k means.
        let it = set.one k means.set in (
          s ∙ ap (λ b. cond (has_raw b) 3 0) (bodies_are k means),
          t ∙ ap (printed_set check) (bodies_are k means)
              ∙ printed_is dumps k (table_dumps x.tables.items) (table_codes x.tables.items) trees x.space (methods_of_set x) it.named
              it.holds.tables it.holds.trees it.holds.space it.holds.methods check,
        ) in
        let here = of meant.0 meant.1 in
        record {
          lists = record { listing = meant.0; means = meant.1; text_is = here.1; status_is = here.0 };
          one = λ other others l. let so = of l.listing l.means in (l.status_is ∙ sym so.0, l.text_is ∙ sym so.1);
        }

    -- no table differs
    same_so : all_same (checks_with blocks (marks_of (table_codes x.tables.items) (methods_of_set x) (map entry_of bs))) ≡ true
    same_so =
        let meant = means_so dumps options x trees bs are set.sound in
        let it = meant.2 in
        ap (λ bs. all_same (checks_with blocks (marks_of (table_codes x.tables.items) (methods_of_set x) bs))) meant.3
        ∙ at_listing dumps meant.0 (table_dumps x.tables.items) (table_codes x.tables.items) trees x.space (methods_of_set x) it.named
        it.holds.tables it.holds.trees it.holds.space it.holds.methods (λ blocks codes ms. all_same (checks_with blocks (marks_of codes ms meant.0.bodies)))
        ∙ all_are_same dumps options meant.0 meant.1

  -- ---- by what is kept of them: texts at the levels of the tables, or trials

  module _ (set : IsSetBy dumps options x trees) where
    pub texts_output : (levels : List ℕ) (found ds : List (Result BodyText CodeFault))
        → levels ≡ levels_of trees → ds ≡ found
        → AreKeptOf (λ n. IsKept (IsText (get_or levels n 0))) options.unknown_zero x found
        → IsOutput dumps options false (cond (has_fault ds) 3 0) (whole_text dumps (finite.entries x.space.declarations) blocks (map printed_lines ds))
    texts_output levels found ds there is was =
        let kept : AreKeptOf (λ n. IsKept (IsText (get_or (levels_of trees) n 0))) options.unknown_zero x ds = rw (is, ← there) was in
        let Gives : ℕ → Trees → BodyText → Type 0 = λ n. IsText (get_or (levels_of trees) n 0) in
        let front : List ℕ = dumps_text dumps ++ namespace_text (finite.entries x.space.declarations) in
        let same : whole_text dumps (finite.entries x.space.declarations) blocks (map body_lines (map entry_of kept.0))
        ≡ whole_text dumps (finite.entries x.space.declarations) blocks (map printed_lines ds) =
        ap (λ (l : List ℕ). front ++ l) (same_blocks (names_in dumps (table_dumps x.tables.items)) (table_codes x.tables.items) trees _ _
        (texts_agree (levels_of trees) kept.0 ds kept.2)) in
        output_so set kept.0 kept.1 false _ _ (ap (λ b. cond b 3 0) (faults_are Gives kept.0 ds kept.2)) (sym same)

    module _ (found ds : List (Result Bool CodeFault)) (is : ds ≡ found)
        (was : AreKeptOf (λ n. IsKept (IsSame (body_in_set x n))) options.unknown_zero x found) where
      kept : AreKeptOf (λ n. IsKept (IsSame (body_in_set x n))) options.unknown_zero x ds
      kept = rw is was

      marks_are : tried_marks x.methods.items ds ≡ marks_of (table_codes x.tables.items) (methods_of_set x) (map entry_of kept.0)
      marks_are = trials_are (table_codes x.tables.items) x.space x.methods.items kept.0 ds kept.2

      pub trials_output : IsOutput dumps options true (cond (has_fault ds) 3 0)
          (check_lines blocks (checks_with blocks (tried_marks x.methods.items ds)))
      trials_output =
          output_so set kept.0 kept.1 true _ _ (ap (λ b. cond b 3 0) (faults_are (λ n. IsSame (body_in_set x n)) kept.0 ds kept.2))
          (ap (λ marks. check_lines blocks (checks_with blocks marks)) marks_are)

      pub trials_same : all_same (checks_with blocks (tried_marks x.methods.items ds)) ≡ true
      trials_same = ap (λ marks. all_same (checks_with blocks marks)) marks_are ∙ same_so set kept.0 kept.1

-- ---- by what is kept of the tables too: texts, or their terms

module _ (t : Tables) (options : Options) (has : HasTexts t.dumps.now options t.set.now t.texts.now) where
  pub kept_output : (levels : List ℕ) (found ds : List (Result BodyText CodeFault))
      → levels ≡ levels_kept t.set.now.tables.items t.texts.now → ds ≡ found
      → AreKeptOf (λ n. IsKept (IsText (get_or levels n 0))) options.unknown_zero t.set.now found
      → IsOutput t.dumps.now options false (cond (has_fault ds) 3 0) (kept_text t (map printed_lines ds))
  kept_output levels found ds there is was =
      let ts = t.set.now.tables.items in
      let front : List ℕ = dumps_text t.dumps.now ++ namespace_text (finite.entries t.set.now.space.declarations) in
      let blocks = kept_is t.dumps.now ts t.texts.now has.0 (map printed_lines ds) has.1.1 in
      subst (IsOutput t.dumps.now options false (cond (has_fault ds) 3 0)) (sym (ap (λ (l : List ℕ). front ++ l) blocks))
      (texts_output t.dumps.now options t.set.now has.0 has.1.0 levels found ds (there ∙ levels_are ts t.texts.now has.0 has.1.1) is was)
