-- Terms take as many bodies as stand in them.
use Rattle.std.proofs.Common.{◌≡◌, ℕ, zero, suc, ◌+◌, List, ◌++◌, length, drop, Option, refl, sym, ap, ◌∙◌}
use Rattle.std.proofs.lemmas.List.{length-append}
use Rattle.asl_text.specs.Texts.{BodyLines, levels_in, tail_levels, all_levels, left_all}
use Rattle.aml_names.specs.Paths.{PathSet}
use Rattle.aml_code.specs.declared.rows.Position.{Position}
use Rattle.aml_code.specs.declared.rows.TailKind.{TailKind}
use Rattle.aml_load.specs.Spans.{tree_spans, all_spans, tail_spans}
use Rattle.aml_code.specs.Pieces.{deeper}
use Rattle.aml_code.specs.Tree.{Tree, nothing, named, op, Trees, no_trees, tree_more, Tail, empty, terms, bytes}
use Rattle.aml_code.specs.Tree.{elements, fields, body}
use Rattle.aml_code.specs.Lawful.{after, Setting, IsLawful, AreTerms, IsTail, terms_in, next_position}
use Rattle.aml_load.proofs.NoSpans.{terms_tail, parts_none, all_none, elements_none, fields_tail_none}
use Rattle.aml_code.specs.declared.rows.Position.TheVariants as positions

mutual
  as_many : (s : Setting) (levels : ℕ) (p : Position) (ls : PathSet) (t n : ℕ) (x : Tree) → IsLawful s levels p ls x
      → length (levels_in n x) ≡ length (tree_spans t x)
  as_many s levels p ls t n nothing law = refl
  as_many s zero p ls t n (named m xs) law = absurd law
  as_many s (suc levels) p ls t n (named m xs) law = sym (ap length (all_none s t levels positions.Argument ls xs refl law.3))
  as_many s zero p ls t n (op o w ps r) law = absurd law
  as_many s (suc levels) p ls t n (op o w ps r) law =
      tail_many s levels (terms_in p (law.row).place) _ ls t (deeper n) r law.tail
      ∙ ap (λ xs. length (xs ++ tail_spans t r)) (sym (parts_none s t levels (law.row).parts ls ps law.parts))

  tail_many : (s : Setting) (levels : ℕ) (p : Position) (k : Option TailKind) (ls : PathSet) (t n : ℕ) (r : Tail)
      → IsTail s (IsLawful s levels) p k ls r
      → length (tail_levels n r) ≡ length (tail_spans t r)
  tail_many s levels p k ls t n empty law = refl
  tail_many s levels p k ls t n (terms xs) law = let e = terms_tail s levels p ls k xs law in all_many s levels p ls t n xs e.1
  tail_many s levels p k ls t n (bytes b) law = refl
  tail_many s levels p k ls t n (elements xs) law = sym (ap length (elements_none s t levels p k ls xs law))
  tail_many s levels p k ls t n (fields us) law = sym (ap length (fields_tail_none s t levels p k ls us law))
  tail_many s levels p k ls t n (body start len) law = refl

  all_many : (s : Setting) (levels : ℕ) (p : Position) (ls : PathSet) (t n : ℕ) (xs : Trees) → AreTerms s levels p ls xs
      → length (all_levels n xs) ≡ length (all_spans t xs)
  all_many s levels p ls t n no_trees law = refl
  all_many s levels p ls t n (tree_more x xs) law =
      let first = as_many s levels p ls t n x law.0 in
      let rest = all_many s levels (next_position p x) (after s.scope ls x) t n xs law.1 in
      length-append (levels_in n x) (all_levels n xs) ∙ (λ i. first i + rest i) ∙ sym (length-append (tree_spans t x) (all_spans t xs))

-- terms leave the bodies behind those that stand in them
pub all_take : (s : Setting) (levels : ℕ) (p : Position) (ls : PathSet) (t : ℕ) (xs : Trees) (bs : List BodyLines)
    → AreTerms s levels p ls xs
    → left_all xs bs ≡ drop (length (all_spans t xs)) bs
all_take s levels p ls t xs bs law = ap (λ n. drop n bs) (all_many s levels p ls t 1 xs law)
