-- The terms of a span that are told one after the other: what was told before, and then what is still read, is all that
-- is read.
use Rattle.std.proofs.Common.{◌≡◌, ℕ, zero, suc, ◌≤◌, ◌<◌, true, false, cond, List, [], ◌∷◌, ◌++◌, Result, Ok, Err, refl, sym, ap}
use Rattle.std.proofs.Common.{Option, None, ◌∙◌, arith, nat_le, Bool, inl, inr}
use Rattle.std.proofs.lemmas.Bool.Decides.{nat_tests}
use Rattle.aml_code.specs.Lawful.{next_position}
use Rattle.aml_code.specs.declared.packages.PkgWidth.{PkgWidth}
use Rattle.aml_code.specs.Tree.{Tree, nothing, named, op, Trees, no_trees, tree_more, Parts, Tail, empty, terms, bytes, elements, fields, body}
use Rattle.aml_code.specs.declared.rows.Position.{Position}
use Rattle.aml_parse.specs.Running.{SpanReader, is_block, opened_at, run_term_at, run_terms_at}
use Rattle.aml_parse.proofs.Loops.{onto}
use Rattle.aml_parse.proofs.TellLaws.{trees_of}
use Rattle.aml_load.specs.declared.faults.LoadFault.{LoadFault}
use Rattle.aml_load.specs.Declaring.{◌>>=◌}
use Rattle.aml_load.specs.Runner.{opens, span_inside}
use Rattle.aml_load.specs.Running.{Front, run_names}
use Rattle.aml_load.proofs.Openings.{span_by}
use Rattle.aml_load.specs.Tables.{Fails}

abbrev Answer : Type 0
Answer = Result (Trees × Front) LoadFault

abbrev Whole : Type 0
Whole = (Tree × Tree) × (ℕ × Front)

abbrev same : Tree → Tree
same t = t

abbrev pub told_then : List Tree → Answer → Answer
told_then front read = read >>= λ (x : Trees × Front). Ok (onto same tree_more front x.0, x.1)

onto_more : (front : List Tree) (x : Tree) (back : Trees)
    → onto same tree_more (front ++ x ∷ []) back ≡ onto same tree_more front (tree_more x back)
onto_more [] x back = refl
onto_more (y ∷ front) x back = ap (tree_more y) (onto_more front x back)

pub told_none : (r : Answer) → told_then [] r ≡ r
told_none (Ok x) = refl
told_none (Err e) = refl

module _ (t : ℕ) (code : List ℕ) (levels : ℕ) (read : SpanReader (run_names t) code) (front : List Tree) (total : Answer) (p : Position) (at end : ℕ) (f : Front) where
  abbrev read_on : ℕ → Answer
  read_on n = run_terms_at (run_names t) code levels read n p at end f

  abbrev more_to : Whole → Trees × Front → Answer
  more_to x y = Ok (tree_more x.0.1 y.0, y.1)

  abbrev behind : ℕ → Whole → Answer
  behind n x = run_terms_at (run_names t) code levels read n (next_position p x.0.0) x.1.0 end x.1.1 >>= more_to x

  ended : (n : ℕ) → end ≤ at → read_on n ≡ Ok (no_trees, f)
  unfolding run_terms_at
  ended zero le = refl
  ended (suc n) le =
      let done : nat_le end at ≡ true = grind (arith, nat_tests) in
      ap (λ (b : Bool). cond b (Ok (no_trees, f)) (run_term_at (run_names t) code levels read p at end f >>= behind n)) done

  starts : (n : ℕ) → at < end → read_on (suc n) ≡ (run_term_at (run_names t) code levels read p at end f >>= behind n)
  unfolding run_terms_at
  starts n less =
      let on : nat_le end at ≡ false = grind (arith, nat_tests) in
      ap (λ (b : Bool). cond b (Ok (no_trees, f)) (run_term_at (run_names t) code levels read p at end f >>= behind n)) on

  -- nothing is left
  pub done : (n : ℕ) → end ≤ at → told_then front (read_on n) ≡ total → total ≡ Ok (trees_of front, f)
  done n le so_far = sym so_far ∙ ap (told_then front) (ended n le)

  regroup : (x head : Tree) (at2 : ℕ) (g : Front) (r : Answer)
      → told_then front (r >>= more_to ((head, x), (at2, g))) ≡ told_then (front ++ x ∷ []) r
  regroup x head at2 g (Ok y) = ap (λ (all : Trees). Ok (all, y.1)) (sym (onto_more front x y.0))
  regroup x head at2 g (Err e) = refl

  -- the next term is read
  pub goes_on : (n k : ℕ) (x head : Tree) (at2 : ℕ) (g : Front) → n ≡ suc k → at < end
      → run_term_at (run_names t) code levels read p at end f ≡ Ok ((head, x), (at2, g))
      → told_then front (read_on n) ≡ total
      → told_then (front ++ x ∷ []) (run_terms_at (run_names t) code levels read k (next_position p head) at2 end g) ≡ total
  goes_on n k x head at2 g is less reads so_far =
      sym (regroup x head at2 g (run_terms_at (run_names t) code levels read k (next_position p head) at2 end g))
      ∙ sym (ap (λ (m : ℕ). told_then front (read_on m)) is ∙ ap (told_then front) (starts k less)
      ∙ ap (λ (r : Result Whole LoadFault). told_then front (r >>= behind k)) reads)
      ∙ so_far

  -- what the next term failed by, all fail by
  pub fails : (n k : ℕ) (e : LoadFault) → n ≡ suc k → at < end
      → Fails e (run_term_at (run_names t) code levels read p at end f)
      → told_then front (read_on n) ≡ total → Fails e total
  fails n k e is less (inl want) so_far = inl want
  fails n k e is less (inr h) so_far = inr (
      sym so_far ∙ ap (λ (m : ℕ). told_then front (read_on m)) is ∙ ap (told_then front) (starts k less)
      ∙ ap (λ (r : Result Whole LoadFault). told_then front (r >>= behind k)) h)

-- ---- a term inside which no terms stand

module _ (t : ℕ) (code : List ℕ) (read : SpanReader (run_names t) code) (f : Front) where
  abbrev opened : Bool → Tree → Result (Tree × Front) LoadFault
  opened b h = opened_at (run_names t) code read b h f

  span_none : (o : ℕ) (w : Option PkgWidth) (ps : Parts) (start len : ℕ) (b : Bool) → span_by b (start, len) ≡ None
      → opened b (op o w ps (body start len)) ≡ Ok (op o w ps (body start len), f)
  span_none o w ps start len false e = refl
  span_none o w ps start len true e = absurd cc

  flat_none : (o : ℕ) (w : Option PkgWidth) (ps : Parts) (r : Tail) (b : Bool) → span_inside (op o w ps r) ≡ None → b ≡ opens o
      → opened b (op o w ps r) ≡ Ok (op o w ps r, f)
  flat_none o w ps (body start len) b e is =
      span_none o w ps start len b (ap (λ c. span_by c (start, len)) is ∙ e)
  flat_none o w ps empty true e is = refl
  flat_none o w ps (terms ts) true e is = refl
  flat_none o w ps (bytes bs) true e is = refl
  flat_none o w ps (elements ts) true e is = refl
  flat_none o w ps (fields us) true e is = refl
  flat_none o w ps _ false e is = refl

  pub opened_none : (h : Tree) → span_inside h ≡ None → opened (is_block h) h ≡ Ok (h, f)
  opened_none (op o w ps r) e = flat_none o w ps r (opens o) e refl
  opened_none nothing e = refl
  opened_none (named n ts) e = refl
