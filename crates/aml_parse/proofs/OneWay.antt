-- A table whose code may run reads one way.
use Rattle.aml_parse.proofs.Common.{◌≡◌, ℕ, zero, suc, ◌+◌, ◌-◌, ◌≤◌, ◌<◌, List, length, Option, Some, None, Result, Ok}
use Rattle.aml_parse.proofs.Common.{refl, sym, ap, subst, ◌∙◌, arith, ok_is, Position, TailKind, Tree, op, Trees}
use Rattle.aml_parse.proofs.Common.{no_trees, tree_more, Parts, terms, body, PathSet, Setting, setting_of, IsLawful}
use Rattle.aml_parse.proofs.Common.{IsTail, ReadsStep, next_position, PkgWidth, Arities}
use Rattle.std.specs.FinSet as set
use Rattle.aml_parse.specs.Running.{Names, ReadsTerms, Opens, ReadsOneWay}
use Rattle.aml_parse.proofs.Took.{nonempty}
use Rattle.aml_parse.proofs.Steps.{step_again}

-- ---- a step

ok_same : {A E : Type 0} (x y : A) (r : Result A E) → r ≡ Ok x → r ≡ Ok y → x ≡ y
ok_same x y r p q = cc

span_inside_code : (s : Setting) (Is : Position → PathSet → Tree → Type 0) (p : Position) (k : Option TailKind) (ls : PathSet) (start len : ℕ)
    → IsTail s Is p k ls (body start len) → start + len ≤ length s.code
span_inside_code s Is p (Some TailKind.Body) ls start len h = h
span_inside_code s Is p _ ls start len h = absurd h

pub span_is_inside : (s : Setting) (levels : ℕ) (p : Position) (ls : PathSet) (o : ℕ) (w : Option PkgWidth) (ps : Parts) (start len : ℕ)
    → IsLawful s levels p ls (op o w ps (body start len)) → start + len ≤ length s.code
span_is_inside s zero p ls o w ps start len h = absurd h
span_is_inside s (suc levels) p ls o w ps start len h = span_inside_code s _ _ _ ls start len h.tail

module _ (arity : Arities) (levels : ℕ) (p : Position) (code : List ℕ) (at end : ℕ) where
  one_step : (t u : Tree) (b c : ℕ) → end ≤ length code → ReadsStep arity levels p code at end t b
      → ReadsStep arity levels p code at end u c
      → (t ≡ u) × (b ≡ c)
  one_step t u b c inside h g =
      let same = ok_is (t, b) (u, c) (sym (step_again arity levels p code at end t b inside h) ∙ step_again arity levels p code at end u c inside g) in
      (ap (λ y. y.0) same, ap (λ y. y.1) same)

  pub some_there : (t : Tree) (b : ℕ) → ReadsStep arity levels p code at end t b → at < b
  some_there t b h = omega (arith, h.ends, nonempty (setting_of arity None code) levels p set.empty t h.lawful)

  step_some : (t : Tree) (b : ℕ) → ReadsStep arity levels p code at end t b → (at ≡ end → ⊥)
  step_some t b h e = omega (arith, e, h.inside, some_there t b h)

-- ---- all of a table

module _ {S E : Type 0} (names : Names S E) (code : List ℕ) where
  mutual
    one_terms : (levels : ℕ) (p : Position) (at end : ℕ) (s : S) (ts us : Trees) (a b : S) → end ≤ length code
        → ReadsTerms names code levels p at end s ts a → ReadsTerms names code levels p at end s us b
        → (ts ≡ us) × (a ≡ b)
    one_terms levels p at end s no_trees no_trees a b inside h g = (refl, sym h.1 ∙ g.1)
    one_terms levels p at end s no_trees (tree_more u us) a b inside h (head, behind, inner, ended, reads, enters, opens, rest) =
        absurd (step_some _ levels p code at end head behind reads h.0)
    one_terms levels p at end s (tree_more t ts) no_trees a b inside (head, behind, inner, ended, reads, enters, opens, rest) g =
        absurd (step_some _ levels p code at end head behind reads g.0)
    one_terms levels p at end s (tree_more t ts) (tree_more u us) a b inside (head, behind, inner, ended, reads, enters, opens, rest)
        (head2, behind2, inner2, ended2, reads2, enters2, opens2, rest2) =
        let same = one_step (names.arity s) levels p code at end head head2 behind behind2 inside reads reads2 in
        let front : inner ≡ inner2 = ok_same inner inner2 (names.inside s head) enters (ap (names.inside s) same.0 ∙ enters2) in
        let also : Opens names code levels head inner u ended2 =
        subst (λ (i : S). Opens names code levels head i u ended2) (sym front)
        (subst (λ (y : Tree). Opens names code levels y inner2 u ended2) (sym same.0) opens2) in
        let one = one_opens levels p at end s head behind inner t u ended ended2 inside reads opens also in
        let on : ReadsTerms names code levels (next_position p head) behind end (names.behind s ended) us b =
        subst (λ (m : S). ReadsTerms names code levels (next_position p head) behind end (names.behind s m) us b) (sym one.1)
        (subst (λ (n : ℕ). ReadsTerms names code levels (next_position p head) n end (names.behind s ended2) us b) (sym same.1)
        (subst (λ (y : Tree). ReadsTerms names code levels (next_position p y) behind2 end (names.behind s ended2) us b) (sym same.0) rest2)) in
        let all = one_terms levels (next_position p head) behind end (names.behind s ended) ts us a b inside rest on in
        (ap (λ (y : Tree). tree_more y ts) one.0 ∙ ap (λ (ys : Trees). tree_more u ys) all.0, all.1)

    one_opens : (levels : ℕ) (p : Position) (at end : ℕ) (s : S) (head : Tree) (behind : ℕ) (inner : S) (t u : Tree) (a b : S) → end ≤ length code
        → ReadsStep (names.arity s) levels p code at end head behind → Opens names code levels head inner t a
        → Opens names code levels head inner u b
        → (t ≡ u) × (a ≡ b)
    one_opens levels p at end s head behind inner (op o w ps (terms ts)) (op o2 w2 ps2 (terms us)) a b inside reads
        (start, len, is, block, read) (start2, len2, is2, block2, read2) =
        let same : op o w ps (body start len) ≡ op o2 w2 ps2 (body start2 len2) = sym is ∙ is2 in
        let room : start + len ≤ length code =
        span_is_inside (setting_of (names.arity s) None code) levels p set.empty o w ps start len
        (subst (IsLawful (setting_of (names.arity s) None code) levels p set.empty) is reads.lawful) in
        let start_is : start ≡ start2 = cc in
        let len_is : len ≡ len2 = cc in
        let here : ReadsTerms names code (levels - 1) Position.RunTerm start (start + len) inner us b =
        subst (λ (n : ℕ). ReadsTerms names code (levels - 1) Position.RunTerm n (n + len) inner us b) (sym start_is)
        (subst (λ (n : ℕ). ReadsTerms names code (levels - 1) Position.RunTerm start2 (start2 + n) inner us b) (sym len_is) read2) in
        let one = one_terms (levels - 1) Position.RunTerm start (start + len) inner ts us a b room read here in
        (cc, one.1)
    one_opens levels p at end s head behind inner (op o w ps (terms ts)) u a b inside reads (start, len, is, block, read) g =
        absurd cc
    one_opens levels p at end s head behind inner t (op o w ps (terms us)) a b inside reads h (start, len, is, block, read) =
        absurd cc
    one_opens levels p at end s head behind inner t u a b inside reads h g = (sym h.0 ∙ g.0, sym h.2 ∙ g.2)

  pub reads_one_way : ReadsOneWay names code
  reads_one_way first ts us a b h g = one_terms 512 Position.RunTerm 0 (length code) first ts us a b (omega arith) h g
