-- Reading one after the other, as a loop does: what was found before, and then what is still read, is all that is read.
use Rattle.aml_parse.proofs.Common.{◌≡◌, ℕ, zero, suc, ◌-◌, ◌<◌, List, [], ◌∷◌, ◌++◌, length, Result, Ok, Err, refl}
use Rattle.aml_parse.proofs.Common.{sym, ap, ◌∙◌, arith, inl, inr, CodeFault}
use Rattle.aml_parse.proofs.Common.{PathSet, ◌>>=◌, Fails, PartKind, Position, Tree, Trees, no_trees, tree_more, Parts}
use Rattle.aml_parse.proofs.Common.{no_parts, part_more, read_on}
use Rattle.aml_code.specs.Tree.{Part as AnyPart}
use Rattle.aml_parse.specs.Reading.{Reader, ReaderToEnd, part_at, parts_at, arguments_at, to_end_at}

-- ---- what was found, and what is still read

module _ {X A AS : Type 0} (see : X → A) (more : A → AS → AS) where
  abbrev pub onto : List X → AS → AS
  onto [] back = back
  onto (x ∷ xs) back = more (see x) (onto xs back)

  onto_more : (front : List X) (x : X) (back : AS) → onto (front ++ x ∷ []) back ≡ onto front (more (see x) back)
  onto_more [] x back = refl
  onto_more (y ∷ front) x back = ap (more (see y)) (onto_more front x back)

  -- with what is left behind it
  abbrev pub then_rest : List X → Result (AS × PathSet × List ℕ) CodeFault → Result (AS × PathSet × List ℕ) CodeFault
  then_rest front read = read >>= λ r. Ok (onto front r.0, r.1, r.2)

  rest_regroup : (front : List X) (x : X) (read : Result (AS × PathSet × List ℕ) CodeFault)
      → then_rest front (read >>= λ r. Ok (more (see x) r.0, r.1, r.2)) ≡ then_rest (front ++ x ∷ []) read
  rest_regroup front x (Ok r) = ap (λ (all : AS). Ok (all, r.1, r.2)) (sym (onto_more front x r.0))
  rest_regroup front x (Err e) = refl

  -- to the end of the span
  abbrev pub then_all : List X → Result (AS × PathSet) CodeFault → Result (AS × PathSet) CodeFault
  then_all front read = read >>= λ r. Ok (onto front r.0, r.1)

  all_regroup : (front : List X) (x : X) (read : Result (AS × PathSet) CodeFault)
      → then_all front (read >>= λ r. Ok (more (see x) r.0, r.1)) ≡ then_all (front ++ x ∷ []) read
  all_regroup front x (Ok r) = ap (λ (all : AS). Ok (all, r.1)) (sym (onto_more front x r.0))
  all_regroup front x (Err e) = refl

-- ---- parts

module _ {X : Type 0} (see : X → AnyPart) (read : Position → Reader Tree) (front : List X) (end : ℕ) (ls : PathSet) (bs : List ℕ) (total : Result (Parts × PathSet × List ℕ) CodeFault) where
  pub parts_go_on : (part : X) (k : PartKind) (ks : List PartKind) (ls' : PathSet) (rest : List ℕ)
      → part_at read k end ls bs ≡ Ok (see part, ls', rest)
      → then_rest see part_more front (parts_at read (k ∷ ks) end ls bs) ≡ total
      → then_rest see part_more (front ++ part ∷ []) (parts_at read ks end ls' rest) ≡ total
  unfolding parts_at
  parts_go_on part k ks ls' rest h so_far =
      sym (rest_regroup see part_more front part (parts_at read ks end ls' rest)) ∙ rw h at so_far

  pub parts_fails : (e : CodeFault) (k : PartKind) (ks : List PartKind) → Fails e (part_at read k end ls bs)
      → then_rest see part_more front (parts_at read (k ∷ ks) end ls bs) ≡ total → Fails e total
  unfolding parts_at
  parts_fails e k ks (inl h) so_far = inl h
  parts_fails e k ks (inr h) so_far = inr (sym (rw h at so_far))

  pub parts_end : then_rest see part_more front (parts_at read [] end ls bs) ≡ total
      → total ≡ Ok (onto see part_more front no_parts, ls, bs)
  unfolding parts_at
  parts_end so_far = sym so_far

-- ---- arguments

module _ {X : Type 0} (see : X → Tree) (read : Position → Reader Tree) (front : List X) (end : ℕ) (ls : PathSet) (bs : List ℕ) (total : Result (Trees × PathSet × List ℕ) CodeFault) where
  pub arguments_go_on : (n : ℕ) (node : X) (ls' : PathSet) (rest : List ℕ) → 0 < n
      → read Position.Argument end ls bs ≡ Ok (see node, ls', rest)
      → then_rest see tree_more front (arguments_at read n end ls bs) ≡ total
      → then_rest see tree_more (front ++ node ∷ []) (arguments_at read (n - 1) end ls' rest) ≡ total
  unfolding arguments_at
  arguments_go_on zero node ls' rest some h so_far = absurd (omega arith)
  arguments_go_on (suc n) node ls' rest some h so_far =
      let less : suc n - 1 ≡ n = omega arith in
      rw less (sym (rest_regroup see tree_more front node (arguments_at read n end ls' rest)) ∙ rw h at so_far)

  pub arguments_fails : (e : CodeFault) (n : ℕ) → 0 < n → Fails e (read Position.Argument end ls bs)
      → then_rest see tree_more front (arguments_at read n end ls bs) ≡ total → Fails e total
  unfolding arguments_at
  arguments_fails e n some (inl h) so_far = inl h
  arguments_fails e zero some (inr h) so_far = absurd (omega arith)
  arguments_fails e (suc n) some (inr h) so_far = inr (sym (rw h at so_far))

  pub arguments_end : (n : ℕ) → n ≡ 0 → then_rest see tree_more front (arguments_at read n end ls bs) ≡ total
      → total ≡ Ok (onto see tree_more front no_trees, ls, bs)
  unfolding arguments_at
  arguments_end zero none so_far = sym so_far
  arguments_end (suc n) none so_far = absurd (omega (arith, none))

-- ---- terms, and elements of a field list, to the end of a span

module _ {K A AS : Type 0} (none : AS) (more : A → AS → AS) (one : K → Reader A) (next : K → A → K) where
  abbrev all : ℕ → K → ReaderToEnd AS
  all = to_end_at none more one next

  pub turn : (n : ℕ) (k : K) (end : ℕ) (ls : PathSet) (bs : List ℕ) → 0 < length bs → all (suc n) k end ls bs
      ≡ (one k end ls bs >>= λ first. all n (next k first.0) end first.1 first.2 >>= λ others. Ok (more first.0 others.0, others.1))
  unfolding to_end_at
  turn n k end ls [] h = absurd (omega arith)
  turn n k end ls (b ∷ bs) h = refl

  module _ {X : Type 0} (see : X → A) (front : List X) (k : K) (end : ℕ) (ls : PathSet) (total : Result (AS × PathSet) CodeFault) where
    pub go_on : (n : ℕ) (bs : List ℕ) (x : X) (ls' : PathSet) (rest : List ℕ) → 0 < length bs → 0 < n
        → one k end ls bs ≡ Ok (see x, ls', rest)
        → then_all see more front (all n k end ls bs) ≡ total
        → then_all see more (front ++ x ∷ []) (all (n - 1) (next k (see x)) end ls' rest) ≡ total
    go_on zero bs x ls' rest some left h so_far = absurd (omega arith)
    go_on (suc n) bs x ls' rest some left h so_far =
        let less : suc n - 1 ≡ n = omega arith in
        rw less (sym (all_regroup see more front x (all n (next k (see x)) end ls' rest))
        ∙ sym (ap (then_all see more front) (turn n k end ls bs some ∙ read_on _ _ _ _ h refl)) ∙ so_far)

    pub fails : (e : CodeFault) (n : ℕ) (bs : List ℕ) → 0 < length bs → 0 < n → Fails e (one k end ls bs)
        → then_all see more front (all n k end ls bs) ≡ total → Fails e total
    fails e n bs some left (inl h) so_far = inl h
    fails e zero bs some left (inr h) so_far = absurd (omega arith)
    fails e (suc n) bs some left (inr h) so_far = inr (sym so_far ∙ ap (then_all see more front) (turn n k end ls bs some) ∙ rw h refl)

    pub done : (found : AS) (n : ℕ) (bs : List ℕ) → onto see more front none ≡ found → length bs ≡ 0
        → then_all see more front (all n k end ls bs) ≡ total → total ≡ Ok (found, ls)
    unfolding to_end_at
    done found n [] is empty so_far = sym so_far ∙ ap (λ (all : AS). Ok (all, ls)) is
    done found n (b ∷ bs) is empty so_far = absurd (omega arith)

    pub runs_out : (n : ℕ) (bs : List ℕ) → n ≡ 0 → 0 < length bs → then_all see more front (all n k end ls bs) ≡ total
        → total ≡ Err (CodeFault.Truncated end)
    unfolding to_end_at
    runs_out n [] last some so_far = absurd (omega arith)
    runs_out zero (b ∷ bs) last some so_far = sym so_far
    runs_out (suc n) (b ∷ bs) last some so_far = absurd (omega (arith, last))
