-- Reading one segment, or one prefix, after the other, as a loop does.
use Rattle.std.proofs.Common.{◌≡◌, ℕ, zero, suc, ◌+◌, ◌-◌, ◌<◌, ◌≤◌, true, false, cond, List, [], ◌∷◌, ◌++◌, length}
use Rattle.std.proofs.Common.{drop, get_or, Ok, Err, refl, sym, ap, ◌∙◌, append_assoc, arith}
use Rattle.std.specs.Prelude.{◌==◌}
use Rattle.std.proofs.lemmas.List.{append-nil, drop_all, drop_more}
use Rattle.aml_names.specs.declared.faults.CodeFault.{CodeFault}
use Rattle.aml_names.specs.declared.segments.Seg.{Seg}
use Rattle.aml_names.specs.NameReading.{◌>>=◌, Left, segment_at, segments_at, parents, is_rooted}

-- what was read before, and what is still read
abbrev pub with_front : List Seg → Left (List Seg) → Left (List Seg)
with_front front read = read >>= λ x. Ok (front ++ x.0, x.1)

regroup : (front : List Seg) (s : Seg) (read : Left (List Seg))
    → with_front front (read >>= λ x. Ok (s ∷ x.0, x.1)) ≡ with_front (front ++ s ∷ []) read
regroup front s (Ok x) = ap (λ (ss : List Seg). Ok (ss, x.1)) (sym (append_assoc front (s ∷ []) x.0))
regroup front s (Err e) = refl

pub segments_go_on : (front : List Seg) (s : Seg) (n end : ℕ) (bytes rest : List ℕ) (total : Left (List Seg)) → 0 < n
    → segment_at end bytes ≡ Ok (s, rest)
    → with_front front (segments_at n end bytes) ≡ total
    → with_front (front ++ s ∷ []) (segments_at (n - 1) end rest) ≡ total
unfolding segments_at
segments_go_on front s zero end bytes rest total some h so_far = absurd (omega arith)
segments_go_on front s (suc n) end bytes rest total some h so_far =
    let one : with_front front (segments_at (suc n) end bytes) ≡ with_front (front ++ s ∷ []) (segments_at n end rest) =
    rw h (regroup front s (segments_at n end rest)) in
    let less : suc n - 1 ≡ n = omega arith in
    rw less (sym one ∙ so_far)

pub segments_fail : (e : CodeFault) (front : List Seg) (n end : ℕ) (bytes : List ℕ) (total : Left (List Seg)) → 0 < n
    → segment_at end bytes ≡ Err e
    → with_front front (segments_at n end bytes) ≡ total → total ≡ Err e
unfolding segments_at
segments_fail e front zero end bytes total some h so_far = absurd (omega arith)
segments_fail e front (suc n) end bytes total some h so_far =
    let one : with_front front (segments_at (suc n) end bytes) ≡ Err e = rw h refl in
    sym so_far ∙ one

pub segments_end : (front : List Seg) (n end : ℕ) (bytes : List ℕ) (total : Left (List Seg)) → n ≡ 0
    → with_front front (segments_at n end bytes) ≡ total
    → total ≡ Ok (front, bytes)
unfolding segments_at
segments_end front n end bytes total none so_far =
    let one : with_front front (segments_at 0 end bytes) ≡ Ok (front, bytes) = ap (λ (ss : List Seg). Ok (ss, bytes)) (append-nil front) in
    sym so_far ∙ ap (λ k. with_front front (segments_at k end bytes)) none ∙ one

-- ---- prefixes

pub parents_go_on : (bytes : List ℕ) (i : ℕ) → i < length bytes → get_or bytes i 0 ≡ 0x5E
    → parents (drop i bytes) ≡ suc (parents (drop (i + 1) bytes))
unfolding parents
parents_go_on bytes i h e = rw (drop_more bytes i 0 h, e) refl

pub parents_stop : (bytes : List ℕ) (i : ℕ) → i < length bytes → (get_or bytes i 0 == 0x5E) ≡ false
    → parents (drop i bytes) ≡ 0
unfolding parents
parents_stop bytes i h e = rw (drop_more bytes i 0 h, e) refl

pub parents_end : (bytes : List ℕ) (i : ℕ) → length bytes ≡ i → parents (drop i bytes) ≡ 0
unfolding parents
parents_end bytes i h = rw (drop_all i bytes (omega arith)) refl

pub parents_fit : (bytes : List ℕ) → parents bytes ≤ length bytes
unfolding parents
parents_fit [] = omega arith
parents_fit (b ∷ rest) =
    elim (b == 0x5E) as (λ t. cond t (suc (parents rest)) 0 ≤ length (b ∷ rest)) [ true ↦ omega (arith, parents_fit rest) | false ↦ omega arith ]

pub rooted_some : (bytes : List ℕ) → is_rooted bytes ≡ true → 1 ≤ length bytes
rooted_some [] h = absurd cc
rooted_some (b ∷ bytes) h = omega arith
