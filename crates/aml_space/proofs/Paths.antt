-- The nodes of a path below a node, each made below the one before it, in a list that grows by one empty node at a time
-- (`one_more`, `rest_more`): afterwards the path leads to the last of them, and nothing else is known (`path_more`).
use Rattle.std.proofs.Common.{◌≡◌, ℕ, ◌+◌, ◌<◌, ◌^◌, List, [], ◌∷◌, ◌++◌, length, Some, None, sym, ap, subst, ◌∙◌}
use Rattle.std.proofs.Common.{arith, append_assoc, true, length-append}
use Rattle.std.proofs.lemmas.List.{append-nil}
use Rattle.std.specs.Option.{option_and_then}
use Rattle.aml_names.specs.declared.segments.Seg.{Seg}
use Rattle.aml_children.specs.declared.children.Child.{Child}
use Rattle.aml_children.specs.Children.{child_in}
use Rattle.aml_space.specs.declared.nodes.Node.{Node}
use Rattle.aml_children.specs.Numbered.{walk}
use Rattle.aml_children.proofs.Basics.{read_last}
use Rattle.aml_space.specs.Nodes.{kids_of, depth_in, depths_of, known_by, IsIndex, IsKept, empty, chain, with_child, with_path}
use Rattle.aml_children.proofs.Walks.{walk_push}
use Rattle.aml_space.proofs.Grow.{more_if, has_grown, length_with, with_pushed, last_leaf}
use Rattle.aml_space.proofs.Growth.{grown_index, grown_known, grown_kept, new_child, still}
use Rattle.aml_space.proofs.Keeping.{kept_on}

-- an index that knows the same, in which a path leads to a node
pub record Leads (ns new : List Node) (p : List Seg) (at : ℕ) : Type 0 where
  pub index : IsIndex new
  pub known : known_by new ≡ known_by ns
  pub led : walk (kids_of new) 0 p ≡ Some at
  pub kept : IsKept ns new

pub long_chain : (p first : ℕ) (t : Seg) (d : ℕ) (q : List Seg) → length (chain p first t d q) ≡ length q + 1
long_chain p first t d [] = omega arith
long_chain p first t d (s ∷ q) = omega (arith, long_chain first (first + 1) s (d + 1) q)

-- one node more
one_more : (ns : List Node) (p : List Seg) (i : ℕ) (s : Seg) → i < length ns → length ns < 2 ^ 32 → IsIndex ns
    → walk (kids_of ns) 0 p ≡ Some i → child_in (kids_of ns i) s ≡ None →
    Leads ns (with_child ns i (record { seg = s; node = length ns }) ++ empty i s (depths_of ns i + 1) ∷ []) (p ++ s ∷ []) (length ns)
one_more ns p i s within room is led absent =
    let new = with_child ns i (record { seg = s; node = length ns }) ++ empty i s (depths_of ns i + 1) ∷ [] in
    let has = has_grown ns i s in
    record {
      index = grown_index ns new i s is within room absent has;
      known = grown_known ns new i s is within room absent has;
      led = walk_push (kids_of new) 0 p s ∙ ap (option_and_then (λ j. child_in (kids_of new j) s)) (still ns new i s is within room absent has p i led)
          ∙ new_child ns new i s is within room absent has;
      kept = grown_kept ns new i s is within room absent has;
    }

-- from an empty node at the end
rest_more : (ns new xs : List Node) (top : ℕ) (t : Seg) (d : ℕ) (p q whole : List Seg) (at : ℕ)
    → Leads ns (xs ++ empty top t d ∷ []) p (length xs) → length xs + length q < 2 ^ 32
    → new ≡ xs ++ chain top (length xs) t d q → whole ≡ p ++ q → at ≡ length xs + length q → Leads ns new whole at
rest_more ns new xs top t d p [] whole at so room nodes path end = subst (λ ms. Leads ns ms whole at) (sym nodes)
    (record {
      index = so.index;
      known = so.known;
      led = ap (walk (kids_of (xs ++ empty top t d ∷ [])) 0) (path ∙ append-nil p) ∙ so.led ∙ ap Some {x = length xs} {y = at} (omega (arith, end));
      kept = so.kept;
    })
rest_more ns new xs top t d p (s ∷ q) whole at so room nodes path end =
    let before = xs ++ empty top t d ∷ [] in
    let filled = more_if (record { seg = s; node = length xs + 1 }) true (empty top t d) in
    let long : length before ≡ length xs + 1 = length-append xs (empty top t d ∷ []) in
    let long_next : length (xs ++ filled ∷ []) ≡ length xs + 1 = length-append xs (filled ∷ []) in
    let one = one_more before p (length xs) s (omega (arith, long)) (omega (arith, long, room)) so.index so.led (last_leaf xs top t d s) in
    let deeper : depths_of before (length xs) + 1 ≡ d + 1 = ap (λ o. depth_in o + 1) (read_last xs (empty top t d)) in
    let is : with_child before (length xs) (record { seg = s; node = length before }) ≡ xs ++ filled ∷ [] =
    ap (λ n. with_child before (length xs) (record { seg = s; node = n })) long ∙ with_pushed xs (empty top t d) _ in
    let next : Leads ns ((xs ++ filled ∷ []) ++ empty (length xs) s (d + 1) ∷ []) (p ++ s ∷ []) (length (xs ++ filled ∷ [])) =
    subst (λ e. Leads ns ((xs ++ filled ∷ []) ++ empty (length xs) s e ∷ []) (p ++ s ∷ []) (length (xs ++ filled ∷ []))) deeper
    (subst (λ ms. Leads ns (ms ++ empty (length xs) s (depths_of before (length xs) + 1) ∷ []) (p ++ s ∷ []) (length (xs ++ filled ∷ []))) is
    (subst (Leads ns (with_child before (length xs) (record { seg = s; node = length before }) ++ empty (length xs) s (depths_of before (length xs) + 1) ∷ []) (p ++ s ∷ []))
    (long ∙ sym long_next) (record { index = one.index; known = one.known ∙ so.known; led = one.led; kept = kept_on ns before _ so.kept one.kept }))) in
    rest_more ns new (xs ++ filled ∷ []) (length xs) s (d + 1) (p ++ s ∷ []) q whole at next (omega (arith, long_next, room))
    (nodes ∙ ap (λ n. xs ++ filled ∷ chain (length xs) n s (d + 1) q) (sym long_next) ∙ sym (append_assoc xs (filled ∷ []) _))
    (path ∙ sym (append_assoc p (s ∷ []) q)) (omega (arith, end, long_next))

-- the nodes of a path below one
pub path_more : (ns : List Node) (p : List Seg) (i : ℕ) (s : Seg) (q : List Seg) → i < length ns → length ns + length q < 2 ^ 32 → IsIndex ns
    → walk (kids_of ns) 0 p ≡ Some i
    → child_in (kids_of ns i) s ≡ None → Leads ns (with_path ns i s q) (p ++ s ∷ q) (length ns + length q)
path_more ns p i s q within room is led absent =
    let c : Child = record { seg = s; node = length ns } in
    let long : length (with_child ns i c) ≡ length ns = length_with ns i c in
    rest_more ns _ (with_child ns i c) i s (depths_of ns i + 1) (p ++ s ∷ []) q _ _
    (subst (Leads ns (with_child ns i c ++ empty i s (depths_of ns i + 1) ∷ []) (p ++ s ∷ [])) (sym long) (one_more ns p i s within (omega (arith, room)) is led absent))
    (omega (arith, long, room))
    (ap (λ n. with_child ns i c ++ chain i n s (depths_of ns i + 1) q) (sym long)) (sym (append_assoc p (s ∷ []) q)) (omega (arith, long))

pub long_path : (ns : List Node) (i : ℕ) (s : Seg) (q : List Seg)
    → length (with_path ns i s q) ≡ length ns + length q + 1
long_path ns i s q =
    let c : Child = record { seg = s; node = length ns } in
    omega (
      arith,
      length-append (with_child ns i c) (chain i (length ns) s (depths_of ns i + 1) q),
      length_with ns i c,
      long_chain i (length ns) s (depths_of ns i + 1) q,
    )
