-- Paths as lists of segments from the root on, and their order (ACPI 6.5, 5.3).
use Rattle.std.specs.Prelude.{ℕ, Bool, List, Some, bytes_eq, refl, [], ◌∷◌, ◌++◌}
use Rattle.std.proofs.Common.{ap, subst}
use Rattle.std.proofs.lemmas.Map.Text.{is_eq-slice_cmp}
use Rattle.std.specs.declared.cmp.Ordering.{Ordering}
use Rattle.std.specs.Ordering.{nat_cmp}
use Rattle.std.specs.Cmp.{IsTotalOrder, IsPartialOrder, partial_order_from_total, on_total}
use Rattle.std.specs.Cmp.Lexicographic.{slice_cmp, nat_list_cmp_total, lists_total}
use Rattle.std.specs.FinMap.{IsAntisymmetric, slice_cmp-IsAntisymmetric, nat_cmp-IsAntisymmetric}
use Rattle.std.specs.FinSet.{FinSet}
use Rattle.std.specs.Coded.{Coded, code_by, coded_ℕ, coded_list}
use Rattle.aml_names.specs.declared.segments.Seg.{Seg}
use Rattle.std.specs.List.{flat_map}
use Rattle.std.specs.Char.{encode_utf8}

-- segments compare as bytes
abbrev pub seg_cmp : Seg → Seg → Ordering
seg_cmp a b = slice_cmp nat_cmp a.0 b.0

-- paths compare by their segments, a shorter path before those that it begins
abbrev pub path_cmp : List Seg → List Seg → Ordering
path_cmp = slice_cmp seg_cmp

-- a finite set of paths
abbrev pub PathSet : Type 0
PathSet = FinSet path_cmp

abbrev pub coded_seg : Coded Seg
coded_seg = code_by (List ℕ) (coded_list coded_ℕ) (λ s. s.0) (λ b. record { 0 = b }) (λ _. refl)

abbrev pub coded_path : Coded (List Seg)
coded_path = coded_list coded_seg

pub segs_total : IsTotalOrder seg_cmp
segs_total = on_total (λ s. s.0) nat_list_cmp_total

-- beside the test of all bytes
pub segs_partial : IsPartialOrder (λ (a b : Seg). bytes_eq a.0 b.0) (λ a b. Some (seg_cmp a b))
segs_partial = subst (λ (same : Seg → Seg → Bool). IsPartialOrder same (λ a b. Some (seg_cmp a b)))
    (λ i a b. is_eq-slice_cmp a.0 b.0 i) (partial_order_from_total segs_total)

pub paths_total : IsTotalOrder path_cmp
paths_total = lists_total segs_total

pub exact_segs : IsAntisymmetric seg_cmp
exact_segs a b e =
    ap (λ (bytes : List ℕ). record { 0 = bytes }) (slice_cmp-IsAntisymmetric nat_cmp-IsAntisymmetric a.0 b.0 e)

pub exact_paths : IsAntisymmetric path_cmp
exact_paths = slice_cmp-IsAntisymmetric exact_segs

-- ---- How segments and paths are printed.

-- each byte of a segment is the character of that number
abbrev pub segment_text : Seg → List ℕ
segment_text s = flat_map encode_utf8 s.0

-- segments, joined by '.'
abbrev pub joined_text : Seg → List Seg → List ℕ
joined_text s ss = segment_text s ++ flat_map (λ t. 46 ∷ segment_text t) ss

-- '\' and the segments, joined by '.'
abbrev pub path_text : List Seg → List ℕ
path_text [] = 92 ∷ []
path_text (s ∷ ss) = 92 ∷ joined_text s ss
