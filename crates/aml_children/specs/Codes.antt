-- A stepping stone of the proofs: children can be stored as numbers and lists.
use Rattle.std.specs.Prelude.{ℕ, List, refl}
use Rattle.std.specs.Coded.{Coded, code_by, coded×, coded_ℕ, coded_list}
use Rattle.aml_names.specs.declared.segments.Seg.{Seg}
use Rattle.aml_names.specs.Paths.{coded_seg}
use Rattle.aml_children.specs.declared.children.Child.{Child}

abbrev pub coded_child : Coded Child
coded_child = code_by (Seg × ℕ) (coded× coded_seg coded_ℕ) (λ c. (c.seg, c.node))
    (λ p. record { seg = p.0; node = p.1 }) (λ _. refl)

abbrev pub coded_children : Coded (List Child)
coded_children = coded_list coded_child

abbrev pub coded_tree : Coded (List Child × ℕ)
coded_tree = coded× coded_children coded_ℕ
