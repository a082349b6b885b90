-- Names that are kept one after the other are kept as all of them.
use Rattle.aml_parse.proofs.Common.{◌≡◌, [], ◌∷◌, List, Option, None, Some, refl, ◌∙◌, with_names, Seg, PathSet}
use Rattle.aml_code.specs.Lawful.{with_declared}
use Rattle.aml_names.specs.declared.names.Name.{Name}
use Rattle.aml_names.specs.Branches.{with_placed}
use Rattle.aml_names.specs.Names.{placed}
use Rattle.aml_parse.specs.Kept.{with_each}

-- one of them is kept before the others
one_first : (scope : List Seg) (ls : PathSet) (n : Name) (ns : List Name)
    → with_names scope (with_placed ls (placed scope n)) ns ≡ with_names scope ls (n ∷ ns)
one_first scope ls n ns = by (placed scope n) refl
  where
    by : (o : Option (List Seg)) → placed scope n ≡ o
        → with_names scope (with_placed ls (placed scope n)) ns ≡ with_names scope ls (n ∷ ns)
    by None e = rw e refl
    by (Some p) e = rw e refl

pub each_declared : (scope : Option (List Seg)) (ls : PathSet) (ns : List Name)
    → with_each scope ls ns ≡ with_declared scope ls ns
each_declared None ls [] = refl
each_declared None ls (n ∷ ns) = each_declared None ls ns
each_declared (Some s) ls [] = refl
each_declared (Some s) ls (n ∷ ns) = each_declared (Some s) (with_placed ls (placed s n)) ns ∙ one_first s ls n ns
