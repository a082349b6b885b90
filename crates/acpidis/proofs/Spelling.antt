-- The trees of tables are spelled by their AML.
use Rattle.acpidis.proofs.Common.{◌≡◌, ℕ, List, [], ◌∷◌, AllZip, Trees, Entry, LoadsBy, Options}
use Rattle.aml_code.specs.Lawful.{BodiesStand}
use Rattle.aml_code.specs.Tree.{encodings}
use Rattle.acpidis.specs.Meaning.{none_unknown}
use Rattle.aml_load.proofs.Loads.{are_spelled}

abbrev pub Spells : List ℕ → Trees → Type 0
Spells code ts = encodings code ts ≡ code

without_bodies : (codes : List (List ℕ)) (trees : List Trees)
    → AllZip (λ code ts. Spells code ts × BodiesStand code 0 ts) codes trees
    → AllZip Spells codes trees
without_bodies [] [] r = tt
without_bodies [] (ts ∷ trees) r = absurd r
without_bodies (c ∷ codes) [] r = absurd r
without_bodies (c ∷ codes) (ts ∷ trees) r = (r.0.0, without_bodies codes trees r.1)

pub all_spelled : (options : Options) (codes : List (List ℕ)) (trees : List Trees) (es : List Entry)
    → LoadsBy options codes trees es
    → AllZip Spells codes trees
all_spelled options codes trees es h =
    without_bodies codes trees (are_spelled options.any_run (none_unknown options) options.externals.items codes trees es h)
