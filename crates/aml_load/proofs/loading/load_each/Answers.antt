use Rattle.std.proofs.Common.{◌≡◌, ℕ, List, [], ◌∷◌, refl, ap₂, ◌∙◌}
use Rattle.std.specs.Prelude.{Vec}
use Rattle.std.specs.declared.alloc.Global.{Global}
use Rattle.aml_code.specs.Pieces.{Told, line_pieces}
use Rattle.aml_code.specs.Tree.{Trees}
use Rattle.aml_code.specs.View.{nodes_view}
use Rattle.aml_code.specs.declared.tree.Node.{Node}
use Rattle.aml_parse.specs.declared.terms.TableTerms.{TableTerms}
use Rattle.aml_set.specs.Views.{trees_view}
use Rattle.aml_load.specs.Kept.{AreKeptOf}
use Rattle.aml_load.proofs.loading.load_each.Goals as goal

-- what is kept of the pieces of a table's terms
abbrev keeps : TableTerms → List ℕ → List Told → Vec Node Global → Type 0
keeps s code ps kept = (level : ℕ) (ts : Trees) → ps ≡ line_pieces level ts → nodes_view kept.items ≡ ts

-- are these terms
kept_terms : (s : TableTerms) (codes : List (List ℕ)) (trees : List Trees) (xs : List (Vec Node Global))
    → AreKeptOf keeps s codes trees xs → trees_view xs ≡ trees
kept_terms s [] [] [] are = refl
kept_terms s [] [] (x ∷ xs) are = absurd are
kept_terms s [] (ts ∷ trees) xs are = absurd are
kept_terms s (code ∷ codes) [] xs are = absurd are
kept_terms s (code ∷ codes) (ts ∷ trees) [] are = absurd are
kept_terms s (code ∷ codes) (ts ∷ trees) (x ∷ xs) are =
    ap₂ (λ (t : Trees) (us : List Trees). t ∷ us) (are.0 1 ts refl) (kept_terms s codes trees xs are.1)

pub returns-clause-dumps : goal.returns-clause-dumps
returns-clause-dumps c = c.put_terms.ensures.dumps ∙ c.in_ok-set.ensures.dumps

pub returns-clause-gives : goal.returns-clause-gives
returns-clause-gives c =
    let all = c.in_ok-set.ensures.gives in
    let has = all.2 in (
      all.0,
      all.1,
      record {
        tables = c.put_terms.ensures.codes ∙ has.names.tables;
        trees = c.put_terms.ensures.terms ∙ kept_terms (record { alloc = c.args.alloc }) _ all.0 c.in_ok-set.terms.items has.kept;
        space = has.names.space;
        methods = has.names.methods;
      },
      all.3,
    )
