-- What is kept of tables that are told while they declare, by who is told them.
use Rattle.std.specs.Prelude.{ℕ, List, [], ◌∷◌}
use Rattle.aml_code.specs.Pieces.{Told, line_pieces}
use Rattle.aml_code.specs.Tree.{Trees}

-- of tables with this AML and these terms, in their order, a sink keeps this, by what it keeps of AML and pieces: of
-- the terms' lines, of the first level
abbrev pub AreKeptOf : {S K : Type 0} → (S → List ℕ → List Told → K → Type 0) → S → List (List ℕ) → List Trees → List K
    → Type 0
AreKeptOf keeps s [] [] [] = Unit {0}
AreKeptOf keeps s (code ∷ codes) (ts ∷ trees) (x ∷ xs) =
    keeps s code (line_pieces 1 ts) x × AreKeptOf keeps s codes trees xs
AreKeptOf keeps s _ _ _ = ⊥
