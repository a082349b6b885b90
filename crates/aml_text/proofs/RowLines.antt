-- The lines of rows that are met one after the other.
use Rattle.aml_text.proofs.Common.{true≢false, slice_get, ◌≡◌, ℕ, List, [], ◌∷◌, ◌++◌, drop, flat_map, Some, None, is_some, refl}
use Rattle.aml_text.proofs.Common.{sym, subst, ap, ◌∙◌, append_assoc, unwrap_or, append-nil, Seg, Prints, prints_then, prints_none}
use Rattle.aml_text.proofs.Common.{row_line}
use Rattle.std.specs.Prelude.{Option}
use Rattle.aml_namespace.specs.Known.{Declared}
use Rattle.text_writer.specs.declared.output.Out.{Out}

abbrev OneRow : Type 0
OneRow = List Seg × Declared

first_split : (xs : List OneRow) (x : OneRow) → slice_get xs 0 ≡ Some x → xs ≡ x ∷ drop 1 xs
first_split [] x is = absurd (true≢false (sym (ap is_some is)))
first_split (y ∷ xs) x is = ap (λ o. unwrap_or o y ∷ xs) is

no_first : (xs : List OneRow) → slice_get xs 0 ≡ None → xs ≡ []
no_first [] is = refl
no_first (y ∷ xs) is = absurd (true≢false (ap is_some is))

module _ {W : Type 0} (f : W → Option (List ℕ)) where
  -- of these rows all are printed but those that are left
  abbrev pub PrintedTo : Out W → Out W → List OneRow → List OneRow → Type 0
  PrintedTo s t rows left = (text : List ℕ) × ((text ++ flat_map row_line left ≡ flat_map row_line rows) × Prints f s t text)

  pub printed_none : (s : Out W) (rows : List OneRow) → PrintedTo s s rows rows
  printed_none s rows = ([], (refl, prints_none f s))

  -- one more, or all that are left
  pub printed_more : (s t u : Out W) (rows left rest : List OneRow) (row : OneRow) → PrintedTo s t rows left
      → slice_get left 0 ≡ Some row → rest ≡ drop 1 left → Prints f t u (row_line row) → PrintedTo s u rows rest
  printed_more s t u rows left rest row done first behind more = (
    done.0 ++ row_line row,
    (
      append_assoc done.0 (row_line row) (flat_map row_line rest)
          ∙ ap (λ es. done.0 ++ flat_map row_line es) (sym (first_split left row first ∙ ap (λ es. row ∷ es) (sym behind)))
          ∙ done.1.0,
      prints_then f s t u done.0 (row_line row) done.1.1 more,
    ),
  )

  pub printed_rest : (s t u : Out W) (rows left rest : List OneRow) (row : OneRow) → PrintedTo s t rows left
      → slice_get left 0 ≡ Some row → rest ≡ drop 1 left → Prints f t u (flat_map row_line (row ∷ rest))
      → Prints f s u (flat_map row_line rows)
  printed_rest s t u rows left rest row done first behind more =
      subst (Prints f s u)
      (ap (λ es. done.0 ++ flat_map row_line es) (sym (first_split left row first ∙ ap (λ es. row ∷ es) (sym behind))) ∙ done.1.0)
      (prints_then f s t u done.0 (flat_map row_line (row ∷ rest)) done.1.1 more)

  pub printed_all : (s t : Out W) (rows left : List OneRow) → PrintedTo s t rows left → slice_get left 0 ≡ None
      → Prints f s t (flat_map row_line rows)
  printed_all s t rows left done none =
      subst (Prints f s t)
      (sym (append-nil done.0) ∙ ap (λ es. done.0 ++ flat_map row_line es) (sym (no_first left none)) ∙ done.1.0) done.1.1
