-- The dumps at some addresses, each where it stands first: one address more adds the dump that stands there, if there
-- is one and it isn't among them.
use Rattle.acpi_tables.proofs.Common.{◌≡◌, ℕ, ◌+◌, Bool, List, [], ◌∷◌, ◌++◌, map, cond, filter_map, nat_eq, Option}
use Rattle.acpi_tables.proofs.Common.{Some, None, sym, ap, ◌∙◌, zero-add, list_any, cons_option, fold, range_with_len}
use Rattle.acpi_tables.proofs.Common.{filter_map-append, map-range_with_len_more, fold-append, Dump, with_more, dump_at}

abbrev pub listed_in : List Dump → List ℕ → List ℕ
listed_in dumps addresses = fold with_more [] (filter_map (dump_at dumps) addresses)

-- those of the values of a function
module _ (dumps : List Dump) (f : ℕ → ℕ) (i : ℕ) (old : List ℕ) (kept : old ≡ listed_in dumps (map f (range_with_len 0 i))) where
  listed_more : (there : Option ℕ) → dump_at dumps (f i) ≡ there
      → listed_in dumps (map f (range_with_len 0 (i + 1))) ≡ fold with_more old (cons_option there [])
  listed_more there is =
      ap (listed_in dumps) (map-range_with_len_more f 0 i i (zero-add i))
      ∙ ap (fold with_more []) (filter_map-append (dump_at dumps) (map f (range_with_len 0 i)) (f i ∷ []))
      ∙ fold-append with_more [] (filter_map (dump_at dumps) (map f (range_with_len 0 i))) (cons_option (dump_at dumps (f i)) [])
      ∙ ap (λ xs. fold with_more xs (cons_option (dump_at dumps (f i)) [])) (sym kept)
      ∙ ap (λ o. fold with_more old (cons_option o [])) is

  pub listed_none : dump_at dumps (f i) ≡ None → old ≡ listed_in dumps (map f (range_with_len 0 (i + 1)))
  listed_none is = sym (listed_more None is)

  pub listed_some : (dump : ℕ) (again : Bool) → dump_at dumps (f i) ≡ Some dump
      → list_any (λ y. nat_eq y dump) old ≡ again
      → cond again old (old ++ dump ∷ []) ≡ listed_in dumps (map f (range_with_len 0 (i + 1)))
  listed_some dump again is any = sym (listed_more (Some dump) is ∙ ap (λ b. cond b old (old ++ dump ∷ [])) any)
