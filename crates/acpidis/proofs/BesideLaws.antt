-- What workers make of a set side by side is its load and the texts of its tables.
use Rattle.acpidis.proofs.Common.{◌≡◌, ℕ, suc, ◌+◌, List, [], ◌∷◌, map, length, Some, slice_get, get_or, arith, refl, sym, ap, ◌∙◌, length-map}
use Rattle.acpidis.proofs.Common.{AllZip, IfSome, Dump, Options, Table, table_codes}
use Rattle.acpidis.specs.Beside.{IsPart, IsTextOf, text_in}
use Rattle.acpidis.specs.declared.beside.Part.{Part}
use Rattle.acpidis.specs.declared.beside.Part.TheVariants as parts

module _ (dumps : List Dump) (options : Options) where
  -- behind the first part each is the text of a table
  text_of : (codes : List (List ℕ)) (n : ℕ) (d : Part) → IsPart dumps options codes (suc n) d
      → IfSome (text_in d) (IsTextOf (get_or codes n []))
  text_of codes n (parts.Text text) is = is
  text_of codes n (parts.Set r) is = absurd is

  texts : (codes : List (List ℕ)) (ps : List Part) → length ps ≡ length codes
      → ((n : ℕ) (d : Part) → slice_get ps n ≡ Some d → IfSome (text_in d) (IsTextOf (get_or codes n [])))
      → AllZip (λ code text. IfSome text (IsTextOf code)) codes (map text_in ps)
  texts [] [] long each = tt
  texts [] (p ∷ ps) long each = absurd (omega (arith, long))
  texts (c ∷ cs) [] long each = absurd (omega (arith, long))
  texts (c ∷ cs) (p ∷ ps) long each = (each 0 p refl, texts cs ps (omega (arith, long)) (λ n d is. each (suc n) d is))

  pub apart : (codes : List (List ℕ)) (first : Part) (ps : List Part) → length (first ∷ ps) ≡ length codes + 1
      → ((n : ℕ) (d : Part) → slice_get (first ∷ ps) n ≡ Some d → IsPart dumps options codes n d)
      → IsPart dumps options codes 0 first × AllZip (λ code text. IfSome text (IsTextOf code)) codes (map text_in ps)
  apart codes first ps long each =
      (each 0 first refl, texts codes ps (omega (arith, long)) (λ n d is. text_of codes n d (each (suc n) d is)))

  -- the same of what was made of some tables
  pub parted : (tables : List Table) (all its : List Part) (first : Part) (ps : List Part) → its ≡ all → its ≡ first ∷ ps
      → length all ≡ length tables + 1
      → ((n : ℕ) (d : Part) → slice_get all n ≡ Some d → IsPart dumps options (table_codes tables) n d)
      → IsPart dumps options (table_codes tables) 0 first
      × AllZip (λ code text. IfSome text (IsTextOf code)) (table_codes tables) (map text_in ps)
  parted tables all its first ps same begins long each =
      let is : all ≡ first ∷ ps = sym same ∙ begins in
      apart (table_codes tables) first ps (ap length (sym is) ∙ long ∙ ap (λ n. n + 1) (sym (length-map tables (λ (t : Table). t.code.now))))
      (λ n d at. each n d (ap (λ xs. slice_get xs n) is ∙ at))
