-- Dumps by their index.
use Rattle.acpi_tables.proofs.Common.{◌≡◌, ℕ, ◌<◌, ◌≤◌, List, [], length, map, get_or, sym, ap, ◌∙◌, arith, get_or-map}
use Rattle.acpi_tables.proofs.Common.{get_or_past, length-map, Dump, bytes_of}

-- a part of the dump at an index, as its bytes or its name
module _ (part : Dump → List ℕ) (dumps : List Dump) (index : ℕ) where
  pub part-inside : (dump : Dump) → index < length dumps → dump ≡ get_or dumps index dump
      → get_or (map part dumps) index [] ≡ part dump
  part-inside dump inside e = get_or-map part dumps index dump [] inside ∙ ap part (sym e)

  pub part-past : length dumps ≤ index → get_or (map part dumps) index [] ≡ []
  part-past past = get_or_past (map part dumps) index [] (omega (arith, length-map dumps part))

pub ruleset parts = (part-inside, part-past)

pub bytes_of-inside : (dumps : List Dump) (index : ℕ) (dump : Dump) → index < length dumps
    → dump ≡ get_or dumps index dump
    → bytes_of dumps index ≡ dump.bytes.items
unfolding bytes_of
bytes_of-inside dumps index dump inside e = part-inside (λ d. d.bytes.items) dumps index dump inside e

pub ruleset inside = (bytes_of-inside)
