-- What a call tells of the last run of a set.
use Rattle.std.specs.Prelude.{◌≡◌, ◌⊎◌, ◌<◌, ◌≤◌, ◌+◌, ℕ, Bool, true, false, List, Option, Some, None, cond, nat_eq}
use Rattle.std.specs.Prelude.{length, take, drop}
use Rattle.acpidis_c.specs.declared.contents.Contents.{Contents}
use Rattle.acpidis_c.specs.declared.looking.Sizes.{Sizes}
use Rattle.acpidis_c.specs.declared.state.Ran.{Ran}
use Rattle.acpidis_c.specs.declared.state.State.{State}
use Rattle.acpidis_c.specs.declared.told.Told.{Told}

-- only a code
abbrev pub nothing_told : ℕ → Told
nothing_told code = record { code = code; status = 0; text = 0; errors = 0 }

-- of a run, and where there is none
abbrev pub told_of : Option Ran → Told
told_of (Some ran) =
    record { code = 0; status = ran.status; text = length ran.text.items; errors = length ran.errors.items }
told_of None = nothing_told 8

-- of a set
abbrev pub told_in : Option State → Told
told_in (Some s) = told_of s.ran
told_in None = nothing_told 1

-- the text of a run, or its error lines
abbrev pub bytes_of : Bool → Ran → List ℕ
bytes_of true ran = ran.errors.items
bytes_of false ran = ran.text.items

-- As many items as there is room for, from one on; or 9 where there are not so many.
abbrev pub CopiesFrom : {A : Type 0} → List A → ℕ → List A → List A → ℕ → Type 0
CopiesFrom items from before after code =
    ((code ≡ 0) × (from + length before ≤ length items) × (after ≡ take (length before) (drop from items)))
    ⊎ ((code ≡ 9) × (length items < from + length before) × (after ≡ before))

abbrev pub CopiesRun : Option Ran → Bool → ℕ → List ℕ → List ℕ → ℕ → Type 0
CopiesRun (Some ran) errors from before after code = CopiesFrom (bytes_of errors ran) from before after code
CopiesRun None errors from before after code = (code ≡ 8) × (after ≡ before)

abbrev pub Copies : Option State → Bool → ℕ → List ℕ → List ℕ → ℕ → Type 0
Copies (Some s) errors from before after code = CopiesRun s.ran errors from before after code
Copies None errors from before after code = (code ≡ 1) × (after ≡ before)

-- ---- what a set has

-- only a code
abbrev pub no_sizes : ℕ → Sizes
no_sizes code = record {
  code = code;
  tables = 0;
  rows = 0;
  row_texts = 0;
  methods = 0;
  method_texts = 0;
  bodies = 0;
  body_texts = 0;
}

-- how many values there are, and how many bytes their texts have
abbrev pub sizes_of : Option Contents → Sizes
sizes_of (Some x) = record {
  code = 0;
  tables = length x.tables.items;
  rows = length x.rows.items.items;
  row_texts = length x.rows.texts.items;
  methods = length x.methods.items.items;
  method_texts = length x.methods.texts.items;
  bodies = length x.bodies.items.items;
  body_texts = length x.bodies.texts.items;
}
sizes_of None = no_sizes 8

abbrev pub sizes_in : Option State → Sizes
sizes_in (Some s) = sizes_of s.contents
sizes_in None = no_sizes 1

-- the texts of rows (0), of methods (1) or of bodies (any other number)
abbrev pub texts_of : ℕ → Contents → List ℕ
texts_of number x =
    cond (nat_eq number 0) x.rows.texts.items (cond (nat_eq number 1) x.methods.texts.items x.bodies.texts.items)

abbrev pub CopiesListed : {A : Type 0} → (Contents → List A) → Option Contents → ℕ → List A → List A → ℕ → Type 0
CopiesListed items (Some x) from before after code = CopiesFrom (items x) from before after code
CopiesListed items None from before after code = (code ≡ 8) × (after ≡ before)

abbrev pub CopiesItems : {A : Type 0} → (Contents → List A) → Option State → ℕ → List A → List A → ℕ → Type 0
CopiesItems items (Some s) from before after code = CopiesListed items s.contents from before after code
CopiesItems items None from before after code = (code ≡ 1) × (after ≡ before)
