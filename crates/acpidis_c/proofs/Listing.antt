-- Values in their order, with their texts one behind the other; and a loaded set's, which are those of whatever the dumps
-- load to.
use Rattle.std.proofs.Common.{◌≡◌, ℕ, List, [], ◌∷◌, ◌++◌, ◌+◌, flat_map, length, refl, sym, ap, ap₂, ◌∙◌, arith}
use Rattle.std.proofs.Common.{length-append, Bool, true, false, Result, Ok, Err, subst}
use Rattle.std.proofs.lemmas.Bool.{false≢true}
use Rattle.std.proofs.lemmas.List.{flat_map_more}
use Rattle.std.specs.FinMap as map
use Rattle.std.specs.Prelude.{Vec}
use Rattle.std.specs.Global.{Global}
use Rattle.std.specs.List.{AllZip}
use Rattle.acpi_tables.specs.declared.dump.Dump.{Dump}
use Rattle.aml_names.specs.declared.faults.CodeFault.{CodeFault}
use Rattle.aml_namespace.specs.Namespace.{Entry}
use Rattle.aml_namespace.specs.Known.{StandsFor}
use Rattle.aml_namespace.proofs.Stands.{declarations_alone}
use Rattle.aml_set.specs.Views.{table_codes}
use Rattle.aml_set.specs.declared.methods.Method.{Method as Kept}
use Rattle.aml_set.specs.Methods.{methods_in}
use Rattle.aml_set.specs.declared.tables.TableSet.{TableSet}
use Rattle.acpidis.specs.Bodies.{Reading, ReadsAs, ReadsIn, AreReadings}
use Rattle.acpidis.specs.Checks.{AreKept, IsKept, AreLines}
use Rattle.acpidis.specs.Meaning.{Meaning, HasTables, IsSet}
use Rattle.acpidis.specs.declared.options.Options.{Options}
use Rattle.acpidis_c.specs.Contents.{values_from, AreValues, row_text, row_value, method_text, method_value, body_text, body_value}
use Rattle.acpidis_c.specs.Contents.{kept_text, kept_value, HasBodies, HasContents, AreContents, AreIn, AreRead}
use Rattle.acpidis_c.specs.declared.contents.BodyValue.{BodyValue}
use Rattle.acpidis_c.specs.declared.contents.Contents.{Contents}
use Rattle.acpidis_c.specs.declared.contents.Values.{Values}

module _ {A B : Type 0} (text : A → List ℕ) (value : ℕ → A → B) where
  pub values_push : (at : ℕ) (xs : List A) (x : A)
      → values_from text value at (xs ++ x ∷ []) ≡ values_from text value at xs ++ value (at + length (flat_map text xs)) x ∷ []
  values_push at [] x = ap (λ n. value n x ∷ []) (omega arith)
  values_push at (y ∷ ys) x =
      let n : at + length (text y) + length (flat_map text ys) ≡ at + length (flat_map text (y ∷ ys)) =
      omega (arith, length-append (text y) (flat_map text ys)) in
      ap (λ l. value at y ∷ l) (values_push (at + length (text y)) ys x
      ∙ ap (λ n. values_from text value (at + length (text y)) ys ++ value n x ∷ []) n)

  abbrev pub AreFirst : List A → List B → List ℕ → Type 0
  AreFirst xs items texts = (items ≡ values_from text value 0 xs) × (texts ≡ flat_map text xs)

  pub first_none : AreFirst [] [] []
  first_none = (refl, refl)

  pub first_more : (xs : List A) (x : A) (items more : List B) (texts after : List ℕ) (v : B) → AreFirst xs items texts
      → v ≡ value (length texts) x → more ≡ items ++ v ∷ [] → after ≡ texts ++ text x → AreFirst (xs ++ x ∷ []) more after
  first_more xs x items more texts after v was is pushed put =
      let long : length texts ≡ 0 + length (flat_map text xs) = omega (arith, ap length was.1) in (
        pushed ∙ ap₂ (λ l w. l ++ w ∷ []) was.0 (is ∙ ap (λ n. value n x) long) ∙ sym (values_push 0 xs x),
        put ∙ ap (λ t. t ++ text x) was.1 ∙ flat_map_more text [] xs x,
      )

  -- up to those that are left
  pub record AreBefore (all left : List A) (told : List B) (put : List ℕ) : Type 0 where
    pub items : told ++ values_from text value (length put) left ≡ values_from text value 0 all
    pub texts : put ++ flat_map text left ≡ flat_map text all

-- ---- what is kept of bodies has the values of what they read as

kept_value_is : (at : ℕ) (r : Reading) (d : Result (Vec ℕ Global) CodeFault) → IsKept AreLines r d
    → (kept_text d ≡ body_text r) × (kept_value at d ≡ body_value at r)
kept_value_is at (Ok ts) (Ok lines) h = (h, ap (λ l. record { at = at; length = length l; fault = 0; offset = 0 }) h)
kept_value_is at (Ok ts) (Err f) h = absurd h
kept_value_is at (Err f) (Ok lines) h = absurd h
kept_value_is at (Err f) (Err g) h = (refl, ap (λ e. body_value at (Err e)) h)

pub kept_values_are : (rs : List Reading) (ds : List (Result (Vec ℕ Global) CodeFault)) (at : ℕ)
    → AreKept (λ _. IsKept AreLines) rs ds
    → (values_from kept_text kept_value at ds ≡ values_from body_text body_value at rs)
    × (flat_map kept_text ds ≡ flat_map body_text rs)
kept_values_are [] [] at h = (refl, refl)
kept_values_are [] (d ∷ ds) at h = absurd h
kept_values_are (r ∷ rs) [] at h = absurd h
kept_values_are (r ∷ rs) (d ∷ ds) at h =
    let here = kept_value_is at r d h.0 in
    let rest = kept_values_are rs ds (at + length (body_text r)) h.1 in (
      ap₂ ◌∷◌ here.1 (ap (λ t. values_from kept_text kept_value (at + length t) ds) here.0 ∙ rest.0),
      ap₂ ◌++◌ here.0 rest.1,
    )

pub are_read : (asked z : Bool) (set : TableSet) (ds : List (Result (Vec ℕ Global) CodeFault)) (v : Values BodyValue)
    → ((rs : List Reading) × AreReadings z set rs × AreKept (λ _. IsKept AreLines) rs ds)
    → AreValues kept_text kept_value ds v → asked ≡ true → AreRead asked z set v
are_read false z set ds v kept are asked = absurd (false≢true asked)
are_read true z set ds v kept are asked =
    let same = kept_values_are kept.0 ds 0 kept.2 in
    (kept.0, kept.1, record { items = are.items ∙ same.0; texts = are.texts ∙ same.1 })

-- ---- by what the dumps load to

module _ (z : Bool) (set : TableSet) (es : List Entry) (stands : StandsFor set.space es) where
  reads_as : (ms : List Kept) (rs : List Reading) → AllZip (ReadsIn z set) ms rs
      → AllZip (ReadsAs z es (table_codes set.tables.items)) (methods_in set.space ms) rs
  reads_as [] [] h = tt
  reads_as [] (r ∷ rs) h = absurd h
  reads_as (m ∷ ms) [] h = absurd h
  reads_as (m ∷ ms) (r ∷ rs) h = (h.0 es stands, reads_as ms rs h.1)

module _ (dumps : List Dump) (options : Options) (set : TableSet) (x : Contents) where
  has_bodies : (bodies : Bool) (k : Meaning) → HasTables set dumps k → AreRead bodies options.unknown_zero set x.bodies
      → HasBodies bodies dumps options k x.bodies
  has_bodies false k it read = read
  has_bodies true k it read = (
    read.0,
    rw (← it.holds.tables, ← it.holds.methods)
        (reads_as options.unknown_zero set k.entries it.holds.space set.methods.items read.0 read.1),
    read.2,
  )

  has_contents : (bodies : Bool) (k : Meaning) → HasTables set dumps k → AreIn bodies options.unknown_zero set x
      → HasContents bodies dumps options k x
  has_contents bodies k it are = record {
    tables = are.tables ∙ it.named;
    rows = subst (λ rows. AreValues row_text row_value rows x.rows)
        (ap map.entries (declarations_alone set.space k.entries it.holds.space)) are.rows;
    methods = subst (λ ms. AreValues method_text method_value ms x.methods) it.holds.methods are.methods;
    read = has_bodies bodies k it are.read;
  }

  pub contents_so : (bodies : Bool) → IsSet dumps options set → AreIn bodies options.unknown_zero set x
      → AreContents bodies dumps options x
  contents_so bodies is are = (
    (is.sound.0, is.sound.1, has_contents bodies is.sound.0 is.sound.2 are),
    λ k loads. has_contents bodies k (is.one k loads) are,
  )
