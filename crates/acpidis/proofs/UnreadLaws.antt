-- What a body reads as, by what was told of it.
use Rattle.acpidis.proofs.Common.{◌≡◌, ℕ, List, Bool, Result, Ok, Err, Trees, Entry, CodeFault, Method, method_in, ReadsIn, table_codes, span_of}
use Rattle.acpidis.proofs.Common.{inl, inr, ap, all_lines, flat_map, ◌∙◌}
use Rattle.std.specs.Prelude.{◌⊎◌, ◌≢◌}
use Rattle.std.specs.Result.{IfErr}
use Rattle.acpidis.specs.Bodies.{IsItsBody, IsRaw}
use Rattle.acpidis.specs.declared.bodies.Unread.{Unread}
use Rattle.aml_names.specs.declared.faults.CodeFault.TheVariants as codes
use Rattle.aml_code.specs.Pieces.{Told, line_pieces}
use Rattle.aml_namespace.specs.Known.{StandsFor}
use Rattle.aml_load.specs.Views.{IsReading, GivesBody, ReadsBy}
use Rattle.aml_load.proofs.BodyLaws.{want_or}
use Rattle.asl_text.specs.Pieces.{piece_text}
use Rattle.asl_text.proofs.PieceLaws.{body_text}

pub err_both : {X : Type 0} (r : Result X CodeFault) (P Q R : CodeFault → Type 0) → ((e : CodeFault) → P e → Q e → R e) → IfErr r P → IfErr r Q → IfErr r R
err_both (Ok x) P Q R both p q = tt
err_both (Err e) P Q R both p q = both e p q

pub not_want : {R : Type 0} (f : CodeFault) → (f ≡ codes.NoMemory → ⊥) → (f ≡ codes.NoMemory) ⊎ R → R
not_want f not (inl want) = absurd (not want)
not_want f not (inr r) = r

raw_as : (z : Bool) (es : List Entry) (cs : List (List ℕ)) (m : Method) (f : CodeFault) → f ≢ codes.NoMemory
    → IsReading (λ (read : Trees). read) z es cs m (Err f) → GivesBody (λ (read : Trees). read) z es cs m (Err f) → IsRaw z es cs m f
raw_as z es cs m f other (inl want) first = absurd (other want)
raw_as z es cs m f other (inr unread) (inl want) = absurd (other want)
raw_as z es cs m f other (inr unread) (inr first) = record { unread = unread; first = first }

module _ (u : Unread) (it : IsItsBody u) where
  abbrev method : Method
  method = method_in u.set.now.space u.method.now

  abbrev Says : (List Entry → List (List ℕ) → Type 0) → Type 0
  Says P = (tables : List (List ℕ)) → u.bytes.now ≡ span_of tables method → (es : List Entry) → StandsFor u.set.now.space es → P es tables

  raw_by : (f : CodeFault) → (f ≡ codes.NoMemory) ⊎ (f ≢ codes.NoMemory)
      → Says (λ es tables. IsReading (λ (read : Trees). read) u.unknown_zero es tables method (Err f))
      → Says (λ es tables. GivesBody (λ (read : Trees). read) u.unknown_zero es tables method (Err f))
      → (f ≡ codes.NoMemory) ⊎ ReadsIn u.unknown_zero u.set.now u.method.now (Err f)
  raw_by f (inl want) fails first = inl want
  raw_by f (inr other) fails first = inr (λ es s.
      let cs = table_codes u.set.now.tables.items in
      raw_as u.unknown_zero es cs method f other (fails cs it.body es s) (first cs it.body es s))

  -- a body that isn't told is raw, or there was no memory
  pub raw_or : (f : CodeFault) → Says (λ es tables. IsReading (λ (read : Trees). read) u.unknown_zero es tables method (Err f))
      → Says (λ es tables. GivesBody (λ (read : Trees). read) u.unknown_zero es tables method (Err f))
      → (f ≡ codes.NoMemory) ⊎ ReadsIn u.unknown_zero u.set.now u.method.now (Err f)
  raw_or f = raw_by f (want_or f)

  -- one that is told reads so, and its pieces are its lines
  pub told_reads : (ts : Trees) → ReadsBy u.unknown_zero u.set.now.space u.bytes.now method ts
      → ReadsIn u.unknown_zero u.set.now u.method.now (Ok ts)
  told_reads ts reads = λ es s. reads.reading (table_codes u.set.now.tables.items) it.body es s

  pub told_lines : (level : ℕ) (ts : Trees) (ps : List Told) (text : List ℕ)
      → ReadsBy u.unknown_zero u.set.now.space u.bytes.now method ts → ps ≡ line_pieces level ts → text ≡ flat_map piece_text ps
      → text ≡ all_lines level ts
  told_lines level ts ps text reads is shown =
      let lawful = reads.lawful in
      shown ∙ ap (flat_map piece_text) is ∙ body_text lawful.0 method.path u.bytes.now level ts lawful.1
