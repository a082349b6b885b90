use Rattle.acpidis.proofs.Common.{◌≡◌, ℕ, zero, suc, ◌-◌, List, [], refl, subst, get_or, arith, IfSome, Dump, Options, Table, table_codes, length, ◌<◌, sym}
use Rattle.std.proofs.Common.{Option}
use Rattle.std.proofs.lemmas.List.{get_or-map}
use Rattle.asl_text.specs.declared.tables.TableText.{TableText}
use Rattle.acpidis.specs.Beside.{IsPart, IsTextOf}
use Rattle.acpidis.specs.declared.beside.Part.TheVariants as parts
use Rattle.acpidis.proofs.beside.BesideWork.work.Goals as goal

text_part : (dumps : List Dump) (options : Options) (codes : List (List ℕ)) (n : ℕ) (text : Option TableText) → (n ≡ 0 → ⊥)
    → IfSome text (IsTextOf (get_or codes (n - 1) [])) → IsPart dumps options codes n (parts.Text text)
text_part dumps options codes zero text some is = absurd (some refl)
text_part dumps options codes (suc n) text some is =
    subst (λ m. IfSome text (IsTextOf (get_or codes m []))) {x = suc n - 1} {y = n} (omega arith) is

pub returns : goal.returns
returns c =
    let w = c.args.self.now in
    let some = c.if-number-eq0.false in
    let within : c.args.number - 1 < length w.tables.now = omega (arith, some, c.requires) in
    text_part w.dumps.now w.options.now (table_codes w.tables.now) c.args.number c.text_of.result some
    (subst (λ code. IfSome c.text_of.result (IsTextOf code))
    (sym (get_or-map (λ (t : Table). t.code.now) w.tables.now (c.args.number - 1) c.index-self-number.result [] within)) c.text_of.ensures)
