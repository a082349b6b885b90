use Rattle.acpi_tables.proofs.Common.{◌≡◌, ◌-◌, length, take, drop, ap, ◌∙◌, arith, length-drop, take_all, take_min}
use Rattle.acpi_tables.proofs.Common.{drop_min, little_endian, number_at}
use Rattle.acpi_tables.proofs.fields.TableField.number_in.Goals as goal

pub returns : goal.returns
unfolding number_at
returns c =
    let bytes = c.args.bytes.now in
    let at = c.min.result in
    let behind = take (length bytes - at) (drop at bytes) in
    let all : behind ≡ drop at bytes = take_all _ _ (omega (arith, length-drop at bytes)) in
    let front = all ∙ ap (λ n. drop n bytes) c.min.ensures ∙ drop_min c.args.self.now.offset bytes in
    c.little_endian.ensures
    ∙ ap little_endian (ap (λ n. take n behind) c.min-2.ensures ∙ take_min c.args.self.now.width behind ∙ ap (take c.args.self.now.width) front)
