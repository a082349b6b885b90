use Rattle.acpi_tables.proofs.Common.{◌≡◌, ℕ, ◌-◌, ◌++◌, length, drop, replicate, sym, ap, ◌∙◌, arith, length-append}
use Rattle.acpi_tables.proofs.Common.{length-replicate, drop-replicate, little_endian}
use Rattle.acpi_tables.proofs.Numbers.{spells_eight, little_endian-padded}
use Rattle.acpi_tables.proofs.bytes.little_endian.Goals as goal

pub returns : goal.returns
returns c =
    let bytes = c.args.bytes.now in
    let rest = 8 - length bytes in
    let padded : c.copy_from_slice.new.self ++ drop (length bytes) (replicate 8 0) ≡ bytes ++ replicate rest 0 =
    ap (λ front. front ++ drop (length bytes) (replicate 8 0)) c.copy_from_slice.ensures.after
    ∙ ap (λ back. bytes ++ back) (drop-replicate (length bytes) 8 0) in
    let long : length (bytes ++ replicate rest 0) ≡ 8 =
    omega (arith, c.requires, length-append bytes (replicate rest 0), length-replicate {A = ℕ} rest 0) in
    c.from_le_bytes.ensures ∙ sym (spells_eight _ (ap length padded ∙ long)) ∙ ap little_endian padded ∙ little_endian-padded bytes rest
