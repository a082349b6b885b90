use Rattle.std.proofs.Common.{◌≡◌, ◌*◌, ◌-◌, length, ap, ◌∙◌, arith, drop, take}
use Rattle.std.specs.Prelude.{min}
use Rattle.std.proofs.lemmas.List.{take_all, take_min, drop_min, length-drop}
use Rattle.aml_text.proofs.pieces.piece_at.Goals as goal

pub returns : goal.returns
returns c =
    let rows = c.args.rows.now in
    let begin = c.min-begin.result in
    let rest = drop (c.args.number * 512) rows in
    let there : drop begin rows ≡ rest =
    ap (λ n. drop n rows) {x = begin} {y = min (c.args.number * 512) (length rows)}
    (omega (arith, c.min-begin.ensures, c.saturating_mul.ensures))
    ∙ drop_min (c.args.number * 512) rows in
    let all : take (length rows - begin) (drop begin rows) ≡ rest =
    take_all (length rows - begin) (drop begin rows) (omega (arith, length-drop begin rows)) ∙ there in
    let long = ap length there in
    ap (take c.min.result) all
    ∙ ap (λ n. take n rest) {x = c.min.result} {y = min 512 (length rest)}
    (omega (arith, c.min.ensures, long, length-drop begin rows)) ∙ take_min 512 rest
