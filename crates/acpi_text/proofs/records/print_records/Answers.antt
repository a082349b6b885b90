use Rattle.acpi_text.proofs.Common.{[], refl, ap, sym, subst, flat_map, false≢true, Prints, prints_none, prints_then}
use Rattle.acpi_text.proofs.Common.{walk_start, walk_more, records_of-walk}
use Rattle.acpi_text.proofs.Common.{whole_not_broken, BreaksAt-walk, record_line, flat_map_more}
use Rattle.acpi_text.proofs.records.print_records.Goals as goal

pub loop-at-init : goal.loop-at-init
loop-at-init g c = (walk_start c.args.table.now c.requires.holds.header, prints_none _ _)

pub loop-at-preserved : goal.loop-at-preserved
loop-at-preserved g c =
    let walk = c.loop-at.invariant.0 in
    let line = rw c.in-Some.ensures.bytes at c.print_record_line.ensures in
    rw c.in-Some.ensures.end (
      walk_more c.args.table.now c.loop-at.at walk (c.in-Some.ensures.holds.0 refl),
      subst (Prints g.W.Write.contents c.args.out.now c.print_record_line.new.out) (flat_map_more record_line [] walk.records _)
          (prints_then _ _ _ _ _ _ c.loop-at.invariant.1 line),
    )

pub returns : goal.returns
returns g c =
    subst (Prints g.W.Write.contents c.args.out.now c.loop-at.out)
    (ap (flat_map record_line) (sym (records_of-walk _ _ c.loop-at.invariant.0 c.loop-at-test.false))) c.loop-at.invariant.1

pub returns-in_default : goal.returns-in_default
returns-in_default g c =
    absurd (whole_not_broken c.args.table.now c.loop-at.at c.requires.holds
    (BreaksAt-walk c.args.table.now c.loop-at.at c.loop-at.invariant.0 c.loop-at-test.true
    (λ h. false≢true (c.in_default.ensures.holds.1 h))))
