use Rattle.acpidis.proofs.Common.{ℕ, List, true≢false, refl, sym, ap, subst, ◌∙◌, err_from_is_err_and, all_same, tallied}
use Rattle.acpidis.proofs.Common.{tried_marks, blocks_at, check_lines}
use Rattle.std.specs.Io.KnownBytes.{Appends}
use Rattle.acpidis.proofs.CheckLaws.{under_new}
use Rattle.acpidis.proofs.RunLaws.{trials_output, trials_same}
use Rattle.acpidis.proofs.TrialLaws.{firsts_are, checks_are, lines_said}
use Rattle.acpidis.proofs.running.print_trials.Goals as goal

pub count_methods-requires-clause-new : goal.count_methods-requires-clause-new
count_methods-requires-clause-new g c =
    let set = c.args.tables in
    let has = c.requires.set in
    rw (firsts_are set.dumps.now set.set.now.tables.items has.0 c.args.tried.tables.items has.1.1) (under_new _)

pub returns-in_err-write_tables : goal.returns-in_err-write_tables
returns-in_err-write_tables g c =
    let set = c.args.tables in
    let has = c.requires.set in
    let bodies = c.args.tried.bodies.now in
    let firsts = c.args.tried.tables.items in
    let counted = c.count_methods.ensures ∙ ap (λ ms. tallied (tried_marks ms bodies) 0 firsts) c.as_slice.ensures.value in
    let lines = ap (check_lines (blocks_at set)) c.as_slice-2.ensures.value
    ∙ lines_said set.dumps.now set.set.now.tables.items has.0 firsts _ (tried_marks set.set.now.methods.items bodies) has.1.1 counted in
    let output = trials_output set.dumps.now c.args.options.now set.set.now has.0 has.1.0 _ _ refl c.requires.kept in
    let gave = err_from_is_err_and c.from_residual-in_err-write_tables.result c.from_residual-in_err-write_tables.ensures.1 in
    let cut = rw lines at c.in_err-write_tables.ensures in
    rw (gave.1, gave.2) (record { status = _; text = _; wrote = _; lists = output.lists; cut = cut })

pub returns-then-not-are_same : goal.returns-then-not-are_same
returns-then-not-are_same g c =
    let set = c.args.tables in
    let has = c.requires.set in
    let bodies = c.args.tried.bodies.now in
    let firsts = c.args.tried.tables.items in
    let counted = c.count_methods.ensures ∙ ap (λ ms. tallied (tried_marks ms bodies) 0 firsts) c.as_slice.ensures.value in
    let checked = c.as_slice-3.ensures.value
    ∙ checks_are set.dumps.now set.set.now.tables.items has.0 firsts _ (tried_marks set.set.now.methods.items bodies) has.1.1 counted in
    let same = trials_same set.dumps.now c.args.options.now set.set.now has.0 has.1.0 _ _ refl c.requires.kept in
    absurd (true≢false (sym (ap all_same checked ∙ same) ∙ sym c.if-not-are_same.ensures))

pub returns : goal.returns
returns g c =
    let set = c.args.tables in
    let has = c.requires.set in
    let bodies = c.args.tried.bodies.now in
    let firsts = c.args.tried.tables.items in
    let counted = c.count_methods.ensures ∙ ap (λ ms. tallied (tried_marks ms bodies) 0 firsts) c.as_slice.ensures.value in
    let lines = ap (check_lines (blocks_at set)) c.as_slice-2.ensures.value
    ∙ lines_said set.dumps.now set.set.now.tables.items has.0 firsts _ (tried_marks set.set.now.methods.items bodies) has.1.1 counted in
    let output = trials_output set.dumps.now c.args.options.now set.set.now has.0 has.1.0 _ _ refl c.requires.kept in (
      _,
      rw c.status_of_bodies.ensures output,
      subst (λ (text : List ℕ). Appends (g.O.Write.contents c.args.out.now) (g.O.Write.contents c.write_tables.new.out) text) lines
          c.in_ok-write_tables.ensures,
    )
