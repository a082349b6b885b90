use Rattle.std.proofs.Common.{refl, sym}
use Rattle.aml_load.proofs.Givens.{no_methods}
use Rattle.aml_load.proofs.loading.first_progress.Goals as goal

pub returns : goal.returns
returns c = record {
  space = c.in_ok-space_with.ensures.stands;
  numbered = rw c.new.ensures.items tt;
  methods = rw c.new.ensures.items (sym (no_methods c.args.givens.now));
  uses = rw c.new-2.ensures.items refl;
  known = rw c.new-2.ensures.items tt;
}
