use Rattle.acpidis.proofs.ToldLaws.{set_told}
use Rattle.acpidis.proofs.told.load_texts_alone.Goals as goal

pub or_terms-requires : goal.or_terms-requires
or_terms-requires c = λ each.
    let told = c.in_ok-told.told in
    set_told (record { alloc = c.args.alloc }) c.args.dumps.now c.args.options.now told.0 told.1.items c.in_ok-told.ensures.set each
