use Rattle.acpidis.proofs.Common.{length, refl, sym, ap, ◌∙◌, subst, IfOk-weaker, IfSome, table_codes, body_in, ReadsIn}
use Rattle.std.proofs.lemmas.Option.{slice_get_read}
use Rattle.acpidis.proofs.bodies.KeepingWork.work.Goals as goal

pub keep-requires : goal.keep-requires
keep-requires g c = record { short = c.span-bytes.ensures.short; body = c.span-bytes.ensures.bytes }

pub returns : goal.returns
returns g c =
    let keeping = c.args.self.now in
    let set = keeping.set.now in
    let ms = set.methods.items in
    let there = slice_get_read ms (length ms) c.args.number c.index-method.result.now refl c.requires c.index-method.ensures in
    let bytes = c.span-bytes.ensures.bytes ∙ ap (body_in (table_codes set.tables.items)) (sym there) in
    IfOk-weaker c.keep.result _ _ (λ done k. (
      k.0,
      subst (λ o. IfSome o (λ m. ReadsIn keeping.unknown_zero set m k.0)) (sym there) k.1.0,
      subst (λ bs. g.K.Keep.keeps keeping.keep.now c.args.number bs k.0 done) bytes k.1.1,
    )) c.keep.ensures
