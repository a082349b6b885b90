use Rattle.acpidis.proofs.Common.{◌≡◌, length, arith, param_sync, arg_sync, body_in_set, ReadsIn}
use denote.Exit.{no}
use Rattle.acpidis.proofs.Sharing.{keeping_sync}
use Rattle.acpidis.proofs.BodyLaws.{chosen}
use Rattle.acpidis.proofs.bodies.keep_bodies.Goals as goal

pub harvest-requires-sync-W : goal.harvest-requires-sync-W
harvest-requires-sync-W g c κs within = param_sync 1 _ (arg_sync _ no _ (keeping_sync _ _ _ c.type_bounds.sync-K))

pub returns-in-Ok-clause-kept : goal.returns-in-Ok-clause-kept
returns-in-Ok-clause-kept g c =
    let set = c.args.set.now in
    let len : length c.in-Ok.found.items.items ≡ length set.methods.items =
    omega (arith, c.in-Ok.ensures.results.items_len, c.len-count.ensures, c.requires.few) in
    chosen (ReadsIn c.args.unknown_zero set) (λ n. g.K.Keep.keeps c.args.keep.now n (body_in_set set n)) set.methods.items c.in-Ok.found.items.items len
    c.in-Ok.ensures.results.results
