use Rattle.std.proofs.Common.{Some, ap, ◌∙◌, ◌++◌, ◌∷◌, [], ◌%◌, refl, rules}
use Rattle.aml_namespace.specs.Namespace.{Body}
use Rattle.aml_namespace.proofs.Numbers.{still_at}
use Rattle.aml_namespace.proofs.Stands.{stands_grown}
use Rattle.aml_namespace.specs.declared.kinds.Kind.TheVariants as kinds
use Rattle.aml_space.specs.Below.{path_below}
use Rattle.aml_load.proofs.Inside.{same_below, keeps_on, grows_keeps}
use Rattle.aml_set.specs.declared.methods.Method.{Method as Kept}
use Rattle.aml_load.specs.Declaring.{plus}
use Rattle.aml_load.specs.Loading.{sure_here, method_entry}
use Rattle.aml_load.specs.Walking.{at_site}
use Rattle.aml_load.proofs.Holding.{method_held, entry_free, entry_taken}
use Rattle.aml_load.proofs.walking.Progress.declare_body.Goals as goal

pub returns-in_err-declare_path-clause-walks : goal.returns-in_err-declare_path-clause-walks
returns-in_err-declare_path-clause-walks c l h =
    let site = at_site c.args.self.now.space c.args.site.now in
    let p = (path_below c.args.self.now.space.paths c.args.path.now) in
    let b : Body = record { table = site.table; start = c.args.start; len = c.args.len; flags = c.args.flags } in
    let bad = c.in_err-declare_path.ensures.declared l (Some b) h.space in
    let fails = entry_taken site l p (method_entry site l.entries c.args.flags (c.args.start, c.args.len) p) c.in_err-declare_path.field-0.0 bad in
    search rules

pub returns-clause-walks : goal.returns-clause-walks
returns-clause-walks c l h =
    let p = (path_below c.args.self.now.space.paths c.args.path.now) in
    let site = at_site c.args.self.now.space c.args.site.now in
    let b : Body = record { table = site.table; start = c.args.start; len = c.args.len; flags = c.args.flags } in
    let k = kinds.Method (c.args.flags % 8) in
    let e = method_entry site l.entries c.args.flags (c.args.start, c.args.len) p in
    let d = c.in_ok-declare_path.ensures.declared l (Some b) h.space in
    let more = l.entries ++ e ∷ [] in
    let grows = c.number.ensures.grows in
    let m : Kept = record {
      path = c.in_ok-number.number;
      flags = c.args.flags;
      start = c.args.start;
      len = c.args.len;
      table = site.table;
    } in (
      plus l e,
      method_held c.args.self.now _ l p k b (sure_here site l.entries p) m h (stands_grown _ _ more grows d.1)
          (c.in_ok-push.ensures.items ∙ ap (λ xs. xs ++ m ∷ []) d.2) (c.in_ok-number.ensures.ok ∙ ap Some (same_below c.args.self.now.space c.declare_path.new.self.space c.in_ok-declare_path.ensures.stays c.args.path.now c.requires.below)) refl
          d.3
          (λ id q at. still_at _ _ id q grows (d.4 id q at)),
      entry_free site l p e d.0,
    )

pub returns-clause-stays : goal.returns-clause-stays
returns-clause-stays c = keeps_on c.args.self.now.space c.declare_path.new.self.space c.number.new.self c.in_ok-declare_path.ensures.stays
    (grows_keeps c.declare_path.new.self.space c.number.new.self c.number.ensures.grows)
