use Rattle.std.proofs.Common.{List, Some, None, sym, subst, ap, ◌∙◌, ◌∷◌, []}
use Rattle.aml_names.specs.declared.segments.Seg.{Seg}
use Rattle.std.proofs.lemmas.Option.{get_or_from_slice_get}
use Rattle.aml_namespace.specs.declared.kinds.Kind.TheVariants.{Alias}
use Rattle.aml_namespace.specs.Namespace.{Entry, declares}
use Rattle.aml_namespace.specs.Runs.{outlook_of, open_in}
use Rattle.aml_space.specs.Below.{path_below}
use Rattle.aml_load.specs.Declaring.{◌>>=◌, entry_at, new_at, target_of}
use Rattle.aml_load.specs.Loading.{parent_of, sure_with}
use Rattle.aml_load.specs.Walking.{at_site, sure_of, Walked}
use Rattle.aml_load.proofs.Inside.{same_site, same_below}
use Rattle.aml_load.proofs.walking.Progress.declare_alias.Goals as goal

pub declare_of-requires-clause-target : goal.declare_of-requires-clause-target
declare_of-requires-clause-target c = c.in_ok-target.ensures.among

pub returns-clause-walks : goal.returns-clause-walks
unfolding new_at
returns-clause-walks c l h =
    let old = c.args.self.now.space in
    let new = c.target_of.new.self.space in
    let stays = c.in_ok-target.ensures.stays in
    let site = at_site old c.args.site.now in
    let p = path_below old.paths c.in_ok-path.path in
    let source = path_below old.paths c.args.source.now in
    let held = c.in_ok-target.ensures.holds l h in
    let entry : List Seg → Entry = λ q. declares q (Alias (open_in (outlook_of l.entries) source) (target_of l.entries source)) None
    (sure_with site l.entries (parent_of q ∷ source ∷ [])) in
    let here = same_site old new stays c.args.site.now c.requires.inside in
    let path = same_below old new stays c.in_ok-path.path c.in_ok-path.ensures.below in
    let from = same_below old new stays c.args.source.now c.requires.below in
    let is_open = c.is_open-is_open.ensures.listed l.entries held.space ∙ ap (open_in (outlook_of l.entries)) from in
    let target = get_or_from_slice_get new.paths c.in_ok-target.target (target_of l.entries source) []
    (c.in_ok-target.ensures.target l h.space) in
    subst (Walked c.declare_of.new.self c.declare_of.result)
    ((λ i. entry_at (here i) l (path i) (declares (path i) (Alias (is_open i) (target i)) None (sure_of (here i) l.entries (path i) (Some (from i)))))
    ∙ sym (ap (λ r. r >>= (λ q. entry_at site l q (entry q))) c.in_ok-path.ensures.gives))
    (c.declare_of.ensures.walks l held)
