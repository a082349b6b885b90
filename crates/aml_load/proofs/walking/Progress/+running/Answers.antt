use Rattle.std.proofs.Common.{◌≡◌, ℕ, ◌+◌, ◌-◌, [], ◌∷◌, ◌++◌, Ok, refl, sym, subst, ◌∙◌, arith, rules}
use Rattle.std.proofs.lemmas.List.{append-nil}
use Rattle.aml_code.specs.Pieces.{line_pieces, pieces, tail_pieces}
use Rattle.aml_code.specs.Tree.{Tree, terms}
use Rattle.aml_parse.proofs.TellLaws.{grew_one, in_line, lines_told, told_line, trees_of}
use Rattle.aml_parse.specs.Running.{run_term_at}
use Rattle.aml_load.specs.Opening.{front_pieces}
use Rattle.aml_load.specs.Running.{run_names}
use Rattle.aml_load.specs.Run.{IsBehind, RunsTo}
use Rattle.aml_load.specs.Runner.{front_at, below, with_terms, RoomBy, HasRoom}
use Rattle.aml_load.specs.Tables.{Fails}
use Rattle.aml_load.specs.Walking.{at_site, Holds}
use Rattle.aml_load.proofs.Inside.{same_site, still_among, keeps_on}
use Rattle.aml_load.proofs.Openings.{front_then_terms, front_whole}
use Rattle.aml_load.proofs.Ran.{span_is, opened_ok, room_on, room_in, behind_is, head_fails, term_fails, term_is}
use Rattle.aml_load.proofs.Runs.{opened_none, told_none, done, goes_on, fails}
use Rattle.aml_load.specs.Declaring.{Listed}
use Rattle.aml_load.specs.declared.runner.Rest.{Rest}
use Rattle.aml_parse.specs.declared.step.Behind.{Behind}
use Rattle.aml_code.specs.Lawful.{next_position}
use Rattle.std.proofs.lemmas.Result.{err_from_is_err_and}
use Rattle.aml_load.proofs.walking.Progress.+running.Goals as goal

pub tell_inside-returns-in-None-clause-told : goal.tell_inside-returns-in-None-clause-told
tell_inside-returns-in-None-clause-told g t c = λ h is.
    let level = c.args.rest.level in
    let none = is ∙ c.in-None.is in
    let site = at_site c.args.self.now.space c.args.front.now.inner in (
      h,
      (
        [],
        (
          sym (front_whole level h none) ∙ sym (append-nil (front_pieces level h)),
          (
            g.met.S.Sink.nothing _,
            λ l holds. (
              l,
              holds,
              opened_none site.table c.args.code.now (below c.args.rest.levels site.table c.args.code.now) (front_at site l) h none,
            ),
          ),
        ),
      ),
    )

pub tell_inside-overflow_add-inside : goal.tell_inside-overflow_add-inside
tell_inside-overflow_add-inside g t c =
    let room = (subst (RoomBy c.args.code.now c.args.rest.levels) c.in-Some.is c.requires.room).1 0 in
    omega (arith, room.inside, room.short)

pub tell_inside-tell_terms-requires : goal.tell_inside-tell_terms-requires
tell_inside-tell_terms-requires g t c κs within =
    let room = subst (RoomBy c.args.code.now c.args.rest.levels) c.in-Some.is c.requires.room in
    let some = room.0 in
    (search rules, (search rules, (room.1 c.deeper.result, (c.requires.inside, c.requires.runs))))

pub tell_inside-returns-in_ok-tell-in-Some-2-clause-told : goal.tell_inside-returns-in_ok-tell-in-Some-2-clause-told
tell_inside-returns-in_ok-tell-in-Some-2-clause-told g t c = λ h same.
    let level = c.args.rest.level in
    let code = c.args.code.now in
    let site = at_site c.args.self.now.space c.args.front.now.inner in
    let x : ℕ × ℕ = (c.in-Some.start, c.in-Some.len) in
    let is = same ∙ c.in-Some.is in
    let room = subst (RoomBy code c.args.rest.levels) c.in-Some.is c.requires.room in
    let told = c.in_ok-tell_terms-in-Some.ensures.told in
    let lines = subst (λ n. g.S.Sink.grew c.tell.new.self c.tell_terms.new.sink (line_pieces n told.0)) c.deeper.ensures told.1.0 in
    let further = g.met.S.Sink.further in (
      with_terms h told.0,
      (
        tail_pieces level (terms told.0),
        (
          front_then_terms level h x told.0 is,
          (
            further _ _ _ _ _ c.in_ok-tell-in-Some.ensures (further _ _ _ _ _ lines c.in_ok-tell-in-Some-2.ensures),
            λ l holds.
                let m = told.1.1 l holds in
                (m.0, m.1, opened_ok site.table code c.args.rest.levels h (front_at site l) x told.0 (front_at site m.0) is room.0 m.2),
          ),
        ),
      ),
    )

pub tell_line-tell_inside-requires : goal.tell_line-tell_inside-requires
tell_line-tell_inside-requires g t c κs within =
    let told = c.in_ok-front.ensures.told in
    let step = told.1.1.1.0 in
    let fronts = told.1.1.1.1 in (
      search rules,
      (
        search rules,
        (
          subst (RoomBy c.args.code.now c.args.rest.levels) (sym fronts.inside) (room_in c.args.code.now c.args.rest told.0 _ c.requires.room step.there),
          (fronts.within, c.in_ok-front.ensures.runs),
        ),
      ),
    )

pub tell_line-returns-clause-bounds : goal.tell_line-returns-clause-bounds
tell_line-returns-clause-bounds g t c =
    let told = c.in_ok-front.ensures.told in
    let step = told.1.1.1.0 in
    subst (λ (x : Behind). IsBehind c.args.rest x) (sym told.1.1.1.1.behind)
    (behind_is c.args.code.now c.args.rest told.0 _ _ c.requires.room step.there step.next)

pub tell_line-returns-clause-told : goal.tell_line-returns-clause-told
tell_line-returns-clause-told g t c =
    let site = at_site c.args.self.now.space c.args.site.now in
    let code = c.args.code.now in
    let told = c.in_ok-front.ensures.told in
    let head = told.0 in
    let step = told.1.1.1.0 in
    let fronts = told.1.1.1.1 in
    let level = c.args.rest.level in
    let below = at_site c.tell_head.new.self.space c.in_ok-front.front.inner in
    let inside = c.in_ok-tell_inside.ensures.told head (sym fronts.inside) in
    let further = g.met.S.Sink.further in
    let term = subst (g.S.Sink.grew _ _) (sym inside.1.1.0) (further _ _ _ _ _ told.1.0 inside.1.1.1.0) in (
      inside.0,
      (
        told_line g.S.Sink.grew further level _ _ _ _ (pieces level inside.0) c.in_ok-tell.ensures term c.in_ok-tell-2.ensures,
        subst (λ (x : Behind). RunsTo c.args.self.now c.tell_inside.new.self c.args.site.now c.args.rest code x inside.0) (sym fronts.behind) (λ l h.
            let inner = fronts.enters l h in
            let all = inside.1.1.1.1 inner.0 inner.1 in (
              all.0,
              all.1,
              head,
              term_is site code c.args.rest l inner.0 all.0 below (head, told.1.1.0.behind.at) inside.0 (step.reads l h) inner.2 inner.3 all.2,
              step.next,
            )),
      ),
    )

pub tell_line-returns-in_err-front-clause-fails : goal.tell_line-returns-in_err-front-clause-fails
tell_line-returns-in_err-front-clause-fails g t c =
    let e = c.in_err-front.field-0.0 in
    let gave = err_from_is_err_and c.from_residual-in_err-front.result c.from_residual-in_err-front.ensures.1 in
    rw (gave.1, gave.2) (λ l h.
    head_fails (at_site c.args.self.now.space c.args.site.now) c.args.code.now c.args.rest l e (c.in_err-front.ensures.fails l h))

pub tell_line-returns-in_err-tell_inside-clause-fails : goal.tell_line-returns-in_err-tell_inside-clause-fails
tell_line-returns-in_err-tell_inside-clause-fails g t c =
    let e = c.in_err-tell_inside.field-0.0 in
    let gave = err_from_is_err_and c.from_residual-in_err-tell_inside.result c.from_residual-in_err-tell_inside.ensures.1 in
    let told = c.in_ok-front.ensures.told in
    let step = told.1.1.1.0 in
    let fronts = told.1.1.1.1 in
    rw (gave.1, gave.2) (λ l h.
    let inner = fronts.enters l h in
    term_fails (at_site c.args.self.now.space c.args.site.now) c.args.code.now c.args.rest l inner.0 (at_site c.tell_head.new.self.space c.in_ok-front.front.inner)
    (told.0, told.1.1.0.behind.at) e (step.reads l h) inner.2 inner.3
    (c.in_err-tell_inside.ensures.fails told.0 (sym fronts.inside) inner.0 inner.1))

pub tell_terms-loop-turn-init : goal.tell_terms-loop-turn-init
tell_terms-loop-turn-init g t c =
    let site = at_site c.args.self.now.space c.args.site.now in
    let r = c.args.rest in
    let code = c.args.code.now in (
      c.requires.room,
      refl,
      refl,
      refl,
      omega arith,
      λ id p at. at,
      (
        [],
        (
          g.met.S.Sink.nothing _,
          λ l h. (l, h, told_none _ ∙ sym (span_is site.table code r.levels r.position r.at r.end (front_at site l))),
        ),
      ),
    )

pub tell_terms-returns-then-here-rest-clause-told : goal.tell_terms-returns-then-here-rest-clause-told
tell_terms-returns-then-here-rest-clause-told g t c =
    let site = at_site c.args.self.now.space c.args.site.now in
    let r = c.args.rest in
    let code = c.args.code.now in
    let here = c.loop-turn.here in
    let inv = c.loop-turn.invariant in
    let front = inv.6.0 in (
      trees_of front,
      (
        subst (g.S.Sink.grew _ _) (lines_told r.level front) inv.6.1.0,
        λ l h.
            let w = inv.6.1.1 l h in (
              w.0,
              w.1,
              done site.table code r.levels (below r.levels site.table code) front _ here.position here.at r.end (front_at site w.0)
                  (r.end - c.loop-turn._turn) (omega (arith, c.if-here-rest.true)) w.2,
            ),
      ),
    )

pub tell_terms-tell_line-requires : goal.tell_terms-tell_line-requires
tell_terms-tell_line-requires g t c κs within = (
  search rules,
  (
    search rules,
    (
      c.loop-turn.invariant.0,
      (still_among c.args.self.now.space c.loop-turn.self.space c.loop-turn.invariant.5 c.args.site.now.scope c.requires.inside, c.requires.runs),
    ),
  ),
)

pub tell_terms-returns-in_err-behind-clause-fails : goal.tell_terms-returns-in_err-behind-clause-fails
tell_terms-returns-in_err-behind-clause-fails g t c =
    let site = at_site c.args.self.now.space c.args.site.now in
    let r = c.args.rest in
    let here = c.loop-turn.here in
    let code = c.args.code.now in
    let inv = c.loop-turn.invariant in
    let e = c.in_err-behind.field-0.0 in
    let gave = err_from_is_err_and c.from_residual.result c.from_residual.ensures.1 in
    rw (gave.1, gave.2) (λ l h.
    let w = inv.6.1.1 l h in
    let term = subst (λ v. Fails e (run_term_at (run_names site.table) code here.levels (below here.levels site.table code) here.position here.at here.end
    (front_at v w.0))) (same_site c.args.self.now.space c.loop-turn.self.space inv.5 c.args.site.now c.requires.inside) (c.in_err-behind.ensures.fails w.0 w.1) in
    let here_fails : Fails e (run_term_at (run_names site.table) code r.levels (below r.levels site.table code) here.position here.at r.end (front_at site w.0)) =
    subst (λ n. Fails e (run_term_at (run_names site.table) code n (below n site.table code) here.position here.at r.end (front_at site w.0))) inv.2
    (subst (λ n. Fails e (run_term_at (run_names site.table) code here.levels (below here.levels site.table code) here.position here.at n (front_at site w.0)))
    inv.1 term) in
    let n = r.end - c.loop-turn._turn in
    fails site.table code r.levels (below r.levels site.table code) inv.6.0 _ here.position here.at r.end (front_at site w.0) n (n - 1) e
    (omega (arith, c.loop-turn-test.true)) (omega (arith, c.if-here-rest.false)) here_fails w.2)

pub tell_terms-loop-turn-preserved : goal.tell_terms-loop-turn-preserved
tell_terms-loop-turn-preserved g t c =
    let site = at_site c.args.self.now.space c.args.site.now in
    let r = c.args.rest in
    let here = c.loop-turn.here in
    let code = c.args.code.now in
    let inv = c.loop-turn.invariant in
    let x = c.in_ok-behind.behind in
    let on = c.in_ok-behind.ensures.bounds in
    let read = below r.levels site.table code in
    let n = r.end - c.loop-turn._turn in
    let less : r.end - (c.loop-turn._turn + 1) ≡ n - 1 = omega arith in
    let front = inv.6.0 in
    let told = c.in_ok-behind.ensures.told in
    let line = subst (λ k. g.S.Sink.grew c.loop-turn.sink c.tell_line.new.sink (in_line k (pieces k told.0))) inv.3 told.1.0 in (
      subst (λ (k : Rest). HasRoom code k) (λ i. record { level = inv.3 i; levels = inv.2 i; position = x.position; at = x.at; end = inv.1 i })
          (room_on code here x.position x.at inv.0 on.0 on.1 on.2),
      refl,
      refl,
      refl,
      omega (arith, inv.4, on.0),
      keeps_on c.args.self.now.space c.loop-turn.self.space c.tell_line.new.self.space inv.5 c.in_ok-behind.ensures.stays,
      (
        front ++ told.0 ∷ [],
        (
          grew_one g.S.Sink.grew g.met.S.Sink.further (λ t. in_line r.level (pieces r.level t)) _ _ _ front told.0 inv.6.1.0 line,
          λ l h.
              let w = inv.6.1.1 l h in
              let term = subst (λ v. (m : Listed) × Holds c.tell_line.new.self m × (head : Tree) × (run_term_at (run_names site.table) code here.levels
              (below here.levels site.table code) here.position here.at here.end (front_at v w.0) ≡ Ok ((head, told.0), (x.at, front_at v m)))
              × (x.position ≡ next_position here.position head))
              (same_site c.args.self.now.space c.loop-turn.self.space inv.5 c.args.site.now c.requires.inside) (told.1.1 w.0 w.1) in
              let here_is : run_term_at (run_names site.table) code r.levels read here.position here.at r.end (front_at site w.0)
              ≡ Ok ((term.2, told.0), (x.at, front_at site term.0)) =
              subst (λ k. run_term_at (run_names site.table) code k (below k site.table code) here.position here.at r.end (front_at site w.0)
              ≡ Ok ((term.2, told.0), (x.at, front_at site term.0))) inv.2
              (subst (λ k. run_term_at (run_names site.table) code here.levels (below here.levels site.table code) here.position here.at k (front_at site w.0)
              ≡ Ok ((term.2, told.0), (x.at, front_at site term.0))) inv.1 term.3) in
              let next = goes_on site.table code r.levels read front _ here.position here.at r.end (front_at site w.0) n (n - 1) told.0 term.2
              x.at (front_at site term.0) (omega (arith, c.loop-turn-test.true)) (omega (arith, c.if-here-rest.false)) here_is w.2 in
              (term.0, term.1, rw (less, term.4) next),
        ),
      ),
    )

pub tell_terms-returns-clause-told : goal.tell_terms-returns-clause-told
tell_terms-returns-clause-told g t c =
    let site = at_site c.args.self.now.space c.args.site.now in
    let r = c.args.rest in
    let code = c.args.code.now in
    let here = c.loop-turn.here in
    let inv = c.loop-turn.invariant in
    let front = inv.6.0 in (
      trees_of front,
      (
        subst (g.S.Sink.grew _ _) (lines_told r.level front) inv.6.1.0,
        λ l h.
            let w = inv.6.1.1 l h in (
              w.0,
              w.1,
              done site.table code r.levels (below r.levels site.table code) front _ here.position here.at r.end (front_at site w.0)
                  (r.end - c.loop-turn._turn) (omega (arith, c.loop-turn-test.false, inv.4)) w.2,
            ),
      ),
    )
