use Rattle.std.proofs.Common.{◌≡◌, ℕ, [], ◌∷◌, ◌++◌, ◌+◌, ◌<◌, List, drop, take, get_or, length, refl, sym, ap, subst, ◌∙◌, arith}
use Rattle.std.proofs.Math.ListN.{drop_of_length-le}
use Rattle.std.proofs.lemmas.List.{length-append, length-map, get_or-map, drop_more, take_all, take_more}
use Rattle.std.proofs.lemmas.Result.{err_from_is_err_and}
use Rattle.aml_code.specs.Pieces.{Told, line_pieces}
use Rattle.aml_code.specs.Tree.{Trees}
use Rattle.aml_set.specs.Views.{table_codes}
use Rattle.aml_set.specs.declared.tables.Table.{Table}
use Rattle.aml_load.specs.Kept.{AreKeptOf}
unfoldable use Rattle.aml_load.specs.Tables.{tables_at}
use Rattle.aml_load.proofs.Loads.{read_on, fails_on}
use Rattle.aml_load.proofs.loading.hear_tables.Goals as goal

pub loop-number-init : goal.loop-number-init
loop-number-init g c =
    let keeps = g.S.TableSink.keeps in
    (ap length c.new-kept.ensures.items, ([], (subst (AreKeptOf keeps c.args.sink.now [] []) (sym c.new-kept.ensures.items) tt, λ l h. (l, h, refl))))

-- of one table more
module _ {S K : Type 0} (keeps : S → List ℕ → List Told → K → Type 0) (s : S) (code : List ℕ) (ts : Trees) (x : K)
    (one : keeps s code (line_pieces 1 ts) x) where
  kept_more : (codes : List (List ℕ)) (trees : List Trees) (xs : List K) → AreKeptOf keeps s codes trees xs
      → AreKeptOf keeps s (codes ++ code ∷ []) (trees ++ ts ∷ []) (xs ++ x ∷ [])
  kept_more [] [] [] all = (one, tt)
  kept_more [] [] (y ∷ xs) all = absurd all
  kept_more [] (us ∷ trees) xs all = absurd all
  kept_more (c ∷ codes) [] xs all = absurd all
  kept_more (c ∷ codes) (us ∷ trees) [] all = absurd all
  kept_more (c ∷ codes) (us ∷ trees) (y ∷ xs) all = (all.0, kept_more codes trees xs all.1)

-- the AML of the table with this number
module _ (ts : List Table) (n : ℕ) (t : Table) (inside : n < length ts) where
  abbrev code : List ℕ
  code = (get_or ts n t).code.now

  among : n < length (table_codes ts)
  among = omega (arith, inside, length-map ts (λ (t : Table). t.code.now))

  there : code ≡ get_or (table_codes ts) n code
  there = sym (get_or-map (λ (t : Table). t.code.now) ts n t code inside)

  cut : drop n (table_codes ts) ≡ code ∷ drop (n + 1) (table_codes ts)
  cut = drop_more (table_codes ts) n code among ∙ ap (λ c. c ∷ drop (n + 1) (table_codes ts)) (sym there)

  front : take (n + 1) (table_codes ts) ≡ take n (table_codes ts) ++ code ∷ []
  front = take_more (table_codes ts) n code among ∙ ap (λ c. take n (table_codes ts) ++ c ∷ []) (sym there)

pub loop-number-preserved : goal.loop-number-preserved
loop-number-preserved g c =
    let ts = c.args.tables.now in
    let any = c.args.any_run in
    let n = c.loop-number.number in
    let t = c.index-tables-number.result in
    let inside : n < length ts = omega (arith, c.loop-number.auto.number-end, c.loop-number-test.true) in
    let inv = c.loop-number.invariant.1 in
    let one = c.in_ok-progress.ensures.heard in (
      ap length c.in_ok-push.ensures.items ∙ length-append c.loop-number.kept.items (c.in_ok-progress.one ∷ []) ∙ ap (λ k. k + 1) c.loop-number.invariant.0,
      (
        inv.0 ++ one.0 ∷ [],
        (
          rw (front ts n t inside, c.in_ok-push.ensures.items)
              (kept_more g.S.TableSink.keeps c.args.sink.now (code ts n t inside) one.0 c.in_ok-progress.one one.1.0 (take n (table_codes ts)) inv.0
              c.loop-number.kept.items inv.1.0),
          λ l h.
              let w = inv.1.1 l h in
              let read = one.1.1 w.0 w.1 in (
                read.0,
                read.1,
                read_on any n w.0 inv.0 (table_codes ts) (code ts n t inside) (among ts n t inside) (there ts n t inside) one.0 read.0 _ _ _
                    read.2 refl refl w.2,
              ),
        ),
      ),
    )

pub returns-in_err-progress-clause-fails : goal.returns-in_err-progress-clause-fails
returns-in_err-progress-clause-fails g c =
    let ts = c.args.tables.now in
    let n = c.loop-number.number in
    let t = c.index-tables-number.result in
    let inv = c.loop-number.invariant.1 in
    let inside : n < length ts = omega (arith, c.loop-number.auto.number-end, c.loop-number-test.true) in
    let gave = err_from_is_err_and c.from_residual.result c.from_residual.ensures.1 in
    rw (gave.1, gave.2) (λ l h.
    let w = inv.1.1 l h in
    fails_on c.args.any_run n w.0 inv.0 (table_codes ts) (code ts n t inside) (among ts n t inside) (there ts n t inside) _ _
    (c.in_err-progress.ensures.fails w.0 w.1) w.2)

pub returns-clause-heard : goal.returns-clause-heard
unfolding tables_at
returns-clause-heard g c =
    let ts = c.args.tables.now in
    let n = c.loop-number.number in
    let inv = c.loop-number.invariant.1 in
    let none : drop n (table_codes ts) ≡ [] =
    drop_of_length-le (table_codes ts) (omega (arith, c.loop-number.auto.number-end, c.loop-number-test.false, length-map ts (λ (t : Table). t.code.now))) in
    let all : take n (table_codes ts) ≡ table_codes ts =
    take_all n (table_codes ts) (omega (arith, c.loop-number.auto.number-end, c.loop-number-test.false, length-map ts (λ (t : Table). t.code.now))) in
    (inv.0, (rw all at inv.1.0, λ l h. let w = inv.1.1 l h in (w.0, w.1, sym w.2 ∙ ap (tables_at c.args.any_run n inv.0 w.0) none)))

pub returns-clause-each : goal.returns-clause-each
returns-clause-each g c =
    c.loop-number.invariant.0 ∙ omega (arith, c.loop-number.auto.number-end, c.loop-number-test.false)
