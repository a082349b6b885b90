use Rattle.std.proofs.Common.{◌≡◌, ℕ, false, List, [], ◌∷◌, Result, Ok, Err, None, refl, sym, ap, subst, inl, inr, ◌∙◌}
use Rattle.std.specs.Prelude.{IfOk, IfErr}
use Rattle.aml_names.specs.NameReading.{Fails as NotRead}
use Rattle.aml_names.specs.declared.faults.CodeFault.{CodeFault}
use Rattle.aml_code.specs.declared.rows.Position.TheVariants as positions
use Rattle.aml_parse.specs.Reading.{all_at}
use Rattle.aml_code.specs.Lawful.{no_arguments}
use Rattle.aml_code.specs.Pieces.{line_pieces}
use Rattle.aml_code.specs.Tree.{Trees}
use Rattle.aml_load.specs.Declaring.{◌>>=◌, Listed, code_fault}
use Rattle.aml_load.specs.Running.{Front, table_front, behind_trees, behind_table}
use Rattle.aml_load.specs.Hearing.{Heard, behind_terms, terms}
use Rattle.aml_load.specs.HearingViews.{Ended, Says, begun}
use Rattle.aml_load.specs.Loading.{Where}
unfoldable use Rattle.aml_load.specs.Tables.{table_at}
use Rattle.aml_load.specs.Tables.{Fails, in_code}
use Rattle.aml_load.specs.Walking.{Holds, root_at}
use Rattle.aml_load.specs.declared.faults.LoadFault.{LoadFault}
use Rattle.aml_load.specs.declared.walking.Progress.{Progress}
use Rattle.aml_load.proofs.HearingLaws.{lines_listed}
use Rattle.aml_load.proofs.hearer.TableHearingTelling.tell_all.Goals as goal

-- what was answered is what the terms declare
ended_ok : (w : Where) (made : Progress) (d : Result Front LoadFault) → Ended (Ok made) (behind_terms w [] d)
    → (m : Listed) × Holds made m × ((d >>= λ f. Ok f.listed) ≡ Ok m)
ended_ok w made (Ok f) (x, h, is) =
    let same : record { listed = f.listed; term = None; around = terms w ∷ [] } ≡ x = cc in
    (f.listed, subst (Holds made) (sym (ap (λ (x : Heard). x.listed) same)) h, refl)
ended_ok w made (Err e) (x, h, is) = absurd cc

ended_err : (w : Where) (e : LoadFault) (d : Result Front LoadFault) → Ended (Err e) (behind_terms w [] d)
    → Fails e (d >>= λ f. Ok f.listed)
ended_err w e d (inl want) = inl want
ended_err w e (Ok f) (inr is) = absurd cc
ended_err w e (Err d) (inr is) = let same : d ≡ e = cc in inr (ap Err same)

if_ok : (r : Result Progress LoadFault) (F : Progress → Type 0) → ((made : Progress) → r ≡ Ok made → F made) → IfOk r F
if_ok (Ok made) F f = f made refl
if_ok (Err e) F f = tt

if_err : (r : Result Progress LoadFault) (F : LoadFault → Type 0) → ((e : LoadFault) → r ≡ Err e → F e) → IfErr r F
if_err (Ok made) F f = tt
if_err (Err e) F f = f e refl

-- the table, by its terms and what these declare
module _ (t : ℕ) (l : Listed) (code : List ℕ) (ts : Trees) (reads : all_at no_arguments None positions.ModuleTerm code ≡ Ok ts) where
  abbrev then : Result Listed LoadFault → Result (Trees × Listed) LoadFault
  then d = d >>= λ m. Ok (ts, m)

  table_is : table_at false t l code ≡ then (behind_table false t l ts)
  unfolding table_at
  table_is = ap (λ (r : Result Trees LoadFault). r >>= λ ts. behind_table false t l ts >>= λ m. Ok (ts, m)) (ap (in_code t) reads)

  table_ok : (m : Listed) → behind_table false t l ts ≡ Ok m → table_at false t l code ≡ Ok (ts, m)
  table_ok m is = table_is ∙ ap then is

  table_err : (e : LoadFault) → Fails e (behind_table false t l ts) → Fails e (table_at false t l code)
  table_err e (inl want) = inl want
  table_err e (inr is) = inr (table_is ∙ ap then is)

pub returns-in-Ok-clause-told : goal.returns-in-Ok-clause-told
returns-in-Ok-clause-told g c =
    let told = c.in-Ok.ensures.told in
    let ts = told.0 in
    let t = c.args.self.table in
    let w = root_at false t in
    let new = c.tell_both.new.first in
    if_ok c.ended.result _ (λ made is. (
      line_pieces 1 ts,
      (
        (
          ts,
          (
            refl,
            λ l h.
                let said : Says (new.hearing, new.fault) (behind_terms w [] (behind_trees (table_front false t l) ts)) =
                subst (Says (new.hearing, new.fault)) (lines_listed 1 ts l w [] refl) (told.1.1.0 (Ok (begun t l)) (c.in_ok-hearer.ensures l h)) in
                let ended = subst (λ (r : Result Progress LoadFault). Ended r (behind_terms w [] (behind_trees (table_front false t l) ts))) is
                (c.ended.ensures (behind_terms w [] (behind_trees (table_front false t l) ts)) said) in
                let all = ended_ok w made (behind_trees (table_front false t l) ts) ended in
                (all.0, all.1, table_ok t l c.args.self.code.now ts told.1.0 all.0 all.2),
          ),
        ),
        told.1.1.1,
      ),
    ))

pub returns-in-Ok-clause-fails : goal.returns-in-Ok-clause-fails
returns-in-Ok-clause-fails g c =
    let told = c.in-Ok.ensures.told in
    let ts = told.0 in
    let t = c.args.self.table in
    let w = root_at false t in
    let new = c.tell_both.new.first in
    if_err c.ended.result _ (λ e is l h.
    let said : Says (new.hearing, new.fault) (behind_terms w [] (behind_trees (table_front false t l) ts)) =
    subst (Says (new.hearing, new.fault)) (lines_listed 1 ts l w [] refl) (told.1.1.0 (Ok (begun t l)) (c.in_ok-hearer.ensures l h)) in
    let ended = subst (λ (r : Result Progress LoadFault). Ended r (behind_terms w [] (behind_trees (table_front false t l) ts))) is
    (c.ended.ensures (behind_terms w [] (behind_trees (table_front false t l) ts)) said) in
    table_err t l c.args.self.code.now ts told.1.0 e (ended_err w e (behind_trees (table_front false t l) ts) ended))

-- the fault of the bytes is that of the table
read_fails : (t : ℕ) (l : Listed) (code : List ℕ) (e : CodeFault) → NotRead e (all_at no_arguments None positions.ModuleTerm code)
    → Fails (code_fault t e) (table_at false t l code)
unfolding table_at
read_fails t l code e (inl want) = inl (ap (code_fault t) want)
read_fails t l code e (inr fails) =
    inr (ap (λ (r : Result Trees LoadFault). r >>= λ ts. behind_table false t l ts >>= λ m. Ok (ts, m)) (ap (in_code t) fails))

pub returns-in-Err-clause-fails : goal.returns-in-Err-clause-fails
returns-in-Err-clause-fails g c = λ l h.
    rw c.in_code.ensures (read_fails c.args.self.table l c.args.self.code.now c.in-Err.fault c.in-Err.ensures.fails)
