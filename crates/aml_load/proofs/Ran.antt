-- The walk over a table whose code outside methods may run, one term after the other: what was found before, and then
-- what is still read, is all that is read.
use Rattle.std.proofs.Common.{◌≡◌, ℕ, zero, suc, ◌+◌, ◌-◌, ◌≤◌, ◌<◌, true, false, cond, List, Result, Ok, Err, refl}
use Rattle.std.proofs.Common.{sym, ap, subst, ◌∙◌, arith, Bool, inl, inr, ◌⊎◌, Option, Some, None, IsTrue}
use Rattle.aml_code.specs.Lawful.{next_position}
use Rattle.aml_code.specs.Faults.{IsEnd, Arities}
use Rattle.aml_code.specs.Tree.{Tree, op, Trees, Parts, body}
use Rattle.aml_code.specs.declared.packages.PkgWidth.{PkgWidth}
use Rattle.aml_code.specs.declared.rows.Position.{Position}
use Rattle.aml_parse.proofs.Forward.{is_run, runs_on, Room, room_inside, level_there}
use Rattle.aml_parse.proofs.OneWay.{some_there}
use Rattle.aml_parse.specs.Reading.{step_at}
use Rattle.aml_parse.specs.Running.{in_step, SpanReader, is_block, opened_at, run_term_at, run_terms_at, run_span_at}
use Rattle.aml_names.specs.declared.faults.CodeFault.{CodeFault}
use Rattle.aml_names.specs.declared.faults.CodeFault.TheVariants as codes
use Rattle.aml_names.specs.declared.names.Name.{Name}
use Rattle.aml_names.specs.declared.segments.Seg.{Seg}
use Rattle.aml_names.specs.Paths.{PathSet}
use Rattle.aml_namespace.specs.Known.{BodyView, Known, StandsFor, outlook_in}
use Rattle.aml_namespace.specs.Runs.{Outlook, agreed_arity}
use Rattle.aml_namespace.proofs.Stands.{same_outlook}
use Rattle.std.specs.Option.{unwrap_or}
use Rattle.aml_load.specs.declared.faults.LoadFault.{LoadFault}
use Rattle.aml_load.specs.Declaring.{◌>>=◌, Listed, code_fault}
use Rattle.aml_load.specs.Running.{Front, counts_in, entered_at, run_names}
use Rattle.aml_load.specs.declared.runner.Rest.{Rest}
use Rattle.aml_load.specs.Loading.{Where}
use Rattle.aml_load.specs.Runner.{below, opens, span_inside, with_terms, front_at, RoomBy, HasRoom, HasRoomInside}
use Rattle.aml_load.specs.Runner.{IsThere}
use Rattle.aml_load.specs.Tables.{Fails}

abbrev Answer : Type 0
Answer = Result (Trees × Front) LoadFault

module _ (t : ℕ) (code : List ℕ) where
  pub span_is : (levels : ℕ) (p : Position) (at end : ℕ) (f : Front)
      → run_span_at (run_names t) code levels p at end f ≡ run_terms_at (run_names t) code levels (below levels t code) (end - at) p at end f
  unfolding run_span_at
  span_is zero p at end f = refl
  span_is (suc levels) p at end f = refl

  pub below_is : (levels : ℕ) (p : Position) (at end : ℕ) (f : Front) → 0 < levels
      → below levels t code p at end f ≡ run_span_at (run_names t) code (levels - 1) p at end f
  below_is zero p at end f some = absurd (omega (arith, some))
  below_is (suc levels) p at end f some =
      let less : levels ≡ suc levels - 1 = omega arith in
      ap (λ (n : ℕ). run_span_at (run_names t) code n p at end f) less

  -- a block, with the terms inside it
  abbrev put : Tree → Trees × Front → Result (Tree × Front) LoadFault
  put h x = Ok (with_terms h x.0, x.1)

  block_by : (read : SpanReader (run_names t) code) (o : ℕ) (w : Option PkgWidth) (ps : Parts) (start len : ℕ) (f : Front) (b : Bool) (x : ℕ × ℕ)
      → cond b (Some (start, len)) None ≡ Some x
      → opened_at (run_names t) code read b (op o w ps (body start len)) f ≡ (read Position.RunTerm x.0 (x.0 + x.1) f >>= put (op o w ps (body start len)))
  block_by read o w ps start len f true x e =
      let same : (start, len) ≡ x = cc in
      ap (λ (y : ℕ × ℕ). read Position.RunTerm y.0 (y.0 + y.1) f >>= put (op o w ps (body start len))) same
  block_by read o w ps start len f false x e = absurd cc

  pub block_is : (read : SpanReader (run_names t) code) (h : Tree) (f : Front) (x : ℕ × ℕ) → span_inside h ≡ Some x
      → opened_at (run_names t) code read (is_block h) h f ≡ (read Position.RunTerm x.0 (x.0 + x.1) f >>= put h)
  block_is read (op o w ps (body start len)) f x e = block_by read o w ps start len f (opens o) x e
  block_is read _ f x e = absurd cc

  -- what opening a block gives is what its terms give
  pub opened_ok : (levels : ℕ) (h : Tree) (f : Front) (x : ℕ × ℕ) (ts : Trees) (g : Front) → span_inside h ≡ Some x
      → 0 < levels
      → run_span_at (run_names t) code (levels - 1) Position.RunTerm x.0 (x.0 + x.1) f ≡ Ok (ts, g)
      → opened_at (run_names t) code (below levels t code) (is_block h) h f ≡ Ok (with_terms h ts, g)
  opened_ok levels h f x ts g e some read =
      block_is (below levels t code) h f x e
      ∙ ap (λ (r : Answer). r >>= put h) (below_is levels Position.RunTerm x.0 (x.0 + x.1) f some ∙ read)

-- ---- spans

end_on : (code : List ℕ) (at behind end : ℕ) → at ≤ behind → IsEnd code at end → IsEnd code behind end
end_on code at behind end le (inl e) = inl e
end_on code at behind end le (inr (p, w, v, there, is, less)) = inr (p, w, v, there, is, omega (arith, less, le))

pub room_on : (code : List ℕ) (r : Rest) (p : Position) (behind : ℕ) → HasRoom code r → r.at < behind → behind ≤ r.end
    → IsTrue (is_run p)
    → HasRoom code (record { level = r.level; levels = r.levels; position = p; at = behind; end = r.end })
room_on code r p behind h less le run = record {
  short = h.short;
  run = run;
  le = le;
  inside = h.inside;
  is_end = end_on code r.at behind r.end (omega (arith, less)) h.is_end;
  deep = omega (arith, h.deep, less);
}

room_of : (code : List ℕ) (r : Rest) → HasRoom code r → Room code r.levels r.at r.end
room_of code r h = record { le = h.le; inside = h.inside; is_end = h.is_end; deep = h.deep }

-- the span inside a step that stands there may be read
pub room_in : (code : List ℕ) (r : Rest) (h : Tree) (behind : ℕ) → HasRoom code r → IsThere code r h behind
    → HasRoomInside code r.levels h
room_in code r (op o w ps (body start len)) behind has (arity, reads) = by (opens o)
  where
    by : (b : Bool) → RoomBy code r.levels (cond b (Some (start, len)) None)
    by true =
        let room = room_inside arity code r.position r.at r.end r.levels o w ps start len behind reads (room_of code r has) in (
          level_there arity code r.position r.at r.end r.levels (op o w ps (body start len)) behind reads,
          λ level. record { short = has.short; run = refl; le = room.le; inside = room.inside; is_end = room.is_end; deep = room.deep },
        )
    by false = tt
room_in code r _ behind has there = tt

-- what is behind it
pub behind_is : (code : List ℕ) (r : Rest) (h : Tree) (behind : ℕ) (p : Position) → HasRoom code r
    → IsThere code r h behind
    → p ≡ next_position r.position h → (r.at < behind) × (behind ≤ r.end) × IsTrue (is_run p)
behind_is code r h end p has (arity, reads) e = (
  some_there arity r.levels r.position code r.at r.end h end reads,
  reads.inside,
  ap is_run e ∙ runs_on r.position h has.run,
)

module _ (site : Where) (code : List ℕ) (r : Rest) where
  abbrev reader : SpanReader (run_names site.table) code
  reader = below r.levels site.table code

  abbrev walk : Listed → Result ((Tree × Tree) × (ℕ × Front)) LoadFault
  walk l = run_term_at (run_names site.table) code r.levels reader r.position r.at r.end (front_at site l)

  abbrev whole : Listed → Tree × ℕ → Tree × Front → Result ((Tree × Tree) × (ℕ × Front)) LoadFault
  whole l x y = Ok ((x.0, y.0), (x.1, record (front_at site l) { listed = y.1.listed }))

  abbrev in_head : Listed → Tree × ℕ → Front → Result ((Tree × Tree) × (ℕ × Front)) LoadFault
  in_head l x inner = opened_at (run_names site.table) code reader (is_block x.0) x.0 inner >>= whole l x

  walk_is : (l m : Listed) (inner : Where) (x : Tree × ℕ)
      → in_step (run_names site.table) code (step_at (counts_in (front_at site l)) r.levels r.position code r.at r.end) ≡ Ok x
      → entered_at (front_at site l) x.0 ≡ Ok (front_at inner m) → walk l ≡ in_head l x (front_at inner m)
  unfolding run_term_at
  walk_is l m inner x reads enters =
      ap (λ (s : Result (Tree × ℕ) LoadFault). s >>= λ (y : Tree × ℕ). entered_at (front_at site l) y.0 >>= in_head l y) reads
      ∙ ap (λ (s : Result Front LoadFault). s >>= in_head l x) enters

  pub term_is : (l m k : Listed) (inner : Where) (x : Tree × ℕ) (t : Tree)
      → in_step (run_names site.table) code (step_at (counts_in (front_at site l)) r.levels r.position code r.at r.end) ≡ Ok x
      → entered_at (front_at site l) x.0 ≡ Ok (front_at inner m) → inner.table ≡ site.table
      → opened_at (run_names inner.table) code (below r.levels inner.table code) (is_block x.0) x.0 (front_at inner m) ≡ Ok (t, front_at inner k)
      → walk l ≡ Ok ((x.0, t), (x.1, front_at site k))
  term_is l m k inner x t reads enters same opens =
      walk_is l m inner x reads enters
      ∙ ap (λ (s : Result (Tree × Front) LoadFault). s >>= whole l x)
      (subst (λ (n : ℕ). opened_at (run_names n) code (below r.levels n code) (is_block x.0) x.0 (front_at inner m) ≡ Ok (t, front_at inner k)) same opens)

  -- a term that can't be read, or can't do what it does
  pub head_fails : (l : Listed) (e : LoadFault)
      → Fails e (in_step (run_names site.table) code (step_at (counts_in (front_at site l)) r.levels r.position code r.at r.end)
      >>= λ (x : Tree × ℕ). entered_at (front_at site l) x.0)
      → Fails e (walk l)
  unfolding run_term_at
  head_fails l e (inl want) = inl want
  head_fails l e (inr h) =
      inr (by (in_step (run_names site.table) code (step_at (counts_in (front_at site l)) r.levels r.position code r.at r.end)) h)
    where
      by : (s : Result (Tree × ℕ) LoadFault) → (s >>= λ (x : Tree × ℕ). entered_at (front_at site l) x.0) ≡ Err e
          → (s >>= λ (y : Tree × ℕ). entered_at (front_at site l) y.0 >>= in_head l y) ≡ Err e
      by (Ok x) h = ap (λ (q : Result Front LoadFault). q >>= in_head l x) h
      by (Err d) h = let same : d ≡ e = cc in ap (λ (f : LoadFault). Err f) same

  pub term_fails : (l m : Listed) (inner : Where) (x : Tree × ℕ) (e : LoadFault)
      → in_step (run_names site.table) code (step_at (counts_in (front_at site l)) r.levels r.position code r.at r.end) ≡ Ok x
      → entered_at (front_at site l) x.0 ≡ Ok (front_at inner m) → inner.table ≡ site.table
      → Fails e (opened_at (run_names inner.table) code (below r.levels inner.table code) (is_block x.0) x.0 (front_at inner m))
      → Fails e (walk l)
  term_fails l m inner x e reads enters same (inl want) = inl want
  term_fails l m inner x e reads enters same (inr h) = inr (
      walk_is l m inner x reads enters
      ∙ ap (λ (s : Result (Tree × Front) LoadFault). s >>= whole l x)
      (subst (λ (n : ℕ). opened_at (run_names n) code (below r.levels n code) (is_block x.0) x.0 (front_at inner m) ≡ Err e) same h))

-- ---- reading a step

-- the counts that the names of a scope answer are those in front of a term there
counts_are : (v : BodyView) (k : Known) (site : Where) (l : Listed) → v ≡ record { known = k; method = site.scope; unknown_zero = false }
    → StandsFor k l.entries
    → (λ (locals : PathSet) (name : Name). Some (unwrap_or (agreed_arity (outlook_in v.known) v.unknown_zero v.method locals name) 0)) ≡ counts_in (front_at site l)
counts_are v k site l e s =
    let Counts : Outlook → Bool → List Seg → PathSet → Name → Option ℕ = λ o z p locals name. Some (unwrap_or (agreed_arity o z p locals name) 0) in
    ap (λ (w : BodyView). Counts (outlook_in w.known) w.unknown_zero w.method) e
    ∙ ap (λ (o : Outlook). Counts o false site.scope) (same_outlook k l.entries s)

module _ (v : BodyView) (k : Known) (site : Where) (l : Listed) (code : List ℕ) (r : Rest) (e : v ≡ record { known = k; method = site.scope; unknown_zero = false })
    (s : StandsFor k l.entries) where
  abbrev asked : Result (Tree × ℕ) CodeFault
  asked = step_at (λ locals name. Some (unwrap_or (agreed_arity (outlook_in v.known) v.unknown_zero v.method locals name) 0)) r.levels r.position code r.at r.end

  abbrev here : Result (Tree × ℕ) LoadFault
  here = in_step (run_names site.table) code (step_at (counts_in (front_at site l)) r.levels r.position code r.at r.end)

  same_step : asked ≡ step_at (counts_in (front_at site l)) r.levels r.position code r.at r.end
  same_step = ap (λ (counts : Arities). step_at counts r.levels r.position code r.at r.end) (counts_are v k site l e s)

  pub step_read : (x : Tree × ℕ) → asked ≡ Ok x → here ≡ Ok x
  step_read x h = ap (in_step (run_names site.table) code) (sym same_step ∙ h)

  pub step_unread : (f : CodeFault) (d : LoadFault) → (f ≡ codes.NoMemory) ⊎ (asked ≡ Err f)
      → d ≡ code_fault site.table f → Fails d here
  step_unread f d (inl want) is = inl (is ∙ ap (code_fault site.table) want)
  step_unread f d (inr h) is =
      inr (ap (in_step (run_names site.table) code) (sym same_step ∙ h) ∙ ap (λ (x : LoadFault). Err x) (sym is))
