-- Reading a table whose code may run forward gives the terms that it reads as, and stops only for a reason that is
-- true.
use Rattle.aml_parse.proofs.Common.{◌≡◌, ℕ, zero, suc, ◌+◌, ◌-◌, ◌≤◌, ◌<◌, Bool, true, false, cond, List, ◌++◌, length}
use Rattle.aml_parse.proofs.Common.{Option, Some, None, Result, Ok, Err, refl, sym, ap, subst, ◌∙◌, arith, inl, inr}
use Rattle.aml_parse.proofs.Common.{append_assoc, length-append, length-take, length-drop, IsBytes, CodeFault, Position}
use Rattle.aml_parse.proofs.Common.{TailKind, Tree, op, Trees, no_trees, tree_more, Parts, Tail, terms, body}
use Rattle.aml_parse.proofs.Common.{opcode_bytes, encoding, encodings, parts_encoding, slice_of, package_bytes}
use Rattle.aml_parse.proofs.Common.{width_len, PathSet, Setting, setting_of, IsLawful, IsTail, HasWidth, has_length}
use Rattle.aml_parse.proofs.Common.{tail_in, option_map, ReadsStep, next_position, has_opcode, PkgWidth, Arities}
use Rattle.aml_parse.proofs.Common.{StandsThere, IsEnd, Row, opcode_some, BodyStands, take, drop, BodiesStand, packed}
use Rattle.aml_parse.proofs.Common.{drop_at, front_length, []}
use Rattle.aml_code.proofs.LengthLaws.{width_some}
use Rattle.std.proofs.Math.Seq.{take-append-add}
use Rattle.std.proofs.lemmas.List.{take_all}
use Rattle.std.proofs.Common.{nat_le}
use Rattle.std.specs.FinSet as set
use Rattle.std.specs.Option.{unwrap_or}
use Rattle.std.specs.Result.{MatchResult}
use Rattle.std.proofs.lemmas.Bool.Decides.{nat_tests}
use Rattle.aml_parse.specs.Reading.{step_at}
use Rattle.aml_parse.specs.Running.{Names, has_terms, is_block, ReadsTerms, Opens, StopsTerms, at_code, at_declaring}
use Rattle.aml_parse.specs.Running.{inside_term, behind_term, ◌>>=◌, SpanReader, in_step, opened_at, run_term_at}
use Rattle.aml_parse.specs.Running.{run_terms_at, run_span_at, run_table_at, ReadsForward, ReadsItAgain, SpellsTable}
use Rattle.aml_parse.proofs.Steps.{step_reads, step_again}
use Rattle.aml_parse.proofs.OneWay.{span_is_inside, some_there}

-- ---- positions of a table whose code may run, and the tails there

abbrev pub is_run : Position → Bool
is_run Position.RunTerm = true
is_run Position.RunAfterIf = true
is_run _ = false

runs_by : (b : Bool) → is_run (cond b Position.RunAfterIf Position.RunTerm) ≡ true
runs_by true = refl
runs_by false = refl

pub runs_on : (p : Position) (t : Tree) → is_run p ≡ true → is_run (next_position p t) ≡ true
runs_on Position.RunTerm t i = runs_by (has_opcode 0xA0 t)
runs_on Position.RunAfterIf t i = runs_by (has_opcode 0xA0 t)
runs_on _ t i = absurd cc

module _ (s : Setting) (Is : Position → PathSet → Tree → Type 0) (q : Position) (ls : PathSet) where
  no_terms_kept : (p : Position) (k : Option TailKind) (ts : Trees) → is_run p ≡ true
      → IsTail s Is q (option_map (tail_in p) k) ls (terms ts) → ⊥
  no_terms_kept p None ts i h = absurd h
  no_terms_kept Position.RunTerm (Some TailKind.Terms) ts i h = absurd h
  no_terms_kept Position.RunTerm (Some _) ts i h = absurd h
  no_terms_kept Position.RunAfterIf (Some TailKind.Terms) ts i h = absurd h
  no_terms_kept Position.RunAfterIf (Some _) ts i h = absurd h
  no_terms_kept _ (Some k) ts i h = absurd cc

  body_kept : (p : Position) (k : Option TailKind) (t : Tail) → is_run p ≡ true → has_terms k ≡ true
      → IsTail s Is q (option_map (tail_in p) k) ls t
      → (start : ℕ) × (len : ℕ) × (t ≡ body start len)
  body_kept Position.RunTerm (Some TailKind.Terms) (body start len) i b h = (start, len, refl)
  body_kept Position.RunTerm (Some TailKind.Terms) _ i b h = absurd h
  body_kept Position.RunAfterIf (Some TailKind.Terms) (body start len) i b h = (start, len, refl)
  body_kept Position.RunAfterIf (Some TailKind.Terms) _ i b h = absurd h
  body_kept p None t i b h = absurd cc
  body_kept p (Some TailKind.Terms) t i b h = absurd cc
  body_kept p (Some _) t i b h = absurd cc

  long_tail : (p : Position) (k : Option TailKind) (start len : ℕ)
      → IsTail s Is q (option_map (tail_in p) k) ls (body start len) → has_length k ≡ true
  long_tail p None start len h = absurd h
  long_tail p (Some k) start len h = refl

module _ (s : Setting) (p : Position) (ls : PathSet) (o : ℕ) (w : Option PkgWidth) (ps : Parts) where
  no_terms : (levels : ℕ) (ts : Trees) → is_run p ≡ true → IsLawful s levels p ls (op o w ps (terms ts)) → ⊥
  no_terms zero ts i h = h
  no_terms (suc levels) ts i h = no_terms_kept s _ _ ls p _ ts i h.tail

  block_tail : (levels : ℕ) (t : Tail) → is_run p ≡ true → is_block (op o w ps t) ≡ true
      → IsLawful s levels p ls (op o w ps t)
      → (start : ℕ) × (len : ℕ) × (t ≡ body start len)
  block_tail zero t i b h = absurd h
  block_tail (suc levels) t i b h =
      let long : has_terms (h.row).tail ≡ true = sym (ap (λ (f : Option Row). unwrap_or (option_map (λ (r : Row). has_terms r.tail) f) false) h.listed) ∙ b in
      body_kept s _ _ ls p _ t i long h.tail

-- ---- the span of the terms inside a term

-- a span of the code that may be read, with so many levels left: each level that is used up took a byte at least
pub record Room (code : List ℕ) (levels at end : ℕ) : Type 0 where
  pub le : at ≤ end
  pub inside : end ≤ length code
  pub is_end : IsEnd code at end
  pub deep : 512 ≤ levels + at

end_on : (code : List ℕ) (at behind end : ℕ) → at ≤ behind → IsEnd code at end → IsEnd code behind end
end_on code at behind end le (inl e) = inl e
end_on code at behind end le (inr (p, w, v, there, is, less)) = inr (p, w, v, there, is, omega (arith, less, le))

room_on : (code : List ℕ) (levels at behind end : ℕ) → at ≤ behind → behind ≤ end → Room code levels at end
    → Room code levels behind end
room_on code levels at behind end le more r =
    record { le = more; inside = r.inside; is_end = end_on code at behind end le r.is_end; deep = omega (arith, r.deep, le) }

slice_length : (code : List ℕ) (start len : ℕ) → start + len ≤ length code → length (slice_of code start len) ≡ len
slice_length code start len le = omega (arith, length-take len (drop start code), length-drop start code, le)

-- what stands behind a text that stands there
there_behind : (code : List ℕ) (at : ℕ) (front text : List ℕ) → StandsThere code at (front ++ text)
    → StandsThere code (at + length front) text
there_behind code at front text h = record {
  before = h.before ++ front;
  behind = h.behind;
  whole = h.whole ∙ ap (λ (b : List ℕ). h.before ++ b) (append_assoc front text h.behind) ∙ sym (append_assoc h.before front (text ++ h.behind));
  offset = omega (arith, h.offset, length-append h.before front);
}

there_front : (code : List ℕ) (at : ℕ) (text more : List ℕ) → StandsThere code at (text ++ more)
    → StandsThere code at text
there_front code at text more h = record {
  before = h.before;
  behind = more ++ h.behind;
  whole = h.whole ∙ ap (λ (b : List ℕ). h.before ++ b) (append_assoc text more h.behind);
  offset = h.offset;
}

module _ (code : List ℕ) (at : ℕ) (o : ℕ) (ps : Parts) (start len : ℕ) where
  width_end : (k : Option TailKind) (w : Option PkgWidth) → has_length k ≡ true
      → HasWidth k w (length (parts_encoding code ps ++ slice_of code start len))
      → start + len ≤ length code
      → StandsThere code at (encoding code (op o w ps (body start len)))
      → BodyStands code at (op o w ps (body start len)) → IsEnd code start (start + len)
  width_end (Some k) None e h le there stand = absurd h
  width_end (Some k) (Some w) e h le there stand =
      let content = parts_encoding code ps ++ slice_of code start len in
      let v = width_len w + length content in
      let first = there_behind code at (opcode_bytes o) (package_bytes w v ++ content) there in
      let size : length content ≡ length (parts_encoding code ps) + len =
      length-append (parts_encoding code ps) (slice_of code start len) ∙ ap (λ (n : ℕ). length (parts_encoding code ps) + n) (slice_length code start len le) in
      inr (
        at + length (opcode_bytes o),
        w,
        v,
        record { fits = h; there = there_front code (at + length (opcode_bytes o)) (package_bytes w v) content first },
        omega (arith, size, stand, front_length code o w ps),
        omega (arith, size, stand, front_length code o w ps, width_some w),
      )
  width_end None w e h le there stand = absurd cc

module _ (arity : Arities) (code : List ℕ) (p : Position) (at end : ℕ) where
  -- the span inside a term
  body_end : (levels o : ℕ) (w : Option PkgWidth) (ps : Parts) (start len behind : ℕ)
      → ReadsStep arity levels p code at end (op o w ps (body start len)) behind → IsEnd code start (start + len)
  body_end zero o w ps start len behind h = absurd h.lawful
  body_end (suc levels) o w ps start len behind h =
      width_end code at o ps start len _ w (long_tail (setting_of arity None code) _ _ _ p _ start len (h.lawful).tail) (h.lawful).width
      (span_is_inside (setting_of arity None code) (suc levels) p set.empty o w ps start len h.lawful) h.spelled h.bodies

  pub level_there : (levels : ℕ) (t : Tree) (behind : ℕ) → ReadsStep arity levels p code at end t behind → 0 < levels
  level_there zero t behind h = absurd h.lawful
  level_there (suc levels) t behind h = omega arith

  pub room_inside : (levels o : ℕ) (w : Option PkgWidth) (ps : Parts) (start len behind : ℕ)
      → ReadsStep arity levels p code at end (op o w ps (body start len)) behind → Room code levels at end
      → Room code (levels - 1) start (start + len)
  room_inside levels o w ps start len behind h r = record {
    le = omega arith;
    inside = span_is_inside (setting_of arity None code) levels p set.empty o w ps start len h.lawful;
    is_end = body_end levels o w ps start len behind h;
    deep = omega (
      arith,
      r.deep,
      level_there levels (op o w ps (body start len)) behind h,
      opcode_some o,
      h.bodies,
      length-append (opcode_bytes o) (packed w (parts_encoding code ps ++ [])),
    );
  }

-- a text that stands there, and the slice behind it, are a slice
slices_joined : (code : List ℕ) (at behind end : ℕ) (text : List ℕ) → StandsThere code at text
    → at + length text ≡ behind → behind ≤ end
    → text ++ slice_of code behind (end - behind) ≡ slice_of code at (end - at)
slices_joined code at behind end text h ends le =
    let n = end - behind in
    let split : code ≡ (h.before ++ text) ++ h.behind = h.whole ∙ sym (append_assoc h.before text h.behind) in
    let past : length (h.before ++ text) ≡ behind = omega (arith, length-append h.before text, h.offset, ends) in
    let more : slice_of code behind n ≡ take n h.behind =
    ap (λ (c : List ℕ). slice_of c behind n) split ∙ ap (take n) (drop_at (h.before ++ text) h.behind behind past) in
    let size : length text + n ≡ end - at = omega (arith, ends, le) in
    let whole : slice_of code at (end - at) ≡ text ++ take n h.behind =
    ap (λ (c : List ℕ). slice_of c at (end - at)) h.whole
    ∙ ap (take (end - at)) (drop_at h.before (text ++ h.behind) at (sym h.offset))
    ∙ ap (λ (k : ℕ). take k (text ++ h.behind)) (sym size) ∙ take-append-add text h.behind n in
    ap (λ (b : List ℕ). text ++ b) more ∙ sym whole

-- ---- reading forward

one_less : (n : ℕ) → n ≡ suc n - 1
one_less n = omega arith

module _ {S E : Type 0} (names : Names S E) (code : List ℕ) where
  abbrev Told : ℕ → Position → ℕ → ℕ → S → Result (Trees × S) E → Type 0
  Told levels p at end s r = MatchResult r (λ x. ReadsTerms names code levels p at end s x.0 x.1) (λ e. StopsTerms names code levels p at end s e)

  -- a term: the step, the term, where it ends, and the state behind it
  abbrev Whole : Type 0
  Whole = (Tree × Tree) × (ℕ × S)

  abbrev IsWhole : ℕ → Position → ℕ → ℕ → S → Whole → Type 0
  IsWhole levels p at end s x =
      (inner : S) × (ended : S) × ReadsStep (names.arity s) levels p code at end x.0.0 x.1.0 × (names.inside s x.0.0 ≡ Ok inner)
      × Opens names code levels x.0.0 inner x.0.1 ended × (x.1.1 ≡ names.behind s ended)

  abbrev WholeTold : ℕ → Position → ℕ → ℕ → S → Result Whole E → Type 0
  WholeTold levels p at end s r = MatchResult r (λ x. IsWhole levels p at end s x) (λ e. StopsTerms names code levels p at end s e)

  abbrev opened_to : ℕ → Option PkgWidth → Parts → Trees × S → Result (Tree × S) E
  opened_to o w ps x = Ok (op o w ps (terms x.0), x.1)

  abbrev whole_to : S → Tree → ℕ → Tree × S → Result Whole E
  whole_to s head behind t = Ok ((head, t.0), (behind, names.behind s t.1))

  abbrev more_to : Whole → Trees × S → Result (Trees × S) E
  more_to x y = Ok (tree_more x.0.1 y.0, y.1)

  -- what reads the terms inside a term, one level deeper
  abbrev Tells : ℕ → SpanReader names code → Type 0
  Tells levels read = (p : Position) (at end : ℕ) (s : S) → is_run p ≡ true → Room code levels at end → Told levels p at end s (read p at end s)

  -- a step that is no block is its term
  opens_itself : (levels : ℕ) (t : Tree) (inner : S) (s : Setting) (p : Position) → is_run p ≡ true → is_block t ≡ false
      → IsLawful s levels p set.empty t
      → Opens names code levels t inner t inner
  opens_itself levels (op o w ps (terms ts)) inner s p i e h = absurd (no_terms s p set.empty o w ps levels ts i h)
  opens_itself levels _ inner s p i e h = (refl, e, refl)

  module _ (levels : ℕ) (read : SpanReader names code) (p : Position) (at end : ℕ) (s : S) (run : is_run p ≡ true) where
    module _ (room : Room code levels at end) (law : 0 < levels → Tells (levels - 1) read) where
      inside_tells : (o : ℕ) (w : Option PkgWidth) (ps : Parts) (start len behind : ℕ) (inner : S)
          → ReadsStep (names.arity s) levels p code at end (op o w ps (body start len)) behind
          → names.inside s (op o w ps (body start len)) ≡ Ok inner
          → is_block (op o w ps (body start len)) ≡ true → (r : Result (Trees × S) E)
          → Told (levels - 1) Position.RunTerm start (start + len) inner r
          → WholeTold levels p at end s
          ((r >>= opened_to o w ps) >>= whole_to s (op o w ps (body start len)) behind)
      inside_tells o w ps start len behind inner reads is block (Ok x) told = (inner, x.1, reads, is, (start, len, refl, block, told), refl)
      inside_tells o w ps start len behind inner reads is block (Err e) told =
          inside_term levels p at end s (op o w ps (body start len)) behind inner e o w ps start len reads is refl block told

      head_tells : (head : Tree) (behind : ℕ) (inner : S) → ReadsStep (names.arity s) levels p code at end head behind
          → names.inside s head ≡ Ok inner
          → (b : Bool) → is_block head ≡ b
          → WholeTold levels p at end s (opened_at names code read b head inner >>= whole_to s head behind)
      head_tells head behind inner reads is false e =
          (inner, inner, reads, is, opens_itself levels head inner (setting_of (names.arity s) None code) p run e reads.lawful, refl)
      head_tells (op o w ps (body start len)) behind inner reads is true e =
          let below = law (level_there (names.arity s) code p at end levels (op o w ps (body start len)) behind reads) in
          let there = room_inside (names.arity s) code p at end levels o w ps start len behind reads room in
          inside_tells o w ps start len behind inner reads is e (read Position.RunTerm start (start + len) inner)
          (below Position.RunTerm start (start + len) inner refl there)
      head_tells (op o w ps t) behind inner reads is true e =
          let kept = block_tail (setting_of (names.arity s) None code) p set.empty o w ps levels t run e reads.lawful in
          absurd (cc kept.2)
      head_tells _ behind inner reads is true e = absurd cc

      declared_tells : (x : Tree × ℕ) → ReadsStep (names.arity s) levels p code at end x.0 x.1 → (r : Result S E)
          → names.inside s x.0 ≡ r
          → WholeTold levels p at end s
          (r >>= λ (inner : S). opened_at names code read (is_block x.0) x.0 inner >>= whole_to s x.0 x.1)
      declared_tells x reads (Ok inner) is = head_tells x.0 x.1 inner reads is (is_block x.0) refl
      declared_tells x reads (Err e) is = at_declaring levels p at end s x.0 x.1 e reads is

      step_tells : IsBytes code → (r : Result (Tree × ℕ) CodeFault) → step_at (names.arity s) levels p code at end ≡ r
          → WholeTold levels p at end s (in_step names code r >>= λ (x : Tree × ℕ). names.inside s x.0 >>= λ (inner : S).
          opened_at names code read (is_block x.0) x.0 inner >>= whole_to s x.0 x.1)
      step_tells fits (Ok x) is =
          let told = step_reads (names.arity s) levels p code at end fits room.le room.inside room.is_end room.deep in
          declared_tells x (told.ok x is) (names.inside s x.0) refl
      step_tells fits (Err f) is =
          let told = step_reads (names.arity s) levels p code at end fits room.le room.inside room.is_end room.deep in
          at_code levels p at end s f (told.fault f is)
          (λ t behind h. absurd (cc (step_again (names.arity s) levels p code at end t behind room.inside h, is)))

      term_tells : IsBytes code → WholeTold levels p at end s (run_term_at names code levels read p at end s)
      unfolding run_term_at
      term_tells fits = step_tells fits (step_at (names.arity s) levels p code at end) refl

  more_told : (levels : ℕ) (p : Position) (at end : ℕ) (s : S) (x : Whole) → IsWhole levels p at end s x
      → (r : Result (Trees × S) E)
      → Told levels (next_position p x.0.0) x.1.0 end x.1.1 r
      → Told levels p at end s (r >>= more_to x)
  more_told levels p at end s x (inner, ended, reads, is, opens, state) (Ok y) told =
      (x.0.0, x.1.0, inner, ended, reads, is, opens, subst (λ (m : S). ReadsTerms names code levels (next_position p x.0.0) x.1.0 end m y.0 y.1) state told)
  more_told levels p at end s x (inner, ended, reads, is, opens, state) (Err e) told =
      behind_term levels p at end s x.0.0 x.1.0 inner e x.0.1 ended reads is opens
      (subst (λ (m : S). StopsTerms names code levels (next_position p x.0.0) x.1.0 end m e) state told)

  module _ (levels : ℕ) (read : SpanReader names code) (law : 0 < levels → Tells (levels - 1) read) (fits : IsBytes code) where
    -- the first term and the terms behind it, by what reading these gives
    some_tell : (n : ℕ) (p : Position) (at end : ℕ) (s : S) → end - at ≤ suc n → is_run p ≡ true
        → Room code levels at end
        → ((q : Position) (from : ℕ) (m : S) → end - from ≤ n → is_run q ≡ true → Room code levels from end
        → Told levels q from end m (run_terms_at names code levels read n q from end m))
        → (b : Bool) → nat_le end at ≡ b
        → Told levels p at end s (cond b (Ok (no_trees, s)) (run_term_at names code levels read p at end s >>= λ (x : Whole).
        run_terms_at names code levels read n (next_position p x.0.0) x.1.0 end x.1.1 >>= more_to x))
    some_tell n p at end s less run room rest true e = (grind (arith, nat_tests, e, room.le), refl)
    some_tell n p at end s less run room rest false e =
        then (run_term_at names code levels read p at end s) (term_tells levels read p at end s run room law fits)
      where
        then : (r : Result Whole E) → WholeTold levels p at end s r
            → Told levels p at end s (r >>= λ (x : Whole). run_terms_at names code levels read n (next_position p x.0.0) x.1.0 end x.1.1 >>= more_to x)
        then (Ok x) (inner, ended, reads, is, opens, state) =
            let some = some_there (names.arity s) levels p code at end x.0.0 x.1.0 reads in
            more_told levels p at end s x (inner, ended, reads, is, opens, state) _
            (rest (next_position p x.0.0) x.1.0 x.1.1 (omega (arith, less, some)) (runs_on p x.0.0 run)
            (room_on code levels at x.1.0 end (omega (arith, some)) reads.inside room))
        then (Err e) told = told

    terms_tell : (n : ℕ) (p : Position) (at end : ℕ) (s : S) → end - at ≤ n → is_run p ≡ true → Room code levels at end
        → Told levels p at end s (run_terms_at names code levels read n p at end s)
    unfolding run_terms_at
    terms_tell zero p at end s less run room = (omega (arith, less, room.le), refl)
    terms_tell (suc n) p at end s less run room =
        some_tell n p at end s less run room (λ q from m more on there. terms_tell n q from end m more on there) (nat_le end at) refl

  span_tells : (levels : ℕ) → IsBytes code → Tells levels (run_span_at names code levels)
  unfolding run_span_at
  span_tells zero fits p at end s run room =
      terms_tell zero (λ p at end s. Ok (no_trees, s)) (λ none. absurd (omega (arith, none))) fits (end - at) p at end s (omega arith) run room
  span_tells (suc levels) fits p at end s run room =
      terms_tell (suc levels) (run_span_at names code levels)
      (λ some. subst (λ (n : ℕ). Tells n (run_span_at names code levels)) (one_less levels) (span_tells levels fits))
      fits (end - at) p at end s (omega arith) run room

  pub table_tells : ReadsForward names code
  unfolding run_table_at
  table_tells first fits =
      span_tells 512 fits Position.RunTerm 0 (length code) first refl
      (record { le = omega arith; inside = omega arith; is_end = inl refl; deep = omega arith })

  -- ---- what a table reads as is read again

  abbrev ReadsAgain : ℕ → SpanReader names code → Type 0
  ReadsAgain levels read =
      (p : Position) (at end : ℕ) (s : S) (ts : Trees) (last : S) → end ≤ length code → ReadsTerms names code levels p at end s ts last
      → read p at end s ≡ Ok (ts, last)

  module _ (levels : ℕ) (read : SpanReader names code) (law : 0 < levels → ReadsAgain (levels - 1) read) where
    opened_again : (head t : Tree) (inner ended : S) (behind at end : ℕ) (s : S) (p : Position)
        → ReadsStep (names.arity s) levels p code at end head behind
        → Opens names code levels head inner t ended
        → opened_at names code read (is_block head) head inner ≡ Ok (t, ended)
    opened_again head (op o w ps (terms ts)) inner ended behind at end s p reads (start, len, is, block, inside) =
        let there : ReadsStep (names.arity s) levels p code at end (op o w ps (body start len)) behind =
        subst (λ (y : Tree). ReadsStep (names.arity s) levels p code at end y behind) is reads in
        let room = span_is_inside (setting_of (names.arity s) None code) levels p set.empty o w ps start len there.lawful in
        let again = law (level_there (names.arity s) code p at end levels head behind reads) Position.RunTerm start (start + len) inner ts ended room inside in
        ap (λ (b : Bool). opened_at names code read b head inner) block
        ∙ ap (λ (y : Tree). opened_at names code read true y inner) is
        ∙ ap (λ (r : Result (Trees × S) E). r >>= opened_to o w ps) again
    opened_again head t inner ended behind at end s p reads h =
        ap (λ (b : Bool). opened_at names code read b head inner) h.1
        ∙ ap (λ (y : Tree). opened_at names code read false y inner) h.0
        ∙ ap (λ (m : S). opened_at names code read false t m) h.2

    term_again : (head t : Tree) (inner ended : S) (behind at end : ℕ) (s : S) (p : Position) → end ≤ length code
        → ReadsStep (names.arity s) levels p code at end head behind → names.inside s head ≡ Ok inner
        → Opens names code levels head inner t ended
        → run_term_at names code levels read p at end s ≡ Ok ((head, t), (behind, names.behind s ended))
    unfolding run_term_at
    term_again head t inner ended behind at end s p room reads is opens =
        ap (λ (r : Result (Tree × ℕ) CodeFault). in_step names code r >>= λ (x : Tree × ℕ). names.inside s x.0 >>= λ (i : S).
        opened_at names code read (is_block x.0) x.0 i >>= whole_to s x.0 x.1) (step_again (names.arity s) levels p code at end head behind room reads)
        ∙ ap (λ (r : Result S E). r >>= λ (i : S). opened_at names code read (is_block head) head i >>= whole_to s head behind) is
        ∙ ap (λ (r : Result (Tree × S) E). r >>= whole_to s head behind) (opened_again head t inner ended behind at end s p reads opens)

    terms_again : (n : ℕ) (p : Position) (at end : ℕ) (s : S) (ts : Trees) (last : S) → end - at ≤ n → end ≤ length code
        → ReadsTerms names code levels p at end s ts last
        → run_terms_at names code levels read n p at end s ≡ Ok (ts, last)
    unfolding run_terms_at
    terms_again zero p at end s no_trees last less room h = ap (λ (m : S). Ok (no_trees, m)) h.1
    terms_again (suc n) p at end s no_trees last less room h =
        let done : nat_le end at ≡ true = grind (arith, nat_tests, h.0) in
        ap (λ (b : Bool). cond b (Ok (no_trees, s)) (run_term_at names code levels read p at end s >>= λ (x : Whole).
        run_terms_at names code levels read n (next_position p x.0.0) x.1.0 end x.1.1 >>= more_to x)) done
        ∙ ap (λ (m : S). Ok (no_trees, m)) h.1
    terms_again zero p at end s (tree_more t ts) last less room (head, behind, inner, ended, reads, is, opens, rest) =
        absurd (omega (arith, less, reads.inside, some_there (names.arity s) levels p code at end head behind reads))
    terms_again (suc n) p at end s (tree_more t ts) last less room (head, behind, inner, ended, reads, is, opens, rest) =
        let some = some_there (names.arity s) levels p code at end head behind reads in
        let on : nat_le end at ≡ false = grind (arith, nat_tests, some, reads.inside) in
        let more = terms_again n (next_position p head) behind end (names.behind s ended) ts last (omega (arith, less, some)) room rest in
        ap (λ (b : Bool). cond b (Ok (no_trees, s)) (run_term_at names code levels read p at end s >>= λ (x : Whole).
        run_terms_at names code levels read n (next_position p x.0.0) x.1.0 end x.1.1 >>= more_to x)) on
        ∙ ap (λ (r : Result Whole E). r >>= λ (x : Whole). run_terms_at names code levels read n (next_position p x.0.0) x.1.0 end x.1.1 >>= more_to x)
        (term_again head t inner ended behind at end s p room reads is opens)
        ∙ ap (λ (r : Result (Trees × S) E). r >>= more_to ((head, t), (behind, names.behind s ended))) more

  span_again : (levels : ℕ) → ReadsAgain levels (run_span_at names code levels)
  unfolding run_span_at
  span_again zero p at end s ts last room h =
      terms_again zero (λ p at end s. Ok (no_trees, s)) (λ none. absurd (omega (arith, none))) (end - at) p at end s ts last (omega arith) room h
  span_again (suc levels) p at end s ts last room h =
      terms_again (suc levels) (run_span_at names code levels)
      (λ some. subst (λ (n : ℕ). ReadsAgain n (run_span_at names code levels)) (one_less levels) (span_again levels))
      (end - at) p at end s ts last (omega arith) room h

  pub table_again : ReadsItAgain names code
  unfolding run_table_at
  table_again first ts last h = span_again 512 Position.RunTerm 0 (length code) first ts last (omega arith) h

  -- ---- the terms are the code

  mutual
    terms_spelled : (levels : ℕ) (p : Position) (at end : ℕ) (s : S) (ts : Trees) (last : S) → end ≤ length code
        → ReadsTerms names code levels p at end s ts last
        → (at ≤ end) × (encodings code ts ≡ slice_of code at (end - at)) × BodiesStand code at ts
    terms_spelled levels p at end s no_trees last room h =
        let none : 0 ≡ end - at = omega (arith, h.0) in
        (omega (arith, h.0), ap (λ (n : ℕ). slice_of code at n) none, tt)
    terms_spelled levels p at end s (tree_more t ts) last room (head, behind, inner, ended, reads, is, opens, rest) =
        let more = terms_spelled levels (next_position p head) behind end (names.behind s ended) ts last room rest in
        let one = term_spelled levels p at end s head t inner ended behind reads opens in
        let ends : behind ≡ at + length (encoding code t) = sym (ap (λ (b : List ℕ). at + length b) one.0 ∙ reads.ends) in (
          omega (arith, some_there (names.arity s) levels p code at end head behind reads, reads.inside),
          ap (λ (b : List ℕ). b ++ encodings code ts) one.0 ∙ ap (λ (b : List ℕ). encoding code head ++ b) more.1
              ∙ slices_joined code at behind end (encoding code head) reads.spelled reads.ends reads.inside,
          (one.1, subst (λ (n : ℕ). BodiesStand code n ts) ends more.2),
        )

    term_spelled : (levels : ℕ) (p : Position) (at end : ℕ) (s : S) (head t : Tree) (inner ended : S) (behind : ℕ)
        → ReadsStep (names.arity s) levels p code at end head behind → Opens names code levels head inner t ended
        → (encoding code t ≡ encoding code head) × BodyStands code at t
    term_spelled levels p at end s head (op o w ps (terms ts)) inner ended behind reads (start, len, is, block, read) =
        let there : ReadsStep (names.arity s) levels p code at end (op o w ps (body start len)) behind =
        subst (λ (y : Tree). ReadsStep (names.arity s) levels p code at end y behind) is reads in
        let room = span_is_inside (setting_of (names.arity s) None code) levels p set.empty o w ps start len there.lawful in
        let inside = terms_spelled (levels - 1) Position.RunTerm start (start + len) inner ts ended room read in
        let size : start + len - start ≡ len = omega arith in
        let text : encodings code ts ≡ slice_of code start len = inside.1 ∙ ap (λ (n : ℕ). slice_of code start n) size in (
          ap (λ (b : List ℕ). opcode_bytes o ++ packed w (parts_encoding code ps ++ b)) text ∙ ap (encoding code) (sym is),
          subst (λ (n : ℕ). BodiesStand code n ts) there.bodies inside.2,
        )
    term_spelled levels p at end s head t inner ended behind reads h = (ap (encoding code) (sym h.0), subst (BodyStands code at) h.0 reads.bodies)

  pub table_spelled : SpellsTable names code
  table_spelled first ts last h =
      let all = terms_spelled 512 Position.RunTerm 0 (length code) first ts last (omega arith) h in
      let size : length code - 0 ≡ length code = omega arith in
      (all.1 ∙ ap (λ (n : ℕ). slice_of code 0 n) size ∙ take_all (length code) code (omega arith), all.2)
