-- A table whose code may run, read from the left (ACPI 6.5, 5.3 and 20.2.5): how many arguments a name takes in a term
-- is said by what stands in front of the term, whatever that is; and the terms inside a term stand behind what it
-- declares itself.
use Rattle.std.specs.Prelude.{◌≡◌, ℕ, ◌+◌, ◌-◌, Bool, true, false, List, length, Option, Some, option_map, unwrap_or}
use Rattle.std.specs.Prelude.{Result, Ok, Err, zero, suc, nat_le, if◌then◌else◌, get_or, ◌<◌}
use Rattle.std.specs.Result.{MatchResult}
use Rattle.aml_names.specs.declared.faults.CodeFault.{CodeFault}
use Rattle.aml_code.specs.Faults.{Arities, StandsAt, most_levels}
use Rattle.aml_code.specs.Lawful.{ReadsStep, BodiesStand, next_position}
use Rattle.aml_code.specs.Opcodes.{Row, row_of}
use Rattle.aml_code.specs.Tree.{Tree, op, Trees, no_trees, tree_more, Parts, terms, body, encodings}
use Rattle.aml_code.specs.declared.packages.PkgWidth.{PkgWidth}
use Rattle.aml_code.specs.declared.rows.Position.{Position}
use Rattle.aml_code.specs.declared.rows.TailKind.{TailKind}
use Rattle.aml_parse.specs.Reading.{step_at}

-- What of a namespace the reading asks. Its states S say what stands in front of a term, its faults E why a term can't
-- declare what it declares.
pub record Names (S E : Type 0) : Type 0 where
  -- how many arguments names take in a term, by the state in front of it
  pub arity : S → Arities
  -- the state in front of the terms inside a term: behind what the term declares itself
  pub inside : S → Tree → Result S E
  -- the state behind a term, by the one in front of it and the one in which what is inside it ends
  pub behind : S → S → S
  -- the fault of a term that can't be read
  pub unread : CodeFault → E

abbrev pub has_terms : Option TailKind → Bool
has_terms (Some TailKind.Terms) = true
has_terms _ = false

-- whether a term has terms inside it, by its row
abbrev pub is_block : Tree → Bool
is_block (op o w ps t) = unwrap_or (option_map (λ (r : Row). has_terms r.tail) (row_of o)) false
is_block _ = false

module _ {S E : Type 0} (names : Names S E) (code : List ℕ) where
  abbrev mutual
    -- The terms from an offset on to the end of a span, with at most so many levels, and the states in front of them
    -- and behind them. For each term a step stands there, with the argument counts of the state in front of it.
    pub ReadsTerms : ℕ → Position → ℕ → ℕ → S → Trees → S → Type 0
    ReadsTerms levels p at end s no_trees last = (at ≡ end) × (s ≡ last)
    ReadsTerms levels p at end s (tree_more t ts) last =
        (head : Tree) × (behind : ℕ) × (inner : S) × (ended : S)
        × ReadsStep (names.arity s) levels p code at end head behind × (names.inside s head ≡ Ok inner)
        × Opens levels head inner t ended
        × ReadsTerms levels (next_position p head) behind end (names.behind s ended) ts last

    -- The term of a step: the step itself, or, where terms stand inside it, with these in place of their span. The
    -- states are those in front of what is inside it and behind that.
    pub Opens : ℕ → Tree → S → Tree → S → Type 0
    Opens levels head inner (op o w ps (terms ts)) ended =
        (start : ℕ) × (len : ℕ) × (head ≡ op o w ps (body start len)) × (is_block head ≡ true)
        × ReadsTerms (levels - 1) Position.RunTerm start (start + len) inner ts ended
    Opens levels head inner t ended = (head ≡ t) × (is_block head ≡ false) × (inner ≡ ended)

  -- a table's AML reads as these terms, with the states in front of the table and behind it
  abbrev pub ReadsTable : S → Trees → S → Type 0
  ReadsTable first ts last = ReadsTerms 512 Position.RunTerm 0 (length code) first ts last

  -- A table reads one way: from one state in front of it as the same terms, with the same state behind them.
  abbrev pub ReadsOneWay : Type 0
  ReadsOneWay =
      (first : S) (ts us : Trees) (a b : S) → ReadsTable first ts a → ReadsTable first us b → (ts ≡ us) × (a ≡ b)

  -- The terms that a table reads as are its code, and each method's body is the span where it stands.
  abbrev pub SpellsTable : Type 0
  SpellsTable =
      (first : S) (ts : Trees) (last : S) → ReadsTable first ts last →
      (encodings code ts ≡ code) × BodiesStand code 0 ts

-- ---- Where such a reading stops, and why.

-- The reading of the terms from an offset on to the end of a span, with this state in front of them, stops for this
-- fault: at a term that can't be read, at one that can't declare what it declares, inside a term, or behind one.
pub data StopsTerms {S E : Type 0} (names : Names S E) (code : List ℕ)
    : ℕ → Position → ℕ → ℕ → S → E → Type 0 where
  at_code : (levels : ℕ) (p : Position) (at end : ℕ) (s : S) (fault : CodeFault)
      → StandsAt (names.arity s) code fault
      → ((t : Tree) (behind : ℕ) → ReadsStep (names.arity s) levels p code at end t behind → ⊥)
      → StopsTerms names code levels p at end s (names.unread fault)
  at_declaring : (levels : ℕ) (p : Position) (at end : ℕ) (s : S) (head : Tree) (behind : ℕ) (e : E)
      → ReadsStep (names.arity s) levels p code at end head behind → names.inside s head ≡ Err e
      → StopsTerms names code levels p at end s e
  inside_term : (levels : ℕ) (p : Position) (at end : ℕ) (s : S) (head : Tree) (behind : ℕ) (inner : S) (e : E)
      (o : ℕ) (w : Option PkgWidth) (ps : Parts) (start len : ℕ)
      → ReadsStep (names.arity s) levels p code at end head behind → names.inside s head ≡ Ok inner
      → head ≡ op o w ps (body start len) → is_block head ≡ true
      → StopsTerms names code (levels - 1) Position.RunTerm start (start + len) inner e
      → StopsTerms names code levels p at end s e
  behind_term : (levels : ℕ) (p : Position) (at end : ℕ) (s : S) (head : Tree) (behind : ℕ) (inner : S) (e : E)
      (t : Tree) (ended : S)
      → ReadsStep (names.arity s) levels p code at end head behind → names.inside s head ≡ Ok inner
      → Opens names code levels head inner t ended
      → StopsTerms names code levels (next_position p head) behind end (names.behind s ended) e
      → StopsTerms names code levels p at end s e

-- ---- Reading such a table forward: the terms and the state behind them, or the first fault that is met.

-- one step, and another over what it gave: the first fault is the fault of both
infixl 10 ◌>>=◌
abbrev pub ◌>>=◌ : {A B E : Type 0} → Result A E → (A → Result B E) → Result B E
(Ok x) >>= f = f x
(Err e) >>= f = Err e

module _ {S E : Type 0} (names : Names S E) (code : List ℕ) where
  -- what reads the terms of a span: in a position, from an offset on to the span's end, with a state in front of them
  abbrev pub SpanReader : Type 0
  SpanReader = Position → ℕ → ℕ → S → Result (Trees × S) E

  -- what reading a step gave
  abbrev pub in_step : Result (Tree × ℕ) CodeFault → Result (Tree × ℕ) E
  in_step (Ok x) = Ok x
  in_step (Err fault) = Err (names.unread fault)

  -- the term of a step, with the terms inside it read, if it has such, and the state behind these
  abbrev pub opened_at : SpanReader → Bool → Tree → S → Result (Tree × S) E
  opened_at read true (op o w ps (body start len)) inner = do
    x ← read Position.RunTerm start (start + len) inner
    Ok (op o w ps (terms x.0), x.1)
  opened_at read _ head inner = Ok (head, inner)

  -- a term, where it ends, and the state behind it
  unfoldable pub run_term_at : ℕ → SpanReader → Position → ℕ → ℕ → S → Result ((Tree × Tree) × (ℕ × S)) E
  run_term_at levels read p at end s = do
    x ← in_step (step_at (names.arity s) levels p code at end)
    inner ← names.inside s x.0
    t ← opened_at read (is_block x.0) x.0 inner
    Ok ((x.0, t.0), (x.1, names.behind s t.1))

  -- as many terms as stand there, with at most so many levels, and the terms inside a term read so
  unfoldable pub run_terms_at : ℕ → SpanReader → ℕ → SpanReader
  run_terms_at levels read zero p at end s = Ok (no_trees, s)
  run_terms_at levels read (suc n) p at end s =
      if nat_le end at then Ok (no_trees, s) else (run_term_at levels read p at end s >>= λ x.
      run_terms_at levels read n (next_position p x.0.0) x.1.0 end x.1.1 >>= λ y. Ok (tree_more x.0.1 y.0, y.1))

  unfoldable pub run_span_at : ℕ → SpanReader
  run_span_at zero p at end s = run_terms_at zero (λ p at end s. Ok (no_trees, s)) (end - at) p at end s
  run_span_at (suc levels) p at end s = run_terms_at (suc levels) (run_span_at levels) (end - at) p at end s

  unfoldable pub run_table_at : S → Result (Trees × S) E
  run_table_at first = run_span_at most_levels Position.RunTerm 0 (length code) first

  -- reading forward gives terms that a table of bytes reads as, or a fault for which its reading stops
  abbrev pub ReadsForward : Type 0
  ReadsForward =
      (first : S) → ((i : ℕ) → get_or code i 0 < 256) → MatchResult (run_table_at first)
      (λ x. ReadsTable names code first x.0 x.1)
      (λ e. StopsTerms names code most_levels Position.RunTerm 0 (length code) first e)

  -- it gives the terms that a table reads as
  abbrev pub ReadsItAgain : Type 0
  ReadsItAgain =
      (first : S) (ts : Trees) (last : S) → ReadsTable names code first ts last → run_table_at first ≡ Ok (ts, last)
