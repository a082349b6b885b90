-- The same of terms that were read in steps, where a table's code may run; and of all terms of which a text was told.
use Rattle.asl_text.proofs.Common.{◌≡◌, ℕ, Bool, true, false, List, Option, Some, None, Row, BodyLines, sym, ap, ◌∙◌}
use Rattle.asl_text.proofs.Common.{refl, arith, PkgWidth, deeper, term_lines, terms_lines, op_lines, levels_in}
use Rattle.asl_text.proofs.Common.{all_levels}
use Rattle.std.proofs.Common.{◌⊎◌, inl, inr, suc, zero, not, option_map}
use Rattle.std.specs.FinSet as set
use Rattle.std.specs.Option.{unwrap_or}
use Rattle.aml_code.specs.declared.rows.Position.{Position}
use Rattle.aml_code.specs.declared.rows.Position.TheVariants as positions
use Rattle.aml_code.specs.declared.rows.TailKind.{TailKind}
use Rattle.aml_code.specs.declared.rows.TailKind.TheVariants as tails
use Rattle.aml_code.specs.Faults.{Arities}
use Rattle.aml_code.specs.Lawful.{IsLawful, ReadsModule, setting_of, tail_in}
use Rattle.aml_code.specs.Opcodes.{row_of}
use Rattle.aml_code.specs.Pieces.{line_pieces}
use Rattle.aml_code.specs.Tree.{Tree, op, Trees, no_trees, tree_more, Parts, Tail, terms, body}
use Rattle.asl_text.proofs.TableLaws.{Adds, Keeps, holds_none, term_pieces, adds_none, block_term, line_term}
use Rattle.asl_text.proofs.TableLaws.{module_adds, no_method, terms_then}
use Rattle.asl_text.proofs.WovenLaws.{weave, IsReady}
use Rattle.asl_text.specs.Tables.{AreSteps, IsStep, StandsIn, has_body, has_terms, is_block, made, place_levels, unmade}

abbrev IsRun : Position → Type 0
IsRun p = (p ≡ positions.RunTerm) ⊎ (p ≡ positions.RunAfterIf)

-- where code may run a tail is kept as it is, but for terms
run_tail : (p : Position) (k : Option TailKind) → IsRun p → has_terms k ≡ false → option_map (tail_in p) k ≡ k
run_tail p None run h = refl
run_tail p (Some tails.Terms) run h = absurd cc
run_tail p (Some k) (inl e) h = ap (λ (q : Position). Some (tail_in q k)) e
run_tail p (Some k) (inr e) h = ap (λ (q : Position). Some (tail_in q k)) e

no_body : (k : Option TailKind) → has_terms k ≡ true → not (has_body k) ≡ true
no_body (Some tails.Body) h = absurd cc
no_body _ h = refl

block_row : (o : ℕ) (r : Row) (b : Bool) → row_of o ≡ Some r
    → unwrap_or (option_map (λ (r : Row). has_terms r.tail) (row_of o)) false ≡ b → has_terms r.tail ≡ b
block_row o r b e h =
    sym (ap (λ (x : Option Row). unwrap_or (option_map (λ (r : Row). has_terms r.tail) x) false) e) ∙ h

run_keeps : (p : Position) (t : Tree) → IsRun p → is_block t ≡ false → Keeps p t
run_keeps p (op o w ps t) run h = λ r e. run_tail p r.tail run (block_row o r false e h)
run_keeps p _ run h = tt

module _ (code : List ℕ) where
  -- a term with terms inside, by the step that kept their span
  stepped_block : (arity : Arities) (levels : ℕ) (p : Position) (level o : ℕ) (w : Option PkgWidth) (ps : Parts)
      (t : Tail) (ts : Trees)
      → IsLawful (setting_of arity None code) levels p set.empty (op o w ps t) → is_block (op o w ps t) ≡ true
      → Adds code (line_pieces (deeper level) ts) (λ bs. terms_lines code (Some bs) (deeper level) ts)
      (all_levels (deeper level) ts)
      → Adds code (term_pieces level (op o w ps (terms ts))) (λ bs. op_lines code (Some bs) level o ps (terms ts))
      (all_levels (deeper level) ts)
  stepped_block arity zero p level o w ps t ts h block inside = absurd h
  stepped_block arity (suc levels) p level o w ps t ts h block inside =
      block_term code (setting_of arity None code) levels set.empty level o w h.row.parts ps ts h.parts
      (no_method o h.row h.listed (no_body h.row.tail (block_row o h.row true h.listed block))) inside

  stepped_line : (level : ℕ) (t : Tree) → holds_none t ≡ true → IsStep code t → is_block t ≡ false
      → Adds code (term_pieces level t) (λ bs. term_lines code (Some bs) level t) (levels_in level t)
  stepped_line level t l step flat =
      line_term code (setting_of step.arity None code) step.levels step.position set.empty level t l
      (run_keeps step.position t step.runs flat) step.lawful

  mutual
    stepped_term : (level : ℕ) (t : Tree) → StandsIn code t
        → Adds code (term_pieces level t) (λ bs. term_lines code (Some bs) level t) (levels_in level t)
    stepped_term level (op o w ps (terms ts)) ((start, len, step, block), inside) =
        stepped_block step.arity step.levels step.position level o w ps (body start len) ts step.lawful block
        (stepped_terms (deeper level) ts inside)
    stepped_term level t h = stepped_line level t refl h.0 h.1

    stepped_terms : (level : ℕ) (ts : Trees) → AreSteps code ts
        → Adds code (line_pieces level ts) (λ bs. terms_lines code (Some bs) level ts) (all_levels level ts)
    stepped_terms level no_trees h = adds_none code
    stepped_terms level (tree_more t ts) h =
        terms_then code level t ts (stepped_term level t h.0) (stepped_terms level ts h.1)

  all_add : (level : ℕ) (ts : Trees) → ReadsModule code ts ⊎ AreSteps code ts
      → Adds code (line_pieces level ts) (λ bs. terms_lines code (Some bs) level ts) (all_levels level ts)
  all_add level ts (inl h) = module_adds code level ts h
  all_add level ts (inr h) = stepped_terms level ts h

  pub woven_lines : (bs : List BodyLines) (level : ℕ) (ts : Trees) → ReadsModule code ts ⊎ AreSteps code ts
      → (weave code bs (made (line_pieces level ts)) ≡ terms_lines code (Some bs) level ts)
      × (place_levels (made (line_pieces level ts)).places ≡ all_levels level ts)
  woven_lines bs level ts h =
      let all = all_add level ts h in
      let ready : IsReady unmade = (refl, omega arith) in
      (all.text unmade ready bs, all.places unmade ready)
