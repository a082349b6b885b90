-- The text of a table's terms, made as their pieces are told: their lines without the bodies of methods, and the places
-- where the lines of these go.
use Rattle.std.specs.Prelude.{◌≡◌, ◌⊎◌, ℕ, Bool, true, false, List, [], ◌∷◌, ◌++◌, ◌-◌, length, map, take, drop}
use Rattle.std.specs.Prelude.{Option, Some, None, option_map, unwrap_or}
use Rattle.std.specs.FinSet as set
use Rattle.std.specs.List.{fold}
use Rattle.aml_code.specs.declared.rows.Position.{Position}
use Rattle.aml_code.specs.declared.rows.Position.TheVariants as positions
use Rattle.aml_code.specs.declared.rows.TailKind.{TailKind}
use Rattle.aml_code.specs.declared.rows.TailKind.TheVariants as kinds
use Rattle.aml_code.specs.Faults.{Arities}
use Rattle.aml_code.specs.Lawful.{IsLawful, ReadsModule, setting_of}
use Rattle.aml_code.specs.Opcodes.{Row, row_of}
use Rattle.aml_code.specs.Pieces.{Told, opcode, next, part, tail, line, deeper, line_pieces}
use Rattle.aml_code.specs.Tree.{Tree, op, Trees, no_trees, tree_more, terms, slice_of, byte, body}
use Rattle.asl_text.specs.declared.tables.Place.{Place}
use Rattle.asl_text.specs.declared.tables.TableLines.{TableLines}
use Rattle.asl_text.specs.declared.tables.TableText.{TableText}
use Rattle.asl_text.specs.Pieces.{piece_text, row_opening, list_opening, list_closing}
use Rattle.asl_text.specs.Texts.{flags_text, indent, block, BodyLines, first_lines}
use Rattle.asl_text.specs.declared.bounded.Bounded.{Bounded}
use Rattle.text_writer.specs.Prints.{quoted, waiting, word}
use Rattle.text_writer.specs.declared.output.Out.{Out}

-- what was made so far: the text, the places in it, the level of the line told last, and whether a method's parts are
-- being told
pub record Made : Type 0 where
  pub text : List ℕ
  pub places : List Place
  pub level : ℕ
  pub in_method : Bool

-- before anything is told
abbrev pub unmade : Made
unmade = record { text = []; places = []; level = 0; in_method = false }

-- the row is a method's: its tail is a body
abbrev pub has_body : Option TailKind → Bool
has_body (Some kinds.Body) = true
has_body _ = false

abbrev pub is_method : Option Row → Bool
is_method None = false
is_method (Some r) = has_body r.tail

-- a piece of a method's parts: its flags are no constant, and begin with a comma
abbrev pub method_piece : Told → List ℕ
method_piece next = []
method_piece (part (byte flags)) = flags_text flags
method_piece p = piece_text p

abbrev pub made_text : Bool → Told → List ℕ
made_text true p = method_piece p
made_text false p = piece_text p

-- a piece that changes the text alone
abbrev pub grown_text : Made → Told → Made
grown_text m p =
    record { text = m.text ++ made_text m.in_method p; places = m.places; level = m.level; in_method = m.in_method }

-- one more piece: a method's body is a place between the braces of terms
abbrev pub grown : Made → Told → Made
grown m (line level) =
    record { text = m.text ++ indent level; places = m.places; level = level; in_method = m.in_method }
grown m (opcode o row w n) =
    record { text = m.text ++ row_opening row n; places = m.places; level = m.level; in_method = is_method row }
grown m (tail (body start len)) = record {
  text = (m.text ++ list_opening kinds.Terms) ++ list_closing kinds.Terms m.level;
  places = m.places
      ++ record { at = length (m.text ++ list_opening kinds.Terms); level = deeper m.level; start = start; len = len }
      ∷ [];
  level = m.level;
  in_method = false;
}
grown m p = grown_text m p

-- all these pieces
abbrev pub made : List Told → Made
made ps = fold grown unmade ps

-- what was printed so far, whole
abbrev pub printed : Out Bounded → List ℕ
printed out = out.inner.now.text.items ++ waiting out

-- what a sink has made so far
abbrev pub made_so_far : TableLines → Made
made_so_far lines = record {
  text = printed lines.out.now;
  places = lines.places.now.items;
  level = lines.level;
  in_method = lines.in_method;
}

-- it prints where it did, and keeps its places there
abbrev pub IsSame : TableLines → TableLines → Type 0
IsSame a b = (b.out.ghost_name ≡ a.out.ghost_name) × (b.places.ghost_name ≡ a.places.ghost_name)

-- unless the writer failed, these pieces were told to the same writer, one after the other
abbrev pub Grew : TableLines → TableLines → List Told → Type 0
Grew a b ps = (b.out.now.inner.ghost_name ≡ a.out.now.inner.ghost_name) × (b.out.now.failed ≡ false
    → (a.out.now.failed ≡ false) × (made_so_far b ≡ fold grown (made_so_far a) ps))

-- unless the writer failed, it has the text of these pieces behind what it had, and their places behind those there were
abbrev pub MakesOf : Out Bounded → Out Bounded → List Place → List Place → List Told → Type 0
MakesOf old new before after ps = let first : Made = record { text = printed old; places = before; level = 0; in_method = false } in
    (new.inner.ghost_name ≡ old.inner.ghost_name) × (new.failed ≡ false → (old.failed ≡ false)
    × (printed new ≡ (fold grown first ps).text) × (after ≡ (fold grown first ps).places))

-- the text is that of these pieces
abbrev pub IsMade : List Told → TableText → Type 0
IsMade ps text = (text.text.items ≡ (made ps).text) × (text.places.items ≡ (made ps).places)

-- The text from an offset on, with the lines of bodies in these places, which lie behind the offset. The bodies are
-- spans of this code.
abbrev pub woven : List ℕ → List BodyLines → List ℕ → ℕ → List Place → List ℕ
woven code bs text from [] = drop from text
woven code bs text from (p ∷ ps) =
    take (p.at - from) (drop from text) ++ (first_lines bs p.level (slice_of code p.start p.len)
    ++ woven code (drop 1 bs) text p.at ps)

-- the levels of places
abbrev pub place_levels : List Place → List ℕ
place_levels ps = map (λ p. p.level) ps

-- ---- A table whose code may run is read from the left, a term by each step.

-- A term as a step reads it: by some counts, with some levels, it is lawful where such a table's code may run. Of the
-- terms inside it their span alone is kept. Where its bytes stand isn't said.
pub record IsStep (code : List ℕ) (t : Tree) : Type 0 where
  pub arity : Arities
  pub levels : ℕ
  pub position : Position
  pub runs : (position ≡ positions.RunTerm) ⊎ (position ≡ positions.RunAfterIf)
  pub lawful : IsLawful (setting_of arity None code) levels position set.empty t

abbrev pub has_terms : Option TailKind → Bool
has_terms (Some kinds.Terms) = true
has_terms _ = false

-- a term with terms inside it
abbrev pub is_block : Tree → Bool
is_block (op o w ps t) = unwrap_or (option_map (λ (r : Row). has_terms r.tail) (row_of o)) false
is_block _ = false

abbrev mutual
  -- terms, each as a step of its own reads it
  pub AreSteps : List ℕ → Trees → Type 0
  AreSteps code no_trees = Unit {0}
  AreSteps code (tree_more t ts) = StandsIn code t × AreSteps code ts

  -- such a term, with the terms inside it, which are so too, in place of their span
  pub StandsIn : List ℕ → Tree → Type 0
  StandsIn code (op o w ps (terms ts)) =
      ((start : ℕ) × (len : ℕ) × IsStep code (op o w ps (body start len))
      × (is_block (op o w ps (body start len)) ≡ true)) × AreSteps code ts
  StandsIn code t = IsStep code t × (is_block t ≡ false)

-- The text was told of these terms: as these the AML of a table reads, or, where its code may run, each of them is as a
-- step reads it.
abbrev pub IsTold : List ℕ → Trees → TableText → Type 0
IsTold code ts text = (ReadsModule code ts ⊎ AreSteps code ts) × IsMade (line_pieces 1 ts) text

-- a definition block of which the text of the terms was told, with these bodies in their places
abbrev pub told_block_text : List ℕ → List ℕ → TableText → List BodyLines → List ℕ
told_block_text name code text bs = block 0 (word "DefinitionBlock (" ++ quoted name ++ word ")")
    (woven code bs text.text.items 0 text.places.items)
