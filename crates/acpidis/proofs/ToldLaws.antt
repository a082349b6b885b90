-- Of a loaded set whose tables were told each table is printed by its text, which is that of the terms as which it reads.
use Rattle.acpidis.proofs.Common.{◌≡◌, ℕ, suc, ◌+◌, ◌-◌, Bool, true, false, cond, List, [], ◌∷◌, Some, length, subst, refl, ap}
use Rattle.acpidis.proofs.Common.{sym, ◌∙◌, Trees, Entry, ReadsModule, Dump, Options, Table, TableSet, table_codes}
use Rattle.std.proofs.Common.{Option, None, ◌⊎◌, inl, inr}
use Rattle.std.specs.Prelude.{IfSome, is_some, option_map, unwrap_or}
use Rattle.std.specs.List.{AllZip, list_all}
use Rattle.aml_code.specs.Faults.{Arities, most_levels}
use Rattle.aml_code.specs.Lawful.{ReadsStep, has_opcode, next_position}
use Rattle.aml_code.specs.Opcodes.{Row, row_of}
use Rattle.aml_code.specs.Pieces.{Told, line_pieces}
use Rattle.aml_code.specs.Tree.{Tree, nothing, named, op, no_trees, tree_more, terms, bytes, elements, fields, body, empty}
use Rattle.aml_code.specs.declared.rows.Position.{Position}
use Rattle.aml_code.specs.declared.rows.Position.TheVariants as positions
use Rattle.aml_code.specs.declared.rows.TailKind.{TailKind}
use Rattle.aml_code.specs.declared.rows.TailKind.TheVariants as kinds
use Rattle.aml_parse.specs.Running.{has_terms as with_terms, is_block as is_open}
use Rattle.aml_load.specs.Kept.{AreKeptOf}
use Rattle.aml_load.specs.Loading.{TablesLoad, TableLoads, TermsRead, TermReads, Where, counts_at}
use Rattle.aml_text.specs.Told.{AreTold}
use Rattle.asl_text.specs.Tables.{AreSteps, IsMade, IsStep, StandsIn, has_terms, is_block}
use Rattle.asl_text.specs.declared.tables.TableText.{TableText}
use Rattle.asl_text.specs.declared.tables.TableTexts.{TableTexts}
use Rattle.acpidis.specs.Beside.{IsLoaded, IsTextOf}
use Rattle.acpidis.specs.Told.{AreTexts, HasTexts, IsKeptSet}

-- ---- a table whose code may run is read in steps
abbrev IsRun : Position → Type 0
IsRun p = (p ≡ positions.RunTerm) ⊎ (p ≡ positions.RunAfterIf)

if_run : (b : Bool) → IsRun (cond b positions.RunAfterIf positions.RunTerm)
if_run true = inr refl
if_run false = inl refl

next_run : (p : Position) (t : Tree) → IsRun p → IsRun (next_position p t)
next_run p t (inl e) = subst (λ q. IsRun (next_position q t)) (sym e) (if_run (has_opcode 0xA0 t))
next_run p t (inr e) = subst (λ q. IsRun (next_position q t)) (sym e) (if_run (has_opcode 0xA0 t))

same_terms : (k : Option TailKind) → with_terms k ≡ has_terms k
same_terms (Some kinds.Terms) = refl
same_terms (Some _) = refl
same_terms None = refl

same_row : (r : Option Row) → unwrap_or (option_map (λ (r : Row). with_terms r.tail) r) false
    ≡ unwrap_or (option_map (λ (r : Row). has_terms r.tail) r) false
same_row None = refl
same_row (Some r) = same_terms r.tail

same_block : (t : Tree) → is_open t ≡ is_block t
same_block (op o w ps r) = same_row (row_of o)
same_block _ = refl

module _ (z : Bool) (last : List Entry) (code : List ℕ) where
  step_of : (arity : Arities) (levels : ℕ) (p : Position) (at end : ℕ) (t : Tree) (behind : ℕ) → IsRun p
      → ReadsStep arity levels p code at end t behind → IsStep code t
  step_of arity levels p at end t behind run reads =
      record { arity = arity; levels = levels; position = p; runs = run; lawful = reads.lawful }

  whole : (head t : Tree) → IsStep code head → head ≡ t → is_open head ≡ false → IsStep code t × (is_block t ≡ false)
  whole head t step is none = (subst (IsStep code) is step, ap is_block (sym is) ∙ sym (same_block head) ∙ none)

  mutual
    read_steps : (levels : ℕ) (p : Position) (at end : ℕ) (site : Where) (es : List Entry) (ts : Trees) (fs : List Entry)
        → IsRun p → TermsRead z last code levels p at end site es ts fs → AreSteps code ts
    read_steps levels p at end site es no_trees fs run h = tt
    read_steps levels p at end site es (tree_more t ts) fs run (head, behind, inner, below, ms, reads, agrees, does, opens, rest) = (
      stands levels head below inner t ms (step_of (counts_at z last code site es) levels p at end head behind run reads) opens,
      read_steps levels (next_position p head) behind end site ms ts fs (next_run p head run) rest,
    )

    stands : (levels : ℕ) (head : Tree) (below : Where) (inner : List Entry) (t : Tree) (fs : List Entry) → IsStep code head
        → TermReads z last code levels head below inner t fs → StandsIn code t
    stands levels head below inner (op o w ps (terms ts)) fs step (start, len, is, block, inside) = (
      (start, len, subst (IsStep code) is step, ap is_block (sym is) ∙ sym (same_block head) ∙ block),
      read_steps (levels - 1) positions.RunTerm start (start + len) below inner ts fs (inl refl) inside,
    )
    stands levels head below inner nothing fs step opens = whole head nothing step opens.0 opens.1
    stands levels head below inner (named n ts) fs step opens = whole head (named n ts) step opens.0 opens.1
    stands levels head below inner (op o w ps empty) fs step opens = whole head (op o w ps empty) step opens.0 opens.1
    stands levels head below inner (op o w ps (bytes bs)) fs step opens = whole head (op o w ps (bytes bs)) step opens.0 opens.1
    stands levels head below inner (op o w ps (elements ts)) fs step opens = whole head (op o w ps (elements ts)) step opens.0 opens.1
    stands levels head below inner (op o w ps (fields us)) fs step opens = whole head (op o w ps (fields us)) step opens.0 opens.1
    stands levels head below inner (op o w ps (body s n)) fs step opens = whole head (op o w ps (body s n)) step opens.0 opens.1

one_read : (any z : Bool) (last : List Entry) (t : ℕ) (es : List Entry) (code : List ℕ) (ts : Trees) (fs : List Entry)
    → TableLoads any z last t es code ts fs → ReadsModule code ts ⊎ AreSteps code ts
one_read false z last t es code ts fs h = inl h.0
one_read true z last t es code ts fs h = inr (read_steps z last code most_levels positions.RunTerm 0 (length code) _ es ts fs (inl refl) h)

-- ---- tables, each with its text

all_told : (any z : Bool) (last es fs : List Entry) (n : ℕ) (tables : List Table) (trees : List Trees) (texts : List (Option TableText))
    → TablesLoad any z last n es (table_codes tables) trees fs → list_all is_some texts ≡ true → AreTexts trees texts
    → AreTold tables texts trees
all_told any z last es fs n [] [] texts loads each made = tt
all_told any z last es fs n [] (u ∷ us) texts loads each made = absurd loads
all_told any z last es fs n (t ∷ ts) [] texts loads each made = absurd loads
all_told any z last es fs n (t ∷ ts) (u ∷ us) [] loads each made = absurd made
all_told any z last es fs n (t ∷ ts) (u ∷ us) (None ∷ xs) loads each made = absurd cc
all_told any z last es fs n (t ∷ ts) (u ∷ us) (Some x ∷ xs) (ms, one, others) each made =
    ((one_read any z last n es t.code.now u ms one, made.0), all_told any z last ms fs (suc n) ts us xs others each made.1)

-- what is kept of the pieces of tables
abbrev keeps : TableTexts → List ℕ → List Told → Option TableText → Type 0
keeps s code ps text = IfSome text (IsMade ps)

texts_kept : (s : TableTexts) (codes : List (List ℕ)) (trees : List Trees) (texts : List (Option TableText))
    → AreKeptOf keeps s codes trees texts → AreTexts trees texts
texts_kept s [] [] [] are = tt
texts_kept s [] [] (x ∷ xs) are = absurd are
texts_kept s [] (ts ∷ trees) xs are = absurd are
texts_kept s (code ∷ codes) [] xs are = absurd are
texts_kept s (code ∷ codes) (ts ∷ trees) [] are = absurd are
texts_kept s (code ∷ codes) (ts ∷ trees) (x ∷ xs) are = (are.0, texts_kept s codes trees xs are.1)

-- the same tables, as they are seen elsewhere
seen_so : (any z : Bool) (last es fs : List Entry) (n : ℕ) (cs ds : List (List ℕ)) (trees us : List Trees) → ds ≡ cs → us ≡ trees
    → TablesLoad any z last n es cs trees fs → TablesLoad any z last n es ds us fs
seen_so any z last es fs n cs ds trees us p q loads =
    subst (λ xs. TablesLoad any z last n es xs us fs) (sym p) (subst (λ ys. TablesLoad any z last n es cs ys fs) (sym q) loads)

pub set_told : (s : TableTexts) (dumps : List Dump) (options : Options) (x : TableSet) (texts : List (Option TableText))
    → IsKeptSet keeps s dumps options x texts → list_all is_some texts ≡ true → HasTexts dumps options x texts
set_told s dumps options x texts (trees, (from, kept)) each =
    let k = from.sound.0 in
    let has = from.sound.2.holds in
    let read = seen_so _ _ _ _ _ _ _ _ _ _ has.tables has.trees from.sound.1.loads.read in (
      trees,
      (from, all_told _ _ _ _ _ _ x.tables.items trees texts read each (texts_kept s (table_codes x.tables.items) trees texts kept)),
    )

-- ---- texts that were told beside the load

own_texts : (any z : Bool) (last es fs : List Entry) (n : ℕ) (codes : List (List ℕ)) (trees : List Trees)
    (texts : List (Option TableText)) → any ≡ false → TablesLoad any z last n es codes trees fs
    → AllZip (λ code text. IfSome text (IsTextOf code)) codes texts → AreTexts trees texts
own_texts any z last es fs n [] [] [] strict loads own = tt
own_texts any z last es fs n [] [] (x ∷ xs) strict loads own = absurd own
own_texts any z last es fs n [] (u ∷ us) texts strict loads own = absurd loads
own_texts any z last es fs n (c ∷ cs) [] texts strict loads own = absurd loads
own_texts any z last es fs n (c ∷ cs) (u ∷ us) [] strict loads own = absurd own
own_texts true z last es fs n (c ∷ cs) (u ∷ us) (x ∷ xs) strict loads own = absurd cc
own_texts false z last es fs n (c ∷ cs) (u ∷ us) (x ∷ xs) strict (ms, one, others) (text, rest) =
    (by x text, own_texts false z last ms fs (suc n) cs us xs strict others rest)
  where
    by : (x : Option TableText) → IfSome x (IsTextOf c) → IfSome x (IsMade (line_pieces 1 u))
    by None is = tt
    by (Some text) is = is u one.0

pub set_beside : (dumps : List Dump) (options : Options) (x : TableSet) (texts : List (Option TableText))
    → options.any_run ≡ false → IsLoaded dumps options x
    → AllZip (λ code text. IfSome text (IsTextOf code)) (table_codes x.tables.items) texts
    → list_all is_some texts ≡ true → HasTexts dumps options x texts
set_beside dumps options x texts strict (trees, from) own each =
    let has = from.sound.2.holds in
    let read = seen_so _ _ _ _ _ _ _ _ _ _ has.tables has.trees from.sound.1.loads.read in (
      trees,
      (from, all_told _ _ _ _ _ _ x.tables.items trees texts read each (own_texts _ _ _ _ _ _ (table_codes x.tables.items) trees texts strict read own)),
    )
