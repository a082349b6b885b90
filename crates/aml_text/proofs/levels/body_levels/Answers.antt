use Rattle.aml_text.proofs.Common.{◌≡◌, ℕ, ◌+◌, ◌<◌, List, ◌∷◌, ◌++◌, Option, get_or, length, drop, sym, ap, ap₂, ◌∙◌, arith}
use Rattle.aml_text.proofs.Common.{append_assoc, append-nil, at_drop_all, drop_more, Table}
use Rattle.asl_text.specs.declared.tables.TableText.{TableText}
use Rattle.aml_text.specs.Told.{first_text, levels_kept, table_levels}
use Rattle.aml_text.proofs.levels.body_levels.Goals as goal

pub loop-table-init : goal.loop-table-init
loop-table-init c =
    ap₂ (λ (l : List ℕ) (ts : List Table). l ++ levels_kept ts c.args.tables.texts.now) c.new-levels.ensures.items
    c.deref-table-items.ensures.value

-- one table more
turn : (all : List Table) (i : ℕ) (t : Table) (text : Option TableText) (texts left : List (Option TableText))
    (levels more total : List ℕ) → i < length all → t ≡ get_or all i t → text ≡ first_text texts → left ≡ drop 1 texts
    → more ≡ levels ++ table_levels t text → levels ++ levels_kept (drop i all) texts ≡ total
    → more ++ levels_kept (drop (i + 1) all) left ≡ total
turn all i t text texts left levels more total inside is its others pushed was =
    let rest = drop (i + 1) all in
    let cut : drop i all ≡ t ∷ rest = drop_more all i t inside ∙ ap (λ (x : Table). x ∷ rest) (sym is) in
    ap (λ (l : List ℕ). l ++ levels_kept rest left) pushed
    ∙ ap₂ (λ (x : Option TableText) (xs : List (Option TableText)). (levels ++ table_levels t x) ++ levels_kept rest xs) its others
    ∙ append_assoc levels (table_levels t (first_text texts)) (levels_kept rest (drop 1 texts))
    ∙ ap (λ (ts : List Table). levels ++ levels_kept ts texts) (sym cut) ∙ was

pub loop-table-preserved : goal.loop-table-preserved
loop-table-preserved c =
    turn c.deref-table-items.result.now c.loop-table.table-index c.table-item.result _ c.loop-table.texts.now
    c.other_texts-texts.result.now c.loop-table.levels.items c.push_table_levels.new.levels.items _ c.loop-table-test.true
    c.table-item.is c.first_text.ensures c.other_texts-texts.ensures c.in_ok-push_table_levels.ensures c.loop-table.invariant

pub returns : goal.returns
returns c =
    let none = at_drop_all (λ (left : List Table). c.loop-table.levels.items ++ levels_kept left c.loop-table.texts.now)
    c.deref-table-items.result.now c.loop-table.table-index (omega (arith, c.loop-table-test.false)) in
    sym (append-nil c.loop-table.levels.items) ∙ sym none ∙ c.loop-table.invariant
