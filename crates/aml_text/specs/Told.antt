-- The text of a listing of tables of which either the text of the terms is kept, or the terms.
use Rattle.std.specs.Prelude.{◌≡◌, ℕ, List, [], ◌∷◌, ◌++◌, Option, Some, None, length, drop}
use Rattle.std.specs.FinMap as map
use Rattle.acpi_tables.specs.declared.dump.Dump.{Dump}
use Rattle.acpi_tables.specs.Order.{name_of}
use Rattle.acpi_text.specs.Dumps.{dumps_text}
use Rattle.aml_code.specs.Tree.{Trees}
use Rattle.aml_code.specs.View.{nodes_view}
use Rattle.aml_set.specs.declared.tables.Table.{Table}
use Rattle.aml_text.specs.Rows.{namespace_text}
use Rattle.aml_text.specs.declared.listing.Tables.{Tables}
use Rattle.asl_text.specs.Tables.{IsTold, place_levels, told_block_text}
use Rattle.asl_text.specs.Texts.{BodyLines, all_levels, block_text, left_all}
use Rattle.asl_text.specs.declared.tables.TableText.{TableText}

-- the first of some texts, if there is one
abbrev pub first_text : List (Option TableText) → Option TableText
first_text [] = None
first_text (text ∷ others) = text

-- the definition block of a table, by its text, or by its terms where there is none
abbrev pub table_text : List ℕ → Table → Option TableText → List BodyLines → List ℕ
table_text name t (Some text) bs = told_block_text name t.code.now text bs
table_text name t None bs = block_text name t.code.now (nodes_view t.terms.items) bs

-- the bodies that it leaves
abbrev pub table_left : Table → Option TableText → List BodyLines → List BodyLines
table_left t (Some text) bs = drop (length text.places.items) bs
table_left t None bs = left_all (nodes_view t.terms.items) bs

-- definition blocks, one after the other: each takes the bodies of its own methods, and the next one those that are left
abbrev pub kept_blocks : List Dump → List Table → List (Option TableText) → List BodyLines → List ℕ
kept_blocks dumps [] texts bs = []
kept_blocks dumps (t ∷ ts) texts bs = table_text (name_of dumps t.dump) t (first_text texts) bs
    ++ kept_blocks dumps ts (drop 1 texts) (table_left t (first_text texts) bs)

-- the text of the dumps of a set, of the rows of its namespace and of such blocks
abbrev pub kept_text : Tables → List BodyLines → List ℕ
kept_text t bs = dumps_text t.dumps.now ++ namespace_text (map.entries t.set.now.space.declarations)
    ++ kept_blocks t.dumps.now t.set.now.tables.items t.texts.now bs

-- the levels of the bodies
abbrev pub table_levels : Table → Option TableText → List ℕ
table_levels t (Some text) = place_levels text.places.items
table_levels t None = all_levels 1 (nodes_view t.terms.items)

abbrev pub levels_kept : List Table → List (Option TableText) → List ℕ
levels_kept [] texts = []
levels_kept (t ∷ ts) texts = table_levels t (first_text texts) ++ levels_kept ts (drop 1 texts)

-- the text of a table was told of these terms, or these are the terms that it keeps
abbrev pub IsToldBy : Table → Option TableText → Trees → Type 0
IsToldBy t (Some text) x = IsTold t.code.now x text
IsToldBy t None x = nodes_view t.terms.items ≡ x

-- the same of tables, in their order
abbrev pub AreTold : List Table → List (Option TableText) → List Trees → Type 0
AreTold [] texts [] = Unit {0}
AreTold (t ∷ ts) texts (x ∷ xs) = IsToldBy t (first_text texts) x × AreTold ts (drop 1 texts) xs
AreTold _ _ _ = ⊥
