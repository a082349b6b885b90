-- The text of a listing: the dumps, the namespace, and the definition blocks of the loaded tables.
use Rattle.std.specs.Prelude.{ℕ, List, ◌∷◌, ◌++◌, map as map_list, zip}
use Rattle.std.specs.FinMap as map
use Rattle.acpi_tables.specs.declared.dump.Dump.{Dump}
use Rattle.acpi_tables.specs.declared.order.Order.{Order}
use Rattle.acpi_tables.specs.Order.{name_of}
use Rattle.acpi_text.specs.Dumps.{dumps_text}
use Rattle.aml_names.specs.declared.segments.Seg.{Seg}
use Rattle.aml_code.specs.Tree.{Trees}
use Rattle.aml_namespace.specs.Known.{Declared}
use Rattle.aml_set.specs.Views.{codes_view, trees_view, table_dumps, table_codes, table_terms}
use Rattle.asl_text.specs.Texts.{OneBody, OneBlock, BodyLines, body_lines, blocks_text}
use Rattle.asl_text.specs.Bodies.{body_view}
use Rattle.aml_text.specs.declared.listing.Listing.{Listing}
use Rattle.aml_text.specs.declared.listing.Tables.{Tables}
use Rattle.aml_text.specs.Rows.{namespace_text}

-- the names of the files of the dumps at these indexes
abbrev pub names_in : List Dump → List ℕ → List (List ℕ)
names_in dumps order = map_list (name_of dumps) order

-- a block, by the name of its table's file, its AML and its terms
abbrev pub a_block : List ℕ × (List ℕ × Trees) → OneBlock
a_block t = record { name = t.0; code = t.1.0; terms = t.1.1 }

abbrev pub blocks_of : List (List ℕ) → List (List ℕ) → List Trees → List OneBlock
blocks_of names codes terms = map_list a_block (zip names (zip codes terms))

-- The text of dumps, of the rows of a namespace and of definition blocks, with the lines of the bodies of their methods
-- in the order of the text.
abbrev pub whole_text : List Dump → List (List Seg × Declared) → List OneBlock → List BodyLines → List ℕ
whole_text dumps rows blocks bodies = dumps_text dumps ++ namespace_text rows ++ blocks_text blocks bodies

-- The text of dumps whose definition blocks are loaded in this order, by the rows of their namespace, the tables' AML
-- and terms, and the bodies of their methods.
abbrev pub listing_text : List Dump → List ℕ → List (List Seg × Declared) → List (List ℕ) → List Trees → List OneBody
    → List ℕ
listing_text dumps order rows codes terms bodies =
    whole_text dumps rows (blocks_of (names_in dumps order) codes terms) (map_list body_lines bodies)

-- ---- tables in memory

-- the indexes of the dumps of an order
abbrev pub indexes_in : Order → List ℕ
indexes_in order = order.dsdt ∷ order.ssdts.items

-- the definition blocks of a listing, and its text
abbrev pub blocks_in : Listing → List OneBlock
blocks_in x = blocks_of (names_in x.dumps.now (indexes_in x.order)) (codes_view x.loaded.tables.items)
    (trees_view x.loaded.trees.items)

abbrev pub shown_text : Listing → List ℕ
shown_text x = whole_text x.dumps.now (map.entries x.loaded.space.declarations) (blocks_in x)
    (map_list body_lines (map_list body_view x.bodies.items))

-- the same of tables without the bodies of their methods
abbrev pub blocks_at : Tables → List OneBlock
blocks_at t = blocks_of (names_in t.dumps.now (table_dumps t.set.now.tables.items)) (table_codes t.set.now.tables.items)
    (table_terms t.set.now.tables.items)
