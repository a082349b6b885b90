-- The bodies of methods, and what is kept of them in memory.
use Rattle.std.specs.Prelude.{◌≡◌, ℕ, List, Result, Ok, Err, map}
use Rattle.aml_names.specs.declared.faults.CodeFault.{CodeFault}
use Rattle.aml_code.specs.Tree.{Trees}
use Rattle.aml_code.specs.View.{nodes_view}
use Rattle.asl_text.specs.declared.blocks.Block.{Block}
use Rattle.asl_text.specs.declared.bodies.Body.{Body}
use Rattle.asl_text.specs.declared.bodies.Body.TheVariants as bodies
use Rattle.asl_text.specs.declared.bodies.BodyText.{BodyText}
use Rattle.asl_text.specs.declared.bodies.BodyText.TheVariants as texts
use Rattle.asl_text.specs.declared.bodies.Bodies.{Bodies}
use Rattle.asl_text.specs.declared.bodies.Bodies.TheVariants as all_bodies
use Rattle.asl_text.specs.Texts.{line, all_lines, raw_text, OneBody, read, raw, OneBlock, BodyLines, body_lines}

-- what a body stands for: the fault of a raw one isn't printed
abbrev pub body_view : Body → OneBody
body_view (bodies.Tree nodes) = read (nodes_view nodes.items)
body_view (bodies.Raw fault) = raw

-- the lines that were printed of a body before, or those of the terms that are kept in their place
abbrev pub kept_lines : BodyText → ℕ → List ℕ
kept_lines (texts.Lines text) level = text.items
kept_lines (texts.Terms nodes) level = all_lines level (nodes_view nodes.items)

-- the lines of a body of which this is kept, or of one that can't be read
abbrev pub printed_lines : Result BodyText CodeFault → BodyLines
printed_lines (Ok text) level bs = kept_lines text level
printed_lines (Err fault) level bs = line level (raw_text bs)

-- these lines at a level are kept of terms, or the terms
abbrev pub IsText : ℕ → Trees → BodyText → Type 0
IsText level ts (texts.Lines text) = text.items ≡ all_lines level ts
IsText level ts (texts.Terms nodes) = nodes_view nodes.items ≡ ts

-- the lines of bodies, whatever is kept of them
abbrev pub bodies_lines : Bodies → List BodyLines
bodies_lines (all_bodies.Read bodies) = map body_lines (map body_view bodies.now)
bodies_lines (all_bodies.Printed texts) = map printed_lines texts.now

-- a block as its bytes and terms, wherever they lie
abbrev pub block_view : Block → OneBlock
block_view b = record { name = b.name.now; code = b.code.now; terms = nodes_view b.nodes.now }
