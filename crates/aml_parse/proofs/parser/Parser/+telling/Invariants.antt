use Rattle.aml_parse.proofs.Common.{◌≡◌, ◌+◌, ◌-◌, ◌*◌, None, List, length, drop, tree_more, part_more, field_more, Tree, Part, Field}
use Rattle.aml_parse.proofs.Common.{no_fields, unit_names}
use Rattle.std.specs.Prelude.{map, flat_map}
use Rattle.aml_code.specs.Lawful.{last_label, plain_name}
use Rattle.aml_parse.specs.Reading.{parts_at, arguments_at, terms_at, fields_at}
use Rattle.aml_parse.specs.Telling.{read_by, label_at}
use Rattle.aml_code.specs.Pieces.{pieces, items, parts_pieces, field_pieces}
use Rattle.aml_code.specs.declared.rows.Position.{Position}
use Rattle.aml_parse.proofs.Loops.{onto, then_rest, then_all}
use Rattle.aml_parse.proofs.TellLaws.{trees_of, parts_of, is_none, in_line}
use Rattle.aml_parse.proofs.parser.Parser.+telling.Given as goal

abbrev pub decreases-tell_term : goal.decreases-tell_term
decreases-tell_term g l = 8 * l.here.levels

abbrev pub decreases-tell_call : goal.decreases-tell_call
decreases-tell_call g l = 8 * l.here.levels + 6

abbrev pub decreases-tell_arguments : goal.decreases-tell_arguments
decreases-tell_arguments g l = 8 * l.here.levels + 5

abbrev pub decreases-tell_each : goal.decreases-tell_each
decreases-tell_each g l = 8 * l.here.levels + 4

abbrev pub decreases-tell_plain : goal.decreases-tell_plain
decreases-tell_plain g l = 8 * l.here.levels + 6

abbrev pub decreases-tell_packed : goal.decreases-tell_packed
decreases-tell_packed g l = 8 * l.here.levels + 6

abbrev pub decreases-tell_parts : goal.decreases-tell_parts
decreases-tell_parts g l = 8 * l.here.levels + 5

abbrev pub decreases-tell_part : goal.decreases-tell_part
decreases-tell_part g l = 8 * l.here.levels + 4

abbrev pub decreases-tell_child : goal.decreases-tell_child
decreases-tell_child g l = 8 * l.here.levels + 3

abbrev pub decreases-tell_inner : goal.decreases-tell_inner
decreases-tell_inner g l = 8 * l.here.levels + 1

abbrev pub decreases-tell_tail : goal.decreases-tell_tail
decreases-tell_tail g l = 8 * l.here.levels + 5

abbrev pub decreases-tell_lines : goal.decreases-tell_lines
decreases-tell_lines g l = 8 * l.here.levels + 4

abbrev pub decreases-tell_elements : goal.decreases-tell_elements
decreases-tell_elements g l = 8 * l.here.levels + 4

abbrev pub decreases-tell_fields : goal.decreases-tell_fields
decreases-tell_fields g l = 8 * l.here.levels + 4

abbrev pub decreases-tell_field : goal.decreases-tell_field
decreases-tell_field g l = 8 * l.here.levels + 3

abbrev pub decreases-tell_link : goal.decreases-tell_link
decreases-tell_link g l = 8 * l.here.levels + 2

abbrev same : {A : Type 0} → A → A
same x = x

abbrev pub invariant-tell_each-loop-i : goal.invariant-tell_each-loop-i
invariant-tell_each-loop-i g l =
    (front : List Tree) × g.N.Names.fits l.self.names.now l.locals × (
    then_rest same tree_more front (arguments_at (read_by g.N.Names.arity g.N.Names.scope l.self l.here.levels) (l.count - l._i) l.end (g.N.Names.paths l.self.names.now l.locals) l.rest)
    ≡ arguments_at (read_by g.N.Names.arity g.N.Names.scope l.self l.here.levels) l.count l.end (g.N.Names.paths l.self.names.now l.initial.locals) l.initial.rest)
    × (l.is_first ≡ is_none front) × (length front ≡ l._i)
    × g.S.Sink.grew l.initial.sink l.sink (items l.here.level (trees_of front))

abbrev pub invariant-tell_parts-loop-kind : goal.invariant-tell_parts-loop-kind
invariant-tell_parts-loop-kind g l =
    (front : List Part) × g.N.Names.fits l.self.names.now l.locals × (
    then_rest same part_more front (parts_at (read_by g.N.Names.arity g.N.Names.scope l.self l.here.levels) (drop l.kind-index l.kinds) l.end (g.N.Names.paths l.self.names.now l.locals) l.rest)
    ≡ parts_at (read_by g.N.Names.arity g.N.Names.scope l.self l.here.levels) l.kinds l.end (g.N.Names.paths l.self.names.now l.initial.locals) l.initial.rest)
    × (label_at l.end l.label ≡ last_label None (parts_of front)) × (l.is_first ≡ is_none front) × (length front ≡ l.kind-index)
    × g.S.Sink.grew l.initial.sink l.sink (parts_pieces l.here.level (parts_of front))

abbrev pub invariant-tell_lines-loop-turn : goal.invariant-tell_lines-loop-turn
invariant-tell_lines-loop-turn g l =
    (front : List Tree) × g.N.Names.fits l.self.names.now l.locals × (
    then_all same tree_more front (terms_at (read_by g.N.Names.arity g.N.Names.scope l.self l.here.levels) (length l.bytes - l._turn) l.position l.end (g.N.Names.paths l.self.names.now l.locals) l.rest)
    ≡ terms_at (read_by g.N.Names.arity g.N.Names.scope l.self l.here.levels) (length l.bytes) l.initial.position l.end (g.N.Names.paths l.self.names.now l.initial.locals) l.bytes)
    × g.S.Sink.grew l.initial.sink l.sink (flat_map (λ t. in_line l.here.level (pieces l.here.level t)) front)

abbrev pub invariant-tell_elements-loop-turn : goal.invariant-tell_elements-loop-turn
invariant-tell_elements-loop-turn g l =
    (front : List Tree) × g.N.Names.fits l.self.names.now l.locals × (
    then_all same tree_more front (terms_at (read_by g.N.Names.arity g.N.Names.scope l.self l.here.levels) (length l.bytes - l._turn) Position.Data l.end (g.N.Names.paths l.self.names.now l.locals) l.rest)
    ≡ terms_at (read_by g.N.Names.arity g.N.Names.scope l.self l.here.levels) (length l.bytes) Position.Data l.end (g.N.Names.paths l.self.names.now l.initial.locals) l.bytes)
    × (l.is_first ≡ is_none front)
    × g.S.Sink.grew l.initial.sink l.sink (items l.here.level (trees_of front))

abbrev pub invariant-tell_fields-loop-turn : goal.invariant-tell_fields-loop-turn
invariant-tell_fields-loop-turn g l =
    (front : List Field) × g.N.Names.fits l.self.names.now l.locals × (
    then_all same field_more front (fields_at (read_by g.N.Names.arity g.N.Names.scope l.self l.here.levels) (length l.bytes - l._turn) l.end (g.N.Names.paths l.self.names.now l.locals) l.rest)
    ≡ fields_at (read_by g.N.Names.arity g.N.Names.scope l.self l.here.levels) (length l.bytes) l.end (g.N.Names.paths l.self.names.now l.initial.locals) l.bytes)
    × (map plain_name l.units.items ≡ unit_names (onto same field_more front no_fields))
    × g.S.Sink.grew l.initial.sink l.sink (flat_map (λ u. in_line l.here.level (field_pieces l.here.level u)) front)
