use Rattle.aml_parse.proofs.Common.{rules, PartKind, TailKind, ◌≡◌, ◌+◌, ◌-◌, ◌++◌, length, drop, get_or, [], ◌∷◌, inr}
use Rattle.aml_parse.proofs.Common.{Some, None, Ok, ap, sym, subst, refl, ◌∙◌, arith, add-one, drop-cons, drop_all}
use Rattle.aml_parse.proofs.Common.{Tree, Part, Field, row_view, no_trees, tree_more, no_parts, part_more, no_fields}
use Rattle.aml_parse.proofs.Common.{field_more, nothing, named, op, empty, terms, elements, fields, child, connection}
use Rattle.aml_parse.proofs.Common.{buffer, append-nil, length-append, Position, field_view, tail_in}
use Rattle.aml_code.specs.Tree.{bytes}
use Rattle.aml_code.proofs.Views.{view-field-Connection}
use Rattle.std.specs.Prelude.{map}
use Rattle.aml_code.specs.Lawful.{last_label, plain_name, unit_names}
use Rattle.aml_code.specs.Pieces.{Told, deeper, pieces, items, field_pieces, line_pieces, fields_pieces}
use Rattle.aml_parse.specs.Reading.{field_at, body_to}
use Rattle.aml_parse.specs.Telling.{read_by}
use Rattle.aml_parse.proofs.Opened.{opcode_read}
use Rattle.aml_parse.proofs.Loops.{onto, parts_go_on, parts_fails, parts_end, arguments_go_on, arguments_fails, arguments_end}
use Rattle.aml_parse.proofs.Loops.{go_on, fails, runs_out, done}
use Rattle.aml_parse.proofs.TellLaws.{rest_none, all_none, trees_of, parts_of, some_now, trees_counted, parts_counted, in_line, lines_told}
use Rattle.aml_parse.proofs.TellLaws.{fields_told, grew_one, told_line, told_item, told_part, told_call, told_op, told_list, told_link}
use Rattle.aml_parse.proofs.TellLaws.{label_one, units_one, taken_listed, IsOneField}
use Rattle.aml_parse.proofs.TellLaws.{call_is, plain_is, packed_is, no_lead, name_read, nothing_read, opcode_stops}
use Rattle.aml_parse.proofs.TellLaws.{reserved_read, access_read, extended_read, named_read, link_name, link_buffer, connection_read}
use Rattle.aml_parse.proofs.ShortLaws.{none_read}
use Rattle.aml_code.specs.View.{link_view}
use Rattle.aml_parse.proofs.parser.Parser.+telling.Goals as goal
use Rattle.aml_parse.proofs.parser.Parser.+telling.Goals.{tell_field-in-0+in_ok-reserved_unit_of-in-0}
use Rattle.aml_parse.proofs.parser.Parser.+telling.Goals.{tell_field-in-1+in_ok-access_unit_of-in-1}
use Rattle.aml_parse.proofs.parser.Parser.+telling.Goals.{tell_field-in-3+in_ok-extended_unit_of-in-3}
use Rattle.aml_parse.proofs.parser.Parser.+telling.Goals.{tell_field-in_default+in_ok-field-in_default}

abbrev same : {A : Type 0} → A → A
same x = x

-- ---- arguments

pub tell_each-loop-i-init : goal.tell_each-loop-i-init
tell_each-loop-i-init g t c =
    let all : c.args.count - 0 ≡ c.args.count = omega arith in
    ([], c.requires.fits, rw all (rest_none tree_more _), refl, refl, g.met.S.Sink.nothing _)

pub tell_each-returns-in_err-rest-clause-fails : goal.tell_each-returns-in_err-rest-clause-fails
tell_each-returns-in_err-rest-clause-fails g t c =
    let inv = c.loop-i.invariant in
    let failed =
    arguments_fails (same {A = Tree}) _ inv.0 _ _ _ _ c.in_err-rest.field-0.0 (c.args.count - c.loop-i._i)
    (omega (arith, c.loop-i-test.true)) (rw c.requires.argument at c.in_err-rest.ensures.fails) inv.2 in
    search rules

pub tell_each-loop-i-preserved : goal.tell_each-loop-i-preserved
tell_each-loop-i-preserved g t c =
    let inv = c.loop-i.invariant in
    let told = rw c.requires.argument at c.in_ok-rest.ensures.told in
    let less : c.args.count - c.loop-i._i - 1 ≡ c.args.count - (c.loop-i._i + 1) = omega arith in
    let next =
    arguments_go_on (same {A = Tree}) _ inv.0 _ _ _ _ (c.args.count - c.loop-i._i) told.0 _ _
    (omega (arith, c.loop-i-test.true)) told.1.0 inv.2 in (
      inv.0 ++ told.0 ∷ [],
      c.in_ok-rest.ensures.fits,
      rw less at next,
      some_now inv.0 told.0,
      length-append inv.0 (told.0 ∷ []) ∙ ap (λ n. n + 1) inv.4,
      told_item _ g.met.S.Sink.further c.args.here.level _ _ _ _ c.loop-i.is_first inv.0 told.0 inv.3 inv.5 c.in_ok-tell_separator.ensures told.1.1.1,
    )

pub tell_each-returns-clause-told : goal.tell_each-returns-clause-told
tell_each-returns-clause-told g t c =
    let inv = c.loop-i.invariant in (
      trees_of inv.0,
      (
        arguments_end (same {A = Tree}) _ inv.0 _ _ _ _ (c.args.count - c.loop-i._i) (omega (arith, c.loop-i-test.false)) inv.2,
        (trees_counted inv.0 ∙ omega (arith, inv.4, c.loop-i-test.false), inv.5),
      ),
    )

pub tell_arguments-returns-then-count-eq0-clause-told : goal.tell_arguments-returns-then-count-eq0-clause-told
tell_arguments-returns-then-count-eq0-clause-told g t c =
    let none : c.args.count ≡ 0 = search rules in
    (no_trees, (rw none (none_read _ _ _ _), (sym none, g.met.S.Sink.nothing _)))

-- ---- parts

pub tell_parts-loop-kind-init : goal.tell_parts-loop-kind-init
tell_parts-loop-kind-init g t c = ([], c.requires, rest_none part_more _, refl, refl, refl, g.met.S.Sink.nothing _)

pub tell_parts-returns-in_err-rest-clause-fails : goal.tell_parts-returns-in_err-rest-clause-fails
tell_parts-returns-in_err-rest-clause-fails g t c =
    let inv = c.loop-kind.invariant in
    let i = c.loop-kind.kind-index in
    let ks = c.args.kinds.now in
    let k = get_or ks i PartKind.Term in
    let cut : drop i ks ≡ k ∷ drop (i + 1) ks = rw add-one (drop-cons ks i PartKind.Term c.loop-kind-test.true) in
    let failed =
    parts_fails (same {A = Part}) _ inv.0 _ _ _ _ c.in_err-rest.field-0.0 k (drop (i + 1) ks) c.in_err-rest.ensures.fails (rw cut at inv.2) in
    search rules

pub tell_parts-loop-kind-preserved : goal.tell_parts-loop-kind-preserved
tell_parts-loop-kind-preserved g t c =
    let inv = c.loop-kind.invariant in
    let told = c.in_ok-rest.ensures.told in
    let i = c.loop-kind.kind-index in
    let ks = c.args.kinds.now in
    let k = get_or ks i PartKind.Term in
    let cut : drop i ks ≡ k ∷ drop (i + 1) ks = rw add-one (drop-cons ks i PartKind.Term c.loop-kind-test.true) in (
      inv.0 ++ told.0 ∷ [],
      c.in_ok-rest.ensures.fits,
      parts_go_on (same {A = Part}) _ inv.0 _ _ _ _ told.0 k (drop (i + 1) ks) _ _ told.1.0 (rw cut at inv.2),
      told.1.1.0 ∙ ap (λ l. last_label l (part_more told.0 no_parts)) inv.3 ∙ sym (label_one None inv.0 told.0),
      some_now inv.0 told.0,
      length-append inv.0 (told.0 ∷ []) ∙ ap (λ n. n + 1) inv.5,
      told_part _ g.met.S.Sink.further c.args.here.level _ _ _ _ c.loop-kind.is_first inv.0 told.0 inv.4 inv.6 c.in_ok-tell_separator.ensures told.1.1.1,
    )

pub tell_parts-returns-clause-told : goal.tell_parts-returns-clause-told
tell_parts-returns-clause-told g t c =
    let inv = c.loop-kind.invariant in
    let cut : drop c.loop-kind.kind-index c.args.kinds.now ≡ [] = drop_all _ _ c.loop-kind-test.false in (
      parts_of inv.0,
      (
        parts_end (same {A = Part}) _ inv.0 _ _ _ _ (rw cut at inv.2),
        ((inv.3, parts_counted inv.0 ∙ omega (arith, inv.5, c.loop-kind-test.false)), inv.6),
      ),
    )

-- ---- lines, elements and elements of a field list

pub tell_lines-loop-turn-init : goal.tell_lines-loop-turn-init
tell_lines-loop-turn-init g t c =
    let all : length c.args.bytes.now - 0 ≡ length c.args.bytes.now = omega arith in
    ([], c.requires, rw all (all_none tree_more _), g.met.S.Sink.nothing _)

pub tell_lines-returns-then-is_empty-clause-told : goal.tell_lines-returns-then-is_empty-clause-told
tell_lines-returns-then-is_empty-clause-told g t c =
    let inv = c.loop-turn.invariant in (
      trees_of inv.0,
      (
        done no_trees tree_more _ _ (same {A = Tree}) inv.0 _ _ _ _ _ _ c.loop-turn.rest.now refl (grind arith) inv.2,
        (tt, subst (g.S.Sink.grew _ _) (lines_told c.args.here.level inv.0) inv.3),
      ),
    )

pub tell_lines-returns-in_err-is_if-clause-fails : goal.tell_lines-returns-in_err-is_if-clause-fails
tell_lines-returns-in_err-is_if-clause-fails g t c =
    let inv = c.loop-turn.invariant in
    let failed =
    fails no_trees tree_more _ _ (same {A = Tree}) inv.0 _ _ _ _ c.in_err-is_if.field-0.0 (length c.args.bytes.now - c.loop-turn._turn)
    c.loop-turn.rest.now (grind arith) (omega (arith, c.loop-turn-test.true))
    (rw (c.at.ensures.levels, c.at.ensures.position) at c.in_err-is_if.ensures.fails) inv.2 in
    search rules

pub tell_lines-loop-turn-preserved : goal.tell_lines-loop-turn-preserved
tell_lines-loop-turn-preserved g t c =
    let inv = c.loop-turn.invariant in
    let told = rw (c.at.ensures.levels, c.at.ensures.position, c.at.ensures.level) at c.in_ok-is_if.ensures.told in
    let less : length c.args.bytes.now - c.loop-turn._turn - 1 ≡ length c.args.bytes.now - (c.loop-turn._turn + 1) = omega arith in
    let next =
    go_on no_trees tree_more _ _ (same {A = Tree}) inv.0 c.loop-turn.position _ _ _ (length c.args.bytes.now - c.loop-turn._turn)
    c.loop-turn.rest.now told.0 _ _ (grind arith) (omega (arith, c.loop-turn-test.true)) told.1.0 inv.2 in (
      inv.0 ++ told.0 ∷ [],
      c.in_ok-is_if.ensures.fits,
      rw (c.position_after-position.ensures told.0 told.1.1.0) (rw less at next),
      grew_one _ g.met.S.Sink.further (λ t. in_line c.args.here.level (pieces c.args.here.level t)) _ _ _ inv.0 told.0 inv.3
          (told_line _ g.met.S.Sink.further c.args.here.level _ _ _ _ (pieces c.args.here.level told.0) c.in_ok-tell.ensures told.1.1.1 c.in_ok-tell-2.ensures),
    )

pub tell_lines-returns-then-is_empty-2-clause-told : goal.tell_lines-returns-then-is_empty-2-clause-told
tell_lines-returns-then-is_empty-2-clause-told g t c =
    let inv = c.loop-turn.invariant in (
      trees_of inv.0,
      (
        done no_trees tree_more _ _ (same {A = Tree}) inv.0 _ _ _ _ _ _ c.loop-turn.rest.now refl (grind arith) inv.2,
        (tt, subst (g.S.Sink.grew _ _) (lines_told c.args.here.level inv.0) inv.3),
      ),
    )

pub tell_lines-returns-else-is_empty-2-clause-fails : goal.tell_lines-returns-else-is_empty-2-clause-fails
tell_lines-returns-else-is_empty-2-clause-fails g t c =
    let inv = c.loop-turn.invariant in
    inr (runs_out no_trees tree_more _ _ (same {A = Tree}) inv.0 _ _ _ _ (length c.args.bytes.now - c.loop-turn._turn)
    c.loop-turn.rest.now (omega (arith, c.loop-turn-test.false)) (grind arith) inv.2)

pub tell_elements-loop-turn-init : goal.tell_elements-loop-turn-init
tell_elements-loop-turn-init g t c =
    let all : length c.args.bytes.now - 0 ≡ length c.args.bytes.now = omega arith in
    ([], c.requires.fits, rw all (all_none tree_more _), refl, g.met.S.Sink.nothing _)

pub tell_elements-returns-then-is_empty-clause-told : goal.tell_elements-returns-then-is_empty-clause-told
tell_elements-returns-then-is_empty-clause-told g t c =
    let inv = c.loop-turn.invariant in (
      trees_of inv.0,
      (
        done no_trees tree_more _ _ (same {A = Tree}) inv.0 _ _ _ _ _ _ c.loop-turn.rest.now refl (grind arith) inv.2,
        (tt, inv.4),
      ),
    )

pub tell_elements-returns-in_err-_is_if-clause-fails : goal.tell_elements-returns-in_err-_is_if-clause-fails
tell_elements-returns-in_err-_is_if-clause-fails g t c =
    let inv = c.loop-turn.invariant in
    let failed =
    fails no_trees tree_more _ _ (same {A = Tree}) inv.0 _ _ _ _ c.in_err-_is_if.field-0.0 (length c.args.bytes.now - c.loop-turn._turn)
    c.loop-turn.rest.now (grind arith) (omega (arith, c.loop-turn-test.true)) (rw c.requires.data at c.in_err-_is_if.ensures.fails) inv.2 in
    search rules

pub tell_elements-loop-turn-preserved : goal.tell_elements-loop-turn-preserved
tell_elements-loop-turn-preserved g t c =
    let inv = c.loop-turn.invariant in
    let told = rw c.requires.data at c.in_ok-_is_if.ensures.told in
    let less : length c.args.bytes.now - c.loop-turn._turn - 1 ≡ length c.args.bytes.now - (c.loop-turn._turn + 1) = omega arith in
    let next =
    go_on no_trees tree_more _ _ (same {A = Tree}) inv.0 Position.Data _ _ _ (length c.args.bytes.now - c.loop-turn._turn)
    c.loop-turn.rest.now told.0 _ _ (grind arith) (omega (arith, c.loop-turn-test.true)) told.1.0 inv.2 in (
      inv.0 ++ told.0 ∷ [],
      c.in_ok-_is_if.ensures.fits,
      rw less at next,
      some_now inv.0 told.0,
      told_item _ g.met.S.Sink.further c.args.here.level _ _ _ _ c.loop-turn.is_first inv.0 told.0 inv.3 inv.4 c.in_ok-tell_separator.ensures told.1.1.1,
    )

pub tell_elements-returns-then-is_empty-2-clause-told : goal.tell_elements-returns-then-is_empty-2-clause-told
tell_elements-returns-then-is_empty-2-clause-told g t c =
    let inv = c.loop-turn.invariant in (
      trees_of inv.0,
      (
        done no_trees tree_more _ _ (same {A = Tree}) inv.0 _ _ _ _ _ _ c.loop-turn.rest.now refl (grind arith) inv.2,
        (tt, inv.4),
      ),
    )

pub tell_elements-returns-else-is_empty-2-clause-fails : goal.tell_elements-returns-else-is_empty-2-clause-fails
tell_elements-returns-else-is_empty-2-clause-fails g t c =
    let inv = c.loop-turn.invariant in
    inr (runs_out no_trees tree_more _ _ (same {A = Tree}) inv.0 _ _ _ _ (length c.args.bytes.now - c.loop-turn._turn)
    c.loop-turn.rest.now (omega (arith, c.loop-turn-test.false)) (grind arith) inv.2)

pub tell_fields-loop-turn-init : goal.tell_fields-loop-turn-init
tell_fields-loop-turn-init g t c =
    let all : length c.args.bytes.now - 0 ≡ length c.args.bytes.now = omega arith in
    ([], c.requires, rw all (all_none field_more _), ap (map plain_name) c.new-units.ensures.items, g.met.S.Sink.nothing _)

pub tell_fields-returns-then-is_empty-clause-told : goal.tell_fields-returns-then-is_empty-clause-told
tell_fields-returns-then-is_empty-clause-told g t c =
    let inv = c.loop-turn.invariant in (
      onto (same {A = Field}) field_more inv.0 no_fields,
      (
        done no_fields field_more _ _ (same {A = Field}) inv.0 _ _ _ _ _ _ c.loop-turn.rest.now refl (grind arith) inv.2,
        (inv.3, subst (g.S.Sink.grew _ _) (fields_told c.args.here.level inv.0) inv.4),
      ),
    )

pub tell_fields-returns-in_err-rest-clause-fails : goal.tell_fields-returns-in_err-rest-clause-fails
tell_fields-returns-in_err-rest-clause-fails g t c =
    let inv = c.loop-turn.invariant in
    let failed =
    fails no_fields field_more _ _ (same {A = Field}) inv.0 _ _ _ _ c.in_err-rest.field-0.0 (length c.args.bytes.now - c.loop-turn._turn)
    c.loop-turn.rest.now (grind arith) (omega (arith, c.loop-turn-test.true)) c.in_err-rest.ensures.fails inv.2 in
    search rules

pub tell_fields-loop-turn-preserved : goal.tell_fields-loop-turn-preserved
tell_fields-loop-turn-preserved g t c =
    let inv = c.loop-turn.invariant in
    let told = c.in_ok-rest.ensures.told in
    let less : length c.args.bytes.now - c.loop-turn._turn - 1 ≡ length c.args.bytes.now - (c.loop-turn._turn + 1) = omega arith in
    let next =
    go_on no_fields field_more _ _ (same {A = Field}) inv.0 _ _ _ _ (length c.args.bytes.now - c.loop-turn._turn)
    c.loop-turn.rest.now told.0 _ _ (grind arith) (omega (arith, c.loop-turn-test.true)) told.1.0 inv.2 in (
      inv.0 ++ told.0 ∷ [],
      c.in_ok-rest.ensures.fits,
      rw less at next,
      told.1.1.0 ∙ ap (λ ns. ns ++ unit_names (field_more told.0 no_fields)) inv.3 ∙ sym (units_one inv.0 told.0),
      grew_one _ g.met.S.Sink.further (λ u. in_line c.args.here.level (field_pieces c.args.here.level u)) _ _ _ inv.0 told.0 inv.4
          (told_line _ g.met.S.Sink.further c.args.here.level _ _ _ _ (field_pieces c.args.here.level told.0) c.in_ok-tell.ensures told.1.1.1 c.in_ok-tell-2.ensures),
    )

pub tell_fields-returns-then-is_empty-2-clause-told : goal.tell_fields-returns-then-is_empty-2-clause-told
tell_fields-returns-then-is_empty-2-clause-told g t c =
    let inv = c.loop-turn.invariant in (
      onto (same {A = Field}) field_more inv.0 no_fields,
      (
        done no_fields field_more _ _ (same {A = Field}) inv.0 _ _ _ _ _ _ c.loop-turn.rest.now refl (grind arith) inv.2,
        (inv.3, subst (g.S.Sink.grew _ _) (fields_told c.args.here.level inv.0) inv.4),
      ),
    )

pub tell_fields-returns-else-is_empty-2-clause-fails : goal.tell_fields-returns-else-is_empty-2-clause-fails
tell_fields-returns-else-is_empty-2-clause-fails g t c =
    let inv = c.loop-turn.invariant in
    inr (runs_out no_fields field_more _ _ (same {A = Field}) inv.0 _ _ _ _ (length c.args.bytes.now - c.loop-turn._turn)
    c.loop-turn.rest.now (omega (arith, c.loop-turn-test.false)) (grind arith) inv.2)

-- ---- a name, and opcodes

pub tell_call-returns-clause-told : goal.tell_call-returns-clause-told
tell_call-returns-clause-told g t c =
    let args = rw (c.at.ensures.levels, c.at.ensures.level) at c.in_ok-behind.ensures.told in
    let arity = g.N.Names.arity c.args.self.now.names.now in (
      named c.in_ok-name.name args.0,
      (
        call_is arity (read_by g.N.Names.arity g.N.Names.scope c.args.self.now c.args.here.levels) c.args.here.position c.args.end (g.N.Names.paths c.args.self.now.names.now c.args.locals.now) c.args.bytes.now c.in_ok-name.name
            c.in_ok-name.rest.now c.in_ok-count.count args.0 (g.N.Names.paths c.args.self.now.names.now c.tell_arguments.new.locals) c.in_ok-behind.behind.now (search rules) (search rules) args.1.0,
        (refl, told_call _ g.met.S.Sink.further c.args.here.level _ _ _ _ _ c.in_ok-count.count args.0 args.1.1.0 c.in_ok-tell.ensures args.1.1.1 c.in_ok-tell-2.ensures),
      ),
    )

pub tell_child-returns-clause-told : goal.tell_child-returns-clause-told
tell_child-returns-clause-told g t c =
    let told = c.in_ok-rest.ensures.told in (child told.0, (rw told.1.0 refl, ((λ label. refl), told.1.1.1)))

pub tell_plain-returns-clause-told : goal.tell_plain-returns-clause-told
tell_plain-returns-clause-told g t c =
    let parts = c.in_ok-label.ensures.told in
    let row = row_view c.args.row.now in (
      op c.args.row.now.opcode None parts.0 empty,
      (
        plain_is (g.N.Names.scope c.args.self.now.names.now) _ row _ _ _ parts.0 (g.N.Names.paths c.args.self.now.names.now c.tell_parts.new.locals) _ c.in_ok-label.rest.now parts.1.0
            (c.in_ok-declare.ensures.declared parts.0 empty parts.1.1.0.0 refl),
        (
          refl,
          told_op _ g.met.S.Sink.further c.args.here.level _ _ _ _ _ _ (Some row) _ None parts.0 empty c.requires.listed parts.1.1.0.1
              c.in_ok-tell.ensures parts.1.1.1 c.in_ok-tell-2.ensures c.in_ok-tell-3.ensures,
        ),
      ),
    )

pub tell_packed-returns-clause-told : goal.tell_packed-returns-clause-told
tell_packed-returns-clause-told g t c =
    let parts = c.in_ok-label.ensures.told in
    let tail = c.in_ok-units.ensures.told in
    let row = row_view c.args.found.now.row.now in
    let ends = c.in_ok-width.ensures.ends in (
      op c.args.found.now.row.now.opcode (Some c.in_ok-width.width) parts.0 tail.0,
      (
        packed_is (g.N.Names.scope c.args.self.now.names.now) (read_by g.N.Names.arity g.N.Names.scope c.args.self.now c.args.here.levels) c.args.here.position c.args.found.now.at row
            c.args.found.now.tail c.args.end (g.N.Names.paths c.args.self.now.names.now c.args.locals.now) c.args.bytes.now c.in_ok-width.width c.in_ok-width.inside.now c.in_ok-width.behind.now
            c.in_ok-guard_of.field-0 parts.0 (g.N.Names.paths c.args.self.now.names.now c.tell_parts.new.locals) c.in_ok-label.rest.now tail.0 (g.N.Names.paths c.args.self.now.names.now c.tell_tail.new.locals) _
            c.in_ok-width.ensures.exact (search rules) (rw ends at parts.1.0) (rw ends at tail.1.0)
            (c.in_ok-declare.ensures.declared parts.0 tail.0 parts.1.1.0.0 (ap (map plain_name) c.as_slice.ensures.value ∙ tail.1.1.0)),
        (
          refl,
          told_op _ g.met.S.Sink.further c.args.here.level _ _ _ _ _ _ (Some row) _ (Some c.in_ok-width.width) parts.0 tail.0 c.requires.listed parts.1.1.0.1
              c.in_ok-tell.ensures parts.1.1.1 c.in_ok-tell-2.ensures tail.1.1.1,
        ),
      ),
    )

pub tell_field-returns-in-2-clause-told : goal.tell_field-returns-in-2-clause-told
tell_field-returns-in-2-clause-told g t c =
    let told = c.in_ok-behind-in-2.ensures.told in (
      connection told.0,
      (
        connection_read (read_by g.N.Names.arity g.N.Names.scope c.args.self.now c.args.here.levels) c.args.end (g.N.Names.paths c.args.self.now.names.now c.args.locals.now) c.args.bytes.now c.in_ok-lead.lead c.in_ok-lead.rest.now told.0 _ _
            c.in_ok-lead.ensures.exact c.in-2.is told.1.0,
        (sym (append-nil (map plain_name c.args.units.now.items)), told.1.1.1),
      ),
    )

pub tell_field-returns-clause-told : goal.tell_field-returns-clause-told
tell_field-returns-clause-told g t c =
    let read = read_by g.N.Names.arity g.N.Names.scope c.args.self.now c.args.here.levels in
    let ls = (g.N.Names.paths c.args.self.now.names.now c.args.locals.now) in
    let flat : (field_at read c.args.end ls c.args.bytes.now ≡ Ok (field_view c.match-lead.field.0, ls, c.match-lead.field.1.now)) × IsOneField (field_view c.match-lead.field.0) =
    elim c.match-lead.branch [
      | tell_field-in-0+in_ok-reserved_unit_of-in-0 w ↦ rw w.field-is (reserved_read read c.args.end ls c.args.bytes.now c.in_ok-lead.lead c.in_ok-lead.rest.now _ _ c.in_ok-lead.ensures.exact w.in-0.is w.in_ok-reserved_unit_of-in-0.ensures)
      | tell_field-in-1+in_ok-access_unit_of-in-1 w ↦ rw w.field-is (access_read read c.args.end ls c.args.bytes.now c.in_ok-lead.lead c.in_ok-lead.rest.now _ _ c.in_ok-lead.ensures.exact w.in-1.is w.in_ok-access_unit_of-in-1.ensures)
      | tell_field-in-3+in_ok-extended_unit_of-in-3 w ↦ rw w.field-is (extended_read read c.args.end ls c.args.bytes.now c.in_ok-lead.lead c.in_ok-lead.rest.now _ _ c.in_ok-lead.ensures.exact w.in-3.is w.in_ok-extended_unit_of-in-3.ensures)
      | tell_field-in_default+in_ok-field-in_default w ↦ rw w.field-is (named_read read c.args.end ls c.args.bytes.now c.in_ok-lead.lead c.in_ok-lead.rest.now _ _ c.in_ok-lead.ensures.exact (search rules) (search rules) (search rules) (search rules) w.in_ok-field-in_default.ensures)
    ] in (
      field_view c.match-lead.field.0,
      (flat.0, (c.in_ok-keep_unit.ensures, subst (g.S.Sink.grew _ _) (sym (flat.1 c.args.here.level)) c.in_ok-tell.ensures)),
    )

pub tell_link-returns-then-lead-ne-BUFFER-clause-told : goal.tell_link-returns-then-lead-ne-BUFFER-clause-told
tell_link-returns-then-lead-ne-BUFFER-clause-told g t c =
    let is = link_name (read_by g.N.Names.arity g.N.Names.scope c.args.self.now c.args.here.levels) c.args.end (g.N.Names.paths c.args.self.now.names.now c.args.locals.now) c.args.bytes.now (c.in_ok-lead.lead, _) (link_view c.in_ok-link.link)
    c.in_ok-link.rest.now c.in_ok-lead.ensures.exact (search rules) c.in_ok-link.ensures in (
      link_view c.in_ok-link.link,
      (is.0, (tt, subst (g.S.Sink.grew _ _) (ap (λ u. Told.field u ∷ []) (view-field-Connection c.in_ok-link.link) ∙ sym (is.1 c.args.here.level)) c.in_ok-tell.ensures)),
    )

pub tell_link-returns-clause-told : goal.tell_link-returns-clause-told
tell_link-returns-clause-told g t c =
    let told = rw (c.at.ensures.levels, c.at.ensures.position, c.at.ensures.level) at c.in_ok-_is_if.ensures.told in (
      buffer told.0,
      (
        link_buffer (read_by g.N.Names.arity g.N.Names.scope c.args.self.now c.args.here.levels) c.args.end (g.N.Names.paths c.args.self.now.names.now c.args.locals.now) c.args.bytes.now (c.in_ok-lead.lead, _) told.0 _ _
            c.in_ok-lead.ensures.exact (search rules) told.1.0,
        (tt, told_link _ g.met.S.Sink.further c.args.here.level _ _ _ _ told.0 c.in_ok-tell-2.ensures told.1.1.1 c.in_ok-tell-3.ensures),
      ),
    )

-- ---- tails

pub tell_tail-returns-in_ok-tell-in-Terms-2-clause-told : goal.tell_tail-returns-in_ok-tell-in-Terms-2-clause-told
tell_tail-returns-in_ok-tell-in-Terms-2-clause-told g t c =
    let kind : tail_in c.args.here.position c.args.found.now.tail ≡ TailKind.Terms = sym c.tail_in-kind.ensures ∙ c.in-Terms.is in
    let told = rw (c.deeper.ensures.levels, c.deeper.ensures.level, c.terms_in.ensures) at c.in_ok-tell_lines-in-Terms.ensures.told in (
      terms told.0,
      (
        rw kind (rw told.1.0 refl),
        (
          ap (map plain_name) c.new-in-Terms.ensures.items,
          told_list _ g.met.S.Sink.further c.args.here.level _ _ _ _ TailKind.Terms (line_pieces (deeper c.args.here.level) told.0)
              (rw c.in-Terms.is at c.in_ok-tell-in-Terms.ensures) told.1.1.1 (rw c.in-Terms.is at c.in_ok-tell-in-Terms-2.ensures),
        ),
      ),
    )

pub tell_tail-returns-in_ok-tell-in-Bytes-clause-told : goal.tell_tail-returns-in_ok-tell-in-Bytes-clause-told
tell_tail-returns-in_ok-tell-in-Bytes-clause-told g t c =
    let kind : tail_in c.args.here.position c.args.found.now.tail ≡ TailKind.Bytes = sym c.tail_in-kind.ensures ∙ c.in-Bytes.is in (
      bytes c.args.inside.now,
      (rw kind refl, (ap (map plain_name) c.new.ensures.items, c.in_ok-tell-in-Bytes.ensures)),
    )

pub tell_tail-returns-in_ok-tell-in-Elements-2-clause-told : goal.tell_tail-returns-in_ok-tell-in-Elements-2-clause-told
tell_tail-returns-in_ok-tell-in-Elements-2-clause-told g t c =
    let kind : tail_in c.args.here.position c.args.found.now.tail ≡ TailKind.Elements = sym c.tail_in-kind.ensures ∙ c.in-Elements.is in
    let told = rw (c.at.ensures.levels, c.at.ensures.level) at c.in_ok-tell_elements-in-Elements.ensures.told in (
      elements told.0,
      (
        rw kind (rw told.1.0 refl),
        (
          ap (map plain_name) c.new-in-Elements.ensures.items,
          told_list _ g.met.S.Sink.further c.args.here.level _ _ _ _ TailKind.Elements (items c.args.here.level told.0)
              (rw c.in-Elements.is at c.in_ok-tell-in-Elements.ensures) told.1.1.1 (rw c.in-Elements.is at c.in_ok-tell-in-Elements-2.ensures),
        ),
      ),
    )

pub tell_tail-returns-in_ok-tell-in-Fields-2-clause-told : goal.tell_tail-returns-in_ok-tell-in-Fields-2-clause-told
tell_tail-returns-in_ok-tell-in-Fields-2-clause-told g t c =
    let kind : tail_in c.args.here.position c.args.found.now.tail ≡ TailKind.Fields = sym c.tail_in-kind.ensures ∙ c.in-Fields.is in
    let told = rw (c.deeper-in-Fields.ensures.levels, c.deeper-in-Fields.ensures.level) at c.in_ok-units-in-Fields.ensures.told in (
      fields told.0,
      (
        rw kind (rw told.1.0 refl),
        (
          told.1.1.0,
          told_list _ g.met.S.Sink.further c.args.here.level _ _ _ _ TailKind.Fields (fields_pieces (deeper c.args.here.level) told.0)
              (rw c.in-Fields.is at c.in_ok-tell-in-Fields.ensures) told.1.1.1 (rw c.in-Fields.is at c.in_ok-tell-in-Fields-2.ensures),
        ),
      ),
    )

pub tell_tail-returns-in_ok-tell-in-Body-clause-told : goal.tell_tail-returns-in_ok-tell-in-Body-clause-told
tell_tail-returns-in_ok-tell-in-Body-clause-told g t c =
    let kind : tail_in c.args.here.position c.args.found.now.tail ≡ TailKind.Body = sym c.tail_in-kind.ensures ∙ c.in-Body.is in (
      body_to c.args.end (c.args.end - length c.args.inside.now),
      (
        rw kind refl,
        (
          ap (map plain_name) c.new-in-Body.ensures.items,
          rw c.offset_of-start.ensures at c.in_ok-tell-in-Body.ensures,
        ),
      ),
    )

-- ---- a term

pub tell_term-returns-in_err-lead-clause-fails : goal.tell_term-returns-in_err-lead-clause-fails
tell_term-returns-in_err-lead-clause-fails g t c =
    let failed = no_lead (g.N.Names.arity c.args.self.now.names.now) (g.N.Names.scope c.args.self.now.names.now) c.args.here.position c.args.end (g.N.Names.paths c.args.self.now.names.now c.args.locals.now)
    c.args.bytes.now c.args.here.levels in
    search (rules, failed)

pub tell_term-returns-in_err-row-in-Opcode-clause-fails : goal.tell_term-returns-in_err-row-in-Opcode-clause-fails
tell_term-returns-in_err-row-in-Opcode-clause-fails g t c =
    let failed = opcode_stops (g.N.Names.arity c.args.self.now.names.now) (g.N.Names.scope c.args.self.now.names.now) c.args.here.position c.args.end (g.N.Names.paths c.args.self.now.names.now c.args.locals.now)
    c.args.bytes.now c.args.here.levels (c.in_ok-lead.lead, c.in_ok-lead.rest.now) c.in_err-row-in-Opcode.field-0.0 (omega (arith, c.if-here-eq0.false)) c.in_ok-lead.ensures.exact
    (search rules) (search rules) c.in_err-row-in-Opcode.ensures in
    search rules

pub tell_term-returns-else-not-takes_names-clause-told : goal.tell_term-returns-else-not-takes_names-clause-told
tell_term-returns-else-not-takes_names-clause-told g t c =
    rw (name_read (g.N.Names.arity c.args.self.now.names.now) (g.N.Names.scope c.args.self.now.names.now) c.args.here.position c.args.end (g.N.Names.paths c.args.self.now.names.now c.args.locals.now)
    c.args.bytes.now c.args.here.levels (c.in_ok-lead.lead, c.in_ok-lead.rest.now) (omega (arith, c.if-here-eq0.false)) c.in_ok-lead.ensures.exact
    (search rules) (search rules)) (search rules)

pub tell_term-returns-else-not-takes_names-clause-fails : goal.tell_term-returns-else-not-takes_names-clause-fails
tell_term-returns-else-not-takes_names-clause-fails g t c =
    rw (name_read (g.N.Names.arity c.args.self.now.names.now) (g.N.Names.scope c.args.self.now.names.now) c.args.here.position c.args.end (g.N.Names.paths c.args.self.now.names.now c.args.locals.now)
    c.args.bytes.now c.args.here.levels (c.in_ok-lead.lead, c.in_ok-lead.rest.now) (omega (arith, c.if-here-eq0.false)) c.in_ok-lead.ensures.exact
    (search rules) (search rules)) (search rules)

pub tell_term-returns-in_ok-tell-in-Nothing-clause-told : goal.tell_term-returns-in_ok-tell-in-Nothing-clause-told
tell_term-returns-in_ok-tell-in-Nothing-clause-told g t c = (
  nothing,
  (
    nothing_read (g.N.Names.arity c.args.self.now.names.now) (g.N.Names.scope c.args.self.now.names.now) c.args.here.position c.args.end (g.N.Names.paths c.args.self.now.names.now c.args.locals.now)
        c.args.bytes.now c.args.here.levels (c.in_ok-lead.lead, c.in_ok-lead.rest.now) (omega (arith, c.if-here-eq0.false)) c.in_ok-lead.ensures.exact
        (search rules) (search rules),
    (refl, search rules),
  ),
)

pub tell_term-returns-in-None-clause-told : goal.tell_term-returns-in-None-clause-told
tell_term-returns-in-None-clause-told g t c =
    let is = opcode_read (g.N.Names.arity c.args.self.now.names.now) (g.N.Names.scope c.args.self.now.names.now) c.args.here.levels c.args.here.position c.args.end (g.N.Names.paths c.args.self.now.names.now c.args.locals.now) c.args.bytes.now
    (c.in_ok-lead.lead, c.in_ok-lead.rest.now) (row_view c.in_ok-row-in-Opcode.row.now, c.in_ok-row-in-Opcode.behind.now) None
    (omega (arith, c.if-here-eq0.false)) c.in_ok-lead.ensures.exact (search rules) (search rules) c.in_ok-row-in-Opcode.ensures (search rules) in
    rw is (search rules)

pub tell_term-returns-in-None-clause-fails : goal.tell_term-returns-in-None-clause-fails
tell_term-returns-in-None-clause-fails g t c =
    let is = opcode_read (g.N.Names.arity c.args.self.now.names.now) (g.N.Names.scope c.args.self.now.names.now) c.args.here.levels c.args.here.position c.args.end (g.N.Names.paths c.args.self.now.names.now c.args.locals.now) c.args.bytes.now
    (c.in_ok-lead.lead, c.in_ok-lead.rest.now) (row_view c.in_ok-row-in-Opcode.row.now, c.in_ok-row-in-Opcode.behind.now) None
    (omega (arith, c.if-here-eq0.false)) c.in_ok-lead.ensures.exact (search rules) (search rules) c.in_ok-row-in-Opcode.ensures (search rules) in
    rw is (search rules)

pub tell_term-returns-in-Some-clause-told : goal.tell_term-returns-in-Some-clause-told
tell_term-returns-in-Some-clause-told g t c =
    let is = opcode_read (g.N.Names.arity c.args.self.now.names.now) (g.N.Names.scope c.args.self.now.names.now) c.args.here.levels c.args.here.position c.args.end (g.N.Names.paths c.args.self.now.names.now c.args.locals.now) c.args.bytes.now
    (c.in_ok-lead.lead, c.in_ok-lead.rest.now) (row_view c.in_ok-row-in-Opcode.row.now, c.in_ok-row-in-Opcode.behind.now) (Some c.in-Some.tail)
    (omega (arith, c.if-here-eq0.false)) c.in_ok-lead.ensures.exact (search rules) (search rules) c.in_ok-row-in-Opcode.ensures (search rules) in
    rw is (rw c.offset_of-at.ensures at c.tell_packed.ensures.told)

pub tell_term-returns-in-Some-clause-fails : goal.tell_term-returns-in-Some-clause-fails
tell_term-returns-in-Some-clause-fails g t c =
    let is = opcode_read (g.N.Names.arity c.args.self.now.names.now) (g.N.Names.scope c.args.self.now.names.now) c.args.here.levels c.args.here.position c.args.end (g.N.Names.paths c.args.self.now.names.now c.args.locals.now) c.args.bytes.now
    (c.in_ok-lead.lead, c.in_ok-lead.rest.now) (row_view c.in_ok-row-in-Opcode.row.now, c.in_ok-row-in-Opcode.behind.now) (Some c.in-Some.tail)
    (omega (arith, c.if-here-eq0.false)) c.in_ok-lead.ensures.exact (search rules) (search rules) c.in_ok-row-in-Opcode.ensures (search rules) in
    rw is (search rules)

pub tell_term-tell_plain-requires : goal.tell_term-tell_plain-requires
tell_term-tell_plain-requires g t c =
    let listed = taken_listed c.args.here.position c.args.end c.args.bytes.now (row_view c.in_ok-row-in-Opcode.row.now) c.in_ok-row-in-Opcode.behind.now c.in_ok-row-in-Opcode.ensures in
    search rules

pub tell_term-tell_packed-requires : goal.tell_term-tell_packed-requires
tell_term-tell_packed-requires g t c =
    let listed = taken_listed c.args.here.position c.args.end c.args.bytes.now (row_view c.in_ok-row-in-Opcode.row.now) c.in_ok-row-in-Opcode.behind.now c.in_ok-row-in-Opcode.ensures in
    search rules
