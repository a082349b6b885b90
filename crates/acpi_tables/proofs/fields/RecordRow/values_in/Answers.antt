use Rattle.acpi_tables.proofs.Common.{[], ◌∷◌, ◌++◌, map, take, ap, sym, ◌∙◌, arith, length-set, map_more, map_push}
use Rattle.acpi_tables.proofs.Common.{take_more_set, number_at}
use Rattle.acpi_tables.specs.Bytes.{Field, field_view, values_of}
use Rattle.acpi_tables.proofs.fields.RecordRow.values_in.Goals as goal

pub loop-index-preserved : goal.loop-index-preserved
loop-index-preserved c =
    let values = c.loop-index.values in
    let index = c.loop-index.index in
    let fields = c.args.self.now.fields.now in
    let bytes = c.args.bytes.now in
    let old = map field_view (take index fields) in
    let long = c.loop-index.invariant.0 in (
      length-set values index _ ∙ long,
      take_more_set values index _ (omega (arith, long, c.requires.small.0))
          ∙ ap (λ front. front ++ c.number_in.result ∷ []) c.loop-index.invariant.1
          ∙ ap (λ value. values_of bytes old ++ value ∷ []) c.number_in.ensures
          ∙ sym (map_push (λ (f : Field). number_at bytes f.offset f.width) old _)
          ∙ ap (values_of bytes) (sym (map_more field_view fields index _ c.loop-index-test.true)),
    )
