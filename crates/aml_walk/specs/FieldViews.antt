-- What a field list lies over, apart from where it lies in memory.
use Rattle.aml_walk.specs.declared.fields.FieldBase.{FieldBase}
use Rattle.aml_walk.specs.declared.fields.FieldBase.TheVariants as bases
use Rattle.aml_walk.specs.Fields.{Base, region, index, bank}

abbrev pub base_view : FieldBase → Base
base_view (bases.Region n) = region n.now
base_view (bases.Index n m) = index n.now m.now
base_view (bases.Bank n m) = bank n.now m.now
