use Rattle.aml_code.proofs.EncodedLaws.{same_told}
use Rattle.aml_code.proofs.encoder.told_same.Goals as goal

pub returns-clause-told : goal.returns-clause-told
returns-clause-told g c =
    let told = c.in_ok-made.ensures.told in (
      told.0,
      (
        told.1.0,
        same_told c.args.code.now told.0 c.new-encoder.result c.tell_all.new.sink c.new-encoder.ensures.code c.new-encoder.ensures.state
            told.1.1 c.is_code.result c.is_code.ensures,
      ),
    )
