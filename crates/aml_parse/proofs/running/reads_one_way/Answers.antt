use Rattle.aml_parse.proofs.OneWay.{reads_one_way}
use Rattle.aml_parse.proofs.running.reads_one_way.Goals as goal

pub returns : goal.returns
returns g c names code = reads_one_way names code
