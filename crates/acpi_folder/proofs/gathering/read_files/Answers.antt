use Rattle.acpi_folder.proofs.Gathered.{turn, stops, files_of}
use Rattle.acpi_folder.proofs.gathering.read_files.Goals as goal

pub loop-name-preserved : goal.loop-name-preserved
loop-name-preserved g c =
    turn _ _ c.args.names.now _ c.name-item.result _ c.loop-name-test.true c.name-item.is c.as_str.ensures.value _ c.loop-name.files.items
    c.push.new.self.items c.in-Ok.file c.loop-name.invariant c.in-Ok.ensures.read c.read_file.ensures.within c.in_ok-push-in-Ok.ensures.items

pub returns-in-Err-clause-stops : goal.returns-in-Err-clause-stops
returns-in-Err-clause-stops g c =
    stops _ _ c.args.names.now _ c.name-item.result _ c.loop-name-test.true c.name-item.is c.as_str.ensures.value (files_of c.loop-name.files.items)
    c.in-Err.fault c.loop-name.invariant c.in-Err.ensures.fails
