use Rattle.acpi_folder.proofs.Common.{map, string_bytes}
use Rattle.acpi_folder.proofs.Gathered.{IsReadTo}
use Rattle.acpi_folder.proofs.gathering.read_files.Given as goal

abbrev pub invariant-loop-name : goal.invariant-loop-name
invariant-loop-name g l =
    IsReadTo (g.F.Folder.answers l.initial.folder) (g.F.Folder.answers l.folder) (map string_bytes l.names) (map (λ file. file.items) l.files.items)
    l.name-index
