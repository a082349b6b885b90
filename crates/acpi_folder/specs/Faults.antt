-- How the faults of a folder, of its map and of a file of counts display.
use Rattle.std.specs.Prelude.{ℕ, List, ◌++◌, Option, Some, None, codes, decimal, string_bytes}
use Rattle.acpi_folder.specs.declared.externals.ExternalsFault.{ExternalsFault}
use Rattle.acpi_folder.specs.declared.externals.ExternalsFault.TheVariants as counts
use Rattle.acpi_folder.specs.declared.gathering.GatherFault.{GatherFault}
use Rattle.acpi_folder.specs.declared.gathering.GatherFault.TheVariants as faults
use Rattle.acpi_folder.specs.declared.map.MapFault.{MapFault}
use Rattle.acpi_folder.specs.declared.map.MapFault.TheVariants as maps
use Rattle.acpi_folder.specs.Folders.{map_name}
use Rattle.acpi_folder.specs.Map.{numbered_by}
use Rattle.acpi_folder.specs.Quoted.{quoted}

-- the word of a map's fault, and of that of a file of counts
abbrev pub map_word : MapFault → List ℕ
map_word (maps.BadLine number) = codes "BadLine"
map_word (maps.NoSuchFile number) = codes "NoSuchFile"
map_word (maps.Again number) = codes "Again"
map_word maps.NoMemory = codes "NoMemory"

abbrev pub counts_word : ExternalsFault → List ℕ
counts_word (counts.BadLine number) = codes "BadLine"
counts_word counts.NoMemory = codes "NoMemory"

-- what is said of a line of the map, if it is said of one
abbrev pub of_line : Option ℕ → List ℕ → List ℕ
of_line (Some number) text = map_name ++ codes " line " ++ decimal number ++ codes ": " ++ text
of_line None text = text

abbrev pub map_text : MapFault → List ℕ
map_text fault = of_line (numbered_by fault) (map_word fault)

-- why no dumps are gathered
abbrev pub gather_text : GatherFault → List ℕ
gather_text faults.Folder = codes "cannot read folder"
gather_text (faults.File name) = codes "cannot read " ++ quoted (string_bytes name)
gather_text (faults.Map fault) = map_text fault
gather_text faults.TooManyTables = codes "TooManyTables"
gather_text faults.NoMemory = codes "NoMemory"
