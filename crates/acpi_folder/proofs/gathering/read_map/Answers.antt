use Rattle.acpi_folder.proofs.Common.{arith, map, string_bytes}
use Rattle.acpi_folder.proofs.Gathered.{map_refused}
use Rattle.acpi_folder.proofs.gathering.read_map.Goals as goal

pub returns : goal.returns
returns g c = record {
  addresses = tt;
  fails = map_refused (g.F.Folder.answers c.args.folder.now) (map string_bytes c.args.names.now) c.in_ok-text.text.items c.deref.result.now c.in-Err.fault
      c.in_ok-text.ensures.read (omega arith) c.deref.ensures.value c.in-Err.ensures.refused c.in_default.not-NoMemory;
  within = c.read_file.ensures.within;
}
