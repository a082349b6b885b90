use Rattle.acpi_folder.proofs.Common.{◌∙◌, ap, rules, String, Global, string_bytes, list_any, is_map}
use Rattle.acpi_folder.proofs.Gathered.{listing}
use Rattle.acpi_folder.proofs.gathering.list_files.Goals as goal

pub returns-clause-listing : goal.returns-clause-listing
returns-clause-listing g c =
    listing (g.F.Folder.answers c.args.folder.now) c.in-Ok.names.items c.in_ok-dumps.dumps.items c.has_map-has_map.result c.in-Ok.ensures.names
    c.in_ok-dumps.ensures.all c.in_ok-dumps.ensures.ordered
    (c.has_map-has_map.ensures ∙ ap (list_any (λ (name : String Global). is_map (string_bytes name))) c.deref.ensures.value)

pub returns-in-Err-Failed-clause-refused : goal.returns-in-Err-Failed-clause-refused
returns-in-Err-Failed-clause-refused g c = search rules
