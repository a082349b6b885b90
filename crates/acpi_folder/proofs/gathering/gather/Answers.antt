use Rattle.acpi_folder.proofs.Common.{rules, arith, RefusesFolder}
use Rattle.acpi_folder.proofs.Gathered.{file_refuses, map_refuses, gathered, files_of}
use Rattle.acpi_folder.proofs.gathering.gather.Goals as goal

pub returns-in_err-files-clause-refused : goal.returns-in_err-files-clause-refused
returns-in_err-files-clause-refused g c =
    let refused : RefusesFolder (g.F.Folder.answers c.args.folder.now) c.in_err-files.field-0.0 =
    file_refuses _ _ c.in_ok-listing.listing.dumps.items _ c.in_ok-listing.ensures.listing (omega arith) c.list_files.ensures.within
    c.in_err-files.field-0.0 (rw c.deref.ensures.value at c.in_err-files.ensures.stops) in
    search rules

pub returns-in_err-addresses-clause-refused : goal.returns-in_err-addresses-clause-refused
returns-in_err-addresses-clause-refused g c =
    let refused : RefusesFolder (g.F.Folder.answers c.args.folder.now) c.in_err-addresses.field-0.0 =
    map_refuses _ _ c.in_ok-listing.listing.dumps.items _ c.in_ok-listing.ensures.listing (omega arith) c.list_files.ensures.within _
    (files_of c.in_ok-files.files.items) (rw c.deref.ensures.value at c.in_ok-files.ensures.read) c.read_files.ensures.within
    c.in_err-addresses.field-0.0 c.in_err-addresses.ensures.fails in
    search rules

pub returns-clause-gathered : goal.returns-clause-gathered
returns-clause-gathered g c =
    gathered _ _ _ c.in_ok-listing.listing.dumps.items c.in_ok-files.files.items c.in_ok-addresses.addresses.items c.in_ok-listing.listing.has_map
    c.in_ok-dumps.dumps.items c.in_ok-listing.ensures.listing (omega arith) c.list_files.ensures.within
    (rw c.deref.ensures.value at c.in_ok-files.ensures.read) c.read_files.ensures.within c.in_ok-addresses.ensures.addresses c.in_ok-dumps.ensures
