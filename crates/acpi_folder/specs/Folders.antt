-- What a folder gives, and what is gathered from it: the dumps of its files, ordered by name, with the addresses of its
-- map.
use Rattle.std.specs.Prelude.{◌≡◌, ℕ, ◌+◌, ◌<◌, ◌≤◌, Bool, true, false, not, List, [], length}
use Rattle.std.specs.Prelude.{take, map, slice_index_or, string_bytes, codes, Option, None, ◌⊎◌}
use Rattle.std.specs.List.{list_any, filter, AllZip}
use Rattle.std.specs.List.Sorted.{IsPermutation, IsSorted}
use Rattle.std.specs.Ordering.{nat_cmp}
use Rattle.std.specs.Cmp.Lexicographic.{slice_cmp}
use Rattle.std.specs.Str.{bytes_eq}
use Rattle.std.specs.declared.io.ErrorKind.{ErrorKind}
use Rattle.std.specs.declared.io.ErrorKind.TheVariants as kinds
use Rattle.acpi_tables.specs.declared.dump.Dump.{Dump}
use Rattle.acpi_tables.specs.Dumps.{most_bytes}
use Rattle.acpi_tables.specs.Order.{most_dumps}
use Rattle.acpi_folder.specs.declared.folder.FolderFault.{FolderFault}
use Rattle.acpi_folder.specs.declared.folder.FolderFault.TheVariants as answers
use Rattle.acpi_folder.specs.declared.map.MapFault.{MapFault}
use Rattle.acpi_folder.specs.declared.gathering.GatherFault.{GatherFault}
use Rattle.acpi_folder.specs.declared.gathering.GatherFault.TheVariants as faults
use Rattle.acpi_folder.specs.Map.{HoldsMap, RefusesMap, addresses_of}

-- What a folder may answer: these names for those of its files, or that its listing fails; these bytes for those of the
-- file of a name, or that its reading fails. Of a folder in memory that is what it has; of one of the operating system
-- anything.
pub record Answers : Type 1 where
  pub lists : List (List ℕ) → Type 0
  pub unlisted : Type 0
  pub holds : List ℕ → List ℕ → Type 0
  pub unread : List ℕ → Type 0

-- a folder that isn't known
abbrev pub anything : Answers
anything = record {
  lists = λ names. Unit {0};
  unlisted = Unit {0};
  holds = λ name bytes. Unit {0};
  unread = λ name. Unit {0};
}

-- why a folder of the operating system doesn't answer, by the kind of its error
abbrev pub fault_by : ErrorKind → FolderFault
fault_by kinds.OutOfMemory = answers.NoMemory
fault_by _ = answers.Failed

-- whatever the one may answer, the other may
pub record IsWithin (later earlier : Answers) : Type 0 where
  pub lists : (names : List (List ℕ)) → later.lists names → earlier.lists names
  pub unlisted : later.unlisted → earlier.unlisted
  pub holds : (name bytes : List ℕ) → later.holds name bytes → earlier.holds name bytes
  pub unread : (name : List ℕ) → later.unread name → earlier.unread name

-- the first bytes of a file, up to a limit
pub record Reads (folder : Answers) (name : List ℕ) (limit : ℕ) (bytes : List ℕ) : Type 0 where
  pub content : List ℕ
  pub held : folder.holds name content
  pub first : bytes ≡ take limit content

-- The map, whose name is `tables.map`, is no dump. It has at most as many bytes as a dump, and one byte more is read.
abbrev pub map_name : List ℕ
map_name = codes "tables.map"

abbrev pub is_map : List ℕ → Bool
is_map name = bytes_eq name map_name

abbrev pub read_limit : ℕ
read_limit = most_bytes + 1

-- The names of a folder's dumps, in the order of their bytes, and whether it has a map.
pub record IsListing (folder : Answers) (names : List (List ℕ)) (mapped : Bool) : Type 0 where
  pub listed : List (List ℕ)
  pub given : folder.lists listed
  pub all : IsPermutation (filter (λ name. not (is_map name)) listed) names
  pub ordered : IsSorted (slice_cmp nat_cmp) names
  pub map : mapped ≡ list_any is_map listed

-- the files of these names are read as these bytes, one for each name
abbrev pub AreRead : Answers → List (List ℕ) → List (List ℕ) → Type 0
AreRead folder = AllZip (λ name bytes. Reads folder name read_limit bytes)

-- the text of the folder's map, which isn't too long
pub record IsMapText (folder : Answers) (text : List ℕ) : Type 0 where
  pub read : Reads folder map_name read_limit text
  pub short : length text ≤ most_bytes

-- the addresses of the files of these names: those of the map, or none where there is no map
abbrev pub AreAddresses : Answers → Bool → List (List ℕ) → List (Option ℕ) → Type 0
AreAddresses folder true names addresses =
    (text : List ℕ) × IsMapText folder text × HoldsMap names text × (addresses ≡ addresses_of names text)
AreAddresses folder false names addresses = addresses ≡ map (λ name. None) names

abbrev pub dump_name : Dump → List ℕ
dump_name dump = string_bytes dump.name

abbrev pub dump_bytes : Dump → List ℕ
dump_bytes dump = dump.bytes.items

-- The dumps of a folder: its files but the map, at most 512, ordered by name, each with its bytes and its address.
pub record AreGathered (folder : Answers) (dumps : List Dump) : Type 0 where
  pub mapped : Bool
  pub listing : IsListing folder (map dump_name dumps) mapped
  pub few : length dumps ≤ most_dumps
  pub files : AreRead folder (map dump_name dumps) (map dump_bytes dumps)
  pub addresses : AreAddresses folder mapped (map dump_name dumps) (map (λ dump. dump.address) dumps)

-- Why no dumps are gathered, the first that is met: the listing, the number of dumps, the files by their names, and the
-- map.

-- the first file that can't be read, by name
pub record StopsAtFile (folder : Answers) (names : List (List ℕ)) (name : List ℕ) : Type 0 where
  pub index : ℕ
  pub inside : index < length names
  pub named : slice_index_or names index [] ≡ name
  pub before : (files : List (List ℕ)) × AreRead folder (take index names) files
  pub unread : folder.unread name

-- the map can't be read, or is too long
abbrev pub LacksMap : Answers → Type 0
LacksMap folder =
    folder.unread map_name ⊎ ((text : List ℕ) × Reads folder map_name read_limit text × (most_bytes < length text))

-- What a fault says of the file that it names, or of the map; want of memory says nothing.
abbrev pub TellsFile : (List ℕ → Type 0) → (MapFault → Type 0) → GatherFault → Type 0
TellsFile file map (faults.File name) = file (string_bytes name)
TellsFile file map (faults.Map fault) = map fault
TellsFile file map faults.NoMemory = Unit {0}
TellsFile file map _ = ⊥

-- of one file, of the first of several, and of the map
abbrev pub FailsAt : Answers → List ℕ → GatherFault → Type 0
FailsAt folder name = TellsFile (λ other. (other ≡ name) × folder.unread name) (λ fault. ⊥)

abbrev pub StopsBy : Answers → List (List ℕ) → GatherFault → Type 0
StopsBy folder names = TellsFile (StopsAtFile folder names) (λ fault. ⊥)

abbrev pub FailsAtMap : Answers → List (List ℕ) → GatherFault → Type 0
FailsAtMap folder names =
    TellsFile (λ name. (name ≡ map_name) × LacksMap folder)
    (λ fault. (text : List ℕ) × IsMapText folder text × RefusesMap names text fault)

-- files that are listed are too many; or one of them can't be read; or all are read, and the map fails
abbrev pub FailsListed : Answers → List (List ℕ) → Bool → GatherFault → Type 0
FailsListed folder names mapped faults.TooManyTables = most_dumps < length names
FailsListed folder names mapped fault = (length names ≤ most_dumps) × (StopsBy folder names fault
    ⊎ ((mapped ≡ true) × ((files : List (List ℕ)) × AreRead folder names files) × FailsAtMap folder names fault))

pub record FailsBehind (folder : Answers) (fault : GatherFault) : Type 0 where
  pub names : List (List ℕ)
  pub mapped : Bool
  pub listing : IsListing folder names mapped
  pub cause : FailsListed folder names mapped fault

abbrev pub RefusesFolder : Answers → GatherFault → Type 0
RefusesFolder folder faults.Folder = folder.unlisted
RefusesFolder folder faults.NoMemory = Unit {0}
RefusesFolder folder fault = FailsBehind folder fault
