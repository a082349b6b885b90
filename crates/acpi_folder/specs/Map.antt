-- The file `tables.map` of a folder: the physical address at which each table stood. It has a line for each file that
-- it places: 16 hexadecimal digits of either case, a space and the file's name. The byte 0A ends a line; the last line
-- may go without.
use Rattle.std.specs.Prelude.{◌≡◌, ℕ, ◌-◌, ◌<◌, ◌≤◌, ◌&&◌, ◌||◌, not, Bool, true, false, List, [], ◌∷◌, length, take}
use Rattle.std.specs.Prelude.{drop, map, find, nat_eq, slice_index, slice_index_or, Option, Some, None, option_map}
use Rattle.std.specs.Prelude.{if◌then◌else◌}
use Rattle.std.specs.List.{list_any, onto_first}
use Rattle.std.specs.Str.{bytes_eq}
use Rattle.std.specs.Str.Parse.{AllDigits, digits_value}
use Rattle.acpi_folder.specs.declared.map.Line.{Line}
use Rattle.acpi_folder.specs.declared.map.MapFault.{MapFault}
use Rattle.acpi_folder.specs.declared.map.MapFault.TheVariants.{BadLine, NoSuchFile, Again, NoMemory}

abbrev pub is_line_end : ℕ → Bool
is_line_end byte = nat_eq byte 10

-- the lines of a text, without the bytes that end them
unfoldable pub lines_of : List ℕ → List (List ℕ)
lines_of [] = []
lines_of (byte ∷ bytes) = if is_line_end byte then [] ∷ lines_of bytes else onto_first byte (lines_of bytes)

-- a line's form: 16 digits, and a space behind them
pub record IsLine (line : List ℕ) : Type 0 where
  pub digits : AllDigits 16 (take 16 line)
  pub space : slice_index line 16 ≡ 32

-- what a line says: the file of this name stood at this address
pub record Entry : Type 0 where
  pub address : ℕ
  pub name : List ℕ

abbrev pub entry_of : List ℕ → Entry
entry_of line = record { address = digits_value 16 (take 16 line); name = drop 17 line }

-- what the program keeps of it
abbrev pub shown_by : Line → Entry
shown_by line = record { address = line.address; name = line.name.now }

-- a name of a file is one of the names, and isn't empty
abbrev pub is_listed : List (List ℕ) → List ℕ → Bool
is_listed names name = not (nat_eq (length name) 0) && list_any (bytes_eq name) names

-- an entry names the same file as another, or the same address
abbrev pub repeats : Entry → Entry → Bool
repeats entry other = bytes_eq entry.name other.name || nat_eq entry.address other.address

-- A line of a map: it has the form, it names a file of the folder, and no earlier line has its name or its address.
pub record IsMapped (names earlier : List (List ℕ)) (line : List ℕ) : Type 0 where
  pub form : IsLine line
  pub listed : is_listed names (entry_of line).name ≡ true
  pub fresh : list_any (repeats (entry_of line)) (map entry_of earlier) ≡ false

abbrev pub line_at : List (List ℕ) → ℕ → List ℕ
line_at lines index = slice_index_or lines index []

-- each of the first lines is so, up to this count of them; and a text is a map where all of its lines are
abbrev pub HoldsTo : List (List ℕ) → List (List ℕ) → ℕ → Type 0
HoldsTo names lines count = (index : ℕ) → index < count → IsMapped names (take index lines) (line_at lines index)

abbrev pub HoldsMap : List (List ℕ) → List ℕ → Type 0
HoldsMap names text = HoldsTo names (lines_of text) (length (lines_of text))

-- the address that the entry of this name has, if there is one
unfoldable pub address_in : List Entry → List ℕ → Option ℕ
address_in entries name = option_map (λ entry. entry.address) (find (λ entry. bytes_eq entry.name name) entries)

-- the addresses of the files of these names
abbrev pub addresses_of : List (List ℕ) → List ℕ → List (Option ℕ)
addresses_of names text = map (address_in (map entry_of (lines_of text))) names

-- what is wrong with a line behind these
abbrev pub HasFault : List (List ℕ) → List Entry → List ℕ → MapFault → Type 0
HasFault names earlier line (BadLine number) = ¬ IsLine line
HasFault names earlier line (NoSuchFile number) = IsLine line × (is_listed names (entry_of line).name ≡ false)
HasFault names earlier line (Again number) =
    IsLine line
    × (is_listed names (entry_of line).name ≡ true)
    × (list_any (repeats (entry_of line)) earlier ≡ true)
HasFault names earlier line NoMemory = ⊥

-- the number of the line that a refusal is about
abbrev pub numbered_by : MapFault → Option ℕ
numbered_by (BadLine number) = Some number
numbered_by (NoSuchFile number) = Some number
numbered_by (Again number) = Some number
numbered_by NoMemory = None

-- What a refusal says of a text: the line of this number, counted from 1, is the first that isn't a map's, and has this
-- fault.
pub record RefusesMap (names : List (List ℕ)) (text : List ℕ) (fault : MapFault) : Type 0 where
  pub number : ℕ
  pub numbered : numbered_by fault ≡ Some number
  pub counted : 1 ≤ number
  pub inside : number ≤ length (lines_of text)
  pub before : HoldsTo names (lines_of text) (number - 1)
  pub there :
      HasFault names (map entry_of (take (number - 1) (lines_of text))) (line_at (lines_of text) (number - 1)) fault
