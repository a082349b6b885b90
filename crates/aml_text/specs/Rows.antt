-- The second part of a listing: the namespace, a line for each declared path.
use Rattle.std.specs.Prelude.{ℕ, ◌*◌, Bool, nat_lt, decimal, List, [], ◌∷◌, ◌++◌, Vec, map, flat_map}
use Rattle.std.specs.Prelude.{length, cond, take, drop}
use Rattle.std.specs.Global.{Global}
use Rattle.aml_names.specs.declared.segments.Seg.{Seg}
use Rattle.aml_namespace.specs.Kinds.{Kind}
use Rattle.aml_namespace.specs.declared.kinds.Kind.TheVariants.{Scope, Name, Method, Alias, Device, Processor}
use Rattle.aml_namespace.specs.declared.kinds.Kind.TheVariants.{PowerResource, ThermalZone, Mutex, Event, Region}
use Rattle.aml_namespace.specs.declared.kinds.Kind.TheVariants.{DataRegion, Field, BufferField}
use Rattle.aml_namespace.specs.Known.{Declared}
use Rattle.text_writer.specs.Prints.{word}
use Rattle.asl_text.specs.Texts.{separated, segment_text, line}

-- a path: \ and its segments, with a dot between two: \_SB_.PCI0
unfoldable pub path_text : List Seg → List ℕ
path_text path = word "\\" ++ separated (word ".") (map segment_text path)

-- what a path stands for: a method with its number of arguments, an Alias with the path that it leads to
abbrev pub kind_text : Kind → List ℕ
kind_text Scope = word "Scope"
kind_text Name = word "Name"
kind_text (Method args) = word "Method " ++ decimal args
kind_text (Alias is_open target) = word "Alias " ++ path_text target
kind_text Device = word "Device"
kind_text Processor = word "Processor"
kind_text PowerResource = word "PowerResource"
kind_text ThermalZone = word "ThermalZone"
kind_text Mutex = word "Mutex"
kind_text Event = word "Event"
kind_text Region = word "Region"
kind_text DataRegion = word "DataRegion"
kind_text Field = word "Field"
kind_text BufferField = word "BufferField"

-- that no declaration of a path is sure, and that it has several
abbrev pub maybe_text : Bool → List ℕ
maybe_text sure = cond sure [] (word " Maybe")

abbrev pub times_text : ℕ → List ℕ
times_text times = cond (nat_lt 1 times) (word " Times " ++ decimal times) []

-- a path with the kind of its first declaration: \_SB_.PCI0 Device
abbrev pub marked_text : List Seg × Declared → List ℕ
marked_text row = path_text row.0 ++ word " " ++ kind_text row.1.kind
    ++ (maybe_text row.1.sure ++ times_text row.1.times)

unfoldable pub row_line : List Seg × Declared → List ℕ
row_line row = line 1 (marked_text row)

-- the number of rows, and their lines: Namespace 2
unfoldable pub namespace_text : List (List Seg × Declared) → List ℕ
namespace_text rows = line 0 (word "Namespace " ++ decimal (length rows)) ++ flat_map row_line rows

-- ---- rows in pieces, each of which is printed by itself

-- the piece of this number: 512 rows behind those of the pieces before it, and as many as are left in the last
abbrev pub piece_of : List (List Seg × Declared) → ℕ → List (List Seg × Declared)
piece_of rows n = take 512 (drop (n * 512) rows)

-- the lines of rows, of which some texts are the pieces, if they are printed already
abbrev pub lines_by : List (List Seg × Declared) → List (Vec ℕ Global) → List ℕ
lines_by rows [] = flat_map row_line rows
lines_by rows (text ∷ texts) = flat_map (λ t. t.items) (text ∷ texts)
