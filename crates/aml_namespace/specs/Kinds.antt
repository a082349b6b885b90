-- The kinds of paths, by what tells an Alias its target: the target's path, or the number of it.
use Rattle.std.specs.Prelude.{ℕ, ◌<◌, ⊤, List, [], get_or, Option, Some, None}
use Rattle.aml_names.specs.declared.segments.Seg.{Seg}
use Rattle.aml_namespace.specs.declared.kinds.Kind.{Kind as KindOf}
use Rattle.aml_namespace.specs.declared.kinds.Kind.TheVariants.{Scope, Name, Method, Alias, Device, Processor}
use Rattle.aml_namespace.specs.declared.kinds.Kind.TheVariants.{PowerResource, ThermalZone, Mutex, Event, Region}
use Rattle.aml_namespace.specs.declared.kinds.Kind.TheVariants.{DataRegion, Field, BufferField}

-- a kind, of an Alias with the path of its target
abbrev pub Kind : Type 0
Kind = KindOf (List Seg)

-- a kind with what something makes of an Alias's target
abbrev pub retarget : {T U : Type 0} → (T → U) → KindOf T → KindOf U
retarget f (Alias is_open target) = Alias is_open (f target)
retarget f Scope = Scope
retarget f Name = Name
retarget f (Method args) = Method args
retarget f Device = Device
retarget f Processor = Processor
retarget f PowerResource = PowerResource
retarget f ThermalZone = ThermalZone
retarget f Mutex = Mutex
retarget f Event = Event
retarget f Region = Region
retarget f DataRegion = DataRegion
retarget f Field = Field
retarget f BufferField = BufferField

-- the target of an Alias
abbrev pub target_of : {T : Type 0} → KindOf T → Option T
target_of (Alias is_open target) = Some target
target_of _ = None

-- the path of a number among some; the root where none has it
abbrev pub target_in : List (List Seg) → ℕ → List Seg
target_in paths id = get_or paths id []

-- a kind by number, with the path of an Alias's target
abbrev pub kind_in : List (List Seg) → KindOf ℕ → Kind
kind_in paths kind = retarget (target_in paths) kind

-- an Alias's target is one of so many numbers
abbrev pub IsAmong : ℕ → KindOf ℕ → Type 0
IsAmong count (Alias is_open target) = target < count
IsAmong count _ = ⊤
