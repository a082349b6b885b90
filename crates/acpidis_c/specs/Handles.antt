-- What the handle of a set owns.
use base.Fml.{Fml, ftrue}
use base.Stored.{Coded}
use denote.RawPtr.{Ptr}
use Rattle.std.specs.Prelude.{Option, Some, None}
use Rattle.std.specs.Box.Ownership.{box_owns}
use Rattle.std.specs.Coded.{coded_option}
use Rattle.std.specs.Global.{Global}
use Rattle.std_heap.specs.contracts.GlobalAllocator.TheImpl.{ghosts}
use Rattle.acpidis_c.specs.contracts.state.State.{the_row}

-- nothing, or what a box of the state owns
abbrev pub held_owns : Global → Ptr → Option the_row.Denot → Fml
held_owns alloc at None = ftrue
held_owns alloc at (Some state) = box_owns (ghosts.dealloc_token alloc) the_row at state

abbrev pub state_coded : Coded (Option the_row.Denot)
state_coded = coded_option the_row.coded
