-- A stepping stone of the proofs: a search in a scope, depth by depth, and what of it is told by paths alone.
use Rattle.std.specs.Prelude.{ℕ, zero, suc, Bool, false, nat_le, ◌==◌, cond, List, [], Option, Some, None}
use Rattle.std.specs.List.{find}
use Rattle.aml_names.specs.declared.segments.Seg.{Seg}
use Rattle.aml_names.specs.Paths.{PathSet}
use Rattle.aml_names.specs.Searching.{upward}
use Rattle.aml_namespace.specs.Namespace.{first_count, arity_at, first_of, is_outside}
use Rattle.aml_namespace.specs.Runs.{Outlook, counts_met, arity_met, first_agreed, agreed_or}

-- the nearest local, where it stands at a depth or further down
abbrev pub local_from : Option ℕ → ℕ → Option ℕ
local_from None d = None
local_from (Some n) d = cond (nat_le d n) (Some n) None

-- whether the nearest local stands at a depth
abbrev pub stands_at : Option ℕ → ℕ → Bool
stands_at None d = false
stands_at (Some n) d = n == d

-- how many arguments a name takes whatever runs, by the paths that it may mean
abbrev pub agreed_at : Outlook → Bool → PathSet → List (List Seg) → Option ℕ
agreed_at o unknown_zero locals paths = arity_met (counts_met o locals paths) (first_count o.first.givens paths)
    (arity_at o.first unknown_zero locals paths (first_of o.first locals paths))

-- and which of them a Scope opens or an Alias names
abbrev pub agreed_among : Outlook → List (List Seg) → Option (List Seg)
agreed_among o paths = agreed_or (first_agreed o paths) (find (is_outside o.first) paths)

-- the candidates of a segment further up than a depth
abbrev pub above : List Seg → List Seg → ℕ → List (List Seg)
above scope segment zero = []
above scope segment (suc d) = upward d scope segment
