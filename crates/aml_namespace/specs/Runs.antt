-- What a run of the code outside methods may leave of what tables declare: entries that stand in every run or only in
-- some, and how many arguments a name takes where every run agrees.
use Rattle.std.specs.Prelude.{◌≡◌, ◌≢◌, ℕ, Bool, true, false, not, cond, List, [], ◌∷◌, ◌++◌, Option, Some, None, ◌||◌}
use Rattle.std.specs.Prelude.{◌&&◌, ◌==◌, is_some, IfSome, IsSome, IsSomeAnd, IsTrue, map, flat_map, option_to_list}
use Rattle.std.specs.Prelude.{◌+◌, slice_get, nat_lt, length, ◌⊎◌}
use Rattle.std.specs.List.{find, list_all, list_any, AllByRecursion}
use Rattle.std.specs.Option.{option_or}
use Rattle.std.specs.FinSet as set
use Rattle.aml_names.specs.declared.segments.Seg.{Seg}
use Rattle.aml_names.specs.declared.names.Name.{Name}
use Rattle.aml_names.specs.Paths.{PathSet}
use Rattle.aml_names.specs.Searching.{candidates}
use Rattle.aml_namespace.specs.Kinds.{Kind}
use Rattle.aml_namespace.specs.declared.kinds.Kind.{Kind as KindOf}
use Rattle.aml_namespace.specs.declared.kinds.Kind.TheVariants.{Scope, Method, Alias, Device, Processor, PowerResource}
use Rattle.aml_namespace.specs.declared.kinds.Kind.TheVariants.{ThermalZone}
use Rattle.aml_namespace.specs.Predefined.{predefined}
use Rattle.aml_namespace.specs.Namespace.{Entry, Body, declares, external, given, Namespace, namespace_of, same_path}
use Rattle.aml_namespace.specs.Namespace.{kind_at, decides, is_outside, target_count, first_count, arity_of}

-- ---- What may stand at a path.

-- whether a path has a sure declaration
abbrev pub surely_declared : List Entry → List Seg → Bool
surely_declared [] q = false
surely_declared (declares p k b sure ∷ es) q = (same_path q p && sure) || surely_declared es q
surely_declared (_ ∷ es) q = surely_declared es q

-- how many declarations a path has
abbrev pub times_at : List Entry → List Seg → ℕ
times_at [] q = 0
times_at (declares p k b sure ∷ es) q = cond (same_path q p) (times_at es q + 1) (times_at es q)
times_at (external p n ∷ es) q = times_at es q
times_at (given p n ∷ es) q = times_at es q

-- the kinds that a path has in one run or another, in order: the declared ones up to and with the first that is sure,
-- and where none is sure the predefined one behind them
abbrev pub kinds_at : List Entry → List Seg → List Kind
kinds_at [] q = option_to_list (predefined q)
kinds_at (declares p k b sure ∷ es) q = cond (same_path q p) (k ∷ cond sure [] (kinds_at es q)) (kinds_at es q)
kinds_at (_ ∷ es) q = kinds_at es q

-- whether a path has a kind in every run
abbrev pub sure_at : List Entry → List Seg → Bool
sure_at es p = surely_declared es p || is_some (predefined p)

-- the namespace in which the first declaration of a path counts; the kinds that a path may have; whether it has one in
-- every run
pub record Outlook : Type 0 where
  pub first : Namespace
  pub kinds : List Seg → List Kind
  pub sure : List Seg → Bool

abbrev pub outlook_of : List Entry → Outlook
outlook_of es = record { first = namespace_of es; kinds = kinds_at es; sure = sure_at es }

-- whether a Scope may open a path of this kind (ACPI 6.5, 19.6.122)
abbrev pub opens_scope : {T : Type 0} → KindOf T → Bool
opens_scope Scope = true
opens_scope Device = true
opens_scope Processor = true
opens_scope PowerResource = true
opens_scope ThermalZone = true
opens_scope _ = false

-- whether a Scope may open a path in every run
abbrev pub scope_in : Outlook → List Seg → Bool
scope_in o p = o.sure p && list_all opens_scope (o.kinds p)

abbrev pub is_alias : {T : Type 0} → KindOf T → Bool
is_alias (Alias is_open target) = true
is_alias _ = false

-- whether a kind is that of an open Alias
abbrev pub is_open_alias : {T : Type 0} → KindOf T → Bool
is_open_alias (Alias is_open target) = is_open
is_open_alias _ = false

-- Whether an Alias is open of what may be one of these kinds: where one is an Alias that isn't the only kind, or is open
-- itself. In one run it stands for that one's target then, and in another for something else.
abbrev pub open_among : {T : Type 0} → List (KindOf T) → Bool
open_among ks = list_any (λ k. is_alias k && (nat_lt 1 (length ks) || is_open_alias k)) ks

-- whether an Alias of a path is open
abbrev pub open_in : Outlook → List Seg → Bool
open_in o p = open_among (o.kinds p)

-- ---- How many arguments a name takes.

-- the counts of what may stand at the target of an Alias: of each of its kinds, and only without any that of its
-- Externals
abbrev pub target_counts : List Kind → Option ℕ → List ℕ
target_counts [] out = target_count None out ∷ []
target_counts (k ∷ ks) out = map (λ l. target_count (Some l) out) (k ∷ ks)

-- The counts of a kind: a method's own, an Alias's by its target, else 0. Nobody knows that of an open Alias, for which
-- two counts stand, so that none is common.
abbrev pub counts_by : Outlook → Kind → List ℕ
counts_by o (Method args) = args ∷ []
counts_by o (Alias true target) = 0 ∷ 1 ∷ []
counts_by o (Alias false target) = target_counts (o.kinds target) (o.first.outs target)
counts_by o _ = 0 ∷ []

abbrev pub counts_of : Outlook → List Seg → List ℕ
counts_of o p = flat_map (counts_by o) (o.kinds p)

-- the counts of all that is declared or predefined at these paths, up to and with the first that is one of the locals,
-- where the count is 0, or is sure; what only an External names isn't counted beside these
abbrev pub counts_met : Outlook → PathSet → List (List Seg) → List ℕ
counts_met o locals [] = []
counts_met o locals (p ∷ paths) = cond (set.contains locals p) (0 ∷ [])
    (cond (o.sure p) (counts_of o p) (counts_of o p ++ counts_met o locals paths))

-- the one count of a list in which all are the same
abbrev pub common : List ℕ → Option ℕ
common [] = None
common (n ∷ ns) = cond (list_all (λ m. m == n) ns) (Some n) None

-- the count of a name by the kinds that it may mean: where there are any, and all have one count
abbrev pub arity_by_kinds : Outlook → List Seg → PathSet → Name → Option ℕ
arity_by_kinds o scope locals name = common (counts_met o locals (candidates scope name))

-- the count by those that were met, else by a second choice where some were met, and by a third where none was
abbrev pub arity_met : List ℕ → Option ℕ → Option ℕ → Option ℕ
arity_met [] differ unmet = unmet
arity_met (n ∷ ns) differ unmet = option_or (common (n ∷ ns)) differ

-- How many arguments a name takes whatever runs: by the kinds that may be meant, where all agree; where they differ as
-- the user gives it; and where nothing with a kind can be meant as it is without code outside methods.
abbrev pub agreed_arity : Outlook → Bool → List Seg → PathSet → Name → Option ℕ
agreed_arity o unknown_zero scope locals name = arity_met (counts_met o locals (candidates scope name))
    (first_count o.first.givens (candidates scope name)) (arity_of o.first unknown_zero scope locals name)

-- ---- Which path a Scope opens, or an Alias names.

-- whether a path is known at all: it may have a kind, or an External names it
abbrev pub is_known : Namespace → List Seg → Bool
is_known n p = is_some (kind_at n p) || is_outside n p

-- The first of these paths that may have a kind. None: there is no such path. Some None: runs differ, as it isn't sure,
-- and a later one may have a kind, or an External names it. Some (Some p): no run leads elsewhere than to p.
abbrev pub first_agreed : Outlook → List (List Seg) → Option (Option (List Seg))
first_agreed o [] = None
first_agreed o (p ∷ paths) = cond (is_some (kind_at o.first p))
    (Some (cond (o.sure p || not (is_some (find (is_known o.first) paths))) (Some p) None)) (first_agreed o paths)

-- what these give, or, where none may have a kind, a second choice
abbrev pub agreed_or : Option (Option (List Seg)) → Option (List Seg) → Option (List Seg)
agreed_or None outside = outside
agreed_or (Some path) outside = path

-- where one of the candidates may have a kind, the path that every run agrees on; else the first that an External names
abbrev pub agreed_path : Outlook → List Seg → Name → Option (List Seg)
agreed_path o scope name =
    agreed_or (first_agreed o (candidates scope name)) (find (is_outside o.first) (candidates scope name))

-- ---- Runs.

-- whether a run may be without this entry
abbrev pub may_miss : Entry → Bool
may_miss (declares p k b sure) = not sure
may_miss (external p n) = true
may_miss (given p n) = true

-- A run takes some of the entries, in their order, and all that are sure; an open Alias with any target. Of a path's
-- declarations that it takes the first counts, as `namespace_of` says.
pub data IsRun : List Entry → List Entry → Type 0 where
  ended : IsRun [] []
  taken : (e : Entry) {es rs : List Entry} → IsRun es rs → IsRun (e ∷ es) (e ∷ rs)
  missed : (e : Entry) {es rs : List Entry} → IsTrue (may_miss e) → IsRun es rs → IsRun (e ∷ es) rs
  aimed : (p target other : List Seg) (b : Option Body) (sure : Bool) {es rs : List Entry} → IsRun es rs
      → IsRun (declares p (Alias true target) b sure ∷ es) (declares p (Alias false other) b sure ∷ rs)

-- the run that takes the sure ones alone; all entries are one too
abbrev pub least_run : List Entry → List Entry
least_run [] = []
least_run (e ∷ es) = cond (may_miss e) (least_run es) (e ∷ least_run es)

-- whether what stands at a path is no Alias of a path at which nothing stands
abbrev pub leads : Namespace → Option Kind → Bool
leads n None = false
leads n (Some (Alias is_open target)) = is_some (kind_at n target)
leads n (Some _) = true

-- whether a path is one of the locals, or something stands there, through an Alias too
abbrev pub stands : Namespace → PathSet → List Seg → Bool
stands n locals p = set.contains locals p || leads n (kind_at n p)

-- a name finds something in a namespace, through an Alias something at its target
abbrev pub Finds : Namespace → PathSet → List Seg → Name → Type 0
Finds n locals scope name =
    IsSomeAnd (find (decides n locals) (candidates scope name)) (λ p. IsTrue (stands n locals p))

-- Where the kinds that a name may mean agree on a count, the name has that count in every run in which it finds
-- something.
abbrev pub EveryRunAgrees : List Entry → Type 0
EveryRunAgrees es =
    (rs : List Entry) → IsRun es rs → (unknown_zero : Bool) (scope : List Seg) (locals : PathSet) (name : Name) →
    IsSome (arity_by_kinds (outlook_of es) scope locals name) → Finds (namespace_of rs) locals scope name →
    arity_of (namespace_of rs) unknown_zero scope locals name
    ≡ agreed_arity (outlook_of es) unknown_zero scope locals name

-- a name means a path of a kind in a namespace
abbrev pub means : Namespace → List Seg → Name → Option (List Seg)
means n scope name = find (λ p. is_some (kind_at n p)) (candidates scope name)

-- The same of the path that a Scope opens, or an Alias names: where it is told, no run in which something stands there
-- under that name leads elsewhere.
abbrev pub EveryRunLeadsThere : List Entry → Type 0
EveryRunLeadsThere es =
    (rs : List Entry) → IsRun es rs → (scope : List Seg) (name : Name) (p : List Seg) →
    agreed_path (outlook_of es) scope name ≡ Some p → IfSome (means (namespace_of rs) scope name) (λ q. q ≡ p)

-- ---- Entries without code outside methods.

-- all are sure, and no Alias is open
abbrev pub AreSure : List Entry → Type 0
AreSure [] = Unit {0}
AreSure (declares p k b sure ∷ es) = IsTrue sure × IsTrue (not (is_open_alias k)) × AreSure es
AreSure (external p n ∷ es) = AreSure es
AreSure (given p n ∷ es) = AreSure es

-- there nothing changes
abbrev pub StaysAsItIs : List Entry → Type 0
StaysAsItIs es =
    (unknown_zero : Bool) (scope : List Seg) (locals : PathSet) (name : Name) →
    agreed_arity (outlook_of es) unknown_zero scope locals name
    ≡ arity_of (namespace_of es) unknown_zero scope locals name

-- ---- What a search by the first declarations tells.

-- the kind of a path, as the first declaration has it, is the first of its kinds; a path without any isn't sure
pub record FirstCounts (o : Outlook) : Type 0 where
  pub first : (p : List Seg) → kind_at o.first p ≡ slice_get (o.kinds p) 0
  pub unsure : (p : List Seg) → kind_at o.first p ≡ None → o.sure p ≡ false

-- ---- That no more can be told.

abbrev pub IsNoAlias : Kind → Type 0
IsNoAlias (Alias is_open target) = ⊥
IsNoAlias _ = Unit {0}

-- none of the kinds that are met is an Alias: those of these paths up to the first that is one of the locals, or up to
-- and with the first that is sure
abbrev pub MeetNoAlias : Outlook → PathSet → List (List Seg) → Type 0
MeetNoAlias o locals [] = Unit {0}
MeetNoAlias o locals (p ∷ paths) = IsTrue (set.contains locals p) ⊎ (AllByRecursion IsNoAlias (o.kinds p)
    × (IsTrue (o.sure p) ⊎ MeetNoAlias o locals paths))

-- a count that a name has in a run
abbrev pub HasInRun : List Entry → Bool → List Seg → PathSet → Name → ℕ → Type 0
HasInRun es unknown_zero scope locals name n =
    (rs : List Entry) × IsRun es rs × (arity_of (namespace_of rs) unknown_zero scope locals name ≡ Some n)

-- each count that is met is that of the name in some run
abbrev pub EachIsMet : List Entry → Type 0
EachIsMet es =
    (unknown_zero : Bool) (scope : List Seg) (locals : PathSet) (name : Name) → MeetNoAlias (outlook_of es) locals (candidates scope name) →
    AllByRecursion (HasInRun es unknown_zero scope locals name)
    (counts_met (outlook_of es) locals (candidates scope name))

-- where something is met, and no count told, two runs differ
abbrev pub RunsDiffer : List Entry → Type 0
RunsDiffer es =
    (unknown_zero : Bool) (scope : List Seg) (locals : PathSet) (name : Name) → MeetNoAlias (outlook_of es) locals (candidates scope name) →
    (counts_met (outlook_of es) locals (candidates scope name) ≢ []) →
    arity_by_kinds (outlook_of es) scope locals name ≡ None →
    (a b : ℕ) × (a ≢ b) × HasInRun es unknown_zero scope locals name a × HasInRun es unknown_zero scope locals name b

-- ---- More entries.

-- further declarations change nothing at a path that has a sure one
abbrev pub SureStays : List Entry → Type 0
SureStays es =
    (more : List Entry) (q : List Seg) → IsTrue (surely_declared es q) → kinds_at (es ++ more) q ≡ kinds_at es q
