-- What a space knows, and the lists of entries that this stands for; and the declared paths in order, which are the
-- rows of the text.
use Rattle.std.specs.Prelude.{◌≡◌, ℕ, ◌+◌, refl, List, [], Bool, cond, ◌∷◌, ◌++◌, is_some, ◌<◌, Option, Some, None}
use Rattle.std.specs.Prelude.{slice_get, ◌||◌, get_or, option_to_list, true, false, ◌==◌}
use Rattle.std.specs.Option.{option_map}
use Rattle.std.specs.Coded.{Coded, code_by, coded×, coded_ℕ, coded_list, coded_bool}
use Rattle.aml_names.specs.declared.segments.Seg.{Seg}
use Rattle.aml_names.specs.Paths.{coded_path, path_cmp}
use Rattle.aml_namespace.specs.Kinds.{Kind}
use Rattle.aml_namespace.specs.declared.kinds.Kind.{Kind as KindOf}
use Rattle.aml_namespace.specs.declared.kinds.Kind.TheVariants.{Scope, Name, Method, Alias, Device, Processor}
use Rattle.aml_namespace.specs.declared.kinds.Kind.TheVariants.{PowerResource, ThermalZone, Mutex, Event, Region}
use Rattle.aml_namespace.specs.declared.kinds.Kind.TheVariants.{DataRegion, Field, BufferField}
use Rattle.std.specs.FinMap as map
use Rattle.aml_namespace.specs.Namespace.{Entry, declares, external, given, greater, declared_at, outs_at, given_at}
use Rattle.aml_namespace.specs.Namespace.{Namespace, same_path}
use Rattle.aml_namespace.specs.Predefined.{predefined}
use Rattle.aml_namespace.specs.Runs.{Outlook, surely_declared, times_at}
use Rattle.aml_namespace.specs.declared.rows.SpaceRow.{SpaceRow}
use Rattle.std.specs.declared.cmp.Ordering.TheVariants.{Less}

-- ---- A stepping stone of the proofs: kinds as numbers and paths, so that they can stand in a finite map.

abbrev pub kind_parts : {T : Type 0} → KindOf T → ℕ × (ℕ × List T)
kind_parts Scope = (0, (0, []))
kind_parts Name = (1, (0, []))
kind_parts (Method n) = (2, (n, []))
kind_parts (Alias is_open t) = (3, (cond is_open 1 0, t ∷ []))
kind_parts Device = (4, (0, []))
kind_parts Processor = (5, (0, []))
kind_parts PowerResource = (6, (0, []))
kind_parts ThermalZone = (7, (0, []))
kind_parts Mutex = (8, (0, []))
kind_parts Event = (9, (0, []))
kind_parts Region = (10, (0, []))
kind_parts DataRegion = (11, (0, []))
kind_parts Field = (12, (0, []))
kind_parts BufferField = (13, (0, []))

abbrev pub kind_by : {T : Type 0} → ℕ → ℕ → List T → KindOf T
kind_by k n [] = get_or (Scope ∷ Name ∷ Method n ∷ Scope ∷ Device ∷ Processor ∷ PowerResource ∷ ThermalZone
    ∷ Mutex ∷ Event ∷ Region ∷ DataRegion ∷ Field ∷ BufferField ∷ []) k Scope
kind_by k n (t ∷ ts) = Alias (n == 1) t

abbrev pub kind_whole : {T : Type 0} → ℕ × (ℕ × List T) → KindOf T
kind_whole p = kind_by p.0 p.1.0 p.1.1

pub kind_again : {T : Type 0} → (k : KindOf T) → kind_whole (kind_parts k) ≡ k
kind_again Scope = refl
kind_again (Alias true t) = refl
kind_again (Alias false t) = refl
kind_again _ = refl

abbrev pub coded_kind : {T : Type 0} → Coded T → Coded (KindOf T)
coded_kind {T} target = code_by (ℕ × (ℕ × List T)) (coded× coded_ℕ (coded× coded_ℕ (coded_list target))) kind_parts kind_whole kind_again

-- ---- What the declarations of a path say.

-- The kind of the first; where the first isn't sure, those of the others, in order, up to and with the first sure one;
-- whether a sure one is among all of them; and how many they are.
pub record Said (K : Type 0) : Type 0 where
  pub kind : K
  pub others : List K
  pub sure : Bool
  pub times : ℕ

abbrev pub Declared : Type 0
Declared = Said Kind

-- one declaration more, before the others, if there are any
abbrev pub before : {K : Type 0} → K → Bool → Option (Said K) → Said K
before kind sure None = record { kind = kind; others = []; sure = sure; times = 1 }
before kind sure (Some d) =
    record { kind = kind; others = cond sure [] (d.kind ∷ d.others); sure = sure || d.sure; times = d.times + 1 }

-- one alone, and one more behind the others
abbrev pub once : {K : Type 0} → K → Bool → Said K
once kind sure = before kind sure None

abbrev pub again : {K : Type 0} → Said K → K → Bool → Said K
again d kind sure = record {
  kind = d.kind;
  others = cond d.sure d.others (d.others ++ kind ∷ []);
  sure = d.sure || sure;
  times = d.times + 1;
}

abbrev pub behind : {K : Type 0} → Option (Said K) → K → Bool → Said K
behind None kind sure = once kind sure
behind (Some d) kind sure = again d kind sure

-- What the declarations of a path in a list of entries say. The kind is that of `declared_at` (proved: `first_said`).
abbrev pub declaration_at : List Entry → List Seg → Option Declared
declaration_at [] q = None
declaration_at (declares p k b sure ∷ es) q =
    cond (same_path q p) (Some (before k sure (declaration_at es q))) (declaration_at es q)
declaration_at (_ ∷ es) q = declaration_at es q

abbrev pub declared_kind : Option Declared → Option Kind
declared_kind o = option_map (λ (d : Declared). d.kind) o

-- the kinds that a path may have, and whether it has one in every run, by its declarations and its predefined kind
abbrev pub kinds_by : {K : Type 0} → Option (Said K) → Option K → List K
kinds_by None standing = option_to_list standing
kinds_by (Some d) standing = d.kind ∷ (d.others ++ cond d.sure [] (option_to_list standing))

abbrev pub sure_by : {K : Type 0} → Option (Said K) → Option K → Bool
sure_by None standing = is_some standing
sure_by (Some d) standing = d.sure || is_some standing

abbrev pub coded_said : {K : Type 0} → Coded K → Coded (Said K)
coded_said {K} kind = code_by (K × (List K × (Bool × ℕ)))
    (coded× kind (coded× (coded_list kind) (coded× coded_bool coded_ℕ)))
    (λ d. (d.kind, (d.others, (d.sure, d.times))))
    (λ p. record { kind = p.0; others = p.1.0; sure = p.1.1.0; times = p.1.1.1 }) (λ _. refl)

abbrev pub coded_declared : Coded Declared
coded_declared = coded_said (coded_kind coded_path)

-- paths with what their declarations say
abbrev pub coded_row : Coded (List Seg × Declared)
coded_row = coded× coded_path coded_declared

abbrev pub coded_rows : Coded (List (List Seg × Declared))
coded_rows = coded_list coded_row

-- ---- What a space knows: three finite maps by path, and the lists of entries that these stand for.

-- What the declarations of each path say, the greatest count of its Externals, and the greatest that the user gives it;
-- and the paths that have numbers, by these.
pub record Known : Type 0 where
  pub declarations : map.FinMap path_cmp Declared
  pub outs : map.FinMap path_cmp ℕ
  pub givens : map.FinMap path_cmp ℕ
  pub paths : List (List Seg)

-- the namespace of what is known
abbrev pub namespace_in : Known → Namespace
namespace_in k = record {
  declared = λ q. declared_kind (map.get k.declarations q);
  outs = map.get k.outs;
  givens = map.get k.givens;
}

-- and what may stand at each path
abbrev pub outlook_in : Known → Outlook
outlook_in k = record {
  first = namespace_in k;
  kinds = λ q. kinds_by (map.get k.declarations q) (predefined q);
  sure = λ q. sure_by (map.get k.declarations q) (predefined q);
}

-- What is known stands for a list of entries: the declarations of each path say the same in both, and both have the
-- same greatest count of Externals for each path, and the same given one. Which paths have numbers (`paths`) is free
-- here.
pub record StandsFor (k : Known) (es : List Entry) : Type 0 where
  pub same_declared : (q : List Seg) → map.get k.declarations q ≡ declaration_at es q
  pub same_outs : (q : List Seg) → map.get k.outs q ≡ outs_at es q
  pub same_givens : (q : List Seg) → map.get k.givens q ≡ given_at es q

-- nothing; of the paths the root alone has a number
abbrev pub nothing_known : Known
nothing_known = record { declarations = map.empty; outs = map.empty; givens = map.empty; paths = [] ∷ [] }

abbrev pub with_declaration : Known → List Seg → Declared → Known
with_declaration k p d = record k { declarations = map.insert k.declarations p d }

-- a path that is declared once, surely
abbrev pub with_declared : Known → List Seg → Kind → Known
with_declared k p kind = with_declaration k p (once kind true)

-- one declaration more of a path, behind the others and before them
abbrev pub with_again : Known → List Seg → Kind → Bool → Known
with_again k p kind sure = with_declaration k p (behind (map.get k.declarations p) kind sure)

abbrev pub with_first : Known → List Seg → Kind → Bool → Known
with_first k p kind sure = with_declaration k p (before kind sure (map.get k.declarations p))

abbrev pub with_external : Known → List Seg → ℕ → Known
with_external k p n = record k { outs = map.insert k.outs p (greater n (map.get k.outs p)) }

abbrev pub with_given : Known → List Seg → ℕ → Known
with_given k p n = record k { givens = map.insert k.givens p (greater n (map.get k.givens p)) }

-- with these paths by their numbers
abbrev pub with_paths : Known → List (List Seg) → Known
with_paths k paths = record k { paths = paths }

-- what is known of paths alone
abbrev pub of_paths : Known → Known
of_paths k = with_paths k []

-- a path has a number
abbrev pub StandsAt : Known → ℕ → List Seg → Type 0
StandsAt k id p = slice_get k.paths id ≡ Some p

-- the path of a number; the root where no path has it
abbrev pub path_at : Known → ℕ → List Seg
path_at k id = get_or k.paths id []

-- what is known, and maybe paths with numbers more
abbrev pub Grows : Known → Known → Type 0
Grows old new = (more : List (List Seg)) × (new ≡ with_paths old (old.paths ++ more))

-- what a list of entries makes known
abbrev pub known : List Entry → Known
known [] = nothing_known
known (declares p k b sure ∷ es) = with_first (known es) p k sure
known (external p n ∷ es) = with_external (known es) p n
known (given p n ∷ es) = with_given (known es) p n

-- what the declarations of a list of entries say
abbrev pub declarations_in : List Entry → map.FinMap path_cmp Declared
declarations_in es = (known es).declarations

abbrev pub is_declared : Known → List Seg → Bool
is_declared k p = is_some (map.get k.declarations p)

-- what is known is three maps and a list of paths, and nothing more
abbrev pub coded_known : Coded Known
coded_known =
    code_by (map.FinMap path_cmp Declared
    × (map.FinMap path_cmp ℕ × (map.FinMap path_cmp ℕ × List (List Seg))))
    (coded× (map.code coded_path coded_declared) (coded× (map.code coded_path coded_ℕ)
    (coded× (map.code coded_path coded_ℕ) (coded_list coded_path))))
    (λ k. (k.declarations, (k.outs, (k.givens, k.paths))))
    (λ p. record { declarations = p.0; outs = p.1.0; givens = p.1.1.0; paths = p.1.1.1 })
    (λ _. refl)

-- ---- What the names of a method's body are read by.

-- what is known, the method's own path, and whether a name that leads nowhere counts as one without arguments
pub record BodyView : Type 0 where
  pub known : Known
  pub method : List Seg
  pub unknown_zero : Bool

abbrev pub coded_view : Coded BodyView
coded_view = code_by (Known × (List Seg × Bool)) (coded× coded_known (coded× coded_path coded_bool))
    (λ b. (b.known, (b.method, b.unknown_zero))) (λ p. record { known = p.0; method = p.1.0; unknown_zero = p.1.1 })
    (λ _. refl)

-- ---- The declared paths in order.

-- a row of a path and what its declarations say
abbrev pub row_of : List Seg × Declared → SpaceRow
row_of e = record { path = e.0; kind = e.1.kind; sure = e.1.sure; times = e.1.times }

-- Rows are the declared paths of a list of entries, each once, ordered by segments as bytes and a shorter path before
-- those that it begins. Each has the kind of the path's first declaration, says whether one is sure, and how many there
-- are.
pub record AreRows (es : List Entry) (rows : List SpaceRow) : Type 0 where
  pub rise : (i j : ℕ) (a b : SpaceRow) → i < j → slice_get rows i ≡ Some a → slice_get rows j ≡ Some b
      → path_cmp a.path b.path ≡ Less
  pub declared : (i : ℕ) (a : SpaceRow) → slice_get rows i ≡ Some a → declared_at es a.path ≡ Some a.kind
  pub sure : (i : ℕ) (a : SpaceRow) → slice_get rows i ≡ Some a → a.sure ≡ surely_declared es a.path
  pub times : (i : ℕ) (a : SpaceRow) → slice_get rows i ≡ Some a → a.times ≡ times_at es a.path
  pub whole : (p : List Seg) (k : Kind) → declared_at es p ≡ Some k →
      (i : ℕ) × (a : SpaceRow) × (slice_get rows i ≡ Some a) × (a.path ≡ p)
