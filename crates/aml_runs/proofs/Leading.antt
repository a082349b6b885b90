-- What a name finds in a run of tables leads to something, through an Alias too (`run_finds`): an Alias is declared only
-- where its source finds something, and nothing that is declared goes away.
use Rattle.std.specs.Prelude.{◌||◌}
use Rattle.std.proofs.Common.{◌≡◌, Bool, true, false, not, cond, List, [], ◌∷◌, Option, Some, None, IfSome, IsSomeAnd}
use Rattle.std.proofs.Common.{is_some, refl, sym, subst, ◌⊎◌, inl, inr, ◌%◌}
use Rattle.std.proofs.lemmas.Bool.{false≢true}
use Rattle.std.specs.List.{find}
use Rattle.std.specs.FinSet as set
use Rattle.std.specs.Option.{option_or}
use Rattle.aml_names.specs.declared.segments.Seg.{Seg}
use Rattle.aml_names.specs.declared.names.Name.{Name}
use Rattle.aml_names.specs.Names.{placed}
use Rattle.aml_names.specs.Paths.{PathSet}
use Rattle.aml_names.specs.Searching.{candidates}
use Rattle.aml_code.specs.declared.rows.Object.{Object}
use Rattle.aml_code.specs.declared.rows.Object.TheVariants as objects
use Rattle.aml_code.specs.declared.rows.Role.{Role}
use Rattle.aml_code.specs.declared.rows.Role.TheVariants as roles
use Rattle.aml_code.specs.Lawful.{last_label, field_names}
use Rattle.aml_code.specs.Tree.{Tree, nothing, named, op, Trees, no_trees, tree_more, Parts, Tail, terms}
use Rattle.aml_namespace.specs.Kinds.{Kind}
use Rattle.aml_namespace.specs.declared.kinds.Kind.TheVariants as kinds
use Rattle.aml_namespace.specs.Predefined.{predefined}
use Rattle.aml_namespace.specs.Namespace.{Entry, Namespace, namespace_of, same_path, kind_at, decides, target_by}
use Rattle.aml_namespace.specs.Runs.{opens_scope, is_alias, leads, stands, means, Finds}
use Rattle.aml_namespace.proofs.Finding.{found_holds}
use Rattle.aml_namespace.proofs.Growing.{declaring, declared_more}
use Rattle.aml_load.specs.Declaring.{byte_of, first_label, target_of}
use Rattle.aml_load.specs.Loading.{role_of, kind_of}
use Rattle.aml_runs.specs.TableRuns.{is_passed, with_path, gained_at, path_in, found_in, units_gained, alias_gained}
use Rattle.aml_runs.specs.TableRuns.{RunsInside, RunsObject, may_open, RunsScope, RunsAs, Runs, RunTail, RunTerms}
use Rattle.aml_runs.specs.TableRuns.{RunTables, IsRunOf}
use Rattle.aml_namespace.proofs.Said.{no_alias}

-- no declared Alias aims at nothing
abbrev pub Leads : Namespace → Type 0
Leads n = (q : List Seg) → IfSome (n.declared q) (λ k. leads n (Some k) ≡ true)

-- ---- Of predefined paths none is an Alias.

leads_anywhere : (n : Namespace) (k : Kind) → is_alias k ≡ false → leads n (Some k) ≡ true
leads_anywhere n (kinds.Alias is_open target) plain = absurd (false≢true (sym plain))
leads_anywhere n _ plain = refl

all_lead : (n : Namespace) → Leads n → (q : List Seg) → IfSome (kind_at n q) (λ k. leads n (Some k) ≡ true)
all_lead n here q = by (n.declared q) (here q) (predefined q) (no_alias q)
  where
    by : (o : Option Kind) → IfSome o (λ k. leads n (Some k) ≡ true) → (standing : Option Kind) → IfSome standing (λ k. is_alias k ≡ false)
        → IfSome (option_or o standing) (λ k. leads n (Some k) ≡ true)
    by (Some k) declared standing plain = declared
    by None declared None plain = tt
    by None declared (Some k) plain = leads_anywhere n k plain

-- ---- A declaration more.

module _ (n : Namespace) (p : List Seg) (k : Kind) where
  still_there : (q : List Seg) → is_some (kind_at n q) ≡ true → is_some (kind_at (declaring n p k) q) ≡ true
  still_there q there = by (n.declared q) (cond (same_path q p) (Some k) None) (predefined q) there
    where
      by : (o more standing : Option Kind) → is_some (option_or o standing) ≡ true → is_some (option_or (option_or o more) standing) ≡ true
      by (Some l) more standing there = refl
      by None (Some l) standing there = refl
      by None None standing there = there

  still_leads : (l : Kind) → leads n (Some l) ≡ true → leads (declaring n p k) (Some l) ≡ true
  still_leads (kinds.Alias is_open target) there = still_there target there
  still_leads _ there = refl

  lead_more : leads n (Some k) ≡ true → Leads n → Leads (declaring n p k)
  lead_more here all q = by (n.declared q) (all q) (same_path q p)
    where
      by : (o : Option Kind) → IfSome o (λ l. leads n (Some l) ≡ true) → (same : Bool)
          → IfSome (option_or o (cond same (Some k) None)) (λ l. leads (declaring n p k) (Some l) ≡ true)
      by (Some l) there same = still_leads l there
      by None there true = still_leads k here
      by None there false = tt

abbrev Led : List Entry → Type 0
Led n = Leads (namespace_of n)

path_leads : (n : List Entry) (p : List Seg) (k : Kind) → leads (namespace_of n) (Some k) ≡ true → Led n → Led (with_path n p k)
path_leads n p k here all = subst Leads (sym (declared_more p k None true n)) (lead_more (namespace_of n) p k here all)

gained_leads : (n : List Entry) (o : Option (List Seg)) (k : Kind) → leads (namespace_of n) (Some k) ≡ true → Led n
    → Led (gained_at n o k)
gained_leads n None k here all = all
gained_leads n (Some p) k here all = by (is_passed n p)
  where
    by : (passed : Bool) → Led (cond passed n (with_path n p k))
    by true = all
    by false = path_leads n p k here all

units_lead : (n : List Entry) (scope : List Seg) (names : List Name) → Led n → Led (units_gained n scope names)
units_lead n scope [] all = all
units_lead n scope (name ∷ names) all =
    units_lead (gained_at n (placed scope name) kinds.Field) scope names (gained_leads n (placed scope name) kinds.Field refl all)

-- what an Alias stands for is there, where its source finds something
target_there : (n : List Entry) (q : List Seg) → is_some (kind_at (namespace_of n) q) ≡ true → Led n
    → is_some (kind_at (namespace_of n) (target_of n q)) ≡ true
target_there n q there all = by (kind_at (namespace_of n) q) refl (all_lead (namespace_of n) all q)
  where
    by : (o : Option Kind) → kind_at (namespace_of n) q ≡ o → IfSome o (λ k. leads (namespace_of n) (Some k) ≡ true)
        → is_some (kind_at (namespace_of n) (target_by o q)) ≡ true
    by None at here = there
    by (Some (kinds.Alias is_open target)) at here = here
    by (Some _) at here = there

alias_leads : (n : List Entry) (p : Option (List Seg)) (scope : List Seg) (source : Option Name) → Led n
    → Led (alias_gained n p (found_in n scope source))
alias_leads n p scope None all = all
alias_leads n p scope (Some name) all = by (means (namespace_of n) scope name) refl
  where
    by : (o : Option (List Seg)) → means (namespace_of n) scope name ≡ o → Led (alias_gained n p o)
    by None none = all
    by (Some q) finds = gained_leads n p (kinds.Alias false (target_of n q)) (target_there n q
        (found_holds (λ r. is_some (kind_at (namespace_of n) r)) (candidates scope name) q finds) all) all

-- ---- By the role of a term.

object_leads : (inside : RunsInside) (n m : List Entry) (o : Option (List Seg)) (k : Kind) → leads (namespace_of n) (Some k) ≡ true
    → ((whole : Bool) (scope : List Seg) (l : List Entry) → Led l → inside whole scope l m → Led m) → Led n
    → RunsObject inside n o k m
    → Led m
object_leads inside n m None k here within all same = subst Led (sym same) all
object_leads inside n m (Some p) k here within all (inl (passed, same)) = subst Led (sym same) all
object_leads inside n m (Some p) k here within all (inr (free, ran)) = within true p (with_path n p k) (path_leads n p k here all) ran

scope_leads : (inside : RunsInside) (n m : List Entry) (o : Option (List Seg))
    → ((whole : Bool) (scope : List Seg) (l : List Entry) → Led l → inside whole scope l m → Led m) → Led n
    → RunsScope inside n o m
    → Led m
scope_leads inside n m None within all same = subst Led (sym same) all
scope_leads inside n m (Some q) within all ran = by (kind_at (namespace_of n) q) ran
  where
    by : (o : Option Kind) → IsSomeAnd o (λ k. ((may_open k ≡ true) × inside true q n m) ⊎ ((not (opens_scope k) ≡ true) × (m ≡ n))) → Led m
    by None ran = absurd ran
    by (Some k) (inl (may, ran)) = within true q n all ran
    by (Some k) (inr (closed, same)) = subst Led (sym same) all

role_leads : (r : Role) (inside : RunsInside) (scope : List Seg) (n : List Entry) (ps : Parts) (x : Tail) (m : List Entry)
    → ((whole : Bool) (scope : List Seg) (l : List Entry) → Led l → inside whole scope l m → Led m) → Led n
    → RunsAs r inside scope n ps x m
    → Led m
role_leads (roles.Declares o) inside scope n ps x m within all ran =
    object_leads inside n m (path_in scope (last_label None ps)) (kind_of o) (leads_anywhere (namespace_of n) (kind_of o) (plain o)) within all ran
  where
    plain : (o : Object) → is_alias (kind_of o) ≡ false
    plain objects.Name = refl
    plain _ = refl
role_leads roles.Method inside scope n ps x m within all ran =
    subst Led (sym ran) (gained_leads n (path_in scope (last_label None ps)) (kinds.Method (byte_of ps % 8)) refl all)
role_leads roles.Scope inside scope n ps x m within all ran = scope_leads inside n m (found_in n scope (last_label None ps)) within all ran
role_leads roles.Alias inside scope n ps x m within all ran =
    subst Led (sym ran) (alias_leads n (path_in scope (last_label None ps)) scope (first_label ps) all)
role_leads roles.External inside scope n ps x m within all ran = subst Led (sym ran) all
role_leads roles.Fields inside scope n ps x m within all ran = subst Led (sym ran) (units_lead n scope (field_names x) all)
role_leads roles.Guard inside scope n ps x m within all ran = within false scope n all ran
role_leads roles.Other inside scope n ps x m within all ran = within false scope n all ran

-- ---- Terms and tables.

mutual
  term_leads : (scope : List Seg) (n : List Entry) (t : Tree) (m : List Entry) → Led n → Runs scope n t m → Led m
  term_leads scope n nothing m all ran = subst Led (sym ran) all
  term_leads scope n (named name ts) m all ran = subst Led (sym ran) all
  term_leads scope n (op o w ps x) m all ran = role_leads (role_of o) _ scope n ps x m
      (λ whole p l led ran. tail_leads whole p l x m led ran) all ran

  tail_leads : (whole : Bool) (scope : List Seg) (n : List Entry) (x : Tail) (m : List Entry) → Led n
      → RunTail whole scope n x m → Led m
  tail_leads whole scope n (terms ts) m all ran = terms_lead whole scope n ts m all ran
  tail_leads whole scope n _ m all ran = subst Led (sym ran) all

  terms_lead : (whole : Bool) (scope : List Seg) (n : List Entry) (ts : Trees) (m : List Entry) → Led n
      → RunTerms whole scope n ts m → Led m
  terms_lead whole scope n no_trees m all ran = subst Led (sym ran) all
  terms_lead whole scope n (tree_more t ts) m all (inl (stops, same)) = subst Led (sym same) all
  terms_lead whole scope n (tree_more t ts) m all (inr (k, ran, more)) =
      terms_lead whole scope k ts m (term_leads scope n t k all ran) more

tables_lead : (n : List Entry) (trees : List Trees) (m : List Entry) → Led n → RunTables n trees m → Led m
tables_lead n [] m all ran = subst Led (sym ran) all
tables_lead n (ts ∷ rest) m all (k, ran, more) = tables_lead k rest m (terms_lead true [] n ts k all ran) more

-- where a name finds something in a run, something stands there, through an Alias too
pub run_finds : (trees : List Trees) (n : List Entry) → IsRunOf trees n → (locals : PathSet) (scope : List Seg) (name : Name)
    → is_some (find (decides (namespace_of n) locals) (candidates scope name)) ≡ true
    → Finds (namespace_of n) locals scope name
run_finds trees n ran locals scope name some = by (find (decides (namespace_of n) locals) (candidates scope name)) refl some
  where
    all : Led n
    all = tables_lead [] trees n (λ q. tt) ran

    here : (p : List Seg) (local : Bool) (o : Option Kind) → IfSome o (λ k. leads (namespace_of n) (Some k) ≡ true)
        → (local || is_some o) ≡ true → (local || leads (namespace_of n) o) ≡ true
    here p true o led decided = refl
    here p false None led decided = decided
    here p false (Some k) led decided = led

    by : (o : Option (List Seg)) → find (decides (namespace_of n) locals) (candidates scope name) ≡ o → is_some o ≡ true
        → IsSomeAnd o (λ p. stands (namespace_of n) locals p ≡ true)
    by None finds some = absurd (false≢true some)
    by (Some p) finds some = here p (set.contains locals p) (kind_at (namespace_of n) p) (all_lead (namespace_of n) all p)
        (found_holds (decides (namespace_of n) locals) (candidates scope name) p finds)
