-- Another target changes nothing else of a kind (`same_alias`, `same_open`), nor of several (`any_aimed`, `all_aimed`,
-- `own_aimed`, `open_aimed`), nor of what declarations say (`kinds_aimed`, `sure_aimed`). With its own target a kind is
-- itself (`aimed`). More paths change no target that is among the first (`kind_grown`),
-- and the number of the target tells the kind (`kind_numbered`).
use Rattle.std.specs.Prelude.{◌||◌, ◌&&◌, option_to_list, nat_lt, slice_get}
use Rattle.std.proofs.lemmas.Option.{get_or_from_slice_get, slice_get_within}
use Rattle.std.proofs.Common.{◌≡◌, ℕ, Bool, true, false, cond, List, [], ◌∷◌, ◌++◌, length, map, Option, Some, None}
use Rattle.std.proofs.Common.{IfSome, refl, sym, ap, ◌∙◌}
use Rattle.std.proofs.lemmas.List.{get_or_append_left, length-map, map-append}
use Rattle.std.specs.List.{list_all, list_any, AllByRecursion}
use Rattle.std.specs.Option.{option_map}
use Rattle.aml_names.specs.declared.segments.Seg.{Seg}
use Rattle.aml_namespace.specs.declared.kinds.Kind.{Kind as KindOf}
use Rattle.aml_namespace.specs.declared.kinds.Kind.TheVariants.{Scope, Name, Method, Alias, Device, Processor}
use Rattle.aml_namespace.specs.declared.kinds.Kind.TheVariants.{PowerResource, ThermalZone}
use Rattle.aml_namespace.specs.Kinds.{Kind, retarget, target_of, kind_in, IsAmong}
use Rattle.aml_namespace.specs.Known.{Said, kinds_by, sure_by}
use Rattle.aml_namespace.specs.Runs.{opens_scope, is_alias, is_open_alias, open_among}
use Rattle.aml_namespace.specs.Tallies.{own_count}

pub kind_grown : (paths more : List (List Seg)) (k : KindOf ℕ) → IsAmong (length paths) k
    → kind_in (paths ++ more) k ≡ kind_in paths k
kind_grown paths more (Alias is_open target) within = ap (Alias is_open) (get_or_append_left paths more [] target within)
kind_grown paths more _ within = refl

pub kinds_grown : (paths more : List (List Seg)) (ks : List (KindOf ℕ)) → AllByRecursion (IsAmong (length paths)) ks
    → map (kind_in (paths ++ more)) ks ≡ map (kind_in paths) ks
kinds_grown paths more [] within = refl
kinds_grown paths more (k ∷ ks) within = λ i. kind_grown paths more k within.0 i ∷ kinds_grown paths more ks within.1 i

-- a kind with the number of its target is the kind, and its target is among the numbers
pub kind_numbered : (paths : List (List Seg)) (k : Kind) (id : ℕ) → IfSome (target_of k) (λ p. slice_get paths id ≡ Some p)
    → (kind_in paths (retarget (λ _. id) k) ≡ k) × IsAmong (length paths) (retarget (λ _. id) k)
kind_numbered paths (Alias is_open target) id at =
    (ap (Alias is_open) (get_or_from_slice_get paths id target [] at), slice_get_within paths id target at)
kind_numbered paths Scope id at = (refl, tt)
kind_numbered paths Name id at = (refl, tt)
kind_numbered paths (Method args) id at = (refl, tt)
kind_numbered paths Device id at = (refl, tt)
kind_numbered paths Processor id at = (refl, tt)
kind_numbered paths PowerResource id at = (refl, tt)
kind_numbered paths ThermalZone id at = (refl, tt)
kind_numbered paths _ id at = (refl, tt)

module _ {T U : Type 0} (f : T → U) where
  pub same_alias : (k : KindOf T) → is_alias (retarget f k) ≡ is_alias k
  same_alias (Alias is_open target) = refl
  same_alias _ = refl

  pub same_open : (k : KindOf T) → is_open_alias (retarget f k) ≡ is_open_alias k
  same_open (Alias is_open target) = refl
  same_open _ = refl

  same_scope : (k : KindOf T) → opens_scope (retarget f k) ≡ opens_scope k
  same_scope (Alias is_open target) = refl
  same_scope _ = refl

  same_count : (k : KindOf T) → own_count (retarget f k) ≡ own_count k
  same_count (Alias is_open target) = refl
  same_count _ = refl

  pub aimed : (k : KindOf T) (x : U) → IfSome (target_of k) (λ t. f t ≡ x) → retarget (λ _. x) k ≡ retarget f k
  aimed (Alias is_open target) x is = ap (Alias is_open) (sym is)
  aimed _ x is = refl

  pub any_aimed : (ks : List (KindOf T)) → list_any is_alias (map (retarget f) ks) ≡ list_any is_alias ks
  any_aimed [] = refl
  any_aimed (k ∷ ks) = λ i. same_alias k i || any_aimed ks i

  pub all_aimed : (ks : List (KindOf T)) → list_all opens_scope (map (retarget f) ks) ≡ list_all opens_scope ks
  all_aimed [] = refl
  all_aimed (k ∷ ks) = λ i. same_scope k i && all_aimed ks i

  pub own_aimed : (ks : List (KindOf T)) → map own_count (map (retarget f) ks) ≡ map own_count ks
  own_aimed [] = refl
  own_aimed (k ∷ ks) = λ i. same_count k i ∷ own_aimed ks i

  pub open_aimed : (ks : List (KindOf T)) → open_among (map (retarget f) ks) ≡ open_among ks
  open_aimed ks = each (nat_lt 1 (length (map (retarget f) ks))) ks
      ∙ ap (λ n. list_any (λ (k : KindOf T). is_alias k && (nat_lt 1 n || is_open_alias k)) ks) (length-map ks (retarget f))
    where
      each : (many : Bool) (ks : List (KindOf T))
          → list_any (λ (k : KindOf U). is_alias k && (many || is_open_alias k)) (map (retarget f) ks)
          ≡ list_any (λ (k : KindOf T). is_alias k && (many || is_open_alias k)) ks
      each many [] = refl
      each many (k ∷ ks) = λ i. (same_alias k i && (many || same_open k i)) || each many ks i

  -- what declarations say, with other targets
  abbrev pub with_targets : Said (KindOf T) → Said (KindOf U)
  with_targets d = record { kind = retarget f d.kind; others = map (retarget f) d.others; sure = d.sure; times = d.times }

  pub kinds_aimed : (o : Option (Said (KindOf T))) (standing : Option (KindOf T))
      → kinds_by (option_map with_targets o) (option_map (retarget f) standing) ≡ map (retarget f) (kinds_by o standing)
  kinds_aimed None None = refl
  kinds_aimed None (Some k) = refl
  kinds_aimed (Some d) standing = ap (λ ks. retarget f d.kind ∷ ks) (ap (λ ks. map (retarget f) d.others ++ ks) (last d.sure standing)
      ∙ sym (map-append (retarget f) d.others (cond d.sure [] (option_to_list standing))))
    where
      last : (sure : Bool) (o : Option (KindOf T)) → cond sure [] (option_to_list (option_map (retarget f) o))
          ≡ map (retarget f) (cond sure [] (option_to_list o))
      last true o = refl
      last false None = refl
      last false (Some k) = refl

  pub sure_aimed : (o : Option (Said (KindOf T))) (standing : Option (KindOf T))
      → sure_by (option_map with_targets o) (option_map (retarget f) standing) ≡ sure_by o standing
  sure_aimed None None = refl
  sure_aimed None (Some k) = refl
  sure_aimed (Some d) None = refl
  sure_aimed (Some d) (Some k) = refl
