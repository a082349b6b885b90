-- What a term does itself is what declaring it forward lists, and where the terms inside it stand.
use Rattle.std.specs.FinSet as set
use Rattle.std.specs.Option.{ok_or, option_and_then, option_map, option_or}
use Rattle.std.proofs.Common.{◌≡◌, ◌≤◌, ◌⊎◌, inl, inr, ℕ, ◌-◌, ◌+◌, Bool, true, false, not, ◌&&◌, ◌||◌, cond, List, [], ◌∷◌, ◌++◌}
use Rattle.std.proofs.Common.{length, Option, Some, None, is_some, Result, Ok, Err, refl, sym, ap, subst, ◌∙◌, arith, nat_le, ◌==◌}
use Rattle.std.proofs.Common.{take}
use Rattle.std.specs.Prelude.{option_to_list}
use Rattle.std.specs.List.{find}
use Rattle.std.proofs.lemmas.Bool.Decides.{nat_tests}
use Rattle.std.proofs.lemmas.List.{length-append}
use Rattle.aml_names.specs.declared.segments.Seg.{Seg}
use Rattle.aml_names.specs.declared.names.Name.{Name}
use Rattle.aml_names.specs.Names.{placed}
use Rattle.aml_names.specs.Searching.{candidates, upward}
use Rattle.aml_code.specs.declared.rows.Role.{Role}
use Rattle.aml_code.specs.declared.rows.Role.TheVariants as roles
use Rattle.aml_code.specs.Lawful.{last_label, field_names, Setting, IsOperation, AreParts, IsTail, terms_in, tail_in}
use Rattle.aml_code.specs.Opcodes.{Row, rows, row_of}
use Rattle.aml_code.specs.Tree.{Tree, Parts, no_parts, part_more, label, byte, Tail, body}
use Rattle.aml_code.specs.declared.packages.PkgWidth.{PkgWidth}
use Rattle.aml_code.specs.declared.rows.PartKind.{PartKind}
use Rattle.aml_code.specs.declared.rows.PartKind.TheVariants as part_kinds
use Rattle.aml_code.specs.declared.rows.Position.{Position}
use Rattle.aml_code.specs.declared.rows.Position.TheVariants as positions
use Rattle.aml_code.specs.declared.rows.TailKind.{TailKind}
use Rattle.aml_code.specs.declared.rows.TailKind.TheVariants as tails
use Rattle.aml_code.proofs.RowFacts.{rows_say}
use Rattle.aml_names.specs.Paths.{PathSet}
use Rattle.aml_space.specs.declared.faults.SpaceFault.{SpaceFault}
use Rattle.aml_space.specs.declared.faults.SpaceFault.TheVariants as faults
use Rattle.aml_namespace.specs.Kinds.{Kind}
use Rattle.aml_namespace.specs.declared.kinds.Kind.TheVariants as kinds
use Rattle.aml_namespace.specs.Namespace.{Entry, external, declared_at, namespace_of, first_of, found, is_outside}
use Rattle.aml_namespace.specs.Runs.{outlook_of, agreed_or, first_agreed, agreed_path}
use Rattle.aml_load.specs.declared.faults.LoadFault.{LoadFault}
use Rattle.aml_load.specs.declared.faults.LoadFault.TheVariants as loads
use Rattle.aml_load.specs.Declaring.{◌>>=◌, Listed, plus, most_methods, first_label, byte_of, body_span}
use Rattle.aml_load.specs.Declaring.{lead_of, place_at, lead_at, entry_at, new_at, method_at, alias_at, external_at}
use Rattle.aml_load.specs.Declaring.{units_at}
use Rattle.aml_load.specs.Loading.{role_of, kind_of, Where, methods_of, plain_entry, method_entry}
use Rattle.aml_load.specs.Loading.{alias_entry, AddsUnits, in_object, in_scope, Does}
use Rattle.aml_load.specs.Running.{Front, opened_by, opened_at, object_at, scope_at, flat_at, enter_as}
use Rattle.aml_load.proofs.Holding.{methods_more}
use Rattle.aml_load.proofs.SpanLaws.{role_is}

-- ---- what a term does, by what its parts have, whatever these are

abbrev pub IsPath : Where → Option Name → List Seg → Type 0
IsPath site n p = option_and_then (placed site.scope) n ≡ Some p

abbrev pub AddsBy : Where → List Entry → Option Name → (List Seg → Entry) → List Entry → Type 0
AddsBy site es n entry fs = (p : List Seg) × IsPath site n p × (site.any_run ≡ false → declared_at es p ≡ None)
    × (fs ≡ es ++ entry p ∷ [])

abbrev opened_in : Where → List Entry → Option Name → Option (List Seg)
opened_in site es n = option_or (lead_of site es n)
    (cond (site.any_run && not (is_some (option_and_then (found (namespace_of es) set.empty site.scope) n)))
    (option_and_then (placed site.scope) n) None)

abbrev in_block : Where → Where
in_block site = record site { sure = not site.any_run && site.sure }

abbrev pub DoesBy : Role → Where → List Entry → Parts → Tail → List Entry → Where → Type 0
DoesBy (roles.Declares o) site es ps r fs below = IsPath site (last_label None ps) below.scope
    × AddsBy site es (last_label None ps) (plain_entry site es (kind_of o)) fs × (below ≡ in_object site es below.scope)
DoesBy roles.Method site es ps r fs below =
    AddsBy site es (last_label None ps) (method_entry site es (byte_of ps) (body_span r)) fs
DoesBy roles.Scope site es ps r fs below =
    (opened_in site es (last_label None ps) ≡ Some below.scope) × (es ≡ fs) × (below ≡ in_scope site es below.scope)
DoesBy roles.Alias site es ps r fs below = (source : List Seg) × (lead_of site es (first_label ps) ≡ Some source)
    × AddsBy site es (last_label None ps) (alias_entry site es source) fs
DoesBy roles.External site es ps r fs below =
    (p : List Seg) × IsPath site (last_label None ps) p × (fs ≡ es ++ external p (byte_of ps) ∷ [])
DoesBy roles.Fields site es ps r fs below = AddsUnits site es (field_names r) fs
DoesBy _ site es ps r fs below = (es ≡ fs) × (below ≡ in_block site)

-- ---- the parts are those of the role

-- what a row of a role has
shape : Role → List PartKind → Option TailKind → Bool
shape roles.Method (part_kinds.Name ∷ part_kinds.Byte ∷ []) (Some tails.Body) = true
shape roles.Method _ k = false
shape roles.Scope (part_kinds.ScopeName ∷ []) k = true
shape roles.Scope _ k = false
shape roles.Alias (part_kinds.Name ∷ part_kinds.Name ∷ []) k = true
shape roles.Alias _ k = false
shape roles.External (part_kinds.Name ∷ part_kinds.Byte ∷ part_kinds.Count ∷ []) k = true
shape roles.External _ k = false
shape _ ks k = true

row_shape : (o : ℕ) (r : Row) → row_of o ≡ Some r → shape r.role r.parts r.tail ≡ true
unfolding rows shape
row_shape o r listed = rows_say (λ r. true) (λ r. shape r.role r.parts r.tail) refl o r listed refl

abbrev pub Shaped : Role → Parts → Tail → Type 0
Shaped roles.Method ps r = (n : Name) × (flags start len : ℕ)
    × (ps ≡ part_more (label n) (part_more (byte flags) no_parts)) × (r ≡ body start len)
Shaped roles.Scope ps r = (n : Name) × (ps ≡ part_more (label n) no_parts)
Shaped roles.Alias ps r = (source n : Name) × (ps ≡ part_more (label source) (part_more (label n) no_parts))
Shaped roles.External ps r = (n : Name) × (k count : ℕ)
    × (ps ≡ part_more (label n) (part_more (byte k) (part_more (byte count) no_parts)))
Shaped _ ps r = Unit {0}

module _ (Is : Position → Tree → Type 0) where
  none_left : (ps : Parts) → AreParts Is [] ps → ps ≡ no_parts
  none_left no_parts law = refl
  none_left (part_more p ps) law = absurd law

  name_first : (ks : List PartKind) (ps : Parts) → AreParts Is (part_kinds.Name ∷ ks) ps
      → (n : Name) × (rest : Parts) × (ps ≡ part_more (label n) rest) × AreParts Is ks rest
  name_first ks no_parts law = absurd law
  name_first ks (part_more (label n) ps) law = (n, ps, refl, law.1)
  name_first ks (part_more _ ps) law = absurd law.0

  scope_first : (ks : List PartKind) (ps : Parts) → AreParts Is (part_kinds.ScopeName ∷ ks) ps
      → (n : Name) × (rest : Parts) × (ps ≡ part_more (label n) rest) × AreParts Is ks rest
  scope_first ks no_parts law = absurd law
  scope_first ks (part_more (label n) ps) law = (n, ps, refl, law.1)
  scope_first ks (part_more _ ps) law = absurd law.0

  byte_first : (ks : List PartKind) (ps : Parts) → AreParts Is (part_kinds.Byte ∷ ks) ps
      → (b : ℕ) × (rest : Parts) × (ps ≡ part_more (byte b) rest) × AreParts Is ks rest
  byte_first ks no_parts law = absurd law
  byte_first ks (part_more (byte b) ps) law = (b, ps, refl, law.1)
  byte_first ks (part_more _ ps) law = absurd law.0

  count_first : (ks : List PartKind) (ps : Parts) → AreParts Is (part_kinds.Count ∷ ks) ps
      → (b : ℕ) × (rest : Parts) × (ps ≡ part_more (byte b) rest) × AreParts Is ks rest
  count_first ks no_parts law = absurd law
  count_first ks (part_more (byte b) ps) law = (b, ps, refl, law.1)
  count_first ks (part_more _ ps) law = absurd law.0

the_body : (s : Setting) (Is : Position → PathSet → Tree → Type 0) (p q : Position) (ls : PathSet) (r : Tail)
    → IsTail s Is q (option_map (tail_in p) (Some tails.Body)) ls r → (start len : ℕ) × (r ≡ body start len)
the_body s Is p q ls r law = by r (subst (λ (k : TailKind). IsTail s Is q (Some k) ls r) (kept p) law)
  where
    kept : (p : Position) → tail_in p tails.Body ≡ tails.Body
    kept positions.RunTerm = refl
    kept positions.RunAfterIf = refl
    kept _ = refl

    by : (r : Tail) → IsTail s Is q (Some tails.Body) ls r → (start len : ℕ) × (r ≡ body start len)
    by (body start len) law = (start, len, refl)
    by _ law = absurd law

module _ (s : Setting) (Is : Position → PathSet → Tree → Type 0) (p q : Position) (ls : PathSet) where
  shaped_by : (role : Role) (ks : List PartKind) (kind : Option TailKind) (ps : Parts) (r : Tail) → shape role ks kind ≡ true
      → AreParts (λ q. Is q ls) ks ps → IsTail s Is q (option_map (tail_in p) kind) ls r → Shaped role ps r
  unfolding shape
  shaped_by roles.Method (part_kinds.Name ∷ part_kinds.Byte ∷ []) (Some tails.Body) ps r fit law tail =
      let name = name_first (λ q. Is q ls) (part_kinds.Byte ∷ []) ps law in
      let flags = byte_first (λ q. Is q ls) [] name.1 name.3 in
      let span = the_body s Is p q ls r tail in (
        name.0,
        flags.0,
        span.0,
        span.1,
        name.2 ∙ ap (part_more (label name.0)) (flags.2 ∙ ap (part_more (byte flags.0)) (none_left (λ q. Is q ls) flags.1 flags.3)),
        span.2,
      )
  shaped_by roles.Method _ _ ps r fit law tail = absurd cc
  shaped_by roles.Scope (part_kinds.ScopeName ∷ []) kind ps r fit law tail =
      let name = scope_first (λ q. Is q ls) [] ps law in
      (name.0, name.2 ∙ ap (part_more (label name.0)) (none_left (λ q. Is q ls) name.1 name.3))
  shaped_by roles.Scope _ kind ps r fit law tail = absurd cc
  shaped_by roles.Alias (part_kinds.Name ∷ part_kinds.Name ∷ []) kind ps r fit law tail =
      let source = name_first (λ q. Is q ls) (part_kinds.Name ∷ []) ps law in
      let name = name_first (λ q. Is q ls) [] source.1 source.3 in (
        source.0,
        name.0,
        source.2 ∙ ap (part_more (label source.0)) (name.2 ∙ ap (part_more (label name.0)) (none_left (λ q. Is q ls) name.1 name.3)),
      )
  shaped_by roles.Alias _ kind ps r fit law tail = absurd cc
  shaped_by roles.External (part_kinds.Name ∷ part_kinds.Byte ∷ part_kinds.Count ∷ []) kind ps r fit law tail =
      let name = name_first (λ q. Is q ls) (part_kinds.Byte ∷ part_kinds.Count ∷ []) ps law in
      let k = byte_first (λ q. Is q ls) (part_kinds.Count ∷ []) name.1 name.3 in
      let count = count_first (λ q. Is q ls) [] k.1 k.3 in (
        name.0,
        k.0,
        count.0,
        name.2 ∙ ap (part_more (label name.0)) (k.2 ∙ ap (part_more (byte k.0)) (count.2
            ∙ ap (part_more (byte count.0)) (none_left (λ q. Is q ls) count.1 count.3))),
      )
  shaped_by roles.External _ kind ps r fit law tail = absurd cc
  shaped_by _ ks kind ps r fit law tail = tt

pub shaped : (s : Setting) (Is : Position → PathSet → Tree → Type 0) (p : Position) (ls : PathSet) (o : ℕ)
    (w : Option PkgWidth) (ps : Parts) (r : Tail) → IsOperation s Is p ls o w ps r → Shaped (role_of o) ps r
shaped s Is p ls o w ps r law =
    subst (λ (role : Role). Shaped role ps r) (sym (role_is o law.row law.listed))
    (shaped_by s Is p (terms_in p (law.row).place) ls (law.row).role (law.row).parts (law.row).tail ps r
    (row_shape o law.row law.listed) law.parts law.tail)

named : {A B : Type 0} (f : A → Option B) (o : Option A) (y : B) → option_and_then f o ≡ Some y → (x : A) × (o ≡ Some x)
named f None y is = absurd cc
named f (Some x) y is = (x, refl)

module _ (site : Where) (es : List Entry) (fs : List Entry) (below : Where) where
  -- as a role does by the parts of its rows
  pub does_is : (r : Role) (ps : Parts) (x : Tail) → Shaped r ps x → DoesBy r site es ps x fs below
      → Does r site es ps x fs below
  does_is (roles.Declares o) ps x shape (path, adds, stands) =
      let n = named (placed site.scope) (last_label None ps) below.scope path in (
        n.0,
        n.1,
        subst (λ (name : Option Name). AddsBy site es name (plain_entry site es (kind_of o)) fs) n.1 adds,
        subst (λ (name : Option Name). IsPath site name below.scope) n.1 path,
        stands,
      )
  does_is roles.Method ps x (n, flags, start, len, parts, tail) h =
      let there = subst (λ (y : Tail). DoesBy roles.Method site es (part_more (label n) (part_more (byte flags) no_parts)) y fs below) tail
      (subst (λ (qs : Parts). DoesBy roles.Method site es qs x fs below) parts h) in
      subst (λ (qs : Parts). Does roles.Method site es qs x fs below) (sym parts)
      (subst (λ (y : Tail). Does roles.Method site es (part_more (label n) (part_more (byte flags) no_parts)) y fs below) (sym tail) there)
  does_is roles.Scope ps x (n, parts) h =
      subst (λ (qs : Parts). Does roles.Scope site es qs x fs below) (sym parts) (subst (λ (qs : Parts). DoesBy roles.Scope site es qs x fs below) parts h)
  does_is roles.Alias ps x (source, n, parts) h =
      subst (λ (qs : Parts). Does roles.Alias site es qs x fs below) (sym parts) (subst (λ (qs : Parts). DoesBy roles.Alias site es qs x fs below) parts h)
  does_is roles.External ps x (n, k, count, parts) h =
      subst (λ (qs : Parts). Does roles.External site es qs x fs below) (sym parts)
      (subst (λ (qs : Parts). DoesBy roles.External site es qs x fs below) parts h)
  does_is _ ps x shape h = h

  pub does_so : (r : Role) (ps : Parts) (x : Tail) → Does r site es ps x fs below → DoesBy r site es ps x fs below
  does_so (roles.Declares o) ps x (n, is, adds, path, stands) = (
    subst (λ (name : Option Name). IsPath site name below.scope) (sym is) path,
    subst (λ (name : Option Name). AddsBy site es name (plain_entry site es (kind_of o)) fs) (sym is) adds,
    stands,
  )
  does_so roles.Method (part_more (label n) (part_more (byte flags) no_parts)) (body start len) h = h
  does_so roles.Method _ _ h = absurd h
  does_so roles.Scope (part_more (label n) no_parts) x h = h
  does_so roles.Scope _ x h = absurd h
  does_so roles.Alias (part_more (label source) (part_more (label n) no_parts)) x h = h
  does_so roles.Alias _ x h = absurd h
  does_so roles.External (part_more (label n) (part_more (byte k) (part_more (byte count) no_parts))) x h = h
  does_so roles.External _ x h = absurd h
  does_so _ ps x h = h

-- ---- steps that give something

pub bound : {A B : Type 0} (r : Result A LoadFault) (f : A → Result B LoadFault) (y : B) → (r >>= f) ≡ Ok y
    → (x : A) × (r ≡ Ok x) × (f x ≡ Ok y)
bound (Ok x) f y is = (x, refl, is)
bound (Err e) f y is = absurd cc

pub value_is : {A : Type 0} (o : Option A) (e : LoadFault) (x : A) → ok_or o e ≡ Ok x → o ≡ Some x
value_is None e x is = absurd cc
value_is (Some y) e x is = let same : y ≡ x = cc in ap Some same

-- a list of entries in place of another
abbrev pub with_entries : Listed → List Entry → Listed
with_entries l es = record { entries = es; uses = l.uses }

-- what is listed has these entries, and no name more
abbrev pub Lists : Listed → Listed → (List Entry → Type 0) → Type 0
Lists l m Has = Has m.entries × (m.uses ≡ l.uses)

abbrev the_ok : Listed → Result Listed LoadFault
the_ok l = Ok l

-- ---- a name that leads somewhere has a path

none_below : (ups len : ℕ) → nat_le ups len ≡ false → (ups == 0) ≡ false
none_below ups len h = grind (arith, nat_tests, h)

unplaced : (scope : List Seg) (n : Name) → placed scope n ≡ None → candidates scope n ≡ []
unplaced scope n none = by n.root (nat_le n.ups (length scope)) refl none
  where
    at : List Seg
    at = take (length scope - n.ups) scope ++ n.segs

    by : (root le : Bool) → nat_le n.ups (length scope) ≡ le → cond root (Some n.segs) (cond le (Some at) None) ≡ None
        → cond (not root && ((n.ups == 0) && (length n.segs == 1))) (upward (length scope) scope n.segs)
        (option_to_list (cond root (Some n.segs) (cond le (Some at) None))) ≡ []
    by true le is h = absurd cc
    by false true is h = absurd cc
    by false false is h =
        ap (λ b. cond (b && (length n.segs == 1)) (upward (length scope) scope n.segs) []) (none_below n.ups (length scope) is)

module _ (site : Where) (es : List Entry) where
  leads_nowhere : (any : Bool) (n : Name) → candidates site.scope n ≡ []
      → cond any (agreed_path (outlook_of es) site.scope) (found (namespace_of es) set.empty site.scope) n ≡ None
  leads_nowhere true n none =
      ap (λ ps. agreed_or (first_agreed (outlook_of es) ps) (find (is_outside (namespace_of es)) ps)) none
  leads_nowhere false n none = ap (first_of (namespace_of es) set.empty) none

  lead_placed : (n : Option Name) (q : List Seg) → lead_of site es n ≡ Some q → (p : List Seg) × IsPath site n p
  lead_placed None q is = absurd cc
  lead_placed (Some n) q is = by (placed site.scope n) refl
    where
      by : (o : Option (List Seg)) → placed site.scope n ≡ o → (p : List Seg) × (placed site.scope n ≡ Some p)
      by (Some p) at = (p, at)
      by None at = let nowhere = leads_nowhere site.any_run n (unplaced site.scope n at) in absurd cc

  place_is : (n : Option Name) (p : List Seg) → place_at site n ≡ Ok p → IsPath site n p
  unfolding place_at
  place_is n p is = value_is (option_and_then (placed site.scope) n) _ p is

  place_so : (n : Option Name) (p : List Seg) → IsPath site n p → place_at site n ≡ Ok p
  unfolding place_at
  place_so n p at = ap (λ o. ok_or o (loads.Space site.table faults.AboveRoot)) at

  module _ (n : Option Name) (missing : List Seg → SpaceFault) (q : List Seg) where
    lead_is : lead_at site es n missing ≡ Ok q → lead_of site es n ≡ Some q
    unfolding lead_at
    lead_is is = let at = bound (place_at site n) _ q is in value_is (lead_of site es n) _ q at.2

    lead_so : lead_of site es n ≡ Some q → lead_at site es n missing ≡ Ok q
    unfolding lead_at
    lead_so is =
        let at = lead_placed n q is in
        ap (λ (r : Result (List Seg) LoadFault). r >>= λ p. ok_or (lead_of site es n) (loads.Space site.table (missing p))) (place_so n at.0 at.1)
        ∙ ap (λ o. ok_or o (loads.Space site.table (missing at.0))) is

-- ---- one entry more

free_is : (any : Bool) (k : Option Kind) → (not any && is_some k) ≡ false → any ≡ false → k ≡ None
free_is true k h e = absurd cc
free_is false None h e = refl
free_is false (Some k) h e = absurd cc

free_so : (any : Bool) (k : Option Kind) → (any ≡ false → k ≡ None) → (not any && is_some k) ≡ false
free_so true k h = refl
free_so false k h = ap is_some (h refl)

module _ (site : Where) (l : Listed) where
  -- the path isn't declared, as far as that is asked
  abbrev IsNew : List Seg → Type 0
  IsNew p = site.any_run ≡ false → declared_at l.entries p ≡ None

  pub entry_is : (p : List Seg) (x : Entry) (m : Listed) → entry_at site l p x ≡ Ok m → IsNew p × (plus l x ≡ m)
  unfolding entry_at
  entry_is p x m is = by (not site.any_run && is_some (declared_at l.entries p)) refl is
    where
      by : (b : Bool) → (not site.any_run && is_some (declared_at l.entries p)) ≡ b
          → cond b (Err (loads.Space site.table (faults.Duplicate p))) (the_ok (plus l x)) ≡ Ok m
          → IsNew p × (plus l x ≡ m)
      by true taken h = absurd cc
      by false free h = let same : plus l x ≡ m = cc in (free_is site.any_run (declared_at l.entries p) free, same)

  entry_so : (p : List Seg) (x : Entry) → IsNew p → entry_at site l p x ≡ Ok (plus l x)
  unfolding entry_at
  entry_so p x new = ap (λ b. cond b (Err (loads.Space site.table (faults.Duplicate p))) (the_ok (plus l x)))
      (free_so site.any_run (declared_at l.entries p) new)

  module _ (n : Option Name) (entry : List Seg → Entry) where
    new_is : (m : Listed) → new_at site l n entry ≡ Ok m → Lists l m (AddsBy site l.entries n entry)
    unfolding new_at
    new_is m is =
        let at = bound (place_at site n) _ m is in
        let one = entry_is at.0 (entry at.0) m at.2 in
        ((at.0, place_is site l.entries n at.0 at.1, one.0, sym (ap (λ (k : Listed). k.entries) one.1)), sym (ap (λ (k : Listed). k.uses) one.1))

    new_so : (fs : List Entry) → AddsBy site l.entries n entry fs → new_at site l n entry ≡ Ok (with_entries l fs)
    unfolding new_at
    new_so fs (p, at, new, same) =
        ap (λ (r : Result (List Seg) LoadFault). r >>= λ p. entry_at site l p (entry p)) (place_so site l.entries n p at)
        ∙ entry_so p (entry p) new ∙ ap (λ es. the_ok (with_entries l es)) (sym same)

module _ (site : Where) where
  units_is : (l m : Listed) (ns : List Name) → units_at site l ns ≡ Ok m → Lists l m (λ fs. AddsUnits site l.entries ns fs)
  unfolding units_at
  units_is l m [] is = let same : l ≡ m = cc in (ap (λ (k : Listed). k.entries) same, sym (ap (λ (k : Listed). k.uses) same))
  units_is l m (n ∷ ns) is =
      let one = bound (new_at site l (Some n) (plain_entry site l.entries kinds.Field)) _ m is in
      let first = new_is site l (Some n) _ one.0 one.1 in
      let rest = units_is one.0 m ns one.2 in
      ((one.0.entries, first.0, rest.0), rest.1 ∙ first.1)

  units_so : (l : Listed) (ns : List Name) (fs : List Entry) → AddsUnits site l.entries ns fs
      → units_at site l ns ≡ Ok (with_entries l fs)
  unfolding units_at
  units_so l [] fs same = ap (λ es. the_ok (with_entries l es)) same
  units_so l (n ∷ ns) fs (gs, one, rest) =
      ap (λ (r : Result Listed LoadFault). r >>= λ k. units_at site k ns) (new_so site l (Some n) _ gs one)
      ∙ units_so (with_entries l gs) ns fs rest

-- ---- what a term does that has no terms inside it

abbrev pub is_flat : Role → Bool
is_flat roles.Method = true
is_flat roles.Alias = true
is_flat roles.External = true
is_flat roles.Fields = true
is_flat _ = false

-- there is room for one method more where there aren't too many then
has_room : (es fs : List Entry) (x : Entry) → length (methods_of (x ∷ [])) ≡ 1 → fs ≡ es ++ x ∷ []
    → length (methods_of fs) ≤ most_methods → nat_le most_methods (length (methods_of es)) ≡ false
has_room es fs x one same few =
    let all : length (methods_of fs) ≡ length (methods_of es) + 1 =
    ap (λ gs. length (methods_of gs)) same ∙ ap length (methods_more es x)
    ∙ length-append (methods_of es) (methods_of (x ∷ [])) ∙ ap (λ n. length (methods_of es) + n) one in
    grind (arith, nat_tests, all, few)

module _ (site : Where) (l : Listed) (ps : Parts) (x : Tail) (below : Where) where
  pub flat_is : (r : Role) (m : Listed) → is_flat r ≡ true → flat_at r site l ps x ≡ Ok m
      → Lists l m (λ fs. DoesBy r site l.entries ps x fs below)
  unfolding flat_at method_at alias_at external_at
  flat_is roles.Method m flat is = by (nat_le most_methods (length (methods_of l.entries))) is
    where
      entry : List Seg → Entry
      entry = method_entry site l.entries (byte_of ps) (body_span x)

      by : (full : Bool) → cond full (Err loads.TooManyMethods) (new_at site l (last_label None ps) entry) ≡ Ok m
          → Lists l m (AddsBy site l.entries (last_label None ps) entry)
      by true h = absurd cc
      by false h = new_is site l (last_label None ps) entry m h
  flat_is roles.Alias m flat is =
      let at = bound (lead_at site l.entries (first_label ps) (λ p. faults.AliasMissing p)) _ m is in
      let new = new_is site l (last_label None ps) (alias_entry site l.entries at.0) m at.2 in
      ((at.0, lead_is site l.entries (first_label ps) _ at.0 at.1, new.0), new.1)
  flat_is roles.External m flat is =
      let at = bound (place_at site (last_label None ps)) _ m is in
      let same : plus l (external at.0 (byte_of ps)) ≡ m = (let h = at.2 in cc) in
      ((at.0, place_is site l.entries (last_label None ps) at.0 at.1, sym (ap (λ (k : Listed). k.entries) same)), sym (ap (λ (k : Listed). k.uses) same))
  flat_is roles.Fields m flat is = units_is site l m (field_names x) is
  flat_is _ m flat is = absurd cc

  pub flat_so : (r : Role) (fs : List Entry) → is_flat r ≡ true → length (methods_of fs) ≤ most_methods
      → DoesBy r site l.entries ps x fs below → flat_at r site l ps x ≡ Ok (with_entries l fs)
  unfolding flat_at method_at alias_at external_at
  flat_so roles.Method fs flat few new =
      let entry : List Seg → Entry = method_entry site l.entries (byte_of ps) (body_span x) in
      ap (λ b. cond b (Err loads.TooManyMethods) (new_at site l (last_label None ps) entry)) (has_room l.entries fs (entry new.0) refl new.3 few)
      ∙ new_so site l (last_label None ps) entry fs new
  flat_so roles.Alias fs flat few (source, lead, new) =
      ap (λ (r : Result (List Seg) LoadFault). r >>= λ q. new_at site l (last_label None ps) (alias_entry site l.entries q))
      (lead_so site l.entries (first_label ps) _ source lead)
      ∙ new_so site l (last_label None ps) (alias_entry site l.entries source) fs new
  flat_so roles.External fs flat few (p, at, same) =
      ap (λ (r : Result (List Seg) LoadFault). r >>= λ p. the_ok (plus l (external p (byte_of ps)))) (place_so site l.entries (last_label None ps) p at)
      ∙ ap (λ es. the_ok (with_entries l es)) (sym same)
  flat_so roles.Fields fs flat few new = units_so site l (field_names x) fs new
  flat_so _ fs flat few new = absurd cc

-- ---- a term of a table

abbrev pub site_in : Bool → ℕ → List Seg → Bool → Where
site_in any t s b = record { table = t; scope = s; any_run = any; sure = b }

abbrev pub front_in : Bool → ℕ → List Seg → Bool → Listed → Front
front_in any t s b l = record { listed = l; site = site_in any t s b }

-- the same where its code may run
abbrev pub run_site : ℕ → List Seg → Bool → Where
run_site = site_in true

abbrev pub front : ℕ → List Seg → Bool → Listed → Front
front = front_in true

abbrev the_path : List Seg → Result (List Seg) LoadFault
the_path p = Ok p

module _ (t : ℕ) (path : Option (List Seg)) where
  abbrev opens : Option (List Seg) → Bool → Option (List Seg)
  opens lead known = option_or lead (cond (not known) path None)

  opened_is : (p q : List Seg) (lead : Option (List Seg)) (known : Bool) → path ≡ Some p → opened_by t p known lead ≡ Ok q
      → opens lead known ≡ Some q
  opened_is p q (Some r) known at is = let same : r ≡ q = cc in ap Some same
  opened_is p q None true at is = absurd cc
  opened_is p q None false at is = let same : p ≡ q = cc in at ∙ ap Some same

  opened_so : (p q : List Seg) (lead : Option (List Seg)) (known : Bool) → path ≡ Some p → opens lead known ≡ Some q
      → opened_by t p known lead ≡ Ok q
  opened_so p q (Some r) known at is = let same : r ≡ q = cc in ap the_path same
  opened_so p q None true at is = absurd cc
  opened_so p q None false at is = let same : p ≡ q = cc in ap the_path same

  -- a Scope's name has a path
  opens_path : (q : List Seg) (lead : Option (List Seg)) (known : Bool)
      → ((r : List Seg) → lead ≡ Some r → (p : List Seg) × (path ≡ Some p)) → opens lead known ≡ Some q
      → (p : List Seg) × (path ≡ Some p)
  opens_path q (Some r) known led is = led r refl
  opens_path q None true led is = absurd cc
  opens_path q None false led is = (q, is)

-- a Scope may open its own path
shut : (any known : Bool) → not (not any || known) ≡ (any && not known)
shut true known = refl
shut false known = refl

module _ (any : Bool) (t : ℕ) (s : List Seg) (b : Bool) (l : Listed) (ps : Parts) (x : Tail) where
  abbrev at_front : Where
  at_front = site_in any t s b

  abbrev last_name : Option Name
  last_name = last_label None ps

  abbrev known : Bool
  known = is_some (option_and_then (found (namespace_of l.entries) set.empty s) last_name)

  abbrev path : Option (List Seg)
  path = option_and_then (placed s) last_name

  -- the path that a Scope opens, as it is opened
  opens_as : opens t path (lead_of at_front l.entries last_name) (not any || known) ≡ opened_in at_front l.entries last_name
  opens_as = ap (λ (c : Bool). option_or (lead_of at_front l.entries last_name) (cond c path None)) (shut any known)

  abbrev on_front : Listed → Result Front LoadFault
  on_front m = Ok (front_in any t s b m)

  abbrev flat_step : Role → Result Front LoadFault
  flat_step r = flat_at r at_front l ps x >>= on_front

  -- what is there then, and where the terms inside stand
  abbrev pub EntersIs : Role → Front → Type 0
  EntersIs r inner = (k : Listed) × (d : List Seg) × (c : Bool) × (inner ≡ front_in any t d c k)
      × Lists l k (λ fs. DoesBy r at_front l.entries ps x fs (site_in any t d c))

  flat_enters : (r : Role) (inner : Front) → is_flat r ≡ true → flat_step r ≡ Ok inner → EntersIs r inner
  flat_enters r inner flat is =
      let one = bound (flat_at r at_front l ps x) _ inner is in
      let same : front_in any t s b one.0 ≡ inner = (let h = one.2 in cc) in
      (one.0, s, b, sym same, flat_is at_front l ps x at_front r one.0 flat one.1)

  pub enter_is : (r : Role) (inner : Front) → enter_as r (front_in any t s b l) ps x ≡ Ok inner → EntersIs r inner
  unfolding enter_as object_at scope_at opened_at
  enter_is (roles.Declares o) inner is =
      let at = bound (place_at at_front last_name) _ inner is in
      let one = bound (entry_at at_front l at.0 (plain_entry at_front l.entries (kind_of o) at.0)) _ inner at.2 in
      let new = entry_is at_front l at.0 (plain_entry at_front l.entries (kind_of o) at.0) one.0 one.1 in
      let path = place_is at_front l.entries last_name at.0 at.1 in
      let same : front_in any t at.0 (in_object at_front l.entries at.0).sure one.0 ≡ inner = (let h = one.2 in cc) in (
        one.0,
        at.0,
        (in_object at_front l.entries at.0).sure,
        sym same,
        ((path, (at.0, path, new.0, sym (ap (λ (k : Listed). k.entries) new.1)), refl), sym (ap (λ (k : Listed). k.uses) new.1)),
      )
  enter_is roles.Scope inner is =
      let opening = bound (opened_at at_front l.entries last_name) _ inner is in
      let at = bound (place_at at_front last_name) _ opening.0 opening.1 in
      let same : front_in any t opening.0 (in_scope at_front l.entries opening.0).sure l ≡ inner = (let h = opening.2 in cc) in
      let there = place_is at_front l.entries last_name at.0 at.1 in (
        l,
        opening.0,
        (in_scope at_front l.entries opening.0).sure,
        sym same,
        ((sym opens_as ∙ opened_is t path at.0 opening.0 (lead_of at_front l.entries last_name) (not any || known) there at.2, refl, refl), refl),
      )
  enter_is roles.Guard inner is = let same : front_in any t s (not any && b) l ≡ inner = cc in (l, s, not any && b, sym same, ((refl, refl), refl))
  enter_is roles.Other inner is = let same : front_in any t s (not any && b) l ≡ inner = cc in (l, s, not any && b, sym same, ((refl, refl), refl))
  enter_is roles.Method inner is = flat_enters roles.Method inner refl is
  enter_is roles.Alias inner is = flat_enters roles.Alias inner refl is
  enter_is roles.External inner is = flat_enters roles.External inner refl is
  enter_is roles.Fields inner is = flat_enters roles.Fields inner refl is

  -- entering gives a front of these entries, at the site where the terms inside stand, if there can be any
  abbrev pub EntersSo : Role → List Entry → Where → Type 0
  EntersSo r gs below = (d : List Seg) × (c : Bool)
      × (enter_as r (front_in any t s b l) ps x ≡ Ok (front_in any t d c (with_entries l gs)))
      × ((below ≡ site_in any t d c) ⊎ (is_flat r ≡ true))

  flat_enters_so : (r : Role) (gs : List Entry) (below : Where) → is_flat r ≡ true → length (methods_of gs) ≤ most_methods
      → DoesBy r at_front l.entries ps x gs below → flat_step r ≡ on_front (with_entries l gs)
  flat_enters_so r gs below flat few does =
      ap (λ (r : Result Listed LoadFault). r >>= on_front) (flat_so at_front l ps x below r gs flat few does)

  pub enter_so : (r : Role) (gs : List Entry) (below : Where) → length (methods_of gs) ≤ most_methods
      → DoesBy r at_front l.entries ps x gs below → EntersSo r gs below
  unfolding enter_as object_at scope_at opened_at
  enter_so (roles.Declares o) gs below few (path, (p, at, new, same), stands) =
      let entry : List Seg → Entry = plain_entry at_front l.entries (kind_of o) in
      let one : below.scope ≡ p = (let both = sym path ∙ at in cc) in
      let sure : Bool = (in_object at_front l.entries p).sure in (
        p,
        sure,
        ap (λ (r : Result (List Seg) LoadFault). r >>= λ p. (entry_at at_front l p (entry p) >>= λ m. Ok (front_in any t p (in_object at_front l.entries p).sure m)))
            (place_so at_front l.entries last_name p at)
            ∙ ap (λ (r : Result Listed LoadFault). r >>= λ m. Ok (front_in any t p sure m)) (entry_so at_front l p (entry p) new)
            ∙ ap (λ es. Ok (front_in any t p sure (with_entries l es))) (sym same),
        inl (stands ∙ ap (in_object at_front l.entries) one),
      )
  enter_so roles.Scope gs below few (leads, same, stands) =
      let lead = lead_of at_front l.entries last_name in
      let opening = opens_as ∙ leads in
      let at = opens_path t path below.scope lead (not any || known) (λ r. lead_placed at_front l.entries last_name r) opening in
      let sure : List Seg → Bool = λ p. (in_scope at_front l.entries p).sure in (
        below.scope,
        sure below.scope,
        ap (λ (r : Result (List Seg) LoadFault). (r >>= λ p. opened_by t p (not any || known) lead) >>= λ p. Ok (front_in any t p (sure p) l))
            (place_so at_front l.entries last_name at.0 at.1)
            ∙ ap (λ (r : Result (List Seg) LoadFault). r >>= λ p. Ok (front_in any t p (sure p) l))
            (opened_so t path at.0 below.scope lead (not any || known) at.1 opening)
            ∙ ap (λ es. Ok (front_in any t below.scope (sure below.scope) (with_entries l es))) same,
        inl stands,
      )
  enter_so roles.Guard gs below few (same, stands) = (s, not any && b, ap (λ es. Ok (front_in any t s (not any && b) (with_entries l es))) same, inl stands)
  enter_so roles.Other gs below few (same, stands) = (s, not any && b, ap (λ es. Ok (front_in any t s (not any && b) (with_entries l es))) same, inl stands)
  enter_so roles.Method gs below few does = (s, b, flat_enters_so roles.Method gs below refl few does, inr refl)
  enter_so roles.Alias gs below few does = (s, b, flat_enters_so roles.Alias gs below refl few does, inr refl)
  enter_so roles.External gs below few does = (s, b, flat_enters_so roles.External gs below refl few does, inr refl)
  enter_so roles.Fields gs below few does = (s, b, flat_enters_so roles.Fields gs below refl few does, inr refl)
