-- What the progress holds after one entry more.
use Rattle.std.proofs.Common.{◌≡◌, ◌-◌, nat_le, true, cond, List, [], ◌∷◌, ◌++◌, length, Option, Some, None, is_some}
use Rattle.std.proofs.Common.{Result, Ok, Err, refl, map, sym, ap, subst, ◌∙◌, inl, inr, arith, Bool, false, not, ◌&&◌}
use Rattle.std.proofs.lemmas.Bool.Decides.{nat_tests}
use Rattle.std.proofs.lemmas.List.{append-nil, take_all}
use Rattle.aml_names.specs.Names.{placed}
use Rattle.aml_code.specs.Lawful.{plain_name}
use Rattle.std.specs.Option.{ok_or}
use Rattle.std.specs.List.{cons_option}
use Rattle.aml_names.specs.declared.segments.Seg.{Seg}
use Rattle.aml_namespace.specs.Kinds.{Kind}
use Rattle.aml_namespace.specs.declared.kinds.Kind.TheVariants as kinds
use Rattle.aml_space.specs.declared.faults.SpaceFault.TheVariants as faults
use Rattle.aml_namespace.specs.Namespace.{Entry, Body, declares, declared_at}
use Rattle.aml_namespace.specs.Known.{Grows, StandsAt, StandsFor, path_at}
use Rattle.aml_namespace.proofs.Numbers.{still_at}
use Rattle.aml_namespace.proofs.Stands.{stands_grown}
use Rattle.aml_load.specs.declared.faults.LoadFault.{LoadFault}
use Rattle.aml_load.specs.declared.faults.LoadFault.TheVariants as loads
use Rattle.std.proofs.lemmas.Option.{slice_get_within, get_or_from_slice_get}
use Rattle.aml_set.specs.declared.methods.Method.{Method as Kept}
use Rattle.aml_set.specs.Methods.{Method, method_in, methods_in, AreNumbered}
use Rattle.aml_set.proofs.MethodLaws.{as_many, one_method, one_numbered, same_methods, still_numbered}
use Rattle.aml_load.specs.declared.walking.Progress.{Progress}
use Rattle.aml_load.specs.Hearing.{with_more}
use Rattle.aml_load.specs.Declaring.{◌>>=◌, Listed, Use, plus, place_at, entry_at, new_at, units_at}
use Rattle.aml_load.specs.Loading.{Where, method_of, methods_of, plain_entry}
use Rattle.aml_load.specs.Tables.{Fails}
use Rattle.aml_load.specs.Groups.{AreKnown, uses_of}
use Rattle.aml_load.proofs.Grouping.{same_uses, still_known}
use Rattle.aml_load.specs.Walking.{Holds, IsFree, IsDeclared, KeepsPaths, Walked}

pub methods_more : (es : List Entry) (x : Entry) → methods_of (es ++ x ∷ []) ≡ methods_of es ++ methods_of (x ∷ [])
methods_more [] x = refl
methods_more (e ∷ es) x = by (method_of e) (methods_more es x)
  where
    by : (o : Option Method) → methods_of (es ++ x ∷ []) ≡ methods_of es ++ methods_of (x ∷ [])
        → cons_option o (methods_of (es ++ x ∷ [])) ≡ cons_option o (methods_of es) ++ methods_of (x ∷ [])
    by None more = more
    by (Some m) more = ap (λ (ms : List Method). m ∷ ms) more

-- as many methods are listed as are kept
pub as_many_held : (p : Progress) (l : Listed) → Holds p l → length (methods_of l.entries) ≡ length p.methods.items
as_many_held p l h = sym (ap length h.methods) ∙ as_many p.space p.methods.items

-- the methods have their paths, and these their numbers, as they had
module _ (old new : Progress) (all : AreNumbered old.space old.methods.items) (keeps : KeepsPaths old.space new.space)
    (ms : new.methods.items ≡ old.methods.items) where
  numbered_as : AreNumbered new.space new.methods.items
  numbered_as = subst (AreNumbered new.space) (sym ms) (still_numbered old.space new.space keeps old.methods.items all)

  methods_as : methods_in new.space new.methods.items ≡ methods_in old.space old.methods.items
  methods_as = ap (methods_in new.space) ms ∙ same_methods old.space new.space keeps old.methods.items all

-- and so have the uses
module _ (old new : Progress) (all : AreKnown old.space old.uses.items) (keeps : KeepsPaths old.space new.space)
    (us : new.uses.items ≡ old.uses.items) where
  known_as : AreKnown new.space new.uses.items
  known_as = subst (AreKnown new.space) (sym us) (still_known old.space new.space keeps old.uses.items all)

  uses_as : uses_of new.space new.uses.items ≡ uses_of old.space old.uses.items
  uses_as = ap (uses_of new.space) us ∙ same_uses old.space new.space keeps old.uses.items all

-- an entry without a body
pub plain_held : (old new : Progress) (l : Listed) (x : Entry) → methods_of (x ∷ []) ≡ [] → Holds old l
    → StandsFor new.space (l.entries ++ x ∷ [])
    → new.methods.items ≡ old.methods.items → new.uses.items ≡ old.uses.items → KeepsPaths old.space new.space
    → Holds new (plus l x)
plain_held old new l x none h s ms us paths = record {
  numbered = numbered_as old new h.numbered paths ms;
  space = s;
  methods = methods_as old new h.numbered paths ms ∙ h.methods
      ∙ sym (methods_more l.entries x ∙ ap (λ zs. methods_of l.entries ++ zs) none ∙ append-nil (methods_of l.entries));
  uses = uses_as old new h.known paths us ∙ h.uses;
  known = known_as old new h.known paths us;
}

pub method_held : (old new : Progress) (l : Listed) (p : List Seg) (k : Kind) (b : Body) (sure : Bool) (m : Kept)
    → Holds old l → StandsFor new.space (l.entries ++ declares p k (Some b) sure ∷ [])
    → new.methods.items ≡ old.methods.items ++ m ∷ [] → StandsAt new.space m.path p
    → method_in new.space m ≡ record { path = path_at new.space m.path; table = b.table; start = b.start; len = b.len; flags = b.flags }
    → new.uses.items ≡ old.uses.items → KeepsPaths old.space new.space → Holds new (plus l (declares p k (Some b) sure))
method_held old new l p k b sure m h s ms at is us paths = record {
  numbered = subst (AreNumbered new.space) (sym ms) (one_numbered new.space old.methods.items m (slice_get_within new.space.paths m.path p at)
      (still_numbered old.space new.space paths old.methods.items h.numbered));
  space = s;
  methods = ap (methods_in new.space) ms ∙ one_method new.space old.methods.items m
      ∙ ap (λ xs. xs ++ method_in new.space m ∷ []) (same_methods old.space new.space paths old.methods.items h.numbered ∙ h.methods)
      ∙ ap (λ (x : Method). methods_of l.entries ++ x ∷ []) (is ∙ λ i. record {
        path = get_or_from_slice_get new.space.paths m.path p [] at i;
        table = b.table;
        start = b.start;
        len = b.len;
        flags = b.flags;
      }) ∙ sym (methods_more l.entries (declares p k (Some b) sure));
  uses = uses_as old new h.known paths us ∙ h.uses;
  known = known_as old new h.known paths us;
}

-- paths have numbers more
pub grown_held : (old new : Progress) (l : Listed) → Grows old.space new.space → new.methods.items ≡ old.methods.items
    → new.uses.items ≡ old.uses.items → Holds old l → Holds new l
grown_held old new l grows ms us h = record {
  numbered = numbered_as old new h.numbered (λ id p. still_at _ _ id p grows) ms;
  space = stands_grown _ _ l.entries grows h.space;
  methods = methods_as old new h.numbered (λ id p. still_at _ _ id p grows) ms ∙ h.methods;
  uses = uses_as old new h.known (λ id p. still_at _ _ id p grows) us ∙ h.uses;
  known = known_as old new h.known (λ id p. still_at _ _ id p grows) us;
}

-- the names of a term more
pub uses_held : (old new : Progress) (l : Listed) (more : List Use) → Holds old l → new.space ≡ old.space
    → new.methods.items ≡ old.methods.items
    → uses_of old.space new.uses.items ≡ uses_of old.space old.uses.items ++ more
    → AreKnown old.space new.uses.items → Holds new (with_more l more)
uses_held old new l more h s ms us known = record {
  numbered = numbered_as old new h.numbered (λ id p. subst (λ k. StandsAt k id p) (sym s)) ms;
  space = subst (λ k. StandsFor k l.entries) (sym s) h.space;
  methods = methods_as old new h.numbered (λ id p. subst (λ k. StandsAt k id p) (sym s)) ms ∙ h.methods;
  uses = ap (λ k. uses_of k new.uses.items) s ∙ us ∙ ap (λ us. us ++ more) h.uses;
  known = subst (λ k. AreKnown k new.uses.items) (sym s) known;
}

abbrev the_ok : Listed → Result Listed LoadFault
the_ok l = Ok l

ended : (r : Result Listed LoadFault) → (r >>= λ k. the_ok k) ≡ r
ended (Ok l) = refl
ended (Err e) = refl

-- a unit stands right below the scope
field_placed : (scope : List Seg) (s : Seg) → placed scope (plain_name s) ≡ Some (scope ++ s ∷ [])
field_placed scope s =
    let le : nat_le 0 (length scope) ≡ true = grind (arith, nat_tests) in
    let all : length scope - 0 ≡ length scope = omega arith in
    rw (le, all) (ap (λ front. Some (front ++ s ∷ [])) (take_all (length scope) scope (omega arith)))

pub unit_is : (site : Where) (l : Listed) (p : List Seg) (s : Seg) → p ≡ site.scope ++ s ∷ []
    → entry_at site l p (plain_entry site l.entries kinds.Field p) ≡ units_at site l (plain_name s ∷ [])
unfolding units_at new_at place_at
unit_is site l p s e =
    let entry : List Seg → Entry = plain_entry site l.entries kinds.Field in
    ap (λ q. entry_at site l q (entry q)) e
    ∙ sym (ap (λ r. r >>= λ q. entry_at site l q (entry q)) (ap (λ o. ok_or o (loads.Space site.table faults.AboveRoot)) (field_placed site.scope s)))
    ∙ sym (ended (new_at site l (Some (plain_name s)) entry))

-- one segment of a field list, and those behind it, at a site that is the same
pub segments_more : {s : Seg} (site same : Where) (m k : Listed) (ss rest : List Seg) → same ≡ site → ss ≡ s ∷ rest
    → units_at same m (plain_name s ∷ []) ≡ Ok k → units_at site k (map plain_name rest) ≡ units_at site m (map plain_name ss)
unfolding units_at
segments_more {s = s} site same m k ss rest here cut e =
    let new : Result Listed LoadFault = new_at site m (Some (plain_name s)) (plain_entry site m.entries kinds.Field) in
    let is : units_at site m (plain_name s ∷ []) ≡ Ok k = subst (λ (w : Where). units_at w m (plain_name s ∷ []) ≡ Ok k) here e in
    sym (ap (λ (xs : List Seg). units_at site m (map plain_name xs)) cut
    ∙ ap (λ (r : Result Listed LoadFault). r >>= λ j. units_at site j (map plain_name rest)) (sym (ended new) ∙ is))

pub segments_fail : {s : Seg} (site same : Where) (m : Listed) (ss rest : List Seg) (e : LoadFault) → same ≡ site → ss ≡ s ∷ rest
    → Fails e (units_at same m (plain_name s ∷ [])) → Fails e (units_at site m (map plain_name ss))
unfolding units_at
segments_fail site same m ss rest e here cut (inl want) = inl want
segments_fail {s = s} site same m ss rest e here cut (inr fails) =
    let new : Result Listed LoadFault = new_at site m (Some (plain_name s)) (plain_entry site m.entries kinds.Field) in
    let is : units_at site m (plain_name s ∷ []) ≡ Err e = subst (λ (w : Where). units_at w m (plain_name s ∷ []) ≡ Err e) here fails in
    inr (ap (λ (xs : List Seg). units_at site m (map plain_name xs)) cut
    ∙ ap (λ (r : Result Listed LoadFault). r >>= λ j. units_at site j (map plain_name rest)) (sym (ended new) ∙ is))

-- where an entry may be added, it is there
pub entry_free : (site : Where) (l : Listed) (p : List Seg) (x : Entry)
    → (not site.any_run && is_some (declared_at l.entries p)) ≡ false
    → entry_at site l p x ≡ Ok (plus l x)
unfolding entry_at
entry_free site l p x free = ap (λ b. cond b (Err (loads.Space site.table (faults.Duplicate p))) (the_ok (plus l x))) free

-- where it may not, loading forward fails as the test for it does
pub entry_taken : (site : Where) (l : Listed) (p : List Seg) (x : Entry) (e : LoadFault)
    → IsFree site l.entries p (Err e) → Fails e (entry_at site l p x)
unfolding entry_at
entry_taken site l p x e (inl want) = inl want
entry_taken site l p x e (inr (taken, is)) =
    inr (ap (λ b. cond b (Err (loads.Space site.table (faults.Duplicate p))) (the_ok (plus l x))) taken ∙ ap (λ (d : LoadFault). Err d) (sym is))

-- an entry of a path without a body more, as it is declared
pub declared_walked : (old new : Progress) (l : Listed) (site : Where) (p : List Seg) (kind : Kind) (sure : Bool) (r : Result (Unit {0}) LoadFault)
    → Holds old l → IsDeclared site l.entries p (declares p kind None sure) old new r
    → Walked new r (entry_at site l p (declares p kind None sure))
declared_walked old new l site p kind sure (Ok u) h d =
    let x = declares p kind None sure in (plus l x, plain_held old new l x refl h d.1 d.2 d.3 d.4, entry_free site l p x d.0)
declared_walked old new l site p kind sure (Err e) h d = entry_taken site l p (declares p kind None sure) e d
