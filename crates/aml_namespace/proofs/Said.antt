-- What is kept of the declarations of a path, and its predefined kind, say of all its kinds: whether a Scope may open it
-- (`scope_said`), and whether an Alias of it is open (`open_said`). No predefined kind is an Alias (`no_alias`).
use Rattle.std.specs.Prelude.{◌||◌, ◌&&◌, option_to_list, nat_lt}
use Rattle.std.proofs.Common.{◌≡◌, Bool, true, false, not, cond, List, [], ◌∷◌, ◌++◌, length, Option, Some, None}
use Rattle.std.proofs.Common.{IfSome, is_some, refl, sym, ap, ◌∙◌, arith}
use Rattle.std.proofs.lemmas.Bool.Decides.{nat_tests}
use Rattle.std.specs.List.{list_all, list_any}
use Rattle.aml_names.specs.declared.segments.Seg.{Seg}
use Rattle.aml_namespace.specs.Kinds.{Kind}
use Rattle.aml_namespace.specs.declared.kinds.Kind.{Kind as KindOf}
use Rattle.aml_namespace.specs.declared.kinds.Kind.TheVariants.{Scope, Name, Method, Mutex}
use Rattle.aml_namespace.specs.Predefined.{is_one_of, predefined}
use Rattle.aml_namespace.specs.Known.{Said, kinds_by, sure_by}
use Rattle.aml_namespace.specs.Runs.{opens_scope, is_alias, is_open_alias, open_among}

and_all : (a b c : Bool) → (a && (b && c)) ≡ ((a && b) && c)
and_all true b c = refl
and_all false b c = refl

or_all : (a b c : Bool) → (a || (b || c)) ≡ ((a || b) || c)
or_all true b c = refl
or_all false b c = refl

and_true : (a : Bool) → (a && true) ≡ a
and_true true = refl
and_true false = refl

or_false : (a : Bool) → (a || false) ≡ a
or_false true = refl
or_false false = refl

all_join : {T : Type 0} (f : KindOf T → Bool) (xs ys : List (KindOf T)) → list_all f (xs ++ ys) ≡ (list_all f xs && list_all f ys)
all_join f [] ys = refl
all_join f (x ∷ xs) ys = ap (λ b. f x && b) (all_join f xs ys) ∙ and_all (f x) (list_all f xs) (list_all f ys)

any_join : {T : Type 0} (f : KindOf T → Bool) (xs ys : List (KindOf T)) → list_any f (xs ++ ys) ≡ (list_any f xs || list_any f ys)
any_join f [] ys = refl
any_join f (x ∷ xs) ys = ap (λ b. f x || b) (any_join f xs ys) ∙ or_all (f x) (list_any f xs) (list_any f ys)

pub scope_said : {T : Type 0} (d : Said (KindOf T)) (standing : Option (KindOf T))
    → (list_all opens_scope (d.kind ∷ d.others) && (d.sure || (is_some standing && list_all opens_scope (option_to_list standing))))
    ≡ (sure_by (Some d) standing && list_all opens_scope (kinds_by (Some d) standing))
scope_said {T} d standing = by d.sure standing
    ∙ ap (λ b. (d.sure || is_some standing) && b)
    (sym (all_join opens_scope (d.kind ∷ d.others) (cond d.sure [] (option_to_list standing))))
  where
    all : Bool
    all = list_all opens_scope (d.kind ∷ d.others)

    by : (sure : Bool) (o : Option (KindOf T))
        → (all && (sure || (is_some o && list_all opens_scope (option_to_list o))))
        ≡ ((sure || is_some o) && (all && list_all opens_scope (cond sure [] (option_to_list o))))
    by true o = refl
    by false None = none all
      where
        none : (a : Bool) → (a && false) ≡ false
        none true = refl
        none false = refl
    by false (Some k) = refl

-- no predefined path is an Alias
pub no_alias : (p : List Seg) → IfSome (predefined p) (λ (k : Kind). is_alias k ≡ false)
no_alias [] = refl
no_alias (s ∷ []) = by (is_one_of ("_GPE" ∷ "_PR_" ∷ "_SB_" ∷ "_SI_" ∷ "_TZ_" ∷ []) s) (is_one_of ("_GL_" ∷ []) s)
    (is_one_of ("_OS_" ∷ "_REV" ∷ []) s) (is_one_of ("_OSI" ∷ []) s)
  where
    by : (a b c d : Bool)
        → IfSome (cond a (Some Scope) (cond b (Some Mutex) (cond c (Some Name) (cond d (Some (Method 1)) None)))) (λ (k : Kind). is_alias k ≡ false)
    by true b c d = refl
    by false true c d = refl
    by false false true d = refl
    by false false false true = refl
    by false false false false = tt
no_alias (s ∷ t ∷ rest) = tt

-- the predefined kind, where it counts
abbrev last : {T : Type 0} → Bool → Option (KindOf T) → List (KindOf T)
last sure standing = cond sure [] (option_to_list standing)

none_last : {T : Type 0} (sure : Bool) (standing : Option (KindOf T)) → IfSome standing (λ k. is_alias k ≡ false)
    → list_any is_alias (last sure standing) ≡ false
none_last true standing plain = refl
none_last false None plain = refl
none_last false (Some k) plain = ap (λ b. b || false) plain

-- of several kinds each Alias counts
several : {T : Type 0} (many : Bool) (ks : List (KindOf T)) → many ≡ true
    → list_any (λ k. is_alias k && (many || is_open_alias k)) ks ≡ list_any is_alias ks
several many [] h = refl
several many (k ∷ ks) h = (λ i. (is_alias k && (h i || is_open_alias k)) || several many ks h i)
    ∙ ap (λ b. b || list_any is_alias ks) (and_true (is_alias k))

pub open_said : {T : Type 0} (d : Said (KindOf T)) (standing : Option (KindOf T)) → IfSome standing (λ k. is_alias k ≡ false)
    → (list_any is_alias (d.kind ∷ d.others)
    && (is_open_alias d.kind || (nat_lt 0 (length d.others) || (not d.sure && is_some standing))))
    ≡ open_among (kinds_by (Some d) standing)
open_said {T} d standing plain = by d.kind d.others d.sure standing plain
  where
    one : (a p : Bool) → ((a || false) && (p || false)) ≡ ((a && (false || p)) || false)
    one true true = refl
    one true false = refl
    one false p = refl

    two : (a p b : Bool) → b ≡ false → ((a || false) && (p || true)) ≡ ((a && true) || ((b && true) || false))
    two true true b h = refl
    two true false b h = refl
    two false p true h = sym h
    two false p false h = refl

    told : (a p many more : Bool) → many ≡ true → (a && (p || (many || more))) ≡ a
    told a true many more h = and_true a
    told a false many more h = ap (λ b. a && (b || more)) h ∙ and_true a

    by : (k : KindOf T) (others : List (KindOf T)) (sure : Bool) (o : Option (KindOf T)) → IfSome o (λ k. is_alias k ≡ false)
        → (list_any is_alias (k ∷ others) && (is_open_alias k || (nat_lt 0 (length others) || (not sure && is_some o))))
        ≡ open_among (k ∷ (others ++ last sure o))
    by k [] true o h = one (is_alias k) (is_open_alias k)
    by k [] false None h = one (is_alias k) (is_open_alias k)
    by k [] false (Some m) h = two (is_alias k) (is_open_alias k) (is_alias m) h
    by k (x ∷ xs) sure o h =
        let ks = k ∷ x ∷ (xs ++ last sure o) in
        let some : nat_lt 0 (length (x ∷ xs)) ≡ true = grind (arith, nat_tests) in
        let many : nat_lt 1 (length ks) ≡ true = grind (arith, nat_tests) in
        told (list_any is_alias (k ∷ x ∷ xs)) (is_open_alias k) (nat_lt 0 (length (x ∷ xs))) (not sure && is_some o) some
        ∙ sym (several (nat_lt 1 (length ks)) ks many ∙ any_join is_alias (k ∷ x ∷ xs) (last sure o)
        ∙ ap (λ b. list_any is_alias (k ∷ x ∷ xs) || b) (none_last sure o h) ∙ or_false (list_any is_alias (k ∷ x ∷ xs)))
