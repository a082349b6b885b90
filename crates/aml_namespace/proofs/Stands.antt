-- What is known stands for a list of entries. The maps of a list stand for it, and nothing else does (`known_stands`,
-- `declarations_alone`); an entry behind the others adds to the maps what it says (`stands_declared` and its kin); and a space
-- answers as each list that it stands for (`kind_listed` and its kin).
use Rattle.std.proofs.Common.{◌≡◌, ℕ, Bool, true, false, cond, List, [], ◌∷◌, ◌++◌, Option, Some, None, is_some, Result}
use Rattle.std.proofs.Common.{IfOk, refl, sym, ap, subst, ◌∙◌, arith}
use Rattle.std.specs.Prelude.{◌||◌, ◌&&◌, ◌+◌}
use Rattle.aml_namespace.specs.Predefined.{predefined}
use Rattle.std.specs.FinMap as map
use Rattle.std.proofs.lemmas.Map.Views.{tells_apart}
use Rattle.aml_names.specs.declared.segments.Seg.{Seg}
use Rattle.aml_names.specs.declared.names.Name.{Name}
use Rattle.aml_names.specs.Paths.{PathSet, path_cmp, paths_total, exact_paths}
use Rattle.aml_namespace.specs.Kinds.{Kind}
use Rattle.aml_namespace.specs.Namespace.{namespace_of, kind_at, count_at, found, Entry, Body, declares, external}
use Rattle.aml_namespace.specs.Namespace.{given, declared_at, outs_at, given_at, same_path, greater}
use Rattle.aml_namespace.specs.Runs.{Outlook, outlook_of, agreed_path, kinds_at, surely_declared, sure_at, times_at}
use Rattle.aml_namespace.specs.Known.{Known, Declared, namespace_in, outlook_in, StandsFor, is_declared, known, before}
use Rattle.aml_namespace.specs.Known.{again, behind, declaration_at, once, with_declaration, declared_kind, kinds_by}
use Rattle.aml_namespace.specs.Known.{sure_by, with_again, with_external, with_given, with_paths, of_paths, Grows}

tied_path : (p q : List Seg) → same_path q p ≡ true → q ≡ p
tied_path p q e = tells_apart exact_paths q p e

cond_at : {A : Type 0} (b : Bool) (x y z : A) → (b ≡ true → x ≡ y) → cond b x z ≡ cond b y z
cond_at true x y z h = h refl
cond_at false x y z h = refl

-- one count more of a path, in a map of the greatest counts
raised_at : (m : map.FinMap path_cmp ℕ) (p : List Seg) (n : ℕ) (q : List Seg) (o : Option ℕ) → map.get m q ≡ o
    → map.get (map.insert m p (greater n (map.get m p))) q ≡ cond (same_path q p) (Some (greater n o)) o
raised_at m p n q o is =
    map.get-insert paths_total m p _ q
    ∙ cond_at (same_path q p) _ (Some (greater n o)) (map.get m q) (λ e. ap (λ o. Some (greater n o)) (ap (map.get m) (sym (tied_path p q e)) ∙ is))
    ∙ ap (cond (same_path q p) (Some (greater n o))) is

-- one declaration more of a path
put_at : (m : map.FinMap path_cmp Declared) (p : List Seg) (f : Option Declared → Declared) (q : List Seg) (o : Option Declared) → map.get m q ≡ o
    → map.get (map.insert m p (f (map.get m p))) q ≡ cond (same_path q p) (Some (f o)) o
put_at m p f q o is =
    map.get-insert paths_total m p _ q
    ∙ cond_at (same_path q p) _ (Some (f o)) (map.get m q) (λ e. ap (λ o. Some (f o)) (ap (map.get m) (sym (tied_path p q e)) ∙ is))
    ∙ ap (cond (same_path q p) (Some (f o))) is

-- the maps of a list of entries stand for it
pub known_stands : (es : List Entry) → StandsFor (known es) es
known_stands [] = record { same_declared = map.get-empty path_cmp; same_outs = map.get-empty path_cmp; same_givens = map.get-empty path_cmp }
known_stands (declares p k b sure ∷ es) =
    let s = known_stands es in
    record {
      same_declared = λ q. put_at (known es).declarations p (before k sure) q _ (s.same_declared q);
      same_outs = s.same_outs;
      same_givens = s.same_givens;
    }
known_stands (external p n ∷ es) =
    let s = known_stands es in
    record { same_declared = s.same_declared; same_outs = λ q. raised_at (known es).outs p n q _ (s.same_outs q); same_givens = s.same_givens }
known_stands (given p n ∷ es) =
    let s = known_stands es in
    record { same_declared = s.same_declared; same_outs = s.same_outs; same_givens = λ q. raised_at (known es).givens p n q _ (s.same_givens q) }

-- what is declared where a list of entries is stood for is what that list declares
pub declarations_alone : (k : Known) (es : List Entry) → StandsFor k es → k.declarations ≡ (known es).declarations
declarations_alone k es s =
    map.same_map paths_total exact_paths _ _ (λ q. s.same_declared q ∙ sym ((known_stands es).same_declared q))

-- which paths have numbers says nothing of entries
stands_numbered : (k : Known) (paths : List (List Seg)) (es : List Entry) → StandsFor k es → StandsFor (with_paths k paths) es
stands_numbered k paths es s = record { same_declared = s.same_declared; same_outs = s.same_outs; same_givens = s.same_givens }

pub stands_grown : (old new : Known) (es : List Entry) → Grows old new → StandsFor old es → StandsFor new es
stands_grown old new es (more, is) s = subst (λ k. StandsFor k es) (sym is) (stands_numbered old (old.paths ++ more) es s)

pub stands_alone : (k : Known) (es : List Entry) → StandsFor k es → StandsFor (of_paths k) es
stands_alone k es s = stands_numbered k [] es s

-- a count that may be missing, or the greater of two
abbrev merged : Option ℕ → Option ℕ → Option ℕ
merged None o = o
merged (Some n) o = Some (greater n o)

counted : (n : ℕ) (b : Bool) (o p : Option ℕ)
    → cond b (Some (greater n (merged o p))) (merged o p) ≡ merged (cond b (Some (greater n o)) o) p
counted n true None p = ap Some (omega arith)
counted n true (Some i) p = ap Some (omega arith)
counted n false o p = refl

pushed : (n : ℕ) (b : Bool) (o : Option ℕ) → cond b (Some (greater n o)) o ≡ merged o (cond b (Some (greater n None)) None)
pushed n true None = refl
pushed n true (Some i) = ap Some (omega arith)
pushed n false None = refl
pushed n false (Some i) = ap Some (omega arith)

-- what a list says, and behind it another
module _ (fs : List Entry) (q : List Seg) where
  outs_append : (es : List Entry) → outs_at (es ++ fs) q ≡ merged (outs_at es q) (outs_at fs q)
  outs_append [] = refl
  outs_append (declares p k b sure ∷ es) = outs_append es
  outs_append (external p n ∷ es) =
      ap (λ o. cond (same_path q p) (Some (greater n o)) o) (outs_append es) ∙ counted n (same_path q p) (outs_at es q) (outs_at fs q)
  outs_append (given p n ∷ es) = outs_append es

  givens_append : (es : List Entry) → given_at (es ++ fs) q ≡ merged (given_at es q) (given_at fs q)
  givens_append [] = refl
  givens_append (declares p k b sure ∷ es) = givens_append es
  givens_append (external p n ∷ es) = givens_append es
  givens_append (given p n ∷ es) =
      ap (λ o. cond (same_path q p) (Some (greater n o)) o) (givens_append es) ∙ counted n (same_path q p) (given_at es q) (given_at fs q)

-- a declaration before others and one behind them
before_behind : (k l : Kind) (sure last : Bool) (o : Option Declared)
    → before k sure (Some (behind o l last)) ≡ again (before k sure o) l last
before_behind k l true last None = refl
before_behind k l false last None = refl
before_behind k l true last (Some d) = refl
before_behind k l false last (Some d) = by d.sure
  where
    by : (b : Bool) → record { kind = k; others = d.kind ∷ cond b d.others (d.others ++ l ∷ []); sure = b || last; times = d.times + 1 + 1 }
        ≡ again (record { kind = k; others = d.kind ∷ d.others; sure = b; times = d.times + 1 }) l last
    by true = refl
    by false = refl

-- an entry behind the others
module _ (p : List Seg) (q : List Seg) where
  declared_last : (kind : Kind) (b : Option Body) (last : Bool) (es : List Entry)
      → declaration_at (es ++ declares p kind b last ∷ []) q
      ≡ cond (same_path q p) (Some (behind (declaration_at es q) kind last)) (declaration_at es q)
  declared_last kind b last [] = refl
  declared_last kind b last (declares r k c sure ∷ es) =
      ap (λ o. cond (same_path q r) (Some (before k sure o)) o) (declared_last kind b last es) ∙ by (same_path q r) (same_path q p) (declaration_at es q)
    where
      by : (first here : Bool) (o : Option Declared)
          → cond first (Some (before k sure (cond here (Some (behind o kind last)) o))) (cond here (Some (behind o kind last)) o)
          ≡ cond here (Some (behind (cond first (Some (before k sure o)) o) kind last)) (cond first (Some (before k sure o)) o)
      by true true o = ap Some (before_behind k kind sure last o)
      by true false o = refl
      by false true o = refl
      by false false o = refl
  declared_last kind b last (external r n ∷ es) = declared_last kind b last es
  declared_last kind b last (given r n ∷ es) = declared_last kind b last es

  external_last : (n : ℕ) (es : List Entry) → declaration_at (es ++ external p n ∷ []) q ≡ declaration_at es q
  external_last n [] = refl
  external_last n (declares r k c sure ∷ es) = ap (λ o. cond (same_path q r) (Some (before k sure o)) o) (external_last n es)
  external_last n (external r m ∷ es) = external_last n es
  external_last n (given r m ∷ es) = external_last n es

  given_last : (n : ℕ) (es : List Entry) → declaration_at (es ++ given p n ∷ []) q ≡ declaration_at es q
  given_last n [] = refl
  given_last n (declares r k c sure ∷ es) = ap (λ o. cond (same_path q r) (Some (before k sure o)) o) (given_last n es)
  given_last n (external r m ∷ es) = given_last n es
  given_last n (given r m ∷ es) = given_last n es

-- an entry added to what stands for a list
module _ (k : Known) (es : List Entry) (s : StandsFor k es) (p : List Seg) where
  pub stands_declared : (kind : Kind) (b : Option Body) (sure : Bool)
      → StandsFor (with_again k p kind sure) (es ++ declares p kind b sure ∷ [])
  stands_declared kind b sure = record {
    same_declared = λ q. put_at k.declarations p (λ o. behind o kind sure) q _ (s.same_declared q) ∙ sym (declared_last p q kind b sure es);
    same_outs = λ q. s.same_outs q ∙ pushed 0 false _ ∙ sym (outs_append (declares p kind b sure ∷ []) q es);
    same_givens = λ q. s.same_givens q ∙ pushed 0 false _ ∙ sym (givens_append (declares p kind b sure ∷ []) q es);
  }

  pub stands_external : (n : ℕ) → StandsFor (with_external k p n) (es ++ external p n ∷ [])
  stands_external n = record {
    same_declared = λ q. s.same_declared q ∙ sym (external_last p q n es);
    same_outs = λ q. raised_at k.outs p n q _ (s.same_outs q) ∙ pushed n (same_path q p) (outs_at es q) ∙ sym (outs_append (external p n ∷ []) q es);
    same_givens = λ q. s.same_givens q ∙ pushed 0 false _ ∙ sym (givens_append (external p n ∷ []) q es);
  }

  pub stands_given : (n : ℕ) → StandsFor (with_given k p n) (es ++ given p n ∷ [])
  stands_given n = record {
    same_declared = λ q. s.same_declared q ∙ sym (given_last p q n es);
    same_outs = λ q. s.same_outs q ∙ pushed 0 false _ ∙ sym (outs_append (given p n ∷ []) q es);
    same_givens = λ q. raised_at k.givens p n q _ (s.same_givens q) ∙ pushed n (same_path q p) (given_at es q) ∙ sym (givens_append (given p n ∷ []) q es);
  }

-- the first declaration of a path
pub again_first : (k : Known) (p : List Seg) (kind : Kind) (sure : Bool) → map.get k.declarations p ≡ None
    → with_again k p kind sure ≡ with_declaration k p (once kind sure)
again_first k p kind sure none = ap (λ o. with_declaration k p (behind o kind sure)) none

pub none_from_test : {A : Type 0} (o : Option A) → is_some o ≡ false → o ≡ None
none_from_test None e = refl
none_from_test (Some x) e = absurd (mathlib.Core.Bool.true≢false e)

-- whether a declaration is sure, and how many there are
abbrev pub said_sure : Option Declared → Bool
said_sure None = false
said_sure (Some d) = d.sure

abbrev pub said_times : Option Declared → ℕ
said_times None = 0
said_times (Some d) = d.times

-- what the declarations of a path say: its first kind, all of its kinds, whether it is sure
module _ (q : List Seg) where
  pub first_said : (es : List Entry) → declared_kind (declaration_at es q) ≡ declared_at es q
  first_said [] = refl
  first_said (declares p k b sure ∷ es) = by (same_path q p) (declaration_at es q) ∙ ap (cond (same_path q p) (Some k)) (first_said es)
    where
      by : (same : Bool) (o : Option Declared)
          → declared_kind (cond same (Some (before k sure o)) o) ≡ cond same (Some k) (declared_kind o)
      by true None = refl
      by true (Some d) = refl
      by false o = refl
  first_said (external p n ∷ es) = first_said es
  first_said (given p n ∷ es) = first_said es

  pub kinds_said : (es : List Entry) → kinds_by (declaration_at es q) (predefined q) ≡ kinds_at es q
  kinds_said [] = refl
  kinds_said (declares p k b sure ∷ es) = by (same_path q p) sure (declaration_at es q)
      ∙ ap (λ ks. cond (same_path q p) (k ∷ cond sure [] ks) ks) (kinds_said es)
    where
      by : (same sure : Bool) (o : Option Declared) → kinds_by (cond same (Some (before k sure o)) o) (predefined q)
          ≡ cond same (k ∷ cond sure [] (kinds_by o (predefined q))) (kinds_by o (predefined q))
      by true true None = refl
      by true true (Some d) = refl
      by true false None = refl
      by true false (Some d) = refl
      by false sure o = refl
  kinds_said (external p n ∷ es) = kinds_said es
  kinds_said (given p n ∷ es) = kinds_said es

  pub surely_said : (es : List Entry) → surely_declared es q ≡ said_sure (declaration_at es q)
  surely_said [] = refl
  surely_said (declares p k b sure ∷ es) = ap (λ more. (same_path q p && sure) || more) (surely_said es) ∙ by (same_path q p) sure (declaration_at es q)
    where
      by : (same sure : Bool) (o : Option Declared)
          → ((same && sure) || said_sure o) ≡ said_sure (cond same (Some (before k sure o)) o)
      by true true None = refl
      by true true (Some d) = refl
      by true false None = refl
      by true false (Some d) = refl
      by false sure o = refl
  surely_said (external p n ∷ es) = surely_said es
  surely_said (given p n ∷ es) = surely_said es

  pub times_said : (es : List Entry) → times_at es q ≡ said_times (declaration_at es q)
  times_said [] = refl
  times_said (declares p k b sure ∷ es) = ap (λ n. cond (same_path q p) (n + 1) n) (times_said es) ∙ by (same_path q p) (declaration_at es q)
    where
      by : (same : Bool) (o : Option Declared)
          → cond same (said_times o + 1) (said_times o) ≡ said_times (cond same (Some (before k sure o)) o)
      by true None = refl
      by true (Some d) = refl
      by false o = refl
  times_said (external p n ∷ es) = times_said es
  times_said (given p n ∷ es) = times_said es

  pub sure_said : (es : List Entry) → sure_by (declaration_at es q) (predefined q) ≡ sure_at es q
  sure_said [] = refl
  sure_said (declares p k b sure ∷ es) = by (same_path q p) sure (declaration_at es q) (surely_declared es q) (sure_said es)
    where
      by : (same sure : Bool) (o : Option Declared) (more : Bool)
          → sure_by o (predefined q) ≡ (more || is_some (predefined q))
          → sure_by (cond same (Some (before k sure o)) o) (predefined q) ≡ (((same && sure) || more) || is_some (predefined q))
      by true true None more rest = refl
      by true true (Some d) more rest = refl
      by true false None more rest = rest
      by true false (Some d) more rest = rest
      by false sure o more rest = rest
  sure_said (external p n ∷ es) = sure_said es
  sure_said (given p n ∷ es) = sure_said es

-- what stands for a list of entries answers as that list
module _ (k : Known) (es : List Entry) where
  pub same_namespace : StandsFor k es → namespace_in k ≡ namespace_of es
  same_namespace s = λ i. record {
    declared = λ q. (ap declared_kind (s.same_declared q) ∙ first_said q es) i;
    outs = λ q. s.same_outs q i;
    givens = λ q. s.same_givens q i;
  }

  pub same_outlook : StandsFor k es → outlook_in k ≡ outlook_of es
  same_outlook s = λ i. record {
    first = same_namespace s i;
    kinds = λ q. (ap (λ o. kinds_by o (predefined q)) (s.same_declared q) ∙ kinds_said q es) i;
    sure = λ q. (ap (λ o. sure_by o (predefined q)) (s.same_declared q) ∙ sure_said q es) i;
  }

  pub kind_listed : (p : List Seg) (o : Option Kind) → StandsFor k es → o ≡ kind_at (namespace_in k) p
      → o ≡ kind_at (namespace_of es) p
  kind_listed p o s e = e ∙ ap (λ n. kind_at n p) (same_namespace s)

  pub declared_listed : (p : List Seg) (b : Bool) → StandsFor k es → b ≡ is_declared k p
      → b ≡ is_some (declared_at es p)
  declared_listed p b s e = e ∙ ap is_some (s.same_declared p) ∙ by (declaration_at es p) ∙ ap is_some (first_said p es)
    where
      by : (o : Option Declared) → is_some o ≡ is_some (declared_kind o)
      by None = refl
      by (Some d) = refl

  pub outlook_listed : (f : Outlook → Bool) (b : Bool) → StandsFor k es → b ≡ f (outlook_in k) → b ≡ f (outlook_of es)
  outlook_listed f b s e = e ∙ ap f (same_outlook s)

  pub count_listed : (p : List Seg) (o : Option ℕ) → StandsFor k es → o ≡ count_at (namespace_in k) p
      → o ≡ count_at (namespace_of es) p
  count_listed p o s e = e ∙ ap (λ n. count_at n p) (same_namespace s)

  pub found_listed : (locals : PathSet) (scope : List Seg) (name : Name) (o : Option (List Seg)) → StandsFor k es
      → o ≡ found (namespace_in k) locals scope name → o ≡ found (namespace_of es) locals scope name
  found_listed locals scope name o s e = e ∙ ap (λ n. found n locals scope name) (same_namespace s)

  -- the same of an answer, if there is one
  pub if_found : {X E : Type 0} (path_of : X → Option (List Seg)) (locals : PathSet) (scope : List Seg) (name : Name) (r : Result X E)
      → StandsFor k es
      → IfOk r (λ x. path_of x ≡ found (namespace_in k) locals scope name)
      → IfOk r (λ x. path_of x ≡ found (namespace_of es) locals scope name)
  if_found path_of locals scope name r s e = subst (λ n. IfOk r (λ x. path_of x ≡ found n locals scope name)) (same_namespace s) e

  pub if_agreed : {X E : Type 0} (path_of : X → Option (List Seg)) (scope : List Seg) (name : Name) (r : Result X E) → StandsFor k es
      → IfOk r (λ x. path_of x ≡ agreed_path (outlook_in k) scope name)
      → IfOk r (λ x. path_of x ≡ agreed_path (outlook_of es) scope name)
  if_agreed path_of scope name r s e = subst (λ o. IfOk r (λ x. path_of x ≡ agreed_path o scope name)) (same_outlook s) e
