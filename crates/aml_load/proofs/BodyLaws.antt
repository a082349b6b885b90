-- The body of a method, read by what the names of its body are read by.
use Rattle.std.proofs.Common.{ap, ◌≡◌, ◌≢◌, ℕ, zero, suc, ◌≤◌, Bool, List, [], ◌∷◌, length, drop, Option, Some, Result}
use Rattle.std.proofs.Common.{Ok, Err, refl, subst, ◌⊎◌, inl, inr, arith, slice_index_or}
use Rattle.std.proofs.lemmas.List.{length-take, length-drop}
use Rattle.aml_names.specs.declared.names.Name.{Name}
use Rattle.aml_names.specs.Paths.{PathSet}
use Rattle.aml_names.specs.declared.faults.CodeFault.{CodeFault}
use Rattle.aml_names.specs.declared.faults.CodeFault.TheVariants as codes
use Rattle.aml_names.specs.NameReading.{Gives}
use Rattle.aml_code.specs.declared.rows.Position.TheVariants as positions
use Rattle.aml_code.specs.Tree.{Trees}
use Rattle.aml_code.specs.Faults.{StandsAt}
use Rattle.aml_code.specs.Lawful.{ReadsBody}
use Rattle.aml_parse.specs.Reading.{all_at}
use Rattle.aml_parse.proofs.Readings.{BodySaid, body_said}
use Rattle.aml_names.proofs.StepLaws.{IsBytes}
use Rattle.aml_namespace.specs.Known.{BodyView, Known, StandsFor, outlook_in}
use Rattle.aml_namespace.specs.Namespace.{Entry}
use Rattle.aml_namespace.specs.Runs.{Outlook, outlook_of, agreed_arity}
use Rattle.aml_namespace.proofs.Stands.{same_outlook}
use Rattle.aml_set.specs.Methods.{Method, span_of}
use Rattle.aml_set.specs.Code.{AreShort}
use Rattle.aml_load.specs.Views.{IsBody, IsUnread, IsReading, GivesBody}

short_at : (cs : List (List ℕ)) (n : ℕ) → AreShort cs → length (slice_index_or cs n []) ≤ 16777216
short_at [] n h = omega arith
short_at (x ∷ cs) zero h = h.0
short_at (x ∷ cs) (suc n) h = short_at cs n h.1

-- a span is no longer than its table
pub short_span : (cs : List (List ℕ)) (m : Method) → AreShort cs → length (span_of cs m) ≤ 16777216
short_span cs m h =
    let code = slice_index_or cs m.table [] in
    omega (arith, short_at cs m.table h, length-take m.len (drop m.start code), length-drop m.start code)

abbrev Reads : Outlook → Bool → Method → List ℕ → Trees → Type 0
Reads n z m bytes ts = ReadsBody (agreed_arity n z m.path) m.path bytes ts

-- a fault is want of memory, or it isn't
pub want_or : (f : CodeFault) → (f ≡ codes.NoMemory) ⊎ (f ≢ codes.NoMemory)
want_or (codes.Truncated at) = inr (λ e. absurd cc)
want_or (codes.PkgBits at) = inr (λ e. absurd cc)
want_or (codes.PkgPast at) = inr (λ e. absurd cc)
want_or (codes.BadName at) = inr (λ e. absurd cc)
want_or (codes.UnknownOp at) = inr (λ e. absurd cc)
want_or (codes.NotHere at) = inr (λ e. absurd cc)
want_or (codes.StrayElse at) = inr (λ e. absurd cc)
want_or (codes.UnknownName at) = inr (λ e. absurd cc)
want_or (codes.EmptyName at) = inr (λ e. absurd cc)
want_or (codes.NestedMethod at) = inr (λ e. absurd cc)
want_or (codes.NestedScope at) = inr (λ e. absurd cc)
want_or (codes.ModuleCode at) = inr (λ e. absurd cc)
want_or (codes.BadCount at) = inr (λ e. absurd cc)
want_or (codes.TooDeep at) = inr (λ e. absurd cc)
want_or codes.NoMemory = inl refl

-- the argument counts by which a body is read
abbrev Counts : Type 0
Counts = PathSet → Name → Option ℕ

unread : {X : Type 0} (view : X → Trees) (es : List Entry) (cs : List (List ℕ)) (m : Method) (z : Bool) (f : CodeFault)
    → (f ≡ codes.NoMemory)
    ⊎ ((ts : Trees) → IsBody z es cs m ts → ⊥)
    → StandsAt (agreed_arity (outlook_of es) z m.path) (span_of cs m) f → (f ≡ codes.NoMemory) ⊎ (f ≢ codes.NoMemory)
    → (f ≡ codes.NoMemory)
    ⊎ IsUnread z es cs m f
unread view es cs m z f complete there (inl w) = inl w
unread view es cs m z f (inl w) there (inr n) = inl w
unread view es cs m z f (inr none) there (inr n) = inr (record { reason = n; stands = there; none = none })

reading_of : {X : Type 0} (view : X → Trees) (es : List Entry) (cs : List (List ℕ)) (m : Method) (z : Bool) (r : Result X CodeFault)
    → BodySaid view (agreed_arity (outlook_of es) z m.path) m.path (span_of cs m) r → IsReading view z es cs m r
reading_of view es cs m z (Ok x) says = (says.0, says.1)
reading_of view es cs m z (Err f) says = unread view es cs m z f says.2 says.3 (want_or f)

-- what is said of a body by the counts of its names, and by its bytes, is said of the method in the namespace of the
-- entries
said_of_method : (P : Counts → List ℕ → Type 0) (names : BodyView) (k : Known) (es : List Entry) (cs : List (List ℕ)) (m : Method) (z : Bool) (bytes : List ℕ)
    → names ≡ record { known = k; method = m.path; unknown_zero = z } → StandsFor k es → bytes ≡ span_of cs m
    → P (agreed_arity (outlook_in names.known) names.unknown_zero names.method) bytes
    → P (agreed_arity (outlook_of es) z m.path) (span_of cs m)
said_of_method P names k es cs m z bytes named s is says =
    let here = subst (λ (v : BodyView). P (agreed_arity (outlook_in v.known) v.unknown_zero v.method) bytes) named says in
    let there = subst (λ (n : Outlook). P (agreed_arity n z m.path) bytes) (same_outlook k es s) here in
    subst (λ (b : List ℕ). P (agreed_arity (outlook_of es) z m.path) b) is there

-- the scope of a method's names is its path
own_scope : {X : Type 0} (view : X → Trees) (names : BodyView) (k : Known) (m : Method) (z : Bool) (bytes : List ℕ) (r : Result X CodeFault)
    → names ≡ record { known = k; method = m.path; unknown_zero = z }
    → Gives view r (all_at (agreed_arity (outlook_in names.known) names.unknown_zero names.method) (Some names.method) positions.BodyTerm bytes)
    → Gives view r (all_at (agreed_arity (outlook_in names.known) names.unknown_zero names.method) (Some m.path) positions.BodyTerm bytes)
own_scope view names k m z bytes r named = subst
    (λ p. Gives view r (all_at (agreed_arity (outlook_in names.known) names.unknown_zero names.method) (Some p) positions.BodyTerm bytes))
    (ap (λ (v : BodyView). v.method) named)

-- what is answered over the names of a method's body, as reading forward gives it, is a reading of this body
pub reading_is : {X : Type 0} (view : X → Trees) (names : BodyView) (k : Known) (es : List Entry) (cs : List (List ℕ)) (m : Method) (z : Bool) (bytes : List ℕ)
    (r : Result X CodeFault)
    → names ≡ record { known = k; method = m.path; unknown_zero = z } → StandsFor k es → bytes ≡ span_of cs m
    → IsBytes bytes
    → Gives view r (all_at (agreed_arity (outlook_in names.known) names.unknown_zero names.method) (Some names.method) positions.BodyTerm bytes)
    → IsReading view z es cs m r
reading_is view names k es cs m z bytes r named s is fits gives = reading_of view es cs m z r
    (said_of_method (λ counts b. BodySaid view counts m.path b r) names k es cs m z bytes named s is
    (body_said view (agreed_arity (outlook_in names.known) names.unknown_zero names.method) m.path bytes r fits (own_scope view names k m z bytes r named gives)))

-- what reading forward gives of its bytes is what it gives of the method's body
pub forward_is : {X : Type 0} (view : X → Trees) (names : BodyView) (k : Known) (es : List Entry) (cs : List (List ℕ)) (m : Method) (z : Bool) (bytes : List ℕ)
    (r : Result X CodeFault)
    → names ≡ record { known = k; method = m.path; unknown_zero = z } → StandsFor k es → bytes ≡ span_of cs m
    → Gives view r (all_at (agreed_arity (outlook_in names.known) names.unknown_zero names.method) (Some names.method) positions.BodyTerm bytes)
    → GivesBody view z es cs m r
forward_is view names k es cs m z bytes r named s is says =
    said_of_method (λ counts b. Gives view r (all_at counts (Some m.path) positions.BodyTerm b)) names k es cs m z bytes named s is (own_scope view names k m z bytes r named says)
