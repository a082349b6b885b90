-- What steps of a load add to the spans of the methods' bodies, and what the rows say of the terms of tables.
use Rattle.std.proofs.Common.{◌≡◌, ℕ, Bool, true, false, not, ◌&&◌, List, [], ◌∷◌, ◌++◌, length, map, Option}
use Rattle.std.proofs.Common.{Some, None, refl, sym, ap, subst, ◌∙◌}
use Rattle.std.proofs.Common.{append_assoc, Result, Ok, Err, is_some, cond, nat_le, ◌≤◌, ◌<◌, arith}
use Rattle.std.specs.Prelude.{IfOk}
use Rattle.std.specs.Option.{option_map, unwrap_or}
use Rattle.std.proofs.lemmas.Bool.Decides.{nat_tests}
use Rattle.std.proofs.lemmas.List.{append-nil, map-append, length-append}
use Rattle.aml_names.specs.declared.segments.Seg.{Seg}
use Rattle.aml_names.specs.declared.names.Name.{Name}
use Rattle.aml_code.specs.declared.rows.Place.{Place}
use Rattle.aml_code.specs.declared.rows.Place.TheVariants as places
use Rattle.aml_code.specs.declared.rows.Position.{Position}
use Rattle.aml_code.specs.declared.rows.Position.TheVariants as positions
use Rattle.aml_code.specs.declared.rows.Role.TheVariants as roles
use Rattle.aml_code.specs.declared.rows.TailKind.{TailKind}
use Rattle.aml_code.specs.declared.rows.TailKind.TheVariants as tails
use Rattle.aml_code.specs.Opcodes.{Row, rows, row_of, takes}
use Rattle.aml_code.specs.Tree.{Tree, Tail}
use Rattle.aml_code.specs.Lawful.{terms_in, tail_in, next_position}
use Rattle.aml_code.proofs.RowFacts.{rows_say}
use Rattle.aml_parse.specs.Reading.{takes_names}
use Rattle.aml_parse.specs.Running.{has_terms}
use Rattle.aml_namespace.specs.declared.kinds.Kind.TheVariants as kinds
use Rattle.aml_namespace.specs.Namespace.{Entry, declared_at}
use Rattle.aml_load.specs.declared.faults.LoadFault.{LoadFault}
use Rattle.aml_load.specs.Declaring.{◌>>=◌, Listed, body_span, most_methods, place_at, entry_at, new_at, units_at}
use Rattle.aml_load.specs.Loading.{role_of, Where, plain_entry, method_entry, methods_of}
use Rattle.aml_load.specs.Spans.{Span, method_span}
use Rattle.aml_load.proofs.Holding.{methods_more}

-- ---- what the rows say of the terms of tables, by a test over the whole table of opcodes

module_inside : (place : Place) → takes_names (terms_in positions.ModuleTerm place) ≡ false
module_inside places.If = refl
module_inside _ = refl

-- there each tail is kept
pub kept_in_table : (p : Position) (k : Option TailKind) → takes_names p ≡ false → option_map (tail_in p) k ≡ k
kept_in_table p None h = refl
kept_in_table positions.ModuleTerm (Some k) h = refl
kept_in_table positions.GuardTerm (Some k) h = refl
kept_in_table _ (Some k) h = absurd cc

-- the terms inside a term of a table are terms of a table too
pub inside_in_table : (p : Position) (o : ℕ) (r : Row) → takes_names p ≡ false → row_of o ≡ Some r → takes p r.place ≡ true
    → r.tail ≡ Some tails.Terms → takes_names (terms_in p r.place) ≡ false
unfolding rows
inside_in_table positions.ModuleTerm o r h listed taken is = module_inside r.place
inside_in_table positions.GuardTerm o r h listed taken is =
    let none = rows_say (λ r. takes positions.GuardTerm r.place) (λ r. not (has_terms r.tail)) refl o r listed taken in
    let some : not (has_terms (Some tails.Terms)) ≡ true = subst (λ (k : Option TailKind). not (has_terms k) ≡ true) is none in absurd cc
inside_in_table _ o r h listed taken is = absurd cc

pub next_in_table : (p : Position) (x : Tree) → takes_names p ≡ false → takes_names (next_position p x) ≡ false
next_in_table positions.ModuleTerm x h = refl
next_in_table positions.GuardTerm x h = refl
next_in_table _ x h = absurd cc

pub role_is : (o : ℕ) (r : Row) → row_of o ≡ Some r → role_of o ≡ r.role
unfolding role_of
role_is o r e = ap (λ row. unwrap_or (option_map (λ (r : Row). r.role) row) roles.Other) e

-- ---- what entries add to the methods' spans

abbrev pub spans_of : List Entry → List Span
spans_of es = map method_span (methods_of es)

-- From some entries to others the spans become more by these, and there don't become too many methods.
pub record Adds (es more : List Entry) (spans : List Span) : Type 0 where
  pub grow : spans_of more ≡ spans_of es ++ spans
  pub few : length (methods_of es) ≤ most_methods → length (methods_of more) ≤ most_methods

pub nothing_more : (es : List Entry) → Adds es es []
nothing_more es = record { grow = sym (append-nil (spans_of es)); few = λ h. h }

pub then_adds : (es fs gs : List Entry) (xs ys : List Span) → Adds es fs xs → Adds fs gs ys → Adds es gs (xs ++ ys)
then_adds es fs gs xs ys h g = record {
  grow = g.grow ∙ ap (λ zs. zs ++ ys) h.grow ∙ append_assoc (spans_of es) xs ys;
  few = λ fits. g.few (h.few fits);
}

-- an entry without a body
pub plain_adds : (es : List Entry) (x : Entry) → methods_of (x ∷ []) ≡ [] → Adds es (es ++ x ∷ []) []
plain_adds es x none =
    let same = methods_more es x ∙ ap (λ ms. methods_of es ++ ms) none in
    record {
      grow = ap (map method_span) (same ∙ append-nil (methods_of es)) ∙ sym (append-nil (spans_of es));
      few = subst (λ ms. length ms ≤ most_methods) (sym (same ∙ append-nil (methods_of es)));
    }

abbrev pub one_span : ℕ → Tail → List Span
one_span t x = record { table = t; start = (body_span x).0; len = (body_span x).1 } ∷ []

pub method_adds : (site : Where) (es : List Entry) (p : List Seg) (flags : ℕ) (x : Tail)
    → nat_le most_methods (length (methods_of es)) ≡ false
    → Adds es (es ++ method_entry site es flags (body_span x) p ∷ []) (one_span site.table x)
method_adds site es p flags x room =
    let e = method_entry site es flags (body_span x) p in
    let less : length (methods_of es) < 1048576 = grind (arith, nat_tests, room) in
    record {
      grow = ap (map method_span) (methods_more es e) ∙ map-append method_span (methods_of es) (methods_of (e ∷ []));
      few = λ fits. omega (arith, less, ap length (methods_more es e), length-append (methods_of es) (methods_of (e ∷ [])));
    }

-- ---- what a term adds, by its role

-- what a step gives adds these spans to what was listed
abbrev pub GivesMore : Result Listed LoadFault → Listed → List Span → Type 0
GivesMore r l spans = IfOk r (λ m. Adds l.entries m.entries spans)

-- a fault where a test holds, else a step
pub unless_adds : (b : Bool) (d : LoadFault) (r : Result Listed LoadFault) (l : Listed) (spans : List Span)
    → (b ≡ false → GivesMore r l spans)
    → GivesMore (cond b (Err d) r) l spans
unless_adds true d r l spans h = tt
unless_adds false d r l spans h = h refl

-- a step of which nothing is known, and another
pub after_adds : {A : Type 0} (r : Result A LoadFault) (f : A → Result Listed LoadFault) (l : Listed) (spans : List Span)
    → ((x : A) → GivesMore (f x) l spans) → GivesMore (r >>= f) l spans
after_adds (Ok x) f l spans h = h x
after_adds (Err e) f l spans h = tt

-- one step behind another
more_adds : (r : Result Listed LoadFault) (f : Listed → Result Listed LoadFault) (l : Listed) (xs ys : List Span)
    → GivesMore r l xs
    → ((k : Listed) → GivesMore (f k) k ys) → GivesMore (r >>= f) l (xs ++ ys)
more_adds (Ok k) f l xs ys h g = by (f k) (g k)
  where
    by : (r : Result Listed LoadFault) → GivesMore r k ys → GivesMore r l (xs ++ ys)
    by (Ok m) two = then_adds l.entries k.entries m.entries xs ys h two
    by (Err e) two = tt
more_adds (Err e) f l xs ys h g = tt

pub entry_adds : (site : Where) (l : Listed) (p : List Seg) (x : Entry) (spans : List Span)
    → Adds l.entries (l.entries ++ x ∷ []) spans
    → GivesMore (entry_at site l p x) l spans
unfolding entry_at
entry_adds site l p x spans h = unless_adds (not site.any_run && is_some (declared_at l.entries p)) _ _ l spans (λ free. h)

pub new_adds : (site : Where) (l : Listed) (n : Option Name) (x : List Seg → Entry) (spans : List Span)
    → ((p : List Seg) → Adds l.entries (l.entries ++ x p ∷ []) spans) → GivesMore (new_at site l n x) l spans
unfolding new_at
new_adds site l n x spans h = after_adds (place_at site n) _ l spans (λ p. entry_adds site l p (x p) spans (h p))

pub units_add : (site : Where) (l : Listed) (ns : List Name) → GivesMore (units_at site l ns) l []
unfolding units_at
units_add site l [] = nothing_more l.entries
units_add site l (n ∷ ns) =
    more_adds (new_at site l (Some n) (plain_entry site l.entries kinds.Field)) _ l [] []
    (new_adds site l (Some n) _ [] (λ p. plain_adds l.entries (plain_entry site l.entries kinds.Field p) refl)) (λ k. units_add site k ns)
