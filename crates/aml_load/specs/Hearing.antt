-- A stepping stone: what is heard of a table's terms, one piece after the other as they are told, and what they declare
-- by it (ACPI 6.5, 5.3 and 20.2.5), as `Declaring` and `Running` say it of the terms.
use Rattle.std.specs.Prelude.{ℕ, Bool, true, false, cond, ◌&&◌, List, [], ◌∷◌, ◌++◌, Option, Some, None, Result, Ok, drop}
use Rattle.std.specs.Option.{unwrap_or, option_map}
use Rattle.aml_names.specs.declared.names.Name.{Name}
use Rattle.aml_code.specs.Lawful.{unit_names}
use Rattle.aml_code.specs.Opcodes.{Row, row_of}
use Rattle.aml_code.specs.Pieces.{Told, absent, name, end_of_call, opcode, part, tail, list, end_of_list, field}
use Rattle.aml_code.specs.Tree.{Tree, nothing, named, op, Part, child, label, byte, Parts, no_parts, part_more}
use Rattle.aml_code.specs.Tree.{Tail, fields, Field, Fields, no_fields, field_more}
use Rattle.aml_code.specs.declared.rows.PartKind.{PartKind}
use Rattle.aml_code.specs.declared.rows.Role.{Role}
use Rattle.aml_code.specs.declared.rows.Role.TheVariants as roles
use Rattle.aml_code.specs.declared.rows.TailKind.{TailKind}
use Rattle.aml_code.specs.declared.rows.TailKind.TheVariants as tails
use Rattle.aml_load.specs.declared.ears.Shape.{Shape}
use Rattle.aml_load.specs.declared.ears.Shape.TheVariants as shapes
use Rattle.aml_load.specs.declared.faults.LoadFault.{LoadFault}
use Rattle.aml_load.specs.Declaring.{◌>>=◌, Listed, Use, use_of, is_argument, kinds_in, body_span}
use Rattle.aml_load.specs.Declaring.{method_at, alias_at, external_at, units_at}
use Rattle.aml_load.specs.Loading.{Where, declares_by, kind_of}
use Rattle.aml_load.specs.Running.{Front, in_block, listing, object_at, scope_at}

-- What was told so far of a term of a list: where it stands, whether it is a declaration, its shape and its role;
-- whether a part was told, and the first one, if that is a name; the last name and the last byte among the parts; and
-- the named units behind them.
pub record Head : Type 0 where
  pub site : Where
  pub declaring : Bool
  pub shape : Shape
  pub role : Role
  pub begun : Bool
  pub source : Option Name
  pub last : Option Name
  pub byte : Option ℕ
  pub units : List Name

-- What stands around a piece: a list of terms at a site; a term there whose code may run; the parts of such a term, or of
-- another opcode, of which these kinds are still to come; the arguments of a name; elements; the units of a term of a
-- list; or what declares nothing and asks nothing.
pub data Around : Type 0 where
  terms : Where → Around
  run : Where → Around
  head : List PartKind → Around
  inner : List PartKind → Around
  arguments : Around
  elements : Around
  units : Around
  nowhere : Around

-- What is listed, the term of a list that isn't told whole, and what stands around the next piece, the nearest first.
pub record Heard : Type 0 where
  pub listed : Listed
  pub term : Option Head
  pub around : List Around

-- ---- The head of a term.

-- whether terms stand inside
abbrev pub shape_by : Option TailKind → Shape
shape_by (Some tails.Terms) = shapes.Block
shape_by _ = shapes.Flat

abbrev pub head_of : Where → Option Row → Head
head_of site row = record {
  site = site;
  declaring = unwrap_or (option_map (λ (r : Row). declares_by r.group) row) false;
  shape = unwrap_or (option_map (λ (r : Row). shape_by r.tail) row) shapes.Flat;
  role = unwrap_or (option_map (λ (r : Row). r.role) row) roles.Other;
  begun = false;
  source = None;
  last = None;
  byte = None;
  units = [];
}

-- a name that is a term
abbrev pub call_at : Where → Head
call_at site = record (head_of site None) { shape = shapes.Call }

-- whether terms stand inside a term
abbrev pub shape_is_block : Shape → Bool
shape_is_block shapes.Block = true
shape_is_block _ = false

abbrev pub is_block : Option Head → Bool
is_block None = false
is_block (Some h) = shape_is_block h.shape

-- behind a part of a head
abbrev pub with_part : Part → Head → Head
with_part (label n) h = record h { begun = true; source = cond h.begun h.source (Some n); last = Some n }
with_part (byte b) h = record h { begun = true; byte = Some b }
with_part _ h = record h { begun = true }

-- behind the parts of a term
abbrev pub behind_head : Parts → Head → Head
behind_head no_parts h = h
behind_head (part_more p ps) h = behind_head ps (with_part p h)

-- behind what follows them: the units of a field list
abbrev pub with_units : Fields → Head → Head
with_units us h = record h { units = h.units ++ unit_names us }

abbrev pub with_tail : Tail → Head → Head
with_tail (fields us) h = with_units us h
with_tail _ h = h

-- the head of a term at a site
abbrev pub head_at : Where → Tree → Option Head
head_at w nothing = None
head_at w (named n ts) = Some (call_at w)
head_at w (op o width ps t) = Some (with_tail t (behind_head ps (head_of w (row_of o))))

-- what of a part is noted
abbrev pub noted : Part → Part
noted (label n) = label n
noted (byte b) = byte b
noted _ = child nothing

-- What a term does by its role, as `flat_at` and `enter_as` of `Running` say it of its parts, with the span of its body.
unfoldable pub flat_by : Role → Head → Where → Listed → ℕ × ℕ → Result Listed LoadFault
flat_by roles.Method h site l span = method_at site l h.last (unwrap_or h.byte 0) span
flat_by roles.Alias h site l span = alias_at site l h.source h.last
flat_by roles.External h site l span = external_at site l h.last (unwrap_or h.byte 0)
flat_by roles.Fields h site l span = units_at site l h.units
flat_by role h site l span = Ok l

unfoldable pub enters_as : Role → Head → Front → ℕ × ℕ → Result Front LoadFault
enters_as (roles.Declares o) h f span = object_at f h.last (kind_of o)
enters_as roles.Scope h f span = scope_at f h.last
enters_as roles.Guard h f span = Ok (in_block f)
enters_as roles.Other h f span = Ok (in_block f)
enters_as role h f span = listing f (flat_by role h f.site f.listed span)

-- a name that is a term does nothing
unfoldable pub enters_by : Shape → Head → Front → ℕ × ℕ → Result Front LoadFault
enters_by shapes.Call h f span = Ok f
enters_by _ h f span = enters_as h.role h f span

unfoldable pub head_enters : Option Head → Front → ℕ × ℕ → Result Front LoadFault
head_enters None f span = Ok f
head_enters (Some h) f span = enters_by h.shape h f span

-- the same of a term at its site
abbrev pub enter : Head → Listed → ℕ × ℕ → Result Front LoadFault
enter h l span = head_enters (Some h) (record { listed = l; site = h.site }) span

-- ---- What stands around.

-- whether names there are asked, and whether a name there is a TermArg
abbrev pub asks_of : List PartKind → Option Bool
asks_of [] = None
asks_of (k ∷ ks) = Some (is_argument k)

abbrev pub asks : Around → Option Bool
asks (terms site) = None
asks (run site) = None
asks (head ks) = asks_of ks
asks (inner ks) = asks_of ks
asks arguments = Some true
asks elements = Some false
asks units = Some false
asks nowhere = None

-- inside what is asked, and inside what isn't
abbrev pub inside : Around → Around → Around
inside a new = unwrap_or (option_map (λ (b : Bool). new) (asks a)) nowhere

-- whether the parts of a term of a list stand there
abbrev pub is_head : Around → Bool
is_head (head ks) = true
is_head _ = false

-- behind a part, an argument, an element or a term
abbrev pub passed : Around → Around
passed (head ks) = head (drop 1 ks)
passed (inner ks) = inner (drop 1 ks)
passed a = a

abbrev pub top : List Around → Around
top [] = nowhere
top (a ∷ outer) = a

abbrev pub all_passed : List Around → List Around
all_passed [] = []
all_passed (a ∷ outer) = passed a ∷ outer

-- behind a part, which may be one of a head
abbrev pub noted_by : Around → Part → Option Head → Option Head
noted_by (head ks) p h = option_map (with_part p) h
noted_by _ p h = h

abbrev pub behind_part : Part → Heard → Heard
behind_part p x = record x { term = noted_by (top x.around) p x.term; around = all_passed x.around }

-- behind a term
abbrev pub behind_term : Heard → Heard
behind_term x = behind_part (child nothing) x

-- without what stands nearest
abbrev pub left : Heard → Heard
left x = record x { around = drop 1 x.around }

abbrev pub opening : Around → Heard → Heard
opening a x = record x { around = a ∷ x.around }

-- ---- The pieces.

-- these names more
abbrev pub with_more : Listed → List Use → Listed
with_more l us = record { entries = l.entries; uses = l.uses ++ us }

-- a name that is a TermArg is asked
abbrev pub asked_by : Option Head → Option Bool → Name → ℕ → Heard → Heard
asked_by (Some h) (Some true) n count x =
    record x { listed = with_more x.listed (use_of h.site h.declaring n count ∷ []) }
asked_by _ _ n count x = x

-- a name, by what stands around it
abbrev pub named_by : Around → Name → ℕ → Heard → Heard
named_by (run site) n count x = record {
  listed = with_more x.listed (use_of site false n count ∷ []);
  term = Some (call_at site);
  around = arguments ∷ x.around;
}
named_by a n count x = opening (inside a arguments) (asked_by x.term (asks a) n count x)

-- an opcode, by what stands around it
abbrev pub opened_by : Around → ℕ → Option Row → Heard → Heard
opened_by (terms site) o row x =
    record { listed = x.listed; term = Some (head_of site row); around = head (kinds_in o) ∷ x.around }
opened_by (run site) o row x =
    record { listed = x.listed; term = Some (head_of site row); around = head (kinds_in o) ∷ x.around }
opened_by a o row x = opening (inside a (inner (kinds_in o))) x

-- what a term of a list does, whose terms inside it declare nothing
abbrev pub done_by : Option Head → ℕ × ℕ → Heard → Result Heard LoadFault
done_by None span x = Ok x
done_by (Some h) span x = do
  f ← enter h x.listed span
  Ok (record x { listed = f.listed; term = None })

-- behind the tail of an opcode
abbrev pub closed : Heard → Heard
closed x = behind_term (left x)

-- the same, where a term of a list does then what it does, if it is to
abbrev pub closed_by : Bool → Around → ℕ × ℕ → Heard → Result Heard LoadFault
closed_by does (head ks) span x = do
  y ← cond does (done_by x.term span x) (Ok x)
  Ok (closed y)
closed_by does a span x = Ok (closed x)

-- the terms inside a term
abbrev pub inside_by : Option Head → Heard → Result Heard LoadFault
inside_by None x = Ok (opening nowhere x)
inside_by (Some h) x = do
  f ← enter h x.listed (0, 0)
  Ok (record { listed = f.listed; term = None; around = terms f.site ∷ x.around })

-- a list, by the opcode around it: the terms of a term of a list; or others
abbrev pub is_own_terms : Around → TailKind → Bool
is_own_terms (head ks) tails.Terms = true
is_own_terms _ k = false

abbrev pub list_in : Around → TailKind → Around
list_in (head ks) tails.Fields = units
list_in (head ks) tails.Elements = elements
list_in (inner ks) tails.Fields = elements
list_in (inner ks) tails.Elements = elements
list_in _ k = nowhere

abbrev pub list_by : Bool → Around → TailKind → Heard → Result Heard LoadFault
list_by does a k x = cond (is_own_terms a k && does) (inside_by x.term x) (Ok (opening (list_in a k) x))

-- an element of a field list
abbrev pub with_unit : Field → Head → Head
with_unit u h = record h { units = h.units ++ unit_names (field_more u no_fields) }

abbrev pub unit_by : Around → Field → Heard → Heard
unit_by units u x = record x { term = option_map (with_unit u) x.term }
unit_by a u x = x

-- what is heard behind a piece, where no term does anything
abbrev pub catch : Told → Heard → Heard
catch absent x = behind_term x
catch (name n count) x = named_by (top x.around) n count x
catch (end_of_call count) x = closed x
catch (opcode o row w count) x = opened_by (top x.around) o row x
catch (part p) x = behind_part (noted p) x
catch (tail t) x = closed x
catch (list k) x = opening (list_in (top x.around) k) x
catch (end_of_list k level) x = closed (left x)
catch (field u) x = unit_by (top x.around) u x
catch _ x = x

-- The same where each term of a list does what it does, if it is to: behind its tail, or in front of the terms inside it.
-- The fault is the one at which the load stops.
abbrev pub hear : Bool → Told → Heard → Result Heard LoadFault
hear does (tail t) x = closed_by does (top x.around) (body_span t) x
hear does (list k) x = list_by does (top x.around) k x
hear does (end_of_list k level) x = closed_by does (top (drop 1 x.around)) (0, 0) (left x)
hear does p x = Ok (catch p x)

-- pieces, one after the other
abbrev pub catch_all : List Told → Heard → Heard
catch_all [] x = x
catch_all (p ∷ ps) x = catch_all ps (catch p x)

abbrev pub hear_all : Bool → List Told → Heard → Result Heard LoadFault
hear_all does [] x = Ok x
hear_all does (p ∷ ps) x = do
  y ← hear does p x
  hear_all does ps y

-- what is heard behind the terms of a list, by what they declare
abbrev pub behind_terms : Where → List Around → Result Front LoadFault → Result Heard LoadFault
behind_terms site outer declared = do
  f ← declared
  Ok (record { listed = f.listed; term = None; around = terms site ∷ outer })
