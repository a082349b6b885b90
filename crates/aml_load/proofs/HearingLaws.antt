-- What pieces declare is what their terms declare.
use Rattle.std.proofs.Common.{◌≡◌, ℕ, Bool, true, false, cond, List, [], ◌∷◌, ◌++◌, ◌&&◌, Option, Some, None}
use Rattle.std.proofs.Common.{option_map, Result, Ok, Err, refl, sym, ap, ◌∙◌, drop, unwrap_or, append_assoc}
use Rattle.std.proofs.lemmas.List.{append-nil}
use Rattle.aml_code.specs.Lawful.{last_label, last_byte, unit_names}
use Rattle.aml_load.specs.Loading.{Where}
use Rattle.aml_load.specs.Declaring.{method_at, alias_at, external_at, units_at}
unfoldable use Rattle.aml_load.specs.Loading.{role_of}
use Rattle.aml_code.specs.Lawful.{field_names}
use Rattle.aml_code.specs.declared.rows.Role.{Role}
use Rattle.aml_code.specs.declared.rows.Role.TheVariants as roles
use Rattle.aml_names.specs.declared.names.Name.{Name}
use Rattle.aml_code.specs.declared.rows.PartKind.{PartKind}
use Rattle.aml_code.specs.declared.rows.TailKind.TheVariants as tails
use Rattle.aml_code.specs.Opcodes.{Row, row_of}
use Rattle.aml_code.specs.Pieces.{Told, name, end_of_call, end_of_parts, end_of_list, end_of_line, end_of_link, deeper}
use Rattle.aml_code.specs.Pieces.{part_count, pieces, items, more_items, part_pieces, parts_pieces, more_parts}
use Rattle.aml_code.specs.Pieces.{tail_pieces, line_pieces, fields_pieces, field_pieces}
use Rattle.aml_code.specs.Tree.{Tree, nothing, named, op, Trees, no_trees, tree_more, tree_count, Part, child, label}
use Rattle.aml_code.specs.Tree.{byte, word, dword, qword, text, Parts, no_parts, part_more, Tail, empty, terms, bytes}
use Rattle.aml_code.specs.Tree.{elements, fields, body, Field, unit, reserved, access, connection, extended, Fields}
use Rattle.aml_code.specs.Tree.{no_fields, field_more, target, buffer}
use Rattle.aml_load.specs.declared.faults.LoadFault.{LoadFault}
use Rattle.aml_load.specs.Declaring.{◌>>=◌, Listed, Use, use_of, uses_in, all_uses, parts_uses, part_uses, tail_uses}
use Rattle.aml_load.specs.Declaring.{fields_uses, field_uses, kinds_in, is_argument, term_uses}
use Rattle.aml_load.specs.Hearing.{Head, Around, Heard, asks, inside, top}
use Rattle.aml_load.specs.Hearing.{behind_head, with_units, with_tail, head_at}
use Rattle.aml_load.specs.Hearing.{behind_term, catch, catch_all, closed, closed_by, left, opening, with_more, named_by, opened_by, hear, hear_all}
use Rattle.aml_load.specs.declared.ears.Shape.{Shape}
use Rattle.aml_load.specs.declared.ears.Shape.TheVariants as shapes
use Rattle.aml_load.specs.Hearing as around
use Rattle.aml_load.specs.HearerLaws.{after}
use Rattle.aml_code.specs.Pieces as told
use Rattle.aml_code.specs.declared.packages.PkgWidth.{PkgWidth}
use Rattle.aml_code.specs.declared.rows.TailKind.{TailKind}
use Rattle.aml_load.specs.Opening.{tail_of}
use Rattle.aml_load.specs.Running as run
use Rattle.aml_load.specs.Runner.{span_inside}
use Rattle.aml_parse.specs.Running.{has_terms}
use Rattle.std.proofs.Common.{rules, subst}
use Rattle.std.specs.Prelude.{IfOk}
use Rattle.aml_load.specs.Declaring.{first_label, body_span}
use Rattle.aml_load.specs.Loading.{declares_by, kind_of}
unfoldable use Rattle.aml_load.specs.Hearing.{flat_by, enters_as, enters_by, head_enters}
use Rattle.aml_load.specs.Hearing.{enter, behind_terms}
unfoldable use Rattle.aml_load.specs.Running.{flat_at, entered_at, behind_inside, behind_tree, behind_trees}
use Rattle.aml_load.specs.Running.{Front, listing, object_at, scope_at}
use Rattle.aml_load.specs.Runner.{front_at}

-- ---- pieces one after the other

-- pieces that are heard, and others
heard_on : (does : Bool) (ps qs : List Told) (x y : Heard) → hear_all does ps x ≡ Ok y → hear_all does (ps ++ qs) x ≡ hear_all does qs y
heard_on does ps qs x y e = after does ps qs x ∙ ap (λ (r : Result Heard LoadFault). r >>= λ y. hear_all does qs y) e

abbrev the_front : Front → Result Front LoadFault
the_front f = Ok f

abbrev heard : Listed → Option Head → List Around → Heard
heard l h outer = record { listed = l; term = h; around = outer }

-- ---- what is nowhere declares nothing and asks nothing

module _ (does : Bool) (l : Listed) (h : Option Head) where
  abbrev still : List Around → Heard
  still outer = heard l h (around.nowhere ∷ outer)

  mutual
    nothing_heard : (level : ℕ) (t : Tree) (outer : List Around) → hear_all does (pieces level t) (still outer) ≡ Ok (still outer)
    nothing_heard level nothing outer = by h
      where
        by : (h : Option Head) → hear_all does (pieces level nothing) (heard l h (around.nowhere ∷ outer)) ≡ Ok (heard l h (around.nowhere ∷ outer))
        by None = refl
        by (Some x) = refl
    nothing_heard level (named n ts) outer = by h (heard_on does (items level ts) (end_of_call (tree_count ts) ∷ []) (still (around.nowhere ∷ outer)) (still (around.nowhere ∷ outer)) (items_nowhere level ts (around.nowhere ∷ outer)))
      where
        by : (h : Option Head) → hear_all does (items level ts ++ end_of_call (tree_count ts) ∷ []) (heard l h (around.nowhere ∷ around.nowhere ∷ outer))
            ≡ Ok (heard l h (around.nowhere ∷ outer))
            → hear_all does (pieces level (named n ts)) (heard l h (around.nowhere ∷ outer)) ≡ Ok (heard l h (around.nowhere ∷ outer))
        by None e = e
        by (Some x) e = e
    nothing_heard level (op o w ps t) outer =
        heard_on does (parts_pieces level ps) (end_of_parts (row_of o) (part_count ps) ∷ tail_pieces level t) (still (around.nowhere ∷ outer)) (still (around.nowhere ∷ outer)) (parts_nowhere level ps (around.nowhere ∷ outer))
        ∙ tail_nowhere level t (around.nowhere ∷ outer)

    items_nowhere : (level : ℕ) (ts : Trees) (outer : List Around) → hear_all does (items level ts) (still outer) ≡ Ok (still outer)
    items_nowhere level no_trees outer = refl
    items_nowhere level (tree_more t ts) outer =
        heard_on does (pieces level t) (more_items level ts) (still outer) (still outer) (nothing_heard level t outer) ∙ more_nowhere level ts outer

    more_nowhere : (level : ℕ) (ts : Trees) (outer : List Around) → hear_all does (more_items level ts) (still outer) ≡ Ok (still outer)
    more_nowhere level no_trees outer = refl
    more_nowhere level (tree_more t ts) outer =
        heard_on does (pieces level t) (more_items level ts) (still outer) (still outer) (nothing_heard level t outer) ∙ more_nowhere level ts outer

    part_nowhere : (level : ℕ) (p : Part) (outer : List Around) → hear_all does (part_pieces level p) (still outer) ≡ Ok (still outer)
    part_nowhere level (child t) outer = nothing_heard level t outer
    part_nowhere level (label n) outer = refl
    part_nowhere level (byte b) outer = refl
    part_nowhere level (word b) outer = refl
    part_nowhere level (dword b) outer = refl
    part_nowhere level (qword b) outer = refl
    part_nowhere level (text s) outer = refl

    parts_nowhere : (level : ℕ) (ps : Parts) (outer : List Around) → hear_all does (parts_pieces level ps) (still outer) ≡ Ok (still outer)
    parts_nowhere level no_parts outer = refl
    parts_nowhere level (part_more p ps) outer =
        heard_on does (part_pieces level p) (more_parts level ps) (still outer) (still outer) (part_nowhere level p outer) ∙ rest_nowhere level ps outer

    rest_nowhere : (level : ℕ) (ps : Parts) (outer : List Around) → hear_all does (more_parts level ps) (still outer) ≡ Ok (still outer)
    rest_nowhere level no_parts outer = refl
    rest_nowhere level (part_more p ps) outer =
        heard_on does (part_pieces level p) (more_parts level ps) (still outer) (still outer) (part_nowhere level p outer) ∙ rest_nowhere level ps outer

    -- behind the tail what was opened is left
    tail_nowhere : (level : ℕ) (t : Tail) (outer : List Around)
        → hear_all does (tail_pieces level t) (still outer) ≡ Ok (behind_term (heard l h outer))
    tail_nowhere level empty outer = refl
    tail_nowhere level (bytes xs) outer = refl
    tail_nowhere level (body start len) outer = refl
    tail_nowhere level (terms ts) outer =
        let x = still (around.nowhere ∷ outer) in
        heard_on does (line_pieces (deeper level) ts) (end_of_list tails.Terms level ∷ []) x x (lines_nowhere (deeper level) ts (around.nowhere ∷ outer))
    tail_nowhere level (elements ts) outer =
        let x = still (around.nowhere ∷ outer) in
        heard_on does (items level ts) (end_of_list tails.Elements level ∷ []) x x (items_nowhere level ts (around.nowhere ∷ outer))
    tail_nowhere level (fields us) outer =
        let x = still (around.nowhere ∷ outer) in
        heard_on does (fields_pieces (deeper level) us) (end_of_list tails.Fields level ∷ []) x x (fields_nowhere (deeper level) us (around.nowhere ∷ outer))

    lines_nowhere : (level : ℕ) (ts : Trees) (outer : List Around) → hear_all does (line_pieces level ts) (still outer) ≡ Ok (still outer)
    lines_nowhere level no_trees outer = refl
    lines_nowhere level (tree_more t ts) outer =
        heard_on does (pieces level t) (end_of_line ∷ line_pieces level ts) (still outer) (still outer) (nothing_heard level t outer) ∙ lines_nowhere level ts outer

    fields_nowhere : (level : ℕ) (us : Fields) (outer : List Around) → hear_all does (fields_pieces level us) (still outer) ≡ Ok (still outer)
    fields_nowhere level no_fields outer = refl
    fields_nowhere level (field_more u us) outer =
        heard_on does (field_pieces level u) (end_of_line ∷ fields_pieces level us) (still outer) (still outer) (field_nowhere level u outer) ∙ fields_nowhere level us outer

    field_nowhere : (level : ℕ) (u : Field) (outer : List Around) → hear_all does (field_pieces level u) (still outer) ≡ Ok (still outer)
    field_nowhere level (unit s w n) outer = refl
    field_nowhere level (reserved w n) outer = refl
    field_nowhere level (access a b) outer = refl
    field_nowhere level (extended a b c) outer = refl
    field_nowhere level (connection (target n)) outer = refl
    field_nowhere level (connection (buffer t)) outer =
        heard_on does (pieces level t) (end_of_link ∷ []) (still outer) (still outer) (nothing_heard level t outer)

-- ---- names more

pub more_none : (l : Listed) → with_more l [] ≡ l
more_none l = λ i. record { entries = l.entries; uses = append-nil l.uses i }

more_more : (l : Listed) (us vs : List Use) → with_more (with_more l us) vs ≡ with_more l (us ++ vs)
more_more l us vs = λ i. record { entries = l.entries; uses = append_assoc l.uses us vs i }

-- ---- where names aren't asked

-- what stands there is passed over
unasked : (does : Bool) (l : Listed) (h : Option Head) (b : Around) (outer : List Around)
    → ((n : Name) (count : ℕ) → hear does (name n count) (heard l h (b ∷ outer)) ≡ Ok (heard l h (around.nowhere ∷ b ∷ outer)))
    → ((o : ℕ) (row : Option Row) → opened_by b o row (heard l h (b ∷ outer)) ≡ heard l h (around.nowhere ∷ b ∷ outer))
    → (level : ℕ) (t : Tree) → hear_all does (pieces level t) (heard l h (b ∷ outer)) ≡ Ok (behind_term (heard l h (b ∷ outer)))
unasked does l h b outer of_name of_row level nothing = refl
unasked does l h b outer of_name of_row level (named n ts) =
    let x = heard l h (around.nowhere ∷ b ∷ outer) in
    let rest = items level ts ++ end_of_call (tree_count ts) ∷ [] in
    ap (λ (r : Result Heard LoadFault). r >>= λ y. hear_all does rest y) (of_name n (tree_count ts))
    ∙ heard_on does (items level ts) (end_of_call (tree_count ts) ∷ []) x x (items_nowhere does l h level ts (b ∷ outer))
unasked does l h b outer of_name of_row level (op o w ps t) =
    let x = heard l h (around.nowhere ∷ b ∷ outer) in
    let rest = end_of_parts (row_of o) (part_count ps) ∷ tail_pieces level t in
    ap (λ (y : Heard). hear_all does (parts_pieces level ps ++ rest) y) (of_row o (row_of o))
    ∙ heard_on does (parts_pieces level ps) rest x x (parts_nowhere does l h level ps (b ∷ outer))
    ∙ tail_nowhere does l h level t (b ∷ outer)

unasked_inner : (does : Bool) (l : Listed) (h : Head) (outer : List Around) (level : ℕ) (t : Tree)
    → hear_all does (pieces level t) (heard l (Some h) (around.inner [] ∷ outer)) ≡ Ok (heard l (Some h) (around.inner [] ∷ outer))
unasked_inner does l h outer level t = unasked does l (Some h) (around.inner []) outer (λ n c. refl) (λ o row. refl) level t

unasked_head : (does : Bool) (l : Listed) (h : Head) (outer : List Around) (level : ℕ) (t : Tree)
    → hear_all does (pieces level t) (heard l (Some h) (around.head [] ∷ outer)) ≡ Ok (heard l (Some (around.with_part (child nothing) h)) (around.head [] ∷ outer))
unasked_head does l h outer level t = unasked does l (Some h) (around.head []) outer (λ n c. refl) (λ o row. refl) level t

-- ---- where names are asked

abbrev asker : Head → Name → ℕ → Use
asker h = use_of h.site h.declaring

opened_asked : (b : Around) (k : Bool) (o : ℕ) (row : Option Row) (x : Heard) → asks b ≡ Some k
    → opened_by b o row x ≡ opening (around.inner (kinds_in o)) x
opened_asked (around.terms w) k o row x e = absurd cc
opened_asked (around.run w) k o row x e = absurd cc
opened_asked (around.head []) k o row x e = absurd cc
opened_asked (around.head (p ∷ ps)) k o row x e = refl
opened_asked (around.inner []) k o row x e = absurd cc
opened_asked (around.inner (p ∷ ps)) k o row x e = refl
opened_asked around.arguments k o row x e = refl
opened_asked around.elements k o row x e = refl
opened_asked around.units k o row x e = refl
opened_asked around.nowhere k o row x e = absurd cc

asked_asked : (h : Head) (k : Bool) (n : Name) (count : ℕ) (l : Listed) (outer : List Around)
    → around.asked_by (Some h) (Some k) n count (heard l (Some h) outer)
    ≡ heard (with_more l (cond k (asker h n count ∷ []) [])) (Some h) outer
asked_asked h true n count l outer = refl
asked_asked h false n count l outer = ap (λ (m : Listed). heard m (Some h) outer) (sym (more_none l))

named_asked : (h : Head) (b : Around) (k : Bool) (n : Name) (count : ℕ) (l : Listed) (outer : List Around) → asks b ≡ Some k
    → named_by b n count (heard l (Some h) outer)
    ≡ opening around.arguments (heard (with_more l (cond k (asker h n count ∷ []) [])) (Some h) outer)
named_asked h b k n count l outer = by b
  where
    in_there : Option Bool → Heard
    in_there o = opening (unwrap_or (option_map (λ (c : Bool). around.arguments) o) around.nowhere) (around.asked_by (Some h) o n count (heard l (Some h) outer))

    is : (o : Option Bool) → o ≡ Some k
        → in_there o ≡ opening around.arguments (heard (with_more l (cond k (asker h n count ∷ []) [])) (Some h) outer)
    is o e = ap in_there e ∙ ap (opening around.arguments) (asked_asked h k n count l outer)

    by : (b : Around) → asks b ≡ Some k → named_by b n count (heard l (Some h) outer)
        ≡ opening around.arguments (heard (with_more l (cond k (asker h n count ∷ []) [])) (Some h) outer)
    by (around.terms w) e = absurd cc
    by (around.run w) e = absurd cc
    by (around.head ps) e = is (asks (around.head ps)) e
    by (around.inner ps) e = is (asks (around.inner ps)) e
    by around.arguments e = is (asks around.arguments) e
    by around.elements e = is (asks around.elements) e
    by around.units e = is (asks around.units) e
    by around.nowhere e = absurd cc

-- parts of an opcode whose row has no more kinds
abbrev past : Listed → Head → List Around → Heard
past l h outer = heard l (Some h) (around.inner [] ∷ outer)

module _ (does : Bool) (l : Listed) (h : Head) (outer : List Around) where
  past_part : (level : ℕ) (p : Part) → hear_all does (part_pieces level p) (past l h outer) ≡ Ok (past l h outer)
  past_part level (child t) = unasked_inner does l h outer level t
  past_part level (label n) = refl
  past_part level (byte n) = refl
  past_part level (word n) = refl
  past_part level (dword n) = refl
  past_part level (qword n) = refl
  past_part level (text n) = refl

  past_more : (level : ℕ) (ps : Parts) → hear_all does (more_parts level ps) (past l h outer) ≡ Ok (past l h outer)
  past_more level no_parts = refl
  past_more level (part_more p ps) =
      heard_on does (part_pieces level p) (more_parts level ps) (past l h outer) (past l h outer) (past_part level p) ∙ past_more level ps

-- the kinds of the parts behind some parts
abbrev behind_parts : Parts → List PartKind → List PartKind
behind_parts no_parts ks = ks
behind_parts (part_more p ps) ks = behind_parts ps (drop 1 ks)

none_behind : (ps : Parts) → behind_parts ps [] ≡ []
none_behind no_parts = refl
none_behind (part_more p ps) = none_behind ps

-- with a head; and behind a term, with its names
abbrev standing : Head → Listed → List Around → Heard
standing h l outer = heard l (Some h) outer

abbrev behind : Head → Listed → List Use → List Around → Heard
behind h l us outer = behind_term (heard (with_more l us) (Some h) outer)

module _ (does : Bool) (h : Head) where
  mutual
    quiet : (level : ℕ) (t : Tree) (l : Listed) (b : Around) (k : Bool) (outer : List Around) → asks b ≡ Some k
        → hear_all does (pieces level t) (standing h l (b ∷ outer)) ≡ Ok (behind h l (uses_in (asker h) k t) (b ∷ outer))
    quiet level nothing l b k outer e = ap (λ (m : Listed). Ok (behind_term (standing h m (b ∷ outer)))) (sym (more_none l))
    quiet level (named n ts) l b k outer e =
        let own = cond k (asker h n (tree_count ts) ∷ []) [] in
        let m = with_more l own in
        let rest = items level ts ++ end_of_call (tree_count ts) ∷ [] in
        ap (λ (x : Heard). hear_all does rest x) (named_asked h b k n (tree_count ts) l (b ∷ outer) e)
        ∙ heard_on does (items level ts) (end_of_call (tree_count ts) ∷ []) (standing h m (around.arguments ∷ b ∷ outer))
        (standing h (with_more m (all_uses (asker h) true ts)) (around.arguments ∷ b ∷ outer))
        (items_asked level ts m around.arguments true (b ∷ outer) refl (λ x. refl))
        ∙ ap (λ (x : Listed). Ok (behind_term (standing h x (b ∷ outer)))) (more_more l own (all_uses (asker h) true ts))
    quiet level (op o w ps t) l b k outer e =
        let ks = kinds_in o in
        let us = parts_uses (asker h) ks ps in
        let m = with_more l us in
        let rest = end_of_parts (row_of o) (part_count ps) ∷ tail_pieces level t in
        ap (λ (y : Heard). hear_all does (parts_pieces level ps ++ rest) y) (opened_asked b k o (row_of o) (standing h l (b ∷ outer)) e)
        ∙ heard_on does (parts_pieces level ps) rest (standing h l (around.inner ks ∷ b ∷ outer)) (standing h m (around.inner (behind_parts ps ks) ∷ b ∷ outer))
        (parts_asked level ps l ks (b ∷ outer))
        ∙ tail_asked level t m (behind_parts ps ks) (b ∷ outer)
        ∙ ap (λ (x : Listed). Ok (behind_term (standing h x (b ∷ outer)))) (more_more l us (tail_uses (asker h) t))

    -- arguments, or elements
    items_asked : (level : ℕ) (ts : Trees) (l : Listed) (c : Around) (k : Bool) (outer : List Around) → asks c ≡ Some k
        → ((m : Listed) → behind_term (standing h m (c ∷ outer)) ≡ standing h m (c ∷ outer))
        → hear_all does (items level ts) (standing h l (c ∷ outer)) ≡ Ok (standing h (with_more l (all_uses (asker h) k ts)) (c ∷ outer))
    items_asked level no_trees l c k outer e same = ap (λ (m : Listed). Ok (standing h m (c ∷ outer))) (sym (more_none l))
    items_asked level (tree_more t ts) l c k outer e same =
        let m = with_more l (uses_in (asker h) k t) in
        heard_on does (pieces level t) (more_items level ts) (standing h l (c ∷ outer)) (behind_term (standing h m (c ∷ outer))) (quiet level t l c k outer e)
        ∙ ap (λ (y : Heard). hear_all does (more_items level ts) y) (same m)
        ∙ more_asked level ts m c k outer e same
        ∙ ap (λ (x : Listed). Ok (standing h x (c ∷ outer))) (more_more l (uses_in (asker h) k t) (all_uses (asker h) k ts))

    more_asked : (level : ℕ) (ts : Trees) (l : Listed) (c : Around) (k : Bool) (outer : List Around) → asks c ≡ Some k
        → ((m : Listed) → behind_term (standing h m (c ∷ outer)) ≡ standing h m (c ∷ outer))
        → hear_all does (more_items level ts) (standing h l (c ∷ outer)) ≡ Ok (standing h (with_more l (all_uses (asker h) k ts)) (c ∷ outer))
    more_asked level no_trees l c k outer e same = ap (λ (m : Listed). Ok (standing h m (c ∷ outer))) (sym (more_none l))
    more_asked level (tree_more t ts) l c k outer e same =
        let m = with_more l (uses_in (asker h) k t) in
        heard_on does (pieces level t) (more_items level ts) (standing h l (c ∷ outer)) (behind_term (standing h m (c ∷ outer))) (quiet level t l c k outer e)
        ∙ ap (λ (y : Heard). hear_all does (more_items level ts) y) (same m)
        ∙ more_asked level ts m c k outer e same
        ∙ ap (λ (x : Listed). Ok (standing h x (c ∷ outer))) (more_more l (uses_in (asker h) k t) (all_uses (asker h) k ts))

    part_asked : (level : ℕ) (p : Part) (l : Listed) (k : PartKind) (ks : List PartKind) (outer : List Around)
        → hear_all does (part_pieces level p) (standing h l (around.inner (k ∷ ks) ∷ outer))
        ≡ Ok (standing h (with_more l (part_uses (asker h) (is_argument k) p)) (around.inner ks ∷ outer))
    part_asked level (child t) l k ks outer = quiet level t l (around.inner (k ∷ ks)) (is_argument k) outer refl
    part_asked level (label n) l k ks outer = ap (λ (m : Listed). Ok (standing h m (around.inner ks ∷ outer))) (sym (more_none l))
    part_asked level (byte n) l k ks outer = ap (λ (m : Listed). Ok (standing h m (around.inner ks ∷ outer))) (sym (more_none l))
    part_asked level (word n) l k ks outer = ap (λ (m : Listed). Ok (standing h m (around.inner ks ∷ outer))) (sym (more_none l))
    part_asked level (dword n) l k ks outer = ap (λ (m : Listed). Ok (standing h m (around.inner ks ∷ outer))) (sym (more_none l))
    part_asked level (qword n) l k ks outer = ap (λ (m : Listed). Ok (standing h m (around.inner ks ∷ outer))) (sym (more_none l))
    part_asked level (text n) l k ks outer = ap (λ (m : Listed). Ok (standing h m (around.inner ks ∷ outer))) (sym (more_none l))

    more_parts_asked : (level : ℕ) (ps : Parts) (l : Listed) (ks : List PartKind) (outer : List Around)
        → hear_all does (more_parts level ps) (standing h l (around.inner ks ∷ outer))
        ≡ Ok (standing h (with_more l (parts_uses (asker h) ks ps)) (around.inner (behind_parts ps ks) ∷ outer))
    more_parts_asked level ps l [] outer = past_more does l h outer level ps
        ∙ sym (λ i. Ok (standing h (more_none l i) (around.inner (none_behind ps i) ∷ outer)))
    more_parts_asked level no_parts l (k ∷ ks) outer =
        ap (λ (m : Listed). Ok (standing h m (around.inner (k ∷ ks) ∷ outer))) (sym (more_none l))
    more_parts_asked level (part_more p ps) l (k ∷ ks) outer =
        let us = part_uses (asker h) (is_argument k) p in
        heard_on does (part_pieces level p) (more_parts level ps) (standing h l (around.inner (k ∷ ks) ∷ outer)) (standing h (with_more l us) (around.inner ks ∷ outer))
        (part_asked level p l k ks outer)
        ∙ more_parts_asked level ps (with_more l us) ks outer
        ∙ ap (λ (x : Listed). Ok (standing h x (around.inner (behind_parts ps ks) ∷ outer))) (more_more l us (parts_uses (asker h) ks ps))

    parts_asked : (level : ℕ) (ps : Parts) (l : Listed) (ks : List PartKind) (outer : List Around)
        → hear_all does (parts_pieces level ps) (standing h l (around.inner ks ∷ outer))
        ≡ Ok (standing h (with_more l (parts_uses (asker h) ks ps)) (around.inner (behind_parts ps ks) ∷ outer))
    parts_asked level no_parts l [] outer = ap (λ (m : Listed). Ok (standing h m (around.inner [] ∷ outer))) (sym (more_none l))
    parts_asked level no_parts l (k ∷ ks) outer =
        ap (λ (m : Listed). Ok (standing h m (around.inner (k ∷ ks) ∷ outer))) (sym (more_none l))
    parts_asked level (part_more p ps) l [] outer =
        heard_on does (part_pieces level p) (more_parts level ps) (past l h outer) (past l h outer) (past_part does l h outer level p)
        ∙ more_parts_asked level ps l [] outer
    parts_asked level (part_more p ps) l (k ∷ ks) outer =
        let us = part_uses (asker h) (is_argument k) p in
        heard_on does (part_pieces level p) (more_parts level ps) (standing h l (around.inner (k ∷ ks) ∷ outer)) (standing h (with_more l us) (around.inner ks ∷ outer))
        (part_asked level p l k ks outer)
        ∙ more_parts_asked level ps (with_more l us) ks outer
        ∙ ap (λ (x : Listed). Ok (standing h x (around.inner (behind_parts ps ks) ∷ outer))) (more_more l us (parts_uses (asker h) ks ps))

    tail_asked : (level : ℕ) (t : Tail) (l : Listed) (ks : List PartKind) (outer : List Around)
        → hear_all does (tail_pieces level t) (standing h l (around.inner ks ∷ outer)) ≡ Ok (behind h l (tail_uses (asker h) t) outer)
    tail_asked level empty l ks outer = ap (λ (m : Listed). Ok (behind_term (standing h m outer))) (sym (more_none l))
    tail_asked level (bytes xs) l ks outer = ap (λ (m : Listed). Ok (behind_term (standing h m outer))) (sym (more_none l))
    tail_asked level (body start len) l ks outer = ap (λ (m : Listed). Ok (behind_term (standing h m outer))) (sym (more_none l))
    tail_asked level (terms ts) l ks outer =
        let x = standing h l (around.nowhere ∷ around.inner ks ∷ outer) in
        heard_on does (line_pieces (deeper level) ts) (end_of_list tails.Terms level ∷ []) x x (lines_nowhere does l (Some h) (deeper level) ts (around.inner ks ∷ outer))
        ∙ ap (λ (m : Listed). Ok (behind_term (standing h m outer))) (sym (more_none l))
    tail_asked level (elements ts) l ks outer =
        let front = around.elements ∷ around.inner ks ∷ outer in
        heard_on does (items level ts) (end_of_list tails.Elements level ∷ []) (standing h l front) (standing h (with_more l (all_uses (asker h) false ts)) front)
        (items_asked level ts l around.elements false (around.inner ks ∷ outer) refl (λ x. refl))
    tail_asked level (fields us) l ks outer =
        let front = around.elements ∷ around.inner ks ∷ outer in
        heard_on does (fields_pieces (deeper level) us) (end_of_list tails.Fields level ∷ []) (standing h l front) (standing h (with_more l (fields_uses (asker h) us)) front)
        (fields_asked (deeper level) us l (around.inner ks ∷ outer))

    fields_asked : (level : ℕ) (us : Fields) (l : Listed) (outer : List Around)
        → hear_all does (fields_pieces level us) (standing h l (around.elements ∷ outer))
        ≡ Ok (standing h (with_more l (fields_uses (asker h) us)) (around.elements ∷ outer))
    fields_asked level no_fields l outer = ap (λ (m : Listed). Ok (standing h m (around.elements ∷ outer))) (sym (more_none l))
    fields_asked level (field_more u us) l outer =
        let m = with_more l (field_uses (asker h) u) in
        heard_on does (field_pieces level u) (end_of_line ∷ fields_pieces level us) (standing h l (around.elements ∷ outer)) (standing h m (around.elements ∷ outer))
        (field_asked level u l outer)
        ∙ fields_asked level us m outer
        ∙ ap (λ (x : Listed). Ok (standing h x (around.elements ∷ outer))) (more_more l (field_uses (asker h) u) (fields_uses (asker h) us))

    field_asked : (level : ℕ) (u : Field) (l : Listed) (outer : List Around)
        → hear_all does (field_pieces level u) (standing h l (around.elements ∷ outer))
        ≡ Ok (standing h (with_more l (field_uses (asker h) u)) (around.elements ∷ outer))
    field_asked level (unit s w n) l outer = ap (λ (m : Listed). Ok (standing h m (around.elements ∷ outer))) (sym (more_none l))
    field_asked level (reserved w n) l outer = ap (λ (m : Listed). Ok (standing h m (around.elements ∷ outer))) (sym (more_none l))
    field_asked level (access a b) l outer = ap (λ (m : Listed). Ok (standing h m (around.elements ∷ outer))) (sym (more_none l))
    field_asked level (extended a b c) l outer = ap (λ (m : Listed). Ok (standing h m (around.elements ∷ outer))) (sym (more_none l))
    field_asked level (connection (target n)) l outer = ap (λ (m : Listed). Ok (standing h m (around.elements ∷ outer))) (sym (more_none l))
    field_asked level (connection (buffer t)) l outer =
        heard_on does (pieces level t) (end_of_link ∷ []) (standing h l (around.elements ∷ outer)) (behind h l (uses_in (asker h) false t) (around.elements ∷ outer))
        (quiet level t l around.elements false outer refl)

-- ---- the head of a term

same_asker : (p : Part) (h : Head) → asker (around.with_part p h) ≡ asker h
same_asker (child t) h = refl
same_asker (label n) h = refl
same_asker (byte n) h = refl
same_asker (word n) h = refl
same_asker (dword n) h = refl
same_asker (qword n) h = refl
same_asker (text n) h = refl

head_part : (does : Bool) (level : ℕ) (p : Part) (l : Listed) (h : Head) (k : PartKind) (ks : List PartKind) (outer : List Around)
    → hear_all does (part_pieces level p) (heard l (Some h) (around.head (k ∷ ks) ∷ outer))
    ≡ Ok (heard (with_more l (part_uses (asker h) (is_argument k) p)) (Some (around.with_part p h)) (around.head ks ∷ outer))
head_part does level (child t) l h k ks outer = quiet does h level t l (around.head (k ∷ ks)) (is_argument k) outer refl
head_part does level (label n) l h k ks outer =
    ap (λ (m : Listed). Ok (heard m (Some (around.with_part (label n) h)) (around.head ks ∷ outer))) (sym (more_none l))
head_part does level (byte n) l h k ks outer =
    ap (λ (m : Listed). Ok (heard m (Some (around.with_part (byte n) h)) (around.head ks ∷ outer))) (sym (more_none l))
head_part does level (word n) l h k ks outer =
    ap (λ (m : Listed). Ok (heard m (Some (around.with_part (word n) h)) (around.head ks ∷ outer))) (sym (more_none l))
head_part does level (dword n) l h k ks outer =
    ap (λ (m : Listed). Ok (heard m (Some (around.with_part (dword n) h)) (around.head ks ∷ outer))) (sym (more_none l))
head_part does level (qword n) l h k ks outer =
    ap (λ (m : Listed). Ok (heard m (Some (around.with_part (qword n) h)) (around.head ks ∷ outer))) (sym (more_none l))
head_part does level (text n) l h k ks outer =
    ap (λ (m : Listed). Ok (heard m (Some (around.with_part (text n) h)) (around.head ks ∷ outer))) (sym (more_none l))

past_head_part : (does : Bool) (level : ℕ) (p : Part) (l : Listed) (h : Head) (outer : List Around)
    → hear_all does (part_pieces level p) (heard l (Some h) (around.head [] ∷ outer))
    ≡ Ok (heard l (Some (around.with_part p h)) (around.head [] ∷ outer))
past_head_part does level (child t) l h outer = unasked_head does l h outer level t
past_head_part does level (label n) l h outer = refl
past_head_part does level (byte n) l h outer = refl
past_head_part does level (word n) l h outer = refl
past_head_part does level (dword n) l h outer = refl
past_head_part does level (qword n) l h outer = refl
past_head_part does level (text n) l h outer = refl

more_head_parts : (does : Bool) (level : ℕ) (ps : Parts) (l : Listed) (h : Head) (ks : List PartKind) (outer : List Around)
    → hear_all does (more_parts level ps) (heard l (Some h) (around.head ks ∷ outer))
    ≡ Ok (heard (with_more l (parts_uses (asker h) ks ps)) (Some (behind_head ps h)) (around.head (behind_parts ps ks) ∷ outer))
more_head_parts does level no_parts l h [] outer =
    ap (λ (m : Listed). Ok (heard m (Some h) (around.head [] ∷ outer))) (sym (more_none l))
more_head_parts does level no_parts l h (k ∷ ks) outer =
    ap (λ (m : Listed). Ok (heard m (Some h) (around.head (k ∷ ks) ∷ outer))) (sym (more_none l))
more_head_parts does level (part_more p ps) l h [] outer =
    heard_on does (part_pieces level p) (more_parts level ps) (heard l (Some h) (around.head [] ∷ outer)) (heard l (Some (around.with_part p h)) (around.head [] ∷ outer))
    (past_head_part does level p l h outer)
    ∙ more_head_parts does level ps l (around.with_part p h) [] outer
more_head_parts does level (part_more p ps) l h (k ∷ ks) outer =
    let us = part_uses (asker h) (is_argument k) p in
    let next = around.with_part p h in
    heard_on does (part_pieces level p) (more_parts level ps) (heard l (Some h) (around.head (k ∷ ks) ∷ outer)) (heard (with_more l us) (Some next) (around.head ks ∷ outer))
    (head_part does level p l h k ks outer)
    ∙ more_head_parts does level ps (with_more l us) next ks outer
    ∙ ap (λ (ask : Name → ℕ → Use). Ok (heard (with_more (with_more l us) (parts_uses ask ks ps)) (Some (behind_head ps next)) (around.head (behind_parts ps ks) ∷ outer))) (same_asker p h)
    ∙ ap (λ (x : Listed). Ok (heard x (Some (behind_head ps next)) (around.head (behind_parts ps ks) ∷ outer))) (more_more l us (parts_uses (asker h) ks ps))

head_parts : (does : Bool) (level : ℕ) (ps : Parts) (l : Listed) (h : Head) (ks : List PartKind) (outer : List Around)
    → hear_all does (parts_pieces level ps) (heard l (Some h) (around.head ks ∷ outer))
    ≡ Ok (heard (with_more l (parts_uses (asker h) ks ps)) (Some (behind_head ps h)) (around.head (behind_parts ps ks) ∷ outer))
head_parts does level no_parts l h ks outer = more_head_parts does level no_parts l h ks outer
head_parts does level (part_more p ps) l h ks outer = more_head_parts does level (part_more p ps) l h ks outer

-- ---- what the head holds then

source_behind : Bool → Option Name → Parts → Option Name
source_behind begun found no_parts = found
source_behind begun found (part_more (label n) ps) = source_behind true (cond begun found (Some n)) ps
source_behind begun found (part_more _ ps) = source_behind true found ps

begun_behind : Bool → Parts → Bool
begun_behind begun no_parts = begun
begun_behind begun (part_more p ps) = begun_behind true ps

source_stays : (found : Option Name) (ps : Parts) → source_behind true found ps ≡ found
unfolding source_behind
source_stays found no_parts = refl
source_stays found (part_more (label n) ps) = source_stays found ps
source_stays found (part_more (child t) ps) = source_stays found ps
source_stays found (part_more (byte n) ps) = source_stays found ps
source_stays found (part_more (word n) ps) = source_stays found ps
source_stays found (part_more (dword n) ps) = source_stays found ps
source_stays found (part_more (qword n) ps) = source_stays found ps
source_stays found (part_more (text n) ps) = source_stays found ps

source_is : (ps : Parts) → source_behind false None ps ≡ first_label ps
unfolding source_behind
source_is no_parts = refl
source_is (part_more (label n) ps) = source_stays (Some n) ps
source_is (part_more (child t) ps) = source_stays None ps
source_is (part_more (byte n) ps) = source_stays None ps
source_is (part_more (word n) ps) = source_stays None ps
source_is (part_more (dword n) ps) = source_stays None ps
source_is (part_more (qword n) ps) = source_stays None ps
source_is (part_more (text n) ps) = source_stays None ps

abbrev head_behind : Parts → Head → Head
head_behind ps h = record h {
  begun = begun_behind h.begun ps;
  source = source_behind h.begun h.source ps;
  last = last_label h.last ps;
  byte = last_byte h.byte ps;
}

head_is : (ps : Parts) (h : Head) → behind_head ps h ≡ head_behind ps h
unfolding source_behind begun_behind
head_is no_parts h = refl
head_is (part_more (child t) ps) h = head_is ps (around.with_part (child t) h)
head_is (part_more (label n) ps) h = head_is ps (around.with_part (label n) h)
head_is (part_more (byte n) ps) h = head_is ps (around.with_part (byte n) h)
head_is (part_more (word n) ps) h = head_is ps (around.with_part (word n) h)
head_is (part_more (dword n) ps) h = head_is ps (around.with_part (dword n) h)
head_is (part_more (qword n) ps) h = head_is ps (around.with_part (qword n) h)
head_is (part_more (text n) ps) h = head_is ps (around.with_part (text n) h)

pub units_more : (u : Field) (us : Fields) (h : Head) → with_units us (around.with_unit u h) ≡ with_units (field_more u us) h
units_more u us h = λ i. record h { units = (append_assoc h.units (unit_names (field_more u no_fields)) (unit_names us) ∙ ap (λ ns. h.units ++ ns) (by u)) i }
  where
    by : (u : Field) → unit_names (field_more u no_fields) ++ unit_names us ≡ unit_names (field_more u us)
    by (unit s w n) = refl
    by (reserved w n) = refl
    by (access a b) = refl
    by (extended a b c) = refl
    by (connection x) = refl

pub no_units : (h : Head) (ns : List Name) → ns ≡ [] → record h { units = h.units ++ ns } ≡ h
no_units h ns none = λ i. record h { units = (ap (λ ns. h.units ++ ns) none ∙ append-nil h.units) i }

field_units : (does : Bool) (level : ℕ) (u : Field) (l : Listed) (h : Head) (outer : List Around)
    → hear_all does (field_pieces level u) (heard l (Some h) (around.units ∷ outer))
    ≡ Ok (heard (with_more l (field_uses (asker h) u)) (Some (around.with_unit u h)) (around.units ∷ outer))
field_units does level (unit s w n) l h outer =
    ap (λ (m : Listed). Ok (heard m (Some (around.with_unit (unit s w n) h)) (around.units ∷ outer))) (sym (more_none l))
field_units does level (reserved w n) l h outer =
    ap (λ (m : Listed). Ok (heard m (Some (around.with_unit (reserved w n) h)) (around.units ∷ outer))) (sym (more_none l))
field_units does level (access a b) l h outer =
    ap (λ (m : Listed). Ok (heard m (Some (around.with_unit (access a b) h)) (around.units ∷ outer))) (sym (more_none l))
field_units does level (extended a b c) l h outer =
    ap (λ (m : Listed). Ok (heard m (Some (around.with_unit (extended a b c) h)) (around.units ∷ outer))) (sym (more_none l))
field_units does level (connection (target n)) l h outer =
    ap (λ (m : Listed). Ok (heard m (Some (around.with_unit (connection (target n)) h)) (around.units ∷ outer))) (sym (more_none l))
field_units does level (connection (buffer t)) l h outer =
    let m = with_more l (uses_in (asker h) false t) in
    heard_on does (pieces level t) (end_of_link ∷ []) (heard l (Some h) (around.units ∷ outer)) (heard m (Some h) (around.units ∷ outer))
    (quiet does h level t l around.units false outer refl)
    ∙ ap (λ (x : Head). Ok (heard m (Some x) (around.units ∷ outer))) (sym (no_units h [] refl))

fields_units : (does : Bool) (level : ℕ) (us : Fields) (l : Listed) (h : Head) (outer : List Around)
    → hear_all does (fields_pieces level us) (heard l (Some h) (around.units ∷ outer))
    ≡ Ok (heard (with_more l (fields_uses (asker h) us)) (Some (with_units us h)) (around.units ∷ outer))
fields_units does level no_fields l h outer =
    sym (λ i. Ok (heard (more_none l i) (Some (no_units h [] refl i)) (around.units ∷ outer)))
fields_units does level (field_more u us) l h outer =
    let m = with_more l (field_uses (asker h) u) in
    let x = around.with_unit u h in
    heard_on does (field_pieces level u) (end_of_line ∷ fields_pieces level us) (heard l (Some h) (around.units ∷ outer)) (heard m (Some x) (around.units ∷ outer))
    (field_units does level u l h outer)
    ∙ fields_units does level us m x outer
    ∙ (λ i. Ok (heard (more_more l (field_uses (asker h) u) (fields_uses (asker h) us) i) (Some (units_more u us h i)) (around.units ∷ outer)))

-- ---- the head behind its parts and its tail

abbrev whole_head : Where → Option Row → Parts → Tail → Head
whole_head w row ps t = record {
  site = w;
  declaring = unwrap_or (option_map (λ (r : Row). declares_by r.group) row) false;
  shape = unwrap_or (option_map (λ (r : Row). around.shape_by r.tail) row) shapes.Flat;
  role = unwrap_or (option_map (λ (r : Row). r.role) row) roles.Other;
  begun = begun_behind false ps;
  source = source_behind false None ps;
  last = last_label None ps;
  byte = last_byte None ps;
  units = field_names t;
}

head_met : (w : Where) (row : Option Row) (ps : Parts) (t : Tail)
    → with_tail t (behind_head ps (around.head_of w row)) ≡ whole_head w row ps t
head_met w row ps empty = head_is ps (around.head_of w row)
head_met w row ps (bytes xs) = head_is ps (around.head_of w row)
head_met w row ps (body start len) = head_is ps (around.head_of w row)
head_met w row ps (terms ts) = head_is ps (around.head_of w row)
head_met w row ps (elements ts) = head_is ps (around.head_of w row)
head_met w row ps (fields us) = ap (with_units us) (head_is ps (around.head_of w row))

pub site_met : (w : Where) (row : Option Row) (ps : Parts) (t : Tail) → (with_tail t (behind_head ps (around.head_of w row))).site ≡ w
site_met w row ps t = ap (λ (h : Head). h.site) (head_met w row ps t)

asker_behind : (ps : Parts) (h : Head) → asker (behind_head ps h) ≡ asker h
asker_behind no_parts h = refl
asker_behind (part_more p ps) h = asker_behind ps (around.with_part p h) ∙ same_asker p h

-- ---- what it does by its head

pub tail_span : (o : ℕ) (w : Option PkgWidth) (ps : Parts) (t : Tail) → unwrap_or (tail_of (op o w ps t)) (0, 0) ≡ body_span t
tail_span o w ps (body start len) = refl
tail_span o w ps empty = refl
tail_span o w ps (terms ts) = refl
tail_span o w ps (bytes xs) = refl
tail_span o w ps (elements ts) = refl
tail_span o w ps (fields us) = refl

-- an opcode is no call
shaped : (k : Option TailKind) (h : Head) (f : Front) (span : ℕ × ℕ) → enters_by (around.shape_by k) h f span ≡ enters_as h.role h f span
unfolding enters_by
shaped (Some tails.Terms) h f span = refl
shaped (Some tails.Bytes) h f span = refl
shaped (Some tails.Elements) h f span = refl
shaped (Some tails.Fields) h f span = refl
shaped (Some tails.Body) h f span = refl
shaped None h f span = refl

shape_of_row : (row : Option Row) (h : Head) (f : Front) (span : ℕ × ℕ)
    → enters_by (unwrap_or (option_map (λ (r : Row). around.shape_by r.tail) row) shapes.Flat) h f span ≡ enters_as h.role h f span
unfolding enters_by
shape_of_row None h f span = refl
shape_of_row (Some r) h f span = shaped r.tail h f span

abbrev the_span : Option (ℕ × ℕ) → Option (ℕ × ℕ)
the_span x = x

module _ (h : Head) (ps : Parts) (t : Tail) (source : h.source ≡ first_label ps) (last : h.last ≡ last_label None ps)
    (flags : h.byte ≡ last_byte None ps) (units : h.units ≡ field_names t) where
  flat_is : (role : Role) (site : Where) (l : Listed) → flat_by role h site l (body_span t) ≡ flat_at role site l ps t
  unfolding flat_by flat_at
  flat_is roles.Method site l = λ i. method_at site l (last i) (unwrap_or (flags i) 0) (body_span t)
  flat_is roles.Alias site l = λ i. alias_at site l (source i) (last i)
  flat_is roles.External site l = λ i. external_at site l (last i) (unwrap_or (flags i) 0)
  flat_is roles.Fields site l = λ i. units_at site l (units i)
  flat_is _ site l = refl

  run_role : (role : Role) (f : Front) → enters_as role h f (body_span t) ≡ run.enter_as role f ps t
  unfolding enters_as run.enter_as
  run_role (roles.Declares o) f = ap (λ n. object_at f n (kind_of o)) last
  run_role roles.Scope f = ap (scope_at f) last
  run_role roles.Guard f = refl
  run_role roles.Other f = refl
  run_role role f = ap (λ (r : Result Listed LoadFault). listing f r) (flat_is role f.site f.listed)

pub run_entered : (g : Front) (o : ℕ) (w : Option PkgWidth) (ps : Parts) (t : Tail)
    → head_enters (head_at g.site (op o w ps t)) g (unwrap_or (tail_of (op o w ps t)) (0, 0)) ≡ run.enter_as (role_of o) g ps t
unfolding head_enters enters_by role_of
run_entered g o w ps t =
    let row = row_of o in
    let met = head_met g.site row ps t in
    let h = with_tail t (behind_head ps (around.head_of g.site row)) in
    ap (λ (s : ℕ × ℕ). enters_by h.shape h g s) (tail_span o w ps t)
    ∙ ap (λ (s : Shape). enters_by s h g (body_span t)) (ap (λ (x : Head). x.shape) met)
    ∙ shape_of_row row h g (body_span t)
    ∙ ap (λ (r : Role). enters_as r h g (body_span t)) (ap (λ (x : Head). x.role) met)
    ∙ run_role h ps t (ap (λ (x : Head). x.source) met ∙ source_is ps) (ap (λ (x : Head). x.last) met)
    (ap (λ (x : Head). x.byte) met) (ap (λ (x : Head). x.units) met) (role_of o) g

-- a term of an opcode, by its head
enter_met : (w : Where) (o : ℕ) (width : Option PkgWidth) (ps : Parts) (t : Tail) (l : Listed)
    → enter (with_tail t (behind_head ps (around.head_of w (row_of o)))) l (body_span t) ≡ run.enter_as (role_of o) (front_at w l) ps t
enter_met w o width ps t l =
    let h = with_tail t (behind_head ps (around.head_of w (row_of o))) in
    ap (λ (v : Where). head_enters (Some h) (front_at v l) (body_span t)) (site_met w (row_of o) ps t)
    ∙ ap (λ (s : ℕ × ℕ). head_enters (Some h) (front_at w l) s) (sym (tail_span o width ps t))
    ∙ run_entered (front_at w l) o width ps t

-- ---- what its terms do, where the code outside methods may not run

then_ok : {A B : Type 0} (P : B → Type 0) (r : Result A LoadFault) (k : A → Result B LoadFault)
    → ((x : A) → IfOk (k x) P) → IfOk (r >>= k) P
then_ok P (Ok x) k h = h x
then_ok P (Err e) k h = tt

-- inside a term its code may run as it may there
keeps_runs : (role : Role) (h : Head) (f : Front) (span : ℕ × ℕ) → IfOk (enters_as role h f span) (λ g. g.site.any_run ≡ f.site.any_run)
unfolding enters_as object_at scope_at
keeps_runs roles.Guard h f span = refl
keeps_runs roles.Other h f span = refl
keeps_runs _ h f span = search (rules, then_ok)

enter_runs : (h : Head) (l : Listed) (span : ℕ × ℕ) (g : Front) → enter h l span ≡ Ok g → g.site.any_run ≡ h.site.any_run
unfolding head_enters enters_by
enter_runs h l span g is = subst (λ (r : Result Front LoadFault). IfOk r (λ g. g.site.any_run ≡ h.site.any_run)) is (by h.shape)
  where
    by : (k : Shape) → IfOk (enters_by k h (front_at h.site l) span) (λ g. g.site.any_run ≡ h.site.any_run)
    by shapes.Call = refl
    by shapes.Flat = keeps_runs h.role h (front_at h.site l) span
    by shapes.Block = keeps_runs h.role h (front_at h.site l) span

abbrev on_again : Result Front LoadFault → Where → List Around → Result Heard LoadFault
on_again r w outer = behind_terms w outer r

-- what stands behind the terms inside a term
abbrev ends : Where → Result Front LoadFault → Tail → Result Front LoadFault
ends w r t = r >>= λ i. (behind_inside i t >>= λ e. Ok (front_at w e.listed))

-- a tail without terms
flat_tail : (t : Tail) (r : Result Front LoadFault) (ks : List PartKind) (w : Where) (outer : List Around)
    → ((f : Front) → behind_inside f t ≡ Ok f)
    → (((r >>= λ f. Ok (heard f.listed None (around.head ks ∷ around.terms w ∷ outer))) >>= λ y. Ok (closed y)) >>= λ y. hear_all true [] y)
    ≡ on_again (ends w r t) w outer
flat_tail t (Err e) ks w outer flat = refl
flat_tail t (Ok f) ks w outer flat =
    ap (λ (r : Result Front LoadFault). on_again (r >>= λ e. Ok (front_at w e.listed)) w outer) (sym (flat f))

-- behind the terms inside a term
behind_list : (r : Result Front LoadFault) (level : ℕ) (b : Around) (ks : List PartKind) (w : Where) (outer : List Around)
    → ((r >>= λ e. Ok (heard e.listed None (b ∷ around.head ks ∷ around.terms w ∷ outer))) >>= λ y. hear_all true (end_of_list tails.Terms level ∷ []) y)
    ≡ on_again (r >>= λ e. Ok (front_at w e.listed)) w outer
behind_list (Ok e) level b ks w outer = refl
behind_list (Err e) level b ks w outer = refl

same_entered : (l m : Listed) (h : Head) (t : Tail) (w : Where) (outer : List Around) → l ≡ m
    → on_again (ends w (enter h l (body_span t)) t) w outer ≡ on_again (ends w (enter h m (body_span t)) t) w outer
same_entered l m h t w outer e = ap (λ (x : Listed). on_again (ends w (enter h x (body_span t)) t) w outer) e

terms_tail : (level : ℕ) (ts : Trees) (ks : List PartKind) (w : Where) (outer : List Around) (r : Result Front LoadFault)
    → ((f : Front) → r ≡ Ok f
    → hear_all true (line_pieces (deeper level) ts) (heard f.listed None (around.terms f.site ∷ around.head ks ∷ around.terms w ∷ outer))
    ≡ on_again (behind_trees f ts) f.site (around.head ks ∷ around.terms w ∷ outer))
    → ((r >>= λ f. Ok (heard f.listed None (around.terms f.site ∷ around.head ks ∷ around.terms w ∷ outer)))
    >>= λ y. hear_all true (line_pieces (deeper level) ts ++ end_of_list tails.Terms level ∷ []) y)
    ≡ on_again (ends w r (terms ts)) w outer
unfolding behind_inside
terms_tail level ts ks w outer (Err e) law = refl
terms_tail level ts ks w outer (Ok f) law =
    let x = heard f.listed None (around.terms f.site ∷ around.head ks ∷ around.terms w ∷ outer) in
    after true (line_pieces (deeper level) ts) (end_of_list tails.Terms level ∷ []) x
    ∙ ap (λ (r : Result Heard LoadFault). r >>= λ z. hear_all true (end_of_list tails.Terms level ∷ []) z) (law f refl)
    ∙ behind_list (behind_trees f ts) level (around.terms f.site) ks w outer

-- behind a term stands what stood in front of it, but for what is listed
pub placed : (f : Front) (x : Tree) → behind_tree f x ≡ (behind_tree f x >>= λ g. Ok (front_at f.site g.listed))
unfolding behind_tree entered_at
placed f x = by x
  where
    alone : (any : Bool) (x : Tree) → the_front (cond any (run.asked f x) f) ≡ Ok (front_at f.site (cond any (run.asked f x) f).listed)
    alone true x = refl
    alone false x = refl

    ends : (r : Result Front LoadFault) → (r >>= λ e. Ok (record f { listed = e.listed }))
        ≡ ((r >>= λ e. Ok (record f { listed = e.listed })) >>= λ g. Ok (front_at f.site g.listed))
    ends (Ok e) = refl
    ends (Err e) = refl

    inner : (t : Tail) (q : Result Front LoadFault) → (q >>= λ i. (behind_inside i t >>= λ e. Ok (record f { listed = e.listed })))
        ≡ ((q >>= λ i. (behind_inside i t >>= λ e. Ok (record f { listed = e.listed }))) >>= λ g. Ok (front_at f.site g.listed))
    inner t (Ok i) = ends (behind_inside i t)
    inner t (Err e) = refl

    by : (x : Tree) → behind_tree f x ≡ (behind_tree f x >>= λ g. Ok (front_at f.site g.listed))
    by nothing = alone f.site.any_run nothing
    by (named n ts) = alone f.site.any_run (named n ts)
    by (op o w ps t) = inner t (run.enter_as (role_of o) (run.asked f (op o w ps t)) ps t)

more_lines : (level : ℕ) (ts : Trees) (w : Where) (outer : List Around) (r : Result Front LoadFault)
    → r ≡ (r >>= λ g. Ok (front_at w g.listed))
    → ((m : Listed) → hear_all true (line_pieces level ts) (heard m None (around.terms w ∷ outer)) ≡ on_again (behind_trees (front_at w m) ts) w outer)
    → (on_again r w outer >>= λ y. hear_all true (end_of_line ∷ line_pieces level ts) y) ≡ on_again (r >>= λ g. behind_trees g ts) w outer
more_lines level ts w outer r stays law = by r ∙ ap (λ (q : Result Front LoadFault). on_again (q >>= λ g. behind_trees g ts) w outer) (sym stays)
  where
    by : (r : Result Front LoadFault) → (on_again r w outer >>= λ y. hear_all true (end_of_line ∷ line_pieces level ts) y)
        ≡ on_again ((r >>= λ g. Ok (front_at w g.listed)) >>= λ g. behind_trees g ts) w outer
    by (Ok g) = law g.listed
    by (Err e) = refl

mutual
  unfolding behind_inside behind_tree behind_trees entered_at

  head_tail : (level : ℕ) (t : Tail) (l : Listed) (h : Head) (ks : List PartKind) (w : Where) (outer : List Around)
      → h.site.any_run ≡ false → hear_all true (tail_pieces level t) (heard l (Some h) (around.head ks ∷ around.terms w ∷ outer))
      ≡ on_again (ends w (enter (with_tail t h) (with_more l (tail_uses (asker h) t)) (body_span t)) t) w outer
  head_tail level empty l h ks w outer runs =
      flat_tail empty (enter h l (0, 0)) ks w outer (λ f. refl) ∙ same_entered l (with_more l []) h empty w outer (sym (more_none l))
  head_tail level (bytes xs) l h ks w outer runs =
      flat_tail (bytes xs) (enter h l (0, 0)) ks w outer (λ f. refl) ∙ same_entered l (with_more l []) h (bytes xs) w outer (sym (more_none l))
  head_tail level (body start len) l h ks w outer runs =
      flat_tail (body start len) (enter h l (start, len)) ks w outer (λ f. refl)
      ∙ same_entered l (with_more l []) h (body start len) w outer (sym (more_none l))
  head_tail level (elements ts) l h ks w outer runs =
      let front = around.elements ∷ around.head ks ∷ around.terms w ∷ outer in
      let m = with_more l (all_uses (asker h) false ts) in
      heard_on true (items level ts) (end_of_list tails.Elements level ∷ []) (heard l (Some h) front) (heard m (Some h) front)
      (items_asked true h level ts l around.elements false (around.head ks ∷ around.terms w ∷ outer) refl (λ x. refl))
      ∙ flat_tail (elements ts) (enter h m (0, 0)) ks w outer (λ f. refl)
  head_tail level (fields us) l h ks w outer runs =
      let front = around.units ∷ around.head ks ∷ around.terms w ∷ outer in
      let m = with_more l (fields_uses (asker h) us) in
      heard_on true (fields_pieces (deeper level) us) (end_of_list tails.Fields level ∷ []) (heard l (Some h) front) (heard m (Some (with_units us h)) front)
      (fields_units true (deeper level) us l h (around.head ks ∷ around.terms w ∷ outer))
      ∙ flat_tail (fields us) (enter (with_units us h) m (0, 0)) ks w outer (λ f. refl)
  head_tail level (terms ts) l h ks w outer runs =
      terms_tail level ts ks w outer (enter h l (0, 0)) (λ f is.
      lines_listed (deeper level) ts f.listed f.site (around.head ks ∷ around.terms w ∷ outer) (enter_runs h l (0, 0) f is ∙ runs))
      ∙ same_entered l (with_more l []) h (terms ts) w outer (sym (more_none l))

  -- a term of a list
  listed : (level : ℕ) (t : Tree) (l : Listed) (w : Where) (outer : List Around) → w.any_run ≡ false
      → hear_all true (pieces level t) (heard l None (around.terms w ∷ outer)) ≡ on_again (behind_tree (front_at w l) t) w outer
  listed level nothing l w outer runs =
      ap (λ (b : Bool). on_again (the_front (cond b (run.asked (front_at w l) nothing) (front_at w l))) w outer) (sym runs)
  listed level (named n ts) l w outer runs =
      let x = heard l None (around.nowhere ∷ around.terms w ∷ outer) in
      let f = front_at w l in
      heard_on true (items level ts) (end_of_call (tree_count ts) ∷ []) x x (items_nowhere true l None level ts (around.terms w ∷ outer))
      ∙ ap (λ (b : Bool). on_again (the_front (cond b (run.asked f (named n ts)) f)) w outer) (sym runs)
  listed level (op o width ps t) l w outer runs =
      let row = row_of o in
      let h = around.head_of w row in
      let ks = kinds_in o in
      let us = parts_uses (asker h) ks ps in
      let behind = behind_head ps h in
      let all = us ++ tail_uses (asker h) t in
      heard_on true (parts_pieces level ps) (end_of_parts row (part_count ps) ∷ tail_pieces level t)
      (heard l (Some h) (around.head ks ∷ around.terms w ∷ outer))
      (heard (with_more l us) (Some behind) (around.head (behind_parts ps ks) ∷ around.terms w ∷ outer))
      (head_parts true level ps l h ks (around.terms w ∷ outer))
      ∙ head_tail level t (with_more l us) behind (behind_parts ps ks) w outer (ap (λ (v : Where). v.any_run) (site_met w row ps empty) ∙ runs)
      ∙ ap (λ (ask : Name → ℕ → Use). on_again (ends w (enter (with_tail t behind) (with_more (with_more l us) (tail_uses ask t)) (body_span t)) t) w outer) (asker_behind ps h)
      ∙ same_entered (with_more (with_more l us) (tail_uses (asker h) t)) (with_more l all) (with_tail t behind) t w outer (more_more l us (tail_uses (asker h) t))
      ∙ ap (λ (r : Result Front LoadFault). on_again (ends w r t) w outer) (enter_met w o width ps t (with_more l all))

  -- terms of a list
  pub lines_listed : (level : ℕ) (ts : Trees) (l : Listed) (w : Where) (outer : List Around) → w.any_run ≡ false
      → hear_all true (line_pieces level ts) (heard l None (around.terms w ∷ outer)) ≡ on_again (behind_trees (front_at w l) ts) w outer
  lines_listed level no_trees l w outer runs = refl
  lines_listed level (tree_more t ts) l w outer runs =
      let x = heard l None (around.terms w ∷ outer) in
      after true (pieces level t) (end_of_line ∷ line_pieces level ts) x
      ∙ ap (λ (r : Result Heard LoadFault). r >>= λ y. hear_all true (end_of_line ∷ line_pieces level ts) y) (listed level t l w outer runs)
      ∙ more_lines level ts w outer (behind_tree (front_at w l) t) (placed (front_at w l) t) (λ m. lines_listed level ts m w outer runs)

-- ---- a term whose code may run

-- no term does anything
closed_still : (a : Around) (span : ℕ × ℕ) (x : Heard) → closed_by false a span x ≡ Ok (closed x)
closed_still (around.terms w) span x = refl
closed_still (around.run w) span x = refl
closed_still (around.head ks) span x = refl
closed_still (around.inner ks) span x = refl
closed_still around.arguments span x = refl
closed_still around.elements span x = refl
closed_still around.units span x = refl
closed_still around.nowhere span x = refl

list_still : (own : Bool) (inside : Result Heard LoadFault) (y : Heard) → cond (own && false) inside (Ok y) ≡ Ok y
list_still true inside y = refl
list_still false inside y = refl

catches : (p : Told) (x : Heard) → hear false p x ≡ Ok (catch p x)
catches told.absent x = refl
catches (name n count) x = refl
catches (end_of_call count) x = refl
catches (told.opcode o row w count) x = refl
catches (end_of_parts row count) x = refl
catches told.next x = refl
catches (told.part p) x = refl
catches (told.tail t) x = closed_still (top x.around) (body_span t) x
catches (told.list k) x = list_still (around.is_own_terms (top x.around) k) (around.inside_by x.term x) (catch (told.list k) x)
catches (end_of_list k level) x = closed_still (top (drop 1 x.around)) (0, 0) (left x)
catches (told.line level) x = refl
catches end_of_line x = refl
catches (told.field u) x = refl
catches told.link x = refl
catches end_of_link x = refl

catches_all : (ps : List Told) (x : Heard) → hear_all false ps x ≡ Ok (catch_all ps x)
catches_all [] x = refl
catches_all (p ∷ ps) x = ap (λ (r : Result Heard LoadFault). r >>= λ y. hear_all false ps y) (catches p x) ∙ catches_all ps (catch p x)

run_tail : (level : ℕ) (t : Tail) (l : Listed) (h : Head) (ks : List PartKind) (w : Where) (outer : List Around)
    → hear_all false (tail_pieces level t) (heard l (Some h) (around.head ks ∷ around.run w ∷ outer))
    ≡ Ok (heard (with_more l (tail_uses (asker h) t)) (Some (with_tail t h)) (around.run w ∷ outer))
run_tail level empty l h ks w outer = ap (λ (m : Listed). Ok (heard m (Some h) (around.run w ∷ outer))) (sym (more_none l))
run_tail level (bytes xs) l h ks w outer = ap (λ (m : Listed). Ok (heard m (Some h) (around.run w ∷ outer))) (sym (more_none l))
run_tail level (body start len) l h ks w outer = ap (λ (m : Listed). Ok (heard m (Some h) (around.run w ∷ outer))) (sym (more_none l))
run_tail level (terms ts) l h ks w outer =
    let x = heard l (Some h) (around.nowhere ∷ around.head ks ∷ around.run w ∷ outer) in
    heard_on false (line_pieces (deeper level) ts) (end_of_list tails.Terms level ∷ []) x x
    (lines_nowhere false l (Some h) (deeper level) ts (around.head ks ∷ around.run w ∷ outer))
    ∙ ap (λ (m : Listed). Ok (heard m (Some h) (around.run w ∷ outer))) (sym (more_none l))
run_tail level (elements ts) l h ks w outer =
    let front = around.elements ∷ around.head ks ∷ around.run w ∷ outer in
    heard_on false (items level ts) (end_of_list tails.Elements level ∷ []) (heard l (Some h) front) (heard (with_more l (all_uses (asker h) false ts)) (Some h) front)
    (items_asked false h level ts l around.elements false (around.head ks ∷ around.run w ∷ outer) refl (λ x. refl))
run_tail level (fields us) l h ks w outer =
    let front = around.units ∷ around.head ks ∷ around.run w ∷ outer in
    heard_on false (fields_pieces (deeper level) us) (end_of_list tails.Fields level ∷ []) (heard l (Some h) front)
    (heard (with_more l (fields_uses (asker h) us)) (Some (with_units us h)) front)
    (fields_units false (deeper level) us l h (around.head ks ∷ around.run w ∷ outer))

run_heard : (level : ℕ) (t : Tree) (l : Listed) (w : Where) (outer : List Around)
    → hear_all false (pieces level t) (heard l None (around.run w ∷ outer))
    ≡ Ok (heard (with_more l (term_uses w t)) (head_at w t) (around.run w ∷ outer))
run_heard level nothing l w outer = ap (λ (m : Listed). Ok (heard m None (around.run w ∷ outer))) (sym (more_none l))
run_heard level (named n ts) l w outer =
    let h = around.call_at w in
    let own = asker h n (tree_count ts) ∷ [] in
    let m = with_more l own in
    heard_on false (items level ts) (end_of_call (tree_count ts) ∷ []) (heard m (Some h) (around.arguments ∷ around.run w ∷ outer))
    (heard (with_more m (all_uses (asker h) true ts)) (Some h) (around.arguments ∷ around.run w ∷ outer))
    (items_asked false h level ts m around.arguments true (around.run w ∷ outer) refl (λ x. refl))
    ∙ ap (λ (x : Listed). Ok (heard x (Some h) (around.run w ∷ outer))) (more_more l own (all_uses (asker h) true ts))
run_heard level (op o width ps t) l w outer =
    let row = row_of o in
    let h = around.head_of w row in
    let ks = kinds_in o in
    let us = parts_uses (asker h) ks ps in
    let behind = behind_head ps h in
    heard_on false (parts_pieces level ps) (end_of_parts row (part_count ps) ∷ tail_pieces level t)
    (heard l (Some h) (around.head ks ∷ around.run w ∷ outer))
    (heard (with_more l us) (Some behind) (around.head (behind_parts ps ks) ∷ around.run w ∷ outer))
    (head_parts false level ps l h ks (around.run w ∷ outer))
    ∙ run_tail level t (with_more l us) behind (behind_parts ps ks) w outer
    ∙ ap (λ (ask : Name → ℕ → Use). Ok (heard (with_more (with_more l us) (tail_uses ask t)) (Some (with_tail t behind)) (around.run w ∷ outer))) (asker_behind ps h)
    ∙ ap (λ (x : Listed). Ok (heard x (Some (with_tail t behind)) (around.run w ∷ outer))) (more_more l us (tail_uses (asker h) t))

pub run_caught : (level : ℕ) (t : Tree) (l : Listed) (w : Where) (outer : List Around)
    → catch_all (pieces level t) (heard l None (around.run w ∷ outer)) ≡ heard (with_more l (term_uses w t)) (head_at w t) (around.run w ∷ outer)
run_caught level t l w outer =
    let same : Ok (catch_all (pieces level t) (heard l None (around.run w ∷ outer)))
    ≡ the_answer (Ok (heard (with_more l (term_uses w t)) (head_at w t) (around.run w ∷ outer))) =
    sym (catches_all (pieces level t) (heard l None (around.run w ∷ outer))) ∙ run_heard level t l w outer in cc
  where
    the_answer : Result Heard LoadFault → Result Heard LoadFault
    the_answer r = r

-- ---- what it does by its head

pub run_enters : (f : Front) (t : Tree) → f.site.any_run ≡ true
    → head_enters (head_at f.site t) (run.asked f t) (unwrap_or (tail_of t) (0, 0)) ≡ entered_at f t
unfolding head_enters enters_by entered_at role_of
run_enters f nothing runs = ap (λ (b : Bool). the_front (cond b (run.asked f nothing) f)) (sym runs)
run_enters f (named n ts) runs = ap (λ (b : Bool). the_front (cond b (run.asked f (named n ts)) f)) (sym runs)
run_enters f (op o w ps t) runs = run_entered (run.asked f (op o w ps t)) o w ps t

-- ---- and whether terms stand inside it

block_row : (row : Option Row) → around.shape_is_block (unwrap_or (option_map (λ (r : Row). around.shape_by r.tail) row) shapes.Flat)
    ≡ unwrap_or (option_map (λ (r : Row). has_terms r.tail) row) false
block_row None = refl
block_row (Some r) = by r.tail
  where
    by : (k : Option TailKind) → around.shape_is_block (around.shape_by k) ≡ has_terms k
    by (Some tails.Terms) = refl
    by (Some tails.Bytes) = refl
    by (Some tails.Elements) = refl
    by (Some tails.Fields) = refl
    by (Some tails.Body) = refl
    by None = refl

none_else : (b : Bool) → cond b (the_span None) None ≡ None
none_else true = refl
none_else false = refl

pub run_inside : (w : Where) (t : Tree) → cond (around.is_block (head_at w t)) (tail_of t) None ≡ span_inside t
run_inside w nothing = refl
run_inside w (named n ts) = refl
run_inside w (op o width ps (body start len)) =
    ap (λ (b : Bool). cond b (the_span (Some (start, len))) None)
    (ap around.shape_is_block (ap (λ (x : Head). x.shape) (head_met w (row_of o) ps (body start len))) ∙ block_row (row_of o))
run_inside w (op o width ps empty) = none_else (around.is_block (head_at w (op o width ps empty)))
run_inside w (op o width ps (terms ts)) = none_else (around.is_block (head_at w (op o width ps (terms ts))))
run_inside w (op o width ps (bytes xs)) = none_else (around.is_block (head_at w (op o width ps (bytes xs))))
run_inside w (op o width ps (elements ts)) = none_else (around.is_block (head_at w (op o width ps (elements ts))))
run_inside w (op o width ps (fields us)) = none_else (around.is_block (head_at w (op o width ps (fields us))))
