-- Trees built of the pieces that are told: the terms that aren't ended, each with what it holds so far.
use Rattle.std.specs.Prelude.{◌≡◌, ℕ, List, [], ◌∷◌, ◌++◌, map, reverse, Option, Some, None, IfSome}
use Rattle.std.proofs.Common.{refl, sym, subst}
use Rattle.aml_names.specs.declared.names.Name.{Name}
use Rattle.aml_code.specs.declared.packages.PkgWidth.{PkgWidth}
use Rattle.aml_code.specs.declared.rows.TailKind.{TailKind}
use Rattle.aml_code.specs.Pieces.{Told, absent, name, end_of_call, opcode, part, tail, list, end_of_list, field}
use Rattle.aml_code.specs.Tree.{Tree, nothing, named, op, Part, child, Parts, Tail, terms, elements, fields, Field}
use Rattle.aml_code.specs.Tree.{connection, buffer}
use Rattle.aml_code.specs.View.{node_view, part_view, parts_view, field_view, trees_of, parts_from, fields_from}
use Rattle.aml_parse.specs.declared.builder.Builder.{Builder}
use Rattle.aml_parse.specs.declared.builder.Frame.{Frame as CodeFrame}
use Rattle.aml_parse.specs.declared.builder.Frame.TheVariants as frame

-- what holds terms, parts or elements of a field list, and isn't ended
pub data Frame : Type 0 where
  -- all terms
  lines : List Tree → Frame
  -- a call with its arguments
  call : Name → List Tree → Frame
  -- an opcode with its parts
  parts : ℕ → Option PkgWidth → List Part → Frame
  -- the same with the terms or the elements of its tail
  inside : ℕ → Option PkgWidth → Parts → List Tree → Frame
  -- or with its field list
  units : ℕ → Option PkgWidth → Parts → List Field → Frame

-- the innermost, and what is around it
abbrev pub State : Type 0
State = Frame × List Frame

-- With a term that is ended. In a field list that is the Buffer of a connection.
abbrev pub with_tree : Frame → Tree → Frame
with_tree (lines ts) t = lines (ts ++ t ∷ [])
with_tree (call n ts) t = call n (ts ++ t ∷ [])
with_tree (parts o w ps) t = parts o w (ps ++ child t ∷ [])
with_tree (inside o w ps ts) t = inside o w ps (ts ++ t ∷ [])
with_tree (units o w ps us) t = units o w ps (us ++ connection (buffer t) ∷ [])

-- the innermost is this term, and is ended
abbrev pub ended : Tree → List Frame → Option State
ended t [] = None
ended t (f ∷ fs) = Some (with_tree f t, fs)

abbrev pub end_call : Frame → List Frame → Option State
end_call (call n ts) fs = ended (named n (trees_of ts)) fs
end_call _ fs = None

abbrev pub with_part : Part → Frame → List Frame → Option State
with_part p (parts o w ps) fs = Some (parts o w (ps ++ p ∷ []), fs)
with_part p _ fs = None

abbrev pub end_operation : Tail → Frame → List Frame → Option State
end_operation t (parts o w ps) fs = ended (op o w (parts_from ps) t) fs
end_operation t _ fs = None

abbrev pub begin_list : TailKind → Frame → List Frame → Option State
begin_list TailKind.Fields (parts o w ps) fs = Some (units o w (parts_from ps) [], fs)
begin_list k (parts o w ps) fs = Some (inside o w (parts_from ps) [], fs)
begin_list k _ fs = None

abbrev pub end_list : TailKind → Frame → List Frame → Option State
end_list TailKind.Terms (inside o w ps ts) fs = ended (op o w ps (terms (trees_of ts))) fs
end_list TailKind.Elements (inside o w ps ts) fs = ended (op o w ps (elements (trees_of ts))) fs
end_list TailKind.Fields (units o w ps us) fs = ended (op o w ps (fields (fields_from us))) fs
end_list k _ fs = None

-- the Buffer of a connection is told by itself
abbrev pub without_terms : Field → Option Field
without_terms (connection (buffer t)) = None
without_terms u = Some u

abbrev pub with_field : Option Field → Frame → List Frame → Option State
with_field (Some u) (units o w ps us) fs = Some (units o w ps (us ++ u ∷ []), fs)
with_field u _ fs = None

-- A piece more, where one of its kind can follow. Lines, commas and where parts end make no difference.
abbrev pub step : Told → Frame → List Frame → Option State
step absent f fs = Some (with_tree f nothing, fs)
step (name n count) f fs = Some (call n [], f ∷ fs)
step (end_of_call count) f fs = end_call f fs
step (opcode o row w count) f fs = Some (parts o w [], f ∷ fs)
step (part p) f fs = with_part p f fs
step (tail t) f fs = end_operation t f fs
step (list k) f fs = begin_list k f fs
step (end_of_list k level) f fs = end_list k f fs
step (field u) f fs = with_field (without_terms u) f fs
step _ f fs = Some (f, fs)

abbrev pub then : Told → Option State → Option State
then p None = None
then p (Some s) = step p s.0 s.1

abbrev pub built : List Told → Option State → Option State
built [] s = s
built (p ∷ ps) s = built ps (then p s)

-- ---- what a builder is seen as

abbrev pub frame_view : CodeFrame → Frame
frame_view (frame.Lines ns) = lines (map node_view ns.items)
frame_view (frame.Call n ns) = call n (map node_view ns.items)
frame_view (frame.Parts o w ps) = parts o w (map part_view ps.items)
frame_view (frame.Inside o w ps ns) = inside o w (parts_view ps.items) (map node_view ns.items)
frame_view (frame.Units o w ps us) = units o w (parts_view ps.items) (map field_view us.items)

abbrev pub state_of : Builder → State
state_of b = (frame_view b.innermost, reverse (map frame_view b.around.items))

-- the builder stands at this state, if there is one
abbrev pub StandsAs : Builder → Option State → Type 0
StandsAs b s = IfSome s (λ x. state_of b ≡ x)

abbrev pub Grew : Builder → Builder → List Told → Type 0
Grew a b ps = StandsAs b (built ps (Some (state_of a)))

-- ---- one after the other

built_both : (ps qs : List Told) (s : Option State) → built (ps ++ qs) s ≡ built qs (built ps s)
built_both [] qs s = refl
built_both (p ∷ ps) qs s = built_both ps qs (then p s)

built_none : (ps : List Told) → built ps None ≡ None
built_none [] = refl
built_none (p ∷ ps) = built_none ps

further_from : (b c : Builder) (qs : List Told) (s : Option State) → StandsAs b s → Grew b c qs
    → StandsAs c (built qs s)
further_from b c qs None x y = subst (StandsAs c) (sym (built_none qs)) tt
further_from b c qs (Some s) x y = subst (λ r. StandsAs c (built qs (Some r))) x y

pub grew_nothing : (b : Builder) → Grew b b []
grew_nothing b = refl

pub grew_further : (a b c : Builder) (ps qs : List Told) → Grew a b ps → Grew b c qs → Grew a c (ps ++ qs)
grew_further a b c ps qs x y = subst (StandsAs c) (sym (built_both ps qs (Some (state_of a))))
    (further_from b c qs (built ps (Some (state_of a))) x y)
