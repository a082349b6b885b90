-- Where an Else stands (ACPI 6.5, 20.2.5.3): DefIfElse is an If and perhaps one Else, and nothing comes between them.
-- So an Else, at whatever depth, is a term of a list of terms, and the term before it is an If.
use Rattle.std.specs.Prelude.{◌≡◌, ℕ, Bool, true, false, List, [], ◌++◌}
use Rattle.aml_code.specs.Tree.{Tree, nothing, named, op, Trees, no_trees, tree_more, child, Parts, no_parts, part_more}
use Rattle.aml_code.specs.Tree.{Tail, terms, elements, fields, connection, Fields, no_fields, field_more, buffer}
use Rattle.aml_code.specs.Tree.{encoding, encodings}
use Rattle.aml_names.specs.Paths.{PathSet}
use Rattle.aml_code.specs.declared.rows.Position.{Position}
use Rattle.aml_code.specs.Lawful.{has_opcode, Setting, IsLawful, AreTerms, BodyStands, BodiesStand}

abbrev mutual
  -- In a list of terms, and in all lists inside these terms, each Else stands right behind an If. It is said whether an
  -- If stands before the list.
  pub ElsesFollow : Bool → Trees → Type 0
  ElsesFollow behind_if no_trees = Unit {0}
  ElsesFollow behind_if (tree_more t ts) = ElseFollows behind_if t × ElsesFollow (has_opcode 0xA0 t) ts

  -- the same of one term; whether it stands right behind an If
  pub ElseFollows : Bool → Tree → Type 0
  ElseFollows behind_if nothing = Unit {0}
  ElseFollows behind_if (named n ts) = NoElses ts
  ElseFollows behind_if (op o w ps t) = (o ≡ 0xA1 → behind_if ≡ true) × FollowInParts ps × FollowInTail t

  -- arguments, or elements: none of them stands behind an If
  pub NoElses : Trees → Type 0
  NoElses no_trees = Unit {0}
  NoElses (tree_more t ts) = ElseFollows false t × NoElses ts

  pub FollowInParts : Parts → Type 0
  FollowInParts no_parts = Unit {0}
  FollowInParts (part_more (child t) ps) = ElseFollows false t × FollowInParts ps
  FollowInParts (part_more _ ps) = FollowInParts ps

  pub FollowInTail : Tail → Type 0
  FollowInTail (terms ts) = ElsesFollow false ts
  FollowInTail (elements ts) = NoElses ts
  FollowInTail (fields us) = FollowInFields us
  FollowInTail _ = Unit {0}

  pub FollowInFields : Fields → Type 0
  FollowInFields no_fields = Unit {0}
  FollowInFields (field_more (connection (buffer t)) us) = ElseFollows false t × FollowInFields us
  FollowInFields (field_more _ us) = FollowInFields us

-- ---- Where a term ends, its bytes tell (ACPI 6.5, 20.2): nothing marks its end, so the bytes of a term never begin
-- those of another that may stand in its place.

-- The tree is a term in a position at an offset of the code: it is lawful where these paths are declared, with however
-- many levels, and each method's body in it is the span where it stands, and no other span with the same bytes.
pub record IsTermAt (s : Setting) (p : Position) (ls : PathSet) (at : ℕ) (t : Tree) : Type 0 where
  pub levels : ℕ
  pub lawful : IsLawful s levels p ls t
  pub bodies : BodyStands s.code at t

-- the trees are a list of terms there
pub record AreTermsAt (s : Setting) (p : Position) (ls : PathSet) (at : ℕ) (ts : Trees) : Type 0 where
  pub levels : ℕ
  pub lawful : AreTerms s levels p ls ts
  pub bodies : BodiesStand s.code at ts

-- Of two terms the bytes of neither are a proper prefix of the other's: where those of u begin with those of t, u is t,
-- and nothing is behind them.
abbrev pub NoProperPrefix : List ℕ → (Tree → Type 0) → Type 0
NoProperPrefix code Is =
    (t u : Tree) (behind : List ℕ) → Is t → Is u → encoding code u ≡ encoding code t ++ behind → (u ≡ t) × (behind ≡ [])

-- terms with the same bytes are the same
abbrev pub SameByBytes : List ℕ → (Tree → Type 0) → Type 0
SameByBytes code Is = (t u : Tree) → Is t → Is u → encoding code u ≡ encoding code t → u ≡ t

-- and so are lists of terms
abbrev pub AllSameByBytes : List ℕ → (Trees → Type 0) → Type 0
AllSameByBytes code AreAll = (ts us : Trees) → AreAll ts → AreAll us → encodings code us ≡ encodings code ts → us ≡ ts
