-- What was read from the front of the bytes, and what a reader of terms keeps.
use Rattle.aml_parse.proofs.Common.{◌≡◌, ℕ, zero, suc, ◌+◌, ◌<◌, ◌≤◌, true, List, [], ◌∷◌, ◌++◌, length, Some, Result}
use Rattle.aml_parse.proofs.Common.{Ok, refl, sym, subst, arith, length-append, CodeFault, Name, IsNameSeg, IsName}
use Rattle.aml_parse.proofs.Common.{spelling, PathSet, name_lead, Takes, PartKind, Position, TailKind, package_bytes}
use Rattle.aml_parse.proofs.Common.{Tree, nothing, named, op, Trees, Part, Parts, Tail, Field, unit, connection, Fields}
use Rattle.aml_parse.proofs.Common.{Link, tree_count, opcode_bytes, packed, encoding, encodings, part_encoding}
use Rattle.aml_parse.proofs.Common.{parts_encoding, tail_encoding, field_encoding, fields_encoding, link_encoding}
use Rattle.aml_parse.proofs.Common.{after, after_all, after_tail, count_in, Setting, IsLawful, AreTerms, IsPart}
use Rattle.aml_parse.proofs.Common.{AreParts, IsTail, IsField, AreFields, BodyStands, BodiesStand, TailStands, Arities}
use Rattle.aml_parse.proofs.Common.{opcode_some, Within, Option, Seg, Row, row_of, PkgWidth, with_declared}
use Rattle.aml_parse.proofs.Common.{names_declared, declared_by, row_opcode}
use Rattle.aml_parse.specs.Reading.{Reader, takes_names}
use Rattle.aml_parse.proofs.FlatReads.{Answers}
use Rattle.aml_parse.proofs.Bodiless.{is_bodiless, Standing}

-- what was read from the front of the bytes: it is spelled by what was taken, it is so, and this is declared behind it
pub record Took {A : Type 0} (spelled : A → List ℕ) (Is : A → Type 0) (behind : A → PathSet) (bs : List ℕ) (x : A × PathSet × List ℕ) : Type 0 where
  pub takes : Takes bs (spelled x.0) x.2
  pub is : Is x.0
  pub behind_is : x.1 ≡ behind x.0

-- the same of all of the bytes
pub record TookAll {A : Type 0} (spelled : A → List ℕ) (Is : A → Type 0) (behind : A → PathSet) (bs : List ℕ) (x : A × PathSet) : Type 0 where
  pub text : bs ≡ spelled x.0
  pub is : Is x.0
  pub behind_is : x.1 ≡ behind x.0

-- what a connection leads to
abbrev pub IsLink : Setting → ℕ → PathSet → Link → Type 0
IsLink s levels ls l = IsField (λ q. IsLawful s levels q ls) (connection l)

module _ (s : Setting) (levels : ℕ) where
  abbrev pub TookTerm : Position → ℕ → PathSet → List ℕ → Tree × PathSet × List ℕ → Type 0
  TookTerm p at ls = Took (encoding s.code) (λ t. IsLawful s levels p ls t × BodyStands s.code at t) (after s.scope ls)

  abbrev pub TookArguments : ℕ → PathSet → List ℕ → Trees × PathSet × List ℕ → Type 0
  TookArguments n ls = Took (encodings s.code) (λ ts. AreTerms s levels Position.Argument ls ts × (tree_count ts ≡ n)) (after_all s.scope ls)

  abbrev pub TookTerms : Position → ℕ → PathSet → List ℕ → Trees × PathSet → Type 0
  TookTerms p at ls = TookAll (encodings s.code) (λ ts. AreTerms s levels p ls ts × BodiesStand s.code at ts) (after_all s.scope ls)

  abbrev pub TookFields : PathSet → List ℕ → Fields × PathSet → Type 0
  TookFields ls = TookAll (fields_encoding s.code) (AreFields (λ q. IsLawful s levels q ls)) (λ us. ls)

  abbrev pub TookTail : Position → TailKind → ℕ → PathSet → List ℕ → Tail × PathSet → Type 0
  TookTail p k at ls = TookAll (tail_encoding s.code) (λ t. IsTail s (IsLawful s levels) p (Some k) ls t × TailStands s.code at t) (after_tail s.scope ls)

  abbrev pub TookPart : PartKind → PathSet → List ℕ → Part × PathSet × List ℕ → Type 0
  TookPart k ls = Took (part_encoding s.code) (IsPart (λ q. IsLawful s levels q ls) k) (λ x. ls)

  abbrev pub TookParts : List PartKind → PathSet → List ℕ → Parts × PathSet × List ℕ → Type 0
  TookParts ks ls = Took (parts_encoding s.code) (AreParts (λ q. IsLawful s levels q ls) ks) (λ xs. ls)

  abbrev pub TookLink : PathSet → List ℕ → Link × PathSet × List ℕ → Type 0
  TookLink ls = Took (link_encoding s.code) (IsLink s levels ls) (λ l. ls)

  abbrev pub TookField : PathSet → List ℕ → Field × PathSet × List ℕ → Type 0
  TookField ls = Took (field_encoding s.code) (IsField (λ q. IsLawful s levels q ls)) (λ u. ls)

  -- What a reader answers is so, or its fault is true. What is left of the levels makes up 512 with the offset: a term
  -- takes a level and a byte at least, so where no level is left the offset is 512 or more.
  abbrev pub Reads : {A : Type 0} → (ℕ → PathSet → List ℕ → A → Type 0) → (ℕ → PathSet → List ℕ → Result A CodeFault)
      → Type 0
  Reads Is read = (at end : ℕ) (ls : PathSet) (bs : List ℕ) → Within s.code at end bs → 512 ≤ levels + at → Answers s (Is at ls bs) (read end ls bs)

  -- what is read is lawful and spelled so, and a lawful term is read again, whatever follows it
  pub record IsReader (read : Position → Reader Tree) : Type 0 where
    pub reads : (p : Position) → Reads (TookTerm p) (read p)
    pub again : (p : Position) (end : ℕ) (ls : PathSet) (t : Tree) (rest : List ℕ) → IsLawful s levels p ls t
        → Standing (is_bodiless p ≡ true) (λ at. BodyStands s.code at t) end (encoding s.code t ++ rest)
        → read p end ls (encoding s.code t ++ rest) ≡ Ok (t, after s.scope ls t, rest)

-- ---- what was read by its row is what it is by its opcode

abbrev pub answer : Tree → PathSet → List ℕ → Tree × PathSet × List ℕ
answer t ls rest = (t, ls, rest)

pub by_opcode : (scope : Option (List Seg)) (o : ℕ) (row : Row) → row_of o ≡ Some row
    → (w : Option PkgWidth) (ps : Parts) (t : Tail) (ls : PathSet)
    (rest : List ℕ)
    → answer (op row.opcode w ps t) (with_declared scope ls (names_declared row.role ps t)) rest
    ≡ answer (op o w ps t) (declared_by scope (row_of o) ls ps t) rest
by_opcode scope o row listed w ps t ls rest = rw (row_opcode o row listed, listed) refl

-- ---- a term takes a byte at least

pub name_some : (n : Name) → IsName n → 0 < length (spelling n)
name_some n h = let l = name_lead n h in subst (λ (t : List ℕ). 0 < length t) (sym l.text) (omega arith)

seg_some : (text : List ℕ) → IsNameSeg text → 0 < length text
seg_some [] h = absurd h
seg_some (a ∷ text) h = omega arith

module _ (s : Setting) where
  pub nonempty : (levels : ℕ) (p : Position) (ls : PathSet) (t : Tree) → IsLawful s levels p ls t
      → 0 < length (encoding s.code t)
  nonempty zero p ls t h = absurd h
  nonempty (suc levels) p ls nothing h = omega arith
  nonempty (suc levels) p ls (named n ts) h = omega (arith, name_some n h.0, length-append (spelling n) (encodings s.code ts))
  nonempty (suc levels) p ls (op o w ps t) h =
      let content = packed w (parts_encoding s.code ps ++ tail_encoding s.code t) in omega (arith, opcode_some o, length-append (opcode_bytes o) content)

  pub field_some : (levels : ℕ) (ls : PathSet) (u : Field) → IsField (λ q. IsLawful s levels q ls) u
      → 0 < length (field_encoding s.code u)
  field_some levels ls (unit g w n) h = omega (arith, seg_some g.0 h.0, length-append g.0 (package_bytes w n))
  field_some levels ls _ h = omega arith

-- ---- names and tails

pub names_taken : (arity : Arities) (p : Position) (ls : PathSet) (n : Name) (m : ℕ) → count_in arity p ls n ≡ Some m
    → takes_names p ≡ true
names_taken arity Position.ModuleTerm ls n m h = absurd cc
names_taken arity Position.GuardTerm ls n m h = absurd cc
names_taken arity _ ls n m h = refl
