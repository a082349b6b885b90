-- The first byte of a term, and the guard of a table.
use Rattle.aml_parse.proofs.Common.{◌≡◌, ℕ, zero, suc, Bool, true, false, List, [], ◌∷◌, ◌++◌, length, Option, Some}
use Rattle.aml_parse.proofs.Common.{None, Ok, refl, sym, ap, subst, ◌<◌, ◌∙◌, append_assoc, arith, inl, inr, eqb-true}
use Rattle.aml_parse.proofs.Common.{eq-eqb, append-nil, Name, IsName, spelling, is_name_lead, is_bare, PathSet}
use Rattle.aml_parse.proofs.Common.{name_lead, PkgWidth, PartKind, Position, TailKind, row_of, has_length, Tree}
use Rattle.aml_parse.proofs.Common.{nothing, named, op, child, Parts, no_parts, part_more, Tail, empty, opcode_bytes}
use Rattle.aml_parse.proofs.Common.{packed, encoding, encodings, parts_encoding, tail_encoding, HasWidth, terms_in}
use Rattle.aml_parse.proofs.Common.{tail_in, option_map, has_opcode, Setting, IsLawful, AreParts, IsTail, zero_bare}
use Rattle.aml_parse.proofs.Common.{lead_of, opcode_lead, row_lead_is}
use Rattle.aml_parse.specs.Reading.{guard_at}

name_leads : (n : Name) (behind rest : List ℕ) (b : ℕ) → IsName n → is_bare n ≡ false → spelling n ++ rest ≡ b ∷ behind
    → is_name_lead b ≡ true
name_leads n behind rest b is other e =
    let l = name_lead n is in
    let same : l.lead ≡ b = cc (ap (λ (t : List ℕ). t ++ rest) l.text, e) in
    elim l.kind [
      | inl k ↦ subst (λ (c : ℕ). is_name_lead c ≡ true) same k.0
      | inr k ↦ absurd (let x : is_bare n ≡ true = k.0 in cc)
    ]

module _ (s : Setting) where
  -- a term whose first byte is below 5B and begins no name has this byte as its opcode, but for a target
  pub led_by : (levels : ℕ) (p : Position) (ls : PathSet) (t : Tree) (rest : List ℕ) (b : ℕ) (behind : List ℕ)
      → IsLawful s levels p ls t
      → (p ≡ Position.Target → ⊥) → encoding s.code t ++ rest ≡ b ∷ behind → is_name_lead b ≡ false → b < 0x5B
      → has_opcode b t ≡ true
  led_by zero p ls t rest b behind h other e g less = absurd h
  led_by (suc levels) p ls nothing rest b behind h other e g less = absurd (other h)
  led_by (suc levels) p ls (named n ts) rest b behind h other e g less =
      let leads = name_leads n behind (encodings s.code ts ++ rest) b h.0 h.1 (sym (append_assoc (spelling n) (encodings s.code ts) rest) ∙ e) in
      absurd (cc (leads, g))
  led_by (suc levels) p ls (op o w ps t) rest b behind h other e g less =
      let content = packed w (parts_encoding s.code ps ++ tail_encoding s.code t) in
      let l = opcode_lead o (content ++ rest) in
      let lead : lead_of o ≡ b = cc (l.1, append_assoc (opcode_bytes o) content rest, e) in
      eq-eqb o b (row_lead_is o b h.row h.listed lead less)

-- ---- the opcode 00 stands alone

no_width : (k : Option TailKind) (w : Option PkgWidth) (len : ℕ) → has_length k ≡ false → HasWidth k w len → w ≡ None
no_width None None len e h = refl
no_width None (Some w) len e h = absurd h
no_width (Some k) w len e h = absurd cc

module _ (s : Setting) (levels : ℕ) (ls : PathSet) where
  pub tail_is_empty : (p q : Position) (k : Option TailKind) (t : Tail) → has_length k ≡ false
      → IsTail s (IsLawful s levels) q (option_map (tail_in p) k) ls t → t ≡ empty
  tail_is_empty p q None empty e l = refl
  tail_is_empty p q None _ e l = absurd l
  tail_is_empty p q _ t e l = absurd cc

  none_of_none : (ps : Parts) → AreParts (λ q. IsLawful s levels q ls) [] ps → ps ≡ no_parts
  none_of_none no_parts h = refl
  none_of_none (part_more x xs) h = absurd h

  one_of_one : (ps : Parts) → AreParts (λ q. IsLawful s levels q ls) (PartKind.Term ∷ []) ps
      → (t : Tree) × (ps ≡ part_more (child t) no_parts) × IsLawful s levels Position.Argument ls t
  one_of_one no_parts h = absurd h
  one_of_one (part_more (child t) no_parts) h = (t, refl, h.0)
  one_of_one (part_more (child t) (part_more x xs)) h = absurd h.1
  one_of_one (part_more _ xs) h = absurd h.0

-- what is read where the opcode 00 stands
zero_alone : (s : Setting) (levels : ℕ) (p : Position) (ls : PathSet) (t : Tree) → IsLawful s levels p ls t
    → has_opcode 0x00 t ≡ true
    → t ≡ op 0x00 None no_parts empty
zero_alone s zero p ls t h e = absurd h
zero_alone s (suc levels) p ls nothing h e = absurd cc
zero_alone s (suc levels) p ls (named n ts) h e = absurd cc
zero_alone s (suc levels) p ls (op o w ps t) h e =
    let row = h.row in
    let o_is : o ≡ 0x00 = eqb-true o 0x00 e in
    let z = zero_bare row (subst (λ (n : ℕ). row_of n ≡ Some row) o_is h.listed) in
    let len = length (parts_encoding s.code ps ++ tail_encoding s.code t) in
    let w_is : w ≡ None = no_width row.tail w len z.1 h.width in
    let ps_is = none_of_none s levels ls ps (subst (λ (ks : List PartKind). AreParts (λ q. IsLawful s levels q ls) ks ps) z.0 h.parts) in
    let t_is = tail_is_empty s levels ls p (terms_in p row.place) row.tail t z.1 h.tail in
    cc

-- ---- guards

-- the predicate of a guard is the byte 00
abbrev pub IsGuarded : Bool → Parts → Type 0
IsGuarded true ps = ps ≡ part_more (child (op 0x00 None no_parts empty)) no_parts
IsGuarded false ps = Unit {0}

pub guarded_so : (guarded : Bool) (ps : Parts)
    → (guarded ≡ true → ps ≡ part_more (child (op 0x00 None no_parts empty)) no_parts) → IsGuarded guarded ps
guarded_so true ps h = h refl
guarded_so false ps h = tt

-- the one part of a guard that was read is the opcode 00
pub guard_holds : (s : Setting) (levels : ℕ) (ls : PathSet) (guarded : Bool) (ks : List PartKind) (ps : Parts) (inside rest : List ℕ)
    → (guarded ≡ true → ks ≡ PartKind.Term ∷ []) → (guarded ≡ true → (behind : List ℕ) × (inside ≡ 0x00 ∷ behind))
    → AreParts (λ q. IsLawful s levels q ls) ks ps → inside ≡ parts_encoding s.code ps ++ rest → IsGuarded guarded ps
guard_holds s levels ls false ks ps inside rest one first h whole = tt
guard_holds s levels ls true ks ps inside rest one first h whole =
    let f = first refl in
    let t = one_of_one s levels ls ps (subst (λ (l : List PartKind). AreParts (λ q. IsLawful s levels q ls) l ps) (one refl) h) in
    let spelled : parts_encoding s.code ps ≡ encoding s.code t.0 = ap (parts_encoding s.code) t.1 ∙ append-nil (encoding s.code t.0) in
    let begins : encoding s.code t.0 ++ rest ≡ 0x00 ∷ f.0 = ap (λ (b : List ℕ). b ++ rest) (sym spelled) ∙ sym whole ∙ f.1 in
    let led = led_by s levels Position.Argument ls t.0 rest 0x00 f.0 t.2 (λ z. absurd cc) begins refl (omega arith) in
    t.1 ∙ ap (λ (y : Tree). part_more (child y) no_parts) (zero_alone s levels Position.Argument ls t.0 t.2 led)

-- a guard is read again
pub guard_again : (guarded : Bool) (at end : ℕ) (code : List ℕ) (ps : Parts) (rest : List ℕ) → IsGuarded guarded ps
    → guard_at guarded at end (parts_encoding code ps ++ rest) ≡ Ok guarded
guard_again false at end code ps rest h = refl
guard_again true at end code ps rest h = ap (λ (xs : Parts). guard_at true at end (parts_encoding code xs ++ rest)) h
