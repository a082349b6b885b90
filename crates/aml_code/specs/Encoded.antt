-- The bytes of the pieces that are told: those so far, and the opcodes that aren't ended.
use Rattle.std.specs.Prelude.{◌≡◌, ◌==◌, ℕ, ◌+◌, ◌-◌, Bool, cond, nat_le, List, [], ◌∷◌, ◌++◌, length, take, drop}
use Rattle.std.specs.Prelude.{replicate, reverse, Option, Some, None, IfSome}
use Rattle.std.proofs.Common.{refl, sym, subst, ◌∙◌}
use lib.Pointwise.{pointwise}
use Rattle.aml_names.specs.Names.{spelling}
use Rattle.aml_code.specs.Packages.{width_len, package_bytes}
use Rattle.aml_code.specs.Pieces.{Told, absent, name, opcode, part, tail, end_of_list, field, link, line_pieces}
use Rattle.aml_code.specs.Tree.{Trees, opcode_bytes, encodings, part_encoding, tail_encoding, field_encoding}
use Rattle.aml_code.specs.declared.encoder.Encoder.{Encoder}
use Rattle.aml_code.specs.declared.encoder.Open.{Open}
use Rattle.aml_code.specs.declared.packages.PkgWidth.{PkgWidth}

-- two texts have the same bytes
abbrev pub same_bytes : List ℕ → List ℕ → Bool
same_bytes = pointwise ◌==◌

-- The bytes so far, in which a package that isn't ended has zeros for its length, and the opcodes, the innermost first:
-- where the length of its package stands, or would, and how wide it is.
abbrev pub State : Type 0
State = List ℕ × List Open

-- the room for a package length
abbrev pub room : Option PkgWidth → List ℕ
room None = []
room (Some w) = replicate (width_len w) 0

abbrev pub begun : ℕ → Option PkgWidth → List ℕ → List Open → Option State
begun o w out fs =
    Some (out ++ opcode_bytes o ++ room w, record { at = length (out ++ opcode_bytes o); width = w } ∷ fs)

-- with its length, which covers all that stands from there on
abbrev pub closed : Option PkgWidth → ℕ → List ℕ → Option (List ℕ)
closed None at out = Some out
closed (Some w) at out =
    cond (nat_le (at + width_len w) (length out))
    (Some (take at out ++ (package_bytes w (length out - at) ++ drop (at + width_len w) out))) None

abbrev pub with_rest : List Open → Option (List ℕ) → Option State
with_rest fs None = None
with_rest fs (Some out) = Some (out, fs)

-- the innermost opcode is ended
abbrev pub ended : List ℕ → List Open → Option State
ended out [] = None
ended out (f ∷ fs) = with_rest fs (closed f.width f.at out)

-- the bytes of a piece itself, of terms of this code
abbrev pub own : List ℕ → Told → List ℕ
own code absent = 0x00 ∷ []
own code (name n count) = spelling n
own code (part p) = part_encoding code p
own code (tail t) = tail_encoding code t
own code (field u) = field_encoding code u
own code link = 0x02 ∷ []
own code _ = []

-- one piece more: a tail, or the end of its list, ends an opcode
abbrev pub step : List ℕ → Told → List ℕ → List Open → Option State
step code (opcode o row w count) out fs = begun o w out fs
step code (tail t) out fs = ended (out ++ tail_encoding code t) fs
step code (end_of_list kind level) out fs = ended out fs
step code p out fs = Some (out ++ own code p, fs)

abbrev pub then : List ℕ → Told → Option State → Option State
then code p None = None
then code p (Some s) = step code p s.0 s.1

abbrev pub encoded : List ℕ → List Told → Option State → Option State
encoded code [] s = s
encoded code (p ∷ ps) s = encoded code ps (then code p s)

-- ---- what an encoder is seen as

abbrev pub state_of : Encoder → State
state_of e = (e.out.items, reverse e.opens.items)

-- the encoder stands at this state, if there is one
abbrev pub StandsAs : Encoder → Option State → Type 0
StandsAs e s = IfSome s (λ x. state_of e ≡ x)

-- of the same code, and these pieces were told
abbrev pub Grew : Encoder → Encoder → List Told → Type 0
Grew a b ps = (b.code.now ≡ a.code.now) × StandsAs b (encoded a.code.now ps (Some (state_of a)))

-- whether the terms of which these pieces are lines encode to the code
abbrev pub TellsSame : List ℕ → List Told → Bool → Type 0
TellsSame code ps same =
    (level : ℕ) (ts : Trees) → ps ≡ line_pieces level ts → same ≡ same_bytes (encodings code ts) code

-- ---- one after the other

encoded_both : (code : List ℕ) (ps qs : List Told) (s : Option State)
    → encoded code (ps ++ qs) s ≡ encoded code qs (encoded code ps s)
encoded_both code [] qs s = refl
encoded_both code (p ∷ ps) qs s = encoded_both code ps qs (then code p s)

encoded_none : (code : List ℕ) (ps : List Told) → encoded code ps None ≡ None
encoded_none code [] = refl
encoded_none code (p ∷ ps) = encoded_none code ps

further_from : (b c : Encoder) (qs : List Told) (s : Option State) → StandsAs b s
    → StandsAs c (encoded b.code.now qs (Some (state_of b))) → StandsAs c (encoded b.code.now qs s)
further_from b c qs None x y = subst (StandsAs c) (sym (encoded_none b.code.now qs)) tt
further_from b c qs (Some s) x y = subst (λ r. StandsAs c (encoded b.code.now qs (Some r))) x y

pub grew_nothing : (e : Encoder) → Grew e e []
grew_nothing e = (refl, refl)

pub grew_further : (a b c : Encoder) (ps qs : List Told) → Grew a b ps → Grew b c qs → Grew a c (ps ++ qs)
grew_further a b c ps qs x y = (
  y.0 ∙ x.0,
  subst (StandsAs c) (sym (encoded_both a.code.now ps qs (Some (state_of a))))
      (subst (λ code. StandsAs c (encoded code qs (encoded a.code.now ps (Some (state_of a))))) x.0
      (further_from b c qs (encoded a.code.now ps (Some (state_of a))) x.1 y.1)),
)
