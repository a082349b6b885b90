-- Names as they are spelled, and where they lead (ACPI 6.5, 5.3 and 20.2.2).
use Rattle.std.specs.Prelude.{◌≡◌, ℕ, ◌-◌, ◌%◌, ◌<◌, nat_le, Bool, true, ◌&&◌, ◌||◌, ◌==◌, cond, List, [], ◌∷◌}
use Rattle.std.specs.Prelude.{◌++◌, length, take, replicate, flat_map, Option, Some, None}
use Rattle.std.specs.List.{AllByRecursion}
use Rattle.aml_names.specs.declared.segments.Seg.{Seg}
use Rattle.aml_names.specs.declared.names.Name.{Name}
use Rattle.aml_names.specs.declared.names.NameForm.{NameForm}
use Rattle.aml_names.specs.declared.names.NameForm.TheVariants.{Null, One, Dual, Multi}

-- LeadNameChar: A to Z, or _
abbrev pub is_lead_char : ℕ → Bool
is_lead_char c = (nat_le 65 c && nat_le c 90) || (c == 95)

-- NameChar: a LeadNameChar, or a digit
abbrev pub is_name_char : ℕ → Bool
is_name_char c = is_lead_char c || (nat_le 48 c && nat_le c 57)

-- four bytes that make a NameSeg
abbrev pub IsNameSeg : List ℕ → Type 0
IsNameSeg (a ∷ b ∷ c ∷ d ∷ []) =
    (is_lead_char a ≡ true) × (is_name_char b ≡ true) × (is_name_char c ≡ true) × (is_name_char d ≡ true)
IsNameSeg _ = ⊥

-- how many segments a form takes
abbrev pub FitsForm : NameForm → ℕ → Type 0
FitsForm Null n = n ≡ 0
FitsForm One n = n ≡ 1
FitsForm Dual n = n ≡ 2
FitsForm Multi n = (0 < n) × (n < 256)

-- a name that has a spelling: it has not both prefixes, and segments as its form takes them
pub record IsName (n : Name) : Type 0 where
  pub prefix : n.root ≡ true → n.ups ≡ 0
  pub form : FitsForm n.form (length n.segs)
  pub segments : AllByRecursion (λ s. IsNameSeg s.0) n.segs

-- what stands before n segments: NullName, nothing, DualNamePrefix, or MultiNamePrefix and their number (which is below
-- 256 in a name that has a spelling)
abbrev pub form_bytes : NameForm → ℕ → List ℕ
form_bytes Null n = 0x00 ∷ []
form_bytes One n = []
form_bytes Dual n = 0x2E ∷ []
form_bytes Multi n = 0x2F ∷ n % 256 ∷ []

-- the spelling of a name: RootChar or ParentPrefixChars, and a NamePath
abbrev pub spelling : Name → List ℕ
spelling n = cond n.root (0x5C ∷ []) []
    ++ (replicate n.ups 0x5E ++ (form_bytes n.form (length n.segs) ++ flat_map (λ s. s.0) n.segs))

-- a byte that can begin a name in any position: a LeadNameChar or a prefix (the NullName, 00, is none)
abbrev pub is_name_lead : ℕ → Bool
is_name_lead b = is_lead_char b || ((b == 0x5C) || ((b == 0x5E) || ((b == 0x2E) || (b == 0x2F))))

-- where a name leads from a scope, without a search
abbrev pub placed : List Seg → Name → Option (List Seg)
placed scope name = cond name.root (Some name.segs)
    (cond (nat_le name.ups (length scope)) (Some (take (length scope - name.ups) scope ++ name.segs)) None)
