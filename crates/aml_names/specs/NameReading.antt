-- Reading bytes forward, one step after the other (ACPI 6.5, 20.2). A step is handed where the innermost span ends, as
-- an offset in the code, and what is left of that span. It answers what it read and what it left, or the first fault.
use Rattle.std.specs.Prelude.{◌≡◌, ℕ, List, [], ◌∷◌, Result, Ok, Err, ◌⊎◌, zero, suc, ◌-◌, ◌≤◌, Bool, true, false, ◌&&◌}
use Rattle.std.specs.Prelude.{◌==◌, nat_lt, not, if◌then◌else◌, ◌++◌, length, take, drop}
use Rattle.aml_names.specs.declared.faults.CodeFault.{CodeFault}
use Rattle.aml_names.specs.declared.faults.CodeFault.TheVariants as faults
use Rattle.aml_names.specs.declared.segments.Seg.{Seg}
use Rattle.aml_names.specs.declared.names.Name.{Name}
use Rattle.aml_names.specs.declared.names.NameForm.{NameForm}
use Rattle.aml_names.specs.declared.names.NameForm.TheVariants.{Null, One, Dual, Multi}
use Rattle.aml_names.specs.Names.{is_lead_char, is_name_char, IsName, spelling}

-- one step, and another over what it answered
infixl 10 ◌>>=◌
abbrev pub ◌>>=◌ : {A B : Type 0} → Result A CodeFault → (A → Result B CodeFault) → Result B CodeFault
(Ok x) >>= f = f x
(Err e) >>= f = Err e

-- a function that refused by this fault: memory was refused, or reading gives the fault
abbrev pub Fails : {Y : Type 0} → CodeFault → Result Y CodeFault → Type 0
Fails e read = (e ≡ faults.NoMemory) ⊎ (read ≡ Err e)

-- what a function answered, seen by a view, is what reading gives, unless memory was refused
abbrev pub Gives : {X Y : Type 0} → (X → Y) → Result X CodeFault → Result Y CodeFault → Type 0
Gives view (Ok x) read = read ≡ Ok (view x)
Gives view (Err e) read = Fails e read

-- what was read, and what is left
abbrev pub Left : Type 0 → Type 0
Left A = Result (A × List ℕ) CodeFault

-- one byte
abbrev pub byte_at : ℕ → List ℕ → Left ℕ
byte_at end [] = Err (faults.Truncated end)
byte_at end (b ∷ rest) = Ok (b, rest)

-- ---- Reading a name from left to right (ACPI 6.5, 20.2.2).

-- a byte that passes a test: one that doesn't can't stand there
abbrev pub passing_at : (ℕ → Bool) → ℕ → List ℕ → Left ℕ
passing_at passes end [] = Err (faults.Truncated end)
passing_at passes end (b ∷ rest) = if passes b then Ok (b, rest) else Err (faults.BadName (end - length (b ∷ rest)))

-- a NameSeg
unfoldable pub segment_at : ℕ → List ℕ → Left Seg
segment_at end bytes = do
  a ← passing_at is_lead_char end bytes
  b ← passing_at is_name_char end a.1
  c ← passing_at is_name_char end b.1
  d ← passing_at is_name_char end c.1
  Ok (record { 0 = a.0 ∷ b.0 ∷ c.0 ∷ d.0 ∷ [] }, d.1)

-- so many NameSegs
unfoldable pub segments_at : ℕ → ℕ → List ℕ → Left (List Seg)
segments_at zero end bytes = Ok ([], bytes)
segments_at (suc n) end bytes = do
  first ← segment_at end bytes
  others ← segments_at n end first.1
  Ok (first.0 ∷ others.0, others.1)

-- a number of segments, which isn't 0
abbrev pub is_count : ℕ → Bool
is_count n = nat_lt 0 n

-- how the segments are spelled and how many there are, by the lead byte of a NamePath: NullName, DualNamePrefix,
-- MultiNamePrefix and a number, or a segment's own
abbrev pub form_by : ℕ → ℕ → List ℕ → List ℕ → Left (NameForm × ℕ)
form_by lead end bytes rest =
    if lead == 0x00 then Ok ((Null, 0), rest) else
    if lead == 0x2E then Ok ((Dual, 2), rest) else
    if lead == 0x2F then (passing_at is_count end rest >>= λ count. Ok ((Multi, count.0), count.1)) else
    Ok ((One, 1), bytes)

unfoldable pub form_at : ℕ → List ℕ → Left (NameForm × ℕ)
form_at end bytes = do
  lead ← byte_at end bytes
  form_by lead.0 end bytes lead.1

-- how many ParentPrefixChars stand in front
unfoldable pub parents : List ℕ → ℕ
parents [] = 0
parents (b ∷ rest) = if b == 0x5E then suc (parents rest) else 0

-- whether a RootChar stands in front
abbrev pub is_rooted : List ℕ → Bool
is_rooted [] = false
is_rooted (b ∷ rest) = b == 0x5C

-- a NamePath behind these prefixes
unfoldable pub path_at : Bool → ℕ → ℕ → List ℕ → Left Name
path_at root ups end bytes = do
  form ← form_at end bytes
  segs ← segments_at form.0.1 end form.1
  Ok (record { root = root; ups = ups; form = form.0.0; segs = segs.0 }, segs.1)

-- a NameString: a RootChar and a NamePath, or ParentPrefixChars and a NamePath
unfoldable pub name_at : ℕ → List ℕ → Left Name
name_at end bytes =
    if is_rooted bytes then path_at true 0 end (drop 1 bytes)
    else path_at false (parents bytes) end (drop (parents bytes) bytes)

-- A fault of a name: the bytes end, or a byte that begins no segment can't stand in its place.
abbrev pub NameFault : ℕ → List ℕ → CodeFault → Type 0
NameFault end bytes d =
    (d ≡ faults.Truncated end) ⊎ ((front : List ℕ) × (b : ℕ) × (behind : List ℕ) × (bytes ≡ front ++ (b ∷ behind))
    × (is_lead_char b ≡ false) × (d ≡ faults.BadName (end - length (b ∷ behind))))

-- whether a name has a segment
abbrev pub has_segment : Name → Bool
has_segment n = nat_lt 0 (length n.segs)

-- the bare NullName: neither a prefix nor a segment. Its spelling is the byte 00 alone.
abbrev pub is_bare : Name → Bool
is_bare n = (not n.root && (n.ups == 0)) && not (has_segment n)

-- bytes that begin with a text
abbrev pub Begins : List ℕ → List ℕ → Type 0
Begins bytes text = (rest : List ℕ) × (bytes ≡ text ++ rest)

-- A name that the first k bytes spell.
pub record Spelled (bytes : List ℕ) (n : Name) (k : ℕ) : Type 0 where
  pub name : IsName n
  pub room : k ≤ length bytes
  pub text : take k bytes ≡ spelling n

-- No name is spelled by the first of these bytes.
abbrev pub SpellsNone : List ℕ → Type 0
SpellsNone bytes = (n : Name) → IsName n → Begins bytes (spelling n) → ⊥
