-- Paths as they are printed, and what gives them back. A path is read segment by segment, each with a byte in front:
-- the backslash, and then dots. What is read and what is left are the text, and a path that is printed so goes on with
-- what is left; so there is none where no segment follows.
use Rattle.acpi_folder.proofs.Common.{◌≡◌, ℕ, ◌-◌, ◌<◌, ◌≤◌, true, List, [], ◌∷◌, ◌++◌, length, take, drop, Ok, refl}
use Rattle.acpi_folder.proofs.Common.{sym, ap, ◌∙◌, append_assoc, inl, inr, arith, get_or, append-nil, flat_map}
use Rattle.acpi_folder.proofs.Common.{encode_utf8, drop_at, take_all, nil_from_length}
use Rattle.std.proofs.lemmas.Str.{encode_ascii}
use Rattle.std.proofs.lemmas.List.Concat.{flat_map-append}
use Rattle.std.proofs.lemmas.Bool.Decides.{nat_tests}
use Rattle.aml_names.specs.declared.segments.Seg.{Seg}
use Rattle.aml_names.specs.declared.faults.CodeFault.{CodeFault}
use Rattle.aml_names.specs.declared.faults.CodeFault.TheVariants as faults
use Rattle.aml_names.specs.Names.{is_lead_char, is_name_char, IsNameSeg}
use Rattle.aml_names.proofs.NameLaws.{AreNameSegs, segment_takes, segment_again}
use Rattle.aml_names.specs.NameReading.{segment_at, Fails}
use Rattle.aml_names.specs.Paths.{segment_text, path_text}
use Rattle.aml_names.proofs.StepLaws.{IsBytes, IsBytes-drop, IsBytes-take, Takes}
use Rattle.acpi_folder.specs.Externals.{IsPrinted, BeginsWith, BeginsWithNone}

-- ---- a segment: a NameSeg is printed as its bytes, which are four

small : (c : ℕ) → is_name_char c ≡ true → c < 128
small c named = grind (arith, nat_tests)

lead_small : (c : ℕ) → is_lead_char c ≡ true → c < 128
lead_small c named = grind (arith, nat_tests)

text_is : (bytes : List ℕ) → IsNameSeg bytes → (flat_map encode_utf8 bytes ≡ bytes) × (length bytes ≡ 4)
text_is (a ∷ b ∷ c ∷ d ∷ []) named =
    (rw (encode_ascii a (lead_small a named.0), encode_ascii b (small b named.1), encode_ascii c (small c named.2), encode_ascii d (small d named.3)), refl)
text_is _ named = absurd named

segment_is : (segment : Seg) → IsNameSeg segment.0 → segment_text segment ≡ segment.0
segment_is segment named = (text_is segment.0 named).0

cut : (segment : Seg) (rest : List ℕ) → IsNameSeg segment.0 → drop 4 (segment_text segment ++ rest) ≡ rest
cut segment rest named = drop_at (segment_text segment) rest 4 (ap length (segment_is segment named) ∙ (text_is segment.0 named).1)

-- bytes by the one in front, as the code takes them apart
headed : (lead : ℕ) (bytes : List ℕ) → 1 ≤ length bytes → get_or bytes 0 0 ≡ lead
    → bytes ≡ lead ∷ take (length bytes - 1) (drop 1 bytes)
headed lead [] some first = absurd (omega arith)
headed lead (byte ∷ bytes) some first = let all = take_all (length (byte ∷ bytes) - 1) bytes (omega arith) in cc

pub begins_all : (lead : ℕ) (bytes : List ℕ) (segment : Seg) (rest : List ℕ) → 1 ≤ length bytes
    → get_or bytes 0 0 ≡ lead → IsBytes bytes
    → segment_at 0 (take (length bytes - 1) (drop 1 bytes)) ≡ Ok (segment, rest) → BeginsWith lead bytes segment rest
begins_all lead bytes segment rest some first fits read =
    let others : List ℕ = take (length bytes - 1) (drop 1 bytes) in
    let taken : Takes others segment.0 rest × IsNameSeg segment.0 =
    segment_takes 0 others segment rest (IsBytes-take (length bytes - 1) (drop 1 bytes) (IsBytes-drop 1 bytes fits)) read in
    record { named = taken.1; parts = cc (headed lead bytes some first, taken.0.parts, segment_is segment taken.1) }

tail_is : (x y : ℕ) (xs ys : List ℕ) → x ∷ xs ≡ y ∷ ys → xs ≡ ys
tail_is x y xs ys same = cc

pub begins_none_all : (lead : ℕ) (bytes : List ℕ) (fault : CodeFault) → 1 ≤ length bytes → get_or bytes 0 0 ≡ lead
    → Fails fault (segment_at 0 (take (length bytes - 1) (drop 1 bytes))) → (fault ≡ faults.NoMemory → ⊥)
    → BeginsWithNone lead bytes
begins_none_all lead bytes fault some first (inl memory) other segment rest begun = absurd (other memory)
begins_none_all lead bytes fault some first (inr failed) other segment rest begun =
    let others : List ℕ = take (length bytes - 1) (drop 1 bytes) in
    let text : others ≡ segment_text segment ++ rest = tail_is lead lead _ _ (sym (headed lead bytes some first) ∙ begun.parts) in
    cc (text, segment_is segment begun.named, segment_again 0 segment rest begun.named)

-- ---- a path

-- segments with a byte in front of each, of which the first is another
unfoldable pub after : ℕ → List Seg → List ℕ
after lead [] = []
after lead (segment ∷ segments) = lead ∷ segment_text segment ++ flat_map (λ s. 46 ∷ segment_text s) segments

-- the byte in front of the next segment
abbrev pub next : List Seg → ℕ
next [] = 92
next (segment ∷ segments) = 46

dot : (segments : List Seg) (segment : Seg) → 46 ≡ next (segments ++ segment ∷ [])
dot [] segment = refl
dot (first ∷ segments) segment = refl

after_dot : (segments : List Seg) → flat_map (λ s. 46 ∷ segment_text s) segments ≡ after 46 segments
unfolding after
after_dot [] = refl
after_dot (segment ∷ segments) = refl

path_after : (path : List Seg) → 0 < length path → path_text path ≡ after 92 path
unfolding after
path_after [] some = absurd (omega arith)
path_after (segment ∷ segments) some = refl

regroup : (t f g rest : List ℕ) → (t ++ (f ++ (g ++ []))) ++ rest ≡ (t ++ f) ++ (g ++ rest)
regroup t f g rest = simp (append_assoc, append-nil)

after_more : (segments : List Seg) (segment : Seg) (rest : List ℕ)
    → after 92 (segments ++ segment ∷ []) ++ rest ≡ after 92 segments ++ (next segments ∷ segment_text segment ++ rest)
unfolding after
after_more [] segment rest = simp append_assoc
after_more (first ∷ segments) segment rest =
    ap (λ (bytes : List ℕ). 92 ∷ (segment_text first ++ bytes) ++ rest) (flat_map-append (λ (s : Seg). 46 ∷ segment_text s) segments (segment ∷ []))
    ∙ ap (λ (bytes : List ℕ). 92 ∷ bytes) (regroup (segment_text first) _ (46 ∷ segment_text segment) rest)

named_more : (segments : List Seg) (segment : Seg) → AreNameSegs segments → IsNameSeg segment.0
    → AreNameSegs (segments ++ segment ∷ [])
named_more [] segment all named = (named, tt)
named_more (first ∷ segments) segment all named = (all.0, named_more segments segment all.1 named)

-- bytes are segments, the first behind this byte and the others behind dots
pub record Follows (lead : ℕ) (rest : List ℕ) : Type 0 where
  pub others : List Seg
  pub named : AreNameSegs others
  pub same : rest ≡ after lead others

-- so are those behind the first segment
follows : (lead : ℕ) (rest : List ℕ) (segment : Seg) (behind : List ℕ) → BeginsWith lead rest segment behind
    → (others : List Seg) → AreNameSegs others
    → rest ≡ after lead others → Follows 46 behind
unfolding after
follows lead rest segment behind begun [] named same = absurd cc
follows lead rest segment behind begun (first ∷ others) named same = record {
  others = others;
  named = named.1;
  same = sym (cut segment behind begun.named) ∙ ap (drop 4) (tail_is lead lead _ _ (sym begun.parts ∙ same)) ∙ cut first _ named.0 ∙ after_dot others;
}

-- if they don't begin with a segment, they aren't
stuck : (lead : ℕ) (rest : List ℕ) (others : List Seg) → AreNameSegs others → 0 < length rest → BeginsWithNone lead rest
    → rest ≡ after lead others → ⊥
unfolding after
stuck lead rest [] named some none same = omega (arith, ap length same)
stuck lead rest (segment ∷ segments) named some none same = none segment _ (record { named = named.0; parts = same })

-- how far a path is read: these segments, this byte in front of the next, and what a path that is printed so goes on
-- with
pub record IsRead (text : List ℕ) (segments : List Seg) (rest : List ℕ) (lead : ℕ) : Type 0 where
  pub same : text ≡ after 92 segments ++ rest
  pub named : AreNameSegs segments
  pub led : lead ≡ next segments
  pub goes_on : (path : List Seg) → IsPrinted text path → Follows lead rest

pub unread : (text : List ℕ) (segments : List Seg) → segments ≡ [] → IsRead text segments text 92
unfolding after
unread text segments none = rw none (record {
  same = refl;
  named = tt;
  led = refl;
  goes_on = λ path it. record { others = path; named = it.below.segments; same = it.same ∙ path_after path it.below.below };
})

-- a turn of the loop over segments
pub turn : (text : List ℕ) (segments now : List Seg) (rest : List ℕ) (lead : ℕ) (segment : Seg) (behind : List ℕ)
    → IsRead text segments rest lead
    → BeginsWith lead rest segment behind → now ≡ segments ++ segment ∷ [] → IsRead text now behind 46
turn text segments now rest lead segment behind before begun grown = rw grown (record {
  same = rw (after_more segments segment behind, ← before.led, ← begun.parts) before.same;
  named = named_more segments segment before.named begun.named;
  led = dot segments segment;
  goes_on = λ path it. let f = before.goes_on path it in follows lead rest segment behind begun f.others f.named f.same;
})

pub none_printed : (text : List ℕ) (segments : List Seg) (rest : List ℕ) (lead : ℕ) (path : List Seg)
    → IsRead text segments rest lead → 0 < length rest
    → BeginsWithNone lead rest → IsPrinted text path → ⊥
none_printed text segments rest lead path before some none it =
    let f = before.goes_on path it in stuck lead rest f.others f.named some none f.same

-- nothing is left: all bytes are the path that is read
all_read : (text : List ℕ) (segments : List Seg) (rest : List ℕ) (lead : ℕ) → IsRead text segments rest lead
    → length rest ≡ 0 → text ≡ after 92 segments
all_read text segments rest lead before none = rw (nil_from_length rest none, append-nil) at before.same

pub printed : (text : List ℕ) (segments : List Seg) (rest : List ℕ) (lead : ℕ) → IsRead text segments rest lead
    → length rest ≡ 0 → 0 < length segments
    → IsPrinted text segments
printed text segments rest lead before none some =
    record { below = record { below = some; segments = before.named }; same = all_read text segments rest lead before none ∙ sym (path_after segments some) }

-- no bytes print no path
nothing_printed : (path : List Seg) → path_text path ≡ [] → ⊥
nothing_printed [] same = cc
nothing_printed (segment ∷ segments) same = cc

pub root_printed : (text : List ℕ) (segments : List Seg) (rest : List ℕ) (lead : ℕ) (path : List Seg)
    → IsRead text segments rest lead → length rest ≡ 0
    → length segments ≡ 0 → IsPrinted text path → ⊥
unfolding after
root_printed text segments rest lead path before none root it =
    nothing_printed path (sym it.same ∙ all_read text segments rest lead before none ∙ ap (after 92) (nil_from_length segments root))
