-- A name that is read is spelled so, and a fault stands where it says (`name_sound`, over `Sound` of each step); what
-- spells a name is read as that name, whatever stands behind it (`name_again`). So no other name is spelled by the
-- bytes of one that is read, and none by those that are refused (`one_name`, `no_name`).
use Rattle.std.proofs.Common.{◌≡◌, ℕ, zero, suc, ◌+◌, ◌-◌, ◌%◌, ◌<◌, ◌≤◌, Bool, true, false, cond, eqb, List, [], ◌∷◌}
use Rattle.std.proofs.Common.{◌++◌, length, take, drop, replicate, Ok}
use Rattle.std.proofs.Common.{Err, refl, sym, ap, subst, ◌∙◌, append_assoc, ◌⊎◌, inl, inr, arith}
use Rattle.std.specs.List.{AllByRecursion, flat_map}
use Rattle.std.specs.Prelude.{nat_lt, not}
use Rattle.std.proofs.lemmas.Bool.{or_left, ltb-true, ltb-false, eqb-true, ne_eqb, lt-ltb, cond_both}
use Rattle.std.proofs.lemmas.List.{take_at, drop_at, length-append, append-nil as append_nil}
use Rattle.aml_names.specs.declared.faults.CodeFault.{CodeFault}
use Rattle.aml_names.specs.declared.faults.CodeFault.TheVariants as faults
use Rattle.aml_names.specs.declared.segments.Seg.{Seg}
use Rattle.aml_names.specs.declared.names.Name.{Name}
use Rattle.aml_names.specs.declared.names.NameForm.{NameForm}
use Rattle.aml_names.specs.declared.names.NameForm.TheVariants.{Null, One, Dual, Multi}
use Rattle.aml_names.specs.Names.{is_lead_char, IsNameSeg, FitsForm, IsName, form_bytes, spelling, is_name_lead}
use Rattle.aml_names.specs.NameReading.{Fails, Left, passing_at, segment_at, segments_at, is_count, form_by, form_at}
use Rattle.aml_names.specs.NameReading.{parents, is_rooted, path_at, name_at}
use Rattle.aml_names.specs.NameReading.{NameFault, is_bare, Begins, Spelled, SpellsNone}
use Rattle.aml_names.proofs.NameFaults.{Reads, Sound, sound_behind, sound_then, IsPassed, passed_reads, passing_sound}
use Rattle.aml_names.proofs.NameFaults.{IsSegment, segment_sound}
use Rattle.aml_names.proofs.StepLaws.{ok_is, IsBytes, IsBytes-drop, Takes}

abbrev pub AreNameSegs : List Seg → Type 0
AreNameSegs = AllByRecursion (λ (s : Seg). IsNameSeg s.0)

-- the bytes of segments, one after the other
abbrev segment_bytes : List Seg → List ℕ
segment_bytes = flat_map (λ (s : Seg). s.0)

-- ---- what is read is spelled so, and a fault stands where it says

behind_fits : (bytes text rest : List ℕ) → bytes ≡ text ++ rest → IsBytes bytes → IsBytes rest
behind_fits bytes text rest e fits =
    subst IsBytes (ap (drop (length text)) e ∙ drop_at text rest (length text) refl) (IsBytes-drop (length text) bytes fits)

pub segment_takes : (end : ℕ) (bytes : List ℕ) (s : Seg) (rest : List ℕ) → IsBytes bytes
    → segment_at end bytes ≡ Ok (s, rest) → Takes bytes s.0 rest
    × IsNameSeg s.0
segment_takes end bytes s rest fits e =
    let read : (bytes ≡ s.0 ++ rest) × IsNameSeg s.0 = subst (Sound end bytes (IsSegment bytes)) e (segment_sound end bytes) in
    (record { parts = read.0; rest_fits = behind_fits bytes s.0 rest read.0 fits }, read.1)

AreSegments : ℕ → List ℕ → List Seg × List ℕ → Type 0
AreSegments n bytes x = (bytes ≡ segment_bytes x.0 ++ x.1) × (AreNameSegs x.0 × (length x.0 ≡ n))

segments_sound : (n end : ℕ) (bytes : List ℕ) → Sound end bytes (AreSegments n bytes) (segments_at n end bytes)
unfolding segments_at AreSegments
segments_sound zero end bytes = (refl, (tt, refl))
segments_sound (suc n) end bytes =
    sound_then end bytes (IsSegment bytes) (AreSegments (suc n) bytes) (λ x h. (x.0.0, h.0)) (segment_at end bytes) _ (segment_sound end bytes) (λ first t1.
    sound_then end first.1 (AreSegments n first.1) (AreSegments (suc n) bytes) (λ x h. (segment_bytes x.0, h.0)) (segments_at n end first.1) _
    (segments_sound n end first.1) (λ others t2. (
      t1.0 ∙ ap (λ (t : List ℕ). first.0.0 ++ t) t2.0 ∙ sym (append_assoc first.0.0 (segment_bytes others.0) others.1),
      ((t1.1, t2.1.0), ap suc t2.1.1),
    )))

-- what the front of a path says
record Headed (bytes : List ℕ) (x : (NameForm × ℕ) × List ℕ) : Type 0 where
  read : Reads bytes x.1
  form : IsBytes bytes → (read.0 ≡ form_bytes x.0.0 x.0.1) × FitsForm x.0.0 x.0.1

form_sound : (end : ℕ) (bytes : List ℕ) → Sound end bytes (Headed bytes) (form_at end bytes)
unfolding form_at
form_sound end [] = inl refl
form_sound end (lead ∷ rest) = test 0x00 _ _ (λ q. record { read = (lead ∷ [], refl); form = λ fits. (alone 0x00 q, refl) }) (λ _.
    test 0x2E _ _ (λ q. record { read = (lead ∷ [], refl); form = λ fits. (alone 0x2E q, refl) }) (λ _.
    test 0x2F _ _ (λ q. sound_behind end (lead ∷ rest) rest (Headed (lead ∷ rest)) _ (lead ∷ [], refl)
    (sound_then end rest (IsPassed is_count rest) (Headed (lead ∷ rest)) (passed_reads is_count rest) (passing_at is_count end rest)
    (λ count. Ok ((Multi, count.0), count.1)) (passing_sound is_count none end rest) (λ count t. record {
      read = (lead ∷ count.0 ∷ [], ap (λ (l : List ℕ). lead ∷ l) t.0);
      form = λ fits.
          let below : count.0 < 256 = subst IsBytes (ap (λ (l : List ℕ). lead ∷ l) t.0) fits 1 in
          let same : count.0 ≡ count.0 % 256 = omega (arith, below) in
          ((λ i. eqb-true lead 0x2F q i ∷ same i ∷ []), (ltb-true 0 count.0 t.1, below));
    })))
    (λ _. record { read = ([], refl); form = λ fits. (refl, refl) })))
  where
    -- by the lead byte
    test : (c : ℕ) (x y : Left (NameForm × ℕ)) → (eqb lead c ≡ true → Sound end (lead ∷ rest) (Headed (lead ∷ rest)) x)
        → (eqb lead c ≡ false → Sound end (lead ∷ rest) (Headed (lead ∷ rest)) y)
        → Sound end (lead ∷ rest) (Headed (lead ∷ rest)) (cond (eqb lead c) x y)
    test c x y = cond_both (eqb lead c) x y (Sound end (lead ∷ rest) (Headed (lead ∷ rest)))

    alone : (c : ℕ) → eqb lead c ≡ true → lead ∷ [] ≡ c ∷ []
    alone c q = ap (λ b. b ∷ []) (eqb-true lead c q)

    none : (b : ℕ) → is_count b ≡ false → is_lead_char b ≡ false
    none b h = ap (λ (c : ℕ). is_lead_char c) {x = b} {y = 0} (omega (arith, ltb-false 0 b h))

-- what a path says behind its prefixes
record Pathed (root : Bool) (ups : ℕ) (bytes : List ℕ) (x : Name × List ℕ) : Type 0 where
  same_root : x.0.root ≡ root
  same_ups : x.0.ups ≡ ups
  read : Reads bytes x.1
  form : IsBytes bytes
      → (read.0 ≡ form_bytes x.0.form (length x.0.segs) ++ segment_bytes x.0.segs) × FitsForm x.0.form (length x.0.segs)
  segments : AreNameSegs x.0.segs

path_sound : (root : Bool) (ups end : ℕ) (bytes : List ℕ)
    → Sound end bytes (Pathed root ups bytes) (path_at root ups end bytes)
unfolding path_at AreSegments
path_sound root ups end bytes =
    sound_then end bytes (Headed bytes) (Pathed root ups bytes) (λ x h. h.read) (form_at end bytes) _ (form_sound end bytes) (λ form t1.
    sound_then end form.1 (AreSegments form.0.1 form.1) (Pathed root ups bytes) (λ x h. (segment_bytes x.0, h.0)) (segments_at form.0.1 end form.1) _
    (segments_sound form.0.1 end form.1) (λ segs t2. record {
      same_root = refl;
      same_ups = refl;
      read = (
        t1.read.0 ++ segment_bytes segs.0,
        t1.read.1 ∙ ap (λ (t : List ℕ). t1.read.0 ++ t) t2.0 ∙ sym (append_assoc t1.read.0 (segment_bytes segs.0) segs.1),
      );
      form = λ fits.
          let f = t1.form fits in
          let n : form.0.1 ≡ length segs.0 = sym t2.1.1 in
          ((λ i. (f.0 ∙ ap (form_bytes form.0.0) n) i ++ segment_bytes segs.0), subst (FitsForm form.0.0) n f.1);
      segments = t2.1.0;
    }))

-- what prefixes say
parent_taken : (b : ℕ) (bytes : List ℕ) (t : Bool) → eqb b 0x5E ≡ t
    → bytes ≡ replicate (parents bytes) 0x5E ++ drop (parents bytes) bytes
    → b ∷ bytes ≡ replicate (cond t (suc (parents bytes)) 0) 0x5E ++ drop (cond t (suc (parents bytes)) 0) (b ∷ bytes)
parent_taken b bytes true e h = rw (eqb-true _ _ e) (ap (λ (bs : List ℕ). 0x5E ∷ bs) h)
parent_taken b bytes false e h = refl

parents_taken : (bytes : List ℕ) → bytes ≡ replicate (parents bytes) 0x5E ++ drop (parents bytes) bytes
unfolding parents
parents_taken [] = refl
parents_taken (b ∷ bytes) = parent_taken b bytes (eqb b 0x5E) refl (parents_taken bytes)

root_taken : (bytes : List ℕ) → is_rooted bytes ≡ true → bytes ≡ 0x5C ∷ drop 1 bytes
root_taken [] h = absurd cc
root_taken (b ∷ bytes) h = ap (λ c. c ∷ bytes) (eqb-true _ _ h)

-- a path behind its prefixes is a name
Named : List ℕ → Name × List ℕ → Type 0
Named bytes x = IsBytes bytes → Takes bytes (spelling x.0) x.1 × IsName x.0

prefixed : (root : Bool) (ups : ℕ) (bytes : List ℕ) (x : Name × List ℕ) (behind : List ℕ) → (root ≡ true → ups ≡ 0)
    → bytes ≡ (cond root (0x5C ∷ []) [] ++ replicate ups 0x5E) ++ behind → Pathed root ups behind x → Named bytes x
unfolding Named
prefixed root ups bytes x behind fits split p whole =
    let prefix = cond root (0x5C ∷ []) [] ++ replicate ups 0x5E in
    let path = form_bytes x.0.form (length x.0.segs) ++ segment_bytes x.0.segs in
    let f = p.form (behind_fits bytes prefix behind split whole) in
    let parts : bytes ≡ spelling x.0 ++ x.1 = split ∙ ap (λ (t : List ℕ). prefix ++ t) (p.read.1 ∙ ap (λ (t : List ℕ). t ++ x.1) f.0)
    ∙ sym (append_assoc prefix path x.1) ∙ ap (λ (t : List ℕ). t ++ x.1) (append_assoc (cond root (0x5C ∷ []) []) (replicate ups 0x5E) path)
    ∙ (λ i. (cond (sym p.same_root i) (0x5C ∷ []) [] ++ (replicate (sym p.same_ups i) 0x5E ++ path)) ++ x.1) in (
      record { parts = parts; rest_fits = behind_fits bytes (spelling x.0) x.1 parts whole },
      record { prefix = rw (p.same_root, p.same_ups) fits; form = f.1; segments = p.segments },
    )

name_sound : (end : ℕ) (bytes : List ℕ) → Sound end bytes (Named bytes) (name_at end bytes)
unfolding name_at
name_sound end bytes = cond_both (is_rooted bytes) _ _ (Sound end bytes (Named bytes))
    (λ q. by true 0 (drop 1 bytes) (λ root. refl) (root_taken bytes q))
    (λ q. by false (parents bytes) (drop (parents bytes) bytes) (λ root. absurd cc) (parents_taken bytes))
  where
    by : (root : Bool) (ups : ℕ) (behind : List ℕ) → (root ≡ true → ups ≡ 0)
        → bytes ≡ (cond root (0x5C ∷ []) [] ++ replicate ups 0x5E) ++ behind
        → Sound end bytes (Named bytes) (path_at root ups end behind)
    by root ups behind fits split = sound_behind end bytes behind (Named bytes) (path_at root ups end behind) (_, split)
        (mapped (path_at root ups end behind) (path_sound root ups end behind))
      where
        mapped : (r : Left Name) → Sound end behind (Pathed root ups behind) r → Sound end behind (Named bytes) r
        mapped (Ok x) h = prefixed root ups bytes x behind fits split h
        mapped (Err d) h = h

pub name_takes : (end : ℕ) (bytes : List ℕ) (n : Name) (rest : List ℕ) → IsBytes bytes
    → name_at end bytes ≡ Ok (n, rest) → Takes bytes (spelling n) rest
    × IsName n
unfolding Named
name_takes end bytes n rest fits e =
    let read : Named bytes (n, rest) = subst (Sound end bytes (Named bytes)) e (name_sound end bytes) in
    read fits

pub name_fault : (end : ℕ) (bytes : List ℕ) (d : CodeFault) → name_at end bytes ≡ Err d → NameFault end bytes d
name_fault end bytes d e = subst (Sound end bytes (Named bytes)) e (name_sound end bytes)

-- ---- what spells a name is read as that name

-- a byte that begins a segment is none that doesn't
apart : (a c : ℕ) → is_lead_char a ≡ true → is_lead_char c ≡ false → eqb a c ≡ false
apart a c h n =
    ne_eqb a c (λ e. let same : is_lead_char a ≡ is_lead_char c = ap (λ (b : ℕ). is_lead_char b) e in let clash : true ≡ false = sym h ∙ same ∙ n in absurd cc)

first_leads : (a : ℕ) (text : List ℕ) → IsNameSeg (a ∷ text) → is_lead_char a ≡ true
first_leads a (b ∷ c ∷ d ∷ []) h = h.0
first_leads a text h = absurd h

segment_again_of : (end : ℕ) (text rest : List ℕ) → IsNameSeg text → segment_at end (text ++ rest) ≡ Ok (record { 0 = text }, rest)
unfolding segment_at
segment_again_of end (a ∷ b ∷ c ∷ d ∷ []) rest h = rw (h.0, h.1, h.2, h.3) refl
segment_again_of end text rest h = absurd h

pub segment_again : (end : ℕ) (s : Seg) (rest : List ℕ) → IsNameSeg s.0 → segment_at end (s.0 ++ rest) ≡ Ok (s, rest)
segment_again end s rest h = segment_again_of end s.0 rest h

pub segments_again : (end : ℕ) (ss : List Seg) (rest : List ℕ) → AreNameSegs ss
    → segments_at (length ss) end (segment_bytes ss ++ rest) ≡ Ok (ss, rest)
unfolding segments_at
segments_again end [] rest h = refl
segments_again end (s ∷ ss) rest h =
    rw (append_assoc s.0 (segment_bytes ss) rest, segment_again end s (segment_bytes ss ++ rest) h.0, segments_again end ss rest h.1) refl

-- a lead byte of a segment is none of a path's others
lead_by : (a end : ℕ) (bytes rest : List ℕ) → is_lead_char a ≡ true → form_by a end bytes rest ≡ Ok ((One, 1), bytes)
lead_by a end bytes rest h =
    rw (apart a 0x00 h refl, apart a 0x2E h refl, apart a 0x2F h refl) refl

one_again : (end : ℕ) (text rest : List ℕ) → IsNameSeg text → form_at end (text ++ rest) ≡ Ok ((One, 1), text ++ rest)
unfolding form_at
one_again end [] rest h = absurd h
one_again end (a ∷ text) rest h = lead_by a end (a ∷ (text ++ rest)) (text ++ rest) (first_leads a text h)

single_again : (end : ℕ) (ss : List Seg) (rest : List ℕ) → length ss ≡ 1 → AreNameSegs ss
    → form_at end (segment_bytes ss ++ rest) ≡ Ok ((One, length ss), segment_bytes ss ++ rest)
single_again end [] rest one are = absurd (omega arith)
single_again end (s ∷ []) rest one are = rw (append_nil s.0) (one_again end s.0 rest are.0)
single_again end (s ∷ t ∷ ss) rest one are = absurd (omega arith)

form_again : (end : ℕ) (f : NameForm) (ss : List Seg) (rest : List ℕ) → FitsForm f (length ss) → AreNameSegs ss
    → form_at end (form_bytes f (length ss) ++ (segment_bytes ss ++ rest)) ≡ Ok ((f, length ss), segment_bytes ss ++ rest)
unfolding form_at
form_again end Null ss rest fits are = rw fits refl
form_again end One ss rest fits are = single_again end ss rest fits are
form_again end Dual ss rest fits are = rw fits refl
form_again end Multi ss rest fits are = let below : length ss % 256 ≡ length ss = omega (arith, fits.1) in rw (below, lt-ltb 0 (length ss) fits.0) refl

path_again : (root : Bool) (ups end : ℕ) (f : NameForm) (ss : List Seg) (rest : List ℕ) → FitsForm f (length ss)
    → AreNameSegs ss
    → path_at root ups end (form_bytes f (length ss) ++ (segment_bytes ss ++ rest)) ≡ Ok (record { root = root; ups = ups; form = f; segs = ss }, rest)
unfolding path_at
path_again root ups end f ss rest fits are = rw (form_again end f ss rest fits are, segments_again end ss rest are) refl

-- the first byte of a path is no prefix
segment_first : (text rest : List ℕ) → IsNameSeg text
    → (is_rooted (text ++ rest) ≡ false) × (parents (text ++ rest) ≡ 0)
unfolding parents
segment_first [] rest h = absurd h
segment_first (a ∷ text) rest h =
    let lead = first_leads a text h in
    (apart a 0x5C lead refl, rw (apart a 0x5E lead refl) refl)

no_prefix : (f : NameForm) (ss : List Seg) (rest : List ℕ) → FitsForm f (length ss) → AreNameSegs ss → let path =
    form_bytes f (length ss) ++ (segment_bytes ss ++ rest) in (is_rooted path ≡ false) × (parents path ≡ 0)
unfolding parents
no_prefix Null ss rest fits are = (refl, refl)
no_prefix One [] rest fits are = absurd (omega arith)
no_prefix One (s ∷ ss) rest fits are = rw (append_assoc s.0 (segment_bytes ss) rest) (segment_first s.0 (segment_bytes ss ++ rest) are.0)
no_prefix Dual ss rest fits are = (refl, refl)
no_prefix Multi ss rest fits are = (refl, refl)

parents_all : (ups : ℕ) (path : List ℕ) → parents path ≡ 0
    → (parents (replicate ups 0x5E ++ path) ≡ ups) × (drop ups (replicate ups 0x5E ++ path) ≡ path)
unfolding parents
parents_all zero path h = (h, refl)
parents_all (suc ups) path h = let all = parents_all ups path h in (ap suc all.0, all.1)

none_rooted : (ups : ℕ) (path : List ℕ) → is_rooted path ≡ false → is_rooted (replicate ups 0x5E ++ path) ≡ false
none_rooted zero path h = h
none_rooted (suc ups) path h = refl

behind_prefixes : (root : Bool) (ups end : ℕ) (path : List ℕ) → (root ≡ true → ups ≡ 0) → is_rooted path ≡ false
    → parents path ≡ 0
    → name_at end (cond root (0x5C ∷ []) [] ++ (replicate ups 0x5E ++ path)) ≡ path_at root ups end path
unfolding name_at
behind_prefixes true ups end path fits unrooted unraised = rw (fits refl) refl
behind_prefixes false ups end path fits unrooted unraised =
    let all = parents_all ups path unraised in
    rw (none_rooted ups path unrooted, all.0, all.1) refl

pub name_again : (end : ℕ) (n : Name) (rest : List ℕ) → IsName n → name_at end (spelling n ++ rest) ≡ Ok (n, rest)
name_again end n rest is =
    let root = cond n.root (0x5C ∷ []) [] in
    let ups = replicate n.ups 0x5E in
    let form = form_bytes n.form (length n.segs) in
    let segs = segment_bytes n.segs in
    let text : spelling n ++ rest ≡ root ++ (ups ++ (form ++ (segs ++ rest))) = simp append_assoc in
    let bare = no_prefix n.form n.segs rest is.form is.segments in
    ap (name_at end) text ∙ behind_prefixes n.root n.ups end (form ++ (segs ++ rest)) is.prefix bare.0 bare.1
    ∙ path_again n.root n.ups end n.form n.segs rest is.form is.segments

-- bytes that begin with a segment begin with the name that this is alone
pub segment_names : (end : ℕ) (bytes : List ℕ) (s : Seg) (rest : List ℕ) → segment_at end bytes ≡ Ok (s, rest)
    → name_at end bytes ≡ Ok (record { root = false; ups = 0; form = One; segs = s ∷ [] }, rest)
segment_names end bytes s rest e =
    let read : (bytes ≡ s.0 ++ rest) × IsNameSeg s.0 = subst (Sound end bytes (IsSegment bytes)) e (segment_sound end bytes) in
    let name : Name = record { root = false; ups = 0; form = One; segs = s ∷ [] } in
    let is : IsName name = record { prefix = λ _. refl; form = refl; segments = (read.1, tt) } in
    ap (name_at end) (read.0 ∙ ap (λ (t : List ℕ). t ++ rest) (sym (append_nil s.0))) ∙ name_again end name rest is

-- ---- the first byte of a name

-- The first byte: one that can begin a name in any position, or 00, which is then the whole of a bare NullName.
pub record NameLead (n : Name) : Type 0 where
  pub lead : ℕ
  pub behind : List ℕ
  pub text : spelling n ≡ lead ∷ behind
  pub kind : ((is_name_lead lead ≡ true) × (is_bare n ≡ false)) ⊎ ((is_bare n ≡ true) × (lead ≡ 0) × (behind ≡ []))

segment_lead : (text rest : List ℕ) → IsNameSeg text
    → (b : ℕ) × (behind : List ℕ) × (text ++ rest ≡ b ∷ behind) × (is_name_lead b ≡ true)
segment_lead [] rest h = absurd h
segment_lead (a ∷ text) rest h = (a, text ++ rest, refl, or_left _ _ (first_leads a text h))

not_bare : (ss : List Seg) → 0 < length ss → not (nat_lt 0 (length ss)) ≡ false
not_bare ss some = ap not (lt-ltb 0 (length ss) some)

lead_of : (root : Bool) (ups : ℕ) (f : NameForm) (ss : List Seg) → (let n : Name = record { root = root; ups = ups; form = f; segs = ss } in IsName n
    → NameLead n)
lead_of true ups f ss is =
    record { lead = 0x5C; behind = replicate ups 0x5E ++ (form_bytes f (length ss) ++ segment_bytes ss); text = refl; kind = inl (refl, refl) }
lead_of false (suc ups) f ss is =
    let raised : eqb (suc ups) 0 ≡ false = ne_eqb _ _ (omega arith) in
    record { lead = 0x5E; behind = replicate ups 0x5E ++ (form_bytes f (length ss) ++ segment_bytes ss); text = refl; kind = inl (refl, rw raised refl) }
lead_of false zero Null [] is = record { lead = 0; behind = []; text = refl; kind = inr (refl, refl, refl) }
lead_of false zero Null (s ∷ ss) is = absurd (let none : length (s ∷ ss) ≡ 0 = is.form in omega arith)
lead_of false zero One [] is = absurd (let none : length {A = Seg} [] ≡ 1 = is.form in omega arith)
lead_of false zero One (s ∷ ss) is =
    let own = segment_lead s.0 (segment_bytes ss) is.segments.0 in
    record { lead = own.0; behind = own.1; text = own.2; kind = inl (own.3, not_bare (s ∷ ss) (omega arith)) }
lead_of false zero Dual ss is =
    record { lead = 0x2E; behind = segment_bytes ss; text = refl; kind = inl (refl, not_bare ss (omega (arith, is.form))) }
lead_of false zero Multi ss is =
    record { lead = 0x2F; behind = length ss % 256 ∷ segment_bytes ss; text = refl; kind = inl (refl, not_bare ss is.form.0) }

pub name_lead : (n : Name) → IsName n → NameLead n
name_lead n is = lead_of n.root n.ups n.form n.segs is

-- a name that was read where a lead byte stands has a prefix or a segment
pub lead_reads : (end b : ℕ) (bytes : List ℕ) (n : Name) (rest : List ℕ) → IsBytes (b ∷ bytes) → is_name_lead b ≡ true
    → name_at end (b ∷ bytes) ≡ Ok (n, rest)
    → is_bare n ≡ false
lead_reads end b bytes n rest fits h e =
    let t = name_takes end (b ∷ bytes) n rest fits e in
    let l = name_lead n t.1 in
    let same : b ≡ l.lead = let all = t.0.parts ∙ ap (λ (x : List ℕ). x ++ rest) l.text in cc in
    elim l.kind [
      | inl k ↦ k.1
      | inr k ↦ let clash : true ≡ false = sym h ∙ ap (λ (c : ℕ). is_name_lead c) (same ∙ k.1) in absurd cc
    ]

-- ---- what the front of bytes spells

pub one_name : (end : ℕ) (bytes : List ℕ) (n : Name) (rest : List ℕ) → name_at end bytes ≡ Ok (n, rest) → (m : Name)
    → IsName m → Begins bytes (spelling m)
    → m ≡ n
one_name end bytes n rest e m is begins =
    let again : name_at end bytes ≡ Ok (m, begins.0) = ap (name_at end) begins.1 ∙ name_again end m begins.0 is in
    ap (λ (p : Name × List ℕ). p.0) (ok_is {A = Name × List ℕ} (m, begins.0) (n, rest) (sym again ∙ e))

pub no_name : (end : ℕ) (bytes : List ℕ) (d : CodeFault) → name_at end bytes ≡ Err d → (m : Name) → IsName m
    → Begins bytes (spelling m) → ⊥
no_name end bytes d e m is begins =
    let again : name_at end bytes ≡ Ok (m, begins.0) = ap (name_at end) begins.1 ∙ name_again end m begins.0 is in
    let clash : (let r : Left Name = Ok (m, begins.0) in r) ≡ Err d = sym again ∙ e in
    absurd cc

pub fails_none : (e : CodeFault) (end : ℕ) (bytes : List ℕ) → Fails e (name_at end bytes)
    → (e ≡ faults.NoMemory) ⊎ SpellsNone bytes
fails_none e end bytes f = elim f [ inl m ↦ inl m | inr r ↦ inr (no_name end bytes e r) ]

pub fails_placed : (e : CodeFault) (end : ℕ) (bytes : List ℕ) → Fails e (name_at end bytes)
    → (e ≡ faults.NoMemory) ⊎ NameFault end bytes e
fails_placed e end bytes f = elim f [ inl m ↦ inl m | inr r ↦ inr (name_fault end bytes e r) ]

-- how many bytes spell what was read
pub record Front (bytes : List ℕ) (n : Name) (rest : List ℕ) : Type 0 where
  pub room : length rest ≤ length bytes
  pub spelled : Spelled bytes n (length bytes - length rest)
  pub left : drop (length bytes - length rest) bytes ≡ rest

pub name_front : (end : ℕ) (bytes : List ℕ) (n : Name) (rest : List ℕ) → IsBytes bytes
    → name_at end bytes ≡ Ok (n, rest) → Front bytes n rest
name_front end bytes n rest fits e =
    let t = name_takes end bytes n rest fits e in
    let long : length bytes ≡ length (spelling n) + length rest = ap length t.0.parts ∙ length-append (spelling n) rest in
    let k : length bytes - length rest ≡ length (spelling n) = omega arith in
    let text : take (length bytes - length rest) bytes ≡ spelling n = rw k
    (ap (take (length (spelling n))) t.0.parts ∙ take_at (spelling n) rest (length (spelling n)) refl) in
    let left : drop (length bytes - length rest) bytes ≡ rest = rw k (ap (drop (length (spelling n))) t.0.parts
    ∙ drop_at (spelling n) rest (length (spelling n)) refl) in
    record { room = omega arith; spelled = record { name = t.1; room = omega arith; text = text }; left = left }
