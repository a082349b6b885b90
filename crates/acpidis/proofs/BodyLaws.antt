-- Bodies that were read are the entries of a listing, and the only ones: by what became of each, method by method. What
-- a run keeps of bodies is kept of such bodies, so texts print as they do, faults tell of the raw ones, and trials are
-- their marks.
use Rattle.acpidis.proofs.Common.{AllZip, ◌≡◌, ℕ, suc, Bool, false, List, [], ◌∷◌, ◌++◌, map, length, Some, Result, Ok}
use Rattle.acpidis.proofs.Common.{Err, refl, sym, ap, ap₂, subst, arith, slice_get, Entry, CodeFault, Trees, IfSome}
use Rattle.acpidis.proofs.Common.{table_codes, span_of, body_in, TableSet, Method, Kept, method_in, methods_in, Body}
use Rattle.acpidis.proofs.Common.{AgreeAt, OneBody, read, raw, all_lines, body_lines, BodyText, IsText, body_view}
use Rattle.acpidis.proofs.Common.{printed_lines, ReadsOrRaw, Became, Reading, reading_of, entry_of, ReadsIn}
use Rattle.acpidis.proofs.Common.{AreReadings, AreBodies, has_raw, mark_of, marks_of, IsKept, AreKept, AreKeptOf}
use Rattle.acpidis.proofs.Common.{IsSame, has_fault, tried_mark, tried_marks, get_or}
use Rattle.aml_namespace.specs.Known.{Known, StandsFor}
use Rattle.asl_text.specs.declared.bodies.Body.TheVariants as bodies
use Rattle.asl_text.specs.declared.bodies.BodyText.TheVariants as kept_texts
use Rattle.aml_code.specs.View.{nodes_view}

-- what is true of each pair is true of what is made of both
all_zip_to : {A B C D : Type 0} (R : A → B → Type 0) (S : C → D → Type 0) (f : A → C) (g : B → D)
    → ((x : A) (y : B) → R x y → S (f x) (g y)) → (xs : List A) (ys : List B)
    → AllZip R xs ys → AllZip S (map f xs) (map g ys)
all_zip_to R S f g to [] [] h = tt
all_zip_to R S f g to [] (y ∷ ys) h = absurd h
all_zip_to R S f g to (x ∷ xs) [] h = absurd h
all_zip_to R S f g to (x ∷ xs) (y ∷ ys) h = (to x y h.0, all_zip_to R S f g to xs ys h.1)

module _ (z : Bool) (x : TableSet) (es : List Entry) (stands : StandsFor x.space es) where
  abbrev declared : Kept → Method
  declared = method_in x.space

  is_entry : (m : Kept) (d : Reading) → ReadsIn z x m d → ReadsOrRaw z es (table_codes x.tables.items) (declared m) (entry_of d)
  is_entry m (Ok us) h = (h es stands).0
  is_entry m (Err why) h = (h es stands).unread.none

  the_entry : (m : Kept) (d : Reading) (b : OneBody) → ReadsIn z x m d
      → ReadsOrRaw z es (table_codes x.tables.items) (declared m) b → b ≡ entry_of d
  the_entry m (Ok us) (read ts) h e = ap read ((h es stands).1 ts e)
  the_entry m (Ok us) raw h e = absurd (e _ (h es stands).0)
  the_entry m (Err why) (read ts) h e = absurd ((h es stands).unread.none ts e)
  the_entry m (Err why) raw h e = refl

  pub are_entries : (ms : List Kept) (ds : List Reading) → AllZip (ReadsIn z x) ms ds
      → AllZip (ReadsOrRaw z es (table_codes x.tables.items)) (methods_in x.space ms) (map entry_of ds)
  are_entries ms ds h = all_zip_to (ReadsIn z x) (ReadsOrRaw z es (table_codes x.tables.items)) declared entry_of is_entry ms ds h

  pub the_entries : (ms : List Kept) (ds : List Reading) (bs : List OneBody) → AllZip (ReadsIn z x) ms ds
      → AllZip (ReadsOrRaw z es (table_codes x.tables.items)) (methods_in x.space ms) bs → bs ≡ map entry_of ds
  the_entries [] [] [] h e = refl
  the_entries [] [] (b ∷ bs) h e = absurd e
  the_entries [] (d ∷ ds) bs h e = absurd h
  the_entries (m ∷ ms) [] bs h e = absurd h
  the_entries (m ∷ ms) (d ∷ ds) [] h e = absurd e
  the_entries (m ∷ ms) (d ∷ ds) (b ∷ bs) h e = ap₂ ◌∷◌ (the_entry m d b h.0 e.0) (the_entries ms ds bs h.1 e.1)

  became : (m : Kept) (d : Body) → ReadsIn z x m (reading_of d) → Became z es (table_codes x.tables.items) (declared m) d
  became m (bodies.Tree nodes) h = h es stands
  became m (bodies.Raw f) h = h es stands

  pub are_told : (ms : List Kept) (ds : List Body) → AllZip (ReadsIn z x) ms (map reading_of ds)
      → AllZip (Became z es (table_codes x.tables.items)) (methods_in x.space ms) ds
  are_told [] [] h = tt
  are_told [] (d ∷ ds) h = absurd h
  are_told (m ∷ ms) [] h = absurd h
  are_told (m ∷ ms) (d ∷ ds) h = (became m d h.0, are_told ms ds h.1)

-- what a listing has of bodies in memory
pub entries_are : (ds : List Body) → map entry_of (map reading_of ds) ≡ map body_view ds
entries_are [] = refl
entries_are (bodies.Tree nodes ∷ ds) = ap (λ bs. read (nodes_view nodes.items) ∷ bs) (entries_are ds)
entries_are (bodies.Raw f ∷ ds) = ap (λ bs. raw ∷ bs) (entries_are ds)

-- ---- what is kept of bodies

-- the bodies of which it is kept, by number
pub chosen : {X : Type 0} (Is : Kept → Reading → Type 0) (Keeps : ℕ → Reading → X → Type 0) (ms : List Kept) (ds : List X)
    → length ds ≡ length ms
    → ((n : ℕ) (d : X) → slice_get ds n ≡ Some d → (b : Reading) × IfSome (slice_get ms n) (λ m. Is m b) × Keeps n b d)
    → (bs : List Reading) × AllZip Is ms bs × AreKept Keeps bs ds
chosen Is Keeps [] [] l h = ([], tt, tt)
chosen Is Keeps [] (d ∷ ds) l h = absurd (omega (arith, l))
chosen Is Keeps (m ∷ ms) [] l h = absurd (omega (arith, l))
chosen Is Keeps (m ∷ ms) (d ∷ ds) l h =
    let first = h 0 d refl in
    let rest = chosen Is (λ n. Keeps (suc n)) ms ds (omega (arith, l)) (λ n x e. h (suc n) x e) in
    (first.0 ∷ rest.0, (first.1, rest.1), (first.2, rest.2))

-- of one body more
pub kept_more : {X : Type 0} (Keeps : ℕ → Reading → X → Type 0) (bs : List Reading) (ds : List X) (b : Reading) (d : X)
    → AreKept Keeps bs ds → Keeps (length bs) b d
    → AreKept Keeps (bs ++ b ∷ []) (ds ++ d ∷ [])
kept_more Keeps [] [] b d k h = (h, tt)
kept_more Keeps [] (e ∷ ds) b d k h = absurd k
kept_more Keeps (c ∷ bs) [] b d k h = absurd k
kept_more Keeps (c ∷ bs) (e ∷ ds) b d k h = (k.0, kept_more (λ n. Keeps (suc n)) bs ds b d k.1 h)

-- the bodies themselves
kept_whole : (rs : List Reading) (ds : List Body) → AreKept (λ n reading kept. reading ≡ reading_of kept) rs ds → rs ≡ map reading_of ds
kept_whole [] [] k = refl
kept_whole [] (d ∷ ds) k = absurd k
kept_whole (r ∷ rs) [] k = absurd k
kept_whole (r ∷ rs) (d ∷ ds) k = ap₂ ◌∷◌ k.0 (kept_whole rs ds k.1)

pub whole_kept : (z : Bool) (x : TableSet) (ds : List Body) → AreKeptOf (λ n reading kept. reading ≡ reading_of kept) z x ds
    → AreBodies z x ds
whole_kept z x ds k = subst (AreReadings z x) (kept_whole k.0 ds k.2) k.1

-- ---- what it says of them

same_lines : (level : ℕ) (b : Reading) (d : Result BodyText CodeFault) → IsKept (IsText level) b d → (bytes : List ℕ)
    → body_lines (entry_of b) level bytes ≡ printed_lines d level bytes
same_lines level (Ok us) (Ok (kept_texts.Lines text)) k bytes = sym k
same_lines level (Ok us) (Ok (kept_texts.Terms kept)) k bytes = sym (ap (λ ts. all_lines level ts) k)
same_lines level (Ok us) (Err fault) k bytes = absurd k
same_lines level (Err why) (Ok text) k bytes = absurd k
same_lines level (Err why) (Err kept) k bytes = refl

-- texts at their levels print as the bodies do
pub texts_agree : (ls : List ℕ) (bs : List Reading) (ds : List (Result BodyText CodeFault))
    → AreKept (λ n. IsKept (IsText (get_or ls n 0))) bs ds
    → AgreeAt ls (map body_lines (map entry_of bs)) (map printed_lines ds)
texts_agree [] bs ds k = tt
texts_agree (l ∷ ls) [] [] k = texts_agree ls [] [] tt
texts_agree (l ∷ ls) [] (d ∷ ds) k = absurd k
texts_agree (l ∷ ls) (b ∷ bs) [] k = absurd k
texts_agree (l ∷ ls) (b ∷ bs) (d ∷ ds) k = (same_lines l b d k.0, texts_agree ls bs ds k.1)

-- a fault is kept where a body is raw
pub faults_are : {X : Type 0} (Gives : ℕ → Trees → X → Type 0) (bs : List Reading) (ds : List (Result X CodeFault))
    → AreKept (λ n. IsKept (Gives n)) bs ds
    → has_fault ds ≡ has_raw (map entry_of bs)
faults_are Gives [] [] k = refl
faults_are Gives [] (d ∷ ds) k = absurd k
faults_are Gives (b ∷ bs) [] k = absurd k
faults_are Gives (Ok ts ∷ bs) (Ok x ∷ ds) k = faults_are (λ n. Gives (suc n)) bs ds k.1
faults_are Gives (Ok ts ∷ bs) (Err fault ∷ ds) k = absurd k.0
faults_are Gives (Err why ∷ bs) (Ok x ∷ ds) k = absurd k.0
faults_are Gives (Err why ∷ bs) (Err kept ∷ ds) k = refl

-- trials are marks of the bodies
mark_is : (cs : List (List ℕ)) (m : Method) (b : Reading) (d : Result Bool CodeFault) → IsKept (IsSame (span_of cs m)) b d
    → tried_mark m.table d ≡ mark_of cs (m, entry_of b)
mark_is cs m (Ok us) (Ok same) k = λ i. record { table = m.table; raw = false; same = k i }
mark_is cs m (Ok us) (Err fault) k = absurd k
mark_is cs m (Err why) (Ok same) k = absurd k
mark_is cs m (Err why) (Err kept) k = refl

pub trials_are : (cs : List (List ℕ)) (known : Known) (ms : List Kept) (bs : List Reading) (ds : List (Result Bool CodeFault))
    → AreKept (λ n. IsKept (IsSame (body_in cs (slice_get ms n)))) bs ds
    → tried_marks ms ds ≡ marks_of cs (methods_in known ms) (map entry_of bs)
trials_are cs known [] bs ds k = refl
trials_are cs known (m ∷ ms) [] [] k = refl
trials_are cs known (m ∷ ms) [] (d ∷ ds) k = absurd k
trials_are cs known (m ∷ ms) (b ∷ bs) [] k = absurd k
trials_are cs known (m ∷ ms) (b ∷ bs) (d ∷ ds) k = ap₂ ◌∷◌ (mark_is cs (method_in known m) b d k.0) (trials_are cs known ms bs ds k.1)
