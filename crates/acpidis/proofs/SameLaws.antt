-- What a set means is the same when it is made anew: what was read encodes to the bytes that it was read from, so no
-- table of a listing that dumps mean differs.
use Rattle.acpidis.proofs.Common.{◌&&◌, filter, list_all, All-filter, AllPass-from_list_all, list_all-from_AllPass, ◌≡◌}
use Rattle.acpidis.proofs.Common.{ℕ, suc, Bool, true, List, [], ◌∷◌, refl, ap₂, map, Trees, Entry, AllZip, methods_of}
use Rattle.acpidis.proofs.Common.{span_of, Method, OneBody, read, raw, names_in, blocks_of, Dump, Options, Mark}
use Rattle.acpidis.proofs.Common.{ReadsOrRaw, same_bytes, body_same, marks_of, checks_with, tallied, uncounted}
use Rattle.acpidis.proofs.Common.{all_same, Meaning, Means, order_of, codes_of}
use Rattle.acpidis.proofs.Spelling.{Spells, all_spelled}
use Rattle.std.proofs.lemmas.Slice.Eq.{bytes_eq-Decides}

same_if : (xs ys : List ℕ) → xs ≡ ys → same_bytes xs ys ≡ true
same_if xs ys = (bytes_eq-Decides xs ys).1

entry_same : (z : Bool) (es : List Entry) (codes : List (List ℕ)) (m : Method) (b : OneBody) → ReadsOrRaw z es codes m b
    → body_same (span_of codes m) b ≡ true
entry_same z es codes m (read ts) h = same_if _ _ h.spelled
entry_same z es codes m raw h = refl

kept_same : (test : Mark → Bool) (marks : List Mark) → list_all (λ m. m.same) marks ≡ true
    → list_all (λ m. m.same) (filter test marks) ≡ true
kept_same test marks h = list_all-from_AllPass (λ m. m.same) (filter test marks)
    (All-filter test (λ m. m.same ≡ true) marks (AllPass-from_list_all (λ m. m.same) marks h))

marks_same : (z : Bool) (es : List Entry) (codes : List (List ℕ)) (ms : List Method) (bs : List OneBody)
    → AllZip (ReadsOrRaw z es codes) ms bs
    → list_all (λ m. m.same) (marks_of codes ms bs) ≡ true
marks_same z es codes [] bs h = refl
marks_same z es codes (m ∷ ms) [] h = refl
marks_same z es codes (m ∷ ms) (b ∷ bs) h = ap₂ ◌&&◌ (entry_same z es codes m b h.0) (marks_same z es codes ms bs h.1)

tables_same : (marks : List Mark) (names codes : List (List ℕ)) (trees : List Trees) (t : ℕ)
    → list_all (λ m. m.same) marks ≡ true
    → AllZip Spells codes trees → all_same (tallied marks t (map uncounted (blocks_of names codes trees))) ≡ true
tables_same marks [] codes trees t h r = refl
tables_same marks (n ∷ names) [] trees t h r = refl
tables_same marks (n ∷ names) (c ∷ codes) [] t h r = refl
tables_same marks (n ∷ names) (c ∷ codes) (ts ∷ trees) t h r =
    ap₂ ◌&&◌ (ap₂ ◌&&◌ (same_if _ _ r.0) (kept_same _ marks h)) (tables_same marks names codes trees (suc t) h r.1)

-- all tables of what dumps mean are the same
pub all_are_same : (dumps : List Dump) (options : Options) (k : Meaning) → Means dumps options k
    → all_same (checks_with (blocks_of (names_in dumps (order_of k)) (codes_of dumps k) k.trees)
    (marks_of (codes_of dumps k) (methods_of k.entries) k.bodies)) ≡ true
all_are_same dumps options k means =
    tables_same _ (names_in dumps (order_of k)) (codes_of dumps k) k.trees 0
    (marks_same options.unknown_zero k.entries (codes_of dumps k) (methods_of k.entries) k.bodies means.bodies)
    (all_spelled options (codes_of dumps k) k.trees k.entries means.set.loads)
