-- What is read of a folder, call by call. What a folder may answer later it might have answered before (`IsWithin`), so
-- each call tells of the folder as it was at the beginning. The loop over the files comes first, then the listing, what
-- stops the gathering, and at the end the dumps that names, files and addresses make.
use Rattle.acpi_folder.proofs.Common.{◌≡◌, ℕ, ◌+◌, ◌<◌, ◌≤◌, true, false, not, List, [], ◌∷◌, ◌++◌, length, take, map}
use Rattle.acpi_folder.proofs.Common.{get_or, refl, ap, sym, ◌∙◌, arith, cond, filter, string_bytes, string_cmp}
use Rattle.acpi_folder.proofs.Common.{IsPermutation, IsSorted, String, Vec, Global, Option, None, Bool, ◌⊎◌, inl, inr}
use Rattle.acpi_folder.proofs.Common.{zip, get_or-map, length-map, map-append, all_zip_more, length_all_zip, list_any}
use Rattle.acpi_folder.proofs.Common.{MapFault, RefusesMap, address_in, entry_of, lines_of, Answers, IsWithin, Reads}
use Rattle.acpi_folder.proofs.Common.{AreRead, IsListing, IsMapText, AreAddresses, AreGathered, StopsAtFile, LacksMap}
use Rattle.acpi_folder.proofs.Common.{RefusesFolder, FailsAt, StopsBy, FailsAtMap, is_map, map_name, read_limit}
use Rattle.acpi_folder.proofs.Common.{dump_name, dump_bytes}
use Rattle.std.proofs.lemmas.List.Sorted.{IsPermutation-map}
use Rattle.std.specs.Ordering.{nat_cmp}
use Rattle.std.specs.Cmp.Lexicographic.{slice_cmp}
use Rattle.acpi_tables.specs.declared.dump.Dump.{Dump}
use Rattle.acpi_tables.specs.Dumps.{most_bytes}
use Rattle.acpi_tables.specs.Order.{most_dumps}
use Rattle.acpi_folder.specs.declared.gathering.GatherFault.{GatherFault}
use Rattle.acpi_folder.specs.declared.gathering.GatherFault.TheVariants as faults
use Rattle.acpi_folder.specs.declared.map.MapFault.TheVariants as map_faults
use Rattle.acpi_folder.proofs.Entries.{list_any-map}

within_both : (last middle first : Answers) → IsWithin last middle → IsWithin middle first → IsWithin last first
within_both last middle first p q = record {
  lists = λ names h. q.lists names (p.lists names h);
  unlisted = λ h. q.unlisted (p.unlisted h);
  holds = λ name bytes h. q.holds name bytes (p.holds name bytes h);
  unread = λ name h. q.unread name (p.unread name h);
}

-- ---- what was answered later, before

module _ (later earlier : Answers) (within : IsWithin later earlier) where
  read_before : (name : List ℕ) (limit : ℕ) (bytes : List ℕ) → Reads later name limit bytes
      → Reads earlier name limit bytes
  read_before name limit bytes read = record { content = read.content; held = within.holds name read.content read.held; first = read.first }

  reads_before : (names files : List (List ℕ)) → AreRead later names files → AreRead earlier names files
  reads_before (name ∷ names) (file ∷ files) all = (read_before name read_limit file all.0, reads_before names files all.1)
  reads_before _ _ all = all

  stop_before : (names : List (List ℕ)) (name : List ℕ) → StopsAtFile later names name → StopsAtFile earlier names name
  stop_before names name stop = record {
    index = stop.index;
    inside = stop.inside;
    named = stop.named;
    before = (stop.before.0, reads_before (take stop.index names) stop.before.0 stop.before.1);
    unread = within.unread name stop.unread;
  }

  map_before : LacksMap later → LacksMap earlier
  map_before (inl unread) = inl (within.unread map_name unread)
  map_before (inr long) = inr (long.0, read_before map_name read_limit long.0 long.1, long.2)

  text_before : (text : List ℕ) → IsMapText later text → IsMapText earlier text
  text_before text it = record { read = read_before map_name read_limit text it.read; short = it.short }

  addresses_before : (mapped : Bool) (names : List (List ℕ)) (addresses : List (Option ℕ))
      → AreAddresses later mapped names addresses
      → AreAddresses earlier mapped names addresses
  addresses_before true names addresses it = (it.0, text_before it.0 it.1, it.2, it.3)
  addresses_before false names addresses it = it

-- ---- the files, one after another

abbrev pub names_of : List (String Global) → List (List ℕ)
names_of names = map string_bytes names

abbrev pub files_of : List (Vec ℕ Global) → List (List ℕ)
files_of files = map (λ file. file.items) files

-- so many files are read
pub record IsReadTo (first now : Answers) (names files : List (List ℕ)) (n : ℕ) : Type 0 where
  pub within : IsWithin now first
  pub read : AreRead first (take n names) files

-- the file at an index, with its name
module _ (first now : Answers) (names : List (String Global)) (n : ℕ) (name : String Global) (text : List ℕ)
    (inside : n < length names) (is : name ≡ get_or names n name) (same : text ≡ string_bytes name) where
  named_inside : n < length (names_of names)
  named_inside = omega (arith, length-map names string_bytes)

  named : (d : List ℕ) → text ≡ get_or (names_of names) n d
  named d = same ∙ ap string_bytes is ∙ sym (get_or-map string_bytes names n name d inside)

  pub turn : (later : Answers) (files grown : List (Vec ℕ Global)) (file : Vec ℕ Global)
      → IsReadTo first now (names_of names) (files_of files) n
      → Reads now text read_limit file.items → IsWithin later now → grown ≡ files ++ file ∷ []
      → IsReadTo first later (names_of names) (files_of grown) (n + 1)
  turn later files grown file before read within pushed = rw (pushed, map-append) (record {
    within = within_both later now first within before.within;
    read = all_zip_more (λ name bytes. Reads first name read_limit bytes) (names_of names) (files_of files) n text file.items
        named_inside (named text) before.read (read_before now first before.within text read_limit file.items read);
  })

  pub stops : (files : List (List ℕ)) (fault : GatherFault) → IsReadTo first now (names_of names) files n
      → FailsAt now text fault
      → StopsBy first (names_of names) fault
  stops files (faults.File other) before failed = record {
    index = n;
    inside = named_inside;
    named = sym (failed.0 ∙ named []);
    before = (files, before.read);
    unread = rw failed.0 (before.within.unread text failed.1);
  }
  stops files _ before failed = failed

-- ---- the listing

filter_named : (test : List ℕ → Bool) (names : List (String Global))
    → filter test (names_of names) ≡ names_of (filter (λ name. test (string_bytes name)) names)
filter_named test [] = refl
filter_named test (name ∷ names) =
    let kept = filter (λ name. test (string_bytes name)) names in
    let rest = filter_named test names in
    elim (test (string_bytes name)) as (λ b. cond b (string_bytes name ∷ filter test (names_of names)) (filter test (names_of names))
    ≡ names_of (cond b (name ∷ kept) kept)) [
      | true ↦ ap (λ (l : List (List ℕ)). string_bytes name ∷ l) rest
      | false ↦ rest
    ]

sorted_named : (names : List (String Global)) → IsSorted string_cmp names
    → IsSorted (slice_cmp nat_cmp) (names_of names)
sorted_named [] sorted k d low high = absurd (omega arith)
sorted_named (first ∷ names) sorted k d low high =
    let all : List (String Global) = first ∷ names in
    let long : length (names_of all) ≡ length all = length-map all string_bytes in
    let here : get_or (names_of all) k d ≡ string_bytes (get_or all k first) = get_or-map string_bytes all k first d (omega arith) in
    let next : get_or (names_of all) (k + 1) d ≡ string_bytes (get_or all (k + 1) first) = get_or-map string_bytes all (k + 1) first d (omega arith) in
    rw (here, next) (sorted k first low (omega arith))

pub listing : (folder : Answers) (listed dumps : List (String Global)) (mapped : Bool) → folder.lists (names_of listed)
    → IsPermutation (filter (λ name. not (is_map (string_bytes name))) listed) dumps → IsSorted string_cmp dumps
    → mapped ≡ list_any (λ name. is_map (string_bytes name)) listed → IsListing folder (names_of dumps) mapped
listing folder listed dumps mapped given all sorted any = record {
  listed = names_of listed;
  given = given;
  all = rw (filter_named (λ name. not (is_map name)) listed) (IsPermutation-map string_bytes _ dumps all);
  ordered = sorted_named dumps sorted;
  map = any ∙ sym (list_any-map is_map string_bytes listed);
}

-- ---- what stops the gathering

-- a map that is refused for another cause than memory
pub map_refused : (folder : Answers) (names : List (List ℕ)) (text seen : List ℕ) (fault : MapFault)
    → Reads folder map_name read_limit text
    → length text ≤ most_bytes → seen ≡ text → (fault ≡ map_faults.NoMemory) ⊎ RefusesMap names seen fault
    → (fault ≡ map_faults.NoMemory → ⊥)
    → (t : List ℕ) × IsMapText folder t × RefusesMap names t fault
map_refused folder names text seen fault read short same (inl memory) other = absurd (other memory)
map_refused folder names text seen fault read short same (inr refused) other = (text, record { read = read; short = short }, rw same at refused)

-- no map, no address
nothing_named : (names : List (String Global)) → ◌≡◌ {A = List (Option ℕ)} (map (λ name. None) names) (map (λ name. None) (names_of names))
nothing_named [] = refl
nothing_named (name ∷ names) = cc (nothing_named names)

pub no_map : (folder : Answers) (mapped : Bool) (names : List (String Global)) (addresses : List (Option ℕ))
    → mapped ≡ false
    → addresses ≡ map (λ name. None) names → AreAddresses folder mapped (names_of names) addresses
no_map folder mapped names addresses unmapped none = rw unmapped (none ∙ nothing_named names)

-- the folder's listing is small enough, and what is read is read of what it became
module _ (first middle : Answers) (names : List (String Global)) (mapped : Bool) (listing : IsListing first (names_of names) mapped)
    (few : length names ≤ most_dumps) (begun : IsWithin middle first) where
  small : length (names_of names) ≤ most_dumps
  small = omega (arith, length-map names string_bytes)

  pub file_refuses : (fault : GatherFault) → StopsBy middle (names_of names) fault → RefusesFolder first fault
  file_refuses (faults.File name) stop =
      let stop = stop_before middle first begun (names_of names) (string_bytes name) stop in
      record { names = names_of names; mapped = mapped; listing = listing; cause = (small, inl stop) }
  file_refuses faults.NoMemory stop = tt
  file_refuses _ stop = absurd stop

  module _ (now : Answers) (files : List (List ℕ)) (read : AreRead middle (names_of names) files) (within : IsWithin now middle) where
    now_first : IsWithin now first
    now_first = within_both now middle first within begun

    before : (files : List (List ℕ)) × AreRead first (names_of names) files
    before = (files, reads_before middle first begun (names_of names) files read)

    behind : (fault : GatherFault) → mapped ≡ true → FailsAtMap first (names_of names) fault → RefusesFolder first fault
    behind (faults.File name) is failed =
        record { names = names_of names; mapped = mapped; listing = listing; cause = (small, inr (is, before, failed)) }
    behind (faults.Map fault) is failed =
        record { names = names_of names; mapped = mapped; listing = listing; cause = (small, inr (is, before, failed)) }
    behind faults.NoMemory is failed = tt
    behind _ is failed = absurd failed

    map_fails : (fault : GatherFault) → FailsAtMap now (names_of names) fault → FailsAtMap first (names_of names) fault
    map_fails (faults.File name) failed = (failed.0, map_before now first now_first failed.1)
    map_fails (faults.Map fault) failed = (failed.0, text_before now first now_first failed.0 failed.1, failed.2)
    map_fails faults.NoMemory failed = failed
    map_fails _ failed = failed

    pub map_refuses : (fault : GatherFault)
        → (fault ≡ faults.NoMemory) ⊎ ((mapped ≡ true) × FailsAtMap now (names_of names) fault)
        → RefusesFolder first fault
    map_refuses fault (inl memory) = rw memory tt
    map_refuses fault (inr failed) = behind fault failed.0 (map_fails fault failed.1)

-- ---- what is gathered

abbrev pub made_of : List (String Global) → List (Vec ℕ Global) → List (Option ℕ) → List Dump
made_of names files addresses = map (λ (parts : (String Global × Vec ℕ Global) × Option ℕ). record { name = parts.0.0; address = parts.1; bytes = parts.0.1 })
    (zip (zip names files) addresses)

-- the parts of dumps, one list each
record AreParts (names : List (String Global)) (files : List (Vec ℕ Global)) (addresses : List (Option ℕ)) (dumps : List Dump) : Type 0 where
  pub named : map dump_name dumps ≡ names_of names
  pub filed : map dump_bytes dumps ≡ files_of files
  pub placed : map (λ dump. dump.address) dumps ≡ addresses

parts : (names : List (String Global)) (files : List (Vec ℕ Global)) (addresses : List (Option ℕ))
    → length names ≡ length files
    → length names ≡ length addresses → AreParts names files addresses (made_of names files addresses)
parts [] [] [] filed placed = record { named = refl; filed = refl; placed = refl }
parts (name ∷ names) (file ∷ files) (address ∷ addresses) filed placed =
    let rest : AreParts names files addresses (made_of names files addresses) = parts names files addresses (omega arith) (omega arith) in
    record { named = cc; filed = cc; placed = cc }
parts _ _ _ filed placed = absurd (omega arith)

addresses_len : (folder : Answers) (mapped : Bool) (names : List (List ℕ)) (addresses : List (Option ℕ))
    → AreAddresses folder mapped names addresses
    → length addresses ≡ length names
addresses_len folder true names addresses it = ap length it.3 ∙ length-map names (address_in (map entry_of (lines_of it.0)))
addresses_len folder false names addresses it = ap length it ∙ length-map names (λ name. None)

pub gathered : (first middle now : Answers) (names : List (String Global)) (files : List (Vec ℕ Global)) (addresses : List (Option ℕ)) (mapped : Bool)
    (dumps : List Dump) → IsListing first (names_of names) mapped → length names ≤ most_dumps → IsWithin middle first
    → AreRead middle (names_of names) (files_of files) → IsWithin now middle
    → AreAddresses now mapped (names_of names) addresses
    → dumps ≡ made_of names files addresses → AreGathered first dumps
gathered first middle now names files addresses mapped dumps listing few begun read within found made =
    let long : length (names_of names) ≡ length names = length-map names string_bytes in
    let filed = length_all_zip (λ name bytes. Reads middle name read_limit bytes) (names_of names) (files_of files) read in
    let all : AreParts names files addresses dumps = rw made (parts names files addresses
    (omega (arith, filed, length-map files (λ (v : Vec ℕ Global). v.items))) (omega (arith, addresses_len now mapped (names_of names) addresses found))) in
    record {
      mapped = mapped;
      listing = rw all.named listing;
      few = omega (arith, length-map dumps dump_name, ap length all.named);
      files = rw (all.named, all.filed) (reads_before middle first begun (names_of names) (files_of files) read);
      addresses = rw (all.named, all.placed) (addresses_before now first (within_both now middle first within begun) mapped (names_of names) addresses found);
    }

pub ruleset unmapped = (no_map)
