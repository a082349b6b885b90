-- The lines of a map, one after another: what is left behind so many lines begins with the next one. Each line that is
-- read is a map's, and the first that isn't refuses the text.
use Rattle.acpi_folder.proofs.Common.{◌≡◌, ℕ, ◌+◌, ◌-◌, ◌<◌, ◌≤◌, true, false, List, [], ◌∷◌, ◌++◌, length, take, drop}
use Rattle.acpi_folder.proofs.Common.{map, get_or, refl, ap, ◌∙◌, arith, Some, length-drop, below_more, option_map}
use Rattle.acpi_folder.proofs.Common.{list_any, find, take_more, drop_more, map-append, Line, MapFault, Entry, entry_of}
use Rattle.acpi_folder.proofs.Common.{shown_by, lines_of, repeats, is_listed, IsLine, IsMapped, HoldsTo, HasFault}
use Rattle.acpi_folder.proofs.Common.{RefusesMap, numbered_by, address_in}
use Rattle.std.specs.Str.{bytes_eq}
use Rattle.acpi_folder.proofs.Entries.{address_in-shown}

-- the line behind the first ones, where what is left is known
module _ (lines : List (List ℕ)) (n : ℕ) (line : List ℕ) (others : List (List ℕ)) (is : drop n lines ≡ line ∷ others) where
  pub inside : n < length lines
  inside = omega (arith, length-drop n lines, ap length is)

  pub front : get_or lines n [] ≡ line
  front = let cut = drop_more lines n [] inside in cc

  pub back : drop (n + 1) lines ≡ others
  back = let cut = drop_more lines n [] inside in cc

  pub one_more : take (n + 1) lines ≡ take n lines ++ line ∷ []
  one_more = take_more lines n [] inside ∙ ap (λ (here : List ℕ). take n lines ++ here ∷ []) front

-- behind the last line
pub behind : (lines : List (List ℕ)) (rest : List ℕ) (n : ℕ) → drop n lines ≡ lines_of rest → length rest ≡ 0
    → length lines ≤ n
unfolding lines_of
behind lines [] n is none = omega (arith, length-drop n lines, ap length is)
behind lines (byte ∷ bytes) n is none = absurd (omega arith)

-- so many lines are read, as these entries, and these are left
pub record AreMapped (names lines : List (List ℕ)) (read : List Line) (n : ℕ) (rest : List (List ℕ)) : Type 0 where
  pub left : drop n lines ≡ rest
  pub said : map shown_by read ≡ map entry_of (take n lines)
  pub held : HoldsTo names lines n

-- a turn of the loop over lines
pub turn : (names lines : List (List ℕ)) (read now earlier : List Line) (n m : ℕ) (rest : List (List ℕ)) (line : List ℕ) (others : List (List ℕ)) (entry : Line)
    → AreMapped names lines read n rest → rest ≡ line ∷ others → earlier ≡ read → IsLine line
    → is_listed names (entry_of line).name ≡ true
    → list_any (repeats (entry_of line)) (map shown_by earlier) ≡ false → shown_by entry ≡ entry_of line → m ≡ n + 1
    → now ≡ read ++ entry ∷ []
    → AreMapped names lines now m others
turn names lines read now earlier n m rest line others entry before cut all form listed fresh says next grown =
    let is : drop n lines ≡ line ∷ others = before.left ∙ cut in
    rw (next, grown) (record {
      left = back lines n line others is;
      said = rw (one_more lines n line others is) (simp map-append (cc (before.said, says)));
      held = below_more (λ index. IsMapped names (take index lines) (get_or lines index [])) n before.held (rw (front lines n line others is)
          (record { form = form; listed = listed; fresh = rw (all, before.said) at fresh }));
    })

-- the first line that isn't a map's
pub refuses : (names : List (List ℕ)) (text : List ℕ) (read earlier : List Line) (n : ℕ) (rest : List (List ℕ)) (line : List ℕ) (others : List (List ℕ))
    (fault : MapFault) → AreMapped names (lines_of text) read n rest → rest ≡ line ∷ others → earlier ≡ read → numbered_by fault ≡ Some (n + 1)
    → HasFault names (map shown_by earlier) line fault → RefusesMap names text fault
refuses names text read earlier n rest line others fault before cut all numbered there =
    let is : drop n (lines_of text) ≡ line ∷ others = before.left ∙ cut in
    let less : n + 1 - 1 ≡ n = omega arith in
    record {
      number = n + 1;
      numbered = numbered;
      counted = omega arith;
      inside = omega (arith, inside (lines_of text) n line others is);
      before = rw less before.held;
      there = rw (less, front (lines_of text) n line others is) (rw (all, before.said) at there);
    }

-- the addresses of the files
pub addresses_shown : {X : Type 0} (bytes_of : X → List ℕ) (names : List X) (lines : List Line) (entries : List Entry)
    → map shown_by lines ≡ entries
    → map (λ name. option_map (λ line. line.address) (find (λ line. bytes_eq line.name.now (bytes_of name)) lines)) names
    ≡ map (address_in entries) (map bytes_of names)
addresses_shown bytes_of [] lines entries same = refl
addresses_shown bytes_of (name ∷ names) lines entries same =
    cc (address_in-shown lines (bytes_of name), same, addresses_shown bytes_of names lines entries same)
