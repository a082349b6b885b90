-- What the lines of a file of counts give, one after another, and the first line that gives nothing.
use Rattle.acpi_folder.proofs.Common.{◌≡◌, ℕ, zero, suc, ◌+◌, ◌-◌, ◌<◌, List, [], ◌∷◌, ◌++◌, length, take, drop, get_or}
use Rattle.acpi_folder.proofs.Common.{refl, ◌∙◌, arith, lines_of}
use Rattle.std.proofs.lemmas.Slice.Zip.{all_zipped_more}
use Rattle.acpi_folder.specs.declared.externals.ExternalsFault.{ExternalsFault}
use Rattle.acpi_folder.specs.declared.externals.ExternalsFault.TheVariants.{BadLine}
use Rattle.acpi_folder.specs.Externals.{Given, Gives, AreGiven, IsGiving, AreGiving, RefusesExternals}
use Rattle.acpi_folder.proofs.Turns.{inside, front, back, one_more}

given_at : (lines : List (List ℕ)) (given : List Given) (n : ℕ) → AreGiven lines given → n < length lines
    → IsGiving (get_or lines n [])
given_at (line ∷ lines) (first ∷ given) zero all within = (first, all.0)
given_at (line ∷ lines) (first ∷ given) (suc n) all within = given_at lines given n all.1 (omega arith)
given_at (line ∷ lines) [] n all within = absurd all
given_at [] given n all within = absurd (omega arith)

-- so many lines are read, as these pairs, and these are left
pub record AreRead (lines : List (List ℕ)) (given : List Given) (n : ℕ) (rest : List (List ℕ)) : Type 0 where
  pub left : drop n lines ≡ rest
  pub all : AreGiven (take n lines) given

-- a turn of the loop over lines
pub turn : (lines : List (List ℕ)) (given now : List Given) (n m : ℕ) (rest : List (List ℕ)) (line : List ℕ) (others : List (List ℕ)) (pair : Given)
    → AreRead lines given n rest → rest ≡ line ∷ others → Gives line pair → m ≡ n + 1 → now ≡ given ++ pair ∷ []
    → AreRead lines now m others
turn lines given now n m rest line others pair before cut gives next grown =
    let is : drop n lines ≡ line ∷ others = before.left ∙ cut in
    rw (next, grown) (record {
      left = back lines n line others is;
      all = rw (one_more lines n line others is) (all_zipped_more Gives (take n lines) given line pair before.all gives);
    })

-- the first line that gives nothing
pub refuses : (text : List ℕ) (given : List Given) (n : ℕ) (rest : List (List ℕ)) (line : List ℕ) (others : List (List ℕ)) (number : ℕ)
    → AreRead (lines_of text) given n rest → rest ≡ line ∷ others → ¬ IsGiving line → number ≡ n + 1
    → RefusesExternals text (BadLine number)
refuses text given n rest line others number before cut none counted =
    let is : drop n (lines_of text) ≡ line ∷ others = before.left ∙ cut in
    let less : number - 1 ≡ n = omega arith in
    record {
      number = number;
      numbered = refl;
      counted = omega arith;
      inside = omega (arith, inside (lines_of text) n line others is);
      before = rw less (given, before.all);
      there = rw (less, front (lines_of text) n line others is) none;
    }

-- no text is refused whose lines all have the form
pub not_giving : (text : List ℕ) (fault : ExternalsFault) → RefusesExternals text fault → ¬ AreGiving (lines_of text)
not_giving text fault refused all =
    refused.there (given_at (lines_of text) all.0 (refused.number - 1) all.1 (omega (arith, refused.counted, refused.inside)))
