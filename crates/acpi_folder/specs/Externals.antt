-- The file of the counts that are given: for a path that no table declares, the number of arguments of its method.
-- A line is a path as it is printed, a space and a digit from 0 to 7. The byte 0A ends a line; the last line may go
-- without.
use Rattle.std.specs.Prelude.{◌≡◌, ℕ, ◌+◌, ◌-◌, ◌<◌, ◌≤◌, List, [], ◌∷◌, ◌++◌, length, take}
use Rattle.std.specs.List.{AllByRecursion, AllZip}
use Rattle.aml_names.specs.declared.segments.Seg.{Seg}
use Rattle.aml_names.specs.Names.{IsNameSeg}
use Rattle.aml_names.specs.Paths.{segment_text, path_text}
use Rattle.acpi_folder.specs.declared.externals.ExternalsFault.{ExternalsFault}
use Rattle.acpi_folder.specs.declared.externals.ExternalsFault.TheVariants.{BadLine}
use Rattle.acpi_folder.specs.Map.{lines_of, line_at}

-- a path, and how many arguments it takes
abbrev pub Given : Type 0
Given = List Seg × ℕ

-- A path that can be given: it isn't the root, and its segments are NameSegs.
pub record IsBelowRoot (path : List Seg) : Type 0 where
  pub below : 0 < length path
  pub segments : AllByRecursion (λ s. IsNameSeg s.0) path

-- A line gives a path and a count of at most seven: it is the path as it is printed, a space and the digit.
pub record Gives (line : List ℕ) (given : Given) : Type 0 where
  pub path : IsBelowRoot given.0
  pub few : given.1 ≤ 7
  pub text : line ≡ path_text given.0 ++ (32 ∷ (48 + given.1) ∷ [])

-- each line gives what stands in its place
abbrev pub AreGiven : List (List ℕ) → List Given → Type 0
AreGiven = AllZip Gives

-- a line, or each of some lines, has the form
abbrev pub IsGiving : List ℕ → Type 0
IsGiving line = (given : Given) × Gives line given

abbrev pub AreGiving : List (List ℕ) → Type 0
AreGiving lines = (given : List Given) × AreGiven lines given

-- What a refusal says of a text: the line of this number, counted from 1, is the first that hasn't the form.
pub record RefusesExternals (text : List ℕ) (fault : ExternalsFault) : Type 0 where
  pub number : ℕ
  pub numbered : fault ≡ BadLine number
  pub counted : 1 ≤ number
  pub inside : number ≤ length (lines_of text)
  pub before : AreGiving (take (number - 1) (lines_of text))
  pub there : ¬ IsGiving (line_at (lines_of text) (number - 1))

-- The steps of reading a line. Bytes are a path below the root, as it is printed.
pub record IsPrinted (text : List ℕ) (path : List Seg) : Type 0 where
  pub below : IsBelowRoot path
  pub same : text ≡ path_text path

-- bytes begin with this byte and a NameSeg, and these are left
pub record BeginsWith (lead : ℕ) (bytes : List ℕ) (segment : Seg) (rest : List ℕ) : Type 0 where
  pub named : IsNameSeg segment.0
  pub parts : bytes ≡ lead ∷ segment_text segment ++ rest

abbrev pub BeginsWithNone : ℕ → List ℕ → Type 0
BeginsWithNone lead bytes = (segment : Seg) → (rest : List ℕ) → BeginsWith lead bytes segment rest → ⊥
