-- What lines say, over lists of them.
use Rattle.acpi_folder.proofs.Common.{◌≡◌, ℕ, Bool, List, [], ◌∷◌, Option, Some, None, map, option_map, find, refl, sym}
use Rattle.acpi_folder.proofs.Common.{ap, ◌∙◌, list_any, Line, address_in, shown_by, entry_of, repeats}
use Rattle.std.specs.Str.{bytes_eq}
use Rattle.acpi_tables.proofs.Values.{find-map}

pub list_any-map : {X Y : Type 0} (test : Y → Bool) (f : X → Y) (xs : List X)
    → list_any test (map f xs) ≡ list_any (λ x. test (f x)) xs
list_any-map test f [] = refl
list_any-map test f (x ∷ xs) = cc (list_any-map test f xs)

address_shown : (line : Option Line)
    → option_map (λ entry. entry.address) (option_map shown_by line) ≡ option_map (λ line. line.address) line
address_shown None = refl
address_shown (Some line) = refl

pub address_in-shown : (lines : List Line) (name : List ℕ)
    → address_in (map shown_by lines) name ≡ option_map (λ line. line.address) (find (λ line. bytes_eq line.name.now name) lines)
unfolding address_in
address_in-shown lines name = ap (option_map (λ entry. entry.address)) (sym (find-map shown_by (λ entry. bytes_eq entry.name name) lines)) ∙ address_shown _

-- whether a line repeats one of others
pub list_any-shown : (line : Line) (bytes : List ℕ) (earlier : List Line) (test : Bool) → shown_by line ≡ entry_of bytes
    → list_any (λ other. repeats (shown_by line) (shown_by other)) earlier ≡ test
    → list_any (repeats (entry_of bytes)) (map shown_by earlier) ≡ test
list_any-shown line bytes earlier test says any = rw (← says) (list_any-map (repeats (shown_by line)) shown_by earlier ∙ any)

pub ruleset entries = (list_any-map, address_in-shown)
