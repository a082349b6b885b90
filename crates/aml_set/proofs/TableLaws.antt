-- The tables of a set in one list: each is bytes, and short, by its type; and what changes where one is read.
use Rattle.std.proofs.Common.{◌≡◌, ℕ, zero, suc, ◌<◌, List, [], ◌∷◌, ◌++◌, length, set, map, get_or, refl, sym, ap, ◌∙◌}
use Rattle.std.proofs.Common.{append_assoc, append-nil, arith}
use Rattle.std.proofs.lemmas.List.{map_push}
use Rattle.aml_code.specs.Tree.{Trees}
use Rattle.aml_code.specs.View.{nodes_view}
use Rattle.aml_set.specs.Code.{AreCodes, AreShort}
use Rattle.aml_set.specs.Views.{table_codes, table_dumps, table_terms}
use Rattle.aml_set.specs.declared.tables.Table.{Table}

pub are_codes : (ts : List Table) → AreCodes (table_codes ts)
are_codes [] = tt
are_codes (t ∷ ts) = (t.bytes, are_codes ts)

pub are_short : (ts : List Table) → AreShort (table_codes ts)
are_short [] = tt
are_short (t ∷ ts) = (t.short, are_short ts)

-- a table in the place of another with its dump and its AML
pub record IsInPlace (ts : List Table) (n : ℕ) (t : Table) (now : List Table) : Type 0 where
  pub dumps : table_dumps now ≡ table_dumps ts
  pub codes : table_codes now ≡ table_codes ts
  pub terms : table_terms now ≡ set (table_terms ts) n (nodes_view t.terms.items)

pub put_in_place : (ts : List Table) (n : ℕ) (t other : Table) → n < length ts → t.dump ≡ (get_or ts n other).dump
    → t.code.now ≡ (get_or ts n other).code.now → IsInPlace ts n t (set ts n t)
put_in_place [] n t other inside d c = absurd (omega (arith, inside))
put_in_place (x ∷ ts) zero t other inside d c = record {
  dumps = ap (λ (i : ℕ). i ∷ table_dumps ts) d;
  codes = ap (λ (code : List ℕ). code ∷ table_codes ts) c;
  terms = refl;
}
put_in_place (x ∷ ts) (suc n) t other inside d c =
    let rest = put_in_place ts n t other (omega (arith, inside)) d c in record {
      dumps = ap (λ (is : List ℕ). x.dump ∷ is) rest.dumps;
      codes = ap (λ (codes : List (List ℕ)). x.code.now ∷ codes) rest.codes;
      terms = ap (λ (terms : List Trees). nodes_view x.terms.items ∷ terms) rest.terms;
    }

-- ---- Lists that are made of the members of another, one after the other.

module _ {A B C : Type 0} (f : A → B) (g : C → B) (all : List B) (xs : List A) where
  pub one_moved : (x : A) (y : C) (ys rest : List C) → f x ≡ g y → ys ≡ y ∷ rest → map f xs ++ map g ys ≡ all
      → map f (xs ++ x ∷ []) ++ map g rest ≡ all
  one_moved x y ys rest same first h =
      ap (λ (l : List B). l ++ map g rest) (map_push f xs x) ∙ append_assoc (map f xs) (f x ∷ []) (map g rest)
      ∙ ap (λ b. map f xs ++ (b ∷ map g rest)) same ∙ ap (λ l. map f xs ++ map g l) (sym first) ∙ h

  pub all_moved : (ys : List C) → length ys ≡ 0 → map f xs ++ map g ys ≡ all → map f xs ≡ all
  all_moved [] none h = sym (append-nil (map f xs)) ∙ h
  all_moved (y ∷ ys) none h = absurd (omega arith)
