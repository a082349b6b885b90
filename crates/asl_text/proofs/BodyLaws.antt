-- The lines of bodies, as the printing functions print them.
use Rattle.asl_text.proofs.Common.{◌≡◌, ℕ, List, [], ◌∷◌, length, map, Vec, Result, Ok, Err, refl, ap, nodes_view}
use Rattle.asl_text.proofs.Common.{Global, CodeFault, Node, Body, BodyText, line, raw_text, BodyLines, body_lines}
use Rattle.asl_text.proofs.Common.{first_lines, all_lines, body_view, kept_lines, printed_lines}
use Rattle.asl_text.specs.declared.bodies.Body.TheVariants as bodies
use Rattle.asl_text.specs.declared.bodies.BodyText.TheVariants as texts
use Rattle.text_writer.proofs.PrintLaws.{straight}

pub first_none : {X : Type 0} (f : X → BodyLines) (xs : List X) (level : ℕ) (bs : List ℕ) → length xs ≡ 0
    → first_lines (map f xs) level bs ≡ []
first_none f [] level bs e = refl
first_none f (x ∷ xs) level bs e = cc

pub first_some : {X : Type 0} (f : X → BodyLines) (xs : List X) (level : ℕ) (bs : List ℕ) (x : X) (rest : List X)
    → xs ≡ x ∷ rest
    → first_lines (map f xs) level bs ≡ f x level bs
first_some f xs level bs x rest e = ap (λ ys. first_lines (map f ys) level bs) e

pub read_none : (xs : List Body) (level : ℕ) (bs : List ℕ) → length xs ≡ 0
    → first_lines (map body_lines (map body_view xs)) level bs ≡ []
read_none [] level bs e = refl
read_none (x ∷ xs) level bs e = cc

pub read_some : (xs : List Body) (level : ℕ) (bs : List ℕ) (x : Body) (rest : List Body) → xs ≡ x ∷ rest
    → first_lines (map body_lines (map body_view xs)) level bs ≡ body_lines (body_view x) level bs
read_some xs level bs x rest e = ap (λ (ys : List Body). first_lines (map body_lines (map body_view ys)) level bs) e

pub ruleset first_of = (first_none, first_some, read_none, read_some)

pub of_tree : (level : ℕ) (bs : List ℕ) (body : Body) (nodes : Vec Node Global) → body ≡ bodies.Tree nodes
    → body_lines (body_view body) level bs ≡ all_lines level (nodes_view nodes.items)
of_tree level bs body nodes e = ap (λ (b : Body). body_lines (body_view b) level bs) e

pub of_raw : (level : ℕ) (bs : List ℕ) (body : Body) (fault : CodeFault) → body ≡ bodies.Raw fault
    → body_lines (body_view body) level bs ≡ line level (raw_text bs)
of_raw level bs body fault e = ap (λ (b : Body). body_lines (body_view b) level bs) e

pub ruleset read_lines = (of_tree, of_raw)

pub of_lines : (level : ℕ) (kept : BodyText) (text : Vec ℕ Global) → kept ≡ texts.Lines text
    → kept_lines kept level ≡ text.items
of_lines level kept text e = ap (λ (k : BodyText). kept_lines k level) e

pub of_terms : (level : ℕ) (kept : BodyText) (nodes : Vec Node Global) → kept ≡ texts.Terms nodes
    → kept_lines kept level ≡ all_lines level (nodes_view nodes.items)
of_terms level kept nodes e = ap (λ (k : BodyText). kept_lines k level) e

pub ruleset kept = (of_lines, of_terms)

pub of_kept : (level : ℕ) (bs : List ℕ) (kept : Result BodyText CodeFault) (text : BodyText) → kept ≡ Ok text
    → printed_lines kept level bs ≡ kept_lines text level
of_kept level bs kept text e = ap (λ (k : Result BodyText CodeFault). printed_lines k level bs) e

pub of_fault : (level : ℕ) (bs : List ℕ) (kept : Result BodyText CodeFault) (fault : CodeFault) → kept ≡ Err fault
    → printed_lines kept level bs ≡ line level (raw_text bs)
of_fault level bs kept fault e = ap (λ (k : Result BodyText CodeFault). printed_lines k level bs) e

pub ruleset printed = (of_kept, of_fault)

pub ruleset printing = (straight, first_of, read_lines, kept, printed)
