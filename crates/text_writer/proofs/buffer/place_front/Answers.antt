use Rattle.std.proofs.Common.{◌≡◌, ℕ, ◌+◌, ◌≤◌, List, ◌++◌, length, take, subst, ap, sym, ◌∙◌, arith, rules}
use Rattle.std.proofs.lemmas.List.{length-take-le, take-append-le}
use Rattle.std.proofs.Math.Seq.{take-append-add}
use Rattle.text_writer.proofs.buffer.place_front.Goals as goal

front : (old : List ℕ) (at n : ℕ) (bs rest : List ℕ) → at ≤ length old → n ≤ length bs
    → take (at + n) (take at old ++ (bs ++ rest)) ≡ take at old ++ take n bs
front old at n bs rest fits few =
    subst (λ m. take (m + n) (take at old ++ (bs ++ rest)) ≡ take at old ++ take n bs) (length-take-le at old fits)
    (take-append-add (take at old) (bs ++ rest) n ∙ ap (λ t. take at old ++ t) (take-append-le n bs rest few))

pub returns-clause-placed : goal.returns-clause-placed
returns-clause-placed c =
    let all : length c.args.bytes.now ≡ 16 = search rules in
    rw c.copy_from_slice.ensures.after (front c.args.buffer.now c.args.at c.args.count c.args.bytes.now _ (omega (arith, c.requires.room)) (omega (arith, c.requires.few, all)))
