use Rattle.std.proofs.Common.{rules, ◌≡◌, ℕ, List, [], ◌∷◌, length, slice_index_or, ap, refl, arith}
unfoldable use Rattle.text_writer.specs.Prints.{word}
unfoldable use Rattle.asl_text.specs.Texts.{segment_text}
use Rattle.asl_text.proofs.words.dotted.Goals as goal

four : (bytes : List ℕ) → length bytes ≡ 4
    → slice_index_or bytes 0 0 ∷ slice_index_or bytes 1 0 ∷ slice_index_or bytes 2 0 ∷ slice_index_or bytes 3 0 ∷ [] ≡ bytes
four (a ∷ b ∷ c ∷ d ∷ []) h = refl
four _ h = absurd (omega (arith, h))

pub returns : goal.returns
unfolding word segment_text
returns c = ap (λ bytes. 46 ∷ bytes) (four c.args.seg.0 (search rules))
