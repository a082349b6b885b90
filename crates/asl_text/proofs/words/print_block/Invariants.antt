use Rattle.asl_text.proofs.Common.{◌≡◌, ◌++◌, length, map, take, word}
use Rattle.asl_text.specs.Texts.{segment_text}
use Rattle.asl_text.proofs.words.print_block.Given as goal

abbrev pub invariant-loop-place : goal.invariant-loop-place
invariant-loop-place g l =
    (length l.block ≡ 4096) × (take l.place l.block ≡ map (λ s. word "." ++ segment_text s) (take l.place l.segs))
