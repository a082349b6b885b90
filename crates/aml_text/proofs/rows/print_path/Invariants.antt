use Rattle.std.specs.Prelude.{◌-◌, take}
use Rattle.aml_text.proofs.Common.{◌≡◌, ◌<◌, ◌≤◌, ◌++◌, length, map, Prints, word}
use Rattle.asl_text.specs.Texts.{separated, segment_text}
use Rattle.aml_text.proofs.rows.print_path.Given as goal

abbrev pub invariant-loop-done : goal.invariant-loop-done
invariant-loop-done g l = record {
  within : l.done ≤ l.depth;
  some : l.done < l.depth → 1 ≤ l.done;
  long : length l.window ≡ length l.initial.window;
  text : Prints g.W.Write.contents l.fn.out l.out (word "\\" ++ separated (word ".") (map segment_text (take l.done l.path)));
}

abbrev pub decreases-loop-done : goal.decreases-loop-done
decreases-loop-done g l = l.depth - l.done
