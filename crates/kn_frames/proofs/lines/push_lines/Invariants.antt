use Rattle.std.proofs.Common.{◌≡◌, ◌++◌, drop}
use Rattle.kn_frames.specs.Lines.{lines}
use Rattle.kn_frames.proofs.lines.push_lines.Given as goal

-- what was written and what is still to be written are together the lines
abbrev pub invariant-loop-frame : goal.invariant-loop-frame
invariant-loop-frame l = l.out ++ lines l.offset (drop l.frame-index l.frames) ≡ l.fn.out ++ lines l.fn.start l.frames
