use Rattle.std.proofs.Common.{◌≡◌, ℕ, length}
use Rattle.kn_loop.specs.Kept.{is_in, line_of}
use Rattle.kn_loop.specs.Watch.{named_from}
use Rattle.kn_loop.specs.Gates.{gates_named}
use Rattle.kn_loop.specs.Turns.{WakesLines}
use Rattle.kn_loop.proofs.turning.wake_all.Given as goal

abbrev pub invariant-loop-first : goal.invariant-loop-first
invariant-loop-first l = record {
  lines : (c : ℕ) → named_from l.rest c (line_of l.watch.lines c) ≡ named_from l.fn.named c (line_of l.fn.watch.lines c);
  gates : gates_named l.rest l.watch.gates ≡ gates_named l.fn.named l.fn.watch.gates;
  held : l.watch.held ≡ l.fn.watch.held;
  drain : l.watch.drain ≡ l.fn.watch.drain;
  course : l.watch.course ≡ l.fn.watch.course;
  awake : WakesLines (is_in l.fn.awake) (is_in l.awake) (line_of l.fn.watch.lines) (line_of l.watch.lines);
}

abbrev pub decreases-loop-first : goal.decreases-loop-first
decreases-loop-first l = length l.rest
