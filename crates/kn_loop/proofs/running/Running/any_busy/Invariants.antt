use Rattle.std.proofs.Common.{◌≡◌, length}
use Rattle.kn_loop.specs.Kept.{line_of}
use Rattle.kn_loop.specs.Turns.{any_busy}
use Rattle.kn_loop.proofs.running.Running.any_busy.Given as goal

abbrev pub invariant-loop-first : goal.invariant-loop-first
invariant-loop-first g l = any_busy l.rest (line_of l.fn.self.watch.lines) (g.N.Node.answers l.fn.self.node) ≡ any_busy l.fn.self.busy.items (line_of l.fn.self.watch.lines) (g.N.Node.answers l.fn.self.node)

abbrev pub decreases-loop-first : goal.decreases-loop-first
decreases-loop-first g l = length l.rest
