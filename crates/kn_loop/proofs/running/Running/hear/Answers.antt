use Rattle.kn_loop.specs.Calls.{unpaused}
use Rattle.kn_loop.specs.Kept.{is_in, line_of}
use Rattle.kn_loop.proofs.Covering.{none_due, due_same, covers_woken}
use Rattle.kn_loop.proofs.Giving.{same_named}
use Rattle.kn_loop.proofs.running.Running.hear.Goals as goal

pub gather-requires-clause-none : goal.gather-requires-clause-none
gather-requires-clause-none g c = rw c.wake_kept.ensures.node
    (due_same (line_of c.wake_kept.new.self.watch.lines) (line_of c.wake_all.new.watch.lines) (unpaused (g.N.Node.answers c.args.self.now.node))
    (same_named c.as_slice.result.now (line_of c.wake_kept.new.self.watch.lines) (line_of c.wake_all.new.watch.lines) c.in_ok-wake_all.ensures.lines)
    (rw c.wake_kept.ensures.watch (none_due c.args.self.now.busy.items (line_of c.args.self.now.watch.lines) (unpaused (g.N.Node.answers c.args.self.now.node)) c.requires.rests)))

pub gather-requires-clause-covers : goal.gather-requires-clause-covers
gather-requires-clause-covers g c = covers_woken (is_in c.wake_kept.new.self.awake) (is_in c.wake_all.new.awake) (line_of c.wake_kept.new.self.watch.lines) (line_of c.wake_all.new.watch.lines) (unpaused (g.N.Node.answers c.wake_kept.new.self.node))
    c.in_ok-wake_kept.ensures.covers c.in_ok-wake_all.ensures.awake
