use Rattle.std.proofs.Common.{◌≡◌, ◌≤◌, ℕ}
use Rattle.kn_loop.specs.Turns.{Steady, IsTurn}
use Rattle.kn_serve.specs.Working.{Went}
use Rattle.kn_serve.proofs.serving.serve.Given as goal

abbrev pub invariant-loop-turn : goal.invariant-loop-turn
invariant-loop-turn g l = record {
  steady : Steady l.running.busy.items l.running.awake l.running.watch (g.N.Node.answers l.running.node) (g.N.Node.top l.running.node) (g.P.Port.last l.port) (g.P.Port.told l.port);
  went : (k : ℕ) × Went (IsTurn g.N.Node.did g.N.Node.outgoing g.N.Node.answers g.N.Node.top g.N.Node.to_dial g.N.Node.takes_of g.N.Node.ended_count g.N.Node.is_cut_off) k (g.P.Port.told l.fn.port) l.fn.running.watch l.fn.running.node (g.P.Port.told l.port) l.running.watch l.running.node;
  faults : g.P.Port.faults l.fn.port ≤ g.P.Port.faults l.port;
}
