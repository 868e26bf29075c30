use Rattle.std.proofs.Common.{rules, ◌≡◌, ◌≤◌, suc}
use Rattle.kn_loop.specs.declared.turn.Turn.TheVariants as turn
use Rattle.kn_loop.specs.Turns.{IsTurn}
use Rattle.kn_serve.proofs.ServeLemmas.{went_on}
use Rattle.kn_serve.proofs.serving.serve.Goals as goal

pub loop-turn-preserved : goal.loop-turn-preserved
loop-turn-preserved g c =
    let more : c.turn-answer.result ≡ turn.More = search rules in
    let went = c.loop-turn.invariant.went in
    record {
      steady = c.turn-answer.ensures.steady more;
      went = (
        suc went.0,
        went_on (IsTurn g.N.Node.did g.N.Node.outgoing g.N.Node.answers g.N.Node.top g.N.Node.to_dial g.N.Node.takes_of g.N.Node.ended_count g.N.Node.is_cut_off) went.0
            (g.P.Port.told c.args.port.now) (g.P.Port.told c.loop-turn.port) (g.P.Port.told c.turn-answer.new.port)
            c.args.running.now.watch c.loop-turn.running.watch c.turn-answer.new.self.watch
            c.args.running.now.node c.loop-turn.running.node c.turn-answer.new.self.node
            c.turn-answer.result went.1 c.turn-answer.ensures.turned more,
      );
      faults = search rules;
    }
