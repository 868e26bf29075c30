use Rattle.std.proofs.Common.{pos, length, refl, ap, arith}
use Rattle.kn_edge_core.specs.declared.agent_state.AgentState.{AgentState}
use Rattle.kn_edge_core.specs.declared.agent_event.AgentOut.TheVariants.{CloseDest}
use Rattle.kn_edge_core.specs.Agent.{all_closed}
use Rattle.kn_edge_core.proofs.SoundLemmas.{connections_taken, first_below}
use Rattle.kn_edge_core.proofs.LossLemmas.{told_more}
use Rattle.kn_edge_core.proofs.link_loss.connections_closed.Goals as goal

pub loop-connection-smaller : goal.loop-connection-smaller
loop-connection-smaller c = omega (arith, ap length c.in-Some.ensures.first)

pub close_number-requires : goal.close_number-requires
close_number-requires c = first_below c.loop-connection.state c.loop-connection.invariant.sound c.in-Some.connection c.take_first.new.self c.in-Some.ensures.first

pub loop-connection-preserved : goal.loop-connection-preserved
loop-connection-preserved c = record {
  sound = connections_taken c.loop-connection.state _ c.loop-connection.invariant.sound c.in-Some.connection c.in-Some.ensures.first refl refl refl;
  rest = ap (λ (s : AgentState). record s { connections = c.take_first.new.self }) c.loop-connection.invariant.rest;
  told = told_more c.loop-connection.outs.items _ _ _ _ (CloseDest (pos c.in-Some.connection.connect_id)) c.in_ok-close_number.ensures (ap all_closed c.in-Some.ensures.first) c.loop-connection.invariant.told;
}

pub returns-in_err-close_number-clause-sound : goal.returns-in_err-close_number-clause-sound
returns-in_err-close_number-clause-sound c = connections_taken c.loop-connection.state _ c.loop-connection.invariant.sound c.in-Some.connection c.in-Some.ensures.first refl refl refl
