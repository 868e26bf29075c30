use Rattle.std.proofs.Common.{length, refl, ap, arith}
use Rattle.kn_edge_core.specs.declared.agent_state.AgentState.{AgentState}
use Rattle.kn_edge_core.specs.declared.agent_event.AgentOut.TheVariants.{DropDial}
use Rattle.kn_edge_core.specs.Agent.{all_dropped}
use Rattle.kn_edge_core.proofs.SoundLemmas.{dials_taken}
use Rattle.kn_edge_core.proofs.LossLemmas.{told_more}
use Rattle.kn_edge_core.proofs.link_loss.dials_dropped.Goals as goal

pub loop-dial-smaller : goal.loop-dial-smaller
loop-dial-smaller c = omega (arith, ap length c.in-Some.ensures.first)

pub loop-dial-preserved : goal.loop-dial-preserved
loop-dial-preserved c = record {
  sound = dials_taken c.loop-dial.state _ c.loop-dial.invariant.sound c.in-Some.dial c.in-Some.ensures.first refl refl refl;
  rest = ap (λ (s : AgentState). record s { dials = c.take_first.new.self }) c.loop-dial.invariant.rest;
  told = told_more c.loop-dial.outs.items _ _ _ _ (DropDial c.in-Some.dial.ticket) c.in_ok-drop_dial.ensures (ap all_dropped c.in-Some.ensures.first) c.loop-dial.invariant.told;
}

pub returns-in_err-drop_dial-clause-sound : goal.returns-in_err-drop_dial-clause-sound
returns-in_err-drop_dial-clause-sound c = dials_taken c.loop-dial.state _ c.loop-dial.invariant.sound c.in-Some.dial c.in-Some.ensures.first refl refl refl
