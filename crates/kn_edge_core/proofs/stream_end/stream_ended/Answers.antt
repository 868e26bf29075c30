use Rattle.std.proofs.Common.{refl, ap}
use Rattle.kn_edge_core.specs.declared.client_state.ClientState.{ClientState}
use Rattle.kn_edge_core.specs.Client.{apps_after}
use Rattle.kn_edge_core.proofs.SoundLemmas.{apps_taken}
use Rattle.kn_edge_core.proofs.StreamLemmas.{below_first, before_next, kept_more, told_more, stream_sound}
use Rattle.kn_edge_core.proofs.LossLemmas.{told_all}
use Rattle.kn_edge_core.proofs.stream_end.stream_ended.Goals as goal

pub app_at_end-requires : goal.app_at_end-requires
app_at_end-requires c = below_first c.loop-app.kept c.in-Some.app c.take_first.new.self (rw c.in-Some.ensures.first at c.loop-app.invariant.before)

pub loop-app-preserved : goal.loop-app-preserved
loop-app-preserved c = record {
  sound = apps_taken c.loop-app.state _ c.loop-app.invariant.sound c.in-Some.app c.in-Some.ensures.first refl;
  rest = ap (λ (s : ClientState). record s { apps = c.take_first.new.self }) c.loop-app.invariant.rest;
  before = rw c.in_ok-app_at_end.ensures.kept (before_next c.args.error.now c.loop-app.kept c.in-Some.app c.take_first.new.self (rw c.in-Some.ensures.first at c.loop-app.invariant.before) c.in-Some.ensures.rest);
  stay = kept_more c.args.error.now c.loop-app.kept c.app_at_end.new.kept c.in-Some.app c.take_first.new.self c.loop-app.state.apps _ c.in_ok-app_at_end.ensures.kept c.in-Some.ensures.first c.loop-app.invariant.stay;
  told = told_more c.args.error.now c.loop-app.outs.items c.app_at_end.new.outs.items c.in-Some.app c.take_first.new.self c.loop-app.state.apps _ c.in_ok-app_at_end.ensures.outs c.in-Some.ensures.first c.loop-app.invariant.told;
}

pub returns-in_err-app_at_end-clause-sound : goal.returns-in_err-app_at_end-clause-sound
returns-in_err-app_at_end-clause-sound c = apps_taken c.loop-app.state _ c.loop-app.invariant.sound c.in-Some.app c.in-Some.ensures.first refl

pub returns-clause-sound : goal.returns-clause-sound
returns-clause-sound c =
    let none = rw c.in_default.is at c.take_first.ensures.first in
    stream_sound c.args.state.now _ c.args.error.now c.requires (told_all c.loop-app.kept _ _ (ap (apps_after c.args.error.now) none) c.loop-app.invariant.stay) (ap (λ (s : ClientState). s.top_app) c.loop-app.invariant.rest)
