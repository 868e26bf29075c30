use Rattle.std.proofs.Common.{◌≡◌, drop}
use Rattle.kn_h2_state.specs.Feeding.{after_frames}
use Rattle.kn_h2_state.specs.Holding.{Holds}
use Rattle.kn_h2.proofs.frames.on_frames.Given as goal

abbrev pub invariant-loop-frame : goal.invariant-loop-frame
invariant-loop-frame l = record {
  holds : Holds l.state;
  same : after_frames l.state (drop l.frame-index l.frames) ≡ after_frames l.initial.state l.frames;
}
