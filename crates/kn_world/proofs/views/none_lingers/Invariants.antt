use Rattle.std.proofs.Common.{◌≡◌, drop}
use Rattle.kn_world.specs.Views.{none_lingers}
use Rattle.kn_world.proofs.views.none_lingers.Given as goal

abbrev pub invariant-loop-dial : goal.invariant-loop-dial
invariant-loop-dial l = none_lingers l.agents (drop l.dial-index l.dials) ≡ none_lingers l.agents l.dials
