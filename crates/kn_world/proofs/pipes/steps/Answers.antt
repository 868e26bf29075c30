use Rattle.std.proofs.Common.{◌∙◌, ◌-◌, sym, ap, arith}
use Rattle.kn_world.specs.Pipes as spec
use Rattle.kn_world.specs.Times.{times}
use Rattle.kn_world.proofs.TimesLemmas.{times_none, times_more}
use Rattle.kn_world.proofs.pipes.steps.Goals as goal

pub packets-preserved : goal.packets-preserved
packets-preserved c =
    ap (times (c.packets.left - 1) (spec.step c.args.pipe)) c.in_ok-step.ensures
    ∙ sym (times_more c.packets.left (spec.step c.args.pipe) c.packets.state (omega arith))
    ∙ c.packets.invariant

pub returns : goal.returns
returns c = sym (times_none c.packets.left (spec.step c.args.pipe) c.packets.state (omega arith)) ∙ c.packets.invariant
