use Rattle.std.proofs.Common.{◌∙◌, ◌-◌, sym, ap, arith}
use Rattle.kn_world.specs.Handing as spec
use Rattle.kn_world.specs.Times.{times}
use Rattle.kn_world.proofs.TimesLemmas.{times_none, times_more}
use Rattle.kn_world.proofs.handing.server_hears_all.Goals as goal

pub packets-preserved : goal.packets-preserved
packets-preserved c =
    ap (times (c.packets.left - 1) (spec.server_hears c.args.app)) c.in_ok-server_hears.ensures
    ∙ sym (times_more c.packets.left (spec.server_hears c.args.app) c.packets.state (omega arith))
    ∙ c.packets.invariant

pub returns : goal.returns
returns c = sym (times_none c.packets.left (spec.server_hears c.args.app) c.packets.state (omega arith)) ∙ c.packets.invariant
