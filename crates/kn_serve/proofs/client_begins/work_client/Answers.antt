use Rattle.std.proofs.Common.{inr}
use Rattle.kn_serve.proofs.client_begins.work_client.Goals as goal

pub work-requires : goal.work-requires
work-requires g c = c.in-Ok.ensures.ready (g.P.Port.last c.args.port.now) (g.P.Port.told c.args.port.now) c.requires.drawn.1 c.requires.hand

pub returns-in-Ok-clause-works : goal.returns-in-Ok-clause-works
returns-in-Ok-clause-works g c = inr (c.in-Ok.running.watch, c.in-Ok.running.node, c.in-Ok.ensures.node, c.in-Ok.ensures.address, c.in-Ok.ensures.watch, c.work.ensures.works)
