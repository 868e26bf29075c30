use Rattle.kn_serve.proofs.server_begins.work_server.Goals as goal

pub work-requires : goal.work-requires
work-requires g c = c.in-Ok.ensures.ready (g.P.Port.last c.args.port.now) (g.P.Port.told c.args.port.now)
