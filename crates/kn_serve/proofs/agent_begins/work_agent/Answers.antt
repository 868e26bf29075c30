use Rattle.kn_serve.proofs.agent_begins.work_agent.Goals as goal

pub work-requires : goal.work-requires
work-requires g c = c.in-Ok.ensures.ready (g.P.Port.last c.args.port.now) (g.P.Port.told c.args.port.now) c.requires.drawn.1 c.requires.hand
