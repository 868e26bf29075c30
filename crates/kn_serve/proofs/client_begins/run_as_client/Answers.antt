use Rattle.std.proofs.Common.{◌≡◌, ap, ◌∙◌, subst}
use Rattle.kn_port.specs.declared.names.Gate.TheVariants as gate
use Rattle.kn_port.specs.declared.names.Listened.TheVariants as listened
use Rattle.kn_port.specs.Journal.{Tells, listen_entries}
use Rattle.kn_loop.specs.Gates.{gate_listened}
use Rattle.kn_serve.specs.Programs.{ClientDials}
use Rattle.kn_serve.proofs.client_begins.run_as_client.Goals as goal

pub returns-in-Done-clause-runs : goal.returns-in-Done-clause-runs
returns-in-Done-clause-runs g c = (
  listened.Done,
  g.P.Port.told c.listen_at.new.port,
  subst (λ a. Tells (g.P.Port.told c.args.port.now) (g.P.Port.told c.listen_at.new.port) (listen_entries gate.Apps a listened.Done)) c.as_str.ensures c.in-Done.ensures.told,
  subst (λ gs. ClientDials c.args.options gs (g.P.Port.told c.listen_at.new.port) (g.P.Port.told c.dial_client.new.port) c.dial_client.result) (c.in-Done.ensures.gates ∙ ap (λ gs. gate_listened gate.Apps listened.Done gs) c.none-gates.ensures) c.dial_client.ensures.dials,
)
