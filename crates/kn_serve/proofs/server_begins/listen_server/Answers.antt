use Rattle.std.proofs.Common.{rules, ◌≡◌, ap, ◌∙◌, subst}
use Rattle.kn_port.specs.declared.names.Gate.TheVariants as gate
use Rattle.kn_port.specs.Journal.{Tells, listen_entries}
use Rattle.kn_loop.specs.Gates.{gate_listened}
use Rattle.kn_serve.specs.First.{entries_after}
use Rattle.kn_serve.proofs.ListenLemmas.{server_listens, counts_then}
use Rattle.kn_serve.proofs.server_begins.listen_server.Goals as goal

pub returns-clause-listens : goal.returns-clause-listens
returns-clause-listens g c = server_listens c.args.options.now _ _ _ _ _ _ _ _ _ _ _ _
    (subst (λ a. Tells (g.P.Port.told c.args.port.now) (g.P.Port.told c.listen_at-agents.new.port) (listen_entries gate.Agents a c.listen_at-agents.result)) c.as_str.ensures c.listen_at-agents.ensures.told)
    (c.listen_at-agents.ensures.gates ∙ ap (λ gs. gate_listened gate.Agents c.listen_at-agents.result gs) c.requires)
    (subst (λ a. Tells (g.P.Port.told c.listen_at-agents.new.port) (g.P.Port.told c.listen_after-clients.new.port) (entries_after c.listen_at-agents.result gate.Clients a c.listen_after-clients.ensures.told.0)) c.as_str-2.ensures c.listen_after-clients.ensures.told.1)
    c.listen_after-clients.ensures.told.2 c.listen_after-clients.ensures.told.3
    c.listen_any.ensures.told.1 c.listen_any.ensures.told.2 c.listen_any.ensures.told.3

pub returns-clause-count : goal.returns-clause-count
returns-clause-count g c = counts_then c.listen_after-clients.result c.listen_any.result _ _ _
    (counts_then c.listen_at-agents.result c.listen_after-clients.result _ _ _ c.listen_at-agents.ensures.count c.listen_after-clients.ensures.faults c.listen_after-clients.ensures.failed)
    c.listen_any.ensures.faults c.listen_any.ensures.failed
