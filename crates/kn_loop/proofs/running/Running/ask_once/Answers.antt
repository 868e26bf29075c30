use Rattle.std.proofs.Common.{subst}
use Rattle.kn_loop.specs.Ran.{DialEndDid}
use Rattle.kn_loop.proofs.Visiting.{both_ok, ask_visit}
use Rattle.kn_loop.proofs.running.Running.ask_once.Goals as goal

pub returns-clause-visited : goal.returns-clause-visited
returns-clause-visited g c = both_ok c.tell_dial_end.result c.tell_dial_end.ensures.did c.tell_dial_end.ensures.visit
    (λ did visit. ask_visit g.N.Node.did g.N.Node.outgoing g.N.Node.answers g.N.Node.top c.args.conn c.dial_end-end.result _ _ _ _ _ _ _ c.dial_end-end.ensures.told c.requires.line c.in_ok-note_dial_end.ensures.ok c.tell_dial_end.ensures.watch
    (subst (λ b. DialEndDid g.N.Node.did g.N.Node.outgoing b c.args.self.now.node c.args.conn c.dial_end-end.result c.tell_dial_end.new.self.node) c.leads_to_server-is_server.ensures did) visit)
