use Rattle.std.proofs.Common.{refl}
use Rattle.kn_loop.proofs.Visiting.{both_ok, write_visit}
use Rattle.kn_loop.proofs.running.Running.write_once.Goals as goal

pub returns-clause-visited : goal.returns-clause-visited
returns-clause-visited g c = both_ok c.tell_write.result c.tell_write.ensures.did c.tell_write.ensures.visit
    (λ did visit. write_visit g.N.Node.did g.N.Node.outgoing g.N.Node.answers g.N.Node.top c.args.conn (g.N.Node.outgoing c.args.self.now.node c.args.conn) c.out.result.now c.write-took.result _ _ _ _ _ _ _ c.out.ensures.bytes c.write-took.ensures.told refl c.requires.some c.requires.line c.in_ok-note_write.ensures.ok c.tell_write.ensures.watch did visit)
