use Rattle.std.proofs.Common.{rules}
use Rattle.std.proofs.lemmas.List.{take_at}
use Rattle.kn_loop.proofs.Visiting.{both_ok, read_visit}
use Rattle.kn_loop.proofs.running.Running.read_once.Goals as goal

pub returns-clause-visited : goal.returns-clause-visited
returns-clause-visited g c = both_ok c.tell_read.result c.tell_read.ensures.did c.tell_read.ensures.visit
    (λ did visit. read_visit g.N.Node.did g.N.Node.outgoing g.N.Node.answers g.N.Node.top c.args.conn c.read-got.new.room _ c.read-got.result _ _ _ _ _ _ _ (take_at _ _ _ (search rules)) c.read-got.ensures.told (search rules) c.requires.line c.requires.wanted c.in_ok-note_read.ensures.ok c.tell_read.ensures.watch did visit)
