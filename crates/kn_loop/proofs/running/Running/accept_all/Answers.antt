use Rattle.kn_loop.proofs.Making.{made_then}
use Rattle.kn_loop.proofs.Visiting.{asks_all}
use Rattle.kn_loop.proofs.running.Running.accept_all.Goals as goal

pub returns-clause-made : goal.returns-clause-made
returns-clause-made g c = made_then g.N.Node.did g.N.Node.outgoing g.N.Node.answers g.N.Node.top _ _ _ _ _ _ _ _ _
    (made_then g.N.Node.did g.N.Node.outgoing g.N.Node.answers g.N.Node.top _ _ _ _ _ _ _ _ _
    (made_then g.N.Node.did g.N.Node.outgoing g.N.Node.answers g.N.Node.top _ _ _ _ _ _ _ _ _ c.in_ok-accept_if_due.ensures.made c.in_ok-accept_if_due-2.ensures.made)
    c.in_ok-accept_if_due-3.ensures.made)
    c.in_ok-accept_if_due-4.ensures.made

pub returns-clause-asked : goal.returns-clause-asked
returns-clause-asked g c = asks_all g.N.Node.did g.N.Node.outgoing g.N.Node.answers g.N.Node.top g.N.Node.takes_of _ _ _ _ _ _ _ _ _ _ _ _ _ _ _
    c.in_ok-accept_if_due.ensures.asked c.in_ok-accept_if_due-2.ensures.asked c.in_ok-accept_if_due-3.ensures.asked c.in_ok-accept_if_due-4.ensures.asked
