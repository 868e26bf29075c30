use Rattle.kn_loop.specs.Kept.{is_in}
use Rattle.kn_serve.proofs.WakeLemmas.{both_ok, client_wakes}
use Rattle.kn_serve.proofs.client_side.ClientSideNode.lost.Goals as goal

pub returns-clause-wakes : goal.returns-clause-wakes
returns-clause-wakes c = both_ok c.wake.result c.wake.ensures.wakes c.wake.ensures.taken
    (client_wakes c.args.self.now.node c.lost.new.self c.wake.new.self.node (is_in c.args.awake.now) (is_in c.wake.new.awake) c.in_ok-lost.ensures.stirs)
