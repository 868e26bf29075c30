use Rattle.kn_world.proofs.OpenLemmas.{open_where}
use Rattle.kn_world.proofs.views.has_open.Goals as goal

pub returns : goal.returns
returns c = rw (c.has_open_below.ensures, c.next_dial-next.ensures.value, c.held-held.ensures)
    (open_where c.args.server.now.next_dial c.args.server.now.held (rw c.held-held.ensures at c.first_of_front-first.ensures.rising) c.next_dial-next.ensures.sound.held_drawn)
