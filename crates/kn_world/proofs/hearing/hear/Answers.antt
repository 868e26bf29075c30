use Rattle.kn_world.proofs.HearingLemmas.{both_ok}
use Rattle.kn_world.proofs.hearing.hear.Goals as goal

pub returns : goal.returns
returns c = both_ok c.respond.result c.respond.ensures.given c.respond.ensures.state
    (λ given is. (c.feed-given.result, c.feed-given.new.apps, rw c.head_of-piece.ensures at c.feed-given.ensures, given, rw c.rest_of-rest.ensures at is))
