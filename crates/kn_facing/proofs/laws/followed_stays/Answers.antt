use Rattle.kn_facing.proofs.FollowedLemmas.{stays_followed}
use Rattle.kn_facing.proofs.laws.followed_stays.Goals as goal

pub returns : goal.returns
returns c = stays_followed
