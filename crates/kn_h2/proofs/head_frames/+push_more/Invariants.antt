-- The rest grows shorter.
use Rattle.std.proofs.Common.{length}
use Rattle.kn_h2.proofs.head_frames.+push_more.Given as goal

abbrev pub decreases-push_more : goal.decreases-push_more
decreases-push_more l = length l.rest.now
