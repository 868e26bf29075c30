use Rattle.kn_hpack.proofs.encoder.+push_tail.Given as goal

abbrev pub decreases-push_tail : goal.decreases-push_tail
decreases-push_tail l = l.left
