use Rattle.kn_hpack.proofs.integers.+tail_of.Given as goal

abbrev pub decreases-tail_of : goal.decreases-tail_of
decreases-tail_of l = l.left
