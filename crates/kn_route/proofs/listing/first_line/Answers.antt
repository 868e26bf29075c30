use Rattle.kn_route.proofs.ListingLemmas.{line_before, last_line}
use Rattle.kn_route.proofs.listing.first_line.Goals as goal

pub returns-in-Some-clause-lines : goal.returns-in-Some-clause-lines
returns-in-Some-clause-lines c = line_before c.args.bytes.now c.first_part.result.0.now c.in-Some.rest.now (rw c.in-Some.is at c.first_part.ensures.parts)

pub returns-in-None-clause-lines : goal.returns-in-None-clause-lines
returns-in-None-clause-lines c =
    last_line c.args.bytes.now c.first_part.result.0.now c.requires (rw c.in-None.is at c.first_part.ensures.last)
    (rw c.in-None.is at c.first_part.ensures.parts)
