use Rattle.kn_route.proofs.ListingLaws.{listing_spelled, spelled_listing, in_lines, whole_lines, open_lines}
use Rattle.kn_route.proofs.laws.listings_by_lines.Goals as goal

pub returns-clause-listing : goal.returns-clause-listing
returns-clause-listing c = listing_spelled

pub returns-clause-only_listing : goal.returns-clause-only_listing
returns-clause-only_listing c = spelled_listing

pub returns-clause-lines : goal.returns-clause-lines
returns-clause-lines c = in_lines

pub returns-clause-whole : goal.returns-clause-whole
returns-clause-whole c = whole_lines

pub returns-clause-unended : goal.returns-clause-unended
returns-clause-unended c = open_lines
