use Rattle.kn_route.proofs.ListingLemmas.{identifiers_of_text, identifiers_of_bytes}
use Rattle.kn_route.proofs.listing.line_identifiers.Goals as goal

pub returns-in-Ok : goal.returns-in-Ok
returns-in-Ok c = rw (← identifiers_of_text _ c.in-Ok.ensures.cases.1, ← c.in-Ok.ensures.cases.0) c.identifiers_of.ensures

pub returns-in-Err : goal.returns-in-Err
returns-in-Err c = identifiers_of_bytes _ c.in-Err.ensures.cases.0
