use Rattle.kn_route.proofs.FittingLemmas.{fits_speaks, speaks_fits, link_is_of, of_link}
use Rattle.kn_route.proofs.laws.fits_by_table.Goals as goal

pub returns-clause-fits : goal.returns-clause-fits
returns-clause-fits c = fits_speaks

pub returns-clause-only_fits : goal.returns-clause-only_fits
returns-clause-only_fits c = speaks_fits

pub returns-clause-link : goal.returns-clause-link
returns-clause-link c = link_is_of

pub returns-clause-only_link : goal.returns-clause-only_link
returns-clause-only_link c = of_link
