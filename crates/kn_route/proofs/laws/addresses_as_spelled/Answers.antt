use Rattle.kn_route.proofs.AddressLemmas.{address_in-sound, address_in-complete}
use Rattle.kn_route.proofs.laws.addresses_as_spelled.Goals as goal

pub returns-clause-address : goal.returns-clause-address
returns-clause-address c = address_in-sound

pub returns-clause-only_address : goal.returns-clause-only_address
returns-clause-only_address c = address_in-complete
