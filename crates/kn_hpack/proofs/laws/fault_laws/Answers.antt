use Rattle.kn_hpack.proofs.FaultsFound.{fault_is_there as there}
use Rattle.kn_hpack.proofs.FaultsTold.{fault_is_told as told}
use Rattle.kn_hpack.proofs.laws.fault_laws.Goals as goal

pub returns : goal.returns
returns c = record { fault_is_there = there; fault_is_told = told }
