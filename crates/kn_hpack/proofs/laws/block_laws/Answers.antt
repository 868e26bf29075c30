use Rattle.kn_hpack.proofs.StepFacts.{block_is_read as read_back}
use Rattle.kn_hpack.proofs.TakeFacts as facts
use Rattle.kn_hpack.proofs.laws.block_laws.Goals as goal

pub returns : goal.returns
returns c = record {
  block_is_read = read_back;
  read_is_block = facts.read_is_block;
  fault_is_no_block = facts.fault_is_no_block;
  block_is_one = facts.block_is_one;
}
