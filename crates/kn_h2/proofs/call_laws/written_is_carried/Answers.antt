use Rattle.kn_h2.proofs.CarriedLemmas.{openings_bring, calls_bring, moves_bring, fills_bring}
use Rattle.kn_h2.proofs.call_laws.written_is_carried.Goals as goal

pub returns : goal.returns
returns c = record {
  opening = openings_bring c.written_is_read.ensures c.calls_are_written.ensures.opening;
  calls = calls_bring c.written_is_read.ensures c.calls_are_written.ensures.calls;
  moves = moves_bring c.written_is_read.ensures c.moves_are_written.ensures;
  fills = fills_bring c.written_is_read.ensures c.moves_are_written.ensures c.calls_are_written.ensures.fills;
}
