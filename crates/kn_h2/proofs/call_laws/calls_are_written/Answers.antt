use Rattle.kn_h2.proofs.WrittenLemmas.{opening_is_written, calls_written, fills_written}
use Rattle.kn_h2.proofs.call_laws.calls_are_written.Goals as goal

pub returns : goal.returns
returns c = record {
  opening = opening_is_written;
  calls = calls_written c.heads_are_written.ensures;
  fills = fills_written c.moves_are_written.ensures;
}
