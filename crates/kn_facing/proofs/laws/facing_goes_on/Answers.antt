use Rattle.kn_facing.proofs.PairLemmas.{facing_turns, facing_begins, pieces_keep_facing, enters_keep_facing, steps_keep_facing}
use Rattle.kn_facing.proofs.laws.facing_goes_on.Goals as goal

pub returns : goal.returns
returns c = record {
  turns = facing_turns;
  begins = facing_begins c.written_is_read.ensures c.calls_are_written.ensures.opening c.faces_begin.ensures;
  pieces = pieces_keep_facing c.wires_carry_frames.ensures.writes c.answers_are_written.ensures.pieces c.reading_keeps_faces.ensures;
  enters = enters_keep_facing c.calls_keep_faces.ensures.took;
  steps = steps_keep_facing c.wires_carry_frames.ensures.writes;
}
