use Rattle.kn_h2.proofs.AnsweredLemmas.{frames_write, pieces_write, answers_bring, pieces_bring}
use Rattle.kn_h2.proofs.call_laws.answers_are_written.Goals as goal

pub returns : goal.returns
returns c = record { frames = frames_write; pieces = pieces_write; sums = answers_bring c.written_is_read.ensures; piece_sums = pieces_bring c.written_is_read.ensures }
