use Rattle.kn_facing.proofs.ClientEnd.{client_end_keeps_faces}
use Rattle.kn_facing.proofs.EndStep.{end_keeps_faces, stop_keeps_faces}
use Rattle.kn_facing.proofs.FaceLemmas.{Known}
use Rattle.kn_facing.proofs.MoveStep.{Moving}
use Rattle.kn_facing.proofs.laws.ends_keep_faces.Goals as goal

pub returns : goal.returns
returns c =
    let k : Known = record {
      heard = c.more_is_heard.ensures.rules;
      frames = c.more_is_heard.ensures.frames;
      above = c.opened_is_above.ensures;
      keep = c.frames_keep.ensures;
      roles = c.role_stays.ensures;
      answered = c.answered_is_kept.ensures;
      steps = c.own_steps_are_heard.ensures.steps;
      facts = c.own_facts_stay.ensures.kept;
      shift = c.windows_follow.ensures.stream;
      shift_all = c.windows_follow.ensures.connection;
    } in
    let v : Moving = record {
      keeps = c.sending_laws.ensures.keeps;
      shifts = c.windows_move.ensures.one;
      spends = c.sending_laws.ensures.spends;
      rises = c.windows_move.ensures.connection;
      brings = c.written_is_carried.ensures.moves;
      read = c.written_is_read.ensures;
      written = c.moves_are_written.ensures;
    } in
    record { trailers = end_keeps_faces k v c.next_block_is_read.ensures; stops = stop_keeps_faces k v; client = client_end_keeps_faces k v }
