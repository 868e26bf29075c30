use Rattle.kn_facing.proofs.FaceLemmas.{Known}
use Rattle.kn_facing.proofs.StepLemmas.{takes_keep_faces, took_keeps_faces, queues_keep_faces, finishes_keep_faces}
use Rattle.kn_facing.proofs.laws.calls_keep_faces.Goals as goal

pub returns : goal.returns
returns c =
    let k : Known = record {
      heard = c.more_is_heard.ensures.rules;
      frames = c.more_is_heard.ensures.frames;
      above = c.opened_is_above.ensures;
      keep = c.frames_keep.ensures;
      roles = c.role_stays.ensures;
      answered = c.answered_is_kept.ensures;
      steps = c.own_steps_are_heard.ensures.steps;
      facts = c.own_facts_stay.ensures.kept;
      shift = c.windows_follow.ensures.stream;
      shift_all = c.windows_follow.ensures.connection;
    } in
    record { takes = takes_keep_faces k; took = took_keeps_faces k; queues = queues_keep_faces k; finishes = finishes_keep_faces k }
