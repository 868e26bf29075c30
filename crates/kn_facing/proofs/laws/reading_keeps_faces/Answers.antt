use Rattle.kn_facing.proofs.WireLemmas.{reading_keeps_faces}
use Rattle.kn_facing.proofs.laws.reading_keeps_faces.Goals as goal

pub returns : goal.returns
returns c =
    reading_keeps_faces
    (record {
      heard = c.more_is_heard.ensures.rules;
      frames = c.more_is_heard.ensures.frames;
      above = c.opened_is_above.ensures;
      keep = c.frames_keep.ensures;
      roles = c.role_stays.ensures;
      answered = c.answered_is_kept.ensures;
      steps = c.own_steps_are_heard.ensures.steps;
      facts = c.own_facts_stay.ensures.kept;
      shift = c.windows_follow.ensures.stream;
      shift_all = c.windows_follow.ensures.connection;
    })
