use Rattle.kn_facing.proofs.FaceLemmas.{Known}
use Rattle.kn_facing.proofs.OpenLemmas.{halves_stay_open, faces_keep_halves, unended_stays_open}
use Rattle.kn_facing.proofs.laws.halves_stay_open.Goals as goal

pub returns : goal.returns
returns c =
    let k : Known = record {
      heard = c.more_is_heard.ensures.rules;
      frames = c.more_is_heard.ensures.frames;
      above = c.opened_is_above.ensures;
      keep = c.frames_keep.ensures;
      roles = c.role_stays.ensures;
      answered = c.answered_is_kept.ensures;
      steps = c.own_steps_are_heard.ensures.steps;
      facts = c.own_facts_stay.ensures.kept;
      shift = c.windows_follow.ensures.stream;
      shift_all = c.windows_follow.ensures.connection;
    } in
    record { frames = halves_stay_open k.keep; faces = faces_keep_halves k; unended = unended_stays_open k }
