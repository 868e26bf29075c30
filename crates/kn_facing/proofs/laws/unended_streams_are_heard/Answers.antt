use Rattle.kn_facing.proofs.HeardLemmas.{unended_is_heard}
use Rattle.kn_facing.proofs.laws.unended_streams_are_heard.Goals as goal

pub returns : goal.returns
returns c =
    unended_is_heard
    (record {
      heard = c.more_is_heard.ensures.rules;
      frames = c.more_is_heard.ensures.frames;
      above = c.opened_is_above.ensures;
      keep = c.frames_keep.ensures;
      roles = c.role_stays.ensures;
      answered = c.answered_is_kept.ensures;
      steps = c.own_steps_are_heard.ensures.steps;
      facts = c.own_facts_stay.ensures.kept;
      shift = c.windows_follow.ensures.stream;
      shift_all = c.windows_follow.ensures.connection;
    })
    c.text_grows.ensures c.frames_are_heard.ensures
