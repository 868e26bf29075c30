use Rattle.kn_call_heads.proofs.FrameFacts.{calls_keep_faces, answers_keep_faces, ends_keep_faces}
use Rattle.kn_call_heads.proofs.laws.own_heads_keep_faces.Goals as goal

pub returns : goal.returns
returns c =
    let short = c.own_blocks_are_short.ensures in
    record {
      calls = calls_keep_faces short c.begin_keeps_faces.ensures;
      answers = answers_keep_faces short c.answer_keeps_faces.ensures;
      ends = ends_keep_faces short c.ends_keep_faces.ensures.trailers;
    }
