use Rattle.std.proofs.lemmas.Result.{on_ok_weaker}
use Rattle.kn_server_node.proofs.NoteLemmas.{noted_by, noted_in}
use Rattle.kn_server_node.proofs.notes.note_due.Goals as goal

pub returns-clause-kept : goal.returns-clause-kept
returns-clause-kept c = record {
  ready = λ d h. h;
  due = λ d h. noted_by c.note.result c.args.conn c.args.notes.now.due c.note.new.self c.note.ensures.ok c.note.ensures.err d h;
}

pub returns-clause-due : goal.returns-clause-due
returns-clause-due c = on_ok_weaker c.note.result (λ is. rw is (noted_in c.args.conn c.args.notes.now.due)) c.note.ensures.ok
