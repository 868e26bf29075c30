use Rattle.std.proofs.lemmas.Result.{on_ok_weaker}
use Rattle.kn_server_node.proofs.NoteLemmas.{noted_by, noted_in, noted_keeps}
use Rattle.kn_server_node.proofs.notes.note.Goals as goal

pub returns-clause-kept : goal.returns-clause-kept
returns-clause-kept c = record {
  ready = λ d h. rw c.in_ok-note.ensures.ok (noted_keeps c.args.conn c.args.notes.now.ready d h);
  due = λ d h. noted_by c.note-2.result c.args.conn c.args.notes.now.due c.note-2.new.self c.note-2.ensures.ok c.note-2.ensures.err d h;
}

pub returns-clause-noted : goal.returns-clause-noted
returns-clause-noted c = on_ok_weaker c.note-2.result
    (λ is. record { ready = rw c.in_ok-note.ensures.ok (noted_in c.args.conn c.args.notes.now.ready); due = rw is (noted_in c.args.conn c.args.notes.now.due) })
    c.note-2.ensures.ok
