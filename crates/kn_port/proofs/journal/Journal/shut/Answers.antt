use Rattle.std.proofs.Common.{◌≡◌, ◌+◌, true, false, sym, ◌∙◌, arith}
use Rattle.kn_port.specs.Keeping.{is_marked, open_count, unmarked}
use Rattle.kn_port.specs.Numbers.{nth}
use Rattle.kn_port.proofs.MarkLemmas.{shut_marks, kept_marks, shut_count, kept_count}
use Rattle.kn_port.proofs.journal.Journal.shut.Goals as goal

pub overflow_sub-self : goal.overflow_sub-self
overflow_sub-self c =
    let has : is_marked (nth c.args.conn c.self.inside.marks.items) ≡ true = sym c.take_mark.ensures.mark ∙ c.if-take_mark.true in
    omega (arith, shut_count c.args.conn c.self.inside.marks.items c.self.inside.kept has c.self.invariant.counted)

pub push_reserved-requires : goal.push_reserved-requires
push_reserved-requires c =
    let has : is_marked (nth c.args.conn c.self.inside.marks.items) ≡ true = sym c.take_mark.ensures.mark ∙ c.if-take_mark.true in
    omega (arith, shut_count c.args.conn c.self.inside.marks.items c.self.inside.kept has c.self.invariant.counted, c.self.invariant.room)

pub invariant_of-self : goal.invariant_of-self
invariant_of-self c =
    let has : is_marked (nth c.args.conn c.self.inside.marks.items) ≡ true = sym c.take_mark.ensures.mark ∙ c.if-take_mark.true in
    let less : open_count (unmarked c.args.conn c.self.inside.marks.items) + 1 ≡ c.self.inside.kept = shut_count c.args.conn c.self.inside.marks.items c.self.inside.kept has c.self.invariant.counted in
    record {
      room = omega (arith, less, c.self.invariant.room, c.push_reserved.ensures.len, c.push_reserved.ensures.capacity);
      mark_room = rw c.take_mark.ensures.count (rw c.take_mark.ensures.capacity c.self.invariant.mark_room);
      counted = rw c.take_mark.ensures.marks (omega (arith, less));
      marked = rw c.push_reserved.ensures.items (rw c.take_mark.ensures.marks (shut_marks c.self.inside.marks.items c.self.inside.entries.items c.args.conn c.self.invariant.marked));
    }

pub invariant_of-self-else-take_mark : goal.invariant_of-self-else-take_mark
invariant_of-self-else-take_mark c =
    let none : is_marked (nth c.args.conn c.self.inside.marks.items) ≡ false = sym c.take_mark.ensures.mark ∙ c.if-take_mark.false in
    record {
      room = c.self.invariant.room;
      mark_room = rw c.take_mark.ensures.count (rw c.take_mark.ensures.capacity c.self.invariant.mark_room);
      counted = rw c.take_mark.ensures.marks (kept_count c.args.conn c.self.inside.marks.items c.self.inside.kept none c.self.invariant.counted);
      marked = rw c.take_mark.ensures.marks (kept_marks c.self.inside.marks.items c.self.inside.entries.items c.args.conn none c.self.invariant.marked);
    }
