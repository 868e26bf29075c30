use Rattle.std.proofs.Common.{rules}
use Rattle.kn_port.proofs.MarkLemmas.{plain_keeps}
use Rattle.kn_port.proofs.journal.Journal.add.Goals as goal

pub invariant_of-self : goal.invariant_of-self
invariant_of-self c = record {
  room = search rules;
  mark_room = tt;
  counted = c.self.invariant.counted;
  marked = rw c.push_reserved.ensures.items (plain_keeps c.self.inside.marks.items c.self.inside.entries.items c.args.entry c.requires.plain c.self.invariant.marked);
}
