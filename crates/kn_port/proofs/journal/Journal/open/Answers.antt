use Rattle.std.proofs.Common.{rules, ◌≡◌, ◌+◌, length, ap}
use Rattle.kn_port.specs.Keeping.{JournalState, Opens}
use Rattle.kn_port.proofs.MarkLemmas.{opens_mark, count_more}
use Rattle.kn_port.proofs.journal.Journal.open.Goals as goal

pub invariant_of-self : goal.invariant_of-self
invariant_of-self c =
    let drawn : length c.self.inside.marks.items ≡ c.args.self.now.drawn = ap (λ (s : JournalState). s.drawn) c.self.view_is in
    let opens : Opens (length c.self.inside.marks.items + 1) c.args.entry = rw drawn c.requires.opens in
    record {
      room = search rules;
      mark_room = tt;
      counted = search (rules, count_more);
      marked = rw c.push_reserved.ensures.items (rw c.push_reserved-2.ensures.items (opens_mark c.self.inside.marks.items c.self.inside.entries.items c.args.entry opens c.self.invariant.marked));
    }
