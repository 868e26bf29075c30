use Rattle.std.proofs.Common.{◌≡◌, inl, ◌∷◌, ◌++◌, ◌≤◌, ◌<◌, ◌+◌, ℕ, List, [], true, false, rules, refl, sym, ap, ◌∙◌, subst, arith, length, take, drop}
use Rattle.kn_loop.specs.Kept.{is_in, line_of}
use Rattle.kn_port.specs.declared.entry.Entry.TheVariants as entry
use Rattle.kn_loop.proofs.Giving.{due_shut_tells, due_given}
use Rattle.kn_loop.proofs.Once.{same_le}
use Rattle.kn_loop.proofs.running.Running.shut_one.Goals as goal

pub returns-clause-made : goal.returns-clause-made
returns-clause-made g c = record {
  made = record {
    entries = entry.Shut c.args.conn ∷ [];
    told = due_shut_tells (g.P.Port.told c.args.port.now) (g.P.Port.told c.shut.new.self) c.args.conn (line_of c.args.self.now.watch.lines) (g.N.Node.answers c.args.self.now.node c.args.conn) c.requires.hand c.requires.due c.shut.ensures.told;
    follows = record { lines = c.forget.ensures.lines; held = c.forget.ensures.held; gates = c.forget.ensures.gates; drain = c.forget.ensures.drain; course = c.forget.ensures.course };
    ran = (c.args.self.now.node, (inl c.requires.due, refl), refl);
    no_wait = refl;
  };
  holds = λ k. (same_le 0, same_le 0, same_le 0);
}
