use Rattle.std.proofs.Common.{◌≡◌, ℕ}
use Rattle.std.specs.List.{list_any}
use Rattle.kn_loop.proofs.lines.Lines.any_out.Given as goal

abbrev pub invariant-loop-conn : goal.invariant-loop-conn
invariant-loop-conn g l = list_any (λ p. (g.N.Node.answers l.fn.node p.0).has_out) l.conn-iterator ≡ list_any (λ p. (g.N.Node.answers l.fn.node p.0).has_out) l.fn.self
