use Rattle.std.proofs.Common.{◌≡◌, inr, ◌∷◌, ◌≤◌, ◌<◌, ◌+◌, [], false, rules, refl, sym, ap, ◌∙◌, subst, arith}
use Rattle.kn_port.specs.declared.names.Accepted.TheVariants as accepted
use Rattle.kn_port.specs.declared.entry.Entry.TheVariants as entry
use Rattle.kn_loop.specs.Gates.{gate_accepted}
use Rattle.kn_loop.specs.Ran.{OpenedDid}
use Rattle.kn_loop.proofs.Giving.{refuse_tells, refused_lines}
use Rattle.kn_loop.specs.Visited.{is_gate}
use Rattle.kn_loop.proofs.Covering.{or_first}
use Rattle.kn_loop.proofs.Visiting.{one_asked, own_gate}
use Rattle.kn_loop.proofs.Once.{same_le}
use Rattle.kn_loop.proofs.running.Running.accept_full.Goals as goal

pub returns-in-Conn-clause-made : goal.returns-in-Conn-clause-made
returns-in-Conn-clause-made g c =
    let drawn : c.in-Conn.conn ≡ g.P.Port.last c.args.port.now + 1 = search rules in
    let below : g.N.Node.top c.args.self.now.node ≤ g.P.Port.last c.args.port.now = c.requires.given.below in
    let above : g.N.Node.top c.args.self.now.node < c.in-Conn.conn = omega arith in
    record {
      entries = entry.Accept c.args.gate (accepted.Conn c.in-Conn.conn) ∷ entry.Shut c.in-Conn.conn ∷ [];
      told = refuse_tells (g.P.Port.told c.args.port.now) (g.P.Port.told c.accept-answer.new.self) (g.P.Port.told c.shut.new.self) c.args.gate c.in-Conn.conn c.in-Conn.ensures.told c.shut.ensures.told;
      follows = record {
        lines = refused_lines c.in-Conn.conn c.args.self.now.watch (g.N.Node.top c.args.self.now.node) (g.P.Port.last c.args.port.now) c.requires.given (omega arith);
        held = omega arith;
        gates = c.note_accepted.ensures ∙ ap (λ a. gate_accepted c.args.gate a c.args.self.now.watch.gates) c.in-Conn.is;
        drain = refl;
        course = refl;
      };
      ran = (
        c.args.self.now.node,
        (c.requires.due, subst (λ b. OpenedDid g.N.Node.did g.N.Node.outgoing b c.args.self.now.node c.in-Conn.conn c.args.gate c.args.self.now.node) (sym c.requires.full) refl),
        (c.args.self.now.node, (inr above, refl), refl),
      );
      no_wait = refl;
    }

pub returns-in-Conn-clause-asked : goal.returns-in-Conn-clause-asked
unfolding returns-in-Conn-clause-made
returns-in-Conn-clause-asked g c = record { made = returns-in-Conn-clause-made g c; holds = (or_first (is_gate c.args.gate c.args.gate) false (own_gate c.args.gate), λ k. (same_le 0, same_le 0, same_le 0)) }

pub returns-in-NotYet-clause-asked : goal.returns-in-NotYet-clause-asked
returns-in-NotYet-clause-asked g c = one_asked g.N.Node.did g.N.Node.outgoing g.N.Node.answers g.N.Node.top c.args.gate accepted.NotYet _ _ _ _ _ _ c.in-NotYet.ensures.told
    (record { lines = λ k. refl; held = refl; gates = c.note_accepted.ensures ∙ ap (λ a. gate_accepted c.args.gate a c.args.self.now.watch.gates) c.in-NotYet.is; drain = refl; course = refl }) c.requires.due refl

pub returns-in-Failed-clause-asked : goal.returns-in-Failed-clause-asked
returns-in-Failed-clause-asked g c = one_asked g.N.Node.did g.N.Node.outgoing g.N.Node.answers g.N.Node.top c.args.gate accepted.Failed _ _ _ _ _ _ c.in-Failed.ensures.told
    (record { lines = λ k. refl; held = refl; gates = c.note_accepted.ensures ∙ ap (λ a. gate_accepted c.args.gate a c.args.self.now.watch.gates) c.in-Failed.is; drain = refl; course = refl }) c.requires.due refl
