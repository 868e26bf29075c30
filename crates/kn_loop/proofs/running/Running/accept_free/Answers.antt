use Rattle.std.proofs.Common.{refl, sym, ap, ◌∙◌, subst}
use Rattle.kn_port.specs.declared.names.Accepted.TheVariants as accepted
use Rattle.kn_loop.specs.Gates.{gate_accepted}
use Rattle.kn_loop.specs.Ran.{OpenedDid}
use Rattle.kn_loop.proofs.Visiting.{one_asked}
use Rattle.kn_loop.proofs.running.Running.accept_free.Goals as goal

pub returns-in_ok-open-in-Conn-clause-asked : goal.returns-in_ok-open-in-Conn-clause-asked
returns-in_ok-open-in-Conn-clause-asked g c = one_asked g.N.Node.did g.N.Node.outgoing g.N.Node.answers g.N.Node.top c.args.gate (accepted.Conn c.in-Conn.conn) _ _ _ _ _ _ c.in-Conn.ensures.told
    (record {
      lines = c.in_ok-open-in-Conn.ensures.begins.lines;
      held = c.in_ok-open-in-Conn.ensures.begins.held;
      gates = c.in_ok-open-in-Conn.ensures.begins.gates ∙ c.note_accepted.ensures ∙ ap (λ a. gate_accepted c.args.gate a c.args.self.now.watch.gates) c.in-Conn.is;
      drain = c.in_ok-open-in-Conn.ensures.begins.drain;
      course = c.in_ok-open-in-Conn.ensures.begins.course;
    })
    c.requires.due (subst (λ b. OpenedDid g.N.Node.did g.N.Node.outgoing b c.args.self.now.node c.in-Conn.conn c.args.gate c.open.new.self.node) (sym c.requires.free) c.in_ok-open-in-Conn.ensures.did)

pub returns-in-NotYet-clause-asked : goal.returns-in-NotYet-clause-asked
returns-in-NotYet-clause-asked g c = one_asked g.N.Node.did g.N.Node.outgoing g.N.Node.answers g.N.Node.top c.args.gate accepted.NotYet _ _ _ _ _ _ c.in-NotYet.ensures.told
    (record { lines = λ k. refl; held = refl; gates = c.note_accepted.ensures ∙ ap (λ a. gate_accepted c.args.gate a c.args.self.now.watch.gates) c.in-NotYet.is; drain = refl; course = refl }) c.requires.due refl

pub returns-in-Failed-clause-asked : goal.returns-in-Failed-clause-asked
returns-in-Failed-clause-asked g c = one_asked g.N.Node.did g.N.Node.outgoing g.N.Node.answers g.N.Node.top c.args.gate accepted.Failed _ _ _ _ _ _ c.in-Failed.ensures.told
    (record { lines = λ k. refl; held = refl; gates = c.note_accepted.ensures ∙ ap (λ a. gate_accepted c.args.gate a c.args.self.now.watch.gates) c.in-Failed.is; drain = refl; course = refl }) c.requires.due refl
