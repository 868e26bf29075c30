use Rattle.std.proofs.Common.{not, ap, ◌∙◌}
use Rattle.kn_frames.specs.Readers.{start}
use Rattle.kn_h2.proofs.ConnBounds.{holds_fresh}
use Rattle.kn_h2.proofs.PieceLemmas.{fresh_is}
use Rattle.kn_h2.proofs.conn.Conn.new.Goals as goal

pub invariant_of-result : goal.invariant_of-result
invariant_of-result c = (rw c.in_ok-state.ensures (holds_fresh c.args.role), tt)

pub returns : goal.returns
returns c = fresh_is c.args.role c.new-2.result c.in_ok-state.state (c.new-2.ensures ∙ ap (λ b. start (not b)) c.is_client.ensures) c.in_ok-state.ensures
