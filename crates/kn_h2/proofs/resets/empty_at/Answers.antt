use Rattle.std.proofs.Common.{sym}
use Rattle.kn_h2.specs.Resets.{emptied}
use Rattle.kn_h2.proofs.StreamLemmas.{change_some}
use Rattle.kn_h2.proofs.resets.empty_at.Goals as goal

pub returns-in-Some : goal.returns-in-Some
returns-in-Some c = rw c.empty_one.ensures (sym (change_some c.args.streams.now c.args.number emptied c.in-Some.stream.now (sym c.in-Some.ensures.value)))
