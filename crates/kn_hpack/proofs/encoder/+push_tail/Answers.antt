use Rattle.kn_hpack.proofs.EncodingFacts.{tail_more}
use Rattle.kn_hpack.proofs.encoder.+push_tail.Goals as goal

pub returns : goal.returns
returns t c = tail_more c.args.left c.args.number c.args.out.now.items c.push-2.new.self.items c.push_tail.new.out.items c.if-left-eq0.false c.if-number-lt128.false c.in_ok-push-2.ensures.items c.in_ok-push_tail.ensures
