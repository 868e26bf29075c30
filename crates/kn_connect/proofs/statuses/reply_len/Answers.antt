use Rattle.kn_connect.proofs.ReplyLengths.{reply_is_short}
use Rattle.kn_connect.proofs.statuses.reply_len.Goals as goal

pub returns-clause-short : goal.returns-clause-short
returns-clause-short c = rw c.reply.ensures (reply_is_short c.args.status)
