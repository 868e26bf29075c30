use Rattle.kn_script.proofs.HexLemmas.{pair_more}
use Rattle.kn_script.proofs.hexadecimal.bytes_of_hex.Goals as goal

pub loop-rest-preserved : goal.loop-rest-preserved
loop-rest-preserved c =
    pair_more c.args.digits.now c.loop-rest.bytes c.loop-rest.rest.now c.append.new.self c.in-Some.byte c.loop-rest.invariant c.in-len2-up.len_at_least c.in-Some.ensures c.in_ok-append.ensures.ok
