-- Each by what the step brings.
use Rattle.std.proofs.Common.{◌≡◌, ◌&&◌, Bool, true, false, not, refl}
use Rattle.kn_packets.proofs.AppArrivals.{comes_lift, comes_starts}
use Rattle.kn_packets.proofs.AppComesKeep.{comes_keep}
use Rattle.kn_packets.proofs.AppGives.{hands_lift}
use Rattle.kn_packets.proofs.AppKeeps.{ends_keep, fails_keep, hands_keep, wrote_keep}
use Rattle.kn_packets.proofs.AppLeaves.{ends_lift, fails_lift}
use Rattle.kn_packets.proofs.AppWrites.{wrote_lift}
use Rattle.kn_packets.proofs.ClientTakesKeep.{takes_keep}
use Rattle.kn_packets.proofs.StreamLossKeep.{loss_keeps}
use Rattle.kn_packets.proofs.StreamLosses.{stream_loss_lifts}
use Rattle.kn_packets.proofs.Taken.{and_first, and_second, not_false}
use Rattle.kn_packets.proofs.client_key_laws.clients_keep_keys.Goals as goal

two : (a b : Bool) → (a && not b) ≡ true → (a ≡ true) × (b ≡ false)
two a b e = (and_first a (not b) e, not_false b (and_second a (not b) e))

three : (a b c : Bool) → (a && not b && c) ≡ true → (a ≡ true) × (b ≡ false) × (c ≡ true)
three true false c e = (refl, refl, e)
three true true c e = absurd cc
three false b c e = absurd cc

four : (a b c d : Bool) → (a && b && not c && not d) ≡ true → (a ≡ true) × (b ≡ true) × (c ≡ false) × (d ≡ false)
four true true false false e = (refl, refl, refl, refl)
four true true false true e = absurd cc
four true true true d e = absurd cc
four true false c d e = absurd cc
four false b c d e = absurd cc

pub returns : goal.returns
returns c = record {
  takes = takes_keep;
  wrote = λ w k count keys may. let m = three _ _ _ may.0 in wrote_keep w k keys m.0 m.1 count m.2 (wrote_lift w k count keys may);
  ends = λ w k keys may. let m = two _ _ may in ends_keep w k keys m.0 m.1 (ends_lift w k keys may);
  fails = λ w k keys may. let m = two _ _ may in fails_keep w k keys m.0 m.1 (fails_lift w k keys may);
  hands = λ w k count keys may client. hands_keep w k keys (and_first _ _ may) client count (hands_lift w k count keys may);
  comes = λ w k f n address keys may. let m = four _ _ _ _ may.0 in let above = may.1 in comes_keep w k f n address keys m.0 m.1 m.2 m.3 above (comes_lift w k f n address keys may) (comes_starts w k f n address keys may);
  loses = λ w f left error keys may. loss_keeps w f left error keys may.1 (stream_loss_lifts w f left error keys may);
}
