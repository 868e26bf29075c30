-- Each by what it leaves of a stream's lists, or by the stream that begins.
use Rattle.kn_packets.proofs.AppGives.{hands_lift}
use Rattle.kn_packets.proofs.ConnectBegins.{connect_comes_keep}
use Rattle.kn_packets.proofs.JoinedKeep.{joins_keep}
use Rattle.kn_packets.proofs.StreamBegins.{stream_begins_keep}
use Rattle.kn_packets.proofs.StreamKeeps.{app_sends_keep, connect_hands_keep, connect_leaves_keep, connect_takes_keep, drops_in_keep, drops_out_keep}
use Rattle.kn_packets.proofs.StreamNumbers.{numbered_keeps}
use Rattle.kn_packets.proofs.key_laws.connections_keep_keys.Goals as goal

pub returns : goal.returns
returns c = record {
  begins = stream_begins_keep;
  numbered = numbered_keeps;
  sends = λ w a bytes keys. app_sends_keep w keys a bytes;
  drops_in = λ w f keys may. drops_in_keep w keys f may;
  drops_out = λ w f keys may. drops_out_keep w keys f may;
  comes = connect_comes_keep;
  takes = λ w f keys may. connect_takes_keep w keys f may;
  leaves = λ w f left keys may. connect_leaves_keep w keys f left may;
  hands = λ w a count keys may connect. connect_hands_keep w keys a count connect may (hands_lift w a count keys may);
  joins = λ w f keys may. joins_keep w f keys may;
}
