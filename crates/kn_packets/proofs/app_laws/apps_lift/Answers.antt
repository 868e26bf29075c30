-- Each by itself.
use Rattle.kn_packets.proofs.AppArrivals.{comes_lift, comes_starts}
use Rattle.kn_packets.proofs.AppGives.{hands_lift}
use Rattle.kn_packets.proofs.AppLeaves.{ends_lift, fails_lift}
use Rattle.kn_packets.proofs.AppWrites.{wrote_lift}
use Rattle.kn_packets.proofs.app_laws.apps_lift.Goals as goal

pub returns : goal.returns
returns c = record { comes = comes_lift; starts = comes_starts; hands = hands_lift; wrote = wrote_lift; ended = ends_lift; failed = fails_lift }
