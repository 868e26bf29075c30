-- Every move keeps the facts on keys and is one step of each tunnel or none; so tunnels that were reached lead to tunnels that are.
use Rattle.std.proofs.Common.{◌≡◌, ◌==◌, ◌&&◌, ◌||◌, ◌⊎◌, ℕ, Bool, true, false, not, cond, List, [], ◌∷◌, inl, inr, refl, sym, eqb-true, subst}
use Rattle.kn_packet.specs.declared.packet.Packet.{Packet}
use Rattle.kn_packet.specs.declared.packet.Packet.TheVariants.{CloseReq, CloseRsp, Data, DialCls, DialReq, DialRsp, Drain, Other}
use Rattle.kn_tunnel.specs.Kinds.{is_dialling, is_here, is_opened}
use Rattle.kn_tunnel.specs.Outcome.{Reached}
use Rattle.kn_tunnel.specs.Steps as step
use Rattle.kn_tunnel.specs.Steps.{Follows}
use Rattle.kn_tunnel.proofs.Runs.{reached_followed, reached_start}
use Rattle.kn_packets.specs.Keys.{Keys}
use Rattle.kn_packets.specs.Lifts.{Lifts}
use Rattle.kn_packets.specs.Moves.{AgentDrains, AgentLosesLink, AgentTakes, AppComes, AppEnds, AppFails, AppHands, AppSends, AppWrote, ClientLosesStream, ClientTakes, ConnectComes, ConnectLeaves, ConnectTakes, DestinationEnds, DestinationFails, DestinationHands, DestinationSends, DestinationWrote, DialFailed, DialWon, DropsDown, DropsIn, DropsOut, DropsUp, FrontComes, JoinsIn, LinkComes, May, Move, ServerLosesFront, ServerLosesLink, ServerTakesIn, ServerTakesUp, StreamBegins, StreamIsNumbered, after, app_is, hands, hands_over, new_app, takes_connect, takes_down, takes_in, takes_out, takes_up}
use Rattle.kn_packets.specs.Outcome.{AllReached}
use Rattle.kn_packets.specs.World.{World, phase_in, tunnel}
use Rattle.kn_packets.proofs.AgentDials.{failed_lifts, won_lifts}
use Rattle.kn_packets.proofs.AgentKeeps.{drains_keep}
use Rattle.kn_packets.proofs.AgentLossKeep.{failed_keeps, loss_keeps}
use Rattle.kn_packets.proofs.AgentLosses.{down_drop_lifts, drains_lift, loss_lifts, up_drop_lifts}
use Rattle.kn_packets.proofs.AgentOpenKeep.{won_keeps}
use Rattle.kn_packets.proofs.AgentRequests.{takes_lifts}
use Rattle.kn_packets.proofs.AgentTakesKeep.{takes_keep}
use Rattle.kn_packets.proofs.AppArrivals.{comes_lift, comes_starts}
use Rattle.kn_packets.proofs.AppComesKeep.{comes_keep}
use Rattle.kn_packets.proofs.AppGives as gives
use Rattle.kn_packets.proofs.AppKeeps as app
use Rattle.kn_packets.proofs.AppLeaves as leaves
use Rattle.kn_packets.proofs.AppWrites as writes
use Rattle.kn_packets.proofs.Arrivals.{front_comes_lifts, front_loss_lifts, link_comes_lifts, link_loss_lifts}
use Rattle.kn_packets.proofs.BasedKeep.{down_drop_keeps, sends_keep, up_drop_keeps}
use Rattle.kn_packets.proofs.ClientMoves.{client_takes_lifts}
use Rattle.kn_packets.proofs.ClientTakesKeep as client
use Rattle.kn_packets.proofs.ConnectBegins.{connect_comes_keep}
use Rattle.kn_packets.proofs.Connections.{app_sends_lifts, connect_comes_lifts, connect_comes_starts, connect_leaves_lifts, connect_takes_lifts, drops_in_lifts, drops_out_lifts, stream_begins_lifts}
use Rattle.kn_packets.proofs.DestKeep.{ends_keep, fails_keep, hands_keep, wrote_keep}
use Rattle.kn_packets.proofs.DestMoves.{ends_lift, fails_lift, hands_lift, listed, sends_lift, wrote_lift}
use Rattle.kn_packets.proofs.JoinedBytes.{joins_lift}
use Rattle.kn_packets.proofs.JoinedKeep.{joins_keep}
use Rattle.kn_packets.proofs.ServerComes.{front_comes_keeps, link_comes_keeps}
use Rattle.kn_packets.proofs.ServerFrontLoss.{front_loss_keeps}
use Rattle.kn_packets.proofs.ServerLinkLoss.{link_loss_keeps}
use Rattle.kn_packets.proofs.ServerTakesInKeep.{takes_in_keeps}
use Rattle.kn_packets.proofs.ServerUpKeep.{takes_up_keeps}
use Rattle.kn_packets.proofs.StreamBegins.{stream_begins_keep}
use Rattle.kn_packets.proofs.StreamKeeps.{app_sends_keep, connect_hands_keep, connect_leaves_keep, connect_takes_keep, drops_in_keep, drops_out_keep}
use Rattle.kn_packets.proofs.StreamLossKeep as stream
use Rattle.kn_packets.proofs.StreamLosses.{stream_loss_lifts}
use Rattle.kn_packets.proofs.StreamNumbers.{numbered_keeps, numbered_lifts}
use Rattle.kn_packets.proofs.Taken.{and_first, and_second, not_false}
use Rattle.kn_packets.proofs.Takes.{in_lifts, up_lifts}

-- ---- the laws of each move
pub lifts : (m : Move) (w : World) → Keys w → May m w → Lifts w (after m w)
lifts (LinkComes l identifiers) w keys may = link_comes_lifts w l identifiers may
lifts (FrontComes f) w keys may = front_comes_lifts w f may
lifts (ServerTakesUp l) w keys may = up_lifts w l keys may
lifts (ServerTakesIn f) w keys may = in_lifts w f keys may
lifts (ServerLosesLink l left) w keys may = link_loss_lifts w l left keys may
lifts (ServerLosesFront f left) w keys may = front_loss_lifts w f left keys may
lifts (AgentTakes l) w keys may = takes_lifts w l keys may
lifts (DialWon l ticket) w keys may = won_lifts w l keys may ticket
lifts (DialFailed l ticket) w keys may = failed_lifts w l keys may ticket
lifts (AgentDrains l) w keys may = drains_lift w l keys may
lifts (AgentLosesLink l left) w keys may = loss_lifts w l left keys may.0 may.1
lifts (DestinationSends d bytes) w keys may = sends_lift w d bytes may
lifts (DestinationHands d n) w keys may = hands_lift w d keys (listed w d may) n
lifts (DestinationWrote d n) w keys may = wrote_lift w d keys (listed w d may.0) n may.1
lifts (DestinationEnds d) w keys may = ends_lift w d keys (listed w d may)
lifts (DestinationFails d) w keys may = fails_lift w d keys (listed w d may)
lifts (StreamBegins f c) w keys may = stream_begins_lifts w f c keys may
lifts (StreamIsNumbered f g) w keys may = numbered_lifts w f g keys may
lifts (ClientTakes f) w keys may = client_takes_lifts w f keys may
lifts (ClientLosesStream f left error) w keys may = stream_loss_lifts w f left error keys may
lifts (AppComes k f n address) w keys may = comes_lift w k f n address keys may
lifts (AppSends k bytes) w keys may = app_sends_lifts w k bytes
lifts (AppHands k n) w keys may = gives.hands_lift w k n keys may
lifts (AppWrote k n) w keys may = writes.wrote_lift w k n keys may
lifts (AppEnds k) w keys may = leaves.ends_lift w k keys may
lifts (AppFails k) w keys may = leaves.fails_lift w k keys may
lifts (ConnectComes k f address) w keys may = connect_comes_lifts w k f address keys may
lifts (ConnectTakes f) w keys may = connect_takes_lifts w f keys may
lifts (ConnectLeaves f left) w keys may = connect_leaves_lifts w f left keys may
lifts (JoinsIn f) w keys may = joins_lift w f may
lifts (DropsUp l) w keys may = up_drop_lifts w l may
lifts (DropsDown l) w keys may = down_drop_lifts w l may
lifts (DropsIn f) w keys may = drops_in_lifts w f may
lifts (DropsOut f) w keys may = drops_out_lifts w f may

-- an app that has come, of a client; what more is asked of it
came_of_client : (a b : Bool) → (a && not b) ≡ true → (a ≡ true) × (b ≡ false)
came_of_client a b h = (and_first a (not b) h, not_false b (and_second a (not b) h))

hands_keeps : (k n : ℕ) (w : World) → Keys w → May (AppHands k n) w → (b : Bool) → (w.streams (w.apps k).stream).connect ≡ b → Keys (after (AppHands k n) w)
hands_keeps k n w keys may true connect = connect_hands_keep w keys k n connect may (gives.hands_lift w k n keys may)
hands_keeps k n w keys may false client =
    app.hands_keep w k keys (and_first (w.apps k).came (is_opened (phase_in w (w.apps k)) || ((w.streams (w.apps k).stream).connect && is_dialling (phase_in w (w.apps k)))) may) client n (gives.hands_lift w k n keys may)

wrote_keeps : (k n : ℕ) (w : World) → Keys w → May (AppWrote k n) w → Keys (after (AppWrote k n) w)
wrote_keeps k n w keys may =
    let here = is_here (phase_in w (w.apps k)) in
    let both = came_of_client (w.apps k).came (w.streams (w.apps k).stream).connect (and_first ((w.apps k).came && not (w.streams (w.apps k).stream).connect) here may.0) in
    app.wrote_keep w k keys both.0 both.1 n (and_second ((w.apps k).came && not (w.streams (w.apps k).stream).connect) here may.0) (writes.wrote_lift w k n keys may)

ends_keeps : (k : ℕ) (w : World) → Keys w → May (AppEnds k) w → Keys (after (AppEnds k) w)
ends_keeps k w keys may = let both = came_of_client (w.apps k).came (w.streams (w.apps k).stream).connect may in app.ends_keep w k keys both.0 both.1 (leaves.ends_lift w k keys may)

fails_keeps : (k : ℕ) (w : World) → Keys w → May (AppFails k) w → Keys (after (AppFails k) w)
fails_keeps k w keys may = let both = came_of_client (w.apps k).came (w.streams (w.apps k).stream).connect may in app.fails_keep w k keys both.0 both.1 (leaves.fails_lift w k keys may)

comes_keeps : (k f n : ℕ) (address : List ℕ) (w : World) → Keys w → May (AppComes k f n address) w → Keys (after (AppComes k f n address) w)
comes_keeps k f n address w keys may = comes_keep w k f n address keys (and_first begun there (and_first (begun && there) client two)) (and_second begun there (and_first (begun && there) client two)) (not_false (w.streams f).connect (and_second (begun && there) client two))
    (not_false (w.apps k).came (and_second (begun && there && client) (not (w.apps k).came) may.0)) may.1 (comes_lift w k f n address keys may) (comes_starts w k f n address keys may)
  where
    begun : Bool
    begun = (w.streams f).begun

    there : Bool
    there = (w.streams f).client

    client : Bool
    client = not (w.streams f).connect

    two : (begun && there && client) ≡ true
    two = and_first (begun && there && client) (not (w.apps k).came) may.0

pub keeps : (m : Move) (w : World) → Keys w → May m w → Keys (after m w)
keeps (LinkComes l identifiers) w keys may = link_comes_keeps w l identifiers keys may
keeps (FrontComes f) w keys may = front_comes_keeps w f keys may
keeps (ServerTakesUp l) w keys may = takes_up_keeps w l keys may
keeps (ServerTakesIn f) w keys may = takes_in_keeps w f keys may
keeps (ServerLosesLink l left) w keys may = link_loss_keeps w l left keys may
keeps (ServerLosesFront f left) w keys may = front_loss_keeps w f left keys may
keeps (AgentTakes l) w keys may = takes_keep w l keys may
keeps (DialWon l ticket) w keys may = won_keeps w l keys may ticket
keeps (DialFailed l ticket) w keys may = failed_keeps w l keys may ticket
keeps (AgentDrains l) w keys may = drains_keep w l keys may
keeps (AgentLosesLink l left) w keys may = loss_keeps w l left keys may.0 may.1
keeps (DestinationSends d bytes) w keys may = sends_keep w d bytes keys may
keeps (DestinationHands d n) w keys may = hands_keep w d keys (listed w d may) n
keeps (DestinationWrote d n) w keys may = wrote_keep w d keys (listed w d may.0) n may.1
keeps (DestinationEnds d) w keys may = ends_keep w d keys (listed w d may)
keeps (DestinationFails d) w keys may = fails_keep w d keys (listed w d may)
keeps (StreamBegins f c) w keys may = stream_begins_keep w f c keys may
keeps (StreamIsNumbered f g) w keys may = numbered_keeps w f g keys may
keeps (ClientTakes f) w keys may = client.takes_keep w f keys may
keeps (ClientLosesStream f left error) w keys may = stream.loss_keeps w f left error keys may.1 (stream_loss_lifts w f left error keys may)
keeps (AppComes k f n address) w keys may = comes_keeps k f n address w keys may
keeps (AppSends k bytes) w keys may = app_sends_keep w keys k bytes
keeps (AppHands k n) w keys may = hands_keeps k n w keys may (w.streams (w.apps k).stream).connect refl
keeps (AppWrote k n) w keys may = wrote_keeps k n w keys may
keeps (AppEnds k) w keys may = ends_keeps k w keys may
keeps (AppFails k) w keys may = fails_keeps k w keys may
keeps (ConnectComes k f address) w keys may = connect_comes_keep w k f address keys may
keeps (ConnectTakes f) w keys may = connect_takes_keep w keys f may
keeps (ConnectLeaves f left) w keys may = connect_leaves_keep w keys f left may
keeps (JoinsIn f) w keys may = joins_keep w f keys may
keeps (DropsUp l) w keys may = up_drop_keeps w l keys may
keeps (DropsDown l) w keys may = down_drop_keeps w l keys may
keeps (DropsIn f) w keys may = drops_in_keep w keys f may
keeps (DropsOut f) w keys may = drops_out_keep w keys f may

-- ---- an app that has come after a move had come before it, or its tunnel begins
up_apps : (w : World) (l k : ℕ) (ps : List Packet) → ((takes_up l ps w).apps k).came ≡ true → (w.apps k).came ≡ true
up_apps w l k [] h = h
up_apps w l k (p ∷ ps) h = h

in_apps : (w : World) (f k : ℕ) (ps : List Packet) → ((takes_in f ps w).apps k).came ≡ true → (w.apps k).came ≡ true
in_apps w f k [] h = h
in_apps w f k (p ∷ ps) h = h

down_apps : (w : World) (l k : ℕ) (ps : List Packet) → ((takes_down l ps w).apps k).came ≡ true → (w.apps k).came ≡ true
down_apps w l k [] h = h
down_apps w l k (p ∷ ps) h = h

out_apps : (w : World) (f k : ℕ) (ps : List Packet) → ((takes_out f ps w).apps k).came ≡ true → (w.apps k).came ≡ true
out_apps w f k [] h = h
out_apps w f k (p ∷ ps) h = h

connect_apps : (w : World) (f k : ℕ) (ps : List Packet) → ((takes_connect f ps w).apps k).came ≡ true → (w.apps k).came ≡ true
connect_apps w f k [] h = h
connect_apps w f k (DialRsp [] c r ∷ ps) h = h
connect_apps w f k (DialRsp (x ∷ xs) c r ∷ ps) h = h
connect_apps w f k (Data c e b ∷ ps) h = h
connect_apps w f k (CloseRsp e c ∷ ps) h = h
connect_apps w f k (DialReq x y z ∷ ps) h = h
connect_apps w f k (CloseReq c ∷ ps) h = h
connect_apps w f k (DialCls c ∷ ps) h = h
connect_apps w f k (Drain ∷ ps) h = h
connect_apps w f k (Other n ∷ ps) h = h

hands_apps : (w : World) (a n k : ℕ) (b : Bool) (bytes : List ℕ) → ((hands_over b a bytes (app_is a (hands n) w)).apps k).came ≡ true → (w.apps k).came ≡ true
hands_apps w a n k true bytes h = h
hands_apps w a n k false bytes h = h

abbrev Comes : Move → World → ℕ → Type 0
Comes m w k = ((w.apps k).came ≡ true) ⊎ ((connect : Bool) × Follows (step.start connect) (tunnel (after m w) k))

new_or_old : (m : Move) (w : World) (a f n k : ℕ) → ((connect : Bool) × Follows (step.start connect) (tunnel (after m w) a)) → (b : Bool) → (k == a) ≡ b → (cond b (new_app f n) (w.apps k)).came ≡ true → Comes m w k
new_or_old m w a f n k begins true is h = inr (subst (λ j. (connect : Bool) × Follows (step.start connect) (tunnel (after m w) j)) (sym (eqb-true k a is)) begins)
new_or_old m w a f n k begins false differ h = inl h

comes : (m : Move) (w : World) → Keys w → May m w → (k : ℕ) → ((after m w).apps k).came ≡ true → Comes m w k
comes (LinkComes l identifiers) w keys may k h = inl h
comes (FrontComes f) w keys may k h = inl h
comes (ServerTakesUp l) w keys may k h = inl (up_apps w l k (w.links l).up h)
comes (ServerTakesIn f) w keys may k h = inl (in_apps w f k (w.streams f).up h)
comes (ServerLosesLink l left) w keys may k h = inl h
comes (ServerLosesFront f left) w keys may k h = inl h
comes (AgentTakes l) w keys may k h = inl (down_apps w l k (w.links l).down h)
comes (DialWon l ticket) w keys may k h = inl h
comes (DialFailed l ticket) w keys may k h = inl h
comes (AgentDrains l) w keys may k h = inl h
comes (AgentLosesLink l left) w keys may k h = inl h
comes (DestinationSends d bytes) w keys may k h = inl h
comes (DestinationHands d n) w keys may k h = inl h
comes (DestinationWrote d n) w keys may k h = inl h
comes (DestinationEnds d) w keys may k h = inl h
comes (DestinationFails d) w keys may k h = inl h
comes (StreamBegins f c) w keys may k h = inl h
comes (StreamIsNumbered f g) w keys may k h = inl h
comes (ClientTakes f) w keys may k h = inl (out_apps w f k (w.streams f).down h)
comes (ClientLosesStream f left error) w keys may k h = inl h
comes (AppComes a f n address) w keys may k h = new_or_old (AppComes a f n address) w a f n k (false, comes_starts w a f n address keys may) (k == a) refl h
comes (AppSends a bytes) w keys may k h = inl h
comes (AppHands a n) w keys may k h = inl (hands_apps w a n k (w.streams (w.apps a).stream).connect _ h)
comes (AppWrote a n) w keys may k h = inl h
comes (AppEnds a) w keys may k h = inl h
comes (AppFails a) w keys may k h = inl h
comes (ConnectComes a f address) w keys may k h = new_or_old (ConnectComes a f address) w a f 0 k (true, inl (connect_comes_starts w a f address)) (k == a) refl h
comes (ConnectTakes f) w keys may k h = inl (connect_apps w f k (w.streams f).down h)
comes (ConnectLeaves f left) w keys may k h = inl h
comes (JoinsIn f) w keys may k h = inl h
comes (DropsUp l) w keys may k h = inl h
comes (DropsDown l) w keys may k h = inl h
comes (DropsIn f) w keys may k h = inl h
comes (DropsOut f) w keys may k h = inl h

pub reaches : (m : Move) (w : World) → Keys w → May m w → AllReached w → AllReached (after m w)
reaches m w keys may old k came = here (comes m w keys may k came)
  where
    here : Comes m w k → Reached (tunnel (after m w) k)
    here (inl before) = reached_followed (tunnel w k) (tunnel (after m w) k) (lifts m w keys may k before) (old k before)
    here (inr begins) = reached_followed (step.start begins.0) (tunnel (after m w) k) begins.1 (reached_start begins.0)
