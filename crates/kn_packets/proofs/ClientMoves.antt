-- A client takes the first packet of its stream, where it is an answer to a dial or bytes.
use Rattle.std.proofs.Common.{◌≡◌, ◌∷◌, ℕ, ℤ, true, false, not, List, [], refl}
use Rattle.kn_packet.specs.declared.packet.Packet.{Packet}
use Rattle.kn_packet.specs.declared.packet.Packet.TheVariants.{CloseReq, CloseRsp, Data, DialCls, DialReq, DialRsp, Drain, Other}
use Rattle.kn_tables.specs.Lists.{first_where}
use Rattle.kn_edge_core.specs.ClientTables.{app_at, is_held_at, is_open_at}
use Rattle.kn_packets.specs.Keys.{Keys}
use Rattle.kn_packets.specs.Lifts.{Lifts}
use Rattle.kn_packets.specs.Moves.{ClientTakes, May, after, takes_out}
use Rattle.kn_packets.specs.World.{World}
use Rattle.kn_packets.proofs.ClientBytes.{bytes_taken}
use Rattle.kn_packets.proofs.ClientCloses.{close_taken, nothing_lifts}
use Rattle.kn_packets.proofs.ClientReplies.{answered, refused}
use Rattle.kn_packets.proofs.Takes.{nothing_happens}
use Rattle.kn_packets.proofs.Taken.{and_first, and_second, not_false}

pub answer_lifts : (w : World) (f : ℕ) (error : List ℕ) (connect_id random : ℤ) (rest : List Packet) → Keys w → May (ClientTakes f) w → (w.streams f).down ≡ DialRsp error connect_id random ∷ rest → Lifts w (after (ClientTakes f) w)
answer_lifts w f error connect_id random rest keys may first = rw first (by_error error first)
  where
    client : (w.streams f).connect ≡ false
    client = not_false (w.streams f).connect (and_second (w.streams f).client (not (w.streams f).connect) may)

    there : (w.streams f).client ≡ true
    there = and_first (w.streams f).client (not (w.streams f).connect) may

    by_error : (xs : List ℕ) → (w.streams f).down ≡ DialRsp xs connect_id random ∷ rest → Lifts w (takes_out f (DialRsp xs connect_id random ∷ rest) w)
    by_error [] first = answered w f connect_id random rest keys client there first (app_at random (w.clients (w.streams f).owner).apps) refl
    by_error (x ∷ xs) first = refused w f x xs connect_id random rest keys client there first (app_at random (w.clients (w.streams f).owner).apps) refl

pub bytes_lift : (w : World) (f : ℕ) (connect_id : ℤ) (error bytes : List ℕ) (rest : List Packet) → Keys w → May (ClientTakes f) w → (w.streams f).down ≡ Data connect_id error bytes ∷ rest → Lifts w (after (ClientTakes f) w)
bytes_lift w f connect_id error bytes rest keys may first = rw first (bytes_taken w f connect_id error bytes rest keys client there first (first_where (is_open_at connect_id) (w.clients (w.streams f).owner).apps) refl)
  where
    client : (w.streams f).connect ≡ false
    client = not_false (w.streams f).connect (and_second (w.streams f).client (not (w.streams f).connect) may)

    there : (w.streams f).client ≡ true
    there = and_first (w.streams f).client (not (w.streams f).connect) may

-- whatever packet it is
pub client_takes_lifts : (w : World) (f : ℕ) → Keys w → May (ClientTakes f) w → Lifts w (after (ClientTakes f) w)
client_takes_lifts w f keys may = by_list (w.streams f).down refl
  where
    client : (w.streams f).connect ≡ false
    client = not_false (w.streams f).connect (and_second (w.streams f).client (not (w.streams f).connect) may)

    there : (w.streams f).client ≡ true
    there = and_first (w.streams f).client (not (w.streams f).connect) may

    by_packet : (p : Packet) (rest : List Packet) → (w.streams f).down ≡ p ∷ rest → Lifts w (takes_out f (p ∷ rest) w)
    by_packet (DialRsp [] connect_id random) rest first = answered w f connect_id random rest keys client there first (app_at random (w.clients (w.streams f).owner).apps) refl
    by_packet (DialRsp (x ∷ xs) connect_id random) rest first = refused w f x xs connect_id random rest keys client there first (app_at random (w.clients (w.streams f).owner).apps) refl
    by_packet (Data connect_id error bytes) rest first = bytes_taken w f connect_id error bytes rest keys client there first (first_where (is_open_at connect_id) (w.clients (w.streams f).owner).apps) refl
    by_packet (CloseRsp error connect_id) rest first = close_taken w f error connect_id rest keys client there first (first_where (is_held_at connect_id) (w.clients (w.streams f).owner).apps) refl
    by_packet (DialReq protocol address random) rest first = nothing_lifts w f (DialReq protocol address random) rest keys client there first (λ n D. refl)
    by_packet (CloseReq connect_id) rest first = nothing_lifts w f (CloseReq connect_id) rest keys client there first (λ n D. refl)
    by_packet (DialCls random) rest first = nothing_lifts w f (DialCls random) rest keys client there first (λ n D. refl)
    by_packet Drain rest first = nothing_lifts w f Drain rest keys client there first (λ n D. refl)
    by_packet (Other number) rest first = nothing_lifts w f (Other number) rest keys client there first (λ n D. refl)

    by_list : (ps : List Packet) → (w.streams f).down ≡ ps → Lifts w (takes_out f ps w)
    by_list [] first = nothing_happens w
    by_list (p ∷ rest) first = by_packet p rest first
