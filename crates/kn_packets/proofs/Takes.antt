-- The server takes a packet of a link or a front.
use Rattle.std.proofs.Common.{◌≡◌, ◌==◌, ◌&&◌, ℕ, ℤ, pos, Bool, true, false, not, List, [], ◌∷◌, Option, Some, None, inl, refl, ◌∙◌, eqb-true}
use Rattle.kn_packet.specs.declared.packet.Packet.{Packet}
use Rattle.kn_packet.specs.declared.packet.Packet.TheVariants.{CloseReq, CloseRsp, Data, DialCls, DialReq, DialRsp, Drain, Other}
use Rattle.kn_route.specs.LinkLists.{LinkList, has_link, with_drained}
use Rattle.kn_tables.specs.Lists.{first_where}
use Rattle.kn_tables.specs.Awaiting.{is_random}
use Rattle.kn_tables.specs.Holding.{is_held}
use Rattle.kn_server_core.specs.FrontLists.{is_up}
use Rattle.kn_server_core.specs.Isolation.{Each}
use Rattle.kn_server_core.specs.Server.{dial_at, held_at, of_link, own}
use Rattle.kn_tunnel.specs.Kinds.{is_awaited, is_gone, is_present}
use Rattle.kn_tunnel.specs.Tunnel.{Coming, Front, Gone, Present}
use Rattle.kn_words.specs.In.{OtherIn, stream_in_item, stream_in_word}
use Rattle.kn_words.specs.Up.{OtherUp, up_item, up_word}
use Rattle.kn_packets.specs.Keys.{Keys, OfConnection}
use Rattle.kn_packets.specs.Lifts.{Lifts}
use Rattle.kn_packets.specs.Moves.{May, ServerTakesIn, ServerTakesUp, after, connection_dial, dial_number, in_is, is_early, served, takes_in, takes_up, up_is}
use Rattle.kn_packets.specs.World.{World, entry_at, tunnel_of}
use Rattle.kn_packets.proofs.Fresh.{eqb_refl}
use Rattle.kn_packets.proofs.Taken.{and_first, and_second, in_other_taken, not_false, up_other_taken}
use Rattle.kn_packets.proofs.TakesClose.{close_lifts}
use Rattle.kn_packets.proofs.TakesData.{data_lifts}
use Rattle.kn_packets.proofs.TakesInClose.{cancel_lifts, in_close_lifts}
use Rattle.kn_packets.proofs.TakesInData.{in_data_lifts}
use Rattle.kn_packets.proofs.TakesRefusal.{refusal_lifts}
use Rattle.kn_packets.proofs.TakesReply.{reply_lifts}
use Rattle.kn_packets.proofs.TakesRequest.{request_lifts}

pub nothing_happens : (w : World) → Lifts w w
nothing_happens w k came = inl refl

there : (x : Front) → is_present x ≡ true → not (is_gone x) ≡ true
there Present e = refl
there Coming e = absurd cc
there Gone e = absurd cc

-- a packet that is no tunnel's
other_up_lifts : (w : World) (l : ℕ) (p : Packet) (rest : List Packet) (links : LinkList) → (w.links l).up ≡ p ∷ rest → ((d : ℕ) (cid : Option ℕ) → up_item d cid p ≡ OtherUp)
    → Lifts w (served (pos 0) (record { state = record w.server { links = links }; outs = [] }) (up_is l rest w))
other_up_lifts w l p rest links first item k came = inl (by_dial (w.apps k).dial)
  where
    by_link : (d : ℕ) (b : Bool) → ((w.dials d).link == l) ≡ b → tunnel_of (served (pos 0) (record { state = record w.server { links = links }; outs = [] }) (up_is l rest w)) (w.apps k) (Some d) ≡ tunnel_of w (w.apps k) (Some d)
    by_link d true on = rw (eqb-true (w.dials d).link l on, eqb_refl l, word d (w.dials d).cid) refl
      where
        word : (d : ℕ) (cid : Option ℕ) → up_word d cid rest ≡ up_word d cid (w.links l).up
        word d cid = rw first (up_other_taken (up_item d cid) p rest (item d cid))
    by_link d false on = rw on refl

    by_dial : (D : Option ℕ) → tunnel_of (served (pos 0) (record { state = record w.server { links = links }; outs = [] }) (up_is l rest w)) (w.apps k) D ≡ tunnel_of w (w.apps k) D
    by_dial None = refl
    by_dial (Some d) = by_link d ((w.dials d).link == l) refl

other_in_lifts : (w : World) (f : ℕ) (p : Packet) (rest : List Packet) → (w.streams f).up ≡ p ∷ rest → ((n : ℕ) (D : Option ℕ) → stream_in_item (w.streams f).connect n D p ≡ OtherIn)
    → Lifts w (served (pos 0) (record { state = w.server; outs = [] }) (in_is f rest w))
other_in_lifts w f p rest first item k came = inl (by_stream ((w.apps k).stream == f) refl (w.apps k).dial)
  where
    word : (n : ℕ) (D : Option ℕ) → stream_in_word (w.streams f).connect n D rest ≡ stream_in_word (w.streams f).connect n D (w.streams f).up
    word n D = rw first (in_other_taken (stream_in_item (w.streams f).connect n D) p rest (item n D))

    by_stream : (b : Bool) → ((w.apps k).stream == f) ≡ b → (D : Option ℕ) → tunnel_of (served (pos 0) (record { state = w.server; outs = [] }) (in_is f rest w)) (w.apps k) D ≡ tunnel_of w (w.apps k) D
    by_stream true on None = rw (eqb-true (w.apps k).stream f on, eqb_refl f, word (w.apps k).number None) refl
    by_stream true on (Some d) = rw (eqb-true (w.apps k).stream f on, eqb_refl f, word (w.apps k).number (Some d)) refl
    by_stream false on None = rw on refl
    by_stream false on (Some d) = rw on refl

pub up_lifts : (w : World) (l : ℕ) → Keys w → May (ServerTakesUp l) w → Lifts w (after (ServerTakesUp l) w)
up_lifts w l keys present = by_list (w.links l).up refl
  where
    linked : has_link l w.server.links ≡ true
    linked = keys.server.links_up l ∙ present

    by_packet : (p : Packet) (rest : List Packet) → (w.links l).up ≡ p ∷ rest → Lifts w (takes_up l (p ∷ rest) w)
    by_packet (DialRsp [] c random) rest first = rw linked (reply_lifts w l c random rest keys first (there (w.links l).server present))
    by_packet (DialRsp (x ∷ xs) c random) rest first = rw linked (refusal_lifts w l x xs c random rest keys first (there (w.links l).server present) (of_link l (dial_at random w.server.awaited)) refl)
    by_packet (Data c error bytes) rest first = rw linked (data_lifts w l c error bytes rest keys first (there (w.links l).server present) (first_where (is_held l c) w.server.held) refl)
    by_packet (CloseRsp error c) rest first = rw linked (close_lifts w l c error rest keys first (there (w.links l).server present) (first_where (is_held l c) w.server.held) refl)
    by_packet Drain rest first = rw linked (other_up_lifts w l Drain rest (with_drained w.server.links l) first (λ d cid. refl))
    by_packet (DialReq protocol address random) rest first = rw linked (other_up_lifts w l (DialReq protocol address random) rest w.server.links first (λ d cid. refl))
    by_packet (CloseReq c) rest first = rw linked (other_up_lifts w l (CloseReq c) rest w.server.links first (λ d cid. refl))
    by_packet (DialCls random) rest first = rw linked (other_up_lifts w l (DialCls random) rest w.server.links first (λ d cid. refl))
    by_packet (Other number) rest first = rw linked (other_up_lifts w l (Other number) rest w.server.links first (λ d cid. refl))

    by_list : (ps : List Packet) → (w.links l).up ≡ ps → Lifts w (takes_up l ps w)
    by_list [] first = nothing_happens w
    by_list (p ∷ rest) first = by_packet p rest first

pub in_lifts : (w : World) (f : ℕ) → Keys w → May (ServerTakesIn f) w → Lifts w (after (ServerTakesIn f) w)
in_lifts w f keys may = by_list (w.streams f).up refl
  where
    present : is_present (w.streams f).front ≡ true
    present = and_first (is_present (w.streams f).front) (not (is_early w f)) may

    fronted : is_up f w.server.fronts ≡ true
    fronted = keys.server.fronts_up f present

    not_early : is_early w f ≡ false
    not_early = not_false (is_early w f) (and_second (is_present (w.streams f).front) (not (is_early w f)) may)

    waits : (c : ℤ) (error bytes : List ℕ) (rest : List Packet) → (w.streams f).up ≡ Data c error bytes ∷ rest → (d : ℕ) → (w.streams f).connect ≡ true → connection_dial w f ≡ Some d → is_awaited (entry_at w.server d) ≡ false
    waits c error bytes rest first d be de = here (is_awaited (entry_at w.server d)) (rw (be, de, first) at not_early)
      where
        here : (b : Bool) → (b && true) ≡ false → b ≡ false
        here false h = refl
        here true h = absurd cc

    -- nothing else comes over a CONNECT connection
    no_other : (p : Packet) (rest : List Packet) → (w.streams f).up ≡ p ∷ rest → (w.streams f).connect ≡ true → OfConnection p
    no_other p rest first be = let all : Each OfConnection (p ∷ rest) = rw first at (keys.clients.connect_ins f be) in all.0

    by_packet : (b : Bool) → (w.streams f).connect ≡ b → (p : Packet) (rest : List Packet) → (w.streams f).up ≡ p ∷ rest → Lifts w (takes_in f (p ∷ rest) w)
    by_packet b be (DialReq protocol address random) rest first = rw first at (request_lifts w f protocol address random rest keys first present)
    by_packet false be (Data c error bytes) rest first = rw (be, fronted) (in_data_lifts w f c error bytes rest keys first present c (λ h. refl) (λ h. absurd (cc (be, h))) (waits c error bytes rest first) (own f (held_at c w.server.held)) refl)
    by_packet true be (Data c error bytes) rest first = rw (be, fronted) (in_data_lifts w f c error bytes rest keys first present (dial_number (connection_dial w f)) (λ h. absurd (cc (be, h))) (λ h. refl) (waits c error bytes rest first)
        (own f (held_at (dial_number (connection_dial w f)) w.server.held)) refl)
    by_packet false be (CloseReq c) rest first = rw (be, fronted) (in_close_lifts w f c rest keys first present be (own f (held_at c w.server.held)) refl)
    by_packet true be (CloseReq c) rest first = absurd (no_other (CloseReq c) rest first be)
    by_packet false be (DialCls random) rest first = rw (be, fronted) (cancel_lifts w f random rest keys first present be (first_where (is_random f random) w.server.awaited) refl)
    by_packet true be (DialCls random) rest first = absurd (no_other (DialCls random) rest first be)
    by_packet false be (DialRsp error c random) rest first = rw (be, fronted) (other_in_lifts w f (DialRsp error c random) rest first (λ n D. rw be refl))
    by_packet true be (DialRsp error c random) rest first = absurd (no_other (DialRsp error c random) rest first be)
    by_packet false be (CloseRsp error c) rest first = rw (be, fronted) (other_in_lifts w f (CloseRsp error c) rest first (λ n D. rw be refl))
    by_packet true be (CloseRsp error c) rest first = absurd (no_other (CloseRsp error c) rest first be)
    by_packet false be Drain rest first = rw (be, fronted) (other_in_lifts w f Drain rest first (λ n D. rw be refl))
    by_packet true be Drain rest first = absurd (no_other Drain rest first be)
    by_packet false be (Other number) rest first = rw (be, fronted) (other_in_lifts w f (Other number) rest first (λ n D. rw be refl))
    by_packet true be (Other number) rest first = absurd (no_other (Other number) rest first be)

    by_list : (ps : List Packet) → (w.streams f).up ≡ ps → Lifts w (takes_in f ps w)
    by_list [] first = nothing_happens w
    by_list (p ∷ rest) first = by_packet (w.streams f).connect refl p rest first
