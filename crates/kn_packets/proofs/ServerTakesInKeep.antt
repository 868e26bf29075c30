-- The server that takes the first packet of a front keeps the facts on keys, whatever it is.
use Rattle.std.proofs.Common.{◌≡◌, ℕ, ℤ, Bool, true, false, not, List, [], ◌∷◌, Result, Ok, Err, refl, sym, ap, ◌∙◌, subst}
use Rattle.kn_packet.specs.declared.packet.Packet.{Packet}
use Rattle.kn_packet.specs.declared.packet.Packet.TheVariants.{CloseReq, CloseRsp, Data, DialCls, DialReq, DialRsp, Drain, Other}
use Rattle.kn_tables.specs.Lists.{first_where}
use Rattle.kn_tables.specs.Awaiting.{is_random}
use Rattle.kn_server_core.specs.declared.event.ServerEvent.TheVariants.{FrontPacket}
use Rattle.kn_server_core.specs.Isolation.{Each}
use Rattle.kn_server_core.specs.Packets.{refusal}
use Rattle.kn_server_core.specs.Server.{dial_choice, dial_chosen, dial_sent, from_front, held_at, own, step, told}
use Rattle.kn_server_core.specs.Steps.{Step}
use Rattle.kn_tunnel.specs.Kinds.{is_present}
use Rattle.kn_packets.specs.Keys.{Keys, OfConnection}
use Rattle.kn_packets.specs.Lifts.{Lifts}
use Rattle.kn_packets.specs.Moves.{May, ServerTakesIn, after, as_taken, asked_by, connection_dial, dial_number, in_is, is_early, served, takes_in}
use Rattle.kn_packets.specs.World.{World}
use Rattle.kn_packets.proofs.ServerCalm.{Calm, calm_keeps}
use Rattle.kn_packets.proofs.ServerDraws.{draw_keeps}
use Rattle.kn_packets.proofs.ServerInKeep.{bytes_calm, cancel_calm, close_in_calm, refused_calm, silent_in, taken_in, whole}
use Rattle.kn_packets.proofs.ServerUpKeep.{same_fits}
use Rattle.kn_packets.proofs.Taken.{and_first}
use Rattle.kn_packets.proofs.Takes.{in_lifts}
use Rattle.kn_packets.proofs.TakesRequest.{has_text}

module _ (w : World) (f : ℕ) (keys : Keys w) (present : is_present (w.streams f).front ≡ true) where
  -- the world keeps its facts where a step of the server lifts
  abbrev Keeps : ℤ → Step → List Packet → Type 0
  Keeps random s rest = Lifts w (served random s (in_is f rest w)) → Keys (served random s (in_is f rest w))

  module _ (p : Packet) (rest : List Packet) (first : (w.streams f).up ≡ p ∷ rest) where
    stepped : (q : Packet) (s : Step) → from_front w.server f q ≡ s → Keeps (asked_by (FrontPacket f q)) s rest → Keeps (asked_by (FrontPacket f q)) (step w.server (FrontPacket f q)) rest
    stepped q s eq keeps = subst (λ t. Keeps (asked_by (FrontPacket f q)) t rest) (sym (whole w f keys present p rest first q ∙ eq)) keeps

    calmly : (q : Packet) → Calm w (from_front w.server f q) (taken_in w f keys present p rest first) → Keeps (asked_by (FrontPacket f q)) (step w.server (FrontPacket f q)) rest
    calmly q calm = stepped q (from_front w.server f q) refl (calm_keeps w (asked_by (FrontPacket f q)) (from_front w.server f q) (taken_in w f keys present p rest first) keys calm)

    -- nothing else comes over a CONNECT connection
    no_other : (w.streams f).connect ≡ true → OfConnection p
    no_other be = let all : Each OfConnection (p ∷ rest) = subst (λ ps. Each OfConnection ps) first (keys.clients.connect_ins f be) in all.0

  request : (protocol address : List ℕ) (random : ℤ) (rest : List Packet) (first : (w.streams f).up ≡ DialReq protocol address random ∷ rest) → Keeps random (step w.server (FrontPacket f (DialReq protocol address random))) rest
  request protocol address random rest first = by_choice (dial_choice w.server f protocol address random) refl
    where
      by_choice : (c : Result ℕ (List ℕ)) → dial_choice w.server f protocol address random ≡ c → Keeps random (step w.server (FrontPacket f (DialReq protocol address random))) rest
      by_choice (Ok l) e = stepped (DialReq protocol address random) rest first (DialReq protocol address random) (dial_sent w.server f protocol address random l) (ap (dial_chosen w.server f protocol address random) e)
          (draw_keeps w f keys present protocol address random rest first l (ap (dial_chosen w.server f protocol address random) e))
      by_choice (Err (x ∷ xs)) e = stepped (DialReq protocol address random) rest first (DialReq protocol address random) (told w.server (refusal f random (x ∷ xs) ∷ [])) (ap (dial_chosen w.server f protocol address random) e)
          (calm_keeps w random (told w.server (refusal f random (x ∷ xs) ∷ [])) (taken_in w f keys present (DialReq protocol address random) rest first) keys
          (refused_calm w f keys present protocol address random rest first x xs (ap (dial_chosen w.server f protocol address random) e)))
      by_choice (Err []) e = absurd (has_text w.server f protocol address random e)

  silently : (p q : Packet) (rest : List Packet) (first : (w.streams f).up ≡ p ∷ rest) → from_front w.server f q ≡ told w.server [] → Keeps (asked_by (FrontPacket f q)) (step w.server (FrontPacket f q)) rest
  silently p q rest first eq = stepped p rest first q (told w.server []) eq (calm_keeps w (asked_by (FrontPacket f q)) (told w.server []) (taken_in w f keys present p rest first) keys (silent_in w f keys present p rest first q w.server eq (same_fits w keys)))

  by_packet : (b : Bool) → (w.streams f).connect ≡ b → (p : Packet) (rest : List Packet) → (w.streams f).up ≡ p ∷ rest → Keeps (asked_by (FrontPacket f (as_taken b (connection_dial w f) p))) (step w.server (FrontPacket f (as_taken b (connection_dial w f) p))) rest
  by_packet true be (DialReq protocol address random) rest first = request protocol address random rest first
  by_packet false be (DialReq protocol address random) rest first = request protocol address random rest first
  by_packet true be (Data c error bytes) rest first = calmly (Data c error bytes) rest first (Data (dial_number (connection_dial w f)) error bytes)
      (bytes_calm w f keys present (Data c error bytes) rest first (dial_number (connection_dial w f)) error bytes (own f (held_at (dial_number (connection_dial w f)) w.server.held)) refl)
  by_packet false be (Data c error bytes) rest first = calmly (Data c error bytes) rest first (Data c error bytes) (bytes_calm w f keys present (Data c error bytes) rest first c error bytes (own f (held_at c w.server.held)) refl)
  by_packet true be (CloseReq c) rest first = absurd (no_other (CloseReq c) rest first be)
  by_packet false be (CloseReq c) rest first = calmly (CloseReq c) rest first (CloseReq c) (close_in_calm w f keys present c rest first be (own f (held_at c w.server.held)) refl)
  by_packet true be (DialCls random) rest first = absurd (no_other (DialCls random) rest first be)
  by_packet false be (DialCls random) rest first = calmly (DialCls random) rest first (DialCls random) (cancel_calm w f keys present (DialCls random) rest first random be first (first_where (is_random f random) w.server.awaited) refl)
  by_packet true be (DialRsp error c random) rest first = absurd (no_other (DialRsp error c random) rest first be)
  by_packet false be (DialRsp error c random) rest first = silently (DialRsp error c random) (DialRsp error c random) rest first refl
  by_packet true be (CloseRsp error c) rest first = absurd (no_other (CloseRsp error c) rest first be)
  by_packet false be (CloseRsp error c) rest first = silently (CloseRsp error c) (CloseRsp error c) rest first refl
  by_packet true be Drain rest first = absurd (no_other Drain rest first be)
  by_packet false be Drain rest first = silently Drain Drain rest first refl
  by_packet true be (Other number) rest first = absurd (no_other (Other number) rest first be)
  by_packet false be (Other number) rest first = silently (Other number) (Other number) rest first refl

  by_list : (ps : List Packet) → (w.streams f).up ≡ ps → Lifts w (takes_in f ps w) → Keys (takes_in f ps w)
  by_list [] first = λ lifts. keys
  by_list (p ∷ rest) first = by_packet (w.streams f).connect refl p rest first

pub takes_in_keeps : (w : World) (f : ℕ) → Keys w → May (ServerTakesIn f) w → Keys (after (ServerTakesIn f) w)
takes_in_keeps w f keys may = by_list w f keys (and_first (is_present (w.streams f).front) (not (is_early w f)) may) (w.streams f).up refl (in_lifts w f keys may)
