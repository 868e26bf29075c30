-- A tunnel whose packet is the first that its agent sent: what taking it does.
use Rattle.std.proofs.Common.{◌≡◌, ◌&&◌, ℕ, Bool, true, false, not, List, [], ◌∷◌, length, take, drop, Option, Some, inl, inr, refl, append-nil}
use Rattle.kn_packet.specs.declared.packet.Packet.{Packet}
use Rattle.kn_edge_core.specs.declared.agent_state.AgentState.{AgentState}
use Rattle.kn_tunnel.specs.Events as event
use Rattle.kn_tunnel.specs.Kinds.{has, is_carrying, is_gone}
use Rattle.kn_tunnel.specs.Steps.{Follows, appended}
use Rattle.kn_tunnel.specs.Tunnel.{Entry, Phase, Side, Tunnel}
use Rattle.kn_words.specs.Out.{stream_out_word}
use Rattle.kn_words.specs.Up.{BytesUp, OtherUp, up_item, up_ordered, up_word}
use Rattle.kn_packets.specs.World.{WorldLink, WorldStream, drawn_tunnel}
use Rattle.kn_packets.proofs.Taken.{up_bytes_order, up_bytes_piece, up_bytes_taken}

-- the packet is another tunnel's
pub other_up : (c : Bool) (n : ℕ) (ph : Phase) (side : Side) (s : WorldStream) (d : ℕ) (entry : Entry) (cid : Option ℕ) (dest : Side) (agent : AgentState) (L : WorldLink) (p : Packet) (rest : List Packet)
    → L.up ≡ p ∷ rest → up_item d cid p ≡ OtherUp → drawn_tunnel c n ph side s d entry cid dest agent (record L { up = rest }) ≡ drawn_tunnel c n ph side s d entry cid dest agent L
other_up c n ph side s d entry cid dest agent L p rest first item = rw (first, item) refl

-- bytes are passed on, or dropped
module _ (c : Bool) (n : ℕ) (ph : Phase) (side : Side) (s : WorldStream) (d : ℕ) (entry : Entry) (cid : Option ℕ) (dest : Side) (agent : AgentState) (L : WorldLink) (p : Packet) (rest : List Packet)
    (bytes : List ℕ) (first : L.up ≡ p ∷ rest) (item : up_item d cid p ≡ BytesUp bytes) (there : not (is_gone L.server) ≡ true) (order : up_ordered (up_item d cid) L.up ≡ true)
    (down : List Packet) (out : stream_out_word c n (Some d) down ≡ record (stream_out_word c n (Some d) s.down) { bytes = appended (is_carrying entry && s.client) (stream_out_word c n (Some d) s.down).bytes bytes }) where
  abbrev new : Tunnel
  new = drawn_tunnel c n ph side (record s { down = down }) d entry cid dest agent (record L { up = rest })

  abbrev old : Tunnel
  old = drawn_tunnel c n ph side s d entry cid dest agent L

  word : up_word d cid rest ≡ record (up_word d cid L.up) { bytes = drop (length bytes) (up_word d cid L.up).bytes }
  word = rw first (up_bytes_taken (up_item d cid) p rest bytes item)

  piece : take (length bytes) (up_word d cid L.up).bytes ≡ bytes
  piece = rw first (up_bytes_piece (up_item d cid) p rest bytes item)

  no_reply : has bytes ≡ true → not (up_word d cid L.up).reply ≡ true
  no_reply some = rw first (up_bytes_order (up_item d cid) p rest bytes item some (rw first at order))

  same_bytes : (b : Bool) (xs : List ℕ) → appended b xs [] ≡ xs
  same_bytes true xs = append-nil xs
  same_bytes false xs = refl

  none_is : (xs : List ℕ) → has xs ≡ false → xs ≡ []
  none_is [] e = refl
  none_is (x ∷ xs) e = absurd cc

  pub bytes_up : Follows old new
  bytes_up = here (has bytes) refl
    where
      here : (b : Bool) → has bytes ≡ b → Follows old new
      here true some = inr (event.ServerTakesUp (length bytes), (rw (there, no_reply some) refl, tt), rw (word, piece, out) refl)
      here false none = inl (rw (first, item, out, none_is bytes none, same_bytes (is_carrying entry && s.client) (stream_out_word c n (Some d) s.down).bytes) refl)
