-- A tunnel whose packet is the first that its app's stream sent: what taking its bytes does.
use Rattle.std.proofs.Common.{◌≡◌, ◌&&◌, ℕ, Bool, true, false, not, List, [], ◌∷◌, length, take, drop, Option, Some, None, inl, inr, refl, append-nil}
use Rattle.kn_packet.specs.declared.packet.Packet.{Packet}
use Rattle.kn_edge_core.specs.declared.agent_state.AgentState.{AgentState}
use Rattle.kn_tunnel.specs.Events as event
use Rattle.kn_tunnel.specs.Kinds.{has, is_awaited, is_carrying, is_present}
use Rattle.kn_tunnel.specs.Steps.{Follows, appended}
use Rattle.kn_tunnel.specs.Tunnel.{Entry, Phase, Side}
use Rattle.kn_words.specs.Down.{down_word}
use Rattle.kn_words.specs.In.{BytesIn, in_ordered, stream_in_item, stream_in_word}
use Rattle.kn_packets.specs.World.{WorldLink, WorldStream, drawn_tunnel, far_of, undrawn_tunnel}
use Rattle.kn_packets.proofs.Taken.{in_bytes_order, in_bytes_piece, in_bytes_taken}

none_is : (xs : List ℕ) → has xs ≡ false → xs ≡ []
none_is [] e = refl
none_is (x ∷ xs) e = absurd cc

same_bytes : (b : Bool) (xs : List ℕ) → appended b xs [] ≡ xs
same_bytes true xs = append-nil xs
same_bytes false xs = refl

module _ (c : Bool) (n : ℕ) (D : Option ℕ) (s : WorldStream) (p : Packet) (rest : List Packet) (bytes : List ℕ) (first : s.up ≡ p ∷ rest) (item : stream_in_item c n D p ≡ BytesIn bytes)
    (order : in_ordered (stream_in_item c n D) s.up ≡ true) where
  word : stream_in_word c n D rest ≡ record (stream_in_word c n D s.up) { bytes = drop (length bytes) (stream_in_word c n D s.up).bytes }
  word = rw first (in_bytes_taken (stream_in_item c n D) p rest bytes item)

  piece : take (length bytes) (stream_in_word c n D s.up).bytes ≡ bytes
  piece = rw first (in_bytes_piece (stream_in_item c n D) p rest bytes item)

  comes_first : has bytes ≡ true → (not (stream_in_word c n D s.up).request && not (stream_in_word c n D s.up).cancel) ≡ true
  comes_first some = rw first (in_bytes_order (stream_in_item c n D) p rest bytes item some (rw first at order))

  no_bytes : has bytes ≡ false → stream_in_word c n D rest ≡ stream_in_word c n D s.up
  no_bytes none = rw (first, item, none_is bytes none) refl

may_take : (p r c w : Bool) → p ≡ true → (r && c) ≡ true → w ≡ true → (p && r && c && w) ≡ true
may_take true true true w a b e = e
may_take true true false w a b e = absurd cc
may_take true false c w a b e = absurd cc
may_take false r c w a b e = absurd cc

-- before there is a dial
pub bytes_in_undrawn : (c : Bool) (n : ℕ) (ph : Phase) (side : Side) (s : WorldStream) (p : Packet) (rest : List Packet) (bytes : List ℕ) → s.up ≡ p ∷ rest → stream_in_item c n None p ≡ BytesIn bytes
    → in_ordered (stream_in_item c n None) s.up ≡ true → is_present s.front ≡ true → Follows (undrawn_tunnel c n ph side s) (undrawn_tunnel c n ph side (record s { up = rest }))
bytes_in_undrawn c n ph side s p rest bytes first item order present = here (has bytes) refl
  where
    never : (b : Bool) → not (b && false) ≡ true
    never true = refl
    never false = refl

    here : (b : Bool) → has bytes ≡ b → Follows (undrawn_tunnel c n ph side s) (undrawn_tunnel c n ph side (record s { up = rest }))
    here true some = inr (
      event.ServerTakesIn (length bytes),
      (may_take (is_present s.front) (not (stream_in_word c n None s.up).request) (not (stream_in_word c n None s.up).cancel) (not (c && false)) present (comes_first c n None s p rest bytes first item order some) (never c), tt),
      rw (word c n None s p rest bytes first item order) refl,
    )
    here false none = inl (rw (no_bytes c n None s p rest bytes first item order none) refl)

-- of a dial: they are passed on, or dropped
pub bytes_in : (c : Bool) (n : ℕ) (ph : Phase) (side : Side) (s : WorldStream) (d : ℕ) (entry : Entry) (cid : Option ℕ) (dest : Side) (agent : AgentState) (L : WorldLink) (p : Packet) (rest : List Packet) (bytes : List ℕ)
    → s.up ≡ p ∷ rest → stream_in_item c n (Some d) p ≡ BytesIn bytes → in_ordered (stream_in_item c n (Some d)) s.up ≡ true → is_present s.front ≡ true → not (c && is_awaited entry) ≡ true
    → (down : List Packet) → down_word cid down ≡ record (down_word cid L.down) { bytes = appended (is_carrying entry && not agent.lost) (down_word cid L.down).bytes bytes } → far_of d cid agent down ≡ far_of d cid agent L.down
    → Follows (drawn_tunnel c n ph side s d entry cid dest agent L) (drawn_tunnel c n ph side (record s { up = rest }) d entry cid dest agent (record L { down = down }))
bytes_in c n ph side s d entry cid dest agent L p rest bytes first item order present waits down passed far = here (has bytes) refl
  where
    here : (b : Bool) → has bytes ≡ b → Follows (drawn_tunnel c n ph side s d entry cid dest agent L) (drawn_tunnel c n ph side (record s { up = rest }) d entry cid dest agent (record L { down = down }))
    here true some = inr (
      event.ServerTakesIn (length bytes),
      (may_take (is_present s.front) (not (stream_in_word c n (Some d) s.up).request) (not (stream_in_word c n (Some d) s.up).cancel) (not (c && is_awaited entry)) present (comes_first c n (Some d) s p rest bytes first item order some) waits, tt),
      rw (word c n (Some d) s p rest bytes first item order, piece c n (Some d) s p rest bytes first item order, far, passed) refl,
    )
    here false none = inl (rw (no_bytes c n (Some d) s p rest bytes first item order none, far, passed, none_is bytes none, same_bytes (is_carrying entry && not agent.lost) (down_word cid L.down).bytes) refl)
