-- The server takes bytes of a front: an open entry passes them on to its link, all else drops them.
use Rattle.std.proofs.Common.{◌≡◌, ◌==◌, ◌&&◌, ℕ, ℤ, pos, negsuc, Bool, true, false, not, cond, List, [], ◌∷◌, Option, Some, None, inl, refl, sym, ap, ◌∙◌, eqb-true}
use Rattle.kn_packet.specs.declared.packet.Packet.{Packet}
use Rattle.kn_packet.specs.declared.packet.Packet.TheVariants.{Data}
use Rattle.kn_tables.specs.Lists.{first_where}
use Rattle.kn_tables.specs.Awaiting.{is_dial}
use Rattle.kn_tables.specs.Holding.{has_front, is_held_dial}
use Rattle.kn_tables.specs.declared.awaited_entry.AwaitedEntry.{AwaitedEntry}
use Rattle.kn_tables.specs.declared.held_entry.HeldEntry.{HeldEntry}
use Rattle.kn_tables.specs.declared.held_entry.HeldState.{HeldState}
use Rattle.kn_tables.specs.declared.held_entry.HeldState.TheVariants.{Closing, Open}
use Rattle.kn_server_core.specs.Packets.{data_to_link, in_packets}
use Rattle.kn_server_core.specs.Server.{data_up, held_at, ignored, open_up, own, told}
use Rattle.kn_server_core.proofs.SoundLemmas.{passes}
use Rattle.kn_edge_core.specs.ClientTables.{is_app}
use Rattle.kn_edge_core.specs.declared.agent_state.AgentState.{AgentState}
use Rattle.kn_tunnel.specs.Kinds.{is_awaited, is_carrying, is_present}
use Rattle.kn_tunnel.specs.Steps.{Follows, appended}
use Rattle.kn_tunnel.specs.Tunnel.{Phase}
use Rattle.kn_words.specs.Down.{BytesDown, OtherDown, down_item, down_word}
use Rattle.kn_words.specs.In.{BytesIn, OtherIn, in_ordered, stream_in_item, stream_in_word}
use Rattle.kn_words.specs.Numbers.{is_drawn_number, is_number}
use Rattle.kn_packets.specs.Keys.{Keys}
use Rattle.kn_packets.specs.Lifts.{Lifts}
use Rattle.kn_packets.specs.Moves.{connection_dial, dial_number, in_is, served}
use Rattle.kn_packets.specs.Outputs.{asks, for_link, queued}
use Rattle.kn_packets.specs.World.{World, drawn_tunnel, entry_at, entry_of, far_of, phase_in, phase_of, tunnel, tunnel_of, undrawn_tunnel}
use Rattle.kn_packets.proofs.DataParts.{ToLinks, at_link, data_asks_none, data_to_links, down_data, down_data_other, not_link, pieces_join}
use Rattle.kn_packets.proofs.Fresh.{eqb_refl}
use Rattle.kn_packets.proofs.InParts.{bytes_in, bytes_in_undrawn}
use Rattle.kn_packets.proofs.Owners.{is_key, key_is, pos_one, some_one}
use Rattle.kn_packets.proofs.Taken.{in_other_taken}

-- the dial that a packet names
pub named_dial : (D : Option ℕ) (z : ℤ) → is_drawn_number D z ≡ true → (d : ℕ) × (D ≡ Some d) × (z ≡ pos d)
named_dial D z e = is_key D z e

data_in : (n : ℕ) (D : Option ℕ) (c : ℤ) (error bytes : List ℕ) → is_drawn_number D c ≡ true → stream_in_item false n D (Data c error bytes) ≡ BytesIn bytes
data_in n D c error bytes e = rw e refl

data_not : (n : ℕ) (D : Option ℕ) (c : ℤ) (error bytes : List ℕ) → is_drawn_number D c ≡ false → stream_in_item false n D (Data c error bytes) ≡ OtherIn
data_not n D c error bytes e = rw e refl

-- an entry that a front names is that front's
pub record IsOwn (w : World) (f : ℕ) (z : ℤ) (e : HeldEntry) : Type 0 where
  pub at : first_where (is_held_dial e.dial) w.server.held ≡ Some e
  pub front : e.front ≡ Some f
  pub named : z ≡ pos e.dial

front_is : (o : Option ℕ) (f : ℕ) → has_front o f ≡ true → o ≡ Some f
front_is None f e = absurd cc
front_is (Some g) f e = ap Some (eqb-true g f e)

pub found_own : (w : World) (f : ℕ) (z : ℤ) (e : HeldEntry) → own f (held_at z w.server.held) ≡ Some e → IsOwn w f z e
found_own w f (negsuc d) e h = absurd cc
found_own w f (pos d) e h = here (first_where (is_held_dial d) w.server.held) refl h
  where
    here : (o : Option HeldEntry) → first_where (is_held_dial d) w.server.held ≡ o → own f o ≡ Some e → IsOwn w f (pos d) e
    here None g h = absurd cc
    here (Some x) g h = by_front (has_front x.front f) refl h
      where
        by_front : (b : Bool) → has_front x.front f ≡ b → cond b (Some x) None ≡ Some e → IsOwn w f (pos d) e
        by_front true t h =
            let m : x ≡ e = cc in let same : e.dial ≡ d = ap (λ (y : HeldEntry). y.dial) (sym m) ∙ eqb-true x.dial d (passes (is_held_dial d) x w.server.held g) in
            record { at = ap (λ n. first_where (is_held_dial n) w.server.held) same ∙ g ∙ ap Some m; front = ap (λ (y : HeldEntry). y.front) (sym m) ∙ front_is x.front f t; named = ap pos (sym same) }
        by_front false t h = absurd cc

-- a front that names none has no open entry of that dial
pub none_own : (w : World) (keys : Keys w) (f : ℕ) (z : ℤ) (k d : ℕ) → own f (held_at z w.server.held) ≡ None → (w.apps k).came ≡ true → (w.apps k).dial ≡ Some d → (w.apps k).stream ≡ f → z ≡ pos d
    → (e : HeldEntry) → first_where (is_held_dial d) w.server.held ≡ Some e → e.front ≡ None
none_own w keys f z k d none came de on named e at = here e.front refl
  where
    here : (o : Option ℕ) → e.front ≡ o → o ≡ None
    here None h = refl
    here (Some g) h =
        let same : g ≡ f = sym ((keys.server.held d e at).front k g came de h) ∙ on in
        let yes : has_front e.front f ≡ true = rw (h, same, eqb_refl f) refl in
        absurd (cc (rw (named, at, yes) at none))

module _ (w : World) (f : ℕ) (c : ℤ) (error bytes : List ℕ) (rest : List Packet) (keys : Keys w) (first : (w.streams f).up ≡ Data c error bytes ∷ rest) (present : is_present (w.streams f).front ≡ true)
    (z : ℤ) (client : (w.streams f).connect ≡ false → z ≡ c) (connection : (w.streams f).connect ≡ true → z ≡ dial_number (connection_dial w f))
    (waits : (d : ℕ) → (w.streams f).connect ≡ true → connection_dial w f ≡ Some d → is_awaited (entry_at w.server d) ≡ false) where
  -- what an app on this stream has come to
  abbrev phase_on : ℕ → Phase
  phase_on k = phase_of (w.streams f).connect (first_where (is_app (w.apps k).number) (w.clients (w.streams f).owner).apps) (w.apps k).phase

  -- of an app on this stream: the bytes are its own where the number that the server reads is its dial's, or where it has none yet and the stream is its connection
  item_own : (k d : ℕ) → (w.apps k).came ≡ true → (w.apps k).stream ≡ f → (w.apps k).dial ≡ Some d → z ≡ pos d → stream_in_item (w.streams f).connect (w.apps k).number (Some d) (Data c error bytes) ≡ BytesIn bytes
  item_own k d came on de named = here (w.streams f).connect refl
    where
      here : (b : Bool) → (w.streams f).connect ≡ b → stream_in_item b (w.apps k).number (Some d) (Data c error bytes) ≡ BytesIn bytes
      here true be = refl
      here false be = data_in (w.apps k).number (Some d) c error bytes (rw (sym (client be) ∙ named, eqb_refl d) refl)

  its_connection : (k : ℕ) → (w.apps k).came ≡ true → (w.apps k).stream ≡ f → (w.streams f).connect ≡ true → connection_dial w f ≡ (w.apps k).dial
  its_connection k came on be = ap (λ i. (w.apps i).dial) (ap (λ i. (w.streams i).app) (sym on) ∙ keys.clients.connection k came (ap (λ i. (w.streams i).connect) on ∙ be))

  item_other : (k d : ℕ) → (w.apps k).came ≡ true → (w.apps k).stream ≡ f → (w.apps k).dial ≡ Some d → is_number d z ≡ false → stream_in_item (w.streams f).connect (w.apps k).number (Some d) (Data c error bytes) ≡ OtherIn
  item_other k d came on de other = here (w.streams f).connect refl
    where
      here : (b : Bool) → (w.streams f).connect ≡ b → stream_in_item b (w.apps k).number (Some d) (Data c error bytes) ≡ OtherIn
      here true be = let named : z ≡ pos d = connection be ∙ ap dial_number (its_connection k came on be ∙ de) in absurd (cc (rw named at other, eqb_refl d))
      here false be = data_not (w.apps k).number (Some d) c error bytes (rw (sym (client be)) other)

  word_not : (b : Bool) (n : ℕ) (D : Option ℕ) → stream_in_item b n D (Data c error bytes) ≡ OtherIn → stream_in_word b n D rest ≡ stream_in_word b n D (w.streams f).up
  word_not b n D item = rw first (in_other_taken (stream_in_item b n D) (Data c error bytes) rest item)

  not_waiting : (k d : ℕ) → (w.apps k).came ≡ true → (w.apps k).stream ≡ f → (w.apps k).dial ≡ Some d → not ((w.streams f).connect && is_awaited (entry_at w.server d)) ≡ true
  not_waiting k d came on de = here (w.streams f).connect refl
    where
      here : (b : Bool) → (w.streams f).connect ≡ b → not (b && is_awaited (entry_at w.server d)) ≡ true
      here false be = refl
      here true be = rw (waits d be (its_connection k came on be ∙ de)) refl

  -- of an app without a dial they go nowhere, in any world that leaves its side as it is
  undrawn : (k : ℕ) → (w.apps k).came ≡ true → (w.apps k).stream ≡ f → (w.apps k).dial ≡ None
      → Follows (undrawn_tunnel (w.streams f).connect (w.apps k).number (phase_on k) (w.apps k).side (w.streams f)) (undrawn_tunnel (w.streams f).connect (w.apps k).number (phase_on k) (w.apps k).side (record (w.streams f) { up = rest }))
  undrawn k came on de = here (w.streams f).connect refl
    where
      order : in_ordered (stream_in_item (w.streams f).connect (w.apps k).number None) (w.streams f).up ≡ true
      order = rw (on, de) at ((keys.ordered k came).inward)

      here : (b : Bool) → (w.streams f).connect ≡ b
          → Follows (undrawn_tunnel (w.streams f).connect (w.apps k).number (phase_on k) (w.apps k).side (w.streams f)) (undrawn_tunnel (w.streams f).connect (w.apps k).number (phase_on k) (w.apps k).side (record (w.streams f) { up = rest }))
      here true be = bytes_in_undrawn (w.streams f).connect (w.apps k).number (phase_on k) (w.apps k).side (w.streams f) (Data c error bytes) rest bytes first (rw be refl) order present
      here false be = inl (rw (word_not (w.streams f).connect (w.apps k).number None (rw be refl)) refl)

  -- nothing is passed on
  abbrev dropped : World
  dropped = served (pos 0) (ignored w.server) (in_is f rest w)

  drops : ((k d : ℕ) → (w.apps k).came ≡ true → (w.apps k).dial ≡ Some d → (w.apps k).stream ≡ f → z ≡ pos d → is_carrying (entry_at w.server d) ≡ false) → Lifts w dropped
  drops idle k came = by_stream ((w.apps k).stream == f) refl
    where
      by_key : (d : ℕ) → (w.apps k).dial ≡ Some d → (w.apps k).stream ≡ f → (b : Bool) → is_number d z ≡ b → Follows (tunnel_of w (w.apps k) (Some d)) (tunnel_of dropped (w.apps k) (Some d))
      by_key d de on true key =
          let named : z ≡ pos d = (is_key (Some d) z key).2 ∙ ap pos (some_one (is_key (Some d) z key).0 d (sym (is_key (Some d) z key).1)) in
          rw (on, eqb_refl f) (bytes_in (w.streams f).connect (w.apps k).number (phase_on k) (w.apps k).side (w.streams f) d (entry_at w.server d) (w.dials d).cid (w.dials d).side (w.agents (w.dials d).link) (w.links (w.dials d).link)
          (Data c error bytes) rest bytes first (item_own k d came on de named) (rw (on, de) at ((keys.ordered k came).inward)) present (not_waiting k d came on de) (w.links (w.dials d).link).down (rw (idle k d came de on named) refl) refl)
      by_key d de on false key = inl (rw (on, eqb_refl f, word_not (w.streams f).connect (w.apps k).number (Some d) (item_other k d came on de key)) refl)

      by_dial : (D : Option ℕ) → (w.apps k).dial ≡ D → (w.apps k).stream ≡ f → Follows (tunnel_of w (w.apps k) D) (tunnel_of dropped (w.apps k) D)
      by_dial None de on = rw (on, eqb_refl f) (undrawn k came on de)
      by_dial (Some d) de on = by_key d de on (is_number d z) refl

      elsewhere : (D : Option ℕ) → ((w.apps k).stream == f) ≡ false → tunnel_of dropped (w.apps k) D ≡ tunnel_of w (w.apps k) D
      elsewhere None on = rw on refl
      elsewhere (Some d) on = rw on refl

      by_stream : (b : Bool) → ((w.apps k).stream == f) ≡ b → Follows (tunnel w k) (tunnel dropped k)
      by_stream true on = by_dial (w.apps k).dial refl (eqb-true (w.apps k).stream f on)
      by_stream false on = inl (elsewhere (w.apps k).dial on)

  -- the entry is open
  module _ (e : HeldEntry) (is : IsOwn w f z e) (opened : e.state ≡ Open) where
    abbrev passing : World
    passing = served (pos 0) (told w.server (data_to_link e.link e.connect_id (in_packets bytes))) (in_is f rest w)

    carries : is_carrying (entry_at w.server e.dial) ≡ true
    carries = rw (is.at, is.front, opened) refl

    -- what an agent is sent for another dial: nothing
    down_same : (d : ℕ) → (e.dial == d) ≡ false → (b : Bool) → ((w.dials d).link == e.link) ≡ b
        → down_word (w.dials d).cid (queued (not (w.agents (w.dials d).link).lost) (w.links (w.dials d).link).down (for_link (w.dials d).link (data_to_link e.link e.connect_id (in_packets bytes)))) ≡ down_word (w.dials d).cid (w.links (w.dials d).link).down
    down_same d other false on = rw (not_link (w.dials d).link e.link e.connect_id (in_packets bytes) on) refl
    down_same d other true on = rw (at_link (w.dials d).link e.link e.connect_id (in_packets bytes) on)
        (down_data_other (down_item (w.dials d).cid) e.connect_id (not (w.agents (w.dials d).link).lost) (w.links (w.dials d).link).down (in_packets bytes) (λ x. down_not (w.dials d).cid e.connect_id x (not_its d other (eqb-true (w.dials d).link e.link on))))
      where
        down_not : (cid : Option ℕ) (y : ℤ) (x : List ℕ) → is_drawn_number cid y ≡ false → down_item cid (Data y [] x) ≡ OtherDown
        down_not cid y x h = rw h refl

        not_its : (d : ℕ) → (e.dial == d) ≡ false → (w.dials d).link ≡ e.link → is_drawn_number (w.dials d).cid e.connect_id ≡ false
        not_its d other on = here (is_drawn_number (w.dials d).cid e.connect_id) refl
          where
            here : (b : Bool) → is_drawn_number (w.dials d).cid e.connect_id ≡ b → b ≡ false
            here false h = refl
            here true h =
                let fits = keys.server.held e.dial e is.at in let named = is_key (w.dials d).cid e.connect_id h in
                let same : e.dial ≡ d = keys.agents.cid_once e.dial d fits.cid (fits.link ∙ sym on) fits.drawn (named.1 ∙ ap Some (pos_one named.0 fits.cid (sym named.2 ∙ fits.named))) in
                absurd (cc (rw same at other, eqb_refl d))

    far_same : (d : ℕ) (cid : Option ℕ) (agent : AgentState) (there b : Bool) (ps : List Packet) (i : ℕ) → (i == e.link) ≡ b
        → far_of d cid agent (queued there ps (for_link i (data_to_link e.link e.connect_id (in_packets bytes)))) ≡ far_of d cid agent ps
    far_same d (Some x) agent there b ps i on = refl
    far_same d None agent there true ps i on = rw (at_link i e.link e.connect_id (in_packets bytes) on, data_asks_none e.connect_id d there ps (in_packets bytes)) refl
    far_same d None agent there false ps i on = rw (not_link i e.link e.connect_id (in_packets bytes) on) refl

    down_own : down_word (w.dials e.dial).cid (queued (not (w.agents (w.dials e.dial).link).lost) (w.links (w.dials e.dial).link).down (for_link (w.dials e.dial).link (data_to_link e.link e.connect_id (in_packets bytes))))
        ≡ record (down_word (w.dials e.dial).cid (w.links (w.dials e.dial).link).down) { bytes = appended (not (w.agents (w.dials e.dial).link).lost) (down_word (w.dials e.dial).cid (w.links (w.dials e.dial).link).down).bytes bytes }
    down_own =
        let fits = keys.server.held e.dial e is.at in
        let on : ((w.dials e.dial).link == e.link) ≡ true = rw (fits.link, eqb_refl e.link) refl in
        let key : is_drawn_number (w.dials e.dial).cid e.connect_id ≡ true = key_is (w.dials e.dial).cid e.connect_id fits.cid fits.drawn fits.named in
        rw (at_link (w.dials e.dial).link e.link e.connect_id (in_packets bytes) on)
        (down_data (down_item (w.dials e.dial).cid) e.connect_id (not (w.agents (w.dials e.dial).link).lost) (w.links (w.dials e.dial).link).down (in_packets bytes) (λ x. down_its (w.dials e.dial).cid e.connect_id x key)
        ∙ ap (λ x. record (down_word (w.dials e.dial).cid (w.links (w.dials e.dial).link).down) { bytes = appended (not (w.agents (w.dials e.dial).link).lost) (down_word (w.dials e.dial).cid (w.links (w.dials e.dial).link).down).bytes x }) (pieces_join bytes))
      where
        down_its : (cid : Option ℕ) (y : ℤ) (x : List ℕ) → is_drawn_number cid y ≡ true → down_item cid (Data y [] x) ≡ BytesDown x
        down_its cid y x h = rw h refl

    after_drawn : (k d : ℕ) → tunnel_of passing (passing.apps k) (Some d)
        ≡ drawn_tunnel (w.streams (w.apps k).stream).connect (w.apps k).number (phase_in w (w.apps k)) (w.apps k).side
        (record (w.streams (w.apps k).stream) { up = cond ((w.apps k).stream == f) rest (w.streams (w.apps k).stream).up })
        d (entry_at w.server d) (w.dials d).cid (w.dials d).side (w.agents (w.dials d).link)
        (record (w.links (w.dials d).link) { down = queued (not (w.agents (w.dials d).link).lost) (w.links (w.dials d).link).down (for_link (w.dials d).link (data_to_link e.link e.connect_id (in_packets bytes))) })
    after_drawn k d =
        let q = data_to_links e.link e.connect_id (in_packets bytes) in
        rw (q.new d (w.dials d), q.front (w.apps k).stream, q.cut (w.dials d).link) refl

    passes_on : Lifts w passing
    passes_on k came =
        rw ((data_to_links e.link e.connect_id (in_packets bytes)).made (w.apps k).stream (asks (w.streams (w.apps k).stream).connect (w.apps k).number (pos 0)) (w.apps k).dial) (by_stream ((w.apps k).stream == f) refl)
      where
        q : ToLinks (data_to_link e.link e.connect_id (in_packets bytes))
        q = data_to_links e.link e.connect_id (in_packets bytes)

        -- the dial of an app that is not on this stream is not the entry's
        elsewhere : (d : ℕ) → (w.apps k).dial ≡ Some d → ((w.apps k).stream == f) ≡ false → (e.dial == d) ≡ false
        elsewhere d de on = here (e.dial == d) refl
          where
            here : (b : Bool) → (e.dial == d) ≡ b → b ≡ false
            here false h = refl
            here true h =
                let same : e.dial ≡ d = eqb-true e.dial d h in
                let there : (w.apps k).stream ≡ f = (keys.server.held e.dial e is.at).front k f came (de ∙ ap Some (sym same)) is.front in absurd (cc (rw there at on, eqb_refl f))

        not_named : (d : ℕ) → (e.dial == d) ≡ false → is_number d z ≡ false
        not_named d other = rw is.named other

        by_key : (d : ℕ) → (w.apps k).dial ≡ Some d → (w.apps k).stream ≡ f → (b : Bool) → (e.dial == d) ≡ b → Follows (tunnel_of w (w.apps k) (Some d)) (tunnel_of passing (passing.apps k) (Some d))
        by_key d de on true key =
            let same : e.dial ≡ d = eqb-true e.dial d key in
            let named : z ≡ pos d = is.named ∙ ap pos same in
            rw (after_drawn k d, on, eqb_refl f) (bytes_in (w.streams f).connect (w.apps k).number (phase_on k) (w.apps k).side (w.streams f) d (entry_at w.server d) (w.dials d).cid (w.dials d).side (w.agents (w.dials d).link) (w.links (w.dials d).link)
            (Data c error bytes) rest bytes first (item_own k d came on de named) (rw (on, de) at ((keys.ordered k came).inward)) present (not_waiting k d came on de)
            (queued (not (w.agents (w.dials d).link).lost) (w.links (w.dials d).link).down (for_link (w.dials d).link (data_to_link e.link e.connect_id (in_packets bytes))))
            (rw (← same, carries) down_own) (far_same d (w.dials d).cid (w.agents (w.dials d).link) (not (w.agents (w.dials d).link).lost) ((w.dials d).link == e.link) (w.links (w.dials d).link).down (w.dials d).link refl))
        by_key d de on false other = inl (after_drawn k d ∙ rw (
          on,
          eqb_refl f,
          word_not (w.streams f).connect (w.apps k).number (Some d) (item_other k d came on de (not_named d other)),
          down_same d other ((w.dials d).link == e.link) refl,
          far_same d (w.dials d).cid (w.agents (w.dials d).link) (not (w.agents (w.dials d).link).lost) ((w.dials d).link == e.link) (w.links (w.dials d).link).down (w.dials d).link refl,
        ) refl)

        by_dial : (D : Option ℕ) → (w.apps k).dial ≡ D → (w.apps k).stream ≡ f → Follows (tunnel_of w (w.apps k) D) (tunnel_of passing (passing.apps k) D)
        by_dial None de on = rw (q.front (w.apps k).stream, on, eqb_refl f) (undrawn k came on de)
        by_dial (Some d) de on = by_key d de on (e.dial == d) refl

        off : (D : Option ℕ) → (w.apps k).dial ≡ D → ((w.apps k).stream == f) ≡ false → tunnel_of passing (passing.apps k) D ≡ tunnel_of w (w.apps k) D
        off None de on = rw (q.front (w.apps k).stream, on) refl
        off (Some d) de on =
            let other = elsewhere d de on in
            after_drawn k d ∙ rw (on, down_same d other ((w.dials d).link == e.link) refl, far_same d (w.dials d).cid (w.agents (w.dials d).link) (not (w.agents (w.dials d).link).lost) ((w.dials d).link == e.link) (w.links (w.dials d).link).down (w.dials d).link refl) refl

        by_stream : (b : Bool) → ((w.apps k).stream == f) ≡ b → Follows (tunnel w k) (tunnel_of passing (passing.apps k) (w.apps k).dial)
        by_stream true on = by_dial (w.apps k).dial refl (eqb-true (w.apps k).stream f on)
        by_stream false on = inl (off (w.apps k).dial refl on)

  shut : (e : HeldEntry) → IsOwn w f z e → e.state ≡ Closing → (k d : ℕ) → (w.apps k).came ≡ true → (w.apps k).dial ≡ Some d → (w.apps k).stream ≡ f → z ≡ pos d → is_carrying (entry_at w.server d) ≡ false
  shut e is closing k d came de on named = rw (pos_one d e.dial (sym named ∙ is.named), is.at, closing, is.front) refl

  pub in_data_lifts : (o : Option HeldEntry) → own f (held_at z w.server.held) ≡ o → Lifts w (served (pos 0) (data_up w.server bytes o) (in_is f rest w))
  in_data_lifts None at = drops (λ k d came de on named. idle k d came de on named (first_where (is_held_dial d) w.server.held) refl)
    where
      no_entry : (a : Option AwaitedEntry) → is_carrying (entry_of a None) ≡ false
      no_entry None = refl
      no_entry (Some a) = refl

      idle : (k d : ℕ) → (w.apps k).came ≡ true → (w.apps k).dial ≡ Some d → (w.apps k).stream ≡ f → z ≡ pos d → (h : Option HeldEntry) → first_where (is_held_dial d) w.server.held ≡ h → is_carrying (entry_at w.server d) ≡ false
      idle k d came de on named None he = rw he (no_entry (first_where (is_dial d) w.server.awaited))
      idle k d came de on named (Some e) he = rw (he, none_own w keys f z k d at came de on named e he) refl
  in_data_lifts (Some e) at = here e.state refl
    where
      here : (state : HeldState) → e.state ≡ state → Lifts w (served (pos 0) (open_up w.server bytes state e) (in_is f rest w))
      here Open es = passes_on e (found_own w f z e at) es
      here Closing es = drops (shut e (found_own w f z e at) es)
