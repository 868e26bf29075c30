-- The server loses a front: its awaited dials are forgotten, and the agents of its open tunnels are asked to close them.
use Rattle.std.proofs.Common.{◌≡◌, ◌==◌, ◌++◌, ℕ, pos, Bool, true, false, not, cond, List, [], ◌∷◌, filter, map, Option, Some, None, inl, inr, refl, sym, ap, ◌∙◌, eqb-true, subst}
use Rattle.kn_packet.specs.declared.packet.Packet.{Packet}
use Rattle.kn_packet.specs.declared.packet.Packet.TheVariants.{CloseReq}
use Rattle.kn_tables.specs.Lists.{first_where}
use Rattle.kn_tables.specs.Awaiting.{is_dial, is_of_front}
use Rattle.kn_tables.specs.Holding.{has_front, is_held_by, is_held_dial}
use Rattle.kn_tables.specs.declared.awaited_entry.AwaitedEntry.{AwaitedEntry}
use Rattle.kn_tables.specs.declared.held_entry.HeldEntry.{HeldEntry}
use Rattle.kn_tables.specs.declared.held_entry.HeldState.{HeldState}
use Rattle.kn_tables.specs.declared.held_entry.HeldState.TheVariants.{Closing, Open}
use Rattle.kn_server_core.specs.Isolation.{Each}
use Rattle.kn_server_core.specs.Server.{all_asked, asked_at_loss, front_left, front_lost}
use Rattle.kn_server_core.proofs.EntryLemmas.{each_kept, each_more}
use Rattle.kn_server_core.proofs.OrderLemmas.{rising_filter}
use Rattle.kn_server_core.proofs.SoundLemmas.{none_mapped}
use Rattle.kn_server_core.proofs.TunnelTables.{false_unless, left_dial, left_other}
use Rattle.kn_edge_core.specs.declared.agent_state.AgentState.{AgentState}
use Rattle.kn_tunnel.specs.Cuts.{IsCutOut}
use Rattle.kn_tunnel.specs.Events as event
use Rattle.kn_tunnel.specs.Kinds.{is_gone}
use Rattle.kn_tunnel.specs.Steps as step
use Rattle.kn_tunnel.specs.Steps.{Follows}
use Rattle.kn_tunnel.specs.Tunnel.{Gone}
use Rattle.kn_words.specs.Down.{OtherDown, down_item, has_request}
use Rattle.kn_words.specs.Numbers.{is_drawn_number}
use Rattle.kn_words.specs.Out.{out_ordered, stream_out_item, stream_out_word}
use Rattle.kn_words.proofs.OutOrder.{out_prefix_cut}
use Rattle.kn_packets.specs.Keys.{Keys}
use Rattle.kn_packets.specs.Lifts.{Lifts}
use Rattle.kn_packets.specs.Moves.{IsFrontOf, front_is, in_is, out_is, served}
use Rattle.kn_packets.specs.Outputs.{asks, for_link, more_if, queued}
use Rattle.kn_packets.specs.World.{World, far_of, tunnel_of}
use Rattle.kn_packets.proofs.DataParts.{ToLinks}
use Rattle.kn_packets.proofs.Fresh.{eqb_refl}
use Rattle.kn_packets.proofs.Owners.{is_key, key_is, pos_one}
use Rattle.kn_packets.proofs.Queues.{down_closed, request_other}
use Rattle.kn_packets.proofs.Tables.{mapped_found}
use Rattle.kn_packets.proofs.TakesReply.{close_down, not_down}
use Rattle.kn_packets.proofs.Told.{IsOne, each_its, kept_where, none_where, one_down, one_of, quiet_down}

-- what a lost front makes the server send goes to links
links_asked : (es : List HeldEntry) → ToLinks (all_asked es)
links_asked [] = record { front = λ f. refl; cut = λ l. refl; made = λ i own D. refl; new = λ d x. refl }
links_asked (e ∷ es) = here e.state (links_asked es)
  where
    here : (s : HeldState) → ToLinks (all_asked es) → ToLinks (asked_at_loss s e ++ all_asked es)
    here Closing more = more
    here Open more = record { front = more.front; cut = more.cut; made = more.made; new = more.new }

pub front_is_some : (o : Option ℕ) (f : ℕ) → has_front o f ≡ true → o ≡ Some f
front_is_some None f e = absurd cc
front_is_some (Some g) f e = ap Some (eqb-true g f e)

module _ (w : World) (f : ℕ) (left : List Packet) (keys : Keys w) (front_of : IsFrontOf left (w.streams f).down) where
  abbrev cut_off : World
  cut_off = front_is f Gone (in_is f [] (out_is f left w))

  abbrev lost : World
  lost = served (pos 0) (front_lost w.server f) cut_off

  abbrev pub its_held : List HeldEntry
  its_held = filter (is_held_by f) w.server.held

  all_held : Each (λ (e : HeldEntry). first_where (is_held_dial e.dial) w.server.held ≡ Some e) w.server.held
  all_held = each_its (λ (e : HeldEntry). e.dial) w.server.held keys.server.orderly.held_rise

  all_awaited : Each (λ (e : AwaitedEntry). first_where (is_dial e.dial) w.server.awaited ≡ Some e) w.server.awaited
  all_awaited = each_its (λ (e : AwaitedEntry). e.dial) w.server.awaited keys.server.orderly.awaited_rise

  pub held_its : Each (λ (e : HeldEntry). (is_held_by f e ≡ true) × (first_where (is_held_dial e.dial) w.server.held ≡ Some e)) its_held
  held_its = each_kept (λ (e : HeldEntry). first_where (is_held_dial e.dial) w.server.held ≡ Some e) (is_held_by f) w.server.held all_held

  pub to_links : ToLinks (all_asked its_held)
  to_links = links_asked its_held

  some_is : (d : ℕ) (x e : HeldEntry) → first_where (is_held_dial d) w.server.held ≡ Some x → first_where (is_held_dial d) w.server.held ≡ Some e → x ≡ e
  some_is d x e g h = let m : Some x ≡ Some e = sym g ∙ h in cc

  -- ---- what an agent is told of a dial
  module _ (d : ℕ) where
    abbrev pub NotIts : Packet → Type 0
    NotIts p = down_item (w.dials d).cid p ≡ OtherDown

    close_quiet : (e : HeldEntry) → first_where (is_held_dial e.dial) w.server.held ≡ Some e → (e.dial == d) ≡ false → ((w.dials d).link == e.link) ≡ true → NotIts (CloseReq e.connect_id)
    close_quiet e at other on = not_down (w.dials d).cid e.connect_id (here (is_drawn_number (w.dials d).cid e.connect_id) refl)
      where
        here : (b : Bool) → is_drawn_number (w.dials d).cid e.connect_id ≡ b → b ≡ false
        here false h = refl
        here true h =
            let fits = keys.server.held e.dial e at in let named = is_key (w.dials d).cid e.connect_id h in
            let same : e.dial ≡ d = keys.agents.cid_once e.dial d fits.cid (fits.link ∙ sym (eqb-true (w.dials d).link e.link on)) fits.drawn (named.1 ∙ ap Some (pos_one named.0 fits.cid (sym named.2 ∙ fits.named))) in
            absurd (cc (rw same at other, eqb_refl d))

    abbrev Its : HeldEntry → Type 0
    Its e = (is_held_by f e ≡ true) × (first_where (is_held_dial e.dial) w.server.held ≡ Some e)

    quiet_asked : (rest : List HeldEntry) → Each Its rest → Each (λ (e : HeldEntry). e.state ≡ Open → (e.dial == d) ≡ false) rest → Each NotIts (for_link (w.dials d).link (all_asked rest))
    quiet_asked [] its others = tt
    quiet_asked (e ∷ rest) its others = by_state e.state refl (quiet_asked rest its.1 others.1)
      where
        by_link : (b : Bool) → ((w.dials d).link == e.link) ≡ b → e.state ≡ Open → Each NotIts (for_link (w.dials d).link (all_asked rest)) → Each NotIts (more_if b (CloseReq e.connect_id) (for_link (w.dials d).link (all_asked rest)))
        by_link true on opened more = (close_quiet e its.0.1 (others.0 opened) on, more)
        by_link false on opened more = more

        by_state : (s : HeldState) → e.state ≡ s → Each NotIts (for_link (w.dials d).link (all_asked rest)) → Each NotIts (for_link (w.dials d).link (asked_at_loss s e ++ all_asked rest))
        by_state Closing es more = more
        by_state Open es more = by_link ((w.dials d).link == e.link) refl es more

    pub one_asked : (own : HeldEntry) → own.state ≡ Open → (w.dials d).link ≡ own.link → (rest : List HeldEntry) → Each Its rest → IsOne (λ (e : HeldEntry). (e.dial == d) ≡ false) own rest
        → IsOne NotIts (CloseReq own.connect_id) (for_link (w.dials d).link (all_asked rest))
    one_asked own opened on [] its one = absurd one
    one_asked own opened on (e ∷ rest) its (inl one) = rw (one.0, opened, on, eqb_refl own.link) (inl (refl, quiet_asked rest its.1 (others rest one.1)))
      where
        others : (xs : List HeldEntry) → Each (λ (x : HeldEntry). (x.dial == d) ≡ false) xs → Each (λ (x : HeldEntry). x.state ≡ Open → (x.dial == d) ≡ false) xs
        others [] h = tt
        others (x ∷ xs) h = (λ o. h.0, others xs h.1)
    one_asked own opened on (e ∷ rest) its (inr one) = by_state e.state (one_asked own opened on rest its.1 one.1)
      where
        by_link : (b : Bool) → ((w.dials d).link == e.link) ≡ b → IsOne NotIts (CloseReq own.connect_id) (for_link (w.dials d).link (all_asked rest)) → IsOne NotIts (CloseReq own.connect_id) (more_if b (CloseReq e.connect_id) (for_link (w.dials d).link (all_asked rest)))
        by_link true t more = inr (close_quiet e its.0.1 one.0 t, more)
        by_link false t more = more

        by_state : (s : HeldState) → IsOne NotIts (CloseReq own.connect_id) (for_link (w.dials d).link (all_asked rest)) → IsOne NotIts (CloseReq own.connect_id) (for_link (w.dials d).link (asked_at_loss s e ++ all_asked rest))
        by_state Closing more = more
        by_state Open more = by_link ((w.dials d).link == e.link) refl more

  -- a close asks for no dial
  no_request : (d i : ℕ) (rest : List HeldEntry) (there : Bool) (ps : List Packet) → has_request d (queued there ps (for_link i (all_asked rest))) ≡ has_request d ps
  no_request d i [] there ps = refl
  no_request d i (e ∷ rest) there ps = by_state e.state (λ qs. no_request d i rest there qs)
    where
      by_link : (b : Bool) → ((qs : List Packet) → has_request d (queued there qs (for_link i (all_asked rest))) ≡ has_request d qs) → has_request d (queued there ps (more_if b (CloseReq e.connect_id) (for_link i (all_asked rest)))) ≡ has_request d ps
      by_link false more = more ps
      by_link true more = more (cond there (ps ++ CloseReq e.connect_id ∷ []) ps) ∙ request_other d there ps (CloseReq e.connect_id) refl

      by_state : (s : HeldState) → ((qs : List Packet) → has_request d (queued there qs (for_link i (all_asked rest))) ≡ has_request d qs) → has_request d (queued there ps (for_link i (asked_at_loss s e ++ all_asked rest))) ≡ has_request d ps
      by_state Closing more = more ps
      by_state Open more = by_link (i == e.link) more

  far_same : (d : ℕ) (cid : Option ℕ) (agent : AgentState) (i : ℕ) (there : Bool) (ps : List Packet) → far_of d cid agent (queued there ps (for_link i (all_asked its_held))) ≡ far_of d cid agent ps
  far_same d (Some c) agent i there ps = refl
  far_same d None agent i there ps = rw (no_request d i its_held there ps) refl

  -- ---- the entries of a dial
  pub awaited_stays : (d : ℕ) → ((e : AwaitedEntry) → first_where (is_dial d) w.server.awaited ≡ Some e → (e.front == f) ≡ false) → first_where (is_dial d) (filter (λ e. not (is_of_front f e)) w.server.awaited) ≡ first_where (is_dial d) w.server.awaited
  awaited_stays d off = kept_where (is_dial d) (λ e. not (is_of_front f e)) w.server.awaited
      (each_more (λ (e : AwaitedEntry). first_where (is_dial e.dial) w.server.awaited ≡ Some e) (λ (e : AwaitedEntry). is_dial d e ≡ true → not (is_of_front f e) ≡ true) w.server.awaited
      (λ e its h. rw (off e (ap (λ i. first_where (is_dial i) w.server.awaited) (sym (eqb-true e.dial d h)) ∙ its)) refl) all_awaited)

  pub awaited_gone : (d : ℕ) → ((e : AwaitedEntry) → first_where (is_dial d) w.server.awaited ≡ Some e → e.front ≡ f) → first_where (is_dial d) (filter (λ e. not (is_of_front f e)) w.server.awaited) ≡ None
  awaited_gone d on = none_where (is_dial d) (filter (λ e. not (is_of_front f e)) w.server.awaited)
      (each_more (λ (e : AwaitedEntry). (not (is_of_front f e) ≡ true) × (first_where (is_dial e.dial) w.server.awaited ≡ Some e)) (λ (e : AwaitedEntry). is_dial d e ≡ false) (filter (λ e. not (is_of_front f e)) w.server.awaited)
      (λ e its. false_unless (e.dial == d) (λ h. let at : e.front ≡ f = on e (ap (λ i. first_where (is_dial i) w.server.awaited) (sym (eqb-true e.dial d h)) ∙ its.1) in cc (rw (at, eqb_refl f) at its.0)))
      (each_kept (λ (e : AwaitedEntry). first_where (is_dial e.dial) w.server.awaited ≡ Some e) (λ e. not (is_of_front f e)) w.server.awaited all_awaited))

  pub own_held : (d : ℕ) (e : HeldEntry) → first_where (is_held_dial d) w.server.held ≡ Some e → e.front ≡ Some f → IsOne (λ (x : HeldEntry). (x.dial == d) ≡ false) e its_held
  own_held d e at front = one_of (λ (x : HeldEntry). x.dial) d e its_held (rising_filter (λ (x : HeldEntry). x.dial) (is_held_by f) w.server.held keys.server.orderly.held_rise)
      (kept_where (is_held_dial d) (is_held_by f) w.server.held
      (each_more (λ (x : HeldEntry). first_where (is_held_dial x.dial) w.server.held ≡ Some x) (λ (x : HeldEntry). is_held_dial d x ≡ true → is_held_by f x ≡ true) w.server.held
      (λ x its h. let same : x ≡ e = some_is d x e (ap (λ i. first_where (is_held_dial i) w.server.held) (sym (eqb-true x.dial d h)) ∙ its) at in rw (ap (λ (y : HeldEntry). y.front) same ∙ front, eqb_refl f) refl) all_held) ∙ at)

  -- no entry of this dial is open with this front
  pub quiet_if : (d : ℕ) → ((e : HeldEntry) → first_where (is_held_dial d) w.server.held ≡ Some e → e.front ≡ Some f → e.state ≡ Open → ⊥) → Each (λ p. down_item (w.dials d).cid p ≡ OtherDown) (for_link (w.dials d).link (all_asked its_held))
  quiet_if d none = quiet_asked d its_held held_its
      (each_more (λ (e : HeldEntry). (is_held_by f e ≡ true) × (first_where (is_held_dial e.dial) w.server.held ≡ Some e)) (λ (e : HeldEntry). e.state ≡ Open → (e.dial == d) ≡ false) its_held
      (λ e its opened. false_unless (e.dial == d) (λ h. none e (ap (λ i. first_where (is_held_dial i) w.server.held) (sym (eqb-true e.dial d h)) ∙ its.1) (front_is_some e.front f its.0) opened)) held_its)

  -- ---- the tunnel of an app
  module _ (k : ℕ) (came : (w.apps k).came ≡ true) where
    -- on another stream
    elsewhere : (d : ℕ) → (w.apps k).dial ≡ Some d → ((w.apps k).stream == f) ≡ false → tunnel_of lost (lost.apps k) (Some d) ≡ tunnel_of w (w.apps k) (Some d)
    elsewhere d de off =
        rw (
          to_links.new d (w.dials d),
          to_links.front (w.apps k).stream,
          to_links.cut (w.dials d).link,
          off,
          awaited_stays d (λ e at. rw (sym ((keys.server.awaited d e at).front k came de)) off),
          held_same (first_where (is_held_dial d) w.server.held) refl,
          quiet_down (down_item (w.dials d).cid) (not (w.agents (w.dials d).link).lost) (w.links (w.dials d).link).down (for_link (w.dials d).link (all_asked its_held)) (quiet_if d (λ e at front opened. not_front e at front)),
          far_same d (w.dials d).cid (w.agents (w.dials d).link) (w.dials d).link (not (w.agents (w.dials d).link).lost) (w.links (w.dials d).link).down,
        ) refl
      where
        not_front : (e : HeldEntry) → first_where (is_held_dial d) w.server.held ≡ Some e → e.front ≡ Some f → ⊥
        not_front e at front = let on : (w.apps k).stream ≡ f = (keys.server.held d e at).front k f came de front in cc (rw (on, eqb_refl f) at off)

        held_same : (o : Option HeldEntry) → first_where (is_held_dial d) w.server.held ≡ o → first_where (is_held_dial d) (map (front_left f) w.server.held) ≡ o
        held_same None h = none_mapped (front_left f) d (λ y. left_dial f y) w.server.held h
        held_same (Some e) h = mapped_found (front_left f) d e w.server.held (λ y. left_dial f y) h ∙ ap Some (left_other f e (false_unless (is_held_by f e) (λ t. not_front e h (front_is_some e.front f t))))

    -- on this one
    module _ (there : not (is_gone (w.streams f).front) ≡ true) (on : (w.apps k).stream ≡ f) where
      cut : (D : Option ℕ) → (w.apps k).dial ≡ D → IsCutOut (stream_out_word (w.streams f).connect (w.apps k).number D left) (stream_out_word (w.streams f).connect (w.apps k).number D (w.streams f).down)
      cut D de = subst (λ ps. out_ordered (stream_out_item (w.streams f).connect (w.apps k).number D) ps ≡ true → IsCutOut (stream_out_word (w.streams f).connect (w.apps k).number D left) (stream_out_word (w.streams f).connect (w.apps k).number D ps))
          front_of.1 (out_prefix_cut (stream_out_item (w.streams f).connect (w.apps k).number D) left front_of.0) (rw (on, de) at ((keys.ordered k came).outward))

      undrawn : (w.apps k).dial ≡ None → Follows (tunnel_of w (w.apps k) None) (tunnel_of lost (lost.apps k) None)
      undrawn de = inr (event.FrontLost (stream_out_word (w.streams f).connect (w.apps k).number None left), (rw on there, rw on (cut None de)), rw (to_links.front (w.apps k).stream, on, eqb_refl f) refl)

      module _ (d : ℕ) (de : (w.apps k).dial ≡ Some d) where
        abbrev goal : Type 0
        goal = tunnel_of lost (lost.apps k) (Some d) ≡ step.after (event.FrontLost (stream_out_word (w.streams f).connect (w.apps k).number (Some d) left)) (tunnel_of w (w.apps k) (Some d))

        forgotten : first_where (is_dial d) (filter (λ e. not (is_of_front f e)) w.server.awaited) ≡ None
        forgotten = awaited_gone d (λ e at. sym ((keys.server.awaited d e at).front k came de) ∙ on)

        no_entry : (a : Option AwaitedEntry) → first_where (is_dial d) w.server.awaited ≡ a → first_where (is_held_dial d) w.server.held ≡ None → goal
        no_entry None ae he = rw (
          to_links.new d (w.dials d),
          to_links.front (w.apps k).stream,
          to_links.cut (w.dials d).link,
          on,
          eqb_refl f,
          forgotten,
          none_mapped (front_left f) d (λ y. left_dial f y) w.server.held he,
          ae,
          he,
          quiet_down (down_item (w.dials d).cid) (not (w.agents (w.dials d).link).lost) (w.links (w.dials d).link).down (for_link (w.dials d).link (all_asked its_held)) (quiet_if d (λ e at front opened. cc (at, he))),
          far_same d (w.dials d).cid (w.agents (w.dials d).link) (w.dials d).link (not (w.agents (w.dials d).link).lost) (w.links (w.dials d).link).down,
        ) refl
        no_entry (Some e) ae he = rw (
          to_links.new d (w.dials d),
          to_links.front (w.apps k).stream,
          to_links.cut (w.dials d).link,
          on,
          eqb_refl f,
          forgotten,
          none_mapped (front_left f) d (λ y. left_dial f y) w.server.held he,
          ae,
          he,
          quiet_down (down_item (w.dials d).cid) (not (w.agents (w.dials d).link).lost) (w.links (w.dials d).link).down (for_link (w.dials d).link (all_asked its_held)) (quiet_if d (λ e at front opened. cc (at, he))),
          far_same d (w.dials d).cid (w.agents (w.dials d).link) (w.dials d).link (not (w.agents (w.dials d).link).lost) (w.links (w.dials d).link).down,
        ) refl

        held_now : (e : HeldEntry) → first_where (is_held_dial d) w.server.held ≡ Some e → first_where (is_held_dial d) (map (front_left f) w.server.held) ≡ Some (front_left f e)
        held_now e he = mapped_found (front_left f) d e w.server.held (λ y. left_dial f y) he

        frontless : (e : HeldEntry) → first_where (is_held_dial d) w.server.held ≡ Some e → e.front ≡ None → goal
        frontless e he ef = rw (
          to_links.new d (w.dials d),
          to_links.front (w.apps k).stream,
          to_links.cut (w.dials d).link,
          on,
          eqb_refl f,
          forgotten,
          held_now e he ∙ ap Some (left_other f e (rw ef refl)),
          he,
          ef,
          quiet_down (down_item (w.dials d).cid) (not (w.agents (w.dials d).link).lost) (w.links (w.dials d).link).down (for_link (w.dials d).link (all_asked its_held))
              (quiet_if d (λ x at front opened. let same : x ≡ e = some_is d x e at he in cc (ap (λ (y : HeldEntry). y.front) same, front, ef))),
          far_same d (w.dials d).cid (w.agents (w.dials d).link) (w.dials d).link (not (w.agents (w.dials d).link).lost) (w.links (w.dials d).link).down,
        ) refl

        asked : (e : HeldEntry) (state : HeldState) → first_where (is_held_dial d) w.server.held ≡ Some e → e.front ≡ Some f → e.state ≡ state → goal
        asked e Closing he ef es = rw (
          to_links.new d (w.dials d),
          to_links.front (w.apps k).stream,
          to_links.cut (w.dials d).link,
          on,
          eqb_refl f,
          forgotten,
          held_now e he,
          he,
          es,
          ef,
          eqb_refl f,
          quiet_down (down_item (w.dials d).cid) (not (w.agents (w.dials d).link).lost) (w.links (w.dials d).link).down (for_link (w.dials d).link (all_asked its_held))
              (quiet_if d (λ x at front opened. let same : x ≡ e = some_is d x e at he in cc (ap (λ (y : HeldEntry). y.state) same, opened, es))),
          far_same d (w.dials d).cid (w.agents (w.dials d).link) (w.dials d).link (not (w.agents (w.dials d).link).lost) (w.links (w.dials d).link).down,
        ) refl
        asked e Open he ef es =
            let fits = keys.server.held d e he in
            let one = one_asked d e es fits.link its_held held_its (own_held d e he ef) in
            rw (
              to_links.new d (w.dials d),
              to_links.front (w.apps k).stream,
              to_links.cut (w.dials d).link,
              on,
              eqb_refl f,
              forgotten,
              held_now e he,
              he,
              es,
              ef,
              eqb_refl f,
              one_down (down_item (w.dials d).cid) (not (w.agents (w.dials d).link).lost) (w.links (w.dials d).link).down (for_link (w.dials d).link (all_asked its_held)) (CloseReq e.connect_id) one,
              down_closed (down_item (w.dials d).cid) (not (w.agents (w.dials d).link).lost) (w.links (w.dials d).link).down (CloseReq e.connect_id) (close_down (w.dials d).cid e.connect_id (key_is (w.dials d).cid e.connect_id fits.cid fits.drawn fits.named)),
              far_same d (w.dials d).cid (w.agents (w.dials d).link) (w.dials d).link (not (w.agents (w.dials d).link).lost) (w.links (w.dials d).link).down,
            ) refl

        own : (h : Option HeldEntry) → first_where (is_held_dial d) w.server.held ≡ h → goal
        own None he = no_entry (first_where (is_dial d) w.server.awaited) refl he
        own (Some e) he = by_front e.front refl
          where
            by_front : (o : Option ℕ) → e.front ≡ o → goal
            by_front None ef = frontless e he ef
            by_front (Some g) ef = asked e e.state he (ef ∙ ap Some (sym ((keys.server.held d e he).front k g came de ef) ∙ on)) refl

        drawn : Follows (tunnel_of w (w.apps k) (Some d)) (tunnel_of lost (lost.apps k) (Some d))
        drawn = inr (event.FrontLost (stream_out_word (w.streams f).connect (w.apps k).number (Some d) left), (rw on there, rw on (cut (Some d) de)), own (first_where (is_held_dial d) w.server.held) refl)

  pub lost_lifts : not (is_gone (w.streams f).front) ≡ true → Lifts w lost
  lost_lifts there k came = rw (to_links.made (w.apps k).stream (asks (w.streams (w.apps k).stream).connect (w.apps k).number (pos 0)) (w.apps k).dial) (by_stream ((w.apps k).stream == f) refl (w.apps k).dial refl)
    where
      by_stream : (b : Bool) → ((w.apps k).stream == f) ≡ b → (D : Option ℕ) → (w.apps k).dial ≡ D → Follows (tunnel_of w (w.apps k) D) (tunnel_of lost (lost.apps k) D)
      by_stream true on None de = undrawn k came there (eqb-true (w.apps k).stream f on) de
      by_stream true on (Some d) de = drawn k came there (eqb-true (w.apps k).stream f on) d de
      by_stream false off None de = inl (rw (to_links.front (w.apps k).stream, off) refl)
      by_stream false off (Some d) de = inl (elsewhere k came d de off)
