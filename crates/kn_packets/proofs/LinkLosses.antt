-- The server loses a link: its awaited dials are refused, its tunnels end, and each front is told of its own.
use Rattle.std.proofs.Common.{◌≡◌, ◌==◌, ◌&&◌, ◌++◌, ℕ, pos, Bool, true, false, not, cond, List, [], ◌∷◌, filter, Option, Some, None, inl, inr, refl, sym, ap, ◌∙◌, eqb-true, subst}
use Rattle.std.specs.Prelude.{codes}
use Rattle.std.specs.Ordering.{int_cmp, is_lt}
use Rattle.kn_packet.specs.declared.packet.Packet.{Packet}
use Rattle.kn_packet.specs.declared.packet.Packet.TheVariants.{CloseRsp, DialRsp}
use Rattle.kn_tables.specs.Lists.{first_where}
use Rattle.kn_tables.specs.Awaiting.{is_dial, is_of_link}
use Rattle.kn_tables.specs.Holding.{by_connect_id, in_order, is_held_dial, is_held_on}
use Rattle.kn_tables.specs.declared.awaited_entry.AwaitedEntry.{AwaitedEntry}
use Rattle.kn_tables.specs.declared.held_entry.HeldEntry.{HeldEntry}
use Rattle.kn_tables.specs.declared.held_entry.HeldState.{HeldState}
use Rattle.kn_tables.specs.declared.held_entry.HeldState.TheVariants.{Closing, Open}
use Rattle.kn_server_core.specs.declared.event.ServerOut.{ServerOut}
use Rattle.kn_server_core.specs.Isolation.{Each}
use Rattle.kn_server_core.specs.Server.{all_awaited_lost, all_held_lost, ended_to, link_lost}
use Rattle.kn_server_core.proofs.EntryLemmas.{each_kept, each_more}
use Rattle.kn_server_core.proofs.OrderLemmas.{rising_filter}
use Rattle.kn_server_core.proofs.SoundLemmas.{passes}
use Rattle.kn_server_core.proofs.TunnelTables.{false_unless}
use Rattle.kn_edge_core.specs.declared.agent_state.AgentState.{AgentState}
use Rattle.kn_edge_core.specs.declared.connection.Connection.{Connection}
use Rattle.kn_edge_core.specs.declared.connection.DestState.{DestState}
use Rattle.kn_edge_core.specs.declared.connection.DestState.TheVariants as dest
use Rattle.kn_edge_core.specs.declared.dial.Dial.{Dial}
use Rattle.kn_edge_core.specs.AgentTables.{connection_at}
use Rattle.kn_tunnel.specs.Cuts.{IsCutDown}
use Rattle.kn_tunnel.specs.Events as event
use Rattle.kn_tunnel.specs.Kinds.{is_asked, is_gone}
use Rattle.kn_tunnel.specs.Steps as step
use Rattle.kn_tunnel.specs.Steps.{Follows}
use Rattle.kn_tunnel.specs.Tunnel.{Gone, Left, NoEntry}
use Rattle.kn_words.specs.Down.{down_item, down_ordered, down_word, has_request}
use Rattle.kn_words.specs.Numbers.{is_drawn_number}
use Rattle.kn_words.specs.Out.{CloseOut, stream_out_item}
use Rattle.kn_words.proofs.DownOrder.{down_prefix_cut}
use Rattle.kn_words.proofs.Requests.{request_cut}
use Rattle.kn_packets.specs.Keys.{Keys}
use Rattle.kn_packets.specs.Lifts.{Lifts}
use Rattle.kn_packets.specs.Moves.{IsFrontOf, down_is, link_is, served, up_is}
use Rattle.kn_packets.specs.Outputs.{asks, for_front, more_if}
use Rattle.kn_packets.specs.World.{World, connection_far, dest_far, dial_far, entry_of, far_of, has_random, held_entry, tunnel_of}
use Rattle.kn_packets.proofs.DataParts.{ToFronts}
use Rattle.kn_packets.proofs.Fresh.{eqb_refl}
use Rattle.kn_packets.proofs.Owners.{a_client, cond_same}
use Rattle.kn_packets.proofs.Queues.{out_closed, out_refused}
use Rattle.kn_packets.proofs.Replies.{not_asked}
use Rattle.kn_packets.proofs.TakesClose.{ended_item, ended_other}
use Rattle.kn_packets.proofs.TakesRequest.{not_connect, phase_refused, refusal_not, refusal_own}
use Rattle.kn_packets.proofs.Told.{IsOne, NotFor, each_its, kept_where, none_where, one_answer, one_finish, one_of, one_word, quiet_answer, quiet_finish, quiet_word}

-- ---- entries by rising connectID
each_placed : (P : HeldEntry → Type 0) (e : HeldEntry) (xs : List HeldEntry) → P e → Each P xs → Each P (in_order e xs)
each_placed P e [] h i = (h, tt)
each_placed P e (x ∷ xs) h i = here (is_lt (int_cmp x.connect_id e.connect_id)) (each_placed P e xs h i.1)
  where
    here : (b : Bool) → Each P (in_order e xs) → Each P (cond b (x ∷ in_order e xs) (e ∷ x ∷ xs))
    here true later = (i.0, later)
    here false later = (h, i)

pub each_sorted : (P : HeldEntry → Type 0) (xs : List HeldEntry) → Each P xs → Each P (by_connect_id xs)
each_sorted P [] h = tt
each_sorted P (x ∷ xs) h = each_placed P x (by_connect_id xs) h.0 (each_sorted P xs h.1)

own_placed : (P : HeldEntry → Type 0) (e x : HeldEntry) (xs : List HeldEntry) → x ≡ e → Each P xs → IsOne P e (in_order x xs)
own_placed P e x [] h i = inl (h, tt)
own_placed P e x (y ∷ ys) h i = here (is_lt (int_cmp y.connect_id x.connect_id)) (own_placed P e x ys h i.1)
  where
    here : (b : Bool) → IsOne P e (in_order x ys) → IsOne P e (cond b (y ∷ in_order x ys) (x ∷ y ∷ ys))
    here true later = inr (i.0, later)
    here false later = inl (h, i)

other_placed : (P : HeldEntry → Type 0) (e x : HeldEntry) (xs : List HeldEntry) → P x → IsOne P e xs → IsOne P e (in_order x xs)
other_placed P e x [] h i = absurd i
other_placed P e x (y ∷ ys) h (inl i) = here (is_lt (int_cmp y.connect_id x.connect_id))
  where
    here : (b : Bool) → IsOne P e (cond b (y ∷ in_order x ys) (x ∷ y ∷ ys))
    here true = inl (i.0, each_placed P x ys h i.1)
    here false = inr (h, inl i)
other_placed P e x (y ∷ ys) h (inr i) = here (is_lt (int_cmp y.connect_id x.connect_id)) (other_placed P e x ys h i.1)
  where
    here : (b : Bool) → IsOne P e (in_order x ys) → IsOne P e (cond b (y ∷ in_order x ys) (x ∷ y ∷ ys))
    here true later = inr (i.0, later)
    here false later = inr (h, inr i)

pub one_sorted : (P : HeldEntry → Type 0) (e : HeldEntry) (xs : List HeldEntry) → IsOne P e xs → IsOne P e (by_connect_id xs)
one_sorted P e [] h = absurd h
one_sorted P e (x ∷ xs) (inl h) = own_placed P e x (by_connect_id xs) h.0 (each_sorted P xs h.1)
one_sorted P e (x ∷ xs) (inr h) = other_placed P e x (by_connect_id xs) h.0 (one_sorted P e xs h.1)

-- ---- what a lost link makes the server send goes to fronts
fronts_awaited : (es : List AwaitedEntry) (us : List ServerOut) → ToFronts us → ToFronts (all_awaited_lost es ++ us)
fronts_awaited [] us h = h
fronts_awaited (e ∷ es) us h = let more = fronts_awaited es us h in record { link = more.link; cut = more.cut; made = more.made; new = more.new }

fronts_held : (es : List HeldEntry) → ToFronts (all_held_lost es)
fronts_held [] = record { link = λ l. refl; cut = λ l. refl; made = λ i own D. refl; new = λ d x. refl }
fronts_held (e ∷ es) = here e.front (fronts_held es)
  where
    here : (o : Option ℕ) → ToFronts (all_held_lost es) → ToFronts (ended_to o e.dial (codes "agent lost") ++ all_held_lost es)
    here None more = more
    here (Some f) more = record { link = more.link; cut = more.cut; made = more.made; new = more.new }

-- ---- the agent's view of its dial, of a list that was cut
far_cut : (d : ℕ) (cid : Option ℕ) (agent : AgentState) (left down : List Packet) → (has_request d left ≡ true → has_request d down ≡ true)
    → far_of d cid agent left ≡ cond (is_asked (far_of d cid agent down) && not (has_request d left)) Left (far_of d cid agent down)
far_cut d (Some c) agent left down h = connected (connection_at (pos c) agent.connections)
  where
    state : (s : DestState) → dest_far s ≡ cond (is_asked (dest_far s) && not (has_request d left)) Left (dest_far s)
    state dest.Open = refl
    state dest.Lingering = refl

    connected : (o : Option Connection) → connection_far o ≡ cond (is_asked (connection_far o) && not (has_request d left)) Left (connection_far o)
    connected None = refl
    connected (Some x) = state x.state
far_cut d None agent left down h = dialled (first_where (has_random d) agent.dials) (has_request d left) (has_request d down) h
  where
    dialled : (o : Option Dial) (b c : Bool) → (b ≡ true → c ≡ true) → dial_far o b ≡ cond (is_asked (dial_far o c) && not b) Left (dial_far o c)
    dialled (Some x) b c h = refl
    dialled None true true h = refl
    dialled None true false h = absurd (cc (h refl))
    dialled None false true h = refl
    dialled None false false h = refl

module _ (w : World) (l : ℕ) (left : List Packet) (keys : Keys w) (front_of : IsFrontOf left (w.links l).down) where
  abbrev cut_off : World
  cut_off = link_is l Gone (up_is l [] (down_is l left w))

  abbrev pub lost_awaited : List AwaitedEntry
  lost_awaited = filter (is_of_link l) w.server.awaited

  abbrev pub lost_held : List HeldEntry
  lost_held = by_connect_id (filter (is_held_on l) w.server.held)

  abbrev lost : World
  lost = served (pos 0) (link_lost w.server l) cut_off

  pub awaited_its : Each (λ (e : AwaitedEntry). (is_of_link l e ≡ true) × (first_where (is_dial e.dial) w.server.awaited ≡ Some e)) lost_awaited
  awaited_its = each_kept (λ (e : AwaitedEntry). first_where (is_dial e.dial) w.server.awaited ≡ Some e) (is_of_link l) w.server.awaited (each_its (λ (e : AwaitedEntry). e.dial) w.server.awaited keys.server.orderly.awaited_rise)

  pub held_its : Each (λ (e : HeldEntry). (is_held_on l e ≡ true) × (first_where (is_held_dial e.dial) w.server.held ≡ Some e)) lost_held
  held_its = each_sorted (λ (e : HeldEntry). (is_held_on l e ≡ true) × (first_where (is_held_dial e.dial) w.server.held ≡ Some e)) (filter (is_held_on l) w.server.held)
      (each_kept (λ (e : HeldEntry). first_where (is_held_dial e.dial) w.server.held ≡ Some e) (is_held_on l) w.server.held (each_its (λ (e : HeldEntry). e.dial) w.server.held keys.server.orderly.held_rise))

  pub to_fronts : ToFronts (all_awaited_lost lost_awaited ++ all_held_lost lost_held)
  to_fronts = fronts_awaited lost_awaited (all_held_lost lost_held) (fronts_held lost_held)

  -- ---- what an app is told
  module _ (k : ℕ) (came : (w.apps k).came ≡ true) where
    abbrev NotOurs : Packet → Type 0
    NotOurs p = NotFor (w.streams (w.apps k).stream).connect (w.apps k).number (w.apps k).dial p

    refusal_quiet : (e : AwaitedEntry) → first_where (is_dial e.dial) w.server.awaited ≡ Some e → is_drawn_number (w.apps k).dial (pos e.dial) ≡ false → ((w.apps k).stream == e.front) ≡ true → NotOurs (DialRsp (codes "agent lost") (pos 0) e.random)
    refusal_quiet e at other on =
        let none = not_asked w keys l e k at came (eqb-true (w.apps k).stream e.front on) other in
        (not_connect (w.streams (w.apps k).stream).connect (w.apps k).number e.random none, refusal_not (w.streams (w.apps k).stream).connect (w.apps k).number (w.apps k).dial _ _ (pos 0) e.random none)

    close_quiet : (e : HeldEntry) (f : ℕ) → first_where (is_held_dial e.dial) w.server.held ≡ Some e → e.front ≡ Some f → is_drawn_number (w.apps k).dial (pos e.dial) ≡ false → ((w.apps k).stream == f) ≡ true → NotOurs (CloseRsp (codes "agent lost") (pos e.dial))
    close_quiet e f at front other on =
        let client = a_client w keys e f k at front came (eqb-true (w.apps k).stream f on) other in
        (client, ended_other (w.streams (w.apps k).stream).connect (w.apps k).number (w.apps k).dial (pos e.dial) (codes "agent lost") client other)

    quiet_awaited : (es : List AwaitedEntry) (us : List ServerOut) → Each (λ (e : AwaitedEntry). (is_of_link l e ≡ true) × (first_where (is_dial e.dial) w.server.awaited ≡ Some e)) es → Each (λ (e : AwaitedEntry). is_drawn_number (w.apps k).dial (pos e.dial) ≡ false) es
        → Each NotOurs (for_front (w.apps k).stream us) → Each NotOurs (for_front (w.apps k).stream (all_awaited_lost es ++ us))
    quiet_awaited [] us its others h = h
    quiet_awaited (e ∷ es) us its others h = here ((w.apps k).stream == e.front) refl (quiet_awaited es us its.1 others.1 h)
      where
        here : (b : Bool) → ((w.apps k).stream == e.front) ≡ b → Each NotOurs (for_front (w.apps k).stream (all_awaited_lost es ++ us)) → Each NotOurs (more_if b (DialRsp (codes "agent lost") (pos 0) e.random) (for_front (w.apps k).stream (all_awaited_lost es ++ us)))
        here true on more = (refusal_quiet e its.0.1 others.0 on, more)
        here false on more = more

    pub quiet_held : (es : List HeldEntry) → Each (λ (e : HeldEntry). (is_held_on l e ≡ true) × (first_where (is_held_dial e.dial) w.server.held ≡ Some e)) es → Each (λ (e : HeldEntry). e.front ≡ Some (w.apps k).stream → is_drawn_number (w.apps k).dial (pos e.dial) ≡ false) es
        → Each NotOurs (for_front (w.apps k).stream (all_held_lost es))
    quiet_held [] its others = tt
    quiet_held (e ∷ es) its others = by_front e.front refl (quiet_held es its.1 others.1)
      where
        by_front : (o : Option ℕ) → e.front ≡ o → Each NotOurs (for_front (w.apps k).stream (all_held_lost es)) → Each NotOurs (for_front (w.apps k).stream (ended_to o e.dial (codes "agent lost") ++ all_held_lost es))
        by_front None front more = more
        by_front (Some f) front more = here ((w.apps k).stream == f) refl more
          where
            here : (b : Bool) → ((w.apps k).stream == f) ≡ b → Each NotOurs (for_front (w.apps k).stream (all_held_lost es)) → Each NotOurs (more_if b (CloseRsp (codes "agent lost") (pos e.dial)) (for_front (w.apps k).stream (all_held_lost es)))
            here true on more = (close_quiet e f its.0.1 front (others.0 (front ∙ ap Some (sym (eqb-true (w.apps k).stream f on)))) on, more)
            here false on more = more

    pub one_awaited : (d : ℕ) (own : AwaitedEntry) → (w.apps k).dial ≡ Some d → own.front ≡ (w.apps k).stream → (es : List AwaitedEntry) (us : List ServerOut) → Each (λ (e : AwaitedEntry). (is_of_link l e ≡ true) × (first_where (is_dial e.dial) w.server.awaited ≡ Some e)) es
        → IsOne (λ (e : AwaitedEntry). (e.dial == d) ≡ false) own es → Each NotOurs (for_front (w.apps k).stream us) → IsOne NotOurs (DialRsp (codes "agent lost") (pos 0) own.random) (for_front (w.apps k).stream (all_awaited_lost es ++ us))
    one_awaited d own de on [] us its one h = absurd one
    one_awaited d own de on (e ∷ es) us its (inl one) h = rw (one.0, on, eqb_refl (w.apps k).stream) (inl (refl, quiet_awaited es us its.1 (others es one.1) h))
      where
        others : (xs : List AwaitedEntry) → Each (λ (x : AwaitedEntry). (x.dial == d) ≡ false) xs → Each (λ (x : AwaitedEntry). is_drawn_number (w.apps k).dial (pos x.dial) ≡ false) xs
        others [] h = tt
        others (x ∷ xs) h = (rw de h.0, others xs h.1)
    one_awaited d own de on (e ∷ es) us its (inr one) h = here ((w.apps k).stream == e.front) refl (one_awaited d own de on es us its.1 one.1 h)
      where
        here : (b : Bool) → ((w.apps k).stream == e.front) ≡ b → IsOne NotOurs (DialRsp (codes "agent lost") (pos 0) own.random) (for_front (w.apps k).stream (all_awaited_lost es ++ us))
            → IsOne NotOurs (DialRsp (codes "agent lost") (pos 0) own.random) (more_if b (DialRsp (codes "agent lost") (pos 0) e.random) (for_front (w.apps k).stream (all_awaited_lost es ++ us)))
        here true t more = inr (refusal_quiet e its.0.1 (rw de one.0) t, more)
        here false t more = more

    pub behind_awaited : (p : Packet) (es : List AwaitedEntry) (us : List ServerOut) → Each (λ (e : AwaitedEntry). (is_of_link l e ≡ true) × (first_where (is_dial e.dial) w.server.awaited ≡ Some e)) es → Each (λ (e : AwaitedEntry). is_drawn_number (w.apps k).dial (pos e.dial) ≡ false) es
        → IsOne NotOurs p (for_front (w.apps k).stream us) → IsOne NotOurs p (for_front (w.apps k).stream (all_awaited_lost es ++ us))
    behind_awaited p [] us its others h = h
    behind_awaited p (e ∷ es) us its others h = here ((w.apps k).stream == e.front) refl (behind_awaited p es us its.1 others.1 h)
      where
        here : (b : Bool) → ((w.apps k).stream == e.front) ≡ b → IsOne NotOurs p (for_front (w.apps k).stream (all_awaited_lost es ++ us)) → IsOne NotOurs p (more_if b (DialRsp (codes "agent lost") (pos 0) e.random) (for_front (w.apps k).stream (all_awaited_lost es ++ us)))
        here true on more = inr (refusal_quiet e its.0.1 others.0 on, more)
        here false on more = more

    pub one_held : (d : ℕ) (own : HeldEntry) → (w.apps k).dial ≡ Some d → own.front ≡ Some (w.apps k).stream → (es : List HeldEntry) → Each (λ (e : HeldEntry). (is_held_on l e ≡ true) × (first_where (is_held_dial e.dial) w.server.held ≡ Some e)) es
        → IsOne (λ (e : HeldEntry). (e.dial == d) ≡ false) own es → IsOne NotOurs (CloseRsp (codes "agent lost") (pos own.dial)) (for_front (w.apps k).stream (all_held_lost es))
    one_held d own de on [] its one = absurd one
    one_held d own de on (e ∷ es) its (inl one) = rw (one.0, on, eqb_refl (w.apps k).stream) (inl (refl, quiet_held es its.1 (others es one.1)))
      where
        others : (xs : List HeldEntry) → Each (λ (x : HeldEntry). (x.dial == d) ≡ false) xs → Each (λ (x : HeldEntry). x.front ≡ Some (w.apps k).stream → is_drawn_number (w.apps k).dial (pos x.dial) ≡ false) xs
        others [] h = tt
        others (x ∷ xs) h = (λ front. rw de h.0, others xs h.1)
    one_held d own de on (e ∷ es) its (inr one) = by_front e.front refl (one_held d own de on es its.1 one.1)
      where
        by_front : (o : Option ℕ) → e.front ≡ o → IsOne NotOurs (CloseRsp (codes "agent lost") (pos own.dial)) (for_front (w.apps k).stream (all_held_lost es))
            → IsOne NotOurs (CloseRsp (codes "agent lost") (pos own.dial)) (for_front (w.apps k).stream (ended_to o e.dial (codes "agent lost") ++ all_held_lost es))
        by_front None front more = more
        by_front (Some f) front more = here ((w.apps k).stream == f) refl more
          where
            here : (b : Bool) → ((w.apps k).stream == f) ≡ b → IsOne NotOurs (CloseRsp (codes "agent lost") (pos own.dial)) (for_front (w.apps k).stream (all_held_lost es))
                → IsOne NotOurs (CloseRsp (codes "agent lost") (pos own.dial)) (more_if b (CloseRsp (codes "agent lost") (pos e.dial)) (for_front (w.apps k).stream (all_held_lost es)))
            here true t more = inr (close_quiet e f its.0.1 front (rw de one.0) t, more)
            here false t more = more

  -- ---- the entries of a dial
  its_awaited_link : (d : ℕ) (e : AwaitedEntry) → e.dial ≡ d → first_where (is_dial e.dial) w.server.awaited ≡ Some e → (w.dials d).link ≡ e.link
  its_awaited_link d e same at = ap (λ i. (w.dials i).link) (sym same) ∙ (keys.server.awaited e.dial e at).link

  its_held_link : (d : ℕ) (e : HeldEntry) → e.dial ≡ d → first_where (is_held_dial e.dial) w.server.held ≡ Some e → (w.dials d).link ≡ e.link
  its_held_link d e same at = ap (λ i. (w.dials i).link) (sym same) ∙ (keys.server.held e.dial e at).link

  all_awaited : Each (λ (e : AwaitedEntry). first_where (is_dial e.dial) w.server.awaited ≡ Some e) w.server.awaited
  all_awaited = each_its (λ (e : AwaitedEntry). e.dial) w.server.awaited keys.server.orderly.awaited_rise

  all_held : Each (λ (e : HeldEntry). first_where (is_held_dial e.dial) w.server.held ≡ Some e) w.server.held
  all_held = each_its (λ (e : HeldEntry). e.dial) w.server.held keys.server.orderly.held_rise

  -- of another link's dial none is lost
  pub away_awaited : (d : ℕ) → ((w.dials d).link == l) ≡ false → Each (λ (e : AwaitedEntry). (e.dial == d) ≡ false) lost_awaited
  away_awaited d off = each_more (λ (e : AwaitedEntry). (is_of_link l e ≡ true) × (first_where (is_dial e.dial) w.server.awaited ≡ Some e)) (λ (e : AwaitedEntry). (e.dial == d) ≡ false) lost_awaited
      (λ e its. false_unless (e.dial == d) (λ h. let at = its_awaited_link d e (eqb-true e.dial d h) its.1 in cc (rw (at ∙ eqb-true e.link l its.0) at off, eqb_refl l))) awaited_its

  pub away_held : (d : ℕ) → ((w.dials d).link == l) ≡ false → Each (λ (e : HeldEntry). (e.dial == d) ≡ false) lost_held
  away_held d off = each_more (λ (e : HeldEntry). (is_held_on l e ≡ true) × (first_where (is_held_dial e.dial) w.server.held ≡ Some e)) (λ (e : HeldEntry). (e.dial == d) ≡ false) lost_held
      (λ e its. false_unless (e.dial == d) (λ h. let at = its_held_link d e (eqb-true e.dial d h) its.1 in cc (rw (at ∙ eqb-true e.link l its.0) at off, eqb_refl l))) held_its

  pub no_awaited : (d : ℕ) → first_where (is_dial d) w.server.awaited ≡ None → Each (λ (e : AwaitedEntry). (e.dial == d) ≡ false) lost_awaited
  no_awaited d none = each_more (λ (e : AwaitedEntry). (is_of_link l e ≡ true) × (first_where (is_dial e.dial) w.server.awaited ≡ Some e)) (λ (e : AwaitedEntry). (e.dial == d) ≡ false) lost_awaited
      (λ e its. false_unless (e.dial == d) (λ h. cc (rw (eqb-true e.dial d h) at its.1, none))) awaited_its

  pub no_held : (d : ℕ) → first_where (is_held_dial d) w.server.held ≡ None → Each (λ (e : HeldEntry). (e.dial == d) ≡ false) lost_held
  no_held d none = each_more (λ (e : HeldEntry). (is_held_on l e ≡ true) × (first_where (is_held_dial e.dial) w.server.held ≡ Some e)) (λ (e : HeldEntry). (e.dial == d) ≡ false) lost_held
      (λ e its. false_unless (e.dial == d) (λ h. cc (rw (eqb-true e.dial d h) at its.1, none))) held_its

  pub awaited_gone : (d : ℕ) → (w.dials d).link ≡ l → first_where (is_dial d) (filter (λ e. not (is_of_link l e)) w.server.awaited) ≡ None
  awaited_gone d on = none_where (is_dial d) (filter (λ e. not (is_of_link l e)) w.server.awaited)
      (each_more (λ (e : AwaitedEntry). (not (is_of_link l e) ≡ true) × (first_where (is_dial e.dial) w.server.awaited ≡ Some e)) (λ (e : AwaitedEntry). is_dial d e ≡ false) (filter (λ e. not (is_of_link l e)) w.server.awaited)
      (λ e its. false_unless (e.dial == d) (λ h. let at : e.link ≡ l = sym (its_awaited_link d e (eqb-true e.dial d h) its.1) ∙ on in cc (rw (at, eqb_refl l) at its.0)))
      (each_kept (λ (e : AwaitedEntry). first_where (is_dial e.dial) w.server.awaited ≡ Some e) (λ e. not (is_of_link l e)) w.server.awaited all_awaited))

  pub held_gone : (d : ℕ) → (w.dials d).link ≡ l → first_where (is_held_dial d) (filter (λ e. not (is_held_on l e)) w.server.held) ≡ None
  held_gone d on = none_where (is_held_dial d) (filter (λ e. not (is_held_on l e)) w.server.held)
      (each_more (λ (e : HeldEntry). (not (is_held_on l e) ≡ true) × (first_where (is_held_dial e.dial) w.server.held ≡ Some e)) (λ (e : HeldEntry). is_held_dial d e ≡ false) (filter (λ e. not (is_held_on l e)) w.server.held)
      (λ e its. false_unless (e.dial == d) (λ h. let at : e.link ≡ l = sym (its_held_link d e (eqb-true e.dial d h) its.1) ∙ on in cc (rw (at, eqb_refl l) at its.0)))
      (each_kept (λ (e : HeldEntry). first_where (is_held_dial e.dial) w.server.held ≡ Some e) (λ e. not (is_held_on l e)) w.server.held all_held))

  pub awaited_stays : (d : ℕ) → ((w.dials d).link == l) ≡ false → first_where (is_dial d) (filter (λ e. not (is_of_link l e)) w.server.awaited) ≡ first_where (is_dial d) w.server.awaited
  awaited_stays d off = kept_where (is_dial d) (λ e. not (is_of_link l e)) w.server.awaited
      (each_more (λ (e : AwaitedEntry). first_where (is_dial e.dial) w.server.awaited ≡ Some e) (λ (e : AwaitedEntry). is_dial d e ≡ true → not (is_of_link l e) ≡ true) w.server.awaited
      (λ e its h. rw (sym (its_awaited_link d e (eqb-true e.dial d h) its), off) refl) all_awaited)

  pub held_stays : (d : ℕ) → ((w.dials d).link == l) ≡ false → first_where (is_held_dial d) (filter (λ e. not (is_held_on l e)) w.server.held) ≡ first_where (is_held_dial d) w.server.held
  held_stays d off = kept_where (is_held_dial d) (λ e. not (is_held_on l e)) w.server.held
      (each_more (λ (e : HeldEntry). first_where (is_held_dial e.dial) w.server.held ≡ Some e) (λ (e : HeldEntry). is_held_dial d e ≡ true → not (is_held_on l e) ≡ true) w.server.held
      (λ e its h. rw (sym (its_held_link d e (eqb-true e.dial d h) its), off) refl) all_held)

  pub own_awaited : (d : ℕ) (e : AwaitedEntry) → (w.dials d).link ≡ l → first_where (is_dial d) w.server.awaited ≡ Some e → IsOne (λ (x : AwaitedEntry). (x.dial == d) ≡ false) e lost_awaited
  own_awaited d e on at = one_of (λ (x : AwaitedEntry). x.dial) d e lost_awaited (rising_filter (λ (x : AwaitedEntry). x.dial) (is_of_link l) w.server.awaited keys.server.orderly.awaited_rise)
      (kept_where (is_dial d) (is_of_link l) w.server.awaited
      (each_more (λ (x : AwaitedEntry). first_where (is_dial x.dial) w.server.awaited ≡ Some x) (λ (x : AwaitedEntry). is_dial d x ≡ true → is_of_link l x ≡ true) w.server.awaited
      (λ x its h. rw (sym (its_awaited_link d x (eqb-true x.dial d h) its), on, eqb_refl l) refl) all_awaited) ∙ at)

  pub own_held : (d : ℕ) (e : HeldEntry) → (w.dials d).link ≡ l → first_where (is_held_dial d) w.server.held ≡ Some e → IsOne (λ (x : HeldEntry). (x.dial == d) ≡ false) e lost_held
  own_held d e on at = one_sorted (λ (x : HeldEntry). (x.dial == d) ≡ false) e (filter (is_held_on l) w.server.held)
      (one_of (λ (x : HeldEntry). x.dial) d e (filter (is_held_on l) w.server.held) (rising_filter (λ (x : HeldEntry). x.dial) (is_held_on l) w.server.held keys.server.orderly.held_rise)
      (kept_where (is_held_dial d) (is_held_on l) w.server.held
      (each_more (λ (x : HeldEntry). first_where (is_held_dial x.dial) w.server.held ≡ Some x) (λ (x : HeldEntry). is_held_dial d x ≡ true → is_held_on l x ≡ true) w.server.held
      (λ x its h. rw (sym (its_held_link d x (eqb-true x.dial d h) its), on, eqb_refl l) refl) all_held) ∙ at))

  -- ---- the tunnel of an app
  module _ (k : ℕ) (came : (w.apps k).came ≡ true) where
    abbrev told : List Packet
    told = for_front (w.apps k).stream (all_awaited_lost lost_awaited ++ all_held_lost lost_held)

    pub drawn_awaited : (d : ℕ) → (w.apps k).dial ≡ Some d → Each (λ (e : AwaitedEntry). (e.dial == d) ≡ false) lost_awaited → Each (λ (e : AwaitedEntry). is_drawn_number (w.apps k).dial (pos e.dial) ≡ false) lost_awaited
    drawn_awaited d de h = each_more (λ (e : AwaitedEntry). (e.dial == d) ≡ false) (λ (e : AwaitedEntry). is_drawn_number (w.apps k).dial (pos e.dial) ≡ false) lost_awaited (λ e i. rw de i) h

    pub drawn_held : (d : ℕ) → (w.apps k).dial ≡ Some d → Each (λ (e : HeldEntry). (e.dial == d) ≡ false) lost_held → Each (λ (e : HeldEntry). e.front ≡ Some (w.apps k).stream → is_drawn_number (w.apps k).dial (pos e.dial) ≡ false) lost_held
    drawn_held d de h = each_more (λ (e : HeldEntry). (e.dial == d) ≡ false) (λ (e : HeldEntry). e.front ≡ Some (w.apps k).stream → is_drawn_number (w.apps k).dial (pos e.dial) ≡ false) lost_held (λ e i f. rw de i) h

    pub quiet : Each (λ (e : AwaitedEntry). is_drawn_number (w.apps k).dial (pos e.dial) ≡ false) lost_awaited
        → Each (λ (e : HeldEntry). e.front ≡ Some (w.apps k).stream → is_drawn_number (w.apps k).dial (pos e.dial) ≡ false) lost_held
        → Each (NotFor (w.streams (w.apps k).stream).connect (w.apps k).number (w.apps k).dial) told
    quiet a h = quiet_awaited k came lost_awaited (all_held_lost lost_held) awaited_its a (quiet_held k came lost_held held_its h)

    -- nothing is told to it
    quiet_drawn : (d : ℕ) → (w.apps k).dial ≡ Some d → Each (NotFor (w.streams (w.apps k).stream).connect (w.apps k).number (w.apps k).dial) told → Each (NotFor (w.streams (w.apps k).stream).connect (w.apps k).number (Some d)) told
    quiet_drawn d de h = rw de at h

    elsewhere : (d : ℕ) → (w.apps k).dial ≡ Some d → ((w.dials d).link == l) ≡ false → tunnel_of lost (lost.apps k) (Some d) ≡ tunnel_of w (w.apps k) (Some d)
    elsewhere d de off =
        let silent = quiet_drawn d de (quiet (drawn_awaited d de (away_awaited d off)) (drawn_held d de (away_held d off))) in
        let c = (w.streams (w.apps k).stream).connect in let n = (w.apps k).number in
        rw (
          to_fronts.new d (w.dials d),
          to_fronts.link (w.dials d).link,
          to_fronts.cut (w.dials d).link,
          off,
          awaited_stays d off,
          held_stays d off,
          quiet_word c n (Some d) (w.streams (w.apps k).stream).client (w.streams (w.apps k).stream).down told silent,
          quiet_finish c n (Some d) told (w.streams (w.apps k).stream).finished silent,
          quiet_answer c n (Some d) told (w.apps k).phase silent,
        ) refl

    undrawn : (w.apps k).dial ≡ None → tunnel_of lost (lost.apps k) None ≡ tunnel_of w (w.apps k) None
    undrawn de =
        let silent : Each (NotFor (w.streams (w.apps k).stream).connect (w.apps k).number None) told = rw de at (quiet (none_a lost_awaited) (none_h lost_held)) in
        let c = (w.streams (w.apps k).stream).connect in let n = (w.apps k).number in
        rw (quiet_word c n None (w.streams (w.apps k).stream).client (w.streams (w.apps k).stream).down told silent, quiet_finish c n None told (w.streams (w.apps k).stream).finished silent, quiet_answer c n None told (w.apps k).phase silent) refl
      where
        none_a : (es : List AwaitedEntry) → Each (λ (e : AwaitedEntry). is_drawn_number (w.apps k).dial (pos e.dial) ≡ false) es
        none_a [] = tt
        none_a (e ∷ es) = (rw de refl, none_a es)

        none_h : (es : List HeldEntry) → Each (λ (e : HeldEntry). e.front ≡ Some (w.apps k).stream → is_drawn_number (w.apps k).dial (pos e.dial) ≡ false) es
        none_h [] = tt
        none_h (e ∷ es) = (λ f. rw de refl, none_h es)

    -- the tunnels of the link
    module _ (there : not (is_gone (w.links l).server) ≡ true) (d : ℕ) (de : (w.apps k).dial ≡ Some d) (on : (w.dials d).link ≡ l) where
      cut : IsCutDown (down_word (w.dials d).cid left) (down_word (w.dials d).cid (w.links (w.dials d).link).down)
      cut = rw on (subst (λ ps. down_ordered (down_item (w.dials d).cid) ps ≡ true → IsCutDown (down_word (w.dials d).cid left) (down_word (w.dials d).cid ps)) front_of.1 (down_prefix_cut (down_item (w.dials d).cid) left front_of.0) (rw on at ((keys.ordered k came).down d de)))

      may : step.may (event.LinkLostAtServer (down_word (w.dials d).cid left) (has_request d left)) (tunnel_of w (w.apps k) (Some d)) ≡ true
      may = rw on there

      requests : has_request d left ≡ true → has_request d (w.links l).down ≡ true
      requests h = subst (λ ps. has_request d ps ≡ true) front_of.1 (request_cut d left front_of.0 h)

      abbrev goal : Type 0
      goal = tunnel_of lost (lost.apps k) (Some d) ≡ step.after (event.LinkLostAtServer (down_word (w.dials d).cid left) (has_request d left)) (tunnel_of w (w.apps k) (Some d))

      silent : (a : Option AwaitedEntry) → Each (NotFor (w.streams (w.apps k).stream).connect (w.apps k).number (Some d)) told → first_where (is_dial d) w.server.awaited ≡ None → (h : Option HeldEntry) → first_where (is_held_dial d) w.server.held ≡ h
          → entry_of None h ≡ NoEntry → goal
      silent a none ae (Some e) he none_held = absurd (held_some e.state e.front none_held)
        where
          held_some : (state : HeldState) (front : Option ℕ) → held_entry state front ≡ NoEntry → ⊥
          held_some Open None e = cc
          held_some Closing None e = cc
          held_some Open (Some f) e = cc
          held_some Closing (Some f) e = cc
      silent a none ae None he same =
          let c = (w.streams (w.apps k).stream).connect in let n = (w.apps k).number in
          rw (
            to_fronts.new d (w.dials d),
            to_fronts.link (w.dials d).link,
            to_fronts.cut (w.dials d).link,
            on,
            eqb_refl l,
            awaited_gone d on,
            held_gone d on,
            ae,
            he,
            far_cut d (w.dials d).cid (w.agents l) left (w.links l).down requests,
            quiet_word c n (Some d) (w.streams (w.apps k).stream).client (w.streams (w.apps k).stream).down told none,
            quiet_finish c n (Some d) told (w.streams (w.apps k).stream).finished none,
            quiet_answer c n (Some d) told (w.apps k).phase none,
          ) refl

      refused : (e : AwaitedEntry) → first_where (is_dial d) w.server.awaited ≡ Some e → first_where (is_held_dial d) w.server.held ≡ None → goal
      refused e ae he =
          let s = w.streams (w.apps k).stream in let c = (w.streams (w.apps k).stream).connect in let n = (w.apps k).number in
          let fits = keys.server.awaited d e ae in
          let asked : asks c n e.random ≡ true = fits.random k came de in
          let silent_held = quiet_held k came lost_held held_its (drawn_held d de (no_held d he)) in
          let one : IsOne (NotFor c n (Some d)) (DialRsp (codes "agent lost") (pos 0) e.random) told = subst (λ D. IsOne (NotFor c n D) (DialRsp (codes "agent lost") (pos 0) e.random) told) de (one_awaited k came d e de (sym (fits.front k came de)) lost_awaited (all_held_lost lost_held) awaited_its (own_awaited d e on ae) silent_held) in
          rw (
            to_fronts.new d (w.dials d),
            to_fronts.link (w.dials d).link,
            to_fronts.cut (w.dials d).link,
            on,
            eqb_refl l,
            awaited_gone d on,
            held_gone d on,
            ae,
            he,
            far_cut d (w.dials d).cid (w.agents l) left (w.links l).down requests,
            one_word c n (Some d) s.client s.down told (DialRsp (codes "agent lost") (pos 0) e.random) one,
            out_refused (stream_out_item c n (Some d)) s.client s.down (DialRsp (codes "agent lost") (pos 0) e.random) (refusal_own c n (Some d) _ _ (pos 0) e.random asked),
            one_finish c n (Some d) told (DialRsp (codes "agent lost") (pos 0) e.random) s.finished one,
            one_answer c n (Some d) told (DialRsp (codes "agent lost") (pos 0) e.random) (w.apps k).phase one,
            phase_refused c,
          ) refl

      frontless : (e : HeldEntry) → first_where (is_dial d) w.server.awaited ≡ None → first_where (is_held_dial d) w.server.held ≡ Some e → e.front ≡ None → goal
      frontless e ae he ef =
          let c = (w.streams (w.apps k).stream).connect in let n = (w.apps k).number in
          let others : Each (λ (x : HeldEntry). x.front ≡ Some (w.apps k).stream → is_drawn_number (w.apps k).dial (pos x.dial) ≡ false) lost_held =
          each_more (λ (x : HeldEntry). (is_held_on l x ≡ true) × (first_where (is_held_dial x.dial) w.server.held ≡ Some x)) (λ (x : HeldEntry). x.front ≡ Some (w.apps k).stream → is_drawn_number (w.apps k).dial (pos x.dial) ≡ false) lost_held
          (λ x its front. rw de (false_unless (x.dial == d) (λ h. let same : x ≡ e = some_is x e (ap (λ i. first_where (is_held_dial i) w.server.held) (sym (eqb-true x.dial d h)) ∙ its.1) he in cc (ap (λ (y : HeldEntry). y.front) same, front, ef)))) held_its in
          let none : Each (NotFor c n (Some d)) told = rw de at (quiet (drawn_awaited d de (no_awaited d ae)) others) in
          rw (
            to_fronts.new d (w.dials d),
            to_fronts.link (w.dials d).link,
            to_fronts.cut (w.dials d).link,
            on,
            eqb_refl l,
            awaited_gone d on,
            held_gone d on,
            ae,
            he,
            ef,
            far_cut d (w.dials d).cid (w.agents l) left (w.links l).down requests,
            quiet_word c n (Some d) (w.streams (w.apps k).stream).client (w.streams (w.apps k).stream).down told none,
            quiet_finish c n (Some d) told (w.streams (w.apps k).stream).finished none,
            quiet_answer c n (Some d) told (w.apps k).phase none,
          ) refl
        where
          some_is : (x e : HeldEntry) → first_where (is_held_dial d) w.server.held ≡ Some x → first_where (is_held_dial d) w.server.held ≡ Some e → x ≡ e
          some_is x e f g = let m : Some x ≡ Some e = sym f ∙ g in cc

      closed : (e : HeldEntry) (f : ℕ) (state : HeldState) → first_where (is_dial d) w.server.awaited ≡ None → first_where (is_held_dial d) w.server.held ≡ Some e → e.front ≡ Some f → e.state ≡ state → goal
      closed e f state ae he ef es = by_state state es
        where
          one : IsOne (NotFor (w.streams (w.apps k).stream).connect (w.apps k).number (Some d)) (CloseRsp (codes "agent lost") (pos e.dial)) told
          one = subst (λ D. IsOne (NotFor (w.streams (w.apps k).stream).connect (w.apps k).number D) (CloseRsp (codes "agent lost") (pos e.dial)) told) de (behind_awaited k came (CloseRsp (codes "agent lost") (pos e.dial)) lost_awaited (all_held_lost lost_held) awaited_its (drawn_awaited d de (no_awaited d ae))
              (one_held k came d e de (ef ∙ ap Some (sym ((keys.server.held d e he).front k f came de ef))) lost_held held_its (own_held d e on he)))

          item : stream_out_item (w.streams (w.apps k).stream).connect (w.apps k).number (Some d) (CloseRsp (codes "agent lost") (pos e.dial)) ≡ CloseOut
          item = rw (eqb-true e.dial d (passes (is_held_dial d) e w.server.held he)) (ended_item (w.streams (w.apps k).stream).connect (w.apps k).number d (codes "agent lost"))

          by_state : (state : HeldState) → e.state ≡ state → goal
          by_state Open es =
              rw (
                to_fronts.new d (w.dials d),
                to_fronts.link (w.dials d).link,
                to_fronts.cut (w.dials d).link,
                on,
                eqb_refl l,
                awaited_gone d on,
                held_gone d on,
                ae,
                he,
                ef,
                es,
                far_cut d (w.dials d).cid (w.agents l) left (w.links l).down requests,
                one_word (w.streams (w.apps k).stream).connect (w.apps k).number (Some d) (w.streams (w.apps k).stream).client (w.streams (w.apps k).stream).down told (CloseRsp (codes "agent lost") (pos e.dial)) one,
                out_closed (stream_out_item (w.streams (w.apps k).stream).connect (w.apps k).number (Some d)) (w.streams (w.apps k).stream).client (w.streams (w.apps k).stream).down (CloseRsp (codes "agent lost") (pos e.dial)) item,
                one_finish (w.streams (w.apps k).stream).connect (w.apps k).number (Some d) told (CloseRsp (codes "agent lost") (pos e.dial)) (w.streams (w.apps k).stream).finished one,
                one_answer (w.streams (w.apps k).stream).connect (w.apps k).number (Some d) told (CloseRsp (codes "agent lost") (pos e.dial)) (w.apps k).phase one,
                cond_same (w.streams (w.apps k).stream).connect (w.apps k).phase,
              ) refl
          by_state Closing es =
              rw (
                to_fronts.new d (w.dials d),
                to_fronts.link (w.dials d).link,
                to_fronts.cut (w.dials d).link,
                on,
                eqb_refl l,
                awaited_gone d on,
                held_gone d on,
                ae,
                he,
                ef,
                es,
                far_cut d (w.dials d).cid (w.agents l) left (w.links l).down requests,
                one_word (w.streams (w.apps k).stream).connect (w.apps k).number (Some d) (w.streams (w.apps k).stream).client (w.streams (w.apps k).stream).down told (CloseRsp (codes "agent lost") (pos e.dial)) one,
                out_closed (stream_out_item (w.streams (w.apps k).stream).connect (w.apps k).number (Some d)) (w.streams (w.apps k).stream).client (w.streams (w.apps k).stream).down (CloseRsp (codes "agent lost") (pos e.dial)) item,
                one_finish (w.streams (w.apps k).stream).connect (w.apps k).number (Some d) told (CloseRsp (codes "agent lost") (pos e.dial)) (w.streams (w.apps k).stream).finished one,
                one_answer (w.streams (w.apps k).stream).connect (w.apps k).number (Some d) told (CloseRsp (codes "agent lost") (pos e.dial)) (w.apps k).phase one,
                cond_same (w.streams (w.apps k).stream).connect (w.apps k).phase,
              ) refl

      not_awaited : (e : HeldEntry) → first_where (is_held_dial d) w.server.held ≡ Some e → (a : Option AwaitedEntry) → first_where (is_dial d) w.server.awaited ≡ a → a ≡ None
      not_awaited e he None ae = refl
      not_awaited e he (Some a) ae = let none : first_where (is_held_dial d) w.server.held ≡ None = keys.server.orderly.sound.apart d (rw ae refl) in absurd (cc (none, he))

      own : (a : Option AwaitedEntry) (h : Option HeldEntry) → first_where (is_dial d) w.server.awaited ≡ a → first_where (is_held_dial d) w.server.held ≡ h → goal
      own None None ae he = silent None (rw de at (quiet (drawn_awaited d de (no_awaited d ae)) (drawn_held d de (no_held d he)))) ae None he refl
      own (Some e) None ae he = refused e ae he
      own a (Some e) ae he = by_front e.front refl
        where
          none : first_where (is_dial d) w.server.awaited ≡ None
          none = not_awaited e he (first_where (is_dial d) w.server.awaited) refl

          by_front : (front : Option ℕ) → e.front ≡ front → goal
          by_front None ef = frontless e none he ef
          by_front (Some f) ef = closed e f e.state none he ef refl

      pub on_link : Follows (tunnel_of w (w.apps k) (Some d)) (tunnel_of lost (lost.apps k) (Some d))
      on_link = inr (event.LinkLostAtServer (down_word (w.dials d).cid left) (has_request d left), (may, cut), own (first_where (is_dial d) w.server.awaited) (first_where (is_held_dial d) w.server.held) refl refl)

  pub lost_lifts : not (is_gone (w.links l).server) ≡ true → Lifts w lost
  lost_lifts there k came = rw (to_fronts.made (w.apps k).stream (asks (w.streams (w.apps k).stream).connect (w.apps k).number (pos 0)) (w.apps k).dial) (by_dial (w.apps k).dial refl)
    where
      by_link : (d : ℕ) → (w.apps k).dial ≡ Some d → (b : Bool) → ((w.dials d).link == l) ≡ b → Follows (tunnel_of w (w.apps k) (Some d)) (tunnel_of lost (lost.apps k) (Some d))
      by_link d de true on = on_link k came there d de (eqb-true (w.dials d).link l on)
      by_link d de false on = inl (elsewhere k came d de on)

      by_dial : (D : Option ℕ) → (w.apps k).dial ≡ D → Follows (tunnel_of w (w.apps k) D) (tunnel_of lost (lost.apps k) D)
      by_dial None de = inl (undrawn k came de)
      by_dial (Some d) de = by_link d de ((w.dials d).link == l) refl
