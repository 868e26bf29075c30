-- The server that loses a front keeps the facts on keys.
use Rattle.std.proofs.Common.{◌≡◌, ◌==◌, ◌++◌, ℕ, pos, Bool, true, false, not, cond, List, [], ◌∷◌, filter, map, Option, Some, None, refl, sym, ap, ◌∙◌, eqb-true, subst, append-nil}
use Rattle.std.specs.List.{list_any}
use Rattle.kn_packet.specs.declared.packet.Packet.{Packet}
use Rattle.kn_packet.specs.declared.packet.Packet.TheVariants.{CloseReq}
use Rattle.kn_tables.specs.Lists.{first_where, without}
use Rattle.kn_tables.specs.Awaiting.{is_dial, is_of_front}
use Rattle.kn_tables.specs.Holding.{closed_entry, is_held_by, is_held_dial}
use Rattle.kn_tables.specs.declared.awaited_entry.AwaitedEntry.{AwaitedEntry}
use Rattle.kn_tables.specs.declared.held_entry.HeldEntry.{HeldEntry}
use Rattle.kn_tables.specs.declared.held_entry.HeldState.{HeldState}
use Rattle.kn_tables.specs.declared.held_entry.HeldState.TheVariants.{Closing, Open}
use Rattle.kn_server_core.specs.declared.event.ServerEvent.TheVariants.{FrontLost}
use Rattle.kn_server_core.specs.FrontLists.{is_up}
use Rattle.kn_server_core.specs.Isolation.{Each, IsOrderly}
use Rattle.kn_server_core.specs.Server.{all_asked, asked_at_loss, front_left, front_lost, ignored, step}
use Rattle.kn_server_core.specs.Steps.{Step}
use Rattle.kn_server_core.proofs.OrderLemmas.{any_without}
use Rattle.kn_server_core.proofs.ReachedLemmas.{orderly_kept}
use Rattle.kn_server_core.proofs.SoundLemmas.{none_mapped, passes}
use Rattle.kn_server_core.proofs.TunnelTables.{left_dial, some_same}
use Rattle.kn_tunnel.specs.Kinds.{is_present}
use Rattle.kn_tunnel.specs.Tunnel.{Gone}
use Rattle.kn_words.specs.Down.{OtherDown, down_item}
use Rattle.kn_words.specs.Numbers.{is_drawn_number}
use Rattle.kn_words.proofs.DownGiven.{DownFollow}
use Rattle.kn_packets.specs.Keys.{HeldFits, IsBelow, Keys}
use Rattle.kn_packets.specs.Lifts.{Lifts}
use Rattle.kn_packets.specs.Moves.{IsFrontOf, May, ServerLosesFront, after, front_is, in_is, out_is, served}
use Rattle.kn_packets.specs.Outputs.{for_link, more_if}
use Rattle.kn_packets.specs.World.{World}
use Rattle.kn_packets.proofs.Arrivals.{front_loss_lifts}
use Rattle.kn_packets.proofs.Fresh.{eqb_refl}
use Rattle.kn_packets.proofs.FrontLosses as loss
use Rattle.kn_packets.proofs.Owners.{key_is}
use Rattle.kn_packets.proofs.ServerAsks.{carry_free, connection_drawn, down_of_dial}
use Rattle.kn_packets.proofs.ServerCalm.{Calm, OfConnections, calm_keeps, links_no_dial, one_down, others_down}
use Rattle.kn_packets.proofs.ServerComes.{no_outs, now}
use Rattle.kn_packets.proofs.ServerKept.{Before, Remains}
use Rattle.kn_packets.proofs.Tables.{mapped_found}

module _ (w : World) (f : ℕ) (left : List Packet) (keys : Keys w) (front_of : IsFrontOf left (w.streams f).down) where
  abbrev pub cut_off : Before
  cut_off = record (now w) { fronts = λ i. cond (i == f) Gone (w.streams i).front; ins = λ i. cond (i == f) [] (w.streams i).up; outs = λ i. cond (i == f) left (w.streams i).down }

  pub remains : Remains w cut_off
  remains = record { ups = λ i. ([], refl); downs = λ i. ([], append-nil (w.links i).down); ins = λ i. ins i (i == f) refl; outs = λ i. outs i (i == f) refl }
    where
      ins : (i : ℕ) (b : Bool) → (i == f) ≡ b → (taken : List Packet) × (taken ++ cond b [] (w.streams i).up ≡ (w.streams i).up)
      ins i true on = ((w.streams i).up, append-nil (w.streams i).up)
      ins i false off = ([], refl)

      outs : (i : ℕ) (b : Bool) → (i == f) ≡ b → IsFrontOf (cond b left (w.streams i).down) (w.streams i).down
      outs i true on = (front_of.0, front_of.1 ∙ ap (λ j. (w.streams j).down) (sym (eqb-true i f on)))
      outs i false off = ([], append-nil (w.streams i).down)

  -- ---- entries that are left stood there before
  still_awaited : (d : ℕ) (x : AwaitedEntry) → first_where (is_dial d) (filter (λ e. not (is_of_front f e)) w.server.awaited) ≡ Some x → first_where (is_dial d) w.server.awaited ≡ Some x
  still_awaited d x h = here (first_where (is_dial d) w.server.awaited) refl
    where
      by_front : (e : AwaitedEntry) → first_where (is_dial d) w.server.awaited ≡ Some e → (b : Bool) → (e.front == f) ≡ b → first_where (is_dial d) w.server.awaited ≡ Some x
      by_front e at true on =
          let none = loss.awaited_gone w f left keys front_of d (λ y ye. ap (λ (z : AwaitedEntry). z.front) (some_same (first_where (is_dial d) w.server.awaited) y e ye at) ∙ eqb-true e.front f on) in
          absurd (cc (none, h))
      by_front e at false off = sym (loss.awaited_stays w f left keys front_of d (λ y ye. ap (λ (z : AwaitedEntry). z.front == f) (some_same (first_where (is_dial d) w.server.awaited) y e ye at) ∙ off)) ∙ h

      here : (o : Option AwaitedEntry) → first_where (is_dial d) w.server.awaited ≡ o → first_where (is_dial d) w.server.awaited ≡ Some x
      here None none = sym (loss.awaited_stays w f left keys front_of d (λ y ye. absurd (cc (none, ye)))) ∙ h
      here (Some e) at = by_front e at (e.front == f) refl

  left_fits : (d : ℕ) (e : HeldEntry) → HeldFits w d e → HeldFits w d (front_left f e)
  left_fits d e fits = here (is_held_by f e)
    where
      here : (b : Bool) → HeldFits w d (cond b (closed_entry false e) e)
      here true = record { link = fits.link; cid = fits.cid; drawn = fits.drawn; named = fits.named; front = λ k g came de none. absurd cc }
      here false = fits

  held : (d : ℕ) (x : HeldEntry) → first_where (is_held_dial d) (map (front_left f) w.server.held) ≡ Some x → HeldFits w d x
  held d x h = here (first_where (is_held_dial d) w.server.held) refl
    where
      here : (o : Option HeldEntry) → first_where (is_held_dial d) w.server.held ≡ o → HeldFits w d x
      here None none = let gone = none_mapped (front_left f) d (λ y. left_dial f y) w.server.held none in absurd (cc (gone, h))
      here (Some e) at =
          let same : front_left f e ≡ x = some_same (first_where (is_held_dial d) (map (front_left f) w.server.held)) (front_left f e) x (mapped_found (front_left f) d e w.server.held (λ y. left_dial f y) at) h in
          subst (λ y. HeldFits w d y) same (left_fits d e (keys.server.held d e at))

  -- ---- what agents are sent
  asked_fit : (i : ℕ) (es : List HeldEntry) → Each (λ (e : HeldEntry). (is_held_by f e ≡ true) × (first_where (is_held_dial e.dial) w.server.held ≡ Some e)) es → Each (OfConnections (w.agents i).next_connect_id) (for_link i (all_asked es))
  asked_fit i [] its = tt
  asked_fit i (e ∷ es) its = by_state e.state (asked_fit i es its.1)
    where
      by_link : (b : Bool) → (i == e.link) ≡ b → Each (OfConnections (w.agents i).next_connect_id) (for_link i (all_asked es)) → Each (OfConnections (w.agents i).next_connect_id) (more_if b (CloseReq e.connect_id) (for_link i (all_asked es)))
      by_link true on more = (subst (λ j. IsBelow (w.agents j).next_connect_id e.connect_id) (sym (eqb-true i e.link on)) (connection_drawn w keys e its.0.1), more)
      by_link false off more = more

      by_state : (s : HeldState) → Each (OfConnections (w.agents i).next_connect_id) (for_link i (all_asked es)) → Each (OfConnections (w.agents i).next_connect_id) (for_link i (asked_at_loss s e ++ all_asked es))
      by_state Closing more = more
      by_state Open more = by_link (i == e.link) refl more

  down : (k d : ℕ) → (w.apps k).came ≡ true → (w.apps k).dial ≡ Some d → not (w.agents (w.dials d).link).lost ≡ true → DownFollow (down_item (w.dials d).cid) (down_of_dial w d) (for_link (w.dials d).link (all_asked (loss.its_held w f left keys front_of)))
  down k d came de agent = by_entry (first_where (is_held_dial d) w.server.held) refl
    where
      silent : ((e : HeldEntry) → first_where (is_held_dial d) w.server.held ≡ Some e → e.front ≡ Some f → e.state ≡ Open → ⊥) → DownFollow (down_item (w.dials d).cid) (down_of_dial w d) (for_link (w.dials d).link (all_asked (loss.its_held w f left keys front_of)))
      silent none = others_down (down_item (w.dials d).cid) (down_of_dial w d) (for_link (w.dials d).link (all_asked (loss.its_held w f left keys front_of))) (loss.quiet_if w f left keys front_of d none)

      same_is : (e y : HeldEntry) → first_where (is_held_dial d) w.server.held ≡ Some e → first_where (is_held_dial d) w.server.held ≡ Some y → y ≡ e
      same_is e y at ye = some_same (first_where (is_held_dial d) w.server.held) y e ye at

      asked : (e : HeldEntry) → first_where (is_held_dial d) w.server.held ≡ Some e → e.front ≡ Some f → e.state ≡ Open → DownFollow (down_item (w.dials d).cid) (down_of_dial w d) (for_link (w.dials d).link (all_asked (loss.its_held w f left keys front_of)))
      asked e at front opened =
          let fits = keys.server.held d e at in
          let same : e.dial ≡ d = eqb-true e.dial d (passes (is_held_dial d) e w.server.held at) in
          let entry : first_where (is_held_dial e.dial) w.server.held ≡ Some e = ap (λ i. first_where (is_held_dial i) w.server.held) same ∙ at in
          let key : is_drawn_number (w.dials d).cid e.connect_id ≡ true = key_is (w.dials d).cid e.connect_id fits.cid fits.drawn fits.named in
          one_down (down_item (w.dials d).cid) (λ q. down_item (w.dials d).cid q ≡ OtherDown) (λ q h. h) (down_of_dial w d) (CloseReq e.connect_id) (for_link (w.dials d).link (all_asked (loss.its_held w f left keys front_of)))
          (rw key (carry_free w keys e entry f front opened k d came de agent (sym same)))
          (loss.one_asked w f left keys front_of d e opened fits.link (loss.its_held w f left keys front_of) (loss.held_its w f left keys front_of) (loss.own_held w f left keys front_of d e at front))

      by_state : (e : HeldEntry) → first_where (is_held_dial d) w.server.held ≡ Some e → e.front ≡ Some f → (s : HeldState) → e.state ≡ s → DownFollow (down_item (w.dials d).cid) (down_of_dial w d) (for_link (w.dials d).link (all_asked (loss.its_held w f left keys front_of)))
      by_state e at front Open es = asked e at front es
      by_state e at front Closing es = silent (λ y ye yf yo. cc (ap (λ (z : HeldEntry). z.state) (same_is e y at ye), yo, es))

      by_number : (e : HeldEntry) (g : ℕ) → first_where (is_held_dial d) w.server.held ≡ Some e → e.front ≡ Some g → (b : Bool) → (g == f) ≡ b → DownFollow (down_item (w.dials d).cid) (down_of_dial w d) (for_link (w.dials d).link (all_asked (loss.its_held w f left keys front_of)))
      by_number e g at front true on = by_state e at (front ∙ ap Some (eqb-true g f on)) e.state refl
      by_number e g at front false off = silent (λ y ye yf yo. other y (ap (λ (z : HeldEntry). z.front) (same_is e y at ye)) yf)
        where
          one : (a b : ℕ) → Some a ≡ Some b → a ≡ b
          one a b h = cc

          other : (y : HeldEntry) → y.front ≡ e.front → y.front ≡ Some f → ⊥
          other y same yf = let it : g ≡ f = one g f (sym front ∙ sym same ∙ yf) in let yes : (g == f) ≡ true = ap (λ n. n == f) it ∙ eqb_refl f in cc (yes, off)

      by_entry : (o : Option HeldEntry) → first_where (is_held_dial d) w.server.held ≡ o → DownFollow (down_item (w.dials d).cid) (down_of_dial w d) (for_link (w.dials d).link (all_asked (loss.its_held w f left keys front_of)))
      by_entry None none = silent (λ y ye yf yo. cc (none, ye))
      by_entry (Some e) at = by_front e.front refl
        where
          by_front : (o : Option ℕ) → e.front ≡ o → DownFollow (down_item (w.dials d).cid) (down_of_dial w d) (for_link (w.dials d).link (all_asked (loss.its_held w f left keys front_of)))
          by_front None front = silent (λ y ye yf yo. cc (ap (λ (z : HeldEntry). z.front) (same_is e y at ye), yf, front))
          by_front (Some g) front = by_number e g at front (g == f) refl

  fronts : (i : ℕ) (b : Bool) → (i == f) ≡ b → is_present (cond b Gone (w.streams i).front) ≡ true → list_any (λ x. x == i) (without (λ x. x == f) w.server.fronts.fronts) ≡ true
  fronts i true on h = absurd cc
  fronts i false off h = any_without (λ x. x == i) (λ x. x == f) w.server.fronts.fronts (λ x own. ap (λ n. n == f) (eqb-true x i own) ∙ off) (keys.server.fronts_up i h)

  loss_calm : is_up f w.server.fronts ≡ true → Calm w (front_lost w.server f) cut_off
  loss_calm up =
      let to = loss.to_links w f left keys front_of in record {
        remains = remains;
        orderly = orderly;
        undrawn = links_no_dial (front_lost w.server f).outs to;
        links = keys.server.links_up;
        fronts = λ i. fronts i (i == f) refl;
        number = refl;
        awaited = λ d x h. keys.server.awaited d x (still_awaited d x h);
        held = held;
        to_links = λ i. asked_fit i (loss.its_held w f left keys front_of) (loss.held_its w f left keys front_of);
        to_fronts = λ g. rw (to.front g) tt;
        outward = λ k came there. rw (to.front (w.apps k).stream) tt;
        down = down;
      }
    where
      orderly : IsOrderly (front_lost w.server f).state
      orderly = subst (λ (t : Step). IsOrderly t.state) whole (orderly_kept w.server (FrontLost f) keys.server.orderly)
        where
          whole : step w.server (FrontLost f) ≡ front_lost w.server f
          whole = rw up refl

  -- a front whose head is on the way is not up
  unheard_calm : Calm w (ignored w.server) cut_off
  unheard_calm = record {
    remains = remains;
    orderly = keys.server.orderly;
    undrawn = no_outs;
    links = keys.server.links_up;
    fronts = λ i. others i (i == f) refl;
    number = refl;
    awaited = keys.server.awaited;
    held = keys.server.held;
    to_links = λ i. tt;
    to_fronts = λ g. tt;
    outward = λ k came there. tt;
    down = λ k d came de there. tt;
  }
    where
      others : (i : ℕ) (b : Bool) → (i == f) ≡ b → is_present (cond b Gone (w.streams i).front) ≡ true → is_up i w.server.fronts ≡ true
      others i true on h = absurd cc
      others i false off h = keys.server.fronts_up i h

pub front_loss_keeps : (w : World) (f : ℕ) (left : List Packet) → Keys w → May (ServerLosesFront f left) w → Keys (after (ServerLosesFront f left) w)
front_loss_keeps w f left keys may = by_up (is_up f w.server.fronts) refl (front_loss_lifts w f left keys may)
  where
    stepped : (s : Step) → step w.server (FrontLost f) ≡ s → Calm w s (cut_off w f left keys may.1) → Lifts w (after (ServerLosesFront f left) w) → Keys (after (ServerLosesFront f left) w)
    stepped s whole calm = subst (λ t. Lifts w (served (pos 0) t (front_is f Gone (in_is f [] (out_is f left w)))) → Keys (served (pos 0) t (front_is f Gone (in_is f [] (out_is f left w))))) (sym whole) (calm_keeps w (pos 0) s (cut_off w f left keys may.1) keys calm)

    by_up : (b : Bool) → is_up f w.server.fronts ≡ b → Lifts w (after (ServerLosesFront f left) w) → Keys (after (ServerLosesFront f left) w)
    by_up true e = stepped (front_lost w.server f) (rw e refl) (loss_calm w f left keys may.1 e)
    by_up false e = stepped (ignored w.server) (rw e refl) (unheard_calm w f left keys may.1)
