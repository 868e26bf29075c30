-- The server that loses a link keeps the facts on keys.
use Rattle.std.proofs.Common.{◌≡◌, ◌==◌, ◌||◌, ◌++◌, ℕ, pos, Bool, true, false, not, cond, List, [], ◌∷◌, filter, Option, Some, None, refl, sym, ap, ◌∙◌, eqb-true, subst, append-nil}
use Rattle.std.specs.Prelude.{codes}
use Rattle.std.specs.List.{list_any}
use Rattle.kn_packet.specs.declared.packet.Packet.{Packet}
use Rattle.kn_packet.specs.declared.packet.Packet.TheVariants.{CloseRsp, DialRsp}
use Rattle.kn_route.specs.LinkLists.{has_link, is_link}
use Rattle.kn_route.specs.declared.link.Link.{Link}
use Rattle.kn_tables.specs.Lists.{first_where}
use Rattle.kn_tables.specs.Awaiting.{is_dial, is_of_link}
use Rattle.kn_tables.specs.Holding.{is_held_dial, is_held_on}
use Rattle.kn_tables.specs.declared.awaited_entry.AwaitedEntry.{AwaitedEntry}
use Rattle.kn_tables.specs.declared.held_entry.HeldEntry.{HeldEntry}
use Rattle.kn_server_core.specs.declared.event.ServerEvent.TheVariants.{LinkLost}
use Rattle.kn_server_core.specs.declared.event.ServerOut.{ServerOut}
use Rattle.kn_server_core.specs.Isolation.{Each, IsOrderly}
use Rattle.kn_server_core.specs.Server.{all_awaited_lost, all_held_lost, ended_to, link_lost, step}
use Rattle.kn_server_core.specs.Steps.{Step}
use Rattle.kn_server_core.proofs.EntryLemmas.{each_more}
use Rattle.kn_server_core.proofs.ReachedLemmas.{orderly_kept}
use Rattle.kn_server_core.proofs.SoundLemmas.{passes}
use Rattle.kn_server_core.proofs.TunnelTables.{false_unless, some_same}
use Rattle.kn_tunnel.specs.Kinds.{is_present}
use Rattle.kn_tunnel.specs.Tunnel.{Gone}
use Rattle.kn_words.specs.Numbers.{is_drawn_number}
use Rattle.kn_words.specs.Out.{OtherOut, out_follows, stream_out_item}
use Rattle.kn_words.proofs.OutGiven.{OutFollow}
use Rattle.kn_packets.specs.Keys.{Keys}
use Rattle.kn_packets.specs.Lifts.{Lifts}
use Rattle.kn_packets.specs.Moves.{IsFrontOf, May, ServerLosesLink, after, down_is, link_is, served, up_is}
use Rattle.kn_packets.specs.Outputs.{for_front, more_if}
use Rattle.kn_packets.specs.World.{World}
use Rattle.kn_packets.proofs.AgentKept.{each_as}
use Rattle.kn_packets.proofs.Arrivals.{link_loss_lifts}
use Rattle.kn_packets.proofs.LinkLosses as loss
use Rattle.kn_packets.proofs.ServerCalm.{Calm, calm_keeps, fronts_no_dial, item_of, one_follows, others_follow}
use Rattle.kn_packets.proofs.ServerComes.{now, other_way}
use Rattle.kn_packets.proofs.ServerKept.{Before, FitsFront, Remains}
use Rattle.kn_packets.proofs.ServerTells.{asked_on, head_free, held_older, over_free, word_of}
use Rattle.kn_packets.proofs.TakesClose.{ended_item}
use Rattle.kn_packets.proofs.TakesRequest.{refusal_own}
use Rattle.kn_packets.proofs.Told.{IsOne, NotFor}

-- ---- the links
any_gone : (l : ℕ) (xs : List Link) → list_any (is_link l) (filter (λ x. not (is_link l x)) xs) ≡ false
any_gone l [] = refl
any_gone l (x ∷ xs) = here (is_link l x) refl (any_gone l xs)
  where
    here : (b : Bool) → is_link l x ≡ b → list_any (is_link l) (filter (λ y. not (is_link l y)) xs) ≡ false → list_any (is_link l) (cond (not b) (x ∷ filter (λ y. not (is_link l y)) xs) (filter (λ y. not (is_link l y)) xs)) ≡ false
    here true own later = later
    here false other later = rw other later

any_others : (l i : ℕ) → (l == i) ≡ false → (xs : List Link) → list_any (is_link i) (filter (λ x. not (is_link l x)) xs) ≡ list_any (is_link i) xs
any_others l i off [] = refl
any_others l i off (x ∷ xs) = here (is_link l x) refl (any_others l i off xs)
  where
    here : (b : Bool) → is_link l x ≡ b → list_any (is_link i) (filter (λ y. not (is_link l y)) xs) ≡ list_any (is_link i) xs
        → list_any (is_link i) (cond (not b) (x ∷ filter (λ y. not (is_link l y)) xs) (filter (λ y. not (is_link l y)) xs)) ≡ (is_link i x || list_any (is_link i) xs)
    here true own later = let none : is_link i x ≡ false = ap (λ n. n == i) (eqb-true x.number l own) ∙ off in rw none later
    here false other later = ap (λ b. is_link i x || b) later

module _ (w : World) (l : ℕ) (left : List Packet) (keys : Keys w) (front_of : IsFrontOf left (w.links l).down) where
  abbrev pub cut_off : Before
  cut_off = record (now w) { links = λ i. cond (i == l) Gone (w.links i).server; ups = λ i. cond (i == l) [] (w.links i).up; downs = λ i. cond (i == l) left (w.links i).down }

  pub remains : Remains w cut_off
  remains = record { ups = λ i. ups i (i == l) refl; downs = λ i. downs i (i == l) refl; ins = λ i. ([], refl); outs = λ i. ([], append-nil (w.streams i).down) }
    where
      ups : (i : ℕ) (b : Bool) → (i == l) ≡ b → (taken : List Packet) × (taken ++ cond b [] (w.links i).up ≡ (w.links i).up)
      ups i true on = ((w.links i).up, append-nil (w.links i).up)
      ups i false off = ([], refl)

      downs : (i : ℕ) (b : Bool) → (i == l) ≡ b → IsFrontOf (cond b left (w.links i).down) (w.links i).down
      downs i true on = (front_of.0, front_of.1 ∙ ap (λ j. (w.links j).down) (sym (eqb-true i l on)))
      downs i false off = ([], append-nil (w.links i).down)

  links : (i : ℕ) (b : Bool) → (i == l) ≡ b → list_any (is_link i) (filter (λ x. not (is_link l x)) w.server.links.links) ≡ is_present (cond b Gone (w.links i).server)
  links i true on = ap (λ j. list_any (is_link j) (filter (λ x. not (is_link l x)) w.server.links.links)) (eqb-true i l on) ∙ any_gone l w.server.links.links
  links i false off = any_others l i (other_way i l off) w.server.links.links ∙ keys.server.links_up i

  -- ---- entries that are left stood there before
  still_awaited : (d : ℕ) (x : AwaitedEntry) → first_where (is_dial d) (filter (λ e. not (is_of_link l e)) w.server.awaited) ≡ Some x → first_where (is_dial d) w.server.awaited ≡ Some x
  still_awaited d x f = here ((w.dials d).link == l) refl
    where
      here : (b : Bool) → ((w.dials d).link == l) ≡ b → first_where (is_dial d) w.server.awaited ≡ Some x
      here true on = let none = loss.awaited_gone w l left keys front_of d (eqb-true (w.dials d).link l on) in absurd (cc (none, f))
      here false off = sym (loss.awaited_stays w l left keys front_of d off) ∙ f

  still_held : (d : ℕ) (x : HeldEntry) → first_where (is_held_dial d) (filter (λ e. not (is_held_on l e)) w.server.held) ≡ Some x → first_where (is_held_dial d) w.server.held ≡ Some x
  still_held d x f = here ((w.dials d).link == l) refl
    where
      here : (b : Bool) → ((w.dials d).link == l) ≡ b → first_where (is_held_dial d) w.server.held ≡ Some x
      here true on = let none = loss.held_gone w l left keys front_of d (eqb-true (w.dials d).link l on) in absurd (cc (none, f))
      here false off = sym (loss.held_stays w l left keys front_of d off) ∙ f

  -- ---- what fronts are told
  awaited_fit : (f : ℕ) (es : List AwaitedEntry) (us : List ServerOut) → Each (λ (e : AwaitedEntry). (is_of_link l e ≡ true) × (first_where (is_dial e.dial) w.server.awaited ≡ Some e)) es → Each (FitsFront w f) (for_front f us)
      → Each (FitsFront w f) (for_front f (all_awaited_lost es ++ us))
  awaited_fit f [] us its h = h
  awaited_fit f (e ∷ es) us its h = here (f == e.front) refl (awaited_fit f es us its.1 h)
    where
      here : (b : Bool) → (f == e.front) ≡ b → Each (FitsFront w f) (for_front f (all_awaited_lost es ++ us)) → Each (FitsFront w f) (more_if b (DialRsp (codes "agent lost") (pos 0) e.random) (for_front f (all_awaited_lost es ++ us)))
      here true on more = (subst (λ g. FitsFront w g (DialRsp (codes "agent lost") (pos 0) e.random)) (sym (eqb-true f e.front on)) (keys.server.from_one, λ client. asked_on w keys e its.0.1), more)
      here false off more = more

  held_fit : (f : ℕ) (es : List HeldEntry) → Each (λ (e : HeldEntry). (is_held_on l e ≡ true) × (first_where (is_held_dial e.dial) w.server.held ≡ Some e)) es → Each (FitsFront w f) (for_front f (all_held_lost es))
  held_fit f [] its = tt
  held_fit f (e ∷ es) its = by_front e.front (held_fit f es its.1)
    where
      by_front : (o : Option ℕ) → Each (FitsFront w f) (for_front f (all_held_lost es)) → Each (FitsFront w f) (for_front f (ended_to o e.dial (codes "agent lost") ++ all_held_lost es))
      by_front None more = more
      by_front (Some g) more = here (f == g) more
        where
          here : (b : Bool) → Each (FitsFront w f) (for_front f (all_held_lost es)) → Each (FitsFront w f) (more_if b (CloseRsp (codes "agent lost") (pos e.dial)) (for_front f (all_held_lost es)))
          here true more = ((held_older w keys e its.0.1, λ client. tt), more)
          here false more = more

  module _ (k : ℕ) (came : (w.apps k).came ≡ true) (there : (w.streams (w.apps k).stream).client ≡ true) where
    abbrev told_to : List Packet
    told_to = for_front (w.apps k).stream (all_awaited_lost (loss.lost_awaited w l left keys front_of) ++ all_held_lost (loss.lost_held w l left keys front_of))

    abbrev NotOurs : Packet → Type 0
    NotOurs p = NotFor (w.streams (w.apps k).stream).connect (w.apps k).number (w.apps k).dial p

    silent : Each NotOurs told_to → OutFollow (item_of w k) (word_of w k) told_to
    silent h = others_follow (item_of w k) (word_of w k) told_to (each_as NotOurs (λ q. item_of w k q ≡ OtherOut) (λ q n. n.1) told_to h)

    with_one : (p : Packet) → out_follows (word_of w k) (item_of w k p) ≡ true → IsOne NotOurs p told_to → OutFollow (item_of w k) (word_of w k) told_to
    with_one p f one = one_follows (item_of w k) NotOurs (λ q n. n.1) (word_of w k) p told_to f one

    undrawn : (w.apps k).dial ≡ None → OutFollow (item_of w k) (word_of w k) told_to
    undrawn de = silent (loss.quiet w l left keys front_of k came (none_a (loss.lost_awaited w l left keys front_of)) (none_h (loss.lost_held w l left keys front_of)))
      where
        none_a : (es : List AwaitedEntry) → Each (λ (e : AwaitedEntry). is_drawn_number (w.apps k).dial (pos e.dial) ≡ false) es
        none_a [] = tt
        none_a (e ∷ es) = (rw de refl, none_a es)

        none_h : (es : List HeldEntry) → Each (λ (e : HeldEntry). e.front ≡ Some (w.apps k).stream → is_drawn_number (w.apps k).dial (pos e.dial) ≡ false) es
        none_h [] = tt
        none_h (e ∷ es) = (λ f. rw de refl, none_h es)

    elsewhere : (d : ℕ) → (w.apps k).dial ≡ Some d → ((w.dials d).link == l) ≡ false → OutFollow (item_of w k) (word_of w k) told_to
    elsewhere d de off = silent (loss.quiet w l left keys front_of k came (loss.drawn_awaited w l left keys front_of k came d de (loss.away_awaited w l left keys front_of d off)) (loss.drawn_held w l left keys front_of k came d de (loss.away_held w l left keys front_of d off)))

    module _ (d : ℕ) (de : (w.apps k).dial ≡ Some d) (on : (w.dials d).link ≡ l) where
      its_dial : (x : AwaitedEntry) → first_where (is_dial d) w.server.awaited ≡ Some x → x.dial ≡ d
      its_dial x f = eqb-true x.dial d (passes (is_dial d) x w.server.awaited f)

      held_dial : (x : HeldEntry) → first_where (is_held_dial d) w.server.held ≡ Some x → x.dial ≡ d
      held_dial x f = eqb-true x.dial d (passes (is_held_dial d) x w.server.held f)

      refused : (e : AwaitedEntry) → first_where (is_dial d) w.server.awaited ≡ Some e → OutFollow (item_of w k) (word_of w k) told_to
      refused e ae =
          let fits = keys.server.awaited d e ae in
          let none : first_where (is_held_dial d) w.server.held ≡ None = keys.server.orderly.sound.apart d (rw ae refl) in
          let same = its_dial e ae in
          let silent_held = loss.quiet_held w l left keys front_of k came (loss.lost_held w l left keys front_of) (loss.held_its w l left keys front_of) (loss.drawn_held w l left keys front_of k came d de (loss.no_held w l left keys front_of d none)) in
          with_one (DialRsp (codes "agent lost") (pos 0) e.random)
          (ap (out_follows (word_of w k)) (refusal_own (w.streams (w.apps k).stream).connect (w.apps k).number (w.apps k).dial _ _ (pos 0) e.random (fits.random k came de))
          ∙ head_free w keys e (ap (λ i. first_where (is_dial i) w.server.awaited) same ∙ ae) k came there (de ∙ ap Some (sym same)))
          (loss.one_awaited w l left keys front_of k came d e de (sym (fits.front k came de)) (loss.lost_awaited w l left keys front_of) (all_held_lost (loss.lost_held w l left keys front_of)) (loss.awaited_its w l left keys front_of)
          (loss.own_awaited w l left keys front_of d e on ae) silent_held)

      not_awaited : (e : HeldEntry) → first_where (is_held_dial d) w.server.held ≡ Some e → (a : Option AwaitedEntry) → first_where (is_dial d) w.server.awaited ≡ a → a ≡ None
      not_awaited e he None ae = refl
      not_awaited e he (Some a) ae = let none : first_where (is_held_dial d) w.server.held ≡ None = keys.server.orderly.sound.apart d (rw ae refl) in absurd (cc (none, he))

      frontless : (e : HeldEntry) → first_where (is_held_dial d) w.server.held ≡ Some e → e.front ≡ None → OutFollow (item_of w k) (word_of w k) told_to
      frontless e he ef =
          let none = not_awaited e he (first_where (is_dial d) w.server.awaited) refl in
          silent (loss.quiet w l left keys front_of k came (loss.drawn_awaited w l left keys front_of k came d de (loss.no_awaited w l left keys front_of d none)) others)
        where
          others : Each (λ (x : HeldEntry). x.front ≡ Some (w.apps k).stream → is_drawn_number (w.apps k).dial (pos x.dial) ≡ false) (loss.lost_held w l left keys front_of)
          others = each_more (λ (x : HeldEntry). (is_held_on l x ≡ true) × (first_where (is_held_dial x.dial) w.server.held ≡ Some x)) (λ (x : HeldEntry). x.front ≡ Some (w.apps k).stream → is_drawn_number (w.apps k).dial (pos x.dial) ≡ false) (loss.lost_held w l left keys front_of)
              (λ x its front. rw de (false_unless (x.dial == d) (λ h. let same : x ≡ e = some_same (first_where (is_held_dial d) w.server.held) x e (ap (λ i. first_where (is_held_dial i) w.server.held) (sym (eqb-true x.dial d h)) ∙ its.1) he in cc (ap (λ (y : HeldEntry). y.front) same, front, ef))))
              (loss.held_its w l left keys front_of)

      closed : (e : HeldEntry) (f : ℕ) → first_where (is_held_dial d) w.server.held ≡ Some e → e.front ≡ Some f → OutFollow (item_of w k) (word_of w k) told_to
      closed e f he ef =
          let none = not_awaited e he (first_where (is_dial d) w.server.awaited) refl in
          let same = held_dial e he in
          let own : (w.apps k).dial ≡ Some e.dial = de ∙ ap Some (sym same) in
          with_one (CloseRsp (codes "agent lost") (pos e.dial))
          (ap (out_follows (word_of w k)) (ap (λ D. stream_out_item (w.streams (w.apps k).stream).connect (w.apps k).number D (CloseRsp (codes "agent lost") (pos e.dial))) own ∙ ended_item (w.streams (w.apps k).stream).connect (w.apps k).number e.dial (codes "agent lost"))
          ∙ over_free w keys e (ap (λ i. first_where (is_held_dial i) w.server.held) same ∙ he) f ef k came there own)
          (loss.behind_awaited w l left keys front_of k came (CloseRsp (codes "agent lost") (pos e.dial)) (loss.lost_awaited w l left keys front_of) (all_held_lost (loss.lost_held w l left keys front_of)) (loss.awaited_its w l left keys front_of)
          (loss.drawn_awaited w l left keys front_of k came d de (loss.no_awaited w l left keys front_of d none))
          (loss.one_held w l left keys front_of k came d e de (ef ∙ ap Some (sym ((keys.server.held d e he).front k f came de ef))) (loss.lost_held w l left keys front_of) (loss.held_its w l left keys front_of) (loss.own_held w l left keys front_of d e on he)))

      own : (a : Option AwaitedEntry) (h : Option HeldEntry) → first_where (is_dial d) w.server.awaited ≡ a → first_where (is_held_dial d) w.server.held ≡ h → OutFollow (item_of w k) (word_of w k) told_to
      own None None ae he = silent (loss.quiet w l left keys front_of k came (loss.drawn_awaited w l left keys front_of k came d de (loss.no_awaited w l left keys front_of d ae)) (loss.drawn_held w l left keys front_of k came d de (loss.no_held w l left keys front_of d he)))
      own (Some e) h ae he = refused e ae
      own None (Some e) ae he = by_front e.front refl
        where
          by_front : (front : Option ℕ) → e.front ≡ front → OutFollow (item_of w k) (word_of w k) told_to
          by_front None ef = frontless e he ef
          by_front (Some f) ef = closed e f he ef

    outward : OutFollow (item_of w k) (word_of w k) told_to
    outward = by_dial (w.apps k).dial refl
      where
        by_link : (d : ℕ) → (w.apps k).dial ≡ Some d → (b : Bool) → ((w.dials d).link == l) ≡ b → OutFollow (item_of w k) (word_of w k) told_to
        by_link d de true on = own d de (eqb-true (w.dials d).link l on) (first_where (is_dial d) w.server.awaited) (first_where (is_held_dial d) w.server.held) refl refl
        by_link d de false off = elsewhere d de off

        by_dial : (D : Option ℕ) → (w.apps k).dial ≡ D → OutFollow (item_of w k) (word_of w k) told_to
        by_dial None de = undrawn de
        by_dial (Some d) de = by_link d de ((w.dials d).link == l) refl

  loss_calm : has_link l w.server.links ≡ true → Calm w (link_lost w.server l) cut_off
  loss_calm linked =
      let to = loss.to_fronts w l left keys front_of in record {
        remains = remains;
        orderly = orderly;
        undrawn = fronts_no_dial (link_lost w.server l).outs to;
        links = λ i. links i (i == l) refl;
        fronts = keys.server.fronts_up;
        number = refl;
        awaited = λ d x h. keys.server.awaited d x (still_awaited d x h);
        held = λ d x h. keys.server.held d x (still_held d x h);
        to_links = λ i. rw (to.link i) tt;
        to_fronts = λ f. awaited_fit f (loss.lost_awaited w l left keys front_of) (all_held_lost (loss.lost_held w l left keys front_of)) (loss.awaited_its w l left keys front_of)
            (held_fit f (loss.lost_held w l left keys front_of) (loss.held_its w l left keys front_of));
        outward = outward;
        down = λ k d came de there. rw (to.link (w.dials d).link) tt;
      }
    where
      orderly : IsOrderly (link_lost w.server l).state
      orderly = subst (λ (t : Step). IsOrderly t.state) whole (orderly_kept w.server (LinkLost l) keys.server.orderly)
        where
          whole : step w.server (LinkLost l) ≡ link_lost w.server l
          whole = rw linked refl

pub link_loss_keeps : (w : World) (l : ℕ) (left : List Packet) → Keys w → May (ServerLosesLink l left) w → Keys (after (ServerLosesLink l left) w)
link_loss_keeps w l left keys may = here (link_loss_lifts w l left keys may)
  where
    linked : has_link l w.server.links ≡ true
    linked = keys.server.links_up l ∙ may.0

    whole : step w.server (LinkLost l) ≡ link_lost w.server l
    whole = rw linked refl

    here : Lifts w (after (ServerLosesLink l left) w) → Keys (after (ServerLosesLink l left) w)
    here = subst (λ s. Lifts w (served (pos 0) s (link_is l Gone (up_is l [] (down_is l left w)))) → Keys (served (pos 0) s (link_is l Gone (up_is l [] (down_is l left w))))) (sym whole)
        (calm_keeps w (pos 0) (link_lost w.server l) (cut_off w l left keys may.1) keys (loss_calm w l left keys may.1 linked))
