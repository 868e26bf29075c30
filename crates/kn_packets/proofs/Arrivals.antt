-- A link or a front comes up at the server, and the server loses a link.
use Rattle.std.proofs.Common.{◌≡◌, ◌==◌, ℕ, pos, Bool, true, false, not, List, [], Option, Some, None, inl, inr, refl, ◌∙◌, eqb-true, subst}
use Rattle.kn_packet.specs.declared.packet.Packet.{Packet}
use Rattle.kn_route.specs.declared.id_kind.IdKind.{IdKind}
use Rattle.kn_tables.specs.Lists.{first_where}
use Rattle.kn_tables.specs.Awaiting.{is_dial}
use Rattle.kn_tables.specs.Holding.{is_held_dial}
use Rattle.kn_tables.specs.declared.awaited_entry.AwaitedEntry.{AwaitedEntry}
use Rattle.kn_tables.specs.declared.held_entry.HeldEntry.{HeldEntry}
use Rattle.kn_server_core.specs.FrontLists.{is_up}
use Rattle.kn_server_core.specs.Server.{ignored}
use Rattle.kn_tables.specs.declared.held_entry.HeldState.{HeldState}
use Rattle.kn_tables.specs.declared.held_entry.HeldState.TheVariants.{Closing, Open}
use Rattle.kn_tunnel.proofs.Holdings.{holding_front}
use Rattle.kn_tunnel.specs.Cuts.{IsCutOut}
use Rattle.kn_tunnel.specs.Facts.{Facts}
use Rattle.kn_tunnel.specs.Steps as step
use Rattle.kn_words.specs.Out.{out_ordered, stream_out_item, stream_out_word}
use Rattle.kn_words.proofs.OutOrder.{out_prefix_cut}
use Rattle.kn_tunnel.specs.Events as event
use Rattle.kn_tunnel.specs.Kinds.{is_coming, is_gone, is_present, needs_front}
use Rattle.kn_tunnel.specs.Steps.{Follows}
use Rattle.kn_tunnel.specs.Tunnel.{Coming, Front, Gone, Present}
use Rattle.kn_packets.specs.Keys.{Keys}
use Rattle.kn_packets.specs.Lifts.{Lifts}
use Rattle.kn_packets.specs.Moves.{FrontComes, IsFrontOf, LinkComes, May, ServerLosesFront, ServerLosesLink, after, front_is, in_is, out_is, served}
use Rattle.kn_packets.specs.World.{World, entry_at, tunnel_of}
use Rattle.kn_packets.proofs.Fresh.{eqb_refl}
use Rattle.kn_packets.proofs.FrontLosses as front_lifts
use Rattle.kn_packets.proofs.LinkLosses.{lost_lifts}
use Rattle.kn_packets.proofs.Taken.{and_second}

comes_is : (x : Front) → is_coming x ≡ true → x ≡ Coming
comes_is Coming e = refl
comes_is Present e = absurd cc
comes_is Gone e = absurd cc

pub link_comes_lifts : (w : World) (l : ℕ) (identifiers : List (IdKind × List ℕ)) → May (LinkComes l identifiers) w → Lifts w (after (LinkComes l identifiers) w)
link_comes_lifts w l identifiers may k came = inl (by_dial (w.apps k).dial)
  where
    by_link : (d : ℕ) (b : Bool) → ((w.dials d).link == l) ≡ b → tunnel_of (after (LinkComes l identifiers) w) (w.apps k) (Some d) ≡ tunnel_of w (w.apps k) (Some d)
    by_link d true on = rw (eqb-true (w.dials d).link l on, eqb_refl l, comes_is (w.links l).server may) refl
    by_link d false on = rw on refl

    by_dial : (D : Option ℕ) → tunnel_of (after (LinkComes l identifiers) w) (w.apps k) D ≡ tunnel_of w (w.apps k) D
    by_dial None = refl
    by_dial (Some d) = by_link d ((w.dials d).link == l) refl

pub front_comes_lifts : (w : World) (f : ℕ) → May (FrontComes f) w → Lifts w (after (FrontComes f) w)
front_comes_lifts w f may k came = by_stream ((w.apps k).stream == f) refl (w.apps k).dial
  where
    coming : is_coming (w.streams f).front ≡ true
    coming = and_second (w.streams f).begun (is_coming (w.streams f).front) may

    by_stream : (b : Bool) → ((w.apps k).stream == f) ≡ b → (D : Option ℕ) → Follows (tunnel_of w (w.apps k) D) (tunnel_of (after (FrontComes f) w) (w.apps k) D)
    by_stream true on None = let at = eqb-true (w.apps k).stream f on in inr (event.FrontUp, (rw at coming, tt), rw (at, eqb_refl f) refl)
    by_stream true on (Some d) = let at = eqb-true (w.apps k).stream f on in inr (event.FrontUp, (rw at coming, tt), rw (at, eqb_refl f) refl)
    by_stream false on None = inl (rw on refl)
    by_stream false on (Some d) = inl (rw on refl)

pub link_loss_lifts : (w : World) (l : ℕ) (left : List Packet) → Keys w → May (ServerLosesLink l left) w → Lifts w (after (ServerLosesLink l left) w)
link_loss_lifts w l left keys may = rw (keys.server.links_up l ∙ may.0) (lost_lifts w l left keys may.1 (there (w.links l).server may.0))
  where
    there : (x : Front) → is_present x ≡ true → not (is_gone x) ≡ true
    there Present e = refl
    there Coming e = absurd cc
    there Gone e = absurd cc

-- a front whose head is on the way has no entry that names it
module _ (w : World) (f : ℕ) (left : List Packet) (keys : Keys w) (front_of : IsFrontOf left (w.streams f).down) (coming : (w.streams f).front ≡ Coming) where
  abbrev unheard : World
  unheard = served (pos 0) (ignored w.server) (front_is f Gone (in_is f [] (out_is f left w)))

  unheard_lifts : Lifts w unheard
  unheard_lifts k came = by_stream ((w.apps k).stream == f) refl (w.apps k).dial refl
    where
      cut : (D : Option ℕ) → (w.apps k).dial ≡ D → (w.apps k).stream ≡ f → IsCutOut (stream_out_word (w.streams f).connect (w.apps k).number D left) (stream_out_word (w.streams f).connect (w.apps k).number D (w.streams f).down)
      cut D de on = subst (λ ps. out_ordered (stream_out_item (w.streams f).connect (w.apps k).number D) ps ≡ true → IsCutOut (stream_out_word (w.streams f).connect (w.apps k).number D left) (stream_out_word (w.streams f).connect (w.apps k).number D ps))
          front_of.1 (out_prefix_cut (stream_out_item (w.streams f).connect (w.apps k).number D) left front_of.0) (rw (on, de) at ((keys.ordered k came).outward))

      never : (d : ℕ) → (w.apps k).dial ≡ Some d → (w.apps k).stream ≡ f → needs_front (entry_at w.server d) ≡ true → ⊥
      never d de on needs =
          let facts : Facts (tunnel_of w (w.apps k) (Some d)) = rw de at (keys.facts k came) in
          let present : is_present (w.streams (w.apps k).stream).front ≡ true = holding_front (tunnel_of w (w.apps k) (Some d)) facts needs in
          cc (rw (on, coming) at present)

      eq : (d : ℕ) → (w.apps k).dial ≡ Some d → (w.apps k).stream ≡ f → (a : Option AwaitedEntry) (h : Option HeldEntry) → first_where (is_dial d) w.server.awaited ≡ a → first_where (is_held_dial d) w.server.held ≡ h
          → tunnel_of unheard (w.apps k) (Some d) ≡ step.after (event.FrontLost (stream_out_word (w.streams f).connect (w.apps k).number (Some d) left)) (tunnel_of w (w.apps k) (Some d))
      eq d de on None None ae he = rw (ae, he, on, eqb_refl f) refl
      eq d de on (Some a) None ae he = absurd (never d de on (rw (ae, he) refl))
      eq d de on a (Some e) ae he = by_front e.front refl e.state refl
        where
          by_front : (o : Option ℕ) → e.front ≡ o → (s : HeldState) → e.state ≡ s → tunnel_of unheard (w.apps k) (Some d) ≡ step.after (event.FrontLost (stream_out_word (w.streams f).connect (w.apps k).number (Some d) left)) (tunnel_of w (w.apps k) (Some d))
          by_front None ef s es = rw (he, ef, on, eqb_refl f) refl
          by_front (Some g) ef Open es = absurd (never d de on (rw (he, ef, es) refl))
          by_front (Some g) ef Closing es = absurd (never d de on (rw (he, ef, es) refl))

      gone_no : not (is_gone (w.streams f).front) ≡ true
      gone_no = rw coming refl

      by_stream : (b : Bool) → ((w.apps k).stream == f) ≡ b → (D : Option ℕ) → (w.apps k).dial ≡ D → Follows (tunnel_of w (w.apps k) D) (tunnel_of unheard (w.apps k) D)
      by_stream true at None de = let on = eqb-true (w.apps k).stream f at in inr (event.FrontLost (stream_out_word (w.streams f).connect (w.apps k).number None left), (rw on gone_no, rw on (cut None de on)), rw (on, eqb_refl f) refl)
      by_stream true at (Some d) de = let on = eqb-true (w.apps k).stream f at in
          inr (event.FrontLost (stream_out_word (w.streams f).connect (w.apps k).number (Some d) left), (rw on gone_no, rw on (cut (Some d) de on)), eq d de on (first_where (is_dial d) w.server.awaited) (first_where (is_held_dial d) w.server.held) refl refl)
      by_stream false off None de = inl (rw off refl)
      by_stream false off (Some d) de = inl (rw off refl)

pub front_loss_lifts : (w : World) (f : ℕ) (left : List Packet) → Keys w → May (ServerLosesFront f left) w → Lifts w (after (ServerLosesFront f left) w)
front_loss_lifts w f left keys may = by_up (is_up f w.server.fronts) refl
  where
    there : not (is_gone (w.streams f).front) ≡ true
    there = and_second (w.streams f).begun (not (is_gone (w.streams f).front)) may.0

    waiting : (x : Front) → (w.streams f).front ≡ x → is_up f w.server.fronts ≡ false → x ≡ Coming
    waiting Coming fe e = refl
    waiting Present fe e = let up : is_up f w.server.fronts ≡ true = keys.server.fronts_up f (rw fe refl) in absurd (cc (up, e))
    waiting Gone fe e = absurd (cc (rw fe at there))

    by_up : (b : Bool) → is_up f w.server.fronts ≡ b → Lifts w (after (ServerLosesFront f left) w)
    by_up true e = rw e (front_lifts.lost_lifts w f left keys may.1 there)
    by_up false e = rw e (unheard_lifts w f left keys may.1 (waiting (w.streams f).front refl e))
