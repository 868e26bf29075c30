-- An agent asks for no further dials, loses its link, or drops what came; the server drops what it has not taken of a lost agent.
use Rattle.std.proofs.Common.{◌≡◌, ◌==◌, ◌&&◌, ◌++◌, ℕ, pos, Bool, true, false, not, cond, List, [], ◌∷◌, Option, Some, None, inl, inr, refl, sym, ap, ◌∙◌, eqb-true, subst}
use Rattle.kn_packet.specs.declared.packet.Packet.{Packet}
use Rattle.kn_packet.specs.declared.packet.Packet.TheVariants.{Drain}
use Rattle.kn_tables.specs.Lists.{first_where}
use Rattle.kn_edge_core.specs.Agent.{all_closed, all_dropped, drain_now, ignored, link_lost}
use Rattle.kn_edge_core.specs.AgentTables.{connection_at}
use Rattle.kn_edge_core.specs.declared.agent_event.AgentEvent.TheVariants as at_agent
use Rattle.kn_edge_core.specs.declared.agent_event.AgentOut.TheVariants as out
use Rattle.kn_edge_core.specs.declared.agent_state.AgentState.{AgentState}
use Rattle.kn_edge_core.specs.declared.connection.Connection.{Connection}
use Rattle.kn_edge_core.specs.declared.connection.DestState.{DestState}
use Rattle.kn_edge_core.specs.declared.connection.DestState.TheVariants as dest
use Rattle.kn_edge_core.specs.declared.dial.Dial.{Dial}
use Rattle.kn_tunnel.specs.Cuts.{IsCutUp}
use Rattle.kn_tunnel.specs.Events as event
use Rattle.kn_tunnel.specs.Facts.{Facts}
use Rattle.kn_tunnel.specs.Kinds.{is_asked, is_drawn, is_gone, is_listed}
use Rattle.kn_tunnel.specs.Steps as step
use Rattle.kn_tunnel.specs.Steps.{Follows}
use Rattle.kn_tunnel.specs.Tunnel.{Left, Side, Tunnel}
use Rattle.kn_words.specs.Down.{has_request}
use Rattle.kn_words.specs.Up.{up_item, up_ordered, up_word}
use Rattle.kn_words.proofs.UpOrder.{up_prefix_cut}
use Rattle.kn_packets.specs.Keys.{Keys}
use Rattle.kn_packets.specs.Lifts.{Lifts}
use Rattle.kn_packets.specs.Moves.{AgentDrains, AgentLosesLink, DropsDown, DropsUp, IsFrontOf, after, agent_stepped, dest_after, down_is, up_is}
use Rattle.kn_packets.specs.Outputs.{from_agent}
use Rattle.kn_packets.specs.World.{World, WorldLink, connection_far, dest_far, dial_far, far_of, has_random, tunnel_of}
use Rattle.kn_packets.proofs.AgentParts.{Apart, apart_same, ignored_apart, linked, of_agent, of_link, stepped, steps_lift}
use Rattle.kn_packets.proofs.AgentRows.{dry}
use Rattle.kn_packets.proofs.Fresh.{eqb_refl}
use Rattle.kn_packets.proofs.Queues.{up_other}
use Rattle.kn_packets.proofs.Taken.{and_first, and_second}

-- ---- it asks for no further dials
drain_apart : (d : ℕ) (cid : Option ℕ) (a : AgentState) → Apart d cid a (drain_now a)
drain_apart d cid a = here a.drained
  where
    here : (b : Bool) → Apart d cid a (cond b (ignored a) (record { state = record a { drained = true }; outs = out.ToServer Drain ∷ [] }))
    here true = ignored_apart d cid a
    here false = record { lost = refl; dial = λ e. refl; connection = λ c e. refl; writes = λ o. refl; draws = refl; word = λ b ps. up_other (up_item d cid) b ps Drain refl }

pub drains_lift : (w : World) (l : ℕ) → Keys w → not (w.agents l).lost ≡ true → Lifts w (after (AgentDrains l) w)
drains_lift w l keys there = subst (λ s. Lifts w (agent_stepped l s w)) (sym (linked (w.agents l) at_agent.DrainNow there)) (steps_lift w l (drain_now (w.agents l)) own)
  where
    own : (k d : ℕ) → (w.apps k).came ≡ true → (w.apps k).dial ≡ Some d → (w.dials d).link ≡ l
        → Follows (of_agent w k d (w.dials d).cid (w.dials d).side (w.agents l) (w.links l)) (stepped w k d (w.dials d).cid (w.dials d).side (drain_now (w.agents l)) (w.links l) (w.links l).down)
    own k d came de on = inl (apart_same w k d (w.dials d).side (w.agents l) (w.links l) (w.dials d).cid (of_link w l keys k d came de on) (drain_now (w.agents l)) (drain_apart d (w.dials d).cid (w.agents l)) (w.links l).down refl (λ e. refl))

-- ---- it loses its link
pub tells_none : (ds : List Dial) (cs : List Connection) → from_agent (all_dropped ds ++ all_closed cs) ≡ []
tells_none [] [] = refl
tells_none [] (c ∷ cs) = tells_none [] cs
tells_none (d ∷ ds) cs = tells_none ds cs

far_drawn : (d : ℕ) (cid : Option ℕ) (a : AgentState) (down : List Packet) → is_drawn (far_of d cid a down) ≡ true
far_drawn d (Some c) a down = connected (connection_at (pos c) a.connections)
  where
    state : (s : DestState) → is_drawn (dest_far s) ≡ true
    state dest.Open = refl
    state dest.Lingering = refl

    connected : (o : Option Connection) → is_drawn (connection_far o) ≡ true
    connected None = refl
    connected (Some x) = state x.state
far_drawn d None a down = dialled (first_where (has_random d) a.dials) (has_request d down)
  where
    dialled : (o : Option Dial) (b : Bool) → is_drawn (dial_far o b) ≡ true
    dialled None true = refl
    dialled None false = refl
    dialled (Some x) b = refl

module _ (w : World) (k d : ℕ) (a : AgentState) (link : WorldLink) (side : Side) (left : List Packet) where
  -- what a dial is then
  abbrev lost_tunnel : Option ℕ → Tunnel
  lost_tunnel cid = of_agent w k d cid (dest_after true cid (link_lost a) side) (link_lost a).state (record link { up = left; down = [] })

  lost_is : (cid : Option ℕ) → Facts (of_agent w k d cid side a link) → lost_tunnel cid ≡ step.after (event.LinkLostAtAgent (up_word d cid left)) (of_agent w k d cid side a link)
  lost_is (Some c) facts = rw (far_drawn d (Some c) a link.down) refl
  lost_is None facts = rw (far_drawn d None a link.down) (ap (λ u. lost_with (record side { unwritten = u })) (dry_none (first_where (has_random d) a.dials) refl (has_request d link.down) refl))
    where
      lost_with : Side → Tunnel
      lost_with s = of_agent w k d None s (link_lost a).state (record link { up = left; down = [] })

      unlisted : (o : Option Dial) (b : Bool) → is_listed (dial_far o b) ≡ false
      unlisted None true = refl
      unlisted None false = refl
      unlisted (Some x) b = refl

      dry_none : (o : Option Dial) → first_where (has_random d) a.dials ≡ o → (b : Bool) → has_request d link.down ≡ b → side.unwritten ≡ []
      dry_none o e b f = dry (of_agent w k d None side a link) facts.link (unlisted (first_where (has_random d) a.dials) (has_request d link.down))

pub loss_lifts : (w : World) (l : ℕ) (left : List Packet) → Keys w → not (w.agents l).lost ≡ true → IsFrontOf left (w.links l).up → Lifts w (after (AgentLosesLink l left) w)
loss_lifts w l left keys there front = subst (λ s. Lifts w (agent_stepped l s (up_is l left (down_is l [] w)))) (sym (linked (w.agents l) at_agent.LinkLost there)) lifted
  where
    lifted : Lifts w (agent_stepped l (link_lost (w.agents l)) (up_is l left (down_is l [] w)))
    lifted k came = by_dial (w.apps k).dial refl
      where
        own : (d : ℕ) → (w.apps k).dial ≡ Some d → (w.dials d).link ≡ l
            → Follows (of_agent w k d (w.dials d).cid (w.dials d).side (w.agents l) (w.links l)) (lost_tunnel w k d (w.agents l) (w.links l) (w.dials d).side left (w.dials d).cid)
        own d de on = inr (
          event.LinkLostAtAgent (up_word d (w.dials d).cid left),
          (there, cut d de on),
          lost_is w k d (w.agents l) (w.links l) (w.dials d).side left (w.dials d).cid (of_link w l keys k d came de on),
        )
          where
            cut : (d : ℕ) → (w.apps k).dial ≡ Some d → (w.dials d).link ≡ l → IsCutUp (up_word d (w.dials d).cid left) (up_word d (w.dials d).cid (w.links l).up)
            cut d de on =
                let ordered : up_ordered (up_item d (w.dials d).cid) (w.links l).up ≡ true = rw on at ((keys.ordered k came).up d de) in
                rw front.1 at (up_prefix_cut (up_item d (w.dials d).cid) left front.0 (ap (up_ordered (up_item d (w.dials d).cid)) front.1 ∙ ordered))

        by_link : (d : ℕ) → (w.apps k).dial ≡ Some d → (b : Bool) → ((w.dials d).link == l) ≡ b → Follows (tunnel_of w (w.apps k) (Some d)) (tunnel_of (agent_stepped l (link_lost (w.agents l)) (up_is l left (down_is l [] w))) (w.apps k) (Some d))
        by_link d de true on = let at : (w.dials d).link ≡ l = eqb-true (w.dials d).link l on in rw (at, eqb_refl l, tells_none (w.agents l).dials (w.agents l).connections) (own d de at)
        by_link d de false on = inl (rw on refl)

        by_dial : (D : Option ℕ) → (w.apps k).dial ≡ D → Follows (tunnel_of w (w.apps k) D) (tunnel_of (agent_stepped l (link_lost (w.agents l)) (up_is l left (down_is l [] w))) (w.apps k) D)
        by_dial None de = inl refl
        by_dial (Some d) de = by_link d de ((w.dials d).link == l) refl

-- ---- what was not taken is dropped
pub up_drop_lifts : (w : World) (l : ℕ) → (not (is_gone (w.links l).server) && (w.agents l).lost) ≡ true → Lifts w (after (DropsUp l) w)
up_drop_lifts w l may k came = by_dial (w.apps k).dial
  where
    here : not (is_gone (w.links l).server) ≡ true
    here = and_first (not (is_gone (w.links l).server)) (w.agents l).lost may

    gone : (w.agents l).lost ≡ true
    gone = and_second (not (is_gone (w.links l).server)) (w.agents l).lost may

    by_link : (d : ℕ) (b : Bool) → ((w.dials d).link == l) ≡ b → Follows (tunnel_of w (w.apps k) (Some d)) (tunnel_of (up_is l [] w) (w.apps k) (Some d))
    by_link d true on = let at : (w.dials d).link ≡ l = eqb-true (w.dials d).link l on in inr (event.ResetUp, (rw (at, here, gone) refl, tt), rw (at, eqb_refl l) refl)
    by_link d false on = inl (rw on refl)

    by_dial : (D : Option ℕ) → Follows (tunnel_of w (w.apps k) D) (tunnel_of (up_is l [] w) (w.apps k) D)
    by_dial None = inl refl
    by_dial (Some d) = by_link d ((w.dials d).link == l) refl

far_dropped : (d : ℕ) (cid : Option ℕ) (a : AgentState) (down : List Packet) → far_of d cid a [] ≡ cond (is_asked (far_of d cid a down)) Left (far_of d cid a down)
far_dropped d (Some c) a down = connected (connection_at (pos c) a.connections)
  where
    state : (s : DestState) → dest_far s ≡ cond (is_asked (dest_far s)) Left (dest_far s)
    state dest.Open = refl
    state dest.Lingering = refl

    connected : (o : Option Connection) → connection_far o ≡ cond (is_asked (connection_far o)) Left (connection_far o)
    connected None = refl
    connected (Some x) = state x.state
far_dropped d None a down = dialled (first_where (has_random d) a.dials) (has_request d down)
  where
    dialled : (o : Option Dial) (b : Bool) → dial_far o false ≡ cond (is_asked (dial_far o b)) Left (dial_far o b)
    dialled None true = refl
    dialled None false = refl
    dialled (Some x) b = refl

pub down_drop_lifts : (w : World) (l : ℕ) → (is_gone (w.links l).server && not (w.agents l).lost) ≡ true → Lifts w (after (DropsDown l) w)
down_drop_lifts w l may k came = by_dial (w.apps k).dial
  where
    gone : is_gone (w.links l).server ≡ true
    gone = and_first (is_gone (w.links l).server) (not (w.agents l).lost) may

    here : not (w.agents l).lost ≡ true
    here = and_second (is_gone (w.links l).server) (not (w.agents l).lost) may

    by_link : (d : ℕ) (b : Bool) → ((w.dials d).link == l) ≡ b → Follows (tunnel_of w (w.apps k) (Some d)) (tunnel_of (down_is l [] w) (w.apps k) (Some d))
    by_link d true on =
        let at : (w.dials d).link ≡ l = eqb-true (w.dials d).link l on in
        inr (event.ResetDown, (rw (at, here, gone) refl, tt), rw (at, eqb_refl l, far_dropped d (w.dials d).cid (w.agents l) (w.links l).down) refl)
    by_link d false on = inl (rw on refl)

    by_dial : (D : Option ℕ) → Follows (tunnel_of w (w.apps k) D) (tunnel_of (down_is l [] w) (w.apps k) D)
    by_dial None = inl refl
    by_dial (Some d) = by_link d ((w.dials d).link == l) refl
