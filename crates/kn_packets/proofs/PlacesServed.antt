-- A step of the server leaves each packet speaking of what the world has.
use Rattle.std.proofs.Common.{◌≡◌, ◌==◌, ◌⊎◌, ℕ, ℤ, pos, Bool, true, false, not, cond, List, [], ◌∷◌, Some, None, Result, Ok, Err, inl, inr, refl, sym, ap, ◌∙◌, subst}
use Rattle.kn_packet.specs.declared.packet.Packet.{Packet}
use Rattle.kn_packet.specs.declared.packet.Packet.TheVariants.{CloseReq, CloseRsp, Data, DialCls, DialReq, DialRsp, Drain, Other}
use Rattle.kn_route.specs.declared.id_kind.IdKind.{IdKind}
use Rattle.kn_server_core.specs.declared.event.ServerEvent.TheVariants.{FrontLost, FrontPacket, LinkLost, LinkPacket}
use Rattle.kn_server_core.specs.Isolation.{Each}
use Rattle.kn_server_core.specs.Packets.{refusal}
use Rattle.kn_server_core.specs.Server as server
use Rattle.kn_server_core.specs.Server.{dial_choice, dial_chosen, dial_sent, from_front, front_added, link_added, step}
use Rattle.kn_server_core.specs.Steps.{Step}
use Rattle.kn_tunnel.specs.Kinds.{is_present}
use Rattle.kn_tunnel.specs.Tunnel.{Present}
use Rattle.kn_packets.specs.Keys.{HasApp, Keys, ReplyFits}
use Rattle.kn_packets.specs.Moves.{FrontComes, LinkComes, May, ServerLosesFront, ServerLosesLink, ServerTakesIn, ServerTakesUp, after, as_taken, asked_by, connection_dial, dial_number, in_is, is_early, new_dial, served, takes_in, takes_up}
use Rattle.kn_packets.specs.Outputs.{asks, for_front, for_link, is_cut}
use Rattle.kn_packets.specs.Owned.{HasDial}
use Rattle.kn_packets.specs.Places.{Places, SpeaksOfLink, SpeaksOfStream}
use Rattle.kn_packets.specs.World.{World, WorldDial}
use Rattle.kn_packets.proofs.AgentKept.{each_front, each_queued, each_rear}
use Rattle.kn_packets.proofs.PlaceParts.{Grows, links_more, streams_more}
use Rattle.kn_packets.proofs.PlacesServer.{IsNoRequest, SaysWell, from_front_well, front_gone_well, link_gone_well, no_dial, none_made, said_fronts, said_links, up_well}
use Rattle.kn_packets.proofs.ServerComes.{all_remains, now}
use Rattle.kn_packets.proofs.ServerDraws.{by_number, new_is, not_new, old_is, stays}
use Rattle.kn_packets.proofs.ServerFrontLoss as front_loss
use Rattle.kn_packets.proofs.ServerInKeep.{in_remains, taken_in, whole}
use Rattle.kn_packets.proofs.ServerKept.{Before, Remains, dial_after, world_after}
use Rattle.kn_packets.proofs.ServerLinkLoss as link_loss
use Rattle.kn_packets.proofs.ServerTells.{each_if}
use Rattle.kn_packets.proofs.ServerUpKeep as up
use Rattle.kn_packets.proofs.Taken.{and_first}
use Rattle.kn_packets.proofs.TakesRequest.{has_text}

-- what the step tells, and that the dials of apps stay
pub record Tells (w : World) (random : ℤ) (s : Step) : Type 0 where
  pub links : (l : ℕ) → Each (SpeaksOfLink w l) (for_link l s.outs)
  pub fronts : (f : ℕ) → (w.streams f).connect ≡ false → Each (SpeaksOfStream w f) (for_front f s.outs)
  pub dials : (d : ℕ) → HasApp w d → new_dial d s.outs (w.dials d) ≡ w.dials d
  pub old : (d c : ℕ) → (new_dial d s.outs (w.dials d)).cid ≡ Some c → new_dial d s.outs (w.dials d) ≡ w.dials d
  pub apps : (k d : ℕ) → (w.apps k).came ≡ true → (w.apps k).dial ≡ Some d → dial_after w random s k ≡ Some d

pub tells_well : (w : World) (random : ℤ) (s : Step) → Each (SaysWell w) s.outs → Tells w random s
tells_well w random s well = record {
  links = λ l. said_links w l s.outs well;
  fronts = λ f client. said_fronts w f s.outs client well;
  dials = λ d app. no_dial w d s.outs (w.dials d) well;
  old = λ d c h. no_dial w d s.outs (w.dials d) well;
  apps = λ k d came h. none_made w (w.apps k).stream (asks (w.streams (w.apps k).stream).connect (w.apps k).number random) s.outs (w.apps k).dial well ∙ h;
}

module _ (w : World) (random : ℤ) (s : Step) (b : Before) (keys : Keys w) (places : Places w) (remains : Remains w b) (tells : Tells w random s) where
  abbrev next : World
  next = world_after w random s b

  drawn_on : (l cid : ℕ) → HasDial w l cid → HasDial next l cid
  drawn_on l cid h =
      let same = tells.dials h.0 (keys.agents.cid_app h.0 cid h.2) in
      (h.0, ap (λ (x : WorldDial). x.link) same ∙ h.1, ap (λ (x : WorldDial). x.cid) same ∙ h.2)

  drawn_before : (l cid : ℕ) → HasDial next l cid → HasDial w l cid
  drawn_before l cid h =
      let same = tells.old h.0 cid h.2 in
      (h.0, sym (ap (λ (x : WorldDial). x.link) same) ∙ h.1, sym (ap (λ (x : WorldDial). x.cid) same) ∙ h.2)

  grows : Grows w next
  grows = record {
    drawn = drawn_on;
    links = λ d app. ap (λ (x : WorldDial). x.link) (tells.dials d app);
    apps = λ k d came h. (came, tells.apps k d came h);
  }

  if_cut : (l : ℕ) (c : Bool) (ps : List Packet) → Each (SpeaksOfLink next l) ps → Each (SpeaksOfLink next l) (cond c [] ps)
  if_cut l true ps h = tt
  if_cut l false ps h = h

  pub served_places : Places next
  served_places = record {
    ups = λ l. if_cut l (is_cut l s.outs) (b.ups l) (links_more w next grows l (b.ups l)
        (each_rear (SpeaksOfLink w l) (remains.ups l).0 (b.ups l) (subst (λ ps. Each (SpeaksOfLink w l) ps) (sym (remains.ups l).1) (places.ups l))));
    downs = λ l. each_queued (SpeaksOfLink next l) (not (w.agents l).lost) (b.downs l) (for_link l s.outs)
        (links_more w next grows l (b.downs l) (each_front (SpeaksOfLink w l) (b.downs l) (remains.downs l).0 (subst (λ ps. Each (SpeaksOfLink w l) ps) (sym (remains.downs l).1) (places.downs l))))
        (links_more w next grows l (for_link l s.outs) (tells.links l));
    ins = λ f client. streams_more w next grows f f (λ k came on. on) (b.ins f)
        (each_rear (SpeaksOfStream w f) (remains.ins f).0 (b.ins f) (subst (λ ps. Each (SpeaksOfStream w f) ps) (sym (remains.ins f).1) (places.ins f client)));
    outs = λ f client. each_queued (SpeaksOfStream next f) (w.streams f).client (b.outs f) (for_front f s.outs)
        (streams_more w next grows f f (λ k came on. on) (b.outs f) (each_front (SpeaksOfStream w f) (b.outs f) (remains.outs f).0 (subst (λ ps. Each (SpeaksOfStream w f) ps) (sym (remains.outs f).1) (places.outs f client))))
        (streams_more w next grows f f (λ k came on. on) (for_front f s.outs) (tells.fronts f client));
    from_one = places.from_one;
    drawn = λ l cid h. places.drawn l cid (drawn_before l cid h);
    all_drawn = λ l cid one less. drawn_on l cid (places.all_drawn l cid one less);
  }

-- ---- what comes up, and what is lost
pub link_comes_places : (w : World) (l : ℕ) (identifiers : List (IdKind × List ℕ)) → Keys w → Places w → Places (after (LinkComes l identifiers) w)
link_comes_places w l identifiers keys places =
    served_places w (pos 0) (link_added w.server l identifiers) (record (now w) { links = λ i. cond (i == l) Present (w.links i).server }) keys places
    (all_remains w (λ i. cond (i == l) Present (w.links i).server) (λ i. (w.streams i).front)) (tells_well w (pos 0) (link_added w.server l identifiers) tt)

pub front_comes_places : (w : World) (f : ℕ) → Keys w → Places w → Places (after (FrontComes f) w)
front_comes_places w f keys places =
    served_places w (pos 0) (front_added w.server f) (record (now w) { fronts = λ i. cond (i == f) Present (w.streams i).front }) keys places
    (all_remains w (λ i. (w.links i).server) (λ i. cond (i == f) Present (w.streams i).front)) (tells_well w (pos 0) (front_added w.server f) tt)

pub link_loss_places : (w : World) (l : ℕ) (left : List Packet) → Keys w → May (ServerLosesLink l left) w → Places w → Places (after (ServerLosesLink l left) w)
link_loss_places w l left keys may places =
    served_places w (pos 0) (step w.server (LinkLost l)) (link_loss.cut_off w l left keys may.1) keys places (link_loss.remains w l left keys may.1)
    (tells_well w (pos 0) (step w.server (LinkLost l)) (link_gone_well w keys l))

pub front_loss_places : (w : World) (f : ℕ) (left : List Packet) → Keys w → May (ServerLosesFront f left) w → Places w → Places (after (ServerLosesFront f left) w)
front_loss_places w f left keys may places =
    served_places w (pos 0) (step w.server (FrontLost f)) (front_loss.cut_off w f left keys may.1) keys places (front_loss.remains w f left keys may.1)
    (tells_well w (pos 0) (step w.server (FrontLost f)) (front_gone_well w keys f))

-- ---- a link's packet
pub up_places : (w : World) (l : ℕ) → Keys w → is_present (w.links l).server ≡ true → Places w → Places (after (ServerTakesUp l) w)
up_places w l keys present places = by_first (w.links l).up refl
  where
    by_first : (ps : List Packet) → (w.links l).up ≡ ps → Places (takes_up l ps w)
    by_first [] first = places
    by_first (p ∷ rest) first = served_places w (pos 0) (step w.server (LinkPacket l p)) (up.taken_up w l keys present p rest first) keys places (up.remains w l keys present p rest first)
        (tells_well w (pos 0) (step w.server (LinkPacket l p)) (up_well w keys l p said.0 fits.0))
      where
        said : Each (SpeaksOfLink w l) (p ∷ rest)
        said = subst (λ ps. Each (SpeaksOfLink w l) ps) first (places.ups l)

        fits : Each (ReplyFits w l) (p ∷ rest)
        fits = subst (λ ps. Each (ReplyFits w l) ps) first (keys.agents.replies l)

-- ---- a front's packet
module _ (w : World) (f : ℕ) (keys : Keys w) (places : Places w) (present : is_present (w.streams f).front ≡ true) where
  abbrev Kept : ℤ → Step → List Packet → Type 0
  Kept random s rest = Places (served random s (in_is f rest w))

  -- the packet as the server reads it
  module _ (p : Packet) (rest : List Packet) (first : (w.streams f).up ≡ p ∷ rest) where
    told : (q : Packet) (s : Step) → from_front w.server f q ≡ s → Tells w (asked_by (FrontPacket f q)) s → Kept (asked_by (FrontPacket f q)) (step w.server (FrontPacket f q)) rest
    told q s eq tells = subst (λ t. Kept (asked_by (FrontPacket f q)) t rest) (sym (whole w f keys present p rest first q ∙ eq))
        (served_places w (asked_by (FrontPacket f q)) s (taken_in w f keys present p rest first) keys places (in_remains w f keys present p rest first) tells)

    well : (q : Packet) → IsNoRequest w keys f q → ((w.streams f).connect ≡ false → SpeaksOfStream w f q) → Kept (asked_by (FrontPacket f q)) (step w.server (FrontPacket f q)) rest
    well q no_request its = told q (from_front w.server f q) refl (tells_well w (asked_by (FrontPacket f q)) (from_front w.server f q) (from_front_well w keys f q no_request its))

    said : (w.streams f).connect ≡ false → SpeaksOfStream w f p
    said client = let all : Each (SpeaksOfStream w f) (p ∷ rest) = subst (λ ps. Each (SpeaksOfStream w f) ps) first (places.ins f client) in all.0

  request : (protocol address : List ℕ) (random : ℤ) (rest : List Packet) (first : (w.streams f).up ≡ DialReq protocol address random ∷ rest) → Kept random (step w.server (FrontPacket f (DialReq protocol address random))) rest
  request protocol address random rest first = by_choice (dial_choice w.server f protocol address random) refl
    where
      draws : (l : ℕ) → from_front w.server f (DialReq protocol address random) ≡ dial_sent w.server f protocol address random l → Tells w random (dial_sent w.server f protocol address random l)
      draws l granted = record {
        links = λ i. each_if (SpeaksOfLink w i) (DialReq protocol address (pos w.server.next_dial)) (i == l) (λ on. tt);
        fronts = λ g client. tt;
        dials = λ d app. old_is w f keys present protocol address random rest first l granted d (not_new w f keys present protocol address random rest first l granted d (keys.server.dials_older app.0 d app.1 app.2));
        old = λ d c h. of_old d c h (by_number w f keys present protocol address random rest first l granted d);
        apps = stays w f keys present protocol address random rest first l granted;
      }
        where
          of_old : (d c : ℕ) → (new_dial d (dial_sent w.server f protocol address random l).outs (w.dials d)).cid ≡ Some c → ((w.server.next_dial == d) ≡ true) ⊎ ((w.server.next_dial == d) ≡ false)
              → new_dial d (dial_sent w.server f protocol address random l).outs (w.dials d) ≡ w.dials d
          of_old d c h (inl own) = let none : None ≡ Some c = sym (ap (λ (x : WorldDial). x.cid) (new_is w f keys present protocol address random rest first l granted d own)) ∙ h in absurd cc
          of_old d c h (inr other) = old_is w f keys present protocol address random rest first l granted d other

      by_choice : (c : Result ℕ (List ℕ)) → dial_choice w.server f protocol address random ≡ c → Kept random (step w.server (FrontPacket f (DialReq protocol address random))) rest
      by_choice (Ok l) e = let granted = ap (dial_chosen w.server f protocol address random) e in told (DialReq protocol address random) rest first (DialReq protocol address random) (dial_sent w.server f protocol address random l) granted (draws l granted)
      by_choice (Err (x ∷ xs)) e = told (DialReq protocol address random) rest first (DialReq protocol address random) (server.told w.server (refusal f random (x ∷ xs) ∷ [])) (ap (dial_chosen w.server f protocol address random) e)
          (tells_well w random (server.told w.server (refusal f random (x ∷ xs) ∷ [])) ((λ client. refl), tt))
      by_choice (Err []) e = absurd (has_text w.server f protocol address random e)

  by_packet : (b : Bool) → (w.streams f).connect ≡ b → (p : Packet) (rest : List Packet) → (w.streams f).up ≡ p ∷ rest → Kept (asked_by (FrontPacket f (as_taken b (connection_dial w f) p))) (step w.server (FrontPacket f (as_taken b (connection_dial w f) p))) rest
  by_packet true be (DialReq protocol address random) rest first = request protocol address random rest first
  by_packet false be (DialReq protocol address random) rest first = request protocol address random rest first
  by_packet true be (Data c error bytes) rest first = well (Data c error bytes) rest first (Data (dial_number (connection_dial w f)) error bytes) tt (λ client. absurd (cc (be, client)))
  by_packet false be (Data c error bytes) rest first = well (Data c error bytes) rest first (Data c error bytes) tt (said (Data c error bytes) rest first)
  by_packet true be (DialRsp error c random) rest first = well (DialRsp error c random) rest first (DialRsp error c random) tt (said (DialRsp error c random) rest first)
  by_packet false be (DialRsp error c random) rest first = well (DialRsp error c random) rest first (DialRsp error c random) tt (said (DialRsp error c random) rest first)
  by_packet true be (CloseReq c) rest first = well (CloseReq c) rest first (CloseReq c) tt (said (CloseReq c) rest first)
  by_packet false be (CloseReq c) rest first = well (CloseReq c) rest first (CloseReq c) tt (said (CloseReq c) rest first)
  by_packet true be (CloseRsp error c) rest first = well (CloseRsp error c) rest first (CloseRsp error c) tt (said (CloseRsp error c) rest first)
  by_packet false be (CloseRsp error c) rest first = well (CloseRsp error c) rest first (CloseRsp error c) tt (said (CloseRsp error c) rest first)
  by_packet true be (DialCls random) rest first = well (DialCls random) rest first (DialCls random) tt (said (DialCls random) rest first)
  by_packet false be (DialCls random) rest first = well (DialCls random) rest first (DialCls random) tt (said (DialCls random) rest first)
  by_packet true be Drain rest first = well Drain rest first Drain tt (said Drain rest first)
  by_packet false be Drain rest first = well Drain rest first Drain tt (said Drain rest first)
  by_packet true be (Other number) rest first = well (Other number) rest first (Other number) tt (said (Other number) rest first)
  by_packet false be (Other number) rest first = well (Other number) rest first (Other number) tt (said (Other number) rest first)

  by_list : (ps : List Packet) → (w.streams f).up ≡ ps → Places (takes_in f ps w)
  by_list [] first = places
  by_list (p ∷ rest) first = by_packet (w.streams f).connect refl p rest first

pub in_places : (w : World) (f : ℕ) → Keys w → May (ServerTakesIn f) w → Places w → Places (after (ServerTakesIn f) w)
in_places w f keys may places = by_list w f keys places (and_first (is_present (w.streams f).front) (not (is_early w f)) may) (w.streams f).up refl
