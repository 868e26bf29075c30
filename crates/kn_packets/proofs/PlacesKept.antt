-- Every move leaves each packet speaking of what the world has.
use Rattle.std.proofs.Common.{◌≡◌, ◌==◌, ◌&&◌, ◌||◌, ℕ, pos, Bool, true, false, not, cond, List, [], ◌∷◌, take, Some, refl, sym, ap, ◌∙◌, eqb-true, subst, arith}
use Rattle.kn_packet.specs.declared.packet.Packet.{Packet}
use Rattle.kn_packet.specs.declared.packet.Packet.TheVariants.{CloseReq, CloseRsp, Data, DialCls, DialReq, DialRsp, Drain, Other}
use Rattle.kn_route.specs.declared.strategy.Strategy.{Strategy}
use Rattle.std.specs.Prelude.{codes}
use Rattle.kn_server_core.specs.Isolation.{Each}
use Rattle.kn_edge_core.specs.Client as client
use Rattle.kn_edge_core.specs.Steps.{ClientStep}
use Rattle.kn_edge_core.specs.declared.agent_event.AgentEvent.TheVariants as at_agent
use Rattle.kn_edge_core.specs.declared.client_event.ClientEvent.TheVariants as at_client
use Rattle.kn_tunnel.specs.Kinds.{is_dialling, is_gone, is_opened}
use Rattle.kn_tunnel.specs.Tunnel.{Side}
use Rattle.kn_packets.specs.Keys.{Keys}
use Rattle.kn_packets.specs.Moves.{AgentDrains, AgentLosesLink, AgentTakes, AppComes, AppEnds, AppFails, AppHands, AppSends, AppWrote, ClientLosesStream, ClientTakes, ConnectComes, ConnectLeaves, ConnectTakes, DestinationEnds, DestinationFails, DestinationHands, DestinationSends, DestinationWrote, DialFailed, DialWon, DropsDown, DropsIn, DropsOut, DropsUp, FrontComes, IsFrontOf, JoinsIn, LinkComes, May, Move, ServerLosesFront, ServerLosesLink, ServerTakesIn, ServerTakesUp, StreamBegins, StreamIsNumbered, after, all_joined, app_begins, app_is, cid_number, connect_begins, connect_gets, connect_hands, connect_leaves, connect_takes, dest_is, down_is, gets, hands, hands_over, in_is, is_of_client, new_app, new_stream, out_is, sends, side_if, start, stream_begins, stream_lost, takes_connect, takes_out, up_is}
use Rattle.kn_packets.specs.Outputs.{from_client, queued}
use Rattle.kn_packets.specs.Places.{Places, SpeaksOfStream, WasDrawn}
use Rattle.kn_packets.specs.World.{World, phase_in}
use Rattle.kn_packets.proofs.AgentKept.{each_front}
use Rattle.kn_packets.proofs.ClientCalm.{one_stream}
use Rattle.kn_packets.proofs.DestMoves.{Listed, listed}
use Rattle.kn_packets.proofs.Fresh.{eqb_refl}
use Rattle.kn_packets.proofs.PlaceParts.{Empty, Fewer, Grows, Remains, Stays, each_at, links_more, stays_places, stream_more, streams_more}
use Rattle.kn_packets.proofs.PlacesAgent.{LeavesLists, down_places, event_places, same_lists, won_places}
use Rattle.kn_packets.proofs.PlacesClient.{bytes_say, client_places, end_says, failure_says, packet_says, stream_end_says, up_says, wrote_says}
use Rattle.kn_packets.proofs.PlacesServed.{front_comes_places, front_loss_places, in_places, link_comes_places, link_loss_places, up_places}
use Rattle.kn_packets.proofs.StreamNumbers.{at_stream, forth, forth_new}
use Rattle.kn_packets.proofs.Taken.{and_first, and_second, not_false}

-- ---- a rear or a front of a list
front_each : (P : Packet → Type 0) (left whole : List Packet) → IsFrontOf left whole → Each P whole → Each P left
front_each P left whole front h = each_front P left front.0 (subst (λ ps. Each P ps) (sym front.1) h)

rear_each : (P : Packet → Type 0) (p : Packet) (rest whole : List Packet) → whole ≡ p ∷ rest → Each P whole → Each P rest
rear_each P p rest whole first h = (subst (λ ps. Each P ps) first h).1

-- ---- lists that change, and nothing else
module _ (w : World) where
  in_list : (f : ℕ) (left : List Packet) → ((P : Packet → Type 0) → Each P (w.streams f).up → Each P left) → Stays w (in_is f left w)
  in_list f left fewer = record {
    grows = record { drawn = λ l cid h. h; links = λ d h. refl; apps = λ k d came h. (came, h) };
    streams = λ g k came on. on;
    numbers = λ l. refl;
    before = λ l cid h. h;
    ups = λ l P h. h;
    downs = λ l P h. h;
    ins = λ g h. Fewer h (λ P all. each_at P g f (λ i. (w.streams i).up) left (fewer P) all);
    outs = λ g h. Fewer h (λ P all. all);
  }

  -- what is on its way on a CONNECT connection, which is no client's stream
  abbrev connect_changed : ℕ → (ℕ → List Packet) → World
  connect_changed f new = record w { streams = λ i. record (w.streams i) { up = cond (i == f) (new i) (w.streams i).up } }

  connect_list : (f : ℕ) (new : ℕ → List Packet) → (w.streams f).connect ≡ true → Stays w (connect_changed f new)
  connect_list f new connects = record {
    grows = record { drawn = λ l cid h. h; links = λ d h. refl; apps = λ k d came h. (came, h) };
    streams = λ g k came on. on;
    numbers = λ l. refl;
    before = λ l cid h. h;
    ups = λ l P h. h;
    downs = λ l P h. h;
    ins = λ g h. Fewer h (λ P all. here g h P all (g == f) refl);
    outs = λ g h. Fewer h (λ P all. all);
  }
    where
      here : (g : ℕ) → (w.streams g).connect ≡ false → (P : Packet → Type 0) → Each P (w.streams g).up → (b : Bool) → (g == f) ≡ b → Each P (cond b (new g) (w.streams g).up)
      here g of_client P all true on = let bad : (w.streams f).connect ≡ false = subst (λ i. (w.streams i).connect ≡ false) (eqb-true g f on) of_client in absurd (cc (connects, bad))
      here g of_client P all false off = all

  out_list : (f : ℕ) (left : List Packet) → ((P : Packet → Type 0) → Each P (w.streams f).down → Each P left) → Stays w (out_is f left w)
  out_list f left fewer = record {
    grows = record { drawn = λ l cid h. h; links = λ d h. refl; apps = λ k d came h. (came, h) };
    streams = λ g k came on. on;
    numbers = λ l. refl;
    before = λ l cid h. h;
    ups = λ l P h. h;
    downs = λ l P h. h;
    ins = λ g h. Fewer h (λ P all. all);
    outs = λ g h. Fewer h (λ P all. each_at P g f (λ i. (w.streams i).down) left (fewer P) all);
  }

  up_list : (l : ℕ) → Stays w (up_is l [] w)
  up_list l = record {
    grows = record { drawn = λ i cid h. h; links = λ d h. refl; apps = λ k d came h. (came, h) };
    streams = λ g k came on. on;
    numbers = λ i. refl;
    before = λ i cid h. h;
    ups = λ i P h. each_at P i l (λ j. (w.links j).up) [] (λ all. tt) h;
    downs = λ i P h. h;
    ins = λ g h. Fewer h (λ P all. all);
    outs = λ g h. Fewer h (λ P all. all);
  }

  down_list : (l : ℕ) → Stays w (down_is l [] w)
  down_list l = record {
    grows = record { drawn = λ i cid h. h; links = λ d h. refl; apps = λ k d came h. (came, h) };
    streams = λ g k came on. on;
    numbers = λ i. refl;
    before = λ i cid h. h;
    ups = λ i P h. h;
    downs = λ i P h. each_at P i l (λ j. (w.links j).down) [] (λ all. tt) h;
    ins = λ g h. Fewer h (λ P all. all);
    outs = λ g h. Fewer h (λ P all. all);
  }

  -- the bytes of an app, of a destination
  app_side : (a : ℕ) (change : Side → Side) → Stays w (app_is a change w)
  app_side a change = record {
    grows = record { drawn = λ l cid h. h; links = λ d h. refl; apps = λ k d came h. (came, h) };
    streams = λ g k came on. on;
    numbers = λ l. refl;
    before = λ l cid h. h;
    ups = λ l P h. h;
    downs = λ l P h. h;
    ins = λ g h. Fewer h (λ P all. all);
    outs = λ g h. Fewer h (λ P all. all);
  }

  dest_side : (d : ℕ) (change : Side → Side) → Stays w (dest_is d change w)
  dest_side d change = record {
    grows = record { drawn = λ l cid h. h; links = λ e h. refl; apps = λ k e came h. (came, h) };
    streams = λ g k came on. on;
    numbers = λ l. refl;
    before = λ l cid h. h;
    ups = λ l P h. h;
    downs = λ l P h. h;
    ins = λ g h. Fewer h (λ P all. all);
    outs = λ g h. Fewer h (λ P all. all);
  }

  gets_bytes : (f : ℕ) (bytes : List ℕ) → Stays w (connect_gets f bytes w)
  gets_bytes f bytes = record {
    grows = record { drawn = λ l cid h. h; links = λ d h. refl; apps = λ k d came h. (came, h) };
    streams = λ g k came on. on;
    numbers = λ l. refl;
    before = λ l cid h. h;
    ups = λ l P h. h;
    downs = λ l P h. h;
    ins = λ g h. Fewer h (λ P all. all);
    outs = λ g h. Fewer h (λ P all. all);
  }

  -- an end loses a stream
  leaves_stream : (f : ℕ) → Stays w (connect_leaves f w)
  leaves_stream f = record {
    grows = record { drawn = λ l cid h. h; links = λ d h. refl; apps = λ k d came h. (came, h) };
    streams = λ g k came on. on;
    numbers = λ l. refl;
    before = λ l cid h. h;
    ups = λ l P h. h;
    downs = λ l P h. h;
    ins = λ g h. Fewer h (λ P all. all);
    outs = λ g h. Fewer h (λ P all. each_at P g f (λ i. (w.streams i).down) [] (λ a. tt) all);
  }

  loses_stream : (f : ℕ) (left : List Packet) → IsFrontOf left (w.streams f).up → Stays w (stream_lost f left w)
  loses_stream f left front = record {
    grows = record { drawn = λ l cid h. h; links = λ d h. refl; apps = λ k d came h. (came, h) };
    streams = λ g k came on. on;
    numbers = λ l. refl;
    before = λ l cid h. h;
    ups = λ l P h. h;
    downs = λ l P h. h;
    ins = λ g h. Fewer h (λ P all. each_at P g f (λ i. (w.streams i).up) left (front_each P left (w.streams f).up front) all);
    outs = λ g h. Fewer h (λ P all. each_at P g f (λ i. (w.streams i).down) [] (λ a. tt) all);
  }

  -- a stream begins
  begins_stream : (f c : ℕ) → Stays w (stream_begins f (new_stream false c 0) w)
  begins_stream f c = record {
    grows = record { drawn = λ l cid h. h; links = λ d h. refl; apps = λ k d came h. (came, h) };
    streams = λ g k came on. on;
    numbers = λ l. refl;
    before = λ l cid h. h;
    ups = λ l P h. h;
    downs = λ l P h. h;
    ins = λ g. ins g (g == f);
    outs = λ g. outs g (g == f);
  }
    where
      ins : (g : ℕ) (b : Bool) → (cond b (new_stream false c 0) (w.streams g)).connect ≡ false → Remains ((w.streams g).connect ≡ false) (w.streams g).up (cond b (new_stream false c 0) (w.streams g)).up
      ins g true h = Empty (λ P. tt)
      ins g false h = Fewer h (λ P all. all)

      outs : (g : ℕ) (b : Bool) → (cond b (new_stream false c 0) (w.streams g)).connect ≡ false → Remains ((w.streams g).connect ≡ false) (w.streams g).down (cond b (new_stream false c 0) (w.streams g)).down
      outs g true h = Empty (λ P. tt)
      outs g false h = Fewer h (λ P all. all)

  -- an app comes
  module _ (k : ℕ) (fresh : (w.apps k).came ≡ false) where
    old_app : (f n j d : ℕ) → (w.apps j).came ≡ true → (w.apps j).dial ≡ Some d → (b : Bool) → (j == k) ≡ b → ((cond b (new_app f n) (w.apps j)).came ≡ true) × ((cond b (new_app f n) (w.apps j)).dial ≡ Some d)
    old_app f n j d came h true is = let bad : (w.apps k).came ≡ true = ap (λ i. (w.apps i).came) (sym (eqb-true j k is)) ∙ came in absurd (cc (bad, fresh))
    old_app f n j d came h false off = (came, h)

    old_stream : (f n g j : ℕ) → (w.apps j).came ≡ true → (w.apps j).stream ≡ g → (b : Bool) → (j == k) ≡ b → (cond b (new_app f n) (w.apps j)).stream ≡ g
    old_stream f n g j came on true is = let bad : (w.apps k).came ≡ true = ap (λ i. (w.apps i).came) (sym (eqb-true j k is)) ∙ came in absurd (cc (bad, fresh))
    old_stream f n g j came on false off = on

    begins_app : (f n : ℕ) → Stays w (app_begins k (new_app f n) w)
    begins_app f n = record {
      grows = record { drawn = λ l cid h. h; links = λ d h. refl; apps = λ j d came h. old_app f n j d came h (j == k) refl };
      streams = λ g j came on. old_stream f n g j came on (j == k) refl;
      numbers = λ l. refl;
      before = λ l cid h. h;
      ups = λ l P h. h;
      downs = λ l P h. h;
      ins = λ g h. Fewer h (λ P all. all);
      outs = λ g h. Fewer h (λ P all. all);
    }

    begins_connect : (f : ℕ) (address : List ℕ) → Stays w (connect_begins k f address w)
    begins_connect f address = record {
      grows = record { drawn = λ l cid h. h; links = λ d h. refl; apps = λ j d came h. old_app f 0 j d came h (j == k) refl };
      streams = λ g j came on. old_stream f 0 g j came on (j == k) refl;
      numbers = λ l. refl;
      before = λ l cid h. h;
      ups = λ l P h. h;
      downs = λ l P h. h;
      ins = λ g. ins g (g == f);
      outs = λ g. outs g (g == f);
    }
      where
        ins : (g : ℕ) (b : Bool) → (cond b (new_stream true 0 k) (w.streams g)).connect ≡ false
            → Remains ((w.streams g).connect ≡ false) (w.streams g).up (cond b (DialReq (codes "tcp") address (pos 0) ∷ []) (cond b (new_stream true 0 k) (w.streams g)).up)
        ins g true h = absurd cc
        ins g false h = Fewer h (λ P all. all)

        outs : (g : ℕ) (b : Bool) → (cond b (new_stream true 0 k) (w.streams g)).connect ≡ false → Remains ((w.streams g).connect ≡ false) (w.streams g).down (cond b (new_stream true 0 k) (w.streams g)).down
        outs g true h = absurd cc
        outs g false h = Fewer h (λ P all. all)

-- ---- a stream gets its number
module _ (w : World) (f g : ℕ) (keys : Keys w) (may : May (StreamIsNumbered f g) w) (places : Places w) where
  abbrev numbered : World
  numbered = after (StreamIsNumbered f g) w

  more : Grows w numbered
  more = record { drawn = λ l cid h. h; links = λ d h. refl; apps = λ k d came h. (came, h) }

  numbered_places : Places numbered
  numbered_places = record {
    ups = λ l. links_more w numbered more l (w.links l).up (places.ups l);
    downs = λ l. links_more w numbered more l (w.links l).down (places.downs l);
    ins = at_stream w f g keys may (λ i s. s.connect ≡ false → Each (SpeaksOfStream numbered i) s.up)
        (λ h. streams_more w numbered more f g (λ k came on. forth_new w f g keys may k on) (w.streams f).up (places.ins f h)) (λ i h. tt)
        (λ i not_g not_f h. streams_more w numbered more i i (λ k came on. forth w f g keys may k i on not_f) (w.streams i).up (places.ins i h));
    outs = at_stream w f g keys may (λ i s. s.connect ≡ false → Each (SpeaksOfStream numbered i) s.down)
        (λ h. streams_more w numbered more f g (λ k came on. forth_new w f g keys may k on) (w.streams f).down (places.outs f h)) (λ i h. tt)
        (λ i not_g not_f h. streams_more w numbered more i i (λ k came on. forth w f g keys may k i on not_f) (w.streams i).down (places.outs i h));
    from_one = places.from_one;
    drawn = places.drawn;
    all_drawn = places.all_drawn;
  }

-- ---- what a client and its apps do
module _ (w : World) (f : ℕ) (keys : Keys w) (places : Places w) (of_client : (w.streams f).connect ≡ false) (has : (w.streams f).client ≡ true) where
  out_places : (ps : List Packet) → (w.streams f).down ≡ ps → Places (takes_out f ps w)
  out_places [] first = places
  out_places (p ∷ rest) first = client_places taken c false (client.step (w.clients c) (at_client.Packet p)) (stays_places w taken shorter places) (packet_says taken c p said)
    where
      taken : World
      taken = out_is f rest w

      c : ℕ
      c = (w.streams f).owner

      shorter : Stays w (out_is f rest w)
      shorter = out_list w f rest (λ P. rear_each P p rest (w.streams f).down first)

      its : is_of_client (w.streams f).owner (w.streams f) ≡ true
      its = rw (of_client, eqb_refl (w.streams f).owner) refl

      here : SpeaksOfStream (out_is f rest w) f p
      here = let all : Each (SpeaksOfStream w f) (p ∷ rest) = subst (λ ps. Each (SpeaksOfStream w f) ps) first (places.outs f of_client) in stream_more w (out_is f rest w) shorter.grows f f (λ k came on. on) p all.0

      said : (g : ℕ) → is_of_client (w.streams f).owner (w.streams g) ≡ true → (w.streams g).client ≡ true → SpeaksOfStream (out_is f rest w) g p
      said g of there = subst (λ i. SpeaksOfStream (out_is f rest w) i p) (one_stream w (w.streams f).owner keys f g its of has there) here

came_of_client : (a b : Bool) → (a && not b) ≡ true → (a ≡ true) × (b ≡ false)
came_of_client a b h = (and_first a (not b) h, not_false b (and_second a (not b) h))

takes_places : (w : World) (f : ℕ) → Keys w → May (ClientTakes f) w → Places w → Places (after (ClientTakes f) w)
takes_places w f keys may places = let both = came_of_client (w.streams f).client (w.streams f).connect may in out_places w f keys places both.1 both.0 (w.streams f).down refl

connect_places : (w : World) (f : ℕ) → Places w → (ps : List Packet) → (w.streams f).down ≡ ps → Places (takes_connect f ps w)
connect_places w f places [] first = places
connect_places w f places (p ∷ rest) first = by_packet p
  where
    taken : Places (out_is f rest w)
    taken = stays_places w (out_is f rest w) (out_list w f rest (λ P. rear_each P p rest (w.streams f).down first)) places

    left : Places (connect_leaves f (out_is f rest w))
    left = stays_places (out_is f rest w) (connect_leaves f (out_is f rest w)) (leaves_stream (out_is f rest w) f) taken

    by_packet : (q : Packet) → Places (connect_takes f q (out_is f rest w))
    by_packet (DialRsp [] c r) = taken
    by_packet (DialRsp (x ∷ xs) c r) = left
    by_packet (Data c e bytes) = stays_places (out_is f rest w) (connect_gets f bytes (out_is f rest w)) (gets_bytes (out_is f rest w) f bytes) taken
    by_packet (CloseRsp e c) = left
    by_packet (DialReq x y z) = taken
    by_packet (CloseReq c) = taken
    by_packet (DialCls c) = taken
    by_packet Drain = taken
    by_packet (Other n) = taken

hands_places : (w : World) (k n : ℕ) → Keys w → (w.apps k).came ≡ true → Places w → (b : Bool) → (w.streams (w.apps k).stream).connect ≡ b → Places (hands_over b k (take n (w.apps k).side.kept) (app_is k (hands n) w))
hands_places w k n keys came places true connects =
    stays_places handed (connect_hands (w.apps k).stream (take n (w.apps k).side.kept) handed)
    (connect_list handed (w.apps k).stream (λ i. queued (not (is_gone (w.streams i).front)) (w.streams i).up (Data (pos 0) [] (take n (w.apps k).side.kept) ∷ [])) connects) (stays_places w handed (app_side w k (hands n)) places)
  where
    handed : World
    handed = app_is k (hands n) w
hands_places w k n keys came places false of_client = client_places handed c false s (stays_places w handed stays places) (λ f of has. streams_more w (app_is k (hands n) w) stays.grows f f (λ i it on. on) (from_client s.outs) (bytes_say w k keys came of_client (take n (w.apps k).side.kept) _ refl f of has))
  where
    handed : World
    handed = app_is k (hands n) w

    stays : Stays w (app_is k (hands n) w)
    stays = app_side w k (hands n)

    c : ℕ
    c = (w.streams (w.apps k).stream).owner

    s : ClientStep
    s = client.step (w.clients (w.streams (w.apps k).stream).owner) (at_client.AppBytes (w.apps k).number (take n (w.apps k).side.kept))

-- ---- a destination's connection was drawn
its_cid : (w : World) (d : ℕ) → Listed w d → WasDrawn w (w.dials d).link (cid_number (w.dials d).cid)
its_cid w d it = (it.number, ap cid_number it.cid, (d, refl, it.cid))

lost_lists : (w : World) (l : ℕ) (left : List Packet) → IsFrontOf left (w.links l).up → LeavesLists w (λ i. cond (i == l) left (w.links i).up) (λ i. cond (i == l) [] (w.links i).down)
lost_lists w l left front = record {
  ups = λ i P h. each_at P i l (λ j. (w.links j).up) left (front_each P left (w.links l).up front) h;
  downs = λ i P h. each_at P i l (λ j. (w.links j).down) [] (λ all. tt) h;
}

abbrev ups : World → ℕ → List Packet
ups w i = (w.links i).up

abbrev downs : World → ℕ → List Packet
downs w i = (w.links i).down

abbrev sides : World → ℕ → Side
sides w d = (w.dials d).side

pub places_kept : (m : Move) (w : World) → Keys w → May m w → Places w → Places (after m w)
places_kept (LinkComes l identifiers) w keys may places = link_comes_places w l identifiers keys places
places_kept (FrontComes f) w keys may places = front_comes_places w f keys places
places_kept (ServerTakesUp l) w keys may places = up_places w l keys may places
places_kept (ServerTakesIn f) w keys may places = in_places w f keys may places
places_kept (ServerLosesLink l left) w keys may places = link_loss_places w l left keys may places
places_kept (ServerLosesFront f left) w keys may places = front_loss_places w f left keys may places
places_kept (AgentTakes l) w keys may places = down_places w l keys places
places_kept (DialWon l ticket) w keys may places = won_places w l ticket keys may places
places_kept (DialFailed l ticket) w keys may places = event_places w l (at_agent.DialRefused ticket) (ups w) (downs w) (sides w) keys places (same_lists w) tt tt
places_kept (AgentDrains l) w keys may places = event_places w l at_agent.DrainNow (ups w) (downs w) (sides w) keys places (same_lists w) tt tt
places_kept (AgentLosesLink l left) w keys may places = event_places w l at_agent.LinkLost (λ i. cond (i == l) left (w.links i).up) (λ i. cond (i == l) [] (w.links i).down) (sides w) keys places (lost_lists w l left may.1) tt tt
places_kept (DestinationSends d bytes) w keys may places = stays_places w (dest_is d (sends bytes) w) (dest_side w d (sends bytes)) places
places_kept (DestinationHands d n) w keys may places = event_places w (w.dials d).link (at_agent.DestBytes (cid_number (w.dials d).cid) (take n (w.dials d).side.kept)) (ups w) (downs w) (λ e. side_if (e == d) (hands n) (w.dials e).side) keys places (same_lists w) tt (its_cid w d (listed w d may))
places_kept (DestinationWrote d n) w keys may places = event_places w (w.dials d).link (at_agent.DestWrote (cid_number (w.dials d).cid) n) (ups w) (downs w) (λ e. side_if (e == d) (gets n) (w.dials e).side) keys places (same_lists w) tt (its_cid w d (listed w d may.0))
places_kept (DestinationEnds d) w keys may places = event_places w (w.dials d).link (at_agent.DestEnd (cid_number (w.dials d).cid)) (ups w) (downs w) (sides w) keys places (same_lists w) tt (its_cid w d (listed w d may))
places_kept (DestinationFails d) w keys may places = event_places w (w.dials d).link (at_agent.DestFailed (cid_number (w.dials d).cid)) (ups w) (downs w) (sides w) keys places (same_lists w) tt (its_cid w d (listed w d may))
places_kept (StreamBegins f c) w keys may places = stays_places w (after (StreamBegins f c) w) (begins_stream w f c) places
places_kept (StreamIsNumbered f g) w keys may places = numbered_places w f g keys may places
places_kept (ClientTakes f) w keys may places = takes_places w f keys may places
places_kept (ClientLosesStream f left error) w keys may places = client_places (stream_lost f left w) (w.streams f).owner false (client.step (w.clients (w.streams f).owner) (at_client.StreamEnded error)) (stays_places w (stream_lost f left w) (loses_stream w f left may.1) places)
    (stream_end_says (stream_lost f left w) (w.streams f).owner error)
places_kept (AppComes k f n address) w keys may places =
    client_places (app_begins k (new_app f n) w) (w.streams f).owner false (client.step (w.clients (w.streams f).owner) (at_client.AppUp n address))
    (stays_places w (app_begins k (new_app f n) w) (begins_app w k (not_false (w.apps k).came (and_second ((w.streams f).begun && (w.streams f).client && not (w.streams f).connect) (not (w.apps k).came) may.0)) f n) places)
    (up_says (app_begins k (new_app f n) w) (w.streams f).owner n address)
places_kept (AppSends k bytes) w keys may places = stays_places w (app_is k (sends bytes) w) (app_side w k (sends bytes)) places
places_kept (AppHands k n) w keys may places =
    hands_places w k n keys (and_first (w.apps k).came (is_opened (phase_in w (w.apps k)) || ((w.streams (w.apps k).stream).connect && is_dialling (phase_in w (w.apps k)))) may) places (w.streams (w.apps k).stream).connect refl
places_kept (AppWrote k n) w keys may places = client_places (app_is k (gets n) w) (w.streams (w.apps k).stream).owner false (client.step (w.clients (w.streams (w.apps k).stream).owner) (at_client.AppWrote (w.apps k).number n))
    (stays_places w (app_is k (gets n) w) (app_side w k (gets n)) places) (wrote_says (app_is k (gets n) w) (w.streams (w.apps k).stream).owner n _)
places_kept (AppEnds k) w keys may places =
    let both = came_of_client (w.apps k).came (w.streams (w.apps k).stream).connect may in
    client_places w (w.streams (w.apps k).stream).owner true (client.step (w.clients (w.streams (w.apps k).stream).owner) (at_client.AppEnd (w.apps k).number)) places (end_says w k keys both.0 both.1 _ refl)
places_kept (AppFails k) w keys may places =
    let both = came_of_client (w.apps k).came (w.streams (w.apps k).stream).connect may in
    client_places w (w.streams (w.apps k).stream).owner true (client.step (w.clients (w.streams (w.apps k).stream).owner) (at_client.AppFailed (w.apps k).number)) places (failure_says w k keys both.0 both.1 _ refl)
places_kept (ConnectComes k f address) w keys may places = stays_places w (after (ConnectComes k f address) w) (begins_connect w k (not_false (w.apps k).came (and_first (not (w.apps k).came) (not (w.streams f).begun) may)) f address) places
places_kept (ConnectTakes f) w keys may places = connect_places w f places (w.streams f).down refl
places_kept (ConnectLeaves f left) w keys may places =
    stays_places (in_is f left w) (connect_leaves f (in_is f left w)) (leaves_stream (in_is f left w) f) (stays_places w (in_is f left w) (in_list w f left (λ P. front_each P left (w.streams f).up may.1)) places)
places_kept (JoinsIn f) w keys may places = stays_places w (after (JoinsIn f) w) (connect_list w f (λ i. all_joined (w.streams f).up) may) places
places_kept (DropsUp l) w keys may places = stays_places w (up_is l [] w) (up_list w l) places
places_kept (DropsDown l) w keys may places = stays_places w (down_is l [] w) (down_list w l) places
places_kept (DropsIn f) w keys may places = stays_places w (in_is f [] w) (in_list w f [] (λ P h. tt)) places
places_kept (DropsOut f) w keys may places = stays_places w (out_is f [] w) (out_list w f [] (λ P h. tt)) places

pub places_start : (strategies : List Strategy) → Places (start strategies)
places_start strategies = record {
  ups = λ l. tt;
  downs = λ l. tt;
  ins = λ f h. tt;
  outs = λ f h. tt;
  from_one = λ l. omega arith;
  drawn = λ l cid h. absurd cc;
  all_drawn = λ l cid one less. absurd (omega (arith, one, less));
}
