-- The server that takes the first packet of a link keeps the facts on keys.
use Rattle.std.proofs.Common.{◌≡◌, ◌≤◌, ◌==◌, ◌++◌, ℕ, ℤ, pos, Bool, true, false, not, cond, List, [], ◌∷◌, length, Option, Some, None, refl, sym, ap, ◌∙◌, eqb-true, subst, append-nil}
use Rattle.kn_packet.specs.declared.packet.Packet.{Packet}
use Rattle.kn_packet.specs.declared.packet.Packet.TheVariants.{CloseReq, CloseRsp, Data, DialCls, DialReq, DialRsp, Drain, Other}
use Rattle.kn_route.specs.LinkLists.{drained, has_link, is_link}
use Rattle.kn_route.specs.declared.link.Link.{Link}
use Rattle.kn_tables.specs.Lists.{first_where, in_place, without}
use Rattle.kn_tables.specs.Awaiting.{is_dial}
use Rattle.kn_tables.specs.Holding.{is_held, is_held_dial}
use Rattle.kn_tables.specs.declared.awaited_entry.AwaitedEntry.{AwaitedEntry}
use Rattle.kn_tables.specs.declared.held_entry.HeldEntry.{HeldEntry}
use Rattle.kn_tables.specs.declared.held_entry.HeldState.{HeldState}
use Rattle.kn_tables.specs.declared.held_entry.HeldState.TheVariants.{Closing, Open}
use Rattle.kn_server_core.specs.declared.event.ServerEvent.TheVariants.{LinkPacket}
use Rattle.kn_server_core.specs.declared.event.ServerOut.TheVariants.{ToFront, ToLink}
use Rattle.kn_server_core.specs.declared.state.State.{State}
use Rattle.kn_server_core.specs.Isolation.{Each, IsOrderly}
use Rattle.kn_server_core.specs.Packets.{data_to_front, in_packets}
use Rattle.kn_server_core.specs.Server.{awaited_reply, data_down, dial_at, ended_to, from_link, link_drains, of_link, open_down, refused_reply, step, told, tunnel_ended, tunnel_opened}
use Rattle.kn_server_core.specs.Steps.{Step}
use Rattle.kn_server_core.specs.Texts.{error_cut}
use Rattle.kn_server_core.proofs.OrderLemmas.{any_mapped}
use Rattle.kn_server_core.proofs.ReachedLemmas.{orderly_kept}
use Rattle.kn_tunnel.proofs.OrderChecks.{unawaited_order}
use Rattle.kn_tunnel.specs.Facts.{Facts}
use Rattle.kn_tunnel.specs.Kinds.{is_gone, is_present}
use Rattle.kn_tunnel.specs.Tunnel.{Coming, Front, Gone, Present}
use Rattle.kn_words.specs.Down.{down_follows, down_item, down_of}
use Rattle.kn_words.specs.Numbers.{is_drawn_number}
use Rattle.kn_words.proofs.DownGiven.{DownFollow}
use Rattle.kn_words.proofs.OutGiven.{OutFollow}
use Rattle.kn_packets.specs.Keys.{AwaitedFits, CidOlder, HeldFits, IsBelow, Keys}
use Rattle.kn_packets.specs.Lifts.{Lifts}
use Rattle.kn_packets.specs.Moves.{ServerTakesUp, after, served, takes_up, up_is}
use Rattle.kn_packets.specs.Outputs.{for_front, for_link, more_if}
use Rattle.kn_packets.specs.World.{World, tunnel_of}
use Rattle.kn_packets.proofs.DataParts.{ToFronts, data_to_fronts}
use Rattle.kn_packets.proofs.Owners.{its_entry, not_held, some_one}
use Rattle.kn_packets.proofs.Replies.{IsFor, awaited_gone, awaited_kept, found_awaited, none_awaited, whole_error}
use Rattle.kn_packets.proofs.ServerCalm.{Calm, NoDial, OfConnections, calm_keeps, fronts_no_dial, item_of}
use Rattle.kn_packets.proofs.ServerComes.{no_outs, now}
use Rattle.kn_packets.proofs.ServerKept.{Before, FitsFront, Remains}
use Rattle.kn_packets.proofs.ServerTells.{close_follows, data_fits, data_follows, each_if, held_older, refusal_fits, refusal_follows, reply_fits, reply_follows, word_of}
use Rattle.kn_packets.proofs.Takes.{up_lifts}
use Rattle.kn_packets.proofs.TakesClose as close_lemma
use Rattle.kn_packets.proofs.TakesRefusal as refusal_lemma
use Rattle.kn_packets.proofs.TakesReply as reply_lemma

-- the server's tables fit, and its links and fronts are those that there were
pub record Fits (w : World) (s : State) : Type 0 where
  pub links : (i : ℕ) → has_link i s.links ≡ has_link i w.server.links
  pub fronts : s.fronts ≡ w.server.fronts
  pub number : s.next_dial ≡ w.server.next_dial
  pub awaited : (d : ℕ) (x : AwaitedEntry) → first_where (is_dial d) s.awaited ≡ Some x → AwaitedFits w d x
  pub held : (d : ℕ) (x : HeldEntry) → first_where (is_held_dial d) s.held ≡ Some x → HeldFits w d x

pub same_fits : (w : World) → Keys w → Fits w w.server
same_fits w keys = record { links = λ i. refl; fronts = refl; number = refl; awaited = keys.server.awaited; held = keys.server.held }

-- what is left of a table without an entry stood there before
pub still_awaited : (w : World) → Keys w → (e : AwaitedEntry) → first_where (is_dial e.dial) w.server.awaited ≡ Some e → (d : ℕ) (x : AwaitedEntry) → first_where (is_dial d) (without (is_dial e.dial) w.server.awaited) ≡ Some x
    → first_where (is_dial d) w.server.awaited ≡ Some x
still_awaited w keys e at d x f = here (e.dial == d) refl
  where
    here : (b : Bool) → (e.dial == d) ≡ b → first_where (is_dial d) w.server.awaited ≡ Some x
    here true own =
        let none : first_where (is_dial d) (without (is_dial e.dial) w.server.awaited) ≡ None = ap (λ i. first_where (is_dial i) (without (is_dial e.dial) w.server.awaited)) (sym (eqb-true e.dial d own)) ∙ awaited_gone w keys 0 e at in
        absurd (cc (none, f))
    here false other = sym (awaited_kept w keys 0 e d at other) ∙ f

there_is : (x : Front) → is_present x ≡ true → not (is_gone x) ≡ true
there_is Present e = refl
there_is Coming e = absurd cc
there_is Gone e = absurd cc

module _ (w : World) (l : ℕ) (keys : Keys w) (present : is_present (w.links l).server ≡ true) (p : Packet) (rest : List Packet) (first : (w.links l).up ≡ p ∷ rest) where
  abbrev pub taken_up : Before
  taken_up = record (now w) { ups = λ i. cond (i == l) rest (w.links i).up }

  taken : (i : ℕ) (b : Bool) → (i == l) ≡ b → (front : List Packet) × (front ++ cond b rest (w.links i).up ≡ (w.links i).up)
  taken i true on = (p ∷ [], sym first ∙ ap (λ j. (w.links j).up) (sym (eqb-true i l on)))
  taken i false off = ([], refl)

  pub remains : Remains w taken_up
  remains = record { ups = λ i. taken i (i == l) refl; downs = λ i. ([], append-nil (w.links i).down); ins = λ i. ([], refl); outs = λ i. ([], append-nil (w.streams i).down) }

  linked : has_link l w.server.links ≡ true
  linked = keys.server.links_up l ∙ present

  orderly : (s : Step) → from_link w.server l p ≡ s → IsOrderly s.state
  orderly s eq = subst (λ (t : Step). IsOrderly t.state) (whole ∙ eq) (orderly_kept w.server (LinkPacket l p) keys.server.orderly)
    where
      whole : step w.server (LinkPacket l p) ≡ from_link w.server l p
      whole = rw linked refl

  pub up_calm : (s : Step) → from_link w.server l p ≡ s → Fits w s.state → NoDial s.outs → ((i : ℕ) → Each (OfConnections (w.agents i).next_connect_id) (for_link i s.outs)) → ((f : ℕ) → Each (FitsFront w f) (for_front f s.outs))
      → ((k : ℕ) → (w.apps k).came ≡ true → (w.streams (w.apps k).stream).client ≡ true → OutFollow (item_of w k) (word_of w k) (for_front (w.apps k).stream s.outs))
      → ((k d : ℕ) → (w.apps k).came ≡ true → (w.apps k).dial ≡ Some d → not (w.agents (w.dials d).link).lost ≡ true → DownFollow (down_item (w.dials d).cid) (down_of (down_item (w.dials d).cid) (w.links (w.dials d).link).down) (for_link (w.dials d).link s.outs))
      → Calm w s taken_up
  up_calm s eq fits undrawn to_links to_fronts outward down = record {
    remains = remains;
    orderly = orderly s eq;
    undrawn = undrawn;
    links = λ i. fits.links i ∙ keys.server.links_up i;
    fronts = λ f h. rw fits.fronts (keys.server.fronts_up f h);
    number = fits.number;
    awaited = fits.awaited;
    held = fits.held;
    to_links = to_links;
    to_fronts = to_fronts;
    outward = outward;
    down = down;
  }

  -- nothing is told to anyone
  pub silent_calm : (s : State) → from_link w.server l p ≡ record { state = s; outs = [] } → Fits w s → Calm w (record { state = s; outs = [] }) taken_up
  silent_calm s eq fits = up_calm (record { state = s; outs = [] }) eq fits no_outs (λ i. tt) (λ f. tt) (λ k came there. tt) (λ k d came de there. tt)

  -- fronts alone are told
  pub told_calm : (s : Step) → from_link w.server l p ≡ s → Fits w s.state → ToFronts s.outs → ((f : ℕ) → Each (FitsFront w f) (for_front f s.outs))
      → ((k : ℕ) → (w.apps k).came ≡ true → (w.streams (w.apps k).stream).client ≡ true → OutFollow (item_of w k) (word_of w k) (for_front (w.apps k).stream s.outs)) → Calm w s taken_up
  told_calm s eq fits to to_fronts outward = up_calm s eq fits (fronts_no_dial s.outs to) (λ i. rw (to.link i) tt) to_fronts outward (λ k d came de there. rw (to.link (w.dials d).link) tt)

-- one packet to a front
pub to_front : (f : ℕ) (p : Packet) → ToFronts (ToFront f p ∷ [])
to_front f p = record { link = λ l. refl; cut = λ l. refl; made = λ i own D. refl; new = λ d x. refl }

-- ---- a reply
module _ (w : World) (l : ℕ) (keys : Keys w) (present : is_present (w.links l).server ≡ true) (c random : ℤ) (rest : List Packet) (first : (w.links l).up ≡ DialRsp [] c random ∷ rest) where
  abbrev there : not (is_gone (w.links l).server) ≡ true
  there = there_is (w.links l).server present

  abbrev at_reply : Before
  at_reply = taken_up w l keys present (DialRsp [] c random) rest first

  late_calm : of_link l (dial_at random w.server.awaited) ≡ None → Calm w (told w.server (ToLink l (CloseReq c) ∷ [])) at_reply
  late_calm none = up_calm w l keys present (DialRsp [] c random) rest first (told w.server (ToLink l (CloseReq c) ∷ [])) (rw (reply_lemma.none_held w l c random rest keys first there, none) refl) (same_fits w keys)
      (record { uncut = λ i. refl; made = λ i own D. refl; new = λ d x. refl })
      (λ i. each_if (OfConnections (w.agents i).next_connect_id) (CloseReq c) (i == l) (λ on. subst (λ j. IsBelow (w.agents j).next_connect_id c) (sym (eqb-true i l on)) older))
      (λ f. tt) (λ k came client. tt) (λ k d came de agent. down k d came de agent ((w.dials d).link == l) refl)
    where
      older : IsBelow (w.agents l).next_connect_id c
      older = let all : Each (CidOlder (w.agents l).next_connect_id) (DialRsp [] c random ∷ rest) = subst (λ ps. Each (CidOlder (w.agents l).next_connect_id) ps) first (keys.agents.ups_older l) in all.0

      own : (k d : ℕ) → (w.apps k).came ≡ true → (w.apps k).dial ≡ Some d → not (w.agents (w.dials d).link).lost ≡ true → (w.dials d).link ≡ l → is_drawn_number (w.dials d).cid c ≡ true → not (down_of (down_item (w.dials d).cid) (w.links (w.dials d).link).down).close ≡ true
      own k d came de agent on key =
          let same : d ≡ (reply_lemma.it w l c random rest keys first there).dial = reply_lemma.is_it w l c random rest keys first there d on key in
          let facts : Facts (tunnel_of w (w.apps k) (Some d)) = rw de at (keys.facts k came) in
          let reply : (tunnel_of w (w.apps k) (Some d)).up.reply ≡ true = rw on (reply_lemma.replied_up w l c random rest keys first there d (w.dials d).cid key) in
          let unheld = not_held w keys l c d (reply_lemma.none_held w l c random rest keys first there) on key in
          let unawaited = none_awaited w keys l random d none ((reply_lemma.it w l c random rest keys first there).asked ∙ ap pos (sym same)) on in
          rw (reply, unheld, unawaited, agent) at (unawaited_order (tunnel_of w (w.apps k) (Some d)) facts.link)

      down : (k d : ℕ) → (w.apps k).came ≡ true → (w.apps k).dial ≡ Some d → not (w.agents (w.dials d).link).lost ≡ true → (b : Bool) → ((w.dials d).link == l) ≡ b
          → DownFollow (down_item (w.dials d).cid) (down_of (down_item (w.dials d).cid) (w.links (w.dials d).link).down) (more_if b (CloseReq c) [])
      down k d came de agent false off = tt
      down k d came de agent true on = (by_key (is_drawn_number (w.dials d).cid c) refl, tt)
        where
          by_key : (b : Bool) → is_drawn_number (w.dials d).cid c ≡ b → down_follows (down_of (down_item (w.dials d).cid) (w.links (w.dials d).link).down) (down_item (w.dials d).cid (CloseReq c)) ≡ true
          by_key true key = rw key (own k d came de agent (eqb-true (w.dials d).link l on) key)
          by_key false key = rw key refl

  abbrev new_entry : AwaitedEntry → HeldEntry
  new_entry e = record { dial = e.dial; link = l; connect_id = c; front = Some e.front; state = Open }

  opened_calm : (e : AwaitedEntry) → of_link l (dial_at random w.server.awaited) ≡ Some e → Calm w (tunnel_opened w.server l c e) at_reply
  opened_calm e at = told_calm w l keys present (DialRsp [] c random) rest first (tunnel_opened w.server l c e) (rw (reply_lemma.none_held w l c random rest keys first there, at) refl) fits
      (to_front e.front (DialRsp [] (pos e.dial) e.random))
      (λ f. each_if (FitsFront w f) (DialRsp [] (pos e.dial) e.random) (f == e.front) (λ on. subst (λ g. FitsFront w g (DialRsp [] (pos e.dial) e.random)) (sym (eqb-true f e.front on)) (reply_fits w keys e for.at)))
      (λ k came client. reply_follows w keys e for.at k came client ((w.apps k).stream == e.front) refl)
    where
      for : IsFor w l random e
      for = found_awaited w keys l random e at

      same_entry : (x : HeldEntry) → Some (new_entry e) ≡ Some x → new_entry e ≡ x
      same_entry x h = cc

      entry_fits : HeldFits w e.dial (new_entry e)
      entry_fits =
          let it = reply_lemma.it w l c random rest keys first there in
          let same : it.dial ≡ e.dial = reply_lemma.same_dial w l c random rest keys first there e for in
          record {
            link = reply_lemma.its_link w l c random rest keys first there e for;
            cid = it.cid;
            drawn = ap (λ i. (w.dials i).cid) (sym same) ∙ it.drawn;
            named = it.named;
            front = λ k f came de ef. (keys.server.awaited e.dial e for.at).front k came de ∙ some_one e.front f ef;
          }

      held_fits : (d : ℕ) (x : HeldEntry) → first_where (is_held_dial d) (in_place (λ (y : HeldEntry). y.dial) (new_entry e) w.server.held) ≡ Some x → HeldFits w d x
      held_fits d x f = here (e.dial == d) refl
        where
          here : (b : Bool) → (e.dial == d) ≡ b → HeldFits w d x
          here true own =
              let same : e.dial ≡ d = eqb-true e.dial d own in
              let found : Some (new_entry e) ≡ Some x = sym (reply_lemma.held_now w l c random rest keys first there e for) ∙ ap (λ i. first_where (is_held_dial i) (in_place (λ (y : HeldEntry). y.dial) (new_entry e) w.server.held)) same ∙ f in
              subst (λ i. HeldFits w i x) same (subst (λ y. HeldFits w e.dial y) (same_entry x found) entry_fits)
          here false other = keys.server.held d x (sym (reply_lemma.held_same w l c random rest keys first there e for d other) ∙ f)

      fits : Fits w (tunnel_opened w.server l c e).state
      fits = record { links = λ i. refl; fronts = refl; number = refl; awaited = λ d x h. keys.server.awaited d x (still_awaited w keys e for.at d x h); held = held_fits }

  by_await : (o : Option AwaitedEntry) → of_link l (dial_at random w.server.awaited) ≡ o → Calm w (awaited_reply w.server l c o) at_reply
  by_await None at = late_calm at
  by_await (Some e) at = opened_calm e at

  pub reply_calm : Calm w (from_link w.server l (DialRsp [] c random)) at_reply
  reply_calm = rw (reply_lemma.none_held w l c random rest keys first there) (by_await (of_link l (dial_at random w.server.awaited)) refl)

-- ---- a refusal
module _ (w : World) (l : ℕ) (keys : Keys w) (present : is_present (w.links l).server ≡ true) (x : ℕ) (xs : List ℕ) (c random : ℤ) (rest : List Packet) (first : (w.links l).up ≡ DialRsp (x ∷ xs) c random ∷ rest) where
  abbrev at_refusal : Before
  at_refusal = taken_up w l keys present (DialRsp (x ∷ xs) c random) rest first

  short : length (x ∷ xs) ≤ 256
  short = refusal_lemma.short w l x xs c random rest keys first (there_is (w.links l).server present)

  abbrev failed : AwaitedEntry → Step
  failed e = record { state = record w.server { awaited = without (is_dial e.dial) w.server.awaited }; outs = ToFront e.front (DialRsp (x ∷ xs) (pos 0) e.random) ∷ [] }

  pub refusal_calm : (o : Option AwaitedEntry) → of_link l (dial_at random w.server.awaited) ≡ o → Calm w (refused_reply w.server (x ∷ xs) o) at_refusal
  refusal_calm None at = silent_calm w l keys present (DialRsp (x ∷ xs) c random) rest first w.server (rw at refl) (same_fits w keys)
  refusal_calm (Some e) at = rw (whole_error x xs short) (told_calm w l keys present (DialRsp (x ∷ xs) c random) rest first (failed e) (rw (at, whole_error x xs short) refl)
      (record { links = λ i. refl; fronts = refl; number = refl; awaited = λ d y h. keys.server.awaited d y (still_awaited w keys e for.at d y h); held = keys.server.held })
      (to_front e.front (DialRsp (x ∷ xs) (pos 0) e.random))
      (λ f. each_if (FitsFront w f) (DialRsp (x ∷ xs) (pos 0) e.random) (f == e.front) (λ on. subst (λ g. FitsFront w g (DialRsp (x ∷ xs) (pos 0) e.random)) (sym (eqb-true f e.front on)) (refusal_fits w keys e for.at x xs)))
      (λ k came client. refusal_follows w keys e for.at x xs k came client ((w.apps k).stream == e.front) refl))
    where
      for : IsFor w l random e
      for = found_awaited w keys l random e at

-- ---- bytes
module _ (w : World) (l : ℕ) (keys : Keys w) (present : is_present (w.links l).server ≡ true) (c : ℤ) (error bytes : List ℕ) (rest : List Packet) (first : (w.links l).up ≡ Data c error bytes ∷ rest) where
  abbrev at_bytes : Before
  at_bytes = taken_up w l keys present (Data c error bytes) rest first

  pub data_calm : (o : Option HeldEntry) → first_where (is_held l c) w.server.held ≡ o → Calm w (data_down w.server bytes o) at_bytes
  data_calm None at = silent_calm w l keys present (Data c error bytes) rest first w.server (rw at refl) (same_fits w keys)
  data_calm (Some e) at = here e.state e.front refl refl
    where
      here : (state : HeldState) (front : Option ℕ) → e.state ≡ state → e.front ≡ front → Calm w (open_down w.server bytes state front e.dial) at_bytes
      here Open (Some f) es ef = told_calm w l keys present (Data c error bytes) rest first (told w.server (data_to_front f e.dial (in_packets bytes))) (rw (at, es, ef) refl) (same_fits w keys) (data_to_fronts f e.dial (in_packets bytes))
          (λ i. data_fits w keys e (its_entry w keys l c e at) f ef i (in_packets bytes)) (λ k came client. data_follows w keys e (its_entry w keys l c e at) f ef es (in_packets bytes) k came client)
      here Open None es ef = silent_calm w l keys present (Data c error bytes) rest first w.server (rw (at, es, ef) refl) (same_fits w keys)
      here Closing (Some f) es ef = silent_calm w l keys present (Data c error bytes) rest first w.server (rw (at, es) refl) (same_fits w keys)
      here Closing None es ef = silent_calm w l keys present (Data c error bytes) rest first w.server (rw (at, es) refl) (same_fits w keys)

-- ---- a close
module _ (w : World) (l : ℕ) (keys : Keys w) (present : is_present (w.links l).server ≡ true) (c : ℤ) (error : List ℕ) (rest : List Packet) (first : (w.links l).up ≡ CloseRsp error c ∷ rest) where
  abbrev at_close : Before
  at_close = taken_up w l keys present (CloseRsp error c) rest first

  pub close_calm : (o : Option HeldEntry) → first_where (is_held l c) w.server.held ≡ o → Calm w (tunnel_ended w.server l c error o) at_close
  close_calm None at = silent_calm w l keys present (CloseRsp error c) rest first w.server (rw at refl) (same_fits w keys)
  close_calm (Some e) at = here e.front refl
    where
      entry : first_where (is_held_dial e.dial) w.server.held ≡ Some e
      entry = its_entry w keys l c e at

      still : (d : ℕ) (y : HeldEntry) → first_where (is_held_dial d) (without (is_held l c) w.server.held) ≡ Some y → first_where (is_held_dial d) w.server.held ≡ Some y
      still d y f = by_dial (e.dial == d) refl
        where
          by_dial : (b : Bool) → (e.dial == d) ≡ b → first_where (is_held_dial d) w.server.held ≡ Some y
          by_dial true own =
              let none : first_where (is_held_dial d) (without (is_held l c) w.server.held) ≡ None =
              ap (λ i. first_where (is_held_dial i) (without (is_held l c) w.server.held)) (sym (eqb-true e.dial d own)) ∙ close_lemma.gone w l c error rest keys first (there_is (w.links l).server present) e at in
              absurd (cc (none, f))
          by_dial false other = sym (close_lemma.kept w l c error rest keys first (there_is (w.links l).server present) e at d other) ∙ f

      fits : Fits w (record w.server { held = without (is_held l c) w.server.held })
      fits = record { links = λ i. refl; fronts = refl; number = refl; awaited = keys.server.awaited; held = λ d y h. keys.server.held d y (still d y h) }

      here : (front : Option ℕ) → e.front ≡ front → Calm w (record { state = record w.server { held = without (is_held l c) w.server.held }; outs = ended_to front e.dial (error_cut error) }) at_close
      here None ef = silent_calm w l keys present (CloseRsp error c) rest first (record w.server { held = without (is_held l c) w.server.held }) (rw (at, ef) refl) fits
      here (Some f) ef = told_calm w l keys present (CloseRsp error c) rest first (record { state = record w.server { held = without (is_held l c) w.server.held }; outs = ToFront f (CloseRsp (error_cut error) (pos e.dial)) ∷ [] }) (rw (at, ef) refl) fits
          (to_front f (CloseRsp (error_cut error) (pos e.dial)))
          (λ i. each_if (FitsFront w i) (CloseRsp (error_cut error) (pos e.dial)) (i == f) (λ on. (held_older w keys e entry, λ client. tt)))
          (λ k came client. close_follows w keys e entry f ef (error_cut error) k came client ((w.apps k).stream == f) refl)

-- ---- all
module _ (w : World) (l : ℕ) (keys : Keys w) (present : is_present (w.links l).server ≡ true) (rest : List Packet) where
  drained_if : (b : Bool) (x : Link) → (cond b (record x { draining = true }) x).number ≡ x.number
  drained_if true x = refl
  drained_if false x = refl

  drains_fits : Fits w (link_drains w.server l).state
  drains_fits = record {
    links = λ i. any_mapped (is_link i) (drained l) w.server.links.links (λ x. ap (λ n. n == i) (drained_if (is_link l x) x));
    fronts = refl;
    number = refl;
    awaited = keys.server.awaited;
    held = keys.server.held;
  }

  pub packet_calm : (p : Packet) (first : (w.links l).up ≡ p ∷ rest) → Calm w (from_link w.server l p) (taken_up w l keys present p rest first)
  packet_calm (DialRsp [] c random) first = reply_calm w l keys present c random rest first
  packet_calm (DialRsp (x ∷ xs) c random) first = refusal_calm w l keys present x xs c random rest first (of_link l (dial_at random w.server.awaited)) refl
  packet_calm (Data c error bytes) first = data_calm w l keys present c error bytes rest first (first_where (is_held l c) w.server.held) refl
  packet_calm (CloseRsp error c) first = close_calm w l keys present c error rest first (first_where (is_held l c) w.server.held) refl
  packet_calm Drain first = silent_calm w l keys present Drain rest first (link_drains w.server l).state refl drains_fits
  packet_calm (DialReq protocol address random) first = silent_calm w l keys present (DialReq protocol address random) rest first w.server refl (same_fits w keys)
  packet_calm (CloseReq c) first = silent_calm w l keys present (CloseReq c) rest first w.server refl (same_fits w keys)
  packet_calm (DialCls random) first = silent_calm w l keys present (DialCls random) rest first w.server refl (same_fits w keys)
  packet_calm (Other number) first = silent_calm w l keys present (Other number) rest first w.server refl (same_fits w keys)

pub takes_up_keeps : (w : World) (l : ℕ) → Keys w → is_present (w.links l).server ≡ true → Keys (after (ServerTakesUp l) w)
takes_up_keeps w l keys present = by_first (w.links l).up refl (up_lifts w l keys present)
  where
    by_first : (ps : List Packet) → (w.links l).up ≡ ps → Lifts w (takes_up l ps w) → Keys (takes_up l ps w)
    by_first [] first = λ lifts. keys
    by_first (p ∷ rest) first = subst (λ s. Lifts w (served (pos 0) s (up_is l rest w)) → Keys (served (pos 0) s (up_is l rest w))) (sym whole)
        (calm_keeps w (pos 0) (from_link w.server l p) (taken_up w l keys present p rest first) keys (packet_calm w l keys present rest p first))
      where
        whole : step w.server (LinkPacket l p) ≡ from_link w.server l p
        whole = rw (keys.server.links_up l ∙ present) refl
