-- A request that the server grants draws a dial, and keeps the facts on keys.
use Rattle.std.proofs.Common.{◌≡◌, ◌≤◌, ◌<◌, ◌==◌, ◌+◌, ◌++◌, ◌⊎◌, ℕ, ℤ, pos, Bool, true, false, not, List, [], ◌∷◌, Option, Some, None, suc, inl, inr, refl, sym, ap, ◌∙◌, eqb-true, subst, arith}
use Rattle.kn_packet.specs.declared.packet.Packet.{Packet}
use Rattle.kn_packet.specs.declared.packet.Packet.TheVariants.{DialReq}
use Rattle.kn_tables.specs.Lists.{first_where, in_place}
use Rattle.kn_tables.specs.Awaiting.{is_dial}
use Rattle.kn_tables.specs.Holding.{is_held_dial}
use Rattle.kn_tables.specs.declared.awaited_entry.AwaitedEntry.{AwaitedEntry}
use Rattle.kn_tables.specs.declared.held_entry.HeldEntry.{HeldEntry}
use Rattle.kn_server_core.specs.Isolation.{Each}
use Rattle.kn_server_core.specs.Server.{dial_sent, from_front}
use Rattle.kn_server_core.specs.Steps.{Step}
use Rattle.kn_server_core.proofs.SoundLemmas.{first_in_place}
use Rattle.kn_server_core.proofs.TunnelTables.{put_found}
use Rattle.kn_tunnel.specs.Facts.{Facts}
use Rattle.kn_tunnel.specs.Kinds.{is_drawn, is_present}
use Rattle.kn_tunnel.specs.Steps.{no_bytes}
use Rattle.kn_words.specs.Down.{down_item, down_of, down_ordered, is_request}
use Rattle.kn_words.specs.In.{in_ordered, stream_in_item}
use Rattle.kn_words.specs.Out.{out_ordered, stream_out_item}
use Rattle.kn_words.specs.Up.{up_item, up_ordered}
use Rattle.kn_words.proofs.DownGiven.{DownFollow}
use Rattle.kn_packets.specs.Keys.{AwaitedFits, HeldFits, InOrder, Keys, LinkOlder, StreamOlder, asked_at, made_at, one_more}
use Rattle.kn_packets.specs.Lifts.{Lifts}
use Rattle.kn_packets.specs.Moves.{is_of_client, new_dial}
use Rattle.kn_packets.specs.Outputs.{asks, for_link, more_if, queued}
use Rattle.kn_packets.specs.World.{World, WorldDial, tunnel_of}
use Rattle.kn_packets.proofs.Fresh.{above, asked_fresh, down_order_undrawn, eqb_refl, in_order_fresh, made_fresh, out_order_fresh, up_order_fresh}
use Rattle.kn_packets.proofs.AgentKept.{each_rear}
use Rattle.kn_packets.proofs.Owners.{pos_one}
use Rattle.kn_packets.proofs.Replies.{number_is}
use Rattle.kn_packets.proofs.ServerCalm.{down_queued, in_rear}
use Rattle.kn_packets.proofs.ServerComes.{other_way}
use Rattle.kn_packets.proofs.ServerInKeep.{in_orderly, in_remains, its_asker, taken_in}
use Rattle.kn_packets.proofs.ServerKept.{Before, Brings, FitsLink, IsNew, brings_keep, dial_after, world_after}
use Rattle.kn_packets.proofs.ServerTells.{each_if}
use Rattle.kn_packets.proofs.TakesRequest.{asked, far_drawn, request_undrawn}

asked_one : (d : ℕ) (p : Packet) (b : Bool) → is_request d p ≡ b → (there c : Bool) (ps : List Packet) → asked_at d (queued there ps (more_if c p [])) ≤ one_more b (asked_at d ps)
asked_one d p b e there false ps = more b (asked_at d ps)
  where
    more : (b : Bool) (n : ℕ) → n ≤ one_more b n
    more true n = omega arith
    more false n = omega arith
asked_one d p b e false true ps = more b (asked_at d ps)
  where
    more : (b : Bool) (n : ℕ) → n ≤ one_more b n
    more true n = omega arith
    more false n = omega arith
asked_one d p b e true true ps = behind ps
  where
    swap : (a c : Bool) (m n : ℕ) → m ≤ one_more c n → one_more a m ≤ one_more c (one_more a n)
    swap true true m n h = omega (arith, h)
    swap true false m n h = omega (arith, h)
    swap false true m n h = h
    swap false false m n h = h

    behind : (ps : List Packet) → asked_at d (ps ++ p ∷ []) ≤ one_more b (asked_at d ps)
    behind [] = rw e (omega arith)
    behind (q ∷ ps) = swap (is_request d q) b (asked_at d (ps ++ p ∷ [])) (asked_at d ps) (behind ps)

module _ (w : World) (f : ℕ) (keys : Keys w) (present : is_present (w.streams f).front ≡ true) (protocol address : List ℕ) (random : ℤ) (rest : List Packet) (first : (w.streams f).up ≡ DialReq protocol address random ∷ rest)
    (l : ℕ) (granted : from_front w.server f (DialReq protocol address random) ≡ dial_sent w.server f protocol address random l) where
  abbrev n0 : ℕ
  n0 = w.server.next_dial

  abbrev sent : Step
  sent = dial_sent w.server f protocol address random l

  abbrev before : Before
  before = taken_in w f keys present (DialReq protocol address random) rest first

  abbrev next : World
  next = world_after w random (dial_sent w.server f protocol address random l) (taken_in w f keys present (DialReq protocol address random) rest first)

  abbrev entry : AwaitedEntry
  entry = record { dial = w.server.next_dial; front = f; link = l; random = random }

  -- ---- the app that asked
  record Asker (k : ℕ) : Type 0 where
    on : (w.apps k).stream ≡ f
    own : asks (w.streams (w.apps k).stream).connect (w.apps k).number random ≡ true
    drawn : dial_after w random (dial_sent w.server f protocol address random l) k ≡ Some w.server.next_dial

  asks_drawn : (k : ℕ) → (w.apps k).stream ≡ f → asks (w.streams (w.apps k).stream).connect (w.apps k).number random ≡ true → dial_after w random sent k ≡ Some n0
  asks_drawn k on own = rw (here, own) refl
    where
      here : ((w.apps k).stream == f) ≡ true
      here = rw on (eqb_refl f)

  by_app : (k : ℕ) → Asker k ⊎ (dial_after w random sent k ≡ (w.apps k).dial)
  by_app k = here ((w.apps k).stream == f) (asks (w.streams (w.apps k).stream).connect (w.apps k).number random) refl refl
    where
      here : (b o : Bool) → ((w.apps k).stream == f) ≡ b → asks (w.streams (w.apps k).stream).connect (w.apps k).number random ≡ o → Asker k ⊎ (dial_after w random sent k ≡ (w.apps k).dial)
      here true true on own = inl (record { on = eqb-true (w.apps k).stream f on; own = own; drawn = rw (on, own) refl })
      here true false on own = inr (rw (on, own) refl)
      here false o on own = inr (rw on refl)

  -- it had no dial
  undrawn : (k : ℕ) → (w.apps k).came ≡ true → Asker k → (w.apps k).dial ≡ None
  undrawn k came a = by_dial (w.apps k).dial refl
    where
      by_dial : (D : Option ℕ) → (w.apps k).dial ≡ D → D ≡ None
      by_dial None de = refl
      by_dial (Some d) de =
          let facts : Facts (tunnel_of w (w.apps k) (Some d)) = rw de at (keys.facts k came) in
          let request : (tunnel_of w (w.apps k) (Some d)).inward.request ≡ true = rw a.on (asked w f protocol address random rest keys first present (w.streams f).connect (w.apps k).number (Some d) (rw a.on at a.own)) in
          let none : is_drawn (tunnel_of w (w.apps k) (Some d)).far ≡ false = request_undrawn (tunnel_of w (w.apps k) (Some d)) facts.link request in
          absurd (cc (none, far_drawn d (w.dials d).cid (w.agents (w.dials d).link) (w.links (w.dials d).link).down))

  older : (k d : ℕ) → (w.apps k).came ≡ true → (w.apps k).dial ≡ Some d → d < n0
  older k d came e = keys.server.dials_older k d came e

  some_dial : (d e : ℕ) → Some d ≡ Some e → d ≡ e
  some_dial d e h = cc

  -- an app has the new dial as it asked, or an old one as it had
  of_new : (k : ℕ) → (w.apps k).came ≡ true → dial_after w random sent k ≡ Some n0 → Asker k
  of_new k came h = here (by_app k)
    where
      here : Asker k ⊎ (dial_after w random sent k ≡ (w.apps k).dial) → Asker k
      here (inl a) = a
      here (inr same) = let old : n0 < n0 = older k n0 came (sym same ∙ h) in absurd (omega (arith, old))

  of_old : (k d : ℕ) → (w.apps k).came ≡ true → (n0 == d) ≡ false → dial_after w random sent k ≡ Some d → (w.apps k).dial ≡ Some d
  of_old k d came other h = here (by_app k)
    where
      here : Asker k ⊎ (dial_after w random sent k ≡ (w.apps k).dial) → (w.apps k).dial ≡ Some d
      here (inl a) = let same : n0 ≡ d = some_dial n0 d (sym a.drawn ∙ h) in let yes : (n0 == d) ≡ true = ap (λ i. n0 == i) (sym same) ∙ eqb_refl n0 in absurd (cc (yes, other))
      here (inr same) = sym same ∙ h

  pub stays : (k d : ℕ) → (w.apps k).came ≡ true → (w.apps k).dial ≡ Some d → dial_after w random sent k ≡ Some d
  stays k d came e = here (by_app k)
    where
      here : Asker k ⊎ (dial_after w random sent k ≡ (w.apps k).dial) → dial_after w random sent k ≡ Some d
      here (inl a) = let none : None ≡ Some d = sym (undrawn k came a) ∙ e in absurd cc
      here (inr same) = same ∙ e

  -- ---- the dials
  pub new_is : (d : ℕ) → (n0 == d) ≡ true → new_dial d sent.outs (w.dials d) ≡ record { link = l; cid = None; side = no_bytes }
  new_is d own = rw (ap (λ i. i == n0) (sym (eqb-true n0 d own)) ∙ eqb_refl n0) refl

  pub old_is : (d : ℕ) → (n0 == d) ≡ false → new_dial d sent.outs (w.dials d) ≡ w.dials d
  old_is d other = rw (other_way n0 d other) refl

  pub not_new : (d : ℕ) → d < n0 → (n0 == d) ≡ false
  not_new d less = above d n0 less

  pub by_number : (d : ℕ) → ((n0 == d) ≡ true) ⊎ ((n0 == d) ≡ false)
  by_number d = here (n0 == d) refl
    where
      here : (b : Bool) → (n0 == d) ≡ b → ((n0 == d) ≡ true) ⊎ ((n0 == d) ≡ false)
      here true e = inl e
      here false e = inr e

  -- ---- the entries
  entry_fits : AwaitedFits next n0 entry
  entry_fits =
      let who = its_asker w f keys present protocol address random rest first in record {
        link = ap (λ (x : WorldDial). x.link) (new_is n0 (eqb_refl n0));
        front = λ k came h. (of_new k came h).on;
        random = λ k came h. (of_new k came h).own;
        app = λ k came on own. asks_drawn k on own;
        has_app = (who.0, who.1, asks_drawn who.0 who.2 (ap (λ i. asks (w.streams i).connect (w.apps who.0).number random) who.2 ∙ who.3));
      }

  old_fits : (d : ℕ) (x : AwaitedEntry) → (n0 == d) ≡ false → AwaitedFits w d x → AwaitedFits next d x
  old_fits d x other fits = record {
    link = ap (λ (y : WorldDial). y.link) (old_is d other) ∙ fits.link;
    front = λ k came h. fits.front k came (of_old k d came other h);
    random = λ k came h. fits.random k came (of_old k d came other h);
    app = λ k came on own. stays k d came (fits.app k came on own);
    has_app = (fits.has_app.0, fits.has_app.1, stays fits.has_app.0 d fits.has_app.1 fits.has_app.2);
  }

  same_entry : (x y : AwaitedEntry) → Some x ≡ Some y → x ≡ y
  same_entry x y h = cc

  awaited : (d : ℕ) (x : AwaitedEntry) → first_where (is_dial d) (in_place (λ (y : AwaitedEntry). y.dial) entry w.server.awaited) ≡ Some x → AwaitedFits next d x
  awaited d x h = here (by_number d)
    where
      here : ((n0 == d) ≡ true) ⊎ ((n0 == d) ≡ false) → AwaitedFits next d x
      here (inl own) =
          let same : n0 ≡ d = eqb-true n0 d own in
          let placed : first_where (is_dial n0) (in_place (λ (y : AwaitedEntry). y.dial) entry w.server.awaited) ≡ Some entry =
          put_found (λ (y : AwaitedEntry). y.dial) (is_dial n0) entry w.server.awaited (keys.server.orderly.sound.awaited_drawn n0 (omega arith)) (eqb_refl n0) in
          let found : Some entry ≡ Some x = sym placed ∙ ap (λ i. first_where (is_dial i) (in_place (λ (y : AwaitedEntry). y.dial) entry w.server.awaited)) same ∙ h in
          subst (λ i. AwaitedFits next i x) same (subst (λ y. AwaitedFits next n0 y) (same_entry entry x found) entry_fits)
      here (inr other) = old_fits d x other (keys.server.awaited d x (sym (first_in_place (λ (y : AwaitedEntry). y.dial) (is_dial d) entry w.server.awaited other) ∙ h))

  held : (d : ℕ) (x : HeldEntry) → first_where (is_held_dial d) w.server.held ≡ Some x → HeldFits next d x
  held d x h =
      let fits = keys.server.held d x h in
      let app = keys.agents.cid_app d fits.cid fits.drawn in
      let other : (n0 == d) ≡ false = not_new d (older app.0 d app.1 app.2) in
      record {
        link = ap (λ (y : WorldDial). y.link) (old_is d other) ∙ fits.link;
        cid = fits.cid;
        drawn = ap (λ (y : WorldDial). y.cid) (old_is d other) ∙ fits.drawn;
        named = fits.named;
        front = λ k g came e ef. fits.front k g came (of_old k d came other e) ef;
      }

  same_cids : (d c : ℕ) → (new_dial d sent.outs (w.dials d)).cid ≡ Some c → (w.dials d).cid ≡ Some c
  same_cids d c h = here (by_number d)
    where
      here : ((n0 == d) ≡ true) ⊎ ((n0 == d) ≡ false) → (w.dials d).cid ≡ Some c
      here (inl own) = let none : None ≡ Some c = sym (ap (λ (x : WorldDial). x.cid) (new_is d own)) ∙ h in absurd cc
      here (inr other) = sym (ap (λ (x : WorldDial). x.cid) (old_is d other)) ∙ h

  -- ---- one app asked
  one_asker : (j k : ℕ) → (w.apps j).came ≡ true → (w.apps k).came ≡ true → Asker j → Asker k → j ≡ k
  one_asker j k cj ck a b = here (w.streams f).connect refl
    where
      here : (c : Bool) → (w.streams f).connect ≡ c → j ≡ k
      here true ce = keys.clients.connect_one j k cj ck (a.on ∙ sym b.on) (ap (λ i. (w.streams i).connect) a.on ∙ ce)
      here false ce = keys.clients.apart j k (w.streams f).owner (w.apps j).number (cj, its_client j a, refl) (ck, its_client k b, pos_one (w.apps k).number (w.apps j).number (sym (named k b) ∙ named j a))
        where
          its_client : (i : ℕ) → Asker i → is_of_client (w.streams f).owner (w.streams (w.apps i).stream) ≡ true
          its_client i it = rw (it.on, ce) (eqb_refl (w.streams f).owner)

          named : (i : ℕ) → Asker i → random ≡ pos (w.apps i).number
          named i it = number_is (w.apps i).number random (rw (it.on, ce) at it.own)

  asker_of : (k : ℕ) → (w.apps k).came ≡ true → IsNew w random sent k → Asker k
  asker_of k came new = of_new k came new.drawn

  -- ---- the request
  request_fits : (i : ℕ) → Each (FitsLink next i) (more_if (i == l) (DialReq protocol address (pos n0)) [])
  request_fits i = each_if (FitsLink next i) (DialReq protocol address (pos n0)) (i == l) (λ on. (
    omega arith,
    tt,
    record {
      dial = n0;
      asked = refl;
      on = ap (λ (x : WorldDial). x.link) (new_is n0 (eqb_refl n0)) ∙ sym (eqb-true i l on);
      undrawn = ap (λ (x : WorldDial). x.cid) (new_is n0 (eqb_refl n0));
      app = entry_fits.has_app;
    },
  ))

  once : (d : ℕ) → asked_at d (next.links (next.dials d).link).down + made_at d (w.agents (next.dials d).link).dials ≤ 1
  once d = here (by_number d)
    where
      here : ((n0 == d) ≡ true) ⊎ ((n0 == d) ≡ false) → asked_at d (next.links (next.dials d).link).down + made_at d (w.agents (next.dials d).link).dials ≤ 1
      here (inl own) = subst (λ (x : WorldDial). asked_at d (queued (not (w.agents x.link).lost) (w.links x.link).down (for_link x.link sent.outs)) + made_at d (w.agents x.link).dials ≤ 1) (sym (new_is d own)) new_once
        where
          same : n0 ≡ d
          same = eqb-true n0 d own

          new_once : asked_at d (queued (not (w.agents l).lost) (w.links l).down (for_link l sent.outs)) + made_at d (w.agents l).dials ≤ 1
          new_once =
              let none : asked_at d (w.links l).down ≡ 0 = subst (λ i. asked_at i (w.links l).down ≡ 0) same (asked_fresh n0 (w.links l).down (keys.server.downs_older l)) in
              let unmade : made_at d (w.agents l).dials ≡ 0 = subst (λ i. made_at i (w.agents l).dials ≡ 0) same (made_fresh n0 (w.agents l).dials (keys.server.agents_older l)) in
              let more : asked_at d (queued (not (w.agents l).lost) (w.links l).down (more_if (l == l) (DialReq protocol address (pos n0)) [])) ≤ suc (asked_at d (w.links l).down) =
              asked_one d (DialReq protocol address (pos n0)) true own (not (w.agents l).lost) (l == l) (w.links l).down in
              omega (arith, none, unmade, more)
      here (inr other) = subst (λ (x : WorldDial). asked_at d (queued (not (w.agents x.link).lost) (w.links x.link).down (for_link x.link sent.outs)) + made_at d (w.agents x.link).dials ≤ 1) (sym (old_is d other)) old_once
        where
          old_once : asked_at d (queued (not (w.agents (w.dials d).link).lost) (w.links (w.dials d).link).down (for_link (w.dials d).link sent.outs)) + made_at d (w.agents (w.dials d).link).dials ≤ 1
          old_once =
              let old = keys.agents.asked_once d in
              let same : asked_at d (queued (not (w.agents (w.dials d).link).lost) (w.links (w.dials d).link).down (more_if ((w.dials d).link == l) (DialReq protocol address (pos n0)) [])) ≤ asked_at d (w.links (w.dials d).link).down =
              asked_one d (DialReq protocol address (pos n0)) false other (not (w.agents (w.dials d).link).lost) ((w.dials d).link == l) (w.links (w.dials d).link).down in
              omega (arith, old, same)

  -- ---- the order
  order : (k : ℕ) → (w.apps k).came ≡ true → InOrder next k
  order k came = record {
    inward = inward (by_app k);
    outward = outward (by_app k);
    up = λ d h. up d h (by_number d);
    down = λ d h. down d h (by_number d);
  }
    where
      in_left : in_ordered (stream_in_item (w.streams (w.apps k).stream).connect (w.apps k).number (w.apps k).dial) (before.ins (w.apps k).stream) ≡ true
      in_left =
          let left = (in_remains w f keys present (DialReq protocol address random) rest first).ins (w.apps k).stream in
          in_rear (stream_in_item (w.streams (w.apps k).stream).connect (w.apps k).number (w.apps k).dial) left.0 (before.ins (w.apps k).stream)
          (subst (λ ps. in_ordered (stream_in_item (w.streams (w.apps k).stream).connect (w.apps k).number (w.apps k).dial) ps ≡ true) (sym left.1) (keys.ordered k came).inward)

      ins_older : Each (StreamOlder n0) (before.ins (w.apps k).stream)
      ins_older =
          let left = (in_remains w f keys present (DialReq protocol address random) rest first).ins (w.apps k).stream in
          each_rear (StreamOlder n0) left.0 (before.ins (w.apps k).stream) (subst (λ ps. Each (StreamOlder n0) ps) (sym left.1) (keys.server.ins_older (w.apps k).stream))

      inward : Asker k ⊎ (dial_after w random sent k ≡ (w.apps k).dial) → in_ordered (stream_in_item (w.streams (w.apps k).stream).connect (w.apps k).number (dial_after w random sent k)) (before.ins (w.apps k).stream) ≡ true
      inward (inl a) = subst (λ D. in_ordered (stream_in_item (w.streams (w.apps k).stream).connect (w.apps k).number D) (before.ins (w.apps k).stream) ≡ true) (sym a.drawn)
          (in_order_fresh (w.streams (w.apps k).stream).connect (w.apps k).number n0 (before.ins (w.apps k).stream) ins_older
          ∙ subst (λ D. in_ordered (stream_in_item (w.streams (w.apps k).stream).connect (w.apps k).number D) (before.ins (w.apps k).stream) ≡ true) (undrawn k came a) in_left)
      inward (inr same) = subst (λ D. in_ordered (stream_in_item (w.streams (w.apps k).stream).connect (w.apps k).number D) (before.ins (w.apps k).stream) ≡ true) (sym same) in_left

      outward : Asker k ⊎ (dial_after w random sent k ≡ (w.apps k).dial) → out_ordered (stream_out_item (w.streams (w.apps k).stream).connect (w.apps k).number (dial_after w random sent k)) (w.streams (w.apps k).stream).down ≡ true
      outward (inl a) = subst (λ D. out_ordered (stream_out_item (w.streams (w.apps k).stream).connect (w.apps k).number D) (w.streams (w.apps k).stream).down ≡ true) (sym a.drawn)
          (out_order_fresh (w.streams (w.apps k).stream).connect (w.apps k).number n0 (w.streams (w.apps k).stream).down (keys.server.outs_older (w.apps k).stream)
          ∙ subst (λ D. out_ordered (stream_out_item (w.streams (w.apps k).stream).connect (w.apps k).number D) (w.streams (w.apps k).stream).down ≡ true) (undrawn k came a) (keys.ordered k came).outward)
      outward (inr same) = subst (λ D. out_ordered (stream_out_item (w.streams (w.apps k).stream).connect (w.apps k).number D) (w.streams (w.apps k).stream).down ≡ true) (sym same) (keys.ordered k came).outward

      up : (d : ℕ) → dial_after w random sent k ≡ Some d → ((n0 == d) ≡ true) ⊎ ((n0 == d) ≡ false) → up_ordered (up_item d (next.dials d).cid) (next.links (next.dials d).link).up ≡ true
      up d h (inl own) = subst (λ (x : WorldDial). up_ordered (up_item d x.cid) (w.links x.link).up ≡ true) (sym (new_is d own)) (up_order_fresh d (w.links l).up (subst (λ i. Each (LinkOlder i) (w.links l).up) (eqb-true n0 d own) (keys.server.ups_older l)))
      up d h (inr other) = subst (λ (x : WorldDial). up_ordered (up_item d x.cid) (w.links x.link).up ≡ true) (sym (old_is d other)) ((keys.ordered k came).up d (of_old k d came other h))

      request_behind : (d : ℕ) (b : Bool) → DownFollow (down_item (w.dials d).cid) (down_of (down_item (w.dials d).cid) (w.links (w.dials d).link).down) (more_if b (DialReq protocol address (pos n0)) [])
      request_behind d true = (refl, tt)
      request_behind d false = tt

      down : (d : ℕ) → dial_after w random sent k ≡ Some d → ((n0 == d) ≡ true) ⊎ ((n0 == d) ≡ false) → down_ordered (down_item (next.dials d).cid) (next.links (next.dials d).link).down ≡ true
      down d h (inl own) = subst (λ (x : WorldDial). down_ordered (down_item x.cid) (queued (not (w.agents x.link).lost) (w.links x.link).down (for_link x.link sent.outs)) ≡ true) (sym (new_is d own))
          (down_order_undrawn (queued (not (w.agents l).lost) (w.links l).down (for_link l sent.outs)))
      down d h (inr other) = subst (λ (x : WorldDial). down_ordered (down_item x.cid) (queued (not (w.agents x.link).lost) (w.links x.link).down (for_link x.link sent.outs)) ≡ true) (sym (old_is d other))
          (down_queued (down_item (w.dials d).cid) (not (w.agents (w.dials d).link).lost) (w.links (w.dials d).link).down (for_link (w.dials d).link sent.outs) ((keys.ordered k came).down d (of_old k d came other h))
          (λ there. request_behind d ((w.dials d).link == l)))

  draw_brings : Brings w random sent before
  draw_brings = record {
    remains = in_remains w f keys present (DialReq protocol address random) rest first;
    orderly = in_orderly w f keys present (DialReq protocol address random) rest first (DialReq protocol address random) sent granted;
    uncut = λ i. refl;
    links = keys.server.links_up;
    fronts = keys.server.fronts_up;
    counts = omega arith;
    awaited = awaited;
    held = held;
    same_dials = λ d h. old_is d (not_new d (older h.0 d h.1 h.2));
    same_cids = same_cids;
    app_dials = λ k came. by_case k came (by_app k);
    one_new = λ j k cj ck a b. one_asker j k cj ck (asker_of j cj a) (asker_of k ck b);
    to_links = request_fits;
    to_fronts = λ g. tt;
    asked_once = once;
    ordered = order;
  }
    where
      by_case : (k : ℕ) → (w.apps k).came ≡ true → Asker k ⊎ (dial_after w random sent k ≡ (w.apps k).dial) → (dial_after w random sent k ≡ (w.apps k).dial) ⊎ IsNew w random sent k
      by_case k came (inl a) = inr (record { undrawn = undrawn k came a; drawn = a.drawn; counted = omega arith })
      by_case k came (inr same) = inl same

  pub draw_keeps : Lifts w next → Keys next
  draw_keeps lifts = brings_keep w random sent before keys draw_brings lifts
