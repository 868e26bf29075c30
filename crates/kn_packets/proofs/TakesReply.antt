-- The server takes a reply of a link: an awaited dial is open, and one that nobody awaits is to be closed.
use Rattle.std.proofs.Common.{◌≡◌, ◌==◌, ℕ, ℤ, pos, Bool, true, false, not, cond, List, [], ◌∷◌, Option, Some, None, inl, inr, refl, sym, ap, ◌∙◌, eqb-true}
use Rattle.kn_packet.specs.declared.packet.Packet.{Packet}
use Rattle.kn_packet.specs.declared.packet.Packet.TheVariants.{CloseReq, DialRsp}
use Rattle.kn_tables.specs.Lists.{first_where, in_place}
use Rattle.kn_tables.specs.Holding.{is_held, is_held_dial}
use Rattle.kn_tables.specs.declared.awaited_entry.AwaitedEntry.{AwaitedEntry}
use Rattle.kn_tables.specs.declared.held_entry.HeldEntry.{HeldEntry}
use Rattle.kn_tables.specs.declared.held_entry.HeldState.{HeldState}
use Rattle.kn_tables.specs.declared.held_entry.HeldState.TheVariants.{Closing, Open}
use Rattle.kn_server_core.specs.declared.event.ServerOut.TheVariants.{ToLink}
use Rattle.kn_server_core.specs.Isolation.{Each}
use Rattle.kn_server_core.specs.Server.{awaited_reply, dial_at, of_link, reply_by_entry, told, tunnel_opened}
use Rattle.kn_server_core.proofs.SoundLemmas.{first_in_place}
use Rattle.kn_server_core.proofs.TunnelTables.{put_found}
use Rattle.kn_edge_core.specs.declared.agent_state.AgentState.{AgentState}
use Rattle.kn_edge_core.specs.declared.app.App.{App}
use Rattle.kn_tunnel.proofs.Holdings.{holding_reply}
use Rattle.kn_tunnel.specs.Events as event
use Rattle.kn_tunnel.specs.Facts.{Facts}
use Rattle.kn_tunnel.specs.Kinds as kinds
use Rattle.kn_tunnel.specs.Kinds.{is_gone, opened_phase}
use Rattle.kn_tunnel.specs.Steps as step
use Rattle.kn_tunnel.specs.Steps.{Follows}
use Rattle.kn_tunnel.specs.Tunnel.{Phase}
use Rattle.kn_words.specs.Down.{CloseDown, OtherDown, down_item}
use Rattle.kn_words.specs.Numbers.{is_drawn_number}
use Rattle.kn_words.specs.Out.{OtherOut, ReplyOut, stream_out_item, stream_out_word}
use Rattle.kn_words.specs.Up.{OtherUp, ReplyUp, up_item, up_ordered, up_word}
use Rattle.kn_packets.specs.Keys.{Keys, OfDial, ReplyFits}
use Rattle.kn_packets.specs.Lifts.{Lifts}
use Rattle.kn_packets.specs.Moves.{served, up_is}
use Rattle.kn_packets.specs.Outputs.{all_answered, all_finish, asks, more_if, queued}
use Rattle.kn_packets.specs.World.{World, entry_at, far_of, held_entry, phase_of, tunnel_of}
use Rattle.kn_packets.proofs.Fresh.{eqb_refl}
use Rattle.kn_packets.proofs.Owners.{is_key, its_dial, its_entry, key_is, not_held, pos_one}
use Rattle.kn_packets.proofs.Queues.{down_closed, down_other, out_other, out_replied, request_other}
use Rattle.kn_packets.proofs.Replies.{IsFor, awaited_gone, awaited_kept, awaited_unheld, found_awaited, none_awaited, not_asked}
use Rattle.kn_packets.proofs.TakesRequest.{not_connect}
use Rattle.kn_packets.proofs.Taken.{or_false, up_other_taken, up_reply_taken}

pub reply_item : (dial : ℕ) (cid : Option ℕ) (c random : ℤ) → is_drawn_number cid c ≡ true → up_item dial cid (DialRsp [] c random) ≡ ReplyUp
reply_item dial cid c random e = rw e refl

reply_other : (dial : ℕ) (cid : Option ℕ) (c random : ℤ) → is_drawn_number cid c ≡ false → up_item dial cid (DialRsp [] c random) ≡ OtherUp
reply_other dial cid c random e = rw e refl

pub opened_own : (c : Bool) (n : ℕ) (D : Option ℕ) (connect_id random : ℤ) → asks c n random ≡ true → stream_out_item c n D (DialRsp [] connect_id random) ≡ ReplyOut
opened_own true n D connect_id random e = refl
opened_own false n D connect_id random e = rw e refl

pub opened_not : (c : Bool) (n : ℕ) (D : Option ℕ) (connect_id random : ℤ) → asks c n random ≡ false → stream_out_item c n D (DialRsp [] connect_id random) ≡ OtherOut
opened_not true n D connect_id random e = absurd cc
opened_not false n D connect_id random e = rw e refl

phase_opened : (c : Bool) (listed : Option App) (noted : Phase) → phase_of c listed (cond c (opened_phase noted) noted) ≡ cond c (opened_phase (phase_of c listed noted)) (phase_of c listed noted)
phase_opened true listed noted = refl
phase_opened false listed noted = refl

pub far_closed : (d : ℕ) (cid : Option ℕ) (agent : AgentState) (there b : Bool) (ps : List Packet) (c : ℤ) → far_of d cid agent (queued there ps (more_if b (CloseReq c) [])) ≡ far_of d cid agent ps
far_closed d (Some x) agent there b ps c = refl
far_closed d None agent there true ps c = rw (request_other d there ps (CloseReq c) refl) refl
far_closed d None agent there false ps c = refl

pub close_down : (cid : Option ℕ) (c : ℤ) → is_drawn_number cid c ≡ true → down_item cid (CloseReq c) ≡ CloseDown
close_down cid c e = rw e refl

pub not_down : (cid : Option ℕ) (c : ℤ) → is_drawn_number cid c ≡ false → down_item cid (CloseReq c) ≡ OtherDown
not_down cid c e = rw e refl

pub held_is : (state : HeldState) (front : Option ℕ) → kinds.is_held (held_entry state front) ≡ true
held_is Open None = refl
held_is Closing None = refl
held_is Open (Some f) = refl
held_is Closing (Some f) = refl

module _ (w : World) (l : ℕ) (c random : ℤ) (rest : List Packet) (keys : Keys w) (first : (w.links l).up ≡ DialRsp [] c random ∷ rest) (there : not (is_gone (w.links l).server) ≡ true) where
  pub it : OfDial w l c random
  it = let fits : Each (ReplyFits w l) (DialRsp [] c random ∷ rest) = rw first at (keys.agents.replies l) in fits.0

  key0 : is_drawn_number (w.dials it.dial).cid c ≡ true
  key0 = key_is (w.dials it.dial).cid c it.cid it.drawn it.named

  -- the connection is of one dial
  pub is_it : (d : ℕ) → (w.dials d).link ≡ l → is_drawn_number (w.dials d).cid c ≡ true → d ≡ it.dial
  is_it d on key = let named = is_key (w.dials d).cid c key in
      keys.agents.cid_once d it.dial named.0 (on ∙ sym it.on) named.1 (it.drawn ∙ ap Some (pos_one it.cid named.0 (sym it.named ∙ named.2)))

  word_own : (d : ℕ) (cid : Option ℕ) → is_drawn_number cid c ≡ true → up_ordered (up_item d cid) (w.links l).up ≡ true → up_word d cid rest ≡ record (up_word d cid (w.links l).up) { reply = false }
  word_own d cid e o = rw first (up_reply_taken (up_item d cid) (DialRsp [] c random) rest (reply_item d cid c random e) (rw first at o))

  word_other : (d : ℕ) (cid : Option ℕ) → is_drawn_number cid c ≡ false → up_word d cid rest ≡ up_word d cid (w.links l).up
  word_other d cid e = rw first (up_other_taken (up_item d cid) (DialRsp [] c random) rest (reply_other d cid c random e))

  pub replied_up : (d : ℕ) (cid : Option ℕ) → is_drawn_number cid c ≡ true → (up_word d cid (w.links l).up).reply ≡ true
  replied_up d cid e = rw (first, reply_item d cid c random e) refl

  may_own : (k d : ℕ) → (w.dials d).link ≡ l → is_drawn_number (w.dials d).cid c ≡ true → step.may event.ServerTakesReply (tunnel_of w (w.apps k) (Some d)) ≡ true
  may_own k d on key = rw (on, there, replied_up d (w.dials d).cid key) refl

  -- a reply of a connection that is held never comes
  pub none_held : first_where (is_held l c) w.server.held ≡ None
  none_held = here (first_where (is_held l c) w.server.held) refl
    where
      here : (o : Option HeldEntry) → first_where (is_held l c) w.server.held ≡ o → o ≡ None
      here None f = refl
      here (Some e) f =
          let same : it.dial ≡ e.dial = its_dial w keys l c e it.dial f it.on key0 in
          let app = keys.agents.cid_app it.dial it.cid it.drawn in
          let facts : Facts (tunnel_of w (w.apps app.0) (Some it.dial)) = rw app.2 at (keys.facts app.0 app.1) in
          let reply : (tunnel_of w (w.apps app.0) (Some it.dial)).up.reply ≡ true = rw it.on (replied_up it.dial (w.dials it.dial).cid key0) in
          let none : kinds.is_held (entry_at w.server it.dial) ≡ false = holding_reply (tunnel_of w (w.apps app.0) (Some it.dial)) facts reply in
          let some : kinds.is_held (entry_at w.server it.dial) ≡ true = rw (same, its_entry w keys l c e f) (held_is e.state e.front) in
          absurd (cc (none, some))

  -- nobody awaits it
  abbrev late : World
  late = served (pos 0) (told w.server (ToLink l (CloseReq c) ∷ [])) (up_is l rest w)

  late_lifts : of_link l (dial_at random w.server.awaited) ≡ None → Lifts w late
  late_lifts none k came = by_dial (w.apps k).dial refl
    where
      own : (d : ℕ) → (w.apps k).dial ≡ Some d → (w.dials d).link ≡ l → is_drawn_number (w.dials d).cid c ≡ true → Follows (tunnel_of w (w.apps k) (Some d)) (tunnel_of late (w.apps k) (Some d))
      own d de on key =
          let same = is_it d on key in
          inr (
            event.ServerTakesReply,
            (may_own k d on key, tt),
            rw (
              none_awaited w keys l random d none (it.asked ∙ ap pos (sym same)) on,
              not_held w keys l c d none_held on key,
              on,
              eqb_refl l,
              word_own d (w.dials d).cid key (rw on at ((keys.ordered k came).up d de)),
              far_closed d (w.dials d).cid (w.agents l) (not (w.agents l).lost) true (w.links l).down c,
              down_closed (down_item (w.dials d).cid) (not (w.agents l).lost) (w.links l).down (CloseReq c) (close_down (w.dials d).cid c key),
            ) refl,
          )

      by_key : (d : ℕ) → (w.apps k).dial ≡ Some d → (w.dials d).link ≡ l → (b : Bool) → is_drawn_number (w.dials d).cid c ≡ b → Follows (tunnel_of w (w.apps k) (Some d)) (tunnel_of late (w.apps k) (Some d))
      by_key d de on true key = own d de on key
      by_key d de on false key = inl (rw (
        on,
        eqb_refl l,
        word_other d (w.dials d).cid key,
        far_closed d (w.dials d).cid (w.agents l) (not (w.agents l).lost) true (w.links l).down c,
        down_other (down_item (w.dials d).cid) (not (w.agents l).lost) (w.links l).down (CloseReq c) (not_down (w.dials d).cid c key),
      ) refl)

      by_link : (d : ℕ) → (w.apps k).dial ≡ Some d → (b : Bool) → ((w.dials d).link == l) ≡ b → Follows (tunnel_of w (w.apps k) (Some d)) (tunnel_of late (w.apps k) (Some d))
      by_link d de true on = by_key d de (eqb-true (w.dials d).link l on) (is_drawn_number (w.dials d).cid c) refl
      by_link d de false on = inl (rw on refl)

      by_dial : (D : Option ℕ) → (w.apps k).dial ≡ D → Follows (tunnel_of w (w.apps k) D) (tunnel_of late (w.apps k) D)
      by_dial None de = inl refl
      by_dial (Some d) de = by_link d de ((w.dials d).link == l) refl

  -- it is awaited
  module _ (e : AwaitedEntry) (for : IsFor w l random e) where
    abbrev entry : HeldEntry
    entry = record { dial = e.dial; link = l; connect_id = c; front = Some e.front; state = Open }

    abbrev opened : World
    opened = served (pos 0) (tunnel_opened w.server l c e) (up_is l rest w)

    pub same_dial : it.dial ≡ e.dial
    same_dial = pos_one it.dial e.dial (sym it.asked ∙ for.named)

    pub its_link : (w.dials e.dial).link ≡ l
    its_link = (keys.server.awaited e.dial e for.at).link ∙ for.link

    key_of : is_drawn_number (w.dials e.dial).cid c ≡ true
    key_of = rw same_dial at key0

    pub held_now : first_where (is_held_dial e.dial) (in_place (λ (x : HeldEntry). x.dial) entry w.server.held) ≡ Some entry
    held_now = put_found (λ (x : HeldEntry). x.dial) (is_held_dial e.dial) entry w.server.held (awaited_unheld w keys l e for.at) (eqb_refl e.dial)

    pub held_same : (d : ℕ) → (e.dial == d) ≡ false → first_where (is_held_dial d) (in_place (λ (x : HeldEntry). x.dial) entry w.server.held) ≡ first_where (is_held_dial d) w.server.held
    held_same d other = first_in_place (λ (x : HeldEntry). x.dial) (is_held_dial d) entry w.server.held other

    out_same : (k : ℕ) → (w.apps k).came ≡ true → (D : Option ℕ) → (w.apps k).dial ≡ D → is_drawn_number D (pos e.dial) ≡ false → (b : Bool) → ((w.apps k).stream == e.front) ≡ b
        → stream_out_word (w.streams (w.apps k).stream).connect (w.apps k).number D (queued (w.streams (w.apps k).stream).client (w.streams (w.apps k).stream).down (more_if b (DialRsp [] (pos e.dial) e.random) []))
        ≡ stream_out_word (w.streams (w.apps k).stream).connect (w.apps k).number D (w.streams (w.apps k).stream).down
    out_same k came D de other false be = refl
    out_same k came D de other true be = out_other (stream_out_item (w.streams (w.apps k).stream).connect (w.apps k).number D) (w.streams (w.apps k).stream).client (w.streams (w.apps k).stream).down (DialRsp [] (pos e.dial) e.random)
        (opened_not (w.streams (w.apps k).stream).connect (w.apps k).number D (pos e.dial) e.random
        (not_asked w keys l e k for.at came (eqb-true (w.apps k).stream e.front be) (ap (λ y. is_drawn_number y (pos e.dial)) de ∙ other)))

    finish_same : (b connect finished : Bool) → all_finish connect (more_if b (DialRsp [] (pos e.dial) e.random) []) finished ≡ finished
    finish_same false connect finished = refl
    finish_same true connect finished = or_false finished

    answer_same : (k : ℕ) → (w.apps k).came ≡ true → is_drawn_number (w.apps k).dial (pos e.dial) ≡ false → (b : Bool) → ((w.apps k).stream == e.front) ≡ b → (phase : Phase)
        → all_answered (w.streams (w.apps k).stream).connect (more_if b (DialRsp [] (pos e.dial) e.random) []) phase ≡ phase
    answer_same k came other false be phase = refl
    answer_same k came other true be phase =
        rw (not_connect (w.streams (w.apps k).stream).connect (w.apps k).number e.random (not_asked w keys l e k for.at came (eqb-true (w.apps k).stream e.front be) other)) refl

    opened_lifts : Lifts w opened
    opened_lifts k came = by_dial (w.apps k).dial refl
      where
        others : (d : ℕ) → (w.apps k).dial ≡ Some d → (e.dial == d) ≡ false → (b : Bool) → ((w.dials d).link == l) ≡ b → tunnel_of opened (opened.apps k) (Some d) ≡ tunnel_of w (w.apps k) (Some d)
        others d de other true on = rw (
          awaited_kept w keys l e d for.at other,
          held_same d other,
          eqb-true (w.dials d).link l on,
          eqb_refl l,
          word_other d (w.dials d).cid (not_this d (eqb-true (w.dials d).link l on) other),
          out_same k came (Some d) de other ((w.apps k).stream == e.front) refl,
          finish_same ((w.apps k).stream == e.front) (w.streams (w.apps k).stream).connect (w.streams (w.apps k).stream).finished,
          answer_same k came (rw de other) ((w.apps k).stream == e.front) refl (w.apps k).phase,
        ) refl
          where
            not_this : (d : ℕ) → (w.dials d).link ≡ l → (e.dial == d) ≡ false → is_drawn_number (w.dials d).cid c ≡ false
            not_this d on other = here (is_drawn_number (w.dials d).cid c) refl
              where
                here : (b : Bool) → is_drawn_number (w.dials d).cid c ≡ b → b ≡ false
                here false h = refl
                here true h = let same : e.dial ≡ d = sym same_dial ∙ sym (is_it d on h) in absurd (cc (rw same at other, eqb_refl d))
        others d de other false on = rw (
          awaited_kept w keys l e d for.at other,
          held_same d other,
          on,
          out_same k came (Some d) de other ((w.apps k).stream == e.front) refl,
          finish_same ((w.apps k).stream == e.front) (w.streams (w.apps k).stream).connect (w.streams (w.apps k).stream).finished,
          answer_same k came (rw de other) ((w.apps k).stream == e.front) refl (w.apps k).phase,
        ) refl

        own : (w.apps k).dial ≡ Some e.dial → Follows (tunnel_of w (w.apps k) (Some e.dial)) (tunnel_of opened (opened.apps k) (Some e.dial))
        own de =
            let fits = keys.server.awaited e.dial e for.at in
            let on : (w.apps k).stream ≡ e.front = fits.front k came de in
            let asked : asks (w.streams e.front).connect (w.apps k).number e.random ≡ true = rw on at (fits.random k came de) in
            inr (
              event.ServerTakesReply,
              (may_own k e.dial its_link key_of, tt),
              rw (
                awaited_gone w keys l e for.at,
                held_now,
                awaited_unheld w keys l e for.at,
                for.at,
                its_link,
                eqb_refl l,
                word_own e.dial (w.dials e.dial).cid key_of (rw its_link at ((keys.ordered k came).up e.dial de)),
                on,
                eqb_refl e.front,
                out_replied (stream_out_item (w.streams e.front).connect (w.apps k).number (Some e.dial)) (w.streams e.front).client (w.streams e.front).down (DialRsp [] (pos e.dial) e.random)
                    (opened_own (w.streams e.front).connect (w.apps k).number (Some e.dial) (pos e.dial) e.random asked),
                phase_opened (w.streams e.front).connect,
                or_false (w.streams e.front).finished,
              ) refl,
            )

        by_key : (d : ℕ) → (w.apps k).dial ≡ Some d → (b : Bool) → (e.dial == d) ≡ b → Follows (tunnel_of w (w.apps k) (Some d)) (tunnel_of opened (opened.apps k) (Some d))
        by_key d de true same = let m : e.dial ≡ d = eqb-true e.dial d same in rw (← m) (own (de ∙ ap Some (sym m)))
        by_key d de false other = inl (others d de other ((w.dials d).link == l) refl)

        by_dial : (D : Option ℕ) → (w.apps k).dial ≡ D → Follows (tunnel_of w (w.apps k) D) (tunnel_of opened (opened.apps k) D)
        by_dial None de = inl (rw (
          out_same k came None de refl ((w.apps k).stream == e.front) refl,
          finish_same ((w.apps k).stream == e.front) (w.streams (w.apps k).stream).connect (w.streams (w.apps k).stream).finished,
          answer_same k came (rw de refl) ((w.apps k).stream == e.front) refl (w.apps k).phase,
        ) refl)
        by_dial (Some d) de = by_key d de (e.dial == d) refl

  by_await : (o : Option AwaitedEntry) → of_link l (dial_at random w.server.awaited) ≡ o → Lifts w (served (pos 0) (awaited_reply w.server l c o) (up_is l rest w))
  by_await None at = late_lifts at
  by_await (Some e) at = opened_lifts e (found_awaited w keys l random e at)

  pub reply_lifts : Lifts w (served (pos 0) (reply_by_entry w.server l c random (first_where (is_held l c) w.server.held)) (up_is l rest w))
  reply_lifts = rw none_held (by_await (of_link l (dial_at random w.server.awaited)) refl)
