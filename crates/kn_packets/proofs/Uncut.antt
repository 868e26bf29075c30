-- A reply on its way names no connection that the server holds, so no link is cut.
use Rattle.std.proofs.Common.{◌≡◌, ◌++◌, ℕ, ℤ, pos, Bool, true, false, cond, List, [], ◌∷◌, Option, Some, None, refl, sym, ap, ◌∙◌}
use Rattle.kn_packet.specs.declared.packet.Packet.{Packet}
use Rattle.kn_packet.specs.declared.packet.Packet.TheVariants.{DialRsp}
use Rattle.kn_route.specs.LinkLists.{has_link}
use Rattle.kn_tables.specs.Lists.{first_where}
use Rattle.kn_tables.specs.Holding.{is_held}
use Rattle.kn_tables.specs.declared.held_entry.HeldEntry.{HeldEntry}
use Rattle.kn_server_core.specs.declared.event.ServerEvent.TheVariants.{LinkPacket}
use Rattle.kn_server_core.specs.Server.{from_link, ignored, step}
use Rattle.kn_tunnel.proofs.Holdings.{holding_reply}
use Rattle.kn_tunnel.specs.Facts.{Facts}
use Rattle.kn_tunnel.specs.Kinds as kinds
use Rattle.kn_tunnel.specs.Tunnel.{Upward}
use Rattle.kn_words.specs.Numbers.{is_drawn_number}
use Rattle.kn_words.specs.Up.{BytesUp, CloseUp, OtherUp, RefusalUp, ReplyUp, UpItem, up_cons, up_item, up_word}
use Rattle.kn_packets.specs.Keys.{Keys, OfDial, ReplyFits}
use Rattle.kn_packets.specs.Outcome.{IsReplied}
use Rattle.kn_packets.specs.Outputs.{is_cut}
use Rattle.kn_packets.specs.World.{World, entry_at, tunnel_of}
use Rattle.kn_packets.proofs.Outcomes.{each_in}
use Rattle.kn_packets.proofs.Owners.{its_dial, its_entry, key_is}
use Rattle.kn_packets.proofs.ServerUpKeep.{packet_calm}
use Rattle.kn_packets.proofs.TakesReply.{held_is, reply_item}

still_replied : (i : UpItem) (v : Upward) → v.reply ≡ true → (up_cons i v).reply ≡ true
still_replied OtherUp v h = h
still_replied RefusalUp v h = h
still_replied ReplyUp v h = refl
still_replied (BytesUp bytes) v h = h
still_replied CloseUp v h = h

replied : (d : ℕ) (cid : Option ℕ) (c random : ℤ) → is_drawn_number cid c ≡ true → (before behind : List Packet) → (up_word d cid (before ++ DialRsp [] c random ∷ behind)).reply ≡ true
replied d cid c random key [] behind = rw (reply_item d cid c random key) refl
replied d cid c random key (p ∷ before) behind = still_replied (up_item d cid p) (up_word d cid (before ++ DialRsp [] c random ∷ behind)) (replied d cid c random key before behind)

module _ (w : World) (keys : Keys w) where
  pub replies_are_new : (l cid : ℕ) → IsReplied w l cid → first_where (is_held l (pos cid)) w.server.held ≡ None
  replies_are_new l cid h = here (first_where (is_held l (pos cid)) w.server.held) refl
    where
      it : OfDial w l (pos cid) h.0
      it = each_in (ReplyFits w l) (DialRsp [] (pos cid) h.0) (w.links l).up (keys.agents.replies l) h.1

      key : is_drawn_number (w.dials it.dial).cid (pos cid) ≡ true
      key = key_is (w.dials it.dial).cid (pos cid) it.cid it.drawn it.named

      on_the_way : (up_word it.dial (w.dials it.dial).cid (w.links l).up).reply ≡ true
      on_the_way = ap (λ ps. (up_word it.dial (w.dials it.dial).cid ps).reply) h.1.2 ∙ replied it.dial (w.dials it.dial).cid (pos cid) h.0 key h.1.0 h.1.1

      here : (o : Option HeldEntry) → first_where (is_held l (pos cid)) w.server.held ≡ o → o ≡ None
      here None f = refl
      here (Some e) f =
          let same : it.dial ≡ e.dial = its_dial w keys l (pos cid) e it.dial f it.on key in
          let app = keys.agents.cid_app it.dial it.cid it.drawn in
          let facts : Facts (tunnel_of w (w.apps app.0) (Some it.dial)) = rw app.2 at (keys.facts app.0 app.1) in
          let reply : (tunnel_of w (w.apps app.0) (Some it.dial)).up.reply ≡ true = rw it.on on_the_way in
          let none : kinds.is_held (entry_at w.server it.dial) ≡ false = holding_reply (tunnel_of w (w.apps app.0) (Some it.dial)) facts reply in
          let some : kinds.is_held (entry_at w.server it.dial) ≡ true = rw (same, its_entry w keys l (pos cid) e f) (held_is e.state e.front) in
          absurd (cc (none, some))

  pub none_is_cut : (l : ℕ) (p : Packet) (rest : List Packet) → (w.links l).up ≡ p ∷ rest → (i : ℕ) → is_cut i (step w.server (LinkPacket l p)).outs ≡ false
  none_is_cut l p rest first i = here (has_link l w.server.links) refl
    where
      here : (b : Bool) → has_link l w.server.links ≡ b → is_cut i (cond b (from_link w.server l p) (ignored w.server)).outs ≡ false
      here false off = refl
      here true linked = (packet_calm w l keys (sym (keys.server.links_up l) ∙ linked) rest p first).undrawn.uncut i
