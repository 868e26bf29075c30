-- An app comes to a client's stream: the tunnels of the others stay as they are, and its own begins.
use Rattle.std.proofs.Common.{◌≡◌, ◌<◌, ◌≤◌, ◌==◌, ◌&&◌, ℕ, ℤ, pos, negsuc, Bool, true, false, not, List, [], ◌∷◌, Option, Some, None, inl, inr, refl, sym, ap, ap₂, ◌∙◌, eqb-true, subst, arith}
use Rattle.std.specs.Prelude.{codes}
use Rattle.kn_packet.specs.declared.packet.Packet.{Packet}
use Rattle.kn_packet.specs.declared.packet.Packet.TheVariants.{CloseReq, CloseRsp, Data, DialCls, DialReq, DialRsp, Drain, Other}
use Rattle.kn_tables.specs.Lists.{first_where}
use Rattle.kn_server_core.specs.Isolation.{Each}
use Rattle.kn_server_core.proofs.SoundLemmas.{first_in_place}
use Rattle.kn_server_core.proofs.TunnelTables.{put_found}
use Rattle.kn_edge_core.specs.Client.{app_up}
use Rattle.kn_edge_core.specs.ClientTables.{is_app, with_app}
use Rattle.kn_edge_core.specs.Steps.{ClientStep}
use Rattle.kn_edge_core.specs.declared.app.App.{App}
use Rattle.kn_edge_core.specs.declared.app.AppState.TheVariants as app
use Rattle.kn_tunnel.specs.Cuts.{IsCutOut}
use Rattle.kn_tunnel.specs.Events as event
use Rattle.kn_tunnel.specs.Kinds.{is_gone}
use Rattle.kn_tunnel.specs.Steps as step
use Rattle.kn_tunnel.specs.Steps.{Follows, no_in, no_out}
use Rattle.kn_tunnel.specs.Tunnel.{Coming, Front, Gone, Present, Tunnel}
use Rattle.kn_words.specs.In.{OtherIn, RequestIn, in_cons, in_snoc, stream_in_item, stream_in_word}
use Rattle.kn_words.specs.Numbers.{is_number}
use Rattle.kn_words.specs.Out.{OtherOut, out_cons, stream_out_item, stream_out_word}
use Rattle.kn_words.proofs.Ends.{in_append}
use Rattle.kn_packets.specs.Keys.{AnswerFits, AskedOn, Keys, RequestOf}
use Rattle.kn_packets.specs.Lifts.{Lifts}
use Rattle.kn_packets.specs.Moves.{AppComes, May, after, app_begins, client_stepped, new_app}
use Rattle.kn_packets.specs.Outputs.{queued}
use Rattle.kn_packets.specs.World.{World, tunnel, tunnel_of}
use Rattle.kn_packets.proofs.AppParts.{nothing_unwritten}
use Rattle.kn_packets.proofs.ClientParts.{dry_side}
use Rattle.kn_packets.proofs.Fresh.{above, below, eqb_refl}
use Rattle.kn_packets.proofs.Queues.{in_other}
use Rattle.kn_packets.proofs.Taken.{and_first, and_second, not_false}

module _ (w : World) (a f n : ℕ) (address : List ℕ) (keys : Keys w) (not_yet : (w.apps a).came ≡ false) (client : (w.streams f).connect ≡ false) (there : (w.streams f).client ≡ true) (higher : (w.clients (w.streams f).owner).top_app < n) where
  abbrev c : ℕ
  c = (w.streams f).owner

  abbrev apps : List App
  apps = (w.clients c).apps

  abbrev S : ClientStep
  S = app_up (w.clients c) n address

  abbrev request : Packet
  request = DialReq (codes "tcp") address (pos n)

  abbrev new : World
  new = client_stepped c false S (app_begins a (new_app f n) w)

  abbrev dialling : App
  dialling = record { number = n; state = app.Dialling; connect_id = pos 0; unwritten = 0; error = [] }

  -- its number is above those of the client's other apps
  less : (k : ℕ) → (w.apps k).came ≡ true → (w.streams (w.apps k).stream).connect ≡ false → (w.streams (w.apps k).stream).owner ≡ c → (w.apps k).number < n
  less k came cf ow = let known : (w.apps k).number ≤ (w.clients c).top_app = rw ow at (keys.clients.tops k came cf) in omega (arith, known, higher)

  other_app : (k : ℕ) → (w.apps k).came ≡ true → (k == a) ≡ false
  other_app k came = here (k == a) refl
    where
      here : (b : Bool) → (k == a) ≡ b → b ≡ false
      here false e = refl
      here true e = let is : k ≡ a = eqb-true k a e in absurd (cc (rw is at came, not_yet))

  same_dial : (k : ℕ) → (k == a) ≡ false → (new.apps k).dial ≡ (w.apps k).dial
  same_dial k off = rw off refl

  -- ---- an app that is no app of this client
  stranger : (k : ℕ) → (k == a) ≡ false → (w.streams (w.apps k).stream).connect ≡ true → (D : Option ℕ) → tunnel_of new (new.apps k) D ≡ tunnel_of w (w.apps k) D
  stranger k off ct None = rw (off, ct) refl
  stranger k off ct (Some d) = rw (off, ct) refl

  other_client : (k : ℕ) → (k == a) ≡ false → (w.streams (w.apps k).stream).connect ≡ false → ((w.streams (w.apps k).stream).owner == c) ≡ false → (D : Option ℕ) → tunnel_of new (new.apps k) D ≡ tunnel_of w (w.apps k) D
  other_client k off cf other None = rw (off, cf, other) refl
  other_client k off cf other (Some d) = rw (off, cf, other) refl

  -- ---- another app of this client
  module _ (k : ℕ) (off : (k == a) ≡ false) (came : (w.apps k).came ≡ true) (cf : (w.streams (w.apps k).stream).connect ≡ false) (ow : (w.streams (w.apps k).stream).owner ≡ c) where
    not_its : (n == (w.apps k).number) ≡ false
    not_its = above (w.apps k).number n (less k came cf ow)

    now : (L : Option App) → first_where (is_app (w.apps k).number) apps ≡ L → first_where (is_app (w.apps k).number) (with_app dialling apps) ≡ L
    now L at = first_in_place (λ (x : App). x.number) (is_app (w.apps k).number) dialling apps not_its ∙ at

    word : (D : Option ℕ) → stream_in_word false (w.apps k).number D (queued (not (is_gone (w.streams (w.apps k).stream).front)) (w.streams (w.apps k).stream).up (request ∷ [])) ≡ stream_in_word false (w.apps k).number D (w.streams (w.apps k).stream).up
    word D = in_other (stream_in_item false (w.apps k).number D) (not (is_gone (w.streams (w.apps k).stream).front)) (w.streams (w.apps k).stream).up request (rw not_its refl)

    by_list : (L : Option App) → first_where (is_app (w.apps k).number) apps ≡ L → (has_stream : Bool) → (w.streams (w.apps k).stream).client ≡ has_stream → (D : Option ℕ) → tunnel_of new (new.apps k) D ≡ tunnel_of w (w.apps k) D
    by_list (Some x) at true te None = rw (off, cf, ow, eqb_refl c, te, now (Some x) at, at, word None) refl
    by_list (Some x) at true te (Some d) = rw (off, cf, ow, eqb_refl c, te, now (Some x) at, at, word (Some d)) refl
    by_list (Some x) at false te None = rw (off, cf, ow, eqb_refl c, te, now (Some x) at, at) refl
    by_list (Some x) at false te (Some d) = rw (off, cf, ow, eqb_refl c, te, now (Some x) at, at) refl
    by_list None at true te None = rw (off, cf, ow, eqb_refl c, te, now None at, at, dry_side (w.apps k).side (nothing_unwritten w keys k came cf (rw ow at)), word None) refl
    by_list None at true te (Some d) = rw (off, cf, ow, eqb_refl c, te, now None at, at, dry_side (w.apps k).side (nothing_unwritten w keys k came cf (rw ow at)), word (Some d)) refl
    by_list None at false te None = rw (off, cf, ow, eqb_refl c, te, now None at, at, dry_side (w.apps k).side (nothing_unwritten w keys k came cf (rw ow at))) refl
    by_list None at false te (Some d) = rw (off, cf, ow, eqb_refl c, te, now None at, at, dry_side (w.apps k).side (nothing_unwritten w keys k came cf (rw ow at))) refl

  -- ---- all that came before
  others_stay : (k : ℕ) → (w.apps k).came ≡ true → (D : Option ℕ) → tunnel_of new (new.apps k) D ≡ tunnel_of w (w.apps k) D
  others_stay k came D = by_connect (w.streams (w.apps k).stream).connect refl
    where
      by_owner : (w.streams (w.apps k).stream).connect ≡ false → (b : Bool) → ((w.streams (w.apps k).stream).owner == c) ≡ b → tunnel_of new (new.apps k) D ≡ tunnel_of w (w.apps k) D
      by_owner cf true ow = by_list k (other_app k came) came cf (eqb-true (w.streams (w.apps k).stream).owner c ow) (first_where (is_app (w.apps k).number) apps) refl (w.streams (w.apps k).stream).client refl D
      by_owner cf false other = other_client k (other_app k came) cf other D

      by_connect : (b : Bool) → (w.streams (w.apps k).stream).connect ≡ b → tunnel_of new (new.apps k) D ≡ tunnel_of w (w.apps k) D
      by_connect true ct = stranger k (other_app k came) ct D
      by_connect false cf = by_owner cf ((w.streams (w.apps k).stream).owner == c) refl

  others_lift : Lifts w new
  others_lift k came = inl (subst (λ D. tunnel_of new (new.apps k) D ≡ tunnel w k) (sym (same_dial k (other_app k came))) (others_stay k came (w.apps k).dial))

  -- ---- its own tunnel: its number is nowhere yet
  not_asked : (random : ℤ) → AskedOn w f random → is_number n random ≡ false
  not_asked (negsuc m) h = refl
  not_asked (pos m) h =
      let same : m ≡ (w.apps h.0).number = eqb-true m (w.apps h.0).number (rw client at h.3) in
      ap (λ i. i == n) same ∙ below (w.apps h.0).number n (less h.0 h.1 (rw h.2 client) (ap (λ i. (w.streams i).owner) h.2))

  in_item_new : (p : Packet) → RequestOf w f p → stream_in_item false n None p ≡ OtherIn
  in_item_new (DialReq protocol x random) h = rw (not_asked random h) refl
  in_item_new (DialCls random) h = rw (not_asked random h) refl
  in_item_new (DialRsp error connect_id random) h = refl
  in_item_new (Data connect_id error bytes) h = refl
  in_item_new (CloseReq connect_id) h = refl
  in_item_new (CloseRsp error connect_id) h = refl
  in_item_new Drain h = refl
  in_item_new (Other number) h = refl

  in_new : (ps : List Packet) → Each (RequestOf w f) ps → stream_in_word false n None ps ≡ no_in
  in_new [] h = refl
  in_new (p ∷ ps) h = ap₂ in_cons (in_item_new p h.0) (in_new ps h.1)

  out_item_new : (p : Packet) → AnswerFits w f p → stream_out_item false n None p ≡ OtherOut
  out_item_new (DialRsp [] connect_id random) h = rw (not_asked random h.0) refl
  out_item_new (DialRsp (x ∷ xs) connect_id random) h = rw (not_asked random h) refl
  out_item_new (DialReq protocol x random) h = refl
  out_item_new (DialCls random) h = refl
  out_item_new (Data connect_id error bytes) h = refl
  out_item_new (CloseReq connect_id) h = refl
  out_item_new (CloseRsp error connect_id) h = refl
  out_item_new Drain h = refl
  out_item_new (Other number) h = refl

  out_new : (ps : List Packet) → Each (AnswerFits w f) ps → stream_out_word false n None ps ≡ no_out
  out_new [] h = refl
  out_new (p ∷ ps) h = ap₂ out_cons (out_item_new p h.0) (out_new ps h.1)

  not_listed : (L : Option App) → first_where (is_app n) apps ≡ L → L ≡ None
  not_listed None at = refl
  not_listed (Some x) at =
      let known = keys.clients.known c n x at in let of_it = known.1.1 in
      let low : (w.apps known.0).number < n = less known.0 known.1.0 (split_first (w.streams (w.apps known.0).stream).connect ((w.streams (w.apps known.0).stream).owner == c) of_it)
      (eqb-true (w.streams (w.apps known.0).stream).owner c (and_second (not (w.streams (w.apps known.0).stream).connect) ((w.streams (w.apps known.0).stream).owner == c) of_it)) in
      absurd (let same : (w.apps known.0).number ≡ n = known.1.2 in omega (arith, low, same))
    where
      split_first : (p q : Bool) → (not p && q) ≡ true → p ≡ false
      split_first false q e = refl
      split_first true q e = absurd cc

  is_listed : first_where (is_app n) (with_app dialling apps) ≡ Some dialling
  is_listed = put_found (λ (x : App). x.number) (is_app n) dialling apps (not_listed (first_where (is_app n) apps) refl) (eqb_refl n)

  -- its request goes on its way, if the server has not lost the front
  asked : (b : Bool) → stream_in_word false n None (queued b (w.streams f).up (request ∷ [])) ≡ record no_in { request = b }
  asked true = in_append (stream_in_item false n None) (w.streams f).up request ∙ ap₂ in_snoc (in_new (w.streams f).up (keys.clients.requests f)) its_item
    where
      its_item : stream_in_item false n None request ≡ RequestIn
      its_item = rw (eqb_refl n) refl
  asked false = in_new (w.streams f).up (keys.clients.requests f)

  abbrev begun : Front → Tunnel
  begun front = record (step.start false) { front = front; inward = record no_in { request = not (is_gone front) } }

  begins_as : tunnel new a ≡ begun (w.streams f).front
  begins_as = rw (eqb_refl a, client, eqb_refl c, there, is_listed, keys.clients.unfinished f client, asked (not (is_gone (w.streams f).front)), out_new (w.streams f).down (keys.clients.answers f client)) refl

  by_front : (front : Front) → Follows (step.start false) (begun front)
  by_front Coming = inl refl
  by_front Present = inr (event.FrontUp, (refl, tt), refl)
  by_front Gone = inr (event.FrontLost no_out, (refl, nothing_cut), refl)
    where
      nothing_cut : IsCutOut no_out no_out
      nothing_cut = record { head = inl refl; bytes = ([], refl); closes = omega arith; closes_last = λ e. refl }

  begins : Follows (step.start false) (tunnel new a)
  begins = subst (λ t. Follows (step.start false) t) (sym begins_as) (by_front (w.streams f).front)

-- ---- the move
module _ (w : World) (a f n : ℕ) (address : List ℕ) (keys : Keys w) (may : May (AppComes a f n address) w) where
  on_stream : ((w.streams f).begun && (w.streams f).client && not (w.streams f).connect) ≡ true
  on_stream = and_first ((w.streams f).begun && (w.streams f).client && not (w.streams f).connect) (not (w.apps a).came) may.0

  not_yet : (w.apps a).came ≡ false
  not_yet = not_false (w.apps a).came (and_second ((w.streams f).begun && (w.streams f).client && not (w.streams f).connect) (not (w.apps a).came) may.0)

  client : (w.streams f).connect ≡ false
  client = not_false (w.streams f).connect (and_second ((w.streams f).begun && (w.streams f).client) (not (w.streams f).connect) on_stream)

  there : (w.streams f).client ≡ true
  there = and_second (w.streams f).begun (w.streams f).client (and_first ((w.streams f).begun && (w.streams f).client) (not (w.streams f).connect) on_stream)

  higher : (w.clients (w.streams f).owner).top_app < n
  higher = may.1

  pub comes_lift : Lifts w (after (AppComes a f n address) w)
  comes_lift = others_lift w a f n address keys not_yet client there higher

  -- its front may have come before it, or be lost
  pub comes_starts : Follows (step.start false) (tunnel (after (AppComes a f n address) w) a)
  comes_starts = begins w a f n address keys not_yet client there higher
