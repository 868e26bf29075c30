-- A client takes an answer to a dial.
use Rattle.std.proofs.Common.{◌≡◌, ◌≢◌, ◌==◌, ◌||◌, ℕ, ℤ, pos, negsuc, Bool, true, false, not, List, [], ◌∷◌, Option, Some, None, inl, inr, refl, sym, ap, ◌∙◌, eqb-true, ◌⊎◌}
use Rattle.kn_packet.specs.declared.packet.Packet.{Packet}
use Rattle.kn_packet.specs.declared.packet.Packet.TheVariants.{CloseReq, DialRsp}
use Rattle.kn_tables.specs.Lists.{first_where}
use Rattle.kn_server_core.proofs.TunnelTables.{false_unless}
use Rattle.kn_server_core.specs.Isolation.{Each}
use Rattle.kn_edge_core.specs.Client.{app_left, app_turned, ignored, reply_by_state, reply_came, told}
use Rattle.kn_edge_core.specs.ClientTables.{app_at, app_changed, is_app, opened, without_app}
use Rattle.kn_edge_core.specs.declared.app.App.{App}
use Rattle.kn_edge_core.specs.declared.app.AppState.{AppState}
use Rattle.kn_edge_core.specs.declared.app.AppState.TheVariants as app
use Rattle.kn_edge_core.specs.declared.client_event.ClientOut.TheVariants.{ToServer}
use Rattle.kn_edge_core.specs.declared.client_state.ClientState.{ClientState}
use Rattle.kn_tunnel.specs.Events as event
use Rattle.kn_tunnel.specs.Kinds.{has_left, is_gone, is_refusal, is_reply}
use Rattle.kn_tunnel.specs.Steps as step
use Rattle.kn_tunnel.specs.Steps.{Follows}
use Rattle.kn_tunnel.specs.Tunnel.{Dialling, Draining, Ended, Ending, NoHead, Opened, Phase, Refused}
use Rattle.kn_words.specs.In.{CloseIn, OtherIn, stream_in_item, stream_in_word}
use Rattle.kn_words.specs.Numbers.{is_drawn_number, is_number}
use Rattle.kn_words.specs.Out.{OtherOut, RefusalOut, ReplyOut, out_before, out_cons, stream_out_item, stream_out_word}
use Rattle.kn_words.proofs.OutOrder.{out_order_first}
use Rattle.kn_words.proofs.Taken.{out_refusal_asks, out_refusal_taken, out_reply_asks, out_reply_taken}
use Rattle.kn_packets.specs.Keys.{AnswerFits, Keys}
use Rattle.kn_packets.specs.Lifts.{Lifts}
use Rattle.kn_packets.specs.Moves.{client_stepped, out_is}
use Rattle.kn_packets.specs.Outputs.{queued}
use Rattle.kn_packets.specs.World.{World, tunnel_of}
use Rattle.kn_packets.proofs.ClientLists.{its_number, left_other, left_own, turned_other, turned_own}
use Rattle.kn_packets.proofs.ClientParts.{drains, dry, dry_side, on_same, steps_lift}
use Rattle.kn_packets.proofs.Fresh.{eqb_refl}
use Rattle.kn_packets.proofs.Queues.{in_closed, in_other}
use Rattle.kn_packets.proofs.Replies.{number_is}

pub left_is : (p : Phase) → has_left p ≡ true → (p ≡ Ended) ⊎ (p ≡ Refused)
left_is Ended e = inl refl
left_is Refused e = inr refl
left_is Dialling e = absurd cc
left_is Opened e = absurd cc
left_is Ending e = absurd cc
left_is Draining e = absurd cc

not_same : (n m : ℕ) → (m == n) ≡ false → (n == m) ≡ false
not_same n m e = false_unless (n == m) (λ h. cc (rw (eqb-true n m h) at e, eqb_refl m))

-- an app that an answer's number names
pub named_app : (random : ℤ) (a : App) (xs : List App) → app_at random xs ≡ Some a → (random ≡ pos a.number) × (first_where (is_app a.number) xs ≡ Some a)
named_app (pos m) a xs f = let same : a.number ≡ m = its_number m a xs f in (ap pos (sym same), ap (λ i. first_where (is_app i) xs) same ∙ f)
named_app (negsuc m) a xs f = absurd cc

module _ (w : World) (f : ℕ) (error : List ℕ) (z random : ℤ) (rest : List Packet) (keys : Keys w) (client : (w.streams f).connect ≡ false) (there : (w.streams f).client ≡ true) (first : (w.streams f).down ≡ DialRsp error z random ∷ rest) where
  abbrev state : ClientState
  state = w.clients (w.streams f).owner

  before : (k : ℕ) (D : Option ℕ) → (w.apps k).came ≡ true → (w.apps k).stream ≡ f → (w.apps k).dial ≡ D → out_before (stream_out_item false (w.apps k).number D (DialRsp error z random)) (stream_out_word false (w.apps k).number D rest) ≡ true
  before k D came on de = out_order_first (stream_out_item false (w.apps k).number D) (DialRsp error z random) rest (rw (on, de, client, first) at ((keys.ordered k came).outward))

  item_not : (n : ℕ) (D : Option ℕ) → is_number n random ≡ false → stream_out_item false n D (DialRsp error z random) ≡ OtherOut
  item_not n D e = by_error error
    where
      by_error : (xs : List ℕ) → stream_out_item false n D (DialRsp xs z random) ≡ OtherOut
      by_error [] = rw e refl
      by_error (x ∷ xs) = rw e refl

  out_not : (n : ℕ) (D : Option ℕ) → is_number n random ≡ false → stream_out_word false n D rest ≡ stream_out_word false n D (w.streams f).down
  out_not n D e = rw (first, item_not n D e) refl

  -- who is named by the number of an app that dials is that app, on this stream
  module _ (a : App) (at : app_at random state.apps ≡ Some a) (dialling : a.state ≡ app.Dialling) where
    away_not : (k : ℕ) (L : Option App) → (w.apps k).came ≡ true → (w.streams (w.apps k).stream).connect ≡ false → (w.streams (w.apps k).stream).owner ≡ (w.streams f).owner → (w.streams (w.apps k).stream).client ≡ false
        → first_where (is_app (w.apps k).number) state.apps ≡ L → ((w.apps k).number == a.number) ≡ false
    away_not k L came cf ow lost le = false_unless ((w.apps k).number == a.number) (λ h.
        let here : first_where (is_app (w.apps k).number) state.apps ≡ Some a = ap (λ i. first_where (is_app i) state.apps) (eqb-true (w.apps k).number a.number h) ∙ (named_app random a state.apps at).1 in
        let lingers = drains w f rest keys client there (ignored state) k a came cf ow lost here in cc (lingers, dialling))

    other_number : (n : ℕ) → is_number n random ≡ false → (n == a.number) ≡ false
    other_number n e = not_same n a.number (rw (named_app random a state.apps at).0 at e)

    own_number : (n : ℕ) → is_number n random ≡ true → n ≡ a.number
    own_number n e = sym (eqb-true a.number n (rw (named_app random a state.apps at).0 at e))

    its_place : (n : ℕ) → is_number n random ≡ true → first_where (is_app n) state.apps ≡ Some a
    its_place n e = ap (λ i. first_where (is_app i) state.apps) (own_number n e) ∙ (named_app random a state.apps at).1

module _ (w : World) (f : ℕ) (z random : ℤ) (rest : List Packet) (keys : Keys w) (client : (w.streams f).connect ≡ false) (there : (w.streams f).client ≡ true) (first : (w.streams f).down ≡ DialRsp [] z random ∷ rest) where
  pub reply_fits : (k : ℕ) (D : Option ℕ) → (w.apps k).came ≡ true → (w.apps k).stream ≡ f → (w.apps k).dial ≡ D → is_number (w.apps k).number random ≡ true → is_reply (stream_out_word false (w.apps k).number D (w.streams f).down).head ≡ true
  reply_fits k D came on de e = rw (first, e) (out_reply_asks (stream_out_word false (w.apps k).number D rest) (rw e at (before w f [] z random rest keys client there first k D came on de)))

  reply_word : (k : ℕ) (D : Option ℕ) → (w.apps k).came ≡ true → (w.apps k).stream ≡ f → (w.apps k).dial ≡ D → is_number (w.apps k).number random ≡ true → stream_out_word false (w.apps k).number D rest ≡ record (stream_out_word false (w.apps k).number D (w.streams f).down) { head = NoHead }
  reply_word k D came on de e = rw first (sym (ap (λ i. record (out_cons i (stream_out_word false (w.apps k).number D rest)) { head = NoHead }) (item (w.apps k).number D e) ∙ out_reply_taken (stream_out_word false (w.apps k).number D rest) (rw e at (before w f [] z random rest keys client there first k D came on de))))
    where
      item : (n : ℕ) (D : Option ℕ) → is_number n random ≡ true → stream_out_item false n D (DialRsp [] z random) ≡ ReplyOut
      item n D e = rw e refl

  -- an app that dials is open
  opens : (a : App) → app_at random (w.clients (w.streams f).owner).apps ≡ Some a → a.state ≡ app.Dialling → Lifts w (client_stepped (w.streams f).owner false (app_turned (w.clients (w.streams f).owner) a.number (opened z) []) (out_is f rest w))
  opens a at dialling = steps_lift w f rest keys client there (app_turned (w.clients (w.streams f).owner) a.number (opened z) []) (λ k came on. own k came on (is_number (w.apps k).number random) refl (w.apps k).dial refl)
      (λ k L came cf ow lost le. (turned_other (w.apps k).number a.number (opened z) (w.clients (w.streams f).owner).apps (λ x. refl) (away_not w f [] z random rest keys client there first a at dialling k L came cf ow lost le) ∙ le, λ xs. refl))
    where
      now : (n : ℕ) → is_number n random ≡ true → first_where (is_app n) (app_turned (w.clients (w.streams f).owner) a.number (opened z) []).state.apps ≡ Some (opened z a)
      now n e = let same = own_number w f [] z random rest keys client there first a at dialling n e in
          ap (λ m. first_where (is_app n) (app_changed m (opened z) (w.clients (w.streams f).owner).apps)) (sym same) ∙ turned_own n (opened z) a (w.clients (w.streams f).owner).apps (λ x. refl) (its_place w f [] z random rest keys client there first a at dialling n e)

      own : (k : ℕ) → (w.apps k).came ≡ true → (w.apps k).stream ≡ f → (b : Bool) → is_number (w.apps k).number random ≡ b → (D : Option ℕ) → (w.apps k).dial ≡ D
          → Follows (tunnel_of w (w.apps k) D) (tunnel_of (client_stepped (w.streams f).owner false (app_turned (w.clients (w.streams f).owner) a.number (opened z) []) (out_is f rest w)) ((client_stepped (w.streams f).owner false (app_turned (w.clients (w.streams f).owner) a.number (opened z) []) (out_is f rest w)).apps k) D)
      own k came on true e None de = inr (
        event.ClientTakesReply,
        (rw (on, client, there) (reply_fits k None came on de e), tt),
        rw (on, client, there, eqb_refl (w.streams f).owner, eqb_refl f, now (w.apps k).number e, its_place w f [] z random rest keys client there first a at dialling (w.apps k).number e, dialling, reply_word k None came on de e) refl,
      )
      own k came on true e (Some d) de = inr (
        event.ClientTakesReply,
        (rw (on, client, there) (reply_fits k (Some d) came on de e), tt),
        rw (on, client, there, eqb_refl (w.streams f).owner, eqb_refl f, now (w.apps k).number e, its_place w f [] z random rest keys client there first a at dialling (w.apps k).number e, dialling, reply_word k (Some d) came on de e) refl,
      )
      own k came on false e D de = inl (on_same w f rest keys client there (app_turned (w.clients (w.streams f).owner) a.number (opened z) []) k came on (first_where (is_app (w.apps k).number) (w.clients (w.streams f).owner).apps) refl
          (turned_other (w.apps k).number a.number (opened z) (w.clients (w.streams f).owner).apps (λ x. refl) (other_number w f [] z random rest keys client there first a at dialling (w.apps k).number e)) (λ xs. refl) D
          (out_not w f [] z random rest keys client there first (w.apps k).number D e) refl)

  -- nobody waits for it: it is to be closed
  strays : ((a : App) → app_at random (w.clients (w.streams f).owner).apps ≡ Some a → a.state ≢ app.Dialling)
      → Lifts w (client_stepped (w.streams f).owner false (told (w.clients (w.streams f).owner) (ToServer (CloseReq z) ∷ [])) (out_is f rest w))
  strays none = steps_lift w f rest keys client there (told (w.clients (w.streams f).owner) (ToServer (CloseReq z) ∷ [])) (λ k came on. own k came on (is_number (w.apps k).number random) refl (w.apps k).dial refl) (λ k L came cf ow lost le. (le, λ xs. refl))
    where
      key : (k : ℕ) → (w.apps k).came ≡ true → (w.apps k).stream ≡ f → is_drawn_number (w.apps k).dial z ≡ is_number (w.apps k).number random
      key k came on = let all : Each (AnswerFits w f) (DialRsp [] z random ∷ rest) = rw first at (keys.clients.answers f client) in all.0.1 k came on

      its_dry : (k : ℕ) → (w.apps k).came ≡ true → (w.apps k).stream ≡ f → first_where (is_app (w.apps k).number) (w.clients (w.streams f).owner).apps ≡ None → (w.apps k).side.unwritten ≡ []
      its_dry k came on at = dry w f rest keys client there (ignored (w.clients (w.streams f).owner)) k came (rw on client) (ap (λ i. (w.streams i).owner) on) at

      in_word : (k : ℕ) (D : Option ℕ) → is_drawn_number D z ≡ true → stream_in_word false (w.apps k).number D (queued (not (is_gone (w.streams f).front)) (w.streams f).up (CloseReq z ∷ []))
          ≡ record (stream_in_word false (w.apps k).number D (w.streams f).up) { close = (stream_in_word false (w.apps k).number D (w.streams f).up).close || not (is_gone (w.streams f).front) }
      in_word k D e = in_closed (stream_in_item false (w.apps k).number D) (not (is_gone (w.streams f).front)) (w.streams f).up (CloseReq z) (item (w.apps k).number D e)
        where
          item : (n : ℕ) (D : Option ℕ) → is_drawn_number D z ≡ true → stream_in_item false n D (CloseReq z) ≡ CloseIn
          item n D e = rw e refl

      in_not : (k : ℕ) (D : Option ℕ) → is_drawn_number D z ≡ false → stream_in_word false (w.apps k).number D (queued (not (is_gone (w.streams f).front)) (w.streams f).up (CloseReq z ∷ [])) ≡ stream_in_word false (w.apps k).number D (w.streams f).up
      in_not k D e = in_other (stream_in_item false (w.apps k).number D) (not (is_gone (w.streams f).front)) (w.streams f).up (CloseReq z) (item (w.apps k).number D e)
        where
          item : (n : ℕ) (D : Option ℕ) → is_drawn_number D z ≡ false → stream_in_item false n D (CloseReq z) ≡ OtherIn
          item n D e = rw e refl

      ours : (k : ℕ) → is_number (w.apps k).number random ≡ true → (x : App) → first_where (is_app (w.apps k).number) (w.clients (w.streams f).owner).apps ≡ Some x → x.state ≢ app.Dialling
      ours k e x at = none x (rw (number_is (w.apps k).number random e) at)

      listed_own : (k : ℕ) → (w.apps k).came ≡ true → (w.apps k).stream ≡ f → is_number (w.apps k).number random ≡ true → (x : App) → first_where (is_app (w.apps k).number) (w.clients (w.streams f).owner).apps ≡ Some x → (s : AppState) → x.state ≡ s → (D : Option ℕ) → (w.apps k).dial ≡ D
          → tunnel_of (client_stepped (w.streams f).owner false (told (w.clients (w.streams f).owner) (ToServer (CloseReq z) ∷ [])) (out_is f rest w)) ((client_stepped (w.streams f).owner false (told (w.clients (w.streams f).owner) (ToServer (CloseReq z) ∷ [])) (out_is f rest w)).apps k) D
          ≡ step.after event.ClientTakesReply (tunnel_of w (w.apps k) D)
      listed_own k came on e x at app.Dialling es D de = absurd (ours k e x at es)
      listed_own k came on e x at app.Open es None de = rw (on, client, there, eqb_refl (w.streams f).owner, eqb_refl f, at, es, reply_word k None came on de e, in_word k None (ap (λ y. is_drawn_number y z) (sym de) ∙ key k came on ∙ e)) refl
      listed_own k came on e x at app.Open es (Some d) de = rw (on, client, there, eqb_refl (w.streams f).owner, eqb_refl f, at, es, reply_word k (Some d) came on de e, in_word k (Some d) (ap (λ y. is_drawn_number y z) (sym de) ∙ key k came on ∙ e)) refl
      listed_own k came on e x at app.Closing es None de = rw (on, client, there, eqb_refl (w.streams f).owner, eqb_refl f, at, es, reply_word k None came on de e, in_word k None (ap (λ y. is_drawn_number y z) (sym de) ∙ key k came on ∙ e)) refl
      listed_own k came on e x at app.Closing es (Some d) de = rw (on, client, there, eqb_refl (w.streams f).owner, eqb_refl f, at, es, reply_word k (Some d) came on de e, in_word k (Some d) (ap (λ y. is_drawn_number y z) (sym de) ∙ key k came on ∙ e)) refl
      listed_own k came on e x at app.Lingering es None de = rw (on, client, there, eqb_refl (w.streams f).owner, eqb_refl f, at, es, reply_word k None came on de e, in_word k None (ap (λ y. is_drawn_number y z) (sym de) ∙ key k came on ∙ e)) refl
      listed_own k came on e x at app.Lingering es (Some d) de = rw (on, client, there, eqb_refl (w.streams f).owner, eqb_refl f, at, es, reply_word k (Some d) came on de e, in_word k (Some d) (ap (λ y. is_drawn_number y z) (sym de) ∙ key k came on ∙ e)) refl

      left_own_app : (k : ℕ) → (w.apps k).came ≡ true → (w.apps k).stream ≡ f → is_number (w.apps k).number random ≡ true → first_where (is_app (w.apps k).number) (w.clients (w.streams f).owner).apps ≡ None → ((w.apps k).phase ≡ Ended) ⊎ ((w.apps k).phase ≡ Refused) → (D : Option ℕ) → (w.apps k).dial ≡ D
          → tunnel_of (client_stepped (w.streams f).owner false (told (w.clients (w.streams f).owner) (ToServer (CloseReq z) ∷ [])) (out_is f rest w)) ((client_stepped (w.streams f).owner false (told (w.clients (w.streams f).owner) (ToServer (CloseReq z) ∷ [])) (out_is f rest w)).apps k) D
          ≡ step.after event.ClientTakesReply (tunnel_of w (w.apps k) D)
      left_own_app k came on e at (inl pe) None de = rw (on, client, there, eqb_refl (w.streams f).owner, eqb_refl f, at, pe, dry_side (w.apps k).side (its_dry k came on at), reply_word k None came on de e, in_word k None (ap (λ y. is_drawn_number y z) (sym de) ∙ key k came on ∙ e)) refl
      left_own_app k came on e at (inl pe) (Some d) de = rw (on, client, there, eqb_refl (w.streams f).owner, eqb_refl f, at, pe, dry_side (w.apps k).side (its_dry k came on at), reply_word k (Some d) came on de e, in_word k (Some d) (ap (λ y. is_drawn_number y z) (sym de) ∙ key k came on ∙ e)) refl
      left_own_app k came on e at (inr pe) None de = rw (on, client, there, eqb_refl (w.streams f).owner, eqb_refl f, at, pe, dry_side (w.apps k).side (its_dry k came on at), reply_word k None came on de e, in_word k None (ap (λ y. is_drawn_number y z) (sym de) ∙ key k came on ∙ e)) refl
      left_own_app k came on e at (inr pe) (Some d) de = rw (on, client, there, eqb_refl (w.streams f).owner, eqb_refl f, at, pe, dry_side (w.apps k).side (its_dry k came on at), reply_word k (Some d) came on de e, in_word k (Some d) (ap (λ y. is_drawn_number y z) (sym de) ∙ key k came on ∙ e)) refl

      by_listed : (k : ℕ) → (w.apps k).came ≡ true → (w.apps k).stream ≡ f → is_number (w.apps k).number random ≡ true → (L : Option App) → first_where (is_app (w.apps k).number) (w.clients (w.streams f).owner).apps ≡ L → (D : Option ℕ) → (w.apps k).dial ≡ D
          → tunnel_of (client_stepped (w.streams f).owner false (told (w.clients (w.streams f).owner) (ToServer (CloseReq z) ∷ [])) (out_is f rest w)) ((client_stepped (w.streams f).owner false (told (w.clients (w.streams f).owner) (ToServer (CloseReq z) ∷ [])) (out_is f rest w)).apps k) D
          ≡ step.after event.ClientTakesReply (tunnel_of w (w.apps k) D)
      by_listed k came on e (Some x) at D de = listed_own k came on e x at x.state refl D de
      by_listed k came on e None at D de = left_own_app k came on e at (left_is (w.apps k).phase (keys.clients.left k came (rw on client) (rw on at))) D de

      fits : (k : ℕ) (D : Option ℕ) → (w.apps k).came ≡ true → (w.apps k).stream ≡ f → (w.apps k).dial ≡ D → is_number (w.apps k).number random ≡ true → step.may event.ClientTakesReply (tunnel_of w (w.apps k) D) ≡ true
      fits k None came on de e = rw (on, client, there) (reply_fits k None came on de e)
      fits k (Some d) came on de e = rw (on, client, there) (reply_fits k (Some d) came on de e)

      own : (k : ℕ) → (w.apps k).came ≡ true → (w.apps k).stream ≡ f → (b : Bool) → is_number (w.apps k).number random ≡ b → (D : Option ℕ) → (w.apps k).dial ≡ D
          → Follows (tunnel_of w (w.apps k) D) (tunnel_of (client_stepped (w.streams f).owner false (told (w.clients (w.streams f).owner) (ToServer (CloseReq z) ∷ [])) (out_is f rest w)) ((client_stepped (w.streams f).owner false (told (w.clients (w.streams f).owner) (ToServer (CloseReq z) ∷ [])) (out_is f rest w)).apps k) D)
      own k came on true e D de = inr (event.ClientTakesReply, (fits k D came on de e, may_cut k D), by_listed k came on e (first_where (is_app (w.apps k).number) (w.clients (w.streams f).owner).apps) refl D de)
        where
          may_cut : (k : ℕ) (D : Option ℕ) → step.Cut event.ClientTakesReply (tunnel_of w (w.apps k) D)
          may_cut k D = tt
      own k came on false e D de = inl (on_same w f rest keys client there (told (w.clients (w.streams f).owner) (ToServer (CloseReq z) ∷ [])) k came on (first_where (is_app (w.apps k).number) (w.clients (w.streams f).owner).apps) refl refl (λ xs. refl) D
          (out_not w f [] z random rest keys client there first (w.apps k).number D e) (in_not k D (ap (λ y. is_drawn_number y z) (sym de) ∙ key k came on ∙ e)))

  pub answered : (o : Option App) → app_at random (w.clients (w.streams f).owner).apps ≡ o → Lifts w (client_stepped (w.streams f).owner false (reply_came (w.clients (w.streams f).owner) [] z o) (out_is f rest w))
  answered None at = strays (λ a h. cc (at, h))
  answered (Some a) at = by_state a.state refl
    where
      others : (s : AppState) → a.state ≡ s → s ≢ app.Dialling → (x : App) → app_at random (w.clients (w.streams f).owner).apps ≡ Some x → x.state ≢ app.Dialling
      others s es not_dialling x h = λ d. not_dialling (sym es ∙ ap (λ (y : App). y.state) (same x h) ∙ d)
        where
          same : (x : App) → app_at random (w.clients (w.streams f).owner).apps ≡ Some x → a ≡ x
          same x h = let m : Some a ≡ Some x = sym at ∙ h in cc

      by_state : (s : AppState) → a.state ≡ s → Lifts w (client_stepped (w.streams f).owner false (reply_by_state (w.clients (w.streams f).owner) a.number [] z s) (out_is f rest w))
      by_state app.Dialling es = opens a at es
      by_state app.Open es = strays (others app.Open es (λ h. cc))
      by_state app.Closing es = strays (others app.Closing es (λ h. cc))
      by_state app.Lingering es = strays (others app.Lingering es (λ h. cc))

-- ---- a refusal
module _ (w : World) (f x : ℕ) (xs : List ℕ) (z random : ℤ) (rest : List Packet) (keys : Keys w) (client : (w.streams f).connect ≡ false) (there : (w.streams f).client ≡ true) (first : (w.streams f).down ≡ DialRsp (x ∷ xs) z random ∷ rest) where
  refusal_fits : (k : ℕ) (D : Option ℕ) → (w.apps k).came ≡ true → (w.apps k).stream ≡ f → (w.apps k).dial ≡ D → is_number (w.apps k).number random ≡ true → is_refusal (stream_out_word false (w.apps k).number D (w.streams f).down).head ≡ true
  refusal_fits k D came on de e = rw (first, e) (out_refusal_asks (stream_out_word false (w.apps k).number D rest) (rw e at (before w f (x ∷ xs) z random rest keys client there first k D came on de)))

  refusal_word : (k : ℕ) (D : Option ℕ) → (w.apps k).came ≡ true → (w.apps k).stream ≡ f → (w.apps k).dial ≡ D → is_number (w.apps k).number random ≡ true → stream_out_word false (w.apps k).number D rest ≡ record (stream_out_word false (w.apps k).number D (w.streams f).down) { head = NoHead }
  refusal_word k D came on de e = rw first (sym (ap (λ i. record (out_cons i (stream_out_word false (w.apps k).number D rest)) { head = NoHead }) (item (w.apps k).number D e) ∙ out_refusal_taken (stream_out_word false (w.apps k).number D rest) (rw e at (before w f (x ∷ xs) z random rest keys client there first k D came on de))))
    where
      item : (n : ℕ) (D : Option ℕ) → is_number n random ≡ true → stream_out_item false n D (DialRsp (x ∷ xs) z random) ≡ RefusalOut
      item n D e = rw e refl

  fits : (k : ℕ) (D : Option ℕ) → (w.apps k).came ≡ true → (w.apps k).stream ≡ f → (w.apps k).dial ≡ D → is_number (w.apps k).number random ≡ true → step.may event.ClientTakesRefusal (tunnel_of w (w.apps k) D) ≡ true
  fits k None came on de e = rw (on, client, there) (refusal_fits k None came on de e)
  fits k (Some d) came on de e = rw (on, client, there) (refusal_fits k (Some d) came on de e)

  -- an app that dials leaves
  leaves : (a : App) → app_at random (w.clients (w.streams f).owner).apps ≡ Some a → a.state ≡ app.Dialling → Lifts w (client_stepped (w.streams f).owner false (app_left (w.clients (w.streams f).owner) a.number (x ∷ xs)) (out_is f rest w))
  leaves a at dialling = steps_lift w f rest keys client there (app_left (w.clients (w.streams f).owner) a.number (x ∷ xs)) (λ k came on. own k came on (is_number (w.apps k).number random) refl (w.apps k).dial refl)
      (λ k L came cf ow lost le. (left_other (w.apps k).number a.number (w.clients (w.streams f).owner).apps (away_not w f (x ∷ xs) z random rest keys client there first a at dialling k L came cf ow lost le) ∙ le, λ ys. refl))
    where
      now : (n : ℕ) → is_number n random ≡ true → first_where (is_app n) (without_app a.number (w.clients (w.streams f).owner).apps) ≡ None
      now n e = let same = own_number w f (x ∷ xs) z random rest keys client there first a at dialling n e in
          ap (λ m. first_where (is_app n) (without_app m (w.clients (w.streams f).owner).apps)) (sym same) ∙ left_own n a (w.clients (w.streams f).owner).apps (keys.clients.apps_rise (w.streams f).owner) (its_place w f (x ∷ xs) z random rest keys client there first a at dialling n e)

      own : (k : ℕ) → (w.apps k).came ≡ true → (w.apps k).stream ≡ f → (b : Bool) → is_number (w.apps k).number random ≡ b → (D : Option ℕ) → (w.apps k).dial ≡ D
          → Follows (tunnel_of w (w.apps k) D) (tunnel_of (client_stepped (w.streams f).owner false (app_left (w.clients (w.streams f).owner) a.number (x ∷ xs)) (out_is f rest w)) ((client_stepped (w.streams f).owner false (app_left (w.clients (w.streams f).owner) a.number (x ∷ xs)) (out_is f rest w)).apps k) D)
      own k came on true e None de = inr (
        event.ClientTakesRefusal,
        (fits k None came on de e, tt),
        rw (on, client, there, eqb_refl (w.streams f).owner, eqb_refl f, now (w.apps k).number e, its_place w f (x ∷ xs) z random rest keys client there first a at dialling (w.apps k).number e, dialling, refusal_word k None came on de e) refl,
      )
      own k came on true e (Some d) de = inr (
        event.ClientTakesRefusal,
        (fits k (Some d) came on de e, tt),
        rw (on, client, there, eqb_refl (w.streams f).owner, eqb_refl f, now (w.apps k).number e, its_place w f (x ∷ xs) z random rest keys client there first a at dialling (w.apps k).number e, dialling, refusal_word k (Some d) came on de e) refl,
      )
      own k came on false e D de = inl (on_same w f rest keys client there (app_left (w.clients (w.streams f).owner) a.number (x ∷ xs)) k came on (first_where (is_app (w.apps k).number) (w.clients (w.streams f).owner).apps) refl
          (left_other (w.apps k).number a.number (w.clients (w.streams f).owner).apps (other_number w f (x ∷ xs) z random rest keys client there first a at dialling (w.apps k).number e)) (λ ys. refl) D
          (out_not w f (x ∷ xs) z random rest keys client there first (w.apps k).number D e) refl)

  -- nobody waits for it
  passes : ((a : App) → app_at random (w.clients (w.streams f).owner).apps ≡ Some a → a.state ≢ app.Dialling) → Lifts w (client_stepped (w.streams f).owner false (ignored (w.clients (w.streams f).owner)) (out_is f rest w))
  passes none = steps_lift w f rest keys client there (ignored (w.clients (w.streams f).owner)) (λ k came on. own k came on (is_number (w.apps k).number random) refl (w.apps k).dial refl) (λ k L came cf ow lost le. (le, λ ys. refl))
    where
      its_dry : (k : ℕ) → (w.apps k).came ≡ true → (w.apps k).stream ≡ f → first_where (is_app (w.apps k).number) (w.clients (w.streams f).owner).apps ≡ None → (w.apps k).side.unwritten ≡ []
      its_dry k came on at = dry w f rest keys client there (ignored (w.clients (w.streams f).owner)) k came (rw on client) (ap (λ i. (w.streams i).owner) on) at

      listed_own : (k : ℕ) → (w.apps k).came ≡ true → (w.apps k).stream ≡ f → is_number (w.apps k).number random ≡ true → (y : App) → first_where (is_app (w.apps k).number) (w.clients (w.streams f).owner).apps ≡ Some y → (s : AppState) → y.state ≡ s → (D : Option ℕ) → (w.apps k).dial ≡ D
          → tunnel_of (client_stepped (w.streams f).owner false (ignored (w.clients (w.streams f).owner)) (out_is f rest w)) ((client_stepped (w.streams f).owner false (ignored (w.clients (w.streams f).owner)) (out_is f rest w)).apps k) D ≡ step.after event.ClientTakesRefusal (tunnel_of w (w.apps k) D)
      listed_own k came on e y at app.Dialling es D de = absurd (none y (rw (number_is (w.apps k).number random e) at) es)
      listed_own k came on e y at app.Open es None de = rw (on, client, there, eqb_refl (w.streams f).owner, eqb_refl f, at, es, refusal_word k None came on de e) refl
      listed_own k came on e y at app.Open es (Some d) de = rw (on, client, there, eqb_refl (w.streams f).owner, eqb_refl f, at, es, refusal_word k (Some d) came on de e) refl
      listed_own k came on e y at app.Closing es None de = rw (on, client, there, eqb_refl (w.streams f).owner, eqb_refl f, at, es, refusal_word k None came on de e) refl
      listed_own k came on e y at app.Closing es (Some d) de = rw (on, client, there, eqb_refl (w.streams f).owner, eqb_refl f, at, es, refusal_word k (Some d) came on de e) refl
      listed_own k came on e y at app.Lingering es None de = rw (on, client, there, eqb_refl (w.streams f).owner, eqb_refl f, at, es, refusal_word k None came on de e) refl
      listed_own k came on e y at app.Lingering es (Some d) de = rw (on, client, there, eqb_refl (w.streams f).owner, eqb_refl f, at, es, refusal_word k (Some d) came on de e) refl

      gone_own : (k : ℕ) → (w.apps k).came ≡ true → (w.apps k).stream ≡ f → is_number (w.apps k).number random ≡ true → first_where (is_app (w.apps k).number) (w.clients (w.streams f).owner).apps ≡ None → ((w.apps k).phase ≡ Ended) ⊎ ((w.apps k).phase ≡ Refused) → (D : Option ℕ) → (w.apps k).dial ≡ D
          → tunnel_of (client_stepped (w.streams f).owner false (ignored (w.clients (w.streams f).owner)) (out_is f rest w)) ((client_stepped (w.streams f).owner false (ignored (w.clients (w.streams f).owner)) (out_is f rest w)).apps k) D ≡ step.after event.ClientTakesRefusal (tunnel_of w (w.apps k) D)
      gone_own k came on e at (inl pe) None de = rw (on, client, there, eqb_refl (w.streams f).owner, eqb_refl f, at, pe, dry_side (w.apps k).side (its_dry k came on at), refusal_word k None came on de e) refl
      gone_own k came on e at (inl pe) (Some d) de = rw (on, client, there, eqb_refl (w.streams f).owner, eqb_refl f, at, pe, dry_side (w.apps k).side (its_dry k came on at), refusal_word k (Some d) came on de e) refl
      gone_own k came on e at (inr pe) None de = rw (on, client, there, eqb_refl (w.streams f).owner, eqb_refl f, at, pe, dry_side (w.apps k).side (its_dry k came on at), refusal_word k None came on de e) refl
      gone_own k came on e at (inr pe) (Some d) de = rw (on, client, there, eqb_refl (w.streams f).owner, eqb_refl f, at, pe, dry_side (w.apps k).side (its_dry k came on at), refusal_word k (Some d) came on de e) refl

      by_listed : (k : ℕ) → (w.apps k).came ≡ true → (w.apps k).stream ≡ f → is_number (w.apps k).number random ≡ true → (L : Option App) → first_where (is_app (w.apps k).number) (w.clients (w.streams f).owner).apps ≡ L → (D : Option ℕ) → (w.apps k).dial ≡ D
          → tunnel_of (client_stepped (w.streams f).owner false (ignored (w.clients (w.streams f).owner)) (out_is f rest w)) ((client_stepped (w.streams f).owner false (ignored (w.clients (w.streams f).owner)) (out_is f rest w)).apps k) D ≡ step.after event.ClientTakesRefusal (tunnel_of w (w.apps k) D)
      by_listed k came on e (Some y) at D de = listed_own k came on e y at y.state refl D de
      by_listed k came on e None at D de = gone_own k came on e at (left_is (w.apps k).phase (keys.clients.left k came (rw on client) (rw on at))) D de

      own : (k : ℕ) → (w.apps k).came ≡ true → (w.apps k).stream ≡ f → (b : Bool) → is_number (w.apps k).number random ≡ b → (D : Option ℕ) → (w.apps k).dial ≡ D
          → Follows (tunnel_of w (w.apps k) D) (tunnel_of (client_stepped (w.streams f).owner false (ignored (w.clients (w.streams f).owner)) (out_is f rest w)) ((client_stepped (w.streams f).owner false (ignored (w.clients (w.streams f).owner)) (out_is f rest w)).apps k) D)
      own k came on true e D de = inr (event.ClientTakesRefusal, (fits k D came on de e, may_cut k D), by_listed k came on e (first_where (is_app (w.apps k).number) (w.clients (w.streams f).owner).apps) refl D de)
        where
          may_cut : (k : ℕ) (D : Option ℕ) → step.Cut event.ClientTakesRefusal (tunnel_of w (w.apps k) D)
          may_cut k D = tt
      own k came on false e D de = inl (on_same w f rest keys client there (ignored (w.clients (w.streams f).owner)) k came on (first_where (is_app (w.apps k).number) (w.clients (w.streams f).owner).apps) refl refl (λ ys. refl) D
          (out_not w f (x ∷ xs) z random rest keys client there first (w.apps k).number D e) refl)

  pub refused : (o : Option App) → app_at random (w.clients (w.streams f).owner).apps ≡ o → Lifts w (client_stepped (w.streams f).owner false (reply_came (w.clients (w.streams f).owner) (x ∷ xs) z o) (out_is f rest w))
  refused None at = passes (λ a h. cc (at, h))
  refused (Some a) at = by_state a.state refl
    where
      others : (s : AppState) → a.state ≡ s → s ≢ app.Dialling → (y : App) → app_at random (w.clients (w.streams f).owner).apps ≡ Some y → y.state ≢ app.Dialling
      others s es not_dialling y h = λ d. not_dialling (sym es ∙ ap (λ (v : App). v.state) (same y h) ∙ d)
        where
          same : (y : App) → app_at random (w.clients (w.streams f).owner).apps ≡ Some y → a ≡ y
          same y h = let m : Some a ≡ Some y = sym at ∙ h in cc

      by_state : (s : AppState) → a.state ≡ s → Lifts w (client_stepped (w.streams f).owner false (reply_by_state (w.clients (w.streams f).owner) a.number (x ∷ xs) z s) (out_is f rest w))
      by_state app.Dialling es = leaves a at es
      by_state app.Open es = passes (others app.Open es (λ h. cc))
      by_state app.Closing es = passes (others app.Closing es (λ h. cc))
      by_state app.Lingering es = passes (others app.Lingering es (λ h. cc))
