-- An app by CONNECT hands over a piece: it is kept at its door, as the packet world has it on its way.
use Rattle.std.proofs.Common.{◌≡◌, ◌&&◌, ◌||◌, ◌++◌, ◌⊎◌, inl, inr, ℕ, pos, zero, suc, Bool, true, false, not, cond, List, [], ◌∷◌, map, take, Some, refl, sym, ap, ◌∙◌, subst}
use Rattle.kn_packet.specs.declared.packet.Packet.{Packet}
use Rattle.kn_packet.specs.declared.packet.Packet.TheVariants.{Data}
use Rattle.kn_tables.specs.Lists.{first_where}
use Rattle.kn_edge_core.specs.ClientTables.{is_app}
use Rattle.kn_tunnel.specs.Kinds.{is_dialling, is_gone, is_opened}
use Rattle.kn_tunnel.specs.Tunnel.{Phase}
use Rattle.kn_packets.specs.Keys.{Keys}
use Rattle.kn_packets.specs.Moves.{May, after, app_is, connect_hands, hands, hands_over, side_if}
use Rattle.kn_packets.specs.Moves.Move.{AppHands}
use Rattle.kn_packets.specs.Outputs.{queued}
use Rattle.kn_packets.specs.World.{World, WorldApp, WorldStream, phase_in, phase_of}
use Rattle.kn_packets.proofs.AgentKept.{each_more}
use Rattle.kn_world.specs.declared.parts.App.{App}
use Rattle.kn_world.specs.declared.parts.Home.TheVariants as home
use Rattle.kn_world.specs.declared.parts.Stage.TheVariants as stage
use Rattle.kn_world.specs.declared.state.State.{State}
use Rattle.kn_world.specs.Apps as apps
use Rattle.kn_world.specs.Doors as door
use Rattle.kn_world.specs.Handing.{hands_piece, hands_piece_of, hands_to}
use Rattle.kn_world.specs.Numbers.{change, nth}
use Rattle.kn_world.specs.Times.{times}
use Rattle.kn_refinement.specs.Fits.{Fits, HasLeft, IsDataOf, IsPast}
use Rattle.kn_refinement.specs.Leads.{Leads}
use Rattle.kn_refinement.specs.Shown.{connect_app, connect_phase, connect_stream, front_if, shown, unnumbered}
use Rattle.kn_refinement.proofs.Changes.{change_twice, changed_own}
use Rattle.kn_refinement.proofs.ConnectParts.{Own, Same, app_shown, apps_changed, fits_changed, stream_shown, streams_changed}
use Rattle.kn_refinement.proofs.Worlds.{KeysGoOn, leads_none, leads_one, leads_then, worlds_same}

-- ---- it hands pieces while it dials or is open, and the server has not ended the tunnel
pub record Hands (a : App) : Type 0 where
  pub open_yet : a.door.closing ≡ false
  pub here : (a.stage ≡ stage.Dialling) ⊎ (a.stage ≡ stage.Open)

not_left : (a : App) → Hands a → HasLeft a.stage → ⊥
not_left a h (inl r) = here h.here
  where
    here : (a.stage ≡ stage.Dialling) ⊎ (a.stage ≡ stage.Open) → ⊥
    here (inl e) = let z : stage.Dialling ≡ stage.Refused = sym e ∙ r in absurd cc
    here (inr e) = let z : stage.Open ≡ stage.Refused = sym e ∙ r in absurd cc
not_left a h (inr r) = here h.here
  where
    here : (a.stage ≡ stage.Dialling) ⊎ (a.stage ≡ stage.Open) → ⊥
    here (inl e) = let z : stage.Dialling ≡ stage.Ended = sym e ∙ r in absurd cc
    here (inr e) = let z : stage.Open ≡ stage.Ended = sym e ∙ r in absurd cc

not_past : (a : App) → Hands a → IsPast a → ⊥
not_past a h (inl left) = not_left a h left
not_past a h (inr ends) = cc (h.open_yet, ends)

-- the server has its front
pub has_front : (s : State) (k n : ℕ) (a : App) → Fits s → Own s k n a → Hands a → a.door.at_server ≡ true
has_front s k n a fits own h = here a.door.at_server refl
  where
    here : (b : Bool) → a.door.at_server ≡ b → b ≡ true
    here true e = refl
    here false e = absurd (not_past a h (fits.fronts.gone k n a own.there own.at_door own.number e).0)

-- ---- the phase of an app by CONNECT is what is noted
pub phase_own : (w : World) (k n : ℕ) (a : App) → w.apps k ≡ connect_app a → a.door.number ≡ suc n → (w.streams (suc n)).connect ≡ true → phase_in w (w.apps k) ≡ connect_phase a.door.closing a.stage
phase_own w k n a e number connect =
    ap (λ x. phase_in w x) e
    ∙ ap (λ m. phase_of (w.streams m).connect (first_where (is_app 0) (w.clients (w.streams m).owner).apps) (connect_phase a.door.closing a.stage)) number
    ∙ ap (λ b. phase_of b (first_where (is_app 0) (w.clients (w.streams (suc n)).owner).apps) (connect_phase a.door.closing a.stage)) connect

may_hand : (a : App) (b : Bool) (p : Phase) → Hands a → b ≡ true → p ≡ connect_phase a.door.closing a.stage → (is_opened p || (b && is_dialling p)) ≡ true
may_hand a b p h connect e =
    ap (λ q. is_opened q || (b && is_dialling q)) e
    ∙ ap (λ c. is_opened (connect_phase a.door.closing a.stage) || (c && is_dialling (connect_phase a.door.closing a.stage))) connect
    ∙ ap (λ c. is_opened (connect_phase c a.stage) || is_dialling (connect_phase c a.stage)) h.open_yet
    ∙ here h.here
  where
    here : (a.stage ≡ stage.Dialling) ⊎ (a.stage ≡ stage.Open) → (is_opened (connect_phase false a.stage) || is_dialling (connect_phase false a.stage)) ≡ true
    here (inl d) = ap (λ g. is_opened (connect_phase false g) || is_dialling (connect_phase false g)) d
    here (inr o) = ap (λ g. is_opened (connect_phase false g) || is_dialling (connect_phase false g)) o

-- ---- a piece goes
abbrev pub handed_app : List ℕ → App → App
handed_app bytes a = apps.kept bytes (apps.handed 16384 a)

hands_after : (w : World) (k n : ℕ) (a : App) → w.apps k ≡ connect_app a → a.door.number ≡ suc n → (w.streams (suc n)).connect ≡ true
    → after (AppHands k 16384) w ≡ connect_hands (suc n) (take 16384 a.side.sending.waiting) (app_is k (hands 16384) w)
hands_after w k n a e number connect =
    ap (λ (x : WorldApp). hands_over (w.streams x.stream).connect k (take 16384 x.side.kept) (app_is k (hands 16384) w)) e
    ∙ ap (λ m. hands_over (w.streams m).connect k (take 16384 a.side.sending.waiting) (app_is k (hands 16384) w)) number
    ∙ ap (λ b. hands_over b k (take 16384 a.side.sending.waiting) (app_is k (hands 16384) w)) connect
    ∙ ap (λ m. connect_hands m (take 16384 a.side.sending.waiting) (app_is k (hands 16384) w)) (ap (λ (x : WorldApp). x.stream) e ∙ number)

pub map_more : (ps : List Packet) (p : Packet) → map unnumbered (ps ++ p ∷ []) ≡ map unnumbered ps ++ unnumbered p ∷ []
map_more [] p = refl
map_more (q ∷ ps) p = ap (λ qs. unnumbered q ∷ qs) (map_more ps p)

abbrev stream_handed : List ℕ → Bool → WorldStream → WorldStream
stream_handed bytes b x = record x { up = cond b (queued (not (is_gone x.front)) x.up (Data (pos 0) [] bytes ∷ [])) x.up }

abbrev app_handed : Bool → WorldApp → WorldApp
app_handed b x = record x { side = side_if b (hands 16384) x.side }

own_stream : (k : ℕ) (a : App) (bytes : List ℕ) → a.door.at_server ≡ true → stream_handed bytes true (connect_stream k (Some a)) ≡ connect_stream k (Some (handed_app bytes a))
own_stream k a bytes e =
    ap (λ b. record (connect_stream k (Some a)) { up = queued (not (is_gone (front_if b))) (map unnumbered a.door.early) (Data (pos 0) [] bytes ∷ []) }) e
    ∙ ap (λ ps. record (connect_stream k (Some a)) { up = ps }) (sym (map_more a.door.early (door.data_of a.dial bytes)))

pub piece_is : (s : State) (k : ℕ) (a : App) → nth k s.apps ≡ Some a → a.home ≡ home.Connect → hands_piece k s ≡ record s { apps = change (handed_app (take 16384 a.side.sending.waiting)) k s.apps }
piece_is s k a there at_door =
    ap (λ o. hands_piece_of o k s) there
    ∙ ap (λ h. hands_to h (take 16384 a.side.sending.waiting) k (record s { apps = change (apps.handed 16384) k s.apps })) at_door
    ∙ ap (λ xs. record s { apps = xs }) (change_twice (apps.kept (take 16384 a.side.sending.waiting)) (apps.handed 16384) k s.apps)

handed_same : (s : State) (k n : ℕ) (a : App) (bytes : List ℕ) → Fits s → Own s k n a → Hands a → Same a (handed_app bytes a)
handed_same s k n a bytes fits own h = record {
  at_door = own.at_door;
  number = refl;
  dial = refl;
  early = each_more (IsDataOf a.dial) a.door.early (door.data_of a.dial bytes) (fits.fronts.early k a own.there own.at_door) (bytes, refl);
  unheard = λ z. let y : suc n ≡ 0 = sym own.number ∙ z in absurd cc;
  refused = λ r. fits.fronts.refused k a own.there own.at_door r;
  present = λ m e g. fits.fronts.present k m a own.there own.at_door e g;
  gone = λ m e g. absurd (not_past a h (fits.fronts.gone k m a own.there own.at_door e g).0);
}

module _ (s : State) (k n : ℕ) (a : App) (fits : Fits s) (own : Own s k n a) (h : Hands a) where
  abbrev bytes : List ℕ
  bytes = take 16384 a.side.sending.waiting

  abbrev f : App → App
  f = handed_app bytes

  connect : ((shown s).streams (suc n)).connect ≡ true
  connect = ap (λ (x : WorldStream). x.connect) (stream_shown s k n a fits own)

  may : May (AppHands k 16384) (shown s)
  may = let e = app_shown s k n a own in
      let c : ((shown s).streams ((shown s).apps k).stream).connect ≡ true = ap (λ (x : WorldApp). ((shown s).streams x.stream).connect) e ∙ ap (λ m. ((shown s).streams m).connect) own.number ∙ connect in
      ap (λ (x : WorldApp). x.came && (is_opened (phase_in (shown s) ((shown s).apps k)) || (((shown s).streams ((shown s).apps k).stream).connect && is_dialling (phase_in (shown s) ((shown s).apps k))))) e
      ∙ may_hand a ((shown s).streams ((shown s).apps k).stream).connect (phase_in (shown s) ((shown s).apps k)) h c (phase_own (shown s) k n a e own.number connect)

  made : connect_hands (suc n) bytes (app_is k (hands 16384) (shown s)) ≡ shown (record s { apps = change f k s.apps })
  made = worlds_same (connect_hands (suc n) bytes (app_is k (hands 16384) (shown s))) (shown (record s { apps = change f k s.apps })) refl (λ l. refl) (λ c. refl) (λ l. refl)
      (streams_changed s k n a f (stream_handed bytes) fits own (λ x. refl) (own_stream k a bytes (has_front s k n a fits own h)))
      (λ d. refl)
      (apps_changed s k n a f app_handed own own.at_door own.number (λ x. refl) refl)

  pub piece_leads : Leads s (hands_piece k s)
  piece_leads =
      subst (λ t. Leads s t) (sym (piece_is s k a own.there own.at_door))
      (leads_one s (record s { apps = change f k s.apps }) (AppHands k 16384) (fits_changed s k a f fits own.there own.at_door (handed_same s k n a bytes fits own h)) may
      (hands_after (shown s) k n a (app_shown s k n a own) own.number connect ∙ made))

-- ---- pieces, one after another
module _ (go : KeysGoOn) where
  pub pieces_lead : (count : ℕ) (s : State) (k n : ℕ) (a : App) → Fits s → Keys (shown s) → Own s k n a → Hands a → Leads s (times count (hands_piece k) s)
  unfolding times
  pieces_lead zero s k n a fits keys own h = leads_none s s fits refl
  pieces_lead (suc count) s k n a fits keys own h =
      leads_then go s (hands_piece k s) (times count (hands_piece k) (hands_piece k s)) keys (piece_leads s k n a fits own h)
      (λ fit key. pieces_lead count (hands_piece k s) k n (handed_app (take 16384 a.side.sending.waiting) a) fit key (own_after s k n a own) (record { open_yet = h.open_yet; here = h.here }))
    where
      own_after : (s : State) (k n : ℕ) (a : App) → Own s k n a → Own (hands_piece k s) k n (handed_app (take 16384 a.side.sending.waiting) a)
      own_after s k n a own = record {
        there = ap (λ (t : State). nth k t.apps) (piece_is s k a own.there own.at_door) ∙ changed_own (handed_app (take 16384 a.side.sending.waiting)) k s.apps a own.there;
        at_door = own.at_door;
        number = own.number;
      }
