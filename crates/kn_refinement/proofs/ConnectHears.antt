-- The server takes what an app by CONNECT gave it.
use Rattle.std.proofs.Common.{◌≡◌, ◌≤◌, ◌<◌, ◌&&◌, ◌||◌, ◌⊎◌, inl, inr, ℕ, pos, zero, suc, Bool, true, false, not, cond, List, [], ◌∷◌, map, Option, Some, None, refl, sym, ap, ◌∙◌, subst, arith}
use Rattle.std.specs.Prelude.{nat_lt}
use Rattle.std.proofs.lemmas.Bool.{ltb-false}
use Rattle.kn_packet.specs.declared.packet.Packet.{Packet}
use Rattle.kn_packet.specs.declared.packet.Packet.TheVariants.{Data}
use Rattle.kn_server_core.specs.Isolation.{Each}
use Rattle.kn_server_core.specs.declared.event.ServerEvent.TheVariants.{FrontPacket}
use Rattle.kn_tunnel.specs.Facts.{Facts}
use Rattle.kn_tunnel.specs.Kinds.{implies, is_awaited, is_dialling, is_gone, is_present, no_head}
use Rattle.kn_tunnel.specs.StreamSide.{StreamView, app_bytes, connect_lost, connect_row, in_ok, lost_out, nothing_out, order_out, rows, stream_control, stream_ok, stream_row, stream_view}
use Rattle.kn_tunnel.specs.Tunnel.{Awaited, Carrying, Closing, Entry, Frontless, NoEntry, Opened, Present}
use Rattle.kn_packets.specs.Keys.{Keys}
use Rattle.kn_packets.specs.Moves.{May, after, as_taken, begins_with_bytes, connection_dial, dial_entry, dial_number, in_is, server_does, takes_in}
use Rattle.kn_packets.specs.Moves.Move.{ServerTakesIn}
use Rattle.kn_packets.specs.World.{World, WorldApp, WorldStream, tunnel, tunnel_of}
use Rattle.kn_packets.proofs.Taken.{and_first, and_second}
use Rattle.kn_world.specs.declared.parts.App.{App}
use Rattle.kn_world.specs.declared.parts.Stage.TheVariants as stage
use Rattle.kn_world.specs.declared.state.State.{State}
use Rattle.kn_world.specs.Apps as apps
use Rattle.kn_world.specs.Doors as door
use Rattle.kn_world.specs.Handing.{server_hears, server_hears_first}
use Rattle.kn_world.specs.Numbers.{change, first_of, rest_of, signed}
use Rattle.kn_world.specs.ServerSteps.{step}
use Rattle.kn_world.specs.Times.{times}
use Rattle.kn_refinement.specs.Fits.{Fits, IsDataOf}
use Rattle.kn_refinement.specs.Leads.{Leads}
use Rattle.kn_refinement.specs.Shown.{connect_app, connect_phase, connect_stream, front_if, number_if, shown, unnumbered}
use Rattle.kn_refinement.proofs.Changes.{changed_own}
use Rattle.kn_refinement.proofs.ConnectHands.{phase_own}
use Rattle.kn_refinement.proofs.ConnectKept.{Answered, Has, TiedAnswered, step_answered}
use Rattle.kn_refinement.proofs.ConnectParts.{Own, Same, ServerLeads, app_shown, apps_changed, fits_changed, stream_shown, streams_changed}
use Rattle.kn_refinement.proofs.ConnectTakes.{kept_leads}
use Rattle.kn_refinement.proofs.Worlds.{KeysGoOn, leads_none, leads_then, worlds_same}

-- ---- its dial is awaited no more
-- of a tunnel that the server has: not once the app is open, or the server has finished it
abbrev Past : StreamView → Type 0
Past v = ((v.client ≡ true) × (v.phase ≡ Opened)) ⊎ (v.finished ≡ true)

rows_of : (v : StreamView) → stream_ok v ≡ true → rows v ≡ true
rows_of v h =
    and_second (app_bytes v) (rows v) (and_second (order_out v) (app_bytes v && rows v) (and_second (lost_out v) (order_out v && (app_bytes v && rows v))
    (and_second (in_ok v.connect v.front v.entry v.drawn v.request v.cancel v.in_data v.in_close) (lost_out v && (order_out v && (app_bytes v && rows v)))
    (and_second (stream_control v.connect v.front v.client v.finished v.phase v.entry v.drawn v.request) (in_ok v.connect v.front v.entry v.drawn v.request v.cancel v.in_data v.in_close && (lost_out v && (order_out v && (app_bytes v && rows v)))) h))))

row_of : (v : StreamView) → rows v ≡ true → v.connect ≡ true → v.front ≡ Present → connect_row v v.entry ≡ true
row_of v h c f = rw (c, f) at
    (and_second (implies (not v.connect && v.client && is_dialling v.phase) (nothing_out v || not (no_head v.head)) && implies (not v.connect && v.client && not (is_gone v.front)) (stream_row v v.entry))
    (implies (v.connect && not (is_gone v.front)) (connect_row v v.entry))
    (and_first (implies (not v.connect && v.client && is_dialling v.phase) (nothing_out v || not (no_head v.head)) && implies (not v.connect && v.client && not (is_gone v.front)) (stream_row v v.entry) && implies (v.connect && not (is_gone v.front)) (connect_row v v.entry))
    (implies (v.connect && is_gone v.front && v.client) (connect_lost v v.phase)) h))

no_wait : (v : StreamView) → connect_row v Awaited ≡ true → Past v → ⊥
no_wait v h past =
    here (and_second (not v.request) (not v.client || is_dialling v.phase) (and_first (not v.request && (not v.client || is_dialling v.phase)) (nothing_out v) (and_first (not v.request && (not v.client || is_dialling v.phase) && nothing_out v) (not v.finished) h)))
    (and_second (not v.request && (not v.client || is_dialling v.phase) && nothing_out v) (not v.finished) h) past
  where
    here : (not v.client || is_dialling v.phase) ≡ true → not v.finished ≡ true → Past v → ⊥
    here p q (inl (c, o)) = let z : (not true || is_dialling Opened) ≡ true = ap (λ b. not b || is_dialling Opened) (sym c) ∙ ap (λ e. not v.client || is_dialling e) (sym o) ∙ p in absurd cc
    here p q (inr f) = let z : not true ≡ true = ap not (sym f) ∙ q in absurd cc

past_row : (v : StreamView) → stream_ok v ≡ true → v.connect ≡ true → v.front ≡ Present → Past v → is_awaited v.entry ≡ false
past_row v h c f past = here v.entry refl
  where
    row : connect_row v v.entry ≡ true
    row = row_of v (rows_of v h) c f

    here : (e : Entry) → v.entry ≡ e → is_awaited e ≡ false
    here NoEntry e = refl
    here Carrying e = refl
    here Closing e = refl
    here Frontless e = refl
    here Awaited e = absurd (no_wait v (ap (λ x. connect_row v x) (sym e) ∙ row) past)

-- what is shown of an app whose dial was answered
shown_past : (a : App) → Answered a → (((connect_stream 0 (Some a)).client ≡ true) × (connect_phase a.door.closing a.stage ≡ Opened)) ⊎ ((connect_stream 0 (Some a)).finished ≡ true)
shown_past a h = here a.door.closing refl
  where
    open_yet : a.door.closing ≡ false → Answered a → a.stage ≡ stage.Open
    open_yet c (inl e) = e
    open_yet c (inr e) = absurd (cc (c, e))

    here : (c : Bool) → a.door.closing ≡ c → (((connect_stream 0 (Some a)).client ≡ true) × (connect_phase a.door.closing a.stage ≡ Opened)) ⊎ ((connect_stream 0 (Some a)).finished ≡ true)
    here true c = inr (rw c refl)
    here false c = let e : a.stage ≡ stage.Open = open_yet c h in inl (rw (c, e) refl, rw (c, e) refl)

module _ (w : World) (k n : ℕ) (a : App) (app_is : w.apps k ≡ connect_app a) (stream_is : w.streams (suc n) ≡ connect_stream k (Some a)) (number : a.door.number ≡ suc n) (at_server : a.door.at_server ≡ true) (answered : Answered a) where
  its_stream : w.streams (w.apps k).stream ≡ connect_stream k (Some a)
  its_stream = ap (λ (x : WorldApp). w.streams x.stream) app_is ∙ ap w.streams number ∙ stream_is

  view_past : (d : ℕ) → Past (stream_view (tunnel_of w (w.apps k) (Some d)))
  view_past d = here (shown_past a answered)
    where
      here : (((connect_stream 0 (Some a)).client ≡ true) × (connect_phase a.door.closing a.stage ≡ Opened)) ⊎ ((connect_stream 0 (Some a)).finished ≡ true) → Past (stream_view (tunnel_of w (w.apps k) (Some d)))
      here (inl (c, p)) = inl (ap (λ (x : WorldStream). x.client) its_stream ∙ c, phase_own w k n a app_is number (ap (λ (x : WorldStream). x.connect) stream_is) ∙ p)
      here (inr f) = inr (ap (λ (x : WorldStream). x.finished) its_stream ∙ f)

  pub not_awaited : Facts (tunnel w k) → (o : Option ℕ) → (w.apps k).dial ≡ o → is_awaited (dial_entry w o) ≡ false
  not_awaited facts None e = refl
  not_awaited facts (Some d) e =
      past_row (stream_view (tunnel_of w (w.apps k) (Some d))) (subst (λ o. stream_ok (stream_view (tunnel_of w (w.apps k) o)) ≡ true) e facts.stream)
      (ap (λ (x : WorldStream). x.connect) its_stream) (ap (λ (x : WorldStream). x.front) its_stream ∙ ap front_if at_server) (view_past d)

-- ---- a dial's number is one that a packet has
signed_is : (d : ℕ) → d < 9223372036854775808 → signed d ≡ pos d
signed_is d h = here (nat_lt d 9223372036854775808) refl
  where
    here : (b : Bool) → nat_lt d 9223372036854775808 ≡ b → cond b (pos d) (pos 0) ≡ pos d
    here true e = refl
    here false e = let le : 9223372036854775808 ≤ d = ltb-false d 9223372036854775808 e in absurd (omega arith)

dial_named : (d : ℕ) → ((e : ℕ) → number_if d ≡ Some e → e < 9223372036854775807) → dial_number (number_if d) ≡ signed d
dial_named zero h = sym (signed_is zero (omega arith))
dial_named (suc d) h = let lt : suc d < 9223372036854775807 = h (suc d) refl in sym (signed_is (suc d) (omega arith))

-- ---- what is kept first goes to the server
module _ (serve : ServerLeads) (s : State) (k n : ℕ) (a : App) (fits : Fits s) (keys : Keys (shown s)) (own : Own s k n a) (answered : Answered a) where
  rest_state : State
  rest_state = record s { apps = change apps.rest_kept k s.apps }

  abbrev ups : List Packet → Bool → WorldStream → WorldStream
  ups ps b x = record x { up = cond b ps x.up }

  came : ((shown s).apps k).came ≡ true
  came = ap (λ (x : WorldApp). x.came) (app_shown s k n a own)

  its_dial : ((shown s).apps k).dial ≡ number_if a.dial
  its_dial = ap (λ (x : WorldApp). x.dial) (app_shown s k n a own)

  at_stream : (shown s).streams (suc n) ≡ connect_stream k (Some a)
  at_stream = stream_shown s k n a fits own

  small : (e : ℕ) → number_if a.dial ≡ Some e → e < 9223372036854775807
  small e h =
      let lt : e < s.server.next_dial = keys.server.dials_older k e came (its_dial ∙ h) in
      let few : s.server.next_dial ≤ 9223372036854775807 = keys.server.orderly.sound.few in
      omega arith

  present : (p : Packet) (rest : List Packet) → a.door.early ≡ p ∷ rest → a.door.at_server ≡ true
  present p rest first = here a.door.at_server refl
    where
      here : (b : Bool) → a.door.at_server ≡ b → b ≡ true
      here true e = refl
      here false e = let z : p ∷ rest ≡ [] = sym first ∙ (fits.fronts.gone k n a own.there own.at_door own.number e).1 in absurd cc

  rest_same : (p : Packet) (rest : List Packet) → a.door.early ≡ p ∷ rest → Same a (apps.rest_kept a)
  rest_same p rest first = record {
    at_door = own.at_door;
    number = refl;
    dial = refl;
    early = let all : Each (IsDataOf a.dial) (p ∷ rest) = subst (λ ps. Each (IsDataOf a.dial) ps) first (fits.fronts.early k a own.there own.at_door) in
        subst (λ ps. Each (IsDataOf a.dial) (rest_of ps)) (sym first) all.1;
    unheard = λ z. let y : suc n ≡ 0 = sym own.number ∙ z in absurd cc;
    refused = λ r. fits.fronts.refused k a own.there own.at_door r;
    present = λ m e g. fits.fronts.present k m a own.there own.at_door e g;
    gone = λ m e g. absurd (cc (g, present p rest first));
  }

  rest_shown : (p : Packet) (rest : List Packet) → a.door.early ≡ p ∷ rest → in_is (suc n) (map unnumbered rest) (shown s) ≡ shown rest_state
  unfolding rest_state
  rest_shown p rest first = worlds_same (in_is (suc n) (map unnumbered rest) (shown s)) (shown rest_state) refl (λ l. refl) (λ c. refl) (λ l. refl)
      (streams_changed s k n a apps.rest_kept (ups (map unnumbered rest)) fits own (λ x. refl) (ap (λ ps. record (connect_stream k (Some a)) { up = map unnumbered (rest_of ps) }) (sym first)))
      (λ d. refl)
      (apps_changed s k n a apps.rest_kept (λ b x. x) own own.at_door own.number (λ x. refl) refl)

  taken : (bytes : List ℕ) (rest : List Packet) → a.door.early ≡ door.data_of a.dial bytes ∷ rest
      → after (ServerTakesIn (suc n)) (shown s) ≡ server_does (FrontPacket (suc n) (door.data_of a.dial bytes)) (in_is (suc n) (map unnumbered rest) (shown s))
  taken bytes rest first =
      ap (λ (x : WorldStream). takes_in (suc n) x.up (shown s)) at_stream
      ∙ ap (λ ps. takes_in (suc n) (map unnumbered ps) (shown s)) first
      ∙ ap (λ (x : WorldStream). server_does (FrontPacket (suc n) (as_taken x.connect ((shown s).apps x.app).dial (Data (pos 0) [] bytes))) (in_is (suc n) (map unnumbered rest) (shown s))) at_stream
      ∙ ap (λ d. server_does (FrontPacket (suc n) (Data (dial_number d) [] bytes)) (in_is (suc n) (map unnumbered rest) (shown s))) its_dial
      ∙ ap (λ c. server_does (FrontPacket (suc n) (Data c [] bytes)) (in_is (suc n) (map unnumbered rest) (shown s))) (dial_named a.dial small)

  may : (p : Packet) (rest : List Packet) → a.door.early ≡ p ∷ rest → May (ServerTakesIn (suc n)) (shown s)
  may p rest first =
      let here : a.door.at_server ≡ true = present p rest first in
      let named : connection_dial (shown s) (suc n) ≡ ((shown s).apps k).dial = ap (λ (x : WorldStream). ((shown s).apps x.app).dial) at_stream in
      let waits : is_awaited (dial_entry (shown s) (connection_dial (shown s) (suc n))) ≡ false = not_awaited (shown s) k n a (app_shown s k n a own) at_stream own.number here answered (keys.facts k came) (connection_dial (shown s) (suc n)) (sym named) in
      both (is_present ((shown s).streams (suc n)).front) ((shown s).streams (suc n)).connect (is_awaited (dial_entry (shown s) (connection_dial (shown s) (suc n)))) (begins_with_bytes ((shown s).streams (suc n)).up)
      (ap (λ (x : WorldStream). is_present x.front) at_stream ∙ ap (λ b. is_present (front_if b)) here) waits
    where
      both : (a c w b : Bool) → a ≡ true → w ≡ false → (a && not (c && w && b)) ≡ true
      both true true false b p q = refl
      both true false false b p q = refl
      both a c true b p q = absurd (cc q)
      both false c w b p q = absurd (cc p)

  first_leads : (bytes : List ℕ) (rest : List Packet) → a.door.early ≡ door.data_of a.dial bytes ∷ rest → Leads s (step 0 (FrontPacket (suc n) (door.data_of a.dial bytes)) rest_state)
  unfolding rest_state
  first_leads bytes rest first =
      serve s rest_state (ServerTakesIn (suc n)) 0 (FrontPacket (suc n) (door.data_of a.dial bytes)) (fits_changed s k a apps.rest_kept fits own.there own.at_door (rest_same (door.data_of a.dial bytes) rest first)) refl refl tt keys
      (may (door.data_of a.dial bytes) rest first)
      (taken bytes rest first ∙ ap (λ w. server_does (FrontPacket (suc n) (door.data_of a.dial bytes)) w) (rest_shown (door.data_of a.dial bytes) rest first))

  -- where nothing is kept, nothing happens
  none_leads : a.door.early ≡ [] → Leads s rest_state
  unfolding rest_state
  none_leads none = kept_leads s k a apps.rest_kept fits own.there own.at_door
      (record { at_door = refl; number = refl; at_server = refl; early = ap rest_of none ∙ sym none; closing = refl; dial = refl; sending = refl; end_given = refl; coming = λ e. e; stage = inl refl })
      (record { stream = λ j. ap (λ ps. record (connect_stream j (Some a)) { up = map unnumbered ps }) (none ∙ sym (ap rest_of none)); app = refl })

  hears_by : (early : List Packet) → a.door.early ≡ early → Leads s (server_hears_first (first_of early) (suc n) rest_state)
  hears_by [] e = none_leads e
  hears_by (p ∷ rest) e =
      let all : Each (IsDataOf a.dial) (p ∷ rest) = subst (λ ps. Each (IsDataOf a.dial) ps) e (fits.fronts.early k a own.there own.at_door) in
      subst (λ q. Leads s (step 0 (FrontPacket (suc n) q) rest_state)) (sym all.0.1) (first_leads all.0.0 rest (e ∙ ap (λ q. q ∷ rest) all.0.1))

  hears_is : server_hears k s ≡ server_hears_first (first_of a.door.early) (suc n) rest_state
  unfolding rest_state
  hears_is =
      ap (λ o. server_hears_first (apps.first_kept o) (apps.front_of o) (record s { apps = change apps.rest_kept k s.apps })) own.there
      ∙ ap (λ m. server_hears_first (first_of a.door.early) m (record s { apps = change apps.rest_kept k s.apps })) own.number

  pub hears_leads : Leads s (server_hears k s)
  hears_leads = subst (λ t. Leads s t) (sym hears_is) (hears_by a.door.early refl)

  -- it is still one whose dial was answered
  rest_has : Has (TiedAnswered (suc n)) k rest_state.apps
  unfolding rest_state
  rest_has = (apps.rest_kept a, changed_own apps.rest_kept k s.apps a own.there, record { tied = record { at_door = own.at_door; number = own.number }; answered = answered })

  has_by : (early : List Packet) → Has (TiedAnswered (suc n)) k (server_hears_first (first_of early) (suc n) rest_state).apps
  has_by [] = rest_has
  has_by (p ∷ rest) = step_answered (suc n) 0 (FrontPacket (suc n) p) k rest_state rest_has

  pub hears_has : Has (TiedAnswered (suc n)) k (server_hears k s).apps
  hears_has = subst (λ (t : State). Has (TiedAnswered (suc n)) k t.apps) (sym hears_is) (has_by a.door.early)

-- ---- one after another
module _ (go : KeysGoOn) (serve : ServerLeads) where
  pub hears_all_lead : (count : ℕ) (s : State) (k n : ℕ) → Fits s → Keys (shown s) → Has (TiedAnswered (suc n)) k s.apps → Leads s (times count (server_hears k) s)
  unfolding times
  hears_all_lead zero s k n fits keys h = leads_none s s fits refl
  hears_all_lead (suc count) s k n fits keys (a, there, t) =
      let own : Own s k n a = record { there = there; at_door = t.tied.at_door; number = t.tied.number } in
      leads_then go s (server_hears k s) (times count (server_hears k) (server_hears k s)) keys (hears_leads serve s k n a fits keys own t.answered)
      (λ fit key. hears_all_lead count (server_hears k s) k n fit key (hears_has serve s k n a fits keys own t.answered))
