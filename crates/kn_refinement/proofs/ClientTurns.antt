-- What an event of a client's core comes to for each of its apps: it stays, or it leaves and is told so.
use Rattle.std.proofs.Common.{◌≡◌, ◌≢◌, ◌==◌, ◌⊎◌, inl, inr, ℕ, ℤ, pos, negsuc, Bool, true, false, cond, List, [], ◌∷◌, Option, Some, None, refl, sym, ap, ◌∙◌, if◌then◌else◌, eqb-true}
use Rattle.kn_packet.specs.declared.packet.Packet.{Packet}
use Rattle.kn_packet.specs.declared.packet.Packet.TheVariants.{CloseReq, CloseRsp, Data, DialCls, DialReq, DialRsp, Drain, Other}
use Rattle.kn_tables.specs.Lists.{IsRising, first_where, without}
use Rattle.kn_server_core.proofs.OrderLemmas.{none_at}
use Rattle.kn_server_core.proofs.TunnelTables.{false_unless}
use Rattle.kn_packets.proofs.StreamLosses.{after_none}
use Rattle.kn_edge_core.specs.Client as edge
use Rattle.kn_edge_core.specs.ClientTables.{app_at, app_changed, is_app, is_held_at, is_open_at, closing, lingering, opened, with_fewer, with_more}
use Rattle.kn_edge_core.specs.Steps.{ClientStep}
use Rattle.kn_edge_core.specs.declared.app.App.{App as ListedApp}
use Rattle.kn_edge_core.specs.declared.app.AppState.{AppState}
use Rattle.kn_edge_core.specs.declared.app.AppState.TheVariants as listed
use Rattle.kn_edge_core.specs.declared.client_event.ClientEvent.{ClientEvent}
use Rattle.kn_edge_core.specs.declared.client_event.ClientEvent.TheVariants as event
use Rattle.kn_edge_core.specs.declared.client_event.ClientOut.{ClientOut}
use Rattle.kn_edge_core.specs.declared.client_event.ClientOut.TheVariants as out
use Rattle.kn_edge_core.specs.declared.client_state.ClientState.{ClientState}
use Rattle.kn_packets.proofs.ClientLists.{held_is, its_number, its_place, left_other, left_own, turned_other, turned_own}
use Rattle.kn_packets.proofs.Fresh.{eqb_refl}
use Rattle.kn_packets.specs.Moves.{by_itself}
use Rattle.kn_server_core.proofs.SoundLemmas.{passes}
use Rattle.kn_world.specs.declared.parts.Stage.{Stage}
use Rattle.kn_refinement.specs.Fits.{IsNotedAs}

-- ---- the error that an app is told at its end, if it is told one
abbrev pub ended_in : ℕ → List ClientOut → Option (List ℕ)
ended_in m [] = None
ended_in m (out.ToServer p ∷ outs) = ended_in m outs
ended_in m (out.ToApp n bytes ∷ outs) = ended_in m outs
ended_in m (out.EndApp n error ∷ outs) = cond (m == n) (Some error) (ended_in m outs)

-- one that stays is noted as before, or its dial was answered; one that leaves while it dials is told an error, or left itself
abbrev pub Goes : Bool → AppState → AppState → Type 0
Goes may old new = ((noted : Stage) → IsNotedAs old noted → IsNotedAs new noted) ⊎ ((may ≡ true) × (old ≡ listed.Dialling) × (new ≡ listed.Open))

abbrev pub LeavesDialling : Bool → List ℕ → Type 0
LeavesDialling itself [] = itself ≡ true
LeavesDialling itself (x ∷ xs) = itself ≡ false

abbrev pub IsLeftAs : Bool → AppState → List ℕ → Type 0
IsLeftAs itself listed.Dialling error = LeavesDialling itself error
IsLeftAs itself listed.Open error = Unit {0}
IsLeftAs itself listed.Closing error = Unit {0}
IsLeftAs itself listed.Lingering error = Unit {0}

abbrev pub LeavesTold : Bool → AppState → Option (List ℕ) → Type 0
LeavesTold itself state None = ⊥
LeavesTold itself state (Some error) = IsLeftAs itself state error

abbrev pub Turns : Bool → Bool → Option ListedApp → Option (List ℕ) → Option ListedApp → Type 0
Turns itself may None ended None = Unit {0}
Turns itself may None ended (Some new) = ⊥
Turns itself may (Some old) ended (Some new) = (ended ≡ None) × Goes may old.state new.state
Turns itself may (Some old) ended None = LeavesTold itself old.state ended

abbrev pub is_number_of : ℤ → ℕ → Bool
is_number_of (pos r) m = m == r
is_number_of (negsuc r) m = false

abbrev pub may_open_by : Packet → ℕ → Bool
may_open_by (DialRsp error connect_id random) m = is_number_of random m
may_open_by (DialReq protocol address random) m = false
may_open_by (CloseReq connect_id) m = false
may_open_by (CloseRsp error connect_id) m = false
may_open_by (Data connect_id error bytes) m = false
may_open_by (DialCls random) m = false
may_open_by Drain m = false
may_open_by (Other number) m = false

abbrev pub may_open : ClientEvent → ℕ → Bool
may_open (event.Packet p) m = may_open_by p m
may_open (event.AppUp n address) m = false
may_open (event.AppBytes n bytes) m = false
may_open (event.AppEnd n) m = false
may_open (event.AppFailed n) m = false
may_open (event.AppWrote n count) m = false
may_open (event.StreamEnded error) m = false

-- all but the coming of an app; a stream ends with an error
abbrev pub IsOfApps : ClientEvent → Type 0
IsOfApps (event.AppUp n address) = ⊥
IsOfApps (event.StreamEnded error) = error ≢ []
IsOfApps (event.Packet p) = Unit {0}
IsOfApps (event.AppBytes n bytes) = Unit {0}
IsOfApps (event.AppEnd n) = Unit {0}
IsOfApps (event.AppFailed n) = Unit {0}
IsOfApps (event.AppWrote n count) = Unit {0}

abbrev pub CoreTurns : Bool → (ℕ → Bool) → List ListedApp → ClientStep → Type 0
CoreTurns itself may xs r = (m : ℕ) → Turns itself (may m) (first_where (is_app m) xs) (ended_in m r.outs) (first_where (is_app m) r.state.apps)

-- ---- one app stays, changes, or leaves
pub as_it_was : (itself may : Bool) (o : Option ListedApp) (ended : Option (List ℕ)) → ended ≡ None → Turns itself may o ended o
as_it_was itself may None ended e = tt
as_it_was itself may (Some x) ended e = (e, inl (λ noted h. h))

turned : (itself may : Bool) (m n : ℕ) (g : ListedApp → ListedApp) (y : ListedApp) (xs : List ListedApp) (outs : List ClientOut) → ((x : ListedApp) → (g x).number ≡ x.number) → first_where (is_app n) xs ≡ Some y
    → ((m == n) ≡ true → Goes may y.state (g y).state) → ended_in m outs ≡ None → Turns itself may (first_where (is_app m) xs) (ended_in m outs) (first_where (is_app m) (app_changed n g xs))
turned itself may m n g y xs outs same there goes ended = here (m == n) refl
  where
    here : (b : Bool) → (m == n) ≡ b → Turns itself may (first_where (is_app m) xs) (ended_in m outs) (first_where (is_app m) (app_changed n g xs))
    here false e = rw (turned_other m n g xs same e) (as_it_was itself may (first_where (is_app m) xs) (ended_in m outs) ended)
    here true e = let i : m ≡ n = eqb-true m n e in
        let old : first_where (is_app m) xs ≡ Some y = ap (λ j. first_where (is_app j) xs) i ∙ there in
        let new : first_where (is_app m) (app_changed n g xs) ≡ Some (g y) = ap (λ j. first_where (is_app j) (app_changed n g xs)) i ∙ turned_own n g y xs same there in
        rw (old, new) (ended, goes e)

went : (itself may : Bool) (m n : ℕ) (y : ListedApp) (xs : List ListedApp) (outs : List ClientOut) (error : List ℕ) → IsRising (λ (x : ListedApp). x.number) xs → first_where (is_app n) xs ≡ Some y
    → IsLeftAs itself y.state error → ended_in m outs ≡ cond (m == n) (Some error) None → Turns itself may (first_where (is_app m) xs) (ended_in m outs) (first_where (is_app m) (without (is_app n) xs))
went itself may m n y xs outs error rising there as_left ended = here (m == n) refl
  where
    here : (b : Bool) → (m == n) ≡ b → Turns itself may (first_where (is_app m) xs) (ended_in m outs) (first_where (is_app m) (without (is_app n) xs))
    here false e = rw (left_other m n xs e) (as_it_was itself may (first_where (is_app m) xs) (ended_in m outs) (rw e at ended))
    here true e = let i : m ≡ n = eqb-true m n e in
        let old : first_where (is_app m) xs ≡ Some y = ap (λ j. first_where (is_app j) xs) i ∙ there in
        let new : first_where (is_app m) (without (is_app n) xs) ≡ None = ap (λ j. first_where (is_app j) (without (is_app n) xs)) i ∙ left_own n y xs rising there in
        let told : ended_in m outs ≡ Some error = rw e at ended in
        rw (old, new, told) as_left

-- ---- the events of one app
module _ (s : ClientState) (rising : IsRising (λ (x : ListedApp). x.number) s.apps) where
  nothing : (itself : Bool) (may : ℕ → Bool) → CoreTurns itself may s.apps (edge.ignored s)
  nothing itself may m = as_it_was itself (may m) (first_where (is_app m) s.apps) None refl

  says : (itself : Bool) (may : ℕ → Bool) (p : Packet) → CoreTurns itself may s.apps (edge.told s (out.ToServer p ∷ []))
  says itself may p m = as_it_was itself (may m) (first_where (is_app m) s.apps) None refl

  -- one that leaves, having told the server or not
  leaves : (itself : Bool) (may : ℕ → Bool) (n : ℕ) (y : ListedApp) (error : List ℕ) → first_where (is_app n) s.apps ≡ Some y → IsLeftAs itself y.state error → CoreTurns itself may s.apps (edge.app_left s n error)
  leaves itself may n y error there as_left m = went itself (may m) m n y s.apps (out.EndApp n error ∷ []) error rising there as_left refl

  leaves_telling : (itself : Bool) (may : ℕ → Bool) (n : ℕ) (y : ListedApp) (p : Packet) → first_where (is_app n) s.apps ≡ Some y → IsLeftAs itself y.state [] → CoreTurns itself may s.apps (edge.app_left_telling s n p)
  leaves_telling itself may n y p there as_left m = went itself (may m) m n y s.apps (out.ToServer p ∷ out.EndApp n [] ∷ []) [] rising there as_left refl

  changes : (itself : Bool) (may : ℕ → Bool) (n : ℕ) (y : ListedApp) (g : ListedApp → ListedApp) (outs : List ClientOut) → ((x : ListedApp) → (g x).number ≡ x.number) → first_where (is_app n) s.apps ≡ Some y
      → ((m : ℕ) → (m == n) ≡ true → Goes (may m) y.state (g y).state) → ((m : ℕ) → ended_in m outs ≡ None) → CoreTurns itself may s.apps (edge.app_turned s n g outs)
  changes itself may n y g outs same there goes ended m = turned itself (may m) m n g y s.apps outs same there (goes m) (ended m)

  bytes_come : (may : ℕ → Bool) (bytes : List ℕ) (o : Option ListedApp) → CoreTurns false may s.apps (edge.app_bytes s bytes o)
  bytes_come may bytes None = nothing false may
  bytes_come may bytes (Some y) = by y.state
    where
      by : (st : AppState) → CoreTurns false may s.apps (edge.app_bytes_by_state s y.connect_id bytes st)
      by listed.Open = says false may (Data y.connect_id [] bytes)
      by listed.Dialling = nothing false may
      by listed.Closing = nothing false may
      by listed.Lingering = nothing false may

  ends : (may : ℕ → Bool) (n : ℕ) (o : Option ListedApp) → first_where (is_app n) s.apps ≡ o → CoreTurns true may s.apps (edge.app_ended s o)
  ends may n None there = nothing true may
  ends may n (Some y) there = by y.state refl
    where
      own : first_where (is_app y.number) s.apps ≡ Some y
      own = its_place (is_app n) y s.apps rising there

      by : (st : AppState) → y.state ≡ st → CoreTurns true may s.apps (edge.end_by_state s y.number y.connect_id st)
      by listed.Dialling e = let as_left : IsLeftAs true y.state [] = rw e refl in leaves_telling true may y.number y (DialCls (pos y.number)) own as_left
      by listed.Open e = changes true may y.number y closing (out.ToServer (CloseReq y.connect_id) ∷ []) (λ x. refl) own (λ m h. inl (λ noted i. let j : IsNotedAs listed.Open noted = rw e at i in j)) (λ m. refl)
      by listed.Closing e = nothing true may
      by listed.Lingering e = nothing true may

  fails : (may : ℕ → Bool) (n : ℕ) (o : Option ListedApp) → first_where (is_app n) s.apps ≡ o → CoreTurns true may s.apps (edge.app_failed s o)
  fails may n None there = nothing true may
  fails may n (Some y) there = by y.state refl
    where
      own : first_where (is_app y.number) s.apps ≡ Some y
      own = its_place (is_app n) y s.apps rising there

      by : (st : AppState) → y.state ≡ st → CoreTurns true may s.apps (edge.failure_by_state s y.number y.connect_id st)
      by listed.Dialling e = let as_left : IsLeftAs true y.state [] = rw e refl in leaves_telling true may y.number y (DialCls (pos y.number)) own as_left
      by listed.Open e = let as_left : IsLeftAs true y.state [] = rw e tt in leaves_telling true may y.number y (CloseReq y.connect_id) own as_left
      by listed.Closing e = let as_left : IsLeftAs true y.state [] = rw e tt in leaves true may y.number y [] own as_left
      by listed.Lingering e = let as_left : IsLeftAs true y.state [] = rw e tt in leaves true may y.number y [] own as_left

  wrote : (may : ℕ → Bool) (n count : ℕ) (o : Option ListedApp) → first_where (is_app n) s.apps ≡ o → CoreTurns false may s.apps (edge.app_wrote s count o)
  wrote may n count None there = nothing false may
  wrote may n count (Some y) there = by y.state refl
    where
      own : first_where (is_app y.number) s.apps ≡ Some y
      own = its_place (is_app n) y s.apps rising there

      fewer : CoreTurns false may s.apps (edge.app_turned s y.number (with_fewer count) [])
      fewer = changes false may y.number y (with_fewer count) [] (λ x. refl) own (λ m h. inl (λ noted i. i)) (λ m. refl)

      lingers : y.state ≡ listed.Lingering → (b : Bool) → CoreTurns false may s.apps (if b then edge.app_left s y.number y.error else edge.app_turned s y.number (with_fewer count) [])
      lingers e true = let as_left : IsLeftAs false y.state y.error = rw e tt in leaves false may y.number y y.error own as_left
      lingers e false = fewer

      by : (st : AppState) → y.state ≡ st → CoreTurns false may s.apps (edge.wrote_by_state s count y st)
      by listed.Lingering e = lingers e (y.unwritten == count)
      by listed.Dialling e = fewer
      by listed.Open e = fewer
      by listed.Closing e = fewer

  -- ---- packets
  stray : (may : ℕ → Bool) (error : List ℕ) (connect_id : ℤ) → CoreTurns false may s.apps (edge.stray_reply s error connect_id)
  stray may [] connect_id = says false may (CloseReq connect_id)
  stray may (x ∷ xs) connect_id = nothing false may

  answers : (may : ℕ → Bool) (p : ListedApp → Bool) (error : List ℕ) (connect_id : ℤ) (y : ListedApp) → first_where p s.apps ≡ Some y → ((m : ℕ) → (m == y.number) ≡ true → may m ≡ true)
      → CoreTurns false may s.apps (edge.reply_by_state s y.number error connect_id y.state)
  answers may p error connect_id y there own_may = by y.state refl
    where
      own : first_where (is_app y.number) s.apps ≡ Some y
      own = its_place p y s.apps rising there

      dialled : y.state ≡ listed.Dialling → (error : List ℕ) → CoreTurns false may s.apps (edge.dial_answered s y.number error connect_id)
      dialled e [] = changes false may y.number y (opened connect_id) [] (λ x. refl) own (λ m h. inr (own_may m h, e, refl)) (λ m. refl)
      dialled e (x ∷ xs) = let as_left : IsLeftAs false y.state (x ∷ xs) = rw e refl in leaves false may y.number y (x ∷ xs) own as_left

      by : (st : AppState) → y.state ≡ st → CoreTurns false may s.apps (edge.reply_by_state s y.number error connect_id st)
      by listed.Dialling e = dialled e error
      by listed.Open e = stray may error connect_id
      by listed.Closing e = stray may error connect_id
      by listed.Lingering e = stray may error connect_id

  reply_comes : (error : List ℕ) (connect_id random : ℤ) → CoreTurns false (is_number_of random) s.apps (edge.reply_came s error connect_id (app_at random s.apps))
  reply_comes error connect_id (negsuc r) = stray (is_number_of (negsuc r)) error connect_id
  reply_comes error connect_id (pos r) = by (first_where (is_app r) s.apps) refl
    where
      by : (o : Option ListedApp) → first_where (is_app r) s.apps ≡ o → CoreTurns false (is_number_of (pos r)) s.apps (edge.reply_came s error connect_id o)
      by None there = stray (is_number_of (pos r)) error connect_id
      by (Some y) there = answers (is_number_of (pos r)) (is_app r) error connect_id y there (λ m h. ap (λ n. m == n) (sym (its_number r y s.apps there)) ∙ h)

  data_comes : (may : ℕ → Bool) (p : ListedApp → Bool) (bytes : List ℕ) (o : Option ListedApp) → first_where p s.apps ≡ o → CoreTurns false may s.apps (edge.data_came s bytes o)
  data_comes may p bytes None there = nothing false may
  data_comes may p bytes (Some y) there = changes false may y.number y (with_more _) (out.ToApp y.number bytes ∷ []) (λ x. refl) (its_place p y s.apps rising there) (λ m h. inl (λ noted i. i)) (λ m. refl)

  close_comes : (may : ℕ → Bool) (error : List ℕ) (connect_id : ℤ) (o : Option ListedApp) → first_where (is_held_at connect_id) s.apps ≡ o → CoreTurns false may s.apps (edge.close_came s error o)
  close_comes may error connect_id None there = nothing false may
  close_comes may error connect_id (Some y) there = by (y.unwritten == 0)
    where
      own : first_where (is_app y.number) s.apps ≡ Some y
      own = its_place (is_held_at connect_id) y s.apps rising there

      held : ((y.state ≡ listed.Dialling → ⊥) × (y.state ≡ listed.Lingering → ⊥)) × (y.connect_id ≡ connect_id)
      held = held_is connect_id y.state y.connect_id (passes (is_held_at connect_id) y s.apps there)

      leaves_as : (st : AppState) → y.state ≡ st → IsLeftAs false st error
      leaves_as listed.Dialling e = absurd (held.0.0 e)
      leaves_as listed.Open e = tt
      leaves_as listed.Closing e = tt
      leaves_as listed.Lingering e = tt

      stays : (st : AppState) → y.state ≡ st → (noted : Stage) → IsNotedAs st noted → IsNotedAs listed.Lingering noted
      stays listed.Dialling e noted i = absurd (held.0.0 e)
      stays listed.Open e noted i = i
      stays listed.Closing e noted i = i
      stays listed.Lingering e noted i = i

      by : (b : Bool) → CoreTurns false may s.apps (if b then edge.app_left s y.number error else edge.app_turned s y.number (lingering error) [])
      by true = leaves false may y.number y error own (leaves_as y.state refl)
      by false = changes false may y.number y (lingering error) [] (λ x. refl) own (λ m h. inl (stays y.state refl)) (λ m. refl)

  packet_comes : (p : Packet) → CoreTurns false (may_open_by p) s.apps (edge.packet_came s p)
  packet_comes (DialRsp error connect_id random) = reply_comes error connect_id random
  packet_comes (Data connect_id error bytes) = data_comes (λ m. false) (is_open_at connect_id) bytes (first_where (is_open_at connect_id) s.apps) refl
  packet_comes (CloseRsp error connect_id) = close_comes (λ m. false) error connect_id (first_where (is_held_at connect_id) s.apps) refl
  packet_comes (DialReq protocol address random) = nothing false (λ m. false)
  packet_comes (CloseReq connect_id) = nothing false (λ m. false)
  packet_comes (DialCls random) = nothing false (λ m. false)
  packet_comes Drain = nothing false (λ m. false)
  packet_comes (Other number) = nothing false (λ m. false)

-- ---- the stream ends
other_way : (m n : ℕ) → (n == m) ≡ false → (m == n) ≡ false
other_way m n h = false_unless (m == n) (λ i. cc (eqb_refl n, ap (λ k. n == k) (eqb-true m n i), h))

untold : (error : List ℕ) (m : ℕ) (xs : List ListedApp) → first_where (is_app m) xs ≡ None → ended_in m (edge.ends_told error xs) ≡ None
untold error m [] none = refl
untold error m (a ∷ xs) none = here (is_app m a) refl none (λ h. untold error m xs h)
  where
    by : (a.number == m) ≡ false → (o : Option ListedApp) → ended_in m (edge.ends_told error xs) ≡ None → ended_in m (edge.told_unless_kept error a.number o (edge.ends_told error xs)) ≡ None
    by e None later = ap (λ b. cond b (Some error) (ended_in m (edge.ends_told error xs))) (other_way m a.number e) ∙ later
    by e (Some b) later = later

    here : (b : Bool) → is_app m a ≡ b → cond b (Some a) (first_where (is_app m) xs) ≡ None → (first_where (is_app m) xs ≡ None → ended_in m (edge.ends_told error xs) ≡ None) → ended_in m (edge.ends_told error (a ∷ xs)) ≡ None
    here true e h later = absurd cc
    here false e h later = by e (edge.after_stream error a.state a) (later h)

-- what the first app comes to
abbrev AfterStream : Bool → List ℕ → ListedApp → Option ListedApp → Type 0
AfterStream may error a None = IsLeftAs false a.state error
AfterStream may error a (Some b) = (b.number ≡ a.number) × Goes may a.state b.state

not_empty : (error : List ℕ) → error ≢ [] → LeavesDialling false error
not_empty [] some = absurd (some refl)
not_empty (x ∷ xs) some = refl

after_its_stream : (may : Bool) (error : List ℕ) (a : ListedApp) → error ≢ [] → AfterStream may error a (edge.after_stream error a.state a)
after_its_stream may error a some = by a.state refl
  where
    held : (st : AppState) → a.state ≡ st → IsLeftAs false st error → ((noted : Stage) → IsNotedAs st noted → IsNotedAs listed.Lingering noted) → (b : Bool) → AfterStream may error a (if b then None else Some (lingering error a))
    held st e as_left stays true = rw e as_left
    held st e as_left stays false = (refl, inl (λ noted i. stays noted (rw e at i)))

    by : (st : AppState) → a.state ≡ st → AfterStream may error a (edge.after_stream error st a)
    by listed.Dialling e = rw e (not_empty error some)
    by listed.Open e = held listed.Open e tt (λ noted i. i) (a.unwritten == 0)
    by listed.Closing e = held listed.Closing e tt (λ noted i. i) (a.unwritten == 0)
    by listed.Lingering e = (refl, inl (λ noted i. i))

stream_ends : (may : Bool) (error : List ℕ) (m : ℕ) (xs : List ListedApp) → IsRising (λ (x : ListedApp). x.number) xs → error ≢ [] → Turns false may (first_where (is_app m) xs) (ended_in m (edge.ends_told error xs)) (first_where (is_app m) (edge.apps_after error xs))
stream_ends may error m [] rising some = tt
stream_ends may error m (a ∷ xs) rising some = here (is_app m a) refl (stream_ends may error m xs rising.1 some)
  where
    none : (a.number == m) ≡ true → first_where (is_app m) xs ≡ None
    none e = ap (λ n. first_where (is_app n) xs) (sym (eqb-true a.number m e)) ∙ none_at (λ (x : ListedApp). x.number) a.number xs rising.0

    its : (a.number == m) ≡ true → (o : Option ListedApp) → AfterStream may error a o → Turns false may (Some a) (ended_in m (edge.told_unless_kept error a.number o (edge.ends_told error xs))) (first_where (is_app m) (edge.kept o (edge.apps_after error xs)))
    its e None as_left =
        let gone : first_where (is_app m) (edge.apps_after error xs) ≡ None = after_none error m xs (none e) in
        let told : (m == a.number) ≡ true = ap (λ n. m == n) (eqb-true a.number m e) ∙ eqb_refl m in
        rw (gone, told) as_left
    its e (Some b) stays =
        let same : (b.number == m) ≡ true = ap (λ n. n == m) stays.0 ∙ e in
        let told : ended_in m (edge.ends_told error xs) ≡ None = untold error m xs (none e) in
        rw same (told, stays.1)

    others : Turns false may (first_where (is_app m) xs) (ended_in m (edge.ends_told error xs)) (first_where (is_app m) (edge.apps_after error xs))
        → (a.number == m) ≡ false → (o : Option ListedApp) → AfterStream may error a o → Turns false may (first_where (is_app m) xs) (ended_in m (edge.told_unless_kept error a.number o (edge.ends_told error xs))) (first_where (is_app m) (edge.kept o (edge.apps_after error xs)))
    others later e None as_left = rw (other_way m a.number e) later
    others later e (Some b) stays = let same : (b.number == m) ≡ false = ap (λ n. n == m) stays.0 ∙ e in rw same later

    here : (b : Bool) → is_app m a ≡ b → Turns false may (first_where (is_app m) xs) (ended_in m (edge.ends_told error xs)) (first_where (is_app m) (edge.apps_after error xs))
        → Turns false may (cond b (Some a) (first_where (is_app m) xs)) (ended_in m (edge.ends_told error (a ∷ xs))) (first_where (is_app m) (edge.apps_after error (a ∷ xs)))
    here true e later = its e (edge.after_stream error a.state a) (after_its_stream may error a some)
    here false e later = others later e (edge.after_stream error a.state a) (after_its_stream may error a some)

-- ---- all of them
pub core_turns : (s : ClientState) (e : ClientEvent) → IsRising (λ (x : ListedApp). x.number) s.apps → IsOfApps e → CoreTurns (by_itself e) (may_open e) s.apps (edge.step s e)
core_turns s (event.AppUp n address) rising of_apps = absurd of_apps
core_turns s (event.AppBytes n bytes) rising of_apps = bytes_come s rising (λ m. false) bytes (first_where (is_app n) s.apps)
core_turns s (event.AppEnd n) rising of_apps = ends s rising (λ m. false) n (first_where (is_app n) s.apps) refl
core_turns s (event.AppFailed n) rising of_apps = fails s rising (λ m. false) n (first_where (is_app n) s.apps) refl
core_turns s (event.AppWrote n count) rising of_apps = wrote s rising (λ m. false) n count (first_where (is_app n) s.apps) refl
core_turns s (event.Packet p) rising of_apps = packet_comes s rising p
core_turns s (event.StreamEnded error) rising of_apps = λ m. stream_ends false error m s.apps rising of_apps

-- the greatest number stays
pub top_stays : (s : ClientState) (e : ClientEvent) → IsOfApps e → (edge.step s e).state.top_app ≡ s.top_app
top_stays s (event.AppUp n address) of_apps = absurd of_apps
top_stays s (event.AppBytes n bytes) of_apps = here (first_where (is_app n) s.apps)
  where
    by : (y : ListedApp) (st : AppState) → (edge.app_bytes_by_state s y.connect_id bytes st).state.top_app ≡ s.top_app
    by y listed.Open = refl
    by y listed.Dialling = refl
    by y listed.Closing = refl
    by y listed.Lingering = refl

    here : (o : Option ListedApp) → (edge.app_bytes s bytes o).state.top_app ≡ s.top_app
    here None = refl
    here (Some y) = by y y.state
top_stays s (event.AppEnd n) of_apps = here (first_where (is_app n) s.apps)
  where
    by : (y : ListedApp) (st : AppState) → (edge.end_by_state s y.number y.connect_id st).state.top_app ≡ s.top_app
    by y listed.Open = refl
    by y listed.Dialling = refl
    by y listed.Closing = refl
    by y listed.Lingering = refl

    here : (o : Option ListedApp) → (edge.app_ended s o).state.top_app ≡ s.top_app
    here None = refl
    here (Some y) = by y y.state
top_stays s (event.AppFailed n) of_apps = here (first_where (is_app n) s.apps)
  where
    by : (y : ListedApp) (st : AppState) → (edge.failure_by_state s y.number y.connect_id st).state.top_app ≡ s.top_app
    by y listed.Open = refl
    by y listed.Dialling = refl
    by y listed.Closing = refl
    by y listed.Lingering = refl

    here : (o : Option ListedApp) → (edge.app_failed s o).state.top_app ≡ s.top_app
    here None = refl
    here (Some y) = by y y.state
top_stays s (event.AppWrote n count) of_apps = here (first_where (is_app n) s.apps)
  where
    last : (y : ListedApp) (b : Bool) → (if b then edge.app_left s y.number y.error else edge.app_turned s y.number (with_fewer count) []).state.top_app ≡ s.top_app
    last y true = refl
    last y false = refl

    by : (y : ListedApp) (st : AppState) → (edge.wrote_by_state s count y st).state.top_app ≡ s.top_app
    by y listed.Open = refl
    by y listed.Dialling = refl
    by y listed.Closing = refl
    by y listed.Lingering = last y (y.unwritten == count)

    here : (o : Option ListedApp) → (edge.app_wrote s count o).state.top_app ≡ s.top_app
    here None = refl
    here (Some y) = by y y.state
top_stays s (event.StreamEnded error) of_apps = refl
top_stays s (event.Packet p) of_apps = of_packet p
  where
    stray_top : (error : List ℕ) (connect_id : ℤ) → (edge.stray_reply s error connect_id).state.top_app ≡ s.top_app
    stray_top [] connect_id = refl
    stray_top (x ∷ xs) connect_id = refl

    answered_top : (n : ℕ) (error : List ℕ) (connect_id : ℤ) → (edge.dial_answered s n error connect_id).state.top_app ≡ s.top_app
    answered_top n [] connect_id = refl
    answered_top n (x ∷ xs) connect_id = refl

    by : (n : ℕ) (error : List ℕ) (connect_id : ℤ) (st : AppState) → (edge.reply_by_state s n error connect_id st).state.top_app ≡ s.top_app
    by n error connect_id listed.Dialling = answered_top n error connect_id
    by n error connect_id listed.Open = stray_top error connect_id
    by n error connect_id listed.Closing = stray_top error connect_id
    by n error connect_id listed.Lingering = stray_top error connect_id

    reply_top : (error : List ℕ) (connect_id : ℤ) (o : Option ListedApp) → (edge.reply_came s error connect_id o).state.top_app ≡ s.top_app
    reply_top error connect_id None = stray_top error connect_id
    reply_top error connect_id (Some y) = by y.number error connect_id y.state

    data_top : (bytes : List ℕ) (o : Option ListedApp) → (edge.data_came s bytes o).state.top_app ≡ s.top_app
    data_top bytes None = refl
    data_top bytes (Some y) = refl

    closed_top : (n : ℕ) (error : List ℕ) (b : Bool) → (if b then edge.app_left s n error else edge.app_turned s n (lingering error) []).state.top_app ≡ s.top_app
    closed_top n error true = refl
    closed_top n error false = refl

    close_top : (error : List ℕ) (o : Option ListedApp) → (edge.close_came s error o).state.top_app ≡ s.top_app
    close_top error None = refl
    close_top error (Some y) = closed_top y.number error (y.unwritten == 0)

    of_packet : (p : Packet) → (edge.packet_came s p).state.top_app ≡ s.top_app
    of_packet (DialRsp error connect_id random) = reply_top error connect_id (app_at random s.apps)
    of_packet (Data connect_id error bytes) = data_top bytes (first_where (is_open_at connect_id) s.apps)
    of_packet (CloseRsp error connect_id) = close_top error (first_where (is_held_at connect_id) s.apps)
    of_packet (DialReq protocol address random) = refl
    of_packet (CloseReq connect_id) = refl
    of_packet (DialCls random) = refl
    of_packet Drain = refl
    of_packet (Other number) = refl
