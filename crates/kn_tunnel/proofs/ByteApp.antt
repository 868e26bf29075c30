-- What the client and its app do, and what an app does over a CONNECT connection, keeps what holds of the bytes.
use Rattle.std.proofs.Common.{◌≡◌, ◌++◌, ◌&&◌, ◌||◌, ℕ, Bool, true, false, not, List, [], take, drop, cond, refl, sym, ap, ◌∙◌, append_assoc, append-nil}
use Rattle.kn_tunnel.specs.Bytes.{app_has, app_has_out, dest_has, is_early}
use Rattle.kn_tunnel.specs.Cuts.{IsPrefixOf}
use Rattle.kn_tunnel.specs.Events.{AppHands, AppSends, AppWrote, ClientTakesOut, ConnectTakesOut}
use Rattle.kn_tunnel.specs.Kinds.{has, is_awaited, is_carrying, is_dialling, is_draining, is_empty, is_gone, is_here, is_listed, is_opened, is_taking, needs_front, none}
use Rattle.kn_tunnel.specs.Steps.{after, appended, closed_at, ends_at, fails_at, refused_at, replied_at}
use Rattle.kn_tunnel.specs.Tunnel.{Awaited, Carrying, Closing, Dialling, Draining, Ended, Ending, Entry, Frontless, NoEntry, Opened, Phase, Refused, Tunnel, sent}
use Rattle.kn_tunnel.proofs.ByteServer.{and_never, phase_ended, phase_refused}
use Rattle.kn_tunnel.proofs.Flows.{FlowOf, app_gone, weaken}
use Rattle.kn_tunnel.proofs.Lists.{drop_none, front_of, moved, nothing, of_same, take_none, to_longer, to_same}

pub false_never : false ≡ true → ⊥
false_never e = absurd cc

-- answers to the client

pub refused_at_bytes : (p : Phase) (t : Tunnel) → FlowOf t → FlowOf (refused_at p t)
refused_at_bytes Dialling t h = app_gone refl refl (phase_refused t h)
refused_at_bytes Opened t h = h
refused_at_bytes Ending t h = h
refused_at_bytes Draining t h = h
refused_at_bytes Ended t h = h
refused_at_bytes Refused t h = h

pub replied_at_bytes : (p : Phase) (t : Tunnel) → FlowOf (record t { phase = p }) → FlowOf (replied_at p (record t { phase = p }))
replied_at_bytes Dialling t h = weaken (record { here = λ x. x; taking = λ x. x; waiting = λ x. absurd (and_never (not t.connect) x); carried = λ x. x; joined = λ x. x; listed = λ x. x; carrying = λ x. x; early = λ x. x; cid = λ x. x }) h
replied_at_bytes Opened t h = h
replied_at_bytes Ending t h = h
replied_at_bytes Draining t h = h
replied_at_bytes Ended t h = h
replied_at_bytes Refused t h = h

pub phase_closed : (b : Bool) (t : Tunnel) → is_here t.phase ≡ true → FlowOf t → FlowOf (record t { phase = cond b Draining Ended })
phase_closed true t here h = weaken (record { here = λ x. here; taking = λ x. absurd cc; waiting = λ x. absurd (and_never (not t.connect) x); carried = λ x. x; joined = λ x. x; listed = λ x. x; carrying = λ x. x; early = λ x. x; cid = λ x. x }) h
phase_closed false t here h = phase_ended t h

pub closed_at_bytes : (p : Phase) (t : Tunnel) → FlowOf (record t { phase = p }) → FlowOf (closed_at p (record t { phase = p }))
closed_at_bytes Dialling t h = h
closed_at_bytes Opened t h = phase_closed (has t.app.unwritten) (record t { phase = Opened }) refl h
closed_at_bytes Ending t h = phase_closed (has t.app.unwritten) (record t { phase = Ending }) refl h
closed_at_bytes Draining t h = h
closed_at_bytes Ended t h = h
closed_at_bytes Refused t h = h

-- the client takes bytes
pub client_takes_bytes : (n : ℕ) (p : Phase) (t : Tunnel) → (is_dialling p ≡ true → t.outward.bytes ≡ []) → FlowOf (record t { phase = p }) → FlowOf (after (ClientTakesOut n) (record t { phase = p }))
client_takes_bytes n Opened t none h =
    let same : (t.app.got ++ (t.app.unwritten ++ take n t.outward.bytes)) ++ drop n t.outward.bytes ≡ app_has_out t = ap (λ x. x ++ drop n t.outward.bytes) (sym (append_assoc t.app.got t.app.unwritten (take n t.outward.bytes))) ∙ moved n (app_has t) t.outward.bytes in
    record {
      app_got = h.app_got;
      dest_got = h.dest_got;
      dest_holds = h.dest_holds;
      inward = h.inward;
      all_in = h.all_in;
      early = h.early;
      all_early = h.all_early;
      waiting = h.waiting;
      unsent = h.unsent;
      app_holds = λ k. front_of _ (drop n t.outward.bytes) _ (of_same _ _ _ same (h.out refl));
      out = λ k. of_same _ _ _ same (h.out k);
      up = λ k c. of_same _ _ _ (ap (λ x. x ++ t.up.bytes) same) (h.up k c);
      all_up = λ k c j. ap (λ x. x ++ t.up.bytes) same ∙ h.all_up k c j;
    }
client_takes_bytes n Dialling t none h =
    let same : app_has t ++ drop n t.outward.bytes ≡ app_has_out t = ap (λ x. app_has t ++ x) (drop_none n t.outward.bytes (none refl) ∙ sym (none refl)) in
    record {
      app_got = h.app_got;
      dest_got = h.dest_got;
      app_holds = h.app_holds;
      dest_holds = h.dest_holds;
      inward = h.inward;
      all_in = h.all_in;
      early = h.early;
      all_early = h.all_early;
      waiting = h.waiting;
      unsent = h.unsent;
      out = λ k. of_same _ _ _ same (h.out k);
      up = λ k c. of_same _ _ _ (ap (λ x. x ++ t.up.bytes) same) (h.up k c);
      all_up = λ k c j. ap (λ x. x ++ t.up.bytes) same ∙ h.all_up k c j;
    }
client_takes_bytes n Ending t none h = record {
  app_got = h.app_got;
  dest_got = h.dest_got;
  app_holds = h.app_holds;
  dest_holds = h.dest_holds;
  inward = h.inward;
  all_in = h.all_in;
  early = h.early;
  all_early = h.all_early;
  waiting = h.waiting;
  unsent = h.unsent;
  out = λ k. absurd (false_never k);
  up = λ k c. absurd (false_never k);
  all_up = λ k c j. absurd (false_never k);
}
client_takes_bytes n Draining t none h = record {
  app_got = h.app_got;
  dest_got = h.dest_got;
  app_holds = h.app_holds;
  dest_holds = h.dest_holds;
  inward = h.inward;
  all_in = h.all_in;
  early = h.early;
  all_early = h.all_early;
  waiting = h.waiting;
  unsent = h.unsent;
  out = λ k. absurd (false_never k);
  up = λ k c. absurd (false_never k);
  all_up = λ k c j. absurd (false_never k);
}
client_takes_bytes n Ended t none h = record {
  app_got = h.app_got;
  dest_got = h.dest_got;
  app_holds = h.app_holds;
  dest_holds = h.dest_holds;
  inward = h.inward;
  all_in = h.all_in;
  early = h.early;
  all_early = h.all_early;
  waiting = h.waiting;
  unsent = h.unsent;
  out = λ k. absurd (false_never k);
  up = λ k c. absurd (false_never k);
  all_up = λ k c j. absurd (false_never k);
}
client_takes_bytes n Refused t none h = record {
  app_got = h.app_got;
  dest_got = h.dest_got;
  app_holds = h.app_holds;
  dest_holds = h.dest_holds;
  inward = h.inward;
  all_in = h.all_in;
  early = h.early;
  all_early = h.all_early;
  waiting = h.waiting;
  unsent = h.unsent;
  out = λ k. absurd (false_never k);
  up = λ k c. absurd (false_never k);
  all_up = λ k c j. absurd (false_never k);
}

-- the app sends
module _ (bytes : List ℕ) (t : Tunnel) (h : FlowOf t) where
  app_more : (xs : List ℕ) → IsPrefixOf xs (sent t.app) → IsPrefixOf xs (t.app.handed ++ (t.app.kept ++ bytes))
  app_more xs p = to_same _ _ _ (append_assoc t.app.handed t.app.kept bytes) (to_longer xs (sent t.app) bytes p)

  pub app_sends_bytes : FlowOf (after (AppSends bytes) t)
  app_sends_bytes = record {
    app_got = h.app_got;
    app_holds = h.app_holds;
    out = h.out;
    up = h.up;
    all_up = h.all_up;
    all_in = h.all_in;
    all_early = h.all_early;
    waiting = h.waiting;
    unsent = h.unsent;
    dest_got = app_more _ h.dest_got;
    dest_holds = λ l. app_more _ (h.dest_holds l);
    inward = λ l c. app_more _ (h.inward l c);
    early = λ x. app_more _ (h.early x);
  }

-- the app's bytes are handed over

hands_taking : (c : Bool) (p : Phase) → (is_opened p || (c && is_dialling p)) ≡ true → is_taking p ≡ true
hands_taking c Opened e = refl
hands_taking c Dialling e = refl
hands_taking c Ending e = absurd (and_never c e)
hands_taking c Draining e = absurd (and_never c e)
hands_taking c Ended e = absurd (and_never c e)
hands_taking c Refused e = absurd (and_never c e)

hands_not_waiting : (c : Bool) (p : Phase) → (is_opened p || (c && is_dialling p)) ≡ true → (not c && is_dialling p) ≡ true → ⊥
hands_not_waiting true p e f = false_never f
hands_not_waiting false Dialling e f = false_never e
hands_not_waiting false Opened e f = false_never f
hands_not_waiting false Ending e f = false_never f
hands_not_waiting false Draining e f = false_never f
hands_not_waiting false Ended e f = false_never f
hands_not_waiting false Refused e f = false_never f

pub carrying_gone : (q : Bool) (e : Entry) → (not (needs_front e) && not q) ≡ true → is_carrying e ≡ true → ⊥
carrying_gone q Carrying f c = false_never f
carrying_gone q NoEntry f c = false_never c
carrying_gone q Awaited f c = false_never c
carrying_gone q Closing f c = false_never c
carrying_gone q Frontless f c = false_never c

early_gone : (q : Bool) (e : Entry) → (not (needs_front e) && not q) ≡ true → (q || is_awaited e) ≡ true → ⊥
early_gone true NoEntry f c = false_never f
early_gone true Awaited f c = false_never f
early_gone true Carrying f c = false_never f
early_gone true Closing f c = false_never f
early_gone true Frontless f c = false_never f
early_gone false Awaited f c = false_never f
early_gone false NoEntry f c = false_never c
early_gone false Carrying f c = false_never c
early_gone false Closing f c = false_never c
early_gone false Frontless f c = false_never c

module _ (n : ℕ) (t : Tunnel) (h : FlowOf t) (g : (is_opened t.phase || (t.connect && is_dialling t.phase)) ≡ true) (gone : is_gone t.front ≡ true → (not (needs_front t.entry) && not t.inward.request) ≡ true) where
  taking_here : is_taking t.phase ≡ true
  taking_here = hands_taking t.connect t.phase g

  app_still : (xs : List ℕ) → IsPrefixOf xs (sent t.app) → IsPrefixOf xs ((t.app.handed ++ take n t.app.kept) ++ drop n t.app.kept)
  app_still xs p = to_same _ _ _ (sym (moved n t.app.handed t.app.kept)) p

  hands_in : (b : Bool) → is_gone t.front ≡ b → is_listed t.far ≡ true → is_carrying t.entry ≡ true → dest_has t ++ appended (not b) t.inward.bytes (take n t.app.kept) ≡ t.app.handed ++ take n t.app.kept
  hands_in true e l c = absurd (carrying_gone t.inward.request t.entry (gone e) c)
  hands_in false e l c = sym (append_assoc (dest_has t) t.inward.bytes (take n t.app.kept)) ∙ ap (λ x. x ++ take n t.app.kept) (h.all_in l c taking_here)

  hands_early : (b : Bool) → is_gone t.front ≡ b → is_early t ≡ true → appended (not b) t.inward.bytes (take n t.app.kept) ≡ t.app.handed ++ take n t.app.kept
  hands_early true e x = absurd (early_gone t.inward.request t.entry (gone e) x)
  hands_early false e x = ap (λ y. y ++ take n t.app.kept) (h.all_early x taking_here)

  pub app_hands_bytes : FlowOf (after (AppHands n) t)
  app_hands_bytes = record {
    app_got = h.app_got;
    app_holds = h.app_holds;
    out = h.out;
    up = h.up;
    all_up = h.all_up;
    unsent = h.unsent;
    dest_got = app_still _ h.dest_got;
    dest_holds = λ l. app_still _ (h.dest_holds l);
    inward = λ l c. (drop n t.app.kept, ap (λ x. x ++ drop n t.app.kept) (hands_in (is_gone t.front) refl l c));
    all_in = λ l c k. hands_in (is_gone t.front) refl l c;
    early = λ x. (drop n t.app.kept, ap (λ x. x ++ drop n t.app.kept) (hands_early (is_gone t.front) refl x));
    all_early = λ x k. hands_early (is_gone t.front) refl x;
    waiting = λ x. absurd (hands_not_waiting t.connect t.phase g x);
  }

-- bytes are written to the app

wrote_phase : (p : Phase) (b : Bool) (t : Tunnel) → FlowOf (record t { phase = p }) → FlowOf (record t { phase = cond (is_draining p && b) Ended p })
wrote_phase Draining true t h = phase_ended (record t { phase = Draining }) h
wrote_phase Draining false t h = h
wrote_phase Dialling b t h = h
wrote_phase Opened b t h = h
wrote_phase Ending b t h = h
wrote_phase Ended b t h = h
wrote_phase Refused b t h = h

app_written : (n : ℕ) (t : Tunnel) → is_here t.phase ≡ true → FlowOf t → FlowOf (record t { app = record t.app { got = t.app.got ++ take n t.app.unwritten; unwritten = drop n t.app.unwritten } })
app_written n t here h =
    let same : (t.app.got ++ take n t.app.unwritten) ++ drop n t.app.unwritten ≡ app_has t = moved n t.app.got t.app.unwritten in
    record {
      dest_got = h.dest_got;
      dest_holds = h.dest_holds;
      inward = h.inward;
      all_in = h.all_in;
      early = h.early;
      all_early = h.all_early;
      waiting = h.waiting;
      unsent = h.unsent;
      app_got = front_of _ (drop n t.app.unwritten) _ (of_same _ _ _ same (h.app_holds here));
      app_holds = λ k. of_same _ _ _ same (h.app_holds k);
      out = λ k. of_same _ _ _ (ap (λ x. x ++ t.outward.bytes) same) (h.out k);
      up = λ k c. of_same _ _ _ (ap (λ x. (x ++ t.outward.bytes) ++ t.up.bytes) same) (h.up k c);
      all_up = λ k c j. ap (λ x. (x ++ t.outward.bytes) ++ t.up.bytes) same ∙ h.all_up k c j;
    }

pub app_wrote_bytes : (n : ℕ) (t : Tunnel) → is_here t.phase ≡ true → FlowOf t → FlowOf (after (AppWrote n) t)
app_wrote_bytes n t here h = wrote_phase t.phase (is_empty (drop n t.app.unwritten)) (record t { app = record t.app { got = t.app.got ++ take n t.app.unwritten; unwritten = drop n t.app.unwritten } }) (app_written n t here h)

-- the app ends or fails

pub ends_at_bytes : (p : Phase) (t : Tunnel) → FlowOf (record t { phase = p }) → FlowOf (ends_at p (record t { phase = p }))
ends_at_bytes Dialling t h = app_gone refl refl (phase_ended (record t { phase = Dialling }) h)
ends_at_bytes Opened t h = weaken (record { here = λ x. x; taking = λ x. absurd cc; waiting = λ x. absurd (and_never (not t.connect) x); carried = λ x. x; joined = λ x. x; listed = λ x. x; carrying = λ x. x; early = λ x. x; cid = λ x. x }) h
ends_at_bytes Ending t h = h
ends_at_bytes Draining t h = h
ends_at_bytes Ended t h = h
ends_at_bytes Refused t h = h

pub fails_at_bytes : (p : Phase) (t : Tunnel) → FlowOf (record t { phase = p }) → FlowOf (fails_at p (record t { phase = p }))
fails_at_bytes Dialling t h = app_gone refl refl (phase_ended (record t { phase = Dialling }) h)
fails_at_bytes Opened t h = app_gone refl refl (phase_ended (record t { phase = Opened }) h)
fails_at_bytes Ending t h = app_gone refl refl (phase_ended (record t { phase = Ending }) h)
fails_at_bytes Draining t h = app_gone refl refl (phase_ended (record t { phase = Draining }) h)
fails_at_bytes Ended t h = h
fails_at_bytes Refused t h = h

-- what an app takes from its CONNECT connection it has got
module _ (n : ℕ) (t : Tunnel) (h : FlowOf t) (none : t.app.unwritten ≡ []) (opened : has t.outward.bytes ≡ true → is_opened t.phase ≡ true) where
  no_more : (xs : List ℕ) → xs ++ t.app.unwritten ≡ xs
  no_more xs = ap (λ u. xs ++ u) none ∙ append-nil xs

  opened_taking : (p : Phase) → is_opened p ≡ true → is_taking p ≡ true
  opened_taking Opened e = refl
  opened_taking Dialling e = absurd (false_never e)
  opened_taking Ending e = absurd (false_never e)
  opened_taking Draining e = absurd (false_never e)
  opened_taking Ended e = absurd (false_never e)
  opened_taking Refused e = absurd (false_never e)

  connect_same : ((t.app.got ++ take n t.outward.bytes) ++ t.app.unwritten) ++ drop n t.outward.bytes ≡ app_has_out t
  connect_same = ap (λ x. x ++ drop n t.outward.bytes) (no_more (t.app.got ++ take n t.outward.bytes)) ∙ (moved n t.app.got t.outward.bytes ∙ ap (λ x. x ++ t.outward.bytes) (sym (no_more t.app.got)))

  connect_got : (b : Bool) → has t.outward.bytes ≡ b → IsPrefixOf (t.app.got ++ take n t.outward.bytes) (sent t.dest)
  connect_got true e = front_of _ (drop n t.outward.bytes) _ (of_same _ (app_has_out t) _ (moved n t.app.got t.outward.bytes ∙ ap (λ x. x ++ t.outward.bytes) (sym (no_more t.app.got))) (h.out (opened_taking t.phase (opened e))))
  connect_got false e = of_same _ t.app.got _ (ap (λ x. t.app.got ++ x) (take_none n t.outward.bytes (nothing t.outward.bytes (ap not e))) ∙ append-nil t.app.got) h.app_got

  pub connect_takes_bytes : FlowOf (after (ConnectTakesOut n) t)
  connect_takes_bytes = record {
    dest_got = h.dest_got;
    dest_holds = h.dest_holds;
    inward = h.inward;
    all_in = h.all_in;
    early = h.early;
    all_early = h.all_early;
    waiting = h.waiting;
    unsent = h.unsent;
    app_got = connect_got (has t.outward.bytes) refl;
    app_holds = λ k. of_same _ _ _ (no_more (t.app.got ++ take n t.outward.bytes)) (connect_got (has t.outward.bytes) refl);
    out = λ k. of_same _ _ _ connect_same (h.out k);
    up = λ k c. of_same _ _ _ (ap (λ x. x ++ t.up.bytes) connect_same) (h.up k c);
    all_up = λ k c j. ap (λ x. x ++ t.up.bytes) connect_same ∙ h.all_up k c j;
  }
