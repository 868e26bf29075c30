-- What holds of the bytes of a tunnel, over the values that it speaks of: so what does not touch them keeps it as it is.
use Rattle.std.proofs.Common.{◌≡◌, ◌++◌, ℕ, Bool, true, false, List, []}
use Rattle.kn_tunnel.specs.Bytes.{Bytes, is_carried, is_early, is_waiting}
use Rattle.kn_tunnel.specs.Cuts.{IsPrefixOf}
use Rattle.kn_tunnel.specs.Kinds.{is_carrying, is_here, is_joined, is_listed, is_taking}
use Rattle.kn_tunnel.specs.Tunnel.{Side, Tunnel, sent}
use Rattle.kn_tunnel.proofs.LinkChecks.{left}
use Rattle.kn_tunnel.proofs.Lists.{never, prefix_of_prefix, shorter}

-- what the facts on bytes ask of phase, entry and connection
pub record Tests : Type 0 where
  pub here : Bool
  pub taking : Bool
  pub waiting : Bool
  pub carried : Bool
  pub joined : Bool
  pub listed : Bool
  pub carrying : Bool
  pub early : Bool
  pub cid : Bool

-- the bytes on the way
pub record Ways : Type 0 where
  pub to_server : List ℕ
  pub to_app : List ℕ
  pub from_agent : List ℕ
  pub to_agent : List ℕ

pub record Flow (s : Tests) (app dest : Side) (w : Ways) : Type 0 where
  pub app_got : IsPrefixOf app.got (sent dest)
  pub dest_got : IsPrefixOf dest.got (sent app)
  pub app_holds : s.here ≡ true → IsPrefixOf (app.got ++ app.unwritten) (sent dest)
  pub out : s.taking ≡ true → IsPrefixOf ((app.got ++ app.unwritten) ++ w.to_app) (sent dest)
  pub up : s.taking ≡ true → s.carried ≡ true → IsPrefixOf (((app.got ++ app.unwritten) ++ w.to_app) ++ w.from_agent) (sent dest)
  pub all_up : s.taking ≡ true → s.carried ≡ true → s.joined ≡ true → ((app.got ++ app.unwritten) ++ w.to_app) ++ w.from_agent ≡ dest.handed
  pub dest_holds : s.listed ≡ true → IsPrefixOf ((dest.got ++ dest.unwritten) ++ w.to_agent) (sent app)
  pub inward : s.listed ≡ true → s.carrying ≡ true → IsPrefixOf (((dest.got ++ dest.unwritten) ++ w.to_agent) ++ w.to_server) (sent app)
  pub all_in : s.listed ≡ true → s.carrying ≡ true → s.taking ≡ true → ((dest.got ++ dest.unwritten) ++ w.to_agent) ++ w.to_server ≡ app.handed
  pub early : s.early ≡ true → IsPrefixOf w.to_server (sent app)
  pub all_early : s.early ≡ true → s.taking ≡ true → w.to_server ≡ app.handed
  pub waiting : s.waiting ≡ true → app.handed ≡ []
  pub unsent : s.cid ≡ false → sent dest ≡ []

abbrev pub tests_of : Tunnel → Tests
tests_of t = record { here = is_here t.phase; taking = is_taking t.phase; waiting = is_waiting t; carried = is_carried t; joined = is_joined t.far; listed = is_listed t.far; carrying = is_carrying t.entry; early = is_early t; cid = t.cid }

abbrev pub ways_of : Tunnel → Ways
ways_of t = record { to_server = t.inward.bytes; to_app = t.outward.bytes; from_agent = t.up.bytes; to_agent = t.down.bytes }

abbrev pub FlowOf : Tunnel → Type 0
FlowOf t = Flow (tests_of t) t.app t.dest (ways_of t)

pub flow_of : (t : Tunnel) → Bytes t → FlowOf t
flow_of t h = record { app_got = h.app_got; dest_got = h.dest_got; app_holds = h.app_holds; out = h.out; up = h.up; all_up = h.all_up; dest_holds = h.dest_holds; inward = h.inward; all_in = h.all_in; early = h.early; all_early = h.all_early; waiting = h.waiting; unsent = h.unsent }

pub bytes_of : (t : Tunnel) → FlowOf t → Bytes t
bytes_of t h = record { app_got = h.app_got; dest_got = h.dest_got; app_holds = h.app_holds; out = h.out; up = h.up; all_up = h.all_up; dest_holds = h.dest_holds; inward = h.inward; all_in = h.all_in; early = h.early; all_early = h.all_early; waiting = h.waiting; unsent = h.unsent }

-- fewer tests that are met ask for less
pub record Falls (new old : Tests) : Type 0 where
  pub here : new.here ≡ true → old.here ≡ true
  pub taking : new.taking ≡ true → old.taking ≡ true
  pub waiting : new.waiting ≡ true → old.waiting ≡ true
  pub carried : new.carried ≡ true → old.carried ≡ true
  pub joined : new.joined ≡ true → old.joined ≡ true
  pub listed : new.listed ≡ true → old.listed ≡ true
  pub carrying : new.carrying ≡ true → old.carrying ≡ true
  pub early : new.early ≡ true → old.early ≡ true
  pub cid : new.cid ≡ false → old.cid ≡ false

pub weaken : {new old : Tests} {app dest : Side} {w : Ways} → Falls new old → Flow old app dest w → Flow new app dest w
weaken f h = record { app_got = h.app_got; dest_got = h.dest_got; app_holds = λ k. h.app_holds (f.here k); out = λ k. h.out (f.taking k); up = λ k c. h.up (f.taking k) (f.carried c); all_up = λ k c j. h.all_up (f.taking k) (f.carried c) (f.joined j); dest_holds = λ l. h.dest_holds (f.listed l); inward = λ l c. h.inward (f.listed l) (f.carrying c); all_in = λ l c k. h.all_in (f.listed l) (f.carrying c) (f.taking k); early = λ x. h.early (f.early x); all_early = λ x k. h.all_early (f.early x) (f.taking k); waiting = λ x. h.waiting (f.waiting x); unsent = λ x. h.unsent (f.cid x) }

-- an app that has left: what was to be written to it is dropped
pub app_gone : {s : Tests} {app dest : Side} {w : Ways} → s.here ≡ false → s.taking ≡ false → Flow s app dest w → Flow s (record app { unwritten = [] }) dest w
app_gone e0 e1 h = record { app_got = h.app_got; dest_got = h.dest_got; app_holds = λ k. absurd (never _ e0 k); out = λ k. absurd (never _ e1 k); up = λ k c. absurd (never _ e1 k); all_up = λ k c j. absurd (never _ e1 k); dest_holds = h.dest_holds; inward = h.inward; all_in = h.all_in; early = h.early; all_early = h.all_early; waiting = h.waiting; unsent = h.unsent }

-- a destination that has left
pub dest_gone : {s : Tests} {app dest : Side} {w : Ways} → s.listed ≡ false → Flow s app dest w → Flow s app (record dest { unwritten = [] }) w
dest_gone e0 h = record { app_got = h.app_got; dest_got = h.dest_got; app_holds = h.app_holds; out = h.out; up = h.up; all_up = h.all_up; dest_holds = λ l. absurd (never _ e0 l); inward = λ l c. absurd (never _ e0 l); all_in = λ l c k. absurd (never _ e0 l); early = h.early; all_early = h.all_early; waiting = h.waiting; unsent = h.unsent }

-- a list cut short, or emptied

pub cut_down : {s : Tests} {app dest : Side} {w : Ways} (left : List ℕ) → (s.listed ≡ true → s.carrying ≡ true → ⊥) → IsPrefixOf left w.to_agent → Flow s app dest w → Flow s app dest (record w { to_agent = left })
cut_down left e0 p h = record { app_got = h.app_got; dest_got = h.dest_got; app_holds = h.app_holds; out = h.out; up = h.up; all_up = h.all_up; dest_holds = λ l. shorter _ _ left _ p (h.dest_holds l); inward = λ l c. absurd (e0 l c); all_in = λ l c k. absurd (e0 l c); early = h.early; all_early = h.all_early; waiting = h.waiting; unsent = h.unsent }

pub cut_up : {s : Tests} {app dest : Side} {w : Ways} (left : List ℕ) → (s.carried ≡ true → s.joined ≡ true → ⊥) → IsPrefixOf left w.from_agent → Flow s app dest w → Flow s app dest (record w { from_agent = left })
cut_up left e0 p h = record { app_got = h.app_got; dest_got = h.dest_got; app_holds = h.app_holds; out = h.out; up = λ k c. shorter _ _ left _ p (h.up k c); all_up = λ k c j. absurd (e0 c j); dest_holds = h.dest_holds; inward = h.inward; all_in = h.all_in; early = h.early; all_early = h.all_early; waiting = h.waiting; unsent = h.unsent }

pub cut_out : {s : Tests} {app dest : Side} {w : Ways} (left : List ℕ) → (s.taking ≡ true → s.carried ≡ true → ⊥) → IsPrefixOf left w.to_app → Flow s app dest w → Flow s app dest (record w { to_app = left })
cut_out left e0 p h = record { app_got = h.app_got; dest_got = h.dest_got; app_holds = h.app_holds; out = λ k. shorter _ _ left _ p (h.out k); up = λ k c. absurd (e0 k c); all_up = λ k c j. absurd (e0 k c); dest_holds = h.dest_holds; inward = h.inward; all_in = h.all_in; early = h.early; all_early = h.all_early; waiting = h.waiting; unsent = h.unsent }

pub cut_in : {s : Tests} {app dest : Side} {w : Ways} (left : List ℕ) → (s.listed ≡ true → s.carrying ≡ true → s.taking ≡ true → ⊥) → (s.early ≡ true → s.taking ≡ true → ⊥) → IsPrefixOf left w.to_server → Flow s app dest w → Flow s app dest (record w { to_server = left })
cut_in left e0 e1 p h = record { app_got = h.app_got; dest_got = h.dest_got; app_holds = h.app_holds; out = h.out; up = h.up; all_up = h.all_up; dest_holds = h.dest_holds; inward = λ l c. shorter _ _ left _ p (h.inward l c); all_in = λ l c k. absurd (e0 l c k); early = λ x. prefix_of_prefix left _ _ p (h.early x); all_early = λ x k. absurd (e1 x k); waiting = h.waiting; unsent = h.unsent }
