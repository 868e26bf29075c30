-- Gates are opened one after the other.
use Rattle.std.proofs.Common.{◌≡◌, ℕ, Bool, true, false, nat_lt, ◌+◌, ◌^◌, ◌<◌, ◌≤◌, ◌⊎◌, inl, inr, ◌++◌, List, [], ◌∷◌, refl, ap, ◌∙◌, sym, subst, append_assoc, arith}
use Rattle.std.specs.Prelude.{Option, None, Some}
use Rattle.std.proofs.lemmas.Bool.{ltb-true, ltb-false}
use Rattle.kn_io.specs.Faults.{Rose}
use Rattle.kn_port.specs.declared.names.Gate.TheVariants as gate
use Rattle.kn_port.specs.declared.names.Listened.{Listened}
use Rattle.kn_port.specs.declared.names.Listened.TheVariants as listened
use Rattle.kn_port.specs.declared.entry.Entry.{Entry}
use Rattle.kn_port.specs.Journal.{Tells, listen_entries}
use Rattle.kn_port.specs.Answers.{ListenCounts, Failing}
use Rattle.kn_loop.specs.declared.gates.Gates.{Gates}
use Rattle.kn_loop.specs.Gates.{no_gates, gate_listened}
use Rattle.kn_options.specs.declared.options.ServerOptions.{ServerOptions}
use Rattle.kn_serve.specs.First.{ServerListens, FailsWith, after, entries_after, gates_after, after_any, entries_after_any, gates_after_any}

pub tells_then : (a b c : Option (List Entry)) (es fs : List Entry) → Tells a b es → Tells b c fs → Tells a c (es ++ fs)
tells_then None None None es fs p q = tt
tells_then None None (Some z) es fs p q = absurd q
tells_then None (Some y) c es fs p q = absurd p
tells_then (Some x) None c es fs p q = absurd p
tells_then (Some x) (Some y) None es fs p q = absurd q
tells_then (Some x) (Some y) (Some z) es fs p q = q ∙ ap (λ l. l ++ fs) p ∙ append_assoc x es fs

later : (a b c : ℕ) → a ≤ b → Failing b c → Failing a c
later a b c low (up, inl less) = (omega arith, inl (omega arith))
later a b c low (up, inr full) = (omega arith, inr full)

sooner : (a b c : ℕ) → b ≤ c → Failing a b → Failing a c
sooner a b c low (up, inl less) = (omega arith, inl (omega arith))
sooner a b c low (up, inr full) = (omega arith, go (nat_lt b c) refl)
  where
    go : (d : Bool) → nat_lt b c ≡ d → Rose a c
    go true e = let more : b < c = ltb-true b c e in inl (omega arith)
    go false e = let same : c ≤ b = ltb-false b c e in inr (omega arith)

counts_later : (answer : Listened) (a b c : ℕ) → a ≤ b → ListenCounts answer b c → ListenCounts answer a c
counts_later listened.Done a b c low counts = omega arith
counts_later listened.Failed a b c low counts = later a b c low counts
counts_later listened.NoMemory a b c low counts = omega arith

-- the count of a gate and of those before it
pub counts_then : (before answer : Listened) (a b c : ℕ) → ListenCounts before a b → b ≤ c → FailsWith before answer b c → ListenCounts answer a c
counts_then listened.Done answer a b c first up fails = counts_later answer a b c first fails
counts_then listened.Failed answer a b c first up fails = rw fails (sooner a b c up first)
counts_then listened.NoMemory answer a b c first up fails = rw fails (omega arith)

-- the three gates of a server
pub server_listens : (options : ServerOptions) (t0 t1 t2 t3 : Option (List Entry)) (g1 g2 g3 : Gates) (agents clients connect both all : Listened)
    → Tells t0 t1 (listen_entries gate.Agents options.agents agents) → g1 ≡ gate_listened gate.Agents agents no_gates
    → Tells t1 t2 (entries_after agents gate.Clients options.clients clients) → g2 ≡ gates_after agents gate.Clients clients g1 → both ≡ after agents clients
    → Tells t2 t3 (entries_after_any options.connect both gate.Connect connect) → g3 ≡ gates_after_any options.connect both gate.Connect connect g2 → all ≡ after_any options.connect both connect
    → ServerListens options t0 t3 g3 all
server_listens options t0 t1 t2 t3 g1 g2 g3 agents clients connect both all told1 opened1 told2 opened2 came2 told3 opened3 came3 = record {
  agents = agents;
  clients = clients;
  connect = connect;
  told = tells_then t0 t1 t3 _ _ told1 (tells_then t1 t2 t3 _ _ told2 (subst (λ b. Tells t2 t3 (entries_after_any options.connect b gate.Connect connect)) came2 told3));
  gates = opened3 ∙ ap (λ b. gates_after_any options.connect b gate.Connect connect g2) came2
      ∙ ap (λ g. gates_after_any options.connect (after agents clients) gate.Connect connect g) (opened2 ∙ ap (λ g. gates_after agents gate.Clients clients g) opened1);
  answer = came3 ∙ ap (λ b. after_any options.connect b connect) came2;
}
