-- What is true of every state, through the changes of the tables.
use Rattle.std.proofs.Common.{◌≡◌, ℕ, ℤ, pos, negsuc, ◌+◌, ◌<◌, ◌≤◌, Bool, true, false, cond, eqb, ltb, List, [], ◌∷◌, Option, Some, None, refl, sym, ap, ◌∙◌, subst, arith}
use Rattle.std.specs.Option.{IsSome}
use Rattle.std.proofs.lemmas.Bool.Decides.{Decides-eqb}
use Rattle.kn_tables.specs.Lists.{first_where, without, in_place}
use Rattle.kn_edge_core.specs.declared.dial.Dial.{Dial}
use Rattle.kn_edge_core.specs.declared.connection.Connection.{Connection}
use Rattle.kn_edge_core.specs.declared.agent_state.AgentState.{AgentState}
use Rattle.kn_edge_core.specs.declared.client_state.ClientState.{ClientState}
use Rattle.kn_edge_core.specs.declared.app.App.{App}
use Rattle.kn_edge_core.specs.EntryLists.{changed_where}
use Rattle.kn_edge_core.specs.AgentTables.{is_dial, is_connection, connection_at, with_dial, without_dial, with_connection, without_connection, connection_changed}
use Rattle.kn_edge_core.specs.ClientTables.{is_app, with_app, without_app, app_changed}
use Rattle.kn_edge_core.specs.Sound.{IsAgentSound, IsClientSound}

-- what none passed, none passes after a removal
pub none_without : {E : Type 0} (p r : E → Bool) (xs : List E) → first_where p xs ≡ None → first_where p (without r xs) ≡ None
none_without p r [] h = refl
none_without p r (x ∷ xs) h = none_here (r x) (p x) refl h (λ l. none_without p r xs l)
  where
    none_here : (b c : Bool) → p x ≡ c → cond c (Some x) (first_where p xs) ≡ None → (first_where p xs ≡ None → first_where p (without r xs) ≡ None) → first_where p (cond b xs (x ∷ without r xs)) ≡ None
    none_here true true e h later = absurd cc
    none_here true false e h later = h
    none_here false true e h later = absurd cc
    none_here false false e h later = rw e (later h)

-- an entry that does not pass changes no look-up when it is put in
pub first_in_place : {E : Type 0} (number : E → ℕ) (p : E → Bool) (e : E) (xs : List E) → p e ≡ false → first_where p (in_place number e xs) ≡ first_where p xs
first_in_place number p e [] h = rw h refl
first_in_place number p e (x ∷ xs) h = first_here (ltb (number e) (number x)) (first_in_place number p e xs h)
  where
    first_here : (b : Bool) → first_where p (in_place number e xs) ≡ first_where p xs → first_where p (cond b (e ∷ x ∷ xs) (x ∷ in_place number e xs)) ≡ first_where p (x ∷ xs)
    first_here true later = rw h refl
    first_here false later = ap (λ o. cond (p x) (Some x) o) later

-- entries that change and keep their numbers
pub none_changed : {E : Type 0} (number : E → ℕ) (p : E → Bool) (g : E → E) (n : ℕ) → ((x : E) → number (g x) ≡ number x) → (xs : List E) → first_where (λ x. eqb (number x) n) xs ≡ None → first_where (λ x. eqb (number x) n) (changed_where p g xs) ≡ None
none_changed number p g n same [] h = refl
none_changed number p g n same (x ∷ xs) h = changed_here (p x) (eqb (number x) n) refl h (λ l. none_changed number p g n same xs l)
  where
    changed_here : (b c : Bool) → eqb (number x) n ≡ c → cond c (Some x) (first_where (λ y. eqb (number y) n) xs) ≡ None
        → (first_where (λ y. eqb (number y) n) xs ≡ None → first_where (λ y. eqb (number y) n) (changed_where p g xs) ≡ None)
        → first_where (λ y. eqb (number y) n) (cond b (g x) x ∷ changed_where p g xs) ≡ None
    changed_here b true i h later = absurd cc
    changed_here true false i h later = rw (same x, i) (later h)
    changed_here false false i h later = rw i (later h)

pub other_number : (e d : ℕ) → (e ≡ d → ⊥) → eqb e d ≡ false
other_number e d h = other_if (eqb e d) refl
  where
    other_if : (b : Bool) → eqb e d ≡ b → b ≡ false
    other_if true i = absurd (h ((Decides-eqb e d).0 i))
    other_if false i = refl

-- what one look-up found, another whose test it passes finds too
not_missed : {E : Type 0} (p r : E → Bool) (e : E) (xs : List E) → first_where p xs ≡ Some e → r e ≡ true → IsSome (first_where r xs)
not_missed p r e [] h t = absurd cc
not_missed p r e (x ∷ xs) h t = missed_here (p x) (r x) refl h (λ l. not_missed p r e xs l t)
  where
    missed_here : (b c : Bool) → r x ≡ c → cond b (Some x) (first_where p xs) ≡ Some e → (first_where p xs ≡ Some e → IsSome (first_where r xs)) → IsSome (cond c (Some x) (first_where r xs))
    missed_here b true i h later = refl
    missed_here true false i h later = let m : x ≡ e = cc in absurd cc
    missed_here false false i h later = later h

some_or_none : {E : Type 0} (o : Option E) → o ≡ None → IsSome o → ⊥
some_or_none o e h = absurd cc

-- an entry that was found has a number that was drawn
pub below_next : {E : Type 0} (number : E → ℕ) (p : E → Bool) (e : E) (n : ℕ) (xs : List E) → ((d : ℕ) → n ≤ d → first_where (λ x. eqb (number x) d) xs ≡ None) → first_where p xs ≡ Some e → number e < n
below_next number p e n xs drawn h = below_if (ltb (number e) n) refl
  where
    below_if : (b : Bool) → ltb (number e) n ≡ b → number e < n
    below_if true l = grind arith
    below_if false l =
        let m : n ≤ number e = grind arith in
        let z = drawn (number e) m in
        let some = not_missed p (λ x. eqb (number x) (number e)) e xs h ((Decides-eqb (number e) (number e)).1 refl) in
        absurd (some_or_none (first_where (λ x. eqb (number x) (number e)) xs) z some)

-- what an entry passes that was found passes
pub passes : {E : Type 0} (p : E → Bool) (e : E) (xs : List E) → first_where p xs ≡ Some e → p e ≡ true
passes p e [] h = absurd cc
passes p e (x ∷ xs) h = passes_here (p x) refl h (λ l. passes p e xs l)
  where
    passes_here : (b : Bool) → p x ≡ b → cond b (Some x) (first_where p xs) ≡ Some e → (first_where p xs ≡ Some e → p e ≡ true) → p e ≡ true
    passes_here true i h later = let m : x ≡ e = cc in subst (λ z. p z ≡ true) m i
    passes_here false i h later = later h

-- what none passes, none of the rest passes
pub none_of_rest : {E : Type 0} (p : E → Bool) (x : E) (xs all : List E) → all ≡ x ∷ xs → first_where p all ≡ None → first_where p xs ≡ None
none_of_rest p x xs all e h = rest_if (p x) (ap (first_where p) (sym e) ∙ h)
  where
    rest_if : (b : Bool) → cond b (Some x) (first_where p xs) ≡ None → first_where p xs ≡ None
    rest_if true h = absurd cc
    rest_if false h = h

-- ---- the agent
-- the connection that a connectID names stands under its own number
pub connection_stands : (z : ℤ) (cs : List Connection) (c : Connection) → connection_at z cs ≡ Some c → first_where (is_connection c.connect_id) cs ≡ Some c
connection_stands (pos n) cs c h =
    let m : c.connect_id ≡ n = (Decides-eqb c.connect_id n).0 (passes (is_connection n) c cs h) in
    subst (λ y. first_where (is_connection y) cs ≡ Some c) (sym m) h
connection_stands (negsuc n) cs c h = absurd cc

pub dials_taken : (s t : AgentState) → IsAgentSound s → (d : Dial) → s.dials ≡ d ∷ t.dials → t.next_ticket ≡ s.next_ticket → t.connections ≡ s.connections → t.next_connect_id ≡ s.next_connect_id → IsAgentSound t
dials_taken s t sound d dials next connections ids = record {
  few_tickets = rw next sound.few_tickets;
  few_ids = rw ids sound.few_ids;
  dials_drawn = λ m l. none_of_rest (is_dial m) d t.dials s.dials dials (sound.dials_drawn m (omega arith));
  connections_drawn = λ m l. rw connections (sound.connections_drawn m (omega arith));
}

pub connections_taken : (s t : AgentState) → IsAgentSound s → (c : Connection) → s.connections ≡ c ∷ t.connections → t.next_connect_id ≡ s.next_connect_id → t.dials ≡ s.dials → t.next_ticket ≡ s.next_ticket → IsAgentSound t
connections_taken s t sound c connections ids dials next = record {
  few_tickets = rw next sound.few_tickets;
  few_ids = rw ids sound.few_ids;
  dials_drawn = λ m l. rw dials (sound.dials_drawn m (omega arith));
  connections_drawn = λ m l. none_of_rest (is_connection m) c t.connections s.connections connections (sound.connections_drawn m (omega arith));
}

pub first_below : (s : AgentState) → IsAgentSound s → (c : Connection) (cs : List Connection) → s.connections ≡ c ∷ cs → c.connect_id < 9223372036854775807
first_below s sound c cs h =
    let own : eqb c.connect_id c.connect_id ≡ true = (Decides-eqb c.connect_id c.connect_id).1 refl in
    let found : first_where (is_connection c.connect_id) s.connections ≡ Some c = ap (first_where (is_connection c.connect_id)) h ∙ rw own refl in
    let l = below_next (λ (x : Connection). x.connect_id) (is_connection c.connect_id) c s.next_connect_id s.connections sound.connections_drawn found in
    let f = sound.few_ids in
    omega arith

pub dial_added : (s t : AgentState) → IsAgentSound s → (d : Dial) → d.ticket ≡ s.next_ticket → s.next_ticket < 9223372036854775807
    → t.dials ≡ with_dial d s.dials → t.next_ticket ≡ s.next_ticket + 1 → t.connections ≡ s.connections → t.next_connect_id ≡ s.next_connect_id → IsAgentSound t
dial_added s t sound d same left dials next connections ids = record {
  few_tickets = omega arith;
  few_ids = rw ids sound.few_ids;
  dials_drawn = λ n l. rw dials (first_in_place (λ x. x.ticket) (is_dial n) d s.dials (other_number d.ticket n (λ i. omega arith)) ∙ sound.dials_drawn n (omega arith));
  connections_drawn = λ n l. rw connections (sound.connections_drawn n (omega arith));
}

pub dial_gone : (s t : AgentState) → IsAgentSound s → (n : ℕ) → t.dials ≡ without_dial n s.dials → t.next_ticket ≡ s.next_ticket → t.connections ≡ s.connections → t.next_connect_id ≡ s.next_connect_id → IsAgentSound t
dial_gone s t sound n dials next connections ids = record {
  few_tickets = rw next sound.few_tickets;
  few_ids = rw ids sound.few_ids;
  dials_drawn = λ m l. rw dials (none_without (is_dial m) (is_dial n) s.dials (sound.dials_drawn m (omega arith)));
  connections_drawn = λ m l. rw connections (sound.connections_drawn m (omega arith));
}

pub connection_added : (s t : AgentState) → IsAgentSound s → (c : Connection) → c.connect_id ≡ s.next_connect_id → s.next_connect_id < 9223372036854775807
    → t.connections ≡ with_connection c s.connections → t.next_connect_id ≡ s.next_connect_id + 1 → t.dials ≡ s.dials → t.next_ticket ≡ s.next_ticket → IsAgentSound t
connection_added s t sound c same left connections ids dials next = record {
  few_tickets = rw next sound.few_tickets;
  few_ids = omega arith;
  dials_drawn = λ n l. rw dials (sound.dials_drawn n (omega arith));
  connections_drawn = λ n l. rw connections (first_in_place (λ x. x.connect_id) (is_connection n) c s.connections (other_number c.connect_id n (λ i. omega arith)) ∙ sound.connections_drawn n (omega arith));
}

pub connection_gone : (s t : AgentState) → IsAgentSound s → (n : ℕ) → t.connections ≡ without_connection n s.connections → t.next_connect_id ≡ s.next_connect_id → t.dials ≡ s.dials → t.next_ticket ≡ s.next_ticket → IsAgentSound t
connection_gone s t sound n connections ids dials next = record {
  few_tickets = rw next sound.few_tickets;
  few_ids = rw ids sound.few_ids;
  dials_drawn = λ m l. rw dials (sound.dials_drawn m (omega arith));
  connections_drawn = λ m l. rw connections (none_without (is_connection m) (is_connection n) s.connections (sound.connections_drawn m (omega arith)));
}

pub connection_kept : (s t : AgentState) → IsAgentSound s → (n : ℕ) (g : Connection → Connection) → ((c : Connection) → (g c).connect_id ≡ c.connect_id) → t.connections ≡ connection_changed n g s.connections → t.next_connect_id ≡ s.next_connect_id → t.dials ≡ s.dials → t.next_ticket ≡ s.next_ticket → IsAgentSound t
connection_kept s t sound n g same connections ids dials next = record {
  few_tickets = rw next sound.few_tickets;
  few_ids = rw ids sound.few_ids;
  dials_drawn = λ m l. rw dials (sound.dials_drawn m (omega arith));
  connections_drawn = λ m l. rw connections (none_changed (λ x. x.connect_id) (is_connection n) g m same s.connections (sound.connections_drawn m (omega arith)));
}

-- ---- the client
-- an app that was found has a number that came up
pub app_below : (s : ClientState) → IsClientSound s → (p : App → Bool) (a : App) → first_where p s.apps ≡ Some a → a.number < 9223372036854775807
app_below s sound p a h = let l = below_next (λ (x : App). x.number) p a (s.top_app + 1) s.apps (λ d m. sound.apps_came d (omega arith)) h in let f = sound.few_apps in omega arith

pub app_added : (s t : ClientState) → IsClientSound s → (a : App) → s.top_app < a.number → a.number < 9223372036854775807 → t.apps ≡ with_app a s.apps → t.top_app ≡ a.number → IsClientSound t
app_added s t sound a next low apps top = record {
  few_apps = rw top low;
  apps_came = λ n l. rw apps (first_in_place (λ x. x.number) (is_app n) a s.apps (other_number a.number n (λ i. omega arith)) ∙ sound.apps_came n (omega arith));
}

pub app_gone : (s t : ClientState) → IsClientSound s → (n : ℕ) → t.apps ≡ without_app n s.apps → t.top_app ≡ s.top_app → IsClientSound t
app_gone s t sound n apps top = record {
  few_apps = rw top sound.few_apps;
  apps_came = λ m l. rw apps (none_without (is_app m) (is_app n) s.apps (sound.apps_came m (omega arith)));
}

pub app_kept : (s t : ClientState) → IsClientSound s → (n : ℕ) (g : App → App) → ((a : App) → (g a).number ≡ a.number) → t.apps ≡ app_changed n g s.apps → t.top_app ≡ s.top_app → IsClientSound t
app_kept s t sound n g same apps top = record {
  few_apps = rw top sound.few_apps;
  apps_came = λ m l. rw apps (none_changed (λ x. x.number) (is_app n) g m same s.apps (sound.apps_came m (omega arith)));
}

pub apps_taken : (s t : ClientState) → IsClientSound s → (a : App) → s.apps ≡ a ∷ t.apps → t.top_app ≡ s.top_app → IsClientSound t
apps_taken s t sound a apps top = record {
  few_apps = rw top sound.few_apps;
  apps_came = λ m l. none_of_rest (is_app m) a t.apps s.apps apps (sound.apps_came m (omega arith));
}
