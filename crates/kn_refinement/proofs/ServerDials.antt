-- The dials that the server makes, and what no output changes of an agent's connections.
use Rattle.std.proofs.Common.{◌≡◌, ◌==◌, ◌⊎◌, ℕ, ℤ, suc, pos, Bool, true, false, cond, List, [], ◌∷◌, length, Option, Some, None, inl, inr, refl, sym, ap, ◌∙◌}
use Rattle.std.specs.Option.{option_map}
use Rattle.kn_packet.specs.declared.packet.Packet.{Packet}
use Rattle.kn_edge_core.specs.AgentTables.{connection_at}
use Rattle.kn_edge_core.specs.declared.connection.DestState.{DestState}
use Rattle.kn_server_core.specs.Isolation.{Each}
use Rattle.kn_server_core.specs.declared.event.ServerOut.{ServerOut}
use Rattle.kn_server_core.specs.declared.event.ServerOut.TheVariants as out
use Rattle.kn_tunnel.specs.Steps.{no_bytes}
use Rattle.kn_packets.specs.Moves.{new_dial}
use Rattle.kn_packets.specs.World.{WorldDial}
use Rattle.kn_world.specs.declared.parts.Agent.{Agent}
use Rattle.kn_world.specs.declared.parts.Dial.{Dial}
use Rattle.kn_world.specs.Dials.{state_at}
use Rattle.kn_world.specs.Numbers.{nth}
use Rattle.kn_world.specs.States as running
use Rattle.kn_refinement.specs.Shown.{dial_of, if_there, side_of}
use Rattle.kn_refinement.proofs.NumberLemmas.{nth_more}
use Rattle.kn_refinement.proofs.ServerLinks.{core_after}
use Rattle.kn_refinement.proofs.ServerOutputs.{agent_after, dials_after}

-- a step makes no dial, or one, whose request goes to its link
abbrev pub IsNoDial : ServerOut → Type 0
IsNoDial (out.Made dial link front) = ⊥
IsNoDial (out.ToLink link p) = Unit {0}
IsNoDial (out.ToFront front p) = Unit {0}
IsNoDial (out.CutLink link) = Unit {0}

abbrev pub MakesOne : ℕ → List ServerOut → Type 0
MakesOne next os = (link front : ℕ) × (p : Packet) × (os ≡ out.Made next link front ∷ out.ToLink link p ∷ [])

abbrev pub Makes : ℕ → List ServerOut → Type 0
Makes next os = Each IsNoDial os ⊎ MakesOne next os

pub no_dial_made : (app : ℕ) (os : List ServerOut) (ds : List Dial) → Each IsNoDial os → dials_after app os ds ≡ ds
no_dial_made app [] ds h = refl
no_dial_made app (out.Made dial link front ∷ os) ds h = absurd h.0
no_dial_made app (out.ToLink link p ∷ os) ds h = no_dial_made app os ds h.1
no_dial_made app (out.ToFront front p ∷ os) ds h = no_dial_made app os ds h.1
no_dial_made app (out.CutLink link ∷ os) ds h = no_dial_made app os ds h.1

no_dial_new : (d : ℕ) (os : List ServerOut) (old : WorldDial) → Each IsNoDial os → new_dial d os old ≡ old
no_dial_new d [] old h = refl
no_dial_new d (out.Made dial link front ∷ os) old h = absurd h.0
no_dial_new d (out.ToLink link p ∷ os) old h = no_dial_new d os old h.1
no_dial_new d (out.ToFront front p ∷ os) old h = no_dial_new d os old h.1
no_dial_new d (out.CutLink link ∷ os) old h = no_dial_new d os old h.1

-- ---- a destination is what it was
same_state : (connect_id : ℤ) (os : List ServerOut) (l : ℕ) (o : Option Agent) → state_at connect_id (option_map (agent_after os l) o) ≡ state_at connect_id o
same_state connect_id os l None = refl
same_state connect_id os l (Some a) = ap (λ c. option_map (λ x. x.state) (connection_at connect_id c.connections)) (core_after os l a)

pub dial_same : (new old : List Agent) (os : List ServerOut) (o : Option Dial) → ((l : ℕ) → nth l new ≡ option_map (agent_after os l) (nth l old)) → dial_of new o ≡ dial_of old o
dial_same new old os None h = refl
dial_same new old os (Some x) h = ap (with_state x) (ap (state_at x.connect_id) (h x.link) ∙ same_state x.connect_id os x.link (nth x.link old))
  where
    with_state : (x : Dial) → Option DestState → WorldDial
    with_state x there = record (dial_of old (Some x)) { side = side_of there x.side }

none_unwritten : {X : Type 0} (o : Option X) → if_there o [] ≡ []
none_unwritten None = refl
none_unwritten (Some x) = refl

new_shown : (agents : List Agent) (link app : ℕ) → dial_of agents (Some (running.new_dial link app)) ≡ record { link = link; cid = None; side = no_bytes }
new_shown agents link app = rw (none_unwritten (state_at (pos 0) (nth link agents))) refl

pub dials_shown : (new old : List Agent) (app : ℕ) (os : List ServerOut) (ds : List Dial) (d : ℕ) → Makes (suc (length ds)) os
    → ((l : ℕ) → nth l new ≡ option_map (agent_after os l) (nth l old))
    → dial_of new (nth d (dials_after app os ds)) ≡ new_dial d os (dial_of old (nth d ds))
dials_shown new old app os ds d (inl h) same = ap (λ xs. dial_of new (nth d xs)) (no_dial_made app os ds h) ∙ dial_same new old os (nth d ds) same ∙ sym (no_dial_new d os (dial_of old (nth d ds)) h)
dials_shown new old app os ds d (inr h) same =
    ap (λ x. dial_of new (nth d (dials_after app x ds))) h.3
    ∙ ap (dial_of new) (nth_more ds (running.new_dial h.0 app) d)
    ∙ here (d == suc (length ds))
    ∙ sym (ap (λ x. new_dial d x (dial_of old (nth d ds))) h.3)
  where
    here : (b : Bool) → dial_of new (cond b (Some (running.new_dial h.0 app)) (nth d ds)) ≡ cond b (record { link = h.0; cid = None; side = no_bytes }) (dial_of old (nth d ds))
    here true = new_shown new h.0 app
    here false = dial_same new old os (nth d ds) same
