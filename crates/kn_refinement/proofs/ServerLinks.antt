-- The outputs of the server to one agent, and to one client, in the packet world.
use Rattle.std.proofs.Common.{◌≡◌, ◌==◌, ◌||◌, ℕ, Bool, true, false, not, cond, List, [], ◌∷◌, Option, Some, None, refl, ap, ◌∙◌, eqb-true}
use Rattle.std.specs.Option.{option_map}
use Rattle.kn_packet.specs.declared.packet.Packet.{Packet}
use Rattle.kn_server_core.specs.declared.event.ServerOut.{ServerOut}
use Rattle.kn_server_core.specs.declared.event.ServerOut.TheVariants as out
use Rattle.kn_server_core.specs.Isolation.{Each}
use Rattle.kn_tunnel.specs.Tunnel.{Front, Gone}
use Rattle.kn_packets.specs.Outputs.{for_link, is_cut, more_if, queued}
use Rattle.kn_packets.specs.World.{WorldLink}
use Rattle.kn_world.specs.declared.parts.Agent.{Agent}
use Rattle.kn_world.specs.Agents as agents
use Rattle.kn_world.specs.Numbers.{nth}
pub use Rattle.kn_refinement.specs.Asking.{HasAgent}
use Rattle.kn_refinement.specs.Shown.{agent_of, front_if, link_of}
use Rattle.kn_refinement.proofs.ServerOutputs.{agent_after, agent_given}

-- ---- an agent
core_given : (o : ServerOut) (l : ℕ) (a : Agent) → (agent_given o l a).core ≡ a.core
core_given (out.ToLink link p) l a = here (l == link) a.at_agent
  where
    here : (b c : Bool) → (cond b (agents.with_down c p a) a).core ≡ a.core
    here true true = refl
    here true false = refl
    here false c = refl
core_given (out.CutLink link) l a = here (l == link)
  where
    here : (b : Bool) → (cond b (agents.cut_off a) a).core ≡ a.core
    here true = refl
    here false = refl
core_given (out.ToFront front p) l a = refl
core_given (out.Made dial link front) l a = refl

pub core_after : (os : List ServerOut) (l : ℕ) (a : Agent) → (agent_after os l a).core ≡ a.core
core_after [] l a = refl
core_after (o ∷ os) l a = core_after os l (agent_given o l a) ∙ core_given o l a

connections_given : (o : ServerOut) (l : ℕ) (a : Agent) → (agent_given o l a).connections ≡ a.connections
connections_given (out.ToLink link p) l a = here (l == link) a.at_agent
  where
    here : (b c : Bool) → (cond b (agents.with_down c p a) a).connections ≡ a.connections
    here true true = refl
    here true false = refl
    here false c = refl
connections_given (out.CutLink link) l a = here (l == link)
  where
    here : (b : Bool) → (cond b (agents.cut_off a) a).connections ≡ a.connections
    here true = refl
    here false = refl
connections_given (out.ToFront front p) l a = refl
connections_given (out.Made dial link front) l a = refl

pub connections_after : (os : List ServerOut) (l : ℕ) (a : Agent) → (agent_after os l a).connections ≡ a.connections
connections_after [] l a = refl
connections_after (o ∷ os) l a = connections_after os l (agent_given o l a) ∙ connections_given o l a

end_given : (o : ServerOut) (l : ℕ) (a : Agent) → (agent_given o l a).at_agent ≡ a.at_agent
end_given (out.ToLink link p) l a = here (l == link) a.at_agent
  where
    here : (b c : Bool) → (cond b (agents.with_down c p a) a).at_agent ≡ a.at_agent
    here true true = refl
    here true false = refl
    here false c = refl
end_given (out.CutLink link) l a = here (l == link)
  where
    here : (b : Bool) → (cond b (agents.cut_off a) a).at_agent ≡ a.at_agent
    here true = refl
    here false = refl
end_given (out.ToFront front p) l a = refl
end_given (out.Made dial link front) l a = refl

pub end_after : (os : List ServerOut) (l : ℕ) (a : Agent) → (agent_after os l a).at_agent ≡ a.at_agent
end_after [] l a = refl
end_after (o ∷ os) l a = end_after os l (agent_given o l a) ∙ end_given o l a

-- a packet is queued once
queued_one : (there : Bool) (b : Bool) (p : Packet) (a : Agent) (ps : List Packet) → queued there (cond b (agents.with_down there p a) a).down ps ≡ queued there a.down (more_if b p ps)
queued_one true true p a ps = refl
queued_one false true p a ps = refl
queued_one there false p a ps = refl

down_given : (o : ServerOut) (os : List ServerOut) (l : ℕ) (a : Agent) → queued a.at_agent (agent_given o l a).down (for_link l os) ≡ queued a.at_agent a.down (for_link l (o ∷ os))
down_given (out.ToLink link p) os l a = queued_one a.at_agent (l == link) p a (for_link l os)
down_given (out.CutLink link) os l a = here (l == link)
  where
    here : (b : Bool) → queued a.at_agent (cond b (agents.cut_off a) a).down (for_link l os) ≡ queued a.at_agent a.down (for_link l os)
    here true = refl
    here false = refl
down_given (out.ToFront front p) os l a = refl
down_given (out.Made dial link front) os l a = refl

down_after : (os : List ServerOut) (l : ℕ) (a : Agent) → (agent_after os l a).down ≡ queued a.at_agent a.down (for_link l os)
down_after [] l a = refl
down_after (o ∷ os) l a = down_after os l (agent_given o l a) ∙ ap (λ b. queued b (agent_given o l a).down (for_link l os)) (end_given o l a) ∙ down_given o os l a

cond_twice : {X : Type 0} (b c : Bool) (x y : X) → cond c x (cond b x y) ≡ cond (b || c) x y
cond_twice true true x y = refl
cond_twice true false x y = refl
cond_twice false c x y = refl

server_given : (o : ServerOut) (l : ℕ) (a : Agent) → front_if (agent_given o l a).at_server ≡ cond (is_cut l (o ∷ [])) Gone (front_if a.at_server)
server_given (out.ToLink link p) l a = here (l == link) a.at_agent
  where
    here : (b c : Bool) → front_if (cond b (agents.with_down c p a) a).at_server ≡ front_if a.at_server
    here true true = refl
    here true false = refl
    here false c = refl
server_given (out.CutLink link) l a = here (l == link)
  where
    here : (b : Bool) → front_if (cond b (agents.cut_off a) a).at_server ≡ cond (b || false) Gone (front_if a.at_server)
    here true = refl
    here false = refl
server_given (out.ToFront front p) l a = refl
server_given (out.Made dial link front) l a = refl

up_given : (o : ServerOut) (l : ℕ) (a : Agent) → (agent_given o l a).up ≡ cond (is_cut l (o ∷ [])) [] a.up
up_given (out.ToLink link p) l a = here (l == link) a.at_agent
  where
    here : (b c : Bool) → (cond b (agents.with_down c p a) a).up ≡ a.up
    here true true = refl
    here true false = refl
    here false c = refl
up_given (out.CutLink link) l a = here (l == link)
  where
    here : (b : Bool) → (cond b (agents.cut_off a) a).up ≡ cond (b || false) [] a.up
    here true = refl
    here false = refl
up_given (out.ToFront front p) l a = refl
up_given (out.Made dial link front) l a = refl

cut_both : {X : Type 0} (o : ServerOut) (os : List ServerOut) (l : ℕ) (x y : X) → cond (is_cut l os) x (cond (is_cut l (o ∷ [])) x y) ≡ cond (is_cut l (o ∷ os)) x y
cut_both (out.CutLink link) os l x y = here (l == link)
  where
    here : (b : Bool) → cond (is_cut l os) x (cond (b || false) x y) ≡ cond (b || is_cut l os) x y
    here true = cond_twice true (is_cut l os) x y
    here false = refl
cut_both (out.ToLink link p) os l x y = refl
cut_both (out.ToFront front p) os l x y = refl
cut_both (out.Made dial link front) os l x y = refl

server_after : (os : List ServerOut) (l : ℕ) (a : Agent) → front_if (agent_after os l a).at_server ≡ cond (is_cut l os) Gone (front_if a.at_server)
server_after [] l a = refl
server_after (o ∷ os) l a = server_after os l (agent_given o l a) ∙ ap (cond (is_cut l os) Gone) (server_given o l a) ∙ cut_both o os l Gone (front_if a.at_server)

up_after : (os : List ServerOut) (l : ℕ) (a : Agent) → (agent_after os l a).up ≡ cond (is_cut l os) [] a.up
up_after [] l a = refl
up_after (o ∷ os) l a = up_after os l (agent_given o l a) ∙ ap (cond (is_cut l os) []) (up_given o l a) ∙ cut_both o os l [] a.up

-- outputs name only links that have an agent
abbrev pub NamesAgent : List Agent → ServerOut → Type 0
NamesAgent agents (out.ToLink link p) = HasAgent agents link
NamesAgent agents (out.CutLink link) = HasAgent agents link
NamesAgent agents (out.Made dial link front) = HasAgent agents link
NamesAgent agents (out.ToFront front p) = Unit {0}

is_other : (l link : ℕ) (xs : List Agent) → nth l xs ≡ None → HasAgent xs link → (l == link) ≡ false
is_other l link xs none there = here (l == link) refl
  where
    here : (b : Bool) → (l == link) ≡ b → b ≡ false
    here true e = let same : l ≡ link = eqb-true l link e in absurd (cc (ap (λ n. nth n xs) same, none, there.1))
    here false e = refl

none_sent : (os : List ServerOut) (l : ℕ) (xs : List Agent) → nth l xs ≡ None → Each (NamesAgent xs) os → for_link l os ≡ []
none_sent [] l xs none h = refl
none_sent (out.ToLink link p ∷ os) l xs none h = rw (is_other l link xs none h.0) (none_sent os l xs none h.1)
none_sent (out.CutLink link ∷ os) l xs none h = none_sent os l xs none h.1
none_sent (out.Made dial link front ∷ os) l xs none h = none_sent os l xs none h.1
none_sent (out.ToFront front p ∷ os) l xs none h = none_sent os l xs none h.1

none_cut : (os : List ServerOut) (l : ℕ) (xs : List Agent) → nth l xs ≡ None → Each (NamesAgent xs) os → is_cut l os ≡ false
none_cut [] l xs none h = refl
none_cut (out.ToLink link p ∷ os) l xs none h = none_cut os l xs none h.1
none_cut (out.CutLink link ∷ os) l xs none h = rw (is_other l link xs none h.0) (none_cut os l xs none h.1)
none_cut (out.Made dial link front ∷ os) l xs none h = none_cut os l xs none h.1
none_cut (out.ToFront front p ∷ os) l xs none h = none_cut os l xs none h.1

-- ---- a link xs shown
pub agent_shown : (os : List ServerOut) (l : ℕ) (o : Option Agent) → agent_of (option_map (agent_after os l) o) ≡ agent_of o
agent_shown os l None = refl
agent_shown os l (Some a) = core_after os l a

-- a link with other values
link_with : Front → List Packet → List Packet → WorldLink
link_with server up down = record { server = server; up = up; down = down }

pub link_shown : (xs : List Agent) (os : List ServerOut) (l : ℕ) → Each (NamesAgent xs) os → ((a : Agent) → nth l xs ≡ Some a → a.at_agent ≡ not a.core.lost)
    → link_of (option_map (agent_after os l) (nth l xs))
    ≡ record (link_of (nth l xs)) {
      server = cond (is_cut l os) Gone (link_of (nth l xs)).server;
      up = cond (is_cut l os) [] (link_of (nth l xs)).up;
      down = queued (not (agent_of (nth l xs)).lost) (link_of (nth l xs)).down (for_link l os);
    }
unfolding link_with
link_shown xs os l named lost = here (nth l xs) refl
  where
    here : (o : Option Agent) → nth l xs ≡ o → link_of (option_map (agent_after os l) o)
        ≡ record (link_of o) { server = cond (is_cut l os) Gone (link_of o).server; up = cond (is_cut l os) [] (link_of o).up; down = queued (not (agent_of o).lost) (link_of o).down (for_link l os) }
    here None e = rw (none_cut os l xs e named, none_sent os l xs e named) refl
    here (Some a) e =
        ap (λ s. link_with s (agent_after os l a).up (agent_after os l a).down) (server_after os l a)
        ∙ ap (λ u. link_with (cond (is_cut l os) Gone (front_if a.at_server)) u (agent_after os l a).down) (up_after os l a)
        ∙ ap (link_with (cond (is_cut l os) Gone (front_if a.at_server)) (cond (is_cut l os) [] a.up)) (down_after os l a ∙ ap (λ b. queued b a.down (for_link l os)) (lost a e))
