-- What a running world notes of an agent or a dial before or besides a step: what of it is shown, and that the parts fit on.
use Rattle.std.proofs.Common.{◌≡◌, ◌==◌, ℕ, Bool, true, false, cond, List, ◌∷◌, if◌then◌else◌, Option, Some, None, refl, sym, ap, ◌∙◌, eqb-true}
use Rattle.std.specs.Option.{option_map}
use Rattle.kn_tunnel.specs.Tunnel.{Side}
use Rattle.kn_packet.specs.declared.packet.Packet.{Packet}
use Rattle.kn_packets.specs.Moves.{dest_is, down_is, side_if}
use Rattle.kn_packets.specs.World.{WorldLink}
use Rattle.kn_world.specs.declared.parts.Agent.{Agent}
use Rattle.kn_world.specs.declared.parts.Dial.{Dial}
use Rattle.kn_world.specs.declared.state.State.{State}
use Rattle.kn_world.specs.Agents as agents
use Rattle.kn_world.specs.Numbers.{change, nth, rest_of}
use Rattle.kn_refinement.specs.Fits.{Fits}
use Rattle.kn_refinement.specs.Shown.{agent_of, dial_of, link_of, shown, side_of}
use Rattle.kn_refinement.proofs.AgentFitting.{KeptConnection, KeptConnections, KeptTicket, KeptTickets, connections_fit, fits_by, tickets_fit}
use Rattle.kn_refinement.proofs.AgentQuiet.{fits_with}
use Rattle.kn_refinement.proofs.Changes.{changed_other, changed_own}
use Rattle.kn_refinement.proofs.NumberLemmas.{nth_change}
use Rattle.kn_refinement.proofs.Worlds.{worlds_same}
use Rattle.kn_world.specs.Dials.{state_at}

-- ---- of a dial
-- nothing is shown
pub dial_hidden : (s : State) (q : Dial → Dial) (n : ℕ) → ((x : Dial) → nth n s.dials ≡ Some x → dial_of s.agents (Some (q x)) ≡ dial_of s.agents (Some x)) → shown (record s { dials = change q n s.dials }) ≡ shown s
dial_hidden s q n same = worlds_same (shown (record s { dials = change q n s.dials })) (shown s) refl (λ l. refl) (λ c. refl) (λ l. refl) (λ f. refl) (λ d. here d (d == n) refl) (λ k. refl)
  where
    own : (d : ℕ) (o : Option Dial) → nth d s.dials ≡ o → nth n s.dials ≡ o → dial_of s.agents (option_map q o) ≡ dial_of s.agents o
    own d None h k = refl
    own d (Some x) h k = same x k

    here : (d : ℕ) (b : Bool) → (d == n) ≡ b → dial_of s.agents (nth d (change q n s.dials)) ≡ dial_of s.agents (nth d s.dials)
    here d false e = ap (dial_of s.agents) (changed_other q n d s.dials e)
    here d true e = ap (dial_of s.agents) (nth_change q n d s.dials ∙ ap (λ b. cond b (option_map q (nth d s.dials)) (nth d s.dials)) e) ∙ own d (nth d s.dials) refl (ap (λ i. nth i s.dials) (sym (eqb-true d n e)))

-- the bytes of its destination are others
pub dial_is : (s : State) (q : Dial → Dial) (g : Side → Side) (n : ℕ) (x : Dial) → nth n s.dials ≡ Some x → dial_of s.agents (Some (q x)) ≡ record (dial_of s.agents (Some x)) { side = g (dial_of s.agents (Some x)).side }
    → shown (record s { dials = change q n s.dials }) ≡ dest_is n g (shown s)
dial_is s q g n x at its = worlds_same (shown (record s { dials = change q n s.dials })) (dest_is n g (shown s)) refl (λ l. refl) (λ c. refl) (λ l. refl) (λ f. refl) (λ d. here d (d == n) refl) (λ k. refl)
  where
    here : (d : ℕ) (b : Bool) → (d == n) ≡ b → dial_of s.agents (nth d (change q n s.dials)) ≡ record (dial_of s.agents (nth d s.dials)) { side = side_if b g (dial_of s.agents (nth d s.dials)).side }
    here d false e = ap (dial_of s.agents) (changed_other q n d s.dials e)
    here d true e = ap (λ i. dial_of s.agents (nth i (change q n s.dials))) (eqb-true d n e) ∙ ap (dial_of s.agents) (changed_own q n s.dials x at) ∙ its
        ∙ sym (ap (λ o. record (dial_of s.agents o) { side = g (dial_of s.agents o).side }) (ap (λ i. nth i s.dials) (eqb-true d n e) ∙ at))

-- ---- of an agent: its link alone is another one
pub links_are : (s : State) (p : Agent → Agent) (link : ℕ) (a : Agent) → nth link s.agents ≡ Some a → (p a).core ≡ a.core → (L : ℕ → WorldLink)
    → ((l : ℕ) → (l == link) ≡ true → link_of (Some (p a)) ≡ L l) → ((l : ℕ) → (l == link) ≡ false → link_of (nth l s.agents) ≡ L l) → shown (record s { agents = change p link s.agents }) ≡ record (shown s) { links = L }
links_are s p link a there core L own others = worlds_same (shown (record s { agents = xs })) (record (shown s) { links = L }) refl (λ l. agent l (l == link) refl) (λ c. refl) (λ l. its_link l (l == link) refl) (λ f. refl) (λ d. dial (nth d s.dials)) (λ k. refl)
  where
    xs : List Agent
    xs = change p link s.agents

    own_is : (l : ℕ) → (l == link) ≡ true → nth l (change p link s.agents) ≡ Some (p a)
    own_is l e = ap (λ i. nth i (change p link s.agents)) (eqb-true l link e) ∙ changed_own p link s.agents a there

    agent : (l : ℕ) (b : Bool) → (l == link) ≡ b → agent_of (nth l (change p link s.agents)) ≡ agent_of (nth l s.agents)
    agent l true e = ap agent_of (own_is l e) ∙ core ∙ sym (ap agent_of (ap (λ i. nth i s.agents) (eqb-true l link e) ∙ there))
    agent l false e = ap agent_of (changed_other p link l s.agents e)

    its_link : (l : ℕ) (b : Bool) → (l == link) ≡ b → link_of (nth l (change p link s.agents)) ≡ L l
    its_link l true e = ap link_of (own_is l e) ∙ own l e
    its_link l false e = ap link_of (changed_other p link l s.agents e) ∙ others l e

    knows : (x : Dial) (b : Bool) → (x.link == link) ≡ b → state_at x.connect_id (nth x.link (change p link s.agents)) ≡ state_at x.connect_id (nth x.link s.agents)
    knows x true e = ap (state_at x.connect_id) (own_is x.link e) ∙ ap (λ k. state_at x.connect_id (Some (record a { core = k }))) core ∙ sym (ap (state_at x.connect_id) (ap (λ i. nth i s.agents) (eqb-true x.link link e) ∙ there))
    knows x false e = ap (state_at x.connect_id) (changed_other p link x.link s.agents e)

    dial : (o : Option Dial) → dial_of (change p link s.agents) o ≡ dial_of s.agents o
    dial None = refl
    dial (Some x) = ap (λ k. record (dial_of s.agents (Some x)) { side = side_of k x.side }) (knows x (x.link == link) refl)

-- nothing is shown
pub agent_hidden : (s : State) (p : Agent → Agent) (link : ℕ) (a : Agent) → nth link s.agents ≡ Some a → (p a).core ≡ a.core → link_of (Some (p a)) ≡ link_of (Some a) → shown (record s { agents = change p link s.agents }) ≡ shown s
agent_hidden s p link a there core same = links_are s p link a there core (λ l. link_of (nth l s.agents)) (λ l e. same ∙ sym (ap link_of (ap (λ i. nth i s.agents) (eqb-true l link e) ∙ there))) (λ l e. refl)

-- the first packet to it is taken off
pub taken_off : (s : State) (link : ℕ) (a : Agent) (first : Packet) (rest : List Packet) → nth link s.agents ≡ Some a → a.down ≡ first ∷ rest → shown (record s { agents = change agents.rest_down link s.agents }) ≡ down_is link rest (shown s)
taken_off s link a first rest there down = links_are s agents.rest_down link a there refl (down_is link rest (shown s)).links own others
  where
    own : (l : ℕ) → (l == link) ≡ true → link_of (Some (agents.rest_down a)) ≡ (down_is link rest (shown s)).links l
    own l e = ap (λ ps. record (link_of (Some a)) { down = rest_of ps }) down
        ∙ sym (ap (λ b. record (link_of (nth l s.agents)) { down = (if b then rest else (link_of (nth l s.agents)).down) }) e ∙ ap (λ o. record (link_of o) { down = rest }) (ap (λ i. nth i s.agents) (eqb-true l link e) ∙ there))

    others : (l : ℕ) → (l == link) ≡ false → link_of (nth l s.agents) ≡ (down_is link rest (shown s)).links l
    others l e = sym (ap (λ b. record (link_of (nth l s.agents)) { down = (if b then rest else (link_of (nth l s.agents)).down) }) e)

-- ---- that the parts fit
pub noted_fits : (s : State) (link dial : ℕ) (p : Agent → Agent) (q : Dial → Dial) → Fits s
    → ((a : Agent) → nth link s.agents ≡ Some a → KeptTickets a (p a)) → ((a : Agent) → nth link s.agents ≡ Some a → KeptConnections a (p a))
    → ((x : Dial) → KeptTicket x (q x)) → ((x : Dial) → nth dial s.dials ≡ Some x → KeptConnection x (q x)) → ((x : Dial) → (q x).app ≡ x.app)
    → Fits (record s { agents = change p link s.agents; dials = change q dial s.dials })
noted_fits s link dial p q fits tickets connections ticket connection app = fits_with s (change p link s.agents) q dial fits app
    (fits_by (change p link s.agents) (change q dial s.dials) (tickets_fit s.agents s.dials fits.agents link dial p q tickets (λ x h. ticket x)) (connections_fit s.agents s.dials fits.agents link dial p q connections connection))

-- of a dial alone
pub dial_fits : (s : State) (dial : ℕ) (q : Dial → Dial) → Fits s → ((x : Dial) → KeptTicket x (q x)) → ((x : Dial) → nth dial s.dials ≡ Some x → KeptConnection x (q x)) → ((x : Dial) → (q x).app ≡ x.app) → Fits (record s { dials = change q dial s.dials })
dial_fits s dial q fits ticket connection app = noted_fits s 0 dial (λ a. a) q fits (λ a h. absurd cc) (λ a h. absurd cc) ticket connection app
