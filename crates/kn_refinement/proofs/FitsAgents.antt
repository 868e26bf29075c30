-- Agents and dials fit as before: over a change of one agent, with an agent more, and with a dial more.
use Rattle.std.proofs.Common.{◌≡◌, ◌≢◌, ◌<◌, ◌++◌, ◌+◌, ◌⊎◌, ℕ, suc, pos, Bool, true, false, not, List, [], ◌∷◌, length, Some, None, inl, inr, refl, sym, ap, ◌∙◌, subst, arith}
use Rattle.kn_packet.specs.declared.packet.Packet.{Packet}
use Rattle.kn_tables.specs.Lists.{IsRising, first_where}
use Rattle.kn_edge_core.specs.AgentTables.{connection_at, is_dial}
use Rattle.kn_edge_core.specs.declared.agent_state.AgentState.{AgentState}
use Rattle.kn_edge_core.specs.declared.dial.Dial.{Dial as ListedDial}
use Rattle.kn_world.specs.declared.parts.Agent.{Agent}
use Rattle.kn_world.specs.declared.parts.Dial.{Dial}
use Rattle.kn_world.specs.Agents as agents
use Rattle.kn_world.specs.Numbers.{change, nth, rest_of}
use Rattle.kn_world.specs.States.{new_agent, new_dial}
use Rattle.kn_refinement.specs.Fits.{AgentFits}
use Rattle.kn_refinement.proofs.Pairs.{Paired, came_or_was, nth_empty, paired_change, was_itself, was_still}

-- ---- an agent whose core and connections are as they were
pub record AgentKept (l : ℕ) (a b : Agent) : Type 0 where
  pub core : b.core ≡ a.core
  pub at_agent : b.at_agent ≡ a.at_agent
  pub connections : b.connections ≡ a.connections
  pub dry : (a.at_server ≡ false → a.up ≡ []) → b.at_server ≡ false → b.up ≡ []

pub agent_same : (l : ℕ) (a : Agent) → AgentKept l a a
agent_same l a = record { core = refl; at_agent = refl; connections = refl; dry = λ h. h }

pub down_kept : (p : Packet) (l : ℕ) (a : Agent) → AgentKept l a (agents.queued_down p a)
down_kept p l a = here a.at_agent
  where
    here : (b : Bool) → AgentKept l a (agents.with_down b p a)
    here true = record { core = refl; at_agent = refl; connections = refl; dry = λ h. h }
    here false = agent_same l a

pub cut_kept : (l : ℕ) (a : Agent) → AgentKept l a (agents.cut_off a)
cut_kept l a = record { core = refl; at_agent = refl; connections = refl; dry = λ h e. refl }

pub lost_kept : (l : ℕ) (a : Agent) → AgentKept l a (agents.lost_at_server a)
lost_kept l a = record { core = refl; at_agent = refl; connections = refl; dry = λ h e. refl }

pub rest_kept : (l : ℕ) (a : Agent) → AgentKept l a (agents.rest_up a)
rest_kept l a = record { core = refl; at_agent = refl; connections = refl; dry = λ h e. ap rest_of (h e) }

pub agents_kept : (f : Agent → Agent) (l : ℕ) (xs : List Agent) → ((a : Agent) → AgentKept l a (f a)) → Paired AgentKept xs (change f l xs)
agents_kept f l xs kept = paired_change AgentKept f l xs (λ m a h. agent_same m a) (λ a h. kept a)

pub agents_fit : (old new : List Agent) (ds : List Dial) → Paired AgentKept old new → AgentFits old ds → AgentFits new ds
agents_fit old new ds pairs fits = record {
  lost = λ l b h. let z = pairs.before l b h in z.2.at_agent ∙ fits.lost l z.0 z.1 ∙ ap (λ (c : AgentState). not c.lost) (sym z.2.core);
  next = λ l b h. let z = pairs.before l b h in ap (λ (c : AgentState). c.next_connect_id) z.2.core ∙ fits.next l z.0 z.1 ∙ ap (λ (xs : List ℕ). length xs + 1) (sym z.2.connections);
  of_connection = λ l c d b h i. let z = pairs.before l b h in fits.of_connection l c d z.0 z.1 (ap (λ (xs : List ℕ). nth c xs) (sym z.2.connections) ∙ i);
  connection_of = λ d n x h e. let w = fits.connection_of d n x h e in let z = pairs.later x.link w.0 w.1 in (z.0, z.1, ap (λ (xs : List ℕ). nth (suc n) xs) z.2.connections ∙ w.2);
  connect_id = fits.connect_id;
  link = λ d x h. let w = fits.link d x h in let z = pairs.later x.link w.0 w.1 in (z.0, z.1);
  of_ticket = λ l ticket b y h e. let z = pairs.before l b h in fits.of_ticket l ticket z.0 y z.1 (ap (λ (c : AgentState). first_where (is_dial ticket) c.dials) (sym z.2.core) ∙ e);
  ticket_once = fits.ticket_once;
  ticket_older = λ d x b h i. let z = pairs.before x.link b i in subst (λ (c : AgentState). x.ticket < c.next_ticket) (sym z.2.core) (fits.ticket_older d x z.0 h z.1);
  first_ticket = λ l b h. let z = pairs.before l b h in subst (λ (c : AgentState). 0 < c.next_ticket) (sym z.2.core) (fits.first_ticket l z.0 z.1);
  ticket_some = λ l ticket b y h e. let z = pairs.before l b h in fits.ticket_some l ticket z.0 y z.1 (ap (λ (c : AgentState). first_where (is_dial ticket) c.dials) (sym z.2.core) ∙ e);
  tickets_rise = λ l b h. let z = pairs.before l b h in subst (λ (c : AgentState). IsRising (λ (y : ListedDial). y.ticket) c.dials) (sym z.2.core) (fits.tickets_rise l z.0 z.1);
  up_dry = λ l b h e. let z = pairs.before l b h in z.2.dry (λ g. fits.up_dry l z.0 z.1 g) e;
  no_connection = λ l b h. let z = pairs.before l b h in ap (λ (c : AgentState). connection_at (pos 0) c.connections) z.2.core ∙ fits.no_connection l z.0 z.1;
  dry = fits.dry;
}

-- ---- an agent comes
-- what holds of the one that came, and of all that were there
of_agent : (P : Agent → Type 0) (xs : List Agent) (l : ℕ) (b : Agent) → nth l (xs ++ new_agent ∷ []) ≡ Some b → P new_agent → (nth l xs ≡ Some b → P b) → P b
of_agent P xs l b h own other = at (came_or_was xs new_agent l b h)
  where
    at : ((l ≡ suc (length xs)) × (b ≡ new_agent)) ⊎ (nth l xs ≡ Some b) → P b
    at (inl (i, e)) = subst P (sym e) own
    at (inr i) = other i

-- a dial's agent is one of those that were there
of_dial : (P : Agent → Type 0) (xs : List Agent) (ds : List Dial) (d : ℕ) (x : Dial) (b : Agent) → AgentFits xs ds → nth d ds ≡ Some x → nth x.link (xs ++ new_agent ∷ []) ≡ Some b
    → ((a : Agent) → nth x.link xs ≡ Some a → P a) → P b
of_dial P xs ds d x b fits h i own = let w = fits.link d x h in subst P (sym (was_itself xs new_agent x.link w.0 b w.1 i)) (own w.0 w.1)

pub agent_more_fits : (xs : List Agent) (ds : List Dial) → AgentFits xs ds → AgentFits (xs ++ new_agent ∷ []) ds
agent_more_fits xs ds fits = record {
  lost = λ l b h. of_agent (λ a. a.at_agent ≡ not a.core.lost) xs l b h refl (λ i. fits.lost l b i);
  next = λ l b h. of_agent (λ a. a.core.next_connect_id ≡ length a.connections + 1) xs l b h refl (λ i. fits.next l b i);
  of_connection = λ l c d b h. of_agent (λ a. nth c a.connections ≡ Some d → (x : Dial) × (nth d ds ≡ Some x) × (x.link ≡ l) × (x.connect_id ≡ pos c)) xs l b h (λ e. absurd (nth_empty c d e)) (λ i e. fits.of_connection l c d b i e);
  connection_of = λ d n x h e. let w = fits.connection_of d n x h e in (w.0, was_still xs new_agent x.link w.0 w.1, w.2);
  connect_id = fits.connect_id;
  link = λ d x h. let w = fits.link d x h in (w.0, was_still xs new_agent x.link w.0 w.1);
  of_ticket = λ l ticket b y h. of_agent (λ a. first_where (is_dial ticket) a.core.dials ≡ Some y → (d : ℕ) × (x : Dial) × (y.random ≡ pos d) × (nth d ds ≡ Some x) × (x.link ≡ l) × (x.ticket ≡ ticket)) xs l b h
      (λ e. absurd cc) (λ i e. fits.of_ticket l ticket b y i e);
  ticket_once = fits.ticket_once;
  ticket_older = λ d x b h i. of_dial (λ a. x.ticket < a.core.next_ticket) xs ds d x b fits h i (λ a g. fits.ticket_older d x a h g);
  first_ticket = λ l b h. of_agent (λ a. 0 < a.core.next_ticket) xs l b h (omega arith) (λ i. fits.first_ticket l b i);
  ticket_some = λ l ticket b y h. of_agent (λ a. first_where (is_dial ticket) a.core.dials ≡ Some y → ticket ≢ 0) xs l b h (λ e. absurd cc) (λ i e. fits.ticket_some l ticket b y i e);
  tickets_rise = λ l b h. of_agent (λ a. IsRising (λ (y : ListedDial). y.ticket) a.core.dials) xs l b h tt (λ i. fits.tickets_rise l b i);
  up_dry = λ l b h. of_agent (λ a. a.at_server ≡ false → a.up ≡ []) xs l b h (λ e. refl) (λ i. fits.up_dry l b i);
  no_connection = λ l b h. of_agent (λ a. connection_at (pos 0) a.core.connections ≡ None) xs l b h refl (λ i. fits.no_connection l b i);
  dry = fits.dry;
}

-- ---- a dial comes
of_new : (P : Dial → Type 0) (link app : ℕ) (ds : List Dial) (d : ℕ) (x : Dial) → nth d (ds ++ new_dial link app ∷ []) ≡ Some x → P (new_dial link app) → (nth d ds ≡ Some x → P x) → P x
of_new P link app ds d x h own other = at (came_or_was ds (new_dial link app) d x h)
  where
    at : ((d ≡ suc (length ds)) × (x ≡ new_dial link app)) ⊎ (nth d ds ≡ Some x) → P x
    at (inl (i, e)) = subst P (sym e) own
    at (inr i) = other i

pub dial_more_fits : (xs : List Agent) (ds : List Dial) (link app : ℕ) (a : Agent) → nth link xs ≡ Some a → AgentFits xs ds → AgentFits xs (ds ++ new_dial link app ∷ [])
dial_more_fits xs ds link app a there fits = record {
  lost = fits.lost;
  next = fits.next;
  of_connection = λ l c d b h i. let w = fits.of_connection l c d b h i in (w.0, was_still ds (new_dial link app) d w.0 w.1, w.2, w.3);
  connection_of = λ d n x h. of_new (λ y. y.connect_id ≡ pos (suc n) → (b : Agent) × (nth y.link xs ≡ Some b) × (nth (suc n) b.connections ≡ Some d)) link app ds d x h (λ e. absurd cc) (λ i e. fits.connection_of d n x i e);
  connect_id = λ d x h. of_new (λ y. (n : ℕ) × (y.connect_id ≡ pos n)) link app ds d x h (0, refl) (λ i. fits.connect_id d x i);
  link = λ d x h. of_new (λ y. (b : Agent) × (nth y.link xs ≡ Some b)) link app ds d x h (a, there) (λ i. fits.link d x i);
  of_ticket = λ l ticket b y h e. let w = fits.of_ticket l ticket b y h e in (w.0, w.1, w.2, was_still ds (new_dial link app) w.0 w.1 w.3, w.4, w.5);
  ticket_once = λ d e x y h i. of_new (λ z. z.link ≡ y.link → z.ticket ≡ y.ticket → z.ticket ≢ 0 → d ≡ e) link app ds d x h (λ on same some. absurd (some refl))
      (λ g. of_new (λ z. x.link ≡ z.link → x.ticket ≡ z.ticket → x.ticket ≢ 0 → d ≡ e) link app ds e y i (λ on same some. absurd (some same)) (λ k. fits.ticket_once d e x y g k));
  ticket_older = λ d x b h. of_new (λ y. nth y.link xs ≡ Some b → y.ticket < b.core.next_ticket) link app ds d x h (λ i. fits.first_ticket link b i) (λ i g. fits.ticket_older d x b i g);
  first_ticket = fits.first_ticket;
  ticket_some = fits.ticket_some;
  tickets_rise = fits.tickets_rise;
  up_dry = fits.up_dry;
  no_connection = fits.no_connection;
  dry = λ d x h. of_new (λ y. y.connect_id ≡ pos 0 → y.side.coming.waiting ≡ []) link app ds d x h (λ e. refl) (λ i. fits.dry d x i);
}
