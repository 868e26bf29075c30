-- How agents and dials fit each other goes on where one agent and one dial change, and not what names them: by their tickets, and by their connections.
use Rattle.std.proofs.Common.{◌≡◌, ◌≢◌, ◌<◌, ◌+◌, ℕ, suc, pos, false, not, List, [], Some, None, length, refl, sym, ap, ◌∙◌, arith}
use Rattle.kn_tables.specs.Lists.{IsRising, first_where}
use Rattle.kn_edge_core.specs.AgentTables.{connection_at, is_dial}
use Rattle.kn_edge_core.specs.declared.dial.Dial.{Dial as ListedDial}
use Rattle.kn_world.specs.declared.parts.Agent.{Agent}
use Rattle.kn_world.specs.declared.parts.Dial.{Dial}
use Rattle.kn_world.specs.Numbers.{change, nth}
use Rattle.kn_refinement.specs.Fits.{AgentFits}
use Rattle.kn_refinement.proofs.Changes.{back, forth}

-- ---- what stays of an agent and of a dial
pub record KeptTickets (a b : Agent) : Type 0 where
  pub next_ticket : b.core.next_ticket ≡ a.core.next_ticket
  pub dials : (ticket : ℕ) (y : ListedDial) → first_where (is_dial ticket) b.core.dials ≡ Some y → first_where (is_dial ticket) a.core.dials ≡ Some y
  pub rise : IsRising (λ (y : ListedDial). y.ticket) b.core.dials

pub record KeptConnections (a b : Agent) : Type 0 where
  pub lost : b.at_agent ≡ not b.core.lost
  pub next : b.core.next_connect_id ≡ a.core.next_connect_id
  pub connections : b.connections ≡ a.connections
  pub none : connection_at (pos 0) b.core.connections ≡ None
  pub up_dry : b.at_server ≡ false → b.up ≡ []

pub record KeptTicket (x y : Dial) : Type 0 where
  pub link : y.link ≡ x.link
  pub ticket : y.ticket ≡ x.ticket

pub record KeptConnection (x y : Dial) : Type 0 where
  pub link : y.link ≡ x.link
  pub connect_id : y.connect_id ≡ x.connect_id
  pub dry : x.connect_id ≡ pos 0 → y.side.coming.waiting ≡ []

-- ---- the two halves of how they fit
pub record TicketFits (agents : List Agent) (dials : List Dial) : Type 0 where
  pub of_ticket : (l ticket : ℕ) (a : Agent) (y : ListedDial) → nth l agents ≡ Some a → first_where (is_dial ticket) a.core.dials ≡ Some y
      → (d : ℕ) × (x : Dial) × (y.random ≡ pos d) × (nth d dials ≡ Some x) × (x.link ≡ l) × (x.ticket ≡ ticket)
  pub ticket_once : (d e : ℕ) (x y : Dial) → nth d dials ≡ Some x → nth e dials ≡ Some y → x.link ≡ y.link → x.ticket ≡ y.ticket → x.ticket ≢ 0 → d ≡ e
  pub ticket_older : (d : ℕ) (x : Dial) (a : Agent) → nth d dials ≡ Some x → nth x.link agents ≡ Some a → x.ticket < a.core.next_ticket
  pub first_ticket : (l : ℕ) (a : Agent) → nth l agents ≡ Some a → 0 < a.core.next_ticket
  pub ticket_some : (l ticket : ℕ) (a : Agent) (y : ListedDial) → nth l agents ≡ Some a → first_where (is_dial ticket) a.core.dials ≡ Some y → ticket ≢ 0
  pub tickets_rise : (l : ℕ) (a : Agent) → nth l agents ≡ Some a → IsRising (λ (y : ListedDial). y.ticket) a.core.dials

pub record ConnectionFits (agents : List Agent) (dials : List Dial) : Type 0 where
  pub lost : (l : ℕ) (a : Agent) → nth l agents ≡ Some a → a.at_agent ≡ not a.core.lost
  pub next : (l : ℕ) (a : Agent) → nth l agents ≡ Some a → a.core.next_connect_id ≡ length a.connections + 1
  pub of_connection : (l c d : ℕ) (a : Agent) → nth l agents ≡ Some a → nth c a.connections ≡ Some d → (x : Dial) × (nth d dials ≡ Some x) × (x.link ≡ l) × (x.connect_id ≡ pos c)
  pub connection_of : (d n : ℕ) (x : Dial) → nth d dials ≡ Some x → x.connect_id ≡ pos (suc n) → (a : Agent) × (nth x.link agents ≡ Some a) × (nth (suc n) a.connections ≡ Some d)
  pub connect_id : (d : ℕ) (x : Dial) → nth d dials ≡ Some x → (n : ℕ) × (x.connect_id ≡ pos n)
  pub link : (d : ℕ) (x : Dial) → nth d dials ≡ Some x → (a : Agent) × (nth x.link agents ≡ Some a)
  pub up_dry : (l : ℕ) (a : Agent) → nth l agents ≡ Some a → a.at_server ≡ false → a.up ≡ []
  pub no_connection : (l : ℕ) (a : Agent) → nth l agents ≡ Some a → connection_at (pos 0) a.core.connections ≡ None
  pub dry : (d : ℕ) (x : Dial) → nth d dials ≡ Some x → x.connect_id ≡ pos 0 → x.side.coming.waiting ≡ []

pub fits_by : (xs : List Agent) (ds : List Dial) → TicketFits xs ds → ConnectionFits xs ds → AgentFits xs ds
fits_by xs ds t c = record {
  lost = c.lost;
  next = c.next;
  of_connection = c.of_connection;
  connection_of = c.connection_of;
  connect_id = c.connect_id;
  link = c.link;
  of_ticket = t.of_ticket;
  ticket_once = t.ticket_once;
  ticket_older = t.ticket_older;
  first_ticket = t.first_ticket;
  ticket_some = t.ticket_some;
  tickets_rise = t.tickets_rise;
  up_dry = c.up_dry;
  no_connection = c.no_connection;
  dry = c.dry;
}

older_as : (m n p q : ℕ) → m < n → p ≡ m → q ≡ n → p < q
older_as m n p q h e f = omega (arith, h, e, f)

module _ (xs : List Agent) (ds : List Dial) (fits : AgentFits xs ds) where
  pub same_connections : (l : ℕ) (a : Agent) → nth l xs ≡ Some a → KeptConnections a a
  same_connections l a h = record { lost = fits.lost l a h; next = refl; connections = refl; none = fits.no_connection l a h; up_dry = fits.up_dry l a h }

  pub same_tickets : (l : ℕ) (a : Agent) → nth l xs ≡ Some a → KeptTickets a a
  same_tickets l a h = record { next_ticket = refl; dials = λ t y e. e; rise = fits.tickets_rise l a h }

  pub same_connection : (d : ℕ) (x : Dial) → nth d ds ≡ Some x → KeptConnection x x
  same_connection d x h = record { link = refl; connect_id = refl; dry = fits.dry d x h }

  pub same_ticket : (d : ℕ) (x : Dial) → nth d ds ≡ Some x → KeptTicket x x
  same_ticket d x h = record { link = refl; ticket = refl }

  module _ (link dial : ℕ) (f : Agent → Agent) (g : Dial → Dial) where
    module _ (own : (a : Agent) → nth link xs ≡ Some a → KeptTickets a (f a)) (its : (x : Dial) → nth dial ds ≡ Some x → KeptTicket x (g x)) where
      agent_back : (l : ℕ) (b : Agent) → nth l (change f link xs) ≡ Some b → (a : Agent) × (nth l xs ≡ Some a) × KeptTickets a b
      agent_back = back KeptTickets f link xs own same_tickets

      dial_back : (d : ℕ) (y : Dial) → nth d (change g dial ds) ≡ Some y → (x : Dial) × (nth d ds ≡ Some x) × KeptTicket x y
      dial_back = back KeptTicket g dial ds its same_ticket

      dial_forth : (d : ℕ) (x : Dial) → nth d ds ≡ Some x → (y : Dial) × (nth d (change g dial ds) ≡ Some y) × KeptTicket x y
      dial_forth = forth KeptTicket g dial ds its same_ticket

      pub tickets_fit : TicketFits (change f link xs) (change g dial ds)
      tickets_fit = record {
        of_ticket = λ l ticket b y h e.
            let w = agent_back l b h in
            let old = fits.of_ticket l ticket w.0 y w.1 (w.2.dials ticket y e) in
            let v = dial_forth old.0 old.1 old.3 in
            (old.0, v.0, old.2, v.1, v.2.link ∙ old.4, v.2.ticket ∙ old.5);
        ticket_once = λ d e y z hy hz le te some.
            let u = dial_back d y hy in
            let v = dial_back e z hz in
            fits.ticket_once d e u.0 v.0 u.1 v.1 (sym u.2.link ∙ le ∙ v.2.link) (sym u.2.ticket ∙ te ∙ v.2.ticket) (λ zero. some (u.2.ticket ∙ zero));
        ticket_older = λ d y b hy hb.
            let u = dial_back d y hy in
            let w = agent_back y.link b hb in
            older_as u.0.ticket w.0.core.next_ticket y.ticket b.core.next_ticket (fits.ticket_older d u.0 w.0 u.1 (ap (λ i. nth i xs) (sym u.2.link) ∙ w.1)) u.2.ticket w.2.next_ticket;
        first_ticket = λ l b h. let w = agent_back l b h in older_as 0 w.0.core.next_ticket 0 b.core.next_ticket (fits.first_ticket l w.0 w.1) refl w.2.next_ticket;
        ticket_some = λ l ticket b y h e. let w = agent_back l b h in fits.ticket_some l ticket w.0 y w.1 (w.2.dials ticket y e);
        tickets_rise = λ l b h. (agent_back l b h).2.rise;
      }

    module _ (own : (a : Agent) → nth link xs ≡ Some a → KeptConnections a (f a)) (its : (x : Dial) → nth dial ds ≡ Some x → KeptConnection x (g x)) where
      holder_back : (l : ℕ) (b : Agent) → nth l (change f link xs) ≡ Some b → (a : Agent) × (nth l xs ≡ Some a) × KeptConnections a b
      holder_back = back KeptConnections f link xs own same_connections

      agent_forth : (l : ℕ) (a : Agent) → nth l xs ≡ Some a → (b : Agent) × (nth l (change f link xs) ≡ Some b) × KeptConnections a b
      agent_forth = forth KeptConnections f link xs own same_connections

      won_back : (d : ℕ) (y : Dial) → nth d (change g dial ds) ≡ Some y → (x : Dial) × (nth d ds ≡ Some x) × KeptConnection x y
      won_back = back KeptConnection g dial ds its same_connection

      won_forth : (d : ℕ) (x : Dial) → nth d ds ≡ Some x → (y : Dial) × (nth d (change g dial ds) ≡ Some y) × KeptConnection x y
      won_forth = forth KeptConnection g dial ds its same_connection

      pub connections_fit : ConnectionFits (change f link xs) (change g dial ds)
      connections_fit = record {
        lost = λ l b h. (holder_back l b h).2.lost;
        next = λ l b h. let w = holder_back l b h in w.2.next ∙ fits.next l w.0 w.1 ∙ ap (λ ys. length ys + 1) (sym w.2.connections);
        of_connection = λ l c d b h hc.
            let w = holder_back l b h in
            let old = fits.of_connection l c d w.0 w.1 (ap (λ ys. nth c ys) (sym w.2.connections) ∙ hc) in
            let v = won_forth d old.0 old.1 in
            (v.0, v.1, v.2.link ∙ old.2, v.2.connect_id ∙ old.3);
        connection_of = λ d n y h e.
            let v = won_back d y h in
            let old = fits.connection_of d n v.0 v.1 (sym v.2.connect_id ∙ e) in
            let w = agent_forth v.0.link old.0 old.1 in
            (w.0, ap (λ i. nth i (change f link xs)) v.2.link ∙ w.1, ap (λ ys. nth (suc n) ys) w.2.connections ∙ old.2);
        connect_id = λ d y h. let v = won_back d y h in let old = fits.connect_id d v.0 v.1 in (old.0, v.2.connect_id ∙ old.1);
        link = λ d y h. let v = won_back d y h in let old = fits.link d v.0 v.1 in let w = agent_forth v.0.link old.0 old.1 in (w.0, ap (λ i. nth i (change f link xs)) v.2.link ∙ w.1);
        up_dry = λ l b h. (holder_back l b h).2.up_dry;
        no_connection = λ l b h. (holder_back l b h).2.none;
        dry = λ d y h none. let v = won_back d y h in v.2.dry (sym v.2.connect_id ∙ none);
      }
