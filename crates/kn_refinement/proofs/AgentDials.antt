-- A dial of an agent is won, or fails.
use Rattle.std.proofs.Common.{◌≡◌, ℕ, ℤ, pos, zero, suc, Bool, true, false, not, cond, Option, Some, None, refl, sym, ap, ◌∙◌, subst}
use Rattle.std.specs.Prelude.{nat_lt}
use Rattle.kn_tables.specs.Lists.{first_where}
use Rattle.kn_server_core.specs.Isolation.{Each}
use Rattle.kn_edge_core.specs.Agent as edge
use Rattle.kn_edge_core.specs.Agent.{connection_opened, dial_refused, dial_up, ids_used_up}
use Rattle.kn_edge_core.specs.AgentTables.{is_dial}
use Rattle.kn_edge_core.specs.declared.agent_event.AgentEvent.{AgentEvent}
use Rattle.kn_edge_core.specs.declared.agent_event.AgentEvent.TheVariants as event
use Rattle.kn_edge_core.specs.declared.dial.Dial.{Dial as ListedDial}
use Rattle.kn_packets.specs.Keys.{Keys, MakesDial}
use Rattle.kn_packets.specs.Moves.{DialFailed, DialWon}
use Rattle.kn_packets.proofs.AgentDials.{each_found}
use Rattle.kn_packets.proofs.AgentParts.{linked}
use Rattle.kn_world.specs.declared.parts.Agent.{Agent}
use Rattle.kn_world.specs.declared.parts.Dial.{Dial}
use Rattle.kn_world.specs.declared.state.State.{State}
use Rattle.kn_world.specs.AgentSteps.{step}
use Rattle.kn_world.specs.Effects as effects
use Rattle.kn_world.specs.Numbers.{nth}
use Rattle.kn_refinement.specs.Fits.{Fits}
use Rattle.kn_refinement.specs.Leads.{Leads}
use Rattle.kn_refinement.specs.Shown.{agent_of, cid_if, dial_of, number_if, shown}
use Rattle.kn_refinement.proofs.AgentDoes.{Does, does_by, does_lost, does_quiet, tickets_kept}
use Rattle.kn_refinement.proofs.AgentOpened.{opened_connections, opened_on_link, opened_tickets}
use Rattle.kn_refinement.proofs.AgentQuietSteps.{failed_quiet, ignored_quiet, used_up_quiet}
use Rattle.kn_refinement.proofs.Worlds.{leads_none, leads_one}

-- ---- a step leads by the move that is the same event, where the agent has its link
pub stays : (s t : State) → Fits s → t ≡ s → Leads s t
stays s t fits same = leads_none s t (subst Fits (sym same) fits) (ap shown (sym same))

-- a step, whether or not the agent has its link
pub by_link : (s : State) (link dial : ℕ) (a : Agent) (e : AgentEvent) → Fits s → nth link s.agents ≡ Some a → (not a.core.lost ≡ true → Leads s (step link dial e s)) → Leads s (step link dial e s)
by_link s link dial a e fits there has = here a.core.lost refl
  where
    here : (b : Bool) → a.core.lost ≡ b → Leads s (step link dial e s)
    here true h = stays s (step link dial e s) fits (does_lost s link dial a there fits e h)
    here false h = has (ap not h)

-- the agent as it is shown
pub lost_shown : (s : State) (link : ℕ) (a : Agent) → nth link s.agents ≡ Some a → not a.core.lost ≡ true → not ((shown s).agents link).lost ≡ true
lost_shown s link a there has = ap (λ o. not (agent_of o).lost) there ∙ has

-- ---- whose dial a ticket is
pub record Made (s : State) (link dial : ℕ) (y : ListedDial) (x : Dial) : Type 0 where
  pub named : y.random ≡ pos dial
  pub undrawn : x.connect_id ≡ pos 0

undrawn_is : (z : ℤ) (n : ℕ) → z ≡ pos n → cid_if z ≡ None → z ≡ pos 0
undrawn_is z n e none = e ∙ ap pos (here n (sym (ap cid_if e) ∙ none))
  where
    here : (m : ℕ) → number_if m ≡ None → m ≡ 0
    here zero h = refl
    here (suc m) h = absurd cc

-- a dial that an agent makes
pub random_undrawn : (s : State) (link d : ℕ) (a : Agent) (t : ℕ) (y : ListedDial) (x : Dial) → Fits s → Keys (shown s) → nth link s.agents ≡ Some a → first_where (is_dial t) a.core.dials ≡ Some y → y.random ≡ pos d → nth d s.dials ≡ Some x → x.connect_id ≡ pos 0
random_undrawn s link d a t y x fits keys there f named h =
    let all : Each (λ (z : ListedDial). MakesDial (shown s) link z.random) a.core.dials = subst (λ o. Each (λ (z : ListedDial). MakesDial (shown s) link z.random) (agent_of o).dials) there (keys.agents.dials link) in
    let made = each_found (λ (z : ListedDial). MakesDial (shown s) link z.random) (is_dial t) a.core.dials y all f in
    let same : made.dial ≡ d = of_pos made.dial d (sym made.asked ∙ named) in
    let number = fits.agents.connect_id d x h in
    undrawn_is x.connect_id number.0 number.1 (sym (ap (λ o. (dial_of s.agents o).cid) h) ∙ ap (λ i. (dial_of s.agents (nth i s.dials)).cid) (sym same) ∙ made.undrawn)
  where
    of_pos : (m n : ℕ) → pos m ≡ pos n → m ≡ n
    of_pos m n e = cc

pub made_of : (s : State) (dial : ℕ) (a : Agent) (y : ListedDial) (x : Dial) → Fits s → Keys (shown s) → nth dial s.dials ≡ Some x → nth x.link s.agents ≡ Some a → first_where (is_dial x.ticket) a.core.dials ≡ Some y → Made s x.link dial y x
made_of s dial a y x fits keys h there f =
    let w = fits.agents.of_ticket x.link x.ticket a y there f in
    let same : dial ≡ w.0 = fits.agents.ticket_once dial w.0 x w.1 h w.3 (sym w.4) (sym w.5) (fits.agents.ticket_some x.link x.ticket a y there f) in
    record { named = w.2 ∙ ap pos (sym same); undrawn = random_undrawn s x.link dial a x.ticket y x fits keys there f (w.2 ∙ ap pos (sym same)) h }

-- ---- it fails
refused_quiet : (s : State) (dial : ℕ) (a : Agent) (x : Dial) → Fits s → nth x.link s.agents ≡ Some a → not a.core.lost ≡ true → Does s x.link dial (event.DialRefused x.ticket)
refused_quiet s dial a x fits there has = here (first_where (is_dial x.ticket) a.core.dials) refl
  where
    here : (o : Option ListedDial) → first_where (is_dial x.ticket) a.core.dials ≡ o → Does s x.link dial (event.DialRefused x.ticket)
    here None f = does_quiet s x.link dial a there fits (event.DialRefused x.ticket) _ (linked a.core (event.DialRefused x.ticket) has ∙ ap (dial_refused a.core) f) (ignored_quiet a.core) refl
    here (Some y) f = does_quiet s x.link dial a there fits (event.DialRefused x.ticket) _ (linked a.core (event.DialRefused x.ticket) has ∙ ap (dial_refused a.core) f) (failed_quiet a.core y) refl

pub dial_refused_leads : (dial : ℕ) (s : State) → Fits s → Leads s (effects.dial_refused dial s)
dial_refused_leads dial s fits = here (nth dial s.dials) refl
  where
    here : (o : Option Dial) → nth dial s.dials ≡ o → Leads s (effects.dial_refused_of o dial s)
    here None h = stays s s fits refl
    here (Some x) h =
        let w = fits.agents.link dial x h in
        by_link s x.link dial w.0 (event.DialRefused x.ticket) fits w.1 (λ has.
        let does = refused_quiet s dial w.0 x fits w.1 has in
        leads_one s (step x.link dial (event.DialRefused x.ticket) s) (DialFailed x.link x.ticket) does.fits (lost_shown s x.link w.0 w.1 has) (sym does.shows))

-- ---- it is won
opened_does : (s : State) (dial : ℕ) (a : Agent) (x : Dial) (y : ListedDial) → Fits s → (h : nth dial s.dials ≡ Some x) (there : nth x.link s.agents ≡ Some a) → edge.step a.core (event.DialUp x.ticket) ≡ connection_opened a.core y → Made s x.link dial y x → Does s x.link dial (event.DialUp x.ticket)
opened_does s dial a x y fits h there is made = does_by s x.link dial a there fits (event.DialUp x.ticket) (connection_opened a.core y) is
    (opened_on_link s x.link dial a there fits.agents y x h refl made.named made.undrawn)
    (tickets_kept s x.link dial a there fits (event.DialUp x.ticket) (connection_opened a.core y) (opened_tickets s x.link dial a there fits.agents y x h refl made.named made.undrawn) (λ z k. record { link = refl; ticket = refl }))
    (λ f g fa ga. opened_connections s x.link dial a there fits.agents y x h refl made.named made.undrawn f g fa (ga x))

won_does : (s : State) (dial : ℕ) (a : Agent) (x : Dial) → Fits s → Keys (shown s) → nth dial s.dials ≡ Some x → nth x.link s.agents ≡ Some a → not a.core.lost ≡ true → Does s x.link dial (event.DialUp x.ticket)
won_does s dial a x fits keys h there has = here (first_where (is_dial x.ticket) a.core.dials) refl
  where
    by : (y : ListedDial) → first_where (is_dial x.ticket) a.core.dials ≡ Some y → (b : Bool) → edge.step a.core (event.DialUp x.ticket) ≡ cond b (connection_opened a.core y) (ids_used_up a.core y) → Does s x.link dial (event.DialUp x.ticket)
    by y f true is = opened_does s dial a x y fits h there is (made_of s dial a y x fits keys h there f)
    by y f false is = does_quiet s x.link dial a there fits (event.DialUp x.ticket) (ids_used_up a.core y) is (used_up_quiet a.core y) refl

    here : (o : Option ListedDial) → first_where (is_dial x.ticket) a.core.dials ≡ o → Does s x.link dial (event.DialUp x.ticket)
    here None f = does_quiet s x.link dial a there fits (event.DialUp x.ticket) _ (linked a.core (event.DialUp x.ticket) has ∙ ap (dial_up a.core) f) (ignored_quiet a.core) refl
    here (Some y) f = by y f (nat_lt a.core.next_connect_id 9223372036854775807) (linked a.core (event.DialUp x.ticket) has ∙ ap (dial_up a.core) f)

pub dial_won_leads : (dial : ℕ) (s : State) → Fits s → Keys (shown s) → Leads s (effects.dial_won dial s)
dial_won_leads dial s fits keys = here (nth dial s.dials) refl
  where
    here : (o : Option Dial) → nth dial s.dials ≡ o → Leads s (effects.dial_won_of o dial s)
    here None h = stays s s fits refl
    here (Some x) h =
        let w = fits.agents.link dial x h in
        by_link s x.link dial w.0 (event.DialUp x.ticket) fits w.1 (λ has.
        let does = won_does s dial w.0 x fits keys h w.1 has in
        leads_one s (step x.link dial (event.DialUp x.ticket) s) (DialWon x.link x.ticket) does.fits (lost_shown s x.link w.0 w.1 has) (sym does.shows))
