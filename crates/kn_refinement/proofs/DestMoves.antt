-- What a destination does by one event of its agent: it takes bytes, hands some, ends or fails.
use Rattle.std.proofs.Common.{◌≡◌, ◌≤◌, ◌==◌, ℕ, ℤ, pos, negsuc, zero, suc, min, Bool, true, false, not, [], if◌then◌else◌, length, drop, Option, Some, None, is_some, refl, sym, ap, ◌∙◌, subst, append-nil, arith}
use Rattle.std.specs.Option.{option_map}
use Rattle.kn_tables.specs.Lists.{first_where}
use Rattle.kn_edge_core.specs.Agent as edge
use Rattle.kn_edge_core.specs.Agent.{dest_bytes, dest_ended, dest_failed, dest_wrote, ignored, linked_step}
use Rattle.kn_edge_core.specs.AgentTables.{connection_at, is_connection, with_fewer}
use Rattle.kn_edge_core.specs.declared.agent_event.AgentEvent.{AgentEvent}
use Rattle.kn_edge_core.specs.declared.agent_event.AgentEvent.TheVariants as event
use Rattle.kn_edge_core.specs.declared.connection.Connection.{Connection}
use Rattle.kn_edge_core.specs.declared.connection.DestState.{DestState}
use Rattle.kn_edge_core.specs.declared.connection.DestState.TheVariants.{Lingering, Open}
use Rattle.kn_packets.specs.Keys.{Keys}
use Rattle.kn_packets.specs.Moves.{DestinationEnds, DestinationFails, DestinationWrote, agent_does, cid_number, dest_does, dest_far_in, dest_is, gets}
use Rattle.kn_packets.specs.World.{World, connection_far, dest_far, far_of}
use Rattle.kn_packets.proofs.AgentParts.{linked}
use Rattle.kn_tunnel.specs.Kinds.{is_listed}
use Rattle.kn_world.specs.declared.parts.Agent.{Agent}
use Rattle.kn_world.specs.declared.parts.Dial.{Dial}
use Rattle.kn_world.specs.declared.state.State.{State}
use Rattle.kn_world.specs.AgentSteps as steps
use Rattle.kn_world.specs.AgentSteps.{step}
use Rattle.kn_world.specs.Answering as answering
use Rattle.kn_world.specs.Dials as dials
use Rattle.kn_world.specs.Dials.{state_at, unwritten_at}
use Rattle.kn_world.specs.Effects as effects
use Rattle.kn_world.specs.Numbers.{change, nth, or_none}
use Rattle.kn_refinement.specs.Fits.{Fits}
use Rattle.kn_refinement.specs.Leads.{Leads}
use Rattle.kn_refinement.specs.Shown.{agent_of, cid_if, dial_of, link_of, number_if, shown, side_of}
use Rattle.kn_refinement.proofs.AgentDials.{by_link, stays}
use Rattle.kn_refinement.proofs.AgentDoes.{does_lost, does_nothing, does_quiet}
use Rattle.kn_refinement.proofs.AgentNotes.{dial_fits, dial_hidden, dial_is}
use Rattle.kn_refinement.proofs.AgentQuietSteps.{dest_ended_quiet, dest_failed_quiet, dest_wrote_quiet}
use Rattle.kn_refinement.proofs.Changes.{changed_own}
use Rattle.kn_refinement.proofs.Worlds.{leads_none, leads_one, sides_same}

-- ---- a dial, with its agent
pub record Placed (s : State) (dial : ℕ) (x : Dial) (a : Agent) : Type 0 where
  pub at : nth dial s.dials ≡ Some x
  pub there : nth x.link s.agents ≡ Some a

-- its destination is connected
pub record Joined (s : State) (dial : ℕ) (x : Dial) (a : Agent) (c : Connection) : Type 0 where
  pub placed : Placed s dial x a
  pub found : connection_at x.connect_id a.core.connections ≡ Some c

-- ---- its connectID
number_is : (z : ℤ) (n : ℕ) → z ≡ pos n → cid_number (cid_if z) ≡ z
number_is z n e = subst (λ y. cid_number (cid_if y) ≡ y) (sym e) (here n)
  where
    here : (m : ℕ) → cid_number (number_if m) ≡ pos m
    here zero = refl
    here (suc m) = refl

pub record Number (x : Dial) : Type 0 where
  pub number : ℕ
  pub named : x.connect_id ≡ pos (suc number)

pub joined_number : (s : State) (dial : ℕ) (x : Dial) (a : Agent) (c : Connection) → Fits s → Joined s dial x a c → Number x
joined_number s dial x a c fits joined = let n = fits.agents.connect_id dial x joined.placed.at in here n.0 n.1
  where
    here : (n : ℕ) → x.connect_id ≡ pos n → Number x
    here zero e =
        let none : connection_at x.connect_id a.core.connections ≡ None = ap (λ z. connection_at z a.core.connections) e ∙ fits.agents.no_connection x.link a joined.placed.there in
        absurd (cc (none, joined.found))
    here (suc m) e = record { number = m; named = e }

-- ---- as it is shown
pub shown_dial : (s : State) (dial : ℕ) (x : Dial) → nth dial s.dials ≡ Some x → (shown s).dials dial ≡ dial_of s.agents (Some x)
shown_dial s dial x at = ap (dial_of s.agents) at

-- the event of a destination is that of its agent
pub dest_event : (s : State) (dial : ℕ) (x : Dial) (n : ℕ) (ev : ℤ → AgentEvent) (w : World) → x.connect_id ≡ pos n → (w.dials dial).link ≡ x.link → (w.dials dial).cid ≡ cid_if x.connect_id → dest_does dial ev w ≡ agent_does x.link (ev x.connect_id) w
dest_event s dial x n ev w e link cid = ap (λ l. agent_does l (ev (cid_number (w.dials dial).cid)) w) link ∙ ap (λ c. agent_does x.link (ev (cid_number c)) w) cid ∙ ap (λ z. agent_does x.link (ev z) w) (number_is x.connect_id n e)

-- a destination that is connected is on its agent's list
pub listed_shown : (s : State) (dial : ℕ) (x : Dial) (a : Agent) (c : Connection) → Fits s → Joined s dial x a c → is_listed (dest_far_in (shown s) dial) ≡ true
listed_shown s dial x a c fits joined =
    let n = joined_number s dial x a c fits joined in
    let p = joined.placed in
    ap (λ v. is_listed (far_of dial v.cid ((shown s).agents v.link) ((shown s).links v.link).down)) (shown_dial s dial x p.at)
    ∙ ap (λ o. is_listed (far_of dial (cid_if x.connect_id) (agent_of o) (link_of o).down)) p.there
    ∙ ap (λ z. is_listed (far_of dial (cid_if z) a.core a.down)) n.named
    ∙ ap (λ o. is_listed (connection_far o)) (sym (ap (λ z. connection_at z a.core.connections) n.named) ∙ joined.found)
    ∙ by c.state
  where
    by : (st : DestState) → is_listed (dest_far st) ≡ true
    by Open = refl
    by Lingering = refl

-- an agent with a connection has its link
pub joined_live : (s : State) (dial : ℕ) (x : Dial) (a : Agent) (c : Connection) → Keys (shown s) → Joined s dial x a c → not a.core.lost ≡ true
joined_live s dial x a c keys joined = here a.core.lost refl
  where
    nothing : (z : ℤ) → connection_at z [] ≡ None
    nothing (pos n) = refl
    nothing (negsuc n) = refl

    here : (b : Bool) → a.core.lost ≡ b → not b ≡ true
    here false e = refl
    here true e =
        let empty : a.core.connections ≡ [] = sym (ap (λ o. (agent_of o).connections) joined.placed.there) ∙ (keys.agents.lost x.link (ap (λ o. (agent_of o).lost) joined.placed.there ∙ e)).1 in
        let none : connection_at x.connect_id a.core.connections ≡ None = ap (λ cs. connection_at x.connect_id cs) empty ∙ nothing x.connect_id in
        absurd (cc (none, joined.found))

-- ---- before the event the dial's notes change
abbrev pub noted : State → ℕ → (Dial → Dial) → State
noted s dial q = record s { dials = change q dial s.dials }

pub noted_placed : (s : State) (dial : ℕ) (x : Dial) (a : Agent) (q : Dial → Dial) → (q x).link ≡ x.link → Placed s dial x a → Placed (noted s dial q) dial (q x) a
noted_placed s dial x a q link p = record { at = changed_own q dial s.dials x p.at; there = ap (λ l. nth l s.agents) link ∙ p.there }

-- ---- it fails
pub dest_failed_leads : (dial : ℕ) (s : State) → Fits s → Leads s (effects.dest_failed dial s)
dest_failed_leads dial s fits = here (nth dial s.dials) refl
  where
    by : (x : Dial) (a : Agent) → Placed s dial x a → not a.core.lost ≡ true → (o : Option Connection) → connection_at x.connect_id a.core.connections ≡ o → Leads s (step x.link dial (event.DestFailed x.connect_id) s)
    by x a p has None f = stays s (step x.link dial (event.DestFailed x.connect_id) s) fits (does_nothing s x.link dial a p.there fits (event.DestFailed x.connect_id) (linked a.core (event.DestFailed x.connect_id) has ∙ ap (dest_failed a.core x.connect_id) f))
    by x a p has (Some c) f =
        let n = fits.agents.connect_id dial x p.at in
        let does = does_quiet s x.link dial a p.there fits (event.DestFailed x.connect_id) (dest_failed a.core x.connect_id (Some c)) (linked a.core (event.DestFailed x.connect_id) has ∙ ap (dest_failed a.core x.connect_id) f) (dest_failed_quiet a.core x.connect_id (Some c)) refl in
        leads_one s (step x.link dial (event.DestFailed x.connect_id) s) (DestinationFails dial) does.fits (listed_shown s dial x a c fits (record { placed = p; found = f }))
        (dest_event s dial x n.0 (λ z. event.DestFailed z) (shown s) n.1 (ap (λ v. v.link) (shown_dial s dial x p.at)) (ap (λ v. v.cid) (shown_dial s dial x p.at)) ∙ sym does.shows)

    here : (o : Option Dial) → nth dial s.dials ≡ o → Leads s (effects.dest_failed_of o dial s)
    here None h = stays s s fits refl
    here (Some x) h =
        let w = fits.agents.link dial x h in
        by_link s x.link dial w.0 (event.DestFailed x.connect_id) fits w.1 (λ has. by x w.0 (record { at = h; there = w.1 }) has (connection_at x.connect_id w.0.core.connections) refl)

-- ---- it is told that it ended
told_fits : (s : State) (dial : ℕ) → Fits s → Fits (noted s dial dials.end_told)
told_fits s dial fits = dial_fits s dial dials.end_told fits (λ x. record { link = refl; ticket = refl }) (λ x h. record { link = refl; connect_id = refl; dry = fits.agents.dry dial x h }) (λ x. refl)

ended_lost : (a : Agent) (z : ℤ) (c : Option Connection) → (dest_ended a.core z c).state.lost ≡ a.core.lost
ended_lost a z None = refl
ended_lost a z (Some c) = by c.state
  where
    by : (st : DestState) → (edge.dest_end_by_state a.core z c st).state.lost ≡ a.core.lost
    by Open = refl
    by Lingering = refl

pub gives_end_leads : (dial : ℕ) (s : State) → Fits s → Leads s (answering.gives_end dial s)
gives_end_leads dial s fits = here (nth dial s.dials) refl
  where
    hidden : shown (noted s dial dials.end_told) ≡ shown s
    hidden = dial_hidden s dials.end_told dial (λ x h. refl)

    still : (u : State) → u ≡ noted s dial dials.end_told → Leads s u
    still u e = leads_none s u (subst Fits (sym e) (told_fits s dial fits)) (sym hidden ∙ ap shown (sym e))

    by : (x : Dial) (a : Agent) → Placed s dial x a → not a.core.lost ≡ true → (o : Option Connection) → connection_at x.connect_id a.core.connections ≡ o → Leads s (step x.link dial (event.DestEnd x.connect_id) (noted s dial dials.end_told))
    by x a p has None f = still _ (does_nothing (noted s dial dials.end_told) x.link dial a p.there (told_fits s dial fits) (event.DestEnd x.connect_id) (linked a.core (event.DestEnd x.connect_id) has ∙ ap (dest_ended a.core x.connect_id) f))
    by x a p has (Some c) f =
        let n = fits.agents.connect_id dial x p.at in
        let does = does_quiet (noted s dial dials.end_told) x.link dial a p.there (told_fits s dial fits) (event.DestEnd x.connect_id) (dest_ended a.core x.connect_id (Some c)) (linked a.core (event.DestEnd x.connect_id) has ∙ ap (dest_ended a.core x.connect_id) f) (dest_ended_quiet a.core x.connect_id (Some c)) (ended_lost a x.connect_id (Some c)) in
        leads_one s (step x.link dial (event.DestEnd x.connect_id) (noted s dial dials.end_told)) (DestinationEnds dial) does.fits (listed_shown s dial x a c fits (record { placed = p; found = f }))
        (dest_event s dial x n.0 (λ z. event.DestEnd z) (shown s) n.1 (ap (λ v. v.link) (shown_dial s dial x p.at)) (ap (λ v. v.cid) (shown_dial s dial x p.at)) ∙ ap (agent_does x.link (event.DestEnd x.connect_id)) (sym hidden) ∙ sym does.shows)

    lost : (x : Dial) (a : Agent) → Placed s dial x a → (b : Bool) → a.core.lost ≡ b → Leads s (step x.link dial (event.DestEnd x.connect_id) (noted s dial dials.end_told))
    lost x a p true e = still _ (does_lost (noted s dial dials.end_told) x.link dial a p.there (told_fits s dial fits) (event.DestEnd x.connect_id) e)
    lost x a p false e = by x a p (ap not e) (connection_at x.connect_id a.core.connections) refl

    here : (o : Option Dial) → nth dial s.dials ≡ o → Leads s (answering.gives_end_of o dial s)
    here None h = stays s s fits refl
    here (Some x) h = let w = fits.agents.link dial x h in lost x w.0 (record { at = h; there = w.1 }) w.0.core.lost refl

pub ends_if_due_leads : (dial : ℕ) (s : State) → Fits s → Leads s (answering.ends_if_due dial s)
ends_if_due_leads dial s fits = here (answering.is_end_due dial s)
  where
    here : (b : Bool) → Leads s (if b then answering.gives_end dial s else s)
    here true = gives_end_leads dial s fits
    here false = stays s s fits refl

-- ---- it takes bytes
few : (n m : ℕ) → min n m ≤ m
few n m = omega arith

no_min : (n : ℕ) → min n 0 ≡ 0
no_min n = omega arith

drop_none : (n : ℕ) → drop {A = ℕ} n [] ≡ []
drop_none zero = refl
drop_none (suc n) = refl

took_fits : (s : State) (dial n : ℕ) → Fits s → Fits (noted s dial (dials.took n))
took_fits s dial n fits = dial_fits s dial (dials.took n) fits (λ x. record { link = refl; ticket = refl })
    (λ x h. record { link = refl; connect_id = refl; dry = λ none. ap (drop n) (fits.agents.dry dial x h none) ∙ drop_none n }) (λ x. refl)

took_side : (there : Option DestState) (n : ℕ) (x : Dial) → is_some there ≡ true → side_of there (dials.took n x).side ≡ gets n (side_of there x.side)
took_side None n x some = absurd cc
took_side (Some st) n x some = refl

took_none : (there : Option DestState) (x : Dial) → side_of there (dials.took 0 x).side ≡ side_of there x.side
took_none None x = sides_same _ _ refl refl refl (append-nil x.side.coming.passed)
took_none (Some st) x = sides_same _ _ refl refl refl (append-nil x.side.coming.passed)

wrote_lost : (a : Agent) (z : ℤ) (n : ℕ) (c : Connection) → (dest_wrote a.core z n (Some c)).state.lost ≡ a.core.lost
wrote_lost a z n c = by c.state
  where
    by_last : (b : Bool) → (if b then edge.connection_ended a.core z c [] else edge.connection_turned a.core c (with_fewer n) []).state.lost ≡ a.core.lost
    by_last true = refl
    by_last false = refl

    by : (st : DestState) → (edge.dest_wrote_by_state a.core z n c st).state.lost ≡ a.core.lost
    by Open = refl
    by Lingering = by_last (c.unwritten == n)

-- so many of those that are to be written, at most
pub wrote_leads : (s : State) (dial n : ℕ) (x : Dial) (a : Agent) (c : Connection) → Fits s → Keys (shown s) → Joined s dial x a c → n ≤ c.unwritten → Leads s (steps.wrote x.link dial x.connect_id n s)
wrote_leads s dial n x a c fits keys joined few =
    let p = joined.placed in
    let number = joined_number s dial x a c fits joined in
    let has = joined_live s dial x a c keys joined in
    let now : shown (noted s dial (dials.took n)) ≡ dest_is dial (gets n) (shown s) = dial_is s (dials.took n) (gets n) dial x p.at (ap (λ g. record (dial_of s.agents (Some x)) { side = g }) (took_side (state_at x.connect_id (nth x.link s.agents)) n x (state_some p.there joined.found))) in
    let does = does_quiet (noted s dial (dials.took n)) x.link dial a p.there (took_fits s dial n fits) (event.DestWrote x.connect_id n) (dest_wrote a.core x.connect_id n (Some c)) (linked a.core (event.DestWrote x.connect_id n) has ∙ ap (dest_wrote a.core x.connect_id n) joined.found) (dest_wrote_quiet a.core x.connect_id n (Some c)) (wrote_lost a x.connect_id n c) in
    leads_one s (steps.wrote x.link dial x.connect_id n s) (DestinationWrote dial n) does.fits
    (listed_shown s dial x a c fits joined, le_as n c.unwritten (length ((shown s).dials dial).side.unwritten) few (counted number p))
    (dest_event s dial x (suc number.number) (λ z. event.DestWrote z n) (dest_is dial (gets n) (shown s)) number.named (ap (λ v. v.link) (shown_dial s dial x p.at)) (ap (λ v. v.cid) (shown_dial s dial x p.at)) ∙ ap (agent_does x.link (event.DestWrote x.connect_id n)) (sym now) ∙ sym does.shows)
  where
    state_some : nth x.link s.agents ≡ Some a → connection_at x.connect_id a.core.connections ≡ Some c → is_some (state_at x.connect_id (nth x.link s.agents)) ≡ true
    state_some there found = ap (λ o. is_some (state_at x.connect_id o)) there ∙ ap (λ o. is_some (option_map (λ (y : Connection). y.state) o)) found

    le_as : (i j k : ℕ) → i ≤ j → j ≡ k → i ≤ k
    le_as i j k h e = omega (arith, h, e)

    counted : Number x → Placed s dial x a → c.unwritten ≡ length ((shown s).dials dial).side.unwritten
    counted number p = keys.agents.unwritten dial (suc number.number) c (ap (λ v. v.cid) (shown_dial s dial x p.at) ∙ ap cid_if number.named)
        (ap (λ l. first_where (is_connection (suc number.number)) ((shown s).agents l).connections) (ap (λ v. v.link) (shown_dial s dial x p.at)) ∙ ap (λ o. first_where (is_connection (suc number.number)) (agent_of o).connections) p.there ∙ sym (ap (λ z. connection_at z a.core.connections) number.named) ∙ joined.found)

-- at most so many
pub takes_leads : (dial count : ℕ) (s : State) → Fits s → Keys (shown s) → Leads s (steps.takes dial count s)
takes_leads dial count s fits keys = here (nth dial s.dials) refl
  where
    none_left : (u : State) → u ≡ noted s dial (dials.took 0) → Leads s u
    none_left u e = leads_none s u (subst Fits (sym e) (took_fits s dial 0 fits)) (sym (dial_hidden s (dials.took 0) dial (λ y h. ap (λ g. record (dial_of s.agents (Some y)) { side = g }) (took_none (state_at y.connect_id (nth y.link s.agents)) y))) ∙ ap shown (sym e))

    nothing : (x : Dial) (a : Agent) → Placed s dial x a → connection_at x.connect_id a.core.connections ≡ None → (b : Bool) → a.core.lost ≡ b → Leads s (steps.wrote x.link dial x.connect_id 0 s)
    nothing x a p f true e = none_left _ (does_lost (noted s dial (dials.took 0)) x.link dial a p.there (took_fits s dial 0 fits) (event.DestWrote x.connect_id 0) e)
    nothing x a p f false e = none_left _ (does_nothing (noted s dial (dials.took 0)) x.link dial a p.there (took_fits s dial 0 fits) (event.DestWrote x.connect_id 0) (linked a.core (event.DestWrote x.connect_id 0) (ap not e) ∙ ap (dest_wrote a.core x.connect_id 0) f))

    by : (x : Dial) (a : Agent) → Placed s dial x a → (o : Option Connection) → connection_at x.connect_id a.core.connections ≡ o → Leads s (steps.wrote x.link dial x.connect_id (min count (unwritten_at x.connect_id (nth x.link s.agents))) s)
    by x a p None f =
        let zero_it : min count (unwritten_at x.connect_id (nth x.link s.agents)) ≡ 0 = ap (λ o. min count (unwritten_at x.connect_id o)) p.there ∙ ap (λ o. min count (or_none (option_map (λ (y : Connection). y.unwritten) o))) f ∙ no_min count in
        subst (λ n. Leads s (steps.wrote x.link dial x.connect_id n s)) (sym zero_it) (nothing x a p f a.core.lost refl)
    by x a p (Some c) f =
        let count_is : unwritten_at x.connect_id (nth x.link s.agents) ≡ c.unwritten = ap (unwritten_at x.connect_id) p.there ∙ ap (λ o. or_none (option_map (λ (y : Connection). y.unwritten) o)) f in
        subst (λ n. Leads s (steps.wrote x.link dial x.connect_id (min count n) s)) (sym count_is) (wrote_leads s dial (min count c.unwritten) x a c fits keys (record { placed = p; found = f }) (few count c.unwritten))

    here : (o : Option Dial) → nth dial s.dials ≡ o → Leads s (steps.takes_of o dial count s)
    here None h = stays s s fits refl
    here (Some x) h = let w = fits.agents.link dial x h in by x w.0 (record { at = h; there = w.1 }) (connection_at x.connect_id w.0.core.connections) refl

-- all there is, unless it is held
pub takes_freely_leads : (dial : ℕ) (s : State) → Fits s → Keys (shown s) → Leads s (steps.takes_freely dial s)
takes_freely_leads dial s fits keys = here (steps.is_free dial s)
  where
    here : (b : Bool) → Leads s (if b then steps.takes dial 18446744073709551615 s else s)
    here true = takes_leads dial 18446744073709551615 s fits keys
    here false = stays s s fits refl
