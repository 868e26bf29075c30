-- A destination sends, ends, is held or freed: its agent is given what it takes.
use Rattle.std.proofs.Common.{◌≡◌, ◌&&◌, ℕ, ℤ, zero, suc, Bool, true, false, not, List, length, take, Option, Some, None, is_some, refl, sym, ap, ◌∙◌, subst}
use Rattle.std.specs.Option.{option_map}
use Rattle.kn_edge_core.specs.Agent as edge
use Rattle.kn_edge_core.specs.Agent.{dest_bytes}
use Rattle.kn_edge_core.specs.AgentTables.{connection_at}
use Rattle.kn_edge_core.specs.Steps.{AgentStep}
use Rattle.kn_edge_core.specs.declared.agent_event.AgentEvent.{AgentEvent}
use Rattle.kn_edge_core.specs.declared.agent_event.AgentEvent.TheVariants as event
use Rattle.kn_edge_core.specs.declared.connection.Connection.{Connection}
use Rattle.kn_edge_core.specs.declared.connection.DestState.{DestState}
use Rattle.kn_edge_core.specs.declared.connection.DestState.TheVariants.{Lingering, Open}
use Rattle.kn_packets.specs.Keys.{Keys}
use Rattle.kn_packets.specs.Moves.{DestinationHands, DestinationSends, agent_does, dest_is, hands, sends}
use Rattle.kn_packets.proofs.AgentParts.{linked}
use Rattle.kn_world.specs.declared.parts.Agent.{Agent}
use Rattle.kn_world.specs.declared.parts.Dial.{Dial}
use Rattle.kn_world.specs.declared.state.State.{State}
use Rattle.kn_world.specs.AgentSteps.{step}
use Rattle.kn_world.specs.Answering as answering
use Rattle.kn_world.specs.Dials as dials
use Rattle.kn_world.specs.Dials.{state_at}
use Rattle.kn_world.specs.Effects as effects
use Rattle.kn_world.specs.Idle.{can_answer, is_dest_here, there_and}
use Rattle.kn_world.specs.Numbers.{nth}
use Rattle.kn_world.specs.Times.{times}
use Rattle.kn_refinement.specs.Fits.{Fits}
use Rattle.kn_refinement.specs.Leads.{Leads}
use Rattle.kn_refinement.specs.Shown.{cid_if, shown}
use Rattle.kn_refinement.proofs.AgentDials.{stays}
use Rattle.kn_refinement.proofs.AgentDoes.{does_quiet, note_of, step_agent, step_note, step_of}
use Rattle.kn_refinement.proofs.AgentNotes.{dial_fits, dial_hidden, dial_is}
use Rattle.kn_refinement.proofs.AgentQuiet.{Quiet}
use Rattle.kn_refinement.proofs.AgentQuietSteps.{dest_bytes_quiet}
use Rattle.kn_refinement.proofs.AgentShown.{step_is, stepped_agent}
use Rattle.kn_refinement.proofs.Changes.{changed_own}
use Rattle.kn_refinement.proofs.DestMoves.{Joined, dest_event, ends_if_due_leads, joined_live, joined_number, listed_shown, noted, shown_dial, takes_freely_leads}
use Rattle.kn_refinement.proofs.Worlds.{KeysGoOn, leads_none, leads_one, leads_then}

-- ---- a destination that is connected
pub record IsJoined (s : State) (dial : ℕ) : Type 0 where
  pub its : Dial
  pub agent : Agent
  pub connection : Connection
  pub joined : Joined s dial its agent connection

pub joined_if : (s : State) (dial : ℕ) (x : Dial) → Fits s → nth dial s.dials ≡ Some x → is_dest_here x s ≡ true → IsJoined s dial
joined_if s dial x fits at here = by (connection_at x.connect_id (fits.agents.link dial x at).0.core.connections) refl
  where
    by : (o : Option Connection) → connection_at x.connect_id (fits.agents.link dial x at).0.core.connections ≡ o → IsJoined s dial
    by None f =
        let w = fits.agents.link dial x at in
        let no_it : is_dest_here x s ≡ false = ap (λ o. is_some (state_at x.connect_id o)) w.1 ∙ ap (λ o. is_some (option_map (λ (y : Connection). y.state) o)) f in
        absurd (cc (no_it, here))
    by (Some c) f = let w = fits.agents.link dial x at in record { its = x; agent = w.0; connection = c; joined = record { placed = record { at = at; there = w.1 }; found = f } }

pub and_first : (b c : Bool) → (b && c) ≡ true → b ≡ true
and_first true c h = refl
and_first false c h = h

pub answers_joined : (s : State) (dial : ℕ) → Fits s → can_answer dial s ≡ true → IsJoined s dial
answers_joined s dial fits can = here (nth dial s.dials) refl can
  where
    here : (o : Option Dial) → nth dial s.dials ≡ o → there_and (λ d. is_dest_here d s && not d.side.ended) o ≡ true → IsJoined s dial
    here None h k = absurd cc
    here (Some x) h k = joined_if s dial x fits h (and_first (is_dest_here x s) (not x.side.ended) k)

-- ---- the next bytes go to the agent, and it is still connected
handed_fits : (s : State) (dial : ℕ) → Fits s → Fits (noted s dial (dials.handed 16384))
handed_fits s dial fits = dial_fits s dial (dials.handed 16384) fits (λ x. record { link = refl; ticket = refl }) (λ x h. record { link = refl; connect_id = refl; dry = fits.agents.dry dial x h }) (λ x. refl)

bytes_state : (a : Agent) (z : ℤ) (bytes : List ℕ) (c : Connection) → (dest_bytes a.core z bytes (Some c)).state ≡ a.core
bytes_state a z bytes c = by c.state
  where
    by : (st : DestState) → (edge.dest_bytes_by_state a.core z bytes st).state ≡ a.core
    by Open = refl
    by Lingering = refl

pub record Handed (s : State) (dial : ℕ) : Type 0 where
  pub leads : Leads s (answering.hands_piece dial s)
  pub joined : IsJoined (answering.hands_piece dial s) dial

module _ (s : State) (dial : ℕ) (x : Dial) (a : Agent) (c : Connection) (fits : Fits s) (keys : Keys (shown s)) (joined : Joined s dial x a c) where
  abbrev bytes : List ℕ
  bytes = take 16384 x.side.sending.waiting

  abbrev e : AgentEvent
  e = event.DestBytes x.connect_id (take 16384 x.side.sending.waiting)

  abbrev r : AgentStep
  r = dest_bytes a.core x.connect_id (take 16384 x.side.sending.waiting) (Some c)

  abbrev s1 : State
  s1 = noted s dial (dials.handed 16384)

  at1 : nth dial s1.dials ≡ Some (dials.handed 16384 x)
  at1 = changed_own (dials.handed 16384) dial s.dials x joined.placed.at

  is : edge.step a.core e ≡ r
  is = linked a.core e (joined_live s dial x a c keys joined) ∙ ap (dest_bytes a.core x.connect_id bytes) joined.found

  quiet : Quiet a.core r
  quiet = dest_bytes_quiet a.core x.connect_id bytes (Some c)

  piece_leads : Leads s (step x.link dial e s1)
  piece_leads =
      let n = joined_number s dial x a c fits joined in
      let does = does_quiet s1 x.link dial a joined.placed.there (handed_fits s dial fits) e r is quiet (ap (λ k. k.lost) (bytes_state a x.connect_id bytes c)) in
      let now : shown s1 ≡ dest_is dial (hands 16384) (shown s) = dial_is s (dials.handed 16384) (hands 16384) dial x joined.placed.at refl in
      leads_one s (step x.link dial e s1) (DestinationHands dial 16384) does.fits (listed_shown s dial x a c fits joined)
      (dest_event s dial x (suc n.number) (λ z. event.DestBytes z (take 16384 ((shown s).dials dial).side.kept)) (dest_is dial (hands 16384) (shown s)) n.named (ap (λ v. v.link) (shown_dial s dial x joined.placed.at)) (ap (λ v. v.cid) (shown_dial s dial x joined.placed.at))
      ∙ ap (λ v. agent_does x.link (event.DestBytes x.connect_id (take 16384 v.side.kept)) (dest_is dial (hands 16384) (shown s))) (shown_dial s dial x joined.placed.at)
      ∙ ap (agent_does x.link e) (sym now) ∙ sym does.shows)

  piece_joined : IsJoined (step x.link dial e s1) dial
  piece_joined = record {
    its = dials.handed 16384 x;
    agent = stepped_agent dial r a;
    connection = c;
    joined = record {
      placed = record {
        at = ap (λ u. nth dial u.dials) (step_is x.link dial e s1) ∙ changed_own (note_of s1 x.link e) dial s1.dials (dials.handed 16384 x) at1
            ∙ ap Some (step_note s1 x.link dial a joined.placed.there (handed_fits s dial fits) e r is (dials.handed 16384 x) ∙ quiet.notes (dials.handed 16384 x));
        there = ap (λ u. nth x.link u.agents) (step_is x.link dial e s1) ∙ changed_own (step_of s1 x.link dial e) x.link s1.agents a joined.placed.there
            ∙ ap Some (step_agent s1 x.link dial a joined.placed.there (handed_fits s dial fits) e r is);
      };
      found = ap (λ k. connection_at x.connect_id k.connections) (bytes_state a x.connect_id bytes c) ∙ joined.found;
    };
  }

  pub piece_handed : Handed s dial
  piece_handed = record {
    leads = subst (λ o. Leads s (answering.hands_piece_of o dial s)) (sym joined.placed.at) piece_leads;
    joined = subst (λ o. IsJoined (answering.hands_piece_of o dial s) dial) (sym joined.placed.at) piece_joined;
  }

pub hands_piece_leads : (dial : ℕ) (s : State) → Fits s → Keys (shown s) → IsJoined s dial → Handed s dial
hands_piece_leads dial s fits keys it = piece_handed s dial it.its it.agent it.connection fits keys it.joined

pub hands_pieces_lead : KeysGoOn → (dial count : ℕ) (s : State) → Fits s → Keys (shown s) → IsJoined s dial → Leads s (answering.hands_pieces count dial s)
unfolding times
hands_pieces_lead go dial zero s fits keys it = stays s s fits refl
hands_pieces_lead go dial (suc n) s fits keys it =
    let first = hands_piece_leads dial s fits keys it in
    leads_then go s (answering.hands_piece dial s) (answering.hands_pieces n dial (answering.hands_piece dial s)) keys first.leads (λ fit key. hands_pieces_lead go dial n (answering.hands_piece dial s) fit key first.joined)

no_pieces : (dial : ℕ) (s : State) → Fits s → (n : ℕ) → n ≡ 0 → Leads s (answering.hands_pieces n dial s)
unfolding times
no_pieces dial s fits n e = stays s (answering.hands_pieces n dial s) fits (ap (λ m. times m (answering.hands_piece dial) s) e)

-- all that it takes
pub wanted_lead : KeysGoOn → (dial : ℕ) (s : State) → Fits s → Keys (shown s) → Leads s (answering.hands_pieces (answering.count_wanted dial s) dial s)
wanted_lead go dial s fits keys = here (nth dial s.dials) refl
  where
    here : (o : Option Dial) → nth dial s.dials ≡ o → Leads s (answering.hands_pieces (answering.count_wanted dial s) dial s)
    here None h = no_pieces dial s fits (answering.count_wanted dial s) (ap (λ o. answering.count_wanted_of o s.agents) h)
    here (Some x) h = by (connection_at x.connect_id (fits.agents.link dial x h).0.core.connections) refl
      where
        by : (o : Option Connection) → connection_at x.connect_id (fits.agents.link dial x h).0.core.connections ≡ o → Leads s (answering.hands_pieces (answering.count_wanted dial s) dial s)
        by None f =
            let w = fits.agents.link dial x h in
            no_pieces dial s fits (answering.count_wanted dial s)
            (ap (λ o. answering.count_wanted_of o s.agents) h ∙ ap (λ o. answering.wanted_at (state_at x.connect_id o) (length x.side.sending.waiting)) w.1 ∙ ap (λ o. answering.wanted_at (option_map (λ (y : Connection). y.state) o) (length x.side.sending.waiting)) f)
        by (Some c) f =
            let w = fits.agents.link dial x h in
            hands_pieces_lead go dial (answering.count_wanted dial s) s fits keys (record { its = x; agent = w.0; connection = c; joined = record { placed = record { at = h; there = w.1 }; found = f } })

pub settles_leads : KeysGoOn → (dial : ℕ) (s : State) → Fits s → Keys (shown s) → Leads s (answering.settles dial s)
settles_leads go dial s fits keys =
    leads_then go s (answering.hands_pieces (answering.count_wanted dial s) dial s) (answering.settles dial s) keys (wanted_lead go dial s fits keys)
    (λ fit key. ends_if_due_leads dial (answering.hands_pieces (answering.count_wanted dial s) dial s) fit)

-- ---- it sends
pub sent_leads : (bytes : List ℕ) (dial : ℕ) (s : State) → Fits s → IsJoined s dial → Leads s (noted s dial (dials.sent bytes))
sent_leads bytes dial s fits it =
    let p = it.joined.placed in
    let n = joined_number s dial it.its it.agent it.connection fits it.joined in
    leads_one s (noted s dial (dials.sent bytes)) (DestinationSends dial bytes)
    (dial_fits s dial (dials.sent bytes) fits (λ x. record { link = refl; ticket = refl }) (λ x h. record { link = refl; connect_id = refl; dry = fits.agents.dry dial x h }) (λ x. refl))
    (ap (λ v. is_some v.cid) (shown_dial s dial it.its p.at) ∙ ap (λ z. is_some (cid_if z)) n.named)
    (sym (dial_is s (dials.sent bytes) (sends bytes) dial it.its p.at refl))

pub dest_sent_leads : KeysGoOn → (bytes : List ℕ) (dial : ℕ) (s : State) → can_answer dial s ≡ true → Fits s → Keys (shown s) → Leads s (effects.dest_sent bytes dial s)
dest_sent_leads go bytes dial s can fits keys =
    leads_then go s (noted s dial (dials.sent bytes)) (effects.dest_sent bytes dial s) keys (sent_leads bytes dial s fits (answers_joined s dial fits can))
    (λ fit key. settles_leads go dial (noted s dial (dials.sent bytes)) fit key)

-- ---- it ends, is held, takes freely again
pub dest_ended_leads : KeysGoOn → (dial : ℕ) (s : State) → Fits s → Keys (shown s) → Leads s (effects.dest_ended dial s)
dest_ended_leads go dial s fits keys =
    leads_then go s (noted s dial dials.ended) (effects.dest_ended dial s) keys
    (leads_none s (noted s dial dials.ended) (dial_fits s dial dials.ended fits (λ x. record { link = refl; ticket = refl }) (λ x h. record { link = refl; connect_id = refl; dry = fits.agents.dry dial x h }) (λ x. refl)) (sym (dial_hidden s dials.ended dial (λ x h. refl))))
    (λ fit key. settles_leads go dial (noted s dial dials.ended) fit key)

pub holding_leads : (held : Bool) (dial : ℕ) (s : State) → Fits s → Leads s (noted s dial (dials.holding held))
holding_leads held dial s fits = leads_none s (noted s dial (dials.holding held))
    (dial_fits s dial (dials.holding held) fits (λ x. record { link = refl; ticket = refl }) (λ x h. record { link = refl; connect_id = refl; dry = fits.agents.dry dial x h }) (λ x. refl)) (sym (dial_hidden s (dials.holding held) dial (λ x h. refl)))

pub dest_held_leads : (dial : ℕ) (s : State) → Fits s → Leads s (effects.dest_held dial s)
dest_held_leads dial s fits = holding_leads true dial s fits

pub dest_freed_leads : KeysGoOn → (dial : ℕ) (s : State) → Fits s → Keys (shown s) → Leads s (effects.dest_freed dial s)
dest_freed_leads go dial s fits keys =
    leads_then go s (noted s dial (dials.holding false)) (effects.dest_freed dial s) keys (holding_leads false dial s fits) (λ fit key. takes_freely_leads dial (noted s dial (dials.holding false)) fit key)
