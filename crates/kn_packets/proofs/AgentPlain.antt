-- A step of an agent by which no connection comes: each that is left was there, and no connectID is drawn or told.
use Rattle.std.proofs.Common.{◌≡◌, ◌==◌, ℕ, ℤ, Bool, true, false, cond, List, [], ◌∷◌, length, Option, Some, None, refl, ap, ◌∙◌, subst}
use Rattle.std.specs.Prelude.{codes}
use Rattle.kn_packet.specs.declared.packet.Packet.{Packet}
use Rattle.kn_packet.specs.declared.packet.Packet.TheVariants.{CloseReq, CloseRsp, Data, DialCls, DialReq, DialRsp, Drain, Other}
use Rattle.kn_tables.specs.Lists.{first_where, without}
use Rattle.kn_edge_core.specs.Agent as agent
use Rattle.kn_edge_core.specs.Agent.{bytes_by_state, close_by_state, close_requested, connection_ended, connection_turned, data_came, dest_bytes, dest_bytes_by_state, dest_end_by_state, dest_ended, dest_failed, dest_wrote, dest_wrote_by_state, dial_begun, dial_refused, dial_requested, ids_used_up, ignored, is_tcp, link_lost, linked_step, may_dial, packet_came, refusal, tcp_asked, told, unknown_close}
use Rattle.kn_edge_core.specs.AgentTables.{connection_at, is_connection, is_dial, turned, with_fewer, with_more}
use Rattle.kn_edge_core.specs.EntryLists.{changed_where}
use Rattle.kn_edge_core.specs.Steps.{AgentStep}
use Rattle.kn_edge_core.specs.declared.agent_event.AgentEvent.{AgentEvent}
use Rattle.kn_edge_core.specs.declared.agent_event.AgentEvent.TheVariants as at_agent
use Rattle.kn_edge_core.specs.declared.agent_event.AgentOut.{AgentOut}
use Rattle.kn_edge_core.specs.declared.agent_event.AgentOut.TheVariants.{ToServer, Write}
use Rattle.kn_edge_core.specs.declared.agent_state.AgentState.{AgentState}
use Rattle.kn_edge_core.specs.declared.connection.Connection.{Connection}
use Rattle.kn_edge_core.specs.declared.connection.DestState.{DestState}
use Rattle.kn_edge_core.specs.declared.connection.DestState.TheVariants.{Lingering, Open}
use Rattle.kn_edge_core.specs.declared.dial.Dial.{Dial}
use Rattle.kn_packets.specs.Outputs.{cid_drawn, from_agent}
use Rattle.kn_packets.proofs.AgentLosses.{tells_none}
use Rattle.kn_packets.proofs.Tables.{none_without}

-- ---- each that is left was there
abbrev pub Fewer : List Connection → List Connection → Type 0
Fewer old new = (n : ℕ) (x : Connection) → first_where (is_connection n) new ≡ Some x → (y : Connection) × (first_where (is_connection n) old ≡ Some y)

fewer_by : (old new : List Connection) → ((n : ℕ) → first_where (is_connection n) old ≡ None → first_where (is_connection n) new ≡ None) → Fewer old new
fewer_by old new none n x h = here (first_where (is_connection n) old) refl
  where
    here : (o : Option Connection) → first_where (is_connection n) old ≡ o → (y : Connection) × (first_where (is_connection n) old ≡ Some y)
    here (Some y) at = (y, at)
    here None at = let gone : first_where (is_connection n) new ≡ None = none n at in absurd (cc (gone, h))

none_changed : (n m : ℕ) (g : Connection → Connection) → ((c : Connection) → (g c).connect_id ≡ c.connect_id) → (cs : List Connection) → first_where (is_connection m) cs ≡ None → first_where (is_connection m) (changed_where (is_connection n) g cs) ≡ None
none_changed n m g same [] h = refl
none_changed n m g same (c ∷ cs) h = here (is_connection n c) (is_connection m c) refl h (λ l. none_changed n m g same cs l)
  where
    here : (b e : Bool) → is_connection m c ≡ e → cond e (Some c) (first_where (is_connection m) cs) ≡ None
        → (first_where (is_connection m) cs ≡ None → first_where (is_connection m) (changed_where (is_connection n) g cs) ≡ None) → first_where (is_connection m) (cond b (g c) c ∷ changed_where (is_connection n) g cs) ≡ None
    here b true j k later = absurd cc
    here true false j k later = let t : ((g c).connect_id == m) ≡ false = ap (λ z. z == m) (same c) ∙ j in rw t (later k)
    here false false j k later = rw j (later k)

-- ---- a plain step
pub record Plain (a : AgentState) (s : AgentStep) : Type 0 where
  pub fewer : Fewer a.connections s.state.connections
  pub silent : (d : ℕ) (cid : Option ℕ) → cid_drawn d (from_agent s.outs) cid ≡ cid
  pub number : s.state.next_connect_id ≡ a.next_connect_id

all_left : (a : AgentState) (s : AgentStep) → s.state.connections ≡ a.connections → s.state.next_connect_id ≡ a.next_connect_id → ((d : ℕ) (cid : Option ℕ) → cid_drawn d (from_agent s.outs) cid ≡ cid) → Plain a s
all_left a s same number silent = record { fewer = λ n x h. (x, subst (λ xs. first_where (is_connection n) xs ≡ Some x) same h); silent = silent; number = number }

plain_if : (a : AgentState) (b : Bool) (s t : AgentStep) → Plain a s → Plain a t → Plain a (cond b s t)
plain_if a true s t h k = h
plain_if a false s t h k = k

module _ (a : AgentState) where
  nothing : Plain a (ignored a)
  nothing = all_left a (ignored a) refl refl (λ d cid. refl)

  one_left : (s : AgentStep) (n : ℕ) → s.state.connections ≡ without (is_connection n) a.connections → s.state.next_connect_id ≡ a.next_connect_id → ((d : ℕ) (cid : Option ℕ) → cid_drawn d (from_agent s.outs) cid ≡ cid) → Plain a s
  one_left s n is number silent = record { fewer = fewer_by a.connections s.state.connections (λ m none. rw is (none_without (is_connection m) (is_connection n) a.connections none)); silent = silent; number = number }

  one_changed : (s : AgentStep) (n : ℕ) (g : Connection → Connection) → ((c : Connection) → (g c).connect_id ≡ c.connect_id) → s.state.connections ≡ changed_where (is_connection n) g a.connections
      → s.state.next_connect_id ≡ a.next_connect_id → ((d : ℕ) (cid : Option ℕ) → cid_drawn d (from_agent s.outs) cid ≡ cid) → Plain a s
  one_changed s n g same is number silent = record { fewer = fewer_by a.connections s.state.connections (λ m none. rw is (none_changed n m g same a.connections none)); silent = silent; number = number }

  -- ---- the rules
  ended : (z : ℤ) (x : Connection) (error : List ℕ) → Plain a (connection_ended a z x error)
  ended z x error = one_left (connection_ended a z x error) x.connect_id refl refl (λ d cid. refl)

  turns : (x : Connection) (g : Connection → Connection) → ((c : Connection) → (g c).connect_id ≡ c.connect_id) → (outs : List AgentOut) → from_agent outs ≡ [] → Plain a (connection_turned a x g outs)
  turns x g same outs none = one_changed (connection_turned a x g outs) x.connect_id g same refl refl (λ d cid. rw none refl)

  asks : (protocol address : List ℕ) (random : ℤ) → Plain a (dial_requested a protocol address random)
  asks protocol address random = plain_if a (is_tcp protocol) (tcp_asked a address random) (told a (refusal (codes "unsupported protocol") random ∷ []))
      (plain_if a (may_dial a) (dial_begun a address random) (told a (refusal (codes "too many connections") random ∷ [])) (all_left a (dial_begun a address random) refl refl (λ d cid. refl))
      (all_left a (told a (refusal (codes "too many connections") random ∷ [])) refl refl (λ d cid. refl)))
      (all_left a (told a (refusal (codes "unsupported protocol") random ∷ [])) refl refl (λ d cid. refl))

  data_at : (z : ℤ) (bytes : List ℕ) (o : Option Connection) → Plain a (data_came a z bytes o)
  data_at z bytes None = nothing
  data_at z bytes (Some x) = by_state x.state
    where
      by_state : (s : DestState) → Plain a (bytes_by_state a z bytes x s)
      by_state Open = turns x (with_more (length bytes)) (λ c. refl) (Write z bytes ∷ []) refl
      by_state Lingering = nothing

  close_at : (z : ℤ) (o : Option Connection) → Plain a (close_requested a z o)
  close_at z None = all_left a (unknown_close a z) refl refl (λ d cid. refl)
  close_at z (Some x) = by_state x.state
    where
      by_state : (s : DestState) → Plain a (close_by_state a z x s)
      by_state Open = plain_if a (x.unwritten == 0) (connection_ended a z x []) (connection_turned a x (turned Lingering) []) (ended z x []) (turns x (turned Lingering) (λ c. refl) [] refl)
      by_state Lingering = nothing

  pub packet_plain : (p : Packet) → Plain a (packet_came a p)
  packet_plain (DialReq protocol address random) = asks protocol address random
  packet_plain (Data z error bytes) = data_at z bytes (connection_at z a.connections)
  packet_plain (CloseReq z) = close_at z (connection_at z a.connections)
  packet_plain (DialRsp error z random) = nothing
  packet_plain (CloseRsp error z) = nothing
  packet_plain (DialCls random) = nothing
  packet_plain Drain = nothing
  packet_plain (Other number) = nothing

  bytes_at : (z : ℤ) (bytes : List ℕ) (o : Option Connection) → Plain a (dest_bytes a z bytes o)
  bytes_at z bytes None = nothing
  bytes_at z bytes (Some x) = by_state x.state
    where
      by_state : (s : DestState) → Plain a (dest_bytes_by_state a z bytes s)
      by_state Open = all_left a (dest_bytes_by_state a z bytes Open) refl refl (λ d cid. refl)
      by_state Lingering = nothing

  end_at : (z : ℤ) (o : Option Connection) → Plain a (dest_ended a z o)
  end_at z None = nothing
  end_at z (Some x) = by_state x.state
    where
      by_state : (s : DestState) → Plain a (dest_end_by_state a z x s)
      by_state Open = ended z x []
      by_state Lingering = nothing

  wrote_at : (z : ℤ) (count : ℕ) (o : Option Connection) → Plain a (dest_wrote a z count o)
  wrote_at z count None = nothing
  wrote_at z count (Some x) = by_state x.state
    where
      fewer_bytes : Plain a (connection_turned a x (with_fewer count) [])
      fewer_bytes = turns x (with_fewer count) (λ c. refl) [] refl

      by_state : (s : DestState) → Plain a (dest_wrote_by_state a z count x s)
      by_state Open = fewer_bytes
      by_state Lingering = plain_if a (x.unwritten == count) (connection_ended a z x []) (connection_turned a x (with_fewer count) []) (ended z x []) fewer_bytes

  fail_at : (z : ℤ) (o : Option Connection) → Plain a (dest_failed a z o)
  fail_at z None = nothing
  fail_at z (Some x) = ended z x (codes "destination failed")

  refused_at : (o : Option Dial) → Plain a (dial_refused a o)
  refused_at None = nothing
  refused_at (Some x) = all_left a (dial_refused a (Some x)) refl refl (λ d cid. refl)

  pub used_plain : (x : Dial) → Plain a (ids_used_up a x)
  used_plain x = all_left a (ids_used_up a x) refl refl (λ d cid. refl)

  pub ignored_plain : Plain a (ignored a)
  ignored_plain = nothing

  lost_plain : Plain a (link_lost a)
  lost_plain = record { fewer = λ n x h. absurd cc; silent = λ d cid. rw (tells_none a.dials a.connections) refl; number = refl }

  -- ---- the events, all but that a dial won its connection
  abbrev pub IsPlain : AgentEvent → Type 0
  IsPlain (at_agent.DialUp ticket) = ⊥
  IsPlain (at_agent.Packet p) = Unit {0}
  IsPlain (at_agent.DialRefused ticket) = Unit {0}
  IsPlain (at_agent.DestBytes z bytes) = Unit {0}
  IsPlain (at_agent.DestEnd z) = Unit {0}
  IsPlain (at_agent.DestWrote z count) = Unit {0}
  IsPlain (at_agent.DestFailed z) = Unit {0}
  IsPlain at_agent.LinkLost = Unit {0}
  IsPlain at_agent.DrainNow = Unit {0}

  linked_plain : (e : AgentEvent) → IsPlain e → Plain a (linked_step a e)
  linked_plain (at_agent.DialUp ticket) h = absurd h
  linked_plain (at_agent.Packet p) h = packet_plain p
  linked_plain (at_agent.DialRefused ticket) h = refused_at (first_where (is_dial ticket) a.dials)
  linked_plain (at_agent.DestBytes z bytes) h = bytes_at z bytes (connection_at z a.connections)
  linked_plain (at_agent.DestEnd z) h = end_at z (connection_at z a.connections)
  linked_plain (at_agent.DestWrote z count) h = wrote_at z count (connection_at z a.connections)
  linked_plain (at_agent.DestFailed z) h = fail_at z (connection_at z a.connections)
  linked_plain at_agent.LinkLost h = lost_plain
  linked_plain at_agent.DrainNow h = plain_if a a.drained (ignored a) (record { state = record a { drained = true }; outs = ToServer Drain ∷ [] }) nothing
      (all_left a (record { state = record a { drained = true }; outs = ToServer Drain ∷ [] }) refl refl (λ d cid. refl))

  pub step_plain : (e : AgentEvent) → IsPlain e → Plain a (agent.step a e)
  step_plain e h = plain_if a a.lost (ignored a) (linked_step a e) nothing (linked_plain e h)
