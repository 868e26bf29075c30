-- What steps keep: the greatest number of a connection, the server's number, and the sides of connections that are not stirred.
use Rattle.std.proofs.Common.{◌≡◌, ℕ, ◌==◌, Bool, true, false, cond, List, [], ◌∷◌, ◌++◌, refl, sym, ap, subst, ◌∙◌, Option, Some, None}
use Rattle.std.proofs.lemmas.Bool.{ne_eqb}
use Rattle.kn_packet.specs.declared.packet.Packet.{Packet}
use Rattle.kn_h2_state.specs.declared.event.H2Event.{H2Event}
use Rattle.kn_h2_state.specs.declared.event.H2Event.TheVariants.{Opened, Head, Text, Ended, Reset, Away, Closed}
use Rattle.kn_edge_core.specs.declared.agent_event.AgentEvent.{AgentEvent}
use Rattle.kn_edge_core.specs.declared.agent_event.AgentEvent.TheVariants as agent_event
use Rattle.kn_edge_core.specs.declared.agent_event.AgentOut.{AgentOut}
use Rattle.kn_edge_core.specs.declared.agent_event.AgentOut.TheVariants.{ToServer, Dial, Write, CloseDest, DropDial}
use Rattle.kn_edge_core.specs.Agent as agent
use Rattle.kn_rising.specs.Members.{Members, AreMembers, at, change, without, inserted}
use Rattle.kn_rising.specs.Stirring.{is_stirred}
use Rattle.kn_agent_node.specs.declared.arrival.Arrival.{Arrival}
use Rattle.kn_agent_node.specs.declared.arrival.Arrival.TheVariants as arrivals
use Rattle.kn_agent_node.specs.declared.dialling.Dialling.{Dialling}
use Rattle.kn_agent_node.specs.declared.dialling.Dialling.TheVariants.{Listed, HandedOut, Began}
use Rattle.kn_agent_node.specs.declared.purpose.Purpose.{Purpose}
use Rattle.kn_agent_node.specs.declared.purpose.Purpose.TheVariants.{Dials, Carries}
use Rattle.kn_agent_node.specs.declared.side.Side.{Side}
use Rattle.kn_agent_node.specs.declared.node.Node.{Node}
use Rattle.kn_agent_node.specs.Nodes.{stir, stirred_at, with_more, written_at, closed_at, conn_of, waits_behind, dial_dropped, output, outputs, after_core, event}
use Rattle.kn_agent_node.specs.Steps as step
use Rattle.kn_agent_node.specs.Steps.{Step, Makes, after_step}
use Rattle.kn_agent_node.specs.Calls as call
use Rattle.kn_agent_node.specs.Calls.{Called, called, entered, top_after, Handling}
use Rattle.kn_agent_node.specs.Answers.{out_of, shuts_of, Stirs}
use Rattle.kn_agent_node.proofs.OthersLemmas.{Paired, Leaves, change_leaves, without_leaves, inserted_leaves}
use Rattle.kn_agent_node.proofs.StirLemmas.{stirred_before, stirred_newest, still_stirred, is_other}

-- ---- sides

-- one that is not stirred was not before, and its side is the same
abbrev pub KeepsSides : List ℕ → Members Side → List ℕ → Members Side → Type 0
KeepsSides ns old ms new = Paired old → Paired new × ((c : ℕ) → is_stirred c ms ≡ false → (is_stirred c ns ≡ false) × (at new c ≡ at old c))

sides_stay : (ns : List ℕ) (sides : Members Side) → KeepsSides ns sides ns sides
sides_stay ns sides p = (p, λ c off. (off, refl))

sides_more : (ns ms ks : List ℕ) (a b c : Members Side) → KeepsSides ns a ms b → KeepsSides ms b ks c → KeepsSides ns a ks c
sides_more ns ms ks a b c first later p =
    let one = first p in
    let two = later one.0 in
    (two.0, λ n off. (let last = two.1 n off in let front = one.1 n last.0 in (front.0, last.1 ∙ front.1)))

-- the side of one that is stirred may change
own_keeps : (ns : List ℕ) (n : ℕ) (a b : Members Side) → is_stirred n ns ≡ true → Leaves n a b → KeepsSides ns a ns b
own_keeps ns n a b on leaves p = let left = leaves p in (left.0, λ c off. (off, left.1 c (is_other n c ns on off)))

newest_keeps : (ns : List ℕ) (n : ℕ) (a b : Members Side) → Leaves n a b → KeepsSides ns a (ns ++ n ∷ []) b
newest_keeps ns n a b leaves p =
    let left = leaves p in
    (left.0, λ c off. (stirred_before c n ns off, left.1 c (is_other n c (ns ++ n ∷ []) (stirred_newest n ns) off)))

written_keeps : (conn : Option ℕ) (bytes ns : List ℕ) (sides : Members Side) → KeepsSides ns sides (stirred_at conn ns) (written_at conn bytes sides)
written_keeps None bytes ns sides = sides_stay ns sides
written_keeps (Some conn) bytes ns sides = newest_keeps ns conn sides (change sides conn (with_more bytes)) (change_leaves sides conn (with_more bytes))

closed_keeps : (conn : Option ℕ) (ns : List ℕ) (sides : Members Side) → KeepsSides ns sides (stirred_at conn ns) (closed_at conn sides)
closed_keeps None ns sides = sides_stay ns sides
closed_keeps (Some conn) ns sides = newest_keeps ns conn sides (without sides conn) (without_leaves sides conn)

-- ---- nodes

abbrev pub Keeps : Node → Node → Type 0
Keeps old new = (new.top ≡ old.top) × (new.server ≡ old.server) × KeepsSides old.stirred old.sides new.stirred new.sides

keeps_itself : (node : Node) → Keeps node node
keeps_itself node = (refl, refl, sides_stay node.stirred node.sides)

keeps_more : (a b c : Node) → Keeps a b → Keeps b c → Keeps a c
keeps_more a b c first later =
    (later.0 ∙ first.0, later.1 ∙ first.1, sides_more a.stirred b.stirred c.stirred a.sides b.sides c.sides first.2 later.2)

keeps_either : (b : Bool) (node x y : Node) → Keeps node x → Keeps node y → Keeps node (cond b x y)
keeps_either true node x y p q = p
keeps_either false node x y p q = q

stir_keeps : (conn : ℕ) (node : Node) → Keeps node (stir conn node)
stir_keeps conn node = (refl, refl, newest_keeps node.stirred conn node.sides node.sides (λ p. (p, λ c other. refl)))

-- ---- an event of the core

dropped_keeps : (ticket : ℕ) (found : Option Dialling) (node : Node) → Keeps node (dial_dropped ticket found node)
dropped_keeps ticket None node = keeps_itself node
dropped_keeps ticket (Some Listed) node = keeps_itself node
dropped_keeps ticket (Some HandedOut) node = keeps_itself node
dropped_keeps ticket (Some (Began conn)) node = (refl, refl, newest_keeps node.stirred conn node.sides (without node.sides conn) (without_leaves node.sides conn))

output_keeps : (node : Node) (o : AgentOut) → Keeps node (output node o)
unfolding output
output_keeps node (ToServer p) = keeps_either (waits_behind node) node _ _ (keeps_itself node) (keeps_itself node)
output_keeps node (Dial ticket address) = keeps_itself node
output_keeps node (Write id bytes) = (refl, refl, written_keeps (conn_of node id) bytes node.stirred node.sides)
output_keeps node (CloseDest id) = (refl, refl, closed_keeps (conn_of node id) node.stirred node.sides)
output_keeps node (DropDial ticket) = dropped_keeps ticket (at node.by_ticket ticket) node

outputs_keep : (os : List AgentOut) (node : Node) → Keeps node (outputs node os)
outputs_keep [] node = keeps_itself node
outputs_keep (o ∷ os) node = keeps_more node (output node o) (outputs (output node o) os) (output_keeps node o) (outputs_keep os (output node o))

pub event_keeps : (e : AgentEvent) (node : Node) → Keeps node (event e node)
unfolding event
event_keeps e node = outputs_keep (agent.step node.core e).outs (after_core (agent.step node.core e).state node)

after_event : (e : AgentEvent) (old node : Node) → Keeps old node → Keeps old (event e node)
after_event e old node kept = keeps_more old node (event e node) kept (event_keeps e node)

-- ---- steps

handle_keeps : (a : Arrival) (node : Node) → Keeps node (step.handle a node)
unfolding step.handle
handle_keeps arrivals.End node = keeps_itself node
handle_keeps (arrivals.Packet p) node = event_keeps _ _
handle_keeps arrivals.Bad node = keeps_itself node

front_keeps : (a : Option Arrival) (node : Node) → Keeps node (step.handle_front a node)
front_keeps None node = keeps_itself node
front_keeps (Some a) node = handle_keeps a node

heard_keeps : (e : H2Event) (node : Node) → Keeps node (step.heard e node)
unfolding step.heard
heard_keeps (Opened s fields) node = keeps_itself node
heard_keeps (Head s fields) node = keeps_itself node
heard_keeps (Text s) node = keeps_itself node
heard_keeps (Ended s) node = keeps_itself node
heard_keeps (Reset s code) node = keeps_itself node
heard_keeps (Away code) node = keeps_itself node
heard_keeps (Closed code) node = keeps_itself node

hear_keeps : (es : List H2Event) (node : Node) → Keeps node (step.hear es node)
unfolding step.hear
hear_keeps [] node = keeps_itself node
hear_keeps (e ∷ es) node = heard_keeps e (step.with_events es node)

lose_keeps : (node : Node) → Keeps node (step.lose node)
unfolding step.lose
lose_keeps node = event_keeps _ _

admit_keeps : (behind : List (List ℕ)) (node : Node) → Keeps node (step.admit behind node)
unfolding step.admit
admit_keeps [] node = keeps_itself node
admit_keeps (bytes ∷ behind) node = keeps_itself node

step_keeps : (node : Node) (s : Step) → Keeps node (after_step node s)
unfolding after_step
step_keeps node step.Follow = lose_keeps node
step_keeps node step.Hear = hear_keeps (step.events_of node) node
step_keeps node step.Handle = front_keeps (step.arrival node) node
step_keeps node step.Admit = admit_keeps node.behind node
step_keeps node (step.Write m) = keeps_itself node

pub makes_keep : (ss : List Step) (old new : Node) → Makes old ss new → Keeps old new
makes_keep [] old new made = subst (λ n. Keeps old n) (sym made) (keeps_itself old)
makes_keep (s ∷ ss) old new made = keeps_more old (after_step old s) new (step_keeps old s) (makes_keep ss (after_step old s) new made.1)

-- ---- calls, whose own connections are stirred

abbrev pub IsOwn : ℕ → Node → Type 0
IsOwn conn node = is_stirred conn node.stirred ≡ true

bytes_keep : (server : Bool) (conn : ℕ) (piece : List ℕ) (node : Node) → Keeps node (call.bytes_by server conn piece node)
bytes_keep true conn piece node = keeps_itself node
bytes_keep false conn piece node = by_purpose (call.purpose_at (at node.sides conn))
  where
    by_purpose : (p : Option Purpose) → Keeps node (call.bytes_for piece p node)
    by_purpose None = keeps_itself node
    by_purpose (Some (Dials ticket)) = keeps_itself node
    by_purpose (Some (Carries id)) = event_keeps _ _

took_keeps : (server : Bool) (conn count : ℕ) (node : Node) → IsOwn conn node → Keeps node (call.took_by server conn count node)
took_keeps true conn count node own = keeps_itself node
took_keeps false conn count node own = by_purpose (call.purpose_at (at node.sides conn))
  where
    by_purpose : (p : Option Purpose) → Keeps node (call.took_for conn count p node)
    by_purpose None = keeps_itself node
    by_purpose (Some (Dials ticket)) = keeps_itself node
    by_purpose (Some (Carries id)) =
        after_event (agent_event.DestWrote id count) node (record node { sides = change node.sides conn (call.without_first count) })
        (refl, refl, own_keeps node.stirred conn node.sides (change node.sides conn (call.without_first count)) own (change_leaves node.sides conn (call.without_first count)))

failed_keeps : (conn ticket : ℕ) (node : Node) → IsOwn conn node → Keeps node (call.dial_failed conn ticket node)
failed_keeps conn ticket node own =
    after_event (agent_event.DialRefused ticket) node (record node { sides = without node.sides conn; by_ticket = without node.by_ticket ticket })
    (refl, refl, own_keeps node.stirred conn node.sides (without node.sides conn) own (without_leaves node.sides conn))

server_keeps : (gone : Bool) (node : Node) → Keeps node (call.server_lost gone node)
server_keeps true node = keeps_itself node
server_keeps false node = keeps_itself node

ended_keeps : (server : Bool) (conn : ℕ) (node : Node) → IsOwn conn node → Keeps node (call.ended_by server conn node)
ended_keeps true conn node own = server_keeps (call.has_gone node) node
ended_keeps false conn node own = by_purpose (call.purpose_at (at node.sides conn))
  where
    by_purpose : (p : Option Purpose) → Keeps node (call.ended_for conn p node)
    by_purpose None = keeps_itself node
    by_purpose (Some (Dials ticket)) = failed_keeps conn ticket node own
    by_purpose (Some (Carries id)) = event_keeps _ _

lost_keeps : (server : Bool) (conn : ℕ) (node : Node) → IsOwn conn node → Keeps node (call.lost_by server conn node)
lost_keeps true conn node own = server_keeps (call.has_gone node) node
lost_keeps false conn node own = by_purpose (call.purpose_at (at node.sides conn))
  where
    by_purpose : (p : Option Purpose) → Keeps node (call.lost_for conn p node)
    by_purpose None = keeps_itself node
    by_purpose (Some (Dials ticket)) = failed_keeps conn ticket node own
    by_purpose (Some (Carries id)) = event_keeps _ _

began_keeps : (found : Option Dialling) (ticket conn : ℕ) (node : Node) → IsOwn conn node → Keeps node (call.began_at found ticket conn node)
began_keeps None ticket conn node own = keeps_itself node
began_keeps (Some Listed) ticket conn node own = keeps_itself node
began_keeps (Some HandedOut) ticket conn node own = by_wanted (call.is_wanted node ticket)
  where
    by_wanted : (b : Bool) → Keeps node (call.begun b ticket conn node)
    by_wanted true = (refl, refl, own_keeps node.stirred conn node.sides (inserted node.sides conn (call.new_side ticket)) own (inserted_leaves node.sides conn (call.new_side ticket)))
    by_wanted false = keeps_itself node
began_keeps (Some (Began other)) ticket conn node own = keeps_itself node

not_begun_keeps : (found : Option Dialling) (ticket : ℕ) (node : Node) → Keeps node (call.not_begun_at found ticket node)
not_begun_keeps None ticket node = keeps_itself node
not_begun_keeps (Some Listed) ticket node = keeps_itself node
not_begun_keeps (Some HandedOut) ticket node = event_keeps _ _
not_begun_keeps (Some (Began other)) ticket node = keeps_itself node

drawn_keeps : (left : Bool) (conn ticket : ℕ) (node : Node) → IsOwn conn node → Keeps node (call.drawn left conn ticket node)
drawn_keeps true conn ticket node own = (refl, refl, own_keeps node.stirred conn node.sides (change node.sides conn (call.carrying node.core.next_connect_id)) own (change_leaves node.sides conn (call.carrying node.core.next_connect_id)))
drawn_keeps false conn ticket node own = keeps_itself node

dialled_keeps : (up : Bool) (conn : ℕ) (purpose : Option Purpose) (node : Node) → IsOwn conn node → Keeps node (call.dialled_for up conn purpose node)
dialled_keeps up conn None node own = keeps_itself node
dialled_keeps true conn (Some (Dials ticket)) node own =
    after_event (agent_event.DialUp ticket) node (call.drawn (call.has_id_left node) conn ticket node) (drawn_keeps (call.has_id_left node) conn ticket node own)
dialled_keeps false conn (Some (Dials ticket)) node own = failed_keeps conn ticket node own
dialled_keeps up conn (Some (Carries id)) node own = keeps_itself node

own_stirred : (conn : ℕ) (node : Node) → IsOwn conn (stir conn node)
own_stirred conn node = stirred_newest conn node.stirred

-- the node that a call finds; a connection that begins has the greatest number
abbrev pub found_by : Called → Node → Node
found_by c node = record (entered c node) { top = top_after c node }

called_keeps : (c : Called) (node : Node) → Keeps (found_by c node) (called c (entered c node))
unfolding called
called_keeps (call.Bytes conn piece) node = let n = entered (call.Bytes conn piece) node in bytes_keep (call.is_server n conn) conn piece n
called_keeps (call.Took conn count) node =
    let n = entered (call.Took conn count) node in took_keeps (call.is_server n conn) conn count n (own_stirred conn (stir node.server node))
called_keeps (call.Ended conn) node =
    let n = entered (call.Ended conn) node in ended_keeps (call.is_server n conn) conn n (own_stirred conn (stir node.server node))
called_keeps (call.Lost conn) node =
    let n = entered (call.Lost conn) node in lost_keeps (call.is_server n conn) conn n (own_stirred conn (stir node.server node))
called_keeps (call.Begins ticket conn) node =
    let n = entered (call.Begins ticket conn) node in
    began_keeps (at n.by_ticket ticket) ticket conn (record n { top = conn }) (own_stirred conn (stir node.server node))
called_keeps (call.NotBegun ticket) node = let n = entered (call.NotBegun ticket) node in not_begun_keeps (at n.by_ticket ticket) ticket n
called_keeps (call.Dialled conn up) node =
    let n = entered (call.Dialled conn up) node in
    dialled_keeps up conn (call.purpose_at (at n.sides conn)) n (own_stirred conn (stir node.server node))
called_keeps call.Drains node = event_keeps _ _

-- ---- a call, and the steps that follow

pub handled : (c : Called) (old begins mid new : Node) → begins ≡ entered c old → mid ≡ called c begins → step.Settles mid new → Handling old c new
handled c old begins mid new begun is s = subst (λ n. step.Settles n new) (is ∙ ap (called c) begun) s

handling_keeps : (c : Called) (old new : Node) → Handling old c new → Keeps (found_by c old) new
handling_keeps c old new h = keeps_more (found_by c old) (called c (entered c old)) new (called_keeps c old) (makes_keep h.0.0 (called c (entered c old)) new h.0.1)

pub settled_top : (c : Called) (old begins mid new : Node) → begins ≡ entered c old → mid ≡ called c begins → step.Settles mid new → new.top ≡ top_after c old
settled_top c old begins mid new begun is s = (handling_keeps c old new (handled c old begins mid new begun is s)).0

-- ---- what was stirred

-- the server's connection is stirred before all that the call does
entered_keeps : (c : Called) (node : Node) → Keeps (stir node.server node) (entered c node)
entered_keeps (call.Bytes conn piece) node = stir_keeps conn (stir node.server node)
entered_keeps (call.Took conn count) node = stir_keeps conn (stir node.server node)
entered_keeps (call.Ended conn) node = stir_keeps conn (stir node.server node)
entered_keeps (call.Lost conn) node = stir_keeps conn (stir node.server node)
entered_keeps (call.Begins ticket conn) node = stir_keeps conn (stir node.server node)
entered_keeps (call.NotBegun ticket) node = keeps_itself (stir node.server node)
entered_keeps (call.Dialled conn up) node = stir_keeps conn (stir node.server node)
entered_keeps call.Drains node = keeps_itself (stir node.server node)

stirs_from : (old new : Node) → new.server ≡ old.server → KeepsSides (old.stirred ++ old.server ∷ []) old.sides new.stirred new.sides → Paired old.sides → Stirs old new
stirs_from old new same keeps paired = λ c.
    (still_stirred c old.stirred new.stirred (λ off. stirred_before c old.server old.stirred ((keeps paired).1 c off).0), λ off. same_answers c off)
  where
    other : (c : ℕ) → is_stirred c new.stirred ≡ false → (c == old.server) ≡ false
    other c off =
        ne_eqb c old.server (λ e. is_other old.server c (old.stirred ++ old.server ∷ []) (stirred_newest old.server old.stirred) ((keeps paired).1 c off).0 (sym e))

    same_answers : (c : ℕ) → is_stirred c new.stirred ≡ false → (out_of new c ≡ out_of old c) × (shuts_of new c ≡ shuts_of old c)
    same_answers c off =
        let side : at new.sides c ≡ at old.sides c = ((keeps paired).1 c off).1 in
        let old_other : (c == old.server) ≡ false = other c off in
        let new_other : (c == new.server) ≡ false = ap (λ s. c == s) same ∙ old_other in
        (rw (new_other, old_other, side) refl, rw (new_other, old_other, side) refl)

handling_stirs : (c : Called) (old new : Node) → AreMembers old.sides → Handling old c new → Stirs old new
handling_stirs c old new members h =
    let first = entered_keeps c old in
    let later = handling_keeps c old new h in
    stirs_from old new (later.1 ∙ first.1)
    (sides_more (old.stirred ++ old.server ∷ []) (entered c old).stirred new.stirred old.sides (entered c old).sides new.sides first.2 later.2) members.same

pub settled_stirs : (c : Called) (old begins mid new : Node) → AreMembers old.sides → begins ≡ entered c old → mid ≡ called c begins → step.Settles mid new → Stirs old new
settled_stirs c old begins mid new members begun is s = handling_stirs c old new members (handled c old begins mid new begun is s)
