-- What steps keep: the greatest number of a connection, the server's number, and the sides of connections that are not stirred.
use Rattle.std.proofs.Common.{◌≡◌, ℕ, ◌+◌, ◌==◌, Bool, true, false, cond, not, ◌&&◌, List, [], ◌∷◌, ◌++◌, length, is_none, refl, sym, ap, subst, ◌∙◌, Option, Some, None}
use Rattle.std.proofs.lemmas.Bool.{ne_eqb}
use Rattle.kn_packet.specs.declared.packet.Packet.{Packet}
use Rattle.kn_h2_state.specs.declared.event.H2Event.{H2Event}
use Rattle.kn_h2_state.specs.declared.event.H2Event.TheVariants.{Opened, Head, Text, Ended, Reset, Away, Closed}
use Rattle.kn_edge_core.specs.declared.client_event.ClientEvent.{ClientEvent}
use Rattle.kn_edge_core.specs.declared.client_event.ClientEvent.TheVariants as client_event
use Rattle.kn_edge_core.specs.declared.client_event.ClientOut.{ClientOut}
use Rattle.kn_edge_core.specs.declared.client_event.ClientOut.TheVariants.{ToServer, ToApp, EndApp}
use Rattle.kn_edge_core.specs.Client as client
use Rattle.kn_ends.specs.Carriers.{is_live, is_gone, fed_with, with_loss, reset_stream, events_then}
use Rattle.kn_ends.specs.Carriers.{took as carrier_took}
use Rattle.kn_rising.specs.Members.{Members, AreMembers, at, with, change, without, inserted}
use Rattle.kn_rising.specs.Stirring.{is_stirred}
use Rattle.kn_client_node.specs.declared.arrival.Arrival.{Arrival}
use Rattle.kn_client_node.specs.declared.arrival.Arrival.TheVariants as arrivals
use Rattle.kn_client_node.specs.declared.side.Side.{Side}
use Rattle.kn_client_node.specs.declared.tunnel.Tunnel.{Tunnel}
use Rattle.kn_client_node.specs.declared.node.Node.{Node}
use Rattle.kn_client_node.specs.Nodes.{stir, stirred_for, with_bytes, written_to, without_app, released, waits_behind, end_app, output, outputs, event, packet_event, opened_by, up_at, end_text, without_stream, stream_over, any_stream_over}
use Rattle.kn_client_node.specs.Steps.{Step, Hear, Handle, Admit, Write, told, on_carrier, heard, hear, arrival, handle, handle_at, handle_front, admit, after_step, Makes}
use Rattle.kn_client_node.specs.Calls as call
use Rattle.kn_client_node.specs.Calls.{Called, called, own, entered, Handling, out_of, shuts_of, Stirs}
use Rattle.kn_client_node.proofs.OthersLemmas.{Paired, Leaves, with_leaves, change_leaves, without_leaves, inserted_leaves}
use Rattle.kn_client_node.proofs.StirLemmas.{stirred_before, stirred_newest, still_stirred, is_other}

-- ---- sides

-- one that is not stirred was not before, and its side is the same
abbrev pub KeepsSides : List ℕ → Members Side → List ℕ → Members Side → Type 0
KeepsSides ns old ms new = Paired old → Paired new × ((c : ℕ) → is_stirred c ms ≡ false → (is_stirred c ns ≡ false) × (at new c ≡ at old c))

sides_stay : (ns : List ℕ) (sides : Members Side) → KeepsSides ns sides ns sides
sides_stay ns sides p = (p, λ c off. (off, refl))

sides_more : (ns ms ks : List ℕ) (a b c : Members Side) → KeepsSides ns a ms b → KeepsSides ms b ks c → KeepsSides ns a ks c
sides_more ns ms ks a b c first later p =
    let one = first p in
    let two = later one.0 in
    (two.0, λ n off. (let last = two.1 n off in let front = one.1 n last.0 in (front.0, last.1 ∙ front.1)))

-- the side of one that is stirred may change
own_keeps : (ns : List ℕ) (n : ℕ) (a b : Members Side) → is_stirred n ns ≡ true → Leaves n a b → KeepsSides ns a ns b
own_keeps ns n a b on leaves p = let left = leaves p in (left.0, λ c off. (off, left.1 c (is_other n c ns on off)))

newest_keeps : (ns : List ℕ) (n : ℕ) (a b : Members Side) → Leaves n a b → KeepsSides ns a (ns ++ n ∷ []) b
newest_keeps ns n a b leaves p =
    let left = leaves p in
    (left.0, λ c off. (stirred_before c n ns off, left.1 c (is_other n c (ns ++ n ∷ []) (stirred_newest n ns) off)))

written_keeps : (t : Option Tunnel) (bytes ns : List ℕ) (sides : Members Side) → KeepsSides ns sides (stirred_for t ns) (written_to t bytes sides)
written_keeps None bytes ns sides = sides_stay ns sides
written_keeps (Some t) bytes ns sides = newest_keeps ns t.conn sides (change sides t.conn (with_bytes bytes)) (change_leaves sides t.conn (with_bytes bytes))

leaves_either : (b : Bool) (n : ℕ) (sides x y : Members Side) → Leaves n sides x → Leaves n sides y → Leaves n sides (cond b x y)
leaves_either true n sides x y p q = p
leaves_either false n sides x y p q = q

released_leaves : (sides : Members Side) (conn : ℕ) (x : Option Side) → Leaves conn sides (released sides conn x)
released_leaves sides conn None = λ p. (p, λ c other. refl)
released_leaves sides conn (Some side) =
    leaves_either (length side.out == 0) conn sides (without sides conn) (with sides conn (without_app side))
    (without_leaves sides conn) (with_leaves sides conn (without_app side))

less_leaves : (sides : Members Side) (conn count : ℕ) (x : Option Side) → Leaves conn sides (call.less_at x conn count sides)
less_leaves sides conn count None = λ p. (p, λ c other. refl)
less_leaves sides conn count (Some side) =
    leaves_either (is_none side.app && (length side.out == count)) conn sides (without sides conn) (with sides conn (call.without_first count side))
    (without_leaves sides conn) (with_leaves sides conn (call.without_first count side))

-- ---- nodes

abbrev pub Keeps : Node → Node → Type 0
Keeps old new = (new.top ≡ old.top) × (new.server ≡ old.server) × KeepsSides old.stirred old.sides new.stirred new.sides

keeps_itself : (node : Node) → Keeps node node
keeps_itself node = (refl, refl, sides_stay node.stirred node.sides)

keeps_more : (a b c : Node) → Keeps a b → Keeps b c → Keeps a c
keeps_more a b c first later =
    (later.0 ∙ first.0, later.1 ∙ first.1, sides_more a.stirred b.stirred c.stirred a.sides b.sides c.sides first.2 later.2)

keeps_either : (b : Bool) (node x y : Node) → Keeps node x → Keeps node y → Keeps node (cond b x y)
keeps_either true node x y p q = p
keeps_either false node x y p q = q

stir_keeps : (conn : ℕ) (node : Node) → Keeps node (stir conn node)
stir_keeps conn node = (refl, refl, newest_keeps node.stirred conn node.sides node.sides (λ p. (p, λ c other. refl)))

-- ---- an event of the core

left_keeps : (app : ℕ) (error : List ℕ) (t : Option Tunnel) (node : Node) → Keeps node (end_app app error t node)
left_keeps app error None node = keeps_itself node
left_keeps app error (Some t) node =
    (refl, refl, newest_keeps node.stirred t.conn node.sides (released node.sides t.conn (at node.sides t.conn)) (released_leaves node.sides t.conn (at node.sides t.conn)))

output_keeps : (node : Node) (o : ClientOut) → Keeps node (output node o)
unfolding output
output_keeps node (ToServer p) = keeps_either (waits_behind node) node _ _ (keeps_itself node) (keeps_itself node)
output_keeps node (ToApp app bytes) = (refl, refl, written_keeps (at node.by_app app) bytes node.stirred node.sides)
output_keeps node (EndApp app error) = left_keeps app error (at node.by_app app) node

outputs_keep : (os : List ClientOut) (node : Node) → Keeps node (outputs node os)
outputs_keep [] node = keeps_itself node
outputs_keep (o ∷ os) node = keeps_more node (output node o) (outputs (output node o) os) (output_keeps node o) (outputs_keep os (output node o))

event_keeps : (e : ClientEvent) (node : Node) → Keeps node (event e node)
unfolding event
event_keeps e node = outputs_keep (client.step node.core e).outs (record node { core = (client.step node.core e).state })

after_event : (e : ClientEvent) (old node : Node) → Keeps old node → Keeps old (event e node)
after_event e old node kept = keeps_more old node (event e node) kept (event_keeps e node)

-- ---- steps

packet_keeps : (p : Packet) (node : Node) → Keeps node (packet_event p node)
unfolding packet_event
packet_keeps p node = event_keeps (client_event.Packet p) (record node { by_app = up_at (opened_by node.core p) node.by_app })

over_keeps : (s : ℕ) (node : Node) → Keeps node (stream_over s node)
unfolding stream_over
over_keeps s node = event_keeps (client_event.StreamEnded (end_text (is_live node.carrier))) (without_stream s node)

any_over_keeps : (s : Option ℕ) (node : Node) → Keeps node (any_stream_over s node)
any_over_keeps None node = keeps_itself node
any_over_keeps (Some s) node = over_keeps s node

heard_keeps : (e : H2Event) (node : Node) → Keeps node (heard e node)
unfolding heard
heard_keeps (Opened s fields) node = keeps_itself node
heard_keeps (Head s fields) node = keeps_itself node
heard_keeps (Text s) node = keeps_itself node
heard_keeps (Ended s) node = keeps_itself node
heard_keeps (Reset s code) node = keeps_itself node
heard_keeps (Away code) node = keeps_itself node
heard_keeps (Closed code) node = any_over_keeps node.stream node

hear_keeps : (es : List H2Event) (node : Node) → Keeps node (hear es node)
unfolding hear
hear_keeps [] node = keeps_itself node
hear_keeps (e ∷ es) node = heard_keeps e (on_carrier (events_then es) node)

handle_keeps : (s : ℕ) (a : Arrival) (node : Node) → Keeps node (handle s a node)
unfolding handle
handle_keeps s arrivals.End node = over_keeps s node
handle_keeps s (arrivals.Packet p) node = packet_keeps p _
handle_keeps s arrivals.Bad node = over_keeps s (on_carrier (reset_stream s 1) node)

handle_at_keeps : (s : Option ℕ) (a : Arrival) (node : Node) → Keeps node (handle_at s a node)
handle_at_keeps None a node = keeps_itself node
handle_at_keeps (Some s) a node = handle_keeps s a node

front_keeps : (a : Option Arrival) (node : Node) → Keeps node (handle_front a node)
front_keeps None node = keeps_itself node
front_keeps (Some a) node = handle_at_keeps node.stream a node

admit_keeps : (behind : List (List ℕ)) (node : Node) → Keeps node (admit behind node)
unfolding admit
admit_keeps [] node = keeps_itself node
admit_keeps (b ∷ bs) node = keeps_itself node

step_keeps : (node : Node) (s : Step) → Keeps node (after_step node s)
unfolding after_step
step_keeps node Hear = hear_keeps (told node) node
step_keeps node Handle = front_keeps (arrival node) node
step_keeps node Admit = admit_keeps node.behind node
step_keeps node (Write m) = keeps_itself node

makes_keep : (ss : List Step) (old new : Node) → Makes old ss new → Keeps old new
makes_keep [] old new made = subst (λ n. Keeps old n) (sym made) (keeps_itself old)
makes_keep (s ∷ ss) old new made = keeps_more old (after_step old s) new (step_keeps old s) (makes_keep ss (after_step old s) new made.1)

-- ---- calls, whose own connections are stirred

abbrev pub IsOwn : ℕ → Node → Type 0
IsOwn conn node = is_stirred conn node.stirred ≡ true

sent_keeps : (app : Option ℕ) (piece : List ℕ) (node : Node) → Keeps node (call.app_sent app piece node)
sent_keeps None piece node = keeps_itself node
sent_keeps (Some n) piece node = event_keeps (client_event.AppBytes n piece) node

wrote_keeps : (app : Option ℕ) (count : ℕ) (node : Node) → Keeps node (call.app_wrote app count node)
wrote_keeps None count node = keeps_itself node
wrote_keeps (Some n) count node = event_keeps (client_event.AppWrote n count) node

ended_keeps : (app : Option ℕ) (node : Node) → Keeps node (call.app_ended app node)
ended_keeps None node = keeps_itself node
ended_keeps (Some n) node = event_keeps (client_event.AppEnd n) node

failed_keeps : (app : Option ℕ) (node : Node) → Keeps node (call.app_failed app node)
failed_keeps None node = keeps_itself node
failed_keeps (Some n) node = event_keeps (client_event.AppFailed n) node

lose_keeps : (gone : Bool) (node : Node) → Keeps node (call.lose_by gone node)
lose_keeps true node = keeps_itself node
lose_keeps false node = any_over_keeps node.stream (on_carrier with_loss node)

side_took_keeps : (conn count : ℕ) (node : Node) → IsOwn conn node → Keeps node (call.side_took conn count node)
side_took_keeps conn count node on =
    let sides = call.less_at (at node.sides conn) conn count node.sides in
    let taken = record node { sides = sides } in
    keeps_more node taken (call.app_wrote (call.app_at node conn) count taken)
    (refl, refl, own_keeps node.stirred conn node.sides sides on (less_leaves node.sides conn count (at node.sides conn))) (wrote_keeps (call.app_at node conn) count taken)

side_ended_keeps : (conn : ℕ) (node : Node) → IsOwn conn node → Keeps node (call.side_ended conn node)
side_ended_keeps conn node on =
    let sides = change node.sides conn call.with_end in
    let ended = record node { sides = sides } in
    keeps_more node ended (call.app_ended (call.app_at node conn) ended)
    (refl, refl, own_keeps node.stirred conn node.sides sides on (change_leaves node.sides conn call.with_end)) (ended_keeps (call.app_at node conn) ended)

side_lost_keeps : (conn : ℕ) (node : Node) → IsOwn conn node → Keeps node (call.side_lost conn node)
side_lost_keeps conn node on =
    let sides = without node.sides conn in
    let lost = record node { sides = sides } in
    keeps_more node lost (call.app_failed (call.app_at node conn) lost)
    (refl, refl, own_keeps node.stirred conn node.sides sides on (without_leaves node.sides conn)) (failed_keeps (call.app_at node conn) lost)

accepted_keeps : (conn : ℕ) (address : List ℕ) (node : Node) → IsOwn conn node → Keeps node (call.accepted conn address node)
accepted_keeps conn address node on =
    let app = node.core.top_app + 1 in
    after_event (client_event.AppUp app address) node (call.seated conn app node)
    (refl, refl, own_keeps node.stirred conn node.sides (inserted node.sides conn (call.new_side app)) on (inserted_leaves node.sides conn (call.new_side app)))

app_keeps : (refusal : Option (List ℕ)) (conn : ℕ) (address : List ℕ) (node : Node) → IsOwn conn node → Keeps node (call.app_by refusal conn address node)
app_keeps (Some error) conn address node on = keeps_itself node
app_keeps None conn address node on = by_stream node.stream
  where
    by_stream : (s : Option ℕ) → Keeps node (call.accepted conn address (call.begun s node))
    by_stream None = accepted_keeps conn address (call.begun None node) on
    by_stream (Some s) = accepted_keeps conn address node on

-- the node that a call finds; a connection that begins has the greatest number
abbrev pub top_after : Called → ℕ → ℕ
top_after (call.Bytes conn piece) top = top
top_after (call.Took conn count) top = top
top_after (call.Ended conn) top = top
top_after (call.Lost conn) top = top
top_after (call.App conn address) top = conn

abbrev pub found_by : Called → Node → Node
found_by c node = record (entered c node) { top = top_after c node.top }

own_stirred : (conn : ℕ) (node : Node) → IsOwn conn (stir conn node)
own_stirred conn node = stirred_newest conn node.stirred

called_keeps : (c : Called) (node : Node) → Keeps (found_by c node) (called c (entered c node))
unfolding called call.app_came
called_keeps (call.Bytes conn piece) node =
    let n = entered (call.Bytes conn piece) node in
    keeps_either (conn == n.server) n (on_carrier (fed_with piece) n) (call.side_sent conn piece n) (keeps_itself n) (sent_keeps (call.app_at n conn) piece n)
called_keeps (call.Took conn count) node =
    let n = entered (call.Took conn count) node in
    keeps_either (conn == n.server) n (on_carrier (carrier_took count) n) (call.side_took conn count n) (keeps_itself n)
    (side_took_keeps conn count n (own_stirred conn (stir node.server node)))
called_keeps (call.Ended conn) node =
    let n = entered (call.Ended conn) node in
    keeps_either (conn == n.server) n (call.lose_server n) (call.side_ended conn n) (lose_keeps (is_gone n.carrier) n)
    (side_ended_keeps conn n (own_stirred conn (stir node.server node)))
called_keeps (call.Lost conn) node =
    let n = entered (call.Lost conn) node in
    keeps_either (conn == n.server) n (call.lose_server n) (call.side_lost conn n) (lose_keeps (is_gone n.carrier) n)
    (side_lost_keeps conn n (own_stirred conn (stir node.server node)))
called_keeps (call.App conn address) node =
    let n = entered (call.App conn address) node in
    app_keeps (call.app_refusal n) conn address (call.with_top conn n) (own_stirred conn (stir node.server node))

-- ---- a call, and the steps that follow

handling_keeps : (c : Called) (old new : Node) → Handling old c new → Keeps (found_by c old) new
handling_keeps c old new h = keeps_more (found_by c old) (called c (entered c old)) new (called_keeps c old) (makes_keep h.0.0 (called c (entered c old)) new h.0.1)

pub handling_top : (c : Called) (old new : Node) → Handling old c new → new.top ≡ top_after c old.top
handling_top c old new h = (handling_keeps c old new h).0

-- ---- what was stirred

stirs_from : (old new : Node) → new.server ≡ old.server → KeepsSides (old.stirred ++ old.server ∷ []) old.sides new.stirred new.sides → Paired old.sides → Stirs old new
unfolding out_of shuts_of
stirs_from old new same keeps paired = λ c.
    (still_stirred c old.stirred new.stirred (λ off. stirred_before c old.server old.stirred ((keeps paired).1 c off).0), λ off. same_answers c off)
  where
    other : (c : ℕ) → is_stirred c new.stirred ≡ false → (c == old.server) ≡ false
    other c off =
        ne_eqb c old.server (λ e. is_other old.server c (old.stirred ++ old.server ∷ []) (stirred_newest old.server old.stirred) ((keeps paired).1 c off).0 (sym e))

    same_answers : (c : ℕ) → is_stirred c new.stirred ≡ false → (out_of new c ≡ out_of old c) × (shuts_of new c ≡ shuts_of old c)
    same_answers c off =
        let side : at new.sides c ≡ at old.sides c = ((keeps paired).1 c off).1 in
        let old_other : (c == old.server) ≡ false = other c off in
        let new_other : (c == new.server) ≡ false = ap (λ s. c == s) same ∙ old_other in
        (rw (new_other, old_other, side) refl, rw (new_other, old_other, side) refl)

pub handling_stirs : (c : Called) (old new : Node) → AreMembers old.sides → Handling old c new → Stirs old new
handling_stirs c old new members h =
    let first = stir_keeps (own c) (stir old.server old) in
    let later = handling_keeps c old new h in
    stirs_from old new (later.1 ∙ first.1)
    (sides_more (old.stirred ++ old.server ∷ []) (entered c old).stirred new.stirred old.sides (entered c old).sides new.sides first.2 later.2) members.same
