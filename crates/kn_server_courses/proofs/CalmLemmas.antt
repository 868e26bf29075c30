-- The changes of a connection that tell nothing, and those that tell in order.
use Rattle.std.proofs.Common.{◌≡◌, ℕ, Bool, true, false, cond, List, Option, Some, None, refl}
use Rattle.kn_hpack.specs.Fields.{Field}
use Rattle.kn_h2_state.specs.declared.moves.Move.{Move}
use Rattle.kn_h2_state.specs.declared.refusal.QueueRefusal.{QueueRefusal}
use Rattle.kn_h2_state.specs.declared.state.State.{State}
use Rattle.kn_h2_state.specs.Rules.{is_client}
use Rattle.kn_h2_state.specs.Calls.{text_of, takes_more, refusal, after_took, after_finish, after_answer, after_reset}
use Rattle.kn_server_courses.proofs.GoLemmas.{Goes, Still, still_same, still_then, still_goes, piece_goes, take_still, finish_still, took_still, move_still, answer_goes, reset_goes}
use Rattle.kn_ends.specs.declared.who.Who.{Who}
use Rattle.kn_ends.specs.declared.inlet.Inlet.{Inlet}
use Rattle.kn_ends.specs.declared.carrier.Carrier.{Carrier}
use Rattle.kn_ends.specs.Carriers.{inlet_at, read_count, on_conn, on_inlet, after_read, taken_from, with_popped, deafened, unless_refused, finished, finish_stream, answered, awaits_answer, reset_with, reset_stream, with_inlet, took, with_loss, fed_with, after_write}
use Rattle.kn_ends.specs.Numbers as numbers
use Rattle.kn_server_node.specs.declared.door.Door.{Door}
use Rattle.kn_server_node.specs.Ends.{on_carrier, on_door, closed, trailers, accepted}
use Rattle.kn_server_node.specs.Ends as one
use Rattle.kn_server_node.specs.Doors as door
use Rattle.kn_server_courses.proofs.FrontBaseLemmas.{Calm, Noisy}

-- the connection of a carrier
abbrev pub Quiet : (Carrier → Carrier) → Type 0
Quiet h = (c : Carrier) → Still c.conn.state (h c).conn.state

same_quiet : (s : State) → Still s s
same_quiet s = still_same s s refl refl refl

pub on_carrier_calm : (h : Carrier → Carrier) → Quiet h → Calm (on_carrier h)
on_carrier_calm h quiet = record { streams = λ k c. (h c, refl, quiet c); doors = λ d. (d, refl, (λ none. none)) }

pub on_door_calm : (h : Door → Door) → ((d : Door) → (h d).front ≡ None → d.front ≡ None) → Calm (on_door h)
on_door_calm h keeps = record { streams = λ k c. (c, refl, same_quiet c.conn.state); doors = λ d. (h d, refl, keeps d) }

-- a call that is refused does nothing
unless_still : (r : Option QueueRefusal) (s t : State) → Still s t → Still s (unless_refused r s t)
unless_still None s t a = a
unless_still (Some r) s t a = same_quiet s

unless_goes : (r : Option QueueRefusal) (s t : State) → Goes s t → Goes s (unless_refused r s t)
unless_goes None s t a = a
unless_goes (Some r) s t a = still_goes s s (same_quiet s)

if_still : (b : Bool) (s x y : State) → Still s x → Still s y → Still s (cond b x y)
if_still true s x y p q = p
if_still false s x y p q = q

if_goes : (b : Bool) (s x y : State) → Goes s x → Goes s y → Goes s (cond b x y)
if_goes true s x y p q = p
if_goes false s x y p q = q

-- a lost one is left
lost_still : (b : Bool) (c d : Carrier) → Still c.conn.state d.conn.state → Still c.conn.state (cond b c d).conn.state
lost_still true c d a = same_quiet c.conn.state
lost_still false c d a = a

lost_goes : (b : Bool) (c d : Carrier) → Goes c.conn.state d.conn.state → Goes c.conn.state (cond b c d).conn.state
lost_goes true c d a = still_goes c.conn.state c.conn.state (same_quiet c.conn.state)
lost_goes false c d a = a

-- ---- that tell nothing

pub read_quiet : (s : ℕ) → Quiet (after_read s)
unfolding after_read
read_quiet s c = take_still s (read_count (inlet_at c.inlets s) (text_of c.conn.state s)) c.conn.state

pub inlet_quiet : (s : ℕ) (f : Inlet → Inlet) → Quiet (on_inlet s f)
inlet_quiet s f c = same_quiet c.conn.state

pub taken_quiet : (s : ℕ) → Quiet (taken_from s)
unfolding taken_from
taken_quiet s c = read_quiet s (on_inlet s with_popped c)

deaf_quiet : (s : ℕ) → Quiet (deafened s)
unfolding deafened
deaf_quiet s c = read_quiet s (record c { inlets = numbers.without (λ (i : Inlet). i.stream) c.inlets s })

finished_still : (s : ℕ) (fields : List Field) (t : State) → Still t (finished s fields t)
unfolding finished
finished_still s fields t = if_still (is_client t.role) t t (unless_refused (refusal takes_more t s) t (after_finish s fields t)) (same_quiet t) (unless_still (refusal takes_more t s) t (after_finish s fields t) (finish_still s fields t))

pub finish_quiet : (s : ℕ) (fields : List Field) → Quiet (finish_stream s fields)
finish_quiet s fields c = lost_still c.lost c (on_conn (finished s fields) c) (finished_still s fields c.conn.state)

pub closed_calm : (status s : ℕ) → Calm (closed status s)
closed_calm status s = record {
  streams = λ k c. (
    finish_stream s (trailers status) (deafened s c),
    refl,
    still_then c.conn.state (deafened s c).conn.state (finish_stream s (trailers status) (deafened s c)).conn.state (deaf_quiet s c) (finish_quiet s (trailers status) (deafened s c)),
  );
  doors = λ d. (door.ended d, refl, (λ none. none));
}

pub took_calm : (count : ℕ) → Calm (one.took count)
took_calm count = record {
  streams = λ k c. (took count c, refl, lost_still c.lost c (on_conn (after_took count) c) (took_still count c.conn.state));
  doors = λ d. (door.took count d, refl, (λ none. none));
}

pub lost_calm : Calm one.lost
lost_calm = record { streams = λ k c. (with_loss c, refl, same_quiet c.conn.state); doors = λ d. (door.lost d, refl, (λ none. none)) }

pub write_quiet : (m : Move) → Quiet (after_write m)
write_quiet m c = move_still m c.conn.state

-- ---- that tell in order

answered_goes : (s : ℕ) (fields : List Field) (t : State) → Goes t (answered s fields t)
unfolding answered
answered_goes s fields t = if_goes (awaits_answer t s) t (unless_refused (refusal takes_more t s) t (after_answer s fields t)) t (unless_goes (refusal takes_more t s) t (after_answer s fields t) (answer_goes s fields t)) (still_goes t t (same_quiet t))

pub accepted_noisy : (s : ℕ) (w : Who) (fields : List Field) → Noisy (accepted s w fields)
accepted_noisy s w fields c = lost_goes c.lost (with_inlet s w c) (on_conn (answered s fields) (with_inlet s w c)) (answered_goes s fields c.conn.state)

reset_with_goes : (s code : ℕ) (t : State) → Goes t (reset_with s code t)
unfolding reset_with
reset_with_goes s code t = unless_goes (refusal (λ st. st.own_open) t s) t (after_reset s code t) (reset_goes s code t)

pub reset_noisy : (s code : ℕ) → Noisy (reset_stream s code)
reset_noisy s code c = lost_goes c.lost c (on_conn (reset_with s code) c) (reset_with_goes s code c.conn.state)

pub fed_noisy : (piece : List ℕ) → Noisy (fed_with piece)
fed_noisy piece c = piece_goes c.conn piece

-- a refused door

pub refused_calm : (status : ℕ) → Calm (on_door (door.refused status))
unfolding door.refused
refused_calm status = on_door_calm (door.refused status) (λ d none. none)
