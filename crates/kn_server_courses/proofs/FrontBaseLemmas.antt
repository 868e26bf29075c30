-- Fronts stand alone on their streams, and queues are in order: through each change of a connection.
use Rattle.std.proofs.Common.{◌≡◌, ℕ, zero, suc, ◌<◌, ◌≤◌, Bool, true, false, cond, eqb, List, [], ◌∷◌, ◌++◌, length, Option, Some, None, refl, sym, ap, ◌∙◌, subst, arith, append-nil, ℤ}
use Rattle.std.specs.Prelude.{slice_get}
use Rattle.std.proofs.lemmas.Bool.{eq-eqb}
use Rattle.kn_hpack.specs.Fields.{Field}
use Rattle.kn_packet.specs.declared.packet.Packet.{Packet}
use Rattle.kn_packet.specs.declared.packet.Packet.TheVariants as packets
use Rattle.kn_grpc.specs.Packets.{framed}
use Rattle.kn_h2_state.specs.declared.event.H2Event.{H2Event}
use Rattle.kn_h2_state.specs.declared.event.H2Event.TheVariants as events
use Rattle.kn_h2_state.specs.declared.state.State.{State}
use Rattle.kn_h2_state.specs.Calls.{queue_of, with_queued, after_queue}
use Rattle.kn_h2_state.proofs.BorneLemmas.{Rises}
use Rattle.kn_server_core.specs.Isolation.{Each}
use Rattle.kn_stream_order.specs.Order.{OpensRising, IsShortAt}
use Rattle.kn_stream_order.proofs.QueueLemmas.{short_other}
use Rattle.kn_stream_order.proofs.OrderLemmas.{rising_then, rising_lower}
use Rattle.kn_server_courses.proofs.GoLemmas.{Goes, Still, still_goes, goes_waits, queue_numbers}
use Rattle.kn_ends.specs.declared.carrier.Carrier.{Carrier}
use Rattle.kn_ends.specs.declared.heard.Heard.{Heard}
use Rattle.kn_ends.specs.Carriers.{queued, awaits_answer, is_over, is_full, without_events}
use Rattle.kn_ends.specs.Queues.{tagged}
use Rattle.kn_server_node.specs.declared.door.Door.{Door}
use Rattle.kn_server_node.specs.declared.end.End.{End}
use Rattle.kn_server_node.specs.declared.end.End.TheVariants.{Streams, Connect}
use Rattle.kn_server_node.specs.declared.place.Place.{Place}
use Rattle.kn_server_node.specs.Ends.{given, on_carrier, events_in}
use Rattle.kn_server_node.specs.Doors as door
use Rattle.kn_server_node.specs.FrontRooms.{waiting_on, NoneStandsOn}
use Rattle.kn_server_courses.proofs.ChangeLemmas.{changed_end}

-- ---- lists

pub each_at : {E : Type 0} (P : E → Type 0) (xs : List E) (i : ℕ) (x : E) → Each P xs → slice_get xs i ≡ Some x → P x
each_at P [] i x h f = absurd cc
each_at P (y ∷ ys) zero x h f = let m : y ≡ x = cc in subst P m h.0
each_at P (y ∷ ys) (suc i) x h f = each_at P ys i x h.1 f

pub each_more : {E : Type 0} (P Q : E → Type 0) (xs : List E) → ((x : E) → P x → Q x) → Each P xs → Each Q xs
each_more P Q [] f h = tt
each_more P Q (x ∷ xs) f h = (f x h.0, each_more P Q xs f h.1)

pub each_append : {E : Type 0} (P : E → Type 0) (xs ys : List E) → Each P xs → Each P ys → Each P (xs ++ ys)
each_append P [] ys h k = k
each_append P (x ∷ xs) ys h k = (h.0, each_append P xs ys h.1 k)

-- ---- events of one connection

unfoldable pub events_for : ℕ → List Heard → List H2Event
events_for c [] = []
events_for c (x ∷ told) = cond (eqb x.conn c) (x.event ∷ events_for c told) (events_for c told)

pub for_join : (c : ℕ) (told more : List Heard) → events_for c (told ++ more) ≡ events_for c told ++ events_for c more
unfolding events_for
for_join c [] more = refl
for_join c (x ∷ told) more = by_conn (eqb x.conn c) (for_join c told more)
  where
    by_conn : (b : Bool) → events_for c (told ++ more) ≡ events_for c told ++ events_for c more
        → cond b (x.event ∷ events_for c (told ++ more)) (events_for c (told ++ more)) ≡ cond b (x.event ∷ events_for c told) (events_for c told) ++ events_for c more
    by_conn true later = ap (λ es. x.event ∷ es) later
    by_conn false later = later

pub for_tagged : (c : ℕ) (es : List H2Event) → events_for c (tagged c es) ≡ es
unfolding events_for
for_tagged c [] = refl
for_tagged c (e ∷ es) = let same : eqb c c ≡ true = eq-eqb c c refl in rw same (ap (λ fs. e ∷ fs) (for_tagged c es))

pub for_others : (c d : ℕ) (es : List H2Event) → eqb d c ≡ false → events_for c (tagged d es) ≡ []
unfolding events_for
for_others c d [] other = refl
for_others c d (e ∷ es) other = rw other (for_others c d es other)

-- ---- what is known of one connection

-- the streams up to one were heard: fronts and links stand there alone, and nothing waits on the later ones, which are told in order
pub record Knows (c heard : ℕ) (fs ls : List Place) (told : List Heard) (s : State) : Type 0 where
  pub quiet : s.events ≡ []
  pub numbers : Rises 0 s.opened s.streams
  pub pending : OpensRising heard (events_for c told) s.opened
  pub clean : (n : ℕ) → heard < n → IsShortAt n 0 s.streams
  pub fronts : Each (λ p. p.conn ≡ c → p.stream ≤ heard) fs
  pub links : Each (λ p. p.conn ≡ c → p.stream ≤ heard) ls

-- a connection is for agents or for clients
pub record KnowsStreams (c : ℕ) (fs ls : List Place) (told : List Heard) (for_agents : Bool) (s : State) : Type 0 where
  pub heard : ℕ
  pub knows : Knows c heard fs ls told s
  pub agents : for_agents ≡ true → NoneStandsOn c fs
  pub clients : for_agents ≡ false → NoneStandsOn c ls

pub record KnowsDoor (c : ℕ) (fs ls : List Place) (d : Door) : Type 0 where
  pub links : NoneStandsOn c ls
  pub fronts : d.front ≡ None → NoneStandsOn c fs

abbrev pub Known : ℕ → List Place → List Place → List Heard → Option End → Type 0
Known c fronts links told None = Unit {0}
Known c fronts links told (Some (Streams for_agents carrier)) = KnowsStreams c fronts links told for_agents carrier.conn.state
Known c fronts links told (Some (Connect d)) = KnowsDoor c fronts links d

-- ---- changes of one connection

-- nothing is told, and no queue is longer
pub record Calm (g : End → End) : Type 0 where
  pub streams : (for_agents : Bool) (c : Carrier) → (d : Carrier) × (g (Streams for_agents c) ≡ Streams for_agents d) × Still c.conn.state d.conn.state
  pub doors : (d : Door) → (e : Door) × (g (Connect d) ≡ Connect e) × (e.front ≡ None → d.front ≡ None)

knows_still : (c heard : ℕ) (fronts links : List Place) (told : List Heard) (s t : State) → Still s t → Knows c heard fronts links told s → Knows c heard fronts links told t
knows_still c heard fronts links told s t a k = record {
  quiet = a.events ∙ k.quiet;
  numbers = a.numbers k.numbers;
  pending = subst (λ n. OpensRising heard (events_for c told) n) (sym a.opened) k.pending;
  clean = λ n above. a.queues n 0 (k.clean n above);
  fronts = k.fronts;
  links = k.links;
}

pub known_still : (c : ℕ) (fronts links : List Place) (told : List Heard) (g : End → End) (o : Option End) → Calm g → Known c fronts links told o → Known c fronts links told (changed_end g o)
known_still c fronts links told g None calm k = tt
known_still c fronts links told g (Some (Streams for_agents carrier)) calm k =
    let s = calm.streams for_agents carrier in
    subst (λ e. Known c fronts links told (Some e)) (sym s.1)
    (record { heard = k.heard; knows = knows_still c k.heard fronts links told carrier.conn.state s.0.conn.state s.2 k.knows; agents = k.agents; clients = k.clients })
known_still c fronts links told g (Some (Connect d)) calm k =
    let s = calm.doors d in
    subst (λ e. Known c fronts links told (Some e)) (sym s.1) (record { links = k.links; fronts = λ none. k.fronts (s.2 none) })

pub waits_still : (c : ℕ) (fronts links : List Place) (told : List Heard) (g : End → End) (o : Option End) (n : ℕ) → Calm g → Known c fronts links told o → waiting_on (changed_end g o) n ≤ waiting_on o n
waits_still c fronts links told g None n calm k = omega arith
waits_still c fronts links told g (Some (Streams for_agents carrier)) n calm k =
    let s = calm.streams for_agents carrier in
    subst (λ e. waiting_on (Some e) n ≤ length (queue_of carrier.conn.state n)) (sym s.1) (goes_waits carrier.conn.state s.0.conn.state n k.knows.numbers (still_goes carrier.conn.state s.0.conn.state s.2))
waits_still c fronts links told g (Some (Connect d)) n calm k = let s = calm.doors d in subst (λ e. waiting_on (Some e) n ≤ 0) (sym s.1) (omega arith)

-- ---- bytes are queued on a stream that was heard

queued_state : (c heard m : ℕ) (fronts links : List Place) (told : List Heard) (bytes : List ℕ) (s : State) → m ≤ heard → Knows c heard fronts links told s → Knows c heard fronts links told (queued m bytes s)
unfolding queued after_queue
queued_state c heard m fronts links told bytes s below k = by_tests (awaits_answer s m) (is_over s m) (is_full s m)
  where
    grows : Knows c heard fronts links told (after_queue m bytes s)
    grows = record {
      quiet = k.quiet;
      numbers = queue_numbers m bytes s k.numbers;
      pending = k.pending;
      clean = λ n above. short_other n 0 m (with_queued bytes) s.streams (λ st. refl) (λ same. absurd (omega (arith, below, above, same))) (k.clean n above);
      fronts = k.fronts;
      links = k.links;
    }

    by_tests : (x y z : Bool) → Knows c heard fronts links told (cond x s (cond y s (cond z s (after_queue m bytes s))))
    by_tests true y z = k
    by_tests false true z = k
    by_tests false false true = k
    by_tests false false false = grows

-- a packet at a door keeps whose front it is
replied_front : (error : List ℕ) (id : ℤ) (d : Door) → (door.replied error id d).front ≡ d.front
unfolding door.opened door.refused
replied_front [] id d = refl
replied_front (x ∷ xs) id d = refl

given_front : (p : Packet) (d : Door) → (door.given p d).front ≡ d.front
given_front (packets.DialRsp error id random) d = replied_front error id d
given_front (packets.Data id error bytes) d = refl
given_front (packets.DialReq protocol address random) d = refl
given_front (packets.CloseReq id) d = refl
given_front (packets.CloseRsp error id) d = refl
given_front (packets.DialCls random) d = refl
given_front packets.Drain d = refl
given_front (packets.Other number) d = refl

pub given_known : (c m : ℕ) (fronts links : List Place) (told : List Heard) (p : Packet) (o : Option End) → ((heard : ℕ) (s : State) → Knows c heard fronts links told s → m ≤ heard)
    → Known c fronts links told o → Known c fronts links told (changed_end (given m p) o)
given_known c m fronts links told p None below k = tt
given_known c m fronts links told p (Some (Connect d)) below k = record { links = k.links; fronts = λ none. k.fronts (sym (given_front p d) ∙ none) }
given_known c m fronts links told p (Some (Streams for_agents carrier)) below k = by_loss carrier.lost
  where
    by_loss : (b : Bool) → Known c fronts links told (Some (Streams for_agents (cond b carrier (record carrier { conn = record carrier.conn { state = queued m (framed p) carrier.conn.state } }))))
    by_loss true = k
    by_loss false = record {
      heard = k.heard;
      knows = queued_state c k.heard m fronts links told (framed p) carrier.conn.state (below k.heard carrier.conn.state k.knows) k.knows;
      agents = k.agents;
      clients = k.clients;
    }

-- ---- a connection tells

-- what a carrier does tells in order
abbrev pub Noisy : (Carrier → Carrier) → Type 0
Noisy h = (c : Carrier) → Goes c.conn.state (h c).conn.state

-- after it told, and what it told was taken
pub heard_known : (c : ℕ) (fronts links : List Place) (told : List Heard) (h : Carrier → Carrier) (o : Option End) → Noisy h → Known c fronts links told o
    → Known c fronts links (told ++ tagged c (events_in (changed_end (on_carrier h) o))) (changed_end (on_carrier without_events) (changed_end (on_carrier h) o))
heard_known c fronts links told h None noisy k = tt
heard_known c fronts links told h (Some (Connect d)) noisy k = k
heard_known c fronts links told h (Some (Streams for_agents carrier)) noisy k =
    let g = noisy carrier in
    let s : State = carrier.conn.state in
    let t : State = (h carrier).conn.state in
    let es : t.events ≡ g.told = g.events ∙ ap (λ (xs : List H2Event). xs ++ g.told) k.knows.quiet in
    let join : events_for c (told ++ tagged c t.events) ≡ events_for c told ++ g.told = for_join c told (tagged c t.events) ∙ ap (λ fs. events_for c told ++ fs) (for_tagged c t.events ∙ es) in
    let rising : OpensRising k.heard (events_for c told ++ g.told) t.opened = rising_then k.heard (events_for c told) g.told s.opened t.opened k.knows.pending (λ n le. rising_lower s.opened n g.told t.opened le g.rising) in
    record {
      heard = k.heard;
      knows = record {
        quiet = refl;
        numbers = g.numbers k.knows.numbers;
        pending = subst (λ fs. OpensRising k.heard fs t.opened) (sym join) rising;
        clean = λ n above. g.queues n 0 (k.knows.clean n above);
        fronts = k.knows.fronts;
        links = k.knows.links;
      };
      agents = k.agents;
      clients = k.clients;
    }

pub heard_waits : (c : ℕ) (fronts links : List Place) (told : List Heard) (h : Carrier → Carrier) (o : Option End) (n : ℕ) → Noisy h → Known c fronts links told o
    → waiting_on (changed_end (on_carrier without_events) (changed_end (on_carrier h) o)) n ≤ waiting_on o n
heard_waits c fronts links told h None n noisy k = omega arith
heard_waits c fronts links told h (Some (Connect d)) n noisy k = omega arith
heard_waits c fronts links told h (Some (Streams for_agents carrier)) n noisy k = goes_waits carrier.conn.state (h carrier).conn.state n k.knows.numbers (noisy carrier)

-- more is told of another connection
pub known_more : (c d : ℕ) (fronts links : List Place) (told : List Heard) (es : List H2Event) (o : Option End) → eqb d c ≡ false → Known c fronts links told o → Known c fronts links (told ++ tagged d es) o
known_more c d fronts links told es None other k = tt
known_more c d fronts links told es (Some (Connect e)) other k = k
known_more c d fronts links told es (Some (Streams for_agents carrier)) other k =
    let same : events_for c (told ++ tagged d es) ≡ events_for c told = for_join c told (tagged d es) ∙ ap (λ fs. events_for c told ++ fs) (for_others c d es other) ∙ append-nil (events_for c told) in
    record {
      heard = k.heard;
      knows = record {
        quiet = k.knows.quiet;
        numbers = k.knows.numbers;
        pending = subst (λ fs. OpensRising k.heard fs carrier.conn.state.opened) (sym same) k.knows.pending;
        clean = k.knows.clean;
        fronts = k.knows.fronts;
        links = k.knows.links;
      };
      agents = k.agents;
      clients = k.clients;
    }

-- ---- the first that was told is heard

-- from which number on the later streams are told
head_rising : (low : ℕ) (e : H2Event) (es : List H2Event) (high : ℕ) → OpensRising low (e ∷ es) high → (next : ℕ) × (low ≤ next) × OpensRising next es high
head_rising low (events.Opened n fields) es high h = (n, (let l = h.0 in omega (arith, l)), h.1)
head_rising low (events.Head n fields) es high h = (low, (omega arith), h)
head_rising low (events.Text n) es high h = (low, (omega arith), h)
head_rising low (events.Ended n) es high h = (low, (omega arith), h)
head_rising low (events.Reset n code) es high h = (low, (omega arith), h)
head_rising low (events.Away code) es high h = (low, (omega arith), h)
head_rising low (events.Closed code) es high h = (low, (omega arith), h)

-- more streams were heard
knows_raised : (c heard more : ℕ) (fronts links : List Place) (told later : List Heard) (s : State) → heard ≤ more → OpensRising more (events_for c later) s.opened → Knows c heard fronts links told s → Knows c more fronts links later s
knows_raised c heard more fronts links told later s le pending k = record {
  quiet = k.quiet;
  numbers = k.numbers;
  pending = pending;
  clean = λ n above. k.clean n (omega (arith, le, above));
  fronts = each_more (λ (p : Place). p.conn ≡ c → p.stream ≤ heard) (λ (p : Place). p.conn ≡ c → p.stream ≤ more) fronts (λ p h is. omega (arith, h is, le)) k.fronts;
  links = each_more (λ (p : Place). p.conn ≡ c → p.stream ≤ heard) (λ (p : Place). p.conn ≡ c → p.stream ≤ more) links (λ p h is. omega (arith, h is, le)) k.links;
}

knows_next : (c heard : ℕ) (fronts links : List Place) (x : Heard) (told : List Heard) (s : State) → Knows c heard fronts links (x ∷ told) s → (more : ℕ) × Knows c more fronts links told s
unfolding events_for
knows_next c heard fronts links x told s k = by_conn (eqb x.conn c) k.pending
  where
    by_conn : (b : Bool) → OpensRising heard (cond b (x.event ∷ events_for c told) (events_for c told)) s.opened → (more : ℕ) × Knows c more fronts links told s
    by_conn true pending = let next = head_rising heard x.event (events_for c told) s.opened pending in (next.0, knows_raised c heard next.0 fronts links (x ∷ told) told s next.1 next.2 k)
    by_conn false pending = (heard, knows_raised c heard heard fronts links (x ∷ told) told s (omega arith) pending k)

pub known_next : (c : ℕ) (fronts links : List Place) (x : Heard) (told : List Heard) (o : Option End) → Known c fronts links (x ∷ told) o → Known c fronts links told o
known_next c fronts links x told None k = tt
known_next c fronts links x told (Some (Connect d)) k = k
known_next c fronts links x told (Some (Streams for_agents carrier)) k =
    let next = knows_next c k.heard fronts links x told carrier.conn.state k.knows in
    record { heard = next.0; knows = next.1; agents = k.agents; clients = k.clients }

-- a stream that is told as opened is new: nobody stands on it, and nothing waits on it
pub record IsNew (c n : ℕ) (fs ls : List Place) (told : List Heard) (s : State) : Type 0 where
  pub before : ℕ
  pub below : before < n
  pub fronts : Each (λ p. p.conn ≡ c → p.stream ≤ before) fs
  pub links : Each (λ p. p.conn ≡ c → p.stream ≤ before) ls
  pub clean : IsShortAt n 0 s.streams
  pub after : Knows c n fs ls told s

pub opened_new : (c heard n : ℕ) (fields : List Field) (fronts links : List Place) (told : List Heard) (s : State)
    → Knows c heard fronts links (record { conn = c; event = events.Opened n fields } ∷ told) s → IsNew c n fronts links told s
unfolding events_for
opened_new c heard n fields fronts links told s k =
    let same : eqb c c ≡ true = eq-eqb c c refl in
    let pending : OpensRising heard (events.Opened n fields ∷ events_for c told) s.opened = subst (λ b. OpensRising heard (cond b (events.Opened n fields ∷ events_for c told) (events_for c told)) s.opened) same k.pending in
    let above : heard < n = pending.0 in
    record {
      before = heard;
      below = above;
      fronts = k.fronts;
      links = k.links;
      clean = k.clean n above;
      after = knows_raised c heard n fronts links (record { conn = c; event = events.Opened n fields } ∷ told) told s (omega (arith, above)) pending.1 k;
    }
