-- What is read stays so through each change of a connection, or text is told.
use Rattle.std.proofs.Common.{◌≡◌, ◌⊎◌, inl, inr, ℕ, Bool, true, false, cond, eqb, List, [], ◌∷◌, ◌++◌, Option, Some, None, refl, sym, ap, ◌∙◌, subst}
use Rattle.std.proofs.lemmas.Bool.{eqb-true, eqb-false}
use Rattle.kn_hpack.specs.Fields.{Field}
use Rattle.kn_packet.specs.declared.packet.Packet.{Packet}
use Rattle.kn_grpc.specs.Packets.{framed}
use Rattle.kn_h2_state.specs.declared.event.H2Event.{H2Event}
use Rattle.kn_h2_state.specs.declared.event.H2Event.TheVariants.{Text}
use Rattle.kn_h2_state.specs.declared.moves.Move.{Move}
use Rattle.kn_h2_state.specs.declared.refusal.QueueRefusal.{QueueRefusal}
use Rattle.kn_h2_state.specs.declared.state.State.{State}
use Rattle.kn_h2_state.specs.Brought.{StaysOrGoes, TellsText, BringsText}
use Rattle.kn_h2_state.specs.Rules.{is_client}
use Rattle.kn_h2_state.specs.Calls.{text_of, takes_more, refusal, after_take, after_queue, after_took, after_finish, after_answer, after_reset}
use Rattle.kn_ends.specs.declared.who.Who.{Who}
use Rattle.kn_ends.specs.declared.inlet.Inlet.{Inlet}
use Rattle.kn_ends.specs.declared.carrier.Carrier.{Carrier}
use Rattle.kn_ends.specs.Numbers.{without}
use Rattle.kn_ends.specs.Carriers.{inlet_at, read_count, on_conn, on_inlet, after_read, taken_from, with_read, with_popped, with_end, with_reset, deafened, unless_refused, queued, is_over, is_full, queue_bytes, finished, finish_stream, answered, awaits_answer, reset_with, reset_stream, new_inlet, with_inlet, took, with_loss, fed_with, after_write}
use Rattle.kn_ends.proofs.InletLemmas.{stream_of}
use Rattle.kn_server_node.specs.declared.door.Door.{Door}
use Rattle.kn_server_node.specs.declared.end.End.{End}
use Rattle.kn_server_node.specs.declared.end.End.TheVariants.{Streams, Connect}
use Rattle.kn_server_node.specs.Ends.{given, on_carrier, on_door, closed, trailers, accepted}
use Rattle.kn_server_node.specs.Ends as one
use Rattle.kn_server_node.specs.Doors as door
use Rattle.kn_server_courses.proofs.GoLemmas.{Still, took_still, queue_numbers}
use Rattle.kn_server_courses.proofs.CalmLemmas.{read_quiet, finish_quiet, write_quiet, accepted_noisy, reset_noisy, fed_noisy}
use Rattle.kn_server_courses.proofs.TextLemmas.{piece_brings}
use Rattle.kn_server_courses.proofs.ReadLemmas.{KeepsStream, changed_inlet, inlet_own, inlet_other, inlet_more, inlet_left, IsReadAt, IsRead, nothing_read, reads_all, Orderly, SameText, take_other, take_own, move_text, queue_text, finish_text, took_text, answer_text, reset_text}

-- ---- text that was told

-- that there is text of the stream is among these
unfoldable pub Tells : ℕ → List H2Event → Type 0
Tells n [] = ⊥
Tells n (e ∷ es) = (e ≡ Text n) ⊎ Tells n es

pub tells_before : (n : ℕ) (es more : List H2Event) → Tells n es → Tells n (es ++ more)
unfolding Tells
tells_before n [] more t = absurd t
tells_before n (e ∷ es) more (inl is) = inl is
tells_before n (e ∷ es) more (inr t) = inr (tells_before n es more t)

pub tells_behind : (n : ℕ) (es more : List H2Event) → Tells n more → Tells n (es ++ more)
unfolding Tells
tells_behind n [] more t = t
tells_behind n (e ∷ es) more t = inr (tells_behind n es more t)

told_there : (n : ℕ) (before more : List H2Event) → Tells n (before ++ Text n ∷ more)
unfolding Tells
told_there n [] more = inl refl
told_there n (e ∷ before) more = inr (told_there n before more)

-- ---- a change

-- what is read stays so
pub record Steady (c d : Carrier) : Type 0 where
  pub numbers : Orderly c.conn.state → Orderly d.conn.state
  pub read : Orderly c.conn.state → (n : ℕ) → IsRead c n → IsRead d n

-- or text is told
pub record Telling (c d : Carrier) : Type 0 where
  pub numbers : Orderly c.conn.state → Orderly d.conn.state
  pub read : Orderly c.conn.state → (n : ℕ) → IsRead c n → IsRead d n ⊎ Tells n d.conn.state.events

pub steady_same : (c : Carrier) → Steady c c
steady_same c = record { numbers = λ r. r; read = λ r n h. h }

steady_then : (c d e : Carrier) → Steady c d → Steady d e → Steady c e
steady_then c d e a b = record { numbers = λ r. b.numbers (a.numbers r); read = λ r n h. b.read (a.numbers r) n (a.read r n h) }

-- the inlets are as they were, and so is each text
steady_text : (c d : Carrier) → Still c.conn.state d.conn.state → d.inlets ≡ c.inlets → (Orderly c.conn.state → SameText c.conn.state d.conn.state) → Steady c d
steady_text c d a same text = record {
  numbers = a.numbers;
  read = λ r n h. subst (λ is. IsReadAt (inlet_at is n) (text_of d.conn.state n)) (sym same) (subst (λ t. IsReadAt (inlet_at c.inlets n) t) (sym (text r n)) h);
}

telling_text : (c d : Carrier) → (Orderly c.conn.state → Orderly d.conn.state) → d.inlets ≡ c.inlets → (Orderly c.conn.state → SameText c.conn.state d.conn.state) → Telling c d
telling_text c d numbers same text = record {
  numbers = numbers;
  read = λ r n h. inl (subst (λ is. IsReadAt (inlet_at is n) (text_of d.conn.state n)) (sym same) (subst (λ t. IsReadAt (inlet_at c.inlets n) t) (sym (text r n)) h));
}

steady_if : (b : Bool) (c d e : Carrier) → Steady c d → Steady c e → Steady c (cond b d e)
steady_if true c d e p q = p
steady_if false c d e p q = q

same_if : (b : Bool) (s t u : State) → SameText s t → SameText s u → SameText s (cond b t u)
same_if true s t u p q = p
same_if false s t u p q = q

same_unless : (r : Option QueueRefusal) (s t : State) → SameText s t → SameText s (unless_refused r s t)
same_unless None s t p = p
same_unless (Some r) s t p = λ n. refl

same_itself : (s : State) → SameText s s
same_itself s n = refl

-- ---- text is read

-- the own stream, and another one
by_own : (P : ℕ → Type 0) (m n : ℕ) → P m → ((m ≡ n → ⊥) → P n) → P n
by_own P m n own other = by_test (eqb m n) refl
  where
    by_test : (b : Bool) → eqb m n ≡ b → P n
    by_test true t = subst P (eqb-true m n t) own
    by_test false t = other (eqb-false m n t)

pub after_read_own : (m : ℕ) (c : Carrier) → Orderly c.conn.state → read_count (inlet_at (after_read m c).inlets m) (text_of (after_read m c).conn.state m) ≡ 0
unfolding after_read
after_read_own m c r =
    let text : List ℕ = text_of c.conn.state m in
    let o : Option Inlet = inlet_at c.inlets m in
    let own = inlet_own c.inlets m (with_read text) (λ i. refl) in
    let left = take_own c.conn.state m (read_count o text) r in
    ap (λ p. read_count p (text_of (after_take m (read_count o text) c.conn.state) m)) own ∙ ap (λ t. read_count (changed_inlet (with_read text) o) t) left ∙ reads_all o text

after_read_other : (m n : ℕ) (c : Carrier) → Orderly c.conn.state → (m ≡ n → ⊥) → IsRead c n → IsRead (after_read m c) n
unfolding after_read
after_read_other m n c r other h =
    let text : List ℕ = text_of c.conn.state m in
    let inlet = inlet_other c.inlets m n (with_read text) (λ i. refl) other in
    let left = take_other c.conn.state m n (read_count (inlet_at c.inlets m) text) r other in
    subst (λ p. IsReadAt p (text_of (after_take m (read_count (inlet_at c.inlets m) text) c.conn.state) n)) (sym inlet) (subst (λ t. IsReadAt (inlet_at c.inlets n) t) (sym left) h)

-- of each stream but one
read_but : (m : ℕ) (c d : Carrier) → Orderly d.conn.state → ((n : ℕ) → (m ≡ n → ⊥) → IsRead c n → IsRead d n) → (n : ℕ) → IsRead c n → IsRead (after_read m d) n
read_but m c d r others n = by_own (λ k. IsRead c k → IsRead (after_read m d) k) m n (λ h. inl (after_read_own m d r)) (λ other h. after_read_other m n d r other (others n other h))

pub read_steady : (m : ℕ) (c : Carrier) → Steady c (after_read m c)
read_steady m c = record { numbers = (read_quiet m c).numbers; read = λ r. read_but m c c r (λ n other h. h) }

inlet_kept : (m n : ℕ) (f : Inlet → Inlet) (c : Carrier) → KeepsStream f → (m ≡ n → ⊥) → IsRead c n → IsRead (on_inlet m f c) n
inlet_kept m n f c keeps other h = subst (λ o. IsReadAt o (text_of c.conn.state n)) (sym (inlet_other c.inlets m n f keeps other)) h

pub taken_steady : (m : ℕ) (c : Carrier) → Steady c (taken_from m c)
unfolding taken_from
taken_steady m c = record {
  numbers = λ r. (read_quiet m (on_inlet m with_popped c)).numbers r;
  read = λ r. read_but m c (on_inlet m with_popped c) r (λ n other h. inlet_kept m n with_popped c (λ i. refl) other h);
}

deaf_steady : (m : ℕ) (c : Carrier) → Steady c (deafened m c)
unfolding deafened
deaf_steady m c =
    let d : Carrier = record c { inlets = without stream_of c.inlets m } in
    record {
      numbers = λ r. (read_quiet m d).numbers r;
      read = λ r. read_but m c d r (λ n other h. subst (λ o. IsReadAt o (text_of c.conn.state n)) (sym (inlet_left c.inlets m n other)) h);
    }

-- ---- an inlet changes

own_read : (f : Inlet → Inlet) → ((o : Option Inlet) (text : List ℕ) → IsReadAt o text → IsReadAt (changed_inlet f o) text) → KeepsStream f → (m : ℕ) (c : Carrier) → Steady c (on_inlet m f c)
own_read f step keeps m c = record { numbers = λ r. r; read = λ r n. by_own (λ k. IsRead c k → IsRead (on_inlet m f c) k) m n own (λ other h. inlet_kept m n f c keeps other h) }
  where
    own : IsRead c m → IsRead (on_inlet m f c) m
    own h = subst (λ o. IsReadAt o (text_of c.conn.state m)) (sym (inlet_own c.inlets m f keeps)) (step (inlet_at c.inlets m) (text_of c.conn.state m) h)

pub ended_steady : (m : ℕ) (c : Carrier) → Steady c (on_inlet m with_end c)
ended_steady = own_read with_end step (λ i. refl)
  where
    step : (o : Option Inlet) (text : List ℕ) → IsReadAt o text → IsReadAt (changed_inlet with_end o) text
    step None text h = h
    step (Some i) text (inl e) = inl e
    step (Some i) text (inr cut) = inr (refl, cut.1)

pub reset_steady : (m : ℕ) (c : Carrier) → Steady c (on_inlet m with_reset c)
reset_steady = own_read with_reset step (λ i. refl)
  where
    step : (o : Option Inlet) (text : List ℕ) → IsReadAt o text → IsReadAt (changed_inlet with_reset o) text
    step None text h = h
    step (Some i) text h = inr (refl, refl)

-- one more: text that nobody had was all dropped
inlet_comes : (s n : ℕ) (w : Who) (c : Carrier) → IsRead c n → IsRead (with_inlet s w c) n
inlet_comes s n w c h = by_found (inlet_at c.inlets n) refl h
  where
    no_text : (text : List ℕ) → IsReadAt None text → text ≡ []
    no_text [] t = refl
    no_text (x ∷ text) (inl e) = absurd cc
    no_text (x ∷ text) (inr cut) = absurd cut

    by_found : (o : Option Inlet) → inlet_at c.inlets n ≡ o → IsReadAt o (text_of c.conn.state n) → IsReadAt (inlet_at (c.inlets ++ new_inlet s w ∷ []) n) (text_of c.conn.state n)
    by_found None e t = inl (nothing_read (inlet_at (c.inlets ++ new_inlet s w ∷ []) n) (text_of c.conn.state n) (no_text (text_of c.conn.state n) t))
    by_found (Some x) e t = subst (λ o. IsReadAt o (text_of c.conn.state n)) (sym (inlet_more c.inlets n (new_inlet s w) x e)) t

-- ---- calls

finished_text : (s : ℕ) (fields : List Field) (t : State) → SameText t (finished s fields t)
unfolding finished
finished_text s fields t =
    same_if (is_client t.role) t t (unless_refused (refusal takes_more t s) t (after_finish s fields t)) (same_itself t) (same_unless (refusal takes_more t s) t (after_finish s fields t) (finish_text s fields t))

inlets_if : (b : Bool) (c d : Carrier) → d.inlets ≡ c.inlets → (cond b c d).inlets ≡ c.inlets
inlets_if true c d e = refl
inlets_if false c d e = e

lost_text : (b : Bool) (c d : Carrier) → SameText c.conn.state d.conn.state → SameText c.conn.state (cond b c d).conn.state
lost_text true c d e = same_itself c.conn.state
lost_text false c d e = e

pub finish_steady : (s : ℕ) (fields : List Field) (c : Carrier) → Steady c (finish_stream s fields c)
finish_steady s fields c =
    steady_text c (finish_stream s fields c) (finish_quiet s fields c) (inlets_if c.lost c (on_conn (finished s fields) c) refl) (λ r. lost_text c.lost c (on_conn (finished s fields) c) (finished_text s fields c.conn.state))

queued_numbers : (m : ℕ) (bytes : List ℕ) (s : State) → Orderly s → Orderly (queued m bytes s)
unfolding queued
queued_numbers m bytes s r = by_tests (awaits_answer s m) (is_over s m) (is_full s m)
  where
    by_tests : (x y z : Bool) → Orderly (cond x s (cond y s (cond z s (after_queue m bytes s))))
    by_tests true y z = r
    by_tests false true z = r
    by_tests false false true = r
    by_tests false false false = queue_numbers m bytes s r

queued_text : (m : ℕ) (bytes : List ℕ) (s : State) → SameText s (queued m bytes s)
unfolding queued
queued_text m bytes s = by_tests (awaits_answer s m) (is_over s m) (is_full s m)
  where
    by_tests : (x y z : Bool) → SameText s (cond x s (cond y s (cond z s (after_queue m bytes s))))
    by_tests true y z = same_itself s
    by_tests false true z = same_itself s
    by_tests false false true = same_itself s
    by_tests false false false = queue_text m bytes s

queue_steady : (m : ℕ) (bytes : List ℕ) (c : Carrier) → Steady c (queue_bytes m bytes c)
queue_steady m bytes c =
    steady_if c.lost c c (on_conn (queued m bytes) c) (steady_same c)
    (record { numbers = queued_numbers m bytes c.conn.state; read = λ r n h. subst (λ t. IsReadAt (inlet_at c.inlets n) t) (sym (queued_text m bytes c.conn.state n)) h })

took_steady : (count : ℕ) (c : Carrier) → Steady c (took count c)
took_steady count c =
    steady_if c.lost c c (on_conn (after_took count) c) (steady_same c)
    (record { numbers = (took_still count c.conn.state).numbers; read = λ r n h. subst (λ t. IsReadAt (inlet_at c.inlets n) t) (sym (took_text count c.conn.state n)) h })

pub write_steady : (m : Move) (c : Carrier) → Steady c (after_write m c)
write_steady m c = steady_text c (after_write m c) (write_quiet m c) refl (λ r. move_text m c.conn.state r)

answered_text : (s : ℕ) (fields : List Field) (t : State) → SameText t (answered s fields t)
unfolding answered
answered_text s fields t = same_if (awaits_answer t s) t (unless_refused (refusal takes_more t s) t (after_answer s fields t)) t (same_unless (refusal takes_more t s) t (after_answer s fields t) (answer_text s fields t)) (same_itself t)

pub accepted_telling : (s : ℕ) (w : Who) (fields : List Field) (c : Carrier) → Telling c (accepted s w fields c)
accepted_telling s w fields c = record {
  numbers = (accepted_noisy s w fields c).numbers;
  read = λ r n h. inl (by_lost c.lost n (inlet_comes s n w c h));
}
  where
    by_lost : (b : Bool) (n : ℕ) → IsRead (with_inlet s w c) n → IsRead (cond b (with_inlet s w c) (on_conn (answered s fields) (with_inlet s w c))) n
    by_lost true n h = h
    by_lost false n h = subst (λ t. IsReadAt (inlet_at (with_inlet s w c).inlets n) t) (sym (answered_text s fields c.conn.state n)) h

reset_with_text : (s code : ℕ) (t : State) → Orderly t → SameText t (reset_with s code t)
unfolding reset_with
reset_with_text s code t r = same_unless (refusal (λ st. st.own_open) t s) t (after_reset s code t) (reset_text s code t r)

pub reset_telling : (s code : ℕ) (c : Carrier) → Telling c (reset_stream s code c)
reset_telling s code c =
    telling_text c (reset_stream s code c) (reset_noisy s code c).numbers (inlets_if c.lost c (on_conn (reset_with s code) c) refl) (λ r. lost_text c.lost c (on_conn (reset_with s code) c) (reset_with_text s code c.conn.state r))

-- ---- a piece of the peer's bytes

pub fed_telling : (piece : List ℕ) (c : Carrier) → Telling c (fed_with piece c)
fed_telling piece c = record { numbers = (fed_noisy piece c).numbers; read = λ r n h. by_text n (inlet_at c.inlets n) h (piece_brings c.conn piece n r) }
  where
    t : State
    t = (fed_with piece c).conn.state

    by_cases : (n : ℕ) (o : Option Inlet) (told : List H2Event) → IsReadAt o (text_of c.conn.state n) → t.events ≡ c.conn.state.events ++ told → StaysOrGoes n c.conn.state t ⊎ TellsText n told → IsReadAt o (text_of t n) ⊎ Tells n t.events
    by_cases n o told h e (inl (inl same)) = inl (subst (λ x. IsReadAt o x) (sym same) h)
    by_cases n o told h e (inl (inr gone)) = inl (inl (nothing_read o (text_of t n) gone))
    by_cases n o told h e (inr g) =
        inr (subst (Tells n) (sym e) (tells_behind n c.conn.state.events told (subst (Tells n) (sym g.2) (told_there n g.0 g.1))))

    by_text : (n : ℕ) (o : Option Inlet) → IsReadAt o (text_of c.conn.state n) → BringsText n c.conn.state t → IsReadAt o (text_of t n) ⊎ Tells n t.events
    by_text n o h b = by_cases n o b.told h b.events b.text

-- ---- ends

-- what is read of a connection stays so
pub record Keeps (g : End → End) : Type 0 where
  pub streams : (for_agents : Bool) (c : Carrier) → (d : Carrier) × (g (Streams for_agents c) ≡ Streams for_agents d) × Steady c d
  pub doors : (d : Door) → (e : Door) × (g (Connect d) ≡ Connect e)

pub on_carrier_keeps : (h : Carrier → Carrier) → ((c : Carrier) → Steady c (h c)) → Keeps (on_carrier h)
on_carrier_keeps h steady = record { streams = λ k c. (h c, refl, steady c); doors = λ d. (d, refl) }

pub on_door_keeps : (h : Door → Door) → Keeps (on_door h)
on_door_keeps h = record { streams = λ k c. (c, refl, steady_same c); doors = λ d. (h d, refl) }

pub given_keeps : (p : Packet) (s : ℕ) → Keeps (given s p)
given_keeps p s = record { streams = λ k c. (queue_bytes s (framed p) c, refl, queue_steady s (framed p) c); doors = λ d. (door.given p d, refl) }

pub closed_keeps : (status s : ℕ) → Keeps (closed status s)
closed_keeps status s = record {
  streams = λ k c. (
    finish_stream s (trailers status) (deafened s c),
    refl,
    steady_then c (deafened s c) (finish_stream s (trailers status) (deafened s c)) (deaf_steady s c) (finish_steady s (trailers status) (deafened s c)),
  );
  doors = λ d. (door.ended d, refl);
}

pub took_keeps : (count : ℕ) → Keeps (one.took count)
took_keeps count = record { streams = λ k c. (took count c, refl, took_steady count c); doors = λ d. (door.took count d, refl) }

pub lost_keeps : Keeps one.lost
lost_keeps = record { streams = λ k c. (with_loss c, refl, record { numbers = λ r. r; read = λ r n h. h }); doors = λ d. (door.lost d, refl) }
