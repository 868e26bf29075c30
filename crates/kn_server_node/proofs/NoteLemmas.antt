-- The notes of connections are kept.
use Rattle.std.proofs.Common.{◌≡◌, ℕ, Bool, true, false, cond, List, [], ◌∷◌, ◌++◌, length, refl, sym, ◌∙◌, subst, Some, None, Option}
use Rattle.std.specs.Prelude.{eqb, ◌||◌, ◌&&◌, not, Result, Ok, Err, OnOk, OnErr}
use Rattle.std.proofs.lemmas.Bool.{eqb-true, eqb-false, eq-eqb}
use Rattle.kn_packet.specs.declared.packet.Packet.{Packet}
use Rattle.kn_packet.specs.declared.packet.Packet.TheVariants.{DialReq, DialRsp, CloseReq, CloseRsp, Data, DialCls, Drain, Other}
use Rattle.kn_connect.specs.declared.answer.ConnectError.{ConnectError}
use Rattle.kn_connect.specs.declared.answer.ConnectAnswer.{ConnectAnswer}
use Rattle.kn_grpc.specs.Packets.{framed}
use Rattle.kn_h2_state.specs.declared.moves.Move.{Move}
use Rattle.kn_ends.specs.declared.inlet.Inlet.{Inlet}
use Rattle.kn_ends.specs.declared.carrier.Carrier.{Carrier}
use Rattle.kn_ends.specs.Numbers.{at as inlet_by}
use Rattle.kn_ends.specs.Carriers.{inlet_at, on_conn, queued}
use Rattle.kn_ends.specs.Queues.{is_empty}
use Rattle.kn_rising.specs.Members.{Members, place_in, at, with, change, changed, inserted, without, none}
use Rattle.kn_server_node.specs.declared.door.Door.{Door}
use Rattle.kn_server_node.specs.declared.end.End.{End}
use Rattle.kn_server_node.specs.declared.end.End.TheVariants.{Streams, Connect}
use Rattle.kn_server_node.specs.declared.notes.Notes.{Notes}
use Rattle.kn_server_node.specs.Doors as door
use Rattle.kn_server_node.specs.Doors.{opened, refused}
use Rattle.kn_server_node.specs.Ends.{given, may_write, is_over, Filled, FillsAt, HearsHead}
use Rattle.kn_server_node.specs.Noting.{is_in, noted, without_number, inlet_has, any_in, has_front, AreNoted, Keeps, AreIn}
use Rattle.kn_server_node.proofs.MemberLemmas.{at_with, length_set, with_others, change_others, change_same, without_others, inserted_others}

-- ---- numbers

pub in_appended : (d n : ℕ) (xs : List ℕ) → is_in d xs ≡ true → is_in d (xs ++ n ∷ []) ≡ true
in_appended d n [] h = absurd cc
in_appended d n (x ∷ xs) h = by_test (eqb x d) h (in_appended d n xs)
  where
    by_test : (b : Bool) → (b || is_in d xs) ≡ true → (is_in d xs ≡ true → is_in d (xs ++ n ∷ []) ≡ true) → (b || is_in d (xs ++ n ∷ [])) ≡ true
    by_test true h rest = refl
    by_test false h rest = rest h

pub last_in : (n : ℕ) (xs : List ℕ) → is_in n (xs ++ n ∷ []) ≡ true
last_in n [] = rw (eq-eqb n n refl) refl
last_in n (x ∷ xs) = by_test (eqb x n) (last_in n xs)
  where
    by_test : (b : Bool) → is_in n (xs ++ n ∷ []) ≡ true → (b || is_in n (xs ++ n ∷ [])) ≡ true
    by_test true h = refl
    by_test false h = h

pub noted_in : (n : ℕ) (xs : List ℕ) → is_in n (noted n xs) ≡ true
noted_in n xs = by_test (is_in n xs) refl
  where
    by_test : (b : Bool) → is_in n xs ≡ b → is_in n (cond b xs (xs ++ n ∷ [])) ≡ true
    by_test true h = h
    by_test false h = last_in n xs

pub noted_keeps : (n : ℕ) (xs : List ℕ) (d : ℕ) → is_in d xs ≡ true → is_in d (noted n xs) ≡ true
noted_keeps n xs d h = by_test (is_in n xs)
  where
    by_test : (b : Bool) → is_in d (cond b xs (xs ++ n ∷ [])) ≡ true
    by_test true = h
    by_test false = in_appended d n xs h

pub without_keeps : (n : ℕ) (xs : List ℕ) (d : ℕ) → eqb d n ≡ false → is_in d xs ≡ true → is_in d (without_number n xs) ≡ true
without_keeps n [] d e h = absurd cc
without_keeps n (x ∷ xs) d e h = by_tests (eqb x n) refl (eqb x d) refl h (without_keeps n xs d e)
  where
    by_tests : (b : Bool) → eqb x n ≡ b → (c : Bool) → eqb x d ≡ c → (c || is_in d xs) ≡ true → (is_in d xs ≡ true → is_in d (without_number n xs) ≡ true)
        → is_in d (cond (not b) (x ∷ without_number n xs) (without_number n xs)) ≡ true
    by_tests true p true q h rest = absurd (eqb-false d n e (sym (eqb-true x d q) ∙ eqb-true x n p))
    by_tests true p false q h rest = rest h
    by_tests false p true q h rest = rw q refl
    by_tests false p false q h rest = rw q (rest h)

-- ---- notes

pub none_noted : (notes : Notes) → AreNoted none notes
unfolding has_front
none_noted notes = record { same = refl; fronts = λ c s h. absurd cc; writes = λ c m h. absurd cc; overs = λ c h. absurd cc }

pub keeps_noted : (ends : Members End) (old new : Notes) → AreNoted ends old → Keeps old new → AreNoted ends new
keeps_noted ends old new are keeps = record {
  same = are.same;
  fronts = λ c s h. keeps.ready c (are.fronts c s h);
  writes = λ c m h. keeps.due c (are.writes c m h);
  overs = λ c h. keeps.due c (are.overs c h);
}

-- what was said of the connections of all other numbers
abbrev OthersStay : ℕ → Members End → Members End → Type 0
OthersStay n old new = (d : ℕ) → eqb d n ≡ false → at new d ≡ at old d

others_noted : (n : ℕ) (old new : Members End) (notes : Notes) → AreNoted old notes → AreIn n notes → length new.items ≡ length new.numbers → OthersStay n old new → AreNoted new notes
others_noted n old new notes are here same stay = record {
  same = same;
  fronts = λ c s h. by_front c s (eqb c n) refl h;
  writes = λ c m h. by_write c m (eqb c n) refl h;
  overs = λ c h. by_over c (eqb c n) refl h;
}
  where
    by_front : (c s : ℕ) (b : Bool) → eqb c n ≡ b → has_front (at new c) s ≡ true → is_in c notes.ready ≡ true
    by_front c s true e h = rw (eqb-true c n e) here.ready
    by_front c s false e h = are.fronts c s (rw (← stay c e) h)

    by_write : (c : ℕ) (m : Move) (b : Bool) → eqb c n ≡ b → may_write (at new c) m ≡ true → is_in c notes.due ≡ true
    by_write c m true e h = rw (eqb-true c n e) here.due
    by_write c m false e h = are.writes c m (rw (← stay c e) h)

    by_over : (c : ℕ) (b : Bool) → eqb c n ≡ b → is_over (at new c) ≡ true → is_in c notes.due ≡ true
    by_over c true e h = rw (eqb-true c n e) here.due
    by_over c false e h = are.overs c (rw (← stay c e) h)

pub change_noted : (n : ℕ) (f : End → End) (old new : Members End) (notes : Notes) → new ≡ change old n f → AreNoted old notes → AreIn n notes → AreNoted new notes
change_noted n f old new notes is are here = rw is (others_noted n old (change old n f) notes are here (change_same old n f are.same) (λ d e. change_others old n d f are.same e))

pub inserted_noted : (n : ℕ) (e : End) (old new : Members End) (notes : Notes) → new ≡ inserted old n e → length new.items ≡ length new.numbers → AreNoted old notes → AreIn n notes → AreNoted new notes
inserted_noted n e old new notes is same are here = others_noted n old new notes are here same (λ d apart. rw is (inserted_others old n d e are.same apart))

-- ---- a packet that is given brings nothing to handle

early_less : (p : Packet) (d : Door) → not (is_empty (door.given p d).early) ≡ true → not (is_empty d.early) ≡ true
unfolding opened refused
early_less (DialRsp [] id random) d h = h
early_less (DialRsp (x ∷ xs) id random) d h = absurd cc
early_less (Data id error bytes) d h = h
early_less (DialReq protocol address random) d h = h
early_less (CloseReq id) d h = h
early_less (CloseRsp error id) d h = h
early_less (DialCls random) d h = h
early_less Drain d h = h
early_less (Other number) d h = h

given_front : (s : ℕ) (p : Packet) (e : End) (t : ℕ) → has_front (Some (given s p e)) t ≡ true → has_front (Some e) t ≡ true
unfolding has_front
given_front s p (Streams k c) t h = by_lost c.lost (on_conn (queued s (framed p)) c) refl h
  where
    by_lost : (b : Bool) (x : Carrier) → x.inlets ≡ c.inlets → inlet_has (inlet_at (cond b c x).inlets t) ≡ true → inlet_has (inlet_at c.inlets t) ≡ true
    by_lost true x same h = h
    by_lost false x same h = rw (← same) h
given_front s p (Connect d) t h = by_test (eqb t 0) h
  where
    by_test : (b : Bool) → (b && not (is_empty (door.given p d).early)) ≡ true → (b && not (is_empty d.early)) ≡ true
    by_test true h = early_less p d h
    by_test false h = h

given_here : (n s : ℕ) (p : Packet) (m : Members End) (t : ℕ) → has_front (at (change m n (given s p)) n) t ≡ true → has_front (at m n) t ≡ true
given_here n s p m t h = by_found (at m n) refl h
  where
    by_found : (found : Option End) → at m n ≡ found → has_front (at (changed m n (given s p) found) n) t ≡ true → has_front found t ≡ true
    by_found None is h = rw (← is) h
    by_found (Some e) is h = given_front s p e t (rw (← at_with m n e (given s p e) is) h)

pub give_noted : (n s : ℕ) (p : Packet) (old new : Members End) (notes : Notes) → new ≡ change old n (given s p) → AreNoted old notes → is_in n notes.due ≡ true → AreNoted new notes
give_noted n s p old new notes is are here = rw is (record {
  same = change_same old n (given s p) are.same;
  fronts = λ c t h. by_front c t (eqb c n) refl h;
  writes = λ c m h. by_write c m (eqb c n) refl h;
  overs = λ c h. by_over c (eqb c n) refl h;
})
  where
    stays : (d : ℕ) → eqb d n ≡ false → at (change old n (given s p)) d ≡ at old d
    stays d e = change_others old n d (given s p) are.same e

    by_front : (c t : ℕ) (b : Bool) → eqb c n ≡ b → has_front (at (change old n (given s p)) c) t ≡ true → is_in c notes.ready ≡ true
    by_front c t true e h = are.fronts c t (subst (λ k. has_front (at old k) t ≡ true) (sym (eqb-true c n e)) (given_here n s p old t (subst (λ k. has_front (at (change old n (given s p)) k) t ≡ true) (eqb-true c n e) h)))
    by_front c t false e h = are.fronts c t (rw (← stays c e) h)

    by_write : (c : ℕ) (m : Move) (b : Bool) → eqb c n ≡ b → may_write (at (change old n (given s p)) c) m ≡ true → is_in c notes.due ≡ true
    by_write c m true e h = rw (eqb-true c n e) here
    by_write c m false e h = are.writes c m (rw (← stays c e) h)

    by_over : (c : ℕ) (b : Bool) → eqb c n ≡ b → is_over (at (change old n (given s p)) c) ≡ true → is_in c notes.due ≡ true
    by_over c true e h = rw (eqb-true c n e) here
    by_over c false e h = are.overs c (rw (← stays c e) h)

-- ---- what is written, and what a head hears

pub filled_noted : (n : ℕ) (old new : Members End) (notes : Notes) → FillsAt n old new → AreNoted old notes → AreIn n notes → AreNoted new notes
filled_noted n old new notes fills are here = by_found (at old n) fills
  where
    by_found : (found : Option End) → Filled found old n new → AreNoted new notes
    by_found None is = rw is are
    by_found (Some e) f = rw f.2 (others_noted n old (with old n f.0) notes are here (length_set old.items (place_in old.numbers n) f.0 ∙ are.same) (λ d apart. with_others old.numbers old.items n d f.0 are.same apart))

pub heard_noted : (n : ℕ) (piece : List ℕ) (answer : Result ConnectAnswer ConnectError) (old new : Members End) (notes : Notes) → HearsHead n piece (at old n) old answer new → AreNoted old notes → AreIn n notes → AreNoted new notes
heard_noted n piece answer old new notes hears are here = by_found (at old n) hears
  where
    by_found : (found : Option End) → HearsHead n piece found old answer new → AreNoted new notes
    by_found None is = rw is are
    by_found (Some e) f = rw f.2 (others_noted n old (with old n f.0) notes are here (length_set old.items (place_in old.numbers n) f.0 ∙ are.same) (λ d apart. with_others old.numbers old.items n d f.0 are.same apart))

pub forgotten_noted : (n : ℕ) (old new : Members End) (notes : Notes) → new ≡ without old n → length new.items ≡ length new.numbers → AreNoted old notes → AreIn n notes → AreNoted new notes
forgotten_noted n old new notes is same are here = others_noted n old new notes are here same (λ d apart. rw is (without_others old n d are.same apart))

-- ---- a number is noted, or is none any more

pub noted_by : {A E : Type 0} (r : Result A E) (n : ℕ) (old new : List ℕ) → OnOk r (new ≡ noted n old) → OnErr r (new ≡ old) → (d : ℕ) → is_in d old ≡ true → is_in d new ≡ true
noted_by (Ok x) n old new ok err d h = rw ok (noted_keeps n old d h)
noted_by (Err e) n old new ok err d h = rw err h

false_by : (b : Bool) → (b ≡ true → ⊥) → b ≡ false
false_by true none = absurd (none refl)
false_by false none = refl

nothing : (c : ℕ) → is_in c [] ≡ true → ⊥
nothing c h = absurd cc

pub nobody_writes : (ends : Members End) (notes : Notes) → AreNoted ends notes → notes.due ≡ [] → (c : ℕ) (m : Move) → may_write (at ends c) m ≡ false
nobody_writes ends notes are none c m = false_by (may_write (at ends c) m) (λ h. nothing c (subst (λ xs. is_in c xs ≡ true) none (are.writes c m h)))

pub nobody_over : (ends : Members End) (notes : Notes) → AreNoted ends notes → notes.due ≡ [] → (c : ℕ) → is_over (at ends c) ≡ false
nobody_over ends notes are none c = false_by (is_over (at ends c)) (λ h. nothing c (subst (λ xs. is_in c xs ≡ true) none (are.overs c h)))

pub rested_noted : (n : ℕ) (ends : Members End) (ready due more : List ℕ) → more ≡ without_number n ready → AreNoted ends (record { ready = ready; due = due }) → ((s : ℕ) → has_front (at ends n) s ≡ false) → AreNoted ends (record { ready = more; due = due })
rested_noted n ends ready due more is are none = record {
  same = are.same;
  fronts = λ c s h. by_front c s (eqb c n) refl h;
  writes = are.writes;
  overs = are.overs;
}
  where
    absent : (c s : ℕ) → eqb c n ≡ true → has_front (at ends c) s ≡ true → ⊥
    absent c s e h =
        let same : c ≡ n = eqb-true c n e in
        let never : has_front (at ends c) s ≡ false = rw same (none s) in
        cc

    by_front : (c s : ℕ) (b : Bool) → eqb c n ≡ b → has_front (at ends c) s ≡ true → is_in c more ≡ true
    by_front c s true e h = absurd (absent c s e h)
    by_front c s false e h = rw is (without_keeps n ready c e (are.fronts c s h))

pub done_noted : (n : ℕ) (ends : Members End) (ready due more : List ℕ) → more ≡ without_number n due → AreNoted ends (record { ready = ready; due = due }) → ((m : Move) → may_write (at ends n) m ≡ false) → is_over (at ends n) ≡ false → AreNoted ends (record { ready = ready; due = more })
done_noted n ends ready due more is are written over = record {
  same = are.same;
  fronts = are.fronts;
  writes = λ c m h. by_write c m (eqb c n) refl h;
  overs = λ c h. by_over c (eqb c n) refl h;
}
  where
    silent : (c : ℕ) (m : Move) → eqb c n ≡ true → may_write (at ends c) m ≡ true → ⊥
    silent c m e h =
        let same : c ≡ n = eqb-true c n e in
        let never : may_write (at ends c) m ≡ false = rw same (written m) in
        cc

    alive : (c : ℕ) → eqb c n ≡ true → is_over (at ends c) ≡ true → ⊥
    alive c e h =
        let same : c ≡ n = eqb-true c n e in
        let never : is_over (at ends c) ≡ false = rw same over in
        cc

    by_write : (c : ℕ) (m : Move) (b : Bool) → eqb c n ≡ b → may_write (at ends c) m ≡ true → is_in c more ≡ true
    by_write c m true e h = absurd (silent c m e h)
    by_write c m false e h = rw is (without_keeps n due c e (are.writes c m h))

    by_over : (c : ℕ) (b : Bool) → eqb c n ≡ b → is_over (at ends c) ≡ true → is_in c more ≡ true
    by_over c true e h = absurd (alive c e h)
    by_over c false e h = rw is (without_keeps n due c e (are.overs c h))

-- none of them has anything at its front
pub any_none : (is : List Inlet) → any_in is ≡ false → (s : ℕ) → inlet_has (inlet_at is s) ≡ false
unfolding inlet_by
any_none [] none s = refl
any_none (i ∷ is) none s = by_first (inlet_has (Some i)) refl none (any_none is)
  where
    by_stream : (t : Bool) → inlet_has (Some i) ≡ false → inlet_has (inlet_at is s) ≡ false → inlet_has (cond t (Some i) (inlet_at is s)) ≡ false
    by_stream true here rest = here
    by_stream false here rest = rest

    by_first : (b : Bool) → inlet_has (Some i) ≡ b → (b || any_in is) ≡ false → (any_in is ≡ false → (s : ℕ) → inlet_has (inlet_at is s) ≡ false) → inlet_has (cond (eqb i.stream s) (Some i) (inlet_at is s)) ≡ false
    by_first true e h rest = absurd cc
    by_first false e h rest = by_stream (eqb i.stream s) e (rest h s)

pub and_false : (a b : Bool) → b ≡ false → (a && b) ≡ false
and_false true b h = h
and_false false b h = refl

pub none_has : (s : ℕ) → has_front None s ≡ false
unfolding has_front
none_has s = refl

pub streams_none : (e : End) (k : Bool) (c : Carrier) (inlets : List Inlet) → e ≡ Streams k c → inlets ≡ c.inlets → ((s : ℕ) → inlet_has (inlet_at inlets s) ≡ false) → (s : ℕ) → has_front (Some e) s ≡ false
unfolding has_front
streams_none e k c inlets is same none s =
    subst (λ x. has_front (Some x) s ≡ false) (sym is) (subst (λ xs. inlet_has (inlet_at xs s) ≡ false) same (none s))

pub door_none : (e : End) (d : Door) → e ≡ Connect d → not (is_empty d.early) ≡ false → (s : ℕ) → has_front (Some e) s ≡ false
unfolding has_front
door_none e d is none s = subst (λ x. has_front (Some x) s ≡ false) (sym is) (and_false (eqb s 0) (not (is_empty d.early)) none)
