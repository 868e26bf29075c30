-- Which connections are given and at hand.
use Rattle.std.proofs.Common.{◌≡◌, ℕ, ◌==◌, ◌+◌, ◌-◌, Bool, true, false, List, [], ◌∷◌, ◌++◌, ◌<◌, ◌≤◌, None, Some, sym, refl, ap, ◌∙◌, subst, arith}
use Rattle.std.specs.Prelude.{Option, is_some, if◌then◌else◌}
use Rattle.std.specs.Option.{option_map}
use Rattle.kn_port.specs.declared.names.Gate.{Gate}
use Rattle.kn_port.specs.declared.names.Ready.{Ready}
use Rattle.kn_port.specs.declared.names.Ready.TheVariants as ready
use Rattle.kn_port.specs.declared.names.Accepted.TheVariants as accepted
use Rattle.kn_port.specs.declared.names.Dialled.TheVariants as dialled
use Rattle.kn_port.specs.declared.entry.Entry.{Entry}
use Rattle.kn_port.specs.declared.entry.Entry.TheVariants as entry
use Rattle.kn_port.specs.Journal.{Tells, TellsShut, is_open, open_from, open_after}
use Rattle.kn_loop.specs.declared.line.Line.{Line}
use Rattle.kn_loop.specs.declared.watch.Watch.{Watch}
use Rattle.kn_loop.specs.Kept.{line_of}
use Rattle.kn_loop.specs.Watch.{lines_from, line_after, named_from, named_one, at_conn, line_named, line_read, line_wrote, line_dialled, new_line}
use Rattle.kn_loop.specs.Gates.{gates_named}
use Rattle.kn_loop.specs.Known.{Given, Begins, Forgets, Follows, Names}
use Rattle.kn_port.specs.declared.names.Waited.{Waited}
use Rattle.kn_loop.specs.Calls.{Answers, Call}
use Rattle.kn_loop.specs.Turns.{SameConns, AtHand, AreAllGiven, AreBusy, is_busy, is_due, Turned, WaitedOnce, Acted}

given_line : (P : Type 0) (x y : Option Line) → is_some y ≡ is_some x → ((l : Line) → x ≡ Some l → P) → (l : Line) → y ≡ Some l → P
given_line P None y e f l h = let no : true ≡ false = sym (ap is_some h) ∙ e in cc
given_line P (Some m) y e f l h = f m refl

pub given_same : (w0 w1 : Watch) (g0 g1 d0 d1 : ℕ) → Given w0 g0 d0 → SameConns (line_of w0.lines) (line_of w1.lines) → w1.held ≡ w0.held → g1 ≡ g0 → d1 ≡ d0 → Given w1 g1 d1
given_same w0 w1 g0 g1 d0 d1 p same held g d = record {
  lines = λ c. given_line ((0 < c) × (c ≤ g1)) (line_of w0.lines c) (line_of w1.lines c) (same c) (λ l h. subst (λ k. (0 < c) × (c ≤ k)) (sym g) (p.lines c l h));
  held = rw (held, d) p.held;
  below = rw (g, d) p.below;
}

given_begun_at : (n c g d : ℕ) (t : Bool) (x l0 l1 : Option Line) → (n == c) ≡ t → l1 ≡ (if n == c then x else l0) → ((l : Line) → l0 ≡ Some l → (0 < c) × (c ≤ g)) → g ≤ d → n ≡ d + 1
    → (l : Line) → l1 ≡ Some l → (0 < c) × (c ≤ n)
given_begun_at n c g d true x l0 l1 e f p below drawn l h = let same : n ≡ c = grind arith in grind arith
given_begun_at n c g d false x l0 l1 e f p below drawn l h =
    let was : (0 < c) × (c ≤ g) = p l (sym (f ∙ ap (λ b. if b then x else l0) e) ∙ h) in (was.0, omega arith)

pub given_begun : (n : ℕ) (dialling server : Bool) (w0 w1 : Watch) (g0 g1 d0 d1 : ℕ) → Given w0 g0 d0 → Begins n dialling server w0 w1 → n ≡ d0 + 1 → g1 ≡ n → d1 ≡ n → Given w1 g1 d1
given_begun n dialling server w0 w1 g0 g1 d0 d1 p b drawn g d = record {
  lines = λ c l h. subst (λ k. (0 < c) × (c ≤ k)) (sym g) (given_begun_at n c g0 d0 (n == c) (Some (new_line dialling server)) (line_of w0.lines c) (line_of w1.lines c) refl (b.lines c) (p.lines c) p.below drawn l h);
  held = let was : w0.held ≤ d0 = p.held in let now : w1.held ≡ w0.held + 1 = b.held in omega arith;
  below = omega arith;
}

given_shut_at : (n c : ℕ) (t : Bool) (l0 l1 : Option Line) (P : Type 0) → (n == c) ≡ t → l1 ≡ (if n == c then None else l0) → ((l : Line) → l0 ≡ Some l → P) → (l : Line) → l1 ≡ Some l → P
given_shut_at n c true l0 l1 P e f p l h = let no : None ≡ Some l = sym (f ∙ ap (λ b. if b then None else l0) e) ∙ h in cc
given_shut_at n c false l0 l1 P e f p l h = p l (sym (f ∙ ap (λ b. if b then None else l0) e) ∙ h)

pub given_forgets : (n : ℕ) (w0 w1 : Watch) (g d : ℕ) → Given w0 g d → Forgets n w0 w1 → Given w1 g d
given_forgets n w0 w1 g d p f = record {
  lines = λ c l h. given_shut_at n c (n == c) (line_of w0.lines c) (line_of w1.lines c) ((0 < c) × (c ≤ g)) refl (f.lines c) (p.lines c) l h;
  held = let was : w0.held ≤ d = p.held in let now : w1.held ≡ w0.held - 1 = f.held in omega arith;
  below = p.below;
}

given_one : (n top : ℕ) (x : Option Line) (a : Answers) → ((l : Line) → x ≡ Some l → (0 < n) × (n ≤ top)) → is_busy x a ≡ true → (0 < n) × (n ≤ top)
given_one n top None a f h = cc
given_one n top (Some l) a f h = f l refl

pub all_given : (ns : List ℕ) (w : Watch) (top drawn : ℕ) (s : ℕ → Answers) → Given w top drawn → AreBusy ns (line_of w.lines) s → AreAllGiven ns top
all_given [] w top drawn s g b = tt
all_given (n ∷ ns) w top drawn s g b =
    let one : (0 < n) × (n ≤ top) = given_one n top (line_of w.lines n) (s n) (g.lines n) b.0 in
    (one.0, one.1, all_given ns w top drawn s g b.2)

due_some : (x : Option Line) (a : Answers) → is_due x a ≡ true → is_some x ≡ true
due_some None a h = cc
due_some (Some l) a h = refl

due_given_at : (n top : ℕ) (x : Option Line) (a : Answers) → ((l : Line) → x ≡ Some l → (0 < n) × (n ≤ top)) → is_due x a ≡ true → (0 < n) × (n ≤ top)
due_given_at n top None a f h = cc
due_given_at n top (Some l) a f h = f l refl

pub due_given : (n : ℕ) (w : Watch) (top drawn : ℕ) (s : ℕ → Answers) → Given w top drawn → is_due (line_of w.lines n) (s n) ≡ true → (0 < n) × (n ≤ drawn)
due_given n w top drawn s g h =
    let one : (0 < n) × (n ≤ top) = due_given_at n top (line_of w.lines n) (s n) (g.lines n) h in
    let below : top ≤ drawn = g.below in (one.0, omega arith)

-- ---- at hand
named_some_at : (n c : ℕ) (t : Bool) (f : Line → Line) (l : Option Line) → (n == c) ≡ t → is_some (at_conn n f c l) ≡ is_some l
named_some_at n c true f None e = ap (λ b. is_some (if b then option_map f None else None)) e
named_some_at n c true f (Some l) e = ap (λ b. is_some (if b then option_map f (Some l) else Some l)) e
named_some_at n c false f l e = ap (λ b. is_some (if b then option_map f l else l)) e

pub changed_some : (n c : ℕ) (f : Line → Line) (l : Option Line) → is_some (at_conn n f c l) ≡ is_some l
changed_some n c f l = named_some_at n c (n == c) f l refl

one_some : (r : Ready) (c : ℕ) (l : Option Line) → is_some (named_one r c l) ≡ is_some l
one_some (ready.Conn n) c l = changed_some n c line_named l
one_some (ready.Gate g) c l = refl

pub named_some : (rs : List Ready) (c : ℕ) (l : Option Line) → is_some (named_from rs c l) ≡ is_some l
named_some [] c l = refl
named_some (r ∷ rs) c l = named_some rs c (named_one r c l) ∙ one_some r c l

begun_open : (t : Bool) (x : Line) (l : Option Line) (b : Bool) → (is_some l ≡ true → b ≡ true) → is_some (if t then Some x else l) ≡ true → (if t then true else b) ≡ true
begun_open true x l b f h = refl
begun_open false x l b f h = f h

shut_open : (t : Bool) (l : Option Line) (b : Bool) → (is_some l ≡ true → b ≡ true) → is_some (if t then None else l) ≡ true → (if t then false else b) ≡ true
shut_open true l b f h = h
shut_open false l b f h = f h

same_open : (x y : Bool) (b : Bool) → x ≡ y → (y ≡ true → b ≡ true) → x ≡ true → b ≡ true
same_open x y b e f h = f (sym e ∙ h)

open_step : (e : Entry) (c : ℕ) (l : Option Line) (b : Bool) → (is_some l ≡ true → b ≡ true) → is_some (line_after e c l) ≡ true → open_after e c b ≡ true
open_step (entry.Listen gate address answer) c l b f h = f h
open_step (entry.Wait names answer) c l b f h = same_open (is_some (named_from names c l)) (is_some l) b (named_some names c l) f h
open_step (entry.Accept gate (accepted.Conn n)) c l b f h = begun_open (n == c) (new_line false false) l b f h
open_step (entry.Accept gate accepted.NotYet) c l b f h = f h
open_step (entry.Accept gate accepted.Failed) c l b f h = f h
open_step (entry.Accept gate accepted.NoMemory) c l b f h = f h
open_step (entry.Dial address (dialled.Conn n)) c l b f h = begun_open (n == c) (new_line true false) l b f h
open_step (entry.Dial address dialled.Failed) c l b f h = f h
open_step (entry.Dial address dialled.NoMemory) c l b f h = f h
open_step (entry.DialEnd n answer) c l b f h = same_open (is_some (at_conn n (line_dialled answer) c l)) (is_some l) b (changed_some n c (line_dialled answer) l) f h
open_step (entry.Read n room bytes answer) c l b f h = same_open (is_some (at_conn n (line_read answer) c l)) (is_some l) b (changed_some n c (line_read answer) l) f h
open_step (entry.Write n given bytes answer) c l b f h = same_open (is_some (at_conn n (line_wrote answer) c l)) (is_some l) b (changed_some n c (line_wrote answer) l) f h
open_step (entry.Shut n) c l b f h = shut_open (n == c) l b f h

open_steps : (es : List Entry) (c : ℕ) (l : Option Line) (b : Bool) → (is_some l ≡ true → b ≡ true) → is_some (lines_from es c l) ≡ true → open_from es c b ≡ true
open_steps [] c l b f h = f h
open_steps (e ∷ es) c l b f h = open_steps es c (line_after e c l) (open_after e c b) (open_step e c l b f) h

open_then : (xs es : List Entry) (c : ℕ) (b : Bool) → open_from (xs ++ es) c b ≡ open_from es c (open_from xs c b)
open_then [] es c b = refl
open_then (x ∷ xs) es c b = open_then xs es c (open_after x c b)

pub hand_after : (t0 t1 : Option (List Entry)) (es : List Entry) (l0 l1 : ℕ → Option Line) → Tells t0 t1 es → ((c : ℕ) → l1 c ≡ lines_from es c (l0 c)) → AtHand t0 l0 → AtHand t1 l1
hand_after None None es l0 l1 t lines h = tt
hand_after None (Some ys) es l0 l1 t lines h = absurd t
hand_after (Some xs) None es l0 l1 t lines h = absurd t
hand_after (Some xs) (Some ys) es l0 l1 t lines h = λ c some.
    subst (λ js. is_open js c ≡ true) (sym t) (open_then xs es c false ∙ open_steps es c (l0 c) (is_open xs c) (h c) (subst (λ l. is_some l ≡ true) (lines c) some))

shut_one : (b : Bool) (n : ℕ) → b ≡ true → (if b then entry.Shut n ∷ [] else []) ≡ entry.Shut n ∷ []
shut_one true n e = refl
shut_one false n e = cc

-- a connection that is at hand is given up by exactly one entry
pub shut_tells : (t0 t1 : Option (List Entry)) (n : ℕ) (lines : ℕ → Option Line) → AtHand t0 lines → is_some (lines n) ≡ true → TellsShut t0 t1 n → Tells t0 t1 (entry.Shut n ∷ [])
shut_tells None None n lines h some t = tt
shut_tells None (Some ys) n lines h some t = absurd t
shut_tells (Some xs) None n lines h some t = absurd t
shut_tells (Some xs) (Some ys) n lines h some t = t ∙ ap (λ es. xs ++ es) (shut_one (is_open xs n) n (h n some))

pub due_shut_tells : (t0 t1 : Option (List Entry)) (n : ℕ) (lines : ℕ → Option Line) (a : Answers) → AtHand t0 lines → is_due (lines n) a ≡ true → TellsShut t0 t1 n → Tells t0 t1 (entry.Shut n ∷ [])
due_shut_tells t0 t1 n lines a h due t = shut_tells t0 t1 n lines h (due_some (lines n) a due) t

same_test : (n : ℕ) → (n == n) ≡ true
same_test n = grind arith

last_open : (xs : List Entry) (g : Gate) (n : ℕ) → is_open (xs ++ entry.Accept g (accepted.Conn n) ∷ []) n ≡ true
last_open xs g n = open_then xs (entry.Accept g (accepted.Conn n) ∷ []) n false ∙ ap (λ b. if b then true else open_from xs n false) (same_test n)

-- one that was accepted just now is given up by one more
pub refuse_tells : (t0 t1 t2 : Option (List Entry)) (g : Gate) (n : ℕ) → Tells t0 t1 (entry.Accept g (accepted.Conn n) ∷ []) → TellsShut t1 t2 n
    → Tells t0 t2 (entry.Accept g (accepted.Conn n) ∷ entry.Shut n ∷ [])
refuse_tells None None None g n p q = tt
refuse_tells None None (Some zs) g n p q = absurd q
refuse_tells None (Some ys) t2 g n p q = absurd p
refuse_tells (Some xs) None t2 g n p q = absurd p
refuse_tells (Some xs) (Some ys) None g n p q = absurd q
refuse_tells (Some xs) (Some ys) (Some zs) g n p q =
    q ∙ ap (λ es. ys ++ es) (shut_one (is_open ys n) n (subst (λ js. is_open js n ≡ true) (sym p) (last_open xs g n)))
    ∙ ap (λ js. js ++ entry.Shut n ∷ []) p ∙ joined xs (entry.Accept g (accepted.Conn n)) (entry.Shut n) where
      joined : (js : List Entry) (e f : Entry) → (js ++ e ∷ []) ++ f ∷ [] ≡ js ++ e ∷ f ∷ []
      joined [] e f = refl
      joined (j ∷ js) e f = ap (λ k. j ∷ k) (joined js e f)

none_above_at : (n c g : ℕ) (x : Option Line) → ((l : Line) → x ≡ Some l → (0 < c) × (c ≤ g)) → g < n → (n == c) ≡ true → x ≡ None
none_above_at n c g None p above e = refl
none_above_at n c g (Some l) p above e = let was : (0 < c) × (c ≤ g) = p l refl in let same : n ≡ c = grind arith in absurd-some (grind arith) where
  absurd-some : ⊥ → Some l ≡ None
  absurd-some h = absurd h

refused_at : (n c : ℕ) (t : Bool) (x : Line) (l : Option Line) → (n == c) ≡ t → ((n == c) ≡ true → l ≡ None) → l ≡ (if n == c then None else (if n == c then Some x else l))
refused_at n c true x l e p = p e ∙ sym (ap (λ b. if b then None else (if b then Some x else l)) e)
refused_at n c false x l e p = sym (ap (λ b. if b then None else (if b then Some x else l)) e)

-- nothing is known of a connection that was accepted and shut at once
pub refused_lines : (n : ℕ) (w : Watch) (g d : ℕ) → Given w g d → d < n → (c : ℕ) → line_of w.lines c ≡ (if n == c then None else (if n == c then Some (new_line false false) else line_of w.lines c))
refused_lines n w g d p above c = let below : g ≤ d = p.below in
    refused_at n c (n == c) (new_line false false) (line_of w.lines c) refl (none_above_at n c g (line_of w.lines c) (p.lines c) (omega arith))

pub same_named : (names : List Ready) (l0 l1 : ℕ → Option Line) → ((c : ℕ) → l1 c ≡ named_from names c (l0 c)) → SameConns l0 l1
same_named names l0 l1 lines c = ap is_some (lines c) ∙ named_some names c (l0 c)

pub waited_follows : (names heard old : List Ready) (a : Waited) (w0 w1 : Watch) → heard ≡ old ++ names → old ≡ [] → Names heard w0 w1 → Follows (entry.Wait names a ∷ []) w0 w1
waited_follows names heard old a w0 w1 e f p = let same : heard ≡ names = e ∙ ap (λ rs. rs ++ names) f in record {
  lines = λ c. p.lines c ∙ ap (λ rs. named_from rs c (line_of w0.lines c)) same;
  held = p.held;
  gates = p.gates ∙ ap (λ rs. gates_named rs w0.gates) same;
  drain = p.drain;
  course = p.course;
}

pub hand_turned : {N : Type 0} (did : N → Call → N → Type 0) (outgoing : N → ℕ → List ℕ) (said : N → ℕ → Answers) (top : N → ℕ) (to_dial : N → List (ℕ × List ℕ)) (takes : Gate → Bool)
    (t0 t1 : Option (List Entry)) (w0 w1 : Watch) (n0 n1 : N) (waits : Waited) → Turned did outgoing said top to_dial takes t0 t1 w0 w1 n0 n1 waits
    → AtHand t0 (line_of w0.lines) → AtHand t1 (line_of w1.lines)
hand_turned did outgoing said top to_dial takes t0 t1 w0 w1 n0 n1 waits (WaitedOnce names answer settled told follows same) h = hand_after t0 t1 (entry.Wait names answer ∷ []) (line_of w0.lines) (line_of w1.lines) told follows.lines h
hand_turned did outgoing said top to_dial takes t0 t1 w0 w1 n0 n1 waits (Acted open_work made visits asks once dialled none) h = hand_after t0 t1 made.entries (line_of w0.lines) (line_of w1.lines) made.told made.follows.lines h
