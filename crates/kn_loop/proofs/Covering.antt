-- Who is awake, and who is left to visit: what each part of a turn keeps of it.
use Rattle.std.proofs.Common.{◌≡◌, ℕ, ◌==◌, ◌⊎◌, inl, inr, Bool, true, false, not, ◌||◌, ◌&&◌, List, [], ◌∷◌, ◌++◌, length, take, drop, None, Some, sym, refl, ap, ◌∙◌, subst, arith}
use Rattle.std.specs.Prelude.{Option, is_some, if◌then◌else◌}
use Rattle.std.specs.Ordering.{nat_cmp}
use Rattle.std.specs.BTreeMap.{is_at}
use Rattle.std.proofs.lemmas.Bool.Decides.{nat_tests}
use Rattle.std.proofs.lemmas.List.{take-append-drop}
use Rattle.kn_port.specs.declared.names.Gate.{Gate}
use Rattle.kn_loop.specs.declared.line.Line.{Line}
use Rattle.kn_loop.specs.declared.watch.Watch.{Watch}
use Rattle.kn_loop.specs.Kept.{is_in, line_of}
use Rattle.kn_loop.specs.Gates.{are_gates_settled}
use Rattle.kn_loop.specs.Calls.{Answers, Wakes, WakesAlso, unpaused}
use Rattle.kn_loop.specs.Turns.{is_busy, any_busy, is_due, is_active, Covers, CoversBut, Visits, Touches, SameConns, WakesLines, NoneDue, AreBusy, AreAllGiven, Rests, AllSettled}
use Rattle.kn_loop.proofs.Making.{or_false}

-- ---- who is awake
-- two calls, one after the other
pub wakes_then : (a0 a1 a2 : ℕ → Bool) (s0 s1 s2 : ℕ → Answers) → Wakes a0 a1 s0 s1 → Wakes a1 a2 s1 s2 → Wakes a0 a2 s0 s2
wakes_then a0 a1 a2 s0 s1 s2 p q c = (λ h. (q c).0 ((p c).0 h), λ h. (q c).1 h ∙ (p c).1 (asleep (a1 c) (a2 c) (q c).0 h)) where
  asleep : (x y : Bool) → (x ≡ true → y ≡ true) → y ≡ false → x ≡ false
  asleep true y f e = sym (f refl) ∙ e
  asleep false y f e = refl

visited_at : (n c : ℕ) (a1 a2 : Bool) (l0 l1 : Option Line) (s0 s1 : Answers) (t x : Bool) → (n == c) ≡ t → a2 ≡ x
    → (a2 ≡ false → a1 ≡ false) → (a1 ≡ false → s1 ≡ s0) → ((n == c) ≡ false → l1 ≡ l0) → ((n == c) ≡ true → is_active l1 s1 ≡ true → a2 ≡ true)
    → is_active l1 s1 ≡ true → (a2 ≡ true) ⊎ ((is_active l0 s0 ≡ true) × ((n == c) ≡ false))
visited_at n c a1 a2 l0 l1 s0 s1 true x e f back said same stays busy = inl (stays e busy)
visited_at n c a1 a2 l0 l1 s0 s1 false true e f back said same stays busy = inl f
visited_at n c a1 a2 l0 l1 s0 s1 false false e f back said same stays busy =
    inr (subst (λ l. is_active l s0 ≡ true) (same e) (subst (λ s. is_active l1 s ≡ true) (said (back f)) busy), e)

asleep_before : (x y : Bool) → (x ≡ true → y ≡ true) → y ≡ false → x ≡ false
asleep_before true y f e = sym (f refl) ∙ e
asleep_before false y f e = refl

same_conn : (n c : ℕ) → (n == c) ≡ true → n ≡ c
same_conn n c e = grind arith

-- a visit is calls that wake, then the connection itself stays awake where it is busy
pub visited : (n : ℕ) (a0 a1 a2 : ℕ → Bool) (l0 l1 : ℕ → Option Line) (s0 s1 : ℕ → Answers)
    → Wakes a0 a1 s0 s1 → Touches n l0 l1 → ((c : ℕ) → a1 c ≡ true → a2 c ≡ true) → (is_active (l1 n) (s1 n) ≡ true → a2 n ≡ true) → Visits n a0 a2 l0 l1 s0 s1
visited n a0 a1 a2 l0 l1 s0 s1 wakes keeps grows stays = (
  λ c h. grows c ((wakes c).0 h),
  λ c. visited_at n c (a1 c) (a2 c) (l0 c) (l1 c) (s0 c) (s1 c) (n == c) (a2 c) refl refl
      (asleep_before (a1 c) (a2 c) (grows c)) (wakes c).1 (keeps c).1
      (λ e busy. let m = same_conn n c e in subst (λ k. a2 k ≡ true) m (stays (subst (λ k. is_active (l1 k) (s1 k) ≡ true) (sym m) busy))),
)

pub touches_then : (n : ℕ) (l0 l1 l2 : ℕ → Option Line) → Touches n l0 l1 → Touches n l1 l2 → Touches n l0 l2
touches_then n l0 l1 l2 p q c = ((q c).0 ∙ (p c).0, λ e. (q c).1 e ∙ (p c).1 e)

pub touches_nothing : (n : ℕ) (l : ℕ → Option Line) → Touches n l l
touches_nothing n l c = (refl, λ e. refl)

pub touches_conns : (n : ℕ) (l0 l1 : ℕ → Option Line) → Touches n l0 l1 → SameConns l0 l1
touches_conns n l0 l1 p c = (p c).0

-- ---- what is left to visit
pub or_right : (b x : Bool) → b ≡ false → (b || x) ≡ true → x ≡ true
or_right true x e h = cc
or_right false x e h = h

pub or_first : (b x : Bool) → b ≡ true → (b || x) ≡ true
or_first true x e = refl
or_first false x e = cc

pub or_second : (b x : Bool) → x ≡ true → (b || x) ≡ true
or_second true x e = refl
or_second false x e = e

off_key : (n c : ℕ) → (n == c) ≡ false → is_at (nat_cmp c) n ≡ false
off_key n c e = grind (arith, nat_tests)

at_key : (n c : ℕ) → (n == c) ≡ true → is_at (nat_cmp c) n ≡ true
at_key n c e = grind (arith, nat_tests)

front_at : (x : ℕ) (xs ys : List ℕ) (c : ℕ) (b : Bool) → is_at (nat_cmp c) x ≡ b → (is_in xs c ≡ true → is_in (xs ++ ys) c ≡ true) → is_in (x ∷ xs) c ≡ true → is_in ((x ∷ xs) ++ ys) c ≡ true
front_at x xs ys c true e later h = or_first (is_at (nat_cmp c) x) (is_in (xs ++ ys) c) e
front_at x xs ys c false e later h = or_second (is_at (nat_cmp c) x) (is_in (xs ++ ys) c) (later (or_right (is_at (nat_cmp c) x) (is_in xs c) e h))

pub in_front : (xs ys : List ℕ) (c : ℕ) → is_in xs c ≡ true → is_in (xs ++ ys) c ≡ true
in_front [] ys c h = cc
in_front (x ∷ xs) ys c h = front_at x xs ys c (is_at (nat_cmp c) x) refl (in_front xs ys c) h

pub in_end : (xs ys : List ℕ) (c : ℕ) → is_in ys c ≡ true → is_in (xs ++ ys) c ≡ true
in_end [] ys c h = h
in_end (x ∷ xs) ys c h = or_second (is_at (nat_cmp c) x) (is_in (xs ++ ys) c) (in_end xs ys c h)

-- after the visit of the first, the others are left
pub covers_after : (n : ℕ) (ns : List ℕ) (a0 a1 : ℕ → Bool) (l0 l1 : ℕ → Option Line) (s0 s1 : ℕ → Answers)
    → CoversBut a0 (is_in (n ∷ ns)) l0 s0 → Visits n a0 a1 l0 l1 s0 s1 → CoversBut a1 (is_in ns) l1 s1
covers_after n ns a0 a1 l0 l1 s0 s1 cov vis c busy = elim (vis.1 c busy) [
  | inl h ↦ inl h
  | inr h ↦ elim (cov c h.0) [
    | inl a ↦ inl (vis.0 c a)
    | inr b ↦ inr (or_right (is_at (nat_cmp c) n) (is_in ns c) (off_key n c h.1) b)
  ]
]

-- after a wait, a connection of which something else is known now is awake
woken_at : (a0 a1 x : Bool) (l0 l1 : Option Line) (s : Answers) → a1 ≡ x → (a0 ≡ true → a1 ≡ true) → (a1 ≡ false → l1 ≡ l0) → (is_active l0 s ≡ true → a0 ≡ true) → is_active l1 s ≡ true → a1 ≡ true
woken_at a0 a1 true l0 l1 s e grows same cov h = e
woken_at a0 a1 false l0 l1 s e grows same cov h = grows (cov (subst (λ l. is_active l s ≡ true) (same e) h))

pub covers_woken : (awake0 awake1 : ℕ → Bool) (l0 l1 : ℕ → Option Line) (s : ℕ → Answers) → Covers awake0 l0 s → WakesLines awake0 awake1 l0 l1 → Covers awake1 l1 s
covers_woken awake0 awake1 l0 l1 s cov wakes c h = woken_at (awake0 c) (awake1 c) (awake1 c) (l0 c) (l1 c) (s c) refl (wakes c).0 (wakes c).1 (cov c) h

pub covers_all : (awake : ℕ → Bool) (l : ℕ → Option Line) (s : ℕ → Answers) → CoversBut awake (is_in []) l s → Covers awake l s
covers_all awake l s cov c h = elim (cov c h) [
  | inl a ↦ a
  | inr b ↦ cc
]

pub wakes_lines_then : (a0 a1 a2 : ℕ → Bool) (l0 l1 l2 : ℕ → Option Line) → WakesLines a0 a1 l0 l1 → WakesLines a1 a2 l1 l2 → WakesLines a0 a2 l0 l2
wakes_lines_then a0 a1 a2 l0 l1 l2 p q c = (λ h. (q c).0 ((p c).0 h), λ h. (q c).1 h ∙ (p c).1 (asleep_before (a1 c) (a2 c) (q c).0 h))

-- ---- a connection that begins, and calls that wake
pub wakes_added : (n : ℕ) (a0 a1 a2 : ℕ → Bool) (s0 s1 : ℕ → Answers) → ((c : ℕ) → a1 c ≡ (n == c || a0 c)) → Wakes a1 a2 s0 s1 → WakesAlso n a0 a2 s0 s1
wakes_added n a0 a1 a2 s0 s1 added wakes = (
  (wakes n).0 (added n ∙ or_first (n == n) (a0 n) (same_test n)),
  λ c. (λ h. (wakes c).0 (added c ∙ or_second (n == c) (a0 c) h), (wakes c).1),
) where
  same_test : (m : ℕ) → (m == m) ≡ true
  same_test m = grind arith

begun_at : (n c : ℕ) (a0 a1 x t : Bool) (l0 l1 : Option Line) (s0 s1 : Answers) → a1 ≡ x → (n == c) ≡ t → ((n == c) ≡ true → a1 ≡ true) → (a0 ≡ true → a1 ≡ true) → (a1 ≡ false → s1 ≡ s0)
    → ((n == c) ≡ false → l1 ≡ l0) → (is_active l0 s0 ≡ true → a0 ≡ true) → is_active l1 s1 ≡ true → a1 ≡ true
begun_at n c a0 a1 true t l0 l1 s0 s1 e f at grows said same cov h = e
begun_at n c a0 a1 false true l0 l1 s0 s1 e f at grows said same cov h = at f
begun_at n c a0 a1 false false l0 l1 s0 s1 e f at grows said same cov h = grows (cov (subst (λ l. is_active l s0 ≡ true) (same f) (subst (λ s. is_active l1 s ≡ true) (said e) h)))

line_off : (n c : ℕ) (x : Option Line) (l0 l1 : Option Line) → l1 ≡ (if n == c then x else l0) → (n == c) ≡ false → l1 ≡ l0
line_off n c x l0 l1 e f = e ∙ ap (λ b. if b then x else l0) f

line_on : (n c : ℕ) (x : Option Line) (l0 l1 : Option Line) → l1 ≡ (if n == c then x else l0) → (n == c) ≡ true → l1 ≡ x
line_on n c x l0 l1 e f = e ∙ ap (λ b. if b then x else l0) f

pub covers_begun : (n : ℕ) (x : Option Line) (a0 a1 : ℕ → Bool) (l0 l1 : ℕ → Option Line) (s0 s1 : ℕ → Answers)
    → Covers a0 l0 s0 → WakesAlso n a0 a1 s0 s1 → ((c : ℕ) → l1 c ≡ (if n == c then x else l0 c)) → Covers a1 l1 s1
covers_begun n x a0 a1 l0 l1 s0 s1 cov wakes lines c h = begun_at n c (a0 c) (a1 c) (a1 c) (n == c) (l0 c) (l1 c) (s0 c) (s1 c) refl refl
    (λ e. subst (λ k. a1 k ≡ true) (same_conn n c e) wakes.0) (wakes.1 c).0 (wakes.1 c).1 (line_off n c x (l0 c) (l1 c) (lines c)) (cov c) h

covers_wakes_at : (a0 a1 x : Bool) (l : Option Line) (s0 s1 : Answers) → a1 ≡ x → (a0 ≡ true → a1 ≡ true) → (a1 ≡ false → s1 ≡ s0) → (is_active l s0 ≡ true → a0 ≡ true) → is_active l s1 ≡ true → a1 ≡ true
covers_wakes_at a0 a1 true l s0 s1 e grows said cov h = e
covers_wakes_at a0 a1 false l s0 s1 e grows said cov h = grows (cov (subst (λ s. is_active l s ≡ true) (said e) h))

pub covers_wakes : (a0 a1 : ℕ → Bool) (l : ℕ → Option Line) (s0 s1 : ℕ → Answers) → Covers a0 l s0 → Wakes a0 a1 s0 s1 → Covers a1 l s1
covers_wakes a0 a1 l s0 s1 cov wakes c h = covers_wakes_at (a0 c) (a1 c) (a1 c) (l c) (s0 c) (s1 c) refl (wakes c).0 (wakes c).1 (cov c) h

-- ---- the end of a turn
pub or_cases : (b x : Bool) → (b || x) ≡ true → (b ≡ true) ⊎ (x ≡ true)
or_cases true x h = inl refl
or_cases false x h = inr h

-- one more is taken out of the awake ones, and is left to settle
pub covers_popped : (n : ℕ) (awake ns : List ℕ) (l : ℕ → Option Line) (s : ℕ → Answers) → CoversBut (is_in (n ∷ awake)) (is_in ns) l s → CoversBut (is_in awake) (is_in (n ∷ ns)) l s
covers_popped n awake ns l s cov c h = elim (cov c h) [
  | inr b ↦ inr (or_second (is_at (nat_cmp c) n) (is_in ns c) b)
  | inl a ↦ elim (or_cases (is_at (nat_cmp c) n) (is_in awake c) a) [
    | inl e ↦ inr (or_first (is_at (nat_cmp c) n) (is_in ns c) e)
    | inr b ↦ inl b
  ]
]

-- it is to be visited, and kept
pub covers_kept : (a : ℕ → Bool) (n : ℕ) (ns : List ℕ) (l : ℕ → Option Line) (s : ℕ → Answers) → CoversBut a (is_in (n ∷ ns)) l s → CoversBut a (is_in (ns ++ n ∷ [])) l s
covers_kept a n ns l s cov c h = elim (cov c h) [
  | inl b ↦ inl b
  | inr b ↦ elim (or_cases (is_at (nat_cmp c) n) (is_in ns c) b) [
    | inl e ↦ inr (in_end ns (n ∷ []) c (or_first (is_at (nat_cmp c) n) false e))
    | inr d ↦ inr (in_front ns (n ∷ []) c d)
  ]
]

pub key_conn : (n c : ℕ) → is_at (nat_cmp c) n ≡ true → n ≡ c
key_conn n c e = grind (arith, nat_tests)

-- nothing is to be done at it
pub covers_dropped : (a : ℕ → Bool) (n : ℕ) (ns : List ℕ) (l : ℕ → Option Line) (s : ℕ → Answers) → is_busy (l n) (s n) ≡ false → is_due (l n) (s n) ≡ false
    → CoversBut a (is_in (n ∷ ns)) l s → CoversBut a (is_in ns) l s
covers_dropped a n ns l s idle kept cov c h = elim (cov c h) [
  | inl b ↦ inl b
  | inr b ↦ elim (or_cases (is_at (nat_cmp c) n) (is_in ns c) b) [
    | inl e ↦ let off : is_active (l c) (s c) ≡ false = subst (λ k. is_active (l k) (s k) ≡ false) (key_conn n c e) (or_false (is_busy (l n) (s n)) (is_due (l n) (s n)) idle kept) in cc
    | inr d ↦ inr d
  ]
]

pub busy_end : (ns : List ℕ) (n : ℕ) (l : ℕ → Option Line) (s : ℕ → Answers) → AreBusy ns l s → is_busy (l n) (s n) ≡ true → is_due (l n) (s n) ≡ false → AreBusy (ns ++ n ∷ []) l s
busy_end [] n l s p q r = (q, r, tt)
busy_end (m ∷ ms) n l s p q r = (p.0, p.1, busy_end ms n l s p.2 q r)

shut_at : (n c : ℕ) (t : Bool) (l0 l1 : Option Line) (s : Answers) → (n == c) ≡ t → l1 ≡ (if n == c then None else l0) → is_active l1 s ≡ true → ((n == c) ≡ false) × (l1 ≡ l0)
shut_at n c true l0 l1 s e f h = let gone : is_active None s ≡ true = subst (λ l. is_active l s ≡ true) (line_on n c None l0 l1 f e) h in cc
shut_at n c false l0 l1 s e f h = (e, line_off n c None l0 l1 f e)

-- it was shut
pub covers_shut : (a : ℕ → Bool) (n : ℕ) (ns : List ℕ) (l0 l1 : ℕ → Option Line) (s : ℕ → Answers) → ((c : ℕ) → l1 c ≡ (if n == c then None else l0 c))
    → CoversBut a (is_in (n ∷ ns)) l0 s → CoversBut a (is_in ns) l1 s
covers_shut a n ns l0 l1 s lines cov c h =
    let off : ((n == c) ≡ false) × (l1 c ≡ l0 c) = shut_at n c (n == c) (l0 c) (l1 c) (s c) refl (lines c) h in
    elim (cov c (subst (λ l. is_active l (s c) ≡ true) off.1 h)) [
      | inl b ↦ inl b
      | inr b ↦ inr (or_right (is_at (nat_cmp c) n) (is_in ns c) (off_key n c off.0) b)
    ]

other_at : (n m : ℕ) (t : Bool) (l : ℕ → Option Line) (s : ℕ → Answers) → (n == m) ≡ t → is_due (l n) (s n) ≡ true → is_due (l m) (s m) ≡ false → (n == m) ≡ false
other_at n m true l s e due kept = let k : is_due (l m) (s m) ≡ true = subst (λ c. is_due (l c) (s c) ≡ true) (same_conn n m e) due in cc
other_at n m false l s e due kept = e

pub busy_shut : (ns : List ℕ) (n : ℕ) (l0 l1 : ℕ → Option Line) (s : ℕ → Answers) → is_due (l0 n) (s n) ≡ true → ((c : ℕ) → l1 c ≡ (if n == c then None else l0 c)) → AreBusy ns l0 s → AreBusy ns l1 s
busy_shut [] n l0 l1 s due lines p = tt
busy_shut (m ∷ ms) n l0 l1 s due lines p =
    let same : l0 m ≡ l1 m = sym (line_off n m None (l0 m) (l1 m) (lines m) (other_at n m (n == m) l0 s refl due p.1)) in
    (subst (λ l. is_busy l (s m) ≡ true) same p.0, subst (λ l. is_due l (s m) ≡ false) same p.1, busy_shut ms n l0 l1 s due lines p.2)

-- ---- as if the bytes of each were wanted
wanted_at : (failed dialling ended reads writes asked wants out : Bool)
    → not (if failed then true else if dialling then reads || not asked else (ended || reads || not wants) && (writes || not out)) ≡ true
    → not (if failed then true else if dialling then reads || not asked else (ended || reads || not true) && (writes || not out)) ≡ true
wanted_at failed dialling ended reads writes asked true out h = h
wanted_at true dialling ended reads writes asked false out h = h
wanted_at false true ended reads writes asked false out h = h
wanted_at false false true reads writes asked false out h = h
wanted_at false false false true writes asked false out h = h
wanted_at false false false false writes asked false out h = refl

pub busy_unpaused : (l : Option Line) (a : Answers) → is_busy l a ≡ true → is_busy l (record a { wants = true }) ≡ true
busy_unpaused None a h = cc
busy_unpaused (Some l) a h = wanted_at l.failed l.dialling l.ended l.read_waits l.write_waits l.asked a.wants a.has_out h

due_unpaused : (l : Option Line) (a : Answers) → is_due l (record a { wants = true }) ≡ is_due l a
due_unpaused None a = refl
due_unpaused (Some l) a = refl

pub none_due_paused : (l : ℕ → Option Line) (s : ℕ → Answers) → NoneDue l (unpaused s) → NoneDue l s
none_due_paused l s none c = sym (due_unpaused (l c) (s c)) ∙ none c

-- who has something to do has it too where all is wanted
pub covers_paused : (a : ℕ → Bool) (l : ℕ → Option Line) (s : ℕ → Answers) → Covers a l (unpaused s) → (c : ℕ) → is_busy (l c) (s c) ≡ true → a c ≡ true
covers_paused a l s cov c b = cov c (or_first (is_busy (l c) (unpaused s c)) (is_due (l c) (unpaused s c)) (busy_unpaused (l c) (s c) b))

-- ---- between turns
not_due_in : (ns : List ℕ) (c : ℕ) (l : ℕ → Option Line) (s : ℕ → Answers) → AreBusy ns l s → is_in ns c ≡ true → is_due (l c) (s c) ≡ false
not_due_in [] c l s p h = cc
not_due_in (n ∷ ns) c l s p h = elim (or_cases (is_at (nat_cmp c) n) (is_in ns c) h) [
  | inl e ↦ subst (λ k. is_due (l k) (s k) ≡ false) (key_conn n c e) p.1
  | inr d ↦ not_due_in ns c l s p.2 d
]

none_due_at : (x : Bool) (ns : List ℕ) (c : ℕ) (l : ℕ → Option Line) (s : ℕ → Answers) → is_due (l c) (s c) ≡ x → Rests ns l s → is_due (l c) (s c) ≡ false
none_due_at true ns c l s e r = not_due_in ns c l s r.busy (r.covers c (or_second (is_busy (l c) (s c)) (is_due (l c) (s c)) e))
none_due_at false ns c l s e r = e

pub none_due : (ns : List ℕ) (l : ℕ → Option Line) (s : ℕ → Answers) → Rests ns l s → NoneDue l s
none_due ns l s r c = none_due_at (is_due (l c) (s c)) ns c l s refl r

due_at : (l0 l1 : Option Line) (a : Answers) → is_some l1 ≡ is_some l0 → is_due l0 a ≡ false → is_due l1 a ≡ false
due_at l0 None a e h = refl
due_at None (Some l) a e h = cc
due_at (Some m) (Some l) a e h = h

pub due_same : (l0 l1 : ℕ → Option Line) (s : ℕ → Answers) → SameConns l0 l1 → NoneDue l0 s → NoneDue l1 s
due_same l0 l1 s same none c = due_at (l0 c) (l1 c) (s c) (same c) (none c)

and_left : (b x : Bool) → (b && x) ≡ true → b ≡ true
and_left true x h = refl
and_left false x h = h

and_right : (b x : Bool) → (b && x) ≡ true → x ≡ true
and_right true x h = h
and_right false x h = cc

idle_at : (b x : Bool) → (b ≡ true → x ≡ true) → x ≡ false → b ≡ false
idle_at true x f e = sym (f refl) ∙ e
idle_at false x f e = refl

no_false : false ≡ true → ⊥
no_false h = cc

not_true : (b : Bool) → not b ≡ true → b ≡ false
not_true true h = cc
not_true false h = refl

any_true : (ns : List ℕ) (c : ℕ) (l : ℕ → Option Line) (s : ℕ → Answers) → is_in ns c ≡ true → is_busy (l c) (s c) ≡ true → any_busy ns l s ≡ true
any_true [] c l s h b = cc
any_true (n ∷ ns) c l s h b = elim (or_cases (is_at (nat_cmp c) n) (is_in ns c) h) [
  | inl e ↦ or_first (is_busy (l n) (s n)) (any_busy ns l s) (subst (λ k. is_busy (l k) (s k) ≡ true) (sym (key_conn n c e)) b)
  | inr d ↦ or_second (is_busy (l n) (s n)) (any_busy ns l s) (any_true ns c l s d b)
]

pub all_settled : (ns : List ℕ) (takes : Gate → Bool) (w : Watch) (s : ℕ → Answers) → Rests ns (line_of w.lines) (unpaused s) → (not (any_busy ns (line_of w.lines) s) && are_gates_settled takes w.gates) ≡ true → AllSettled takes w s
all_settled ns takes w s r h = (
  λ c. idle_at (is_busy (line_of w.lines c) (s c)) (any_busy ns (line_of w.lines) s)
      (λ b. any_true ns c (line_of w.lines) s (covers_paused (is_in ns) (line_of w.lines) s r.covers c b) b)
      (not_true (any_busy ns (line_of w.lines) s) (and_left (not (any_busy ns (line_of w.lines) s)) (are_gates_settled takes w.gates) h)),
  and_right (not (any_busy ns (line_of w.lines) s)) (are_gates_settled takes w.gates) h,
)

none_busy : (ns : List ℕ) (l : ℕ → Option Line) (s : ℕ → Answers) → ((c : ℕ) → is_busy (l c) (s c) ≡ false) → any_busy ns l s ≡ false
none_busy [] l s f = refl
none_busy (n ∷ ns) l s f = or_false (is_busy (l n) (s n)) (any_busy ns l s) (f n) (none_busy ns l s f)

both_settled : (b x : Bool) → b ≡ false → x ≡ true → (not b && x) ≡ true
both_settled true x e f = cc
both_settled false x e f = f

pub not_settled : (ns : List ℕ) (takes : Gate → Bool) (w : Watch) (s : ℕ → Answers) → (not (any_busy ns (line_of w.lines) s) && are_gates_settled takes w.gates) ≡ false → AllSettled takes w s → ⊥
not_settled ns takes w s e all =
    no_false (sym e ∙ both_settled (any_busy ns (line_of w.lines) s) (are_gates_settled takes w.gates) (none_busy ns (line_of w.lines) s all.0) all.1)

-- ---- the order of visits
pub in_split : (xs ys : List ℕ) (c : ℕ) → is_in (xs ++ ys) c ≡ true → (is_in xs c ≡ true) ⊎ (is_in ys c ≡ true)
in_split [] ys c h = inr h
in_split (x ∷ xs) ys c h = elim (or_cases (is_at (nat_cmp c) x) (is_in (xs ++ ys) c) h) [
  | inl e ↦ inl (or_first (is_at (nat_cmp c) x) (is_in xs c) e)
  | inr d ↦ elim (in_split xs ys c d) [
    | inl a ↦ inl (or_second (is_at (nat_cmp c) x) (is_in xs c) a)
    | inr b ↦ inr b
  ]
]

conn_key : (n c : ℕ) → is_at (nat_cmp c) n ≡ true → (n == c) ≡ true
conn_key n c e = grind (arith, nat_tests)

own_key : (n c : ℕ) → is_in (n ∷ []) c ≡ true → (n == c) ≡ true
own_key n c h = elim (or_cases (is_at (nat_cmp c) n) false h) [
  | inl e ↦ conn_key n c e
  | inr d ↦ cc
]

-- the last that is left is awake now
pub covers_moved : (n : ℕ) (ns : List ℕ) (a0 a1 : ℕ → Bool) (l : ℕ → Option Line) (s : ℕ → Answers) → CoversBut a0 (is_in (ns ++ n ∷ [])) l s → ((c : ℕ) → a1 c ≡ (n == c || a0 c)) → CoversBut a1 (is_in ns) l s
covers_moved n ns a0 a1 l s cov added c h = elim (cov c h) [
  | inl a ↦ inl (added c ∙ or_second (n == c) (a0 c) a)
  | inr b ↦ elim (in_split ns (n ∷ []) c b) [
    | inl p ↦ inr p
    | inr q ↦ inl (added c ∙ or_first (n == c) (a0 c) (own_key n c q))
  ]
]

pub joined : (k : ℕ) (xs : List ℕ) → take k xs ++ drop k xs ≡ xs
joined k xs = take-append-drop k xs

pub covers_turned : (xs ys : List ℕ) (a : ℕ → Bool) (l : ℕ → Option Line) (s : ℕ → Answers) → Covers (is_in (xs ++ ys)) l s → CoversBut a (is_in (ys ++ xs)) l s
covers_turned xs ys a l s cov c h = elim (in_split xs ys c (cov c h)) [
  | inl p ↦ inr (in_end ys xs c p)
  | inr q ↦ inr (in_front ys xs c q)
]

given_end : (xs ys : List ℕ) (top : ℕ) → AreAllGiven xs top → AreAllGiven ys top → AreAllGiven (xs ++ ys) top
given_end [] ys top p q = q
given_end (x ∷ xs) ys top p q = (p.0, p.1, given_end xs ys top p.2 q)

given_first : (xs ys : List ℕ) (top : ℕ) → AreAllGiven (xs ++ ys) top → AreAllGiven xs top
given_first [] ys top p = tt
given_first (x ∷ xs) ys top p = (p.0, p.1, given_first xs ys top p.2)

given_last : (xs ys : List ℕ) (top : ℕ) → AreAllGiven (xs ++ ys) top → AreAllGiven ys top
given_last [] ys top p = p
given_last (x ∷ xs) ys top p = given_last xs ys top p.2

pub given_turned : (xs ys : List ℕ) (top : ℕ) → AreAllGiven (xs ++ ys) top → AreAllGiven (ys ++ xs) top
given_turned xs ys top p = given_end ys xs top (given_last xs ys top p) (given_first xs ys top p)
