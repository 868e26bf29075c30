-- Runs of bytes that wait for the socket.
use Rattle.std.proofs.Common.{◌≡◌, ℕ, suc, zero, ◌+◌, ◌-◌, ◌<◌, ◌≤◌, Bool, true, false, List, [], ◌∷◌, ◌++◌, length, drop, replicate, refl, ap, sym, append_assoc, append-nil, arith, length-append}
use Rattle.std.proofs.lemmas.List.{length-replicate, length-drop, drop-drop, replicate-append-replicate}
use Rattle.kn_h2_state.specs.declared.run.Run.{Run}
use Rattle.kn_h2_state.specs.Outgoing.{reply_part, count_true}
use Rattle.kn_h2_state.specs.Runs.{marks, IsOutgoing}

pub count_true-append : (xs ys : List Bool) → count_true (xs ++ ys) ≡ count_true xs + count_true ys
unfolding count_true
count_true-append [] ys = omega arith
count_true-append (x ∷ xs) ys = let e : count_true (xs ++ ys) ≡ count_true xs + count_true ys = count_true-append xs ys in omega arith

pub count_true-le : (xs : List Bool) → count_true xs ≤ length xs
unfolding count_true
count_true-le [] = omega arith
count_true-le (true ∷ xs) = let e : count_true xs ≤ length xs = count_true-le xs in omega arith
count_true-le (false ∷ xs) = let e : count_true xs ≤ length xs = count_true-le xs in omega arith

pub count_true-replicate : (n : ℕ) (b : Bool) → count_true (replicate n b) ≡ reply_part b n
unfolding count_true
count_true-replicate zero true = refl
count_true-replicate zero false = refl
count_true-replicate (suc n) true = let e : count_true (replicate n true) ≡ n = count_true-replicate n true in omega arith
count_true-replicate (suc n) false = let e : count_true (replicate n false) ≡ 0 = count_true-replicate n false in omega arith

pub reply_part-le : (b : Bool) (n : ℕ) → reply_part b n ≤ n
reply_part-le true n = omega arith
reply_part-le false n = omega arith

pub marks-append : (runs more : List Run) → marks (runs ++ more) ≡ marks runs ++ marks more
unfolding marks
marks-append [] more = refl
marks-append (run ∷ runs) more = rw (marks-append runs more) (sym (append_assoc (replicate run.length run.reply) (marks runs) (marks more)))

pub marks-nil : marks [] ≡ []
unfolding marks
marks-nil = refl

pub marks-none : (runs : List Run) → length runs ≡ 0 → marks runs ≡ []
unfolding marks
marks-none [] h = refl
marks-none (run ∷ runs) h = absurd (omega arith)

pub marks-cons : (run : Run) (runs : List Run) → marks (run ∷ runs) ≡ replicate run.length run.reply ++ marks runs
unfolding marks
marks-cons run runs = refl

pub marks-push : (runs : List Run) (run : Run) → marks (runs ++ run ∷ []) ≡ marks runs ++ replicate run.length run.reply
marks-push runs run = rw (marks-append runs (run ∷ []), marks-cons run [], marks-nil, append-nil (replicate run.length run.reply)) refl

-- the front of a run is taken
pub marks-cut : (run : Run) (runs : List Run) (n : ℕ) → n ≤ run.length
    → marks (run ∷ runs) ≡ replicate n run.reply ++ marks (record { reply = run.reply; length = run.length - n } ∷ runs)
marks-cut run runs n h =
    let e : n + (run.length - n) ≡ run.length = omega arith in
    rw (marks-cons run runs, marks-cons (record { reply = run.reply; length = run.length - n }) runs, ← append_assoc, replicate-append-replicate n (run.length - n) run.reply, e) refl

-- what stands behind marks of one kind
pub drop-marks : (n : ℕ) (b : Bool) (xs ys : List Bool) → xs ≡ replicate n b ++ ys → drop n xs ≡ ys
drop-marks n b xs ys e = rw e (drop_replicate n ys)
  where
    drop_replicate : (m : ℕ) (zs : List Bool) → drop m (replicate m b ++ zs) ≡ zs
    drop_replicate zero zs = refl
    drop_replicate (suc m) zs = drop_replicate m zs

pub count-marks : (n : ℕ) (b : Bool) (xs ys : List Bool) → xs ≡ replicate n b ++ ys → count_true xs ≡ reply_part b n + count_true ys
count-marks n b xs ys e = rw (e, count_true-append (replicate n b) ys, count_true-replicate n b) refl

-- one more run, of bytes at the end
pub one_more_run : (bytes new : List ℕ) (runs : List Run) (count length' : ℕ) (reply : Bool) → length' ≡ length new → IsOutgoing bytes runs count
    → IsOutgoing (bytes ++ new) (runs ++ record { reply = reply; length = length' } ∷ []) (count + reply_part reply length')
one_more_run bytes new runs count length' reply e o =
    let run : Run = record { reply = reply; length = length' } in
    let m : marks (runs ++ run ∷ []) ≡ marks runs ++ replicate length' reply = marks-push runs run in
    record {
      long = rw (m, length-append (marks runs) (replicate length' reply), length-replicate length' reply, length-append bytes new) (omega (arith, o.long, e));
      counted = rw (m, count_true-append (marks runs) (replicate length' reply), count_true-replicate length' reply) (omega (arith, o.counted));
    }

-- a run was taken of what is left
pub drop-more : (count left n : ℕ) (b : Bool) (old now new : List Bool) → left ≤ count → n ≤ left → now ≡ drop (count - left) old → now ≡ replicate n b ++ new
    → new ≡ drop (count - (left - n)) old
drop-more count left n b old now new l h e f =
    let k : count - (left - n) ≡ (count - left) + n = omega arith in
    rw (k, ← drop-drop n (count - left) old, ← e) (sym (drop-marks n b now new f))

-- no run is left, so nothing is
pub drop-none : (count left : ℕ) (old : List Bool) → left ≤ count → 0 < left → count ≤ length old → [] ≡ drop (count - left) old → [] ≡ drop count old
drop-none count left old l h e f =
    absurd (omega (arith, length-drop (count - left) old, ap length f))
