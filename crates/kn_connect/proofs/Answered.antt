-- Bytes have one answer, and one that wants no more of them lasts.
use Rattle.std.proofs.Common.{◌≡◌, ℕ, ◌+◌, ◌-◌, ◌≤◌, List, [], ◌++◌, length, take, refl, sym, ap, ◌∙◌, subst, arith, append_assoc, append-nil, length-append, inl, inr, Result, Ok, Err}
use Rattle.std.proofs.lemmas.List.{take_all, take-append-le}
use Rattle.std.proofs.lemmas.Bool.{cases_lt}
use Rattle.std.proofs.Math.Seq.{take-append-add}
use Rattle.httparse.specs.Grammar.{RequestHead, print_request, ReadsRequest, EndsInTarget}
use Rattle.httparse.proofs.GrammarLemmas.{request_unique, ReadsRequest-append}
use Rattle.kn_connect.specs.declared.answer.ConnectFault.TheVariants.{BadHead, NotConnect, TooLong}
use Rattle.kn_connect.specs.declared.answer.ConnectError.{ConnectError}
use Rattle.kn_connect.specs.declared.answer.ConnectError.TheVariants.{NoMemory, Fault}
use Rattle.kn_connect.specs.declared.answer.ConnectAnswer.{ConnectAnswer}
use Rattle.kn_connect.specs.declared.answer.ConnectAnswer.TheVariants.{More, Head}
use Rattle.kn_connect.specs.Heads.{deciding, BeginsWithHead, IsConnect, IsUnfinished, IsNever}
use Rattle.kn_connect.specs.Answers.{Answers, IsGiven, Lasts}

-- ---- the bytes that decide

short_decides : (bytes : List ℕ) → length bytes ≤ 8192 → deciding bytes ≡ bytes
unfolding deciding
short_decides bytes short = take_all 8192 bytes short

long_decides : (bytes more : List ℕ) → 8192 ≤ length bytes → deciding (bytes ++ more) ≡ deciding bytes
unfolding deciding
long_decides bytes more long = take-append-le 8192 bytes more long

deciding_more : (bytes more : List ℕ) → (next : List ℕ) × (deciding (bytes ++ more) ≡ deciding bytes ++ next)
unfolding deciding
deciding_more bytes more = elim (cases_lt (length bytes) 8192) [
  | inl less ↦
      let left = 8192 - length bytes in
      let n : 8192 ≡ length bytes + left = omega arith in
      (take left more, ap (λ (k : ℕ). take k (bytes ++ more)) n ∙ take-append-add bytes more left ∙ ap (λ (t : List ℕ). t ++ take left more) (sym (take_all 8192 bytes (omega arith))))
  | inr long ↦ ([], long_decides bytes more long ∙ sym (append-nil (take 8192 bytes)))
]

-- a head that ends within them
decided_head : (bytes : List ℕ) (h : RequestHead) (rest : List ℕ) → BeginsWithHead bytes h rest → (next : List ℕ) × ReadsRequest (deciding bytes) h next
unfolding deciding
decided_head bytes h rest w =
    let small = w.small in
    let head = print_request h in
    let left = 8192 - length head in
    let n : 8192 ≡ length head + left = omega arith in
    (take left rest, (w.reads.0, ap (take 8192) w.reads.1 ∙ ap (λ (k : ℕ). take k (head ++ rest)) n ∙ take-append-add head rest left))

-- ---- what excludes what

whole_not_unfinished : (bytes : List ℕ) (h : RequestHead) (rest : List ℕ) → BeginsWithHead bytes h rest → IsUnfinished (deciding bytes) → ⊥
whole_not_unfinished bytes h rest w u = let d = decided_head bytes h rest w in u.none h d.0 d.1

whole_not_never : (bytes : List ℕ) (h : RequestHead) (rest : List ℕ) → BeginsWithHead bytes h rest → IsNever (deciding bytes) → ⊥
whole_not_never bytes h rest w n =
    let d = decided_head bytes h rest w in
    n.head [] h d.0 (subst (λ (t : List ℕ). ReadsRequest t h d.0) (sym (append-nil (deciding bytes))) d.1)

unfinished_not_never : (s : List ℕ) → IsUnfinished s → IsNever s → ⊥
unfinished_not_never s u n = elim u.may [
  | inl x ↦ n.head x.0 x.1 [] x.2
  | inr y ↦ n.target [] (subst EndsInTarget (sym (append-nil s)) y)
]

-- the unfinished bytes of an answer that wants more
still : (bytes : List ℕ) → Answers bytes (Ok More) → IsUnfinished (deciding bytes)
still bytes (short, u) = subst IsUnfinished (sym (short_decides bytes (omega arith))) u

same_head : (bytes : List ℕ) (h k : RequestHead) (r q : List ℕ) → BeginsWithHead bytes h r → BeginsWithHead bytes k q → (h ≡ k) × (r ≡ q)
same_head bytes h k r q w v = request_unique bytes h k r q w.reads v.reads

other_method : (bytes : List ℕ) (h k : RequestHead) (r q : List ℕ) → BeginsWithHead bytes h r → IsConnect h → BeginsWithHead bytes k q → (IsConnect k → ⊥) → ⊥
other_method bytes h k r q w is v isnt = isnt (subst IsConnect (same_head bytes h k r q w v).0 is)

no_memory : (A : Type 0) → IsGiven (Err NoMemory) → A
no_memory A given = absurd (given refl)

heads_same : (bytes s t e f : List ℕ) → Answers bytes (Ok (Head s e)) → Answers bytes (Ok (Head t f)) → ◌≡◌ {A = Result ConnectAnswer ConnectError} (Ok (Head s e)) (Ok (Head t f))
heads_same bytes s t e f (h, w, is, a) (k, v, other, b) =
    let same = same_head bytes h k e f w v in
    let target : s ≡ t = a ∙ ap (λ (x : RequestHead). x.target) same.0 ∙ sym b in
    let early = same.1 in
    cc

pub one : (bytes : List ℕ) (a b : Result ConnectAnswer ConnectError) → IsGiven a → IsGiven b → Answers bytes a → Answers bytes b → a ≡ b
one bytes (Err NoMemory) b given other x y = absurd (given refl)
one bytes a (Err NoMemory) given other x y = absurd (other refl)
one bytes (Ok (Head s e)) (Ok (Head t f)) given other x y = heads_same bytes s t e f x y
one bytes (Ok (Head s e)) (Ok More) given other (h, w, is, a) y = absurd (whole_not_unfinished bytes h e w (still bytes y))
one bytes (Ok (Head s e)) (Err (Fault BadHead)) given other (h, w, is, a) y = absurd (whole_not_never bytes h e w y)
one bytes (Ok (Head s e)) (Err (Fault NotConnect)) given other (h, w, is, a) (k, r, v, isnt) = absurd (other_method bytes h k e r w is v isnt)
one bytes (Ok (Head s e)) (Err (Fault TooLong)) given other (h, w, is, a) (long, u) = absurd (whole_not_unfinished bytes h e w u)
one bytes (Ok More) (Ok (Head t f)) given other x (h, w, is, a) = absurd (whole_not_unfinished bytes h f w (still bytes x))
one bytes (Ok More) (Ok More) given other x y = refl
one bytes (Ok More) (Err (Fault BadHead)) given other x y = absurd (unfinished_not_never (deciding bytes) (still bytes x) y)
one bytes (Ok More) (Err (Fault NotConnect)) given other x (k, r, v, isnt) = absurd (whole_not_unfinished bytes k r v (still bytes x))
one bytes (Ok More) (Err (Fault TooLong)) given other (short, u) (long, v) = absurd (omega arith)
one bytes (Err (Fault BadHead)) (Ok (Head t f)) given other x (h, w, is, a) = absurd (whole_not_never bytes h f w x)
one bytes (Err (Fault BadHead)) (Ok More) given other x y = absurd (unfinished_not_never (deciding bytes) (still bytes y) x)
one bytes (Err (Fault BadHead)) (Err (Fault BadHead)) given other x y = refl
one bytes (Err (Fault BadHead)) (Err (Fault NotConnect)) given other x (k, r, v, isnt) = absurd (whole_not_never bytes k r v x)
one bytes (Err (Fault BadHead)) (Err (Fault TooLong)) given other x (long, u) = absurd (unfinished_not_never (deciding bytes) u x)
one bytes (Err (Fault NotConnect)) (Ok (Head t f)) given other (k, r, v, isnt) (h, w, is, a) = absurd (other_method bytes h k f r w is v isnt)
one bytes (Err (Fault NotConnect)) (Ok More) given other (k, r, v, isnt) y = absurd (whole_not_unfinished bytes k r v (still bytes y))
one bytes (Err (Fault NotConnect)) (Err (Fault BadHead)) given other (k, r, v, isnt) y = absurd (whole_not_never bytes k r v y)
one bytes (Err (Fault NotConnect)) (Err (Fault NotConnect)) given other x y = refl
one bytes (Err (Fault NotConnect)) (Err (Fault TooLong)) given other (k, r, v, isnt) (long, u) = absurd (whole_not_unfinished bytes k r v u)
one bytes (Err (Fault TooLong)) (Ok (Head t f)) given other (long, u) (h, w, is, a) = absurd (whole_not_unfinished bytes h f w u)
one bytes (Err (Fault TooLong)) (Ok More) given other (long, u) (short, v) = absurd (omega arith)
one bytes (Err (Fault TooLong)) (Err (Fault BadHead)) given other (long, u) y = absurd (unfinished_not_never (deciding bytes) u y)
one bytes (Err (Fault TooLong)) (Err (Fault NotConnect)) given other (long, u) (k, r, v, isnt) = absurd (whole_not_unfinished bytes k r v u)
one bytes (Err (Fault TooLong)) (Err (Fault TooLong)) given other x y = refl

-- ---- what lasts

whole_more : (bytes more : List ℕ) (h : RequestHead) (rest : List ℕ) → BeginsWithHead bytes h rest → BeginsWithHead (bytes ++ more) h (rest ++ more)
whole_more bytes more h rest w = record { reads = ReadsRequest-append bytes h rest more w.reads; small = w.small }

never_more : (s more : List ℕ) → IsNever s → IsNever (s ++ more)
never_more s more n = record {
  head = λ next. subst (λ (t : List ℕ). (h : RequestHead) (rest : List ℕ) → ReadsRequest t h rest → ⊥) (sym (append_assoc s more next)) (n.head (more ++ next));
  target = λ next. subst (λ (t : List ℕ). EndsInTarget t → ⊥) (sym (append_assoc s more next)) (n.target (more ++ next));
}

pub lasts : (bytes : List ℕ) (answer : Result ConnectAnswer ConnectError) → Answers bytes answer → Lasts bytes answer
lasts bytes (Ok (Head target early)) (h, w, is, e) = λ more. (h, whole_more bytes more h early w, is, e)
lasts bytes (Ok More) x = tt
lasts bytes (Err (Fault BadHead)) x = λ more.
    let next = deciding_more bytes more in
    subst IsNever (sym next.1) (never_more (deciding bytes) next.0 x)
lasts bytes (Err (Fault NotConnect)) (h, rest, w, isnt) = λ more. (h, rest ++ more, whole_more bytes more h rest w, isnt)
lasts bytes (Err (Fault TooLong)) (long, u) = λ more.
    let n = length-append bytes more in
    (omega arith, subst IsUnfinished (sym (long_decides bytes more long)) u)
lasts bytes (Err NoMemory) x = tt
