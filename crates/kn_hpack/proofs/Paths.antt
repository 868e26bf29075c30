-- The tree is that of the codes: what the checker computes over all nodes and symbols, and what follows of it.
use Rattle.std.proofs.Common.{◌≡◌, refl, sym, ◌∙◌, ap, ℕ, zero, suc, ◌+◌, ◌*◌, ◌-◌, ◌/◌, ◌%◌, ◌^◌, ◌==◌, ◌<◌, ◌≤◌, Bool, true, false, not, ◌&&◌, ◌||◌, nat_eq, nat_lt, nat_le, List, [], ◌∷◌, ◌++◌, length, get_or, replicate, if◌then◌else◌, arith, inl, inr}
use Rattle.std.proofs.Math.Nat.{pow-succ', div-div-eq-div-mul}
use Rattle.std.proofs.lemmas.Bool.{agree_below, agree_below_at, eqb-true, leb-true, and_parts, le-ltb, lt-ltb, cases_lt}
use Rattle.std.proofs.lemmas.List.{get_or_past, append_assoc}
use Rattle.kn_hpack.specs.Codes.{Code, symbols, codes, bits, find, code_of}
use Rattle.kn_hpack.specs.Walks.{child, entry_at}
use Rattle.kn_hpack.specs.HuffmanLaws.{IsBits}
use Rattle.kn_hpack.specs.declared.tree.TheConstants.{TREE}
use Rattle.kn_hpack.proofs.Marks.{marks}
use Rattle.kn_hpack.proofs.TreeFacts.{entry_small}

unfoldable pub mark : ℕ → ℕ × ℕ
mark c = get_or marks c (0, 0)

-- the bits that lead to a node, or to 256 and a symbol
unfoldable pub path : ℕ → List ℕ
path c = bits (mark c).0 (mark c).1

-- bits

pub bits_small : (k n : ℕ) → IsBits (bits k n)
unfolding bits
bits_small zero n = tt
bits_small (suc k) n = (omega arith, bits_small k n)

pub length-bits : (k n : ℕ) → length (bits k n) ≡ k
unfolding bits
length-bits zero n = refl
length-bits (suc k) n = ap suc (length-bits k n)

halved : (k v b : ℕ) → b < 2 → (2 * v + b) / 2 ^ suc k ≡ v / 2 ^ k
halved k v b h = let e : (2 * v + b) / 2 ≡ v = omega arith in ap (λ (d : ℕ). (2 * v + b) / d) (pow-succ' 2 k) ∙ (sym (div-div-eq-div-mul (2 * v + b) 2 (2 ^ k)) ∙ ap (λ (d : ℕ). d / 2 ^ k) e)

bits_more : (k v b : ℕ) → b < 2 → bits (suc k) (2 * v + b) ≡ bits k v ++ b ∷ []
unfolding bits
bits_more zero v b h = let e : (2 * v + b) / 1 % 2 ≡ b = omega arith in ap (λ (x : ℕ). x ∷ []) e
bits_more (suc k) v b h =
    ap (λ (d : ℕ). (d % 2) ∷ bits (suc k) (2 * v + b)) (halved k v b h) ∙ ap (λ (xs : List ℕ). (v / 2 ^ k % 2) ∷ xs) (bits_more k v b h)

-- an edge leads one bit further

abbrev edge : ℕ → ℕ → Bool
edge n b = nat_eq (mark (child n b)).0 (suc (mark n).0) && nat_eq (mark (child n b)).1 (2 * (mark n).1 + b)

abbrev edge_ok : ℕ → ℕ → Bool
edge_ok b n = edge n b

edges_zero : agree_below (edge_ok 0) (λ _. true) 256 ≡ true
unfolding mark marks child entry_at
edges_zero = refl

edges_one : agree_below (edge_ok 1) (λ _. true) 256 ≡ true
unfolding mark marks child entry_at
edges_one = refl

edge_is : (n b : ℕ) → n < 256 → b < 2 → edge n b ≡ true
edge_is n zero h l = agree_below_at (edge_ok 0) (λ _. true) 256 n edges_zero h
edge_is n (suc zero) h l = agree_below_at (edge_ok 1) (λ _. true) 256 n edges_one h
edge_is n (suc (suc b)) h l = absurd (omega arith)

pub path_more : (n b : ℕ) → n < 256 → b < 2 → path (child n b) ≡ path n ++ b ∷ []
unfolding path
path_more n b h l =
    let e = and_parts (nat_eq (mark (child n b)).0 (suc (mark n).0)) (nat_eq (mark (child n b)).1 (2 * (mark n).1 + b)) (edge_is n b h l) in
    let e0 : (mark (child n b)).0 ≡ suc (mark n).0 = eqb-true (mark (child n b)).0 (suc (mark n).0) e.0 in
    let e1 : (mark (child n b)).1 ≡ 2 * (mark n).1 + b = eqb-true (mark (child n b)).1 (2 * (mark n).1 + b) e.1 in
    ap (λ (k : ℕ). bits k (mark (child n b)).1) e0 ∙ (ap (λ (v : ℕ). bits (suc (mark n).0) v) e1 ∙ bits_more (mark n).0 (mark n).1 b l)

pub path_zero : path 0 ≡ []
unfolding path mark marks bits
path_zero = refl

-- the path to a symbol is its code

abbrev find_mark : ℕ → List Code → ℕ × ℕ
find_mark s [] = (0, 0)
find_mark s (c ∷ cs) = if c.symbol == s then (c.len, c.value) else find_mark s cs

find_by : (t : Bool) (s : ℕ) (c : Code) (cs : List Code) → nat_eq c.symbol s ≡ t → find s cs ≡ bits (find_mark s cs).0 (find_mark s cs).1
    → find s (c ∷ cs) ≡ bits (find_mark s (c ∷ cs)).0 (find_mark s (c ∷ cs)).1
find_by true s c cs t e = rw t refl
find_by false s c cs t e = rw t e

find_is : (s : ℕ) (cs : List Code) → find s cs ≡ bits (find_mark s cs).0 (find_mark s cs).1
unfolding bits
find_is s [] = refl
find_is s (c ∷ cs) = find_by (nat_eq c.symbol s) s c cs refl (find_is s cs)

abbrev code_ok : ℕ → Bool
code_ok s = nat_eq (mark (256 + s)).0 (find_mark s codes).0 && nat_eq (mark (256 + s)).1 (find_mark s codes).1

codes_ok : agree_below code_ok (λ _. true) 257 ≡ true
unfolding mark marks codes symbols
codes_ok = refl

pub code_is : (s : ℕ) → s < 257 → code_of s ≡ path (256 + s)
unfolding path code_of
code_is s h =
    let e = and_parts (nat_eq (mark (256 + s)).0 (find_mark s codes).0) (nat_eq (mark (256 + s)).1 (find_mark s codes).1) (agree_below_at code_ok (λ _. true) 257 s codes_ok h) in
    let e0 : (mark (256 + s)).0 ≡ (find_mark s codes).0 = eqb-true (mark (256 + s)).0 (find_mark s codes).0 e.0 in
    let e1 : (mark (256 + s)).1 ≡ (find_mark s codes).1 = eqb-true (mark (256 + s)).1 (find_mark s codes).1 e.1 in
    find_is s codes ∙ (ap (λ (k : ℕ). bits k (find_mark s codes).1) (sym e0) ∙ ap (λ (v : ℕ). bits (mark (256 + s)).0 v) (sym e1))

-- along a code one comes to its symbol, and to no symbol before

unfoldable pub next_of : ℕ → ℕ → ℕ
next_of n b = get_or TREE (2 * n + b) 513

unfoldable pub run : ℕ → List ℕ → ℕ
run n [] = n
run n (b ∷ bs) = run (next_of n b) bs

tree_long : length TREE ≡ 512
tree_long = refl

pub next_past : (n b : ℕ) → 256 ≤ n → next_of n b ≡ 513
unfolding next_of
next_past n b h = get_or_past TREE (2 * n + b) 513 (omega (arith, tree_long))

same_default : (xs : List ℕ) (i d e : ℕ) → i < length xs → get_or xs i d ≡ get_or xs i e
same_default [] i d e h = absurd (omega arith)
same_default (x ∷ xs) zero d e h = refl
same_default (x ∷ xs) (suc i) d e h = same_default xs i d e (omega arith)

pub next_is : (n b : ℕ) → n < 256 → b < 2 → next_of n b ≡ child n b
unfolding next_of child entry_at
next_is n b h l = same_default TREE (2 * n + b) 513 0 (omega (arith, tree_long))

pub stuck : (bs : List ℕ) → run 513 bs ≡ 513
unfolding run
stuck [] = refl
stuck (b ∷ bs) = ap (λ (n : ℕ). run n bs) (next_past 513 b (omega arith)) ∙ stuck bs

abbrev run_ok : ℕ → Bool
run_ok s = nat_eq (run 0 (path (256 + s))) (256 + s)

runs_ok : agree_below run_ok (λ _. true) 257 ≡ true
unfolding run next_of path mark marks bits
runs_ok = refl

pub run_is : (s : ℕ) → s < 257 → run 0 (code_of s) ≡ 256 + s
run_is s h = ap (run 0) (code_is s h) ∙ eqb-true (run 0 (path (256 + s))) (256 + s) (agree_below_at run_ok (λ _. true) 257 s runs_ok h)

-- the nodes of the padding

abbrev all_ones : List ℕ → Bool
all_ones [] = true
all_ones (b ∷ bs) = nat_eq b 1 && all_ones bs

abbrev low_ok : ℕ → Bool
low_ok n = nat_eq (mark n).0 n && (nat_eq (child n 1) (suc n) && all_ones (path n))

lows_ok : agree_below low_ok (λ _. true) 7 ≡ true
unfolding mark marks child entry_at path bits
lows_ok = refl

all_ones_are : (bs : List ℕ) → all_ones bs ≡ true → bs ≡ replicate (length bs) 1
all_ones_are [] h = refl
all_ones_are (b ∷ bs) h =
    let p = and_parts (nat_eq b 1) (all_ones bs) h in
    let e : b ≡ 1 = eqb-true b 1 p.0 in
    ap (λ (x : ℕ). x ∷ bs) e ∙ ap (λ (xs : List ℕ). 1 ∷ xs) (all_ones_are bs p.1)

ones_are_all : (k : ℕ) → all_ones (replicate k 1) ≡ true
ones_are_all zero = refl
ones_are_all (suc k) = ones_are_all k

pub next_one : (n : ℕ) → n < 7 → child n 1 ≡ suc n
next_one n h =
    let p = and_parts (nat_eq (mark n).0 n) (nat_eq (child n 1) (suc n) && all_ones (path n)) (agree_below_at low_ok (λ _. true) 7 n lows_ok h) in
    eqb-true (child n 1) (suc n) (and_parts (nat_eq (child n 1) (suc n)) (all_ones (path n)) p.1).0

abbrev ones_ok : ℕ → Bool
ones_ok n = nat_eq (mark n).0 n && all_ones (path n)

all_low_ok : agree_below ones_ok (λ _. true) 8 ≡ true
unfolding mark marks path bits
all_low_ok = refl

pub low_path : (n : ℕ) → n < 8 → path n ≡ replicate n 1
unfolding path
low_path n h =
    let p = and_parts (nat_eq (mark n).0 n) (all_ones (path n)) (agree_below_at ones_ok (λ _. true) 8 n all_low_ok h) in
    let e : length (path n) ≡ n = length-bits (mark n).0 (mark n).1 ∙ eqb-true (mark n).0 n p.0 in
    all_ones_are (path n) p.1 ∙ ap (λ (k : ℕ). replicate k 1) e

abbrev high_ok : ℕ → Bool
high_ok n = nat_lt n 8 || (nat_lt 7 (mark n).0 || not (all_ones (path n)))

highs_ok : agree_below high_ok (λ _. true) 256 ≡ true
unfolding mark marks path bits
highs_ok = refl

high_by : (a b c : Bool) → (a || (b || not c)) ≡ true → a ≡ false → b ≡ false → c ≡ false
high_by true b c h ha hb = absurd cc
high_by false true c h ha hb = absurd cc
high_by false false true h ha hb = absurd cc
high_by false false false h ha hb = refl

length-ones : (k : ℕ) → length {A = ℕ} (replicate k 1) ≡ k
length-ones zero = refl
length-ones (suc k) = ap suc (length-ones k)

pub high_path : (n k : ℕ) → n < 256 → 8 ≤ n → k ≤ 7 → path n ≡ replicate k 1 → ⊥
unfolding path
high_path n k h low few e =
    let len : (mark n).0 ≡ k = sym (length-bits (mark n).0 (mark n).1) ∙ (ap (λ (xs : List ℕ). length xs) e ∙ length-ones k) in
    let bad : all_ones (path n) ≡ false =
    high_by (nat_lt n 8) (nat_lt 7 (mark n).0) (all_ones (path n)) (agree_below_at high_ok (λ _. true) 256 n highs_ok h) (le-ltb n 8 low) (le-ltb 7 (mark n).0 (omega arith)) in
    let good : all_ones (path n) ≡ true = ap all_ones e ∙ ones_are_all k in
    absurd cc

-- below each node there is a symbol

abbrev down : ℕ → ℕ → ℕ
down zero c = c
down (suc k) c = down k (if nat_lt c 256 then child c 0 else c)

abbrev ends_ok : ℕ → Bool
ends_ok n = nat_le 256 (down 30 n)

all_end : agree_below ends_ok (λ _. true) 256 ≡ true
unfolding child entry_at
all_end = refl

pub child_small : (n b : ℕ) → n < 256 → b < 2 → child n b ≤ 512
unfolding child
child_small n b h l = entry_small (2 * n + b) (omega arith)

-- what stands below a node
pub record Below (c : ℕ) : Type 0 where
  pub symbol : ℕ
  pub known : symbol < 257
  pub next : ℕ
  pub rest : List ℕ
  pub joined : path (256 + symbol) ≡ path c ++ next ∷ rest

below_deeper : (c : ℕ) → c < 256 → Below (child c 0) → Below c
below_deeper c h d = record {
  symbol = d.symbol;
  known = d.known;
  next = 0;
  rest = d.next ∷ d.rest;
  joined = d.joined ∙ (ap (λ (xs : List ℕ). xs ++ d.next ∷ d.rest) (path_more c 0 h (omega arith)) ∙ append_assoc (path c) (0 ∷ []) (d.next ∷ d.rest));
}

below_leaf : (c : ℕ) → c < 256 → 256 ≤ child c 0 → Below c
below_leaf c h l =
    let e : 256 + (child c 0 - 256) ≡ child c 0 = omega arith in
    record {
      symbol = child c 0 - 256;
      known = omega (arith, child_small c 0 h (omega arith));
      next = 0;
      rest = [];
      joined = ap path e ∙ path_more c 0 h (omega arith);
    }

down_in : (k c : ℕ) → c < 256 → down (suc k) c ≡ down k (child c 0)
down_in k c h = ap (λ (t : Bool). down k (if t then child c 0 else c)) (lt-ltb c 256 h)

descends : (k c : ℕ) → c < 256 → 256 ≤ down k c → Below c
descends zero c h d = absurd (omega arith)
descends (suc k) c h d =
    let e : 256 ≤ down k (child c 0) = omega (arith, down_in k c h) in
    elim (cases_lt (child c 0) 256) [ inl low ↦ below_deeper c h (descends k (child c 0) low e) | inr high ↦ below_leaf c h high ]

pub below : (n : ℕ) → n < 256 → Below n
below n h = descends 30 n h (leb-true 256 (down 30 n) (agree_below_at ends_ok (λ _. true) 256 n all_end h))
