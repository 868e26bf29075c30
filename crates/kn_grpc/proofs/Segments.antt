-- The suffixes that the code looks for are the last two segments.
use Rattle.std.proofs.Common.{◌≡◌, ℕ, zero, suc, ◌+◌, ◌-◌, ◌<◌, ◌==◌, ◌&&◌, ◌⊎◌, Bool, true, false, not, cond, List, [], ◌∷◌, ◌++◌, length, take, drop, get_or, slice_index, nat_eq, codes, Some, None, arith, refl, sym, ap, ◌∙◌, subst, append_assoc, length-append, inl, inr}
use Rattle.std.specs.List.{ends_with}
use Rattle.std.proofs.lemmas.List.{take-append-drop, drop_at, take_at, get_or_at, get_or_append_left, get_or-append_right}
use Rattle.std.proofs.lemmas.Bool.{cases_eq, eqb-true, eq-eqb, ne_eqb, and_parts, and_from, or_cases, or_left, or_right, not-true, not_from_false}
use Rattle.std.proofs.lemmas.Slice.Eq.{bytes_eq-Decides}
use Rattle.kn_grpc.specs.declared.call.Service.{Service}
use Rattle.kn_grpc.specs.declared.call.Service.TheVariants.{Agent, Proxy}
use Rattle.kn_grpc.specs.Calls.{may_precede, ends_in, service_of}
use Rattle.kn_grpc.specs.Paths.{segments_of, HasNoSlash, EndsIn, plain, packaged}

-- a list by its last byte
pub record Last (text : List ℕ) : Type 0 where
  pub front : List ℕ
  pub byte : ℕ
  pub joined : text ≡ front ++ byte ∷ []

last_of : (x : ℕ) (xs : List ℕ) → Last (x ∷ xs)
last_of x [] = record { front = []; byte = x; joined = refl }
last_of x (y ∷ ys) = let l = last_of y ys in record { front = x ∷ l.front; byte = l.byte; joined = ap (λ t. x ∷ t) l.joined }

last_byte : (front : List ℕ) (byte : ℕ) → get_or (front ++ byte ∷ []) (length (front ++ byte ∷ []) - 1) 0 ≡ byte
last_byte front byte =
    let n : length (front ++ byte ∷ []) - 1 ≡ length front = omega (arith, length-append front (byte ∷ [])) in
    ap (λ i. get_or (front ++ byte ∷ []) i 0) n ∙ get_or_at front byte [] 0 (length front) refl

before_last : (front : List ℕ) (byte : ℕ) → 0 < length front → get_or (front ++ byte ∷ []) (length (front ++ byte ∷ []) - 2) 0 ≡ get_or front (length front - 1) 0
before_last front byte h =
    let n : length (front ++ byte ∷ []) - 2 ≡ length front - 1 = omega (arith, length-append front (byte ∷ [])) in
    ap (λ i. get_or (front ++ byte ∷ []) i 0) n ∙ get_or_append_left front (byte ∷ []) 0 (length front - 1) (omega arith)

-- the part behind the last slash
pub record Behind (text : List ℕ) : Type 0 where
  pub front : List ℕ
  pub part : List ℕ
  pub joined : text ≡ front ++ 47 ∷ part
  pub free : HasNoSlash part

none_more : (x : ℕ) (xs : List ℕ) → (x ≡ 47 → ⊥) → HasNoSlash xs → HasNoSlash (x ∷ xs)
none_more x xs e n zero h = e h
none_more x xs e n (suc i) h = n i h

slash_or_none : (text : List ℕ) → Behind text ⊎ HasNoSlash text
slash_or_none [] = inr (λ i e. omega (arith, e))
slash_or_none (x ∷ xs) = elim (slash_or_none xs) [
  | inl b ↦ inl (record { front = x ∷ b.front; part = b.part; joined = ap (λ t. x ∷ t) b.joined; free = b.free })
  | inr n ↦ elim (cases_eq x 47) [
    | inl e ↦ inl (record { front = []; part = xs; joined = ap (λ y. y ∷ xs) e; free = n })
    | inr e ↦ inr (none_more x xs e n)
  ]
]

not_empty : (text : List ℕ) → (text ≡ [] → ⊥) → 0 < length text
not_empty [] h = absurd (h refl)
not_empty (x ∷ xs) h = omega arith

-- the last byte behind a slash
last_in : (front part : List ℕ) → 0 < length part → get_or (front ++ 47 ∷ part) (length (front ++ 47 ∷ part) - 1) 0 ≡ get_or part (length part - 1) 0
last_in front [] h = absurd (omega arith)
last_in front (x ∷ xs) h =
    let l = last_of x xs in
    let j : front ++ 47 ∷ (x ∷ xs) ≡ (front ++ 47 ∷ l.front) ++ l.byte ∷ [] = ap (λ t. front ++ 47 ∷ t) l.joined ∙ sym (append_assoc front (47 ∷ l.front) (l.byte ∷ [])) in
    ap (λ t. get_or t (length t - 1) 0) j ∙ last_byte (front ++ 47 ∷ l.front) l.byte ∙ sym (ap (λ t. get_or t (length t - 1) 0) l.joined ∙ last_byte l.front l.byte)

-- a text that begins with a slash
behind_of : (text : List ℕ) → get_or text 0 0 ≡ 47 → Behind text
behind_of text e = elim (slash_or_none text) [
  | inl b ↦ b
  | inr n ↦ absurd (n 0 e)
]

-- what may stand before the segments
pub data Precedes (front : List ℕ) : Type 0 where
  slash : (start : List ℕ) → front ≡ start ++ 47 ∷ [] → Precedes front
  dot : (start : List ℕ) → front ≡ start ++ 46 ∷ [] → (0 < length start → get_or start (length start - 1) 0 ≡ 47 → ⊥) → Precedes front

precedes_by : (start : List ℕ) (byte : ℕ) → may_precede (start ++ byte ∷ []) ≡ true → Precedes (start ++ byte ∷ [])
precedes_by start byte h =
    let t = start ++ byte ∷ [] in
    let l = last_byte start byte in
    elim (or_cases (slice_index t (length t - 1) == 47) ((slice_index t (length t - 1) == 46) && not (slice_index t (length t - 2) == 47)) h) [
      | inl e ↦
          let b : byte ≡ 47 = sym l ∙ eqb-true (slice_index t (length t - 1)) 47 e in
          slash start (ap (λ x. start ++ x ∷ []) b)
      | inr e ↦
          let p = and_parts (slice_index t (length t - 1) == 46) (not (slice_index t (length t - 2) == 47)) e in
          let b : byte ≡ 46 = sym l ∙ eqb-true (slice_index t (length t - 1)) 46 p.0 in
          let n = not-true (slice_index t (length t - 2) == 47) p.1 in
          dot start (ap (λ x. start ++ x ∷ []) b) (λ some same.
          let q : (slice_index t (length t - 2) == 47) ≡ true = eq-eqb (slice_index t (length t - 2)) 47 (before_last start byte some ∙ same) in
          let z : true ≡ false = sym q ∙ n in cc)
    ]

precedes : (front : List ℕ) → may_precede front ≡ true → Precedes front
precedes [] h = absurd (let z : false ≡ true = h in cc)
precedes (x ∷ xs) h =
    let l = last_of x xs in
    subst Precedes (sym l.joined) (precedes_by l.front l.byte (ap may_precede (sym l.joined) ∙ h))

-- a path that ends so
ends_split : (path segments : List ℕ) → ends_with nat_eq path segments ≡ true → path ≡ take (length path - length segments) path ++ segments
ends_split path segments h =
    let d : segments ≡ drop (length path - length segments) path = (bytes_eq-Decides segments (drop (length path - length segments) path)).0 h in
    sym (take-append-drop (length path - length segments) path) ∙ ap (λ t. take (length path - length segments) path ++ t) (sym d)

-- the package, between the last slash and the dot
in_package : (path segments start : List ℕ) → get_or path 0 0 ≡ 47 → path ≡ (start ++ 46 ∷ []) ++ segments → (0 < length start → get_or start (length start - 1) 0 ≡ 47 → ⊥) → EndsIn path segments
in_package path segments [] b e n = absurd (let f : get_or path 0 0 ≡ 46 = ap (λ t. get_or t 0 0) e in omega (arith, b, f))
in_package path segments (x ∷ start) b e n =
    let f : x ≡ 47 = sym (ap (λ t. get_or t 0 0) e) ∙ b in
    let p = behind_of (x ∷ start) f in
    let j : path ≡ p.front ++ 47 ∷ (p.part ++ 46 ∷ segments) =
    e ∙ append_assoc (x ∷ start) (46 ∷ []) segments ∙ ap (λ t. t ++ 46 ∷ segments) p.joined ∙ append_assoc p.front (47 ∷ p.part) (46 ∷ segments) in
    packaged p.front p.part b j (not_empty p.part (λ z.
    let k : x ∷ start ≡ p.front ++ 47 ∷ [] = p.joined ∙ ap (λ t. p.front ++ 47 ∷ t) z in
    n (omega arith) (ap (λ t. get_or t (length t - 1) 0) k ∙ last_byte p.front 47))) p.free

pub ends_named : (path segments : List ℕ) → get_or path 0 0 ≡ 47 → ends_in path segments ≡ true → EndsIn path segments
ends_named path segments b h =
    let front = take (length path - length segments) path in
    let p = and_parts (ends_with nat_eq path segments) (may_precede front) h in
    let j = ends_split path segments p.0 in
    elim (precedes front p.1) [
      | slash start e ↦ plain start b (j ∙ ap (λ t. t ++ segments) e ∙ append_assoc start (47 ∷ []) segments)
      | dot start e n ↦ in_package path segments start b (j ∙ ap (λ t. t ++ segments) e) n
    ]

-- ---- and back

ends_by : (front segments : List ℕ) → may_precede front ≡ true → ends_in (front ++ segments) segments ≡ true
ends_by front segments h =
    let path = front ++ segments in
    let n : length path - length segments ≡ length front = omega (arith, length-append front segments) in
    let d : drop (length path - length segments) path ≡ segments = drop_at front segments (length path - length segments) (sym n) in
    let t : take (length path - length segments) path ≡ front = take_at front segments (length path - length segments) (sym n) in
    and_from (ends_with nat_eq path segments) (may_precede (take (length path - length segments) path)) ((bytes_eq-Decides segments (drop (length path - length segments) path)).1 (sym d)) (ap may_precede t ∙ h)

behind_slash : (start : List ℕ) → may_precede (start ++ 47 ∷ []) ≡ true
behind_slash start =
    let t = start ++ 47 ∷ [] in
    or_left (slice_index t (length t - 1) == 47) ((slice_index t (length t - 1) == 46) && not (slice_index t (length t - 2) == 47)) (eq-eqb (slice_index t (length t - 1)) 47 (last_byte start 47))

behind_dot : (start : List ℕ) → 0 < length start → (get_or start (length start - 1) 0 ≡ 47 → ⊥) → may_precede (start ++ 46 ∷ []) ≡ true
behind_dot start h n =
    let t = start ++ 46 ∷ [] in
    let s = before_last start 46 h in
    or_right (slice_index t (length t - 1) == 47) ((slice_index t (length t - 1) == 46) && not (slice_index t (length t - 2) == 47))
    (and_from (slice_index t (length t - 1) == 46) (not (slice_index t (length t - 2) == 47)) (eq-eqb (slice_index t (length t - 1)) 46 (last_byte start 46))
    (not_from_false (slice_index t (length t - 2) == 47) (ne_eqb (slice_index t (length t - 2)) 47 (λ e. n (sym s ∙ e)))))

pub named_ends : (path segments : List ℕ) → EndsIn path segments → ends_in path segments ≡ true
named_ends path segments (plain front b e) =
    let j : path ≡ (front ++ 47 ∷ []) ++ segments = e ∙ sym (append_assoc front (47 ∷ []) segments) in
    ap (λ t. ends_in t segments) j ∙ ends_by (front ++ 47 ∷ []) segments (behind_slash front)
named_ends path segments (packaged front name b e some free) =
    let start = front ++ 47 ∷ name in
    let j : path ≡ (start ++ 46 ∷ []) ++ segments = e ∙ sym (append_assoc front (47 ∷ name) (46 ∷ segments)) ∙ sym (append_assoc start (46 ∷ []) segments) in
    let l = length-append front (47 ∷ name) in
    let k : get_or start (length start - 1) 0 ≡ get_or name (length name - 1) 0 = last_in front name some in
    ap (λ t. ends_in t segments) j ∙ ends_by (start ++ 46 ∷ []) segments (behind_dot start (omega (arith, l)) (λ z. free (length name - 1) (sym k ∙ z)))

pub begins_named : (path segments : List ℕ) → EndsIn path segments → get_or path 0 0 ≡ 47
begins_named path segments (plain front b e) = b
begins_named path segments (packaged front name b e some free) = b

-- ---- the service

-- the tests of a path, and what they gave
data Served (a b c : Bool) (service : Service) : Type 0 where
  agent : a ≡ true → b ≡ true → Agent ≡ service → Served a b c service
  proxy : a ≡ true → c ≡ true → Proxy ≡ service → Served a b c service

served : (a b c : Bool) (service : Service) → cond a (cond b (Some Agent) (cond c (Some Proxy) None)) None ≡ Some service → Served a b c service
served false b c service e = absurd (cc)
served true true c service e = agent refl refl (cc)
served true false true service e = proxy refl refl (cc)
served true false false service e = absurd (cc)

pub path_named : (path : List ℕ) (service : Service) → service_of path ≡ Some service → EndsIn path (segments_of service)
unfolding service_of segments_of
path_named path service e = elim (served (slice_index path 0 == 47) (ends_in path (codes "AgentService/Connect")) (ends_in path (codes "ProxyService/Proxy")) service e) [
  | agent a b s ↦ subst (λ x. EndsIn path (segments_of x)) s (ends_named path (codes "AgentService/Connect") (eqb-true (slice_index path 0) 47 a) b)
  | proxy a b s ↦ subst (λ x. EndsIn path (segments_of x)) s (ends_named path (codes "ProxyService/Proxy") (eqb-true (slice_index path 0) 47 a) b)
]

-- the segments of one service do not end in those of the other: their last bytes differ
last_of_path : (path segments : List ℕ) (n : ℕ) → ends_in path segments ≡ true → length segments ≡ suc n → get_or path (length path - 1) 0 ≡ get_or segments n 0
last_of_path path segments n h l =
    let front = take (length path - length segments) path in
    let p = and_parts (ends_with nat_eq path segments) (may_precede front) h in
    let j = ends_split path segments p.0 in
    let k : length (front ++ segments) - 1 ≡ length front + n = omega (arith, length-append front segments, l) in
    ap (λ t. get_or t (length t - 1) 0) j ∙ ap (λ i. get_or (front ++ segments) i 0) k
    ∙ get_or-append_right front segments (length front) (length front + n) 0 refl (omega arith) ∙ ap (λ i. get_or segments i 0) (omega arith)

not_agent : (path : List ℕ) (b : Bool) → ends_in path (codes "AgentService/Connect") ≡ b → ends_in path (codes "ProxyService/Proxy") ≡ true → b ≡ false
not_agent path false e h = refl
not_agent path true e h =
    let x : get_or path (length path - 1) 0 ≡ 116 = last_of_path path (codes "AgentService/Connect") 19 e refl in
    let y : get_or path (length path - 1) 0 ≡ 121 = last_of_path path (codes "ProxyService/Proxy") 17 h refl in
    absurd (omega (arith, x, y))

pub named_path : (path : List ℕ) (service : Service) → EndsIn path (segments_of service) → service_of path ≡ Some service
unfolding service_of segments_of
named_path path Agent e =
    let a : (slice_index path 0 == 47) ≡ true = eq-eqb (slice_index path 0) 47 (begins_named path (codes "AgentService/Connect") e) in
    let b = named_ends path (codes "AgentService/Connect") e in
    rw (a, b)
named_path path Proxy e =
    let a : (slice_index path 0 == 47) ≡ true = eq-eqb (slice_index path 0) 47 (begins_named path (codes "ProxyService/Proxy") e) in
    let c = named_ends path (codes "ProxyService/Proxy") e in
    let b = not_agent path (ends_in path (codes "AgentService/Connect")) refl c in
    rw (a, b, c)
