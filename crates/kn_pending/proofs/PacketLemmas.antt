-- Packets on their way.
use Rattle.std.proofs.Common.{◌≡◌, ℕ, zero, suc, ◌<◌, ◌≤◌, List, [], ◌∷◌, ◌++◌, length, refl, sym, ap, ◌∙◌, subst, append_assoc, append-nil, length-append, arith, true}
use Rattle.std.specs.List.{AllByRecursion}
use Rattle.kn_packet.specs.declared.packet.Packet.{Packet}
use Rattle.kn_packet.specs.Spelling.{spelling, HasSpelling, IsPacket}
use Rattle.kn_grpc.specs.Messages.{IsSpelling, IsPartial, length_of, spelled}
use Rattle.kn_grpc.specs.Readers.{First, Less, Whole, Bad, first_message, is_less}
use Rattle.kn_grpc.specs.Packets.{framed, first_of}
use Rattle.kn_pending.specs.Packets.{packets_at, packets_by, joined, CanBeSent, BeginAs, IsFrontOf, AreRead, CutsLeaveFronts, QueuedLast, FirstOf, TakenFirst, NoneIsBad, NothingLeft}

abbrev pub Framed : Type 0
Framed = (p : Packet) (rest : List ℕ) → IsPacket p → HasSpelling p → length (spelling p) ≤ 4194304 → first_of (framed p ++ rest) ≡ Whole p rest

abbrev pub HasBytes : Type 0
HasBytes = (p : Packet) → 0 < length (framed p)

reads : Framed → HasBytes → (fuel : ℕ) (ps : List Packet) (rest : List ℕ) → AllByRecursion CanBeSent ps → first_of rest ≡ Less → length (joined ps ++ rest) ≤ fuel
    → packets_by fuel (joined ps ++ rest) ≡ ps
unfolding packets_by joined
reads first some zero [] rest all less h = refl
reads first some (suc fuel) [] rest all less h = ap (packets_at (packets_by fuel)) less
reads first some zero (p ∷ ps) rest all less h =
    let l = some p in let e = length-append (framed p) (joined ps) in let f = length-append (framed p ++ joined ps) rest in absurd (omega arith)
reads first some (suc fuel) (p ∷ ps) rest all less h =
    let same : (framed p ++ joined ps) ++ rest ≡ framed p ++ (joined ps ++ rest) = append_assoc (framed p) (joined ps) rest in
    let l = some p in let e = length-append (framed p) (joined ps ++ rest) in let f : length ((framed p ++ joined ps) ++ rest) ≡ length (framed p ++ (joined ps ++ rest)) = ap length same in
    ap (λ (b : List ℕ). packets_at (packets_by fuel) (first_of b)) same
    ∙ (ap (packets_at (packets_by fuel)) (first p (joined ps ++ rest) all.0.is_packet all.0.has_spelling all.0.fits)
    ∙ ap (λ (qs : List Packet). p ∷ qs) (reads first some fuel ps rest all.1 less (omega arith)))

pub are_read : Framed → HasBytes → AreRead
are_read first some bytes ps (rest, e, less, all) =
    ap (λ (b : List ℕ). packets_by (length b) b) e ∙ reads first some (length (joined ps ++ rest)) ps rest all less (omega arith)

-- ---- what is cut off

abbrev pub OnlyLess : Type 0
OnlyLess = (text : List ℕ) → IsPartial text → first_message text ≡ Less

abbrev pub SameLess : Type 0
SameLess = (text : List ℕ) → is_less (first_of text) ≡ is_less (first_message text)

abbrev pub Spells : Type 0
Spells = (message : List ℕ) → length message ≤ 4194304 → IsSpelling message (spelled message)

pub less_of : (x : First Packet ℕ) → is_less x ≡ true → x ≡ Less
less_of Less e = refl
less_of (Whole p rest) e = absurd cc
less_of (Bad status) e = absurd cc

-- a front of joined bytes is one of the first, or the first and a front of the second
pub data Cut (left a b : List ℕ) : Type 0 where
  InFirst : (more : List ℕ) → left ++ more ≡ a → 0 < length more → Cut left a b
  Behind : (rest more : List ℕ) → left ≡ a ++ rest → rest ++ more ≡ b → Cut left a b

pub cut_at : (left a b more : List ℕ) → left ++ more ≡ a ++ b → Cut left a b
cut_at left [] b more e = Behind left more refl e
cut_at [] (x ∷ a) b more e = InFirst (x ∷ a) refl (omega arith)
cut_at (y ∷ left) (x ∷ a) b more e =
    let head : y ≡ x = cc in
    let tail : left ++ more ≡ a ++ b = cc in
    on head (cut_at left a b more tail)
  where
    on : y ≡ x → Cut left a b → Cut (y ∷ left) (x ∷ a) b
    on h (InFirst m f l) = InFirst m (ap (λ (i : ℕ). i ∷ (left ++ m)) h ∙ ap (λ (l : List ℕ). x ∷ l) f) l
    on h (Behind r m f g) = Behind r m (ap (λ (i : ℕ). i ∷ left) h ∙ ap (λ (l : List ℕ). x ∷ l) f) g

front_nil : (left more : List ℕ) → left ++ more ≡ [] → left ≡ []
front_nil [] more e = refl
front_nil (x ∷ left) more e = absurd cc

pub nothing_first : first_of [] ≡ Less
unfolding first_of first_message length_of
nothing_first = refl

abbrev pub Fronts : List ℕ → List Packet → Type 0
Fronts bytes ps = (qs : List Packet) × IsFrontOf qs ps × BeginAs bytes qs

-- a front of what begins as packets begins as a front of them
module _ (only : OnlyLess) (same : SameLess) (spells : Spells) (less_front : (left more : List ℕ) → first_of (left ++ more) ≡ Less → first_of left ≡ Less) where
  pub cuts : (bytes : List ℕ) (ps : List Packet) (rest more : List ℕ) → AllByRecursion CanBeSent ps → first_of rest ≡ Less → bytes ++ more ≡ joined ps ++ rest → Fronts bytes ps
  unfolding joined
  cuts bytes [] rest more all less e = ([], ([], refl), (bytes, refl, less_front bytes more (ap first_of e ∙ less), tt))
  cuts bytes (p ∷ ps) rest more all less e = by_cut (λ r m g. cuts r ps rest m all.1 less g) (cut_at bytes (framed p) (joined ps ++ rest) more (e ∙ append_assoc (framed p) (joined ps) rest))
    where
      partial : (m : List ℕ) → bytes ++ m ≡ framed p → 0 < length m → first_of bytes ≡ Less
      partial m f l = less_of (first_of bytes) (same bytes ∙ ap is_less (only bytes (spelling p, m, subst (IsSpelling (spelling p)) (sym f) (spells (spelling p) all.0.fits), l)))

      by_cut : ((r m : List ℕ) → r ++ m ≡ joined ps ++ rest → Fronts r ps) → Cut bytes (framed p) (joined ps ++ rest) → Fronts bytes (p ∷ ps)
      by_cut go (InFirst m f l) = ([], (p ∷ ps, refl), (bytes, refl, partial m f l, tt))
      by_cut go (Behind r m f g) =
          let later = go r m g in (
            p ∷ later.0,
            (later.1.0, ap (λ (qs : List Packet). p ∷ qs) later.1.1),
            (later.2.0, f ∙ (ap (λ (b : List ℕ). framed p ++ b) later.2.1 ∙ sym (append_assoc (framed p) (joined later.0) later.2.0)), later.2.2, (all.0, later.2.3)),
          )

-- ---- less than a message

abbrev pub LessOf : Type 0
LessOf = (text : List ℕ) → first_message text ≡ Less → IsPartial text

front_partial : (left more : List ℕ) → IsPartial (left ++ more) → IsPartial left
front_partial left more is =
    let l = length-append more is.1 in let h = is.3 in
    (is.0, more ++ is.1, subst (IsSpelling is.0) (append_assoc left more is.1) is.2, omega arith)

less_is : {A R : Type 0} (x : First A R) → is_less x ≡ true → x ≡ Less
less_is Less e = refl
less_is (Whole m r) e = absurd cc
less_is (Bad r) e = absurd cc

pub less_front : OnlyLess → SameLess → LessOf → (left more : List ℕ) → first_of (left ++ more) ≡ Less → first_of left ≡ Less
less_front only same partial_of left more e =
    let is : IsPartial (left ++ more) = partial_of (left ++ more) (less_is (first_message (left ++ more)) (sym (same (left ++ more)) ∙ ap is_less e)) in
    less_of (first_of left) (same left ∙ ap is_less (only left (front_partial left more is)))

pub cuts_leave_fronts : OnlyLess → SameLess → Spells → LessOf → CutsLeaveFronts
cuts_leave_fronts only same spells partial_of bytes ps all (more, e) =
    cuts only same spells (less_front only same partial_of) bytes ps [] more all nothing_first (e ∙ sym (append-nil (joined ps)))

-- ---- one more, and one less

pub joined-append : (ps : List Packet) (p : Packet) → joined (ps ++ p ∷ []) ≡ joined ps ++ framed p
unfolding joined
joined-append [] p = append-nil (framed p)
joined-append (q ∷ ps) p = ap (λ (b : List ℕ). framed q ++ b) (joined-append ps p) ∙ sym (append_assoc (framed q) (joined ps) (framed p))

pub all_more : (ps : List Packet) (p : Packet) → CanBeSent p → AllByRecursion CanBeSent ps → AllByRecursion CanBeSent (ps ++ p ∷ [])
all_more [] p can all = (can, tt)
all_more (q ∷ ps) p can all = (all.0, all_more ps p can all.1)

pub queued_last : QueuedLast
queued_last bytes ps p can are = (ap (λ (b : List ℕ). b ++ framed p) are.0 ∙ sym (joined-append ps p), all_more ps p can are.1)

abbrev pub Stays : Type 0
Stays = (text rest more : List ℕ) (packet : Packet) → first_of text ≡ Whole packet rest → first_of (text ++ more) ≡ Whole packet (rest ++ more)

abbrev pub StaysBad : Type 0
StaysBad = (text more : List ℕ) (status : ℕ) → first_of text ≡ Bad status → first_of (text ++ more) ≡ Bad status

pub first_joined : Framed → (q : Packet) (qs : List Packet) (rest : List ℕ) → CanBeSent q → first_of (joined (q ∷ qs) ++ rest) ≡ Whole q (joined qs ++ rest)
unfolding joined
first_joined first q qs rest can = ap first_of (append_assoc (framed q) (joined qs) rest) ∙ first q (joined qs ++ rest) can.is_packet can.has_spelling can.fits

pub less_whole : (x : First Packet ℕ) (p : Packet) (rest : List ℕ) → x ≡ Less → x ≡ Whole p rest → ⊥
less_whole x p rest e f = cc

pub taken_first : Framed → Stays → TakenFirst
unfolding joined
taken_first first stays kept more ps p (rest, e, less, all) whole = by_packets ps e all
  where
    here : first_of (kept ++ more) ≡ Whole p more
    here = stays kept [] more p whole

    by_packets : (qs : List Packet) → kept ++ more ≡ joined qs ++ rest → AllByRecursion CanBeSent qs → FirstOf more qs p
    by_packets [] f a = absurd (less_whole (first_of (kept ++ more)) p more (ap first_of f ∙ less) here)
    by_packets (q ∷ qs) f a =
        let both : Whole q (joined qs ++ rest) ≡ Whole p more = sym (first_joined first q qs rest a.0) ∙ (ap first_of (sym f) ∙ here) in
        let same : q ≡ p = cc in
        let behind : more ≡ joined qs ++ rest = cc in
        record { others = qs; all = ap (λ (x : Packet). x ∷ qs) same; behind = (rest, behind, less, a.1) }

less_bad : (x : First Packet ℕ) (status : ℕ) → x ≡ Less → x ≡ Bad status → ⊥
less_bad x status e f = cc

whole_bad : (x : First Packet ℕ) (p : Packet) (rest : List ℕ) (status : ℕ) → x ≡ Whole p rest → x ≡ Bad status → ⊥
whole_bad x p rest status e f = cc

pub none_is_bad : Framed → StaysBad → NoneIsBad
unfolding joined
none_is_bad first stays kept more ps status (rest, e, less, all) bad = by_packets ps e all
  where
    here : first_of (kept ++ more) ≡ Bad status
    here = stays kept more status bad

    by_packets : (qs : List Packet) → kept ++ more ≡ joined qs ++ rest → AllByRecursion CanBeSent qs → ⊥
    by_packets [] f a = less_bad (first_of (kept ++ more)) status (ap first_of f ∙ less) here
    by_packets (q ∷ qs) f a = whole_bad (first_of (kept ++ more)) q (joined qs ++ rest) status (ap first_of f ∙ first_joined first q qs rest a.0) here

pub nothing_left : Framed → NothingLeft
unfolding joined
nothing_left first bytes [] are less = (refl, are.0)
nothing_left first bytes (q ∷ qs) are less =
    absurd (less_whole (first_of bytes) q (joined qs ++ []) less (ap first_of (are.0 ∙ sym (append-nil (joined (q ∷ qs)))) ∙ first_joined first q qs [] are.1.0))
