-- How lists of packets stand to bytes, through the steps of an end.
use Rattle.std.proofs.Common.{◌≡◌, ℕ, List, [], ◌∷◌, ◌++◌, refl, sym, ap, ◌∙◌, append_assoc, append-nil}
use Rattle.std.specs.List.{AllByRecursion}
use Rattle.kn_packet.specs.declared.packet.Packet.{Packet}
use Rattle.kn_grpc.specs.Readers.{Whole}
use Rattle.kn_grpc.specs.Packets.{first_of}
use Rattle.kn_pending.specs.Packets.{joined, CanBeSent, IsFrontOf}
use Rattle.kn_pending.specs.Standings.{Both, Cut, Losing, Stands, Handled, HandlesFirst, DropsLast, Left, LosesSome}
use Rattle.kn_pending.proofs.PacketLemmas.{Framed, LessOf, OnlyLess, SameLess, Spells, Stays, cuts, first_joined, less_front, less_whole, nothing_first, taken_first}

-- ---- the first

handled_both : Framed → Stays → (kept more : List ℕ) (ps : List Packet) (p : Packet) → first_of kept ≡ Whole p [] → Stands Both (kept ++ more) ps → Handled Both more ps p
unfolding joined
handled_both first stays kept more ps p whole are = by_packets ps are.0 are.1
  where
    here : first_of (kept ++ more) ≡ Whole p more
    here = stays kept [] more p whole

    by_packets : (qs : List Packet) → kept ++ more ≡ joined qs → AllByRecursion CanBeSent qs → Handled Both more qs p
    by_packets [] e a = absurd (less_whole (first_of (kept ++ more)) p more (ap first_of e ∙ nothing_first) here)
    by_packets (q ∷ qs) e a =
        let both : Whole q (joined qs ++ []) ≡ Whole p more = sym (first_joined first q qs [] a.0) ∙ (ap first_of (append-nil (joined (q ∷ qs)) ∙ sym e) ∙ here) in
        let same : q ≡ p = cc in
        let behind : more ≡ joined qs ++ [] = cc in
        record { others = qs; all = ap (λ (x : Packet). x ∷ qs) same; behind = (behind ∙ append-nil (joined qs), a.1) }

handled_cut : Framed → Stays → (kept more : List ℕ) (ps : List Packet) (p : Packet) → first_of kept ≡ Whole p [] → Stands Cut (kept ++ more) ps → Handled Cut more ps p
handled_cut first stays kept more ps p whole begin = let its = taken_first first stays kept more ps p begin whole in record { others = its.others; all = its.all; behind = its.behind }

pub handles_first : Framed → Stays → HandlesFirst
handles_first first stays kept more ps p whole = ((λ are. handled_both first stays kept more ps p whole are), (λ begin. handled_cut first stays kept more ps p whole begin))

pub drops_last : DropsLast
drops_last bytes ps p = ((λ are. (ps, are, (p ∷ [], refl))), (λ some. (some.0, some.1, (some.2.0 ++ p ∷ [], sym (append_assoc some.0 some.2.0 (p ∷ [])) ∙ ap (λ (l : List Packet). l ++ p ∷ []) some.2.1))))

-- ---- what is left

module _ (only : OnlyLess) (same : SameLess) (spells : Spells) (partial_of : LessOf) where
  left_both : (whole bytes : List ℕ) (ps : List Packet) → IsFrontOf bytes whole → Stands Both whole ps → Left bytes ps
  left_both whole bytes ps (more, e) are =
      let its = cuts only same spells (less_front only same partial_of) bytes ps [] more are.1 nothing_first (e ∙ (are.0 ∙ sym (append-nil (joined ps)))) in
      record { left = its.0; front = its.1; stands = its.2 }

  left_cut : (whole bytes : List ℕ) (ps : List Packet) → IsFrontOf bytes whole → Stands Cut whole ps → Left bytes ps
  left_cut whole bytes ps (more, e) (rest, f, less, all) =
      let its = cuts only same spells (less_front only same partial_of) bytes ps rest more all less (e ∙ f) in record { left = its.0; front = its.1; stands = its.2 }

  left_losing : (whole bytes : List ℕ) (ps : List Packet) → IsFrontOf bytes whole → Stands Losing whole ps → Left bytes ps
  left_losing whole bytes ps front (qs, are, (after, g)) =
      let its = left_both whole bytes qs front are in
      record { left = its.left; front = (its.front.0 ++ after, sym (append_assoc its.left its.front.0 after) ∙ (ap (λ (l : List Packet). l ++ after) its.front.1 ∙ g)); stands = its.stands }

  pub loses_some : LosesSome
  loses_some whole bytes ps front = ((λ are. left_both whole bytes ps front are), (λ begin. left_cut whole bytes ps front begin), (λ some. left_losing whole bytes ps front some))
