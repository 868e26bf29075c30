-- What is on its way is still taken by an end that hears at least as much.
use Rattle.std.proofs.Common.{◌≡◌, ◌⊎◌, inl, inr, ◌≤◌, ◌&&◌, Bool, true, false, not, List, [], ◌∷◌, ◌++◌, Option, Some, None, Ok, refl, sym, ap, ◌∙◌, subst, arith}
use Rattle.std.specs.Prelude.{◌==◌}
use Rattle.kn_frames.specs.declared.frame.Frame.{Frame}
use Rattle.kn_hpack.specs.Fields.{Field, Table}
use Rattle.kn_hpack.specs.Blocks.{Progress, read_block}
use Rattle.kn_h2_state.specs.declared.state.Block.{Block}
use Rattle.kn_h2_state.specs.declared.stream.Stream.{Stream}
use Rattle.kn_h2_state.specs.declared.state.State.{State}
use Rattle.kn_h2_state.specs.Outgoing.{nothing_out, count_true, reply_bytes}
use Rattle.kn_h2_state.specs.Payloads.{content}
use Rattle.kn_h2_state.specs.Streams.{stream_at, is_open, on_open, passes}
use Rattle.kn_h2_state.specs.Rules.{is_client, block_with, bytes_so_far, verdict}
use Rattle.kn_h2_state.specs.Feeding.{after_frame, after_frames}
use Rattle.kn_h2_state.specs.Holding.{Holds}
use Rattle.kn_h2_state.specs.Opening.{FramesOpenAbove}
use Rattle.kn_h2_state.specs.Preorder.{HearsMore, IsOpenIn, IsNewTo, MoreIsHeard, FramesKeepMore}
use Rattle.kn_h2_state.proofs.PreorderLaws.{silent, old_head}
use Rattle.kn_h2.specs.Steady.{RoleStays}
use Rattle.kn_h2.proofs.FoundLemmas.{found_open}
use Rattle.kn_facing.specs.Facing.{emptied, asks, asking, IsTaken, Fits, AreTaken}
use Rattle.kn_facing.specs.Laws.{MoreAreTaken}
use Rattle.kn_facing.proofs.RoomLemmas.{Replied, most, few_replies, one_open, Keeps, opened_on}

-- ---- what waits for the socket, and what is told, is not looked at

pub hears_left : (s t : State) → HearsMore s t → HearsMore (emptied s) t
hears_left s t h = record { role = h.role; began = h.began; block = h.block; decoder = h.decoder; initial = h.initial; receive = h.receive; send = h.send; opened = h.opened; server = h.server; known = h.known; streams = h.streams }

pub hears_right : (s t : State) → HearsMore s t → HearsMore s (emptied t)
hears_right s t h = record { role = h.role; began = h.began; block = h.block; decoder = h.decoder; initial = h.initial; receive = h.receive; send = h.send; opened = h.opened; server = h.server; known = h.known; streams = h.streams }

pub hears_emptied : (s t : State) → HearsMore s t → HearsMore (emptied s) (emptied t)
hears_emptied s t h = hears_right (emptied s) t (hears_left s t h)

pub none_waits : reply_bytes nothing_out ≡ 0
unfolding count_true
none_waits = refl

pub holds_emptied : (s : State) → Holds s → Holds (emptied s)
holds_emptied s h = record {
  rising = h.rising;
  numbers = h.numbers;
  parity = h.parity;
  kept = h.kept;
  rest = h.rest;
  sums = h.sums;
  sum = h.sum;
  room = h.room;
  rooms = h.rooms;
  high = h.high;
  block = h.block;
  replies = let none = none_waits in omega (arith, none);
  marked = refl;
  initial = h.initial;
}

-- ---- one frame

-- a client that waits for a head there, waits for one here
waits_too : (s t : State) (f : Frame) → HearsMore s t → is_client s.role ≡ true → verdict s f ≡ None → (f.kind == 1) ≡ true → on_open t.streams f.stream (λ st. not st.answered) ≡ true
    → on_open s.streams f.stream (λ st. not st.answered) ≡ true
waits_too s t f h client v head waits =
    let here = found_open t.streams f.stream (λ st. not st.answered) waits in
    by_case here.0 here.1.found here.1.opened here.1.passed (h.streams f.stream here.0 here.1.found here.1.opened)
  where
    by_case : (b : Stream) → stream_at t.streams f.stream ≡ Some b → is_open b ≡ true → not b.answered ≡ true → IsOpenIn s f.stream b ⊎ IsNewTo s t f.stream b
        → on_open s.streams f.stream (λ st. not st.answered) ≡ true
    by_case b found up first (inl (a, at, open_a, much)) =
        ap (λ (o : Option Stream). passes (λ st. not st.answered) o) at ∙ (ap (λ (c : Bool). c && not a.answered) open_a ∙ (ap not (sym (much.head client)) ∙ first))
    by_case b found up first (inr (new, above, low)) = absurd (old_head s f (silent s f v).streams head client above)

fits_too : (s t : State) (f : Frame) (fields : List Field) → HearsMore s t → verdict s f ≡ None → (f.kind == 1) ≡ true → Fits s f.stream fields → Fits t f.stream fields
fits_too s t f fields h v head fits = record {
  request = λ server. fits.request (ap is_client (sym h.role) ∙ server);
  response = λ client waits. let here = ap is_client (sym h.role) ∙ client in fits.response here (waits_too s t f h here v head waits);
}

pub taken_too : MoreIsHeard → (s t : State) (f : Frame) → Holds t → HearsMore s t → IsTaken s f → IsTaken t f
taken_too heard s t f holds h k = record {
  kept = heard s t f holds h k.kept;
  plain = k.plain;
  head = λ head p reads. fits_too s t f p.fields h k.kept head (k.head head p (same p reads));
}
  where
    same : (p : Progress) → read_block t.decoder (block_with t f) ≡ Ok p → read_block s.decoder (block_with s f) ≡ Ok p
    same p reads =
        subst (λ (d : Table). read_block d (block_with s f) ≡ Ok p) h.decoder
        (subst (λ (o : Option Block). read_block t.decoder (bytes_so_far o ++ content f) ≡ Ok p) h.block reads)

-- ---- all of them

pub more_are_taken : MoreIsHeard → FramesKeepMore → FramesOpenAbove → Keeps → RoleStays → MoreAreTaken
unfolding after_frames AreTaken asking
more_are_taken heard frames above keep roles s t [] hs ht h on on' limits taken room room' few = record { taken = tt; more = h; goes = on' }
more_are_taken heard frames above keep roles s t (f ∷ fs) hs ht h on on' limits taken room room' few =
    let one = taken.0 in
    let too = taken_too heard s t f ht h one in
    let first : Replied (most (asks f)) s (after_frame s f) = few_replies s f on one.kept (omega (arith, room)) in
    let second : Replied (most (asks f)) t (after_frame t f) = few_replies t f on' too.kept (omega (arith, room')) in
    let fits = first.few in
    let fits' = second.few in
    let next = keep s f hs limits.0 in
    let next' = keep t f ht limits.0 in
    let more = frames s t f hs ht h on on' one.kept (λ server. one_open s.opened s.streams hs.rising (few_here server)) (λ server. one_open t.opened t.streams ht.rising (few_there server)) in
    let rest = more_are_taken heard frames above keep roles (after_frame s f) (after_frame t f) fs next next' more first.goes second.goes limits.1 taken.1 (omega (arith, room, fits)) (omega (arith, room', fits'))
    (λ server. few (sym (ap is_client (roles.frame s f)) ∙ server)) in
    record { taken = (too, rest.taken); more = rest.more; goes = rest.goes }
  where
    few_here : is_client s.role ≡ false → s.opened ≤ 1
    few_here server =
        let raised = opened_on above keep (after_frame s f) fs (keep s f hs limits.0) limits.1 in
        let raise = (above s f hs).opened in
        let most_one = few server in
        omega (arith, raised, raise, most_one)

    few_there : is_client s.role ≡ false → t.opened ≤ 1
    few_there server = let same = h.server server in let here = few_here server in omega (arith, same, here)
