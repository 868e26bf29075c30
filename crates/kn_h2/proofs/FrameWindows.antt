-- How frames of the peer change windows.
use Rattle.std.proofs.Common.{◌≡◌, ℕ, ℤ, pos, ◌+◌, ◌+ℤ◌, ◌-ℤ◌, ◌%◌, ◌<◌, Bool, true, false, not, ◌&&◌, ◌||◌, cond, eqb, leb, ltb, List, [], ◌∷◌, ◌++◌, length, map, Option, Some, None, is_some, Result, Ok, Err, refl, sym, ap, ◌∙◌, subst, arith}
use Rattle.std.proofs.lemmas.Int.{ints}
use Rattle.std.proofs.lemmas.Bool.{eqb-true, eqb-false, ltb-true}
use Rattle.kn_frames.specs.declared.frame.Frame.{Frame}
use Rattle.kn_frames.specs.Frames.{spelled}
use Rattle.kn_hpack.specs.Fields.{Field}
use Rattle.kn_hpack.specs.Blocks.{Progress, read_block}
use Rattle.kn_hpack.specs.declared.fault.HpackFault.{HpackFault}
use Rattle.kn_h2_state.specs.declared.event.H2Event.TheVariants.{Opened, Head, Text, Reset}
use Rattle.kn_h2_state.specs.declared.stream.Stream.{Stream}
use Rattle.kn_h2_state.specs.declared.state.State.{State}
use Rattle.kn_h2_state.specs.Limits.{reply_limit, stream_limit}
use Rattle.kn_h2_state.specs.Outgoing.{reply_bytes, put}
use Rattle.kn_h2_state.specs.Streams.{stream_at, change, is_open, tidied, open_count, shut}
use Rattle.kn_h2_state.specs.Payloads.{has, content, number_at, increment_of, settings_of, reset_frame}
use Rattle.kn_h2_state.specs.Heads.{is_malformed_request, is_malformed_response, is_informational}
use Rattle.kn_h2_state.specs.Rules.{is_client, block_with, ends_block, shifted_one, shifted, verdict}
use Rattle.kn_h2_state.specs.Effects.{event, fail, reply, on_stream, peer_ends, if_open, with_text, data_taken, text_told, ended_if, data_in, data_dropped, data_of, new_stream, opens, accepted, request, headed, refused_response, response, head_of, decoded, block_ends, block_grown, block_of_headers, cut_off, reset_of, after_setting, after_settings, settings, ping, goaway, with_grant, window_update, effect}
use Rattle.kn_h2_state.specs.Feeding.{judged, after_frame}
use Rattle.kn_h2_state.specs.Holding.{Rising, Holds}
use Rattle.kn_h2_state.specs.Wire.{frame_grant, data_length}
use Rattle.kn_h2.specs.Windows.{Follows, FramesShift}
use Rattle.kn_h2.specs.Passing.{Passes}
use Rattle.kn_h2.proofs.StreamLemmas.{rising_change, rising_tidied, rising_push}
use Rattle.kn_h2.proofs.PlaceLemmas.{at_changed, at_other}
use Rattle.kn_h2.proofs.OwnWindows.{there, none_changed, above_0}
use Rattle.kn_h2.proofs.RuleLemmas.{passes_rules, passes_began}
use Rattle.kn_h2.proofs.FrameBounds.{odd_block}
use Rattle.kn_h2.proofs.HoldsLemmas.{holds_began}

-- ---- the windows of a stream, where it is still there

record Has (a b : ℤ) (st : Stream) : Type 0 where
  receive : st.receive ≡ a
  send : st.send ≡ b

abbrev At : ℕ → ℤ → ℤ → List Stream → Type 0
At n a b ss = (new : Stream) → stream_at ss n ≡ Some new → Has a b new

-- what a change leaves of the windows
record Leaves (f : Stream → Stream) : Type 0 where
  number : (x : Stream) → (f x).number ≡ x.number
  receive : (x : Stream) → (f x).receive ≡ x.receive
  send : (x : Stream) → (f x).send ≡ x.send

at_change : (ss : List Stream) (k n : ℕ) (a b : ℤ) (f : Stream → Stream) → Leaves f → At n a b ss → At n a b (change ss k f)
at_change ss k n a b f l at new e = of_old (stream_at ss n) refl
  where
    of_old : (o : Option Stream) → stream_at ss n ≡ o → Has a b new
    of_old None gone = let none = none_changed ss k n f l.number gone in absurd cc
    of_old (Some st) found = by_test (eqb k n) refl
      where
        old : Has a b st
        old = at st found

        by_test : (c : Bool) → eqb k n ≡ c → Has a b new
        by_test true t =
            let is_n : k ≡ n = eqb-true _ _ t in
            let here : stream_at (change ss k f) n ≡ Some (f st) = subst (λ (j : ℕ). stream_at (change ss j f) n ≡ Some (f st)) (sym is_n) (at_changed ss n f st l.number found) in
            let is : f st ≡ new = cc in
            subst (Has a b) is (record { receive = l.receive st ∙ old.receive; send = l.send st ∙ old.send })
        by_test false t =
            let here : stream_at (change ss k f) n ≡ stream_at ss n = at_other ss k n f l.number (eqb-false _ _ t) in
            at new (sym here ∙ e)

at_tidied : (ss : List Stream) (low high n : ℕ) (a b : ℤ) → Rising low high ss → At n a b ss → At n a b (tidied ss)
at_tidied ss low high n a b r at new e = at new (there ss low high n new r e)

at_found : (ss : List Stream) (n : ℕ) (st : Stream) → stream_at ss n ≡ Some st → At n st.receive st.send ss
at_found ss n st found new e = let same : st ≡ new = cc in subst (Has st.receive st.send) same (record { receive = refl; send = refl })

at_push : (ss : List Stream) (w st : Stream) (n : ℕ) → stream_at ss n ≡ Some st → stream_at (ss ++ w ∷ []) n ≡ Some st
unfolding stream_at
at_push [] w st n e = absurd cc
at_push (x ∷ ss) w st n e = by_test (eqb x.number n) (at_push ss w st n) e
  where
    by_test : (b : Bool) → (stream_at ss n ≡ Some st → stream_at (ss ++ w ∷ []) n ≡ Some st) → cond b (Some x) (stream_at ss n) ≡ Some st → cond b (Some x) (stream_at (ss ++ w ∷ []) n) ≡ Some st
    by_test true rest h = h
    by_test false rest h = rest h

-- ---- states in which the windows are these

record Stand (n : ℕ) (a b : ℤ) (setting : ℕ) (t : State) : Type 0 where
  at : At n a b t.streams
  initial : t.initial ≡ setting

choose : (n : ℕ) (a b : ℤ) (i : ℕ) (c : Bool) (x y : State) → Stand n a b i x → Stand n a b i y → Stand n a b i (cond c x y)
choose n a b i true x y p q = p
choose n a b i false x y p q = q

replied_stands : (n : ℕ) (a b : ℤ) (i : ℕ) (frame : List ℕ) (s : State) → Stand n a b i s → Stand n a b i (reply frame s)
unfolding reply fail
replied_stands n a b i frame s h =
    choose n a b i (ltb reply_limit (reply_bytes s.out + length frame)) (fail 11 s) (record s { out = put s.out true frame })
    (record { at = h.at; initial = h.initial }) (record { at = h.at; initial = h.initial })

on_stream_stands : (n m low high : ℕ) (a b : ℤ) (i : ℕ) (f : Stream → Stream) (s : State) → Leaves f → Rising low high s.streams → Stand n a b i s → Stand n a b i (on_stream m f s)
on_stream_stands n m low high a b i f s l r h = record { at = at_tidied (change s.streams m f) low high n a b (rising_change low high s.streams m f l.number r) (at_change s.streams m n a b f l h.at); initial = h.initial }

ended : Leaves (λ (st : Stream). record st { peer_open = false })
ended = record { number = λ _. refl; receive = λ _. refl; send = λ _. refl }

answered : Leaves (λ (st : Stream). record st { answered = true })
answered = record { number = λ _. refl; receive = λ _. refl; send = λ _. refl }

closed : Leaves shut
closed = record { number = λ _. refl; receive = λ _. refl; send = λ _. refl }

emptied : Leaves (λ (st : Stream). record (shut st) { text = [] })
emptied = record { number = λ _. refl; receive = λ _. refl; send = λ _. refl }

ends_stand : (n m low high : ℕ) (a b : ℤ) (i : ℕ) (s : State) → Rising low high s.streams → Stand n a b i s → Stand n a b i (peer_ends m s)
unfolding peer_ends
ends_stand n m low high a b i s r h =
    let t = on_stream_stands n m low high a b i (λ (st : Stream). record st { peer_open = false }) s ended r h in
    record { at = t.at; initial = t.initial }

ended_stand : (n m low high : ℕ) (ends : Bool) (a b : ℤ) (i : ℕ) (s : State) → Rising low high s.streams → Stand n a b i s → Stand n a b i (ended_if ends m s)
ended_stand n m low high ends a b i s r h = choose n a b i ends (peer_ends m s) s (ends_stand n m low high a b i s r h) h

-- ---- header blocks

still : (n : ℕ) (st : Stream) (s : State) → stream_at s.streams n ≡ Some st → Stand n st.receive st.send s.initial s
still n st s e = record { at = at_found s.streams n st e; initial = refl }

request_stands : (n m low high : ℕ) (ends : Bool) (fields : List Field) (st : Stream) (s : State) → stream_at s.streams n ≡ Some st → Rising low high s.streams → high < m → m % 2 ≡ 1 → Stand n st.receive st.send s.initial (request m ends fields s)
unfolding request accepted
request_stands n m low high ends fields st s e r above odd =
    choose n st.receive st.send s.initial (leb stream_limit (open_count s.streams)) (reply (reset_frame m 7) (opens m s)) (cond (is_malformed_request fields) (reply (reset_frame m 1) (opens m s)) (accepted m ends fields s))
    (replied_stands n st.receive st.send s.initial (reset_frame m 7) (opens m s) opened)
    (choose n st.receive st.send s.initial (is_malformed_request fields) (reply (reset_frame m 1) (opens m s)) (accepted m ends fields s)
    (replied_stands n st.receive st.send s.initial (reset_frame m 1) (opens m s) opened)
    (ended_stand n m low m ends st.receive st.send s.initial (event (record s { opened = m; streams = s.streams ++ new_stream m s ∷ [] }) (Opened m fields))
    (rising_push low high s.streams (new_stream m s) r above odd)
    (record { at = at_found (s.streams ++ new_stream m s ∷ []) n st (at_push s.streams (new_stream m s) st n e); initial = refl })))
  where
    opened : Stand n st.receive st.send s.initial (opens m s)
    opened = record { at = at_found s.streams n st e; initial = refl }

response_stands : (n m low high : ℕ) (ends : Bool) (fields : List Field) (x st : Stream) (s : State) → stream_at s.streams n ≡ Some st → Rising low high s.streams → Stand n st.receive st.send s.initial (response m ends fields x s)
unfolding response refused_response headed
response_stands n m low high ends fields x st s e r =
    choose n st.receive st.send s.initial x.answered (peer_ends m s) (cond (is_informational fields && not ends) s (cond (is_malformed_response fields || is_informational fields) (refused_response m s) (headed m ends fields s)))
    (ends_stand n m low high st.receive st.send s.initial s r same)
    (choose n st.receive st.send s.initial (is_informational fields && not ends) s (cond (is_malformed_response fields || is_informational fields) (refused_response m s) (headed m ends fields s)) same
    (choose n st.receive st.send s.initial (is_malformed_response fields || is_informational fields) (refused_response m s) (headed m ends fields s)
    (replied_stands n st.receive st.send s.initial (reset_frame m 1) (event (on_stream m shut s) (Reset m 1)) (record { at = gone.at; initial = gone.initial }))
    (ended_stand n m low high ends st.receive st.send s.initial (event (on_stream m (λ (y : Stream). record y { answered = true }) s) (Head m fields))
    (rising_tidied low high (change s.streams m (λ (y : Stream). record y { answered = true })) (rising_change low high s.streams m (λ (y : Stream). record y { answered = true }) (λ _. refl) r))
    (record { at = heard.at; initial = heard.initial }))))
  where
    same : Stand n st.receive st.send s.initial s
    same = still n st s e

    gone : Stand n st.receive st.send s.initial (on_stream m shut s)
    gone = on_stream_stands n m low high st.receive st.send s.initial shut s closed r same

    heard : Stand n st.receive st.send s.initial (on_stream m (λ (y : Stream). record y { answered = true }) s)
    heard = on_stream_stands n m low high st.receive st.send s.initial (λ (y : Stream). record y { answered = true }) s answered r same

open_stands : (n : ℕ) (a b : ℤ) (i : ℕ) (o : Option Stream) (s : State) (next : Stream → State) → Stand n a b i s → ((x : Stream) → Stand n a b i (next x)) → Stand n a b i (if_open o s next)
open_stands n a b i None s next h k = h
open_stands n a b i (Some x) s next h k = choose n a b i (is_open x) (next x) s (k x) h

head_stands : (n m : ℕ) (ends : Bool) (fields : List Field) (st : Stream) (s : State) → stream_at s.streams n ≡ Some st → Rising 0 s.opened s.streams → m % 2 ≡ 1 → Stand n st.receive st.send s.initial (head_of m ends fields s)
unfolding head_of
head_stands n m ends fields st s e r odd =
    choose n st.receive st.send s.initial (is_client s.role) (if_open (stream_at s.streams m) s (λ x. response m ends fields x s)) (cond (ltb s.opened m) (request m ends fields s) (if_open (stream_at s.streams m) s (λ x. peer_ends m s)))
    (open_stands n st.receive st.send s.initial (stream_at s.streams m) s (λ x. response m ends fields x s) same (λ x. response_stands n m 0 s.opened ends fields x st s e r))
    (by_number (ltb s.opened m) refl)
  where
    same : Stand n st.receive st.send s.initial s
    same = still n st s e

    by_number : (b : Bool) → ltb s.opened m ≡ b → Stand n st.receive st.send s.initial (cond b (request m ends fields s) (if_open (stream_at s.streams m) s (λ x. peer_ends m s)))
    by_number true t = request_stands n m 0 s.opened ends fields st s e r (ltb-true s.opened m t) odd
    by_number false t = open_stands n st.receive st.send s.initial (stream_at s.streams m) s (λ x. peer_ends m s) same (λ x. ends_stand n m 0 s.opened st.receive st.send s.initial s r same)

decoded_stands : (n m : ℕ) (ends : Bool) (st : Stream) (s : State) (o : Result Progress HpackFault) → stream_at s.streams n ≡ Some st → Rising 0 s.opened s.streams → m % 2 ≡ 1 → Stand n st.receive st.send s.initial (decoded m ends s o)
decoded_stands n m ends st s (Ok p) e r odd = head_stands n m ends p.fields st (record s { block = None; decoder = p.table }) e r odd
decoded_stands n m ends st s (Err x) e r odd = still n st s e

block_stands : (n : ℕ) (f : Frame) (st : Stream) (s : State) → stream_at s.streams n ≡ Some st → Rising 0 s.opened s.streams → f.stream % 2 ≡ 1 → Stand n st.receive st.send s.initial (block_of_headers f s)
unfolding block_of_headers block_grown
block_stands n f st s e r odd =
    choose n st.receive st.send s.initial (ends_block f) (decoded f.stream (block_ends s.block f) s (read_block s.decoder (block_with s f))) (block_grown f s)
    (decoded_stands n f.stream (block_ends s.block f) st s (read_block s.decoder (block_with s f)) e r odd) (record { at = at_found s.streams n st e; initial = refl })

-- ---- RST_STREAM

reset_stands : (n : ℕ) (f : Frame) (st : Stream) (s : State) → stream_at s.streams n ≡ Some st → Rising 0 s.opened s.streams → Stand n st.receive st.send s.initial (if_open (stream_at s.streams f.stream) s (λ x. reset_of f x s))
unfolding reset_of cut_off
reset_stands n f st s e r = open_stands n st.receive st.send s.initial (stream_at s.streams f.stream) s (λ x. reset_of f x s) same of_open
  where
    same : Stand n st.receive st.send s.initial s
    same = still n st s e

    gone : Stand n st.receive st.send s.initial (on_stream f.stream (λ (y : Stream). record (shut y) { text = [] }) s)
    gone = on_stream_stands n f.stream 0 s.opened st.receive st.send s.initial (λ (y : Stream). record (shut y) { text = [] }) s emptied r same

    of_open : (x : Stream) → Stand n st.receive st.send s.initial (reset_of f x s)
    of_open x =
        choose n st.receive st.send s.initial (is_client s.role && eqb (number_at f.payload 0) 0 && not x.peer_open) (on_stream f.stream shut s) (cut_off f.stream (number_at f.payload 0) x s)
        (on_stream_stands n f.stream 0 s.opened st.receive st.send s.initial shut s closed r same) (record { at = gone.at; initial = gone.initial })

-- ---- the windows after any frame

abbrev After : State → Frame → ℕ → Stream → State → Type 0
After s f n st t = (new : Stream) → stream_at t.streams n ≡ Some new → Follows s t f n st new

no_data : (n : ℕ) (f : Frame) → eqb f.kind 0 ≡ false → data_length n f ≡ 0
unfolding data_length
no_data n f t = ap (λ (b : Bool). cond (b && eqb f.stream n) (length f.payload) 0) t

no_grant : (n : ℕ) (f : Frame) → eqb f.kind 8 ≡ false → frame_grant n f ≡ 0
unfolding frame_grant
no_grant n f t = ap (λ (b : Bool). cond (b && eqb f.stream n) (increment_of f.payload) 0) t

-- no DATA and no grant, and INITIAL_WINDOW_SIZE is the same
unmoved : (s t : State) (f : Frame) (n : ℕ) (st : Stream) → data_length n f ≡ 0 → frame_grant n f ≡ 0 → Stand n st.receive st.send s.initial t → After s f n st t
unmoved s t f n st d g h new e =
    let here = h.at new e in let r = here.receive in let w = here.send in let i = h.initial in
    record { receive = omega (arith, ints); send = omega (arith, ints) }

-- ---- DATA

-- once the text was taken, the rest of the effect leaves the windows
told_stands : (n low high : ℕ) (f : Frame) (a b : ℤ) (i : ℕ) (s : State) → Rising low high s.streams → Stand n a b i s → Stand n a b i (ended_if (has f 1) f.stream (text_told f.stream (content f) s))
told_stands n low high f a b i s r h = by_text (eqb (length (content f)) 0)
  where
    by_text : (c : Bool) → Stand n a b i (ended_if (has f 1) f.stream (cond c s (event s (Text f.stream))))
    by_text true = ended_stand n f.stream low high (has f 1) a b i s r h
    by_text false = ended_stand n f.stream low high (has f 1) a b i (event s (Text f.stream)) r (record { at = h.at; initial = h.initial })

data_after : (s : State) (f : Frame) (n : ℕ) (st : Stream) → eqb f.kind 0 ≡ true → stream_at s.streams n ≡ Some st → is_open st ≡ true → Rising 0 s.opened s.streams → After s f n st (data_of f s (stream_at s.streams f.stream))
unfolding data_in data_taken data_dropped data_length frame_grant
data_after s f n st k e o r = by_stream (eqb f.stream n) refl
  where
    size : ℕ
    size = length f.payload

    taken : State
    taken = data_taken f s

    rising : Rising 0 s.opened taken.streams
    rising = rising_change 0 s.opened s.streams f.stream (with_text size (content f)) (λ _. refl) r

    none_granted : frame_grant n f ≡ 0
    none_granted = no_grant n f (ap (λ (j : ℕ). eqb j 8) (eqb-true f.kind 0 k))

    by_stream : (c : Bool) → eqb f.stream n ≡ c → After s f n st (data_of f s (stream_at s.streams f.stream))
    by_stream true t = subst (λ (x : Option Stream). After s f n st (data_of f s x)) (sym (ap (stream_at s.streams) is_n ∙ e)) (subst (λ (b : Bool). After s f n st (cond b (data_in f s) (data_dropped f s))) (sym o) on_open)
      where
        is_n : f.stream ≡ n
        is_n = eqb-true f.stream n t

        all : data_length n f ≡ size
        all = ap (λ (b : Bool). cond (b && eqb f.stream n) size 0) k ∙ ap (λ (b : Bool). cond b size 0) t

        changed : stream_at taken.streams n ≡ Some (with_text size (content f) st)
        changed = subst (λ (j : ℕ). stream_at (change s.streams j (with_text size (content f))) n ≡ Some (with_text size (content f) st)) (sym is_n) (at_changed s.streams n (with_text size (content f)) st (λ _. refl) e)

        stands : Stand n (st.receive -ℤ pos size) st.send s.initial (data_in f s)
        stands = told_stands n 0 s.opened f (st.receive -ℤ pos size) st.send s.initial taken rising (record { at = at_found taken.streams n (with_text size (content f) st) changed; initial = refl })

        on_open : After s f n st (data_in f s)
        on_open new found =
            let here = stands.at new found in let rr = here.receive in let ww = here.send in let i = stands.initial in
            record { receive = omega (arith, ints, all); send = omega (arith, ints, none_granted) }
    by_stream false t = of_found (stream_at s.streams f.stream)
      where
        none_taken : data_length n f ≡ 0
        none_taken = ap (λ (b : Bool). cond (b && eqb f.stream n) size 0) k ∙ ap (λ (b : Bool). cond b size 0) t

        other : stream_at taken.streams n ≡ Some st
        other = at_other s.streams f.stream n (with_text size (content f)) (λ _. refl) (eqb-false _ _ t) ∙ e

        dropped : After s f n st (data_dropped f s)
        dropped = unmoved s (data_dropped f s) f n st none_taken none_granted (record { at = at_found s.streams n st e; initial = refl })

        on_open : After s f n st (data_in f s)
        on_open = unmoved s (data_in f s) f n st none_taken none_granted (told_stands n 0 s.opened f st.receive st.send s.initial taken rising (record { at = at_found taken.streams n st other; initial = refl }))

        of_found : (x : Option Stream) → After s f n st (data_of f s x)
        of_found None = dropped
        of_found (Some y) = by_open (is_open y)
          where
            by_open : (b : Bool) → After s f n st (cond b (data_in f s) (data_dropped f s))
            by_open true = on_open
            by_open false = dropped

-- ---- SETTINGS

map_found : (ss : List Stream) (n : ℕ) (f : Stream → Stream) (st : Stream) → ((x : Stream) → (f x).number ≡ x.number) → stream_at ss n ≡ Some st → stream_at (map f ss) n ≡ Some (f st)
unfolding stream_at
map_found [] n f st same e = absurd cc
map_found (x ∷ ss) n f st same e = subst (λ (j : ℕ). cond (eqb j n) (Some (f x)) (stream_at (map f ss) n) ≡ Some (f st)) (sym (same x)) (by_test (eqb x.number n) (map_found ss n f st same) e)
  where
    by_test : (b : Bool) → (stream_at ss n ≡ Some st → stream_at (map f ss) n ≡ Some (f st)) → cond b (Some x) (stream_at ss n) ≡ Some st → cond b (Some (f x)) (stream_at (map f ss) n) ≡ Some (f st)
    by_test true rest h = let is : x ≡ st = cc in ap (λ (y : Stream). Some (f y)) is
    by_test false rest h = rest h

shifted_number : (old new : ℕ) (x : Stream) → (shifted_one old new x).number ≡ x.number
shifted_number old new x = by_test (is_open x)
  where
    by_test : (b : Bool) → (cond b (record x { send = x.send +ℤ (pos new -ℤ pos old) }) x).number ≡ x.number
    by_test true = refl
    by_test false = refl

-- a stream after settings, whose sending window rose by as much as INITIAL_WINDOW_SIZE
record Shifted (n : ℕ) (st : Stream) (before : ℕ) (t : State) : Type 0 where
  new : Stream
  found : stream_at t.streams n ≡ Some new
  receive : new.receive ≡ st.receive
  send : new.send ≡ st.send +ℤ (pos t.initial -ℤ pos before)

settings_shift : (n : ℕ) (xs : List (ℕ × ℕ)) (s : State) (st : Stream) → stream_at s.streams n ≡ Some st → is_open st ≡ true → Shifted n st s.initial (after_settings s xs)
unfolding after_settings after_setting
settings_shift n [] s st e o = record { new = st; found = e; receive = refl; send = omega (arith, ints) }
settings_shift n (x ∷ xs) s st e o = by_test (eqb x.0 4) (eqb x.0 3) (λ t y found opened. settings_shift n xs t y found opened)
  where
    moved : Stream
    moved = record st { send = st.send +ℤ (pos x.1 -ℤ pos s.initial) }

    Rest : Type 0
    Rest = (t : State) (y : Stream) → stream_at t.streams n ≡ Some y → is_open y ≡ true → Shifted n y t.initial (after_settings t xs)

    by_test : (a b : Bool) → Rest → Shifted n st s.initial (after_settings (cond a (record s { initial = x.1; streams = shifted s.initial x.1 s.streams }) (cond b (record s { most = Some x.1 }) s)) xs)
    by_test true b rest =
        let there_now : stream_at (shifted s.initial x.1 s.streams) n ≡ Some (shifted_one s.initial x.1 st) = map_found s.streams n (shifted_one s.initial x.1) st (shifted_number s.initial x.1) e in
        let found : stream_at (shifted s.initial x.1 s.streams) n ≡ Some moved = there_now ∙ ap (λ (c : Bool). Some (cond c moved st)) o in
        let later = rest (record s { initial = x.1; streams = shifted s.initial x.1 s.streams }) moved found o in
        let w = later.send in
        record { new = later.new; found = later.found; receive = later.receive; send = omega (arith, ints) }
    by_test false true rest = let later = rest (record s { most = Some x.1 }) st e o in record { new = later.new; found = later.found; receive = later.receive; send = later.send }
    by_test false false rest = rest s st e o

settings_after : (s : State) (f : Frame) (n : ℕ) (st : Stream) → eqb f.kind 4 ≡ true → stream_at s.streams n ≡ Some st → is_open st ≡ true → After s f n st (settings f s)
unfolding settings reply fail
settings_after s f n st k e o = by_test (has f 1)
  where
    none_taken : data_length n f ≡ 0
    none_taken = no_data n f (ap (λ (j : ℕ). eqb j 0) (eqb-true f.kind 4 k))

    none_granted : frame_grant n f ≡ 0
    none_granted = no_grant n f (ap (λ (j : ℕ). eqb j 8) (eqb-true f.kind 4 k))

    last : State
    last = after_settings s (settings_of f.payload)

    shift : Shifted n st s.initial last
    shift = settings_shift n (settings_of f.payload) s st e o

    -- a state with the streams and the setting of the last
    of_last : (t : State) → t.streams ≡ last.streams → t.initial ≡ last.initial → After s f n st t
    of_last t ss i new found =
        let at : stream_at last.streams n ≡ Some new = ap (λ l. stream_at l n) (sym ss) ∙ found in
        let whose : stream_at last.streams n ≡ Some shift.new = shift.found in
        let is : shift.new ≡ new = cc in
        let rr : new.receive ≡ st.receive = ap (λ (y : Stream). y.receive) (sym is) ∙ shift.receive in
        let ww : new.send ≡ st.send +ℤ (pos last.initial -ℤ pos s.initial) = ap (λ (y : Stream). y.send) (sym is) ∙ shift.send in
        record { receive = omega (arith, ints, none_taken); send = omega (arith, ints, none_granted, i) }

    by_reply : (b : Bool) → After s f n st (cond b (fail 11 last) (record last { out = put last.out true (spelled 4 1 0 []) }))
    by_reply true = of_last (fail 11 last) refl refl
    by_reply false = of_last (record last { out = put last.out true (spelled 4 1 0 []) }) refl refl

    by_test : (b : Bool) → After s f n st (cond b s (reply (spelled 4 1 0 []) last))
    by_test true = unmoved s s f n st none_taken none_granted (still n st s e)
    by_test false = by_reply (ltb reply_limit (reply_bytes last.out + length (spelled 4 1 0 [])))

-- ---- WINDOW_UPDATE

grant_number : (by : ℕ) (x : Stream) → (with_grant by x).number ≡ x.number
grant_number by x = by_test (is_open x)
  where
    by_test : (b : Bool) → (cond b (record x { send = x.send +ℤ pos by }) x).number ≡ x.number
    by_test true = refl
    by_test false = refl

update_after : (s : State) (f : Frame) (n : ℕ) (st : Stream) → eqb f.kind 8 ≡ true → Holds s → stream_at s.streams n ≡ Some st → is_open st ≡ true → After s f n st (window_update f s)
unfolding window_update frame_grant
update_after s f n st k h e o = by_all (eqb f.stream 0) refl
  where
    by : ℕ
    by = increment_of f.payload

    none_taken : data_length n f ≡ 0
    none_taken = no_data n f (ap (λ (j : ℕ). eqb j 0) (eqb-true f.kind 8 k))

    granted : frame_grant n f ≡ cond (eqb f.stream n) by 0
    granted = ap (λ (b : Bool). cond (b && eqb f.stream n) by 0) k

    by_one : (c : Bool) → eqb f.stream n ≡ c → After s f n st (record s { streams = change s.streams f.stream (with_grant by) })
    by_one true t = λ new found.
        let is_n : f.stream ≡ n = eqb-true f.stream n t in
        let all : frame_grant n f ≡ by = granted ∙ ap (λ (b : Bool). cond b by 0) t in
        let changed : stream_at (change s.streams f.stream (with_grant by)) n ≡ Some (with_grant by st) =
        subst (λ (j : ℕ). stream_at (change s.streams j (with_grant by)) n ≡ Some (with_grant by st)) (sym is_n) (at_changed s.streams n (with_grant by) st (grant_number by) e) in
        let raised : with_grant by st ≡ record st { send = st.send +ℤ pos by } = ap (λ (c : Bool). cond c (record st { send = st.send +ℤ pos by }) st) o in
        let is : with_grant by st ≡ new = cc in
        let rr : new.receive ≡ st.receive = ap (λ (y : Stream). y.receive) (sym is ∙ raised) in
        let ww : new.send ≡ st.send +ℤ pos by = ap (λ (y : Stream). y.send) (sym is ∙ raised) in
        record { receive = omega (arith, ints, none_taken); send = omega (arith, ints, all) }
    by_one false t =
        let none_granted : frame_grant n f ≡ 0 = granted ∙ ap (λ (b : Bool). cond b by 0) t in
        let other : stream_at (change s.streams f.stream (with_grant by)) n ≡ Some st = at_other s.streams f.stream n (with_grant by) (grant_number by) (eqb-false _ _ t) ∙ e in
        unmoved s (record s { streams = change s.streams f.stream (with_grant by) }) f n st none_taken none_granted (record { at = at_found (change s.streams f.stream (with_grant by)) n st other; initial = refl })

    by_all : (c : Bool) → eqb f.stream 0 ≡ c → After s f n st (cond c (record s { send = s.send +ℤ pos by }) (record s { streams = change s.streams f.stream (with_grant by) }))
    by_all true t =
        let none_granted : frame_grant n f ≡ 0 = granted ∙ ap (λ (j : ℕ). cond (eqb j n) by 0) (eqb-true f.stream 0 t) ∙ ap (λ (b : Bool). cond b by 0) (above_0 s n st h e) in
        unmoved s (record s { send = s.send +ℤ pos by }) f n st none_taken none_granted (record { at = at_found s.streams n st e; initial = refl })
    by_all false t = by_one (eqb f.stream n) refl

-- ---- a frame of any kind

effect_after : (s : State) (f : Frame) (n : ℕ) (st : Stream) → Holds s → Passes s f → stream_at s.streams n ≡ Some st → is_open st ≡ true → After s f n st (effect s f)
unfolding effect ping goaway
effect_after s f n st h p e o = by_data (eqb f.kind 0) refl
  where
    -- a kind that is neither DATA nor WINDOW_UPDATE
    quiet : (t : State) → eqb f.kind 0 ≡ false → eqb f.kind 8 ≡ false → Stand n st.receive st.send s.initial t → After s f n st t
    quiet t a b stands = unmoved s t f n st (no_data n f a) (no_grant n f b) stands

    same : Stand n st.receive st.send s.initial s
    same = still n st s e

    of_kind : (k : ℕ) → eqb f.kind k ≡ true → eqb k 8 ≡ false → eqb f.kind 8 ≡ false
    of_kind k t c = ap (λ (j : ℕ). eqb j 8) (eqb-true f.kind k t) ∙ c

    acknowledged : Stand n st.receive st.send s.initial (ping f s)
    acknowledged = choose n st.receive st.send s.initial (has f 1) s (reply (spelled 6 1 0 f.payload) s) same (replied_stands n st.receive st.send s.initial (spelled 6 1 0 f.payload) s same)

    by_update : (c : Bool) → eqb f.kind 8 ≡ c → eqb f.kind 0 ≡ false → After s f n st (cond c (window_update f s) s)
    by_update true t z = update_after s f n st t h e o
    by_update false t z = quiet s z t same

    by_goaway : (c : Bool) → eqb f.kind 7 ≡ c → eqb f.kind 0 ≡ false → After s f n st (cond c (goaway f s) (cond (eqb f.kind 8) (window_update f s) s))
    by_goaway true t z = quiet (goaway f s) z (of_kind 7 t refl) (record { at = same.at; initial = refl })
    by_goaway false t z = by_update (eqb f.kind 8) refl z

    by_ping : (c : Bool) → eqb f.kind 6 ≡ c → eqb f.kind 0 ≡ false → After s f n st (cond c (ping f s) (cond (eqb f.kind 7) (goaway f s) (cond (eqb f.kind 8) (window_update f s) s)))
    by_ping true t z = quiet (ping f s) z (of_kind 6 t refl) acknowledged
    by_ping false t z = by_goaway (eqb f.kind 7) refl z

    by_settings : (c : Bool) → eqb f.kind 4 ≡ c → eqb f.kind 0 ≡ false → After s f n st (cond c (settings f s) (cond (eqb f.kind 6) (ping f s) (cond (eqb f.kind 7) (goaway f s) (cond (eqb f.kind 8) (window_update f s) s))))
    by_settings true t z = settings_after s f n st t e o
    by_settings false t z = by_ping (eqb f.kind 6) refl z

    resets : State
    resets = if_open (stream_at s.streams f.stream) s (λ x. reset_of f x s)

    by_reset : (c : Bool) → eqb f.kind 3 ≡ c → eqb f.kind 0 ≡ false → After s f n st (cond c resets (cond (eqb f.kind 4) (settings f s) (cond (eqb f.kind 6) (ping f s) (cond (eqb f.kind 7) (goaway f s) (cond (eqb f.kind 8) (window_update f s) s)))))
    by_reset true t z = quiet resets z (of_kind 3 t refl) (reset_stands n f st s e h.rising)
    by_reset false t z = by_settings (eqb f.kind 4) refl z

    block_is : (a b : Bool) → eqb f.kind 1 ≡ a → eqb f.kind 9 ≡ b → (a || b) ≡ true → eqb f.kind 8 ≡ false
    block_is true b one nine or = of_kind 1 one refl
    block_is false true one nine or = of_kind 9 nine refl
    block_is false false one nine or = absurd cc

    by_block : (c : Bool) → (eqb f.kind 1 || eqb f.kind 9) ≡ c → eqb f.kind 0 ≡ false
        → After s f n st (cond c (block_of_headers f s) (cond (eqb f.kind 3) resets (cond (eqb f.kind 4) (settings f s) (cond (eqb f.kind 6) (ping f s) (cond (eqb f.kind 7) (goaway f s) (cond (eqb f.kind 8) (window_update f s) s))))))
    by_block true t z = quiet (block_of_headers f s) z (block_is (eqb f.kind 1) (eqb f.kind 9) refl refl t) (block_stands n f st s e h.rising (odd_block s f h p t))
    by_block false t z = by_reset (eqb f.kind 3) refl z

    by_data : (c : Bool) → eqb f.kind 0 ≡ c → After s f n st (cond c (data_of f s (stream_at s.streams f.stream))
        (cond (eqb f.kind 1 || eqb f.kind 9) (block_of_headers f s) (cond (eqb f.kind 3) resets (cond (eqb f.kind 4) (settings f s) (cond (eqb f.kind 6) (ping f s) (cond (eqb f.kind 7) (goaway f s) (cond (eqb f.kind 8) (window_update f s) s)))))))
    by_data true t = data_after s f n st t e o h.rising
    by_data false t = by_block (eqb f.kind 1 || eqb f.kind 9) refl t

pub frames_shift : FramesShift
unfolding after_frame
frames_shift s f n st new h going kept e o found =
    subst (λ (t : State). After s f n st t) (sym is) rest new found
  where
    begun : State
    begun = record s { began = true }

    is : after_frame s f ≡ effect begun f
    is = ap (λ (x : Option ℕ). cond (is_some x) s (judged s f (verdict s f))) going ∙ ap (judged s f) kept

    rest : After s f n st (effect begun f)
    rest y there_y =
        let r : Follows begun (effect begun f) f n st y = effect_after begun f n st (holds_began s h) (passes_began s f (passes_rules s f kept)) e o y there_y in
        record { receive = r.receive; send = r.send }
