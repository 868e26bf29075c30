-- What never changes, and what the moves of an end leave as it is.
use Rattle.std.proofs.Common.{◌≡◌, ◌≢◌, ℕ, ◌+◌, Bool, true, false, not, ◌&&◌, ◌||◌, cond, eqb, ltb, leb, List, [], ◌∷◌, length, Option, Some, None, is_some, Result, Ok, Err, refl, sym, ap, ◌∙◌, subst, arith}
use Rattle.std.proofs.lemmas.Bool.{eqb-true, eq-eqb, lt-ltb, cond_both}
use Rattle.kn_frames.specs.declared.frame.Frame.{Frame}
use Rattle.kn_frames.specs.declared.fault.FrameFault.{FrameFault}
use Rattle.kn_frames.specs.Readers.{frames_in, after_bytes, fault_in}
use Rattle.kn_hpack.specs.Fields.{Field}
use Rattle.kn_hpack.specs.Blocks.{Progress, read_block}
use Rattle.kn_hpack.specs.declared.fault.HpackFault.{HpackFault}
use Rattle.kn_h2_state.specs.declared.role.Role.{Role}
use Rattle.kn_h2_state.specs.declared.moves.Move.{Move}
use Rattle.kn_h2_state.specs.declared.moves.Move.TheVariants.{GrantAll, Grant, Send, End, Stop}
use Rattle.kn_h2_state.specs.declared.stream.Stream.{Stream}
use Rattle.kn_h2_state.specs.declared.state.State.{State}
use Rattle.kn_h2_state.specs.Limits.{reply_limit, stream_limit, full_out}
use Rattle.kn_h2_state.specs.Outgoing.{reply_bytes}
use Rattle.kn_h2_state.specs.Streams.{stream_at, change, is_open, is_kept, tidied, open_count}
use Rattle.kn_h2_state.specs.Payloads.{has, content, number_at, settings_of}
use Rattle.kn_h2_state.specs.Heads.{is_malformed_request, is_malformed_response, is_informational}
use Rattle.kn_h2_state.specs.Rules.{is_client, block_with, ends_block, verdict}
use Rattle.kn_h2_state.specs.Effects.{fail, reply, peer_ends, if_open, ended_if, text_told, data_taken, data_in, data_dropped, data_of, accepted, request, headed, refused_response, response, head_of, decoded, block_ends, block_grown, block_of_headers, cut_off, reset_of, after_setting, after_settings, settings, ping, goaway, window_update, effect}
use Rattle.kn_h2_state.specs.Feeding.{Connection, without_blocks, judged, after_frame, after_frames, frame_code, after_fault, after_piece}
use Rattle.kn_h2_state.specs.Moves.{granted, sent_some, own_ended, stopped, made, target, may, after_move}
use Rattle.kn_h2_state.specs.Calls.{text_in, text_of, after_take, after_begin, after_queue, after_finish, after_answer, after_reset, after_took}
use Rattle.kn_h2_state.specs.Holding.{Rising, is_at_rest, Holds}
use Rattle.kn_h2.specs.Steady.{RoleStays, MovesTellNothing, EndsAreWritten}
use Rattle.kn_h2.proofs.StreamLemmas.{all_at, no_text, rising_tidied, rising_lower, rising_change}

-- ---- the role

record HasRole (r : Role) (s : State) : Type 0 where
  is : s.role ≡ r

role_fail : (code : ℕ) (s : State) (r : Role) → HasRole r s → HasRole r (fail code s)
unfolding fail
role_fail code s r h = record { is = h.is }

role_reply : (frame : List ℕ) (s : State) (r : Role) → HasRole r s → HasRole r (reply frame s)
unfolding reply
role_reply frame s r h = cond_both (ltb reply_limit (reply_bytes s.out + length frame)) _ _ (HasRole r) (λ e. role_fail 11 s r h) (λ e. record { is = h.is })

role_peer_ends : (n : ℕ) (s : State) (r : Role) → HasRole r s → HasRole r (peer_ends n s)
unfolding peer_ends
role_peer_ends n s r h = record { is = h.is }

role_ended_if : (ends : Bool) (n : ℕ) (s : State) (r : Role) → HasRole r s → HasRole r (ended_if ends n s)
role_ended_if ends n s r h = cond_both ends _ _ (HasRole r) (λ e. role_peer_ends n s r h) (λ e. h)

role_text_told : (n : ℕ) (text : List ℕ) (s : State) (r : Role) → HasRole r s → HasRole r (text_told n text s)
role_text_told n text s r h = cond_both (eqb (length text) 0) _ _ (HasRole r) (λ e. h) (λ e. record { is = h.is })

role_data : (f : Frame) (s : State) (o : Option Stream) (r : Role) → HasRole r s → HasRole r (data_of f s o)
unfolding data_in data_taken data_dropped
role_data f s None r h = record { is = h.is }
role_data f s (Some st) r h = cond_both (is_open st) _ _ (HasRole r)
    (λ e. role_ended_if (has f 1) f.stream _ r (role_text_told f.stream (content f) (data_taken f s) r (record { is = h.is })))
    (λ e. record { is = h.is })

role_if_open : (o : Option Stream) (s : State) (next : Stream → State) (r : Role) → HasRole r s → ((st : Stream) → HasRole r (next st)) → HasRole r (if_open o s next)
role_if_open None s next r h then = h
role_if_open (Some st) s next r h then = cond_both (is_open st) _ _ (HasRole r) (λ e. then st) (λ e. h)

role_request : (n : ℕ) (ends : Bool) (fields : List Field) (s : State) (r : Role) → HasRole r s → HasRole r (request n ends fields s)
unfolding request accepted
role_request n ends fields s r h =
    cond_both (leb stream_limit (open_count s.streams)) _ _ (HasRole r) (λ e. role_reply _ _ r (record { is = h.is }))
    (λ e. cond_both (is_malformed_request fields) _ _ (HasRole r) (λ e. role_reply _ _ r (record { is = h.is })) (λ e. role_ended_if ends n _ r (record { is = h.is })))

role_response : (n : ℕ) (ends : Bool) (fields : List Field) (st : Stream) (s : State) (r : Role) → HasRole r s → HasRole r (response n ends fields st s)
unfolding response refused_response headed
role_response n ends fields st s r h =
    cond_both st.answered _ _ (HasRole r) (λ e. role_peer_ends n s r h)
    (λ e. cond_both (is_informational fields && not ends) _ _ (HasRole r) (λ e. h)
    (λ e. cond_both (is_malformed_response fields || is_informational fields) _ _ (HasRole r)
    (λ e. role_reply _ _ r (record { is = h.is }))
    (λ e. role_ended_if ends n _ r (record { is = h.is }))))

role_head_of : (n : ℕ) (ends : Bool) (fields : List Field) (s : State) (r : Role) → HasRole r s → HasRole r (head_of n ends fields s)
unfolding head_of
role_head_of n ends fields s r h =
    cond_both (is_client s.role) _ _ (HasRole r) (λ e. role_if_open (stream_at s.streams n) s (λ st. response n ends fields st s) r h (λ st. role_response n ends fields st s r h))
    (λ e. cond_both (ltb s.opened n) _ _ (HasRole r) (λ e. role_request n ends fields s r h)
    (λ e. role_if_open (stream_at s.streams n) s (λ st. peer_ends n s) r h (λ st. role_peer_ends n s r h)))

role_decoded : (n : ℕ) (ends : Bool) (s : State) (x : Result Progress HpackFault) (r : Role) → HasRole r s → HasRole r (decoded n ends s x)
role_decoded n ends s (Ok p) r h = role_head_of n ends p.fields _ r (record { is = h.is })
role_decoded n ends s (Err e) r h = h

role_block : (f : Frame) (s : State) (r : Role) → HasRole r s → HasRole r (block_of_headers f s)
unfolding block_of_headers block_grown
role_block f s r h = cond_both (ends_block f) _ _ (HasRole r)
    (λ e. role_decoded f.stream (block_ends s.block f) s (read_block s.decoder (block_with s f)) r h) (λ e. record { is = h.is })

role_reset_of : (f : Frame) (st : Stream) (s : State) (r : Role) → HasRole r s → HasRole r (reset_of f st s)
unfolding reset_of cut_off
role_reset_of f st s r h = cond_both (is_client s.role && eqb (number_at f.payload 0) 0 && not st.peer_open) _ _ (HasRole r) (λ e. record { is = h.is }) (λ e. record { is = h.is })

role_setting : (s : State) (x : ℕ × ℕ) (r : Role) → HasRole r s → HasRole r (after_setting s x)
unfolding after_setting
role_setting s x r h = cond_both (eqb x.0 4) _ _ (HasRole r) (λ e. record { is = h.is }) (λ e. cond_both (eqb x.0 3) _ _ (HasRole r) (λ e. record { is = h.is }) (λ e. h))

role_settings_of : (s : State) (xs : List (ℕ × ℕ)) (r : Role) → HasRole r s → HasRole r (after_settings s xs)
unfolding after_settings
role_settings_of s [] r h = h
role_settings_of s (x ∷ xs) r h = role_settings_of (after_setting s x) xs r (role_setting s x r h)

role_settings : (f : Frame) (s : State) (r : Role) → HasRole r s → HasRole r (settings f s)
unfolding settings
role_settings f s r h = cond_both (has f 1) _ _ (HasRole r) (λ e. h) (λ e. role_reply _ _ r (role_settings_of s (settings_of f.payload) r h))

role_ping : (f : Frame) (s : State) (r : Role) → HasRole r s → HasRole r (ping f s)
unfolding ping
role_ping f s r h = cond_both (has f 1) _ _ (HasRole r) (λ e. h) (λ e. role_reply _ _ r h)

role_goaway : (f : Frame) (s : State) (r : Role) → HasRole r s → HasRole r (goaway f s)
unfolding goaway
role_goaway f s r h = record { is = h.is }

role_window_update : (f : Frame) (s : State) (r : Role) → HasRole r s → HasRole r (window_update f s)
unfolding window_update
role_window_update f s r h = cond_both (eqb f.stream 0) _ _ (HasRole r) (λ e. record { is = h.is }) (λ e. record { is = h.is })

role_effect : (s : State) (f : Frame) (r : Role) → HasRole r s → HasRole r (effect s f)
unfolding effect
role_effect s f r h =
    cond_both (eqb f.kind 0) _ _ (HasRole r) (λ e. role_data f s (stream_at s.streams f.stream) r h)
    (λ e. cond_both (eqb f.kind 1 || eqb f.kind 9) _ _ (HasRole r) (λ e. role_block f s r h)
    (λ e. cond_both (eqb f.kind 3) _ _ (HasRole r) (λ e. role_if_open (stream_at s.streams f.stream) s (λ st. reset_of f st s) r h (λ st. role_reset_of f st s r h))
    (λ e. cond_both (eqb f.kind 4) _ _ (HasRole r) (λ e. role_settings f s r h)
    (λ e. cond_both (eqb f.kind 6) _ _ (HasRole r) (λ e. role_ping f s r h)
    (λ e. cond_both (eqb f.kind 7) _ _ (HasRole r) (λ e. role_goaway f s r h)
    (λ e. cond_both (eqb f.kind 8) _ _ (HasRole r) (λ e. role_window_update f s r h)
    (λ e. h)))))))

role_judged : (s : State) (f : Frame) (o : Option ℕ) (r : Role) → HasRole r s → HasRole r (judged s f o)
role_judged s f None r h = role_effect (record s { began = true }) f r (record { is = h.is })
role_judged s f (Some code) r h = role_fail code (without_blocks s) r (record { is = h.is })

role_frame : (s : State) (f : Frame) (r : Role) → HasRole r s → HasRole r (after_frame s f)
unfolding after_frame
role_frame s f r h = cond_both (is_some s.failed) _ _ (HasRole r) (λ e. h) (λ e. role_judged s f (verdict s f) r h)

role_frames : (s : State) (fs : List Frame) (r : Role) → HasRole r s → HasRole r (after_frames s fs)
unfolding after_frames
role_frames s [] r h = h
role_frames s (f ∷ fs) r h = role_frames (after_frame s f) fs r (role_frame s f r h)

role_fault : (s : State) (o : Option FrameFault) (r : Role) → HasRole r s → HasRole r (after_fault s o)
role_fault s None r h = h
role_fault s (Some fault) r h = cond_both (is_some s.failed) _ _ (HasRole r) (λ e. h) (λ e. role_fail (frame_code fault.reason) s r h)

record ConnHasRole (r : Role) (c : Connection) : Type 0 where
  is : c.state.role ≡ r

role_piece : (c : Connection) (bytes : List ℕ) → ConnHasRole c.state.role (after_piece c bytes)
unfolding after_piece
role_piece c bytes = cond_both (is_some c.state.failed) _ _ (ConnHasRole c.state.role) (λ e. record { is = refl })
    (λ e. record { is = (role_fault _ (fault_in (after_bytes c.cutter bytes).phase) c.state.role (role_frames c.state (frames_in c.cutter bytes) c.state.role (record { is = refl }))).is })

role_made : (s : State) (m : Move) (o : Option Stream) → (made s m o).role ≡ s.role
role_made s GrantAll o = refl
role_made s (Grant n) None = refl
role_made s (Grant n) (Some st) = refl
role_made s (Send n count) None = refl
role_made s (Send n count) (Some st) = refl
role_made s (End n) None = refl
role_made s (End n) (Some st) = refl
role_made s (Stop n) None = refl
role_made s (Stop n) (Some st) = refl

pub role_stays : RoleStays
unfolding after_move after_take after_took after_begin after_queue after_finish after_answer after_reset
role_stays = record {
  frame = λ s f. (role_frame s f s.role (record { is = refl })).is;
  piece = λ c bytes. (role_piece c bytes).is;
  move = λ s m. role_made s m (stream_at s.streams (target m));
  take = λ s n count. refl;
  took = λ s count. refl;
  begin = λ s fields. refl;
  queue = λ s n bytes. refl;
  finish = λ s n trailers. refl;
  answer = λ s n fields. (role_reply _ _ s.role (record { is = refl })).is;
  reset = λ s n code. (role_reply _ _ s.role (record { is = refl })).is;
}

-- ---- what moves leave

-- a number below those of the streams is of none
none_below : (n high : ℕ) (ss : List Stream) → Rising n high ss → stream_at ss n ≡ None
unfolding Rising stream_at
none_below n high [] r = refl
none_below n high (s ∷ ss) r =
    let other : eqb s.number n ≡ false = eqb-other s.number n (omega arith) in
    rw other (none_below n high ss (rising_lower n s.number high ss (omega arith) r.2))
  where
    eqb-other : (a b : ℕ) → a ≢ b → eqb a b ≡ false
    eqb-other a b h = by_test (eqb a b) refl
      where
        by_test : (t : Bool) → eqb a b ≡ t → t ≡ false
        by_test true e = absurd (h (eqb-true a b e))
        by_test false e = refl

empty_list : (xs : List ℕ) → length xs ≡ 0 → xs ≡ []
empty_list [] e = refl
empty_list (x ∷ xs) e = absurd (omega arith)

no_text_of : (s : Stream) → is_kept s ≡ false → s.text ≡ []
no_text_of s e = empty_list s.text (no_text s e)

text_stays_tidied : (low high n : ℕ) (ss : List Stream) → Rising low high ss → text_in (stream_at (tidied ss) n) ≡ text_in (stream_at ss n)
unfolding Rising stream_at
text_stays_tidied low high n [] r = refl
text_stays_tidied low high n (x ∷ ss) r = by_test (is_kept x) (eqb x.number n) refl refl (text_stays_tidied x.number high n ss r.2)
  where
    by_test : (k b : Bool) → is_kept x ≡ k → eqb x.number n ≡ b → text_in (stream_at (tidied ss) n) ≡ text_in (stream_at ss n)
        → text_in (stream_at (cond k (x ∷ tidied ss) (tidied ss)) n) ≡ text_in (cond b (Some x) (stream_at ss n))
    by_test true true k e rest = rw e refl
    by_test true false k e rest = rw e rest
    by_test false true k e rest =
        let same : x.number ≡ n = eqb-true x.number n e in
        let P : ℕ → Type 0 = λ low. Rising low high ss in
        let none = none_below n high (tidied ss) (rising_tidied n high ss (subst P same r.2)) in
        rw none (sym (no_text_of x k))
    by_test false false k e rest = rest

at_cases : (b : Bool) (x y : Stream) (o p : Option Stream) → x.text ≡ y.text → text_in o ≡ text_in p → text_in (cond b (Some x) o) ≡ text_in (cond b (Some y) p)
at_cases true x y o p e rest = e
at_cases false x y o p e rest = rest

text_stays_changed : (n m : ℕ) (f : Stream → Stream) (ss : List Stream) → ((s : Stream) → (f s).number ≡ s.number) → ((s : Stream) → (f s).text ≡ s.text)
    → text_in (stream_at (change ss n f) m) ≡ text_in (stream_at ss m)
unfolding stream_at change
text_stays_changed n m f [] number text = refl
text_stays_changed n m f (x ∷ ss) number text = by_test (eqb x.number n) (text_stays_changed n m f ss number text)
  where
    by_test : (b : Bool) → text_in (stream_at (change ss n f) m) ≡ text_in (stream_at ss m)
        → text_in (stream_at (cond b (f x ∷ ss) (x ∷ change ss n f)) m) ≡ text_in (cond (eqb x.number m) (Some x) (stream_at ss m))
    by_test true rest = ap (λ k. text_in (cond (eqb k m) (Some (f x)) (stream_at ss m))) (number x) ∙ at_cases (eqb x.number m) (f x) x (stream_at ss m) (stream_at ss m) (text x) refl
    by_test false rest = at_cases (eqb x.number m) x x (stream_at (change ss n f) m) (stream_at ss m) refl rest

text_stays_on : (n m : ℕ) (f : Stream → Stream) (s : State) → Holds s → ((st : Stream) → (f st).number ≡ st.number) → ((st : Stream) → (f st).text ≡ st.text)
    → text_in (stream_at (tidied (change s.streams n f)) m) ≡ text_in (stream_at s.streams m)
text_stays_on n m f s h number text =
    text_stays_tidied 0 s.opened m (change s.streams n f) (rising_change 0 s.opened s.streams n f number h.rising) ∙ text_stays_changed n m f s.streams number text

text_made : (s : State) (m : Move) (o : Option Stream) (k : ℕ) → Holds s → text_of (made s m o) k ≡ text_of s k
text_made s GrantAll o k h = refl
text_made s (Grant n) None k h = refl
text_made s (Grant n) (Some st) k h = text_stays_changed n k granted s.streams (λ x. refl) (λ x. refl)
text_made s (Send n count) None k h = refl
text_made s (Send n count) (Some st) k h = text_stays_changed n k (sent_some count) s.streams (λ x. refl) (λ x. refl)
text_made s (End n) None k h = refl
text_made s (End n) (Some st) k h = text_stays_on n k (own_ended (not (is_client s.role))) s h (λ x. refl) (λ x. refl)
text_made s (Stop n) None k h = refl
text_made s (Stop n) (Some st) k h = text_stays_on n k stopped s h (λ x. refl) (λ x. refl)

told_made : (s : State) (m : Move) (o : Option Stream) → ((made s m o).events ≡ s.events) × ((made s m o).failed ≡ s.failed)
told_made s GrantAll o = (refl, refl)
told_made s (Grant n) None = (refl, refl)
told_made s (Grant n) (Some st) = (refl, refl)
told_made s (Send n count) None = (refl, refl)
told_made s (Send n count) (Some st) = (refl, refl)
told_made s (End n) None = (refl, refl)
told_made s (End n) (Some st) = (refl, refl)
told_made s (Stop n) None = (refl, refl)
told_made s (Stop n) (Some st) = (refl, refl)

pub moves_tell_nothing : MovesTellNothing
unfolding after_move
moves_tell_nothing s m h =
    let o = stream_at s.streams (target m) in
    record { events = (told_made s m o).0; failed = (told_made s m o).1; text = λ k. text_made s m o k h }

-- ---- ends that were asked for

own_of : (a b : Bool) → (a || (b && false)) ≡ true → a ≡ true
own_of true b e = refl
own_of false true e = absurd (cc)
own_of false false e = absurd (cc)

or_true : (b : Bool) → (b || true) ≡ true
or_true true = refl
or_true false = refl

pub ends_are_written : EndsAreWritten
unfolding may
ends_are_written s n st h live room over here sent = by_finish st.finish refl
  where
    by_finish : (o : Option (List Field)) → st.finish ≡ o → o ≡ None
    by_finish None e = refl
    by_finish (Some trailers) e =
        let rest = all_at (λ x. is_at_rest x ≡ true) s.streams n st h.rest here in
        let own : st.own_open ≡ true = own_of st.own_open (eqb (length st.queue) 0) (rw e at rest) in
        let due : may s (End n) ≡ true = rw (live, here, lt-ltb (length s.out.bytes) full_out room, e, eq-eqb (length st.queue) 0 sent, own, or_true st.peer_open) refl in
        let not_due = over (End n) in
        absurd (cc)
