-- What the laws of hearing rest on holds of a new connection, and goes on to hold.
use Rattle.std.proofs.Common.{◌≡◌, ℕ, ◌≤◌, ◌+◌, ◌+ℤ◌, ◌-ℤ◌, pos, Bool, true, false, not, ◌&&◌, ◌||◌, nat_lt, nat_le, List, [], ◌∷◌, ◌++◌, length, Option, Some, None, Result, Ok, Err, refl, sym, ap, ◌∙◌, subst, arith, if◌then◌else◌}
use Rattle.std.specs.Prelude.{◌==◌}
use Rattle.std.specs.Option.{IfSome}
use Rattle.std.proofs.lemmas.Bool.{eqb-true}
use Rattle.kn_frames.specs.declared.frame.Frame.{Frame}
use Rattle.kn_frames.specs.Frames.{spelled}
use Rattle.kn_hpack.specs.Fields.{Field}
use Rattle.kn_hpack.specs.Encoding.{block_of}
use Rattle.kn_hpack.specs.Blocks.{Progress, read_block}
use Rattle.kn_hpack.specs.declared.fault.HpackFault.{HpackFault}
use Rattle.kn_h2_state.specs.declared.event.H2Event.TheVariants.{Opened, Head, Text, Reset}
use Rattle.kn_h2_state.specs.declared.moves.Move.{Move}
use Rattle.kn_h2_state.specs.declared.moves.Move.TheVariants.{GrantAll, Grant, Send, End, Stop}
use Rattle.kn_h2_state.specs.declared.stream.Stream.{Stream}
use Rattle.kn_h2_state.specs.declared.state.Block.{Block}
use Rattle.kn_h2_state.specs.declared.state.State.{State}
use Rattle.kn_h2_state.specs.Limits.{reply_limit, stream_limit}
use Rattle.kn_h2_state.specs.Outgoing.{put, reply_bytes}
use Rattle.kn_h2_state.specs.Streams.{stream_at, change, is_open, open_count, shut}
use Rattle.kn_h2_state.specs.Payloads.{has, content, number_at, increment_of, settings_of, reset_frame}
use Rattle.kn_h2_state.specs.Heads.{is_malformed_request, is_malformed_response, is_informational}
use Rattle.kn_h2_state.specs.Rules.{is_client, block_with, ends_block, shifted, verdict}
use Rattle.kn_h2_state.specs.Effects.{event, fail, reply, on_stream, peer_ends, if_open, data_taken, text_told, ended_if, data_in, data_dropped, data_of, new_stream, opens, accepted, request, headed, refused_response, response, head_of, decoded, block_ends, block_grown, block_of_headers, cut_off, reset_of, after_setting, after_settings, settings, ping, goaway, with_grant, window_update, effect}
use Rattle.kn_h2_state.specs.Feeding.{without_blocks, judged, after_frame}
use Rattle.kn_h2_state.specs.Moves.{can_stop, headers_frames, granted, sent_some, own_ended, stopped, made, target, after_move}
use Rattle.kn_h2_state.specs.Calls.{fresh_state, with_taken, with_queued, with_finish, next_number, after_take, after_begin, after_queue, after_finish, after_answer, after_reset, after_took}
use Rattle.kn_h2_state.specs.Holding.{Holds}
use Rattle.kn_h2_state.specs.Preorder.{KnowsItsBlock, StopsWhereEnded, OwnFacts, OwnFactsBegin, OwnFactsAreKept}
use Rattle.kn_h2_state.proofs.PieceLaws.{after_frame-failed, after_frame-judged}
use Rattle.kn_h2_state.proofs.SeenLemmas.{KeepsNumber}
use Rattle.kn_h2_state.proofs.OtherLaws.{either, open_or, by_kind}
use Rattle.kn_h2_state.proofs.BorneLemmas.{Rises, rises, climbing, rises_change, at_change, at_tidied, at_push, Bears, borne_frame, borne_start}
use Rattle.kn_h2_state.proofs.OwnSteps.{own_steps_are_heard}
use Rattle.kn_h2_state.proofs.MoreLaws.{frames_keep_more}

-- ---- a stop

-- of the stream
abbrev Stops : Option Stream → Type 0
Stops None = Unit {0}
Stops (Some st) = can_stop st ≡ true → st.own_open ≡ false

stops_at : (s : State) (n : ℕ) → StopsWhereEnded s → Stops (stream_at s.streams n)
stops_at s n ended = by_stream (stream_at s.streams n) refl
  where
    by_stream : (o : Option Stream) → stream_at s.streams n ≡ o → Stops o
    by_stream None e = tt
    by_stream (Some st) e = ended n st e

stops_all : (ss : List Stream) → ((n : ℕ) → Stops (stream_at ss n)) → (n : ℕ) (st : Stream) → stream_at ss n ≡ Some st → can_stop st ≡ true → st.own_open ≡ false
stops_all ss all n st e = subst Stops e (all n)

never : (b : Bool) → (b && false) ≡ true → ⊥
never true e = cc
never false e = cc

bears_stops : (c : Bool) (n low : ℕ) → Bears c (Unit {0}) Stops n low
bears_stops c n low = record {
  gone = λ st e q. tt;
  texts = λ k text st q. q;
  ends = λ st q e. absurd (never st.resets e);
  heads = λ e st q. q;
  shuts = λ _ st q e. absurd cc;
  cuts = λ _ st q e. absurd cc;
  grants = λ by st q. grant by (is_open st) st q;
  shifts = λ old new st q. shift old new (is_open st) st q;
  fresh = λ m t above same e. absurd cc;
}
  where
    grant : (by : ℕ) (b : Bool) (st : Stream) → Stops (Some st) → Stops (Some (if b then record st { send = st.send +ℤ pos by } else st))
    grant by true st q = q
    grant by false st q = q

    shift : (old new : ℕ) (b : Bool) (st : Stream) → Stops (Some st) → Stops (Some (if b then record st { send = st.send +ℤ (pos new -ℤ pos old) } else st))
    shift old new true st q = q
    shift old new false st q = q

stops_frame : (s : State) (f : Frame) → Rises 0 s.opened s.streams → StopsWhereEnded s → StopsWhereEnded (after_frame s f)
stops_frame s f r ended =
    stops_all (after_frame s f).streams (λ n. (borne_frame (bears_stops (is_client s.role) n s.opened) s f refl (borne_start {Q = Stops} {n = n} s r (stops_at s n ended))).there)

stops_change : (s : State) (m : ℕ) (f : Stream → Stream) → KeepsNumber f → ((st : Stream) → Stops (Some st) → Stops (Some (f st))) → StopsWhereEnded s
    → (n : ℕ) → Stops (stream_at (change s.streams m f) n)
stops_change s m f number step ended n = at_change Stops s.streams m n f number step (stops_at s n ended)

stops_on : (s : State) (m : ℕ) (f : Stream → Stream) → Rises 0 s.opened s.streams → KeepsNumber f → ((st : Stream) → Stops (Some st) → Stops (Some (f st))) → StopsWhereEnded s
    → (n : ℕ) → Stops (stream_at (on_stream m f s).streams n)
stops_on s m f r number step ended n =
    at_tidied Stops 0 n (change s.streams m f) (λ st e q. tt) (climbing 0 s.opened (change s.streams m f) (rises_change 0 s.opened s.streams m f number r))
    (stops_change s m f number step ended n)

-- ---- an end stays the end that it is

abbrev Whose : State → State → Type 0
Whose s t = t.role ≡ s.role

role_fail : (code : ℕ) (s : State) → Whose s (fail code s)
unfolding fail
role_fail code s = refl

role_reply : (frame : List ℕ) (s : State) → Whose s (reply frame s)
unfolding reply
role_reply frame s = either (Whose s) (nat_lt reply_limit (reply_bytes s.out + length frame)) (fail 11 s) (record s { out = put s.out true frame }) (role_fail 11 s) refl

role_ends : (m : ℕ) (s : State) → Whose s (peer_ends m s)
unfolding peer_ends
role_ends m s = refl

role_ended : (ends : Bool) (m : ℕ) (s : State) → Whose s (ended_if ends m s)
role_ended ends m s = either (Whose s) ends (peer_ends m s) s (role_ends m s) refl

role_data : (f : Frame) (s : State) (o : Option Stream) → Whose s (data_of f s o)
unfolding data_in data_taken data_dropped
role_data f s None = refl
role_data f s (Some st) =
    either (Whose s) (is_open st) (data_in f s) (data_dropped f s)
    (role_ended (has f 1) f.stream (text_told f.stream (content f) (data_taken f s))
    ∙ either (Whose s) (length (content f) == 0) (data_taken f s) (event (data_taken f s) (Text f.stream)) refl refl) refl

role_request : (m : ℕ) (ends : Bool) (fields : List Field) (s : State) → Whose s (request m ends fields s)
unfolding request accepted
role_request m ends fields s =
    let pushed : State = event (record s { opened = m; streams = s.streams ++ new_stream m s ∷ [] }) (Opened m fields) in
    either (Whose s) (nat_le stream_limit (open_count s.streams)) (reply (reset_frame m 7) (opens m s))
    (if is_malformed_request fields then reply (reset_frame m 1) (opens m s) else accepted m ends fields s) (role_reply (reset_frame m 7) (opens m s))
    (either (Whose s) (is_malformed_request fields) (reply (reset_frame m 1) (opens m s)) (accepted m ends fields s) (role_reply (reset_frame m 1) (opens m s)) (role_ended ends m pushed))

role_response : (m : ℕ) (ends : Bool) (fields : List Field) (st : Stream) (s : State) → Whose s (response m ends fields st s)
unfolding response refused_response headed
role_response m ends fields st s =
    either (Whose s) st.answered (peer_ends m s)
    (if is_informational fields && not ends then s else (if is_malformed_response fields || is_informational fields then refused_response m s else headed m ends fields s))
    (role_ends m s)
    (either (Whose s) (is_informational fields && not ends) s (if is_malformed_response fields || is_informational fields then refused_response m s else headed m ends fields s) refl
    (either (Whose s) (is_malformed_response fields || is_informational fields) (refused_response m s) (headed m ends fields s)
    (role_reply (reset_frame m 1) (event (on_stream m shut s) (Reset m 1)))
    (role_ended ends m (event (on_stream m (λ x. record x { answered = true }) s) (Head m fields)))))

role_head : (m : ℕ) (ends : Bool) (fields : List Field) (s : State) → Whose s (head_of m ends fields s)
unfolding head_of
role_head m ends fields s =
    either (Whose s) (is_client s.role) (if_open (stream_at s.streams m) s (λ st. response m ends fields st s))
    (if nat_lt s.opened m then request m ends fields s else if_open (stream_at s.streams m) s (λ st. peer_ends m s))
    (open_or (Whose s) (stream_at s.streams m) s (λ st. response m ends fields st s) refl (λ st. role_response m ends fields st s))
    (either (Whose s) (nat_lt s.opened m) (request m ends fields s) (if_open (stream_at s.streams m) s (λ st. peer_ends m s)) (role_request m ends fields s)
    (open_or (Whose s) (stream_at s.streams m) s (λ st. peer_ends m s) refl (λ st. role_ends m s)))

role_block : (f : Frame) (s : State) → Whose s (block_of_headers f s)
unfolding block_of_headers block_grown
role_block f s =
    either (Whose s) (ends_block f) (decoded f.stream (block_ends s.block f) s (read_block s.decoder (block_with s f))) (block_grown f s) (by_read (read_block s.decoder (block_with s f))) refl
  where
    by_read : (r : Result Progress HpackFault) → Whose s (decoded f.stream (block_ends s.block f) s r)
    by_read (Ok p) = role_head f.stream (block_ends s.block f) p.fields (record s { block = None; decoder = p.table })
    by_read (Err e) = refl

role_reset : (f : Frame) (st : Stream) (s : State) → Whose s (reset_of f st s)
unfolding reset_of cut_off
role_reset f st s =
    either (Whose s) (is_client s.role && (number_at f.payload 0 == 0) && not st.peer_open) (on_stream f.stream shut s) (cut_off f.stream (number_at f.payload 0) st s) refl refl

role_settings : (s : State) (xs : List (ℕ × ℕ)) → Whose s (after_settings s xs)
unfolding after_settings after_setting
role_settings s [] = refl
role_settings s (x ∷ xs) =
    role_settings (after_setting s x) xs
    ∙ either (Whose s) (x.0 == 4) (record s { initial = x.1; streams = shifted s.initial x.1 s.streams }) (if x.0 == 3 then record s { most = Some x.1 } else s) refl
    (either (Whose s) (x.0 == 3) (record s { most = Some x.1 }) s refl refl)

role_all_settings : (f : Frame) (s : State) → Whose s (settings f s)
unfolding settings
role_all_settings f s =
    either (Whose s) (has f 1) s (reply (spelled 4 1 0 []) (after_settings s (settings_of f.payload))) refl
    (role_reply (spelled 4 1 0 []) (after_settings s (settings_of f.payload)) ∙ role_settings s (settings_of f.payload))

role_others : (f : Frame) (s : State) → Whose s (ping f s) × Whose s (goaway f s) × Whose s (window_update f s)
unfolding ping goaway window_update
role_others f s = (
  either (Whose s) (has f 1) s (reply (spelled 6 1 0 f.payload) s) refl (role_reply (spelled 6 1 0 f.payload) s),
  refl,
  either (Whose s) (f.stream == 0) (record s { send = s.send +ℤ pos (increment_of f.payload) }) (record s { streams = change s.streams f.stream (with_grant (increment_of f.payload)) }) refl refl,
)

role_effect : (s : State) (f : Frame) → Whose s (effect s f)
role_effect s f =
    by_kind (Whose s) s f (λ _. role_data f s (stream_at s.streams f.stream)) (role_block f s)
    (λ _. open_or (Whose s) (stream_at s.streams f.stream) s (λ st. reset_of f st s) refl (λ st. role_reset f st s)) (role_all_settings f s) (role_others f s).0 (role_others f s).1 (role_others f s).2 refl

pub role_frame : (s : State) (f : Frame) → (after_frame s f).role ≡ s.role
role_frame s f = by_failed s.failed refl
  where
    role_fails : (code : ℕ) → Whose s (fail code (without_blocks s))
    role_fails code = role_fail code (without_blocks s)

    by_verdict : s.failed ≡ None → (o : Option ℕ) → verdict s f ≡ o → Whose s (after_frame s f)
    by_verdict on (Some code) v = ap (λ (u : State). u.role) (after_frame-judged s f on ∙ ap (λ o. judged s f o) v) ∙ role_fails code
    by_verdict on None v = ap (λ (u : State). u.role) (after_frame-judged s f on ∙ ap (λ o. judged s f o) v) ∙ role_effect (record s { began = true }) f

    by_failed : (o : Option ℕ) → s.failed ≡ o → Whose s (after_frame s f)
    by_failed (Some code) e = ap (λ (u : State). u.role) (after_frame-failed s f code e)
    by_failed None e = by_verdict e (verdict s f) refl

-- ---- a block

known_fail : (code : ℕ) (s : State) → KnowsItsBlock (fail code (without_blocks s))
unfolding fail
known_fail code s client = tt

known_frame : (s : State) (f : Frame) → Holds s → KnowsItsBlock s → KnowsItsBlock (after_frame s f)
known_frame s f h known = by_failed s.failed refl
  where
    not_both : (b : Bool) → b ≡ true → b ≡ false → ⊥
    not_both b e g = cc

    by_role : s.failed ≡ None → verdict s f ≡ None → (c : Bool) → is_client s.role ≡ c → KnowsItsBlock (after_frame s f)
    by_role on v true client =
        (frames_keep_more s s f h h (own_steps_are_heard s h known).none on on v (λ e. absurd (not_both (is_client s.role) client e)) (λ e. absurd (not_both (is_client s.role) client e))).known
    by_role on v false server =
        λ client. absurd (not_both (is_client (after_frame s f).role) client
        (ap (λ (u : State). is_client u.role) (after_frame-judged s f on ∙ ap (λ o. judged s f o) v) ∙ (ap is_client (role_effect (record s { began = true }) f) ∙ server)))

    by_verdict : s.failed ≡ None → (o : Option ℕ) → verdict s f ≡ o → KnowsItsBlock (after_frame s f)
    by_verdict on (Some code) v = subst KnowsItsBlock (sym (after_frame-judged s f on ∙ ap (λ o. judged s f o) v)) (known_fail code s)
    by_verdict on None v = by_role on v (is_client s.role) refl

    by_failed : (o : Option ℕ) → s.failed ≡ o → KnowsItsBlock (after_frame s f)
    by_failed (Some code) e = subst KnowsItsBlock (sym (after_frame-failed s f code e)) known
    by_failed None e = by_verdict e (verdict s f) refl

-- ---- own steps

known_as : (s t : State) → KnowsItsBlock s → t.role ≡ s.role → t.block ≡ s.block → s.opened ≤ t.opened → KnowsItsBlock t
known_as s t known role block le client =
    subst (λ o. IfSome o (λ b. b.stream ≤ t.opened)) (sym block) (lift s.block (known (ap is_client (sym role) ∙ client)))
  where
    lift : (o : Option Block) → IfSome o (λ b. b.stream ≤ s.opened) → IfSome o (λ b. b.stream ≤ t.opened)
    lift None k = tt
    lift (Some b) k = omega (arith, k, le)

same_opened : (n : ℕ) → n ≤ n
same_opened n = omega arith

facts_reply : (frame : List ℕ) (s : State) → OwnFacts s → OwnFacts (reply frame s)
unfolding reply fail
facts_reply frame s o =
    either OwnFacts (nat_lt reply_limit (reply_bytes s.out + length frame)) (fail 11 s) (record s { out = put s.out true frame })
    (record { known = o.known; ended = o.ended }) (record { known = o.known; ended = o.ended })

facts_move : (s : State) (m : Move) → Rises 0 s.opened s.streams → OwnFacts s → OwnFacts (after_move s m)
unfolding after_move
facts_move s m r o = by_move m (stream_at s.streams (target m))
  where
    by_move : (k : Move) (x : Option Stream) → OwnFacts (made s k x)
    by_move GrantAll x = record { known = o.known; ended = o.ended }
    by_move (Grant k) None = o
    by_move (Grant k) (Some st) = record { known = o.known; ended = stops_all (change s.streams k granted) (stops_change s k granted (λ y. refl) (λ y q. q) o.ended) }
    by_move (Send k count) None = o
    by_move (Send k count) (Some st) = record { known = o.known; ended = stops_all (change s.streams k (sent_some count)) (stops_change s k (sent_some count) (λ y. refl) (λ y q. q) o.ended) }
    by_move (End k) None = o
    by_move (End k) (Some st) = record {
      known = o.known;
      ended = stops_all (on_stream k (own_ended (not (is_client s.role))) s).streams (stops_on s k (own_ended (not (is_client s.role))) r (λ y. refl) (λ y q e. refl) o.ended);
    }
    by_move (Stop k) None = o
    by_move (Stop k) (Some st) = record {
      known = o.known;
      ended = stops_all (on_stream k stopped s).streams (stops_on s k stopped r (λ y. refl) (λ y q e. absurd cc) o.ended);
    }

pub own_facts_begin : OwnFactsBegin
unfolding fresh_state stream_at
own_facts_begin role = record { known = λ client. tt; ended = λ n st e c. absurd cc }

pub own_facts_are_kept : OwnFactsAreKept
unfolding after_take after_begin after_queue after_finish after_answer after_reset after_took
own_facts_are_kept s h o =
    let r : Rises 0 s.opened s.streams = rises 0 s.opened s.streams h.rising in
    record {
      frame = λ f. record { known = known_frame s f h o.known; ended = stops_frame s f r o.ended };
      move = λ m. facts_move s m r o;
      take = λ n count. record { known = o.known; ended = stops_all (on_stream n (with_taken count) s).streams (stops_on s n (with_taken count) r (λ y. refl) (λ y q. q) o.ended) };
      took = λ count. record { known = o.known; ended = o.ended };
      begin = λ fields. record {
        known = known_as s (after_begin fields s) o.known refl refl next_above;
        ended = stops_all (s.streams ++ new_stream (next_number s) s ∷ [])
            (λ n. at_push Stops s.streams n (new_stream (next_number s) s) (λ e c. absurd cc) (stops_at s n o.ended));
      };
      queue = λ n bytes. record { known = o.known; ended = stops_all (change s.streams n (with_queued bytes)) (stops_change s n (with_queued bytes) (λ y. refl) (λ y q. q) o.ended) };
      finish = λ n trailers. record { known = o.known; ended = stops_all (change s.streams n (with_finish trailers)) (stops_change s n (with_finish trailers) (λ y. refl) (λ y q. q) o.ended) };
      answer = λ n fields.
          let f : Stream → Stream = λ st. record st { answered = true } in
          facts_reply (headers_frames n 0 (block_of s.encoder fields)) (record s { streams = change s.streams n f; encoder = true })
          (record { known = o.known; ended = stops_all (change s.streams n f) (stops_change s n f (λ y. refl) (λ y q. q) o.ended) });
      reset = λ n code. facts_reply (reset_frame n code) (on_stream n shut s)
          (record { known = o.known; ended = stops_all (on_stream n shut s).streams (stops_on s n shut r (λ y. refl) (λ y q e. absurd cc) o.ended) });
    }
  where
    next_above : s.opened ≤ next_number s
    next_above = by_first (s.opened == 0) refl
      where
        by_first : (b : Bool) → (s.opened == 0) ≡ b → s.opened ≤ (if b then 1 else s.opened + 2)
        by_first true e = omega (arith, eqb-true s.opened 0 e)
        by_first false e = omega arith
