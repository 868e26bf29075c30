-- A new client's end and a new server's face each other.
use Rattle.std.proofs.Common.{◌≡◌, ◌≢◌, inl, inr, ◌≤◌, ◌+◌, ◌-◌, ℤ, pos, ◌+ℤ◌, ℕ, Bool, true, false, not, nat_lt, length, List, [], ◌∷◌, ◌++◌, Option, Some, None, refl, sym, ap, ◌∙◌, subst, arith, if◌then◌else◌}
use Rattle.std.specs.Prelude.{◌==◌}
use Rattle.std.specs.Int.{to_be_bytes, w32}
use Rattle.std.specs.List.{AllByRecursion}
use Rattle.std.proofs.lemmas.Int.{ints}
use Rattle.std.proofs.lemmas.Bool.{ne_eqb}
use Rattle.kn_frames.specs.declared.frame.Frame.{Frame}
use Rattle.kn_frames.specs.Frames.{spelled, IsWithinLimits}
use Rattle.kn_h2_state.specs.declared.role.Role.{Role}
use Rattle.kn_h2_state.specs.declared.role.Role.TheVariants.{Server, Client}
use Rattle.kn_h2_state.specs.declared.stream.Stream.{Stream}
use Rattle.kn_h2_state.specs.declared.state.State.{State}
use Rattle.kn_windows.specs.Windows.{can_grow}
use Rattle.kn_h2_state.specs.InStep.{IsInStep}
use Rattle.kn_h2_state.specs.Limits.{default_window, connection_window, stream_limit, list_limit, reply_limit}
use Rattle.kn_h2_state.specs.Outgoing.{nothing_out, put, reply_bytes}
use Rattle.kn_h2_state.specs.Payloads.{setting_text, settings_of, increment_of}
use Rattle.kn_h2_state.specs.Streams.{stream_at}
use Rattle.kn_h2_state.specs.Rules.{is_client, shifted, verdict}
use Rattle.kn_h2_state.specs.Effects.{reply, fail, after_setting, after_settings, settings, window_update, effect}
use Rattle.kn_h2_state.specs.Feeding.{judged, after_frame, after_frames}
use Rattle.kn_h2_state.specs.Calls.{opening, fresh_state}
use Rattle.kn_h2_state.specs.Holding.{Holds}
use Rattle.kn_h2_state.specs.Preorder.{OwnFactsBegin}
use Rattle.kn_h2_state.specs.Wire.{frame, frame_grant, grants_in, data_length, data_lengths_in}
use Rattle.kn_h2_state.proofs.OtherLaws.{either}
use Rattle.kn_h2_state.proofs.PieceLaws.{after_frame-judged}
use Rattle.kn_h2.proofs.ConnBounds.{holds_fresh}
use Rattle.kn_h2.proofs.HoldsLemmas.{replies_same}
use Rattle.kn_h2.proofs.WrittenLemmas.{opening_is_written}
use Rattle.kn_facing.specs.Facing.{emptied, IsPlain, AreTaken, asks, asking}
use Rattle.kn_facing.specs.Sums.{StreamSum}
use Rattle.kn_facing.specs.Faces.{all_lengths, IsEnd, IsSound, FacesBegin}
use Rattle.kn_facing.specs.Taken.{IsListening}
use Rattle.kn_facing.proofs.CarryLemmas.{holds_emptied, none_waits}
use Rattle.kn_facing.proofs.RoomLemmas.{most, few_replies, Keeps}
use Rattle.kn_facing.proofs.UnendedLemmas.{no_end, one_goes_on}
use Rattle.kn_facing.proofs.TakenLemmas.{client_settings_are_taken, server_settings_are_taken, grant_is_taken}

-- ---- an end without streams reads an opening

record Bare (t : State) : Type 0 where
  block : t.block ≡ None
  opened : t.opened ≡ 0
  streams : t.streams ≡ []
  send : t.send ≡ pos default_window

bare_setting : (t : State) (x : ℕ × ℕ) → Bare t → Bare (after_setting t x)
unfolding after_setting
bare_setting t x h =
    either Bare (x.0 == 4) (record t { initial = x.1; streams = shifted t.initial x.1 t.streams }) (if x.0 == 3 then record t { most = Some x.1 } else t)
    (record { block = h.block; opened = h.opened; streams = ap (λ (ss : List Stream). shifted t.initial x.1 ss) h.streams; send = h.send })
    (either Bare (x.0 == 3) (record t { most = Some x.1 }) t (record { block = h.block; opened = h.opened; streams = h.streams; send = h.send }) h)

bare_settings : (t : State) (xs : List (ℕ × ℕ)) → Bare t → Bare (after_settings t xs)
unfolding after_settings
bare_settings t [] h = h
bare_settings t (x ∷ xs) h = bare_settings (after_setting t x) xs (bare_setting t x h)

bare_reply : (t : State) (bytes : List ℕ) → Bare t → Bare (reply bytes t)
unfolding reply fail
bare_reply t bytes h =
    either Bare (nat_lt reply_limit (reply_bytes t.out + length bytes)) (fail 11 t) (record t { out = put t.out true bytes })
    (record { block = h.block; opened = h.opened; streams = h.streams; send = h.send }) (record { block = h.block; opened = h.opened; streams = h.streams; send = h.send })

abbrev first_frame : List ℕ → Frame
first_frame payload = frame 4 0 0 payload

bare_first : (t : State) (payload : List ℕ) → Bare t → Bare (effect t (first_frame payload))
unfolding effect settings
bare_first t payload h = bare_reply (after_settings t (settings_of payload)) (spelled 4 1 0 []) (bare_settings t (settings_of payload) h)

began_settings : (t : State) (xs : List (ℕ × ℕ)) → t.began ≡ true → (after_settings t xs).began ≡ true
unfolding after_settings after_setting
began_settings t [] e = e
began_settings t (x ∷ xs) e =
    began_settings (after_setting t x) xs
    (either (λ u. u.began ≡ true) (x.0 == 4) (record t { initial = x.1; streams = shifted t.initial x.1 t.streams }) (if x.0 == 3 then record t { most = Some x.1 } else t) e
    (either (λ u. u.began ≡ true) (x.0 == 3) (record t { most = Some x.1 }) t e e))

began_reply : (t : State) (bytes : List ℕ) → t.began ≡ true → (reply bytes t).began ≡ true
unfolding reply fail
began_reply t bytes e = either (λ u. u.began ≡ true) (nat_lt reply_limit (reply_bytes t.out + length bytes)) (fail 11 t) (record t { out = put t.out true bytes }) e e

began_first : (t : State) (payload : List ℕ) → t.began ≡ true → (effect t (first_frame payload)).began ≡ true
unfolding effect settings
began_first t payload e = began_reply (after_settings t (settings_of payload)) (spelled 4 1 0 []) (began_settings t (settings_of payload) e)

-- the grant with which both ends begin
abbrev raise : ℕ
raise = connection_window - default_window

abbrev grant : Frame
grant = frame 8 0 0 (to_be_bytes w32 raise)

record Begun (t : State) (payload : List ℕ) : Type 0 where
  taken : AreTaken t (first_frame payload ∷ grant ∷ [])
  began : (after_frames t (first_frame payload ∷ grant ∷ [])).began ≡ true
  block : (after_frames t (first_frame payload ∷ grant ∷ [])).block ≡ None
  opened : (after_frames t (first_frame payload ∷ grant ∷ [])).opened ≡ 0
  streams : (after_frames t (first_frame payload ∷ grant ∷ [])).streams ≡ []

grant_plain : IsPlain grant
grant_plain = record { whole = refl; silent = refl; windows = λ e. absurd cc }

begun : Keeps → (t : State) (payload : List ℕ) → Holds t → t.failed ≡ None → Bare t → reply_bytes t.out + 17 ≤ reply_limit → IsWithinLimits (first_frame payload)
    → verdict t (first_frame payload) ≡ None → IsPlain (first_frame payload) → Begun t payload
unfolding AreTaken after_frames effect window_update
begun keep t payload holds on bare room limits v plain = record {
  taken = (record { kept = v; plain = plain; head = λ e. absurd cc }, (record { kept = second; plain = grant_plain; head = λ e. absurd cc }, tt));
  began = ap (λ (u : State). u.began) to_last;
  block = ap (λ (u : State). u.block) to_last ∙ next.block;
  opened = ap (λ (u : State). u.opened) to_last ∙ next.opened;
  streams = ap (λ (u : State). u.streams) to_last ∙ next.streams;
}
  where
    one : State
    one = after_frame t (first_frame payload)

    to_one : one ≡ effect (record t { began = true }) (first_frame payload)
    to_one = after_frame-judged t (first_frame payload) on ∙ ap (λ o. judged t (first_frame payload) o) v

    next : Bare one
    next = subst Bare (sym to_one) (bare_first (record t { began = true }) payload (record { block = bare.block; opened = bare.opened; streams = bare.streams; send = bare.send }))

    goes : one.failed ≡ None
    goes = (few_replies t (first_frame payload) on v (at_most (asks (first_frame payload)))).goes
      where
        at_most : (b : Bool) → reply_bytes t.out + most b ≤ reply_limit
        at_most true = omega (arith, room)
        at_most false = omega (arith, room)

    listens : IsListening one
    listens = record { began = ap (λ (u : State). u.began) to_one ∙ began_first (record t { began = true }) payload refl; block = next.block }

    second : verdict one grant ≡ None
    second = grant_is_taken one raise (keep t (first_frame payload) holds limits) listens (omega arith) (omega arith) (ap (λ (z : ℤ). can_grow z (pos raise)) next.send)

    to_last : after_frame one grant ≡ record one { began = true; send = one.send +ℤ pos (increment_of (to_be_bytes w32 raise)) }
    to_last = after_frame-judged one grant goes ∙ ap (λ o. judged one grant o) second

-- ---- each of the two ways

no_stream : (s : State) (n : ℕ) (st : Stream) → s.streams ≡ [] → stream_at s.streams n ≡ Some st → ⊥
unfolding stream_at
no_stream s n st none at = let e : stream_at s.streams n ≡ None = ap (λ (ss : List Stream). stream_at ss n) none in contrary (stream_at s.streams n) e at
  where
    contrary : (o : Option Stream) → o ≡ None → o ≡ Some st → ⊥
    contrary o a b = cc

-- an end that has just begun
record New (s : State) : Type 0 where
  still : IsEnd s
  bare : Bare s
  encoder : s.encoder ≡ false
  quiet : reply_bytes s.out ≡ 0

no_replies : (role : Role) → reply_bytes (fresh_state role).out ≡ 0
unfolding fresh_state
no_replies role = replies_same nothing_out (opening role) ∙ none_waits

new : OwnFactsBegin → (role : Role) → New (fresh_state role)
unfolding fresh_state stream_at
new facts role = record {
  still = record { holds = holds_fresh role; facts = facts role; goes = refl; initial = refl; one = omega arith; first = λ server n st at. absurd cc };
  bare = record { block = refl; opened = refl; streams = refl; send = refl };
  encoder = refl;
  quiet = no_replies role;
}

sound : (t s : State) (payload : List ℕ) → New t → New s → AllByRecursion IsWithinLimits (first_frame payload ∷ grant ∷ []) → Begun (emptied t) payload → IsSound t (first_frame payload ∷ grant ∷ []) s
unfolding asking
sound t s payload new_t new_s limits b = record {
  limits = limits;
  taken = b.taken;
  followed = record {
    began = b.began;
    block = b.block;
    decoder = subst (λ (w : Bool). IsInStep w ahead.decoder) (sym new_s.encoder) tt;
    halves = λ n a c at own at_t up. absurd (no_stream s n a new_s.bare.streams at);
    heads = λ client n a c at at_t up. absurd (no_stream s n a new_s.bare.streams at);
    opened = λ client. b.opened ∙ sym new_s.bare.opened;
    begun = λ client. let none = new_s.bare.opened in omega (arith, none);
  };
  awaits = λ client n c low at up. absurd (no_stream ahead n c b.streams at);
  replies = let none = new_t.quiet in omega (arith, none);
  ends = λ n g. no_end n (first_frame payload ∷ []) (grant ∷ []) (one_goes_on n (first_frame payload) refl) (one_goes_on n grant refl);
}
  where
    ahead : State
    ahead = after_frames (emptied t) (first_frame payload ∷ grant ∷ [])

-- ---- windows

no_text : (n : ℕ) (payload : List ℕ) → data_lengths_in n (first_frame payload ∷ grant ∷ []) ≡ 0
unfolding data_lengths_in data_length
no_text n payload = refl

no_grant : (n : ℕ) (payload : List ℕ) → n ≢ 0 → grants_in n (first_frame payload ∷ grant ∷ []) ≡ 0
unfolding grants_in frame_grant
no_grant n payload some = ap (λ (b : Bool). 0 + ((if b then increment_of (to_be_bytes w32 raise) else 0) + 0)) (ne_eqb 0 n (λ e. some (sym e)))

start_sum : (s t : State) (p q : List ℕ) (n : ℕ) → New s → New t → StreamSum n s (first_frame p ∷ grant ∷ []) t (first_frame q ∷ grant ∷ [])
start_sum s t p q n new_s new_t x y (inl (a, at, up, is)) come = absurd (no_stream s n a new_s.bare.streams at)
start_sum s t p q n new_s new_t x y (inr (low, is)) (inl (b, at, up, that)) = absurd (no_stream t n b new_t.bare.streams at)
start_sum s t p q n new_s new_t x y (inr (low, is)) (inr (above, that)) =
    let text = no_text n p in
    let none = no_grant n q (λ e. absurd (omega (arith, e, low))) in
    omega (arith, ints, text, none, is, that)

start_all : (s t : State) (p q : List ℕ) → New s → t.receive ≡ pos connection_window → (s.send +ℤ pos (all_lengths (first_frame p ∷ grant ∷ []) + grants_in 0 (first_frame q ∷ grant ∷ []))) ≡ t.receive
unfolding all_lengths grants_in frame_grant increment_of
start_all s t p q new_s room = ap (λ (z : ℤ). z +ℤ pos (0 + raise)) new_s.bare.send ∙ sym room

-- ---- both ends

room_of : (role : Role) → (fresh_state role).receive ≡ pos connection_window
unfolding fresh_state
room_of role = refl

role_of : (role : Role) → (fresh_state role).role ≡ role
unfolding fresh_state
role_of role = refl

begin_end : OwnFactsBegin → Keeps → (role : Role) (payload : List ℕ) → IsWithinLimits (first_frame payload) → verdict (emptied (fresh_state role)) (first_frame payload) ≡ None → IsPlain (first_frame payload)
    → Begun (emptied (fresh_state role)) payload
begin_end facts keep role payload limits v plain =
    let n = new facts role in
    begun keep (emptied (fresh_state role)) payload (holds_emptied (fresh_state role) n.still.holds) n.still.goes (record { block = n.bare.block; opened = n.bare.opened; streams = n.bare.streams; send = n.bare.send })
    (let none = none_waits in omega (arith, none)) limits v plain

abbrev client_settings : List ℕ
client_settings = setting_text 2 0 ++ setting_text 6 list_limit

abbrev server_settings : List ℕ
server_settings = setting_text 3 stream_limit ++ setting_text 6 list_limit

client_plain : IsPlain (first_frame client_settings)
unfolding settings_of
client_plain = record { whole = refl; silent = refl; windows = λ e. (refl, (refl, tt)) }

server_plain : IsPlain (first_frame server_settings)
unfolding settings_of
server_plain = record { whole = refl; silent = refl; windows = λ e. (refl, (refl, tt)) }

pub faces_begin : OwnFactsBegin → Keeps → FacesBegin
faces_begin facts keep = record {
  other = ap is_client (role_of Server) ∙ sym (ap (λ r. not (is_client r)) (role_of Client));
  end_a = client.still;
  end_b = server.still;
  to_b = sound (fresh_state Server) (fresh_state Client) client_settings server client (opening_is_written Client).limits
      (begin_end facts keep Server client_settings (opening_is_written Client).limits.0 (client_settings_are_taken (emptied (fresh_state Server)) server.bare.block) client_plain);
  to_a = sound (fresh_state Client) (fresh_state Server) server_settings client server (opening_is_written Server).limits
      (begin_end facts keep Client server_settings (opening_is_written Server).limits.0 (server_settings_are_taken (emptied (fresh_state Client)) client.bare.block) server_plain);
  sum_ab = λ n. start_sum (fresh_state Client) (fresh_state Server) client_settings server_settings n client server;
  sum_ba = λ n. start_sum (fresh_state Server) (fresh_state Client) server_settings client_settings n server client;
  all_ab = start_all (fresh_state Client) (fresh_state Server) client_settings server_settings client (room_of Server);
  all_ba = start_all (fresh_state Server) (fresh_state Client) server_settings client_settings server (room_of Client);
}
  where
    client : New (fresh_state Client)
    client = new facts Client

    server : New (fresh_state Server)
    server = new facts Server
