-- Frames of ours break no rule.
use Rattle.std.proofs.Common.{◌≡◌, ◌-◌, ◌<◌, ◌≤◌, ◌%◌, ◌&&◌, ◌||◌, ℕ, Bool, true, false, not, nat_lt, length, List, take, Option, Some, None, refl, ap, ◌∙◌, arith, eqb}
use Rattle.std.specs.Int.{to_be_bytes, w32}
use Rattle.std.proofs.lemmas.Bool.{ltb-true, eqb-true}
use Rattle.std.proofs.lemmas.Nat.{from_be_bytes-to_be_bytes_4}
use Rattle.std.proofs.lemmas.List.{take_all}
use Rattle.kn_h2_state.specs.declared.stream.Stream.{Stream}
use Rattle.kn_h2_state.specs.Limits.{block_limit}
use Rattle.kn_h2_state.specs.Payloads.{content, increment_of, settings_of}
use Rattle.kn_h2_state.specs.Streams.{is_open, on_open, passes, stream_at}
use Rattle.kn_h2_state.specs.Rules.{is_client, first_broken, frame_rules, window_rules, stream_rules, block_rules, breaks_windows, verdict}
use Rattle.kn_h2_state.specs.Wire.{frame}
use Rattle.kn_h2_state.proofs.SeenLemmas.{climbs, none_below}
use Rattle.kn_facing.specs.Taken.{DataIsTaken, LastDataIsTaken, RequestIsTaken, ResponseIsTaken, TrailersAreTaken, ResetIsTaken, GrantIsTaken, StreamGrantIsTaken, ClientSettingsAreTaken, ServerSettingsAreTaken, AcknowledgementIsTaken}

-- ---- tests that do not hold

none_under : (x : ℕ) → nat_lt x 0 ≡ false
none_under x = by_test (nat_lt x 0) refl
  where
    by_test : (b : Bool) → nat_lt x 0 ≡ b → b ≡ false
    by_test false e = refl
    by_test true e = let below : x < 0 = ltb-true x 0 e in absurd (omega (arith, below))

not_over : (x y : ℕ) → y ≤ x → nat_lt x y ≡ false
not_over x y le = by_test (nat_lt x y) refl
  where
    by_test : (b : Bool) → nat_lt x y ≡ b → b ≡ false
    by_test false e = refl
    by_test true e = let below : x < y = ltb-true x y e in absurd (omega (arith, below, le))

not_none : (x : ℕ) → 0 < x → eqb x 0 ≡ false
not_none x low = by_test (eqb x 0) refl
  where
    by_test : (b : Bool) → eqb x 0 ≡ b → b ≡ false
    by_test false e = refl
    by_test true e = let zero : x ≡ 0 = eqb-true x 0 e in absurd (omega (arith, zero, low))

none_and : (b : Bool) → (b && false) ≡ false
none_and true = refl
none_and false = refl

-- no stream that is not open passes a test
none_open : (p : Stream → Bool) (o : Option Stream) → passes (λ st. true) o ≡ false → passes p o ≡ false
none_open p None h = refl
none_open p (Some st) h = by (is_open st) h
  where
    by : (b : Bool) → (b && true) ≡ false → (b && p st) ≡ false
    by true e = absurd cc
    by false e = refl

-- ---- text

pub data_is_taken : DataIsTaken
unfolding verdict first_broken frame_rules window_rules stream_rules block_rules
data_is_taken t n payload h = rw (h.listens.began, h.listens.block, h.number, h.known, h.all, h.one, h.half, h.head, none_under (length payload)) refl

pub last_data_is_taken : LastDataIsTaken
unfolding verdict first_broken frame_rules window_rules stream_rules block_rules
last_data_is_taken t n payload h = rw (h.listens.began, h.listens.block, h.number, h.known, h.all, h.one, h.half, h.head, none_under (length payload)) refl

-- ---- heads

less_none : (k : ℕ) → (k - 0) - 0 ≡ k
less_none k = omega arith

-- HEADERS without padding are all content
pub content_is : (n : ℕ) (payload : List ℕ) → content (frame 1 4 n payload) ≡ payload
unfolding content
content_is n payload = ap (λ k. take k payload) (less_none (length payload)) ∙ take_all (length payload) payload (omega arith)

pub content_last : (n : ℕ) (payload : List ℕ) → content (frame 1 5 n payload) ≡ payload
unfolding content
content_last n payload = ap (λ k. take k payload) (less_none (length payload)) ∙ take_all (length payload) payload (omega arith)

odd_zero : (n : ℕ) → n ≡ 0 → eqb (n % 2) 0 ≡ false → ⊥
odd_zero n e odd = let zero : n % 2 ≡ 0 = omega (arith, e) in absurd (cc)

odd_number : (n : ℕ) → eqb (n % 2) 0 ≡ false → eqb n 0 ≡ false
odd_number n odd = by_test (eqb n 0) refl
  where
    by_test : (b : Bool) → eqb n 0 ≡ b → b ≡ false
    by_test false e = refl
    by_test true e = absurd (odd_zero n (eqb-true n 0 e) odd)

pub request_is_taken : RequestIsTaken
unfolding verdict first_broken frame_rules window_rules stream_rules block_rules
request_is_taken t n payload h =
    let b = h.block in
    let half : on_open t.streams n (λ st. not st.peer_open) ≡ false = none_open (λ st. not st.peer_open) (stream_at t.streams n) h.once in
    let second : on_open t.streams n (λ st. not (is_client t.role) || st.answered) ≡ false = none_open (λ st. not (is_client t.role) || st.answered) (stream_at t.streams n) h.once in
    rw (b.listens.began, b.listens.block, odd_number n b.odd, b.odd, half, second, h.server, content_is n payload, not_over block_limit (length payload) b.small, b.reads, none_under (length payload)) refl

pub response_is_taken : ResponseIsTaken
unfolding verdict first_broken frame_rules window_rules stream_rules block_rules
response_is_taken t n payload h client first =
    let b = h.block in
    rw (client, b.listens.began, b.listens.block, h.known, odd_number n b.odd, b.odd, h.half, first, content_is n payload, not_over block_limit (length payload) b.small, b.reads, none_under (length payload)) refl

pub trailers_are_taken : TrailersAreTaken
unfolding verdict first_broken frame_rules window_rules stream_rules block_rules
trailers_are_taken t n payload h =
    let b = h.block in
    rw (b.listens.began, b.listens.block, h.known, none_and (is_client t.role), odd_number n b.odd, b.odd, h.half, content_last n payload, not_over block_limit (length payload) b.small, b.reads, none_under (length payload)) refl

-- ---- resets

pub reset_is_taken : ResetIsTaken
unfolding verdict first_broken frame_rules window_rules stream_rules block_rules
reset_is_taken t n code listens number known = rw (listens.began, listens.block, number, known) refl

-- ---- windows

increment_is : (x : ℕ) → x ≤ 2147483647 → increment_of (to_be_bytes w32 x) ≡ x
unfolding increment_of
increment_is x low = let e = from_be_bytes-to_be_bytes_4 x (omega arith) in ap (λ k. k % 2147483648) e ∙ omega arith

pub grant_is_taken : GrantIsTaken
unfolding verdict first_broken frame_rules window_rules stream_rules block_rules
grant_is_taken t by holds listens some low grows =
    let none : stream_at t.streams 0 ≡ None = none_below 0 0 t.streams (omega arith) (climbs 0 t.opened t.streams holds.rising) in
    rw (listens.began, listens.block, increment_is by low, not_none by some, grows, none) refl

pub stream_grant_is_taken : StreamGrantIsTaken
unfolding verdict first_broken frame_rules window_rules stream_rules block_rules
stream_grant_is_taken t n by listens number known some low grows =
    rw (listens.began, listens.block, number, known, increment_is by low, not_none by some, grows) refl

-- ---- settings

pub client_settings_are_taken : ClientSettingsAreTaken
unfolding verdict first_broken frame_rules window_rules stream_rules block_rules settings_of breaks_windows
client_settings_are_taken t block = rw (block, none_and (not t.began), none_and (is_client t.role)) refl

pub server_settings_are_taken : ServerSettingsAreTaken
unfolding verdict first_broken frame_rules window_rules stream_rules block_rules settings_of breaks_windows
server_settings_are_taken t block = rw (block, none_and (not t.began)) refl

pub acknowledgement_is_taken : AcknowledgementIsTaken
unfolding verdict first_broken frame_rules window_rules stream_rules block_rules settings_of breaks_windows
acknowledgement_is_taken t listens = rw (listens.began, listens.block) refl
