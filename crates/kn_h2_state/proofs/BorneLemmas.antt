-- What is true of a stream before a frame, and through each change that frames make, is true after it; and the
-- numbers of the streams go on to rise.
use Rattle.std.proofs.Common.{◌≡◌, ◌⊎◌, inl, inr, ℕ, ◌<◌, ◌≤◌, ◌+◌, ◌+ℤ◌, pos, Bool, true, false, not, cond, eqb, ◌&&◌, ◌||◌, nat_lt, nat_le, List, [], ◌∷◌, ◌++◌, length, map, Option, Some, None, is_some, Result, Ok, Err, refl, sym, ap, ◌∙◌, subst, append-nil, append_assoc, arith, if◌then◌else◌}
use Rattle.std.specs.Bool.{◌==◌}
use Rattle.std.specs.List.{AllByRecursion}
use Rattle.std.proofs.lemmas.Bool.{eqb-true, ne_eqb, ltb-true}
use Rattle.kn_frames.specs.declared.frame.Frame.{Frame}
use Rattle.kn_frames.specs.Frames.{spelled}
use Rattle.kn_hpack.specs.Fields.{Field}
use Rattle.kn_hpack.specs.Blocks.{Progress, read_block}
use Rattle.kn_hpack.specs.declared.fault.HpackFault.{HpackFault}
use Rattle.kn_h2_state.specs.declared.event.H2Event.{H2Event}
use Rattle.kn_h2_state.specs.declared.event.H2Event.TheVariants.{Opened, Head, Text, Ended, Reset, Away, Closed}
use Rattle.kn_h2_state.specs.declared.stream.Stream.{Stream}
use Rattle.kn_h2_state.specs.declared.state.State.{State}
use Rattle.kn_h2_state.specs.Limits.{reply_limit, stream_limit}
use Rattle.kn_h2_state.specs.Outgoing.{put, reply_bytes}
use Rattle.kn_h2_state.specs.Streams.{stream_at, change, is_open, is_kept, tidied, open_count, shut}
use Rattle.kn_h2_state.specs.Payloads.{has, content, number_at, increment_of, settings_of, reset_frame}
use Rattle.kn_h2_state.specs.Heads.{is_malformed_request, is_malformed_response, is_informational}
use Rattle.kn_h2_state.specs.Rules.{is_client, block_with, ends_block, shifted, shifted_one, verdict}
use Rattle.kn_h2_state.specs.Effects.{event, fail, reply, on_stream, peer_ends, if_open, with_text, data_taken, text_told, ended_if, data_in, data_dropped, data_of, new_stream, opens, accepted, request, headed, refused_response, response, head_of, decoded, block_ends, block_grown, block_of_headers, cut_off, reset_of, after_setting, after_settings, settings, ping, goaway, with_grant, window_update, effect}
use Rattle.kn_h2_state.specs.Feeding.{without_blocks, judged, after_frame}
use Rattle.kn_h2_state.specs.Holding.{Rising}
use Rattle.kn_h2_state.specs.Opening.{OpensWithin}
use Rattle.kn_h2_state.proofs.SeenLemmas.{KeepsNumber, Climbs, climbs_tidied, none_below}
use Rattle.kn_h2_state.proofs.OtherLaws.{either, open_or, shifted_number}

-- ---- numbers that rise

-- the numbers rise, from above the one number and up to the other
unfoldable pub Rises : ℕ → ℕ → List Stream → Type 0
Rises low high [] = low ≤ high
Rises low high (x ∷ ss) = (low < x.number) × Rises x.number high ss

pub rises : (low high : ℕ) (ss : List Stream) → Rising low high ss → Rises low high ss
unfolding Rising Rises
rises low high [] r = r
rises low high (x ∷ ss) r = (r.0, rises x.number high ss r.2)

pub climbing : (low high : ℕ) (ss : List Stream) → Rises low high ss → Climbs low ss
unfolding Rises Climbs
climbing low high [] r = tt
climbing low high (x ∷ ss) r = (r.0, climbing x.number high ss r.1)

rises_lower : (low low' high : ℕ) (ss : List Stream) → low ≤ low' → Rises low' high ss → Rises low high ss
unfolding Rises
rises_lower low low' high [] le r = omega (arith, le, r)
rises_lower low low' high (x ∷ ss) le r = let a : low < x.number = omega (arith, le, r.0) in (a, r.1)

pub rises_raise : (low high high' : ℕ) (ss : List Stream) → high ≤ high' → Rises low high ss → Rises low high' ss
unfolding Rises
rises_raise low high high' [] le r = omega (arith, le, r)
rises_raise low high high' (x ∷ ss) le r = (r.0, rises_raise x.number high high' ss le r.1)

pub rises_change : (low high : ℕ) (ss : List Stream) (n : ℕ) (f : Stream → Stream) → KeepsNumber f → Rises low high ss → Rises low high (change ss n f)
unfolding change Rises
rises_change low high [] n f keeps r = r
rises_change low high (x ∷ ss) n f keeps r = by_test (eqb x.number n) (rises_change x.number high ss n f keeps r.1)
  where
    by_test : (b : Bool) → Rises x.number high (change ss n f) → Rises low high (cond b (f x ∷ ss) (x ∷ change ss n f))
    by_test true rest = subst (λ k. (low < k) × Rises k high ss) (sym (keeps x)) r
    by_test false rest = (r.0, rest)

pub rises_tidied : (low high : ℕ) (ss : List Stream) → Rises low high ss → Rises low high (tidied ss)
unfolding Rises
rises_tidied low high [] r = r
rises_tidied low high (x ∷ ss) r = by_test (is_kept x) (rises_tidied x.number high ss r.1)
  where
    by_test : (b : Bool) → Rises x.number high (tidied ss) → Rises low high (cond b (x ∷ tidied ss) (tidied ss))
    by_test true rest = (r.0, rest)
    by_test false rest = let le : low ≤ x.number = omega (arith, r.0) in rises_lower low x.number high (tidied ss) le rest

pub rises_map : (low high : ℕ) (ss : List Stream) (f : Stream → Stream) → KeepsNumber f → Rises low high ss → Rises low high (map f ss)
unfolding Rises
rises_map low high [] f keeps r = r
rises_map low high (x ∷ ss) f keeps r = subst (λ k. (low < k) × Rises k high (map f ss)) (sym (keeps x)) (r.0, rises_map x.number high ss f keeps r.1)

pub rises_push : (low high : ℕ) (ss : List Stream) (w : Stream) → Rises low high ss → high < w.number → Rises low w.number (ss ++ w ∷ [])
unfolding Rises
rises_push low high [] w r above = let a : low < w.number = omega (arith, r, above) in let b : w.number ≤ w.number = omega arith in (a, b)
rises_push low high (x ∷ ss) w r above = (r.0, rises_push x.number high ss w r.1 above)

-- there is no stream above the highest
pub none_above : (low high n : ℕ) (ss : List Stream) → Rises low high ss → high < n → stream_at ss n ≡ None
unfolding stream_at Rises
none_above low high n [] r above = refl
none_above low high n (x ∷ ss) r above =
    let apart : eqb x.number n ≡ false = ne_eqb x.number n (λ e. absurd (omega (arith, bound x.number high ss r.1, above, e))) in
    ap (λ b. cond b (Some x) (stream_at ss n)) apart ∙ none_above x.number high n ss r.1 above
  where
    bound : (k h : ℕ) (rest : List Stream) → Rises k h rest → k ≤ h
    bound k h [] t = t
    bound k h (y ∷ rest) t = omega (arith, t.0, bound y.number h rest t.1)

-- ---- what is true of one stream

pub at_change : (Q : Option Stream → Type 0) (ss : List Stream) (m n : ℕ) (f : Stream → Stream) → KeepsNumber f → ((st : Stream) → Q (Some st) → Q (Some (f st)))
    → Q (stream_at ss n) → Q (stream_at (change ss m f) n)
unfolding stream_at change
at_change Q [] m n f keeps step q = q
at_change Q (x ∷ ss) m n f keeps step q = by_test (eqb x.number m) (eqb x.number n) (at_change Q ss m n f keeps step) q
  where
    at_head : (c : Bool) → Q (cond c (Some x) (stream_at ss n)) → Q (cond c (Some (f x)) (stream_at ss n))
    at_head true h = step x h
    at_head false h = h

    at_tail : (c : Bool) → (Q (stream_at ss n) → Q (stream_at (change ss m f) n)) → Q (cond c (Some x) (stream_at ss n)) → Q (cond c (Some x) (stream_at (change ss m f) n))
    at_tail true rest h = h
    at_tail false rest h = rest h

    by_test : (b c : Bool) → (Q (stream_at ss n) → Q (stream_at (change ss m f) n)) → Q (cond (eqb x.number n) (Some x) (stream_at ss n))
        → Q (stream_at (cond b (f x ∷ ss) (x ∷ change ss m f)) n)
    by_test true c rest h = subst (λ k. Q (cond (eqb k n) (Some (f x)) (stream_at ss n))) (sym (keeps x)) (at_head (eqb x.number n) h)
    by_test false c rest h = at_tail (eqb x.number n) rest h

pub at_tidied : (Q : Option Stream → Type 0) (low n : ℕ) (ss : List Stream) → ((st : Stream) → is_kept st ≡ false → Q (Some st) → Q None) → Climbs low ss
    → Q (stream_at ss n) → Q (stream_at (tidied ss) n)
unfolding stream_at Climbs
at_tidied Q low n [] gone r q = q
at_tidied Q low n (x ∷ ss) gone r q = by_test (is_kept x) refl (eqb x.number n) refl (at_tidied Q x.number n ss gone r.1) q
  where
    by_test : (kept : Bool) → is_kept x ≡ kept → (b : Bool) → eqb x.number n ≡ b → (Q (stream_at ss n) → Q (stream_at (tidied ss) n))
        → Q (cond b (Some x) (stream_at ss n)) → Q (stream_at (cond kept (x ∷ tidied ss) (tidied ss)) n)
    by_test true k b t rest h = subst (λ c. Q (cond c (Some x) (stream_at (tidied ss) n))) (sym t) (at_tail b rest h)
      where
        at_tail : (c : Bool) → (Q (stream_at ss n) → Q (stream_at (tidied ss) n)) → Q (cond c (Some x) (stream_at ss n)) → Q (cond c (Some x) (stream_at (tidied ss) n))
        at_tail true rest' h' = h'
        at_tail false rest' h' = rest' h'
    by_test false k true t rest h =
        let le : n ≤ x.number = omega (arith, eqb-true x.number n t) in
        subst Q (sym (none_below x.number n (tidied ss) le (climbs_tidied x.number ss r.1))) (gone x k h)
    by_test false k false t rest h = rest h

at_map : (Q : Option Stream → Type 0) (ss : List Stream) (n : ℕ) (f : Stream → Stream) → KeepsNumber f → ((st : Stream) → Q (Some st) → Q (Some (f st)))
    → Q (stream_at ss n) → Q (stream_at (map f ss) n)
unfolding stream_at
at_map Q [] n f keeps step q = q
at_map Q (x ∷ ss) n f keeps step q = subst (λ k. Q (cond (eqb k n) (Some (f x)) (stream_at (map f ss) n))) (sym (keeps x)) (by_test (eqb x.number n) (at_map Q ss n f keeps step) q)
  where
    by_test : (b : Bool) → (Q (stream_at ss n) → Q (stream_at (map f ss) n)) → Q (cond b (Some x) (stream_at ss n)) → Q (cond b (Some (f x)) (stream_at (map f ss) n))
    by_test true rest h = step x h
    by_test false rest h = rest h

pub at_push : (Q : Option Stream → Type 0) (ss : List Stream) (n : ℕ) (w : Stream) → (w.number ≡ n → Q (Some w)) → Q (stream_at ss n) → Q (stream_at (ss ++ w ∷ []) n)
unfolding stream_at
at_push Q [] n w here q = by_test (eqb w.number n) refl
  where
    by_test : (b : Bool) → eqb w.number n ≡ b → Q (cond b (Some w) None)
    by_test true t = here (eqb-true w.number n t)
    by_test false t = q
at_push Q (x ∷ ss) n w here q = by_test (eqb x.number n) (at_push Q ss n w here) q
  where
    by_test : (b : Bool) → (Q (stream_at ss n) → Q (stream_at (ss ++ w ∷ []) n)) → Q (cond b (Some x) (stream_at ss n)) → Q (cond b (Some x) (stream_at (ss ++ w ∷ []) n))
    by_test true rest h = h
    by_test false rest h = rest h

-- ---- what each change keeps

-- each change that a frame makes to a stream keeps this, at a client or at a server; that a stream is shut matters only
-- where frames may do that
pub record Bears (client : Bool) (MayShut : Type 0) (Q : Option Stream → Type 0) (n low : ℕ) : Type 0 where
  pub gone : (st : Stream) → is_kept st ≡ false → Q (Some st) → Q None
  pub texts : (k : ℕ) (text : List ℕ) (st : Stream) → Q (Some st) → Q (Some (with_text k text st))
  pub ends : (st : Stream) → Q (Some st) → Q (Some (record st { peer_open = false }))
  pub heads : client ≡ true → (st : Stream) → Q (Some st) → Q (Some (record st { answered = true }))
  pub shuts : MayShut → (st : Stream) → Q (Some st) → Q (Some (shut st))
  pub cuts : MayShut → (st : Stream) → Q (Some st) → Q (Some (record (shut st) { text = [] }))
  pub grants : (by : ℕ) (st : Stream) → Q (Some st) → Q (Some (with_grant by st))
  pub shifts : (old new : ℕ) (st : Stream) → Q (Some st) → Q (Some (shifted_one old new st))
  pub fresh : (m : ℕ) (t : State) → low < m → m ≡ n → Q (Some (new_stream m t))

-- it is true of the stream n, the numbers rise, and what was told as opened is above the number `low`
pub record Borne (Q : Option Stream → Type 0) (n low : ℕ) (base : List H2Event) (t : State) : Type 0 where
  pub told : List H2Event
  pub events : t.events ≡ base ++ told
  pub numbers : Rises 0 t.opened t.streams
  pub opened : low ≤ t.opened
  pub above : AllByRecursion (OpensWithin low t.opened) told
  pub there : Q (stream_at t.streams n)

-- ---- the parts of which effects are made

all_push : (low high : ℕ) (es : List H2Event) (e : H2Event) → AllByRecursion (OpensWithin low high) es → OpensWithin low high e → AllByRecursion (OpensWithin low high) (es ++ e ∷ [])
all_push low high [] e all h = (h, tt)
all_push low high (x ∷ es) e all h = (all.0, all_push low high es e all.1 h)

within_raise : (low high high' : ℕ) (e : H2Event) → high ≤ high' → OpensWithin low high e → OpensWithin low high' e
within_raise low high high' (Opened n fields) le h = (h.0, omega (arith, le, h.1))
within_raise low high high' (Head n fields) le h = tt
within_raise low high high' (Text n) le h = tt
within_raise low high high' (Ended n) le h = tt
within_raise low high high' (Reset n code) le h = tt
within_raise low high high' (Away code) le h = tt
within_raise low high high' (Closed code) le h = tt

all_raise : (low high high' : ℕ) (es : List H2Event) → high ≤ high' → AllByRecursion (OpensWithin low high) es → AllByRecursion (OpensWithin low high') es
all_raise low high high' [] le all = tt
all_raise low high high' (x ∷ es) le all = (within_raise low high high' x le all.0, all_raise low high high' es le all.1)

-- nothing was told, and streams may have changed
borne_streams : {Q : Option Stream → Type 0} {n low : ℕ} {base : List H2Event} (t u : State) → Borne Q n low base t → u.events ≡ t.events → u.opened ≡ t.opened
    → Rises 0 t.opened u.streams → Q (stream_at u.streams n) → Borne Q n low base u
borne_streams {Q} {n} {low} {base} t u b e o r q = record {
  told = b.told;
  events = e ∙ b.events;
  numbers = subst (λ k. Rises 0 k u.streams) (sym o) r;
  opened = subst (λ k. low ≤ k) (sym o) b.opened;
  above = subst (λ k. AllByRecursion (OpensWithin low k) b.told) (sym o) b.above;
  there = q;
}

-- an event was told that opens nothing above
borne_event : {Q : Option Stream → Type 0} {n low : ℕ} {base : List H2Event} (t : State) (e : H2Event) → Borne Q n low base t → OpensWithin low t.opened e → Borne Q n low base (event t e)
borne_event {Q} {n} {low} {base} t e b h = record {
  told = b.told ++ e ∷ [];
  events = ap (λ es. es ++ e ∷ []) b.events ∙ append_assoc base b.told (e ∷ []);
  numbers = b.numbers;
  opened = b.opened;
  above = all_push low t.opened b.told e b.above h;
  there = b.there;
}

pub borne_fail : {Q : Option Stream → Type 0} {n low : ℕ} {base : List H2Event} (code : ℕ) (t : State) → Borne Q n low base t → Borne Q n low base (fail code t)
unfolding fail
borne_fail {Q} {n} {low} {base} code t b = record {
  told = b.told ++ Closed code ∷ [];
  events = ap (λ es. es ++ Closed code ∷ []) b.events ∙ append_assoc base b.told (Closed code ∷ []);
  numbers = b.numbers;
  opened = b.opened;
  above = all_push low t.opened b.told (Closed code) b.above tt;
  there = b.there;
}

borne_reply : {Q : Option Stream → Type 0} {n low : ℕ} {base : List H2Event} (frame : List ℕ) (t : State) → Borne Q n low base t → Borne Q n low base (reply frame t)
unfolding reply
borne_reply {Q} {n} {low} {base} frame t b =
    either (Borne Q n low base) (nat_lt reply_limit (reply_bytes t.out + length frame)) (fail 11 t) (record t { out = put t.out true frame })
    (borne_fail 11 t b) (borne_streams t (record t { out = put t.out true frame }) b refl refl b.numbers b.there)

-- one stream changed
borne_change : {Q : Option Stream → Type 0} {n low : ℕ} {base : List H2Event} (m : ℕ) (f : Stream → Stream) (t : State) → KeepsNumber f
    → ((st : Stream) → Q (Some st) → Q (Some (f st))) → Borne Q n low base t → Borne Q n low base (record t { streams = change t.streams m f })
borne_change {Q} {n} m f t keeps step b =
    borne_streams t (record t { streams = change t.streams m f }) b refl refl (rises_change 0 t.opened t.streams m f keeps b.numbers)
    (at_change Q t.streams m n f keeps step b.there)

-- one stream changed, and is gone if nothing of it is left
borne_on : {Q : Option Stream → Type 0} {n low : ℕ} {base : List H2Event} (m : ℕ) (f : Stream → Stream) (t : State) → KeepsNumber f
    → ((st : Stream) → is_kept st ≡ false → Q (Some st) → Q None) → ((st : Stream) → Q (Some st) → Q (Some (f st))) → Borne Q n low base t → Borne Q n low base (on_stream m f t)
borne_on {Q} {n} m f t keeps gone step b =
    let r : Rises 0 t.opened (change t.streams m f) = rises_change 0 t.opened t.streams m f keeps b.numbers in
    borne_streams t (on_stream m f t) b refl refl (rises_tidied 0 t.opened (change t.streams m f) r)
    (at_tidied Q 0 n (change t.streams m f) gone (climbing 0 t.opened (change t.streams m f) r) (at_change Q t.streams m n f keeps step b.there))

borne_ends : {c : Bool} {P : Type 0} {Q : Option Stream → Type 0} {n low : ℕ} {base : List H2Event} (k : Bears c P Q n low) (m : ℕ) (t : State) → Borne Q n low base t → Borne Q n low base (peer_ends m t)
unfolding peer_ends
borne_ends k m t b =
    let u : State = on_stream m (λ st. record st { peer_open = false }) t in
    borne_event u (Ended m) (borne_on m (λ st. record st { peer_open = false }) t (λ st. refl) k.gone k.ends b) tt

borne_ended : {c : Bool} {P : Type 0} {Q : Option Stream → Type 0} {n low : ℕ} {base : List H2Event} (k : Bears c P Q n low) (ends : Bool) (m : ℕ) (t : State)
    → Borne Q n low base t → Borne Q n low base (ended_if ends m t)
borne_ended {c} {P} {Q} {n} {low} {base} k ends m t b = either (Borne Q n low base) ends (peer_ends m t) t (borne_ends k m t b) b

-- ---- DATA

borne_data_in : {c : Bool} {P : Type 0} {Q : Option Stream → Type 0} {n low : ℕ} {base : List H2Event} (k : Bears c P Q n low) (f : Frame) (t : State) → Borne Q n low base t → Borne Q n low base (data_in f t)
unfolding data_in data_taken
borne_data_in {c} {P} {Q} {n} {low} {base} k f t b =
    let changed : Borne Q n low base (record t { streams = change t.streams f.stream (with_text (length f.payload) (content f)) }) =
    borne_change f.stream (with_text (length f.payload) (content f)) t (λ st. refl) (k.texts (length f.payload) (content f)) b in
    let taken : Borne Q n low base (data_taken f t) =
    borne_streams (record t { streams = change t.streams f.stream (with_text (length f.payload) (content f)) }) (data_taken f t) changed refl refl changed.numbers changed.there in
    borne_ended k (has f 1) f.stream (text_told f.stream (content f) (data_taken f t))
    (either (Borne Q n low base) (length (content f) == 0) (data_taken f t) (event (data_taken f t) (Text f.stream)) taken (borne_event (data_taken f t) (Text f.stream) taken tt))

borne_dropped : {Q : Option Stream → Type 0} {n low : ℕ} {base : List H2Event} (f : Frame) (t : State) → Borne Q n low base t → Borne Q n low base (data_dropped f t)
unfolding data_dropped
borne_dropped f t b = borne_streams t (data_dropped f t) b refl refl b.numbers b.there

borne_data : {c : Bool} {P : Type 0} {Q : Option Stream → Type 0} {n low : ℕ} {base : List H2Event} (k : Bears c P Q n low) (f : Frame) (t : State) (o : Option Stream)
    → Borne Q n low base t → Borne Q n low base (data_of f t o)
borne_data k f t None b = borne_dropped f t b
borne_data {c} {P} {Q} {n} {low} {base} k f t (Some st) b =
    either (Borne Q n low base) (is_open st) (data_in f t) (data_dropped f t) (borne_data_in k f t b) (borne_dropped f t b)

-- ---- header blocks

borne_opens : {Q : Option Stream → Type 0} {n low : ℕ} {base : List H2Event} (m : ℕ) (t : State) → t.opened < m → Borne Q n low base t → Borne Q n low base (opens m t)
borne_opens {Q} {n} {low} {base} m t above b =
    let le : t.opened ≤ m = omega (arith, above) in
    record {
      told = b.told;
      events = b.events;
      numbers = rises_raise 0 t.opened m t.streams le b.numbers;
      opened = omega (arith, le, b.opened);
      above = all_raise low t.opened m b.told le b.above;
      there = b.there;
    }

borne_accepted : {c : Bool} {P : Type 0} {Q : Option Stream → Type 0} {n low : ℕ} {base : List H2Event} (k : Bears c P Q n low) (m : ℕ) (ends : Bool) (fields : List Field) (t : State)
    → t.opened < m → Borne Q n low base t → Borne Q n low base (accepted m ends fields t)
unfolding accepted
borne_accepted {c} {P} {Q} {n} {low} {base} k m ends fields t above b =
    let le : t.opened ≤ m = omega (arith, above) in
    let lower : low < m = omega (arith, above, b.opened) in
    let same : m ≤ m = omega arith in
    let pushed : State = record t { opened = m; streams = t.streams ++ new_stream m t ∷ [] } in
    let there : Borne Q n low base pushed = record {
      told = b.told;
      events = b.events;
      numbers = rises_push 0 t.opened t.streams (new_stream m t) b.numbers above;
      opened = omega (arith, le, b.opened);
      above = all_raise low t.opened m b.told le b.above;
      there = at_push Q t.streams n (new_stream m t) (k.fresh m t lower) b.there;
    } in
    borne_ended k ends m (event pushed (Opened m fields)) (borne_event pushed (Opened m fields) there (lower, same))

borne_request : {c : Bool} {P : Type 0} {Q : Option Stream → Type 0} {n low : ℕ} {base : List H2Event} (k : Bears c P Q n low) (m : ℕ) (ends : Bool) (fields : List Field) (t : State)
    → t.opened < m → Borne Q n low base t → Borne Q n low base (request m ends fields t)
unfolding request
borne_request {c} {P} {Q} {n} {low} {base} k m ends fields t above b =
    let refused : (code : ℕ) → Borne Q n low base (reply (reset_frame m code) (opens m t)) = λ code. borne_reply (reset_frame m code) (opens m t) (borne_opens m t above b) in
    either (Borne Q n low base) (nat_le stream_limit (open_count t.streams)) (reply (reset_frame m 7) (opens m t))
    (if is_malformed_request fields then reply (reset_frame m 1) (opens m t) else accepted m ends fields t) (refused 7)
    (either (Borne Q n low base) (is_malformed_request fields) (reply (reset_frame m 1) (opens m t)) (accepted m ends fields t) (refused 1)
    (borne_accepted k m ends fields t above b))

borne_response : {c : Bool} {P : Type 0} {Q : Option Stream → Type 0} {n low : ℕ} {base : List H2Event} (k : Bears c P Q n low) (m : ℕ) (ends : Bool) (fields : List Field) (st : Stream) (t : State)
    → c ≡ true → P → Borne Q n low base t → Borne Q n low base (response m ends fields st t)
unfolding response refused_response headed
borne_response {c} {P} {Q} {n} {low} {base} k m ends fields st t client p b =
    let gone : Borne Q n low base (on_stream m shut t) = borne_on m shut t (λ x. refl) k.gone (k.shuts p) b in
    let head : Borne Q n low base (on_stream m (λ x. record x { answered = true }) t) =
    borne_on m (λ x. record x { answered = true }) t (λ x. refl) k.gone (k.heads client) b in
    either (Borne Q n low base) st.answered (peer_ends m t)
    (if is_informational fields && not ends then t else (if is_malformed_response fields || is_informational fields then refused_response m t else headed m ends fields t))
    (borne_ends k m t b)
    (either (Borne Q n low base) (is_informational fields && not ends) t (if is_malformed_response fields || is_informational fields then refused_response m t else headed m ends fields t) b
    (either (Borne Q n low base) (is_malformed_response fields || is_informational fields) (refused_response m t) (headed m ends fields t)
    (borne_reply (reset_frame m 1) (event (on_stream m shut t) (Reset m 1)) (borne_event (on_stream m shut t) (Reset m 1) gone tt))
    (borne_ended k ends m (event (on_stream m (λ x. record x { answered = true }) t) (Head m fields))
    (borne_event (on_stream m (λ x. record x { answered = true }) t) (Head m fields) head tt))))

borne_head : {c : Bool} {P : Type 0} {Q : Option Stream → Type 0} {n low : ℕ} {base : List H2Event} (k : Bears c P Q n low) (m : ℕ) (ends : Bool) (fields : List Field) (t : State)
    → (c ≡ true → P) → is_client t.role ≡ c → Borne Q n low base t → Borne Q n low base (head_of m ends fields t)
unfolding head_of
borne_head {c} {P} {Q} {n} {low} {base} k m ends fields t may role b = by_role (is_client t.role) role
  where
    trailers : Borne Q n low base (if_open (stream_at t.streams m) t (λ st. peer_ends m t))
    trailers = open_or (Borne Q n low base) (stream_at t.streams m) t (λ st. peer_ends m t) b (λ st. borne_ends k m t b)

    by_number : (a : Bool) → nat_lt t.opened m ≡ a → Borne Q n low base (if a then request m ends fields t else if_open (stream_at t.streams m) t (λ st. peer_ends m t))
    by_number true above = borne_request k m ends fields t (ltb-true t.opened m above) b
    by_number false above = trailers

    by_role : (a : Bool) → a ≡ c → Borne Q n low base (if a then if_open (stream_at t.streams m) t (λ st. response m ends fields st t)
        else (if nat_lt t.opened m then request m ends fields t else if_open (stream_at t.streams m) t (λ st. peer_ends m t)))
    by_role true same = open_or (Borne Q n low base) (stream_at t.streams m) t (λ st. response m ends fields st t) b (λ st. borne_response k m ends fields st t (sym same) (may (sym same)) b)
    by_role false same = by_number (nat_lt t.opened m) refl

borne_decoded : {c : Bool} {P : Type 0} {Q : Option Stream → Type 0} {n low : ℕ} {base : List H2Event} (k : Bears c P Q n low) (m : ℕ) (ends : Bool) (t : State) (r : Result Progress HpackFault)
    → (c ≡ true → P) → is_client t.role ≡ c → Borne Q n low base t → Borne Q n low base (decoded m ends t r)
borne_decoded k m ends t (Ok p) may role b =
    borne_head k m ends p.fields (record t { block = None; decoder = p.table }) may role (borne_streams t (record t { block = None; decoder = p.table }) b refl refl b.numbers b.there)
borne_decoded k m ends t (Err e) may role b = b

borne_block : {c : Bool} {P : Type 0} {Q : Option Stream → Type 0} {n low : ℕ} {base : List H2Event} (k : Bears c P Q n low) (f : Frame) (t : State)
    → (c ≡ true → P) → is_client t.role ≡ c → Borne Q n low base t → Borne Q n low base (block_of_headers f t)
unfolding block_of_headers block_grown
borne_block {c} {P} {Q} {n} {low} {base} k f t may role b =
    either (Borne Q n low base) (ends_block f) (decoded f.stream (block_ends t.block f) t (read_block t.decoder (block_with t f))) (block_grown f t)
    (borne_decoded k f.stream (block_ends t.block f) t (read_block t.decoder (block_with t f)) may role b)
    (borne_streams t (block_grown f t) b refl refl b.numbers b.there)

-- ---- the other frames

borne_reset : {c : Bool} {P : Type 0} {Q : Option Stream → Type 0} {n low : ℕ} {base : List H2Event} (k : Bears c P Q n low) (f : Frame) (st : Stream) (t : State)
    → P → Borne Q n low base t → Borne Q n low base (reset_of f st t)
unfolding reset_of cut_off
borne_reset {c} {P} {Q} {n} {low} {base} k f st t p b =
    let cut : Borne Q n low base (on_stream f.stream (λ x. record (shut x) { text = [] }) t) =
    borne_on f.stream (λ x. record (shut x) { text = [] }) t (λ x. refl) k.gone (k.cuts p) b in
    let owed : State = record (on_stream f.stream (λ x. record (shut x) { text = [] }) t) { owed = t.owed + length st.text } in
    let there : Borne Q n low base owed = borne_streams (on_stream f.stream (λ x. record (shut x) { text = [] }) t) owed cut refl refl cut.numbers cut.there in
    either (Borne Q n low base) (is_client t.role && (number_at f.payload 0 == 0) && not st.peer_open) (on_stream f.stream shut t) (cut_off f.stream (number_at f.payload 0) st t)
    (borne_on f.stream shut t (λ x. refl) k.gone (k.shuts p) b)
    (borne_event owed (Reset f.stream (number_at f.payload 0)) there tt)

borne_setting : {c : Bool} {P : Type 0} {Q : Option Stream → Type 0} {n low : ℕ} {base : List H2Event} (k : Bears c P Q n low) (t : State) (x : ℕ × ℕ)
    → Borne Q n low base t → Borne Q n low base (after_setting t x)
unfolding after_setting
borne_setting {c} {P} {Q} {n} {low} {base} k t x b =
    either (Borne Q n low base) (x.0 == 4) (record t { initial = x.1; streams = shifted t.initial x.1 t.streams }) (if x.0 == 3 then record t { most = Some x.1 } else t)
    (borne_streams t (record t { initial = x.1; streams = shifted t.initial x.1 t.streams }) b refl refl
    (rises_map 0 t.opened t.streams (shifted_one t.initial x.1) (shifted_number t.initial x.1) b.numbers)
    (at_map Q t.streams n (shifted_one t.initial x.1) (shifted_number t.initial x.1) (k.shifts t.initial x.1) b.there))
    (either (Borne Q n low base) (x.0 == 3) (record t { most = Some x.1 }) t (borne_streams t (record t { most = Some x.1 }) b refl refl b.numbers b.there) b)

borne_settings : {c : Bool} {P : Type 0} {Q : Option Stream → Type 0} {n low : ℕ} {base : List H2Event} (k : Bears c P Q n low) (t : State) (xs : List (ℕ × ℕ))
    → Borne Q n low base t → Borne Q n low base (after_settings t xs)
unfolding after_settings
borne_settings k t [] b = b
borne_settings k t (x ∷ xs) b = borne_settings k (after_setting t x) xs (borne_setting k t x b)

borne_all_settings : {c : Bool} {P : Type 0} {Q : Option Stream → Type 0} {n low : ℕ} {base : List H2Event} (k : Bears c P Q n low) (f : Frame) (t : State)
    → Borne Q n low base t → Borne Q n low base (settings f t)
unfolding settings
borne_all_settings {c} {P} {Q} {n} {low} {base} k f t b =
    either (Borne Q n low base) (has f 1) t (reply (spelled 4 1 0 []) (after_settings t (settings_of f.payload))) b
    (borne_reply (spelled 4 1 0 []) (after_settings t (settings_of f.payload)) (borne_settings k t (settings_of f.payload) b))

borne_ping : {Q : Option Stream → Type 0} {n low : ℕ} {base : List H2Event} (f : Frame) (t : State) → Borne Q n low base t → Borne Q n low base (ping f t)
unfolding ping
borne_ping {Q} {n} {low} {base} f t b = either (Borne Q n low base) (has f 1) t (reply (spelled 6 1 0 f.payload) t) b (borne_reply (spelled 6 1 0 f.payload) t b)

borne_goaway : {Q : Option Stream → Type 0} {n low : ℕ} {base : List H2Event} (f : Frame) (t : State) → Borne Q n low base t → Borne Q n low base (goaway f t)
unfolding goaway
borne_goaway f t b =
    borne_event (record t { away = true }) (Away (number_at f.payload 4)) (borne_streams t (record t { away = true }) b refl refl b.numbers b.there) tt

pub grant_number : (by : ℕ) → KeepsNumber (with_grant by)
grant_number by st = by_open (is_open st)
  where
    by_open : (b : Bool) → (if b then record st { send = st.send +ℤ pos by } else st).number ≡ st.number
    by_open true = refl
    by_open false = refl

borne_update : {c : Bool} {P : Type 0} {Q : Option Stream → Type 0} {n low : ℕ} {base : List H2Event} (k : Bears c P Q n low) (f : Frame) (t : State)
    → Borne Q n low base t → Borne Q n low base (window_update f t)
unfolding window_update
borne_update {c} {P} {Q} {n} {low} {base} k f t b =
    either (Borne Q n low base) (f.stream == 0) (record t { send = t.send +ℤ pos (increment_of f.payload) })
    (record t { streams = change t.streams f.stream (with_grant (increment_of f.payload)) })
    (borne_streams t (record t { send = t.send +ℤ pos (increment_of f.payload) }) b refl refl b.numbers b.there)
    (borne_change f.stream (with_grant (increment_of f.payload)) t (grant_number (increment_of f.payload)) (k.grants (increment_of f.payload)) b)

-- ---- a frame

-- what holds of each kind's effect holds of a frame's
of_kind : (P : State → Type 0) (s : State) (f : Frame) → P (data_of f s (stream_at s.streams f.stream))
    → (((f.kind == 1) || (f.kind == 9)) ≡ true → P (block_of_headers f s)) → ((f.kind == 3) ≡ true → P (if_open (stream_at s.streams f.stream) s (λ st. reset_of f st s)))
    → P (settings f s) → P (ping f s) → P (goaway f s) → P (window_update f s) → P s → P (effect s f)
unfolding effect
of_kind P s f a b c d e g h i =
    either P (f.kind == 0) (data_of f s (stream_at s.streams f.stream)) _ a
    (chosen ((f.kind == 1) || (f.kind == 9)) (block_of_headers f s) _ b
    (chosen (f.kind == 3) (if_open (stream_at s.streams f.stream) s (λ st. reset_of f st s)) _ c
    (either P (f.kind == 4) (settings f s) _ d
    (either P (f.kind == 6) (ping f s) _ e
    (either P (f.kind == 7) (goaway f s) _ g
    (either P (f.kind == 8) (window_update f s) s h i))))))
  where
    chosen : (b : Bool) → (x y : State) → (b ≡ true → P x) → P y → P (if b then x else y)
    chosen true x y p q = p refl
    chosen false x y p q = q

-- The frame may shut a stream: it is RST_STREAM, or at a client of a header block.
abbrev pub MayShutBy : Bool → Frame → Type 0
MayShutBy client f = ((f.kind == 3) ≡ true) ⊎ ((client ≡ true) × (((f.kind == 1) || (f.kind == 9)) ≡ true))

borne_effect : {c : Bool} {P : Type 0} {Q : Option Stream → Type 0} {n low : ℕ} {base : List H2Event} (k : Bears c P Q n low) (t : State) (f : Frame)
    → (MayShutBy c f → P) → is_client t.role ≡ c → Borne Q n low base t → Borne Q n low base (effect t f)
borne_effect {c} {P} {Q} {n} {low} {base} k t f may role b =
    of_kind (Borne Q n low base) t f
    (borne_data k f t (stream_at t.streams f.stream) b)
    (λ e. borne_block k f t (λ client. may (inr (client, e))) role b)
    (λ e. open_or (Borne Q n low base) (stream_at t.streams f.stream) t (λ st. reset_of f st t) b (λ st. borne_reset k f st t (may (inl e)) b))
    (borne_all_settings k f t b)
    (borne_ping f t b)
    (borne_goaway f t b)
    (borne_update k f t b)
    b

-- a frame, where it is known which frames shut a stream
pub borne_by : {c : Bool} {P : Type 0} {Q : Option Stream → Type 0} {n low : ℕ} {base : List H2Event} (k : Bears c P Q n low) (t : State) (f : Frame)
    → (MayShutBy c f → P) → is_client t.role ≡ c → Borne Q n low base t → Borne Q n low base (after_frame t f)
unfolding after_frame
borne_by {c} {P} {Q} {n} {low} {base} k t f may role b = either (Borne Q n low base) (is_some t.failed) t (judged t f (verdict t f)) b (by_verdict (verdict t f))
  where
    by_verdict : (o : Option ℕ) → Borne Q n low base (judged t f o)
    by_verdict (Some code) = borne_fail code (without_blocks t) (borne_streams t (without_blocks t) b refl refl b.numbers b.there)
    by_verdict None = borne_effect k (record t { began = true }) f may role (borne_streams t (record t { began = true }) b refl refl b.numbers b.there)

-- a frame, where any may
pub borne_frame : {c : Bool} {Q : Option Stream → Type 0} {n low : ℕ} {base : List H2Event} (k : Bears c (Unit {0}) Q n low) (t : State) (f : Frame)
    → is_client t.role ≡ c → Borne Q n low base t → Borne Q n low base (after_frame t f)
borne_frame k t f role b = borne_by k t f (λ _. tt) role b

-- before anything is done
pub borne_start : {Q : Option Stream → Type 0} {n : ℕ} (t : State) → Rises 0 t.opened t.streams → Q (stream_at t.streams n) → Borne Q n t.opened t.events t
borne_start t r q = record {
  told = [];
  events = sym (append-nil t.events);
  numbers = r;
  opened = omega arith;
  above = tt;
  there = q;
}
