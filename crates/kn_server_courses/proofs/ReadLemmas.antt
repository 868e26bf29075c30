-- What is read of the text of a stream: one connection.
use Rattle.std.proofs.Common.{◌≡◌, ◌⊎◌, inl, inr, ℕ, zero, suc, Bool, true, false, not, cond, eqb, List, [], ◌∷◌, ◌++◌, length, take, drop, Option, Some, None, is_some, refl, sym, ap, ◌∙◌, subst, append-nil, append_assoc}
use Rattle.std.proofs.lemmas.Bool.{eqb-true, ne_eqb}
use Rattle.kn_hpack.specs.Fields.{Field}
use Rattle.kn_hpack.specs.Encoding.{block_of}
use Rattle.kn_grpc.specs.Readers.{Reading, first_message, is_less, taken, fed, fault_in}
use Rattle.kn_grpc.proofs.Feeding.{fed_stays}
use Rattle.kn_grpc.proofs.Taking.{taken_none}
use Rattle.kn_h2_state.specs.declared.moves.Move.{Move}
use Rattle.kn_h2_state.specs.declared.moves.Move.TheVariants.{GrantAll, Grant, Send, End, Stop}
use Rattle.kn_h2_state.specs.declared.stream.Stream.{Stream}
use Rattle.kn_h2_state.specs.declared.state.State.{State}
use Rattle.kn_h2_state.specs.Streams.{stream_at, change, tidied, shut}
use Rattle.kn_h2_state.specs.Payloads.{reset_frame}
use Rattle.kn_h2_state.specs.Rules.{is_client}
use Rattle.kn_h2_state.specs.Effects.{on_stream}
use Rattle.kn_h2_state.specs.Moves.{headers_frames, granted, sent_some, own_ended, stopped, made, target, after_move}
use Rattle.kn_h2_state.specs.Calls.{text_in, text_of, with_taken, with_queued, with_finish, after_take, after_queue, after_finish, after_answer, after_reset, after_took}
use Rattle.kn_h2_state.proofs.SeenLemmas.{KeepsNumber, KeepsText, text_change, text_tidied, at_change, at_changed}
use Rattle.kn_h2_state.proofs.BorneLemmas.{Rises, climbing, rises_change}
use Rattle.kn_h2_state.proofs.BorneLemmas as borne
use Rattle.kn_h2_state.proofs.OtherLaws.{reply_streams}
use Rattle.kn_ends.specs.declared.inlet.Inlet.{Inlet}
use Rattle.kn_ends.specs.declared.carrier.Carrier.{Carrier}
use Rattle.kn_ends.specs.Numbers.{at, with, changed, without}
use Rattle.kn_ends.specs.Carriers.{inlet_at, change_inlet, count_with, read_by, read_count, with_read}
use Rattle.kn_ends.proofs.InletLemmas.{stream_of}

-- ---- inlets

at_number : (is : List Inlet) (n : ℕ) (x : Inlet) → inlet_at is n ≡ Some x → x.stream ≡ n
unfolding at
at_number [] n x e = absurd cc
at_number (y ∷ is) n x e = by_test (eqb y.stream n) refl (at_number is n x) e
  where
    by_test : (b : Bool) → eqb y.stream n ≡ b → (inlet_at is n ≡ Some x → x.stream ≡ n) → cond b (Some y) (inlet_at is n) ≡ Some x → x.stream ≡ n
    by_test true t rest h = let same : y ≡ x = cc in subst (λ (i : Inlet). i.stream ≡ n) same (eqb-true y.stream n t)
    by_test false t rest h = rest h

with_own : (is : List Inlet) (n : ℕ) (x w : Inlet) → w.stream ≡ x.stream → inlet_at is n ≡ Some x → inlet_at (with stream_of is n w) n ≡ Some w
unfolding at with
with_own [] n x w keeps e = absurd cc
with_own (y ∷ is) n x w keeps e = by_test (eqb y.stream n) refl (with_own is n x w keeps) e
  where
    by_test : (b : Bool) → eqb y.stream n ≡ b → (inlet_at is n ≡ Some x → inlet_at (with stream_of is n w) n ≡ Some w) → cond b (Some y) (inlet_at is n) ≡ Some x
        → inlet_at (cond b (w ∷ is) (y ∷ with stream_of is n w)) n ≡ Some w
    by_test true t rest h =
        let same : y ≡ x = cc in
        ap (λ b. cond b (Some w) (inlet_at is n)) (ap (λ k. eqb k n) (keeps ∙ ap (λ (i : Inlet). i.stream) (sym same)) ∙ t)
    by_test false t rest h = ap (λ b. cond b (Some y) (inlet_at (with stream_of is n w) n)) t ∙ rest h

with_other : (is : List Inlet) (m n : ℕ) (w : Inlet) → w.stream ≡ m → (m ≡ n → ⊥) → inlet_at (with stream_of is m w) n ≡ inlet_at is n
unfolding at with
with_other [] m n w keeps other = refl
with_other (y ∷ is) m n w keeps other = by_test (eqb y.stream m) refl (with_other is m n w keeps other)
  where
    by_test : (b : Bool) → eqb y.stream m ≡ b → inlet_at (with stream_of is m w) n ≡ inlet_at is n
        → inlet_at (cond b (w ∷ is) (y ∷ with stream_of is m w)) n ≡ cond (eqb y.stream n) (Some y) (inlet_at is n)
    by_test true t rest =
        let apart : eqb y.stream n ≡ false = ne_eqb y.stream n (λ e. other (sym (eqb-true y.stream m t) ∙ e)) in
        let apart' : eqb w.stream n ≡ false = ne_eqb w.stream n (λ e. other (sym keeps ∙ e)) in
        ap (λ b. cond b (Some w) (inlet_at is n)) apart' ∙ sym (ap (λ b. cond b (Some y) (inlet_at is n)) apart)
    by_test false t rest = ap (λ o. cond (eqb y.stream n) (Some y) o) rest

-- changed, if it is there
abbrev pub changed_inlet : (Inlet → Inlet) → Option Inlet → Option Inlet
changed_inlet f None = None
changed_inlet f (Some i) = Some (f i)

abbrev pub KeepsStream : (Inlet → Inlet) → Type 0
KeepsStream f = (i : Inlet) → (f i).stream ≡ i.stream

pub inlet_own : (is : List Inlet) (n : ℕ) (f : Inlet → Inlet) → KeepsStream f → inlet_at (change_inlet is n f) n ≡ changed_inlet f (inlet_at is n)
inlet_own is n f keeps = by_found (inlet_at is n) refl
  where
    by_found : (o : Option Inlet) → inlet_at is n ≡ o → inlet_at (changed stream_of is n f o) n ≡ changed_inlet f o
    by_found None e = e
    by_found (Some x) e = with_own is n x (f x) (keeps x) e

pub inlet_other : (is : List Inlet) (m n : ℕ) (f : Inlet → Inlet) → KeepsStream f → (m ≡ n → ⊥) → inlet_at (change_inlet is m f) n ≡ inlet_at is n
inlet_other is m n f keeps other = by_found (inlet_at is m) refl
  where
    by_found : (o : Option Inlet) → inlet_at is m ≡ o → inlet_at (changed stream_of is m f o) n ≡ inlet_at is n
    by_found None e = refl
    by_found (Some x) e = with_other is m n (f x) (keeps x ∙ at_number is m x e) other

-- one more behind them
pub inlet_more : (is : List Inlet) (n : ℕ) (w x : Inlet) → inlet_at is n ≡ Some x → inlet_at (is ++ w ∷ []) n ≡ Some x
unfolding at
inlet_more [] n w x e = absurd cc
inlet_more (y ∷ is) n w x e = by_test (eqb y.stream n) (inlet_more is n w x) e
  where
    by_test : (b : Bool) → (inlet_at is n ≡ Some x → inlet_at (is ++ w ∷ []) n ≡ Some x) → cond b (Some y) (inlet_at is n) ≡ Some x → cond b (Some y) (inlet_at (is ++ w ∷ []) n) ≡ Some x
    by_test true rest h = h
    by_test false rest h = rest h

-- without one
pub inlet_gone : (is : List Inlet) (n : ℕ) → inlet_at (without stream_of is n) n ≡ None
unfolding at
inlet_gone [] n = refl
inlet_gone (y ∷ is) n = by_test (eqb y.stream n) refl (inlet_gone is n)
  where
    by_test : (b : Bool) → eqb y.stream n ≡ b → inlet_at (without stream_of is n) n ≡ None → inlet_at (cond (not b) (y ∷ without stream_of is n) (without stream_of is n)) n ≡ None
    by_test true t rest = rest
    by_test false t rest = ap (λ b. cond b (Some y) (inlet_at (without stream_of is n) n)) t ∙ rest

pub inlet_left : (is : List Inlet) (m n : ℕ) → (m ≡ n → ⊥) → inlet_at (without stream_of is m) n ≡ inlet_at is n
unfolding at
inlet_left [] m n other = refl
inlet_left (y ∷ is) m n other = by_test (eqb y.stream m) refl (inlet_left is m n other)
  where
    by_test : (b : Bool) → eqb y.stream m ≡ b → inlet_at (without stream_of is m) n ≡ inlet_at is n
        → inlet_at (cond (not b) (y ∷ without stream_of is m) (without stream_of is m)) n ≡ cond (eqb y.stream n) (Some y) (inlet_at is n)
    by_test true t rest =
        let apart : eqb y.stream n ≡ false = ne_eqb y.stream n (λ e. other (sym (eqb-true y.stream m t) ∙ e)) in
        rest ∙ sym (ap (λ b. cond b (Some y) (inlet_at is n)) apart)
    by_test false t rest = ap (λ o. cond (eqb y.stream n) (Some y) o) rest

-- ---- what is read

-- a reset dropped what was under way
abbrev pub IsCut : Option Inlet → Type 0
IsCut None = ⊥
IsCut (Some i) = (i.ended ≡ true) × (i.messages.kept ≡ [])

-- of this text nothing goes to the message under way
abbrev pub IsReadAt : Option Inlet → List ℕ → Type 0
IsReadAt o text = (read_count o text ≡ 0) ⊎ IsCut o

abbrev pub IsRead : Carrier → ℕ → Type 0
IsRead c n = IsReadAt (inlet_at c.inlets n) (text_of c.conn.state n)

count_nothing : (b : Bool) → count_with b [] 0 ≡ 0
count_nothing true = refl
count_nothing false = refl

pub nothing_read : (o : Option Inlet) (text : List ℕ) → text ≡ [] → read_count o text ≡ 0
nothing_read o (x ∷ text) e = absurd cc
nothing_read None [] e = refl
nothing_read (Some i) [] e = count_nothing (is_some (fault_in (fed i.messages [])))

-- where no more is taken, all is, or the message is whole or bad
taken_rest : (kept xs : List ℕ) → (drop (taken kept xs) xs ≡ []) ⊎ (is_less (first_message (kept ++ take (taken kept xs) xs)) ≡ false)
taken_rest kept [] = inl refl
taken_rest kept (x ∷ xs) = by_less (taken_rest (kept ++ x ∷ []) xs) (is_less (first_message kept)) refl
  where
    later : (drop (taken (kept ++ x ∷ []) xs) xs ≡ []) ⊎ (is_less (first_message ((kept ++ x ∷ []) ++ take (taken (kept ++ x ∷ []) xs) xs)) ≡ false)
        → (drop (taken (kept ++ x ∷ []) xs) xs ≡ []) ⊎ (is_less (first_message (kept ++ x ∷ take (taken (kept ++ x ∷ []) xs) xs)) ≡ false)
    later (inl e) = inl e
    later (inr e) = inr (subst (λ ys. is_less (first_message ys) ≡ false) (append_assoc kept (x ∷ []) (take (taken (kept ++ x ∷ []) xs) xs)) e)

    by_less : (drop (taken (kept ++ x ∷ []) xs) xs ≡ []) ⊎ (is_less (first_message ((kept ++ x ∷ []) ++ take (taken (kept ++ x ∷ []) xs) xs)) ≡ false) → (b : Bool) → is_less (first_message kept) ≡ b
        → (drop (cond b (suc (taken (kept ++ x ∷ []) xs)) 0) (x ∷ xs) ≡ []) ⊎ (is_less (first_message (kept ++ take (cond b (suc (taken (kept ++ x ∷ []) xs)) 0) (x ∷ xs))) ≡ false)
    by_less rest true e = later rest
    by_less rest false e = inr (subst (λ ys. is_less (first_message ys) ≡ false) (sym (append-nil kept)) e)

all_dropped : (xs : List ℕ) → drop (length xs) xs ≡ []
all_dropped [] = refl
all_dropped (x ∷ xs) = all_dropped xs

rest_read : (i : Inlet) (text : List ℕ) (b : Bool) → is_some (fault_in (fed i.messages text)) ≡ b → read_count (Some (with_read text i)) (drop (count_with b text (taken i.messages.kept text)) text) ≡ 0
rest_read i text true e = nothing_read (Some (with_read text i)) (drop (length text) text) (all_dropped text)
rest_read i text false e = by_rest (taken_rest i.messages.kept text)
  where
    next : Reading
    next = fed i.messages text

    left : List ℕ
    left = drop (taken i.messages.kept text) text

    by_rest : (left ≡ []) ⊎ (is_less (first_message next.kept) ≡ false) → read_by next left ≡ 0
    by_rest (inl none) = nothing_read (Some (with_read text i)) left none
    by_rest (inr whole) =
        let none : taken next.kept left ≡ 0 = taken_none next.kept left whole in
        let fault : is_some (fault_in (fed next left)) ≡ false = ap (λ (r : Reading). is_some (fault_in r)) (fed_stays next left whole) ∙ e in
        ap (λ b. count_with b left (taken next.kept left)) fault ∙ none

pub reads_all : (o : Option Inlet) (text : List ℕ) → read_count (changed_inlet (with_read text) o) (drop (read_count o text) text) ≡ 0
reads_all None text = ap (λ (xs : List ℕ). length xs) (all_dropped text)
reads_all (Some i) text = rest_read i text (is_some (fault_in (fed i.messages text))) refl

-- ---- the text of a stream

abbrev pub Orderly : State → Type 0
Orderly s = Rises 0 s.opened s.streams

-- no text changes
abbrev pub SameText : State → State → Type 0
SameText s t = (n : ℕ) → text_of t n ≡ text_of s n

same_streams : (s t : State) → t.streams ≡ s.streams → SameText s t
same_streams s t e n = ap (λ ss. text_in (stream_at ss n)) e

changed_text : (s : State) (m : ℕ) (f : Stream → Stream) (n : ℕ) → KeepsNumber f → KeepsText f → text_in (stream_at (change s.streams m f) n) ≡ text_of s n
changed_text s m f n keeps text = text_change s.streams m n f keeps text

tidied_text : (s : State) (m : ℕ) (f : Stream → Stream) (n : ℕ) → KeepsNumber f → Orderly s → text_in (stream_at (tidied (change s.streams m f)) n) ≡ text_in (stream_at (change s.streams m f) n)
tidied_text s m f n keeps r = text_tidied 0 n (change s.streams m f) (climbing 0 s.opened (change s.streams m f) (rises_change 0 s.opened s.streams m f keeps r))

on_text : (s : State) (m : ℕ) (f : Stream → Stream) (n : ℕ) → KeepsNumber f → KeepsText f → Orderly s → text_in (stream_at (tidied (change s.streams m f)) n) ≡ text_of s n
on_text s m f n keeps text r = tidied_text s m f n keeps r ∙ changed_text s m f n keeps text

drop_none : (k : ℕ) (xs : List ℕ) → xs ≡ [] → drop k xs ≡ []
drop_none zero [] e = refl
drop_none (suc k) [] e = refl
drop_none k (x ∷ xs) e = absurd cc

-- taken on one stream
pub take_other : (s : State) (m n count : ℕ) → Orderly s → (m ≡ n → ⊥) → text_of (after_take m count s) n ≡ text_of s n
unfolding after_take
take_other s m n count r other = tidied_text s m (with_taken count) n (λ st. refl) r ∙ ap text_in (at_change s.streams m n (with_taken count) (λ st. refl) other)

pub take_own : (s : State) (n count : ℕ) → Orderly s → text_of (after_take n count s) n ≡ drop count (text_of s n)
unfolding after_take
take_own s n count r = tidied_text s n (with_taken count) n (λ st. refl) r ∙ by_stream (stream_at s.streams n) refl
  where
    by_stream : (o : Option Stream) → stream_at s.streams n ≡ o → text_in (stream_at (change s.streams n (with_taken count)) n) ≡ drop count (text_in o)
    by_stream None e =
        let none : stream_at (change s.streams n (with_taken count)) n ≡ None = borne.at_change (λ o. o ≡ None) s.streams n n (with_taken count) (λ st. refl) (λ st h. absurd cc) e in
        ap text_in none ∙ sym (drop_none count [] refl)
    by_stream (Some st) e = ap text_in (at_changed s.streams n (with_taken count) st (λ x. refl) e)

pub move_text : (m : Move) (s : State) → Orderly s → SameText s (after_move s m)
unfolding after_move
move_text m s r n = by_move m (stream_at s.streams (target m))
  where
    by_move : (k : Move) (o : Option Stream) → text_of (made s k o) n ≡ text_of s n
    by_move GrantAll o = refl
    by_move (Grant k) None = refl
    by_move (Grant k) (Some st) = changed_text s k granted n (λ x. refl) (λ x. refl)
    by_move (Send k count) None = refl
    by_move (Send k count) (Some st) = changed_text s k (sent_some count) n (λ x. refl) (λ x. refl)
    by_move (End k) None = refl
    by_move (End k) (Some st) = on_text s k (own_ended (not (is_client s.role))) n (λ x. refl) (λ x. refl) r
    by_move (Stop k) None = refl
    by_move (Stop k) (Some st) = on_text s k stopped n (λ x. refl) (λ x. refl) r

pub queue_text : (m : ℕ) (bytes : List ℕ) (s : State) → SameText s (after_queue m bytes s)
unfolding after_queue
queue_text m bytes s n = changed_text s m (with_queued bytes) n (λ x. refl) (λ x. refl)

pub finish_text : (m : ℕ) (trailers : List Field) (s : State) → SameText s (after_finish m trailers s)
unfolding after_finish
finish_text m trailers s n = changed_text s m (with_finish trailers) n (λ x. refl) (λ x. refl)

pub took_text : (count : ℕ) (s : State) → SameText s (after_took count s)
unfolding after_took
took_text count s n = refl

pub answer_text : (m : ℕ) (fields : List Field) (s : State) → SameText s (after_answer m fields s)
unfolding after_answer
answer_text m fields s n =
    let answers : Stream → Stream = λ st. record st { answered = true } in
    ap (λ ss. text_in (stream_at ss n)) (reply_streams (headers_frames m 0 (block_of s.encoder fields)) (record s { streams = change s.streams m answers; encoder = true }))
    ∙ changed_text s m answers n (λ x. refl) (λ x. refl)

pub reset_text : (m code : ℕ) (s : State) → Orderly s → SameText s (after_reset m code s)
unfolding after_reset
reset_text m code s r n =
    ap (λ ss. text_in (stream_at ss n)) (reply_streams (reset_frame m code) (on_stream m shut s)) ∙ on_text s m shut n (λ x. refl) (λ x. refl) r
