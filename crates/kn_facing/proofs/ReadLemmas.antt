-- A frame that an end reads, and what it may write next.
use Rattle.std.proofs.Common.{◌≡◌, ◌⊎◌, inl, inr, ◌<◌, ◌+ℤ◌, ◌-ℤ◌, pos, ℕ, Bool, true, false, not, [], Option, Some, None, IfSome, refl, sym, ap, ◌∙◌, subst, arith, if◌then◌else◌}
use Rattle.kn_frames.specs.declared.frame.Frame.{Frame}
use Rattle.kn_h2_state.specs.declared.stream.Stream.{Stream}
use Rattle.kn_h2_state.specs.declared.state.State.{State}
use Rattle.kn_h2_state.specs.InStep.{IsInStep}
use Rattle.kn_h2_state.specs.Streams.{stream_at, is_open, shut}
use Rattle.kn_h2_state.specs.Rules.{is_client, shifted_one}
use Rattle.kn_h2_state.specs.Effects.{with_grant}
use Rattle.kn_h2_state.specs.Feeding.{after_frame}
use Rattle.kn_h2_state.specs.Holding.{Holds}
use Rattle.kn_h2_state.specs.Opening.{FramesOpenAbove, AnsweredIsKept, answered_in}
use Rattle.kn_h2_state.proofs.BorneLemmas.{Bears, rises, none_above, borne_frame, borne_start}
use Rattle.kn_facing.specs.Laws.{FramesKeepFollowed}
use Rattle.kn_facing.proofs.FollowedLemmas.{is_known}
use Rattle.kn_facing.proofs.SteadyLemmas.{Steady, steady_frame}

-- ---- a stream after a frame, and before it

-- it was there, and its own half open if it is now; or it is new
abbrev pub There : State → ℕ → Stream → Type 0
There s n st = (a : Stream) × (stream_at s.streams n ≡ Some a) × (st.own_open ≡ true → a.own_open ≡ true)

abbrev IsOlder : State → ℕ → Option Stream → Type 0
IsOlder s n o = IfSome o (λ st. There s n st ⊎ (s.opened < n))

-- it is still there where its own half does not open
still : (s : State) (n : ℕ) (st new : Stream) → (new.own_open ≡ true → st.own_open ≡ true) → There s n st ⊎ (s.opened < n) → There s n new ⊎ (s.opened < n)
still s n st new less (inl (a, at, own)) = inl (a, at, λ e. own (less e))
still s n st new less (inr above) = inr above

grant_own : (by : ℕ) (st : Stream) → (with_grant by st).own_open ≡ st.own_open
grant_own by st = by_open (is_open st)
  where
    by_open : (b : Bool) → (if b then record st { send = st.send +ℤ pos by } else st).own_open ≡ st.own_open
    by_open true = refl
    by_open false = refl

shift_own : (old new : ℕ) (st : Stream) → (shifted_one old new st).own_open ≡ st.own_open
shift_own old new st = by_open (is_open st)
  where
    by_open : (b : Bool) → (if b then record st { send = st.send +ℤ (pos new -ℤ pos old) } else st).own_open ≡ st.own_open
    by_open true = refl
    by_open false = refl

bears_older : (c : Bool) (s : State) (n : ℕ) → Bears c (Unit {0}) (IsOlder s n) n s.opened
bears_older c s n = record {
  gone = λ st k q. tt;
  texts = λ k text st q. q;
  ends = λ st q. q;
  heads = λ e st q. q;
  shuts = λ _ st q. still s n st (shut st) (λ e. absurd cc) q;
  cuts = λ _ st q. still s n st (record (shut st) { text = [] }) (λ e. absurd cc) q;
  grants = λ by st q. still s n st (with_grant by st) (λ e. sym (grant_own by st) ∙ e) q;
  shifts = λ old new st q. still s n st (shifted_one old new st) (λ e. sym (shift_own old new st) ∙ e) q;
  fresh = λ m u low e. inr (subst (λ (k : ℕ). s.opened < k) e low);
}

itself : (s : State) (n : ℕ) (o : Option Stream) → stream_at s.streams n ≡ o → IsOlder s n o
itself s n None e = tt
itself s n (Some st) e = inl (st, e, λ own. own)

pub older : (s : State) (f : Frame) (n : ℕ) (st : Stream) → Holds s → stream_at (after_frame s f).streams n ≡ Some st → There s n st ⊎ (s.opened < n)
older s f n st holds found =
    let b = borne_frame (bears_older (is_client s.role) s n) s f refl (borne_start s (rises 0 s.opened s.streams holds.rising) (itself s n (stream_at s.streams n) refl)) in
    subst (λ (o : Option Stream). IsOlder s n o) found b.there

-- ---- what it may write next

served : (c : Bool) → not c ≡ true → c ≡ false
served true e = absurd cc
served false e = refl

pub frames_keep_followed : FramesOpenAbove → AnsweredIsKept → FramesKeepFollowed
frames_keep_followed above kept s t f holds after on v plain other h waits bound = record {
  followed = record {
    began = h.began;
    block = h.block;
    decoder = subst (λ (b : Bool). IsInStep b t.decoder) (sym steady.encoder) h.decoder;
    halves = λ n a b at own at_t up. half n a b at own at_t up (older s f n a holds at);
    heads = λ client n a b at at_t up. head client n a b at at_t up (older s f n a holds at);
    opened = λ client. h.opened (here client) ∙ sym (steady.opened (here client));
    begun = bound;
  };
  awaits = λ client n b low at_t up. waits client n b (let raise = (above s f holds).opened in omega (arith, raise, low)) at_t up;
}
  where
    steady : Steady s (after_frame s f)
    steady = steady_frame s f on v plain

    here : is_client (after_frame s f).role ≡ true → is_client s.role ≡ true
    here client = ap is_client (sym steady.role) ∙ client

    half : (n : ℕ) (a b : Stream) → stream_at (after_frame s f).streams n ≡ Some a → a.own_open ≡ true → stream_at t.streams n ≡ Some b → is_open b ≡ true → There s n a ⊎ (s.opened < n) → b.peer_open ≡ true
    half n a b at own at_t up (inl (c, was, kept_own)) = h.halves n c b was (kept_own own) at_t up
    half n a b at own at_t up (inr low) = by_role (is_client s.role) refl
      where
        by_role : (c : Bool) → is_client s.role ≡ c → b.peer_open ≡ true
        by_role true e = let same = steady.opened e in absurd (is_known (after_frame s f).opened n (after_frame s f).streams a after.rising at (omega (arith, same, low)))
        by_role false e = (waits (other ∙ ap not e) n b low at_t up).0

    head : is_client t.role ≡ true → (n : ℕ) (a b : Stream) → stream_at (after_frame s f).streams n ≡ Some a → stream_at t.streams n ≡ Some b → is_open b ≡ true → There s n a ⊎ (s.opened < n)
        → b.answered ≡ a.answered
    head client n a b at at_t up (inl (c, was, kept_own)) =
        h.heads client n c b was at_t up ∙ sym ((kept s n holds server).frame f a at ∙ ap answered_in was)
      where
        server : is_client s.role ≡ false
        server = served (is_client s.role) (sym other ∙ client)
    head client n a b at at_t up (inr low) =
        (waits client n b low at_t up).1 ∙ sym ((kept s n holds server).frame f a at ∙ ap answered_in (none_above 0 s.opened n s.streams (rises 0 s.opened s.streams holds.rising) low))
      where
        server : is_client s.role ≡ false
        server = served (is_client s.role) (sym other ∙ client)
