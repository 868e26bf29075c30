-- A client whose response is whole is told to send no more.
use Rattle.std.proofs.Common.{◌≡◌, ℕ, Bool, true, false, not, ◌&&◌, None, Some, refl, sym, ap, ◌∙◌, subst, if◌then◌else◌}
use Rattle.std.specs.Bool.{◌==◌}
use Rattle.std.proofs.lemmas.Bool.{eqb-true}
use Rattle.kn_frames.specs.declared.frame.Frame.{Frame}
use Rattle.kn_h2_state.specs.declared.stream.Stream.{Stream}
use Rattle.kn_h2_state.specs.declared.state.State.{State}
use Rattle.kn_h2_state.specs.Streams.{stream_at, change, is_open, passes, shut}
use Rattle.kn_h2_state.specs.Payloads.{number_at}
use Rattle.kn_h2_state.specs.Hearing.{is_peer_open}
use Rattle.kn_h2_state.specs.Holding.{Holds}
use Rattle.kn_h2_state.specs.Rules.{is_client, verdict}
use Rattle.kn_h2_state.specs.Effects.{cut_off, effect, on_stream, reset_of}
use Rattle.kn_h2_state.specs.Feeding.{after_frame, judged}
use Rattle.kn_h2_state.specs.Calls.{text_of}
use Rattle.kn_h2_state.proofs.BorneLemmas.{rises}
use Rattle.kn_h2_state.proofs.PieceLaws.{after_frame-judged}
use Rattle.kn_h2_state.proofs.SeenLemmas.{climbs, climbs_change, text_change, text_tidied}
use Rattle.kn_h2_state.proofs.TextLaws.{text_other}
use Rattle.kn_pending.specs.Pending.{GentleReset}

no_other : (k : ℕ) → (k == 3) ≡ true → (k == 0) ≡ false
no_other k e = subst (λ (i : ℕ). (i == 0) ≡ false) (sym (eqb-true k 3 e)) refl

closed_half : (a b : Bool) → a ≡ true → (a && b) ≡ false → b ≡ false
closed_half true b e h = h
closed_half false b e h = absurd cc

gentle_at : (n : ℕ) (s : State) (f : Frame) → Holds s → s.failed ≡ None → verdict s f ≡ None → is_client s.role ≡ true → (f.kind == 3) ≡ true → (number_at f.payload 0 == 0) ≡ true
    → f.stream ≡ n → is_peer_open n s ≡ false → text_of (after_frame s f) n ≡ text_of s n
unfolding reset_of
gentle_at n s f holds on v client kind code here half =
    let judged_so : after_frame s f ≡ effect (record s { began = true }) f = after_frame-judged s f on ∙ ap (λ o. judged s f o) v in
    ap (λ (t : State). text_of t n) judged_so ∙ text_other f n (record s { began = true }) (rises 0 s.opened s.streams holds.rising) (no_other f.kind kind) (λ z st at open_. gentle st at open_)
  where
    t : State
    t = record s { began = true }

    shuts : text_of (on_stream f.stream shut t) n ≡ text_of s n
    shuts = text_tidied 0 n (change s.streams f.stream shut) (climbs_change 0 s.streams f.stream shut (λ x. refl) (climbs 0 s.opened s.streams holds.rising)) ∙ text_change s.streams f.stream n shut (λ x. refl) (λ x. refl)

    gentle : (st : Stream) → stream_at s.streams f.stream ≡ Some st → is_open st ≡ true → text_of (reset_of f st t) n ≡ text_of t n
    gentle st at open_ =
        let at_n : stream_at s.streams n ≡ Some st = ap (λ i. stream_at s.streams i) (sym here) ∙ at in
        let closed : st.peer_open ≡ false = closed_half (is_open st) st.peer_open open_ (ap (passes (λ x. x.peer_open)) (sym at_n) ∙ half) in
        by (is_client s.role) (number_at f.payload 0 == 0) st.peer_open client code closed
      where
        by : (a b c : Bool) → a ≡ true → b ≡ true → c ≡ false → text_of (if a && b && not c then on_stream f.stream shut t else cut_off f.stream (number_at f.payload 0) st t) n ≡ text_of t n
        by true true false x y z = shuts
        by true true true x y z = absurd cc
        by true false c x y z = absurd cc
        by false b c x y z = absurd cc

first_of_both : (a b : Bool) → (a && b) ≡ true → a ≡ true
first_of_both true b h = refl
first_of_both false b h = absurd cc

second_of_both : (a b : Bool) → (a && b) ≡ true → b ≡ true
second_of_both true b h = h
second_of_both false b h = absurd cc

pub gentle_reset : GentleReset
gentle_reset n s f holds on v client reset code half =
    gentle_at n s f holds on v client (first_of_both (f.kind == 3) (f.stream == n) reset) code (eqb-true f.stream n (second_of_both (f.kind == 3) (f.stream == n) reset)) half
