-- A piece of the peer's bytes, by what was cut of it.
use Rattle.std.proofs.Common.{◌≡◌, ℕ, true, false, not, List, Some, None, is_some, refl, ap, ◌∙◌}
use Rattle.kn_frames.specs.declared.frame.Frame.{Frame}
use Rattle.kn_frames.specs.declared.fault.FrameFault.{FrameFault}
use Rattle.kn_frames.specs.Readers.{Reading, start, after_bytes, frames_in, fault_in}
use Rattle.kn_h2_state.specs.declared.role.Role.{Role}
use Rattle.kn_h2_state.specs.declared.state.State.{State}
use Rattle.kn_h2_state.specs.Rules.{is_client}
use Rattle.kn_h2_state.specs.Feeding.{after_frames, after_fault, after_piece}
use Rattle.kn_h2_state.specs.Calls.{fresh_state, fresh}
use Rattle.kn_h2.specs.Connections.{connection}

pub piece_over : (r : Reading) (s : State) (piece : List ℕ) → is_some s.failed ≡ true → connection r s ≡ after_piece (connection r s) piece
unfolding after_piece
piece_over r s piece over = rw over refl

piece_read : (r : Reading) (s : State) (piece : List ℕ) → is_some s.failed ≡ false
    → connection (after_bytes r piece) (after_fault (after_frames s (frames_in r piece)) (fault_in (after_bytes r piece).phase)) ≡ after_piece (connection r s) piece
unfolding after_piece
piece_read r s piece going = rw going refl

pub read_whole : (r read : Reading) (s new : State) (piece : List ℕ) (frames : List Frame) → is_some s.failed ≡ false → read ≡ after_bytes r piece → frames ≡ frames_in r piece
    → None ≡ fault_in read.phase → new ≡ after_frames s frames → connection read new ≡ after_piece (connection r s) piece
read_whole r read s new piece frames going cut whole fault after =
    let none : None ≡ fault_in (after_bytes r piece).phase = fault ∙ ap (λ (x : Reading). fault_in x.phase) cut in
    ap (λ x. connection x new) cut
    ∙ ap (connection (after_bytes r piece)) (after ∙ ap (after_frames s) whole ∙ ap (after_fault (after_frames s (frames_in r piece))) none)
    ∙ piece_read r s piece going

pub read_fault : (r read : Reading) (s mid new : State) (piece : List ℕ) (frames : List Frame) (fault : FrameFault) → is_some s.failed ≡ false → read ≡ after_bytes r piece → frames ≡ frames_in r piece
    → Some fault ≡ fault_in read.phase → mid ≡ after_frames s frames → new ≡ after_fault mid (Some fault) → connection read new ≡ after_piece (connection r s) piece
read_fault r read s mid new piece frames fault going cut whole broke after last =
    let some : Some fault ≡ fault_in (after_bytes r piece).phase = broke ∙ ap (λ (x : Reading). fault_in x.phase) cut in
    ap (λ x. connection x new) cut
    ∙ ap (connection (after_bytes r piece)) (last ∙ ap (λ t. after_fault t (Some fault)) (after ∙ ap (after_frames s) whole) ∙ ap (after_fault (after_frames s (frames_in r piece))) some)
    ∙ piece_read r s piece going

pub fresh_is : (role : Role) (r : Reading) (s : State) → r ≡ start (not (is_client role)) → s ≡ fresh_state role → connection r s ≡ fresh role
unfolding fresh
fresh_is role r s cut state = ap (λ x. connection x s) cut ∙ ap (connection (start (not (is_client role)))) state
