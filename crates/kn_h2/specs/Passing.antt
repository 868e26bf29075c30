-- What an effect rests on: tests of the rules that the frame did not fail (RFC 9113, sections 4 to 6).
use Rattle.std.specs.Prelude.{◌≡◌, pos, ◌+◌, ◌%◌, ◌==◌, nat_le, nat_lt, false, not, ◌&&◌, ◌||◌, length}
use Rattle.kn_frames.specs.declared.frame.Frame.{Frame}
use Rattle.kn_windows.specs.Windows.{can_grow}
use Rattle.kn_h2_state.specs.declared.state.State.{State}
use Rattle.kn_h2_state.specs.Limits.{block_limit}
use Rattle.kn_h2_state.specs.Streams.{on_open}
use Rattle.kn_h2_state.specs.Payloads.{field_bytes, padding, increment_of, settings_of}
use Rattle.kn_h2_state.specs.Rules.{is_client, is_idle, breaks_block, block_with, is_of_block, breaks_windows, is_on_wrong_stream, has_wrong_length, is_on_idle, is_over_window}

pub record Passes (s : State) (f : Frame) : Type 0 where
  pub block : breaks_block s f ≡ false
  pub stream : is_on_wrong_stream f ≡ false
  pub long : has_wrong_length f ≡ false
  pub fields : (nat_le f.kind 1 && nat_lt (length f.payload) (field_bytes f)) ≡ false
  pub padding : (nat_le f.kind 1 && nat_lt (length f.payload) (field_bytes f + padding f)) ≡ false
  pub settings : ((f.kind == 4) && breaks_windows s.initial s.streams (settings_of f.payload)) ≡ false
  pub grant : ((f.kind == 8) && (f.stream == 0) && not (can_grow s.send (pos (increment_of f.payload)))) ≡ false
  pub grant_one : ((f.kind == 8) && on_open s.streams f.stream (λ st. not (can_grow st.send (pos (increment_of f.payload))))) ≡ false
  pub idle : is_on_idle s f ≡ false
  pub head : ((f.kind == 1) && ((f.stream % 2 == 0) || (is_client s.role && is_idle s f.stream))) ≡ false
  pub window : is_over_window s f ≡ false
  pub half : (nat_le f.kind 1 && on_open s.streams f.stream (λ st. not st.peer_open)) ≡ false
  pub bounded : (is_of_block f && nat_lt block_limit (length (block_with s f))) ≡ false
