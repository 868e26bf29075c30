-- Losses and resets keep the facts of the stream side: the finite part, by computing it.
use Rattle.std.proofs.Common.{◌≡◌, ◌&&◌, true, false, not, refl, Bool}
use Rattle.kn_tunnel.specs.Kinds.{Zero, implies, is_gone}
use Rattle.kn_tunnel.specs.StreamSide.{StreamView, stream_ok}
use Rattle.kn_tunnel.specs.Tunnel.{Gone, NoHead}
use Rattle.kn_tunnel.proofs.Every.{bools, fews, heads, when}
use Rattle.kn_tunnel.proofs.EveryStream.{ok_streams}
use Rattle.kn_tunnel.proofs.StreamEffects.{front_loss_seen, is_left_out, nothing_to_server, out_left, stream_loss_seen}

abbrev pub fronts_lost_at : StreamView → Bool
fronts_lost_at v = when (not (is_gone v.front)) (heads (λ h. bools (λ d. fews (λ c. when (is_left_out h d c v) (stream_ok (front_loss_seen v.entry (out_left h d c (nothing_to_server (record v { front = Gone })))))))))

pub fronts_lost : ok_streams fronts_lost_at ≡ true
fronts_lost = refl

abbrev pub streams_lost_at : StreamView → Bool
streams_lost_at v = when v.client (bools (λ r. when (implies r v.request) (bools (λ x. when (implies x v.cancel) (bools (λ d. when (implies d v.in_data) (bools (λ q. when (implies q v.in_close) (stream_ok (stream_loss_seen v.connect (record v { request = r; cancel = x; in_data = d; in_close = q })))))))))))

pub streams_lost : ok_streams streams_lost_at ≡ true
streams_lost = refl

abbrev pub ins_reset_at : StreamView → Bool
ins_reset_at v = when (not (is_gone v.front) && not v.client) (stream_ok (nothing_to_server v))

pub ins_reset : ok_streams ins_reset_at ≡ true
ins_reset = refl

abbrev pub outs_reset_at : StreamView → Bool
outs_reset_at v = when (v.client && is_gone v.front) (stream_ok (out_left NoHead false Zero v))

pub outs_reset : ok_streams outs_reset_at ≡ true
outs_reset = refl
