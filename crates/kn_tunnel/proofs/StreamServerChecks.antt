-- What the server takes from a front or says to it keeps the facts of the stream side: the finite part, by computing it.
use Rattle.std.proofs.Common.{◌≡◌, ◌&&◌, true, false, not, cond, refl, Bool}
use Rattle.kn_tunnel.specs.Kinds.{is_awaited, is_carrying, is_coming, is_present}
use Rattle.kn_tunnel.specs.StreamSide.{StreamView, stream_ok}
use Rattle.kn_tunnel.specs.Tunnel.{Awaited, NoEntry, Present}
use Rattle.kn_tunnel.proofs.Every.{when}
use Rattle.kn_tunnel.proofs.EveryStream.{ok_streams}
use Rattle.kn_tunnel.proofs.StreamEffects.{close_reply_seen, front_close_seen, link_loss_seen, refusal_comes_seen, refusal_seen, reply_comes_seen}

abbrev pub fronts_come_at : StreamView → Bool
fronts_come_at v = when (is_coming v.front) (stream_ok (record v { front = Present }))

pub fronts_come : ok_streams fronts_come_at ≡ true
fronts_come = refl

abbrev pub server_refuses_at : StreamView → Bool
server_refuses_at v = when (is_present v.front && v.request) (stream_ok (refusal_seen (record v { request = false })))

pub server_refuses : ok_streams server_refuses_at ≡ true
server_refuses = refl

abbrev pub server_dials_at : StreamView → Bool
server_dials_at v = when (is_present v.front && v.request) (stream_ok (record v { request = false; entry = Awaited; drawn = true }))

pub server_dials : ok_streams server_dials_at ≡ true
server_dials = refl

abbrev pub server_cancels_at : StreamView → Bool
server_cancels_at v = when (is_present v.front && not v.request && v.cancel) (stream_ok (record v { cancel = false; entry = cond (is_awaited v.entry) NoEntry v.entry }))

pub server_cancels : ok_streams server_cancels_at ≡ true
server_cancels = refl

abbrev pub server_takes_in_at : StreamView → Bool
server_takes_in_at v = when (is_present v.front && not v.request && not v.cancel && not (v.connect && is_awaited v.entry)) (stream_ok (record v { in_data = false }))

pub server_takes_in : ok_streams server_takes_in_at ≡ true
server_takes_in = refl

abbrev pub server_takes_close_at : StreamView → Bool
server_takes_close_at v = when (is_present v.front && not v.request && not v.cancel && not v.in_data && v.in_close) (stream_ok (front_close_seen v.entry (record v { in_close = false })))

pub server_takes_close : ok_streams server_takes_close_at ≡ true
server_takes_close = refl

abbrev pub refusals_pass_at : StreamView → Bool
refusals_pass_at v = when (is_awaited v.entry) (stream_ok (refusal_comes_seen v.entry v))

pub refusals_pass : ok_streams refusals_pass_at ≡ true
refusals_pass = refl

abbrev pub replies_pass_at : StreamView → Bool
replies_pass_at v = when (is_awaited v.entry) (stream_ok (reply_comes_seen v.entry v))

pub replies_pass : ok_streams replies_pass_at ≡ true
replies_pass = refl

abbrev pub data_passes_at : StreamView → Bool
data_passes_at v = when (is_carrying v.entry && v.client) (stream_ok (record v { out_data = true }))

pub data_passes : ok_streams data_passes_at ≡ true
data_passes = refl

abbrev pub closes_pass_at : StreamView → Bool
closes_pass_at v = stream_ok (link_loss_seen v.entry v)

pub closes_pass : ok_streams closes_pass_at ≡ true
closes_pass = refl

abbrev pub closes_reply_at : StreamView → Bool
closes_reply_at v = stream_ok (close_reply_seen v.entry v)

pub closes_reply : ok_streams closes_reply_at ≡ true
closes_reply = refl
