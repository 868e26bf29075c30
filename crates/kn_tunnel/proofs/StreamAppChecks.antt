-- What the client takes, and what its app does, keeps the facts of the stream side: the finite part, by computing it.
use Rattle.std.proofs.Common.{◌≡◌, ◌&&◌, ◌||◌, true, not, cond, refl, Bool}
use Rattle.kn_tunnel.specs.Kinds.{implies, is_dialling, is_draining, is_gone, is_here, is_opened, is_refusal, is_reply, no_head, none}
use Rattle.kn_tunnel.specs.StreamSide.{StreamView, stream_ok}
use Rattle.kn_tunnel.specs.Tunnel.{Ended, NoHead}
use Rattle.kn_tunnel.proofs.Counts.{few_within, next}
use Rattle.kn_tunnel.proofs.Every.{bools, fews, when}
use Rattle.kn_tunnel.proofs.EveryStream.{ok_streams}
use Rattle.kn_tunnel.proofs.StreamEffects.{closed_seen, connect_leave_seen, ends_seen, fails_seen, refused_seen, replied_seen}

abbrev pub client_refused_at : StreamView → Bool
client_refused_at v = when (v.client && not v.connect && is_refusal v.head) (stream_ok (refused_seen v.phase (record v { head = NoHead })))

pub client_refused : ok_streams client_refused_at ≡ true
client_refused = refl

abbrev pub client_replied_at : StreamView → Bool
client_replied_at v = when (v.client && not v.connect && is_reply v.head) (stream_ok (replied_seen v.phase (record v { head = NoHead })))

pub client_replied : ok_streams client_replied_at ≡ true
client_replied = refl

abbrev pub client_takes_at : StreamView → Bool
client_takes_at v = when (v.client && not v.connect && no_head v.head) (bools (λ p. bools (λ r. when (implies (p || r) v.out_data) (stream_ok (record v { out_data = r; unwritten = cond (is_opened v.phase) (v.unwritten || p) v.unwritten })))))

pub client_takes : ok_streams client_takes_at ≡ true
client_takes = refl

abbrev pub client_closed_at : StreamView → Bool
client_closed_at v = when (v.client && not v.connect && no_head v.head && not v.out_data && not (none v.out_closes)) (fews (λ c. when (few_within c v.out_closes && few_within v.out_closes (next c)) (stream_ok (closed_seen v.phase (record v { out_closes = c })))))

pub client_closed : ok_streams client_closed_at ≡ true
client_closed = refl

abbrev pub app_hands_at : StreamView → Bool
app_hands_at v = when ((is_opened v.phase || (v.connect && is_dialling v.phase)) && not (is_gone v.front)) (stream_ok (record v { in_data = true }))

pub app_hands : ok_streams app_hands_at ≡ true
app_hands = refl

abbrev pub app_wrote_at : StreamView → Bool
app_wrote_at v = when (not v.connect && is_here v.phase) (bools (λ p. bools (λ r. when (implies (p || r) v.unwritten) (stream_ok (record v { unwritten = r; got = v.got || p; phase = cond (is_draining v.phase && not r) Ended v.phase })))))

pub app_wrote : ok_streams app_wrote_at ≡ true
app_wrote = refl

abbrev pub app_ends_at : StreamView → Bool
app_ends_at v = when (not v.connect) (stream_ok (ends_seen v.phase v))

pub app_ends : ok_streams app_ends_at ≡ true
app_ends = refl

abbrev pub app_fails_at : StreamView → Bool
app_fails_at v = when (not v.connect) (stream_ok (fails_seen v.phase v))

pub app_fails : ok_streams app_fails_at ≡ true
app_fails = refl

abbrev pub connect_replied_at : StreamView → Bool
connect_replied_at v = when (v.client && v.connect && is_reply v.head) (stream_ok (record v { head = NoHead }))

pub connect_replied : ok_streams connect_replied_at ≡ true
connect_replied = refl

abbrev pub connect_takes_at : StreamView → Bool
connect_takes_at v = when (v.client && v.connect && no_head v.head) (bools (λ p. bools (λ r. when (implies (p || r) v.out_data) (stream_ok (record v { out_data = r; got = v.got || p })))))

pub connect_takes : ok_streams connect_takes_at ≡ true
connect_takes = refl

abbrev pub connect_left_at : StreamView → Bool
connect_left_at v = when (v.client && v.connect) (stream_ok (connect_leave_seen v))

pub connect_left : ok_streams connect_left_at ≡ true
connect_left = refl
