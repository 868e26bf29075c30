-- Each is read off the event.
use Rattle.kn_tunnel.proofs.Rules.{app_close_keeps_bytes, cancelled_dial, close_keeps_bytes, close_waits, dialling_app, early_bytes, late_reply, lost_closing_front, lost_link, unawaited_reply}
use Rattle.kn_tunnel.proofs.laws.rules_hold.Goals as goal

pub returns : goal.returns
returns c = record { unawaited_reply = unawaited_reply; late_reply = late_reply; cancelled_dial = cancelled_dial; lost_link = lost_link; closing_front_lost = lost_closing_front; close_keeps_bytes = close_keeps_bytes; app_close_keeps_bytes = app_close_keeps_bytes; close_waits = close_waits; dialling_app = dialling_app; early_bytes = early_bytes }
