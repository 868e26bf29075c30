-- What each event does to what is seen of the stream side.
use Rattle.std.proofs.Common.{◌&&◌, ◌||◌, Bool, true, false, not, cond}
use Rattle.kn_tunnel.specs.Kinds.{Few, Zero, implies, is_gone, left_phase, no_head, none, opened_phase, refused_phase}
use Rattle.kn_tunnel.specs.StreamSide.{StreamView}
use Rattle.kn_tunnel.specs.Tunnel.{Awaited, Carrying, Closing, Dialling, Draining, Ended, Ending, Entry, Frontless, Head, NoEntry, NoHead, Opened, Phase, Refusal, Refused, Reply}
use Rattle.kn_tunnel.proofs.Counts.{few_within, next_if}

abbrev pub refusal_seen : StreamView → StreamView
refusal_seen v = record v { finished = v.finished || v.connect; phase = cond v.connect (refused_phase v.phase) v.phase; head = cond v.client Refusal v.head }

abbrev pub reply_seen : StreamView → StreamView
reply_seen v = record v { phase = cond v.connect (opened_phase v.phase) v.phase; head = cond v.client Reply v.head }

abbrev pub close_seen : StreamView → StreamView
close_seen v = record v { finished = v.finished || v.connect; out_closes = next_if v.client v.out_closes }

abbrev pub front_close_seen : Entry → StreamView → StreamView
front_close_seen Carrying v = record v { entry = Closing }
front_close_seen Closing v = v
front_close_seen e v = close_seen v

abbrev pub refusal_comes_seen : Entry → StreamView → StreamView
refusal_comes_seen Awaited v = record (refusal_seen v) { entry = NoEntry }
refusal_comes_seen e v = v

abbrev pub reply_comes_seen : Entry → StreamView → StreamView
reply_comes_seen Awaited v = record (reply_seen v) { entry = Carrying }
reply_comes_seen e v = v

abbrev pub close_reply_seen : Entry → StreamView → StreamView
close_reply_seen Carrying v = record (close_seen v) { entry = NoEntry }
close_reply_seen Closing v = record (close_seen v) { entry = NoEntry }
close_reply_seen Frontless v = record v { entry = NoEntry }
close_reply_seen e v = v

abbrev pub link_loss_seen : Entry → StreamView → StreamView
link_loss_seen Awaited v = record (refusal_seen v) { entry = NoEntry }
link_loss_seen e v = close_reply_seen e v

abbrev pub front_loss_seen : Entry → StreamView → StreamView
front_loss_seen NoEntry v = v
front_loss_seen Awaited v = record v { entry = NoEntry }
front_loss_seen Carrying v = record v { entry = Frontless }
front_loss_seen Closing v = record v { entry = Frontless }
front_loss_seen Frontless v = v

abbrev pub nothing_to_server : StreamView → StreamView
nothing_to_server v = record v { request = false; cancel = false; in_data = false; in_close = false }

abbrev pub out_left : Head → Bool → Few → StreamView → StreamView
out_left h d c v = record v { head = h; out_data = d; out_closes = c }

abbrev pub phase_seen : Phase → StreamView → StreamView
phase_seen p v = record v { phase = p; unwritten = false }

abbrev pub refused_seen : Phase → StreamView → StreamView
refused_seen Dialling v = phase_seen Refused v
refused_seen p v = v

abbrev pub cancel_in_seen : StreamView → StreamView
cancel_in_seen v = record v { cancel = v.cancel || not (is_gone v.front) }

abbrev pub close_in_seen : StreamView → StreamView
close_in_seen v = record v { in_close = v.in_close || not (is_gone v.front) }

abbrev pub replied_seen : Phase → StreamView → StreamView
replied_seen Dialling v = record v { phase = Opened }
replied_seen p v = close_in_seen v

abbrev pub closed_seen : Phase → StreamView → StreamView
closed_seen Opened v = record v { phase = cond v.unwritten Draining Ended }
closed_seen Ending v = record v { phase = cond v.unwritten Draining Ended }
closed_seen p v = v

abbrev pub lost_seen : Phase → StreamView → StreamView
lost_seen Dialling v = phase_seen Refused v
lost_seen p v = closed_seen p v

abbrev pub ends_seen : Phase → StreamView → StreamView
ends_seen Dialling v = phase_seen Ended (cancel_in_seen v)
ends_seen Opened v = record (close_in_seen v) { phase = Ending }
ends_seen p v = v

abbrev pub fails_seen : Phase → StreamView → StreamView
fails_seen Dialling v = phase_seen Ended (cancel_in_seen v)
fails_seen Opened v = phase_seen Ended (close_in_seen v)
fails_seen Ending v = phase_seen Ended v
fails_seen Draining v = phase_seen Ended v
fails_seen p v = v

abbrev pub connect_leave_seen : StreamView → StreamView
connect_leave_seen v = record v { phase = left_phase v.phase; client = false; head = NoHead; out_data = false; out_closes = Zero }

abbrev pub stream_loss_seen : Bool → StreamView → StreamView
stream_loss_seen true v = connect_leave_seen v
stream_loss_seen false v = record (lost_seen v.phase v) { client = false; head = NoHead; out_data = false; out_closes = Zero }

abbrev pub same_head : Head → Head → Bool
same_head NoHead NoHead = true
same_head Refusal Refusal = true
same_head Reply Reply = true
same_head g h = false

-- so much of the word to the client is left
abbrev pub is_left_out : Head → Bool → Few → StreamView → Bool
is_left_out h d c v = (same_head h v.head || (no_head h && not d && none c)) && implies d v.out_data && few_within c v.out_closes
