-- Every view of a stream side that meets the facts: field after field, each group of facts tested as soon as its fields are there.
use Rattle.std.proofs.Common.{◌≡◌, Bool, true, false}
use Rattle.kn_tunnel.specs.Kinds.{Zero}
use Rattle.kn_tunnel.specs.StreamSide.{StreamView, app_bytes, in_ok, lost_out, order_out, rows, stream_control, stream_ok}
use Rattle.kn_tunnel.specs.Tunnel.{Gone, NoEntry, NoHead, Ended}
use Rattle.kn_tunnel.proofs.Every.{at_bool, at_entry, at_few, at_front, at_head, at_phase, bools, entries, fews, first, fronts, heads, met, phases, second, when}

abbrev control_fits : StreamView → Bool
control_fits v = stream_control v.connect v.front v.client v.finished v.phase v.entry v.drawn v.request

abbrev in_fits : StreamView → Bool
in_fits v = in_ok v.connect v.front v.entry v.drawn v.request v.cancel v.in_data v.in_close

-- the fields that are not chosen yet
abbrev blank : StreamView
blank = record { connect = false; front = Gone; client = false; finished = false; phase = Ended; entry = NoEntry; drawn = false; request = false; cancel = false; in_data = false; in_close = false; head = NoHead; out_data = false; out_closes = Zero; unwritten = false; got = false }

-- what is asked once a field is chosen: a test of the facts that speak of the fields so far, then every value of the next field

abbrev after_got : (StreamView → Bool) → StreamView → Bool
after_got p v = when (app_bytes v) (p v)

abbrev after_unwritten : (StreamView → Bool) → StreamView → Bool
after_unwritten p v = bools (λ x. after_got p (record v { got = x }))

abbrev after_out_closes : (StreamView → Bool) → StreamView → Bool
after_out_closes p v = when (lost_out v) (when (order_out v) (when (rows v) (bools (λ x. after_unwritten p (record v { unwritten = x })))))

abbrev after_out_data : (StreamView → Bool) → StreamView → Bool
after_out_data p v = fews (λ x. after_out_closes p (record v { out_closes = x }))

abbrev after_head : (StreamView → Bool) → StreamView → Bool
after_head p v = bools (λ x. after_out_data p (record v { out_data = x }))

abbrev after_in_close : (StreamView → Bool) → StreamView → Bool
after_in_close p v = when (in_fits v) (heads (λ x. after_head p (record v { head = x })))

abbrev after_in_data : (StreamView → Bool) → StreamView → Bool
after_in_data p v = bools (λ x. after_in_close p (record v { in_close = x }))

abbrev after_cancel : (StreamView → Bool) → StreamView → Bool
after_cancel p v = bools (λ x. after_in_data p (record v { in_data = x }))

abbrev after_request : (StreamView → Bool) → StreamView → Bool
after_request p v = when (control_fits v) (bools (λ x. after_cancel p (record v { cancel = x })))

abbrev after_drawn : (StreamView → Bool) → StreamView → Bool
after_drawn p v = bools (λ x. after_request p (record v { request = x }))

abbrev after_entry : (StreamView → Bool) → StreamView → Bool
after_entry p v = bools (λ x. after_drawn p (record v { drawn = x }))

abbrev after_phase : (StreamView → Bool) → StreamView → Bool
after_phase p v = entries (λ x. after_entry p (record v { entry = x }))

abbrev after_finished : (StreamView → Bool) → StreamView → Bool
after_finished p v = phases (λ x. after_phase p (record v { phase = x }))

abbrev after_client : (StreamView → Bool) → StreamView → Bool
after_client p v = bools (λ x. after_finished p (record v { finished = x }))

abbrev after_front : (StreamView → Bool) → StreamView → Bool
after_front p v = bools (λ x. after_client p (record v { client = x }))

abbrev after_connect : (StreamView → Bool) → StreamView → Bool
after_connect p v = fronts (λ x. after_front p (record v { front = x }))

abbrev pub ok_streams : (StreamView → Bool) → Bool
ok_streams p = bools (λ x. after_connect p (record blank { connect = x }))

pub at_stream : (p : StreamView → Bool) → ok_streams p ≡ true → (v : StreamView) → stream_ok v ≡ true → p v ≡ true
at_stream p e v h =
    let h0 = first (control_fits v) _ h in let r0 = second (control_fits v) _ h in
    let h1 = first (in_fits v) _ r0 in let r1 = second (in_fits v) _ r0 in
    let h2 = first (lost_out v) _ r1 in let r2 = second (lost_out v) _ r1 in
    let h3 = first (order_out v) _ r2 in let r3 = second (order_out v) _ r2 in
    let h5 = first (app_bytes v) _ r3 in let h4 = second (app_bytes v) _ r3 in
    let v0 : StreamView = record blank { connect = v.connect } in let e0 = at_bool (λ x. after_connect p (record blank { connect = x })) e v.connect in
    let v1 : StreamView = record v0 { front = v.front } in let e1 = at_front (λ x. after_front p (record v0 { front = x })) e0 v.front in
    let v2 : StreamView = record v1 { client = v.client } in let e2 = at_bool (λ x. after_client p (record v1 { client = x })) e1 v.client in
    let v3 : StreamView = record v2 { finished = v.finished } in let e3 = at_bool (λ x. after_finished p (record v2 { finished = x })) e2 v.finished in
    let v4 : StreamView = record v3 { phase = v.phase } in let e4 = at_phase (λ x. after_phase p (record v3 { phase = x })) e3 v.phase in
    let v5 : StreamView = record v4 { entry = v.entry } in let e5 = at_entry (λ x. after_entry p (record v4 { entry = x })) e4 v.entry in
    let v6 : StreamView = record v5 { drawn = v.drawn } in let e6 = at_bool (λ x. after_drawn p (record v5 { drawn = x })) e5 v.drawn in
    let v7 : StreamView = record v6 { request = v.request } in let e7 = at_bool (λ x. after_request p (record v6 { request = x })) e6 v.request in
    let v8 : StreamView = record v7 { cancel = v.cancel } in let e8 = at_bool (λ x. after_cancel p (record v7 { cancel = x })) (met _ _ e7 h0) v.cancel in
    let v9 : StreamView = record v8 { in_data = v.in_data } in let e9 = at_bool (λ x. after_in_data p (record v8 { in_data = x })) e8 v.in_data in
    let v10 : StreamView = record v9 { in_close = v.in_close } in let e10 = at_bool (λ x. after_in_close p (record v9 { in_close = x })) e9 v.in_close in
    let v11 : StreamView = record v10 { head = v.head } in let e11 = at_head (λ x. after_head p (record v10 { head = x })) (met _ _ e10 h1) v.head in
    let v12 : StreamView = record v11 { out_data = v.out_data } in let e12 = at_bool (λ x. after_out_data p (record v11 { out_data = x })) e11 v.out_data in
    let v13 : StreamView = record v12 { out_closes = v.out_closes } in let e13 = at_few (λ x. after_out_closes p (record v12 { out_closes = x })) e12 v.out_closes in
    let v14 : StreamView = record v13 { unwritten = v.unwritten } in let e14 = at_bool (λ x. after_unwritten p (record v13 { unwritten = x })) (met (rows v13) _ (met _ _ (met _ _ e13 h2) h3) h4) v.unwritten in
    let v15 : StreamView = record v14 { got = v.got } in let e15 = at_bool (λ x. after_got p (record v14 { got = x })) e14 v.got in
    met _ _ e15 h5
