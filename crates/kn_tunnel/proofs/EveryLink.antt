-- Every view of a link side that meets the facts: field after field, what the ends hold tested before what is in flight.
use Rattle.std.proofs.Common.{◌≡◌, Bool, true, false}
use Rattle.kn_tunnel.specs.Kinds.{Zero}
use Rattle.kn_tunnel.specs.LinkSide.{LinkView, control_ok, link_ok, up_ok, words_ok}
use Rattle.kn_tunnel.specs.Tunnel.{NoEntry, Undrawn}
use Rattle.kn_tunnel.proofs.Every.{at_bool, at_entry, at_far, at_few, bools, entries, fars, fews, first, met, second, when}

abbrev control_fits : LinkView → Bool
control_fits v = control_ok v.entry v.far v.server v.agent v.cid v.request

-- the fields that are not chosen yet
abbrev blank : LinkView
blank = record { server = false; agent = false; entry = NoEntry; far = Undrawn; cid = false; request = false; fresh = false; unwritten = false; refusal = false; reply = false; up_data = false; up_closes = Zero; down_data = false; down_close = false }

-- what is asked once a field is chosen: a test of the facts that speak of the fields so far, then every value of the next field

abbrev after_down_close : (LinkView → Bool) → LinkView → Bool
after_down_close p v = when (words_ok v) (p v)

abbrev after_down_data : (LinkView → Bool) → LinkView → Bool
after_down_data p v = bools (λ x. after_down_close p (record v { down_close = x }))

abbrev after_unwritten : (LinkView → Bool) → LinkView → Bool
after_unwritten p v = bools (λ x. after_down_data p (record v { down_data = x }))

abbrev after_fresh : (LinkView → Bool) → LinkView → Bool
after_fresh p v = bools (λ x. after_unwritten p (record v { unwritten = x }))

abbrev after_up_closes : (LinkView → Bool) → LinkView → Bool
after_up_closes p v = when (up_ok v) (bools (λ x. after_fresh p (record v { fresh = x })))

abbrev after_up_data : (LinkView → Bool) → LinkView → Bool
after_up_data p v = fews (λ x. after_up_closes p (record v { up_closes = x }))

abbrev after_reply : (LinkView → Bool) → LinkView → Bool
after_reply p v = bools (λ x. after_up_data p (record v { up_data = x }))

abbrev after_refusal : (LinkView → Bool) → LinkView → Bool
after_refusal p v = bools (λ x. after_reply p (record v { reply = x }))

abbrev after_request : (LinkView → Bool) → LinkView → Bool
after_request p v = when (control_fits v) (bools (λ x. after_refusal p (record v { refusal = x })))

abbrev after_cid : (LinkView → Bool) → LinkView → Bool
after_cid p v = bools (λ x. after_request p (record v { request = x }))

abbrev after_agent : (LinkView → Bool) → LinkView → Bool
after_agent p v = bools (λ x. after_cid p (record v { cid = x }))

abbrev after_server : (LinkView → Bool) → LinkView → Bool
after_server p v = bools (λ x. after_agent p (record v { agent = x }))

abbrev after_far : (LinkView → Bool) → LinkView → Bool
after_far p v = bools (λ x. after_server p (record v { server = x }))

abbrev after_entry : (LinkView → Bool) → LinkView → Bool
after_entry p v = fars (λ x. after_far p (record v { far = x }))

abbrev pub ok_views : (LinkView → Bool) → Bool
ok_views p = entries (λ x. after_entry p (record blank { entry = x }))

pub at_ok : (p : LinkView → Bool) → ok_views p ≡ true → (v : LinkView) → link_ok v ≡ true → p v ≡ true
at_ok p e v h =
    let h0 = first (control_fits v) _ h in let r0 = second (control_fits v) _ h in
    let h1 = first (up_ok v) _ r0 in let h2 = second (up_ok v) _ r0 in
    let v0 : LinkView = record blank { entry = v.entry } in let e0 = at_entry (λ x. after_entry p (record blank { entry = x })) e v.entry in
    let v1 : LinkView = record v0 { far = v.far } in let e1 = at_far (λ x. after_far p (record v0 { far = x })) e0 v.far in
    let v2 : LinkView = record v1 { server = v.server } in let e2 = at_bool (λ x. after_server p (record v1 { server = x })) e1 v.server in
    let v3 : LinkView = record v2 { agent = v.agent } in let e3 = at_bool (λ x. after_agent p (record v2 { agent = x })) e2 v.agent in
    let v4 : LinkView = record v3 { cid = v.cid } in let e4 = at_bool (λ x. after_cid p (record v3 { cid = x })) e3 v.cid in
    let v5 : LinkView = record v4 { request = v.request } in let e5 = at_bool (λ x. after_request p (record v4 { request = x })) e4 v.request in
    let v6 : LinkView = record v5 { refusal = v.refusal } in let e6 = at_bool (λ x. after_refusal p (record v5 { refusal = x })) (met (control_fits v5) _ e5 h0) v.refusal in
    let v7 : LinkView = record v6 { reply = v.reply } in let e7 = at_bool (λ x. after_reply p (record v6 { reply = x })) e6 v.reply in
    let v8 : LinkView = record v7 { up_data = v.up_data } in let e8 = at_bool (λ x. after_up_data p (record v7 { up_data = x })) e7 v.up_data in
    let v9 : LinkView = record v8 { up_closes = v.up_closes } in let e9 = at_few (λ x. after_up_closes p (record v8 { up_closes = x })) e8 v.up_closes in
    let v10 : LinkView = record v9 { fresh = v.fresh } in let e10 = at_bool (λ x. after_fresh p (record v9 { fresh = x })) (met (up_ok v9) _ e9 h1) v.fresh in
    let v11 : LinkView = record v10 { unwritten = v.unwritten } in let e11 = at_bool (λ x. after_unwritten p (record v10 { unwritten = x })) e10 v.unwritten in
    let v12 : LinkView = record v11 { down_data = v.down_data } in let e12 = at_bool (λ x. after_down_data p (record v11 { down_data = x })) e11 v.down_data in
    let v13 : LinkView = record v12 { down_close = v.down_close } in let e13 = at_bool (λ x. after_down_close p (record v12 { down_close = x })) e12 v.down_close in
    met (words_ok v13) _ e13 h2
