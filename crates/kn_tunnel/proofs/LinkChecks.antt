-- Each event keeps the facts of the link side: the finite part, by computing it.
-- Of each event stands here what it does to what is seen of the link side.
use Rattle.std.proofs.Common.{◌≡◌, ◌&&◌, ◌||◌, Bool, true, false, not, cond, refl}
use Rattle.kn_tunnel.specs.Kinds.{Few, Zero, at_most_two, implies, is_asked, is_awaited, is_carrying, is_dialled, is_drawn, is_joined, is_lingering, is_listed, none}
use Rattle.kn_tunnel.specs.LinkSide.{LinkView, link_ok}
use Rattle.kn_tunnel.specs.Tunnel.{Asked, Awaited, Carrying, Closing, Dialled, Entry, Far, Frontless, Joined, Left, Lingering, NoEntry, Undrawn}
use Rattle.kn_tunnel.proofs.Counts.{few_within, next_if, previous}
use Rattle.kn_tunnel.proofs.Every.{bools, fews, when}
use Rattle.kn_tunnel.proofs.EveryLink.{ok_views}

abbrev pub drawn_seen : Bool → LinkView → LinkView
drawn_seen there v = record v { request = false; entry = Awaited; server = true; agent = there; far = cond there Asked Left }

abbrev pub draws_at : LinkView → Bool
draws_at v = when v.request (bools (λ there. link_ok (drawn_seen there v)))

pub draws : ok_views draws_at ≡ true
draws = refl

abbrev pub refusals_sent_at : LinkView → Bool
refusals_sent_at v = link_ok (record v { request = false })

pub refusals_sent : ok_views refusals_sent_at ≡ true
refusals_sent = refl

abbrev pub few_closes_at : LinkView → Bool
few_closes_at v = at_most_two v.up_closes

pub few_closes : ok_views few_closes_at ≡ true
few_closes = refl

abbrev pub cancelled : LinkView → LinkView
cancelled v = record v { entry = cond (is_awaited v.entry) NoEntry v.entry }

abbrev pub cancels_at : LinkView → Bool
cancels_at v = link_ok (cancelled v)

pub cancels : ok_views cancels_at ≡ true
cancels = refl

abbrev pub more_down : Bool → LinkView → LinkView
more_down p v = record v { down_data = cond (is_carrying v.entry && v.agent) (v.down_data || p) v.down_data }

abbrev pub more_downs_at : LinkView → Bool
more_downs_at v = bools (λ p. link_ok (more_down p v))

pub more_downs : ok_views more_downs_at ≡ true
more_downs = refl

abbrev pub asked : LinkView → LinkView
asked v = record v { down_close = v.down_close || v.agent }

abbrev pub front_closed : Entry → LinkView → LinkView
front_closed Carrying v = record (asked v) { entry = Closing }
front_closed e v = v

abbrev pub front_closings_at : LinkView → Bool
front_closings_at v = link_ok (front_closed v.entry v)

pub front_closings : ok_views front_closings_at ≡ true
front_closings = refl

abbrev pub requests_at : LinkView → Bool
requests_at v = when (v.agent && is_asked v.far) (link_ok (record v { far = Dialled }))

pub requests : ok_views requests_at ≡ true
requests = refl

abbrev pub refusals_at : LinkView → Bool
refusals_at v = when (v.agent && (is_asked v.far || is_dialled v.far)) (link_ok (record v { far = Left; refusal = v.server }))

pub refusals : ok_views refusals_at ≡ true
refusals = refl

abbrev pub successes_at : LinkView → Bool
successes_at v = when (v.agent && is_dialled v.far) (link_ok (record v { far = Joined; cid = true; reply = v.server }))

pub successes : ok_views successes_at ≡ true
successes = refl

abbrev pub less_down : Bool → Bool → LinkView → LinkView
less_down p r v = record v { down_data = r; unwritten = cond (is_joined v.far) (v.unwritten || p) v.unwritten; fresh = cond (is_joined v.far) (v.fresh && not p) v.fresh }

abbrev pub less_downs_at : LinkView → Bool
less_downs_at v = bools (λ p. bools (λ r. when (implies (p || r) v.down_data && v.agent) (link_ok (less_down p r v))))

pub less_downs : ok_views less_downs_at ≡ true
less_downs = refl

abbrev pub left : Bool → LinkView → LinkView
left f v = record v { far = Left; unwritten = false; fresh = f; up_closes = next_if v.server v.up_closes }

abbrev pub leavings_at : LinkView → Bool
leavings_at v = when (v.agent && is_listed v.far) (bools (λ f. link_ok (left f v)))

pub leavings : ok_views leavings_at ≡ true
leavings = refl

abbrev pub closed : Far → Bool → LinkView → LinkView
closed Joined f v = cond v.unwritten (record v { far = Lingering }) (left f v)
closed Lingering f v = v
closed far f v = record v { up_closes = next_if v.server v.up_closes }

abbrev pub closings_at : LinkView → Bool
closings_at v = when (v.agent && not v.down_data && v.down_close) (bools (λ f. link_ok (closed v.far f (record v { down_close = false }))))

pub closings : ok_views closings_at ≡ true
closings = refl

abbrev pub more_up : Bool → LinkView → LinkView
more_up p v = record v { up_data = cond (is_joined v.far && v.server) (v.up_data || p) v.up_data }

abbrev pub more_ups_at : LinkView → Bool
more_ups_at v = when (v.agent && is_listed v.far) (bools (λ p. link_ok (more_up p v)))

pub more_ups : ok_views more_ups_at ≡ true
more_ups = refl

abbrev pub wrote : Bool → Bool → LinkView → LinkView
wrote f r v = cond (is_lingering v.far && not r) (left f (record v { unwritten = r })) (record v { unwritten = r })

abbrev pub writings_at : LinkView → Bool
writings_at v = when (v.agent && is_listed v.far) (bools (λ f. bools (λ r. when (implies r v.unwritten) (link_ok (wrote f r v)))))

pub writings : ok_views writings_at ≡ true
writings = refl

abbrev pub refused : Entry → LinkView → LinkView
refused Awaited v = record v { entry = NoEntry }
refused e v = v

abbrev pub refusals_come_at : LinkView → Bool
refusals_come_at v = when v.refusal (link_ok (refused v.entry (record v { refusal = false })))

pub refusals_come : ok_views refusals_come_at ≡ true
refusals_come = refl

abbrev pub replied : Entry → LinkView → LinkView
replied Awaited v = record v { entry = Carrying }
replied NoEntry v = asked v
replied e v = v

abbrev pub replies_come_at : LinkView → Bool
replies_come_at v = when v.reply (link_ok (replied v.entry (record v { reply = false })))

pub replies_come : ok_views replies_come_at ≡ true
replies_come = refl

abbrev pub less_ups_at : LinkView → Bool
less_ups_at v = when (v.server && not v.reply) (bools (λ r. when (implies r v.up_data) (link_ok (record v { up_data = r }))))

pub less_ups : ok_views less_ups_at ≡ true
less_ups = refl

abbrev pub close_replied : Entry → LinkView → LinkView
close_replied Carrying v = record v { entry = NoEntry }
close_replied Closing v = record v { entry = NoEntry }
close_replied Frontless v = record v { entry = NoEntry }
close_replied e v = v

abbrev pub close_replies_come_at : LinkView → Bool
close_replies_come_at v = when (v.server && not v.reply && not v.up_data && not (none v.up_closes)) (link_ok (close_replied v.entry (record v { up_closes = previous v.up_closes })))

pub close_replies_come : ok_views close_replies_come_at ≡ true
close_replies_come = refl

abbrev pub server_lost : Bool → Bool → Bool → LinkView → LinkView
server_lost d c request_kept v = record v { server = false; entry = NoEntry; refusal = false; reply = false; up_data = false; up_closes = Zero; down_data = d; down_close = c; far = cond (is_asked v.far && not request_kept) Left v.far }

abbrev pub server_losses_at : LinkView → Bool
server_losses_at v = when v.server (bools (λ d. bools (λ c. bools (λ k. when (implies d v.down_data && implies c v.down_close) (link_ok (server_lost d c k v))))))

pub server_losses : ok_views server_losses_at ≡ true
server_losses = refl

abbrev pub agent_lost : Bool → Bool → Bool → Few → Bool → LinkView → LinkView
agent_lost e p d c f v = record v { agent = false; far = cond (is_drawn v.far) Left Undrawn; unwritten = false; fresh = f; down_data = false; down_close = false; refusal = e; reply = p; up_data = d; up_closes = c }

abbrev pub agent_losses_at : LinkView → Bool
agent_losses_at v = when v.agent (bools (λ e. when (implies e v.refusal) (bools (λ p. when (implies p v.reply) (bools (λ d. when (implies d v.up_data) (fews (λ c. when (few_within c v.up_closes) (bools (λ f. when (implies v.fresh f) (link_ok (agent_lost e p d c f v))))))))))))

pub agent_losses : ok_views agent_losses_at ≡ true
agent_losses = refl

abbrev pub down_resets_at : LinkView → Bool
down_resets_at v = when (v.agent && not v.server) (link_ok (record v { far = cond (is_asked v.far) Left v.far; down_data = false; down_close = false }))

pub down_resets : ok_views down_resets_at ≡ true
down_resets = refl

abbrev pub up_resets_at : LinkView → Bool
up_resets_at v = when (v.server && not v.agent) (link_ok (record v { refusal = false; reply = false; up_data = false; up_closes = Zero }))

pub up_resets : ok_views up_resets_at ≡ true
up_resets = refl

abbrev pub front_lost : Entry → LinkView → LinkView
front_lost NoEntry v = v
front_lost Awaited v = record v { entry = NoEntry }
front_lost Carrying v = record (asked v) { entry = Frontless }
front_lost Closing v = record v { entry = Frontless }
front_lost Frontless v = v

abbrev pub front_losses_at : LinkView → Bool
front_losses_at v = link_ok (front_lost v.entry (record v { request = false }))

pub front_losses : ok_views front_losses_at ≡ true
front_losses = refl
