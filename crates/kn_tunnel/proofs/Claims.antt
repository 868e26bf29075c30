-- What follows from the facts, by computing it at every view that meets them.
use Rattle.std.proofs.Common.{◌≡◌, ◌≤◌, ◌+◌, ◌&&◌, ◌||◌, ℕ, Bool, true, false, not, zero, suc, refl, arith}
use Rattle.kn_tunnel.specs.Kinds.{both_or_neither, has, implies, is_asked, is_awaited, is_carrying, is_dialled, is_dialling, is_draining, is_drawn, is_held, is_lingering, is_listed, is_opened, is_present, needs_front, no_entry, none}
use Rattle.kn_tunnel.specs.LinkRows.{one_if}
use Rattle.kn_tunnel.specs.LinkSide.{LinkView, link_ok, link_view, no_cid}
use Rattle.kn_tunnel.specs.StreamRows.{is_ending}
use Rattle.kn_tunnel.specs.StreamSide.{StreamView, stream_ok, stream_view}
use Rattle.kn_tunnel.specs.Tunnel.{Tunnel}
use Rattle.kn_tunnel.proofs.Every.{when}
use Rattle.kn_tunnel.proofs.EveryLink.{at_ok, ok_views}
use Rattle.kn_tunnel.proofs.EveryStream.{at_stream, ok_streams}
use Rattle.kn_tunnel.proofs.Rows.{is_one}

-- every connection that an agent holds is accounted for
abbrev accounted_at : LinkView → Bool
accounted_at v = implies (is_listed v.far) (is_carrying v.entry || v.reply || v.down_close || is_lingering v.far || not v.server)

accounted_row : ok_views accounted_at ≡ true
accounted_row = refl

pub accounted : (t : Tunnel) → link_ok (link_view t) ≡ true → implies (is_listed t.far) (is_carrying t.entry || t.up.reply || t.down.close || is_lingering t.far || not t.server) ≡ true
accounted t h = at_ok accounted_at accounted_row (link_view t) h

-- a connectID that was not drawn stands nowhere
abbrev undrawn_nowhere_at : LinkView → Bool
undrawn_nowhere_at v = implies (not v.cid) (no_cid v)

undrawn_nowhere_row : ok_views undrawn_nowhere_at ≡ true
undrawn_nowhere_row = refl

pub undrawn_nowhere : (t : Tunnel) → link_ok (link_view t) ≡ true → implies (not t.cid) (no_cid (link_view t)) ≡ true
undrawn_nowhere t h = at_ok undrawn_nowhere_at undrawn_nowhere_row (link_view t) h

-- a reply finds no held entry
abbrev reply_once_at : LinkView → Bool
reply_once_at v = implies v.reply (not (is_held v.entry))

reply_once_row : ok_views reply_once_at ≡ true
reply_once_row = refl

pub reply_once : (t : Tunnel) → link_ok (link_view t) ≡ true → implies t.up.reply (not (is_held t.entry)) ≡ true
reply_once t h = at_ok reply_once_at reply_once_row (link_view t) h

-- an entry stands on a link that the server has
abbrev entry_linked_at : LinkView → Bool
entry_linked_at v = implies (not v.server) (no_entry v.entry)

entry_linked_row : ok_views entry_linked_at ≡ true
entry_linked_row = refl

pub entry_linked : (t : Tunnel) → link_ok (link_view t) ≡ true → implies (not t.server) (no_entry t.entry) ≡ true
entry_linked t h = at_ok entry_linked_at entry_linked_row (link_view t) h

-- an entry that is awaited, open or closing with a front has it at the server
abbrev entry_fronted_at : StreamView → Bool
entry_fronted_at v = implies (not (is_present v.front)) (not (needs_front v.entry))

entry_fronted_row : ok_streams entry_fronted_at ≡ true
entry_fronted_row = refl

pub entry_fronted : (t : Tunnel) → stream_ok (stream_view t) ≡ true → implies (not (is_present t.front)) (not (needs_front t.entry)) ≡ true
entry_fronted t h = at_stream entry_fronted_at entry_fronted_row (stream_view t) h

-- an app that is open, ended or drains has its dial
abbrev app_dialled_at : StreamView → Bool
app_dialled_at v = implies (is_opened v.phase || is_ending v.phase || is_draining v.phase) v.drawn

app_dialled_row : ok_streams app_dialled_at ≡ true
app_dialled_row = refl

pub app_dialled : (t : Tunnel) → stream_ok (stream_view t) ≡ true → implies (is_opened t.phase || is_ending t.phase || is_draining t.phase) ((is_drawn t.far)) ≡ true
app_dialled t h = at_stream app_dialled_at app_dialled_row (stream_view t) h

-- an app that dials got nothing and has nothing unwritten
abbrev dialling_empty_at : StreamView → Bool
dialling_empty_at v = implies (is_dialling v.phase) (not v.got && not v.unwritten)

dialling_empty_row : ok_streams dialling_empty_at ≡ true
dialling_empty_row = refl

pub dialling_empty : (t : Tunnel) → stream_ok (stream_view t) ≡ true → implies (is_dialling t.phase) (not (has t.app.got) && not (has t.app.unwritten)) ≡ true
dialling_empty t h = at_stream dialling_empty_at dialling_empty_row (stream_view t) h

-- a quiet and closed tunnel leaves nothing
abbrev pub quiet_seen : LinkView → Bool
quiet_seen v =
    not (is_asked v.far) && not (is_dialled v.far) && not (is_lingering v.far) && both_or_neither v.server v.agent
    && implies v.server (not v.refusal && not v.reply && not v.up_data && none v.up_closes)
    && implies v.agent (not v.down_data && not v.down_close)

abbrev pub emptied_at : LinkView → Bool
emptied_at v = when (quiet_seen v && (not (is_awaited v.entry) && not (is_carrying v.entry))) (no_entry v.entry && not (is_asked v.far) && not (is_dialled v.far) && not (is_listed v.far))

pub emptied_row : ok_views emptied_at ≡ true
emptied_row = refl

-- a dial's number stands at most once on its way, and an awaited one exactly once

abbrev pub places_seen : LinkView → ℕ
places_seen v = one_if (is_asked v.far) + one_if (is_dialled v.far) + one_if v.refusal + one_if v.reply

abbrev pub at_most_1 : ℕ → Bool
at_most_1 zero = true
at_most_1 (suc zero) = true
at_most_1 (suc (suc n)) = false

pub at_most_1_is : (n : ℕ) → at_most_1 n ≡ true → n ≤ 1
at_most_1_is zero e = omega arith
at_most_1_is (suc zero) e = omega arith
at_most_1_is (suc (suc n)) e = absurd cc

abbrev pub places_at : LinkView → Bool
places_at v = at_most_1 (places_seen v)

pub places_row : ok_views places_at ≡ true
places_row = refl

abbrev pub awaited_places_at : LinkView → Bool
awaited_places_at v = when (v.server && v.agent && is_awaited v.entry) (is_one (places_seen v))

pub awaited_places : ok_views awaited_places_at ≡ true
awaited_places = refl
