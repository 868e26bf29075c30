-- What the ends hold of a tunnel fits together.
use Rattle.std.proofs.Common.{[], ◌++◌, ap, ◌∙◌, ◌≡◌, ◌||◌, ◌&&◌, Bool, true, false, not, refl}
use Rattle.kn_tunnel.specs.Bytes.{app_has}
use Rattle.kn_tunnel.specs.Facts.{Facts}
use Rattle.kn_tunnel.specs.Kinds.{has, implies, is_dialling, is_draining, is_drawn, is_held, is_opened, is_present, needs_front, no_entry}
use Rattle.kn_tunnel.specs.LinkSide.{link_view, no_cid}
use Rattle.kn_tunnel.specs.StreamRows.{is_ending}
use Rattle.kn_tunnel.specs.Tunnel.{Tunnel}
use Rattle.kn_tunnel.proofs.Claims.{app_dialled, dialling_empty, entry_fronted, entry_linked, reply_once, undrawn_nowhere}
use Rattle.kn_tunnel.proofs.Every.{first, second}
use Rattle.kn_tunnel.proofs.Lists.{is_false, never, not_both, nothing, says}

other_way : (a b : Bool) → implies (not a) b ≡ true → b ≡ false → a ≡ true
other_way true b e f = refl
other_way false b e f = absurd (never b f e)

other_not : (a b : Bool) → implies (not a) (not b) ≡ true → b ≡ true → a ≡ true
other_not true b e f = refl
other_not false b e f = absurd (not_both b e f)

pub holding_link : (t : Tunnel) → Facts t → no_entry t.entry ≡ false → t.server ≡ true
holding_link t h e = other_way t.server (no_entry t.entry) (entry_linked t h.link) e

pub holding_front : (t : Tunnel) → Facts t → needs_front t.entry ≡ true → is_present t.front ≡ true
holding_front t h e = other_not (is_present t.front) (needs_front t.entry) (entry_fronted t h.stream) e

pub holding_dial : (t : Tunnel) → Facts t → (is_opened t.phase || is_ending t.phase || is_draining t.phase) ≡ true → is_drawn t.far ≡ true
holding_dial t h e = says (is_opened t.phase || is_ending t.phase || is_draining t.phase) (is_drawn t.far) (app_dialled t h.stream) e

pub holding_undrawn : (t : Tunnel) → Facts t → t.cid ≡ false → no_cid (link_view t) ≡ true
holding_undrawn t h e = says (not t.cid) (no_cid (link_view t)) (undrawn_nowhere t h.link) (ap not e)

pub holding_reply : (t : Tunnel) → Facts t → t.up.reply ≡ true → is_held t.entry ≡ false
holding_reply t h e = is_false (is_held t.entry) (says t.up.reply (not (is_held t.entry)) (reply_once t h.link) e)

pub holding_dialling : (t : Tunnel) → Facts t → is_dialling t.phase ≡ true → app_has t ≡ []
holding_dialling t h e =
    let none = says (is_dialling t.phase) (not (has t.app.got) && not (has t.app.unwritten)) (dialling_empty t h.stream) e in
    ap (λ x. x ++ t.app.unwritten) (nothing t.app.got (first (not (has t.app.got)) (not (has t.app.unwritten)) none)) ∙ nothing t.app.unwritten (second (not (has t.app.got)) (not (has t.app.unwritten)) none)
