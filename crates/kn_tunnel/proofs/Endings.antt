-- What a quiet and closed tunnel leaves, and where a dial stands on its way.
use Rattle.std.proofs.Common.{◌≡◌, ◌≤◌, ◌&&◌, true}
use Rattle.kn_tunnel.specs.Kinds.{is_awaited}
use Rattle.kn_tunnel.specs.LinkSide.{link_ok, link_view}
use Rattle.kn_tunnel.specs.Outcome.{is_closed, is_emptied, is_quiet, places}
use Rattle.kn_tunnel.specs.Tunnel.{Tunnel}
use Rattle.kn_tunnel.proofs.Claims.{at_most_1_is, awaited_places, awaited_places_at, emptied_at, emptied_row, places_at, places_row}
use Rattle.kn_tunnel.proofs.Every.{met}
use Rattle.kn_tunnel.proofs.EveryLink.{at_ok}
use Rattle.kn_tunnel.proofs.ListBits.{both}
use Rattle.kn_tunnel.proofs.Rows.{one_is}

pub emptied : (t : Tunnel) → link_ok (link_view t) ≡ true → is_quiet t ≡ true → is_closed t ≡ true → is_emptied t ≡ true
emptied t h q c = met _ _ (at_ok emptied_at emptied_row (link_view t) h) (both (is_quiet t) (is_closed t) q c)

pub places_once : (t : Tunnel) → link_ok (link_view t) ≡ true → places t ≤ 1
places_once t h = at_most_1_is (places t) (at_ok places_at places_row (link_view t) h)

pub awaited_once : (t : Tunnel) → link_ok (link_view t) ≡ true → t.server ≡ true → t.agent ≡ true → is_awaited t.entry ≡ true → places t ≡ 1
awaited_once t h s a w = one_is (places t) (met _ _ (at_ok awaited_places_at awaited_places (link_view t) h) (both (t.server && t.agent) (is_awaited t.entry) (both t.server t.agent s a) w))
