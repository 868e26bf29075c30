-- Each tunnel is in its tables.
use Rattle.std.proofs.Common.{◌≡◌, ℕ, true, false, not, Option, Some, None, refl, ap}
use Rattle.kn_tunnel.specs.ConnectRows.{InOneConnectRow}
use Rattle.kn_tunnel.specs.Facts.{Facts}
use Rattle.kn_tunnel.specs.Kinds.{is_awaited, is_gone}
use Rattle.kn_tunnel.specs.LinkRows.{InOneLinkRow}
use Rattle.kn_tunnel.specs.Outcome.{places}
use Rattle.kn_tunnel.specs.StreamRows.{InStreamRow}
use Rattle.kn_tunnel.proofs.Endings.{awaited_once, places_once}
use Rattle.kn_tunnel.proofs.Rows.{connect_row_of, link_row_of, stream_row_of}
use Rattle.kn_packets.specs.Keys.{Keys}
use Rattle.kn_packets.specs.Phases.{BothHave, Phases}
use Rattle.kn_packets.specs.World.{World, entry_at, tunnel, tunnel_of}

module _ (w : World) (keys : Keys w) where
  by_link : (k d c : ℕ) → (w.apps k).came ≡ true → (w.apps k).dial ≡ Some d → (w.dials d).cid ≡ Some c → BothHave w (w.dials d).link → InOneLinkRow (tunnel w k)
  by_link k d c came de cid both = rw de (link_row_of (tunnel_of w (w.apps k) (Some d)) facts.link (ap not both.0) (ap not both.1) (rw cid refl))
    where
      facts : Facts (tunnel_of w (w.apps k) (Some d))
      facts = rw de at (keys.facts k came)

  by_stream : (k : ℕ) → (w.streams (w.apps k).stream).connect ≡ false → (w.streams (w.apps k).stream).client ≡ true → is_gone (w.streams (w.apps k).stream).front ≡ false → (D : Option ℕ) → Facts (tunnel_of w (w.apps k) D) → InStreamRow (tunnel_of w (w.apps k) D)
  by_stream k of_client there up None facts = stream_row_of (tunnel_of w (w.apps k) None) facts.stream of_client there up
  by_stream k of_client there up (Some d) facts = stream_row_of (tunnel_of w (w.apps k) (Some d)) facts.stream of_client there up

  by_connection : (k : ℕ) → (w.streams (w.apps k).stream).connect ≡ true → (D : Option ℕ) → Facts (tunnel_of w (w.apps k) D) → InOneConnectRow (tunnel_of w (w.apps k) D)
  by_connection k connect None facts = connect_row_of (tunnel_of w (w.apps k) None) facts.stream connect
  by_connection k connect (Some d) facts = connect_row_of (tunnel_of w (w.apps k) (Some d)) facts.stream connect

  stands : (k d : ℕ) → (w.apps k).came ≡ true → (w.apps k).dial ≡ Some d → BothHave w (w.dials d).link → is_awaited (entry_at w.server d) ≡ true → places (tunnel w k) ≡ 1
  stands k d came de both awaited = rw de (awaited_once (tunnel_of w (w.apps k) (Some d)) facts.link (ap not both.0) (ap not both.1) awaited)
    where
      facts : Facts (tunnel_of w (w.apps k) (Some d))
      facts = rw de at (keys.facts k came)

  pub in_phases : Phases w
  in_phases = record {
    links = λ d c cid both. let app = keys.agents.cid_app d c cid in (app.0, app.1, app.2, by_link app.0 d c app.1 app.2 cid both);
    streams = λ k came of_client there up. by_stream k of_client there up (w.apps k).dial (keys.facts k came);
    connections = λ k came connect. by_connection k connect (w.apps k).dial (keys.facts k came);
    once = λ k came. places_once (tunnel w k) (keys.facts k came).link;
    awaited = stands;
    bytes = λ k came. (keys.facts k came).bytes;
  }
