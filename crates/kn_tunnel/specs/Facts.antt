-- All that holds of a tunnel.
use Rattle.std.specs.Prelude.{◌≡◌, true}
use Rattle.kn_tunnel.specs.Bytes.{Bytes}
use Rattle.kn_tunnel.specs.LinkSide.{link_ok, link_view}
use Rattle.kn_tunnel.specs.StreamSide.{stream_ok, stream_view}
use Rattle.kn_tunnel.specs.Tunnel.{Tunnel}

pub record Facts (t : Tunnel) : Type 0 where
  pub link : link_ok (link_view t) ≡ true
  pub stream : stream_ok (stream_view t) ≡ true
  pub bytes : Bytes t
