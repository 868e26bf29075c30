-- Each event keeps all that holds of a tunnel.
use Rattle.std.proofs.Common.{◌≡◌, Bool, true, false, List, inl, inr, refl, sym, subst}
use Rattle.kn_tunnel.specs.Events.{Event}
use Rattle.kn_tunnel.specs.Facts.{Facts}
use Rattle.kn_tunnel.specs.Outcome.{Reached}
use Rattle.kn_tunnel.specs.Steps.{Follows, Makes, May, after, start}
use Rattle.kn_tunnel.specs.StreamSide.{stream_ok, stream_view}
use Rattle.kn_tunnel.specs.Tunnel.{Tunnel}
use Rattle.kn_tunnel.proofs.ByteSteps.{flow_kept, starts_empty}
use Rattle.kn_tunnel.proofs.Flows.{bytes_of, flow_of}
use Rattle.kn_tunnel.proofs.LinkSteps.{link_kept}
use Rattle.kn_tunnel.proofs.Runs.{makes_keep}
use Rattle.kn_tunnel.proofs.StreamSteps.{stream_kept}

pub facts_kept : (e : Event) (t : Tunnel) → May e t → Facts t → Facts (after e t)
facts_kept e t m h = record { link = link_kept e t m h.link; stream = stream_kept e t m h.stream; bytes = bytes_of (after e t) (flow_kept e t m h.link h.stream (flow_of t h.bytes)) }

stream_starts : (connect : Bool) → stream_ok (stream_view (start connect)) ≡ true
stream_starts true = refl
stream_starts false = refl

pub facts_start : (connect : Bool) → Facts (start connect)
facts_start connect = record { link = refl; stream = stream_starts connect; bytes = starts_empty connect }

pub facts_hold : (connect : Bool) (es : List Event) (t : Tunnel) → Makes (start connect) es t → Facts t
facts_hold connect es t m = makes_keep Facts facts_kept es (start connect) t m (facts_start connect)

pub reached_facts : (t : Tunnel) → Reached t → Facts t
reached_facts t r = facts_hold r.connect r.events t r.made

pub facts_followed : (old new : Tunnel) → Follows old new → Facts old → Facts new
facts_followed old new (inl e) h = subst Facts (sym e) h
facts_followed old new (inr s) h = subst Facts (sym s.2) (facts_kept s.0 old s.1 h)
