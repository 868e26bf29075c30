-- What each event keeps holds after every list of events, and a run goes on by one event more.
use Rattle.std.proofs.Common.{List, [], ◌∷◌, ◌++◌, Bool, inl, inr, refl, sym, ap, subst}
use Rattle.kn_tunnel.specs.Events.{Event}
use Rattle.kn_tunnel.specs.Outcome.{Reached}
use Rattle.kn_tunnel.specs.Steps.{Follows, Makes, May, after, start}
use Rattle.kn_tunnel.specs.Tunnel.{Tunnel}

pub makes_keep : (P : Tunnel → Type 0) → ((e : Event) (t : Tunnel) → May e t → P t → P (after e t)) → (es : List Event) (old new : Tunnel) → Makes old es new → P old → P new
makes_keep P k [] old new m h = subst P m h
makes_keep P k (e ∷ es) old new m h = makes_keep P k es (after e old) new m.1 (k e old m.0 h)

makes_one_more : (es : List Event) (old mid : Tunnel) (e : Event) → Makes old es mid → May e mid → Makes old (es ++ e ∷ []) (after e mid)
makes_one_more [] old mid e m g = (subst (May e) (sym m) g, ap (after e) m)
makes_one_more (f ∷ es) old mid e m g = (m.0, makes_one_more es (after f old) mid e m.1 g)

pub reached_start : (connect : Bool) → Reached (start connect)
reached_start connect = record { connect = connect; events = []; made = refl }

pub reached_after : (e : Event) (t : Tunnel) → May e t → Reached t → Reached (after e t)
reached_after e t g r = record { connect = r.connect; events = r.events ++ e ∷ []; made = makes_one_more r.events (start r.connect) t e r.made g }

pub reached_followed : (old new : Tunnel) → Follows old new → Reached old → Reached new
reached_followed old new (inl e) r = subst Reached (sym e) r
reached_followed old new (inr s) r = subst Reached (sym s.2) (reached_after s.0 old s.1 r)
