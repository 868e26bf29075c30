-- Each holds at every view that meets the facts.
use Rattle.kn_tunnel.proofs.Endings.{awaited_once, places_once}
use Rattle.kn_tunnel.proofs.Holdings.{holding_dial, holding_dialling, holding_front, holding_link, holding_reply, holding_undrawn}
use Rattle.kn_tunnel.proofs.laws.holdings_fit.Goals as goal

pub returns : goal.returns
returns c = record { entry_has_link = holding_link; entry_has_front = holding_front; app_has_dial = holding_dial; dialling_has_nothing = holding_dialling; undrawn = holding_undrawn; reply_finds_none_held = holding_reply; dial_stands_once = λ t h. places_once t h.link; awaited_stands = λ t h s a w. awaited_once t h.link s a w }
