-- What single rules say, each of the event that it is about.
use Rattle.std.proofs.Common.{◌≡◌, ◌&&◌, ◌||◌, ℕ, Bool, true, false, not, List, [], ◌∷◌, pred, if◌then◌else◌, cond, refl, sym, ap, ◌∙◌}
use Rattle.kn_tunnel.specs.Events.{AgentTakesClose, AppHands, ClientTakesClose, ClientTakesReply, FrontLost, LinkLostAtServer, ServerTakesCancel, ServerTakesIn, ServerTakesReply}
use Rattle.kn_tunnel.specs.Kinds.{has, is_asked, is_awaited, is_dialling, is_gone, is_opened, is_present}
use Rattle.kn_tunnel.specs.Steps.{after, agent_leaves, close_comes, closed_at, front_goes, link_goes, may, no_in, no_up, replied_at, reply_comes}
use Rattle.kn_tunnel.specs.Tunnel.{Asked, Awaited, Carrying, Closing, Dialled, Dialling, Downward, Draining, Ended, Ending, Entry, Far, Frontless, Gone, Joined, Left, Lingering, NoEntry, NoHead, Opened, Outward, Phase, Refused, Tunnel, Undrawn}

or_true : (a b : Bool) → b ≡ true → (a || b) ≡ true
or_true true b e = refl
or_true false b e = e

pub unawaited_reply : (t : Tunnel) → t.entry ≡ NoEntry → t.agent ≡ true → (after ServerTakesReply t).down.close ≡ true
unawaited_reply t e a = ap (λ x. (reply_comes x (record t { up = record t.up { reply = false } })).down.close) e ∙ or_true t.down.close t.agent a

pub late_reply : (t : Tunnel) → t.phase ≡ Ended → is_gone t.front ≡ false → (after ClientTakesReply t).inward.close ≡ true
late_reply t e g = ap (λ x. (replied_at x (record t { outward = record t.outward { head = NoHead } })).inward.close) e ∙ or_true t.inward.close (not (is_gone t.front)) (ap not g)

cancel_at : (e : Entry) → is_awaited e ≡ true → cond (is_awaited e) NoEntry e ≡ NoEntry
cancel_at Awaited a = refl
cancel_at NoEntry a = refl
cancel_at Carrying a = absurd cc
cancel_at Closing a = absurd cc
cancel_at Frontless a = absurd cc

pub cancelled_dial : (t : Tunnel) → is_awaited t.entry ≡ true → (after ServerTakesCancel t).entry ≡ NoEntry
cancelled_dial t a = cancel_at t.entry a

link_goes_at : (e : Entry) (t : Tunnel) → t.entry ≡ e → (link_goes e t).entry ≡ NoEntry
link_goes_at NoEntry t e = e
link_goes_at Awaited t e = refl
link_goes_at Carrying t e = refl
link_goes_at Closing t e = refl
link_goes_at Frontless t e = refl

pub lost_link : (t : Tunnel) (left : Downward) (k : Bool) → (after (LinkLostAtServer left k) t).entry ≡ NoEntry
lost_link t w k = link_goes_at t.entry (record t { server = false; up = no_up; down = w; far = (if is_asked t.far && not k then Left else t.far) }) refl

pub lost_closing_front : (t : Tunnel) (left : Outward) → t.entry ≡ Closing → (after (FrontLost left) t).down ≡ t.down
lost_closing_front t w e = ap (λ x. (front_goes x (record t { front = Gone; inward = no_in; outward = w })).down) e

nothing_here : (xs : List ℕ) → has xs ≡ false → xs ≡ []
nothing_here [] e = refl
nothing_here (x ∷ xs) e = absurd cc

close_splits_at : (b : Bool) (t : Tunnel) → has t.dest.unwritten ≡ b → (cond (not b) (agent_leaves t) (record t { far = Lingering })).dest ≡ t.dest
close_splits_at true t e = refl
close_splits_at false t e = ap (λ u. record t.dest { unwritten = u }) (sym (nothing_here t.dest.unwritten e))

close_keeps_at : (f : Far) (t : Tunnel) → (close_comes f t).dest ≡ t.dest
close_keeps_at Joined t = close_splits_at (has t.dest.unwritten) t refl
close_keeps_at Lingering t = refl
close_keeps_at Undrawn t = refl
close_keeps_at Asked t = refl
close_keeps_at Dialled t = refl
close_keeps_at Left t = refl

pub close_keeps_bytes : (t : Tunnel) → (after AgentTakesClose t).dest ≡ t.dest
close_keeps_bytes t = close_keeps_at t.far (record t { down = record t.down { close = false } })

waits_at : (b : Bool) (t : Tunnel) → b ≡ true → (cond (not b) (agent_leaves t) (record t { far = Lingering })).up ≡ t.up
waits_at true t e = refl
waits_at false t e = absurd cc

pub close_waits : (t : Tunnel) → t.far ≡ Joined → has t.dest.unwritten ≡ true → (after AgentTakesClose t).up ≡ t.up
close_waits t f u = ap (λ x. (close_comes x (record t { down = record t.down { close = false } })).up) f ∙ waits_at (has t.dest.unwritten) (record t { down = record t.down { close = false } }) u

pub app_close_keeps_bytes : (t : Tunnel) → (after ClientTakesClose t).app ≡ t.app
app_close_keeps_bytes t = here t.phase (record t { outward = record t.outward { closes = pred t.outward.closes } })
  where
    here : (p : Phase) (t : Tunnel) → (closed_at p t).app ≡ t.app
    here Dialling t = refl
    here Opened t = refl
    here Ending t = refl
    here Draining t = refl
    here Ended t = refl
    here Refused t = refl

hands_at : (c : Bool) (p : Phase) → c ≡ false → is_dialling p ≡ true → (is_opened p || (c && is_dialling p)) ≡ false
hands_at false Dialling e d = refl
hands_at false Opened e d = absurd cc
hands_at false Ending e d = refl
hands_at false Draining e d = refl
hands_at false Ended e d = refl
hands_at false Refused e d = refl
hands_at true p e d = absurd cc

pub dialling_app : (n : ℕ) (t : Tunnel) → t.connect ≡ false → is_dialling t.phase ≡ true → may (AppHands n) t ≡ false
dialling_app n t c d = hands_at t.connect t.phase c d

early_at : (x c a : Bool) → c ≡ true → a ≡ true → (x && not (c && a)) ≡ false
early_at true true true e f = refl
early_at false true true e f = refl
early_at x false a e f = absurd cc
early_at x true false e f = absurd cc

pub early_bytes : (n : ℕ) (t : Tunnel) → t.connect ≡ true → is_awaited t.entry ≡ true → may (ServerTakesIn n) t ≡ false
early_bytes n t c a = early_at (is_present t.front && not t.inward.request && not t.inward.cancel) t.connect (is_awaited t.entry) c a
