-- What the facts of a tunnel tell of its agent.
use Rattle.std.proofs.Common.{◌≡◌, ◌&&◌, ◌||◌, Bool, true, false, not, List, ℕ, [], ◌∷◌, refl}
use Rattle.kn_tunnel.specs.Kinds.{has, implies, is_asked, is_dialled, is_listed}
use Rattle.kn_tunnel.specs.LinkSide.{LinkView, link_ok, link_view}
use Rattle.kn_tunnel.specs.Tunnel.{Tunnel}
use Rattle.kn_tunnel.proofs.EveryLink.{at_ok, ok_views}

-- a destination without a connection has nothing unwritten
abbrev dry_at : LinkView → Bool
dry_at v = implies (not (is_listed v.far)) (not v.unwritten)

dry_row : ok_views dry_at ≡ true
dry_row = refl

nothing : (xs : List ℕ) → not (has xs) ≡ true → xs ≡ []
nothing [] e = refl
nothing (x ∷ xs) e = absurd cc

pub dry : (t : Tunnel) → link_ok (link_view t) ≡ true → is_listed t.far ≡ false → t.dest.unwritten ≡ []
dry t h f = nothing t.dest.unwritten (rw f at (at_ok dry_at dry_row (link_view t) h))

-- a dial that is not answered has neither refusal nor reply on its way
abbrev unanswered_at : LinkView → Bool
unanswered_at v = implies (is_asked v.far || is_dialled v.far) (not v.refusal && not v.reply && not v.cid)

unanswered_row : ok_views unanswered_at ≡ true
unanswered_row = refl

both : (a b c : Bool) → (not a && not b && not c) ≡ true → (a ≡ false) × (b ≡ false) × (c ≡ false)
both false false false e = (refl, refl, refl)
both false false true e = absurd cc
both false true c e = absurd cc
both true b c e = absurd cc

pub unanswered : (t : Tunnel) → link_ok (link_view t) ≡ true → (is_asked t.far || is_dialled t.far) ≡ true → (t.up.refusal ≡ false) × (t.up.reply ≡ false) × (t.cid ≡ false)
unanswered t h f = both t.up.refusal t.up.reply t.cid (rw f at (at_ok unanswered_at unanswered_row (link_view t) h))
