-- The greatest number of a connection.
use Rattle.std.proofs.Common.{◌≡◌, ℕ, ◌<◌, max, arith, refl, ap, ◌∙◌}
use Rattle.kn_serve.specs.Sides.{top_of}

pub given_below : (given other conn : ℕ) → top_of given other < conn → given < conn
given_below given other conn low = omega (arith, low)

pub given_is_top : (given other conn : ℕ) → top_of given other < conn → top_of conn other ≡ conn
given_is_top given other conn low = omega (arith, low)

pub other_is_top : (given other conn : ℕ) → top_of given other < conn → top_of given conn ≡ conn
other_is_top given other conn low = omega (arith, low)

pub max_zero : (n : ℕ) → top_of n 0 ≡ n
max_zero n = omega arith
