-- What a loss leaves of what was queued in each list. Each relation holds of every front of the list (and of little else): nothing is
-- there that was not, bytes are cut at their end, and a close is left only behind all of them.
use Rattle.std.specs.Prelude.{◌≡◌, ◌≤◌, ◌++◌, ◌⊎◌, ℕ, true, false, List, []}
use Rattle.kn_tunnel.specs.Kinds.{is_zero}
use Rattle.kn_tunnel.specs.Tunnel.{Downward, Inward, NoHead, Outward, Upward}

abbrev pub IsPrefixOf : List ℕ → List ℕ → Type 0
IsPrefixOf xs ys = (rest : List ℕ) × (xs ++ rest ≡ ys)

-- from the client to the server
pub record IsCutIn (left whole : Inward) : Type 0 where
  pub request : left.request ≡ true → whole.request ≡ true
  pub cancel : left.cancel ≡ true → whole.cancel ≡ true
  pub bytes : IsPrefixOf left.bytes whole.bytes
  pub close : left.close ≡ true → whole.close ≡ true
  pub close_last : left.close ≡ true → left.bytes ≡ whole.bytes

-- from the server to the app: what it begins with is left, or nothing is
pub record IsCutOut (left whole : Outward) : Type 0 where
  pub head : (left.head ≡ whole.head) ⊎ (left ≡ record { head = NoHead; bytes = []; closes = 0 })
  pub bytes : IsPrefixOf left.bytes whole.bytes
  pub closes : left.closes ≤ whole.closes
  pub closes_last : is_zero left.closes ≡ false → left.bytes ≡ whole.bytes

-- from the agent to the server
pub record IsCutUp (left whole : Upward) : Type 0 where
  pub refusal : left.refusal ≡ true → whole.refusal ≡ true
  pub reply : left.reply ≡ true → whole.reply ≡ true
  pub bytes : IsPrefixOf left.bytes whole.bytes
  pub closes : left.closes ≤ whole.closes
  pub closes_last : is_zero left.closes ≡ false → left.bytes ≡ whole.bytes

-- from the server to the agent
pub record IsCutDown (left whole : Downward) : Type 0 where
  pub bytes : IsPrefixOf left.bytes whole.bytes
  pub close : left.close ≡ true → whole.close ≡ true
  pub close_last : left.close ≡ true → left.bytes ≡ whole.bytes
