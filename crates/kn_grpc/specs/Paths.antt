-- The path of a call, by its segments.
use Rattle.std.specs.Prelude.{◌≡◌, ℕ, ◌<◌, List, ◌∷◌, ◌++◌, length, slice_index, codes}
use Rattle.kn_grpc.specs.declared.call.Service.{Service}
use Rattle.kn_grpc.specs.declared.call.Service.TheVariants.{Agent, Proxy}

-- the last two segments, the service's name and its method
unfoldable pub segments_of : Service → List ℕ
segments_of Agent = codes "AgentService/Connect"
segments_of Proxy = codes "ProxyService/Proxy"

abbrev pub HasNoSlash : List ℕ → Type 0
HasNoSlash text = (i : ℕ) → slice_index text i ≡ 47 → ⊥

-- The path begins with a slash and ends in a slash and these two segments, the first of them alone or behind a package
-- and a dot. The package's name is not empty and has no slash.
pub data EndsIn (path segments : List ℕ) : Type 0 where
  plain : (front : List ℕ) → slice_index path 0 ≡ 47 → path ≡ front ++ 47 ∷ segments → EndsIn path segments
  packaged : (front name : List ℕ) → slice_index path 0 ≡ 47 → path ≡ front ++ 47 ∷ (name ++ 46 ∷ segments) → 0 < length name → HasNoSlash name → EndsIn path segments
