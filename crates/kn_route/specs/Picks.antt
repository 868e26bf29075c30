-- What the choice of a link for a dial comes to.
use Rattle.std.specs.Prelude.{◌≡◌, ℕ, true, List, ◌∷◌, ◌++◌, All}
use Rattle.std.specs.List.{Contains}
use Rattle.kn_route.specs.declared.strategy.Strategy.{Strategy}
use Rattle.kn_route.specs.declared.link.Link.{Link}
use Rattle.kn_route.specs.Fitting.{IsOf}

-- none of the links is one of the strategy for the host
abbrev pub HasNone : List Link → List ℕ → Strategy → Type 0
HasNone links host strategy = All (λ link. ¬ (IsOf strategy host link)) links

-- The strategy is the first that has a link for the host, and the number is that of such a link, which drains
-- only where all such links drain.
pub record IsPick (strategies : List Strategy) (links : List Link) (host : List ℕ) (strategy : Strategy) (number : ℕ) : Type 0 where
  pub earlier : List Strategy
  pub later : List Strategy
  pub listed : strategies ≡ earlier ++ strategy ∷ later
  pub first : All (HasNone links host) earlier
  pub link : Link
  pub there : Contains links link
  pub numbered : link.number ≡ number
  pub of : IsOf strategy host link
  pub drains : link.draining ≡ true → All (λ other. IsOf strategy host other → other.draining ≡ true) links
