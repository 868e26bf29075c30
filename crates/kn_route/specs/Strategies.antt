-- Lists of strategies, as `destHost,defaultRoute,default`.
use Rattle.std.specs.Prelude.{◌≡◌, ℕ, ◌+◌, ◌==◌, Bool, true, false, List, [], ◌∷◌, ◌++◌, length, codes, bytes_eq, Option, Some, None, Result, Ok, Err, ⊤, if◌then◌else◌}
use Rattle.std.specs.List.{list_any}
use Rattle.kn_route.specs.declared.strategy.Strategy.{Strategy}
use Rattle.kn_route.specs.declared.strategy.Strategy.TheVariants.{DestHost, DefaultRoute, Default}
use Rattle.kn_route.specs.declared.strategies.StrategyFault.{StrategyFault}
use Rattle.kn_route.specs.declared.strategies.StrategyFault.TheVariants.{NoMemory, Empty, Unknown, Repeat}
use Rattle.kn_route.specs.Cuts.{parts_of}
use Rattle.kn_route.specs.Steps.{steps}

-- the name of a strategy
abbrev pub name_of : Strategy → List ℕ
name_of DestHost = codes "destHost"
name_of DefaultRoute = codes "defaultRoute"
name_of Default = codes "default"

-- the strategy of a name
abbrev pub strategy_named : List ℕ → Option Strategy
strategy_named name =
    if bytes_eq name (codes "destHost") then Some DestHost
    else (if bytes_eq name (codes "defaultRoute") then Some DefaultRoute
    else (if bytes_eq name (codes "default") then Some Default else None))

-- the two are the same strategy
abbrev pub is_same : Strategy → Strategy → Bool
is_same DestHost DestHost = true
is_same DestHost DefaultRoute = false
is_same DestHost Default = false
is_same DefaultRoute DestHost = false
is_same DefaultRoute DefaultRoute = true
is_same DefaultRoute Default = false
is_same Default DestHost = false
is_same Default DefaultRoute = false
is_same Default Default = true

-- the strategy stood before
abbrev pub stands_in : List Strategy → Strategy → Bool
stands_in before strategy = list_any (λ s. is_same s strategy) before

-- the strategies with one more, or that it stood before; places are counted from 1
abbrev pub with_strategy : List Strategy → Option Strategy → Result (List Strategy) StrategyFault
with_strategy before None = Err (Unknown (length before + 1))
with_strategy before (Some strategy) =
    if stands_in before strategy then Err (Repeat (length before + 1))
    else Ok (before ++ strategy ∷ [])

-- the strategies with that of one more name
abbrev pub with_name : List Strategy → List ℕ → Result (List Strategy) StrategyFault
with_name before name = with_strategy before (strategy_named name)

-- the strategies of names with commas between them, or the first fault; 44 is the comma
unfoldable pub strategies_in : List ℕ → Result (List Strategy) StrategyFault
strategies_in text =
    if length text == 0 then Err Empty else steps with_name [] (parts_of 44 text)

-- the fault is the expected one, or that memory was wanting
abbrev pub IsFaultOf : Result (List Strategy) StrategyFault → StrategyFault → Type 0
IsFaultOf expected NoMemory = ⊤
IsFaultOf expected Empty = expected ≡ Err Empty
IsFaultOf expected (Unknown place) = expected ≡ Err (Unknown place)
IsFaultOf expected (Repeat place) = expected ≡ Err (Repeat place)

-- the answer is this, or that memory was wanting
abbrev pub IsStrategiesAnswer : Result (List Strategy) StrategyFault → Result (List Strategy) StrategyFault → Type 0
IsStrategiesAnswer expected (Ok strategies) = expected ≡ Ok strategies
IsStrategiesAnswer expected (Err fault) = IsFaultOf expected fault
