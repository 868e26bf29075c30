-- The words of the plain commands.
use Rattle.std.specs.Prelude.{◌≡◌, ℕ, List, [], ◌∷◌, Ok, codes}
use Rattle.kn_route.specs.Strategies.{strategies_in}
use Rattle.kn_route.specs.declared.strategy.Strategy.{Strategy}
use Rattle.kn_cmd.specs.declared.command.Command.{Command}
use Rattle.kn_cmd.specs.declared.command.Command.TheVariants.{Replay, Show, Frames, Route}
use Rattle.kn_cmd.specs.declared.question.Question.{Question}
use Rattle.kn_cmd.specs.Question.{IsQuestion}

-- `replay`, and a list of strategies
pub record AsksReplay (all : List (List ℕ)) (strategies : List Strategy) : Type 0 where
  pub list : List ℕ
  pub words : all ≡ codes "replay" ∷ list ∷ []
  pub reads : strategies_in list ≡ Ok strategies

-- `route`, and three words that are a question
pub record AsksRoute (all : List (List ℕ)) (question : Question) : Type 0 where
  pub list : List ℕ
  pub address : List ℕ
  pub dial : List ℕ
  pub words : all ≡ codes "route" ∷ list ∷ address ∷ dial ∷ []
  pub reads : IsQuestion list address dial question

abbrev pub Asks : List (List ℕ) → Command → Type 0
Asks words (Replay strategies) = AsksReplay words strategies
Asks words Show = words ≡ codes "show" ∷ []
Asks words Frames = words ≡ codes "frames" ∷ []
Asks words (Route question) = AsksRoute words question
