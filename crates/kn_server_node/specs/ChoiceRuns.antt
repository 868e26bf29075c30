-- Which choices of links a node has noted, and which ones its core makes at events.
use Rattle.std.specs.Prelude.{◌≡◌, List, [], ◌∷◌, ◌++◌, Option, Some, None}
use Rattle.kn_server_core.specs.declared.choice.Choice.{Choice}
use Rattle.kn_server_core.specs.declared.event.ServerEvent.{ServerEvent}
use Rattle.kn_server_core.specs.declared.state.State.{State}
use Rattle.kn_server_core.specs.Choices.{choice_at}
use Rattle.kn_server_core.specs.Server as server
use Rattle.kn_server_node.specs.declared.chosen.Chosen.{Chosen}
use Rattle.kn_server_node.specs.declared.node.Node.{Node}
use Rattle.kn_server_node.specs.Calls.{Called, Handling}
use Rattle.kn_server_node.specs.CoreEvents.{Hears}

abbrev pub choices_in : List Chosen → List Choice
choices_in [] = []
choices_in (c ∷ cs) = c.choice ∷ choices_in cs

abbrev pub made_by : Option Choice → List Choice
made_by None = []
made_by (Some choice) = choice ∷ []

-- each event is one choice at most, that of the core which the events before it left
abbrev pub choices_made : State → List ServerEvent → List Choice
choices_made s [] = []
choices_made s (e ∷ es) = made_by (choice_at s e) ++ choices_made (server.step s e).state es

-- a call notes exactly the choices that its core makes at the events that it hears, in order, and each once
abbrev pub CallsNoteChoices : Type 0
CallsNoteChoices = (old : Node) (call : Called) (new : Node) → Handling old call new
    → (es : List ServerEvent) × Hears old call new es × (choices_in new.choices ≡ choices_in old.choices ++ choices_made old.core es)
