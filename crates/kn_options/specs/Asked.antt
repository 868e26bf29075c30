-- What words ask for.
use Rattle.std.specs.Prelude.{◌≡◌, ℕ, List, [], drop, Some}
use Rattle.clap.specs.Words.{App, Row, fault_of, matches_of}
use Rattle.kn_options.specs.Commands.{server_app, agent_app, client_app}
use Rattle.kn_options.specs.Programs.{program_of}
use Rattle.kn_options.specs.Values.{IsServer, IsAgent, IsClient}
use Rattle.kn_options.specs.declared.options.Options.{Options}
use Rattle.kn_options.specs.declared.options.Options.TheVariants as options
use Rattle.kn_options.specs.declared.program.Program.TheVariants as program

-- The command takes the words, and the values that it finds among them are these.
pub record Takes (app : App) (words : List (List ℕ)) (AreValues : List Row → Type 0) : Type 0 where
  pub taken : fault_of app words ≡ []
  pub values : AreValues (matches_of app words)

-- The first word names a program, its command takes the others, and each value has its form.
abbrev pub Asks : List (List ℕ) → Options → Type 0
Asks words (options.Server o) = (program_of words ≡ Some program.Server) × Takes server_app (drop 1 words) (λ values. IsServer values o)
Asks words (options.Agent o) = (program_of words ≡ Some program.Agent) × Takes agent_app (drop 1 words) (λ values. IsAgent values o)
Asks words (options.Client o) = (program_of words ≡ Some program.Client) × Takes client_app (drop 1 words) (λ values. IsClient values o)
