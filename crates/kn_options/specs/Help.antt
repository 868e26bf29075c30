-- What a person may ask the program about itself, and the texts that answer it.
use Rattle.std.specs.Prelude.{ℕ, List, [], ◌∷◌, Option, Some, None, option_map, codes, bytes_eq, if◌then◌else◌}
use Rattle.kn_options.specs.Programs.{program_named}
use Rattle.kn_options.specs.declared.program.Program.{Program}
use Rattle.kn_options.specs.declared.program.Program.TheVariants as program
use Rattle.kn_options.specs.declared.help.Help.{Help}
use Rattle.kn_options.specs.declared.help.Help.TheVariants.{Version, General, Server, Agent, Client}
use Rattle.kn_options.specs.declared.texts.TheConstants.{VERSION, ABOUT, ABOUT_SERVER, ABOUT_AGENT, ABOUT_CLIENT}

-- the help on a program
abbrev pub help_on : Program → Help
help_on program.Server = Server
help_on program.Agent = Agent
help_on program.Client = Client

-- the whole program, or its version
abbrev pub help_of_one : List ℕ → Option Help
help_of_one word =
    if bytes_eq word (codes "--help") then Some General
    else (if bytes_eq word (codes "--version") then Some Version else None)

-- a program that uses the network, and `--help`
abbrev pub help_of_two : List ℕ → List ℕ → Option Help
help_of_two command word =
    if bytes_eq word (codes "--help") then option_map help_on (program_named command) else None

-- what the words ask about the program
abbrev pub help_of : List (List ℕ) → Option Help
help_of [] = None
help_of (word ∷ []) = help_of_one word
help_of (command ∷ word ∷ []) = help_of_two command word
help_of (command ∷ word ∷ more ∷ rest) = None

-- the text that answers it
unfoldable pub text_of : Help → List ℕ
text_of Version = VERSION.now
text_of General = ABOUT.now
text_of Server = ABOUT_SERVER.now
text_of Agent = ABOUT_AGENT.now
text_of Client = ABOUT_CLIENT.now
