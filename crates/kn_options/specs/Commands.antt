-- The options of the commands that use the network, as clap reads them.
use Rattle.std.specs.Prelude.{Bool, true, false, [], Some, codes}
use Rattle.clap.specs.Simple.{App, new_rule, new_shape, with_rule}
use Rattle.clap.specs.Walk.{Rule, Text}
use Rattle.clap.specs.declared.builder.action.ArgAction.TheVariants.{Set}

-- an option with one value
abbrev pub option_rule : Text → Bool → Rule
option_rule name required = record (new_rule name) { long = Some name; required = required; action = Some Set }

-- a command without a name of its own among the words, and without options for help and version
abbrev pub bare_app : Text → App
bare_app name = record { top = record (new_shape name) { no_binary_name = true; disable_help_flag = true; disable_version_flag = true }; subs = [] }

-- an option that has to be given
abbrev pub required : Text → App → App
required name app = with_rule app (option_rule name true)

-- an option that may be left out
abbrev pub optional : Text → App → App
optional name app = with_rule app (option_rule name false)

unfoldable pub server_app : App
server_app =
    optional (codes "turns")
    (optional (codes "tunnels")
    (optional (codes "id")
    (optional (codes "strategies")
    (optional (codes "connect")
    (required (codes "clients")
    (required (codes "agents") (bare_app (codes "server"))))))))

unfoldable pub agent_app : App
agent_app =
    optional (codes "turns")
    (optional (codes "tunnels")
    (optional (codes "drain")
    (optional (codes "identifiers")
    (optional (codes "id")
    (required (codes "server") (bare_app (codes "agent")))))))

unfoldable pub client_app : App
client_app =
    optional (codes "turns")
    (optional (codes "tunnels")
    (required (codes "address")
    (required (codes "listen")
    (required (codes "server") (bare_app (codes "client"))))))
