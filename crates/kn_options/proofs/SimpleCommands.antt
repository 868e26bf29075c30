-- The three commands have no rule that their definitions leave out.
use Rattle.std.proofs.Common.{◌≡◌, true, refl}
use Rattle.clap.specs.Words.{is_simple, is_simple_and_free}
use Rattle.clap.proofs.OnLiterals.{clap_on_literals}
use Rattle.kn_options.specs.Commands.{server_app, agent_app, client_app}

pub server_simple : is_simple server_app ≡ true
unfolding Rattle.kn_options.specs.Commands.server_app clap_on_literals
server_simple = refl

pub server_free : is_simple_and_free server_app ≡ true
unfolding Rattle.kn_options.specs.Commands.server_app clap_on_literals
server_free = refl

pub agent_simple : is_simple agent_app ≡ true
unfolding Rattle.kn_options.specs.Commands.agent_app clap_on_literals
agent_simple = refl

pub agent_free : is_simple_and_free agent_app ≡ true
unfolding Rattle.kn_options.specs.Commands.agent_app clap_on_literals
agent_free = refl

pub client_simple : is_simple client_app ≡ true
unfolding Rattle.kn_options.specs.Commands.client_app clap_on_literals
client_simple = refl

pub client_free : is_simple_and_free client_app ≡ true
unfolding Rattle.kn_options.specs.Commands.client_app clap_on_literals
client_free = refl
