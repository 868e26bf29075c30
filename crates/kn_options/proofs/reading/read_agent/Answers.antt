use Rattle.std.proofs.Common.{◌∙◌, ap}
use Rattle.clap.specs.Words.{is_simple, is_simple_and_free}
use Rattle.kn_options.proofs.SimpleCommands.{agent_simple, agent_free}
use Rattle.kn_options.proofs.reading.read_agent.Goals as goal

pub parse-requires : goal.parse-requires
parse-requires c = record {
  simple = ap is_simple c.in_ok-command.ensures ∙ agent_simple;
  free = ap is_simple_and_free c.in_ok-command.ensures ∙ agent_free;
}
