use Rattle.std.proofs.Common.{◌∙◌, ap, codes}
use Rattle.kn_options.specs.Commands.{required, optional}
use Rattle.kn_options.proofs.command.agent_command.Goals as goal

pub returns : goal.returns
unfolding Rattle.kn_options.specs.Commands.agent_app
returns c =
    c.in_ok-command-6.ensures ∙ ap (optional (codes "turns"))
    (c.in_ok-command-5.ensures ∙ ap (optional (codes "tunnels"))
    (c.in_ok-command-4.ensures ∙ ap (optional (codes "drain"))
    (c.in_ok-command-3.ensures ∙ ap (optional (codes "identifiers"))
    (c.in_ok-command-2.ensures ∙ ap (optional (codes "id"))
    (c.in_ok-command.ensures ∙ ap (required (codes "server")) c.bare-command.ensures)))))
