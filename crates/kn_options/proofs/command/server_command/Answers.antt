use Rattle.std.proofs.Common.{◌∙◌, ap, codes}
use Rattle.kn_options.specs.Commands.{required, optional}
use Rattle.kn_options.proofs.command.server_command.Goals as goal

pub returns : goal.returns
unfolding Rattle.kn_options.specs.Commands.server_app
returns c =
    c.in_ok-command-7.ensures ∙ ap (optional (codes "turns"))
    (c.in_ok-command-6.ensures ∙ ap (optional (codes "tunnels"))
    (c.in_ok-command-5.ensures ∙ ap (optional (codes "id"))
    (c.in_ok-command-4.ensures ∙ ap (optional (codes "strategies"))
    (c.in_ok-command-3.ensures ∙ ap (optional (codes "connect"))
    (c.in_ok-command-2.ensures ∙ ap (required (codes "clients"))
    (c.in_ok-command.ensures ∙ ap (required (codes "agents")) c.bare-command.ensures))))))
