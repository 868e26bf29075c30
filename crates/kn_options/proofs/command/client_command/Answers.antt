use Rattle.std.proofs.Common.{◌∙◌, ap, codes}
use Rattle.kn_options.specs.Commands.{required, optional}
use Rattle.kn_options.proofs.command.client_command.Goals as goal

pub returns : goal.returns
unfolding Rattle.kn_options.specs.Commands.client_app
returns c =
    c.in_ok-command-5.ensures ∙ ap (optional (codes "turns"))
    (c.in_ok-command-4.ensures ∙ ap (optional (codes "tunnels"))
    (c.in_ok-command-3.ensures ∙ ap (required (codes "address"))
    (c.in_ok-command-2.ensures ∙ ap (required (codes "listen"))
    (c.in_ok-command.ensures ∙ ap (required (codes "server")) c.bare-command.ensures))))
