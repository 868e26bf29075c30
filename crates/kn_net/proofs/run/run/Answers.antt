use Rattle.std.proofs.Common.{rules, map}
use Rattle.kn_net.proofs.ShortAddresses.{short_address}
use Rattle.kn_net.proofs.run.run.Goals as goal
use Rattle.kn_options.specs.Asked.{Asks}

pub run_options-requires : goal.run_options-requires
run_options-requires g c =
    let asked : Asks (map (λ word. word.now) c.args.words.now) c.in-Ok-Some.options = search rules in
    record { short = short_address (map (λ word. word.now) c.args.words.now) c.in-Ok-Some.options asked }
