use Rattle.std.proofs.lemmas.Str.Pattern.{strip_prefix_char}
use Rattle.kn_route.proofs.CutLemmas.{strips}
use Rattle.kn_route.proofs.cut.strip.Goals as goal

pub returns : goal.returns
returns c =
    strips _ _ _ c.requires.some
    (strip_prefix_char _ _ _ c.strip_prefix.ensures.cases c.requires.ascii)
