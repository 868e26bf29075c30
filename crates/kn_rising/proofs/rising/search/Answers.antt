use Rattle.std.proofs.lemmas.List.Sorted.{searched}
use Rattle.kn_rising.proofs.PlaceLemmas.{rising_at, place_by}
use Rattle.kn_rising.proofs.rising.search.Goals as goal

pub returns : goal.returns
returns c =
    place_by c.args.numbers.now c.args.number c.binary_search.result c.requires
    (searched c.args.numbers.now c.args.number c.binary_search.result c.binary_search.ensures.position (λ i j l b. rising_at c.args.numbers.now i j c.requires l b))
