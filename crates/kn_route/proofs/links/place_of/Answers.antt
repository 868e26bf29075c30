use Rattle.std.proofs.Common.{ltb, rules}
use Rattle.std.proofs.lemmas.List.Sorted.{IsPartitionPoint-from_clause, IsPartitionedBy-ltb}
use Rattle.kn_route.specs.declared.link.Link.{Link}
use Rattle.kn_route.proofs.PlaceLemmas.{no_lower, only_place}
use Rattle.kn_route.proofs.links.place_of.Goals as goal

pub returns : goal.returns
returns c =
    let parted = IsPartitionedBy-ltb (λ (l : Link). l.number) _ c.args.number (no_lower _ c.requires) in
    let point = IsPartitionPoint-from_clause (λ (l : Link). ltb l.number c.args.number) _ _ c.partition_point.ensures.partitioned parted (λ a r q k. search rules) in
    only_place _ _ _ c.requires c.partition_point.ensures.bound point
