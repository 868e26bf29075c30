use Rattle.std.proofs.Common.{◌≡◌, drop}
use Rattle.kn_hpack.specs.Fields.{pair}
use Rattle.kn_hpack.specs.StaticTable.{static_table, place_in}
use Rattle.kn_hpack.proofs.static_table.static_place.Given as goal

abbrev pub invariant-loop-place : goal.invariant-loop-place
invariant-loop-place l = place_in (drop l.place static_table) l.place (pair l.name l.value) ≡ place_in static_table 0 (pair l.name l.value)
