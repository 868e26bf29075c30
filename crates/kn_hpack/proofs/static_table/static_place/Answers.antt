use Rattle.std.proofs.Common.{sym, ◌∙◌}
use Rattle.kn_hpack.specs.Fields.{pair}
use Rattle.kn_hpack.proofs.IndexFacts.{place_here, place_next}
use Rattle.kn_hpack.proofs.static_table.static_place.Goals as goal

pub returns-then-is_same-clause-place : goal.returns-then-is_same-clause-place
returns-then-is_same-clause-place c =
    sym (place_here c.loop-place.place (pair c.args.name.now c.args.value.now) (pair c.static_field.result.0.now c.static_field.result.1.now) (rw c.from.ensures at c.static_field.ensures) (sym c.if-is_same.ensures))
    ∙ c.loop-place.invariant

pub loop-place-preserved : goal.loop-place-preserved
loop-place-preserved c =
    sym (place_next c.loop-place.place (pair c.args.name.now c.args.value.now) (pair c.static_field.result.0.now c.static_field.result.1.now) (rw c.from.ensures at c.static_field.ensures) (sym c.if-is_same.ensures))
    ∙ c.loop-place.invariant
