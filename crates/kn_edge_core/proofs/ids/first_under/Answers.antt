use Rattle.std.proofs.Common.{◌≡◌, sym, ◌∙◌, w64, SFits, rules}
use Rattle.std.proofs.Math.Facts.{to_z-of_z}
use Rattle.std.proofs.lemmas.Bool.Decides.{Decides-int_eq}
use Rattle.kn_edge_core.proofs.IdLemmas.{begins_none, begins_other, begins_some, id_first}
use Rattle.kn_edge_core.proofs.ids.first_under.Goals as goal

pub returns-then-is_same : goal.returns-then-is_same
returns-then-is_same c =
    let f : SFits w64 c.args.connect_id.now = search rules in
    let range = rw (to_z-of_z {w = w64} {z = c.args.connect_id.now} f) at (c.range.ensures.in_range tt) in
    let same : c.in-Some.at.now.0 ≡ c.args.connect_id.now = (Decides-int_eq c.in-Some.at.now.0 c.args.connect_id.now).0 (sym c.is_same.ensures ∙ c.if-is_same.true) in
    begins_some c.args.index.now c.args.connect_id.now c.range.result range c.in-Some.at.now.1 c.in-Some.number.now c.next.new.self
    (id_first c.in-Some.at.now c.args.connect_id.now c.in-Some.number.now c.range.result c.next.new.self c.in-Some.ensures.steps same)

pub returns-else-is_same : goal.returns-else-is_same
returns-else-is_same c =
    let f : SFits w64 c.args.connect_id.now = search rules in
    let range = rw (to_z-of_z {w = w64} {z = c.args.connect_id.now} f) at (c.range.ensures.in_range tt) in
    let other : c.in-Some.at.now.0 ≡ c.args.connect_id.now → ⊥ = λ same. (let t = (Decides-int_eq c.in-Some.at.now.0 c.args.connect_id.now).1 same in let u = sym c.is_same.ensures ∙ c.if-is_same.false in cc) in
    begins_other c.args.index.now c.args.connect_id.now c.range.result range c.in-Some.at.now c.in-Some.number.now c.next.new.self c.in-Some.ensures.steps other

pub returns-in-None : goal.returns-in-None
returns-in-None c =
    let f : SFits w64 c.args.connect_id.now = search rules in
    let range = rw (to_z-of_z {w = w64} {z = c.args.connect_id.now} f) at (c.range.ensures.in_range tt) in
    begins_none c.args.index.now c.args.connect_id.now c.range.result range ((rw c.in-None.is at c.next.ensures.steps).0)
