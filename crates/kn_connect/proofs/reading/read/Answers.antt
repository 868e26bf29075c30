use Rattle.std.proofs.Common.{ℕ, ◌*◌, ◌≤◌, length, sym, ap, ◌∙◌, subst, Err}
use Rattle.kn_connect.proofs.Refused.{decided_now}
use Rattle.kn_connect.proofs.Room.{room_enough}
use Rattle.kn_connect.proofs.reading.read.Goals as goal

pub unreachable-requires : goal.unreachable-requires
unreachable-requires c =
    let none = rw c.in-Ok-Partial.field-0-is at c.in-Ok-Partial.ensures.partial in
    let may = rw c.in-Ok-Partial.field-0-is at c.in-Ok-Partial.ensures.unfinished in
    decided_now c.args.bytes.now c.requires (record { none = none; may = may })

pub unreachable-requires-in-Err-TooManyHeaders : goal.unreachable-requires-in-Err-TooManyHeaders
unreachable-requires-in-Err-TooManyHeaders c =
    let exceeds = c.parse_request.ensures.too_many (c.in-Err-TooManyHeaders.is ∙ ap Err c.in-Err-TooManyHeaders.field-0-is) in
    let enough = subst (λ (n : ℕ). length c.args.bytes.now ≤ 3 * n) (sym (ap length c.deref_mut.ensures.value)) c.in_ok-fields.ensures in
    room_enough c.args.bytes.now (length c.deref_mut.result.now) enough exceeds
