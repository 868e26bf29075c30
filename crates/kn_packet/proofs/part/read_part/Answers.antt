use Rattle.std.proofs.Common.{◌≡◌, Option, refl, sym, ap, ◌∙◌}
use Rattle.std.proofs.lemmas.Bool.{ne_eqb}
use Rattle.kn_packet.specs.declared.payload.Payload.{Payload}
use Rattle.kn_packet.specs.Fields.{varint, fixed64, delimited, fixed32}
use Rattle.kn_packet.specs.Reading.{packet_type, member, unknown, plain_part, payload_if_known}
use Rattle.kn_packet.specs.Progress.{LastValues, SoFar, with_entries}
use Rattle.kn_packet.specs.Seen.{values_seen}
use Rattle.kn_packet.proofs.Parts.{plain_begins, member_begins, part_is_faulty, member_is_faulty}
use Rattle.kn_packet.proofs.part.read_part.Goals as goal

pub returns-in-Err : goal.returns-in-Err
returns-in-Err c = part_is_faulty c.args.bytes.now c.in-Err.reason c.requires c.in-Err.ensures

pub returns-then-field-eq1 : goal.returns-then-field-eq1
returns-then-field-eq1 c =
    let e = rw c.in-Varint.is at c.in-Ok.ensures in
    let said : packet_type c.in-Varint.n ≡ plain_part c.in-Ok.field.number (varint c.in-Varint.n) = rw c.if-field-eq1.true refl in
    (packet_type c.in-Varint.n, plain_begins c.args.bytes.now c.in-Ok.rest.now (record { number = c.in-Ok.field.number; content = varint c.in-Varint.n }) (packet_type c.in-Varint.n) c.requires e refl said, refl)

pub returns-else-field-eq1 : goal.returns-else-field-eq1
returns-else-field-eq1 c =
    let e = rw c.in-Varint.is at c.in-Ok.ensures in
    let said : unknown ≡ plain_part c.in-Ok.field.number (varint c.in-Varint.n) = rw (ne_eqb c.in-Ok.field.number 1 c.if-field-eq1.false) refl in
    (unknown, plain_begins c.args.bytes.now c.in-Ok.rest.now (record { number = c.in-Ok.field.number; content = varint c.in-Varint.n }) unknown c.requires e refl said, refl)

pub returns-in-Ok-read_entries : goal.returns-in-Ok-read_entries
returns-in-Ok-read_entries c =
    let e = rw c.in-Delimited.is at c.in-Ok.ensures in
    let read = c.in-Ok-read_entries.ensures in
    let values : values_seen c.in-Ok-read_entries.values ≡ with_entries _ read.0 = read.2 ∙ ap (λ (v : LastValues). with_entries v read.0) c.values_of.ensures in
    let so_far : LastValues → SoFar = λ v. record { kind = c.args.draft.kind; payload = c.in-Some.payload; values = v } in (
      member c.in-Some.payload read.0,
      member_begins c.args.bytes.now c.in-Ok.rest.now c.in-Delimited.body.now c.in-Ok.field.number c.in-Some.payload read.0 c.requires e (sym c.in-Some.ensures) read.1,
      ap so_far values,
    )

pub returns-in-Err-read_entries : goal.returns-in-Err-read_entries
returns-in-Err-read_entries c =
    let e = rw c.in-Delimited.is at c.in-Ok.ensures in
    rw c.before-in-Err-read_entries.ensures (member_is_faulty c.args.bytes.now c.in-Ok.rest.now c.in-Delimited.body.now c.in-Ok.field.number c.in-Some.payload c.in-Err-read_entries.stop c.requires e (sym c.in-Some.ensures) c.in-Err-read_entries.ensures)

pub returns-in-None : goal.returns-in-None
returns-in-None c =
    let e = rw c.in-Delimited.is at c.in-Ok.ensures in
    let none = ap (λ (p : Option Payload). payload_if_known p c.in-Delimited.body.now) (sym c.in-None.ensures) in
    (unknown, plain_begins c.args.bytes.now c.in-Ok.rest.now (record { number = c.in-Ok.field.number; content = delimited c.in-Delimited.body.now }) unknown c.requires e none refl, refl)

pub returns-in-Fixed64 : goal.returns-in-Fixed64
returns-in-Fixed64 c =
    let e = rw c.in-Fixed64.is at c.in-Ok.ensures in
    (unknown, plain_begins c.args.bytes.now c.in-Ok.rest.now (record { number = c.in-Ok.field.number; content = fixed64 }) unknown c.requires e refl refl, refl)

pub returns-in-Fixed32 : goal.returns-in-Fixed32
returns-in-Fixed32 c =
    let e = rw c.in-Fixed32.is at c.in-Ok.ensures in
    (unknown, plain_begins c.args.bytes.now c.in-Ok.rest.now (record { number = c.in-Ok.field.number; content = fixed32 }) unknown c.requires e refl refl, refl)
