-- The code's values without where their bytes lie in memory.
use Rattle.kn_packet.specs.declared.field.Content.{Content}
use Rattle.kn_packet.specs.declared.field.Content.TheVariants.{Varint, Fixed64, Delimited, Fixed32}
use Rattle.kn_packet.specs.declared.field.Field.{Field}
use Rattle.kn_packet.specs.declared.entry.Entry.{Entry}
use Rattle.kn_packet.specs.declared.entry.Entry.TheVariants.{Int64, Text, Bytes, Skipped}
use Rattle.kn_packet.specs.declared.entry.Values.{Values}
use Rattle.kn_packet.specs.Fields as fields
use Rattle.kn_packet.specs.Reading as reading
use Rattle.kn_packet.specs.Progress.{LastValues}

abbrev pub content_seen : Content → fields.Content
content_seen (Varint n) = fields.varint n
content_seen Fixed64 = fields.fixed64
content_seen (Delimited body) = fields.delimited body.now
content_seen Fixed32 = fields.fixed32

abbrev pub field_seen : Field → fields.Field
field_seen field = record { number = field.number; content = content_seen field.content }

abbrev pub entry_seen : Entry → reading.Entry
entry_seen (Int64 number n) = reading.int64 number n
entry_seen (Text number text) = reading.text number text.now
entry_seen (Bytes number body) = reading.bytes number body.now
entry_seen Skipped = reading.skipped

abbrev pub values_seen : Values → LastValues
values_seen values = record {
  text1 = values.text1.now;
  text2 = values.text2.now;
  bytes3 = values.bytes3.now;
  number1 = values.number1;
  number2 = values.number2;
  number3 = values.number3;
}
