-- What the functions that read a packet keep while they read it. A law leads from here to the packet.
use Rattle.std.specs.Prelude.{ℕ, ◌%◌, ◌^◌, List, [], Option, Some, None, unwrap_or, fold, if◌then◌else◌}
use Rattle.std.specs.Int.{w64, cast_signed}
use Rattle.kn_packet.specs.declared.packet.Packet.{Packet}
use Rattle.kn_packet.specs.declared.packet.Packet.TheVariants.{DialReq, DialRsp, CloseReq, CloseRsp, Data, DialCls, Drain, Other}
use Rattle.kn_packet.specs.declared.payload.Payload.{Payload}
use Rattle.kn_packet.specs.declared.payload.Payload.TheVariants as payloads
use Rattle.kn_packet.specs.Payloads.{is_payload, payload_of_type}
use Rattle.kn_packet.specs.Reading.{Entry, int64_at, text_at, bytes_at, Part, packet_type, member, unknown}

-- the last values of a payload's fields so far, by number
pub record LastValues : Type 0 where
  pub text1 : List ℕ
  pub text2 : List ℕ
  pub bytes3 : List ℕ
  pub number1 : ℕ
  pub number2 : ℕ
  pub number3 : ℕ

abbrev pub no_values : LastValues
no_values = record { text1 = []; text2 = []; bytes3 = []; number1 = 0; number2 = 0; number3 = 0 }

abbrev pub with_entry : LastValues → Entry → LastValues
with_entry values entry = record {
  text1 = unwrap_or (text_at 1 entry) values.text1;
  text2 = unwrap_or (text_at 2 entry) values.text2;
  bytes3 = unwrap_or (bytes_at 3 entry) values.bytes3;
  number1 = unwrap_or (int64_at 1 entry) values.number1;
  number2 = unwrap_or (int64_at 2 entry) values.number2;
  number3 = unwrap_or (int64_at 3 entry) values.number3;
}

abbrev pub with_entries : LastValues → List Entry → LastValues
with_entries values entries = fold with_entry values entries

abbrev pub packet_with_values : Payload → LastValues → Packet
packet_with_values payloads.DialRequest values =
    DialReq values.text1 values.text2 (cast_signed w64 values.number3)
packet_with_values payloads.DialResponse values =
    DialRsp values.text1 (cast_signed w64 values.number2) (cast_signed w64 values.number3)
packet_with_values payloads.Data values =
    Data (cast_signed w64 values.number1) values.text2 values.bytes3
packet_with_values payloads.CloseRequest values = CloseReq (cast_signed w64 values.number1)
packet_with_values payloads.CloseResponse values = CloseRsp values.text1 (cast_signed w64 values.number2)
packet_with_values payloads.CloseDial values = DialCls (cast_signed w64 values.number1)
packet_with_values payloads.Drain values = Drain

-- the last type so far, and the member that survives so far with its values
pub record SoFar : Type 0 where
  pub kind : ℕ
  pub payload : Payload
  pub values : LastValues

abbrev pub nothing_yet : SoFar
nothing_yet = record { kind = 0; payload = payloads.DialRequest; values = no_values }

abbrev pub values_for : Payload → SoFar → LastValues
values_for payload so_far = if is_payload so_far.payload payload then so_far.values else no_values

abbrev pub with_part : SoFar → Part → SoFar
with_part so_far (packet_type n) = record { kind = n; payload = so_far.payload; values = so_far.values }
with_part so_far (member payload entries) = record {
  kind = so_far.kind;
  payload = payload;
  values = with_entries (values_for payload so_far) entries;
}
with_part so_far unknown = so_far

abbrev pub with_parts : SoFar → List Part → SoFar
with_parts so_far parts = fold with_part so_far parts

abbrev pub packet_for_payload : Option Payload → SoFar → Packet
packet_for_payload None so_far = Other (so_far.kind % 2 ^ 32)
packet_for_payload (Some payload) so_far = packet_with_values payload (values_for payload so_far)

abbrev pub packet_so_far : SoFar → Packet
packet_so_far so_far = packet_for_payload (payload_of_type (so_far.kind % 2 ^ 32)) so_far
