-- The tables of client.proto: the payloads of a packet, their fields, and the types.
use Rattle.std.specs.Prelude.{ℕ, ◌==◌, Bool, Option, Some, None, if◌then◌else◌}
use Rattle.kn_packet.specs.declared.payload.Payload.{Payload}
use Rattle.kn_packet.specs.declared.payload.Payload.TheVariants.{DialRequest, DialResponse, Data, CloseRequest, CloseResponse, CloseDial, Drain}
use Rattle.kn_packet.specs.declared.payload.FieldKind.{FieldKind}
use Rattle.kn_packet.specs.declared.payload.FieldKind.TheVariants.{Int64, Text, Bytes, Unknown}

-- the payload's field number in a packet; field 1 is the type
abbrev pub number_of : Payload → ℕ
number_of DialRequest = 2
number_of DialResponse = 3
number_of Data = 4
number_of CloseRequest = 5
number_of CloseResponse = 6
number_of CloseDial = 7
number_of Drain = 8

abbrev pub is_payload : Payload → Payload → Bool
is_payload one other = number_of one == number_of other

abbrev pub payload_of_number : ℕ → Option Payload
payload_of_number number =
    if number == 2 then Some DialRequest
    else if number == 3 then Some DialResponse
    else if number == 4 then Some Data
    else if number == 5 then Some CloseRequest
    else if number == 6 then Some CloseResponse
    else if number == 7 then Some CloseDial
    else if number == 8 then Some Drain
    else None

-- the payload of a packet of this type: DIAL_REQ, DIAL_RSP, CLOSE_REQ, CLOSE_RSP, DATA, DIAL_CLS, DRAIN
abbrev pub payload_of_type : ℕ → Option Payload
payload_of_type number =
    if number == 0 then Some DialRequest
    else if number == 1 then Some DialResponse
    else if number == 2 then Some CloseRequest
    else if number == 3 then Some CloseResponse
    else if number == 4 then Some Data
    else if number == 5 then Some CloseDial
    else if number == 6 then Some Drain
    else None

-- what the field of this number in a payload is of
abbrev pub kind_of : Payload → ℕ → FieldKind
kind_of DialRequest number =
    if number == 1 then Text
    else if number == 2 then Text
    else if number == 3 then Int64
    else Unknown
kind_of DialResponse number =
    if number == 1 then Text
    else if number == 2 then Int64
    else if number == 3 then Int64
    else Unknown
kind_of Data number =
    if number == 1 then Int64
    else if number == 2 then Text
    else if number == 3 then Bytes
    else Unknown
kind_of CloseRequest number = if number == 1 then Int64 else Unknown
kind_of CloseResponse number = if number == 1 then Text else if number == 2 then Int64 else Unknown
kind_of CloseDial number = if number == 1 then Int64 else Unknown
kind_of Drain number = Unknown
