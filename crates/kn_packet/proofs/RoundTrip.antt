-- The canonical spelling of a packet reads as the packet.
use Rattle.std.proofs.Common.{◌≡◌, ℕ, ◌<◌, ◌+◌, ◌%◌, ◌^◌, false, cond, eqb, List, [], ◌∷◌, ◌++◌, length, Option, Some, None, ℤ, refl, sym, ap, subst, ◌∙◌, arith}
use Rattle.std.specs.Prelude.{IsUtf8, FitsSigned}
use Rattle.std.specs.Int.{w64, cast_unsigned, cast_signed}
use Rattle.std.proofs.Math.Facts.{Fits-of_z}
use Rattle.std.proofs.lemmas.Int.{to_z-of_z}
use Rattle.std.proofs.lemmas.Bool.{ne_eqb}
use Rattle.std.proofs.lemmas.List.{append-nil, length-append}
use Rattle.kn_packet.specs.declared.packet.Packet.{Packet}
use Rattle.kn_packet.specs.declared.packet.Packet.TheVariants.{DialReq, DialRsp, CloseReq, CloseRsp, Data, DialCls, Drain, Other}
use Rattle.kn_packet.specs.declared.payload.Payload.{Payload}
use Rattle.kn_packet.specs.declared.payload.Payload.TheVariants as payloads
use Rattle.kn_packet.specs.Payloads.{payload_of_type}
use Rattle.kn_packet.specs.Reading.{Joins, last_of, Entry, int64_at, text_at, bytes_at, last_int64, last_text, last_bytes, IsEntry, packet_with, Part, packet_type, member, IsPart, of_plain, of_payload, payload_in, packet_for, Reads}
use Rattle.kn_packet.specs.Spelling.{varint_of, tag, number_field, message_field, bytes_field, spelling, HasSpelling, IsPacket}
use Rattle.kn_packet.proofs.Spells.{number_bound, bytes_bound, number_said, bytes_said, number_spells, message_spells, joins_one, joins_maybe, joins_append, int64_entries, text_entries, bytes_entries, int64_joins, text_joins, bytes_joins}
use Rattle.kn_packet.proofs.LastValues.{of_two_first, of_two_second, of_three_first, of_three_second, silent_two, int64_own, int64_other, int64_text, int64_bytes, text_own, text_other, text_int64, text_bytes, bytes_own, bytes_text, bytes_int64}

-- ---- numbers

bits_fit : (z : ℤ) → FitsSigned w64 z → cast_unsigned w64 z < 2 ^ 64
bits_fit z fits = let h = Fits-of_z {w = w64} {z = z} fits in omega (arith, h)

int64_back : (number : ℕ) (z : ℤ) (entries : List Entry) → FitsSigned w64 z → last_of (int64_at number) 0 entries ≡ cast_unsigned w64 z → last_int64 number entries ≡ z
int64_back number z entries fits e = ap (cast_signed w64) e ∙ to_z-of_z w64 z fits

-- ---- the packet around a payload

type_joins : (n : ℕ) → n < 2 ^ 64 → Joins IsPart (number_field 1 n) (cond (eqb n 0) [] (packet_type n ∷ []))
type_joins n fits = joins_maybe IsPart (tag 1 0 ++ varint_of n) (packet_type n) (eqb n 0) (of_plain (number_said 1 n) (number_spells 1 n (omega arith) (omega arith) fits) refl refl)

member_joins : (payload : Payload) (number : ℕ) (body : List ℕ) (entries : List Entry) → 0 < number → number < 16 → length body < 2 ^ 64 → payload_in (bytes_said number body) ≡ Some (payload, body)
    → Joins (IsEntry payload) body entries → Joins IsPart (message_field number body) (member payload entries ∷ [])
member_joins payload number body entries some small fits known joined =
    joins_one IsPart (message_field number body) (member payload entries) (of_payload (bytes_said number body) (message_spells number body some small fits) payload body known entries joined refl)

packet_joins : (n number : ℕ) (payload : Payload) (body : List ℕ) (entries : List Entry) → n < 2 ^ 64 → 0 < number → number < 16 → length body < 2 ^ 64 → payload_in (bytes_said number body) ≡ Some (payload, body)
    → Joins (IsEntry payload) body entries → Joins IsPart (number_field 1 n ++ message_field number body) (cond (eqb n 0) [] (packet_type n ∷ []) ++ member payload entries ∷ [])
packet_joins n number payload body entries fits some small short known joined =
    joins_append IsPart (number_field 1 n) (message_field number body) (cond (eqb n 0) [] (packet_type n ∷ [])) (member payload entries ∷ []) (type_joins n fits) (member_joins payload number body entries some small short known joined)

-- ---- the packets

module _ (protocol address : List ℕ) (random : ℤ) (p_utf8 : IsUtf8 protocol) (a_utf8 : IsUtf8 address) (r_fits : FitsSigned w64 random) (short : length protocol + length address < 2 ^ 32) where
  dial_req_reads : Reads (spelling (DialReq protocol address random)) (DialReq protocol address random)
  dial_req_reads =
      let bits = cast_unsigned w64 random in
      let a = text_entries 1 protocol in
      let b = text_entries 2 address in
      let c = int64_entries 3 bits in
      let body = bytes_field 1 protocol ++ bytes_field 2 address ++ number_field 3 bits in
      let limit : length body < 2 ^ 64 = omega (arith, length-append (bytes_field 1 protocol ++ bytes_field 2 address) (number_field 3 bits), length-append (bytes_field 1 protocol) (bytes_field 2 address), bytes_bound 1 protocol, bytes_bound 2 address, number_bound 3 bits) in
      let joined : Joins (IsEntry payloads.DialRequest) body (a ++ b ++ c) =
      joins_append _ (bytes_field 1 protocol ++ bytes_field 2 address) (number_field 3 bits) (a ++ b) c
      (joins_append _ (bytes_field 1 protocol) (bytes_field 2 address) a b
      (text_joins payloads.DialRequest 1 protocol refl (omega arith) (omega arith) (omega arith) p_utf8)
      (text_joins payloads.DialRequest 2 address refl (omega arith) (omega arith) (omega arith) a_utf8))
      (int64_joins payloads.DialRequest 3 bits refl (omega arith) (omega arith) (bits_fit random r_fits)) in
      let t1 : last_text 1 (a ++ b ++ c) ≡ protocol = of_three_first (text_at 1) [] protocol a b c (text_own 1 protocol refl) (text_other 1 2 address refl) (text_int64 1 3 bits) in
      let t2 : last_text 2 (a ++ b ++ c) ≡ address = of_three_second (text_at 2) [] address a b c (text_other 2 1 protocol refl) (text_own 2 address refl) (text_int64 2 3 bits) in
      let n3 : last_int64 3 (a ++ b ++ c) ≡ random = int64_back 3 random (a ++ b ++ c) r_fits (of_two_second (int64_at 3) 0 bits (a ++ b) c (silent_two (int64_at 3) a b (int64_text 3 1 protocol) (int64_text 3 2 address)) (int64_own 3 bits refl)) in
      let said : packet_with payloads.DialRequest (a ++ b ++ c) ≡ DialReq protocol address random = (λ i. DialReq (t1 i) (t2 i) (n3 i)) in
      record {
        parts = member payloads.DialRequest (a ++ b ++ c) ∷ [];
        joined = packet_joins 0 2 payloads.DialRequest body (a ++ b ++ c) (omega arith) (omega arith) (omega arith) limit refl joined;
        packet-is = sym (ap (packet_with payloads.DialRequest) (append-nil (a ++ b ++ c)) ∙ said);
      }

module _ (error : List ℕ) (connect_id random : ℤ) (e_utf8 : IsUtf8 error) (c_fits : FitsSigned w64 connect_id) (r_fits : FitsSigned w64 random) (short : length error < 2 ^ 32) where
  dial_rsp_reads : Reads (spelling (DialRsp error connect_id random)) (DialRsp error connect_id random)
  dial_rsp_reads =
      let id = cast_unsigned w64 connect_id in
      let bits = cast_unsigned w64 random in
      let a = text_entries 1 error in
      let b = int64_entries 2 id in
      let c = int64_entries 3 bits in
      let body = bytes_field 1 error ++ number_field 2 id ++ number_field 3 bits in
      let limit : length body < 2 ^ 64 = omega (arith, length-append (bytes_field 1 error ++ number_field 2 id) (number_field 3 bits), length-append (bytes_field 1 error) (number_field 2 id), bytes_bound 1 error, number_bound 2 id, number_bound 3 bits) in
      let joined : Joins (IsEntry payloads.DialResponse) body (a ++ b ++ c) =
      joins_append _ (bytes_field 1 error ++ number_field 2 id) (number_field 3 bits) (a ++ b) c
      (joins_append _ (bytes_field 1 error) (number_field 2 id) a b
      (text_joins payloads.DialResponse 1 error refl (omega arith) (omega arith) (omega arith) e_utf8)
      (int64_joins payloads.DialResponse 2 id refl (omega arith) (omega arith) (bits_fit connect_id c_fits)))
      (int64_joins payloads.DialResponse 3 bits refl (omega arith) (omega arith) (bits_fit random r_fits)) in
      let t1 : last_text 1 (a ++ b ++ c) ≡ error = of_three_first (text_at 1) [] error a b c (text_own 1 error refl) (text_int64 1 2 id) (text_int64 1 3 bits) in
      let n2 : last_int64 2 (a ++ b ++ c) ≡ connect_id = int64_back 2 connect_id (a ++ b ++ c) c_fits (of_three_second (int64_at 2) 0 id a b c (int64_text 2 1 error) (int64_own 2 id refl) (int64_other 2 3 bits refl)) in
      let n3 : last_int64 3 (a ++ b ++ c) ≡ random = int64_back 3 random (a ++ b ++ c) r_fits (of_two_second (int64_at 3) 0 bits (a ++ b) c (silent_two (int64_at 3) a b (int64_text 3 1 error) (int64_other 3 2 id refl)) (int64_own 3 bits refl)) in
      let said : packet_with payloads.DialResponse (a ++ b ++ c) ≡ DialRsp error connect_id random = (λ i. DialRsp (t1 i) (n2 i) (n3 i)) in
      record {
        parts = packet_type 1 ∷ member payloads.DialResponse (a ++ b ++ c) ∷ [];
        joined = packet_joins 1 3 payloads.DialResponse body (a ++ b ++ c) (omega arith) (omega arith) (omega arith) limit refl joined;
        packet-is = sym (ap (packet_with payloads.DialResponse) (append-nil (a ++ b ++ c)) ∙ said);
      }

module _ (connect_id : ℤ) (c_fits : FitsSigned w64 connect_id) where
  close_req_reads : Reads (spelling (CloseReq connect_id)) (CloseReq connect_id)
  close_req_reads =
      let id = cast_unsigned w64 connect_id in
      let a = int64_entries 1 id in
      let limit : length (number_field 1 id) < 2 ^ 64 = omega (arith, number_bound 1 id) in
      let joined : Joins (IsEntry payloads.CloseRequest) (number_field 1 id) a = int64_joins payloads.CloseRequest 1 id refl (omega arith) (omega arith) (bits_fit connect_id c_fits) in
      let said : packet_with payloads.CloseRequest a ≡ CloseReq connect_id = ap CloseReq (int64_back 1 connect_id a c_fits (int64_own 1 id refl)) in
      record {
        parts = packet_type 2 ∷ member payloads.CloseRequest a ∷ [];
        joined = packet_joins 2 5 payloads.CloseRequest (number_field 1 id) a (omega arith) (omega arith) (omega arith) limit refl joined;
        packet-is = sym (ap (packet_with payloads.CloseRequest) (append-nil a) ∙ said);
      }

  dial_cls_reads : Reads (spelling (DialCls connect_id)) (DialCls connect_id)
  dial_cls_reads =
      let id = cast_unsigned w64 connect_id in
      let a = int64_entries 1 id in
      let limit : length (number_field 1 id) < 2 ^ 64 = omega (arith, number_bound 1 id) in
      let joined : Joins (IsEntry payloads.CloseDial) (number_field 1 id) a = int64_joins payloads.CloseDial 1 id refl (omega arith) (omega arith) (bits_fit connect_id c_fits) in
      let said : packet_with payloads.CloseDial a ≡ DialCls connect_id = ap DialCls (int64_back 1 connect_id a c_fits (int64_own 1 id refl)) in
      record {
        parts = packet_type 5 ∷ member payloads.CloseDial a ∷ [];
        joined = packet_joins 5 7 payloads.CloseDial (number_field 1 id) a (omega arith) (omega arith) (omega arith) limit refl joined;
        packet-is = sym (ap (packet_with payloads.CloseDial) (append-nil a) ∙ said);
      }

module _ (error : List ℕ) (connect_id : ℤ) (e_utf8 : IsUtf8 error) (c_fits : FitsSigned w64 connect_id) (short : length error < 2 ^ 32) where
  close_rsp_reads : Reads (spelling (CloseRsp error connect_id)) (CloseRsp error connect_id)
  close_rsp_reads =
      let id = cast_unsigned w64 connect_id in
      let a = text_entries 1 error in
      let b = int64_entries 2 id in
      let body = bytes_field 1 error ++ number_field 2 id in
      let limit : length body < 2 ^ 64 = omega (arith, length-append (bytes_field 1 error) (number_field 2 id), bytes_bound 1 error, number_bound 2 id) in
      let joined : Joins (IsEntry payloads.CloseResponse) body (a ++ b) =
      joins_append _ (bytes_field 1 error) (number_field 2 id) a b
      (text_joins payloads.CloseResponse 1 error refl (omega arith) (omega arith) (omega arith) e_utf8)
      (int64_joins payloads.CloseResponse 2 id refl (omega arith) (omega arith) (bits_fit connect_id c_fits)) in
      let t1 : last_text 1 (a ++ b) ≡ error = of_two_first (text_at 1) [] error a b (text_own 1 error refl) (text_int64 1 2 id) in
      let n2 : last_int64 2 (a ++ b) ≡ connect_id = int64_back 2 connect_id (a ++ b) c_fits (of_two_second (int64_at 2) 0 id a b (int64_text 2 1 error) (int64_own 2 id refl)) in
      let said : packet_with payloads.CloseResponse (a ++ b) ≡ CloseRsp error connect_id = (λ i. CloseRsp (t1 i) (n2 i)) in
      record {
        parts = packet_type 3 ∷ member payloads.CloseResponse (a ++ b) ∷ [];
        joined = packet_joins 3 6 payloads.CloseResponse body (a ++ b) (omega arith) (omega arith) (omega arith) limit refl joined;
        packet-is = sym (ap (packet_with payloads.CloseResponse) (append-nil (a ++ b)) ∙ said);
      }

module _ (connect_id : ℤ) (error content : List ℕ) (c_fits : FitsSigned w64 connect_id) (e_utf8 : IsUtf8 error) (short : length error + length content < 2 ^ 32) where
  data_reads : Reads (spelling (Data connect_id error content)) (Data connect_id error content)
  data_reads =
      let id = cast_unsigned w64 connect_id in
      let a = int64_entries 1 id in
      let b = text_entries 2 error in
      let c = bytes_entries 3 content in
      let body = number_field 1 id ++ bytes_field 2 error ++ bytes_field 3 content in
      let limit : length body < 2 ^ 64 = omega (arith, length-append (number_field 1 id ++ bytes_field 2 error) (bytes_field 3 content), length-append (number_field 1 id) (bytes_field 2 error), number_bound 1 id, bytes_bound 2 error, bytes_bound 3 content) in
      let joined : Joins (IsEntry payloads.Data) body (a ++ b ++ c) =
      joins_append _ (number_field 1 id ++ bytes_field 2 error) (bytes_field 3 content) (a ++ b) c
      (joins_append _ (number_field 1 id) (bytes_field 2 error) a b
      (int64_joins payloads.Data 1 id refl (omega arith) (omega arith) (bits_fit connect_id c_fits))
      (text_joins payloads.Data 2 error refl (omega arith) (omega arith) (omega arith) e_utf8))
      (bytes_joins payloads.Data 3 content refl (omega arith) (omega arith) (omega arith)) in
      let n1 : last_int64 1 (a ++ b ++ c) ≡ connect_id = int64_back 1 connect_id (a ++ b ++ c) c_fits (of_three_first (int64_at 1) 0 id a b c (int64_own 1 id refl) (int64_text 1 2 error) (int64_bytes 1 3 content)) in
      let t2 : last_text 2 (a ++ b ++ c) ≡ error = of_three_second (text_at 2) [] error a b c (text_int64 2 1 id) (text_own 2 error refl) (text_bytes 2 3 content) in
      let b3 : last_bytes 3 (a ++ b ++ c) ≡ content = of_two_second (bytes_at 3) [] content (a ++ b) c (silent_two (bytes_at 3) a b (bytes_int64 3 1 id) (bytes_text 3 2 error)) (bytes_own 3 content refl) in
      let said : packet_with payloads.Data (a ++ b ++ c) ≡ Data connect_id error content = (λ i. Data (n1 i) (t2 i) (b3 i)) in
      record {
        parts = packet_type 4 ∷ member payloads.Data (a ++ b ++ c) ∷ [];
        joined = packet_joins 4 4 payloads.Data body (a ++ b ++ c) (omega arith) (omega arith) (omega arith) limit refl joined;
        packet-is = sym (ap (packet_with payloads.Data) (append-nil (a ++ b ++ c)) ∙ said);
      }

drain_reads : Reads (spelling Drain) Drain
drain_reads = record {
  parts = packet_type 6 ∷ member payloads.Drain [] ∷ [];
  joined = packet_joins 6 8 payloads.Drain [] [] (omega arith) (omega arith) (omega arith) (omega arith) refl refl;
  packet-is = refl;
}

unknown_type : (n : ℕ) → 6 < n → payload_of_type n ≡ None
unknown_type n big =
    rw (ne_eqb n 0 (omega arith), ne_eqb n 1 (omega arith), ne_eqb n 2 (omega arith), ne_eqb n 3 (omega arith), ne_eqb n 4 (omega arith), ne_eqb n 5 (omega arith), ne_eqb n 6 (omega arith)) refl

other_reads : (n : ℕ) → n < 2 ^ 32 → 6 < n → Reads (spelling (Other n)) (Other n)
other_reads n fits big =
    let some : eqb n 0 ≡ false = ne_eqb n 0 (omega arith) in
    let small : n % 2 ^ 32 ≡ n = omega arith in
    let none : payload_of_type (n % 2 ^ 32) ≡ None = ap payload_of_type small ∙ unknown_type n big in
    let one : cond (eqb n 0) [] (packet_type n ∷ []) ≡ packet_type n ∷ [] = rw some refl in
    let typed : Joins IsPart (number_field 1 n) (packet_type n ∷ []) = subst (λ (ps : List Part). Joins IsPart (number_field 1 n) ps) one (type_joins n (omega arith)) in
    record {
      parts = packet_type n ∷ [];
      joined = joins_append IsPart (number_field 1 n) [] (packet_type n ∷ []) [] typed refl;
      packet-is = sym (ap (λ (k : Option Payload). packet_for k (packet_type n ∷ [])) none ∙ ap Other small);
    }

pub spelling_reads : (packet : Packet) → IsPacket packet → HasSpelling packet → Reads (spelling packet) packet
spelling_reads (DialReq protocol address random) is short = dial_req_reads protocol address random is.0 is.1 is.2 short
spelling_reads (DialRsp error connect_id random) is short = dial_rsp_reads error connect_id random is.0 is.1 is.2 short
spelling_reads (CloseReq connect_id) is short = close_req_reads connect_id is
spelling_reads (CloseRsp error connect_id) is short = close_rsp_reads error connect_id is.0 is.1 short
spelling_reads (Data connect_id error content) is short = data_reads connect_id error content is.0 is.1 short
spelling_reads (DialCls random) is short = dial_cls_reads random is
spelling_reads Drain is short = drain_reads
spelling_reads (Other number) is short = other_reads number is short
