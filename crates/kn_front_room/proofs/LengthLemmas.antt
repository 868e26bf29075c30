-- The lengths of the packets that a front is given.
use Rattle.std.proofs.Common.{◌≡◌, ℕ, ℤ, zero, suc, ◌+◌, ◌<◌, ◌≤◌, ◌/◌, ◌%◌, Bool, true, false, cond, eqb, ltb, List, [], ◌∷◌, ◌++◌, length, take, refl, ap, arith}
use Rattle.std.proofs.lemmas.List.{length-append, length-take}
use Rattle.std.proofs.lemmas.Bool.{ltb-false}
use Rattle.std.specs.Fmt.{is_char_start}
use Rattle.std.specs.Prelude.{slice_index}
use Rattle.std.specs.Int.{w64, w32, cast_unsigned, to_be_bytes}
use Rattle.kn_packet.specs.declared.packet.Packet.TheVariants.{DialRsp, CloseRsp, Data}
use Rattle.kn_packet.specs.Spelling.{shortest, varint_of, tag, number_field, int64_field, message_field, bytes_field, body_of}
use Rattle.kn_packet.proofs.Lengths.{tag_is, message_length}
use Rattle.kn_grpc.specs.Messages.{spelled}
use Rattle.kn_grpc.specs.Packets.{framed}
use Rattle.kn_server_core.specs.Texts.{last_start, error_cut}

either_short : (b : Bool) (xs ys : List ℕ) (n : ℕ) → length xs ≤ n → length ys ≤ n → length (cond b xs ys) ≤ n
either_short true xs ys n p q = p
either_short false xs ys n p q = q

shortest_short : (more n : ℕ) → length (shortest more n) ≤ more + 1
unfolding shortest
shortest_short zero n = omega arith
shortest_short (suc more) n = let later = shortest_short more (n / 128) in either_short (ltb n 128) (n ∷ []) ((n % 128 + 128) ∷ shortest more (n / 128)) (suc more + 1) (omega arith) (omega (arith, later))

varint_short : (n : ℕ) → length (varint_of n) ≤ 10
varint_short n = shortest_short 9 n

number_short : (number n : ℕ) → number < 16 → length (number_field number n) ≤ 11
number_short number n small = either_short (eqb n 0) [] (tag number 0 ++ varint_of n) 11 (omega arith) (omega (arith, length-append (tag number 0) (varint_of n), ap length (tag_is number 0 small (omega arith)), varint_short n))

message_short : (number : ℕ) (body : List ℕ) → number < 16 → length (message_field number body) ≤ 11 + length body
message_short number body small = omega (arith, message_length number body small, varint_short (length body))

bytes_short : (number : ℕ) (body : List ℕ) → number < 16 → length (bytes_field number body) ≤ 11 + length body
bytes_short number body small = either_short (eqb (length body) 0) [] (message_field number body) (11 + length body) (omega arith) (message_short number body small)

int64_short : (number : ℕ) (z : ℤ) → number < 16 → length (int64_field number z) ≤ 11
int64_short number z small = number_short number (cast_unsigned w64 z) small

four_bytes : (n : ℕ) → length (to_be_bytes w32 n) ≡ 4
four_bytes n = refl

-- what stands around a body
around : (kind number : ℕ) (body : List ℕ) → number < 16 → length (spelled (number_field 1 kind ++ message_field number body)) ≤ 27 + length body
unfolding spelled
around kind number body small =
    let whole : List ℕ = number_field 1 kind ++ message_field number body in
    omega (arith, four_bytes (length whole), length-append (to_be_bytes w32 (length whole)) whole, length-append (number_field 1 kind) (message_field number body), number_short 1 kind (omega arith), message_short number body small)

-- ---- texts

last_within : (bytes : List ℕ) (n : ℕ) → last_start bytes n ≤ n
unfolding last_start
last_within bytes zero = omega arith
last_within bytes (suc n) = start_here (is_char_start (slice_index bytes (suc n))) (last_within bytes n)
  where
    start_here : (b : Bool) → last_start bytes n ≤ n → cond b (suc n) (last_start bytes n) ≤ suc n
    start_here true later = omega arith
    start_here false later = omega (arith, later)

pub cut_short : (text : List ℕ) → length (error_cut text) ≤ 256
cut_short text = cut_here (ltb 256 (length text)) refl
  where
    cut_here : (b : Bool) → ltb 256 (length text) ≡ b → length (cond b (take (last_start text 256) text) text) ≤ 256
    cut_here true e = omega (arith, length-take (last_start text 256) text, last_within text 256)
    cut_here false e = omega (arith, ltb-false 256 (length text) e)

-- ---- packets

pub reply_short : (error : List ℕ) (id random : ℤ) → length error ≤ 256 → length (framed (DialRsp error id random)) ≤ 320
reply_short error id random short =
    omega (arith, around 1 3 (body_of (DialRsp error id random)) (omega arith), length-append (bytes_field 1 error ++ int64_field 2 id) (int64_field 3 random), length-append (bytes_field 1 error) (int64_field 2 id), bytes_short 1 error (omega arith), int64_short 2 id (omega arith), int64_short 3 random (omega arith), short)

pub end_short : (error : List ℕ) (id : ℤ) → length error ≤ 256 → length (framed (CloseRsp error id)) ≤ 320
end_short error id short =
    omega (arith, around 3 6 (body_of (CloseRsp error id)) (omega arith), length-append (bytes_field 1 error) (int64_field 2 id), bytes_short 1 error (omega arith), int64_short 2 id (omega arith), short)

pub data_short : (id : ℤ) (bytes : List ℕ) → length (framed (Data id [] bytes)) ≤ 60 + length bytes
data_short id bytes =
    omega (arith, around 4 4 (body_of (Data id [] bytes)) (omega arith), length-append (int64_field 1 id ++ []) (bytes_field 3 bytes), length-append (int64_field 1 id) [], bytes_short 3 bytes (omega arith), int64_short 1 id (omega arith))
