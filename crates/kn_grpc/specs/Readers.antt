-- A reader of messages, which holds at most one.
use Rattle.std.specs.Prelude.{◌≡◌, ℕ, suc, ◌+◌, ◌-◌, Bool, true, false, List, [], ◌∷◌, ◌++◌, length, take, drop, slice_index, min, ◌==◌, nat_lt, ◌&&◌, if◌then◌else◌, Option, Some, None, is_none, Result, Ok, Err}
use Rattle.kn_grpc.specs.declared.fault.MessageReason.{MessageReason}
use Rattle.kn_grpc.specs.declared.fault.MessageReason.TheVariants.{Compressed, Flag, TooLong}
use Rattle.kn_grpc.specs.declared.fault.MessageFault.{MessageFault}
use Rattle.kn_grpc.specs.declared.fault.MessageError.{MessageError}
use Rattle.kn_grpc.specs.declared.fault.MessageError.TheVariants.{NoMemory, Fault}
use Rattle.kn_grpc.specs.Messages.{length_of}

-- ---- the first message of a text

-- less than one; one, and the bytes behind it; or a fault
pub data First (A R : Type 0) : Type 0 where
  Less : First A R
  Whole : A → List ℕ → First A R
  Bad : R → First A R

-- Why no message begins as these bytes do. The flag comes first; bytes of the length that did not come yet count as 0.
abbrev pub reason_in : List ℕ → Option MessageReason
reason_in bytes =
    if slice_index bytes 0 == 0
    then (if nat_lt 4194304 (length_of bytes) then Some TooLong else None)
    else (if slice_index bytes 0 == 1 then Some Compressed else Some Flag)

abbrev pub first_by : Option MessageReason → List ℕ → First (List ℕ) MessageReason
first_by (Some reason) bytes = Bad reason
first_by None bytes =
    if nat_lt (length bytes) (5 + length_of bytes) then Less
    else Whole (take (length_of bytes) (drop 5 bytes)) (drop (5 + length_of bytes) bytes)

unfoldable pub first_message : List ℕ → First (List ℕ) MessageReason
first_message bytes = first_by (reason_in bytes) bytes

abbrev pub is_less : {A R : Type 0} → First A R → Bool
is_less Less = true
is_less (Whole message rest) = false
is_less (Bad reason) = false

abbrev pub message_in : {A R : Type 0} → First A R → Option A
message_in Less = None
message_in (Whole message rest) = Some message
message_in (Bad reason) = None

-- ---- what a reader holds

-- the bytes of the message under way, or of a whole one, or up to a fault; and how many bytes came before these
pub record Reading : Type 0 where
  pub kept : List ℕ
  pub offset : ℕ

abbrev pub start : Reading
start = record { kept = []; offset = 0 }

-- a count that stays at its type's end
abbrev pub count_up : ℕ → ℕ → ℕ
count_up n by = min (n + by) 18446744073709551615

-- how many bytes of a piece are taken behind those that are kept: one after another, as long as they are less than a message
abbrev pub taken : List ℕ → List ℕ → ℕ
taken kept [] = 0
taken kept (x ∷ xs) = if is_less (first_message kept) then suc (taken (kept ++ x ∷ []) xs) else 0

-- after a piece
abbrev pub fed : Reading → List ℕ → Reading
fed r piece = record { kept = r.kept ++ take (taken r.kept piece) piece; offset = r.offset }

abbrev pub popped_by : First (List ℕ) MessageReason → Reading → Reading
popped_by Less r = r
popped_by (Whole message rest) r = record { kept = rest; offset = count_up r.offset (length r.kept - length rest) }
popped_by (Bad reason) r = r

-- without the message that is held whole, if one is
abbrev pub popped : Reading → Reading
popped r = popped_by (first_message r.kept) r

abbrev pub fault_by : First (List ℕ) MessageReason → ℕ → Option MessageFault
fault_by Less offset = None
fault_by (Whole message rest) offset = None
fault_by (Bad reason) offset = Some (record { offset = offset; reason = reason })

-- the fault that was met: it is at the message's flag byte
abbrev pub fault_in : Reading → Option MessageFault
fault_in r = fault_by (first_message r.kept) r.offset

-- the answer to a piece: how many bytes were taken, or the fault; where memory ran out nothing was taken
abbrev pub IsFed : Result ℕ MessageError → Reading → Reading → List ℕ → Type 0
IsFed (Ok n) old new piece = (n ≡ taken old.kept piece) × (new ≡ fed old piece) × (fault_in new ≡ None)
IsFed (Err NoMemory) old new piece = new ≡ old
IsFed (Err (Fault f)) old new piece = (new ≡ fed old piece) × (fault_in new ≡ Some f)

-- ---- what the code keeps apart

-- a head of five bytes needs more, and may go on
abbrev pub wants_head : List ℕ → Bool
wants_head head = is_none (reason_in head) && nat_lt (length head) 5
