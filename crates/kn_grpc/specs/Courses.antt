-- What a caller does with a reader of messages, and what comes of it.
use Rattle.std.specs.Prelude.{◌≡◌, ℕ, ◌-◌, ◌<◌, ◌⊎◌, List, [], ◌∷◌, ◌++◌, length, take, Option, Some, None}
use Rattle.kn_grpc.specs.declared.fault.MessageReason.{MessageReason}
use Rattle.kn_grpc.specs.declared.fault.MessageReason.TheVariants.{Compressed, Flag, TooLong}
use Rattle.kn_grpc.specs.Messages.{length_of, Spells}
use Rattle.kn_grpc.specs.Readers.{Less, Whole, first_message, message_in, Reading, start, taken, fed, popped, count_up}

-- the reason as the bytes show it: a flag of 1, a flag above, or a length that is too large whatever follows
abbrev pub HasReason : List ℕ → MessageReason → Type 0
HasReason bytes Compressed = (rest : List ℕ) × (bytes ≡ 1 ∷ rest)
HasReason bytes Flag = (flag : ℕ) × (rest : List ℕ) × (1 < flag) × (bytes ≡ flag ∷ rest)
HasReason bytes TooLong = (rest : List ℕ) × (bytes ≡ 0 ∷ rest) × ((more : List ℕ) → 4194304 < length_of (bytes ++ more))

-- a piece is fed, or the message that is held whole is popped
pub data Act : Type 0 where
  Feeds : List ℕ → Act
  Pops : Act

-- all bytes that were taken, the messages that were popped, and the reader
pub record Course : Type 0 where
  pub taken : List ℕ
  pub popped : List (List ℕ)
  pub reading : Reading

abbrev pub begins : Course
begins = record { taken = []; popped = []; reading = start }

abbrev pub listed : Option (List ℕ) → List (List ℕ)
listed None = []
listed (Some message) = message ∷ []

abbrev pub after_act : Course → Act → Course
after_act c (Feeds piece) = record { taken = c.taken ++ take (taken c.reading.kept piece) piece; popped = c.popped; reading = fed c.reading piece }
after_act c Pops = record { taken = c.taken; popped = c.popped ++ listed (message_in (first_message c.reading.kept)); reading = popped c.reading }

abbrev pub after_acts_from : Course → List Act → Course
after_acts_from c [] = c
after_acts_from c (a ∷ later) = after_acts_from (after_act c a) later

abbrev pub after_acts : List Act → Course
after_acts acts = after_acts_from begins acts

-- less than a message; or with a last byte that made it whole, or bad
abbrev pub IsHeld : List ℕ → Type 0
IsHeld kept = (first_message kept ≡ Less) ⊎ ((front : List ℕ) × (last : ℕ) × (kept ≡ front ++ last ∷ []) × (first_message front ≡ Less))

-- The bytes taken are the popped messages and what is held; the offset is that of what is held, and what is held
-- is one message at most, or ends where a fault shows.
pub record HasCourse (c : Course) : Type 0 where
  pub spelled : Spells c.taken c.popped c.reading.kept
  pub held : IsHeld c.reading.kept
  pub alone : (message rest : List ℕ) → first_message c.reading.kept ≡ Whole message rest → rest ≡ []
  pub offset : c.reading.offset ≡ count_up 0 (length c.taken - length c.reading.kept)
