-- The source and the sink in memory: what each call answers, and what it leaves.
use Rattle.std.specs.Prelude.{ℕ, ◌+◌, ◌-◌, ◌^◌, ◌==◌, Bool, List, ◌++◌, length, drop, min, if◌then◌else◌}
use Rattle.std.specs.List.{list_any}
use Rattle.kn_io.specs.declared.source.Got.{Got}
use Rattle.kn_io.specs.declared.source.Got.TheVariants.{Bytes, End, Failed}
use Rattle.kn_io.specs.declared.sink.Put.{Put}
use Rattle.kn_io.specs.declared.sink.Put.TheVariants as put

-- a source in memory: the bytes that are left, the most that one call gives, the numbers of the calls
-- that are to fail, how many calls were made, and how many of them failed
pub record SourceState : Type 0 where
  pub left : List ℕ
  pub cut : ℕ
  pub fails : List ℕ
  pub calls : ℕ
  pub faults : ℕ

-- a sink in memory
pub record SinkState : Type 0 where
  pub written : List ℕ
  pub fails : List ℕ
  pub calls : ℕ
  pub faults : ℕ

-- the next number of a count, which stands still at 2^64 - 1
abbrev pub counted : ℕ → ℕ
counted n = min (n + 1) (2 ^ 64 - 1)

-- the call of this number is to fail
abbrev pub is_listed : List ℕ → ℕ → Bool
is_listed fails call = list_any (λ n. n == call) fails

-- how many bytes one call gives
abbrev pub given_count : SourceState → ℕ → ℕ
given_count s room = min (min room s.cut) (length s.left)

-- what the next call answers
abbrev pub read_answer : SourceState → ℕ → Got
read_answer s room =
    if is_listed s.fails (counted s.calls) then Failed
    else if length s.left == 0 then End
    else Bytes (given_count s room)

-- what an answer leaves
abbrev pub after_read : SourceState → Got → SourceState
after_read s (Bytes n) = record s { left = drop n s.left; calls = counted s.calls }
after_read s End = record s { calls = counted s.calls }
after_read s Failed = record s { calls = counted s.calls; faults = counted s.faults }

-- what the next write answers, where memory does not run out
abbrev pub write_answer : SinkState → Put
write_answer s = if is_listed s.fails (counted s.calls) then put.Failed else put.Done

-- what an answer leaves; a write that fails or finds no memory takes nothing
abbrev pub after_write : SinkState → Put → List ℕ → SinkState
after_write s put.Done bytes = record s { written = s.written ++ bytes; calls = counted s.calls }
after_write s put.Failed bytes = record s { calls = counted s.calls; faults = counted s.faults }
after_write s put.NoMemory bytes = record s { calls = counted s.calls }
