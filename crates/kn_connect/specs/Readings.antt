-- What a reader of whole heads finds in bytes.
use Rattle.std.specs.Prelude.{◌≡◌, ℕ, ◌≤◌, List, length, drop}
use Rattle.httparse.specs.declared.spans.RequestSpans.{RequestSpans}
use Rattle.httparse.specs.Grammar.{RequestHead, ReadsRequest, NeverHasRequest}
use Rattle.httparse.specs.Spans.{span_bytes, IsWithin}
use Rattle.kn_connect.specs.declared.reading.Reading.{Reading}
use Rattle.kn_connect.specs.declared.reading.Reading.TheVariants.{Connect, Other, Never}
use Rattle.kn_connect.specs.Heads.{IsConnect}

-- the spans are those of a head at the front of the bytes
pub record IsSpelled (bytes : List ℕ) (r : RequestSpans) : Type 0 where
  pub head : RequestHead
  pub reads : ReadsRequest bytes head (drop r.len bytes)
  pub method : span_bytes bytes r.method ≡ head.method
  pub path : span_bytes bytes r.path ≡ head.target
  pub method_within : IsWithin (length bytes) r.method
  pub path_within : IsWithin (length bytes) r.path
  pub len : r.len ≤ length bytes

-- the bytes are what was read
abbrev pub Reads : List ℕ → Reading → Type 0
Reads bytes (Connect target len) = (head : RequestHead) × ReadsRequest bytes head (drop len bytes) × IsConnect head × (target ≡ head.target) × (len ≤ length bytes)
Reads bytes Other = (head : RequestHead) × (rest : List ℕ) × ReadsRequest bytes head rest × ¬ (IsConnect head)
Reads bytes Never = NeverHasRequest bytes
