-- A request's head at the front of a connection's bytes (RFC 9112, sections 2 to 5). The head that is
-- meant is that of CONNECT (RFC 9110, section 9.3.6), and it ends within the first 8,192 bytes.
use Rattle.std.specs.Prelude.{◌≡◌, ℕ, ◌≤◌, List, ◌++◌, length, take, codes}
use Rattle.httparse.specs.Grammar.{RequestHead, print_request, ReadsRequest, HasNoRequest, NeverHasRequest, MayBecomeRequest, EndsInTarget}

-- the bytes that decide
unfoldable pub deciding : List ℕ → List ℕ
deciding bytes = take 8192 bytes

-- the bytes are the head, which ends within those that decide, and then early
pub record BeginsWithHead (bytes : List ℕ) (h : RequestHead) (early : List ℕ) : Type 0 where
  pub reads : ReadsRequest bytes h early
  pub small : length (print_request h) ≤ 8192

-- the method of the head is CONNECT, in these letters
abbrev pub IsConnect : RequestHead → Type 0
IsConnect h = h.method ≡ codes "CONNECT"

-- there is no whole head, and more bytes may make one, or a target is being read
pub record IsUnfinished (bytes : List ℕ) : Type 0 where
  pub none : HasNoRequest bytes
  pub may : MayBecomeRequest bytes

-- whatever follows, the head is whole, or never will be
abbrev pub IsDecided : List ℕ → Type 0
IsDecided bytes = (more : List ℕ) → ¬ (IsUnfinished (bytes ++ more))

-- Whatever follows, no head comes, and the bytes do not end inside a target: there the test for UTF-8
-- waits for the target's end.
pub record IsNever (bytes : List ℕ) : Type 0 where
  pub head : NeverHasRequest bytes
  pub target : (more : List ℕ) → ¬ (EndsInTarget (bytes ++ more))
