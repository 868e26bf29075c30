-- What is answered for the bytes of a connection so far.
use Rattle.std.specs.Prelude.{◌≡◌, ◌≢◌, ℕ, ◌<◌, ◌≤◌, List, [], ◌++◌, length, Result, Ok, Err, ⊤}
use Rattle.httparse.specs.Grammar.{RequestHead}
use Rattle.kn_connect.specs.declared.answer.ConnectFault.TheVariants.{BadHead, NotConnect, TooLong}
use Rattle.kn_connect.specs.declared.answer.ConnectError.{ConnectError}
use Rattle.kn_connect.specs.declared.answer.ConnectError.TheVariants.{NoMemory, Fault}
use Rattle.kn_connect.specs.declared.answer.ConnectAnswer.{ConnectAnswer}
use Rattle.kn_connect.specs.declared.answer.ConnectAnswer.TheVariants.{More, Head}
use Rattle.kn_connect.specs.Heads.{deciding, BeginsWithHead, IsConnect, IsUnfinished, IsNever}

-- the answer is that of these bytes
abbrev pub Answers : List ℕ → Result ConnectAnswer ConnectError → Type 0
Answers bytes (Ok (Head target early)) = (h : RequestHead) × BeginsWithHead bytes h early × IsConnect h × (target ≡ h.target)
Answers bytes (Ok More) = (length bytes < 8192) × IsUnfinished bytes
Answers bytes (Err (Fault BadHead)) = IsNever (deciding bytes)
Answers bytes (Err (Fault NotConnect)) = (h : RequestHead) × (rest : List ℕ) × BeginsWithHead bytes h rest × ¬ (IsConnect h)
Answers bytes (Err (Fault TooLong)) = (8192 ≤ length bytes) × IsUnfinished (deciding bytes)
Answers bytes (Err NoMemory) = ⊤

-- what a front holds after an answer: all bytes so far while more are wanted, and else none
abbrev pub Holds : Result ConnectAnswer ConnectError → List ℕ → List ℕ → Type 0
Holds (Ok More) bytes new = new ≡ bytes
Holds (Ok (Head target early)) bytes new = new ≡ []
Holds (Err e) bytes new = new ≡ []

-- an answer to the bytes, and not want of memory
abbrev pub IsGiven : Result ConnectAnswer ConnectError → Type 0
IsGiven answer = answer ≢ Err NoMemory

-- an answer that wants no more bytes stands whatever follows, which is early
abbrev pub Lasts : List ℕ → Result ConnectAnswer ConnectError → Type 0
Lasts bytes (Ok (Head target early)) = (more : List ℕ) → Answers (bytes ++ more) (Ok (Head target (early ++ more)))
Lasts bytes (Ok More) = ⊤
Lasts bytes (Err (Fault fault)) = (more : List ℕ) → Answers (bytes ++ more) (Err (Fault fault))
Lasts bytes (Err NoMemory) = ⊤
