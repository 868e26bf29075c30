-- What the front of an app holds after an answer, and answers that are passed on.
use Rattle.std.proofs.Common.{◌≡◌, ℕ, List, Result, Ok, Err, OnOk}
use Rattle.kn_connect.specs.Answers.{Holds, IsGiven}
use Rattle.kn_connect.specs.declared.answer.ConnectAnswer.{ConnectAnswer}
use Rattle.kn_connect.specs.declared.answer.ConnectAnswer.TheVariants.{More, Head}
use Rattle.kn_connect.specs.declared.answer.ConnectError.{ConnectError}
use Rattle.kn_connect.specs.declared.answer.ConnectError.TheVariants.{Fault}
use Rattle.kn_world.specs.Hearing.{holds}

pub what_it_holds : (answer : Result ConnectAnswer ConnectError) (bytes new : List ℕ) → Holds answer bytes new → new ≡ holds answer bytes
what_it_holds (Ok More) bytes new h = h
what_it_holds (Ok (Head target early)) bytes new h = h
what_it_holds (Err e) bytes new h = h

pub both_ok : {T E : Type 0} {A B C : Type 0} (r : Result T E) → OnOk r A → OnOk r B → (A → B → C) → OnOk r C
both_ok (Ok x) a b join = join a b
both_ok (Err e) a b join = tt

pub answer_given : (answer : ConnectAnswer) → IsGiven (Ok answer)
answer_given answer e = cc

pub fault_given : (f : Rattle.kn_connect.specs.declared.answer.ConnectFault.ConnectFault) → IsGiven (Err (Fault f))
fault_given f e = cc
