-- One turn more.
use Rattle.std.proofs.Common.{◌≡◌, ℕ, suc, List, subst}
use Rattle.std.specs.Prelude.{Option}
use Rattle.kn_port.specs.declared.entry.Entry.{Entry}
use Rattle.kn_loop.specs.declared.watch.Watch.{Watch}
use Rattle.kn_loop.specs.declared.turn.Turn.{Turn}
use Rattle.kn_loop.specs.declared.turn.Turn.TheVariants as turn
use Rattle.kn_serve.specs.Working.{Went}

pub went_on : {N : Type 0} (Turns : Option (List Entry) → Option (List Entry) → Watch → Watch → N → N → Turn → Type 0) (k : ℕ)
    (told0 told told1 : Option (List Entry)) (w0 w w1 : Watch) (n0 n n1 : N) (answer : Turn)
    → Went Turns k told0 w0 n0 told w n → Turns told told1 w w1 n n1 answer → answer ≡ turn.More → Went Turns (suc k) told0 w0 n0 told1 w1 n1
went_on Turns k told0 told told1 w0 w w1 n0 n n1 answer went turned more =
    (told, w, n, went, subst (λ t. Turns told told1 w w1 n n1 t) more turned)
