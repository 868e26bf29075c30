use Rattle.std.proofs.Common.{◌≡◌, ℕ, List, ◌==◌, ◌≤◌, ◌||◌, arith, length, is_some, Result, Ok, Err, IfOk, subst}
use Rattle.kn_grpc.specs.declared.fault.MessageError.{MessageError}
use Rattle.kn_grpc.specs.Readers.{Reading, first_message, message_in, IsFed}
use Rattle.kn_grpc.specs.Stored.{seen}
use Rattle.kn_grpc.proofs.Taking.{taken_within}
use Rattle.kn_grpc.proofs.Feeding.{nothing_taken}
use Rattle.kn_grpc.proofs.messages.Messages.feed.Goals as goal

nothing_of : (r : Result ℕ MessageError) (old new : Reading) (piece : List ℕ) → IsFed r old new piece →
    IfOk r (λ n. (n == 0) ≡ (is_some (message_in (first_message old.kept)) || (length piece == 0)))
nothing_of (Ok n) old new piece f = nothing_taken old new piece n f.0 f.1 f.2
nothing_of (Err e) old new piece f = tt

within_of : (r : Result ℕ MessageError) (old new : Reading) (piece : List ℕ) → IsFed r old new piece → IfOk r (λ n. n ≤ length piece)
within_of (Ok n) old new piece f = let k = taken_within old.kept piece in omega (arith, f.0, k)
within_of (Err e) old new piece f = tt

pub returns-clause-within : goal.returns-clause-within
returns-clause-within c = within_of c.feed.result (seen c.self.inside.state) (seen c.feed.new.state) c.args.piece.now c.feed.ensures.fed

pub returns-clause-nothing : goal.returns-clause-nothing
returns-clause-nothing c =
    subst (λ (r : Reading). IfOk c.feed.result (λ n. (n == 0) ≡ (is_some (message_in (first_message r.kept)) || (length c.args.piece.now == 0)))) c.self.view_is
    (nothing_of c.feed.result (seen c.self.inside.state) (seen c.feed.new.state) c.args.piece.now c.feed.ensures.fed)
