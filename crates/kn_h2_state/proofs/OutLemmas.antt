-- What waits for the socket.
use Rattle.std.proofs.Common.{◌≡◌, ℕ, Bool, List, ◌++◌, length, replicate, refl, ap, ◌∙◌, append_assoc, length-append}
use Rattle.std.proofs.lemmas.List.{replicate-append-replicate}
use Rattle.kn_h2_state.specs.Outgoing.{Out, put}

-- two parts of one kind are as good as their join
pub put_put : (o : Out) (reply : Bool) (front rest : List ℕ) → put (put o reply front) reply rest ≡ put o reply (front ++ rest)
put_put o reply front rest =
    rw (
      append_assoc o.bytes front rest,
      append_assoc o.replies (replicate (length front) reply) (replicate (length rest) reply),
      replicate-append-replicate (length front) (length rest) reply,
      length-append front rest,
    ) refl

pub put_three : (o : Out) (reply : Bool) (a b c : List ℕ) → put (put (put o reply a) reply b) reply c ≡ put o reply (a ++ (b ++ c))
put_three o reply a b c =
    ap (λ (x : Out). put x reply c) (put_put o reply a b) ∙ (put_put o reply (a ++ b) c ∙ ap (put o reply) (append_assoc a b c))
