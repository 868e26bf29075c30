use Rattle.std.proofs.Common.{◌≡◌, ℕ, ◌+◌, List, [], ◌∷◌, ◌++◌, take, drop, get_or, sym, ap, ◌∙◌, subst, take-append-drop}
use Rattle.std.proofs.lemmas.List.{take_more}
use Rattle.kn_connect.specs.Heads.{IsDecided}
use Rattle.kn_connect.proofs.Refused.{decided_append}
use Rattle.kn_connect.proofs.walk.walk.Goals as goal

pub returns-in-None : goal.returns-in-None
returns-in-None c =
    let bytes = c.args.bytes.now in
    let at = c.loop-at.at in
    let front = take at bytes ++ get_or bytes at 0 ∷ [] in
    let rest = drop (at + 1) bytes in
    let whole : front ++ rest ≡ bytes = ap (λ (t : List ℕ). t ++ rest) (sym (take_more bytes at 0 c.loop-at-test.true)) ∙ take-append-drop (at + 1) bytes in
    subst IsDecided whole (decided_append front rest c.in-None.ensures)
