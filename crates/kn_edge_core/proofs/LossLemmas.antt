-- Outputs in order, where a list is told one by one.
use Rattle.std.proofs.Common.{◌≡◌, List, [], ◌∷◌, ◌++◌, sym, ap, ◌∙◌, append_assoc, append-nil}

-- one more was given, and as many are left
pub told_more : {X : Type 0} (outs next rest later start : List X) (o : X) → next ≡ outs ++ o ∷ [] → rest ≡ o ∷ later → outs ++ rest ≡ start → next ++ later ≡ start
told_more outs next rest later start o n r h = rw n (append_assoc outs (o ∷ []) later ∙ ap (λ l. outs ++ l) (sym r) ∙ h)

-- none is left
pub told_all : {X : Type 0} (outs rest start : List X) → rest ≡ [] → outs ++ rest ≡ start → outs ≡ start
told_all outs rest start r h = sym (append-nil outs) ∙ ap (λ l. outs ++ l) (sym r) ∙ h
