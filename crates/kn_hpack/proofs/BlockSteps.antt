-- Reading a block goes on from where it stands.
use Rattle.std.proofs.Common.{◌≡◌, refl, sym, ◌∙◌, ap, ℕ, suc, zero, ◌-◌, ◌<◌, ◌≤◌, List, [], ◌∷◌, length, Result, Ok, Err, arith}
use Rattle.kn_hpack.specs.Blocks.{Progress, step_at, read_from, placed}
use Rattle.kn_hpack.specs.declared.fault.HpackReason.{HpackReason}
use Rattle.kn_hpack.specs.declared.fault.HpackFault.{HpackFault}

abbrev pub BlockRead : Type 0
BlockRead = Result Progress HpackFault

abbrev pub StepRead : Type 0
StepRead = Result (Progress × List ℕ) HpackReason

abbrev pub stepped : Progress → List ℕ → StepRead
stepped q rest = Ok (q, rest)

abbrev pub refused : HpackReason → StepRead
refused r = Err r

abbrev pub read_on : ℕ → ℕ → StepRead → (ℕ → BlockRead)
read_on len k r place = placed place r (λ x. read_from len k x.0 x.1)

pub goes : (len k steps : ℕ) (p q : Progress) (bytes rest : List ℕ) (end : BlockRead) → steps ≡ suc k → 0 < length bytes → step_at p bytes ≡ stepped q rest
    → read_from len steps p bytes ≡ end → read_from len k q rest ≡ end
unfolding read_from
goes len k steps p q [] rest end e l s h = absurd (omega arith)
goes len k steps p q (b ∷ bs) rest end e l s h =
    let spread : read_from len steps p (b ∷ bs) ≡ read_on len k (step_at p (b ∷ bs)) (len - length (b ∷ bs)) = rw e refl in
    sym (ap (λ (r : StepRead). read_on len k r (len - length (b ∷ bs))) s) ∙ (sym spread ∙ h)

pub stops : (len k steps : ℕ) (p : Progress) (r : HpackReason) (bytes : List ℕ) (end : BlockRead) → steps ≡ suc k → 0 < length bytes → step_at p bytes ≡ refused r
    → read_from len steps p bytes ≡ end → end ≡ Err (record { place = len - length bytes; reason = r })
unfolding read_from
stops len k steps p r [] end e l s h = absurd (omega arith)
stops len k steps p r (b ∷ bs) end e l s h =
    let spread : read_from len steps p (b ∷ bs) ≡ read_on len k (step_at p (b ∷ bs)) (len - length (b ∷ bs)) = rw e refl in
    sym h ∙ (spread ∙ ap (λ (x : StepRead). read_on len k x (len - length (b ∷ bs))) s)

pub at_end : (len steps : ℕ) (p : Progress) (bytes : List ℕ) (end : BlockRead) → length bytes ≤ 0 → read_from len steps p bytes ≡ end → end ≡ Ok p
unfolding read_from
at_end len steps p [] end l h = sym h
at_end len steps p (b ∷ bs) end l h = absurd (omega arith)

pub out_of_steps : (len steps : ℕ) (p : Progress) (bytes : List ℕ) (end : BlockRead) → steps ≤ 0 → read_from len steps p bytes ≡ end → end ≡ Ok p
unfolding read_from
out_of_steps len zero p [] end l h = sym h
out_of_steps len zero p (b ∷ bs) end l h = sym h
out_of_steps len (suc k) p bytes end l h = absurd (omega arith)
