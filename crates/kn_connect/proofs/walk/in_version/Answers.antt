use Rattle.std.proofs.Common.{◌≡◌, ℕ, ◌+◌, ◌≤◌, false, List, [], ◌∷◌, ◌++◌, take, sym, subst, arith, inl, inr}
use Rattle.kn_connect.specs.Places.{version_front, IsAfterTarget, IsAfterVersion}
use Rattle.kn_connect.proofs.Steps.{version_digit}
use Rattle.kn_connect.proofs.Refused.{version_refuses, digit_refuses}
use Rattle.kn_connect.proofs.walk.in_version.Goals as goal

digit : (s : List ℕ) (minor byte : ℕ) → minor ≤ 1 → byte ≡ 48 + minor → IsAfterTarget s version_front → IsAfterVersion (s ++ byte ∷ []) false
digit s minor byte small e i = subst (λ b. IsAfterVersion (s ++ b ∷ []) false) (sym e) (version_digit s minor small i)

pub returns-then-byte-eq48 : goal.returns-then-byte-eq48
returns-then-byte-eq48 c = λ s i.
    let seven : c.args.count ≡ 7 = omega arith in
    let all : IsAfterTarget s version_front = subst (λ n. IsAfterTarget s (take n version_front)) seven i in
    elim c.then-byte-eq48.either [ inl e ↦ digit s 0 c.args.byte (omega arith) e all | inr e ↦ digit s 1 c.args.byte (omega arith) e.1 all ]

pub returns-then-count-lt7 : goal.returns-then-count-lt7
returns-then-count-lt7 c = λ s i. version_refuses s c.args.count c.args.byte c.if-count-lt7.true i c.if-byte-count.false

pub returns : goal.returns
returns c = λ s i.
    let seven : c.args.count ≡ 7 = omega arith in
    digit_refuses s c.args.byte (subst (λ n. IsAfterTarget s (take n version_front)) seven i) c.if-byte-eq48.false c.if-byte-eq49.false
