use Rattle.std.proofs.Common.{ℕ, ◌<◌, List, [], ◌∷◌, ◌++◌, length, drop, sym, ◌∙◌, subst, arith, length-append}
use Rattle.std.specs.Prelude.{IsUtf8}
use Rattle.std.proofs.lemmas.List.{drop-append-le, take_rest}
use Rattle.kn_connect.specs.Places.{IsInTarget, IsAfterTarget}
use Rattle.kn_connect.proofs.Steps.{target_visible, target_space}
use Rattle.kn_connect.proofs.Refused.{target_refuses}
use Rattle.kn_connect.proofs.walk.in_target.Goals as goal

pub returns-then-is_in_target : goal.returns-then-is_in_target
returns-then-is_in_target c =
    let s = c.args.before.now in
    let b = c.args.byte in
    let longer = length-append s (b ∷ []) in
    let within = c.requires.within in (
      omega arith,
      subst (λ t. IsInTarget (s ++ b ∷ []) t) (sym (drop-append-le c.args.start s (b ∷ []) within))
          (target_visible s (drop c.args.start s) b c.requires.place (sym c.is_in_target.ensures ∙ c.if-is_in_target.true)),
    )

pub returns-then-byte-ne32 : goal.returns-then-byte-ne32
returns-then-byte-ne32 c =
    target_refuses c.args.before.now (drop c.args.start c.args.before.now) c.args.byte c.requires.place (sym c.is_in_target.ensures ∙ c.if-is_in_target.false)
    (λ e some text. c.if-byte-ne32.true e)

pub returns-then-is_target : goal.returns-then-is_target
returns-then-is_target c =
    let s = c.args.before.now in
    let whole = subst (λ (t : List ℕ). (0 < length t) × IsUtf8 t) (take_rest s c.args.start) (c.is_target.ensures.0 c.if-is_target.true) in (
      omega arith,
      subst (λ b. IsAfterTarget (s ++ b ∷ []) []) (sym c.if-byte-ne32.false) (target_space s (drop c.args.start s) c.requires.place whole.0 whole.1),
    )

pub returns : goal.returns
returns c =
    let s = c.args.before.now in
    target_refuses s (drop c.args.start s) c.args.byte c.requires.place (sym c.is_in_target.ensures ∙ c.if-is_in_target.false) (λ e some text.
    let yes = c.is_target.ensures.1 (subst (λ (t : List ℕ). (0 < length t) × IsUtf8 t) (sym (take_rest s c.args.start)) (some, text)) in
    let no = c.if-is_target.false in
    cc)
