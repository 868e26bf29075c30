-- What words ask for, by how many there are.
use Rattle.std.proofs.Common.{◌≡◌, ℕ, ◌<◌, ◌≤◌, List, [], ◌∷◌, length, get_or, arith, refl, suc, ap, sym, ◌∙◌, Bor}
use Rattle.std.specs.Prelude.{map, ◌⊎◌}
use Rattle.std.proofs.Common.{inl, inr}
use Rattle.kn_cmd.specs.declared.command.Command.{Command}
use Rattle.kn_cmd.specs.declared.command.Command.TheVariants.{Replay, Show, Frames, Route}
use Rattle.kn_cmd.specs.declared.question.Question.{Question}
use Rattle.kn_cmd.specs.Question.{IsQuestion}
use Rattle.kn_cmd.specs.Command.{Asks}

same_question : (b c d l m n : List ℕ) (q : Question) → l ≡ b → m ≡ c → n ≡ d → IsQuestion l m n q → IsQuestion b c d q
same_question b c d l m n q e f g h = record { strategies = rw (← e) h.strategies; host = rw (← f) h.host; number = rw (← g) h.number }

-- four words ask for nothing where the last three are no question
pub no_route : (a b c d : List ℕ) → ((q : Question) → IsQuestion b c d q → ⊥) → (command : Command) → Asks (a ∷ b ∷ c ∷ d ∷ []) command → ⊥
no_route a b c d none (Replay strategies) asks = let e = asks.words in cc
no_route a b c d none Show asks = cc
no_route a b c d none Frames asks = cc
no_route a b c d none (Route q) asks = let e = asks.words in none q (same_question b c d asks.list asks.address asks.dial q (cc) (cc) (cc) asks.reads)

-- a command has one word, two or four
pub asked_length : (words : List (List ℕ)) (command : Command) → Asks words command → (length words ≡ 1) ⊎ ((length words ≡ 2) ⊎ (length words ≡ 4))
asked_length words (Replay strategies) asks = inr (inl (ap length asks.words))
asked_length words Show asks = inl (ap length asks)
asked_length words Frames asks = inl (ap length asks)
asked_length words (Route q) asks = inr (inr (ap length asks.words))

length-words : (ws : List (Bor (List ℕ))) → length (map (λ w. w.now) ws) ≡ length ws
length-words [] = refl
length-words (w ∷ ws) = ap suc (length-words ws)

pub other_length : (ws : List (Bor (List ℕ))) (command : Command) → (length ws ≡ 1 → ⊥) → (length ws ≡ 2 → ⊥) → (length ws ≡ 4 → ⊥) → Asks (map (λ w. w.now) ws) command → ⊥
other_length ws command one two four asks = elim (asked_length (map (λ w. w.now) ws) command asks) as (λ _. ⊥) [
  | inl e ↦ one (sym (length-words ws) ∙ e)
  | inr more ↦ elim more as (λ _. ⊥) [ inl e ↦ two (sym (length-words ws) ∙ e) | inr e ↦ four (sym (length-words ws) ∙ e) ]
]

pub four_words : (ws : List (Bor (List ℕ))) (d e f g : Bor (List ℕ)) → 4 ≤ length ws → length ws < 5 → map (λ w. w.now) ws ≡ (get_or ws 0 d).now ∷ (get_or ws 1 e).now ∷ (get_or ws 2 f).now ∷ (get_or ws 3 g).now ∷ []
four_words [] d e f g low high = absurd (omega arith)
four_words (a ∷ []) d e f g low high = absurd (omega arith)
four_words (a ∷ b ∷ []) d e f g low high = absurd (omega arith)
four_words (a ∷ b ∷ c ∷ []) d e f g low high = absurd (omega arith)
four_words (a ∷ b ∷ c ∷ x ∷ []) d e f g low high = refl
four_words (a ∷ b ∷ c ∷ x ∷ y ∷ ws) d e f g low high = absurd (omega arith)

-- the word that stands past the end of a list
abbrev pub no_text : Bor (List ℕ)
no_text = record { ref_ptr = (0, 0); now = [] }
