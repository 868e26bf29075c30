-- Bytes that go in several packets are one run of bytes in the word.
use Rattle.std.proofs.Common.{◌≡◌, ◌++◌, ◌+◌, ◌||◌, ℕ, Bool, true, false, cond, List, [], ◌∷◌, map, take, drop, refl, ap, ◌∙◌, append-nil, take-append-drop, arith}
use Rattle.kn_tunnel.specs.Order.{down_bytes_follow, out_bytes_follow}
use Rattle.kn_tunnel.specs.Steps.{appended, no_down, no_out}
use Rattle.kn_tunnel.specs.Tunnel.{Downward, Outward}
use Rattle.kn_words.specs.Down.{BytesDown, DownItem, down_cons, down_join, down_of, down_ordered}
use Rattle.kn_words.specs.Out.{BytesOut, OutItem, out_cons, out_join, out_of, out_ordered}
use Rattle.kn_words.specs.Parts.{all_bytes}
use Rattle.kn_words.proofs.DownGiven.{DownFollow, down_order_follow}
use Rattle.kn_words.proofs.Joins.{down_joined, out_joined}
use Rattle.kn_words.proofs.OutGiven.{OutFollow, out_order_follow}

-- in two packets, or in one
pub two_parts : (n : ℕ) (bytes : List ℕ) → all_bytes (take n bytes ∷ drop n bytes ∷ []) ≡ bytes
two_parts n bytes = ap (λ l. take n bytes ++ l) (append-nil (drop n bytes)) ∙ take-append-drop n bytes

pub one_part : (bytes : List ℕ) → all_bytes (bytes ∷ []) ≡ bytes
one_part bytes = append-nil bytes

nothing_more : (n : ℕ) → n + 0 ≡ n
nothing_more n = omega arith

module _ {A : Type 0} (item : A → OutItem) (give : List ℕ → A) (bytes_given : (b : List ℕ) → item (give b) ≡ BytesOut b) where
  out_alone : (parts : List (List ℕ)) → out_of item (map give parts) ≡ record no_out { bytes = all_bytes parts }
  out_alone [] = refl
  out_alone (b ∷ parts) = rw (bytes_given b) (ap (out_cons (BytesOut b)) (out_alone parts))

  pub out_parts : (ps : List A) (parts : List (List ℕ)) → out_of item (ps ++ map give parts) ≡ record (out_of item ps) { bytes = (out_of item ps).bytes ++ all_bytes parts }
  out_parts ps parts =
      out_joined item ps (map give parts)
      ∙ ap (out_join (out_of item ps)) (out_alone parts)
      ∙ ap (λ n. record (out_of item ps) { bytes = (out_of item ps).bytes ++ all_bytes parts; closes = n }) (nothing_more (out_of item ps).closes)

  pub out_put_parts : (there : Bool) (ps : List A) (parts : List (List ℕ)) → out_of item (cond there (ps ++ map give parts) ps) ≡ record (out_of item ps) { bytes = appended there (out_of item ps).bytes (all_bytes parts) }
  out_put_parts true ps parts = out_parts ps parts
  out_put_parts false ps parts = refl

  out_parts_follow : (w : Outward) (parts : List (List ℕ)) → out_bytes_follow w ≡ true → OutFollow item w (map give parts)
  out_parts_follow w [] f = tt
  out_parts_follow w (b ∷ parts) f = rw (bytes_given b) (f, out_parts_follow (record w { bytes = w.bytes ++ b }) parts f)

  pub out_order_parts : (ps : List A) (parts : List (List ℕ)) → out_ordered item ps ≡ true → out_bytes_follow (out_of item ps) ≡ true → out_ordered item (ps ++ map give parts) ≡ true
  out_order_parts ps parts h f = out_order_follow item ps (map give parts) h (out_parts_follow (out_of item ps) parts f)

module _ {A : Type 0} (item : A → DownItem) (give : List ℕ → A) (bytes_given : (b : List ℕ) → item (give b) ≡ BytesDown b) where
  down_alone : (parts : List (List ℕ)) → down_of item (map give parts) ≡ record no_down { bytes = all_bytes parts }
  down_alone [] = refl
  down_alone (b ∷ parts) = rw (bytes_given b) (ap (down_cons (BytesDown b)) (down_alone parts))

  or_none : (b : Bool) → (b || false) ≡ b
  or_none true = refl
  or_none false = refl

  pub down_parts : (ps : List A) (parts : List (List ℕ)) → down_of item (ps ++ map give parts) ≡ record (down_of item ps) { bytes = (down_of item ps).bytes ++ all_bytes parts }
  down_parts ps parts =
      down_joined item ps (map give parts)
      ∙ ap (down_join (down_of item ps)) (down_alone parts)
      ∙ ap (λ c. record (down_of item ps) { bytes = (down_of item ps).bytes ++ all_bytes parts; close = c }) (or_none (down_of item ps).close)

  pub down_put_parts : (there : Bool) (ps : List A) (parts : List (List ℕ)) → down_of item (cond there (ps ++ map give parts) ps) ≡ record (down_of item ps) { bytes = appended there (down_of item ps).bytes (all_bytes parts) }
  down_put_parts true ps parts = down_parts ps parts
  down_put_parts false ps parts = refl

  down_parts_follow : (w : Downward) (parts : List (List ℕ)) → down_bytes_follow w ≡ true → DownFollow item w (map give parts)
  down_parts_follow w [] f = tt
  down_parts_follow w (b ∷ parts) f = rw (bytes_given b) (f, down_parts_follow (record w { bytes = w.bytes ++ b }) parts f)

  pub down_order_parts : (ps : List A) (parts : List (List ℕ)) → down_ordered item ps ≡ true → down_bytes_follow (down_of item ps) ≡ true → down_ordered item (ps ++ map give parts) ≡ true
  down_order_parts ps parts h f = down_order_follow item ps (map give parts) h (down_parts_follow (down_of item ps) parts f)
