-- Look-ups in an agent's lists, of which one entry changes.
use Rattle.std.proofs.Common.{◌≡◌, ◌==◌, ℕ, ℤ, pos, negsuc, Bool, true, false, cond, List, [], ◌∷◌, Some, None, suc, refl, sym, ap, ◌∙◌, eqb-true}
use Rattle.kn_packet.specs.declared.packet.Packet.{Packet}
use Rattle.kn_tables.specs.Lists.{first_where, without}
use Rattle.kn_server_core.proofs.SoundLemmas.{passes}
use Rattle.kn_edge_core.specs.AgentTables.{connection_at, is_connection}
use Rattle.kn_edge_core.specs.EntryLists.{changed_where}
use Rattle.kn_edge_core.specs.declared.connection.Connection.{Connection}
use Rattle.kn_edge_core.specs.declared.dial.Dial.{Dial}
use Rattle.kn_words.specs.Down.{has_request, is_request}
use Rattle.kn_words.specs.Numbers.{is_number}
use Rattle.kn_packets.specs.Keys.{asked_at, made_at, one_more}
use Rattle.kn_packets.specs.World.{has_random}

-- ---- connections
-- the one that changes, and the others
pub changed_own : (n : ℕ) (g : Connection → Connection) → ((c : Connection) → (g c).connect_id ≡ c.connect_id) → (cs : List Connection) (x : Connection)
    → first_where (is_connection n) cs ≡ Some x → first_where (is_connection n) (changed_where (is_connection n) g cs) ≡ Some (g x)
changed_own n g same [] x f = absurd cc
changed_own n g same (c ∷ cs) x f = here (is_connection n c) refl f (λ h. changed_own n g same cs x h)
  where
    here : (b : Bool) → is_connection n c ≡ b → cond b (Some c) (first_where (is_connection n) cs) ≡ Some x
        → (first_where (is_connection n) cs ≡ Some x → first_where (is_connection n) (changed_where (is_connection n) g cs) ≡ Some (g x))
        → first_where (is_connection n) (cond b (g c) c ∷ changed_where (is_connection n) g cs) ≡ Some (g x)
    here true i h later = let m : c ≡ x = cc in let t : ((g c).connect_id == n) ≡ true = ap (λ z. z == n) (same c) ∙ i in rw t (ap (λ y. Some (g y)) m)
    here false i h later = rw i (later h)

pub changed_other : (n m : ℕ) (g : Connection → Connection) → ((c : Connection) → (g c).connect_id ≡ c.connect_id) → (n == m) ≡ false → (cs : List Connection)
    → first_where (is_connection m) (changed_where (is_connection n) g cs) ≡ first_where (is_connection m) cs
changed_other n m g same other [] = refl
changed_other n m g same other (c ∷ cs) = here (is_connection n c) (is_connection m c) refl refl (changed_other n m g same other cs)
  where
    here : (b e : Bool) → is_connection n c ≡ b → is_connection m c ≡ e → first_where (is_connection m) (changed_where (is_connection n) g cs) ≡ first_where (is_connection m) cs
        → first_where (is_connection m) (cond b (g c) c ∷ changed_where (is_connection n) g cs) ≡ first_where (is_connection m) (c ∷ cs)
    here true true i j later = let p : c.connect_id ≡ n = eqb-true c.connect_id n i in let q : (n == m) ≡ true = rw (sym p) j in absurd cc
    here true false i j later = let t : ((g c).connect_id == m) ≡ false = ap (λ z. z == m) (same c) ∙ j in rw t (rw j later)
    here false e i j later = ap (λ o. cond (is_connection m c) (Some c) o) later

-- the connection that a connectID names stands under its own number
pub number_of : (z : ℤ) (cs : List Connection) (x : Connection) → connection_at z cs ≡ Some x → z ≡ pos x.connect_id
number_of (pos n) cs x h = ap pos (sym (eqb-true x.connect_id n (passes (is_connection n) x cs h)))
number_of (negsuc n) cs x h = absurd cc

-- ---- dials and requests
pub made_none : (d : ℕ) (xs : List Dial) → made_at d xs ≡ 0 → first_where (has_random d) xs ≡ None
made_none d [] h = refl
made_none d (x ∷ xs) h = here (has_random d x) refl h (λ l. made_none d xs l)
  where
    here : (b : Bool) → has_random d x ≡ b → one_more b (made_at d xs) ≡ 0 → (made_at d xs ≡ 0 → first_where (has_random d) xs ≡ None) → cond b (Some x) (first_where (has_random d) xs) ≡ None
    here true i h later = absurd cc
    here false i h later = later h

pub asked_none : (d : ℕ) (ps : List Packet) → asked_at d ps ≡ 0 → has_request d ps ≡ false
asked_none d [] h = refl
asked_none d (p ∷ ps) h = here (is_request d p) refl h (λ l. asked_none d ps l)
  where
    here : (b : Bool) → is_request d p ≡ b → one_more b (asked_at d ps) ≡ 0 → (asked_at d ps ≡ 0 → has_request d ps ≡ false) → has_request d (p ∷ ps) ≡ false
    here true i h later = absurd cc
    here false i h later = rw i (later h)

-- a dial that is taken out is one less of its random
pub made_less : (d : ℕ) (r : Dial → Bool) (x : Dial) (xs : List Dial) → first_where r xs ≡ Some x → has_random d x ≡ true → made_at d xs ≡ suc (made_at d (without r xs))
made_less d r x [] f h = absurd cc
made_less d r x (y ∷ ys) f h = here (r y) refl f (λ l. made_less d r x ys l h)
  where
    here : (b : Bool) → r y ≡ b → cond b (Some y) (first_where r ys) ≡ Some x → (first_where r ys ≡ Some x → made_at d ys ≡ suc (made_at d (without r ys))) → made_at d (y ∷ ys) ≡ suc (made_at d (cond b ys (y ∷ without r ys)))
    here true i g later = let m : y ≡ x = cc in let j : has_random d y ≡ true = ap (has_random d) m ∙ h in rw j refl
    here false i g later = rw (later g) (more (has_random d y) (made_at d (without r ys)))
      where
        more : (b : Bool) (n : ℕ) → one_more b (suc n) ≡ suc (one_more b n)
        more true n = refl
        more false n = refl

-- ---- whose number it is
pub own_is : (n : ℕ) (c : ℤ) → is_number n c ≡ true → c ≡ pos n
own_is n (pos m) e = ap pos (eqb-true m n e)
own_is n (negsuc m) e = absurd cc
