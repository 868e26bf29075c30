-- What is true of every state, through the changes of the tables.
use Rattle.std.proofs.Common.{◌≡◌, ◌≢◌, ℕ, ℤ, pos, negsuc, map, ◌^◌, ◌+◌, ◌<◌, ◌≤◌, Bool, true, false, cond, eqb, ltb, List, [], ◌∷◌, Option, Some, None, refl, sym, ap, ◌∙◌, subst, arith}
use Rattle.std.specs.Option.{IsSome}
use Rattle.std.proofs.lemmas.Bool.Decides.{Decides-eqb, Decides-int_eq}
use Rattle.kn_tables.specs.declared.awaited_entry.AwaitedEntry.{AwaitedEntry}
use Rattle.kn_tables.specs.declared.held_entry.HeldEntry.{HeldEntry}
use Rattle.kn_tables.specs.Lists.{first_where, without, in_place}
use Rattle.kn_tables.specs.Awaiting.{is_dial}
use Rattle.kn_tables.specs.Holding.{is_held_dial, is_held, closed_at, closed_entry, has_front}
use Rattle.kn_server_core.specs.Server.{own, held_at, of_link, dial_at}
use Rattle.kn_server_core.specs.declared.state.State.{State}
use Rattle.kn_server_core.specs.Sound.{IsSound}

-- what none passed, none passes after a removal
pub none_without : {E : Type 0} (p r : E → Bool) (xs : List E) → first_where p xs ≡ None → first_where p (without r xs) ≡ None
none_without p r [] h = refl
none_without p r (x ∷ xs) h = none_here (r x) (p x) refl h (λ l. none_without p r xs l)
  where
    none_here : (b c : Bool) → p x ≡ c → cond c (Some x) (first_where p xs) ≡ None → (first_where p xs ≡ None → first_where p (without r xs) ≡ None) → first_where p (cond b xs (x ∷ without r xs)) ≡ None
    none_here true true e h later = absurd cc
    none_here true false e h later = h
    none_here false true e h later = absurd cc
    none_here false false e h later = rw e (later h)

-- an entry that does not pass changes no look-up when it is put in
pub first_in_place : {E : Type 0} (number : E → ℕ) (p : E → Bool) (e : E) (xs : List E) → p e ≡ false → first_where p (in_place number e xs) ≡ first_where p xs
first_in_place number p e [] h = rw h refl
first_in_place number p e (x ∷ xs) h = first_here (ltb (number e) (number x)) (first_in_place number p e xs h)
  where
    first_here : (b : Bool) → first_where p (in_place number e xs) ≡ first_where p xs → first_where p (cond b (e ∷ x ∷ xs) (x ∷ in_place number e xs)) ≡ first_where p (x ∷ xs)
    first_here true later = rw h refl
    first_here false later = ap (λ o. cond (p x) (Some x) o) later

-- what an entry passes that was found passes
pub passes : {E : Type 0} (p : E → Bool) (e : E) (xs : List E) → first_where p xs ≡ Some e → p e ≡ true
passes p e [] h = absurd cc
passes p e (x ∷ xs) h = passes_here (p x) refl h (λ l. passes p e xs l)
  where
    passes_here : (b : Bool) → p x ≡ b → cond b (Some x) (first_where p xs) ≡ Some e → (first_where p xs ≡ Some e → p e ≡ true) → p e ≡ true
    passes_here true i h later = let m : x ≡ e = cc in subst (λ z. p z ≡ true) m i
    passes_here false i h later = later h

-- what one look-up found, another whose test it passes finds too
pub not_missed : {E : Type 0} (p r : E → Bool) (e : E) (xs : List E) → first_where p xs ≡ Some e → r e ≡ true → IsSome (first_where r xs)
not_missed p r e [] h t = absurd cc
not_missed p r e (x ∷ xs) h t = missed_here (p x) (r x) refl h (λ l. not_missed p r e xs l t)
  where
    missed_here : (b c : Bool) → r x ≡ c → cond b (Some x) (first_where p xs) ≡ Some e → (first_where p xs ≡ Some e → IsSome (first_where r xs)) → IsSome (cond c (Some x) (first_where r xs))
    missed_here b true i h later = refl
    missed_here true false i h later = let m : x ≡ e = cc in absurd cc
    missed_here false false i h later = later h

none_unless : {E : Type 0} (o : Option E) → (IsSome o → ⊥) → o ≡ None
none_unless None h = refl
none_unless (Some e) h = absurd (h refl)

some_or_none : {E : Type 0} (o : Option E) → o ≡ None → IsSome o → ⊥
some_or_none o e h = absurd cc

-- dials above those that were drawn stand in no entry that is found
pub below_next : {E : Type 0} (number : E → ℕ) (p : E → Bool) (e : E) (n : ℕ) (xs : List E) → ((d : ℕ) → n ≤ d → first_where (λ x. eqb (number x) d) xs ≡ None) → first_where p xs ≡ Some e → number e < n
below_next number p e n xs drawn h = below_if (ltb (number e) n) refl
  where
    below_if : (b : Bool) → ltb (number e) n ≡ b → number e < n
    below_if true l = grind arith
    below_if false l =
        let m : n ≤ number e = grind arith in
        let z = drawn (number e) m in
        let some = not_missed p (λ x. eqb (number x) (number e)) e xs h ((Decides-eqb (number e) (number e)).1 refl) in
        absurd (some_or_none (first_where (λ x. eqb (number x) (number e)) xs) z some)

some_before : (o n : Option AwaitedEntry) → (o ≡ None → n ≡ None) → IsSome n → IsSome o
some_before None n h some = let e = h refl in absurd cc
some_before (Some x) n h some = refl

-- a state with fewer entries in both tables
pub fewer : (s t : State) → IsSound s → t.next_dial ≡ s.next_dial
    → ((d : ℕ) → first_where (is_dial d) s.awaited ≡ None → first_where (is_dial d) t.awaited ≡ None)
    → ((d : ℕ) → first_where (is_held_dial d) s.held ≡ None → first_where (is_held_dial d) t.held ≡ None)
    → IsSound t
fewer s t sound n ws hs = record {
  few = rw n sound.few;
  awaited_drawn = λ d l. ws d (sound.awaited_drawn d (subst (λ x. x ≤ d) n l));
  held_drawn = λ d l. hs d (sound.held_drawn d (subst (λ x. x ≤ d) n l));
  apart = λ d some. hs d (sound.apart d (some_before (first_where (is_dial d) s.awaited) (first_where (is_dial d) t.awaited) (ws d) some));
}

other_dial : (e d : ℕ) → (e ≡ d → ⊥) → eqb e d ≡ false
other_dial e d h = other_if (eqb e d) refl
  where
    other_if : (b : Bool) → eqb e d ≡ b → b ≡ false
    other_if true i = absurd (h ((Decides-eqb e d).0 i))
    other_if false i = refl

-- a dial draws its number
pub drawn : (s t : State) → IsSound s → s.next_dial ≢ 9223372036854775807 → t.next_dial ≡ s.next_dial + 1
    → (e : AwaitedEntry) → t.awaited ≡ in_place (λ x. x.dial) e s.awaited → e.dial ≡ s.next_dial → t.held ≡ s.held → IsSound t
drawn s t sound left next e awaited same held = record {
  few = (let f = sound.few in omega arith);
  awaited_drawn = λ d l. rw awaited (first_in_place (λ x. x.dial) (is_dial d) e s.awaited (other_dial e.dial d (λ i. omega arith)) ∙ sound.awaited_drawn d (omega arith));
  held_drawn = λ d l. rw held (sound.held_drawn d (omega arith));
  apart = λ d some. apart_if d (eqb e.dial d) refl some;
}
  where
    apart_if : (d : ℕ) (b : Bool) → eqb e.dial d ≡ b → IsSome (first_where (is_dial d) t.awaited) → first_where (is_held_dial d) t.held ≡ None
    apart_if d true i some = rw held (sound.held_drawn d (let m = (Decides-eqb e.dial d).0 i in omega arith))
    apart_if d false i some =
        let m : first_where (is_dial d) t.awaited ≡ first_where (is_dial d) s.awaited = ap (first_where (is_dial d)) awaited ∙ first_in_place (λ x. x.dial) (is_dial d) e s.awaited i in
        rw held (sound.apart d (subst (λ o. IsSome o) m some))

-- an awaited dial becomes held
pub opened : (s t : State) → IsSound s → (e : AwaitedEntry) → first_where (is_dial e.dial) s.awaited ≡ Some e
    → t.next_dial ≡ s.next_dial → t.awaited ≡ without (is_dial e.dial) s.awaited → first_where (is_dial e.dial) t.awaited ≡ None
    → (h : HeldEntry) → t.held ≡ in_place (λ x. x.dial) h s.held → h.dial ≡ e.dial → IsSound t
opened s t sound e found next awaited gone h held same = record {
  few = rw next sound.few;
  awaited_drawn = λ d l. rw awaited (none_without (is_dial d) (is_dial e.dial) s.awaited (sound.awaited_drawn d (omega arith)));
  held_drawn = λ d l. rw held (first_in_place (λ x. x.dial) (is_held_dial d) h s.held (other_dial h.dial d (λ i. let m = below_next (λ (x : AwaitedEntry). x.dial) (is_dial e.dial) e s.next_dial s.awaited sound.awaited_drawn found in omega arith)) ∙ sound.held_drawn d (omega arith));
  apart = λ d some. apart_if d (eqb e.dial d) refl some;
}
  where
    apart_if : (d : ℕ) (b : Bool) → eqb e.dial d ≡ b → IsSome (first_where (is_dial d) t.awaited) → first_where (is_held_dial d) t.held ≡ None
    apart_if d true i some = let m = (Decides-eqb e.dial d).0 i in absurd (some_or_none (first_where (is_dial d) t.awaited) (subst (λ x. first_where (is_dial x) t.awaited ≡ None) m gone) some)
    apart_if d false i some =
        let n : eqb h.dial d ≡ false = ap (λ x. eqb x d) same ∙ i in
        let before = some_before (first_where (is_dial d) s.awaited) (first_where (is_dial d) t.awaited) (λ z. ap (first_where (is_dial d)) awaited ∙ none_without (is_dial d) (is_dial e.dial) s.awaited z) some in
        rw held (first_in_place (λ x. x.dial) (is_held_dial d) h s.held n ∙ sound.apart d before)

-- entries that keep their dials
pub none_mapped : (g : HeldEntry → HeldEntry) (d : ℕ) → ((x : HeldEntry) → (g x).dial ≡ x.dial) → (xs : List HeldEntry) → first_where (is_held_dial d) xs ≡ None → first_where (is_held_dial d) (map g xs) ≡ None
none_mapped g d same [] h = refl
none_mapped g d same (x ∷ xs) h = mapped_here (eqb x.dial d) refl h (λ l. none_mapped g d same xs l)
  where
    mapped_here : (b : Bool) → eqb x.dial d ≡ b → cond b (Some x) (first_where (is_held_dial d) xs) ≡ None → (first_where (is_held_dial d) xs ≡ None → first_where (is_held_dial d) (map g xs) ≡ None) → first_where (is_held_dial d) (map g (x ∷ xs)) ≡ None
    mapped_here true i h later = absurd cc
    mapped_here false i h later = rw (same x, i) (later h)

closed_if : (b : Bool) (x : HeldEntry) (keep : Bool) → (cond b (closed_entry keep x) x).dial ≡ x.dial
closed_if true x keep = refl
closed_if false x keep = refl

pub closed_dial : (link : ℕ) (connect_id : ℤ) (keep : Bool) (x : HeldEntry) → (closed_at link connect_id keep x).dial ≡ x.dial
closed_dial link connect_id keep x = closed_if (is_held link connect_id x) x keep

pub fewer_awaited : (s t : State) → IsSound s → (r : AwaitedEntry → Bool) → t.next_dial ≡ s.next_dial → t.awaited ≡ without r s.awaited → t.held ≡ s.held → IsSound t
fewer_awaited s t sound r n ws hs = fewer s t sound n (λ d z. rw ws (none_without (is_dial d) r s.awaited z)) (λ d z. rw hs z)

pub fewer_held : (s t : State) → IsSound s → (r : HeldEntry → Bool) → t.next_dial ≡ s.next_dial → t.awaited ≡ s.awaited → t.held ≡ without r s.held → IsSound t
fewer_held s t sound r n ws hs = fewer s t sound n (λ d z. rw ws z) (λ d z. rw hs (none_without (is_held_dial d) r s.held z))

pub closed_held : (s t : State) → IsSound s → (link : ℕ) (connect_id : ℤ) (keep : Bool) → t.next_dial ≡ s.next_dial → t.awaited ≡ s.awaited → t.held ≡ map (closed_at link connect_id keep) s.held → IsSound t
closed_held s t sound link connect_id keep n ws hs = fewer s t sound n (λ d z. rw ws z) (λ d z. rw hs (none_mapped (closed_at link connect_id keep) d (closed_dial link connect_id keep) s.held z))

-- the dials of entries are below 2^63
pub held_below : (s : State) → IsSound s → (p : HeldEntry → Bool) (e : HeldEntry) → first_where p s.held ≡ Some e → e.dial < 2 ^ 63
held_below s sound p e h = let l = below_next (λ (x : HeldEntry). x.dial) p e s.next_dial s.held sound.held_drawn h in let f = sound.few in omega arith

pub awaited_below : (s : State) → IsSound s → (p : AwaitedEntry → Bool) (e : AwaitedEntry) → first_where p s.awaited ≡ Some e → e.dial < 2 ^ 63
awaited_below s sound p e h = let l = below_next (λ (x : AwaitedEntry). x.dial) p e s.next_dial s.awaited sound.awaited_drawn h in let f = sound.few in omega arith

pub held_under : (s : State) → IsSound s → (e : HeldEntry) → IsSome (first_where (is_held_dial e.dial) s.held) → e.dial < 2 ^ 63
held_under s sound e some = under_if (ltb e.dial s.next_dial) refl
  where
    under_if : (b : Bool) → ltb e.dial s.next_dial ≡ b → e.dial < 2 ^ 63
    under_if true l = let f = sound.few in let m : e.dial < s.next_dial = grind arith in omega arith
    under_if false l = let m : s.next_dial ≤ e.dial = grind arith in absurd (some_or_none (first_where (is_held_dial e.dial) s.held) (sound.held_drawn e.dial m) some)

pub own_dial : (e : AwaitedEntry) → is_dial e.dial e ≡ true
own_dial e = (Decides-eqb e.dial e.dial).1 refl

pub own_held_dial : (e : HeldEntry) → is_held_dial e.dial e ≡ true
own_held_dial e = (Decides-eqb e.dial e.dial).1 refl

pub own_held : (e : HeldEntry) → is_held e.link e.connect_id e ≡ true
own_held e = rw ((Decides-eqb e.link e.link).1 refl, (Decides-int_eq e.connect_id e.connect_id).1 refl) refl

-- what the look-ups of packets find
own_if : (f : ℕ) (held : List HeldEntry) (r : HeldEntry → Bool) (o : Option HeldEntry) (e : HeldEntry) → first_where r held ≡ o → own f o ≡ Some e → IsSome (first_where (is_held e.link e.connect_id) held)
own_if f held r None e h i = absurd cc
own_if f held r (Some x) e h i = own_here (has_front x.front f) i
  where
    own_here : (b : Bool) → cond b (Some x) None ≡ Some e → IsSome (first_where (is_held e.link e.connect_id) held)
    own_here true i = let m : x ≡ e = cc in not_missed r (is_held e.link e.connect_id) e held (h ∙ ap Some m) (own_held e)
    own_here false i = absurd cc

pub own_stands : (f : ℕ) (z : ℤ) (held : List HeldEntry) (e : HeldEntry) → own f (held_at z held) ≡ Some e → IsSome (first_where (is_held e.link e.connect_id) held)
own_stands f (pos d) held e h = own_if f held (is_held_dial d) (first_where (is_held_dial d) held) e refl h
own_stands f (negsuc d) held e h = absurd cc

dial_if : (l d : ℕ) (awaited : List AwaitedEntry) (o : Option AwaitedEntry) (e : AwaitedEntry) → first_where (is_dial d) awaited ≡ o → of_link l o ≡ Some e → first_where (is_dial e.dial) awaited ≡ Some e
dial_if l d awaited None e h i = absurd cc
dial_if l d awaited (Some x) e h i = dial_here (eqb x.link l) i
  where
    dial_here : (b : Bool) → cond b (Some x) None ≡ Some e → first_where (is_dial e.dial) awaited ≡ Some e
    dial_here true i =
        let m : x ≡ e = cc in
        let k : first_where (is_dial d) awaited ≡ Some e = h ∙ ap Some m in
        let n : e.dial ≡ d = (Decides-eqb e.dial d).0 (passes (is_dial d) e awaited k) in
        subst (λ y. first_where (is_dial y) awaited ≡ Some e) (sym n) k
    dial_here false i = absurd cc

pub dial_stands : (l : ℕ) (z : ℤ) (awaited : List AwaitedEntry) (e : AwaitedEntry) → of_link l (dial_at z awaited) ≡ Some e → first_where (is_dial e.dial) awaited ≡ Some e
dial_stands l (pos d) awaited e h = dial_if l d awaited (first_where (is_dial d) awaited) e refl h
dial_stands l (negsuc d) awaited e h = absurd cc
