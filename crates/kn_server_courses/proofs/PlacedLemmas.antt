-- A link or a front more.
use Rattle.std.proofs.Common.{◌≡◌, ℕ, zero, suc, ◌<◌, ◌≤◌, Bool, true, false, cond, eqb, ltb, List, [], ◌∷◌, length, set, get_or, Option, Some, refl, sym, ap, ◌∙◌, subst, arith}
use Rattle.std.specs.Prelude.{slice_get}
use Rattle.std.specs.List.{insert}
use Rattle.std.proofs.lemmas.Bool.{eqb-true, eqb-false, ltb-false, ltb-true}
use Rattle.kn_server_core.specs.Isolation.{Each}
use Rattle.kn_server_core.specs.declared.state.State as core_state
use Rattle.kn_front_room.specs.Rooms.{HasRoom}
use Rattle.kn_ends.specs.declared.heard.Heard.{Heard}
use Rattle.kn_rising.specs.Members.{Members, AreMembers, place_in, rank_in, at, with, inserted, one_more}
use Rattle.kn_rising.proofs.PlaceLemmas.{place_found, place_within, insert_rises, inserted_members}
use Rattle.kn_server_node.specs.declared.end.End.{End}
use Rattle.kn_server_node.specs.declared.place.Place.{Place}
use Rattle.kn_server_node.specs.FrontRooms.{waiting_at, NoneStandsOn}
use Rattle.kn_server_node.proofs.MemberLemmas.{at_with, length_set, inserted_others}
use Rattle.kn_server_courses.proofs.FrontBaseLemmas.{Known}
use Rattle.kn_server_courses.proofs.FrontRunLemmas.{Base, RoomOf, less_room, known_fewer}

-- ---- lists with one more

pub each_insert : {E : Type 0} (P : E → Type 0) (xs : List E) (i : ℕ) (x : E) → P x → Each P xs → Each P (insert xs i x)
each_insert P [] zero x p h = (p, tt)
each_insert P [] (suc i) x p h = (p, tt)
each_insert P (y ∷ ys) zero x p h = (p, h)
each_insert P (y ∷ ys) (suc i) x p h = (h.0, each_insert P ys i x p h.1)

pub each_set : {E : Type 0} (P : E → Type 0) (xs : List E) (i : ℕ) (x : E) → P x → Each P xs → Each P (set xs i x)
each_set P [] zero x p h = tt
each_set P [] (suc i) x p h = tt
each_set P (y ∷ ys) zero x p h = (p, h.1)
each_set P (y ∷ ys) (suc i) x p h = (h.0, each_set P ys i x p h.1)

got_insert : {E : Type 0} (xs : List E) (i : ℕ) (x : E) → i ≤ length xs → slice_get (insert xs i x) i ≡ Some x
got_insert [] zero x le = refl
got_insert [] (suc i) x le = absurd (omega (arith, le))
got_insert (y ∷ ys) zero x le = refl
got_insert (y ∷ ys) (suc i) x le = got_insert ys i x (omega (arith, le))

number_insert : (xs : List ℕ) (i x : ℕ) → i ≤ length xs → (get_or (insert xs i x) i 0 ≡ x) × (i < length (insert xs i x))
number_insert [] zero x le = (refl, omega arith)
number_insert [] (suc i) x le = absurd (omega (arith, le))
number_insert (y ∷ ys) zero x le = (refl, omega arith)
number_insert (y ∷ ys) (suc i) x le = let later = number_insert ys i x (omega (arith, le)) in (later.0, omega (arith, later.1))

rank_within : (ns : List ℕ) (n : ℕ) → rank_in ns n ≤ length ns
unfolding rank_in
rank_within [] n = omega arith
rank_within (x ∷ xs) n = by_test (rank_within xs n) (ltb x n)
  where
    by_test : rank_in xs n ≤ length xs → (b : Bool) → cond b (suc (rank_in xs n)) (rank_in xs n) ≤ suc (length xs)
    by_test le true = omega (arith, le)
    by_test le false = omega (arith, le)

-- ---- none stands on a connection

pub each_none : (conn : ℕ) (xs : List Place) → NoneStandsOn conn xs → Each (λ p. p.conn ≡ conn → ⊥) xs
each_none conn [] h = tt
each_none conn (x ∷ xs) h = (h.0, each_none conn xs h.1)

pub none_each : (conn : ℕ) (xs : List Place) → Each (λ p. p.conn ≡ conn → ⊥) xs → NoneStandsOn conn xs
none_each conn [] h = tt
none_each conn (x ∷ xs) h = (h.0, none_each conn xs h.1)

-- ---- members with one more

each_inserted_by : {T : Type 0} (P : T → Type 0) (m : Members T) (n : ℕ) (x : T) (t : Bool) → P x → Each P m.items → Each P (cond t (with m n x) (one_more m n x)).items
each_inserted_by P m n x true p h = each_set P m.items (place_in m.numbers n) x p h
each_inserted_by P m n x false p h = each_insert P m.items (rank_in m.numbers n) x p h

pub each_inserted : {T : Type 0} (P : T → Type 0) (m : Members T) (n : ℕ) (x : T) → P x → Each P m.items → Each P (inserted m n x).items
each_inserted P m n x p h = each_inserted_by P m n x (ltb (place_in m.numbers n) (length m.numbers)) p h

pub none_inserted : (conn : ℕ) (m : Members Place) (n : ℕ) (x : Place) → (x.conn ≡ conn → ⊥) → NoneStandsOn conn m.items → NoneStandsOn conn (inserted m n x).items
none_inserted conn m n x p h = none_each conn (inserted m n x).items (each_inserted (λ (q : Place). q.conn ≡ conn → ⊥) m n x p (each_none conn m.items h))

members_by : {T : Type 0} (m : Members T) (n : ℕ) (x : T) (t : Bool) → ltb (place_in m.numbers n) (length m.numbers) ≡ t → AreMembers m → AreMembers (cond t (with m n x) (one_more m n x))
members_by m n x true e a = record { rising = a.rising; same = length_set m.items (place_in m.numbers n) x ∙ a.same }
members_by m n x false e a =
    let le : length m.numbers ≤ place_in m.numbers n = ltb-false (place_in m.numbers n) (length m.numbers) e in
    let within = place_within m.numbers n in
    inserted_members m.numbers m.numbers m.items n (rank_in m.numbers n) x refl a (omega (arith, le, within)) refl (rank_within m.numbers n)

pub members_inserted : {T : Type 0} (m : Members T) (n : ℕ) (x : T) → AreMembers m → AreMembers (inserted m n x)
members_inserted m n x a = members_by m n x (ltb (place_in m.numbers n) (length m.numbers)) refl a

got_within : {T : Type 0} (xs : List T) (i : ℕ) → i < length xs → (x : T) × (slice_get xs i ≡ Some x)
got_within [] i le = absurd (omega (arith, le))
got_within (x ∷ xs) zero le = (x, refl)
got_within (x ∷ xs) (suc i) le = got_within xs i (omega (arith, le))

at_by : {T : Type 0} (m : Members T) (n : ℕ) (x : T) (t : Bool) → ltb (place_in m.numbers n) (length m.numbers) ≡ t → AreMembers m → at (cond t (with m n x) (one_more m n x)) n ≡ Some x
at_by m n x true e a =
    let lt : place_in m.numbers n < length m.numbers = ltb-true (place_in m.numbers n) (length m.numbers) e in
    let found = got_within m.items (place_in m.numbers n) (omega (arith, lt, a.same)) in
    at_with m n found.0 x found.1
at_by m n x false e a =
    let le : length m.numbers ≤ place_in m.numbers n = ltb-false (place_in m.numbers n) (length m.numbers) e in
    let within = place_within m.numbers n in
    let r = rank_within m.numbers n in
    let number = number_insert m.numbers (rank_in m.numbers n) n r in
    let there : place_in (insert m.numbers (rank_in m.numbers n) n) n ≡ rank_in m.numbers n =
    place_found (insert m.numbers (rank_in m.numbers n) n) n (rank_in m.numbers n) (insert_rises m.numbers n a.rising (omega (arith, le, within))) number.1 number.0 in
    ap (λ i. slice_get (insert m.items (rank_in m.numbers n) x) i) there ∙ got_insert m.items (rank_in m.numbers n) x (omega (arith, r, a.same))

pub at_inserted : {T : Type 0} (m : Members T) (n : ℕ) (x : T) → AreMembers m → at (inserted m n x) n ≡ Some x
at_inserted m n x a = at_by m n x (ltb (place_in m.numbers n) (length m.numbers)) refl a

-- ---- a front more, or a link

apart_by : (fronts : Members Place) (n : ℕ) (x : Place) → AreMembers fronts
    → ((f g : ℕ) (p q : Place) → at fronts f ≡ Some p → at fronts g ≡ Some q → q.conn ≡ p.conn → q.stream ≡ p.stream → g ≡ f)
    → ((g : ℕ) (q : Place) → at fronts g ≡ Some q → q.conn ≡ x.conn → q.stream ≡ x.stream → ⊥)
    → (f g : ℕ) (p q : Place) → at (inserted fronts n x) f ≡ Some p → at (inserted fronts n x) g ≡ Some q → q.conn ≡ p.conn → q.stream ≡ p.stream → g ≡ f
apart_by fronts n x a apart free f g p q is found conn stream = by_numbers (eqb f n) refl (eqb g n) refl
  where
    new : (k : ℕ) (r : Place) → eqb k n ≡ true → at (inserted fronts n x) k ≡ Some r → r ≡ x
    new k r e there =
        let same : at (inserted fronts n x) n ≡ Some r = subst (λ j. at (inserted fronts n x) j ≡ Some r) (eqb-true k n e) there in
        let own : at (inserted fronts n x) n ≡ Some x = at_inserted fronts n x a in
        cc

    old : (k : ℕ) (r : Place) → eqb k n ≡ false → at (inserted fronts n x) k ≡ Some r → at fronts k ≡ Some r
    old k r e there = sym (inserted_others fronts n k x a.same e) ∙ there

    by_numbers : (s : Bool) → eqb f n ≡ s → (t : Bool) → eqb g n ≡ t → g ≡ f
    by_numbers true e true h = eqb-true g n h ∙ sym (eqb-true f n e)
    by_numbers true e false h = let m = new f p e is in absurd (free g q (old g q h found) (conn ∙ ap (λ (r : Place). r.conn) m) (stream ∙ ap (λ (r : Place). r.stream) m))
    by_numbers false e true h = let m = new g q h found in absurd (free f p (old f p e is) (sym conn ∙ ap (λ (r : Place). r.conn) m) (sym stream ∙ ap (λ (r : Place). r.stream) m))
    by_numbers false e false h = apart f g p q (old f p e is) (old g q h found) conn stream

-- what is known of another connection
other_known : (c : ℕ) (fronts links : Members Place) (n : ℕ) (x : Place) (told : List Heard) (o : Option End) → (x.conn ≡ c → ⊥) → Known c fronts.items links.items told o → Known c (inserted fronts n x).items links.items told o
other_known c fronts links n x told o other k =
    known_fewer c fronts.items links.items (inserted fronts n x).items links.items told o (λ h e. each_inserted (λ (p : Place). p.conn ≡ c → p.stream ≤ h) fronts n x (λ is. absurd (other is)) e) (λ h e. e)
    (λ e. none_inserted c fronts n x other e) (λ e. e) k

link_known : (c : ℕ) (fronts links : Members Place) (n : ℕ) (x : Place) (told : List Heard) (o : Option End) → (x.conn ≡ c → ⊥) → Known c fronts.items links.items told o → Known c fronts.items (inserted links n x).items told o
link_known c fronts links n x told o other k =
    known_fewer c fronts.items links.items fronts.items (inserted links n x).items told o (λ h e. e) (λ h e. each_inserted (λ (p : Place). p.conn ≡ c → p.stream ≤ h) links n x (λ is. absurd (other is)) e)
    (λ e. e) (λ e. none_inserted c links n x other e) k

pub front_base : (ends : Members End) (top : ℕ) (links fronts : Members Place) (told : List Heard) (n : ℕ) (x : Place) → Base ends top links fronts told → x.conn ≤ top → NoneStandsOn x.conn links.items
    → ((g : ℕ) (q : Place) → at fronts g ≡ Some q → q.conn ≡ x.conn → q.stream ≡ x.stream → ⊥)
    → Known x.conn (inserted fronts n x).items links.items told (at ends x.conn)
    → Base ends top links (inserted fronts n x) told
front_base ends top links fronts told n x b within none free own = record {
  ends = b.ends;
  fronts = members_inserted fronts n x b.fronts;
  ends_within = b.ends_within;
  fronts_within = each_inserted (λ (p : Place). p.conn ≤ top) fronts n x within b.fronts_within;
  links_within = b.links_within;
  told_within = b.told_within;
  known = λ c. by_number c (eqb x.conn c) refl;
  elsewhere = each_inserted (λ (p : Place). NoneStandsOn p.conn links.items) fronts n x none b.elsewhere;
  apart = apart_by fronts n x b.fronts b.apart free;
}
  where
    by_number : (c : ℕ) (t : Bool) → eqb x.conn c ≡ t → Known c (inserted fronts n x).items links.items told (at ends c)
    by_number c true e = subst (λ k. Known k (inserted fronts n x).items links.items told (at ends k)) (eqb-true x.conn c e) own
    by_number c false e = other_known c fronts links n x told (at ends c) (eqb-false x.conn c e) (b.known c)

none_other : (c : ℕ) (links : Members Place) (n : ℕ) (x p : Place) → (p.conn ≡ x.conn → ⊥) → NoneStandsOn p.conn links.items → NoneStandsOn p.conn (inserted links n x).items
none_other c links n x p other h = none_inserted p.conn links n x (λ is. other (sym is)) h

elsewhere_link : (fronts : List Place) (links : Members Place) (n : ℕ) (x : Place) → NoneStandsOn x.conn fronts → Each (λ p. NoneStandsOn p.conn links.items) fronts → Each (λ p. NoneStandsOn p.conn (inserted links n x).items) fronts
elsewhere_link [] links n x none h = tt
elsewhere_link (p ∷ ps) links n x none h = (none_other 0 links n x p none.0 h.0, elsewhere_link ps links n x none.1 h.1)

pub link_base : (ends : Members End) (top : ℕ) (links fronts : Members Place) (told : List Heard) (n : ℕ) (x : Place) → Base ends top links fronts told → x.conn ≤ top → NoneStandsOn x.conn fronts.items
    → Known x.conn fronts.items (inserted links n x).items told (at ends x.conn)
    → Base ends top (inserted links n x) fronts told
link_base ends top links fronts told n x b within none own = record {
  ends = b.ends;
  fronts = b.fronts;
  ends_within = b.ends_within;
  fronts_within = b.fronts_within;
  links_within = each_inserted (λ (p : Place). p.conn ≤ top) links n x within b.links_within;
  told_within = b.told_within;
  known = λ c. by_number c (eqb x.conn c) refl;
  elsewhere = elsewhere_link fronts.items links n x none b.elsewhere;
  apart = b.apart;
}
  where
    by_number : (c : ℕ) (t : Bool) → eqb x.conn c ≡ t → Known c fronts.items (inserted links n x).items told (at ends c)
    by_number c true e = subst (λ k. Known k fronts.items (inserted links n x).items told (at ends k)) (eqb-true x.conn c e) own
    by_number c false e = link_known c fronts links n x told (at ends c) (eqb-false x.conn c e) (b.known c)

-- nothing waits on the new place
pub front_room : (core : core_state.State) (ends : Members End) (fronts : Members Place) (n : ℕ) (x : Place) → AreMembers fronts → waiting_at ends (Some x) ≤ 0 → RoomOf core ends fronts → RoomOf core ends (inserted fronts n x)
front_room core ends fronts n x a clean room f = by_number (eqb f n) refl
  where
    by_number : (t : Bool) → eqb f n ≡ t → HasRoom f (waiting_at ends (at (inserted fronts n x) f)) core
    by_number true e =
        let own : at (inserted fronts n x) f ≡ Some x = subst (λ j. at (inserted fronts n x) j ≡ Some x) (sym (eqb-true f n e)) (at_inserted fronts n x a) in
        less_room f (waiting_at ends (at fronts f)) (waiting_at ends (at (inserted fronts n x) f)) core (let w : waiting_at ends (at (inserted fronts n x) f) ≤ 0 = subst (λ o. waiting_at ends o ≤ 0) (sym own) clean in omega (arith, w)) (room f)
    by_number false e = subst (λ o. HasRoom f (waiting_at ends o) core) (sym (inserted_others fronts n f x a.same e)) (room f)
