-- The entry of one tunnel through each event.
use Rattle.std.proofs.Common.{◌≡◌, ℕ, ℤ, pos, negsuc, Bool, true, false, not, cond, eqb, ltb, ◌&&◌, ◌||◌, List, [], ◌∷◌, ◌++◌, map, filter, Option, Some, None, Result, Ok, Err, refl, sym, ap, ◌∙◌, subst}
use Rattle.std.specs.List.{list_any}
use Rattle.std.specs.Ordering.{int_eq}
use Rattle.std.proofs.lemmas.Bool.Decides.{Decides-eqb, Decides-int_eq}
use Rattle.kn_packet.specs.declared.packet.Packet.{Packet}
use Rattle.kn_packet.specs.declared.packet.Packet.TheVariants.{DialReq, DialRsp, CloseReq, CloseRsp, Data, DialCls, Drain, Other}
use Rattle.kn_route.specs.LinkLists.{has_link}
use Rattle.kn_tables.specs.declared.awaited_entry.AwaitedEntry.{AwaitedEntry}
use Rattle.kn_tables.specs.declared.held_entry.HeldEntry.{HeldEntry}
use Rattle.kn_tables.specs.declared.held_entry.HeldState.{HeldState}
use Rattle.kn_tables.specs.declared.held_entry.HeldState.TheVariants.{Open, Closing}
use Rattle.kn_tables.specs.Lists.{first_where, without, in_place, IsRising}
use Rattle.kn_tables.specs.Awaiting.{is_dial, is_random, is_of_link}
use Rattle.kn_tables.specs.Holding.{is_held, is_held_on, is_held_by, is_held_dial, has_front, closed_at, closed_entry, by_connect_id, AreApart}
use Rattle.kn_server_core.specs.declared.event.ServerEvent.{ServerEvent}
use Rattle.kn_server_core.specs.declared.event.ServerEvent.TheVariants.{LinkUp, LinkPacket, LinkLost, FrontUp, FrontPacket, FrontLost}
use Rattle.kn_server_core.specs.declared.event.ServerOut.{ServerOut}
use Rattle.kn_server_core.specs.declared.event.ServerOut.TheVariants.{ToLink, ToFront, CutLink, Made}
use Rattle.kn_server_core.specs.declared.state.State.{State}
use Rattle.kn_server_core.specs.FrontLists.{is_up}
use Rattle.kn_server_core.specs.Packets.{data_to_front, in_packets}
use Rattle.kn_server_core.specs.Server.{ignored, step, from_link, from_front, link_lost, front_lost, reply, reply_by_entry, awaited_reply, refused_reply, of_link, dial_at, data_down, open_down, tunnel_ended, ended_to, all_awaited_lost, all_held_lost, held_lost, dial_chosen, dial_choice, data_up, open_up, close_from_front, close_own, dial_cancelled, own, held_at, front_left}
use Rattle.kn_server_core.specs.Texts.{error_cut}
use Rattle.kn_server_core.specs.Isolation.{Each, HasEnds, HasFront, IsOrderly, StaysWithFront}
use Rattle.kn_server_core.specs.Runs.{Tunnel, turn_at, is_cut, is_end, is_gone, is_of_dial}
use Rattle.kn_server_core.proofs.LossLemmas.{same_held, other_held}
use Rattle.kn_server_core.proofs.SoundLemmas.{first_in_place, passes, dial_stands, own_held}
use Rattle.kn_server_core.proofs.FrontIsolation.{found_by_number, front_outs}
use Rattle.kn_server_core.proofs.OrderLemmas.{none_at, each_found}

-- ---- look-ups through changes of a list
found_filtered : {E : Type 0} (q p : E → Bool) (x : E) (xs : List E) → first_where q xs ≡ Some x → p x ≡ true → first_where q (filter p xs) ≡ Some x
found_filtered q p x [] f h = absurd cc
found_filtered q p x (y ∷ ys) f h = filtered_here (q y) (p y) refl refl f (λ l. found_filtered q p x ys l h)
  where
    filtered_here : (b c : Bool) → q y ≡ b → p y ≡ c → cond b (Some y) (first_where q ys) ≡ Some x → (first_where q ys ≡ Some x → first_where q (filter p ys) ≡ Some x) → first_where q (cond c (y ∷ filter p ys) (filter p ys)) ≡ Some x
    filtered_here true true i j f later = rw i f
    filtered_here true false i j f later = let m : y ≡ x = cc in absurd (let u : p x ≡ false = subst (λ z. p z ≡ false) m j in cc)
    filtered_here false true i j f later = rw i (later f)
    filtered_here false false i j f later = later f

gone_filtered : {E : Type 0} (number : E → ℕ) (p : E → Bool) (n : ℕ) (x : E) (xs : List E) → IsRising number xs → first_where (λ y. eqb (number y) n) xs ≡ Some x → p x ≡ false → first_where (λ y. eqb (number y) n) (filter p xs) ≡ None
gone_filtered number p n x [] r f h = absurd cc
gone_filtered number p n x (y ∷ ys) r f h = gone_here (eqb (number y) n) (p y) refl refl f (λ l. gone_filtered number p n x ys r.1 l h)
  where
    none_more : {F : Type 0} (q s : F → Bool) (zs : List F) → first_where q zs ≡ None → first_where q (filter s zs) ≡ None
    none_more q s [] f = refl
    none_more q s (z ∷ zs) f = more_here (q z) (s z) refl f (λ l. none_more q s zs l)
      where
        more_here : (b c : Bool) → q z ≡ b → cond b (Some z) (first_where q zs) ≡ None → (first_where q zs ≡ None → first_where q (filter s zs) ≡ None) → first_where q (cond c (z ∷ filter s zs) (filter s zs)) ≡ None
        more_here true c i f later = absurd cc
        more_here false true i f later = rw i (later f)
        more_here false false i f later = later f

    gone_here : (b c : Bool) → eqb (number y) n ≡ b → p y ≡ c → cond b (Some y) (first_where (λ z. eqb (number z) n) ys) ≡ Some x
        → (first_where (λ z. eqb (number z) n) ys ≡ Some x → first_where (λ z. eqb (number z) n) (filter p ys) ≡ None) → first_where (λ z. eqb (number z) n) (cond c (y ∷ filter p ys) (filter p ys)) ≡ None
    gone_here true true i j f later = let m : y ≡ x = cc in absurd (let u : p x ≡ true = subst (λ z. p z ≡ true) m j in cc)
    gone_here true false i j f later =
        let m : number y ≡ n = (Decides-eqb (number y) n).0 i in
        none_more (λ z. eqb (number z) n) p ys (subst (λ k. first_where (λ z. eqb (number z) k) ys ≡ None) m (none_at number (number y) ys r.0))
    gone_here false true i j f later = rw i (later f)
    gone_here false false i j f later = later f

found_without : {E : Type 0} (q r : E → Bool) (x : E) (xs : List E) → first_where q xs ≡ Some x → r x ≡ false → first_where q (without r xs) ≡ Some x
found_without q r x [] f h = absurd cc
found_without q r x (y ∷ ys) f h = without_here (q y) (r y) refl refl f (λ l. found_without q r x ys l h)
  where
    without_here : (b c : Bool) → q y ≡ b → r y ≡ c → cond b (Some y) (first_where q ys) ≡ Some x → (first_where q ys ≡ Some x → first_where q (without r ys) ≡ Some x) → first_where q (cond c ys (y ∷ without r ys)) ≡ Some x
    without_here true true i j f later = let m : y ≡ x = cc in absurd (let u : r x ≡ true = subst (λ z. r z ≡ true) m j in cc)
    without_here true false i j f later = rw i f
    without_here false true i j f later = f
    without_here false false i j f later = rw i (later f)

gone_without : {E : Type 0} (number : E → ℕ) (r : E → Bool) (n : ℕ) (x : E) (xs : List E) → IsRising number xs → first_where (λ y. eqb (number y) n) xs ≡ Some x → first_where r xs ≡ Some x → first_where (λ y. eqb (number y) n) (without r xs) ≡ None
gone_without number r n x [] o f h = absurd cc
gone_without number r n x (y ∷ ys) o f h = gone_here (eqb (number y) n) (r y) refl refl f h (λ l k. gone_without number r n x ys o.1 l k)
  where
    gone_here : (b c : Bool) → eqb (number y) n ≡ b → r y ≡ c → cond b (Some y) (first_where (λ z. eqb (number z) n) ys) ≡ Some x → cond c (Some y) (first_where r ys) ≡ Some x
        → (first_where (λ z. eqb (number z) n) ys ≡ Some x → first_where r ys ≡ Some x → first_where (λ z. eqb (number z) n) (without r ys) ≡ None) → first_where (λ z. eqb (number z) n) (cond c ys (y ∷ without r ys)) ≡ None
    gone_here true true i j f h later = let m : number y ≡ n = (Decides-eqb (number y) n).0 i in subst (λ k. first_where (λ z. eqb (number z) k) ys ≡ None) m (none_at number (number y) ys o.0)
    gone_here true false i j f h later = let m : y ≡ x = cc in absurd (let u : r x ≡ true = passes r x ys h in let v : r x ≡ false = subst (λ z. r z ≡ false) m j in cc)
    gone_here false true i j f h later = let m : y ≡ x = cc in absurd (let u : eqb (number x) n ≡ true = passes (λ z. eqb (number z) n) x ys f in let v : eqb (number x) n ≡ false = subst (λ z. eqb (number z) n ≡ false) m i in cc)
    gone_here false false i j f h later = rw i (later f h)

found_mapped : (g : HeldEntry → HeldEntry) (n : ℕ) (x : HeldEntry) (xs : List HeldEntry) → ((y : HeldEntry) → (g y).dial ≡ y.dial) → first_where (is_held_dial n) xs ≡ Some x → first_where (is_held_dial n) (map g xs) ≡ Some (g x)
found_mapped g n x [] same f = absurd cc
found_mapped g n x (y ∷ ys) same f = mapped_here (eqb y.dial n) refl f (λ l. found_mapped g n x ys same l)
  where
    mapped_here : (b : Bool) → eqb y.dial n ≡ b → cond b (Some y) (first_where (is_held_dial n) ys) ≡ Some x → (first_where (is_held_dial n) ys ≡ Some x → first_where (is_held_dial n) (map g ys) ≡ Some (g x)) → first_where (is_held_dial n) (map g (y ∷ ys)) ≡ Some (g x)
    mapped_here true i f later = let m : y ≡ x = cc in let k : eqb (g y).dial n ≡ true = ap (λ w. eqb w n) (same y) ∙ i in let e : Some (g y) ≡ Some (g x) = ap (λ (z : HeldEntry). Some (g z)) m in rw k e
    mapped_here false i f later = let k : eqb (g y).dial n ≡ false = ap (λ w. eqb w n) (same y) ∙ i in rw k (later f)

pub put_found : {E : Type 0} (number : E → ℕ) (q : E → Bool) (e : E) (xs : List E) → first_where q xs ≡ None → q e ≡ true → first_where q (in_place number e xs) ≡ Some e
put_found number q e [] f h = rw h refl
put_found number q e (x ∷ xs) f h = put_here (ltb (number e) (number x)) (q x) refl f (λ l. put_found number q e xs l h)
  where
    put_here : (b c : Bool) → q x ≡ c → cond c (Some x) (first_where q xs) ≡ None → (first_where q xs ≡ None → first_where q (in_place number e xs) ≡ Some e) → first_where q (cond b (e ∷ x ∷ xs) (x ∷ in_place number e xs)) ≡ Some e
    put_here b true i f later = absurd cc
    put_here true false i f later = rw h refl
    put_here false false i f later = rw i (later f)

-- ---- an entry is the one of its connection, and of its dial
pub by_connection : (q : HeldEntry → Bool) (x : HeldEntry) (xs : List HeldEntry) → AreApart xs → first_where q xs ≡ Some x → first_where (is_held x.link x.connect_id) xs ≡ Some x
by_connection q x [] a f = absurd cc
by_connection q x (y ∷ ys) a f = connection_here (q y) f (λ l. by_connection q x ys a.1 l)
  where
    connection_here : (b : Bool) → cond b (Some y) (first_where q ys) ≡ Some x → (first_where q ys ≡ Some x → first_where (is_held x.link x.connect_id) ys ≡ Some x) → first_where (is_held x.link x.connect_id) (y ∷ ys) ≡ Some x
    connection_here true f later = let m : y ≡ x = cc in let o : is_held x.link x.connect_id y ≡ true = subst (λ z. is_held x.link x.connect_id z ≡ true) (sym m) (own_held x) in rw o (ap Some m)
    connection_here false f later = let n : is_held x.link x.connect_id y ≡ false = same_held y x (other_held y x q ys a.0 f) in rw n (later f)

both_parts : (a l : ℕ) (x c : ℤ) → (eqb a l && int_eq x c) ≡ true → (a ≡ l) × (x ≡ c)
both_parts a l x c h = both (eqb a l) (int_eq x c) refl refl h
  where
    both : (b d : Bool) → eqb a l ≡ b → int_eq x c ≡ d → (b && d) ≡ true → (a ≡ l) × (x ≡ c)
    both true true e i h = ((Decides-eqb a l).0 e, (Decides-int_eq x c).0 i)
    both true false e i h = absurd cc
    both false d e i h = absurd cc

-- what is looked up by the connection of an entry that is there is that entry
pub is_it : (q : HeldEntry → Bool) (x : HeldEntry) (link : ℕ) (connect_id : ℤ) (xs : List HeldEntry) → AreApart xs → first_where q xs ≡ Some x → is_held link connect_id x ≡ true → first_where (is_held link connect_id) xs ≡ Some x
is_it q x link connect_id xs a f h =
    let m = both_parts x.link link x.connect_id connect_id h in
    subst (λ l. first_where (is_held l connect_id) xs ≡ Some x) m.0 (subst (λ c. first_where (is_held x.link c) xs ≡ Some x) m.1 (by_connection q x xs a f))

pub some_same : {E : Type 0} (o : Option E) (x y : E) → o ≡ Some x → o ≡ Some y → x ≡ y
some_same o x y h i = let m : Some x ≡ Some y = sym h ∙ i in cc

pub false_unless : (b : Bool) → (b ≡ true → ⊥) → b ≡ false
false_unless true h = absurd (h refl)
false_unless false h = refl

-- another connection's entry has another dial
pub other_dial : (s : State) (x e : HeldEntry) (link : ℕ) (connect_id : ℤ) → IsOrderly s → first_where (is_held_dial x.dial) s.held ≡ Some x → first_where (is_held link connect_id) s.held ≡ Some e → is_held link connect_id x ≡ false → eqb x.dial e.dial ≡ false
other_dial s x e link connect_id o f g h = false_unless (eqb x.dial e.dial) (λ i.
    let m : x.dial ≡ e.dial = (Decides-eqb x.dial e.dial).0 i in
    let k : first_where (is_held_dial x.dial) s.held ≡ Some e = subst (λ n. first_where (is_held_dial n) s.held ≡ Some e) (sym m) (found_by_number (λ (y : HeldEntry). y.dial) (is_held link connect_id) e s.held o.held_rise g) in
    let same : e ≡ x = some_same (first_where (is_held_dial x.dial) s.held) e x k f in
    let t : is_held link connect_id x ≡ true = subst (λ z. is_held link connect_id z ≡ true) same (passes (is_held link connect_id) e s.held g) in
    cc)

-- another dial's entry is of another connection
pub other_connection : (s : State) (x e : HeldEntry) (n : ℕ) → IsOrderly s → first_where (is_held_dial x.dial) s.held ≡ Some x → first_where (is_held_dial n) s.held ≡ Some e → eqb x.dial n ≡ false → is_held e.link e.connect_id x ≡ false
other_connection s x e n o f g h = false_unless (is_held e.link e.connect_id x) (λ i.
    let k = is_it (is_held_dial x.dial) x e.link e.connect_id s.held o.held_apart f i in
    let l = by_connection (is_held_dial n) e s.held o.held_apart g in
    let same : x ≡ e = some_same (first_where (is_held e.link e.connect_id) s.held) x e k l in
    let t : eqb x.dial n ≡ true = subst (λ z. eqb z.dial n ≡ true) (sym same) (passes (is_held_dial n) e s.held g) in
    cc)

-- ---- cuts among outputs
pub or_none : (b c : Bool) → c ≡ false → (b || c) ≡ b
or_none true c h = refl
or_none false c h = h

no_cut_append : (link : ℕ) (os us : List ServerOut) → list_any (is_cut link) os ≡ false → list_any (is_cut link) us ≡ false → list_any (is_cut link) (os ++ us) ≡ false
no_cut_append link [] us h i = i
no_cut_append link (o ∷ os) us h i = append_here (is_cut link o) h (λ l. no_cut_append link os us l i)
  where
    append_here : (b : Bool) → (b || list_any (is_cut link) os) ≡ false → (list_any (is_cut link) os ≡ false → list_any (is_cut link) (os ++ us) ≡ false) → (b || list_any (is_cut link) (os ++ us)) ≡ false
    append_here true h later = absurd cc
    append_here false h later = later h

no_cut_ended : (link : ℕ) (front : Option ℕ) (dial : ℕ) (error : List ℕ) → list_any (is_cut link) (ended_to front dial error) ≡ false
no_cut_ended link None dial error = refl
no_cut_ended link (Some front) dial error = refl

no_cut_awaited : (link : ℕ) (es : List AwaitedEntry) → list_any (is_cut link) (all_awaited_lost es) ≡ false
no_cut_awaited link [] = refl
no_cut_awaited link (e ∷ es) = no_cut_awaited link es

no_cut_held : (link : ℕ) (es : List HeldEntry) → list_any (is_cut link) (all_held_lost es) ≡ false
no_cut_held link [] = refl
no_cut_held link (e ∷ es) = no_cut_append link (held_lost e) (all_held_lost es) (no_cut_ended link e.front e.dial _) (no_cut_held link es)

no_cut_lost : (s : State) (link other : ℕ) → list_any (is_cut link) (link_lost s other).outs ≡ false
no_cut_lost s link other = no_cut_append link (all_awaited_lost (filter (is_of_link other) s.awaited)) (all_held_lost (by_connect_id (filter (is_held_on other) s.held)))
    (no_cut_awaited link (filter (is_of_link other) s.awaited)) (no_cut_held link (by_connect_id (filter (is_held_on other) s.held)))

pub no_cut_data : (link front dial : ℕ) (parts : List (List ℕ)) → list_any (is_cut link) (data_to_front front dial parts) ≡ false
no_cut_data link front dial [] = refl
no_cut_data link front dial (bytes ∷ rest) = no_cut_data link front dial rest

-- ---- a link's events
-- the entry stays, unless the event is its end
pub record Kept (x : HeldEntry) (gone : Bool) (t : State) : Type 0 where
  pub is : first_where (is_held_dial x.dial) t.held ≡ cond gone None (Some x)

abbrev pub tunnel_of : HeldEntry → ℕ → Tunnel
tunnel_of x front = record { dial = x.dial; link = x.link; connect_id = x.connect_id; front = front }

abbrev pub Holds : State → HeldEntry → Type 0
Holds s x = first_where (is_held_dial x.dial) s.held ≡ Some x

lost_at : (s : State) (link : ℕ) (x : HeldEntry) → IsOrderly s → Holds s x → Kept x (eqb x.link link) (link_lost s link).state
lost_at s link x o f = lost_here (eqb x.link link) refl
  where
    lost_here : (b : Bool) → eqb x.link link ≡ b → Kept x b (link_lost s link).state
    lost_here true i = record { is = gone_filtered (λ (y : HeldEntry). y.dial) (λ e. not (is_held_on link e)) x.dial x s.held o.held_rise f (ap not i) }
    lost_here false i = record { is = found_filtered (is_held_dial x.dial) (λ e. not (is_held_on link e)) x s.held f (ap not i) }

kept_same : (x : HeldEntry) (t : State) (a b : Bool) → b ≡ a → Kept x a t → Kept x b t
kept_same x t a b e k = record { is = rw e k.is }

pub awaited_not : (s : State) (x : HeldEntry) (a : AwaitedEntry) → IsOrderly s → Holds s x → first_where (is_dial a.dial) s.awaited ≡ Some a → eqb a.dial x.dial ≡ false
awaited_not s x a o f g = false_unless (eqb a.dial x.dial) (λ i.
    let m : a.dial ≡ x.dial = (Decides-eqb a.dial x.dial).0 i in
    let n : first_where (is_held_dial a.dial) s.held ≡ None = o.sound.apart a.dial (rw g refl) in
    let k : first_where (is_held_dial x.dial) s.held ≡ None = subst (λ z. first_where (is_held_dial z) s.held ≡ None) m n in
    let z : None ≡ Some x = sym k ∙ f in cc)

replied_at : (s : State) (link : ℕ) (connect_id : ℤ) (x : HeldEntry) (a : Option AwaitedEntry) → IsOrderly s → Holds s x → ((e : AwaitedEntry) → a ≡ Some e → first_where (is_dial e.dial) s.awaited ≡ Some e)
    → Kept x (list_any (is_cut x.link) (awaited_reply s link connect_id a).outs) (awaited_reply s link connect_id a).state
replied_at s link connect_id x None o f found = record { is = f }
replied_at s link connect_id x (Some e) o f found = record { is = first_in_place (λ (y : HeldEntry). y.dial) (is_held_dial x.dial) _ s.held (awaited_not s x e o f (found e refl)) ∙ f }

reply_at : (s : State) (link : ℕ) (connect_id random : ℤ) (x : HeldEntry) (e : Option HeldEntry) → IsOrderly s → Holds s x
    → Kept x (list_any (is_cut x.link) (reply_by_entry s link connect_id random e).outs) (reply_by_entry s link connect_id random e).state
reply_at s link connect_id random x None o f = replied_at s link connect_id x (of_link link (dial_at random s.awaited)) o f (λ a h. dial_stands link random s.awaited a h)
reply_at s link connect_id random x (Some e) o f = kept_same x (link_lost s link).state (eqb x.link link) (eqb x.link link || list_any (is_cut x.link) (link_lost s link).outs) (or_none (eqb x.link link) (list_any (is_cut x.link) (link_lost s link).outs) (no_cut_lost s x.link link)) (lost_at s link x o f)

refused_at : (s : State) (error : List ℕ) (x : HeldEntry) (a : Option AwaitedEntry) → Holds s x → Kept x (list_any (is_cut x.link) (refused_reply s error a).outs) (refused_reply s error a).state
refused_at s error x None f = record { is = f }
refused_at s error x (Some e) f = record { is = f }

any_reply : (s : State) (link : ℕ) (error : List ℕ) (connect_id random : ℤ) (x : HeldEntry) → IsOrderly s → Holds s x → Kept x (list_any (is_cut x.link) (reply s link error connect_id random).outs) (reply s link error connect_id random).state
any_reply s link [] connect_id random x o f = reply_at s link connect_id random x (first_where (is_held link connect_id) s.held) o f
any_reply s link (y ∷ ys) connect_id random x o f = refused_at s (y ∷ ys) x (of_link link (dial_at random s.awaited)) f

open_at : (s : State) (bytes : List ℕ) (x : HeldEntry) (state : HeldState) (front : Option ℕ) (dial : ℕ) → Holds s x → Kept x (list_any (is_cut x.link) (open_down s bytes state front dial).outs) (open_down s bytes state front dial).state
open_at s bytes x Open (Some front) dial f = kept_same x s false _ (no_cut_data x.link front dial (in_packets bytes)) (record { is = f })
open_at s bytes x Open None dial f = record { is = f }
open_at s bytes x Closing front dial f = record { is = f }

data_at : (s : State) (bytes : List ℕ) (x : HeldEntry) (e : Option HeldEntry) → Holds s x → Kept x (list_any (is_cut x.link) (data_down s bytes e).outs) (data_down s bytes e).state
data_at s bytes x None f = record { is = f }
data_at s bytes x (Some e) f = open_at s bytes x e.state e.front e.dial f

end_at : (s : State) (link : ℕ) (connect_id : ℤ) (error : List ℕ) (x : HeldEntry) (e : Option HeldEntry) → IsOrderly s → Holds s x → first_where (is_held link connect_id) s.held ≡ e
    → Kept x (is_held link connect_id x || list_any (is_cut x.link) (tunnel_ended s link connect_id error e).outs) (tunnel_ended s link connect_id error e).state
end_at s link connect_id error x None o f g = kept_same x s false (is_held link connect_id x || false) (or_none (is_held link connect_id x) false refl ∙ not_it) (record { is = f })
  where
    not_it : is_held link connect_id x ≡ false
    not_it = false_unless (is_held link connect_id x) (λ h. let k = is_it (is_held_dial x.dial) x link connect_id s.held o.held_apart f h in let z : None ≡ Some x = sym g ∙ k in cc)
end_at s link connect_id error x (Some e) o f g = kept_same x (tunnel_ended s link connect_id error (Some e)).state (is_held link connect_id x) _ (or_none (is_held link connect_id x) _ (no_cut_ended x.link e.front e.dial (error_cut error))) (end_here (is_held link connect_id x) refl)
  where
    end_here : (b : Bool) → is_held link connect_id x ≡ b → Kept x b (tunnel_ended s link connect_id error (Some e)).state
    end_here true h = record { is = gone_without (λ (y : HeldEntry). y.dial) (is_held link connect_id) x.dial x s.held o.held_rise f (is_it (is_held_dial x.dial) x link connect_id s.held o.held_apart f h) }
    end_here false h = record { is = found_without (is_held_dial x.dial) (is_held link connect_id) x s.held f h }

from_link_at : (s : State) (link : ℕ) (p : Packet) (x : HeldEntry) (front : ℕ) → IsOrderly s → Holds s x
    → Kept x (is_end (tunnel_of x front) link p || list_any (is_cut x.link) (from_link s link p).outs) (from_link s link p).state
from_link_at s link (DialRsp error connect_id random) x front o f = any_reply s link error connect_id random x o f
from_link_at s link (Data connect_id error bytes) x front o f = data_at s bytes x (first_where (is_held link connect_id) s.held) f
from_link_at s link (CloseRsp error connect_id) x front o f = end_at s link connect_id error x (first_where (is_held link connect_id) s.held) o f refl
from_link_at s link Drain x front o f = record { is = f }
from_link_at s link (DialReq protocol address random) x front o f = record { is = f }
from_link_at s link (CloseReq connect_id) x front o f = record { is = f }
from_link_at s link (DialCls random) x front o f = record { is = f }
from_link_at s link (Other number) x front o f = record { is = f }

-- a link that is not up has no tunnel
pub not_of_lost : (s : State) (link : ℕ) (x : HeldEntry) → IsOrderly s → Holds s x → has_link link s.links ≡ false → eqb x.link link ≡ false
not_of_lost s link x o f h = false_unless (eqb x.link link) (λ i.
    let m : x.link ≡ link = (Decides-eqb x.link link).0 i in
    let u : has_link x.link s.links ≡ true = (each_found (HasEnds s) (is_held_dial x.dial) x s.held o.held_up f).0 in
    let v : has_link link s.links ≡ true = subst (λ l. has_link l s.links ≡ true) m u in
    cc)

pub no_end : (link : ℕ) (p : Packet) (x : HeldEntry) (front : ℕ) → eqb x.link link ≡ false → is_end (tunnel_of x front) link p ≡ false
no_end link (CloseRsp error connect_id) x front h = rw h refl
no_end link (DialRsp error connect_id random) x front h = refl
no_end link (Data connect_id error bytes) x front h = refl
no_end link Drain x front h = refl
no_end link (DialReq protocol address random) x front h = refl
no_end link (CloseReq connect_id) x front h = refl
no_end link (DialCls random) x front h = refl
no_end link (Other number) x front h = refl

link_packet_at : (s : State) (link : ℕ) (p : Packet) (x : HeldEntry) (front : ℕ) (b : Bool) → IsOrderly s → Holds s x → has_link link s.links ≡ b
    → Kept x (is_end (tunnel_of x front) link p || list_any (is_cut x.link) (cond b (from_link s link p) (ignored s)).outs) (cond b (from_link s link p) (ignored s)).state
link_packet_at s link p x front true o f h = from_link_at s link p x front o f
link_packet_at s link p x front false o f h = kept_same x s false (is_end (tunnel_of x front) link p || false) (or_none (is_end (tunnel_of x front) link p) false refl ∙ no_end link p x front (not_of_lost s link x o f h)) (record { is = f })

link_lost_at : (s : State) (link : ℕ) (x : HeldEntry) (b : Bool) → IsOrderly s → Holds s x → has_link link s.links ≡ b
    → Kept x (eqb x.link link || list_any (is_cut x.link) (cond b (link_lost s link) (ignored s)).outs) (cond b (link_lost s link) (ignored s)).state
link_lost_at s link x true o f h = kept_same x (link_lost s link).state (eqb x.link link) _ (or_none (eqb x.link link) (list_any (is_cut x.link) (link_lost s link).outs) (no_cut_lost s x.link link)) (lost_at s link x o f)
link_lost_at s link x false o f h = kept_same x s false (eqb x.link link || false) (or_none (eqb x.link link) false refl ∙ not_of_lost s link x o f h) (record { is = f })

-- ---- a front's events
-- what an entry is after an event of a front
abbrev pub closed_if : HeldState → Bool → HeldEntry → HeldEntry
closed_if Open b x = cond b (closed_entry true x) x
closed_if Closing b x = x

abbrev pub after_packet : ℕ → Packet → HeldEntry → HeldEntry
after_packet front (CloseReq connect_id) x = closed_if x.state (is_held_by front x && is_of_dial connect_id x.dial) x
after_packet front (DialReq protocol address random) x = x
after_packet front (DialRsp error connect_id random) x = x
after_packet front (CloseRsp error connect_id) x = x
after_packet front (Data connect_id error bytes) x = x
after_packet front (DialCls random) x = x
after_packet front Drain x = x
after_packet front (Other number) x = x

-- the entry of a dial after a step
abbrev pub Becomes : HeldEntry → State → HeldEntry → Type 0
Becomes x t y = first_where (is_held_dial x.dial) t.held ≡ Some y

closed_not : (x : HeldEntry) (state : HeldState) → closed_if state false x ≡ x
closed_not x Open = refl
closed_not x Closing = refl

and_false : (b : Bool) → (b && false) ≡ false
and_false true = refl
and_false false = refl

kept_dial : (link : ℕ) (connect_id : ℤ) (y : HeldEntry) → (closed_at link connect_id true y).dial ≡ y.dial
kept_dial link connect_id y = kept_here (is_held link connect_id y)
  where
    kept_here : (b : Bool) → (cond b (closed_entry true y) y).dial ≡ y.dial
    kept_here true = refl
    kept_here false = refl

-- its own close
own_close : (s : State) (x : HeldEntry) (state : HeldState) → Holds s x → Becomes x (close_own s state x).state (closed_if state true x)
own_close s x Open f = found_mapped (closed_at x.link x.connect_id true) x.dial x s.held (kept_dial x.link x.connect_id) f ∙ ap Some (own_here (own_held x))
  where
    own_here : is_held x.link x.connect_id x ≡ true → closed_at x.link x.connect_id true x ≡ closed_entry true x
    own_here h = rw h refl
own_close s x Closing f = f

-- another's close
other_close : (s : State) (x e : HeldEntry) (state : HeldState) → Holds s x → is_held e.link e.connect_id x ≡ false → Becomes x (close_own s state e).state x
other_close s x e Open f h = found_mapped (closed_at e.link e.connect_id true) x.dial x s.held (kept_dial e.link e.connect_id) f ∙ ap Some (other_here h)
  where
    other_here : is_held e.link e.connect_id x ≡ false → closed_at e.link e.connect_id true x ≡ x
    other_here h = rw h refl
other_close s x e Closing f h = f

close_of : (s : State) (front n : ℕ) (x : HeldEntry) (e : Option HeldEntry) → IsOrderly s → Holds s x → first_where (is_held_dial n) s.held ≡ e
    → Becomes x (close_from_front s front (pos n) (own front e)).state (closed_if x.state (is_held_by front x && eqb x.dial n) x)
close_of s front n x None o f g = none_here (eqb x.dial n) refl
  where
    none_here : (b : Bool) → eqb x.dial n ≡ b → Becomes x s (closed_if x.state (is_held_by front x && eqb x.dial n) x)
    none_here true i = let m : x.dial ≡ n = (Decides-eqb x.dial n).0 i in let k : first_where (is_held_dial x.dial) s.held ≡ None = subst (λ z. first_where (is_held_dial z) s.held ≡ None) (sym m) g in absurd (let z : None ≡ Some x = sym k ∙ f in cc)
    none_here false i = rw (i, and_false (is_held_by front x), closed_not x x.state) f
close_of s front n x (Some e) o f g = some_here (eqb x.dial n) (has_front e.front front) refl refl
  where
    some_here : (b c : Bool) → eqb x.dial n ≡ b → has_front e.front front ≡ c → Becomes x (close_from_front s front (pos n) (cond c (Some e) None)).state (closed_if x.state (is_held_by front x && eqb x.dial n) x)
    some_here true c i j =
        let m : x.dial ≡ n = (Decides-eqb x.dial n).0 i in
        let same : e ≡ x = some_same (first_where (is_held_dial n) s.held) e x g (subst (λ z. first_where (is_held_dial z) s.held ≡ Some x) m f) in
        let k : has_front x.front front ≡ c = subst (λ z. has_front z.front front ≡ c) same j in
        subst (λ z. Becomes x (close_from_front s front (pos n) (cond c (Some z) None)).state (closed_if x.state (is_held_by front x && eqb x.dial n) x)) (sym same) (own_at c k i)
      where
        own_at : (d : Bool) → has_front x.front front ≡ d → eqb x.dial n ≡ true → Becomes x (close_from_front s front (pos n) (cond d (Some x) None)).state (closed_if x.state (is_held_by front x && eqb x.dial n) x)
        own_at true k i = rw (k, i) (own_close s x x.state f)
        own_at false k i = rw (k, closed_not x x.state) f
    some_here false true i j = rw (i, and_false (is_held_by front x), closed_not x x.state) (other_close s x e e.state f (other_connection s x e n o f g i))
    some_here false false i j = rw (i, and_false (is_held_by front x), closed_not x x.state) f

close_at : (s : State) (front : ℕ) (connect_id : ℤ) (x : HeldEntry) → IsOrderly s → Holds s x
    → Becomes x (close_from_front s front connect_id (own front (held_at connect_id s.held))).state (closed_if x.state (is_held_by front x && is_of_dial connect_id x.dial) x)
close_at s front (pos n) x o f = close_of s front n x (first_where (is_held_dial n) s.held) o f refl
close_at s front (negsuc n) x o f = rw (and_false (is_held_by front x), closed_not x x.state) f

chosen_same : (s : State) (front : ℕ) (protocol address : List ℕ) (random : ℤ) (c : Result ℕ (List ℕ)) → (dial_chosen s front protocol address random c).state.held ≡ s.held
chosen_same s front protocol address random (Ok link) = refl
chosen_same s front protocol address random (Err text) = refl

open_up_same : (s : State) (bytes : List ℕ) (state : HeldState) (e : HeldEntry) → (open_up s bytes state e).state ≡ s
open_up_same s bytes Open e = refl
open_up_same s bytes Closing e = refl

data_up_same : (s : State) (bytes : List ℕ) (x : Option HeldEntry) → (data_up s bytes x).state ≡ s
data_up_same s bytes None = refl
data_up_same s bytes (Some e) = open_up_same s bytes e.state e

cancel_same : (s : State) (e : Option AwaitedEntry) → (dial_cancelled s e).state.held ≡ s.held
cancel_same s None = refl
cancel_same s (Some e) = refl

by_tables : (s t : State) (x y : HeldEntry) → t.held ≡ s.held → Becomes x s y → Becomes x t y
by_tables s t x y h f = rw h f

from_front_at : (s : State) (front : ℕ) (p : Packet) (x : HeldEntry) → IsOrderly s → Holds s x → Becomes x (from_front s front p).state (after_packet front p x)
from_front_at s front (DialReq protocol address random) x o f = by_tables s (from_front s front (DialReq protocol address random)).state x x (chosen_same s front protocol address random (dial_choice s front protocol address random)) f
from_front_at s front (Data connect_id error bytes) x o f = by_tables s (from_front s front (Data connect_id error bytes)).state x x (ap (λ (t : State). t.held) (data_up_same s bytes (own front (held_at connect_id s.held)))) f
from_front_at s front (CloseReq connect_id) x o f = close_at s front connect_id x o f
from_front_at s front (DialCls random) x o f = by_tables s (from_front s front (DialCls random)).state x x (cancel_same s (first_where (is_random front random) s.awaited)) f
from_front_at s front (DialRsp error connect_id random) x o f = f
from_front_at s front (CloseRsp error connect_id) x o f = f
from_front_at s front Drain x o f = f
from_front_at s front (Other number) x o f = f

-- a front that is not up has no tunnel
pub not_of_gone : (s : State) (front : ℕ) (x : HeldEntry) → IsOrderly s → Holds s x → is_up front s.fronts ≡ false → is_held_by front x ≡ false
not_of_gone s front x o f h = gone_here x.state x.front (each_found (HasEnds s) (is_held_dial x.dial) x s.held o.held_up f).1
  where
    up_here : (g : ℕ) → is_up g s.fronts ≡ true → eqb g front ≡ false
    up_here g u = false_unless (eqb g front) (λ i. let m : g ≡ front = (Decides-eqb g front).0 i in let v : is_up front s.fronts ≡ true = subst (λ l. is_up l s.fronts ≡ true) m u in cc)

    gone_here : (state : HeldState) (g : Option ℕ) → HasFront s state g → has_front g front ≡ false
    gone_here state None u = refl
    gone_here Open (Some g) u = up_here g u
    gone_here Closing (Some g) u = up_here g u

pub after_other : (front : ℕ) (p : Packet) (x : HeldEntry) → is_held_by front x ≡ false → after_packet front p x ≡ x
after_other front (CloseReq connect_id) x h = rw (h, closed_not x x.state) refl
after_other front (DialReq protocol address random) x h = refl
after_other front (DialRsp error connect_id random) x h = refl
after_other front (CloseRsp error connect_id) x h = refl
after_other front (Data connect_id error bytes) x h = refl
after_other front (DialCls random) x h = refl
after_other front Drain x h = refl
after_other front (Other number) x h = refl

front_packet_at : (s : State) (front : ℕ) (p : Packet) (x : HeldEntry) (b : Bool) → IsOrderly s → Holds s x → is_up front s.fronts ≡ b → Becomes x (cond b (from_front s front p) (ignored s)).state (after_packet front p x)
front_packet_at s front p x true o f h = from_front_at s front p x o f
front_packet_at s front p x false o f h = rw (after_other front p x (not_of_gone s front x o f h)) f

pub left_dial : (front : ℕ) (y : HeldEntry) → (front_left front y).dial ≡ y.dial
left_dial front y = left_here (is_held_by front y)
  where
    left_here : (b : Bool) → (cond b (closed_entry false y) y).dial ≡ y.dial
    left_here true = refl
    left_here false = refl

pub left_other : (front : ℕ) (x : HeldEntry) → is_held_by front x ≡ false → front_left front x ≡ x
left_other front x h = rw h refl

front_lost_at : (s : State) (front : ℕ) (x : HeldEntry) (b : Bool) → IsOrderly s → Holds s x → is_up front s.fronts ≡ b → Becomes x (cond b (front_lost s front) (ignored s)).state (front_left front x)
front_lost_at s front x true o f h = found_mapped (front_left front) x.dial x s.held (left_dial front) f
front_lost_at s front x false o f h = f ∙ ap Some (sym (left_other front x (not_of_gone s front x o f h)))

-- ---- each event
pub no_cut_of_front : (s : State) (event : ServerEvent) (front link : ℕ) (outs : List ServerOut) → Each (StaysWithFront s front event) outs → list_any (is_cut link) outs ≡ false
no_cut_of_front s event front link [] h = refl
no_cut_of_front s event front link (ToLink l p ∷ outs) h = no_cut_of_front s event front link outs h.1
no_cut_of_front s event front link (ToFront f p ∷ outs) h = no_cut_of_front s event front link outs h.1
no_cut_of_front s event front link (CutLink l ∷ outs) h = absurd h.0
no_cut_of_front s event front link (Made d l f ∷ outs) h = no_cut_of_front s event front link outs h.1

-- what an entry is after an event, if it does not leave
abbrev pub after_event : ServerEvent → HeldEntry → HeldEntry
after_event (FrontPacket front packet) x = after_packet front packet x
after_event (FrontLost front) x = front_left front x
after_event (LinkUp link identifiers) x = x
after_event (LinkPacket link packet) x = x
after_event (LinkLost link) x = x
after_event (FrontUp front) x = x

pub entry_after : (s : State) (event : ServerEvent) (x : HeldEntry) (front : ℕ) → IsOrderly s → Holds s x
    → first_where (is_held_dial x.dial) (step s event).state.held ≡ cond (is_gone (tunnel_of x front) (turn_at s event)) None (Some (after_event event x))
entry_after s (LinkUp link identifiers) x front o f = f
entry_after s (LinkPacket link packet) x front o f = (link_packet_at s link packet x front (has_link link s.links) o f refl).is
entry_after s (LinkLost link) x front o f = (link_lost_at s link x (has_link link s.links) o f refl).is
entry_after s (FrontUp number) x front o f = f
entry_after s (FrontPacket number packet) x front o f =
    let c = no_cut_of_front s (FrontPacket number packet) number x.link (step s (FrontPacket number packet)).outs (front_outs s (FrontPacket number packet) number o refl) in
    rw c (front_packet_at s number packet x (is_up number s.fronts) o f refl)
entry_after s (FrontLost number) x front o f =
    let c = no_cut_of_front s (FrontLost number) number x.link (step s (FrontLost number)).outs (front_outs s (FrontLost number) number o refl) in
    rw c (front_lost_at s number x (is_up number s.fronts) o f refl)
