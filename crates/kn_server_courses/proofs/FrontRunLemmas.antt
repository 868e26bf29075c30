-- Whatever comes, each front stands alone and has room.
use Rattle.std.proofs.Common.{◌≡◌, ℕ, zero, suc, ◌<◌, ◌≤◌, Bool, true, false, cond, eqb, ltb, List, [], ◌∷◌, ◌++◌, length, Option, Some, None, refl, sym, ap, ◌∙◌, subst, arith}
use Rattle.std.specs.Prelude.{nat_eq, ◌||◌}
use Rattle.std.specs.List.{remove, list_any}
use Rattle.std.proofs.lemmas.Bool.{eqb-true, eqb-false, ne_eqb, ltb-false, ltb-true}
use Rattle.kn_packet.specs.declared.packet.Packet.{Packet}
use Rattle.kn_h2_state.specs.declared.event.H2Event.{H2Event}
use Rattle.kn_h2_state.specs.declared.state.State.{State}
use Rattle.kn_server_core.specs.declared.state.State as core_state
use Rattle.kn_server_core.specs.declared.event.ServerEvent.{ServerEvent}
use Rattle.kn_server_core.specs.declared.event.ServerOut.{ServerOut}
use Rattle.kn_server_core.specs.declared.event.ServerOut.TheVariants.{ToLink, ToFront, CutLink, Made}
use Rattle.kn_server_core.specs.Server as server
use Rattle.kn_server_core.specs.Isolation.{Each}
use Rattle.kn_front_room.specs.Rooms.{IsShort, HasRoom}
use Rattle.kn_ends.specs.declared.carrier.Carrier.{Carrier}
use Rattle.kn_ends.specs.declared.heard.Heard.{Heard}
use Rattle.kn_ends.specs.Carriers.{without_events}
use Rattle.kn_ends.specs.Queues.{tagged}
use Rattle.kn_rising.specs.Members.{Members, AreMembers, AreRising, AreAbove, place_in, at, change, changed, without}
use Rattle.kn_rising.proofs.PlaceLemmas.{place-here, place-skip, nothing_there, removed_members, removed_none}
use Rattle.kn_server_node.specs.declared.end.End.{End}
use Rattle.kn_server_node.specs.declared.end.End.TheVariants.{Streams, Connect}
use Rattle.kn_server_node.specs.declared.loss.Loss.TheVariants.{OfLink}
use Rattle.kn_server_node.specs.declared.place.Place.{Place}
use Rattle.kn_server_node.specs.declared.node.Node.{Node}
use Rattle.kn_server_node.specs.Ends.{given, closed, on_carrier, events_in}
use Rattle.kn_server_node.specs.Losing.{with_loss}
use Rattle.kn_server_node.specs.Nodes.{place_changed, at_place, on_end, output, outputs, event, is_too_long, link_ended, front_ended}
use Rattle.kn_server_node.specs.FrontRooms.{waiting_on, waiting_at, after_core, NoneStandsOn, AreAlone, AreInTime}
use Rattle.kn_server_node.proofs.MemberLemmas.{change_others, length_set, without_others}
use Rattle.kn_server_node.proofs.FrontRoomLemmas.{events_drop_none}
use Rattle.kn_server_courses.proofs.ChangeLemmas.{changed_end, changed_at}
use Rattle.kn_server_courses.proofs.FrontBaseLemmas.{each_at, each_more, each_append, Knows, Known, Calm, known_still, waits_still, given_known, Noisy, heard_known, heard_waits, known_more}

-- ---- what holds of connections, links and fronts

pub record Base (es : Members End) (top : ℕ) (ls fs : Members Place) (told : List Heard) : Type 0 where
  pub ends : AreMembers es
  pub fronts : AreMembers fs
  pub ends_within : (c : ℕ) → top < c → at es c ≡ None
  pub fronts_within : Each (λ p. p.conn ≤ top) fs.items
  pub links_within : Each (λ p. p.conn ≤ top) ls.items
  pub told_within : Each (λ x. x.conn ≤ top) told
  pub known : (c : ℕ) → Known c fs.items ls.items told (at es c)
  pub elsewhere : Each (λ p. NoneStandsOn p.conn ls.items) fs.items
  pub apart : (f g : ℕ) (p q : Place) → at fs f ≡ Some p → at fs g ≡ Some q → q.conn ≡ p.conn → q.stream ≡ p.stream → g ≡ f

abbrev pub BaseOf : Node → Type 0
BaseOf node = Base node.ends node.top node.links node.fronts node.told

abbrev pub RoomOf : core_state.State → Members End → Members Place → Type 0
RoomOf core ends fronts = (f : ℕ) → HasRoom f (waiting_at ends (at fronts f)) core

abbrev pub Inv : Node → Type 0
Inv node = BaseOf node × RoomOf node.core node.ends node.fronts

pub alone_of : (node : Node) → BaseOf node → AreAlone node
alone_of node b = λ f. record {
  numbered = b.ends.same;
  links = λ p is. each_at (λ (q : Place). NoneStandsOn q.conn node.links.items) node.fronts.items (place_in node.fronts.numbers f) p b.elsewhere is;
  fronts = λ p q other is found conn stream. b.apart f other p q is found conn stream;
}

-- ---- members

found_members : {T : Type 0} (m : Members T) (n : ℕ) (f : T → T) (o : Option T) → AreMembers m → AreMembers (changed m n f o)
found_members m n f None a = a
found_members m n f (Some x) a = record { rising = a.rising; same = length_set m.items (place_in m.numbers n) (f x) ∙ a.same }

pub changed_members : {T : Type 0} (m : Members T) (n : ℕ) (f : T → T) → AreMembers m → AreMembers (change m n f)
changed_members m n f a = found_members m n f (at m n) a

-- of a change on one connection
pub at_changed : (P : Option End → Type 0) (m : Members End) (n c : ℕ) (g : End → End) → AreMembers m → (n ≡ c → P (changed_end g (at m n))) → P (at m c) → P (at (change m n g) c)
at_changed P m n c g a own other = by_number (eqb c n) refl
  where
    by_number : (b : Bool) → eqb c n ≡ b → P (at (change m n g) c)
    by_number true e =
        let same : n ≡ c = sym (eqb-true c n e) in
        subst (λ k. P (at (change m n g) k)) same (subst P (sym (changed_at m n g)) (own same))
    by_number false e = subst P (sym (change_others m n c g a.same e)) other

-- ---- a calm change

pub calm_base : (ends : Members End) (top : ℕ) (links fronts : Members Place) (told : List Heard) (n : ℕ) (g : End → End) → Calm g → Base ends top links fronts told → Base (change ends n g) top links fronts told
calm_base ends top links fronts told n g calm b = record {
  ends = changed_members ends n g b.ends;
  fronts = b.fronts;
  ends_within = λ c above. at_changed (λ o. o ≡ None) ends n c g b.ends (λ same. let gone : at ends n ≡ None = subst (λ k. at ends k ≡ None) (sym same) (b.ends_within c above) in ap (changed_end g) gone) (b.ends_within c above);
  fronts_within = b.fronts_within;
  links_within = b.links_within;
  told_within = b.told_within;
  known = λ c. at_changed (λ o. Known c fronts.items links.items told o) ends n c g b.ends
      (λ same. known_still c fronts.items links.items told g (at ends n) calm (subst (λ k. Known c fronts.items links.items told (at ends k)) (sym same) (b.known c))) (b.known c);
  elsewhere = b.elsewhere;
  apart = b.apart;
}

pub less_room : (f waiting less : ℕ) (s : core_state.State) → less ≤ waiting → HasRoom f waiting s → HasRoom f less s
less_room f waiting less s le h = record { few = h.few; room = omega (arith, h.room, le) }

pub calm_waits : (ends : Members End) (top : ℕ) (links fronts : Members Place) (told : List Heard) (n : ℕ) (g : End → End) (o : Option Place) → Calm g → Base ends top links fronts told → waiting_at (change ends n g) o ≤ waiting_at ends o
calm_waits ends top links fronts told n g None calm b = omega arith
calm_waits ends top links fronts told n g (Some p) calm b =
    at_changed (λ e. waiting_on e p.stream ≤ waiting_on (at ends p.conn) p.stream) ends n p.conn g b.ends
    (λ same. subst (λ k. waiting_on (changed_end g (at ends n)) p.stream ≤ waiting_on (at ends k) p.stream) same (waits_still n fronts.items links.items told g (at ends n) p.stream calm (b.known n))) (omega arith)

pub calm_inv : (node : Node) (n : ℕ) (g : End → End) → Calm g → Inv node → Inv (on_end n g node)
calm_inv node n g calm i = (
  calm_base node.ends node.top node.links node.fronts node.told n g calm i.0,
  λ f. less_room f (waiting_at node.ends (at node.fronts f)) (waiting_at (change node.ends n g) (at node.fronts f)) node.core (calm_waits node.ends node.top node.links node.fronts node.told n g (at node.fronts f) calm i.0) (i.1 f),
)

-- at a place
pub calm_at : (node : Node) (o : Option Place) (g : ℕ → End → End) → ((s : ℕ) → Calm (g s)) → Inv node → Inv (at_place o g node)
calm_at node None g calm i = i
calm_at node (Some p) g calm i = calm_inv node p.conn (g p.stream) (calm p.stream) i

-- ---- a connection tells

pub noisy_inv : (node : Node) (n : ℕ) (h : Carrier → Carrier) → Noisy h → Inv node
    → Inv (record node {
      ends = change (change node.ends n (on_carrier h)) n (on_carrier without_events);
      told = node.told ++ tagged n (events_in (at (change node.ends n (on_carrier h)) n));
    })
noisy_inv node n h noisy i = (base, λ f. less_room f (waiting_at node.ends (at node.fronts f)) (waiting_at later (at node.fronts f)) node.core (waits (at node.fronts f)) (i.1 f))
  where
    b : BaseOf node
    b = i.0

    mid : Members End
    mid = change node.ends n (on_carrier h)

    later : Members End
    later = change mid n (on_carrier without_events)

    es : List H2Event
    es = events_in (at mid n)

    at_mid : at mid n ≡ changed_end (on_carrier h) (at node.ends n)
    at_mid = changed_at node.ends n (on_carrier h)

    at_later : at later n ≡ changed_end (on_carrier without_events) (changed_end (on_carrier h) (at node.ends n))
    at_later = changed_at mid n (on_carrier without_events) ∙ ap (changed_end (on_carrier without_events)) at_mid

    mid_members : AreMembers mid
    mid_members = changed_members node.ends n (on_carrier h) b.ends

    -- another connection is as it was
    other : (c : ℕ) → eqb c n ≡ false → at later c ≡ at node.ends c
    other c e = change_others mid n c (on_carrier without_events) mid_members.same e ∙ change_others node.ends n c (on_carrier h) b.ends.same e

    known : (c : ℕ) → Known c node.fronts.items node.links.items (node.told ++ tagged n es) (at later c)
    known c = by_number (eqb c n) refl
      where
        by_number : (t : Bool) → eqb c n ≡ t → Known c node.fronts.items node.links.items (node.told ++ tagged n es) (at later c)
        by_number true e =
            let own = heard_known n node.fronts.items node.links.items node.told h (at node.ends n) noisy (b.known n) in
            let own' : Known n node.fronts.items node.links.items (node.told ++ tagged n es) (changed_end (on_carrier without_events) (changed_end (on_carrier h) (at node.ends n))) =
            subst (λ o. Known n node.fronts.items node.links.items (node.told ++ tagged n (events_in o)) (changed_end (on_carrier without_events) (changed_end (on_carrier h) (at node.ends n)))) (sym at_mid) own in
            subst (λ k. Known k node.fronts.items node.links.items (node.told ++ tagged n es) (at later k)) (sym (eqb-true c n e)) (subst (λ o. Known n node.fronts.items node.links.items (node.told ++ tagged n es) o) (sym at_later) own')
        by_number false e =
            subst (λ o. Known c node.fronts.items node.links.items (node.told ++ tagged n es) o) (sym (other c e)) (known_more c n node.fronts.items node.links.items node.told es (at node.ends c) (differs c n e) (b.known c))
          where
            differs : (x y : ℕ) → eqb x y ≡ false → eqb y x ≡ false
            differs x y e = ne_eqb y x (λ same. eqb-false x y e (sym same))

    waits : (o : Option Place) → waiting_at later o ≤ waiting_at node.ends o
    waits None = omega arith
    waits (Some p) = by_number (eqb p.conn n) refl
      where
        by_number : (t : Bool) → eqb p.conn n ≡ t → waiting_on (at later p.conn) p.stream ≤ waiting_on (at node.ends p.conn) p.stream
        by_number true e =
            let own = heard_waits n node.fronts.items node.links.items node.told h (at node.ends n) p.stream noisy (b.known n) in
            subst (λ k. waiting_on (at later k) p.stream ≤ waiting_on (at node.ends k) p.stream) (sym (eqb-true p.conn n e)) (subst (λ o. waiting_on o p.stream ≤ waiting_on (at node.ends n) p.stream) (sym at_later) own)
        by_number false e = subst (λ o. waiting_on o p.stream ≤ waiting_on (at node.ends p.conn) p.stream) (sym (other p.conn e)) (omega arith)

    gone : (c : ℕ) → node.top < c → at later c ≡ None
    gone c above = at_changed (λ o. o ≡ None) mid n c (on_carrier without_events) mid_members (λ same. ap (changed_end (on_carrier without_events)) (subst (λ k. at mid k ≡ None) (sym same) (mid_gone c above))) (mid_gone c above)
      where
        mid_gone : (d : ℕ) → node.top < d → at mid d ≡ None
        mid_gone d up = at_changed (λ o. o ≡ None) node.ends n d (on_carrier h) b.ends (λ same. ap (changed_end (on_carrier h)) (subst (λ k. at node.ends k ≡ None) (sym same) (b.ends_within d up))) (b.ends_within d up)

    -- what one tells has its number, which is not above the greatest
    tagged_within : (fs : List H2Event) → n ≤ node.top → Each (λ x. x.conn ≤ node.top) (tagged n fs)
    tagged_within [] le = tt
    tagged_within (x ∷ fs) le = (le, tagged_within fs le)

    told_within : Each (λ x. x.conn ≤ node.top) (node.told ++ tagged n es)
    told_within = each_append (λ (x : Heard). x.conn ≤ node.top) node.told (tagged n es) b.told_within (by_top (ltb node.top n) refl)
      where
        by_top : (t : Bool) → ltb node.top n ≡ t → Each (λ x. x.conn ≤ node.top) (tagged n es)
        by_top true e =
            let none : at mid n ≡ None = at_mid ∙ ap (changed_end (on_carrier h)) (b.ends_within n (ltb-true node.top n e)) in
            subst (λ o. Each (λ (x : Heard). x.conn ≤ node.top) (tagged n (events_in o))) (sym none) tt
        by_top false e = tagged_within es (ltb-false node.top n e)

    base : Base later node.top node.links node.fronts (node.told ++ tagged n es)
    base = record {
      ends = changed_members mid n (on_carrier without_events) mid_members;
      fronts = b.fronts;
      ends_within = gone;
      fronts_within = b.fronts_within;
      links_within = b.links_within;
      told_within = told_within;
      known = known;
      elsewhere = b.elsewhere;
      apart = b.apart;
    }

-- ---- outputs

-- a packet is queued at the place of a front or a link
put_base : (ends : Members End) (top : ℕ) (links fronts : Members Place) (told : List Heard) (n m : ℕ) (p : Packet)
    → ((heard : ℕ) (s : State) → Knows n heard fronts.items links.items told s → m ≤ heard) → Base ends top links fronts told → Base (change ends n (given m p)) top links fronts told
put_base ends top links fronts told n m p below b = record {
  ends = changed_members ends n (given m p) b.ends;
  fronts = b.fronts;
  ends_within = λ c above. at_changed (λ o. o ≡ None) ends n c (given m p) b.ends (λ same. let gone : at ends n ≡ None = subst (λ k. at ends k ≡ None) (sym same) (b.ends_within c above) in ap (changed_end (given m p)) gone) (b.ends_within c above);
  fronts_within = b.fronts_within;
  links_within = b.links_within;
  told_within = b.told_within;
  known = λ c. at_changed (λ o. Known c fronts.items links.items told o) ends n c (given m p) b.ends
      (λ same. subst (λ k. Known k fronts.items links.items told (changed_end (given m p) (at ends n))) same (given_known n m fronts.items links.items told p (at ends n) below (b.known n))) (b.known c);
  elsewhere = b.elsewhere;
  apart = b.apart;
}

front_put : (node : Node) (front : ℕ) (p : Packet) (o : Option Place) → at node.fronts front ≡ o → BaseOf node → Base (place_changed o (λ s. given s p) node.ends) node.top node.links node.fronts node.told
front_put node front p None found b = b
front_put node front p (Some q) found b =
    put_base node.ends node.top node.links node.fronts node.told q.conn q.stream p
    (λ heard s k. each_at (λ (r : Place). r.conn ≡ q.conn → r.stream ≤ heard) node.fronts.items (place_in node.fronts.numbers front) q k.fronts found refl) b

link_put : (node : Node) (link : ℕ) (p : Packet) (o : Option Place) → at node.links link ≡ o → BaseOf node → Base (place_changed o (λ s. given s p) node.ends) node.top node.links node.fronts node.told
link_put node link p None found b = b
link_put node link p (Some q) found b =
    put_base node.ends node.top node.links node.fronts node.told q.conn q.stream p
    (λ heard s k. each_at (λ (r : Place). r.conn ≡ q.conn → r.stream ≤ heard) node.links.items (place_in node.links.numbers link) q k.links found refl) b

-- ---- fewer links and fronts

pub each_remove : {E : Type 0} (P : E → Type 0) (xs : List E) (i : ℕ) → Each P xs → Each P (remove xs i)
each_remove P [] zero h = tt
each_remove P [] (suc i) h = tt
each_remove P (x ∷ xs) zero h = h.1
each_remove P (x ∷ xs) (suc i) h = (h.0, each_remove P xs i h.1)

pub none_remove : (conn : ℕ) (xs : List Place) (i : ℕ) → NoneStandsOn conn xs → NoneStandsOn conn (remove xs i)
none_remove conn [] zero h = tt
none_remove conn [] (suc i) h = tt
none_remove conn (x ∷ xs) zero h = h.1
none_remove conn (x ∷ xs) (suc i) h = (h.0, none_remove conn xs i h.1)

-- what is known with fewer links or fronts
pub known_fewer : (c : ℕ) (fronts links fewer less : List Place) (told : List Heard) (o : Option End)
    → ((h : ℕ) → Each (λ p. p.conn ≡ c → p.stream ≤ h) fronts → Each (λ p. p.conn ≡ c → p.stream ≤ h) fewer) → ((h : ℕ) → Each (λ p. p.conn ≡ c → p.stream ≤ h) links → Each (λ p. p.conn ≡ c → p.stream ≤ h) less)
    → (NoneStandsOn c fronts → NoneStandsOn c fewer) → (NoneStandsOn c links → NoneStandsOn c less) → Known c fronts links told o → Known c fewer less told o
known_fewer c fronts links fewer less told None ef el nf nl k = tt
known_fewer c fronts links fewer less told (Some (Connect d)) ef el nf nl k = record { links = nl k.links; fronts = λ none. nf (k.fronts none) }
known_fewer c fronts links fewer less told (Some (Streams for_agents carrier)) ef el nf nl k = record {
  heard = k.heard;
  knows = record {
    quiet = k.knows.quiet;
    numbers = k.knows.numbers;
    pending = k.knows.pending;
    clean = k.knows.clean;
    fronts = ef k.heard k.knows.fronts;
    links = el k.heard k.knows.links;
  };
  agents = λ is. nf (k.agents is);
  clients = λ is. nl (k.clients is);
}

fewer_links : (ends : Members End) (top : ℕ) (links fronts : Members Place) (told : List Heard) (n : ℕ) → Base ends top links fronts told → Base ends top (without links n) fronts told
fewer_links ends top links fronts told n b =
    let i : ℕ = place_in links.numbers n in
    record {
      ends = b.ends;
      fronts = b.fronts;
      ends_within = b.ends_within;
      fronts_within = b.fronts_within;
      links_within = each_remove (λ (p : Place). p.conn ≤ top) links.items i b.links_within;
      told_within = b.told_within;
      known = λ c. known_fewer c fronts.items links.items fronts.items (remove links.items i) told (at ends c) (λ h e. e) (λ h e. each_remove (λ (p : Place). p.conn ≡ c → p.stream ≤ h) links.items i e) (λ e. e) (none_remove c links.items i) (b.known c);
      elsewhere = each_more (λ (p : Place). NoneStandsOn p.conn links.items) (λ (p : Place). NoneStandsOn p.conn (remove links.items i)) fronts.items (λ p h. none_remove p.conn links.items i h) b.elsewhere;
      apart = b.apart;
    }

-- a number that was taken out is gone
above_other : (n : ℕ) (xs : List ℕ) → AreAbove n xs → list_any (nat_eq n) xs ≡ false
above_other n [] a = refl
above_other n (x ∷ xs) a =
    let other : eqb n x ≡ false = ne_eqb n x (λ same. let l = a.0 in absurd (omega (arith, l, same))) in
    rw other (above_other n xs a.1)

below_other : (n x : ℕ) (xs : List ℕ) (i : ℕ) → (x ≡ n → ⊥) → list_any (nat_eq n) (remove xs i) ≡ false → (nat_eq n x || list_any (nat_eq n) (remove xs i)) ≡ false
below_other n x xs i differs later = let other : eqb n x ≡ false = ne_eqb n x (λ same. differs (sym same)) in rw other later

removed_gone : (n : ℕ) (xs : List ℕ) → AreRising xs → list_any (nat_eq n) (remove xs (place_in xs n)) ≡ false
removed_gone n [] r = by_place (place_in [] n)
  where
    by_place : (i : ℕ) → list_any (nat_eq n) (remove [] i) ≡ false
    by_place zero = refl
    by_place (suc i) = refl
removed_gone n (x ∷ xs) r = by_test (removed_gone n xs r.1) (eqb x n) refl
  where
    by_test : list_any (nat_eq n) (remove xs (place_in xs n)) ≡ false → (b : Bool) → eqb x n ≡ b → list_any (nat_eq n) (remove (x ∷ xs) (place_in (x ∷ xs) n)) ≡ false
    by_test later true e = rw (place-here x xs n (eqb-true x n e)) (above_other n xs (subst (λ k. AreAbove k xs) (eqb-true x n e) r.0))
    by_test later false e = rw (place-skip x xs n (eqb-false x n e)) (below_other n x xs (place_in xs n) (eqb-false x n e) later)

members_by : {T : Type 0} (m : Members T) (n : ℕ) (t : Bool) → ltb (place_in m.numbers n) (length m.numbers) ≡ t → AreMembers m → AreMembers (without m n)
members_by m n true e a = removed_members m.numbers m.items (place_in m.numbers n) a (ltb-true (place_in m.numbers n) (length m.numbers) e)
members_by m n false e a = subst AreMembers (removed_none m.numbers m.numbers m.items n refl a (ltb-false (place_in m.numbers n) (length m.numbers) e)) a

pub without_members : {T : Type 0} (m : Members T) (n : ℕ) → AreMembers m → AreMembers (without m n)
without_members m n a = members_by m n (ltb (place_in m.numbers n) (length m.numbers)) refl a

pub gone_there : {T : Type 0} (m : Members T) (n : ℕ) → AreMembers m → at (without m n) n ≡ None
gone_there m n a = nothing_there (without m n) (without_members m n a) n (removed_gone n m.numbers a.rising)

there_by : {T : Type 0} (m : Members T) (n g : ℕ) (x : T) (t : Bool) → eqb g n ≡ t → AreMembers m → at (without m n) g ≡ Some x → at m g ≡ Some x
there_by m n g x true e a found =
    let gone : at (without m n) n ≡ None = gone_there m n a in
    let same : at (without m n) g ≡ None = subst (λ k. at (without m n) k ≡ None) (sym (eqb-true g n e)) gone in
    absurd cc
there_by m n g x false e a found = sym (without_others m n g a.same e) ∙ found

-- whoever is there without one was there before
still_there : {T : Type 0} (m : Members T) (n g : ℕ) (x : T) → AreMembers m → at (without m n) g ≡ Some x → at m g ≡ Some x
still_there m n g x a found = there_by m n g x (eqb g n) refl a found

fewer_fronts : (ends : Members End) (top : ℕ) (links fronts : Members Place) (told : List Heard) (n : ℕ) → Base ends top links fronts told → Base ends top links (without fronts n) told
fewer_fronts ends top links fronts told n b =
    let i : ℕ = place_in fronts.numbers n in
    record {
      ends = b.ends;
      fronts = without_members fronts n b.fronts;
      ends_within = b.ends_within;
      fronts_within = each_remove (λ (p : Place). p.conn ≤ top) fronts.items i b.fronts_within;
      links_within = b.links_within;
      told_within = b.told_within;
      known = λ c. known_fewer c fronts.items links.items (remove fronts.items i) links.items told (at ends c) (λ h e. each_remove (λ (p : Place). p.conn ≡ c → p.stream ≤ h) fronts.items i e) (λ h e. e) (none_remove c fronts.items i) (λ e. e) (b.known c);
      elsewhere = each_remove (λ (p : Place). NoneStandsOn p.conn links.items) fronts.items i b.elsewhere;
      apart = λ f g p q is found conn stream. b.apart f g p q (still_there fronts n f p b.fronts is) (still_there fronts n g q b.fronts found) conn stream;
    }

-- what waits for nobody
fewer_room : (core : core_state.State) (ends : Members End) (fronts : Members Place) (n : ℕ) → AreMembers fronts → RoomOf core ends fronts → RoomOf core ends (without fronts n)
fewer_room core ends fronts n a room f = by_place (at (without fronts n) f) refl
  where
    by_place : (o : Option Place) → at (without fronts n) f ≡ o → HasRoom f (waiting_at ends o) core
    by_place None is = less_room f (waiting_at ends (at fronts f)) 0 core (omega arith) (room f)
    by_place (Some p) is = subst (λ o. HasRoom f (waiting_at ends o) core) (still_there fronts n f p a is) (room f)

-- ---- an event

closed_calm_is : (closes : (status s : ℕ) → Calm (closed status s)) (node : Node) (o : ServerOut) → BaseOf node → BaseOf (output node o)
unfolding output
closed_calm_is closes node (ToLink link p) b = by_length (is_too_long node link p)
  where
    by_length : (t : Bool) → BaseOf (cond t (record node { todo = with_loss (OfLink link 14) node.todo }) (at_place (at node.links link) (λ s. given s p) node))
    by_length true = b
    by_length false = link_put node link p (at node.links link) refl b
closed_calm_is closes node (ToFront front p) b = front_put node front p (at node.fronts front) refl b
closed_calm_is closes node (CutLink link) b = fewer_links (place_changed (at node.links link) (closed 13) node.ends) node.top node.links node.fronts node.told link (by_place (at node.links link))
  where
    by_place : (o : Option Place) → Base (place_changed o (closed 13) node.ends) node.top node.links node.fronts node.told
    by_place None = b
    by_place (Some q) = calm_base node.ends node.top node.links node.fronts node.told q.conn (closed 13 q.stream) (closes 13 q.stream) b
closed_calm_is closes node (Made dial link front) b = b

outputs_base : (closes : (status s : ℕ) → Calm (closed status s)) (node : Node) (os : List ServerOut) → BaseOf node → BaseOf (outputs node os)
outputs_base closes node [] b = b
outputs_base closes node (o ∷ os) b = outputs_base closes (output node o) os (closed_calm_is closes node o b)

event_base : (closes : (status s : ℕ) → Calm (closed status s)) (e : ServerEvent) (node : Node) → BaseOf node → BaseOf (event e node)
unfolding event
event_base closes e node b = outputs_base closes (after_core e node) (server.step node.core e).outs b

pub event_inv : (closes : (status s : ℕ) → Calm (closed status s)) (e : ServerEvent) (node : Node) → IsShort e → AreInTime node e → Inv node → Inv (event e node)
event_inv closes e node short in_time i =
    let after = events_drop_none node e (alone_of node i.0) i.1 short in_time in
    (event_base closes e node i.0, after.2)

-- a link or front stands nowhere any more
pub link_ended_inv : (closes : (status s : ℕ) → Calm (closed status s)) (node : Node) (link status : ℕ) → Inv node → Inv (link_ended link status node)
link_ended_inv closes node link status i =
    let closed_i = calm_at node (at node.links link) (closed status) (closes status) i in
    (fewer_links (place_changed (at node.links link) (closed status) node.ends) node.top node.links node.fronts node.told link closed_i.0, closed_i.1)

pub front_ended_inv : (closes : (status s : ℕ) → Calm (closed status s)) (node : Node) (front status : ℕ) → Inv node → Inv (front_ended front status node)
front_ended_inv closes node front status i =
    let closed_i = calm_at node (at node.fronts front) (closed status) (closes status) i in
    let ends : Members End = place_changed (at node.fronts front) (closed status) node.ends in
    (fewer_fronts ends node.top node.links node.fronts node.told front closed_i.0, fewer_room node.core ends node.fronts front closed_i.0.fronts closed_i.1)
