-- The calls themselves, and all that they lead to.
use Rattle.std.proofs.Common.{◌≡◌, ℕ, pos, ◌+◌, ◌<◌, ◌≤◌, Bool, true, false, cond, eqb, ltb, List, [], ◌∷◌, ◌++◌, codes, Option, Some, None, Result, Ok, Err, refl, sym, ap, ◌∙◌, subst, arith}
use Rattle.std.specs.Prelude.{filter}
use Rattle.std.proofs.lemmas.Bool.{eqb-true, ne_eqb, ltb-true, ltb-false}
use Rattle.kn_packet.specs.declared.packet.Packet.TheVariants.{DialReq}
use Rattle.kn_route.specs.declared.strategy.Strategy.{Strategy}
use Rattle.kn_connect.specs.declared.answer.ConnectError.{ConnectError}
use Rattle.kn_connect.specs.declared.answer.ConnectError.TheVariants.{NoMemory, Fault}
use Rattle.kn_connect.specs.declared.answer.ConnectAnswer.{ConnectAnswer}
use Rattle.kn_connect.specs.declared.answer.ConnectAnswer.TheVariants.{More, Head}
use Rattle.kn_connect.specs.Statuses.{fault_status}
use Rattle.kn_h2_state.specs.Calls.{fresh, fresh_state}
use Rattle.kn_h2_state.specs.Streams.{stream_at}
use Rattle.kn_h2_state.proofs.BorneLemmas.{Rises}
use Rattle.kn_server_core.specs.Isolation.{Each}
use Rattle.kn_server_core.specs.declared.event.ServerEvent.{ServerEvent}
use Rattle.kn_server_core.specs.declared.event.ServerEvent.TheVariants.{FrontUp, FrontPacket}
use Rattle.kn_server_core.specs.Server as server
use Rattle.kn_front_room.proofs.RoomLemmas.{room_first}
use Rattle.kn_stream_order.specs.Order.{OpensRising}
use Rattle.kn_ends.specs.declared.heard.Heard.{Heard}
use Rattle.kn_ends.specs.Carriers.{fed_with}
use Rattle.kn_rising.specs.Members.{Members, AreMembers, at, with, change, changed, inserted}
use Rattle.kn_server_node.specs.declared.door.Door.{Door}
use Rattle.kn_server_node.specs.declared.end.End.{End}
use Rattle.kn_server_node.specs.declared.end.End.TheVariants.{Streams, Connect}
use Rattle.kn_server_node.specs.declared.kind.ServerKind.{ServerKind}
use Rattle.kn_server_node.specs.declared.kind.ServerKind.TheVariants as kinds
use Rattle.kn_server_node.specs.declared.place.Place.{Place}
use Rattle.kn_server_node.specs.declared.node.Node.{Node}
use Rattle.kn_server_node.specs.Doors as door
use Rattle.kn_server_node.specs.Ends.{fresh_end, on_carrier, on_door, HearsOne, HearsHead}
use Rattle.kn_server_node.specs.Ends as one
use Rattle.kn_server_node.specs.Nodes.{on_end, event}
use Rattle.kn_server_node.specs.Callers.{has_no_front, place_of, counts, door_up, head_whole, head_came, HeadHears, DoorHears}
use Rattle.kn_server_node.specs.Steps.{Step, Makes, MayDo, after_step}
use Rattle.kn_server_node.specs.Calls.{Called, Opened, Bytes, Took, Lost, HearsBytes, Does, start}
use Rattle.kn_server_node.specs.CoreEvents.{step_events}
use Rattle.kn_server_node.specs.FrontRooms.{waiting_on, waiting_at, waiting_for, NoneStandsOn, AreAlone, HaveRoom, AreInTime, DropsNone, after_core}
use Rattle.kn_server_node.proofs.MemberLemmas.{inserted_others}
use Rattle.kn_server_node.proofs.FrontRoomLemmas.{events_drop_none}
use Rattle.kn_server_courses.specs.Courses.{dial_finds, dial_event, Deed, Begin, Make, HandOut, MayBegin, Leads, CallsLead, finds}
use Rattle.kn_server_courses.proofs.ChangeLemmas.{changed_end, changed_at}
use Rattle.kn_server_courses.proofs.FrontBaseLemmas.{each_at, each_more, events_for, Known, KnowsDoor, Calm}
use Rattle.kn_server_courses.proofs.CalmLemmas.{on_door_calm, took_calm, lost_calm, refused_calm, fed_noisy}
use Rattle.kn_server_courses.proofs.FrontRunLemmas.{Base, BaseOf, Inv, alone_of, calm_inv, noisy_inv, less_room}
use Rattle.kn_server_courses.proofs.PlacedLemmas.{each_none, members_inserted, at_inserted, front_base, front_room}
use Rattle.kn_server_courses.proofs.SoundLemmas.{Ready, ready_inv}
use Rattle.kn_server_courses.proofs.StepLemmas.{step_sound}

-- ---- a connection begins

-- nothing was told of a connection whose number is above all that told
for_none : (c top : ℕ) (told : List Heard) → top < c → Each (λ x. x.conn ≤ top) told → events_for c told ≡ []
unfolding events_for
for_none c top [] above h = refl
for_none c top (x ∷ told) above h =
    let le = h.0 in
    let other : eqb x.conn c ≡ false = ne_eqb x.conn c (λ same. omega (arith, le, above, same)) in
    rw other (for_none c top told above h.1)

none_above : (c top : ℕ) (ps : List Place) → top < c → Each (λ p. p.conn ≤ top) ps → NoneStandsOn c ps
none_above c top [] above h = tt
none_above c top (p ∷ ps) above h = ((λ is. let le = h.0 in omega (arith, le, above, is)), none_above c top ps above h.1)

fresh_known : (c top : ℕ) (kind : ServerKind) (fronts links : List Place) (told : List Heard) → top < c → Each (λ p. p.conn ≤ top) fronts → Each (λ p. p.conn ≤ top) links → Each (λ x. x.conn ≤ top) told
    → Known c fronts links told (Some (fresh_end kind))
unfolding fresh fresh_state Rises
fresh_known c top kinds.Agents fronts links told above f l t = record {
  heard = 0;
  knows = record {
    quiet = refl;
    numbers = omega arith;
    pending = subst (λ es. OpensRising 0 es 0) (sym (for_none c top told above t)) (omega arith);
    clean = λ n up. tt;
    fronts = each_more (λ (p : Place). p.conn ≤ top) (λ (p : Place). p.conn ≡ c → p.stream ≤ 0) fronts (λ p le is. absurd (omega (arith, le, above, is))) f;
    links = each_more (λ (p : Place). p.conn ≤ top) (λ (p : Place). p.conn ≡ c → p.stream ≤ 0) links (λ p le is. absurd (omega (arith, le, above, is))) l;
  };
  agents = λ is. none_above c top fronts above f;
  clients = λ is. none_above c top links above l;
}
fresh_known c top kinds.Clients fronts links told above f l t = record {
  heard = 0;
  knows = record {
    quiet = refl;
    numbers = omega arith;
    pending = subst (λ es. OpensRising 0 es 0) (sym (for_none c top told above t)) (omega arith);
    clean = λ n up. tt;
    fronts = each_more (λ (p : Place). p.conn ≤ top) (λ (p : Place). p.conn ≡ c → p.stream ≤ 0) fronts (λ p le is. absurd (omega (arith, le, above, is))) f;
    links = each_more (λ (p : Place). p.conn ≤ top) (λ (p : Place). p.conn ≡ c → p.stream ≤ 0) links (λ p le is. absurd (omega (arith, le, above, is))) l;
  };
  agents = λ is. none_above c top fronts above f;
  clients = λ is. none_above c top links above l;
}
fresh_known c top kinds.Connect fronts links told above f l t = record { links = none_above c top links above l; fronts = λ is. none_above c top fronts above f }

fresh_waits : (kind : ServerKind) (s : ℕ) → waiting_on (Some (fresh_end kind)) s ≤ 0
unfolding fresh fresh_state stream_at
fresh_waits kinds.Agents s = omega arith
fresh_waits kinds.Clients s = omega arith
fresh_waits kinds.Connect s = omega arith

pub at_begun : (P : Option End → Type 0) (ends : Members End) (n c : ℕ) (e : End) → AreMembers ends → (n ≡ c → P (Some e)) → P (at ends c) → P (at (inserted ends n e) c)
at_begun P ends n c e a own other = by_number (eqb c n) refl
  where
    by_number : (t : Bool) → eqb c n ≡ t → P (at (inserted ends n e) c)
    by_number true h = let same : n ≡ c = sym (eqb-true c n h) in subst P (sym (subst (λ k. at (inserted ends n e) k ≡ Some e) same (at_inserted ends n e a))) (own same)
    by_number false h = subst P (sym (inserted_others ends n c e a.same h)) other

up_within : (top more : ℕ) (ps : List Place) → top < more → Each (λ p. p.conn ≤ top) ps → Each (λ p. p.conn ≤ more) ps
up_within top more ps above h = each_more (λ (p : Place). p.conn ≤ top) (λ (p : Place). p.conn ≤ more) ps (λ p le. omega (arith, le, above)) h

begun_base : (node : Node) (conn : ℕ) (kind : ServerKind) → node.top < conn → BaseOf node → Base (inserted node.ends conn (fresh_end kind)) conn node.links node.fronts node.told
begun_base node conn kind above b = record {
  ends = members_inserted node.ends conn (fresh_end kind) b.ends;
  fronts = b.fronts;
  ends_within = λ c up. at_begun (λ o. o ≡ None) node.ends conn c (fresh_end kind) b.ends (λ same. absurd (omega (arith, same, up))) (b.ends_within c (omega (arith, up, above)));
  fronts_within = up_within node.top conn node.fronts.items above b.fronts_within;
  links_within = up_within node.top conn node.links.items above b.links_within;
  told_within = each_more (λ (x : Heard). x.conn ≤ node.top) (λ (x : Heard). x.conn ≤ conn) node.told (λ x le. omega (arith, le, above)) b.told_within;
  known = λ c. at_begun (λ o. Known c node.fronts.items node.links.items node.told o) node.ends conn c (fresh_end kind) b.ends
      (λ same. subst (λ k. Known k node.fronts.items node.links.items node.told (Some (fresh_end kind))) same (fresh_known conn node.top kind node.fronts.items node.links.items node.told above b.fronts_within b.links_within b.told_within))
      (b.known c);
  elsewhere = b.elsewhere;
  apart = b.apart;
}

begun_waits : (node : Node) (conn : ℕ) (kind : ServerKind) (o : Option Place) → BaseOf node → waiting_at (inserted node.ends conn (fresh_end kind)) o ≤ waiting_at node.ends o
begun_waits node conn kind None b = omega arith
begun_waits node conn kind (Some p) b =
    at_begun (λ e. waiting_on e p.stream ≤ waiting_on (at node.ends p.conn) p.stream) node.ends conn p.conn (fresh_end kind) b.ends (λ same. let w = fresh_waits kind p.stream in omega (arith, w)) (omega arith)

begun_inv : (node : Node) (conn : ℕ) (kind : ServerKind) → node.top < conn → Inv node → Inv (record node { ends = inserted node.ends conn (fresh_end kind); top = conn; stirred = node.stirred ++ conn ∷ [] })
begun_inv node conn kind above i = (
  begun_base node conn kind above i.0,
  λ f. less_room f (waiting_at node.ends (at node.fronts f)) (waiting_at (inserted node.ends conn (fresh_end kind)) (at node.fronts f)) node.core (begun_waits node conn kind (at node.fronts f) i.0) (i.1 f),
)

-- ---- a head of CONNECT

begun_front : (front : ℕ) (early : List ℕ) → Calm (on_door (door.begun front early))
begun_front front early = on_door_calm (door.begun front early) (λ d none. absurd cc)

-- its front has a place, and waits for nothing
placed_inv : (node : Node) (conn : ℕ) (d : Door) (front : ℕ) (early : List ℕ) → at node.ends conn ≡ Some (Connect d) → d.front ≡ None → Inv node
    → Inv (record node { ends = change node.ends conn (on_door (door.begun front early)); fronts = inserted node.fronts front (place_of conn 0); past_fronts = filter (counts node.ends) node.past_fronts })
placed_inv node conn d front early there unclaimed i = (based, front_room node.core later.ends node.fronts front (place_of conn 0) i.0.fronts clean calmed.1)
  where
    later : Node
    later = on_end conn (on_door (door.begun front early)) node

    calmed : Inv later
    calmed = calm_inv node conn (on_door (door.begun front early)) (begun_front front early) i

    known : KnowsDoor conn node.fronts.items node.links.items d
    known = subst (λ o. Known conn node.fronts.items node.links.items node.told o) there (i.0.known conn)

    begun_there : at later.ends conn ≡ Some (Connect (door.begun front early d))
    begun_there = changed_at node.ends conn (on_door (door.begun front early)) ∙ ap (changed_end (on_door (door.begun front early))) there

    unused : NoneStandsOn conn node.fronts.items
    unused = known.fronts unclaimed

    within : conn ≤ node.top
    within = by_top (ltb node.top conn) refl
      where
        by_top : (t : Bool) → ltb node.top conn ≡ t → conn ≤ node.top
        by_top true above = let gone = i.0.ends_within conn (ltb-true node.top conn above) in absurd cc
        by_top false above = ltb-false node.top conn above

    free : (g : ℕ) (q : Place) → at node.fronts g ≡ Some q → q.conn ≡ conn → q.stream ≡ 0 → ⊥
    free g q found on at_stream = each_at (λ (p : Place). p.conn ≡ conn → ⊥) node.fronts.items _ q (each_none conn node.fronts.items unused) found on

    clean : waiting_on (at later.ends conn) 0 ≤ 0
    clean = subst (λ o. waiting_on o 0 ≤ 0) (sym begun_there) (omega arith)

    own : Known conn (inserted node.fronts front (place_of conn 0)).items node.links.items node.told (at later.ends conn)
    own = subst (λ o. Known conn (inserted node.fronts front (place_of conn 0)).items node.links.items node.told o) (sym begun_there) (record { links = known.links; fronts = λ is. absurd cc })

    based : Base later.ends node.top node.links (inserted node.fronts front (place_of conn 0)) node.told
    based = front_base later.ends node.top node.links node.fronts node.told front (place_of conn 0) calmed.0 within known.links free own

-- the dial of a front that waits for nothing
dial_ready : (node : Node) (front conn : ℕ) (target : List ℕ) (d : Door) → at node.fronts front ≡ Some (place_of conn 0) → at node.ends conn ≡ Some (Connect d) → Inv node → Ready node (FrontPacket front (DialReq (codes "tcp") target (pos 0)))
dial_ready node front conn target d placed there i = record { inv = i; in_time = in_time; short = tt }
  where
    waits : waiting_for node front ≤ 0
    waits = subst (λ o. waiting_at node.ends o ≤ 0) (sym placed) (subst (λ e. waiting_on e 0 ≤ 0) (sym there) (omega arith))

    in_time : AreInTime node (FrontPacket front (DialReq (codes "tcp") target (pos 0)))
    in_time f is = let same : front ≡ f = eqb-true front f is in let w : waiting_for node f ≤ 0 = subst (λ k. waiting_for node k ≤ 0) same waits in omega (arith, w)

-- that a front comes up is told to nobody
up_fronts : (front : ℕ) (node : Node) → (event (FrontUp front) node).fronts ≡ node.fronts
unfolding event
up_fronts front node = refl

up_ends : (front : ℕ) (node : Node) → (event (FrontUp front) node).ends ≡ node.ends
unfolding event
up_ends front node = refl

up_dial : (node : Node) (conn : ℕ) (target early : List ℕ) (d : Door) → at node.ends conn ≡ Some (Connect d) → d.front ≡ None → Inv node → Ready (dial_finds conn early node) (dial_event node target)
up_dial node conn target early d there unclaimed i = dial
  where
    front : ℕ
    front = node.core.fronts.top + 1

    placed : Node
    placed = on_end conn (on_door (door.begun front early)) (record node { fronts = inserted node.fronts front (place_of conn 0); past_fronts = filter (counts node.ends) node.past_fronts })

    placed_i : Inv placed
    placed_i = placed_inv node conn d front early there unclaimed i

    up : Node
    up = event (FrontUp front) placed

    up_i : Inv up
    up_i = ready_inv placed (FrontUp front) (record { inv = placed_i; in_time = λ f is. absurd cc; short = tt })

    begun_there : at placed.ends conn ≡ Some (Connect (door.begun front early d))
    begun_there = changed_at node.ends conn (on_door (door.begun front early)) ∙ ap (changed_end (on_door (door.begun front early))) there

    dial : Ready up (FrontPacket front (DialReq (codes "tcp") target (pos 0)))
    dial = dial_ready up front conn target (door.begun front early d) (ap (λ (m : Members Place). at m front) (up_fronts front placed) ∙ at_inserted node.fronts front (place_of conn 0) i.0.fronts) (ap (λ (m : Members End). at m conn) (up_ends front placed) ∙ begun_there) up_i

up_inv : (node : Node) (conn : ℕ) (target early : List ℕ) (d : Door) → at node.ends conn ≡ Some (Connect d) → d.front ≡ None → Inv node → Inv (door_up conn target early node)
unfolding door_up
up_inv node conn target early d there unclaimed i = ready_inv (dial_finds conn early node) (dial_event node target) (up_dial node conn target early d there unclaimed i)

up_is : (node : Node) (conn : ℕ) (target early : List ℕ) → door_up conn target early node ≡ event (dial_event node target) (dial_finds conn early node)
unfolding door_up
up_is node conn target early = refl

whole_inv : (node : Node) (conn : ℕ) (target early : List ℕ) (d : Door) → at node.ends conn ≡ Some (Connect d) → d.front ≡ None → Inv node → Inv (head_whole conn target early node)
whole_inv node conn target early d there unclaimed i = by_room (has_no_front node)
  where
    by_room : (b : Bool) → Inv (cond b (on_end conn (on_door (door.refused 503)) node) (door_up conn target early node))
    by_room true = calm_inv node conn (on_door (door.refused 503)) (refused_calm 503) i
    by_room false = up_inv node conn target early d there unclaimed i

came_inv : (node : Node) (conn : ℕ) (answer : Result ConnectAnswer ConnectError) (d : Door) → at node.ends conn ≡ Some (Connect d) → d.front ≡ None → Inv node → Inv (head_came conn answer node)
came_inv node conn (Ok More) d there unclaimed i = i
came_inv node conn (Ok (Head target early)) d there unclaimed i = whole_inv node conn target early d there unclaimed i
came_inv node conn (Err (Fault fault)) d there unclaimed i = calm_inv node conn (on_door (door.refused (fault_status fault))) (refused_calm (fault_status fault)) i
came_inv node conn (Err NoMemory) d there unclaimed i = i

-- what holds the head heard more of it
one_held : (d : Door) (piece : List ℕ) (answer : Result ConnectAnswer ConnectError) (f : End) → HearsOne (Connect d) piece answer f → (held : List ℕ) × (f ≡ Connect (door.with_head held d))
one_held d piece answer f h = (h.1.0, h.2 ∙ ap Connect h.1.3)

head_calm : (held : List ℕ) → Calm (on_door (door.with_head held))
head_calm held = on_door_calm (door.with_head held) (λ d none. none)

head_inv : (old : Node) (conn : ℕ) (piece : List ℕ) (d : Door) (new : Node) → at old.ends conn ≡ Some (Connect d) → d.front ≡ None → HeadHears conn piece (Some (Connect d)) old new → Inv old → Inv new
head_inv old conn piece d new there unclaimed h i =
    let heard = h.3 in
    let held = one_held d piece h.0 heard.0 heard.1 in
    let f : End → End = on_door (door.with_head held.0) in
    let put : change old.ends conn f ≡ with old.ends conn (Connect (door.with_head held.0 d)) = ap (changed old.ends conn f) there in
    let ends : h.2 ≡ change old.ends conn f = heard.2 ∙ ap (with old.ends conn) held.1 ∙ sym put in
    let calmed : Inv (on_end conn f old) = calm_inv old conn f (head_calm held.0) i in
    let still : at (change old.ends conn f) conn ≡ Some (Connect (door.with_head held.0 d)) = changed_at old.ends conn f ∙ ap (changed_end f) there in
    let came = came_inv (on_end conn f old) conn h.0 (door.with_head held.0 d) still unclaimed calmed in
    subst Inv (sym h.4) (subst (λ (es : Members End). Inv (head_came conn h.0 (record old { ends = es; stirred = old.stirred ++ conn ∷ [] }))) (sym ends) came)

door_inv : (old : Node) (conn : ℕ) (piece : List ℕ) (d : Door) (new : Node) (front : Option ℕ) → d.front ≡ front → at old.ends conn ≡ Some (Connect d) → DoorHears conn piece front (Some (Connect d)) old new → Inv old → Inv new
door_inv old conn piece d new None is there h i = head_inv old conn piece d new there is h i
door_inv old conn piece d new (Some front) is there h i = subst Inv (sym h) (calm_inv old conn (on_door (door.with_early piece)) (on_door_calm (door.with_early piece) (λ e none. none)) i)

bytes_inv : (old : Node) (conn : ℕ) (piece : List ℕ) (new : Node) (o : Option End) → at old.ends conn ≡ o → HearsBytes conn piece o old new → Inv old → Inv new
bytes_inv old conn piece new None there h i = subst Inv (sym h) i
bytes_inv old conn piece new (Some (Streams k carrier)) there h i = subst Inv (sym h) (noisy_inv old conn (fed_with piece) (fed_noisy piece) i)
bytes_inv old conn piece new (Some (Connect d)) there h i = door_inv old conn piece d new d.front refl there h i

-- ---- calls, and all that they lead to

does_inv : (old : Node) (call : Called) (new : Node) → MayBegin old call → Does old call new → Inv old → Inv new
does_inv old (Opened conn kind) new may does i = subst Inv (sym does) (begun_inv old conn kind may i)
does_inv old (Bytes conn piece) new may does i = bytes_inv old conn piece new (at old.ends conn) refl does i
does_inv old (Took conn count) new may does i = subst Inv (sym does) (calm_inv old conn (one.took count) (took_calm count) i)
does_inv old (Lost conn) new may does i = subst Inv (sym does) (calm_inv old conn one.lost lost_calm i)

handed_inv : (old mid : Node) (c : ℕ) → old ≡ record mid { stirred = mid.stirred ++ c ∷ [] } → Inv old → Inv mid
handed_inv old mid c is i = subst Inv is i

leads_inv : (old : Node) (deeds : List Deed) (new : Node) → Leads old deeds new → Inv old → Inv new
leads_inv old [] new leads i = subst Inv (sym leads) i
leads_inv old (Begin call ∷ deeds) new leads i = leads_inv leads.0 deeds new leads.3 (does_inv old call leads.0 leads.1 leads.2 i)
leads_inv old (Make s ∷ deeds) new leads i = leads_inv (after_step old s) deeds new leads.1 (step_sound old s leads.0 i).inv
leads_inv old (HandOut c ∷ deeds) new leads i = leads_inv leads.0 deeds new leads.2 (handed_inv old leads.0 c leads.1 i)

start_inv : (strategies : List Strategy) (id : List ℕ) (count : ℕ) → Inv (start strategies id count)
start_inv strategies id count = (
  record {
    ends = record { rising = tt; same = refl };
    fronts = record { rising = tt; same = refl };
    ends_within = λ c above. refl;
    fronts_within = tt;
    links_within = tt;
    told_within = tt;
    known = λ c. tt;
    elsewhere = tt;
    apart = λ f g p q is found conn stream. absurd cc;
  },
  λ f. room_first f strategies,
)

pub fronts_have_room : (strategies : List Strategy) (id : List ℕ) (count : ℕ) (deeds : List Deed) (node : Node) → Leads (start strategies id count) deeds node → AreAlone node × HaveRoom node
fronts_have_room strategies id count deeds node leads = let i = leads_inv (start strategies id count) deeds node leads (start_inv strategies id count) in (alone_of node i.0, i.1)

ready_drops : (node : Node) (e : ServerEvent) → Ready node e → DropsNone (after_core e node) (server.step node.core e).outs
ready_drops node e r = (events_drop_none node e (alone_of node r.inv.0) r.inv.1 r.short r.in_time).0

pub none_dropped : (strategies : List Strategy) (id : List ℕ) (count : ℕ) (deeds : List Deed) (node : Node) (s : Step) (e : ServerEvent) → Leads (start strategies id count) deeds node → MayDo node s → step_events node s ≡ e ∷ []
    → (after_step node s ≡ event e (finds node s)) × DropsNone (after_core e (finds node s)) (server.step (finds node s).core e).outs
none_dropped strategies id count deeds node s e leads may is =
    let rung = (step_sound node s may (leads_inv (start strategies id count) deeds node leads (start_inv strategies id count))).rings e is in
    (rung.0, ready_drops (finds node s) e rung.1)

head_dials : (old : Node) (conn : ℕ) (d : Door) (held target early : List ℕ) → at old.ends conn ≡ Some (Connect d) → d.front ≡ None → Inv old
    → Ready (dial_finds conn early (on_end conn (on_door (door.with_head held)) old)) (dial_event (on_end conn (on_door (door.with_head held)) old) target)
head_dials old conn d held target early there unclaimed i =
    up_dial (on_end conn (on_door (door.with_head held)) old) conn target early (door.with_head held d) (changed_at old.ends conn (on_door (door.with_head held)) ∙ ap (changed_end (on_door (door.with_head held))) there) unclaimed
    (calm_inv old conn (on_door (door.with_head held)) (head_calm held) i)

pub dials_drop_none : (strategies : List Strategy) (id : List ℕ) (count : ℕ) (deeds : List Deed) (old : Node) (conn : ℕ) (d : Door) (held target early : List ℕ) (node : Node) → Leads (start strategies id count) deeds old → at old.ends conn ≡ Some (Connect d) → d.front ≡ None
    → node ≡ on_end conn (on_door (door.with_head held)) old
    → (door_up conn target early node ≡ event (dial_event node target) (dial_finds conn early node)) × DropsNone (after_core (dial_event node target) (dial_finds conn early node)) (server.step (dial_finds conn early node).core (dial_event node target)).outs
dials_drop_none strategies id count deeds old conn d held target early node leads there unclaimed is =
    let i = leads_inv (start strategies id count) deeds old leads (start_inv strategies id count) in
    let ready : Ready (dial_finds conn early node) (dial_event node target) =
    subst (λ (n : Node). Ready (dial_finds conn early n) (dial_event n target)) (sym is) (head_dials old conn d held target early there unclaimed i) in
    (up_is node conn target early, ready_drops (dial_finds conn early node) (dial_event node target) ready)

-- ---- whole calls

makes_lead : (old : Node) (steps : List Step) (mid : Node) (deeds : List Deed) (new : Node) → Makes old steps mid → Leads mid deeds new → (all : List Deed) × Leads old all new
makes_lead old [] mid deeds new makes leads = (deeds, subst (λ m. Leads m deeds new) makes leads)
makes_lead old (s ∷ steps) mid deeds new makes leads = let later = makes_lead (after_step old s) steps mid deeds new makes.1 leads in (Make s ∷ later.0, (makes.0, later.1))

pub calls_are_deeds : (old : Node) (calls : List Called) (new : Node) → CallsLead old calls new → (deeds : List Deed) × Leads old deeds new
calls_are_deeds old [] new leads = ([], leads)
calls_are_deeds old (call ∷ calls) new leads =
    let later = calls_are_deeds leads.0 calls new leads.3 in
    let handled = leads.2 in
    let steps = makes_lead handled.0 handled.2.0.0 leads.0 later.0 new handled.2.0.1 later.1 in
    (Begin call ∷ steps.0, (handled.0, leads.1, handled.1, steps.1))
