-- Each step keeps what holds of connections, links and fronts, and its event comes in time.
use Rattle.std.proofs.Common.{◌≡◌, ℕ, ◌+◌, ◌≤◌, Bool, true, false, cond, ltb, List, [], ◌∷◌, Option, Some, None, Result, Ok, Err, refl, sym, ap, subst, arith}
use Rattle.std.specs.Prelude.{filter, bytes_eq, codes, nat_eq}
use Rattle.std.specs.List.{starts_with}
use Rattle.std.specs.Str.{is_utf8}
use Rattle.std.proofs.lemmas.Bool.{ltb-false, ltb-true}
use Rattle.kn_hpack.specs.Fields.{Field}
use Rattle.kn_route.specs.declared.id_kind.IdKind.{IdKind}
use Rattle.kn_route.specs.declared.identifiers.IdFault.{IdFault}
use Rattle.kn_route.specs.Identifiers.{identifiers_in}
use Rattle.kn_grpc.specs.declared.call.Service.{Service}
use Rattle.kn_grpc.specs.declared.call.Service.TheVariants.{Agent, Proxy}
use Rattle.kn_grpc.specs.declared.call.Call.{Call}
use Rattle.kn_grpc.specs.declared.call.CallFault.{CallFault}
use Rattle.kn_grpc.specs.declared.call.CallFault.TheVariants.{NotPost, Path, ContentType, Identifiers}
use Rattle.kn_grpc.specs.CallHeads.{refusal_fields}
use Rattle.kn_grpc.specs.Calls.{call_in, service_in_path, service_of, value_in, call_at, agent_by, agent_call, call_of, is_id}
use Rattle.kn_grpc.specs.Calls as calls
use Rattle.kn_h2_state.specs.declared.event.H2Event.{H2Event}
use Rattle.kn_h2_state.specs.declared.event.H2Event.TheVariants as events
use Rattle.kn_server_core.specs.declared.event.ServerEvent.{ServerEvent}
use Rattle.kn_server_core.specs.declared.event.ServerEvent.TheVariants.{LinkUp, FrontUp}
use Rattle.kn_front_room.specs.Rooms.{IsShort}
use Rattle.kn_stream_order.proofs.QueueLemmas.{short_at}
use Rattle.kn_ends.specs.declared.carrier.Carrier.{Carrier}
use Rattle.kn_ends.specs.declared.heard.Heard.{Heard}
use Rattle.kn_ends.specs.declared.who.Who.TheVariants as who
use Rattle.kn_ends.specs.Carriers.{finish_stream, reset_stream}
use Rattle.kn_rising.specs.Members.{Members, at, inserted}
use Rattle.kn_server_node.specs.declared.end.End.{End}
use Rattle.kn_server_node.specs.declared.end.End.TheVariants.{Streams, Connect}
use Rattle.kn_server_node.specs.declared.place.Place.{Place}
use Rattle.kn_server_node.specs.declared.node.Node.{Node}
use Rattle.kn_server_node.specs.Ends.{on_carrier, accepted}
use Rattle.kn_server_node.specs.Nodes.{event}
use Rattle.kn_server_node.specs.Callers.{has_no_link, has_no_front, place_of, answer_fields, link_up, front_up, refused_call, over_limit, service_in, call_for, call_came, is_other, for_agents_in, opened_by, counts}
use Rattle.kn_server_node.specs.CoreEvents.{up_events, came_events, opened_events}
use Rattle.kn_server_node.specs.FrontRooms.{waiting_on, NoneStandsOn, AreInTime}
use Rattle.kn_server_courses.specs.Courses.{service_finds, came_finds, opened_finds}
use Rattle.kn_server_courses.proofs.FrontBaseLemmas.{each_at, KnowsStreams, Known, IsNew, known_next, opened_new}
use Rattle.kn_server_courses.proofs.CalmLemmas.{on_carrier_calm, finish_quiet, closed_calm, reset_noisy, accepted_noisy}
use Rattle.kn_server_courses.proofs.FrontRunLemmas.{Base, BaseOf, Inv, calm_inv, noisy_inv, event_inv}
use Rattle.kn_server_courses.proofs.PlacedLemmas.{each_inserted, link_base, front_base, front_room}

-- ---- an event that comes in time

pub record Ready (node : Node) (e : ServerEvent) : Type 0 where
  pub inv : Inv node
  pub in_time : AreInTime node e
  pub short : IsShort e

-- what a step leads to, with its events as they find the node
pub record Sound (after found : Node) (es : List ServerEvent) : Type 0 where
  pub inv : Inv after
  pub rings : (e : ServerEvent) → es ≡ e ∷ [] → (after ≡ event e found) × Ready found e

pub ready_inv : (node : Node) (e : ServerEvent) → Ready node e → Inv (event e node)
ready_inv node e r = event_inv closed_calm e node r.short r.in_time r.inv

pub sound_none : (after found : Node) → Inv after → Sound after found []
sound_none after found i = record { inv = i; rings = λ e is. absurd cc }

first_same : (e f : ServerEvent) → (e ∷ []) ≡ (f ∷ []) → e ≡ f
first_same e f is = cc

pub sound_event : (found : Node) (e : ServerEvent) → Ready found e → Sound (event e found) found (e ∷ [])
sound_event found e r = record {
  inv = ready_inv found e r;
  rings = λ f is. let same : e ≡ f = first_same e f is in (ap (λ g. event g found) same, subst (λ g. Ready found g) same r);
}

sound_if : (b : Bool) (x y found : Node) (es : List ServerEvent) → Sound x found [] → Sound y found es → Sound (cond b x y) found (cond b [] es)
sound_if true x y found es p q = p
sound_if false x y found es p q = q

-- ---- a call that comes

-- the service of a call is that of its path
by_identifiers : (r : Result (List (IdKind × List ℕ)) IdFault) (id : List ℕ) (call : Call) → agent_by r id ≡ Ok call → call.service ≡ Agent
by_identifiers (Ok identifiers) id call is = by_id (is_id id) is
  where
    by_id : (b : Bool) → cond b (Ok (call_of Agent id identifiers)) (Err Identifiers) ≡ Ok call → call.service ≡ Agent
    by_id true e = let m : call_of Agent id identifiers ≡ call = cc in ap (λ (c : Call). c.service) (sym m)
    by_id false e = absurd cc
by_identifiers (Err fault) id call is = absurd cc

service_by : (k : Service) (fields : List Field) (call : Call) → calls.call_for k fields ≡ Ok call → call.service ≡ k
unfolding agent_call
service_by Proxy fields call is = let m : call_of Proxy [] [] ≡ call = cc in ap (λ (c : Call). c.service) (sym m)
service_by Agent fields call is = by_text (is_utf8 (value_in (codes "agentidentifiers") fields)) is
  where
    by_text : (b : Bool) → cond b (agent_by (identifiers_in (value_in (codes "agentidentifiers") fields)) (value_in (codes "agentid") fields)) (Err Identifiers) ≡ Ok call → call.service ≡ Agent
    by_text true e = by_identifiers (identifiers_in (value_in (codes "agentidentifiers") fields)) (value_in (codes "agentid") fields) call e
    by_text false e = absurd cc

at_service : (o : Option Service) (fields : List Field) (call : Call) → call_at o fields ≡ Ok call → o ≡ Some call.service
at_service None fields call is = absurd cc
at_service (Some k) fields call is = by_type (starts_with nat_eq (value_in (codes "content-type") fields) (codes "application/grpc")) is
  where
    by_type : (b : Bool) → cond b (calls.call_for k fields) (Err ContentType) ≡ Ok call → Some k ≡ Some call.service
    by_type true e = ap Some (sym (service_by k fields call e))
    by_type false e = absurd cc

in_service : (fields : List Field) (call : Call) → call_in fields ≡ Ok call → service_in_path fields ≡ Some call.service
unfolding call_in service_in_path
in_service fields call is = by_method (bytes_eq (value_in (codes ":method") fields) (codes "POST")) is
  where
    by_method : (b : Bool) → cond b (call_at (service_of (value_in (codes ":path") fields)) fields) (Err NotPost) ≡ Ok call → cond b (service_of (value_in (codes ":path") fields)) None ≡ Some call.service
    by_method true e = at_service (service_of (value_in (codes ":path") fields)) fields call e
    by_method false e = absurd cc

-- on a connection for agents a call is an agent's, on one for clients a client's
abbrev service_for : Bool → Service
service_for true = Agent
service_for false = Proxy

own_service : (k : Bool) (s : Service) → is_other k (Some s) ≡ false → s ≡ service_for k
own_service true Agent is = refl
own_service true Proxy is = absurd cc
own_service false Agent is = absurd cc
own_service false Proxy is = refl

pub came_service : (k : Bool) (fields : List Field) (call : Call) → call_for k fields ≡ Ok call → call.service ≡ service_for k
unfolding call_for
came_service k fields call is = by_other (is_other k (service_in_path fields)) refl is
  where
    by_other : (b : Bool) → is_other k (service_in_path fields) ≡ b → cond b (Err Path) (call_in fields) ≡ Ok call → call.service ≡ service_for k
    by_other true o e = absurd cc
    by_other false o e = own_service k call.service (subst (λ p. is_other k p ≡ false) (in_service fields call e) o)

-- ---- a stream that is new on its connection

-- the connection has a number that was given
within_top : (node : Node) (conn : ℕ) (e : End) → at node.ends conn ≡ Some e → BaseOf node → conn ≤ node.top
within_top node conn e found b = by_top (ltb node.top conn) refl
  where
    by_top : (t : Bool) → ltb node.top conn ≡ t → conn ≤ node.top
    by_top true above = let gone = b.ends_within conn (ltb-true node.top conn above) in absurd cc
    by_top false above = ltb-false node.top conn above

-- what a stream that was told as opened finds
pub record Fresh (node : Node) (conn s : ℕ) (k : Bool) (carrier : Carrier) : Type 0 where
  pub inv : Inv node
  pub there : at node.ends conn ≡ Some (Streams k carrier)
  pub new : IsNew conn s node.fronts.items node.links.items node.told carrier.conn.state
  pub agents : k ≡ true → NoneStandsOn conn node.fronts.items
  pub clients : k ≡ false → NoneStandsOn conn node.links.items

link_ready : (node : Node) (conn s : ℕ) (carrier : Carrier) (identifiers : List (IdKind × List ℕ)) → Fresh node conn s true carrier → Ready (service_finds conn s Agent node) (LinkUp (node.core.links.top + 1) identifiers)
link_ready node conn s carrier identifiers f = record { inv = told; in_time = λ front is. absurd cc; short = tt }
  where
    link : ℕ
    link = node.core.links.top + 1

    place : Place
    place = place_of conn s

    own : Known conn node.fronts.items (inserted node.links link place).items node.told (at node.ends conn)
    own = subst (λ o. Known conn node.fronts.items (inserted node.links link place).items node.told o) (sym f.there) (record {
      heard = s;
      knows = record {
        quiet = f.new.after.quiet;
        numbers = f.new.after.numbers;
        pending = f.new.after.pending;
        clean = f.new.after.clean;
        fronts = f.new.after.fronts;
        links = each_inserted (λ (p : Place). p.conn ≡ conn → p.stream ≤ s) node.links link place (λ is. omega arith) f.new.after.links;
      };
      agents = f.agents;
      clients = λ is. absurd cc;
    })

    placed : Node
    placed = record node { links = inserted node.links link place; past_links = filter (counts node.ends) node.past_links }

    base : BaseOf placed
    base = link_base node.ends node.top node.links node.fronts node.told link place f.inv.0 (within_top node conn (Streams true carrier) f.there f.inv.0) (f.agents refl) own

    told : Inv (service_finds conn s Agent node)
    told = noisy_inv placed conn (accepted s (who.Link link) (answer_fields placed Agent)) (accepted_noisy s (who.Link link) (answer_fields placed Agent)) (base, f.inv.1)

front_ready : (node : Node) (conn s : ℕ) (carrier : Carrier) → Fresh node conn s false carrier → Ready (service_finds conn s Proxy node) (FrontUp (node.core.fronts.top + 1))
front_ready node conn s carrier f = record { inv = told; in_time = λ front is. absurd cc; short = tt }
  where
    front : ℕ
    front = node.core.fronts.top + 1

    place : Place
    place = place_of conn s

    own : Known conn (inserted node.fronts front place).items node.links.items node.told (at node.ends conn)
    own = subst (λ o. Known conn (inserted node.fronts front place).items node.links.items node.told o) (sym f.there) (record {
      heard = s;
      knows = record {
        quiet = f.new.after.quiet;
        numbers = f.new.after.numbers;
        pending = f.new.after.pending;
        clean = f.new.after.clean;
        fronts = each_inserted (λ (p : Place). p.conn ≡ conn → p.stream ≤ s) node.fronts front place (λ is. omega arith) f.new.after.fronts;
        links = f.new.after.links;
      };
      agents = λ is. absurd cc;
      clients = f.clients;
    })

    placed : Node
    placed = record node { fronts = inserted node.fronts front place; past_fronts = filter (counts node.ends) node.past_fronts }

    free : (g : ℕ) (q : Place) → at node.fronts g ≡ Some q → q.conn ≡ conn → q.stream ≡ s → ⊥
    free g q found on at_stream =
        let le : q.stream ≤ f.new.before = each_at (λ (p : Place). p.conn ≡ conn → p.stream ≤ f.new.before) node.fronts.items _ q f.new.fronts found on in
        let lt = f.new.below in
        omega (arith, le, lt, at_stream)

    clean : waiting_on (at node.ends conn) s ≤ 0
    clean = subst (λ o. waiting_on o s ≤ 0) (sym f.there) (short_at s 0 carrier.conn.state.streams f.new.clean)

    base : BaseOf placed
    base = front_base node.ends node.top node.links node.fronts node.told front place f.inv.0 (within_top node conn (Streams false carrier) f.there f.inv.0) (f.clients refl) free own

    told : Inv (service_finds conn s Proxy node)
    told = noisy_inv placed conn (accepted s (who.Front front) (answer_fields placed Proxy)) (accepted_noisy s (who.Front front) (answer_fields placed Proxy)) (base, front_room node.core node.ends node.fronts front place f.inv.0.fronts clean f.inv.1)

over_inv : (node : Node) (conn s : ℕ) → Inv node → Inv (over_limit conn s node)
unfolding over_limit
over_inv node conn s i = noisy_inv node conn (reset_stream s 7) (reset_noisy s 7) i

refused_inv : (node : Node) (conn s : ℕ) (fault : CallFault) → Inv node → Inv (refused_call conn s fault node)
unfolding refused_call
refused_inv node conn s fault i = calm_inv node conn (on_carrier (finish_stream s (refusal_fields fault))) (on_carrier_calm (finish_stream s (refusal_fields fault)) (finish_quiet s (refusal_fields fault))) i

link_sound : (node : Node) (conn s : ℕ) (carrier : Carrier) (identifiers : List (IdKind × List ℕ)) → Fresh node conn s true carrier → Sound (link_up conn s identifiers node) (service_finds conn s Agent node) (LinkUp (node.core.links.top + 1) identifiers ∷ [])
unfolding link_up
link_sound node conn s carrier identifiers f = sound_event (service_finds conn s Agent node) (LinkUp (node.core.links.top + 1) identifiers) (link_ready node conn s carrier identifiers f)

front_sound : (node : Node) (conn s : ℕ) (carrier : Carrier) → Fresh node conn s false carrier → Sound (front_up conn s node) (service_finds conn s Proxy node) (FrontUp (node.core.fronts.top + 1) ∷ [])
unfolding front_up
front_sound node conn s carrier f = sound_event (service_finds conn s Proxy node) (FrontUp (node.core.fronts.top + 1)) (front_ready node conn s carrier f)

service_sound : (node : Node) (conn s : ℕ) (k : Bool) (carrier : Carrier) (identifiers : List (IdKind × List ℕ)) → Fresh node conn s k carrier
    → Sound (service_in conn s (service_for k) identifiers node) (service_finds conn s (service_for k) node) (up_events node (service_for k) identifiers)
service_sound node conn s true carrier identifiers f =
    sound_if (has_no_link node) (over_limit conn s node) (link_up conn s identifiers node) (service_finds conn s Agent node) (LinkUp (node.core.links.top + 1) identifiers ∷ []) (sound_none (over_limit conn s node) (service_finds conn s Agent node) (over_inv node conn s f.inv))
    (link_sound node conn s carrier identifiers f)
service_sound node conn s false carrier identifiers f =
    sound_if (has_no_front node) (over_limit conn s node) (front_up conn s node) (service_finds conn s Proxy node) (FrontUp (node.core.fronts.top + 1) ∷ []) (sound_none (over_limit conn s node) (service_finds conn s Proxy node) (over_inv node conn s f.inv))
    (front_sound node conn s carrier f)

came_sound : (node : Node) (conn s : ℕ) (k : Bool) (carrier : Carrier) (r : Result Call CallFault) → ((call : Call) → r ≡ Ok call → call.service ≡ service_for k) → Fresh node conn s k carrier
    → Sound (call_came conn s r node) (came_finds conn s r node) (came_events node r)
came_sound node conn s k carrier (Ok call) own f =
    subst (λ v. Sound (service_in conn s v call.identifiers node) (service_finds conn s v node) (up_events node v call.identifiers)) (sym (own call refl)) (service_sound node conn s k carrier call.identifiers f)
came_sound node conn s k carrier (Err fault) own f = sound_none (refused_call conn s fault node) node (refused_inv node conn s fault f.inv)

-- ---- what was told is heard

pub next_base : (ends : Members End) (top : ℕ) (links fronts : Members Place) (x : Heard) (told : List Heard) → Base ends top links fronts (x ∷ told) → Base ends top links fronts told
next_base ends top links fronts x told b = record {
  ends = b.ends;
  fronts = b.fronts;
  ends_within = b.ends_within;
  fronts_within = b.fronts_within;
  links_within = b.links_within;
  told_within = b.told_within.1;
  known = λ c. known_next c fronts.items links.items x told (at ends c) (b.known c);
  elsewhere = b.elsewhere;
  apart = b.apart;
}

abbrev pub BaseWith : Node → ℕ → H2Event → Type 0
BaseWith node conn e = Base node.ends node.top node.links node.fronts (record { conn = conn; event = e } ∷ node.told)

opened_sound : (node : Node) (conn s : ℕ) (fields : List Field) (o : Option End) → at node.ends conn ≡ o → BaseWith node conn (events.Opened s fields) → Inv node
    → Sound (opened_by (for_agents_in o) conn s fields node) (opened_finds (for_agents_in o) conn s fields node) (opened_events node (for_agents_in o) fields)
opened_sound node conn s fields None found b i = sound_none node node i
opened_sound node conn s fields (Some (Connect d)) found b i = sound_none node node i
opened_sound node conn s fields (Some (Streams k carrier)) found b i =
    let known : KnowsStreams conn node.fronts.items node.links.items (record { conn = conn; event = events.Opened s fields } ∷ node.told) k carrier.conn.state =
    subst (λ o. Known conn node.fronts.items node.links.items (record { conn = conn; event = events.Opened s fields } ∷ node.told) o) found (b.known conn) in
    came_sound node conn s k carrier (call_for k fields) (λ call is. came_service k fields call is) (record {
      inv = i;
      there = found;
      new = opened_new conn known.heard s fields node.fronts.items node.links.items node.told carrier.conn.state known.knows;
      agents = known.agents;
      clients = known.clients;
    })

pub heard_opened : (node : Node) (conn s : ℕ) (fields : List Field) → BaseWith node conn (events.Opened s fields) → Inv node
    → Sound (opened_by (for_agents_in (at node.ends conn)) conn s fields node) (opened_finds (for_agents_in (at node.ends conn)) conn s fields node) (opened_events node (for_agents_in (at node.ends conn)) fields)
heard_opened node conn s fields b i = opened_sound node conn s fields (at node.ends conn) refl b i
