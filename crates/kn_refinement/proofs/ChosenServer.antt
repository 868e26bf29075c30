-- A step of the server keeps the facts on choices: it notes the choice that it comes to, and makes the dial that this asks for.
use Rattle.std.proofs.Common.{◌≡◌, ◌==◌, ◌++◌, ◌⊎◌, inl, inr, ℕ, ℤ, suc, pos, Bool, true, false, cond, nat_lt, List, [], ◌∷◌, length, map, filter, Option, None, Some, Result, Ok, Err, is_some, refl, sym, ap, ◌∙◌, subst, eqb-true, codes}
use Rattle.std.specs.Prelude.{bytes_eq}
use Rattle.kn_packet.specs.declared.packet.Packet.{Packet}
use Rattle.kn_packet.specs.declared.packet.Packet.TheVariants.{CloseReq, CloseRsp, Data, DialCls, DialReq, DialRsp, Drain, Other}
use Rattle.kn_route.specs.Choice.{pick}
use Rattle.kn_route.specs.Hosts.{host_in}
use Rattle.kn_route.specs.LinkLists.{LinkList, drained, has_link, is_link}
use Rattle.kn_route.specs.declared.host.HostFault.{HostFault}
use Rattle.kn_route.specs.declared.link.Link.{Link}
use Rattle.kn_route.specs.declared.strategy.Strategy.{Strategy}
use Rattle.kn_tables.specs.Lists.{first_where}
use Rattle.kn_tables.specs.Awaiting.{is_random}
use Rattle.kn_tables.specs.Holding.{is_held}
use Rattle.kn_tables.specs.declared.awaited_entry.AwaitedEntry.{AwaitedEntry}
use Rattle.kn_tables.specs.declared.held_entry.HeldEntry.{HeldEntry}
use Rattle.kn_tables.specs.declared.held_entry.HeldState.{HeldState}
use Rattle.kn_tables.specs.declared.held_entry.HeldState.TheVariants.{Closing, Open}
use Rattle.kn_server_core.specs.Choices.{choice_asked, choice_at, choice_by_host, choice_of, link_of}
use Rattle.kn_server_core.specs.FrontLists.{is_up}
use Rattle.kn_server_core.specs.Isolation.{ChangesOnlyFront, Each, IsOfFront, IsOrderly}
use Rattle.kn_server_core.specs.Packets.{refusal}
use Rattle.kn_server_core.specs.Server as core
use Rattle.kn_server_core.specs.Steps.{Step}
use Rattle.kn_server_core.specs.declared.choice.Choice.{Choice}
use Rattle.kn_server_core.specs.declared.event.ServerEvent.{ServerEvent}
use Rattle.kn_server_core.specs.declared.event.ServerEvent.TheVariants.{FrontLost, FrontPacket, FrontUp, LinkLost, LinkPacket, LinkUp}
use Rattle.kn_server_core.specs.declared.event.ServerOut.{ServerOut}
use Rattle.kn_server_core.specs.declared.event.ServerOut.TheVariants as out
use Rattle.kn_server_core.specs.declared.state.State.{State as ServerState}
use Rattle.kn_server_core.proofs.EntryLemmas.{each_kept}
use Rattle.kn_server_core.proofs.FrontIsolation.{front_changes}
use Rattle.kn_server_core.proofs.LinkIsolation.{link_changes}
use Rattle.kn_server_core.proofs.OrderLemmas.{each_mapped}
use Rattle.kn_server_core.proofs.ReachedLemmas.{orderly_kept}
use Rattle.kn_packets.proofs.AgentKept.{each_as, each_more}
use Rattle.kn_world.specs.declared.parts.AppChoice.{AppChoice}
use Rattle.kn_world.specs.declared.parts.Dial.{Dial}
use Rattle.kn_world.specs.declared.parts.Owner.{Owner}
use Rattle.kn_world.specs.declared.parts.Owner.TheVariants as owner
use Rattle.kn_world.specs.declared.state.State.{State}
use Rattle.kn_world.specs.Agents as agent
use Rattle.kn_world.specs.Numbers.{nth}
use Rattle.kn_world.specs.ServerSteps.{choices_with, gives, gives_all, made, step, stepped, to_owner}
use Rattle.kn_world.specs.States.{new_dial}
use Rattle.kn_refinement.specs.Chosen.{ChoicesHold, Chosen, HasChoice, Identifiers, IsDialled, IsOfAgent, IsPicked, MadeFor, last_number, made_for}
use Rattle.kn_refinement.proofs.ChosenParts.{agents_changed, has_choice_still, in_last, links_back, links_named, still_dialled}
use Rattle.kn_refinement.proofs.FitsServer.{plus_one}
use Rattle.kn_refinement.proofs.NumberLemmas.{length_more}
use Rattle.kn_refinement.proofs.Pairs.{came_last, came_or_was, some_is}
use Rattle.kn_refinement.proofs.ServerDials.{IsNoDial}
use Rattle.kn_refinement.proofs.ServerRules.{IsCalm, IsRuled, ruled}

-- ---- what a request comes to, and the choice that it comes to
abbrev pub says_no_agent : List ℕ → Bool
says_no_agent text = bytes_eq text (codes "no agent available")

pub data Agrees (s : ServerState) (c : Option Choice) (r : Result ℕ (List ℕ)) : Type 0 where
  Sent : (link : ℕ) (host : List ℕ) → r ≡ Ok link → c ≡ Some (choice_of s host) → (choice_of s host).answer ≡ Some link → Agrees s c r
  Earlier : (text : List ℕ) → r ≡ Err text → says_no_agent text ≡ false → c ≡ None → Agrees s c r
  NoAgent : (host : List ℕ) → r ≡ Err (codes "no agent available") → c ≡ Some (choice_of s host) → (choice_of s host).answer ≡ None → Agrees s c r
  UsedUp : (link : ℕ) (host : List ℕ) → r ≡ Err (codes "dial numbers used up") → c ≡ Some (choice_of s host) → (choice_of s host).answer ≡ Some link → s.next_dial ≡ last_number → Agrees s c r

module _ (s : ServerState) (front : ℕ) where
  number_agrees : (host : List ℕ) (o : Option (Strategy × ℕ)) → pick s.strategies s.links.links host s.next_dial ≡ o → Agrees s (Some (choice_of s host)) (core.number_choice s o)
  number_agrees host None e = NoAgent host refl refl (ap link_of e)
  number_agrees host (Some picked) e = here (s.next_dial == last_number) refl
    where
      here : (b : Bool) → (s.next_dial == last_number) ≡ b → Agrees s (Some (choice_of s host)) (cond b (Err (codes "dial numbers used up")) (Ok picked.1))
      here true last = UsedUp picked.1 host refl refl (ap link_of e) (eqb-true s.next_dial last_number last)
      here false few = Sent picked.1 host refl refl (ap link_of e)

  host_agrees : (h : Result (List ℕ) HostFault) → Agrees s (choice_by_host s front h) (core.host_choice s front h)
  host_agrees (Err fault) = Earlier (codes "bad address") refl refl refl
  host_agrees (Ok host) = here (nat_lt (core.tunnels_of s front) 600)
    where
      here : (b : Bool) → Agrees s (cond b (Some (choice_of s host)) None) (cond b (core.number_choice s (pick s.strategies s.links.links host s.next_dial)) (Err (codes "too many tunnels")))
      here true = number_agrees host (pick s.strategies s.links.links host s.next_dial) refl
      here false = Earlier (codes "too many tunnels") refl refl refl

  pub request_agrees : (protocol address : List ℕ) (random : ℤ) → Agrees s (choice_asked s front protocol address random) (core.dial_choice s front protocol address random)
  request_agrees protocol address random = awaited (is_some (first_where (is_random front random) s.awaited))
    where
      tcp : (b : Bool) → Agrees s (cond b (choice_by_host s front (host_in address)) None) (cond b (core.host_choice s front (host_in address)) (Err (codes "unsupported protocol")))
      tcp true = host_agrees (host_in address)
      tcp false = Earlier (codes "unsupported protocol") refl refl refl

      awaited : (b : Bool) → Agrees s (cond b None (cond (core.is_tcp protocol) (choice_by_host s front (host_in address)) None))
          (cond b (Err (codes "dial already awaited")) (cond (core.is_tcp protocol) (core.host_choice s front (host_in address)) (Err (codes "unsupported protocol"))))
      awaited true = Earlier (codes "dial already awaited") refl refl refl
      awaited false = tcp (core.is_tcp protocol)

-- ---- the links after an event are those of agents
module _ (agents : List Identifiers) where
  abbrev Known : ServerState → Type 0
  Known s = Each (IsOfAgent agents) s.links.links

  fewer_known : (p : Link → Bool) (ls : List Link) → Each (IsOfAgent agents) ls → Each (IsOfAgent agents) (filter p ls)
  fewer_known p ls h = each_as (λ l. (p l ≡ true) × IsOfAgent agents l) (IsOfAgent agents) (λ l k. k.1) (filter p ls) (each_kept (IsOfAgent agents) p ls h)

  drained_known : (link : ℕ) (ls : List Link) → Each (IsOfAgent agents) ls → Each (IsOfAgent agents) (map (drained link) ls)
  drained_known link ls h = each_mapped (IsOfAgent agents) (IsOfAgent agents) (drained link) ls one h
    where
      one : (l : Link) → IsOfAgent agents l → IsOfAgent agents (drained link l)
      one l k = here (is_link link l)
        where
          here : (b : Bool) → IsOfAgent agents (cond b (record l { draining = true }) l)
          here true = k
          here false = k

  lost_known : (s : ServerState) (link : ℕ) → Known s → Known (core.link_lost s link).state
  lost_known s link h = fewer_known _ s.links.links h

  awaited_known : (s : ServerState) (link : ℕ) (connect_id : ℤ) (o : Option AwaitedEntry) → Known s → Known (core.awaited_reply s link connect_id o).state
  awaited_known s link connect_id None h = h
  awaited_known s link connect_id (Some e) h = h

  refused_known : (s : ServerState) (error : List ℕ) (o : Option AwaitedEntry) → Known s → Known (core.refused_reply s error o).state
  refused_known s error None h = h
  refused_known s error (Some e) h = h

  entry_known : (s : ServerState) (link : ℕ) (connect_id random : ℤ) (o : Option HeldEntry) → Known s → Known (core.reply_by_entry s link connect_id random o).state
  entry_known s link connect_id random None h = awaited_known s link connect_id (core.of_link link (core.dial_at random s.awaited)) h
  entry_known s link connect_id random (Some e) h = lost_known s link h

  reply_known : (s : ServerState) (link : ℕ) (error : List ℕ) (connect_id random : ℤ) → Known s → Known (core.reply s link error connect_id random).state
  reply_known s link [] connect_id random h = entry_known s link connect_id random (first_where (is_held link connect_id) s.held) h
  reply_known s link (x ∷ xs) connect_id random h = refused_known s (x ∷ xs) (core.of_link link (core.dial_at random s.awaited)) h

  data_known : (s : ServerState) (bytes : List ℕ) (o : Option HeldEntry) → Known s → Known (core.data_down s bytes o).state
  data_known s bytes None h = h
  data_known s bytes (Some e) h = here e.state e.front
    where
      here : (state : HeldState) (front : Option ℕ) → Known (core.open_down s bytes state front e.dial).state
      here Open None = h
      here Open (Some front) = h
      here Closing front = h

  ended_known : (s : ServerState) (link : ℕ) (connect_id : ℤ) (error : List ℕ) (o : Option HeldEntry) → Known s → Known (core.tunnel_ended s link connect_id error o).state
  ended_known s link connect_id error None h = h
  ended_known s link connect_id error (Some e) h = h

  packet_known : (s : ServerState) (link : ℕ) (p : Packet) → Known s → Known (core.from_link s link p).state
  packet_known s link (DialRsp error connect_id random) h = reply_known s link error connect_id random h
  packet_known s link (Data connect_id error bytes) h = data_known s bytes (first_where (is_held link connect_id) s.held) h
  packet_known s link (CloseRsp error connect_id) h = ended_known s link connect_id error (first_where (is_held link connect_id) s.held) h
  packet_known s link Drain h = drained_known link s.links.links h
  packet_known s link (DialReq protocol address random) h = h
  packet_known s link (CloseReq connect_id) h = h
  packet_known s link (DialCls random) h = h
  packet_known s link (Other number) h = h

  pub link_packet_known : (s : ServerState) (link : ℕ) (p : Packet) → Known s → Known (core.step s (LinkPacket link p)).state
  link_packet_known s link p h = here (has_link link s.links)
    where
      here : (b : Bool) → Known (cond b (core.from_link s link p) (core.ignored s)).state
      here true = packet_known s link p h
      here false = h

  pub link_lost_known : (s : ServerState) (link : ℕ) → Known s → Known (core.step s (LinkLost link)).state
  link_lost_known s link h = here (has_link link s.links)
    where
      here : (b : Bool) → Known (cond b (core.link_lost s link) (core.ignored s)).state
      here true = lost_known s link h
      here false = h

-- ---- events that ask for no dial, and bring no link
abbrev pub AsksNothing : ServerEvent → Type 0
AsksNothing (FrontPacket front (DialReq protocol address random)) = ⊥
AsksNothing (FrontPacket front (DialRsp error connect_id random)) = Unit {0}
AsksNothing (FrontPacket front (Data connect_id error bytes)) = Unit {0}
AsksNothing (FrontPacket front (CloseReq connect_id)) = Unit {0}
AsksNothing (FrontPacket front (CloseRsp error connect_id)) = Unit {0}
AsksNothing (FrontPacket front (DialCls random)) = Unit {0}
AsksNothing (FrontPacket front Drain) = Unit {0}
AsksNothing (FrontPacket front (Other number)) = Unit {0}
AsksNothing (FrontUp front) = Unit {0}
AsksNothing (FrontLost front) = Unit {0}
AsksNothing (LinkUp link identifiers) = Unit {0}
AsksNothing (LinkPacket link p) = Unit {0}
AsksNothing (LinkLost link) = Unit {0}

abbrev pub BringsNoLink : ServerEvent → Type 0
BringsNoLink (LinkUp link identifiers) = ⊥
BringsNoLink (LinkPacket link p) = Unit {0}
BringsNoLink (LinkLost link) = Unit {0}
BringsNoLink (FrontUp front) = Unit {0}
BringsNoLink (FrontPacket front p) = Unit {0}
BringsNoLink (FrontLost front) = Unit {0}

pub calm_of : (s : ServerState) (event : ServerEvent) → IsOrderly s → AsksNothing event → IsCalm s (core.step s event)
calm_of s event orderly none = here (ruled s event orderly)
  where
    here : IsRuled s event (core.step s event) → IsCalm s (core.step s event)
    here (inl calm) = calm
    here (inr drawn) = absurd (subst AsksNothing drawn.event_is none)

none_either : (b : Bool) → ◌≡◌ {A = Option Choice} (cond b None None) None
none_either true = refl
none_either false = refl

pub none_chosen : (s : ServerState) (event : ServerEvent) → AsksNothing event → choice_at s event ≡ None
none_chosen s (FrontPacket front (DialReq protocol address random)) h = absurd h
none_chosen s (FrontPacket front (DialRsp error connect_id random)) h = none_either (is_up front s.fronts)
none_chosen s (FrontPacket front (Data connect_id error bytes)) h = none_either (is_up front s.fronts)
none_chosen s (FrontPacket front (CloseReq connect_id)) h = none_either (is_up front s.fronts)
none_chosen s (FrontPacket front (CloseRsp error connect_id)) h = none_either (is_up front s.fronts)
none_chosen s (FrontPacket front (DialCls random)) h = none_either (is_up front s.fronts)
none_chosen s (FrontPacket front Drain) h = none_either (is_up front s.fronts)
none_chosen s (FrontPacket front (Other number)) h = none_either (is_up front s.fronts)
none_chosen s (FrontUp front) h = refl
none_chosen s (FrontLost front) h = refl
none_chosen s (LinkUp link identifiers) h = refl
none_chosen s (LinkPacket link p) h = refl
none_chosen s (LinkLost link) h = refl

-- ---- a step
module _ (strategies : List Strategy) (agents : List Identifiers) where
  abbrev Holds : State → Type 0
  Holds s = ChoicesHold strategies agents s

  owner_holds : (o : Option Owner) (p : Packet) (s : State) → Holds s → Holds (to_owner o p s)
  owner_holds None p s h = h
  owner_holds (Some (owner.Client c)) p s h = h
  owner_holds (Some (owner.App k)) p s h = h

  pub given_holds : (o : ServerOut) (app : ℕ) (s : State) → IsNoDial o → Holds s → Holds (gives o app s)
  given_holds (out.ToLink link p) app s n h = agents_changed strategies agents (agent.queued_down p) link s h
  given_holds (out.ToFront front p) app s n h = owner_holds (nth front s.fronts) p s h
  given_holds (out.CutLink link) app s n h = agents_changed strategies agents agent.cut_off link s h
  given_holds (out.Made dial link front) app s n h = absurd n

  pub all_hold : (os : List ServerOut) (app : ℕ) (s : State) → Each IsNoDial os → Holds s → Holds (gives_all os app s)
  all_hold [] app s n h = h
  all_hold (o ∷ os) app s n h = all_hold os app (gives o app s) n.1 (given_holds o app s n.0 h)

  -- one that asks for nothing
  module _ (s : State) (h : Holds s) where
    server_keeps : (event : ServerEvent) (t : ServerState) → t ≡ (core.step s.server event).state → t.strategies ≡ s.server.strategies → t.next_dial ≡ s.server.next_dial → Each (IsOfAgent agents) t.links.links
        → Chosen strategies agents (length s.agents) t s.choices (map made_for s.dials)
    server_keeps event t is same next links = record {
      strategies_same = same ∙ h.strategies_same;
      agents_counted = h.agents_counted;
      links = links;
      orderly = subst IsOrderly (sym is) (orderly_kept s.server event h.orderly);
      next_dial = next ∙ h.next_dial;
      picked = h.picked;
      chosen = h.chosen;
      dialled = h.dialled;
    }

    calm_holds : (app : ℕ) (event : ServerEvent) → AsksNothing event → (core.step s.server event).state.strategies ≡ s.server.strategies → Each (IsOfAgent agents) (core.step s.server event).state.links.links → Holds (step app event s)
    calm_holds app event none same links =
        let calm : IsCalm s.server (core.step s.server event) = calm_of s.server event h.orderly none in
        all_hold (core.step s.server event).outs app (stepped app event s) calm.outs.undrawn
        (subst (λ c. Chosen strategies agents (length s.agents) (core.step s.server event).state (choices_with c app s.choices) (map made_for s.dials)) (sym (none_chosen s.server event none))
        (server_keeps event (core.step s.server event).state refl same calm.next links))

    of_front : (app front : ℕ) (event : ServerEvent) → IsOfFront front event → AsksNothing event → Holds (step app event s)
    of_front app front event its none =
        let changes : ChangesOnlyFront front s.server (core.step s.server event).state = front_changes s.server event front h.orderly its in
        calm_holds app event none changes.strategies (subst (λ (l : LinkList). Each (IsOfAgent agents) l.links) (sym changes.links) h.links)

  -- a request for a dial: the choice that it comes to is noted
  module _ (s : State) (h : Holds s) (app front : ℕ) (protocol address : List ℕ) (random : ℤ) where
    abbrev After : Step → Option Choice → State
    After t c = gives_all t.outs app (record s { server = t.state; choices = choices_with c app s.choices })

    abbrev chosen_step : Result ℕ (List ℕ) → Step
    chosen_step r = core.dial_chosen s.server front protocol address random r

    -- the choice for a host, and the app that asked
    abbrev its : List ℕ → AppChoice
    its host = record { app = app; choice = choice_of s.server host }

    is_picked : (host : List ℕ) → IsPicked strategies agents (choice_of s.server host)
    is_picked host = record {
      agents_named = links_named agents s.server.links.links h.links;
      answer = ap (λ xs. link_of (pick xs s.server.links.links host s.server.next_dial)) h.strategies_same
          ∙ ap (λ ls. link_of (pick strategies ls host s.server.next_dial)) (sym (links_back agents s.server.links.links h.links));
    }

    -- one without a dial
    refused : (host text : List ℕ) → IsDialled (map made_for s.dials) (its host) → Holds (After (chosen_step (Err text)) (Some (choice_of s.server host)))
    refused host text none = given_holds (refusal front random text) app (record s { choices = s.choices ++ its host ∷ [] }) tt (record {
      strategies_same = h.strategies_same;
      agents_counted = h.agents_counted;
      links = h.links;
      orderly = h.orderly;
      next_dial = h.next_dial;
      picked = each_more (λ (c : AppChoice). IsPicked strategies agents c.choice) s.choices (its host) h.picked (is_picked host);
      chosen = λ d x at. has_choice_still s.choices (its host) d x (h.chosen d x at);
      dialled = each_more (IsDialled (map made_for s.dials)) s.choices (its host) h.dialled none;
    })

    -- one with its dial
    sent : (host : List ℕ) (link : ℕ) → (choice_of s.server host).answer ≡ Some link → IsOrderly (chosen_step (Ok link)).state → Holds (After (chosen_step (Ok link)) (Some (choice_of s.server host)))
    sent host link answer orderly =
        agents_changed strategies agents (agent.queued_down (DialReq protocol address (pos s.server.next_dial))) link
        (made s.server.next_dial link app (record s { server = (chosen_step (Ok link)).state; choices = s.choices ++ its host ∷ [] })) (subst (λ ds. Chosen strategies agents (length s.agents) (chosen_step (Ok link)).state (s.choices ++ its host ∷ []) ds) (sym (made_more s.dials)) with_dial)
      where
        dials : List MadeFor
        dials = map made_for s.dials

        made_more : (ds : List Dial) → map made_for (ds ++ new_dial link app ∷ []) ≡ map made_for ds ++ (link, app) ∷ []
        made_more [] = refl
        made_more (d ∷ ds) = ap (λ ms. made_for d ∷ ms) (made_more ds)

        by_number : (d : ℕ) (x : MadeFor) → ((d ≡ suc (length dials)) × (x ≡ (link, app))) ⊎ (nth d dials ≡ Some x) → HasChoice (s.choices ++ its host ∷ []) d x
        by_number d x (inl new) = (its host, in_last (its host) s.choices, (h.next_dial ∙ sym new.0, answer ∙ ap (λ (m : MadeFor). Some m.0) (sym new.1), ap (λ (m : MadeFor). m.1) (sym new.1)))
        by_number d x (inr at) = has_choice_still s.choices (its host) d x (h.chosen d x at)

        its_dial : IsDialled (dials ++ (link, app) ∷ []) (its host)
        its_dial other e few = ap (λ n. nth n (dials ++ (link, app) ∷ [])) h.next_dial ∙ came_last dials (link, app) ∙ ap (λ l. Some (l, app)) (some_is (sym answer ∙ e))

        with_dial : Chosen strategies agents (length s.agents) (chosen_step (Ok link)).state (s.choices ++ its host ∷ []) (dials ++ (link, app) ∷ [])
        with_dial = record {
          strategies_same = h.strategies_same;
          agents_counted = h.agents_counted;
          links = h.links;
          orderly = orderly;
          next_dial = plus_one s.server.next_dial ∙ ap suc (h.next_dial ∙ sym (length_more dials (link, app)));
          picked = each_more (λ (c : AppChoice). IsPicked strategies agents c.choice) s.choices (its host) h.picked (is_picked host);
          chosen = λ d x at. by_number d x (came_or_was dials (link, app) d x at);
          dialled = each_more (IsDialled (dials ++ (link, app) ∷ [])) s.choices (its host)
              (each_as (IsDialled dials) (IsDialled (dials ++ (link, app) ∷ [])) (λ c k. still_dialled dials (link, app) c k) s.choices h.dialled) its_dial;
        }

    by_choice : (r : Result ℕ (List ℕ)) (c : Option Choice) → Agrees s.server c r → IsOrderly (chosen_step r).state → Holds (After (chosen_step r) c)
    by_choice r c (Sent link host is found answer) orderly = subst (λ r. IsOrderly (chosen_step r).state → Holds (After (chosen_step r) c)) (sym is) (λ o. subst (λ c. Holds (After (chosen_step (Ok link)) c)) (sym found) (sent host link answer o)) orderly
    by_choice r c (Earlier text is other found) orderly = subst (λ r. Holds (After (chosen_step r) c)) (sym is) (subst (λ c. Holds (After (chosen_step (Err text)) c)) (sym found) (given_holds (refusal front random text) app s tt h))
    by_choice r c (NoAgent host is found none) orderly = subst (λ r. Holds (After (chosen_step r) c)) (sym is)
        (subst (λ c. Holds (After (chosen_step (Err (codes "no agent available"))) c)) (sym found) (refused host (codes "no agent available") (λ link e few. absurd (cc (sym none ∙ e)))))
    by_choice r c (UsedUp link host is found answer last) orderly = subst (λ r. Holds (After (chosen_step r) c)) (sym is)
        (subst (λ c. Holds (After (chosen_step (Err (codes "dial numbers used up"))) c)) (sym found) (refused host (codes "dial numbers used up") (λ other e few. absurd (few last))))

    pub request_holds : Holds (step app (FrontPacket front (DialReq protocol address random)) s)
    request_holds = here (is_up front s.server.fronts) (orderly_kept s.server (FrontPacket front (DialReq protocol address random)) h.orderly)
      where
        here : (b : Bool) → IsOrderly (cond b (core.dial_asked s.server front protocol address random) (core.ignored s.server)).state
            → Holds (After (cond b (core.dial_asked s.server front protocol address random) (core.ignored s.server)) (cond b (choice_asked s.server front protocol address random) None))
        here true orderly = by_choice (core.dial_choice s.server front protocol address random) (choice_asked s.server front protocol address random) (request_agrees s.server front protocol address random) orderly
        here false orderly = h

  -- ---- all events but a link that comes up
  pub step_holds : (app : ℕ) (event : ServerEvent) (s : State) → BringsNoLink event → Holds s → Holds (step app event s)
  step_holds app (LinkUp link identifiers) s n h = absurd n
  step_holds app (LinkPacket link p) s n h = calm_holds s h app (LinkPacket link p) tt (link_changes s.server (LinkPacket link p) link refl).strategies (link_packet_known agents s.server link p h.links)
  step_holds app (LinkLost link) s n h = calm_holds s h app (LinkLost link) tt (link_changes s.server (LinkLost link) link refl).strategies (link_lost_known agents s.server link h.links)
  step_holds app (FrontUp front) s n h = of_front s h app front (FrontUp front) refl tt
  step_holds app (FrontLost front) s n h = of_front s h app front (FrontLost front) refl tt
  step_holds app (FrontPacket front (DialReq protocol address random)) s n h = request_holds s h app front protocol address random
  step_holds app (FrontPacket front (DialRsp error connect_id random)) s n h = of_front s h app front (FrontPacket front (DialRsp error connect_id random)) refl tt
  step_holds app (FrontPacket front (Data connect_id error bytes)) s n h = of_front s h app front (FrontPacket front (Data connect_id error bytes)) refl tt
  step_holds app (FrontPacket front (CloseReq connect_id)) s n h = of_front s h app front (FrontPacket front (CloseReq connect_id)) refl tt
  step_holds app (FrontPacket front (CloseRsp error connect_id)) s n h = of_front s h app front (FrontPacket front (CloseRsp error connect_id)) refl tt
  step_holds app (FrontPacket front (DialCls random)) s n h = of_front s h app front (FrontPacket front (DialCls random)) refl tt
  step_holds app (FrontPacket front Drain) s n h = of_front s h app front (FrontPacket front Drain) refl tt
  step_holds app (FrontPacket front (Other number)) s n h = of_front s h app front (FrontPacket front (Other number)) refl tt
