-- An agent takes the first packet of the server; a destination that it has bytes for takes them.
use Rattle.std.proofs.Common.{◌≡◌, ◌≤◌, ◌==◌, ◌+◌, ℕ, ℤ, pos, negsuc, suc, Bool, true, false, not, List, [], ◌∷◌, if◌then◌else◌, length, Option, Some, None, refl, sym, ap, ◌∙◌, subst, eqb-true, arith}
use Rattle.std.specs.Prelude.{IsSome, codes}
use Rattle.kn_packet.specs.declared.packet.Packet.{Packet}
use Rattle.kn_packet.specs.declared.packet.Packet.TheVariants.{CloseReq, CloseRsp, Data, DialCls, DialReq, DialRsp, Drain, Other}
use Rattle.kn_tables.specs.Lists.{first_where}
use Rattle.kn_server_core.specs.Isolation.{Each}
use Rattle.kn_server_core.proofs.SoundLemmas.{not_missed}
use Rattle.kn_edge_core.specs.Agent as edge
use Rattle.kn_edge_core.specs.Agent.{bytes_by_state, close_by_state, close_open, close_requested, connection_turned, data_came, dial_begun, dial_requested, ignored, is_tcp, may_dial, packet_came, tcp_asked}
use Rattle.kn_edge_core.specs.AgentTables.{connection_at, is_connection, is_dial, turned, with_more}
use Rattle.kn_edge_core.specs.declared.agent_event.AgentEvent.{AgentEvent}
use Rattle.kn_edge_core.specs.declared.agent_event.AgentEvent.TheVariants as event
use Rattle.kn_edge_core.specs.declared.agent_event.AgentOut.TheVariants as out
use Rattle.kn_edge_core.specs.declared.connection.Connection.{Connection}
use Rattle.kn_edge_core.specs.declared.connection.DestState.{DestState}
use Rattle.kn_edge_core.specs.declared.connection.DestState.TheVariants.{Lingering, Open}
use Rattle.kn_edge_core.specs.declared.dial.Dial.{Dial as ListedDial}
use Rattle.kn_packets.specs.Keys.{Keys, MakesDial, RequestFits, asked_at, made_at, one_more}
use Rattle.kn_packets.specs.Moves.{AgentTakes, agent_does, down_is, takes_down}
use Rattle.kn_packets.specs.World.{has_random}
use Rattle.kn_packets.proofs.AgentLists.{made_none, number_of as number_is}
use Rattle.kn_packets.proofs.AgentParts.{linked}
use Rattle.kn_packets.proofs.Fresh.{eqb_refl}
use Rattle.kn_world.specs.declared.parts.Agent.{Agent}
use Rattle.kn_world.specs.declared.parts.Dial.{Dial}
use Rattle.kn_world.specs.declared.state.State.{State}
use Rattle.kn_world.specs.Agents as agents
use Rattle.kn_world.specs.AgentSteps.{asked_by, either, step, takes_packet, written_by}
use Rattle.kn_world.specs.Dials as dials
use Rattle.kn_world.specs.Numbers.{change, first_of, nth, or_none, rest_of}
use Rattle.kn_world.specs.Pipes as pipes
use Rattle.kn_refinement.specs.Fits.{Fits}
use Rattle.kn_refinement.specs.Leads.{Leads}
use Rattle.kn_refinement.specs.Shown.{agent_of, dial_of, link_of, shown}
use Rattle.kn_refinement.proofs.AgentAsked.{asked_connections, asked_on_link, asked_tickets}
use Rattle.kn_refinement.proofs.AgentDials.{lost_shown, stays}
use Rattle.kn_refinement.proofs.AgentDoes.{Does, connections_kept, does_by, does_quiet, tickets_kept}
use Rattle.kn_refinement.proofs.AgentNotes.{dial_hidden, noted_fits, taken_off}
use Rattle.kn_refinement.proofs.AgentQuietSteps.{close_quiet, ignored_quiet, refused_quiet}
use Rattle.kn_refinement.proofs.AgentWritten.{written_connection, written_connections, written_on_link, written_tickets}
use Rattle.kn_refinement.proofs.Changes.{change_kept, changed_own}
use Rattle.kn_refinement.proofs.DestMoves.{takes_freely_leads}
use Rattle.kn_refinement.proofs.NumberLemmas.{nth_none}
use Rattle.kn_refinement.proofs.Worlds.{KeysGoOn, leads_one, leads_then}

close_lost : (a : Agent) (c : ℤ) (o : Option Connection) → (close_requested a.core c o).state.lost ≡ a.core.lost
close_lost a c None = refl
close_lost a c (Some x) = by x.state
  where
    by_unwritten : (b : Bool) → (if b then edge.connection_ended a.core c x [] else edge.connection_turned a.core x (turned Lingering) []).state.lost ≡ a.core.lost
    by_unwritten true = refl
    by_unwritten false = refl

    by : (st : DestState) → (close_by_state a.core c x st).state.lost ≡ a.core.lost
    by Open = by_unwritten (x.unwritten == 0)
    by Lingering = refl

-- a dial that is asked for is not made
not_made : (d t : ℕ) (xs : List ListedDial) (y : ListedDial) → made_at d xs ≡ 0 → first_where (is_dial t) xs ≡ Some y → y.random ≡ pos d → ⊥
not_made d t xs y none f named =
    let there : IsSome (first_where (has_random d) xs) = not_missed (is_dial t) (has_random d) y xs f (ap (has_number d) named ∙ eqb_refl d) in
    absurd_if (first_where (has_random d) xs) there (made_none d xs none)
  where
    has_number : ℕ → ℤ → Bool
    has_number n (pos m) = m == n
    has_number n (negsuc m) = false

    absurd_if : (o : Option ListedDial) → IsSome o → o ≡ None → ⊥
    absurd_if None some e = absurd cc
    absurd_if (Some z) some e = absurd cc

pub either_none : (d : ℕ) → either d 0 ≡ d
either_none d = here (d == 0) refl
  where
    here : (b : Bool) → (d == 0) ≡ b → (if b then 0 else d) ≡ d
    here true e = sym (eqb-true d 0 e)
    here false e = refl

module _ (s : State) (link : ℕ) (fits : Fits s) (keys : Keys (shown s)) (a : Agent) (there : nth link s.agents ≡ Some a) (p : Packet) (rest : List Packet) (down : a.down ≡ p ∷ rest) where
  abbrev s1 : State
  s1 = record s { agents = change agents.rest_down link s.agents }

  abbrev s2 : State
  s2 = record s { agents = change agents.rest_down link s.agents; dials = change dials.requested (asked_by p) s.dials }

  abbrev a2 : Agent
  a2 = agents.rest_down a

  there2 : nth link s2.agents ≡ Some a2
  there2 = changed_own agents.rest_down link s.agents a there

  down_shown : ((shown s).links link).down ≡ p ∷ rest
  down_shown = ap (λ o. (link_of o).down) there ∙ down

  live : not a.core.lost ≡ true
  live = here a.core.lost refl
    where
      here : (b : Bool) → a.core.lost ≡ b → not b ≡ true
      here false e = refl
      here true e = let none : ((shown s).links link).down ≡ [] = (keys.agents.lost link (ap (λ o. (agent_of o).lost) there ∙ e)).2 in absurd (cc (none, down_shown))

  fits2 : Fits s2
  fits2 = noted_fits s link (asked_by p) agents.rest_down dials.requested fits (λ b h. record { next_ticket = refl; dials = λ t y k. k; rise = fits.agents.tickets_rise link b h })
      (λ b h. record { lost = fits.agents.lost link b h; next = refl; connections = refl; none = fits.agents.no_connection link b h; up_dry = fits.agents.up_dry link b h })
      (λ x. record { link = refl; ticket = refl }) (λ x h. record { link = refl; connect_id = refl; dry = fits.agents.dry (asked_by p) x h }) (λ x. refl)

  shown2 : shown s2 ≡ down_is link rest (shown s)
  shown2 = dial_hidden s1 dials.requested (asked_by p) (λ x h. refl) ∙ taken_off s link a p rest there down

  is : edge.step a.core (event.Packet p) ≡ packet_came a.core p
  is = linked a.core (event.Packet p) live

  -- the move
  pub first_leads : (dial : ℕ) → Does s2 link dial (event.Packet p) → Leads s (step link dial (event.Packet p) s2)
  first_leads dial does = leads_one s (step link dial (event.Packet p) s2) (AgentTakes link) does.fits (lost_shown s link a there live)
      (ap (λ ps. takes_down link ps (shown s)) down_shown ∙ ap (agent_does link (event.Packet p)) (sym shown2) ∙ sym does.shows)

  pub then_takes : KeysGoOn → Does s2 link (either (asked_by p) (written_by p link s1)) (event.Packet p) → Leads s (takes_packet p link s1)
  then_takes go does =
      let t : State = step link (either (asked_by p) (written_by p link s1)) (event.Packet p) s2 in
      leads_then go s t (takes_packet p link s1) keys (first_leads (either (asked_by p) (written_by p link s1)) does) (λ fit key. takes_freely_leads (written_by p link s1) t fit key)

  -- a packet that it leaves alone
  pub ignores : (dial : ℕ) → packet_came a.core p ≡ ignored a.core → Does s2 link dial (event.Packet p)
  ignores dial e = does_quiet s2 link dial a2 there2 fits2 (event.Packet p) (ignored a.core) (is ∙ e) (ignored_quiet a.core) refl

  -- a close
  pub closes : (dial : ℕ) (c : ℤ) → packet_came a.core p ≡ close_requested a.core c (connection_at c a.core.connections) → Does s2 link dial (event.Packet p)
  closes dial c e = does_quiet s2 link dial a2 there2 fits2 (event.Packet p) (close_requested a.core c (connection_at c a.core.connections)) (is ∙ e) (close_quiet a.core c (connection_at c a.core.connections)) (close_lost a c (connection_at c a.core.connections))

  -- bytes
  pub writes : (dial m : ℕ) (bytes : List ℕ) (c : Connection) → first_where (is_connection m) a.core.connections ≡ Some c → c.connect_id ≡ m → dial ≡ or_none (nth m a.connections)
      → packet_came a.core p ≡ connection_turned a.core c (with_more (length bytes)) (out.Write (pos m) bytes ∷ []) → Does s2 link dial (event.Packet p)
  writes dial m bytes c found number its e = does_by s2 link dial a2 there2 fits2 (event.Packet p) (connection_turned a.core c (with_more (length bytes)) (out.Write (pos m) bytes ∷ [])) (is ∙ e)
      (written_on_link s2 link dial m a2 there2 fits2.agents c bytes found number its)
      (tickets_kept s2 link dial a2 there2 fits2 (event.Packet p) (connection_turned a.core c (with_more (length bytes)) (out.Write (pos m) bytes ∷ [])) (written_tickets s2 link dial m a2 there2 fits2.agents c bytes found number its) (λ x h. record { link = refl; ticket = refl }))
      (connections_kept s2 link dial a2 there2 fits2 (event.Packet p) (connection_turned a.core c (with_more (length bytes)) (out.Write (pos m) bytes ∷ [])) (written_connections s2 link dial m a2 there2 fits2.agents c bytes found number its) (written_connection s2 link dial m a2 there2 fits2.agents c bytes found number its))

-- ---- bytes
module _ (s : State) (link : ℕ) (fits : Fits s) (keys : Keys (shown s)) (a : Agent) (there : nth link s.agents ≡ Some a) (z : ℤ) (error bytes : List ℕ) (rest : List Packet) (down : a.down ≡ Data z error bytes ∷ rest) where
  pub data_does : Does (s2 s link fits keys a there (Data z error bytes) rest down) link (either 0 (written_by (Data z error bytes) link (s1 s link fits keys a there (Data z error bytes) rest down))) (event.Packet (Data z error bytes))
  data_does = here (connection_at z a.core.connections) refl
    where
      by : (c : Connection) → connection_at z a.core.connections ≡ Some c → (st : DestState) → c.state ≡ st
          → Does (s2 s link fits keys a there (Data z error bytes) rest down) link (either 0 (written_by (Data z error bytes) link (s1 s link fits keys a there (Data z error bytes) rest down))) (event.Packet (Data z error bytes))
      by c f Lingering st = ignores s link fits keys a there (Data z error bytes) rest down _ (ap (data_came a.core z bytes) f ∙ ap (bytes_by_state a.core z bytes c) st)
      by c f Open st =
          let named : z ≡ pos c.connect_id = number_is z a.core.connections c f in
          writes s link fits keys a there (Data z error bytes) rest down _ c.connect_id bytes c (ap (λ y. connection_at y a.core.connections) (sym named) ∙ f) refl
          (ap (agents.dial_at z) (there2 s link fits keys a there (Data z error bytes) rest down) ∙ ap (λ y. agents.dial_at y (Some (agents.rest_down a))) named)
          (ap (data_came a.core z bytes) f ∙ ap (bytes_by_state a.core z bytes c) st ∙ ap (λ y. connection_turned a.core c (with_more (length bytes)) (out.Write y bytes ∷ [])) named)

      here : (o : Option Connection) → connection_at z a.core.connections ≡ o
          → Does (s2 s link fits keys a there (Data z error bytes) rest down) link (either 0 (written_by (Data z error bytes) link (s1 s link fits keys a there (Data z error bytes) rest down))) (event.Packet (Data z error bytes))
      here None f = ignores s link fits keys a there (Data z error bytes) rest down _ (ap (data_came a.core z bytes) f)
      here (Some c) f = by c f c.state refl

-- ---- a request
module _ (s : State) (link : ℕ) (fits : Fits s) (keys : Keys (shown s)) (a : Agent) (there : nth link s.agents ≡ Some a) (protocol address : List ℕ) (d : ℕ) (rest : List Packet) (down : a.down ≡ DialReq protocol address (pos d) ∷ rest) (on : ((shown s).dials d).link ≡ link) where
  abbrev p : Packet
  p = DialReq protocol address (pos d)

  abbrev e : AgentEvent
  e = event.Packet (DialReq protocol address (pos d))

  abbrev t2 : State
  t2 = record s { agents = change agents.rest_down link s.agents; dials = change dials.requested d s.dials }

  none_zero : link ≡ 0 → ⊥
  none_zero zero_it = let no_it : nth link s.agents ≡ None = ap (λ i. nth i s.agents) zero_it in absurd (cc (no_it, there))

  -- it is asked for once
  once : made_at d a.core.dials ≡ 0
  once =
      let count : asked_at d ((shown s).links ((shown s).dials d).link).down + made_at d ((shown s).agents ((shown s).dials d).link).dials ≤ 1 = keys.agents.asked_once d in
      let on_link : asked_at d ((shown s).links link).down + made_at d ((shown s).agents link).dials ≤ 1 = subst (λ l. asked_at d ((shown s).links l).down + made_at d ((shown s).agents l).dials ≤ 1) on count in
      let on_agent : asked_at d a.down + made_at d a.core.dials ≤ 1 = subst (λ o. asked_at d (link_of o).down + made_at d (agent_of o).dials ≤ 1) there on_link in
      let in_all : asked_at d (DialReq protocol address (pos d) ∷ rest) + made_at d a.core.dials ≤ 1 = subst (λ ps. asked_at d ps + made_at d a.core.dials ≤ 1) down on_agent in
      let first : suc (asked_at d rest) + made_at d a.core.dials ≤ 1 = subst (λ b. one_more b (asked_at d rest) + made_at d a.core.dials ≤ 1) (eqb_refl d) in_all in
      omega (arith, first)

  begun : (x : Dial) → nth d s.dials ≡ Some x → packet_came a.core p ≡ dial_begun a.core address (pos d) → Does t2 link d e
  begun x h came =
      let fit : Fits t2 = fits2 s link fits keys a there p rest down in
      let at2 : nth d t2.dials ≡ Some (dials.requested x) = changed_own dials.requested d s.dials x h in
      let its_link : x.link ≡ link = ap (λ o. (dial_of s.agents o).link) (sym h) ∙ on in
      let there_now : nth link t2.agents ≡ Some (agents.rest_down a) = there2 s link fits keys a there p rest down in
      does_by t2 link d (agents.rest_down a) there_now fit e (dial_begun a.core address (pos d)) (is s link fits keys a there p rest down ∙ came)
      (asked_on_link t2 link d (agents.rest_down a) there_now fit.agents address (pos d) (dials.requested x) at2 its_link refl (λ t y f n. not_made d t a.core.dials y once f n))
      (λ f g fa ga. asked_tickets t2 link d (agents.rest_down a) there_now fit.agents address (pos d) (dials.requested x) at2 its_link refl (λ t y k n. not_made d t a.core.dials y once k n) f g fa (ga (dials.requested x)))
      (connections_kept t2 link d (agents.rest_down a) there_now fit e (dial_begun a.core address (pos d))
      (asked_connections t2 link d (agents.rest_down a) there_now fit.agents address (pos d) (dials.requested x) at2 its_link refl (λ t y f n. not_made d t a.core.dials y once f n)) (λ z k. record { link = refl; connect_id = refl; dry = fit.agents.dry d z k }))

  pub request_does : Does t2 link d e
  request_does = here (nth d s.dials) refl
    where
      here : (o : Option Dial) → nth d s.dials ≡ o → Does t2 link d e
      here None h = absurd (none_zero (sym on ∙ ap (λ o. (dial_of s.agents o).link) h))
      here (Some x) h = by_tcp (is_tcp protocol) refl
        where
          by_room : (b : Bool) → packet_came a.core p ≡ (if b then dial_begun a.core address (pos d) else edge.told a.core (edge.refusal (codes "too many connections") (pos d) ∷ [])) → Does t2 link d e
          by_room true came = begun x h came
          by_room false came = does_quiet t2 link d (agents.rest_down a) (there2 s link fits keys a there p rest down) (fits2 s link fits keys a there p rest down) e _ (is s link fits keys a there p rest down ∙ came) (refused_quiet a.core _ _ (pos 0) (pos d)) refl

          by_tcp : (b : Bool) → is_tcp protocol ≡ b → Does t2 link d e
          by_tcp true i = by_room (may_dial a.core) (ap (λ b. if b then tcp_asked a.core address (pos d) else edge.told a.core (edge.refusal (codes "unsupported protocol") (pos d) ∷ [])) i)
          by_tcp false i = does_quiet t2 link d (agents.rest_down a) (there2 s link fits keys a there p rest down) (fits2 s link fits keys a there p rest down) e _
              (is s link fits keys a there p rest down ∙ ap (λ b. if b then tcp_asked a.core address (pos d) else edge.told a.core (edge.refusal (codes "unsupported protocol") (pos d) ∷ [])) i) (refused_quiet a.core _ _ (pos 0) (pos d)) refl

-- ---- whatever the packet is
pub packet_leads : KeysGoOn → (s : State) (link : ℕ) → Fits s → Keys (shown s) → (a : Agent) → nth link s.agents ≡ Some a → (p : Packet) (rest : List Packet) → a.down ≡ p ∷ rest → Leads s (takes_packet p link (record s { agents = change agents.rest_down link s.agents }))
packet_leads go s link fits keys a there (DialReq protocol address random) rest down =
    let all : Each (RequestFits (shown s) link) (DialReq protocol address random ∷ rest) = subst (λ ps. Each (RequestFits (shown s) link) ps) (ap (λ o. (link_of o).down) there ∙ down) (keys.agents.requests link) in
    let made : MakesDial (shown s) link random = all.0 in
    let down_d : a.down ≡ DialReq protocol address (pos made.dial) ∷ rest = down ∙ ap (λ z. DialReq protocol address z ∷ rest) made.asked in
    subst (λ z. Leads s (takes_packet (DialReq protocol address z) link (record s { agents = change agents.rest_down link s.agents }))) (sym made.asked)
    (then_takes s link fits keys a there (DialReq protocol address (pos made.dial)) rest down_d go
    (subst (λ n. Does (record s { agents = change agents.rest_down link s.agents; dials = change dials.requested made.dial s.dials }) link n (event.Packet (DialReq protocol address (pos made.dial)))) (sym (either_none made.dial))
    (request_does s link fits keys a there protocol address made.dial rest down_d made.on)))
packet_leads go s link fits keys a there (Data z error bytes) rest down = then_takes s link fits keys a there (Data z error bytes) rest down go (data_does s link fits keys a there z error bytes rest down)
packet_leads go s link fits keys a there (CloseReq z) rest down = then_takes s link fits keys a there (CloseReq z) rest down go (closes s link fits keys a there (CloseReq z) rest down _ z refl)
packet_leads go s link fits keys a there (DialRsp error c random) rest down = then_takes s link fits keys a there (DialRsp error c random) rest down go (ignores s link fits keys a there (DialRsp error c random) rest down _ refl)
packet_leads go s link fits keys a there (CloseRsp error c) rest down = then_takes s link fits keys a there (CloseRsp error c) rest down go (ignores s link fits keys a there (CloseRsp error c) rest down _ refl)
packet_leads go s link fits keys a there (DialCls random) rest down = then_takes s link fits keys a there (DialCls random) rest down go (ignores s link fits keys a there (DialCls random) rest down _ refl)
packet_leads go s link fits keys a there Drain rest down = then_takes s link fits keys a there Drain rest down go (ignores s link fits keys a there Drain rest down _ refl)
packet_leads go s link fits keys a there (Other number) rest down = then_takes s link fits keys a there (Other number) rest down go (ignores s link fits keys a there (Other number) rest down _ refl)

-- ---- the first of the pipe
pub agent_down_leads : KeysGoOn → (link : ℕ) (s : State) → Fits s → Keys (shown s) → Leads s (pipes.agent_down link s)
agent_down_leads go link s fits keys = here (nth link s.agents) refl
  where
    first : (a : Agent) → nth link s.agents ≡ Some a → (ps : List Packet) → a.down ≡ ps → Leads s (pipes.at_agent (first_of ps) link (record s { agents = change agents.rest_down link s.agents }))
    first a h [] down = stays s (record s { agents = change agents.rest_down link s.agents }) fits (ap (λ xs. record s { agents = xs }) (change_kept agents.rest_down link s.agents a h (ap (λ ps. record a { down = rest_of ps }) down ∙ ap (λ ps. record a { down = ps }) (sym down))))
    first a h (p ∷ rest) down = packet_leads go s link fits keys a h p rest down

    here : (o : Option Agent) → nth link s.agents ≡ o → Leads s (pipes.at_agent (agents.first_down o) link (record s { agents = change agents.rest_down link s.agents }))
    here None h = stays s (record s { agents = change agents.rest_down link s.agents }) fits (ap (λ xs. record s { agents = xs }) (nth_none agents.rest_down link s.agents h))
    here (Some a) h = first a h a.down refl
