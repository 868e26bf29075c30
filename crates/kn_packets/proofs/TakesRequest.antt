-- The server takes a request of a front: it is refused at once, or draws a dial.
use Rattle.std.proofs.Common.{◌≡◌, ◌<◌, ◌==◌, ◌&&◌, ℕ, ℤ, pos, Bool, true, false, not, cond, List, [], ◌∷◌, Option, Some, None, Result, Ok, Err, is_some, inl, inr, refl, sym, ◌∙◌, eqb-true, arith}
use Rattle.std.specs.Prelude.{codes, nat_lt}
use Rattle.kn_packet.specs.declared.packet.Packet.{Packet}
use Rattle.kn_packet.specs.declared.packet.Packet.TheVariants.{DialReq, DialRsp}
use Rattle.kn_route.specs.Choice.{pick}
use Rattle.kn_route.specs.Hosts.{host_in}
use Rattle.kn_route.specs.LinkLists.{has_link}
use Rattle.kn_route.specs.declared.host.HostFault.{HostFault}
use Rattle.kn_route.specs.declared.strategy.Strategy.{Strategy}
use Rattle.kn_tables.specs.Lists.{first_where, in_place}
use Rattle.kn_tables.specs.Awaiting.{is_dial, is_random}
use Rattle.kn_tables.specs.declared.awaited_entry.AwaitedEntry.{AwaitedEntry}
use Rattle.kn_server_core.specs.Isolation.{Each}
use Rattle.kn_server_core.specs.Packets.{refusal}
use Rattle.kn_server_core.specs.Server.{dial_chosen, dial_choice, dial_sent, host_choice, is_tcp, number_choice, told, tunnels_of}
use Rattle.kn_server_core.specs.declared.state.State.{State}
use Rattle.kn_server_core.proofs.PickLemmas.{choice_up}
use Rattle.kn_server_core.proofs.SoundLemmas.{first_in_place}
use Rattle.kn_server_core.proofs.TunnelTables.{put_found}
use Rattle.kn_edge_core.specs.AgentTables.{connection_at}
use Rattle.kn_edge_core.specs.declared.connection.Connection.{Connection}
use Rattle.kn_edge_core.specs.declared.connection.DestState.{DestState}
use Rattle.kn_edge_core.specs.declared.connection.DestState.TheVariants as dest
use Rattle.kn_edge_core.specs.declared.dial.Dial.{Dial}
use Rattle.kn_edge_core.specs.declared.agent_state.AgentState.{AgentState}
use Rattle.kn_edge_core.specs.declared.app.App.{App}
use Rattle.kn_tunnel.specs.Events as event
use Rattle.kn_tunnel.specs.Facts.{Facts}
use Rattle.kn_tunnel.specs.Kinds.{implies, is_drawn, is_gone, is_present, no_entry, refused_phase}
use Rattle.kn_tunnel.specs.LinkSide.{control_ok, holds_fit, link_ok, link_view, up_ok, words_ok}
use Rattle.kn_tunnel.specs.Steps as step
use Rattle.kn_tunnel.specs.Steps.{Follows, May}
use Rattle.kn_tunnel.specs.Tunnel.{Asked, Coming, Front, Gone, Left, Phase, Present, Refusal, Tunnel}
use Rattle.kn_words.specs.Down.{down_item, down_word, has_request}
use Rattle.kn_words.specs.In.{OtherIn, RequestIn, in_ordered, stream_in_item, stream_in_word}
use Rattle.kn_words.specs.Out.{OtherOut, RefusalOut, stream_out_item, stream_out_word}
use Rattle.kn_packets.specs.Keys.{Keys, StreamOlder}
use Rattle.kn_packets.specs.Lifts.{Lifts}
use Rattle.kn_packets.specs.Moves.{ServerTakesIn, after, as_taken, connection_dial, in_is, served}
use Rattle.kn_packets.specs.Outputs.{asks, more_if, queued}
use Rattle.kn_packets.specs.World.{World, connection_far, dest_far, dial_far, far_of, has_random, phase_of, tunnel, tunnel_of}
use Rattle.kn_packets.proofs.Fresh.{above, below, dials_fresh, down_undrawn, eqb_refl, in_fresh, out_fresh, requests_fresh, up_fresh}
use Rattle.kn_packets.proofs.Queues.{down_other, out_other, out_refused, request_made, request_other}
use Rattle.kn_packets.proofs.Taken.{and_first, and_second, in_other_taken, in_request_taken, not_false, or_false}

-- a request is an app's own, or another's
pub request_own : (c : Bool) (n : ℕ) (D : Option ℕ) (protocol address : List ℕ) (random : ℤ) → asks c n random ≡ true → stream_in_item c n D (DialReq protocol address random) ≡ RequestIn
request_own true n D protocol address random e = refl
request_own false n D protocol address random e = rw e refl

pub request_not : (c : Bool) (n : ℕ) (D : Option ℕ) (protocol address : List ℕ) (random : ℤ) → asks c n random ≡ false → stream_in_item c n D (DialReq protocol address random) ≡ OtherIn
request_not true n D protocol address random e = absurd cc
request_not false n D protocol address random e = rw e refl

-- so is its refusal
pub refusal_own : (c : Bool) (n : ℕ) (D : Option ℕ) (x : ℕ) (xs : List ℕ) (connect_id random : ℤ) → asks c n random ≡ true → stream_out_item c n D (DialRsp (x ∷ xs) connect_id random) ≡ RefusalOut
refusal_own true n D x xs connect_id random e = refl
refusal_own false n D x xs connect_id random e = rw e refl

pub refusal_not : (c : Bool) (n : ℕ) (D : Option ℕ) (x : ℕ) (xs : List ℕ) (connect_id random : ℤ) → asks c n random ≡ false → stream_out_item c n D (DialRsp (x ∷ xs) connect_id random) ≡ OtherOut
refusal_not true n D x xs connect_id random e = absurd cc
refusal_not false n D x xs connect_id random e = rw e refl

-- of another's request the stream is a client's
pub not_connect : (c : Bool) (n : ℕ) (random : ℤ) → asks c n random ≡ false → c ≡ false
not_connect true n random e = absurd cc
not_connect false n random e = refl

pub phase_refused : (c : Bool) (listed : Option App) (noted : Phase) → phase_of c listed (cond c (refused_phase noted) noted) ≡ cond c (refused_phase (phase_of c listed noted)) (phase_of c listed noted)
phase_refused true listed noted = refl
phase_refused false listed noted = refl

-- a request on its way has no dial yet
pub request_undrawn : (t : Tunnel) → link_ok (link_view t) ≡ true → t.inward.request ≡ true → is_drawn t.far ≡ false
request_undrawn t h r =
    let control : control_ok t.entry t.far t.server t.agent t.cid t.inward.request ≡ true = and_first (control_ok t.entry t.far t.server t.agent t.cid t.inward.request) (up_ok (link_view t) && words_ok (link_view t)) h in
    let last : implies t.inward.request (not (is_drawn t.far)) ≡ true = and_second (holds_fit t.entry t.far t.server t.agent t.cid && implies (not t.server) (no_entry t.entry)) (implies t.inward.request (not (is_drawn t.far))) control in
    not_false (is_drawn t.far) (rw r at last)

pub far_drawn : (d : ℕ) (cid : Option ℕ) (agent : AgentState) (down : List Packet) → is_drawn (far_of d cid agent down) ≡ true
far_drawn d (Some c) agent down = connected (connection_at (pos c) agent.connections)
  where
    state : (s : DestState) → is_drawn (dest_far s) ≡ true
    state dest.Open = refl
    state dest.Lingering = refl

    connected : (o : Option Connection) → is_drawn (connection_far o) ≡ true
    connected None = refl
    connected (Some x) = state x.state
far_drawn d None agent down = dialled (first_where (has_random d) agent.dials) (has_request d down)
  where
    dialled : (o : Option Dial) (b : Bool) → is_drawn (dial_far o b) ≡ true
    dialled None true = refl
    dialled None false = refl
    dialled (Some x) b = refl

-- a refused dial is told why
pub has_text : (s : State) (f : ℕ) (protocol address : List ℕ) (random : ℤ) → dial_choice s f protocol address random ≡ Err [] → ⊥
has_text s f protocol address random e = here (is_some (first_where (is_random f random) s.awaited)) (is_tcp protocol) e
  where
    numbers : (o : Option (Strategy × ℕ)) → number_choice s o ≡ Err [] → ⊥
    numbers None h = cc
    numbers (Some x) h = number_here (s.next_dial == 9223372036854775807) h
      where
        number_here : (b : Bool) → cond b (Err (codes "dial numbers used up")) (Ok x.1) ≡ Err [] → ⊥
        number_here true h = cc
        number_here false h = cc

    hosts : (h : Result (List ℕ) HostFault) → host_choice s f h ≡ Err [] → ⊥
    hosts (Err fault) h = cc
    hosts (Ok host) h = host_here (nat_lt (tunnels_of s f) 600) h
      where
        host_here : (b : Bool) → cond b (number_choice s (pick s.strategies s.links.links host s.next_dial)) (Err (codes "too many tunnels")) ≡ Err [] → ⊥
        host_here true h = numbers (pick s.strategies s.links.links host s.next_dial) h
        host_here false h = cc

    here : (b c : Bool) → cond b (Err (codes "dial already awaited")) (cond c (host_choice s f (host_in address)) (Err (codes "unsupported protocol"))) ≡ Err [] → ⊥
    here true c h = cc
    here false true h = hosts (host_in address) h
    here false false h = cc

pub same_request : (b : Bool) (D : Option ℕ) (protocol address : List ℕ) (random : ℤ) → as_taken b D (DialReq protocol address random) ≡ DialReq protocol address random
same_request true D protocol address random = refl
same_request false D protocol address random = refl

module _ (w : World) (f : ℕ) (protocol address : List ℕ) (random : ℤ) (rest : List Packet) (keys : Keys w) (first : (w.streams f).up ≡ DialReq protocol address random ∷ rest) (present : is_present (w.streams f).front ≡ true) where
  word_own : (c : Bool) (n : ℕ) (D : Option ℕ) → asks c n random ≡ true → in_ordered (stream_in_item c n D) (w.streams f).up ≡ true
      → stream_in_word c n D rest ≡ record (stream_in_word c n D (w.streams f).up) { request = false }
  word_own c n D e order = rw first (in_request_taken (stream_in_item c n D) (DialReq protocol address random) rest (request_own c n D protocol address random e) (rw first at order))

  pub asked : (c : Bool) (n : ℕ) (D : Option ℕ) → asks c n random ≡ true → (stream_in_word c n D (w.streams f).up).request ≡ true
  asked c n D e = rw (first, request_own c n D protocol address random e) refl

  word_other : (c : Bool) (n : ℕ) (D : Option ℕ) → asks c n random ≡ false → stream_in_word c n D rest ≡ stream_in_word c n D (w.streams f).up
  word_other c n D e = rw first (in_other_taken (stream_in_item c n D) (DialReq protocol address random) rest (request_not c n D protocol address random e))

  -- it is refused
  module _ (x : ℕ) (xs : List ℕ) where
    abbrev refused : World
    refused = served random (told w.server (refusal f random (x ∷ xs) ∷ [])) (in_is f rest w)

    elsewhere : (k : ℕ) → ((w.apps k).stream == f) ≡ false → (D : Option ℕ) → tunnel_of refused (refused.apps k) D ≡ tunnel_of w (w.apps k) D
    elsewhere k e None = rw e refl
    elsewhere k e (Some d) = rw e refl

    out_same : (c : Bool) (n : ℕ) (D : Option ℕ) → asks c n random ≡ false → stream_out_word c n D (queued (w.streams f).client (w.streams f).down (DialRsp (x ∷ xs) (pos 0) random ∷ [])) ≡ stream_out_word c n D (w.streams f).down
    out_same c n D e = out_other (stream_out_item c n D) (w.streams f).client (w.streams f).down (DialRsp (x ∷ xs) (pos 0) random) (refusal_not c n D x xs (pos 0) random e)

    out_own : (c : Bool) (n : ℕ) (D : Option ℕ) → asks c n random ≡ true → stream_out_word c n D (queued (w.streams f).client (w.streams f).down (DialRsp (x ∷ xs) (pos 0) random ∷ []))
        ≡ record (stream_out_word c n D (w.streams f).down) { head = cond (w.streams f).client Refusal (stream_out_word c n D (w.streams f).down).head }
    out_own c n D e = out_refused (stream_out_item c n D) (w.streams f).client (w.streams f).down (DialRsp (x ∷ xs) (pos 0) random) (refusal_own c n D x xs (pos 0) random e)

    others : (k : ℕ) → (w.apps k).stream ≡ f → asks (w.streams f).connect (w.apps k).number random ≡ false → (D : Option ℕ) → tunnel_of refused (refused.apps k) D ≡ tunnel_of w (w.apps k) D
    others k at e None = rw (at, eqb_refl f, word_other (w.streams f).connect (w.apps k).number None e, out_same (w.streams f).connect (w.apps k).number None e, not_connect (w.streams f).connect (w.apps k).number random e, or_false (w.streams f).finished) refl
    others k at e (Some d) = rw (at, eqb_refl f, word_other (w.streams f).connect (w.apps k).number (Some d) e, out_same (w.streams f).connect (w.apps k).number (Some d) e, not_connect (w.streams f).connect (w.apps k).number random e, or_false (w.streams f).finished) refl

    own : (k : ℕ) → (w.apps k).stream ≡ f → asks (w.streams f).connect (w.apps k).number random ≡ true → (D : Option ℕ)
        → in_ordered (stream_in_item (w.streams f).connect (w.apps k).number D) (w.streams f).up ≡ true → Follows (tunnel_of w (w.apps k) D) (tunnel_of refused (refused.apps k) D)
    own k at e None order = inr (
      event.ServerRefuses,
      (rw (at, present, asked (w.streams f).connect (w.apps k).number None e) refl, tt),
      rw (at, eqb_refl f, word_own (w.streams f).connect (w.apps k).number None e order, out_own (w.streams f).connect (w.apps k).number None e, phase_refused (w.streams f).connect) refl,
    )
    own k at e (Some d) order = inr (
      event.ServerRefuses,
      (rw (at, present, asked (w.streams f).connect (w.apps k).number (Some d) e) refl, tt),
      rw (at, eqb_refl f, word_own (w.streams f).connect (w.apps k).number (Some d) e order, out_own (w.streams f).connect (w.apps k).number (Some d) e, phase_refused (w.streams f).connect) refl,
    )

    pub refused_lifts : Lifts w refused
    refused_lifts k came = at_stream ((w.apps k).stream == f) refl
      where
        by_request : (w.apps k).stream ≡ f → (b : Bool) → asks (w.streams f).connect (w.apps k).number random ≡ b → Follows (tunnel w k) (tunnel refused k)
        by_request at true e = own k at e (w.apps k).dial (rw at at (keys.ordered k came).inward)
        by_request at false e = inl (others k at e (w.apps k).dial)

        at_stream : (b : Bool) → ((w.apps k).stream == f) ≡ b → Follows (tunnel w k) (tunnel refused k)
        at_stream true at = by_request (eqb-true (w.apps k).stream f at) (asks (w.streams f).connect (w.apps k).number random) refl
        at_stream false at = inl (elsewhere k at (w.apps k).dial)

  -- it draws a dial
  module _ (l : ℕ) (linked : has_link l w.server.links ≡ true) where
    abbrev drawn : World
    drawn = served random (dial_sent w.server f protocol address random l) (in_is f rest w)

    abbrev new : ℕ
    new = w.server.next_dial

    in_same : (k : ℕ) (b : Bool) → ((w.apps k).stream == f) ≡ b → (b && asks (w.streams (w.apps k).stream).connect (w.apps k).number random) ≡ false → (D : Option ℕ)
        → stream_in_word (w.streams (w.apps k).stream).connect (w.apps k).number D (cond b rest (w.streams (w.apps k).stream).up) ≡ stream_in_word (w.streams (w.apps k).stream).connect (w.apps k).number D (w.streams (w.apps k).stream).up
    in_same k true at e D =
        let at_f : (w.apps k).stream ≡ f = eqb-true (w.apps k).stream f at in
        let other : asks (w.streams f).connect (w.apps k).number random ≡ false = rw at_f at e in
        rw at_f (word_other (w.streams f).connect (w.apps k).number D other)
    in_same k false at e D = refl

    -- the request on its way to the agent is no other dial's
    down_same : (cid : Option ℕ) (there b : Bool) (ps : List Packet) → down_word cid (queued there ps (more_if b (DialReq protocol address (pos w.server.next_dial)) [])) ≡ down_word cid ps
    down_same cid there true ps = down_other (down_item cid) there ps (DialReq protocol address (pos w.server.next_dial)) refl
    down_same cid there false ps = refl

    asked_same : (e : ℕ) (there b : Bool) (ps : List Packet) → (w.server.next_dial == e) ≡ false → has_request e (queued there ps (more_if b (DialReq protocol address (pos w.server.next_dial)) [])) ≡ has_request e ps
    asked_same e there true ps h = request_other e there ps (DialReq protocol address (pos w.server.next_dial)) h
    asked_same e there false ps h = refl

    far_same : (e : ℕ) (cid : Option ℕ) (agent : AgentState) (there b : Bool) (ps : List Packet) → (w.server.next_dial == e) ≡ false
        → far_of e cid agent (queued there ps (more_if b (DialReq protocol address (pos w.server.next_dial)) [])) ≡ far_of e cid agent ps
    far_same e (Some c) agent there b ps h = refl
    far_same e None agent there b ps h = rw (asked_same e there b ps h) refl

    abbrev entry : AwaitedEntry
    entry = record { dial = w.server.next_dial; front = f; link = l; random = random }

    entry_same : (e : ℕ) → (w.server.next_dial == e) ≡ false → first_where (is_dial e) (in_place (λ (x : AwaitedEntry). x.dial) entry w.server.awaited) ≡ first_where (is_dial e) w.server.awaited
    entry_same e h = first_in_place (λ (x : AwaitedEntry). x.dial) (is_dial e) entry w.server.awaited h

    undrawn_same : (k : ℕ) → (((w.apps k).stream == f) && asks (w.streams (w.apps k).stream).connect (w.apps k).number random) ≡ false → tunnel_of drawn (drawn.apps k) None ≡ tunnel_of w (w.apps k) None
    undrawn_same k e = rw (in_same k ((w.apps k).stream == f) refl e None) refl

    drawn_same : (k d : ℕ) → (((w.apps k).stream == f) && asks (w.streams (w.apps k).stream).connect (w.apps k).number random) ≡ false → d < w.server.next_dial → tunnel_of drawn (drawn.apps k) (Some d) ≡ tunnel_of w (w.apps k) (Some d)
    drawn_same k d e older = rw (
      in_same k ((w.apps k).stream == f) refl e (Some d),
      below d w.server.next_dial older,
      entry_same d (above d w.server.next_dial older),
      down_same (w.dials d).cid (not (w.agents (w.dials d).link).lost) ((w.dials d).link == l) (w.links (w.dials d).link).down,
      far_same d (w.dials d).cid (w.agents (w.dials d).link) (not (w.agents (w.dials d).link).lost) ((w.dials d).link == l) (w.links (w.dials d).link).down (above d w.server.next_dial older),
    ) refl

    there_or_not : (b : Bool) → dial_far None b ≡ cond b Asked Left
    there_or_not true = refl
    there_or_not false = refl

    has_it : not (is_gone (w.links l).server) ≡ true
    has_it = here (w.links l).server (sym (keys.server.links_up l) ∙ linked)
      where
        here : (x : Front) → is_present x ≡ true → not (is_gone x) ≡ true
        here Present e = refl
        here Coming e = absurd cc
        here Gone e = absurd cc

    own_drawn : (k : ℕ) → (w.apps k).stream ≡ f → asks (w.streams f).connect (w.apps k).number random ≡ true
        → in_ordered (stream_in_item (w.streams f).connect (w.apps k).number None) (w.streams f).up ≡ true
        → Follows (tunnel_of w (w.apps k) None) (tunnel_of drawn (drawn.apps k) (Some w.server.next_dial))
    own_drawn k at e order = inr (event.ServerDials (not (w.agents l).lost), (rw (at, present, asked (w.streams f).connect (w.apps k).number None e) refl, tt), eq)
      where
        older : Each (StreamOlder w.server.next_dial) (DialReq protocol address random ∷ rest)
        older = rw first at (keys.server.ins_older f)

        eq : tunnel_of drawn (drawn.apps k) (Some w.server.next_dial) ≡ step.after (event.ServerDials (not (w.agents l).lost)) (tunnel_of w (w.apps k) None)
        eq = rw (
          at,
          eqb_refl f,
          eqb_refl w.server.next_dial,
          eqb_refl l,
          in_fresh (w.streams f).connect (w.apps k).number w.server.next_dial rest older.1,
          word_own (w.streams f).connect (w.apps k).number None e order,
          out_fresh (w.streams f).connect (w.apps k).number w.server.next_dial (w.streams f).down (keys.server.outs_older f),
          put_found (λ (x : AwaitedEntry). x.dial) (is_dial w.server.next_dial) entry w.server.awaited (keys.server.orderly.sound.awaited_drawn w.server.next_dial (omega arith)) (eqb_refl w.server.next_dial),
          keys.server.orderly.sound.held_drawn w.server.next_dial (omega arith),
          has_it,
          dials_fresh w.server.next_dial (w.agents l).dials (keys.server.agents_older l),
          request_made w.server.next_dial (not (w.agents l).lost) (w.links l).down (DialReq protocol address (pos w.server.next_dial)) (eqb_refl w.server.next_dial) (requests_fresh w.server.next_dial (w.links l).down (keys.server.downs_older l)),
          there_or_not (not (w.agents l).lost),
          up_fresh w.server.next_dial (w.links l).up (keys.server.ups_older l),
          down_undrawn (queued (not (w.agents l).lost) (w.links l).down (DialReq protocol address (pos w.server.next_dial) ∷ [])),
        ) refl

    is_same : (k : ℕ) → (((w.apps k).stream == f) && asks (w.streams (w.apps k).stream).connect (w.apps k).number random) ≡ false → (D : Option ℕ) → (w.apps k).dial ≡ D → (w.apps k).came ≡ true
        → tunnel_of drawn (drawn.apps k) D ≡ tunnel_of w (w.apps k) D
    is_same k e None de came = undrawn_same k e
    is_same k e (Some d) de came = drawn_same k d e (keys.server.dials_older k d came de)

    drawn_lifts : Lifts w drawn
    drawn_lifts k came = by_own ((w.apps k).stream == f) (asks (w.streams (w.apps k).stream).connect (w.apps k).number random) refl refl
      where
        own : (w.apps k).stream ≡ f → asks (w.streams f).connect (w.apps k).number random ≡ true → (D : Option ℕ) → (w.apps k).dial ≡ D → Follows (tunnel_of w (w.apps k) D) (tunnel_of drawn (drawn.apps k) (Some w.server.next_dial))
        own at e None de = own_drawn k at e (rw (at, de) at ((keys.ordered k came).inward))
        own at e (Some d) de =
            let facts : Facts (tunnel_of w (w.apps k) (Some d)) = rw de at (keys.facts k came) in
            let request : (tunnel_of w (w.apps k) (Some d)).inward.request ≡ true = rw at (asked (w.streams f).connect (w.apps k).number (Some d) e) in
            let none : is_drawn (tunnel_of w (w.apps k) (Some d)).far ≡ false = request_undrawn (tunnel_of w (w.apps k) (Some d)) facts.link request in
            absurd (cc (none, far_drawn d (w.dials d).cid (w.agents (w.dials d).link) (w.links (w.dials d).link).down))

        by_own : (b o : Bool) → ((w.apps k).stream == f) ≡ b → asks (w.streams (w.apps k).stream).connect (w.apps k).number random ≡ o → Follows (tunnel w k) (tunnel drawn k)
        by_own true true at e =
            let on : (w.apps k).stream ≡ f = eqb-true (w.apps k).stream f at in
            rw (at, e) (own on (rw on at e) (w.apps k).dial refl)
        by_own true false at e = rw (at, e) (inl (is_same k (rw (at, e) refl) (w.apps k).dial refl came))
        by_own false o at e = rw at (inl (is_same k (rw at refl) (w.apps k).dial refl came))

  -- one or the other
  by_choice : (c : Result ℕ (List ℕ)) → dial_choice w.server f protocol address random ≡ c → Lifts w (served random (dial_chosen w.server f protocol address random c) (in_is f rest w))
  by_choice (Ok l) e = drawn_lifts l (choice_up w.server f protocol address random l e)
  by_choice (Err (x ∷ xs)) e = refused_lifts x xs
  by_choice (Err []) e = absurd (has_text w.server f protocol address random e)

  pub request_lifts : Lifts w (after (ServerTakesIn f) w)
  request_lifts = rw (first, same_request (w.streams f).connect (connection_dial w f) protocol address random, keys.server.fronts_up f present) (by_choice (dial_choice w.server f protocol address random) refl)
