-- Steps of an agent that are nothing to the dials of its link, but that connections may leave.
use Rattle.std.proofs.Common.{◌≡◌, ◌==◌, ◌+◌, ◌⊎◌, inl, inr, ℕ, pos, zero, suc, Bool, true, false, not, List, [], ◌∷◌, if◌then◌else◌, Option, Some, None, is_some, refl, sym, ap, ◌∙◌, subst}
use Rattle.std.specs.Option.{option_map}
use Rattle.kn_tables.specs.Lists.{IsRising, first_where}
use Rattle.kn_edge_core.specs.AgentTables.{connection_at, is_connection, is_dial}
use Rattle.kn_edge_core.specs.Steps.{AgentStep}
use Rattle.kn_edge_core.specs.declared.agent_event.AgentOut.{AgentOut}
use Rattle.kn_edge_core.specs.declared.agent_event.AgentOut.TheVariants as out
use Rattle.kn_edge_core.specs.declared.agent_state.AgentState.{AgentState}
use Rattle.kn_edge_core.specs.declared.connection.Connection.{Connection}
use Rattle.kn_edge_core.specs.declared.dial.Dial.{Dial as ListedDial}
use Rattle.kn_packet.specs.declared.packet.Packet.{Packet}
use Rattle.kn_packet.specs.declared.packet.Packet.TheVariants.{CloseReq, CloseRsp, Data, DialCls, DialReq, DialRsp, Drain, Other}
use Rattle.kn_packets.specs.Moves.{dest_after}
use Rattle.kn_packets.specs.Outputs.{cid_drawn, for_dest, from_agent, queued}
use Rattle.kn_world.specs.declared.parts.Agent.{Agent}
use Rattle.kn_world.specs.declared.parts.App.{App}
use Rattle.kn_world.specs.declared.parts.Dial.{Dial}
use Rattle.kn_world.specs.declared.state.State.{State}
use Rattle.kn_world.specs.Dials as dials
use Rattle.kn_world.specs.Dials.{state_at}
use Rattle.kn_world.specs.Numbers.{change, nth}
use Rattle.kn_refinement.specs.Fits.{AgentFits, AskedFits, Fits}
use Rattle.kn_refinement.specs.Shown.{cid_if, if_there, number_if, side_of}
use Rattle.kn_refinement.proofs.AgentFitting.{KeptConnections, KeptTickets}
use Rattle.kn_refinement.proofs.AgentGiven.{dial_after, joined_after, noted_dial}
use Rattle.kn_refinement.proofs.AgentShown.{AllOnLink, after_if, stepped_agent}
use Rattle.kn_refinement.proofs.Changes.{was_before}
use Rattle.kn_refinement.proofs.NumberLemmas.{change_length}
use Rattle.kn_refinement.proofs.Worlds.{sides_same}

pub record Quiet (a : AgentState) (r : AgentStep) : Type 0 where
  pub notes : (x : Dial) → dial_after r.outs x ≡ x
  pub joins : (dial : ℕ) (xs : List ℕ) → joined_after r.outs dial xs ≡ xs
  pub draws : (d : ℕ) (cid : Option ℕ) → cid_drawn d (from_agent r.outs) cid ≡ cid
  pub writes : (c : ℕ) (bytes : List ℕ) → for_dest (Some c) r.outs bytes ≡ bytes
  pub fewer : (c : ℕ) → is_some (first_where (is_connection c) r.state.connections) ≡ true → is_some (first_where (is_connection c) a.connections) ≡ true
  pub next : r.state.next_connect_id ≡ a.next_connect_id
  pub next_ticket : r.state.next_ticket ≡ a.next_ticket
  pub dials : IsRising (λ (y : ListedDial). y.ticket) a.dials → (ticket : ℕ) (y : ListedDial) → first_where (is_dial ticket) r.state.dials ≡ Some y → first_where (is_dial ticket) a.dials ≡ Some y
  pub rise : IsRising (λ (y : ListedDial). y.ticket) a.dials → IsRising (λ (y : ListedDial). y.ticket) r.state.dials

-- ---- what is shown
pub nothing_there : {X : Type 0} (o : Option X) (bytes : List ℕ) → bytes ≡ [] → if_there o bytes ≡ []
nothing_there None bytes e = refl
nothing_there (Some x) bytes e = e

there_after : (c : ℕ) (r : AgentStep) (new old : Option Connection) (bytes : List ℕ) → ((u : List ℕ) → for_dest (Some c) r.outs u ≡ u) → (is_some new ≡ true → is_some old ≡ true)
    → if_there (option_map (λ y. y.state) new) bytes ≡ (if is_some new then for_dest (Some c) r.outs (if_there (option_map (λ y. y.state) old) bytes) else [])
there_after c r None old bytes writes fewer = refl
there_after c r (Some y) None bytes writes fewer = let no_it : false ≡ true = fewer refl in absurd cc
there_after c r (Some y) (Some z) bytes writes fewer = sym (writes bytes)

-- where the connection, if there is one, may leave and takes no bytes
pub side_kept : (a : Agent) (r : AgentStep) (x : Dial) (n : ℕ) → x.connect_id ≡ pos n → (x.connect_id ≡ pos 0 → x.side.coming.waiting ≡ []) → ((u : List ℕ) → for_dest (Some n) r.outs u ≡ u)
    → (is_some (first_where (is_connection n) r.state.connections) ≡ true → is_some (first_where (is_connection n) a.core.connections) ≡ true)
    → side_of (state_at x.connect_id (Some (record a { core = r.state }))) x.side ≡ dest_after true (cid_if x.connect_id) r (side_of (state_at x.connect_id (Some a)) x.side)
side_kept a r x n e dry writes fewer = subst (λ z. side_of (state_at z (Some (record a { core = r.state }))) x.side ≡ dest_after true (cid_if z) r (side_of (state_at z (Some a)) x.side)) (sym e) (by n e writes fewer)
  where
    by : (n : ℕ) → x.connect_id ≡ pos n → ((u : List ℕ) → for_dest (Some n) r.outs u ≡ u) → (is_some (first_where (is_connection n) r.state.connections) ≡ true → is_some (first_where (is_connection n) a.core.connections) ≡ true)
        → side_of (state_at (pos n) (Some (record a { core = r.state }))) x.side ≡ dest_after true (number_if n) r (side_of (state_at (pos n) (Some a)) x.side)
    by zero e writes fewer = sides_same _ _ refl refl
        (nothing_there (state_at (pos 0) (Some (record a { core = r.state }))) x.side.coming.waiting (dry e) ∙ sym (nothing_there (state_at (pos 0) (Some a)) x.side.coming.waiting (dry e))) refl
    by (suc m) e writes fewer = sides_same _ _ refl refl
        (there_after (suc m) r (first_where (is_connection (suc m)) r.state.connections) (first_where (is_connection (suc m)) a.core.connections) x.side.coming.waiting writes fewer) refl

pub after_same : (b : Bool) (r : AgentStep) (x : Dial) → dial_after r.outs x ≡ x → after_if b r x ≡ x
after_same true r x e = e
after_same false r x e = refl

pub quiet_on_link : (s : State) (link dial : ℕ) (a : Agent) (r : AgentStep) → ((d : ℕ) (x : Dial) → nth d s.dials ≡ Some x → (n : ℕ) × (x.connect_id ≡ pos n)) → ((d : ℕ) (x : Dial) → nth d s.dials ≡ Some x → x.connect_id ≡ pos 0 → x.side.coming.waiting ≡ []) → Quiet a.core r → AllOnLink s link dial a r
quiet_on_link s link dial a r connect_id dry quiet = record {
  on = λ d x h at. record { cid = here_cid d x; side = here_side d x h };
  off = λ d x h at. after_same (d == dial) r x (quiet.notes x);
}
  where
    here_cid : (d : ℕ) (x : Dial) → cid_if (after_if (d == dial) r x).connect_id ≡ cid_drawn d (from_agent r.outs) (cid_if x.connect_id)
    here_cid d x = ap (λ y. cid_if y.connect_id) (after_same (d == dial) r x (quiet.notes x)) ∙ sym (quiet.draws d (cid_if x.connect_id))

    here_side : (d : ℕ) (x : Dial) → nth d s.dials ≡ Some x
        → side_of (state_at (after_if (d == dial) r x).connect_id (Some (record a { core = r.state }))) (after_if (d == dial) r x).side ≡ dest_after true (cid_if x.connect_id) r (side_of (state_at x.connect_id (Some a)) x.side)
    here_side d x h =
        let number = connect_id d x h in
        ap (λ y. side_of (state_at y.connect_id (Some (record a { core = r.state }))) y.side) (after_same (d == dial) r x (quiet.notes x))
        ∙ side_kept a r x number.0 number.1 (dry d x h) (quiet.writes number.0) (quiet.fewer number.0)

-- ---- how the parts fit
pub none_if_fewer : (new old : Option Connection) → (is_some new ≡ true → is_some old ≡ true) → old ≡ None → new ≡ None
none_if_fewer None old fewer e = refl
none_if_fewer (Some y) old fewer e = let some : is_some old ≡ true = fewer refl in let none : is_some old ≡ false = ap is_some e in absurd cc

pub quiet_tickets : (a : Agent) (r : AgentStep) (dial : ℕ) → Quiet a.core r → IsRising (λ (y : ListedDial). y.ticket) a.core.dials → KeptTickets a (stepped_agent dial r a)
quiet_tickets a r dial quiet rise = record { next_ticket = quiet.next_ticket; dials = quiet.dials rise; rise = quiet.rise rise }

-- to a server that lost the link nothing comes
queued_lost : (ps qs : List Packet) → queued false ps qs ≡ ps
queued_lost ps [] = refl
queued_lost ps (q ∷ qs) = queued_lost ps qs

pub stepped_dry : (a : Agent) (r : AgentStep) (dial : ℕ) → (a.at_server ≡ false → a.up ≡ []) → (stepped_agent dial r a).at_server ≡ false → (stepped_agent dial r a).up ≡ []
stepped_dry a r dial dry e = ap (λ b. queued b a.up (from_agent r.outs)) e ∙ queued_lost a.up (from_agent r.outs) ∙ dry e

pub quiet_connections : (a : Agent) (r : AgentStep) (dial : ℕ) → Quiet a.core r → a.at_agent ≡ not r.state.lost → connection_at (pos 0) a.core.connections ≡ None → (a.at_server ≡ false → a.up ≡ []) → KeptConnections a (stepped_agent dial r a)
quiet_connections a r dial quiet lost none dry = record {
  lost = lost;
  next = quiet.next;
  connections = quiet.joins dial a.connections;
  none = none_if_fewer (first_where (is_connection 0) r.state.connections) (first_where (is_connection 0) a.core.connections) (quiet.fewer 0) none;
  up_dry = stepped_dry a r dial dry;
}

pub asked_fits : (apps : List App) (ds : List Dial) (g : Dial → Dial) (n : ℕ) → AskedFits ds apps → ((x : Dial) → (g x).app ≡ x.app) → AskedFits (change g n ds) apps
asked_fits apps ds g n fits same = record { asker = λ d y h. here d y h }
  where
    here : (d : ℕ) (y : Dial) → nth d (change g n ds) ≡ Some y → (b : App) × (nth y.app apps ≡ Some b) × (b.dial ≡ d)
    here d y h =
        let w = was_before g n d ds y h in
        let old = fits.asker d w.old w.there in
        (old.0, ap (λ k. nth k apps) (by w.old w.is) ∙ old.1, old.2)
      where
        by : (x : Dial) → ((d ≡ n) × (y ≡ g x)) ⊎ (((d == n) ≡ false) × (y ≡ x)) → y.app ≡ x.app
        by x (inl e) = ap (λ z. z.app) e.1 ∙ same x
        by x (inr e) = ap (λ z. z.app) e.1

noted_app : (p : Packet) (x : Dial) → (noted_dial p x).app ≡ x.app
noted_app (DialRsp [] connect_id random) x = refl
noted_app (DialRsp (y ∷ ys) connect_id random) x = refl
noted_app (DialReq protocol address random) x = refl
noted_app (CloseReq connect_id) x = refl
noted_app (CloseRsp error connect_id) x = refl
noted_app (Data connect_id error bytes) x = refl
noted_app (DialCls random) x = refl
noted_app Drain x = refl
noted_app (Other number) x = refl

pub dial_app : (outs : List AgentOut) (x : Dial) → (dial_after outs x).app ≡ x.app
dial_app [] x = refl
dial_app (out.ToServer p ∷ outs) x = dial_app outs (noted_dial p x) ∙ noted_app p x
dial_app (out.Dial ticket address ∷ outs) x = dial_app outs (dials.with_ticket ticket x)
dial_app (out.Write connect_id bytes ∷ outs) x = dial_app outs (dials.written bytes x)
dial_app (out.CloseDest connect_id ∷ outs) x = dial_app outs x
dial_app (out.DropDial ticket ∷ outs) x = dial_app outs x

-- agents and dials change, and what names the dials of apps stays
pub fits_with : (s : State) (xs : List Agent) (g : Dial → Dial) (n : ℕ) → Fits s → ((x : Dial) → (g x).app ≡ x.app) → AgentFits xs (change g n s.dials) → Fits (record s { agents = xs; dials = change g n s.dials })
fits_with s xs g n fits same parts = record {
  asked = asked_fits s.apps s.dials g n fits.asked same;
  agents = parts;
  clients = fits.clients;
  fronts = fits.fronts;
  next_dial = fits.next_dial ∙ ap (λ m. m + 1) (sym (change_length g n s.dials));
}
