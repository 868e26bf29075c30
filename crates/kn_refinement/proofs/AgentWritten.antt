-- An agent has bytes for a destination.
use Rattle.std.proofs.Common.{◌≡◌, ◌==◌, ◌++◌, ℕ, pos, zero, suc, Bool, true, false, cond, List, [], ◌∷◌, if◌then◌else◌, length, Option, Some, None, is_some, refl, sym, ap, ◌∙◌, subst, eqb-true}
use Rattle.std.specs.Option.{option_map}
use Rattle.kn_tables.specs.Lists.{first_where}
use Rattle.kn_edge_core.specs.Agent.{connection_turned}
use Rattle.kn_edge_core.specs.AgentTables.{is_connection, with_more}
use Rattle.kn_edge_core.specs.EntryLists.{changed_where}
use Rattle.kn_edge_core.specs.Steps.{AgentStep}
use Rattle.kn_edge_core.specs.declared.agent_event.AgentOut.TheVariants as out
use Rattle.kn_edge_core.specs.declared.connection.Connection.{Connection}
use Rattle.kn_packets.specs.Moves.{dest_after}
use Rattle.kn_packets.specs.Outputs.{for_dest}
use Rattle.kn_packets.proofs.AgentLists.{changed_own}
use Rattle.kn_packets.proofs.Fresh.{eqb_refl}
use Rattle.kn_world.specs.declared.parts.Agent.{Agent}
use Rattle.kn_world.specs.declared.parts.Dial.{Dial}
use Rattle.kn_world.specs.declared.state.State.{State}
use Rattle.kn_world.specs.Dials as dials
use Rattle.kn_world.specs.Dials.{state_at}
use Rattle.kn_world.specs.Numbers.{nth, or_none}
use Rattle.kn_refinement.specs.Fits.{AgentFits}
use Rattle.kn_refinement.specs.Shown.{cid_if, if_there, number_if, side_of}
use Rattle.kn_refinement.proofs.AgentFitting.{KeptConnection, KeptConnections, KeptTickets}
use Rattle.kn_refinement.proofs.AgentQuiet.{none_if_fewer, side_kept, stepped_dry}
use Rattle.kn_refinement.proofs.AgentQuietSteps.{changed_there}
use Rattle.kn_refinement.proofs.AgentShown.{AllOnLink, after_if, stepped_agent}
use Rattle.kn_refinement.proofs.Changes.{same_of}
use Rattle.kn_refinement.proofs.Worlds.{sides_same}

module _ (s : State) (link dial m : ℕ) (a : Agent) (there : nth link s.agents ≡ Some a) (fits : AgentFits s.agents s.dials) (c : Connection) (bytes : List ℕ)
    (found : first_where (is_connection m) a.core.connections ≡ Some c) (number : c.connect_id ≡ m) (its : dial ≡ or_none (nth m a.connections)) where
  abbrev r : AgentStep
  r = connection_turned a.core c (with_more (length bytes)) (out.Write (pos m) bytes ∷ [])

  some_number : m ≡ 0 → ⊥
  some_number e = let no_it : first_where (is_connection m) a.core.connections ≡ None = ap (λ i. first_where (is_connection i) a.core.connections) e ∙ fits.no_connection link a there in absurd (cc (no_it, found))

  -- ---- whose bytes they are
  abbrev Its : Dial → Type 0
  Its z = (z.link ≡ link) × (z.connect_id ≡ pos m)

  is_its : (d : ℕ) (z : Dial) → nth d s.dials ≡ Some z → d ≡ dial → Its z
  is_its d z h e = here (nth m a.connections) refl (e ∙ its)
    where
      none : d ≡ 0 → ⊥
      none zero_it = let no_it : nth d s.dials ≡ None = ap (λ i. nth i s.dials) zero_it in absurd (cc (no_it, h))

      here : (o : Option ℕ) → nth m a.connections ≡ o → d ≡ or_none o → Its z
      here None k f = absurd (none f)
      here (Some d0) k f =
          let w = fits.of_connection link m d0 a there k in
          let same : z ≡ w.0 = same_of (nth d s.dials) z w.0 h (ap (λ i. nth i s.dials) f ∙ w.1) in
          (ap (λ v. v.link) same ∙ w.2, ap (λ v. v.connect_id) same ∙ w.3)

  not_its : (d n : ℕ) (z : Dial) → nth d s.dials ≡ Some z → z.link ≡ link → (d == dial) ≡ false → z.connect_id ≡ pos n → (m == n) ≡ false
  not_its d n z h l other e = by (m == n) refl
    where
      own : (n : ℕ) → m ≡ n → z.connect_id ≡ pos n → d ≡ dial
      own zero same e = absurd (some_number same)
      own (suc k) same e =
          let w = fits.connection_of d k z h e in
          let it : w.0 ≡ a = same_of (nth link s.agents) w.0 a (ap (λ i. nth i s.agents) (sym l) ∙ w.1) there in
          sym (its ∙ ap (λ i. or_none (nth i a.connections)) same ∙ ap (λ v. or_none (nth (suc k) v.connections)) (sym it) ∙ ap or_none w.2)

      by : (b : Bool) → (m == n) ≡ b → b ≡ false
      by false i = refl
      by true i = let yes : (d == dial) ≡ true = ap (λ j. j == dial) (own n (eqb-true m n i) e) ∙ eqb_refl dial in absurd (cc (yes, other))

  -- ---- what is shown
  own_cid : (z : Dial) (b : Bool) → cid_if (after_if b r z).connect_id ≡ cid_if z.connect_id
  own_cid z true = refl
  own_cid z false = refl

  new_found : first_where (is_connection m) r.state.connections ≡ Some (with_more (length bytes) c)
  new_found = ap (λ i. first_where (is_connection m) (changed_where (is_connection i) (with_more (length bytes)) a.core.connections)) number ∙ changed_own m (with_more (length bytes)) (λ y. refl) a.core.connections c found

  -- its own bytes come behind those that wait
  written_side : (z : Dial) → z.connect_id ≡ pos m
      → side_of (state_at z.connect_id (Some (record a { core = r.state }))) (dials.written bytes z).side ≡ dest_after true (cid_if z.connect_id) r (side_of (state_at z.connect_id (Some a)) z.side)
  written_side z e = subst (λ i. side_of (state_at i (Some (record a { core = r.state }))) (dials.written bytes z).side ≡ dest_after true (cid_if i) r (side_of (state_at i (Some a)) z.side)) (sym e) (by m some_number new_found found (eqb_refl m))
    where
      by : (n : ℕ) → (n ≡ 0 → ⊥) → first_where (is_connection n) r.state.connections ≡ Some (with_more (length bytes) c) → first_where (is_connection n) a.core.connections ≡ Some c → (m == n) ≡ true
          → side_of (state_at (pos n) (Some (record a { core = r.state }))) (dials.written bytes z).side ≡ dest_after true (number_if n) r (side_of (state_at (pos n) (Some a)) z.side)
      by zero some new old same = absurd (some refl)
      by (suc k) some new old same = sides_same _ _ refl refl
          (ap (λ o. if_there (option_map (λ y. y.state) o) (z.side.coming.waiting ++ bytes)) new
          ∙ sym (ap (λ o. if is_some o then for_dest (Some (suc k)) r.outs (if_there (option_map (λ y. y.state) (first_where (is_connection (suc k)) a.core.connections)) z.side.coming.waiting) else []) new
          ∙ ap (λ o. for_dest (Some (suc k)) r.outs (if_there (option_map (λ y. y.state) o) z.side.coming.waiting)) old
          ∙ ap (λ b. cond b (z.side.coming.waiting ++ bytes) z.side.coming.waiting) same)) refl

  own_side : (d : ℕ) (z : Dial) → nth d s.dials ≡ Some z → z.link ≡ link → (b : Bool) → (d == dial) ≡ b
      → side_of (state_at (after_if b r z).connect_id (Some (record a { core = r.state }))) (after_if b r z).side ≡ dest_after true (cid_if z.connect_id) r (side_of (state_at z.connect_id (Some a)) z.side)
  own_side d z h l true e = written_side z (is_its d z h (eqb-true d dial e)).1
  own_side d z h l false e =
      let n = fits.connect_id d z h in
      side_kept a r z n.0 n.1 (fits.dry d z h) (λ u. ap (λ b. cond b (u ++ bytes) u) (not_its d n.0 z h l e n.1))
      (λ some. sym (changed_there c.connect_id n.0 (with_more (length bytes)) (λ y. refl) a.core.connections) ∙ some)

  elsewhere : (d : ℕ) (z : Dial) → nth d s.dials ≡ Some z → (z.link == link) ≡ false → (b : Bool) → (d == dial) ≡ b → after_if b r z ≡ z
  elsewhere d z h off false e = refl
  elsewhere d z h off true e = let yes : (z.link == link) ≡ true = ap (λ i. i == link) (is_its d z h (eqb-true d dial e)).0 ∙ eqb_refl link in absurd (cc (yes, off))

  pub written_on_link : AllOnLink s link dial a r
  written_on_link = record {
    on = λ d z h l. record { cid = own_cid z (d == dial); side = own_side d z h l (d == dial) refl };
    off = λ d z h off. elsewhere d z h off (d == dial) refl;
  }

  -- ---- how the parts fit
  pub written_tickets : KeptTickets a (stepped_agent dial r a)
  written_tickets = record { next_ticket = refl; dials = λ t y h. h; rise = fits.tickets_rise link a there }

  pub written_connections : KeptConnections a (stepped_agent dial r a)
  written_connections = record {
    lost = fits.lost link a there;
    next = refl;
    connections = refl;
    none = none_if_fewer (first_where (is_connection 0) r.state.connections) (first_where (is_connection 0) a.core.connections) (λ some. sym (changed_there c.connect_id 0 (with_more (length bytes)) (λ y. refl) a.core.connections) ∙ some) (fits.no_connection link a there);
    up_dry = stepped_dry a r dial (fits.up_dry link a there);
  }

  pub written_connection : (z : Dial) → nth dial s.dials ≡ Some z → KeptConnection z (dials.written bytes z)
  written_connection z h = record { link = refl; connect_id = refl; dry = λ none. absurd (zero_not (sym (is_its dial z h refl).1 ∙ none)) }
    where
      zero_not : pos m ≡ pos 0 → ⊥
      zero_not e = some_number cc
