-- A dial wins its connection, which draws its number.
use Rattle.std.proofs.Common.{◌≡◌, ◌≤◌, ◌==◌, ◌+◌, ◌++◌, ◌⊎◌, ℕ, pos, zero, suc, Bool, true, false, not, cond, List, [], ◌∷◌, length, Some, None, is_some, inl, inr, refl, sym, ap, ◌∙◌, subst, eqb-true, arith, length-append}
use Rattle.std.proofs.lemmas.Bool.{ne_eqb}
use Rattle.kn_server_core.proofs.OrderLemmas.{rising_without}
use Rattle.kn_server_core.proofs.SoundLemmas.{first_in_place}
use Rattle.kn_server_core.proofs.TunnelTables.{some_same}
use Rattle.kn_edge_core.specs.Agent.{connection_opened}
use Rattle.kn_edge_core.specs.AgentTables.{connection_at, is_connection, is_dial}
use Rattle.kn_edge_core.specs.Steps.{AgentStep}
use Rattle.kn_edge_core.specs.declared.connection.Connection.{Connection}
use Rattle.kn_edge_core.specs.declared.connection.DestState.TheVariants.{Open}
use Rattle.kn_edge_core.specs.declared.dial.Dial.{Dial as ListedDial}
use Rattle.kn_packets.specs.Moves.{dest_after}
use Rattle.kn_packets.specs.Outputs.{cid_drawn, from_agent}
use Rattle.kn_packets.proofs.Fresh.{above, eqb_refl}
use Rattle.kn_words.specs.Numbers.{is_number}
use Rattle.kn_world.specs.declared.parts.Agent.{Agent}
use Rattle.kn_world.specs.declared.parts.Dial.{Dial}
use Rattle.kn_world.specs.declared.state.State.{State}
use Rattle.kn_world.specs.Dials as dials
use Rattle.kn_world.specs.Dials.{state_at}
use Rattle.kn_world.specs.Numbers.{change, nth}
use Rattle.kn_refinement.specs.Fits.{AgentFits}
use Rattle.kn_refinement.specs.Shown.{cid_if, number_if, side_of}
use Rattle.kn_refinement.proofs.AgentFitting.{ConnectionFits, KeptTickets}
use Rattle.kn_refinement.proofs.AgentQuiet.{nothing_there, side_kept, stepped_dry}
use Rattle.kn_refinement.proofs.AgentQuietSteps.{left_dial}
use Rattle.kn_refinement.proofs.AgentShown.{AllOnLink, after_if, stepped_agent}
use Rattle.kn_refinement.proofs.Changes.{became, changed_other, changed_own}
use Rattle.kn_refinement.proofs.NumberLemmas.{nth_front, nth_more, nth_within}
use Rattle.kn_refinement.proofs.Worlds.{sides_same}

number_some : (n : ℕ) → 1 ≤ n → number_if n ≡ Some n
number_some zero h = absurd (omega (arith, h))
number_some (suc m) h = refl

other_way : (d e : ℕ) → (d == e) ≡ false → (e == d) ≡ false
other_way d e h = ne_eqb e d (λ same. let yes : (d == e) ≡ true = ap (λ i. d == i) same ∙ eqb_refl d in absurd (cc (yes, h)))

module _ (s : State) (link dial : ℕ) (a : Agent) (there : nth link s.agents ≡ Some a) (fits : AgentFits s.agents s.dials) (y : ListedDial) (x : Dial) (at : nth dial s.dials ≡ Some x) (on : x.link ≡ link) (named : y.random ≡ pos dial) (undrawn : x.connect_id ≡ pos 0) where
  abbrev r : AgentStep
  r = connection_opened a.core y

  abbrev n : ℕ
  n = a.core.next_connect_id

  abbrev opened : Connection
  opened = record { connect_id = a.core.next_connect_id; state = Open; unwritten = 0 }

  next : n ≡ suc (length a.connections)
  next = let e = fits.next link a there in omega (arith, e)

  -- ---- what is shown
  own_cid : (d : ℕ) (z : Dial) (b : Bool) → (d == dial) ≡ b → cid_if (after_if b r z).connect_id ≡ cid_drawn d (from_agent r.outs) (cid_if z.connect_id)
  own_cid d z true e =
      let is_it : is_number d y.random ≡ true = ap (is_number d) named ∙ ap (λ i. dial == i) (eqb-true d dial e) ∙ eqb_refl dial in
      number_some n (omega (arith, next)) ∙ sym (ap (λ b. cond b (Some n) (cid_if z.connect_id)) is_it)
  own_cid d z false e =
      let is_not : is_number d y.random ≡ false = ap (is_number d) named ∙ other_way d dial e in
      sym (ap (λ b. cond b (Some n) (cid_if z.connect_id)) is_not)

  -- an older connection has another number
  older : (d m : ℕ) (z : Dial) → nth d s.dials ≡ Some z → z.link ≡ link → z.connect_id ≡ pos m → (n == m) ≡ false
  older d zero z h l e = above 0 n (omega (arith, next))
  older d (suc k) z h l e =
      let old = fits.connection_of d k z h e in
      let same : old.0 ≡ a = some_same (nth link s.agents) old.0 a (ap (λ i. nth i s.agents) (sym l) ∙ old.1) there in
      let within : suc k ≤ length a.connections = nth_within (suc k) a.connections d (ap (λ b. nth (suc k) b.connections) (sym same) ∙ old.2) in
      above (suc k) n (omega (arith, within, next))

  own_side : (d : ℕ) (z : Dial) → nth d s.dials ≡ Some z → z.link ≡ link → (b : Bool) → (d == dial) ≡ b
      → side_of (state_at (after_if b r z).connect_id (Some (record a { core = r.state }))) (after_if b r z).side ≡ dest_after true (cid_if z.connect_id) r (side_of (state_at z.connect_id (Some a)) z.side)
  own_side d z h l true e =
      let same : z ≡ x = some_same (nth dial s.dials) z x (ap (λ i. nth i s.dials) (sym (eqb-true d dial e)) ∙ h) at in
      let none : z.connect_id ≡ pos 0 = ap (λ w. w.connect_id) same ∙ undrawn in
      subst (λ c. side_of (state_at (pos n) (Some (record a { core = r.state }))) z.side ≡ dest_after true (cid_if c) r (side_of (state_at c (Some a)) z.side)) (sym none)
      (sides_same _ _ refl refl (nothing_there (state_at (pos n) (Some (record a { core = r.state }))) z.side.coming.waiting (fits.dry d z h none) ∙ sym (nothing_there (state_at (pos 0) (Some a)) z.side.coming.waiting (fits.dry d z h none))) refl)
  own_side d z h l false e =
      let number = fits.connect_id d z h in
      side_kept a r z number.0 number.1 (fits.dry d z h) (λ u. refl)
      (λ some. sym (ap is_some (first_in_place (λ (c : Connection). c.connect_id) (is_connection number.0) opened a.core.connections (older d number.0 z h l number.1))) ∙ some)

  elsewhere : (d : ℕ) (z : Dial) → nth d s.dials ≡ Some z → (z.link == link) ≡ false → (b : Bool) → (d == dial) ≡ b → after_if b r z ≡ z
  elsewhere d z h off false e = refl
  elsewhere d z h off true e =
      let same : z ≡ x = some_same (nth dial s.dials) z x (ap (λ i. nth i s.dials) (sym (eqb-true d dial e)) ∙ h) at in
      let yes : (z.link == link) ≡ true = ap (λ w. w.link == link) same ∙ ap (λ i. i == link) on ∙ eqb_refl link in
      absurd (cc (yes, off))

  pub opened_on_link : AllOnLink s link dial a r
  opened_on_link = record {
    on = λ d z h l. record { cid = own_cid d z (d == dial) refl; side = own_side d z h l (d == dial) refl };
    off = λ d z h off. elsewhere d z h off (d == dial) refl;
  }

  -- ---- how the parts fit
  pub opened_tickets : KeptTickets a (stepped_agent dial r a)
  opened_tickets = record {
    next_ticket = refl;
    dials = λ t z h. left_dial y.ticket t z a.core.dials (fits.tickets_rise link a there) h;
    rise = rising_without (λ (z : ListedDial). z.ticket) (is_dial y.ticket) a.core.dials (fits.tickets_rise link a there);
  }

  module _ (f : Agent → Agent) (g : Dial → Dial) (fa : f a ≡ stepped_agent dial r a) (gx : g x ≡ dials.with_connect_id (pos n) x) where
    abbrev b0 : Agent
    b0 = stepped_agent dial r a

    abbrev x0 : Dial
    x0 = dials.with_connect_id (pos n) x

    abbrev xs : List Agent
    xs = change f link s.agents

    abbrev ds : List Dial
    ds = change g dial s.dials

    agent_was : (l : ℕ) (b : Agent) → nth l xs ≡ Some b → ((l ≡ link) × (b ≡ b0)) ⊎ (((l == link) ≡ false) × (nth l s.agents ≡ Some b))
    agent_was = became f link s.agents a b0 there fa

    agent_is : nth link xs ≡ Some b0
    agent_is = changed_own f link s.agents a there ∙ ap Some fa

    dial_was : (d : ℕ) (z : Dial) → nth d ds ≡ Some z → ((d ≡ dial) × (z ≡ x0)) ⊎ (((d == dial) ≡ false) × (nth d s.dials ≡ Some z))
    dial_was = became g dial s.dials x x0 at gx

    dial_is : nth dial ds ≡ Some x0
    dial_is = changed_own g dial s.dials x at ∙ ap Some gx

    -- the agent of a link that had one
    agent_of_link : (l : ℕ) (b : Agent) → nth l s.agents ≡ Some b → (R : Agent → Type 0) → R b → (b ≡ a → R b0) → (c : Agent) × (nth l xs ≡ Some c) × R c
    agent_of_link l b h R kept new = by (l == link) refl
      where
        by : (e : Bool) → (l == link) ≡ e → (c : Agent) × (nth l xs ≡ Some c) × R c
        by true e = (b0, ap (λ i. nth i xs) (eqb-true l link e) ∙ agent_is, new (some_same (nth link s.agents) b a (ap (λ i. nth i s.agents) (sym (eqb-true l link e)) ∙ h) there))
        by false e = (b, changed_other f link l s.agents e ∙ h, kept)

    -- a dial with a connection is another one
    not_it : (c d : ℕ) (z : Dial) (ys : List ℕ) → nth d s.dials ≡ Some z → z.connect_id ≡ pos c → nth c ys ≡ Some d → (d == dial) ≡ false
    not_it c d z ys h e hc = by (d == dial) refl
      where
        none : (m : ℕ) → m ≡ 0 → nth m ys ≡ Some d → ⊥
        none m zero_it f = let no_it : nth m ys ≡ None = ap (λ i. nth i ys) zero_it in cc

        by : (b : Bool) → (d == dial) ≡ b → b ≡ false
        by false i = refl
        by true i =
            let same : z ≡ x = some_same (nth dial s.dials) z x (ap (λ j. nth j s.dials) (sym (eqb-true d dial i)) ∙ h) at in
            let zero_it : pos c ≡ pos 0 = sym e ∙ ap (λ w. w.connect_id) same ∙ undrawn in
            let c_zero : c ≡ 0 = cc in
            absurd (none c c_zero hc)

    lost_fits : (l : ℕ) (b : Agent) → nth l xs ≡ Some b → b.at_agent ≡ not b.core.lost
    lost_fits l b h = by (agent_was l b h)
      where
        by : ((l ≡ link) × (b ≡ b0)) ⊎ (((l == link) ≡ false) × (nth l s.agents ≡ Some b)) → b.at_agent ≡ not b.core.lost
        by (inl e) = subst (λ c. c.at_agent ≡ not c.core.lost) (sym e.1) (fits.lost link a there)
        by (inr e) = fits.lost l b e.1

    next_fits : (l : ℕ) (b : Agent) → nth l xs ≡ Some b → b.core.next_connect_id ≡ length b.connections + 1
    next_fits l b h = by (agent_was l b h)
      where
        by : ((l ≡ link) × (b ≡ b0)) ⊎ (((l == link) ≡ false) × (nth l s.agents ≡ Some b)) → b.core.next_connect_id ≡ length b.connections + 1
        by (inl e) = subst (λ c. c.core.next_connect_id ≡ length c.connections + 1) (sym e.1) (ap (λ m. m + 1) (fits.next link a there ∙ sym (length-append a.connections (dial ∷ []))))
        by (inr e) = fits.next l b e.1

    connection_fits : (l c d : ℕ) (b : Agent) → nth l xs ≡ Some b → nth c b.connections ≡ Some d → (z : Dial) × (nth d ds ≡ Some z) × (z.link ≡ l) × (z.connect_id ≡ pos c)
    connection_fits l c d b h hc = by (agent_was l b h)
      where
        old : (l : ℕ) (b : Agent) → nth l s.agents ≡ Some b → nth c b.connections ≡ Some d → (z : Dial) × (nth d ds ≡ Some z) × (z.link ≡ l) × (z.connect_id ≡ pos c)
        old l b hb h = let w = fits.of_connection l c d b hb h in (w.0, changed_other g dial d s.dials (not_it c d w.0 b.connections w.1 w.3 h) ∙ w.1, w.2, w.3)

        own : l ≡ link → (e : Bool) → (c == suc (length a.connections)) ≡ e → cond e (Some dial) (nth c a.connections) ≡ Some d → (z : Dial) × (nth d ds ≡ Some z) × (z.link ≡ l) × (z.connect_id ≡ pos c)
        own on_it true e h =
            let is_dial_it : d ≡ dial = sym cc in
            (x0, ap (λ i. nth i ds) is_dial_it ∙ dial_is, on ∙ sym on_it, ap pos (next ∙ sym (eqb-true c (suc (length a.connections)) e)))
        own on_it false e h = let w = old link a there h in (w.0, w.1, w.2 ∙ sym on_it, w.3)

        by : ((l ≡ link) × (b ≡ b0)) ⊎ (((l == link) ≡ false) × (nth l s.agents ≡ Some b)) → (z : Dial) × (nth d ds ≡ Some z) × (z.link ≡ l) × (z.connect_id ≡ pos c)
        by (inl e) = own e.0 (c == suc (length a.connections)) refl (sym (nth_more a.connections dial c) ∙ ap (λ w. nth c w.connections) (sym e.1) ∙ hc)
        by (inr e) = old l b e.1 hc

    dial_fits : (d k : ℕ) (z : Dial) → nth d ds ≡ Some z → z.connect_id ≡ pos (suc k) → (b : Agent) × (nth z.link xs ≡ Some b) × (nth (suc k) b.connections ≡ Some d)
    dial_fits d k z h e = by (dial_was d z h)
      where
        by : ((d ≡ dial) × (z ≡ x0)) ⊎ (((d == dial) ≡ false) × (nth d s.dials ≡ Some z)) → (b : Agent) × (nth z.link xs ≡ Some b) × (nth (suc k) b.connections ≡ Some d)
        by (inl i) =
            let number : pos n ≡ pos (suc k) = ap (λ w. w.connect_id) (sym i.1) ∙ e in
            let same_number : n ≡ suc k = cc in
            let last : suc k ≡ suc (length a.connections) = sym same_number ∙ next in
            (b0, ap (λ j. nth j xs) (ap (λ w. w.link) i.1 ∙ on) ∙ agent_is, ap (λ m. nth m (a.connections ++ dial ∷ [])) last ∙ nth_more a.connections dial (suc (length a.connections)) ∙ ap (λ b. cond b (Some dial) (nth (suc (length a.connections)) a.connections)) (eqb_refl (suc (length a.connections))) ∙ ap Some (sym i.0))
        by (inr i) =
            let old = fits.connection_of d k z i.1 e in
            agent_of_link z.link old.0 old.1 (λ b. nth (suc k) b.connections ≡ Some d) old.2 (λ same. nth_front a.connections (dial ∷ []) (suc k) d (ap (λ b. nth (suc k) b.connections) (sym same) ∙ old.2))

    id_fits : (d : ℕ) (z : Dial) → nth d ds ≡ Some z → (m : ℕ) × (z.connect_id ≡ pos m)
    id_fits d z h = by (dial_was d z h)
      where
        by : ((d ≡ dial) × (z ≡ x0)) ⊎ (((d == dial) ≡ false) × (nth d s.dials ≡ Some z)) → (m : ℕ) × (z.connect_id ≡ pos m)
        by (inl i) = (n, ap (λ w. w.connect_id) i.1)
        by (inr i) = fits.connect_id d z i.1

    link_fits : (d : ℕ) (z : Dial) → nth d ds ≡ Some z → (b : Agent) × (nth z.link xs ≡ Some b)
    link_fits d z h = by (dial_was d z h)
      where
        by : ((d ≡ dial) × (z ≡ x0)) ⊎ (((d == dial) ≡ false) × (nth d s.dials ≡ Some z)) → (b : Agent) × (nth z.link xs ≡ Some b)
        by (inl i) = (b0, ap (λ j. nth j xs) (ap (λ w. w.link) i.1 ∙ on) ∙ agent_is)
        by (inr i) = let old = fits.link d z i.1 in let w = agent_of_link z.link old.0 old.1 (λ b. Unit {0}) tt (λ same. tt) in (w.0, w.1)

    none_fits : (l : ℕ) (b : Agent) → nth l xs ≡ Some b → connection_at (pos 0) b.core.connections ≡ None
    none_fits l b h = by (agent_was l b h)
      where
        by : ((l ≡ link) × (b ≡ b0)) ⊎ (((l == link) ≡ false) × (nth l s.agents ≡ Some b)) → connection_at (pos 0) b.core.connections ≡ None
        by (inl e) = subst (λ c. connection_at (pos 0) c.core.connections ≡ None) (sym e.1)
            (first_in_place (λ (c : Connection). c.connect_id) (is_connection 0) opened a.core.connections (above 0 n (omega (arith, next))) ∙ fits.no_connection link a there)
        by (inr e) = fits.no_connection l b e.1

    up_fits : (l : ℕ) (b : Agent) → nth l xs ≡ Some b → b.at_server ≡ false → b.up ≡ []
    up_fits l b h = by (agent_was l b h)
      where
        by : ((l ≡ link) × (b ≡ b0)) ⊎ (((l == link) ≡ false) × (nth l s.agents ≡ Some b)) → b.at_server ≡ false → b.up ≡ []
        by (inl e) = subst (λ c. c.at_server ≡ false → c.up ≡ []) (sym e.1) (stepped_dry a r dial (fits.up_dry link a there))
        by (inr e) = fits.up_dry l b e.1

    dry_fits : (d : ℕ) (z : Dial) → nth d ds ≡ Some z → z.connect_id ≡ pos 0 → z.side.coming.waiting ≡ []
    dry_fits d z h none = by (dial_was d z h)
      where
        zero_not : (m k : ℕ) → m ≡ suc k → pos m ≡ pos 0 → ⊥
        zero_not m k e f = let g : m ≡ 0 = cc in absurd (omega (arith, e, g))

        by : ((d ≡ dial) × (z ≡ x0)) ⊎ (((d == dial) ≡ false) × (nth d s.dials ≡ Some z)) → z.side.coming.waiting ≡ []
        by (inl i) = absurd (zero_not n (length a.connections) next (ap (λ w. w.connect_id) (sym i.1) ∙ none))
        by (inr i) = fits.dry d z i.1 none

    pub opened_connections : ConnectionFits xs ds
    opened_connections = record {
      lost = lost_fits;
      next = next_fits;
      of_connection = connection_fits;
      connection_of = dial_fits;
      connect_id = id_fits;
      link = link_fits;
      up_dry = up_fits;
      no_connection = none_fits;
      dry = dry_fits;
    }
