-- An agent is asked for a dial, which draws its ticket.
use Rattle.std.proofs.Common.{◌≡◌, ◌≢◌, ◌<◌, ◌==◌, ◌+◌, ◌⊎◌, ℕ, ℤ, pos, Bool, true, false, List, Option, Some, None, inl, inr, refl, sym, ap, ◌∙◌, subst, eqb-true, arith}
use Rattle.kn_tables.specs.Lists.{IsRising, first_where, in_place}
use Rattle.kn_server_core.proofs.OrderLemmas.{rising_put}
use Rattle.kn_server_core.proofs.SoundLemmas.{first_in_place}
use Rattle.kn_server_core.proofs.TunnelTables.{put_found}
use Rattle.kn_edge_core.specs.Agent.{dial_begun}
use Rattle.kn_edge_core.specs.AgentTables.{is_dial}
use Rattle.kn_edge_core.specs.Steps.{AgentStep}
use Rattle.kn_edge_core.specs.declared.dial.Dial.{Dial as ListedDial}
use Rattle.kn_packets.specs.Moves.{dest_after}
use Rattle.kn_packets.proofs.Fresh.{eqb_refl}
use Rattle.kn_world.specs.declared.parts.Agent.{Agent}
use Rattle.kn_world.specs.declared.parts.Dial.{Dial}
use Rattle.kn_world.specs.declared.state.State.{State}
use Rattle.kn_world.specs.Dials as dials
use Rattle.kn_world.specs.Dials.{state_at}
use Rattle.kn_world.specs.Numbers.{change, nth}
use Rattle.kn_refinement.specs.Fits.{AgentFits}
use Rattle.kn_refinement.specs.Shown.{cid_if, side_of}
use Rattle.kn_refinement.proofs.AgentFitting.{KeptConnections, TicketFits}
use Rattle.kn_refinement.proofs.AgentQuiet.{side_kept, stepped_dry}
use Rattle.kn_refinement.proofs.AgentShown.{AllOnLink, after_if, stepped_agent}
use Rattle.kn_refinement.proofs.Changes.{became, changed_other, changed_own, same_of}

module _ (s : State) (link dial : ℕ) (a : Agent) (there : nth link s.agents ≡ Some a) (fits : AgentFits s.agents s.dials) (address : List ℕ) (random : ℤ) (x : Dial) (at : nth dial s.dials ≡ Some x) (on : x.link ≡ link) (named : random ≡ pos dial)
    (unmade : (ticket : ℕ) (y : ListedDial) → first_where (is_dial ticket) a.core.dials ≡ Some y → y.random ≡ pos dial → ⊥) where
  abbrev r : AgentStep
  r = dial_begun a.core address random

  abbrev t0 : ℕ
  t0 = a.core.next_ticket

  abbrev new : ListedDial
  new = record { ticket = a.core.next_ticket; random = random }

  -- ---- what is shown
  own_cid : (z : Dial) (b : Bool) → cid_if (after_if b r z).connect_id ≡ cid_if z.connect_id
  own_cid z true = refl
  own_cid z false = refl

  own_side : (d : ℕ) (z : Dial) → nth d s.dials ≡ Some z → (b : Bool)
      → side_of (state_at (after_if b r z).connect_id (Some (record a { core = r.state }))) (after_if b r z).side ≡ dest_after true (cid_if z.connect_id) r (side_of (state_at z.connect_id (Some a)) z.side)
  own_side d z h true = let number = fits.connect_id d z h in side_kept a r z number.0 number.1 (fits.dry d z h) (λ u. refl) (λ some. some)
  own_side d z h false = let number = fits.connect_id d z h in side_kept a r z number.0 number.1 (fits.dry d z h) (λ u. refl) (λ some. some)

  elsewhere : (d : ℕ) (z : Dial) → nth d s.dials ≡ Some z → (z.link == link) ≡ false → (b : Bool) → (d == dial) ≡ b → after_if b r z ≡ z
  elsewhere d z h off false e = refl
  elsewhere d z h off true e =
      let same : z ≡ x = same_of (nth dial s.dials) z x (ap (λ i. nth i s.dials) (sym (eqb-true d dial e)) ∙ h) at in
      let yes : (z.link == link) ≡ true = ap (λ w. w.link == link) same ∙ ap (λ i. i == link) on ∙ eqb_refl link in
      absurd (cc (yes, off))

  pub asked_on_link : AllOnLink s link dial a r
  asked_on_link = record {
    on = λ d z h l. record { cid = own_cid z (d == dial); side = own_side d z h (d == dial) };
    off = λ d z h off. elsewhere d z h off (d == dial) refl;
  }

  -- ---- how the parts fit
  pub asked_connections : KeptConnections a (stepped_agent dial r a)
  asked_connections = record { lost = fits.lost link a there; next = refl; connections = refl; none = fits.no_connection link a there; up_dry = stepped_dry a r dial (fits.up_dry link a there) }

  -- a ticket of a dial of this link is older
  older : (d : ℕ) (z : Dial) → nth d s.dials ≡ Some z → z.link ≡ link → z.ticket < t0
  older d z h l = fits.ticket_older d z a h (ap (λ i. nth i s.agents) l ∙ there)

  less_not : (m n : ℕ) → m < n → m ≡ n → ⊥
  less_not m n h e = omega (arith, h, e)

  fresh : (t : ℕ) → t0 ≡ t → first_where (is_dial t) a.core.dials ≡ None
  fresh t e = here (first_where (is_dial t) a.core.dials) refl
    where
      here : (o : Option ListedDial) → first_where (is_dial t) a.core.dials ≡ o → o ≡ None
      here None h = refl
      here (Some y) h = let w = fits.of_ticket link t a y there h in absurd (less_not w.1.ticket t0 (older w.0 w.1 w.3 w.4) (w.5 ∙ sym e))

  t0_some : t0 ≢ 0
  t0_some e = let h : x.ticket < t0 = older dial x at on in absurd (omega (arith, h, e))

  module _ (f : Agent → Agent) (g : Dial → Dial) (fa : f a ≡ stepped_agent dial r a) (gx : g x ≡ dials.with_ticket t0 x) where
    abbrev b0 : Agent
    b0 = stepped_agent dial r a

    abbrev x0 : Dial
    x0 = dials.with_ticket t0 x

    abbrev xs : List Agent
    xs = change f link s.agents

    abbrev ds : List Dial
    ds = change g dial s.dials

    agent_was : (l : ℕ) (b : Agent) → nth l xs ≡ Some b → ((l ≡ link) × (b ≡ b0)) ⊎ (((l == link) ≡ false) × (nth l s.agents ≡ Some b))
    agent_was = became f link s.agents a b0 there fa

    dial_was : (d : ℕ) (z : Dial) → nth d ds ≡ Some z → ((d ≡ dial) × (z ≡ x0)) ⊎ (((d == dial) ≡ false) × (nth d s.dials ≡ Some z))
    dial_was = became g dial s.dials x x0 at gx

    dial_is : nth dial ds ≡ Some x0
    dial_is = changed_own g dial s.dials x at ∙ ap Some gx

    -- a dial that an agent made before is another one
    not_made : (t d : ℕ) (y : ListedDial) → first_where (is_dial t) a.core.dials ≡ Some y → y.random ≡ pos d → (d == dial) ≡ false
    not_made t d y h e = by (d == dial) refl
      where
        by : (b : Bool) → (d == dial) ≡ b → b ≡ false
        by false i = refl
        by true i = absurd (unmade t y h (e ∙ ap pos (eqb-true d dial i)))

    not_on : (l d : ℕ) (z : Dial) → (l == link) ≡ false → nth d s.dials ≡ Some z → z.link ≡ l → (d == dial) ≡ false
    not_on l d z off h e = by (d == dial) refl
      where
        by : (b : Bool) → (d == dial) ≡ b → b ≡ false
        by false i = refl
        by true i =
            let same : z ≡ x = same_of (nth dial s.dials) z x (ap (λ j. nth j s.dials) (sym (eqb-true d dial i)) ∙ h) at in
            let yes : (l == link) ≡ true = ap (λ j. j == link) (sym e ∙ ap (λ w. w.link) same ∙ on) ∙ eqb_refl link in
            absurd (cc (yes, off))

    abbrev OfTicket : ℕ → ℕ → ListedDial → Type 0
    OfTicket l t y = (d : ℕ) × (z : Dial) × (y.random ≡ pos d) × (nth d ds ≡ Some z) × (z.link ≡ l) × (z.ticket ≡ t)

    of_ticket_fits : (l t : ℕ) (b : Agent) (y : ListedDial) → nth l xs ≡ Some b → first_where (is_dial t) b.core.dials ≡ Some y → OfTicket l t y
    of_ticket_fits l t b y h hf = by (agent_was l b h)
      where
        own : l ≡ link → (e : Bool) → (t0 == t) ≡ e → first_where (is_dial t) (in_place (λ (z : ListedDial). z.ticket) new a.core.dials) ≡ Some y → OfTicket l t y
        own on_it true e k =
            let found : first_where (is_dial t) (in_place (λ (z : ListedDial). z.ticket) new a.core.dials) ≡ Some new = put_found (λ (z : ListedDial). z.ticket) (is_dial t) new a.core.dials (fresh t (eqb-true t0 t e)) e in
            let is_new : y ≡ new = same_of (first_where (is_dial t) (in_place (λ (z : ListedDial). z.ticket) new a.core.dials)) y new k found in
            (dial, x0, ap (λ z. z.random) is_new ∙ named, dial_is, on ∙ sym on_it, eqb-true t0 t e)
        own on_it false e k =
            let f0 : first_where (is_dial t) a.core.dials ≡ Some y = sym (first_in_place (λ (z : ListedDial). z.ticket) (is_dial t) new a.core.dials e) ∙ k in
            let w = fits.of_ticket link t a y there f0 in
            (w.0, w.1, w.2, changed_other g dial w.0 s.dials (not_made t w.0 y f0 w.2) ∙ w.3, w.4 ∙ sym on_it, w.5)

        by : ((l ≡ link) × (b ≡ b0)) ⊎ (((l == link) ≡ false) × (nth l s.agents ≡ Some b)) → OfTicket l t y
        by (inl e) = own e.0 (t0 == t) refl (ap (λ c. first_where (is_dial t) c.core.dials) (sym e.1) ∙ hf)
        by (inr e) = let w = fits.of_ticket l t b y e.1 hf in (w.0, w.1, w.2, changed_other g dial w.0 s.dials (not_on l w.0 w.1 e.0 w.3 w.4) ∙ w.3, w.4, w.5)

    once_fits : (d e : ℕ) (z w : Dial) → nth d ds ≡ Some z → nth e ds ≡ Some w → z.link ≡ w.link → z.ticket ≡ w.ticket → z.ticket ≢ 0 → d ≡ e
    once_fits d e z w hz hw le te some = by (dial_was d z hz) (dial_was e w hw)
      where
        by : ((d ≡ dial) × (z ≡ x0)) ⊎ (((d == dial) ≡ false) × (nth d s.dials ≡ Some z)) → ((e ≡ dial) × (w ≡ x0)) ⊎ (((e == dial) ≡ false) × (nth e s.dials ≡ Some w)) → d ≡ e
        by (inl i) (inl j) = i.0 ∙ sym j.0
        by (inl i) (inr j) = absurd (less_not w.ticket t0 (older e w j.1 (sym le ∙ ap (λ v. v.link) i.1 ∙ on)) (sym te ∙ ap (λ v. v.ticket) i.1))
        by (inr i) (inl j) = absurd (less_not z.ticket t0 (older d z i.1 (le ∙ ap (λ v. v.link) j.1 ∙ on)) (te ∙ ap (λ v. v.ticket) j.1))
        by (inr i) (inr j) = fits.ticket_once d e z w i.1 j.1 le te some

    older_fits : (d : ℕ) (z : Dial) (b : Agent) → nth d ds ≡ Some z → nth z.link xs ≡ Some b → z.ticket < b.core.next_ticket
    older_fits d z b hz hb = by (dial_was d z hz)
      where
        own_is : nth link xs ≡ Some b0
        own_is = changed_own f link s.agents a there ∙ ap Some fa

        new_ticket : z ≡ x0 → b ≡ b0 → z.ticket < b.core.next_ticket
        new_ticket e k = let p : z.ticket ≡ t0 = ap (λ v. v.ticket) e in let q : b.core.next_ticket ≡ t0 + 1 = ap (λ v. v.core.next_ticket) k in omega (arith, p, q)

        old : nth d s.dials ≡ Some z → ((z.link ≡ link) × (b ≡ b0)) ⊎ (((z.link == link) ≡ false) × (nth z.link s.agents ≡ Some b)) → z.ticket < b.core.next_ticket
        old h (inl e) = let p : z.ticket < t0 = older d z h e.0 in let q : b.core.next_ticket ≡ t0 + 1 = ap (λ v. v.core.next_ticket) e.1 in omega (arith, p, q)
        old h (inr e) = fits.ticket_older d z b h e.1

        by : ((d ≡ dial) × (z ≡ x0)) ⊎ (((d == dial) ≡ false) × (nth d s.dials ≡ Some z)) → z.ticket < b.core.next_ticket
        by (inl i) = new_ticket i.1 (same_of (nth link xs) b b0 (ap (λ j. nth j xs) (sym (ap (λ w. w.link) i.1 ∙ on)) ∙ hb) own_is)
        by (inr i) = old i.1 (agent_was z.link b hb)

    first_fits : (l : ℕ) (b : Agent) → nth l xs ≡ Some b → 0 < b.core.next_ticket
    first_fits l b h = by (agent_was l b h)
      where
        by : ((l ≡ link) × (b ≡ b0)) ⊎ (((l == link) ≡ false) × (nth l s.agents ≡ Some b)) → 0 < b.core.next_ticket
        by (inl e) = let q : b.core.next_ticket ≡ t0 + 1 = ap (λ v. v.core.next_ticket) e.1 in omega (arith, q)
        by (inr e) = fits.first_ticket l b e.1

    some_fits : (l t : ℕ) (b : Agent) (y : ListedDial) → nth l xs ≡ Some b → first_where (is_dial t) b.core.dials ≡ Some y → t ≢ 0
    some_fits l t b y h hf = by (agent_was l b h)
      where
        own : (e : Bool) → (t0 == t) ≡ e → first_where (is_dial t) (in_place (λ (z : ListedDial). z.ticket) new a.core.dials) ≡ Some y → t ≢ 0
        own true e k = λ zero_it. t0_some (eqb-true t0 t e ∙ zero_it)
        own false e k = fits.ticket_some link t a y there (sym (first_in_place (λ (z : ListedDial). z.ticket) (is_dial t) new a.core.dials e) ∙ k)

        by : ((l ≡ link) × (b ≡ b0)) ⊎ (((l == link) ≡ false) × (nth l s.agents ≡ Some b)) → t ≢ 0
        by (inl e) = own (t0 == t) refl (ap (λ c. first_where (is_dial t) c.core.dials) (sym e.1) ∙ hf)
        by (inr e) = fits.ticket_some l t b y e.1 hf

    rise_fits : (l : ℕ) (b : Agent) → nth l xs ≡ Some b → IsRising (λ (y : ListedDial). y.ticket) b.core.dials
    rise_fits l b h = by (agent_was l b h)
      where
        by : ((l ≡ link) × (b ≡ b0)) ⊎ (((l == link) ≡ false) × (nth l s.agents ≡ Some b)) → IsRising (λ (y : ListedDial). y.ticket) b.core.dials
        by (inl e) = subst (λ c. IsRising (λ (y : ListedDial). y.ticket) c.core.dials) (sym e.1) (rising_put (λ (y : ListedDial). y.ticket) new a.core.dials (fits.tickets_rise link a there) (fresh t0 refl))
        by (inr e) = fits.tickets_rise l b e.1

    pub asked_tickets : TicketFits xs ds
    asked_tickets = record { of_ticket = of_ticket_fits; ticket_once = once_fits; ticket_older = older_fits; first_ticket = first_fits; ticket_some = some_fits; tickets_rise = rise_fits }
