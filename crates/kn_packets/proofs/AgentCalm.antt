-- What a step of an agent brings to the facts on keys: its packets, its dials, its connections.
use Rattle.std.proofs.Common.{◌≡◌, ◌≤◌, ◌==◌, ◌+◌, ℕ, Bool, true, false, not, cond, List, [], ◌∷◌, length, Option, Some, None, refl, sym, ap, ◌∙◌, eqb-true, subst, append-nil, arith}
use Rattle.kn_packet.specs.declared.packet.Packet.{Packet}
use Rattle.kn_tables.specs.Lists.{IsRising, first_where, without}
use Rattle.kn_server_core.specs.Isolation.{Each}
use Rattle.kn_server_core.proofs.OrderLemmas.{rising_mapped, rising_without}
use Rattle.kn_server_core.proofs.SoundLemmas.{passes}
use Rattle.kn_edge_core.specs.AgentTables.{is_connection}
use Rattle.kn_edge_core.specs.EntryLists.{changed_where}
use Rattle.kn_edge_core.specs.Steps.{AgentStep}
use Rattle.kn_edge_core.specs.declared.agent_state.AgentState.{AgentState}
use Rattle.kn_edge_core.specs.declared.connection.Connection.{Connection}
use Rattle.kn_edge_core.specs.declared.dial.Dial.{Dial}
use Rattle.kn_tunnel.specs.Kinds.{is_gone}
use Rattle.kn_tunnel.specs.Tunnel.{Side}
use Rattle.kn_words.specs.Down.{is_request}
use Rattle.kn_words.specs.Up.{UpItem, up_follows, up_item, up_of, up_ordered}
use Rattle.kn_words.proofs.UpOrder.{up_order_append}
use Rattle.kn_packets.specs.Keys.{Keys, asked_at, made_at, one_more}
use Rattle.kn_packets.specs.Moves.{dest_after}
use Rattle.kn_packets.specs.Outputs.{cid_drawn, for_dest, from_agent, queued}
use Rattle.kn_packets.specs.World.{World, has_random}
use Rattle.kn_packets.proofs.AgentKept.{Calm, Made, Parts, Told}
use Rattle.kn_packets.proofs.AgentLists.{changed_other, changed_own}
use Rattle.kn_packets.proofs.Fresh.{eqb_refl}
use Rattle.kn_packets.proofs.Tables.{gone_without, kept_without, none_without}

-- ---- the lists of the link
pub whole : (w : World) (l : ℕ) → Parts w l (λ i. (w.links i).up) (λ i. (w.links i).down)
whole w l = record { up_other = λ i h. refl; down_other = λ i h. refl; up = ([], append-nil (w.links l).up); down = ([], refl) }

pub taken : (w : World) (l : ℕ) (p : Packet) (rest : List Packet) → (w.links l).down ≡ p ∷ rest → Parts w l (λ i. (w.links i).up) (λ i. cond (i == l) rest (w.links i).down)
taken w l p rest first = record { up_other = λ i h. refl; down_other = λ i h. rw h refl; up = ([], append-nil (w.links l).up); down = (p ∷ [], rw (eqb_refl l) (sym first)) }

-- ---- the connections
pub record Conns (w : World) (l : ℕ) (s : AgentStep) (S : ℕ → Side) : Type 0 where
  pub rise : IsRising (λ (x : Connection). x.connect_id) s.state.connections
  pub older : (n : ℕ) → (w.agents l).next_connect_id ≤ n → first_where (is_connection n) s.state.connections ≡ None
  pub unwritten : (d c : ℕ) (x : Connection) → (w.dials d).link ≡ l → (w.dials d).cid ≡ Some c → first_where (is_connection c) s.state.connections ≡ Some x → x.unwritten ≡ length (dest_after true (w.dials d).cid s (S d)).unwritten

-- ---- the dials
pub record Dials (w : World) (l : ℕ) (s : AgentStep) (D : ℕ → List Packet) : Type 0 where
  pub dials : Each (Made w l) s.state.dials
  pub once : (d : ℕ) → (w.dials d).link ≡ l → asked_at d (D l) + made_at d s.state.dials ≤ 1

both : (P Q : Dial → Type 0) (xs : List Dial) → Each P xs → Each Q xs → Each (λ x. P x × Q x) xs
both P Q [] h k = tt
both P Q (x ∷ xs) h k = ((h.0, k.0), both P Q xs h.1 k.1)

module _ (w : World) (l : ℕ) (keys : Keys w) where
  pub made : Each (Made w l) (w.agents l).dials
  made = both (λ x. _) (λ x. _) (w.agents l).dials (keys.agents.dials l) (keys.server.agents_older l)

  pub dials_same : (s : AgentStep) (D : ℕ → List Packet) → s.state.dials ≡ (w.agents l).dials → ((d : ℕ) → asked_at d (D l) ≤ asked_at d (w.links l).down) → Dials w l s D
  dials_same s D same fewer = record {
    dials = subst (λ xs. Each (Made w l) xs) (sym same) made;
    once = λ d on.
        let old : asked_at d (w.links l).down + made_at d (w.agents l).dials ≤ 1 = subst (λ j. asked_at d (w.links j).down + made_at d (w.agents j).dials ≤ 1) on (keys.agents.asked_once d) in
        let less : asked_at d (D l) ≤ asked_at d (w.links l).down = fewer d in
        subst (λ xs. asked_at d (D l) + made_at d xs ≤ 1) (sym same) (omega (arith, old, less));
  }

  -- nothing is written, and the connections stay
  pub conns_same : (s : AgentStep) (S : ℕ → Side) → s.state.connections ≡ (w.agents l).connections → ((cid : Option ℕ) (old : List ℕ) → for_dest cid s.outs old ≡ old) → ((d : ℕ) → (S d).unwritten ≡ (w.dials d).side.unwritten) → Conns w l s S
  conns_same s S same writes sides = record {
    rise = subst (λ xs. IsRising (λ (x : Connection). x.connect_id) xs) (sym same) (keys.agents.connections_rise l);
    older = λ n h. ap (first_where (is_connection n)) same ∙ keys.agents.connections_older l n h;
    unwritten = λ d c x on e f. found d c x on e f (w.dials d).cid e;
  }
    where
      found : (d c : ℕ) (x : Connection) → (w.dials d).link ≡ l → (w.dials d).cid ≡ Some c → first_where (is_connection c) s.state.connections ≡ Some x → (cid : Option ℕ) → cid ≡ Some c → x.unwritten ≡ length (dest_after true cid s (S d)).unwritten
      found d c x on e f None g = absurd cc
      found d c x on e f (Some m) g =
          let same_number : m ≡ c = one m c g in
          let f2 : first_where (is_connection m) s.state.connections ≡ Some x = ap (λ i. first_where (is_connection i) s.state.connections) same_number ∙ f in
          rw (f2, writes (Some m) (S d).unwritten, sides d) (keys.agents.unwritten d c x e (subst (λ j. first_where (is_connection c) (w.agents j).connections ≡ Some x) (sym on) (sym (ap (first_where (is_connection c)) same) ∙ f)))
        where
          one : (a b : ℕ) → Some a ≡ Some b → a ≡ b
          one a b h = cc

pub not_lost : (a : AgentState) → not a.lost ≡ true → (b : Bool) → b ≡ a.lost → b ≡ true → ⊥
not_lost a there b e h = let f : a.lost ≡ true = sym e ∙ h in let g : false ≡ true = rw f at there in cc

pub each_without : {E : Type 0} (P : E → Type 0) (r : E → Bool) (xs : List E) → Each P xs → Each P (without r xs)
each_without P r [] h = tt
each_without P r (x ∷ xs) h = here (r x) (each_without P r xs h.1)
  where
    here : (b : Bool) → Each P (without r xs) → Each P (cond b xs (x ∷ without r xs))
    here true later = h.1
    here false later = (h.0, later)

less_of : (b : Bool) (m n : ℕ) → m ≤ n → m ≤ one_more b n
less_of true m n h = omega (arith, h)
less_of false m n h = h

more_of : (b : Bool) (m n : ℕ) → m ≤ n → one_more b m ≤ one_more b n
more_of true m n h = omega (arith, h)
more_of false m n h = h

pub made_fewer : (d : ℕ) (r : Dial → Bool) (xs : List Dial) → made_at d (without r xs) ≤ made_at d xs
made_fewer d r [] = omega arith
made_fewer d r (x ∷ xs) = here (r x) (made_fewer d r xs)
  where
    here : (b : Bool) → made_at d (without r xs) ≤ made_at d xs → made_at d (cond b xs (x ∷ without r xs)) ≤ made_at d (x ∷ xs)
    here true later = less_of (has_random d x) (made_at d xs) (made_at d xs) (omega arith)
    here false later = more_of (has_random d x) (made_at d (without r xs)) (made_at d xs) later

-- a packet that is taken asks for no dial any more
pub asked_fewer : (w : World) (l : ℕ) (p : Packet) (rest : List Packet) → (w.links l).down ≡ p ∷ rest → (d : ℕ) → asked_at d (cond (l == l) rest (w.links l).down) ≤ asked_at d (w.links l).down
asked_fewer w l p rest first d = rw (eqb_refl l, first) (less_of (is_request d p) (asked_at d rest) (asked_at d rest) (omega arith))

none_changed : (n m : ℕ) (g : Connection → Connection) → ((x : Connection) → (g x).connect_id ≡ x.connect_id) → (xs : List Connection) → first_where (is_connection m) xs ≡ None → first_where (is_connection m) (changed_where (is_connection n) g xs) ≡ None
none_changed n m g same [] h = refl
none_changed n m g same (x ∷ xs) h = here (is_connection n x) (is_connection m x) refl h (λ k. none_changed n m g same xs k)
  where
    here : (b c : Bool) → is_connection m x ≡ c → cond c (Some x) (first_where (is_connection m) xs) ≡ None → (first_where (is_connection m) xs ≡ None → first_where (is_connection m) (changed_where (is_connection n) g xs) ≡ None)
        → first_where (is_connection m) (cond b (g x) x ∷ changed_where (is_connection n) g xs) ≡ None
    here b true i k later = absurd cc
    here true false i k later = let t : ((g x).connect_id == m) ≡ false = ap (λ z. z == m) (same x) ∙ i in rw t (later k)
    here false false i k later = rw i (later k)

-- what is to be written to a destination that has a connection
pub after_found : (cid : Option ℕ) (c : ℕ) → cid ≡ Some c → (s : AgentStep) (x : Connection) → first_where (is_connection c) s.state.connections ≡ Some x → (side : Side) → (dest_after true cid s side).unwritten ≡ for_dest (Some c) s.outs side.unwritten
after_found None c e s x f side = absurd cc
after_found (Some m) c e s x f side = let same : m ≡ c = cc in rw (same, f) refl

module _ (w : World) (l : ℕ) (keys : Keys w) where
  count : (d c : ℕ) (x : Connection) → (w.dials d).link ≡ l → (w.dials d).cid ≡ Some c → first_where (is_connection c) (w.agents l).connections ≡ Some x → x.unwritten ≡ length (w.dials d).side.unwritten
  count d c x on e f = keys.agents.unwritten d c x e (subst (λ j. first_where (is_connection c) (w.agents j).connections ≡ Some x) (sym on) f)

  -- a connection ends
  pub conns_without : (s : AgentStep) (S : ℕ → Side) (n : ℕ) (y : Connection) → first_where (is_connection n) (w.agents l).connections ≡ Some y → s.state.connections ≡ without (is_connection n) (w.agents l).connections
      → ((cid : Option ℕ) (old : List ℕ) → for_dest cid s.outs old ≡ old) → ((d c : ℕ) → (w.dials d).link ≡ l → (w.dials d).cid ≡ Some c → (n == c) ≡ false → (S d).unwritten ≡ (w.dials d).side.unwritten) → Conns w l s S
  conns_without s S n y at is writes sides = record {
    rise = subst (λ xs. IsRising (λ (x : Connection). x.connect_id) xs) (sym is) (rising_without (λ (x : Connection). x.connect_id) (is_connection n) (w.agents l).connections (keys.agents.connections_rise l));
    older = λ m h. ap (first_where (is_connection m)) is ∙ none_without (is_connection m) (is_connection n) (w.agents l).connections (keys.agents.connections_older l m h);
    unwritten = λ d c x on e f. here d c x on e f (n == c) refl ∙ sym (ap length (after_found (w.dials d).cid c e s x f (S d)));
  }
    where
      here : (d c : ℕ) (x : Connection) → (w.dials d).link ≡ l → (w.dials d).cid ≡ Some c → first_where (is_connection c) s.state.connections ≡ Some x → (b : Bool) → (n == c) ≡ b → x.unwritten ≡ length (for_dest (Some c) s.outs (S d).unwritten)
      here d c x on e f true same =
          let k : n ≡ c = eqb-true n c same in
          let none : first_where (is_connection n) (without (is_connection n) (w.agents l).connections) ≡ None = gone_without (λ (x : Connection). x.connect_id) (is_connection n) n y (w.agents l).connections (keys.agents.connections_rise l) at at in
          let found : first_where (is_connection n) (without (is_connection n) (w.agents l).connections) ≡ Some x = ap (first_where (is_connection n)) (sym is) ∙ ap (λ i. first_where (is_connection i) s.state.connections) k ∙ f in
          absurd (cc (none, found))
      here d c x on e f false other =
          let is_y : is_connection c y ≡ false = ap (λ i. i == c) (eqb-true y.connect_id n (passes (is_connection n) y (w.agents l).connections at)) ∙ other in
          let found : first_where (is_connection c) (w.agents l).connections ≡ Some x = sym (kept_without (is_connection c) (is_connection n) y (w.agents l).connections at is_y) ∙ ap (first_where (is_connection c)) (sym is) ∙ f in
          count d c x on e found ∙ sym (ap length (writes (Some c) (S d).unwritten ∙ sides d c on e other))

  -- a connection changes
  pub conns_changed : (s : AgentStep) (S : ℕ → Side) (n : ℕ) (y : Connection) (g : Connection → Connection) → ((x : Connection) → (g x).connect_id ≡ x.connect_id) → first_where (is_connection n) (w.agents l).connections ≡ Some y
      → s.state.connections ≡ changed_where (is_connection n) g (w.agents l).connections
      → ((d : ℕ) → (w.dials d).link ≡ l → (w.dials d).cid ≡ Some n → y.unwritten ≡ length (w.dials d).side.unwritten → (g y).unwritten ≡ length (for_dest (Some n) s.outs (S d).unwritten))
      → ((d c : ℕ) → (w.dials d).link ≡ l → (w.dials d).cid ≡ Some c → (n == c) ≡ false → for_dest (Some c) s.outs (S d).unwritten ≡ (w.dials d).side.unwritten) → Conns w l s S
  conns_changed s S n y g same at is own others = record {
    rise = subst (λ xs. IsRising (λ (x : Connection). x.connect_id) xs) (sym is) (rising_mapped (λ (x : Connection). x.connect_id) (λ x. cond (is_connection n x) (g x) x) (w.agents l).connections (λ x. number (is_connection n x) x) (keys.agents.connections_rise l));
    older = λ m h. ap (first_where (is_connection m)) is ∙ none (w.agents l).connections m (keys.agents.connections_older l m h);
    unwritten = λ d c x on e f. here d c x on e f (n == c) refl ∙ sym (ap length (after_found (w.dials d).cid c e s x f (S d)));
  }
    where
      number : (b : Bool) (x : Connection) → (cond b (g x) x).connect_id ≡ x.connect_id
      number true x = same x
      number false x = refl

      none : (xs : List Connection) (m : ℕ) → first_where (is_connection m) xs ≡ None → first_where (is_connection m) (changed_where (is_connection n) g xs) ≡ None
      none xs m h = by_number (n == m) refl
        where
          by_number : (b : Bool) → (n == m) ≡ b → first_where (is_connection m) (changed_where (is_connection n) g xs) ≡ None
          by_number b e = none_changed n m g same xs h

      here : (d c : ℕ) (x : Connection) → (w.dials d).link ≡ l → (w.dials d).cid ≡ Some c → first_where (is_connection c) s.state.connections ≡ Some x → (b : Bool) → (n == c) ≡ b → x.unwritten ≡ length (for_dest (Some c) s.outs (S d).unwritten)
      here d c x on e f true h =
          let k : n ≡ c = eqb-true n c h in
          let cid : (w.dials d).cid ≡ Some n = e ∙ ap Some (sym k) in
          let found : Some (g y) ≡ Some x = sym (changed_own n g same (w.agents l).connections y at) ∙ ap (first_where (is_connection n)) (sym is) ∙ ap (λ i. first_where (is_connection i) s.state.connections) k ∙ f in
          let mine : (g y).unwritten ≡ length (for_dest (Some n) s.outs (S d).unwritten) = own d on cid (count d n y on cid at) in
          unwritten_of (g y) x found ∙ mine ∙ ap (λ i. length (for_dest (Some i) s.outs (S d).unwritten)) k
        where
          unwritten_of : (a b : Connection) → Some a ≡ Some b → b.unwritten ≡ a.unwritten
          unwritten_of a b e = cc
      here d c x on e f false h =
          let found : first_where (is_connection c) (w.agents l).connections ≡ Some x = sym (changed_other n c g same h (w.agents l).connections) ∙ ap (first_where (is_connection c)) (sym is) ∙ f in
          count d c x on e found ∙ sym (ap length (others d c on e h))

  -- a dial ends
  pub dials_without : (s : AgentStep) (D : ℕ → List Packet) (r : Dial → Bool) → s.state.dials ≡ without r (w.agents l).dials → ((d : ℕ) → asked_at d (D l) ≤ asked_at d (w.links l).down) → Dials w l s D
  dials_without s D r is fewer = record {
    dials = subst (λ xs. Each (Made w l) xs) (sym is) (each_without (Made w l) r (w.agents l).dials (made w l keys));
    once = λ d on.
        let old : asked_at d (w.links l).down + made_at d (w.agents l).dials ≤ 1 = subst (λ j. asked_at d (w.links j).down + made_at d (w.agents j).dials ≤ 1) on (keys.agents.asked_once d) in
        let less : asked_at d (D l) ≤ asked_at d (w.links l).down = fewer d in
        let made_less : made_at d (without r (w.agents l).dials) ≤ made_at d (w.agents l).dials = made_fewer d r (w.agents l).dials in
        subst (λ xs. asked_at d (D l) + made_at d xs ≤ 1) (sym is) (omega (arith, old, less, made_less));
  }

  -- all that a step brings, of an agent that has its link
  pub calm_of : not (w.agents l).lost ≡ true → (s : AgentStep) (U D : ℕ → List Packet) (S : ℕ → Side) → Parts w l U D → ((d : ℕ) → ((w.dials d).link == l) ≡ false → S d ≡ (w.dials d).side)
      → ((d : ℕ) → (w.dials d).link ≡ l → cid_drawn d (from_agent s.outs) (w.dials d).cid ≡ (w.dials d).cid) → s.state.next_connect_id ≡ (w.agents l).next_connect_id → s.state.lost ≡ (w.agents l).lost
      → Each (Told w l) (from_agent s.outs) → Conns w l s S → Dials w l s D
      → ((k d : ℕ) → (w.apps k).came ≡ true → (w.apps k).dial ≡ Some d → (w.dials d).link ≡ l → up_ordered (up_item d (w.dials d).cid) (queued (not (is_gone (w.links l).server)) (U l) (from_agent s.outs)) ≡ true)
      → Calm w l s U D S
  calm_of there s U D S parts sides draws number lost told conns dials order = record {
    parts = parts;
    sides = sides;
    draws = draws;
    number = number;
    told = told;
    rise = conns.rise;
    older = conns.older;
    unwritten = conns.unwritten;
    dials = dials.dials;
    once = dials.once;
    lost = λ h. absurd (not_lost (w.agents l) there s.state.lost lost h);
    order = order;
  }

-- ---- the order
pub order_by : (item : Packet → UpItem) (b : Bool) (ps : List Packet) (p : Packet) → up_ordered item ps ≡ true → (b ≡ true → up_follows (up_of item ps) (item p) ≡ true) → up_ordered item (queued b ps (p ∷ [])) ≡ true
order_by item true ps p h f = up_order_append item ps p h (f refl)
order_by item false ps p h f = h

module _ (w : World) (l : ℕ) (keys : Keys w) where
  pub order_old : (k d : ℕ) → (w.apps k).came ≡ true → (w.apps k).dial ≡ Some d → (w.dials d).link ≡ l → up_ordered (up_item d (w.dials d).cid) (w.links l).up ≡ true
  order_old k d came de on = subst (λ j. up_ordered (up_item d (w.dials d).cid) (w.links j).up ≡ true) on ((keys.ordered k came).up d de)

  -- a packet that is seen by no dial, or that may follow anything
  pub order_one : (p : Packet) → ((k d : ℕ) → (w.apps k).came ≡ true → (w.apps k).dial ≡ Some d → (w.dials d).link ≡ l → not (is_gone (w.links l).server) ≡ true → up_follows (up_of (up_item d (w.dials d).cid) (w.links l).up) (up_item d (w.dials d).cid p) ≡ true)
      → (k d : ℕ) → (w.apps k).came ≡ true → (w.apps k).dial ≡ Some d → (w.dials d).link ≡ l → up_ordered (up_item d (w.dials d).cid) (queued (not (is_gone (w.links l).server)) (w.links l).up (p ∷ [])) ≡ true
  order_one p follows k d came de on = order_by (up_item d (w.dials d).cid) (not (is_gone (w.links l).server)) (w.links l).up p (order_old k d came de on) (follows k d came de on)
