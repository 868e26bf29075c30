-- Which steps of an agent are nothing to the dials of its link.
use Rattle.std.proofs.Common.{◌≡◌, ◌==◌, ◌++◌, ℕ, ℤ, Bool, true, false, cond, List, [], ◌∷◌, Option, Some, None, is_some, refl, sym, ap, ◌∙◌, eqb-true}
use Rattle.kn_packet.specs.declared.packet.Packet.TheVariants.{CloseRsp, Data, DialRsp, Drain}
use Rattle.kn_tables.specs.Lists.{IsRising, first_where, without}
use Rattle.kn_server_core.proofs.OrderLemmas.{rising_without}
use Rattle.kn_server_core.proofs.SoundLemmas.{passes}
use Rattle.kn_edge_core.specs.Agent.{all_closed, all_dropped, close_requested, close_by_state, connection_ended, connection_turned, dest_bytes, dest_bytes_by_state, dest_end_by_state, dest_ended, dest_failed, dest_wrote, dest_wrote_by_state, dial_refused, drain_now, ids_used_up, ignored, link_lost, told}
use Rattle.kn_edge_core.specs.AgentTables.{is_connection, is_dial, turned, with_fewer}
use Rattle.kn_edge_core.specs.EntryLists.{changed_where}
use Rattle.kn_edge_core.specs.declared.agent_event.AgentOut.TheVariants as out
use Rattle.kn_edge_core.specs.declared.agent_state.AgentState.{AgentState}
use Rattle.kn_edge_core.specs.declared.connection.Connection.{Connection}
use Rattle.kn_edge_core.specs.declared.connection.DestState.{DestState}
use Rattle.kn_edge_core.specs.declared.connection.DestState.TheVariants.{Lingering, Open}
use Rattle.kn_edge_core.specs.declared.dial.Dial.{Dial as ListedDial}
use Rattle.kn_packets.specs.Outputs.{cid_drawn, for_dest, from_agent}
use Rattle.kn_packets.proofs.Tables.{gone_without, kept_without, none_without}
use Rattle.kn_world.specs.declared.parts.Dial.{Dial}
use Rattle.kn_refinement.proofs.AgentGiven.{dial_after, joined_after}
use Rattle.kn_refinement.proofs.AgentQuiet.{Quiet}

-- ---- lists
some_without : {E : Type 0} (p r : E → Bool) (xs : List E) → is_some (first_where p (without r xs)) ≡ true → is_some (first_where p xs) ≡ true
some_without p r xs h = here (first_where p xs) refl
  where
    here : (o : Option _) → first_where p xs ≡ o → is_some (first_where p xs) ≡ true
    here None e = let no_it : is_some (first_where p (without r xs)) ≡ false = ap is_some (none_without p r xs e) in absurd cc
    here (Some x) e = ap is_some e

pub changed_there : (n m : ℕ) (g : Connection → Connection) → ((c : Connection) → (g c).connect_id ≡ c.connect_id) → (cs : List Connection) → is_some (first_where (is_connection m) (changed_where (is_connection n) g cs)) ≡ is_some (first_where (is_connection m) cs)
changed_there n m g same [] = refl
changed_there n m g same (c ∷ cs) = here (is_connection n c) (changed_there n m g same cs)
  where
    tail : (y : Connection) (e : Bool) → is_some (first_where (is_connection m) (changed_where (is_connection n) g cs)) ≡ is_some (first_where (is_connection m) cs)
        → is_some (cond e (Some y) (first_where (is_connection m) (changed_where (is_connection n) g cs))) ≡ is_some (cond e (Some c) (first_where (is_connection m) cs))
    tail y true later = refl
    tail y false later = later

    here : (b : Bool) → is_some (first_where (is_connection m) (changed_where (is_connection n) g cs)) ≡ is_some (first_where (is_connection m) cs)
        → is_some (first_where (is_connection m) (cond b (g c) c ∷ changed_where (is_connection n) g cs)) ≡ is_some (first_where (is_connection m) (c ∷ cs))
    here true later = ap (λ z. is_some (cond (z == m) (Some (g c)) (first_where (is_connection m) (changed_where (is_connection n) g cs)))) (same c) ∙ tail (g c) (c.connect_id == m) later
    here false later = tail c (c.connect_id == m) later

all_left : {E : Type 0} (r : E → Bool) (xs : List E) → first_where r xs ≡ None → without r xs ≡ xs
all_left r [] h = refl
all_left r (y ∷ ys) h = here (r y) h (all_left r ys)
  where
    here : (b : Bool) → cond b (Some y) (first_where r ys) ≡ None → (first_where r ys ≡ None → without r ys ≡ ys) → cond b ys (y ∷ without r ys) ≡ y ∷ ys
    here true e later = absurd cc
    here false e later = ap (λ zs. y ∷ zs) (later e)

-- a dial that is left stood there before
pub left_dial : (t ticket : ℕ) (y : ListedDial) (xs : List ListedDial) → IsRising (λ (z : ListedDial). z.ticket) xs → first_where (is_dial ticket) (without (is_dial t) xs) ≡ Some y → first_where (is_dial ticket) xs ≡ Some y
left_dial t ticket y xs rise h = by_other (first_where (is_dial t) xs) refl
  where
    by_same : (x : ListedDial) → first_where (is_dial t) xs ≡ Some x → (b : Bool) → is_dial ticket x ≡ b → first_where (is_dial ticket) xs ≡ Some y
    by_same x f false e = sym (kept_without (is_dial ticket) (is_dial t) x xs f e) ∙ h
    by_same x f true e =
        let same : t ≡ ticket = sym (eqb-true x.ticket t (passes (is_dial t) x xs f)) ∙ eqb-true x.ticket ticket e in
        let gone : first_where (is_dial ticket) (without (is_dial t) xs) ≡ None = gone_without (λ (z : ListedDial). z.ticket) (is_dial t) ticket x xs rise (ap (λ i. first_where (is_dial i) xs) (sym same) ∙ f) f in
        absurd (cc (gone, h))

    by_other : (o : Option ListedDial) → first_where (is_dial t) xs ≡ o → first_where (is_dial ticket) xs ≡ Some y
    by_other None f = sym (ap (λ zs. first_where (is_dial ticket) zs) (all_left (is_dial t) xs f)) ∙ h
    by_other (Some x) f = by_same x f (is_dial ticket x) refl

-- ---- steps
module _ (a : AgentState) where
  pub ignored_quiet : Quiet a (ignored a)
  ignored_quiet = record { notes = λ x. refl; joins = λ d xs. refl; draws = λ d cid. refl; writes = λ c u. refl; fewer = λ c h. h; next = refl; next_ticket = refl; dials = λ rise t y h. h; rise = λ rise. rise }

  pub refused_quiet : (x : ℕ) (xs : List ℕ) (c random : ℤ) → Quiet a (told a (out.ToServer (DialRsp (x ∷ xs) c random) ∷ []))
  refused_quiet x xs c random = record { notes = λ x. refl; joins = λ d xs. refl; draws = λ d cid. refl; writes = λ c u. refl; fewer = λ c h. h; next = refl; next_ticket = refl; dials = λ rise t y h. h; rise = λ rise. rise }

  pub told_quiet : (c : ℤ) (error : List ℕ) → Quiet a (told a (out.ToServer (CloseRsp error c) ∷ []))
  told_quiet c error = record { notes = λ x. refl; joins = λ d xs. refl; draws = λ d cid. refl; writes = λ c u. refl; fewer = λ c h. h; next = refl; next_ticket = refl; dials = λ rise t y h. h; rise = λ rise. rise }

  pub bytes_quiet : (c : ℤ) (bytes : List ℕ) → Quiet a (told a (out.ToServer (Data c [] bytes) ∷ []))
  bytes_quiet c bytes = record { notes = λ x. refl; joins = λ d xs. refl; draws = λ d cid. refl; writes = λ c u. refl; fewer = λ c h. h; next = refl; next_ticket = refl; dials = λ rise t y h. h; rise = λ rise. rise }

  pub ended_quiet : (c : ℤ) (x : Connection) (error : List ℕ) → Quiet a (connection_ended a c x error)
  ended_quiet c x error = record {
    notes = λ x. refl;
    joins = λ d xs. refl;
    draws = λ d cid. refl;
    writes = λ c u. refl;
    fewer = λ n h. some_without (is_connection n) (is_connection x.connect_id) a.connections h;
    next = refl;
    next_ticket = refl;
    dials = λ rise t y h. h;
    rise = λ rise. rise;
  }

  pub turned_quiet : (x : Connection) (g : Connection → Connection) → ((c : Connection) → (g c).connect_id ≡ c.connect_id) → Quiet a (connection_turned a x g [])
  turned_quiet x g same = record {
    notes = λ x. refl;
    joins = λ d xs. refl;
    draws = λ d cid. refl;
    writes = λ c u. refl;
    fewer = λ n h. sym (changed_there x.connect_id n g same a.connections) ∙ h;
    next = refl;
    next_ticket = refl;
    dials = λ rise t y h. h;
    rise = λ rise. rise;
  }

  pub drain_quiet : Quiet a (drain_now a)
  drain_quiet = here a.drained
    where
      here : (b : Bool) → Quiet a (cond b (ignored a) (record { state = record a { drained = true }; outs = out.ToServer Drain ∷ [] }))
      here true = ignored_quiet
      here false = record { notes = λ x. refl; joins = λ d xs. refl; draws = λ d cid. refl; writes = λ c u. refl; fewer = λ c h. h; next = refl; next_ticket = refl; dials = λ rise t y h. h; rise = λ rise. rise }

  pub failed_quiet : (d : ListedDial) → Quiet a (dial_refused a (Some d))
  failed_quiet d = record {
    notes = λ x. refl;
    joins = λ d xs. refl;
    draws = λ d cid. refl;
    writes = λ c u. refl;
    fewer = λ n h. h;
    next = refl;
    next_ticket = refl;
    dials = λ rise t y h. left_dial d.ticket t y a.dials rise h;
    rise = λ rise. rising_without (λ (y : ListedDial). y.ticket) (is_dial d.ticket) a.dials rise;
  }

  pub used_up_quiet : (d : ListedDial) → Quiet a (ids_used_up a d)
  used_up_quiet d = record {
    notes = λ x. refl;
    joins = λ d xs. refl;
    draws = λ d cid. refl;
    writes = λ c u. refl;
    fewer = λ n h. h;
    next = refl;
    next_ticket = refl;
    dials = λ rise t y h. left_dial d.ticket t y a.dials rise h;
    rise = λ rise. rising_without (λ (y : ListedDial). y.ticket) (is_dial d.ticket) a.dials rise;
  }

  -- the link is lost
  pub lost_quiet : Quiet a (link_lost a)
  lost_quiet = record {
    notes = λ x. drop_notes a.dials a.connections x;
    joins = λ d xs. drop_joins a.dials a.connections d xs;
    draws = λ d cid. ap (λ ps. cid_drawn d ps cid) (drop_sends a.dials a.connections);
    writes = λ c u. drop_writes a.dials a.connections c u;
    fewer = λ n h. absurd cc;
    next = refl;
    next_ticket = refl;
    dials = λ rise t y h. absurd cc;
    rise = λ rise. tt;
  }
    where
      close_notes : (cs : List Connection) (x : Dial) → dial_after (all_closed cs) x ≡ x
      close_notes [] x = refl
      close_notes (c ∷ cs) x = close_notes cs x

      drop_notes : (ds : List ListedDial) (cs : List Connection) (x : Dial) → dial_after (all_dropped ds ++ all_closed cs) x ≡ x
      drop_notes [] cs x = close_notes cs x
      drop_notes (d ∷ ds) cs x = drop_notes ds cs x

      close_joins : (cs : List Connection) (d : ℕ) (xs : List ℕ) → joined_after (all_closed cs) d xs ≡ xs
      close_joins [] d xs = refl
      close_joins (c ∷ cs) d xs = close_joins cs d xs

      drop_joins : (ds : List ListedDial) (cs : List Connection) (d : ℕ) (xs : List ℕ) → joined_after (all_dropped ds ++ all_closed cs) d xs ≡ xs
      drop_joins [] cs d xs = close_joins cs d xs
      drop_joins (y ∷ ds) cs d xs = drop_joins ds cs d xs

      close_sends : (cs : List Connection) → from_agent (all_closed cs) ≡ []
      close_sends [] = refl
      close_sends (c ∷ cs) = close_sends cs

      drop_sends : (ds : List ListedDial) (cs : List Connection) → from_agent (all_dropped ds ++ all_closed cs) ≡ []
      drop_sends [] cs = close_sends cs
      drop_sends (y ∷ ds) cs = drop_sends ds cs

      close_writes : (cs : List Connection) (c : ℕ) (u : List ℕ) → for_dest (Some c) (all_closed cs) u ≡ u
      close_writes [] c u = refl
      close_writes (x ∷ cs) c u = close_writes cs c u

      drop_writes : (ds : List ListedDial) (cs : List Connection) (c : ℕ) (u : List ℕ) → for_dest (Some c) (all_dropped ds ++ all_closed cs) u ≡ u
      drop_writes [] cs c u = close_writes cs c u
      drop_writes (y ∷ ds) cs c u = drop_writes ds cs c u

  -- ---- what destinations do
  by_bytes : (c : ℤ) (bytes : List ℕ) (st : DestState) → Quiet a (dest_bytes_by_state a c bytes st)
  by_bytes c bytes Open = bytes_quiet c bytes
  by_bytes c bytes Lingering = ignored_quiet

  pub dest_bytes_quiet : (c : ℤ) (bytes : List ℕ) (o : Option Connection) → Quiet a (dest_bytes a c bytes o)
  dest_bytes_quiet c bytes None = ignored_quiet
  dest_bytes_quiet c bytes (Some x) = by_bytes c bytes x.state

  by_end : (c : ℤ) (x : Connection) (st : DestState) → Quiet a (dest_end_by_state a c x st)
  by_end c x Open = ended_quiet c x []
  by_end c x Lingering = ignored_quiet

  pub dest_ended_quiet : (c : ℤ) (o : Option Connection) → Quiet a (dest_ended a c o)
  dest_ended_quiet c None = ignored_quiet
  dest_ended_quiet c (Some x) = by_end c x x.state

  by_last : (c : ℤ) (n : ℕ) (x : Connection) (b : Bool) → Quiet a (cond b (connection_ended a c x []) (connection_turned a x (with_fewer n) []))
  by_last c n x true = ended_quiet c x []
  by_last c n x false = turned_quiet x (with_fewer n) (λ y. refl)

  by_wrote : (c : ℤ) (n : ℕ) (x : Connection) (st : DestState) → Quiet a (dest_wrote_by_state a c n x st)
  by_wrote c n x Open = turned_quiet x (with_fewer n) (λ y. refl)
  by_wrote c n x Lingering = by_last c n x (x.unwritten == n)

  pub dest_wrote_quiet : (c : ℤ) (n : ℕ) (o : Option Connection) → Quiet a (dest_wrote a c n o)
  dest_wrote_quiet c n None = ignored_quiet
  dest_wrote_quiet c n (Some x) = by_wrote c n x x.state

  pub dest_failed_quiet : (c : ℤ) (o : Option Connection) → Quiet a (dest_failed a c o)
  dest_failed_quiet c None = ignored_quiet
  dest_failed_quiet c (Some x) = ended_quiet c x _

  -- ---- the server asks to close
  by_unwritten : (c : ℤ) (x : Connection) (b : Bool) → Quiet a (cond b (connection_ended a c x []) (connection_turned a x (turned Lingering) []))
  by_unwritten c x true = ended_quiet c x []
  by_unwritten c x false = turned_quiet x (turned Lingering) (λ y. refl)

  by_close : (c : ℤ) (x : Connection) (st : DestState) → Quiet a (close_by_state a c x st)
  by_close c x Open = by_unwritten c x (x.unwritten == 0)
  by_close c x Lingering = ignored_quiet

  pub close_quiet : (c : ℤ) (o : Option Connection) → Quiet a (close_requested a c o)
  close_quiet c None = told_quiet c _
  close_quiet c (Some x) = by_close c x x.state
