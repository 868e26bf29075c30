-- Whom a turn visits, and which gates it asks: parts of a turn, one after the other.
use Rattle.std.proofs.Common.{◌≡◌, ℕ, ◌⊎◌, inl, inr, Bool, true, false, not, ◌==◌, ◌+◌, ◌≤◌, ◌||◌, ◌&&◌, List, [], ◌∷◌, ◌++◌, None, Some, sym, refl, ap, ◌∙◌, subst, append_assoc, take, drop, length, ◌<◌, Result, Ok, Err}
use Rattle.std.specs.Prelude.{Option, if◌then◌else◌, nat_lt, OnOk, ⊤}
use Rattle.std.specs.Ordering.{nat_cmp}
use Rattle.std.specs.BTreeMap.{is_at}
use Rattle.kn_port.specs.declared.names.Gate.{Gate}
use Rattle.kn_port.specs.declared.names.Gate.TheVariants as gate
use Rattle.kn_port.specs.declared.names.Accepted.{Accepted}
use Rattle.kn_port.specs.declared.names.Accepted.TheVariants as accepted
use Rattle.kn_port.specs.declared.names.Dialled.{Dialled}
use Rattle.kn_port.specs.declared.names.Dialled.TheVariants as dialled
use Rattle.kn_port.specs.declared.names.DialEnd.{DialEnd}
use Rattle.kn_port.specs.declared.names.DialEnd.TheVariants as dial_end
use Rattle.kn_port.specs.declared.names.PortGot.{PortGot}
use Rattle.kn_port.specs.declared.names.PortGot.TheVariants as got
use Rattle.kn_port.specs.declared.names.Took.{Took}
use Rattle.kn_port.specs.declared.names.Took.TheVariants as took
use Rattle.kn_port.specs.declared.entry.Entry.{Entry}
use Rattle.kn_port.specs.declared.entry.Entry.TheVariants as entry
use Rattle.kn_port.specs.Journal.{Tells, read_entries, write_entries, dial_end_entries, dial_entries}
use Rattle.kn_loop.specs.declared.line.Line.{Line}
use Rattle.kn_loop.specs.declared.gates.GateState.{GateState}
use Rattle.kn_loop.specs.declared.gates.Gates.{Gates}
use Rattle.kn_loop.specs.declared.watch.Watch.{Watch}
use Rattle.kn_loop.specs.Calls.{Answers, Call, unpaused, DialTaken}
use Rattle.kn_loop.specs.Doing.{is_busy, is_due, is_active, may_ask, may_read, may_write, reads_now, writes_now}
use Rattle.kn_loop.specs.Kept.{is_in, line_of, copies, NoTwice}
use Rattle.kn_loop.specs.Gates.{gate_of, with_gate, is_unsettled, gates_from, gates_after, gate_accepted}
use Rattle.kn_loop.specs.Known.{Known, known_of, known_after, known_from, held_after, drain_after, Follows}
use Rattle.kn_loop.specs.Ran.{Made, DialMade, TicketDid, Ran, EntryDid, ReadDid, WroteDid, DialEndDid, AcceptDid, connection_limit, has_wait, leads_to_server}
use Rattle.kn_loop.specs.Turns.{Covers, take_got, take_took}
use Rattle.kn_loop.specs.Visited.{MadeWith, IsVisited, VisitsOf, VisitsAll, VisitsOnce, Within, AsksGate, AsksGates, has_visit, is_visit, has_accept, is_accept, is_gate}
use Rattle.kn_loop.specs.Watch.{lines_from, line_after, at_conn, line_read, line_wrote, line_dialled}
use Rattle.kn_loop.proofs.Making.{tells_nothing, follows_nothing, made_then, then_entries, ran_then, ran_next, known_then}
use Rattle.kn_loop.proofs.Covering.{or_first, or_second, or_cases, key_conn, in_front, in_end, in_split, joined, covers_paused}
use Rattle.kn_loop.proofs.Once.{same_le, within_then, within_quiet, within_nothing, WithinBut, within_next, within_all, visits_once, single_turned}

pub both_ok : {T E : Type 0} {A B C : Type 0} (r : Result T E) → OnOk r A → OnOk r B → (A → B → C) → OnOk r C
both_ok (Ok x) a b f = f a b
both_ok (Err e) a b f = tt

pub always_ok : {T E : Type 0} {A : Type 0} (r : Result T E) → A → OnOk r A
always_ok (Ok x) a = a
always_ok (Err e) a = tt

-- ---- entries, one after the other
front_or : (b x y : Bool) → (x ≡ true → y ≡ true) → (b || x) ≡ true → (b || y) ≡ true
front_or true x y f h = refl
front_or false x y f h = f h

pub visit_front : (es fs : List Entry) (c : ℕ) → has_visit es c ≡ true → has_visit (es ++ fs) c ≡ true
visit_front [] fs c h = cc
visit_front (e ∷ es) fs c h = front_or (is_visit e c) (has_visit es c) (has_visit (es ++ fs) c) (visit_front es fs c) h

pub visit_end : (es fs : List Entry) (c : ℕ) → has_visit fs c ≡ true → has_visit (es ++ fs) c ≡ true
visit_end [] fs c h = h
visit_end (e ∷ es) fs c h = or_second (is_visit e c) (has_visit (es ++ fs) c) (visit_end es fs c h)

pub accept_front : (es fs : List Entry) (g : Gate) → has_accept es g ≡ true → has_accept (es ++ fs) g ≡ true
accept_front [] fs g h = cc
accept_front (e ∷ es) fs g h = front_or (is_accept e g) (has_accept es g) (has_accept (es ++ fs) g) (accept_front es fs g) h

pub accept_end : (es fs : List Entry) (g : Gate) → has_accept fs g ≡ true → has_accept (es ++ fs) g ≡ true
accept_end [] fs g h = h
accept_end (e ∷ es) fs g h = or_second (is_accept e g) (has_accept (es ++ fs) g) (accept_end es fs g h)

-- ---- what is to be done at a connection is to ask, to read or to write
serves_at : (failed dialling ended reads writes asked wants out : Bool) → (dialling && not failed) ≡ false
    → not (if failed then true else if dialling then reads || not asked else (ended || reads || not wants) && (writes || not out)) ≡ true
    → ((not dialling && not ended && not failed) && not reads && wants) ≡ false → ((not dialling && not failed) && not writes && out) ≡ true
serves_at true dialling ended reads writes asked wants out a b r = cc
serves_at false true ended reads writes asked wants out a b r = cc
serves_at false false true reads true asked wants out a b r = cc
serves_at false false true reads false asked wants true a b r = refl
serves_at false false true reads false asked wants false a b r = cc
serves_at false false false true true asked wants out a b r = cc
serves_at false false false true false asked wants true a b r = refl
serves_at false false false true false asked wants false a b r = cc
serves_at false false false false writes asked true out a b r = cc
serves_at false false false false true asked false out a b r = cc
serves_at false false false false false asked false true a b r = refl
serves_at false false false false false asked false false a b r = cc

pub busy_serves : (l : Option Line) (a : Answers) → may_ask l ≡ false → is_busy l a ≡ true → reads_now l a ≡ false → writes_now l a ≡ true
busy_serves None a ask busy read = cc
busy_serves (Some l) a ask busy read = serves_at l.failed l.dialling l.ended l.read_waits l.write_waits l.asked a.wants a.has_out ask busy read

-- ---- gates
pub own_gate : (g : Gate) → is_gate g g ≡ true
own_gate gate.Agents = refl
own_gate gate.Clients = refl
own_gate gate.Connect = refl
own_gate gate.Apps = refl

same_gate_at : (h g : Gate) (s : GateState) (gs : Gates) → is_gate h g ≡ false → gate_of (with_gate h s gs) g ≡ gate_of gs g
same_gate_at gate.Agents gate.Agents s gs e = cc
same_gate_at gate.Agents gate.Clients s gs e = refl
same_gate_at gate.Agents gate.Connect s gs e = refl
same_gate_at gate.Agents gate.Apps s gs e = refl
same_gate_at gate.Clients gate.Agents s gs e = refl
same_gate_at gate.Clients gate.Clients s gs e = cc
same_gate_at gate.Clients gate.Connect s gs e = refl
same_gate_at gate.Clients gate.Apps s gs e = refl
same_gate_at gate.Connect gate.Agents s gs e = refl
same_gate_at gate.Connect gate.Clients s gs e = refl
same_gate_at gate.Connect gate.Connect s gs e = cc
same_gate_at gate.Connect gate.Apps s gs e = refl
same_gate_at gate.Apps gate.Agents s gs e = refl
same_gate_at gate.Apps gate.Clients s gs e = refl
same_gate_at gate.Apps gate.Connect s gs e = refl
same_gate_at gate.Apps gate.Apps s gs e = cc

same_accepted : (h g : Gate) (a : Accepted) (gs : Gates) → is_gate h g ≡ false → gate_of (gate_accepted h a gs) g ≡ gate_of gs g
same_accepted h g (accepted.Conn n) gs e = same_gate_at h g _ gs e
same_accepted h g accepted.NotYet gs e = same_gate_at h g _ gs e
same_accepted h g accepted.Failed gs e = same_gate_at h g _ gs e
same_accepted h g accepted.NoMemory gs e = refl

or_none_first : (b x : Bool) → (b || x) ≡ false → b ≡ false
or_none_first true x h = h
or_none_first false x h = refl

or_none_second : (b x : Bool) → (b || x) ≡ false → x ≡ false
or_none_second true x h = cc
or_none_second false x h = h

module _ {N : Type 0} (did : N → Call → N → Type 0) (outgoing : N → ℕ → List ℕ) (said : N → ℕ → Answers) (top : N → ℕ) where
  -- a gate that is not asked stays as it was
  pub gate_stays : (es : List Entry) (k : Known) (old new : N) (g : Gate) → Ran did outgoing said top k old es new → has_accept es g ≡ false → gate_of (gates_from es k.gates) g ≡ gate_of k.gates g
  gate_stays [] k old new g ran none = refl
  gate_stays (entry.Listen h address answer ∷ es) k old new g ran none = absurd ran.1
  gate_stays (entry.Wait names answer ∷ es) k old new g ran none = absurd ran.1
  gate_stays (entry.Accept h answer ∷ es) k old new g ran none =
      gate_stays es (known_after (entry.Accept h answer) k) ran.0 new g ran.2 (or_none_second (is_gate h g) (has_accept es g) none) ∙ same_accepted h g answer k.gates (or_none_first (is_gate h g) (has_accept es g) none)
  gate_stays (entry.Dial address answer ∷ es) k old new g ran none = gate_stays es (known_after (entry.Dial address answer) k) ran.0 new g ran.2 none
  gate_stays (entry.DialEnd n answer ∷ es) k old new g ran none = gate_stays es (known_after (entry.DialEnd n answer) k) ran.0 new g ran.2 none
  gate_stays (entry.Read n room bytes answer ∷ es) k old new g ran none = gate_stays es (known_after (entry.Read n room bytes answer) k) ran.0 new g ran.2 none
  gate_stays (entry.Write n given bytes answer ∷ es) k old new g ran none = gate_stays es (known_after (entry.Write n given bytes answer) k) ran.0 new g ran.2 none
  gate_stays (entry.Shut n ∷ es) k old new g ran none = gate_stays es (known_after (entry.Shut n) k) ran.0 new g ran.2 none

  asks_later : (takes : Gate → Bool) (g : Gate) (es fs : List Entry) (w0 w1 : Watch) (n0 n1 : N) (b : Bool) → has_accept es g ≡ b → Ran did outgoing said top (known_of w0) n0 es n1 → w1.gates ≡ gates_from es w0.gates
      → AsksGate takes w1.gates g fs → AsksGate takes w0.gates g (es ++ fs)
  asks_later takes g es fs w0 w1 n0 n1 true e ran gates asks t u = accept_front es fs g e
  asks_later takes g es fs w0 w1 n0 n1 false e ran gates asks t u =
      accept_end es fs g (asks t (ap (λ gs. is_unsettled (gate_of gs g)) gates ∙ ap is_unsettled (gate_stays es (known_of w0) n0 n1 g ran e) ∙ u))

  -- ---- a part with a condition on its entries, and another part
  pub with_then : (p q r : List Entry → Type 0) (t0 t1 t2 : Option (List Entry)) (w0 w1 w2 : Watch) (n0 n1 n2 : N)
      → (a : MadeWith did outgoing said top p t0 t1 w0 w1 n0 n1) → (b : MadeWith did outgoing said top q t1 t2 w1 w2 n1 n2)
      → r (a.made.entries ++ b.made.entries) → MadeWith did outgoing said top r t0 t2 w0 w2 n0 n2
  with_then p q r t0 t1 t2 w0 w1 w2 n0 n1 n2 a b h = record {
    made = made_then did outgoing said top t0 t1 t2 w0 w1 w2 n0 n1 n2 a.made b.made;
    holds = subst r (sym (then_entries did outgoing said top t0 t1 t2 w0 w1 w2 n0 n1 n2 a.made b.made)) h;
  }

  pub with_weaker : (p q : List Entry → Type 0) (t0 t1 : Option (List Entry)) (w0 w1 : Watch) (n0 n1 : N) → ((es : List Entry) → p es → q es)
      → MadeWith did outgoing said top p t0 t1 w0 w1 n0 n1 → MadeWith did outgoing said top q t0 t1 w0 w1 n0 n1
  with_weaker p q t0 t1 w0 w1 n0 n1 f m = record { made = m.made; holds = f m.made.entries m.holds }

  -- ---- one entry
  one_visit : (e : Entry) (n : ℕ) (asks reads writes : List ℕ) → Within asks reads writes (e ∷ []) → (t0 t1 : Option (List Entry)) (w0 w1 : Watch) (ls : List (ℕ × Line)) (old new : N)
      → Tells t0 t1 (e ∷ []) → ((c : ℕ) → line_of ls c ≡ line_after e c (line_of w0.lines c)) → w0.held ≡ held_after e w0.held → w0.gates ≡ gates_after e w0.gates → w0.drain ≡ drain_after e w0.drain
      → w1 ≡ record w0 { lines = ls } → EntryDid did outgoing said top (known_of w0) old e new → has_wait (e ∷ []) ≡ false → has_visit (e ∷ []) n ≡ true
      → MadeWith did outgoing said top (λ es. (has_visit es n ≡ true) × Within asks reads writes es) t0 t1 w0 w1 old new
  one_visit e n asks reads writes within t0 t1 w0 w1 ls old new told lines held gates drain same ran no_wait visit =
      subst (λ w. MadeWith did outgoing said top (λ es. (has_visit es n ≡ true) × Within asks reads writes es) t0 t1 w0 w old new) (sym same) (record {
        made = record { entries = e ∷ []; told = told; follows = record { lines = lines; held = held; gates = gates; drain = drain; course = refl }; ran = (new, ran, refl); no_wait = no_wait };
        holds = (visit, within);
      })

  read_at : (n : ℕ) (room : List ℕ) (a : PortGot) (t0 t1 : Option (List Entry)) (w0 w1 : Watch) (ls : List (ℕ × Line)) (old new : N)
      → Tells t0 t1 (read_entries n room a) → length room ≡ 16384 → may_read (line_of w0.lines n) ≡ true → (said old n).wants ≡ true
      → ((c : ℕ) → line_of ls c ≡ at_conn n (line_read a) c (line_of w0.lines c)) → w1 ≡ record w0 { lines = ls }
      → ReadDid did outgoing old n (take_got a room) a new → has_visit (read_entries n room a) n ≡ true
      → MadeWith did outgoing said top (λ es. (has_visit es n ≡ true) × Within [] (n ∷ []) [] es) t0 t1 w0 w1 old new
  read_at n room (got.Bytes k) t0 t1 w0 w1 ls old new told size may wanted lines same ran some =
      one_visit (entry.Read n (length room) (take k room) (got.Bytes k)) n [] (n ∷ []) [] (λ c. (same_le 0, same_le (copies c (n ∷ [])), same_le 0)) t0 t1 w0 w1 ls old new told lines refl refl refl same (may, wanted, size, ran) refl some
  read_at n room got.NotYet t0 t1 w0 w1 ls old new told size may wanted lines same ran some =
      one_visit (entry.Read n (length room) [] got.NotYet) n [] (n ∷ []) [] (λ c. (same_le 0, same_le (copies c (n ∷ [])), same_le 0)) t0 t1 w0 w1 ls old new told lines refl refl refl same (may, wanted, size, ran) refl some
  read_at n room got.End t0 t1 w0 w1 ls old new told size may wanted lines same ran some =
      one_visit (entry.Read n (length room) [] got.End) n [] (n ∷ []) [] (λ c. (same_le 0, same_le (copies c (n ∷ [])), same_le 0)) t0 t1 w0 w1 ls old new told lines refl refl refl same (may, wanted, size, ran) refl some
  read_at n room got.Failed t0 t1 w0 w1 ls old new told size may wanted lines same ran some =
      one_visit (entry.Read n (length room) [] got.Failed) n [] (n ∷ []) [] (λ c. (same_le 0, same_le (copies c (n ∷ [])), same_le 0)) t0 t1 w0 w1 ls old new told lines refl refl refl same (may, wanted, size, ran) refl some
  read_at n room got.NoMemory t0 t1 w0 w1 ls old new told size may wanted lines same ran some = cc

  pub read_visit : (n : ℕ) (room rest : List ℕ) (a : PortGot) (t0 t1 : Option (List Entry)) (w0 w1 : Watch) (ls : List (ℕ × Line)) (old new : N) → rest ≡ room
      → Tells t0 t1 (read_entries n room a) → length room ≡ 16384 → may_read (line_of w0.lines n) ≡ true → (said old n).wants ≡ true
      → ((c : ℕ) → line_of ls c ≡ at_conn n (line_read a) c (line_of w0.lines c)) → w1 ≡ record w0 { lines = ls }
      → ReadDid did outgoing old n (take_got a rest) a new → has_visit (read_entries n rest a) n ≡ true
      → MadeWith did outgoing said top (λ es. (has_visit es n ≡ true) × Within [] (n ∷ []) [] es) t0 t1 w0 w1 old new
  read_visit n room rest a t0 t1 w0 w1 ls old new e told size may wanted lines same ran some = read_at n room a t0 t1 w0 w1 ls old new told size may wanted lines same
      (subst (λ bs. ReadDid did outgoing old n (take_got a bs) a new) e ran) (subst (λ bs. has_visit (read_entries n bs a) n ≡ true) e some)

  write_at : (n : ℕ) (bytes : List ℕ) (a : Took) (t0 t1 : Option (List Entry)) (w0 w1 : Watch) (ls : List (ℕ × Line)) (old new : N)
      → Tells t0 t1 (write_entries n bytes a) → bytes ≡ outgoing old n → 0 < length bytes → may_write (line_of w0.lines n) ≡ true
      → ((c : ℕ) → line_of ls c ≡ at_conn n (line_wrote a) c (line_of w0.lines c)) → w1 ≡ record w0 { lines = ls }
      → WroteDid did outgoing old n (take_took a bytes) a new → has_visit (write_entries n bytes a) n ≡ true
      → MadeWith did outgoing said top (λ es. (has_visit es n ≡ true) × Within [] [] (n ∷ []) es) t0 t1 w0 w1 old new
  write_at n bytes (took.Bytes k) t0 t1 w0 w1 ls old new told all size may lines same ran some =
      one_visit (entry.Write n (length bytes) (take k bytes) (took.Bytes k)) n [] [] (n ∷ []) (λ c. (same_le 0, same_le 0, same_le (copies c (n ∷ [])))) t0 t1 w0 w1 ls old new told lines refl refl refl same (may, size, ap length all, ran) refl some
  write_at n bytes took.NotYet t0 t1 w0 w1 ls old new told all size may lines same ran some =
      one_visit (entry.Write n (length bytes) [] took.NotYet) n [] [] (n ∷ []) (λ c. (same_le 0, same_le 0, same_le (copies c (n ∷ [])))) t0 t1 w0 w1 ls old new told lines refl refl refl same (may, size, ap length all, ran) refl some
  write_at n bytes took.Failed t0 t1 w0 w1 ls old new told all size may lines same ran some =
      one_visit (entry.Write n (length bytes) [] took.Failed) n [] [] (n ∷ []) (λ c. (same_le 0, same_le 0, same_le (copies c (n ∷ [])))) t0 t1 w0 w1 ls old new told lines refl refl refl same (may, size, ap length all, ran) refl some
  write_at n bytes took.NoMemory t0 t1 w0 w1 ls old new told all size may lines same ran some = cc

  pub write_visit : (n : ℕ) (bytes sent : List ℕ) (a : Took) (t0 t1 : Option (List Entry)) (w0 w1 : Watch) (ls : List (ℕ × Line)) (old new : N) → sent ≡ bytes
      → Tells t0 t1 (write_entries n sent a) → bytes ≡ outgoing old n → 0 < length bytes → may_write (line_of w0.lines n) ≡ true
      → ((c : ℕ) → line_of ls c ≡ at_conn n (line_wrote a) c (line_of w0.lines c)) → w1 ≡ record w0 { lines = ls }
      → WroteDid did outgoing old n (take_took a bytes) a new → has_visit (write_entries n bytes a) n ≡ true
      → MadeWith did outgoing said top (λ es. (has_visit es n ≡ true) × Within [] [] (n ∷ []) es) t0 t1 w0 w1 old new
  write_visit n bytes sent a t0 t1 w0 w1 ls old new e told all size may lines same ran some = write_at n bytes a t0 t1 w0 w1 ls old new (subst (λ bs. Tells t0 t1 (write_entries n bs a)) e told) all size may lines same ran some

  pub ask_visit : (n : ℕ) (a : DialEnd) (t0 t1 : Option (List Entry)) (w0 w1 : Watch) (ls : List (ℕ × Line)) (old new : N)
      → Tells t0 t1 (dial_end_entries n a) → may_ask (line_of w0.lines n) ≡ true
      → ((c : ℕ) → line_of ls c ≡ at_conn n (line_dialled a) c (line_of w0.lines c)) → w1 ≡ record w0 { lines = ls }
      → DialEndDid did outgoing (leads_to_server (line_of w0.lines n)) old n a new → has_visit (dial_end_entries n a) n ≡ true
      → MadeWith did outgoing said top (λ es. (has_visit es n ≡ true) × Within (n ∷ []) [] [] es) t0 t1 w0 w1 old new
  ask_visit n dial_end.Up t0 t1 w0 w1 ls old new told may lines same ran some =
      one_visit (entry.DialEnd n dial_end.Up) n (n ∷ []) [] [] (λ c. (same_le (copies c (n ∷ [])), same_le 0, same_le 0)) t0 t1 w0 w1 ls old new told lines refl refl refl same (may, ran) refl some
  ask_visit n dial_end.NotYet t0 t1 w0 w1 ls old new told may lines same ran some =
      one_visit (entry.DialEnd n dial_end.NotYet) n (n ∷ []) [] [] (λ c. (same_le (copies c (n ∷ [])), same_le 0, same_le 0)) t0 t1 w0 w1 ls old new told lines refl refl refl same (may, ran) refl some
  ask_visit n dial_end.Failed t0 t1 w0 w1 ls old new told may lines same ran some =
      one_visit (entry.DialEnd n dial_end.Failed) n (n ∷ []) [] [] (λ c. (same_le (copies c (n ∷ [])), same_le 0, same_le 0)) t0 t1 w0 w1 ls old new told lines refl refl refl same (may, ran) refl some
  ask_visit n dial_end.NoMemory t0 t1 w0 w1 ls old new told may lines same ran some = cc

  pub one_asked : (g : Gate) (a : Accepted) (t0 t1 : Option (List Entry)) (w0 w1 : Watch) (old new : N) → Tells t0 t1 (entry.Accept g a ∷ []) → Follows (entry.Accept g a ∷ []) w0 w1
      → is_unsettled (gate_of w0.gates g) ≡ true → AcceptDid did outgoing (nat_lt w0.held connection_limit) old g a new
      → MadeWith did outgoing said top (λ es. (has_accept es g ≡ true) × Within [] [] [] es) t0 t1 w0 w1 old new
  one_asked g a t0 t1 w0 w1 old new told follows due ran = record {
    made = record { entries = entry.Accept g a ∷ []; told = told; follows = follows; ran = (new, (due, ran), refl); no_wait = refl };
    holds = (or_first (is_gate g g) false (own_gate g), λ c. (same_le 0, same_le 0, same_le 0));
  }

  -- a read where it is due, then a write where it is due
  exchange_at : (n : ℕ) (es fs : List Entry) (l0 l1 : Option Line) (a0 a1 : Answers) (b : Bool) → reads_now l0 a0 ≡ b → (reads_now l0 a0 ≡ false → (l1 ≡ l0) × (a1 ≡ a0))
      → (reads_now l0 a0 ≡ true → has_visit es n ≡ true) → (writes_now l1 a1 ≡ true → has_visit fs n ≡ true)
      → may_ask l0 ≡ false → is_busy l0 a0 ≡ true → has_visit (es ++ fs) n ≡ true
  exchange_at n es fs l0 l1 a0 a1 true e same reads writes ask busy = visit_front es fs n (reads e)
  exchange_at n es fs l0 l1 a0 a1 false e same reads writes ask busy =
      visit_end es fs n (writes (subst (λ l. writes_now l a1 ≡ true) (sym (same e).0) (subst (λ a. writes_now l0 a ≡ true) (sym (same e).1) (busy_serves l0 a0 ask busy e))))

  pub exchange_visits : (n : ℕ) (t0 t1 t2 : Option (List Entry)) (w0 w1 w2 : Watch) (n0 n1 n2 : N)
      → MadeWith did outgoing said top (λ es. (reads_now (line_of w0.lines n) (said n0 n) ≡ true → has_visit es n ≡ true) × Within [] (n ∷ []) [] es) t0 t1 w0 w1 n0 n1
      → (reads_now (line_of w0.lines n) (said n0 n) ≡ false → (w1 ≡ w0) × (n1 ≡ n0))
      → MadeWith did outgoing said top (λ es. (writes_now (line_of w1.lines n) (said n1 n) ≡ true → has_visit es n ≡ true) × Within [] [] (n ∷ []) es) t1 t2 w1 w2 n1 n2
      → MadeWith did outgoing said top (λ es. (may_ask (line_of w0.lines n) ≡ false → is_busy (line_of w0.lines n) (said n0 n) ≡ true → has_visit es n ≡ true) × Within [] (n ∷ []) (n ∷ []) es) t0 t2 w0 w2 n0 n2
  exchange_visits n t0 t1 t2 w0 w1 w2 n0 n1 n2 p idle q =
      with_then (λ es. (reads_now (line_of w0.lines n) (said n0 n) ≡ true → has_visit es n ≡ true) × Within [] (n ∷ []) [] es)
      (λ es. (writes_now (line_of w1.lines n) (said n1 n) ≡ true → has_visit es n ≡ true) × Within [] [] (n ∷ []) es)
      (λ es. (may_ask (line_of w0.lines n) ≡ false → is_busy (line_of w0.lines n) (said n0 n) ≡ true → has_visit es n ≡ true) × Within [] (n ∷ []) (n ∷ []) es)
      t0 t1 t2 w0 w1 w2 n0 n1 n2 p q (
        exchange_at n p.made.entries q.made.entries (line_of w0.lines n) (line_of w1.lines n) (said n0 n) (said n1 n) (reads_now (line_of w0.lines n) (said n0 n)) refl
            (λ e. (ap (λ w. line_of w.lines n) (idle e).0, ap (λ m. said m n) (idle e).1)) p.holds.0 q.holds.0,
        within_then [] [] (n ∷ []) [] [] (n ∷ []) p.made.entries q.made.entries p.holds.1 q.holds.1,
      )

  -- ---- each of a batch
  -- each of these at which something was to be done is visited, or is left for later
  abbrev pub VisitsBut : (ℕ → Bool) → (ℕ → Bool) → Known → N → N → List Entry → Type 0
  VisitsBut meant left k node last es = (c : ℕ) → meant c ≡ true → is_busy (k.lines c) (said node c) ≡ true → (left c ≡ true) ⊎ IsVisited did outgoing said top k node last es c

  visited_front : (k : Known) (node n1 n2 : N) (es fs : List Entry) (c : ℕ) → Ran did outgoing said top (known_from es k) n1 fs n2
      → IsVisited did outgoing said top k node n1 es c → IsVisited did outgoing said top k node n2 (es ++ fs) c
  visited_front k node n1 n2 es fs c ran (inl h) = inl (visit_front es fs c h)
  visited_front k node n1 n2 es fs c ran (inr s) = inr (record {
    first = s.first;
    rest = s.rest ++ fs;
    split = ap (λ l. l ++ fs) s.split ∙ append_assoc s.first s.rest fs;
    mid = s.mid;
    before = s.before;
    after = ran_then did outgoing said top s.rest fs (known_from s.first k) s.mid n1 n2 s.after (subst (λ j. Ran did outgoing said top j n1 fs n2) (ap (λ l. known_from l k) s.split ∙ known_then s.first s.rest k) ran);
    idle = s.idle;
  })

  -- its turn came
  visited_next : (n : ℕ) (es fs : List Entry) (w0 w1 : Watch) (n0 n1 n2 : N) (b : Bool) → is_busy (line_of w1.lines n) (said n1 n) ≡ b → Ran did outgoing said top (known_of w0) n0 es n1
      → Ran did outgoing said top (known_from es (known_of w0)) n1 fs n2 → line_of w1.lines n ≡ lines_from es n (line_of w0.lines n)
      → (is_busy (line_of w1.lines n) (said n1 n) ≡ true → has_visit fs n ≡ true) → IsVisited did outgoing said top (known_of w0) n0 n2 (es ++ fs) n
  visited_next n es fs w0 w1 n0 n1 n2 true e ran next lines visits = inl (visit_end es fs n (visits e))
  visited_next n es fs w0 w1 n0 n1 n2 false e ran next lines visits = inr (record {
    first = es;
    rest = fs;
    split = refl;
    mid = n1;
    before = ran;
    after = next;
    idle = subst (λ l. is_busy l (said n1 n) ≡ false) lines e;
  })

  visits_next : (meant : ℕ → Bool) (n : ℕ) (ns : List ℕ) (es fs : List Entry) (w0 w1 : Watch) (n0 n1 n2 : N) → VisitsBut meant (is_in (n ∷ ns)) (known_of w0) n0 n1 es → Ran did outgoing said top (known_of w0) n0 es n1
      → Ran did outgoing said top (known_from es (known_of w0)) n1 fs n2 → line_of w1.lines n ≡ lines_from es n (line_of w0.lines n)
      → (is_busy (line_of w1.lines n) (said n1 n) ≡ true → has_visit fs n ≡ true) → VisitsBut meant (is_in ns) (known_of w0) n0 n2 (es ++ fs)
  visits_next meant n ns es fs w0 w1 n0 n1 n2 p ran next lines visits c m busy = elim (p c m busy) [
    | inr v ↦ inr (visited_front (known_of w0) n0 n1 n2 es fs c next v)
    | inl b ↦ elim (or_cases (is_at (nat_cmp c) n) (is_in ns c) b) [
      | inr d ↦ inl d
      | inl e ↦ inr (subst (λ k. IsVisited did outgoing said top (known_of w0) n0 n2 (es ++ fs) k) (key_conn n c e) (visited_next n es fs w0 w1 n0 n1 n2 (is_busy (line_of w1.lines n) (said n1 n)) refl ran next lines visits))
    ]
  ]

  pub batch_next : (batch : List ℕ) (n : ℕ) (ns : List ℕ) (t0 t1 t2 : Option (List Entry)) (w0 w1 w2 : Watch) (n0 n1 n2 : N)
      → MadeWith did outgoing said top (λ es. VisitsBut (is_in batch) (is_in (n ∷ ns)) (known_of w0) n0 n1 es × WithinBut (n ∷ ns) batch es) t0 t1 w0 w1 n0 n1
      → MadeWith did outgoing said top (λ es. (is_busy (line_of w1.lines n) (said n1 n) ≡ true → has_visit es n ≡ true) × Within (n ∷ []) (n ∷ []) (n ∷ []) es) t1 t2 w1 w2 n1 n2
      → MadeWith did outgoing said top (λ es. VisitsBut (is_in batch) (is_in ns) (known_of w0) n0 n2 es × WithinBut ns batch es) t0 t2 w0 w2 n0 n2
  batch_next batch n ns t0 t1 t2 w0 w1 w2 n0 n1 n2 p q =
      with_then (λ es. VisitsBut (is_in batch) (is_in (n ∷ ns)) (known_of w0) n0 n1 es × WithinBut (n ∷ ns) batch es)
      (λ es. (is_busy (line_of w1.lines n) (said n1 n) ≡ true → has_visit es n ≡ true) × Within (n ∷ []) (n ∷ []) (n ∷ []) es)
      (λ es. VisitsBut (is_in batch) (is_in ns) (known_of w0) n0 n2 es × WithinBut ns batch es)
      t0 t1 t2 w0 w1 w2 n0 n1 n2 p q (
        visits_next (is_in batch) n ns p.made.entries q.made.entries w0 w1 n0 n1 n2 p.holds.0 p.made.ran (ran_next did outgoing said top t0 t1 t2 w0 w1 w2 n0 n1 n2 p.made q.made) (p.made.follows.lines n) q.holds.0,
        within_next n ns batch p.made.entries q.made.entries p.holds.1 q.holds.1,
      )

  pub batch_done : (batch : List ℕ) (t0 t1 : Option (List Entry)) (w0 w1 : Watch) (n0 n1 : N)
      → MadeWith did outgoing said top (λ es. VisitsBut (is_in batch) (is_in []) (known_of w0) n0 n1 es × WithinBut [] batch es) t0 t1 w0 w1 n0 n1
      → MadeWith did outgoing said top (λ es. VisitsOf did outgoing said top (is_in batch) (known_of w0) n0 n1 es × Within batch batch batch es) t0 t1 w0 w1 n0 n1
  batch_done batch t0 t1 w0 w1 n0 n1 p = record {
    made = p.made;
    holds = (
      λ c m busy. elim (p.holds.0 c m busy) [
        | inl h ↦ cc
        | inr v ↦ v
      ],
      within_all batch p.made.entries p.holds.1,
    );
  }

  -- ---- nobody is visited
  pub with_nothing : (good : List Entry → Type 0) → good [] → (told : Option (List Entry)) (w : Watch) (node : N) → MadeWith did outgoing said top good told told w w node node
  with_nothing good h told w node = record { made = record { entries = []; told = tells_nothing told; follows = follows_nothing w; ran = refl; no_wait = refl }; holds = h }

  pub quiet_nothing : (told : Option (List Entry)) (w : Watch) (node : N) → MadeWith did outgoing said top (Within [] [] []) told told w w node node
  quiet_nothing told w node = with_nothing (Within [] [] []) (within_nothing [] [] []) told w node

  pub quiet_then : (t0 t1 t2 : Option (List Entry)) (w0 w1 w2 : Watch) (n0 n1 n2 : N) → MadeWith did outgoing said top (Within [] [] []) t0 t1 w0 w1 n0 n1 → MadeWith did outgoing said top (Within [] [] []) t1 t2 w1 w2 n1 n2
      → MadeWith did outgoing said top (Within [] [] []) t0 t2 w0 w2 n0 n2
  quiet_then t0 t1 t2 w0 w1 w2 n0 n1 n2 a b =
      with_then (Within [] [] []) (Within [] [] []) (Within [] [] []) t0 t1 t2 w0 w1 w2 n0 n1 n2 a b (within_quiet [] [] [] a.made.entries b.made.entries a.holds b.holds)

  quiet_dial_at : (t : ℕ) (a : List ℕ) (t0 t1 : Option (List Entry)) (w0 w1 : Watch) (n0 mid n1 : N) (answer : Dialled) → did n0 (DialTaken t a) mid
      → Tells t0 t1 (dial_entries a answer) → Follows (dial_entries a answer) w0 w1 → TicketDid did outgoing (w0.drain == 1) mid t answer n1 → MadeWith did outgoing said top (Within [] [] []) t0 t1 w0 w1 n0 n1
  quiet_dial_at t a t0 t1 w0 w1 n0 mid n1 (dialled.Conn n) d told follows ran =
      record { made = record { entries = entry.Dial a (dialled.Conn n) ∷ []; told = told; follows = follows; ran = (n1, (t, mid, d, ran), refl); no_wait = refl }; holds = λ c. (same_le 0, same_le 0, same_le 0) }
  quiet_dial_at t a t0 t1 w0 w1 n0 mid n1 dialled.Failed d told follows ran =
      record { made = record { entries = entry.Dial a dialled.Failed ∷ []; told = told; follows = follows; ran = (n1, (t, mid, d, ran), refl); no_wait = refl }; holds = λ c. (same_le 0, same_le 0, same_le 0) }
  quiet_dial_at t a t0 t1 w0 w1 n0 mid n1 dialled.NoMemory d told follows ran = absurd ran

  -- a dial was handed out, and then dialled
  pub quiet_dial : (t : ℕ) (a : List ℕ) (t0 t1 : Option (List Entry)) (w0 w1 : Watch) (n0 mid n1 : N) → did n0 (DialTaken t a) mid
      → DialMade did outgoing t a t0 t1 w0 w1 mid n1 → MadeWith did outgoing said top (Within [] [] []) t0 t1 w0 w1 n0 n1
  quiet_dial t a t0 t1 w0 w1 n0 mid n1 d m = quiet_dial_at t a t0 t1 w0 w1 n0 mid n1 m.answer d m.told m.follows m.ran

  -- ---- each gate
  pub asks_next : (p : List Entry → Type 0) → ((es fs : List Entry) → p es → p (es ++ fs)) → (takes : Gate → Bool) (g : Gate) (t0 t1 t2 : Option (List Entry)) (w0 w1 w2 : Watch) (n0 n1 n2 : N)
      → MadeWith did outgoing said top (λ es. p es × Within [] [] [] es) t0 t1 w0 w1 n0 n1 → MadeWith did outgoing said top (λ es. AsksGate takes w1.gates g es × Within [] [] [] es) t1 t2 w1 w2 n1 n2
      → MadeWith did outgoing said top (λ es. (p es × AsksGate takes w0.gates g es) × Within [] [] [] es) t0 t2 w0 w2 n0 n2
  asks_next p grows takes g t0 t1 t2 w0 w1 w2 n0 n1 n2 a b =
      with_then (λ es. p es × Within [] [] [] es) (λ es. AsksGate takes w1.gates g es × Within [] [] [] es) (λ es. (p es × AsksGate takes w0.gates g es) × Within [] [] [] es) t0 t1 t2 w0 w1 w2 n0 n1 n2 a b (
        (grows a.made.entries b.made.entries a.holds.0, asks_later takes g a.made.entries b.made.entries w0 w1 n0 n1 (has_accept a.made.entries g) refl a.made.ran a.made.follows.gates b.holds.0),
        within_quiet [] [] [] a.made.entries b.made.entries a.holds.1 b.holds.1,
      )

  asks_grows : (takes : Gate → Bool) (gs : Gates) (g : Gate) (es fs : List Entry) → AsksGate takes gs g es → AsksGate takes gs g (es ++ fs)
  asks_grows takes gs g es fs p t u = accept_front es fs g (p t u)

  each_gate : (takes : Gate → Bool) (gs : Gates) (es : List Entry) → AsksGate takes gs gate.Agents es → AsksGate takes gs gate.Clients es → AsksGate takes gs gate.Connect es → AsksGate takes gs gate.Apps es → AsksGates takes gs es
  each_gate takes gs es a b c d gate.Agents = a
  each_gate takes gs es a b c d gate.Clients = b
  each_gate takes gs es a b c d gate.Connect = c
  each_gate takes gs es a b c d gate.Apps = d

  pub asks_all : (takes : Gate → Bool) (t0 t1 t2 t3 t4 : Option (List Entry)) (w0 w1 w2 w3 w4 : Watch) (n0 n1 n2 n3 n4 : N)
      → MadeWith did outgoing said top (λ es. AsksGate takes w0.gates gate.Agents es × Within [] [] [] es) t0 t1 w0 w1 n0 n1 → MadeWith did outgoing said top (λ es. AsksGate takes w1.gates gate.Clients es × Within [] [] [] es) t1 t2 w1 w2 n1 n2
      → MadeWith did outgoing said top (λ es. AsksGate takes w2.gates gate.Connect es × Within [] [] [] es) t2 t3 w2 w3 n2 n3 → MadeWith did outgoing said top (λ es. AsksGate takes w3.gates gate.Apps es × Within [] [] [] es) t3 t4 w3 w4 n3 n4
      → MadeWith did outgoing said top (λ es. AsksGates takes w0.gates es × Within [] [] [] es) t0 t4 w0 w4 n0 n4
  asks_all takes t0 t1 t2 t3 t4 w0 w1 w2 w3 w4 n0 n1 n2 n3 n4 a b c d =
      let gs : Gates = w0.gates in
      let two : MadeWith did outgoing said top (λ es. (AsksGate takes gs gate.Agents es × AsksGate takes gs gate.Clients es) × Within [] [] [] es) t0 t2 w0 w2 n0 n2
      = asks_next (AsksGate takes gs gate.Agents) (asks_grows takes gs gate.Agents) takes gate.Clients t0 t1 t2 w0 w1 w2 n0 n1 n2 a b in
      let three : MadeWith did outgoing said top (λ es. ((AsksGate takes gs gate.Agents es × AsksGate takes gs gate.Clients es) × AsksGate takes gs gate.Connect es) × Within [] [] [] es) t0 t3 w0 w3 n0 n3
      = asks_next (λ es. AsksGate takes gs gate.Agents es × AsksGate takes gs gate.Clients es) (λ es fs h. (asks_grows takes gs gate.Agents es fs h.0, asks_grows takes gs gate.Clients es fs h.1)) takes gate.Connect t0 t2 t3 w0 w2 w3 n0 n2 n3 two c in
      let four : MadeWith did outgoing said top (λ es. (((AsksGate takes gs gate.Agents es × AsksGate takes gs gate.Clients es) × AsksGate takes gs gate.Connect es) × AsksGate takes gs gate.Apps es) × Within [] [] [] es) t0 t4 w0 w4 n0 n4
      = asks_next (λ es. (AsksGate takes gs gate.Agents es × AsksGate takes gs gate.Clients es) × AsksGate takes gs gate.Connect es)
      (λ es fs h. ((asks_grows takes gs gate.Agents es fs h.0.0, asks_grows takes gs gate.Clients es fs h.0.1), asks_grows takes gs gate.Connect es fs h.1)) takes gate.Apps t0 t3 t4 w0 w3 w4 n0 n3 n4 three d in
      record { made = four.made; holds = (each_gate takes gs four.made.entries four.holds.0.0.0.0 four.holds.0.0.0.1 four.holds.0.0.1 four.holds.0.1, four.holds.1) }

  -- ---- a whole turn
  -- what a batch in which each that is busy stands visits is all
  covered : (xs ys : List ℕ) (c : ℕ) → is_in (xs ++ ys) c ≡ true → is_in (ys ++ xs) c ≡ true
  covered xs ys c h = elim (in_split xs ys c h) [
    | inl p ↦ in_end ys xs c p
    | inr q ↦ in_front ys xs c q
  ]

  visits_all : (xs ys : List ℕ) (k : Known) (node last : N) (es : List Entry) → Covers (is_in (xs ++ ys)) k.lines (unpaused (said node)) → VisitsOf did outgoing said top (is_in (ys ++ xs)) k node last es → VisitsAll did outgoing said top k node last es
  visits_all xs ys k node last es cov p c busy = p c (covered xs ys c (covers_paused (is_in (xs ++ ys)) k.lines (said node) cov c busy)) busy

  served_at : (takes : Gate → Bool) (xs ys : List ℕ) (t0 t1 t2 t3 : Option (List Entry)) (w0 w1 w2 w3 : Watch) (n0 n1 n2 n3 : N) → Covers (is_in (xs ++ ys)) (line_of w0.lines) (unpaused (said n0)) → NoTwice (ys ++ xs)
      → MadeWith did outgoing said top (λ es. VisitsOf did outgoing said top (is_in (ys ++ xs)) (known_of w0) n0 n1 es × Within (ys ++ xs) (ys ++ xs) (ys ++ xs) es) t0 t1 w0 w1 n0 n1
      → MadeWith did outgoing said top (λ es. AsksGates takes w1.gates es × Within [] [] [] es) t1 t2 w1 w2 n1 n2
      → MadeWith did outgoing said top (Within [] [] []) t2 t3 w2 w3 n2 n3
      → MadeWith did outgoing said top (λ es. VisitsAll did outgoing said top (known_of w0) n0 n3 es × AsksGates takes w0.gates es × VisitsOnce es) t0 t3 w0 w3 n0 n3
  served_at takes xs ys t0 t1 t2 t3 w0 w1 w2 w3 n0 n1 n2 n3 cov single a b m =
      let ns : List ℕ = ys ++ xs in
      let two : MadeWith did outgoing said top (λ es. VisitsAll did outgoing said top (known_of w0) n0 n2 es × AsksGates takes w0.gates es × Within ns ns ns es) t0 t2 w0 w2 n0 n2
      = with_then (λ es. VisitsOf did outgoing said top (is_in ns) (known_of w0) n0 n1 es × Within ns ns ns es) (λ es. AsksGates takes w1.gates es × Within [] [] [] es)
      (λ es. VisitsAll did outgoing said top (known_of w0) n0 n2 es × AsksGates takes w0.gates es × Within ns ns ns es) t0 t1 t2 w0 w1 w2 n0 n1 n2 a b (
        λ c busy. visited_front (known_of w0) n0 n1 n2 a.made.entries b.made.entries c (ran_next did outgoing said top t0 t1 t2 w0 w1 w2 n0 n1 n2 a.made b.made) (visits_all xs ys (known_of w0) n0 n1 a.made.entries cov a.holds.0 c busy),
        λ g t u. asks_later takes g a.made.entries b.made.entries w0 w1 n0 n1 (has_accept a.made.entries g) refl a.made.ran a.made.follows.gates (b.holds.0 g) t u,
        within_quiet ns ns ns a.made.entries b.made.entries a.holds.1 b.holds.1,
      ) in
      with_then (λ es. VisitsAll did outgoing said top (known_of w0) n0 n2 es × AsksGates takes w0.gates es × Within ns ns ns es) (Within [] [] []) (λ es. VisitsAll did outgoing said top (known_of w0) n0 n3 es × AsksGates takes w0.gates es × VisitsOnce es)
      t0 t2 t3 w0 w2 w3 n0 n2 n3 two m (
        λ c busy. visited_front (known_of w0) n0 n2 n3 two.made.entries m.made.entries c (ran_next did outgoing said top t0 t2 t3 w0 w2 w3 n0 n2 n3 two.made m.made) (two.holds.0 c busy),
        λ g t u. accept_front two.made.entries m.made.entries g (two.holds.1 g t u),
        visits_once ns (two.made.entries ++ m.made.entries) single (within_quiet ns ns ns two.made.entries m.made.entries two.holds.2 m.holds),
      )

  -- visits, accepts, and the rest of a turn, where what is known and the node were not touched before
  pub served : (takes : Gate → Bool) (k : ℕ) (busy batch : List ℕ) (t0 t1 t2 t3 : Option (List Entry)) (v0 w0 w1 w2 w3 : Watch) (m0 n0 n1 n2 n3 : N) → w0 ≡ v0 → n0 ≡ m0
      → batch ≡ drop k busy ++ take k busy → Covers (is_in busy) (line_of v0.lines) (unpaused (said m0)) → NoTwice busy
      → MadeWith did outgoing said top (λ es. VisitsOf did outgoing said top (is_in batch) (known_of w0) n0 n1 es × Within batch batch batch es) t0 t1 w0 w1 n0 n1
      → MadeWith did outgoing said top (λ es. AsksGates takes w1.gates es × Within [] [] [] es) t1 t2 w1 w2 n1 n2
      → MadeWith did outgoing said top (Within [] [] []) t2 t3 w2 w3 n2 n3
      → MadeWith did outgoing said top (λ es. VisitsAll did outgoing said top (known_of v0) m0 n3 es × AsksGates takes v0.gates es × VisitsOnce es) t0 t3 v0 w3 m0 n3
  served takes k busy batch t0 t1 t2 t3 v0 w0 w1 w2 w3 m0 n0 n1 n2 n3 e f order cov single a b m =
      subst (λ w. MadeWith did outgoing said top (λ es. VisitsAll did outgoing said top (known_of w) m0 n3 es × AsksGates takes w.gates es × VisitsOnce es) t0 t3 w w3 m0 n3) e
      (subst (λ n. MadeWith did outgoing said top (λ es. VisitsAll did outgoing said top (known_of w0) n n3 es × AsksGates takes w0.gates es × VisitsOnce es) t0 t3 w0 w3 n n3) f
      (served_at takes (take k busy) (drop k busy) t0 t1 t2 t3 w0 w1 w2 w3 n0 n1 n2 n3
      (subst (λ ns. Covers (is_in ns) (line_of w0.lines) (unpaused (said n0))) (sym (joined k busy)) (subst (λ w. Covers (is_in busy) (line_of w.lines) (unpaused (said n0))) (sym e) (subst (λ n. Covers (is_in busy) (line_of v0.lines) (unpaused (said n))) (sym f) cov)))
      (single_turned k busy single)
      (subst (λ ns. MadeWith did outgoing said top (λ es. VisitsOf did outgoing said top (is_in ns) (known_of w0) n0 n1 es × Within ns ns ns es) t0 t1 w0 w1 n0 n1) order a) b m))
