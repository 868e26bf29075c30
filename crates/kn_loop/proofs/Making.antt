-- Parts of a turn, one after the other.
use Rattle.std.proofs.Common.{◌≡◌, ℕ, ◌==◌, Bool, true, false, ◌||◌, List, [], ◌∷◌, ◌++◌, None, Some, sym, refl, ap, ◌∙◌, subst, append_assoc, append-nil}
use Rattle.std.specs.Prelude.{Option}
use Rattle.std.proofs.Math.Path.{fun_ext}
use Rattle.kn_port.specs.declared.names.Dialled.{Dialled}
use Rattle.kn_port.specs.declared.names.Dialled.TheVariants as dialled
use Rattle.kn_port.specs.declared.entry.Entry.{Entry}
use Rattle.kn_port.specs.declared.entry.Entry.TheVariants as entry
use Rattle.kn_port.specs.Journal.{Tells, dial_entries}
use Rattle.kn_loop.specs.declared.line.Line.{Line}
use Rattle.kn_loop.specs.declared.gates.Gates.{Gates}
use Rattle.kn_loop.specs.declared.watch.Watch.{Watch}
use Rattle.kn_loop.specs.Kept.{line_of}
use Rattle.kn_loop.specs.Watch.{lines_from, line_after}
use Rattle.kn_loop.specs.Gates.{gates_from, gates_after}
use Rattle.kn_loop.specs.Known.{Known, known_of, known_after, known_from, held_from, held_after, drain_from, drain_after, Follows}
use Rattle.kn_loop.specs.Calls.{Answers, Call, DialTaken}
use Rattle.kn_loop.specs.Ran.{Made, Ran, DialMade, TicketDid, has_wait, is_wait}

pub tells_nothing : (told : Option (List Entry)) → Tells told told []
tells_nothing None = tt
tells_nothing (Some xs) = sym (append-nil xs)

pub tells_then : (a b c : Option (List Entry)) (es fs : List Entry) → Tells a b es → Tells b c fs → Tells a c (es ++ fs)
tells_then None None None es fs p q = tt
tells_then None None (Some z) es fs p q = absurd q
tells_then None (Some y) c es fs p q = absurd p
tells_then (Some x) None c es fs p q = absurd p
tells_then (Some x) (Some y) None es fs p q = absurd q
tells_then (Some x) (Some y) (Some z) es fs p q = q ∙ ap (λ l. l ++ fs) p ∙ append_assoc x es fs

pub lines_then : (es fs : List Entry) (c : ℕ) (l : Option Line) → lines_from (es ++ fs) c l ≡ lines_from fs c (lines_from es c l)
lines_then [] fs c l = refl
lines_then (e ∷ es) fs c l = lines_then es fs c (line_after e c l)

pub or_false : (b d : Bool) → b ≡ false → d ≡ false → (b || d) ≡ false
or_false true d p q = p
or_false false d p q = q

no_wait_head : (b d : Bool) → (b || d) ≡ false → b ≡ false
no_wait_head true d p = p
no_wait_head false d p = refl

no_wait_tail : (b d : Bool) → (b || d) ≡ false → d ≡ false
no_wait_tail true d p = absurd-true p where
  absurd-true : true ≡ false → d ≡ false
  absurd-true e = cc
no_wait_tail false d p = p

pub no_wait_then : (es fs : List Entry) → has_wait es ≡ false → has_wait fs ≡ false → has_wait (es ++ fs) ≡ false
no_wait_then [] fs p q = q
no_wait_then (e ∷ es) fs p q = or_false (is_wait e) (has_wait (es ++ fs)) (no_wait_head (is_wait e) (has_wait es) p) (no_wait_then es fs (no_wait_tail (is_wait e) (has_wait es) p) q)

held_then : (es fs : List Entry) (k : ℕ) → held_from (es ++ fs) k ≡ held_from fs (held_from es k)
held_then [] fs k = refl
held_then (e ∷ es) fs k = held_then es fs (held_after e k)

gates_then : (es fs : List Entry) (k : Gates) → gates_from (es ++ fs) k ≡ gates_from fs (gates_from es k)
gates_then [] fs k = refl
gates_then (e ∷ es) fs k = gates_then es fs (gates_after e k)

drain_then : (es fs : List Entry) (k : ℕ) → drain_from (es ++ fs) k ≡ drain_from fs (drain_from es k)
drain_then [] fs k = refl
drain_then (e ∷ es) fs k = drain_then es fs (drain_after e k)

pub follows_nothing : (w : Watch) → Follows [] w w
follows_nothing w = record { lines = λ c. refl; held = refl; gates = refl; drain = refl; course = refl }

pub follows_then : (es fs : List Entry) (w0 w1 w2 : Watch) → Follows es w0 w1 → Follows fs w1 w2 → Follows (es ++ fs) w0 w2
follows_then es fs w0 w1 w2 p q = record {
  lines = λ c. q.lines c ∙ ap (lines_from fs c) (p.lines c) ∙ sym (lines_then es fs c (line_of w0.lines c));
  held = q.held ∙ ap (held_from fs) p.held ∙ sym (held_then es fs w0.held);
  gates = q.gates ∙ ap (gates_from fs) p.gates ∙ sym (gates_then es fs w0.gates);
  drain = q.drain ∙ ap (drain_from fs) p.drain ∙ sym (drain_then es fs w0.drain);
  course = q.course ∙ p.course;
}

pub known_then : (es fs : List Entry) (k : Known) → known_from (es ++ fs) k ≡ known_from fs (known_from es k)
known_then [] fs k = refl
known_then (e ∷ es) fs k = known_then es fs (known_after e k)

-- what is known after some entries, by its parts
known_parts : (es : List Entry) (k : Known) → known_from es k ≡ record { lines = λ c. lines_from es c (k.lines c); held = held_from es k.held; gates = gates_from es k.gates; drain = drain_from es k.drain }
known_parts [] k = refl
known_parts (e ∷ es) k = known_parts es (known_after e k)

make_known : (lines : ℕ → Option Line) (held : ℕ) (gates : Gates) (drain : ℕ) → Known
make_known lines held gates drain = record { lines = lines; held = held; gates = gates; drain = drain }

same_known : (l0 l1 : ℕ → Option Line) (h0 h1 : ℕ) (g0 g1 : Gates) (d0 d1 : ℕ) → l0 ≡ l1 → h0 ≡ h1 → g0 ≡ g1 → d0 ≡ d1 → make_known l0 h0 g0 d0 ≡ make_known l1 h1 g1 d1
same_known l0 l1 h0 h1 g0 g1 d0 d1 p q r s = rw (p, q, r, s) refl

follows_known : (es : List Entry) (w0 w1 : Watch) → Follows es w0 w1 → known_of w1 ≡ known_from es (known_of w0)
unfolding make_known
follows_known es w0 w1 p = same_known (line_of w1.lines) (λ c. lines_from es c (line_of w0.lines c)) w1.held (held_from es w0.held) w1.gates (gates_from es w0.gates) w1.drain (drain_from es w0.drain) (fun_ext p.lines) p.held p.gates p.drain
    ∙ sym (known_parts es (known_of w0))

module _ {N : Type 0} (did : N → Call → N → Type 0) (outgoing : N → ℕ → List ℕ) (said : N → ℕ → Answers) (top : N → ℕ) where
  pub ran_then : (es fs : List Entry) (k : Known) (a b c : N) → Ran did outgoing said top k a es b → Ran did outgoing said top (known_from es k) b fs c → Ran did outgoing said top k a (es ++ fs) c
  ran_then [] fs k a b c r s = subst (λ x. Ran did outgoing said top k x fs c) r s
  ran_then (e ∷ es) fs k a b c r s = (r.0, r.1, ran_then es fs (known_after e k) r.0 b c r.2 s)

  -- the calls of what was made next, where what is known is told from the first
  pub ran_next : (t0 t1 t2 : Option (List Entry)) (w0 w1 w2 : Watch) (n0 n1 n2 : N) (p : Made did outgoing said top t0 t1 w0 w1 n0 n1) (q : Made did outgoing said top t1 t2 w1 w2 n1 n2)
      → Ran did outgoing said top (known_from p.entries (known_of w0)) n1 q.entries n2
  ran_next t0 t1 t2 w0 w1 w2 n0 n1 n2 p q = subst (λ k. Ran did outgoing said top k n1 q.entries n2) (follows_known p.entries w0 w1 p.follows) q.ran

  pub nothing_made : (told : Option (List Entry)) (w : Watch) (node : N) → Made did outgoing said top told told w w node node
  nothing_made told w node = record { entries = []; told = tells_nothing told; follows = follows_nothing w; ran = refl; no_wait = refl }

  pub made_then : (t0 t1 t2 : Option (List Entry)) (w0 w1 w2 : Watch) (n0 n1 n2 : N)
      → Made did outgoing said top t0 t1 w0 w1 n0 n1 → Made did outgoing said top t1 t2 w1 w2 n1 n2 → Made did outgoing said top t0 t2 w0 w2 n0 n2
  made_then t0 t1 t2 w0 w1 w2 n0 n1 n2 p q = record {
    entries = p.entries ++ q.entries;
    told = tells_then t0 t1 t2 p.entries q.entries p.told q.told;
    follows = follows_then p.entries q.entries w0 w1 w2 p.follows q.follows;
    ran = ran_then p.entries q.entries (known_of w0) n0 n1 n2 p.ran (subst (λ k. Ran did outgoing said top k n1 q.entries n2) (follows_known p.entries w0 w1 p.follows) q.ran);
    no_wait = no_wait_then p.entries q.entries p.no_wait q.no_wait;
  }

  pub then_entries : (t0 t1 t2 : Option (List Entry)) (w0 w1 w2 : Watch) (n0 n1 n2 : N) (p : Made did outgoing said top t0 t1 w0 w1 n0 n1) (q : Made did outgoing said top t1 t2 w1 w2 n1 n2)
      → (made_then t0 t1 t2 w0 w1 w2 n0 n1 n2 p q).entries ≡ p.entries ++ q.entries
  unfolding made_then
  then_entries t0 t1 t2 w0 w1 w2 n0 n1 n2 p q = refl

  dial_made_at : (t : ℕ) (a : List ℕ) (t0 t1 : Option (List Entry)) (w0 w1 : Watch) (n0 mid n1 : N) (answer : Dialled) → did n0 (DialTaken t a) mid
      → Tells t0 t1 (dial_entries a answer) → Follows (dial_entries a answer) w0 w1 → TicketDid did outgoing (w0.drain == 1) mid t answer n1 → Made did outgoing said top t0 t1 w0 w1 n0 n1
  dial_made_at t a t0 t1 w0 w1 n0 mid n1 (dialled.Conn n) d told follows ran = record { entries = entry.Dial a (dialled.Conn n) ∷ []; told = told; follows = follows; ran = (n1, (t, mid, d, ran), refl); no_wait = refl }
  dial_made_at t a t0 t1 w0 w1 n0 mid n1 dialled.Failed d told follows ran = record { entries = entry.Dial a dialled.Failed ∷ []; told = told; follows = follows; ran = (n1, (t, mid, d, ran), refl); no_wait = refl }
  dial_made_at t a t0 t1 w0 w1 n0 mid n1 dialled.NoMemory d told follows ran = absurd ran

  -- a dial was handed out, and then dialled
  pub dial_made : (t : ℕ) (a : List ℕ) (t0 t1 : Option (List Entry)) (w0 w1 : Watch) (n0 mid n1 : N) → did n0 (DialTaken t a) mid
      → DialMade did outgoing t a t0 t1 w0 w1 mid n1 → Made did outgoing said top t0 t1 w0 w1 n0 n1
  dial_made t a t0 t1 w0 w1 n0 mid n1 d m = dial_made_at t a t0 t1 w0 w1 n0 mid n1 m.answer d m.told m.follows m.ran

  pub made_from : (t0 t1 : Option (List Entry)) (v0 w0 w1 : Watch) (m0 n0 n1 : N) → v0 ≡ w0 → m0 ≡ n0 → Made did outgoing said top t0 t1 v0 w1 m0 n1 → Made did outgoing said top t0 t1 w0 w1 n0 n1
  made_from t0 t1 v0 w0 w1 m0 n0 n1 e f m = subst (λ w. Made did outgoing said top t0 t1 w w1 n0 n1) e (subst (λ n. Made did outgoing said top t0 t1 v0 w1 n n1) f m)
