-- What wakes connections.
use Rattle.std.proofs.Common.{◌≡◌, ℕ, ◌==◌, ◌||◌, Bool, true, false, not, List, [], ◌∷◌, ◌++◌, length, refl, sym, ◌∙◌, ap, subst, Result, Ok, Err}
use Rattle.std.specs.Prelude.{Option, Some, None, MatchOption, OnOk}
use Rattle.kn_rising.specs.Stirring.{is_stirred}
use Rattle.kn_loop.specs.Calls.{Answers, Wakes, unpaused}
use Rattle.kn_server_node.specs.declared.node.Node as server_node
use Rattle.kn_server_node.specs.Calls as server
use Rattle.kn_server_node.specs.Stirs as server_stirs
use Rattle.kn_agent_node.specs.declared.node.Node as agent_node
use Rattle.kn_agent_node.specs.Calls as agent
use Rattle.kn_agent_node.specs.Answers as agent_answer
use Rattle.kn_client_node.specs.declared.node.Node as client_node
use Rattle.kn_client_node.specs.Calls as client
use Rattle.kn_client_node.specs.Calls.{out_of, shuts_of}
use Rattle.kn_serve.specs.Sides.{WakesStirred, answers_with, server_answers, agent_answers, client_answers}

pub both_ok : {T E : Type 0} {A B C : Type 0} (r : Result T E) → OnOk r A → OnOk r B → (A → B → C) → OnOk r C
both_ok (Ok x) a b f = f a b
both_ok (Err e) a b f = tt

-- ---- one more is woken
-- who was awake is so still
pub still_awake : (n c : ℕ) (before after : Bool) → after ≡ ((n == c) || before) → before ≡ true → after ≡ true
still_awake n c before after e h = e ∙ ap (λ b. (n == c) || b) h ∙ or_true (n == c)
  where
    or_true : (b : Bool) → (b || true) ≡ true
    or_true true = refl
    or_true false = refl

-- who is asleep is neither the one that was woken, nor was awake before
pub asleep_still : (n c : ℕ) (before after : Bool) → after ≡ ((n == c) || before) → after ≡ false → ((n == c) ≡ false) × (before ≡ false)
asleep_still n c before after e h = both (n == c) before (sym e ∙ h)
  where
    both : (a b : Bool) → (a || b) ≡ false → (a ≡ false) × (b ≡ false)
    both false false f = (refl, refl)
    both false true f = (refl, f)
    both true b f = let no : true ≡ false = f in cc

-- of all but the last
last_other : (n c : ℕ) (ns : List ℕ) → (n == c) ≡ false → is_stirred c (ns ++ n ∷ []) ≡ is_stirred c ns
last_other n c [] e = ap (λ b. b || false) e
last_other n c (m ∷ ms) e = ap (λ b. (m == c) || b) (last_other n c ms e)

-- who is asleep was stirred only where it is still to be taken out
pub left_after : (n : ℕ) (all before after : List ℕ) (awake0 awake1 : ℕ → Bool) → before ≡ after ++ n ∷ [] → ((c : ℕ) → awake1 c ≡ ((n == c) || awake0 c))
    → ((c : ℕ) → awake0 c ≡ false → is_stirred c all ≡ is_stirred c before) → (c : ℕ) → awake1 c ≡ false → is_stirred c all ≡ is_stirred c after
left_after n all before after awake0 awake1 e added left c h =
    let off : ((n == c) ≡ false) × (awake0 c ≡ false) = asleep_still n c (awake0 c) (awake1 c) (added c) h in
    left c off.1 ∙ ap (is_stirred c) e ∙ last_other n c after off.0

-- of a node nothing else is other than before
pub server_popped : (all old new : server_node.Node) (stirred : List ℕ) → old ≡ record new { stirred = stirred } → old ≡ record all { choices = []; stirred = old.stirred } → new ≡ record all { choices = []; stirred = new.stirred }
server_popped all old new stirred e f =
    sym (ap {A = server_node.Node} (λ n. record n { stirred = new.stirred }) e) ∙ ap {A = server_node.Node} (λ n. record n { stirred = new.stirred }) f

pub agent_popped : (all old new : agent_node.Node) (stirred : List ℕ) → old ≡ record new { stirred = stirred } → old ≡ record all { stirred = old.stirred } → new ≡ record all { stirred = new.stirred }
agent_popped all old new stirred e f =
    sym (ap {A = agent_node.Node} (λ n. record n { stirred = new.stirred }) e) ∙ ap {A = agent_node.Node} (λ n. record n { stirred = new.stirred }) f

pub client_popped : (all old new : client_node.Node) (stirred : List ℕ) → old ≡ record new { stirred = stirred } → old ≡ record all { ended = []; stirred = old.stirred } → new ≡ record all { ended = []; stirred = new.stirred }
client_popped all old new stirred e f =
    sym (ap {A = client_node.Node} (λ n. record n { stirred = new.stirred }) e) ∙ ap {A = client_node.Node} (λ n. record n { stirred = new.stirred }) f

-- ---- a call, and then what was stirred is taken out
same_answers : (wants1 wants0 : Bool) (out1 out0 : List ℕ) (shuts1 shuts0 : Bool) → out1 ≡ out0 → shuts1 ≡ shuts0
    → record (answers_with wants1 out1 shuts1) { wants = true } ≡ record (answers_with wants0 out0 shuts0) { wants = true }
same_answers wants1 wants0 out1 out0 shuts1 shuts0 o s = rw (o, s) refl

server_same : (old mid : server_node.Node) (c : ℕ) → (server.out_of mid c ≡ server.out_of old c) × (server.shuts_of mid c ≡ server.shuts_of old c)
    → unpaused (server_answers (record mid { choices = []; stirred = [] })) c ≡ unpaused (server_answers old) c
server_same old mid c p = same_answers (server.wants_of mid c) (server.wants_of old c) (server.out_of mid c) (server.out_of old c) (server.shuts_of mid c) (server.shuts_of old c) p.0 p.1

pub server_wakes : (old mid new : server_node.Node) (awake0 awake1 : ℕ → Bool) → server_stirs.Stirs old mid → WakesStirred mid.stirred awake0 awake1 → new ≡ record mid { choices = []; stirred = [] }
    → Wakes awake0 awake1 (unpaused (server_answers old)) (unpaused (server_answers new))
server_wakes old mid new awake0 awake1 stirs wakes e c = (
  (wakes c).0,
  λ h. subst (λ n. unpaused (server_answers n) c ≡ unpaused (server_answers old) c) (sym e) (server_same old mid c ((stirs c).1 ((wakes c).1 h))),
)

agent_same : (old mid : agent_node.Node) (c : ℕ) → (agent_answer.out_of mid c ≡ agent_answer.out_of old c) × (agent_answer.shuts_of mid c ≡ agent_answer.shuts_of old c)
    → unpaused (agent_answers (record mid { stirred = [] })) c ≡ unpaused (agent_answers old) c
agent_same old mid c p = same_answers (agent_answer.wants_of mid c) (agent_answer.wants_of old c) (agent_answer.out_of mid c) (agent_answer.out_of old c) (agent_answer.shuts_of mid c) (agent_answer.shuts_of old c) p.0 p.1

pub agent_wakes : (old mid new : agent_node.Node) (awake0 awake1 : ℕ → Bool) → agent_answer.Stirs old mid → WakesStirred mid.stirred awake0 awake1 → new ≡ record mid { stirred = [] }
    → Wakes awake0 awake1 (unpaused (agent_answers old)) (unpaused (agent_answers new))
agent_wakes old mid new awake0 awake1 stirs wakes e c = (
  (wakes c).0,
  λ h. subst (λ n. unpaused (agent_answers n) c ≡ unpaused (agent_answers old) c) (sym e) (agent_same old mid c ((stirs c).1 ((wakes c).1 h))),
)

-- a dial that is handed out changes no answer
handed_at : (given : Option (ℕ × List ℕ)) (old new : agent_node.Node) (c : ℕ) → MatchOption given ((old.dials ≡ []) × (new ≡ old)) (λ dial. agent.HandsOut old dial.0 dial.1 new)
    → unpaused (agent_answers new) c ≡ unpaused (agent_answers old) c
handed_at None old new c h = ap (λ n. unpaused (agent_answers n) c) h.1
handed_at (Some dial) old new c h =
    ap (λ n. unpaused (agent_answers n) c) h.1
    ∙ same_answers (agent_answer.wants_of (record old { dials = new.dials; by_ticket = new.by_ticket }) c) (agent_answer.wants_of old c) (agent_answer.out_of old c) (agent_answer.out_of old c) (agent_answer.shuts_of old c) (agent_answer.shuts_of old c) refl refl

pub handed_wakes : (given : Option (ℕ × List ℕ)) (old new : agent_node.Node) (awake : ℕ → Bool) → MatchOption given ((old.dials ≡ []) × (new ≡ old)) (λ dial. agent.HandsOut old dial.0 dial.1 new)
    → Wakes awake awake (unpaused (agent_answers old)) (unpaused (agent_answers new))
handed_wakes given old new awake h c = (λ e. e, λ e. handed_at given old new c h)

client_same : (old mid : client_node.Node) (c : ℕ) → (client.out_of mid c ≡ client.out_of old c) × (client.shuts_of mid c ≡ client.shuts_of old c)
    → unpaused (client_answers (record mid { ended = []; stirred = [] })) c ≡ unpaused (client_answers old) c
unfolding out_of shuts_of
client_same old mid c p = same_answers (client.wants_of mid c) (client.wants_of old c) (client.out_of mid c) (client.out_of old c) (client.shuts_of mid c) (client.shuts_of old c) p.0 p.1

pub client_wakes : (old mid new : client_node.Node) (awake0 awake1 : ℕ → Bool) → client.Stirs old mid → WakesStirred mid.stirred awake0 awake1 → new ≡ record mid { ended = []; stirred = [] }
    → Wakes awake0 awake1 (unpaused (client_answers old)) (unpaused (client_answers new))
client_wakes old mid new awake0 awake1 stirs wakes e c = (
  (wakes c).0,
  λ h. subst (λ n. unpaused (client_answers n) c ≡ unpaused (client_answers old) c) (sym e) (client_same old mid c ((stirs c).1 ((wakes c).1 h))),
)
