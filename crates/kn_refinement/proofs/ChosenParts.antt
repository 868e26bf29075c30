-- What keeps the facts on choices that is no step of the server: changes of agents and dials, and one more agent.
use Rattle.std.proofs.Common.{◌≡◌, ◌++◌, ℕ, zero, suc, Bool, List, [], ◌∷◌, length, map, Option, None, Some, refl, sym, ap, ◌∙◌, subst}
use Rattle.std.specs.Prelude.{slice_get, slice_set}
use Rattle.kn_route.specs.Choice.{pick}
use Rattle.kn_route.specs.LinkLists.{mark_of}
use Rattle.kn_route.specs.declared.link.Link.{Link}
use Rattle.kn_route.specs.declared.strategy.Strategy.{Strategy}
use Rattle.kn_server_core.specs.Choices.{link_of}
use Rattle.kn_server_core.specs.Isolation.{Each}
use Rattle.kn_server_core.specs.declared.choice.Choice.{Choice}
use Rattle.kn_packets.specs.Outcome.{IsIn}
use Rattle.kn_packets.proofs.AgentKept.{each_as}
use Rattle.kn_world.specs.declared.parts.Agent.{Agent}
use Rattle.kn_world.specs.declared.parts.AppChoice.{AppChoice}
use Rattle.kn_world.specs.declared.parts.Dial.{Dial}
use Rattle.kn_world.specs.declared.state.State.{State}
use Rattle.kn_world.specs.Numbers.{change, changed}
use Rattle.kn_refinement.specs.Chosen.{ChoicesHold, Chosen, HasChoice, Identifiers, IsDialled, IsOfAgent, IsPicked, MadeFor, NamesAgent, identifiers_at, link_at, links_at, made_for}
use Rattle.kn_refinement.proofs.NumberLemmas.{change_length}
use Rattle.kn_refinement.proofs.Pairs.{was_still}

-- ---- dials of which neither link nor app is changed
set_made : (f : Dial → Dial) → ((d : Dial) → made_for (f d) ≡ made_for d) → (xs : List Dial) (i : ℕ) (x : Dial) → slice_get xs i ≡ Some x → map made_for (slice_set xs i (f x)) ≡ map made_for xs
set_made f keeps [] i x at = absurd cc
set_made f keeps (y ∷ ys) zero x at = let same : y ≡ x = cc in ap (λ m. m ∷ map made_for ys) (keeps x ∙ ap made_for (sym same))
set_made f keeps (y ∷ ys) (suc i) x at = ap (λ ms. made_for y ∷ ms) (set_made f keeps ys i x at)

pub made_same : (f : Dial → Dial) → ((d : Dial) → made_for (f d) ≡ made_for d) → (n : ℕ) (xs : List Dial) → map made_for (change f n xs) ≡ map made_for xs
made_same f keeps zero xs = refl
made_same f keeps (suc i) xs = here (slice_get xs i) refl
  where
    here : (o : Option Dial) → slice_get xs i ≡ o → map made_for (changed f (suc i) xs o) ≡ map made_for xs
    here None e = refl
    here (Some x) e = set_made f keeps xs i x e

-- ---- one more in a list
pub in_more : {E : Type 0} (x y : E) (xs : List E) → IsIn x xs → IsIn x (xs ++ y ∷ [])
in_more x y xs it = (it.0, it.1 ++ y ∷ [], ap (λ zs. zs ++ y ∷ []) it.2 ∙ joined it.0 (x ∷ it.1))
  where
    joined : (vs ws : List _) → (vs ++ ws) ++ y ∷ [] ≡ vs ++ (ws ++ y ∷ [])
    joined [] ws = refl
    joined (v ∷ vs) ws = ap (λ zs. v ∷ zs) (joined vs ws)

pub in_last : {E : Type 0} (x : E) (xs : List E) → IsIn x (xs ++ x ∷ [])
in_last x xs = (xs, [], refl)

-- ---- agents and links
module _ (agents : List Identifiers) where
  -- links that are those of their agents are what a choice says of them
  pub links_back : (ls : List Link) → Each (IsOfAgent agents) ls → links_at agents (map mark_of ls) ≡ ls
  links_back [] h = refl
  links_back (l ∷ ls) h = ap (λ o. named o ∷ links_at agents (map mark_of ls)) h.0 ∙ ap (λ zs. l ∷ zs) (links_back ls h.1)
    where
      named : Option Identifiers → Link
      named o = record { number = l.number; draining = l.draining; identifiers = identifiers_at o }

  pub links_named : (ls : List Link) → Each (IsOfAgent agents) ls → Each (NamesAgent agents) (map mark_of ls)
  links_named [] h = tt
  links_named (l ∷ ls) h = ((l.identifiers, h.0), links_named ls h.1)

  -- with one more agent
  pub still_of_agent : (identifiers : Identifiers) (l : Link) → IsOfAgent agents l → IsOfAgent (agents ++ identifiers ∷ []) l
  still_of_agent identifiers l h = was_still agents identifiers l.number l.identifiers h

  named_as_before : (identifiers : Identifiers) (marks : List (ℕ × Bool)) → Each (NamesAgent agents) marks → links_at (agents ++ identifiers ∷ []) marks ≡ links_at agents marks
  named_as_before identifiers [] h = refl
  named_as_before identifiers (m ∷ ms) h = ap (λ o. named o ∷ links_at (agents ++ identifiers ∷ []) ms) (was_still agents identifiers m.0 h.0.0 h.0.1 ∙ sym h.0.1) ∙ ap (λ zs. link_at agents m ∷ zs) (named_as_before identifiers ms h.1)
    where
      named : Option Identifiers → Link
      named o = record { number = m.0; draining = m.1; identifiers = identifiers_at o }

  pub still_picked : (strategies : List Strategy) (identifiers : Identifiers) (c : Choice) → IsPicked strategies agents c → IsPicked strategies (agents ++ identifiers ∷ []) c
  still_picked strategies identifiers c h = record {
    agents_named = each_as (NamesAgent agents) (NamesAgent (agents ++ identifiers ∷ [])) (λ m n. (n.0, was_still agents identifiers m.0 n.0 n.1)) c.links h.agents_named;
    answer = h.answer ∙ ap (λ ls. link_of (pick strategies ls c.host c.dial)) (sym (named_as_before identifiers c.links h.agents_named));
  }

-- ---- choices and dials
pub has_choice_still : (choices : List AppChoice) (c : AppChoice) (d : ℕ) (x : MadeFor) → HasChoice choices d x → HasChoice (choices ++ c ∷ []) d x
has_choice_still choices c d x h = (h.0, in_more h.0 c choices h.1, h.2)

pub still_dialled : (dials : List MadeFor) (x : MadeFor) (c : AppChoice) → IsDialled dials c → IsDialled (dials ++ x ∷ []) c
still_dialled dials x c h = λ link e few. was_still dials x c.choice.dial (link, c.app) (h link e few)

-- ---- changes
module _ (strategies : List Strategy) (agents : List Identifiers) where
  pub agents_changed : (f : Agent → Agent) (n : ℕ) (s : State) → ChoicesHold strategies agents s → ChoicesHold strategies agents (record s { agents = change f n s.agents })
  agents_changed f n s h = subst (λ count. Chosen strategies agents count s.server s.choices (map made_for s.dials)) (sym (change_length f n s.agents)) h

  pub dials_changed : (f : Dial → Dial) → ((d : Dial) → made_for (f d) ≡ made_for d) → (n : ℕ) (s : State) → ChoicesHold strategies agents s → ChoicesHold strategies agents (record s { dials = change f n s.dials })
  dials_changed f keeps n s h = subst (λ ds. Chosen strategies agents (length s.agents) s.server s.choices ds) (sym (made_same f keeps n s.dials)) h
