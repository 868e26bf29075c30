-- What the server gives out for a request of a dial, by the choice of a link.
use Rattle.std.proofs.Common.{◌≡◌, ◌⊎◌, inl, inr, ◌++◌, ℕ, ℤ, pos, Bool, true, false, cond, List, [], ◌∷◌, Result, Ok, Err, refl, sym, ap, ◌∙◌, codes}
use Rattle.kn_packet.specs.declared.packet.Packet.{Packet}
use Rattle.kn_packet.specs.declared.packet.Packet.TheVariants.{DialReq, DialRsp}
use Rattle.kn_server_core.specs.FrontLists.{is_up}
use Rattle.kn_server_core.specs.Packets.{refusal}
use Rattle.kn_server_core.specs.Server.{dial_asked, dial_choice, dial_chosen, ignored}
use Rattle.kn_server_core.specs.declared.event.ServerOut.{ServerOut}
use Rattle.kn_server_core.specs.declared.event.ServerOut.TheVariants.{Made, ToFront, ToLink}
use Rattle.kn_server_core.specs.declared.state.State.{State}
use Rattle.kn_packets.specs.Outcome.{IsIn}
use Rattle.kn_world.specs.Choices.{FindsNone, IsPicked, ReachesChoice}
use Rattle.kn_world.proofs.ChoiceLemmas.{goes_where_picked, refused_nowhere_else, refused_where_none}
use Rattle.kn_refinement.specs.Requests.{given_for}

-- ---- what stands in a short list
pub in_none : (x : ServerOut) → IsIn x [] → ⊥
in_none x ([], behind, e) = cc e
in_none x (y ∷ before, behind, e) = cc e

pub in_one : (x a : ServerOut) → IsIn x (a ∷ []) → x ≡ a
in_one x a ([], behind, e) = let same : a ≡ x = cc in sym same
in_one x a (y ∷ [], behind, e) = absurd (cc e)
in_one x a (y ∷ z ∷ before, behind, e) = absurd (cc e)

pub in_two : (x a b : ServerOut) → IsIn x (a ∷ b ∷ []) → (x ≡ a) ⊎ (x ≡ b)
in_two x a b ([], behind, e) = let same : a ≡ x = cc in inl (sym same)
in_two x a b (y ∷ before, behind, e) = let rest : b ∷ [] ≡ before ++ x ∷ behind = cc in inr (in_one x b (before, behind, rest))

-- ---- where the server has the front
module _ (s : State) (front : ℕ) (protocol address : List ℕ) (random : ℤ) where
  pub sent_picked : (link : ℕ) (p : Packet) → IsIn (ToLink link p) (given_for s front protocol address random) → IsPicked s address link
  sent_picked link p it = by_up (is_up front s.fronts) it
    where
      by_choice : (r : Result ℕ (List ℕ)) → dial_choice s front protocol address random ≡ r → IsIn (ToLink link p) (dial_chosen s front protocol address random r).outs → IsPicked s address link
      by_choice (Ok other) e h = by_place (in_two (ToLink link p) (Made s.next_dial other front) (ToLink other (DialReq protocol address (pos s.next_dial))) h)
        where
          by_place : (ToLink link p ≡ Made s.next_dial other front) ⊎ (ToLink link p ≡ ToLink other (DialReq protocol address (pos s.next_dial))) → IsPicked s address link
          by_place (inl q) = absurd cc
          by_place (inr q) = let same : link ≡ other = cc in goes_where_picked s front protocol address random link (e ∙ ap Ok (sym same))
      by_choice (Err text) e h = let same : ToLink link p ≡ refusal front random text = in_one (ToLink link p) (refusal front random text) h in absurd cc

      by_up : (b : Bool) → IsIn (ToLink link p) (cond b (dial_asked s front protocol address random) (ignored s)).outs → IsPicked s address link
      by_up true h = by_choice (dial_choice s front protocol address random) refl h
      by_up false h = absurd (in_none (ToLink link p) h)

  pub refused_for_none : is_up front s.fronts ≡ true → ReachesChoice s front protocol random → FindsNone s address → given_for s front protocol address random ≡ refusal front random (codes "no agent available") ∷ []
  refused_for_none up reached none = ap (λ b. (cond b (dial_asked s front protocol address random) (ignored s)).outs) up
      ∙ ap (λ r. (dial_chosen s front protocol address random r).outs) (refused_where_none s front protocol address random reached none)

  pub refused_only : (other : ℕ) (connect_id asked : ℤ) → IsIn (ToFront other (DialRsp (codes "no agent available") connect_id asked)) (given_for s front protocol address random) → ReachesChoice s front protocol random × FindsNone s address
  refused_only other connect_id asked it = by_up (is_up front s.fronts) it
    where
      answer : ServerOut
      answer = ToFront other (DialRsp (codes "no agent available") connect_id asked)

      by_choice : (r : Result ℕ (List ℕ)) → dial_choice s front protocol address random ≡ r → IsIn answer (dial_chosen s front protocol address random r).outs → ReachesChoice s front protocol random × FindsNone s address
      by_choice (Ok link) e h = by_place (in_two answer (Made s.next_dial link front) (ToLink link (DialReq protocol address (pos s.next_dial))) h)
        where
          by_place : (answer ≡ Made s.next_dial link front) ⊎ (answer ≡ ToLink link (DialReq protocol address (pos s.next_dial))) → ReachesChoice s front protocol random × FindsNone s address
          by_place (inl q) = absurd cc
          by_place (inr q) = absurd cc
      by_choice (Err text) e h =
          let same : answer ≡ refusal front random text = in_one answer (refusal front random text) h in
          let texts : codes "no agent available" ≡ text = ap text_of same in
          refused_nowhere_else s front protocol address random (e ∙ ap Err (sym texts))
        where
          text_of : ServerOut → List ℕ
          text_of (ToFront f (DialRsp error c r)) = error
          text_of o = []

      by_up : (b : Bool) → IsIn answer (cond b (dial_asked s front protocol address random) (ignored s)).outs → ReachesChoice s front protocol random × FindsNone s address
      by_up true h = by_choice (dial_choice s front protocol address random) refl h
      by_up false h = absurd (in_none answer h)
