-- What the server gives out for a request is decided by the choice that it comes to.
use Rattle.std.proofs.Common.{◌≡◌, ◌⊎◌, inl, inr, ℕ, ℤ, pos, Bool, true, false, cond, List, [], Option, Some, None, Result, Ok, Err, refl, sym, ap, ◌∙◌, subst, codes}
use Rattle.kn_packet.specs.declared.packet.Packet.TheVariants.{DialReq, DialRsp}
use Rattle.kn_server_core.specs.Choices.{choice_asked, choice_of}
use Rattle.kn_server_core.specs.FrontLists.{is_up}
use Rattle.kn_server_core.specs.Packets.{refusal}
use Rattle.kn_server_core.specs.Server as core
use Rattle.kn_server_core.specs.declared.choice.Choice.{Choice}
use Rattle.kn_server_core.specs.declared.event.ServerOut.{ServerOut}
use Rattle.kn_server_core.specs.declared.event.ServerOut.TheVariants.{Made, ToFront, ToLink}
use Rattle.kn_server_core.specs.declared.state.State.{State}
use Rattle.kn_packets.specs.Outcome.{IsIn}
use Rattle.kn_refinement.specs.Requests.{Decides, choice_for, given_for}
use Rattle.kn_refinement.proofs.ChosenServer.{Agrees, Earlier, NoAgent, Sent, UsedUp, request_agrees, says_no_agent}
use Rattle.kn_refinement.proofs.Choosing.{in_none, in_one, in_two}
use Rattle.kn_refinement.proofs.Pairs.{some_is}

module _ (s : State) (front : ℕ) (protocol address : List ℕ) (random : ℤ) where
  abbrev outs_of : Result ℕ (List ℕ) → List ServerOut
  outs_of r = (core.dial_chosen s front protocol address random r).outs

  abbrev DecidedBy : List ServerOut → Choice → Type 0
  DecidedBy outs c = Decides outs front protocol address random c.dial c.answer

  pub decided : (c : Choice) → choice_for s front protocol address random ≡ Some c → DecidedBy (given_for s front protocol address random) c
  decided c e = by_up (is_up front s.fronts) e
    where
      as_it_is : (host : List ℕ) (o : Option Choice) (outs : List ServerOut) → o ≡ Some (choice_of s host) → o ≡ Some c → DecidedBy outs (choice_of s host) → DecidedBy outs c
      as_it_is host o outs there it d = subst (λ x. DecidedBy outs x) (some_is (sym there ∙ it)) d

      by_choice : (o : Option Choice) (r : Result ℕ (List ℕ)) → Agrees s o r → o ≡ Some c → DecidedBy (outs_of r) c
      by_choice o r (Sent link host is there answer) it = subst (λ r. DecidedBy (outs_of r) c) (sym is) (as_it_is host o (outs_of (Ok link)) there it
          (subst (λ a. Decides (outs_of (Ok link)) front protocol address random s.next_dial a) (sym answer) (λ few. refl)))
      by_choice o r (Earlier text is other there) it = absurd (cc (sym there ∙ it))
      by_choice o r (NoAgent host is there answer) it = subst (λ r. DecidedBy (outs_of r) c) (sym is) (as_it_is host o (outs_of (Err (codes "no agent available"))) there it
          (subst (λ a. Decides (outs_of (Err (codes "no agent available"))) front protocol address random s.next_dial a) (sym answer) refl))
      by_choice o r (UsedUp link host is there answer last) it = subst (λ r. DecidedBy (outs_of r) c) (sym is) (as_it_is host o (outs_of (Err (codes "dial numbers used up"))) there it
          (subst (λ a. Decides (outs_of (Err (codes "dial numbers used up"))) front protocol address random s.next_dial a) (sym answer) (λ few. absurd (few last))))

      by_up : (b : Bool) → cond b (choice_asked s front protocol address random) None ≡ Some c → DecidedBy (cond b (core.dial_asked s front protocol address random) (core.ignored s)).outs c
      by_up true it = by_choice (choice_asked s front protocol address random) (core.dial_choice s front protocol address random) (request_agrees s front protocol address random) it
      by_up false it = absurd (cc it)

  -- no other request is refused so
  pub unanswered : (other : ℕ) (connect_id asked : ℤ) → IsIn (ToFront other (DialRsp (codes "no agent available") connect_id asked)) (given_for s front protocol address random)
      → (c : Choice) × (choice_for s front protocol address random ≡ Some c) × (c.answer ≡ None)
  unanswered other connect_id asked it = by_up (is_up front s.fronts) it
    where
      told : ServerOut
      told = ToFront other (DialRsp (codes "no agent available") connect_id asked)

      Unanswered : Option Choice → Type 0
      Unanswered o = (c : Choice) × (o ≡ Some c) × (c.answer ≡ None)

      text_of : ServerOut → List ℕ
      text_of (ToFront f (DialRsp error c r)) = error
      text_of o = []

      other_text : (text : List ℕ) → says_no_agent text ≡ false → IsIn told (outs_of (Err text)) → ⊥
      other_text text h k = let same : codes "no agent available" ≡ text = ap text_of (in_one told (refusal front random text) k) in let two : true ≡ false = ap says_no_agent same ∙ h in cc two

      sent_away : (link : ℕ) → IsIn told (outs_of (Ok link)) → ⊥
      sent_away link k = by_place (in_two told (Made s.next_dial link front) (ToLink link (DialReq protocol address (pos s.next_dial))) k)
        where
          by_place : (told ≡ Made s.next_dial link front) ⊎ (told ≡ ToLink link (DialReq protocol address (pos s.next_dial))) → ⊥
          by_place (inl q) = cc q
          by_place (inr q) = cc q

      by_choice : (o : Option Choice) (r : Result ℕ (List ℕ)) → Agrees s o r → IsIn told (outs_of r) → Unanswered o
      by_choice o r (Sent link host is there answer) k = absurd (sent_away link (subst (λ r. IsIn told (outs_of r)) is k))
      by_choice o r (Earlier text is differs there) k = absurd (other_text text differs (subst (λ r. IsIn told (outs_of r)) is k))
      by_choice o r (NoAgent host is there answer) k = (choice_of s host, there, answer)
      by_choice o r (UsedUp link host is there answer last) k = absurd (other_text (codes "dial numbers used up") refl (subst (λ r. IsIn told (outs_of r)) is k))

      by_up : (b : Bool) → IsIn told (cond b (core.dial_asked s front protocol address random) (core.ignored s)).outs → Unanswered (cond b (choice_asked s front protocol address random) None)
      by_up true k = by_choice (choice_asked s front protocol address random) (core.dial_choice s front protocol address random) (request_agrees s front protocol address random) k
      by_up false k = absurd (in_none told k)
