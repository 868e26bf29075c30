-- What one end may write next, and the other takes.
use Rattle.std.proofs.Common.{◌≡◌, ◌<◌, ◌⊎◌, inl, inr, ℕ, Bool, true, not, List, Some, None, sym, ap, ◌∙◌, subst, arith}
use Rattle.kn_hpack.specs.Fields.{Table}
use Rattle.kn_h2_state.specs.declared.stream.Stream.{Stream}
use Rattle.kn_h2_state.specs.InStep.{IsInStep}
use Rattle.kn_h2_state.specs.Streams.{stream_at}
use Rattle.kn_h2_state.specs.Rules.{is_client}
use Rattle.kn_h2_state.specs.Holding.{Rising}
use Rattle.kn_h2_state.specs.Preorder.{IsOpenIn, IsNewTo}
use Rattle.kn_h2_state.proofs.BorneLemmas.{rises, none_above}
use Rattle.kn_facing.specs.Laws.{StaysFollowed}

-- a stream that an end has is not above the highest that was opened
pub is_known : (high n : ℕ) (ss : List Stream) (a : Stream) → Rising 0 high ss → stream_at ss n ≡ Some a → high < n → ⊥
is_known high n ss a r e above = let none : stream_at ss n ≡ None = none_above 0 high n ss (rises 0 high ss r) above in absurd (cc)

client_of : (b c : Bool) → b ≡ true → c ≡ b → c ≡ true
client_of b c e f = f ∙ e

pub stays_followed : StaysFollowed
stays_followed s t u holds other h f = record {
  began = h.began ∙ f.began;
  block = h.block ∙ f.block;
  decoder = subst (λ (d : Table). IsInStep s.encoder d) (sym h.decoder) f.decoder;
  halves = λ n a b' at_s opened at_u up. half n a b' at_s opened (h.streams n b' at_u up);
  heads = λ client n a b' at_s at_u up. head (ap is_client (sym h.role) ∙ client) n a b' at_s (h.streams n b' at_u up);
  opened = λ client. h.server (other ∙ ap not client) ∙ f.opened client;
  begun = λ client. let raised = h.opened in let below = f.begun (ap is_client (sym h.role) ∙ client) in omega (arith, raised, below);
}
  where
    half : (n : ℕ) (a b' : Stream) → stream_at s.streams n ≡ Some a → a.own_open ≡ true → IsOpenIn t n b' ⊎ IsNewTo t u n b' → b'.peer_open ≡ true
    half n a b' at_s opened (inl (b, at_t, up, much)) = much.half ∙ f.halves n a b at_s opened at_t up
    half n a b' at_s opened (inr (client, above, low)) =
        let below = f.begun client in
        absurd (is_known s.opened n s.streams a holds.rising at_s (omega (arith, below, above)))

    head : is_client t.role ≡ true → (n : ℕ) (a b' : Stream) → stream_at s.streams n ≡ Some a → IsOpenIn t n b' ⊎ IsNewTo t u n b' → b'.answered ≡ a.answered
    head client n a b' at_s (inl (b, at_t, up, much)) = much.head client ∙ f.heads client n a b at_s at_t up
    head client n a b' at_s (inr (new, above, low)) =
        let below = f.begun client in
        absurd (is_known s.opened n s.streams a holds.rising at_s (omega (arith, below, above)))
