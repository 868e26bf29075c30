-- A word after one packet was put at the end of its list, or dropped where the other end has lost it.
use Rattle.std.proofs.Common.{◌≡◌, ◌++◌, ◌||◌, ℕ, Bool, true, false, cond, List, [], ◌∷◌, refl, ap, ◌∙◌}
use Rattle.kn_tunnel.specs.Kinds.{implies}
use Rattle.kn_tunnel.specs.Steps.{appended, one_more_close}
use Rattle.kn_tunnel.specs.Tunnel.{Refusal, Reply}
use Rattle.kn_words.specs.Down.{BytesDown, CloseDown, DownItem, OtherDown, down_follows, down_of, down_ordered, down_snoc}
use Rattle.kn_words.specs.In.{BytesIn, CancelIn, CloseIn, InItem, OtherIn, RequestIn, in_follows, in_of, in_ordered, in_snoc}
use Rattle.kn_words.specs.Out.{BytesOut, CloseOut, OtherOut, OutItem, RefusalOut, ReplyOut, out_follows, out_of, out_ordered, out_snoc}
use Rattle.kn_words.specs.Up.{BytesUp, CloseUp, OtherUp, RefusalUp, ReplyUp, UpItem, up_follows, up_of, up_ordered, up_snoc}
use Rattle.kn_words.proofs.DownOrder.{down_order_append}
use Rattle.kn_words.proofs.Ends.{down_append, in_append, out_append, up_append}
use Rattle.kn_words.proofs.InOrder.{in_order_append}
use Rattle.kn_words.proofs.OutOrder.{out_order_append}
use Rattle.kn_words.proofs.UpOrder.{up_order_append}

or_true : (b : Bool) → true ≡ (b || true)
or_true true = refl
or_true false = refl

or_none : (b : Bool) → b ≡ (b || false)
or_none true = refl
or_none false = refl

module _ {A : Type 0} (item : A → UpItem) (ps : List A) (p : A) where
  pub up_put_other : (there : Bool) → item p ≡ OtherUp → up_of item (cond there (ps ++ p ∷ []) ps) ≡ up_of item ps
  up_put_other true e = up_append item ps p ∙ ap (up_snoc (up_of item ps)) e
  up_put_other false e = refl

  pub up_put_refusal : (there : Bool) → item p ≡ RefusalUp → up_of item (cond there (ps ++ p ∷ []) ps) ≡ record (up_of item ps) { refusal = (up_of item ps).refusal || there }
  up_put_refusal true e = up_append item ps p ∙ ap (up_snoc (up_of item ps)) e ∙ ap (λ b. record (up_of item ps) { refusal = b }) (or_true (up_of item ps).refusal)
  up_put_refusal false e = ap (λ b. record (up_of item ps) { refusal = b }) (or_none (up_of item ps).refusal)

  pub up_put_reply : (there : Bool) → item p ≡ ReplyUp → up_of item (cond there (ps ++ p ∷ []) ps) ≡ record (up_of item ps) { reply = (up_of item ps).reply || there }
  up_put_reply true e = up_append item ps p ∙ ap (up_snoc (up_of item ps)) e ∙ ap (λ b. record (up_of item ps) { reply = b }) (or_true (up_of item ps).reply)
  up_put_reply false e = ap (λ b. record (up_of item ps) { reply = b }) (or_none (up_of item ps).reply)

  pub up_put_bytes : (there : Bool) (bytes : List ℕ) → item p ≡ BytesUp bytes → up_of item (cond there (ps ++ p ∷ []) ps) ≡ record (up_of item ps) { bytes = appended there (up_of item ps).bytes bytes }
  up_put_bytes true bytes e = up_append item ps p ∙ ap (up_snoc (up_of item ps)) e
  up_put_bytes false bytes e = refl

  pub up_put_close : (there : Bool) → item p ≡ CloseUp → up_of item (cond there (ps ++ p ∷ []) ps) ≡ record (up_of item ps) { closes = one_more_close there (up_of item ps).closes }
  up_put_close true e = up_append item ps p ∙ ap (up_snoc (up_of item ps)) e
  up_put_close false e = refl

  pub up_order_put : (there : Bool) → up_ordered item ps ≡ true → implies there (up_follows (up_of item ps) (item p)) ≡ true → up_ordered item (cond there (ps ++ p ∷ []) ps) ≡ true
  up_order_put true h f = up_order_append item ps p h f
  up_order_put false h f = h

module _ {A : Type 0} (item : A → DownItem) (ps : List A) (p : A) where
  pub down_put_other : (there : Bool) → item p ≡ OtherDown → down_of item (cond there (ps ++ p ∷ []) ps) ≡ down_of item ps
  down_put_other true e = down_append item ps p ∙ ap (down_snoc (down_of item ps)) e
  down_put_other false e = refl

  pub down_put_bytes : (there : Bool) (bytes : List ℕ) → item p ≡ BytesDown bytes → down_of item (cond there (ps ++ p ∷ []) ps) ≡ record (down_of item ps) { bytes = appended there (down_of item ps).bytes bytes }
  down_put_bytes true bytes e = down_append item ps p ∙ ap (down_snoc (down_of item ps)) e
  down_put_bytes false bytes e = refl

  pub down_put_close : (there : Bool) → item p ≡ CloseDown → down_of item (cond there (ps ++ p ∷ []) ps) ≡ record (down_of item ps) { close = (down_of item ps).close || there }
  down_put_close true e = down_append item ps p ∙ ap (down_snoc (down_of item ps)) e ∙ ap (λ b. record (down_of item ps) { close = b }) (or_true (down_of item ps).close)
  down_put_close false e = ap (λ b. record (down_of item ps) { close = b }) (or_none (down_of item ps).close)

  pub down_order_put : (there : Bool) → down_ordered item ps ≡ true → implies there (down_follows (down_of item ps) (item p)) ≡ true → down_ordered item (cond there (ps ++ p ∷ []) ps) ≡ true
  down_order_put true h f = down_order_append item ps p h f
  down_order_put false h f = h

module _ {A : Type 0} (item : A → InItem) (ps : List A) (p : A) where
  pub in_put_other : (there : Bool) → item p ≡ OtherIn → in_of item (cond there (ps ++ p ∷ []) ps) ≡ in_of item ps
  in_put_other true e = in_append item ps p ∙ ap (in_snoc (in_of item ps)) e
  in_put_other false e = refl

  pub in_put_request : (there : Bool) → item p ≡ RequestIn → in_of item (cond there (ps ++ p ∷ []) ps) ≡ record (in_of item ps) { request = (in_of item ps).request || there }
  in_put_request true e = in_append item ps p ∙ ap (in_snoc (in_of item ps)) e ∙ ap (λ b. record (in_of item ps) { request = b }) (or_true (in_of item ps).request)
  in_put_request false e = ap (λ b. record (in_of item ps) { request = b }) (or_none (in_of item ps).request)

  pub in_put_cancel : (there : Bool) → item p ≡ CancelIn → in_of item (cond there (ps ++ p ∷ []) ps) ≡ record (in_of item ps) { cancel = (in_of item ps).cancel || there }
  in_put_cancel true e = in_append item ps p ∙ ap (in_snoc (in_of item ps)) e ∙ ap (λ b. record (in_of item ps) { cancel = b }) (or_true (in_of item ps).cancel)
  in_put_cancel false e = ap (λ b. record (in_of item ps) { cancel = b }) (or_none (in_of item ps).cancel)

  pub in_put_bytes : (there : Bool) (bytes : List ℕ) → item p ≡ BytesIn bytes → in_of item (cond there (ps ++ p ∷ []) ps) ≡ record (in_of item ps) { bytes = appended there (in_of item ps).bytes bytes }
  in_put_bytes true bytes e = in_append item ps p ∙ ap (in_snoc (in_of item ps)) e
  in_put_bytes false bytes e = refl

  pub in_put_close : (there : Bool) → item p ≡ CloseIn → in_of item (cond there (ps ++ p ∷ []) ps) ≡ record (in_of item ps) { close = (in_of item ps).close || there }
  in_put_close true e = in_append item ps p ∙ ap (in_snoc (in_of item ps)) e ∙ ap (λ b. record (in_of item ps) { close = b }) (or_true (in_of item ps).close)
  in_put_close false e = ap (λ b. record (in_of item ps) { close = b }) (or_none (in_of item ps).close)

  pub in_order_put : (there : Bool) → in_ordered item ps ≡ true → implies there (in_follows (in_of item ps) (item p)) ≡ true → in_ordered item (cond there (ps ++ p ∷ []) ps) ≡ true
  in_order_put true h f = in_order_append item ps p h f
  in_order_put false h f = h

module _ {A : Type 0} (item : A → OutItem) (ps : List A) (p : A) where
  pub out_put_other : (there : Bool) → item p ≡ OtherOut → out_of item (cond there (ps ++ p ∷ []) ps) ≡ out_of item ps
  out_put_other true e = out_append item ps p ∙ ap (out_snoc (out_of item ps)) e
  out_put_other false e = refl

  pub out_put_refusal : (there : Bool) → item p ≡ RefusalOut → out_of item (cond there (ps ++ p ∷ []) ps) ≡ record (out_of item ps) { head = cond there Refusal (out_of item ps).head }
  out_put_refusal true e = out_append item ps p ∙ ap (out_snoc (out_of item ps)) e
  out_put_refusal false e = refl

  pub out_put_reply : (there : Bool) → item p ≡ ReplyOut → out_of item (cond there (ps ++ p ∷ []) ps) ≡ record (out_of item ps) { head = cond there Reply (out_of item ps).head }
  out_put_reply true e = out_append item ps p ∙ ap (out_snoc (out_of item ps)) e
  out_put_reply false e = refl

  pub out_put_bytes : (there : Bool) (bytes : List ℕ) → item p ≡ BytesOut bytes → out_of item (cond there (ps ++ p ∷ []) ps) ≡ record (out_of item ps) { bytes = appended there (out_of item ps).bytes bytes }
  out_put_bytes true bytes e = out_append item ps p ∙ ap (out_snoc (out_of item ps)) e
  out_put_bytes false bytes e = refl

  pub out_put_close : (there : Bool) → item p ≡ CloseOut → out_of item (cond there (ps ++ p ∷ []) ps) ≡ record (out_of item ps) { closes = one_more_close there (out_of item ps).closes }
  out_put_close true e = out_append item ps p ∙ ap (out_snoc (out_of item ps)) e
  out_put_close false e = refl

  pub out_order_put : (there : Bool) → out_ordered item ps ≡ true → implies there (out_follows (out_of item ps) (item p)) ≡ true → out_ordered item (cond there (ps ++ p ∷ []) ps) ≡ true
  out_order_put true h f = out_order_append item ps p h f
  out_order_put false h f = h
