-- The word of a list with one packet queued behind it, which is dropped where its receiver lost the list.
use Rattle.std.proofs.Common.{◌≡◌, ◌||◌, ◌++◌, ℕ, Bool, true, false, cond, List, [], ◌∷◌, refl, sym, ap, ◌∙◌}
use Rattle.kn_packet.specs.declared.packet.Packet.{Packet}
use Rattle.kn_tunnel.specs.Steps.{appended, one_more_close}
use Rattle.kn_tunnel.specs.Tunnel.{Refusal, Reply}
use Rattle.kn_words.specs.Down.{BytesDown, CloseDown, DownItem, OtherDown, down_of, down_snoc, has_request, is_request}
use Rattle.kn_words.specs.In.{BytesIn, CancelIn, CloseIn, InItem, OtherIn, in_of, in_snoc}
use Rattle.kn_words.specs.Out.{BytesOut, CloseOut, OtherOut, OutItem, RefusalOut, ReplyOut, out_of, out_snoc}
use Rattle.kn_words.specs.Up.{BytesUp, CloseUp, OtherUp, UpItem, up_of, up_snoc}
use Rattle.kn_words.proofs.Ends.{down_append, in_append, out_append, up_append}
use Rattle.kn_packets.specs.Outputs.{queued}

-- ---- to the app
pub out_other : (item : Packet → OutItem) (b : Bool) (ps : List Packet) (p : Packet) → item p ≡ OtherOut → out_of item (queued b ps (p ∷ [])) ≡ out_of item ps
out_other item true ps p e = out_append item ps p ∙ ap (out_snoc (out_of item ps)) e
out_other item false ps p e = refl

pub out_refused : (item : Packet → OutItem) (b : Bool) (ps : List Packet) (p : Packet) → item p ≡ RefusalOut
    → out_of item (queued b ps (p ∷ [])) ≡ record (out_of item ps) { head = cond b Refusal (out_of item ps).head }
out_refused item true ps p e = out_append item ps p ∙ ap (out_snoc (out_of item ps)) e
out_refused item false ps p e = refl

pub out_replied : (item : Packet → OutItem) (b : Bool) (ps : List Packet) (p : Packet) → item p ≡ ReplyOut
    → out_of item (queued b ps (p ∷ [])) ≡ record (out_of item ps) { head = cond b Reply (out_of item ps).head }
out_replied item true ps p e = out_append item ps p ∙ ap (out_snoc (out_of item ps)) e
out_replied item false ps p e = refl

pub out_closed : (item : Packet → OutItem) (b : Bool) (ps : List Packet) (p : Packet) → item p ≡ CloseOut
    → out_of item (queued b ps (p ∷ [])) ≡ record (out_of item ps) { closes = one_more_close b (out_of item ps).closes }
out_closed item true ps p e = out_append item ps p ∙ ap (out_snoc (out_of item ps)) e
out_closed item false ps p e = refl

pub out_passed : (item : Packet → OutItem) (b : Bool) (ps : List Packet) (p : Packet) (bytes : List ℕ) → item p ≡ BytesOut bytes
    → out_of item (queued b ps (p ∷ [])) ≡ record (out_of item ps) { bytes = appended b (out_of item ps).bytes bytes }
out_passed item true ps p bytes e = out_append item ps p ∙ ap (out_snoc (out_of item ps)) e
out_passed item false ps p bytes e = refl

-- ---- to the agent
pub down_other : (item : Packet → DownItem) (b : Bool) (ps : List Packet) (p : Packet) → item p ≡ OtherDown → down_of item (queued b ps (p ∷ [])) ≡ down_of item ps
down_other item true ps p e = down_append item ps p ∙ ap (down_snoc (down_of item ps)) e
down_other item false ps p e = refl

pub down_closed : (item : Packet → DownItem) (b : Bool) (ps : List Packet) (p : Packet) → item p ≡ CloseDown
    → down_of item (queued b ps (p ∷ [])) ≡ record (down_of item ps) { close = (down_of item ps).close || b }
down_closed item true ps p e = down_append item ps p ∙ ap (down_snoc (down_of item ps)) e ∙ ap (λ c. record (down_of item ps) { close = c }) (sym (or_true (down_of item ps).close))
  where
    or_true : (b : Bool) → (b || true) ≡ true
    or_true true = refl
    or_true false = refl
down_closed item false ps p e = ap (λ c. record (down_of item ps) { close = c }) (sym (or_false (down_of item ps).close))
  where
    or_false : (b : Bool) → (b || false) ≡ b
    or_false true = refl
    or_false false = refl

pub down_passed : (item : Packet → DownItem) (b : Bool) (ps : List Packet) (p : Packet) (bytes : List ℕ) → item p ≡ BytesDown bytes
    → down_of item (queued b ps (p ∷ [])) ≡ record (down_of item ps) { bytes = appended b (down_of item ps).bytes bytes }
down_passed item true ps p bytes e = down_append item ps p ∙ ap (down_snoc (down_of item ps)) e
down_passed item false ps p bytes e = refl

pub request_append : (d : ℕ) (ps : List Packet) (p : Packet) → has_request d (ps ++ p ∷ []) ≡ (has_request d ps || is_request d p)
request_append d [] p = or_false (is_request d p)
  where
    or_false : (b : Bool) → (b || false) ≡ b
    or_false true = refl
    or_false false = refl
request_append d (q ∷ ps) p = ap (λ b. is_request d q || b) (request_append d ps p) ∙ or_assoc (is_request d q) (has_request d ps) (is_request d p)
  where
    or_assoc : (a b c : Bool) → (a || (b || c)) ≡ ((a || b) || c)
    or_assoc true b c = refl
    or_assoc false b c = refl

pub request_other : (d : ℕ) (b : Bool) (ps : List Packet) (p : Packet) → is_request d p ≡ false → has_request d (queued b ps (p ∷ [])) ≡ has_request d ps
request_other d true ps p e = request_append d ps p ∙ rw e (or_false (has_request d ps))
  where
    or_false : (b : Bool) → (b || false) ≡ b
    or_false true = refl
    or_false false = refl
request_other d false ps p e = refl

pub request_made : (d : ℕ) (b : Bool) (ps : List Packet) (p : Packet) → is_request d p ≡ true → has_request d ps ≡ false → has_request d (queued b ps (p ∷ [])) ≡ b
request_made d true ps p e f = request_append d ps p ∙ rw (e, f) refl
request_made d false ps p e f = f

-- ---- from the agent
pub up_other : (item : Packet → UpItem) (b : Bool) (ps : List Packet) (p : Packet) → item p ≡ OtherUp → up_of item (queued b ps (p ∷ [])) ≡ up_of item ps
up_other item true ps p e = up_append item ps p ∙ ap (up_snoc (up_of item ps)) e
up_other item false ps p e = refl

pub up_closed : (item : Packet → UpItem) (b : Bool) (ps : List Packet) (p : Packet) → item p ≡ CloseUp
    → up_of item (queued b ps (p ∷ [])) ≡ record (up_of item ps) { closes = one_more_close b (up_of item ps).closes }
up_closed item true ps p e = up_append item ps p ∙ ap (up_snoc (up_of item ps)) e
up_closed item false ps p e = refl

pub up_passed : (item : Packet → UpItem) (b : Bool) (ps : List Packet) (p : Packet) (bytes : List ℕ) → item p ≡ BytesUp bytes
    → up_of item (queued b ps (p ∷ [])) ≡ record (up_of item ps) { bytes = appended b (up_of item ps).bytes bytes }
up_passed item true ps p bytes e = up_append item ps p ∙ ap (up_snoc (up_of item ps)) e
up_passed item false ps p bytes e = refl

-- ---- from the app
pub in_other : (item : Packet → InItem) (b : Bool) (ps : List Packet) (p : Packet) → item p ≡ OtherIn → in_of item (queued b ps (p ∷ [])) ≡ in_of item ps
in_other item true ps p e = in_append item ps p ∙ ap (in_snoc (in_of item ps)) e
in_other item false ps p e = refl

pub in_passed : (item : Packet → InItem) (b : Bool) (ps : List Packet) (p : Packet) (bytes : List ℕ) → item p ≡ BytesIn bytes
    → in_of item (queued b ps (p ∷ [])) ≡ record (in_of item ps) { bytes = appended b (in_of item ps).bytes bytes }
in_passed item true ps p bytes e = in_append item ps p ∙ ap (in_snoc (in_of item ps)) e
in_passed item false ps p bytes e = refl

pub in_cancelled : (item : Packet → InItem) (b : Bool) (ps : List Packet) (p : Packet) → item p ≡ CancelIn
    → in_of item (queued b ps (p ∷ [])) ≡ record (in_of item ps) { cancel = (in_of item ps).cancel || b }
in_cancelled item true ps p e = in_append item ps p ∙ ap (in_snoc (in_of item ps)) e ∙ ap (λ c. record (in_of item ps) { cancel = c }) (sym (or_true (in_of item ps).cancel))
  where
    or_true : (b : Bool) → (b || true) ≡ true
    or_true true = refl
    or_true false = refl
in_cancelled item false ps p e = ap (λ c. record (in_of item ps) { cancel = c }) (sym (or_false (in_of item ps).cancel))
  where
    or_false : (b : Bool) → (b || false) ≡ b
    or_false true = refl
    or_false false = refl

pub in_closed : (item : Packet → InItem) (b : Bool) (ps : List Packet) (p : Packet) → item p ≡ CloseIn
    → in_of item (queued b ps (p ∷ [])) ≡ record (in_of item ps) { close = (in_of item ps).close || b }
in_closed item true ps p e = in_append item ps p ∙ ap (in_snoc (in_of item ps)) e ∙ ap (λ c. record (in_of item ps) { close = c }) (sym (or_true (in_of item ps).close))
  where
    or_true : (b : Bool) → (b || true) ≡ true
    or_true true = refl
    or_true false = refl
in_closed item false ps p e = ap (λ c. record (in_of item ps) { close = c }) (sym (or_false (in_of item ps).close))
  where
    or_false : (b : Bool) → (b || false) ≡ b
    or_false true = refl
    or_false false = refl
