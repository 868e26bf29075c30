-- Requests on the way to an agent.
use Rattle.std.proofs.Common.{◌≡◌, ◌++◌, ◌||◌, ℕ, pos, Bool, true, false, List, [], ◌∷◌, refl, ap, ◌∙◌}
use Rattle.kn_packet.specs.declared.packet.Packet.{Packet}
use Rattle.kn_packet.specs.declared.packet.Packet.TheVariants.{DialReq}
use Rattle.kn_words.specs.Down.{has_request, is_request}
use Rattle.kn_words.proofs.Named.{other_number, own_number}

or_assoc : (a b c : Bool) → (a || (b || c)) ≡ ((a || b) || c)
or_assoc true b c = refl
or_assoc false b c = refl

or_true : (a : Bool) → (a || true) ≡ true
or_true true = refl
or_true false = refl

or_false : (a : Bool) → (a || false) ≡ a
or_false true = refl
or_false false = refl

either_holds : (a b : Bool) → a ≡ true → (a || b) ≡ true
either_holds true b e = refl
either_holds false b e = absurd cc

pub request_joined : (dial : ℕ) (ps qs : List Packet) → has_request dial (ps ++ qs) ≡ (has_request dial ps || has_request dial qs)
request_joined dial [] qs = refl
request_joined dial (p ∷ ps) qs = ap (λ b. is_request dial p || b) (request_joined dial ps qs) ∙ or_assoc (is_request dial p) (has_request dial ps) (has_request dial qs)

-- a list cut short has no request that the whole had not
pub request_cut : (dial : ℕ) (ps qs : List Packet) → has_request dial ps ≡ true → has_request dial (ps ++ qs) ≡ true
request_cut dial ps qs h = request_joined dial ps qs ∙ either_holds (has_request dial ps) (has_request dial qs) h

-- its own request, at the end
pub own_request : (dial : ℕ) (protocol address : List ℕ) (ps : List Packet) → has_request dial (ps ++ DialReq protocol address (pos dial) ∷ []) ≡ true
own_request dial protocol address ps =
    request_joined dial ps (DialReq protocol address (pos dial) ∷ [])
    ∙ ap (λ b. has_request dial ps || (b || false)) (own_number dial)
    ∙ or_true (has_request dial ps)

-- any other packet, at the end
pub other_request : (dial : ℕ) (ps : List Packet) (p : Packet) → is_request dial p ≡ false → has_request dial (ps ++ p ∷ []) ≡ has_request dial ps
other_request dial ps p e =
    request_joined dial ps (p ∷ [])
    ∙ ap (λ b. has_request dial ps || (b || false)) e
    ∙ or_false (has_request dial ps)

pub another_dial : (dial other : ℕ) (protocol address : List ℕ) → (dial ≡ other → ⊥) → is_request dial (DialReq protocol address (pos other)) ≡ false
another_dial dial other protocol address differ = other_number dial other differ
