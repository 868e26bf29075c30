-- Tests on the small values of a tunnel.
use Rattle.std.specs.Prelude.{◌||◌, ℕ, Bool, true, false, not, List, [], ◌∷◌, zero, suc}
use Rattle.kn_tunnel.specs.Tunnel.{Asked, Awaited, Carrying, Closing, Coming, Dialled, Dialling, Draining, Ended, Entry, Far, Front, Frontless, Gone, Head, Joined, Lingering, NoEntry, NoHead, Opened, Phase, Present, Refusal, Refused, Reply, Undrawn}

abbrev pub has : List ℕ → Bool
has [] = false
has (x ∷ xs) = true

abbrev pub is_empty : List ℕ → Bool
is_empty xs = not (has xs)

abbrev pub is_zero : ℕ → Bool
is_zero zero = true
is_zero (suc n) = false

abbrev pub implies : Bool → Bool → Bool
implies true b = b
implies false b = true

abbrev pub both_or_neither : Bool → Bool → Bool
both_or_neither true b = b
both_or_neither false b = not b

abbrev pub no_entry : Entry → Bool
no_entry NoEntry = true
no_entry e = false

abbrev pub is_awaited : Entry → Bool
is_awaited Awaited = true
is_awaited e = false

abbrev pub is_carrying : Entry → Bool
is_carrying Carrying = true
is_carrying e = false

abbrev pub is_held : Entry → Bool
is_held NoEntry = false
is_held Awaited = false
is_held Carrying = true
is_held Closing = true
is_held Frontless = true

-- an entry with a front
abbrev pub needs_front : Entry → Bool
needs_front NoEntry = false
needs_front Frontless = false
needs_front e = true

abbrev pub is_asked : Far → Bool
is_asked Asked = true
is_asked f = false

abbrev pub is_dialled : Far → Bool
is_dialled Dialled = true
is_dialled f = false

abbrev pub is_joined : Far → Bool
is_joined Joined = true
is_joined f = false

abbrev pub is_lingering : Far → Bool
is_lingering Lingering = true
is_lingering f = false

-- there is a dial
abbrev pub is_drawn : Far → Bool
is_drawn Undrawn = false
is_drawn f = true

-- the agent has a connection
abbrev pub is_listed : Far → Bool
is_listed f = is_joined f || is_lingering f

abbrev pub is_coming : Front → Bool
is_coming Coming = true
is_coming f = false

abbrev pub is_present : Front → Bool
is_present Present = true
is_present f = false

abbrev pub is_gone : Front → Bool
is_gone Gone = true
is_gone f = false

abbrev pub no_head : Head → Bool
no_head NoHead = true
no_head h = false

abbrev pub is_reply : Head → Bool
is_reply Reply = true
is_reply h = false

abbrev pub is_refusal : Head → Bool
is_refusal Refusal = true
is_refusal h = false

abbrev pub is_dialling : Phase → Bool
is_dialling Dialling = true
is_dialling p = false

abbrev pub is_opened : Phase → Bool
is_opened Opened = true
is_opened p = false

abbrev pub is_draining : Phase → Bool
is_draining Draining = true
is_draining p = false

abbrev pub has_left : Phase → Bool
has_left Ended = true
has_left Refused = true
has_left p = false

abbrev pub is_here : Phase → Bool
is_here p = not (has_left p)

-- the app hands over and takes bytes, or will once its dial is replied
abbrev pub is_taking : Phase → Bool
is_taking Dialling = true
is_taking Opened = true
is_taking p = false

-- what a CONNECT app has come to, once it is sent a refusal or a reply
abbrev pub refused_phase : Phase → Phase
refused_phase Dialling = Refused
refused_phase p = p

abbrev pub opened_phase : Phase → Phase
opened_phase Dialling = Opened
opened_phase p = p

-- what an app that leaves has come to
abbrev pub left_phase : Phase → Phase
left_phase Refused = Refused
left_phase p = Ended

-- a count, as far as it matters
pub data Few : Type 0 where
  Zero : Few
  One : Few
  Two : Few
  More : Few

abbrev pub few : ℕ → Few
few zero = Zero
few (suc zero) = One
few (suc (suc zero)) = Two
few (suc (suc (suc n))) = More

abbrev pub none : Few → Bool
none Zero = true
none One = false
none Two = false
none More = false

abbrev pub at_most_one : Few → Bool
at_most_one Zero = true
at_most_one One = true
at_most_one Two = false
at_most_one More = false

abbrev pub at_most_two : Few → Bool
at_most_two Zero = true
at_most_two One = true
at_most_two Two = true
at_most_two More = false

abbrev pub exactly_one : Few → Bool
exactly_one Zero = false
exactly_one One = true
exactly_one Two = false
exactly_one More = false

abbrev pub one_or_two : Few → Bool
one_or_two Zero = false
one_or_two One = true
one_or_two Two = true
one_or_two More = false

abbrev pub no_closes : ℕ → Bool
no_closes n = none (few n)
