-- What a test says of every value of a small type, by computing it at each.
use Rattle.std.proofs.Common.{◌≡◌, ◌&&◌, Bool, true, false, refl}
use Rattle.kn_tunnel.specs.Kinds.{Few, More, One, Two, Zero}
use Rattle.kn_tunnel.specs.Tunnel.{Asked, Awaited, Carrying, Closing, Coming, Dialled, Dialling, Draining, Ended, Ending, Entry, Far, Front, Frontless, Gone, Head, Joined, Left, Lingering, NoEntry, NoHead, Opened, Phase, Present, Refusal, Refused, Reply, Undrawn}

pub first : (a b : Bool) → (a && b) ≡ true → a ≡ true
first true b e = refl
first false b e = e

pub second : (a b : Bool) → (a && b) ≡ true → b ≡ true
second true b e = e
second false true e = refl
second false false e = e

abbrev pub bools : (Bool → Bool) → Bool
bools p = p false && p true

abbrev pub entries : (Entry → Bool) → Bool
entries p = p NoEntry && (p Awaited && (p Carrying && (p Closing && p Frontless)))

abbrev pub fars : (Far → Bool) → Bool
fars p = p Undrawn && (p Asked && (p Dialled && (p Joined && (p Lingering && p Left))))

abbrev pub fews : (Few → Bool) → Bool
fews p = p Zero && (p One && (p Two && p More))

pub at_bool : (p : Bool → Bool) → bools p ≡ true → (b : Bool) → p b ≡ true
at_bool p e true = second (p false) _ e
at_bool p e false = first (p false) _ e

pub at_entry : (p : Entry → Bool) → entries p ≡ true → (x : Entry) → p x ≡ true
at_entry p e NoEntry = first (p NoEntry) _ e
at_entry p e Awaited = first (p Awaited) _ (second (p NoEntry) _ e)
at_entry p e Carrying = first (p Carrying) _ (second (p Awaited) _ (second (p NoEntry) _ e))
at_entry p e Closing = first (p Closing) _ (second (p Carrying) _ (second (p Awaited) _ (second (p NoEntry) _ e)))
at_entry p e Frontless = second (p Closing) _ (second (p Carrying) _ (second (p Awaited) _ (second (p NoEntry) _ e)))

pub at_far : (p : Far → Bool) → fars p ≡ true → (x : Far) → p x ≡ true
at_far p e Undrawn = first (p Undrawn) _ e
at_far p e Asked = first (p Asked) _ (second (p Undrawn) _ e)
at_far p e Dialled = first (p Dialled) _ (second (p Asked) _ (second (p Undrawn) _ e))
at_far p e Joined = first (p Joined) _ (second (p Dialled) _ (second (p Asked) _ (second (p Undrawn) _ e)))
at_far p e Lingering = first (p Lingering) _ (second (p Joined) _ (second (p Dialled) _ (second (p Asked) _ (second (p Undrawn) _ e))))
at_far p e Left = second (p Lingering) _ (second (p Joined) _ (second (p Dialled) _ (second (p Asked) _ (second (p Undrawn) _ e))))

pub at_few : (p : Few → Bool) → fews p ≡ true → (x : Few) → p x ≡ true
at_few p e Zero = first (p Zero) _ e
at_few p e One = first (p One) _ (second (p Zero) _ e)
at_few p e Two = first (p Two) _ (second (p One) _ (second (p Zero) _ e))
at_few p e More = second (p Two) _ (second (p One) _ (second (p Zero) _ e))

-- where a test holds, so does what follows
abbrev pub when : Bool → Bool → Bool
when b c = elim b [ true ↦ c | false ↦ true ]

pub met : (b c : Bool) → when b c ≡ true → b ≡ true → c ≡ true
met true c e h = e
met false c e h = absurd cc

abbrev pub fronts : (Front → Bool) → Bool
fronts p = p Coming && (p Present && p Gone)

abbrev pub heads : (Head → Bool) → Bool
heads p = p NoHead && (p Refusal && p Reply)

abbrev pub phases : (Phase → Bool) → Bool
phases p = p Dialling && (p Opened && (p Ending && (p Draining && (p Ended && p Refused))))

pub at_front : (p : Front → Bool) → fronts p ≡ true → (x : Front) → p x ≡ true
at_front p e Coming = first (p Coming) _ e
at_front p e Present = first (p Present) _ (second (p Coming) _ e)
at_front p e Gone = second (p Present) _ (second (p Coming) _ e)

pub at_head : (p : Head → Bool) → heads p ≡ true → (x : Head) → p x ≡ true
at_head p e NoHead = first (p NoHead) _ e
at_head p e Refusal = first (p Refusal) _ (second (p NoHead) _ e)
at_head p e Reply = second (p Refusal) _ (second (p NoHead) _ e)

pub at_phase : (p : Phase → Bool) → phases p ≡ true → (x : Phase) → p x ≡ true
at_phase p e Dialling = first (p Dialling) _ e
at_phase p e Opened = first (p Opened) _ (second (p Dialling) _ e)
at_phase p e Ending = first (p Ending) _ (second (p Opened) _ (second (p Dialling) _ e))
at_phase p e Draining = first (p Draining) _ (second (p Ending) _ (second (p Opened) _ (second (p Dialling) _ e)))
at_phase p e Ended = first (p Ended) _ (second (p Draining) _ (second (p Ending) _ (second (p Opened) _ (second (p Dialling) _ e))))
at_phase p e Refused = second (p Ended) _ (second (p Draining) _ (second (p Ending) _ (second (p Opened) _ (second (p Dialling) _ e))))
