-- When two worlds are one, and how steps join.
use Rattle.std.proofs.Common.{◌≡◌, ℕ, ◌++◌, List, [], ◌∷◌, sym, subst}
use Rattle.kn_tunnel.specs.Tunnel.{Side}
use Rattle.kn_packets.specs.Keys.{Keys}
use Rattle.kn_packets.specs.Moves.{Makes, May, Move, after}
use Rattle.kn_packets.specs.World.{World, WorldApp, WorldDial, WorldLink, WorldStream}
use Rattle.kn_world.specs.declared.state.State.{State}
use Rattle.kn_refinement.specs.Fits.{Fits}
use Rattle.kn_refinement.specs.Leads.{Leads}
use Rattle.kn_refinement.specs.Shown.{shown}

-- ---- worlds, by their server and what is noted of each number
pub worlds_same : (v w : World) → v.server ≡ w.server → ((l : ℕ) → v.agents l ≡ w.agents l) → ((c : ℕ) → v.clients c ≡ w.clients c) → ((l : ℕ) → v.links l ≡ w.links l)
    → ((f : ℕ) → v.streams f ≡ w.streams f) → ((d : ℕ) → v.dials d ≡ w.dials d) → ((k : ℕ) → v.apps k ≡ w.apps k) → v ≡ w
worlds_same v w server agents clients links streams dials apps = λ i. record {
  server = server i;
  agents = λ l. agents l i;
  clients = λ c. clients c i;
  links = λ l. links l i;
  streams = λ f. streams f i;
  dials = λ d. dials d i;
  apps = λ k. apps k i;
}

-- ---- their records, by their fields
pub links_same : (v w : WorldLink) → v.server ≡ w.server → v.up ≡ w.up → v.down ≡ w.down → v ≡ w
links_same v w server up down = λ i. record { server = server i; up = up i; down = down i }

pub streams_same : (v w : WorldStream) → v.begun ≡ w.begun → v.connect ≡ w.connect → v.owner ≡ w.owner → v.app ≡ w.app → v.front ≡ w.front → v.client ≡ w.client → v.finished ≡ w.finished
    → v.up ≡ w.up → v.down ≡ w.down → v ≡ w
streams_same v w begun connect owner app front client finished up down = λ i. record {
  begun = begun i;
  connect = connect i;
  owner = owner i;
  app = app i;
  front = front i;
  client = client i;
  finished = finished i;
  up = up i;
  down = down i;
}

pub dials_same : (v w : WorldDial) → v.link ≡ w.link → v.cid ≡ w.cid → v.side ≡ w.side → v ≡ w
dials_same v w link cid side = λ i. record { link = link i; cid = cid i; side = side i }

pub apps_same : (v w : WorldApp) → v.came ≡ w.came → v.stream ≡ w.stream → v.number ≡ w.number → v.phase ≡ w.phase → v.side ≡ w.side → v.dial ≡ w.dial → v ≡ w
apps_same v w came stream number phase side dial = λ i. record { came = came i; stream = stream i; number = number i; phase = phase i; side = side i; dial = dial i }

pub sides_same : (v w : Side) → v.handed ≡ w.handed → v.kept ≡ w.kept → v.unwritten ≡ w.unwritten → v.got ≡ w.got → v ≡ w
sides_same v w handed kept unwritten got = λ i. record { handed = handed i; kept = kept i; unwritten = unwritten i; got = got i }

-- ---- moves, one after another
pub makes_join : (ms ns : List Move) (u v w : World) → Makes u ms v → Makes v ns w → Makes u (ms ++ ns) w
makes_join [] ns u v w first second = subst (λ x. Makes x ns w) (sym first) second
makes_join (m ∷ ms) ns u v w first second = (first.0, makes_join ms ns (after m u) v w first.1 second)

-- ---- steps
-- one that leaves what is shown
pub leads_none : (s t : State) → Fits t → shown s ≡ shown t → Leads s t
leads_none s t fits same = record { fits = fits; moves = []; made = same }

-- one that is a move
pub leads_one : (s t : State) (m : Move) → Fits t → May m (shown s) → after m (shown s) ≡ shown t → Leads s t
leads_one s t m fits may made = record { fits = fits; moves = m ∷ []; made = (may, made) }

-- two, one after the other. That the facts on keys go on over moves is a law of its own
abbrev pub KeysGoOn : Type 0
KeysGoOn = (w v : World) (ms : List Move) → Keys w → Makes w ms v → Keys v

pub leads_then : KeysGoOn → (s t u : State) → Keys (shown s) → Leads s t → (Fits t → Keys (shown t) → Leads t u) → Leads s u
leads_then keys_go_on s t u keys first second =
    let next = second first.fits (keys_go_on (shown s) (shown t) first.moves keys first.made) in
    record { fits = next.fits; moves = first.moves ++ next.moves; made = makes_join first.moves next.moves (shown s) (shown t) (shown u) first.made next.made }
