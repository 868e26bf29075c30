-- A head by CONNECT in the packet world: its connection comes, with its request first; its early bytes are handed behind it, and the request is taken.
use Rattle.std.proofs.Common.{◌≡◌, ◌==◌, ◌&&◌, ◌||◌, ◌++◌, ℕ, pos, Bool, true, false, not, cond, List, [], ◌∷◌, length, None, refl, sym, ap, ◌∙◌, subst}
use Rattle.std.proofs.lemmas.Bool.{eq-eqb}
use Rattle.std.specs.Prelude.{take}
use Rattle.kn_packet.specs.declared.packet.Packet.{Packet}
use Rattle.kn_packet.specs.declared.packet.Packet.TheVariants.{Data}
use Rattle.kn_tables.specs.Lists.{first_where}
use Rattle.kn_server_core.specs.Server.{front_added}
use Rattle.kn_server_core.specs.declared.event.ServerEvent.TheVariants.{FrontPacket}
use Rattle.kn_server_core.specs.declared.state.State.{State as ServerState}
use Rattle.kn_edge_core.specs.ClientTables.{is_app}
use Rattle.kn_tunnel.specs.Kinds.{is_awaited, is_coming, is_dialling, is_gone, is_opened, is_present}
use Rattle.kn_tunnel.specs.Steps.{no_bytes}
use Rattle.kn_tunnel.specs.Tunnel.{Coming, Dialling, Front, Present, Side}
use Rattle.kn_packets.specs.Moves.{Makes, May, Move, after, app_is, as_taken, begins_with_bytes, connect_hands, connection_dial, dial_entry, hands, hands_over, in_is, new_stream, sends, server_does, side_if, takes_in}
use Rattle.kn_packets.specs.Moves.Move.{AppHands, AppSends, ConnectComes, FrontComes, ServerTakesIn}
use Rattle.kn_packets.specs.Outputs.{queued}
use Rattle.kn_packets.specs.World.{World, WorldApp, WorldStream, phase_in, phase_of, put_at}
use Rattle.kn_world.specs.Hearing.{request}
use Rattle.kn_refinement.proofs.Worlds.{worlds_same}

abbrev pub head_stream : ℕ → Front → List Packet → WorldStream
head_stream k front up = record { begun = true; connect = true; owner = 0; app = k; front = front; client = true; finished = false; up = up; down = [] }

abbrev pub head_app : ℕ → Side → WorldApp
head_app f side = record { came = true; stream = f; number = 0; phase = Dialling; side = side; dial = None }

-- an app k has come by the stream f
abbrev pub headed : World → ServerState → ℕ → ℕ → Front → List Packet → Side → World
headed w server k f front up side = record w { server = server; streams = put_at w.streams f (head_stream k front up); apps = put_at w.apps k (head_app f side) }

-- what it has handed over, and what it keeps
abbrev pub head_side : List ℕ → List ℕ → Side
head_side early rest = sends rest (hands (length early) (sends early no_bytes))

abbrev pub early_up : List ℕ → List Packet
early_up [] = []
early_up (x ∷ xs) = Data (pos 0) [] (x ∷ xs) ∷ []

pub take_whole : (xs : List ℕ) → take (length xs) xs ≡ xs
take_whole [] = refl
take_whole (x ∷ xs) = ap (λ ys. x ∷ ys) (take_whole xs)

module _ (w : World) (k f : ℕ) where
  module _ (server : ServerState) (front : Front) (up : List Packet) (side : Side) where
    abbrev it : World
    it = headed w server k f front up side

    its_stream : it.streams f ≡ head_stream k front up
    its_stream = ap (λ b. cond b (head_stream k front up) (w.streams f)) (eq-eqb f f refl)

    its_app : it.apps k ≡ head_app f side
    its_app = ap (λ b. cond b (head_app f side) (w.apps k)) (eq-eqb k k refl)

    came : (it.apps k).came ≡ true
    came = ap (λ (x : WorldApp). x.came) its_app

    at_stream : it.streams (it.apps k).stream ≡ head_stream k front up
    at_stream = ap (λ (x : WorldApp). it.streams x.stream) its_app ∙ its_stream

    its_phase : phase_in it (it.apps k) ≡ Dialling
    its_phase =
        ap (λ x. phase_in it x) its_app
        ∙ ap (λ (x : WorldStream). phase_of x.connect (first_where (is_app 0) (it.clients x.owner).apps) Dialling) its_stream

    -- it sends
    pub sends_is : (bytes : List ℕ) → after (AppSends k bytes) it ≡ headed w server k f front up (sends bytes side)
    sends_is bytes = worlds_same (after (AppSends k bytes) it) (headed w server k f front up (sends bytes side)) refl (λ l. refl) (λ c. refl) (λ l. refl) (λ i. refl) (λ d. refl) (λ i. here i (i == k))
      where
        here : (i : ℕ) (b : Bool) → record (cond b (head_app f side) (w.apps i)) { side = side_if b (sends bytes) (cond b (head_app f side) (w.apps i)).side } ≡ cond b (head_app f (sends bytes side)) (w.apps i)
        here i true = refl
        here i false = refl

    pub may_send : (bytes : List ℕ) → May (AppSends k bytes) it
    may_send bytes = came

    -- it hands over
    pub hands_is : (n : ℕ) → is_gone front ≡ false → after (AppHands k n) it ≡ headed w server k f front (up ++ Data (pos 0) [] (take n side.kept) ∷ []) (hands n side)
    hands_is n here_yet =
        ap (λ (x : WorldApp). hands_over (it.streams x.stream).connect k (take n x.side.kept) (app_is k (hands n) it)) its_app
        ∙ ap (λ (x : WorldStream). hands_over x.connect k (take n side.kept) (app_is k (hands n) it)) its_stream
        ∙ ap (λ (x : WorldApp). connect_hands x.stream (take n side.kept) (app_is k (hands n) it)) its_app
        ∙ worlds_same (connect_hands f (take n side.kept) (app_is k (hands n) it)) (headed w server k f front (up ++ Data (pos 0) [] (take n side.kept) ∷ []) (hands n side)) refl (λ l. refl) (λ c. refl) (λ l. refl)
        (λ i. on_stream i (i == f)) (λ d. refl) (λ i. on_app i (i == k))
      where
        on_stream : (i : ℕ) (b : Bool) → record (cond b (head_stream k front up) (w.streams i)) { up = cond b (queued (not (is_gone (cond b (head_stream k front up) (w.streams i)).front)) (cond b (head_stream k front up) (w.streams i)).up (Data (pos 0) [] (take n side.kept) ∷ [])) (cond b (head_stream k front up) (w.streams i)).up }
            ≡ cond b (head_stream k front (up ++ Data (pos 0) [] (take n side.kept) ∷ [])) (w.streams i)
        on_stream i true = ap (λ g. head_stream k front (queued (not g) up (Data (pos 0) [] (take n side.kept) ∷ []))) here_yet
        on_stream i false = refl

        on_app : (i : ℕ) (b : Bool) → record (cond b (head_app f side) (w.apps i)) { side = side_if b (hands n) (cond b (head_app f side) (w.apps i)).side } ≡ cond b (head_app f (hands n side)) (w.apps i)
        on_app i true = refl
        on_app i false = refl

    pub may_hand : (n : ℕ) → May (AppHands k n) it
    may_hand n =
        ap (λ b. b && (is_opened (phase_in it (it.apps k)) || ((it.streams (it.apps k).stream).connect && is_dialling (phase_in it (it.apps k))))) came
        ∙ ap (λ p. is_opened p || ((it.streams (it.apps k).stream).connect && is_dialling p)) its_phase
        ∙ ap (λ (x : WorldStream). x.connect && true) at_stream

  -- its connection comes
  pub begins_is : (address : List ℕ) → after (ConnectComes k f address) w ≡ headed w w.server k f Coming (request address ∷ []) no_bytes
  begins_is address = worlds_same (after (ConnectComes k f address) w) (headed w w.server k f Coming (request address ∷ []) no_bytes) refl (λ l. refl) (λ c. refl) (λ l. refl) (λ i. here i (i == f)) (λ d. refl) (λ i. refl)
    where
      here : (i : ℕ) (b : Bool) → record (cond b (new_stream true 0 k) (w.streams i)) { up = cond b (request address ∷ []) (cond b (new_stream true 0 k) (w.streams i)).up } ≡ cond b (head_stream k Coming (request address ∷ [])) (w.streams i)
      here i true = refl
      here i false = refl

  pub may_begin : (address : List ℕ) → (w.apps k).came ≡ false → (w.streams f).begun ≡ false → May (ConnectComes k f address) w
  may_begin address a s = ap (λ b. not b && not (w.streams f).begun) a ∙ ap not s

  -- its front comes up
  pub comes_is : (server : ServerState) (up : List Packet) (side : Side) → after (FrontComes f) (headed w server k f Coming up side) ≡ headed w (front_added server f).state k f Present up side
  comes_is server up side = worlds_same (after (FrontComes f) (headed w server k f Coming up side)) (headed w (front_added server f).state k f Present up side) refl (λ l. refl) (λ c. refl) (λ l. refl) (λ i. here i (i == f)) (λ d. refl) (λ i. refl)
    where
      here : (i : ℕ) (b : Bool) → record (cond b (head_stream k Coming up) (w.streams i)) { front = cond b Present (cond b (head_stream k Coming up) (w.streams i)).front } ≡ cond b (head_stream k Present up) (w.streams i)
      here i true = refl
      here i false = refl

  pub may_come : (server : ServerState) (up : List Packet) (side : Side) → May (FrontComes f) (headed w server k f Coming up side)
  may_come server up side = ap (λ (x : WorldStream). x.begun && is_coming x.front) (its_stream server Coming up side)

  -- its request is taken
  pub takes_is : (server : ServerState) (target : List ℕ) (up : List Packet) (side : Side)
      → after (ServerTakesIn f) (headed w server k f Present (request target ∷ up) side) ≡ server_does (FrontPacket f (request target)) (headed w server k f Present up side)
  takes_is server target up side =
      let x : World = headed w server k f Present (request target ∷ up) side in
      let e : x.streams f ≡ head_stream k Present (request target ∷ up) = its_stream server Present (request target ∷ up) side in
      ap (λ (y : WorldStream). takes_in f y.up x) e
      ∙ ap (λ (y : WorldStream). server_does (FrontPacket f (as_taken y.connect (connection_dial x f) (request target))) (in_is f up x)) e
      ∙ ap (λ v. server_does (FrontPacket f (request target)) v) (worlds_same (in_is f up x) (headed w server k f Present up side) refl (λ l. refl) (λ c. refl) (λ l. refl) (λ i. here i (i == f)) (λ d. refl) (λ i. refl))
    where
      here : (i : ℕ) (b : Bool) → record (cond b (head_stream k Present (request target ∷ up)) (w.streams i)) { up = cond b up (cond b (head_stream k Present (request target ∷ up)) (w.streams i)).up } ≡ cond b (head_stream k Present up) (w.streams i)
      here i true = refl
      here i false = refl

  pub may_take : (server : ServerState) (target : List ℕ) (up : List Packet) (side : Side) → May (ServerTakesIn f) (headed w server k f Present (request target ∷ up) side)
  may_take server target up side =
      let x : World = headed w server k f Present (request target ∷ up) side in
      let e : x.streams f ≡ head_stream k Present (request target ∷ up) = its_stream server Present (request target ∷ up) side in
      ap (λ (y : WorldStream). is_present y.front && not (y.connect && is_awaited (dial_entry x (connection_dial x f)) && begins_with_bytes y.up)) e
      ∙ ap not (never (is_awaited (dial_entry x (connection_dial x f))))
    where
      never : (b : Bool) → (b && false) ≡ false
      never true = refl
      never false = refl

  -- ---- all until the request is taken
  pub record Reached (v : World) : Type 0 where
    pub moves : List Move
    pub made : Makes w moves v

  reached : (u v : World) (m : Move) → Reached u → May m u → after m u ≡ v → Reached v
  reached u v m r may made = record { moves = r.moves ++ m ∷ []; made = joined r.moves w r.made }
    where
      joined : (ms : List Move) (x : World) → Makes x ms u → Makes x (ms ++ m ∷ []) v
      joined [] x h = subst (λ y. Makes y (m ∷ []) v) (sym h) (may, made)
      joined (n ∷ ns) x h = (h.0, joined ns (after n x) h.1)

  module _ (target early rest : List ℕ) (no_app_yet : (w.apps k).came ≡ false) (no_stream_yet : (w.streams f).begun ≡ false) where
    came_up : Reached (headed w (front_added w.server f).state k f Present (request target ∷ []) no_bytes)
    came_up = reached (headed w w.server k f Coming (request target ∷ []) no_bytes) (headed w (front_added w.server f).state k f Present (request target ∷ []) no_bytes) (FrontComes f)
        (reached w (headed w w.server k f Coming (request target ∷ []) no_bytes) (ConnectComes k f target) (record { moves = []; made = refl }) (may_begin target no_app_yet no_stream_yet) (begins_is target))
        (may_come w.server (request target ∷ []) no_bytes) (comes_is w.server (request target ∷ []) no_bytes)

    handed_early : (bytes : List ℕ) → Reached (headed w (front_added w.server f).state k f Present (request target ∷ early_up bytes) (hands (length bytes) (sends bytes no_bytes)))
    handed_early [] = came_up
    handed_early (x ∷ xs) =
        let server : ServerState = (front_added w.server f).state in
        let sent : Side = sends (x ∷ xs) no_bytes in
        reached (headed w server k f Present (request target ∷ []) sent) (headed w server k f Present (request target ∷ early_up (x ∷ xs)) (hands (length (x ∷ xs)) sent)) (AppHands k (length (x ∷ xs)))
        (reached (headed w server k f Present (request target ∷ []) no_bytes) (headed w server k f Present (request target ∷ []) sent) (AppSends k (x ∷ xs)) came_up
        (may_send server Present (request target ∷ []) no_bytes (x ∷ xs)) (sends_is server Present (request target ∷ []) no_bytes (x ∷ xs)))
        (may_hand server Present (request target ∷ []) sent (length (x ∷ xs)))
        (hands_is server Present (request target ∷ []) sent (length (x ∷ xs)) refl ∙ ap (λ bytes. headed w server k f Present (request target ∷ Data (pos 0) [] bytes ∷ []) (hands (length (x ∷ xs)) sent)) (take_whole (x ∷ xs)))

    pub head_reached : Reached (headed w (front_added w.server f).state k f Present (request target ∷ early_up early) (head_side early rest))
    head_reached =
        let server : ServerState = (front_added w.server f).state in
        let side : Side = hands (length early) (sends early no_bytes) in
        reached (headed w server k f Present (request target ∷ early_up early) side) (headed w server k f Present (request target ∷ early_up early) (head_side early rest)) (AppSends k rest) (handed_early early)
        (may_send server Present (request target ∷ early_up early) side rest) (sends_is server Present (request target ∷ early_up early) side rest)
