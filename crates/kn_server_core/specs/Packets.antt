-- The packets that the server gives out.
use Rattle.std.specs.Prelude.{ℕ, ℤ, pos, nat_lt, List, [], ◌∷◌, length, take, drop, if◌then◌else◌}
use Rattle.kn_packet.specs.declared.packet.Packet.TheVariants.{DialRsp, CloseReq, CloseRsp, Data}
use Rattle.kn_server_core.specs.declared.event.ServerOut.{ServerOut}
use Rattle.kn_server_core.specs.declared.event.ServerOut.TheVariants.{ToFront, ToLink}

-- a dial is refused with a text
abbrev pub refusal : ℕ → ℤ → List ℕ → ServerOut
refusal front random error = ToFront front (DialRsp error (pos 0) random)

-- a tunnel is open: its front knows it by the number of its dial
abbrev pub opened : ℕ → ℕ → ℤ → ServerOut
opened front dial random = ToFront front (DialRsp [] (pos dial) random)

-- a tunnel's end is told to its front
abbrev pub ended : ℕ → ℕ → List ℕ → ServerOut
ended front dial error = ToFront front (CloseRsp error (pos dial))

-- a front's request to close is refused with a text
abbrev pub close_refused : ℕ → ℤ → List ℕ → ServerOut
close_refused front connect_id error = ToFront front (CloseRsp error connect_id)

-- the agent is asked to close a connection
abbrev pub close_asked : ℕ → ℤ → ServerOut
close_asked link connect_id = ToLink link (CloseReq connect_id)

-- bytes in one packet, or in two where they are too many for one
abbrev pub in_packets : List ℕ → List (List ℕ)
in_packets bytes = if nat_lt 4194000 (length bytes) then take 4194000 bytes ∷ drop 4194000 bytes ∷ [] else bytes ∷ []

abbrev pub data_to_front : ℕ → ℕ → List (List ℕ) → List ServerOut
data_to_front front dial [] = []
data_to_front front dial (bytes ∷ rest) = ToFront front (Data (pos dial) [] bytes) ∷ data_to_front front dial rest

abbrev pub data_to_link : ℕ → ℤ → List (List ℕ) → List ServerOut
data_to_link link connect_id [] = []
data_to_link link connect_id (bytes ∷ rest) = ToLink link (Data connect_id [] bytes) ∷ data_to_link link connect_id rest
