-- The parts of what a header block does, one function each.
use Rattle.std.specs.Prelude.{ℕ, Bool, not, ◌&&◌, ◌||◌, List, Option, Some, None, bytes_eq, codes, if◌then◌else◌}
use Rattle.std.specs.List.{list_any}
use Rattle.kn_hpack.specs.Fields.{Field}
use Rattle.kn_h2_state.specs.declared.stream.Stream.{Stream}
use Rattle.kn_h2_state.specs.declared.state.State.{State}
use Rattle.kn_h2_state.specs.Streams.{is_open}
use Rattle.kn_h2_state.specs.Heads.{is_pseudo, is_late, is_malformed_response, is_between, is_informational}
use Rattle.kn_h2_state.specs.Effects.{peer_ends, refused_response, headed}

-- whether the head of an open stream came
abbrev pub answered_of : Option Stream → Option Bool
answered_of None = None
answered_of (Some st) = if is_open st then Some st.answered else None

-- the first head on a stream of a client
abbrev pub first_head : ℕ → Bool → List Field → State → State
first_head n ends fields s =
    if is_informational fields && not ends then s
    else (if is_malformed_response fields || is_informational fields then refused_response n s
    else headed n ends fields s)

-- a head on an open stream of a client, whose head came or did not
abbrev pub responded : Bool → ℕ → Bool → List Field → State → State
responded answered n ends fields s = if answered then peer_ends n s else first_head n ends fields s

-- a pseudo header comes after another header, which came before these fields or is one of them
abbrev pub is_late_after : Bool → List Field → Bool
is_late_after other fields = (other && list_any is_pseudo fields) || is_late fields

-- the status of an interim response
abbrev pub is_interim : Field → Bool
is_interim f = bytes_eq f.name (codes ":status") && is_between f.value
