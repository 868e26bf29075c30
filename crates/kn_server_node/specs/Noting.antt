-- What is kept beside the connections, so that none of them has to be looked for: numbers of those that may have something to
-- handle, and of those on which something may be written or of which nothing comes any more.
use Rattle.std.specs.Prelude.{◌≡◌, ℕ, ◌==◌, Bool, true, false, not, ◌&&◌, ◌||◌, List, [], ◌∷◌, ◌++◌, length, filter, Option, Some, None, if◌then◌else◌}
use Rattle.kn_grpc.specs.Readers.{First, Less, Whole, Bad}
use Rattle.kn_grpc.specs.Packets.{first_of}
use Rattle.kn_packet.specs.declared.packet.Packet.{Packet}
use Rattle.kn_h2_state.specs.declared.moves.Move.{Move}
use Rattle.kn_ends.specs.declared.inlet.Inlet.{Inlet}
use Rattle.kn_ends.specs.Carriers.{inlet_at}
use Rattle.kn_rising.specs.Members.{Members, at}
use Rattle.kn_server_node.specs.declared.end.End.{End}
use Rattle.kn_server_node.specs.declared.end.End.TheVariants.{Streams, Connect}
use Rattle.kn_server_node.specs.declared.notes.Notes.{Notes}
use Rattle.kn_server_node.specs.Ends.{may_write, is_over}
use Rattle.kn_ends.specs.Queues.{is_empty}

-- ---- numbers

abbrev pub is_in : ℕ → List ℕ → Bool
is_in n [] = false
is_in n (x ∷ xs) = (x == n) || is_in n xs

abbrev pub noted : ℕ → List ℕ → List ℕ
noted n xs = if is_in n xs then xs else xs ++ n ∷ []

abbrev pub is_another : ℕ → ℕ → Bool
is_another n x = not (x == n)

abbrev pub without_number : ℕ → List ℕ → List ℕ
without_number n xs = filter (is_another n) xs

-- ---- what may have something to handle

-- a message, or the end of a stream, whatever it waits for
abbrev pub first_stands : Bool → First Packet ℕ → Bool
first_stands ended Less = ended
first_stands ended (Whole p rest) = true
first_stands ended (Bad status) = true

abbrev pub inlet_has : Option Inlet → Bool
inlet_has None = false
inlet_has (Some i) = first_stands i.ended (first_of i.messages.kept)

abbrev pub any_in : List Inlet → Bool
any_in [] = false
any_in (i ∷ is) = inlet_has (Some i) || any_in is

unfoldable pub has_front : Option End → ℕ → Bool
has_front None s = false
has_front (Some (Streams for_agents carrier)) s = inlet_has (inlet_at carrier.inlets s)
has_front (Some (Connect d)) s = (s == 0) && not (is_empty d.early)

-- ---- the two sets

-- who has something to handle is ready; and who has something to write, or is over, is due
pub record AreNoted (ends : Members End) (notes : Notes) : Type 0 where
  pub same : length ends.items ≡ length ends.numbers
  pub fronts : (c s : ℕ) → has_front (at ends c) s ≡ true → is_in c notes.ready ≡ true
  pub writes : (c : ℕ) (m : Move) → may_write (at ends c) m ≡ true → is_in c notes.due ≡ true
  pub overs : (c : ℕ) → is_over (at ends c) ≡ true → is_in c notes.due ≡ true

-- whoever was in one of them is so still
pub record Keeps (old new : Notes) : Type 0 where
  pub ready : (c : ℕ) → is_in c old.ready ≡ true → is_in c new.ready ≡ true
  pub due : (c : ℕ) → is_in c old.due ≡ true → is_in c new.due ≡ true

-- a number is in both
pub record AreIn (c : ℕ) (notes : Notes) : Type 0 where
  pub ready : is_in c notes.ready ≡ true
  pub due : is_in c notes.due ≡ true
