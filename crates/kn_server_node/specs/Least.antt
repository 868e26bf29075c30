-- The least of some candidates that passes a test.
use Rattle.std.specs.Prelude.{◌≡◌, ℕ, ◌==◌, nat_lt, Bool, true, false, ◌&&◌, ◌||◌, List, [], ◌∷◌, ◌++◌, Option, Some, None, if◌then◌else◌}
use Rattle.kn_ends.specs.declared.inlet.Inlet.{Inlet}
use Rattle.kn_rising.specs.Members.{Members, at}
use Rattle.kn_server_node.specs.declared.candidate.Candidate.{Candidate}
use Rattle.kn_server_node.specs.declared.end.End.{End}
use Rattle.kn_server_node.specs.declared.end.End.TheVariants.{Streams, Connect}
use Rattle.kn_server_node.specs.declared.node.Node.{Node}
use Rattle.kn_server_node.specs.Nodes.{can_handle}

abbrev pub is_before : Candidate → Candidate → Bool
is_before a b = nat_lt a.conn b.conn || ((a.conn == b.conn) && nat_lt a.stream b.stream)

abbrev pub earlier : Option Candidate → Candidate → Option Candidate
earlier None x = Some x
earlier (Some b) x = if is_before x b then Some x else Some b

abbrev pub better : (Candidate → Bool) → Option Candidate → Candidate → Option Candidate
better can best x = if can x then earlier best x else best

abbrev pub least_from : (Candidate → Bool) → Option Candidate → List Candidate → Option Candidate
least_from can best [] = best
least_from can best (x ∷ xs) = least_from can (better can best x) xs

-- none of them passes that is before it, or none at all
abbrev pub Passed : (Candidate → Bool) → Option Candidate → Candidate → Type 0
Passed can None x = can x ≡ false
Passed can (Some b) x = is_before x b ≡ true → can x ≡ false

abbrev pub AllPassed : (Candidate → Bool) → Option Candidate → List Candidate → Type 0
AllPassed can best [] = Unit {0}
AllPassed can best (x ∷ xs) = Passed can best x × AllPassed can best xs

-- it passes
abbrev pub Can : (Candidate → Bool) → Option Candidate → Type 0
Can can None = Unit {0}
Can can (Some b) = can b ≡ true

abbrev pub is_that : ℕ → ℕ → Candidate → Bool
is_that c s x = (x.conn == c) && (x.stream == s)

-- the stream is a candidate
abbrev pub is_listed : List Candidate → ℕ → ℕ → Bool
is_listed [] c s = false
is_listed (x ∷ xs) c s = is_that c s x || is_listed xs c s

abbrev pub can_in : Node → Candidate → Bool
can_in node x = can_handle node x.conn x.stream

-- ---- the streams of connections

abbrev pub of_inlets : ℕ → List Inlet → List Candidate
of_inlets conn [] = []
of_inlets conn (i ∷ is) = record { conn = conn; stream = i.stream } ∷ of_inlets conn is

abbrev pub streams_in : ℕ → Option End → List Candidate
streams_in conn None = []
streams_in conn (Some (Streams for_agents carrier)) = of_inlets conn carrier.inlets
streams_in conn (Some (Connect d)) = record { conn = conn; stream = 0 } ∷ []

-- the best of their streams
abbrev pub least_of : Node → Option Candidate → List ℕ → Option Candidate
least_of node best [] = best
least_of node best (c ∷ cs) = least_of node (least_from (can_in node) best (streams_in c (at node.ends c))) cs

abbrev pub streams_of : Members End → List ℕ → List Candidate
streams_of ends [] = []
streams_of ends (c ∷ cs) = streams_in c (at ends c) ++ streams_of ends cs

-- each stream with something to handle is a candidate
abbrev pub AreListed : Node → List Candidate → Type 0
AreListed node xs = (c s : ℕ) → can_handle node c s ≡ true → is_listed xs c s ≡ true
