-- The call of a client.
use Rattle.std.specs.Prelude.{ℕ, List, [], ◌++◌}
use Rattle.kn_hpack.specs.Fields.{Field}
use Rattle.kn_grpc.specs.declared.call.Service.TheVariants.{Proxy}
use Rattle.kn_grpc.specs.CallHeads.{request_fields, agent_fields}
use Rattle.kn_ends.specs.declared.who.Who.TheVariants.{Server}
use Rattle.kn_ends.specs.declared.carrier.Carrier.{Carrier}
use Rattle.kn_ends.specs.Carriers.{with_call}

-- its head
abbrev pub call_fields : List ℕ → List Field
call_fields authority = request_fields Proxy authority ++ agent_fields Proxy [] []

-- the next stream begins with it, and what comes on that stream is the server's
abbrev pub with_stream : List ℕ → Carrier → Carrier
with_stream authority c = with_call (call_fields authority) Server c
