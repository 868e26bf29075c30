-- The heads of calls, of their answers and of their ends (gRPC over HTTP/2, "Requests" and "Responses"; the
-- names of an agent's and a server's fields are those of the apiserver-network-proxy).
use Rattle.std.specs.Prelude.{ℕ, List, [], ◌∷◌, codes, decimal}
use Rattle.kn_hpack.specs.Fields.{Field, pair}
use Rattle.kn_grpc.specs.declared.call.Service.{Service}
use Rattle.kn_grpc.specs.declared.call.Service.TheVariants.{Agent, Proxy}
use Rattle.kn_grpc.specs.declared.call.CallFault.{CallFault}
use Rattle.kn_grpc.specs.declared.call.CallFault.TheVariants.{NotPost, Path, ContentType, Identifiers}

-- a field whose name and value are ASCII texts
unfoldable pub content_type : Field
content_type = pair (codes "content-type") (codes "application/grpc")

unfoldable pub path_of : Service → List ℕ
path_of Agent = codes "/AgentService/Connect"
path_of Proxy = codes "/ProxyService/Proxy"

-- what an agent says of itself
unfoldable pub agent_fields : Service → List ℕ → List ℕ → List Field
agent_fields Agent id identifiers = pair (codes "agentid") id ∷ pair (codes "agentidentifiers") identifiers ∷ []
agent_fields Proxy id identifiers = []

-- a request
unfoldable pub request_fields : Service → List ℕ → List Field
request_fields service authority =
    pair (codes ":method") (codes "POST") ∷ pair (codes ":scheme") (codes "http") ∷ pair (codes ":path") (path_of service)
    ∷ pair (codes ":authority") authority ∷ pair (codes "te") (codes "trailers") ∷ content_type ∷ []

-- how many servers there are
unfoldable pub server_count : ℕ → Field
server_count count = pair (codes "servercount") (decimal count)

-- what a server says of itself to an agent
unfoldable pub server_fields : Service → List ℕ → ℕ → List Field
server_fields Agent id count = pair (codes "serverid") id ∷ server_count count ∷ []
server_fields Proxy id count = []

unfoldable pub status_field : ℕ → Field
status_field status = pair (codes ":status") (decimal status)

unfoldable pub grpc_status : ℕ → Field
grpc_status status = pair (codes "grpc-status") (decimal status)

-- the head of an answer that ends a call which is refused
unfoldable pub refusal_fields : CallFault → List Field
refusal_fields NotPost = status_field 405 ∷ []
refusal_fields Path = status_field 200 ∷ content_type ∷ grpc_status 12 ∷ []
refusal_fields ContentType = status_field 415 ∷ []
refusal_fields Identifiers = status_field 200 ∷ content_type ∷ grpc_status 13 ∷ []
