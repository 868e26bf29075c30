-- Why an app is closed by the client itself.
use Rattle.std.specs.Prelude.{ℕ, List, codes}

unfoldable pub server_lost : List ℕ
server_lost = codes "server lost"

unfoldable pub stream_ended : List ℕ
stream_ended = codes "stream ended"

unfoldable pub client_busy : List ℕ
client_busy = codes "client busy"

unfoldable pub too_many_streams : List ℕ
too_many_streams = codes "too many streams"
