-- What a call stirs.
use Rattle.std.specs.Prelude.{◌≡◌, ℕ, true, false}
use Rattle.kn_rising.specs.Stirring.{is_stirred}
use Rattle.kn_server_node.specs.declared.node.Node.{Node}
use Rattle.kn_server_node.specs.Calls.{out_of, shuts_of}

-- What waits for the socket of a connection, and whether it is to be closed, are other than before only where it was stirred;
-- and none that was stirred before is left out.
abbrev pub Stirs : Node → Node → Type 0
Stirs old new = (c : ℕ) → (is_stirred c old.stirred ≡ true → is_stirred c new.stirred ≡ true)
    × (is_stirred c new.stirred ≡ false → (out_of new c ≡ out_of old c) × (shuts_of new c ≡ shuts_of old c))
