-- The address of a client's destination has a host, so it is short.
use Rattle.std.proofs.Common.{◌≡◌, ℕ, ◌≤◌, Bool, true, false, List, length, nat_lt, refl, arith}
use Rattle.std.specs.Prelude.{is_ok}
use Rattle.std.proofs.lemmas.Bool.{ltb-false}
use Rattle.kn_net.specs.Run.{HasShortAddress}
use Rattle.kn_options.specs.Asked.{Asks}
use Rattle.kn_options.specs.declared.options.Options.{Options}
use Rattle.kn_options.specs.declared.options.Options.TheVariants.{Server, Agent, Client}
use Rattle.kn_route.specs.Hosts.{host_in}

host_is_short : (address : List ℕ) → is_ok (host_in address) ≡ true → length address ≤ 1048576
unfolding Rattle.kn_route.specs.Hosts.host_in
host_is_short address ok = go (nat_lt 300 (length address)) refl
  where
    go : (b : Bool) → nat_lt 300 (length address) ≡ b → length address ≤ 1048576
    go true e =
        let bad : false ≡ true = rw e at ok in
        cc
    go false e =
        let low : length address ≤ 300 = ltb-false 300 (length address) e in
        omega arith

pub short_address : (words : List (List ℕ)) (o : Options) → Asks words o → HasShortAddress o
short_address words (Server o) asks = tt
short_address words (Agent o) asks = tt
short_address words (Client o) asks = host_is_short o.address asks.1.values.address_form
