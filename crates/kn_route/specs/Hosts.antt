-- The host of an address of a dial: `HOST:PORT`, or `[HOST]:PORT` where the host may have colons.
use Rattle.std.specs.Prelude.{◌≡◌, ℕ, ◌==◌, nat_lt, nat_le, Bool, ◌&&◌, List, length, drop, Result, Ok, Err, if◌then◌else◌}
use Rattle.std.specs.List.{before_first, after_first, list_all}
use Rattle.std.specs.Borrow.{Bor}
use Rattle.std.specs.Char.{is_ascii_digit}
use Rattle.std.specs.Str.Parse.{digits_value}
use Rattle.kn_route.specs.declared.host.HostFault.{HostFault}
use Rattle.kn_route.specs.declared.host.HostFault.TheVariants.{TooLong, Bracket, NoPort, Empty, PortNumber}
use Rattle.kn_route.specs.Cuts.{has, begins}

-- the digits write a number from 1 to 65,535
abbrev pub has_port_value : List ℕ → Bool
has_port_value port = nat_lt 0 (digits_value 10 port) && nat_lt (digits_value 10 port) 65536

-- one to five digits of a value from 1 to 65,535
abbrev pub is_port : List ℕ → Bool
is_port port = nat_le (length port) 5 && list_all is_ascii_digit port && has_port_value port

-- the host, if neither it nor the port is at fault
abbrev pub host_with_port : List ℕ → List ℕ → Result (List ℕ) HostFault
host_with_port host port =
    if length host == 0 then Err Empty else (if is_port port then Ok host else Err PortNumber)

-- What follows `[`. The first `]`, which is 93, ends the host, and `:`, which is 58, follows it.
abbrev pub host_before_bracket : List ℕ → Result (List ℕ) HostFault
host_before_bracket rest =
    let host = before_first (λ b. b == 93) rest in
    let after = after_first (λ b. b == 93) rest in
    if has 93 rest then (if begins 58 after then host_with_port host (drop 1 after) else Err NoPort)
    else Err Bracket

-- an address that begins otherwise has one `:`, which ends the host
abbrev pub host_before_colon : List ℕ → Result (List ℕ) HostFault
host_before_colon address =
    let host = before_first (λ b. b == 58) address in
    let port = after_first (λ b. b == 58) address in
    if has 58 address then (if has 58 port then Err Bracket else host_with_port host port)
    else Err NoPort

-- the host of an address, or the first fault; 91 is `[`
unfoldable pub host_in : List ℕ → Result (List ℕ) HostFault
host_in address =
    if nat_lt 300 (length address) then Err TooLong
    else (if begins 91 address then host_before_bracket (drop 1 address) else host_before_colon address)

-- the answer is the expected one
abbrev pub IsHostAnswer : Result (List ℕ) HostFault → Result (Bor (List ℕ)) HostFault → Type 0
IsHostAnswer expected (Ok host) = expected ≡ Ok host.now
IsHostAnswer expected (Err fault) = expected ≡ Err fault
