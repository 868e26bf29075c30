-- The choice of a link, cause by cause.
use Rattle.std.proofs.Common.{◌≡◌, ℕ, ℤ, ◌==◌, nat_lt, Bool, true, false, List, [], ◌∷◌, Option, Some, None, Result, Ok, Err, refl, ap, arith, is_some, if◌then◌else◌, codes}
use Rattle.kn_route.specs.declared.host.HostFault.{HostFault}
use Rattle.kn_route.specs.declared.strategy.Strategy.{Strategy}
use Rattle.kn_route.specs.Choice.{pick}
use Rattle.kn_route.specs.Hosts.{host_in}
use Rattle.kn_tables.specs.declared.awaited_entry.AwaitedEntry.{AwaitedEntry}
use Rattle.kn_tables.specs.Lists.{first_where}
use Rattle.kn_tables.specs.Awaiting.{is_random}
use Rattle.kn_server_core.specs.declared.state.State.{State}
use Rattle.kn_server_core.specs.Server.{tunnels_of, is_tcp, number_choice, host_choice}
use Rattle.kn_world.specs.Choices.{FindsNone, no_agent_available, GoesWherePicked, IsRefusedWhereNone, IsRefusedNowhereElse}

-- the first byte of an error's text, by which the texts differ
abbrev error_head : Result ℕ (List ℕ) → ℕ
error_head (Ok link) = 0
error_head (Err []) = 0
error_head (Err (x ∷ xs)) = x

-- what a number gives: the end of the numbers, or a link
abbrev numbered : Bool → ℕ → Result ℕ (List ℕ)
numbered b link = if b then Err (codes "dial numbers used up") else Ok link

numbered_ok : (b : Bool) (link other : ℕ) → numbered b link ≡ Ok other → link ≡ other
numbered_ok true link other e = absurd (cc)
numbered_ok false link other e = cc

numbered_err : (b : Bool) (link : ℕ) → numbered b link ≡ no_agent_available → ⊥
numbered_err true link e = let heads : ◌≡◌ {A = ℕ} 100 110 = ap error_head e in omega arith
numbered_err false link e = cc

picked_number : (s : State) (o : Option (Strategy × ℕ)) (link : ℕ) → number_choice s o ≡ Ok link → (strategy : Strategy) × (o ≡ Some (strategy, link))
picked_number s None link e = absurd (cc)
picked_number s (Some (strategy, found)) link e = let same : found ≡ link = numbered_ok (s.next_dial == 9223372036854775807) found link e in (strategy, (rw same refl))

none_number : (s : State) (o : Option (Strategy × ℕ)) → number_choice s o ≡ no_agent_available → o ≡ None
none_number s None e = refl
none_number s (Some (strategy, found)) e = absurd (numbered_err (s.next_dial == 9223372036854775807) found e)

-- ---- the front has too many tunnels, or goes on
limited_ok : (b : Bool) (r : Result ℕ (List ℕ)) (link : ℕ) → (if b then r else Err (codes "too many tunnels")) ≡ Ok link → r ≡ Ok link
limited_ok true r link e = e
limited_ok false r link e = absurd (cc)

limited_err : (b : Bool) (r : Result ℕ (List ℕ)) → (if b then r else Err (codes "too many tunnels")) ≡ no_agent_available → (b ≡ true) × (r ≡ no_agent_available)
limited_err true r e = (refl, e)
limited_err false r e = let heads : ◌≡◌ {A = ℕ} 116 110 = ap error_head e in absurd (omega arith)

-- ---- the address has no host, or goes on
host_ok : (s : State) (front : ℕ) (h : Result (List ℕ) HostFault) (link : ℕ) → host_choice s front h ≡ Ok link → (host : List ℕ) × (strategy : Strategy) × (h ≡ Ok host) × (pick s.strategies s.links.links host s.next_dial ≡ Some (strategy, link))
host_ok s front (Err fault) link e = absurd (cc)
host_ok s front (Ok host) link e =
    let found : (strategy : Strategy) × (pick s.strategies s.links.links host s.next_dial ≡ Some (strategy, link)) =
    picked_number s (pick s.strategies s.links.links host s.next_dial) link (limited_ok (nat_lt (tunnels_of s front) 600) _ link e) in
    (host, found.0, refl, found.1)

host_err : (s : State) (front : ℕ) (h : Result (List ℕ) HostFault) → host_choice s front h ≡ no_agent_available → (nat_lt (tunnels_of s front) 600 ≡ true) × ((host : List ℕ) × (h ≡ Ok host) × (pick s.strategies s.links.links host s.next_dial ≡ None))
host_err s front (Err fault) e = absurd (cc)
host_err s front (Ok host) e =
    let found : (nat_lt (tunnels_of s front) 600 ≡ true) × (number_choice s (pick s.strategies s.links.links host s.next_dial) ≡ no_agent_available) =
    limited_err (nat_lt (tunnels_of s front) 600) _ e in
    (found.0, (host, refl, none_number s (pick s.strategies s.links.links host s.next_dial) found.1))

-- ---- the protocol is another, or goes on
tcp_ok : (b : Bool) (r : Result ℕ (List ℕ)) (link : ℕ) → (if b then r else Err (codes "unsupported protocol")) ≡ Ok link → r ≡ Ok link
tcp_ok true r link e = e
tcp_ok false r link e = absurd (cc)

tcp_err : (b : Bool) (r : Result ℕ (List ℕ)) → (if b then r else Err (codes "unsupported protocol")) ≡ no_agent_available → (b ≡ true) × (r ≡ no_agent_available)
tcp_err true r e = (refl, e)
tcp_err false r e = let heads : ◌≡◌ {A = ℕ} 117 110 = ap error_head e in absurd (omega arith)

-- ---- the dial is awaited already, or goes on
new_ok : (o : Option AwaitedEntry) (r : Result ℕ (List ℕ)) (link : ℕ) → (if is_some o then Err (codes "dial already awaited") else r) ≡ Ok link → r ≡ Ok link
new_ok None r link e = e
new_ok (Some entry) r link e = absurd (cc)

new_err : (o : Option AwaitedEntry) (r : Result ℕ (List ℕ)) → (if is_some o then Err (codes "dial already awaited") else r) ≡ no_agent_available → (o ≡ None) × (r ≡ no_agent_available)
new_err None r e = (refl, e)
new_err (Some entry) r e = let heads : ◌≡◌ {A = ℕ} 100 110 = ap error_head e in absurd (omega arith)

-- ---- all causes
pub goes_where_picked : (s : State) (front : ℕ) (protocol address : List ℕ) (random : ℤ) → GoesWherePicked s front protocol address random
goes_where_picked s front protocol address random link e =
    host_ok s front (host_in address) link (tcp_ok (is_tcp protocol) _ link (new_ok (first_where (is_random front random) s.awaited) _ link e))

pub refused_where_none : (s : State) (front : ℕ) (protocol address : List ℕ) (random : ℤ) → IsRefusedWhereNone s front protocol address random
refused_where_none s front protocol address random reached none = rw (reached.new, reached.by_tcp, none.1, reached.few, none.2) refl

pub refused_nowhere_else : (s : State) (front : ℕ) (protocol address : List ℕ) (random : ℤ) → IsRefusedNowhereElse s front protocol address random
refused_nowhere_else s front protocol address random e =
    let fresh : (first_where (is_random front random) s.awaited ≡ None) × ((if is_tcp protocol then host_choice s front (host_in address) else Err (codes "unsupported protocol")) ≡ no_agent_available) =
    new_err (first_where (is_random front random) s.awaited) _ e in
    let asked : (is_tcp protocol ≡ true) × (host_choice s front (host_in address) ≡ no_agent_available) = tcp_err (is_tcp protocol) _ fresh.1 in
    let found : (nat_lt (tunnels_of s front) 600 ≡ true) × FindsNone s address = host_err s front (host_in address) asked.1 in
    (record { new = fresh.0; by_tcp = asked.0; few = found.0 }, found.1)
