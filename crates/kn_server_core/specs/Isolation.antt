-- What an event of one link, or of one front, may change, and to whom it gives something.
use Rattle.std.specs.Prelude.{◌≡◌, ℕ, ℤ, pos, negsuc, ◌==◌, Bool, false, not, ◌&&◌, ◌⊎◌, IsTrue, List, [], ◌∷◌, filter, Option, Some, None, Ok}
use Rattle.std.specs.List.{list_any}
use Rattle.kn_packet.specs.declared.packet.Packet.{Packet}
use Rattle.kn_packet.specs.declared.packet.Packet.TheVariants.{DialReq, DialRsp, CloseReq, CloseRsp, Data, DialCls, Drain, Other}
use Rattle.kn_route.specs.LinkLists.{is_link, has_link}
use Rattle.kn_tables.specs.declared.awaited_entry.AwaitedEntry.{AwaitedEntry}
use Rattle.kn_tables.specs.declared.held_entry.HeldEntry.{HeldEntry}
use Rattle.kn_tables.specs.declared.held_entry.HeldState.{HeldState}
use Rattle.kn_tables.specs.declared.held_entry.HeldState.TheVariants.{Open, Closing}
use Rattle.kn_tables.specs.Lists.{IsRising}
use Rattle.kn_tables.specs.Awaiting.{is_random, is_of_front, is_of_link}
use Rattle.kn_tables.specs.Holding.{is_held, is_held_on, is_held_by, AreApart}
use Rattle.kn_server_core.specs.declared.event.ServerEvent.{ServerEvent}
use Rattle.kn_server_core.specs.declared.event.ServerEvent.TheVariants.{LinkUp, LinkPacket, LinkLost, FrontUp, FrontPacket, FrontLost}
use Rattle.kn_server_core.specs.declared.event.ServerOut.{ServerOut}
use Rattle.kn_server_core.specs.declared.event.ServerOut.TheVariants.{ToLink, ToFront, CutLink, Made}
use Rattle.kn_server_core.specs.declared.state.State.{State}
use Rattle.kn_server_core.specs.FrontLists.{is_up}
use Rattle.kn_server_core.specs.Server.{dial_choice}
use Rattle.kn_server_core.specs.Sound.{IsSound}

-- ---- whose an event is
abbrev pub IsOfLink : ℕ → ServerEvent → Type 0
IsOfLink link (LinkUp other identifiers) = other ≡ link
IsOfLink link (LinkPacket other packet) = other ≡ link
IsOfLink link (LinkLost other) = other ≡ link
IsOfLink link (FrontUp front) = ⊥
IsOfLink link (FrontPacket front packet) = ⊥
IsOfLink link (FrontLost front) = ⊥

abbrev pub IsOfFront : ℕ → ServerEvent → Type 0
IsOfFront front (LinkUp link identifiers) = ⊥
IsOfFront front (LinkPacket link packet) = ⊥
IsOfFront front (LinkLost link) = ⊥
IsOfFront front (FrontUp other) = other ≡ front
IsOfFront front (FrontPacket other packet) = other ≡ front
IsOfFront front (FrontLost other) = other ≡ front

-- ---- what it may change
-- only a link's own entries, and the link itself, are other than before; of the others none is new, changed or gone
pub record ChangesOnlyLink (link : ℕ) (old new : State) : Type 0 where
  pub awaited : filter (λ e. not (is_of_link link e)) new.awaited ≡ filter (λ e. not (is_of_link link e)) old.awaited
  pub held : filter (λ e. not (is_held_on link e)) new.held ≡ filter (λ e. not (is_held_on link e)) old.held
  pub links : filter (λ l. not (is_link link l)) new.links.links ≡ filter (λ l. not (is_link link l)) old.links.links
  pub fronts : new.fronts ≡ old.fronts
  pub next_dial : new.next_dial ≡ old.next_dial
  pub strategies : new.strategies ≡ old.strategies

-- two lists are as long, and differ only where an entry passes a test
abbrev pub DifferOnlyWhere : {E : Type 0} → (E → Bool) → List E → List E → Type 0
DifferOnlyWhere own [] [] = Unit {0}
DifferOnlyWhere own [] (y ∷ ys) = ⊥
DifferOnlyWhere own (x ∷ xs) [] = ⊥
DifferOnlyWhere own (x ∷ xs) (y ∷ ys) = (IsTrue (own x) ⊎ (y ≡ x)) × DifferOnlyWhere own xs ys

-- only a front's own entries, and the front itself, are other than before; of the tunnels none is new or gone
pub record ChangesOnlyFront (front : ℕ) (old new : State) : Type 0 where
  pub awaited : filter (λ e. not (is_of_front front e)) new.awaited ≡ filter (λ e. not (is_of_front front e)) old.awaited
  pub held : DifferOnlyWhere (is_held_by front) old.held new.held
  pub fronts : filter (λ f. not (f == front)) new.fronts.fronts ≡ filter (λ f. not (f == front)) old.fronts.fronts
  pub links : new.links ≡ old.links
  pub strategies : new.strategies ≡ old.strategies

-- ---- what it may give out
-- what holds of each element of a list
abbrev pub Each : {E : Type 0} → (E → Type 0) → List E → Type 0
Each P [] = Unit {0}
Each P (x ∷ xs) = P x × Each P xs

-- the entry of a dial that a packet names by its connectID
abbrev pub names : ℤ → HeldEntry → Bool
names (pos dial) e = e.dial == dial
names (negsuc dial) e = false

-- a packet to a front speaks of an entry of this link, which is that front's
abbrev pub SpeaksToFront : State → ℕ → ℕ → Packet → Type 0
SpeaksToFront s link front (DialRsp error connect_id random) = IsTrue (list_any (λ e. is_of_link link e && is_random front random e) s.awaited)
SpeaksToFront s link front (Data connect_id error bytes) = IsTrue (list_any (λ e. is_held_on link e && is_held_by front e && names connect_id e) s.held)
SpeaksToFront s link front (CloseRsp error connect_id) = IsTrue (list_any (λ e. is_held_on link e && is_held_by front e && names connect_id e) s.held)
SpeaksToFront s link front (DialReq protocol address random) = ⊥
SpeaksToFront s link front (CloseReq connect_id) = ⊥
SpeaksToFront s link front (DialCls random) = ⊥
SpeaksToFront s link front Drain = ⊥
SpeaksToFront s link front (Other number) = ⊥

-- to a link a link's event gives no more than a request to close
abbrev pub IsCloseReq : Packet → Type 0
IsCloseReq (CloseReq connect_id) = Unit {0}
IsCloseReq (DialReq protocol address random) = ⊥
IsCloseReq (DialRsp error connect_id random) = ⊥
IsCloseReq (Data connect_id error bytes) = ⊥
IsCloseReq (CloseRsp error connect_id) = ⊥
IsCloseReq (DialCls random) = ⊥
IsCloseReq Drain = ⊥
IsCloseReq (Other number) = ⊥

-- an output of a link's event goes to the link itself, or to a front and speaks of an entry of the link
abbrev pub StaysWithLink : State → ℕ → ServerOut → Type 0
StaysWithLink s link (ToLink other packet) = (other ≡ link) × IsCloseReq packet
StaysWithLink s link (CutLink other) = other ≡ link
StaysWithLink s link (ToFront front packet) = SpeaksToFront s link front packet
StaysWithLink s link (Made dial other front) = ⊥

-- an event asks for a dial that is not refused, and the choice picks this link for it
abbrev pub Picks : State → ServerEvent → ℕ → Type 0
Picks s (FrontPacket front (DialReq protocol address random)) link = dial_choice s front protocol address random ≡ Ok link
Picks s (FrontPacket front (DialRsp error connect_id random)) link = ⊥
Picks s (FrontPacket front (Data connect_id error bytes)) link = ⊥
Picks s (FrontPacket front (CloseReq connect_id)) link = ⊥
Picks s (FrontPacket front (CloseRsp error connect_id)) link = ⊥
Picks s (FrontPacket front (DialCls random)) link = ⊥
Picks s (FrontPacket front Drain) link = ⊥
Picks s (FrontPacket front (Other number)) link = ⊥
Picks s (FrontUp front) link = ⊥
Picks s (FrontLost front) link = ⊥
Picks s (LinkUp other identifiers) link = ⊥
Picks s (LinkPacket other packet) link = ⊥
Picks s (LinkLost other) link = ⊥

-- a packet to a link is a dial's request for which it was picked, or speaks of an entry of this front, which is on that link
abbrev pub SpeaksToLink : State → ℕ → ServerEvent → ℕ → Packet → Type 0
SpeaksToLink s front event link (DialReq protocol address random) = (random ≡ pos s.next_dial) × Picks s event link
SpeaksToLink s front event link (Data connect_id error bytes) = IsTrue (list_any (λ e. is_held_by front e && is_held link connect_id e) s.held)
SpeaksToLink s front event link (CloseReq connect_id) = IsTrue (list_any (λ e. is_held_by front e && is_held link connect_id e) s.held)
SpeaksToLink s front event link (DialRsp error connect_id random) = ⊥
SpeaksToLink s front event link (CloseRsp error connect_id) = ⊥
SpeaksToLink s front event link (DialCls random) = ⊥
SpeaksToLink s front event link Drain = ⊥
SpeaksToLink s front event link (Other number) = ⊥

-- to a front a front's event gives no more than a refusal
abbrev pub IsRefusal : Packet → Type 0
IsRefusal (DialRsp error connect_id random) = connect_id ≡ pos 0
IsRefusal (CloseRsp error connect_id) = Unit {0}
IsRefusal (DialReq protocol address random) = ⊥
IsRefusal (Data connect_id error bytes) = ⊥
IsRefusal (CloseReq connect_id) = ⊥
IsRefusal (DialCls random) = ⊥
IsRefusal Drain = ⊥
IsRefusal (Other number) = ⊥

-- an output of a front's event goes to the front itself, to the link that the choice picks for its dial, or to a link
-- and speaks of an entry of the front
abbrev pub StaysWithFront : State → ℕ → ServerEvent → ServerOut → Type 0
StaysWithFront s front event (ToFront other packet) = (other ≡ front) × IsRefusal packet
StaysWithFront s front event (ToLink link packet) = SpeaksToLink s front event link packet
StaysWithFront s front event (Made dial link other) = (other ≡ front) × (dial ≡ s.next_dial) × Picks s event link
StaysWithFront s front event (CutLink link) = ⊥

-- ---- what holds of every state that a server comes to
-- an awaited dial's link and front are up
abbrev pub HasBoth : State → AwaitedEntry → Type 0
HasBoth s e = IsTrue (has_link e.link s.links) × IsTrue (is_up e.front s.fronts)

-- a tunnel's link is up, and its front too unless it was given up; an open tunnel has a front
abbrev pub HasFront : State → HeldState → Option ℕ → Type 0
HasFront s Open None = ⊥
HasFront s Closing None = Unit {0}
HasFront s state (Some front) = IsTrue (is_up front s.fronts)

abbrev pub HasEnds : State → HeldEntry → Type 0
HasEnds s e = IsTrue (has_link e.link s.links) × HasFront s e.state e.front

-- no dial stands in two entries, no connection of a link in two tunnels, and no entry is of a link or front that is gone
pub record IsOrderly (s : State) : Type 0 where
  pub sound : IsSound s
  pub awaited_rise : IsRising (λ e. e.dial) s.awaited
  pub held_rise : IsRising (λ e. e.dial) s.held
  pub held_apart : AreApart s.held
  pub awaited_up : Each (HasBoth s) s.awaited
  pub held_up : Each (HasEnds s) s.held
