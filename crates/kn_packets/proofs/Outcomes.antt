-- What the facts on keys and the laws of one tunnel say of a world: of bytes, of agents' connections, and of what is left once all is quiet and closed.
use Rattle.std.proofs.Common.{◌≡◌, ◌&&◌, ◌||◌, ◌++◌, ℕ, ℤ, pos, Bool, true, false, not, List, [], ◌∷◌, Option, Some, None, refl, sym, ap, ◌∙◌, subst}
use Rattle.kn_packet.specs.declared.packet.Packet.{Packet}
use Rattle.kn_packet.specs.declared.packet.Packet.TheVariants.{CloseReq, DialRsp}
use Rattle.kn_tables.specs.Lists.{first_where}
use Rattle.kn_tables.specs.Awaiting.{is_dial}
use Rattle.kn_tables.specs.Holding.{is_held_dial}
use Rattle.kn_tables.specs.declared.awaited_entry.AwaitedEntry.{AwaitedEntry}
use Rattle.kn_tables.specs.declared.held_entry.HeldEntry.{HeldEntry}
use Rattle.kn_tables.specs.declared.held_entry.HeldState.{HeldState}
use Rattle.kn_tables.specs.declared.held_entry.HeldState.TheVariants as held
use Rattle.kn_server_core.specs.Isolation.{Each}
use Rattle.kn_edge_core.specs.AgentTables.{is_connection}
use Rattle.kn_edge_core.specs.declared.connection.Connection.{Connection}
use Rattle.kn_edge_core.specs.declared.connection.DestState.{DestState}
use Rattle.kn_edge_core.specs.declared.connection.DestState.TheVariants as dest
use Rattle.kn_tunnel.specs.Kinds.{both_or_neither, implies, is_asked, is_awaited, is_carrying, is_dialled, is_empty, is_gone, is_lingering, is_listed, no_closes, no_entry}
use Rattle.kn_tunnel.specs.Outcome.{Reached, is_accounted, is_closed, is_emptied}
use Rattle.kn_tunnel.specs.Tunnel.{Far, Joined, Tunnel}
use Rattle.kn_tunnel.proofs.AllSteps.{reached_facts}
use Rattle.kn_tunnel.proofs.Claims.{accounted}
use Rattle.kn_tunnel.proofs.Endings.{emptied}
use Rattle.kn_tunnel.proofs.Lists.{says}
use Rattle.kn_words.specs.Down.{CloseDown, down_item, down_word}
use Rattle.kn_words.specs.Numbers.{is_drawn_number}
use Rattle.kn_words.specs.Standing.{Stands}
use Rattle.kn_words.specs.Up.{ReplyUp, up_item, up_word}
use Rattle.kn_words.proofs.ReadBack.{close_is, down_close_stands, reply_is, up_reply_stands}
use Rattle.kn_packets.specs.Keys.{HeldFits, Keys}
use Rattle.kn_packets.specs.Outcome.{Accounted, AllReached, AskedToClose, Carried, Delivered, IsClosed, IsEmpty, IsIn, IsQuiet, LinkIsLost, Lingers, Replied}
use Rattle.kn_packets.specs.Owned.{Owned}
use Rattle.kn_packets.specs.World.{World, connection_far, dest_far, entry_at, entry_of, held_entry, tunnel}
use Rattle.kn_packets.proofs.AgentKept.{each_rear}
use Rattle.kn_packets.proofs.AgentLists.{own_is}
use Rattle.kn_packets.proofs.AgentParts.{of_agent}
use Rattle.kn_packets.proofs.Fresh.{eqb_refl}
use Rattle.kn_packets.proofs.Owners.{some_one}
use Rattle.kn_packets.proofs.Taken.{and_first, and_second}
use Rattle.kn_packets.proofs.Told.{each_its}

-- ---- bytes
pub delivered : (w : World) → AllReached w → (k d : ℕ) → (w.apps k).came ≡ true → (w.apps k).dial ≡ Some d → Delivered w k d
delivered w reached k d came de = record {
  to_app = rw de at (reached_facts (tunnel w k) (reached k came)).bytes.app_got;
  to_destination = rw de at (reached_facts (tunnel w k) (reached k came)).bytes.dest_got;
}

pub undialled : (w : World) → AllReached w → (k : ℕ) → (w.apps k).came ≡ true → (w.apps k).dial ≡ None → (w.apps k).side.got ≡ []
undialled w reached k came none = nothing (w.apps k).side.got (rw none at (reached_facts (tunnel w k) (reached k came)).bytes.app_got)
  where
    nothing : (xs : List ℕ) → (rest : List ℕ) × (xs ++ rest ≡ []) → xs ≡ []
    nothing [] h = refl
    nothing (x ∷ xs) h = absurd (cc h.1)

-- ---- lists
pub each_in : {E : Type 0} (P : E → Type 0) (x : E) (xs : List E) → Each P xs → IsIn x xs → P x
each_in P x xs h it = (each_rear P it.0 (x ∷ it.1) (subst (λ ys. Each P ys) it.2 h)).0

found_in : {E : Type 0} (p : E → Bool) (x : E) (xs : List E) → first_where p xs ≡ Some x → IsIn x xs
found_in p x [] h = absurd cc
found_in {E = E} p x (y ∷ ys) h = here (p y) refl h (λ l. found_in p x ys l)
  where
    here : (b : Bool) → p y ≡ b → first_where p (y ∷ ys) ≡ Some x → (first_where p ys ≡ Some x → IsIn x ys) → IsIn x (y ∷ ys)
    here true t f later = ([], ys, ap (λ z. z ∷ ys) (one y x (rw t at f)))
      where
        one : (a b : E) → Some a ≡ Some b → a ≡ b
        one a b e = cc
    here false t f later = let it = later (rw t at f) in (y ∷ it.0, it.1, ap (λ zs. y ∷ zs) it.2)

-- ---- the tunnel of an agent's connection
module _ (w : World) (keys : Keys w) (reached : AllReached w) (d n : ℕ) (cid : (w.dials d).cid ≡ Some n) where
  abbrev l : ℕ
  l = (w.dials d).link

  pub app : (k : ℕ) × ((w.apps k).came ≡ true) × ((w.apps k).dial ≡ Some d)
  app = keys.agents.cid_app d n cid

  -- as server and agent have it
  abbrev its_tunnel : Tunnel
  its_tunnel = of_agent w app.0 d (Some n) (w.dials d).side (w.agents l) (w.links l)

  pub its_run : Reached its_tunnel
  its_run = rw (app.2, cid) at (reached app.0 app.1)

-- ---- a connection is accounted for
module _ (w : World) (keys : Keys w) (reached : AllReached w) (owned : Owned w) (l : ℕ) (x : Connection) (at : first_where (is_connection x.connect_id) (w.agents l).connections ≡ Some x) where
  own : (d : ℕ) × ((w.dials d).link ≡ l) × ((w.dials d).cid ≡ Some x.connect_id)
  own = owned.drawn l x.connect_id x at

  abbrev d : ℕ
  d = own.0

  abbrev n : ℕ
  n = x.connect_id

  carried : is_carrying (entry_at w.server d) ≡ true → Accounted w l x
  carried h = by_entry (first_where (is_dial d) w.server.awaited) (first_where (is_held_dial d) w.server.held) refl h
    where
      by_state : (e : HeldEntry) → first_where (is_held_dial d) w.server.held ≡ Some e → (s : HeldState) (f : Option ℕ) → e.state ≡ s → e.front ≡ f → is_carrying (held_entry s f) ≡ true → Accounted w l x
      by_state e found s None st fr h = absurd cc
      by_state e found held.Closing (Some f) st fr h = absurd cc
      by_state e found held.Open (Some f) st fr h =
          let fits : HeldFits w d e = keys.server.held d e found in
          Carried (record {
            entry = e;
            listed = found_in (is_held_dial d) e w.server.held found;
            on = sym fits.link ∙ own.1;
            named = fits.named ∙ ap pos (some_one fits.cid n (sym fits.drawn ∙ own.2));
            opened = st;
            front = f;
            fronted = fr;
          })

      by_entry : (a : Option AwaitedEntry) (o : Option HeldEntry) → first_where (is_held_dial d) w.server.held ≡ o → is_carrying (entry_of a o) ≡ true → Accounted w l x
      by_entry None None found h = absurd cc
      by_entry (Some a) None found h = absurd cc
      by_entry a (Some e) found h = by_state e found e.state e.front refl refl h

  replied : (up_word d (Some n) (w.links l).up).reply ≡ true → Accounted w l x
  replied h = Replied (is.1, (stands.before, stands.behind, stands.placed ∙ ap (λ p. stands.before ++ p ∷ stands.behind) (is.2 ∙ ap (λ c. DialRsp [] c is.1) (own_is n is.0 is.3))))
    where
      stands : Stands (up_item d (Some n)) ReplyUp (w.links l).up
      stands = up_reply_stands (up_item d (Some n)) (w.links l).up h

      is : (c : ℤ) × (r : ℤ) × (stands.packet ≡ DialRsp [] c r) × (is_drawn_number (Some n) c ≡ true)
      is = reply_is d (Some n) stands.packet stands.is

  asked : (down_word (Some n) (w.links l).down).close ≡ true → Accounted w l x
  asked h = AskedToClose (stands.before, stands.behind, stands.placed ∙ ap (λ p. stands.before ++ p ∷ stands.behind) (is.1 ∙ ap CloseReq (own_is n is.0 is.2)))
    where
      stands : Stands (down_item (Some n)) CloseDown (w.links l).down
      stands = down_close_stands (down_item (Some n)) (w.links l).down h

      is : (c : ℤ) × (stands.packet ≡ CloseReq c) × (is_drawn_number (Some n) c ≡ true)
      is = close_is (Some n) stands.packet stands.is

  lingers : (s : DestState) → x.state ≡ s → is_lingering (dest_far s) ≡ true → Accounted w l x
  lingers dest.Open st h = absurd cc
  lingers dest.Lingering st h = Lingers st

  lost : (b : Bool) → is_gone (w.links l).server ≡ b → not (not b) ≡ true → Accounted w l x
  lost true gone h = LinkIsLost gone
  lost false gone h = absurd cc

  is_there : (s : DestState) → is_listed (dest_far s) ≡ true
  is_there dest.Open = refl
  is_there dest.Lingering = refl

  one_of : (a b c e f : Bool) → (a || b || c || e || f) ≡ true → (a ≡ true → Accounted w l x) → (b ≡ true → Accounted w l x) → (c ≡ true → Accounted w l x) → (e ≡ true → Accounted w l x) → (f ≡ true → Accounted w l x) → Accounted w l x
  one_of true b c e f h at_a at_b at_c at_e at_f = at_a refl
  one_of false true c e f h at_a at_b at_c at_e at_f = at_b refl
  one_of false false true e f h at_a at_b at_c at_e at_f = at_c refl
  one_of false false false true f h at_a at_b at_c at_e at_f = at_e refl
  one_of false false false false true h at_a at_b at_c at_e at_f = at_f refl
  one_of false false false false false h at_a at_b at_c at_e at_f = absurd cc

  told : (is_carrying (entry_at w.server d) || (up_word d (Some n) (w.links l).up).reply || (down_word (Some n) (w.links l).down).close || is_lingering (dest_far x.state) || not (not (is_gone (w.links l).server))) ≡ true
  told = rw (own.1, at) at (says (is_listed t.far) (is_accounted t) (accounted t (reached_facts t run).link) (rw (own.1, at) (is_there x.state)))
    where
      t : Tunnel
      t = its_tunnel w keys reached d n own.2

      run : Reached t
      run = its_run w keys reached d n own.2

  pub found_accounted : Accounted w l x
  found_accounted = one_of (is_carrying (entry_at w.server d)) (up_word d (Some n) (w.links l).up).reply (down_word (Some n) (w.links l).down).close (is_lingering (dest_far x.state)) (not (not (is_gone (w.links l).server))) told
      carried replied asked (lingers x.state refl) (lost (is_gone (w.links l).server) refl)

pub all_accounted : (w : World) → Keys w → AllReached w → Owned w → (l : ℕ) (x : Connection) → IsIn x (w.agents l).connections → Accounted w l x
all_accounted w keys reached owned l x it = found_accounted w keys reached owned l x (each_in (λ y. first_where (is_connection y.connect_id) (w.agents l).connections ≡ Some y) x (w.agents l).connections
    (each_its (λ y. y.connect_id) (w.agents l).connections (keys.agents.connections_rise l)) it)

-- ---- quiet closed worlds
-- what is on the way to an end that has the link is nothing
quiet_words : (d n : ℕ) (far : Far) → (is_asked far ≡ false) × (is_dialled far ≡ false) × (is_lingering far ≡ false) → (gone lost : Bool) → gone ≡ lost → (up down : List Packet) → (gone ≡ false → up ≡ []) → (lost ≡ false → down ≡ [])
    → (not (is_asked far) && not (is_dialled far) && not (is_lingering far) && both_or_neither (not gone) (not lost)
    && implies (not gone) (not (up_word d (Some n) up).refusal && not (up_word d (Some n) up).reply && is_empty (up_word d (Some n) up).bytes && no_closes (up_word d (Some n) up).closes)
    && implies (not lost) (is_empty (down_word (Some n) down).bytes && not (down_word (Some n) down).close)) ≡ true
quiet_words d n far still true true same up down no_up no_down = rw (still.0, still.1, still.2) refl
quiet_words d n far still false false same up down no_up no_down = rw (still.0, still.1, still.2, no_up refl, no_down refl) refl
quiet_words d n far still true false same up down no_up no_down = absurd cc
quiet_words d n far still false true same up down no_up no_down = absurd cc

module _ (w : World) (keys : Keys w) (reached : AllReached w) (quiet : IsQuiet w) (d n : ℕ) (cid : (w.dials d).cid ≡ Some n) where
  abbrev link : ℕ
  link = (w.dials d).link

  still : (o : Option Connection) → first_where (is_connection n) (w.agents link).connections ≡ o → (is_asked (connection_far o) ≡ false) × (is_dialled (connection_far o) ≡ false) × (is_lingering (connection_far o) ≡ false)
  still None at = (refl, refl, refl)
  still (Some y) at =
      let opened : y.state ≡ dest.Open = each_in (λ (z : Connection). z.state ≡ dest.Open) y (w.agents link).connections (quiet.lingering link) (found_in (is_connection n) y (w.agents link).connections at) in
      rw opened (refl, refl, refl)

  pub its_emptied : is_closed (its_tunnel w keys reached d n cid) ≡ true → is_emptied (its_tunnel w keys reached d n cid) ≡ true
  its_emptied closed = emptied (its_tunnel w keys reached d n cid) (reached_facts (its_tunnel w keys reached d n cid) (its_run w keys reached d n cid)).link
      (quiet_words d n (connection_far (first_where (is_connection n) (w.agents link).connections)) (still (first_where (is_connection n) (w.agents link).connections) refl) (is_gone (w.links link).server) (w.agents link).lost (quiet.lost link)
      (w.links link).up (w.links link).down (quiet.up link) (quiet.down link)) closed

-- an entry whose close was asked is closed, and is one
closing_entry : (a : Option AwaitedEntry) (o : Option HeldEntry) (e : HeldEntry) → o ≡ Some e → e.state ≡ held.Closing → ((not (is_awaited (entry_of a o)) && not (is_carrying (entry_of a o))) ≡ true) × (no_entry (entry_of a o) ≡ false)
closing_entry a o e at st = rw (at, st) (by_front e.front)
  where
    by_front : (f : Option ℕ) → ((not (is_awaited (held_entry held.Closing f)) && not (is_carrying (held_entry held.Closing f))) ≡ true) × (no_entry (held_entry held.Closing f) ≡ false)
    by_front None = (refl, refl)
    by_front (Some f) = (refl, refl)

-- so is none
empty_entry : (d : ℕ) (awaiting : List AwaitedEntry) (holding : List HeldEntry) → awaiting ≡ [] → holding ≡ []
    → (not (is_awaited (entry_of (first_where (is_dial d) awaiting) (first_where (is_held_dial d) holding))) && not (is_carrying (entry_of (first_where (is_dial d) awaiting) (first_where (is_held_dial d) holding)))) ≡ true
empty_entry d awaiting holding no_awaited no_held = rw (no_awaited, no_held) refl

emptied_entry : (t : Tunnel) → is_emptied t ≡ true → no_entry t.entry ≡ true
emptied_entry t h = and_first (no_entry t.entry) (not (is_asked t.far)) (and_first (no_entry t.entry && not (is_asked t.far)) (not (is_dialled t.far)) (and_first (no_entry t.entry && not (is_asked t.far) && not (is_dialled t.far)) (not (is_listed t.far)) h))

emptied_far : (t : Tunnel) → is_emptied t ≡ true → not (is_listed t.far) ≡ true
emptied_far t h = and_second (no_entry t.entry && not (is_asked t.far) && not (is_dialled t.far)) (not (is_listed t.far)) h

module _ (w : World) (keys : Keys w) (reached : AllReached w) (owned : Owned w) (quiet : IsQuiet w) (closed : IsClosed w) where
  none_held : (es : List HeldEntry) → w.server.held ≡ es → es ≡ []
  none_held [] all = refl
  none_held (e ∷ es) all = absurd (cc (its.1, gone))
    where
      found : first_where (is_held_dial e.dial) w.server.held ≡ Some e
      found = rw all (rw (eqb_refl e.dial) refl)

      fits : HeldFits w e.dial e
      fits = keys.server.held e.dial e found

      turned : e.state ≡ held.Closing
      turned = let each : Each (λ (x : HeldEntry). x.state ≡ held.Closing) (e ∷ es) = rw all at closed.held in each.0

      its : ((not (is_awaited (entry_at w.server e.dial)) && not (is_carrying (entry_at w.server e.dial))) ≡ true) × (no_entry (entry_at w.server e.dial) ≡ false)
      its = closing_entry (first_where (is_dial e.dial) w.server.awaited) (first_where (is_held_dial e.dial) w.server.held) e found turned

      gone : no_entry (entry_at w.server e.dial) ≡ true
      gone = emptied_entry (its_tunnel w keys reached e.dial fits.cid fits.drawn) (its_emptied w keys reached quiet e.dial fits.cid fits.drawn its.0)

  nothing_held : w.server.held ≡ []
  nothing_held = none_held w.server.held refl

  none_connected : (i : ℕ) (xs : List Connection) → (w.agents i).connections ≡ xs → xs ≡ []
  none_connected i [] all = refl
  none_connected i (x ∷ xs) all = absurd (cc (ap (λ f. not (is_listed f)) here, gone))
    where
      found : first_where (is_connection x.connect_id) (w.agents i).connections ≡ Some x
      found = rw all (rw (eqb_refl x.connect_id) refl)

      opened : x.state ≡ dest.Open
      opened = let each : Each (λ (y : Connection). y.state ≡ dest.Open) (x ∷ xs) = rw all at (quiet.lingering i) in each.0

      own : (d : ℕ) × ((w.dials d).link ≡ i) × ((w.dials d).cid ≡ Some x.connect_id)
      own = owned.drawn i x.connect_id x found

      here : connection_far (first_where (is_connection x.connect_id) (w.agents (w.dials own.0).link).connections) ≡ Joined
      here = ap (λ j. connection_far (first_where (is_connection x.connect_id) (w.agents j).connections)) own.1 ∙ ap connection_far found ∙ ap dest_far opened

      gone : not (is_listed (connection_far (first_where (is_connection x.connect_id) (w.agents (w.dials own.0).link).connections))) ≡ true
      gone = emptied_far (its_tunnel w keys reached own.0 x.connect_id own.2) (its_emptied w keys reached quiet own.0 x.connect_id own.2 (empty_entry own.0 w.server.awaited w.server.held closed.awaited nothing_held))

  pub emptied_world : IsEmpty w
  emptied_world = record { awaited = closed.awaited; held = nothing_held; dials = quiet.dials; connections = λ i. none_connected i (w.agents i).connections refl }
