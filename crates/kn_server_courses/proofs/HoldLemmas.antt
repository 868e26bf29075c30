-- Nothing that may be handled is left.
use Rattle.std.proofs.Common.{◌≡◌, ◌⊎◌, inl, inr, ℕ, Bool, true, false, not, ◌&&◌, List, [], ◌∷◌, Option, Some, None, is_some, refl, sym, ap, ◌∙◌, subst}
use Rattle.kn_route.specs.declared.strategy.Strategy.{Strategy}
use Rattle.kn_packet.specs.declared.packet.Packet.{Packet}
use Rattle.kn_h2_state.specs.Calls.{text_of}
use Rattle.kn_grpc.specs.Readers.{First, Less, Whole, Bad, is_less, first_message, taken, fed, fault_in}
use Rattle.kn_grpc.specs.Packets.{first_of}
use Rattle.kn_grpc.proofs.Firsts.{first_short, nothing_short}
use Rattle.kn_grpc.proofs.FirstPackets.{of_message, same_less}
use Rattle.kn_ends.specs.declared.who.Who.{Who}
use Rattle.kn_ends.specs.declared.inlet.Inlet.{Inlet}
use Rattle.kn_ends.specs.declared.carrier.Carrier.{Carrier}
use Rattle.kn_ends.specs.Carriers.{inlet_at, count_with}
use Rattle.kn_ends.specs.Queues.{is_empty}
use Rattle.kn_rising.specs.Members.{at}
use Rattle.kn_server_node.specs.declared.door.Door.{Door}
use Rattle.kn_server_node.specs.declared.end.End.{End}
use Rattle.kn_server_node.specs.declared.end.End.TheVariants.{Streams, Connect}
use Rattle.kn_server_node.specs.declared.node.Node.{Node}
use Rattle.kn_server_node.specs.Nodes.{waits, early_goes, can_handle, can_on, can_take, inlet_can}
use Rattle.kn_server_node.specs.Calls.{Called, Handling, start}
use Rattle.kn_ends.specs.declared.heard.Heard.{Heard}
use Rattle.kn_server_courses.specs.Courses.{Deed, Leads}
use Rattle.kn_server_courses.specs.Holding.{IsHeldBack, IsPaused}
use Rattle.kn_server_courses.proofs.FrontBaseLemmas.{events_for}
use Rattle.kn_server_courses.proofs.ReadLemmas.{IsReadAt, IsRead}
use Rattle.kn_server_courses.proofs.CarrierReadLemmas.{Tells}
use Rattle.kn_server_courses.proofs.UnreadLemmas.{TellsAll, ToldAt, makes_all, does_all, leads_all, start_all}

cannot_on : (node : Node) (c s : ℕ) (o : Option End) → at node.ends c ≡ o → can_handle node c s ≡ false → can_on node o s ≡ false
unfolding can_handle
cannot_on node c s o found h = subst (λ p. can_on node p s ≡ false) found h

not_false : (b : Bool) → not b ≡ false → b ≡ true
not_false true h = refl
not_false false h = absurd cc

held_back : (node : Node) (w : Who) (ended : Bool) (f : First Packet ℕ) → can_take node w ended f ≡ false → IsHeldBack node w ended f
held_back node w ended Less h = h
held_back node w ended (Whole p rest) h = not_false (waits node w p) h
held_back node w ended (Bad status) h = absurd cc

pub only_pauses : (old : Node) (call : Called) (new : Node) (c s : ℕ) (for_agents : Bool) (carrier : Carrier) (i : Inlet) → Handling old call new
    → at new.ends c ≡ Some (Streams for_agents carrier) → inlet_at carrier.inlets s ≡ Some i → IsHeldBack new i.who i.ended (first_of i.messages.kept)
only_pauses old call new c s for_agents carrier i handling there found =
    let cannot : inlet_can new (inlet_at carrier.inlets s) ≡ false = cannot_on new c s (Some (Streams for_agents carrier)) there (handling.2.1.handled c s) in
    held_back new i.who i.ended (first_of i.messages.kept) (subst (λ o. inlet_can new o ≡ false) found cannot)

second_false : (a b : Bool) → (not a && b) ≡ false → a ≡ false → b ≡ false
second_false true b h e = absurd cc
second_false false b h e = h

pub only_pauses_early : (old : Node) (call : Called) (new : Node) (c : ℕ) (d : Door) → Handling old call new → at new.ends c ≡ Some (Connect d) → is_empty d.early ≡ false → early_goes new d ≡ false
only_pauses_early old call new c d handling there some =
    let cannot : (not (is_empty d.early) && early_goes new d) ≡ false = cannot_on new c 0 (Some (Connect d)) there (handling.2.1.handled c 0) in
    second_false (is_empty d.early) (early_goes new d) cannot some

-- ---- text that was not read

-- nothing is told any more
none_told : (n c : ℕ) (told : List Heard) → told ≡ [] → Tells n (events_for c told) → ⊥
unfolding events_for Tells
none_told n c [] is tells = tells
none_told n c (x ∷ told) is tells = absurd cc

all_read : (c n : ℕ) (told : List Heard) (k : Bool) (carrier : Carrier) (o : Option End) → told ≡ [] → o ≡ Some (Streams k carrier) → ToldAt c told o → IsRead carrier n
all_read c n told k carrier o is there h = let t : ToldAt c told (Some (Streams k carrier)) = subst (ToldAt c told) there h in by_case (t.read n)
  where
    by_case : IsRead carrier n ⊎ Tells n (events_for c told) → IsRead carrier n
    by_case (inl read) = read
    by_case (inr tells) = absurd (none_told n c told is tells)

-- where less than a message was read, all was
less_reads_all : (kept text : List ℕ) (b : Bool) → is_less (first_message kept) ≡ true → count_with b text (taken kept text) ≡ 0 → text ≡ []
less_reads_all kept [] b less e = refl
less_reads_all kept (x ∷ text) true less e = absurd cc
less_reads_all kept (x ∷ text) false less e = let more : taken kept (x ∷ text) ≡ 0 = e in absurd (let m = rw less at more in cc)

nothing_is_less : first_of [] ≡ Less
nothing_is_less = of_message [] Less (first_short [] nothing_short)

by_inlet : (node : Node) (o : Option Inlet) (text : List ℕ) → ((i : Inlet) → o ≡ Some i → IsHeldBack node i.who i.ended (first_of i.messages.kept)) → IsReadAt o text → (text ≡ []) ⊎ IsPaused node o
by_inlet node None [] held read = inl refl
by_inlet node None (x ∷ text) held (inl read) = absurd cc
by_inlet node None (x ∷ text) held (inr cut) = absurd cut
by_inlet node (Some i) text held (inr cut) =
    let first : first_of i.messages.kept ≡ Less = ap first_of cut.1 ∙ nothing_is_less in
    let back : IsHeldBack node i.who i.ended Less = subst (IsHeldBack node i.who i.ended) first (held i refl) in
    let is : i.ended ≡ true = cut.0 in
    absurd (let a : i.ended ≡ false = back in cc)
by_inlet node (Some i) text held (inl read) = by_first (first_of i.messages.kept) refl (held i refl)
  where
    by_first : (f : First Packet ℕ) → first_of i.messages.kept ≡ f → IsHeldBack node i.who i.ended f → (text ≡ []) ⊎ IsPaused node (Some i)
    by_first Less e back = inl (less_reads_all i.messages.kept text (is_some (fault_in (fed i.messages text))) (sym (same_less i.messages.kept) ∙ ap is_less e) read)
    by_first (Whole packet rest) e back = inr (packet, rest, e, back)
    by_first (Bad status) e back = absurd back

pub only_pauses_text : (strategies : List Strategy) (id : List ℕ) (count : ℕ) (deeds : List Deed) (old : Node) (call : Called) (new : Node) (c s : ℕ) (for_agents : Bool) (carrier : Carrier)
    → Leads (start strategies id count) deeds old → Handling old call new → at new.ends c ≡ Some (Streams for_agents carrier) → (text_of carrier.conn.state s ≡ []) ⊎ IsPaused new (inlet_at carrier.inlets s)
only_pauses_text strategies id count deeds old call new c s for_agents carrier leads handling there =
    let before : TellsAll old = leads_all (start strategies id count) deeds old leads (start_all strategies id count) in
    let begun : TellsAll handling.0 = does_all old call handling.0 handling.1 before in
    let after : TellsAll new = makes_all handling.0 handling.2.0.0 new handling.2.0.1 begun in
    let read : IsRead carrier s = all_read c s new.told for_agents carrier (at new.ends c) handling.2.1.heard there (after.each c) in
    by_inlet new (inlet_at carrier.inlets s) (text_of carrier.conn.state s) (λ i found. only_pauses old call new c s for_agents carrier i handling there found) read
