-- The first packet of a text.
use Rattle.std.proofs.Common.{◌≡◌, ℕ, ◌<◌, ◌≤◌, false, List, ◌++◌, length, Option, Some, None, arith, refl, sym, ap, ◌∙◌}
use Rattle.kn_packet.specs.declared.packet.Packet.{Packet}
use Rattle.kn_packet.specs.declared.fault.PacketFault.{PacketFault}
use Rattle.kn_packet.specs.Reading.{Reads}
use Rattle.kn_packet.specs.Faults.{HasFault}
use Rattle.kn_packet.specs.Spelling.{spelling, HasSpelling, IsPacket}
use Rattle.kn_packet.proofs.RoundTrip.{spelling_reads}
use Rattle.kn_grpc.specs.declared.fault.MessageReason.{MessageReason}
use Rattle.kn_grpc.specs.Messages.{spelled}
use Rattle.kn_grpc.specs.Readers.{First, Less, Whole, Bad, first_message, is_less}
use Rattle.kn_grpc.specs.Packets.{framed, packet_in, status_of, whole_or_bad, first_packet, first_of}
use Rattle.kn_grpc.proofs.Spellings.{spelled_spells, whole_of_spelling, whole_stays, bad_stays}
use Rattle.kn_grpc.proofs.PacketReadings.{reads_packet, fault_packet}

pub of_message : (text : List ℕ) (f : First (List ℕ) MessageReason) → first_message text ≡ f → first_of text ≡ first_packet f
unfolding first_of
of_message text f e = ap first_packet e

pub of_packet : (text m rest : List ℕ) (p : Packet) → first_message text ≡ Whole m rest → Reads m p → first_of text ≡ Whole p rest
of_packet text m rest p e r = of_message text (Whole m rest) e ∙ ap (λ o. whole_or_bad o rest) (reads_packet m p r)

pub of_fault : (text m rest : List ℕ) (f : PacketFault) → first_message text ≡ Whole m rest → HasFault m f → first_of text ≡ Bad 13
of_fault text m rest f e h = of_message text (Whole m rest) e ∙ ap (λ o. whole_or_bad o rest) (fault_packet m f h)

pub of_reason : (text : List ℕ) (reason : MessageReason) → first_message text ≡ Bad reason → first_of text ≡ Bad (status_of reason)
of_reason text reason e = of_message text (Bad reason) e

pub of_framed : (p : Packet) (rest : List ℕ) → IsPacket p → HasSpelling p → length (spelling p) ≤ 4194304 → first_of (framed p ++ rest) ≡ Whole p rest
of_framed p rest i h l = of_packet (framed p ++ rest) (spelling p) rest p (whole_of_spelling (spelling p) (framed p) rest (spelled_spells (spelling p) l)) (spelling_reads p i h)

pub framed_some : (p : Packet) → 0 < length (framed p)
unfolding spelled
framed_some p = omega arith

some_less : (o : Option Packet) (rest : List ℕ) → is_less (whole_or_bad o rest) ≡ false
some_less None rest = refl
some_less (Some p) rest = refl

less_by : (f : First (List ℕ) MessageReason) → is_less (first_packet f) ≡ is_less f
less_by Less = refl
less_by (Whole m rest) = some_less (packet_in m) rest
less_by (Bad reason) = refl

pub same_less : (text : List ℕ) → is_less (first_of text) ≡ is_less (first_message text)
same_less text = ap is_less (of_message text (first_message text) refl) ∙ less_by (first_message text)

-- what follows, by what the first message reads as
whole_with : (o : Option Packet) (tail more rest : List ℕ) (p : Packet) → whole_or_bad o tail ≡ Whole p rest → whole_or_bad o (tail ++ more) ≡ Whole p (rest ++ more)
whole_with None tail more rest p w = absurd (cc)
whole_with (Some q) tail more rest p w = let a : q ≡ p = cc in let b : tail ≡ rest = cc in ap (λ x. Whole x (tail ++ more)) a ∙ ap (λ t. Whole p (t ++ more)) b

bad_with : (o : Option Packet) (tail more : List ℕ) (status : ℕ) → whole_or_bad o tail ≡ Bad status → whole_or_bad o (tail ++ more) ≡ Bad status
bad_with None tail more status w = w
bad_with (Some q) tail more status w = absurd (cc)

whole_by : (text more rest : List ℕ) (p : Packet) (f : First (List ℕ) MessageReason) → first_message text ≡ f → first_packet f ≡ Whole p rest → first_of (text ++ more) ≡ Whole p (rest ++ more)
whole_by text more rest p Less e w = absurd (cc)
whole_by text more rest p (Whole m tail) e w = of_message (text ++ more) (Whole m (tail ++ more)) (whole_stays text m tail more e) ∙ whole_with (packet_in m) tail more rest p w
whole_by text more rest p (Bad reason) e w = absurd (cc)

bad_by : (text more : List ℕ) (status : ℕ) (f : First (List ℕ) MessageReason) → first_message text ≡ f → first_packet f ≡ Bad status → first_of (text ++ more) ≡ Bad status
bad_by text more status Less e w = absurd (cc)
bad_by text more status (Whole m tail) e w = of_message (text ++ more) (Whole m (tail ++ more)) (whole_stays text m tail more e) ∙ bad_with (packet_in m) tail more status w
bad_by text more status (Bad reason) e w = of_message (text ++ more) (Bad reason) (bad_stays text more reason e) ∙ w

pub packet_stays : (text rest more : List ℕ) (p : Packet) → first_of text ≡ Whole p rest → first_of (text ++ more) ≡ Whole p (rest ++ more)
packet_stays text rest more p e = whole_by text more rest p (first_message text) refl (sym (of_message text (first_message text) refl) ∙ e)

pub status_stays : (text more : List ℕ) (status : ℕ) → first_of text ≡ Bad status → first_of (text ++ more) ≡ Bad status
status_stays text more status e = bad_by text more status (first_message text) refl (sym (of_message text (first_message text) refl) ∙ e)
