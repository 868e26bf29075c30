-- Bytes read as one packet, or have one first fault, and never both.
use Rattle.std.proofs.Common.{◌≡◌, ℕ, List, length, Result, Ok, Err, sym, ap, ◌∙◌, ◌⊎◌, inl, inr}
use Rattle.std.specs.Prelude.{IfOk, IfErr, IsOkAnd, IsErrAnd}
use Rattle.kn_packet.specs.declared.packet.Packet.{Packet}
use Rattle.kn_packet.specs.declared.packet_ref.PacketRef.{PacketRef}
use Rattle.kn_packet.specs.declared.fault.PacketReason.{PacketReason}
use Rattle.kn_packet.specs.declared.fault.PacketFault.{PacketFault}
use Rattle.kn_packet.specs.Messages.{message}
use Rattle.kn_packet.specs.Reading.{Joins, Part, IsPart, packet_of, Reads}
use Rattle.kn_packet.specs.Faults.{HasFault}
use Rattle.kn_packet.specs.Progress.{SoFar, nothing_yet, with_parts, packet_so_far}
use Rattle.kn_packet.proofs.Decided.{joins_same, joins_apart, faults_same}
use Rattle.kn_packet.proofs.Decisions.{decided_part}
use Rattle.kn_packet.proofs.Finish.{finish_law}

pub reads_finished : (bytes : List ℕ) (packet : Packet) (start so_far : SoFar) (parts : List Part) → Joins IsPart bytes parts → so_far ≡ with_parts start parts → start ≡ nothing_yet → packet ≡ packet_so_far so_far → Reads bytes packet
reads_finished bytes packet start so_far parts joined so_far-is start-is packet-is = record {
  parts = parts;
  joined = joined;
  packet-is = packet-is ∙ ap packet_so_far (so_far-is ∙ ap (λ (s : SoFar). with_parts s parts) start-is) ∙ finish_law parts;
}

pub one_packet : (bytes : List ℕ) (p q : Packet) → Reads bytes p → Reads bytes q → p ≡ q
one_packet bytes p q r s = r.packet-is ∙ ap packet_of (joins_same decided_part bytes r.parts s.parts r.joined s.joined) ∙ sym s.packet-is

pub not_both : (bytes : List ℕ) (p : Packet) (f : PacketFault) → Reads bytes p → HasFault bytes f → ⊥
not_both bytes p f r h = joins_apart decided_part bytes h.before f.reason r.parts r.joined h.first

fault_at : (f g : PacketFault) → f.place ≡ g.place → f.reason ≡ g.reason → f ≡ g
fault_at f g places reasons =
    let made : ℕ → PacketReason → PacketFault = λ place reason. record { place = place; reason = reason } in
    ap (λ (n : ℕ). made n f.reason) places ∙ ap (made g.place) reasons

pub one_fault : (bytes : List ℕ) (f g : PacketFault) → HasFault bytes f → HasFault bytes g → f ≡ g
one_fault bytes f g h k =
    let both = faults_same decided_part bytes h.before k.before f.reason g.reason h.first k.first in
    let places : f.place ≡ g.place = h.place-is ∙ ap length both.0 ∙ sym k.place-is in
    fault_at f g places both.1

pub only_packet : (bytes : List ℕ) (r : Result PacketRef PacketFault) → IfOk r (λ p. Reads bytes (message p)) → IfErr r (λ f. HasFault bytes f) → (packet : Packet) → Reads bytes packet → IsOkAnd r (λ p. message p ≡ packet)
only_packet bytes (Ok p) reads faulty packet h = one_packet bytes (message p) packet reads h
only_packet bytes (Err f) reads faulty packet h = absurd (not_both bytes packet f h faulty)

pub only_fault : (bytes : List ℕ) (r : Result PacketRef PacketFault) → IfOk r (λ p. Reads bytes (message p)) → IfErr r (λ f. HasFault bytes f) → (fault : PacketFault) → HasFault bytes fault → IsErrAnd r (λ found. found ≡ fault)
only_fault bytes (Ok p) reads faulty fault h = absurd (not_both bytes (message p) fault reads h)
only_fault bytes (Err f) reads faulty fault h = one_fault bytes f fault faulty h

pub some_reading : (bytes : List ℕ) (r : Result PacketRef PacketFault) → IfOk r (λ p. Reads bytes (message p)) → IfErr r (λ f. HasFault bytes f) → ((packet : Packet) × Reads bytes packet) ⊎ ((fault : PacketFault) × HasFault bytes fault)
some_reading bytes (Ok p) reads faulty = inl (message p, reads)
some_reading bytes (Err f) reads faulty = inr (f, faulty)
