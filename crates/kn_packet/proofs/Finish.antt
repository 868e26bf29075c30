-- What the reading functions keep leads to the packet that the fields say.
use Rattle.std.proofs.Common.{◌≡◌, ℕ, ◌%◌, ◌^◌, Bool, true, false, not, ◌||◌, cond, eqb, List, [], ◌∷◌, ◌++◌, Option, Some, None, refl, sym, ap, ◌∙◌}
use Rattle.std.specs.List.{list_any}
use Rattle.std.proofs.lemmas.Bool.{eqb-true}
use Rattle.std.proofs.lemmas.List.Sums.{fold-append}
use Rattle.kn_packet.specs.declared.packet.Packet.TheVariants.{Other}
use Rattle.kn_packet.specs.declared.payload.Payload.{Payload}
use Rattle.kn_packet.specs.declared.payload.Payload.TheVariants.{DialRequest, DialResponse, Data, CloseRequest, CloseResponse, CloseDial, Drain}
use Rattle.kn_packet.specs.Payloads.{number_of, is_payload, payload_of_type}
use Rattle.kn_packet.specs.Reading.{last_of, Entry, int64_at, text_at, bytes_at, packet_with, Part, packet_type, member, unknown, type_in, entries_in, is_other, entries_of, type_of, packet_for, packet_of}
use Rattle.kn_packet.specs.Progress.{LastValues, no_values, with_entry, with_entries, packet_with_values, SoFar, nothing_yet, values_for, with_part, with_parts, packet_for_payload, packet_so_far}

-- ---- one payload

values_are : (values : LastValues) (entries : List Entry) → with_entries values entries ≡ record {
  text1 = last_of (text_at 1) values.text1 entries;
  text2 = last_of (text_at 2) values.text2 entries;
  bytes3 = last_of (bytes_at 3) values.bytes3 entries;
  number1 = last_of (int64_at 1) values.number1 entries;
  number2 = last_of (int64_at 2) values.number2 entries;
  number3 = last_of (int64_at 3) values.number3 entries;
}
values_are values [] = refl
values_are values (entry ∷ entries) = values_are (with_entry values entry) entries

payload_law : (payload : Payload) (entries : List Entry) → packet_with_values payload (with_entries no_values entries) ≡ packet_with payload entries
payload_law DialRequest entries = ap (packet_with_values DialRequest) (values_are no_values entries)
payload_law DialResponse entries = ap (packet_with_values DialResponse) (values_are no_values entries)
payload_law Data entries = ap (packet_with_values Data) (values_are no_values entries)
payload_law CloseRequest entries = ap (packet_with_values CloseRequest) (values_are no_values entries)
payload_law CloseResponse entries = ap (packet_with_values CloseResponse) (values_are no_values entries)
payload_law CloseDial entries = ap (packet_with_values CloseDial) (values_are no_values entries)
payload_law Drain entries = refl

-- ---- the member that survives

one_member : (wanted payload : Payload) (so_far : SoFar) (entries : List Entry) (b : Bool) → is_payload payload wanted ≡ b
    → cond b (with_entries (values_for payload so_far) entries) no_values ≡ with_entries (cond (not b) no_values (values_for wanted so_far)) (cond b entries [])
one_member wanted payload so_far entries true e =
    let n : number_of payload ≡ number_of wanted = eqb-true _ _ e in
    ap (λ (k : ℕ). with_entries (cond (eqb (number_of so_far.payload) k) so_far.values no_values) entries) n
one_member wanted payload so_far entries false e = refl

one_part : (wanted : Payload) (so_far : SoFar) (part : Part) → values_for wanted (with_part so_far part) ≡ with_entries (cond (is_other wanted part) no_values (values_for wanted so_far)) (entries_in wanted part)
one_part wanted so_far (packet_type n) = refl
one_part wanted so_far (member payload entries) = one_member wanted payload so_far entries (is_payload payload wanted) refl
one_part wanted so_far unknown = refl

then_parts : (cleared other : Bool) (before after : LastValues) (entries more : List Entry) → after ≡ with_entries (cond other no_values before) entries
    → with_entries (cond cleared no_values after) more ≡ with_entries (cond (other || cleared) no_values before) (cond cleared [] entries ++ more)
then_parts true true before after entries more e = refl
then_parts true false before after entries more e = refl
then_parts false true before after entries more e = ap (λ (v : LastValues). with_entries v more) e ∙ sym (fold-append with_entry no_values entries more)
then_parts false false before after entries more e = ap (λ (v : LastValues). with_entries v more) e ∙ sym (fold-append with_entry before entries more)

members_law : (wanted : Payload) (so_far : SoFar) (parts : List Part)
    → values_for wanted (with_parts so_far parts) ≡ with_entries (cond (list_any (is_other wanted) parts) no_values (values_for wanted so_far)) (entries_of wanted parts)
members_law wanted so_far [] = refl
members_law wanted so_far (part ∷ parts) =
    members_law wanted (with_part so_far part) parts
    ∙ then_parts (list_any (is_other wanted) parts) (is_other wanted part) (values_for wanted so_far) (values_for wanted (with_part so_far part)) (entries_in wanted part) (entries_of wanted parts) (one_part wanted so_far part)

-- ---- the type, and the packet

kind_law : (so_far : SoFar) (parts : List Part) → (with_parts so_far parts).kind ≡ last_of type_in so_far.kind parts
kind_law so_far [] = refl
kind_law so_far (packet_type n ∷ parts) = kind_law (with_part so_far (packet_type n)) parts
kind_law so_far (member payload entries ∷ parts) = kind_law (with_part so_far (member payload entries)) parts
kind_law so_far (unknown ∷ parts) = kind_law so_far parts

nothing : (a b : Bool) → cond a no_values (cond b no_values no_values) ≡ no_values
nothing true b = refl
nothing false true = refl
nothing false false = refl

packet_law : (known : Option Payload) (parts : List Part) → packet_for_payload known (with_parts nothing_yet parts) ≡ packet_for known parts
packet_law None parts = ap (λ (k : ℕ). Other (k % 2 ^ 32)) (kind_law nothing_yet parts)
packet_law (Some payload) parts =
    ap (packet_with_values payload) (members_law payload nothing_yet parts
    ∙ ap (λ (v : LastValues). with_entries v (entries_of payload parts)) (nothing (list_any (is_other payload) parts) (is_payload DialRequest payload)))
    ∙ payload_law payload (entries_of payload parts)

pub finish_law : (parts : List Part) → packet_so_far (with_parts nothing_yet parts) ≡ packet_of parts
finish_law parts =
    ap (λ (k : ℕ). packet_for_payload (payload_of_type (k % 2 ^ 32)) (with_parts nothing_yet parts)) (kind_law nothing_yet parts)
    ∙ packet_law (payload_of_type (type_of parts)) parts
