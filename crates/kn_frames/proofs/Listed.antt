-- What the listing of bytes says of them.
use Rattle.std.proofs.Common.{◌≡◌, ℕ, ◌-◌, ◌<◌, ◌==◌, Bool, true, false, List, [], ◌++◌, length, drop, get_or, nat_eq, arith, refl, sym, ap, ◌∙◌, subst, length-append, inl, inr, Option, Some, None, Ok, Err}
use Rattle.std.proofs.lemmas.List.{nil_from_length, get_or_append_left, get_or_at}
use Rattle.std.proofs.lemmas.Bool.{cases_Bool, eqb-true, eqb-false, eq-eqb, ne_eqb, true≢false}
use Rattle.std.proofs.lemmas.Slice.Eq.{starts_is}
use Rattle.std.specs.Bool.{Decides}
use Rattle.kn_frames.specs.declared.frame.Frame.{Frame}
use Rattle.kn_frames.specs.declared.fault.FrameFault.{FrameFault}
use Rattle.kn_frames.specs.declared.listing.ListingFault.{ListingFault}
use Rattle.kn_frames.specs.declared.listing.ListingReason.TheVariants.{TooLong as LongFrame, Cut}
use Rattle.kn_frames.specs.Frames.{preface, IsStream, AreFrames}
use Rattle.kn_frames.specs.Readers.{Reading, start, count_up, after_bytes, frames_in, fault_in, IsFaultOf, IsTooLongAfter, DiffersFromPreface}
use Rattle.kn_frames.specs.Listings.{begins_with_preface, stream_lines, listing_by, listing}
use Rattle.kn_frames.proofs.Streams.{stream_sound, stream_faults, stream_only, stream_fails}

decides : (a b : ℕ) → Decides (nat_eq a b) (a ≡ b)
decides a b = (eqb-true a b, eq-eqb a b)

-- no bytes do not begin with the preface
nothing_begun : begins_with_preface [] ≡ false
unfolding preface
nothing_begun = refl

begun : (bytes : List ℕ) → begins_with_preface bytes ≡ true → bytes ≡ preface ++ drop (length preface) bytes
begun bytes e = (starts_is decides bytes preface (begins_with_preface bytes) refl).0 e

-- a byte that differs from the preface stands in no bytes that begin with it
none_differs : (bytes : List ℕ) (fs : List Frame) (fault : FrameFault) → begins_with_preface bytes ≡ true → DiffersFromPreface bytes fs fault → ⊥
none_differs bytes fs fault e d =
    let n = length d.0 in
    let short : n < length preface = omega (arith, ap length d.5.1, length-append d.0 d.5.0, d.5.2) in
    let here : get_or bytes n 0 ≡ d.1 = ap (λ b. get_or b n 0) d.3 ∙ get_or_at d.0 d.1 d.2 0 n refl in
    let there : get_or bytes n 0 ≡ get_or preface n 0 = ap (λ b. get_or b n 0) (begun bytes e) ∙ get_or_append_left preface (drop (length preface) bytes) 0 n short in
    d.6 (sym here ∙ there)

long_only : (c : Bool) (bytes : List ℕ) (fs : List Frame) (fault : FrameFault) → begins_with_preface bytes ≡ c → IsFaultOf c bytes fs fault → IsTooLongAfter c bytes fs fault
long_only false bytes fs fault e h = h
long_only true bytes fs fault e h = elim h [ inl d ↦ absurd (none_differs bytes fs fault e d) | inr l ↦ l ]

whole_only : (c : Bool) (bytes : List ℕ) (fs : List Frame) → begins_with_preface bytes ≡ c → IsStream c bytes fs [] → AreFrames c bytes fs
whole_only false bytes fs e h = h
whole_only true bytes fs e h = elim h [
  | inl d ↦ let f : true ≡ false = sym e ∙ ap begins_with_preface d.0 ∙ nothing_begun in absurd (true≢false f)
  | inr l ↦ l
]

by_lines : (o : Option FrameFault) (c : Bool) (r : Reading) (fs : List Frame) (text : List ℕ) → listing_by o c r fs ≡ Ok text →
    (o ≡ None) × (r.rest ≡ []) × (text ≡ stream_lines c fs)
by_lines (Some fault) c r fs text e = absurd (cc)
by_lines None c r fs text e = elim (cases_Bool (length r.rest == 0)) [
  | inl h ↦
      let f = rw h at e in
      (refl, nil_from_length r.rest (eqb-true (length r.rest) 0 h), (let g : stream_lines c fs ≡ text = cc in sym g))
  | inr h ↦ let f = rw h at e in absurd (cc)
]

by_cut : (o : Option FrameFault) (c : Bool) (r : Reading) (fs : List Frame) (offset : ℕ) → listing_by o c r fs ≡ Err (record { offset = offset; reason = Cut }) →
    (o ≡ None) × (0 < length r.rest) × (offset ≡ r.offset)
by_cut (Some fault) c r fs offset e =
    let a : ListingFault = record { offset = fault.offset; reason = LongFrame } in
    let b : ListingFault = record { offset = offset; reason = Cut } in
    let same : a ≡ b = cc in
    let k = ap (λ (f : ListingFault). f.reason) same in
    absurd (cc)
by_cut None c r fs offset e = elim (cases_Bool (length r.rest == 0)) [
  | inl h ↦ let f = rw h at e in absurd (cc)
  | inr h ↦
      let a : ListingFault = record { offset = r.offset; reason = Cut } in
      let b : ListingFault = record { offset = offset; reason = Cut } in
      let f = rw h at e in
      let same : a ≡ b = cc in
      let k = eqb-false (length r.rest) 0 h in
      (refl, omega arith, ap (λ (g : ListingFault). g.offset) (sym same))
]

by_long : (o : Option FrameFault) (c : Bool) (r : Reading) (fs : List Frame) (offset : ℕ) → listing_by o c r fs ≡ Err (record { offset = offset; reason = LongFrame }) →
    (fault : FrameFault) × (o ≡ Some fault) × (fault.offset ≡ offset)
by_long (Some fault) c r fs offset e =
    let a : ListingFault = record { offset = fault.offset; reason = LongFrame } in
    let b : ListingFault = record { offset = offset; reason = LongFrame } in
    let same : a ≡ b = cc in
    (fault, refl, ap (λ (g : ListingFault). g.offset) same)
by_long None c r fs offset e = elim (cases_Bool (length r.rest == 0)) [
  | inl h ↦ let f = rw h at e in absurd (cc)
  | inr h ↦
      let a : ListingFault = record { offset = r.offset; reason = Cut } in
      let b : ListingFault = record { offset = offset; reason = LongFrame } in
      let f = rw h at e in
      let same : a ≡ b = cc in
      let k = ap (λ (g : ListingFault). g.reason) same in
      absurd (cc)
]

-- lines are those of the frames that the bytes are
pub lines_of_frames : (bytes text : List ℕ) → listing bytes ≡ Ok text →
    (fs : List Frame) × AreFrames (begins_with_preface bytes) bytes fs × (text ≡ stream_lines (begins_with_preface bytes) fs)
unfolding listing
lines_of_frames bytes text e =
    let c = begins_with_preface bytes in
    let r = after_bytes (start c) bytes in
    let fs = frames_in (start c) bytes in
    let b = by_lines (fault_in r.phase) c r fs text e in
    (fs, whole_only c bytes fs refl (subst (λ q. IsStream c bytes fs q) b.1 (stream_sound c bytes b.0)), b.2)

-- a cut frame is what is left after the frames
pub cut_after_frames : (bytes : List ℕ) (offset : ℕ) → listing bytes ≡ Err (record { offset = offset; reason = Cut }) →
    (fs : List Frame) × (rest : List ℕ) × IsStream (begins_with_preface bytes) bytes fs rest × (0 < length rest) × (offset ≡ count_up 0 (length bytes - length rest))
unfolding listing
cut_after_frames bytes offset e =
    let c = begins_with_preface bytes in
    let r = after_bytes (start c) bytes in
    let fs = frames_in (start c) bytes in
    let b = by_cut (fault_in r.phase) c r fs offset e in
    let s = stream_sound c bytes b.0 in
    (fs, r.rest, s, b.1, b.2 ∙ (stream_only c bytes fs r.rest s).offset)

-- a frame that is too long stands after whole frames
pub long_after_frames : (bytes : List ℕ) (offset : ℕ) → listing bytes ≡ Err (record { offset = offset; reason = LongFrame }) →
    (fs : List Frame) × (fault : FrameFault) × IsTooLongAfter (begins_with_preface bytes) bytes fs fault × (fault.offset ≡ offset)
unfolding listing
long_after_frames bytes offset e =
    let c = begins_with_preface bytes in
    let r = after_bytes (start c) bytes in
    let fs = frames_in (start c) bytes in
    let b = by_long (fault_in r.phase) c r fs offset e in
    (fs, b.0, long_only c bytes fs b.0 refl (stream_faults c bytes b.0 b.1), b.2)

to_lines : (o : Option FrameFault) (c : Bool) (r : Reading) (gs fs : List Frame) → o ≡ None → gs ≡ fs → r.rest ≡ [] → listing_by o c r gs ≡ Ok (stream_lines c fs)
to_lines o c r gs fs e f n = rw (e, n, f)

to_cut : (o : Option FrameFault) (c : Bool) (r : Reading) (gs : List Frame) (rest : List ℕ) (offset : ℕ) → o ≡ None → r.rest ≡ rest → 0 < length rest → r.offset ≡ offset →
    listing_by o c r gs ≡ Err (record { offset = offset; reason = Cut })
to_cut o c r gs rest offset e n h k =
    let t : (length r.rest == 0) ≡ false = ne_eqb (length r.rest) 0 (λ z. omega (arith, z, ap length n, h)) in
    rw (e, t, k)

to_long : (o : Option FrameFault) (c : Bool) (r : Reading) (gs : List Frame) (fault : FrameFault) → o ≡ Some fault → listing_by o c r gs ≡ Err (record { offset = fault.offset; reason = LongFrame })
to_long o c r gs fault e = rw e

stream_from_frames : (c : Bool) (bytes : List ℕ) (fs : List Frame) → AreFrames c bytes fs → IsStream c bytes fs []
stream_from_frames false bytes fs h = h
stream_from_frames true bytes fs h = inr h

fault_from_long : (c : Bool) (bytes : List ℕ) (fs : List Frame) (fault : FrameFault) → IsTooLongAfter c bytes fs fault → IsFaultOf c bytes fs fault
fault_from_long false bytes fs fault h = h
fault_from_long true bytes fs fault h = inr h

-- the frames that the bytes are have these lines
pub frames_give_lines : (bytes : List ℕ) (fs : List Frame) → AreFrames (begins_with_preface bytes) bytes fs → listing bytes ≡ Ok (stream_lines (begins_with_preface bytes) fs)
unfolding listing
frames_give_lines bytes fs h =
    let c = begins_with_preface bytes in
    let k = stream_only c bytes fs [] (stream_from_frames c bytes fs h) in
    to_lines (fault_in (after_bytes (start c) bytes).phase) c (after_bytes (start c) bytes) (frames_in (start c) bytes) fs k.well k.frames k.held

pub rest_gives_cut : (bytes : List ℕ) (fs : List Frame) (rest : List ℕ) → IsStream (begins_with_preface bytes) bytes fs rest → 0 < length rest →
    listing bytes ≡ Err (record { offset = count_up 0 (length bytes - length rest); reason = Cut })
unfolding listing
rest_gives_cut bytes fs rest s h =
    let c = begins_with_preface bytes in
    let k = stream_only c bytes fs rest s in
    to_cut (fault_in (after_bytes (start c) bytes).phase) c (after_bytes (start c) bytes) (frames_in (start c) bytes) rest _ k.well k.held h k.offset

pub long_gives_fault : (bytes : List ℕ) (fs : List Frame) (fault : FrameFault) → IsTooLongAfter (begins_with_preface bytes) bytes fs fault →
    listing bytes ≡ Err (record { offset = fault.offset; reason = LongFrame })
unfolding listing
long_gives_fault bytes fs fault h =
    let c = begins_with_preface bytes in
    let k = stream_fails c bytes fs fault (fault_from_long c bytes fs fault h) in
    to_long (fault_in (after_bytes (start c) bytes).phase) c (after_bytes (start c) bytes) (frames_in (start c) bytes) fault k.failed
