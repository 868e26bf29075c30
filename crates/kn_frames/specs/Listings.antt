-- The listing of a stream of bytes that is to end with a whole frame.
use Rattle.std.specs.Prelude.{◌≡◌, ℕ, Bool, true, false, List, ◌++◌, length, ◌==◌, nat_eq, if◌then◌else◌, Option, Some, None, Result, Ok, Err, codes}
use Rattle.std.specs.List.{starts_with}
use Rattle.kn_frames.specs.declared.frame.Frame.{Frame}
use Rattle.kn_frames.specs.declared.fault.FrameFault.{FrameFault}
use Rattle.kn_frames.specs.declared.listing.ListingReason.{ListingReason}
use Rattle.kn_frames.specs.declared.listing.ListingReason.TheVariants.{TooLong, Cut}
use Rattle.kn_frames.specs.declared.listing.ListingFault.{ListingFault}
use Rattle.kn_frames.specs.declared.listing.ListingError.{ListingError}
use Rattle.kn_frames.specs.declared.listing.ListingError.TheVariants.{NoMemory, Fault}
use Rattle.kn_frames.specs.Frames.{preface}
use Rattle.kn_frames.specs.Readers.{Reading, start, after_bytes, frames_in, fault_in}
use Rattle.kn_frames.specs.Lines.{lines}

-- the bytes begin with the whole preface
abbrev pub begins_with_preface : List ℕ → Bool
begins_with_preface bytes = starts_with nat_eq bytes preface

-- the lines of a stream's frames, after that of its preface
abbrev pub stream_lines : Bool → List Frame → List ℕ
stream_lines false fs = lines 0 fs
stream_lines true fs = codes "0 PREFACE length=24\n" ++ lines 24 fs

abbrev pub listing_by : Option FrameFault → Bool → Reading → List Frame → Result (List ℕ) ListingFault
listing_by (Some fault) has_preface r fs = Err (record { offset = fault.offset; reason = TooLong })
listing_by None has_preface r fs =
    if length r.rest == 0 then Ok (stream_lines has_preface fs) else Err (record { offset = r.offset; reason = Cut })

-- the lines, or the first fault: a frame that is too long, or one that the bytes end inside
unfoldable pub listing : List ℕ → Result (List ℕ) ListingFault
listing bytes =
    let has_preface = begins_with_preface bytes in
    let r = after_bytes (start has_preface) bytes in
    listing_by (fault_in r.phase) has_preface r (frames_in (start has_preface) bytes)

-- the texts of the reasons
abbrev pub reason_text : ListingReason → List ℕ
reason_text TooLong = codes "frame too long"
reason_text Cut = codes "cut frame"

-- the answer is this listing, unless memory ran out
abbrev pub Lists : Result (List ℕ) ListingError → Result (List ℕ) ListingFault → Type 0
Lists (Ok text) expected = Ok text ≡ expected
Lists (Err NoMemory) expected = Unit {0}
Lists (Err (Fault fault)) expected = Err fault ≡ expected
