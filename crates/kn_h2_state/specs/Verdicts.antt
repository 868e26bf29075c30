-- How the code goes through the rules of a frame: settings one by one, and a header block decoded once.
use Rattle.std.specs.Prelude.{◌≡◌, ℕ, ◌==◌, nat_lt, Bool, true, false, ◌&&◌, ◌||◌, List, Option, Some, None, Ok, if◌then◌else◌}
use Rattle.std.specs.List.{list_any}
use Rattle.kn_frames.specs.declared.frame.Frame.{Frame}
use Rattle.kn_hpack.specs.declared.fault.HpackReason.{HpackReason}
use Rattle.kn_hpack.specs.Blocks.{read_block, progress}
use Rattle.kn_h2_state.specs.declared.stream.Stream.{Stream}
use Rattle.kn_h2_state.specs.declared.state.State.{State}
use Rattle.kn_h2_state.specs.declared.judgement.Judgement.{Judgement}
use Rattle.kn_h2_state.specs.declared.judgement.Judgement.TheVariants.{Broken, Kept, EndsBlock}
use Rattle.kn_h2_state.specs.Limits.{largest_window}
use Rattle.kn_h2_state.specs.Rules.{shifts_over, is_too_large, block_with, ends_block, first_broken, frame_rules, window_rules, stream_rules, verdict}
use Rattle.kn_h2_state.specs.Effects.{block_ends}
use Rattle.kn_h2_state.specs.Feeding.{without_blocks}

-- a setting brings INITIAL_WINDOW_SIZE, or by it a sending window, over the largest
abbrev pub sets_over : ℕ → List Stream → ℕ × ℕ → Bool
sets_over initial ss x = (x.0 == 4) && (nat_lt largest_window x.1 || list_any (shifts_over initial x.1) ss)

-- the first code, or the second where there is no first
abbrev pub or_broken : Option ℕ → Option ℕ → Option ℕ
or_broken (Some code) other = Some code
or_broken None other = other

-- the code of the first broken rule before those of the header block
abbrev pub early_verdict : State → Frame → Option ℕ
early_verdict s f = or_broken (first_broken (frame_rules s f)) (or_broken (first_broken (window_rules s f)) (first_broken (stream_rules s f)))

-- the code of a block that has no reading
abbrev pub fault_code : HpackReason → ℕ
fault_code reason = if is_too_large reason then 11 else 9

-- What is found of a frame with this verdict, and what was done to find it: a block that ends is decoded, so none is
-- under way then; and where a rule is broken no more blocks are read.
abbrev pub JudgesBy : Option ℕ → State → Frame → Judgement → State → Type 0
JudgesBy code old f (Broken c) new = (code ≡ Some c) × (new ≡ without_blocks old)
JudgesBy code old f Kept new = (code ≡ None) × (ends_block f ≡ false) × (new ≡ old)
JudgesBy code old f (EndsBlock ends fields) new = (code ≡ None) × (ends_block f ≡ true) × (ends ≡ block_ends old.block f)
    × (read_block old.decoder (block_with old f) ≡ Ok (progress new.decoder fields)) × (new ≡ record old { block = None; decoder = new.decoder })

abbrev pub Judges : State → Frame → Judgement → State → Type 0
Judges old f judgement new = JudgesBy (verdict old f) old f judgement new
