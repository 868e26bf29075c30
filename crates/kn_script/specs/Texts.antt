-- The texts of the reasons for which a line is refused.
use Rattle.std.specs.Prelude.{ℕ, List, codes}
use Rattle.kn_script.specs.declared.fault.ScriptReason.{ScriptReason}
use Rattle.kn_script.specs.declared.fault.ScriptReason.TheVariants as reason

abbrev pub text_of_reason : ScriptReason → List ℕ
text_of_reason reason.Byte = codes "bad byte"
text_of_reason reason.Word = codes "unknown word"
text_of_reason reason.Count = codes "wrong count"
text_of_reason reason.Number = codes "bad number"
text_of_reason reason.Hex = codes "bad hex"
text_of_reason reason.Name = codes "unknown name"
text_of_reason reason.Limit = codes "over a limit"
text_of_reason reason.Identifiers = codes "bad identifiers"
