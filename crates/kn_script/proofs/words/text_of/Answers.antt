use Rattle.std.proofs.Common.{sym}
use Rattle.kn_script.proofs.TextLemmas.{IsUtf8-from_script}
use Rattle.kn_script.proofs.words.text_of.Goals as goal

pub unreachable-requires : goal.unreachable-requires
unreachable-requires c = c.in-Err.ensures.cases.0 (IsUtf8-from_script c.args.line.now (sym c.if-not-are_script_bytes.ensures))
