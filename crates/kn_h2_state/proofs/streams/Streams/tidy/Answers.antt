use Rattle.std.proofs.Common.{rules}
use Rattle.std.proofs.lemmas.Fn.{filter_same}
use Rattle.kn_h2_state.specs.Streams.{is_kept}
use Rattle.kn_h2_state.proofs.streams.Streams.tidy.Goals as goal

pub returns : goal.returns
returns c = rw (← c.self.view_is) (filter_same _ is_kept _ (λ x b f' k. search rules) _ _ c.retain.ensures.filtered)
