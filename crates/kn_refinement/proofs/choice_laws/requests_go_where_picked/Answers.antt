-- By the choice.
use Rattle.kn_refinement.proofs.Choosing.{refused_for_none, refused_only, sent_picked}
use Rattle.kn_refinement.proofs.choice_laws.requests_go_where_picked.Goals as goal

pub returns : goal.returns
returns c = record {
  sent = λ s front link protocol address random packet it. sent_picked s front protocol address random link packet it;
  refused = λ s front protocol address random up reached none. refused_for_none s front protocol address random up reached none;
  only = λ s front other protocol address random connect_id asked it. refused_only s front protocol address random other connect_id asked it;
}
