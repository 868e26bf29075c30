-- By going along the first list.
use Rattle.kn_words.proofs.Requests.{own_request, request_joined}
use Rattle.kn_words.proofs.laws.requests_are_joined.Goals as goal

pub returns : goal.returns
returns c = record {
  joined = request_joined;
  own = own_request;
}
