use Rattle.kn_facing.proofs.TakenLemmas.{request_is_taken, response_is_taken, trailers_are_taken}
use Rattle.kn_facing.proofs.laws.heads_are_taken.Goals as goal

pub returns-clause-requests : goal.returns-clause-requests
returns-clause-requests c = request_is_taken

pub returns-clause-responses : goal.returns-clause-responses
returns-clause-responses c = response_is_taken

pub returns-clause-trailers : goal.returns-clause-trailers
returns-clause-trailers c = trailers_are_taken
