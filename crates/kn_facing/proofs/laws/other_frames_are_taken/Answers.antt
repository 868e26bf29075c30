use Rattle.kn_facing.proofs.TakenLemmas.{reset_is_taken, grant_is_taken, stream_grant_is_taken, client_settings_are_taken, server_settings_are_taken, acknowledgement_is_taken}
use Rattle.kn_facing.proofs.laws.other_frames_are_taken.Goals as goal

pub returns-clause-resets : goal.returns-clause-resets
returns-clause-resets c = reset_is_taken

pub returns-clause-grants : goal.returns-clause-grants
returns-clause-grants c = grant_is_taken

pub returns-clause-stream_grants : goal.returns-clause-stream_grants
returns-clause-stream_grants c = stream_grant_is_taken

pub returns-clause-client : goal.returns-clause-client
returns-clause-client c = client_settings_are_taken

pub returns-clause-server : goal.returns-clause-server
returns-clause-server c = server_settings_are_taken

pub returns-clause-acknowledged : goal.returns-clause-acknowledged
returns-clause-acknowledged c = acknowledgement_is_taken
