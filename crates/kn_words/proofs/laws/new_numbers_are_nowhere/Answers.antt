-- No packet names the number, so each packet is to it what it is to no number.
use Rattle.kn_words.proofs.Fresh.{down_fresh, in_fresh, in_new, no_request, out_fresh, out_new, up_fresh, up_new}
use Rattle.kn_words.proofs.laws.new_numbers_are_nowhere.Goals as goal

pub returns : goal.returns
returns c = record {
  dial_to_server = in_fresh;
  dial_to_client = out_fresh;
  app_to_server = in_new;
  app_to_client = out_new;
  dial_from_agent = up_new;
  dial_to_agent = no_request;
  connection_from_agent = up_fresh;
  connection_to_agent = down_fresh;
}
