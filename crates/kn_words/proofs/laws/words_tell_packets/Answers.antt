-- By going along the list to the packet that the word tells.
use Rattle.kn_words.specs.Down.{down_item}
use Rattle.kn_words.specs.Up.{up_item}
use Rattle.kn_words.proofs.ReadBack.{close_is, down_close_stands, reply_is, request_stands, up_reply_stands}
use Rattle.kn_words.proofs.laws.words_tell_packets.Goals as goal

pub returns : goal.returns
returns c = record {
  reply = λ dial connection ps e. up_reply_stands (up_item dial connection) ps e;
  close = λ connection ps e. down_close_stands (down_item connection) ps e;
  request = request_stands;
  reply_is = reply_is;
  close_is = close_is;
}
