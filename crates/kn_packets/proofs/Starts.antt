-- The world at its start: nothing is there of which anything is said.
use Rattle.std.proofs.Common.{List, refl, arith}
use Rattle.kn_route.specs.declared.strategy.Strategy.{Strategy}
use Rattle.kn_server_core.proofs.ReachedLemmas.{orderly_start}
use Rattle.kn_packets.specs.Keys.{AgentKeys, ClientKeys, Keys, ServerKeys}
use Rattle.kn_packets.specs.Moves.{start}
use Rattle.kn_packets.specs.Outcome.{AllReached}
use Rattle.kn_packets.specs.Owned.{Owned}

server_start : (strategies : List Strategy) → ServerKeys (start strategies)
server_start strategies = record {
  orderly = orderly_start strategies;
  from_one = omega arith;
  links_up = λ l. refl;
  fronts_up = λ f h. absurd cc;
  awaited = λ d e h. absurd cc;
  held = λ d e h. absurd cc;
  dials_older = λ k d came. absurd cc;
  ups_older = λ l. tt;
  downs_older = λ l. tt;
  agents_older = λ l. tt;
  ins_older = λ f. tt;
  outs_older = λ f. tt;
}

agents_start : (strategies : List Strategy) → AgentKeys (start strategies)
agents_start strategies = record {
  cid_once = λ d e c on h. absurd cc;
  cid_app = λ d c h. absurd cc;
  replies = λ l. tt;
  cids_older = λ d c h. absurd cc;
  ups_older = λ l. tt;
  downs_older = λ l. tt;
  connections_rise = λ l. tt;
  connections_older = λ l n h. refl;
  unwritten = λ d c x h. absurd cc;
  dials = λ l. tt;
  requests = λ l. tt;
  asked_once = λ d. omega arith;
  lost = λ l h. absurd cc;
}

clients_start : (strategies : List Strategy) → ClientKeys (start strategies)
clients_start strategies = record {
  begun = λ k came. absurd cc;
  unfinished = λ f h. refl;
  alone = λ f g c of_f of_g at_f. absurd cc;
  apart = λ j k c n at. absurd (cc at.0);
  connect_one = λ j k came. absurd cc;
  connection = λ k came. absurd cc;
  connect_ins = λ f h. tt;
  requests = λ f. tt;
  answers = λ f h. tt;
  known = λ c n x h. absurd cc;
  apps_rise = λ c. tt;
  tops = λ k came. absurd cc;
  listed = λ k x came. absurd cc;
  left = λ k came. absurd cc;
  dials_once = λ j k d came. absurd cc;
}

pub keys_start : (strategies : List Strategy) → Keys (start strategies)
keys_start strategies = record {
  server = server_start strategies;
  agents = agents_start strategies;
  clients = clients_start strategies;
  ordered = λ k came. absurd cc;
  facts = λ k came. absurd cc;
}

pub owned_start : (strategies : List Strategy) → Owned (start strategies)
owned_start strategies = record { drawn = λ l cid x h. absurd cc }

pub reached_start : (strategies : List Strategy) → AllReached (start strategies)
reached_start strategies = λ k came. absurd cc
