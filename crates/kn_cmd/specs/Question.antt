-- What `route` is asked.
use Rattle.std.specs.Prelude.{◌≡◌, ℕ, ◌≤◌, ◌<◌, List, Ok, Some}
use Rattle.kn_route.specs.Strategies.{strategies_in}
use Rattle.kn_route.specs.Hosts.{host_in}
use Rattle.kn_script.specs.Words.{number_of}
use Rattle.kn_cmd.specs.declared.question.Question.{Question}

-- decimal digits without a sign or a leading zero, of a value from 1 to 2^63 - 2
pub record IsDialNumber (word : List ℕ) (n : ℕ) : Type 0 where
  pub digits : number_of word ≡ Some n
  pub some : 0 < n
  pub limit : n ≤ 9223372036854775806

-- the words are a list of strategies, an address with this host, and a number of a dial
pub record IsQuestion (list address dial : List ℕ) (question : Question) : Type 0 where
  pub strategies : strategies_in list ≡ Ok question.strategies
  pub host : host_in address ≡ Ok question.host
  pub number : IsDialNumber dial question.dial
