-- None of the heads of our own calls is too large.
use Rattle.std.proofs.Common.{◌≡◌, ℕ, ◌^◌, ◌<◌, ◌≤◌, true, nat_lt, List, [], ◌∷◌, length, suc, refl, codes, decimal, arith}
use Rattle.std.specs.Fmt.{digits}
use Rattle.std.specs.List.{list_all}
use Rattle.std.specs.Str.{IsAscii}
use Rattle.std.proofs.lemmas.Bool.{ltb-true, and_parts}
use Rattle.std.proofs.lemmas.Fmt.{IsAscii-decimal, length-decimal-le}
use Rattle.kn_hpack.specs.Strings.{IsBytes}
use Rattle.kn_grpc.specs.declared.call.Service.TheVariants.{Agent, Proxy}
use Rattle.kn_grpc.specs.declared.call.CallFault.TheVariants.{NotPost, Path, ContentType, Identifiers}
use Rattle.kn_grpc.specs.CallHeads.{content_type, path_of, agent_fields, request_fields, server_count, server_fields, status_field, grpc_status, refusal_fields}
use Rattle.kn_call_heads.specs.OwnHeads.{CallsAreSmall, AnswersAreSmall, RefusalsAreSmall, EndsAreSmall}

-- a text that is known is bytes, by looking
seen : (xs : List ℕ) → list_all (λ x. nat_lt x 256) xs ≡ true → IsBytes xs
seen [] e = tt
seen (x ∷ xs) e = let p = and_parts (nat_lt x 256) (list_all (λ y. nat_lt y 256) xs) e in (ltb-true x 256 p.0, seen xs p.1)

ascii : (xs : List ℕ) → IsAscii xs → IsBytes xs
ascii [] h = tt
ascii (x ∷ xs) h = let low : x < 128 = h 0 in (omega (arith, low), ascii xs (λ i. h (suc i)))

number_is_bytes : (n : ℕ) → n < 2 ^ 32 → IsBytes (decimal n)
number_is_bytes n small = ascii (decimal n) (IsAscii-decimal n (omega arith))

pub number_is_short : (n : ℕ) → n < 2 ^ 32 → length (decimal n) ≤ 10
number_is_short n small = length-decimal-le 10 n (omega arith) (omega arith) (omega arith)

pub calls_are_small : CallsAreSmall
unfolding request_fields agent_fields content_type path_of
calls_are_small Agent authority id identifiers a b c fits = record {
  bytes = ((seen (codes ":method") refl, seen (codes "POST") refl), ((seen (codes ":scheme") refl, seen (codes "http") refl), ((seen (codes ":path") refl, seen (codes "/AgentService/Connect") refl), ((seen (codes ":authority") refl, a), ((seen (codes "te") refl, seen (codes "trailers") refl), ((seen (codes "content-type") refl, seen (codes "application/grpc") refl), ((seen (codes "agentid") refl, b), ((seen (codes "agentidentifiers") refl, c), tt))))))));
  small = omega (arith, fits);
}
calls_are_small Proxy authority id identifiers a b c fits = record {
  bytes = ((seen (codes ":method") refl, seen (codes "POST") refl), ((seen (codes ":scheme") refl, seen (codes "http") refl), ((seen (codes ":path") refl, seen (codes "/ProxyService/Proxy") refl), ((seen (codes ":authority") refl, a), ((seen (codes "te") refl, seen (codes "trailers") refl), ((seen (codes "content-type") refl, seen (codes "application/grpc") refl), tt))))));
  small = omega (arith, fits);
}

pub answers_are_small : AnswersAreSmall
unfolding server_fields server_count status_field content_type digits
answers_are_small Agent id count b fits n = record {
  bytes = ((seen (codes ":status") refl, number_is_bytes 200 (omega arith)), ((seen (codes "content-type") refl, seen (codes "application/grpc") refl), ((seen (codes "serverid") refl, b), ((seen (codes "servercount") refl, number_is_bytes count n), tt))));
  small = omega (arith, fits, number_is_short count n);
}
answers_are_small Proxy id count b fits n = record {
  bytes = ((seen (codes ":status") refl, number_is_bytes 200 (omega arith)), ((seen (codes "content-type") refl, seen (codes "application/grpc") refl), tt));
  small = omega arith;
}

pub ends_are_small : EndsAreSmall
unfolding grpc_status
ends_are_small status n = record { bytes = ((seen (codes "grpc-status") refl, number_is_bytes status n), tt); small = omega (arith, number_is_short status n) }

pub refusals_are_small : RefusalsAreSmall
unfolding refusal_fields status_field grpc_status content_type digits
refusals_are_small NotPost = record { bytes = ((seen (codes ":status") refl, number_is_bytes 405 (omega arith)), tt); small = omega arith }
refusals_are_small Path = record {
  bytes = ((seen (codes ":status") refl, number_is_bytes 200 (omega arith)), ((seen (codes "content-type") refl, seen (codes "application/grpc") refl), ((seen (codes "grpc-status") refl, number_is_bytes 12 (omega arith)), tt)));
  small = omega arith;
}
refusals_are_small ContentType = record { bytes = ((seen (codes ":status") refl, number_is_bytes 415 (omega arith)), tt); small = omega arith }
refusals_are_small Identifiers = record {
  bytes = ((seen (codes ":status") refl, number_is_bytes 200 (omega arith)), ((seen (codes "content-type") refl, seen (codes "application/grpc") refl), ((seen (codes "grpc-status") refl, number_is_bytes 13 (omega arith)), tt)));
  small = omega arith;
}
