-- The answer to the first bytes, whatever is beyond them.
use Rattle.std.proofs.Common.{◌≡◌, ℕ, List, ◌++◌, length, take, sym, ap, ◌∙◌, subst, arith, append-nil, length-append, inl, inr}
use Rattle.std.proofs.lemmas.List.{take_all, take_at}
use Rattle.std.proofs.lemmas.Bool.{cases_lt}
use Rattle.httparse.specs.Grammar.{RequestHead, print_request, ReadsRequest, NeverHasRequest}
use Rattle.httparse.proofs.GrammarLemmas.{ReadsRequest-append}
use Rattle.kn_connect.specs.Heads.{deciding, BeginsWithHead, IsUnfinished, IsDecided, IsNever}
use Rattle.kn_connect.specs.Fronts.{IsCut}
use Rattle.kn_connect.proofs.Refused.{decided_no_target, decided_append}

pub deciding_cut : (first beyond : List ℕ) → IsCut first beyond → deciding (first ++ beyond) ≡ first
unfolding deciding
deciding_cut first beyond cut =
    elim (cases_lt (length first) 8192) [
      | inl less ↦
          ap (λ (t : List ℕ). take 8192 (first ++ t)) (cut.rest less) ∙ ap (take 8192) (append-nil first) ∙ take_all 8192 first cut.short
      | inr all ↦ let short = cut.short in take_at first beyond 8192 (omega arith)
    ]

pub whole_cut : (first beyond rest : List ℕ) (h : RequestHead) → IsCut first beyond → ReadsRequest first h rest
    → BeginsWithHead (first ++ beyond) h (rest ++ beyond)
whole_cut first beyond rest h cut reads = record {
  reads = ReadsRequest-append first h rest beyond reads;
  small =
      let n = ap length reads.1 in
      let m = length-append (print_request h) rest in
      let short = cut.short in
      omega arith;
}

pub never_cut : (first beyond : List ℕ) → IsCut first beyond → IsDecided first → NeverHasRequest first → IsNever (deciding (first ++ beyond))
never_cut first beyond cut decided never = subst IsNever (sym (deciding_cut first beyond cut)) (record {
  head = never;
  target = λ more y. decided_no_target (first ++ more) (decided_append first more decided) y;
})

pub unfinished_cut : (first beyond : List ℕ) → IsCut first beyond → IsUnfinished first → IsUnfinished (deciding (first ++ beyond))
unfinished_cut first beyond cut x = subst IsUnfinished (sym (deciding_cut first beyond cut)) x
