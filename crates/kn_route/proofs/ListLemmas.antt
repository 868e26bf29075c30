-- Lists of strategies and of identifiers are read as the text spells them.
use Rattle.std.proofs.Common.{◌≡◌, ◌≢◌, ℕ, ◌+◌, ◌<◌, ◌==◌, List, [], ◌∷◌, ◌++◌, map, length, get_or, Option, Some, None, Bool, true, false, refl, sym, ap, ◌∙◌, subst, arith, cond, ne_eqb, append_assoc, append-nil, length-append, eq-eqb, lit<}
use Rattle.std.specs.Prelude.{Result, Ok, Err, codes, bytes_eq, nat_lt, All}
use Rattle.std.specs.List.{AllPairs, join_with_byte}
use Rattle.std.proofs.lemmas.Bool.{false≢true, ltb-false, le-ltb}
use Rattle.std.proofs.lemmas.List.{get_or_append_left, get_or-append-add, length-map}
use Rattle.std.proofs.lemmas.List.Folds.{list_any_at, list_any_none}
use Rattle.std.proofs.lemmas.List.Quantifiers.{all_pairs_push}
use Rattle.std.proofs.lemmas.List.Elements.{All-nil, All-cons, All-head, All-tail}
use Rattle.std.proofs.lemmas.List.Splits.{join_with_byte-slice_split, slice_split_at, slice_split_none, length-slice_split}
use Rattle.std.proofs.lemmas.Slice.Eq.{bytes_eq-Decides}
use Rattle.std.proofs.lemmas.Option.{none-some, same_Some}
use Rattle.form_urlencoded.specs.Form.{raw_pairs}
use Rattle.kn_route.specs.declared.id_kind.IdKind.{IdKind}
use Rattle.kn_route.specs.declared.id_kind.IdKind.TheVariants.{Ipv4, Ipv6, Host, Cidr, Uid, DefaultRoute}
use Rattle.kn_route.specs.declared.identifiers.IdFault.{IdFault}
use Rattle.kn_route.specs.declared.identifiers.IdFault.TheVariants.{TooLong}
use Rattle.kn_route.specs.declared.strategy.Strategy.{Strategy}
use Rattle.kn_route.specs.declared.strategy.Strategy.TheVariants.{DestHost, DefaultRoute as ByDefaultRoute, Default}
use Rattle.kn_route.specs.declared.strategies.StrategyFault.{StrategyFault}
use Rattle.kn_route.specs.declared.strategies.StrategyFault.TheVariants.{Empty, Repeat}
use Rattle.kn_route.specs.Cuts.{parts_of}
use Rattle.kn_route.specs.Kinds.{kind_named}
use Rattle.kn_route.specs.Steps.{steps, and_then}
use Rattle.kn_route.specs.Identifiers.{with_kind, with_pair, long_identifiers_in, identifiers_in, decoded}
use Rattle.kn_route.specs.Strategies.{name_of, strategy_named, is_same, stands_in, with_strategy, with_name, strategies_in}
use Rattle.kn_route.specs.HostTexts.{HasNo}
use Rattle.kn_route.specs.Lists.{IsStrategyList, name_of_kind, named, AreIdentifiers}
use Rattle.kn_route.proofs.HostTextLemmas.{no_has}

-- ---- results

abbrev value_or : {S E : Type 0} → S → Result S E → S
value_or s (Ok t) = t
value_or s (Err e) = s

abbrev is_good : {S E : Type 0} → Result S E → Bool
is_good (Ok t) = true
is_good (Err e) = false

pub same_ok : {S E : Type 0} (s t : S) → (let r : Result S E = Ok s in r) ≡ Ok t → s ≡ t
same_ok s t h = ap (value_or s) h

pub err_ok : {S E : Type 0} (e : E) (t : S) → Err e ≡ Ok t → ⊥
err_ok e t h = false≢true (ap is_good h)

-- ---- kinds

pub kind_of_name : (name : List ℕ) (kind : IdKind) → kind_named name ≡ Some kind → name ≡ name_of_kind kind
kind_of_name name kind h =
    go (bytes_eq name (codes "ipv4")) (bytes_eq name (codes "ipv6")) (bytes_eq name (codes "host")) (bytes_eq name (codes "cidr")) (bytes_eq name (codes "uid")) (bytes_eq name (codes "default-route"))
    (is (codes "ipv4")) (is (codes "ipv6")) (is (codes "host")) (is (codes "cidr")) (is (codes "uid")) (is (codes "default-route")) h where
      is : (text : List ℕ) → bytes_eq name text ≡ true → name ≡ text
      is text = (bytes_eq-Decides name text).0

      go : (a b c d e f : Bool) → (a ≡ true → name ≡ codes "ipv4") → (b ≡ true → name ≡ codes "ipv6") → (c ≡ true → name ≡ codes "host") → (d ≡ true → name ≡ codes "cidr") → (e ≡ true → name ≡ codes "uid") → (f ≡ true → name ≡ codes "default-route")
          → cond a (Some Ipv4) (cond b (Some Ipv6) (cond c (Some Host) (cond d (Some Cidr) (cond e (Some Uid) (cond f (Some DefaultRoute) None))))) ≡ Some kind → name ≡ name_of_kind kind
      go true b c d e f p q r s t u k = subst (λ x. name ≡ name_of_kind x) (same_Some _ kind k) (p refl)
      go false true c d e f p q r s t u k = subst (λ x. name ≡ name_of_kind x) (same_Some _ kind k) (q refl)
      go false false true d e f p q r s t u k = subst (λ x. name ≡ name_of_kind x) (same_Some _ kind k) (r refl)
      go false false false true e f p q r s t u k = subst (λ x. name ≡ name_of_kind x) (same_Some _ kind k) (s refl)
      go false false false false true f p q r s t u k = subst (λ x. name ≡ name_of_kind x) (same_Some _ kind k) (t refl)
      go false false false false false true p q r s t u k = subst (λ x. name ≡ name_of_kind x) (same_Some _ kind k) (u refl)
      go false false false false false false p q r s t u k = absurd (none-some kind k)

pub name_of_own_kind : (kind : IdKind) → kind_named (name_of_kind kind) ≡ Some kind
name_of_own_kind Ipv4 = refl
name_of_own_kind Ipv6 = refl
name_of_own_kind Host = refl
name_of_own_kind Cidr = refl
name_of_own_kind Uid = refl
name_of_own_kind DefaultRoute = refl

-- ---- identifiers

pair_read : (before : List (IdKind × List ℕ)) (pair : List ℕ × List ℕ) (after : List (IdKind × List ℕ)) → with_pair before pair ≡ Ok after → (own : IdKind × List ℕ) × (after ≡ before ++ own ∷ []) × (named own ≡ pair)
pair_read before (name, value) after h = go (kind_named name) refl h where
  go : (found : Option IdKind) → kind_named name ≡ found → with_kind before found value ≡ Ok after → (own : IdKind × List ℕ) × (after ≡ before ++ own ∷ []) × (named own ≡ (name, value))
  go None is e = absurd (err_ok _ after e)
  go (Some kind) is e = ((kind, value), sym (same_ok _ after e), ap (λ n. let p : List ℕ × List ℕ = (n, value) in p) (sym (kind_of_name name kind is)))

pairs_read : (before : List (IdKind × List ℕ)) (pairs : List (List ℕ × List ℕ)) (after : List (IdKind × List ℕ)) → steps with_pair before pairs ≡ Ok after → (more : List (IdKind × List ℕ)) × (after ≡ before ++ more) × (map named more ≡ pairs)
pairs_read before [] after h = ([], sym (same_ok before after h) ∙ sym (append-nil before), refl)
pairs_read before (pair ∷ pairs) after h = go (λ t. pairs_read t pairs after) (with_pair before pair) refl h where
  go : ((t : List (IdKind × List ℕ)) → steps with_pair t pairs ≡ Ok after → (more : List (IdKind × List ℕ)) × (after ≡ t ++ more) × (map named more ≡ pairs)) → (r : Result (List (IdKind × List ℕ)) IdFault) → with_pair before pair ≡ r → and_then r (λ t. steps with_pair t pairs) ≡ Ok after → (more : List (IdKind × List ℕ)) × (after ≡ before ++ more) × (map named more ≡ pair ∷ pairs)
  go later (Err e) is k = absurd (err_ok e after k)
  go later (Ok t) is k =
      let (own, grown, same) = pair_read before pair t is in
      let (more, rest, others) = later t k in
      (own ∷ more, rest ∙ ap (λ u. u ++ more) grown ∙ append_assoc before (own ∷ []) more, rw (same, others) refl)

pairs_of_named : (before more : List (IdKind × List ℕ)) → steps with_pair before (map named more) ≡ Ok (before ++ more)
pairs_of_named before [] = rw (append-nil before) refl
pairs_of_named before ((kind, value) ∷ more) =
    rw (name_of_own_kind kind) (pairs_of_named (before ++ (kind, value) ∷ []) more ∙ ap Ok (append_assoc before ((kind, value) ∷ []) more))

pub identifiers_spelled : (text : List ℕ) (pairs : List (IdKind × List ℕ)) → identifiers_in text ≡ Ok pairs → AreIdentifiers text pairs
unfolding identifiers_in long_identifiers_in
identifiers_spelled text pairs h = go (nat_lt 10240 (length text)) refl h where
  go : (b : Bool) → nat_lt 10240 (length text) ≡ b → cond b (Err TooLong) (steps with_pair [] (map decoded (raw_pairs text))) ≡ Ok pairs → AreIdentifiers text pairs
  go true is e = absurd (err_ok _ pairs e)
  go false is e =
      let (more, same, spelled) = pairs_read [] (map decoded (raw_pairs text)) pairs e in
      record { short = ltb-false _ _ is; spelled = rw same spelled }

pub spelled_identifiers : (text : List ℕ) (pairs : List (IdKind × List ℕ)) → AreIdentifiers text pairs → identifiers_in text ≡ Ok pairs
unfolding identifiers_in long_identifiers_in
spelled_identifiers text pairs h = rw (le-ltb _ _ h.short, ← h.spelled) (pairs_of_named [] pairs)

-- ---- strategies

pub strategy_of_name : (name : List ℕ) (strategy : Strategy) → strategy_named name ≡ Some strategy → name ≡ name_of strategy
strategy_of_name name strategy h =
    go (bytes_eq name (codes "destHost")) (bytes_eq name (codes "defaultRoute")) (bytes_eq name (codes "default"))
    (is (codes "destHost")) (is (codes "defaultRoute")) (is (codes "default")) h where
      is : (text : List ℕ) → bytes_eq name text ≡ true → name ≡ text
      is text = (bytes_eq-Decides name text).0

      go : (a b c : Bool) → (a ≡ true → name ≡ codes "destHost") → (b ≡ true → name ≡ codes "defaultRoute") → (c ≡ true → name ≡ codes "default")
          → cond a (Some DestHost) (cond b (Some ByDefaultRoute) (cond c (Some Default) None)) ≡ Some strategy → name ≡ name_of strategy
      go true b c p q r k = subst (λ x. name ≡ name_of x) (same_Some _ strategy k) (p refl)
      go false true c p q r k = subst (λ x. name ≡ name_of x) (same_Some _ strategy k) (q refl)
      go false false true p q r k = subst (λ x. name ≡ name_of x) (same_Some _ strategy k) (r refl)
      go false false false p q r k = absurd (none-some strategy k)

name_of_own : (strategy : Strategy) → strategy_named (name_of strategy) ≡ Some strategy
name_of_own DestHost = refl
name_of_own ByDefaultRoute = refl
name_of_own Default = refl

same_self : (s : Strategy) → is_same s s ≡ true
same_self DestHost = refl
same_self ByDefaultRoute = refl
same_self Default = refl

same_is : (s t : Strategy) → is_same s t ≡ true → s ≡ t
same_is DestHost DestHost h = refl
same_is DestHost ByDefaultRoute h = absurd (false≢true h)
same_is DestHost Default h = absurd (false≢true h)
same_is ByDefaultRoute DestHost h = absurd (false≢true h)
same_is ByDefaultRoute ByDefaultRoute h = refl
same_is ByDefaultRoute Default h = absurd (false≢true h)
same_is Default DestHost h = absurd (false≢true h)
same_is Default ByDefaultRoute h = absurd (false≢true h)
same_is Default Default h = refl

abbrev IsOther : Strategy → Strategy → Type 0
IsOther s t = s ≢ t

-- a strategy that does not stand before is another than each
others : (before : List Strategy) (s : Strategy) → stands_in before s ≡ false → (k : ℕ) (d : Strategy) → k < length before → IsOther (get_or before k d) s
others before s h k d inside = λ same.
    let here : is_same (get_or before k d) s ≡ true = subst (λ x. is_same (get_or before k d) x ≡ true) same (same_self (get_or before k d)) in
    false≢true (sym h ∙ list_any_at (λ x. is_same x s) before k d inside here)

not_before : (before : List Strategy) (s : Strategy) → ((k : ℕ) (d : Strategy) → k < length before → IsOther (get_or before k d) s) → stands_in before s ≡ false
not_before before s h = list_any_none (λ x. is_same x s) before (λ k d inside. by_test k d inside (is_same (get_or before k d) s) refl) where
  by_test : (k : ℕ) (d : Strategy) → k < length before → (b : Bool) → is_same (get_or before k d) s ≡ b → is_same (get_or before k d) s ≡ false
  by_test k d inside true e = absurd (h k d inside (same_is (get_or before k d) s e))
  by_test k d inside false e = e

record NameRead (before : List Strategy) (name : List ℕ) (after : List Strategy) : Type 0 where
  own : Strategy
  grown : after ≡ before ++ own ∷ []
  spelled : name_of own ≡ name
  other : (k : ℕ) (d : Strategy) → k < length before → IsOther (get_or before k d) own

name_read : (before : List Strategy) (name : List ℕ) (after : List Strategy) → with_name before name ≡ Ok after → NameRead before name after
name_read before name after h = go (strategy_named name) refl h where
  go_on : (s : Strategy) → strategy_named name ≡ Some s → (b : Bool) → stands_in before s ≡ b → cond b (Err (Repeat (length before + 1))) (Ok (before ++ s ∷ [])) ≡ Ok after → NameRead before name after
  go_on s found true is e = absurd (err_ok _ after e)
  go_on s found false is e = record { own = s; grown = sym (same_ok _ after e); spelled = sym (strategy_of_name name s found); other = others before s is }

  go : (found : Option Strategy) → strategy_named name ≡ found → with_strategy before found ≡ Ok after → NameRead before name after
  go None is e = absurd (err_ok _ after e)
  go (Some s) is e = go_on s is (stands_in before s) refl e

record NamesRead (before : List Strategy) (names : List (List ℕ)) (after : List Strategy) : Type 0 where
  more : List Strategy
  grown : after ≡ before ++ more
  spelled : map name_of more ≡ names
  distinct : AllPairs IsOther after

names_read : (before : List Strategy) (names : List (List ℕ)) (after : List Strategy) → AllPairs IsOther before → steps with_name before names ≡ Ok after → NamesRead before names after
names_read before [] after apart h =
    let same : before ≡ after = same_ok before after h in
    record { more = []; grown = sym same ∙ sym (append-nil before); spelled = refl; distinct = subst (AllPairs IsOther) same apart }
names_read before (name ∷ names) after apart h = go (λ t a. names_read t names after a) (with_name before name) refl h where
  go : ((t : List Strategy) → AllPairs IsOther t → steps with_name t names ≡ Ok after → NamesRead t names after) → (r : Result (List Strategy) StrategyFault) → with_name before name ≡ r → and_then r (λ t. steps with_name t names) ≡ Ok after → NamesRead before (name ∷ names) after
  go later (Err e) is k = absurd (err_ok e after k)
  go later (Ok t) is k =
      let first = name_read before name t is in
      let apart' : AllPairs IsOther t = subst (AllPairs IsOther) (sym first.grown) (all_pairs_push IsOther before first.own apart first.other) in
      let rest = later t apart' k in
      record {
        more = first.own ∷ rest.more;
        grown = rest.grown ∙ ap (λ u. u ++ rest.more) first.grown ∙ append_assoc before (first.own ∷ []) rest.more;
        spelled = rw (first.spelled, rest.spelled) refl;
        distinct = rest.distinct;
      }

pub strategies_spelled : (text : List ℕ) (strategies : List Strategy) → strategies_in text ≡ Ok strategies → IsStrategyList text strategies
unfolding strategies_in
strategies_spelled text strategies h = go (length text == 0) refl h where
  go : (b : Bool) → (length text == 0) ≡ b → cond b (Err Empty) (steps with_name [] (parts_of 44 text)) ≡ Ok strategies → IsStrategyList text strategies
  go true is e = absurd (err_ok _ strategies e)
  go false is e =
      let read = names_read [] (parts_of 44 text) strategies (λ i j d before inside. absurd (omega arith)) e in
      let spelled : map name_of strategies ≡ parts_of 44 text = rw read.grown read.spelled in
      let long : length (map name_of strategies) ≡ length strategies = length-map strategies name_of in
      let parts : 0 < length (parts_of 44 text) = omega (arith, length-slice_split (λ b. b == 44) text) in
      record {
        joined = sym (join_with_byte-slice_split 44 text) ∙ ap (join_with_byte 44) (sym spelled);
        some = omega (arith, long, parts, ap length spelled);
        distinct = read.distinct;
      }

-- parts that have no such byte are the parts of their join
pub parts_of_join : (at : ℕ) (part : List ℕ) (parts : List (List ℕ)) → All (HasNo at) (part ∷ parts) → parts_of at (join_with_byte at (part ∷ parts)) ≡ part ∷ parts
parts_of_join at part [] none = slice_split_none (λ b. b == at) part (λ k d inside. ne_eqb _ at (All-head (HasNo at) part [] none k d inside))
parts_of_join at part (next ∷ parts) none =
    slice_split_at (λ b. b == at) part at (join_with_byte at (next ∷ parts)) (λ k d inside. ne_eqb _ at (All-head (HasNo at) part (next ∷ parts) none k d inside)) (eq-eqb at at refl)
    ∙ ap (λ ps. part ∷ ps) (parts_of_join at next parts (All-tail (HasNo at) part (next ∷ parts) none))

no_comma : (s : Strategy) → HasNo 44 (name_of s)
no_comma DestHost = no_has 44 (codes "destHost") refl
no_comma ByDefaultRoute = no_has 44 (codes "defaultRoute") refl
no_comma Default = no_has 44 (codes "default") refl

no_commas : (strategies : List Strategy) → All (HasNo 44) (map name_of strategies)
no_commas [] = All-nil (HasNo 44)
no_commas (s ∷ ss) = All-cons (HasNo 44) (name_of s) (map name_of ss) (no_comma s) (no_commas ss)

has_name : (s : Strategy) → 0 < length (name_of s)
has_name DestHost = lit< tt
has_name ByDefaultRoute = lit< tt
has_name Default = lit< tt

join_some : (part : List ℕ) (parts : List (List ℕ)) → 0 < length part → 0 < length (join_with_byte 44 (part ∷ parts))
join_some part [] some = some
join_some part (next ∷ parts) some = let long = length-append part (44 ∷ join_with_byte 44 (next ∷ parts)) in omega (arith, some, long)

names_of : (before more : List Strategy) → AllPairs IsOther (before ++ more) → steps with_name before (map name_of more) ≡ Ok (before ++ more)
names_of before [] apart = rw (append-nil before) refl
names_of before (s ∷ more) apart =
    let new : stands_in before s ≡ false = not_before before s other in
    rw (name_of_own s, new)
    (names_of (before ++ s ∷ []) more (subst (AllPairs IsOther) (sym (append_assoc before (s ∷ []) more)) apart) ∙ ap Ok (append_assoc before (s ∷ []) more)) where
      other : (k : ℕ) (d : Strategy) → k < length before → IsOther (get_or before k d) s
      other k d inside =
          let long : length (before ++ s ∷ more) ≡ length before + length (s ∷ more) = length-append before (s ∷ more) in
          let early : get_or (before ++ s ∷ more) k d ≡ get_or before k d = get_or_append_left before (s ∷ more) d k inside in
          let here : get_or (before ++ s ∷ more) (length before + 0) d ≡ s = get_or-append-add before (s ∷ more) 0 d in
          let place : get_or (before ++ s ∷ more) (length before) d ≡ s = subst (λ n. get_or (before ++ s ∷ more) n d ≡ s) (omega arith) here in
          λ same. apart k (length before) d inside (omega arith) (early ∙ same ∙ sym place)

pub spelled_strategies : (text : List ℕ) (strategies : List Strategy) → IsStrategyList text strategies → strategies_in text ≡ Ok strategies
unfolding strategies_in
spelled_strategies text [] h = absurd (let none = h.some in omega arith)
spelled_strategies text (s ∷ ss) h =
    let parts : parts_of 44 text ≡ map name_of (s ∷ ss) = ap (parts_of 44) h.joined ∙ parts_of_join 44 (name_of s) (map name_of ss) (no_commas (s ∷ ss)) in
    let some : 0 < length text = subst (λ t. 0 < length t) (sym h.joined) (join_some (name_of s) (map name_of ss) (has_name s)) in
    rw (ne_eqb (length text) 0 (λ none. omega (arith, some, none)), parts) (names_of [] (s ∷ ss) h.distinct)
