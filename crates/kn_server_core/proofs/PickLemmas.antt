-- The link that a dial goes to is up.
use Rattle.std.proofs.Common.{◌≡◌, ℕ, ℤ, zero, suc, ◌<◌, ◌%◌, Bool, true, false, cond, eqb, ◌||◌, List, [], ◌∷◌, filter, length, slice_index, Option, Some, None, Result, Ok, Err, codes, is_some, nat_lt, refl, ap, ◌∙◌, subst, arith}
use Rattle.std.specs.List.{list_any}
use Rattle.std.proofs.lemmas.Bool.Decides.{Decides-eqb}
use Rattle.kn_route.specs.declared.strategy.Strategy.{Strategy}
use Rattle.kn_route.specs.declared.link.Link.{Link}
use Rattle.kn_route.specs.declared.host.HostFault.{HostFault}
use Rattle.kn_route.specs.Hosts.{host_in}
use Rattle.kn_route.specs.LinkLists.{is_link, has_link, numbers_of}
use Rattle.kn_route.specs.Choice.{pick, chosen, candidates, links_of, first_nonempty, is_candidate, with_strategy}
use Rattle.kn_tables.specs.Lists.{first_where}
use Rattle.kn_tables.specs.Awaiting.{is_random}
use Rattle.kn_server_core.specs.declared.state.State.{State}
use Rattle.kn_server_core.specs.Server.{dial_choice, host_choice, number_choice, is_tcp, tunnels_of}

or_right : (b c : Bool) → c ≡ true → (b || c) ≡ true
or_right true c h = refl
or_right false c h = h

at_place : (links : List Link) (k : ℕ) → k < length links → list_any (is_link (slice_index (numbers_of links) k)) links ≡ true
at_place [] k h = absurd (omega arith)
at_place (l ∷ ls) zero h = rw ((Decides-eqb l.number l.number).1 refl) refl
at_place (l ∷ ls) (suc k) h = or_right (is_link (slice_index (numbers_of ls) k) l) (list_any (is_link (slice_index (numbers_of ls) k)) ls) (at_place ls k (omega arith))

chosen_in : (links : List Link) (dial link : ℕ) → chosen links dial ≡ Some link → list_any (is_link link) links ≡ true
chosen_in [] dial link h = absurd cc
chosen_in (l ∷ ls) dial link h =
    let m : slice_index (numbers_of (l ∷ ls)) (dial % length (l ∷ ls)) ≡ link = cc in
    let k : dial % length (l ∷ ls) < length (l ∷ ls) = omega arith in
    subst (λ n. list_any (is_link n) (l ∷ ls) ≡ true) m (at_place (l ∷ ls) (dial % length (l ∷ ls)) k)

any_of_some : {E : Type 0} (q p : E → Bool) (xs : List E) → list_any q (filter p xs) ≡ true → list_any q xs ≡ true
any_of_some q p [] h = h
any_of_some q p (x ∷ xs) h = some_here (p x) (q x) refl h (λ l. any_of_some q p xs l)
  where
    some_here : (b c : Bool) → q x ≡ c → list_any q (cond b (x ∷ filter p xs) (filter p xs)) ≡ true → (list_any q (filter p xs) ≡ true → list_any q xs ≡ true) → (c || list_any q xs) ≡ true
    some_here b true i h later = refl
    some_here true false i h later = later (rw i at h)
    some_here false false i h later = later h

nonempty_in : (q : Link → Bool) (xs ys zs : List Link) → (list_any q xs ≡ true → list_any q zs ≡ true) → (list_any q ys ≡ true → list_any q zs ≡ true) → list_any q (first_nonempty xs ys) ≡ true → list_any q zs ≡ true
nonempty_in q [] ys zs f g h = g h
nonempty_in q (x ∷ xs) ys zs f g h = f h

candidates_in : (q : Link → Bool) (strategy : Strategy) (host : List ℕ) (links : List Link) → list_any q (candidates strategy host links) ≡ true → list_any q links ≡ true
candidates_in q strategy host links h = nonempty_in q (links_of strategy host false links) (links_of strategy host true links) links (any_of_some q (is_candidate strategy host false) links) (any_of_some q (is_candidate strategy host true) links) h

second : (a : Strategy) (n : ℕ) (c : Strategy × ℕ) → Some (a, n) ≡ Some c → n ≡ c.1
second a n c h = ap (λ (o : Option (Strategy × ℕ)). elim o [ None ↦ n | Some d ↦ d.1 ]) h

pub pick_in : (strategies : List Strategy) (links : List Link) (host : List ℕ) (dial : ℕ) (choice : Strategy × ℕ) → pick strategies links host dial ≡ Some choice → list_any (is_link choice.1) links ≡ true
unfolding pick
pick_in [] links host dial choice h = absurd cc
pick_in (strategy ∷ strategies) links host dial choice h = pick_here (chosen (candidates strategy host links) dial) refl h (λ l. pick_in strategies links host dial choice l)
  where
    pick_here : (o : Option ℕ) → chosen (candidates strategy host links) dial ≡ o → with_strategy strategy o (pick strategies links host dial) ≡ Some choice
        → (pick strategies links host dial ≡ Some choice → list_any (is_link choice.1) links ≡ true) → list_any (is_link choice.1) links ≡ true
    pick_here None i h later = later h
    pick_here (Some link) i h later =
        let m : link ≡ choice.1 = second strategy link choice h in
        candidates_in (is_link choice.1) strategy host links (chosen_in (candidates strategy host links) dial choice.1 (i ∙ ap Some m))

-- ---- through the causes that refuse a dial
number_in : (s : State) (o : Option (Strategy × ℕ)) (host : List ℕ) (link : ℕ) → pick s.strategies s.links.links host s.next_dial ≡ o → number_choice s o ≡ Ok link → has_link link s.links ≡ true
number_in s None host link f h = absurd cc
number_in s (Some choice) host link f h = number_here (eqb s.next_dial 9223372036854775807) h
  where
    number_here : (b : Bool) → cond b (Err (codes "dial numbers used up")) (Ok choice.1) ≡ Ok link → has_link link s.links ≡ true
    number_here true h = absurd cc
    number_here false h = let m : choice.1 ≡ link = cc in subst (λ n. has_link n s.links ≡ true) m (pick_in s.strategies s.links.links host s.next_dial choice f)

host_in_choice : (s : State) (front : ℕ) (o : Result (List ℕ) HostFault) (link : ℕ) → host_choice s front o ≡ Ok link → has_link link s.links ≡ true
host_in_choice s front (Err fault) link h = absurd cc
host_in_choice s front (Ok host) link h = host_here (nat_lt (tunnels_of s front) 600) h
  where
    host_here : (b : Bool) → cond b (number_choice s (pick s.strategies s.links.links host s.next_dial)) (Err (codes "too many tunnels")) ≡ Ok link → has_link link s.links ≡ true
    host_here true h = number_in s (pick s.strategies s.links.links host s.next_dial) host link refl h
    host_here false h = absurd cc

-- what is chosen is up, and it is not awaited by this front and random
pub choice_up : (s : State) (front : ℕ) (protocol address : List ℕ) (random : ℤ) (link : ℕ) → dial_choice s front protocol address random ≡ Ok link → has_link link s.links ≡ true
choice_up s front protocol address random link h = choice_here (is_some (first_where (is_random front random) s.awaited)) (is_tcp protocol) h
  where
    choice_here : (b c : Bool) → cond b (Err (codes "dial already awaited")) (cond c (host_choice s front (host_in address)) (Err (codes "unsupported protocol"))) ≡ Ok link → has_link link s.links ≡ true
    choice_here true c h = absurd cc
    choice_here false true h = host_in_choice s front (host_in address) link h
    choice_here false false h = absurd cc

-- a chosen dial has a number to draw
pub choice_left : (s : State) (front : ℕ) (protocol address : List ℕ) (random : ℤ) (link : ℕ) → dial_choice s front protocol address random ≡ Ok link → s.next_dial ≡ 9223372036854775807 → ⊥
choice_left s front protocol address random link h e = choice_here (is_some (first_where (is_random front random) s.awaited)) (is_tcp protocol) h
  where
    number_left : (o : Option (Strategy × ℕ)) → number_choice s o ≡ Ok link → ⊥
    number_left None h = cc
    number_left (Some choice) h = let t : eqb s.next_dial 9223372036854775807 ≡ true = (Decides-eqb s.next_dial 9223372036854775807).1 e in let z = rw t at h in cc

    host_left : (o : Result (List ℕ) HostFault) → host_choice s front o ≡ Ok link → ⊥
    host_left (Err fault) h = cc
    host_left (Ok host) h = host_here (nat_lt (tunnels_of s front) 600) h
      where
        host_here : (b : Bool) → cond b (number_choice s (pick s.strategies s.links.links host s.next_dial)) (Err (codes "too many tunnels")) ≡ Ok link → ⊥
        host_here true h = number_left (pick s.strategies s.links.links host s.next_dial) h
        host_here false h = cc

    choice_here : (b c : Bool) → cond b (Err (codes "dial already awaited")) (cond c (host_choice s front (host_in address)) (Err (codes "unsupported protocol"))) ≡ Ok link → ⊥
    choice_here true c h = cc
    choice_here false true h = host_left (host_in address) h
    choice_here false false h = cc
