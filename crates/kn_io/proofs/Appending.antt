-- Known bytes that grow by one piece after another.
use Rattle.std.proofs.Common.{◌≡◌, ◌++◌, ℕ, List, [], take, drop, append_assoc, ◌∙◌, ap, sym, refl, None, Some}
use Rattle.std.specs.Prelude.{Option}
use Rattle.std.proofs.lemmas.List.{append-nil, take-append-drop}
use Rattle.std.specs.Io.KnownBytes.{Appends, Keeps}

-- a front of the bytes was written, and the rest is left to write
pub record Written (old new : Option (List ℕ)) (bytes rest : List ℕ) : Type 0 where
  pub front : List ℕ
  pub joined : bytes ≡ front ++ rest
  pub appended : Appends old new front

Appends-then : (old mid new : Option (List ℕ)) (xs ys : List ℕ) → Appends old mid xs → Appends mid new ys → Appends old new (xs ++ ys)
Appends-then None mid new xs ys a b = tt
Appends-then (Some o) None new xs ys a b = absurd a
Appends-then (Some o) (Some m) None xs ys a b = absurd b
Appends-then (Some o) (Some m) (Some n) xs ys a b = b ∙ ap (λ zs. zs ++ ys) a ∙ append_assoc o xs ys

Appends-nothing : (old : Option (List ℕ)) → Appends old old []
Appends-nothing None = tt
Appends-nothing (Some xs) = sym (append-nil xs)

Appends-kept : (old mid new : Option (List ℕ)) (xs : List ℕ) → Appends old mid xs → Keeps mid new → Appends old new xs
Appends-kept None mid new xs a b = tt
Appends-kept (Some o) None new xs a b = absurd a
Appends-kept (Some o) (Some m) None xs a b = absurd b
Appends-kept (Some o) (Some m) (Some n) xs a b = b ∙ a

pub nothing_written : (old : Option (List ℕ)) (bytes : List ℕ) → Written old old bytes bytes
nothing_written old bytes = record { front = []; joined = refl; appended = Appends-nothing old }

pub more_written : (old mid new : Option (List ℕ)) (bytes rest : List ℕ) (count : ℕ) → Written old mid bytes rest → Appends mid new (take count rest) → Written old new bytes (drop count rest)
more_written old mid new bytes rest count w a = record {
  front = w.front ++ take count rest;
  joined = w.joined ∙ ap (λ xs. w.front ++ xs) (sym (take-append-drop count rest)) ∙ sym (append_assoc w.front (take count rest) (drop count rest));
  appended = Appends-then old mid new w.front (take count rest) w.appended a;
}

pub still_written : (old mid new : Option (List ℕ)) (bytes rest : List ℕ) → Written old mid bytes rest → Keeps mid new → Written old new bytes rest
still_written old mid new bytes rest w k = record { front = w.front; joined = w.joined; appended = Appends-kept old mid new w.front w.appended k }

-- all was written where nothing is left
pub all_written : (old new : Option (List ℕ)) (bytes : List ℕ) → Written old new bytes [] → Appends old new bytes
all_written old new bytes w = let e : bytes ≡ w.front = w.joined ∙ append-nil w.front in rw e w.appended
