-- A connection that changes.
use Rattle.std.proofs.Common.{◌≡◌, ℕ, Option, Some, None, refl}
use Rattle.kn_rising.specs.Members.{Members, at, changed}
use Rattle.kn_rising.specs.Members as members
use Rattle.kn_server_node.specs.declared.end.End.{End}
use Rattle.kn_server_node.proofs.MemberLemmas.{at_with}

-- if it is there
abbrev pub changed_end : (End → End) → Option End → Option End
changed_end f None = None
changed_end f (Some e) = Some (f e)

pub changed_at : (m : Members End) (n : ℕ) (f : End → End) → at (members.change m n f) n ≡ changed_end f (at m n)
changed_at m n f = by_member (at m n) refl
  where
    by_member : (o : Option End) → at m n ≡ o → at (changed m n f o) n ≡ changed_end f o
    by_member None e = e
    by_member (Some x) e = at_with m n x (f x) e
