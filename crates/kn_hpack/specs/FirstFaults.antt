-- The first fault of a header block in reading order, each cause in the terms of RFC 7541.
use Rattle.std.specs.Prelude.{◌≡◌, ℕ, ◌+◌, ◌%◌, ◌<◌, ◌≤◌, ◌⊎◌, suc, List, [], ◌∷◌, ◌++◌, length, None, Err}
use Rattle.std.specs.List.{AllByRecursion}
use Rattle.kn_hpack.specs.Integers.{IsTail, IsInteger}
use Rattle.kn_hpack.specs.Codes.{bits_of}
use Rattle.kn_hpack.specs.HuffmanLaws.{HasEos, HasBadPadding}
use Rattle.kn_hpack.specs.Strings.{IsBytes}
use Rattle.kn_hpack.specs.Fields.{Table, total}
use Rattle.kn_hpack.specs.Indexes.{field_at}
use Rattle.kn_hpack.specs.Blocks.{kind_of, Progress, progress, read_block}
use Rattle.kn_hpack.specs.Representations.{IsNamed, Stands, AllStand}
use Rattle.kn_hpack.specs.declared.fault.HpackReason.{HpackReason}
use Rattle.kn_hpack.specs.declared.fault.HpackReason.TheVariants.{Index, Integer, Padding, Eos, TableSize, Cut, TooLarge}
use Rattle.kn_hpack.specs.declared.fault.HpackFault.{HpackFault}
use Rattle.kn_hpack.specs.declared.representation.Kind.{Kind}
use Rattle.kn_hpack.specs.declared.representation.Kind.TheVariants.{Indexed, Added, Resized, Never, Plain}

-- bytes that continue an integer: the top bit of each is set
abbrev pub GoOn : List ℕ → Type 0
GoOn bs = AllByRecursion (λ b. 128 ≤ b) bs

-- No integer begins the bytes, behind a prefix whose largest value is `top`: the block ends before it, or inside its
-- continuation bytes; there are more than five of them; or the number is over 2,147,483,647.
pub data IntegerFault : ℕ → List ℕ → HpackReason → Type 0 where
  absent : (top : ℕ) → IntegerFault top [] Cut
  unended : (top b : ℕ) (bs : List ℕ) → top ≤ b % suc top → length bs ≤ 5 → GoOn bs → IntegerFault top (b ∷ bs) Cut
  too_long : (top b : ℕ) (bs front rest : List ℕ) → top ≤ b % suc top → bs ≡ front ++ rest → length front ≡ 5 → GoOn front → 0 < length rest → IntegerFault top (b ∷ bs) Integer
  too_high : (top b more : ℕ) (bs text rest : List ℕ) → top ≤ b % suc top → bs ≡ text ++ rest → length text ≤ 5 → IsTail text more → 2147483647 < top + more → IntegerFault top (b ∷ bs) Integer

-- No string begins the bytes: its length has a fault; the block ends before its end; or its codes have bad padding, or
-- the end's code among them.
pub data StringFault : List ℕ → HpackReason → Type 0 where
  no_length : (bytes : List ℕ) (r : HpackReason) → IntegerFault 127 bytes r → StringFault bytes r
  too_short : (h len : ℕ) (bytes head rest : List ℕ) → bytes ≡ head ++ rest → IsInteger h 127 head len → length rest < len → StringFault bytes Cut
  padding : (bytes head body rest : List ℕ) → bytes ≡ head ++ (body ++ rest) → IsInteger 1 127 head (length body) → HasBadPadding (bits_of body) → StringFault bytes Padding
  ended : (bytes head body rest : List ℕ) → bytes ≡ head ++ (body ++ rest) → IsInteger 1 127 head (length body) → HasEos (bits_of body) → StringFault bytes Eos

-- No name begins the bytes: its index has a fault, or is beyond both tables; or its text has a fault.
pub data NameFault : ℕ → ℕ → Table → List ℕ → HpackReason → Type 0 where
  no_index : (kind top : ℕ) (t : Table) (bytes : List ℕ) (r : HpackReason) → IntegerFault top bytes r → NameFault kind top t bytes r
  unknown : (kind top index : ℕ) (t : Table) (bytes head rest : List ℕ) → bytes ≡ head ++ rest → IsInteger kind top head index → 0 < index → field_at t index ≡ None → NameFault kind top t bytes Index
  no_text : (kind top : ℕ) (t : Table) (bytes head rest : List ℕ) (r : HpackReason) → bytes ≡ head ++ rest → IsInteger kind top head 0 → StringFault rest r → NameFault kind top t bytes r

-- No literal begins the bytes: its name has a fault, or its value.
pub data LiteralFault : ℕ → ℕ → Table → List ℕ → HpackReason → Type 0 where
  no_name : (kind top : ℕ) (t : Table) (bytes : List ℕ) (r : HpackReason) → NameFault kind top t bytes r → LiteralFault kind top t bytes r
  no_value : (kind top index : ℕ) (t : Table) (bytes head naming name rest : List ℕ) (r : HpackReason) → bytes ≡ head ++ (naming ++ rest) → IsInteger kind top head index
      → IsNamed t index naming name → StringFault rest r → LiteralFault kind top t bytes r

-- No representation of the kind begins the bytes, after what has been read: a part of it has a fault; an index names
-- nothing; a new limit is over 4,096, or stands after a field; or with its field the list is too large.
pub data KindFault : Kind → Progress → List ℕ → HpackReason → Type 0 where
  no_number : (p : Progress) (bytes : List ℕ) (r : HpackReason) → IntegerFault 127 bytes r → KindFault Indexed p bytes r
  no_field : (p : Progress) (index : ℕ) (bytes head rest : List ℕ) → bytes ≡ head ++ rest → IsInteger 1 127 head index → field_at p.table index ≡ None → KindFault Indexed p bytes Index
  added : (p : Progress) (bytes : List ℕ) (r : HpackReason) → LiteralFault 1 63 p.table bytes r → KindFault Added p bytes r
  never : (p : Progress) (bytes : List ℕ) (r : HpackReason) → LiteralFault 1 15 p.table bytes r → KindFault Never p bytes r
  plain : (p : Progress) (bytes : List ℕ) (r : HpackReason) → LiteralFault 0 15 p.table bytes r → KindFault Plain p bytes r
  no_limit : (p : Progress) (bytes : List ℕ) (r : HpackReason) → IntegerFault 31 bytes r → KindFault Resized p bytes r
  over_limit : (p : Progress) (limit : ℕ) (bytes head rest : List ℕ) → bytes ≡ head ++ rest → IsInteger 1 31 head limit → (4096 < limit) ⊎ (0 < length p.fields) → KindFault Resized p bytes TableSize
  too_large : (k : Kind) (p q : Progress) (bytes text rest : List ℕ) → bytes ≡ text ++ rest → Stands k p text q → 16384 < total q.fields → KindFault k p bytes TooLarge

-- representations that stand for fields, in their order, and at the place one that has the fault
pub record FaultAt (t : Table) (bytes : List ℕ) (f : HpackFault) : Type 0 where
  pub kinds : List Kind
  pub before : Progress
  pub front : List ℕ
  pub first : ℕ
  pub rest : List ℕ
  pub joined : bytes ≡ front ++ first ∷ rest
  pub stands : AllStand kinds (progress t []) front before
  pub small : total before.fields ≤ 16384
  pub place : f.place ≡ length front
  pub fault : KindFault (kind_of first) before (first ∷ rest) f.reason

-- the fault that is told is there
abbrev pub FaultIsThere : Type 0
FaultIsThere = (t : Table) (bytes : List ℕ) (f : HpackFault) → IsBytes bytes → read_block t bytes ≡ Err f → FaultAt t bytes f

-- the fault that is there is told
abbrev pub FaultIsTold : Type 0
FaultIsTold = (t : Table) (bytes : List ℕ) (f : HpackFault) → FaultAt t bytes f → read_block t bytes ≡ Err f
