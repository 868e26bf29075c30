-- What a header block stands for, by its representations (RFC 7541, section 6).
use Rattle.std.specs.Prelude.{◌≡◌, ℕ, ◌<◌, ◌≤◌, ◌⊎◌, List, [], ◌∷◌, ◌++◌, Some, Ok, Err}
use Rattle.kn_hpack.specs.Integers.{IsInteger}
use Rattle.kn_hpack.specs.Strings.{IsString, IsBytes}
use Rattle.kn_hpack.specs.Fields.{Field, Table, total, added, resized}
use Rattle.kn_hpack.specs.Indexes.{field_at}
use Rattle.kn_hpack.specs.Blocks.{Progress, progress, read_block}
use Rattle.kn_hpack.specs.declared.representation.Kind.{Kind}
use Rattle.kn_hpack.specs.declared.representation.Kind.TheVariants.{Indexed, Added, Resized, Never, Plain}
use Rattle.kn_hpack.specs.declared.fault.HpackFault.{HpackFault}

-- an index of seven bits behind 1
pub record IsIndexed (t : Table) (text : List ℕ) (f : Field) : Type 0 where
  pub index : ℕ
  pub spelled : IsInteger 1 127 text index
  pub names : field_at t index ≡ Some f

-- the name is that of an index, or in text behind index 0
abbrev pub IsNamed : Table → ℕ → List ℕ → List ℕ → Type 0
IsNamed t index text name = ((index ≡ 0) × IsString text name) ⊎ ((0 < index) × (text ≡ []) × (g : Field) × (field_at t index ≡ Some g) × (g.name ≡ name))

-- a name and a value in text, behind a pattern
pub record IsLiteral (kind top : ℕ) (t : Table) (text : List ℕ) (f : Field) : Type 0 where
  pub index : ℕ
  pub head : List ℕ
  pub naming : List ℕ
  pub valuing : List ℕ
  pub joined : text ≡ head ++ (naming ++ valuing)
  pub spelled : IsInteger kind top head index
  pub named : IsNamed t index naming f.name
  pub valued : IsString valuing f.value

-- what a representation of each kind stands for: what was read before it, its text, and what has been read with it
abbrev pub Stands : Kind → Progress → List ℕ → Progress → Type 0
Stands Indexed p text q = (f : Field) × IsIndexed p.table text f × (q ≡ progress p.table (p.fields ++ f ∷ []))
Stands Added p text q = (f : Field) × IsLiteral 1 63 p.table text f × (q ≡ progress (added p.table f) (p.fields ++ f ∷ []))
Stands Resized p text q = (limit : ℕ) × IsInteger 1 31 text limit × (limit ≤ 4096) × (p.fields ≡ []) × (q ≡ progress (resized p.table limit) [])
Stands Never p text q = (f : Field) × IsLiteral 1 15 p.table text f × (q ≡ progress p.table (p.fields ++ f ∷ []))
Stands Plain p text q = (f : Field) × IsLiteral 0 15 p.table text f × (q ≡ progress p.table (p.fields ++ f ∷ []))

-- one representation after the other
abbrev pub AllStand : List Kind → Progress → List ℕ → Progress → Type 0
AllStand [] p bytes q = (bytes ≡ []) × (q ≡ p)
AllStand (k ∷ ks) p bytes q = (text : List ℕ) × (more : List ℕ) × (r : Progress) × (bytes ≡ text ++ more) × Stands k p text r × AllStand ks r more q

-- in a table the block stands for fields that are not too large together, and leaves a table
pub record Block (t : Table) (bytes : List ℕ) (fields : List Field) (u : Table) : Type 0 where
  pub kinds : List Kind
  pub stands : AllStand kinds (progress t []) bytes (progress u fields)
  pub small : total fields ≤ 16384

-- what the block stands for is read
abbrev pub BlockIsRead : Type 0
BlockIsRead = (t u : Table) (bytes : List ℕ) (fields : List Field) → Block t bytes fields u → read_block t bytes ≡ Ok (progress u fields)

-- what is read is what the block stands for
abbrev pub ReadIsBlock : Type 0
ReadIsBlock = (t u : Table) (bytes : List ℕ) (fields : List Field) → IsBytes bytes → read_block t bytes ≡ Ok (progress u fields) → Block t bytes fields u

-- a block in which a fault is told stands for nothing
abbrev pub FaultIsNoBlock : Type 0
FaultIsNoBlock = (t u : Table) (bytes : List ℕ) (fields : List Field) (f : HpackFault) → read_block t bytes ≡ Err f → Block t bytes fields u → ⊥

-- a block stands for one list, and leaves one table
abbrev pub BlockIsOne : Type 0
BlockIsOne = (t u v : Table) (bytes : List ℕ) (fields others : List Field) → Block t bytes fields u → Block t bytes others v → (fields ≡ others) × (u ≡ v)
