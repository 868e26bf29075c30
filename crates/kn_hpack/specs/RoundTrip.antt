-- What an encoder writes and what a decoder reads are one.
use Rattle.std.specs.Prelude.{◌≡◌, ℕ, ◌≤◌, Bool, true, false, List, [], ◌∷◌, Ok}
use Rattle.std.specs.List.{AllByRecursion}
use Rattle.kn_hpack.specs.Strings.{IsBytes}
use Rattle.kn_hpack.specs.Fields.{Field, Table, total, resized}
use Rattle.kn_hpack.specs.Blocks.{progress, read_block}
use Rattle.kn_hpack.specs.Encoding.{block_of}
use Rattle.kn_hpack.specs.Representations.{Block}

-- names and values are bytes, and the list is not too large
pub record IsSmallList (fields : List Field) : Type 0 where
  pub bytes : AllByRecursion (λ f. IsBytes f.name × IsBytes f.value) fields
  pub small : total fields ≤ 16384

-- the table after a block of the encoder: the first one takes every field out
abbrev pub table_after : Bool → Table → Table
table_after true t = t
table_after false t = resized t 0

-- in any table a block of the encoder stands for the list that it was made of
abbrev pub EncodedIsBlock : Type 0
EncodedIsBlock = (t : Table) (wrote : Bool) (fields : List Field) → IsSmallList fields → Block t (block_of wrote fields) fields (table_after wrote t)

-- the blocks that one encoder writes for these lists, in their order
abbrev pub blocks_of : Bool → List (List Field) → List (List ℕ)
blocks_of wrote [] = []
blocks_of wrote (fields ∷ lists) = block_of wrote fields ∷ blocks_of true lists

-- the blocks, read in their order, give these lists
abbrev pub ReadsAll : Table → List (List ℕ) → List (List Field) → Type 0
ReadsAll t [] lists = lists ≡ []
ReadsAll t (block ∷ blocks) [] = ⊥
ReadsAll t (block ∷ blocks) (fields ∷ lists) = (u : Table) × (read_block t block ≡ Ok (progress u fields)) × ReadsAll u blocks lists

-- a decoder that read all earlier blocks of an encoder gives back the list
abbrev pub DecoderGivesBack : Type 0
DecoderGivesBack = (t : Table) (wrote : Bool) (lists : List (List Field)) → AllByRecursion IsSmallList lists → ReadsAll t (blocks_of wrote lists) lists
