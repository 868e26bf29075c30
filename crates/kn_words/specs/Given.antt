-- What many entries, or many outputs, put into one list.
use Rattle.std.specs.Prelude.{◌++◌, List, [], ◌∷◌}

-- what each of them gives, one after the other
abbrev pub all_given : {E : Type 0} → {A : Type 0} → (E → List A) → List E → List A
all_given give [] = []
all_given give (e ∷ es) = give e ++ all_given give es

-- a list to which each in its turn appends what it gives
abbrev pub put_all : {E : Type 0} → {A : Type 0} → (E → List A) → List A → List E → List A
put_all give ps [] = ps
put_all give ps (e ∷ es) = put_all give (ps ++ give e) es
