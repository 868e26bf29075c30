-- What many entries put into one list, one after the other.
use Rattle.std.proofs.Common.{◌≡◌, ◌++◌, List, [], ◌∷◌, sym, ◌∙◌, append_assoc, append-nil}
use Rattle.kn_words.specs.Given.{all_given, put_all}

pub put_is_given : {E : Type 0} {A : Type 0} (give : E → List A) (ps : List A) (es : List E) → put_all give ps es ≡ ps ++ all_given give es
put_is_given give ps [] = sym (append-nil ps)
put_is_given give ps (e ∷ es) = put_is_given give (ps ++ give e) es ∙ append_assoc ps (give e) (all_given give es)
