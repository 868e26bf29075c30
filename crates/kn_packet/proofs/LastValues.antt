-- The last value of a field in a list that was made from fields of rising number.
use Rattle.std.proofs.Common.{◌≡◌, ℕ, Bool, true, false, cond, eqb, List, [], ◌∷◌, ◌++◌, length, Option, refl, sym, ap, ◌∙◌}
use Rattle.std.specs.Prelude.{unwrap_or}
use Rattle.std.proofs.lemmas.Bool.{eqb-true}
use Rattle.std.proofs.lemmas.List.{nil_from_length}
use Rattle.kn_packet.specs.Reading.{last_of, int64, text, bytes, int64_at, text_at, bytes_at}
use Rattle.kn_packet.proofs.Spells.{int64_entries, text_entries, bytes_entries}

last-append : {A B : Type 0} (pick : A → Option B) (d : B) (xs ys : List A) → last_of pick d (xs ++ ys) ≡ last_of pick (last_of pick d xs) ys
last-append pick d [] ys = refl
last-append pick d (x ∷ xs) ys = last-append pick (unwrap_or (pick x) d) xs ys

abbrev pub Silent : {A B : Type 0} → (A → Option B) → List A → Type 0
Silent {B = B} pick xs = (d : B) → last_of pick d xs ≡ d

module _ {A B : Type 0} (pick : A → Option B) (d v : B) where
  pub of_two_first : (xs ys : List A) → last_of pick d xs ≡ v → Silent pick ys → last_of pick d (xs ++ ys) ≡ v
  of_two_first xs ys said quiet = last-append pick d xs ys ∙ quiet (last_of pick d xs) ∙ said

  pub of_two_second : (xs ys : List A) → Silent pick xs → last_of pick d ys ≡ v → last_of pick d (xs ++ ys) ≡ v
  of_two_second xs ys quiet said = last-append pick d xs ys ∙ ap (λ (e : B). last_of pick e ys) (quiet d) ∙ said

  pub of_three_first : (xs ys zs : List A) → last_of pick d xs ≡ v → Silent pick ys → Silent pick zs → last_of pick d (xs ++ ys ++ zs) ≡ v
  of_three_first xs ys zs said quiet still = of_two_first (xs ++ ys) zs (of_two_first xs ys said quiet) still

  pub of_three_second : (xs ys zs : List A) → Silent pick xs → last_of pick d ys ≡ v → Silent pick zs → last_of pick d (xs ++ ys ++ zs) ≡ v
  of_three_second xs ys zs quiet said still = of_two_first (xs ++ ys) zs (of_two_second xs ys quiet said) still

pub silent_two : {A B : Type 0} (pick : A → Option B) (xs ys : List A) → Silent pick xs → Silent pick ys → Silent pick (xs ++ ys)
silent_two pick xs ys quiet still d = last-append pick d xs ys ∙ still (last_of pick d xs) ∙ quiet d

-- ---- numbers

int64_own_at : (number n : ℕ) (b : Bool) → eqb n 0 ≡ b → eqb number number ≡ true → last_of (int64_at number) 0 (cond b [] (int64 number n ∷ [])) ≡ n
int64_own_at number n true e same = sym (eqb-true n 0 e)
int64_own_at number n false e same = rw same refl

pub int64_own : (number n : ℕ) → eqb number number ≡ true → last_of (int64_at number) 0 (int64_entries number n) ≡ n
int64_own number n same = int64_own_at number n (eqb n 0) refl same

int64_other_at : (wanted number n d : ℕ) (b : Bool) → eqb number wanted ≡ false → last_of (int64_at wanted) d (cond b [] (int64 number n ∷ [])) ≡ d
int64_other_at wanted number n d true other = refl
int64_other_at wanted number n d false other = rw other refl

pub int64_other : (wanted number n : ℕ) → eqb number wanted ≡ false → Silent (int64_at wanted) (int64_entries number n)
int64_other wanted number n other d = int64_other_at wanted number n d (eqb n 0) other

int64_text_at : (wanted number d : ℕ) (body : List ℕ) (b : Bool) → last_of (int64_at wanted) d (cond b [] (text number body ∷ [])) ≡ d
int64_text_at wanted number d body true = refl
int64_text_at wanted number d body false = refl

pub int64_text : (wanted number : ℕ) (body : List ℕ) → Silent (int64_at wanted) (text_entries number body)
int64_text wanted number body d = int64_text_at wanted number d body (eqb (length body) 0)

int64_bytes_at : (wanted number d : ℕ) (body : List ℕ) (b : Bool) → last_of (int64_at wanted) d (cond b [] (bytes number body ∷ [])) ≡ d
int64_bytes_at wanted number d body true = refl
int64_bytes_at wanted number d body false = refl

pub int64_bytes : (wanted number : ℕ) (body : List ℕ) → Silent (int64_at wanted) (bytes_entries number body)
int64_bytes wanted number body d = int64_bytes_at wanted number d body (eqb (length body) 0)

-- ---- texts

text_own_at : (number : ℕ) (body : List ℕ) (b : Bool) → eqb (length body) 0 ≡ b → eqb number number ≡ true → last_of (text_at number) [] (cond b [] (text number body ∷ [])) ≡ body
text_own_at number body true e same = sym (nil_from_length body (eqb-true (length body) 0 e))
text_own_at number body false e same = rw same refl

pub text_own : (number : ℕ) (body : List ℕ) → eqb number number ≡ true → last_of (text_at number) [] (text_entries number body) ≡ body
text_own number body same = text_own_at number body (eqb (length body) 0) refl same

text_other_at : (wanted number : ℕ) (body d : List ℕ) (b : Bool) → eqb number wanted ≡ false → last_of (text_at wanted) d (cond b [] (text number body ∷ [])) ≡ d
text_other_at wanted number body d true other = refl
text_other_at wanted number body d false other = rw other refl

pub text_other : (wanted number : ℕ) (body : List ℕ) → eqb number wanted ≡ false → Silent (text_at wanted) (text_entries number body)
text_other wanted number body other d = text_other_at wanted number body d (eqb (length body) 0) other

text_int64_at : (wanted number n : ℕ) (d : List ℕ) (b : Bool) → last_of (text_at wanted) d (cond b [] (int64 number n ∷ [])) ≡ d
text_int64_at wanted number n d true = refl
text_int64_at wanted number n d false = refl

pub text_int64 : (wanted number n : ℕ) → Silent (text_at wanted) (int64_entries number n)
text_int64 wanted number n d = text_int64_at wanted number n d (eqb n 0)

text_bytes_at : (wanted number : ℕ) (body d : List ℕ) (b : Bool) → last_of (text_at wanted) d (cond b [] (bytes number body ∷ [])) ≡ d
text_bytes_at wanted number body d true = refl
text_bytes_at wanted number body d false = refl

pub text_bytes : (wanted number : ℕ) (body : List ℕ) → Silent (text_at wanted) (bytes_entries number body)
text_bytes wanted number body d = text_bytes_at wanted number body d (eqb (length body) 0)

-- ---- bytes

bytes_own_at : (number : ℕ) (body : List ℕ) (b : Bool) → eqb (length body) 0 ≡ b → eqb number number ≡ true → last_of (bytes_at number) [] (cond b [] (bytes number body ∷ [])) ≡ body
bytes_own_at number body true e same = sym (nil_from_length body (eqb-true (length body) 0 e))
bytes_own_at number body false e same = rw same refl

pub bytes_own : (number : ℕ) (body : List ℕ) → eqb number number ≡ true → last_of (bytes_at number) [] (bytes_entries number body) ≡ body
bytes_own number body same = bytes_own_at number body (eqb (length body) 0) refl same

bytes_text_at : (wanted number : ℕ) (body d : List ℕ) (b : Bool) → last_of (bytes_at wanted) d (cond b [] (text number body ∷ [])) ≡ d
bytes_text_at wanted number body d true = refl
bytes_text_at wanted number body d false = refl

pub bytes_text : (wanted number : ℕ) (body : List ℕ) → Silent (bytes_at wanted) (text_entries number body)
bytes_text wanted number body d = bytes_text_at wanted number body d (eqb (length body) 0)

bytes_int64_at : (wanted number n : ℕ) (d : List ℕ) (b : Bool) → last_of (bytes_at wanted) d (cond b [] (int64 number n ∷ [])) ≡ d
bytes_int64_at wanted number n d true = refl
bytes_int64_at wanted number n d false = refl

pub bytes_int64 : (wanted number n : ℕ) → Silent (bytes_at wanted) (int64_entries number n)
bytes_int64 wanted number n d = bytes_int64_at wanted number n d (eqb n 0)
