-- What many entries tell one app, or one agent: at most one of them is its own.
use Rattle.std.proofs.Common.{◌≡◌, ◌==◌, ◌&&◌, ◌||◌, ◌++◌, ◌⊎◌, ℕ, Bool, true, false, cond, List, [], ◌∷◌, filter, Option, Some, None, inl, inr, refl, sym, ap, ◌∙◌, eqb-true}
use Rattle.kn_packet.specs.declared.packet.Packet.{Packet}
use Rattle.kn_tables.specs.Lists.{AreAbove, IsRising, first_where}
use Rattle.kn_server_core.specs.Isolation.{Each}
use Rattle.kn_server_core.proofs.LossLemmas.{not_equal}
use Rattle.kn_tunnel.specs.Tunnel.{Phase}
use Rattle.kn_words.specs.Down.{DownItem, OtherDown, down_of, down_snoc}
use Rattle.kn_words.specs.Out.{OtherOut, out_snoc, stream_out_item, stream_out_word}
use Rattle.kn_words.proofs.Ends.{down_append, out_append}
use Rattle.kn_packets.specs.Outputs.{all_answered, all_finish, answered, finishes, queued}
use Rattle.kn_packets.proofs.Fresh.{above, eqb_refl}
use Rattle.kn_packets.proofs.Queues.{down_other, out_other}
use Rattle.kn_packets.proofs.Taken.{or_false}

-- ---- a list with one that counts, among others that do not
abbrev pub IsOne : {A : Type 0} → (A → Type 0) → A → List A → Type 0
IsOne Quiet p [] = ⊥
IsOne Quiet p (q ∷ qs) = ((q ≡ p) × Each Quiet qs) ⊎ (Quiet q × IsOne Quiet p qs)

pub each_both : {A : Type 0} (P : A → Type 0) (xs ys : List A) → Each P xs → Each P ys → Each P (xs ++ ys)
each_both P [] ys h i = i
each_both P (x ∷ xs) ys h i = (h.0, each_both P xs ys h.1 i)

pub one_before : {A : Type 0} (P : A → Type 0) (p : A) (xs ys : List A) → IsOne P p xs → Each P ys → IsOne P p (xs ++ ys)
one_before P p [] ys h i = absurd h
one_before P p (x ∷ xs) ys (inl h) i = inl (h.0, each_both P xs ys h.1 i)
one_before P p (x ∷ xs) ys (inr h) i = inr (h.0, one_before P p xs ys h.1 i)

pub one_behind : {A : Type 0} (P : A → Type 0) (p : A) (xs ys : List A) → Each P xs → IsOne P p ys → IsOne P p (xs ++ ys)
one_behind P p [] ys h i = i
one_behind P p (x ∷ xs) ys h i = inr (h.0, one_behind P p xs ys h.1 i)

-- ---- an app
-- a packet is not for the app, whose stream is a client's
abbrev pub NotFor : Bool → ℕ → Option ℕ → Packet → Type 0
NotFor c n D p = (c ≡ false) × (stream_out_item c n D p ≡ OtherOut)

module _ (c : Bool) (n : ℕ) (D : Option ℕ) where
  pub quiet_word : (b : Bool) (xs ps : List Packet) → Each (NotFor c n D) ps → stream_out_word c n D (queued b xs ps) ≡ stream_out_word c n D xs
  quiet_word b xs [] h = refl
  quiet_word true xs (p ∷ ps) h = quiet_word true (xs ++ p ∷ []) ps h.1 ∙ out_other (stream_out_item c n D) true xs p h.0.1
  quiet_word false xs (p ∷ ps) h = quiet_word false xs ps h.1

  pub one_word : (b : Bool) (xs ps : List Packet) (p : Packet) → IsOne (NotFor c n D) p ps → stream_out_word c n D (queued b xs ps) ≡ stream_out_word c n D (queued b xs (p ∷ []))
  one_word b xs [] p h = absurd h
  one_word true xs (q ∷ qs) p (inl h) = quiet_word true (xs ++ q ∷ []) qs h.1 ∙ ap (λ x. stream_out_word c n D (xs ++ x ∷ [])) h.0
  one_word true xs (q ∷ qs) p (inr h) = one_word true (xs ++ q ∷ []) qs p h.1 ∙ out_append (stream_out_item c n D) (xs ++ q ∷ []) p
      ∙ ap (λ v. out_snoc v (stream_out_item c n D p)) (out_other (stream_out_item c n D) true xs q h.0.1) ∙ sym (out_append (stream_out_item c n D) xs p)
  one_word false xs (q ∷ qs) p (inl h) = quiet_word false xs qs h.1
  one_word false xs (q ∷ qs) p (inr h) = one_word false xs qs p h.1

  pub quiet_finish : (ps : List Packet) (finished : Bool) → Each (NotFor c n D) ps → all_finish c ps finished ≡ finished
  quiet_finish [] finished h = refl
  quiet_finish (p ∷ ps) finished h = quiet_finish ps (finished || (finishes p && c)) h.1 ∙ rw (h.0.0, none (finishes p)) (or_false finished)
    where
      none : (b : Bool) → (b && false) ≡ false
      none true = refl
      none false = refl

  pub one_finish : (ps : List Packet) (p : Packet) (finished : Bool) → IsOne (NotFor c n D) p ps → all_finish c ps finished ≡ all_finish c (p ∷ []) finished
  one_finish [] p finished h = absurd h
  one_finish (q ∷ qs) p finished (inl h) = quiet_finish qs (finished || (finishes q && c)) h.1 ∙ ap (λ x. finished || (finishes x && c)) h.0
  one_finish (q ∷ qs) p finished (inr h) = one_finish qs p (finished || (finishes q && c)) h.1 ∙ ap (λ x. x || (finishes p && c)) (quiet_finish (q ∷ []) finished (h.0, tt))

  pub quiet_answer : (ps : List Packet) (phase : Phase) → Each (NotFor c n D) ps → all_answered c ps phase ≡ phase
  quiet_answer [] phase h = refl
  quiet_answer (p ∷ ps) phase h = quiet_answer ps (cond c (answered p phase) phase) h.1 ∙ rw h.0.0 refl

  pub one_answer : (ps : List Packet) (p : Packet) (phase : Phase) → IsOne (NotFor c n D) p ps → all_answered c ps phase ≡ all_answered c (p ∷ []) phase
  one_answer [] p phase h = absurd h
  one_answer (q ∷ qs) p phase (inl h) = quiet_answer qs (cond c (answered q phase) phase) h.1 ∙ ap (λ x. cond c (answered x phase) phase) h.0
  one_answer (q ∷ qs) p phase (inr h) = one_answer qs p (cond c (answered q phase) phase) h.1 ∙ ap (λ x. cond c (answered p x) x) (quiet_answer (q ∷ []) phase (h.0, tt))

-- ---- an agent, for one connectID
module _ (item : Packet → DownItem) where
  pub quiet_down : (b : Bool) (xs ps : List Packet) → Each (λ p. item p ≡ OtherDown) ps → down_of item (queued b xs ps) ≡ down_of item xs
  quiet_down b xs [] h = refl
  quiet_down true xs (p ∷ ps) h = quiet_down true (xs ++ p ∷ []) ps h.1 ∙ down_other item true xs p h.0
  quiet_down false xs (p ∷ ps) h = quiet_down false xs ps h.1

  pub one_down : (b : Bool) (xs ps : List Packet) (p : Packet) → IsOne (λ q. item q ≡ OtherDown) p ps → down_of item (queued b xs ps) ≡ down_of item (queued b xs (p ∷ []))
  one_down b xs [] p h = absurd h
  one_down true xs (q ∷ qs) p (inl h) = quiet_down true (xs ++ q ∷ []) qs h.1 ∙ ap (λ x. down_of item (xs ++ x ∷ [])) h.0
  one_down true xs (q ∷ qs) p (inr h) = one_down true (xs ++ q ∷ []) qs p h.1 ∙ down_append item (xs ++ q ∷ []) p
      ∙ ap (λ v. down_snoc v (item p)) (down_other item true xs q h.0) ∙ sym (down_append item xs p)
  one_down false xs (q ∷ qs) p (inl h) = quiet_down false xs qs h.1
  one_down false xs (q ∷ qs) p (inr h) = one_down false xs qs p h.1

-- ---- entries of a table
-- each is the one of its number
pub each_its : {E : Type 0} (number : E → ℕ) (xs : List E) → IsRising number xs → Each (λ x. first_where (λ y. number y == number x) xs ≡ Some x) xs
each_its number [] h = tt
each_its {E = E} number (x ∷ xs) h = (rw (eqb_refl (number x)) refl, later xs h.0 (each_its number xs h.1))
  where
    later : (ys : List E) → AreAbove number (number x) ys → Each (λ y. first_where (λ z. number z == number y) xs ≡ Some y) ys → Each (λ y. first_where (λ z. number z == number y) (x ∷ xs) ≡ Some y) ys
    later [] a i = tt
    later (y ∷ ys) a i = (rw (not_equal (number x) (number y) a.0) (i.0), later ys a.1 i.1)

pub none_where : {E : Type 0} (q : E → Bool) (xs : List E) → Each (λ x. q x ≡ false) xs → first_where q xs ≡ None
none_where q [] h = refl
none_where q (x ∷ xs) h = rw h.0 (none_where q xs h.1)

pub kept_where : {E : Type 0} (q p : E → Bool) (xs : List E) → Each (λ x. q x ≡ true → p x ≡ true) xs → first_where q (filter p xs) ≡ first_where q xs
kept_where q p [] h = refl
kept_where q p (y ∷ ys) h = here (p y) (q y) refl refl (kept_where q p ys h.1)
  where
    here : (b c : Bool) → p y ≡ b → q y ≡ c → first_where q (filter p ys) ≡ first_where q ys → first_where q (cond b (y ∷ filter p ys) (filter p ys)) ≡ cond c (Some y) (first_where q ys)
    here true true i j later = rw j refl
    here true false i j later = rw j later
    here false true i j later = absurd (cc (h.0 j, i))
    here false false i j later = later

-- the entry of a number, among others
pub one_of : {E : Type 0} (number : E → ℕ) (n : ℕ) (e : E) (xs : List E) → IsRising number xs → first_where (λ x. number x == n) xs ≡ Some e → IsOne (λ x. (number x == n) ≡ false) e xs
one_of number n e [] r f = absurd cc
one_of {E = E} number n e (x ∷ xs) r f = here (number x == n) refl f (λ g. one_of number n e xs r.1 g)
  where
    apart : (ys : List E) → AreAbove number (number x) ys → number x ≡ n → Each (λ y. (number y == n) ≡ false) ys
    apart [] a m = tt
    apart (y ∷ ys) a m = (rw (sym m) (above (number x) (number y) a.0), apart ys a.1 m)

    here : (b : Bool) → (number x == n) ≡ b → cond b (Some x) (first_where (λ y. number y == n) xs) ≡ Some e → (first_where (λ y. number y == n) xs ≡ Some e → IsOne (λ y. (number y == n) ≡ false) e xs) → ((x ≡ e) × Each (λ y. (number y == n) ≡ false) xs) ⊎ (((number x == n) ≡ false) × IsOne (λ y. (number y == n) ≡ false) e xs)
    here true t f later = inl (cc, apart xs r.0 (eqb-true (number x) n t))
    here false t f later = inr (t, later f)
