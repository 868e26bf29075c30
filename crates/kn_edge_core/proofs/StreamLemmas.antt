-- The apps that stay when a stream ends.
use Rattle.std.proofs.Common.{◌≡◌, ℕ, ◌<◌, Bool, true, false, cond, eqb, ltb, List, [], ◌∷◌, ◌++◌, Option, Some, None, refl, sym, ap, ◌∙◌, subst, arith, append_assoc, append-nil}
use Rattle.kn_tables.specs.Lists.{first_where, in_place, AreAbove}
use Rattle.kn_edge_core.specs.declared.app.App.{App}
use Rattle.kn_edge_core.specs.declared.app.AppState.{AppState}
use Rattle.kn_edge_core.specs.declared.app.AppState.TheVariants.{Dialling, Open, Closing, Lingering}
use Rattle.kn_edge_core.specs.declared.client_event.ClientOut.{ClientOut}
use Rattle.kn_edge_core.specs.declared.client_state.ClientState.{ClientState}
use Rattle.kn_edge_core.specs.AppOrder.{AreBelow, AreBefore}
use Rattle.kn_edge_core.specs.ClientTables.{is_app, lingering}
use Rattle.kn_edge_core.specs.Client.{kept, told_unless_kept, after_stream, held_after_stream, apps_after, ends_told}
use Rattle.kn_edge_core.specs.Sound.{IsClientSound}
use Rattle.kn_edge_core.proofs.SoundLemmas.{other_number}

-- an app above all others stands last
pub in_place_last : (a : App) (xs : List App) → AreBelow a.number xs → in_place (λ x. x.number) a xs ≡ xs ++ a ∷ []
in_place_last a [] h = refl
in_place_last a (x ∷ xs) h =
    let l : ltb a.number x.number ≡ false = (let m = h.0 in not_less a.number x.number m) in
    rw l (ap (λ ys. x ∷ ys) (in_place_last a xs h.1))
  where
    not_less : (m n : ℕ) → n < m → ltb m n ≡ false
    not_less m n l = grind arith

-- its number is new
pub new_last : (n : ℕ) (xs : List App) → AreBelow n xs → first_where (is_app n) xs ≡ None
new_last n [] h = refl
new_last n (x ∷ xs) h =
    let l : eqb x.number n ≡ false = (let m = h.0 in other_number x.number n (λ e. omega arith)) in
    rw l (new_last n xs h.1)

-- those that stay lie below the first of the others
pub below_first : (xs : List App) (a : App) (later : List App) → AreBefore xs (a ∷ later) → AreBelow a.number xs
below_first [] a later h = tt
below_first (x ∷ xs) a later h = (h.0.0, below_first xs a later h.1)

pub before_rest : (xs : List App) (a : App) (later : List App) → AreBefore xs (a ∷ later) → AreBefore xs later
before_rest [] a later h = tt
before_rest (x ∷ xs) a later h = (h.0.1, before_rest xs a later h.1)

before_more : (xs : List App) (b : App) (later : List App) → AreBefore xs later → AreAbove (λ x. x.number) b.number later → AreBefore (xs ++ b ∷ []) later
before_more [] b later h l = (l, tt)
before_more (x ∷ xs) b later h l = (h.0, before_more xs b later h.1 l)

-- what stays of an app has its number
held_number : (error : List ℕ) (u : ℕ) (a b : App) → held_after_stream error u a ≡ Some b → b.number ≡ a.number
held_number error u a b h = number_if (eqb u 0) h
  where
    number_if : (c : Bool) → cond c None (Some (lingering error a)) ≡ Some b → b.number ≡ a.number
    number_if true e = absurd cc
    number_if false e = let m : lingering error a ≡ b = cc in sym (ap (λ x. x.number) m)

stays_number : (error : List ℕ) (st : AppState) (a b : App) → after_stream error st a ≡ Some b → b.number ≡ a.number
stays_number error Dialling a b h = absurd cc
stays_number error Open a b h = held_number error a.unwritten a b h
stays_number error Closing a b h = held_number error a.unwritten a b h
stays_number error Lingering a b h = let m : a ≡ b = cc in sym (ap (λ x. x.number) m)

-- one app was looked at
pub before_next : (error : List ℕ) (xs : List App) (a : App) (later : List App) → AreBefore xs (a ∷ later) → AreAbove (λ x. x.number) a.number later → AreBefore (xs ++ kept (after_stream error a.state a) []) later
before_next error xs a later h l = next_if (after_stream error a.state a) refl
  where
    next_if : (o : Option App) → after_stream error a.state a ≡ o → AreBefore (xs ++ kept o []) later
    next_if None e = subst (λ ys. AreBefore ys later) (sym (append-nil xs)) (before_rest xs a later h)
    next_if (Some b) e = before_more xs b later (before_rest xs a later h) (subst (λ n. AreAbove (λ x. x.number) n later) (sym (stays_number error a.state a b e)) l)

kept_apart : (o : Option App) (rest : List App) → kept o rest ≡ kept o [] ++ rest
kept_apart None rest = refl
kept_apart (Some a) rest = refl

told_apart : (error : List ℕ) (n : ℕ) (o : Option App) (rest : List ClientOut) → told_unless_kept error n o rest ≡ told_unless_kept error n o [] ++ rest
told_apart error n None rest = refl
told_apart error n (Some a) rest = refl

pub kept_more : (error : List ℕ) (xs next : List App) (a : App) (later all start : List App) → next ≡ xs ++ kept (after_stream error a.state a) [] → all ≡ a ∷ later → xs ++ apps_after error all ≡ start → next ++ apps_after error later ≡ start
kept_more error xs next a later all start n e h =
    rw n (append_assoc xs (kept (after_stream error a.state a) []) (apps_after error later)
    ∙ ap (λ ys. xs ++ ys) (sym (ap (apps_after error) e ∙ kept_apart (after_stream error a.state a) (apps_after error later))) ∙ h)

pub told_more : (error : List ℕ) (outs next : List ClientOut) (a : App) (later all : List App) (start : List ClientOut) → next ≡ outs ++ told_unless_kept error a.number (after_stream error a.state a) [] → all ≡ a ∷ later
    → outs ++ ends_told error all ≡ start → next ++ ends_told error later ≡ start
told_more error outs next a later all start n e h =
    rw n (append_assoc outs (told_unless_kept error a.number (after_stream error a.state a) []) (ends_told error later)
    ∙ ap (λ ys. outs ++ ys) (sym (ap (ends_told error) e ∙ told_apart error a.number (after_stream error a.state a) (ends_told error later))) ∙ h)

-- no app that was not there is there afterwards
none_kept : (n : ℕ) (a : App) (o : Option App) (rest : List App) → ((b : App) → o ≡ Some b → b.number ≡ a.number) → eqb a.number n ≡ false → first_where (is_app n) rest ≡ None → first_where (is_app n) (kept o rest) ≡ None
none_kept n a None rest s e h = h
none_kept n a (Some b) rest s e h = let m : eqb b.number n ≡ false = rw (s b refl) e in rw m h

pub none_after : (error : List ℕ) (n : ℕ) (xs : List App) → first_where (is_app n) xs ≡ None → first_where (is_app n) (apps_after error xs) ≡ None
none_after error n [] h = refl
none_after error n (a ∷ xs) h = none_here (eqb a.number n) refl h (λ l. none_after error n xs l)
  where
    none_here : (b : Bool) → eqb a.number n ≡ b → cond b (Some a) (first_where (is_app n) xs) ≡ None → (first_where (is_app n) xs ≡ None → first_where (is_app n) (apps_after error xs) ≡ None) → first_where (is_app n) (apps_after error (a ∷ xs)) ≡ None
    none_here true e i later = absurd cc
    none_here false e i later = none_kept n a (after_stream error a.state a) (apps_after error xs) (λ b j. stays_number error a.state a b j) e (later i)

pub stream_sound : (s t : ClientState) (error : List ℕ) → IsClientSound s → t.apps ≡ apps_after error s.apps → t.top_app ≡ s.top_app → IsClientSound t
stream_sound s t error sound apps top = record {
  few_apps = rw top sound.few_apps;
  apps_came = λ n l. rw apps (none_after error n s.apps (sound.apps_came n (omega arith)));
}
