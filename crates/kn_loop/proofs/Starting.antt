-- What holds where a node begins.
use Rattle.std.proofs.Common.{◌≡◌, ℕ, ◌==◌, ◌+◌, Bool, true, false, not, ◌&&◌, List, [], ◌∷◌, ◌<◌, ◌≤◌, None, Some, sym, refl, ap, ◌∙◌, subst, cond, eqb, arith}
use Rattle.std.specs.Prelude.{Option, is_some, if◌then◌else◌}
use Rattle.kn_port.specs.declared.entry.Entry.{Entry}
use Rattle.kn_port.specs.Journal.{is_open}
use Rattle.kn_loop.specs.declared.line.Line.{Line}
use Rattle.kn_loop.specs.declared.gates.Gates.{Gates}
use Rattle.kn_loop.specs.declared.course.Course.{Course}
use Rattle.kn_loop.specs.declared.watch.Watch.{Watch}
use Rattle.kn_loop.specs.Kept.{line_of, is_in}
use Rattle.kn_loop.specs.Watch.{new_line}
use Rattle.kn_loop.specs.Known.{Given, Begins, Starts, IsNew, IsAtHand, bare_watch}
use Rattle.kn_loop.specs.Calls.{Answers, unpaused}
use Rattle.kn_loop.specs.Turns.{Steady, AtHand, is_active}

no_copies : 0 ≤ 1
no_copies = omega arith

hand_none : (told : Option (List Entry)) → AtHand told (line_of [])
hand_none None = tt
hand_none (Some es) = λ c h. cc

and_first : (b x : Bool) → (b && x) ≡ true → b ≡ true
and_first true x h = refl
and_first false x h = h

first_conn : (n c : ℕ) → (n == c) ≡ true → n ≡ c
first_conn n c e = grind arith

first_line : (n c : ℕ) (t : Bool) (x l : Option Line) → (n == c) ≡ t → l ≡ (if n == c then x else None) → l ≡ (if t then x else None)
first_line n c t x l e f = f ∙ ap (λ b. if b then x else None) e

idle_first : (a : Answers) → a.shuts ≡ false → is_active (Some (new_line true true)) a ≡ true → true ≡ false
idle_first a e h = sym (and_first a.shuts (not a.has_out) h) ∙ e

covers_first : (n c : ℕ) (t : Bool) (l : Option Line) (a : Answers) → (n == c) ≡ t → l ≡ (if n == c then Some (new_line true true) else None) → ((n == c) ≡ true → a.shuts ≡ false)
    → is_active l a ≡ true → is_in [] c ≡ true
covers_first n c true l a e f quiet h =
    let no : true ≡ false = idle_first a (quiet e) (subst (λ y. is_active y a ≡ true) (first_line n c true (Some (new_line true true)) l e f) h) in cc
covers_first n c false l a e f quiet h = subst (λ y. is_active y a ≡ true) (first_line n c false (Some (new_line true true)) l e f) h

given_first : (n c top : ℕ) (t : Bool) (x l : Option Line) → (n == c) ≡ t → l ≡ (if n == c then x else None) → 0 < n → top ≡ n → (m : Line) → l ≡ Some m → (0 < c) × (c ≤ top)
given_first n c top true x l e f some given m h = let same : n ≡ c = first_conn n c e in (omega arith, omega arith)
given_first n c top false x l e f some given m h = let no : None ≡ Some m = sym (first_line n c false x l e f) ∙ h in cc

open_first : (n c : ℕ) (t : Bool) (x l : Option Line) (es : List Entry) → (n == c) ≡ t → l ≡ (if n == c then x else None) → is_open es n ≡ true → is_some l ≡ true → is_open es c ≡ true
open_first n c true x l es e f hand h = subst (λ k. is_open es k ≡ true) (first_conn n c e) hand
open_first n c false x l es e f hand h = let no : false ≡ true = subst (λ y. is_some y ≡ true) (first_line n c false x l e f) h in cc

hand_first : (n : ℕ) (x : Option Line) (lines : ℕ → Option Line) (told : Option (List Entry)) → ((c : ℕ) → lines c ≡ (if n == c then x else None)) → IsAtHand (Some n) told → AtHand told lines
hand_first n x lines None f hand = tt
hand_first n x lines (Some es) f hand = λ c h. open_first n c (n == c) x (lines c) es refl (f c) hand h

bare_steady : (gates : Gates) (drain : ℕ) (course : Course) (top drawn : ℕ) (said : ℕ → Answers) (told : Option (List Entry)) → top ≤ drawn → Steady [] [] (bare_watch gates drain course) said top drawn told
bare_steady gates drain course top drawn said told below = record {
  rests = record { covers = λ c h. h; busy = tt };
  single = λ c. no_copies;
  asleep = refl;
  given = record { lines = λ c l h. cc; held = omega arith; below = below };
  hand = hand_none told;
}

pub starts_steady : (server : Option ℕ) (gates : Gates) (drain : ℕ) (course : Course) (w : Watch) (top drawn : ℕ) (said : ℕ → Answers) (told : Option (List Entry))
    → Starts server gates drain course w → IsNew server top said → top ≤ drawn → IsAtHand server told → Steady [] [] w said top drawn told
starts_steady None gates drain course w top drawn said told starts fresh below hand =
    subst (λ v. Steady [] [] v said top drawn told) (sym starts) (bare_steady gates drain course top drawn said told below)
starts_steady (Some n) gates drain course w top drawn said told starts fresh below hand = record {
  rests = record {
    covers = λ c h. covers_first n c (n == c) (line_of w.lines c) (unpaused said c) refl (starts.lines c) (λ e. subst (λ k. (said k).shuts ≡ false) (first_conn n c e) fresh.2) h;
    busy = tt;
  };
  single = λ c. no_copies;
  asleep = refl;
  given = record {
    lines = λ c l h. given_first n c top (n == c) (Some (new_line true true)) (line_of w.lines c) refl (starts.lines c) fresh.0 fresh.1 l h;
    held = let one : w.held ≡ 0 + 1 = starts.held in let some : 0 < n = fresh.0 in let same : top ≡ n = fresh.1 in omega arith;
    below = below;
  };
  hand = hand_first n (Some (new_line true true)) (line_of w.lines) told starts.lines hand;
}
