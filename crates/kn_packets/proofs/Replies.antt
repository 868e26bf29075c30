-- The awaited dial that a reply is for.
use Rattle.std.proofs.Common.{◌≡◌, ◌==◌, ◌≤◌, ℕ, ℤ, pos, negsuc, Bool, true, false, cond, ltb, List, ◌∷◌, length, take, Option, Some, None, refl, sym, ap, ◌∙◌, eqb-true, arith}
use Rattle.std.proofs.lemmas.Bool.Decides.{Decides-ltb}
use Rattle.kn_tables.specs.Lists.{first_where, without}
use Rattle.kn_tables.specs.Awaiting.{is_dial}
use Rattle.kn_tables.specs.Holding.{is_held_dial}
use Rattle.kn_tables.specs.declared.awaited_entry.AwaitedEntry.{AwaitedEntry}
use Rattle.kn_server_core.specs.Server.{dial_at, of_link}
use Rattle.kn_server_core.specs.Texts.{error_cut, last_start}
use Rattle.kn_server_core.proofs.SoundLemmas.{passes}
use Rattle.kn_words.specs.Numbers.{is_drawn_number, is_number}
use Rattle.kn_packets.specs.Keys.{Keys}
use Rattle.kn_packets.specs.Outputs.{asks}
use Rattle.kn_packets.specs.World.{World}
use Rattle.kn_packets.proofs.Fresh.{eqb_refl}
use Rattle.kn_packets.proofs.Tables.{gone_without, kept_without}

-- a short error is passed on whole
pub whole_error : (x : ℕ) (xs : List ℕ) → length (x ∷ xs) ≤ 256 → error_cut (x ∷ xs) ≡ x ∷ xs
whole_error x xs h = here (ltb 256 (length (x ∷ xs))) refl
  where
    here : (b : Bool) → ltb 256 (length (x ∷ xs)) ≡ b → cond b (take (last_start (x ∷ xs) 256) (x ∷ xs)) (x ∷ xs) ≡ x ∷ xs
    here true e = absurd (omega (arith, h, (Decides-ltb 256 (length (x ∷ xs))).0 e))
    here false e = refl

pub number_is : (d : ℕ) (z : ℤ) → is_number d z ≡ true → z ≡ pos d
number_is d (pos m) e = ap pos (eqb-true m d e)
number_is d (negsuc m) e = absurd cc

pub record IsFor (w : World) (l : ℕ) (random : ℤ) (e : AwaitedEntry) : Type 0 where
  pub at : first_where (is_dial e.dial) w.server.awaited ≡ Some e
  pub link : e.link ≡ l
  pub named : random ≡ pos e.dial

module _ (w : World) (keys : Keys w) (l : ℕ) where
  on_link : (o : Option AwaitedEntry) (e : AwaitedEntry) → of_link l o ≡ Some e → (o ≡ Some e) × (e.link ≡ l)
  on_link None e h = absurd cc
  on_link (Some x) e h = here (x.link == l) refl h
    where
      here : (b : Bool) → (x.link == l) ≡ b → cond b (Some x) None ≡ Some e → (Some x ≡ Some e) × (e.link ≡ l)
      here true t h = let m : x ≡ e = cc in (ap Some m, ap (λ (y : AwaitedEntry). y.link) (sym m) ∙ eqb-true x.link l t)
      here false t h = absurd cc

  pub found_awaited : (random : ℤ) (e : AwaitedEntry) → of_link l (dial_at random w.server.awaited) ≡ Some e → IsFor w l random e
  found_awaited (pos d) e h =
      let two = on_link (first_where (is_dial d) w.server.awaited) e h in
      let same : e.dial ≡ d = eqb-true e.dial d (passes (is_dial d) e w.server.awaited two.0) in
      record { at = ap (λ n. first_where (is_dial n) w.server.awaited) same ∙ two.0; link = two.1; named = ap pos (sym same) }
  found_awaited (negsuc d) e h = absurd cc

  pub none_awaited : (random : ℤ) (d : ℕ) → of_link l (dial_at random w.server.awaited) ≡ None → random ≡ pos d → (w.dials d).link ≡ l → first_where (is_dial d) w.server.awaited ≡ None
  none_awaited random d h r on = here (first_where (is_dial d) w.server.awaited) refl (rw r at h)
    where
      here : (o : Option AwaitedEntry) → first_where (is_dial d) w.server.awaited ≡ o → of_link l o ≡ None → o ≡ None
      here None f h = refl
      here (Some a) f h = let link : a.link ≡ l = sym (keys.server.awaited d a f).link ∙ on in absurd (cc (rw (link, eqb_refl l) at h))

  -- the tables without it
  pub awaited_gone : (e : AwaitedEntry) → first_where (is_dial e.dial) w.server.awaited ≡ Some e → first_where (is_dial e.dial) (without (is_dial e.dial) w.server.awaited) ≡ None
  awaited_gone e at = gone_without (λ (x : AwaitedEntry). x.dial) (is_dial e.dial) e.dial e w.server.awaited keys.server.orderly.awaited_rise at at

  pub awaited_kept : (e : AwaitedEntry) (d : ℕ) → first_where (is_dial e.dial) w.server.awaited ≡ Some e → (e.dial == d) ≡ false → first_where (is_dial d) (without (is_dial e.dial) w.server.awaited) ≡ first_where (is_dial d) w.server.awaited
  awaited_kept e d at other = kept_without (is_dial d) (is_dial e.dial) e w.server.awaited at other

  pub awaited_unheld : (e : AwaitedEntry) → first_where (is_dial e.dial) w.server.awaited ≡ Some e → first_where (is_held_dial e.dial) w.server.held ≡ None
  awaited_unheld e at = keys.server.orderly.sound.apart e.dial (rw at refl)

  -- an app on its front whose dial is another did not ask for it
  pub not_asked : (e : AwaitedEntry) (k : ℕ) → first_where (is_dial e.dial) w.server.awaited ≡ Some e → (w.apps k).came ≡ true → (w.apps k).stream ≡ e.front → is_drawn_number (w.apps k).dial (pos e.dial) ≡ false
      → asks (w.streams (w.apps k).stream).connect (w.apps k).number e.random ≡ false
  not_asked e k at came on other = here (asks (w.streams (w.apps k).stream).connect (w.apps k).number e.random) refl
    where
      here : (b : Bool) → asks (w.streams (w.apps k).stream).connect (w.apps k).number e.random ≡ b → b ≡ false
      here false h = refl
      here true h =
          let own : (w.apps k).dial ≡ Some e.dial = (keys.server.awaited e.dial e at).app k came on h in
          let yes : is_drawn_number (w.apps k).dial (pos e.dial) ≡ true = rw (own, eqb_refl e.dial) refl in absurd (cc (yes, other))
