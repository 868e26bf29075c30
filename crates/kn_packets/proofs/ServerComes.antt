-- A link or a front that comes up keeps the facts on keys.
use Rattle.std.proofs.Common.{◌≡◌, ◌==◌, ◌||◌, ℕ, pos, Bool, true, false, cond, ltb, List, [], ◌∷◌, refl, ap, ◌∙◌, eqb-true, append-nil}
use Rattle.std.specs.List.{list_any}
use Rattle.std.proofs.lemmas.List.Folds.{list_any-append}
use Rattle.kn_route.specs.declared.id_kind.IdKind.{IdKind}
use Rattle.kn_route.specs.LinkLists.{has_link, is_link}
use Rattle.kn_tables.specs.Lists.{in_place}
use Rattle.kn_server_core.specs.declared.event.ServerEvent.TheVariants.{FrontUp, LinkUp}
use Rattle.kn_server_core.specs.Server.{front_added, link_added}
use Rattle.kn_server_core.proofs.OrderLemmas.{any_put}
use Rattle.kn_server_core.proofs.ReachedLemmas.{orderly_kept}
use Rattle.kn_server_core.proofs.TunnelTables.{false_unless}
use Rattle.kn_tunnel.specs.Kinds.{is_present}
use Rattle.kn_tunnel.specs.Tunnel.{Front, Present}
use Rattle.kn_packets.specs.Keys.{Keys}
use Rattle.kn_packets.specs.Moves.{FrontComes, LinkComes, May, after}
use Rattle.kn_packets.specs.World.{World}
use Rattle.kn_packets.proofs.Arrivals.{front_comes_lifts, link_comes_lifts}
use Rattle.kn_packets.proofs.Fresh.{eqb_refl}
use Rattle.kn_packets.proofs.ServerCalm.{Calm, NoDial, calm_keeps}
use Rattle.kn_packets.proofs.ServerKept.{Before, Remains}
use Rattle.kn_packets.proofs.Taken.{or_false}

-- ---- the world as it is
abbrev pub now : World → Before
now w = record {
  links = λ i. (w.links i).server;
  ups = λ i. (w.links i).up;
  downs = λ i. (w.links i).down;
  fronts = λ i. (w.streams i).front;
  ins = λ i. (w.streams i).up;
  outs = λ i. (w.streams i).down;
}

-- all lists as they are
pub all_remains : (w : World) (L F : ℕ → Front) → Remains w (record (now w) { links = L; fronts = F })
all_remains w L F = record { ups = λ i. ([], refl); downs = λ i. ([], append-nil (w.links i).down); ins = λ i. ([], refl); outs = λ i. ([], append-nil (w.streams i).down) }

pub no_outs : NoDial []
no_outs = record { uncut = λ l. refl; made = λ i own D. refl; new = λ d x. refl }

pub other_way : (i l : ℕ) → (i == l) ≡ false → (l == i) ≡ false
other_way i l off = false_unless (l == i) (λ e. let same : l ≡ i = eqb-true l i e in let yes : (i == l) ≡ true = ap (λ n. i == n) same ∙ eqb_refl i in cc)

or_left : (b c : Bool) → b ≡ true → (b || c) ≡ true
or_left true c h = refl
or_left false c h = absurd cc

any_new : {E : Type 0} (number : E → ℕ) (p : E → Bool) (e : E) (xs : List E) → p e ≡ true → list_any p (in_place number e xs) ≡ true
any_new number p e [] h = or_left (p e) false h
any_new number p e (x ∷ xs) h = here (ltb (number e) (number x)) (any_new number p e xs h)
  where
    or_right : (b c : Bool) → c ≡ true → (b || c) ≡ true
    or_right true c h = refl
    or_right false c h = h

    here : (b : Bool) → list_any p (in_place number e xs) ≡ true → list_any p (cond b (e ∷ x ∷ xs) (x ∷ in_place number e xs)) ≡ true
    here true later = or_left (p e) (p x || list_any p xs) h
    here false later = or_right (p x) (list_any p (in_place number e xs)) later

pub link_comes_keeps : (w : World) (l : ℕ) (identifiers : List (IdKind × List ℕ)) → Keys w → May (LinkComes l identifiers) w → Keys (after (LinkComes l identifiers) w)
link_comes_keeps w l identifiers keys may = calm_keeps w (pos 0) (link_added w.server l identifiers) b keys calm (link_comes_lifts w l identifiers may)
  where
    b : Before
    b = record (now w) { links = λ i. cond (i == l) Present (w.links i).server }

    linked : (i : ℕ) (c : Bool) → (i == l) ≡ c → (has_link i w.server.links || ((l == i) || false)) ≡ is_present (cond c Present (w.links i).server)
    linked i true on = rw (eqb-true i l on, eqb_refl l) (or_true (has_link l w.server.links))
      where
        or_true : (b : Bool) → (b || true) ≡ true
        or_true true = refl
        or_true false = refl
    linked i false off = rw (other_way i l off) (or_false (has_link i w.server.links)) ∙ keys.server.links_up i

    calm : Calm w (link_added w.server l identifiers) b
    calm = record {
      remains = all_remains w (λ i. cond (i == l) Present (w.links i).server) (λ i. (w.streams i).front);
      orderly = orderly_kept w.server (LinkUp l identifiers) keys.server.orderly;
      undrawn = no_outs;
      links = λ i. list_any-append (is_link i) w.server.links.links _ ∙ linked i (i == l) refl;
      fronts = keys.server.fronts_up;
      number = refl;
      awaited = keys.server.awaited;
      held = keys.server.held;
      to_links = λ i. tt;
      to_fronts = λ f. tt;
      outward = λ k came there. tt;
      down = λ k d came de there. tt;
    }

pub front_comes_keeps : (w : World) (f : ℕ) → Keys w → May (FrontComes f) w → Keys (after (FrontComes f) w)
front_comes_keeps w f keys may = calm_keeps w (pos 0) (front_added w.server f) b keys calm (front_comes_lifts w f may)
  where
    b : Before
    b = record (now w) { fronts = λ i. cond (i == f) Present (w.streams i).front }

    fronted : (i : ℕ) (c : Bool) → (i == f) ≡ c → is_present (cond c Present (w.streams i).front) ≡ true → list_any (λ x. x == i) (in_place (λ x. x) f w.server.fronts.fronts) ≡ true
    fronted i true on h = any_new (λ x. x) (λ x. x == i) f w.server.fronts.fronts (ap (λ n. f == n) (eqb-true i f on) ∙ eqb_refl f)
    fronted i false off h = any_put (λ x. x) (λ x. x == i) f w.server.fronts.fronts (keys.server.fronts_up i h)

    calm : Calm w (front_added w.server f) b
    calm = record {
      remains = all_remains w (λ i. (w.links i).server) (λ i. cond (i == f) Present (w.streams i).front);
      orderly = orderly_kept w.server (FrontUp f) keys.server.orderly;
      undrawn = no_outs;
      links = keys.server.links_up;
      fronts = λ i. fronted i (i == f) refl;
      number = refl;
      awaited = keys.server.awaited;
      held = keys.server.held;
      to_links = λ i. tt;
      to_fronts = λ g. tt;
      outward = λ k came there. tt;
      down = λ k d came de there. tt;
    }
