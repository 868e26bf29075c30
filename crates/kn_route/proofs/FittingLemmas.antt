-- What fits a host is what the table says.
use Rattle.std.proofs.Common.{◌≡◌, ℕ, get_or, List, map, Option, Some, None, Bool, true, false, refl, sym, ap, ◌∙◌, subst, eqb-true, eq-eqb}
use Rattle.std.specs.Prelude.{bytes_eq, codes}
use Rattle.std.specs.Char.{to_ascii_lowercase}
use Rattle.std.proofs.lemmas.Bool.{false≢true}
use Rattle.std.proofs.lemmas.Slice.Eq.{bytes_eq-Decides}
use Rattle.std.proofs.lemmas.List.Folds.{Any-from_list_any, list_any-from_Any}
use Rattle.kn_route.specs.declared.address.Address.{Address}
use Rattle.kn_route.specs.declared.address.Address.TheVariants.{V4, V6}
use Rattle.kn_route.specs.declared.address.Range.{Range}
use Rattle.kn_route.specs.declared.id_kind.IdKind.{IdKind}
use Rattle.kn_route.specs.declared.id_kind.IdKind.TheVariants.{Ipv4, Ipv6, Host, Cidr, Uid, DefaultRoute}
use Rattle.kn_route.specs.declared.strategy.Strategy.{Strategy}
use Rattle.kn_route.specs.declared.strategy.Strategy.TheVariants.{DestHost, DefaultRoute as ByDefaultRoute, Default}
use Rattle.kn_route.specs.declared.link.Link.{Link}
use Rattle.kn_route.specs.Addresses.{IsAddress, address_in}
use Rattle.kn_route.specs.Ranges.{range_in}
use Rattle.kn_route.specs.Meanings.{fits, is_default_route, meets, meaning_of_v4, meaning_of_v6, meaning_of_range, is_every_dial}
use Rattle.kn_route.specs.Choice.{is_of}
use Rattle.kn_route.specs.Fitting.{Speaks, IsOf, AreSameV4, AreSameV6, IsInRange}
use Rattle.kn_route.proofs.AddressLemmas.{address_in-sound, address_in-complete}
use Rattle.kn_route.proofs.RangeLemmas.{range_in-sound, range_in-complete}

v4_speaks : (host value : List ℕ) → fits host (Ipv4, value) ≡ true → AreSameV4 value host
v4_speaks host value h = go (address_in value) (address_in host) refl refl h where
  go : (own other : Option Address) → address_in value ≡ own → address_in host ≡ other → meets (meaning_of_v4 own) value host other ≡ true → AreSameV4 value host
  go (Some (V4 n)) (Some (V4 m)) is_own is_other same =
      (n, address_in-sound value (V4 n) is_own, subst (λ k. IsAddress host (V4 k)) (sym (eqb-true n m same)) (address_in-sound host (V4 m) is_other))
  go (Some (V4 n)) (Some (V6 m)) is_own is_other same = absurd (false≢true same)
  go (Some (V4 n)) None is_own is_other same = absurd (false≢true same)
  go (Some (V6 n)) other is_own is_other same = absurd (false≢true same)
  go None other is_own is_other same = absurd (false≢true same)

v6_speaks : (host value : List ℕ) → fits host (Ipv6, value) ≡ true → AreSameV6 value host
v6_speaks host value h = go (address_in value) (address_in host) refl refl h where
  go : (own other : Option Address) → address_in value ≡ own → address_in host ≡ other → meets (meaning_of_v6 own) value host other ≡ true → AreSameV6 value host
  go (Some (V6 n)) (Some (V6 m)) is_own is_other same =
      (n, address_in-sound value (V6 n) is_own, subst (λ k. IsAddress host (V6 k)) (sym (eqb-true n m same)) (address_in-sound host (V6 m) is_other))
  go (Some (V6 n)) (Some (V4 m)) is_own is_other same = absurd (false≢true same)
  go (Some (V6 n)) None is_own is_other same = absurd (false≢true same)
  go (Some (V4 n)) other is_own is_other same = absurd (false≢true same)
  go None other is_own is_other same = absurd (false≢true same)

range_speaks : (host value : List ℕ) → fits host (Cidr, value) ≡ true → IsInRange value host
range_speaks host value h = go (range_in value) (address_in host) refl refl h where
  go : (own : Option Range) (other : Option Address) → range_in value ≡ own → address_in host ≡ other → meets (meaning_of_range own) value host other ≡ true → IsInRange value host
  go (Some r) (Some a) is_own is_other same = (r, a, range_in-sound value r is_own, address_in-sound host a is_other, same)
  go (Some r) None is_own is_other same = absurd (false≢true same)
  go None other is_own is_other same = absurd (false≢true same)

flag_speaks_of_none : (host value : List ℕ) → fits host (DefaultRoute, value) ≡ false
flag_speaks_of_none host value = go (bytes_eq value (codes "true")) refl where
  go : (b : Bool) → bytes_eq value (codes "true") ≡ b → fits host (DefaultRoute, value) ≡ false
  go true e = rw e refl
  go false e = rw e refl

pub fits_speaks : (host value : List ℕ) (kind : IdKind) → fits host (kind, value) ≡ true → Speaks kind value host
fits_speaks host value Ipv4 h = v4_speaks host value h
fits_speaks host value Ipv6 h = v6_speaks host value h
fits_speaks host value Host h = (bytes_eq-Decides (map to_ascii_lowercase value) (map to_ascii_lowercase host)).0 h
fits_speaks host value Cidr h = range_speaks host value h
fits_speaks host value Uid h = absurd (false≢true h)
fits_speaks host value DefaultRoute h = absurd (false≢true (sym (flag_speaks_of_none host value) ∙ h))

pub speaks_fits : (host value : List ℕ) (kind : IdKind) → Speaks kind value host → fits host (kind, value) ≡ true
speaks_fits host value Ipv4 (n, own, other) = rw (address_in-complete value (V4 n) own, address_in-complete host (V4 n) other) (eq-eqb n n refl)
speaks_fits host value Ipv6 (n, own, other) = rw (address_in-complete value (V6 n) own, address_in-complete host (V6 n) other) (eq-eqb n n refl)
speaks_fits host value Host h = (bytes_eq-Decides (map to_ascii_lowercase value) (map to_ascii_lowercase host)).1 h
speaks_fits host value Cidr (r, a, own, other, within) = rw (range_in-complete value r own, address_in-complete host a other) within
speaks_fits host value Uid h = absurd h
speaks_fits host value DefaultRoute h = absurd h

-- ---- links

-- the pair is `default-route` with the value `true`
abbrev IsEvery : IdKind → List ℕ → Type 0
IsEvery kind value = ◌≡◌ {A = IdKind × List ℕ} (kind, value) (DefaultRoute, codes "true")

every_dial : (kind : IdKind) (value : List ℕ) → is_default_route (kind, value) ≡ true → IsEvery kind value
every_dial Ipv4 value h = go (address_in value) h where
  go : (own : Option Address) → is_every_dial (meaning_of_v4 own) ≡ true → IsEvery Ipv4 value
  go (Some (V4 n)) e = absurd (false≢true e)
  go (Some (V6 n)) e = absurd (false≢true e)
  go None e = absurd (false≢true e)
every_dial Ipv6 value h = go (address_in value) h where
  go : (own : Option Address) → is_every_dial (meaning_of_v6 own) ≡ true → IsEvery Ipv6 value
  go (Some (V4 n)) e = absurd (false≢true e)
  go (Some (V6 n)) e = absurd (false≢true e)
  go None e = absurd (false≢true e)
every_dial Host value h = absurd (false≢true h)
every_dial Cidr value h = go (range_in value) h where
  go : (own : Option Range) → is_every_dial (meaning_of_range own) ≡ true → IsEvery Cidr value
  go (Some r) e = absurd (false≢true e)
  go None e = absurd (false≢true e)
every_dial Uid value h = absurd (false≢true h)
every_dial DefaultRoute value h = go (bytes_eq value (codes "true")) refl where
  go : (b : Bool) → bytes_eq value (codes "true") ≡ b → IsEvery DefaultRoute value
  go true e = ap (λ v. let p : IdKind × List ℕ = (DefaultRoute, v) in p) ((bytes_eq-Decides value (codes "true")).0 e)
  go false e = absurd (false≢true (rw e at h))

pub link_is_of : (strategy : Strategy) (host : List ℕ) (link : Link) → is_of strategy host link ≡ true → IsOf strategy host link
link_is_of DestHost host link h =
    let (k, pair, inside, here, fit) = Any-from_list_any (fits host) link.identifiers h in
    (k, pair, inside, here, fits_speaks host pair.1 pair.0 fit)
link_is_of ByDefaultRoute host link h =
    let (k, pair, inside, here, every) = Any-from_list_any is_default_route link.identifiers h in
    (k, inside, subst (λ p. get_or link.identifiers k p ≡ p) (every_dial pair.0 pair.1 every) here)
link_is_of Default host link h = tt

pub of_link : (strategy : Strategy) (host : List ℕ) (link : Link) → IsOf strategy host link → is_of strategy host link ≡ true
of_link DestHost host link (k, pair, inside, here, speaks) =
    list_any-from_Any (fits host) link.identifiers (k, pair, inside, here, speaks_fits host pair.1 pair.0 speaks)
of_link ByDefaultRoute host link (k, inside, here) =
    list_any-from_Any is_default_route link.identifiers (k, (DefaultRoute, codes "true"), inside, here, refl)
of_link Default host link h = refl
