-- The outputs of the server to one client, in the packet world; and to whom a front belongs.
use Rattle.std.proofs.Common.{◌≡◌, ◌==◌, ◌&&◌, ◌||◌, ℕ, Bool, true, false, cond, List, [], ◌∷◌, Option, Some, None, refl, sym, ap, ◌∙◌, eqb-true}
use Rattle.std.proofs.lemmas.Bool.{eq-eqb}
use Rattle.std.specs.Option.{option_map}
use Rattle.kn_packet.specs.declared.packet.Packet.{Packet}
use Rattle.kn_server_core.specs.FrontLists.{FrontList}
use Rattle.kn_server_core.specs.declared.event.ServerOut.{ServerOut}
use Rattle.kn_server_core.specs.declared.event.ServerOut.TheVariants as out
use Rattle.kn_tunnel.specs.Tunnel.{Phase}
use Rattle.kn_packets.specs.Outputs.{all_answered, all_finish, finishes, for_front, more_if, queued}
use Rattle.kn_world.specs.declared.parts.App.{App}
use Rattle.kn_world.specs.declared.parts.Client.{Client}
use Rattle.kn_world.specs.declared.parts.Home.TheVariants as home
use Rattle.kn_world.specs.declared.parts.Owner.{Owner}
use Rattle.kn_world.specs.declared.parts.Owner.TheVariants as owner
use Rattle.kn_world.specs.Clients as clients
use Rattle.kn_world.specs.Numbers.{nth}
use Rattle.kn_refinement.specs.Fits.{FrontFits}
use Rattle.kn_refinement.specs.Shown.{client_of, client_stream}
use Rattle.kn_refinement.proofs.ServerOutputs.{client_after, client_given, is_app, is_client}

-- ---- tests that agree
pub same_test : (b c : Bool) → (b ≡ true → c ≡ true) → (c ≡ true → b ≡ true) → b ≡ c
same_test true true there back = refl
same_test true false there back = sym (there refl)
same_test false true there back = back refl
same_test false false there back = refl

pub number_same : (m n : ℕ) → m ≡ n → (m == n) ≡ true
number_same m n e = eq-eqb m n e

-- ---- packets that nobody takes
pub queued_gone : (xs ps : List Packet) → queued false xs ps ≡ xs
queued_gone xs [] = refl
queued_gone xs (p ∷ ps) = queued_gone xs ps

pub queued_empty : (there : Bool) (ps : List Packet) → ps ≡ [] → queued there [] ps ≡ []
queued_empty there ps e = ap (queued there []) e

pub unfinished : (ps : List Packet) (b : Bool) → all_finish false ps b ≡ b
unfinished [] b = refl
unfinished (p ∷ ps) b = unfinished ps (b || (finishes p && false)) ∙ here (finishes p) b
  where
    here : (c d : Bool) → (d || (c && false)) ≡ d
    here true true = refl
    here true false = refl
    here false true = refl
    here false false = refl

pub unanswered : (ps : List Packet) (phase : Phase) → all_answered false ps phase ≡ phase
unanswered [] phase = refl
unanswered (p ∷ ps) phase = unanswered ps phase

-- ---- whose a front is
pub client_owns : (c : ℕ) (o : Option Owner) → is_client c o ≡ true → o ≡ Some (owner.Client c)
client_owns c None h = absurd cc
client_owns c (Some (owner.Client other)) h = ap (λ n. Some (owner.Client n)) (sym (eqb-true c other h))
client_owns c (Some (owner.App k)) h = absurd cc

pub app_owns : (k : ℕ) (o : Option Owner) → is_app k o ≡ true → o ≡ Some (owner.App k)
app_owns k None h = absurd cc
app_owns k (Some (owner.Client c)) h = absurd cc
app_owns k (Some (owner.App other)) h = ap (λ n. Some (owner.App n)) (sym (eqb-true k other h))

pub some_same : {X : Type 0} {x y : X} → Some x ≡ Some y → x ≡ y
some_same e = cc

module _ (cs : List Client) (ks : List App) (fronts : List Owner) (up : FrontList) (fits : FrontFits cs ks fronts up) where
  -- a client has one front
  pub client_front : (f c : ℕ) → nth f fronts ≡ Some (owner.Client c) → (front : ℕ) → is_client c (nth front fronts) ≡ (f == front)
  client_front f c e front = same_test (is_client c (nth front fronts)) (f == front)
      (λ h. let x = fits.of_client f c e in let y = fits.of_client front c (client_owns c (nth front fronts) h) in
      let z : x.0 ≡ y.0 = some_same (sym x.1 ∙ y.1) in
      number_same f front (sym x.2 ∙ ap (λ (v : Client). v.front) z ∙ y.2))
      (λ h. let z : f ≡ front = eqb-true f front h in
      ap (is_client c) (sym (ap (λ n. nth n fronts) z) ∙ e) ∙ number_same c c refl)

  pub app_front : (f k : ℕ) → nth f fronts ≡ Some (owner.App k) → (front : ℕ) → is_app k (nth front fronts) ≡ (f == front)
  app_front f k e front = same_test (is_app k (nth front fronts)) (f == front)
      (λ h. let x = fits.of_app f k e in let y = fits.of_app front k (app_owns k (nth front fronts) h) in
      let z : x.0 ≡ y.0 = some_same (sym x.1 ∙ y.1) in
      number_same f front (sym x.3 ∙ ap (λ (v : App). v.door.number) z ∙ y.3))
      (λ h. let z : f ≡ front = eqb-true f front h in
      ap (is_app k) (sym (ap (λ n. nth n fronts) z) ∙ e) ∙ number_same k k refl)

  -- an app of a client has none, nor one by CONNECT before its head is whole
  pub client_app_front : (k c n : ℕ) (a : App) → nth k ks ≡ Some a → a.home ≡ home.Client c n → (front : ℕ) → is_app k (nth front fronts) ≡ false
  client_app_front k c n a e h front = here (is_app k (nth front fronts)) refl
    where
      here : (b : Bool) → is_app k (nth front fronts) ≡ b → b ≡ false
      here true i = let x = fits.of_app front k (app_owns k (nth front fronts) i) in
          let z : x.0 ≡ a = some_same (sym x.1 ∙ e) in
          let y : home.Connect ≡ home.Client c n = sym x.2 ∙ ap (λ (v : App). v.home) z ∙ h in absurd cc
      here false i = refl

  pub unheard_front : (k : ℕ) (a : App) → nth k ks ≡ Some a → a.door.number ≡ 0 → (front : ℕ) → is_app k (nth front fronts) ≡ false
  unheard_front k a e h front = here (is_app k (nth front fronts)) refl
    where
      here : (b : Bool) → is_app k (nth front fronts) ≡ b → b ≡ false
      here true i = let own = app_owns k (nth front fronts) i in
          let x = fits.of_app front k own in
          let z : x.0 ≡ a = some_same (sym x.1 ∙ e) in
          let y : front ≡ 0 = sym x.3 ∙ ap (λ (v : App). v.door.number) z ∙ h in
          let none : nth front fronts ≡ None = ap (λ n. nth n fronts) y in absurd (cc (none, own))
      here false i = refl

-- ---- a client
end_given : (fronts : List Owner) (o : ServerOut) (c : ℕ) (x : Client) → (client_given fronts o c x).at_client ≡ x.at_client
end_given fronts (out.ToFront front p) c x = here (is_client c (nth front fronts)) x.at_client
  where
    here : (b there : Bool) → (cond b (clients.with_down there p x) x).at_client ≡ x.at_client
    here true true = refl
    here true false = refl
    here false there = refl
end_given fronts (out.ToLink link p) c x = refl
end_given fronts (out.CutLink link) c x = refl
end_given fronts (out.Made dial link front) c x = refl

-- but for its stream's list it is as it was
with_packets : Client → List Packet → Client
with_packets x ps = record x { down = ps }

queued_one : (there b : Bool) (p : Packet) (x : Client) (ps : List Packet)
    → with_packets (cond b (clients.with_down there p x) x) (queued there (cond b (clients.with_down there p x) x).down ps) ≡ with_packets x (queued there x.down (more_if b p ps))
unfolding with_packets
queued_one true true p x ps = refl
queued_one false true p x ps = refl
queued_one there false p x ps = refl

one_given : (fronts : List Owner) (o : ServerOut) (os : List ServerOut) (c f : ℕ) (x : Client) → ((front : ℕ) → is_client c (nth front fronts) ≡ (f == front))
    → with_packets (client_given fronts o c x) (queued x.at_client (client_given fronts o c x).down (for_front f os)) ≡ with_packets x (queued x.at_client x.down (for_front f (o ∷ os)))
one_given fronts (out.ToFront front p) os c f x own = queued_one x.at_client (is_client c (nth front fronts)) p x (for_front f os) ∙ ap (λ b. with_packets x (queued x.at_client x.down (more_if b p (for_front f os)))) (own front)
one_given fronts (out.ToLink link p) os c f x own = refl
one_given fronts (out.CutLink link) os c f x own = refl
one_given fronts (out.Made dial link front) os c f x own = refl

all_given : (fronts : List Owner) (os : List ServerOut) (c f : ℕ) (x : Client) → ((front : ℕ) → is_client c (nth front fronts) ≡ (f == front))
    → client_after fronts os c x ≡ with_packets x (queued x.at_client x.down (for_front f os))
unfolding with_packets
all_given fronts [] c f x own = refl
all_given fronts (o ∷ os) c f x own =
    all_given fronts os c f (client_given fronts o c x) own
    ∙ ap (λ b. with_packets (client_given fronts o c x) (queued b (client_given fronts o c x).down (for_front f os))) (end_given fronts o c x)
    ∙ one_given fronts o os c f x own

pub client_is : (fronts : List Owner) (os : List ServerOut) (c f : ℕ) (x : Client) → ((front : ℕ) → is_client c (nth front fronts) ≡ (f == front))
    → client_after fronts os c x ≡ record x { down = queued x.at_client x.down (for_front f os) }
unfolding with_packets
client_is fronts os c f x own = all_given fronts os c f x own

-- ---- as it is shown
core_given : (fronts : List Owner) (o : ServerOut) (c : ℕ) (x : Client) → (client_given fronts o c x).core ≡ x.core
core_given fronts (out.ToFront front p) c x = here (is_client c (nth front fronts)) x.at_client
  where
    here : (b there : Bool) → (cond b (clients.with_down there p x) x).core ≡ x.core
    here true true = refl
    here true false = refl
    here false there = refl
core_given fronts (out.ToLink link p) c x = refl
core_given fronts (out.CutLink link) c x = refl
core_given fronts (out.Made dial link front) c x = refl

pub client_core_after : (fronts : List Owner) (os : List ServerOut) (c : ℕ) (x : Client) → (client_after fronts os c x).core ≡ x.core
client_core_after fronts [] c x = refl
client_core_after fronts (o ∷ os) c x = client_core_after fronts os c (client_given fronts o c x) ∙ core_given fronts o c x

pub client_shown : (fronts : List Owner) (os : List ServerOut) (c : ℕ) (o : Option Client) → client_of (option_map (client_after fronts os c) o) ≡ client_of o
client_shown fronts os c None = refl
client_shown fronts os c (Some x) = client_core_after fronts os c x

pub stream_shown : (fronts : List Owner) (os : List ServerOut) (c f : ℕ) (o : Option Client) → ((front : ℕ) → is_client c (nth front fronts) ≡ (f == front))
    → client_stream c (option_map (client_after fronts os c) o)
    ≡ record (client_stream c o) {
      down = queued (client_stream c o).client (client_stream c o).down (for_front f os);
      finished = all_finish (client_stream c o).connect (for_front f os) (client_stream c o).finished;
    }
stream_shown fronts os c f None own = rw (queued_gone [] (for_front f os), unfinished (for_front f os) false) refl
stream_shown fronts os c f (Some x) own = rw (client_is fronts os c f x own, unfinished (for_front f os) false) refl
