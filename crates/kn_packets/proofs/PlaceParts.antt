-- What packets speak of goes on as worlds grow.
use Rattle.std.proofs.Common.{◌≡◌, ◌<◌, ◌==◌, ℕ, ℤ, Bool, true, false, cond, List, [], ◌∷◌, Some, refl, sym, ◌∙◌, eqb-true, subst}
use Rattle.kn_packet.specs.declared.packet.Packet.{Packet}
use Rattle.kn_packet.specs.declared.packet.Packet.TheVariants.{CloseReq, CloseRsp, Data, DialCls, DialReq, DialRsp, Drain, Other}
use Rattle.kn_server_core.specs.Isolation.{Each}
use Rattle.kn_packets.specs.Keys.{HasApp}
use Rattle.kn_packets.specs.Owned.{HasDial}
use Rattle.kn_packets.specs.Places.{OfItsApps, Places, SpeaksOfLink, SpeaksOfStream, WasDrawn, WentTo}
use Rattle.kn_packets.specs.World.{World}
use Rattle.kn_packets.proofs.AgentKept.{each_as}

-- a dial that an app has keeps its link and its app, and what was drawn for it
pub record Grows (w next : World) : Type 0 where
  pub drawn : (l cid : ℕ) → HasDial w l cid → HasDial next l cid
  pub links : (d : ℕ) → HasApp w d → (next.dials d).link ≡ (w.dials d).link
  pub apps : (k d : ℕ) → (w.apps k).came ≡ true → (w.apps k).dial ≡ Some d → ((next.apps k).came ≡ true) × ((next.apps k).dial ≡ Some d)

-- an app of the stream f is one of the stream g
abbrev pub Moved : World → World → ℕ → ℕ → Type 0
Moved w next f g = (k : ℕ) → (w.apps k).came ≡ true → (w.apps k).stream ≡ f → (next.apps k).stream ≡ g

module _ (w next : World) (grows : Grows w next) where
  still_drawn : (l : ℕ) (z : ℤ) → WasDrawn w l z → WasDrawn next l z
  still_drawn l z h = (h.0, h.1, grows.drawn l h.0 h.2)

  still_has : (d : ℕ) → HasApp w d → HasApp next d
  still_has d h = let it = grows.apps h.0 d h.1 h.2 in (h.0, it.0, it.1)

  still_went : (l : ℕ) (z : ℤ) → WentTo w l z → WentTo next l z
  still_went l z h = (h.0, h.1, grows.links h.0 h.3 ∙ h.2, still_has h.0 h.3)

  pub link_more : (l : ℕ) (p : Packet) → SpeaksOfLink w l p → SpeaksOfLink next l p
  link_more l (DialRsp [] c r) h = still_drawn l c h
  link_more l (DialRsp (x ∷ xs) c r) h = (h.0, still_went l r h.1)
  link_more l (Data c error bytes) h = still_drawn l c h
  link_more l (CloseReq c) h = still_drawn l c h
  link_more l (CloseRsp error c) h = still_drawn l c h
  link_more l (DialReq protocol address random) h = tt
  link_more l (DialCls random) h = tt
  link_more l Drain h = tt
  link_more l (Other number) h = tt

  pub links_more : (l : ℕ) (ps : List Packet) → Each (SpeaksOfLink w l) ps → Each (SpeaksOfLink next l) ps
  links_more l ps h = each_as (SpeaksOfLink w l) (SpeaksOfLink next l) (link_more l) ps h

  module _ (f g : ℕ) (moved : Moved w next f g) where
    still_its : (z : ℤ) → OfItsApps w f z → OfItsApps next g z
    still_its z h = let it = grows.apps h.0 h.1 h.2 h.4 in (h.0, h.1, it.0, moved h.0 h.2 h.3, it.1, h.5)

    pub stream_more : (p : Packet) → SpeaksOfStream w f p → SpeaksOfStream next g p
    stream_more (DialRsp [] c r) h = still_its c h
    stream_more (DialRsp (x ∷ xs) c r) h = h
    stream_more (Data c error bytes) h = still_its c h
    stream_more (CloseReq c) h = still_its c h
    stream_more (CloseRsp error c) h = still_its c h
    stream_more (DialReq protocol address random) h = tt
    stream_more (DialCls random) h = tt
    stream_more Drain h = tt
    stream_more (Other number) h = tt

    pub streams_more : (ps : List Packet) → Each (SpeaksOfStream w f) ps → Each (SpeaksOfStream next g) ps
    streams_more ps h = each_as (SpeaksOfStream w f) (SpeaksOfStream next g) stream_more ps h

-- a list has no packet that was not there, or it is empty
pub data Remains (client : Type 0) (old new : List Packet) : Type 1 where
  Fewer : client → ((P : Packet → Type 0) → Each P old → Each P new) → Remains client old new
  Empty : ((P : Packet → Type 0) → Each P new) → Remains client old new

remaining : (client : Type 0) (old new : List Packet) (P : Packet → Type 0) → Remains client old new → (client → Each P old) → Each P new
remaining client old new P (Fewer is fewer) h = fewer P (h is)
remaining client old new P (Empty none) h = none P

-- ---- the same dials and apps, and of the lists no packet that was not there
pub record Stays (w b : World) : Type 1 where
  pub grows : Grows w b
  pub streams : (f : ℕ) → Moved w b f f
  pub numbers : (l : ℕ) → (b.agents l).next_connect_id ≡ (w.agents l).next_connect_id
  pub before : (l cid : ℕ) → HasDial b l cid → HasDial w l cid
  pub ups : (l : ℕ) (P : Packet → Type 0) → Each P (w.links l).up → Each P (b.links l).up
  pub downs : (l : ℕ) (P : Packet → Type 0) → Each P (w.links l).down → Each P (b.links l).down
  pub ins : (f : ℕ) → (b.streams f).connect ≡ false → Remains ((w.streams f).connect ≡ false) (w.streams f).up (b.streams f).up
  pub outs : (f : ℕ) → (b.streams f).connect ≡ false → Remains ((w.streams f).connect ≡ false) (w.streams f).down (b.streams f).down

pub stays_places : (w b : World) → Stays w b → Places w → Places b
stays_places w b stays places = record {
  ups = λ l. stays.ups l (SpeaksOfLink b l) (links_more w b stays.grows l (w.links l).up (places.ups l));
  downs = λ l. stays.downs l (SpeaksOfLink b l) (links_more w b stays.grows l (w.links l).down (places.downs l));
  ins = λ f client. remaining ((w.streams f).connect ≡ false) (w.streams f).up (b.streams f).up (SpeaksOfStream b f) (stays.ins f client) (λ was. streams_more w b stays.grows f f (stays.streams f) (w.streams f).up (places.ins f was));
  outs = λ f client. remaining ((w.streams f).connect ≡ false) (w.streams f).down (b.streams f).down (SpeaksOfStream b f) (stays.outs f client) (λ was. streams_more w b stays.grows f f (stays.streams f) (w.streams f).down (places.outs f was));
  from_one = λ l. subst (λ n. 0 < n) (sym (stays.numbers l)) (places.from_one l);
  drawn = λ l cid h. subst (λ n. (0 < cid) × (cid < n)) (sym (stays.numbers l)) (places.drawn l cid (stays.before l cid h));
  all_drawn = λ l cid one less. stays.grows.drawn l cid (places.all_drawn l cid one (subst (λ n. cid < n) (stays.numbers l) less));
}

-- one list of many is another
pub each_at : (P : Packet → Type 0) (i f : ℕ) (old : ℕ → List Packet) (new : List Packet) → (Each P (old f) → Each P new) → Each P (old i) → Each P (cond (i == f) new (old i))
each_at P i f old new fewer h = here (i == f) refl
  where
    here : (b : Bool) → (i == f) ≡ b → Each P (cond b new (old i))
    here true on = fewer (subst (λ j. Each P (old j)) (eqb-true i f on) h)
    here false off = h
