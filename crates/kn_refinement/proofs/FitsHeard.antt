-- A packet of the server for an app by CONNECT, and the dial that is made for an app, leave what fits.
use Rattle.std.proofs.Common.{◌≡◌, ◌&&◌, ◌||◌, ◌<◌, ◌⊎◌, ℕ, suc, Bool, true, false, cond, List, [], ◌∷◌, length, Some, inl, inr, refl, sym, ap, ◌∙◌, subst}
use Rattle.kn_packet.specs.declared.packet.Packet.{Packet}
use Rattle.kn_packet.specs.declared.packet.Packet.TheVariants.{CloseReq, CloseRsp, Data, DialCls, DialReq, DialRsp, Drain, Other}
use Rattle.kn_server_core.specs.Isolation.{Each}
use Rattle.kn_connect.specs.Replies.{status_and_reason}
use Rattle.kn_connect.specs.Statuses.{error_status, reply_length}
use Rattle.kn_world.specs.declared.parts.App.{App}
use Rattle.kn_world.specs.declared.parts.Client.{Client}
use Rattle.kn_world.specs.declared.parts.Home.TheVariants as home
use Rattle.kn_world.specs.declared.parts.Stage.{Stage}
use Rattle.kn_world.specs.declared.parts.Stage.TheVariants as stage
use Rattle.kn_world.specs.Apps as apps
use Rattle.kn_world.specs.Doors as door
use Rattle.kn_world.specs.Numbers.{nth}
use Rattle.kn_world.specs.Sides as side
use Rattle.kn_refinement.specs.Fits.{HasLeft, IsDataOf, IsPast}
use Rattle.kn_refinement.proofs.FitsClients.{AppKept}

-- ---- what a packet leaves
pub record HeardKept (a b : App) : Type 0 where
  pub at : b.home ≡ a.home
  pub number : b.door.number ≡ a.door.number
  pub at_server : b.door.at_server ≡ a.door.at_server
  pub dial : b.dial ≡ a.dial
  pub end_given : b.side.end_given ≡ a.side.end_given
  pub early : (b.door.early ≡ a.door.early) ⊎ (b.door.early ≡ [])
  pub refused : (a.stage ≡ stage.Refused → a.door.closing ≡ false) → b.stage ≡ stage.Refused → b.door.closing ≡ false
  pub left : IsPast a → IsPast b

kept_same : (a : App) → HeardKept a a
kept_same a = record { at = refl; number = refl; at_server = refl; dial = refl; end_given = refl; early = inl refl; refused = λ h. h; left = λ h. h }

kept_both : (a b c : App) → HeardKept a b → HeardKept b c → HeardKept a c
kept_both a b c h i = record {
  at = i.at ∙ h.at;
  number = i.number ∙ h.number;
  at_server = i.at_server ∙ h.at_server;
  dial = i.dial ∙ h.dial;
  end_given = i.end_given ∙ h.end_given;
  early = both i.early h.early;
  refused = λ g. i.refused (h.refused g);
  left = λ g. i.left (h.left g);
}
  where
    both : (c.door.early ≡ b.door.early) ⊎ (c.door.early ≡ []) → (b.door.early ≡ a.door.early) ⊎ (b.door.early ≡ []) → (c.door.early ≡ a.door.early) ⊎ (c.door.early ≡ [])
    both (inl e) (inl g) = inl (e ∙ g)
    both (inl e) (inr g) = inr (e ∙ g)
    both (inr e) g = inr e

ended_kept : (a : App) → HeardKept a (record a { stage = stage.Ended })
ended_kept a = record { at = refl; number = refl; at_server = refl; dial = refl; end_given = refl; early = inl refl; refused = λ h g. absurd cc; left = λ h. inl (inr refl) }

emptied_kept : (a : App) → HeardKept a (door.emptied a)
emptied_kept a = here (a.door.closing && door.is_empty a)
  where
    here : (b : Bool) → HeardKept a (cond b (record a { stage = stage.Ended }) a)
    here true = ended_kept a
    here false = kept_same a

all_taken : App → App
all_taken a = record a { door = door.with_reply 0 a.door; side = side.took (length a.side.coming.waiting) a.side }

taken_kept : (a : App) → HeardKept a (all_taken a)
unfolding all_taken
taken_kept a = record { at = refl; number = refl; at_server = refl; dial = refl; end_given = refl; early = inl refl; refused = λ h. h; left = λ h. h }

freely_kept : (held : Bool) (a : App) → HeardKept a (door.took_freely held a)
unfolding all_taken
freely_kept true a = emptied_kept a
freely_kept false a = kept_both a (all_taken a) (door.emptied (all_taken a)) (taken_kept a) (emptied_kept (all_taken a))

-- ---- by what the packet is; it comes to one that has not left, and whose tunnel the server has not ended
still_dialling : (s : Stage) → (s ≡ stage.Dialling) ⊎ (s ≡ stage.Open) → HasLeft s → ⊥
still_dialling s (inl e) (inl g) = cc
still_dialling s (inl e) (inr g) = cc
still_dialling s (inr e) (inl g) = cc
still_dialling s (inr e) (inr g) = cc

abbrev refusing : ℕ → App → App
refusing status a = record a { error = status_and_reason status; stage = stage.Refused; door = record a.door { early = []; reply = reply_length status } }

refused_kept : (status : ℕ) (a : App) → a.door.closing ≡ false → HeardKept a (door.refused status a)
refused_kept status a e = kept_both a (refusing status a) (door.took_freely a.side.held (refusing status a))
    (record { at = refl; number = refl; at_server = refl; dial = refl; end_given = refl; early = inr refl; refused = λ h g. e; left = λ h. inl (inl refl) })
    (freely_kept a.side.held (refusing status a))

abbrev opening : App → App
opening a = record a { stage = stage.Open; door = door.with_reply (reply_length 200) a.door }

opened_kept : (a : App) → (IsPast a → ⊥) → HeardKept a (door.opened a)
opened_kept a here = kept_both a (opening a) (door.took_freely a.side.held (opening a))
    (record { at = refl; number = refl; at_server = refl; dial = refl; end_given = refl; early = inl refl; refused = λ h g. absurd cc; left = λ h. absurd (here h) })
    (freely_kept a.side.held (opening a))

abbrev getting : List ℕ → App → App
getting bytes a = record a { side = side.written bytes a.side }

got_kept : (bytes : List ℕ) (a : App) → HeardKept a (door.got bytes a)
got_kept bytes a = kept_both a (getting bytes a) (door.took_freely a.side.held (getting bytes a))
    (record { at = refl; number = refl; at_server = refl; dial = refl; end_given = refl; early = inl refl; refused = λ h. h; left = λ h. h })
    (freely_kept a.side.held (getting bytes a))

abbrev closing : App → App
closing a = record a { door = record a.door { closing = true } }

closed_kept : (a : App) → (HasLeft a.stage → ⊥) → HeardKept a (door.closed a)
closed_kept a here = kept_both a (closing a) (door.took_freely a.side.held (closing a))
    (record { at = refl; number = refl; at_server = refl; dial = refl; end_given = refl; early = inl refl; refused = λ h g. absurd (here (inl g)); left = λ h. inr refl })
    (freely_kept a.side.held (closing a))

-- one that has not left, and whose tunnel has not ended
not_past : (a : App) → (HasLeft a.stage → ⊥) → a.door.closing ≡ false → IsPast a → ⊥
not_past a here e (inl left) = here left
not_past a here e (inr ends) = cc (e, ends)

answered_kept : (error : List ℕ) (a : App) → (HasLeft a.stage → ⊥) → a.door.closing ≡ false → HeardKept a (door.answered error a)
answered_kept [] a here e = opened_kept a (not_past a here e)
answered_kept (x ∷ xs) a here e = refused_kept (error_status (x ∷ xs)) a e

packet_kept : (p : Packet) (a : App) → (HasLeft a.stage → ⊥) → a.door.closing ≡ false → HeardKept a (door.heard p a)
packet_kept (DialRsp error connect_id random) a here e = answered_kept error a here e
packet_kept (Data connect_id error bytes) a here e = got_kept bytes a
packet_kept (CloseRsp error connect_id) a here e = closed_kept a here
packet_kept (DialReq protocol address random) a here e = kept_same a
packet_kept (CloseReq connect_id) a here e = kept_same a
packet_kept (DialCls random) a here e = kept_same a
packet_kept Drain a here e = kept_same a
packet_kept (Other number) a here e = kept_same a

by_kept : (s : Stage) (p : Packet) (a : App) → a.stage ≡ s → a.door.closing ≡ false → HeardKept a (door.heard_by s p a)
by_kept stage.Dialling p a is e = packet_kept p a (still_dialling a.stage (inl is)) e
by_kept stage.Open p a is e = here (door.finishes p)
  where
    here : (b : Bool) → HeardKept a (cond b (door.closed a) (door.heard p a))
    here true = closed_kept a (still_dialling a.stage (inr is))
    here false = packet_kept p a (still_dialling a.stage (inr is)) e
by_kept stage.Refused p a is e = kept_same a
by_kept stage.Ended p a is e = record {
  at = refl;
  number = refl;
  at_server = refl;
  dial = refl;
  end_given = refl;
  early = inl refl;
  refused = λ h g. absurd cc;
  left = λ h. ends_still h;
}
  where
    ends_still : IsPast a → IsPast (door.heard_late p a)
    ends_still (inl left) = inl left
    ends_still (inr ends) = inr (ap (λ b. b || door.finishes p) ends)

pub heard_kept : (p : Packet) (a : App) → HeardKept a (apps.heard p a)
heard_kept p a = here a.door.closing refl
  where
    here : (b : Bool) → a.door.closing ≡ b → HeardKept a (cond b a (door.heard_by a.stage p a))
    here true e = kept_same a
    here false e = by_kept a.stage p a refl e

-- ---- so an app by CONNECT that has a front fits on
data_kept : (d e : ℕ) (ps qs : List Packet) → e ≡ d → (qs ≡ ps) ⊎ (qs ≡ []) → Each (IsDataOf d) ps → Each (IsDataOf e) qs
data_kept d e ps qs same (inl is) h = subst (λ x. Each (IsDataOf e) x) (sym is) (subst (λ x. Each (IsDataOf x) ps) (sym same) h)
data_kept d e ps qs same (inr is) h = subst (λ x. Each (IsDataOf e) x) (sym is) tt

none_kept : (ps qs : List Packet) → (qs ≡ ps) ⊎ (qs ≡ []) → ps ≡ [] → qs ≡ []
none_kept ps qs (inl e) h = e ∙ h
none_kept ps qs (inr e) h = e

not_client : (a : App) (c n : ℕ) → a.home ≡ home.Connect → a.home ≡ home.Client c n → ⊥
not_client a c n h i = let z : home.Connect ≡ home.Client c n = sym h ∙ i in absurd cc

pub heard_fits : (cs : List Client) (k n : ℕ) (a : App) (p : Packet) → a.home ≡ home.Connect → a.door.number ≡ suc n → AppKept cs k a (apps.heard p a)
heard_fits cs k n a p h e = record {
  at = kept.at;
  number = kept.number;
  noted = λ c m i. absurd (not_client a c m h i);
  door = λ c m i. absurd (not_client a c m h i);
  untold = λ c m x i. absurd (not_client a c m h i);
  unheard = λ i z. let m : suc n ≡ 0 = sym e ∙ z in absurd cc;
  early = λ i. data_kept a.dial (apps.heard p a).dial a.door.early (apps.heard p a).door.early kept.dial kept.early;
  refused = kept.refused;
  at_server = kept.at_server;
  end_given = kept.end_given;
  left = λ u. (kept.left u.0, none_kept a.door.early (apps.heard p a).door.early kept.early u.1);
}
  where
    kept : HeardKept a (apps.heard p a)
    kept = heard_kept p a

-- ---- an app that has come, and for which nothing is kept yet, gets its dial
pub record MayHaveDial (cs : List Client) (a : App) : Type 0 where
  pub told : (c n : ℕ) (x : Client) → a.home ≡ home.Client c n → nth c cs ≡ Some x → x.core.top_app < n → ⊥
  pub heard : a.home ≡ home.Connect → a.door.number ≡ 0 → ⊥
  pub early : a.door.early ≡ []
  pub undialled : a.dial ≡ 0

pub dial_fits : (cs : List Client) (k dial : ℕ) (a : App) → MayHaveDial cs a → AppKept cs k a (apps.with_dial dial a)
dial_fits cs k dial a may = record {
  at = refl;
  number = refl;
  noted = λ c n h. refl;
  door = λ c n h. refl;
  untold = λ c n x h i t. absurd (may.told c n x h i t);
  unheard = λ h e. absurd (may.heard h e);
  early = λ h u. subst (λ ps. Each (IsDataOf dial) ps) (sym may.early) tt;
  refused = λ u. u;
  at_server = refl;
  end_given = refl;
  left = λ u. u;
}
