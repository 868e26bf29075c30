-- An app by CONNECT hears packet by packet what a CONNECT app of the packet world takes at once.
use Rattle.std.proofs.Common.{◌≡◌, ◌&&◌, ◌||◌, ◌++◌, ℕ, ℤ, Bool, true, false, cond, List, [], ◌∷◌, map, refl, sym, ap, ◌∙◌, append_assoc}
use Rattle.kn_packet.specs.declared.packet.Packet.{Packet}
use Rattle.kn_packet.specs.declared.packet.Packet.TheVariants.{CloseReq, CloseRsp, Data, DialCls, DialReq, DialRsp, Drain, Other}
use Rattle.kn_tunnel.specs.Kinds.{left_phase}
use Rattle.kn_tunnel.specs.Tunnel.{Dialling, Ended, Opened, Phase, Refused, Side}
use Rattle.kn_packets.specs.Outputs.{all_answered, answered, finishes}
use Rattle.kn_connect.specs.Replies.{status_and_reason}
use Rattle.kn_connect.specs.Statuses.{error_status, reply_length}
use Rattle.kn_world.specs.declared.parts.App.{App}
use Rattle.kn_world.specs.declared.parts.Stage.{Stage}
use Rattle.kn_world.specs.declared.parts.Stage.TheVariants as stage
use Rattle.kn_world.specs.Doors as door
use Rattle.kn_world.specs.Sides as side
use Rattle.kn_refinement.specs.Settled.{bytes_in, bytes_taken, is_refused}
use Rattle.kn_refinement.specs.Shown.{connect_side, unnumbered}
use Rattle.kn_refinement.proofs.DoorsHeard.{InTurn, NoAnswers, View, all_finished, answered_ended, answered_open, answered_refused, appended_nil, freely_closing, freely_stage, freely_view, heard_all, still_dialling, stays, taken, taken_at, view}

-- ---- an app that has left, and one that is here
left_view : Phase → List Packet → Side → View
left_view phase up side = record { client = false; finished = true; up = up; phase = phase; side = side }

here_view : Phase → List Packet → Side → View
here_view phase up side = record { client = true; finished = false; up = up; phase = phase; side = side }

more : Packet → Side → Side
more p side = record side { got = side.got ++ bytes_in p }

left_taken : (ps : List Packet) (phase : Phase) (up : List Packet) (side : Side) → all_answered true ps phase ≡ phase → taken ps (left_view phase up side) ≡ left_view phase up side
unfolding left_view
left_taken ps phase up side e = rw (all_finished ps, e) refl

nothing_taken : (phase : Phase) (up : List Packet) (side : Side) → taken [] (here_view phase up side) ≡ here_view phase up side
unfolding here_view
nothing_taken phase up side = rw (appended_nil side.got) refl

more_taken : (p : Packet) (ps : List Packet) (phase : Phase) (up : List Packet) (side : Side) → finishes p ≡ false
    → taken (p ∷ ps) (here_view phase up side) ≡ taken ps (here_view (answered p phase) up (more p side))
unfolding here_view more
more_taken p ps phase up side h = rw (h, append_assoc side.got (bytes_in p) (bytes_taken ps)) refl

last_taken : (p : Packet) (ps : List Packet) (phase last : Phase) (up : List Packet) (side : Side) → finishes p ≡ true → all_answered true ps (answered p phase) ≡ last
    → taken (p ∷ ps) (here_view phase up side) ≡ left_view (left_phase last) (cond (is_refused last) [] up) side
unfolding here_view left_view
last_taken p ps phase last up side h e = rw (h, e, all_finished ps, appended_nil side.got) refl

-- ---- it has left
deaf : (ps : List Packet) (a : App) → a.door.closing ≡ true → heard_all ps a ≡ a
deaf [] a c = refl
deaf (p ∷ ps) a c = ap (heard_all ps) (here c) ∙ deaf ps a c
  where
    here : a.door.closing ≡ true → door.heard_at a.stage p a ≡ a
    here c = rw c refl

closing_view : (ps : List Packet) (a : App) → a.door.closing ≡ true → view (heard_all ps a) ≡ taken ps (view a)
unfolding left_view
closing_view ps a c = ap view (deaf ps a c) ∙ at a.stage refl
  where
    at : (s : Stage) → a.stage ≡ s → view a ≡ taken ps (view a)
    at stage.Dialling e = rw (c, e) (sym (left_taken ps Ended (map unnumbered a.door.early) (connect_side a.side) (stays Ended answered_ended ps)))
    at stage.Open e = rw (c, e) (sym (left_taken ps Ended (map unnumbered a.door.early) (connect_side a.side) (stays Ended answered_ended ps)))
    at stage.Ended e = rw (c, e) (sym (left_taken ps Ended (map unnumbered a.door.early) (connect_side a.side) (stays Ended answered_ended ps)))
    at stage.Refused e = rw (c, e) (sym (left_taken ps Refused (map unnumbered a.door.early) (connect_side a.side) (stays Refused answered_refused ps)))

cond_same : {X : Type 0} (b : Bool) (x : X) → cond b x x ≡ x
cond_same true x = refl
cond_same false x = refl

refused_deaf : (ps : List Packet) (a : App) → a.stage ≡ stage.Refused → heard_all ps a ≡ a
refused_deaf [] a e = refl
refused_deaf (p ∷ ps) a e = ap (heard_all ps) (here e) ∙ refused_deaf ps a e
  where
    here : a.stage ≡ stage.Refused → door.heard_at a.stage p a ≡ a
    here e = rw e (cond_same a.door.closing _)

or_true : (b : Bool) → (b || true) ≡ true
or_true true = refl
or_true false = refl

refused_view : (ps : List Packet) (a : App) → a.stage ≡ stage.Refused → view (heard_all ps a) ≡ taken ps (view a)
unfolding left_view
refused_view ps a e = ap view (refused_deaf ps a e) ∙ rw (e, or_true a.door.closing) (sym (left_taken ps Refused (map unnumbered a.door.early) (connect_side a.side) (stays Refused answered_refused ps)))

same_finish : (p : Packet) → door.finishes p ≡ finishes p
same_finish (DialRsp [] connect_id random) = refl
same_finish (DialRsp (x ∷ xs) connect_id random) = refl
same_finish (DialReq protocol address random) = refl
same_finish (Data connect_id error bytes) = refl
same_finish (CloseReq connect_id) = refl
same_finish (CloseRsp error connect_id) = refl
same_finish (DialCls random) = refl
same_finish Drain = refl
same_finish (Other number) = refl

-- one that left before the server ended the tunnel
pub late_view : (ps : List Packet) (a : App) → a.stage ≡ stage.Ended → view (heard_all ps a) ≡ taken ps (view a)
late_view [] a e = rw e (here a.door.closing)
  where
    here : (b : Bool) → view (record a { stage = stage.Ended; door = record a.door { closing = b } }) ≡ taken [] (view (record a { stage = stage.Ended; door = record a.door { closing = b } }))
    here true = refl
    here false = refl
late_view (p ∷ ps) a e = at a.door.closing refl (λ b f. late_view ps b f)
  where
    one : a.stage ≡ stage.Ended → a.door.closing ≡ false → door.heard_at a.stage p a ≡ record a { door = record a.door { closing = finishes p } }
    one e c = rw (e, c, same_finish p) refl

    at : (b : Bool) → a.door.closing ≡ b → ((b : App) → b.stage ≡ stage.Ended → view (heard_all ps b) ≡ taken ps (view b)) → view (heard_all (p ∷ ps) a) ≡ taken (p ∷ ps) (view a)
    at true c later = closing_view (p ∷ ps) a c
    at false c later =
        ap (λ b. view (heard_all ps b)) (one e c)
        ∙ later (record a { door = record a.door { closing = finishes p } }) e
        ∙ rw (e, c, answered_ended p) (by (finishes p))
      where
        by : (b : Bool) → taken ps (record { client = false; finished = b || false; up = map unnumbered a.door.early; phase = Ended; side = connect_side a.side })
            ≡ taken_at (all_answered true ps Ended) ps (record { client = false; finished = b && true; up = map unnumbered a.door.early; phase = Ended; side = connect_side a.side })
        by true = refl
        by false = refl

-- ---- it is here
-- the close: whatever comes behind it, it hears nothing
closed_view : (p : Packet) (ps : List Packet) (a : App) (phase last : Phase) → finishes p ≡ true → a.door.closing ≡ false → door.heard_at a.stage p a ≡ door.closed a
    → view a ≡ here_view phase (map unnumbered a.door.early) (connect_side a.side)
    → all_answered true ps (answered p phase) ≡ last → is_refused last ≡ false → left_phase last ≡ Ended
    → (a.stage ≡ stage.Refused → a.door.closing ≡ true) → view (record a { door = record a.door { closing = true } }) ≡ left_view Ended (map unnumbered a.door.early) (connect_side a.side)
    → view (heard_all (p ∷ ps) a) ≡ taken (p ∷ ps) (view a)
closed_view p ps a phase last f c h v e r l n w =
    ap (λ b. view (heard_all ps b)) h
    ∙ ap view (deaf ps (door.closed a) (freely_closing a.side.held (record a { door = record a.door { closing = true } })))
    ∙ freely_view a.side.held (record a { door = record a.door { closing = true } }) (λ s. absurd (cc (n s, c)))
    ∙ w
    ∙ sym (last_taken p ps phase last (map unnumbered a.door.early) (connect_side a.side) f e ∙ rw (r, l) refl)
    ∙ sym (ap (taken (p ∷ ps)) v)

-- what it is after one packet that is not the last
record Heard (p : Packet) (a b : App) (s : Stage) (phase : Phase) : Type 0 where
  pub stage : b.stage ≡ s
  pub closing : b.door.closing ≡ false
  pub seen : view b ≡ here_view phase (map unnumbered a.door.early) (more p (connect_side a.side))

open_here : (a : App) → a.stage ≡ stage.Open → a.door.closing ≡ false → view a ≡ here_view Opened (map unnumbered a.door.early) (connect_side a.side)
unfolding here_view
open_here a e c = rw (e, c) refl

dialling_here : (a : App) → a.stage ≡ stage.Dialling → a.door.closing ≡ false → view a ≡ here_view Dialling (map unnumbered a.door.early) (connect_side a.side)
unfolding here_view
dialling_here a e c = rw (e, c) refl

-- one that is neither an answer nor bytes
nothing_heard : (p : Packet) (a : App) (s : Stage) (phase : Phase) → bytes_in p ≡ [] → a.stage ≡ s → a.door.closing ≡ false
    → view a ≡ here_view phase (map unnumbered a.door.early) (connect_side a.side) → Heard p a a s phase
unfolding more
nothing_heard p a s phase b e c v = record {
  stage = e;
  closing = c;
  seen = v ∙ ap (here_view phase (map unnumbered a.door.early)) (sym (rw (b, appended_nil (connect_side a.side).got) refl));
}

-- bytes
with_bytes : List ℕ → App → App
with_bytes bytes a = record a { side = side.written bytes a.side }

bytes_heard : (connect_id : ℤ) (error bytes : List ℕ) (a : App) (s : Stage) (phase : Phase) → a.stage ≡ s → a.door.closing ≡ false
    → view (with_bytes bytes a) ≡ here_view phase (map unnumbered a.door.early) (more (Data connect_id error bytes) (connect_side a.side))
    → Heard (Data connect_id error bytes) a (door.got bytes a) s phase
unfolding with_bytes
bytes_heard connect_id error bytes a s phase e c v = record {
  stage = freely_stage a.side.held (with_bytes bytes a) c ∙ e;
  closing = freely_closing a.side.held (with_bytes bytes a) ∙ c;
  seen = freely_view a.side.held (with_bytes bytes a) (λ x. c) ∙ v;
}

bytes_open : (connect_id : ℤ) (error bytes : List ℕ) (a : App) → a.stage ≡ stage.Open → a.door.closing ≡ false → Heard (Data connect_id error bytes) a (door.got bytes a) stage.Open Opened
unfolding with_bytes here_view more
bytes_open connect_id error bytes a e c = bytes_heard connect_id error bytes a stage.Open Opened e c (rw (e, c, append_assoc a.side.coming.passed a.side.coming.waiting bytes) refl)

bytes_dialling : (connect_id : ℤ) (error bytes : List ℕ) (a : App) → a.stage ≡ stage.Dialling → a.door.closing ≡ false → Heard (Data connect_id error bytes) a (door.got bytes a) stage.Dialling Dialling
unfolding with_bytes here_view more
bytes_dialling connect_id error bytes a e c = bytes_heard connect_id error bytes a stage.Dialling Dialling e c (rw (e, c, append_assoc a.side.coming.passed a.side.coming.waiting bytes) refl)

-- the answer that it is open
opened_heard : (connect_id random : ℤ) (a : App) → a.door.closing ≡ false → Heard (DialRsp [] connect_id random) a (door.opened a) stage.Open Opened
unfolding here_view more
opened_heard connect_id random a c = record {
  stage = freely_stage a.side.held (record a { stage = stage.Open; door = door.with_reply (reply_length 200) a.door }) c;
  closing = freely_closing a.side.held (record a { stage = stage.Open; door = door.with_reply (reply_length 200) a.door }) ∙ c;
  seen = freely_view a.side.held (record a { stage = stage.Open; door = door.with_reply (reply_length 200) a.door }) (λ x. c)
      ∙ rw (c, appended_nil (a.side.coming.passed ++ a.side.coming.waiting)) refl;
}

-- ---- packet by packet
next : (p : Packet) (ps : List Packet) (a b : App) (s : Stage) (phase later : Phase) → finishes p ≡ false → view a ≡ here_view phase (map unnumbered a.door.early) (connect_side a.side)
    → door.heard_at a.stage p a ≡ b → Heard p a b s later → answered p phase ≡ later → view (heard_all ps b) ≡ taken ps (view b)
    → view (heard_all (p ∷ ps) a) ≡ taken (p ∷ ps) (view a)
next p ps a b s phase later f v h heard e rest =
    ap (λ x. view (heard_all ps x)) h ∙ rest ∙ ap (taken ps) heard.seen
    ∙ sym (more_taken p ps phase (map unnumbered a.door.early) (connect_side a.side) f ∙ ap (λ x. taken ps (here_view x (map unnumbered a.door.early) (more p (connect_side a.side)))) e)
    ∙ sym (ap (taken (p ∷ ps)) v)

open_closes : (p : Packet) (ps : List Packet) (a : App) → finishes p ≡ true → door.heard_at stage.Open p a ≡ door.closed a → a.stage ≡ stage.Open → a.door.closing ≡ false
    → view (heard_all (p ∷ ps) a) ≡ taken (p ∷ ps) (view a)
unfolding left_view
open_closes p ps a f h e c = closed_view p ps a Opened Opened f c (ap (λ s. door.heard_at s p a) e ∙ h) (open_here a e c) (ap (all_answered true ps) (answered_open p) ∙ stays Opened answered_open ps) refl refl
    (λ s. let z : stage.Open ≡ stage.Refused = sym e ∙ s in absurd cc) (rw e refl)

open_nothing : (p : Packet) (ps : List Packet) (a : App) → finishes p ≡ false → bytes_in p ≡ [] → door.heard_at stage.Open p a ≡ a → a.stage ≡ stage.Open → a.door.closing ≡ false
    → view (heard_all ps a) ≡ taken ps (view a) → view (heard_all (p ∷ ps) a) ≡ taken (p ∷ ps) (view a)
open_nothing p ps a f b h e c rest = next p ps a a stage.Open Opened Opened f (open_here a e c) (ap (λ s. door.heard_at s p a) e ∙ h) (nothing_heard p a stage.Open Opened b e c (open_here a e c)) (answered_open p) rest

pub open_view : (ps : List Packet) (a : App) → a.stage ≡ stage.Open → a.door.closing ≡ false → view (heard_all ps a) ≡ taken ps (view a)
open_view [] a e c = open_here a e c ∙ sym (nothing_taken Opened (map unnumbered a.door.early) (connect_side a.side)) ∙ sym (ap (taken []) (open_here a e c))
open_view (DialRsp [] i r ∷ ps) a e c = let heard = opened_heard i r a c in
    next (DialRsp [] i r) ps a (door.opened a) stage.Open Opened Opened refl (open_here a e c) (rw (e, c) refl) heard refl (open_view ps (door.opened a) heard.stage heard.closing)
open_view (DialRsp (x ∷ xs) i r ∷ ps) a e c = open_closes (DialRsp (x ∷ xs) i r) ps a refl (rw c refl) e c
open_view (CloseRsp error i ∷ ps) a e c = open_closes (CloseRsp error i) ps a refl (rw c refl) e c
open_view (Data i error bytes ∷ ps) a e c = let heard = bytes_open i error bytes a e c in
    next (Data i error bytes) ps a (door.got bytes a) stage.Open Opened Opened refl (open_here a e c) (rw (e, c) refl) heard refl (open_view ps (door.got bytes a) heard.stage heard.closing)
open_view (DialReq protocol address r ∷ ps) a e c = open_nothing (DialReq protocol address r) ps a refl refl (rw c refl) e c (open_view ps a e c)
open_view (CloseReq i ∷ ps) a e c = open_nothing (CloseReq i) ps a refl refl (rw c refl) e c (open_view ps a e c)
open_view (DialCls r ∷ ps) a e c = open_nothing (DialCls r) ps a refl refl (rw c refl) e c (open_view ps a e c)
open_view (Drain ∷ ps) a e c = open_nothing Drain ps a refl refl (rw c refl) e c (open_view ps a e c)
open_view (Other n ∷ ps) a e c = open_nothing (Other n) ps a refl refl (rw c refl) e c (open_view ps a e c)

dialling_nothing : (p : Packet) (ps : List Packet) (a : App) → finishes p ≡ false → bytes_in p ≡ [] → door.heard_at stage.Dialling p a ≡ a → a.stage ≡ stage.Dialling → a.door.closing ≡ false
    → answered p Dialling ≡ Dialling → view (heard_all ps a) ≡ taken ps (view a) → view (heard_all (p ∷ ps) a) ≡ taken (p ∷ ps) (view a)
dialling_nothing p ps a f b h e c n rest = next p ps a a stage.Dialling Dialling Dialling f (dialling_here a e c) (ap (λ s. door.heard_at s p a) e ∙ h) (nothing_heard p a stage.Dialling Dialling b e c (dialling_here a e c)) n rest

dialling_closes : (error : List ℕ) (i : ℤ) (ps : List Packet) (a : App) → NoAnswers ps → a.stage ≡ stage.Dialling → a.door.closing ≡ false
    → view (heard_all (CloseRsp error i ∷ ps) a) ≡ taken (CloseRsp error i ∷ ps) (view a)
unfolding left_view
dialling_closes error i ps a n e c = closed_view (CloseRsp error i) ps a Dialling Dialling refl c (rw (e, c) refl) (dialling_here a e c) (still_dialling ps n) refl refl
    (λ s. let z : stage.Dialling ≡ stage.Refused = sym e ∙ s in absurd cc) (rw e refl)

-- a refusal: what it sent before is dropped
refused_app : ℕ → App → App
refused_app status a = record a { error = status_and_reason status; stage = stage.Refused; door = record a.door { early = []; reply = reply_length status } }

dialling_refused : (x : ℕ) (xs : List ℕ) (i r : ℤ) (ps : List Packet) (a : App) → a.stage ≡ stage.Dialling → a.door.closing ≡ false
    → view (heard_all (DialRsp (x ∷ xs) i r ∷ ps) a) ≡ taken (DialRsp (x ∷ xs) i r ∷ ps) (view a)
unfolding left_view refused_app
dialling_refused x xs i r ps a e c =
    let status : ℕ = error_status (x ∷ xs) in
    let hears : door.heard_at a.stage (DialRsp (x ∷ xs) i r) a ≡ door.took_freely a.side.held (refused_app status a) = rw (e, c) refl in
    let seen : view (refused_app status a) ≡ left_view Refused [] (connect_side a.side) = rw c refl in
    ap (λ b. view (heard_all ps b)) hears
    ∙ ap view (refused_deaf ps (door.took_freely a.side.held (refused_app status a)) (freely_stage a.side.held (refused_app status a) c))
    ∙ freely_view a.side.held (refused_app status a) (λ z. c)
    ∙ seen
    ∙ sym (last_taken (DialRsp (x ∷ xs) i r) ps Dialling Refused (map unnumbered a.door.early) (connect_side a.side) refl (stays Refused answered_refused ps))
    ∙ sym (ap (taken (DialRsp (x ∷ xs) i r ∷ ps)) (dialling_here a e c))

pub dialling_view : (ps : List Packet) (a : App) → InTurn ps → a.stage ≡ stage.Dialling → a.door.closing ≡ false → view (heard_all ps a) ≡ taken ps (view a)
dialling_view [] a t e c = dialling_here a e c ∙ sym (nothing_taken Dialling (map unnumbered a.door.early) (connect_side a.side)) ∙ sym (ap (taken []) (dialling_here a e c))
dialling_view (DialRsp [] i r ∷ ps) a t e c = let heard = opened_heard i r a c in
    next (DialRsp [] i r) ps a (door.opened a) stage.Open Dialling Opened refl (dialling_here a e c) (rw (e, c) refl) heard refl (open_view ps (door.opened a) heard.stage heard.closing)
dialling_view (DialRsp (x ∷ xs) i r ∷ ps) a t e c = dialling_refused x xs i r ps a e c
dialling_view (CloseRsp error i ∷ ps) a t e c = dialling_closes error i ps a t e c
dialling_view (Data i error bytes ∷ ps) a t e c = let heard = bytes_dialling i error bytes a e c in
    next (Data i error bytes) ps a (door.got bytes a) stage.Dialling Dialling Dialling refl (dialling_here a e c) (rw (e, c) refl) heard refl (dialling_view ps (door.got bytes a) t heard.stage heard.closing)
dialling_view (DialReq protocol address r ∷ ps) a t e c = dialling_nothing (DialReq protocol address r) ps a refl refl (rw c refl) e c refl (dialling_view ps a t e c)
dialling_view (CloseReq i ∷ ps) a t e c = dialling_nothing (CloseReq i) ps a refl refl (rw c refl) e c refl (dialling_view ps a t e c)
dialling_view (DialCls r ∷ ps) a t e c = dialling_nothing (DialCls r) ps a refl refl (rw c refl) e c refl (dialling_view ps a t e c)
dialling_view (Drain ∷ ps) a t e c = dialling_nothing Drain ps a refl refl (rw c refl) e c refl (dialling_view ps a t e c)
dialling_view (Other n ∷ ps) a t e c = dialling_nothing (Other n) ps a refl refl (rw c refl) e c refl (dialling_view ps a t e c)

-- ---- whatever it has come to
pub heard_view : (ps : List Packet) (a : App) → InTurn ps → view (heard_all ps a) ≡ taken ps (view a)
heard_view ps a t = at a.stage refl a.door.closing refl
  where
    at : (s : Stage) → a.stage ≡ s → (b : Bool) → a.door.closing ≡ b → view (heard_all ps a) ≡ taken ps (view a)
    at s e true c = closing_view ps a c
    at stage.Dialling e false c = dialling_view ps a t e c
    at stage.Open e false c = open_view ps a e c
    at stage.Refused e false c = refused_view ps a e
    at stage.Ended e false c = late_view ps a e
