-- DATA that a front is told: one packet or two, whose join is what came.
use Rattle.std.proofs.Common.{◌≡◌, ◌==◌, ◌||◌, ◌++◌, ℕ, ℤ, pos, Bool, true, false, cond, List, [], ◌∷◌, length, take, drop, Option, refl, sym, ap, ◌∙◌, append-nil, append_assoc, ltb}
use Rattle.std.proofs.lemmas.List.{take-append-drop}
use Rattle.kn_packet.specs.declared.packet.Packet.{Packet}
use Rattle.kn_packet.specs.declared.packet.Packet.TheVariants.{Data}
use Rattle.kn_server_core.specs.declared.event.ServerOut.{ServerOut}
use Rattle.kn_server_core.specs.Packets.{data_to_front, data_to_link, in_packets}
use Rattle.kn_tunnel.specs.Steps.{appended}
use Rattle.kn_tunnel.specs.Tunnel.{Phase}
use Rattle.kn_words.specs.Down.{BytesDown, DownItem, OtherDown, down_of, has_request}
use Rattle.kn_words.specs.Out.{BytesOut, OtherOut, OutItem, out_of}
use Rattle.kn_packets.specs.Moves.{new_dial}
use Rattle.kn_packets.specs.Outputs.{all_answered, all_finish, dial_made, for_front, for_link, is_cut, queued}
use Rattle.kn_packets.specs.World.{WorldDial}
use Rattle.kn_packets.proofs.Queues.{down_other, down_passed, out_other, out_passed, request_other}
use Rattle.kn_packets.proofs.Taken.{or_false}

-- outputs that go to fronts alone
pub record ToFronts (outs : List ServerOut) : Type 0 where
  pub link : (l : ℕ) → for_link l outs ≡ []
  pub cut : (l : ℕ) → is_cut l outs ≡ false
  pub made : (i : ℕ) (own : Bool) (D : Option ℕ) → dial_made i own outs D ≡ D
  pub new : (d : ℕ) (x : WorldDial) → new_dial d outs x ≡ x

-- outputs that go to links alone
pub record ToLinks (outs : List ServerOut) : Type 0 where
  pub front : (f : ℕ) → for_front f outs ≡ []
  pub cut : (l : ℕ) → is_cut l outs ≡ false
  pub made : (i : ℕ) (own : Bool) (D : Option ℕ) → dial_made i own outs D ≡ D
  pub new : (d : ℕ) (x : WorldDial) → new_dial d outs x ≡ x

pub data_to_fronts : (f d : ℕ) (pieces : List (List ℕ)) → ToFronts (data_to_front f d pieces)
data_to_fronts f d pieces = record { link = links pieces; cut = cuts pieces; made = mades pieces; new = news pieces }
  where
    links : (ps : List (List ℕ)) (l : ℕ) → for_link l (data_to_front f d ps) ≡ []
    links [] l = refl
    links (p ∷ ps) l = links ps l

    cuts : (ps : List (List ℕ)) (l : ℕ) → is_cut l (data_to_front f d ps) ≡ false
    cuts [] l = refl
    cuts (p ∷ ps) l = cuts ps l

    mades : (ps : List (List ℕ)) (i : ℕ) (own : Bool) (D : Option ℕ) → dial_made i own (data_to_front f d ps) D ≡ D
    mades [] i own D = refl
    mades (p ∷ ps) i own D = mades ps i own D

    news : (ps : List (List ℕ)) (e : ℕ) (x : WorldDial) → new_dial e (data_to_front f d ps) x ≡ x
    news [] e x = refl
    news (p ∷ ps) e x = news ps e x

pub data_to_links : (l : ℕ) (c : ℤ) (pieces : List (List ℕ)) → ToLinks (data_to_link l c pieces)
data_to_links l c pieces = record { front = fronts pieces; cut = cuts pieces; made = mades pieces; new = news pieces }
  where
    fronts : (ps : List (List ℕ)) (f : ℕ) → for_front f (data_to_link l c ps) ≡ []
    fronts [] f = refl
    fronts (p ∷ ps) f = fronts ps f

    cuts : (ps : List (List ℕ)) (k : ℕ) → is_cut k (data_to_link l c ps) ≡ false
    cuts [] k = refl
    cuts (p ∷ ps) k = cuts ps k

    mades : (ps : List (List ℕ)) (i : ℕ) (own : Bool) (D : Option ℕ) → dial_made i own (data_to_link l c ps) D ≡ D
    mades [] i own D = refl
    mades (p ∷ ps) i own D = mades ps i own D

    news : (ps : List (List ℕ)) (e : ℕ) (x : WorldDial) → new_dial e (data_to_link l c ps) x ≡ x
    news [] e x = refl
    news (p ∷ ps) e x = news ps e x

-- the packets that carry the pieces
abbrev pub datas : ℤ → List (List ℕ) → List Packet
datas c [] = []
datas c (p ∷ ps) = Data c [] p ∷ datas c ps

pub at_front : (i f d : ℕ) (pieces : List (List ℕ)) → (i == f) ≡ true → for_front i (data_to_front f d pieces) ≡ datas (pos d) pieces
at_front i f d [] e = refl
at_front i f d (p ∷ ps) e = rw e (ap (λ r. Data (pos d) [] p ∷ r) (at_front i f d ps e))

pub not_front : (i f d : ℕ) (pieces : List (List ℕ)) → (i == f) ≡ false → for_front i (data_to_front f d pieces) ≡ []
not_front i f d [] e = refl
not_front i f d (p ∷ ps) e = rw e (not_front i f d ps e)

pub at_link : (i l : ℕ) (c : ℤ) (pieces : List (List ℕ)) → (i == l) ≡ true → for_link i (data_to_link l c pieces) ≡ datas c pieces
at_link i l c [] e = refl
at_link i l c (p ∷ ps) e = rw e (ap (λ r. Data c [] p ∷ r) (at_link i l c ps e))

pub not_link : (i l : ℕ) (c : ℤ) (pieces : List (List ℕ)) → (i == l) ≡ false → for_link i (data_to_link l c pieces) ≡ []
not_link i l c [] e = refl
not_link i l c (p ∷ ps) e = rw e (not_link i l c ps e)

-- the pieces join to what was cut
abbrev pub joined : List (List ℕ) → List ℕ
joined [] = []
joined (p ∷ ps) = p ++ joined ps

pub pieces_join : (bytes : List ℕ) → joined (in_packets bytes) ≡ bytes
pieces_join bytes = here (ltb 4194000 (length bytes))
  where
    here : (b : Bool) → joined (cond b (take 4194000 bytes ∷ drop 4194000 bytes ∷ []) (bytes ∷ [])) ≡ bytes
    here true = ap (λ r. take 4194000 bytes ++ r) (append-nil (drop 4194000 bytes)) ∙ take-append-drop 4194000 bytes
    here false = append-nil bytes

-- the word of a list behind which they are queued
pub out_data : (item : Packet → OutItem) (c : ℤ) (b : Bool) (ps : List Packet) (pieces : List (List ℕ)) → ((x : List ℕ) → item (Data c [] x) ≡ BytesOut x)
    → out_of item (queued b ps (datas c pieces)) ≡ record (out_of item ps) { bytes = appended b (out_of item ps).bytes (joined pieces) }
out_data item c true ps [] h = ap (λ r. record (out_of item ps) { bytes = r }) (sym (append-nil (out_of item ps).bytes))
out_data item c false ps [] h = refl
out_data item c true ps (x ∷ xs) h = out_data item c true (ps ++ Data c [] x ∷ []) xs h ∙ rw (out_passed item true ps (Data c [] x) x (h x)) (ap (λ r. record (out_of item ps) { bytes = r }) (append_assoc (out_of item ps).bytes x (joined xs)))
out_data item c false ps (x ∷ xs) h = out_data item c false ps xs h

pub out_data_other : (item : Packet → OutItem) (c : ℤ) (b : Bool) (ps : List Packet) (pieces : List (List ℕ)) → ((x : List ℕ) → item (Data c [] x) ≡ OtherOut)
    → out_of item (queued b ps (datas c pieces)) ≡ out_of item ps
out_data_other item c b ps [] h = refl
out_data_other item c true ps (x ∷ xs) h = out_data_other item c true (ps ++ Data c [] x ∷ []) xs h ∙ out_other item true ps (Data c [] x) (h x)
out_data_other item c false ps (x ∷ xs) h = out_data_other item c false ps xs h

pub down_data : (item : Packet → DownItem) (c : ℤ) (b : Bool) (ps : List Packet) (pieces : List (List ℕ)) → ((x : List ℕ) → item (Data c [] x) ≡ BytesDown x)
    → down_of item (queued b ps (datas c pieces)) ≡ record (down_of item ps) { bytes = appended b (down_of item ps).bytes (joined pieces) }
down_data item c true ps [] h = ap (λ r. record (down_of item ps) { bytes = r }) (sym (append-nil (down_of item ps).bytes))
down_data item c false ps [] h = refl
down_data item c true ps (x ∷ xs) h = down_data item c true (ps ++ Data c [] x ∷ []) xs h ∙ rw (down_passed item true ps (Data c [] x) x (h x)) (ap (λ r. record (down_of item ps) { bytes = r }) (append_assoc (down_of item ps).bytes x (joined xs)))
down_data item c false ps (x ∷ xs) h = down_data item c false ps xs h

pub down_data_other : (item : Packet → DownItem) (c : ℤ) (b : Bool) (ps : List Packet) (pieces : List (List ℕ)) → ((x : List ℕ) → item (Data c [] x) ≡ OtherDown)
    → down_of item (queued b ps (datas c pieces)) ≡ down_of item ps
down_data_other item c b ps [] h = refl
down_data_other item c true ps (x ∷ xs) h = down_data_other item c true (ps ++ Data c [] x ∷ []) xs h ∙ down_other item true ps (Data c [] x) (h x)
down_data_other item c false ps (x ∷ xs) h = down_data_other item c false ps xs h

-- DATA neither finishes nor answers a CONNECT connection
pub data_finishes : (connect : Bool) (c : ℤ) (pieces : List (List ℕ)) (finished : Bool) → all_finish connect (datas c pieces) finished ≡ finished
data_finishes connect c [] finished = refl
data_finishes connect c (x ∷ xs) finished = data_finishes connect c xs (finished || false) ∙ or_false finished

pub data_answers : (connect : Bool) (c : ℤ) (pieces : List (List ℕ)) (phase : Phase) → all_answered connect (datas c pieces) phase ≡ phase
data_answers true c [] phase = refl
data_answers false c [] phase = refl
data_answers true c (x ∷ xs) phase = data_answers true c xs phase
data_answers false c (x ∷ xs) phase = data_answers false c xs phase

-- neither is a test on requests
pub data_asks_none : (c : ℤ) (d : ℕ) (b : Bool) (ps : List Packet) (pieces : List (List ℕ)) → has_request d (queued b ps (datas c pieces)) ≡ has_request d ps
data_asks_none c d b ps [] = refl
data_asks_none c d true ps (x ∷ xs) = data_asks_none c d true (ps ++ Data c [] x ∷ []) xs ∙ request_other d true ps (Data c [] x) refl
data_asks_none c d false ps (x ∷ xs) = data_asks_none c d false ps xs
