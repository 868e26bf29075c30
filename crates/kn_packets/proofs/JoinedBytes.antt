-- Bytes that are cut into packets otherwise are the same to every tunnel.
use Rattle.std.proofs.Common.{◌≡◌, ◌==◌, ℕ, Bool, true, false, cond, List, [], ◌∷◌, Option, Some, None, inl, refl, sym, ap, ◌∙◌, eqb-true, append_assoc}
use Rattle.kn_packet.specs.declared.packet.Packet.{Packet}
use Rattle.kn_packet.specs.declared.packet.Packet.TheVariants.{CloseReq, CloseRsp, Data, DialCls, DialReq, DialRsp, Drain, Other}
use Rattle.kn_tunnel.specs.Tunnel.{Inward}
use Rattle.kn_words.specs.In.{connect_in_item, connect_in_word, in_cons, stream_in_word}
use Rattle.kn_packets.specs.Lifts.{Lifts}
use Rattle.kn_packets.specs.Moves.{JoinsIn, May, after, all_joined, join_first}
use Rattle.kn_packets.specs.World.{World, tunnel, tunnel_of}

first_word : (p : Packet) (ps : List Packet) → connect_in_word (join_first p ps) ≡ in_cons (connect_in_item p) (connect_in_word ps)
first_word (Data c error bytes) [] = refl
first_word (Data c error bytes) (Data d reason more ∷ ps) = ap (λ (l : List ℕ). record (connect_in_word ps) { bytes = l }) (append_assoc bytes more (connect_in_word ps).bytes)
first_word (Data c error bytes) (DialReq protocol address random ∷ ps) = refl
first_word (Data c error bytes) (DialRsp reason d random ∷ ps) = refl
first_word (Data c error bytes) (CloseReq d ∷ ps) = refl
first_word (Data c error bytes) (CloseRsp reason d ∷ ps) = refl
first_word (Data c error bytes) (DialCls random ∷ ps) = refl
first_word (Data c error bytes) (Drain ∷ ps) = refl
first_word (Data c error bytes) (Other number ∷ ps) = refl
first_word (DialReq protocol address random) ps = refl
first_word (DialRsp reason d random) ps = refl
first_word (CloseReq d) ps = refl
first_word (CloseRsp reason d) ps = refl
first_word (DialCls random) ps = refl
first_word Drain ps = refl
first_word (Other number) ps = refl

pub same_word : (ps : List Packet) → connect_in_word (all_joined ps) ≡ connect_in_word ps
unfolding all_joined
same_word [] = refl
same_word (p ∷ ps) = first_word p (all_joined ps) ∙ ap (in_cons (connect_in_item p)) (same_word ps)

stream_word : (connect : Bool) (n : ℕ) (D : Option ℕ) (ps : List Packet) → connect ≡ true → stream_in_word connect n D (all_joined ps) ≡ stream_in_word connect n D ps
stream_word true n D ps e = same_word ps
stream_word false n D ps e = absurd cc

pub same_when_joined : (w : World) (f : ℕ) → May (JoinsIn f) w → (k : ℕ) → tunnel (after (JoinsIn f) w) k ≡ tunnel w k
same_when_joined w f may k = same (w.apps k).dial
  where
    in_word : (D : Option ℕ) → stream_in_word (w.streams (w.apps k).stream).connect (w.apps k).number D (cond ((w.apps k).stream == f) (all_joined (w.streams f).up) (w.streams (w.apps k).stream).up) ≡ stream_in_word (w.streams (w.apps k).stream).connect (w.apps k).number D (w.streams (w.apps k).stream).up
    in_word D = by_stream ((w.apps k).stream == f) refl
      where
        by_stream : (b : Bool) → ((w.apps k).stream == f) ≡ b → stream_in_word (w.streams (w.apps k).stream).connect (w.apps k).number D (cond b (all_joined (w.streams f).up) (w.streams (w.apps k).stream).up) ≡ stream_in_word (w.streams (w.apps k).stream).connect (w.apps k).number D (w.streams (w.apps k).stream).up
        by_stream false on = refl
        by_stream true on =
            let at : (w.apps k).stream ≡ f = eqb-true (w.apps k).stream f on in
            let same_list : (w.streams f).up ≡ (w.streams (w.apps k).stream).up = ap (λ i. (w.streams i).up) (sym at) in
            let connects : (w.streams (w.apps k).stream).connect ≡ true = ap (λ i. (w.streams i).connect) at ∙ may in
            ap (λ ps. stream_in_word (w.streams (w.apps k).stream).connect (w.apps k).number D (all_joined ps)) same_list ∙ stream_word (w.streams (w.apps k).stream).connect (w.apps k).number D (w.streams (w.apps k).stream).up connects

    same : (D : Option ℕ) → tunnel_of (after (JoinsIn f) w) (w.apps k) D ≡ tunnel_of w (w.apps k) D
    same None = ap (λ (i : Inward). record (tunnel_of w (w.apps k) None) { inward = i }) (in_word None)
    same (Some d) = ap (λ (i : Inward). record (tunnel_of w (w.apps k) (Some d)) { inward = i }) (in_word (Some d))

pub joins_lift : (w : World) (f : ℕ) → May (JoinsIn f) w → Lifts w (after (JoinsIn f) w)
joins_lift w f may k came = inl (same_when_joined w f may k)
