-- Each tunnel is in a row of its tables, by computing it at every view that meets the facts.
use Rattle.std.proofs.Common.{List, [], ◌∷◌, ◌≡◌, ◌&&◌, ℕ, Bool, true, false, not, zero, suc, cond, refl, ap}
use Rattle.kn_tunnel.specs.ConnectRows.{AppLeft, ConnectRow, Connected, HeadComes, HeadWaits, InOneConnectRow, LostBoth, LostDialling, LostOpen, LostRefused, ServerClosed, ServerRefused, connect_rows_met, in_connect_row}
use Rattle.kn_tunnel.specs.Kinds.{is_gone}
use Rattle.kn_tunnel.specs.LinkRows.{AgentEnded, CloseAnswered, CloseAsked, CloseCrosses, Done, InOneLinkRow, LinkRow, Passing, ReplyOnItsWay, ReplyThenClose, StillWriting, UnawaitedClosed, UnawaitedLeft, in_link_row, link_rows_met}
use Rattle.kn_tunnel.specs.LinkSide.{LinkView, link_ok, link_view}
use Rattle.kn_tunnel.specs.StreamRows.{Asks, AsksAndCancels, Cancels, CloseComes, ClosedSoon, Closes, ClosesCross, InStreamRow, LeftAndClosed, LeftUnopened, Open, OpensAndCloses, OpensSoon, Over, OverBefore, RefusedSoon, ServerCloses, StreamRow, Waits, in_stream_row}
use Rattle.kn_tunnel.specs.StreamSide.{StreamView, stream_ok, stream_view}
use Rattle.kn_tunnel.specs.Tunnel.{Tunnel}
use Rattle.kn_tunnel.proofs.Every.{met, when}
use Rattle.kn_tunnel.proofs.EveryLink.{at_ok, ok_views}
use Rattle.kn_tunnel.proofs.EveryStream.{at_stream, ok_streams}
use Rattle.kn_tunnel.proofs.ListBits.{both}

abbrev pub is_one : ℕ → Bool
is_one zero = false
is_one (suc zero) = true
is_one (suc (suc n)) = false

pub one_is : (n : ℕ) → is_one n ≡ true → n ≡ 1
one_is zero e = absurd cc
one_is (suc zero) e = refl
one_is (suc (suc n)) e = absurd cc

-- the first of the rows that holds, or else the last
abbrev first_of_rows : {A : Type 0} → (A → Bool) → List A → A → A
first_of_rows p [] last = last
first_of_rows p (r ∷ rs) last = cond (p r) r (first_of_rows p rs last)

abbrev the_link_row : LinkView → LinkRow
the_link_row v = first_of_rows (λ r. in_link_row r v) (ReplyOnItsWay ∷ ReplyThenClose ∷ Passing ∷ AgentEnded ∷ CloseAsked ∷ CloseCrosses ∷ StillWriting ∷ CloseAnswered ∷ UnawaitedClosed ∷ UnawaitedLeft ∷ []) Done

abbrev link_row_holds_at : LinkView → Bool
link_row_holds_at v = when (v.server && v.agent && v.cid) (in_link_row (the_link_row v) v)

link_row_holds : ok_views link_row_holds_at ≡ true
link_row_holds = refl

abbrev link_row_once_at : LinkView → Bool
link_row_once_at v = when (v.server && v.agent && v.cid) (is_one (link_rows_met v))

link_row_once : ok_views link_row_once_at ≡ true
link_row_once = refl

pub link_row_of : (t : Tunnel) → link_ok (link_view t) ≡ true → t.server ≡ true → t.agent ≡ true → t.cid ≡ true → InOneLinkRow t
link_row_of t h s a c =
    let g = both (t.server && t.agent) t.cid (both t.server t.agent s a) c in
    record {
      row = the_link_row (link_view t);
      holds = met _ _ (at_ok link_row_holds_at link_row_holds (link_view t) h) g;
      once = one_is (link_rows_met (link_view t)) (met _ _ (at_ok link_row_once_at link_row_once (link_view t) h) g);
    }

abbrev the_stream_row : StreamView → StreamRow
the_stream_row v = first_of_rows (λ r. in_stream_row r v) (Asks ∷ AsksAndCancels ∷ Waits ∷ Cancels ∷ RefusedSoon ∷ OverBefore ∷ OpensSoon ∷ OpensAndCloses ∷ LeftUnopened ∷ LeftAndClosed ∷ Open ∷ ClosedSoon ∷ Closes ∷ ServerCloses ∷ ClosesCross ∷ CloseComes ∷ []) Over

abbrev stream_row_holds_at : StreamView → Bool
stream_row_holds_at v = when (not v.connect && v.client && not (is_gone v.front)) (in_stream_row (the_stream_row v) v)

stream_row_holds : ok_streams stream_row_holds_at ≡ true
stream_row_holds = refl

pub stream_row_of : (t : Tunnel) → stream_ok (stream_view t) ≡ true → t.connect ≡ false → t.client ≡ true → is_gone t.front ≡ false → InStreamRow t
stream_row_of t h n c f =
    record {
      row = the_stream_row (stream_view t);
      holds = met _ _ (at_stream stream_row_holds_at stream_row_holds (stream_view t) h)
          (both (not t.connect && t.client) (not (is_gone t.front)) (both (not t.connect) t.client (ap not n) c) (ap not f));
    }

abbrev the_connect_row : StreamView → ConnectRow
the_connect_row v = first_of_rows (λ r. in_connect_row r v) (HeadComes ∷ HeadWaits ∷ Connected ∷ ServerClosed ∷ ServerRefused ∷ AppLeft ∷ LostDialling ∷ LostOpen ∷ LostRefused ∷ []) LostBoth

abbrev connect_row_holds_at : StreamView → Bool
connect_row_holds_at v = when v.connect (in_connect_row (the_connect_row v) v)

connect_row_holds : ok_streams connect_row_holds_at ≡ true
connect_row_holds = refl

abbrev connect_row_once_at : StreamView → Bool
connect_row_once_at v = when v.connect (is_one (connect_rows_met v))

connect_row_once : ok_streams connect_row_once_at ≡ true
connect_row_once = refl

pub connect_row_of : (t : Tunnel) → stream_ok (stream_view t) ≡ true → t.connect ≡ true → InOneConnectRow t
connect_row_of t h c = record {
  row = the_connect_row (stream_view t);
  holds = met _ _ (at_stream connect_row_holds_at connect_row_holds (stream_view t) h) c;
  once = one_is (connect_rows_met (stream_view t)) (met _ _ (at_stream connect_row_once_at connect_row_once (stream_view t) h) c);
}
