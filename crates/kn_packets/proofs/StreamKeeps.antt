-- The moves at the far end of a stream that has begun keep the facts on keys.
use Rattle.std.proofs.Common.{◌≡◌, ◌==◌, ◌&&◌, ◌||◌, ◌++◌, ℕ, pos, Bool, true, false, not, cond, List, [], ◌∷◌, take, Option, Some, None, inl, inr, refl, sym, ap, ◌∙◌, eqb-true, subst, append-nil}
use Rattle.kn_packet.specs.declared.packet.Packet.{Packet}
use Rattle.kn_packet.specs.declared.packet.Packet.TheVariants.{CloseReq, CloseRsp, Data, DialCls, DialReq, DialRsp, Drain, Other}
use Rattle.kn_tunnel.specs.Facts.{Facts}
use Rattle.kn_tunnel.specs.Kinds.{is_dialling, is_gone, is_opened, left_phase}
use Rattle.kn_tunnel.specs.Tunnel.{Phase, Side}
use Rattle.kn_tunnel.proofs.OrderChecks.{in_order_kept}
use Rattle.kn_words.specs.In.{InItem, in_follows, in_of, in_ordered, stream_in_item, stream_in_word}
use Rattle.kn_words.proofs.InOrder.{in_order_append, in_prefix_ordered}
use Rattle.kn_packets.specs.Keys.{Keys}
use Rattle.kn_packets.specs.Lifts.{Lifts}
use Rattle.kn_packets.specs.Moves.{AppHands, AppSends, ConnectLeaves, ConnectTakes, DropsIn, DropsOut, IsFrontOf, May, after, hands, sends, side_if, takes_connect}
use Rattle.kn_packets.specs.Outputs.{queued}
use Rattle.kn_packets.specs.World.{World, phase_in, tunnel_of}
use Rattle.kn_packets.proofs.Connections.{app_sends_lifts, connect_leaves_lifts, connect_takes_lifts, drops_in_lifts, drops_out_lifts}
use Rattle.kn_packets.proofs.StreamKept.{Queue, Shift, shift_keeps}
use Rattle.kn_packets.proofs.Taken.{and_first, and_second}

-- ---- the lists of a stream
same_up : (w : World) (i : ℕ) → Queue w i (w.streams i).up
same_up w i = inl ([], append-nil (w.streams i).up)

front_up : (w : World) (f : ℕ) (left : List Packet) → IsFrontOf left (w.streams f).up → (i : ℕ) → Queue w i (cond (i == f) left (w.streams i).up)
front_up w f left h i = here (i == f) refl
  where
    here : (b : Bool) → (i == f) ≡ b → Queue w i (cond b left (w.streams i).up)
    here true on = inl (h.0, h.1 ∙ ap (λ j. (w.streams j).up) (sym (eqb-true i f on)))
    here false off = same_up w i

rear_down : (w : World) (f : ℕ) (taken rest : List Packet) → taken ++ rest ≡ (w.streams f).down → (i : ℕ) → (before : List Packet) × (before ++ cond (i == f) rest (w.streams i).down ≡ (w.streams i).down)
rear_down w f taken rest h i = here (i == f) refl
  where
    here : (b : Bool) → (i == f) ≡ b → (before : List Packet) × (before ++ cond b rest (w.streams i).down ≡ (w.streams i).down)
    here true on = (taken, h ∙ ap (λ j. (w.streams j).down) (sym (eqb-true i f on)))
    here false off = ([], refl)

-- the one that is left where nothing is
none_down : (w : World) (f : ℕ) (rest : List Packet) (i : ℕ) → (before : List Packet) × (before ++ cond (i == f) [] (cond (i == f) rest (w.streams i).down) ≡ (w.streams i).down)
none_down w f rest i = here (i == f)
  where
    here : (b : Bool) → (before : List Packet) × (before ++ cond b [] (cond b rest (w.streams i).down) ≡ (w.streams i).down)
    here true = ((w.streams i).down, append-nil (w.streams i).down)
    here false = ([], refl)

none_left : (w : World) (f i : ℕ) → (before : List Packet) × (before ++ cond (i == f) [] (w.streams i).down ≡ (w.streams i).down)
none_left w f i = here (i == f)
  where
    here : (b : Bool) → (before : List Packet) × (before ++ cond b [] (w.streams i).down ≡ (w.streams i).down)
    here true = ((w.streams i).down, append-nil (w.streams i).down)
    here false = ([], refl)

-- an end that loses its stream had it
had : (w : World) (f i : ℕ) → cond (i == f) false (w.streams i).client ≡ true → (w.streams i).client ≡ true
had w f i h = here (i == f) h
  where
    here : (b : Bool) → cond b false (w.streams i).client ≡ true → (w.streams i).client ≡ true
    here true h = absurd cc
    here false h = h

-- only a CONNECT app leaves so
not_left : (w : World) (f : ℕ) → (w.streams f).connect ≡ true → (k : ℕ) → (w.streams (w.apps k).stream).connect ≡ false → cond ((w.apps k).stream == f) (left_phase (w.apps k).phase) (w.apps k).phase ≡ (w.apps k).phase
not_left w f connect k client = here ((w.apps k).stream == f) refl
  where
    here : (b : Bool) → ((w.apps k).stream == f) ≡ b → cond b (left_phase (w.apps k).phase) (w.apps k).phase ≡ (w.apps k).phase
    here true on = let yes : (w.streams (w.apps k).stream).connect ≡ true = ap (λ j. (w.streams j).connect) (eqb-true (w.apps k).stream f on) ∙ connect in absurd (cc (yes, client))
    here false off = refl

unwritten_if : (b : Bool) (change : Side → Side) → ((s : Side) → (change s).unwritten ≡ s.unwritten) → (s : Side) → (side_if b change s).unwritten ≡ s.unwritten
unwritten_if true change same s = same s
unwritten_if false change same s = refl

in_order_by : (item : Packet → InItem) (b : Bool) (ps : List Packet) (p : Packet) → in_ordered item ps ≡ true → (b ≡ true → in_follows (in_of item ps) (item p) ≡ true) → in_ordered item (queued b ps (p ∷ [])) ≡ true
in_order_by item true ps p h f = in_order_append item ps p h (f refl)
in_order_by item false ps p h f = h

module _ (w : World) (keys : Keys w) where
  abbrev ins : ℕ → List Packet
  ins i = (w.streams i).up

  abbrev outs : ℕ → List Packet
  outs i = (w.streams i).down

  abbrev theirs : ℕ → Bool
  theirs i = (w.streams i).client

  abbrev phases : ℕ → Phase
  phases k = (w.apps k).phase

  abbrev sides : ℕ → Side
  sides k = (w.apps k).side

  same_order : (k : ℕ) → (w.apps k).came ≡ true → in_ordered (stream_in_item (w.streams (w.apps k).stream).connect (w.apps k).number (w.apps k).dial) (ins (w.apps k).stream) ≡ true
  same_order k came = (keys.ordered k came).inward

  front_order : (f : ℕ) (left : List Packet) → IsFrontOf left (ins f) → (k : ℕ) → (w.apps k).came ≡ true
      → in_ordered (stream_in_item (w.streams (w.apps k).stream).connect (w.apps k).number (w.apps k).dial) (cond ((w.apps k).stream == f) left (ins (w.apps k).stream)) ≡ true
  front_order f left h k came = here (stream_in_item (w.streams (w.apps k).stream).connect (w.apps k).number (w.apps k).dial) (same_order k came) ((w.apps k).stream == f) refl
    where
      here : (item : Packet → InItem) → in_ordered item (ins (w.apps k).stream) ≡ true → (b : Bool) → ((w.apps k).stream == f) ≡ b → in_ordered item (cond b left (ins (w.apps k).stream)) ≡ true
      here item old true on = in_prefix_ordered item left h.0 (subst (λ ps. in_ordered item ps ≡ true) (sym h.1) (subst (λ j. in_ordered item (ins j) ≡ true) (eqb-true (w.apps k).stream f on) old))
      here item old false off = old

  pub drops_in_keep : (f : ℕ) → May (DropsIn f) w → Keys (after (DropsIn f) w)
  drops_in_keep f may = shift_keeps w theirs (λ i. cond (i == f) [] (ins i)) outs phases sides keys shift (drops_in_lifts w f may)
    where
      shift : Shift w theirs (λ i. cond (i == f) [] (ins i)) outs phases sides
      shift = record {
        client = λ i h. h;
        up = front_up w f [] (ins f, refl);
        down = λ i. ([], refl);
        phase = λ k c. refl;
        unwritten = λ k. refl;
        inward = front_order f [] (ins f, refl);
      }

  pub drops_out_keep : (f : ℕ) → May (DropsOut f) w → Keys (after (DropsOut f) w)
  drops_out_keep f may = shift_keeps w theirs ins (λ i. cond (i == f) [] (outs i)) phases sides keys shift (drops_out_lifts w f may)
    where
      shift : Shift w theirs ins (λ i. cond (i == f) [] (outs i)) phases sides
      shift = record { client = λ i h. h; up = same_up w; down = none_left w f; phase = λ k c. refl; unwritten = λ k. refl; inward = same_order }

  pub app_sends_keep : (a : ℕ) (bytes : List ℕ) → Keys (after (AppSends a bytes) w)
  app_sends_keep a bytes = shift_keeps w theirs ins outs phases (λ k. side_if (k == a) (sends bytes) (sides k)) keys shift (app_sends_lifts w a bytes)
    where
      shift : Shift w theirs ins outs phases (λ k. side_if (k == a) (sends bytes) (sides k))
      shift = record {
        client = λ i h. h;
        up = same_up w;
        down = λ i. ([], refl);
        phase = λ k c. refl;
        unwritten = λ k. unwritten_if (k == a) (sends bytes) (λ s. refl) (sides k);
        inward = same_order;
      }

  pub connect_leaves_keep : (f : ℕ) (left : List Packet) → May (ConnectLeaves f left) w → Keys (after (ConnectLeaves f left) w)
  connect_leaves_keep f left may = shift_keeps w (λ i. cond (i == f) false (theirs i)) (λ i. cond (i == f) left (ins i)) (λ i. cond (i == f) [] (outs i)) (λ k. cond ((w.apps k).stream == f) (left_phase (phases k)) (phases k)) sides keys shift (connect_leaves_lifts w f left keys may)
    where
      shift : Shift w (λ i. cond (i == f) false (theirs i)) (λ i. cond (i == f) left (ins i)) (λ i. cond (i == f) [] (outs i)) (λ k. cond ((w.apps k).stream == f) (left_phase (phases k)) (phases k)) sides
      shift = record {
        client = had w f;
        up = front_up w f left may.1;
        down = none_left w f;
        phase = not_left w f (and_second (w.streams f).client (w.streams f).connect may.0);
        unwritten = λ k. refl;
        inward = front_order f left may.1;
      }

  -- ---- a CONNECT app takes a packet
  module _ (f : ℕ) (connect : (w.streams f).connect ≡ true) (p : Packet) (rest : List Packet) (first : (w.streams f).down ≡ p ∷ rest) where
    abbrev rests : ℕ → List Packet
    rests i = cond (i == f) rest (outs i)

    rest_down : (i : ℕ) → (before : List Packet) × (before ++ rests i ≡ outs i)
    rest_down = rear_down w f (p ∷ []) rest (sym first)

    taken : Shift w theirs ins rests phases sides
    taken = record { client = λ i h. h; up = same_up w; down = rest_down; phase = λ k c. refl; unwritten = λ k. refl; inward = same_order }

    leaves : Shift w (λ i. cond (i == f) false (theirs i)) ins (λ i. cond (i == f) [] (rests i)) (λ k. cond ((w.apps k).stream == f) (left_phase (phases k)) (phases k)) sides
    leaves = record { client = had w f; up = same_up w; down = none_down w f rest; phase = not_left w f connect; unwritten = λ k. refl; inward = same_order }

    gets : (bytes : List ℕ) → Shift w theirs ins rests phases (λ k. side_if ((w.apps k).stream == f) (λ s. record s { got = s.got ++ bytes }) (sides k))
    gets bytes = record {
      client = λ i h. h;
      up = same_up w;
      down = rest_down;
      phase = λ k c. refl;
      unwritten = λ k. unwritten_if ((w.apps k).stream == f) (λ s. record s { got = s.got ++ bytes }) (λ s. refl) (sides k);
      inward = same_order;
    }

    take_keeps : Lifts w (takes_connect f (p ∷ rest) w) → Keys (takes_connect f (p ∷ rest) w)
    take_keeps = by_packet p
      where
        by_packet : (q : Packet) → Lifts w (takes_connect f (q ∷ rest) w) → Keys (takes_connect f (q ∷ rest) w)
        by_packet (DialRsp [] c r) = shift_keeps w theirs ins rests phases sides keys taken
        by_packet (DialRsp (x ∷ xs) c r) = shift_keeps w (λ i. cond (i == f) false (theirs i)) ins (λ i. cond (i == f) [] (rests i)) (λ k. cond ((w.apps k).stream == f) (left_phase (phases k)) (phases k)) sides keys leaves
        by_packet (CloseRsp e c) = shift_keeps w (λ i. cond (i == f) false (theirs i)) ins (λ i. cond (i == f) [] (rests i)) (λ k. cond ((w.apps k).stream == f) (left_phase (phases k)) (phases k)) sides keys leaves
        by_packet (Data c e bytes) = shift_keeps w theirs ins rests phases (λ k. side_if ((w.apps k).stream == f) (λ s. record s { got = s.got ++ bytes }) (sides k)) keys (gets bytes)
        by_packet (DialReq x y z) = shift_keeps w theirs ins rests phases sides keys taken
        by_packet (CloseReq c) = shift_keeps w theirs ins rests phases sides keys taken
        by_packet (DialCls c) = shift_keeps w theirs ins rests phases sides keys taken
        by_packet Drain = shift_keeps w theirs ins rests phases sides keys taken
        by_packet (Other n) = shift_keeps w theirs ins rests phases sides keys taken

  pub connect_takes_keep : (f : ℕ) → May (ConnectTakes f) w → Keys (after (ConnectTakes f) w)
  connect_takes_keep f may = by_list (outs f) refl (connect_takes_lifts w f keys may)
    where
      by_list : (ps : List Packet) → outs f ≡ ps → Lifts w (takes_connect f ps w) → Keys (takes_connect f ps w)
      by_list [] none lifts = keys
      by_list (p ∷ rest) first lifts = take_keeps f (and_second (w.streams f).client (w.streams f).connect may) p rest first lifts

  -- ---- a CONNECT app hands bytes over
  module _ (a n : ℕ) (connect : (w.streams (w.apps a).stream).connect ≡ true) (may : May (AppHands a n) w) where
    abbrev f : ℕ
    f = (w.apps a).stream

    abbrev bytes : List ℕ
    bytes = take n (w.apps a).side.kept

    abbrev there : Bool
    there = not (is_gone (w.streams f).front)

    abbrev more : ℕ → List Packet
    more i = cond (i == f) (queued (not (is_gone (w.streams i).front)) (ins i) (Data (pos 0) [] bytes ∷ [])) (ins i)

    abbrev handed : ℕ → Side
    handed k = side_if (k == a) (hands n) (sides k)

    more_up : (i : ℕ) → Queue w i (more i)
    more_up i = here (i == f) refl (not (is_gone (w.streams i).front))
      where
        here : (b : Bool) → (i == f) ≡ b → (c : Bool) → Queue w i (cond b (queued c (ins i) (Data (pos 0) [] bytes ∷ [])) (ins i))
        here true on true = inr (ap (λ j. (w.streams j).connect) (eqb-true i f on) ∙ connect, bytes, refl)
        here true on false = same_up w i
        here false off c = same_up w i

    came_a : (w.apps a).came ≡ true
    came_a = and_first (w.apps a).came (is_opened (phase_in w (w.apps a)) || ((w.streams f).connect && is_dialling (phase_in w (w.apps a)))) may

    -- no close is on the way
    no_close : there ≡ true → not (stream_in_word (w.streams f).connect (w.apps a).number (w.apps a).dial (ins f)).close ≡ true
    no_close here = by_dial (w.apps a).dial (keys.facts a came_a)
      where
        open_now : (is_opened (phase_in w (w.apps a)) || ((w.streams f).connect && is_dialling (phase_in w (w.apps a)))) ≡ true
        open_now = and_second (w.apps a).came (is_opened (phase_in w (w.apps a)) || ((w.streams f).connect && is_dialling (phase_in w (w.apps a)))) may

        by_dial : (D : Option ℕ) → Facts (tunnel_of w (w.apps a) D) → not (stream_in_word (w.streams f).connect (w.apps a).number D (ins f)).close ≡ true
        by_dial None facts = rw (open_now, here) at (in_order_kept (tunnel_of w (w.apps a) None) facts.stream)
        by_dial (Some d) facts = rw (open_now, here) at (in_order_kept (tunnel_of w (w.apps a) (Some d)) facts.stream)

    own_order : in_ordered (stream_in_item (w.streams f).connect (w.apps a).number (w.apps a).dial) (queued there (ins f) (Data (pos 0) [] bytes ∷ [])) ≡ true
    own_order = in_order_by (stream_in_item (w.streams f).connect (w.apps a).number (w.apps a).dial) there (ins f) (Data (pos 0) [] bytes) (same_order a came_a) (λ here. rw connect (rw connect at (no_close here)))

    abbrev Fits : Bool → ℕ → Type 0
    Fits b j = in_ordered (stream_in_item (w.streams (w.apps j).stream).connect (w.apps j).number (w.apps j).dial)
        (cond b (queued (not (is_gone (w.streams (w.apps j).stream).front)) (ins (w.apps j).stream) (Data (pos 0) [] bytes ∷ [])) (ins (w.apps j).stream)) ≡ true

    more_order : (k : ℕ) → (w.apps k).came ≡ true → Fits ((w.apps k).stream == f) k
    more_order k came = here ((w.apps k).stream == f) refl
      where
        here : (b : Bool) → ((w.apps k).stream == f) ≡ b → Fits b k
        here true on = subst (λ j. Fits true j) (keys.clients.connect_one a k came_a came (sym (eqb-true (w.apps k).stream f on)) connect) own_order
        here false off = same_order k came

    hands_shift : Shift w theirs more outs phases handed
    hands_shift = record {
      client = λ i h. h;
      up = more_up;
      down = λ i. ([], refl);
      phase = λ k c. refl;
      unwritten = λ k. unwritten_if (k == a) (hands n) (λ s. refl) (sides k);
      inward = more_order;
    }

    pub connect_hands_keep : Lifts w (after (AppHands a n) w) → Keys (after (AppHands a n) w)
    connect_hands_keep = rw connect (shift_keeps w theirs more outs phases handed keys hands_shift)
