-- What holds of a connection at its beginning, after an event was told, and after want of memory.
use Rattle.std.proofs.Common.{◌≡◌, pos, false, List, [], None, refl, arith}
use Rattle.std.proofs.lemmas.Int.{ints}
use Rattle.kn_h2_state.specs.declared.role.Role.{Role}
use Rattle.kn_h2_state.specs.declared.event.H2Event.{H2Event}
use Rattle.kn_h2_state.specs.declared.state.State.{State}
use Rattle.kn_h2_state.specs.Limits.{connection_window}
use Rattle.kn_h2_state.specs.Outgoing.{nothing_out, count_true}
use Rattle.kn_h2_state.specs.Calls.{fresh_state, opening}
use Rattle.kn_h2_state.specs.Holding.{Rising, text_bytes, Holds}
use Rattle.kn_h2.proofs.HoldsLemmas.{replies_same, marked_put}

pub holds_told : (s : State) (es : List H2Event) → Holds s → Holds (record s { events = es })
holds_told s es h = record { rising = h.rising; numbers = h.numbers; parity = h.parity; kept = h.kept; rest = h.rest; sums = h.sums; sum = h.sum; room = h.room; rooms = h.rooms; high = h.high; block = h.block; replies = h.replies; marked = h.marked; initial = h.initial }

rising_none : Rising 0 0 []
unfolding Rising
rising_none = omega arith

no_text : text_bytes [] ≡ 0
unfolding text_bytes
no_text = refl

no_replies : count_true [] ≡ 0
unfolding count_true
no_replies = refl

pub holds_fresh : (role : Role) → Holds (fresh_state role)
unfolding fresh_state
holds_fresh role = record {
  rising = rising_none;
  numbers = omega arith;
  parity = refl;
  kept = tt;
  rest = tt;
  sums = tt;
  sum = let none = no_text in omega (arith, ints);
  room = omega (arith, ints);
  rooms = tt;
  high = tt;
  block = tt;
  replies = let e = replies_same nothing_out (opening role) in let none = no_replies in omega arith;
  marked = marked_put nothing_out false (opening role) refl;
  initial = omega arith;
}

-- with no streams, and nothing that waits
pub holds_ruined : (s : State) → s.streams ≡ [] → s.receive ≡ pos connection_window → s.owed ≡ 0 → s.opened ≡ 0 → s.block ≡ None → s.initial ≡ 65535 → s.out ≡ nothing_out → Holds s
holds_ruined s streams receive owed opened block initial out = record {
  rising = rw (opened, streams) rising_none;
  numbers = omega arith;
  parity = rw opened refl;
  kept = rw streams tt;
  rest = rw streams tt;
  sums = rw streams tt;
  sum = rw (receive, owed, streams) (let none = no_text in omega (arith, ints));
  room = rw receive (omega (arith, ints));
  rooms = rw streams tt;
  high = rw streams tt;
  block = rw block tt;
  replies = rw out (let none = no_replies in omega arith);
  marked = rw out refl;
  initial = omega arith;
}
