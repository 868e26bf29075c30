-- Each place where a move is found, or none.
use Rattle.kn_h2.proofs.FindLemmas.{room_from, stopped_by_failure, stopped_by_room, grant_all_found, found_in, some_found, none_found}
use Rattle.kn_h2.proofs.finding.next_move.Goals as goal

pub returns-then-is_some-clause-none : goal.returns-then-is_some-clause-none
returns-then-is_some-clause-none c = stopped_by_failure c.args.state.now c.is_some.result c.is_some.ensures c.if-is_some.true

pub returns-then-is_full-clause-none : goal.returns-then-is_full-clause-none
returns-then-is_full-clause-none c = stopped_by_room c.args.state.now c.is_full.result c.is_full.ensures c.if-is_full.true

pub returns-then-state-ge-GRANT_SIZE-clause-some : goal.returns-then-state-ge-GRANT_SIZE-clause-some
returns-then-state-ge-GRANT_SIZE-clause-some c =
    let room = room_from c.args.state.now c.is_some.result c.is_full.result c.is_some.ensures c.if-is_some.false c.is_full.ensures c.if-is_full.false c.requires.rising in
    grant_all_found c.args.state.now room c.if-state-ge-GRANT_SIZE.true

pub returns-in-Some-clause-some : goal.returns-in-Some-clause-some
returns-in-Some-clause-some c =
    let room = room_from c.args.state.now c.is_some.result c.is_full.result c.is_some.ensures c.if-is_some.false c.is_full.ensures c.if-is_full.false c.requires.rising in
    found_in c.args.state.now c.as_slice.result.now c.in-Some.next room c.as_slice.ensures (c.in-Some.ensures.some c.args.state.now.send)

pub returns-in-None-clause-some : goal.returns-in-None-clause-some
returns-in-None-clause-some c =
    let room = room_from c.args.state.now c.is_some.result c.is_full.result c.is_some.ensures c.if-is_some.false c.is_full.ensures c.if-is_full.false c.requires.rising in
    some_found c.args.state.now c.as_slice-in-None.result.now c.move_of_turn.result room c.as_slice-in-None.ensures c.move_of_turn.ensures.some

pub returns-in-None-clause-none : goal.returns-in-None-clause-none
returns-in-None-clause-none c =
    none_found c.args.state.now c.as_slice.result.now c.as_slice-in-None.result.now c.move_of_turn.result c.if-state-ge-GRANT_SIZE.false
    c.as_slice.ensures c.as_slice-in-None.ensures c.in-None.ensures.none c.move_of_turn.ensures.none
