use Rattle.std.proofs.Common.{◌≡◌, ◌<◌, ◌+◌, ◌++◌, ◌∷◌, [], List, length, Some, sym, ap, subst, ◌∙◌, arith, length-append}
use Rattle.std.specs.Prelude.{sum, slice_set}
use Rattle.kr_judge.specs.Boards.{BoardState, given_to}
use Rattle.kr_opening.specs.declared.generation.Generation.{Generation}
use Rattle.kr_rollout.specs.Openings.{room_of}
use Rattle.kr_rollout.specs.inner.Rollouts.{RolloutState, IsRollout, opening_of, state_with}
use Rattle.kr_rollout.proofs.Changing.{board_long, board_room, rollout_grown, taken_view}
use Rattle.kr_rollout.proofs.rollout.Rollout.push_generation.Goals as goal

pub add-number-requires : goal.add-number-requires
add-number-requires g c =
    let room : length c.self.inside.generations.0
    < length c.self.inside.replicas.0 + sum c.self.inside.reloads.items =
    subst (λ (x : RolloutState). length x.state.generations < room_of x.opening)
    (sym c.self.view_is) c.requires.room in
    omega (
      arith,
      room,
      board_long _ _ c.self.inside.board c.self.invariant.0,
      board_room _ _ c.self.inside.board c.self.invariant.0,
    )

pub push_in_room-requires : goal.push_in_room-requires
push_in_room-requires g c =
    let room : length c.self.inside.generations.0
    < length c.self.inside.replicas.0 + sum c.self.inside.reloads.items =
    subst (λ (x : RolloutState). length x.state.generations < room_of x.opening)
    (sym c.self.view_is) c.requires.room in
    omega (arith, room, c.self.invariant.2)

pub invariant_of-self : goal.invariant_of-self
invariant_of-self g c =
    let replica = subst (λ (x : RolloutState). c.args.replica < length x.opening.replicas)
    (sym c.self.view_is) c.requires.replica in
    let number : c.add-number.result ≡ length c.self.inside.generations.0 =
    c.add-number.ensures.number ∙ board_long _ _ c.self.inside.board c.self.invariant.0 in
    let added : c.add-number.new.self ≡ record c.self.inside.board {
      generations = given_to c.args.replica c.args.published.rows
          c.self.inside.board.generations;
    } = c.add-number.ensures.added ∙ ap (λ rows. record c.self.inside.board {
      generations = given_to c.args.replica rows c.self.inside.board.generations;
    }) c.requires.same in
    let o = opening_of c.self.inside.store c.self.inside.first_rows c.self.inside.replicas.0
    c.self.inside.names.0 c.self.inside.reloads.items c.self.inside.first_faults
    c.self.inside.first_torn in
    let base = rollout_grown o c.self.inside.store c.self.inside.board c.add-number.new.self
    c.self.inside.generations.0 c.self.inside.current.items c.self.inside.held.items
    c.self.invariant.0 c.args.replica c.args.published replica added in (
      subst (λ (l : List Generation). IsRollout o (state_with c.self.inside.store
          c.add-number.new.self l
          (slice_set c.self.inside.current.items c.args.replica (Some c.add-number.result))
          c.self.inside.held.items) c.add-number.new.self) (sym c.push_in_room.ensures.items)
          (subst (λ n. IsRollout o (state_with c.self.inside.store c.add-number.new.self
          (c.self.inside.generations.0
          ++ record { replica = c.args.replica; published = c.args.published } ∷ [])
          (slice_set c.self.inside.current.items c.args.replica (Some n))
          c.self.inside.held.items) c.add-number.new.self) (sym number) base),
      c.self.invariant.1,
      omega (
        arith,
        c.self.invariant.2,
        c.push_in_room.ensures.room,
        ap (λ (l : List Generation). length l) c.push_in_room.ensures.items,
        length-append c.self.inside.generations.0
            (record { replica = c.args.replica; published = c.args.published } ∷ []),
      ),
    )

pub returns-clause-number : goal.returns-clause-number
returns-clause-number g c =
    c.add-number.ensures.number ∙ board_long _ _ c.self.inside.board c.self.invariant.0
    ∙ ap (λ (x : RolloutState). length x.state.generations) c.self.view_is

pub returns-clause-taken : goal.returns-clause-taken
returns-clause-taken g c =
    taken_view _ c.self.inside.store c.self.inside.board c.add-number.new.self
    c.self.inside.generations.0 c.push_in_room.new.self.0 c.self.inside.current.items
    c.self.inside.held.items c.args.replica c.add-number.result c.args.published c.args.self.now
    c.self.view_is (ap (λ (b : BoardState). b.needs) c.add-number.ensures.added)
    c.push_in_room.ensures.items
    (c.add-number.ensures.number ∙ board_long _ _ c.self.inside.board c.self.invariant.0)
