-- `let_go`: the last worker is let go first.
use Rattle.std.proofs.Common.{◌∙◌, [], ◌∷◌, ap, arith, length, reverse}
use Rattle.std.proofs.lemmas.List.{length-append}
use Rattle.kr_cmd_fleet.proofs.Crews.{all_outfits, all_replies, last_seat, let_next, none_let}
use Rattle.kr_cmd_fleet.proofs.crew.let_go.Goals as goal

pub loop-worker-init : goal.loop-worker-init
loop-worker-init g c = none_let c.args.workers.0 c.args.outfits.0 c.args.outfits.1
    c.args.replies.1 c.args.replies.0 c.requires.none_told c.requires.seats c.requires.room
    c.requires.room_for_replies

pub into_parts-bench-requires : goal.into_parts-bench-requires
into_parts-bench-requires g c = last_seat c.args.workers.0 c.args.outfits.0
    c.loop-worker.workers.0 c.loop-worker.outfits.0 c.loop-worker.outfits.1
    c.loop-worker.replies.0 c.loop-worker.replies.1 c.loop-worker.invariant c.pop.new.self.0
    c.in-Some.worker c.in-Some.ensures.items

pub push_in_room-requires : goal.push_in_room-requires
push_in_room-requires g c = omega (
  arith,
  c.loop-worker.invariant.room_left,
  ap length c.in-Some.ensures.items,
  length-append c.pop.new.self.0 (c.in-Some.worker ∷ []),
)

pub push_in_room-requires-in-Some : goal.push_in_room-requires-in-Some
push_in_room-requires-in-Some g c = omega (
  arith,
  c.loop-worker.invariant.replies_left,
  ap length c.in-Some.ensures.items,
  length-append c.pop.new.self.0 (c.in-Some.worker ∷ []),
)

pub loop-worker-preserved : goal.loop-worker-preserved
loop-worker-preserved g c = let_next c.args.workers.0 c.args.outfits.0
    c.loop-worker.workers.0 c.loop-worker.outfits.0 c.loop-worker.outfits.1
    c.loop-worker.replies.0 c.loop-worker.replies.1 c.loop-worker.invariant c.pop.new.self.0
    c.in-Some.worker c.in-Some.ensures.items
    (record { links = c.close-links.result.0; dice = c.close-links.result.1 })
    c.into_parts-bench.result.1 c.push_in_room.new.self.0 c.push_in_room-in-Some.new.self.0
    c.push_in_room.new.self.1 c.push_in_room-in-Some.new.self.1
    (λ i. record {
      links = (c.close-links.ensures.0 ∙ ap (λ b. b.links) c.into_parts-bench.ensures.0) i;
      dice = (c.close-links.ensures.1 ∙ ap (λ b. b.dice) c.into_parts-bench.ensures.0) i;
    })
    c.into_parts-bench.ensures.1 c.push_in_room.ensures.items c.push_in_room-in-Some.ensures.items
    c.push_in_room.ensures.room c.push_in_room-in-Some.ensures.room

pub returns-clause-outfits : goal.returns-clause-outfits
returns-clause-outfits g c = c.in_turn.ensures
    ∙ all_outfits c.args.workers.0 c.args.outfits.0 c.loop-worker.workers.0
    c.loop-worker.outfits.0 c.loop-worker.outfits.1 c.loop-worker.replies.0
    c.loop-worker.replies.1 c.loop-worker.invariant c.in_default.ensures.items.0

pub returns-clause-replies : goal.returns-clause-replies
returns-clause-replies g c = c.from_vec.ensures ∙ c.reverse.ensures.items
    ∙ ap reverse c.into_vec-replies.ensures
    ∙ all_replies c.args.workers.0 c.args.outfits.0 c.loop-worker.workers.0
    c.loop-worker.outfits.0 c.loop-worker.outfits.1 c.loop-worker.replies.0
    c.loop-worker.replies.1 c.loop-worker.invariant c.in_default.ensures.items.0
