-- What the tactic leaves open of `gather`.
use Rattle.std.proofs.Common.{rules, arith, ◌≡◌, [], ◌∷◌, ◌++◌, length, map, All, refl, ap, sym}
use Rattle.std.proofs.Common.{◌∙◌, subst, append-nil, append_assoc, length-append}
use mathlib.Core.List.{map-append}
use Rattle.kr_turn.specs.inner.Endings.{part_in}
use Rattle.kr_turn.proofs.Ends.{joins}
use Rattle.kr_turn.proofs.Rows.{All-front, All-last}
use Rattle.kr_turn.proofs.ending.gather.Goals as goal

pub loop-seat-init : goal.loop-seat-init
loop-seat-init g c =
    let was = c.args.first.rests in (
      c.requires.lock.0,
      c.requires.seats,
      record {
        rests = ap (λ t. t.me.0.stage) was;
        bare = ap (λ t. t.me.1) was;
        number = refl;
        seen = refl;
        mine = refl;
        ended = ap (λ t. map part_in c.args.seats.0 ++ t.me.0.ended) was
            ∙ append-nil (map part_in c.args.seats.0);
      },
    )

pub join_seat-requires : goal.join_seat-requires
join_seat-requires g c =
    let T = g.S.Turned in
    let inv = c.loop-seat.invariant in
    let seats = c.in-Some.ensures.items in
    let was = c.in-Some.seat.rests in (
      inv.0,
      All-last (λ seat. seat.token.table_id ≡ c.args.lock.now.table_id) c.pop.new.self.0
          c.in-Some.seat (subst (All (λ seat. seat.token.table_id ≡ c.args.lock.now.table_id)) seats
          inv.1),
      ap (λ t. t.me.1) was,
      search rules,
      joins T.lines T.basis T.room T.seat_of _ _ _ _ _ inv.2.rests (ap (λ t. t.me.0.stage) was)
          (ap (λ t. t.me.0.ended) was),
    )

pub loop-seat-smaller : goal.loop-seat-smaller
loop-seat-smaller g c = let long =
    ap length c.in-Some.ensures.items ∙ length-append c.pop.new.self.0 (c.in-Some.seat ∷ []) in
    omega (arith, long)

pub loop-seat-preserved : goal.loop-seat-preserved
loop-seat-preserved g c =
    let inv = c.loop-seat.invariant in
    let seats = c.in-Some.ensures.items in
    let now = c.join_seat.ensures.2 in
    let left = c.pop.new.self.0 in
    let part = part_in c.in-Some.seat in
    let ended = c.loop-seat.token.me.0.ended in (
      c.join_seat.ensures.0 ∙ inv.0,
      All-front (λ seat. seat.token.table_id ≡ c.args.lock.now.table_id) left c.in-Some.seat
          (subst (All (λ seat. seat.token.table_id ≡ c.args.lock.now.table_id)) seats inv.1),
      record {
        rests = ap (λ m. m.0.stage) now ∙ inv.2.rests;
        bare = ap (λ m. m.1) now ∙ inv.2.bare;
        number = ap (λ m. m.0.number) now ∙ inv.2.number;
        seen = ap (λ m. m.0.seen) now ∙ inv.2.seen;
        mine = ap (λ m. m.0.mine) now ∙ inv.2.mine;
        ended = ap (λ m. map part_in left ++ m.0.ended) now
            ∙ (sym (append_assoc (map part_in left) (part ∷ []) ended)
            ∙ (ap (λ l. l ++ ended) (sym (map-append part_in left (c.in-Some.seat ∷ []))
            ∙ ap (map part_in) (sym seats)) ∙ inv.2.ended));
      },
    )
