use Rattle.std.proofs.Common.{ℕ, List, length, Option, refl, ap, arith}
use Rattle.std.specs.Prelude.{sum}
use Rattle.kr_provider.specs.Publication.{Publication}
use Rattle.kr_rollout.proofs.Beginning.{opened_rollout, starts}
use Rattle.kr_rollout.proofs.rollout.Rollout.start.Goals as goal

pub invariant_of-result : goal.invariant_of-result
invariant_of-result g c = (
  opened_rollout c.args.store c.args.replicas.0 c.args.names.0 c.args.reloads.now
      c.in-Ok-make_opening_board.board c.as_slice.ensures c.requires.seats.1
      c.revision-first_rows.ensures c.faults-first_faults.ensures c.torn-first_torn.ensures
      c.in-Ok.ensures.generations c.in-Ok.ensures.current c.in-Ok.ensures.held c.in-Ok.ensures.reloads
      c.in-Ok.ensures.room c.in-Ok.ensures.settings c.in-Ok-make_opening_board.ensures
      (omega (arith, c.requires.seats.0, c.requires.seats.1)),
  omega (arith, c.revision-first_rows.ensures),
  omega (
    arith,
    c.in-Ok.ensures.spare,
    c.in-Ok.ensures.room,
    ap (λ (l : List ℕ). sum l) c.in-Ok.ensures.reloads,
    ap (λ (l : List (Option Publication)). length l) c.as_slice.ensures,
  ),
)

pub returns-clause-opens : goal.returns-clause-opens
returns-clause-opens g c =
    starts c.args.store c.args.replicas.0 c.args.names.0 c.args.reloads.now
    c.in-Ok-make_opening_board.board c.as_slice.ensures c.requires.seats.1
    c.revision-first_rows.ensures c.faults-first_faults.ensures c.torn-first_torn.ensures
    c.in-Ok.ensures.generations c.in-Ok.ensures.current c.in-Ok.ensures.held c.in-Ok.ensures.reloads
    c.in-Ok.ensures.room c.in-Ok.ensures.settings c.in-Ok-make_opening_board.ensures
    c.known.ensures.1.0 c.requires.first c.requires.names (c.in-Ok.ensures.published refl)
