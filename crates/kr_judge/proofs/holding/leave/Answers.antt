use Rattle.std.proofs.Common.{◌≡◌, true, subst}
use Rattle.std.specs.List.{slice_get}
use Rattle.std.specs.Option.{IsSomeAnd}
use Rattle.kr_judge.specs.Boards.{is_replica_current}
use Rattle.kr_judge.specs.inner.Views.{generations_of}
use Rattle.kr_judge.proofs.Lives.{left_all, left_live}
use Rattle.kr_judge.proofs.holding.leave.Goals as goal

pub returns-clause-left : goal.returns-clause-left
returns-clause-left c = left_all c.args.replica (generations_of c.args.generations.now.items) (generations_of c.drop_current-still.new.generations.items) c.in-Some.number
    c.requires.one (subst (λ l. IsSomeAnd (slice_get (generations_of l) c.in-Some.number) (λ g. is_replica_current c.args.replica g ≡ true)) c.as_slice.ensures.value c.in-Some.ensures.found) c.drop_current-still.ensures.dropped

pub returns-clause-live : goal.returns-clause-live
returns-clause-live c = left_live c.args.replica (generations_of c.args.generations.now.items) (generations_of c.drop_current-still.new.generations.items) c.args.live.now.items c.take_unless.new.live.items c.in-Some.number
    c.drop_current-still.result (subst (λ l. IsSomeAnd (slice_get (generations_of l) c.in-Some.number) (λ g. is_replica_current c.args.replica g ≡ true)) c.as_slice.ensures.value c.in-Some.ensures.found) c.drop_current-still.ensures.still c.requires.live c.take_unless.ensures.taken c.drop_current-still.ensures.dropped
