-- What the tactic leaves open of `next_class_place`.
use Rattle.std.proofs.Common.{subst, sym, ◌+◌}
use Rattle.std.specs.Option.{option_map}
use Rattle.kr_config.specs.Nexts.{lent_class}
use Rattle.kr_config.specs.inner.ClassIndexes.{IsPlaceAfter}
use Rattle.kr_config.proofs.ClassSearches.{after_found, after_gap}
use Rattle.kr_config.proofs.class_index.next_class_place.Goals as goal

pub returns-in-Ok : goal.returns-in-Ok
returns-in-Ok c =
    subst (λ after. IsPlaceAfter c.args.index.now (option_map lent_class after) (c.in-Ok.place + 1))
    (sym c.in-Some.is)
    (after_found c.args.index.now (lent_class c.in-Some.after) c.in-Ok.place c.requires
    c.in-Ok.ensures)

pub returns-in-Err : goal.returns-in-Err
returns-in-Err c =
    subst (λ after. IsPlaceAfter c.args.index.now (option_map lent_class after) c.in-Err.place)
    (sym c.in-Some.is)
    (after_gap c.args.index.now (lent_class c.in-Some.after) c.in-Err.place c.in-Err.ensures)
