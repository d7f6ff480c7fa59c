use Rattle.kr_plan_laws.proofs.Rounding as rounding
use Rattle.kr_plan_laws.proofs.laws_live.rounds_are_kept.Goals as goal

pub returns : goal.returns
returns c = record {
  midway = rounding.midway_is_under_way;
  entry = rounding.each_entry_keeps;
  round = rounding.round_keeps;
  ends = rounding.round_ends;
  next = rounding.next_may_begin;
}
