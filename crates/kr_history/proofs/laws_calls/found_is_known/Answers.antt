use Rattle.kr_history.proofs.HeldFacts.{found_is_named}
use Rattle.kr_history.proofs.FoundRules.{found_keeps_rules, handed_out_keeps_rules}
use Rattle.kr_history.proofs.laws_calls.found_is_known.Goals as goal

pub returns : goal.returns
returns c = record {
  rules = found_keeps_rules;
  handed_out = handed_out_keeps_rules;
  named = found_is_named;
}
