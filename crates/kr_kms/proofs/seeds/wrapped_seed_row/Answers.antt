-- The parts' types keep their rules.
use Rattle.std.proofs.Common.{subst}
use Rattle.std.specs.Prelude.{All}
use Rattle.std.specs.Str.{IsUtf8}
use Rattle.kr_base.specs.Pairs.{Pairs}
use Rattle.kr_kms.proofs.seeds.wrapped_seed_row.Goals as goal

pub returns-clause-row : goal.returns-clause-row
returns-clause-row c = record {
  seed = c.requires.size;
  key_id = c.requires.limits.key_id;
  source = c.requires.limits.source;
  annotations = c.requires.limits.annotations;
  text = subst IsUtf8 c.as_str-text.ensures c.as_str-text.utf8;
  keys = subst (λ (l : Pairs). All (λ pair. IsUtf8 pair.0) l) c.pairs.ensures.pairs
      c.tell_texts.ensures;
  sorted = c.pairs.ensures.sorted;
}
