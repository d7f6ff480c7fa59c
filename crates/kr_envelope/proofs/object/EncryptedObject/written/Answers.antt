-- The object that was written is one that can be read.
use Rattle.std.proofs.Common.{◌<◌, ◌^◌, List, ℕ, length, subst}
use Rattle.std.specs.Str.{IsUtf8}
use Rattle.std.specs.List.{All}
use Rattle.kr_base.specs.Pairs.{Pairs}
use Rattle.kr_envelope.proofs.object.EncryptedObject.written.Goals as goal

pub returns-clause-kept : goal.returns-clause-kept
returns-clause-kept c = record {
  fits = subst (λ (l : List ℕ). length l < 2 ^ 64) c.as_slice.ensures c.in_ok-push_content.ensures.fits;
  key_id = subst IsUtf8 c.as_str.ensures c.as_str.utf8;
  keys = subst (λ (l : Pairs). All (λ pair. IsUtf8 pair.0) l) c.pairs.ensures.pairs c.in_ok-push_pairs.ensures.texts;
  sorted = c.pairs.ensures.sorted;
}
