use Rattle.std.proofs.Common.{◌++◌, List, ℕ, ap, length}
use Rattle.std.proofs.lemmas.List.{drop-replicate}
use Rattle.kr_hkdf.proofs.keyed_hash.zero_filled.Goals as goal

pub returns : goal.returns
returns c = rw c.copy_from_slice.ensures.after (ap (λ (zeros : List ℕ). c.args.key.now ++ zeros) (drop-replicate (length c.args.key.now) 64 0))
