use Rattle.std.proofs.Common.{◌≡◌, vec_len, vec_capacity}
use Rattle.kr_judge.specs.inner.Indexes.{labels_of, kept_paths}
use Rattle.kr_judge.specs.inner.Places.{AreFree}
use Rattle.kr_judge.proofs.free_places.find_free.Given as goal

abbrev pub invariant-loop-place : goal.invariant-loop-place
invariant-loop-place l = AreFree l.free.items l.pairs.items × (labels_of l.pairs.items ≡ labels_of l.initial.pairs.items) × (kept_paths l.pairs.items ≡ kept_paths l.initial.pairs.items)
    × (vec_len l.pairs ≡ vec_len l.initial.pairs) × (vec_capacity l.free ≡ vec_capacity l.initial.free)

abbrev pub decreases-loop-place : goal.decreases-loop-place
decreases-loop-place l = vec_len l.free
