use Rattle.std.proofs.Common.{ℕ, sym, ◌∙◌, refl}
use Rattle.std.proofs.lemmas.List.{length-replicate}
use Rattle.test_vectors.proofs.Written.{sized-stands_for}
use Rattle.test_vectors.proofs.reading.sized.Goals as goal

pub returns-in-Err-clause-refused : goal.returns-in-Err-clause-refused
returns-in-Err-clause-refused g c = (
  refl,
  λ bytes size stands.
      let decoded = sized-stands_for c.args.word.now bytes g.row.N c.requires size stands in
      let written = rw (length-replicate {A = ℕ} g.row.N 0, decoded) at c.decode_to_slice.ensures.value in
      cc (sym written.0 ∙ c.in-Err.is),
)
