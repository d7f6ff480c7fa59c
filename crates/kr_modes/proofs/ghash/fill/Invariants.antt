use Rattle.std.specs.Prelude.{get_or, []}
use Rattle.std.proofs.Common.{◌≡◌, ◌<◌, ◌*◌, ℕ, length, slice_index}
use Rattle.std.specs.Int.{w128, reverse_bits}
use Rattle.kr_modes.specs.Ghash.{polynomial}
use Rattle.kr_modes.specs.inner.Tables.{four_terms, polynomial_of, power, turned}
use Rattle.kr_modes.proofs.ghash.fill.Given as goal

abbrev pub invariant-loop-place : goal.invariant-loop-place
invariant-loop-place l = record {
  size : length l.products ≡ 32;
  powers : reverse_bits w128 l.power ≡ power (4 * l.place) (polynomial l.subkey);
  cells : (place v : ℕ) → place < l.place → v < 16 → polynomial_of (slice_index (get_or l.products place []) v) ≡ four_terms (turned v) (power (4 * place) (polynomial l.subkey));
}
