use Rattle.std.proofs.Common.{ℕ, ap, rules}
use Rattle.kr_aes_bitsliced.specs.declared.nibbles.Half.{Half}
use Rattle.kr_aes_bitsliced.specs.inner.Nibbles.{bit_in}
use Rattle.kr_aes_bitsliced.proofs.HalfProducts.{IsHalfProduct-same, ThreePlanes, product_at}
use Rattle.kr_aes_bitsliced.proofs.nibbles.product.Goals as goal

pub returns : goal.returns
returns c block p small lt =
    let l : ThreePlanes = c.half_product.result in
    let h : ThreePlanes = c.half_product-2.result in
    let m : ThreePlanes = c.half_product-3.result in
    let a = c.halves.ensures in
    let b = c.halves-2.ensures in
    let low_bit : Half → ℕ = λ x. bit_in x.low block p in
    let high_bit : Half → ℕ = λ x. bit_in x.high block p in
    product_at l h m c.args.a c.args.b block p record {
      low = IsHalfProduct-same l block p record {
        are = (search rules, search rules, search rules);
        low = c.half_product.ensures.low block p small lt;
        middle = c.half_product.ensures.middle block p small lt;
        high = c.half_product.ensures.high block p small lt;
      }
          (ap low_bit a.low) (ap high_bit a.low) (ap low_bit b.low) (ap high_bit b.low);
      high = IsHalfProduct-same h block p record {
        are = (search rules, search rules, search rules);
        low = c.half_product-2.ensures.low block p small lt;
        middle = c.half_product-2.ensures.middle block p small lt;
        high = c.half_product-2.ensures.high block p small lt;
      }
          (ap low_bit a.high) (ap high_bit a.high) (ap low_bit b.high) (ap high_bit b.high);
      sums = IsHalfProduct-same m block p record {
        are = (search rules, search rules, search rules);
        low = c.half_product-3.ensures.low block p small lt;
        middle = c.half_product-3.ensures.middle block p small lt;
        high = c.half_product-3.ensures.high block p small lt;
      }
          (a.sum_low block p small lt) (a.sum_high block p small lt)
          (b.sum_low block p small lt) (b.sum_high block p small lt);
    } small lt
