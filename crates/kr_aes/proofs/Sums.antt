-- Sums of four, and the products by a column's factors, which others undo.
use Rattle.std.proofs.Common.{◌≡◌, ℕ, ◌<◌, ◌%◌, bit_xor, true, sym, ap, ◌∙◌, refl}
use Rattle.std.proofs.lemmas.Nat.{xor_comm, xor_of_8}
use lib.Bits.{xor_assoc}
use Rattle.std.specs.Int.Bits.{xor_zero_r}
use Rattle.kr_aes.specs.Field.{product}
use Rattle.kr_aes.proofs.Cases.{agree_below, bytes_below, same_below}
use Rattle.kr_aes.proofs.Linear.{product-xor, xor_interchange}

unfoldable pub sum4 : ℕ → ℕ → ℕ → ℕ → ℕ
sum4 a b c d = bit_xor (bit_xor (bit_xor a b) c) d

-- the sum of two sums of four
pub sum4-xor : (a b c d e f g h : ℕ) → sum4 (bit_xor a e) (bit_xor b f) (bit_xor c g) (bit_xor d h) ≡ bit_xor (sum4 a b c d) (sum4 e f g h)
unfolding sum4
sum4-xor a b c d e f g h =
    rw (xor_interchange a e b f, xor_interchange (bit_xor a b) (bit_xor e f) c g, xor_interchange (bit_xor (bit_xor a b) c) (bit_xor (bit_xor e f) g) d h) refl

-- rows and columns change places
pub sum4-sum4 : (a b c d e f g h i j k l m n o p : ℕ)
    → sum4 (sum4 a b c d) (sum4 e f g h) (sum4 i j k l) (sum4 m n o p) ≡ sum4 (sum4 a e i m) (sum4 b f j n) (sum4 c g k o) (sum4 d h l p)
unfolding sum4
sum4-sum4 a b c d e f g h i j k l m n o p =
    sum4-xor (bit_xor (bit_xor a b) c) (bit_xor (bit_xor e f) g) (bit_xor (bit_xor i j) k) (bit_xor (bit_xor m n) o) d h l p
    ∙ ap (λ (x : ℕ). bit_xor x (sum4 d h l p)) (sum4-xor (bit_xor a b) (bit_xor e f) (bit_xor i j) (bit_xor m n) c g k o
    ∙ ap (λ (x : ℕ). bit_xor x (sum4 c g k o)) (sum4-xor a e i m b f j n))

pub sum4-same : {a b c d e f g h : ℕ} → a ≡ e → b ≡ f → c ≡ g → d ≡ h → sum4 a b c d ≡ sum4 e f g h
sum4-same p q r s = λ i. sum4 (p i) (q i) (r i) (s i)

pub sum4_alone : (x : ℕ) → sum4 x 0 0 0 ≡ x
unfolding sum4
sum4_alone x = xor_zero_r (bit_xor (bit_xor x 0) 0) ∙ xor_zero_r (bit_xor x 0) ∙ xor_zero_r x

-- the last goes to the front
pub sum4-turned : (a b c d : ℕ) → sum4 a b c d ≡ sum4 d a b c
unfolding sum4
sum4-turned a b c d =
    xor_comm (bit_xor (bit_xor a b) c) d ∙ sym (xor_assoc d (bit_xor a b) c) ∙ ap (λ (x : ℕ). bit_xor x c) (sym (xor_assoc d a b))

pub product-sum4 : (k a b c d : ℕ) → product k (sum4 a b c d) ≡ sum4 (product k a) (product k b) (product k c) (product k d)
unfolding sum4
product-sum4 k a b c d =
    rw (product-xor k (bit_xor (bit_xor a b) c) d, product-xor k (bit_xor a b) c, product-xor k a b) refl

-- a column's bytes, each times its factor
abbrev pub factored : ℕ → ℕ → ℕ → ℕ → ℕ → ℕ → ℕ → ℕ → ℕ
factored f g h k x y z w = sum4 (product f x) (product g y) (product h z) (product k w)

-- a byte times four factors, each behind another
abbrev pub twice : ℕ → ℕ → ℕ → ℕ → ℕ → ℕ → ℕ → ℕ → ℕ → ℕ
twice p q r s f g h k b = factored p q r s (product f b) (product g b) (product h b) (product k b)

-- the sums with the second factors, each from one row further down, give the first byte by the
-- first
abbrev pub Undoes : ℕ → ℕ → ℕ → ℕ → ℕ → ℕ → ℕ → ℕ → Type 0
Undoes p q r s f g h k = (x y z w : ℕ) → x < 256 → y < 256 → z < 256 → w < 256
    → factored p q r s (factored f g h k x y z w) (factored f g h k y z w x) (factored f g h k z w x y) (factored f g h k w x y z) ≡ x

-- they do where they give each byte in its own row, and nothing of it in the three others
pub undoes_by : (p q r s f g h k : ℕ)
    → agree_below (twice p q r s f k h g) (λ b. b) 256 ≡ true → agree_below (twice p q r s g f k h) (λ b. 0) 256 ≡ true
    → agree_below (twice p q r s h g f k) (λ b. 0) 256 ≡ true → agree_below (twice p q r s k h g f) (λ b. 0) 256 ≡ true
    → Undoes p q r s f g h k
undoes_by p q r s f g h k own next second third x y z w hx hy hz hw =
    let e0 : product p (factored f g h k x y z w) ≡ factored p p p p (product f x) (product g y) (product h z) (product k w) =
    product-sum4 p (product f x) (product g y) (product h z) (product k w) in
    let e1 : product q (factored f g h k y z w x) ≡ factored q q q q (product k x) (product f y) (product g z) (product h w) =
    product-sum4 q (product f y) (product g z) (product h w) (product k x) ∙ sum4-turned _ _ _ _ in
    let e2 : product r (factored f g h k z w x y) ≡ factored r r r r (product h x) (product k y) (product f z) (product g w) =
    product-sum4 r (product f z) (product g w) (product h x) (product k y) ∙ sum4-turned _ _ _ _ ∙ sum4-turned _ _ _ _ in
    let e3 : product s (factored f g h k w x y z) ≡ factored s s s s (product g x) (product h y) (product k z) (product f w) =
    product-sum4 s (product f w) (product g x) (product h y) (product k z) ∙ sum4-turned _ _ _ _ ∙ sum4-turned _ _ _ _ ∙ sum4-turned _ _ _ _ in
    sum4-same e0 e1 e2 e3
    ∙ sum4-sum4 _ _ _ _ _ _ _ _ _ _ _ _ _ _ _ _
    ∙ sum4-same (same_below 256 (twice p q r s f k h g) (λ b. b) own x hx) (same_below 256 (twice p q r s g f k h) (λ b. 0) next y hy)
    (same_below 256 (twice p q r s h g f k) (λ b. 0) second z hz) (same_below 256 (twice p q r s k h g f) (λ b. 0) third w hw)
    ∙ sum4_alone x

-- the first goes to the end, and the halves change places
pub sum4-left : (a b c d : ℕ) → sum4 a b c d ≡ sum4 b c d a
sum4-left a b c d = sym (sum4-turned b c d a)

pub sum4-half : (a b c d : ℕ) → sum4 a b c d ≡ sum4 c d a b
sum4-half a b c d = sum4-left a b c d ∙ sum4-left b c d a

-- a sum of bytes is a byte
pub sum4-lt : (a b c d : ℕ) → a < 256 → b < 256 → c < 256 → d < 256 → sum4 a b c d < 256
unfolding sum4
sum4-lt a b c d ha hb hc hd = xor_of_8 _ _ (xor_of_8 _ _ (xor_of_8 _ _ ha hb) hc) hd

-- where a byte times each factor is a byte, so is the sum
abbrev pub GivesBytes : ℕ → Type 0
GivesBytes f = agree_below (λ b. product f b % 256) (product f) 256 ≡ true

pub factored-lt : (f g h k : ℕ) → GivesBytes f → GivesBytes g → GivesBytes h → GivesBytes k
    → (x y z w : ℕ) → x < 256 → y < 256 → z < 256 → w < 256 → factored f g h k x y z w < 256
factored-lt f g h k pf pg ph pk x y z w hx hy hz hw =
    sum4-lt _ _ _ _ (bytes_below 256 (product f) pf x hx) (bytes_below 256 (product g) pg y hy)
    (bytes_below 256 (product h) ph z hz) (bytes_below 256 (product k) pk w hw)
