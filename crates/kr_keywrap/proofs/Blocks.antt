-- The steps over a buffer.
use Rattle.std.proofs.Common.{◌≡◌, ℕ, suc, ◌+◌, ◌-◌, ◌*◌, ◌/◌, ◌%◌, ◌<◌, ◌≤◌, List, ◌++◌, length, take, drop, bit_xor, ap, ◌∙◌, refl, arith}
use Rattle.std.specs.Int.{w64, from_be_bytes, to_be_bytes}
use Rattle.std.proofs.lemmas.List.{drop-drop, length-drop, take_all, take_rest}
use borrow.Rule.Slice.PartMut.{put_mid}
use Rattle.kr_base.specs.Tapes.{with_bytes_at}
use Rattle.kr_keywrap.specs.KeyWrap.{Registers, before_steps, initial_value, key_wrap, block_place, steps_of, unwrap_step, unwrapped_steps, wrap_step, wrapped_steps}

put_is : (a k : ℕ) (xs ys : List ℕ) → k ≡ length ys → put_mid a k xs ys ≡ with_bytes_at xs a ys
put_is a k xs ys e = ap (λ (l : List ℕ). take a xs ++ (ys ++ l)) (drop-drop k a xs ∙ ap (λ (n : ℕ). drop (a + n) xs) e)

place_is : (r : List ℕ) (step : ℕ) → 8 * (step % (length r / 8)) ≡ block_place r (step + 1)
place_is r step =
    let e : step ≡ step + 1 - 1 = omega arith in
    ap (λ (s : ℕ). 8 * (s % (length r / 8))) e

second_is : (after second : List ℕ) (m : ℕ) → 8 ≤ m → length after ≡ 16 → second ≡ take m (drop 8 after) → second ≡ drop 8 after
second_is after second m le size is = is ∙ take_all m (drop 8 after) (omega (arith, length-drop 8 after))

pub wrap_from : (encipher : List ℕ → List ℕ) (r : List ℕ) (a step k m number : ℕ) (block after second : List ℕ)
    → k ≡ 8 → 8 ≤ m → length after ≡ 16
    → block ≡ to_be_bytes w64 a ++ take k (drop (8 * (step % (length r / 8))) r)
    → after ≡ encipher block → second ≡ take m (drop 8 after) → number ≡ from_be_bytes w64 (take 8 after)
    → ◌≡◌ {A = Registers} (record { a = bit_xor number (step + 1); r = put_mid (8 * (step % (length r / 8))) k r second })
    (wrap_step encipher (step + 1) (record { a = a; r = r }))
unfolding wrap_step
wrap_from encipher r a step k m number block after second eight le size block_is after_is part_is number_is =
    let at : ℕ = 8 * (step % (length r / 8)) in
    let place : ℕ = block_place r (step + 1) in
    let b : List ℕ = encipher (to_be_bytes w64 a ++ take 8 (drop place r)) in
    let same : after ≡ b = after_is ∙ ap encipher (block_is ∙ (λ i. to_be_bytes w64 a ++ take (eight i) (drop (place_is r step i) r))) in
    let half : second ≡ drop 8 after = second_is after second m le size part_is in
    let long : k ≡ length second = omega (arith, eight, ap length half, length-drop 8 after, size) in
    let first : number ≡ from_be_bytes w64 (take 8 b) = number_is ∙ ap (λ (l : List ℕ). from_be_bytes w64 (take 8 l)) same in
    let rest : put_mid at k r second ≡ with_bytes_at r place (drop 8 b) =
    put_is at k r second long ∙ (λ i. with_bytes_at r (place_is r step i) ((half ∙ ap (drop 8) same) i)) in
    λ i. record { a = bit_xor (first i) (step + 1); r = rest i }

pub unwrap_from : (decipher : List ℕ → List ℕ) (r : List ℕ) (a step k m number : ℕ) (block after second : List ℕ)
    → k ≡ 8 → 8 ≤ m → length after ≡ 16
    → block ≡ to_be_bytes w64 (bit_xor a (step + 1)) ++ take k (drop (8 * (step % (length r / 8))) r)
    → after ≡ decipher block → second ≡ take m (drop 8 after) → number ≡ from_be_bytes w64 (take 8 after)
    → ◌≡◌ {A = Registers} (record { a = number; r = put_mid (8 * (step % (length r / 8))) k r second })
    (unwrap_step decipher (step + 1) (record { a = a; r = r }))
unfolding unwrap_step
unwrap_from decipher r a step k m number block after second eight le size block_is after_is part_is number_is =
    let at : ℕ = 8 * (step % (length r / 8)) in
    let place : ℕ = block_place r (step + 1) in
    let b : List ℕ = decipher (to_be_bytes w64 (bit_xor a (step + 1)) ++ take 8 (drop place r)) in
    let same : after ≡ b = after_is ∙ ap decipher (block_is ∙ (λ i. to_be_bytes w64 (bit_xor a (step + 1)) ++ take (eight i) (drop (place_is r step i) r))) in
    let half : second ≡ drop 8 after = second_is after second m le size part_is in
    let long : k ≡ length second = omega (arith, eight, ap length half, length-drop 8 after, size) in
    let first : number ≡ from_be_bytes w64 (take 8 b) = number_is ∙ ap (λ (l : List ℕ). from_be_bytes w64 (take 8 l)) same in
    let rest : put_mid at k r second ≡ with_bytes_at r place (drop 8 b) =
    put_is at k r second long ∙ (λ i. with_bytes_at r (place_is r step i) ((half ∙ ap (drop 8) same) i)) in
    λ i. record { a = first i; r = rest i }

-- ---- one step more

pub wrapped_none : (encipher : List ℕ → List ℕ) (s : Registers) → s ≡ wrapped_steps encipher s 0
unfolding wrapped_steps
wrapped_none encipher s = refl

pub wrapped_more : (encipher : List ℕ → List ℕ) (s : Registers) (t : ℕ)
    → wrap_step encipher (t + 1) (wrapped_steps encipher s t) ≡ wrapped_steps encipher s (t + 1)
unfolding wrapped_steps
wrapped_more encipher s t =
    let e : t + 1 ≡ suc t = omega arith in
    rw e refl

pub unwrapped_all : (decipher : List ℕ → List ℕ) (s : Registers) → unwrapped_steps decipher s 0 ≡ s
unfolding unwrapped_steps
unwrapped_all decipher s = refl

pub unwrapped_less : (decipher : List ℕ → List ℕ) (s : Registers) (t : ℕ) → 0 < t
    → unwrapped_steps decipher (unwrap_step decipher (t - 1 + 1) s) (t - 1) ≡ unwrapped_steps decipher s t
unfolding unwrapped_steps
unwrapped_less decipher s t some =
    let e : t - 1 + 1 ≡ suc (t - 1) = omega arith in
    let at : suc (t - 1) ≡ t = omega arith in
    ap (λ (n : ℕ). unwrapped_steps decipher (unwrap_step decipher n s) (t - 1)) e ∙ ap (unwrapped_steps decipher s) at

-- ---- a whole wrap

pub wrap_whole : (encipher : List ℕ → List ℕ) (plain start first blocks : List ℕ) (a : ℕ) → start ≡ plain
    → ◌≡◌ {A = Registers} (record { a = a; r = blocks }) (wrapped_steps encipher (record { a = initial_value; r = start }) (steps_of start))
    → first ≡ to_be_bytes w64 a → first ++ blocks ≡ key_wrap encipher plain
unfolding key_wrap
wrap_whole encipher plain start first blocks a start_is is first_is =
    (λ i. first_is i ++ blocks)
    ∙ ap (λ (q : Registers). to_be_bytes w64 q.a ++ q.r) (is ∙ ap (λ (l : List ℕ). wrapped_steps encipher (record { a = initial_value; r = l }) (steps_of l)) start_is)

pub before_is : (decipher : List ℕ → List ℕ) (body start blocks : List ℕ) (a number : ℕ)
    → number ≡ from_be_bytes w64 (take 8 body) → start ≡ take (length body - 8) (drop 8 body)
    → ◌≡◌ {A = Registers} (record { a = a; r = blocks }) (unwrapped_steps decipher (record { a = number; r = start }) (steps_of start))
    → ◌≡◌ {A = Registers} (record { a = a; r = blocks }) (before_steps decipher body)
unfolding before_steps
before_is decipher body start blocks a number number_is start_is is =
    let whole : start ≡ drop 8 body = start_is ∙ take_rest body 8 in
    is ∙ (λ i. unwrapped_steps decipher (record { a = number_is i; r = whole i }) (steps_of (whole i)))
