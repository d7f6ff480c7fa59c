-- Strings with bytes behind them, as blocks.
use Rattle.std.proofs.Common.{◌≡◌, ℕ, ◌+◌, ◌*◌, ◌-◌, ◌/◌, ◌%◌, ◌<◌, ◌≤◌, List, [], ◌++◌, length, take, drop, replicate, min, sym, ap, ◌∙◌, arith, inl, inr}
use Rattle.std.proofs.lemmas.Bool.{cases_lt}
use Rattle.std.proofs.lemmas.List.{append-nil, append_assoc, drop-append-le, drop_all, length-append, length-drop, length-replicate, length-take, length-take-le, take-append-drop, take-append-le, take-replicate, take_all}
use Rattle.std.proofs.Math.Seq.{take-append-add}
use Rattle.std.specs.Fork.{slice_chunk}
use Rattle.std.specs.Int.{div_ceil, next_multiple_of}
use borrow.Rule.Slice.PartMut.{put_mid}
use Rattle.kr_modes.specs.Gcm.{zero_padded}
use Rattle.kr_modes.specs.Padding.{pad, padding}

-- a chunk and what fills it up
abbrev pub filled : List ℕ → ℕ → ℕ → List ℕ
filled bytes i fill = slice_chunk bytes 16 i ++ replicate (16 - length (slice_chunk bytes 16 i)) fill

-- a chunk of a string with enough behind it
chunk_of_filled : (bytes : List ℕ) (i n fill : ℕ) → i * 16 ≤ length bytes → i * 16 + 16 ≤ length bytes + n
    → slice_chunk (bytes ++ replicate n fill) 16 i ≡ filled bytes i fill
chunk_of_filled bytes i n fill within enough =
    let rest : List ℕ = drop (i * 16) bytes in
    let long : length rest ≡ length bytes - i * 16 = length-drop (i * 16) bytes in
    let size : length (take 16 rest) ≡ min 16 (length rest) = length-take 16 rest in
    let cut : slice_chunk (bytes ++ replicate n fill) 16 i ≡ take 16 (rest ++ replicate n fill) =
    ap (take 16) (drop-append-le (i * 16) bytes (replicate n fill) within) in
    elim (cases_lt (length rest) 16) [
      | inl less ↦
          let left : 16 - length (take 16 rest) ≡ 16 - length rest = omega arith in
          let both : length rest + (16 - length rest) ≡ 16 = omega arith in
          let chunk : take 16 rest ≡ rest = take_all 16 rest (omega arith) in
          let longer : take 16 (rest ++ replicate n fill) ≡ rest ++ take (16 - length rest) (replicate n fill) =
          ap (λ (k : ℕ). take k (rest ++ replicate n fill)) (sym both) ∙ take-append-add rest (replicate n fill) (16 - length rest) in
          cut ∙ longer ∙ ap (λ (zs : List ℕ). rest ++ zs) (take-replicate (16 - length rest) n fill (omega arith))
          ∙ ap (λ (k : ℕ). rest ++ replicate k fill) (sym left)
          ∙ ap (λ (xs : List ℕ). xs ++ replicate (16 - length (take 16 rest)) fill) (sym chunk)
      | inr full ↦
          let none : 16 - length (take 16 rest) ≡ 0 = omega arith in
          cut ∙ take-append-le 16 rest (replicate n fill) full
          ∙ sym (append-nil (take 16 rest)) ∙ ap (λ (k : ℕ). take 16 rest ++ replicate k fill) (sym none)
    ]

-- a whole chunk has nothing behind it
pub filled_whole : (bytes : List ℕ) (i fill : ℕ) → i * 16 + 16 ≤ length bytes → filled bytes i fill ≡ slice_chunk bytes 16 i
filled_whole bytes i fill fits =
    let size : length (slice_chunk bytes 16 i) ≡ 16 = omega (arith, length-take 16 (drop (i * 16) bytes), length-drop (i * 16) bytes) in
    let none : 16 - length (slice_chunk bytes 16 i) ≡ 0 = omega arith in
    ap (λ (k : ℕ). slice_chunk bytes 16 i ++ replicate k fill) none ∙ append-nil (slice_chunk bytes 16 i)

-- ---- the padding of PKCS #7

pub length-pad : (bytes : List ℕ) → length (pad bytes) ≡ length bytes + 16 - length bytes % 16
unfolding pad
length-pad bytes = omega (arith, length-append bytes (replicate (padding bytes) (padding bytes)), length-replicate (padding bytes) (padding bytes))

pub count_of_pad : (bytes : List ℕ) → div_ceil (length (pad bytes)) 16 ≡ length bytes / 16 + 1
count_of_pad bytes = omega (arith, length-pad bytes)

pub chunk_of_pad : (bytes : List ℕ) (i : ℕ) → i ≤ length bytes / 16 → slice_chunk (pad bytes) 16 i ≡ filled bytes i (16 - length bytes % 16)
unfolding pad
chunk_of_pad bytes i le = chunk_of_filled bytes i (padding bytes) (padding bytes) (omega arith) (omega arith)

-- a padding that is written behind n bytes, to the end of what holds them
pub padded_by : (bytes ys : List ℕ) (n : ℕ) → n ≤ length bytes → length bytes - n ≡ 16 - n % 16
    → ys ≡ replicate (length bytes - n) (16 - n % 16) → put_mid n (length bytes - n) bytes ys ≡ pad (take n bytes)
unfolding pad
padded_by bytes ys n within size is =
    let front : length (take n bytes) ≡ n = length-take-le n bytes within in
    let none : drop (length bytes - n) (drop n bytes) ≡ [] = drop_all (length bytes - n) (drop n bytes) (omega (arith, length-drop n bytes)) in
    let filled_by : ys ≡ replicate (padding (take n bytes)) (padding (take n bytes)) =
    is ∙ (λ i. replicate (size i) (16 - n % 16)) ∙ ap (λ (k : ℕ). replicate (16 - k % 16) (16 - k % 16)) (sym front) in
    (λ i. take n bytes ++ (ys ++ none i)) ∙ ap (λ (s : List ℕ). take n bytes ++ s) (append-nil ys ∙ filled_by)

-- ---- zeros

abbrev pub zeros_behind : List ℕ → ℕ
zeros_behind bytes = next_multiple_of (length bytes) 16 - length bytes

zeros_fill : (n : ℕ) → n + (next_multiple_of n 16 - n) ≡ div_ceil n 16 * 16
zeros_fill n = omega arith

pub length-zero_padded : (bytes : List ℕ) → length (zero_padded bytes) ≡ div_ceil (length bytes) 16 * 16
unfolding zero_padded
length-zero_padded bytes =
    length-append bytes (replicate (zeros_behind bytes) 0)
    ∙ ap (λ (k : ℕ). length bytes + k) (length-replicate (zeros_behind bytes) 0)
    ∙ zeros_fill (length bytes)

pub count_of_zero_padded : (bytes : List ℕ) → div_ceil (length (zero_padded bytes)) 16 ≡ div_ceil (length bytes) 16
count_of_zero_padded bytes = omega (arith, length-zero_padded bytes)

pub chunk_of_zero_padded : (bytes : List ℕ) (i : ℕ) → i < div_ceil (length bytes) 16 → slice_chunk (zero_padded bytes) 16 i ≡ filled bytes i 0
unfolding zero_padded
chunk_of_zero_padded bytes i lt = chunk_of_filled bytes i (zeros_behind bytes) 0 (omega arith) (omega (arith, zeros_fill (length bytes)))

-- whole blocks have no zeros behind them
pub zero_padded_whole : (bytes : List ℕ) (n : ℕ) → length bytes ≡ n * 16 → zero_padded bytes ≡ bytes
unfolding zero_padded
zero_padded_whole bytes n e =
    let none : zeros_behind bytes ≡ 0 = omega (arith, zeros_fill (length bytes)) in
    ap (λ (k : ℕ). bytes ++ replicate k 0) none ∙ append-nil bytes

-- whole blocks in front have none either
pub zero_padded_parts : (bytes : List ℕ) (n k : ℕ) → k ≡ n * 16 → k ≤ length bytes
    → zero_padded bytes ≡ take k bytes ++ zero_padded (drop k bytes)
unfolding zero_padded
zero_padded_parts bytes n k e within =
    let rest : List ℕ = drop k bytes in
    let same : zeros_behind bytes ≡ zeros_behind rest = omega (arith, length-drop k bytes) in
    (λ i. sym (take-append-drop k bytes) i ++ replicate (same i) 0)
    ∙ append_assoc (take k bytes) rest (replicate (zeros_behind rest) 0)
