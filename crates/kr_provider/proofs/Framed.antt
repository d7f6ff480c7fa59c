-- Data with a front before them and zeros behind them, in one buffer.
use Rattle.std.proofs.Common.{◌≡◌, ℕ, ◌+◌, ◌-◌, List, ◌++◌, length, take, drop, replicate, sym, ◌∙◌, ap, arith, append_assoc, take_all, take_at, drop_at, drop-drop}
use Rattle.std.proofs.lemmas.List.{drop-replicate, length-append, length-replicate, length-take-le, take-take}
use Rattle.std.proofs.lemmas.Slice.{between_is}
use lib.Seq.{drop-append-add, paste}
use Rattle.kr_provider.proofs.Filled.{all_new}

-- the data were moved behind the place of the front, and the front is written
pub framed_is : (front plain resized moved : List ℕ) (n k : ℕ) → n ≡ length plain
    → resized ≡ plain ++ replicate (length front + k) 0
    → moved ≡ paste resized (length front) (drop 0 resized) (n - 0)
    → front ++ drop (length front) moved ≡ front ++ (plain ++ replicate k 0)
framed_is front plain resized moved n k size is by =
    let f : ℕ = length front in
    let zeros : List ℕ = replicate (f + k) 0 in
    let whole : length plain ≡ n - 0 = omega (arith, size) in
    let many : length resized ≡ length plain + (f + k) = ap length is ∙ length-append plain zeros
    ∙ ap (λ m. length plain + m) (length-replicate {A = ℕ} (f + k) 0) in
    let before : length (take f resized) ≡ f = length-take-le f resized (omega (arith, many)) in
    let moved_data : take (n - 0) resized ≡ plain = ap (take (n - 0)) is ∙ take_at plain zeros (n - 0) whole in
    let sum : f + (n - 0) ≡ length plain + f = omega (arith, size) in
    let left : f + k - f ≡ k = omega arith in
    let rest : drop (f + (n - 0)) resized ≡ replicate k 0 = (λ i. drop (sum i) (is i))
    ∙ drop-append-add plain zeros f ∙ drop-replicate f (f + k) 0 ∙ ap (λ m. replicate m 0) left in
    let behind : drop f moved ≡ take (n - 0) resized ++ drop (f + (n - 0)) resized = ap (drop f) by
    ∙ ap (drop f) (append_assoc (take f resized) (take (n - 0) resized) (drop (f + (n - 0)) resized))
    ∙ drop_at (take f resized) (take (n - 0) resized ++ drop (f + (n - 0)) resized) f before in
    ap (λ l. front ++ l) (behind ∙ (λ i. moved_data i ++ rest i))

-- what was made longer by zeros
pub longer_is : (items plain : List ℕ) (f size k many : ℕ) → items ≡ plain → size ≡ many → many ≡ length items
    → take (f + size + k) items ++ replicate (f + size + k - many) 0 ≡ plain ++ replicate (f + k) 0
longer_is items plain f size k many same e counted =
    let left : f + size + k - many ≡ f + k = omega (arith, e) in
    (λ i. take_all (f + size + k) items (omega (arith, e, counted)) i ++ replicate (left i) 0)
    ∙ ap (λ l. l ++ replicate (f + k) 0) same

-- a plugin's value: what is before the sealed bytes, the data among them, and what is behind
pub between_parts : (items front plain behind : List ℕ) (start size : ℕ) → start ≡ length front
    → size ≡ length plain
    → items ≡ front ++ ((replicate 44 0 ++ (plain ++ replicate 16 0)) ++ behind)
    → (take start items ≡ front) × (take size (drop 44 (drop start items)) ≡ plain)
    × (drop (44 + size + 16) (drop start items) ≡ behind)
between_parts items front plain behind start size at long is =
    let inner : List ℕ = replicate 44 0 ++ (plain ++ replicate 16 0) in
    let rest : drop start items ≡ inner ++ behind = ap (drop start) is
    ∙ drop_at front (inner ++ behind) start (sym at) in
    let sum : length inner ≡ 44 + size + 16 = omega (
      arith,
      long,
      length-append (replicate 44 0) (plain ++ replicate 16 0),
      length-append plain (replicate 16 0),
      length-replicate {A = ℕ} 44 0,
      length-replicate {A = ℕ} 16 0,
    ) in (
      ap (take start) is ∙ take_at front (inner ++ behind) start (sym at),
      ap (λ l. take size (drop 44 l)) (rest ∙ append_assoc (replicate 44 0) (plain ++ replicate 16 0) behind)
          ∙ ap (take size) (drop_at (replicate 44 0) ((plain ++ replicate 16 0) ++ behind) 44 (length-replicate {A = ℕ} 44 0)
          ∙ append_assoc plain (replicate 16 0) behind)
          ∙ take_at plain (replicate 16 0 ++ behind) size (sym long),
      ap (drop (44 + size + 16)) rest ∙ drop_at inner behind (44 + size + 16) sum,
    )

-- the data in a part of a value
pub data_of_part : (value : List ℕ) (start end size : ℕ) → start + (44 + size + 16) ≡ end
    → take size (drop 44 (take (end - start) (drop start value)))
    ≡ take size (drop 44 (drop start value))
data_of_part value start end size e =
    let rest : List ℕ = drop start value in
    let part : drop 44 (take (end - start) rest) ≡ take (end - start - 44) (drop 44 rest) = sym (between_is rest 44 (end - start)) in
    ap (take size) part ∙ take-take size (end - start - 44) (drop 44 rest) (omega (arith, e))

-- the data behind an info that was written
pub data_of_body : (first rest room : List ℕ) (size : ℕ) → length first ≡ 32 → rest ≡ drop 32 room
    → take size (drop 12 (drop 32 (first ++ rest))) ≡ take size (drop 44 room)
data_of_body first rest room size long is =
    ap (λ l. take size (drop 12 l)) (drop_at first rest 32 long ∙ is)
    ∙ ap (take size) (drop-drop 12 32 room)

module _ (items front first plain : List ℕ) (zeros k start : ℕ)
    (made : items ≡ front ++ (plain ++ replicate k 0)) (fronted : front ≡ first ++ replicate zeros 0)
    (at : start ≡ length front - zeros) where
  start_is : length first ≡ start
  start_is = omega (arith, at, ap length fronted, length-append first (replicate zeros 0), length-replicate {A = ℕ} zeros 0)

  parts : items ≡ first ++ (replicate zeros 0 ++ (plain ++ replicate k 0))
  parts = made ∙ ap (λ l. l ++ (plain ++ replicate k 0)) fronted
      ∙ append_assoc first (replicate zeros 0) (plain ++ replicate k 0)

  -- what stands before what is written
  before_written : take start items ≡ first
  before_written = ap (take start) parts
      ∙ take_at first (replicate zeros 0 ++ (plain ++ replicate k 0)) start start_is

  -- the data stand behind the zeros
  data_in : (size : ℕ) → length plain ≡ size
      → take size (drop zeros (drop start items)) ≡ plain
  data_in size long = ap (λ l. take size (drop zeros (drop start l))) parts
      ∙ ap (λ l. take size (drop zeros l))
      (drop_at first (replicate zeros 0 ++ (plain ++ replicate k 0)) start start_is)
      ∙ ap (take size) (drop_at (replicate zeros 0) (plain ++ replicate k 0) zeros
      (length-replicate {A = ℕ} zeros 0))
      ∙ take_at plain (replicate k 0) size long

  -- with what was written over the zeros and the data, all of the value
  pub value_written : (body : List ℕ → List ℕ) (result new now : List ℕ) (count size : ℕ)
      → result ≡ take count (new ++ drop (length new) items) → length new ≡ length now → now ≡ items
      → count ≡ length items → length plain ≡ size
      → new ≡ take start now ++ body (take size (drop zeros (drop start now)))
      → result ≡ first ++ body plain
  value_written body result new now count size all kept same counted long written =
      all_new result new now items count all kept same counted ∙ written
      ∙ ap (λ l. take start l ++ body (take size (drop zeros (drop start l)))) same
      ∙ (λ i. before_written i ++ body (data_in size long i))
