-- Bytes of a stream, one behind another, and a generator that gives them.
use Rattle.std.proofs.Common.{◌≡◌, ℕ, zero, suc, ◌+◌, ◌-◌, ◌/◌, ◌%◌, ◌^◌, ◌<◌, ◌≤◌, List, [], ◌∷◌, ◌++◌, length, take, drop, slice_index, ◌*◌, refl, ap, sym, ◌∙◌, arith}
use Rattle.std.specs.Int.{to_le_bytes, w32}
use Rattle.std.proofs.Math.Seq.{drop-append_seam, take-append_seam}
use Rattle.std.proofs.lemmas.List.FromFn.{length-map-range_with_len}
use Rattle.rand_chacha.specs.ChaCha.{ChaCha, next_word, word_at}
use Rattle.kr_workload.specs.Streams.{byte_at, bytes_at, stream_key, piece, rest_at}
use Rattle.kr_workload.specs.inner.Standing.{StandsAt}

-- ---- lists of bytes

pub bytes_long : (key : List ℕ) (place count : ℕ) → length (bytes_at key place count) ≡ count
unfolding bytes_at
bytes_long key place count = length-map-range_with_len (byte_at key) place count

pub bytes_next : (key : List ℕ) (place count : ℕ)
    → bytes_at key place (suc count) ≡ byte_at key place ∷ bytes_at key (place + 1) count
unfolding bytes_at
bytes_next key place count = refl

pub bytes_none : (key : List ℕ) (place : ℕ) → bytes_at key place 0 ≡ []
unfolding bytes_at
bytes_none key place = refl

pub bytes_then : (key : List ℕ) (place first more : ℕ) → bytes_at key place (first + more)
    ≡ bytes_at key place first ++ bytes_at key (place + first) more
bytes_then key place zero more =
    let all : zero + more ≡ more = omega arith in
    let here : place ≡ place + zero = omega arith in
    ap (bytes_at key place) all ∙ ap (λ p. bytes_at key p more) here
    ∙ ap (λ l. l ++ bytes_at key (place + zero) more) (sym (bytes_none key place))
bytes_then key place (suc first) more =
    let all : suc first + more ≡ suc (first + more) = omega arith in
    let behind : place + 1 + first ≡ place + suc first = omega arith in
    ap (bytes_at key place) all ∙ bytes_next key place (first + more)
    ∙ ap (λ l. byte_at key place ∷ l) (bytes_then key (place + 1) first more
    ∙ ap (λ p. bytes_at key (place + 1) first ++ bytes_at key p more) behind)
    ∙ ap (λ l. l ++ bytes_at key (place + suc first) more) (sym (bytes_next key place first))

-- ---- what is left

pub rest_long : (key : List ℕ) (place : ℕ) → length (rest_at key place) ≡ 2 ^ 70 - place
rest_long key place = bytes_long key place (2 ^ 70 - place)

pub some_left : (key : List ℕ) (place : ℕ) → 0 < length (rest_at key place) → place < 2 ^ 70
some_left key place some = let long = rest_long key place in omega (arith, some, long)

pub rest_next : (key : List ℕ) (place : ℕ) → place < 2 ^ 70
    → rest_at key place ≡ byte_at key place ∷ rest_at key (place + 1)
rest_next key place below =
    let more : 2 ^ 70 - place ≡ suc (2 ^ 70 - (place + 1)) = omega (arith, below) in
    ap (bytes_at key place) more ∙ bytes_next key place (2 ^ 70 - (place + 1))

pub rest_then : (key : List ℕ) (place count : ℕ) → place + count ≤ 2 ^ 70
    → rest_at key place ≡ bytes_at key place count ++ rest_at key (place + count)
rest_then key place count within =
    let more : 2 ^ 70 - place ≡ count + (2 ^ 70 - (place + count)) = omega (arith, within) in
    ap (bytes_at key place) more ∙ bytes_then key place count (2 ^ 70 - (place + count))

-- fronts of one length are the same, and so is what stands behind them
pub same_fronts : (a b c d : List ℕ) → length a ≡ length b → a ++ c ≡ b ++ d
    → (a ≡ b) × (c ≡ d)
same_fronts a b c d long e = (
  sym (take-append_seam a c) ∙ ap (take (length a)) e ∙ ap (λ n. take n (b ++ d)) long
      ∙ take-append_seam b d,
  sym (drop-append_seam a c) ∙ ap (drop (length a)) e ∙ ap (λ n. drop n (b ++ d)) long
      ∙ drop-append_seam b d,
)

-- ---- the generator

pub stands_first : (g : ChaCha) (word : List ℕ) → g.stream ≡ 0 → g.word_pos ≡ 0
    → StandsAt g word 0
stands_first g word nonce first = record {
  nonce = nonce;
  next = first;
  within = omega arith;
  word_is = λ some. absurd (omega (arith, some));
}

-- a byte was given: the generator and the word at hand behind it
pub record Gives (g after : ChaCha) (word : List ℕ) (place : ℕ) : Type 0 where
  pub key : after.key ≡ g.key
  pub stands : StandsAt after word (place + 1)
  pub byte : slice_index word (place % 4) ≡ byte_at g.key place

-- within a word it is the word's
pub gives_within : (g : ChaCha) (word : List ℕ) (place : ℕ) → StandsAt g word place
    → place < 2 ^ 70 → 0 < place % 4 → Gives g g word place
gives_within g word place s below within = record {
  key = refl;
  stands = record {
    nonce = s.nonce;
    next = s.next ∙ omega (arith, within, below);
    within = omega (arith, below);
    word_is = λ some.
        let same : place / 4 ≡ (place + 1) / 4 = omega (arith, some, within) in
        s.word_is within ∙ ap (λ p. to_le_bytes w32 (word_at 4 g.key 0 p)) same;
  };
  byte = ap (λ w. slice_index w (place % 4)) (s.word_is within);
}

-- at the begin of a word the generator gives the next one
module _ (g after : ChaCha) (old : List ℕ) (place word : ℕ) (s : StandsAt g old place)
    (below : place < 2 ^ 70) (begins : place % 4 ≡ 0) (drawn : (word, after) ≡ next_word 4 g)
  where
    behind : after ≡ record g { word_pos = (g.word_pos + 1) % 2 ^ 68 }
    behind = ap (λ (d : ℕ × ChaCha). d.1) drawn

    word_drawn : word ≡ word_at 4 g.key 0 (place / 4)
    word_drawn =
        let at : (place + 3) / 4 % 2 ^ 68 ≡ place / 4 = omega (arith, below, begins) in
        ap (λ (d : ℕ × ChaCha). d.0) drawn
        ∙ (λ i. word_at 4 g.key (s.nonce i) ((s.next ∙ at) i))

    pub gives_next : Gives g after (to_le_bytes w32 word) place
    gives_next =
        let here : (place + 3) / 4 % 2 ^ 68 ≡ place / 4 = omega (arith, below, begins) in
        let there : (place / 4 + 1) % 2 ^ 68 ≡ (place + 1 + 3) / 4 % 2 ^ 68 =
        omega (arith, below, begins) in
        record {
          key = ap (λ (h : ChaCha). h.key) behind;
          stands = record {
            nonce = ap (λ (h : ChaCha). h.stream) behind ∙ s.nonce;
            next = ap (λ (h : ChaCha). h.word_pos) behind
                ∙ ap (λ n. (n + 1) % 2 ^ 68) (s.next ∙ here) ∙ there;
            within = omega (arith, below);
            word_is = λ some.
                let same : place / 4 ≡ (place + 1) / 4 = omega (arith, begins) in
                ap (to_le_bytes w32) (word_drawn
                ∙ ap (λ p. word_at 4 g.key 0 p) same
                ∙ ap (λ (h : ChaCha). word_at 4 h.key 0 ((place + 1) / 4)) (sym behind));
          };
          byte = ap (λ w. slice_index (to_le_bytes w32 w) (place % 4)) word_drawn;
        }

-- so it is the first of what was left
pub given_byte : (g after : ChaCha) (word : List ℕ) (place : ℕ) → place < 2 ^ 70
    → Gives g after word place → rest_at g.key place
    ≡ slice_index word (place % 4) ∷ rest_at after.key (place + 1)
given_byte g after word place below given = rest_next g.key place below
    ∙ (λ i. sym given.byte i ∷ rest_at (sym given.key i) (place + 1))

-- ---- pieces

-- 32 bytes of what is left of stream 0 are its next piece
pub piece_drawn : (seed number : ℕ) (old drawn new : List ℕ) → number < 2 ^ 60
    → old ≡ rest_at (stream_key seed 0) (32 * number) → length drawn ≡ 32 → old ≡ drawn ++ new
    → (drawn ≡ piece seed number) × (new ≡ rest_at (stream_key seed 0) (32 * (number + 1)))
piece_drawn seed number old drawn new few stands long is =
    let key = stream_key seed 0 in
    let behind : 32 * number + 32 ≡ 32 * (number + 1) = omega arith in
    same_fronts drawn (piece seed number) new (rest_at key (32 * (number + 1)))
    (long ∙ sym (bytes_long key (32 * number) 32))
    (sym is ∙ stands ∙ rest_then key (32 * number) 32 (omega (arith, few))
    ∙ ap (λ p. piece seed number ++ rest_at key p) behind)
