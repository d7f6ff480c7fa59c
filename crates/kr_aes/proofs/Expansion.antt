-- The words of the key expansion, one after another.
use Rattle.std.proofs.Common.{◌≡◌, ℕ, zero, suc, ◌+◌, ◌-◌, ◌*◌, ◌/◌, ◌<◌, ◌≤◌, List, [], ◌∷◌, ◌++◌, length, take, replicate, slice_index, slice_set, refl, sym, ap, ◌∙◌, arith, add-one, lt-ltb, nat_lt, inl, inr, true}
use Rattle.std.proofs.lemmas.List.{get_or-take, get_or_append_left, get_or_push, length_push, take-append-le, take_more_set, take_all, replicate_more, append_assoc}
use Rattle.std.proofs.lemmas.Bool.{cases_lt}
use Rattle.kr_aes.specs.declared.Rounds.{Rounds}
use Rattle.kr_aes.specs.declared.Rounds.TheVariants.{Ten}
use Rattle.kr_aes.specs.Cipher.{round_count}
use Rattle.kr_aes.specs.KeyExpansion.{IsKeyLength, IsKeyOf, first_words, key_schedule, next_word, padded_schedule}

pub length-first_words : (key : List ℕ) (n : ℕ) → length (first_words key n) ≡ n
unfolding first_words
length-first_words key zero = refl
length-first_words key (suc n) =
    omega (arith, length_push (first_words key n) (next_word key (first_words key n) n), length-first_words key n)

-- word i reads only the words before it
pub next_word-take : (key words : List ℕ) (i : ℕ) → 0 < length key / 4 → next_word key (take i words) i ≡ next_word key words i
unfolding next_word
next_word-take key words i some = elim (cases_lt i (length key / 4)) [
  | inl lt ↦
      let below : nat_lt i (length key / 4) ≡ true = lt-ltb i (length key / 4) lt in
      rw below refl
  | inr ge ↦
      let back : slice_index (take i words) (i - length key / 4) ≡ slice_index words (i - length key / 4) =
      get_or-take i words (i - length key / 4) 0 (omega arith) in
      let last : slice_index (take i words) (i - 1) ≡ slice_index words (i - 1) =
      get_or-take i words (i - 1) 0 (omega arith) in
      rw (back, last) refl
]

next_word-push : (key words : List ℕ) (word i : ℕ) → 0 < length key / 4 → i ≤ length words → next_word key (words ++ word ∷ []) i ≡ next_word key words i
next_word-push key words word i some le =
    sym (next_word-take key (words ++ word ∷ []) i some)
    ∙ ap (λ w. next_word key w i) (take-append-le i words (word ∷ []) le)
    ∙ next_word-take key words i some

-- each word follows from those before it
slice_index-first_words : (key : List ℕ) (n i : ℕ) → 0 < length key / 4 → i < n → slice_index (first_words key n) i ≡ next_word key (first_words key n) i
unfolding first_words
slice_index-first_words key zero i some lt = absurd (omega arith)
slice_index-first_words key (suc n) i some lt =
    let size : length (first_words key n) ≡ n = length-first_words key n in
    let word : ℕ = next_word key (first_words key n) n in
    let same : next_word key (first_words key n ++ word ∷ []) i ≡ next_word key (first_words key n) i = next_word-push key (first_words key n) word i some (omega arith) in
    elim (cases_lt i n) [
      | inl before ↦
          get_or_append_left (first_words key n) (word ∷ []) 0 i (omega arith) ∙ slice_index-first_words key n i some before ∙ sym same
      | inr after ↦
          let e : i ≡ n = omega arith in
          rw e (get_or_push (first_words key n) word 0 n size) ∙ ap (next_word key (first_words key n)) (sym e) ∙ sym same
    ]

pub length-key_schedule : (key : List ℕ) → length (key_schedule key) ≡ 4 * (length key / 4 + 7)
unfolding key_schedule
length-key_schedule key = length-first_words key (4 * (length key / 4 + 7))

some_words : (size : ℕ) → IsKeyLength size → 0 < size / 4
some_words size is = grind arith

pub slice_index-key_schedule : (key : List ℕ) (i : ℕ) → IsKeyLength (length key) → i < length (key_schedule key) → slice_index (key_schedule key) i ≡ next_word key (key_schedule key) i
unfolding key_schedule
slice_index-key_schedule key i is lt =
    slice_index-first_words key (4 * (length key / 4 + 7)) i (some_words (length key) is) (omega (arith, length-key_schedule key))

-- one more word written
pub first_words_more : (key words : List ℕ) (i word : ℕ) → 0 < length key / 4 → i < length words → take i words ≡ first_words key i
    → word ≡ next_word key words i → take (i + 1) (slice_set words i word) ≡ first_words key (i + 1)
unfolding first_words
first_words_more key words i word some lt before is =
    take_more_set words i word lt
    ∙ rw (add-one, before, is, ← next_word-take key words i some, before) refl

-- what a key's length and its number of rounds say of each other
pub record KeyRounds (size rounds : ℕ) : Type 0 where
  pub some : 0 < size / 4
  pub count : 4 * (rounds + 1) ≡ 4 * (size / 4 + 7)
  pub within : 4 * (rounds + 1) ≤ 60

pub KeyRounds-of : (size : ℕ) (rounds : Rounds) → IsKeyOf size rounds → KeyRounds size (round_count rounds)
KeyRounds-of size Ten e = record { some = omega arith; count = omega arith; within = omega arith }
KeyRounds-of size other e = record { some = omega arith; count = omega arith; within = omega arith }

-- one more zero behind the schedule
pub zeros_more : (front words : List ℕ) (i count : ℕ) → i < length words → count ≤ i → take i words ≡ front ++ replicate (i - count) 0
    → take (i + 1) (slice_set words i 0) ≡ front ++ replicate (i + 1 - count) 0
zeros_more front words i count lt le before =
    let e : i + 1 - count ≡ i - count + 1 = omega arith in
    take_more_set words i 0 lt ∙ rw (before, e, ← replicate_more {X = ℕ} (i - count) 0) (append_assoc front (replicate (i - count) 0) (0 ∷ []))

-- the end: the schedule, and zeros to the 60th word
pub padded_from : (key words : List ℕ) (count i : ℕ) → length words ≡ 60 → i ≡ 60 → count ≡ 4 * (length key / 4 + 7)
    → take i words ≡ first_words key count ++ replicate (i - count) 0 → words ≡ padded_schedule key
unfolding key_schedule
padded_from key words count i len at is taken =
    let size : length (first_words key (4 * (length key / 4 + 7))) ≡ 4 * (length key / 4 + 7) = length-first_words key (4 * (length key / 4 + 7)) in
    sym (take_all i words (omega arith)) ∙ taken ∙ rw (at, is, size) refl
