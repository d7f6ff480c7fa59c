-- Bytes that are pending, and the lines among them.
use Rattle.std.proofs.Common.{◌≡◌, ◌≢◌, ℕ, Result, Ok, Err, MatchResult, ◌+◌, ◌-◌, ◌<◌, ◌≤◌, List, [], ◌++◌, length, take, drop, get_or, Option, refl, sym, ap, ◌∙◌, arith}
use Rattle.std.proofs.KnownBytes.{Consumes-kept, Consumes-nil, Consumes-trans}
use Rattle.std.specs.Io.KnownBytes.{Keeps, ReadConsumes}
use Rattle.std.specs.Io.{ReadsAtMost}
use Rattle.std.specs.List.{copy_within}
use Rattle.std.proofs.Math.Seq.{take-append-add}
use Rattle.std.proofs.lemmas.List.Elements.{All-from_get_or}
use Rattle.std.proofs.lemmas.Slice.{take-put_mid_below}
use borrow.Rule.Slice.PartMut.{post_of, put_mid}
use Rattle.std.proofs.lemmas.List.{append-nil, append_assoc, drop-take, get_or-take, get_or_append_left, length-append, length-drop, length-take-le, nil_from_length, take-append-le, take_at}
use Rattle.kr_keywrap.specs.Serving.{HasNoBreak}
use Rattle.kr_keywrap.specs.inner.Lines.{Grows, GrowsBy, IsUnbroken}

pub grows_none : (left : Option (List ℕ)) (pending : List ℕ) → Grows left left pending pending
grows_none left pending = record { bytes = []; took = Consumes-nil left; behind = sym (append-nil pending) }

pub grows_more : (a b c : Option (List ℕ)) (p q r : List ℕ) → Grows a b p q → Grows b c q r → Grows a c p r
grows_more a b c p q r x y = record {
  bytes = x.bytes ++ y.bytes;
  took = Consumes-trans a b c x.bytes y.bytes x.took y.took;
  behind = y.behind ∙ ap (λ (l : List ℕ). l ++ y.bytes) x.behind ∙ append_assoc p x.bytes y.bytes;
}

pub grows_kept : (a b c : Option (List ℕ)) (p q r : List ℕ) → Grows a b p q → Keeps b c → r ≡ q → Grows a c p r
grows_kept a b c p q r x kept same = record {
  bytes = x.bytes;
  took = Consumes-kept a b c x.bytes x.took kept;
  behind = same ∙ x.behind;
}

-- ---- the loop that looks for an LF

pub record Reading (left_old left : Option (List ℕ)) (old pending : List ℕ) (scanned count_old count : ℕ) : Type 0 where
  pub grows : Grows left_old left old pending
  pub unbroken : IsUnbroken pending scanned
  pub within : scanned ≤ length pending
  pub same : count ≡ count_old

pub reading_none : (left : Option (List ℕ)) (pending : List ℕ) (count : ℕ) → Reading left left pending pending 0 count count
reading_none left pending count = record {
  grows = grows_none left pending;
  unbroken = λ k lt. absurd (omega arith);
  within = omega arith;
  same = refl;
}

pub reading_more : (a b c : Option (List ℕ)) (p q r : List ℕ) (scanned next n i j k : ℕ) → Reading a b p q scanned i j → IsUnbroken q (length q) → next ≡ length q
    → GrowsBy b c q r n → k ≡ j → Reading a c p r next i k
reading_more a b c p q r scanned next n i j k before unbroken at more same =
    record {
      grows = grows_more a b c p q r before.grows more.grows;
      unbroken = λ m lt found.
          let within : m < length q = omega (arith, at, lt) in
          unbroken m within (sym (get_or_append_left q more.grows.bytes 0 m within) ∙ ap (λ (l : List ℕ). get_or l m 0) (sym more.grows.behind) ∙ found);
      within = omega (arith, more.size, at);
      same = same ∙ before.same;
    }

-- nothing more came
pub grown_none : (a b : Option (List ℕ)) (q r : List ℕ) (n : ℕ) → GrowsBy a b q r n → n ≡ 0 → IsUnbroken q (length q) → IsUnbroken r (length r)
grown_none a b q r n more none unbroken = λ m lt found.
    let within : m < length q = omega (arith, more.size, none, lt) in
    unbroken m within (sym (get_or_append_left q more.grows.bytes 0 m within) ∙ ap (λ (l : List ℕ). get_or l m 0) (sym more.grows.behind) ∙ found)

-- the first bytes, among which no LF is
pub no_break : (bytes : List ℕ) (count : ℕ) → count ≤ length bytes → IsUnbroken bytes count → HasNoBreak (take count bytes)
no_break bytes count within unbroken =
    All-from_get_or (λ byte. byte ≢ 0x0A) (take count bytes) 0 (λ i lt found.
    let below : i < count = omega (arith, length-take-le count bytes within, lt) in
    unbroken i below (sym (get_or-take count bytes i 0 below) ∙ found))

pub no_break_all : (bytes : List ℕ) → IsUnbroken bytes (length bytes) → HasNoBreak bytes
no_break_all bytes unbroken = All-from_get_or (λ byte. byte ≢ 0x0A) bytes 0 unbroken

-- ---- the room of the pending bytes

take_filled : (bytes into : List ℕ) (filled k n : ℕ) → filled ≤ length bytes → n ≤ length into
    → take (filled + n) (put_mid filled k bytes into) ≡ take filled bytes ++ take n into
take_filled bytes into filled k n within most =
    let long : length (take filled bytes) ≡ filled = length-take-le filled bytes within in
    let rest : List ℕ = post_of filled k bytes in
    ap (λ (m : ℕ). take (m + n) (take filled bytes ++ (into ++ rest))) (sym long)
    ∙ take-append-add (take filled bytes) (into ++ rest) n
    ∙ ap (λ (l : List ℕ). take filled bytes ++ l) (take-append-le n into rest most)

-- what a read behind the filled bytes leaves
pub read_more : {E : Type 0} (a b : Option (List ℕ)) (bytes into : List ℕ) (filled k : ℕ) (result : Result ℕ E) → filled < length bytes
    → k ≡ length bytes - filled → length into ≡ k → ReadsAtMost result into → ReadConsumes a b result into
    → MatchResult result
    (λ count. (filled + count ≤ length bytes) × GrowsBy a b (take filled bytes) (take (filled + count) (put_mid filled k bytes into)) count)
    (λ _. (take filled (put_mid filled k bytes into) ≡ take filled bytes) × Keeps a b)
read_more a b bytes into filled k (Ok n) some at long bound reads =
    let most : n ≤ length into = bound.0 in
    let behind : take (filled + n) (put_mid filled k bytes into) ≡ take filled bytes ++ take n into = take_filled bytes into filled k n (omega arith) most in (
      omega (arith, most),
      record {
        grows = record { bytes = take n into; took = reads.0; behind = behind };
        size = ap length behind ∙ length-append (take filled bytes) (take n into) ∙ ap (λ (m : ℕ). length (take filled bytes) + m) (length-take-le n into most);
        ends = λ none. reads.1 none (omega (arith, long, at, some));
      },
    )
read_more a b bytes into filled k (Err why) some at long bound reads =
    (take-put_mid_below filled k bytes into filled (omega arith) (omega arith), reads)

-- what a copy to the front leaves
pub front_moved : (items : List ℕ) (count filled : ℕ) → count ≤ filled → filled ≤ length items
    → take (filled - count) (copy_within items count filled 0) ≡ drop count (take filled items)
front_moved items count filled most within =
    let m : ℕ = filled - count in
    let s : List ℕ = take m (drop count items) in
    let long : length s ≡ m = length-take-le m (drop count items) (omega (arith, length-drop count items)) in
    let none : take 0 items ≡ [] = nil_from_length (take 0 items) (length-take-le 0 items (omega arith)) in
    let all : count + m ≡ filled = omega arith in
    ap (λ (l : List ℕ). take m (l ++ s ++ drop (0 + m) items)) none
    ∙ take_at s (drop (0 + m) items) m long
    ∙ sym (drop-take count m items)
    ∙ ap (λ (n : ℕ). drop count (take n items)) all
