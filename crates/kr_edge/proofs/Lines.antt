-- How far a line was read into a buffer.
use Rattle.std.proofs.Common.{◌≡◌, ◌≢◌, ℕ, zero, suc, ◌+◌, ◌-◌, ◌<◌, ◌≤◌, ◌==◌, List, [], ◌∷◌, ◌++◌, length, get_or, take, drop, Option, None, Some, Bool, true, false, cond, refl, sym, ◌∙◌, ap, subst, arith, inl, inr, length-drop}
use Rattle.std.specs.Prelude.{find, position}
use Rattle.std.proofs.lemmas.Bool.Decides.{Decides-eqb}
use Rattle.std.proofs.lemmas.List.{append_assoc, get_or-take, length-take-le, take_all, take-append-le, take-take, take_more, take-append-drop}
use Rattle.std.proofs.Math.Seq.{take-append-add}
use borrow.Rule.Slice.PartMut.{put_mid, post_of, same_len_mid}
use Rattle.std.proofs.lemmas.List.Elements.{All-append}
use Rattle.std.proofs.lemmas.List.Quantifiers.{position-Some}
use Rattle.std.specs.Io.KnownBytes.{Consumes, IsAtEnd}
use Rattle.std.proofs.KnownBytes.{Consumes-nil, Consumes-trans}
use Rattle.kr_edge.specs.Lines.{HasNoLF, TakesLine, TakesNoLine}
use Rattle.kr_kms.proofs.Lent.{no_place}

abbrev is_end : ℕ → Bool
is_end byte = byte == 10

-- a byte that fails the test is no LF
no_end : (byte : ℕ) → is_end byte ≡ false → byte ≢ 10
no_end byte f e = absurd (differ (sym f ∙ (Decides-eqb byte 10).1 e))
  where
    differ : false ≡ true → ⊥
    differ e = absurd (cc)

-- none of what a test doesn't find passes it
unfound : {X : Type 0} (p : X → Bool) (xs : List X) → find p xs ≡ None
    → (k : ℕ) (d : X) → k < length xs → p (get_or xs k d) ≡ false
unfound p [] e k d lt = absurd (omega (arith, lt))
unfound p (x ∷ xs) e k d lt = by (p x) refl (λ f j less. unfound p xs f j d less) e k lt
  where
    by : (q : Bool) → p x ≡ q
        → (find p xs ≡ None → (k : ℕ) → k < length xs → p (get_or xs k d) ≡ false)
        → cond q (Some x) (find p xs) ≡ None
        → (k : ℕ) → k < length (x ∷ xs) → p (get_or (x ∷ xs) k d) ≡ false
    by true same rest e k lt = absurd (cc)
    by false same rest e zero lt = same
    by false same rest e (suc k) lt = rest e k (omega (arith, lt))

-- no LF stands where none has a place
pub without_end : (bytes : List ℕ) → position (λ byte. byte == 10) bytes ≡ None → HasNoLF bytes
without_end bytes none = λ k d lt.
    no_end (get_or bytes k d) (unfound is_end bytes (no_place is_end bytes none) k d lt)

-- none stands before the first
pub before_end : (bytes : List ℕ) (at : ℕ) → position (λ byte. byte == 10) bytes ≡ Some at
    → HasNoLF (take at bytes)
before_end bytes at some = λ k d lt.
    let found = position-Some is_end bytes at d some in
    let long = length-take-le at bytes (omega (arith, found.0)) in
    let less : k < at = omega (arith, lt, long) in
    subst (λ byte. byte ≢ 10) (sym (get_or-take at bytes k d less))
    (no_end (get_or bytes k d) (found.2 k less))

-- the first bytes up to an LF are those before it, and it
pub with_end : (bytes : List ℕ) (at : ℕ) → position (λ byte. byte == 10) bytes ≡ Some at
    → take (at + 1) bytes ≡ take at bytes ++ 10 ∷ []
with_end bytes at some =
    let found = position-Some is_end bytes at 0 some in
    take_more bytes at 0 found.0
    ∙ ap (λ byte. take at bytes ++ byte ∷ []) ((Decides-eqb (get_or bytes at 0) 10).0 found.1)

-- the whole of them is those before it, it, and those behind it
pub around_end : (bytes : List ℕ) (at : ℕ) → position (λ byte. byte == 10) bytes ≡ Some at
    → bytes ≡ take at bytes ++ 10 ∷ drop (at + 1) bytes
around_end bytes at some =
    sym (take-append-drop (at + 1) bytes)
    ∙ ap (λ l. l ++ drop (at + 1) bytes) (with_end bytes at some)
    ∙ append_assoc (take at bytes) (10 ∷ []) (drop (at + 1) bytes)

-- a buffer of which the first bytes were read, none of them LF
pub record Filled (before now : Option (List ℕ)) (line : List ℕ) (filled size faults count : ℕ)
    : Type 0 where
  pub within : filled ≤ length line
  pub same : length line ≡ size
  pub taken : Consumes before now (take filled line)
  pub inside : HasNoLF (take filled line)
  pub calm : count ≡ faults

-- the first bytes, and the next n of those behind them
pub next_bytes : (line into : List ℕ) (filled k n : ℕ) → filled ≤ length line → n ≤ length into
    → take (filled + n) (put_mid filled k line into) ≡ take filled line ++ take n into
next_bytes line into filled k n h m =
    let front : length (take filled line) ≡ filled = length-take-le filled line h in
    ap (λ j. take (j + n) (put_mid filled k line into)) (sym front)
    ∙ take-append-add (take filled line) (into ++ post_of filled k line) n
    ∙ ap (λ l. take filled line ++ l) (take-append-le n into (post_of filled k line) m)

-- a buffer of which the rest was read into keeps its length
pub mid_long : (line into : List ℕ) (filled : ℕ) → filled ≤ length line
    → length into ≡ length line - filled
    → length (put_mid filled (length line - filled) line into) ≡ length line
mid_long line into filled h e = same_len_mid filled (length line - filled) line into
    (e ∙ sym (length-take-le (length line - filled) (drop filled line)
    (omega (arith, length-drop filled line))))

-- a read whose bytes have no LF
pub filled_more : {a b : Option (List ℕ)} {line : List ℕ} {filled size faults count : ℕ}
    (c : Option (List ℕ)) (into : List ℕ) (n after : ℕ) → Filled a b line filled size faults count
    → Consumes b c (take n into) → n ≤ length into → length into ≡ length line - filled
    → position (λ byte. byte == 10) (take n into) ≡ None → after ≡ count
    → Filled a c (put_mid filled (length line - filled) line into) (filled + n) size faults after
filled_more {a} {b} {line} {filled} {size} c into n after f p m long none calm =
    let next = next_bytes line into filled (length line - filled) n f.within m in
    let whole = mid_long line into filled f.within long in
    record {
      within = omega (arith, whole, long, m, f.within);
      same = whole ∙ f.same;
      taken = subst (Consumes a c) (sym next) (Consumes-trans a b c _ _ f.taken p);
      inside = subst HasNoLF (sym next)
          (All-append (λ byte. byte ≢ 10) (take filled line) (take n into) f.inside
          (without_end (take n into) none));
      calm = calm ∙ f.calm;
    }

-- the place of an LF is within the buffer
pub end_within : (line into : List ℕ) (filled at n : ℕ) → filled ≤ length line
    → length into ≡ length line - filled → n ≤ length into → at < n
    → filled + at < length (put_mid filled (length line - filled) line into)
end_within line into filled at n h long m less =
    let whole = mid_long line into filled h long in omega (arith, whole, long, m, less, h)

-- a read that ends with its first LF
pub filled_line : {a b : Option (List ℕ)} {line : List ℕ} {filled size faults count : ℕ}
    (c : Option (List ℕ)) (into : List ℕ) (k n at : ℕ) → Filled a b line filled size faults count
    → Consumes b c (take n into) → n ≤ length into → at + 1 ≡ n
    → position (λ byte. byte == 10) (take n into) ≡ Some at
    → TakesLine a c (take (filled + at) (put_mid filled k line into))
filled_line {a} {b} {line} {filled} c into k n at f p m whole some =
    let piece : List ℕ = take n into in
    let same : take at piece ≡ take at into = take-take at n into (omega (arith, whole)) in
    let all : piece ≡ take at into ++ 10 ∷ [] =
    sym (take_all (at + 1) piece (omega (arith, whole, length-take-le n into m)))
    ∙ with_end piece at some ∙ ap (λ l. l ++ 10 ∷ []) same in
    let next : take (filled + at) (put_mid filled k line into) ≡ take filled line ++ take at into =
    next_bytes line into filled k at f.within (omega (arith, whole, m)) in (
      subst (Consumes a c)
          (sym (append_assoc (take filled line) (take at into) (10 ∷ []))
          ∙ ap (λ l. l ++ 10 ∷ []) (sym next))
          (Consumes-trans a b c (take filled line) (take at into ++ 10 ∷ []) f.taken
          (subst (Consumes b c) all p)),
      subst HasNoLF (sym next) (All-append (λ byte. byte ≢ 10) (take filled line) (take at into)
          f.inside (subst HasNoLF same (before_end piece at some))),
    )

-- nothing was read yet
pub filled_none : (a : Option (List ℕ)) (line : List ℕ) (size count : ℕ) → length line ≡ size
    → Filled a a line 0 size count count
filled_none a line size count same = record {
  within = omega arith;
  same = same;
  taken = Consumes-nil a;
  inside = λ k d lt. absurd (omega (arith, lt));
  calm = refl;
}

-- an end in place of an LF
pub line_ends : {a b : Option (List ℕ)} {line : List ℕ} {filled size faults count : ℕ}
    (c : Option (List ℕ)) (into : List ℕ) (n most : ℕ) → Filled a b line filled size faults count
    → Consumes b c (take n into) → n ≡ 0 → IsAtEnd c → TakesNoLine most a c
line_ends {a} {b} {line} {filled} c into n most f p none end = (
  take filled line ++ [],
  Consumes-trans a b c (take filled line) [] f.taken
      (subst (λ k. Consumes b c (take k into)) none p),
  inl (
    All-append (λ byte. byte ≢ 10) (take filled line) [] f.inside
        (λ k d lt. absurd (omega (arith, lt))),
    inl end,
  ),
)

-- bytes behind the LF
pub line_goes_on : {a b : Option (List ℕ)} {line : List ℕ} {filled size faults count : ℕ}
    (c : Option (List ℕ)) (into : List ℕ) (n at most : ℕ) → Filled a b line filled size faults count
    → Consumes b c (take n into) → n ≤ length into → at + 1 ≢ n
    → position (λ byte. byte == 10) (take n into) ≡ Some at → TakesNoLine most a c
line_goes_on {a} {b} {line} {filled} c into n at most f p m more some =
    let piece : List ℕ = take n into in
    let found = position-Some is_end piece at 0 some in
    let long = length-take-le n into m in
    let behind : length (drop (at + 1) piece) ≡ length piece - (at + 1) =
    length-drop (at + 1) piece in (
      take filled line ++ piece,
      Consumes-trans a b c (take filled line) piece f.taken p,
      inr (
        take filled line ++ take at piece,
        drop (at + 1) piece,
        ap (λ l. take filled line ++ l) (around_end piece at some)
            ∙ sym (append_assoc (take filled line) (take at piece) (10 ∷ drop (at + 1) piece)),
        less (at + 1) n (length piece) (length (drop (at + 1) piece)) more
            (omega (arith, found.0)) long behind,
      ),
    )
  where
    less : (m n l d : ℕ) → m ≢ n → m ≤ l → l ≡ n → d ≡ l - m → 0 < d
    less m n l d more h long is = grind (arith)

-- no LF in the whole buffer
pub line_is_long : {a b : Option (List ℕ)} {line : List ℕ} {filled size faults count : ℕ}
    → Filled a b line filled size faults count → length line ≤ filled
    → TakesNoLine (length line) a b
line_is_long {a} {b} {line} {filled} f whole = (
  take filled line,
  f.taken,
  inl (f.inside, inr (length-take-le filled line f.within ∙ omega (arith, whole, f.within))),
)
