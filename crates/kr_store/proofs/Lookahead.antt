-- Bytes that were read ahead.
use Rattle.std.proofs.Common.{◌≡◌, ℕ, ◌+◌, ◌-◌, ◌<◌, ◌≤◌, min, List, [], ◌++◌, length, take, drop, Bool, false, Option, None, Some, IfSome, IsTrue, Result, Ok, Err, OnErr, is_err, refl, sym, ◌∙◌, ap, subst, arith, length-take, length-drop}
use Rattle.std.proofs.lemmas.List.{take-append-drop, drop-drop, drop-take, take_at, take-take, length-take-le}
use Rattle.std.specs.Io.KnownBytes.{Consumes}
use Rattle.kr_base.specs.Tapes.{ReadsAt}
use Rattle.kr_base.specs.Faults.{Rose, IsCounted}
use Rattle.kr_store.specs.inner.Reading.{Ahead, Moves, Takes}
use Rattle.kr_store.proofs.Steps.{left_known, rest_of, seen}

-- the next bytes were taken
pub takes_next : (told now : Option (List ℕ)) (place end count later n : ℕ) (into : List ℕ)
    → now ≡ told → n ≤ length into → IfSome told (λ bytes. take n into ≡ take n (drop place bytes))
    → Takes (seen told place end count) (seen now (place + n) end later) (take n into)
takes_next told now place end count later n into same fits e = record {
  consumed = subst (λ t. Consumes (rest_of place told) (rest_of (place + n) t) (take n into))
      (sym same) (gone told e);
  place = ap (λ k. place + k) (sym (length-take-le n into fits));
}
  where
    gone : (t : Option (List ℕ)) → IfSome t (λ bytes. take n into ≡ take n (drop place bytes))
        → Consumes (rest_of place t) (rest_of (place + n) t) (take n into)
    gone None h = tt
    gone (Some bytes) h = sym (take-append-drop n (drop place bytes))
        ∙ ap (λ l. l ++ drop n (drop place bytes)) (sym h) ∙ ap (λ l. take n into ++ l)
        (drop-drop n place bytes)

-- a part of bytes of which the front is known
window : (u f n : ℕ) (xs ys : List ℕ) → take f xs ≡ take f ys → u + n ≤ f
    → take n (take (f - u) (drop u xs)) ≡ take n (drop u ys)
window u f n xs ys e h =
    take-take n (f - u) (drop u xs) (omega (arith, h))
    ∙ sym (drop-take u n xs)
    ∙ ap (drop u) (sym (take-take (u + n) f xs h) ∙ ap (take (u + n)) e ∙ take-take (u + n) f ys h)
    ∙ drop-take u n ys

-- how many bytes are handed out of those that were read ahead
pub handed : (u f n size : ℕ) (ahead : List ℕ) → u < f → f ≤ length ahead → 0 < size
    → n ≡ min (length (take (f - u) (drop u ahead))) size → (0 < n) × (u + n ≤ f) × (n ≤ size)
handed u f n size ahead l m s is =
    let a = length-take (f - u) (drop u ahead) in
    let b = length-drop u ahead in (
      omega (arith, a, b, l, m, s, is),
      omega (arith, a, b, l, m, s, is),
      omega
          (arith, a, b, l, m, s, is),
    )

-- the reader goes on within what the tape still holds
pub goes_on : {T E : Type 0} (told now : Option (List ℕ)) (place to end count later : ℕ)
    (read : Result T E) (old : Ahead) → now ≡ told
    → IfSome told (λ bytes. end ≡ length bytes) → to ≤ end → IsCounted count later read
    → seen told place end count ≡ old → Moves (is_err read) old (seen now to end later)
goes_on {T} {E} told now place to end count later read old same e w counts is =
    subst (λ (a : Ahead). Moves (is_err read) a (seen now to end later)) is (record {
      told = same;
      end = refl;
      within = w;
      known = left_known now to end
          (subst (λ t. IfSome t (λ bytes. end ≡ length bytes)) (sym same) e) w;
      later = counts.later;
      rose = rose_at read counts.failed;
      once = counts.once;
    })
  where
    rose_at : (r : Result T E) → OnErr r (Rose count later) → IsTrue (is_err r) → Rose count later
    rose_at (Ok x) h e = cc
    rose_at (Err why) h e = h

-- the reader goes on and reads nothing
pub goes_by : (told : Option (List ℕ)) (place to end count : ℕ) (old : Ahead)
    → IfSome told (λ bytes. end ≡ length bytes) → to ≤ end → seen told place end count ≡ old
    → Moves false old (seen told to end count)
goes_by told place to end count old e w is =
    subst (λ (a : Ahead). Moves false a (seen told to end count)) is (record {
      told = refl;
      end = refl;
      within = w;
      known = left_known told to end e w;
      later = omega arith;
      rose = λ e. cc;
      once = refl;
    })

-- no bytes are read ahead
pub none_ahead : (told now : Option (List ℕ)) (place end size : ℕ) (loose : Bool) → now ≡ told
    → place ≤ end → IfSome told (λ bytes. end ≡ length bytes) → 0 < size → loose ≡ false
    → (place ≤ end) × IfSome now (λ bytes. end ≡ length bytes) × (place ≤ place)
    × (place ≤ place + 0) × (0 < size) × (0 ≤ size)
    × IfSome now (λ (bytes : List ℕ). ◌≡◌ {A = List ℕ} [] []) × (loose ≡ false)
none_ahead told now place end size loose same w e s tight = (
  w,
  subst (λ t. IfSome t (λ bytes. end ≡ length bytes)) (sym same) e,
  omega arith,
  omega arith,
  s,
  omega arith,
  nothing now,
  tight,
)
  where
    nothing : (t : Option (List ℕ)) → IfSome t (λ (bytes : List ℕ). ◌≡◌ {A = List ℕ} [] [])
    nothing None = tt
    nothing (Some bytes) = refl

-- bytes are handed out of those that were read ahead
pub hands_on : (told now : Option (List ℕ)) (place end count later start f n size : ℕ)
    (ahead slice into : List ℕ) → now ≡ told → start ≤ place → place - start < f → f ≤ length ahead
    → slice ≡ ahead
    → IfSome told (λ bytes. take f ahead ≡ take f (drop start bytes)) → 0 < size
    → length into ≡ size
    → n ≡ min (length (take (f - (place - start)) (drop (place - start) slice))) size
    → take n into ≡ take n (take (f - (place - start)) (drop (place - start) slice))
    → (0 < n) × (n ≤ length into) × Takes (seen told place end count)
    (seen now (place + n) end later) (take n into)
hands_on told now place end count later start f n size ahead slice into same low l m are known s
    long is e =
    let h = handed (place - start) f n size ahead l m s
    (is ∙ ap (λ xs. min (length (take (f - (place - start)) (drop (place - start) xs))) size)
    are) in
    let fits : n ≤ length into = omega (arith, h.2, long) in
    (h.0, fits, takes_next told now place end count later n into same fits (of told known h.1))
  where
    of : (t : Option (List ℕ)) → IfSome t (λ bytes. take f ahead ≡ take f (drop start bytes))
        → (place - start) + n ≤ f → IfSome t (λ bytes. take n into ≡ take n (drop place bytes))
    of None k w = tt
    of (Some bytes) k w = e ∙ ap
        (λ xs. take n (take (f - (place - start)) (drop (place - start) xs))) are
        ∙ window (place - start) f n ahead (drop start bytes) k w
        ∙ ap (take n) (drop-drop (place - start) start bytes ∙ ap (λ j. drop j bytes)
        (omega (arith, low)))

-- what was read stands at the front
pub reads_front : (told : Option (List ℕ)) (place n : ℕ) (into : List ℕ)
    → ReadsAt told place n into → IfSome told (λ bytes. take n into ≡ take n (drop place bytes))
reads_front None place n into r = tt
reads_front (Some bytes) place n into r = r.1

-- bytes are handed out of those that were just read ahead
pub hands_first : (told now : Option (List ℕ)) (place end count later f n size : ℕ)
    (ahead slice into : List ℕ) → now ≡ told → (f ≡ 0 → ⊥) → f ≤ length ahead → slice ≡ ahead
    → ReadsAt told place f ahead → 0 < size → length into ≡ size
    → n ≡ min (length (take f slice)) size → take n into ≡ take n (take f slice)
    → (0 < n) × (n ≤ length into) × Takes (seen told place end count)
    (seen now (place + n) end later) (take n into)
hands_first told now place end count later f n size ahead slice into same some m are read s long is
    e =
    let a = length-take-le f ahead m in
    let count_is : n ≡ min f size = is ∙ ap (λ xs. min (length (take f xs)) size) are
    ∙ ap (λ k. min k size) a in
    let fits : n ≤ length into = omega (arith, count_is, long) in
    let within : n ≤ f = omega (arith, count_is) in (
      omega (arith, count_is, some, s),
      fits,
      takes_next told now place end count later n into same
          fits (of told (reads_front told place f ahead read) within),
    )
  where
    of : (t : Option (List ℕ)) → IfSome t (λ bytes. take f ahead ≡ take f (drop place bytes))
        → n ≤ f → IfSome t (λ bytes. take n into ≡ take n (drop place bytes))
    of None k w = tt
    of (Some bytes) k w = e ∙ ap (λ xs. take n (take f xs)) are ∙ ap (take n) k ∙ take-take n f
        (drop place bytes) w

-- the room for bytes that are read ahead stays as it is
pub still_room : (into rest : List ℕ) (n : ℕ) → length into ≡ n → 0 < length into
    → 0 < length (take n (into ++ rest))
still_room into rest n e s = subst (λ (l : List ℕ). 0 < length l) (sym (take_at into rest n e)) s

-- bytes were just read ahead, and the first of them handed out
pub read_ahead : (told now : Option (List ℕ)) (place n end f size : ℕ) (ahead rest : List ℕ)
    (loose : Bool) → now ≡ told → IfSome told (λ bytes. end ≡ length bytes) → place + n ≤ end → n ≤ f
    → length ahead ≡ size → 0 < length ahead → f ≤ length ahead → ReadsAt told place f ahead
    → loose ≡ false → (place + n ≤ end) × IfSome now (λ bytes. end ≡ length bytes) × (place ≤ place + n)
    × (place + n ≤ place + f) × (0 < length (take size (ahead ++ rest)))
    × (f ≤ length (take size (ahead ++ rest)))
    × IfSome now (λ bytes. take f (take size (ahead ++ rest)) ≡ take f (drop place bytes))
    × (loose ≡ false)
read_ahead told now place n end f size ahead rest loose same e w l is s m read tight =
    let all = sym (take_at ahead rest size is) in (
      w,
      subst (λ t. IfSome t (λ bytes. end ≡ length bytes)) (sym same) e,
      omega arith,
      omega (arith, l),
      subst (λ (xs : List ℕ). 0 < length xs) all s,
      subst (λ (xs : List ℕ). f ≤ length xs) all m,
      subst (λ (xs : List ℕ). IfSome now (λ bytes. take f xs ≡ take f (drop place bytes))) all
          (subst (λ t. IfSome t (λ bytes. take f ahead ≡ take f (drop place bytes))) (sym same)
          (reads_front told place f ahead read)),
      tight,
    )
