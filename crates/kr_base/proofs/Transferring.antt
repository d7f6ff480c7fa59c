-- How far a whole content was read or written.
use Rattle.std.proofs.Common.{◌≡◌, ℕ, ◌+◌, ◌-◌, ◌<◌, ◌≤◌, List, ◌++◌, length, take, drop, sym, ◌∙◌, ap, subst, append-nil, arith, length-append, length-drop, Option}
use Rattle.std.proofs.lemmas.List.{take_all, length-take, length-take-le, take-append-le}
use Rattle.std.proofs.Math.Seq.{take-add, take-append_seam}
use Rattle.std.specs.Io.KnownBytes.{Appends, Consumes, IsAtEnd, Keeps}
use Rattle.std.proofs.KnownBytes.{Appends-trans, Appends-kept, Consumes-trans, Consumes-kept}
use Rattle.kr_base.specs.Streams.{TakesCount, TakesAtMost, AppendsFront}

-- a sink has taken the first bytes
pub record Wrote (before now : Option (List ℕ)) (bytes : List ℕ) (written faults count : ℕ) : Type 0 where
  pub within : written ≤ length bytes
  pub appended : Appends before now (take written bytes)
  pub same : count ≡ faults

-- a source has given the bytes, at least one a turn
pub record Took (before now : Option (List ℕ)) (taken : List ℕ) (turns limit faults count : ℕ) : Type 0 where
  pub consumed : Consumes before now taken
  pub turned : turns ≤ length taken
  pub within : length taken ≤ limit
  pub same : count ≡ faults

-- the first m bytes and the next n are the first m + n
take-next : (bytes : List ℕ) (m n : ℕ) → m ≤ length bytes → n ≤ length (take (length bytes - m) (drop m bytes)) → take m bytes ++ take n (take (length bytes - m) (drop m bytes)) ≡ take (m + n) bytes
take-next bytes m n h k =
    let whole : take (length bytes - m) (drop m bytes) ≡ drop m bytes = take_all (length bytes - m) (drop m bytes) (omega (arith, length-drop m bytes)) in
    ap (λ l. take m bytes ++ take n l) whole ∙ sym (take-add m n bytes)

pub wrote-more : {a b c : Option (List ℕ)} {bytes : List ℕ} {m faults count : ℕ} (n after : ℕ) → Wrote a b bytes m faults count → n ≤ length (take (length bytes - m) (drop m bytes))
    → Appends b c (take n (take (length bytes - m) (drop m bytes))) → after ≡ count → Wrote a c bytes (m + n) faults after
wrote-more {a} {b} {c} {bytes} {m} {faults} {count} n after w k p h = record {
  within =
      let whole : take (length bytes - m) (drop m bytes) ≡ drop m bytes = take_all (length bytes - m) (drop m bytes) (omega (arith, length-drop m bytes)) in
      omega (arith, w.within, length-drop m bytes, ap length whole);
  appended = subst (Appends a c) (take-next bytes m n w.within k) (Appends-trans a b c _ _ w.appended p);
  same = h ∙ w.same;
}

pub wrote-front : {a b : Option (List ℕ)} {bytes : List ℕ} {m faults count : ℕ} (c : Option (List ℕ)) → Wrote a b bytes m faults count → Keeps b c → AppendsFront a c bytes
wrote-front {a} {b} {bytes} {m} c w k = (m, w.within, Appends-kept a b c _ w.appended k)

pub wrote-all : {a b : Option (List ℕ)} {bytes : List ℕ} {m faults count : ℕ} → Wrote a b bytes m faults count → length bytes ≤ m → Appends a b bytes
wrote-all {a} {b} {bytes} {m} w h = subst (Appends a b) (take_all m bytes h) w.appended

pub took-more : {a b c : Option (List ℕ)} {taken : List ℕ} {turns limit faults count : ℕ} (into others now : List ℕ) (n after : ℕ) → Took a b taken turns limit faults count
    → Consumes b c (take n into) → n ≤ length into → 0 < n → n ≤ limit - length taken → now ≡ taken ++ take n (into ++ others) → after ≡ count → Took a c now (turns + 1) limit faults after
took-more {a} {b} {c} {taken} {turns} {limit} into others now n after t p k pos rest e h =
    let same : now ≡ taken ++ take n into = e ∙ ap (λ l. taken ++ l) (take-append-le n into others k) in
    let long : length now ≡ length taken + n = ap length same ∙ length-append taken (take n into) ∙ ap (λ m. length taken + m) (length-take-le n into k) in
    record {
      consumed = subst (Consumes a c) (sym same) (Consumes-trans a b c _ _ t.consumed p);
      turned = omega (arith, t.turned);
      within = omega (arith, t.within);
      same = h ∙ t.same;
    }

pub took-count : {a b : Option (List ℕ)} {taken : List ℕ} {turns limit faults count : ℕ} (c : Option (List ℕ)) (into : List ℕ) (n : ℕ) → Took a b taken turns limit faults count
    → Consumes b c (take n into) → n ≤ length into → length into ≤ limit - length taken + 1 → limit - length taken < n → TakesCount a c (limit + 1)
took-count {a} {b} {taken} {turns} {limit} c into n t p k ask over =
    (taken ++ take n into, Consumes-trans a b c _ _ t.consumed p, omega (arith, t.within, length-append taken (take n into), length-take-le n into k))

pub took-at-most : {a b : Option (List ℕ)} {taken : List ℕ} {turns limit faults count : ℕ} (c : Option (List ℕ)) (into : List ℕ) (n : ℕ) → Took a b taken turns limit faults count
    → Consumes b c (take n into) → n ≤ length into → n ≤ limit - length taken → TakesAtMost a c limit
took-at-most {a} {b} {taken} {turns} {limit} c into n t p k rest =
    (taken ++ take n into, Consumes-trans a b c _ _ t.consumed p, omega (arith, t.within, length-append taken (take n into), length-take-le n into k))

-- a read that failed took nothing more
pub took-kept : {a b : Option (List ℕ)} {taken : List ℕ} {turns limit faults count : ℕ}
    (c : Option (List ℕ)) → Took a b taken turns limit faults count → Keeps b c
    → TakesAtMost a c limit
took-kept {a} {b} {taken} c t k = (taken, Consumes-kept a b c taken t.consumed k, t.within)

-- a read that gave nothing told the end
pub took-all : {a b : Option (List ℕ)} {taken : List ℕ} {turns limit faults count : ℕ}
    (c : Option (List ℕ)) (into : List ℕ) (n : ℕ) → Took a b taken turns limit faults count
    → Consumes b c (take n into) × (n ≡ 0 → 0 < length into → IsAtEnd c) → n ≡ 0 → 0 < length into
    → Consumes a c taken × IsAtEnd c × (length taken ≤ limit)
took-all {a} {b} {taken} c into n t told none pos = (
  subst (Consumes a c) (ap (λ m. taken ++ take m into) none ∙ append-nil taken)
      (Consumes-trans a b c taken (take n into) t.consumed told.0),
  told.1 none pos,
  t.within,
)

-- what was given stands at the front of the buffer
pub given-front : {n : ℕ} (given rest : List ℕ) → n ≡ length given
    → (n ≤ length (given ++ rest)) × (n ≡ length (take n (given ++ rest)))
given-front {n} given rest is = (
  omega (arith, is, length-append given rest),
  omega (arith, is, length-append given rest, length-take n (given ++ rest)),
)

-- and what was given of the bytes behind a place are the first of them
pub given-at : {n : ℕ} (at : ℕ) {held lent given : List ℕ} (rest : List ℕ) → lent ≡ held
    → given ≡ take n (take (length lent - at) (drop at lent)) → n ≡ length given
    → take n (given ++ rest) ≡ take n (drop at held)
given-at {n} at {held} {lent} {given} rest lends gives is =
    let all = take_all (length lent - at) (drop at lent) (omega (arith, length-drop at lent)) in
    ap (λ m. take m (given ++ rest)) is ∙ take-append_seam given rest ∙ gives ∙ ap (take n) all
    ∙ ap (λ l. take n (drop at l)) lends
