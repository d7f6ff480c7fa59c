-- Lines that were written one text behind another.
use Rattle.std.proofs.Common.{◌≡◌, ℕ, suc, ◌+◌, ◌<◌, ◌≤◌, List, ◌++◌, length, take, drop, Option, Result, Ok, Err, true, Bor, sym, ◌∙◌, ap, subst, append_assoc, append-nil, arith, get_or, add-one}
use Rattle.std.proofs.Math.Seq.{drop-cons, take-append-add}
use Rattle.std.proofs.lemmas.List.{take-append-le, drop_all, length-append}
use Rattle.std.specs.Io.KnownBytes.{Appends}
use Rattle.std.proofs.KnownBytes.{Appends-trans}
use Rattle.kr_base.specs.Streams.{AppendsFront}
use Rattle.kr_base.specs.Faults.{counted}
use Rattle.kr_base.proofs.Counting.{Rose-later}
use Rattle.kr_cmd_messages.specs.Receipts.{Receipt, receipt}
use Rattle.kr_cmd_messages.specs.inner.Sayings.{Says}

pub says_by : {T E : Type 0} {sink : Receipt} {result : Result T E} {a b : List ℕ} → a ≡ b
    → Says sink a result → Says sink b result
says_by {sink = sink} {result} e s = subst (λ l. Says sink l result) e s

-- ---- one text behind another

front_of_both : (a b : Option (List ℕ)) (text more : List ℕ) → AppendsFront a b text
    → AppendsFront a b (text ++ more)
front_of_both a b text more (n, short, appended) = (
  n,
  omega (arith, short, length-append text more),
  subst (Appends a b) (sym (take-append-le n text more short)) appended,
)

front_behind : (a b c : Option (List ℕ)) (text more : List ℕ) → Appends a b text
    → AppendsFront b c more → AppendsFront a c (text ++ more)
front_behind a b c text more written (n, short, appended) = (
  length text + n,
  omega (arith, short, length-append text more),
  subst (Appends a c) (sym (take-append-add text more n))
      (Appends-trans a b c _ _ written appended),
)

-- a fault in the first text
pub says_cut : {T E : Type 0} {x : E} {sink : Receipt} (text more : List ℕ)
    → Says {T = T} {E = E} sink text (Err x) → Says {T = T} {E = E} sink (text ++ more) (Err x)
says_cut {sink = sink} text more s = record {
  ok = tt;
  err = front_of_both sink.old sink.new text more s.err;
  cause = s.cause;
}

-- the first text was written, and the other so
pub says_behind : {T E : Type 0} {a b c : Option (List ℕ)} {faults count after : ℕ}
    (text more : List ℕ) (result : Result T E) → Appends a b text → count ≡ faults
    → Says (receipt b c count after) more result
    → Says (receipt a c faults after) (text ++ more) result
says_behind {a = a} {b} {c} text more (Ok x) written same s = record {
  ok = Appends-trans a b c _ _ written s.ok;
  err = tt;
  cause = record {
    later = omega (arith, same, s.cause.later);
    failed = tt;
    once = s.cause.once ∙ same;
  };
}
says_behind {a = a} {b} {c} text more (Err x) written same s = record {
  ok = tt;
  err = front_behind a b c text more written s.err;
  cause = record {
    later = omega (arith, same, s.cause.later);
    failed = Rose-later _ _ _ (omega (arith, same)) s.cause.failed;
    once = s.cause.once ∙ ap (counted true) same;
  };
}
