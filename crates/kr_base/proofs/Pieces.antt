-- Pieces of a text that were written one behind another.
use Rattle.std.proofs.Common.{◌≡◌, ℕ, suc, ◌+◌, ◌<◌, ◌≤◌, List, ◌++◌, length, take, drop, Option, Bor, sym, ◌∙◌, ap, subst, append_assoc, append-nil, arith, get_or, add-one}
use Rattle.std.proofs.Math.Seq.{drop-cons, take-append-add}
use Rattle.std.proofs.lemmas.List.{take-append-le, drop_all, length-append}
use Rattle.std.specs.Io.KnownBytes.{Appends}
use Rattle.std.proofs.KnownBytes.{Appends-trans}
use Rattle.kr_base.specs.Streams.{AppendsFront, whole_text}

-- the first pieces were written, and how many bytes they are in all is left open
pub record Spoke (before now : Option (List ℕ)) (pieces : List (Bor (List ℕ))) (done faults count : ℕ) : Type 0 where
  pub written : List ℕ
  pub appended : Appends before now written
  pub split : whole_text pieces ≡ written ++ whole_text (drop done pieces)
  pub same : count ≡ faults

text-drop : (pieces : List (Bor (List ℕ))) (i : ℕ) (d : Bor (List ℕ)) → i < length pieces → whole_text (drop i pieces) ≡ (get_or pieces i d).now ++ whole_text (drop (suc i) pieces)
text-drop pieces i d h = ap whole_text (drop-cons pieces i d h)

pub spoke-more : {a b : Option (List ℕ)} {pieces : List (Bor (List ℕ))} {i faults count : ℕ} (c : Option (List ℕ)) (d : Bor (List ℕ)) (piece : List ℕ) (after : ℕ) → Spoke a b pieces i faults count → i < length pieces
    → piece ≡ (get_or pieces i d).now → Appends b c piece → after ≡ count → Spoke a c pieces (i + 1) faults after
spoke-more {a} {b} {pieces} {i} c d piece after s h e p later = record {
  written = s.written ++ piece;
  appended = Appends-trans a b c _ _ s.appended p;
  split = rw add-one (s.split ∙ ap (λ l. s.written ++ l) (text-drop pieces i d h ∙ ap (λ l. l ++ whole_text (drop (suc i) pieces)) (sym e)) ∙ sym (append_assoc s.written _ _));
  same = later ∙ s.same;
}

-- a fault leaves a prefix of what comes next
pub spoke-front : {a b : Option (List ℕ)} {pieces : List (Bor (List ℕ))} {i faults count : ℕ} (c : Option (List ℕ)) (d : Bor (List ℕ)) (next : List ℕ) → Spoke a b pieces i faults count → i < length pieces
    → next ≡ (get_or pieces i d).now → AppendsFront b c next → AppendsFront a c (whole_text pieces)
spoke-front {a} {b} {pieces} {i} c d next s h e (n, short, appended) =
    let whole : whole_text pieces ≡ s.written ++ (next ++ whole_text (drop (suc i) pieces)) =
    s.split ∙ ap (λ l. s.written ++ l) (text-drop pieces i d h ∙ ap (λ l. l ++ whole_text (drop (suc i) pieces)) (sym e)) in
    let front : take (length s.written + n) (whole_text pieces) ≡ s.written ++ take n next =
    ap (take (length s.written + n)) whole ∙ take-append-add s.written (next ++ whole_text (drop (suc i) pieces)) n ∙ ap (λ l. s.written ++ l) (take-append-le n next (whole_text (drop (suc i) pieces)) short) in (
      length s.written + n,
      omega (arith, ap length whole, length-append s.written (next ++ whole_text (drop (suc i) pieces)), length-append next (whole_text (drop (suc i) pieces))),
      subst (Appends a c) (sym front) (Appends-trans a b c _ _ s.appended appended),
    )

pub spoke-all : {a b : Option (List ℕ)} {pieces : List (Bor (List ℕ))} {i faults count : ℕ} → Spoke a b pieces i faults count → length pieces ≤ i → Appends a b (whole_text pieces)
spoke-all {a} {b} {pieces} {i} s h = subst (Appends a b) (sym (s.split ∙ ap (λ l. s.written ++ whole_text l) (drop_all i pieces h) ∙ append-nil s.written)) s.appended
