-- Which line of a run an entry of its seat was added for.
use Rattle.std.specs.Prelude.{All, ⊤, slice_get}
use Rattle.std.proofs.Common.{◌≡◌, ℕ, zero, suc, ◌+◌, ◌<◌, ◌≤◌, List, [], ◌∷◌, ◌++◌, length, map, get_or, Some, ◌⊎◌, inl, inr, refl, ap, sym, ◌∙◌, arith, length-append}
use Rattle.std.proofs.lemmas.List.{append_assoc, length-map}
use Rattle.std.proofs.lemmas.List.Elements.{All-cons, All-nil}
use Rattle.std.proofs.lemmas.Option.{none-some, same_Some}
use Rattle.kr_rollout.specs.declared.opening.Entry.{Entry}
use Rattle.kr_script.specs.declared.script.ScriptLine.{ScriptLine}
use Rattle.kr_script.specs.declared.told.Told.{Told}
use Rattle.kr_workers.specs.Runs.{LineDone, entries_in, lines_in, replies_in}
use Rattle.kr_workers.proofs.Hearing.{InFirst, InSecond, of_two}

-- ---- the place of each entry's line, from some number on

abbrev pub places : ℕ → List LineDone → List ℕ
places n [] = []
places n (done ∷ run) = map (λ (e : Entry). n) done.part ++ places (suc n) run

same_at : (n : ℕ) (front : List Entry) (e : Entry) (rest : List Entry) (more : List ℕ)
    → get_or (map (λ (x : Entry). n) (front ++ e ∷ rest) ++ more) (length front) 0 ≡ n
same_at n [] e rest more = refl
same_at n (x ∷ front) e rest more = same_at n front e rest more

behind_part : (n : ℕ) (part front : List Entry) (more : List ℕ)
    → get_or (map (λ (x : Entry). n) part ++ more) (length (part ++ front)) 0
    ≡ get_or more (length front) 0
behind_part n [] front more = refl
behind_part n (x ∷ part) front more = behind_part n part front more

-- an entry of the line behind those ahead of it
place_from : (n : ℕ) (ahead : List LineDone) (done : LineDone) (behind : List LineDone)
    (front : List Entry) (e : Entry) (rest : List Entry) → done.part ≡ front ++ e ∷ rest
    → get_or (places n (ahead ++ done ∷ behind)) (length (entries_in ahead ++ front)) 0
    ≡ n + length ahead
place_from n [] done behind front e rest is =
    ap (λ (part : List Entry). get_or (map (λ (x : Entry). n) part ++ places (suc n) behind)
    (length front) 0) is
    ∙ same_at n front e rest (places (suc n) behind) ∙ (let same : n ≡ n + 0 = omega arith in same)
place_from n (one ∷ ahead) done behind front e rest is =
    ap (λ (l : List Entry). get_or (map (λ (x : Entry). n) one.part
    ++ places (suc n) (ahead ++ done ∷ behind)) (length l) 0)
    (append_assoc one.part (entries_in ahead) front)
    ∙ behind_part n one.part (entries_in ahead ++ front)
    (places (suc n) (ahead ++ done ∷ behind))
    ∙ place_from (suc n) ahead done behind front e rest is
    ∙ (let same : suc n + length ahead ≡ n + suc (length ahead) = omega arith in same)

pub place_there : (ahead : List LineDone) (done : LineDone) (behind : List LineDone)
    (front : List Entry) (e : Entry) (rest : List Entry) → done.part ≡ front ++ e ∷ rest
    → get_or (places 0 (ahead ++ done ∷ behind)) (length (entries_in ahead ++ front)) 0
    ≡ length ahead
place_there ahead done behind front e rest is = place_from 0 ahead done behind front e rest is
    ∙ (let same : 0 + length ahead ≡ length ahead = omega arith in same)

-- ---- the line of an entry

-- the line of the entry behind these
pub record HasLineOf (run : List LineDone) (xs : List Entry) (e : Entry) : Type 0 where
  pub ahead : List LineDone
  pub done : LineDone
  pub behind : List LineDone
  pub run_is : run ≡ ahead ++ done ∷ behind
  pub front : List Entry
  pub rest : List Entry
  pub part_is : done.part ≡ front ++ e ∷ rest
  pub xs_is : xs ≡ entries_in ahead ++ front

pub line_of : (run : List LineDone) (xs : List Entry) (e : Entry) (ys : List Entry)
    → entries_in run ≡ xs ++ e ∷ ys → HasLineOf run xs e
line_of [] xs e ys is = absurd (let n = ap length is in
    omega (arith, n, length-append xs (e ∷ ys)))
line_of (done ∷ run) xs e ys is =
    by (of_two done.part (entries_in run) xs e ys is) (line_of run)
  where
    by : InFirst done.part xs e ⊎ InSecond done.part (entries_in run) xs e ys
        → ((us : List Entry) (u : Entry) (vs : List Entry) → entries_in run ≡ us ++ u ∷ vs
        → HasLineOf run us u) → HasLineOf (done ∷ run) xs e
    by (inl a) again = record {
      ahead = [];
      done = done;
      behind = run;
      run_is = refl;
      front = xs;
      rest = a.rest;
      part_is = a.is;
      xs_is = refl;
    }
    by (inr b) again = let l = again b.front e ys b.is in record {
      ahead = done ∷ l.ahead;
      done = l.done;
      behind = l.behind;
      run_is = ap (λ (r : List LineDone). done ∷ r) l.run_is;
      front = l.front;
      rest = l.rest;
      part_is = l.part_is;
      xs_is = b.front_is ∙ ap (λ (l : List Entry). done.part ++ l) l.xs_is
          ∙ sym (append_assoc done.part (entries_in l.ahead) l.front);
    }

-- ---- the line at a place

pub record DoneAt (run : List LineDone) (at : ℕ) (asked : ScriptLine) (reply : Told)
    : Type 0 where
  pub ahead : List LineDone
  pub done : LineDone
  pub behind : List LineDone
  pub run_is : run ≡ ahead ++ done ∷ behind
  pub many : length ahead ≡ at
  pub line_is : done.line ≡ asked
  pub reply_is : done.reply ≡ reply

pub done_at : (run : List LineDone) (at : ℕ) (asked : ScriptLine) (reply : Told)
    → slice_get (lines_in run) at ≡ Some asked → slice_get (replies_in run) at ≡ Some reply
    → DoneAt run at asked reply
done_at [] at asked reply l r = absurd (none-some asked l)
done_at (done ∷ run) zero asked reply l r = record {
  ahead = [];
  done = done;
  behind = run;
  run_is = refl;
  many = refl;
  line_is = same_Some done.line asked l;
  reply_is = same_Some done.reply reply r;
}
done_at (done ∷ run) (suc at) asked reply l r = let d = done_at run at asked reply l r in record {
  ahead = done ∷ d.ahead;
  done = d.done;
  behind = d.behind;
  run_is = ap (λ (r : List LineDone). done ∷ r) d.run_is;
  many = ap suc d.many;
  line_is = d.line_is;
  reply_is = d.reply_is;
}

-- what stands in a mapped list behind so many
pub stands_at : {X Y : Type 0} (f : X → Y) (ahead : List X) (x : X) (behind : List X)
    → slice_get (map f (ahead ++ x ∷ behind)) (length ahead) ≡ Some (f x)
stands_at f [] x behind = refl
stands_at f (y ∷ ahead) x behind = stands_at f ahead x behind

-- ---- places ascend

abbrev pub Ascend : List ℕ → Type 0
Ascend [] = ⊤
Ascend (n ∷ ns) = All (λ (m : ℕ). n ≤ m) ns × Ascend ns

same_from : (n : ℕ) (part : List Entry) (more : List ℕ) → All (λ (m : ℕ). n ≤ m) more
    → All (λ (m : ℕ). n ≤ m) (map (λ (x : Entry). n) part ++ more)
same_from n [] more all = all
same_from n (x ∷ part) more all =
    All-cons (λ (m : ℕ). n ≤ m) n (map (λ (x : Entry). n) part ++ more) (omega arith)
    (same_from n part more all)

same_ascend : (n : ℕ) (part : List Entry) (more : List ℕ) → All (λ (m : ℕ). n ≤ m) more
    → Ascend more → Ascend (map (λ (x : Entry). n) part ++ more)
same_ascend n [] more all ascend = ascend
same_ascend n (x ∷ part) more all ascend =
    (same_from n part more all, same_ascend n part more all ascend)

weaker : (n : ℕ) (ms : List ℕ) → All (λ (m : ℕ). suc n ≤ m) ms → All (λ (m : ℕ). n ≤ m) ms
weaker n ms all = λ k d within. let h = all k d within in omega (arith, h)

places_from : (n : ℕ) (run : List LineDone) → All (λ (m : ℕ). n ≤ m) (places n run)
places_from n [] = All-nil (λ (m : ℕ). n ≤ m)
places_from n (done ∷ run) = same_from n done.part (places (suc n) run)
    (weaker n (places (suc n) run) (places_from (suc n) run))

pub places_ascend : (n : ℕ) (run : List LineDone) → Ascend (places n run)
places_ascend n [] = tt
places_ascend n (done ∷ run) = same_ascend n done.part (places (suc n) run)
    (weaker n (places (suc n) run) (places_from (suc n) run)) (places_ascend (suc n) run)

pub ascend_at : (ns : List ℕ) → Ascend ns → (k l : ℕ) → k ≤ l → l < length ns
    → get_or ns k 0 ≤ get_or ns l 0
ascend_at [] a k l le below = absurd (omega (arith, below))
ascend_at (n ∷ ns) a zero zero le below = omega arith
ascend_at (n ∷ ns) a zero (suc l) le below = a.0 l 0 (omega (arith, below))
ascend_at (n ∷ ns) a (suc k) zero le below = absurd (omega (arith, le))
ascend_at (n ∷ ns) a (suc k) (suc l) le below =
    ascend_at ns a.1 k l (omega (arith, le)) (omega (arith, below))

same_many : (n : ℕ) (part : List Entry) (more : List ℕ)
    → length (map (λ (x : Entry). n) part ++ more) ≡ length part + length more
same_many n part more = omega (
  arith,
  length-append (map (λ (x : Entry). n) part) more,
  length-map part (λ (x : Entry). n),
)

pub places_many : (n : ℕ) (run : List LineDone)
    → length (places n run) ≡ length (entries_in run)
places_many n [] = refl
places_many n (done ∷ run) = omega (
  arith,
  same_many n done.part (places (suc n) run),
  places_many (suc n) run,
  length-append done.part (entries_in run),
)
