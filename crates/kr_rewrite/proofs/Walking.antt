-- Steps one behind another, and what is counted of them.
use Rattle.std.proofs.Common.{◌≡◌, ℕ, ◌+◌, Bool, true, false, cond, List, [], ◌∷◌, ◌++◌, Option, Ok, refl, sym, ap, subst, ◌∙◌, arith}
use Rattle.std.specs.Prelude.{All, count_by}
use Rattle.std.proofs.lemmas.List.Elements.{All-nil, All-cons}
use Rattle.std.proofs.lemmas.List.Sums.{sum_by-append, sum_by-cons}
use Rattle.kr_base.specs.Numbering.{next_number}
use Rattle.kr_history.specs.Acting.{Caller}
use Rattle.kr_rewrite.specs.Drives.{StepCounts, FindsRow, IsSettled, LeavesNoneStale, WalksOver, capped_count, is_changed, is_fresh, is_left, is_rewritten, last_of, path_of}
use Rattle.kr_rewrite.specs.Rewrites.{IsStepOver, ReadsFoundRow}
use Rattle.kr_rewrite.specs.declared.outcome.Report.{Report}
use Rattle.kr_rewrite.specs.declared.outcome.Step.{Step}
use Rattle.kr_rewrite.specs.declared.outcome.Step.TheVariants as step
use Rattle.kr_rewrite.specs.inner.Stages.{CountsStep}

-- ---- the path of the last step

pub last_more : (above : List ℕ) (steps : List Step) (taken : Step)
    → last_of above (steps ++ taken ∷ []) ≡ path_of (last_of above steps) taken
last_more above [] taken = refl
last_more above (first ∷ steps) taken = last_more (path_of above first) steps taken

-- ---- counts

module _ (p : Step → Bool) (steps : List Step) (taken : Step) (m : ℕ)
    (is : m ≡ capped_count (count_by p steps)) where
  count_more : count_by p (steps ++ taken ∷ []) ≡ count_by p steps + cond (p taken) 1 0
  count_more = omega (
    arith,
    sum_by-append (λ x. cond (p x) 1 0) steps (taken ∷ []),
    sum_by-cons (λ x. cond (p x) 1 0) taken [],
  )

  counts_it : p taken ≡ true → next_number m ≡ capped_count (count_by p (steps ++ taken ∷ []))
  counts_it here =
      let one : cond (p taken) 1 0 ≡ 1 = ap {B = ℕ} (λ b. cond b 1 0) here in
      by m (count_by p steps) (count_by p (steps ++ taken ∷ [])) is (omega (arith, count_more, one))
    where
      by : (m n k : ℕ) → m ≡ capped_count n → k ≡ n + 1 → next_number m ≡ capped_count k
      by m n k e f = grind arith

  counts_still : p taken ≡ false → m ≡ capped_count (count_by p (steps ++ taken ∷ []))
  counts_still not_here =
      let none : cond (p taken) 1 0 ≡ 0 = ap {B = ℕ} (λ b. cond b 1 0) not_here in
      let same : count_by p steps ≡ count_by p (steps ++ taken ∷ []) =
      omega (arith, count_more, none) in
      is ∙ ap capped_count same

  -- it is counted where it is of this kind
  counts_one : (n : ℕ) → n ≡ cond (p taken) (next_number m) m
      → n ≡ capped_count (count_by p (steps ++ taken ∷ []))
  counts_one n e = by (p taken) refl e
    where
      by : (b : Bool) → p taken ≡ b → n ≡ cond b (next_number m) m
          → n ≡ capped_count (count_by p (steps ++ taken ∷ []))
      by true here f = f ∙ counts_it here
      by false not_here f = f ∙ counts_still not_here

-- one more step is counted in the number of its kind
counts_step : (above : List ℕ) (steps : List Step) (taken : Step) (old new : Report)
    → StepCounts above steps old
    → new ≡ record {
      rewritten = cond (is_rewritten taken) (next_number old.rewritten) old.rewritten;
      fresh = cond (is_fresh taken) (next_number old.fresh) old.fresh;
      changed = cond (is_changed taken) (next_number old.changed) old.changed;
      left = cond (is_left taken) (next_number old.left) old.left;
      last = path_of old.last taken;
    }
    → StepCounts above (steps ++ taken ∷ []) new
counts_step above steps taken old new c e = record {
  rewritten = counts_one is_rewritten steps taken old.rewritten c.rewritten new.rewritten
      (ap (λ (r : Report). r.rewritten) e);
  fresh = counts_one is_fresh steps taken old.fresh c.fresh new.fresh
      (ap (λ (r : Report). r.fresh) e);
  changed = counts_one is_changed steps taken old.changed c.changed new.changed
      (ap (λ (r : Report). r.changed) e);
  left = counts_one is_left steps taken old.left c.left new.left
      (ap (λ (r : Report). r.left) e);
  last = ap (λ (r : Report). r.last) e ∙ ap (λ l. path_of l taken) c.last
      ∙ sym (last_more above steps taken);
}

pub counts_more : (above : List ℕ) (steps : List Step) (taken : Step) (found : Bool)
    (old new : Report) → CountsStep old taken found new → found ≡ true → StepCounts above steps old
    → StepCounts above (steps ++ taken ∷ []) new
counts_more above steps step.End found old new s is c = cc (s.0, is)
counts_more above steps taken found old new s is c = counts_step above steps taken old new c s.1

-- the step that isn't counted is the end
pub record IsEnd (taken : Step) (old new : Report) : Type 0 where
  pub end : taken ≡ step.End
  pub same : new ≡ old

pub ends_there : (taken : Step) (found : Bool) (old new : Report) → CountsStep old taken found new
    → found ≡ false → IsEnd taken old new
ends_there step.End found old new s is = record { end = refl; same = s.1 }
ends_there other found old new s is = cc (s.0, is)

pub finds_row : (taken : Step) (found : Bool) (old new : Report) → CountsStep old taken found new
    → found ≡ true → FindsRow taken
finds_row step.End found old new s is = cc (s.0, is)
finds_row other found old new s is = tt

-- the report's last path is the step's
pub last_is : (taken : Step) (found : Bool) (old new : Report) → CountsStep old taken found new
    → found ≡ true → new.last ≡ path_of old.last taken
last_is step.End found old new s is = cc (s.0, is)
last_is other found old new s is = ap (λ (r : Report). r.last) s.1

-- ---- steps

module _ {S D : Type 0} (Reads : ReadsFoundRow S) (left : D → Option (List ℕ))
    (count : D → ℕ) (replica : ℕ) where
  pub walks_more : (above : List ℕ) (steps : List Step) (taken : Step) (old middle new : Caller)
      (from mids to : S) (dice between after : D)
      → WalksOver Reads left count replica above steps old from dice middle mids between
      → FindsRow taken
      → IsStepOver Reads left count replica (last_of above steps) middle mids between (Ok taken)
      new to after
      → WalksOver Reads left count replica above (steps ++ taken ∷ []) old from dice new to
      after
  walks_more above [] taken old middle new from mids to dice between after w f s = record {
    middle = new;
    mids = to;
    between = after;
    finds = f;
    goes = subst (λ (c : Caller). IsStepOver Reads left count replica above c from dice (Ok taken)
        new to after) w.0
        (subst (λ l. IsStepOver Reads left count replica above middle l dice (Ok taken) new to
        after) w.1
        (subst (λ d. IsStepOver Reads left count replica above middle mids d (Ok taken) new to
        after) w.2 s));
    behind = (refl, refl, refl);
  }
  walks_more above (first ∷ steps) taken old middle new from mids to dice between after w f s =
      record {
        middle = w.middle;
        mids = w.mids;
        between = w.between;
        finds = w.finds;
        goes = w.goes;
        behind = walks_more (path_of above first) steps taken w.middle middle new w.mids mids to
            w.between between after w.behind f s;
      }

  settled_one : (taken : Step) → FindsRow taken → is_left taken ≡ false → is_changed taken ≡ false
      → IsSettled taken
  settled_one step.End f l c = absurd f
  settled_one (step.Rewritten path) f l c = tt
  settled_one (step.Fresh path) f l c = tt
  settled_one (step.Changed path) f l c = cc
  settled_one (step.Left path) f l c = cc

  none_counted : (b : Bool) (n : ℕ) → cond b 1 0 + n ≡ 0 → b ≡ false
  none_counted true n e = absurd (omega (arith, e))
  none_counted false n e = refl

  settles_all : (above : List ℕ) (steps : List Step) (old new : Caller) (from to : S)
      (dice after : D)
      → WalksOver Reads left count replica above steps old from dice new to after
      → count_by is_left steps ≡ 0 → count_by is_changed steps ≡ 0 → All IsSettled steps
  settles_all above [] old new from to dice after w l c = All-nil IsSettled
  settles_all above (taken ∷ steps) old new from to dice after w l c =
      let one_left : cond (is_left taken) 1 0 + count_by is_left steps ≡ 0 =
      omega (arith, l, sum_by-cons (λ x. cond (is_left x) 1 0) taken steps) in
      let one_changed : cond (is_changed taken) 1 0 + count_by is_changed steps ≡ 0 =
      omega (arith, c, sum_by-cons (λ x. cond (is_changed x) 1 0) taken steps) in
      All-cons IsSettled taken steps
      (settled_one taken w.finds (none_counted (is_left taken) (count_by is_left steps) one_left)
      (none_counted (is_changed taken) (count_by is_changed steps) one_changed))
      (settles_all (path_of above taken) steps w.middle new w.mids to w.between after w.behind
      (omega (arith, one_left)) (omega (arith, one_changed)))

  none_by : (m n : ℕ) → m ≡ capped_count n → m ≡ 0 → n ≡ 0
  none_by m n e z = grind arith

  pub settles : (above : List ℕ) (steps : List Step) (report : Report) (old new : Caller)
      (from to : S) (dice after : D) → StepCounts above steps report
      → WalksOver Reads left count replica above steps old from dice new to after
      → LeavesNoneStale steps report
  settles above steps report old new from to dice after c w l h =
      settles_all above steps old new from to dice after w
      (none_by report.left (count_by is_left steps) c.left l)
      (none_by report.changed (count_by is_changed steps) c.changed h)
