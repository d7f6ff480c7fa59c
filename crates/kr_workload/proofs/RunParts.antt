-- Lines that were done, one behind another: their parts and their replies.
use Rattle.std.specs.Prelude.{All, Contains}
use Rattle.std.proofs.Common.{◌≡◌, ℕ, zero, suc, ◌+◌, ◌*◌, ◌<◌, ◌≤◌, ◌==◌, Bool, true, false, cond, List, [], ◌∷◌, ◌++◌, length, map, count_by, Option, refl, ap, sym, subst, ◌∙◌, length-append, arith}
use Rattle.std.specs.List.{filter, range_with_len}
use Rattle.std.proofs.lemmas.Bool.{eq-eqb}
use Rattle.std.proofs.lemmas.List.{append_assoc}
use Rattle.std.proofs.lemmas.List.Elements.{All-append, All-cons, All-head, All-nil, All-tail, Contains-append_left, Contains-append_right, filter-append}
use Rattle.std.proofs.lemmas.List.Recursion.{is_count_by}
use Rattle.kr_base.specs.Lines.{of_seat}
use Rattle.kr_kms.specs.Calls.{Link}
use Rattle.kr_kms.specs.Exchanges.{Exchange}
use Rattle.kr_rollout.specs.Entries.{seat_of}
use Rattle.kr_rollout.specs.declared.opening.Entry.{Entry}
use Rattle.kr_script.specs.declared.script.ScriptLine.{ScriptLine}
use Rattle.kr_script.specs.declared.told.Told.{Told}
use Rattle.kr_workers.specs.declared.files.SettingsFile.{SettingsFile}
use Rattle.kr_workers.specs.Runs.{DoesAll, IsDone, LineDone, entries_in, lines_in, replies_in}
use Rattle.kr_workers.specs.ScriptLines.{Workplace}
use Rattle.kr_workers.proofs.HonestPlugins.{at_middle}

-- ---- lists

-- what passes a test stands in the list
pub passed_there : {X : Type 0} (test : X → Bool) (xs : List X) (x : X)
    → Contains (filter test xs) x → Contains xs x
passed_there test [] x (k, below, is) = absurd (omega (arith, below))
passed_there {X} test (first ∷ xs) x c = by (test first) c (λ d. passed_there test xs x d)
  where
    behind : Contains xs x → Contains (first ∷ xs) x
    behind rest = (suc rest.0, (let l = rest.1 in omega (arith, l)), rest.2)

    by : (b : Bool) → Contains (cond b (first ∷ filter test xs) (filter test xs)) x
        → (Contains (filter test xs) x → Contains xs x) → Contains (first ∷ xs) x
    by true (zero, below, is) again = (0, omega arith, is)
    by true (suc k, below, is) again = behind (again (k, omega (arith, below), is))
    by false c again = behind (again c)

-- an element parts the list
pub record Parts {X : Type 0} (xs : List X) (x : X) : Type 0 where
  pub front : List X
  pub rest : List X
  pub is : xs ≡ front ++ x ∷ rest

pub parted : {X : Type 0} (xs : List X) (x : X) → Contains xs x → Parts xs x
parted [] x (k, below, is) = absurd (omega (arith, below))
parted (first ∷ xs) x (zero, below, is) =
    record { front = []; rest = xs; is = ap (λ y. y ∷ xs) is }
parted (first ∷ xs) x (suc k, below, is) =
    let p = parted xs x (k, omega (arith, below), is) in
    record { front = first ∷ p.front; rest = p.rest; is = ap (λ l. first ∷ l) p.is }

-- what holds wherever the list is parted holds of all
pub all_by_parts : {X : Type 0} (P : X → Type 0) (xs : List X)
    → ((front : List X) (x : X) (rest : List X) → xs ≡ front ++ x ∷ rest → P x) → All P xs
all_by_parts P [] each = All-nil P
all_by_parts P (x ∷ xs) each = All-cons P x xs (each [] x xs refl)
    (all_by_parts P xs (λ front y rest is. each (x ∷ front) y rest (ap (λ l. x ∷ l) is)))

-- ---- lines one behind another

module _ {L D : Type 0} (link : L → Link) (step : L → Exchange → L → Type 0)
    (left : D → Option (List ℕ))
    (count : D → ℕ) (files : List SettingsFile) (replica : ℕ) where
  -- a line was done somewhere
  pub record WasDone (done : LineDone) : Type 0 where
    pub old : Workplace L D
    pub new : Workplace L D
    pub is : IsDone link step left count files replica old done new

  pub all_done : (first : Workplace L D) (run : List LineDone) (last : Workplace L D)
      → DoesAll link step left count files replica first run last → All WasDone run
  all_done first [] last same = All-nil WasDone
  all_done first (done ∷ run) last all =
      All-cons WasDone done run (record { old = first; new = all.0; is = all.1 })
      (all_done all.0 run last all.2)

-- an entry of a line is one of the run
pub entry_there : (run : List LineDone) (done : LineDone) (e : Entry) → Contains run done
    → Contains done.part e → Contains (entries_in run) e
entry_there [] done e (k, below, is) c = absurd (omega (arith, below))
entry_there (first ∷ run) done e (zero, below, is) c =
    Contains-append_left first.part (entries_in run) e
    (subst (λ (d : LineDone). Contains d.part e) (sym is) c)
entry_there (first ∷ run) done e (suc k, below, is) c =
    Contains-append_right first.part (entries_in run) e
    (entry_there run done e (k, omega (arith, below), is) c)

pub entries_behind : (run more : List LineDone)
    → entries_in (run ++ more) ≡ entries_in run ++ entries_in more
entries_behind [] more = refl
entries_behind (done ∷ run) more = ap (λ l. done.part ++ l) (entries_behind run more)
    ∙ sym (append_assoc done.part (entries_in run) (entries_in more))

-- what holds of each line's entries holds of all
pub all_entries : (P : Entry → Type 0) (run : List LineDone)
    → All (λ (done : LineDone). All P done.part) run → All P (entries_in run)
all_entries P [] all = All-nil P
all_entries P (done ∷ run) all =
    let Is : LineDone → Type 0 = λ d. All P d.part in
    All-append P done.part (entries_in run) (All-head Is done run all)
    (all_entries P run (All-tail Is done run all))

-- lines of at most three entries
pub few_entries : (run : List LineDone)
    → All (λ (done : LineDone). length done.part ≤ 3) run
    → length (entries_in run) ≤ 3 * length run
few_entries [] all = omega arith
few_entries (done ∷ run) all =
    let Is : LineDone → Type 0 = λ d. length d.part ≤ 3 in
    let first = All-head Is done run all in
    let rest = few_entries run (All-tail Is done run all) in
    let both = length-append done.part (entries_in run) in omega (arith, first, rest, both)

-- ---- a run by its lines

pub record Splits (run : List LineDone) (one other : List ScriptLine) : Type 0 where
  pub front : List LineDone
  pub rest : List LineDone
  pub is : run ≡ front ++ rest
  pub front_is : lines_in front ≡ one
  pub rest_is : lines_in rest ≡ other

abbrev pub head_line : ScriptLine → List ScriptLine → ScriptLine
head_line other [] = other
head_line other (asked ∷ lines) = asked

abbrev pub tail_lines : List ScriptLine → List ScriptLine
tail_lines [] = []
tail_lines (asked ∷ lines) = lines

pub split_lines : (run : List LineDone) (one other : List ScriptLine)
    → lines_in run ≡ one ++ other → Splits run one other
split_lines run [] other is =
    record { front = []; rest = run; is = refl; front_is = refl; rest_is = is }
split_lines [] (asked ∷ one) other is =
    absurd (let e = ap length is in omega (arith, e))
split_lines (done ∷ run) (asked ∷ one) other is =
    let s = split_lines run one other (ap tail_lines is) in record {
      front = done ∷ s.front;
      rest = s.rest;
      is = ap (λ l. done ∷ l) s.is;
      front_is = (λ i. ap (head_line asked) is i ∷ s.front_is i);
      rest_is = s.rest_is;
    }

-- lines that are those of some numbers, in order
pub record IsNumbered (f : ℕ → ScriptLine) (size : ℕ) (done : LineDone) : Type 0 where
  pub number : ℕ
  pub below : number < size
  pub line_is : done.line ≡ f number

all_numbered : (f : ℕ → ScriptLine) (first size : ℕ) (run : List LineDone)
    → lines_in run ≡ map f (range_with_len first size)
    → All (IsNumbered f (first + size)) run
all_numbered f first zero [] is = All-nil (IsNumbered f (first + 0))
all_numbered f first (suc size) (done ∷ run) is =
    let same : first + 1 + size ≡ first + suc size = omega arith in
    All-cons (IsNumbered f (first + suc size)) done run (record {
      number = first;
      below = omega arith;
      line_is = ap (head_line done.line) is;
    }) (subst (λ n. All (IsNumbered f n) run) same
    (all_numbered f (first + 1) size run (ap tail_lines is)))
all_numbered f first other another is = absurd (let e = ap length is in omega (arith, e))

-- and each number has its line
numbered_there : (f : ℕ → ScriptLine) (first size : ℕ) (run : List LineDone)
    → lines_in run ≡ map f (range_with_len first size) → (number : ℕ) → number < size
    → (done : LineDone) × Contains run done × (done.line ≡ f (first + number))
numbered_there f first zero run is number below = absurd (omega (arith, below))
numbered_there f first (suc size) [] is number below =
    absurd (let e = ap length is in omega (arith, e))
numbered_there f first (suc size) (done ∷ run) is zero below = (
  done,
  (0, omega arith, refl),
  ap (head_line done.line) is ∙ ap f (let e : first ≡ first + 0 = omega arith in e),
)
numbered_there f first (suc size) (done ∷ run) is (suc number) below =
    let n = numbered_there f (first + 1) size run (ap tail_lines is) number
    (omega (arith, below)) in (
      n.0,
      (suc n.1.0, (let l = n.1.1 in omega (arith, l)), n.1.2),
      n.2 ∙ ap f (let e : first + 1 + number ≡ first + suc number = omega arith in e),
    )

-- from 0 on
pub numbered_all : (f : ℕ → ScriptLine) (size : ℕ) (run : List LineDone)
    → lines_in run ≡ map f (range_with_len 0 size) → All (IsNumbered f size) run
numbered_all f size run is = subst (λ n. All (IsNumbered f n) run)
    (let e : 0 + size ≡ size = omega arith in e) (all_numbered f 0 size run is)

pub numbered_at : (f : ℕ → ScriptLine) (size : ℕ) (run : List LineDone)
    → lines_in run ≡ map f (range_with_len 0 size) → (number : ℕ) → number < size
    → (done : LineDone) × Contains run done × (done.line ≡ f number)
numbered_at f size run is number below =
    let n = numbered_there f 0 size run is number below in
    (n.0, n.1, n.2 ∙ ap f (let e : 0 + number ≡ number = omega arith in e))

-- ---- counting

abbrev counted_by : {X : Type 0} (test : X → Bool) → List X → ℕ
counted_by test [] = 0
counted_by test (x ∷ xs) = cond (test x) (1 + counted_by test xs) (counted_by test xs)

is_counted : {X : Type 0} (test : X → Bool) (xs : List X)
    → counted_by test xs ≡ count_by test xs
is_counted test xs = is_count_by (counted_by test) test refl (λ x xs. refl) xs

counted_all : (test : Told → Bool) (run : List LineDone)
    → All (λ (done : LineDone). test done.reply ≡ true) run
    → counted_by test (replies_in run) ≡ length run
counted_all test [] all = refl
counted_all test (done ∷ run) all =
    let Is : LineDone → Type 0 = λ d. test d.reply ≡ true in
    let rest = counted_all test run (All-tail Is done run all) in
    ap (λ b. cond b (1 + counted_by test (replies_in run)) (counted_by test (replies_in run)))
    (All-head Is done run all) ∙ (let e : 1 + counted_by test (replies_in run)
    ≡ suc (length run) = omega (arith, rest) in e)

counted_none : (test : Told → Bool) (run : List LineDone)
    → All (λ (done : LineDone). test done.reply ≡ false) run
    → counted_by test (replies_in run) ≡ 0
counted_none test [] all = refl
counted_none test (done ∷ run) all =
    let Is : LineDone → Type 0 = λ d. test d.reply ≡ false in
    ap (λ b. cond b (1 + counted_by test (replies_in run)) (counted_by test (replies_in run)))
    (All-head Is done run all) ∙ counted_none test run (All-tail Is done run all)

pub count_all : (test : Told → Bool) (run : List LineDone)
    → All (λ (done : LineDone). test done.reply ≡ true) run
    → count_by test (replies_in run) ≡ length run
count_all test run all = sym (is_counted test (replies_in run)) ∙ counted_all test run all

pub count_none : (test : Told → Bool) (run : List LineDone)
    → All (λ (done : LineDone). test done.reply ≡ false) run
    → count_by test (replies_in run) ≡ 0
count_none test run all = sym (is_counted test (replies_in run)) ∙ counted_none test run all

counted_behind : {X : Type 0} (test : X → Bool) (xs ys : List X)
    → counted_by test (xs ++ ys) ≡ counted_by test xs + counted_by test ys
counted_behind test [] ys = omega arith
counted_behind test (x ∷ xs) ys = by (test x) (counted_behind test xs ys)
  where
    by : (b : Bool)
        → counted_by test (xs ++ ys) ≡ counted_by test xs + counted_by test ys
        → cond b (1 + counted_by test (xs ++ ys)) (counted_by test (xs ++ ys))
        ≡ cond b (1 + counted_by test xs) (counted_by test xs) + counted_by test ys
    by true e = omega (arith, e)
    by false e = e

pub count_behind : {X : Type 0} (test : X → Bool) (xs ys : List X)
    → count_by test (xs ++ ys) ≡ count_by test xs + count_by test ys
count_behind test xs ys = sym (is_counted test (xs ++ ys)) ∙ counted_behind test xs ys
    ∙ (λ i. is_counted test xs i + is_counted test ys i)

-- ---- the entries of four seats

seat_length : ℕ → List Entry → ℕ
seat_length seat history = length (of_seat seat_of seat history)

at_seat : (seat : ℕ) (e : Entry) (history : List Entry) (b : Bool)
    → (seat_of e == seat) ≡ b
    → length (of_seat seat_of seat (e ∷ history))
    ≡ cond b 1 0 + length (of_seat seat_of seat history)
at_seat seat e history b is = ap (λ c. length (cond c (e ∷ of_seat seat_of seat history)
    (of_seat seat_of seat history))) is ∙ by b
  where
    by : (b : Bool) → length (cond b (e ∷ of_seat seat_of seat history)
        (of_seat seat_of seat history)) ≡ cond b 1 0 + length (of_seat seat_of seat history)
    by true = omega arith
    by false = omega arith

pub four_seats : (history : List Entry) → All (λ e. seat_of e < 4) history
    → length history ≤ length (of_seat seat_of 0 history) + length (of_seat seat_of 1 history)
    + length (of_seat seat_of 2 history) + length (of_seat seat_of 3 history)
four_seats [] all = omega arith
four_seats (e ∷ history) all =
    let Is : Entry → Type 0 = λ x. seat_of x < 4 in
    by (seat_of e) refl (All-head Is e history all)
    (four_seats history (All-tail Is e history all))
  where
    own : (seat n : ℕ) → seat_of e ≡ n → length (of_seat seat_of seat (e ∷ history))
        ≡ cond (n == seat) 1 0 + length (of_seat seat_of seat history)
    own seat n is = at_seat seat e history (n == seat) (ap (λ m. m == seat) is)

    by : (n : ℕ) → seat_of e ≡ n → seat_of e < 4
        → length history ≤ length (of_seat seat_of 0 history)
        + length (of_seat seat_of 1 history) + length (of_seat seat_of 2 history)
        + length (of_seat seat_of 3 history)
        → suc (length history) ≤ length (of_seat seat_of 0 (e ∷ history))
        + length (of_seat seat_of 1 (e ∷ history)) + length (of_seat seat_of 2 (e ∷ history))
        + length (of_seat seat_of 3 (e ∷ history))
    by zero is few rest =
        omega (arith, rest, own 0 0 is, own 1 0 is, own 2 0 is, own 3 0 is)
    by (suc zero) is few rest =
        omega (arith, rest, own 0 1 is, own 1 1 is, own 2 1 is, own 3 1 is)
    by (suc (suc zero)) is few rest =
        omega (arith, rest, own 0 2 is, own 1 2 is, own 2 2 is, own 3 2 is)
    by (suc (suc (suc zero))) is few rest =
        omega (arith, rest, own 0 3 is, own 1 3 is, own 2 3 is, own 3 3 is)
    by (suc (suc (suc (suc n)))) is few rest = absurd (omega (arith, is, few))

-- what holds of each seat's own entries holds of all
pub own_there : (P : ℕ → Entry → Type 0) (history : List Entry)
    → All (λ e. seat_of e < 4) history
    → ((seat : ℕ) → seat < 4 → All (P seat) (of_seat seat_of seat history))
    → All (λ e. P (seat_of e) e) history
own_there P history few each = all_by_parts (λ e. P (seat_of e) e) history by
  where
    by : (front : List Entry) (e : Entry) (rest : List Entry) → history ≡ front ++ e ∷ rest
        → P (seat_of e) e
    by front e rest is =
        let below : seat_of e < 4 = at_middle (λ (x : Entry). seat_of x < 4) front e rest
        (subst (λ (l : List Entry). All (λ (x : Entry). seat_of x < 4) l) is few) in
        at_middle (P (seat_of e)) (of_seat seat_of (seat_of e) front) e
        (of_seat seat_of (seat_of e) rest)
        (subst (λ (l : List Entry). All (P (seat_of e)) l)
        (ap (of_seat seat_of (seat_of e)) is
        ∙ filter-append (λ (x : Entry). seat_of x == seat_of e) front (e ∷ rest)
        ∙ ap (λ b. of_seat seat_of (seat_of e) front
        ++ cond b (e ∷ of_seat seat_of (seat_of e) rest) (of_seat seat_of (seat_of e) rest))
        (eq-eqb (seat_of e) (seat_of e) refl)) (each (seat_of e) below))
