-- What a verdict that passes says: the new settings read all that is stored and written, and are
-- read.
use Rattle.std.proofs.Common.{◌≡◌, ℕ, zero, suc, ◌≤◌, ◌+◌, Bool, true, false, cond, List, [], ◌∷◌, length, map, Contains, IsTrue, refl, sym, ap, subst, arith}
use Rattle.std.specs.Prelude.{◌&&◌, if◌then◌else◌, nat_le}
use Rattle.std.specs.List.{filter, list_all, list_any}
use Rattle.std.proofs.lemmas.Bool.{and_parts}
use Rattle.std.proofs.lemmas.Bool.Decides.{nat_tests}
use Rattle.std.proofs.lemmas.List.Elements.{Contains-append_right}
use Rattle.kr_config.specs.declared.class.Class.{Class}
use Rattle.kr_config.specs.declared.class.Class.TheVariants.{Exact, Group, Rest}
use Rattle.kr_config.specs.declared.pattern.Pattern.{Pattern}
use Rattle.kr_config.specs.Kept.{ConfigEntry, apart, keeps, keeps_row, keeps_patterns, keeps_providers, patterns_in, count_entry_keys, kms_in}
use Rattle.kr_config.specs.Lists.{first_list, list_of, class_list}
use Rattle.kr_config.specs.Patterns.{matches, covers_group, covers_rest}
use Rattle.kr_config.specs.Providers.{is_provider, rivals}
use Rattle.kr_judge.specs.declared.need.Need.{Need}
use Rattle.kr_judge.specs.declared.verdict.Verdict.TheVariants.{Pass}
use Rattle.kr_judge.specs.Boards.{GenerationState, is_live}
use Rattle.kr_judge.specs.Verdicts.{with_numbers, is_other, others, judged_classes, verdict_of}
use Rattle.kr_judge.specs.Fits.{ReadsWriter, FitsBoard}
use Rattle.kr_judge.proofs.Lacking.{everywhere, live_rows, other_is_live}
use Rattle.kr_judge.proofs.Passing.{passes_exactly}

-- ---- the others

-- what is there and passes a test is left by it
there_filtered : {X : Type 0} (test : X → Bool) (xs : List X) (x : X) → Contains xs x
    → test x ≡ true → Contains (filter test xs) x
there_filtered test [] x (k, l, is) h = absurd (omega (arith, l))
there_filtered test (y ∷ ys) x (zero, l, is) h =
    subst (λ v. Contains (cond v (y ∷ filter test ys) (filter test ys)) x)
    (sym (subst (λ z. test z ≡ true) (sym is) h)) (0, omega arith, is)
there_filtered test (y ∷ ys) x (suc k, l, is) h =
    by (test y) (there_filtered test ys x (k, omega arith, is) h)
  where
    by : (v : Bool) → Contains (filter test ys) x
        → Contains (cond v (y ∷ filter test ys) (filter test ys)) x
    by true c = (suc c.0, omega (arith, c.1), c.2)
    by false c = c

-- a generation has a number
record HasNumber (k : ℕ) (generations : List GenerationState) (t : GenerationState)
    : Type 0 where
  number : ℕ
  there : Contains (with_numbers k generations) (number, t)

has_number : (k : ℕ) (generations : List GenerationState) (t : GenerationState)
    → Contains generations t → HasNumber k generations t
has_number k [] t (i, l, is) = absurd (omega (arith, l))
has_number k (g ∷ gs) t (zero, l, is) =
    record { number = k; there = (0, omega arith, ap (λ (x : GenerationState). (k, x)) is) }
has_number k (g ∷ gs) t (suc i, l, is) =
    let r = has_number (k + 1) gs t (i, omega arith, is) in
    record { number = r.number; there = (suc r.there.0, omega (arith, r.there.1), r.there.2) }

other_there : (replica : ℕ) (generations : List GenerationState) (n : ℕ) (t : GenerationState)
    → Contains (with_numbers 0 generations) (n, t) → is_other replica t ≡ true
    → Contains (others replica generations) (n, t)
unfolding others
other_there replica generations n t there o =
    there_filtered (λ m. is_other replica m.1) (with_numbers 0 generations) (n, t) there o

-- ---- lists aren't empty

and_left : (a b : Bool) → (a && b) ≡ true → a ≡ true
and_left a b e = (and_parts a b e).0

and_right : (a b : Bool) → (a && b) ≡ true → b ≡ true
and_right a b e = (and_parts a b e).1

some_of : (n : ℕ) → nat_le 1 n ≡ true → 1 ≤ n
some_of n e = grind (arith, nat_tests)

row_some : (row : ConfigEntry) → keeps_row row ≡ true → 1 ≤ length row.providers
row_some row e =
    let providers = and_right (keeps_patterns row.patterns) (keeps_providers row.providers) e in
    let front = and_left (nat_le 1 (length row.providers) && list_all is_provider row.providers)
    (apart rivals row.providers) providers in
    some_of (length row.providers) (and_left (nat_le 1 (length row.providers))
    (list_all is_provider row.providers) front)

pub rows_keep : (rows : List ConfigEntry) → IsTrue (keeps rows) → list_all keeps_row rows ≡ true
unfolding keeps
rows_keep rows e =
    let a = and_left (nat_le 1 (length rows) && nat_le
    (length rows) 64 && list_all keeps_row rows && nat_le (patterns_in rows) 256 && nat_le
    (count_entry_keys rows) 64) (nat_le (kms_in rows) 16) e in
    let b = and_left (nat_le 1 (length rows) && nat_le
    (length rows) 64 && list_all keeps_row rows && nat_le (patterns_in rows) 256)
    (nat_le (count_entry_keys rows) 64) a in
    let c = and_left (nat_le 1 (length rows) && nat_le (length rows) 64 && list_all keeps_row rows)
    (nat_le (patterns_in rows) 256) b in
    and_right (nat_le 1 (length rows) && nat_le (length rows) 64) (list_all keeps_row rows) c

pub first_some : (test : Pattern → Bool) (rows : List ConfigEntry) → list_all keeps_row rows ≡ true
    → 1 ≤ length (first_list test rows)
first_some test [] e = omega arith
first_some test (row ∷ rows) e =
    by (list_any test row.patterns) (row_some row
    (and_left (keeps_row row) (list_all keeps_row rows) e))
    (first_some test rows (and_right (keeps_row row) (list_all keeps_row rows) e))
  where
    by : (v : Bool) → 1 ≤ length row.providers → 1 ≤ length (first_list test rows)
        → 1 ≤ length (if v then row.providers else first_list test rows)
    by true a b = a
    by false a b = b

pub class_some : (rows : List ConfigEntry) → IsTrue (keeps rows) → (class : Class)
    → 1 ≤ length (class_list rows class)
class_some rows k (Exact text) = first_some (λ pattern. matches pattern text) rows
    (rows_keep rows k)
class_some rows k (Group group) = first_some (λ pattern. covers_group pattern group) rows
    (rows_keep rows k)
class_some rows k Rest = first_some covers_rest rows (rows_keep rows k)

-- ---- a verdict that passes

-- what the new settings have in common with each other live generation
pub record AreReadable (needs : List Need) (generations : List GenerationState) (replica : ℕ)
    (rows : List ConfigEntry) : Type 0 where
  pub stored : (need : Need) → Contains needs need → Contains (list_of rows need.resource) need.who
  pub reads : (t : GenerationState) → Contains generations t → is_other replica t ≡ true
      → (class : Class) → ReadsWriter (class_list t.rows class) (class_list rows class)
  pub is_read : (t : GenerationState) → Contains generations t → is_other replica t ≡ true
      → (class : Class) → ReadsWriter (class_list rows class) (class_list t.rows class)

module _ (needs : List Need) (generations : List GenerationState) (replica : ℕ)
    (rows : List ConfigEntry) (f : FitsBoard needs generations replica rows) where
  reads_other : (t : GenerationState) → Contains generations t → is_other replica t ≡ true
      → (class : Class) → Contains (judged_classes rows generations) class
      → ReadsWriter (class_list t.rows class) (class_list rows class)
  reads_other t there o class judged =
      let n = has_number 0 generations t there in
      f.writers (n.number, t) class (other_there replica generations n.number t n.there o) judged

  other_reads : (t : GenerationState) → Contains generations t → is_other replica t ≡ true
      → (class : Class) → Contains (judged_classes rows generations) class
      → ReadsWriter (class_list rows class) (class_list t.rows class)
  other_reads t there o class judged =
      let n = has_number 0 generations t there in
      f.readers (n.number, t) class (other_there replica generations n.number t n.there o) judged

pub passed : (needs : List Need) (generations : List GenerationState) (replica : ℕ)
    (rows : List ConfigEntry) → verdict_of needs generations replica rows ≡ Pass
    → AreReadable needs generations replica rows
passed needs generations replica rows e =
    let f = (passes_exactly needs generations replica rows).0 e in
    let live = map (λ (g : GenerationState). g.rows) (filter is_live generations) in
    record {
      stored = f.stored;
      reads = λ t there o class. everywhere (rows ∷ live) t.rows rows class
          (reads_other needs generations replica rows f t there o)
          (Contains-append_right (rows ∷ []) live t.rows
          (live_rows generations t there (other_is_live replica t o)))
          (0, omega arith, refl);
      is_read = λ t there o class. everywhere (rows ∷ live) rows t.rows class
          (other_reads needs generations replica rows f t there o)
          (0, omega arith, refl)
          (Contains-append_right (rows ∷ []) live t.rows
          (live_rows generations t there (other_is_live replica t o)));
    }
