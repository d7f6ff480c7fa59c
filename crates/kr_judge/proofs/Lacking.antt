-- The verdict refuses exactly where one would lack a provider, and passes exactly where all fit.
use Rattle.std.proofs.Common.{◌≡◌, ◌≢◌, ℕ, ◌+◌, ◌⊎◌, Bool, true, false, cond, List, [], ◌∷◌, Option, None, Some, Contains, map, refl, sym, ap, subst, ◌∙◌, inl, inr, arith}
use Rattle.std.specs.Prelude.{◌&&◌, ◌||◌, ◌==◌, not, nat_lt, if◌then◌else◌}
use Rattle.std.specs.List.{filter, filter_map, flat_map, cons_option}
use Rattle.std.specs.Option.{option_map}
use Rattle.std.proofs.lemmas.Bool.{cases_eq, eq-eqb, ne_eqb}
use Rattle.std.proofs.lemmas.Bool.Decides.{nat_tests}
use Rattle.std.proofs.lemmas.List.Elements.{Contains-append_cases, Contains-append_left, Contains-append_right}
use Rattle.std.proofs.lemmas.Option.{none-some, same_Some}
use Rattle.kr_config.specs.declared.class.Class.{Class}
use Rattle.kr_config.specs.declared.who.Who.{Who}
use Rattle.kr_config.specs.Kept.{ConfigEntry}
use Rattle.kr_config.specs.Lists.{list_of, class_list}
use Rattle.kr_config.proofs.Narrowing.{each_class_narrows}
use Rattle.kr_judge.specs.declared.need.Need.{Need}
use Rattle.kr_judge.specs.declared.verdict.Verdict.TheVariants.{Pass}
use Rattle.kr_judge.specs.Boards.{GenerationState, is_live, left_by, without_current, added_generation, given_to}
use Rattle.kr_judge.specs.Fits.{ReadsWriter, FitsBoard}
use Rattle.kr_judge.specs.Lacks.{LacksStored, LacksWriter, LacksProvider, IsNeeded, IsLiveIn, IsLiveBeside}
use Rattle.kr_judge.specs.LackLaws.{RefusesExactly, PassesWhereAllFit}
use Rattle.kr_judge.specs.LiveFits.{AreFit}
use Rattle.kr_judge.specs.Providers.{has, unread_writer}
use Rattle.kr_judge.specs.Tables.{table_of}
use Rattle.kr_judge.specs.Verdicts.{with_numbers, is_other, others, judged_classes, unread_classes, dropped_needs, lost_writers, unread_writers, first, verdict_of}
use Rattle.kr_config.proofs.ListParts.{here, there, cases}
use Rattle.kr_judge.proofs.Lists.{head_is}
use Rattle.kr_judge.proofs.Members.{has_members}
use Rattle.kr_judge.proofs.Passing.{passes_exactly}
use Rattle.kr_judge.proofs.Tables.{is_table}
use Rattle.kr_judge.proofs.Verdicts.{passes}

-- ---- members of lists

pub filtered : {X : Type 0} (test : X → Bool) (xs : List X) (x : X) → Contains (filter test xs) x
    → Contains xs x × (test x ≡ true)
filtered test [] x m = absurd (omega (arith, m.1))
filtered {X} test (y ∷ ys) x m = by (test y) refl m (filtered test ys x)
  where
    by : (v : Bool) → test y ≡ v → Contains (cond v (y ∷ filter test ys) (filter test ys)) x
        → (Contains (filter test ys) x → Contains ys x × (test x ≡ true))
        → Contains (y ∷ ys) x × (test x ≡ true)
    by true e m rest = elim (cases y x (filter test ys) m) [
      | inl q ↦ (head_is y x ys q, subst (λ z. test z ≡ true) q e)
      | inr n ↦ (let r = rest n in (there y x ys r.0, r.1))
    ]
    by false e m rest = let r = rest m in (there y x ys r.0, r.1)

pub passing : {X : Type 0} (test : X → Bool) (xs : List X) (x : X) → Contains xs x → test x ≡ true
    → Contains (filter test xs) x
passing test [] x m e = absurd (omega (arith, m.1))
passing {X} test (y ∷ ys) x m e = by (test y) refl (cases y x ys m)
    (λ n. passing test ys x n e)
  where
    by : (v : Bool) → test y ≡ v → (y ≡ x) ⊎ Contains ys x
        → (Contains ys x → Contains (filter test ys) x)
        → Contains (cond v (y ∷ filter test ys) (filter test ys)) x
    by true t (inl q) rest = head_is y x (filter test ys) q
    by true t (inr n) rest = there y x (filter test ys) (rest n)
    by false t (inl q) rest = let clash : true ≡ false = sym e ∙ ap test (sym q) ∙ t in cc
    by false t (inr n) rest = rest n

-- a member of what is made of members is made of one
pub record IsMade {X : Type 0} (xs : List X) (Of : X → Type 0) : Type 0 where
  pub from : X
  pub member : Contains xs from
  pub of : Of from

pub mapped : {X Y : Type 0} (f : X → Y) (xs : List X) (y : Y) → Contains (map f xs) y
    → IsMade xs (λ x. f x ≡ y)
mapped f [] y m = absurd (omega (arith, m.1))
mapped f (x ∷ xs) y m = elim (cases (f x) y (map f xs) m) [
  | inl e ↦ record { from = x; member = here x xs; of = e }
  | inr n ↦ (let r = mapped f xs y n in
      record { from = r.from; member = there x r.from xs r.member; of = r.of })
]

pub image : {X Y : Type 0} (f : X → Y) (xs : List X) (x : X) → Contains xs x → Contains (map f xs) (f x)
image f [] x m = absurd (omega (arith, m.1))
image f (y ∷ ys) x m = elim (cases y x ys m) [
  | inl e ↦ head_is (f y) (f x) (map f ys) (ap f e)
  | inr n ↦ there (f y) (f x) (map f ys) (image f ys x n)
]

flattened : {X Y : Type 0} (f : X → List Y) (xs : List X) (y : Y) → Contains (flat_map f xs) y
    → IsMade xs (λ x. Contains (f x) y)
flattened f [] y m = absurd (omega (arith, m.1))
flattened f (x ∷ xs) y m = elim (Contains-append_cases (f x) (flat_map f xs) y m) [
  | inl own ↦ record { from = x; member = here x xs; of = own }
  | inr n ↦ (let r = flattened f xs y n in
      record { from = r.from; member = there x r.from xs r.member; of = r.of })
]

filter_mapped : {X Y : Type 0} (f : X → Option Y) (xs : List X) (y : Y)
    → Contains (filter_map f xs) y → IsMade xs (λ x. f x ≡ Some y)
filter_mapped f [] y m = absurd (omega (arith, m.1))
filter_mapped {X} {Y} f (x ∷ xs) y m = by (f x) refl m (λ n. filter_mapped f xs y n)
  where
    more : IsMade xs (λ z. f z ≡ Some y) → IsMade (x ∷ xs) (λ z. f z ≡ Some y)
    more r = record { from = r.from; member = there x r.from xs r.member; of = r.of }

    by : (v : Option Y) → f x ≡ v → Contains (cons_option v (filter_map f xs)) y
        → (Contains (filter_map f xs) y → IsMade xs (λ z. f z ≡ Some y))
        → IsMade (x ∷ xs) (λ z. f z ≡ Some y)
    by None e m rest = more (rest m)
    by (Some own) e m rest = elim (cases own y (filter_map f xs) m) [
      | inl q ↦ record { from = x; member = here x xs; of = e ∙ ap Some q }
      | inr n ↦ more (rest n)
    ]

option_some : {X Y : Type 0} (f : X → Y) (v : Option X) (y : Y) → option_map f v ≡ Some y
    → (x : X) × (v ≡ Some x) × (f x ≡ y)
option_some f None y e = absurd (none-some y e)
option_some f (Some x) y e = (x, refl, same_Some (f x) y e)

-- ---- the generations that are live beside new settings

more_is : (holders : ℕ) → nat_lt 0 holders ≡ not (holders == 0)
more_is holders = elim (cases_eq holders 0) [
  | inl e ↦ (let a : nat_lt 0 holders ≡ false = grind (arith, nat_tests) in
      a ∙ ap not (sym (eq-eqb holders 0 e)))
  | inr n ↦ (let a : nat_lt 0 holders ≡ true = grind (arith, nat_tests) in
      a ∙ ap not (sym (ne_eqb holders 0 n)))
]

by_flags : (cur same none : Bool)
    → ((cur && not same) || not none) ≡ ((cur || not none) && not (same && (cur && none)))
by_flags true true true = refl
by_flags false true true = refl
by_flags false false true = refl
by_flags other another third = refl

pub left_is : (replica : ℕ) (own : GenerationState) → is_live (left_by replica own) ≡ is_other replica own
left_is replica own =
    let same = own.replica == replica in
    let none = own.holders == 0 in
    ap (λ m. (own.current && not same) || m) (more_is own.holders)
    ∙ by_flags own.current same none
    ∙ ap (λ m. (own.current || m) && not (same && (own.current && none)))
    (sym (more_is own.holders))

pub numbered : (number : ℕ) (generations : List GenerationState) (other : ℕ × GenerationState)
    → Contains (with_numbers number generations) other → Contains generations other.1
numbered number [] other m = absurd (omega (arith, m.1))
numbered number (g ∷ gs) other m = elim (cases (number, g) other (with_numbers (number + 1) gs) m) [
  | inl e ↦ head_is g other.1 gs (ap (λ (p : ℕ × GenerationState). p.1) e)
  | inr n ↦ there g other.1 gs (numbered (number + 1) gs other n)
]

has_number : (k : ℕ) (generations : List GenerationState) (own : GenerationState)
    → Contains generations own → (n : ℕ) × Contains (with_numbers k generations) (n, own)
has_number k [] own m = absurd (omega (arith, m.1))
has_number k (g ∷ gs) own m = elim (cases g own gs m) [
  | inl e ↦ (
    k,
    head_is (k, g) (k, own) (with_numbers (k + 1) gs)
        (ap (λ (x : GenerationState). (k, x)) e),
  )
  | inr n ↦ (let r = has_number (k + 1) gs own n in
      (r.0, there (k, g) (r.0, own) (with_numbers (k + 1) gs) r.1))
]

module _ (replica : ℕ) (generations : List GenerationState) where
  -- each of the others is live beside them
  pub other_lives : (other : ℕ × GenerationState) → Contains (others replica generations) other
      → IsLiveBeside replica generations other.1.rows
  unfolding others
  other_lives other m =
      let f = filtered (λ (n : ℕ × GenerationState). is_other replica n.1)
      (with_numbers 0 generations) other m in (
        left_by replica other.1,
        image (left_by replica) generations other.1 (numbered 0 generations other f.0),
        left_is replica other.1 ∙ f.1,
        refl,
      )

  -- and what is live beside them is of the others
  pub lives_other : (rows : List ConfigEntry) → IsLiveBeside replica generations rows
      → (other : ℕ × GenerationState) × Contains (others replica generations) other
      × (other.1.rows ≡ rows)
  unfolding others
  lives_other rows (own, m, live, is) =
      let r = mapped (left_by replica) generations own m in
      let n = has_number 0 generations r.from r.member in (
        (n.0, r.from),
        passing (λ (x : ℕ × GenerationState). is_other replica x.1)
            (with_numbers 0 generations) (n.0, r.from) n.1
            (sym (left_is replica r.from)
            ∙ ap (λ (x : GenerationState). is_live x) r.of ∙ live),
        ap (λ (x : GenerationState). x.rows) r.of ∙ is,
      )

-- ---- what is lacked

clash : (v : Bool) → v ≡ false → v ≡ true → ⊥
clash v a b = let e : false ≡ true = sym a ∙ b in cc

not_true : (v : Bool) → not v ≡ true → v ≡ false
not_true true e = cc
not_true false e = refl

stored_lacks : (needs : List Need) (rows : List ConfigEntry) (need : Need)
    → Contains (dropped_needs rows needs) need → LacksStored (IsNeeded needs) rows
stored_lacks needs rows need m =
    let f = filtered (λ (own : Need). not (has (list_of rows own.resource) own.who)) needs need m in
    record {
      resource = need.resource;
      who = need.who;
      stored = (need, f.0, refl, refl);
      lacks = λ listed. clash (has (list_of rows need.resource) need.who)
          (not_true (has (list_of rows need.resource) need.who) f.1)
          ((has_members (list_of rows need.resource) need.who).1 listed);
    }

unread_is : (writers readers : List Who) (who : Who) → unread_writer writers readers ≡ Some who
    → (first writers ≡ Some who) × ¬ Contains readers who
unread_is [] readers who e = absurd (none-some who e)
unread_is (writer ∷ writers) readers who e = by (has readers writer) refl e
  where
    by : (v : Bool) → has readers writer ≡ v → (if v then None else Some writer) ≡ Some who
        → (first (writer ∷ writers) ≡ Some who) × ¬ Contains readers who
    by true h e = absurd (none-some who e)
    by false h e = (
      e,
      λ listed. clash (has readers writer) h
          ((has_members readers writer).1
          (subst (Contains readers) (sym (same_Some writer who e)) listed)),
    )

unread_lacks : (classes : List Class) (writing reading : List ConfigEntry) (lost : Class × Who)
    → Contains (unread_classes classes writing reading) lost → LacksWriter writing reading
unread_lacks classes writing reading lost m =
    let r = filter_mapped (λ class. option_map (λ who. (class, who))
    (unread_writer (class_list writing class) (class_list reading class))) classes lost m in
    let s = option_some (λ (who : Who). (r.from, who))
    (unread_writer (class_list writing r.from) (class_list reading r.from)) lost r.of in
    let u = unread_is (class_list writing r.from) (class_list reading r.from) s.0 s.1 in
    record { class = r.from; who = s.0; writes = u.0; lacks = u.1 }

module _ (needs : List Need) (generations : List GenerationState) (replica : ℕ)
    (rows : List ConfigEntry) where
  abbrev Lacks : Type 0
  Lacks = LacksProvider (IsNeeded needs) (IsLiveBeside replica generations) rows

  -- what is lost stands in the table of one of the others
  lost_at : (table : ℕ × GenerationState → List (Class × Who)) (lost : ℕ × Class × Who)
      → Contains (flat_map (λ other. map (λ (x : Class × Who). (other.0, x.0, x.1)) (table other))
      (others replica generations)) lost
      → (other : ℕ × GenerationState) × IsLiveBeside replica generations other.1.rows
      × (x : Class × Who) × Contains (table other) x
  lost_at table lost m =
      let r = flattened (λ (other : ℕ × GenerationState).
      map (λ (x : Class × Who). (other.0, x.0, x.1)) (table other)) (others replica generations) lost
      m in
      let l = mapped (λ (x : Class × Who). (r.from.0, x.0, x.1)) (table r.from) lost r.of in
      (r.from, other_lives replica generations r.from r.member, l.from, l.member)

  writer_lacks : (lost : ℕ × Class × Who) → Contains (lost_writers replica rows generations) lost
      → Lacks
  unfolding lost_writers
  writer_lacks lost m =
      let classes : List Class = judged_classes rows generations in
      let f = lost_at (λ other. unread_classes classes other.1.rows rows) lost m in
      inr (f.0.1.rows, f.1, inl (unread_lacks classes f.0.1.rows rows f.2 f.3))

  reader_lacks : (lost : ℕ × Class × Who) → Contains (unread_writers replica rows generations) lost
      → Lacks
  unfolding unread_writers
  reader_lacks lost m =
      let classes : List Class = judged_classes rows generations in
      let f = lost_at (λ other. unread_classes classes rows other.1.rows) lost m in
      inr (f.0.1.rows, f.1, inr (unread_lacks classes rows f.0.1.rows f.2 f.3))

  -- a verdict that doesn't pass has a reason
  refused_lacks : verdict_of needs generations replica rows ≢ Pass → Lacks
  refused_lacks n = by (dropped_needs rows needs) (lost_writers replica rows generations)
      (unread_writers replica rows generations) refl refl refl
    where
      by : (stored : List Need) (lost unread : List (ℕ × Class × Who))
          → dropped_needs rows needs ≡ stored → lost_writers replica rows generations ≡ lost
          → unread_writers replica rows generations ≡ unread → Lacks
      by (need ∷ more) lost unread e f g = inl (stored_lacks needs rows need
          (subst (λ l. Contains l need) (sym e) (here need more)))
      by [] (one ∷ more) unread e f g =
          writer_lacks one (subst (λ l. Contains l one) (sym f) (here one more))
      by [] [] (one ∷ more) e f g =
          reader_lacks one (subst (λ l. Contains l one) (sym g) (here one more))
      by [] [] [] e f g = absurd (n (sym (passes needs generations replica rows
          (sym (ap first e)) (sym (ap first f)) (sym (ap first g)))))

-- ---- what is read at each class that is judged is so at every class

pub everywhere : (added : List (List ConfigEntry)) (writing reading : List ConfigEntry) (class : Class)
    → ((class : Class) → Contains (table_of added) class
    → ReadsWriter (class_list writing class) (class_list reading class))
    → Contains added writing → Contains added reading
    → ReadsWriter (class_list writing class) (class_list reading class)
everywhere added writing reading class reads w r who is =
    let narrow = each_class_narrows added (table_of added) class (is_table added) in
    subst (λ (l : List Who). Contains l who) (sym (narrow.2 reading r))
    (reads narrow.0 narrow.1 who (ap (λ (l : List Who). first l) (sym (narrow.2 writing w)) ∙ is))

pub live_rows : (generations : List GenerationState) (own : GenerationState) → Contains generations own
    → is_live own ≡ true
    → Contains (map (λ (g : GenerationState). g.rows) (filter is_live generations)) own.rows
live_rows generations own m live = image (λ (g : GenerationState). g.rows)
    (filter is_live generations) own (passing is_live generations own m live)

-- an other generation is live
pub other_is_live : (replica : ℕ) (own : GenerationState) → is_other replica own ≡ true
    → is_live own ≡ true
other_is_live replica own e = by (is_live own) e
  where
    by : (v : Bool) → (v && not ((own.replica == replica)
        && (own.current && (own.holders == 0)))) ≡ true → v ≡ true
    by true e = refl
    by false e = e

module _ (needs : List Need) (generations : List GenerationState) (replica : ℕ)
    (rows : List ConfigEntry) (f : FitsBoard needs generations replica rows) where
  abbrev added : List (List ConfigEntry)
  added = rows ∷ map (λ (g : GenerationState). g.rows) (filter is_live generations)

  other_added : (other : ℕ × GenerationState) → Contains (others replica generations) other
      → Contains added other.1.rows
  unfolding others
  other_added other m =
      let g = filtered (λ (n : ℕ × GenerationState). is_other replica n.1)
      (with_numbers 0 generations) other m in
      there rows other.1.rows (map (λ (x : GenerationState). x.rows) (filter is_live generations))
      (live_rows generations other.1 (numbered 0 generations other g.0)
      (other_is_live replica other.1 g.1))

  -- the new settings read what another writes
  reads_beside : (other : List ConfigEntry) (class : Class) → IsLiveBeside replica generations other
      → ReadsWriter (class_list other class) (class_list rows class)
  reads_beside other class live =
      let o = lives_other replica generations other live in
      subst (λ (r : List ConfigEntry). ReadsWriter (class_list r class) (class_list rows class)) o.2
      (everywhere added o.0.1.rows rows class (λ c judged. f.writers o.0 c o.1 judged)
      (other_added o.0 o.1) (here rows _))

  -- and another reads what they write
  read_beside : (other : List ConfigEntry) (class : Class) → IsLiveBeside replica generations other
      → ReadsWriter (class_list rows class) (class_list other class)
  read_beside other class live =
      let o = lives_other replica generations other live in
      subst (λ (r : List ConfigEntry). ReadsWriter (class_list rows class) (class_list r class)) o.2
      (everywhere added rows o.0.1.rows class (λ c judged. f.readers o.0 c o.1 judged)
      (here rows _) (other_added o.0 o.1))

  none_lacks : LacksProvider (IsNeeded needs) (IsLiveBeside replica generations) rows → ⊥
  none_lacks (inl s) = s.lacks (subst (λ (who : Who). Contains (list_of rows s.resource) who)
      s.stored.3 (subst (λ (resource : List ℕ). Contains (list_of rows resource) s.stored.0.who)
      s.stored.2 (f.stored s.stored.0 s.stored.1)))
  none_lacks (inr (other, live, inl w)) =
      w.lacks (reads_beside other w.class live w.who w.writes)
  none_lacks (inr (other, live, inr w)) =
      w.lacks (read_beside other w.class live w.who w.writes)

pub refuses_exactly : RefusesExactly
refuses_exactly needs generations replica rows = (
  refused_lacks needs generations replica rows,
  λ lacks passed. none_lacks needs generations replica rows
      ((passes_exactly needs generations replica rows).0 passed) lacks,
)

-- ---- what fits

pub reads_own : (list : List Who) → ReadsWriter list list
reads_own [] who e = absurd (none-some who e)
reads_own (own ∷ list) who e = head_is own who list (same_Some own who e)

-- what is live once the replica has the settings: these, and what is live beside them
module _ (generations : List GenerationState) (replica : ℕ) (rows : List ConfigEntry) where
  abbrev new_one : GenerationState
  new_one = added_generation replica rows

  pub new_lives : IsLiveIn (given_to replica rows generations) rows
  new_lives = (
    new_one,
    Contains-append_right (without_current replica generations) (new_one ∷ []) new_one
        (here new_one []),
    refl,
    refl,
  )

  pub beside_lives : (other : List ConfigEntry) → IsLiveBeside replica generations other
      → IsLiveIn (given_to replica rows generations) other
  beside_lives other (own, m, live, is) = (
    own,
    Contains-append_left (without_current replica generations) (new_one ∷ []) own m,
    live,
    is,
  )

  pub lives_then : (other : List ConfigEntry) → IsLiveIn (given_to replica rows generations) other
      → IsLiveBeside replica generations other ⊎ (rows ≡ other)
  lives_then other (own, m, live, is) =
      elim (Contains-append_cases (without_current replica generations) (new_one ∷ []) own m) [
        | inl old ↦ inl (own, old, live, is)
        | inr new ↦ (elim (cases new_one own [] new) [
          | inl e ↦ inr (ap (λ (x : GenerationState). x.rows) e ∙ is)
          | inr n ↦ absurd (omega (arith, n.1))
        ])
      ]

module _ (needs : List Need) (generations : List GenerationState) (replica : ℕ)
    (rows : List ConfigEntry) where
  module _ (before : AreFit (IsLiveBeside replica generations) needs) where
    fit_then : FitsBoard needs generations replica rows
        → AreFit (IsLiveIn (given_to replica rows generations)) needs
    fit_then f = record {
      stored = λ own need live m. kept own need (lives_then generations replica rows own live) m;
      writers = λ own other class a b. read own other class
          (lives_then generations replica rows own a) (lives_then generations replica rows other b);
    }
      where
        kept : (own : List ConfigEntry) (need : Need)
            → IsLiveBeside replica generations own ⊎ (rows ≡ own) → Contains needs need
            → Contains (list_of own need.resource) need.who
        kept own need (inl live) m = before.stored own need live m
        kept own need (inr e) m =
            subst (λ (x : List ConfigEntry). Contains (list_of x need.resource) need.who) e
            (f.stored need m)

        read : (own other : List ConfigEntry) (class : Class)
            → IsLiveBeside replica generations own ⊎ (rows ≡ own)
            → IsLiveBeside replica generations other ⊎ (rows ≡ other)
            → ReadsWriter (class_list other class) (class_list own class)
        read own other class (inl a) (inl b) = before.writers own other class a b
        read own other class (inl a) (inr e) =
            subst (λ (x : List ConfigEntry). ReadsWriter (class_list x class) (class_list own class)) e
            (read_beside needs generations replica rows f own class a)
        read own other class (inr e) (inl b) =
            subst (λ (x : List ConfigEntry). ReadsWriter (class_list other class) (class_list x class)) e
            (reads_beside needs generations replica rows f other class b)
        read own other class (inr d) (inr e) =
            subst (λ (x : List ConfigEntry). ReadsWriter (class_list x class) (class_list own class)) e
            (subst (λ (x : List ConfigEntry). ReadsWriter (class_list rows class) (class_list x class)) d
            (reads_own (class_list rows class)))

    fits_board : AreFit (IsLiveIn (given_to replica rows generations)) needs
        → FitsBoard needs generations replica rows
    fits_board fit = record {
      stored = λ need m. fit.stored rows need (new_lives generations replica rows) m;
      writers = λ other class m judged. fit.writers rows other.1.rows class
          (new_lives generations replica rows)
          (beside_lives generations replica rows other.1.rows (other_lives replica generations other m));
      readers = λ other class m judged. fit.writers other.1.rows rows class
          (beside_lives generations replica rows other.1.rows (other_lives replica generations other m))
          (new_lives generations replica rows);
    }

pub passes_where_all_fit : PassesWhereAllFit
passes_where_all_fit needs generations replica rows before = (
  λ passed. fit_then needs generations replica rows before
      ((passes_exactly needs generations replica rows).0 passed),
  λ fit. (passes_exactly needs generations replica rows).1
      (fits_board needs generations replica rows before fit),
)
