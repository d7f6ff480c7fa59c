-- No reload of a plan is refused.
use Rattle.std.proofs.Common.{◌≡◌, ℕ, Bool, true, false, List, Contains, Some, refl, sym, ap, subst, ◌∙◌, ◌⊎◌, inl, inr}
use Rattle.std.specs.Prelude.{◌&&◌, ◌||◌, ◌==◌, not, nat_lt}
use Rattle.std.specs.List.{filter}
use Rattle.std.proofs.lemmas.Bool.{ltb-true}
use Rattle.std.proofs.lemmas.List.Elements.{All-contains, filter_passes}
use Rattle.std.proofs.lemmas.List.Folds.{Any-from_list_any}
use Rattle.kr_config.specs.declared.class.Class.{Class}
use Rattle.kr_config.specs.declared.class.Class.TheVariants.{Exact}
use Rattle.kr_config.specs.declared.who.Who.{Who}
use Rattle.kr_config.specs.Kept.{ConfigEntry}
use Rattle.kr_config.specs.Lists.{list_of, class_list}
use Rattle.kr_config.proofs.Inversions.{left}
use Rattle.kr_judge.specs.declared.need.Need.{Need}
use Rattle.kr_judge.specs.declared.verdict.Verdict.TheVariants.{Pass}
use Rattle.kr_judge.specs.Boards.{GenerationState, is_live, is_replica_current}
use Rattle.kr_judge.specs.Fits.{ReadsWriter}
use Rattle.kr_judge.specs.Verdicts.{first, verdict_of, with_numbers, is_other, others}
use Rattle.kr_judge.proofs.Lacking.{filtered, numbered}
use Rattle.kr_judge.proofs.Passing.{passes_exactly}
use Rattle.kr_plan.specs.Laws.{WidePasses, TurnedPasses, TargetPasses}
use Rattle.kr_plan.specs.Merges.{merge, wide_rows, turned_rows}
use Rattle.kr_plan.specs.Rollouts.{IsBetween, GivesEither}
use Rattle.kr_plan.proofs.ClassLists.{merges_each_class}
use Rattle.kr_config.proofs.KeptLists.{full_list}
use Rattle.kr_plan.proofs.Merged.{in_one, first_member, first_merged, merges_members}

-- ---- live generations

other_there : (replica : ℕ) (generations : List GenerationState) (other : ℕ × GenerationState)
    → Contains (others replica generations) other
    → Contains generations other.1 × (is_live other.1 ≡ true)
unfolding others
other_there replica generations other m =
    let test : ℕ × GenerationState → Bool = λ n. is_other replica n.1 in
    let those : List (ℕ × GenerationState) = with_numbers 0 generations in (
      numbered 0 generations other (filtered test those other m).0,
      left (is_live other.1) (not ((other.1.replica == replica)
          && (other.1.current && (other.1.holders == 0))))
          (All-contains (λ n. test n ≡ true) (filter test those) other (filter_passes test those) m),
    )

-- the one settings and the other, and what a board has
module _ (one other : List ConfigEntry) (needs : List Need) (generations : List GenerationState)
    (replica : ℕ) (between : IsBetween one other needs generations replica) where
  live_gives : (own : GenerationState) (class : Class) → Contains generations own
      → is_live own ≡ true → GivesEither one other own.rows class
  live_gives own class m live = between.gives own class m (by own.current refl live)
    where
      by : (v : Bool) → own.current ≡ v → (v || nat_lt 0 own.holders) ≡ true → own.current ≡ true
      by true e k = e
      by false e k = between.held own m (ltb-true 0 own.holders k)

  -- what is stored is read by the replica's own settings
  stored_at : (need : Need) → Contains needs need
      → Contains (class_list one (Exact need.resource)) need.who
      ⊎ Contains (class_list other (Exact need.resource)) need.who
  stored_at need m =
      let some = Any-from_list_any (is_replica_current replica) generations between.is_in in
      let own : GenerationState = some.1 in
      let member : Contains generations own = (some.0, some.2, some.3) in
      let current : own.current ≡ true = left own.current (own.replica == replica) some.4 in
      let live : is_live own ≡ true = ap (λ v. v || nat_lt 0 own.holders) current in
      let reads : Contains (list_of own.rows need.resource) need.who =
      between.fit.stored own.rows need (own, member, live, refl) m in
      elim (between.gives own (Exact need.resource) member current) [
        | inl e ↦ inl (subst (λ l. Contains l need.who) e reads)
        | inr e ↦ inr (subst (λ l. Contains l need.who) e reads)
      ]

  -- new settings pass that read what is stored, and at each class go with either list
  pub passes : (rows : List ConfigEntry)
      → ((need : Need) → Contains needs need → Contains (list_of rows need.resource) need.who)
      → ((list : List Who) (class : Class)
      → (list ≡ class_list one class) ⊎ (list ≡ class_list other class)
      → ReadsWriter list (class_list rows class) × ReadsWriter (class_list rows class) list)
      → verdict_of needs generations replica rows ≡ Pass
  passes rows stored goes = (passes_exactly needs generations replica rows).1 (record {
    stored = stored;
    writers = λ own class m of.
        let l = other_there replica generations own m in
        (goes (class_list own.1.rows class) class (live_gives own.1 class l.0 l.1)).0;
    readers = λ own class m of.
        let l = other_there replica generations own m in
        (goes (class_list own.1.rows class) class (live_gives own.1 class l.0 l.1)).1;
  })

-- ---- the phases

-- a list of which new settings have each member, and that has their writer, goes with them
wider_read : (old rows : List ConfigEntry) (list : List Who) (class : Class)
    → list ≡ class_list old class
    → ((who : Who) → Contains (class_list old class) who → Contains (class_list rows class) who)
    → ((who : Who) → first (class_list rows class) ≡ Some who → Contains (class_list old class) who)
    → ReadsWriter list (class_list rows class) × ReadsWriter (class_list rows class) list
wider_read old rows list class own wider back = (
  λ who f. wider who (first_member (class_list old class) who (ap first (sym own) ∙ f)),
  λ who f. subst (λ l. Contains l who) (sym own) (back who f),
)

-- as does their own
same_read : (rows : List ConfigEntry) (list : List Who) (class : Class) → list ≡ class_list rows class
    → ReadsWriter list (class_list rows class) × ReadsWriter (class_list rows class) list
same_read rows list class own =
    wider_read rows rows list class own (λ who m. m) (first_member (class_list rows class))

-- settings pass that have each member of the lists before, and whose writers are among those
passes_onto : (one rows : List ConfigEntry) (needs : List Need)
    (generations : List GenerationState) (replica : ℕ)
    → IsBetween one rows needs generations replica
    → ((class : Class) (who : Who) → Contains (class_list one class) who
    → Contains (class_list rows class) who)
    → ((class : Class) (who : Who) → first (class_list rows class) ≡ Some who
    → Contains (class_list one class) who)
    → verdict_of needs generations replica rows ≡ Pass
passes_onto one rows needs generations replica between wider back =
    passes one rows needs generations replica between rows
    (λ need m. elim (stored_at one rows needs generations replica between need m) [
      | inl k ↦ wider (Exact need.resource) need.who k
      | inr k ↦ k
    ])
    (λ list class e. elim e [
      | inl own ↦ wider_read one rows list class own (wider class) (back class)
      | inr own ↦ same_read rows list class own
    ])

pub wide_passes : WidePasses
wide_passes from to needs generations replica kept between =
    let wide : List ConfigEntry = wide_rows from to in
    let at : (class : Class)
    → class_list wide class ≡ merge (class_list from class) (class_list to class) =
    λ class. (merges_each_class from to class).0 in
    passes_onto from wide needs generations replica between
    (λ class who m. subst (λ l. Contains l who) (sym (at class))
    (in_one (class_list from class) (class_list to class) who m))
    (λ class who f. first_merged (class_list from class) (class_list to class) who
    (full_list from class kept) (ap first (sym (at class)) ∙ f))

pub turned_passes : TurnedPasses
turned_passes from to needs generations replica between =
    let wide : List ConfigEntry = wide_rows from to in
    let turned : List ConfigEntry = turned_rows from to in
    let here_wide : (class : Class)
    → class_list wide class ≡ merge (class_list from class) (class_list to class) =
    λ class. (merges_each_class from to class).0 in
    let here_turned : (class : Class)
    → class_list turned class ≡ merge (class_list to class) (class_list from class) =
    λ class. (merges_each_class from to class).1 in
    passes_onto wide turned needs generations replica between
    (λ class who m. subst (λ l. Contains l who) (sym (here_turned class))
    ((merges_members (class_list from class) (class_list to class) who).0
    (subst (λ l. Contains l who) (here_wide class) m)))
    (λ class who f. subst (λ l. Contains l who) (sym (here_wide class))
    ((merges_members (class_list from class) (class_list to class) who).1
    (subst (λ l. Contains l who) (here_turned class)
    (first_member (class_list turned class) who f))))

pub target_passes : TargetPasses
target_passes from to needs generations replica kept between stored =
    let turned : List ConfigEntry = turned_rows from to in
    let at : (class : Class)
    → class_list turned class ≡ merge (class_list to class) (class_list from class) =
    λ class. (merges_each_class from to class).1 in
    passes turned to needs generations replica between to
    (λ need m. first_member (list_of to need.resource) need.who (stored need m))
    (λ list class e. elim e [
      | inl own ↦ (
        λ who f. first_merged (class_list to class) (class_list from class) who
            (full_list to class kept) (ap first (sym (at class)) ∙ ap first (sym own) ∙ f),
        λ who f. subst (λ l. Contains l who) (sym (own ∙ at class))
            (in_one (class_list to class) (class_list from class) who
            (first_member (class_list to class) who f)),
      )
      | inr own ↦ (
        λ who f. first_member (class_list to class) who (ap first (sym own) ∙ f),
        λ who f. subst (λ l. Contains l who) (sym own)
            (first_member (class_list to class) who f),
      )
    ])
