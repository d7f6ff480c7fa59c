-- Rounds of a plan by what is live: what passes, what is kept, and how they end.
use Rattle.std.proofs.Common.{◌≡◌, ℕ, zero, suc, ◌<◌, ◌≤◌, ◌⊎◌, List, [], ◌∷◌, ◌++◌, length, Contains, Option, None, Some, IsSome, IsTrue, refl, sym, ap, subst, ◌∙◌, inl, inr, arith}
use Rattle.std.specs.List.{slice_get}
use Rattle.std.proofs.lemmas.Option.{none-some, slice_get_within}
use Rattle.kr_config.specs.declared.class.Class.{Class}
use Rattle.kr_config.specs.declared.class.Class.TheVariants.{Exact}
use Rattle.kr_config.specs.declared.who.Who.{Who}
use Rattle.kr_config.specs.Kept.{ConfigEntry, keeps}
use Rattle.kr_config.specs.Lists.{list_of, class_list}
use Rattle.kr_config.proofs.KeptLists.{full_list}
use Rattle.kr_judge.specs.declared.need.Need.{Need}
use Rattle.kr_judge.specs.declared.verdict.Verdict.TheVariants.{Pass}
use Rattle.kr_judge.specs.Fits.{ReadsWriter}
use Rattle.kr_judge.specs.Verdicts.{first}
use Rattle.kr_plan.specs.Merges.{merge, wide_rows, turned_rows}
use Rattle.kr_plan.proofs.ClassLists.{merges_each_class}
use Rattle.kr_plan.proofs.Merged.{in_one, first_member, first_merged, merges_members}
use Rattle.kr_opening.specs.declared.generation.Generation.{Generation}
use Rattle.kr_rollout.specs.declared.line.Did.{Did}
use Rattle.kr_rollout.specs.declared.line.Did.TheVariants.{Adopt, Fetch, After, Put, Delete, Replace, LetGo, Reload, Join, Leave}
use Rattle.kr_rollout.specs.declared.opening.Entry.{Entry}
use Rattle.kr_rollout.specs.declared.opening.Opening.{Opening}
use Rattle.kr_rollout.specs.Openings.{start_of}
use Rattle.kr_rollout.specs.Histories.{state_from, state_of, IsRun}
use Rattle.kr_rollout.specs.States.{State, current_of, verdict_on, IsLive, IsLiveNumber}
use Rattle.kr_rollout.specs.Steps.{IsStep, after, new_generations}
use Rattle.kr_rollout.proofs.Appending.{state_more}
use Rattle.kr_history.proofs.Effects.{effect_of}
use Rattle.kr_history.proofs.Fitting.{sound_after, legal_sound}
use Rattle.kr_history.proofs.Judging.{next_step}
use Rattle.kr_history.proofs.Sound.{IsSound, AreOther, contains_at, at_there, number_rows, rows_of_number, others_pass}
use Rattle.kr_plan_laws.specs.PlannedStates.{IsMidway}
use Rattle.kr_plan_laws.specs.LiveStates.{HasReplica, LiveGive, IsUnderWay, GiveAs, BringsOnly, AreOfRound, BringsNew, AllNew}
use Rattle.kr_plan_laws.specs.LivePlans.{MidwayIsUnderWay, WideMayCome, TurnedMayCome, TargetMayCome, EachEntryKeeps, RoundKeeps, RoundEnds, NextMayBegin}
use Rattle.kr_plan_laws.specs.Settled.{AreSettled}
use Rattle.kr_plan_laws.proofs.Lives.{IsGiven, live_after, old_or_more, given_by}
use Rattle.kr_plan_laws.proofs.Runs.{run_parts, more_state, legal_front}

-- ---- a state in which only current configurations are held

missing : {X : Type 0} (xs : List X) (n : ℕ) → slice_get xs n ≡ None → n < length xs → ⊥
missing [] n e l = omega (arith, l)
missing (x ∷ xs) zero e l = none-some x (sym e)
missing (x ∷ xs) (suc n) e l = missing xs n e (omega (arith, l))

module _ (o : Opening) (st : State) (sound : IsSound o st) (one other : List ConfigEntry)
    (replica : ℕ) (midway : IsMidway one other st replica) where
  held_current : (n : ℕ) → Contains st.held (Some n) → Contains st.current (Some n)
  held_current n c = by (slice_get st.generations n) refl
    where
      by : (x : Option Generation) → slice_get st.generations n ≡ x
          → Contains st.current (Some n)
      by None is = absurd (missing st.generations n is (sound.held n c))
      by (Some g) is = contains_at st.current g.replica n
          (midway.held c.0 n g (at_there st.held c.0 n c.1 c.2) is)

  live_current : (n : ℕ) → IsLiveNumber st n → Contains st.current (Some n)
  live_current n (inl c) = c
  live_current n (inr c) = held_current n c

  gives_live : LiveGive one other st
  gives_live rows class live =
      midway.gives live.0 rows class (live_current live.0 live.1) live.2

pub midway_is_under_way : MidwayIsUnderWay
midway_is_under_way o history one other replica l midway = record {
  some_in = (replica, midway.is_in);
  gives = gives_live o (state_of o history) (legal_sound o history l) one other replica midway;
}

-- ---- what passes

-- the settings of a replica that is in are live
in_live : (o : Opening) (st : State) → IsSound o st → (replica : ℕ) (x : Option ℕ)
    → current_of st replica ≡ x → IsSome x → (rows : List ConfigEntry) × IsLive st rows
in_live o st sound replica None e some = absurd cc
in_live o st sound replica (Some n) e some =
    let own = sound.own replica n e in
    let g : Generation = own.generation in (
      g.published.rows,
      (n, inl (contains_at st.current replica n e), number_rows st.generations n g own.there),
    )

other_live : (st : State) (replica : ℕ) (rows : List ConfigEntry) → AreOther st replica rows
    → IsLive st rows
other_live st replica rows a = (
  a.number,
  elim a.live [
    | inl at ↦ inl (contains_at st.current at.0 a.number at.2)
    | inr held ↦ inr held
  ],
  number_rows st.generations a.number a.generation a.there ∙ ap Some a.rows_are,
)

-- new settings pass that give as the other do, where these read what is stored, and at each class go
-- with either list
module _ (o : Opening) (st : State) (sound : IsSound o st) (one other rows : List ConfigEntry)
    (replica : ℕ) (way : IsUnderWay one other st) (give : GiveAs other rows) where
  passes : ((need : Need) → Contains st.needs need
      → Contains (list_of other need.resource) need.who)
      → ((list : List Who) (class : Class)
      → (list ≡ class_list one class) ⊎ (list ≡ class_list other class)
      → ReadsWriter list (class_list other class) × ReadsWriter (class_list other class) list)
      → verdict_on st replica rows ≡ Pass
  passes stored goes = others_pass o st sound replica rows
      (λ need m. subst (λ l. Contains l need.who) (sym (give (Exact need.resource)))
      (stored need m))
      (λ own a class. subst (ReadsWriter (class_list own class)) (sym (give class))
      (goes (class_list own class) class
      (way.gives own class (other_live st replica own a))).0)
      (λ own a class. subst (λ l. ReadsWriter l (class_list own class)) (sym (give class))
      (goes (class_list own class) class
      (way.gives own class (other_live st replica own a))).1)

  -- what is stored is in the one list or in the other
  stored_in : (need : Need) → Contains st.needs need
      → Contains (class_list one (Exact need.resource)) need.who
      ⊎ Contains (class_list other (Exact need.resource)) need.who
  stored_in need m =
      let own = in_live o st sound (way.some_in).0 (current_of st (way.some_in).0) refl
      (way.some_in).1 in
      let reads = sound.fit.stored own.0 need own.1 m in
      elim (way.gives own.0 (Exact need.resource) own.1) [
        | inl e ↦ inl (subst (λ l. Contains l need.who) e reads)
        | inr e ↦ inr (subst (λ l. Contains l need.who) e reads)
      ]

  -- settings pass that have each member of the lists before, and whose writers are among those
  passes_onto : ((class : Class) (who : Who) → Contains (class_list one class) who
      → Contains (class_list other class) who)
      → ((class : Class) (who : Who) → first (class_list other class) ≡ Some who
      → Contains (class_list one class) who)
      → verdict_on st replica rows ≡ Pass
  passes_onto wider back = passes
      (λ need m. elim (stored_in need m) [
        | inl k ↦ wider (Exact need.resource) need.who k
        | inr k ↦ k
      ])
      (λ list class e. elim e [
        | inl own ↦ (
          λ who f. wider class who
              (first_member (class_list one class) who (ap first (sym own) ∙ f)),
          λ who f. subst (λ l. Contains l who) (sym own) (back class who f),
        )
        | inr own ↦ (
          λ who f. first_member (class_list other class) who (ap first (sym own) ∙ f),
          λ who f. subst (λ l. Contains l who) (sym own)
              (first_member (class_list other class) who f),
        )
      ])

-- ---- the rounds of a plan

module _ (o : Opening) (st : State) (sound : IsSound o st) (from to rows : List ConfigEntry)
    (replica : ℕ) where
  in_wide : (class : Class)
      → class_list (wide_rows from to) class ≡ merge (class_list from class) (class_list to class)
  in_wide class = (merges_each_class from to class).0

  in_turned : (class : Class)
      → class_list (turned_rows from to) class ≡ merge (class_list to class) (class_list from class)
  in_turned class = (merges_each_class from to class).1

  pub wide_passes : IsTrue (keeps from) → IsUnderWay from (wide_rows from to) st
      → GiveAs (wide_rows from to) rows → verdict_on st replica rows ≡ Pass
  wide_passes kept way give =
      passes_onto o st sound from (wide_rows from to) rows replica way give
      (λ class who m. subst (λ l. Contains l who) (sym (in_wide class))
      (in_one (class_list from class) (class_list to class) who m))
      (λ class who f. first_merged (class_list from class) (class_list to class) who
      (full_list from class kept) (ap first (sym (in_wide class)) ∙ f))

  pub turned_passes : IsUnderWay (wide_rows from to) (turned_rows from to) st
      → GiveAs (turned_rows from to) rows → verdict_on st replica rows ≡ Pass
  turned_passes way give =
      passes_onto o st sound (wide_rows from to) (turned_rows from to) rows replica way give
      (λ class who m. subst (λ l. Contains l who) (sym (in_turned class))
      ((merges_members (class_list from class) (class_list to class) who).0
      (subst (λ l. Contains l who) (in_wide class) m)))
      (λ class who f. subst (λ l. Contains l who) (sym (in_wide class))
      ((merges_members (class_list from class) (class_list to class) who).1
      (subst (λ l. Contains l who) (in_turned class)
      (first_member (class_list (turned_rows from to) class) who f))))

  pub target_passes : IsTrue (keeps to) → IsUnderWay (turned_rows from to) to st
      → AreSettled to st → GiveAs to rows → verdict_on st replica rows ≡ Pass
  target_passes kept way settled give =
      passes o st sound (turned_rows from to) to rows replica way give
      (λ need m. first_member (list_of to need.resource) need.who (settled need m))
      (λ list class e. elim e [
        | inl own ↦ (
          λ who f. first_merged (class_list to class) (class_list from class) who
              (full_list to class kept) (ap first (sym (in_turned class)) ∙ ap first (sym own) ∙ f),
          λ who f. subst (λ l. Contains l who) (sym (own ∙ in_turned class))
              (in_one (class_list to class) (class_list from class) who
              (first_member (class_list to class) who f)),
        )
        | inr own ↦ (
          λ who f. first_member (class_list to class) who (ap first (sym own) ∙ f),
          λ who f. subst (λ l. Contains l who) (sym own)
              (first_member (class_list to class) who f),
        )
      ])

pub wide_may_come : WideMayCome
wide_may_come o history from to rows replica l kept way give =
    wide_passes o (state_of o history) (legal_sound o history l) from to rows replica kept way give

pub turned_may_come : TurnedMayCome
turned_may_come o history from to rows replica l way give =
    turned_passes o (state_of o history) (legal_sound o history l) from to rows replica way give

pub target_may_come : TargetMayCome
target_may_come o history from to rows replica l kept way settled give =
    target_passes o (state_of o history) (legal_sound o history l) from to rows replica kept way
    settled give

-- ---- what entries keep

brought_as : (other rows : List ConfigEntry) (did : Did) → BringsNew other did → IsGiven did rows
    → GiveAs other rows
brought_as other rows (Reload replica p expect) b g = subst (GiveAs other) g b
brought_as other rows (Join replica p) b g = subst (GiveAs other) g b
brought_as other rows (Adopt replica) b g = absurd g
brought_as other rows (Fetch path) b g = absurd g
brought_as other rows (After path) b g = absurd g
brought_as other rows (Put path resource plain) b g = absurd g
brought_as other rows (Delete path) b g = absurd g
brought_as other rows (Replace path revision) b g = absurd g
brought_as other rows LetGo b g = absurd g
brought_as other rows (Leave replica) b g = absurd g

abbrev Fits : (other : List ConfigEntry) → State → List ConfigEntry → Type 0
Fits other st rows = GiveAs other rows ⊎ IsLive st rows

brought_either : (other rows : List ConfigEntry) (st : State) (did : Did)
    → BringsOnly other st did → IsGiven did rows → Fits other st rows
brought_either other rows st (Reload replica p expect) b g = subst (Fits other st) g b
brought_either other rows st (Join replica p) b g = subst (Fits other st) g b
brought_either other rows st (Adopt replica) b g = absurd g
brought_either other rows st (Fetch path) b g = absurd g
brought_either other rows st (After path) b g = absurd g
brought_either other rows st (Put path resource plain) b g = absurd g
brought_either other rows st (Delete path) b g = absurd g
brought_either other rows st (Replace path revision) b g = absurd g
brought_either other rows st LetGo b g = absurd g
brought_either other rows st (Leave replica) b g = absurd g

pub keeps_way : (o : Opening) (st : State) (e : Entry) (one other : List ConfigEntry)
    → IsSound o st → IsStep o st e → IsUnderWay one other st → BringsOnly other st e.line.did
    → HasReplica (after st e) → IsUnderWay one other (after st e)
keeps_way o st e one other sound step way brings some = record {
  some_in = some;
  gives = λ rows class live. elim (live_after o st sound e step rows live) [
    | inl before ↦ way.gives rows class before
    | inr given ↦ elim (brought_either other rows st e.line.did brings given) [
      | inl give ↦ inr (give class)
      | inr was ↦ way.gives rows class was
    ]
  ];
}

pub each_entry_keeps : EachEntryKeeps
each_entry_keeps o history e one other l way brings some =
    let n = next_step o history e l in
    let is = state_more (start_of o) history e in
    subst (IsUnderWay one other) (sym is)
    (keeps_way o (state_of o history) e one other (legal_sound o history n.before) n.step way brings
    (subst HasReplica is some))

pub way_run : (o : Opening) (st : State) (round : List Entry) (one other : List ConfigEntry)
    → IsSound o st → IsRun o st round → IsUnderWay one other st → AreOfRound other st round
    → IsUnderWay one other (state_from st round)
way_run o st [] one other sound run way of = way
way_run o st (e ∷ round) one other sound run way of =
    way_run o (after st e) round one other
    (sound_after o st sound e (effect_of o st e run.0)) run.1
    (keeps_way o st e one other sound run.0 way of.0 of.1) of.2

pub round_keeps : RoundKeeps
round_keeps o history round one other l way of =
    subst (IsUnderWay one other) (sym (more_state (start_of o) history round))
    (way_run o (state_of o history) round one other
    (legal_sound o history (legal_front o history round l))
    (run_parts o (start_of o) history round l.runs).1 way of)

-- ---- how a round ends

-- generations from a number on give as the settings do
abbrev NewGive : (other : List ConfigEntry) → ℕ → State → Type 0
NewGive other base st = (n : ℕ) (g : Generation) → base ≤ n → slice_get st.generations n ≡ Some g
    → GiveAs other g.published.rows

new_run : (st : State) (round : List Entry) (other : List ConfigEntry) (base : ℕ)
    → NewGive other base st → AllNew other round → NewGive other base (state_from st round)
new_run st [] other base new of = new
new_run st (e ∷ round) other base new of = new_run (after st e) round other base
    (λ n g above at. elim (old_or_more st.generations (new_generations e.line.gave e.line.did) n g
    at) [
      | inl old ↦ new n g above old
      | inr more ↦ brought_as other g.published.rows e.line.did of.0
          (given_by e.line.gave e.line.did g more)
    ])
    of.1

pub round_ends : RoundEnds
round_ends o history round other l of newer rows class live =
    let begun : State = state_of o history in
    let now : State = state_of o (history ++ round) in
    let base : ℕ = length begun.generations in
    let new = subst (NewGive other base) (sym (more_state (start_of o) history round))
    (new_run begun round other base (λ n g above at. absurd (omega (
      arith,
      above,
      slice_get_within begun.generations n g at,
    ))) of) in
    let g = rows_of_number now.generations live.0 rows live.2 in
    inl (subst (GiveAs other) g.2 (new live.0 g.0 (newer live.0 live.1) g.1) class)

pub next_may_begin : NextMayBegin
next_may_begin o history other next some over = record {
  some_in = some;
  gives = λ rows class live. elim (over rows class live) [
    | inl is ↦ inl is
    | inr is ↦ inl is
  ];
}
