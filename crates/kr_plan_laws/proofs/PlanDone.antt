-- A plan that is done: a replica goes from a key to no key, and an object is put on the way.
use Rattle.std.proofs.Common.{◌≡◌, ℕ, List, [], ◌∷◌, ◌++◌, replicate, Contains, Option, None, Some, IsSome, IsTrue, refl, sym, ap, subst, ◌∙◌, inl, inr, arith, lit≤}
use Rattle.std.specs.Option.{option_map}
use Rattle.std.proofs.lemmas.List.Elements.{All-nil}
use Rattle.std.proofs.lemmas.Option.{none-some, same_Some}
use Rattle.kr_store.specs.Rows.{put_of}
use Rattle.kr_config.specs.declared.class.Class.TheVariants as class
use Rattle.kr_config.specs.declared.who.Who.{Who}
use Rattle.kr_config.specs.declared.who.Who.TheVariants.{Identity, Aescbc}
use Rattle.kr_config.specs.Kept.{ConfigEntry, keeps}
use Rattle.kr_config.specs.Lists.{class_list}
use Rattle.kr_config.proofs.ListParts.{cases}
use Rattle.kr_provider.specs.Publication.{Publication}
use Rattle.kr_judge.specs.declared.verdict.Verdict.TheVariants.{Pass}
use Rattle.kr_plan.specs.Merges.{wide_rows, turned_rows}
use Rattle.kr_plan.proofs.ClassLists.{merges_each_class}
use Rattle.kr_rollout.specs.declared.line.Did.TheVariants.{Adopt, Put, LetGo, Reload}
use Rattle.kr_rollout.specs.declared.line.Gave.TheVariants.{Adopted, Written, Released, Reloaded}
use Rattle.kr_rollout.specs.declared.opening.Entry.{Entry}
use Rattle.kr_rollout.specs.declared.opening.Opening.{Opening}
use Rattle.kr_rollout.specs.Entries.{published_at}
use Rattle.kr_rollout.specs.Histories.{IsRun, IsLegal}
use Rattle.kr_rollout.specs.Openings.{start_of}
use Rattle.kr_rollout.specs.States.{State, number_at, IsLive, verdict_on}
use Rattle.kr_rollout.specs.Steps.{IsStep, after}
use Rattle.kr_plan_laws.specs.LiveStates.{IsUnderWay, GiveAs, IsOver}
use Rattle.kr_plan_laws.specs.Settled.{AreSettled, NeedsWriter}
use Rattle.kr_plan_laws.specs.WholePlans.{PlanExample}
use Rattle.kr_plan_laws.proofs.Lives.{none_in}
use Rattle.kr_plan_laws.proofs.OneReplica.{all_by, admitted, opening_with, legal_by, Path, Resource, Stored, is_path, is_resource, empty_sealed}
use Rattle.kr_plan_laws.proofs.Rounding.{wide_may_come, turned_may_come, target_may_come}

-- ---- configurations, each of one list for all resources

abbrev Key : Who
Key = Aescbc (0x6B ∷ []) (replicate 32 0)

abbrev Keyed : Publication
Keyed = all_by (Key ∷ [])

abbrev Wide : Publication
Wide = all_by (Key ∷ Identity ∷ [])

abbrev Turned : Publication
Turned = all_by (Identity ∷ Key ∷ [])

abbrev Plain : Publication
Plain = all_by (Identity ∷ [])

wide_gives : GiveAs (wide_rows Keyed.rows Plain.rows) Wide.rows
wide_gives (class.Exact text) = sym (merges_each_class Keyed.rows Plain.rows (class.Exact text)).0
wide_gives (class.Group group) = sym (merges_each_class Keyed.rows Plain.rows (class.Group group)).0
wide_gives class.Rest = sym (merges_each_class Keyed.rows Plain.rows class.Rest).0

turned_gives : GiveAs (turned_rows Keyed.rows Plain.rows) Turned.rows
turned_gives (class.Exact text) =
    sym (merges_each_class Keyed.rows Plain.rows (class.Exact text)).1
turned_gives (class.Group group) =
    sym (merges_each_class Keyed.rows Plain.rows (class.Group group)).1
turned_gives class.Rest = sym (merges_each_class Keyed.rows Plain.rows class.Rest).1

keyed_kept : IsTrue (keeps Keyed.rows)
unfolding keeps
keyed_kept = refl

wide_kept : IsTrue (keeps Wide.rows)
unfolding keeps
wide_kept = refl

turned_kept : IsTrue (keeps Turned.rows)
unfolding keeps
turned_kept = refl

plain_kept : IsTrue (keeps Plain.rows)
unfolding keeps
plain_kept = refl

abbrev Begun : Opening
Begun = opening_with (Key ∷ []) 3

legal_of : (history : List Entry) → IsRun Begun (start_of Begun) history → IsLegal Begun history
legal_of history run = legal_by (Key ∷ []) keyed_kept refl 3 history run

-- ---- where one configuration alone is live

only_live : (st : State) (k : ℕ) (own rows : List ConfigEntry) → st.current ≡ Some k ∷ []
    → st.held ≡ None ∷ []
    → option_map (λ (p : Publication). p.rows) (published_at st.generations (Some k)) ≡ Some own
    → IsLive st rows → own ≡ rows
only_live st k own rows current held is (n, inl c, at) =
    elim (cases (Some k) (Some n) [] (subst (λ (l : List (Option ℕ)). Contains l (Some n))
    current c)) [
      | inl e ↦ same_Some own rows (sym is
          ∙ ap (λ x. option_map (λ (p : Publication). p.rows) (published_at st.generations x)) e
          ∙ at)
      | inr none ↦ absurd (none_in (Some n) none)
    ]
only_live st k own rows current held is (n, inr c, at) =
    elim (cases None (Some n) [] (subst (λ (l : List (Option ℕ)). Contains l (Some n)) held c)) [
      | inl e ↦ absurd (none-some n e)
      | inr none ↦ absurd (none_in (Some n) none)
    ]

over_by : (st : State) (k : ℕ) (own other : List ConfigEntry) → st.current ≡ Some k ∷ []
    → st.held ≡ None ∷ []
    → option_map (λ (p : Publication). p.rows) (published_at st.generations (Some k)) ≡ Some own
    → GiveAs other own → IsOver other st
over_by st k own other current held is give rows class live = inl (subst
    (λ (x : List ConfigEntry). class_list x class ≡ class_list other class)
    (only_live st k own rows current held is live) (give class))

way_by : (st : State) (k : ℕ) (own other next : List ConfigEntry) → st.current ≡ Some k ∷ []
    → st.held ≡ None ∷ []
    → option_map (λ (p : Publication). p.rows) (published_at st.generations (Some k)) ≡ Some own
    → GiveAs other own → IsUnderWay other next st
way_by st k own other next current held is give = record {
  some_in = (0, subst (λ (l : List (Option ℕ)). IsSome (number_at l 0)) (sym current) refl);
  gives = λ rows class live. elim (over_by st k own other current held is give rows class live) [
    | inl e ↦ inl e
    | inr e ↦ inl e
  ];
}

same_gives : (rows : List ConfigEntry) → GiveAs rows rows
same_gives rows class = refl

-- ---- the entries

abbrev taking_up : Publication → ℕ → Entry
taking_up p number = record {
  line = record {
    seat = 0;
    did = Reload 0 p None;
    held = None;
    gave = Reloaded number;
    faults = 0;
  };
  published = None;
  row = None;
  replaced = None;
}

abbrev Adopting : Entry
Adopting = record {
  line = record { seat = 0; did = Adopt 0; held = None; gave = Adopted 2; faults = 0 };
  published = Some Turned;
  row = None;
  replaced = None;
}

abbrev Putting : Entry
Putting = record {
  line = record {
    seat = 0;
    did = Put Path Resource [];
    held = Some 2;
    gave = Written 1;
    faults = 0;
  };
  published = Some Turned;
  row = Some Stored;
  replaced = None;
}

abbrev Leaving : Entry
Leaving = record {
  line = record { seat = 0; did = LetGo; held = Some 2; gave = Released; faults = 0 };
  published = Some Turned;
  row = None;
  replaced = None;
}

-- ---- the states, and what steps there are

abbrev S0 : State
S0 = start_of Begun

abbrev S1 : State
S1 = after S0 (taking_up Wide 1)

abbrev S2 : State
S2 = after S1 (taking_up Turned 2)

abbrev S3 : State
S3 = after S2 Adopting

abbrev S4 : State
S4 = after S3 Putting

abbrev S5 : State
S5 = after S4 Leaving

abbrev Round1 : List Entry
Round1 = taking_up Wide 1 ∷ []

abbrev Round2 : List Entry
Round2 = taking_up Turned 2 ∷ []

abbrev Meanwhile : List Entry
Meanwhile = Adopting ∷ Putting ∷ Leaving ∷ []

abbrev Round3 : List Entry
Round3 = taking_up Plain 3 ∷ []

step_1 : IsStep Begun S0 (taking_up Wide 1)
step_1 = record {
  seat = omega arith;
  held = refl;
  rules = (omega arith, admitted (Key ∷ Identity ∷ []) wide_kept refl);
  answer = ((0, refl, tt), (passes, refl));
  writes = tt;
  counted = omega arith;
  faults = refl;
  payload = refl;
  reaches = record { row = omega arith; replaced = omega arith; generation = tt };
}
  where
    passes : verdict_on S0 0 Wide.rows ≡ Pass
    passes = wide_may_come Begun [] Keyed.rows Plain.rows Wide.rows 0 (legal_of [] tt)
        keyed_kept
        (way_by S0 0 Keyed.rows Keyed.rows (wide_rows Keyed.rows Plain.rows) refl refl refl
        (same_gives Keyed.rows)) wide_gives

step_2 : IsStep Begun S1 (taking_up Turned 2)
step_2 = record {
  seat = omega arith;
  held = refl;
  rules = (omega arith, admitted (Identity ∷ Key ∷ []) turned_kept refl);
  answer = ((1, refl, tt), (passes, refl));
  writes = tt;
  counted = omega arith;
  faults = refl;
  payload = refl;
  reaches = record { row = omega arith; replaced = omega arith; generation = tt };
}
  where
    passes : verdict_on S1 0 Turned.rows ≡ Pass
    passes = turned_may_come Begun Round1 Keyed.rows Plain.rows Turned.rows 0
        (legal_of Round1 (step_1, tt))
        (way_by S1 1 Wide.rows (wide_rows Keyed.rows Plain.rows)
        (turned_rows Keyed.rows Plain.rows) refl refl refl wide_gives) turned_gives

step_3 : IsStep Begun S2 Adopting
step_3 = record {
  seat = omega arith;
  held = refl;
  rules = omega arith;
  answer = (refl, refl);
  writes = tt;
  counted = omega arith;
  faults = refl;
  payload = refl;
  reaches = record { row = omega arith; replaced = omega arith; generation = omega arith };
}

step_4 : IsStep Begun S3 Putting
step_4 = record {
  seat = omega arith;
  held = refl;
  rules = (is_path, is_resource, All-nil _);
  answer = (refl, refl);
  writes = (
    put_of Path Resource [] None,
    (Turned, refl, record { stored = []; sealing = empty_sealed (Key ∷ []); row_is = refl }),
    lit≤ tt,
    refl,
  );
  counted = omega arith;
  faults = refl;
  payload = refl;
  reaches = record { row = lit≤ tt; replaced = lit≤ tt; generation = omega arith };
}

step_5 : IsStep Begun S4 Leaving
step_5 = record {
  seat = omega arith;
  held = refl;
  rules = tt;
  answer = refl;
  writes = tt;
  counted = omega arith;
  faults = refl;
  payload = refl;
  reaches = record { row = lit≤ tt; replaced = lit≤ tt; generation = omega arith };
}

-- what is stored needs the provider by which the target writes
settled_5 : AreSettled Plain.rows S5
settled_5 need m = elim (cases (record { path = Path; resource = Resource; who = Identity }) need []
    m) [
      | inl e ↦ subst (NeedsWriter Plain.rows) e refl
      | inr none ↦ absurd (none_in need none)
    ]

step_6 : IsStep Begun S5 (taking_up Plain 3)
step_6 = record {
  seat = omega arith;
  held = refl;
  rules = (omega arith, admitted (Identity ∷ []) plain_kept refl);
  answer = ((2, refl, tt), (passes, refl));
  writes = tt;
  counted = omega arith;
  faults = refl;
  payload = refl;
  reaches = record { row = lit≤ tt; replaced = lit≤ tt; generation = tt };
}
  where
    passes : verdict_on S5 0 Plain.rows ≡ Pass
    passes = target_may_come Begun (Round1 ++ Round2 ++ Meanwhile) Keyed.rows Plain.rows Plain.rows 0
        (legal_of (Round1 ++ Round2 ++ Meanwhile)
        (step_1, (step_2, (step_3, (step_4, (step_5, tt))))))
        plain_kept
        (way_by S5 2 Turned.rows (turned_rows Keyed.rows Plain.rows) Plain.rows refl refl refl
        turned_gives) settled_5 (same_gives Plain.rows)

-- ---- the plan

pub plan_example : PlanExample
plan_example = record {
  opening = Begun;
  from = Keyed.rows;
  to = Plain.rows;
  kept = (keyed_kept, plain_kept);
  first = Round1;
  second = Round2;
  rewrite = Meanwhile;
  last = Round3;
  done = record {
    legal = legal_of (Round1 ++ Round2 ++ Meanwhile ++ Round3)
        (step_1, (step_2, (step_3, (step_4, (step_5, (step_6, tt))))));
    begins = way_by S0 0 Keyed.rows Keyed.rows Keyed.rows refl refl refl (same_gives Keyed.rows);
    wide = (inl wide_gives, (0, refl), tt);
    wide_over = over_by S1 1 Wide.rows (wide_rows Keyed.rows Plain.rows) refl refl refl wide_gives;
    turned = (inl turned_gives, (0, refl), tt);
    turned_over = over_by S2 2 Turned.rows (turned_rows Keyed.rows Plain.rows) refl refl refl
        turned_gives;
    meanwhile = (tt, (0, refl), (tt, (0, refl), (tt, (0, refl), tt)));
    rewritten = λ path. (Meanwhile, [], refl, λ need m at. settled_5 need m);
    target = (inl (same_gives Plain.rows), (0, refl), tt);
    target_over = over_by (after S5 (taking_up Plain 3)) 3 Plain.rows Plain.rows refl refl refl
        (same_gives Plain.rows);
  };
  path = Path;
  stored = refl;
}
