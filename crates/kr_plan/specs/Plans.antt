-- The plan of a rollout from one configuration to another, and the reasons against one.
use Rattle.std.specs.Prelude.{◌≡◌, ℕ, ◌&&◌, ◌++◌, Bool, not, nat_lt, List, [], ◌∷◌, length, map, Option, Some, Result, Ok, Err, ⊤}
use Rattle.std.specs.List.{filter, filter_map, find, list_any, range_with_len}
use Rattle.std.specs.Option.{option_map}
use Rattle.kr_config.specs.declared.class.Class.{Class}
use Rattle.kr_config.specs.declared.who.Who.{Who}
use Rattle.kr_config.specs.declared.refusal.Counted.{Counted}
use Rattle.kr_config.specs.declared.refusal.Counted.TheVariants.{Entries, Keys, Plugins}
use Rattle.kr_config.specs.Refusals.{limit_of}
use Rattle.kr_config.specs.Providers.{rivals}
use Rattle.kr_config.specs.Kept.{ConfigEntry, rows_of, count_entry_keys, kms_in}
use Rattle.kr_config.specs.Lists.{class_list}
use Rattle.kr_judge.specs.Providers.{same_who}
use Rattle.kr_judge.specs.Verdicts.{first}
use Rattle.kr_plan.specs.declared.moves.Phase.{Phase}
use Rattle.kr_plan.specs.declared.moves.Phase.TheVariants.{Wide, Turned, Target}
use Rattle.kr_plan.specs.declared.moves.Move.{Move}
use Rattle.kr_plan.specs.declared.moves.Move.TheVariants.{Reload, Rewrite}
use Rattle.kr_plan.specs.declared.moves.Plan.{Plan}
use Rattle.kr_plan.specs.declared.refusal.PlanNo.{PlanNo}
use Rattle.kr_plan.specs.declared.refusal.PlanNo.TheVariants.{SecretClash, TooMany, NoMemory}
use Rattle.kr_plan.specs.Merges.{classes_of, wide_rows, turned_rows}

-- ---- the plan

-- all replicas in order take up the settings of the phase
abbrev pub reloads : Phase → ℕ → List Move
reloads phase replicas = map (λ replica. Reload replica phase) (range_with_len 0 replicas)

-- all take up the wide settings, then all the turned ones; what is stored is written anew by these;
-- then all take up the target
abbrev pub replica_moves : ℕ → List Move
replica_moves replicas = reloads Wide replicas
    ++ (reloads Turned replicas ++ Rewrite ∷ reloads Target replicas)

pub record IsPlan (from to : List ConfigEntry) (replicas : ℕ) (plan : Plan) : Type 0 where
  pub wide : rows_of plan.wide.entries.0 ≡ wide_rows from to
  pub turned : rows_of plan.turned.entries.0 ≡ turned_rows from to
  pub moves : plan.moves.0 ≡ replica_moves replicas

-- ---- the reasons against it

-- one kind and one name, and two secrets
abbrev pub clash : Who → Who → Bool
clash a b = rivals a b && not (same_who a b)

-- the first provider of a list that clashes with one of the other list
abbrev pub first_clash : (one other : List Who) → Option Who
first_clash one other = find (λ who. list_any (clash who) other) one

-- of some classes in their order those at which the two settings clash, each with the first
-- provider of the one that does
abbrev pub clashes_at : List Class → (one other : List ConfigEntry) → List (Class × Who)
clashes_at classes one other = filter_map (λ class. option_map (λ who. (class, who))
    (first_clash (class_list one class) (class_list other class))) classes

-- what settings that are made may have too many of, with how many they have
abbrev pub amounts : List ConfigEntry → List (Counted × ℕ)
amounts rows = (Entries, length rows) ∷ (Keys, count_entry_keys rows) ∷ (Plugins, kms_in rows) ∷ []

-- it is above its limit
abbrev pub exceeds_limit : Counted × ℕ → Bool
exceeds_limit amount = nat_lt (limit_of amount.0) amount.1

abbrev pub clash_reasons : List (Class × Who) → List PlanNo
clash_reasons clashes = map (λ own. SecretClash own.0 own.1) clashes

abbrev pub limit_reasons : List (Counted × ℕ) → List PlanNo
limit_reasons counts = map (λ own. TooMany own.0 own.1) (filter exceeds_limit counts)

-- all reasons in their order: a prefix with two secrets at a class, and then a limit that the wide
-- settings pass
abbrev pub reasons : (from to : List ConfigEntry) → List PlanNo
reasons from to = clash_reasons (clashes_at (classes_of from to) from to)
    ++ limit_reasons (amounts (wide_rows from to))

-- the plan where there is no reason against it, and else the first reason; want of memory may take
-- the place of either
abbrev pub Plans : (from to : List ConfigEntry) → (replicas : ℕ) → Result Plan PlanNo → Type 0
Plans from to replicas (Ok plan) = (reasons from to ≡ []) × IsPlan from to replicas plan
Plans from to replicas (Err (SecretClash class who)) =
    first (reasons from to) ≡ Some (SecretClash class who)
Plans from to replicas (Err (TooMany counted number)) =
    first (reasons from to) ≡ Some (TooMany counted number)
Plans from to replicas (Err NoMemory) = ⊤
