-- Configurations that are loaded one behind another, while a tape may be out.
use Rattle.std.proofs.Common.{◌≡◌, ℕ, suc, ◌+◌, ◌≤◌, List, [], ◌∷◌, ◌++◌, length, drop, slice_get, Option, Some, Result, Ok, Err, refl, sym, ◌∙◌, ap, subst, inl, inr, drop-cons, add-one}
use Rattle.std.proofs.lemmas.List.{drop_all}
use Rattle.std.proofs.lemmas.Option.{slice_get_within, get_or_from_slice_get}
use Rattle.kr_config.specs.Kept.{ConfigEntry, rows_of}
use Rattle.kr_config.specs.declared.settings.Settings.{Settings}
use Rattle.kr_kms.specs.Outside.{Outside, KeepsFiles, KeepsObjects}
use Rattle.kr_kms.specs.declared.world.WorldCall.TheVariants.{File}
use Rattle.kr_cmd_steps.specs.Environment.{Environment, with_world}
use Rattle.kr_cmd_steps.specs.Phases.{configuration}
use Rattle.kr_cmd_steps.specs.StoreSteps.{configurations}
use Rattle.kr_cmd_steps.specs.inner.Lent.{Tapes, with_tapes}
use Rattle.kr_cmd_steps.specs.inner.Phases.{Does, AskedFor, Configures, rows_in}
use Rattle.kr_cmd_messages.specs.declared.refusal.Stop.{Stop}
use Rattle.kr_cmd_messages.specs.declared.refusal.Stop.TheVariants.{Words, Refused, Fault, NoMemory}
use Rattle.kr_cmd_steps.proofs.RunTo.{reach, goes_on, stops, configures, home_refl}

-- ---- one of them

module _ {old new : Outside} (files : KeepsFiles old new) (objects : KeepsObjects old new)
    (tapes : Tapes) (a : Environment) where
  moved : (name : List ℕ) (result : Result Settings Stop) → Configures old new name result
      → Configures (with_tapes tapes old) (with_tapes tapes new) name result
  moved name (Ok settings) c = c
  moved name (Err (Words why)) c = c
  moved name (Err other) c = c

  pub configures_behind : (name : List ℕ) (result : Result Settings Stop)
      → Configures old new name result → AskedFor old.asked new.asked (File name) result
      → Does (configuration name) (with_world (with_tapes tapes old) a)
      (with_world (with_tapes tapes new) a) (rows_in result)
  configures_behind name result c q =
      configures {old = with_tapes tapes old} {new = with_tapes tapes new}
      (record { file = files.file; later = files.later })
      (record { dice = objects.dice; tapes = refl; links = objects.links }) a name result
      (moved name result c) q

-- ---- all of them

pub no_room : (rows : List (Option (List ConfigEntry))) (names : List (List ℕ)) (a : Environment)
    → Does (configurations rows names) a a (Err NoMemory)
no_room rows [] a =
    record { home = home_refl a; ends = λ left s. inr (reach left (inl (refl, refl)) s) }
no_room rows (name ∷ names) a =
    record { home = home_refl a; ends = λ left s. inr (reach left (inl (refl, refl)) s) }

-- so many are loaded, and what the rest does completes it
pub record IsLoading (names : List (List ℕ)) (number : ℕ) (rows : List (Option (List ConfigEntry)))
    (old mid : Outside) : Type 0 where
  pub objects : KeepsObjects old mid
  pub onward : (tapes : Tapes) (a new : Environment) (result : Result (List (Option (List ConfigEntry))) Stop)
      → Does (configurations rows (drop number names)) (with_world (with_tapes tapes mid) a) new
      result
      → Does (configurations [] names) (with_world (with_tapes tapes old) a) new result

pub loads_none : (names : List (List ℕ)) (world : Outside) → IsLoading names 0 [] world world
loads_none names world = record {
  objects = record { dice = refl; tapes = refl; links = refl };
  onward = λ tapes a new result d. d;
}

same_objects : {a b c : Outside} → KeepsObjects a b → KeepsObjects b c → KeepsObjects a c
same_objects p q = record {
  dice = q.dice ∙ p.dice;
  tapes = q.tapes ∙ p.tapes;
  links = q.links ∙ p.links;
}

module _ {names : List (List ℕ)} {number : ℕ} {rows : List (Option (List ConfigEntry))}
    {old mid : Outside} (so_far : IsLoading names number rows old mid) where
  module _ {new : Outside} (name : List ℕ) (there : Some name ≡ slice_get names number)
      (files : KeepsFiles mid new) (objects : KeepsObjects mid new) where
    next_name : drop number names ≡ name ∷ drop (number + 1) names
    next_name = drop-cons names number name (slice_get_within names number name (sym there))
        ∙ ap (λ n. n ∷ drop (suc number) names)
        (get_or_from_slice_get names number name name (sym there))
        ∙ ap (λ k. name ∷ drop k names) (sym (add-one number))

    pub keeps_all : KeepsObjects old new
    keeps_all = same_objects so_far.objects objects

    pub loads_more : (settings : Settings) → Configures mid new name (Ok settings)
        → AskedFor {T = Settings} mid.asked new.asked (File name) (Ok settings)
        → IsLoading names (number + 1) (rows ++ Some (rows_of settings.entries.0) ∷ []) old new
    loads_more settings c q = record {
      objects = keeps_all;
      onward = λ tapes a end result d. so_far.onward tapes a end result
          (subst (λ l. Does (configurations rows l) (with_world (with_tapes tapes mid) a) end result)
          (sym next_name)
          (goes_on (configuration name)
          (λ r. configurations (rows ++ Some r ∷ []) (drop (number + 1) names))
          (rows_of settings.entries.0)
          (configures_behind files objects tapes a name (Ok settings) c q) d));
    }

    pub loads_not : (stop : Stop) → Configures mid new name (Err stop)
        → AskedFor {T = Settings} mid.asked new.asked (File name) (Err stop)
        → (tapes : Tapes) (a : Environment)
        → Does (configurations [] names) (with_world (with_tapes tapes old) a)
        (with_world (with_tapes tapes new) a) (Err stop)
    loads_not stop c q tapes a = so_far.onward tapes a _ (Err stop)
        (subst (λ l. Does (configurations rows l) (with_world (with_tapes tapes mid) a)
        (with_world (with_tapes tapes new) a) (Err stop)) (sym next_name)
        (stops (configuration name)
        (λ r. configurations (rows ++ Some r ∷ []) (drop (number + 1) names)) stop
        (configures_behind files objects tapes a name (Err stop) c q)))

  pub lacks_room : (tapes : Tapes) (a : Environment)
      → Does (configurations [] names) (with_world (with_tapes tapes old) a)
      (with_world (with_tapes tapes mid) a) (Err NoMemory)
  lacks_room tapes a = so_far.onward tapes a _ (Err NoMemory)
      (no_room rows (drop number names) (with_world (with_tapes tapes mid) a))

  pub loads_all : length names ≤ number → (tapes : Tapes) (a : Environment)
      → Does (configurations [] names) (with_world (with_tapes tapes old) a)
      (with_world (with_tapes tapes mid) a) (Ok rows)
  loads_all whole tapes a =
      let now : Environment = with_world (with_tapes tapes mid) a in
      so_far.onward tapes a now (Ok rows)
      (subst (λ l. Does (configurations rows l) now now (Ok rows))
      (sym (drop_all number names whole))
      (record {
        home = home_refl now;
        ends = λ left s. reach left (inr (tt, tt, (refl, refl))) s;
      }))
