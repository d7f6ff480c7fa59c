-- A row that is added to the rows on a tape that is out, by what the tape tells afterwards.
use Rattle.std.proofs.Common.{◌≡◌, ℕ, ◌<◌, ◌≤◌, List, [], ◌∷◌, ◌++◌, length, Bool, Option, Ok, Err, refl, sym, ap, subst, inl, inr}
use Rattle.std.specs.Prelude.{if◌then◌else◌}
use Rattle.std.proofs.lemmas.Bool.{le-ltb, lt-ltb}
use Rattle.kr_base.specs.Faults.{Rose}
use Rattle.kr_base.specs.Limits.{store_limit}
use Rattle.kr_store.specs.File.{file_bytes}
use Rattle.kr_store.specs.declared.rows.LogRow.{LogRow}
use Rattle.kr_cmd_steps.specs.Environment.{Environment}
use Rattle.kr_cmd_steps.specs.Phases.{adding, by_result, within_limit}
use Rattle.kr_cmd_steps.specs.Steps.{Steps, write_row, give, and_then, writing, refuses, StepState, RunTo, Point, with_told}
use Rattle.kr_cmd_steps.specs.StoreFiles.{Stored, with_row, HoldsRows, BeginsWith}
use Rattle.kr_cmd_messages.specs.declared.refusal.Limit.TheVariants as limit
use Rattle.kr_cmd_messages.specs.declared.refusal.Object.{Object}
use Rattle.kr_cmd_messages.specs.declared.refusal.Refusal.TheVariants.{Limit}
use Rattle.kr_cmd_messages.specs.declared.refusal.Stop.TheVariants.{Refused, Fault, NoMemory}
use Rattle.kr_cmd_steps.specs.inner.Lent.{with_lent_tape}
use Rattle.kr_cmd_steps.specs.inner.Phases.{Does}
use Rattle.kr_cmd_steps.proofs.RunTo.{reach}
use Rattle.kr_cmd_steps.proofs.Loading.{count_here, counted_tape, home_retold, retold, tape_home, tape_rose}

module _ (object : Object) (name : List ℕ) (store : Stored) (row : LogRow)
    (told after : Option (List ℕ)) (before count : ℕ) (later : before ≤ count) (a : Environment) where
  abbrev Old : Environment
  Old = with_lent_tape name told before a

  abbrev grown : Stored
  grown = with_row row store

  abbrev size : ℕ
  size = length (file_bytes store.format (store.rows ++ row ∷ []))

  abbrev next : Stored → Steps Stored
  next whole = write_row object name store row (give whole)

  small : size ≤ store_limit → within_limit grown ≡ Ok grown
  small short = ap (λ (q : Bool). if q then Err (Limit limit.Store) else Ok grown)
      (le-ltb store_limit size short)

  large : store_limit < size → within_limit grown ≡ Err (Limit limit.Store)
  large long = ap (λ (q : Bool). if q then Err (Limit limit.Store) else Ok grown)
      (lt-ltb store_limit size long)

  passes : {left end : StepState} {point : Point Stored} → size ≤ store_limit
      → RunTo point end (next grown) left → RunTo point end (adding object name store row) left
  passes {left} {end} {point} short goes = inr (
    tt,
    tt,
    subst (λ r. RunTo point end (and_then (by_result r) next) left) (sym (small short)) goes,
  )

  pub row_is_added : HoldsRows grown after → size ≤ store_limit
      → Does (adding object name store row) Old (with_lent_tape name after count a) (Ok grown)
  row_is_added holds short = record {
    home = home_retold name told before a after count later;
    ends = λ left s. reach (with_told name after left) (passes short (inr (
      after,
      holds,
      (refl, refl),
    ))) (retold name told before a after count later s);
  }

  pub row_is_torn : BeginsWith store after → Rose before count → size ≤ store_limit
      → Does (adding object name store row) Old (with_lent_tape name after count a)
      (Err (Fault object count))
  row_is_torn begins rose short = record {
    home = home_retold name told before a after count later;
    ends = λ left s. (
      writing object name,
      reach (with_told name after left) (passes short (inl (
        after,
        begins,
        (refl, refl),
      ))) (retold name told before a after count later s),
      (refl, tape_rose name told before a count rose, sym (count_here name told before a count)),
    );
  }

  pub row_is_above : store_limit < size
      → Does (adding object name store row) Old (with_lent_tape name told count a)
      (Err (Refused (Limit limit.Store)))
  row_is_above long = record {
    home = tape_home name told before a count later;
    ends = λ left s. reach left (inr (
      tt,
      tt,
      subst (λ r. RunTo (refuses (Limit limit.Store)) left (and_then (by_result r) next) left)
          (sym (large long)) (refl, refl),
    )) (counted_tape name told before a count later s);
  }

  pub row_is_lacking : Does (adding object name store row) Old (with_lent_tape name told count a)
      (Err NoMemory)
  row_is_lacking = record {
    home = tape_home name told before a count later;
    ends = λ left s. inr (reach left (inl (refl, refl))
        (counted_tape name told before a count later s));
  }
