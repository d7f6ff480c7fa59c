-- What follows from the page alone.
use Rattle.std.specs.Prelude.{All, if◌then◌else◌}
use Rattle.std.specs.Option.{option_map}
use Rattle.std.specs.Str.{bytes_eq}
use Rattle.std.proofs.Common.{◌≡◌, ℕ, Bool, true, false, List, [], ◌∷◌, ◌++◌, Option, None, Some, ◌⊎◌, inl, inr, refl, ap, sym, subst, ◌∙◌, arith}
use Rattle.std.proofs.lemmas.List.Elements.{All-cons, All-head, All-tail}
use Rattle.std.proofs.lemmas.Bool.{false≢true}
use Rattle.std.proofs.lemmas.Option.{none-some, same_Some}
use Rattle.kr_kms.specs.Calls.{Link}
use Rattle.kr_kms.specs.Exchanges.{Exchange}
use Rattle.kr_provider.specs.Publication.{Publication}
use Rattle.kr_provider.specs.Reading.{Reading, data_of, refused}
use Rattle.kr_history.proofs.ContentSteps.{one_path}
use Rattle.kr_rollout.specs.declared.opening.Entry.{Entry}
use Rattle.kr_rollout.specs.declared.line.Did.{Did}
use Rattle.kr_rollout.specs.declared.line.Did.TheVariants as did
use Rattle.kr_rollout.specs.declared.line.Gave.{Gave}
use Rattle.kr_rollout.specs.declared.line.Gave.TheVariants as gave
use Rattle.kr_script.specs.declared.script.ScriptLine.{ScriptLine}
use Rattle.kr_script.specs.declared.script.ScriptLine.TheVariants as line
use Rattle.kr_script.specs.declared.told.Told.{Told}
use Rattle.kr_script.specs.declared.told.Told.TheVariants as told
use Rattle.kr_workers.specs.Changes.{AllowsChange, MayChange}
use Rattle.kr_headline.specs.Consequences.{GotIsPut, GotWasPut, RefusedStood, RefusedStoodThere, WasPut}
use Rattle.kr_headline.specs.Fleets.{run_in}
use Rattle.kr_headline.specs.Headline.{Headline, IsTold, Object, Run, Step, entries_of, object_after}
use Rattle.kr_headline.specs.Values.{sealed_values}
use Rattle.kr_headline.proofs.Folds.{object_from, reading_of}

abbrev bytes_in : Option Reading → List ℕ
bytes_in (Some (data_of bytes)) = bytes
bytes_in other = []

abbrev is_data : Option Reading → Bool
is_data (Some (data_of bytes)) = true
is_data other = false

-- the data that were put there
abbrev put_there : Option Object → Option (List ℕ)
put_there None = None
put_there (Some object) = object.data_put

renewed_same : (revision : ℕ) (now : Option Object)
    → put_there (option_map (λ (it : Object). record it { revision = revision }) now)
    ≡ put_there now
renewed_same revision None = refl
renewed_same revision (Some object) = refl

-- what the step changed is what some line asks and its reply tells
abbrev pub HasLine : Run → Step → Type 0
HasLine run step = (asked : ScriptLine) × (reply : Told)
    × IsTold run step.entry.line.seat step.at asked reply × MayChange run.settings_in
    (run.replica_of step.entry.line.seat) asked reply step.entry

module _ (run : Run) (path bytes : List ℕ) where
  abbrev Found : Option Object → Type 0
  Found now = (put_there now ≡ Some bytes) ⊎ WasPut run path bytes

  -- what one step makes
  module _ (seat at own : ℕ) (asked : ScriptLine) (reply : Told)
      (is_told : IsTold run seat at asked reply) (held : Option ℕ)
      (published : Option Publication) (now : Option Object) where
    put_found : (named resource plain : List ℕ) (revision : ℕ)
        → (asked ≡ line.Put resource named plain) × (reply ≡ told.Put revision) → (b : Bool)
        → bytes_eq named path ≡ b
        → put_there (if b then Some (record { revision = revision; data_put = Some plain })
        else now) ≡ Some bytes → Found now
    put_found named resource plain revision its true same is =
        let asked_is : asked ≡ line.Put resource path bytes =
        its.0 ∙ (λ i. line.Put resource (one_path named path same i) (same_plain i)) in
        inr (record {
          worker = seat;
          at = at;
          resource = resource;
          revision = revision;
          is = (
            is_told.0 ∙ ap (λ (l : ScriptLine). Some l) asked_is,
            is_told.1 ∙ ap (λ (t : Told). Some t) its.1,
          );
        })
      where
        same_plain : plain ≡ bytes
        same_plain = same_Some plain bytes is
    put_found named resource plain revision its false same is = inl is

    delete_found : (b : Bool) → put_there (if b then None else now) ≡ Some bytes → Found now
    delete_found true is = absurd (none-some bytes is)
    delete_found false is = inl is

    replace_found : (revision : ℕ) (b : Bool)
        → put_there (if b then option_map (λ (it : Object). record it { revision = revision }) now
        else now) ≡ Some bytes → Found now
    replace_found revision true is = inl (sym (renewed_same revision now) ∙ is)
    replace_found revision false is = inl is

    step_found : (given : Gave) (done : Did)
        → AllowsChange run.settings_in own asked reply given done held published
        → put_there (object_after given done path now) ≡ Some bytes → Found now
    step_found (gave.Written revision) (did.Put named resource plain) its is =
        put_found named resource plain revision its (bytes_eq named path) refl is
    step_found (gave.Written revision) (did.Delete named) its is =
        delete_found (bytes_eq named path) is
    step_found (gave.Written revision) (did.Replace named from) its is =
        replace_found revision (bytes_eq named path) is
    step_found given done its is = inl is

  steps_found : (now : Option Object) (steps : List Step) → All (HasLine run) steps
      → put_there (object_from path now (entries_of steps)) ≡ Some bytes → Found now
  steps_found now [] all is = inl is
  steps_found now (step ∷ steps) all is =
      by (steps_found (object_after step.entry.line.gave step.entry.line.did path now) steps
      (All-tail (HasLine run) step steps all) is)
    where
      by : Found (object_after step.entry.line.gave step.entry.line.did path now) → Found now
      by (inr put) = inr put
      by (inl same) = let l = All-head (HasLine run) step steps all in
          step_found step.entry.line.seat step.at (run.replica_of step.entry.line.seat) l.0 l.1 l.2
          step.entry.line.held step.entry.published now step.entry.line.gave step.entry.line.did
          l.3 same

front_of : {X : Type 0} (P : X → Type 0) (xs ys : List X) → All P (xs ++ ys) → All P xs
front_of P [] ys all = λ k d within. absurd (omega (arith, within))
front_of P (x ∷ xs) ys all = All-cons P x xs (All-head P x (xs ++ ys) all)
    (front_of P xs ys (All-tail P x (xs ++ ys) all))

-- nothing was put where it stood there at the start
none_put : (revision : Option ℕ) (bytes : List ℕ) → put_there (option_map (λ revision. record {
  revision = revision;
  data_put = None;
}) revision) ≡ Some bytes → ⊥
none_put None bytes is = none-some bytes is
none_put (Some revision) bytes is = none-some bytes is

-- a step is an entry of the history
entries_split : (front : List Step) (step : Step) (rest : List Step)
    → entries_of (front ++ step ∷ rest) ≡ entries_of front ++ step.entry ∷ entries_of rest
entries_split [] step rest = refl
entries_split (x ∷ front) step rest =
    ap (λ (l : List Entry). x.entry ∷ l) (entries_split front step rest)

pub there_in : (run : Run) (h : Headline run) (front : List Step) (step : Step) (rest : List Step)
    → h.steps ≡ front ++ step ∷ rest
    → run.history ≡ entries_of front ++ step.entry ∷ entries_of rest
there_in run h front step rest is =
    sym h.entries_are ∙ ap entries_of is ∙ entries_split front step rest

pub got_is_put : (run : Run) → (h : Headline run) → All (HasLine run) h.steps → GotIsPut run h
got_is_put run h made worker at revision path bytes r truth supposed =
    let f = h.gets worker at path bytes revision r in
    by f.object.data_put refl (f.is truth (supposed f.front f.fetch f.rest f.there f.own f.fetches
    revision f.found))
    (λ plain put. steps_found run path plain (option_map (λ revision. record {
      revision = revision;
      data_put = None;
    }) (run.stood_at_start path)) f.front
    (front_of (HasLine run) f.front (f.fetch ∷ f.rest)
    (subst (λ (l : List Step). All (HasLine run) l) f.there made))
    (ap put_there f.stands ∙ put))
  where
    by : (those : Option (List ℕ)) → those ≡ those
        → reading_of those (run.read_at_start truth path) ≡ Some (data_of bytes)
        → ((plain : List ℕ) → those ≡ Some plain → Found run path plain (option_map (λ revision.
        record { revision = revision; data_put = None }) (run.stood_at_start path)))
        → (run.read_at_start truth path ≡ Some (data_of bytes)) ⊎ WasPut run path bytes
    by None same is found = inl is
    by (Some plain) same is found = subst (λ (b : List ℕ).
        (run.read_at_start truth path ≡ Some (data_of bytes)) ⊎ WasPut run path b)
        (ap bytes_in is) (of_found plain (found plain refl))
      where
        of_found : (those : List ℕ) → Found run path those (option_map (λ revision. record {
          revision = revision;
          data_put = None;
        }) (run.stood_at_start path))
            → (run.read_at_start truth path ≡ Some (data_of bytes)) ⊎ WasPut run path those
        of_found those (inl put) = absurd (none_put (run.stood_at_start path) those put)
        of_found those (inr put) = inr put

refused_stood : (run : Run) → (h : Headline run) → RefusedStood run h
refused_stood run h worker at path why r truth supposed =
    let known = h.refuses worker at path why r in
    let f = known.1 in
    by f.object.data_put (f.is truth (supposed f.front f.fetch f.rest f.there f.own f.fetches
    known.0 f.found))
  where
    by : (those : Option (List ℕ))
        → reading_of those (run.read_at_start truth path) ≡ Some (refused why)
        → run.read_at_start truth path ≡ Some (refused why)
    by None is = is
    by (Some plain) is = absurd (false≢true (sym (ap is_data is)))

module _ (T : Type 0) {L D : Type 0} (link : L → Link) (step : L → Exchange → L → Type 0)
    (count : D → ℕ) where
  pub got_was_put : GotWasPut T link step count
  got_was_put old new files o parts history h =
      got_is_put (run_in sealed_values link step count old new files o parts history h) h.has.headline
      h.has.made

  pub refused_stood_there : RefusedStoodThere T link step count
  refused_stood_there old new files o parts history h =
      refused_stood (run_in sealed_values link step count old new files o parts history h) h.has.headline
