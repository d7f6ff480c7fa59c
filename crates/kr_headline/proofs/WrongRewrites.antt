-- What no rewrite tells, by the second page.
use Rattle.std.specs.Prelude.{◌≢◌, All, cond, count_by}
use Rattle.std.proofs.Common.{◌≡◌, ℕ, Bool, true, false, List, [], ◌∷◌, ◌++◌, Some, refl, ap, subst, arith}
use Rattle.std.proofs.lemmas.Bool.{false≢true}
use Rattle.std.proofs.lemmas.List.Elements.{All-cons, All-head, All-nil, All-tail}
use Rattle.std.proofs.lemmas.List.Sums.{sum_by-cons}
use Rattle.kr_provider.specs.Envelopes.{Envelope}
use Rattle.kr_provider.specs.Publication.{Publication}
use Rattle.kr_store.specs.declared.rows.Row.{Row}
use Rattle.kr_rewrite.specs.Drives.{capped_count, is_fresh, is_left, is_rewritten, path_of}
use Rattle.kr_rewrite.specs.declared.outcome.Step as met_row
use Rattle.kr_rewrite.specs.declared.outcome.Step.TheVariants as met
use Rattle.kr_rollout.specs.declared.line.Gave.TheVariants as gave
use Rattle.kr_rollout.specs.declared.opening.Entry.{Entry}
use Rattle.kr_rollout.specs.declared.opening.Opening.{Opening}
use Rattle.kr_script.specs.Fleets.{Worker}
use Rattle.kr_script.specs.declared.script.ScriptLine.TheVariants as line
use Rattle.kr_script.specs.declared.told.Told.{Told}
use Rattle.kr_script.specs.declared.told.Told.TheVariants as told
use Rattle.kr_workers.specs.Configurations.{IsFresh, IsFreshWith}
use Rattle.kr_workers.specs.RewriteParts.{FindsNone, Meets, Passes, Reseals, Walks}
use Rattle.kr_workers.specs.Shapes.{HoldsPart}
use Rattle.kr_workers.specs.declared.files.SettingsFile.{SettingsFile}
use Rattle.kr_workers.specs.Heard.{Heard}
use Rattle.kr_headline.specs.Fleets.{FleetOutside, Readings, run_of}
use Rattle.kr_headline.specs.Headline.{Headline, Run, own_entries}
use Rattle.kr_headline.specs.Sources.{HasSource}
use Rattle.kr_headline.specs.WrongPages.{WrongRewrites}
use Rattle.kr_headline.specs.WrongSeals.{FindsNone as FoundNone}
use Rattle.kr_headline.specs.Values.{sealed_values}
use Rattle.kr_headline.proofs.Sourced.{FreshBy, LeftBy, StaleBy}

-- nothing counts as nothing
pub none_by : (m n : ℕ) → m ≡ capped_count n → n ≡ 0 → m ≡ 0
none_by m n is none = grind arith

-- ---- parts of a list

module _ (P : Entry → Type 0) where
  pub all_front : (xs ys : List Entry) → All P (xs ++ ys) → All P xs
  all_front [] ys all = All-nil P
  all_front (x ∷ xs) ys all = All-cons P x xs (All-head P x (xs ++ ys) all)
      (all_front xs ys (All-tail P x (xs ++ ys) all))

  pub all_behind : (xs ys : List Entry) → All P (xs ++ ys) → All P ys
  all_behind [] ys all = all
  all_behind (x ∷ xs) ys all = all_behind xs ys (All-tail P x (xs ++ ys) all)

  -- those between an Adopt and a LetGo
  pub all_mids : (own : ℕ) (part : List Entry)
      (Is : (p : Publication) → (number : ℕ) → List Entry → Type 0)
      → (o : HoldsPart own part Is) → All P part → All P o.mids
  all_mids own part Is o all = all_front o.mids (o.let_go ∷ []) (All-tail P o.adopt
      (o.mids ++ o.let_go ∷ []) (subst (λ (l : List Entry). All P l) o.part_is all))

-- ---- what it wrote

abbrev Unwritten : Entry → Type 0
Unwritten e = (revision : ℕ) → e.line.gave ≢ gave.Written revision

-- by what is fresh, stale or left
module _ (F S O : Publication → Row → Type 0) where
  no_reseal : (p : Publication) (above path : List ℕ) (to : ℕ) (mids : List Entry)
      → Reseals F S O p above path (gave.Written to) mids → All Unwritten mids → ⊥
  no_reseal p above path to mids r all =
      let both = subst (λ (l : List Entry). All Unwritten l) r.mids_are all in
      All-head Unwritten r.replace [] (All-tail Unwritten r.find (r.replace ∷ []) both) to
      r.replaces.gave_is

  abbrev Holds : ℕ → Publication → Entry → Type 0
  Holds number p e = (e.line.held ≡ Some number) × (e.published ≡ Some p)

  -- a step that passes the test needs an entry that isn't so
  abbrev Never : (P : Entry → Type 0) (test : met_row.Step → Bool) → Type 0
  Never P test = (number : ℕ) (p : Publication) (above : List ℕ) (taken : met_row.Step)
      (mids : List Entry) → test taken ≡ true → All (Holds number p) mids
      → Meets F S O p above taken mids → All P mids → ⊥

  -- so none passes it where all entries are so
  abbrev pub NoneMet : (P : Entry → Type 0) (test : met_row.Step → Bool) → Type 1
  NoneMet P test = (own : ℕ) (above : List ℕ) (met : List met_row.Step)
      (Ends : (above : List ℕ) → List Entry → Type 0) (part : List Entry)
      → Walks F S O own above met Ends part → All P part → count_by test met ≡ 0

  none_met : (P : Entry → Type 0) (test : met_row.Step → Bool) → Never P test → NoneMet P test
  none_met P test never own above [] Ends part w all = refl
  none_met P test never own above (taken ∷ more) Ends part w all =
      let both = subst (λ (l : List Entry). All P l) w.2 all in
      by (test taken) refl (all_front P w.0 w.1 both)
      (none_met P test never own (path_of above taken) more Ends w.1 w.4
      (all_behind P w.0 w.1 both))
    where
      by : (b : Bool) → test taken ≡ b → All P w.0 → count_by test more ≡ 0
          → count_by test (taken ∷ more) ≡ 0
      by true is first rest = absurd (never w.3.number w.3.p above taken w.3.mids is w.3.hold
          w.3.is (all_mids P own w.0 _ w.3 first))
      by false is first rest =
          let here = ap {B = ℕ} (λ b. cond b 1 0) is in
          omega (arith, rest, here, sum_by-cons (λ x. cond (test x) 1 0) taken more)

  never_rewritten : Never Unwritten is_rewritten
  never_rewritten number p above (met.Rewritten path) mids t = λ hold r.
      no_reseal p above path r.0 mids r.1
  never_rewritten number p above other mids t = λ hold r all. absurd (false≢true t)

  none_counted : NoneMet Unwritten is_rewritten
  none_counted = none_met Unwritten is_rewritten never_rewritten

  -- ---- what it passed by

  no_pass : (Is : Publication → Row → Type 0) (number : ℕ) (p : Publication)
      (above path : List ℕ) (mids : List Entry) → All (Holds number p) mids
      → Passes above path (Is p) mids → All (FoundNone Is) mids → ⊥
  no_pass Is number p above path mids hold r all =
      let held = All-head (Holds number p) r.find []
      (subst (λ (l : List Entry). All (Holds number p) l) r.mids_are hold) in
      All-head (FoundNone Is) r.find []
      (subst (λ (l : List Entry). All (FoundNone Is) l) r.mids_are all) p r.finds.row held.1
      r.finds.row_is r.finds.is

  never_fresh : Never (FoundNone F) is_fresh
  never_fresh number p above (met.Fresh path) mids t = no_pass F number p above path mids
  never_fresh number p above other mids t = λ hold r all. absurd (false≢true t)

  pub none_fresh : NoneMet (FoundNone F) is_fresh
  none_fresh = none_met (FoundNone F) is_fresh never_fresh

  never_left : Never (FoundNone O) is_left
  never_left number p above (met.Left path) mids t = no_pass O number p above path mids
  never_left number p above other mids t = λ hold r all. absurd (false≢true t)

  pub none_left : NoneMet (FoundNone O) is_left
  none_left = none_met (FoundNone O) is_left never_left

-- with a source that was had it is so with any
any_fresh : (HadSource : Envelope → Publication → Row → Type 0) (p : Publication) (row : Row)
    → IsFreshWith HadSource p row → IsFresh p row
any_fresh HadSource p row f = (f.0, (f.1.0, f.1.1, f.1.2, tt))

module _ (heard : (worker : ℕ) → Heard) (o : Opening) (files : List SettingsFile)
    (workers : List Worker) (replies : List (List Told)) (history : List Entry)
    (outside : FleetOutside)
    (readings : Readings sealed_values heard o files workers replies history)
    (h : Headline (run_of sealed_values heard o files workers replies history outside readings))
  where
    abbrev run : Run
    run = run_of sealed_values heard o files workers replies history outside readings

    abbrev Ended : ℕ → (above : List ℕ) → List Entry → Type 0
    Ended worker above rest =
        HoldsPart (run.replica_of worker) rest (λ p number. FindsNone above)

    pub wrong_rewrites : WrongRewrites run h
    wrong_rewrites = record {
      counted_unwritten = λ worker at rewritten fresh changed left told_is all some.
          let s = h.tells worker at line.Rewrite (told.Rewritten rewritten fresh changed left)
          told_is in
          some (none_by rewritten (count_by is_rewritten s.0) s.3
          (none_counted (FreshBy (heard worker)) (StaleBy (heard worker)) (LeftBy (heard worker))
          (run.replica_of worker) [] s.0 (Ended worker) (own_entries h.steps worker at) s.1 all));
      counted_stale = λ worker at rewritten fresh changed left told_is all some.
          let s = h.tells worker at line.Rewrite (told.Rewritten rewritten fresh changed left)
          told_is in
          some (none_by fresh (count_by is_fresh s.0) s.4
          (none_fresh (FreshBy (heard worker)) (StaleBy (heard worker)) (LeftBy (heard worker))
          (run.replica_of worker) [] s.0 (Ended worker) (own_entries h.steps worker at) s.1 (λ k e below p row held is f.
          all k e below p row held is (any_fresh (HasSource (heard worker)) p row f))));
      rewrite_got = λ worker at revision bytes told_is.
          h.tells worker at line.Rewrite (told.Got revision bytes) told_is;
    }
