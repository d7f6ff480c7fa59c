-- Each entry of a legal history is answered as the page has it.
use Rattle.std.specs.Prelude.{◌≢◌, ◌<◌, IfSome, IsSome}
use Rattle.std.proofs.Common.{◌≡◌, ℕ, ◌+◌, List, [], ◌∷◌, ◌++◌, length, Option, None, Some, refl, ap, sym, subst, ◌∙◌, arith, length-append}
use Rattle.std.proofs.lemmas.Bool.{false≢true}
use Rattle.std.proofs.lemmas.Option.{none-some, same_Some}
use Rattle.kr_base.specs.Faults.{Rose}
use Rattle.kr_provider.specs.Publication.{Publication}
use Rattle.kr_store.specs.declared.rows.Row.{Row}
use Rattle.kr_store.specs.Rows.{live}
use Rattle.kr_store.proofs.Places.{live_at_revision}
use Rattle.kr_rollout.specs.Answers.{IsExpected}
use Rattle.kr_rollout.specs.Fits.{IsFit}
use Rattle.kr_rollout.specs.Judgements.{AnswersFit, MayBeJudged, judged_state}
use Rattle.kr_rollout.specs.declared.line.Did.{Did}
use Rattle.kr_rollout.specs.declared.line.Did.TheVariants as did
use Rattle.kr_rollout.specs.declared.line.Gave.{Gave}
use Rattle.kr_rollout.specs.declared.line.Gave.TheVariants as gave
use Rattle.kr_rollout.specs.declared.opening.Entry.{Entry}
use Rattle.kr_rollout.specs.declared.opening.Opening.{Opening}
use Rattle.kr_rollout.specs.Histories.{IsLegal, state_of}
use Rattle.kr_rollout.specs.Openings.{start_of}
use Rattle.kr_rollout.specs.States.{State, current_of}
use Rattle.kr_rollout.specs.Entries.{generation_named_by, published_at}
use Rattle.kr_rollout.specs.Steps.{IsStep, after}
use Rattle.kr_opening.specs.declared.generation.Generation.{Generation}
use Rattle.kr_history.proofs.Effects.{entry_with, replaced_row}
use Rattle.kr_script.specs.Fleets.{Worker}
use Rattle.kr_script.specs.declared.told.Told.{Told}
use Rattle.kr_workers.specs.declared.files.SettingsFile.{SettingsFile}
use Rattle.kr_workers.specs.Heard.{Heard}
use Rattle.kr_headline.specs.Fleets.{FleetOutside, Readings, run_of}
use Rattle.kr_headline.specs.Headline.{IsAt, MayAnswer, Object, Run, has_at, stands_at}
use Rattle.kr_headline.specs.Values.{sealed_values}
use Rattle.kr_headline.proofs.Contents.{object_of}
use Rattle.kr_headline.proofs.Folds.{HasExpected, faults_from, revision_from}
use Rattle.kr_headline.proofs.Standing.{faults_are, had_is, latest_is, object_revision, published_last, published_stays, row_revision, stands_alike, state_split}

-- ---- options

pub start_alike : (row : Option Row) → object_revision (object_of row) ≡ row_revision row
start_alike None = refl
start_alike (Some row) = refl

pub none_stands : (now : Option Object) (row : Option Row)
    → object_revision now ≡ row_revision row → row ≡ None → now ≡ None
none_stands None row alike is = refl
none_stands (Some it) row alike is =
    absurd (none-some it.revision (sym (alike ∙ ap row_revision is)))

pub some_lives : (now : Option Object) (row : Option Row)
    → object_revision now ≡ row_revision row → now ≢ None → IsSome row
some_lives now None alike some = absurd (some (none_stands now None alike refl))
some_lives now (Some row) alike some = refl

pub some_stands : (now : Option Object) (row : Option Row)
    → object_revision now ≡ row_revision row → IsSome row → now ≢ None
some_stands now None alike some = absurd (false≢true some)
some_stands None (Some row) alike some = absurd (none-some row.revision alike)
some_stands (Some it) (Some row) alike some = λ none. none-some it (sym none)

-- the row of a revision
pub row_of_revision : (row : Option Row) (revision : ℕ) → row_revision row ≡ Some revision
    → (it : Row) × (row ≡ Some it) × (it.revision ≡ revision)
row_of_revision None revision is = absurd (none-some revision is)
row_of_revision (Some it) revision is = (it, refl, same_Some it.revision revision is)

-- ---- an entry behind a front

module _ (heard : (worker : ℕ) → Heard) (o : Opening) (files : List SettingsFile)
    (workers : List Worker) (replies : List (List Told)) (history : List Entry) (outside : FleetOutside)
    (readings : Readings sealed_values heard o files workers replies history) (front : List Entry)
    (legal : IsLegal o front) where
  abbrev run : Run
  run = run_of sealed_values heard o files workers replies history outside readings

  abbrev st : State
  st = state_of o front

  pub alike : (path : List ℕ)
      → object_revision (stands_at run path front) ≡ row_revision (live st.rows path)
  alike path = stands_alike o front legal path (object_of (live o.rows path))
      (start_alike (live o.rows path))

  had : (replica : ℕ) → has_at run replica front ≡ current_of st replica
  had replica = had_is o front legal replica

  is_at : (path : List ℕ) (row : Row) (revision : ℕ) → live st.rows path ≡ Some row
      → row.revision ≡ revision → IsAt run path front revision
  is_at path row revision is at =
      alike path ∙ ap row_revision is ∙ ap (λ (n : ℕ). Some n) at

  absent : (path : List ℕ) → live st.rows path ≡ None → stands_at run path front ≡ None
  absent path none =
      none_stands (stands_at run path front) (live st.rows path) (alike path) none

  expected : (replica current : ℕ) (expect : Option ℕ) → current_of st replica ≡ Some current
      → IsExpected expect current → HasExpected run replica expect front
  expected replica current expect is ok = λ own same. had replica ∙ is
      ∙ ap (λ (n : ℕ). Some n) (sym (subst (λ x. IsExpected x current) same ok))

  is_in : (replica current : ℕ) → current_of st replica ≡ Some current
      → has_at run replica front ≢ None
  is_in replica current is none = none-some current (sym none ∙ had replica ∙ is)

  module _ (rest : List Entry) (seat : ℕ) (held : Option ℕ) (faults : ℕ)
      (published : Option Publication) (row replaced : Option Row) where
    abbrev entry : Did → Gave → Entry
    entry d g = entry_with seat held faults published row replaced d g

    abbrev Answered : Did → Gave → Type 0
    Answered d g = IsStep o st (entry d g)
        → (MayBeJudged d st → AnswersFit g (IsFit (judged_state d st)))
        → history ≡ front ++ entry d g ∷ rest → MayAnswer run front (entry d g) d g

    -- the configuration of a number that is there behind the entry
    published_then : (d : Did) (g : Gave) → history ≡ front ++ entry d g ∷ rest → (number : ℕ)
        → number < length (after st (entry d g)).generations
        → run.published_of number ≡ published_at (after st (entry d g)).generations (Some number)
    published_then d g w number within =
        ap (λ (l : List Entry). published_at (state_of o l).generations (Some number)) w
        ∙ ap (λ (it : State). published_at it.generations (Some number))
        (state_split (start_of o) front (entry d g) rest)
        ∙ published_stays (after st (entry d g)) rest number within

    adopted_is : (replica number : ℕ)
        → IsStep o st (entry (did.Adopt replica) (gave.Adopted number))
        → history ≡ front ++ entry (did.Adopt replica) (gave.Adopted number) ∷ rest
        → published ≡ run.published_of number
    adopted_is replica number s w =
        ap (λ (e : Entry). e.published) s.payload
        ∙ ap (λ h. published_at (st.generations ++ [])
        (generation_named_by h (gave.Adopted number))) s.answer.0
        ∙ sym (published_then (did.Adopt replica) (gave.Adopted number) w number
        (subst (λ h. IfSome (generation_named_by h (gave.Adopted number))
        (λ n. n < length (st.generations ++ []))) s.answer.0 s.reaches.generation))

    given_is : (d : Did) (g : Gave) (it : Generation) (number : ℕ)
        → history ≡ front ++ entry d g ∷ rest
        → (after st (entry d g)).generations ≡ st.generations ++ it ∷ []
        → number ≡ length st.generations → run.published_of number ≡ Some it.published
    given_is d g it number w after_is last =
        published_then d g w number (omega (
          arith,
          last,
          ap length after_is,
          length-append st.generations (it ∷ []),
        ))
        ∙ ap (λ (gs : List Generation). published_at gs (Some number)) after_is
        ∙ published_last st.generations it number last

    next : (revision : ℕ) → revision ≡ length st.rows + 1
        → revision ≡ revision_from (length o.rows) front + 1
    next revision is = is ∙ ap (λ n. n + 1) (sym (latest_is o front legal))

    rose : Rose st.count faults → Rose (faults_from o.count front) faults
    rose r = subst (λ n. Rose n faults) (sym (faults_are (start_of o) front)) r

    answered : (d : Did) (g : Gave) → Answered d g
    answered (did.Adopt replica) (gave.Adopted number) s fits w =
        (had replica ∙ s.answer.1, adopted_is replica number s w)
    answered (did.Adopt replica) (gave.Gone other) s fits w =
        (s.answer.1, had replica ∙ s.answer.2)
    answered (did.Adopt replica) gave.Nothing s fits w = tt
    answered (did.Fetch path) (gave.Found revision) s fits w = (
      s.answer.1,
      ap (λ (e : Entry). e.row) s.payload
          ∙ replaced_row st.rows [] path revision s.answer.1 s.answer.2 s.answer.3,
      (live_at_revision st.rows path s.answer.1 s.answer.2).1,
      s.answer.3,
      is_at path s.answer.1 revision s.answer.2 s.answer.3,
    )
    answered (did.Fetch path) gave.Absent s fits w = absent path s.answer.1
    answered (did.Fetch path) gave.Nothing s fits w = tt
    answered (did.After above) (gave.Found revision) s fits w =
        let it : Row = s.answer.1 in
        let next_row = s.answer.2 in (
          it,
          ap (λ (e : Entry). e.row) s.payload
              ∙ replaced_row st.rows [] it.path revision it next_row.1 s.answer.3,
          s.answer.3,
          next_row.0,
          is_at it.path it it.revision next_row.1 refl,
          λ path some above_it. next_row.2 path
              (some_lives (stands_at run path front) (live st.rows path) (alike path) some)
              above_it,
        )
    answered (did.After above) gave.Absent s fits w = λ path some. s.answer.1 path
        (some_lives (stands_at run path front) (live st.rows path) (alike path) some)
    answered (did.After above) gave.Nothing s fits w = tt
    answered (did.Put path resource plain) (gave.Written revision) s fits w =
        next revision s.answer.1
    answered (did.Put path resource plain) gave.StoreFailed s fits w = rose s.writes.3
    answered (did.Put path resource plain) (gave.StoreFull needed) s fits w =
        (s.writes.3, (s.writes.0, s.writes.1, s.writes.2))
    answered (did.Put path resource plain) gave.Nothing s fits w = tt
    answered (did.Delete path) gave.Absent s fits w = absent path s.answer
    answered (did.Delete path) (gave.Written revision) s fits w = (
      some_stands (stands_at run path front) (live st.rows path) (alike path) s.answer.0,
      next revision s.answer.1,
    )
    answered (did.Delete path) gave.StoreFailed s fits w = rose s.writes.3
    answered (did.Delete path) (gave.StoreFull needed) s fits w =
        (s.writes.3, (s.writes.0, s.writes.1, s.writes.2))
    answered (did.Delete path) gave.Nothing s fits w = tt
    answered (did.Replace path from) (gave.Written revision) s fits w = (
      is_at path s.answer.1.0 from s.answer.1.1.is s.answer.1.1.revision_is,
      next revision s.answer.2,
    )
    answered (did.Replace path from) (gave.Changed last) s fits w = λ at.
        let r = row_of_revision (live st.rows path) from (sym (alike path) ∙ at) in
        s.answer.1 (r.0, record { is = r.1; revision_is = r.2 })
    answered (did.Replace path from) gave.StoreFailed s fits w = rose s.writes.3
    answered (did.Replace path from) (gave.StoreFull needed) s fits w =
        (s.writes.3, (s.writes.0, s.writes.1, s.writes.2))
    answered (did.Replace path from) gave.Nothing s fits w = tt
    answered did.LetGo gave.Released s fits w = λ none.
        false≢true (subst (λ (h : Option ℕ). IsSome h) none s.answer)
    answered (did.Reload replica p expect) (gave.Reloaded number) s fits w = (
      is_in replica s.answer.0.0 s.answer.0.1,
      expected replica s.answer.0.0 expect s.answer.0.1 s.answer.0.2,
      given_is (did.Reload replica p expect) (gave.Reloaded number)
          (record { replica = replica; published = p }) number w refl s.answer.1.1,
      fits s.answer.0,
      s.answer.1.1,
    )
    answered (did.Reload replica p expect) (gave.Refused verdict) s fits w = (
      is_in replica s.answer.0.0 s.answer.0.1,
      expected replica s.answer.0.0 expect s.answer.0.1 s.answer.0.2,
      fits s.answer.0,
    )
    answered (did.Reload replica p expect) (gave.Moved number) s fits w = (
      had replica ∙ s.answer.0,
      (λ same. s.answer.1 (subst (λ x. IsExpected x number) (sym same) refl)),
      (λ none. s.answer.1 (subst (λ x. IsExpected x number) (sym none) tt)),
    )
    answered (did.Reload replica p expect) (gave.Gone other) s fits w =
        (s.answer.0, had replica ∙ s.answer.1)
    answered (did.Reload replica p expect) gave.Nothing s fits w = tt
    answered (did.Join replica p) (gave.Joined number) s fits w = (
      had replica ∙ s.answer.0,
      given_is (did.Join replica p) (gave.Joined number)
          (record { replica = replica; published = p }) number w refl s.answer.1.1,
      fits s.answer.0,
      s.answer.1.1,
    )
    answered (did.Join replica p) (gave.Refused verdict) s fits w =
        (had replica ∙ s.answer.0, fits s.answer.0)
    answered (did.Join replica p) (gave.Present number) s fits w = had replica ∙ s.answer
    answered (did.Join replica p) gave.Nothing s fits w = tt
    answered (did.Leave replica) (gave.Departed number) s fits w = had replica ∙ s.answer
    answered (did.Leave replica) (gave.Gone other) s fits w =
        (s.answer.0, had replica ∙ s.answer.1)
    answered d g s fits w = absurd s.answer

  pub may_answer : (e : Entry) (rest : List Entry) → history ≡ front ++ e ∷ rest → IsStep o st e
      → (MayBeJudged e.line.did st → AnswersFit e.line.gave (IsFit (judged_state e.line.did st)))
      → MayAnswer run front e e.line.did e.line.gave
  may_answer e rest w s fits = answered rest e.line.seat e.line.held e.line.faults e.published e.row
      e.replaced e.line.did e.line.gave s fits w
