-- What a verdict that passes means, and of which moment.
use Rattle.std.specs.Prelude.{◌≡◌, ◌≢◌, ◌↔◌, ℕ, false, List, [], ◌∷◌, ◌++◌, Contains, Option, None, Some, ⊤}
use Rattle.kr_store.specs.declared.rows.Row as stored_row
use Rattle.kr_store.specs.Rows.{live}
use Rattle.kr_config.specs.declared.class.Class.{Class}
use Rattle.kr_config.specs.declared.who.Who.{Who}
use Rattle.kr_config.specs.Kept.{ConfigEntry}
use Rattle.kr_config.specs.Lists.{list_of, class_list}
use Rattle.kr_provider.specs.Publication.{Publication, writer_at}
use Rattle.kr_provider.specs.Readers.{reader_in}
use Rattle.kr_judge.specs.declared.verdict.Verdict.TheVariants.{Pass}
use Rattle.kr_judge.specs.Fits.{ReadsWriter}
use Rattle.kr_judge.specs.Lacks.{IsNeeded}
use Rattle.kr_judge.specs.Verdicts.{verdict_of}
use Rattle.kr_judge.specs.declared.need.Need.{Need}
use Rattle.kr_opening.specs.ReplicaLaws.{AreOfAnother}
use Rattle.kr_opening.specs.Starts.{opening_generations}
use Rattle.kr_rollout.specs.declared.line.Did.{Did}
use Rattle.kr_rollout.specs.declared.line.Did.TheVariants.{Put, Reload, Join}
use Rattle.kr_rollout.specs.declared.line.Gave.TheVariants.{Written}
use Rattle.kr_rollout.specs.declared.opening.Entry.{Entry}
use Rattle.kr_rollout.specs.declared.opening.Opening.{Opening}
use Rattle.kr_rollout.specs.Callers.{brings_settings}
use Rattle.kr_rollout.specs.Histories.{state_of, IsLegal}
use Rattle.kr_rollout.specs.Judgements.{IsDone}
use Rattle.kr_rollout.specs.States.{State, verdict_on}
use Rattle.kr_history.specs.LackLaws.{IsStoredUnder, AreBeside}

-- Settings read each object that is stored, and what others write; and each of these others reads
-- what they write.
pub record ReadsAll (Stored : (resource : List ℕ) → Who → Type 0)
    (Other : List ConfigEntry → Type 0) (rows : List ConfigEntry) : Type 0 where
  pub stored : (resource : List ℕ) (who : Who) → Stored resource who
      → Contains (list_of rows resource) who
  pub written : (other : List ConfigEntry) (class : Class) → Other other
      → ReadsWriter (class_list other class) (class_list rows class)
  pub are_read : (other : List ConfigEntry) (class : Class) → Other other
      → ReadsWriter (class_list rows class) (class_list other class)

-- New settings of a replica do so at a moment: of the objects that are stored then, and beside every
-- other live configuration. The replica's own one is among these only while a call holds it.
abbrev pub ReadAt : State → (replica : ℕ) → List ConfigEntry → Type 0
ReadAt st replica rows = ReadsAll (IsStoredUnder st) (AreBeside st replica) rows

-- in a legal history the verdict passes exactly where they do
abbrev pub PassMeansRead : Type 0
PassMeansRead = (o : Opening) (history : List Entry) (replica : ℕ) (rows : List ConfigEntry)
    → IsLegal o history
    → (verdict_on (state_of o history) replica rows ≡ Pass)
    ↔ ReadAt (state_of o history) replica rows

-- so does the verdict that `judge` asks for: on a replica's new settings, over the needs of what is
-- stored, and beside the settings of the other replicas that are in
abbrev pub JudgeMeansRead : Type 0
JudgeMeansRead = (needs : List Need) (replicas : List (Option (List ConfigEntry))) (replica : ℕ)
    (rows : List ConfigEntry)
    → (verdict_of needs (opening_generations 0 replicas) replica rows ≡ Pass)
    ↔ ReadsAll (IsNeeded needs) (AreOfAnother replicas replica) rows

-- what an event gives a replica does
abbrev pub ReadsWhatIsThere : Did → State → Type 0
ReadsWhatIsThere (Reload replica p expect) st = ReadAt st replica p.rows
ReadsWhatIsThere (Join replica p) st = ReadAt st replica p.rows
ReadsWhatIsThere did st = ⊤

-- so each Reload and each Join that is done reads what was there just before it
abbrev pub DoneMeansRead : Type 0
DoneMeansRead = (o : Opening) (history : List Entry) (e : Entry) → IsLegal o (history ++ e ∷ [])
    → IsDone e.line.gave → ReadsWhatIsThere e.line.did (state_of o history)

-- A pass is of its moment: where a value is put by a configuration, the verdict on settings that
-- don't list its writer refuses from then on, whatever it was before. So a pass promises nothing of
-- what the replica itself writes by its old configuration before it takes up the new one.
abbrev pub PassIsOfItsMoment : Type 0
PassIsOfItsMoment = (o : Opening) (history : List Entry) (e : Entry) (path resource plain : List ℕ)
    (revision : ℕ) (p : Publication) (replica : ℕ) (rows : List ConfigEntry)
    → IsLegal o (history ++ e ∷ []) → e.line.did ≡ Put path resource plain
    → e.line.gave ≡ Written revision → e.published ≡ Some p
    → (¬ Contains (list_of rows resource) (writer_at p resource))
    → verdict_on (state_of o (history ++ e ∷ [])) replica rows ≢ Pass

-- One such history: the verdict on the settings passes; then nobody brings any, a call writes by the
-- configuration that its replica has; and what is stored then no provider of the settings reads.
pub record PassThenLoss : Type 0 where
  pub opening : Opening
  pub replica : ℕ
  pub rows : List ConfigEntry
  pub passes : verdict_on (state_of opening []) replica rows ≡ Pass
  pub meanwhile : List Entry
  pub legal : IsLegal opening meanwhile
  pub none_brought : (e : Entry) → Contains meanwhile e → brings_settings e.line.did ≡ false
  pub path : List ℕ
  pub row : stored_row.Row
  pub stored : live (state_of opening meanwhile).rows path ≡ Some row
  pub unread : reader_in (list_of rows row.resource) row.stored ≡ None
