-- What is stored needs the provider by which some settings write: what a rewrite leaves, and what
-- is kept from then on.
use Rattle.std.specs.Prelude.{◌≡◌, ℕ, List, [], ◌∷◌, ◌++◌, Contains, Some, ⊤}
use Rattle.kr_config.specs.declared.class.Class.{Class}
use Rattle.kr_config.specs.Kept.{ConfigEntry}
use Rattle.kr_config.specs.Lists.{list_of, class_list}
use Rattle.kr_judge.specs.declared.need.Need.{Need}
use Rattle.kr_judge.specs.Verdicts.{first}
use Rattle.kr_rollout.specs.declared.line.Did.{Did}
use Rattle.kr_rollout.specs.declared.line.Did.TheVariants.{Reload, Join}
use Rattle.kr_rollout.specs.declared.opening.Entry.{Entry}
use Rattle.kr_rollout.specs.declared.opening.Opening.{Opening}
use Rattle.kr_rollout.specs.Histories.{state_of, IsLegal}
use Rattle.kr_rollout.specs.States.{State, IsLive}
use Rattle.kr_rollout.specs.Written.{IsWritten, path_written}

-- the value needs the provider by which the settings write its resource
abbrev pub NeedsWriter : (to : List ConfigEntry) → Need → Type 0
NeedsWriter to need = first (list_of to need.resource) ≡ Some need.who

-- each value that is stored does
abbrev pub AreSettled : (to : List ConfigEntry) → State → Type 0
AreSettled to st = (need : Need) → Contains st.needs need → NeedsWriter to need

-- that of the path does, where one is stored
abbrev pub IsSettledAt : (to : List ConfigEntry) → State → (path : List ℕ) → Type 0
IsSettledAt to st path = (need : Need) → Contains st.needs need → need.path ≡ path
    → NeedsWriter to need

-- settings write as these do: at every class the first provider is the same
abbrev pub WriteAs : (to rows : List ConfigEntry) → Type 0
WriteAs to rows = (class : Class) → first (class_list rows class) ≡ first (class_list to class)

-- each live configuration does
abbrev pub LiveWrite : (to : List ConfigEntry) → State → Type 0
LiveWrite to st = (rows : List ConfigEntry) → IsLive st rows → WriteAs to rows

-- entries bring no settings but such
abbrev pub BringsWriting : (to : List ConfigEntry) → Did → Type 0
BringsWriting to (Reload replica p expect) = WriteAs to p.rows
BringsWriting to (Join replica p) = WriteAs to p.rows
BringsWriting to did = ⊤

abbrev pub AllWrite : (to : List ConfigEntry) → List Entry → Type 0
AllWrite to [] = ⊤
AllWrite to (e ∷ more) = BringsWriting to e.line.did × AllWrite to more

-- at some moment of these entries the path was settled
abbrev pub WasSettled : (to : List ConfigEntry) → Opening → (history more : List Entry)
    → (path : List ℕ) → Type 0
WasSettled to o history more path = (front : List Entry) × (rest : List Entry)
    × (more ≡ front ++ rest) × IsSettledAt to (state_of o (history ++ front)) path

-- ---- laws. From a moment on at which all live configurations write as `to` does, and while none
-- comes that doesn't

-- that stays so
abbrev pub WritersStay : Type 0
WritersStay = (o : Opening) (history more : List Entry) (to : List ConfigEntry)
    → IsLegal o (history ++ more) → LiveWrite to (state_of o history) → AllWrite to more
    → LiveWrite to (state_of o (history ++ more))

-- a path that is settled stays so, whatever is done
abbrev pub SettledStays : Type 0
SettledStays = (o : Opening) (history more : List Entry) (to : List ConfigEntry) (path : List ℕ)
    → IsLegal o (history ++ more) → LiveWrite to (state_of o history) → AllWrite to more
    → IsSettledAt to (state_of o history) path → IsSettledAt to (state_of o (history ++ more)) path

-- a path at which a row is written is settled
abbrev pub WritingSettles : Type 0
WritingSettles = (o : Opening) (history : List Entry) (e : Entry) (to : List ConfigEntry)
    → IsLegal o (history ++ e ∷ []) → LiveWrite to (state_of o history)
    → IsWritten e.line.gave
    → IsSettledAt to (state_of o (history ++ e ∷ [])) (path_written e.line.did)

-- so where each path was settled at some moment, however it came, all are at the end
abbrev pub AllBecomeSettled : Type 0
AllBecomeSettled = (o : Opening) (history more : List Entry) (to : List ConfigEntry)
    → IsLegal o (history ++ more) → LiveWrite to (state_of o history) → AllWrite to more
    → ((path : List ℕ) → WasSettled to o history more path)
    → AreSettled to (state_of o (history ++ more))
