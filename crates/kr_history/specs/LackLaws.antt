-- Laws of what is refused: the configurations after which one would lack a provider.
use Rattle.std.specs.Prelude.{◌≡◌, ◌≢◌, ◌↔◌, ◌⊎◌, ℕ, List, [], ◌∷◌, ◌++◌, Contains, Some, ⊤}
use Rattle.std.specs.Option.{option_map}
use Rattle.kr_store.specs.declared.rows.Row as stored_row
use Rattle.kr_store.specs.Rows.{live}
use Rattle.kr_config.specs.declared.who.Who.{Who}
use Rattle.kr_config.specs.Kept.{ConfigEntry}
use Rattle.kr_judge.specs.declared.verdict.Verdict.TheVariants.{Pass}
use Rattle.kr_judge.specs.Boards.{need_at}
use Rattle.kr_judge.specs.Lacks.{LacksProvider}
use Rattle.kr_rollout.specs.declared.line.Did.{Did}
use Rattle.kr_rollout.specs.declared.line.Did.TheVariants.{Reload, Join}
use Rattle.kr_rollout.specs.declared.line.Gave.{Gave}
use Rattle.kr_rollout.specs.declared.line.Gave.TheVariants.{Refused, Reloaded, Joined, Nothing}
use Rattle.kr_rollout.specs.declared.opening.Entry.{Entry}
use Rattle.kr_rollout.specs.declared.opening.Opening.{Opening}
use Rattle.kr_rollout.specs.Entries.{published_at}
use Rattle.kr_rollout.specs.Fits.{IsFit}
use Rattle.kr_rollout.specs.Histories.{state_of, IsLegal}
use Rattle.kr_rollout.specs.Judgements.{MayBeJudged, judged_state}
use Rattle.kr_rollout.specs.States.{State, current_of, verdict_on}

-- an object of the resource lives at the path, and its value needs the provider
abbrev pub IsStoredAt : State → (path resource : List ℕ) → Who → Type 0
IsStoredAt st path resource who = (row : stored_row.Row)
    × (live st.rows path ≡ Some row) × (row.resource ≡ resource)
    × (need_at st.needs path ≡ Some (record { path = path; resource = resource; who = who }))

-- at some path
abbrev pub IsStoredUnder : State → (resource : List ℕ) → Who → Type 0
IsStoredUnder st resource who = (path : List ℕ) × IsStoredAt st path resource who

-- a generation that stays live where the replica is given another: it is another replica's current
-- one, or a seat holds it
abbrev pub IsBeside : State → (replica number : ℕ) → Type 0
IsBeside st replica number =
    ((other : ℕ) × (other ≢ replica) × (current_of st other ≡ Some number))
    ⊎ Contains st.held (Some number)

-- its settings
abbrev pub AreBeside : State → (replica : ℕ) → List ConfigEntry → Type 0
AreBeside st replica rows = (number : ℕ) × IsBeside st replica number
    × (option_map (λ p. p.rows) (published_at st.generations (Some number)) ≡ Some rows)

-- with the settings as the replica's, one would lack a provider: they that of an object that lives,
-- or of what another live generation writes, or another the one with which they write
abbrev pub OneLacks : State → (replica : ℕ) → List ConfigEntry → Type 0
OneLacks st replica rows = LacksProvider (IsStoredUnder st) (AreBeside st replica) rows

-- in a legal history the verdict refuses exactly such settings
abbrev pub VerdictRefusesExactly : Type 0
VerdictRefusesExactly = (o : Opening) (history : List Entry) (replica : ℕ) (rows : List ConfigEntry)
    → IsLegal o history
    → (verdict_on (state_of o history) replica rows ≢ Pass)
    ↔ OneLacks (state_of o history) replica rows

-- what is judged would leave one without a provider
abbrev pub LeavesLack : Did → State → Type 0
LeavesLack (Reload replica p expect) st = OneLacks st replica p.rows
LeavesLack (Join replica p) st = OneLacks st replica p.rows
LeavesLack did st = ⊥

-- refused is where one would lack a provider, so that the state after it wouldn't fit; done is
-- where none would, and that fits. Want of memory tells neither
abbrev pub AnswersExactly : Gave → (Lacks Fits : Type 0) → Type 0
AnswersExactly (Refused verdict) Lacks Fits = Lacks × (¬ Fits)
AnswersExactly (Reloaded number) Lacks Fits = Fits × (¬ Lacks)
AnswersExactly (Joined number) Lacks Fits = Fits × (¬ Lacks)
AnswersExactly Nothing Lacks Fits = ⊤
AnswersExactly gave Lacks Fits = ⊥

-- each Reload and each Join that is judged is answered so
abbrev pub RefusedExactly : Type 0
RefusedExactly = (o : Opening) (history : List Entry) (e : Entry) → IsLegal o (history ++ e ∷ [])
    → MayBeJudged e.line.did (state_of o history)
    → AnswersExactly e.line.gave (LeavesLack e.line.did (state_of o history))
    (IsFit (judged_state e.line.did (state_of o history)))
