-- Laws of states that fit, and of what is refused so that they do.
use Rattle.std.specs.Prelude.{◌≡◌, ◌≢◌, ◌↔◌, ℕ, ◌<◌, true, List, [], ◌∷◌, ◌++◌, length, Option, None, Some}
use Rattle.kr_store.specs.declared.rows.LogRow.{LogRow}
use Rattle.kr_store.specs.declared.rows.Row as stored_row
use Rattle.kr_store.specs.Rows.{live}
use Rattle.kr_config.specs.declared.who.Who.{Who}
use Rattle.kr_config.specs.Lists.{list_of}
use Rattle.kr_provider.specs.Readers.{is_reader, reader_in}
use Rattle.kr_judge.specs.declared.need.Need.{Need}
use Rattle.kr_judge.specs.Boards.{need_at}
use Rattle.kr_config.specs.Kept.{ConfigEntry}
use Rattle.kr_provider.specs.Publication.{Publication, IsPublished}
use Rattle.kr_judge.specs.declared.verdict.Verdict.{Verdict}
use Rattle.kr_judge.specs.declared.verdict.Verdict.TheVariants.{Pass}
use Rattle.kr_rollout.specs.declared.line.Did.TheVariants.{Reload}
use Rattle.kr_rollout.specs.declared.line.Gave.TheVariants.{Refused}
use Rattle.kr_rollout.specs.declared.opening.Entry.{Entry}
use Rattle.kr_rollout.specs.declared.opening.Opening.{Opening}
use Rattle.kr_opening.specs.declared.opening_board.StartNo.{StartNo}
use Rattle.kr_opening.specs.declared.opening_board.StartNo.TheVariants.{NoMemory}
use Rattle.kr_base.specs.Lines.{of_seat}
use Rattle.kr_rollout.specs.Entries.{published_at, seat_of}
use Rattle.kr_rollout.specs.States.{current_of, verdict_on, IsLive}
use Rattle.kr_rollout.specs.Openings.{first_of, start_of}
use Rattle.kr_opening.specs.Needs.{needs_of, HasNoStray, HasNoOtherSecret}
use Rattle.kr_opening.specs.Replicas.{settings_of}
use Rattle.kr_rollout.specs.Fits.{IsFit}
use Rattle.kr_rollout.specs.Histories.{state_of, IsLegal}
use Rattle.kr_rollout.specs.Callers.{holding}
use Rattle.kr_opening.specs.Starts.{AllFit, MayStart, IsNoStart}
use Rattle.kr_rollout.specs.Judgements.{with_configuration, MayBeJudged, judged_state, IsDone, AnswersFit}

-- in a legal history the state fits
abbrev pub LegalFits : Type 0
LegalFits = (o : Opening) (history : List Entry) → IsLegal o history → IsFit (state_of o history)

-- what a seat holds by its own entries is live
abbrev pub HoldingIsLive : Type 0
HoldingIsLive = (o : Opening) (history : List Entry) (seat number : ℕ) (p : Publication)
    → IsLegal o history → seat < length o.reloads
    → holding (of_seat seat_of seat history) ≡ Some (number, p)
    → IsLive (state_of o history) p.rows

-- what a path needs where this is its live row: a provider that reads the row's value, for its
-- resource; nothing where it has none
abbrev pub IsNeedOf : (path : List ℕ) → Option stored_row.Row → Option Need → Type 0
IsNeedOf path None need = need ≡ None
IsNeedOf path (Some row) need = (who : Who)
    × (need ≡ Some (record { path = path; resource = row.resource; who = who }))
    × (is_reader row.stored who ≡ true)

-- in a legal history all that lives, and nothing else, is needed
abbrev pub NeedsAreLive : Type 0
NeedsAreLive = (o : Opening) (history : List Entry) (path : List ℕ) → IsLegal o history
    → IsNeedOf path (live (state_of o history).rows path)
    (need_at (state_of o history).needs path)

-- so each live generation reads each live row by the provider that it needs
abbrev pub LiveIsReadable : Type 0
LiveIsReadable = (o : Opening) (history : List Entry) (path : List ℕ) (row : stored_row.Row)
    (rows : List ConfigEntry) → IsLegal o history → live (state_of o history).rows path ≡ Some row
    → IsLive (state_of o history) rows
    → (who : Who)
    × (need_at (state_of o history).needs path
    ≡ Some (record { path = path; resource = row.resource; who = who }))
    × (reader_in (list_of rows row.resource) row.stored ≡ Some who)

-- the verdict on a replica's new configuration passes exactly where the state with it fits
abbrev pub VerdictIsExact : Type 0
VerdictIsExact = (o : Opening) (history : List Entry) (replica : ℕ) (p : Publication)
    → IsLegal o history → replica < length o.replicas → IsPublished p
    → (verdict_on (state_of o history) replica p.rows ≡ Pass)
    ↔ IsFit (with_configuration (state_of o history) replica p)

-- so what is judged is refused exactly where the state that it would leave doesn't fit
abbrev pub JudgedByFit : Type 0
JudgedByFit = (o : Opening) (history : List Entry) (e : Entry) → IsLegal o (history ++ e ∷ [])
    → MayBeJudged e.line.did (state_of o history)
    → AnswersFit e.line.gave (IsFit (judged_state e.line.did (state_of o history)))

-- the state that was judged is the one that is left, but for the count of the tape's faults
abbrev pub JudgedStateFollows : Type 0
JudgedStateFollows = (o : Opening) (history : List Entry) (e : Entry)
    → IsLegal o (history ++ e ∷ []) → IsDone e.line.gave
    → state_of o (history ++ e ∷ [])
    ≡ record (judged_state e.line.did (state_of o history)) { count = e.line.faults }

-- a replica that is given its own settings anew, with other seeds or not, is never refused
abbrev pub RefreshIsNotRefused : Type 0
RefreshIsNotRefused = (o : Opening) (history : List Entry) (e : Entry) (replica number : ℕ)
    (p old : Publication) (expect : Option ℕ) (verdict : Verdict)
    → IsLegal o (history ++ e ∷ []) → e.line.did ≡ Reload replica p expect
    → current_of (state_of o history) replica ≡ Some number
    → published_at (state_of o history).generations (Some number) ≡ Some old
    → p.rows ≡ old.rows → e.line.gave ≢ Refused verdict

-- the settings of the replicas that are in fit exactly where the opening's state does
abbrev pub OpeningFits : Type 0
OpeningFits = (o : Opening) → AllFit (settings_of o.replicas) (needs_of (first_of o) o.rows)
    ↔ IsFit (start_of o)

-- so a core may start exactly where each live row has a provider and its check, and the opening's
-- state fits
abbrev pub StartsWhereItFits : Type 0
StartsWhereItFits = (o : Opening) → MayStart o.rows (settings_of o.replicas)
    ↔ (HasNoStray (first_of o) o.rows × HasNoOtherSecret (first_of o) o.rows × IsFit (start_of o))

-- and is refused for want of memory alone where it may
abbrev pub RefusalIsExact : Type 0
RefusalIsExact = (rows : List LogRow) (replicas : List (Option (List ConfigEntry))) (why : StartNo)
    → IsNoStart rows replicas why → MayStart rows replicas → why ≡ NoMemory

-- the cause of a refused start is one alone, want of memory aside
abbrev pub OneCause : Type 0
OneCause = (rows : List LogRow) (replicas : List (Option (List ConfigEntry))) (a b : StartNo)
    → a ≢ NoMemory → b ≢ NoMemory → IsNoStart rows replicas a → IsNoStart rows replicas b → a ≡ b
