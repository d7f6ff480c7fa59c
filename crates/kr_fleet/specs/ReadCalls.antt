-- `read`: an Adopt, a Fetch, a LetGo. What is found is unsealed by the adopted configuration, and
-- is the content at the path.
use Rattle.std.specs.Prelude.{◌≡◌, ◌⊎◌, ℕ, List, ◌++◌, Some, Result, Ok, Err, ⊤}
use Rattle.kr_config.specs.declared.who.Who.{Who}
use Rattle.kr_kms.specs.Calls.{Link}
use Rattle.kr_kms.specs.Opens.{Opens}
use Rattle.kr_provider.specs.Envelopes.{Envelope, IsEnvelopeOf}
use Rattle.kr_provider.specs.Publication.{Publication, list_at}
use Rattle.kr_provider.specs.Reading.{Reading, data_of, refused}
use Rattle.kr_provider.specs.Unsealing.{UnsealsBy}
use Rattle.kr_provider.specs.declared.refusal.Opened.{Opened}
use Rattle.kr_provider.specs.declared.refusal.UnsealNo.{UnsealNo}
use Rattle.kr_provider.specs.declared.refusal.UnsealNo.TheVariants as unsealing
use Rattle.kr_provider.specs.declared.refusal.ValueNo.{ValueNo}
use Rattle.kr_provider.specs.declared.refusal.ValueNo.TheVariants.{NoProvider, LooksEncrypted, TooLarge}
use Rattle.kr_store.specs.declared.rows.Row.{Row}
use Rattle.kr_rollout.specs.declared.answer.Answer.TheVariants as answer
use Rattle.kr_rollout.specs.declared.event.Event.TheVariants as event
use Rattle.kr_rollout.specs.declared.opening.Entry.{Entry}
use Rattle.kr_rollout.specs.declared.opening.Opening.{Opening}
use Rattle.kr_history.specs.Acting.{Caller, AddsEntry}
use Rattle.kr_history.specs.Contents.{IsContent}
use Rattle.kr_history.specs.ContentLaws.{NamesNoPlugin}
use Rattle.kr_history.specs.Honesty.{IsHonestAt}
use Rattle.kr_history.specs.declared.call.CallNo.{CallNo}
use Rattle.kr_fleet.specs.CallForms.{FindsWhere}
use Rattle.kr_fleet.specs.declared.outcome.Read.{Read}
use Rattle.kr_history.specs.Calls.{EndsEarly, HoldsMeanwhile}

-- ---- the content at the path

-- what a value of a row can't be refused for: a live row has a provider, and the others are
-- refusals of data
abbrev pub IsOfValue : ValueNo → Type 0
IsOfValue NoProvider = ⊥
IsOfValue LooksEncrypted = ⊥
IsOfValue TooLarge = ⊥
IsOfValue why = ⊤

-- this is the content, whatever sources open to, where no configuration of the history names a
-- plugin
abbrev pub IsKnownContent : Opening → (history : List Entry) → (path : List ℕ) → Reading → Type 0
IsKnownContent o history path reading =
    (opens : Opens) → NamesNoPlugin o history → IsContent opens o history path (Some reading)

-- where a value was read, or the row that was found reads as a refusal, this is said of the content
abbrev pub IsContentOf : Result Opened UnsealNo → (Reading → Type 0) → Type 0
IsContentOf (Ok opened) Is = Is (data_of opened.plain)
IsContentOf (Err (unsealing.Refused why)) Is = IsOfValue why × Is (refused why)
IsContentOf (Err why) Is = ⊤

-- this is the content by any sources' openings by which what stands at the path is honest and the
-- value's source is what it was unwrapped to; a value that no plugin reads has none
abbrev pub IsContentByAny : Opening → List Entry → (list : List Who) → (path bytes : List ℕ)
    → Envelope → Reading → Type 0
IsContentByAny o history list path bytes envelope reading = (opens : Opens)
    → IsHonestAt opens path history → IsEnvelopeOf opens list bytes envelope
    → IsContent opens o history path (Some reading)

-- ---- the call

module _ {L : Type 0} (link : L → Link) (path : List ℕ) where
  -- so is what the bench read, with the source that it had
  abbrev pub IsReadByAny : Opening → List Entry → (p : Publication) → (row : Row)
      → (olds news : List L) → (opened : Result Opened UnsealNo)
      → UnsealsBy link p.seeds (list_at p row.resource) path row.stored olds opened news
      → Type 0
  IsReadByAny o history p row olds news (Ok opened) unsealed = IsContentByAny o history
      (list_at p row.resource) path row.stored unsealed.envelope (data_of opened.plain)
  IsReadByAny o history p row olds news (Err (unsealing.Refused why)) unsealed =
      IsContentByAny o history (list_at p row.resource) path row.stored unsealed.envelope
      (refused why)
  IsReadByAny o history p row olds news (Err (unsealing.PluginFailed name)) unsealed = ⊤
  IsReadByAny o history p row olds news (Err unsealing.NoMemory) unsealed = ⊤

  -- the row of the path was found, by an entry that names the configuration, and this is what the
  -- bench answers of its value; it is the content before the Fetch
  pub record FindsRow (p : Publication) (old : Caller) (olds : List L) (row : Row)
      (opened : Result Opened UnsealNo) (new : Caller) (news : List L) : Type 0 where
    pub found : AddsEntry old (event.Fetch path) (answer.Found row) new
    pub named : found.entry.published ≡ Some p
    pub unseals : UnsealsBy link p.seeds (list_at p row.resource) path row.stored olds opened
        news
    pub content : IsContentOf opened
        (IsKnownContent old.opening (old.seen ++ found.others) path)
    pub by_any : IsReadByAny old.opening (old.seen ++ found.others) p row olds news opened unseals

  abbrev pub FindsValue : Publication → Caller → List L → Result Opened UnsealNo → Caller → List L
      → Type 0
  FindsValue p old olds opened new news = (row : Row) × FindsRow p old olds row opened new news

  -- by a held configuration
  abbrev pub Finds : Publication → Caller → List L → Result Read CallNo → Caller → List L → Type 0
  Finds p old olds result new news = FindsWhere path old new
      (λ row opened. FindsRow p old olds row opened new news) (news ≡ olds) result

  abbrev pub IsRead : (replica : ℕ) → Caller → List L → Result Read CallNo → Caller → List L
      → Type 0
  IsRead replica old olds result new news = EndsEarly replica (news ≡ olds) old result new
      ⊎ HoldsMeanwhile (λ number p from done to. Finds p from olds done to news) replica old result
      new
