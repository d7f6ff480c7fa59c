-- How live rows are read for a watch: a row, rows one behind another, and what is known of the
-- items.
use Rattle.std.specs.Prelude.{◌≡◌, ◌≤◌, ℕ, Bool, true, List, [], ◌∷◌, length, Contains, IfOk, Option, None, Some, Result, Ok, Err, ⊤}
use Rattle.kr_base.specs.Limits.{path_limit, value_limit}
use Rattle.kr_kms.specs.Calls.{Link}
use Rattle.kr_kms.specs.Cache.{CacheState}
use Rattle.kr_kms.specs.Exchanges.{AgreeAll, Exchange}
use Rattle.kr_kms.specs.Opens.{OpenAll, Opens}
use Rattle.kr_base.specs.Walks.{Talk}
use Rattle.kr_provider.specs.AskedLinks.{Among, AskedOnly, HasLinkWith}
use Rattle.kr_provider.specs.Exchanges.{ReadsBy}
use Rattle.kr_provider.specs.Names.{HasLinks, names_of}
use Rattle.kr_provider.specs.Publication.{Publication, list_at}
use Rattle.kr_provider.specs.Reading.{HasReading, HasSomeReading, Reading}
use Rattle.kr_provider.specs.Unsealing.{UnsealsBy}
use Rattle.kr_provider.specs.declared.refusal.Opened.{Opened}
use Rattle.kr_provider.specs.declared.refusal.UnsealNo.{UnsealNo}
use Rattle.kr_provider.specs.declared.refusal.UnsealNo.TheVariants as unseal
use Rattle.kr_store.specs.Stores.{IsListing}
use Rattle.kr_store.specs.declared.rows.LogRow.{LogRow}
use Rattle.kr_store.specs.declared.rows.Row.{Row}
use Rattle.kr_watch.specs.Shown.{plain_in}
use Rattle.kr_watch.specs.declared.item.Item.{Item}
use Rattle.kr_cmd_fleet.specs.FirstItems.{item_with, reading_rows}
use Rattle.kr_cmd_fleet.specs.declared.outfit.Outfit.{Outfit}
use Rattle.kr_cmd_fleet.specs.inner.Beginnings.{with_first}
use Rattle.kr_cmd_steps.specs.Environment.{Environment, with_exchanges}
use Rattle.kr_cmd_steps.specs.ValueSteps.{none_kept}
use Rattle.kr_cmd_steps.specs.inner.Phases.{Does}
use Rattle.kr_cmd_fleet.specs.declared.watch_start.RowReadNo.{RowReadNo}
use Rattle.kr_cmd_fleet.specs.declared.watch_start.RowReadNo.TheVariants as no
use Rattle.kr_cmd_fleet.specs.declared.watch_start.WatchStart.{WatchStart}
use Rattle.kr_cmd_messages.specs.declared.refusal.Object.TheVariants.{Plugin}
use Rattle.kr_cmd_messages.specs.declared.refusal.Stop.{Stop}
use Rattle.kr_cmd_messages.specs.declared.refusal.Stop.TheVariants.{Fault, NoMemory}

-- ---- a row

-- a row that a bench may read
abbrev pub IsReadable : Row → Type 0
IsReadable row = (length row.path ≤ path_limit) × (length row.stored ≤ value_limit)

-- the data that a bench read; none where it refused the value
abbrev pub plain_of : Result Opened UnsealNo → Option (List ℕ)
plain_of (Ok opened) = Some opened.plain
plain_of (Err why) = None

-- a bench answered, and no plugin failed
abbrev pub Answered : Result Opened UnsealNo → Type 0
Answered (Err (unseal.PluginFailed name)) = ⊥
Answered (Err unseal.NoMemory) = ⊥
Answered result = ⊤

abbrev pub NoneFailed : Result Opened UnsealNo → Type 0
NoneFailed (Err (unseal.PluginFailed name)) = ⊥
NoneFailed result = ⊤

module _ {L : Type 0} (link : L → Link) (step : L → Exchange → L → Type 0) (p : Publication)
    (row : Row) (olds news : List L) (kept after : CacheState) where
  -- a bench that had kept these seeds read the row, and kept those then
  pub record Unsealed (result : Result Opened UnsealNo) : Type 0 where
    pub by_links : UnsealsBy link p.seeds (list_at p row.resource) row.path row.stored olds result
        news
    pub talk : Talk (Among step) olds news
        (ReadsBy p.seeds (list_at p row.resource) row.path row.stored kept result after)

  -- the row's item has what a bench read; or its plugin failed, or there was no memory
  abbrev pub ReadsRow : Result Item RowReadNo → Type 0
  ReadsRow (Ok item) = (result : Result Opened UnsealNo)
      × Unsealed result × Answered result × (item ≡ item_with row (plain_of result))
  ReadsRow (Err (no.PluginFailed name)) = Unsealed (Err (unseal.PluginFailed name))
  ReadsRow (Err no.NoMemory) = (result : Result Opened UnsealNo)
      × Unsealed result × NoneFailed result

-- ---- rows

-- how the steps end by which rows are read; a plugin's fault has its link's count
abbrev pub IsReadEnd : {L : Type 0} → (L → Link) → List L → Result (List Item × ℕ) RowReadNo
    → Result (List Item) Stop → Type 0
IsReadEnd link links (Ok items) made = made ≡ Ok items.0
IsReadEnd link links (Err (no.PluginFailed name)) made =
    HasLinkWith link name (λ l. made ≡ Err (Fault (Plugin name) l.count)) links
IsReadEnd link links (Err no.NoMemory) made = made ≡ Err NoMemory

-- ---- what is known of the items

-- the item of a row has what its value reads as: with some unwrapped source, and by all openings
-- that agree with these exchanges, and by which the published seeds open
pub record IsReadOf (exchanges : List Exchange) (p : Publication) (row : Row) (item : Item)
    : Type 0 where
  pub reading : Reading
  pub some : HasSomeReading (list_at p row.resource) row.path row.stored reading
  pub agreed : (opens : Opens) → AgreeAll opens exchanges → OpenAll opens p.seeds
      → HasReading opens (list_at p row.resource) row.path row.stored reading
  pub item_is : item ≡ item_with row (plain_in (Some reading))

abbrev pub AreReadOf : List Exchange → Publication → List Row → List Item → Type 0
AreReadOf exchanges p [] [] = ⊤
AreReadOf exchanges p [] (item ∷ items) = ⊥
AreReadOf exchanges p (row ∷ rows) [] = ⊥
AreReadOf exchanges p (row ∷ rows) (item ∷ items) =
    IsReadOf exchanges p row item × AreReadOf exchanges p rows items

-- ---- rows, with a bench over these links

-- the plugin that failed has a link
abbrev pub NamesALink : (names : List (List ℕ)) → RowReadNo → Type 0
NamesALink names (no.PluginFailed name) = Contains names name
NamesALink names no.NoMemory = ⊤

abbrev pub Names : {A : Type 0} → (names : List (List ℕ)) → Result A RowReadNo → Type 0
Names names (Ok x) = ⊤
Names names (Err why) = NamesALink names why

-- they were read one behind another, or one of them ended that; the links answered just this
pub record AreRead {L : Type 0} (link : L → Link) (p : Publication) (rows : List Row)
    (olds : List L) (result : Result (List Item × ℕ) RowReadNo) (news : List L)
    (exchanges : List Exchange) : Type 0 where
  pub does : (left : Option (List ℕ)) (count : ℕ) (a : Environment)
      → (made : Result (List Item) Stop) → IsReadEnd link news result made
      → Does (reading_rows p rows [] none_kept) (with_first link olds left count a)
      (with_first link news left count (with_exchanges exchanges a)) made
  pub reads : IfOk result (λ items. AreReadOf exchanges p rows items.0)

pub record ReadsAll {L : Type 0} (link : L → Link) (step : L → Exchange → L → Type 0)
    (p : Publication) (rows : List Row) (olds : List L)
    (result : Result (List Item × ℕ) RowReadNo) (news : List L) : Type 0 where
  pub talk : Talk (Among step) olds news (AreRead link p rows olds result news)
  pub asked : AskedOnly link (names_of link olds) olds news
  pub names : Names (names_of link news) result

-- ---- the live rows

abbrev pub first_in : {P : Type 0} → List (Option P) → Option P
first_in [] = None
first_in (replica ∷ others) = replica

-- this is what the first replica published
abbrev pub IsFirst : Publication → List (Option Publication) → Type 0
IsFirst p replicas = (others : List (Option Publication)) × (replicas ≡ Some p ∷ others)

-- the first outfit has a link to each plugin of what the first replica published
abbrev pub HasFirst : {L D : Type 0} → (L → Link) → List (Outfit L D)
    → List (Option Publication) → Type 0
HasFirst {L} {D} link outfits replicas = (p : Publication)
    (others : List (Option Publication)) (outfit : Outfit L D) (more : List (Outfit L D))
    → replicas ≡ Some p ∷ others → outfits ≡ outfit ∷ more
    → HasLinks (names_of link outfit.links) p.rows

-- the items of all live rows, as the first replica's configuration reads them
pub record AreFirstItems (exchanges : List Exchange) (rows : List LogRow)
    (replicas : List (Option Publication)) (items : List Item) : Type 0 where
  pub first : Publication
  pub others : List (Option Publication)
  pub replicas_are : replicas ≡ Some first ∷ others
  pub listing : List Row
  pub lists : IsListing rows listing
  pub reads : AreReadOf exchanges first listing items

-- where someone watches
abbrev pub KnowsItems : (watched : Bool) → List Exchange → List LogRow
    → List (Option Publication) → List Item → Type 0
KnowsItems watched exchanges rows replicas items =
    watched ≡ true → AreFirstItems exchanges rows replicas items

-- the items, where they were read
abbrev pub items_in : Result (List Item × ℕ) Stop → Result (List Item) Stop
items_in (Ok items) = Ok items.0
items_in (Err stop) = Err stop

abbrev pub read_in : Result WatchStart Stop → Result (List Item) Stop
read_in (Ok start) = Ok start.items.0
read_in (Err stop) = Err stop
