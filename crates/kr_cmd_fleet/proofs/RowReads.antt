-- Rows that a bench reads for a watch, one behind another.
use Rattle.std.proofs.Common.{◌≡◌, ℕ, zero, suc, ◌+◌, ◌<◌, ◌≤◌, List, [], ◌∷◌, ◌++◌, length, take, drop, get_or, drop-cons, add-one, Option, None, Some, Result, Ok, Err, refl, sym, ◌∙◌, ap, subst, inl, inr, arith, Contains}
use Rattle.std.specs.Prelude.{IfOk, IfSome, true, ⊤}
use Rattle.std.proofs.lemmas.List.{drop_all, take_all, take_more}
use Rattle.kr_base.specs.Walks.{Talk}
use Rattle.kr_base.proofs.Walks.{talk_none, talk_so, talk_then}
use Rattle.kr_kms.specs.Cache.{AreOpenBy, CacheState}
use Rattle.kr_kms.specs.Calls.{Link}
use Rattle.kr_kms.specs.Exchanges.{AgreeAll, Exchange}
use Rattle.kr_kms.specs.Opens.{OpenAll, Opens}
use Rattle.kr_kms.proofs.Opening.{agree_parts}
use Rattle.kr_provider.specs.AskedLinks.{Among, AskedOnly, HasLinkWith}
use Rattle.kr_provider.specs.ExchangeLaws.{IsAnswerBy}
use Rattle.kr_provider.specs.Exchanges.{ReadsBy}
use Rattle.kr_provider.specs.Names.{AreDistinct, names_of}
use Rattle.kr_provider.specs.Publication.{Publication, list_at}
use Rattle.kr_provider.specs.Readers.{reader_in}
use Rattle.kr_provider.specs.Reading.{data_of, refused}
use Rattle.kr_provider.specs.Unsealing.{UnsealsBy, plugin_reading}
use Rattle.kr_provider.specs.declared.refusal.Opened.{Opened}
use Rattle.kr_provider.specs.declared.refusal.UnsealNo.{UnsealNo}
use Rattle.kr_provider.specs.declared.refusal.UnsealNo.TheVariants as unseal
use Rattle.kr_provider.specs.declared.refusal.ValueNo.{ValueNo}
use Rattle.kr_provider.proofs.AgreeTalks.{reading_agrees}
use Rattle.kr_provider.proofs.AskedLists.{asked_none, asked_then, distinct_stay, names_stay}
use Rattle.kr_store.specs.declared.rows.Row.{Row}
use Rattle.kr_watch.specs.declared.item.Item.{Item}
use Rattle.kr_cmd_messages.specs.declared.refusal.Object.TheVariants.{Plugin}
use Rattle.kr_cmd_messages.specs.declared.refusal.Stop.{Stop}
use Rattle.kr_cmd_messages.specs.declared.refusal.Stop.TheVariants.{Fault, NoMemory}
use Rattle.kr_cmd_steps.specs.Environment.{Environment, with_exchanges}
use Rattle.kr_cmd_steps.specs.ValueSteps.{none_kept, value_read}
use Rattle.kr_cmd_steps.specs.Phases.{with_memory}
use Rattle.kr_cmd_steps.specs.Steps.{Steps, give}
use Rattle.kr_cmd_steps.specs.inner.Phases.{Does}
use Rattle.kr_cmd_fleet.specs.FirstItems.{item_with, plain_read, reading_rows}
use Rattle.kr_cmd_fleet.specs.declared.watch_start.RowReadNo.{RowReadNo}
use Rattle.kr_cmd_fleet.specs.declared.watch_start.RowReadNo.TheVariants as no
use Rattle.kr_cmd_fleet.specs.inner.Beginnings.{with_first}
use Rattle.kr_cmd_fleet.specs.inner.Readings.{Answered, AreRead, AreReadOf, IsReadEnd, IsReadOf, NoneFailed, ReadsAll, ReadsRow, Unsealed, items_in, plain_of}
use Rattle.kr_cmd_steps.proofs.RunTo.{given, goes_on, home_refl, reach, stops}
use Rattle.kr_cmd_steps.proofs.Hearing.{around_more, around_none}
use Rattle.kr_cmd_steps.proofs.Made.{remembers}
use Rattle.kr_cmd_steps.proofs.Unsealed.{asks_reader}
use Rattle.kr_cmd_steps.proofs.ValueRead.{IsValueEnd, keeping, value_does}
use Rattle.kr_cmd_steps.proofs.Works.{lacks, names_unread}

-- ---- links

-- what was asked at all is among the names of all
pub asked_any : {L : Type 0} (link : L → Link) (names all : List (List ℕ)) (olds news : List L)
    → ((x : L) → Contains olds x → Contains all (link x).name) → AskedOnly link names olds news
    → AskedOnly link all olds news
asked_any link names all [] [] has a = tt
asked_any link names all (x ∷ olds) (y ∷ news) has a = (
  a.0,
  λ n. absurd (n (has x (0, omega arith, refl))),
  asked_any link names all olds news
      (λ z c. has z (suc c.0, omega (arith, c.1), c.2)) a.2,
)
asked_any link names all other another has a = absurd a

name_there : {L : Type 0} (link : L → Link) (links : List L) (x : L) → Contains links x
    → Contains (names_of link links) (link x).name
name_there link [] x (k, below, is) = absurd (omega (arith, below))
name_there link (y ∷ links) x (zero, below, is) =
    (0, omega arith, ap (λ l. (link l).name) is)
name_there link (y ∷ links) x (suc k, below, is) =
    let c = name_there link links x (k, omega (arith, below), is) in
    (suc c.0, omega (arith, c.1), c.2)

pub asked_own : {L : Type 0} (link : L → Link) (names : List (List ℕ)) (olds news : List L)
    → AskedOnly link names olds news → AskedOnly link (names_of link olds) olds news
asked_own link names olds news a = asked_any link names (names_of link olds) olds news
    (λ x c. name_there link olds x c) a

-- ---- an item

-- by more exchanges too
module _ (es fs : List Exchange) (so : (opens : Opens) → AgreeAll opens fs → AgreeAll opens es)
    (p : Publication) where
  read_so : (row : Row) (item : Item) → IsReadOf es p row item → IsReadOf fs p row item
  read_so row item r = record {
    reading = r.reading;
    some = r.some;
    agreed = λ opens agree all. r.agreed opens (so opens agree) all;
    item_is = r.item_is;
  }

  reads_so : (rows : List Row) (items : List Item) → AreReadOf es p rows items
      → AreReadOf fs p rows items
  reads_so [] [] all = tt
  reads_so (r ∷ rows) (i ∷ items) all = (read_so r i all.0, reads_so rows items all.1)
  reads_so other another all = absurd all

reads_on : (es fs : List Exchange) (p : Publication) (rows : List Row) (items : List Item)
    → AreReadOf es p rows items → AreReadOf (es ++ fs) p rows items
reads_on es fs p rows items all =
    reads_so es (es ++ fs) (λ opens agree. (agree_parts opens es fs agree).0) p rows items all

pub reads_behind : (es fs : List Exchange) (p : Publication) (rows : List Row) (items : List Item)
    → AreReadOf fs p rows items → AreReadOf (es ++ fs) p rows items
reads_behind es fs p rows items all =
    reads_so fs (es ++ fs) (λ opens agree. (agree_parts opens es fs agree).1) p rows items all

reads_more : (es : List Exchange) (p : Publication) (rows : List Row) (items : List Item) (row : Row)
    (item : Item) → AreReadOf es p rows items → IsReadOf es p row item
    → AreReadOf es p (rows ++ row ∷ []) (items ++ item ∷ [])
reads_more es p [] [] row item all is = (is, tt)
reads_more es p (r ∷ rows) (i ∷ items) row item all is =
    (all.0, reads_more es p rows items row item all.1 is)
reads_more es p other another row item all is = absurd all

-- what the value's steps give
abbrev value_of : Result Opened UnsealNo → Result Opened ValueNo
value_of (Ok opened) = Ok opened
value_of (Err (unseal.Refused why)) = Err why
value_of (Err (unseal.PluginFailed name)) = Ok (record { plain = []; stale = true })
value_of (Err unseal.NoMemory) = Ok (record { plain = []; stale = true })

-- while the first seat has these links
abbrev First : {L : Type 0} → (L → Link) → List L → Option (List ℕ) → ℕ → Environment → Environment
First link links left count a = with_first link links left count a

-- what is kept opens by all that agrees with these exchanges
abbrev KeptOpen : Publication → CacheState → List Exchange → Type 0
KeptOpen p kept es = (opens : Opens) → AgreeAll opens es → OpenAll opens p.seeds
    → AreOpenBy opens kept.rows

-- so many rows were read by these exchanges: what the others do completes it
pub record IsWalkBy {L : Type 0} (link : L → Link) (p : Publication) (rows : List Row)
    (number : ℕ) (items : List Item) (olds mids : List L) (kept : CacheState)
    (es : List Exchange) : Type 0 where
  pub onward : (left : Option (List ℕ)) (count : ℕ) (a : Environment)
      → (end : Environment) (result : Result (List Item) Stop)
      → Does (reading_rows p (drop number rows) items kept)
      (First link mids left count (with_exchanges es a)) end result
      → Does (reading_rows p rows [] none_kept) (First link olds left count a) end result
  pub reads : AreReadOf es p (take number rows) items
  pub opens : KeptOpen p kept es

pub record IsWalk {L : Type 0} (link : L → Link) (step : L → Exchange → L → Type 0)
    (p : Publication) (rows : List Row) (number : ℕ) (items : List Item) (olds mids : List L)
    (kept : CacheState) : Type 0 where
  pub talk : Talk (Among step) olds mids (IsWalkBy link p rows number items olds mids kept)
  pub asked : AskedOnly link (names_of link olds) olds mids

pub walk_none : {L : Type 0} (link : L → Link) (step : L → Exchange → L → Type 0)
    (p : Publication) (rows : List Row) (links : List L) (kept : CacheState) → kept ≡ none_kept
    → IsWalk link step p rows 0 [] links links kept
walk_none link step p rows links kept cold = record {
  talk = talk_none (Among step) (IsWalkBy link p rows 0 [] links links kept) links (record {
    onward = λ left count a end result d.
        subst (λ b. Does (reading_rows p rows [] none_kept) (First link links left count b) end
        result) (around_none a)
        (subst (λ c. Does (reading_rows p rows [] c)
        (First link links left count (with_exchanges [] a)) end result) cold d);
    reads = tt;
    opens = λ opens agree all. subst (λ (c : CacheState). AreOpenBy opens c.rows) (sym cold)
        (λ key seed there. absurd (omega (arith, there.1)));
  });
  asked = asked_none link (names_of link links) links;
}

-- ---- what a bench read

module _ (p : Publication) (row : Row) where
  abbrev Answers : Opens → Result Opened UnsealNo → Type 0
  Answers opens result =
      IsAnswerBy opens p.seeds (list_at p row.resource) row.path row.stored result

  -- what is read of an item is what its value reads as
  is_read : {L : Type 0} (link : L → Link) (olds news : List L) (es : List Exchange)
      (result : Result Opened UnsealNo) (item : Item)
      → UnsealsBy link p.seeds (list_at p row.resource) row.path row.stored olds result news
      → ((opens : Opens) → AgreeAll opens es → OpenAll opens p.seeds → Answers opens result)
      → Answered result → item ≡ item_with row (plain_of result) → IsReadOf es p row item
  is_read link olds news es (Ok opened) item u so answered is = record {
    reading = data_of opened.plain;
    some = (u.envelope, u.object, u.is.0);
    agreed = λ opens agree all. let a = so opens agree all in (a.0, a.1, a.2.0);
    item_is = is;
  }
  is_read link olds news es (Err (unseal.Refused why)) item u so answered is = record {
    reading = refused why;
    some = (u.envelope, u.object, u.is);
    agreed = λ opens agree all. let a = so opens agree all in (a.0, a.1, a.2);
    item_is = is;
  }
  is_read link olds news es (Err other) item u so answered is = absurd answered

  abbrev Value : CacheState → Steps (Result Opened ValueNo × CacheState)
  Value kept = value_read p.seeds (list_at p row.resource) row.path row.stored kept

  abbrev Behind : List Row → List Item → Result Opened ValueNo × CacheState → Steps (List Item)
  Behind rows items read = with_memory
      (reading_rows p rows (items ++ item_with row (plain_read read.0) ∷ []) read.1)

  abbrev Rows : List Row → List Item → CacheState → Steps (List Item)
  Rows rows items kept = reading_rows p (row ∷ rows) items kept

  same_plain : (result : Result Opened UnsealNo) → Answered result
      → plain_read (value_of result) ≡ plain_of result
  same_plain (Ok opened) answered = refl
  same_plain (Err (unseal.Refused why)) answered = refl
  same_plain (Err other) answered = absurd answered

  module _ {L : Type 0} (link : L → Link) (olds news : List L) (distinct : AreDistinct link olds)
      (kept after : CacheState) (es : List Exchange) (left : Option (List ℕ)) (count : ℕ)
      (a : Environment) where
    abbrev Old : Environment
    Old = First link olds left count a

    abbrev New : Environment
    New = First link news left count (with_exchanges es a)

    -- a bench read the value by these exchanges
    abbrev Reads : Result Opened UnsealNo → Type 0
    Reads result =
        UnsealsBy link p.seeds (list_at p row.resource) row.path row.stored olds result news
        × ReadsBy p.seeds (list_at p row.resource) row.path row.stored kept result after es

    value_so : (result : Result Opened UnsealNo) (made : Result (Result Opened ValueNo) Stop)
        → Reads result → IsValueEnd link news result made
        → Does (Value kept) Old New (keeping after made)
    value_so result made u e = value_does link p.seeds (list_at p row.resource) row.path row.stored
        olds news distinct left count a kept result made u.0 e after es u.1

    valued : (result : Result Opened UnsealNo) → Reads result → Answered result
        → Does (Value kept) Old New (Ok (value_of result, after))
    valued (Ok opened) u answered = value_so (Ok opened) (Ok (Ok opened)) u refl
    valued (Err (unseal.Refused why)) u answered =
        value_so (Err (unseal.Refused why)) (Ok (Err why)) u refl
    valued (Err other) u answered = absurd answered

    -- the row was read, and then the others
    row_then : (rows : List Row) (items : List Item) (result : Result Opened UnsealNo)
        (item : Item) → Reads result → Answered result → item ≡ item_with row (plain_of result)
        → (end : Environment) (made : Result (List Item) Stop)
        → Does (reading_rows p rows (items ++ item ∷ []) after) New end made
        → Does (Rows rows items kept) Old end made
    row_then rows items result item u answered is end made d =
        goes_on (Value kept) (Behind rows items) (value_of result, after) (valued result u answered)
        (remembers (subst (λ i. Does (reading_rows p rows (items ++ i ∷ []) after) New end made)
        (is ∙ ap (item_with row) (sym (same_plain result answered))) d))

    -- or memory lacked
    row_lacks : (rows : List Row) (items : List Item) (result : Result Opened UnsealNo)
        → Reads result → NoneFailed result
        → Does (Rows rows items kept) Old New (Err NoMemory)
    row_lacks rows items (Ok opened) u none =
        goes_on (Value kept) (Behind rows items) (Ok opened, after) (valued (Ok opened) u tt)
        (lacks (reading_rows p rows (items ++ item_with row (Some opened.plain) ∷ []) after) New)
    row_lacks rows items (Err (unseal.Refused why)) u none =
        goes_on (Value kept) (Behind rows items) (Err why, after)
        (valued (Err (unseal.Refused why)) u tt)
        (lacks (reading_rows p rows (items ++ item_with row None ∷ []) after) New)
    row_lacks rows items (Err (unseal.PluginFailed name)) u none = absurd none
    row_lacks rows items (Err unseal.NoMemory) u none =
        stops (Value kept) (Behind rows items) NoMemory
        (value_so (Err unseal.NoMemory) (Err NoMemory) u refl)

    -- or its plugin failed
    row_fails : (rows : List Row) (items : List Item) (name : List ℕ)
        → Reads (Err (unseal.PluginFailed name)) → (made : Result (List Item) Stop)
        → HasLinkWith link name (λ l. made ≡ Err (Fault (Plugin name) l.count)) news
        → Does (Rows rows items kept) Old New made
    row_fails rows items name u made h =
        let stop = Fault (Plugin name) (link h.it).count in
        subst (λ m. Does (Rows rows items kept) Old New m) (sym h.has)
        (stops (Value kept) (Behind rows items) stop
        (value_so (Err (unseal.PluginFailed name)) (Err stop) u (record {
          it = h.it;
          there = h.there;
          named = h.named;
          has = refl;
        })))

none_failed : (r : Result Opened UnsealNo) → Answered r → NoneFailed r
none_failed (Ok opened) so = tt
none_failed (Err (unseal.Refused why)) so = tt
none_failed (Err other) so = absurd so

-- ---- all rows

module _ {L : Type 0} (link : L → Link) (step : L → Exchange → L → Type 0) (p : Publication)
    (rows : List Row) {number : ℕ} {items : List Item} {olds mids : List L} {kept : CacheState}
    (so_far : IsWalk link step p rows number items olds mids kept)
    (distinct : AreDistinct link olds) where
  distinct_still : AreDistinct link mids
  distinct_still = distinct_stay link (names_of link olds) olds mids so_far.asked distinct

  -- how all of it is said of what was asked
  abbrev Read : (news : List L) → Result (List Item × ℕ) RowReadNo → List Exchange → Type 0
  Read news result es = AreRead link p rows olds result news es

  module _ (row : Row) (below : number < length rows) (is : row ≡ get_or rows number row)
      (news : List L) (after : CacheState) where
    next_is : drop number rows ≡ row ∷ drop (number + 1) rows
    next_is = drop-cons rows number row below
        ∙ ap (λ r. r ∷ drop (suc number) rows) (sym is)
        ∙ ap (λ k. row ∷ drop k rows) (sym (add-one number))

    abbrev Far : List Exchange → Type 0
    Far es = IsWalkBy link p rows number items olds mids kept es

    -- behind what was read so far
    onward_by : (es fs : List Exchange) → Far es → (left : Option (List ℕ)) (count : ℕ)
        (a : Environment) (next : Environment → Environment) (result : Result (List Item) Stop)
        → Does (reading_rows p (row ∷ drop (number + 1) rows) items kept)
        (First link mids left count (with_exchanges es a))
        (next (with_exchanges fs (with_exchanges es a))) result
        → Does (reading_rows p rows [] none_kept) (First link olds left count a)
        (next (with_exchanges (es ++ fs) a)) result
    onward_by es fs far left count a next result d =
        subst (λ b. Does (reading_rows p rows [] none_kept) (First link olds left count a) (next b)
        result) (around_more es fs a)
        (far.onward left count a (next (with_exchanges fs (with_exchanges es a))) result
        (subst (λ l. Does (reading_rows p l items kept)
        (First link mids left count (with_exchanges es a))
        (next (with_exchanges fs (with_exchanges es a))) result) (sym next_is) d))

    abbrev Bench : Result Opened UnsealNo → Type 0
    Bench result = Unsealed link step p row mids news kept after result

    row_asked : (result : Result Opened UnsealNo) → Bench result
        → AskedOnly link (names_of link olds) olds news
    row_asked result u = asked_then link (names_of link olds) olds mids news so_far.asked
        (subst (λ n. AskedOnly link n mids news)
        (names_stay link (names_of link olds) olds mids so_far.asked)
        (asked_own link (plugin_reading (reader_in (list_at p row.resource) row.stored)) mids news
        (asks_reader link p.seeds (list_at p row.resource) row.path row.stored mids news result
        u.by_links)))

    abbrev ByLinks : Result Opened UnsealNo → Type 0
    ByLinks result =
        UnsealsBy link p.seeds (list_at p row.resource) row.path row.stored mids result news

    abbrev By : Result Opened UnsealNo → List Exchange → Type 0
    By result fs =
        ReadsBy p.seeds (list_at p row.resource) row.path row.stored kept result after fs

    -- both talks
    both : (result : Result Opened UnsealNo) → Bench result → (Are : List Exchange → Type 0)
        → ((es fs : List Exchange) → Far es → By result fs → Are (es ++ fs))
        → Talk (Among step) olds news Are
    both result u Are so =
        talk_then (Among step) Far (By result) Are olds mids news so_far.talk u.talk so

    -- one more was read
    more_by : (result : Result Opened UnsealNo) → ByLinks result → Answered result
        → (item : Item) → item ≡ item_with row (plain_of result) → (es fs : List Exchange)
        → Far es → By result fs
        → IsWalkBy link p rows (number + 1) (items ++ item ∷ []) olds news after (es ++ fs)
    more_by result u answered item e es fs far by = record {
      onward = λ left count a end made d.
          far.onward left count a end made
          (subst (λ l. Does (reading_rows p l items kept)
          (First link mids left count (with_exchanges es a)) end made) (sym next_is)
          (row_then p row link mids news distinct_still kept after fs left count
          (with_exchanges es a) (drop (number + 1) rows) items result item (u, by) answered e end
          made
          (subst (λ b. Does (reading_rows p (drop (number + 1) rows) (items ++ item ∷ []) after)
          (First link news left count b) end made) (sym (around_more es fs a)) d)));
      reads = subst (λ l. AreReadOf (es ++ fs) p l (items ++ item ∷ []))
          (ap (λ r. take number rows ++ r ∷ []) is ∙ sym (take_more rows number row below))
          (reads_more (es ++ fs) p (take number rows) items row item
          (reads_on es fs p (take number rows) items far.reads)
          (is_read p row link mids news (es ++ fs) result item u
          (λ opens agree all. (agreed opens agree all).1) answered e));
      opens = λ opens agree all. (agreed opens agree all).0;
    }
      where
        agreed : (opens : Opens) → AgreeAll opens (es ++ fs) → OpenAll opens p.seeds
            → AreOpenBy opens after.rows × Answers p row opens result
        agreed opens agree all =
            let parts = agree_parts opens es fs agree in
            reading_agrees opens p.seeds (list_at p row.resource) row.path row.stored kept result
            after fs by parts.1 all (far.opens opens parts.0 all)

    pub walk_more : (item : Item) → ReadsRow link step p row mids news kept after (Ok item)
        → (all : List Item) → all ≡ items ++ item ∷ []
        → IsWalk link step p rows (number + 1) all olds news after
    walk_more item (result, u, answered, e) all same =
        subst (λ l. IsWalk link step p rows (number + 1) l olds news after) (sym same) (record {
          talk = both result u
              (IsWalkBy link p rows (number + 1) (items ++ item ∷ []) olds news after)
              (more_by result u.by_links answered item e);
          asked = row_asked result u;
        })

    lacks_by : (result : Result Opened UnsealNo) → ByLinks result → NoneFailed result
        → (es fs : List Exchange) → Far es → By result fs
        → Read news (Err no.NoMemory) (es ++ fs)
    lacks_by result u none es fs far by = record {
      does = λ left count a made end. subst (λ m. Does (reading_rows p rows [] none_kept)
          (First link olds left count a) (First link news left count (with_exchanges (es ++ fs) a))
          m) (sym end)
          (onward_by es fs far left count a (λ b. First link news left count b) (Err NoMemory)
          (row_lacks p row link mids news distinct_still kept after fs left count
          (with_exchanges es a) (drop (number + 1) rows) items result (u, by) none));
      reads = tt;
    }

    fails_by : (name : List ℕ) → ByLinks (Err (unseal.PluginFailed name))
        → (es fs : List Exchange) → Far es → By (Err (unseal.PluginFailed name)) fs
        → Read news (Err (no.PluginFailed name)) (es ++ fs)
    fails_by name u es fs far by = record {
      does = λ left count a made end.
          onward_by es fs far left count a (λ b. First link news left count b) made
          (row_fails p row link mids news distinct_still kept after fs left count
          (with_exchanges es a) (drop (number + 1) rows) items name (u, by) made end);
      reads = tt;
    }

    -- it was read, and memory lacked to keep it
    pub walk_unkept : (item : Item) → ReadsRow link step p row mids news kept after (Ok item)
        → ReadsAll link step p rows olds (Err no.NoMemory) news
    walk_unkept item (result, u, answered, e) = record {
      talk = both result u (Read news (Err no.NoMemory))
          (lacks_by result u.by_links (none_failed result answered));
      asked = row_asked result u;
      names = tt;
    }

    -- it wasn't
    pub walk_stops : (why : RowReadNo) → ReadsRow link step p row mids news kept after (Err why)
        → ReadsAll link step p rows olds (Err why) news
    walk_stops (no.PluginFailed name) u = record {
      talk = both (Err (unseal.PluginFailed name)) u (Read news (Err (no.PluginFailed name)))
          (fails_by name u.by_links);
      asked = row_asked (Err (unseal.PluginFailed name)) u;
      names = names_unread link row.resource row.path row.stored (Some p) mids news
          (Err (unseal.PluginFailed name)) refl u.by_links;
    }
    walk_stops no.NoMemory (result, u, none) = record {
      talk = both result u (Read news (Err no.NoMemory)) (lacks_by result u.by_links none);
      asked = row_asked result u;
      names = tt;
    }

  -- all were read
  pub walk_all : length rows ≤ number → (all : List Item × ℕ) → all.0 ≡ items
      → ReadsAll link step p rows olds (Ok all) mids
  walk_all past all same = record {
    talk = talk_so (Among step) (IsWalkBy link p rows number items olds mids kept)
        (Read mids (Ok all)) olds mids so_far.talk (λ es far. record {
          does = λ left count a made end. subst (λ m. Does (reading_rows p rows [] none_kept)
              (First link olds left count a) (First link mids left count (with_exchanges es a)) m)
              (sym (end ∙ ap (λ l. Ok l) same))
              (far.onward left count a (First link mids left count (with_exchanges es a)) (Ok items)
              (subst (λ l. Does (reading_rows p l items kept)
              (First link mids left count (with_exchanges es a))
              (First link mids left count (with_exchanges es a)) (Ok items))
              (sym (drop_all number rows past))
              (remembers (given items (First link mids left count (with_exchanges es a))))));
          reads = subst (λ l. AreReadOf es p l all.0) (take_all number rows past)
              (subst (λ l. AreReadOf es p (take number rows) l) (sym same) far.reads);
        });
    asked = so_far.asked;
    names = tt;
  }

-- memory lacked before the first row was read
pub lacks_rows : (p : Publication) (rows : List Row) (a : Environment)
    → Does (reading_rows p rows [] none_kept) a a (Err NoMemory)
lacks_rows p [] a = lacks (give []) a
lacks_rows p (row ∷ rows) a =
    record { home = home_refl a; ends = λ l s. inr (reach l (inl (refl, refl)) s) }

-- ---- by what a bench adopted, if it did

abbrev pub WalksTo : {L : Type 0} → (L → Link) → (step : L → Exchange → L → Type 0)
    → Option Publication → List Row → ℕ → List Item → (olds mids : List L) → CacheState → Type 0
WalksTo link step None rows number items olds mids kept = ⊤
WalksTo link step (Some p) rows number items olds mids kept =
    IsWalk link step p rows number items olds mids kept

-- one more row was read: kept it is the last, and memory may lack to keep it; or it ended the walk
abbrev pub WalksOn : {L : Type 0} → (L → Link) → (step : L → Exchange → L → Type 0)
    → List Row → ℕ → List Item → (olds news : List L) → CacheState → Option Publication
    → Result Item RowReadNo → Type 0
WalksOn link step rows number items olds news after o (Ok item) =
    ((all : List Item) → all ≡ items ++ item ∷ []
    → WalksTo link step o rows (number + 1) all olds news after)
    × IfSome o (λ p. ReadsAll link step p rows olds (Err no.NoMemory) news)
WalksOn link step rows number items olds news after o (Err why) =
    IfSome o (λ p. ReadsAll link step p rows olds (Err why) news)

module _ {L : Type 0} (link : L → Link) (step : L → Exchange → L → Type 0) where
  pub walks_none : (o : Option Publication) (rows : List Row) (links : List L) (kept : CacheState)
      → kept ≡ none_kept → WalksTo link step o rows 0 [] links links kept
  walks_none None rows links kept cold = tt
  walks_none (Some p) rows links kept cold = walk_none link step p rows links kept cold

  module _ (rows : List Row) (number : ℕ) (items : List Item) (olds mids : List L)
      (kept : CacheState) (distinct : AreDistinct link olds) where
    module _ (row : Row) (below : number < length rows) (is : row ≡ get_or rows number row)
        (news : List L) (after : CacheState) where
      pub walks_on : (o : Option Publication)
          → WalksTo link step o rows number items olds mids kept
          → (result : Result Item RowReadNo)
          → IfSome o (λ p. ReadsRow link step p row mids news kept after result)
          → WalksOn link step rows number items olds news after o result
      walks_on None w (Ok item) r = (λ all e. tt, tt)
      walks_on None w (Err why) r = tt
      walks_on (Some p) w (Ok item) r = (
        walk_more link step p rows w distinct row below is news after item r,
        walk_unkept link step p rows w distinct row below is news after item r,
      )
      walks_on (Some p) w (Err why) r =
          walk_stops link step p rows w distinct row below is news after why r

    pub walks_all : (o : Option Publication)
        → WalksTo link step o rows number items olds mids kept → length rows ≤ number
        → (all : List Item × ℕ) → all.0 ≡ items
        → IfSome o (λ p. ReadsAll link step p rows olds (Ok all) mids)
    walks_all None w past all e = tt
    walks_all (Some p) w past all e = walk_all link step p rows w distinct past all e

-- ---- a bench over an outfit

module _ {L : Type 0} (link : L → Link) (step : L → Exchange → L → Type 0) (p : Publication)
    (rows : List Row) (olds : List L) (left : Option (List ℕ)) (count : ℕ) where
  -- how the rows were read by links that come back
  abbrev pub Leaves : (news : List L) → Result (List Item × ℕ) Stop → List Exchange → Type 0
  Leaves news made es = ((a : Environment) → Does (reading_rows p rows [] none_kept)
      (with_first link olds left count a) (with_first link news left count (with_exchanges es a))
      (items_in made)) × IfOk made (λ items. AreReadOf es p rows items.0)

  -- memory lacked before
  pub lacks_first_row : Talk (Among step) olds olds (Leaves olds (Err NoMemory))
  lacks_first_row = talk_none (Among step) (Leaves olds (Err NoMemory)) olds (
    λ a. subst (λ b. Does (reading_rows p rows [] none_kept) (with_first link olds left count a)
        (with_first link olds left count b) (Err NoMemory)) (sym (around_none a))
        (lacks_rows p rows (with_first link olds left count a)),
    tt,
  )

  -- by a bench that adopted the configuration
  module _ (q : Publication) (mid : List L) (result : Result (List Item × ℕ) RowReadNo)
      (news out : List L) (published : Option Publication)
      (reads : IfSome published (λ x. ReadsAll link step x rows mid result news))
      (is : published ≡ Some q) (same : q ≡ p) (from : mid ≡ olds) (back : out ≡ news) where
    all_read : ReadsAll link step p rows olds result news
    all_read = subst (λ (o : List L). ReadsAll link step p rows o result news) from
        (subst (λ x. ReadsAll link step x rows mid result news) same
        (subst (λ o. IfSome o (λ x. ReadsAll link step x rows mid result news)) is reads))

    left_so : (made : Result (List Item × ℕ) Stop) → IsReadEnd link out result (items_in made)
        → ((es : List Exchange) → AreRead link p rows olds result news es
        → IfOk made (λ items. AreReadOf es p rows items.0))
        → Talk (Among step) olds out (Leaves out made)
    left_so made end known = subst (λ (l : List L). Talk (Among step) olds l (Leaves l made))
        (sym back) (talk_so (Among step) (AreRead link p rows olds result news) (Leaves news made)
        olds news all_read.talk (λ es r. (
          λ a. r.does left count a (items_in made)
              (subst (λ (l : List L). IsReadEnd link l result (items_in made)) back end),
          known es r,
        )))

  pub read_by : (q : Publication) (mid : List L) (items : List Item × ℕ) (news out : List L)
      (published : Option Publication)
      → IfSome published (λ x. ReadsAll link step x rows mid (Ok items) news)
      → published ≡ Some q → q ≡ p → mid ≡ olds → out ≡ news
      → Talk (Among step) olds out (Leaves out (Ok items))
  read_by q mid items news out published reads is same from back =
      left_so q mid (Ok items) news out published reads is same from back (Ok items) refl
      (λ es r. r.reads)

  pub unread_by : (q : Publication) (mid : List L) (why : RowReadNo) (news out : List L)
      (published : Option Publication)
      → IfSome published (λ x. ReadsAll link step x rows mid (Err why) news)
      → published ≡ Some q → q ≡ p → mid ≡ olds → out ≡ news
      → (stop : Stop) → IsReadEnd link out (Err why) (Err stop)
      → Talk (Among step) olds out (Leaves out (Err stop))
  unread_by q mid why news out published reads is same from back stop end =
      left_so q mid (Err why) news out published reads is same from back (Err stop) end
      (λ es r. tt)
