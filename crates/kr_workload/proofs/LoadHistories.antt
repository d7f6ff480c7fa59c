-- The history of a load: whose puts it has, which configurations, and that its rows are few.
use Rattle.std.specs.Prelude.{All, IfSome, IsSome, slice_set, ⊤}
use Rattle.std.proofs.Common.{◌≡◌, ℕ, zero, suc, ◌+◌, ◌*◌, ◌<◌, ◌≤◌, List, [], ◌∷◌, ◌++◌, codes, length, get_or, Option, None, Some, refl, ap, sym, subst, ◌∙◌, length-append, arith}
use Rattle.std.proofs.lemmas.Bool.{false≢true}
use Rattle.std.proofs.lemmas.List.Elements.{All-append, All-cons, All-head, All-nil, All-tail}
use Rattle.std.proofs.lemmas.Option.{none-some, same_Some}
use Rattle.kr_base.specs.Limits.{store_limit}
use Rattle.kr_config.specs.Kept.{ConfigEntry}
use Rattle.kr_config.specs.Lists.{list_of}
use Rattle.kr_config.specs.declared.who.Who.TheVariants.{Aesgcm}
use Rattle.kr_envelope.specs.Prefixes.{prefix}
use Rattle.kr_envelope.specs.declared.prefix.Kind.TheVariants as kind
use Rattle.kr_provider.specs.Publication.{Publication, writer_at}
use Rattle.kr_provider.specs.Readers.{writer_of}
use Rattle.kr_provider.specs.Sealing.{IsSealing, value_size}
use Rattle.kr_provider.proofs.SealedSizes.{sealing_is_sized}
use Rattle.kr_rollout.specs.Answers.{IsAnswer}
use Rattle.kr_opening.specs.Checks.{written_check}
use Rattle.kr_rollout.specs.Entries.{generation_named_in, published_at, seat_of}
use Rattle.kr_rollout.specs.Histories.{IsRun, state_from}
use Rattle.kr_rollout.specs.Openings.{start_of}
use Rattle.kr_opening.specs.Replicas.{current_from, generations_from, settings_of}
use Rattle.kr_rollout.specs.States.{State, current_of}
use Rattle.kr_rollout.specs.Steps.{IsStep, KeepsRules, after, current_after, new_generations, new_rows, put_row, row_written_by}
use Rattle.kr_rollout.specs.Writes.{WouldWrite, Writes, file_size}
use Rattle.kr_opening.specs.declared.generation.Generation.{Generation}
use Rattle.kr_rollout.specs.declared.line.Did.{Did}
use Rattle.kr_rollout.specs.declared.line.Did.TheVariants as did
use Rattle.kr_rollout.specs.declared.line.Gave.{Gave}
use Rattle.kr_rollout.specs.declared.line.Gave.TheVariants as gave
use Rattle.kr_rollout.specs.declared.opening.Entry.{Entry}
use Rattle.kr_rollout.specs.declared.opening.Opening.{Opening}
use Rattle.kr_store.specs.File.{check_bytes, magic, row_bytes, rows_bytes, text_bytes, value_bytes}
use Rattle.std.specs.Int.{to_be_bytes, w16, w32, w64}
use Rattle.kr_store.specs.Rows.{put_of, row_of}
use Rattle.kr_store.specs.declared.format.Check.{Check}
use Rattle.kr_store.specs.declared.format.Format.{Format}
use Rattle.kr_store.specs.declared.rows.LogRow.{LogRow}
use Rattle.kr_store.specs.declared.rows.Row as stored_row
use Rattle.kr_workload.specs.Loads.{object_path, plain_of}
use Rattle.kr_workload.proofs.LoadTexts.{path_short}
use Rattle.kr_workload.proofs.Ruling.{piece_long}
use Rattle.kr_workers.proofs.HonestPlugins.{at_middle, step_there}

abbrev pub secrets : List ℕ
secrets = codes "secrets"

-- ---- the configurations

-- objects are written by a key of aesgcm of a short name
pub record WritesByKey (rows : List ConfigEntry) : Type 0 where
  pub name : List ℕ
  pub secret : List ℕ
  pub writer : writer_of (list_of rows secrets) ≡ Aesgcm name secret
  pub short : length (prefix kind.Aesgcm name) ≤ 30

abbrev pub Keyed : Generation → Type 0
Keyed g = WritesByKey g.published.rows

-- ---- what a worker's entries are

-- a load's worker of this number asks for nothing else
abbrev pub IsLoads : (seed size worker : ℕ) → Did → Type 0
IsLoads seed size worker (did.Adopt replica) = ⊤
IsLoads seed size worker (did.Fetch path) = ⊤
IsLoads seed size worker did.LetGo = ⊤
IsLoads seed size worker (did.Put path resource plain) = (number : ℕ) × (number < size)
    × (path ≡ object_path worker number) × (resource ≡ secrets)
    × (plain ≡ plain_of seed size worker number)
IsLoads seed size worker (did.Reload replica p expect) = WritesByKey p.rows
IsLoads seed size worker other = ⊥

module _ (seed size : ℕ) where
  -- an entry of a load's history
  pub record IsLoadEntry (e : Entry) : Type 0 where
    pub seat : seat_of e < 4
    pub asks : IsLoads seed size (seat_of e) e.line.did

-- ---- lists

pub front_all : {X : Type 0} (P : X → Type 0) (xs ys : List X) → All P (xs ++ ys) → All P xs
front_all P [] ys a = All-nil P
front_all P (x ∷ xs) ys a = All-cons P x xs (All-head P x (xs ++ ys) a)
    (front_all P xs ys (All-tail P x (xs ++ ys) a))

front_few : {X : Type 0} (xs : List X) (x : X) (ys : List X)
    → length xs ≤ length (xs ++ x ∷ ys)
front_few xs x ys = omega (arith, length-append xs (x ∷ ys))

front_runs : (o : Opening) (st : State) (front rest : List Entry) → IsRun o st (front ++ rest)
    → IsRun o st front
front_runs o st [] rest runs = tt
front_runs o st (e ∷ front) rest runs =
    (runs.0, front_runs o (after st e) front rest runs.1)

-- ---- replicas that stay in

all_in : (current : List (Option ℕ)) (replica number : ℕ) → All IsSome current
    → All IsSome (slice_set current replica (Some number))
all_in [] replica number all = all
all_in (now ∷ current) zero number all = All-cons IsSome (Some number) current refl
    (All-tail IsSome now current all)
all_in (now ∷ current) (suc replica) number all = All-cons IsSome now
    (slice_set current replica (Some number)) (All-head IsSome now current all)
    (all_in current replica number (All-tail IsSome now current all))

same_many : (current : List (Option ℕ)) (replica : ℕ) (now : Option ℕ)
    → length (slice_set current replica now) ≡ length current
same_many [] replica now = refl
same_many (first ∷ current) zero now = refl
same_many (first ∷ current) (suc replica) now = ap suc (same_many current replica now)

record AreIn (o : Opening) (current : List (Option ℕ)) : Type 0 where
  all : All IsSome current
  many : length current ≡ length o.replicas

set_in : (o : Opening) (current : List (Option ℕ)) (replica number : ℕ) → AreIn o current
    → AreIn o (slice_set current replica (Some number))
set_in o current replica number i = record {
  all = all_in current replica number i.all;
  many = same_many current replica (Some number) ∙ i.many;
}

module _ (seed size worker : ℕ) (o : Opening) (current : List (Option ℕ)) (i : AreIn o current)
  where
    in_after : (given : Gave) (asked : Did) (st : State) (held : Option ℕ)
        → IsLoads seed size worker asked → IsAnswer asked given st held
        → AreIn o (current_after given asked current)
    in_after (gave.Reloaded number) (did.Reload replica p expect) st held own is =
        set_in o current replica number i
    in_after (gave.Reloaded number) (did.Join replica p) st held own is = absurd own
    in_after (gave.Reloaded number) (did.Leave replica) st held own is = absurd own
    in_after (gave.Joined number) (did.Reload replica p expect) st held own is =
        set_in o current replica number i
    in_after (gave.Joined number) (did.Join replica p) st held own is = absurd own
    in_after (gave.Joined number) (did.Leave replica) st held own is = absurd own
    in_after (gave.Departed number) (did.Adopt replica) st held own is = absurd is
    in_after (gave.Departed number) (did.Fetch path) st held own is = absurd is
    in_after (gave.Departed number) (did.After path) st held own is = absurd is
    in_after (gave.Departed number) (did.Put path resource plain) st held own is = absurd is
    in_after (gave.Departed number) (did.Delete path) st held own is = absurd is
    in_after (gave.Departed number) (did.Replace path from) st held own is = absurd is
    in_after (gave.Departed number) did.LetGo st held own is = absurd is
    in_after (gave.Departed number) (did.Reload replica p expect) st held own is = absurd is
    in_after (gave.Departed number) (did.Join replica p) st held own is = absurd is
    in_after (gave.Departed number) (did.Leave replica) st held own is = absurd own
    in_after other asked st held own is = i

-- so no replica is answered to be gone
module _ (seed size worker : ℕ) (o : Opening) (st : State) (i : AreIn o st.current) where
  not_gone : (replica : ℕ) → replica < length o.replicas → current_of st replica ≡ None → ⊥
  not_gone replica below none =
      let some : IsSome (get_or st.current replica None) =
      i.all replica None (let many = i.many in omega (arith, below, many)) in
      absurd (false≢true (subst IsSome none some))

  none_gone : (asked : Did) (replica : ℕ) (held : Option ℕ) → IsLoads seed size worker asked
      → KeepsRules asked o → IsAnswer asked (gave.Gone replica) st held → ⊥
  none_gone (did.Adopt own) replica held is rules answer = not_gone own rules answer.2
  none_gone (did.Reload own p expect) replica held is rules answer =
      not_gone own rules.0 answer.1
  none_gone (did.Join own p) replica held is rules answer = is
  none_gone (did.Leave own) replica held is rules answer = is
  none_gone other replica held is rules answer = answer

-- ---- the generations

keyed_after : (seed size worker : ℕ) (given : Gave) (asked : Did)
    → IsLoads seed size worker asked → All Keyed (new_generations given asked)
keyed_after seed size worker (gave.Reloaded number) (did.Reload replica p expect) own =
    All-cons Keyed (record { replica = replica; published = p }) [] own (All-nil Keyed)
keyed_after seed size worker (gave.Reloaded number) (did.Join replica p) own = absurd own
keyed_after seed size worker (gave.Joined number) (did.Reload replica p expect) own =
    All-cons Keyed (record { replica = replica; published = p }) [] own (All-nil Keyed)
keyed_after seed size worker (gave.Joined number) (did.Join replica p) own = absurd own
keyed_after seed size worker other asked own = All-nil Keyed

-- what an entry names is one of them
published_keyed : (generations : List Generation) (number : Option ℕ) (p : Publication)
    → All Keyed generations → published_at generations number ≡ Some p → WritesByKey p.rows
published_keyed generations None p all is = absurd (none-some p is)
published_keyed [] (Some number) p all is = absurd (none-some p is)
published_keyed (g ∷ generations) (Some zero) p all is =
    subst (λ (q : Publication). WritesByKey q.rows) (same_Some g.published p is)
    (All-head Keyed g generations all)
published_keyed (g ∷ generations) (Some (suc number)) p all is =
    published_keyed generations (Some number) p (All-tail Keyed g generations all) is

-- ---- the rows

-- a row is of at most 200 bytes
abbrev pub IsSmall : LogRow → Type 0
IsSmall row = (k : ℕ) → length (row_bytes k row) ≤ 200

check_short : (check : Option Check) → length (check_bytes check) ≤ 8
check_short None = omega arith
check_short (Some check) = omega arith

value_short : (p : Publication) (path plain stored : List ℕ)
    → WritesByKey p.rows → length plain ≡ 32 → IsSealing p secrets path plain stored
    → length stored ≤ 90
value_short p path plain stored w long s =
    let size : length stored ≡ value_size p.seeds (writer_at p secrets) (length plain) =
    sealing_is_sized.size p.seeds (writer_at p secrets) path plain s.drawn stored s.fits s.is in
    let by : length stored ≡ length (prefix kind.Aesgcm w.name) + (12 + (length plain + 16)) =
    size ∙ ap (λ who. value_size p.seeds who (length plain)) w.writer in
    omega (arith, by, long, w.short)

put_small : (path stored : List ℕ) (check : Option Check) → length path ≤ 65
    → length stored ≤ 90 → IsSmall (put_of path secrets stored check)
put_small path stored check short few = λ k.
    let tail = check_bytes check ++ value_bytes stored in
    let rest = text_bytes secrets ++ tail in omega (
      arith,
      short,
      few,
      check_short check,
      length-append (to_be_bytes w64 k) (text_bytes path ++ rest),
      length-append (text_bytes path) rest,
      length-append (to_be_bytes w16 (length path)) path,
      length-append (text_bytes secrets) tail,
      length-append (check_bytes check) (value_bytes stored),
      length-append (to_be_bytes w32 (length stored)) stored,
    )

rows_few : (k : ℕ) (rows : List LogRow) → All IsSmall rows
    → length (rows_bytes k rows) ≤ 200 * length rows
rows_few k [] all = omega arith
rows_few k (row ∷ rows) all =
    let first = All-head IsSmall row rows all k in
    let rest = rows_few (k + 1) rows (All-tail IsSmall row rows all) in
    let both = length-append (row_bytes k row) (rows_bytes (k + 1) rows) in
    omega (arith, first, rest, both)

file_few : (format : Format) (rows : List LogRow) (row : LogRow) → All IsSmall rows
    → IsSmall row → file_size format rows row ≤ 8 + 200 * (length rows + 1)
file_few format rows row all small =
    let every = All-append IsSmall rows (row ∷ []) all
    (All-cons IsSmall row [] small (All-nil IsSmall)) in
    let few = rows_few 1 (rows ++ row ∷ []) every in
    let many = length-append rows (row ∷ []) in
    let front = length-append (magic format) (rows_bytes 1 (rows ++ row ∷ [])) in
    omega (arith, few, many, front)

-- what an entry would write is small
module _ (seed size worker : ℕ) (o : Opening) (st : State) (e : Entry) (few : worker < 4)
    (small : size ≤ 10000) (keyed : (p : Publication) → e.published ≡ Some p → WritesByKey p.rows)
  where
    -- it is a put of the configuration that the entry names
    record IsSmallPut (row : LogRow) : Type 0 where
      path : List ℕ
      stored : List ℕ
      check : Option Check
      row_is : row ≡ put_of path secrets stored check
      bytes : IsSmall row

    put_of_load : (path resource plain : List ℕ) (row : LogRow)
        → IsLoads seed size worker (did.Put path resource plain)
        → WouldWrite o.format (did.Put path resource plain) st.rows e.published row → IsSmallPut row
    put_of_load path resource plain row (number, below, path_is, resource_is, plain_is)
        (p, held, put) =
        let check = written_check o.format p resource in
        let sealing : IsSealing p secrets path plain put.stored =
        subst (λ r. IsSealing p r path plain put.stored) resource_is put.sealing in
        let long : length plain ≡ 32 =
        ap length plain_is ∙ piece_long seed (2 + worker * size + number) in
        let path_few : length path ≤ 65 =
        subst (λ (l : List ℕ). length l ≤ 65) (sym path_is)
        (path_short worker number few (omega (arith, below, small))) in
        let is : row ≡ put_of path secrets put.stored check =
        put.row_is ∙ ap (λ r. put_of path r put.stored check) resource_is in record {
          path = path;
          stored = put.stored;
          check = check;
          row_is = is;
          bytes = subst IsSmall (sym is) (put_small path put.stored check path_few
              (value_short p path plain put.stored (keyed p held) long sealing));
        }

    row_of_load : (asked : Did) (row : LogRow) → IsLoads seed size worker asked
        → WouldWrite o.format asked st.rows e.published row → IsSmallPut row
    row_of_load (did.Adopt replica) row own would = absurd would
    row_of_load (did.Fetch path) row own would = absurd would
    row_of_load (did.After path) row own would = absurd would
    row_of_load (did.Put path resource plain) row own would =
        put_of_load path resource plain row own would
    row_of_load (did.Delete path) row own would = absurd own
    row_of_load (did.Replace path from) row own would = absurd own
    row_of_load did.LetGo row own would = absurd would
    row_of_load (did.Reload replica p expect) row own would = absurd would
    row_of_load (did.Join replica p) row own would = absurd would
    row_of_load (did.Leave replica) row own would = absurd would

    -- the rows that it writes
    record AddsFew (added : List LogRow) : Type 0 where
      at_most : length added ≤ 1
      all : All IsSmall added

    none_few : AddsFew []
    none_few = record { at_most = omega arith; all = All-nil IsSmall }

    one_few : (row : LogRow) → IsSmall row → AddsFew (row ∷ [])
    one_few row small =
        record { at_most = omega arith; all = All-cons IsSmall row [] small (All-nil IsSmall) }

    put_few : (row : LogRow) (shown : Option stored_row.Row) (revision : ℕ) → IsSmallPut row
        → shown ≡ row_of revision row.path row.change → AddsFew (put_row shown)
    put_few row shown revision s is =
        let same : put_row (row_of revision row.path row.change) ≡ row ∷ [] =
        subst (λ (r : LogRow). put_row (row_of revision r.path r.change) ≡ r ∷ []) (sym s.row_is)
        refl in
        subst AddsFew (sym (ap put_row is ∙ same)) (one_few row s.bytes)

    written_few : (asked : Did) (revision : ℕ) (row : LogRow) (shown : Option stored_row.Row)
        → IsLoads seed size worker asked → IsSmallPut row
        → shown ≡ row_of revision row.path row.change → AddsFew (row_written_by asked shown)
    written_few (did.Adopt replica) revision row shown own s is = put_few row shown revision s is
    written_few (did.Fetch path) revision row shown own s is = put_few row shown revision s is
    written_few (did.After path) revision row shown own s is = absurd own
    written_few (did.Put path resource plain) revision row shown own s is =
        put_few row shown revision s is
    written_few (did.Delete path) revision row shown own s is = absurd own
    written_few (did.Replace path from) revision row shown own s is = absurd own
    written_few did.LetGo revision row shown own s is = put_few row shown revision s is
    written_few (did.Reload replica p expect) revision row shown own s is =
        put_few row shown revision s is
    written_few (did.Join replica p) revision row shown own s is = absurd own
    written_few (did.Leave replica) revision row shown own s is = absurd own

    rows_after : (given : Gave) (asked : Did) → e.line.did ≡ asked
        → IsLoads seed size worker asked → Writes given o st e
        → AddsFew (new_rows given asked e.row)
    rows_after (gave.Written revision) asked is own (row, would, fits, shown) =
        written_few asked revision row e.row own (row_of_load asked row own
        (subst (λ d. WouldWrite o.format d st.rows e.published row) is would)) shown
    rows_after (gave.Adopted number) asked is own w = none_few
    rows_after (gave.Gone replica) asked is own w = none_few
    rows_after (gave.Found revision) asked is own w = none_few
    rows_after gave.Absent asked is own w = none_few
    rows_after (gave.Changed last) asked is own w = none_few
    rows_after gave.StoreFailed asked is own w = none_few
    rows_after (gave.StoreFull needed) asked is own w = none_few
    rows_after gave.Released asked is own w = none_few
    rows_after (gave.Reloaded number) asked is own w = none_few
    rows_after (gave.Joined number) asked is own w = none_few
    rows_after (gave.Refused verdict) asked is own w = none_few
    rows_after (gave.Moved number) asked is own w = none_few
    rows_after (gave.Present number) asked is own w = none_few
    rows_after (gave.Departed number) asked is own w = none_few
    rows_after gave.Nothing asked is own w = none_few

    -- a store that has so few rows isn't full
    never_full : (needed : ℕ) → o.limit ≡ store_limit → All IsSmall st.rows
        → length st.rows ≤ 300000 → IsLoads seed size worker e.line.did
        → Writes (gave.StoreFull needed) o st e → ⊥
    never_full needed limit all many own (row, would, needed_is, passed) =
        let s = row_of_load e.line.did row own would in
        let size = file_few o.format st.rows row all s.bytes in
        omega (arith, size, many, needed_is, passed, limit)

-- ---- all of a history

module _ (seed size : ℕ) (small : size ≤ 10000) (o : Opening) where
  -- the state after so many entries
  record IsSound (st : State) (many : ℕ) : Type 0 where
    keyed : All Keyed st.generations
    replicas : AreIn o st.current
    rows : All IsSmall st.rows
    few : length st.rows ≤ many

  module _ (st : State) (many : ℕ) (s : IsSound st many) (e : Entry) (own : IsLoadEntry seed size e)
      (step : IsStep o st e) where
    keyed_now : All Keyed (after st e).generations
    keyed_now = All-append Keyed st.generations (new_generations e.line.gave e.line.did) s.keyed
        (keyed_after seed size (seat_of e) e.line.gave e.line.did own.asks)

    entry_keyed : (p : Publication) → e.published ≡ Some p → WritesByKey p.rows
    entry_keyed p is = published_keyed (after st e).generations (generation_named_in e.line) p
        keyed_now (sym (ap (λ (x : Entry). x.published) step.payload) ∙ is)

    one_more : IsSound (after st e) (many + 1)
    one_more =
        let added = rows_after seed size (seat_of e) o st e own.seat small entry_keyed
        e.line.gave e.line.did refl own.asks step.writes in
        let behind = new_rows e.line.gave e.line.did e.row in record {
          keyed = keyed_now;
          replicas = in_after seed size (seat_of e) o st.current s.replicas e.line.gave
              e.line.did st e.line.held own.asks step.answer;
          rows = All-append IsSmall st.rows behind s.rows added.all;
          few = omega (arith, s.few, added.at_most, length-append st.rows behind);
        }

  sound_from : (st : State) (many : ℕ) → IsSound st many → (history : List Entry)
      → All (IsLoadEntry seed size) history → IsRun o st history
      → IsSound (state_from st history) (many + length history)
  sound_from st many s [] all runs =
      subst (λ n. IsSound st n) (let e : many ≡ many + 0 = omega arith in e) s
  sound_from st many s (e ∷ history) all runs =
      let own = All-head (IsLoadEntry seed size) e history all in
      subst (λ n. IsSound (state_from (after st e) history) n)
      (let same : many + 1 + length history ≡ many + suc (length history) = omega arith in same)
      (sound_from (after st e) (many + 1) (one_more st many s e own runs.0) history
      (All-tail (IsLoadEntry seed size) e history all) runs.1)

  -- at its begin
  keyed_from : (replica : ℕ) (replicas : List (Option Publication))
      → All (λ rows. IfSome rows WritesByKey) (settings_of replicas)
      → All Keyed (generations_from replica replicas)
  keyed_from replica [] all = All-nil Keyed
  keyed_from replica (None ∷ replicas) all = keyed_from (replica + 1) replicas
      (All-tail (λ rows. IfSome rows WritesByKey) None (settings_of replicas) all)
  keyed_from replica (Some p ∷ replicas) all =
      let Is : Option (List ConfigEntry) → Type 0 = λ rows. IfSome rows WritesByKey in
      All-cons Keyed (record { replica = replica; published = p })
      (generations_from (replica + 1) replicas)
      (All-head Is (Some p.rows) (settings_of replicas) all)
      (keyed_from (replica + 1) replicas
      (All-tail Is (Some p.rows) (settings_of replicas) all))

  in_from : (number : ℕ) (replicas : List (Option Publication))
      → All IsSome (settings_of replicas) → All IsSome (current_from number replicas)
  in_from number [] all = All-nil IsSome
  in_from number (None ∷ replicas) all =
      absurd (false≢true (All-head IsSome None (settings_of replicas) all))
  in_from number (Some p ∷ replicas) all =
      All-cons IsSome (Some number) (current_from (number + 1) replicas) refl
      (in_from (number + 1) replicas (All-tail IsSome (Some p.rows) (settings_of replicas) all))

  many_from : (number : ℕ) (replicas : List (Option Publication))
      → length (current_from number replicas) ≡ length replicas
  many_from number [] = refl
  many_from number (None ∷ replicas) = ap suc (many_from number replicas)
  many_from number (Some p ∷ replicas) = ap suc (many_from (number + 1) replicas)

  -- both replicas open with such a configuration
  pub record OpensKeyed : Type 0 where
    pub rows : List ConfigEntry
    pub keyed : WritesByKey rows
    pub settings : settings_of o.replicas ≡ Some rows ∷ (Some rows ∷ [])
    pub blank : o.rows ≡ []
    pub limit : o.limit ≡ store_limit

  module _ (opens : OpensKeyed) where
    sound_first : IsSound (start_of o) 0
    sound_first =
        let Is : Option (List ConfigEntry) → Type 0 = λ rows. IfSome rows WritesByKey in record {
          keyed = keyed_from 0 o.replicas (subst (λ s. All Is s) (sym opens.settings)
              (All-cons Is (Some opens.rows) (Some opens.rows ∷ []) opens.keyed
              (All-cons Is (Some opens.rows) [] opens.keyed (All-nil Is))));
          replicas = record {
            all = in_from 0 o.replicas (subst (λ s. All IsSome s) (sym opens.settings)
                (All-cons IsSome (Some opens.rows) (Some opens.rows ∷ []) refl
                (All-cons IsSome (Some opens.rows) [] refl (All-nil IsSome))));
            many = many_from 0 o.replicas;
          };
          rows = subst (λ rows. All IsSmall rows) (sym opens.blank) (All-nil IsSmall);
          few = (let e = ap length opens.blank in omega (arith, e));
        }

    module _ (history : List Entry) (all : All (IsLoadEntry seed size) history)
        (runs : IsRun o (start_of o) history) (many : length history ≤ 300000) where
      module _ (front : List Entry) (e : Entry) (rest : List Entry)
          (is : history ≡ front ++ e ∷ rest) where
        all_so : All (IsLoadEntry seed size) (front ++ e ∷ rest)
        all_so = subst (λ l. All (IsLoadEntry seed size) l) is all

        own : IsLoadEntry seed size e
        own = at_middle (IsLoadEntry seed size) front e rest all_so

        step : IsStep o (state_from (start_of o) front) e
        step = step_there o (start_of o) front e rest (subst (IsRun o (start_of o)) is runs)

        sound : IsSound (state_from (start_of o) front) (length front)
        sound =
            let same : 0 + length front ≡ length front = omega arith in
            subst (λ n. IsSound (state_from (start_of o) front) n) same
            (sound_from (start_of o) 0 sound_first front
            (front_all (IsLoadEntry seed size) front (e ∷ rest) all_so)
            (front_runs o (start_of o) front (e ∷ rest) (subst (IsRun o (start_of o)) is runs)))

        -- what it names writes by a key
        pub names_keyed : (p : Publication) → e.published ≡ Some p → WritesByKey p.rows
        names_keyed = entry_keyed (state_from (start_of o) front) (length front) sound e own step

        pub is_not_gone : (replica : ℕ) → e.line.gave ≡ gave.Gone replica → ⊥
        is_not_gone replica says = none_gone seed size (seat_of e) o
            (state_from (start_of o) front) sound.replicas e.line.did replica e.line.held
            own.asks step.rules
            (subst (λ g. IsAnswer e.line.did g (state_from (start_of o) front) e.line.held) says
            step.answer)

        pub is_not_full : (needed : ℕ) → e.line.gave ≡ gave.StoreFull needed → ⊥
        is_not_full needed says = never_full seed size (seat_of e) o
            (state_from (start_of o) front) e own.seat small names_keyed needed opens.limit
            sound.rows
            (let few = sound.few in let part : length front ≤ length history =
            subst (λ (l : List Entry). length front ≤ length l) (sym is)
            (front_few front e rest) in omega (arith, few, part, many)) own.asks
            (subst (λ g. Writes g o (state_from (start_of o) front) e) says step.writes)
