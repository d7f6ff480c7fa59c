-- The rows of a store as the second format has them: one by one, and what they leave live.
use Rattle.std.proofs.Common.{◌≡◌, ℕ, zero, suc, ◌+◌, ◌<◌, List, [], ◌∷◌, ◌++◌, length, map, take, drop, get_or, Bool, true, false, Option, None, Some, refl, sym, ◌∙◌, ap, subst, arith, append-nil}
use Rattle.std.specs.Prelude.{IsSome, slice_get, if◌then◌else◌}
use Rattle.std.specs.Option.{option_map}
use Rattle.std.specs.Str.{bytes_eq}
use Rattle.std.proofs.lemmas.List.{append_assoc}
use Rattle.kr_config.specs.Kept.{ConfigEntry}
use Rattle.kr_config.specs.declared.who.Who.{Who}
use Rattle.kr_kms.proofs.Lent.{found_at, no_place}
use Rattle.kr_provider.specs.Readers.{is_reader, reader_in, reader_place}
use Rattle.kr_store.specs.Rows.{AllFollow, MayFollow, delete_of, later, latest_from, live, live_row, log_row_at, put_at, row_of, with_revision}
use Rattle.kr_store.specs.declared.format.Format.{Format}
use Rattle.kr_store.specs.declared.rows.Change.{Change}
use Rattle.kr_store.specs.declared.rows.Change.TheVariants.{Put, Delete}
use Rattle.kr_store.specs.declared.rows.LogRow.{LogRow}
use Rattle.kr_store.specs.declared.rows.Row as stored
use Rattle.kr_cmd_steps.specs.StoreSteps.{migrated_row}
use Rattle.kr_cmd_store.specs.inner.Migrating.{migrated_put}

-- ---- the reader of a value

pub reader_found : (list : List Who) (bytes : List ℕ) (place : ℕ) (who : Who)
    → reader_place list bytes ≡ Some place → who ≡ get_or list place who
    → reader_in list bytes ≡ Some who
reader_found list bytes place who e is = found_at (is_reader bytes) list place who e is

pub unread : (list : List Who) (bytes : List ℕ) → reader_place list bytes ≡ None
    → reader_in list bytes ≡ None
unread list bytes e = no_place (is_reader bytes) list e

-- ---- the row of a revision

pub row_there : (rows : List LogRow) (n : ℕ) → n < length rows
    → (row : LogRow) × (slice_get rows n ≡ Some row)
row_there [] n lt = absurd (omega (arith, lt))
row_there (row ∷ rows) zero lt = (row, refl)
row_there (row ∷ rows) (suc n) lt = row_there rows n (omega (arith, lt))

-- each keeps the rules behind those before it
pub follows_at : (format : Format) (before rows : List LogRow) (n : ℕ) (row : LogRow)
    → AllFollow format before rows → slice_get rows n ≡ Some row
    → MayFollow format (before ++ take n rows) row
follows_at format before (first ∷ rows) zero row all is =
    let same : first ≡ row = cc in
    subst (λ r. MayFollow format (before ++ []) r) same
    (subst (λ b. MayFollow format b first) (sym (append-nil before)) all.0)
follows_at format before (first ∷ rows) (suc n) row all is =
    subst (λ b. MayFollow format b row) (append_assoc before (first ∷ []) (take n rows))
    (follows_at format (before ++ first ∷ []) rows n row all.1 is)
follows_at format before [] other row all is = absurd (let none : None ≡ Some row = is in cc)

-- a put is lent as it is handed out
module _ (config : List ConfigEntry) where
  put_by : (k : ℕ) (path : List ℕ) (change : Change) (row : stored.Row)
      → row_of k path change ≡ Some row
      → migrated_row config (record { path = path; change = change }) ≡ migrated_put config row
  put_by k path (Put resource value check) row is =
      let given : stored.Row = record {
        path = path;
        resource = resource;
        revision = k;
        stored = value;
        check = check;
      } in
      let same : given ≡ row = cc in ap (migrated_put config) same
  put_by k path Delete row is = absurd (let none : None ≡ Some row = is in cc)

  put_among : (k : ℕ) (line : Option LogRow) (row : stored.Row)
      → live_row (with_revision k line) ≡ Some row
      → (found : LogRow) × (line ≡ Some found)
      × (migrated_row config found ≡ migrated_put config row)
  put_among k None row is = absurd (let none : None ≡ Some row = is in cc)
  put_among k (Some line) row is =
      (line, refl, put_by k line.path line.change row is)

  pub put_found : (rows : List LogRow) (k : ℕ) (row : stored.Row) → put_at rows k ≡ Some row
      → (found : LogRow) × (log_row_at rows k ≡ Some found)
      × (migrated_row config found ≡ migrated_put config row)
  put_found rows k row is = put_among k (log_row_at rows k) row is

  -- the line of a put that is lent
  pub put_lent : (rows : List LogRow) (k : ℕ) (row : stored.Row) (line : LogRow)
      → put_at rows k ≡ Some row → log_row_at rows k ≡ Some line
      → migrated_row config line ≡ migrated_put config row
  put_lent rows k row line is there =
      let found = put_among k (log_row_at rows k) row is in
      let both : Some found.0 ≡ Some line = sym found.1 ∙ there in
      let same : found.0 ≡ line = cc in
      subst (λ l. migrated_row config l ≡ migrated_put config row) same found.2

  -- and of a delete
  pub delete_lent : (rows : List LogRow) (k : ℕ) (path : List ℕ) (line : LogRow)
      → log_row_at rows k ≡ Some (delete_of path) → log_row_at rows k ≡ Some line
      → migrated_row config line ≡ delete_of path
  delete_lent rows k path line is there =
      let both : Some (delete_of path) ≡ Some line = sym is ∙ there in
      let same : delete_of path ≡ line = cc in
      sym (ap (migrated_row config) same)

  -- ---- rows one behind another

  abbrev pub all_of : List LogRow → List LogRow
  all_of rows = map (migrated_row config) rows

  pub next_of : (rows : List LogRow) (n : ℕ) (row : LogRow) → slice_get rows n ≡ Some row
      → drop n (all_of rows) ≡ migrated_row config row ∷ drop (suc n) (all_of rows)
  next_of (first ∷ rows) zero row is =
      let same : first ≡ row = cc in
      ap (λ r. migrated_row config r ∷ all_of rows) same
  next_of (first ∷ rows) (suc n) row is = next_of rows n row is
  next_of [] other row is = absurd (let none : None ≡ Some row = is in cc)

  pub one_more_of : (rows : List LogRow) (n : ℕ) (row : LogRow) → slice_get rows n ≡ Some row
      → all_of (take (suc n) rows) ≡ all_of (take n rows) ++ migrated_row config row ∷ []
  one_more_of (first ∷ rows) zero row is =
      let same : first ≡ row = cc in ap (λ r. migrated_row config r ∷ []) same
  one_more_of (first ∷ rows) (suc n) row is =
      ap (λ l. migrated_row config first ∷ l) (one_more_of rows n row is)
  one_more_of [] other row is = absurd (let none : None ≡ Some row = is in cc)

  -- ---- what is live

  abbrev found_so : ℕ × LogRow → ℕ × LogRow
  found_so found = (found.0, migrated_row config found.1)

  later_so : (a b : Option (ℕ × LogRow))
      → later (option_map found_so a) (option_map found_so b) ≡ option_map found_so (later a b)
  later_so None b = refl
  later_so (Some a) b = refl

  here_so : (q : Bool) (k : ℕ) (row : LogRow)
      → (if q then Some (k, migrated_row config row) else None)
      ≡ option_map found_so (if q then Some (k, row) else None)
  here_so true k row = refl
  here_so false k row = refl

  latest_so : (k : ℕ) (rows : List LogRow) (path : List ℕ)
      → latest_from k (all_of rows) path ≡ option_map found_so (latest_from k rows path)
  latest_so k [] path = refl
  latest_so k (row ∷ rows) path =
      ap (λ l. later l (if bytes_eq row.path path
      then Some (k, migrated_row config row) else None)) (latest_so (k + 1) rows path)
      ∙ ap (λ h. later (option_map found_so (latest_from (k + 1) rows path)) h)
      (here_so (bytes_eq row.path path) k row)
      ∙ later_so (latest_from (k + 1) rows path)
      (if bytes_eq row.path path then Some (k, row) else None)

  change_so : (k : ℕ) (path : List ℕ) (change : Change) (line : LogRow)
      → line ≡ record { path = path; change = change } → IsSome (row_of k path change)
      → IsSome (row_of k path (migrated_row config line).change)
  change_so k path (Put resource value check) line e h =
      subst (λ l. IsSome (row_of k path (migrated_row config l).change)) (sym e) refl
  change_so k path Delete line e h = absurd (let t : false ≡ true = h in cc)

  live_so : (found : Option (ℕ × LogRow)) → IsSome (live_row found)
      → IsSome (live_row (option_map found_so found))
  live_so None h = h
  live_so (Some found) h =
      change_so found.0 found.1.path found.1.change found.1 refl h

  -- a path that is live stays so
  pub live_of : (rows : List LogRow) (path : List ℕ) → IsSome (live rows path)
      → IsSome (live (all_of rows) path)
  live_of rows path h = subst (λ l. IsSome (live_row l)) (sym (latest_so 1 rows path))
      (live_so (latest_from 1 rows path) h)
