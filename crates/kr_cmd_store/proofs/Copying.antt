-- The rows of a migration, copied one behind another onto a tape that is out.
use Rattle.std.proofs.Common.{◌≡◌, ℕ, suc, ◌+◌, ◌<◌, ◌≤◌, ◌-◌, List, [], ◌∷◌, ◌++◌, length, map, take, drop, None, Some, Result, Ok, Err, sym, ◌∙◌, ap, subst, add-one, arith}
use Rattle.std.specs.Prelude.{IfOk, IsSome, slice_get}
use Rattle.std.proofs.lemmas.List.{drop_all, length-map, take_all}
use Rattle.kr_config.specs.Kept.{ConfigEntry}
use Rattle.kr_config.specs.Lists.{list_of}
use Rattle.kr_config.specs.declared.who.Who.{Who}
use Rattle.kr_provider.specs.Readers.{reader_in}
use Rattle.kr_store.specs.Rows.{AreRows, check_in, delete_of, live, log_row_at, put_of}
use Rattle.kr_store.specs.Stores.{Kept}
use Rattle.kr_store.specs.declared.format.Check as kept
use Rattle.kr_store.specs.declared.format.Format.{Format}
use Rattle.kr_store.specs.declared.format.Format.TheVariants.{Two}
use Rattle.kr_store.specs.declared.rows.LogRow.{LogRow}
use Rattle.kr_store.specs.declared.rows.Row as stored
use Rattle.kr_cmd_steps.specs.Environment.{Environment}
use Rattle.kr_cmd_steps.specs.Phases.{adding}
use Rattle.kr_cmd_steps.specs.StoreSteps.{copying, migrated_row, reader_check}
use Rattle.kr_cmd_steps.specs.StoreFiles.{Stored, with_row}
use Rattle.kr_cmd_steps.specs.inner.Lent.{with_lent_tape}
use Rattle.kr_cmd_store.specs.inner.Migrating.{HasCopied, IsNew, all_grown, migrated_put}
use Rattle.kr_cmd_steps.specs.inner.Phases.{Does}
use Rattle.kr_cmd_steps.specs.inner.Tapes.{HasOneMore, grown_by, stored_of}
use Rattle.kr_cmd_messages.specs.declared.refusal.Object.TheVariants.{Target}
use Rattle.kr_cmd_messages.specs.declared.refusal.Stop.{Stop}
use Rattle.kr_cmd_steps.proofs.RunTo.{given, goes_on, stops}
use Rattle.kr_cmd_store.proofs.MigratedRows.{follows_at, live_of, next_of, one_more_of, row_there}

-- as another line that is the same
pub as_line : (name : List ℕ) (store : Stored) {line other : LogRow} {old new : Environment}
    (result : Result (Unit {0}) Stop) → other ≡ line
    → Does (adding Target name store line) old new (grown_by line store result)
    → Does (adding Target name store other) old new (grown_by other store result)
as_line name store {old = old} {new} result same d =
    subst (λ l. Does (adding Target name store l) old new (grown_by l store result)) (sym same) d

-- what is put of a row is its line
pub line_is : (config : List ConfigEntry) (row : stored.Row) {path resource value name bytes : List ℕ}
    {list : List Who} {check : kept.Check} (format : Format) → format ≡ Two → path ≡ row.path
    → resource ≡ row.resource → value ≡ row.stored → name ≡ row.resource
    → list ≡ list_of config name → bytes ≡ row.stored
    → check ≡ reader_check (reader_in list bytes)
    → migrated_put config row ≡ put_of path resource value (check_in format check)
line_is config row {list = list} {check} format two path resource value name found bytes is =
    let check_is : Some (reader_check (reader_in (list_of config row.resource) row.stored))
    ≡ check_in format check =
    ap (λ n. Some (reader_check (reader_in (list_of config n) row.stored))) (sym name)
    ∙ ap (λ l. Some (reader_check (reader_in l row.stored))) (sym found)
    ∙ ap (λ b. Some (reader_check (reader_in list b))) (sym bytes) ∙ ap (λ k. Some k) (sym is)
    ∙ ap (λ f. check_in f check) (sym two) in
    λ i. put_of (sym path i) (sym resource i) (sym value i) (check_is i)

-- each revision up to the number of rows has one
pub no_row : (rows : List LogRow) (revision : ℕ) → 1 ≤ revision → revision ≤ length rows
    → log_row_at rows revision ≡ None → ⊥
no_row rows revision first last none =
    let found = row_there rows (revision - 1) (omega (arith, first, last)) in
    let e : revision ≡ suc (revision - 1) = omega (arith, first) in
    let both : None ≡ Some found.0 = sym none ∙ ap (log_row_at rows) e ∙ found.1 in absurd cc

module _ (config : List ConfigEntry) (source : List LogRow) where
  -- ---- one row

  -- the row before this revision
  row_before : (revision : ℕ) (row : LogRow) → 1 ≤ revision
      → log_row_at source revision ≡ Some row → slice_get source (revision - 1) ≡ Some row
  row_before revision row first is =
      let e : revision ≡ suc (revision - 1) = omega (arith, first) in
      ap (log_row_at source) (sym e) ∙ is

  -- a delete's path is live in what was copied
  pub live_before : (format : Format) (revision : ℕ) (path : List ℕ) (now : Kept)
      → AreRows format source → 1 ≤ revision
      → log_row_at source revision ≡ Some (delete_of path)
      → HasCopied config source (revision - 1) now → IsSome (live now.rows path)
  live_before format revision path now are first is copied =
      subst (λ rows. IsSome (live rows path)) (sym copied.rows)
      (live_of config (take (revision - 1) source) path
      (follows_at format [] source (revision - 1) (delete_of path) are
      (row_before revision (delete_of path) first is)).change)

  -- with one more row so many are copied
  pub copied_more : (revision : ℕ) (row line : LogRow) (old new : Kept) → 1 ≤ revision
      → log_row_at source revision ≡ Some row → migrated_row config row ≡ line
      → HasCopied config source (revision - 1) old → HasOneMore line old new
      → HasCopied config source revision new
  copied_more revision row line old new first is same copied more =
      let e : suc (revision - 1) ≡ revision = omega (arith, first) in record {
        format = more.format ∙ copied.format;
        rows = more.rows ∙ ap (λ rows. rows ++ line ∷ []) copied.rows
            ∙ ap (λ l. map (migrated_row config) (take (revision - 1) source) ++ l ∷ [])
            (sym same)
            ∙ sym (one_more_of config source (revision - 1) row
            (row_before revision row first is))
            ∙ ap (λ n. map (migrated_row config) (take n source)) e;
        within = more.within ∙ copied.within;
      }

  pub more_copied : (revision : ℕ) (row line : LogRow) (old new : Kept) → 1 ≤ revision
      → log_row_at source revision ≡ Some row → migrated_row config row ≡ line
      → HasCopied config source (revision - 1) old → (result : Result (Unit {0}) Stop)
      → IfOk result (λ done. HasOneMore line old new)
      → IfOk result (λ done. HasCopied config source revision new)
  more_copied revision row line old new first is same copied (Ok done) more =
      copied_more revision row line old new first is same copied more
  more_copied revision row line old new first is same copied (Err stop) more = tt

  -- ---- all of them

  abbrev lines : List LogRow
  lines = map (migrated_row config) source

  -- so many are copied, and what copying the rest does completes it
  pub record IsCopying (number : ℕ) (start now : Kept) : Type 0 where
    pub copied : HasCopied config source number now
    pub onward : (name : List ℕ) (a new : Environment) (result : Result Stored Stop)
        → Does (copying name (stored_of now) (drop number lines))
        (with_lent_tape name now.told now.count a) new result
        → Does (copying name (stored_of start) lines)
        (with_lent_tape name start.told start.count a) new result

  pub copies_none : (start : Kept) → IsNew start → IsCopying 0 start start
  copies_none start new = record {
    copied = record { format = new.format; rows = new.rows; within = new.within };
    onward = λ name a end result d. d;
  }

  module _ {number : ℕ} {start now : Kept} (so_far : IsCopying number start now) where
    module _ (new : Kept) (within : number < length source) where
      next_row : (row : LogRow) × (slice_get source number ≡ Some row)
      next_row = row_there source number within

      abbrev line_of : LogRow → LogRow
      line_of row = migrated_row config row

      -- what a row of this revision does
      abbrev DoesOne : Result (Unit {0}) Stop → Type 0
      DoesOne result = (row : LogRow) → log_row_at source (number + 1) ≡ Some row
          → (name : List ℕ) (a : Environment) → Does (adding Target name (stored_of now) (line_of row))
          (with_lent_tape name now.told now.count a) (with_lent_tape name new.told new.count a)
          (grown_by (line_of row) (stored_of now) result)

      row_is : log_row_at source (number + 1) ≡ Some next_row.0
      row_is = ap (log_row_at source) (add-one number) ∙ next_row.1

      rest_is : drop number lines ≡ line_of next_row.0 ∷ drop (suc number) lines
      rest_is = next_of config source number next_row.0 next_row.1

      with_it : HasCopied config source (number + 1) new
          → stored_of new ≡ with_row (line_of next_row.0) (stored_of now)
      with_it copied = λ i. record {
        format = (copied.format ∙ sym so_far.copied.format) i;
        rows = (copied.rows ∙ ap (λ n. map (migrated_row config) (take n source)) (add-one number)
            ∙ one_more_of config source number next_row.0 next_row.1
            ∙ ap (λ rows. rows ++ line_of next_row.0 ∷ []) (sym so_far.copied.rows)) i;
      }

      pub copies_more : (done : Unit {0}) → DoesOne (Ok done)
          → HasCopied config source (number + 1) new → IsCopying (number + 1) start new
      copies_more done one copied = record {
        copied = copied;
        onward = λ name a end result d. so_far.onward name a end result
            (subst (λ l. Does (copying name (stored_of now) l)
            (with_lent_tape name now.told now.count a) end result) (sym rest_is)
            (goes_on (adding Target name (stored_of now) (line_of next_row.0))
            (λ grown. copying name grown (drop (suc number) lines))
            (with_row (line_of next_row.0) (stored_of now))
            (one next_row.0 row_is name a)
            (subst (λ s. Does (copying name s (drop (suc number) lines))
            (with_lent_tape name new.told new.count a) end result) (with_it copied)
            (subst (λ k. Does (copying name (stored_of new) (drop k lines))
            (with_lent_tape name new.told new.count a) end result) (add-one number) d))));
      }

      pub copies_not : (stop : Stop) → DoesOne (Err stop) → (name : List ℕ) (a : Environment)
          → Does (copying name (stored_of start) lines)
          (with_lent_tape name start.told start.count a)
          (with_lent_tape name new.told new.count a) (Err stop)
      copies_not stop one name a = so_far.onward name a _ (Err stop)
          (subst (λ l. Does (copying name (stored_of now) l)
          (with_lent_tape name now.told now.count a)
          (with_lent_tape name new.told new.count a) (Err stop)) (sym rest_is)
          (stops (adding Target name (stored_of now) (line_of next_row.0))
          (λ grown. copying name grown (drop (suc number) lines)) stop
          (one next_row.0 row_is name a)))

    pub copies_all : (done : Unit {0}) → length source ≤ number → IsNew start
        → (name : List ℕ) (a : Environment) → Does (copying name (stored_of start) lines)
        (with_lent_tape name start.told start.count a)
        (with_lent_tape name now.told now.count a)
        (all_grown lines (stored_of start) (Ok done))
    copies_all done whole new name a = so_far.onward name a _ _
        (subst (λ l. Does (copying name (stored_of now) l) (Out now) (Out now)
        (all_grown lines (stored_of start) (Ok done))) (sym none_left)
        (subst (λ s. Does (copying name (stored_of now) []) (Out now) (Out now) (Ok s)) all_there
        (given (stored_of now) (Out now))))
      where
        Out : Kept → Environment
        Out store = with_lent_tape name store.told store.count a

        none_left : drop number lines ≡ []
        none_left = drop_all number lines
            (omega (arith, whole, length-map source (migrated_row config)))

        all_there : stored_of now ≡ record {
          format = start.format;
          rows = start.rows ++ lines;
        }
        all_there = λ i. record {
          format = (so_far.copied.format ∙ sym new.format) i;
          rows = (so_far.copied.rows
              ∙ ap (λ l. map (migrated_row config) l) (take_all number source whole)
              ∙ ap (λ l. l ++ lines) (sym new.rows)) i;
        }
