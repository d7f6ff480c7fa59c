-- The steps of a rewrite write one tape alone.
use Rattle.std.proofs.Common.{◌≡◌, ℕ, List, [], ◌∷◌, Bool, true, false, Option, None, Some, Result, Ok, Err, refl}
use Rattle.std.specs.Prelude.{nat_lt, length}
use Rattle.kr_kms.specs.Cache.{CacheState}
use Rattle.kr_kms.specs.declared.world.Access.TheVariants.{ToWrite}
use Rattle.kr_base.specs.Limits.{data_limit}
use Rattle.kr_config.specs.Kept.{ConfigEntry}
use Rattle.kr_config.specs.Lists.{list_of}
use Rattle.kr_provider.specs.PluginOrder.{plugin_order}
use Rattle.kr_provider.specs.Publication.{Publication}
use Rattle.kr_provider.specs.Readers.{writer_of}
use Rattle.kr_provider.specs.declared.refusal.Opened.{Opened}
use Rattle.kr_provider.specs.declared.refusal.ValueNo.{ValueNo}
use Rattle.kr_store.specs.Stores.{IsListing}
use Rattle.kr_store.specs.declared.rows.LogRow.{LogRow}
use Rattle.kr_store.specs.declared.rows.Row as stored
use Rattle.kr_cmd_steps.specs.RewriteSteps.{Progress, nothing_done, driving, one_rewritten, replacing, resealing, rewriting_by, rewriting_live, rewriting_on, row_anew, row_by, row_data, row_steps, starting, within_journal}
use Rattle.kr_cmd_steps.specs.Phases.{adding, by_result, configuration, linking_programs, settled_for, within_limit}
use Rattle.kr_cmd_steps.specs.Commands.{rewriting}
use Rattle.kr_cmd_steps.specs.ValueSteps.{value_read, value_sealed, none_kept}
use Rattle.kr_cmd_steps.specs.Plugins.{borrow_links, make_seeds, settings_programs}
use Rattle.kr_cmd_steps.specs.Steps.{borrow_dice, write_row, find, give, settle, and_then}
use Rattle.kr_cmd_steps.specs.StoreFiles.{Stored, with_row}
use Rattle.kr_cmd_messages.specs.declared.command.Rewriting.{Rewriting}
use Rattle.kr_cmd_messages.specs.declared.refusal.Object.TheVariants.{Store}
use Rattle.kr_cmd_messages.specs.declared.refusal.Outcome.{Outcome}
use Rattle.kr_cmd_messages.specs.declared.refusal.Refusal.{Refusal}
use Rattle.kr_cmd_laws.proofs.ReadOnly.{IsOnTape, configuration_reads, links_write, on_then, read_then, result_reads, sealed_reads, seeds_read, value_reads}

-- ---- rewrite

module _ (name : List ℕ) (p : Publication) where
  adding_is_on : (at : Progress) (row : LogRow) → IsOnTape name (adding Store name at.store row)
  adding_is_on at row u = on_then name (λ grown. write_row Store name at.store row (give grown))
      (λ grown. (refl, tt)) (by_result (within_limit (with_row row at.store)))
      (on_result (within_limit (with_row row at.store)))
    where
      on_result : {A : Type 0} (r : Result A Refusal) → IsOnTape name (by_result r)
      on_result (Ok x) = tt
      on_result (Err why) = tt

  replacing_is_on : (row : stored.Row) (at : Progress) (value : Option (List ℕ))
      → IsOnTape name (replacing name p row at value)
  replacing_is_on row at None = tt
  replacing_is_on row at (Some value) =
      let new = row_anew at.store.format p row value in
      on_then name (λ grown. give (one_rewritten new at)) (λ grown. tt)
      (adding Store name at.store new) (adding_is_on at new)

  resealing_is_on : (long : Bool) (row : stored.Row) (plain : List ℕ) (at : Progress)
      → IsOnTape name (resealing long name p row plain at)
  resealing_is_on true row plain at = tt
  resealing_is_on false row plain at =
      let who = writer_of (list_of p.rows row.resource) in
      read_then name (replacing name p row at) (replacing_is_on row at)
      (value_sealed p.seeds who row.path plain) (sealed_reads p.seeds who row.path plain)

  data_is_on : (row : stored.Row) (at : Progress) (plain : List ℕ) (stale : Bool)
      → IsOnTape name (row_data name p row at plain stale)
  data_is_on row at plain false = tt
  data_is_on row at plain true = λ u.
      resealing_is_on (nat_lt data_limit (length plain)) row plain at

  by_is_on : (row : stored.Row) (at : Progress) (read : Result Opened ValueNo)
      → IsOnTape name (row_by name p row at read)
  by_is_on row at (Ok opened) = data_is_on row at opened.plain opened.stale
  by_is_on row at (Err why) = tt

  row_is_on : (row : stored.Row) (kept : CacheState) (at : Progress)
      → IsOnTape name (row_steps name p row kept at)
  row_is_on row kept at =
      let list = list_of p.rows row.resource in
      read_then name (λ read. and_then (row_by name p row at read.0) (λ done. give (done, read.1)))
      (λ read. on_then name (λ done. give (done, read.1)) (λ done. tt)
      (row_by name p row at read.0) (by_is_on row at read.0))
      (value_read p.seeds list row.path row.stored kept)
      (value_reads p.seeds list row.path row.stored kept)

  driving_is_on : (live : List stored.Row) (kept : CacheState) (at : Progress)
      → IsOnTape name (driving name p live kept at)
  driving_is_on [] kept at = (refl, λ u. tt)
  driving_is_on (row ∷ live) kept at = (
    refl,
    on_then name (λ done. driving name p live done.1 done.0)
        (λ done. driving_is_on live done.1 done.0) (row_steps name p row kept at)
        (row_is_on row kept at),
  )

rewriting_by_is_on : (name : List ℕ) (rows : List ConfigEntry) (store : Stored) (live : List stored.Row)
    → IsOnTape name (rewriting_by name rows store live)
rewriting_by_is_on name rows store live u =
    read_then name (λ seeds. and_then (starting store.rows rows) (λ u.
    driving name (record { rows = rows; seeds = seeds }) live none_kept (nothing_done store)))
    (λ seeds. read_then name (λ u.
    driving name (record { rows = rows; seeds = seeds }) live none_kept (nothing_done store))
    (λ u. driving_is_on name (record { rows = rows; seeds = seeds }) live none_kept
    (nothing_done store))
    (starting store.rows rows) (λ started. result_reads started))
    (make_seeds (plugin_order rows)) (seeds_read (plugin_order rows))

pub rewriting_is_on : (words : Rewriting) → IsOnTape words.store (rewriting words)
rewriting_is_on words =
    let name = words.store in
    let behind = λ (made : Outcome). settle Store name (give made) in
    read_then name (λ rows. and_then (linking_programs words.options rows) (λ programs.
    settled_for Store name ToWrite (rewriting_on name rows programs)))
    (λ rows. read_then name
    (λ programs. settled_for Store name ToWrite (rewriting_on name rows programs))
    (λ programs. (
      refl,
      on_then name behind (λ made. tt) (rewriting_on name rows programs) (λ bytes read. read_then name (λ store. find (List stored.Row) (IsListing store.rows)
          (rewriting_live name rows programs store))
          (λ store live. read_then name (λ u.
          borrow_dice 0 (borrow_links programs (rewriting_by name rows store live)))
          (λ u. links_write (λ other. other ≡ name) programs (rewriting_by name rows store live)
          (rewriting_by_is_on name rows store live))
          (by_result (within_journal live)) (result_reads (within_journal live)))
          (by_result read) (result_reads read)),
    ))
    (linking_programs words.options rows)
    (λ u. result_reads (settings_programs words.options (plugin_order rows))))
    (configuration words.config) (configuration_reads words.config)
