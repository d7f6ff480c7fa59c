-- Wherever a rewrite of a store ends, its tape has the rows that it had, and puts at live paths.
use Rattle.std.proofs.Common.{◌≡◌, ◌≢◌, ℕ, List, [], ◌∷◌, ◌++◌, length, Bool, true, false, Option, None, Some, Result, Ok, Err, refl, sym, ◌∙◌, ap, subst, inl, inr, append-nil, append_assoc}
use Rattle.std.specs.Prelude.{⊤, ◌⊎◌, nat_lt, if◌then◌else◌}
use Rattle.std.specs.Option.{option_map}
use Rattle.kr_base.specs.Faults.{Rose}
use Rattle.kr_base.specs.Limits.{data_limit, store_limit}
use Rattle.kr_base.specs.Told.{Agrees}
use Rattle.kr_config.specs.Kept.{ConfigEntry}
use Rattle.kr_config.specs.Lists.{list_of}
use Rattle.kr_kms.specs.Cache.{CacheState}
use Rattle.kr_kms.specs.Outside.{same_name}
use Rattle.kr_kms.specs.declared.seeds.SeedRow.{SeedRow}
use Rattle.kr_kms.specs.declared.world.Access.TheVariants.{ToWrite}
use Rattle.kr_provider.specs.PluginOrder.{plugin_order}
use Rattle.kr_provider.specs.Publication.{Publication}
use Rattle.kr_provider.specs.Readers.{writer_of}
use Rattle.kr_provider.specs.declared.refusal.Opened.{Opened}
use Rattle.kr_provider.specs.declared.refusal.ValueNo.{ValueNo}
use Rattle.kr_opening.specs.Checks.{written_check}
use Rattle.kr_store.specs.File.{file_bytes}
use Rattle.kr_store.specs.Stores.{IsListing}
use Rattle.kr_store.specs.declared.rows.LogRow.{LogRow}
use Rattle.kr_store.specs.declared.rows.Row as stored
use Rattle.kr_cmd_steps.specs.Afterwards.{ArePutsOf, KeepsRows, MayEndAmidRows, ToldTape, with_rows}
use Rattle.kr_cmd_steps.specs.RewriteSteps.{Progress, nothing_done, driving, one_fresh, one_left, one_rewritten, replacing, resealing, rewriting_by, rewriting_on, row_anew, row_by, row_data, row_steps, starting, within_journal}
use Rattle.kr_cmd_steps.specs.Phases.{by_result, configuration, linking_programs, settled_for}
use Rattle.kr_cmd_steps.specs.Commands.{rewriting}
use Rattle.kr_cmd_steps.specs.ValueSteps.{value_read, value_sealed, none_kept}
use Rattle.kr_cmd_steps.specs.Plugins.{borrow_links, make_seeds, settings_programs}
use Rattle.kr_cmd_steps.specs.Steps.{Steps, borrow_dice, give, settle, write_row, and_then, Point, awaits, amid, refuses, gives, StepState, IsAt, RunTo, with_said, with_told}
use Rattle.kr_cmd_steps.specs.StoreFiles.{Stored, IsStored, with_row, BeginsWith, HoldsRows}
use Rattle.kr_cmd_messages.specs.declared.command.Rewriting.{Rewriting}
use Rattle.kr_cmd_steps.specs.declared.programs.Program.{Program}
use Rattle.kr_cmd_messages.specs.declared.refusal.Limit as limits
use Rattle.kr_cmd_messages.specs.declared.refusal.Limit.TheVariants as limit
use Rattle.kr_cmd_messages.specs.declared.refusal.Object.TheVariants.{Store}
use Rattle.kr_cmd_messages.specs.declared.refusal.Outcome.{Outcome}
use Rattle.kr_cmd_messages.specs.declared.refusal.Refusal.{Refusal}
use Rattle.kr_cmd_messages.specs.declared.refusal.Refusal.TheVariants.{Limit}
use Rattle.kr_cmd_steps.proofs.RunTo.{Further}
use Rattle.kr_cmd_laws.proofs.Behind.{parted}
use Rattle.kr_cmd_laws.proofs.Parts.{parts}
use Rattle.kr_cmd_laws.proofs.RowLimits.{driving_refuses}
use Rattle.kr_cmd_steps.proofs.Points.{IsShort, IsTorn}
use Rattle.kr_cmd_laws.proofs.ReadOnly.{configuration_reads, result_reads, sealed_reads, seeds_read, value_reads}
use Rattle.kr_cmd_laws.proofs.Settled.{regroup}
use Rattle.kr_cmd_steps.proofs.Tapes.{own_name}

-- ---- what a tape holds

-- the tape has the rows of the store here
record Now (name : List ℕ) (store : Stored) (left : StepState) : Type 0 where
  pub told : Option (List ℕ)
  pub is_told : left.tapes name ≡ option_map Some told
  pub holds : HoldsRows store told

carried : {name : List ℕ} {store : Stored} {one other : StepState} → Now name store one
    → other.tapes ≡ one.tapes → Now name store other
carried {name} now e = record {
  told = now.told;
  is_told = ap (λ (tapes : List ℕ → ToldTape). tapes name) e ∙ now.is_told;
  holds = now.holds;
}

told_here : (name : List ℕ) (told : Option (List ℕ)) (tape : ToldTape)
    → (if same_name name name then option_map Some told else tape) ≡ option_map Some told
told_here name told tape = ap (λ q. if q then option_map Some told else tape) (own_name name)

-- where it is said that it has them
kept_here : (name : List ℕ) (store : Stored) (text : List ℕ) (left : StepState)
    (told : Option (List ℕ)) → HoldsRows store told
    → Now name store (with_said text (with_told name told left))
kept_here name store text left told holds = record {
  told = told;
  is_told = told_here name told (left.tapes name);
  holds = holds;
}

-- ---- a drive

-- the tape has the rows of the store and puts of some of the live rows up to one; each was reached,
-- or the steps came short; or a write of the next failed
pub record Grows (name : List ℕ) (point : Point Outcome) (end : StepState) (store : Stored)
    (live : List stored.Row) : Type 0 where
  pub met : List stored.Row
  pub rest : List stored.Row
  pub added : List LogRow
  pub told : Option (List ℕ)
  pub parts_are : met ++ rest ≡ live
  pub added_are : ArePutsOf added met
  pub is_told : end.tapes name ≡ option_map Some told
  pub holds : ((rest ≡ []) × HoldsRows (with_rows added store) told)
      ⊎ (IsShort point × HoldsRows (with_rows added store) told)
      ⊎ (IsTorn Store name point × (rest ≢ []) × BeginsWith (with_rows added store) told)

passed_by : (added : List LogRow) (row : stored.Row) (live : List stored.Row)
    → ArePutsOf added live → ArePutsOf added (row ∷ live)
passed_by [] row live are = tt
passed_by (put ∷ puts) row live are = inl are

some_left : (row : stored.Row) (live : List stored.Row) → row ∷ live ≢ []
some_left row live none = cc

module _ (name : List ℕ) (p : Publication) (point : Point Outcome) (end : StepState) where
  abbrev Grown : Stored → List stored.Row → Type 0
  Grown store live = Grows name point end store live

  -- what the tape tells of a store with no row more
  unchanged : (P : Stored → Type 0) (store : Stored) → P store → P (with_rows [] store)
  unchanged P store h = subst
      (λ (rows : List LogRow). P (record { format = store.format; rows = rows }))
      (sym (append-nil store.rows)) h

  -- the steps came short, and nothing more was added
  no_more : (store : Stored) (live : List stored.Row) → IsShort point → Now name store end
      → Grown store live
  no_more store live short now = record {
    met = [];
    rest = live;
    added = [];
    told = now.told;
    parts_are = refl;
    added_are = tt;
    is_told = now.is_told;
    holds = inr (inl (
      short,
      unchanged (λ held. HoldsRows held now.told) store now.holds,
    ));
  }

  -- no row is left
  no_row : (store : Stored) (mid : StepState) → Now name store mid → end ≡ mid → Grown store []
  no_row store mid now e = record {
    met = [];
    rest = [];
    added = [];
    told = now.told;
    parts_are = refl;
    added_are = tt;
    is_told = ap (λ (l : StepState). l.tapes name) e ∙ now.is_told;
    holds = inl (refl, unchanged (λ held. HoldsRows held now.told) store now.holds);
  }

  ends_so : (store : Stored) (live : List stored.Row) {here : Point Outcome} (mid : StepState)
      → Now name store mid → IsShort here → IsAt point end here mid → Grown store live
  ends_so store live mid now short at = no_more store live (subst IsShort (sym at.0) short)
      (subst (Now name store) (sym at.1) now)

  -- what follows grows the store
  abbrev Onward : (Progress → Steps Outcome) → List stored.Row → Type 0
  Onward next live =
      (at : Progress) (left : StepState) → RunTo point end (next at) left → Grown at.store live

  module _ (row : stored.Row) (live : List stored.Row) (next : Progress → Steps Outcome)
      (onward : Onward next live) (at : Progress) where
    abbrev New : List ℕ → LogRow
    New value = row_anew at.store.format p row value

    abbrev Behind : Type 0
    Behind = Grown at.store (row ∷ live)

    short_here : {here : Point Outcome} (mid : StepState) → Now name at.store mid → IsShort here
        → IsAt point end here mid → Behind
    short_here mid now short at_end = ends_so at.store (row ∷ live) mid now short at_end

    passed : Grown at.store live → Behind
    passed g = record {
      met = row ∷ g.met;
      rest = g.rest;
      added = g.added;
      told = g.told;
      parts_are = ap (λ rows. row ∷ rows) g.parts_are;
      added_are = passed_by g.added row g.met g.added_are;
      is_told = g.is_told;
      holds = g.holds;
    }

    put_behind : (value : List ℕ) → Grown (with_row (New value) at.store) live → Behind
    put_behind value g = record {
      met = row ∷ g.met;
      rest = g.rest;
      added = New value ∷ g.added;
      told = g.told;
      parts_are = ap (λ rows. row ∷ rows) g.parts_are;
      added_are = inr (
        (value, written_check at.store.format p row.resource, refl),
        g.added_are,
      );
      is_told = g.is_told;
      holds = subst (λ (rows : List LogRow).
          ((g.rest ≡ []) × HoldsRows (record { format = at.store.format; rows = rows }) g.told)
          ⊎ (IsShort point × HoldsRows (record { format = at.store.format; rows = rows }) g.told)
          ⊎ (IsTorn Store name point × (g.rest ≢ [])
          × BeginsWith (record { format = at.store.format; rows = rows }) g.told))
          (append_assoc at.store.rows (New value ∷ []) g.added) g.holds;
    }

    by_room : (value : List ℕ) (mid : StepState) → Now name at.store mid → (large : Bool)
        → RunTo point end (and_then (and_then (and_then
        (by_result (if large then Err (Limit limit.Store) else Ok (with_row (New value) at.store)))
        (λ grown. write_row Store name at.store (New value) (give grown)))
        (λ grown. give (one_rewritten (New value) at))) next) mid
        → Behind
    by_room value mid now true e = short_here mid now tt e
    by_room value mid now false (inl (told, begins, e)) = record {
      met = [];
      rest = row ∷ live;
      added = [];
      told = told;
      parts_are = refl;
      added_are = tt;
      is_told = ap (λ (l : StepState). l.tapes name) e.1 ∙ told_here name told (mid.tapes name);
      holds = inr (inr (
        subst (IsTorn Store name) (sym e.0) refl,
        some_left row live,
        unchanged (λ held. BeginsWith held told) at.store begins,
      ));
    }
    by_room value mid now false (inr (told, holds, goes)) =
        put_behind value (onward (one_rewritten (New value) at) _ goes)

    by_value : (value : Option (List ℕ)) (mid : StepState) → Now name at.store mid
        → RunTo point end (and_then (replacing name p row at value) next) mid → Behind
    by_value None mid now goes = passed (onward (one_left at) mid goes)
    by_value (Some value) mid now (inl e) = short_here mid now tt e
    by_value (Some value) mid now (inr (u, v, goes)) = by_room value mid now
        (nat_lt store_limit
        (length (file_bytes at.store.format (at.store.rows ++ New value ∷ [])))) goes

    by_size : (plain : List ℕ) (mid : StepState) → Now name at.store mid → (long : Bool)
        → RunTo point end (and_then (resealing long name p row plain at) next) mid → Behind
    by_size plain mid now true goes = passed (onward (one_left at) mid goes)
    by_size plain mid now false goes =
        let who = writer_of (list_of p.rows row.resource) in
        let sealed = value_sealed p.seeds who row.path plain in
        elim (parts (λ value. and_then (replacing name p row at value) next) point end sealed mid
        (sealed_reads p.seeds who row.path plain)
        (subst (λ s. RunTo point end s mid) (regroup sealed (replacing name p row at) next) goes)) [
          | inl e ↦ no_more at.store (row ∷ live) e.0 (carried now e.1)
          | inr m ↦ by_value m.0 m.1 (carried now m.2) m.3
        ]

    by_data : (plain : List ℕ) (mid : StepState) → Now name at.store mid → (stale : Bool)
        → RunTo point end (and_then (row_data name p row at plain stale) next) mid → Behind
    by_data plain mid now false goes = passed (onward (one_fresh at) mid goes)
    by_data plain mid now true (inl e) = short_here mid now tt e
    by_data plain mid now true (inr (u, v, goes)) =
        by_size plain mid now (nat_lt data_limit (length plain)) goes

    by_read : (read : Result Opened ValueNo) (mid : StepState) → Now name at.store mid
        → RunTo point end (and_then (row_by name p row at read) next) mid → Behind
    by_read (Ok opened) mid now goes = by_data opened.plain mid now opened.stale goes
    by_read (Err why) mid now goes = passed (onward (one_left at) mid goes)

  -- the row's value is read, with the seeds that are kept
  by_row : (row : stored.Row) (live : List stored.Row)
      (next : CacheState → Progress → Steps Outcome)
      (onward : (after : CacheState) → Onward (next after) live) (at : Progress) (mid : StepState)
      → Now name at.store mid → (kept : CacheState)
      → RunTo point end
      (and_then (row_steps name p row kept at) (λ done. next done.1 done.0)) mid
      → Grown at.store (row ∷ live)
  by_row row live next onward at mid now kept goes =
      let list = list_of p.rows row.resource in
      let value = value_read p.seeds list row.path row.stored kept in
      let others : Progress × CacheState → Steps Outcome = λ done. next done.1 done.0 in
      let behind : Result Opened ValueNo × CacheState → Steps (Progress × CacheState) =
      λ read. and_then (row_by name p row at read.0) (λ done. give (done, read.1)) in
      elim (parts (λ read. and_then (behind read) others) point end value mid
      (value_reads p.seeds list row.path row.stored kept)
      (subst (λ s. RunTo point end s mid) (regroup value behind others) goes)) [
        | inl e ↦ no_more at.store (row ∷ live) e.0 (carried now e.1)
        | inr m ↦ by_read row live (next m.0.1) (onward m.0.1) at m.0.0 m.1 (carried now m.2)
            (subst (λ s. RunTo point end s m.1)
            (regroup (row_by name p row at m.0.0) (λ done. give (done, m.0.1)) others) m.3)
      ]

  drive_grows : (live : List stored.Row) (kept : CacheState)
      → Onward (driving name p live kept) live
  drive_grows [] kept at left (told, holds, inl e) =
      ends_so at.store [] _ (kept_here name at.store _ left told holds) tt e
  drive_grows [] kept at left (told, holds, inr (u, v, e)) =
      no_row at.store _ (kept_here name at.store _ left told holds) e.1
  drive_grows (row ∷ live) kept at left (told, holds, goes) =
      by_row row live (λ after. driving name p live after) (drive_grows live) at _
      (kept_here name at.store _ left told holds) kept goes

-- ---- all of it

-- where the steps refuse anything it is that a limit would be passed
abbrev pub IsLimited : Point Outcome → Type 0
IsLimited (refuses why) = (which : limits.Limit) × (why ≡ Limit which)
IsLimited point = Unit {0}

-- the drive began
pub record Drove (name : List ℕ) (point : Point Outcome) (end left : StepState) : Type 0 where
  pub bytes : List ℕ
  pub store : Stored
  pub live : List stored.Row
  pub held : Agrees (left.tapes name) (Some bytes)
  pub read : IsStored bytes (Ok store)
  pub listing : IsListing store.rows live
  pub grows : Grows name point end store live
  pub limited : IsLimited point

abbrev pub MayDrive : (name : List ℕ) → Point Outcome → (end left : StepState) → Type 0
MayDrive name point end left =
    (IsShort point × (end.tapes ≡ left.tapes)) ⊎ Drove name point end left

module _ (words : Rewriting) (point : Point Outcome) (end left : StepState) where
  abbrev Kept : Type 0
  Kept = MayDrive words.store point end left

  -- it ends before the first row
  untouched : {here : Point Outcome} {mid : StepState} → mid.tapes ≡ left.tapes → IsShort here
      → IsAt point end here mid → Kept
  untouched same short at =
      inl (subst IsShort (sym at.0) short, ap (λ (l : StepState). l.tapes) at.1 ∙ same)

  ended : (mid : StepState) → mid.tapes ≡ left.tapes → IsShort point × (end.tapes ≡ mid.tapes) → Kept
  ended mid same e = inl (e.0, e.1 ∙ same)

  -- a drive refuses at a limit alone
  limited_by : (name : List ℕ) (p : Publication) (live : List stored.Row) (at : Progress)
      (kept : CacheState) (mid : StepState) (q : Point Outcome)
      → RunTo q end (driving name p live kept at) mid → IsLimited q
  limited_by name p live at kept mid (refuses why) goes =
      driving_refuses (λ cause. (which : limits.Limit) × (cause ≡ Limit which))
      (limit.Store, refl) name p live kept at why end mid goes
  limited_by name p live at kept mid other goes = tt

  module _ (rows : List ConfigEntry) (programs : List Program) (bytes : List ℕ) (base : Stored)
      (held : Agrees (left.tapes words.store) (Some bytes)) (is : IsStored bytes (Ok base))
      (live : List stored.Row) (listing : IsListing base.rows live) where
    abbrev behind_seeds : List SeedRow → Steps Outcome
    behind_seeds seeds = and_then (starting base.rows rows) (λ u.
        driving words.store (record { rows = rows; seeds = seeds }) live none_kept
        (nothing_done base))

    at_start : (seeds : List SeedRow) (mid : StepState) → mid.tapes ≡ left.tapes
        → RunTo point end (behind_seeds seeds) mid → Kept
    at_start seeds mid same (inl e) = untouched same tt e
    at_start seeds mid same (inr (Err why, none, e)) = untouched same tt e
    at_start seeds mid same (inr (Ok u, may, goes)) = inr (record {
      bytes = bytes;
      store = base;
      live = live;
      held = held;
      read = is;
      listing = listing;
      grows = drive_grows words.store (record { rows = rows; seeds = seeds }) point end live
          none_kept (nothing_done base) mid goes;
      limited = limited_by words.store (record { rows = rows; seeds = seeds }) live
          (nothing_done base) none_kept mid point goes;
    })

    at_seeds : (mid : StepState) → mid.tapes ≡ left.tapes
        → RunTo point end (rewriting_by words.store rows base live) mid → Kept
    at_seeds mid same (inl e) = untouched same tt e
    at_seeds mid same (inr (u, v, goes)) = elim (parts behind_seeds point end
        (make_seeds (plugin_order rows)) mid (seeds_read (plugin_order rows)) goes) [
          | inl e ↦ ended mid same e
          | inr m ↦ at_start m.0 m.1 (m.2 ∙ same) m.3
        ]

    at_links : (links : List Program) (mid : StepState) → mid.tapes ≡ left.tapes
        → RunTo point end (borrow_links links (rewriting_by words.store rows base live)) mid → Kept
    at_links [] mid same goes = at_seeds mid same goes
    at_links (program ∷ links) mid same (inl e) = untouched same tt e
    at_links (program ∷ links) mid same (inr (inl e)) = untouched same tt e
    at_links (program ∷ links) mid same (inr (inr goes)) = at_links links _ same goes

    at_room : (room : Result ⊤ Refusal) (mid : StepState) → mid.tapes ≡ left.tapes
        → RunTo point end (and_then (by_result room) (λ u.
        borrow_dice 0 (borrow_links programs (rewriting_by words.store rows base live)))) mid
        → Kept
    at_room (Err why) mid same e = untouched same tt e
    at_room (Ok u) mid same (inl e) = untouched same tt e
    at_room (Ok u) mid same (inr (inl e)) = untouched same tt e
    at_room (Ok u) mid same (inr (inr goes)) = at_links programs _ same goes

  on_tape : (rows : List ConfigEntry) (programs : List Program) (mid : StepState) → mid.tapes ≡ left.tapes
      → RunTo point end (rewriting_on words.store rows programs) mid → Kept
  on_tape rows programs mid same (inl e) = untouched same tt e
  on_tape rows programs mid same (inr (bytes, agrees, inl e)) = untouched same tt e
  on_tape rows programs mid same (inr (bytes, agrees, inr (Err why, is, e))) =
      untouched same tt e
  on_tape rows programs mid same (inr (bytes, agrees, inr (Ok base, is, inl e))) =
      untouched same tt e
  on_tape rows programs mid same
      (inr (bytes, agrees, inr (Ok base, is, inr (live, listing, goes)))) =
      at_room rows programs bytes base
      (subst (λ (tapes : List ℕ → ToldTape). Agrees (tapes words.store) (Some bytes)) same agrees)
      is live listing (within_journal live) _ same goes

module _ (words : Rewriting) (point : Point Outcome) (end left : StepState) where
  abbrev settling_it : Outcome → Steps Outcome
  settling_it made = settle Store words.store (give made)

  -- the settling leaves it so
  as_driven : (x : Outcome) (mid : StepState) → end.tapes ≡ mid.tapes → IsLimited point
      → Kept words (gives x) mid left → Kept words point end left
  as_driven x mid e limited (inl none) = absurd none.0
  as_driven x mid e limited (inr d) = inr (record {
    bytes = d.bytes;
    store = d.store;
    live = d.live;
    held = d.held;
    read = d.read;
    listing = d.listing;
    limited = limited;
    grows = record {
      met = d.grows.met;
      rest = d.grows.rest;
      added = d.grows.added;
      told = d.grows.told;
      parts_are = d.grows.parts_are;
      added_are = d.grows.added_are;
      is_told = ap (λ (t : List ℕ → ToldTape). t words.store) e ∙ d.grows.is_told;
      holds = elim d.grows.holds [
        | inl all ↦ inl all
        | inr more ↦ elim more [ inl short ↦ absurd short.0 | inr torn ↦ absurd torn.0 ]
      ];
    };
  })

  ended_so : (q : Point Outcome) (mid : StepState) → (point ≡ q) × (end ≡ mid) → Kept words q mid left
      → Kept words point end left
  ended_so q mid at d = subst (λ l. Kept words point l left) (sym at.1)
      (subst (λ r. Kept words r mid left) (sym at.0) d)

  settled_on : (q : Point Outcome) (mid : StepState) → Kept words q mid left
      → Further point end settling_it q mid → Kept words point end left
  settled_on (awaits call) mid d at = ended_so (awaits call) mid at d
  settled_on amid mid d at = ended_so amid mid at d
  settled_on (refuses why) mid d at = ended_so (refuses why) mid at d
  settled_on (gives x) mid d (inl at) =
      as_driven x mid (ap (λ l. l.tapes) at.1) (subst IsLimited (sym at.0) tt) d
  settled_on (gives x) mid d (inr at) =
      as_driven x mid (ap (λ l. l.tapes) at.1) (subst IsLimited (sym at.0) tt) d

  at_tape : (rows : List ConfigEntry) (programs : List Program) (mid : StepState) → mid.tapes ≡ left.tapes
      → RunTo point end
      (settled_for Store words.store ToWrite (rewriting_on words.store rows programs)) mid
      → Kept words point end left
  at_tape rows programs mid same (inl e) = untouched words point end left same tt e
  at_tape rows programs mid same (inr (inl e)) = untouched words point end left same tt e
  at_tape rows programs mid same (inr (inr (inl (never, agrees, e)))) =
      untouched words point end left same tt e
  at_tape rows programs mid same (inr (inr (inr (may, goes)))) =
      let r = parted settling_it point end (rewriting_on words.store rows programs) _ goes in
      settled_on r.0 r.1 (on_tape words r.0 r.1 left rows programs _ same r.2) r.3

  pub rows_kept : RunTo point end (rewriting words) left → Kept words point end left
  rows_kept goes = elim (parts (λ rows. and_then (linking_programs words.options rows)
      (λ programs. settled_for Store words.store ToWrite (rewriting_on words.store rows programs)))
      point end
      (configuration words.config) left (configuration_reads words.config) goes) [
        | inl e ↦ ended words point end left left refl e
        | inr first ↦ elim (parts (λ programs.
            settled_for Store words.store ToWrite (rewriting_on words.store first.0 programs)) point end
            (linking_programs words.options first.0) first.1
            (λ u. result_reads (settings_programs words.options (plugin_order first.0))) first.3) [
              | inl e ↦ ended words point end left first.1 first.2 e
              | inr second ↦ at_tape first.0 second.0 second.1
                  (second.2 ∙ first.2) second.3
            ]
      ]

-- ---- where the call ended

module _ (name : List ℕ) (point : Point Outcome) (end left : StepState) (is : ToldTape)
    (before count status : ℕ) (d : Drove name point end left) where
  abbrev Held : Type 0
  Held = HoldsRows (with_rows d.grows.added d.store) d.grows.told

  abbrev Begun : Type 0
  Begun = BeginsWith (with_rows d.grows.added d.store) d.grows.told

  -- a command that comes to its end has a status of its own
  abbrev IsDone : Type 0
  IsDone = (status ≡ 0) ⊎ (status ≡ 1)

  -- the status by what it says of where the steps came to
  pub keeps_rows : is ≡ end.tapes name
      → (IsTorn Store name point → (status ≡ 4) × Rose before count)
      → (IsShort point → MayEndAmidRows status) → IsDone ⊎ MayEndAmidRows status
      → KeepsRows status (left.tapes name) is before count
  keeps_rows same torn amid_rows any = record {
    bytes = d.bytes;
    store = d.store;
    met = d.grows.met;
    rest = d.grows.rest;
    added = d.grows.added;
    told = d.grows.told;
    held = d.held;
    read = d.read;
    listing = subst (IsListing d.store.rows) (sym d.grows.parts_are) d.listing;
    added_are = d.grows.added_are;
    holds = by d.grows.holds any;
    is_told = same ∙ d.grows.is_told;
  }
    where
      by : ((d.grows.rest ≡ []) × Held) ⊎ (IsShort point × Held)
          ⊎ (IsTorn Store name point × (d.grows.rest ≢ []) × Begun)
          → IsDone ⊎ MayEndAmidRows status
          → (IsDone × (d.grows.rest ≡ []) × Held) ⊎ (MayEndAmidRows status × Held)
          ⊎ ((status ≡ 4) × Rose before count × (d.grows.rest ≢ []) × Begun)
      by (inl all) (inl done) = inl (done, all.0, all.1)
      by (inl all) (inr some) = inr (inl (some, all.1))
      by (inr (inl short)) any = inr (inl (amid_rows short.0, short.1))
      by (inr (inr t)) any = let w = torn t.0 in inr (inr (w.0, w.1, t.1, t.2))
