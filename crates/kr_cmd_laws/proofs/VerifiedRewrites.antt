-- Where `verify` finds no value refused, a rewrite leaves none.
use Rattle.kr_kms.specs.Cache.{CacheState}
use Rattle.kr_kms.specs.Exchanges.{AgreeAll, AgreesWith, Exchange, UnwrapCall}
use Rattle.kr_kms.specs.Opens.{OpenAll, Opens}
use Rattle.kr_cmd_steps.specs.ValueSteps.{none_kept, draw_some, freshness, value_read, value_sealed}
use Rattle.kr_cmd_laws.specs.VerifyLaws.{listening, AreSealable, InPairs, IsSealable, RewriteLeavesNone, lookup_as, rewriting_as}
use Rattle.kr_cmd_laws.proofs.HeardBefore.{AllTold, seeds_open, told_before}
use Rattle.kr_cmd_laws.proofs.Kept.{AreHeld, none_held}
use Rattle.kr_cmd_laws.proofs.TrueReadings.{seeds_named, value_again, IsTrueReading, read_again, seed_there}
use Rattle.std.proofs.Common.{◌≡◌, ℕ, ◌+◌, ◌≤◌, zero, suc, Bool, true, false, List, [], ◌∷◌, length, map, Option, None, Some, Result, Ok, Err, Contains, refl, sym, ◌∙◌, ap, subst, inl, inr, arith}
use Rattle.std.specs.Prelude.{All, ⊤, IsSome, ◌==◌, ◌++◌, cond, nat_lt, if◌then◌else◌}
use Rattle.std.specs.List.{count_by}
use Rattle.std.specs.Option.{option_map}
use Rattle.std.proofs.lemmas.Bool.{eqb-true, le-ltb}
use Rattle.std.proofs.lemmas.List.Sums.{sum_by-cons}
use Rattle.std.proofs.lemmas.List.Elements.{All-cons, All-head, All-nil, All-tail}
use Rattle.kr_base.specs.Limits.{data_limit, store_limit}
use Rattle.kr_base.specs.Told.{Agrees}
use Rattle.kr_config.specs.Kept.{ConfigEntry, plugins_in}
use Rattle.kr_config.specs.Lists.{list_of}
use Rattle.kr_config.specs.declared.who.Who.{Who}
use Rattle.kr_config.specs.declared.who.Who.TheVariants as who
use Rattle.kr_kms.specs.declared.seeds.SeedRow.{SeedRow}
use Rattle.kr_kms.specs.declared.world.WorldCall.TheVariants.{Tape}
use Rattle.kr_kms.specs.declared.world.Access.TheVariants.{ToWrite}
use Rattle.kr_provider.proofs.PluginNames.{list_named}
use Rattle.kr_provider.proofs.PluginOrder.{order_has}
use Rattle.kr_provider.specs.PluginOrder.{plugin_order}
use Rattle.kr_provider.specs.Publication.{Publication, seed_of}
use Rattle.kr_provider.specs.Readers.{writer_of}
use Rattle.kr_provider.specs.Sealing.{draw_size, sealed_by, value_by}
use Rattle.kr_provider.specs.inner.Scan.{AreNamedIn, HasSeed, IsNamedIn}
use Rattle.kr_provider.specs.declared.refusal.Opened.{Opened}
use Rattle.kr_provider.specs.declared.refusal.ValueNo.{ValueNo}
use Rattle.kr_store.proofs.Listings.{listing_once}
use Rattle.kr_store.specs.File.{file_bytes}
use Rattle.kr_store.specs.Stores.{IsListing}
use Rattle.kr_store.specs.declared.rows.LogRow.{LogRow}
use Rattle.kr_store.specs.declared.rows.Row as stored
use Rattle.kr_cmd_messages.specs.Reports.{report_outcome}
use Rattle.kr_cmd_messages.specs.declared.command.Verification.{Verification}
use Rattle.kr_cmd_messages.specs.declared.refusal.Done.{Done}
use Rattle.kr_cmd_messages.specs.declared.refusal.Done.TheVariants.{Blocked, Silent}
use Rattle.kr_cmd_messages.specs.declared.refusal.Limit.TheVariants as limit
use Rattle.kr_cmd_messages.specs.declared.refusal.Object.TheVariants.{Store}
use Rattle.kr_cmd_messages.specs.declared.refusal.Outcome.{Outcome}
use Rattle.kr_cmd_messages.specs.declared.refusal.Refusal.{Refusal}
use Rattle.kr_cmd_messages.specs.declared.refusal.Refusal.TheVariants.{Limit}
use Rattle.kr_cmd_messages.specs.declared.report.RewriteCounts.{RewriteCounts}
use Rattle.kr_cmd_steps.specs.Environment.{Environment, step_state}
use Rattle.kr_cmd_steps.specs.RewriteSteps.{Progress, driving, nothing_done, one_rewritten, replacing, resealing, rewriting_by, rewriting_live, rewriting_on, row_anew, row_by, row_data, row_steps, starting, within_journal}
use Rattle.kr_cmd_steps.specs.Phases.{by_result, configuration, linking_programs, settled_for}
use Rattle.kr_cmd_steps.specs.Commands.{getting, rewriting}
use Rattle.kr_cmd_steps.specs.Configuration.{IsConfiguration}
use Rattle.kr_cmd_steps.specs.Plugins.{borrow_links, make_seeds}
use Rattle.kr_cmd_steps.specs.RowFindings.{finding_of, is_refused}
use Rattle.kr_cmd_steps.specs.Steps.{RunTo, StepState, Steps, amid, and_then, awaits, borrow_dice, give, gives, refuses, settle, with_asked, with_tape, write_row}
use Rattle.kr_cmd_steps.specs.StoreFiles.{IsStored, Stored, with_row}
use Rattle.kr_cmd_steps.specs.declared.finding.Finding.{Finding}
use Rattle.kr_cmd_steps.specs.declared.programs.Program.{Program}
use Rattle.kr_cmd_laws.proofs.Joints.{joint, no_value, one_value}
use Rattle.kr_cmd_laws.proofs.Listed.{one_stored}
use Rattle.kr_cmd_laws.proofs.OnePoint.{one_file, one_tape}
use Rattle.kr_cmd_laws.proofs.Once.{one_configuration}
use Rattle.kr_cmd_laws.proofs.VerifiedGets.{Comes, Found, IsConfigured, configured, found, linked, said_of}

-- ---- data that a provider seals

sealed_some : (seeds : List SeedRow) (w : Who) (path plain drawn : List ℕ)
    → HasSeed seeds w → IsSealable w plain → IsSome (value_by seeds w path plain drawn)
sealed_some seeds who.Identity path plain drawn has may =
    subst (λ q. IsSome (if q then None else Some plain)) (sym (may.1 refl)) refl
sealed_some seeds (who.Aescbc name secret) path plain drawn has may = refl
sealed_some seeds (who.Aesgcm name secret) path plain drawn has may = refl
sealed_some seeds (who.Kms name) path plain drawn has may = mapped _ (seed_of name seeds) has
  where
    mapped : (f : SeedRow → List ℕ) (o : Option SeedRow) → IsSome o → IsSome (option_map f o)
    mapped f None has = absurd cc
    mapped f (Some row) has = refl

within : (plain : List ℕ) → length plain ≤ data_limit → nat_lt data_limit (length plain) ≡ false
within plain short = le-ltb data_limit (length plain) (omega (arith, short))

is_sealed : (seeds : List SeedRow) (w : Who) (path plain drawn : List ℕ)
    → HasSeed seeds w → IsSealable w plain → IsSome (sealed_by seeds w path plain drawn)
is_sealed seeds w path plain drawn has may =
    subst (λ q. IsSome (if q then None else value_by seeds w path plain drawn))
    (sym (within plain may.0)) (sealed_some seeds w path plain drawn has may)

drawn_some : (size : ℕ) (sealed : List ℕ → Option (List ℕ)) (value : Option (List ℕ))
    (end left : StepState) → ((drawn : List ℕ) → IsSome (sealed drawn))
    → RunTo (gives value) end (draw_some size (λ d. give (sealed d))) left → IsSome value
drawn_some zero sealed value end left each at =
    subst (λ o. IsSome o) (sym (one_value at)) (each [])
drawn_some (suc more) sealed value end left each (inl at) = absurd (no_value at refl)
drawn_some (suc more) sealed value end left each (inr (bytes, rest, c, fits, at)) =
    subst (λ o. IsSome o) (sym (one_value at)) (each bytes)

value_some : (seeds : List SeedRow) (w : Who) (path plain : List ℕ) (value : Option (List ℕ))
    (end left : StepState) → HasSeed seeds w → IsSealable w plain
    → RunTo (gives value) end (value_sealed seeds w path plain) left → IsSome value
value_some seeds w path plain value end left has may (inl at) = absurd (no_value at refl)
value_some seeds w path plain value end left has may (inr (u, v, goes)) =
    drawn_some (draw_size w) (sealed_by seeds w path plain) value end left
    (λ drawn. is_sealed seeds w path plain drawn has may) goes

-- ---- a row

-- its value reads as data that are sealed, whatever was published
pub record IsKept (opens : Opens) (p : Publication) (row : stored.Row) : Type 0 where
  pub opened : Opened
  pub truly : IsTrueReading opens (list_of p.rows row.resource) row.path row.stored (Ok opened)
  pub may : IsSealable (writer_of (list_of p.rows row.resource)) opened.plain

-- all exchanges agree, one by one or together
each_agrees : (opens : Opens) (es : List Exchange) → AgreeAll opens es → All (AgreesWith opens) es
each_agrees opens [] agree = All-nil (AgreesWith opens)
each_agrees opens (e ∷ es) agree =
    All-cons (AgreesWith opens) e es agree.0 (each_agrees opens es agree.1)

all_agree : (opens : Opens) (es : List Exchange) → All (AgreesWith opens) es → AgreeAll opens es
all_agree opens [] all = tt
all_agree opens (e ∷ es) all = (
  All-head (AgreesWith opens) e es all,
  all_agree opens es (All-tail (AgreesWith opens) e es all),
)

module _ (opens : Opens) (name : List ℕ) (p : Publication)
    (open_all : OpenAll opens p.seeds)
    (seeded : (resource : List ℕ) → HasSeed p.seeds (writer_of (list_of p.rows resource)))
  where
    module _ (row : stored.Row) (at : Progress) (done : Progress) (end : StepState) where
      abbrev Leaves : Type 0
      Leaves = done.counts.left ≡ at.counts.left

      abbrev New : List ℕ → LogRow
      New value = row_anew at.store.format p row value

      added : (value : List ℕ) (large : Bool) (left : StepState)
          → RunTo (gives done) end (and_then (and_then
          (by_result
          (if large then Err (Limit limit.Store) else Ok (with_row (New value) at.store)))
          (λ grown. write_row Store name at.store (New value) (give grown)))
          (λ grown. give (one_rewritten (New value) at))) left → Leaves
      added value true left e = absurd (no_value e refl)
      added value false left (inl (told, begins, e)) = absurd (no_value e refl)
      added value false left (inr (told, holds, e)) =
          ap (λ (x : Progress). x.counts.left) (one_value e)

      replaced : (value : Option (List ℕ)) (left : StepState) → IsSome value
          → RunTo (gives done) end (replacing name p row at value) left → Leaves
      replaced None left some goes = absurd cc
      replaced (Some value) left some (inl e) = absurd (no_value e refl)
      replaced (Some value) left some (inr (u, v, goes)) = added value (nat_lt store_limit
          (length (file_bytes at.store.format (at.store.rows ++ New value ∷ [])))) left goes

      resealed : (plain : List ℕ) (left : StepState)
          → IsSealable (writer_of (list_of p.rows row.resource)) plain → (long : Bool)
          → nat_lt data_limit (length plain) ≡ long
          → RunTo (gives done) end (resealing long name p row plain at) left → Leaves
      resealed plain left may true is goes =
          absurd (let e : true ≡ false = sym is ∙ within plain may.0 in cc)
      resealed plain left may false is goes = so (joint (replacing name p row at) done end
          (value_sealed p.seeds (writer_of (list_of p.rows row.resource)) row.path plain) left goes)
        where
          so : (value : Option (List ℕ)) × (mid : StepState) × RunTo (gives value) mid
              (value_sealed p.seeds (writer_of (list_of p.rows row.resource)) row.path plain) left
              × RunTo (gives done) end (replacing name p row at value) mid → Leaves
          so (value, mid, sealed, goes) = replaced value mid (value_some p.seeds
              (writer_of (list_of p.rows row.resource)) row.path plain value mid left
              (seeded row.resource) may sealed) goes

      by_data : (plain : List ℕ) (stale : Bool) (left : StepState)
          → IsSealable (writer_of (list_of p.rows row.resource)) plain
          → RunTo (gives done) end (row_data name p row at plain stale) left → Leaves
      by_data plain false left may e = ap (λ (x : Progress). x.counts.left) (one_value e)
      by_data plain true left may (inl e) = absurd (no_value e refl)
      by_data plain true left may (inr (u, v, goes)) =
          resealed plain left may (nat_lt data_limit (length plain)) refl goes

      by_again : (read : Result Opened ValueNo) (left : StepState) (again : Opened) → read ≡ Ok again
          → IsSealable (writer_of (list_of p.rows row.resource)) again.plain
          → RunTo (gives done) end (row_by name p row at read) left → Leaves
      by_again read left again is may goes = by_data again.plain again.stale left may
          (subst (λ r. RunTo (gives done) end (row_by name p row at r) left) is goes)

    -- what plugins answered agrees
    abbrev Told : StepState → Type 0
    Told left = AllTold (AgreesWith opens) left.heard

    abbrev Held : CacheState → Type 0
    Held kept = AreHeld (λ key seed. AgreesWith opens (UnwrapCall key (Ok seed))) kept

    row_leaves : (row : stored.Row) (at : Progress) (done : Progress × CacheState)
        (end left : StepState) (kept : CacheState) → Held kept → Told end → IsKept opens p row
        → RunTo (gives done) end (row_steps name p row kept at) left
        → (done.0.counts.left ≡ at.counts.left) × Held done.1
    row_leaves row at done end left kept held told k goes =
        let behind : Result Opened ValueNo × CacheState → Steps (Progress × CacheState) =
        λ read. and_then (row_by name p row at read.0) (λ d. give (d, read.1)) in
        let value = value_read p.seeds (list_of p.rows row.resource) row.path row.stored kept in
        let j = joint behind done end value left goes in
        let i = joint (λ d. give (d, j.0.1)) done end (row_by name p row at j.0.0) j.1 j.3 in
        let same : done ≡ (i.0, j.0.1) = one_value i.3 in
        let late : Told i.1 = subst (λ (l : StepState). Told l) i.3.1 told in
        let before : Told j.1 = told_before (AgreesWith opens) (gives i.0) i.1 late
        (row_by name p row at j.0.0) j.1 i.2 in
        let v = value_again (AgreesWith opens) p.seeds (list_of p.rows row.resource) row.path
        row.stored j.0.0 kept j.0.1 j.1 left held before j.2 in
        let r = read_again opens (list_of p.rows row.resource) row.path row.stored k.opened j.0.0
        k.truly (v.truly opens (λ e agrees. agrees) open_all) in (
          ap (λ (x : Progress × CacheState). x.0.counts.left) same
              ∙ by_again row at i.0 i.1 j.0.0 j.1 r.0 r.1
              (subst (IsSealable (writer_of (list_of p.rows row.resource))) (sym r.2) k.may) i.2,
          subst Held (sym (ap (λ (x : Progress × CacheState). x.1) same)) v.held,
        )

    -- ---- all rows

    -- nothing more is left than before
    abbrev pub IsReported : Outcome → ℕ → Type 0
    IsReported made before =
        (counts : RewriteCounts) × (made ≡ report_outcome counts) × (counts.left ≡ before)

    row_behind : (row : stored.Row) (live : List stored.Row) (kept : CacheState) (at : Progress)
        (made : Outcome) (end : StepState) → Held kept → Told end
        → ((after : CacheState) (done : Progress) (next : StepState) → Held after
        → RunTo (gives made) end (driving name p live after done) next
        → IsReported made done.counts.left)
        → IsKept opens p row → (mid : StepState)
        → (done : Progress × CacheState) × (next : StepState)
        × RunTo (gives done) next (row_steps name p row kept at) mid
        × RunTo (gives made) end (driving name p live done.1 done.0) next
        → IsReported made at.counts.left
    row_behind row live kept at made end held told onward is mid (done, next, first, goes) =
        let l = row_leaves row at done next mid kept held (told_before (AgreesWith opens)
        (gives made) end told (driving name p live done.1 done.0) next goes) is first in
        let r = onward done.1 done.0 next l.1 goes in (r.0, r.1, r.2 ∙ l.0)

    pub drive_leaves : (live : List stored.Row) → All (IsKept opens p) live
        → (kept : CacheState) (at : Progress) (made : Outcome) (end left : StepState) → Held kept
        → Told end → RunTo (gives made) end (driving name p live kept at) left
        → IsReported made at.counts.left
    drive_leaves [] all kept at made end left held told (u, holds, inl e) =
        absurd (no_value e refl)
    drive_leaves [] all kept at made end left held told (u, holds, inr (v, w, e)) =
        (at.counts, one_value e, refl)
    drive_leaves (row ∷ live) all kept at made end left held told (u, holds, goes) =
        row_behind row live kept at made end held told
        (λ after done next h g. drive_leaves live (All-tail (IsKept opens p) row live all) after done
        made end next h told g) (All-head (IsKept opens p) row live all) _
        (joint (λ done. driving name p live done.1 done.0) made end (row_steps name p row kept at)
        _ goes)

-- ---- what the drive begins with

has_seed : (rows : List ConfigEntry) (seeds : List SeedRow) (w : Who)
    → map (λ row. row.name) seeds ≡ plugin_order rows → IsNamedIn (plugins_in rows) w
    → HasSeed seeds w
has_seed rows seeds (who.Kms name) names named = seed_there seeds name
    (subst (λ l. Contains l name) (sym names) ((order_has (plugins_in rows) name).1 named))
has_seed rows seeds other names named = tt

has_seeds : (rows : List ConfigEntry) (seeds : List SeedRow) (list : List Who)
    → map (λ row. row.name) seeds ≡ plugin_order rows → AreNamedIn (plugins_in rows) list
    → HasSeed seeds (writer_of list)
has_seeds rows seeds [] names named = tt
has_seeds rows seeds (w ∷ list) names named = has_seed rows seeds w names named.0

abbrev is_blocked : Done → Bool
is_blocked Blocked = true
is_blocked done = false

none_refused : (n : ℕ) → (if n == 0 then Silent else Blocked) ≡ Silent → n ≡ 0
none_refused n e = by_test (n == 0) refl e
  where
    by_test : (q : Bool) → (n == 0) ≡ q → (if q then Silent else Blocked) ≡ Silent → n ≡ 0
    by_test true is e = eqb-true n 0 is
    by_test false is e = absurd (let x : true ≡ false = ap is_blocked e in cc)

-- none of the first, and none of the others
none_first : (finding : Finding) (findings : List Finding)
    → count_by is_refused (finding ∷ findings) ≡ 0
    → (is_refused finding ≡ false) × (count_by is_refused findings ≡ 0)
none_first finding findings none = by_test (is_refused finding)
    (sym (sum_by-cons (λ x. cond (is_refused x) 1 0) finding findings) ∙ none)
  where
    by_test : (q : Bool) → cond q 1 0 + count_by is_refused findings ≡ 0
        → (q ≡ false) × (count_by is_refused findings ≡ 0)
    by_test true e = absurd (omega (arith, e))
    by_test false e = (refl, omega (arith, e))

module _ (opens : Opens) (words : Verification) (old : Environment) (made : Outcome)
    (f : Found (AgreesWith opens) words old made) (sealable : AreSealable opens words old)
    (seeds : List SeedRow) where
  abbrev published : Publication
  published = record { rows = f.rows; seeds = seeds }

  abbrev Kept : stored.Row → Type 0
  Kept row = IsKept opens published row

  abbrev Come : stored.Row → Finding → Type 0
  Come row finding = Comes (AgreesWith opens) f.rows
      (λ row. getting (lookup_as words row.path)) (step_state (listening old)) row finding

  kept_row : (row : stored.Row) (finding : Finding) → Contains f.live row
      → (c : Come row finding) → (read : Result Opened ValueNo) → c.read ≡ read
      → is_refused finding ≡ false → Kept row
  kept_row row finding there c (Err why) is some =
      absurd (let e : true ≡ false = ap is_refused (sym (c.is ∙ ap finding_of is)) ∙ some in cc)
  kept_row row finding there c (Ok opened) is some = record {
    opened = opened;
    truly = subst (IsTrueReading opens (list_of f.rows row.resource) row.path row.stored) is
        (c.truly opens (λ e agrees. agrees));
    may = sealable f.file f.rows f.live row
        (record { bytes = opened.plain; done = freshness opened.stale }) f.told f.means f.are_live
        there (
          c.told.0,
          all_agree opens c.told.0 c.told.2,
          record {
            end = c.other;
            goes = subst (λ r. RunTo (said_of r) c.other (getting (lookup_as words row.path))
                (step_state (listening old))) is c.goes;
            heard = c.told.1;
          },
        );
  }

  all_kept : (live : List stored.Row) (findings : List Finding)
      → ((row : stored.Row) → Contains live row → Contains f.live row)
      → count_by is_refused findings ≡ 0 → InPairs Come live findings → All Kept live
  all_kept [] [] sub none p = All-nil Kept
  all_kept (row ∷ live) (finding ∷ findings) sub none p =
      let n = none_first finding findings none in
      All-cons Kept row live
      (kept_row row finding (sub row (0, omega arith, refl)) p.0 p.0.read refl n.0)
      (all_kept live findings (λ r c. sub r (suc c.0, omega (arith, c.1), c.2)) n.1 p.1)
  all_kept other another sub none p = absurd p

-- ---- from the beginning

module _ (opens : Opens) (words : Verification) (old : Environment) (made : Outcome)
    (f : Found (AgreesWith opens) words old made)
    (file_told : IsSome (old.world.file words.config))
    (tape_told : IsSome (old.world.tapes.told words.store))
    (sealable : AreSealable opens words old)
    (silent : made.done ≡ Silent) where
  module _ (done : Outcome) (end : StepState) (told : AllTold (AgreesWith opens) end.heard) where
    abbrev IsNoneLeft : Type 0
    IsNoneLeft = (counts : RewriteCounts) × (done ≡ report_outcome counts) × (counts.left ≡ 0)

    no_refusal : count_by is_refused f.findings ≡ 0
    no_refusal = none_refused (count_by is_refused f.findings)
        (ap (λ (m : Outcome). m.done) (sym f.made_is) ∙ silent)

    module _ (programs : List Program) (base : Stored) where
      abbrev behind_seeds : List SeedRow → Steps Outcome
      behind_seeds seeds = and_then (starting base.rows f.rows) (λ u.
          driving words.store (record { rows = f.rows; seeds = seeds }) f.live none_kept
          (nothing_done base))

      at_start : (seeds : List SeedRow) (mid : StepState)
          → map (λ row. row.name) seeds ≡ plugin_order f.rows → OpenAll opens seeds
          → RunTo (gives done) end (behind_seeds seeds) mid → IsNoneLeft
      at_start seeds mid names all (inl e) = absurd (no_value e refl)
      at_start seeds mid names all (inr (Err why, none, e)) = absurd (no_value e refl)
      at_start seeds mid names all (inr (Ok u, may, goes)) = drive_leaves opens words.store
          (record { rows = f.rows; seeds = seeds }) all
          (λ resource. has_seeds f.rows seeds (list_of f.rows resource) names
          (list_named f.rows resource)) f.live
          (all_kept opens words old made f sealable seeds f.live f.findings (λ row c. c) no_refusal
          f.comes) none_kept (nothing_done base) done end mid
          (none_held (λ key seed. AgreesWith opens (UnwrapCall key (Ok seed)))) told goes

      at_seeds : (left : StepState)
          → RunTo (gives done) end (rewriting_by words.store f.rows base f.live) left → IsNoneLeft
      at_seeds left (inl e) = absurd (no_value e refl)
      at_seeds left (inr (u, v, goes)) =
          let j = joint behind_seeds done end (make_seeds (plugin_order f.rows)) left goes in
          at_start j.0 j.1 (seeds_named (plugin_order f.rows) j.0 j.1 left j.2)
          (seeds_open (AgreesWith opens) opens (λ e agrees. agrees) (plugin_order f.rows) j.0 j.1
          left (told_before (AgreesWith opens) (gives done) end told (behind_seeds j.0) j.1 j.3) j.2) j.3

      at_links : (links : List Program) (left : StepState)
          → RunTo (gives done) end (borrow_links links (rewriting_by words.store f.rows base f.live))
          left
          → IsNoneLeft
      at_links [] left goes = at_seeds left goes
      at_links (program ∷ links) left (inl e) = absurd (no_value e refl)
      at_links (program ∷ links) left (inr (inl e)) = absurd (no_value e refl)
      at_links (program ∷ links) left (inr (inr goes)) = at_links links _ goes

      at_room : (room : Result ⊤ Refusal) (left : StepState)
          → RunTo (gives done) end (and_then (by_result room) (λ u.
          borrow_dice 0 (borrow_links programs (rewriting_by words.store f.rows base f.live)))) left
          → IsNoneLeft
      at_room (Err why) left e = absurd (no_value e refl)
      at_room (Ok u) left (inl e) = absurd (no_value e refl)
      at_room (Ok u) left (inr (inl e)) = absurd (no_value e refl)
      at_room (Ok u) left (inr (inr goes)) = at_links programs _ goes

    -- the live rows are those that were verified
    same_rows : (bytes : List ℕ) (base : Stored) (listing : List stored.Row)
        → Agrees (old.world.tapes.told words.store) (Some bytes) → IsStored bytes (Ok base)
        → IsListing base.rows listing → listing ≡ f.live
    same_rows bytes base listing agrees is are =
        let l = f.are_live in
        let bytes_are : l.bytes ≡ bytes = one_tape (old.world.tapes.told words.store) bytes l.bytes
        tape_told agrees l.held in
        let same : Ok base ≡ Ok l.store = one_stored bytes (Ok base) (Ok l.store) is
        (subst (λ b. IsStored b (Ok l.store)) bytes_are l.read) in
        let base_is : base ≡ l.store = cc in
        listing_once l.store.rows listing f.live
        (subst (λ (s : Stored). IsListing s.rows listing) base_is are) l.listing

    on_tape : (programs : List Program) (lent : StepState) → lent.tapes ≡ old.world.tapes.told
        → RunTo (gives done) end (rewriting_on words.store f.rows programs) lent → IsNoneLeft
    on_tape programs lent tapes (inl e) = absurd (no_value e refl)
    on_tape programs lent tapes (inr (bytes, agrees, inl e)) = absurd (no_value e refl)
    on_tape programs lent tapes (inr (bytes, agrees, inr (Err why, is, e))) =
        absurd (no_value e refl)
    on_tape programs lent tapes (inr (bytes, agrees, inr (Ok base, is, inl e))) =
        absurd (no_value e refl)
    on_tape programs lent tapes
        (inr (bytes, agrees, inr (Ok base, is, inr (listing, are, goes)))) =
        at_room programs base (within_journal f.live) lent
        (subst (λ l. RunTo (gives done) end (rewriting_live words.store f.rows programs base l) lent)
        (same_rows bytes base listing
        (subst (λ (t : List ℕ → Option (Option (List ℕ))). Agrees (t words.store) (Some bytes))
        tapes agrees) is are) goes)

  module _ (done : Outcome) (end : StepState) (told : AllTold (AgreesWith opens) end.heard) where
    abbrev LeftNone : Outcome → Type 0
    LeftNone x = (counts : RewriteCounts) × (x ≡ report_outcome counts) × (counts.left ≡ 0)

    -- the tape is settled behind it
    settled_so : (programs : List Program) (lent : StepState) → lent.tapes ≡ old.world.tapes.told
        → (x : Outcome) × (mid : StepState)
        × RunTo (gives x) mid (rewriting_on words.store f.rows programs) lent
        × RunTo (gives done) end (settle Store words.store (give x)) mid
        → LeftNone done
    settled_so programs lent tapes (x, mid, goes, inl e) = absurd (no_value e refl)
    settled_so programs lent tapes (x, mid, goes, inr e) = subst LeftNone (sym (one_value e))
        (on_tape x mid
        (subst (λ (l : StepState). AllTold (AgreesWith opens) l.heard) e.1 told) programs
        lent tapes goes)

    at_tape : (programs : List Program) (mid : StepState) → mid.tapes ≡ old.world.tapes.told
        → RunTo (gives done) end
        (settled_for Store words.store ToWrite (rewriting_on words.store f.rows programs)) mid
        → LeftNone done
    at_tape programs mid tapes (inl e) = absurd (no_value e refl)
    at_tape programs mid tapes (inr (inl e)) = absurd (no_value e refl)
    at_tape programs mid tapes (inr (inr (inl (never, agrees, e)))) = absurd (no_value e refl)
    at_tape programs mid tapes (inr (inr (inr (may, goes)))) =
        let lent : StepState = with_tape false words.store (with_asked (Tape words.store ToWrite) mid) in
        settled_so programs lent tapes
        (joint (λ x. settle Store words.store (give x)) done end
        (rewriting_on words.store f.rows programs) lent goes)

    abbrev behind_files : List ConfigEntry → List Program → Steps Outcome
    behind_files rows programs =
        settled_for Store words.store ToWrite (rewriting_on words.store rows programs)

    with_programs : (rows : List ConfigEntry) (first : StepState) → IsConfigured words old rows first
        → (programs : List Program) × (second : StepState)
        × RunTo (gives programs) second (linking_programs words.options rows) first
        × RunTo (gives done) end (behind_files rows programs) second
        → LeftNone done
    with_programs rows first read (programs, second, is_linked, goes) =
        let file_is : f.file ≡ read.file = one_file (old.world.file words.config) read.file f.file
        file_told read.told f.told in
        let one : Ok rows ≡ Ok f.rows = one_configuration words.config read.file (Ok rows)
        (Ok f.rows) read.means (subst (λ x. IsConfiguration words.config x (Ok f.rows)) file_is f.means) in
        let rows_are : rows ≡ f.rows = cc in
        let same : second ≡ first = linked words old rows programs first second is_linked in
        at_tape programs second
        (ap (λ (l : StepState). l.tapes) same ∙ read.tapes)
        (subst (λ r. RunTo (gives done) end (behind_files r programs) second) rows_are goes)

    with_rows : (rows : List ConfigEntry) × (first : StepState)
        × RunTo (gives rows) first (configuration words.config) (step_state (listening old))
        × RunTo (gives done) end (and_then (linking_programs words.options rows) (behind_files rows))
        first
        → LeftNone done
    with_rows (rows, first, is_read, goes) = with_programs rows first
        (configured words old rows first is_read)
        (joint (behind_files rows) done end (linking_programs words.options rows) first goes)

    pub leaves_none : RunTo (gives done) end (rewriting (rewriting_as words))
        (step_state (listening old)) → LeftNone done
    leaves_none goes = with_rows (joint (λ rows. and_then (linking_programs words.options rows)
        (behind_files rows)) done end (configuration words.config) (step_state (listening old)) goes)

pub none_left : RewriteLeavesNone
none_left words old made (gives done) opens file tape sealable (es, all, verify) silent
    (own, agree, rewrite) =
    leaves_none opens words old made
    (found (AgreesWith opens) words old made verify.end
    (es, verify.heard, each_agrees opens es all) verify.goes) file tape sealable silent done
    rewrite.end (own, rewrite.heard, each_agrees opens own agree) rewrite.goes
none_left words old made other opens file tape sealable verify silent come = tt
