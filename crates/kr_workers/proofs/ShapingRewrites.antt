-- The shape of a rewrite's part: the rows that it meets, one behind another, and what ends it.
use Rattle.std.specs.Prelude.{◌⊎◌, ⊤}
use Rattle.std.proofs.Common.{◌≡◌, ℕ, Bool, true, false, List, [], ◌∷◌, ◌++◌, Option, None, Some, Result, Ok, Err, inl, inr, refl, sym, subst, ◌∙◌}
use Rattle.std.proofs.lemmas.List.Elements.{All-append}
use Rattle.kr_base.specs.Faults.{Rose}
use Rattle.kr_base.proofs.Counting.{Rose-later}
use Rattle.kr_kms.specs.Calls.{Link}
use Rattle.kr_provider.specs.AskedLinks.{FaultRose}
use Rattle.kr_provider.specs.Envelopes.{Envelope}
use Rattle.kr_provider.specs.Names.{names_of}
use Rattle.kr_provider.specs.Publication.{Publication, writer_at}
use Rattle.kr_provider.specs.Sealing.{Seals}
use Rattle.kr_provider.specs.declared.refusal.Opened.{Opened}
use Rattle.kr_provider.specs.declared.refusal.SealNo.{SealNo}
use Rattle.kr_provider.specs.declared.refusal.SealNo.TheVariants as sealing
use Rattle.kr_provider.specs.declared.refusal.UnsealNo.{UnsealNo}
use Rattle.kr_provider.specs.declared.refusal.UnsealNo.TheVariants as unsealing
use Rattle.kr_provider.specs.declared.refusal.ValueNo.{ValueNo}
use Rattle.kr_provider.specs.declared.refusal.ValueNo.TheVariants as value
use Rattle.kr_provider.proofs.AskedLists.{rose_later}
use Rattle.kr_store.specs.declared.rows.Row.{Row}
use Rattle.kr_rollout.specs.declared.answer.Answer.{Answer}
use Rattle.kr_rollout.specs.declared.answer.Answer.TheVariants as answer
use Rattle.kr_rollout.specs.declared.event.Event.TheVariants as event
use Rattle.kr_rollout.specs.declared.line.Did.TheVariants as did
use Rattle.kr_rollout.specs.declared.line.Gave.{Gave}
use Rattle.kr_rollout.specs.declared.line.Gave.TheVariants as gave
use Rattle.kr_rollout.specs.declared.opening.Entry.{Entry}
use Rattle.kr_rollout.specs.Callers.{gave_of, holding}
use Rattle.kr_history.specs.Acting.{AddsEntry, Caller, IsCaller}
use Rattle.kr_history.specs.Calls.{AdoptsNothing, EndsEarly, LetsGo}
use Rattle.kr_history.specs.Parts.{Adds}
use Rattle.kr_history.specs.declared.call.CallNo.{CallNo}
use Rattle.kr_history.specs.declared.call.CallNo.TheVariants as refusal
use Rattle.kr_history.proofs.Following.{adopted_law, released_law, stays_law}
use Rattle.kr_history.proofs.Nexts.{caller_next}
use Rattle.kr_rewrite.specs.declared.outcome.Report.{Report}
use Rattle.kr_rewrite.specs.declared.outcome.Step.{Step}
use Rattle.kr_rewrite.specs.declared.outcome.Step.TheVariants as step
use Rattle.kr_rewrite.specs.Drives.{CoversLive, EndsByOver, IsDriveOver, StayLinks, WalksOver, last_of, path_of}
use Rattle.kr_rewrite.specs.Rewrites.{FindsNone, IsStepOver, ReadsFoundRow, ReplacesBy, ResealsBy, RewritesBy, RewritesData, RewritesOver, StepsOver, UnsealsRow}
use Rattle.kr_script.specs.declared.told.Told.{Told}
use Rattle.kr_workers.specs.Replies.{told_of_drive, told_of_refusal}
use Rattle.kr_workers.specs.Configurations.{AnySource, CannotBeSealed, HoldsDataWith, IsFresh, IsFreshWith, IsLeft, IsLeftWith, IsStale, IsStaleWith, ReadBy}
use Rattle.kr_workers.specs.RewriteParts.{IsFound, Passes}
use Rattle.kr_workers.specs.RewriteParts as shape
use Rattle.kr_workers.specs.Shapes.{HoldsPart, IsAlone, IsOne}
use Rattle.kr_workers.proofs.Shaping.{Holds, IfTold, IsOut, Mids, Parted, alone, has_done, held_parted, holds_entry, nothing_added, one_between, out_parted, part_here, parted_as, parted_both, parted_one, parted_same}

-- ---- how rows are read, and what a configuration makes of them

-- by what is fresh, stale, or left: what an answer makes of a row
module _ (IsFresh IsStale IsLeft : Publication → Row → Type 0) where
  abbrev pub MakesOf : Publication → Row → (plain : List ℕ) → (stale : Bool) → Type 0
  MakesOf p row plain false = IsFresh p row
  MakesOf p row plain true = IsStale p row
      × ((why : ValueNo) → CannotBeSealed p row.resource plain why → IsLeft p row)

  abbrev pub MakesBy : (Fails : (name : List ℕ) → Type 0) → Publication → Row
      → Result Opened UnsealNo → Type 0
  MakesBy Fails p row (Ok opened) = MakesOf p row opened.plain opened.stale
  MakesBy Fails p row (Err (unsealing.Refused why)) = IsLeft p row
  MakesBy Fails p row (Err (unsealing.PluginFailed name)) = Fails name × ReadBy name p row
  MakesBy Fails p row (Err unsealing.NoMemory) = ⊤

-- Rows are read by what answers, which stands so before and so behind; a plugin fails between
-- these. While this holds of it, what is read makes a row fresh, stale or left
pub record Reader (S : Type 0) : Type 1 where
  pub Reads : ReadsFoundRow S
  pub Meanwhile : S → S → Type 0
  pub Fails : (name : List ℕ) → (from to : S) → Type 0
  pub IsSo : S → Type 0
  pub IsFresh : Publication → Row → Type 0
  pub IsStale : Publication → Row → Type 0
  pub IsLeft : Publication → Row → Type 0
  pub later : (name : List ℕ) (a b c : S) → Meanwhile a b → Fails name b c → Fails name a c
  pub next : (p : Publication) (row : Row) (from : S) (opened : Result Opened UnsealNo) (to : S)
      → Reads p row from opened to → IsSo from → IsSo to
  pub makes : (p : Publication) (row : Row) (from : S) (opened : Result Opened UnsealNo) (to : S)
      → Reads p row from opened to → IsSo from
      → MakesBy IsFresh IsStale IsLeft (λ name. Fails name from to) p row opened

module _ {S : Type 0} (reader : Reader S) where
  abbrev MakesData : Publication → Row → (plain : List ℕ) → (stale : Bool) → Type 0
  MakesData = MakesOf reader.IsFresh reader.IsStale reader.IsLeft

  abbrev Makes : (Fails : (name : List ℕ) → Type 0) → Publication → Row
      → Result Opened UnsealNo → Type 0
  Makes = MakesBy reader.IsFresh reader.IsStale reader.IsLeft

  -- ---- the page of a rewrite, by what a configuration makes of a row

  abbrev pub Reseals : Publication → (above path : List ℕ) → Gave → (mids : List Entry) → Type 0
  Reseals = shape.Reseals reader.IsFresh reader.IsStale reader.IsLeft

  abbrev pub Meets : Publication → (above : List ℕ) → Step → (mids : List Entry) → Type 0
  Meets = shape.Meets reader.IsFresh reader.IsStale reader.IsLeft

  abbrev pub Meetings : (home : ℕ) → (above : List ℕ) → List Step
      → (Ends : (above : List ℕ) → List Entry → Type 0) → (part : List Entry) → Type 0
  Meetings = shape.Walks reader.IsFresh reader.IsStale reader.IsLeft

  -- ---- what a step does by the generation that is held

  -- a row was found, and a Replace of it was answered so
  abbrev pub Stops : Publication → (above : List ℕ) → Gave → List Entry → Type 0
  Stops p above given mids = (path : List ℕ) × Reseals p above path given mids

  -- a full store tells how large its file would be
  abbrev pub IsFull : Publication → (above : List ℕ) → List Entry → Type 0
  IsFull p above mids =
      (path : List ℕ) × (needed : ℕ) × Reseals p above path (gave.StoreFull needed) mids

  -- a stale row was found, and no more
  abbrev pub FindsStale : Publication → (above : List ℕ) → List Entry → Type 0
  FindsStale p above mids = (path : List ℕ) × Passes above path (reader.IsStale p) mids

  -- one that this plugin reads
  abbrev pub FindsRead : (above name : List ℕ) → Publication → List Entry → Type 0
  FindsRead above name p mids = (path : List ℕ) × Passes above path (ReadBy name p) mids

  -- there was no memory to find a row, to read and seal the one that was found, or to replace it
  abbrev pub Lacks : Publication → (above : List ℕ) → List Entry → Type 0
  Lacks p above mids = IsOne mids (did.After above) gave.Nothing (λ e. ⊤)
      ⊎ ((path : List ℕ) × Passes above path (λ row. ⊤) mids)
      ⊎ ((path : List ℕ) × Reseals p above path gave.Nothing mids)

  -- or to adopt the generation
  abbrev pub LacksAt : (own : ℕ) → (above : List ℕ) → List Entry → Type 0
  LacksAt own above part = (part ≡ []) ⊎ IsAlone (did.Adopt own) gave.Nothing part
      ⊎ HoldsPart own part (λ p number mids. Lacks p above mids)

  module _ {D : Type 0} (count : D → ℕ) (above : List ℕ) (from to : S) (dice after : D) where
    abbrev StepDoes : (number : ℕ) → Publication → (old new : Caller) → Result Step CallNo → Type 0
    StepDoes number p old new (Ok taken) = Parted (Mids number p (Meets p above taken)) old new
    StepDoes number p old new (Err (refusal.PluginFailed name)) = reader.Fails name from to
        × Parted (Mids number p (FindsRead above name p)) old new
    StepDoes number p old new (Err refusal.DiceFailed) = Rose (count dice) (count after)
        × Parted (Mids number p (FindsStale p above)) old new
    StepDoes number p old new (Err refusal.StoreFailed) =
        Parted (Mids number p (Stops p above gave.StoreFailed)) old new
    StepDoes number p old new (Err (refusal.StoreFull needed)) =
        Parted (Mids number p (IsFull p above)) old new
    StepDoes number p old new (Err refusal.Spent) = ⊤
    StepDoes number p old new (Err refusal.NoMemory) =
        Parted (Mids number p (Lacks p above)) old new
    StepDoes number p old new (Err why) = ⊥

    -- with the Adopt before it and the LetGo behind it; then the seat holds nothing
    abbrev StepAdds : (own : ℕ) → (old new : Caller) → Result Step CallNo → Type 0
    StepAdds own old new (Ok taken) =
        Parted (λ part. HoldsPart own part (λ p number mids. Meets p above taken mids)) old new
        × (holding new.mine ≡ None)
    StepAdds own old new (Err (refusal.PluginFailed name)) = reader.Fails name from to
        × Parted (λ part. HoldsPart own part (λ p number mids. FindsRead above name p mids)) old new
    StepAdds own old new (Err refusal.DiceFailed) = Rose (count dice) (count after)
        × Parted (λ part. HoldsPart own part (λ p number mids. FindsStale p above mids)) old new
    StepAdds own old new (Err refusal.StoreFailed) =
        Parted (λ part. HoldsPart own part (λ p number mids. Stops p above gave.StoreFailed mids))
        old new
    StepAdds own old new (Err (refusal.StoreFull needed)) =
        Parted (λ part. HoldsPart own part (λ p number mids. IsFull p above mids)) old new
    StepAdds own old new (Err refusal.Gone) = Parted (IsOut own) old new
    StepAdds own old new (Err refusal.Spent) = ⊤
    StepAdds own old new (Err refusal.NoMemory) = Parted (LacksAt own above) old new
    StepAdds own old new (Err why) = ⊥

  -- ---- a row that was found

  module _ {D : Type 0} (left : D → Option (List ℕ)) (count : D → ℕ) (number : ℕ)
      (p : Publication) (above : List ℕ) (from to : S) (dice after : D) (old found new : Caller)
      (row : Row) (k : IsCaller old)
      (held : holding old.mine ≡ Some (number, p))
      (finds : AddsEntry old (event.After above) (answer.Found row) found) where
    abbrev RowDoes : Result Step CallNo → Type 0
    RowDoes result = StepDoes count above from to dice after number p old new result

    row_found : (Is : Row → Type 0) → Is row
        → IsFound above row.path row.revision finds.entry Is
    row_found Is is = record {
      does = has_done old found (event.After above) (answer.Found row) finds;
      row = row;
      row_is = finds.records.shows;
      path_is = refl;
      is = is;
    }

    found_alone : (Is : List Entry → Type 0) → new ≡ found → Is (finds.entry ∷ [])
        → Parted (Mids number p Is) old new
    found_alone Is same is = subst (λ (c : Caller). Parted (Mids number p Is) old c) (sym same)
        (parted_one (Mids number p Is) old found (event.After above) (answer.Found row) finds
        (holds_entry number p old found (event.After above) (answer.Found row) k held finds, is))

    passed : (Is : Row → Type 0) → Is row → Passes above row.path Is (finds.entry ∷ [])
    passed Is is = record {
      revision = row.revision;
      find = finds.entry;
      mids_are = refl;
      finds = row_found Is is;
    }

    found_lacking : new ≡ found → Parted (Mids number p (Lacks p above)) old new
    found_lacking same =
        found_alone (Lacks p above) same (inr (inl (row.path, passed (λ row. ⊤) tt)))

    found_stale : reader.IsStale p row → new ≡ found
        → Parted (Mids number p (FindsStale p above)) old new
    found_stale stale same =
        found_alone (FindsStale p above) same (row.path, passed (reader.IsStale p) stale)

    module _ (stale : reader.IsStale p row) (stored : List ℕ) (given : Answer)
        (a : AddsEntry found (event.Replace row.path row.revision stored) given new) where
      resealed : Reseals p above row.path (gave_of given) (finds.entry ∷ (a.entry ∷ []))
      resealed = record {
        revision = row.revision;
        find = finds.entry;
        replace = a.entry;
        mids_are = refl;
        finds = row_found (reader.IsStale p) stale;
        replaces = has_done found new (event.Replace row.path row.revision stored) given a;
      }

      both_entries : (Is : List Entry → Type 0) → Is (finds.entry ∷ (a.entry ∷ []))
          → Parted (Mids number p Is) old new
      both_entries Is is =
          let asked = event.Replace row.path row.revision stored in
          let First : List Entry → Type 0 = λ part. part ≡ finds.entry ∷ [] in
          let Second : List Entry → Type 0 = λ part. part ≡ a.entry ∷ [] in
          parted_both First Second (Mids number p Is) old found new
          (parted_one First old found (event.After above) (answer.Found row) finds refl)
          (parted_one Second found new asked given a refl)
          (λ first second e f. subst (Mids number p Is) (λ i. sym e i ++ sym f i) (
            All-append (Holds number p) (finds.entry ∷ []) (a.entry ∷ [])
                (holds_entry number p old found (event.After above) (answer.Found row) k held finds)
                (holds_entry number p found new asked given
                (caller_next old found (event.After above) (answer.Found row) finds k)
                (stays_law old found (event.After above) (answer.Found row) tt finds ∙ held) a),
            is,
          ))

    replaced : reader.IsStale p row → (stored : List ℕ) (given : Answer)
        (result : Result Step CallNo)
        → AddsEntry found (event.Replace row.path row.revision stored) given new
        → ReplacesBy row.path given result → RowDoes result
    replaced stale stored (answer.Written revision) result a r = subst RowDoes (sym r)
        (both_entries stale stored (answer.Written revision) a
        (Meets p above (step.Rewritten row.path))
        (revision, resealed stale stored (answer.Written revision) a))
    replaced stale stored (answer.Changed last) result a r = subst RowDoes (sym r)
        (both_entries stale stored (answer.Changed last) a (Meets p above (step.Changed row.path))
        (last, resealed stale stored (answer.Changed last) a))
    replaced stale stored answer.StoreFailed result a r = subst RowDoes (sym r)
        (both_entries stale stored answer.StoreFailed a (Stops p above gave.StoreFailed)
        (row.path, resealed stale stored answer.StoreFailed a))
    replaced stale stored (answer.StoreFull needed) result a r = subst RowDoes (sym r)
        (both_entries stale stored (answer.StoreFull needed) a (IsFull p above)
        (row.path, needed, resealed stale stored (answer.StoreFull needed) a))
    replaced stale stored answer.NoMemory result a r = subst RowDoes (sym r)
        (both_entries stale stored answer.NoMemory a (Lacks p above)
        (inr (inr (row.path, resealed stale stored answer.NoMemory a))))
    replaced stale stored other result a r = absurd r

    sealed_anew : (plain : List ℕ) → MakesData p row plain true
        → (sealed : Result (List ℕ) SealNo) (result : Result Step CallNo)
        → Seals left count p.seeds (writer_at p row.resource) row.path plain dice after sealed
        → ResealsBy p row plain sealed found result new → RowDoes result
    sealed_anew plain m (Ok stored) result s (inl r) =
        replaced m.0 stored r.given result r.replaces r.answers
    sealed_anew plain m (Ok stored) result s (inr n) = subst RowDoes (sym n.1) tt
    sealed_anew plain m (Err sealing.LooksEncrypted) result s r = subst RowDoes (sym r.0)
        (found_alone (Meets p above (step.Left row.path)) r.1
        (passed (reader.IsLeft p) (m.1 value.LooksEncrypted (s.1, s.2))))
    sealed_anew plain m (Err (sealing.TooLarge size)) result s r = subst RowDoes (sym r.0)
        (found_alone (Meets p above (step.Left row.path)) r.1
        (passed (reader.IsLeft p) (m.1 value.TooLarge s.1)))
    sealed_anew plain m (Err sealing.DiceFailed) result s r =
        subst RowDoes (sym r.0) (s.2, found_stale m.0 r.1)
    sealed_anew plain m (Err sealing.NoMemory) result s r =
        subst RowDoes (sym r.0) (found_lacking r.1)

    data_rewritten : (plain : List ℕ) (stale : Bool) (result : Result Step CallNo)
        → MakesData p row plain stale
        → RewritesData left count p row plain stale found dice result new after → RowDoes result
    data_rewritten plain false result m r = subst RowDoes (sym r.0)
        (found_alone (Meets p above (step.Fresh row.path)) r.1 (passed (reader.IsFresh p) m))
    data_rewritten plain true result m (inl r) =
        sealed_anew plain m r.sealed result r.seals r.reseals
    data_rewritten plain true result m (inr c) = subst RowDoes (sym c.0) (found_lacking c.1)

    opened_rewritten : (opened : Result Opened UnsealNo) (result : Result Step CallNo)
        → Makes (λ name. reader.Fails name from to) p row opened
        → RewritesBy left count p row opened found dice result new after → RowDoes result
    opened_rewritten (Ok opened) result m r =
        data_rewritten opened.plain opened.stale result m r
    opened_rewritten (Err (unsealing.Refused why)) result m r = subst RowDoes (sym r.0)
        (found_alone (Meets p above (step.Left row.path)) r.1 (passed (reader.IsLeft p) m))
    opened_rewritten (Err (unsealing.PluginFailed name)) result m r = subst RowDoes (sym r.0)
        (m.0, found_alone (FindsRead above name p) r.1 (row.path, passed (ReadBy name p) m.1))
    opened_rewritten (Err unsealing.NoMemory) result m r =
        subst RowDoes (sym r.0) (found_lacking r.1)

    row_rewritten : (result : Result Step CallNo) → reader.IsSo from
        → RewritesOver reader.Reads left count p row found from dice result new to after
        → RowDoes result
    row_rewritten result so (inl o) = opened_rewritten o.opened result
        (reader.makes p row from o.opened to o.unseals so) o.rewrites
    row_rewritten result so (inr c) = subst RowDoes (sym c.0.0) (found_lacking c.0.1)

  -- ---- what answers, behind each

  module _ {D : Type 0} (left : D → Option (List ℕ)) (count : D → ℕ) where
    same_so : (from to : S) → to ≡ from → reader.IsSo from → reader.IsSo to
    same_so from to same so = subst reader.IsSo (sym same) so

    rewrites_so : (p : Publication) (row : Row) (old new : Caller) (from to : S) (dice after : D)
        (result : Result Step CallNo)
        → RewritesOver reader.Reads left count p row old from dice result new to after
        → reader.IsSo from → reader.IsSo to
    rewrites_so p row old new from to dice after result (inl o) so =
        reader.next p row from o.opened to o.unseals so
    rewrites_so p row old new from to dice after result (inr n) so = same_so from to n.1 so

    steps_so : (p : Publication) (above : List ℕ) (old new : Caller) (from to : S)
        (dice after : D) (result : Result Step CallNo)
        → StepsOver reader.Reads left count p above old from dice result new to after
        → reader.IsSo from → reader.IsSo to
    steps_so p above old new from to dice after result (inl n) so = same_so from to n.1 so
    steps_so p above old new from to dice after result (inr f) so =
        rewrites_so p f.row f.found new from to dice after result f.rewrites so

    early_so : (replica : ℕ) (old new : Caller) (from to : S) (dice after : D)
        (result : Result Step CallNo)
        → EndsEarly replica ((to ≡ from) × (after ≡ dice)) old result new
        → reader.IsSo from → reader.IsSo to
    early_so replica old new from to dice after (Ok done) e so = absurd e
    early_so replica old new from to dice after (Err why) e so = same_so from to e.1.0 so

    step_so : (replica : ℕ) (above : List ℕ) (old new : Caller) (from to : S)
        (dice after : D) (result : Result Step CallNo)
        → IsStepOver reader.Reads left count replica above old from dice result new to after
        → reader.IsSo from → reader.IsSo to
    step_so replica above old new from to dice after result (inl e) so =
        early_so replica old new from to dice after result e so
    step_so replica above old new from to dice after result (inr h) so =
        steps_so h.p above h.adopted h.acted from to dice after h.done h.does so

  -- ---- one step

  module _ {D : Type 0} (left : D → Option (List ℕ)) (count : D → ℕ) (own : ℕ) where
    module _ (above : List ℕ) (from to : S) (dice after : D) where
      module _ (number : ℕ) (p : Publication) (old new : Caller) (k : IsCaller old)
          (held : holding old.mine ≡ Some (number, p)) where
        abbrev Does : Result Step CallNo → Type 0
        Does result = StepDoes count above from to dice after number p old new result

        none_found : (result : Result Step CallNo) → FindsNone above old result new → Does result
        none_found (Ok step.End) n = one_between number p old new (event.After above)
            answer.Absent k held n (λ e. ⊤) tt
        none_found (Err refusal.Spent) n = tt
        none_found (Err refusal.NoMemory) n = parted_one (Mids number p (Lacks p above)) old new
            (event.After above) answer.NoMemory n (
              holds_entry number p old new (event.After above) answer.NoMemory k held n,
              inl (record {
                entry = n.entry;
                mids_are = refl;
                does = has_done old new (event.After above) answer.NoMemory n;
                is = tt;
              }),
            )
        none_found other n = absurd n

        steps_do : (result : Result Step CallNo) → reader.IsSo from
            → StepsOver reader.Reads left count p above old from dice result new to after
            → Does result
        steps_do result so (inl n) = none_found result n.0
        steps_do result so (inr f) = row_rewritten left count number p above from to dice
            after old f.found new f.row k held f.finds result so f.rewrites

      module _ (old new : Caller) (k : IsCaller old) (idle : holding old.mine ≡ None)
          (so : reader.IsSo from) where
        abbrev AddsBy : Result Step CallNo → Type 0
        AddsBy result = StepAdds count above from to dice after own old new result

        held_step : (number : ℕ) (p : Publication) (adopted acted : Caller)
            → AddsEntry old (event.Adopt own) (answer.Adopted number p) adopted
            → AddsEntry acted event.LetGo answer.Released new → (result : Result Step CallNo)
            → StepDoes count above from to dice after number p adopted acted result
            → AddsBy result
        held_step number p adopted acted a g (Ok taken) s = (
          held_parted own old adopted acted new number p (λ p number mids. Meets p above taken mids)
              a g s,
          released_law acted new g,
        )
        held_step number p adopted acted a g (Err (refusal.PluginFailed name)) s = (
          s.0,
          held_parted own old adopted acted new number p
              (λ p number mids. FindsRead above name p mids) a g s.1,
        )
        held_step number p adopted acted a g (Err refusal.DiceFailed) s = (
          s.0,
          held_parted own old adopted acted new number p (λ p number mids. FindsStale p above mids)
              a g s.1,
        )
        held_step number p adopted acted a g (Err refusal.StoreFailed) s =
            held_parted own old adopted acted new number p
            (λ p number mids. Stops p above gave.StoreFailed mids) a g s
        held_step number p adopted acted a g (Err (refusal.StoreFull needed)) s =
            held_parted own old adopted acted new number p (λ p number mids. IsFull p above mids) a
            g s
        held_step number p adopted acted a g (Err refusal.Spent) s = tt
        held_step number p adopted acted a g (Err refusal.NoMemory) s =
            parted_as (λ part. HoldsPart own part (λ p number mids. Lacks p above mids))
            (LacksAt own above) old new (λ part h. inr (inr h))
            (held_parted own old adopted acted new number p (λ p number mids. Lacks p above mids) a g
            s)
        held_step number p adopted acted a g (Err other) s = absurd s

        early_step : (why : CallNo) → AdoptsNothing own old why new → AddsBy (Err why)
        early_step refusal.Gone e = out_parted own old new k idle e
        early_step refusal.Spent e = tt
        early_step refusal.NoMemory (inl same) =
            parted_same (LacksAt own above) old new same (inl refl)
        early_step refusal.NoMemory (inr e) = parted_as (IsAlone (did.Adopt own) gave.Nothing)
            (LacksAt own above) old new (λ part h. inr (inl h))
            (alone old new (event.Adopt own) answer.NoMemory k idle e)
        early_step other e = absurd e

        step_adds : (result : Result Step CallNo)
            → IsStepOver reader.Reads left count own above old from dice result new to after
            → AddsBy result
        step_adds (Ok taken) (inl e) = absurd e
        step_adds (Err why) (inl e) = early_step why e.0
        step_adds result (inr h) = go h.lets_go
          where
            go : LetsGo h.acted h.done result new → AddsBy result
            go (inl g) = subst AddsBy (sym g.1)
                (held_step h.number h.p h.adopted h.acted h.adopts g.0 h.done
                (steps_do h.number h.p h.adopted h.acted
                (caller_next old h.adopted (event.Adopt own) (answer.Adopted h.number h.p) h.adopts
                k)
                (adopted_law old h.adopted own h.number h.p h.adopts) h.done so h.does))
            go (inr n) = subst AddsBy (sym n.1) tt

    -- ---- one step behind another

    -- some rows were met; the seat is a caller still, and holds nothing
    walked : (above : List ℕ) (met : List Step) (old new : Caller) (from to : S)
        (dice after : D) → IsCaller old → holding old.mine ≡ None → reader.IsSo from
        → WalksOver reader.Reads left count own above met old from dice new to after
        → IsCaller new × (holding new.mine ≡ None) × reader.IsSo to
    walked above [] old new from to dice after k idle so w = (
      subst IsCaller (sym w.0) k,
      subst (λ (c : Caller). holding c.mine ≡ None) (sym w.0) idle,
      subst reader.IsSo (sym w.1) so,
    )
    walked above (taken ∷ met) old new from to dice after k idle so w =
        let first = step_adds above from w.mids dice w.between old w.middle k idle so (Ok taken)
        w.goes in
        walked (path_of above taken) met w.middle new w.mids to w.between after (first.0.next k)
        first.1 (step_so left count own above old w.middle from w.mids dice w.between (Ok taken)
        w.goes so) w.behind

    -- whatever comes behind them stands behind their part
    module _ (Ends : (above : List ℕ) → List Entry → Type 0) (last : Caller) where
      walked_then : (above : List ℕ) (met : List Step) (old new : Caller) (from to : S)
          (dice after : D) → IsCaller old → holding old.mine ≡ None → reader.IsSo from
          → WalksOver reader.Reads left count own above met old from dice new to after
          → Parted (Ends (last_of above met)) new last
          → Parted (Meetings own above met Ends) old last
      walked_then above [] old new from to dice after k idle so w p =
          subst (λ (c : Caller). Parted (Ends above) c last) w.0 p
      walked_then above (taken ∷ met) old new from to dice after k idle so w p =
          let first = step_adds above from w.mids dice w.between old w.middle k idle so (Ok taken)
          w.goes in
          let rest = walked_then (path_of above taken) met w.middle new w.mids to w.between after
          (first.0.next k) first.1 (step_so left count own above old w.middle from w.mids dice
          w.between (Ok taken) w.goes so) w.behind p in
          parted_both (λ part. HoldsPart own part (λ p number mids. Meets p above taken mids))
          (Meetings own (path_of above taken) met Ends)
          (Meetings own above (taken ∷ met) Ends) old w.middle last first.0 rest
          (λ front back h more. (front, back, refl, h, more))

    -- ---- the whole of it

    module _ (old new : Caller) (k : IsCaller old) (idle : holding old.mine ≡ None)
        (from to : S) (so : reader.IsSo from) (dice after : D) (part : List Entry)
        (adds : Adds old part new) where
      abbrev Fails : (name : List ℕ) → Type 0
      Fails name = reader.Fails name from to

      abbrev Draws : Type 0
      Draws = Rose (count dice) (count after)

      abbrev MeetsAll : List Step → Type 0
      MeetsAll met = CoversLive [] met old new

      abbrev RewritesPart : Told → Type 0
      RewritesPart reply = shape.RewritePart reader.IsFresh reader.IsStale reader.IsLeft Fails Draws
          MeetsAll old.seat own part reply

      module _ (met : List Step) (ended : Result Step CallNo) (report : Report)
          (e : EndsByOver reader.Reads reader.Meanwhile left count own [] met old from dice ended
          report new to after) where
        before : IsCaller e.middle × (holding e.middle.mine ≡ None) × reader.IsSo e.mids
        before = walked [] met old e.middle from e.mids dice e.between k idle so e.walks

        last_step : StepAdds count (last_of [] met) e.mids to e.between after own e.middle new
            ended
        last_step = step_adds (last_of [] met) e.mids to e.between after e.middle new
            before.0 before.1 before.2 ended e.ends

        met_then : (Ends : (above : List ℕ) → List Entry → Type 0)
            → Parted (Ends (last_of [] met)) e.middle new → Meetings own [] met Ends part
        met_then Ends p =
            part_here (Meetings own [] met Ends) old new part adds
            (walked_then Ends new [] met old e.middle from e.mids dice e.between k idle so e.walks
            p)

      cut_part : (met : List Step) (why : CallNo) (report : Report)
          → EndsByOver reader.Reads reader.Meanwhile left count own [] met old from dice (Err why)
          report new to after
          → IfTold RewritesPart (told_of_refusal old.seat why)
      cut_part met (refusal.Value why) report e =
          absurd (last_step met (Err (refusal.Value why)) report e)
      cut_part met (refusal.PluginFailed name) report e =
          let s = last_step met (Err (refusal.PluginFailed name)) report e in (
            reader.later name from e.mids to e.walks_asked s.0,
            (
              met,
              met_then met (Err (refusal.PluginFailed name)) report e (λ above rest.
                  HoldsPart own rest (λ p number mids. FindsRead above name p mids)) s.1,
            ),
          )
      cut_part met refusal.DiceFailed report e =
          let s = last_step met (Err refusal.DiceFailed) report e in (
            refl,
            Rose-later (count dice) (count e.between) (count after) e.walks_later s.0,
            (
              met,
              met_then met (Err refusal.DiceFailed) report e
                  (λ above rest. HoldsPart own rest (λ p number mids. FindsStale p above mids)) s.1,
            ),
          )
      cut_part met refusal.StoreFailed report e = (
        met,
        met_then met (Err refusal.StoreFailed) report e
            (λ above rest.
            HoldsPart own rest (λ p number mids. Stops p above gave.StoreFailed mids))
            (last_step met (Err refusal.StoreFailed) report e),
      )
      cut_part met (refusal.StoreFull needed) report e = (
        met,
        met_then met (Err (refusal.StoreFull needed)) report e
            (λ above rest. HoldsPart own rest (λ p number mids. IsFull p above mids))
            (last_step met (Err (refusal.StoreFull needed)) report e),
      )
      cut_part met (refusal.Unhealthy name field text) report e =
          absurd (last_step met (Err (refusal.Unhealthy name field text)) report e)
      cut_part met refusal.Gone report e = (
        met,
        met_then met (Err refusal.Gone) report e (λ above rest. IsOut own rest)
            (last_step met (Err refusal.Gone) report e),
      )
      cut_part met refusal.Spent report e = tt
      cut_part met refusal.NoMemory report e = (
        met,
        met_then met (Err refusal.NoMemory) report e (λ above rest. LacksAt own above rest)
            (last_step met (Err refusal.NoMemory) report e),
      )

      pub drive_part : (result : Result Report (Report × CallNo))
          → IsDriveOver reader.Reads reader.Meanwhile left count own [] old from dice result new to
          after
          → IfTold RewritesPart (told_of_drive old.seat result)
      drive_part (Ok report) d = (
        d.steps,
        met_then d.steps (Ok step.End) report d.ends
            (λ above rest. HoldsPart own rest (λ p number. shape.FindsNone above))
            (last_step d.steps (Ok step.End) report d.ends).0,
        d.covers,
        d.ends.counts.rewritten,
        d.ends.counts.fresh,
        d.ends.counts.changed,
        d.ends.counts.left,
      )
      drive_part (Err cut) (inl d) = cut_part d.steps cut.1 cut.0 d.ends
      drive_part (Err cut) (inr n) = subst
          (λ (why : CallNo). IfTold RewritesPart (told_of_refusal old.seat why))
          (sym n.why_is) ([], inl (nothing_added old new part adds n.same))

-- ---- what was read with a source that was had

module _ (HadSource : Envelope → Publication → Row → Type 0) (p : Publication) (row : Row) where
  pub makes_data : (plain : List ℕ) (stale : Bool) → HoldsDataWith HadSource p row stale plain
      → MakesOf (IsFreshWith HadSource) (IsStaleWith HadSource) (IsLeftWith HadSource) p row plain
      stale
  makes_data plain false h = (plain, h)
  makes_data plain true h = ((plain, h), λ why cannot. inr (plain, why, h, cannot))

-- ---- by the links

-- what a row that was unsealed by these links reads as
module _ {L : Type 0} (link : L → Link) where
  pub linked_makes : (p : Publication) (row : Row) (olds : List L) (opened : Result Opened UnsealNo)
      (news : List L) → UnsealsRow link p row olds opened news
      → MakesBy IsFresh IsStale IsLeft (λ name. FaultRose link name olds news) p row opened
  linked_makes p row olds (Ok opened) news u =
      makes_data AnySource p row opened.plain opened.stale (
        u.envelope,
        record { object = u.object; seed = u.published; unsourced = u.unsourced; reads = u.is.0 },
        sym u.is.1,
        tt,
      )
  linked_makes p row olds (Err (unsealing.Refused why)) news u = inl (
    u.envelope,
    why,
    record { object = u.object; seed = u.published; unsourced = u.unsourced; reads = u.is },
    tt,
  )
  linked_makes p row olds (Err (unsealing.PluginFailed name)) news u = (u.rose, u.reader)
  linked_makes p row olds (Err unsealing.NoMemory) news u = tt

  abbrev pub linked : Reader (List L)
  linked = record {
    Reads = UnsealsRow link;
    Meanwhile = StayLinks link;
    Fails = λ name olds news. FaultRose link name olds news;
    IsSo = λ olds. ⊤;
    IsFresh = IsFresh;
    IsStale = IsStale;
    IsLeft = IsLeft;
    later = λ name olds mids news stay rose.
        rose_later link (names_of link olds) name olds mids news stay rose;
    next = λ p row olds opened news reads so. tt;
    makes = λ p row olds opened news reads so. linked_makes p row olds opened news reads;
  }
