-- What no call for a fleet leaves once its workers were started.
use Rattle.std.specs.Prelude.{◌≢◌, fold, map}
use Rattle.std.specs.Io.KnownBytes.{Appends}
use Rattle.std.specs.Option.{option_map}
use Rattle.std.proofs.Common.{◌≡◌, ℕ, Bool, true, false, List, [], ◌++◌, Option, None, Some, ◌⊎◌, inl, inr, refl, ap, sym, subst, ◌∙◌, append-nil, arith}
use Rattle.std.proofs.lemmas.Option.{none-some, same_Some}
use Rattle.kr_base.specs.Faults.{Rose}
use Rattle.kr_kms.specs.Calls.{Link}
use Rattle.kr_kms.specs.Exchanges.{Exchange}
use Rattle.kr_rollout.specs.Histories.{IsLegal, ends_torn, state_of}
use Rattle.kr_rollout.specs.Openings.{start_of}
use Rattle.kr_rollout.specs.declared.opening.Entry.{Entry}
use Rattle.kr_rollout.specs.declared.opening.Opening.{Opening}
use Rattle.kr_history.proofs.TornTails.{torn_is_told}
use Rattle.kr_script.specs.declared.told.Told.{Told}
use Rattle.kr_store.specs.File.{IsFile}
use Rattle.kr_store.specs.Rows.{live}
use Rattle.kr_store.specs.declared.rows.LogRow.{LogRow}
use Rattle.kr_store.specs.declared.rows.Row.{Row}
use Rattle.kr_workers.specs.Endings.{HasReplyOf, gravest_ending, status_of as status_of_replies}
use Rattle.kr_workers.specs.declared.ending.Ending.{Ending}
use Rattle.kr_workers.specs.declared.ending.Ending.TheVariants as ending
use Rattle.kr_workers.specs.declared.worker.Worker as fleet_worker
use Rattle.kr_workers.proofs.Ends.{endings_are_told}
use Rattle.kr_cmd_messages.specs.Receipts.{Receipt, Tells}
use Rattle.kr_cmd_fleet.specs.Fleets.{Begun, HasRows, opening_of, settled_behind, text_of}
use Rattle.kr_headline.proofs.Standing.{faults_are}
use Rattle.kr_cmd_laws.specs.RunHeadlines.{Prints}
use Rattle.kr_cmd_laws.specs.WrongRuns.{EachRunIsWrong}

-- ---- statuses

done_alone : (it : Ending) → status_of_replies it ≡ 0 → it ≡ ending.Done
done_alone ending.Done is = refl
done_alone other is = absurd (omega (arith, is))

-- a line that was told has this status, or 4 where it couldn't be written
line_status : (line : List ℕ) (status answered : ℕ) (errors : Receipt)
    → Tells line status errors answered
    → (answered ≡ status) ⊎ ((answered ≡ 4) × Rose errors.old_faults errors.new_faults)
line_status line status answered errors (inl t) = inl t.0
line_status line status answered errors (inr t) = inr (t.0, t.1)

module _ (text : List ℕ) (told : List (List Told × ℕ)) (output errors : Receipt) (status : ℕ)
    (prints : Prints text (gravest_ending told) output errors status) where
  -- the whole text with the replies' status; or status 4 or 5, with what stands behind it
  abbrev Whole : Type 0
  Whole = Appends output.old output.new text × (status ≡ status_of_replies (gravest_ending told))

  abbrev Failed : Type 0
  Failed = (status ≡ 4) × (Rose output.old_faults output.new_faults
      ⊎ Rose errors.old_faults errors.new_faults)

  ways : Whole ⊎ Failed ⊎ (status ≡ 5)
  ways = by prints
    where
      behind : (line : List ℕ) → Rose output.old_faults output.new_faults
          → Tells line 4 errors status → Whole ⊎ Failed ⊎ (status ≡ 5)
      behind line rose (inl t) = inr (inl (t.0, inl rose))
      behind line rose (inr t) = inr (inl (t.0, inl rose))

      lacked : (line : List ℕ) → Tells line 5 errors status → Whole ⊎ Failed ⊎ (status ≡ 5)
      lacked line (inl t) = inr (inr t.0)
      lacked line (inr t) = inr (inl (t.0, inr t.1))

      by : Prints text (gravest_ending told) output errors status → Whole ⊎ Failed ⊎ (status ≡ 5)
      by (inl whole) = inl (whole.0, whole.2)
      by (inr (inl failed)) = behind _ failed.1 failed.2
      by (inr (inr memory)) = lacked _ memory.1

  done_undone : (kind : Ending) → kind ≢ ending.Done → HasReplyOf kind told → status ≡ 0 → ⊥
  done_undone kind other has is = by ways
    where
      by : Whole ⊎ Failed ⊎ (status ≡ 5) → ⊥
      by (inl whole) = endings_are_told.none told
          (done_alone (gravest_ending told) (sym whole.1 ∙ is)) kind other has
      by (inr (inl failed)) = let four = failed.0 in omega (arith, four, is)
      by (inr (inr five)) = omega (arith, five, is)

  other_status : status ≢ status_of_replies (gravest_ending told) → status ≢ 5
      → (Rose output.old_faults output.new_faults → ⊥)
      → (Rose errors.old_faults errors.new_faults → ⊥) → ⊥
  other_status other memory output_well errors_well = by ways
    where
      by : Whole ⊎ Failed ⊎ (status ≡ 5) → ⊥
      by (inl whole) = other whole.1
      by (inr (inl (four, inl rose))) = output_well rose
      by (inr (inl (four, inr rose))) = errors_well rose
      by (inr (inr five)) = memory five

  cut_short : (Appends output.old output.new text → ⊥) → status ≢ 4 → status ≢ 5 → ⊥
  cut_short cut fault memory = by ways
    where
      by : Whole ⊎ Failed ⊎ (status ≡ 5) → ⊥
      by (inl whole) = cut whole.0
      by (inr (inl failed)) = fault failed.0
      by (inr (inr five)) = memory five

-- ---- the store

abbrev revision_in : Option Row → Option ℕ
revision_in row = option_map (λ (row : Row). row.revision) row

no_revision : (row : Option Row) → revision_in row ≡ None → row ≡ None
no_revision None is = refl
no_revision (Some row) is = absurd (none-some row.revision (sym is))

is_the_file : (begun : Begun) (rows : List LogRow) (torn : Bool) (bytes : List ℕ)
    → HasRows (Some (Some bytes)) begun rows torn → (torn ≡ true → ⊥)
    → IsFile begun.stored.format rows bytes
is_the_file begun rows torn bytes h well = by h.4
  where
    by : (h.1 ≡ []) ⊎ (torn ≡ true) → IsFile begun.stored.format rows bytes
    by (inl none) = subst (λ (b : List ℕ). IsFile begun.stored.format rows b)
        (sym (append-nil h.0) ∙ ap (λ (l : List ℕ). h.0 ++ l) (sym none) ∙ sym h.3) h.2
    by (inr tail) = absurd (well tail)

-- a write that failed raised the count of a store that was whole
has_risen : (o : Opening) (history : List Entry) (now : ℕ) → IsLegal o history → o.torn ≡ false
    → now ≡ fold (λ (n : ℕ) (e : Entry). e.line.faults) o.count history
    → ends_torn o history ≡ true → Rose o.count now
has_risen o history now legal whole count tail = by (torn_is_told.rose o history legal tail)
  where
    by : (o.torn ≡ true) ⊎ Rose o.count (state_of o history).count → Rose o.count now
    by (inl torn) = absurd (let e : true ≡ false = sym torn ∙ whole in cc)
    by (inr rose) = subst (Rose o.count) (sym (count ∙ faults_are (start_of o) history)) rose

pub each_run_is_wrong : (T : Type 0) → {L D : Type 0} → (link : L → Link)
    (step : L → Exchange → L → Type 0) (lent took : ℕ → L → Type 0)
    (left : D → Option (List ℕ)) (count : D → ℕ)
    → EachRunIsWrong T link step lent took left count
each_run_is_wrong T {L} {D} link step lent took left count words old new output errors status
    s =
    let text : List ℕ = text_of s.begun.plan.fleet s.history s.ended in
    let told : List (List Told × ℕ) =
    map (λ (w : fleet_worker.Worker T L D). w.told) s.ended in
    let stored = s.has.page.stored in
    let o = opening_of words.store s.begun (settled_behind words.store s.mid) in
    let torn : Bool = ends_torn o s.history in
    let now : ℕ = new.world.tapes.faults words.store in
    let Has : Option (Option (List ℕ)) → Type 0 = λ t. HasRows t s.begun stored.rows torn in record {
      done_undone = done_undone text told output errors status s.prints;
      other_status = other_status text told output errors status s.prints;
      cut_short = cut_short text told output errors status s.prints;
      deleted_lives = λ path none lives.
          lives (no_revision (live stored.rows path) (stored.live_are path ∙ none));
      put_is_gone = λ path some gone. some (sym (stored.live_are path) ∙ ap revision_in gone);
      other_revision = λ path revision row is lives other. other (same_Some row.revision revision
          (sym (ap revision_in lives) ∙ stored.live_are path ∙ is));
      other_rows = λ other. other stored.latest;
      other_file = λ bytes told_is other well. other (is_the_file s.begun stored.rows torn
          bytes (subst Has told_is stored.file)
          (λ tail. well (has_risen o s.history now s.has.tied.legal refl stored.failed tail)));
      other_tail = λ bytes told_is other whole. other (is_the_file s.begun stored.rows torn
          bytes (subst Has told_is stored.file)
          (λ tail. let e : true ≡ false = sym tail ∙ whole in cc));
      no_file = λ told_is. subst Has told_is stored.file;
    }
