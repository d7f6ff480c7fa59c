-- The replies of a fleet, from its workers' runs.
use Rattle.std.specs.Prelude.{is_some, slice_index}
use Rattle.std.specs.List.{slice_get}
use Rattle.std.proofs.Common.{◌≡◌, ℕ, zero, suc, ◌<◌, List, [], ◌∷◌, length, get_or, Contains, Option, Some, refl, ap, sym, subst, ◌∙◌, arith}
use Rattle.std.proofs.lemmas.Bool.{false≢true}
use Rattle.std.proofs.lemmas.List.{length-map}
use Rattle.std.proofs.lemmas.Option.{same_Some}
use Rattle.kr_kms.specs.Calls.{Link}
use Rattle.kr_kms.specs.Exchanges.{Exchange}
use Rattle.kr_rollout.specs.declared.opening.Entry.{Entry}
use Rattle.kr_rollout.specs.declared.opening.Opening.{Opening}
use Rattle.kr_history.specs.Honesty.{IsHonest}
use Rattle.kr_history.proofs.HonestSeats.{honest_by_entries}
use Rattle.kr_script.specs.declared.script.Part.{Part}
use Rattle.kr_script.specs.declared.script.ScriptLine.{ScriptLine}
use Rattle.kr_script.specs.declared.told.Told.{Told}
use Rattle.kr_workers.specs.declared.files.SettingsFile.{SettingsFile}
use Rattle.kr_workers.specs.declared.worker.Worker.{Worker}
use Rattle.kr_workers.specs.Causes.{HasCause}
use Rattle.kr_workers.specs.Gets.{TellContents}
use Rattle.kr_workers.specs.Heard.{Heard, WasHeard}
use Rattle.kr_workers.specs.Histories.{IsOneHistory, StandsIn, first_place}
use Rattle.kr_workers.specs.Runs.{LineDone, lines_in, replies_in}
use Rattle.kr_workers.specs.Sentences.{HistoriesTell, Replies, RepliesAreTrue, TellsRun}
use Rattle.kr_workers.proofs.CausingRuns.{replies_have_causes}
use Rattle.kr_workers.proofs.HeardGets.{gets_tell_content}
use Rattle.kr_workers.proofs.HeardRuns.{HeardAt, agreed_honest, heard_at, heard_in, none_heard, was_heard}
use Rattle.kr_workers.proofs.HonestPlugins.{honest_of_plugins}
use Rattle.kr_workers.proofs.Resting.{ending_rests}

-- ---- what stands at a place

below_of : {X : Type 0} (xs : List X) (i : ℕ) (x : X) → slice_get xs i ≡ Some x → i < length xs
below_of [] i x is = absurd (false≢true (ap is_some is))
below_of (y ∷ xs) zero x is = omega arith
below_of (y ∷ xs) (suc i) x is = let e = below_of xs i x is in omega (arith, e)

there_of : {X : Type 0} (xs : List X) (i : ℕ) (x d : X) → slice_get xs i ≡ Some x
    → get_or xs i d ≡ x
there_of [] i x d is = absurd (false≢true (ap is_some is))
there_of (y ∷ xs) zero x d is = same_Some y x is
there_of (y ∷ xs) (suc i) x d is = there_of xs i x d is

-- the line that was done at a place of a run
pub record IsDoneAt (run : List LineDone) (asked : ScriptLine) (reply : Told) : Type 0 where
  pub done : LineDone
  pub there : Contains run done
  pub line_is : done.line ≡ asked
  pub reply_is : done.reply ≡ reply

pub done_at : (run : List LineDone) (at : ℕ) (asked : ScriptLine) (reply : Told)
    → slice_get (lines_in run) at ≡ Some asked → slice_get (replies_in run) at ≡ Some reply
    → IsDoneAt run asked reply
done_at [] at asked reply l r = absurd (false≢true (ap is_some l))
done_at (done ∷ run) zero asked reply l r = record {
  done = done;
  there = (0, omega arith, refl);
  line_is = same_Some done.line asked l;
  reply_is = same_Some done.reply reply r;
}
done_at (done ∷ run) (suc at) asked reply l r = let d = done_at run at asked reply l r in record {
  done = d.done;
  there = (suc d.there.0, omega (arith, d.there.1), d.there.2);
  line_is = d.line_is;
  reply_is = d.reply_is;
}

-- ---- one worker's replies

module _ {L D : Type 0} (link : L → Link) (step : L → Exchange → L → Type 0)
    (left : D → Option (List ℕ))
    (count : D → ℕ) (files : List SettingsFile) where
  module _ {T : Type 0} (history : List Entry) (o : Opening) (parts : List Part)
      (budgets : List ℕ) (old new : List (Worker T L D))
      (one : IsOneHistory link step left count files history o parts budgets old new) where
    -- the run of a worker, by what stands at its number
    stands_there : (number : ℕ) (part : Part) (before after : Worker T L D)
        → slice_get parts number ≡ Some part → get_or old number before ≡ before
        → slice_get new number ≡ Some after
        → StandsIn link step left count files history part
        (first_place o number (slice_index budgets number) before.bench) after.told.0 after.bench
    stands_there number part before after part_is before_is after_is = subst
        (λ (p : Part). StandsIn link step left count files history p
        (first_place o number (slice_index budgets number) before.bench) after.told.0 after.bench)
        (there_of parts number part part part_is)
        (subst (λ (w : Worker T L D). StandsIn link step left count files history
        (get_or parts number part)
        (first_place o number (slice_index budgets number) before.bench) w.told.0 w.bench)
        (there_of new number after before after_is)
        (subst (λ (w : Worker T L D). StandsIn link step left count files history
        (get_or parts number part)
        (first_place o number (slice_index budgets number) w.bench)
        (get_or new number before).told.0 (get_or new number before).bench) before_is
        (one.each number part before (below_of parts number part part_is))))

    as_many : (part : Part) (before after : Worker T L D) (number : ℕ)
        → StandsIn link step left count files history part
        (first_place o number (slice_index budgets number) before.bench) after.told.0 after.bench
        → length after.told.0 ≡ length part.lines.0
    as_many part before after number s = ap length s.replies_are
        ∙ length-map s.run (λ (d : LineDone). d.reply)
        ∙ sym (length-map s.run (λ (d : LineDone). d.line)) ∙ ap length s.lines_are

    -- the line at a place of its part was done
    done_there : (number at : ℕ) (asked : ScriptLine) (reply : Told) (before : Worker T L D)
        (r : Replies parts new number at asked reply)
        → (s : StandsIn link step left count files history r.part
        (first_place o number (slice_index budgets number) before.bench) r.worker.told.0
        r.worker.bench) → IsDoneAt s.run asked reply
    done_there number at asked reply before r s = done_at s.run at asked reply
        (ap (λ l. slice_get l at) s.lines_are ∙ r.line_is)
        (ap (λ l. slice_get l at) (sym s.replies_are) ∙ r.reply_is)

    -- there was a worker of each number
    abbrev was : (number : ℕ) (after : Worker T L D) → Worker T L D
    was number after = get_or old number after

    still : (number : ℕ) (after : Worker T L D)
        → get_or old number (was number after) ≡ was number after
    still number after = by old number
      where
        by : (ws : List (Worker T L D)) (i : ℕ) → get_or ws i (get_or ws i after)
            ≡ get_or ws i after
        by [] i = refl
        by (w ∷ ws) zero = refl
        by (w ∷ ws) (suc i) = by ws i

    all_told : (number : ℕ) (part : Part) (worker : Worker T L D)
        → slice_get parts number ≡ Some part → slice_get new number ≡ Some worker
        → length worker.told.0 ≡ length part.lines.0
    all_told number part worker part_is worker_is =
        as_many part (was number worker) worker number
        (stands_there number part (was number worker) worker part_is (still number worker)
        worker_is)

    all_caused : (number at : ℕ) (asked : ScriptLine) (reply : Told) (before : Worker T L D)
        → slice_get old number ≡ Some before → (replies : Replies parts new number at asked reply)
        → HasCause link count asked (first_place o number (slice_index budgets number) before.bench)
        reply history replies.worker.bench.links replies.worker.bench.dice
    all_caused number at asked reply before before_is r =
        let s = stands_there number r.part before r.worker r.part_is
        (there_of old number before before before_is) r.worker_is in
        let d = done_there number at asked reply before r s in
        subst (λ (a : ScriptLine). HasCause link count a
        (first_place o number (slice_index budgets number) before.bench) reply history
        r.worker.bench.links r.worker.bench.dice) d.line_is
        (subst (λ (t : Told). HasCause link count d.done.line
        (first_place o number (slice_index budgets number) before.bench) t history
        r.worker.bench.links r.worker.bench.dice) d.reply_is
        ((replies_have_causes link step left count files).whole history r.part
        (first_place o number (slice_index budgets number) before.bench) r.worker.told.0
        r.worker.bench s d.done d.there))

    -- ---- what was heard

    abbrev heard : (number : ℕ) → Heard
    heard number =
        heard_in link step left count files history o parts budgets old new one number

    abbrev IsTheirs : ℕ → Heard → Type 0
    IsTheirs number it =
        HeardAt link step left count files history o parts budgets old new one number it

    its_heard : (number : ℕ) → number < length parts → IsTheirs number (heard number)
    its_heard number within =
        heard_at link step left count files history o parts budgets old new one number within

    heard_there : (number : ℕ) → IsTheirs number (heard number) → (before after : Worker T L D)
        → slice_get old number ≡ Some before → slice_get new number ≡ Some after
        → WasHeard step (heard number) before.bench after.bench
    heard_there number h before after before_is after_is = subst
        (λ (w : Worker T L D). WasHeard step (heard number) w.bench after.bench)
        (same_Some h.before before (sym h.before_is ∙ before_is))
        (subst (λ (w : Worker T L D). WasHeard step (heard number) h.before.bench w.bench)
        (same_Some h.after after (sym h.after_is ∙ after_is))
        (was_heard link step left count files history o parts budgets old new one number h))

    tells_there : (number : ℕ) → (h : IsTheirs number (heard number))
        → TellsRun link step left count files (heard number) o history number h.part
        (first_place o number (slice_index budgets number) h.before.bench) h.after.told.0
        h.after.bench
    tells_there number h =
        let first = first_place o number (slice_index budgets number) h.before.bench in record {
          stands = h.stands;
          exchanges = h.exchanges;
          tell = subst (λ kept. TellContents kept o history number h.stands.run) (sym h.kept)
              (gets_tell_content link step left count files history h.part first
              h.after.told.0 h.after.bench h.stands refl);
        }

    gets_there : (number : ℕ) → IsTheirs number (heard number) → (part : Part)
        (before after : Worker T L D) → slice_get parts number ≡ Some part
        → slice_get old number ≡ Some before → slice_get new number ≡ Some after
        → TellsRun link step left count files (heard number) o history number part
        (first_place o number (slice_index budgets number) before.bench) after.told.0 after.bench
    gets_there number h part before after part_is before_is after_is = subst
        (λ (p : Part). TellsRun link step left count files (heard number) o history number p
        (first_place o number (slice_index budgets number) before.bench) after.told.0 after.bench)
        (same_Some h.part part (sym h.part_is ∙ part_is))
        (subst (λ (w : Worker T L D). TellsRun link step left count files (heard number) o
        history number h.part (first_place o number (slice_index budgets number) w.bench)
        after.told.0 after.bench) (same_Some h.before before (sym h.before_is ∙ before_is))
        (subst (λ (w : Worker T L D). TellsRun link step left count files (heard number) o
        history number h.part (first_place o number (slice_index budgets number) h.before.bench)
        w.told.0 w.bench) (same_Some h.after after (sym h.after_is ∙ after_is))
        (tells_there number h)))

    pub replies_are_true : RepliesAreTrue link step left count files history o parts budgets
        old new
    replies_are_true = record {
      each = all_told;
      heard = heard;
      was_heard = λ number before after before_is after_is.
          let below = below_of old number before before_is in
          heard_there number (its_heard number (omega (arith, below, one.whole))) before after
          before_is after_is;
      no_more = λ number past. none_heard link step left count files history o parts budgets
          old new one number past;
      gets = λ number part before after part_is before_is after_is.
          gets_there number (its_heard number (below_of parts number part part_is)) part before
          after part_is before_is after_is;
      agreed = λ opens agrees begun front rest is. honest_by_entries.front opens o front rest
          (subst (λ (l : List Entry). IsHonest opens o l) is
          (agreed_honest link step left count files history o parts budgets old new one opens
          agrees begun));
      plugins = honest_of_plugins T link step left count files history o parts budgets old new
          one;
      causes = all_caused;
      often = λ number part before after part_is before_is after_is.
          (replies_have_causes link step left count files).often history part
          (first_place o number (slice_index budgets number) before.bench) after.told.0 after.bench
          (stands_there number part before after part_is
          (there_of old number before before before_is) after_is);
      rests = ending_rests link count history o parts budgets old new one.many one.whole all_told
          all_caused;
    }

pub histories_tell : (T : Type 0) → {L D : Type 0} → (link : L → Link)
    (step : L → Exchange → L → Type 0)
    (left : D → Option (List ℕ)) (count : D → ℕ) → HistoriesTell T link step left count
histories_tell T link step left count files history o parts budgets old new one =
    replies_are_true link step left count files history o parts budgets old new one
