-- A worker whose lines fit its budget is never cut short, where as many paths live as the budget
-- was made for.
use Rattle.std.proofs.Common.{◌≡◌, ℕ, ◌<◌, ◌≤◌, ◌+◌, List, [], ◌∷◌, ◌++◌, length, append-nil, Option, Result, Ok, Err, refl, ap, sym, ◌∙◌, arith}
use Rattle.std.proofs.lemmas.List.{append_assoc}
use Rattle.kr_kms.specs.Calls.{Link}
use Rattle.kr_kms.specs.Exchanges.{Exchange}
use Rattle.kr_history.specs.declared.call.CallNo.{CallNo}
use Rattle.kr_history.specs.declared.call.CallNo.TheVariants as refusal
use Rattle.kr_rollout.specs.declared.opening.Entry.{Entry}
use Rattle.kr_rollout.specs.declared.opening.Opening.{Opening}
use Rattle.kr_history.specs.Acting.{Caller}
use Rattle.kr_history.specs.Parts.{Adds, IsPartWithin}
use Rattle.kr_rewrite.specs.DriveLaws.{LiveAmong}
use Rattle.kr_rewrite.specs.declared.outcome.Report.{Report}
use Rattle.kr_rewrite.proofs.Shortness.{drives_need_few}
use Rattle.kr_script.specs.declared.script.ScriptLine.{ScriptLine}
use Rattle.kr_script.specs.declared.script.ScriptLine.TheVariants as line
use Rattle.kr_script.specs.declared.told.Told.{Told}
use Rattle.kr_workers.specs.declared.files.SettingsFile.{SettingsFile}
use Rattle.kr_workers.specs.Budgets.{brought_count, budget_of, line_entries, puts_of}
use Rattle.kr_workers.specs.Replies.{Reply, told_of_drive, told_of_refusal}
use Rattle.kr_workers.specs.Runs.{DoesAll, LineDone, lines_in}
use Rattle.kr_workers.specs.inner.WholeRuns.{IsCutShort}
use Rattle.kr_workers.specs.ScriptLines.{Does, Workplace}
use Rattle.kr_workers.specs.inner.Serving.{IsShortFor}
use Rattle.kr_workers.proofs.Living.{LivesIn, among_front}
use mathlib.Core.List.{IsPrefix}

-- ---- a drive that was cut short lacked entries

abbrev spent_reply : Reply
spent_reply = Err (record {})

refused_spent : (seat : ℕ) (why : CallNo) → spent_reply ≡ told_of_refusal seat why
    → why ≡ refusal.Spent
refused_spent seat refusal.Spent e = refl
refused_spent seat other e = cc

drive_spent : (seat : ℕ) (result : Result Report (Report × CallNo))
    → spent_reply ≡ told_of_drive seat result
    → (report : Report) × (result ≡ Err (report, refusal.Spent))
drive_spent seat (Ok report) e = cc
drive_spent seat (Err cut) e =
    let why = refused_spent seat cut.1 e in (cut.0, λ i. Err (cut.0, why i))

-- ---- what was seen goes on

prefix_then : {X : Type 0} (xs ys zs : List X) → IsPrefix xs ys → IsPrefix ys zs
    → IsPrefix xs zs
prefix_then xs ys zs a b = (
  a.0 ++ b.0,
  sym (append_assoc xs a.0 b.0) ∙ ap (λ s. s ++ b.0) a.1 ∙ b.1,
)

adds_front : (old : Caller) (part : List Entry) (new : Caller) → Adds old part new
    → IsPrefix old.seen new.seen
adds_front old part new a = (a.more, sym (ap (λ (c : Caller). c.seen) a.new_is))

module _ {L D : Type 0} (link : L → Link) (step : L → Exchange → L → Type 0) (left : D → Option (List ℕ))
    (count : D → ℕ) (files : List SettingsFile) (replica : ℕ) where
  does_opening : (first : Workplace L D) (run : List LineDone) (last : Workplace L D)
      → DoesAll link step left count files replica first run last
      → last.caller.opening ≡ first.caller.opening
  does_opening first [] last same = ap (λ (w : Workplace L D). w.caller.opening) same
  does_opening first (done ∷ run) last does = does_opening does.0 run last does.2
      ∙ ap (λ (c : Caller). c.opening) does.1.adds.new_is

  does_front : (first : Workplace L D) (run : List LineDone) (last : Workplace L D)
      → DoesAll link step left count files replica first run last
      → IsPrefix first.caller.seen last.caller.seen
  does_front first [] last same = (
    [],
    append-nil first.caller.seen ∙ sym (ap (λ (w : Workplace L D). w.caller.seen) same),
  )
  does_front first (done ∷ run) last does =
      prefix_then first.caller.seen does.0.caller.seen last.caller.seen
      (adds_front first.caller done.part does.0.caller does.1.adds)
      (does_front does.0 run last does.2)

  module _ (paths : List (List ℕ)) where
    -- a line that was done is within its bound
    bounded : (asked : ScriptLine) (old new : Workplace L D) (reply : Told) (part : List Entry)
        → Does link left count files replica asked old (Ok reply) new
        → Adds old.caller part new.caller
        → IsPartWithin (line_entries (length part) asked) (brought_count asked) (puts_of asked) part
        → LiveAmong paths new.caller → length part ≤ line_entries (length paths) asked
    bounded line.Rewrite old new reply part does adds within among =
        let needs = drives_need_few link left count replica [] old.caller old.links old.dice
        does.0 new.caller new.links new.dice paths does.2 among in
        let all = needs.few.1.left_is in
        let few = needs.few.2.few in
        let part_is = adds.left_is in omega (arith, all, few, part_is)
    bounded other old new reply part does adds within among = within.few

    -- one that was cut short had fewer entries left
    short : (asked : ScriptLine) (old new : Workplace L D)
        → Does link left count files replica asked old (Err (record {})) new
        → IsShortFor asked old.caller → LiveAmong paths new.caller
        → old.caller.left < line_entries (length paths) asked
    short line.Rewrite old new does few among =
        let cut = drive_spent old.caller.seat does.0 does.1 in
        (drives_need_few link left count replica [] old.caller old.links old.dice does.0
        new.caller new.links new.dice paths does.2 among).spent cut.0 cut.1
    short other old new does few among = few

    budgets_add : (front rest : List ScriptLine)
        → budget_of (length paths) (front ++ rest)
        ≡ budget_of (length paths) front + budget_of (length paths) rest
    budgets_add [] rest = omega arith
    budgets_add (l ∷ front) rest =
        let e = budgets_add front rest in omega (arith, e)

    module _ (o : Opening) (history : List Entry) (lives : LivesIn o history paths) where
      -- what was added is no more than the lines' budget
      left_enough : (first : Workplace L D) (run : List LineDone) (last : Workplace L D)
          → DoesAll link step left count files replica first run last
          → last.caller.opening ≡ o → IsPrefix last.caller.seen history
          → first.caller.left ≤ last.caller.left + budget_of (length paths) (lines_in run)
      left_enough first [] last same opening front =
          let e : last.caller.left ≡ first.caller.left =
          ap (λ (w : Workplace L D). w.caller.left) same in omega (arith, e)
      left_enough first (done ∷ run) last does opening front =
          let between = does.0 in
          let rest = left_enough between run last does.2 opening front in
          let seen = prefix_then between.caller.seen last.caller.seen history
          (does_front between run last does.2) front in
          let among = among_front o history paths between.caller lives
          (sym (does_opening between run last does.2) ∙ opening) seen in
          let few = bounded done.line first between done.reply done.part does.1.does does.1.adds
          does.1.within among in
          let left_is = does.1.adds.left_is in
          omega (arith, rest, few, left_is)

      pub none_cut : (lines : List ScriptLine) (first middle new : Workplace L D)
          (run : List LineDone) → budget_of (length paths) lines ≤ first.caller.left
          → DoesAll link step left count files replica first run middle
          → IsCutShort link step left count files replica lines run middle new
          → new.caller.opening ≡ o → IsPrefix new.caller.seen history → ⊥
      none_cut lines first middle new run fits does cut opening front =
          let same : new.caller.opening ≡ middle.caller.opening =
          ap (λ (c : Caller). c.opening) cut.adds.new_is in
          let enough = left_enough first run middle does (sym same ∙ opening)
          (prefix_then middle.caller.seen new.caller.seen history
          (adds_front middle.caller cut.part new.caller cut.adds) front) in
          let whole = ap (budget_of (length paths)) cut.lines_are
          ∙ budgets_add (lines_in run) (cut.line ∷ cut.rest) in
          let lacks = short cut.line middle new cut.does cut.spent
          (among_front o history paths new.caller lives opening front) in
          absurd (omega (arith, enough, whole, fits, lacks))
