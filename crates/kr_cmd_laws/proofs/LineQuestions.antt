-- What each line of a fleet's workers asks plugins.
use Rattle.std.specs.Prelude.{All}
use Rattle.std.proofs.Common.{◌≡◌, ℕ, List, [], ◌∷◌, Option, Ok, inl, inr, sym, ap, subst, ◌∙◌}
use Rattle.std.proofs.lemmas.List.{append_cancel_left}
use Rattle.std.proofs.lemmas.List.Elements.{All-cons, All-nil, All-weaker}
use Rattle.kr_kms.specs.Calls.{Link}
use Rattle.kr_kms.specs.Exchanges.{Exchange}
use Rattle.kr_rollout.specs.declared.opening.Entry.{Entry}
use Rattle.kr_history.specs.Acting.{Caller}
use Rattle.kr_history.specs.Parts.{Adds}
use Rattle.kr_script.specs.declared.script.ScriptLine.{ScriptLine}
use Rattle.kr_script.specs.declared.script.ScriptLine.TheVariants as line
use Rattle.kr_workers.specs.declared.files.SettingsFile.{SettingsFile}
use Rattle.kr_workers.specs.LineExchanges.{DoesBy}
use Rattle.kr_workers.specs.Replies.{Reply}
use Rattle.kr_workers.specs.Runs.{DoesAll, LineDone}
use Rattle.kr_workers.specs.ScriptLines.{Workplace}
use Rattle.kr_cmd_laws.specs.LineQuestions.{AsksQuestions, IsFoundIn, LinesAsk, LinesWrapDrawn, WrapsDrawn, wrapped_in}
use Rattle.kr_cmd_laws.specs.PluginLaws.{IsQuestion}
use Rattle.kr_cmd_laws.proofs.LineLoads.{IsLoad, Loads, joined_loads, refresh_loads, reloaded_loads}
use Rattle.kr_cmd_laws.proofs.LineReads.{Went, drive_went, get_went, question_more}

-- what was asked by what was added
module _ (old new : Caller) (part : List Entry) (a : Adds old part new) (es : List Exchange) where
  went_asks : Went old new es → All (IsQuestion (IsFoundIn part)) es
  went_asks w = subst (λ added. All (IsQuestion (IsFoundIn added)) es)
      (append_cancel_left old.mine w.part part
      (sym w.adds ∙ ap (λ (c : Caller). c.mine) a.new_is)) w.asks.asks

  none_ask : es ≡ [] → All (IsQuestion (IsFoundIn part)) es
  none_ask none = subst (All (IsQuestion (IsFoundIn part))) (sym none)
      (All-nil (IsQuestion (IsFoundIn part)))

  loads_ask : All IsLoad es → All (IsQuestion (IsFoundIn part)) es
  loads_ask all = All-weaker IsLoad (IsQuestion (IsFoundIn part))
      (question_more (λ value. ⊥) (IsFoundIn part) (λ value none. absurd none)) es all

module _ {L D : Type 0} (left : D → Option (List ℕ)) (count : D → ℕ) (files : List SettingsFile)
    (replica : ℕ) (old new : Workplace L D) (reply : Reply) (es : List Exchange) where
  line_asks : (part : List Entry) → Adds old.caller part new.caller → (asked : ScriptLine)
      → DoesBy left count files replica asked old reply new es
      → All (IsQuestion (IsFoundIn part)) es
  line_asks part a (line.Get path) d = went_asks old.caller new.caller part a es
      (get_went path old.cache new.cache es replica old.caller new.caller d.0 d.2)
  line_asks part a line.Rewrite d = went_asks old.caller new.caller part a es
      (drive_went left count replica [] old.caller new.caller old.cache new.cache old.dice
      new.dice d.0 es d.2)
  line_asks part a (line.Reload named file) d = loads_ask old.caller new.caller part a es
      (reloaded_loads left count old new reply es named d.0 d.2).asks
  line_asks part a line.Refresh d = loads_ask old.caller new.caller part a es
      (refresh_loads left count replica old.dice new.dice es old.caller new.caller d.0 d.2).asks
  line_asks part a (line.Join named file) d = loads_ask old.caller new.caller part a es
      (joined_loads left count old new reply es named d.0 d.2).asks
  line_asks part a other d = none_ask old.caller new.caller part a es d.0

  wraps_none : es ≡ [] → WrapsDrawn left old.dice es new.dice
  wraps_none none = inl (ap wrapped_in none)

  wraps_loads : Loads left count old.dice es new.dice → WrapsDrawn left old.dice es new.dice
  wraps_loads l = inr (l.unused, l.few, l.drawn)

  line_wraps : (asked : ScriptLine) → DoesBy left count files replica asked old reply new es
      → WrapsDrawn left old.dice es new.dice
  line_wraps (line.Get path) d = inl
      (get_went path old.cache new.cache es replica old.caller new.caller d.0 d.2).asks.wraps
  line_wraps line.Rewrite d = inl (drive_went left count replica [] old.caller new.caller
      old.cache new.cache old.dice new.dice d.0 es d.2).asks.wraps
  line_wraps (line.Reload named file) d =
      wraps_loads (reloaded_loads left count old new reply es named d.0 d.2)
  line_wraps line.Refresh d = wraps_loads
      (refresh_loads left count replica old.dice new.dice es old.caller new.caller d.0 d.2)
  line_wraps (line.Join named file) d =
      wraps_loads (joined_loads left count old new reply es named d.0 d.2)
  line_wraps other d = wraps_none d.0

module _ {L D : Type 0} (link : L → Link) (step : L → Exchange → L → Type 0)
    (left : D → Option (List ℕ)) (count : D → ℕ) where
  run_asks : (files : List SettingsFile) (replica : ℕ) (old new : Workplace L D)
      (run : List LineDone) → DoesAll link step left count files replica old run new
      → All AsksQuestions run
  run_asks files replica old new [] d = All-nil AsksQuestions
  run_asks files replica old new (done ∷ run) d = All-cons AsksQuestions done run
      (line_asks left count files replica old d.0 (Ok done.reply) done.exchanges done.part
      d.1.adds done.line d.1.asks) (run_asks files replica d.0 new run d.2)

  pub lines_wrap_drawn : LinesWrapDrawn link step left count
  lines_wrap_drawn files replica old new done is =
      line_wraps left count files replica old new (Ok done.reply) done.exchanges done.line is.asks

pub lines_ask : (T : Type 0) {L D : Type 0} (link : L → Link) (step : L → Exchange → L → Type 0)
    (left : D → Option (List ℕ)) (count : D → ℕ) → LinesAsk T link step left count
lines_ask T link step left count files history o parts budgets old new one i part worker below =
    let stands = one.each i part worker below in
    run_asks link step left count files _ _ stands.last stands.run stands.does
