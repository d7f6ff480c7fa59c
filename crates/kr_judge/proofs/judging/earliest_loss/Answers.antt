use Rattle.std.proofs.Common.{[], ◌∷◌, get_or, refl, sym, ◌∙◌}
use Rattle.kr_config.specs.Kept.{rows_of}
use Rattle.kr_config.specs.Nexts.{lent_class}
use Rattle.kr_judge.proofs.Walks.{loss_begin, loss_skip, loss_none, loss_found, loss_end}
use Rattle.kr_judge.proofs.judging.earliest_loss.Goals.{then-is_other+in_default, else-is_other}
use Rattle.kr_judge.proofs.judging.earliest_loss.Goals as goal

pub loop-number-init : goal.loop-number-init
loop-number-init c = loss_begin c.args.writer (lent_class c.args.class ∷ []) c.args.replica
    (rows_of c.args.settings.now.entries.0) c.args.generations.now.generations

pub loop-number-preserved : goal.loop-number-preserved
loop-number-preserved c =
    let n = get_or c.live-number-items.result.now c.loop-number.number-index 0 in
    elim c.if-is_other.branch [
      | then-is_other+in_default w ↦ loss_none c.args.writer (lent_class c.args.class ∷ [])
          c.args.replica (rows_of c.args.settings.now.entries.0)
          c.args.generations.now.generations c.live-number-items.result.now
          c.loop-number.number-index n c.get_numbered-generation.result.now w.get-own.result.now
          c.loop-number.invariant c.live-number-items.ensures c.loop-number-test.true refl
          c.get_numbered-generation.ensures (sym c.is_other.ensures ∙ w.if-is_other.true)
          w.get-own.ensures w.in_default.ensures
      | else-is_other w ↦ loss_skip c.args.writer (lent_class c.args.class ∷ [])
          c.args.replica (rows_of c.args.settings.now.entries.0)
          c.args.generations.now.generations c.live-number-items.result.now
          c.loop-number.number-index n c.get_numbered-generation.result.now
          c.loop-number.invariant c.live-number-items.ensures c.loop-number-test.true refl
          c.get_numbered-generation.ensures (sym c.is_other.ensures ∙ w.if-is_other.false)
    ]

pub returns-in-Some : goal.returns-in-Some
returns-in-Some c = loss_found c.args.writer (lent_class c.args.class ∷ []) c.args.replica
    (rows_of c.args.settings.now.entries.0) c.args.generations.now.generations
    c.live-number-items.result.now c.loop-number.number-index
    (get_or c.live-number-items.result.now c.loop-number.number-index 0)
    c.get_numbered-generation.result.now c.get-own.result.now
    (lent_class c.args.class) c.in-Some.who.now
    c.loop-number.invariant c.live-number-items.ensures
    c.loop-number-test.true refl c.get_numbered-generation.ensures
    (sym c.is_other.ensures ∙ c.if-is_other.true) c.get-own.ensures c.in-Some.ensures

pub returns : goal.returns
returns c = loss_end c.args.writer (lent_class c.args.class ∷ []) c.args.replica
    (rows_of c.args.settings.now.entries.0) c.args.generations.now.generations
    c.live-number-items.result.now c.loop-number.number-index
    c.loop-number.invariant c.live-number-items.ensures c.loop-number-test.false
