use Rattle.std.proofs.Common.{◌<◌, [], ◌∷◌, ◌++◌, length, ap, ◌∙◌, subst, sym, arith}
use Rattle.std.proofs.lemmas.List.{length-map}
use Rattle.kr_config.specs.Kept.{rows_of}
use Rattle.kr_judge.specs.Boards.{added_generation}
use Rattle.kr_judge.specs.inner.Lives.{GenerationsState}
use Rattle.kr_judge.specs.inner.Views.{generation_of, generations_of}
use Rattle.kr_judge.proofs.Currents.{one_added}
use Rattle.kr_judge.proofs.generation_list.GenerationList.add.Goals as goal

pub invariant_of-self : goal.invariant_of-self
invariant_of-self c =
    let room : length (generations_of c.self.inside.all.items) < c.self.inside.room =
    subst (λ (s : GenerationsState). length s.generations < s.room) (sym c.self.view_is) c.requires in (
      c.add.ensures.live,
      one_added c.args.replica (generations_of c.self.inside.all.items) (generations_of c.add.new.generations.items) (rows_of c.args.settings.entries.0) c.self.invariant.1
          (c.add.ensures.added ∙ ap (λ l. l ++ added_generation c.args.replica (rows_of c.args.settings.entries.0) ∷ []) c.leave.ensures.left),
      omega (arith, c.add.ensures.length, c.add.ensures.live_length, c.leave.ensures.length, c.leave.ensures.live_length, c.self.invariant.2),
      omega (arith, c.add.ensures.length, c.leave.ensures.length, room, length-map c.self.inside.all.items generation_of, c.len-number.ensures),
      omega (arith, c.self.invariant.4, c.add.ensures.room, c.leave.ensures.room),
      omega (arith, c.self.invariant.5, c.add.ensures.live_room, c.leave.ensures.live_room),
    )
