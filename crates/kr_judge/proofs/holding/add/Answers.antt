use Rattle.std.proofs.Common.{[], ◌∷◌, ap, ◌∙◌, refl, arith}
use Rattle.std.proofs.lemmas.List.{map-append, length-map}
use Rattle.kr_config.specs.Kept.{rows_of}
use Rattle.kr_judge.specs.Boards.{added_generation}
use Rattle.kr_judge.specs.inner.Views.{generation_of, generations_of}
use Rattle.kr_judge.proofs.Lives.{added_push}
use Rattle.kr_judge.proofs.holding.add.Goals as goal

pub returns-clause-live : goal.returns-clause-live
returns-clause-live c = added_push (generations_of c.args.generations.now.items) (generations_of c.push_reserved-2.new.self.items) c.args.live.now.items c.push_reserved.new.self.items _
    (added_generation c.args.replica (rows_of c.args.settings.entries.0)) c.requires.live
    (omega (arith, c.len.ensures, length-map c.args.generations.now.items generation_of)) refl c.push_reserved.ensures.items
    (ap generations_of c.push_reserved-2.ensures.items ∙ map-append generation_of c.args.generations.now.items (_ ∷ []))
