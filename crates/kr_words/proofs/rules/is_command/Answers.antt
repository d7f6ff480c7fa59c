-- What the tactic leaves open of `is_command`.
use Rattle.kr_words.proofs.Commands.{joins}
use Rattle.kr_words.proofs.rules.is_command.Goals as goal
use Rattle.kr_words.proofs.rules.is_command.Goals.{then-have_values, else-have_values}
use Rattle.kr_words.proofs.rules.is_command.Goals.{then-are_whole, else-are_whole}

pub returns-then-stand_once : goal.returns-then-stand_once
returns-then-stand_once c = elim c.if-are_whole.branch [
  | then-are_whole w ↦ elim c.if-have_values.branch [
    | then-have_values v ↦ (
      λ t. joins (c.have_values.ensures.0 v.if-have_values.true) (v.are_whole.ensures.0 (cc))
          (w.stand_once.ensures.0 (cc)) (c.have_own_names.ensures.0 t),
      λ m.
          c.have_own_names.ensures.1 m.plugins,
    )
    | else-have_values v ↦ absurd (cc)
  ]
  | else-are_whole w ↦ absurd (cc)
]
