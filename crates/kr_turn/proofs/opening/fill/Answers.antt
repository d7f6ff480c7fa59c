-- What the tactic leaves open of `fill`.
use Rattle.std.proofs.Common.{rules, [], ◌∷◌, ap, sym, ◌∙◌, Some}
use Rattle.atomic_table.specs.Table.{rest}
use Rattle.kr_turn.specs.inner.Steps.{SeatState, filling_view, maker}
use Rattle.kr_turn.proofs.Makes.{empties, fills}
use Rattle.kr_turn.proofs.opening.fill.Goals as goal

pub load-requires : goal.load-requires
load-requires g c = (
  search rules,
  search rules,
  empties _ _ _ _ _ _ _ _ (ap (λ m. m.0.stage) c.requires.first) (ap (λ m. m.1) c.requires.first),
)

pub load-requires-2 : goal.load-requires-2
load-requires-2 g c =
    let now = c.exchange-taken.ensures.3 in (
      search rules,
      search rules,
      fills _ _ _ _ _ _ _ _ c.args.state
          (ap (λ m. m.0) now ∙ (ap (λ m. m.0) c.load.ensures.2
          ∙ ap (λ m. filling_view m.0) c.requires.first))
          (ap (λ m. m.1) now ∙ ap (λ m. (0, Some c.args.state) ∷ rest m.1) c.load.ensures.2)
          c.requires.state.0 (ap g.S.Turned.basis (sym c.requires.state.1))
          (ap g.S.Turned.room (sym c.requires.state.1)) c.requires.some_budget,
    )

pub returns-clause-filled : goal.returns-clause-filled
returns-clause-filled g c =
    c.load-2.ensures.2 ∙ ap (λ t.
    let m : SeatState g.row.S.Denot g.row.S-Line.Denot g.row.S-Ground.Denot = (maker t 0, []) in
    m) (ap (λ m. m.0.terms) c.exchange-taken.ensures.3
    ∙ (ap (λ m. m.0.terms) c.load.ensures.2 ∙ ap (λ m. m.0.terms) c.requires.first))
