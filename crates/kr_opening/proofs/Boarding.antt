-- The opening's board, made of the live rows and then of the replicas.
use Rattle.std.proofs.Common.{◌≡◌, ℕ, List, [], Option, None, Ok, Err, sym, ap, subst, ◌∙◌}
use Rattle.kr_store.specs.declared.rows.LogRow.{LogRow}
use Rattle.kr_config.specs.declared.settings.Settings.{Settings}
use Rattle.kr_config.specs.Kept.{ConfigEntry}
use Rattle.kr_judge.specs.Boards.{BoardState}
use Rattle.kr_opening.specs.declared.opening_board.StartNo.{StartNo}
use Rattle.kr_opening.specs.declared.opening_board.StartNo.TheVariants.{Stray, OtherSecret, Unfit, NoMemory}
use Rattle.kr_opening.specs.Needs.{needs_of, HasNoStray, HasNoOtherSecret}
use Rattle.kr_opening.specs.Replicas.{first_rows, rows_in}
use Rattle.kr_opening.specs.Starts.{opening_generations, AllFit, IsUnfit, IsLeastStray, IsLeastOther, Boards}
use Rattle.kr_opening.specs.inner.OpeningBoards.{NotesAll, TakesAllUp}

module _ (replicas : List (Option Settings)) (first : List ConfigEntry) (rows : List LogRow) (room : ℕ)
    (empty noted : BoardState)
    (is : first_rows (rows_in replicas) ≡ first)
    (fresh : empty ≡ record { generations = []; needs = []; proposal = None; room = room })
  where
    -- with what the rows need
    needs_noted : NotesAll first rows empty noted (Ok tt)
        → noted ≡ record {
          generations = [];
          needs = needs_of (first_rows (rows_in replicas)) rows;
          proposal = None;
          room = room;
        }
    needs_noted n = n.2 ∙ ap (λ (b : BoardState). record b { needs = needs_of first rows }) fresh
        ∙ ap (λ f. record {
          generations = [];
          needs = needs_of f rows;
          proposal = None;
          room = room;
        })
        (sym is)

    no_stray : NotesAll first rows empty noted (Ok tt)
        → HasNoStray (first_rows (rows_in replicas)) rows
    no_stray n = subst (λ f. HasNoStray f rows) (sym is) n.0

    no_other_secret : NotesAll first rows empty noted (Ok tt)
        → HasNoOtherSecret (first_rows (rows_in replicas)) rows
    no_other_secret n = subst (λ f. HasNoOtherSecret f rows) (sym is) n.1

    pub board_made : (done : BoardState) → NotesAll first rows empty noted (Ok tt)
        → TakesAllUp (rows_in replicas) noted done (Ok tt)
        → Boards rows (rows_in replicas) room (Ok done)
    board_made done n t =
        let b = needs_noted n in (
          record {
            readable = no_stray n;
            secrets = no_other_secret n;
            fit =
                subst (λ (x : BoardState). AllFit (rows_in replicas) x.needs) b t.0;
          },
          t.1 ∙ ap (λ (x : BoardState). record x {
            generations =
                opening_generations 0 (rows_in replicas);
          }) b,
        )

    pub board_stray : (why : StartNo) → NotesAll first rows empty noted (Err why)
        → Boards rows (rows_in replicas) room (Err why)
    board_stray (Stray path) n = subst (λ f. IsLeastStray f rows path) (sym is) n
    board_stray (OtherSecret path) n =
        (subst (λ f. HasNoStray f rows) (sym is) n.0, subst (λ f. IsLeastOther f rows path) (sym is) n.1)
    board_stray (Unfit replica verdict) n = absurd n
    board_stray NoMemory n = tt

    pub board_unfit : (done : BoardState) (why : StartNo) → NotesAll first rows empty noted (Ok tt)
        → TakesAllUp (rows_in replicas) noted done (Err why)
        → Boards rows (rows_in replicas) room (Err why)
    board_unfit done (Unfit replica verdict) n t = (
      no_stray n,
      no_other_secret n,
      subst (λ (x : BoardState). IsUnfit (rows_in replicas) x.needs replica verdict)
          (needs_noted n) t,
    )
    board_unfit done NoMemory n t = tt
    board_unfit done other n t = absurd t
