-- Moves that are done are the rounds of a plan that is done.
use Rattle.std.proofs.Common.{◌≡◌, ℕ, zero, suc, ◌+◌, List, [], ◌∷◌, ◌++◌, map, IsTrue, refl, sym, ap, subst, ◌∙◌, inl, inr, append-nil, append_assoc, arith}
use Rattle.std.specs.List.{range_with_len}
use Rattle.kr_config.specs.Kept.{ConfigEntry, keeps}
use Rattle.kr_plan.specs.declared.moves.Phase.{Phase}
use Rattle.kr_plan.specs.declared.moves.Phase.TheVariants.{Wide, Turned, Target}
use Rattle.kr_plan.specs.declared.moves.Move.{Move}
use Rattle.kr_plan.specs.declared.moves.Move.TheVariants.{Reload, Rewrite}
use Rattle.kr_plan.specs.Merges.{turned_rows}
use Rattle.kr_plan.specs.Plans.{reloads, replica_moves}
use Rattle.kr_rollout.specs.declared.opening.Entry.{Entry}
use Rattle.kr_rollout.specs.declared.opening.Opening.{Opening}
use Rattle.kr_rollout.specs.Openings.{start_of}
use Rattle.kr_rollout.specs.Histories.{state_from, state_of, IsLegal}
use Rattle.kr_rollout.specs.States.{State}
use Rattle.kr_rollout.specs.Steps.{after}
use Rattle.kr_plan_laws.specs.LiveStates.{IsUnderWay, AreOfRound, IsOver, NoneRefused}
use Rattle.kr_plan_laws.specs.Settled.{AreSettled, WasSettled}
use Rattle.kr_plan_laws.specs.WholePlans.{IsPlanDone}
use Rattle.kr_plan_laws.specs.MovesDone.{phase_rows, MayGoOn, joined, AreDone, IsRolledOut, AllMovesLead}
use Rattle.kr_plan_laws.proofs.Runs.{more_state}
use Rattle.kr_plan_laws.proofs.WholePlan.{plans_come_to_their_end, old_keys_may_go}

-- entries of a round, and more of them
more_of_round : (other : List ConfigEntry) (st : State) (one two : List Entry)
    → AreOfRound other st one → AreOfRound other (state_from st one) two
    → AreOfRound other st (one ++ two)
more_of_round other st [] two a b = b
more_of_round other st (e ∷ one) two a b =
    (a.0, a.1, more_of_round other (after st e) one two a.2 b)

-- where a reload with the turned settings comes next, the round of the wide ones is over
turned_next : (from to : List ConfigEntry) (n : ℕ) (rest : List Move) (st : State)
    → MayGoOn from to Wide (reloads Turned (suc n) ++ rest) st
    → IsOver (phase_rows from to Wide) st
turned_next from to n rest st (inl same) = absurd (let e : Turned ≡ Wide = same in cc)
turned_next from to n rest st (inr over) = over

-- ---- four parts of a list

in_four : (a b c d all w t r g : List Entry) → all ≡ a ++ w → w ≡ b ++ t → t ≡ c ++ r
    → r ≡ d ++ g → g ≡ [] → all ≡ a ++ b ++ c ++ d
in_four a b c d all w t r g one two three four none =
    one ∙ ap (λ l. a ++ l) (two ∙ ap (λ l. b ++ l) (three ∙ ap (λ l. c ++ l)
    (four ∙ ap (λ l. d ++ l) none ∙ append-nil d)))
    ∙ sym (append_assoc a b (c ++ d)) ∙ sym (append_assoc (a ++ b) c d)

behind_all : (before a b c d all : List Entry) → all ≡ a ++ b ++ c ++ d
    → before ++ a ++ b ++ c ++ d ≡ before ++ all
behind_all before a b c d all is =
    append_assoc (before ++ a ++ b) c d ∙ append_assoc (before ++ a) b (c ++ d)
    ∙ append_assoc before a (b ++ (c ++ d))
    ∙ ap (λ l. before ++ l) (sym (append_assoc a b (c ++ d)) ∙ sym (append_assoc (a ++ b) c d)
    ∙ sym is)

module _ (o : Opening) (from to : List ConfigEntry) where
  -- ---- the reloads of a phase are a round

  record IsRound (phase : Phase) (history : List Entry) (rest : List Move)
      (parts : List (List Entry)) : Type 0 where
    pub round : List Entry
    pub others : List (List Entry)
    pub are : joined parts ≡ round ++ joined others
    pub of : AreOfRound (phase_rows from to phase) (state_of o history) round
    pub over : IsOver (phase_rows from to phase) (state_of o (history ++ round))
    pub goes : AreDone o from to (history ++ round) rest others

  a_round : (phase : Phase) (n start : ℕ) (rest : List Move) (history : List Entry)
      (parts : List (List Entry))
      → ((st : State) → MayGoOn from to phase rest st → IsOver (phase_rows from to phase) st)
      → AreDone o from to history
      (map (λ replica. Reload replica phase) (range_with_len start (suc n)) ++ rest) parts
      → IsRound phase history rest parts
  a_round phase zero start rest history (part ∷ parts) ends (of, end, goes) = record {
    round = part;
    others = parts;
    are = refl;
    of = of;
    over = ends (state_of o (history ++ part)) end;
    goes = goes;
  }
  a_round phase (suc n) start rest history (part ∷ parts) ends (of, end, goes) =
      let r = a_round phase n (start + 1) rest (history ++ part) parts ends goes in
      let one : history ++ part ++ r.round ≡ history ++ (part ++ r.round) =
      append_assoc history part r.round in record {
        round = part ++ r.round;
        others = r.others;
        are = ap (λ l. part ++ l) r.are ∙ sym (append_assoc part r.round (joined r.others));
        of = more_of_round (phase_rows from to phase) (state_of o history) part r.round of
            (subst (λ st. AreOfRound (phase_rows from to phase) st r.round)
            (more_state (start_of o) history part) r.of);
        over = subst (λ h. IsOver (phase_rows from to phase) (state_of o h)) one r.over;
        goes = subst (λ h. AreDone o from to h rest r.others) one r.goes;
      }
  a_round phase n start rest history [] ends goes = absurd goes

  -- ---- the rewrite

  record IsRewrite (history : List Entry) (rest : List Move) (parts : List (List Entry))
      : Type 0 where
    pub part : List Entry
    pub others : List (List Entry)
    pub are : joined parts ≡ part ++ joined others
    pub of : AreOfRound (turned_rows from to) (state_of o history) part
    pub settled : (path : List ℕ) → WasSettled to o history part path
    pub goes : AreDone o from to (history ++ part) rest others

  a_rewrite : (rest : List Move) (history : List Entry) (parts : List (List Entry))
      → AreDone o from to history (Rewrite ∷ rest) parts → IsRewrite history rest parts
  a_rewrite rest history (part ∷ parts) (of, settled, goes) = record {
    part = part;
    others = parts;
    are = refl;
    of = of;
    settled = settled;
    goes = goes;
  }
  a_rewrite rest history [] goes = absurd goes

  -- no part is left where no move is
  none_left : (history : List Entry) (parts : List (List Entry))
      → AreDone o from to history [] parts → joined parts ≡ []
  none_left history [] done = refl
  none_left history (part ∷ parts) done = absurd done

  -- ---- all moves

  module _ (kept_from : IsTrue (keeps from)) (kept_to : IsTrue (keeps to)) where
    rolled_out : (before a b c d all : List Entry) → all ≡ a ++ b ++ c ++ d
        → IsPlanDone o from to before a b c d → IsRolledOut o to before all
    rolled_out before a b c d all is plan =
        let come = plans_come_to_their_end o from to before a b c d kept_from kept_to plan in
        let whole = behind_all before a b c d all is in
        let give = subst (λ h. IsUnderWay to to (state_of o h)) whole come.all_give in
        let settled = subst (λ h. AreSettled to (state_of o h)) whole come.settled in record {
          none_refused = subst NoneRefused (sym is) come.none_refused;
          all_give = give;
          settled = settled;
          unused = λ who unlisted. old_keys_may_go o (before ++ all) to who give settled unlisted;
        }

    module _ (n : ℕ) (before : List Entry) (parts : List (List Entry))
        (legal : IsLegal o (before ++ joined parts))
        (begins : IsUnderWay from from (state_of o before)) where
      abbrev LastMoves : List Move
      LastMoves = reloads Target (suc n)

      abbrev FirstRound : Type 0
      FirstRound = IsRound Wide before (reloads Turned (suc n) ++ Rewrite ∷ LastMoves) parts

      abbrev SecondRound : FirstRound → Type 0
      SecondRound w = IsRound Turned (before ++ w.round) (Rewrite ∷ LastMoves) w.others

      together : (w : FirstRound) (t : SecondRound w)
          (r : IsRewrite (before ++ w.round ++ t.round) LastMoves t.others)
          (g : IsRound Target (before ++ w.round ++ t.round ++ r.part) [] r.others)
          → IsRolledOut o to before (joined parts)
      together w t r g =
          let all = in_four w.round t.round r.part g.round (joined parts) (joined w.others)
          (joined t.others) (joined r.others) (joined g.others) w.are t.are r.are g.are
          (none_left (before ++ w.round ++ t.round ++ r.part ++ g.round) g.others g.goes) in
          rolled_out before w.round t.round r.part g.round (joined parts) all (record {
            legal = subst (IsLegal o)
                (sym (behind_all before w.round t.round r.part g.round (joined parts) all)) legal;
            begins = begins;
            wide = w.of;
            wide_over = w.over;
            turned = t.of;
            turned_over = t.over;
            meanwhile = r.of;
            rewritten = r.settled;
            target = g.of;
            target_over = g.over;
          })

      then_target : (w : FirstRound) (t : SecondRound w)
          (r : IsRewrite (before ++ w.round ++ t.round) LastMoves t.others)
          → IsRolledOut o to before (joined parts)
      then_target w t r = together w t r
          (a_round Target n 0 [] (before ++ w.round ++ t.round ++ r.part) r.others (λ st e. e)
          (subst (λ moves. AreDone o from to (before ++ w.round ++ t.round ++ r.part) moves
          r.others) (sym (append-nil LastMoves)) r.goes))

      then_rewrite : (w : FirstRound) (t : SecondRound w) → IsRolledOut o to before (joined parts)
      then_rewrite w t = then_target w t
          (a_rewrite LastMoves (before ++ w.round ++ t.round) t.others t.goes)

      then_turned : FirstRound → IsRolledOut o to before (joined parts)
      then_turned w = then_rewrite w (a_round Turned n 0 (Rewrite ∷ LastMoves)
          (before ++ w.round) w.others (λ st e. e) w.goes)

      lead : AreDone o from to before (replica_moves (suc n)) parts
          → IsRolledOut o to before (joined parts)
      lead done = then_turned (a_round Wide n 0 (reloads Turned (suc n) ++ Rewrite ∷ LastMoves)
          before parts (turned_next from to n (Rewrite ∷ LastMoves)) done)

pub moves_lead : AllMovesLead
moves_lead from to zero kept_from kept_to o before parts some legal begins done =
    absurd (omega (arith, some))
moves_lead from to (suc n) kept_from kept_to o before parts some legal begins done =
    lead o from to kept_from kept_to n before parts legal begins done
