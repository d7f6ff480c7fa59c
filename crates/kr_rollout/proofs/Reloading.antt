-- Events that change replicas' configurations: that their lines' entries are steps.
use Rattle.std.proofs.Common.{◌≡◌, ℕ, ◌<◌, [], ◌∷◌, ◌++◌, length, Option, None, Some, IfSome, refl, sym, ap, subst, ◌∙◌, arith, append-nil, length-append}
use Rattle.std.specs.Prelude.{slice_set}
use Rattle.kr_provider.specs.Publication.{Publication, IsPublished}
use Rattle.kr_judge.specs.declared.verdict.Verdict.{Verdict}
use Rattle.kr_judge.specs.declared.verdict.Verdict.TheVariants.{Pass}
use Rattle.kr_judge.specs.Boards.{BoardState}
use Rattle.kr_judge.specs.Verdicts.{verdict}
use Rattle.kr_rollout.specs.declared.answer.Answer.{Answer}
use Rattle.kr_rollout.specs.declared.answer.Answer.TheVariants as answer
use Rattle.kr_rollout.specs.declared.event.Event.{Event}
use Rattle.kr_rollout.specs.declared.event.Event.TheVariants as event
use Rattle.kr_rollout.specs.declared.judgement.Judgement.TheVariants as judgement
use Rattle.kr_rollout.specs.declared.line.Did.{Did}
use Rattle.kr_rollout.specs.declared.line.Gave.TheVariants.{Refused, Nothing}
use Rattle.kr_rollout.specs.declared.line.Line.{Line}
use Rattle.kr_rollout.specs.declared.membership.Bringing.{Bringing}
use Rattle.kr_rollout.specs.declared.membership.Bringing.TheVariants.{Reload, Join}
use Rattle.kr_rollout.specs.States.{State, held_by, verdict_on}
use Rattle.kr_rollout.specs.Answers.{IsAnswer, IsRefusedByVerdict}
use Rattle.kr_rollout.specs.Entries.{generation_adopted_in, revision_in, revision_replaced_in, HasWhatItNames}
use Rattle.kr_rollout.specs.Steps.{after, tears, HidesNoFault, KeepsRules}
use Rattle.kr_rollout.specs.Writes.{Writes}
use Rattle.kr_rollout.specs.Callers.{did_of, gave_of, ShowsEntry, StoresIt}
use Rattle.kr_rollout.specs.inner.Rollouts.{RolloutState, IsRollout, line_now, MayServe, Serves}
use Rattle.kr_rollout.specs.inner.Membership.{AwaitsIt, IsJudgement, brought, taken_as, with_generation}
use Rattle.kr_rollout.proofs.Serving.{IsStill, entry_now, held_in, told}
use Rattle.kr_rollout.proofs.Storing.{entry_then, stepped, names_any}

-- ---- one more generation

-- the state with it, as the step has it
abbrev as_after : State → ℕ → Publication → State
as_after st replica p = record {
  generations = st.generations ++ record { replica = replica; published = p } ∷ [];
  current = slice_set st.current replica (Some (length st.generations));
  held = st.held;
  needs = st.needs;
  rows = st.rows ++ [];
  count = st.count;
}

is_after : (c : RolloutState) (replica : ℕ) (p : Publication)
    → (with_generation c replica p).state ≡ as_after c.state replica p
is_after c replica p = let r = sym (append-nil c.state.rows) in
    (λ i. record {
      generations = c.state.generations ++ record { replica = replica; published = p } ∷ [];
      current = slice_set c.state.current replica (Some (length c.state.generations));
      held = c.state.held;
      needs = c.state.needs;
      rows = r i;
      count = c.state.count;
    })

module _ (old : RolloutState) (kept : BoardState) (seat replica : ℕ) (p : Publication)
    (k : IsRollout old.opening old.state kept) (l : seat < length old.opening.reloads)
    (published : IsPublished p) (pass : verdict kept replica p.rows ≡ Pass) where
  passes : verdict_on old.state replica p.rows ≡ Pass
  passes = subst (λ (b : BoardState). verdict b replica p.rows ≡ Pass) k.board_is pass

  reaches : IfSome (held_by old.state seat)
      (λ n. n < length (with_generation old replica p).state.generations)
  reaches = by (held_by old.state seat) (held_in old.state seat k.held)
    where
      by : (h : Option ℕ) → IfSome h (λ n. n < length old.state.generations)
          → IfSome h (λ n. n < length (old.state.generations
          ++ record { replica = replica; published = p } ∷ []))
      by None m = tt
      by (Some n) m = omega (
        arith,
        m,
        length-append old.state.generations
            (record { replica = replica; published = p } ∷ []),
      )

  -- the step that takes it up
  taken_up : (asked : Event) (given : Answer) → KeepsRules (did_of asked) old.opening
      → (with_generation old replica p).state
      ≡ after old.state (entry_then (with_generation old replica p) seat asked given)
      → IsAnswer (did_of asked) (gave_of given) old.state (held_by old.state seat)
      → Writes (gave_of given) old.opening old.state
      (entry_then (with_generation old replica p) seat asked given)
      → HidesNoFault (gave_of given) old.state.count old.state.count
      → old.torn ≡ tears (gave_of given) old.torn
      → revision_in (gave_of given) ≡ 0 → revision_replaced_in (did_of asked) ≡ 0
      → generation_adopted_in (gave_of given) ≡ None
      → ShowsEntry given (entry_then (with_generation old replica p) seat asked given)
      → StoresIt asked given (entry_then (with_generation old replica p) seat asked given)
      → Serves old seat asked given
      (line_now (with_generation old replica p).state seat (did_of asked) (gave_of given))
      (with_generation old replica p)
  taken_up asked given rules state is writes faults tail none before adopted shows stores =
      stepped old (with_generation old replica p) seat asked given refl state l refl rules is writes
      (omega arith) faults tail (record {
        row = omega (arith, none);
        replaced = omega (arith, before);
        generation = names_any (with_generation old replica p).state.generations
            (held_by old.state seat) (gave_of given) adopted reaches;
      }) shows stores

  bringing_serves : (bringing : Bringing) → MayServe old seat (brought bringing replica p)
      → AwaitsIt bringing old.state replica
      → Serves old seat (brought bringing replica p)
      (taken_as bringing (length old.state.generations))
      (line_now (with_generation old replica p).state seat (did_of (brought bringing replica p))
      (gave_of (taken_as bringing (length old.state.generations))))
      (with_generation old replica p)
  bringing_serves (Reload expect) may is =
      taken_up (event.Reload replica p expect) (answer.Reloaded (length old.state.generations))
      (may.0, (published, may.1)) (is_after old replica p) (is, (passes, refl)) tt refl refl refl refl
      refl tt tt
  bringing_serves Join may is =
      taken_up (event.Join replica p) (answer.Joined (length old.state.generations))
      (may.0, (published, may.1)) (is_after old replica p) (is, (passes, refl)) tt refl refl refl refl
      refl tt tt

-- the same as the caller sees it
module _ (here old new : RolloutState) (kept : BoardState) (seat replica number : ℕ)
    (p q : Publication) (line : Line)
    (k : IsRollout here.opening here.state kept) (view : here ≡ old)
    (l : seat < length old.opening.reloads) (published : IsPublished p)
    (pass : verdict kept replica p.rows ≡ Pass)
    (number_is : number ≡ length old.state.generations) (same : q ≡ p)
    (new_is : new ≡ with_generation old replica q) where
  k2 : IsRollout old.opening old.state kept
  k2 = subst (λ (c : RolloutState). IsRollout c.opening c.state kept) view k

  grown : new ≡ with_generation old replica p
  grown = new_is ∙ ap (with_generation old replica) same

  pub taken_at : (bringing : Bringing) (given : Answer) → given ≡ taken_as bringing number
      → MayServe old seat (brought bringing replica p) → AwaitsIt bringing old.state replica
      → line ≡ line_now new.state seat (did_of (brought bringing replica p)) (gave_of given)
      → Serves old seat (brought bringing replica p) given line new
  taken_at bringing given given_is may is line_is =
      subst (λ x. Serves old seat (brought bringing replica p) given x new) (sym line_is)
      (subst (λ (c : RolloutState). Serves old seat (brought bringing replica p) given
      (line_now c.state seat (did_of (brought bringing replica p)) (gave_of given)) c) (sym grown)
      (subst (λ (x : Answer). Serves old seat (brought bringing replica p) x
      (line_now (with_generation old replica p).state seat (did_of (brought bringing replica p))
      (gave_of x)) (with_generation old replica p))
      (sym (given_is ∙ ap (taken_as bringing) number_is))
      (bringing_serves old kept seat replica p k2 l published pass bringing may is)))

-- ---- none more

module _ (here old : RolloutState) (kept : BoardState) (seat replica : ℕ) (p : Publication)
    (line : Line) (k : IsRollout here.opening here.state kept) (view : here ≡ old)
    (l : seat < length old.opening.reloads) (published : IsPublished p) where
  -- what is brought, and changes nothing
  untaken : (bringing : Bringing) (given : Answer) → IsStill (gave_of given)
      → revision_in (gave_of given) ≡ 0 → generation_adopted_in (gave_of given) ≡ None
      → MayServe old seat (brought bringing replica p)
      → IsAnswer (did_of (brought bringing replica p)) (gave_of given) old.state
      (held_by old.state seat)
      → ShowsEntry given (entry_now old.state seat (did_of (brought bringing replica p))
      (gave_of given))
      → line ≡ line_now old.state seat (did_of (brought bringing replica p)) (gave_of given)
      → Serves old seat (brought bringing replica p) given line old
  untaken bringing given still none adopted may is shows line_is =
      subst (λ x. Serves old seat (brought bringing replica p) given x old) (sym line_is)
      (by bringing may is shows)
    where
      own : IsRollout old.opening old.state kept
      own = subst (λ (c : RolloutState). IsRollout c.opening c.state kept) view k

      reach : (did : Did) → revision_replaced_in did ≡ 0
          → HasWhatItNames old.state.rows old.state.generations
          (line_now old.state seat did (gave_of given))
      reach did before = record {
        row = omega (arith, none);
        replaced = omega (arith, before);
        generation = names_any old.state.generations (held_by old.state seat) (gave_of given) adopted
            (held_in old.state seat own.held);
      }

      by : (way : Bringing) → MayServe old seat (brought way replica p)
          → IsAnswer (did_of (brought way replica p)) (gave_of given) old.state
          (held_by old.state seat)
          → ShowsEntry given (entry_now old.state seat (did_of (brought way replica p))
          (gave_of given))
          → Serves old seat (brought way replica p) given
          (line_now old.state seat (did_of (brought way replica p)) (gave_of given)) old
      by (Reload expect) may is shows = told old seat (event.Reload replica p expect) given still l
          (may.0, (published, may.1)) is (reach _ refl) shows
      by Join may is shows = told old seat (event.Join replica p) given still l
          (may.0, (published, may.1)) is (reach _ refl) shows

  pub refused_at : (bringing : Bringing) (given kept_given : Verdict)
      → IsJudgement kept replica p (judgement.Refused given kept_given)
      → MayServe old seat (brought bringing replica p) → AwaitsIt bringing old.state replica
      → line ≡ line_now old.state seat (did_of (brought bringing replica p)) (Refused kept_given)
      → Serves old seat (brought bringing replica p) (answer.Refused given) line old
  refused_at bringing given kept_given j may is line_is =
      untaken bringing (answer.Refused given) tt refl refl may (by bringing is) tt
      (line_is ∙ ap (λ v. line_now old.state seat (did_of (brought bringing replica p)) (Refused v)) j.2)
    where
      refused : IsRefusedByVerdict old.state replica p given
      refused = (
        j.0 ∙ subst (λ (c : RolloutState). verdict kept replica p.rows ≡ verdict_on c.state replica p.rows)
            view (ap (λ (b : BoardState). verdict b replica p.rows) k.board_is),
        j.1,
      )

      by : (way : Bringing) → AwaitsIt way old.state replica
          → IsAnswer (did_of (brought way replica p)) (Refused given) old.state
          (held_by old.state seat)
      by (Reload expect) is = (is, refused)
      by Join is = (is, refused)

  pub unread_at : (bringing : Bringing) → MayServe old seat (brought bringing replica p)
      → AwaitsIt bringing old.state replica
      → line ≡ line_now old.state seat (did_of (brought bringing replica p)) Nothing
      → Serves old seat (brought bringing replica p) answer.NoMemory line old
  unread_at bringing may is line_is =
      untaken bringing answer.NoMemory tt refl refl may (by bringing is) tt line_is
    where
      by : (way : Bringing) → AwaitsIt way old.state replica
          → IsAnswer (did_of (brought way replica p)) Nothing old.state
          (held_by old.state seat)
      by (Reload expect) is = is
      by Join is = is
