-- That a drive needs few entries: it finds each path at most once.
use Rattle.std.proofs.Common.{◌≡◌, ℕ, ◌+◌, ◌*◌, ◌<◌, ◌≤◌, List, [], ◌∷◌, ◌++◌, length, count_by, Option, Some, Result, Ok, Err, refl, sym, ap, subst, ◌∙◌, inl, inr, arith}
use Rattle.std.specs.Prelude.{Contains, IsSome}
use Rattle.std.specs.Cmp.Lexicographic.{slice_cmp}
use Rattle.std.specs.Ordering.{is_lt, nat_cmp}
use Rattle.std.specs.declared.cmp.Ordering.{Ordering}
use Rattle.std.specs.declared.cmp.Ordering.TheVariants.{Less}
use Rattle.std.proofs.lemmas.Cmp.{nat_list_cmp_total}
use Rattle.std.proofs.lemmas.List.{append_assoc}
use Rattle.std.proofs.lemmas.List.Sums.{count_by-le-length}
use Rattle.std.proofs.lemmas.Option.{slice_get-get_or}
use Rattle.kr_store.specs.Rows.{live}
use Rattle.kr_store.specs.declared.rows.Row.{Row}
use Rattle.kr_history.specs.declared.call.CallNo.{CallNo}
use Rattle.kr_history.specs.declared.call.CallNo.TheVariants as refusal
use Rattle.kr_rollout.specs.declared.opening.Opening.{Opening}
use Rattle.kr_history.specs.Acting.{Caller}
use Rattle.kr_rollout.specs.Histories.{state_of}
use Rattle.kr_history.specs.Parts.{AddsWithin}
use Rattle.kr_history.proofs.PartsAdd.{nothing_within}
use Rattle.kr_opening.proofs.Walking.{count_less, itself, lt_is}
use Rattle.kr_kms.specs.Calls.{Link}
use Rattle.kr_rewrite.specs.DriveLaws.{DrivesNeedFew, LiveAmong}
use Rattle.kr_rewrite.specs.Drives.{EndsByOver, FindsRow, StayLinks, WalksOver, last_of, path_of}
use Rattle.kr_rewrite.specs.Rewrites.{ReadsFoundRow, UnsealsRow}
use Rattle.kr_rewrite.specs.declared.outcome.Report.{Report}
use Rattle.kr_rewrite.specs.declared.outcome.Step.{Step}
use Rattle.kr_rewrite.specs.declared.outcome.Step.TheVariants as step
use Rattle.kr_rewrite.proofs.Growing.{Grows, LooksAt, StepLooks, grows_same, grows_then, step_grows, takes_step}
use Rattle.kr_rewrite.proofs.Spending.{Spends, StepNeeds, step_needs}

abbrev path_cmp : List ℕ → List ℕ → Ordering
path_cmp a b = slice_cmp nat_cmp a b

-- ---- the paths that are still above

module _ (paths : List (List ℕ)) where
  abbrev still_above : List ℕ → ℕ
  still_above at = count_by (λ p. is_lt (path_cmp at p)) paths

  fewer_above : (above path : List ℕ) → path_cmp above path ≡ Less → Contains paths path
      → still_above path < still_above above
  fewer_above above path less there =
      count_less (λ p. is_lt (path_cmp above p)) (λ p. is_lt (path_cmp path p))
      (λ p e. ap is_lt (nat_list_cmp_total.trans above path p less (lt_is path p e))) paths there.0
      path (slice_get-get_or paths there.0 path there.1 ∙ ap Some there.2) (ap is_lt less)
      (itself path)

  -- a row that was found is at one of them
  found_among : (above : List ℕ) (old new last : Caller) (row : Row)
      → LooksAt above old new (Some row) → new.opening ≡ old.opening → Grows new last
      → LiveAmong paths last → Contains paths row.path
  found_among above old new last row l opening g among =
      let h = old.seen ++ l.before in
      let seen : last.seen ≡ h ++ (l.entry ∷ l.rest ++ g.more) =
      g.seen_is ∙ ap (λ s. s ++ g.more) l.seen_is ∙ append_assoc h (l.entry ∷ l.rest) g.more in
      among row.path h (l.entry ∷ l.rest ++ g.more) seen
      (subst (λ (o : Opening). IsSome (live (state_of o h).rows row.path))
      (sym (g.opening_is ∙ opening))
      (subst (λ x. IsSome x) (sym l.next.1) refl))

  module _ {S D : Type 0} (Reads : ReadsFoundRow S) (left : D → Option (List ℕ))
      (count : D → ℕ) (replica : ℕ) where
    walks_grow : (above : List ℕ) (steps : List Step) (old : Caller) (from : S) (dice : D)
        (new : Caller) (to : S) (after : D)
        → WalksOver Reads left count replica above steps old from dice new to after
        → Grows old new
    walks_grow above [] old from dice new to after w = grows_same old new w.0
    walks_grow above (taken ∷ steps) old from dice new to after w =
        grows_then old w.middle new
        (takes_step Reads left count replica above old w.middle from w.mids dice w.between
        taken w.goes).grows
        (walks_grow (path_of above taken) steps w.middle w.mids w.between new to after w.behind)

    -- each step leaves fewer above
    walks_rise : (above : List ℕ) (steps : List Step) (old : Caller) (from : S) (dice : D)
        (new : Caller) (to : S) (after : D) (last : Caller)
        → WalksOver Reads left count replica above steps old from dice new to after
        → Grows new last → LiveAmong paths last
        → length steps + still_above (last_of above steps) ≤ still_above above
    walks_rise above [] old from dice new to after last w g among = omega arith
    walks_rise above (taken ∷ steps) old from dice new to after last w g among =
        let t = takes_step Reads left count replica above old w.middle from w.mids dice
        w.between taken w.goes in
        let further = grows_then w.middle new last (walks_grow (path_of above taken) steps w.middle
        w.mids w.between new to after w.behind) g in
        let rest = walks_rise (path_of above taken) steps w.middle w.mids w.between new to after
        last w.behind g among in
        let less = by w.middle w.finds t.grows further t.looks in
        omega (arith, rest, less)
      where
        by : (middle : Caller) → FindsRow taken → Grows old middle → Grows middle last
            → StepLooks above old middle taken
            → still_above (path_of above taken) < still_above above
        by middle finds g further (StepLooks.at_row row at l) =
            subst (λ p. still_above p < still_above above) (sym (at.path_is above))
            (fewer_above above row.path l.next.0
            (found_among above old middle last row l g.opening_is further among))
        by middle finds g further (StepLooks.at_end e l) = absurd (subst FindsRow e finds)

    -- so a drive spends few
    module _ (Meanwhile : S → S → Type 0) (above : List ℕ) (steps : List Step) (old : Caller)
        (from : S) (dice : D) (ended : Result Step CallNo) (report : Report) (new : Caller)
        (to : S) (after : D)
        (e : EndsByOver Reads Meanwhile left count replica above steps old from dice ended report
        new to after) (among : LiveAmong paths new) where
      by_end : (g : Grows e.middle new) → StepNeeds (last_of above steps) e.middle new ended
          → Spends (4 * length paths + 3) old new ended
      by_end g (StepNeeds.at_none s) =
          let rise = walks_rise above steps old from dice e.middle e.mids e.between new e.walks g
          among in
          let most = count_by-le-length (λ p. is_lt (path_cmp above p)) paths in
          let walked = e.walks_few.1.left_is in
          let few = e.walks_few.2.few in record {
            few = omega (arith, s.few, rise, most, walked, few);
            spent = λ i. let less = s.spent i in omega (arith, less, rise, most, walked, few);
          }
      by_end g (StepNeeds.at_row row l opening s) =
          let rise = walks_rise above steps old from dice e.middle e.mids e.between new e.walks g
          among in
          let most = count_by-le-length (λ p. is_lt (path_cmp above p)) paths in
          let one = fewer_above (last_of above steps) row.path l.next.0
          (found_among (last_of above steps) e.middle new new row l opening
          (grows_same new new refl)
          among) in
          let walked = e.walks_few.1.left_is in
          let few = e.walks_few.2.few in record {
            few = omega (arith, s.few, rise, most, one, walked, few);
            spent = λ i. let less = s.spent i in omega (arith, less, rise, most, one, walked, few);
          }

      spends_few : Spends (4 * length paths + 3) old new ended
      spends_few = by_end
          (step_grows Reads left count replica (last_of above steps) e.middle new e.mids to
          e.between after ended e.ends)
          (step_needs Reads left count replica (last_of above steps) e.middle new e.mids to
          e.between after ended e.ends)

      adds_few : AddsWithin (4 * length paths + 3) 0 [] old new
      adds_few =
          let left_is = e.few.1.left_is in (
            e.few.0,
            e.few.1,
            record {
              few = omega (arith, left_is, spends_few.few);
              brings_few = e.few.2.brings_few;
              puts_are = e.few.2.puts_are;
            },
          )

abbrev why_in : CallNo → Result Report (Report × CallNo) → CallNo
why_in other (Ok report) = other
why_in other (Err cut) = cut.1

pub drives_need_few : {L D : Type 0} (link : L → Link)
    (left : D → Option (List ℕ)) (count : D → ℕ) → DrivesNeedFew link left count
drives_need_few {L} {D} link left count replica above old olds dice (Ok report) new news
    after paths d among = record {
      few = adds_few paths (UnsealsRow link) left count replica (StayLinks link) above
          d.steps old olds dice (Ok step.End)
          report new news after d.ends among;
      spent = λ r e. cc e;
    }
drives_need_few {L} {D} link left count replica above old olds dice (Err cut) new news after
    paths (inl c) among = record {
      few = adds_few paths (UnsealsRow link) left count replica (StayLinks link) above
          c.steps old olds dice (Err cut.1)
          cut.0 new news after c.ends among;
      spent = λ r e. (spends_few paths (UnsealsRow link) left count replica (StayLinks link)
          above c.steps old olds dice
          (Err cut.1) cut.0 new news after c.ends among).spent
          (ap (λ why. Err why) (ap (why_in cut.1) e));
    }
drives_need_few {L} {D} link left count replica above old olds dice (Err cut) new news after
    paths (inr n) among = record {
      few = subst (λ (c : Caller). AddsWithin (4 * length paths + 3) 0 [] old c) (sym n.same)
          (nothing_within (4 * length paths + 3) 0 [] old);
      spent = λ r e. absurd (other (sym n.why_is ∙ ap (why_in cut.1) e));
    }
  where
    other : ◌≡◌ {A = CallNo} refusal.NoMemory refusal.Spent → ⊥
    other e = cc e
