-- A whole drive over a caller that is alone: its steps one behind another, beside the live rows.
use Rattle.std.proofs.Common.{◌≡◌, ℕ, ◌+◌, ◌-◌, ◌*◌, ◌^◌, ◌<◌, ◌≤◌, List, [], ◌∷◌, ◌++◌, length, count_by, Bool, true, false, cond, Option, None, Some, Result, Ok, Err, refl, sym, ◌∙◌, ap, subst, inl, inr, append-nil, arith}
use Rattle.std.specs.Prelude.{IfSome, ◌⊎◌, ⊤}
use Rattle.std.proofs.Math.Nat.{min-eq_left}
use Rattle.std.proofs.lemmas.List.Recursion.{is_count_by}
use Rattle.std.proofs.lemmas.List.Sums.{count_by-le-length}
use Rattle.std.proofs.KnownBytes.{Keeps-refl}
use Rattle.kr_base.specs.Faults.{Rose}
use Rattle.kr_base.specs.Limits.{store_limit}
use Rattle.kr_kms.specs.Calls.{Link}
use Rattle.kr_kms.specs.Exchanges.{Exchange}
use Rattle.kr_provider.specs.AskedLinks.{AskedOnly, FaultRose}
use Rattle.kr_provider.specs.Names.{AreDistinct, names_of}
use Rattle.kr_provider.specs.Publication.{Publication}
use Rattle.kr_provider.proofs.AskedLists.{asked_none}
use Rattle.kr_store.specs.File.{IsFile}
use Rattle.kr_store.specs.Stores.{Holds, Kept}
use Rattle.kr_store.specs.declared.rows.Row.{Row}
use Rattle.kr_history.specs.declared.call.CallNo.{CallNo}
use Rattle.kr_history.specs.declared.call.CallNo.TheVariants as no
use Rattle.kr_rollout.specs.declared.event.Event.TheVariants as event
use Rattle.kr_rollout.specs.declared.answer.Answer.TheVariants as answer
use Rattle.kr_rollout.specs.declared.opening.Opening.{Opening}
use Rattle.kr_history.specs.Acting.{Caller}
use Rattle.kr_rollout.specs.Histories.{IsRun, state_of}
use Rattle.kr_rollout.specs.Openings.{start_of}
use Rattle.kr_history.specs.Parts.{AddsWithin}
use Rattle.kr_rewrite.specs.Drives as drives
use Rattle.kr_rewrite.specs.DriveExchanges.{Ahead, ReadsRow}
use Rattle.kr_rewrite.specs.Drives.{CopiesNoPath, DrivesOver, EndsByOver, IsCutOver, WalksOver, capped_count, is_changed, is_fresh, is_left, is_rewritten, last_of, path_of}
use Rattle.kr_rewrite.specs.declared.outcome.Report.{Report}
use Rattle.kr_rewrite.specs.declared.outcome.Step.{Step}
use Rattle.kr_rewrite.specs.declared.outcome.Step.TheVariants as step
use Rattle.kr_cmd_steps.specs.Environment.{Environment, with_exchanges, with_what_is_said}
use Rattle.kr_cmd_rewrite.proofs.HeardRows.{past}
use Rattle.kr_cmd_steps.specs.RewriteSteps.{Progress, driving, row_steps}
use Rattle.kr_cmd_steps.specs.Phases.{with_memory}
use Rattle.kr_cmd_messages.specs.Reports.{report_outcome, report_text}
use Rattle.kr_cmd_steps.specs.Steps.{Steps, and_then, give}
use Rattle.kr_cmd_steps.specs.StoreFiles.{Stored, BeginsWith, HoldsRows}
use Rattle.kr_cmd_messages.specs.declared.refusal.Outcome.{Outcome}
use Rattle.kr_cmd_messages.specs.declared.refusal.Stop.{Stop}
use Rattle.kr_cmd_messages.specs.declared.refusal.Stop.TheVariants.{NoMemory}
use Rattle.kr_cmd_messages.specs.declared.report.RewriteCounts.{RewriteCounts}
use Rattle.kr_cmd_steps.specs.inner.Lent.{with_lent_tape}
use Rattle.kr_cmd_steps.specs.inner.Phases.{Does}
use Rattle.kr_cmd_rewrite.specs.inner.Rewriting.{IsDriveStop, report_counts}
use Rattle.kr_cmd_steps.proofs.RisingCounts.{counted as counted_on}
use Rattle.kr_cmd_rewrite.proofs.DriveEnds.{Cuts, CutsRow, Unfailed, closes, cut_counts, cut_keeps, cuts, unfailed_so}
use Rattle.kr_cmd_rewrite.proofs.DriveSteps.{IsDriven, acted_lone, acts_so, passes}
use Rattle.kr_cmd_steps.proofs.Frames.{home, kept}
use Rattle.kr_cmd_steps.proofs.RunTo.{given, goes_on, home_refl, nothing, reach, stops}
use Rattle.kr_cmd_rewrite.proofs.LoneCallers.{IsLone, count_later}
use Rattle.kr_cmd_steps.proofs.Made.{remembers}
use Rattle.kr_cmd_rewrite.proofs.Reported.{held_by, reported}
use Rattle.kr_cmd_rewrite.proofs.RowCuts.{count_by as tape_by, drawn_by, links_by, row_cut, told_by}
use Rattle.kr_cmd_rewrite.proofs.RowDrives.{Becomes}
use Rattle.kr_cmd_rewrite.proofs.Said.{All_lent}
use Rattle.kr_cmd_steps.proofs.Works.{lacks}

-- ---- the counts of some steps

abbrev pub one_more : Step → RewriteCounts → RewriteCounts
one_more step.End c = c
one_more (step.Rewritten path) c = record c { rewritten = c.rewritten + 1 }
one_more (step.Fresh path) c = record c { fresh = c.fresh + 1 }
one_more (step.Changed path) c = record c { changed = c.changed + 1 }
one_more (step.Left path) c = record c { left = c.left + 1 }

abbrev pub tallied : RewriteCounts → List Step → RewriteCounts
tallied c [] = c
tallied c (taken ∷ steps) = tallied (one_more taken c) steps

abbrev number : (Step → Bool) → List Step → ℕ
number is [] = 0
number is (x ∷ xs) = cond (is x) (1 + number is xs) (number is xs)

pick : (b : Bool) (n : ℕ) → cond b (1 + n) n ≡ cond b 1 0 + n
pick true n = omega arith
pick false n = omega arith

module _ (field : RewriteCounts → ℕ) (is : Step → Bool)
    (adds : (x : Step) (c : RewriteCounts) → field (one_more x c) ≡ field c + cond (is x) 1 0) where
  tally_is : (c : RewriteCounts) (steps : List Step) → field (tallied c steps) ≡ field c + number is steps
  tally_is c [] = omega arith
  tally_is c (x ∷ steps) =
      let e = tally_is (one_more x c) steps in
      let f = adds x c in
      let g = pick (is x) (number is steps) in omega (arith, e, f, g)

  counted_is : (c : RewriteCounts) (steps : List Step) → field c ≡ 0 → length steps ≤ 1000000
      → field (tallied c steps) ≡ capped_count (count_by is steps)
  counted_is c steps none few =
      let n : number is steps ≡ count_by is steps =
      is_count_by (number is) is refl (λ x xs. refl) steps in
      let most = count_by-le-length is steps in
      let e = tally_is c steps in
      let all : field (tallied c steps) ≡ count_by is steps = omega (arith, e, n, none) in
      all ∙ sym (min-eq_left (omega (arith, most, few)))

-- what a step adds to each count
all_added : (x : Step) (c : RewriteCounts)
    → ((one_more x c).rewritten ≡ c.rewritten + cond (is_rewritten x) 1 0)
    × ((one_more x c).fresh ≡ c.fresh + cond (is_fresh x) 1 0)
    × ((one_more x c).changed ≡ c.changed + cond (is_changed x) 1 0)
    × ((one_more x c).left ≡ c.left + cond (is_left x) 1 0)
all_added step.End c = (omega arith, omega arith, omega arith, omega arith)
all_added other c = (omega arith, omega arith, omega arith, omega arith)

abbrev pub no_counts : RewriteCounts
no_counts = record { rewritten = 0; fresh = 0; changed = 0; left = 0 }

-- they are those of the report
pub counts_are : (above : List ℕ) (steps : List Step) (report : Report) → length steps ≤ 1000000
    → drives.StepCounts above steps report → tallied no_counts steps ≡ report_counts report
counts_are above steps report few r = λ i. record {
  rewritten = (counted_is (λ c. c.rewritten) is_rewritten (λ x c. (all_added x c).0) no_counts steps
      refl few ∙ sym r.rewritten) i;
  fresh = (counted_is (λ c. c.fresh) is_fresh (λ x c. (all_added x c).1) no_counts steps refl few
      ∙ sym r.fresh) i;
  changed = (counted_is (λ c. c.changed) is_changed (λ x c. (all_added x c).2) no_counts steps refl
      few ∙ sym r.changed) i;
  left = (counted_is (λ c. c.left) is_left (λ x c. (all_added x c).3) no_counts steps refl few
      ∙ sym r.left) i;
}

next_counts : (p : Publication) (row : Row) (at next : Progress) (taken : Step)
    → Becomes p row at next taken → next.counts ≡ one_more taken at.counts
next_counts p row at next (step.Rewritten path) b = ap (λ (n : Progress). n.counts) b.2
next_counts p row at next (step.Fresh path) b = ap (λ (n : Progress). n.counts) b.1
next_counts p row at next (step.Left path) b = ap (λ (n : Progress). n.counts) b.1
next_counts p row at next other b = absurd b

-- ---- the tape in the end

whole_at : (st : Stored) (file : List ℕ) (torn : Bool) (told : Option (List ℕ))
    → IsFile st.format st.rows file → torn ≡ false
    → IfSome told (λ bytes. (rest : List ℕ) × (bytes ≡ file ++ rest)
    × (torn ≡ false → rest ≡ []))
    → HoldsRows st told
whole_at st file torn None is whole h = tt
whole_at st file torn (Some bytes) is whole (rest, bytes_are, none) =
    subst (IsFile st.format st.rows)
    (sym (bytes_are ∙ ap (λ r. file ++ r) (none whole) ∙ append-nil file)) is

begun_at : (st : Stored) (file : List ℕ) (torn : Bool) (told : Option (List ℕ))
    → IsFile st.format st.rows file
    → IfSome told (λ bytes. (rest : List ℕ) × (bytes ≡ file ++ rest)
    × (torn ≡ false → rest ≡ []))
    → BeginsWith st told
begun_at st file torn None is h = tt
begun_at st file torn (Some bytes) is (rest, bytes_are, none) = (file, rest, is, bytes_are)

-- the store's file is that of these rows
module _ (st : Stored) (store : Kept) (rows : store.rows ≡ st.rows)
    (format : store.format ≡ st.format) (h : Holds store) where
  file_is : IsFile st.format st.rows h.0
  file_is = subst (λ r. IsFile st.format r h.0) rows
      (subst (λ f. IsFile f store.rows h.0) format h.1)

  whole_holds : store.torn ≡ false → HoldsRows st store.told
  whole_holds whole = whole_at st h.0 store.torn store.told file_is whole h.4

  store_begins : BeginsWith st store.told
  store_begins = begun_at st h.0 store.torn store.told file_is h.4

-- a write that failed would have raised a count that could rise
unrisen : (torn : Bool) (before now : ℕ) → (torn ≡ true → Rose before now) → now ≡ before
    → before < 2 ^ 64 - 1 → torn ≡ false
unrisen false before now rose same rising = refl
unrisen true before now rose same rising = absurd (by (rose refl))
  where
    by : Rose before now → ⊥
    by (inl r) = omega (arith, r, same)
    by (inr r) = let e = r.0 in omega (arith, e, rising)

-- the count of a caller that is alone is no less than at the opening
pub since_opening : (o : Opening) (p : Publication) (c : Caller) → IsLone o p c
    → o.count ≤ (state_of o c.seen).count
since_opening o p c lone = counted_on o (start_of o) c.seen
    (subst (λ (x : Opening). IsRun x (start_of x) c.seen) lone.opening lone.caller.legal.runs)

-- ---- the walk

-- how a drive ended over this store, and what is made of it
abbrev pub EndsSo : {L D : Type 0} (link : L → Link) (first last : List L) (store : Kept)
    (left : D → Option (List ℕ)) (count : D → ℕ) (old : Caller) (olds : Ahead) (dice : D)
    (report : Report) (new : Caller) (news : Ahead) (after : D) → Result Outcome Stop → Type 0
EndsSo link first last store left count old olds dice report new news after made =
    (DrivesOver ReadsRow (λ from to. ⊤) left count 0 [] old olds dice report new news after
    × ((made ≡ Ok (report_outcome (report_counts report))) ⊎ (made ≡ Err NoMemory)))
    ⊎ ((why : CallNo) × (stop : Stop) × IsDriveStop link store last (count after) why stop
    × ((plugin : List ℕ) → why ≡ no.PluginFailed plugin → FaultRose link plugin first last)
    × (IsCutOver ReadsRow (λ from to. ⊤) left count 0 [] old olds dice why report new news after
    ⊎ CopiesNoPath old olds dice why report new news after) × (made ≡ Err stop))

module _ {L D : Type 0} (link : L → Link) (first last : List L)
    (asked : AskedOnly link (names_of link first) first last)
    (distinct : (why : CallNo) → AreDistinct link (links_by first last why))
    (all : List Exchange) (left : D → Option (List ℕ)) (count : D → ℕ) (o : Opening)
    (p : Publication) (one : o.reloads ≡ 0 ∷ []) (limit_is : o.limit ≡ store_limit)
    (name : List ℕ) (a : Environment) where
  abbrev Now : Ahead → Environment
  Now s = with_exchanges (past all s) a

  abbrev pub At : (said : List ℕ) → List L → Ahead → D → (drawn : ℕ) → Option (List ℕ) → ℕ
      → Environment
  At said links s dice drawn told m =
      All_lent link links (left dice) drawn name told m (with_what_is_said said (Now s))

  module _ (why : CallNo) (drawn m : ℕ) (final : Environment) (made : Result Outcome Stop) where
    abbrev K : List L
    K = links_by first last why

    -- from here the rest ends so, whatever the tape tells and was said
    abbrev Ends_from : List Row → Progress → Ahead → D → Type 0
    Ends_from rest at s dice = (said : List ℕ) (told : Option (List ℕ))
        → Does (driving name p rest s.cache at) (At said K s dice drawn told m) final made

    abbrev Behind : List ℕ → List Step → List Row → RewriteCounts → Caller → Ahead → D → Type 0
    Behind above steps rows counts mid mids between = (rest : List Row) (at : Progress)
        → IsDriven all o p (last_of above steps) rest at mid mids
        → length rows ≡ length steps + length rest → at.counts ≡ tallied counts steps
        → Ends_from rest at mids between

    walks_on : (steps : List Step) (above : List ℕ) (rows : List Row) (at : Progress)
        (old mid : Caller) (olds mids : Ahead) (dice between : D)
        → IsDriven all o p above rows at old olds
        → WalksOver ReadsRow left count 0 above steps old olds dice mid mids between
        → Behind above steps rows at.counts mid mids between → Ends_from rows at olds dice
    walks_on [] above rows at old mid olds mids dice between driven w behind said told =
        let last = subst (λ c. IsDriven all o p above rows at c mids) (sym w.0)
        (subst (λ l. IsDriven all o p above rows at old l) (sym w.1) driven) in
        subst (λ (s : Ahead). Does (driving name p rows s.cache at) (At said K s dice drawn told m)
        final made) w.1
        (subst (λ d. Does (driving name p rows mids.cache at) (At said K mids d drawn told m) final
        made) w.2
        (behind rows at last (omega arith) refl said told))
    walks_on (taken ∷ steps) above rows at old mid olds mids dice between driven w behind said told
        =
        let text = report_text at.counts in
        let s = passes link K (distinct why) all left count o p one limit_is name
        (with_what_is_said text a) drawn m above rows at old w.middle olds
        w.mids dice w.between driven taken w.finds w.goes in
        let more = ap length s.rows_are in
        subst (λ r. Does (driving name p r olds.cache at) (At said K olds dice drawn told m) final
        made)
        (sym s.rows_are)
        (reported link K (left dice) drawn name at told None m m (omega arith) tt
        (with_what_is_said said (Now olds))
        (goes_on (row_steps name p s.row olds.cache at)
        (λ done. driving name p s.rest done.1 done.0) (s.next, w.mids.cache) s.does
        (walks_on steps (path_of above taken) s.rest s.next w.middle mid w.mids mids w.between
        between s.onward w.behind
        (λ rest then d many counts. behind rest then d (omega (arith, many, more))
        (counts ∙ ap (λ c. tallied c steps) (next_counts p s.row at s.next taken s.becomes)))
        text None)))

  -- the counts of the random source and of the links are raised
  raises : {A : Type 0} {next : Steps A} {final : Environment} {made : Result A Stop} (said : List ℕ)
      (now : List L) → AskedOnly link (names_of link first) first now → (s : Ahead) (dice : D)
      (before drawn : ℕ) (told : Option (List ℕ)) (m : ℕ) → before ≤ drawn
      → Does next (At said now s dice drawn told m) final made
      → Does next (At said first s dice before told m) final made
  raises {next = next} said now same s dice before drawn told m later d =
      let b = with_lent_tape name told m (with_what_is_said said (Now s)) in
      goes_on nothing (λ u. next) tt (record {
        home = home link b (names_of link first) first now same (left dice) (left dice) before
            drawn later;
        ends = λ l stay. reach l (refl, refl) (kept link b (names_of link first) first now same
            (left dice) (left dice) before drawn (Keeps-refl (left dice)) l stay);
      }) d

  asked_by : (why : CallNo) → AskedOnly link (names_of link first) first (links_by first last why)
  asked_by (no.PluginFailed plugin) = asked_none link (names_of link first) first
  asked_by why = asked

  -- ---- the end

  module _ (store : Kept) (m : ℕ) (later : m ≤ store.count) (at : Progress)
      (holds : HoldsRows at.store store.told) (s : Ahead) (dice : D) (drawn : ℕ)
      (said : List ℕ) (told : Option (List ℕ)) where
    abbrev Last : Environment
    Last = At (report_text at.counts) last s dice drawn store.told store.count

    -- no row is left
    last_report : (made : Result Outcome Stop)
        → (made ≡ Ok (report_outcome at.counts)) ⊎ (made ≡ Err NoMemory)
        → Does (driving name p [] s.cache at) (At said last s dice drawn told m) Last made
    last_report made is = reported link last (left dice) drawn name at told store.told m
        store.count later holds (with_what_is_said said (Now s)) (by is)
      where
        by : (made ≡ Ok (report_outcome at.counts)) ⊎ (made ≡ Err NoMemory)
            → Does (with_memory (give (report_outcome at.counts))) Last Last made
        by (inl e) = subst (λ r. Does (with_memory (give (report_outcome at.counts))) Last Last r)
            (sym e) (remembers (given (report_outcome at.counts) Last))
        by (inr e) = subst (λ r. Does (with_memory (give (report_outcome at.counts))) Last Last r)
            (sym e) (lacks (give (report_outcome at.counts)) Last)

    -- memory lacked before the next row was looked at
    amid : (rest : List Row)
        → Does (driving name p rest s.cache at) (At said last s dice drawn told m) Last
        (Err NoMemory)
    amid [] = last_report (Err NoMemory) (inr refl)
    amid (row ∷ more) = reported link last (left dice) drawn name at told store.told m store.count
        later holds (with_what_is_said said (Now s)) {next = and_then
        (row_steps name p row s.cache at) (λ done. driving name p more done.1 done.0)} (record {
          home = home_refl Last;
          ends = λ l stay. inr (reach l (inl (refl, refl)) stay);
        })

  module _ (store : Kept) (rows : List Row) (at : Progress) (old new : Caller)
      (olds news : Ahead) (dice after : D) (report : Report)
      (none : at.counts ≡ no_counts) (format_is : store.format ≡ o.format)
      (rows_are : store.rows ≡ (state_of o new.seen).rows)
      (count_is : store.count ≡ (state_of o new.seen).count)
      (later : o.count ≤ store.count) (bounded : store.count < 2 ^ 64)
      (rose : store.torn ≡ true → Rose o.count store.count) (rising : o.count < 2 ^ 64 - 1)
      (store_holds : Holds store)
      (driven : IsDriven all o p [] rows at old olds) (few : length rows ≤ 1000000)
      (room : 4 * length rows + 3 ≤ old.left) (told : Option (List ℕ)) where
    abbrev Begin : Environment
    Begin = At a.said first olds dice (count dice) told o.count

    abbrev End : Environment
    End = At (report_text (report_counts report)) last news after (count after) store.told
        store.count

    begins_now : (then : Progress) → (state_of o new.seen).rows ≡ then.store.rows
        → then.store.format ≡ o.format → BeginsWith then.store store.told
    begins_now then same format = store_begins then.store store (rows_are ∙ same)
        (format_is ∙ sym format) store_holds

    holds_now : (then : Progress) → (state_of o new.seen).rows ≡ then.store.rows
        → then.store.format ≡ o.format → (state_of o new.seen).count ≡ o.count
        → HoldsRows then.store store.told
    holds_now then same format still = whole_holds then.store store (rows_are ∙ same)
        (format_is ∙ sym format) store_holds
        (unrisen store.torn o.count store.count rose (count_is ∙ still) rising)

    -- what may still be added behind some steps
    room_then : (steps : List Step) (mid : Caller) (rest : List Row)
        → AddsWithin (4 * length steps) 0 [] old mid → length rows ≡ length steps + length rest
        → 4 * length rest + 3 ≤ mid.left
    room_then steps mid rest (part, adds, within) many =
        let e = adds.left_is in
        let f = within.few in omega (arith, e, f, many, room)

    counts_then : (steps : List Step) (rest : List Row) (then : Progress)
        → drives.StepCounts [] steps report → length rows ≡ length steps + length rest
        → then.counts ≡ tallied at.counts steps → then.counts ≡ report_counts report
    counts_then steps rest then r many counts = counts
        ∙ ap (λ c. tallied c steps) none
        ∙ counts_are [] steps report (omega (arith, many, few)) r

    -- it came to the end
    drives_all : (made : Result Outcome Stop) → count dice ≤ count after
        → DrivesOver ReadsRow (λ from to. ⊤) left count 0 [] old olds dice report new news after
        → (made ≡ Ok (report_outcome (report_counts report))) ⊎ (made ≡ Err NoMemory)
        → Does (driving name p rows olds.cache at) Begin End made
    drives_all made drawn d is = raises a.said last asked olds dice (count dice) (count after) told
        o.count drawn (walks_on no.NoMemory (count after) o.count End made d.steps [] rows at old e.middle olds e.mids
        dice e.between driven e.walks behind a.said told)
      where
        e : EndsByOver ReadsRow (λ from to. ⊤) left count 0 [] d.steps old olds dice (Ok step.End) report new news
            after
        e = d.ends

        behind : Behind no.NoMemory (count after) o.count End made [] d.steps rows at.counts e.middle e.mids
            e.between
        behind rest then there many counts said last_told =
            let c = closes all left count o p one (last_of [] d.steps) rest then e.middle
            new e.mids news e.between after there (room_then d.steps e.middle rest e.walks_few many)
            link last (distinct no.NoMemory) limit_is a e.ends in
            let same = counts_then d.steps rest then e.counts many counts in
            let may = subst (λ n. (made ≡ Ok (report_outcome n)) ⊎ (made ≡ Err NoMemory))
            (sym same) is in
            subst (λ r. Does (driving name p r e.mids.cache then)
            (At said last e.mids e.between (count after) last_told o.count) End made) (sym c.none)
            (subst (λ n. Does (driving name p [] e.mids.cache then)
            (At said last e.mids e.between (count after) last_told o.count)
            (At (report_text n) last news after (count after) store.told store.count) made) same
            (subst (λ (l : Ahead). Does (driving name p [] e.mids.cache then)
            (At said last e.mids e.between (count after) last_told o.count)
            (At (report_text then.counts) last l after (count after) store.told store.count) made)
            (sym c.news_are)
            (subst (λ x. Does (driving name p [] e.mids.cache then)
            (At said last e.mids e.between (count after) last_told o.count)
            (At (report_text then.counts) last e.mids x (count after) store.told store.count) made)
            (sym c.after_is)
            (last_report store o.count later then
            (holds_now then c.rows_stay there.format_is c.count_stays) e.mids e.between (count after) said
            last_told made may))))

    -- ---- it was cut short

    module _ (why : CallNo) (stop : Stop)
        (stops_so : IsDriveStop link store last (count after) why stop)
        (fails : (plugin : List ℕ) → why ≡ no.PluginFailed plugin
        → FaultRose link plugin first last) where
      cut_amid : (then : Progress) (rest : List Row) (mids : Ahead) (between : D)
          (said : List ℕ) (last_told : Option (List ℕ)) → why ≡ no.NoMemory → news ≡ mids
          → after ≡ between → HoldsRows then.store store.told
          → Does (driving name p rest mids.cache then)
          (At said (links_by first last why) mids between (drawn_by (count between) (count after) why)
          last_told o.count)
          (At (report_text then.counts) last news after (count after) store.told store.count) (Err stop)
      cut_amid then rest mids between said last_told is l d holds =
          let stop_is : stop ≡ NoMemory =
          subst (λ w. IsDriveStop link store last (count after) w stop) is stops_so in
          subst (λ w. Does (driving name p rest mids.cache then)
          (At said (links_by first last w) mids between (drawn_by (count between) (count after) w)
          last_told o.count)
          (At (report_text then.counts) last news after (count after) store.told store.count) (Err stop))
          (sym is)
          (subst (λ x. Does (driving name p rest mids.cache then)
          (At said last mids between (count after) last_told o.count)
          (At (report_text then.counts) last news after (count after) store.told store.count) (Err x))
          (sym stop_is)
          (subst (λ n. Does (driving name p rest mids.cache then)
          (At said last mids between (count after) last_told o.count)
          (At (report_text then.counts) last n after (count after) store.told store.count)
          (Err NoMemory)) (sym l)
          (subst (λ x. Does (driving name p rest mids.cache then)
          (At said last mids between (count after) last_told o.count)
          (At (report_text then.counts) last mids x (count after) store.told store.count)
          (Err NoMemory)) (sym d)
          (amid store o.count later then holds mids between (count after) said last_told rest))))

      module _ (above : List ℕ) (then : Progress) (rest : List Row) (mid : Caller)
          (mids : Ahead) (between : D) (there : IsDriven all o p above rest then mid mids)
          (enough : 4 * length rest + 3 ≤ mid.left) where
        -- what is left of the walk stops there
        abbrev StopsAt : (said : List ℕ) (last_told : Option (List ℕ)) → List Row → Type 0
        StopsAt said last_told rows = Does (driving name p rows mids.cache then)
            (At said (links_by first last why) mids between (drawn_by (count between) (count after) why)
            last_told o.count)
            (At (report_text then.counts) last news after (count after) store.told store.count)
            (Err stop)

        cut_at_row : (said : List ℕ) (last_told : Option (List ℕ))
            → BeginsWith then.store store.told → Unfailed why (HoldsRows then.store store.told)
            → CutsRow all left count o p one above rest then mid new mids news between after
            there enough why
            → StopsAt said last_told rest
        cut_at_row said last_told begun holds r =
            let text = report_text then.counts in
            let so = acts_so left count p r.row r.found r.acted mids news between after
            (Err why) r.rewrites in
            let acted = acted_lone o p one r.row r.found r.acted (Err why) r.lone so in
            let further = count_later o p one r.acted new event.LetGo answer.Released acted r.lets
            in
            let h = held_by then.store store.told o.count store.count why later holds in
            let cut = row_cut link first last asked distinct all left count o p one limit_is
            name (with_what_is_said text a) r.row then r.found r.number r.lone r.holds
            r.same_rows r.is_next.1 there.format_is mids news between after r.acted there.follows
            store o.count (since_opening o p r.found r.lone) (omega (arith, further, count_is))
            bounded begun r.unspent why stop
            stops_so fails r.rewrites in
            subst (StopsAt said last_told) (sym r.rows_are)
            (reported link (links_by first last why) (left between)
            (drawn_by (count between) (count after) why) name then last_told
            (told_by store.told why) o.count (tape_by o.count store.count why) h.0 h.1
            (with_what_is_said said (Now mids))
            (stops (row_steps name p r.row mids.cache then)
            (λ done. driving name p r.rest done.1 done.0) stop cut))

        cut_at : (said : List ℕ) (last_told : Option (List ℕ))
            → Cuts all left count o p one above rest then mid new mids news between after
            there enough why
            → StopsAt said last_told rest
        cut_at said last_told (inl n) = cut_amid then rest mids between said last_told n.why_is
            n.news_are n.after_is
            (holds_now then n.rows_stay there.format_is n.count_stays)
        cut_at said last_told (inr r) =
            let same = cut_keeps all left count o p one above rest then mid new mids news
            between after there enough why (inr r) in
            cut_at_row said last_told (begins_now then same there.format_is)
            (unfailed_so why (holds_now then same there.format_is)
            (cut_counts all left count o p one above rest then mid new mids news between
            after there enough why (inr r))) r

      -- what the count was along the way is no less than at the begin
      drawn_later : (between : D) → count dice ≤ count between → count dice ≤ count after
          → (cause : CallNo) → count dice ≤ drawn_by (count between) (count after) cause
      drawn_later between walked more no.DiceFailed = walked
      drawn_later between walked more other = more

      cut_short : count dice ≤ count after
          → IsCutOver ReadsRow (λ from to. ⊤) left count 0 [] old olds dice why report new news after
          → Does (driving name p rows olds.cache at) Begin End (Err stop)
      cut_short more d = raises a.said (links_by first last why) (asked_by why) olds dice
          (count dice) drawn told o.count (drawn_later e.between e.walks_later more why)
          (walks_on why drawn o.count End (Err stop) d.steps [] rows at old e.middle olds e.mids dice
          e.between driven e.walks behind a.said told)
        where
          e : EndsByOver ReadsRow (λ from to. ⊤) left count 0 [] d.steps old olds dice (Err why) report new news
              after
          e = d.ends

          drawn : ℕ
          drawn = drawn_by (count e.between) (count after) why

          behind : Behind why drawn o.count End (Err stop) [] d.steps rows at.counts e.middle e.mids
              e.between
          behind rest then there many counts said last_told =
              let enough = room_then d.steps e.middle rest e.walks_few many in
              let same = counts_then d.steps rest then e.counts many counts in
              subst (λ n. Does (driving name p rest e.mids.cache then)
              (At said (links_by first last why) e.mids e.between drawn last_told o.count)
              (At (report_text n) last news after (count after) store.told store.count) (Err stop)) same
              (cut_at (last_of [] d.steps) then rest e.middle e.mids e.between there enough said
              last_told
              (cuts all left count o p one (last_of [] d.steps) rest then e.middle new e.mids
              news e.between after there enough why e.ends))

      copied_none : CopiesNoPath old olds dice why report new news after
          → Does (driving name p rows olds.cache at) Begin End (Err stop)
      copied_none n =
          let same : at.counts ≡ report_counts report =
          none ∙ sym (ap report_counts n.report_is) in
          let stay = ap (λ (c : Caller). (state_of o c.seen).rows) n.same ∙ driven.rows_are in
          let still = ap (λ (c : Caller). (state_of o c.seen).count) n.same ∙ driven.unfailed in
          let e = ap count n.dice_is in
          let more : count dice ≤ count after = omega (arith, e) in
          let begun = cut_amid at rows olds dice a.said told n.why_is n.links n.dice_is
          (holds_now at stay driven.format_is still) in
          raises a.said (links_by first last why) (asked_by why) olds dice (count dice)
          (drawn_by (count dice) (count after) why) told o.count
          (drawn_later dice (omega arith) more why)
          (subst (λ c. Does (driving name p rows olds.cache at)
          (At a.said (links_by first last why) olds dice (drawn_by (count dice) (count after) why)
          told o.count)
          (At (report_text c) last news after (count after) store.told store.count) (Err stop)) same
          begun)

    pub drives_so : (made : Result Outcome Stop) → count dice ≤ count after
        → EndsSo link first last store left count old olds dice report new news after made
        → Does (driving name p rows olds.cache at) Begin End made
    drives_so made drawn (inl (d, is)) = drives_all made drawn d is
    drives_so made drawn (inr (why, stop, h, fails, inl d, is)) =
        subst (λ m. Does (driving name p rows olds.cache at) Begin End m) (sym is)
        (cut_short why stop h fails drawn d)
    drives_so made drawn (inr (why, stop, h, fails, inr n, is)) =
        subst (λ m. Does (driving name p rows olds.cache at) Begin End m) (sym is)
        (copied_none why stop h fails n)
