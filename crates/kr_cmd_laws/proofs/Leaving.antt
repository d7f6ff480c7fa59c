-- What is left of the tapes, by where the steps of a command come to.
use Rattle.std.proofs.Common.{◌≡◌, ◌≢◌, ℕ, List, [], Result, Ok, Err, sym, ◌∙◌, ap, subst, inl, inr, arith}
use Rattle.std.specs.Prelude.{◌⊎◌}
use Rattle.kr_base.specs.Faults.{Rose}
use Rattle.kr_config.specs.Kept.{ConfigEntry}
use Rattle.kr_kms.specs.Outside.{Outside}
use Rattle.kr_kms.specs.declared.world.Access.TheVariants.{ToRead, ToWrite, ToMake}
use Rattle.kr_cmd_steps.specs.Afterwards.{AreLeft, IsSettledLast, IsUngrown, LeavesTapes, MayEndAmidRows, OthersStay, Settles, ToldTape, new_store}
use Rattle.kr_cmd_steps.specs.Environment.{Environment, with_what_is_said, Ends, MayLack, StepsEndAt, faults_at, step_state}
use Rattle.kr_cmd_steps.specs.Phases.{configuration, input_of, linking_programs, settled_for, stored_on, tape_for}
use Rattle.kr_cmd_steps.specs.StoreSteps.{copied_into, migrating_into, sealed_into, source_on, stored_into, target_on}
use Rattle.kr_cmd_steps.specs.Commands.{migrating, putting, rewriting, steps}
use Rattle.kr_cmd_steps.specs.RewriteSteps.{rewriting_on}
use Rattle.kr_cmd_messages.specs.Message.{line_of, status_of, status_of_done, status_of_refusal}
use Rattle.kr_cmd_steps.specs.Ran.{Answers, Closes, EndsAll, WroteNothing, IsStop, ReachesEnd, Reports, ReportsOf, SaysNothing, StopsAtOnce, Writes}
use Rattle.kr_cmd_messages.specs.Receipts.{Receipt, Tells}
use Rattle.kr_cmd_steps.specs.Steps.{and_then, Call, lending, settling, writing, Point, awaits, amid, refuses, gives, StepState, RunTo}
use Rattle.kr_cmd_steps.specs.StoreFiles.{BeginsWith, HoldsRows}
use Rattle.kr_cmd_messages.specs.declared.command.Command.{Command}
use Rattle.kr_cmd_messages.specs.declared.command.Command.TheVariants.{Put, Migrate, Rewrite}
use Rattle.kr_cmd_messages.specs.declared.command.Conversion.{Conversion}
use Rattle.kr_cmd_messages.specs.declared.command.Migration.{Migration}
use Rattle.kr_cmd_messages.specs.declared.command.Rewriting.{Rewriting}
use Rattle.kr_cmd_messages.specs.declared.command.Direction.TheVariants.{Encrypt}
use Rattle.kr_cmd_messages.specs.declared.refusal.Object.TheVariants.{Store, Target}
use Rattle.kr_cmd_messages.specs.declared.refusal.Refusal.{Refusal}
use Rattle.kr_cmd_messages.specs.declared.refusal.BadWords.TheVariants.{Usage}
use Rattle.kr_cmd_messages.specs.declared.refusal.Done.{Done}
use Rattle.kr_cmd_messages.specs.declared.refusal.Done.TheVariants.{Blocked}
use Rattle.kr_cmd_messages.specs.declared.refusal.Outcome.{Outcome}
use Rattle.kr_cmd_messages.specs.declared.refusal.Stop.{Stop}
use Rattle.kr_cmd_messages.specs.declared.refusal.Stop.TheVariants.{Words, Refused, Fault, NoMemory}
use Rattle.kr_cmd_steps.proofs.Ends.{plain_ends, value_end}
use Rattle.kr_cmd_laws.proofs.Behind.{settled_last, went_on}
use Rattle.kr_cmd_laws.proofs.Copied.{IsMigrated, Migrates, migrate_leaves}
use Rattle.kr_cmd_laws.proofs.GrownTapes.{IsGrown, put_grows}
use Rattle.kr_cmd_steps.proofs.Points.{IsAmidRows, IsShort, IsThrough, IsTorn}
use Rattle.kr_cmd_laws.proofs.ReadOnly.{IsReader, command_reads, leaves_tapes, others_stay}
use Rattle.kr_cmd_laws.proofs.Readings.{status_in}
use Rattle.kr_cmd_laws.proofs.KeptRows.{IsLimited, keeps_rows, rows_kept}
use Rattle.kr_cmd_laws.proofs.OneTape.{rewriting_is_on}

-- ---- by how the call ended

-- what a status says of what the steps made; it is 4 where the line couldn't be written
abbrev Fits : Result Outcome Stop → (status : ℕ) → Type 0
Fits (Ok made) status = (status ≡ status_of_done made.done) ⊎ (status ≡ 4)
Fits (Err (Words why)) status = status ≢ 0
Fits (Err (Refused why)) status = (status ≡ status_of_refusal why) ⊎ (status ≡ 4)
Fits (Err (Fault object count)) status = status ≡ 4
Fits (Err NoMemory) status = (status ≡ 5) ⊎ (status ≡ 4)

refused_some : (why : Refusal) {status : ℕ} → Fits (Err (Refused why)) status → status ≢ 0
refused_some why (inl e) zero_is = omega (arith, status_in why, e, zero_is)
refused_some why (inr e) zero_is = omega (arith, e, zero_is)

lacked_some : {status : ℕ} → Fits (Err NoMemory) status → status ≢ 0
lacked_some (inl e) zero_is = omega (arith, e, zero_is)
lacked_some (inr e) zero_is = omega (arith, e, zero_is)

module _ (words : Conversion) (store : List ℕ) (old new : Environment) (status : ℕ) where
  abbrev Leaves : Type 0
  Leaves = LeavesTapes (Put words store) status old.world new.world

  abbrev Grew : Point Outcome → Type 0
  Grew p = IsGrown words store p old.world.tapes.told new.world.tapes.told

  grew : {p : Point Outcome} → StepsEndAt (putting words store) (step_state old) new p → Grew p
  grew {p} r = subst (λ t. IsGrown words store p old.world.tapes.told t) (sym r.stays.tapes)
      (put_grows words store p r.end (step_state old) r.goes)

  with_value : (x : Outcome) → Grew (gives x)
      → (status ≡ status_of_done x.done) ⊎ (status ≡ 4) → Leaves
  with_value x (others, inl (short, none)) s = absurd short
  with_value x (others, inr (inl (torn, begins))) s = absurd torn
  with_value x (others, inr (inr (silent, more))) (inl e) =
      (others, inr (inr (inl (e ∙ ap status_of_done silent), more)))
  with_value x (others, inr (inr (silent, more))) (inr e) =
      (others, inr (inr (inr e, more)))

  at_call : (call : Call) → Grew (awaits call)
      → (call ≡ writing Store store → (status ≡ 4)
      × Rose (old.world.tapes.faults store) (new.world.tapes.faults store))
      → (call ≡ settling Store store → status ≡ 4) → status ≢ 0 → Leaves
  at_call call (others, inl (short, none)) torn unsettled some = (others, inl (some, none))
  at_call call (others, inr (inl (is, begins))) torn unsettled some =
      let t = torn is in (others, inr (inl (t.0, t.1, begins)))
  at_call call (others, inr (inr (is, more))) torn unsettled some =
      (others, inr (inr (inr (unsettled is), more)))

  put_left : (made : Result Outcome Stop) → Ends (putting words store) (step_state old) old new made
      → Fits made status → Leaves
  put_left (Ok x) r s = with_value x (grew r) s
  put_left (Err (Words why)) r s = absurd r
  put_left (Err (Refused why)) r s = refused (grew r)
    where
      refused : Grew (refuses why) → Leaves
      refused (others, inl (short, none)) = (others, inl (refused_some why s, none))
      refused (others, inr (inl (torn, begins))) = absurd torn
      refused (others, inr (inr (silent, more))) = absurd silent
  put_left (Err (Fault object count)) (call, r, f) s = at_call call (grew r)
      (λ is. (s, subst (λ c. Rose (faults_at c old) (faults_at c new)) is f.1))
      (λ is. s) (λ zero_is. omega (arith, s, zero_is))
  put_left (Err NoMemory) (inl (call, may, r)) s = at_call call (grew r)
      (λ is. absurd (subst MayLack is may)) (λ is. absurd (subst MayLack is may)) (lacked_some s)
  put_left (Err NoMemory) (inr r) s = lacked (grew r)
    where
      lacked : Grew amid → Leaves
      lacked (others, inl (short, none)) = (others, inl (lacked_some s, none))
      lacked (others, inr (inl (torn, begins))) = absurd torn
      lacked (others, inr (inr (silent, more))) = absurd silent

-- ---- migrate

module _ (words : Migration) (old new : Environment) (status : ℕ) where
  abbrev After : Type 0
  After = LeavesTapes (Migrate words) status old.world new.world

  abbrev Comes : Point Outcome → Type 0
  Comes p = Migrates words p (step_state old) new.world.tapes.told

  comes : {p : Point Outcome} → StepsEndAt (migrating words) (step_state old) new p → Comes p
  comes {p} r = subst (λ t. Migrates words p (step_state old) t) (sym r.stays.tapes)
      (migrate_leaves words p r.end (step_state old) r.goes)

  -- so many rows are copied
  copied_so : {p : Point Outcome} (m : IsMigrated words p (step_state old) new.world.tapes.told)
      → ((status ≡ 4) × Rose (old.world.tapes.faults words.to) (new.world.tapes.faults words.to)
      × (m.is_left.0.rest ≢ []) × BeginsWith (new_store m.is_left.0.copied) m.is_left.0.told)
      ⊎ (((status ≡ 0) ⊎ (status ≡ 4)) × (m.is_left.0.rest ≡ [])
      × HoldsRows (new_store m.is_left.0.copied) m.is_left.0.told)
      ⊎ (MayEndAmidRows status × (m.is_left.0.rest ≢ [])
      × HoldsRows (new_store m.is_left.0.copied) m.is_left.0.told)
      → After
  copied_so m holds = (
    m.is_left.0.others,
    inr (record {
      copied = m.is_left.0.copied;
      rest = m.is_left.0.rest;
      told = m.is_left.0.told;
      copies = record {
        file = m.from.file;
        rows = m.from.rows;
        bytes = m.from.bytes;
        source = m.from.source;
        configured = m.from.configured;
        means = m.from.means;
        held = m.from.held;
        read = m.from.read;
        all = m.is_left.0.parts;
      };
      empty = m.from.empty;
      is_told = m.is_left.0.is_told;
      holds = holds;
    }),
  )

  none_copied : (p : Point Outcome) → status ≢ 0 → IsShort p
      × OthersStay words.to old.world.tapes.told new.world.tapes.told
      × IsUngrown (old.world.tapes.told words.to) (new.world.tapes.told words.to) → After
  none_copied p some (short, others, none) = (others, inl (some, none))

  given_so : (x : Outcome) → Comes (gives x)
      → (status ≡ status_of_done x.done) ⊎ (status ≡ 4) → After
  given_so x (inl none) s = absurd none.0
  given_so x (inr m) s = by_holds m.is_left.1 s
    where
      by_holds : (IsTorn Target words.to (gives x) × (m.is_left.0.rest ≢ [])
          × BeginsWith (new_store m.is_left.0.copied) m.is_left.0.told)
          ⊎ (IsThrough Target words.to (gives x) × (m.is_left.0.rest ≡ [])
          × HoldsRows (new_store m.is_left.0.copied) m.is_left.0.told)
          ⊎ (IsAmidRows (gives x) × (m.is_left.0.rest ≢ [])
          × HoldsRows (new_store m.is_left.0.copied) m.is_left.0.told)
          → (status ≡ status_of_done x.done) ⊎ (status ≡ 4) → After
      by_holds (inl (torn, more, begins)) s = absurd torn
      by_holds (inr (inl (silent, none, holds))) (inl e) =
          copied_so m (inr (inl (inl (e ∙ ap status_of_done silent), none, holds)))
      by_holds (inr (inl (silent, none, holds))) (inr e) =
          copied_so m (inr (inl (inr e, none, holds)))
      by_holds (inr (inr (amid_rows, some, holds))) s = absurd amid_rows

  -- at a point that gives nothing, where a write failed or not
  short_so : (p : Point Outcome) → Comes p → (IsThrough Target words.to p → status ≡ 4)
      → (IsTorn Target words.to p → (status ≡ 4)
      × Rose (old.world.tapes.faults words.to) (new.world.tapes.faults words.to))
      → (IsAmidRows p → MayEndAmidRows status) → status ≢ 0 → After
  short_so p (inl none) unsettled torn amid_rows some = none_copied p some none
  short_so p (inr m) unsettled torn amid_rows some = by_holds m.is_left.1
    where
      by_holds : (IsTorn Target words.to p × (m.is_left.0.rest ≢ [])
          × BeginsWith (new_store m.is_left.0.copied) m.is_left.0.told)
          ⊎ (IsThrough Target words.to p × (m.is_left.0.rest ≡ [])
          × HoldsRows (new_store m.is_left.0.copied) m.is_left.0.told)
          ⊎ (IsAmidRows p × (m.is_left.0.rest ≢ [])
          × HoldsRows (new_store m.is_left.0.copied) m.is_left.0.told)
          → After
      by_holds (inl (is, more, begins)) =
          let t = torn is in copied_so m (inl (t.0, t.1, more, begins))
      by_holds (inr (inl (is, none, holds))) =
          copied_so m (inr (inl (inr (unsettled is), none, holds)))
      by_holds (inr (inr (is, more, holds))) =
          copied_so m (inr (inr (amid_rows is, more, holds)))

  refused_so : (why : Refusal) → Fits (Err (Refused why)) status
      → IsAmidRows {A = Outcome} (refuses why) → MayEndAmidRows status
  refused_so why (inl e) (which, is) = inr (inr (e ∙ ap status_of_refusal is))
  refused_so why (inr e) is = inl e

  lacked_so : Fits (Err NoMemory) status → MayEndAmidRows status
  lacked_so (inl e) = inr (inl e)
  lacked_so (inr e) = inl e

  migrate_left : (made : Result Outcome Stop)
      → Ends (migrating words) (step_state old) old new made → Fits made status → After
  migrate_left (Ok x) r s = given_so x (comes r) s
  migrate_left (Err (Words why)) r s = absurd r
  migrate_left (Err (Refused why)) r s =
      short_so (refuses why) (comes r) (λ e. absurd e) (λ e. absurd e) (refused_so why s)
      (refused_some why s)
  migrate_left (Err (Fault object count)) (call, r, f) s =
      short_so (awaits call) (comes r) (λ is. s)
      (λ is. (s, subst (λ c. Rose (faults_at c old) (faults_at c new)) is f.1))
      (λ none. absurd none) (λ zero_is. omega (arith, s, zero_is))
  migrate_left (Err NoMemory) (inl (call, may, r)) s = short_so (awaits call) (comes r)
      (λ is. absurd (subst MayLack is may)) (λ is. absurd (subst MayLack is may))
      (λ none. absurd none) (lacked_some s)
  migrate_left (Err NoMemory) (inr r) s =
      short_so amid (comes r) (λ e. absurd e) (λ e. absurd e) (λ u. lacked_so s) (lacked_some s)

-- ---- rewrite

abbrev call_of : (other : Call) → Point Outcome → Call
call_of other (awaits call) = call
call_of other another = other

abbrev Awaits : Call → Point Outcome
Awaits call = awaits call

awaited : (call here : Call) → Awaits call ≡ Awaits here → call ≡ here
awaited call here p = ap (call_of call) p

-- a status says of where the steps came to
abbrev SaysOf : (status : ℕ) → Point Outcome → Type 0
SaysOf status (awaits call) = (status ≡ 5) ⊎ (status ≡ 4)
SaysOf status amid = (status ≡ 5) ⊎ (status ≡ 4)
SaysOf status (refuses why) = (status ≡ status_of_refusal why) ⊎ (status ≡ 4)
SaysOf status (gives x) = (status ≡ status_of_done x.done) ⊎ (status ≡ 4)

module _ (status : ℕ) where
  -- 4 may be said of any
  says_fault : status ≡ 4 → (point : Point Outcome) → SaysOf status point
  says_fault is (awaits call) = inr is
  says_fault is other = inr is

  short_some : (point : Point Outcome) → SaysOf status point → IsShort point → status ≢ 0
  short_some (awaits call) s short = lacked_some s
  short_some amid s short = lacked_some s
  short_some (refuses why) s short = refused_some why s
  short_some (gives x) s short = absurd short

  lacked_amid : (status ≡ 5) ⊎ (status ≡ 4) → MayEndAmidRows status
  lacked_amid (inl e) = inr (inl e)
  lacked_amid (inr e) = inl e

  short_amid : (point : Point Outcome) → SaysOf status point → IsLimited point → IsShort point
      → MayEndAmidRows status
  short_amid (awaits call) s limited short = lacked_amid s
  short_amid amid s limited short = lacked_amid s
  short_amid (refuses why) (inl e) limited short =
      inr (inr (e ∙ ap status_of_refusal limited.1))
  short_amid (refuses why) (inr e) limited short = inl e
  short_amid (gives x) s limited short = absurd short

  is_done : (done : Done) → status ≡ status_of_done done → (status ≡ 0) ⊎ (status ≡ 1)
  is_done Blocked e = inr e
  is_done other e = inl e

  any_end : (point : Point Outcome) → SaysOf status point → IsLimited point
      → ((status ≡ 0) ⊎ (status ≡ 1)) ⊎ MayEndAmidRows status
  any_end (awaits call) s limited = inr (lacked_amid s)
  any_end amid s limited = inr (lacked_amid s)
  any_end (refuses why) s limited = inr (short_amid (refuses why) s limited tt)
  any_end (gives x) (inl e) limited = inl (is_done x.done e)
  any_end (gives x) (inr e) limited = inr (inl e)

module _ (words : Rewriting) (old new : Environment) (status : ℕ) where
  abbrev Stay : Type 0
  Stay = LeavesTapes (Rewrite words) status old.world new.world

  abbrev before : ℕ
  before = old.world.tapes.faults words.store

  abbrev now : ℕ
  now = new.world.tapes.faults words.store

  -- a write failed only where the tape's count rose
  abbrev Torn : Point Outcome → Type 0
  Torn point = IsTorn Store words.store point → (status ≡ 4) × Rose before now

  by_point : (point : Point Outcome) (end : StepState) → RunTo point end (rewriting words) (step_state old)
      → new.world.tapes.told ≡ end.tapes → SaysOf status point → Torn point → Stay
  by_point point end goes tapes_are says torn = (
    subst (λ t. OthersStay words.store old.world.tapes.told t) (sym tapes_are)
        (others_stay point end (rewriting words) (step_state old) words.store
        (rewriting_is_on words) goes),
    elim (rows_kept words point end (step_state old) goes) [
      | inl none ↦ inl (
        short_some status point says none.0,
        ap (λ (t : List ℕ → ToldTape). t words.store) (tapes_are ∙ none.1),
      )
      | inr drove ↦ inr (keeps_rows words.store point end (step_state old)
          (new.world.tapes.told words.store) before now status drove
          (ap (λ (t : List ℕ → ToldTape). t words.store) tapes_are) torn
          (short_amid status point says drove.limited) (any_end status point says drove.limited))
    ],
  )

  -- a report that couldn't be settled: the status is 4 and the count rose
  abbrev IsLost : Point Outcome → Type 0
  IsLost point =
      point ≡ awaits (settling Store words.store) → (status ≡ 4) × Rose before now

  at_point : (point : Point Outcome) → ReachesEnd (Rewrite words) (step_state old) new point
      → SaysOf status point → Torn point → IsLost point → Stay
  at_point point r says torn lost = by_close r.closes
    where
      -- it is where the steps came to
      by_steps : point ≡ r.stop → r.last.tapes ≡ r.end.tapes → Stay
      by_steps p e = by_point r.stop r.end r.goes (r.stays.tapes ∙ e)
          (subst (SaysOf status) p says)
          (λ write. torn (subst (IsTorn Store words.store) (sym p) write))

      by_close : Closes (Rewrite words) r.stop r.end point r.last → Stay
      by_close (inl (s, (p, e))) = by_steps p (ap (λ l. l.tapes) e)
      by_close (inr (stops, (name, is, inl (p, e)))) = by_steps p (ap (λ l. l.tapes) e)
      by_close (inr (stops, (name, is, inr (p, e)))) =
          let gone = lost (p ∙ ap (λ n. awaits (settling Store n)) is) in
          by_point r.stop r.end r.goes (r.stays.tapes ∙ ap (λ l. l.tapes) e)
          (says_fault status gone.0 r.stop) (λ write. gone)

  rewrite_left : (made : Result Outcome Stop)
      → EndsAll (Rewrite words) (step_state old) old new made → Fits made status → Stay
  rewrite_left (Ok x) r s = at_point (gives x) r s (λ e. absurd e)
      (λ p. absurd (let e : gives x ≡ awaits (settling Store words.store) = p in cc))
  rewrite_left (Err (Words why)) r s = absurd r
  rewrite_left (Err (Refused why)) r s = at_point (refuses why) r s (λ e. absurd e)
      (λ p. absurd (let e : refuses why ≡ awaits (settling Store words.store) = p in cc))
  rewrite_left (Err (Fault object count)) (call, r, f) s = at_point (awaits call) r (inr s)
      (λ is. (s, subst (λ c. Rose (faults_at c old) (faults_at c new)) is f.1))
      (λ p. (
        s,
        subst (λ c. Rose (faults_at c old) (faults_at c new))
            (awaited call (settling Store words.store) p) f.1,
      ))
  rewrite_left (Err NoMemory) (inl (call, may, r)) s = at_point (awaits call) r s
      (λ is. absurd (subst MayLack is may))
      (λ p. absurd (subst MayLack (awaited call (settling Store words.store) p) may))
  rewrite_left (Err NoMemory) (inr r) s = at_point amid r s (λ e. absurd e)
      (λ p. absurd (let e : amid ≡ awaits (settling Store words.store) = p in cc))

-- ---- commands

module _ (command : Command) (is : IsReader command) (old : Environment) where
  reaches_left : {new : Environment} {point : Point Outcome}
      → StepsEndAt (steps command) (step_state old) new point
      → new.world.tapes.told ≡ old.world.tapes.told
  reaches_left {new} {point} r = r.stays.tapes
      ∙ leaves_tapes point r.end (steps command) (step_state old) (command_reads command is) r.goes

  reader_left : (new : Environment) (made : Result Outcome Stop)
      → Ends (steps command) (step_state old) old new made
      → new.world.tapes.told ≡ old.world.tapes.told
  reader_left new (Ok x) r = reaches_left r
  reader_left new (Err (Words why)) r = absurd r
  reader_left new (Err (Refused why)) r = reaches_left r
  reader_left new (Err (Fault object count)) (call, r, f) = reaches_left r
  reader_left new (Err NoMemory) (inl (call, may, r)) = reaches_left r
  reader_left new (Err NoMemory) (inr r) = reaches_left r

ends_left : (command : Command) (old new : Environment) (status : ℕ) (made : Result Outcome Stop)
    → EndsAll command (step_state old) old new made → Fits made status
    → LeavesTapes command status old.world new.world
ends_left (Put words store) old new status made r s =
    put_left words store old new status made
    (plain_ends (Put words store) (λ name is. is) (step_state old) old new made r) s
ends_left (Migrate words) old new status made r s =
    migrate_left words old new status made
    (plain_ends (Migrate words) (λ name is. is) (step_state old) old new made r) s
ends_left (Rewrite words) old new status made r s =
    rewrite_left words old new status made r s
ends_left command old new status made r s = reader_left command tt old new made
    (plain_ends command (λ name is. is) (step_state old) old new made r)

-- ---- at status 0, and wherever anything was printed, what was written is settled

module _ (new : Environment) (x : Outcome) where
  put_settles : (words : Conversion) (store : List ℕ) (end left : StepState)
      → RunTo (gives x) end (putting words store) left → IsSettledLast store end.asked
  put_settles words store end left goes =
      let rows = went_on (λ rows. and_then (linking_programs words.options rows) (λ programs.
      and_then (input_of Encrypt) (stored_into words store rows programs))) x end
      (configuration words.config) left goes in
      let programs = went_on (λ programs. and_then (input_of Encrypt)
      (stored_into words store rows.0 programs)) x end (linking_programs words.options rows.0)
      rows.1 rows.2 in
      let bytes = went_on (stored_into words store rows.0 programs.0) x end (input_of Encrypt)
      programs.1 programs.2 in
      settled_last Store store ToMake (and_then (stored_on Store store)
      (sealed_into words store rows.0 programs.0 bytes.0)) x end bytes.1 bytes.2

  migrate_settles : (words : Migration) (end left : StepState)
      → RunTo (gives x) end (migrating words) left → IsSettledLast words.to end.asked
  migrate_settles words end left goes =
      let rows = went_on (λ rows. tape_for words.store ToRead
      (and_then (source_on words.store) (migrating_into words.to rows))) x end
      (configuration words.config) left goes in
      by_tape rows.0 rows.1 rows.2
    where
      by_tape : (rows : List ConfigEntry) (mid : StepState)
          → RunTo (gives x) end (tape_for words.store ToRead
          (and_then (source_on words.store) (migrating_into words.to rows))) mid
          → IsSettledLast words.to end.asked
      by_tape rows mid (inl at) = absurd (let e : gives x ≡ amid = at.0 in cc)
      by_tape rows mid (inr (inl at)) =
          absurd (let e : gives x ≡ awaits (lending words.store) = at.0 in cc)
      by_tape rows mid (inr (inr (inl (may, agrees, at)))) =
          absurd (let e : gives x ≡ refuses _ = at.0 in cc)
      by_tape rows mid (inr (inr (inr (may, goes)))) =
          let source = went_on (migrating_into words.to rows) x end (source_on words.store) _ goes in
          settled_last Target words.to ToMake (and_then (target_on words.to)
          (copied_into words.to rows source.0)) x end source.1 source.2

  rewrite_settles : (words : Rewriting) (end left : StepState)
      → RunTo (gives x) end (rewriting words) left → IsSettledLast words.store end.asked
  rewrite_settles words end left goes =
      let rows = went_on (λ rows. and_then (linking_programs words.options rows)
      (λ programs. settled_for Store words.store ToWrite
      (rewriting_on words.store rows programs))) x end (configuration words.config) left goes in
      let programs = went_on (λ programs. settled_for Store words.store ToWrite
      (rewriting_on words.store rows.0 programs)) x end
      (linking_programs words.options rows.0) rows.1 rows.2 in
      settled_last Store words.store ToWrite (rewriting_on words.store rows.0 programs.0) x end
      programs.1 programs.2

  value_settles : (command : Command) (left : StepState) → StepsEndAt (steps command) left new (gives x)
      → Settles command new.world
  value_settles (Put words store) left r = subst (IsSettledLast store) (sym r.stays.asked)
      (put_settles words store r.end left r.goes)
  value_settles (Migrate words) left r = subst (IsSettledLast words.to) (sym r.stays.asked)
      (migrate_settles words r.end left r.goes)
  value_settles (Rewrite words) left r = subst (IsSettledLast words.store) (sym r.stays.asked)
      (rewrite_settles words r.end left r.goes)
  value_settles command left r = tt

settles_so : (command : Command) (old new : Environment) (status : ℕ) (made : Result Outcome Stop)
    → EndsAll command (step_state old) old new made → Fits made status → status ≡ 0
    → Settles command new.world
settles_so command old new status (Ok x) r s zero_is =
    value_settles new x command (step_state old) (value_end r)
settles_so command old new status (Err (Words why)) r s zero_is = absurd r
settles_so command old new status (Err (Refused why)) r s zero_is =
    absurd (refused_some why s zero_is)
settles_so command old new status (Err (Fault object count)) r s zero_is =
    absurd (omega (arith, s, zero_is))
settles_so command old new status (Err NoMemory) r s zero_is = absurd (lacked_some s zero_is)

-- the tape of a report is the one that its command writes
report_settles : (command : Command) (name : List ℕ) (world : Outside) → ReportsOf command name
    → IsSettledLast name world.asked → Settles command world
report_settles (Rewrite words) name world is settled =
    subst (λ n. IsSettledLast n world.asked) is settled
report_settles command name world is settled = absurd is

nothing_said : (stop : Point Outcome) (end : StepState) → IsStop stop → SaysNothing stop end
    → end.said ≡ []
nothing_said (gives x) end stops none = absurd stops
nothing_said other end stops none = none

-- what a command says where it stops is settled, or it's nothing
module _ (command : Command) (old new : Environment) where
  said_at : (point : Point Outcome) → IsStop point
      → ReachesEnd command (step_state old) new point → (new.said ≡ []) ⊎ Settles command new.world
  said_at point stops r = by_close r.closes
    where
      by_close : Closes command r.stop r.end point r.last
          → (new.said ≡ []) ⊎ Settles command new.world
      by_close (inl (none, (p, e))) = inl (r.stays.said ∙ ap (λ l. l.said) e
          ∙ nothing_said r.stop r.end (subst IsStop p stops) none)
      by_close (inr (stopped, (name, is, inl (p, e)))) = inr (report_settles command name new.world is
          (r.end.asked, r.stays.asked ∙ ap (λ l. l.asked) e))
      by_close (inr (stopped, (name, is, inr (p, e)))) =
          inl (r.stays.said ∙ ap (λ l. l.said) e)

  said_settled : (stop : Stop) → EndsAll command (step_state old) old new (Err stop)
      → (new.said ≡ []) ⊎ Settles command new.world
  said_settled (Words why) r = absurd r
  said_settled (Refused why) r = said_at (refuses why) tt r
  said_settled (Fault object count) (call, r, f) = said_at (awaits call) tt r
  said_settled NoMemory (inl (call, may, r)) = said_at (awaits call) tt r
  said_settled NoMemory (inr r) = said_at amid tt r

printed_settled : (command : Command) (old new : Environment) (said : List ℕ) (output : Receipt)
    (made : Result Outcome Stop) (result : Result Done Stop)
    → EndsAll command (step_state old) old (with_what_is_said said new) made
    → Writes said output made result → WroteNothing output ⊎ Settles command new.world
printed_settled command old new said output (Ok x) result r w =
    inr (value_settles (with_what_is_said said new) x command (step_state old) (value_end r))
printed_settled command old new said output (Err stop) result r w =
    elim (said_settled command old (with_what_is_said said new) stop r) [
      | inl none ↦ inl (subst (λ text. Reports text output) none w.1)
      | inr settled ↦ inr settled
    ]

-- ---- statuses

not_zero : (stop : Stop) → status_of (Err stop) ≢ 0
not_zero (Words Usage) e = omega (arith, e)
not_zero (Refused why) e = omega (arith, status_in why, e)
not_zero other e = omega (arith, e)

-- the status is that of the result, but where its line can't be written
abbrev IsStatus : (status : ℕ) → Result Done Stop → Type 0
IsStatus status result = (status ≡ status_of result) ⊎ (status ≡ 4)

stop_not_zero : (status : ℕ) (stop : Stop) → IsStatus status (Err stop) → status ≢ 0
stop_not_zero status stop (inl e) zero_is = not_zero stop (sym e ∙ zero_is)
stop_not_zero status stop (inr e) zero_is = omega (arith, e, zero_is)

fits_stop : (status : ℕ) (stop : Stop) → IsStatus status (Err stop) → Fits (Err stop) status
fits_stop status (Words why) s = stop_not_zero status (Words why) s
fits_stop status (Refused why) s = s
fits_stop status (Fault object count) (inl e) = e
fits_stop status (Fault object count) (inr e) = e
fits_stop status NoMemory s = s

fits_made : (said : List ℕ) (output : Receipt) (status : ℕ) (made : Result Outcome Stop)
    (result : Result Done Stop) → Writes said output made result → IsStatus status result
    → Fits made status
fits_made said output status (Ok x) (Ok done) w (inl e) = inl (e ∙ ap status_of_done w.0)
fits_made said output status (Ok x) (Ok done) w (inr e) = inr e
fits_made said output status (Ok x) (Err (Fault object count)) w (inl e) = inr e
fits_made said output status (Ok x) (Err (Fault object count)) w (inr e) = inr e
fits_made said output status (Err stop) result w s =
    fits_stop status stop (subst (IsStatus status) w.0 s)
fits_made said output status (Ok x) (Err other) w s = absurd w

stopped : (words : List (List ℕ)) (status : ℕ) (result : Result Done Stop)
    → StopsAtOnce words result → IsStatus status result → status ≢ 0
stopped words status (Ok done) stops s = absurd stops
stopped words status (Err stop) stops s = stop_not_zero status stop s

is_status : (errors : Receipt) (status : ℕ) (result : Result Done Stop)
    → Tells (line_of result) (status_of result) errors status → IsStatus status result
is_status errors status result (inl t) = inl t.0
is_status errors status result (inr t) = inr t.0

pub tapes_left : (words : List (List ℕ)) (old new : Environment) (output errors : Receipt) (status : ℕ)
    (result : Result Done Stop) → Answers words old new output result
    → Tells (line_of result) (status_of result) errors status
    → AreLeft words old new output status
tapes_left words old new output errors status result (inl (stops, same)) t = inl (
  stopped words status result stops (is_status errors status result t),
  ap (λ (a : Environment). a.world.tapes.told) same.0,
  same.1,
)
tapes_left words old new output errors status result (inr (said, made, did, w)) t = inr (
  did.command,
  did.asks,
  ends_left did.command old (with_what_is_said said new) status made did.ends
      (fits_made said output status made result w (is_status errors status result t)),
  settles_so did.command old (with_what_is_said said new) status made did.ends
      (fits_made said output status made result w (is_status errors status result t)),
  printed_settled did.command old new said output made result did.ends w,
)
