-- A call that nothing failed ends as its steps do, and two over the same end alike.
use Rattle.std.proofs.Common.{◌≡◌, ℕ, ◌⊎◌, List, [], ◌∷◌, Option, None, Some, Result, Ok, Err, refl, sym, ◌∙◌, ap, subst, inl, inr, append-nil}
use Rattle.std.specs.Prelude.{IsSome}
use Rattle.std.specs.Option.{option_map}
use Rattle.std.specs.Io.KnownBytes.{Appends}
use Rattle.kr_base.specs.Faults.{Rose}
use Rattle.kr_kms.specs.Exchanges.{Exchange}
use Rattle.kr_cmd_messages.proofs.OneCommand.{no_stop, one_command}
use Rattle.kr_cmd_messages.specs.Command.{Asks}
use Rattle.kr_cmd_messages.specs.Message.{line_of, status_of}
use Rattle.kr_cmd_messages.specs.Receipts.{Receipt, Tells}
use Rattle.kr_cmd_messages.specs.declared.command.Command.{Command}
use Rattle.kr_cmd_messages.specs.declared.refusal.Done.{Done}
use Rattle.kr_cmd_messages.specs.declared.refusal.Outcome.{Outcome}
use Rattle.kr_cmd_messages.specs.declared.refusal.Refusal.{Refusal}
use Rattle.kr_cmd_messages.specs.declared.refusal.Stop.{Stop}
use Rattle.kr_cmd_messages.specs.declared.refusal.Stop.TheVariants.{Fault, NoMemory, Refused, Words}
use Rattle.kr_cmd_steps.proofs.Ends.{decided_stop}
use Rattle.kr_cmd_steps.specs.Environment.{Environment, step_state, with_what_is_said}
use Rattle.kr_cmd_steps.specs.Commands.{steps}
use Rattle.kr_cmd_steps.specs.Ran.{Answers, Closes, ComesSaying, Did, IsUntouched, ReachesEnd, Reports, StopsAtOnce, Writes, end_at}
use Rattle.kr_cmd_steps.specs.Steps.{RunTo, StepState, Point, gives, refuses}
use Rattle.kr_cmd_steps.specs.Telling.{AnswersOnce, IsTold, MayEnd}
use Rattle.kr_cmd_laws.specs.Results.{CompleteCalls, EndsAsItsSteps, Execution, HasOneResult, HoldAlike, IsDecidedBySteps, IsToldToo, NoneFailed, OneResult, StopsAtWords, TellsToo, WentWell}
use Rattle.kr_cmd_laws.proofs.LastSteps.{IsLast}
use Rattle.kr_cmd_laws.proofs.OneWay.{Shared, command_way}
use Rattle.kr_cmd_laws.proofs.Readings.{comes_saying, readings}

-- where exchanges are told, there are none before them
abbrev none_of : Option (List Exchange) → Option (List Exchange)
none_of exchanges = option_map (λ told. []) exchanges

none_told : (exchanges : Option (List Exchange)) → IsSome exchanges → none_of exchanges ≡ Some []
none_told None some = absurd cc
none_told (Some told) some = refl

-- ---- how a call ended that nothing failed

module _ (words : List (List ℕ)) (x : Execution) where
  -- the line was written, and the status is that of the result
  abbrev Told : Result Done Stop → Type 0
  Told r = (x.status ≡ status_of r) × Appends x.errors.old x.errors.new (line_of r)

  -- around it behind, with what was said
  abbrev Now : List ℕ → Environment
  Now said = with_what_is_said said x.new

  -- a value, a refusal, or words that stop it
  abbrev Gave : Type 0
  Gave = (said : List ℕ) × (made : Outcome) × Did words x.old (Now said) (Ok made)
      × Appends x.output.old x.output.new made.bytes × Told (Ok made.done)

  abbrev HasRefused : Type 0
  HasRefused = (said : List ℕ) × (why : Refusal) × Did words x.old (Now said) (Err (Refused why))
      × Reports said x.output × Told (Err (Refused why))

  abbrev Came : Type 0
  Came = Gave ⊎ HasRefused ⊎ StopsAtWords words x ⊎ (x.status ≡ 5)

  module _ (none : NoneFailed words x) where
    no_fault : (r : Result Done Stop) → Answers words x.old x.new x.output r
        → Tells (line_of r) (status_of r) x.errors x.status → x.status ≡ 4 → ⊥
    no_fault r a t four = elim
        ((readings words x.old x.new x.output x.errors x.status r a t).caused four) [
          | inl failed ↦ none.calls failed.0 (failed.1.0.0, failed.1.0.1) failed.1.1
          | inr more ↦ elim more [
            | inl unwritten ↦ none.output unwritten.1.2
            | inr rose ↦ none.line rose
          ]
        ]

    at_once : (r : Result Done Stop) → StopsAtOnce words r → IsUntouched x.old x.new x.output
        → Told r → Came
    at_once (Err (Words why)) stops same t = inr (inr (inl (why, stops, same, t.0, t.1)))
    at_once (Err NoMemory) stops same t = inr (inr (inr t.0))
    at_once other stops same t = absurd stops

    module _ (said : List ℕ) where
      wrote : (made : Outcome) (r : Result Done Stop) → Did words x.old (Now said) (Ok made)
          → Writes said x.output (Ok made) r → Told r → Came
      wrote made (Ok done) did writes t =
          inl (said, made, did, writes.1, subst (λ d. Told (Ok d)) writes.0 t)
      wrote made (Err (Fault object count)) did writes t = absurd (none.output writes.2)
      wrote made (Err other) did writes t = absurd writes

      stopped : (stop : Stop) → (x.status ≡ 4 → ⊥) → Did words x.old (Now said) (Err stop)
          → Reports said x.output → Told (Err stop) → Came
      stopped (Words why) safe did reports t = absurd did.ends
      stopped (Refused why) safe did reports t = inr (inl (said, why, did, reports, t))
      stopped (Fault object count) safe did reports t = absurd (safe t.0)
      stopped NoMemory safe did reports t = inr (inr (inr t.0))

      ended : (made : Result Outcome Stop) (r : Result Done Stop) → (x.status ≡ 4 → ⊥)
          → Did words x.old (Now said) made → Writes said x.output made r → Told r → Came
      ended (Ok made) r safe did writes t = wrote made r did writes t
      ended (Err stop) r safe did writes t =
          stopped stop safe did writes.1 (subst Told writes.0 t)

    answered : (r : Result Done Stop) → (x.status ≡ 4 → ⊥) → Answers words x.old x.new x.output r
        → Told r → Came
    answered r safe (inl (stops, same)) t = at_once r stops same t
    answered r safe (inr (said, made, did, writes)) t = ended said made r safe did writes t

    came : (r : Result Done Stop) → Answers words x.old x.new x.output r
        → Tells (line_of r) (status_of r) x.errors x.status → Came
    came r a (inl t) = answered r (no_fault r a (inl t)) a t
    came r a (inr t) = absurd (no_fault r a (inr t) t.0)

  -- ---- for a reader

  comes : (said : List ℕ) {made : Result Outcome Stop} {point : Point Outcome}
      (did : Did words x.old (Now said) made)
      → ReachesEnd did.command (step_state x.old) (Now said) point
      → ComesSaying words x.old x.new said point
  comes said did r = comes_saying words x.old x.new said did r

  as_steps : Came → EndsAsItsSteps words x
  as_steps (inl (said, made, did, written, t)) =
      inl (made, (said, comes said did did.ends), sym t.0, written, t.1)
  as_steps (inr (inl (said, why, did, reports, t))) =
      inr (inl (why, (said, comes said did did.ends, reports), sym t.0, t.1))
  as_steps (inr (inr s)) = inr (inr s)

-- ---- where the steps of a command came to

closed_so : (command : Command) (stop point : Point Outcome) (end last : StepState)
    (n : Result Done Stop)
    → end_at point ≡ Some n → Closes command stop end point last
    → (last.said ≡ end.said) × ((name : List ℕ) → last.tapes name ≡ end.tapes name)
    × (last.heard ≡ end.heard)
closed_so command stop point end last n at (inl (s, (p, e))) = (
  ap (λ (l : StepState). l.said) e,
  λ name. ap (λ (l : StepState). l.tapes name) e,
  ap (λ (l : StepState). l.heard) e,
)
closed_so command stop point end last n at (inr (stops, (name, is, inl (p, e)))) = (
  ap (λ (l : StepState). l.said) e,
  λ other. ap (λ (l : StepState). l.tapes other) e,
  ap (λ (l : StepState). l.heard) e,
)
closed_so command stop point end last n at (inr (stops, (name, is, inr (p, e)))) =
    absurd (let q : None ≡ Some n = sym (ap end_at p) ∙ at in cc)

module _ (words : List (List ℕ)) (exchanges : Option (List Exchange)) (command : Command) where
  -- a call came to this point, said this, and left these rows
  abbrev Arrived : Execution → List ℕ → Point Outcome → Type 0
  Arrived x said point = (m : MayEnd exchanges command x.old point) × (said ≡ m.end.said)
      × ((name : List ℕ) → x.new.world.tapes.told name ≡ m.end.tapes name)

  arrived : (x : Execution) → Asks words command → x.new.heard ≡ exchanges
      → (said : List ℕ) (point : Point Outcome) (n : Result Done Stop) → end_at point ≡ Some n
      → (made : Result Outcome Stop) (did : Did words x.old (with_what_is_said said x.new) made)
      → ReachesEnd did.command (step_state x.old) (with_what_is_said said x.new) point
      → Arrived x said point
  arrived x asks heard said point n at made did r =
      let c = closed_so did.command r.stop point r.end r.last n at r.closes in (
        record {
          end = r.end;
          goes = subst (λ s. RunTo point r.end (steps s) (step_state x.old)) (one_command did.asks asks)
              (subst (λ p. RunTo p r.end (steps did.command) (step_state x.old))
              (decided_stop did.command r.stop point r.end r.last n at r.closes) r.goes);
          heard = sym c.2 ∙ sym r.stays.heard ∙ heard;
        },
        r.stays.said ∙ c.0,
        λ name. ap (λ (f : List ℕ → Option (Option (List ℕ))). f name) r.stays.tapes ∙ c.1 name,
      )

  -- ---- over the same they come to one point

  shared_of : {T : Type 0} (one other : Option T) → TellsToo one other → Shared one one other
  shared_of None other t = tt
  shared_of (Some x) other t = (refl, t)

  alike_of : (one other : Option (Option (List ℕ))) → TellsToo one other → HoldAlike one other
  alike_of None other t = tt
  alike_of (Some x) other t =
      subst (λ (o : Option (Option (List ℕ))). HoldAlike (Some x) o) (sym t) (inl refl)

  module _ (once : AnswersOnce exchanges) where
    meet : (x y : Environment) → IsTold exchanges (steps command) (step_state x) → IsToldToo x y
        → x.heard ≡ none_of exchanges → y.heard ≡ none_of exchanges → y.said ≡ x.said
        → (p q : Point Outcome) → IsLast p → IsLast q → (a : MayEnd exchanges command x p)
        → (b : MayEnd exchanges command y q)
        → (p ≡ q) × (b.end.said ≡ a.end.said)
        × ((name : List ℕ) → HoldAlike (a.end.tapes name) (b.end.tapes name))
    meet x y told too e f said p q p_last q_last a b =
        command_way exchanges p q a.end b.end p_last q_last a.heard b.heard once command
        (step_state x) (step_state x) (step_state y) told (
          λ name. shared_of (x.world.file name) (y.world.file name) (too.file name),
          λ name. shared_of (x.world.tapes.told name) (y.world.tapes.told name) (too.tapes name),
          shared_of x.input y.input too.input,
          λ seat. shared_of (x.world.dice.told seat) (y.world.dice.told seat) (too.dice seat),
          λ name. alike_of (x.world.tapes.told name) (y.world.tapes.told name) (too.tapes name),
          said,
          λ some. ([], [], e ∙ none_told exchanges some, f ∙ none_told exchanges some, refl),
        )
        a.goes b.goes

-- ---- two calls

nothing_written : (old new : Option (List ℕ)) → new ≡ old → Appends old new []
nothing_written old new e = subst (λ o. Appends old o []) (sym e) (itself old)
  where
    itself : (o : Option (List ℕ)) → Appends o o []
    itself None = tt
    itself (Some bytes) = sym (append-nil bytes)

-- just what was said
reported : (said : List ℕ) (output : Receipt) → Reports said output
    → (Rose output.old_faults output.new_faults → ⊥) → Appends output.old output.new said
reported [] output same none = nothing_written output.old output.new same.0
reported (byte ∷ said) output (inl a) none = a
reported (byte ∷ said) output (inr (front, rose)) none = absurd (none rose)

same_rows : (a b c d : Option (Option (List ℕ))) → c ≡ a → d ≡ b → HoldAlike a b → HoldAlike c d
same_rows a b c d e f h = subst (λ o. HoldAlike o d) (sym e) (subst (λ o. HoldAlike a o) (sym f) h)

module _ (words : List (List ℕ)) (exchanges : Option (List Exchange)) (command : Command)
    (x y : Execution) (asks : Asks words command) (once : AnswersOnce exchanges)
    (told : IsTold exchanges (steps command) (step_state x.old)) (too : IsToldToo x.old y.old)
    (one : WentWell words exchanges x) (other : WentWell words exchanges y) where
  -- where both came, they said the same and left the same rows
  both : (said spoken : List ℕ) (p q : Point Outcome) → IsLast p → IsLast q
      → Arrived words exchanges command x said p → Arrived words exchanges command y spoken q
      → (p ≡ q) × (spoken ≡ said) × ((name : List ℕ)
      → HoldAlike (x.new.world.tapes.told name) (y.new.world.tapes.told name))
  both said spoken p q p_last q_last a b =
      let m = meet words exchanges command once x.old y.old told too one.unasked other.unasked
      (other.unsaid ∙ sym one.unsaid) p q p_last q_last a.0 b.0 in (
        m.0,
        b.1 ∙ m.1 ∙ sym a.1,
        λ name. same_rows (a.0.end.tapes name) (b.0.end.tapes name) (x.new.world.tapes.told name)
            (y.new.world.tapes.told name) (a.2 name) (b.2 name) (m.2 name),
      )

  gave : (g : Gave words x) → Arrived words exchanges command x g.0 (gives g.1)
  gave g = arrived words exchanges command x asks one.heard g.0 (gives g.1)
      (Ok g.1.done) refl (Ok g.1) g.2 g.2.ends

  gave_too : (g : Gave words y) → Arrived words exchanges command y g.0 (gives g.1)
  gave_too g = arrived words exchanges command y asks other.heard g.0 (gives g.1)
      (Ok g.1.done) refl (Ok g.1) g.2 g.2.ends

  refused : (g : HasRefused words x) → Arrived words exchanges command x g.0 (refuses g.1)
  refused g = arrived words exchanges command x asks one.heard g.0 (refuses g.1)
      (Err (Refused g.1)) refl (Err (Refused g.1)) g.2 g.2.ends

  refused_too : (g : HasRefused words y) → Arrived words exchanges command y g.0 (refuses g.1)
  refused_too g = arrived words exchanges command y asks other.heard g.0
      (refuses g.1) (Err (Refused g.1)) refl (Err (Refused g.1)) g.2 g.2.ends

  two_values : Gave words x → Gave words y → HasOneResult x y
  two_values g h =
      let m = both g.0 h.0 (gives g.1) (gives h.1) tt tt (gave g) (gave_too h) in
      let same : h.1 ≡ g.1 = cc in record {
        status = h.4.0 ∙ ap (λ (o : Outcome). status_of (Ok o.done)) same ∙ sym g.4.0;
        text = (
          g.1.bytes,
          g.3,
          subst (λ (o : Outcome). Appends y.output.old y.output.new o.bytes) same h.3,
        );
        line = (
          line_of (Ok g.1.done),
          g.4.1,
          subst (λ (o : Outcome). Appends y.errors.old y.errors.new (line_of (Ok o.done))) same
              h.4.1,
        );
        rows = m.2;
      }

  two_refusals : HasRefused words x → HasRefused words y → HasOneResult x y
  two_refusals g h =
      let m = both g.0 h.0 (refuses g.1) (refuses h.1) tt tt (refused g) (refused_too h) in
      let same : h.1 ≡ g.1 = cc in record {
        status = h.4.0 ∙ ap (λ (w : Refusal). status_of (Err (Refused w))) same ∙ sym g.4.0;
        text = (
          g.0,
          reported g.0 x.output g.3 one.none_failed.output,
          subst (λ (s : List ℕ). Appends y.output.old y.output.new s) m.1
              (reported h.0 y.output h.3 other.none_failed.output),
        );
        line = (
          line_of (Err (Refused g.1)),
          g.4.1,
          subst (λ w. Appends y.errors.old y.errors.new (line_of (Err (Refused w)))) same h.4.1,
        );
        rows = m.2;
      }

  value_and_refusal : Gave words x → HasRefused words y → ⊥
  value_and_refusal g h =
      let m = both g.0 h.0 (gives g.1) (refuses h.1) tt tt (gave g) (refused_too h) in
      let e : gives g.1 ≡ refuses h.1 = m.0 in cc

  refusal_and_value : HasRefused words x → Gave words y → ⊥
  refusal_and_value g h =
      let m = both g.0 h.0 (refuses g.1) (gives h.1) tt tt (refused g) (gave_too h) in
      let e : refuses g.1 ≡ gives h.1 = m.0 in cc

  results : Came words x → Came words y → HasOneResult x y
  results (inl g) (inl h) = two_values g h
  results (inl g) (inr (inl h)) = absurd (value_and_refusal g h)
  results (inr (inl g)) (inl h) = absurd (refusal_and_value g h)
  results (inr (inl g)) (inr (inl h)) = two_refusals g h
  results (inr (inr (inl s))) c = absurd (no_stop s.0 asks s.1)
  results (inr (inr (inr five))) c = absurd (one.memory five)
  results (inl g) (inr (inr (inl s))) = absurd (no_stop s.0 asks s.1)
  results (inr (inl g)) (inr (inr (inl s))) = absurd (no_stop s.0 asks s.1)
  results ended (inr (inr (inr five))) = absurd (other.memory five)

well_came : (words : List (List ℕ)) (exchanges : Option (List Exchange)) (x : Execution)
    → WentWell words exchanges x → Came words x
well_came words exchanges x well =
    came words x well.none_failed well.ran.result well.ran.answers well.ran.tells

pub one_result : OneResult
one_result words exchanges command x y asks once told too one other =
    results words exchanges command x y asks once told too one other
    (well_came words exchanges x one) (well_came words exchanges y other)

-- ---- one call

tells_itself : {T : Type 0} (told : Option T) → TellsToo told told
tells_itself None = tt
tells_itself (Some x) = refl

told_itself : (a : Environment) → IsToldToo a a
told_itself a = record {
  file = λ name. tells_itself (a.world.file name);
  tapes = λ name. tells_itself (a.world.tapes.told name);
  input = tells_itself a.input;
  dice = λ seat. tells_itself (a.world.dice.told seat);
}

is_last : (point : Point Outcome) (n : Result Done Stop) → end_at point ≡ Some n → IsLast point
is_last (refuses why) n at = tt
is_last (gives made) n at = tt
is_last other n at = absurd cc

module _ (words : List (List ℕ)) (exchanges : Option (List Exchange)) (x : Execution)
    (well : WentWell words exchanges x) where
  decided : IsDecidedBySteps words exchanges x
  decided command point end asks once told m at = by_case (well_came words exchanges x well)
    where
      -- what came is what may come
      same_end : (said : List ℕ) (q : Point Outcome) (n : Result Done Stop) → end_at q ≡ Some n
          → Arrived words exchanges command x said q → n ≡ end
      same_end said q n is a =
          let t = meet words exchanges command once x.old x.old told (told_itself x.old)
          well.unasked
          well.unasked refl q point (is_last q n is) (is_last point end at) a.0 m in
          let e : Some n ≡ Some end = sym is ∙ ap end_at t.0 ∙ at in cc

      by_case : Came words x → (x.status ≡ status_of end)
          × Appends x.errors.old x.errors.new (line_of end)
      by_case (inl (said, made, did, written, t)) =
          subst (Told words x) (same_end said (gives made) (Ok made.done) refl
          (arrived words exchanges command x asks well.heard said (gives made)
          (Ok made.done) refl (Ok made) did did.ends)) t
      by_case (inr (inl (said, why, did, reports, t))) =
          subst (Told words x) (same_end said (refuses why) (Err (Refused why)) refl
          (arrived words exchanges command x asks well.heard said (refuses why)
          (Err (Refused why)) refl (Err (Refused why)) did did.ends)) t
      by_case (inr (inr (inl s))) = absurd (no_stop s.0 asks s.1)
      by_case (inr (inr (inr five))) = absurd (well.memory five)

pub complete : CompleteCalls
complete words x = (
  λ ran none. (
    as_steps words x (came words x none ran.result ran.answers ran.tells),
    no_fault words x none ran.result ran.answers ran.tells,
  ),
  λ exchanges well. decided words exchanges x well,
)
