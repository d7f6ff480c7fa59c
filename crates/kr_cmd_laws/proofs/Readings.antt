-- What readers take from the relation of a call, whose result decides the status.
use Rattle.std.proofs.Common.{◌≡◌, ℕ, ◌+◌, ◌-◌, ◌^◌, ◌≤◌, ◌⊎◌, min, List, length, take_all, Option, Result, Ok, Err, refl, sym, ◌∙◌, subst, inl, inr, arith}
use Rattle.std.specs.Io.KnownBytes.{Appends}
use Rattle.kr_base.specs.Faults.{Rose}
use Rattle.kr_base.specs.Streams.{AppendsFront}
use Rattle.kr_kms.specs.Outside.{file_faults}
use Rattle.kr_config.specs.declared.refusal.ConfigNo.{ConfigNo}
use Rattle.kr_config.specs.declared.refusal.ConfigNo.TheVariants as config
use Rattle.kr_cmd_steps.specs.Environment.{Environment, with_what_is_said, step_state, IsHome, IsFault, MayLack, faults_at, count_at}
use Rattle.kr_cmd_messages.specs.Command.{Asks, AskBadly, AskPage, AskReplicas, AskSize}
use Rattle.kr_cmd_messages.specs.Message.{status_of, status_of_done, status_of_configuration, status_of_refusal, line_of, fault_line}
use Rattle.kr_cmd_steps.specs.Steps.{Call, loading, opening, lending, object_of, Point, awaits, amid, refuses, gives, linking}
use Rattle.kr_cmd_steps.specs.Ran.{WroteNothing, Reports, IsUntouched, StopsAtOnce, Did, Comes, ComesSaying, ComesReporting, Writes, Answers, FailsAt, FailsToWrite, ReachesEnd, Readings}
use Rattle.kr_cmd_messages.specs.Receipts.{Receipt, Tells}
use Rattle.kr_cmd_messages.specs.declared.command.Command.{Command}
use Rattle.kr_cmd_messages.specs.declared.refusal.BadWords.{BadWords}
use Rattle.kr_cmd_messages.specs.declared.refusal.BadWords.TheVariants.{Usage, Replicas, Size, Page}
use Rattle.kr_cmd_messages.specs.declared.refusal.Object.{Object}
use Rattle.kr_cmd_messages.specs.declared.refusal.Object.TheVariants.{Output}
use Rattle.kr_cmd_messages.specs.declared.refusal.Refusal.{Refusal}
use Rattle.kr_cmd_messages.specs.declared.refusal.Refusal.TheVariants.{Configuration, Limit, Value, Placed, NoPath, NotEmpty, Clash}
use Rattle.kr_cmd_messages.specs.declared.refusal.Stop.{Stop}
use Rattle.kr_cmd_messages.specs.declared.refusal.Stop.TheVariants.{Words, Refused, Fault, NoMemory}
use Rattle.kr_cmd_messages.specs.declared.refusal.Done.{Done}
use Rattle.kr_cmd_messages.specs.declared.refusal.Done.TheVariants.{Blocked}
use Rattle.kr_cmd_messages.specs.declared.refusal.Outcome.{Outcome}
use Rattle.kr_cmd_laws.proofs.Decided.{same_end}
use Rattle.kr_cmd_messages.proofs.OneCommand.{asks_something, no_stop}

-- ---- statuses

-- those of refusals
abbrev pub Statuses : ℕ → Type 0
Statuses n = (n ≡ 1) ⊎ (n ≡ 3) ⊎ (n ≡ 6)

status_of_why : (why : ConfigNo) → Statuses (status_of_configuration why)
status_of_why (config.Breach broken place) = inr (inl refl)
status_of_why (config.Yaml broken line) = inr (inl refl)
status_of_why (config.Limit counted) = inr (inr refl)

pub status_in : (why : Refusal) → Statuses (status_of_refusal why)
status_in (Configuration why) = status_of_why why
status_in (Limit which) = inr (inr refl)
status_in (Value number) = inl refl
status_in (Placed number at) = inl refl
status_in (NoPath path) = inl refl
status_in (NotEmpty length) = inr (inl refl)
status_in (Clash text) = inl refl
status_in other = inr (inl refl)

done_in : (done : Done) → (status_of_done done ≡ 0) ⊎ (status_of_done done ≡ 1)
done_in Blocked = inr refl
done_in other = inl refl

-- ---- counts and texts

-- a sum rises with a part, as far as it goes
sum_rose : (loads tapes dice links l t d k : ℕ) → loads ≤ l → tapes ≤ t → dice ≤ d → links ≤ k
    → Rose loads l ⊎ Rose tapes t ⊎ Rose dice d ⊎ Rose links k
    → Rose (min (loads + tapes + dice + links) (2 ^ 64 - 1)) (min (l + t + d + k) (2 ^ 64 - 1))
sum_rose loads tapes dice links l t d k a b c e (inl r) = grind arith
sum_rose loads tapes dice links l t d k a b c e (inr (inl r)) = grind arith
sum_rose loads tapes dice links l t d k a b c e (inr (inr (inl r))) = grind arith
sum_rose loads tapes dice links l t d k a b c e (inr (inr (inr r))) = grind arith

file_rose : {old new : Environment} → IsHome old new
    → Rose old.world.faults.loads new.world.faults.loads
    ⊎ Rose old.world.faults.tapes new.world.faults.tapes
    ⊎ Rose old.world.faults.dice new.world.faults.dice
    ⊎ Rose old.world.faults.links new.world.faults.links
    → Rose (file_faults old.world) (file_faults new.world)
file_rose {old} {new} h r =
    sum_rose old.world.faults.loads old.world.faults.tapes old.world.faults.dice
    old.world.faults.links new.world.faults.loads new.world.faults.tapes new.world.faults.dice
    new.world.faults.links h.files.later.loads h.files.later.tapes h.files.later.dice
    h.files.later.links r

-- a call that failed raised its object's count
pub object_rose : {old new : Environment} (call : Call) → IsHome old new
    → Rose (faults_at call old) (faults_at call new) → Rose (count_at call old) (count_at call new)
object_rose (loading name) h r = file_rose h (inl r)
object_rose (opening seat) h r = file_rose h (inr (inr (inl r)))
object_rose (lending name) h r = file_rose h (inr (inl r))
object_rose (linking seat plugin) h r = file_rose h (inr (inr (inr r)))
object_rose other h r = r

whole_front : (old new : Option (List ℕ)) (value : List ℕ) → Appends old new value
    → AppendsFront old new value
whole_front old new value a = (
  length value,
  omega arith,
  subst (λ v. Appends old new v) (sym (take_all (length value) value (omega arith))) a,
)

-- what was said is no call's
module _ (said : List ℕ) (a : Environment) where
  same_faults : (call : Call) → faults_at call (with_what_is_said said a) ≡ faults_at call a
  same_faults (loading name) = refl
  same_faults other = refl

  same_count : (call : Call) → count_at call (with_what_is_said said a) ≡ count_at call a
  same_count (loading name) = refl
  same_count other = refl

-- what is around is at home too
home_saying : (old new : Environment) (said : List ℕ) → IsHome old (with_what_is_said said new)
    → IsHome old new
home_saying old new said home = record {
  files = home.files;
  dice = home.dice;
  tapes = home.tapes;
  links = home.links;
  input = home.input;
}

pub comes_saying : (words : List (List ℕ)) (old new : Environment) (said : List ℕ)
    {made : Result Outcome Stop} {point : Point Outcome}
    (did : Did words old (with_what_is_said said new) made)
    → ReachesEnd did.command (step_state old) (with_what_is_said said new) point
    → ComesSaying words old new said point
comes_saying words old new said did r = record {
  command = did.command;
  asks = did.asks;
  reaches = r;
  home = home_saying old new said did.home;
}

-- ---- by how the call ended

module _ (words : List (List ℕ)) (old new : Environment) (output errors : Receipt) (status : ℕ) where
  -- the line was written, and the status is that of the result
  abbrev Told : Result Done Stop → Type 0
  Told r = (status ≡ status_of r) × Appends errors.old errors.new (line_of r)

  abbrev AreRead : Type 0
  AreRead = Readings words old new output errors status

  -- what was written
  abbrev Front : Type 0
  Front = WroteNothing output
      ⊎ ((point : Point Outcome) × ComesReporting words old new output point)
      ⊎ ((made : Outcome) × Comes words old new (gives made)
      × AppendsFront output.old output.new made.bytes)

  at_limit : AskReplicas words ⊎ AskSize words ⊎ AskPage words
      → ((command : Command) → Asks words command → ⊥) → IsUntouched old new output → status ≡ 6
      → AreRead
  at_limit which no_command same six = record {
    usage = (λ two. absurd (omega (arith, six, two)), λ nothing. inr (inr (inl (six, which))));
    caused = λ four. absurd (omega (arith, six, four));
    refused = λ limited. inr (inr (six, which, same));
    decided = λ command point end asks unasked once told may at. absurd (no_command command asks);
    done = λ zero_is. absurd (omega (arith, six, zero_is));
    written = record { front = inl same.1; usage = λ two. same };
  }

  at_words : (why : BadWords) → AskBadly why words → IsUntouched old new output
      → Told (Err (Words why)) → AreRead
  at_words Usage bad same t = record {
    usage = (λ two. bad, λ none. inl t.0);
    caused = λ four. absurd (omega (arith, t.0, four));
    refused = λ which. absurd (omega (arith, t.0, which));
    decided = λ command point end asks unasked once told may at. absurd (no_stop Usage asks bad);
    done = λ zero_is. absurd (omega (arith, t.0, zero_is));
    written = record { front = inl same.1; usage = λ two. same };
  }
  at_words Replicas bad same t = at_limit (inl bad) (λ c asks. no_stop Replicas asks bad) same t.0
  at_words Size bad same t = at_limit (inr (inl bad)) (λ c asks. no_stop Size asks bad) same t.0
  at_words Page bad same t = at_limit (inr (inr bad)) (λ c asks. no_stop Page asks bad) same t.0

  at_memory : Front → Told (Err NoMemory) → AreRead
  at_memory front t = record {
    usage = (λ two. absurd (omega (arith, t.0, two)), λ none. inr (inl t.0));
    caused = λ four. absurd (omega (arith, t.0, four));
    refused = λ which. absurd (omega (arith, t.0, which));
    decided = λ command point end asks unasked once told may at. inr (inr t.0);
    done = λ zero_is. absurd (omega (arith, t.0, zero_is));
    written = record { front = front; usage = λ two. absurd (omega (arith, t.0, two)) };
  }

  at_value : (made : Outcome) → Comes words old new (gives made)
      → Appends output.old output.new made.bytes → Told (Ok made.done) → AreRead
  at_value made comes whole t = let z = done_in made.done in record {
    usage = (λ two. absurd (omega (arith, t.0, two, z)), λ none. absurd (asks_something comes.1.asks none));
    caused = λ four. absurd (omega (arith, t.0, four, z));
    refused = λ which. inr (inl (made, comes, sym t.0, whole, t.1));
    decided = λ command point end asks unasked once told may at.
        inl (subst Told (sym (same_end point end (Ok made.done) asks unasked once told may
        comes at refl)) t);
    done = λ zero_is. (made, comes, sym t.0 ∙ zero_is, whole, t.1);
    written = record {
      front = inr (inr (made, comes, whole_front output.old output.new made.bytes whole));
      usage = λ two. absurd (omega (arith, t.0, two, z));
    };
  }

  at_refusal : (why : Refusal) → ComesReporting words old new output (refuses why)
      → Told (Err (Refused why)) → AreRead
  at_refusal why comes t = let s = status_in why in record {
    usage = (λ two. absurd (omega (arith, t.0, two, s)), λ none. absurd (asks_something comes.1.asks none));
    caused = λ four. absurd (omega (arith, t.0, four, s));
    refused = λ which. inl (why, comes, sym t.0, t.1);
    decided = λ command point end asks unasked once told may at.
        inl (subst Told (sym (same_end point end (Err (Refused why)) asks unasked once told
        may (comes.0, comes.1) at refl)) t);
    done = λ zero_is. absurd (omega (arith, t.0, zero_is, s));
    written = record {
      front = inr (inl (refuses why, comes));
      usage = λ two. absurd (omega (arith, t.0, two, s));
    };
  }

  -- an object failed
  at_fault : (object : Object) (count : ℕ) (command : Command) → Asks words command
      → (((call : Call) × FailsAt words old new output errors call)
      ⊎ ((made : Outcome) × FailsToWrite words old new output errors made))
      → Front → Told (Err (Fault object count)) → AreRead
  at_fault object count command asks why front t = record {
    usage = (λ two. absurd (omega (arith, t.0, two)), λ none. absurd (asks_something asks none));
    caused = λ four. elim why [ inl c ↦ inl c | inr c ↦ inr (inl c) ];
    refused = λ which. absurd (omega (arith, t.0, which));
    decided = λ command point end asks unasked once told may at. inr (inl t.0);
    done = λ zero_is. absurd (omega (arith, t.0, zero_is));
    written = record { front = front; usage = λ two. absurd (omega (arith, t.0, two)) };
  }

  module _ (said : List ℕ) where
    abbrev Now : Environment
    Now = with_what_is_said said new

    comes : {made : Result Outcome Stop} {point : Point Outcome} (did : Did words old Now made)
        → ReachesEnd did.command (step_state old) Now point → ComesSaying words old new said point
    comes did r = comes_saying words old new said did r

  -- the line has the object and the count
  line_at : {object : Object} {count : ℕ} (same : Object) (number : ℕ) → object ≡ same
      → count ≡ number → Told (Err (Fault object count))
      → Appends errors.old errors.new (fault_line same number)
  line_at {object} {count} same number o n t =
      subst (λ c. Appends errors.old errors.new (fault_line same c)) n
      (subst (λ x. Appends errors.old errors.new (fault_line x count)) o t.1)

  at_once : (r : Result Done Stop) → StopsAtOnce words r → IsUntouched old new output → Told r
      → AreRead
  at_once (Err (Words why)) stops same t = at_words why stops same t
  at_once (Err NoMemory) stops same t = at_memory (inl same.1) t
  at_once other stops same t = absurd stops

  module _ (said : List ℕ) where
    -- where a step ended the command
    stopped : (stop : Stop) (did : Did words old (Now said) (Err stop))
        → (point : Point Outcome) × ComesSaying words old new said point
    stopped (Words why) did = absurd did.ends
    stopped (Refused why) did = (refuses why, comes said did did.ends)
    stopped (Fault object count) did = (awaits did.ends.0, comes said did did.ends.1)
    stopped NoMemory did = ended did.ends
      where
        ended : ((call : Call) × MayLack call
            × ReachesEnd did.command (step_state old) (Now said) (awaits call))
            ⊎ ReachesEnd did.command (step_state old) (Now said) amid
            → (point : Point Outcome) × ComesSaying words old new said point
        ended (inl (call, may, r)) = (awaits call, comes said did r)
        ended (inr r) = (amid, comes said did r)

    reported : (stop : Stop) (did : Did words old (Now said) (Err stop)) → Reports said output
        → Front
    reported stop did says = let at = stopped stop did in inr (inl (at.0, (said, at.1, says)))

    at_step : (stop : Stop) → Did words old (Now said) (Err stop) → Reports said output
        → Told (Err stop) → AreRead
    at_step (Words why) did says t = absurd did.ends
    at_step (Refused why) did says t = at_refusal why (said, comes said did did.ends, says) t
    at_step (Fault object count) did says t =
        let call : Call = did.ends.0 in
        let f : IsFault call object count old (Now said) = did.ends.2 in
        let rose = subst (Rose (faults_at call old)) (same_faults said new call) f.1 in
        at_fault object count did.command did.asks (inl (
          call,
          (
            (said, comes said did did.ends.1, says),
            rose,
            object_rose call (comes said did did.ends.1).home rose,
            line_at (object_of call) (count_at call new) f.0 (f.2 ∙ same_count said new call) t,
          ),
        ))
        (reported (Fault object count) did says) t
    at_step NoMemory did says t = at_memory (reported NoMemory did says) t

    at_output : (made : Outcome) (r : Result Done Stop) → Did words old (Now said) (Ok made)
        → Writes said output (Ok made) r → Told r → AreRead
    at_output made (Ok done) did w t =
        at_value made (said, comes said did did.ends) w.1 (subst (λ d. Told (Ok d)) w.0 t)
    at_output made (Err (Fault object count)) did w t =
        at_fault object count did.command did.asks
        (inr (
          made,
          (
            (said, comes said did did.ends),
            w.0,
            w.2,
            line_at Output output.new_faults w.1 w.3 t,
          ),
        ))
        (inr (inr (made, (said, comes said did did.ends), w.0))) t
    at_output made (Err other) did w t = absurd w

  by_end : (r : Result Done Stop) → Answers words old new output r → Told r → AreRead
  by_end r (inl (stops, same)) t = at_once r stops same t
  by_end r (inr (said, Ok made, did, w)) t = at_output said made r did w t
  by_end r (inr (said, Err stop, did, w)) t = at_step said stop did w.1 (subst Told w.0 t)

  front_of : (r : Result Done Stop) → Answers words old new output r → Front
  front_of r (inl (stops, same)) = inl same.1
  front_of (Ok done) (inr (said, Ok made, did, w)) = inr (inr (
    made,
    (said, comes said did did.ends),
    whole_front output.old output.new made.bytes w.1,
  ))
  front_of (Err (Fault object count)) (inr (said, Ok made, did, w)) =
      inr (inr (made, (said, comes said did did.ends), w.0))
  front_of r (inr (said, Err stop, did, w)) = reported said stop did w.1
  front_of (Err other) (inr (said, Ok made, did, w)) = absurd w

pub readings : (words : List (List ℕ)) (old new : Environment) (output errors : Receipt) (status : ℕ)
    (r : Result Done Stop) → Answers words old new output r
    → Tells (line_of r) (status_of r) errors status
    → Readings words old new output errors status
readings words old new output errors status r a (inl t) =
    by_end words old new output errors status r a t
readings words old new output errors status r a (inr t) = record {
  usage = (λ two. absurd (omega (arith, t.0, two)), λ none. inr (inr (inr (t.0, t.1))));
  caused = λ four. inr (inr t.1);
  refused = λ which. absurd (omega (arith, t.0, which));
  decided = λ command point end asks unasked once told may at. inr (inl t.0);
  done = λ zero_is. absurd (omega (arith, t.0, zero_is));
  written = record {
    front = front_of words old new output errors status r a;
    usage = λ two. absurd (omega (arith, t.0, two));
  };
}
