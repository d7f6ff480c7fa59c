-- A call is done as well with the bytes told that it drew.
use Rattle.std.specs.Prelude.{if◌then◌else◌, true, false}
use Rattle.std.proofs.Common.{◌≡◌, ℕ, zero, suc, ◌==◌, Bool, List, [], ◌++◌, Option, Some, Result, Ok, Err, inl, inr, refl, sym, ap, subst, arith}
use Rattle.std.specs.Io.KnownBytes.{Consumes, Keeps}
use Rattle.std.proofs.lemmas.Bool.{eqb-true}
use Rattle.kr_kms.specs.declared.world.WorldCall.TheVariants.{File, Link, RandomSource, Returned, Settled, Tape}
use Rattle.kr_kms.specs.Exchanges.{StatusCall, UnwrapCall, WrapCall}
use Rattle.kr_kms.specs.Outside.{makes}
use Rattle.kr_kms.specs.declared.plugin.KmsNo.TheVariants.{Failed}
use Rattle.kr_cmd_messages.specs.Receipts.{Receipt}
use Rattle.kr_cmd_messages.specs.declared.command.Command.{Command}
use Rattle.kr_cmd_messages.specs.declared.refusal.Done.{Done}
use Rattle.kr_cmd_messages.specs.declared.refusal.Object.{Object}
use Rattle.kr_cmd_messages.specs.declared.refusal.Outcome.{Outcome}
use Rattle.kr_cmd_messages.specs.declared.refusal.Stop.{Stop}
use Rattle.kr_cmd_messages.specs.declared.refusal.Stop.TheVariants.{Fault, NoMemory, Refused, Words}
use Rattle.kr_cmd_steps.specs.Environment.{Environment, IsFault, IsHome, IsStateOf, step_state, with_what_is_said}
use Rattle.kr_cmd_steps.specs.Commands.{steps}
use Rattle.kr_cmd_steps.specs.Ran.{Answers, Closes, Did, EndsAll, ReachesEnd, SaysNothing}
use Rattle.kr_cmd_steps.specs.Steps.{Call, RunTo, IsAt, StepState, Point, Steps, amid, asking, ask_status, awaits, borrow_dice, borrow_link, borrow_tape, draw, drawing, find, give, give_back, gives, instead, keep_rows, lending, linking, load, loading, note, opening, read_tape, reading, refuse, refuses, scanning, settle, settling, take_input, unwrap, with_asked, with_dice, with_heard, with_input, with_said, with_tape, with_told, wrap, write_row, writing}
use Rattle.kr_cmd_laws.specs.DrawLaws.{ToldDraws, drawing_from}

-- ---- what is left, with these bytes told

abbrev over : List ℕ → StepState → StepState
over bytes left = with_dice 0 (Some bytes) left

-- what was told of the source before doesn't matter
told_anew : (told first second : Option (List ℕ)) (left : StepState)
    → with_dice 0 told (with_dice 0 first left) ≡ with_dice 0 told (with_dice 0 second left)
told_anew told first second left =
    ap (λ (dice : ℕ → Option (List ℕ)). record left { dice = dice })
    (λ i seat. by (0 == seat) (left.dice seat) i)
  where
    by : (b : Bool) (other : Option (List ℕ))
        → (if b then told else (if b then first else other))
        ≡ (if b then told else (if b then second else other))
    by true other = refl
    by false other = refl

-- another seat's source is another
never_both : (seat other : ℕ) → (0 == other) ≡ true → (suc seat == other) ≡ true → ⊥
never_both seat other first second =
    let a = eqb-true 0 other first in let b = eqb-true (suc seat) other second in
    absurd (omega (arith, a, b))

told_apart : (seat : ℕ) (told rest : Option (List ℕ)) (left : StepState)
    → with_dice 0 told (with_dice (suc seat) rest left)
    ≡ with_dice (suc seat) rest (with_dice 0 told left)
told_apart seat told rest left =
    ap (λ (dice : ℕ → Option (List ℕ)). record left { dice = dice })
    (λ i other. by (0 == other) (suc seat == other) (never_both seat other) (left.dice other) i)
  where
    by : (a b : Bool) → (a ≡ true → b ≡ true → ⊥) → (it : Option (List ℕ))
        → (if a then told else (if b then rest else it))
        ≡ (if b then rest else (if a then told else it))
    by true true never it = absurd (never refl refl)
    by true false never it = refl
    by false true never it = refl
    by false false never it = refl

same_apart : (seat : ℕ) (told : Option (List ℕ)) (dice : ℕ → Option (List ℕ))
    → instead 0 told dice (suc seat) ≡ dice (suc seat)
same_apart seat told dice = by (0 == suc seat) (λ same. zero_is seat (eqb-true 0 (suc seat) same))
  where
    zero_is : (n : ℕ) → 0 ≡ suc n → ⊥
    zero_is n is = absurd (omega (arith, is))

    by : (b : Bool) → (b ≡ true → ⊥) → (if b then told else dice (suc seat)) ≡ dice (suc seat)
    by true never = absurd (never refl)
    by false never = refl

keeps_by : (b : Bool) (x y : Option (List ℕ)) → Keeps x y
    → Keeps (if b then Some [] else x) (if b then Some [] else y)
keeps_by true x y k = refl
keeps_by false x y k = k

-- ---- steps

module _ {A : Type 0} (point : Point A) (end : StepState) where
  abbrev Drew : Steps A → StepState → Type 0
  Drew s left = (bytes : List ℕ) × RunTo point (over [] end) s (over bytes left)

  at_end : (here : Point A) (left : StepState) → IsAt point end here left
      → IsAt point (over [] end) here (over [] left)
  at_end here left a = (a.0, ap (over []) a.1)

  drew : (s : Steps A) (left : StepState) → RunTo point end s left → Drew s left
  drew (load name next) left (inl a) = ([], inl (at_end amid left a))
  drew (load name next) left (inr (inl a)) =
      ([], inr (inl (at_end (awaits (loading name)) (with_asked (File name) left) a)))
  drew (load name next) left (inr (inr (bytes, agrees, goes))) =
      let w = drew (next bytes) (with_asked (File name) left) goes in
      (w.0, inr (inr (bytes, agrees, w.1)))
  drew (take_input limit long next) left (bytes, rest, fits, inl a) =
      ([], (bytes, rest, fits, inl (a.0, at_end (awaits reading) (with_input rest left) a.1)))
  drew (take_input limit long next) left (bytes, rest, fits, inr (inl a)) = (
    [],
    (
      bytes,
      rest,
      fits,
      inr (inl (a.0, at_end (refuses long) (with_input rest left) a.1)),
    ),
  )
  drew (take_input limit long next) left (bytes, rest, fits, inr (inr (short, done, goes))) =
      let w = drew (next bytes) (with_input rest left) goes in
      (w.0, (bytes, rest, fits, inr (inr (short, done, w.1))))
  drew (borrow_dice seat next) left (inl a) = ([], inl (at_end amid left a))
  drew (borrow_dice seat next) left (inr (inl a)) =
      ([], inr (inl (at_end (awaits (opening seat)) (with_asked (RandomSource seat) left) a)))
  drew (borrow_dice seat next) left (inr (inr goes)) =
      let w = drew next (with_asked (RandomSource seat) left) goes in (w.0, inr (inr w.1))
  drew (borrow_tape name access absent next) left (inl a) = ([], inl (at_end amid left a))
  drew (borrow_tape name access absent next) left (inr (inl a)) =
      ([], inr (inl (at_end (awaits (lending name)) (with_asked (Tape name access) left) a)))
  drew (borrow_tape name access absent next) left (inr (inr (inl a))) = (
    [],
    inr (inr (inl (
      a.0,
      a.1,
      at_end (refuses absent) (with_asked (Tape name access) left) a.2,
    ))),
  )
  drew (borrow_tape name access absent next) left (inr (inr (inr (may, goes)))) =
      let w = drew next (with_tape (makes access) name (with_asked (Tape name access) left)) goes in
      (w.0, inr (inr (inr (may, w.1))))
  drew (read_tape object name next) left (inl a) =
      ([], inl (at_end (awaits (scanning object name)) left a))
  drew (read_tape object name next) left (inr (bytes, agrees, goes)) =
      let w = drew (next bytes) left goes in (w.0, inr (bytes, agrees, w.1))
  drew (write_row object name store row next) left (inl (told, begins, a)) = (
    [],
    inl (
      told,
      begins,
      at_end (awaits (writing object name)) (with_told name told left) a,
    ),
  )
  drew (write_row object name store row next) left (inr (told, holds, goes)) =
      let w = drew next (with_told name told left) goes in (w.0, inr (told, holds, w.1))
  drew (keep_rows name store next) left (told, holds, goes) =
      let w = drew next (with_told name told left) goes in (w.0, (told, holds, w.1))
  drew (settle object name next) left (inl a) =
      ([], inl (at_end (awaits (settling object name)) left a))
  drew (settle object name next) left (inr goes) =
      let w = drew next (with_asked (Settled name) left) goes in (w.0, inr w.1)
  drew (give_back name next) left goes =
      let w = drew next (with_asked (Returned name) left) goes in (w.0, w.1)
  drew (draw seat size next) left (inl a) =
      ([], inl (at_end (awaits (drawing seat)) left a))
  drew (draw zero size next) left (inr (bytes, rest, fits, long, goes)) =
      let w = drew (next bytes) (with_dice 0 rest left) goes in (
        bytes ++ w.0,
        inr (
          bytes,
          Some w.0,
          refl,
          long,
          subst (RunTo point (over [] end) (next bytes))
              (told_anew (Some w.0) rest (Some (bytes ++ w.0)) left) w.1,
        ),
      )
  drew (draw (suc seat) size next) left (inr (bytes, rest, fits, long, goes)) =
      let w = drew (next bytes) (with_dice (suc seat) rest left) goes in (
        w.0,
        inr (
          bytes,
          rest,
          subst (λ told. Consumes told rest bytes) (sym (same_apart seat (Some w.0) left.dice)) fits,
          long,
          subst (RunTo point (over [] end) (next bytes)) (told_apart seat (Some w.0) rest left) w.1,
        ),
      )
  drew (borrow_link seat plugin program next) left (inl a) = ([], inl (at_end amid left a))
  drew (borrow_link seat plugin program next) left (inr (inl a)) = (
    [],
    inr (inl (at_end (awaits (linking seat plugin))
        (with_asked (Link seat plugin program) left) a)),
  )
  drew (borrow_link seat plugin program next) left (inr (inr goes)) =
      let w = drew next (with_asked (Link seat plugin program) left) goes in (w.0, inr (inr w.1))
  drew (ask_status seat plugin next) left (inl a) = ([], inl (at_end amid left a))
  drew (ask_status seat plugin next) left (inr (inl (answer, a))) =
      ([], inr (inl (answer, at_end amid (with_heard (StatusCall plugin answer) left) a)))
  drew (ask_status seat plugin next) left (inr (inr (inl a))) = (
    [],
    inr (inr (inl (at_end (awaits (asking seat plugin))
        (with_heard (StatusCall plugin (Err Failed)) left) a))),
  )
  drew (ask_status seat plugin next) left (inr (inr (inr (status, agrees, goes)))) =
      let w = drew (next status) (with_heard (StatusCall plugin (Ok status)) left) goes in
      (w.0, inr (inr (inr (status, agrees, w.1))))
  drew (wrap seat plugin plain next) left (inl a) = ([], inl (at_end amid left a))
  drew (wrap seat plugin plain next) left (inr (inl (answer, a))) =
      ([], inr (inl (answer, at_end amid (with_heard (WrapCall plugin plain answer) left) a)))
  drew (wrap seat plugin plain next) left (inr (inr (inl a))) = (
    [],
    inr (inr (inl (at_end (awaits (asking seat plugin))
        (with_heard (WrapCall plugin plain (Err Failed)) left) a))),
  )
  drew (wrap seat plugin plain next) left (inr (inr (inr (wrapped, within, goes)))) =
      let w = drew (next wrapped) (with_heard (WrapCall plugin plain (Ok wrapped)) left) goes in
      (w.0, inr (inr (inr (wrapped, within, w.1))))
  drew (unwrap seat key next) left (inl a) = ([], inl (at_end amid left a))
  drew (unwrap seat key next) left (inr (inl (answer, a))) =
      ([], inr (inl (answer, at_end amid (with_heard (UnwrapCall key answer) left) a)))
  drew (unwrap seat key next) left (inr (inr (inl a))) = (
    [],
    inr (inr (inl (at_end (awaits (asking seat key.name))
        (with_heard (UnwrapCall key (Err Failed)) left) a))),
  )
  drew (unwrap seat key next) left (inr (inr (inr (bytes, goes)))) =
      let w = drew (next bytes) (with_heard (UnwrapCall key (Ok bytes)) left) goes in
      (w.0, inr (inr (inr (bytes, w.1))))
  drew (note text next) left goes =
      let w = drew next (with_said text left) goes in (w.0, w.1)
  drew (find B P next) left (inl a) = ([], inl (at_end amid left a))
  drew (find B P next) left (inr (b, holds, goes)) =
      let w = drew (next b) left goes in (w.0, inr (b, holds, w.1))
  drew (refuse why) left a = ([], at_end (refuses why) left a)
  drew (give x) left a = ([], at_end (gives x) left a)

-- ---- a command

says_nothing : (stop : Point Outcome) (end : StepState) → SaysNothing stop end
    → SaysNothing stop (over [] end)
says_nothing (gives made) end s = tt
says_nothing (awaits call) end s = s
says_nothing amid end s = s
says_nothing (refuses why) end s = s

closes_so : (command : Command) (stop point : Point Outcome) (end last : StepState)
    → Closes command stop end point last → Closes command stop (over [] end) point (over [] last)
closes_so command stop point end last (inl a) =
    inl (says_nothing stop end a.0, (a.1.0, ap (over []) a.1.1))
closes_so command stop point end last (inr (is, (name, reports, inl a))) =
    inr (is, (name, reports, inl (a.0, ap (over []) a.1)))
closes_so command stop point end last (inr (is, (name, reports, inr a))) =
    inr (is, (name, reports, inr (a.0, ap (over []) a.1)))

stays_so : (last : StepState) (new : Environment) → IsStateOf last new → IsStateOf (over [] last) (drawing_from [] new)
stays_so last new s = record {
  file = s.file;
  tapes = s.tapes;
  links = s.links;
  input = s.input;
  dice = λ seat. keeps_by (0 == seat) (last.dice seat) (new.world.dice.told seat) (s.dice seat);
  asked = s.asked;
  heard = s.heard;
  said = s.said;
}

home_so : (old new : Environment) (bytes : List ℕ) → IsHome old new
    → IsHome (drawing_from bytes old) (drawing_from [] new)
home_so old new bytes h = record {
  files = record { file = h.files.file; later = h.files.later };
  dice = record { out = h.dice.out; later = h.dice.later };
  tapes = h.tapes;
  links = h.links;
  input = h.input;
}

fault_so : (call : Call) (object : Object) (count : ℕ) (old new : Environment) (bytes : List ℕ)
    → IsFault call object count old new
    → IsFault call object count (drawing_from bytes old) (drawing_from [] new)
fault_so (loading name) object count old new bytes f = f
fault_so reading object count old new bytes f = f
fault_so (opening seat) object count old new bytes f = f
fault_so (lending name) object count old new bytes f = f
fault_so (scanning of name) object count old new bytes f = f
fault_so (writing of name) object count old new bytes f = f
fault_so (settling of name) object count old new bytes f = f
fault_so (drawing seat) object count old new bytes f = f
fault_so (linking seat plugin) object count old new bytes f = f
fault_so (asking seat plugin) object count old new bytes f = f

module _ (command : Command) (old new : Environment) where
  reaches_so : (point : Point Outcome) → ReachesEnd command (step_state old) new point
      → (bytes : List ℕ)
      × ReachesEnd command (step_state (drawing_from bytes old)) (drawing_from [] new) point
  reaches_so point r =
      let w = drew r.stop r.end (steps command) (step_state old) r.goes in (
        w.0,
        record {
          stop = r.stop;
          end = over [] r.end;
          last = over [] r.last;
          goes = w.1;
          closes = closes_so command r.stop point r.end r.last r.closes;
          stays = stays_so r.last new r.stays;
        },
      )

  ends_so : (made : Result Outcome Stop) → EndsAll command (step_state old) old new made
      → (bytes : List ℕ)
      × EndsAll command (step_state (drawing_from bytes old)) (drawing_from bytes old)
      (drawing_from [] new) made
  ends_so (Ok made) r = reaches_so (gives made) r
  ends_so (Err (Words why)) r = absurd r
  ends_so (Err (Refused why)) r = reaches_so (refuses why) r
  ends_so (Err (Fault object count)) (call, r, fault) =
      let w = reaches_so (awaits call) r in
      (w.0, (call, w.1, fault_so call object count old new w.0 fault))
  ends_so (Err NoMemory) (inl (call, may, r)) =
      let w = reaches_so (awaits call) r in (w.0, inl (call, may, w.1))
  ends_so (Err NoMemory) (inr r) = let w = reaches_so amid r in (w.0, inr w.1)

did_so : (words : List (List ℕ)) (old new : Environment) (made : Result Outcome Stop)
    → Did words old new made
    → (bytes : List ℕ) × Did words (drawing_from bytes old) (drawing_from [] new) made
did_so words old new made d =
    let w = ends_so d.command old new made d.ends in (
      w.0,
      record {
        command = d.command;
        asks = d.asks;
        home = home_so old new w.0 d.home;
        ends = w.1;
      },
    )

answers_so : (words : List (List ℕ)) (old new : Environment) (output : Receipt)
    (result : Result Done Stop) → Answers words old new output result
    → (bytes : List ℕ) × Answers words (drawing_from bytes old) (drawing_from [] new) output result
answers_so words old new output result (inl (stops, untouched)) =
    ([], inl (stops, (ap (drawing_from []) untouched.0, untouched.1)))
answers_so words old new output result (inr (said, made, did, writes)) =
    let w = did_so words old (with_what_is_said said new) made did in
    (w.0, inr (said, made, w.1, writes))

pub told_draws : ToldDraws
told_draws words old new output errors status ran =
    let w = answers_so words old new output ran.result ran.answers in (
      w.0,
      record {
        result = ran.result;
        answers = w.1;
        tells = ran.tells;
        written = ran.written;
        told = ran.told;
      },
    )
