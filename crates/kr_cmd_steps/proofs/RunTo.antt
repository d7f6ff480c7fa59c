-- How each phase ends its steps, and how a command goes on from one phase to the next.
use Rattle.std.proofs.Common.{◌≡◌, ℕ, ◌≤◌, List, Option, None, Some, Result, Ok, Err, refl, sym, ◌∙◌, ap, subst, inl, inr, arith}
use Rattle.std.specs.Io.KnownBytes.{Keeps, Consumes}
use Rattle.std.proofs.KnownBytes.{Keeps-refl}
use Rattle.kr_base.specs.Faults.{Rose}
use Rattle.kr_base.specs.Streams.{TakesAtMost}
use Rattle.kr_base.specs.Told.{Agrees}
use Rattle.kr_base.proofs.Counting.{Rose-later}
use Rattle.kr_kms.specs.Outside.{Outside, Objects, file_faults, with_call, same_seat, IsLater, KeepsFiles, KeepsObjects}
use Rattle.kr_kms.specs.declared.file_faults.FileFaults.{FileFaults}
use Rattle.kr_kms.specs.declared.world.WorldCall.{WorldCall}
use Rattle.kr_kms.specs.declared.world.WorldCall.TheVariants.{File, Link, RandomSource}
use Rattle.kr_kms.proofs.Lent.{seats_decide}
use Rattle.kr_config.specs.declared.settings.Settings.{Settings}
use Rattle.kr_cmd_steps.specs.Environment.{Environment, with_world, with_lent, step_state, faults_at, IsStateOf, StepsEndAt, AreHome, IsHome, Ends, MayLack, count_at}
use Rattle.kr_cmd_steps.specs.Phases.{by_result, configuration, show, input_of, input_limit, long_input}
use Rattle.kr_cmd_steps.specs.Configuration.{Entries}
use Rattle.kr_cmd_steps.specs.Steps.{Steps, load, take_input, borrow_dice, borrow_tape, read_tape, write_row, keep_rows, settle, give_back, draw, note, find, refuse, give, and_then, Call, loading, reading, opening, lending, scanning, writing, settling, drawing, Point, awaits, amid, refuses, gives, StepState, with_input, with_asked, IsAt, RunTo, borrow_link, ask_status, wrap, unwrap, linking, asking, object_of}
use Rattle.kr_cmd_steps.specs.inner.Lent.{with_told_input, with_lent_dice}
use Rattle.kr_cmd_steps.specs.inner.Phases.{Does, AskedUnless, AskedFor, rows_in, IsFileRead, Configures, TakesInput, Yields, shown_as, DiceLoan, DiceReturn, LendsNothing}
use Rattle.kr_cmd_messages.specs.declared.command.Direction.{Direction}
use Rattle.kr_cmd_messages.specs.declared.refusal.Object.TheVariants.{Files}
use Rattle.kr_cmd_messages.specs.declared.refusal.Refusal.{Refusal}
use Rattle.kr_cmd_messages.specs.declared.refusal.Stop.{Stop}
use Rattle.kr_cmd_messages.specs.declared.refusal.Stop.TheVariants.{Words, Refused, Fault, NoMemory}
use Rattle.kr_cmd_steps.proofs.Lending.{AreSeen, home_same, lent_seen, seen_same, back_is}

pub reach : {A : Type 0} {next : Steps A} {left : StepState} {new : Environment} {point : Point A} (end : StepState)
    → RunTo point end next left → IsStateOf end new → StepsEndAt next left new point
reach end goes stays = record { end = end; goes = goes; stays = stays }

pub stays_refl : (a : Environment) → IsStateOf (step_state a) a
stays_refl a = record {
  file = refl;
  tapes = refl;
  links = refl;
  input = Keeps-refl a.input;
  dice = λ seat. Keeps-refl (a.world.dice.told seat);
  asked = refl;
  heard = refl;
  said = refl;
}

-- what is left, but for these parts of another
abbrev beside : StepState → StepState → StepState
beside other left = record left {
  tapes = other.tapes;
  asked = other.asked;
  heard = other.heard;
  said = other.said;
}

-- nothing was consumed where the other parts are as they were
pub stays_as : {left last : StepState} {old new : Environment} → IsStateOf left old → beside left last ≡ left
    → beside (step_state old) (step_state new) ≡ step_state old → new.world.tapes.told ≡ last.tapes
    → new.world.asked ≡ last.asked → new.heard ≡ last.heard → new.said ≡ last.said
    → IsStateOf last new
stays_as {left} {last} {old} {new} s given kept tapes asked heard said = record {
  file = ap (λ (l : StepState). l.file) kept ∙ s.file ∙ sym (ap (λ (l : StepState). l.file) given);
  tapes = tapes;
  links = ap (λ (l : StepState). l.links) kept ∙ s.links ∙ sym (ap (λ (l : StepState). l.links) given);
  input = subst (λ (l : StepState). Keeps l.input new.input) (sym given)
      (subst (λ (l : StepState). Keeps left.input l.input) (sym kept) s.input);
  dice = λ seat. subst (λ (l : StepState). Keeps (l.dice seat) (new.world.dice.told seat)) (sym given)
      (subst (λ (l : StepState). Keeps (left.dice seat) (l.dice seat)) (sym kept) (s.dice seat));
  asked = asked;
  heard = heard;
  said = said;
}

-- steps that give nothing
abbrev pub nothing : Steps (Unit {0})
nothing = give tt

-- ---- from one phase to the next

module _ {A B : Type 0} (point : Point B) (last : StepState) (others : A → Steps B) where
  -- from where the first steps came to, the others went on; or all ended there
  abbrev pub Further : Point A → StepState → Type 0
  Further (awaits call) end = IsAt point last (awaits call) end
  Further amid end = IsAt point last amid end
  Further (refuses why) end = IsAt point last (refuses why) end
  Further (gives x) end = RunTo point last (others x) end

  land : {p : Point A} {end left : StepState} (here : Point A) → (p ≡ here) × (end ≡ left)
      → Further p end → Further here left
  land {p} {end} {left} here at f =
      subst (λ l. Further here l) at.1 (subst (λ q. Further q end) at.0 f)

  pub further : (p : Point A) (end : StepState) → Further p end → (first : Steps A) (left : StepState)
      → RunTo p end first left → RunTo point last (and_then first others) left
  further p end f (load name next) left (inl at) = inl (land amid at f)
  further p end f (load name next) left (inr (inl at)) =
      inr (inl (land (awaits (loading name)) at f))
  further p end f (load name next) left (inr (inr (bytes, agrees, goes))) =
      inr (inr (bytes, agrees, further p end f (next bytes) _ goes))
  further p end f (take_input limit long next) left (bytes, rest, c, inl (short, at)) =
      (bytes, rest, c, inl (short, land (awaits reading) at f))
  further p end f (take_input limit long next) left (bytes, rest, c, inr (inl (more, at))) =
      (bytes, rest, c, inr (inl (more, land (refuses long) at f)))
  further p end f (take_input limit long next) left (bytes, rest, c, inr (inr (short, e, goes))) =
      (bytes, rest, c, inr (inr (short, e, further p end f (next bytes) _ goes)))
  further p end f (borrow_dice seat next) left (inl at) = inl (land amid at f)
  further p end f (borrow_dice seat next) left (inr (inl at)) =
      inr (inl (land (awaits (opening seat)) at f))
  further p end f (borrow_dice seat next) left (inr (inr goes)) =
      inr (inr (further p end f next _ goes))
  further p end f (borrow_tape name access absent next) left (inl at) = inl (land amid at f)
  further p end f (borrow_tape name access absent next) left (inr (inl at)) =
      inr (inl (land (awaits (lending name)) at f))
  further p end f (borrow_tape name access absent next) left (inr (inr (inl (may, agrees, at)))) =
      inr (inr (inl (may, agrees, land (refuses absent) at f)))
  further p end f (borrow_tape name access absent next) left (inr (inr (inr (may, goes)))) =
      inr (inr (inr (may, further p end f next _ goes)))
  further p end f (read_tape object name next) left (inl at) =
      inl (land (awaits (scanning object name)) at f)
  further p end f (read_tape object name next) left (inr (bytes, agrees, goes)) =
      inr (bytes, agrees, further p end f (next bytes) left goes)
  further p end f (write_row object name store row next) left (inl (told, begins, at)) =
      inl (told, begins, land (awaits (writing object name)) at f)
  further p end f (write_row object name store row next) left (inr (told, holds, goes)) =
      inr (told, holds, further p end f next _ goes)
  further p end f (keep_rows name store next) left (told, holds, goes) =
      (told, holds, further p end f next _ goes)
  further p end f (settle object name next) left (inl at) =
      inl (land (awaits (settling object name)) at f)
  further p end f (settle object name next) left (inr goes) = inr (further p end f next _ goes)
  further p end f (give_back name next) left goes = further p end f next _ goes
  further p end f (draw seat size next) left (inl at) = inl (land (awaits (drawing seat)) at f)
  further p end f (draw seat size next) left (inr (bytes, rest, c, fits, goes)) =
      inr (bytes, rest, c, fits, further p end f (next bytes) _ goes)
  further p end f (borrow_link seat plugin program next) left (inl at) = inl (land amid at f)
  further p end f (borrow_link seat plugin program next) left (inr (inl at)) =
      inr (inl (land (awaits (linking seat plugin)) at f))
  further p end f (borrow_link seat plugin program next) left (inr (inr goes)) =
      inr (inr (further p end f next _ goes))
  further p end f (ask_status seat plugin next) left (inl at) = inl (land amid at f)
  further p end f (ask_status seat plugin next) left (inr (inl (answer, at))) =
      inr (inl (answer, land amid at f))
  further p end f (ask_status seat plugin next) left (inr (inr (inl at))) =
      inr (inr (inl (land (awaits (asking seat plugin)) at f)))
  further p end f (ask_status seat plugin next) left (inr (inr (inr (status, agrees, goes)))) =
      inr (inr (inr (status, agrees, further p end f (next status) _ goes)))
  further p end f (wrap seat plugin plain next) left (inl at) = inl (land amid at f)
  further p end f (wrap seat plugin plain next) left (inr (inl (answer, at))) =
      inr (inl (answer, land amid at f))
  further p end f (wrap seat plugin plain next) left (inr (inr (inl at))) =
      inr (inr (inl (land (awaits (asking seat plugin)) at f)))
  further p end f (wrap seat plugin plain next) left
      (inr (inr (inr (wrapped, within, goes)))) =
      inr (inr (inr (wrapped, within, further p end f (next wrapped) _ goes)))
  further p end f (unwrap seat key next) left (inl at) = inl (land amid at f)
  further p end f (unwrap seat key next) left (inr (inl (answer, at))) =
      inr (inl (answer, land amid at f))
  further p end f (unwrap seat key next) left (inr (inr (inl at))) =
      inr (inr (inl (land (awaits (asking seat key.name)) at f)))
  further p end f (unwrap seat key next) left (inr (inr (inr (bytes, goes)))) =
      inr (inr (inr (bytes, further p end f (next bytes) _ goes)))
  further p end f (note text next) left goes = further p end f next _ goes
  further p end f (find D P next) left (inl at) = inl (land amid at f)
  further p end f (find D P next) left (inr (d, is, goes)) =
      inr (d, is, further p end f (next d) _ goes)
  further p end f (refuse why) left at = land (refuses why) at f
  further p end f (give x) left at = land (gives x) at f

back_home : {K V : Type 0} {a b c : Objects K V} → AreHome a b → AreHome b c → AreHome a c
back_home p q = record {
  out = λ key. q.out key ∙ p.out key;
  later = λ key. omega (arith, p.later key, q.later key);
}

later_trans : {a b c : FileFaults} → IsLater a b → IsLater b c → IsLater a c
later_trans p q = record {
  loads = omega (arith, p.loads, q.loads);
  tapes = omega (arith, p.tapes, q.tapes);
  dice = omega (arith, p.dice, q.dice);
  links = omega (arith, p.links, q.links);
}

pub home_trans : {a b c : Environment} → IsHome a b → IsHome b c → IsHome a c
home_trans p q = record {
  files = record {
    file = q.files.file ∙ p.files.file;
    later = later_trans p.files.later q.files.later;
  };
  dice = back_home p.dice q.dice;
  tapes = back_home p.tapes q.tapes;
  links = back_home p.links q.links;
  input = omega (arith, p.input, q.input);
}

-- a count that rose is above what it was before that
earlier : {old mid : Environment} (new : Environment) (call : Call) → IsHome old mid
    → Rose (faults_at call mid) (faults_at call new)
    → Rose (faults_at call old) (faults_at call new)
earlier new (loading name) h r = Rose-later _ _ _ h.files.later.loads r
earlier new reading h r = Rose-later _ _ _ h.input r
earlier new (opening seat) h r = Rose-later _ _ _ h.files.later.dice r
earlier new (lending name) h r = Rose-later _ _ _ h.files.later.tapes r
earlier new (scanning object name) h r = Rose-later _ _ _ (h.tapes.later name) r
earlier new (writing object name) h r = Rose-later _ _ _ (h.tapes.later name) r
earlier new (settling object name) h r = Rose-later _ _ _ (h.tapes.later name) r
earlier new (drawing seat) h r = Rose-later _ _ _ (h.dice.later seat) r
earlier new (linking seat plugin) h r = Rose-later _ _ _ h.files.later.links r
earlier new (asking seat plugin) h r = Rose-later _ _ _ (h.links.later (seat, plugin)) r

module _ {A B : Type 0} (first : Steps A) (others : A → Steps B) where
  pub onward : {left : StepState} {mid new : Environment} {p : Point A} {point : Point B}
      (r : StepsEndAt first left mid p) (last : StepState) → Further point last others p r.end
      → IsStateOf last new → StepsEndAt (and_then first others) left new point
  onward {left} {p = p} {point} r last f s =
      reach last (further point last others p r.end f first left r.goes) s

  pub joins : {left : StepState} {mid new : Environment} {x : A} {point : Point B}
      (r : StepsEndAt first left mid (gives x)) → StepsEndAt (others x) r.end new point
      → StepsEndAt (and_then first others) left new point
  joins r q = onward r q.end q.goes q.stays

  goes_at : {left : StepState} {old mid : Environment} {x : A} (new : Environment) (result : Result B Stop)
      (r : StepsEndAt first left mid (gives x)) → IsHome old mid
      → Ends (others x) r.end mid new result → Ends (and_then first others) left old new result
  goes_at new (Ok y) r h q = joins r q
  goes_at new (Err (Words why)) r h q = q
  goes_at new (Err (Refused why)) r h q = joins r q
  goes_at new (Err (Fault object count)) r h (call, q, f) =
      (call, joins r q, (f.0, earlier new call h f.1, f.2))
  goes_at new (Err NoMemory) r h (inl (call, may, q)) = inl (call, may, joins r q)
  goes_at new (Err NoMemory) r h (inr q) = inr (joins r q)

  stops_at : (left : StepState) (old new : Environment) (stop : Stop) → Ends first left old new (Err stop)
      → Ends (and_then first others) left old new (Err stop)
  stops_at left old new (Words why) q = q
  stops_at left old new (Refused why) q = onward q q.end (refl, refl) q.stays
  stops_at left old new (Fault object count) (call, q, f) =
      (call, onward q q.end (refl, refl) q.stays, f)
  stops_at left old new NoMemory (inl (call, may, q)) =
      inl (call, may, onward q q.end (refl, refl) q.stays)
  stops_at left old new NoMemory (inr q) = inr (onward q q.end (refl, refl) q.stays)

  -- the first steps gave something, and the others ended so
  pub goes_on : {old mid new : Environment} {result : Result B Stop} (x : A) → Does first old mid (Ok x)
      → Does (others x) mid new result → Does (and_then first others) old new result
  goes_on {new = new} {result} x d e = record {
    home = home_trans d.home e.home;
    ends = λ left s.
        let r = d.ends left s in goes_at new result r d.home (e.ends r.end r.stays);
  }

  -- the first steps ended the command
  pub stops : {old new : Environment} (stop : Stop) → Does first old new (Err stop)
      → Does (and_then first others) old new (Err stop)
  stops {old} {new} stop d =
      record { home = d.home; ends = λ left s. stops_at left old new stop (d.ends left s) }

pub by_bytes : {A : Type 0} {old new : Environment} {result : Result A Stop}
    (next : List ℕ → Steps A) {piece bytes : List ℕ}
    → piece ≡ bytes → Does (next piece) old new result → Does (next bytes) old new result
by_bytes {old = old} {new} {result} next e d = subst (λ b. Does (next b) old new result) e d

-- ---- bytes that are kept

pub consumes_by : (bytes : List ℕ) (a b c : Option (List ℕ)) → Keeps a b → Consumes b c bytes
    → Consumes a c bytes
consumes_by bytes None b c k h = tt
consumes_by bytes (Some x) None c k h = absurd k
consumes_by bytes (Some x) (Some y) None k h = absurd h
consumes_by bytes (Some x) (Some y) (Some z) k h = sym k ∙ h

-- ---- phases that ask for nothing

pub files_same : (world : Outside) → KeepsFiles world world
files_same world = record {
  file = refl;
  later = record {
    loads = omega arith;
    tapes = omega arith;
    dice = omega arith;
    links = omega arith;
  };
}

pub home_refl : (a : Environment) → IsHome a a
home_refl a = record {
  files = files_same a.world;
  dice = home_same refl;
  tapes = home_same refl;
  links = home_same refl;
  input = omega arith;
}

-- where the world and the faults of the input are as they were, all is home
pub home_as : {old mid new : Environment} → new.world ≡ mid.world → new.faults ≡ mid.faults
    → IsHome old mid → IsHome old new
home_as {old} same faults h = record {
  files = subst (λ w. KeepsFiles old.world w) (sym same) h.files;
  dice = subst (λ (w : Outside). AreHome old.world.dice w.dice) (sym same) h.dice;
  tapes = subst (λ (w : Outside). AreHome old.world.tapes w.tapes) (sym same) h.tapes;
  links = subst (λ (w : Outside). AreHome old.world.links w.links) (sym same) h.links;
  input = subst (λ n. old.faults ≤ n) (sym faults) h.input;
}

-- one more call was asked of the world, and nothing else done
pub asks_alone : {A : Type 0} {next : Steps A} {made : A} (call : WorldCall)
    → ((left : StepState) → RunTo (gives made) (with_asked call left) next left) → (a : Environment)
    → Does next a (with_world (record a.world { asked = with_call call a.world.asked }) a)
    (Ok made)
asks_alone call goes a = let same = home_refl a in record {
  home = record {
    files = record { file = refl; later = same.files.later };
    dice = same.dice;
    tapes = same.tapes;
    links = same.links;
    input = same.input;
  };
  ends = λ left s. reach (with_asked call left) (goes left)
      (stays_as s refl refl s.tapes (ap (with_call call) s.asked) s.heard s.said);
}

shows_at : (Is : Result (List ℕ) Refusal → Type 0) {left : StepState} {a : Environment}
    (result : Result (List ℕ) Stop) → Yields Is result → IsStateOf left a
    → Ends (show Is) left a a (shown_as result)
shows_at Is {left} (Ok text) is s = reach left (inr (Ok text, is, (refl, refl))) s
shows_at Is (Err (Words why)) is s = absurd is
shows_at Is {left} (Err (Refused why)) is s = reach left (inr (Err why, is, (refl, refl))) s
shows_at Is (Err (Fault object count)) is s = absurd is
shows_at Is {left} (Err NoMemory) is s = inr (reach left (inl (refl, refl)) s)

pub shows : (Is : Result (List ℕ) Refusal → Type 0) (a : Environment) (result : Result (List ℕ) Stop)
    → Yields Is result → Does (show Is) a a (shown_as result)
shows Is a result is =
    record {
      home = home_refl a;
      ends = λ left s. shows_at Is {left = left} {a = a} result is s;
    }

abbrev pub by_point : {A : Type 0} → Result A Refusal → Point A
by_point (Ok x) = gives x
by_point (Err why) = refuses why

pub by_goes : {A : Type 0} (r : Result A Refusal) (left : StepState)
    → RunTo (by_point r) left (by_result r) left
by_goes (Ok x) left = (refl, refl)
by_goes (Err why) left = (refl, refl)

pub given : {A : Type 0} (x : A) (a : Environment) → Does (give x) a a (Ok x)
given x a = record { home = home_refl a; ends = λ left s. reach left (refl, refl) s }

-- ---- the input

module _ (limit : ℕ) (long : Refusal) (old new : Option (List ℕ)) (before count : ℕ)
    (a : Environment) where
  taken : {left : StepState} → IsStateOf left (with_told_input old before a)
      → IsStateOf (with_input new left) (with_told_input new count a)
  taken s = record {
    file = s.file;
    tapes = s.tapes;
    links = s.links;
    input = Keeps-refl new;
    dice = s.dice;
    asked = s.asked;
    heard = s.heard;
    said = s.said;
  }

  takes_some : {left : StepState} → IsStateOf left (with_told_input old before a)
      → TakesAtMost old new limit
      → StepsEndAt (take_input limit long give) left (with_told_input new count a) (awaits reading)
  takes_some {left} s (bytes, c, short) = reach (with_input new left)
      (bytes, new, consumes_by bytes _ _ _ s.input c, inl (short, (refl, refl))) (taken s)

  takes_at : {left : StepState} (result : Result (List ℕ) Stop)
      → IsStateOf left (with_told_input old before a)
      → TakesInput limit long old new before count result
      → Ends (take_input limit long give) left (with_told_input old before a)
      (with_told_input new count a) result
  takes_at {left} (Ok bytes) s t = reach (with_input new left)
      (bytes, new, consumes_by bytes _ _ _ s.input t.0, inr (inr (t.2, t.1, (refl, refl))))
      (taken s)
  takes_at (Err (Words why)) s t = t
  takes_at {left} (Err (Refused why)) s (w, (bytes, c, more)) = reach (with_input new left)
      (bytes, new, consumes_by bytes _ _ _ s.input c, inr (inl (more, (ap refuses w, refl))))
      (taken s)
  takes_at (Err (Fault object n)) s (o, rose, is, some) =
      (reading, takes_some s some, (o, rose, is))
  takes_at (Err NoMemory) s some = inl (reading, tt, takes_some s some)

  takes : (result : Result (List ℕ) Stop) → TakesInput limit long old new before count result
      → before ≤ count
      → Does (take_input limit long give) (with_told_input old before a)
      (with_told_input new count a) result
  takes result t later = record {
    home = record {
      files = files_same a.world;
      dice = home_same refl;
      tapes = home_same refl;
      links = home_same refl;
      input = later;
    };
    ends = λ left s. takes_at result s t;
  }

pub takes_in : {old new : Option (List ℕ)} {before count : ℕ} {direction : Direction}
    (wanted : Direction) (result : Result (List ℕ) Stop) (a : Environment) → direction ≡ wanted
    → TakesInput (input_limit wanted) (long_input wanted) old new before count result
    → before ≤ count
    → Does (input_of direction) (with_told_input old before a) (with_told_input new count a) result
takes_in {old} {new} {before} {count} wanted result a is t later =
    subst (λ d. Does (input_of d) (with_told_input old before a) (with_told_input new count a)
    result) (sym is)
    (takes (input_limit wanted) (long_input wanted) old new before count a result t later)

-- ---- the world

-- a call that was made, whatever came of it
pub asked_for : {T : Type 0} {new : Option (List WorldCall)} (old : Option (List WorldCall)) (call : WorldCall)
    (result : Result T Stop) → new ≡ with_call call old → AskedFor old new call result
asked_for old call (Err NoMemory) e = inr e
asked_for old call other e = e

module _ {old new : Outside} (files : KeepsFiles old new) (objects : KeepsObjects old new)
    (a : Environment) where
  pub asked_home : IsHome (with_world old a) (with_world new a)
  asked_home = record {
    files = files;
    dice = home_same objects.dice;
    tapes = home_same objects.tapes;
    links = home_same objects.links;
    input = omega arith;
  }

  stays_asked : {left : StepState} (asked : Option (List WorldCall)) → IsStateOf left (with_world old a)
      → new.asked ≡ asked → IsStateOf (record left { asked = asked }) (with_world new a)
  stays_asked {left} asked s made = record {
    file = files.file ∙ s.file;
    tapes = ap (λ o. o.told) objects.tapes ∙ s.tapes;
    links = ap (λ o. o.told) objects.links ∙ s.links;
    input = s.input;
    dice = λ seat. subst (λ d. Keeps (left.dice seat) (d.told seat)) (sym objects.dice)
        (s.dice seat);
    asked = made;
    heard = s.heard;
    said = s.said;
  }

  pub stays_noted : {left : StepState} (call : WorldCall) → IsStateOf left (with_world old a)
      → new.asked ≡ with_call call old.asked → IsStateOf (with_asked call left) (with_world new a)
  stays_noted call s made = stays_asked _ s (made ∙ ap (with_call call) s.asked)

  -- memory lacked before the call
  pub unasked : {A : Type 0} {next : Steps A} {left : StepState} → IsStateOf left (with_world old a)
      → new.asked ≡ old.asked → RunTo amid left next left
      → StepsEndAt next left (with_world new a) amid
  unasked {left = left} s made goes = reach left goes (stays_asked left.asked s (made ∙ s.asked))

  -- what was read of a file
  passes : {name : List ℕ} {left : StepState} (read : Entries) → IsStateOf left (with_world old a)
      → IsFileRead old name read → new.asked ≡ with_call (File name) old.asked
      → StepsEndAt (configuration name) left (with_world new a) (by_point read)
  passes {name = name} {left} read s (file, agrees, is) made =
      let now : StepState = with_asked (File name) left in
      reach now (inr (inr (
        file,
        subst (λ t. Agrees (t name) file) s.file agrees,
        inr (read, is, by_goes read now),
      )))
      (stays_noted (File name) s made)

  not_loaded : (name : List ℕ) {left : StepState} → IsStateOf left (with_world old a)
      → new.asked ≡ with_call (File name) old.asked
      → StepsEndAt (configuration name) left (with_world new a) (awaits (loading name))
  not_loaded name {left} s made =
      reach (with_asked (File name) left) (inr (inl (refl, refl))) (stays_noted (File name) s made)

  configures_at : (name : List ℕ) {left : StepState} (result : Result Settings Stop)
      → IsStateOf left (with_world old a) → Configures old new name result
      → AskedFor old.asked new.asked (File name) result
      → Ends (configuration name) left (with_world old a) (with_world new a) (rows_in result)
  configures_at name (Ok settings) s c q = passes _ s c q
  configures_at name (Err (Words why)) s c q = c
  configures_at name (Err (Refused why)) s c q = passes (Err why) s c q
  configures_at name (Err (Fault object count)) s c q = (loading name, not_loaded name s q, c)
  configures_at name (Err NoMemory) s c (inl q) = inr (unasked s q (inl (refl, refl)))
  configures_at name (Err NoMemory) s c (inr q) = inl (loading name, tt, not_loaded name s q)

  pub configures : (name : List ℕ) (result : Result Settings Stop)
      → Configures old new name result → AskedFor old.asked new.asked (File name) result
      → Does (configuration name) (with_world old a) (with_world new a) (rows_in result)
  configures name result c q =
      record { home = asked_home; ends = λ left s. configures_at name result s c q }

  -- what was asked for wasn't handed out
  module _ (asked : WorldCall) {A : Type 0} (step : Steps A) (call : Call)
      (object_is : object_of call ≡ Files) (may : MayLack call)
      (faults_are : (b : Environment) → count_at call b ≡ file_faults b.world)
      (awaited : (left : StepState) → RunTo (awaits call) (with_asked asked left) step left)
      (lacked : (left : StepState) → RunTo amid left step left) where
    not_lent_at : {left : StepState} → IsStateOf left (with_world old a)
        → new.asked ≡ with_call asked old.asked
        → StepsEndAt step left (with_world new a) (awaits call)
    not_lent_at {left} s made =
        reach (with_asked asked left) (awaited left) (stays_noted asked s made)

    not_lent : (stop : Stop)
        → LendsNothing (faults_at call (with_world old a)) (faults_at call (with_world new a))
        (file_faults new) stop
        → AskedUnless old.asked new.asked asked stop
        → Does step (with_world old a) (with_world new a) (Err stop)
    not_lent (Fault object count) n q = record {
      home = asked_home;
      ends = λ left s. (
        call,
        not_lent_at s q,
        (n.0 ∙ sym object_is, n.1, n.2 ∙ sym (faults_are (with_world new a))),
      );
    }
    not_lent NoMemory n (inl q) =
        record { home = asked_home; ends = λ left s. inr (unasked s q (lacked left)) }
    not_lent NoMemory n (inr q) =
        record { home = asked_home; ends = λ left s. inl (call, may, not_lent_at s q) }
    not_lent other n q = absurd n

  pub not_opened : (seat : ℕ) {A : Type 0} {next : Steps A} (stop : Stop)
      → LendsNothing old.faults.dice new.faults.dice (file_faults new) stop
      → AskedUnless old.asked new.asked (RandomSource seat) stop
      → Does (borrow_dice seat next) (with_world old a) (with_world new a) (Err stop)
  not_opened seat {next = next} stop n q = not_lent (RandomSource seat) (borrow_dice seat next)
      (opening seat) refl tt (λ b. refl) (λ left. inr (inl (refl, refl))) (λ left. inl (refl, refl))
      stop n q

  pub not_linked : (seat : ℕ) (plugin program : List ℕ) {A : Type 0} {next : Steps A} (stop : Stop)
      → LendsNothing old.faults.links new.faults.links (file_faults new) stop
      → AskedUnless old.asked new.asked (Link seat plugin program) stop
      → Does (borrow_link seat plugin program next) (with_world old a) (with_world new a)
      (Err stop)
  not_linked seat plugin program {next = next} stop n q =
      not_lent (Link seat plugin program) (borrow_link seat plugin program next)
      (linking seat plugin) refl tt (λ b. refl) (λ left. inr (inl (refl, refl)))
      (λ left. inl (refl, refl)) stop n q

-- ---- what is borrowed, and comes back

-- the world after this call, in which what is out is seen as if it were at home: it is as it was
pub record IsSeen (call : WorldCall) (old new : Outside) : Type 0 where
  pub files : KeepsFiles old new
  pub asked : new.asked ≡ with_call call old.asked
  pub dice : AreSeen old.dice new.dice
  pub tapes : AreSeen old.tapes new.tapes
  pub links : AreSeen old.links new.links

pub seen_home : {call : WorldCall} {old new : Outside} → IsSeen call old new → (a : Environment)
    → IsHome (with_world old a) (with_world new a)
seen_home seen a = record {
  files = seen.files;
  dice = seen.dice.home;
  tapes = seen.tapes.home;
  links = seen.links.home;
  input = omega arith;
}

pub seen_stays : {call : WorldCall} {old new : Outside} → IsSeen call old new → (a : Environment)
    → (l : StepState) → IsStateOf l (with_world old a) → IsStateOf (with_asked call l) (with_world new a)
seen_stays {call} seen a l s = record {
  file = seen.files.file ∙ s.file;
  tapes = seen.tapes.told ∙ s.tapes;
  links = seen.links.told ∙ s.links;
  input = s.input;
  dice = λ seat. subst (λ told. Keeps (l.dice seat) (told seat)) (sym seen.dice.told)
      (s.dice seat);
  asked = seen.asked ∙ ap (with_call call) s.asked;
  heard = s.heard;
  said = s.said;
}

module _ {call : WorldCall} {old new : Outside} (seen : IsSeen call old new) (a : Environment)
    {step : Steps (Unit {0})}
    (goes : (left : StepState) → RunTo (gives tt) (with_asked call left) step left) where
  pub borrowed : Does step (with_world old a) (with_world new a) (Ok tt)
  borrowed = record {
    home = seen_home seen a;
    ends = λ l s. reach (with_asked call l) (goes l) (seen_stays seen a l s);
  }

-- a world is another where each part is
pub one_world : {x y : Outside} → y.file ≡ x.file → y.faults ≡ x.faults → y.asked ≡ x.asked
    → x.dice ≡ y.dice → x.tapes ≡ y.tapes → x.links ≡ y.links → x ≡ y
one_world file faults asked dice tapes links = λ i. record {
  file = sym file i;
  asked = sym asked i;
  faults = sym faults i;
  dice = dice i;
  tapes = tapes i;
  links = links i;
}

-- ---- a random source

-- the world while a random source of the seat is out
abbrev pub dice_seen : ℕ → Option (List ℕ) → ℕ → Outside → Outside
dice_seen seat left count world =
    record world { dice = with_lent same_seat seat left count world.dice }

pub lent_dice : (seat : ℕ) {old out : Outside} {left : Option (List ℕ)} {count : ℕ}
    → DiceLoan seat old out left count → IsSeen (RandomSource seat) old (dice_seen seat left count out)
lent_dice seat h = record {
  files = record { file = h.files.file; later = h.files.later };
  asked = h.asked;
  dice = lent_seen same_seat seats_decide h.out h.left_is;
  tapes = seen_same h.tapes;
  links = seen_same h.links;
}

pub dice_back : (seat : ℕ) {out new : Outside} {left : Option (List ℕ)} {count : ℕ}
    → DiceReturn seat out new left count → dice_seen seat left count out ≡ new
dice_back seat h =
    one_world h.file h.faults h.asked (back_is same_seat seats_decide h.home h.left_is) (sym h.tapes) (sym h.links)

-- it is borrowed for what follows, and comes back
pub lends_to : (seat : ℕ) {old out mid new : Outside} {given back : Option (List ℕ)}
    {first count : ℕ} (a b : Environment) {B : Type 0} {next : Steps B} {result : Result B Stop}
    → DiceLoan seat old out given first → DiceReturn seat mid new back count
    → Does next (with_lent_dice seat given first (with_world out a))
    (with_lent_dice seat back count (with_world mid b)) result
    → Does (borrow_dice seat next) (with_world old a) (with_world new b) result
lends_to seat {old} a b {next = next} {result} lent returned works =
    subst (λ w. Does (borrow_dice seat next) (with_world old a) (with_world w b) result)
    (dice_back seat returned)
    (goes_on (borrow_dice seat nothing) (λ u. next) tt
    (borrowed (lent_dice seat lent) a (λ l. inr (inr (refl, refl)))) works)
