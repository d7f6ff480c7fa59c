-- What a command asks of the outside, step by step, and how it goes on by what it saw: an
-- interaction tree, by the field's word.
use Rattle.std.specs.Prelude.{◌≡◌, ℕ, ◌+◌, ◌≤◌, ◌==◌, ◌⊎◌, Bool, true, false, List, [], ◌∷◌, ◌++◌, length, Option, None, Some, Result, Ok, Err, if◌then◌else◌}
use Rattle.std.specs.Io.KnownBytes.{Consumes, IsAtEnd}
use Rattle.std.specs.Option.{option_map}
use Rattle.kr_base.specs.Told.{Agrees}
use Rattle.kr_kms.specs.Outside.{with_call, same_name, makes}
use Rattle.kr_kms.specs.Exchanges.{Exchange, StatusCall, WrapCall, UnwrapCall}
use Rattle.kr_kms.specs.Limits.{IsWithinLimits}
use Rattle.kr_kms.specs.declared.plugin.KmsNo.{KmsNo}
use Rattle.kr_kms.specs.declared.plugin.KmsNo.TheVariants.{Failed}
use Rattle.kr_kms.specs.declared.plugin.Status.{Status}
use Rattle.kr_kms.specs.declared.plugin.Wrapped.{Wrapped}
use Rattle.kr_kms.specs.declared.seeds.SeedKey.{SeedKey}
use Rattle.kr_kms.specs.declared.world.WorldCall.{WorldCall}
use Rattle.kr_kms.specs.declared.world.WorldCall.TheVariants.{File, Tape, RandomSource, Link, Settled, Returned}
use Rattle.kr_kms.specs.declared.world.Access.{Access}
use Rattle.kr_store.specs.declared.rows.LogRow.{LogRow}
use Rattle.kr_cmd_steps.specs.StoreFiles.{Stored, with_row, HoldsRows, BeginsWith}
use Rattle.kr_cmd_messages.specs.declared.refusal.Object.{Object}
use Rattle.kr_cmd_messages.specs.declared.refusal.Object.TheVariants.{Input, Files, Dice, Plugin}
use Rattle.kr_cmd_messages.specs.declared.refusal.Refusal.{Refusal}

-- steps that give an A
pub data Steps (A : Type 0) : Type 1 where
  -- a file by its name: absent, or its bytes
  load : List ℕ → (Option (List ℕ) → Steps A) → Steps A
  -- the whole input of at most so many bytes; more are refused so
  take_input : ℕ → Refusal → (List ℕ → Steps A) → Steps A
  -- the random source of a seat
  borrow_dice : ℕ → Steps A → Steps A
  -- the tape of a name, which is asked for so; one that is absent and isn't made is refused so
  borrow_tape : (name : List ℕ) (access : Access) → Refusal → Steps A → Steps A
  -- all bytes of a tape that is lent; a fault's line names the object
  read_tape : Object → (name : List ℕ) → (List ℕ → Steps A) → Steps A
  -- a row behind the rows of a store, on a tape that is lent; a fault's line names the object
  write_row : Object → (name : List ℕ) → Stored → LogRow → Steps A → Steps A
  -- nothing is asked: where the tape that is lent tells its bytes, they are the file of these rows
  keep_rows : (name : List ℕ) → Stored → Steps A → Steps A
  -- all that the tape holds, which is lent, is on the device, and the world is told so where it
  -- comes back; a fault's line names the object
  settle : Object → (name : List ℕ) → Steps A → Steps A
  -- the tape that is lent comes back, and the world is told so before anything else is asked of it
  give_back : (name : List ℕ) → Steps A → Steps A
  -- so many bytes of the random source of a seat
  draw : (seat size : ℕ) → (List ℕ → Steps A) → Steps A
  -- the link of a seat to a plugin, which a program is
  borrow_link : (seat : ℕ) → (plugin program : List ℕ) → Steps A → Steps A
  -- the status of the plugin; this and the next two ask it once, and go on only with its answer
  ask_status : (seat : ℕ) → (plugin : List ℕ) → (Status → Steps A) → Steps A
  -- what the plugin makes of these bytes
  wrap : (seat : ℕ) → (plugin plain : List ℕ) → (Wrapped → Steps A) → Steps A
  -- what the plugin unwraps a source to
  unwrap : (seat : ℕ) → SeedKey → (List ℕ → Steps A) → Steps A
  -- nothing is asked: where a later step ends the command, this is written in place of a value
  note : List ℕ → Steps A → Steps A
  -- nothing is asked: a thing of which this holds, where there is memory for it
  find : (B : Type 0) → (B → Type 0) → (B → Steps A) → Steps A
  refuse : Refusal → Steps A
  give : A → Steps A

-- what the first steps give, the others go on from
abbrev pub and_then : {A B : Type 0} → Steps A → (A → Steps B) → Steps B
and_then (load name next) others = load name (λ bytes. and_then (next bytes) others)
and_then (take_input limit long next) others =
    take_input limit long (λ bytes. and_then (next bytes) others)
and_then (borrow_dice seat next) others = borrow_dice seat (and_then next others)
and_then (borrow_tape name access absent next) others =
    borrow_tape name access absent (and_then next others)
and_then (read_tape object name next) others =
    read_tape object name (λ bytes. and_then (next bytes) others)
and_then (write_row object name store row next) others =
    write_row object name store row (and_then next others)
and_then (keep_rows name store next) others = keep_rows name store (and_then next others)
and_then (settle object name next) others = settle object name (and_then next others)
and_then (give_back name next) others = give_back name (and_then next others)
and_then (draw seat size next) others = draw seat size (λ bytes. and_then (next bytes) others)
and_then (borrow_link seat plugin program next) others =
    borrow_link seat plugin program (and_then next others)
and_then (ask_status seat plugin next) others =
    ask_status seat plugin (λ status. and_then (next status) others)
and_then (wrap seat plugin plain next) others =
    wrap seat plugin plain (λ wrapped. and_then (next wrapped) others)
and_then (unwrap seat key next) others =
    unwrap seat key (λ bytes. and_then (next bytes) others)
and_then (note text next) others = note text (and_then next others)
and_then (find B P next) others = find B P (λ b. and_then (next b) others)
and_then (refuse why) others = refuse why
and_then (give x) others = others x

-- the calls on the world, the input and what is lent; each kind has a count of faults
pub data Call : Type 0 where
  loading : (name : List ℕ) → Call
  reading : Call
  opening : (seat : ℕ) → Call
  lending : (name : List ℕ) → Call
  scanning : Object → (name : List ℕ) → Call
  writing : Object → (name : List ℕ) → Call
  settling : Object → (name : List ℕ) → Call
  drawing : (seat : ℕ) → Call
  linking : (seat : ℕ) → (plugin : List ℕ) → Call
  asking : (seat : ℕ) → (plugin : List ℕ) → Call

-- the object that a call is made on
abbrev pub object_of : Call → Object
object_of (loading name) = Files
object_of reading = Input
object_of (opening seat) = Files
object_of (lending name) = Files
object_of (scanning object name) = object
object_of (writing object name) = object
object_of (settling object name) = object
object_of (drawing seat) = Dice seat
object_of (linking seat plugin) = Files
object_of (asking seat plugin) = Plugin plugin

-- where steps may end: at a call that was made, between two of them, or at their last
pub data Point (A : Type 0) : Type 0 where
  awaits : Call → Point A
  amid : Point A
  refuses : Refusal → Point A
  gives : A → Point A

-- x at the number, what f says at each other
abbrev pub instead : {A : Type 0} → ℕ → A → (ℕ → A) → ℕ → A
instead number x f other = if number == other then x else f other

-- a tape that was absent and is made is empty
abbrev pub or_empty : Option (Option (List ℕ)) → Option (Option (List ℕ))
or_empty None = None
or_empty (Some None) = Some (Some [])
or_empty (Some (Some bytes)) = Some (Some bytes)

-- all tapes, where this one was borrowed
abbrev pub tapes_with : (make : Bool) (name : List ℕ) → (List ℕ → Option (Option (List ℕ)))
    → List ℕ → Option (Option (List ℕ))
tapes_with false name tapes = tapes
tapes_with true name tapes =
    λ other. if same_name name other then or_empty (tapes name) else tapes other

-- a tape is there, or may be made
abbrev pub MayBorrow : Option (Option (List ℕ)) → (make : Bool) → Type 0
MayBorrow tape make = tape ≡ Some None → make ≡ true

-- what stands between two steps: the files by their names and the statuses of links, which stay;
-- what the steps so far left of the tapes, of the input and of the random source of each seat, the
-- calls that they made on the world, and what they asked plugins and were answered, one exchange
-- behind another, all this where it is told; and what they said last
pub record StepState : Type 0 where
  pub file : List ℕ → Option (Option (List ℕ))
  pub tapes : List ℕ → Option (Option (List ℕ))
  pub links : ℕ × List ℕ → Option Status
  pub input : Option (List ℕ)
  pub dice : ℕ → Option (List ℕ)
  pub asked : Option (List WorldCall)
  pub heard : Option (List Exchange)
  pub said : List ℕ

abbrev pub with_input : Option (List ℕ) → StepState → StepState
with_input rest left = record left { input = rest }

abbrev pub with_dice : ℕ → Option (List ℕ) → StepState → StepState
with_dice seat rest left = record left { dice = instead seat rest left.dice }

abbrev pub with_tape : (make : Bool) (name : List ℕ) → StepState → StepState
with_tape make name left = record left { tapes = tapes_with make name left.tapes }

-- a tape that is lent tells this
abbrev pub with_told : (name : List ℕ) → Option (List ℕ) → StepState → StepState
with_told name told left = record left {
  tapes = λ other. if same_name name other then option_map Some told else left.tapes other;
}

abbrev pub with_asked : WorldCall → StepState → StepState
with_asked call left = record left { asked = with_call call left.asked }

-- these exchanges behind those that are told
abbrev pub hearing : List Exchange → Option (List Exchange) → Option (List Exchange)
hearing exchanges heard = option_map (λ before. before ++ exchanges) heard

abbrev pub with_heard : Exchange → StepState → StepState
with_heard exchange left = record left { heard = hearing (exchange ∷ []) left.heard }

abbrev pub with_said : List ℕ → StepState → StepState
with_said text left = record left { said = text }

-- from a state the steps run to this point, and leave that state at the end
module _ {A : Type 0} (point : Point A) (end : StepState) where
  abbrev pub IsAt : Point A → StepState → Type 0
  IsAt here left = (point ≡ here) × (end ≡ left)

  abbrev pub RunTo : Steps A → StepState → Type 0
  RunTo (load name next) left =
      IsAt amid left
      ⊎ IsAt (awaits (loading name)) (with_asked (File name) left)
      ⊎ ((bytes : Option (List ℕ)) × Agrees (left.file name) bytes
      × RunTo (next bytes) (with_asked (File name) left))
  RunTo (take_input limit long next) left =
      (bytes : List ℕ) × (rest : Option (List ℕ)) × Consumes left.input rest bytes × (
      ((length bytes ≤ limit) × IsAt (awaits reading) (with_input rest left))
      ⊎ ((length bytes ≡ limit + 1) × IsAt (refuses long) (with_input rest left))
      ⊎ ((length bytes ≤ limit) × IsAtEnd rest × RunTo (next bytes) (with_input rest left))
      )
  RunTo (borrow_dice seat next) left =
      IsAt amid left
      ⊎ IsAt (awaits (opening seat)) (with_asked (RandomSource seat) left)
      ⊎ RunTo next (with_asked (RandomSource seat) left)
  RunTo (borrow_tape name access absent next) left =
      IsAt amid left
      ⊎ IsAt (awaits (lending name)) (with_asked (Tape name access) left)
      ⊎ ((makes access ≡ false) × Agrees (left.tapes name) None
      × IsAt (refuses absent) (with_asked (Tape name access) left))
      ⊎ (MayBorrow (left.tapes name) (makes access)
      × RunTo next (with_tape (makes access) name (with_asked (Tape name access) left)))
  RunTo (read_tape object name next) left =
      IsAt (awaits (scanning object name)) left
      ⊎ ((bytes : List ℕ) × Agrees (left.tapes name) (Some bytes) × RunTo (next bytes) left)
  RunTo (write_row object name store row next) left =
      ((told : Option (List ℕ)) × BeginsWith store told
      × IsAt (awaits (writing object name)) (with_told name told left))
      ⊎ ((told : Option (List ℕ)) × HoldsRows (with_row row store) told
      × RunTo next (with_told name told left))
  RunTo (keep_rows name store next) left =
      (told : Option (List ℕ)) × HoldsRows store told × RunTo next (with_told name told left)
  RunTo (settle object name next) left =
      IsAt (awaits (settling object name)) left ⊎ RunTo next (with_asked (Settled name) left)
  RunTo (give_back name next) left = RunTo next (with_asked (Returned name) left)
  RunTo (draw seat size next) left =
      IsAt (awaits (drawing seat)) left
      ⊎ ((bytes : List ℕ) × (rest : Option (List ℕ)) × Consumes (left.dice seat) rest bytes
      × (length bytes ≡ size) × RunTo (next bytes) (with_dice seat rest left))
  RunTo (borrow_link seat plugin program next) left =
      IsAt amid left
      ⊎ IsAt (awaits (linking seat plugin)) (with_asked (Link seat plugin program) left)
      ⊎ RunTo next (with_asked (Link seat plugin program) left)
  RunTo (ask_status seat plugin next) left =
      IsAt amid left
      ⊎ ((answer : Result Status KmsNo) × IsAt amid (with_heard (StatusCall plugin answer) left))
      ⊎ IsAt (awaits (asking seat plugin)) (with_heard (StatusCall plugin (Err Failed)) left)
      ⊎ ((status : Status) × Agrees (left.links (seat, plugin)) status
      × RunTo (next status) (with_heard (StatusCall plugin (Ok status)) left))
  RunTo (wrap seat plugin plain next) left =
      IsAt amid left
      ⊎ ((answer : Result Wrapped KmsNo)
      × IsAt amid (with_heard (WrapCall plugin plain answer) left))
      ⊎ IsAt (awaits (asking seat plugin)) (with_heard (WrapCall plugin plain (Err Failed)) left)
      ⊎ ((wrapped : Wrapped) × IsWithinLimits wrapped
      × RunTo (next wrapped) (with_heard (WrapCall plugin plain (Ok wrapped)) left))
  RunTo (unwrap seat key next) left =
      IsAt amid left
      ⊎ ((answer : Result (List ℕ) KmsNo) × IsAt amid (with_heard (UnwrapCall key answer) left))
      ⊎ IsAt (awaits (asking seat key.name)) (with_heard (UnwrapCall key (Err Failed)) left)
      ⊎ ((bytes : List ℕ) × RunTo (next bytes) (with_heard (UnwrapCall key (Ok bytes)) left))
  RunTo (note text next) left = RunTo next (with_said text left)
  RunTo (find B P next) left = IsAt amid left ⊎ ((b : B) × P b × RunTo (next b) left)
  RunTo (refuse why) left = IsAt (refuses why) left
  RunTo (give x) left = IsAt (gives x) left
