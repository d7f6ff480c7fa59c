-- A command's environment, and how its steps end there.
use Rattle.std.specs.Prelude.{◌≡◌, ℕ, ◌-◌, ◌≤◌, ◌⊎◌, Bool, List, [], Option, None, Result, Ok, Err, if◌then◌else◌, ⊤}
use Rattle.std.specs.Io.KnownBytes.{Keeps}
use Rattle.kr_base.specs.Faults.{Rose}
use Rattle.kr_kms.specs.Outside.{Outside, Objects, KeepsFiles, file_faults, at_key}
use Rattle.kr_cmd_steps.specs.Steps.{Steps, Call, loading, reading, opening, lending, scanning, writing, settling, drawing, object_of, Point, awaits, amid, refuses, gives, StepState, RunTo, hearing, linking, asking}
use Rattle.kr_kms.specs.Exchanges.{Exchange}
use Rattle.kr_cmd_messages.specs.declared.refusal.Object.{Object}
use Rattle.kr_cmd_messages.specs.declared.refusal.Stop.{Stop}
use Rattle.kr_cmd_messages.specs.declared.refusal.Stop.TheVariants.{Words, Refused, Fault, NoMemory}

-- a command's environment: the world and the input, with what they tell and their counts of
-- faults; what is to be written in place of a value; and what plugins were asked so far and
-- answered, where that is told
pub record Environment : Type 0 where
  pub world : Outside
  pub input : Option (List ℕ)
  pub faults : ℕ
  pub said : List ℕ
  pub heard : Option (List Exchange)

-- what is asked of plugins isn't told
abbrev pub around : Outside → Option (List ℕ) → ℕ → Environment
around world input faults = record {
  world = world;
  input = input;
  faults = faults;
  said = [];
  heard = None;
}

-- ---- its parts

abbrev pub with_what_is_said : List ℕ → Environment → Environment
with_what_is_said said a = record a { said = said }

abbrev pub with_world : Outside → Environment → Environment
with_world world a = record a { world = world }

-- these exchanges behind those that are told
abbrev pub with_exchanges : List Exchange → Environment → Environment
with_exchanges exchanges a = record a { heard = hearing exchanges a.heard }

-- what plugins are asked isn't told
abbrev pub IsUnheard : Environment → Type 0
IsUnheard a = a.heard ≡ None

-- an object that is out, of which this is told, stands as if it were at home
abbrev pub with_lent : {K V : Type 0} → (same : K → K → Bool) → K → V → ℕ → Objects K V
    → Objects K V
with_lent same key told faults objects = record {
  told = λ other. if same key other then told else objects.told other;
  faults = λ other. if same key other then faults else objects.faults other;
  out = λ other. objects.out other - at_key same key 1 other;
  handed = objects.handed;
}

-- ---- faults

-- the faults of a kind of call
abbrev pub faults_at : Call → Environment → ℕ
faults_at (loading name) around = around.world.faults.loads
faults_at reading around = around.faults
faults_at (opening seat) around = around.world.faults.dice
faults_at (lending name) around = around.world.faults.tapes
faults_at (scanning object name) around = around.world.tapes.faults name
faults_at (writing object name) around = around.world.tapes.faults name
faults_at (settling object name) around = around.world.tapes.faults name
faults_at (drawing seat) around = around.world.dice.faults seat
faults_at (linking seat plugin) around = around.world.faults.links
faults_at (asking seat plugin) around = around.world.links.faults (seat, plugin)

-- the faults of its object
abbrev pub count_at : Call → Environment → ℕ
count_at (loading name) around = file_faults around.world
count_at reading around = around.faults
count_at (opening seat) around = file_faults around.world
count_at (lending name) around = file_faults around.world
count_at (scanning object name) around = around.world.tapes.faults name
count_at (writing object name) around = around.world.tapes.faults name
count_at (settling object name) around = around.world.tapes.faults name
count_at (drawing seat) around = around.world.dice.faults seat
count_at (linking seat plugin) around = file_faults around.world
count_at (asking seat plugin) around = around.world.links.faults (seat, plugin)

-- the call failed: its count rose, and the object's count is this
abbrev pub IsFault : Call → Object → ℕ → Environment → Environment → Type 0
IsFault call object count old new =
    (object ≡ object_of call) × Rose (faults_at call old) (faults_at call new)
    × (count ≡ count_at call new)

-- memory may lack at the call, but not at a write nor where it is settled, so that a row is written
-- whole or a fault tells
abbrev pub MayLack : Call → Type 0
MayLack (loading name) = ⊤
MayLack reading = ⊤
MayLack (opening seat) = ⊤
MayLack (lending name) = ⊤
MayLack (scanning object name) = ⊤
MayLack (writing object name) = ⊥
MayLack (settling object name) = ⊥
MayLack (drawing seat) = ⊤
MayLack (linking seat plugin) = ⊤
MayLack (asking seat plugin) = ⊤

-- ---- what steps did

-- the environment is as a state has it: nothing was consumed, said, or asked of the world or of
-- plugins but what the state tells
pub record IsStateOf (left : StepState) (new : Environment) : Type 0 where
  pub file : new.world.file ≡ left.file
  pub tapes : new.world.tapes.told ≡ left.tapes
  pub links : new.world.links.told ≡ left.links
  pub input : Keeps left.input new.input
  pub dice : (seat : ℕ) → Keeps (left.dice seat) (new.world.dice.told seat)
  pub asked : new.world.asked ≡ left.asked
  pub heard : new.heard ≡ left.heard
  pub said : new.said ≡ left.said

abbrev pub step_state : Environment → StepState
step_state around = record {
  file = around.world.file;
  tapes = around.world.tapes.told;
  links = around.world.links.told;
  input = around.input;
  dice = around.world.dice.told;
  asked = around.world.asked;
  heard = around.heard;
  said = around.said;
}

-- from a state the steps end at this point in this environment, and nothing was done but by them
pub record StepsEndAt {A : Type 0} (next : Steps A) (left : StepState) (new : Environment)
    (point : Point A) : Type 0 where
  pub end : StepState
  pub goes : RunTo point end next left
  pub stays : IsStateOf end new

-- what was handed out is back, and no count fell
pub record AreHome {K V : Type 0} (old new : Objects K V) : Type 0 where
  pub out : (key : K) → new.out key ≡ old.out key
  pub later : (key : K) → old.faults key ≤ new.faults key

-- the files are the same, all that was handed out is back, and no count fell
pub record IsHome (old new : Environment) : Type 0 where
  pub files : KeepsFiles old.world new.world
  pub dice : AreHome old.world.dice new.world.dice
  pub tapes : AreHome old.world.tapes new.world.tapes
  pub links : AreHome old.world.links new.world.links
  pub input : old.faults ≤ new.faults

-- how steps end: a fault stands only for the call that they come to, and want of memory for any
-- where it may lack, or between two
abbrev pub Ends : {A : Type 0} → Steps A → StepState → Environment → Environment → Result A Stop
    → Type 0
Ends next left old new (Ok x) = StepsEndAt next left new (gives x)
Ends next left old new (Err (Words why)) = ⊥
Ends next left old new (Err (Refused why)) = StepsEndAt next left new (refuses why)
Ends next left old new (Err (Fault object count)) =
    (call : Call) × StepsEndAt next left new (awaits call) × IsFault call object count old new
Ends next left old new (Err NoMemory) =
    ((call : Call) × MayLack call × StepsEndAt next left new (awaits call))
    ⊎ StepsEndAt next left new amid
