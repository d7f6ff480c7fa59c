-- The fleet's output: the lines of the journal, and what each worker told of its lines.
use Rattle.std.specs.Prelude.{ℕ, ◌+◌, Bool, true, false, List, [], ◌∷◌, ◌++◌, codes, decimal}
use Rattle.std.specs.Prelude.{slice_index_or}
use Rattle.base64.specs.Engines.{standard}
use Rattle.base64.specs.GeneralPurpose.{encode_of}
use Rattle.kr_base.specs.Visible.{visible}
use Rattle.kr_judge.specs.Texts.{verdict_text}
use Rattle.kr_kms.specs.declared.health.Field.{Field}
use Rattle.kr_kms.specs.declared.health.Field.TheVariants.{Version, Healthz, KeyId}
use Rattle.kr_provider.specs.Refusals.{number_of, name_of}
use Rattle.kr_rollout.specs.declared.line.Did.{Did}
use Rattle.kr_rollout.specs.declared.line.Did.TheVariants as did
use Rattle.kr_rollout.specs.declared.line.Gave.{Gave}
use Rattle.kr_rollout.specs.declared.line.Gave.TheVariants as gave
use Rattle.kr_rollout.specs.declared.line.Line.{Line}
use Rattle.kr_script.specs.declared.told.Told.{Told}
use Rattle.kr_script.specs.declared.told.Told.TheVariants as told
use Rattle.kr_script.specs.declared.told.WriteNo.{WriteNo}
use Rattle.kr_script.specs.declared.told.WriteNo.TheVariants as stop
use Rattle.kr_script.specs.Fleets.{Fleet, Worker}
use Rattle.kr_script.specs.Statements.{replica_name}

-- words with a space between
abbrev pub two : List ℕ → List ℕ → List ℕ
two a b = a ++ (codes " " ++ b)

abbrev pub three : List ℕ → List ℕ → List ℕ → List ℕ
three a b c = a ++ (codes " " ++ two b c)

abbrev pub four : List ℕ → List ℕ → List ℕ → List ℕ → List ℕ
four a b c d = a ++ (codes " " ++ three b c d)

-- ---- the journal

abbrev pub Replicas : Type 0
Replicas = List (List ℕ × List ℕ)

abbrev pub event_kind : Did → List ℕ
event_kind (did.Adopt replica) = codes "adopt"
event_kind (did.Fetch path) = codes "fetch"
event_kind (did.After path) = codes "after"
event_kind (did.Put path resource plain) = codes "put"
event_kind (did.Delete path) = codes "delete"
event_kind (did.Replace path revision) = codes "replace"
event_kind did.LetGo = codes "letgo"
event_kind (did.Reload replica published expect) = codes "reload"
event_kind (did.Join replica published) = codes "join"
event_kind (did.Leave replica) = codes "leave"

-- the path that an event is about, if it is about one
abbrev pub event_path : Did → List ℕ
event_path (did.Adopt replica) = []
event_path (did.Fetch path) = path
event_path (did.After path) = path
event_path (did.Put path resource plain) = path
event_path (did.Delete path) = path
event_path (did.Replace path revision) = path
event_path did.LetGo = []
event_path (did.Reload replica published expect) = []
event_path (did.Join replica published) = []
event_path (did.Leave replica) = []

-- an empty path is `-`
abbrev pub path_text : List ℕ → List ℕ
path_text [] = codes "-"
path_text (byte ∷ bytes) = byte ∷ bytes

-- the name of the replica that an event is about, if it is about one
abbrev pub event_replica : Replicas → Did → List ℕ
event_replica replicas (did.Adopt replica) = replica_name replicas replica
event_replica replicas (did.Fetch path) = []
event_replica replicas (did.After path) = []
event_replica replicas (did.Put path resource plain) = []
event_replica replicas (did.Delete path) = []
event_replica replicas (did.Replace path revision) = []
event_replica replicas did.LetGo = []
event_replica replicas (did.Reload replica published expect) = replica_name replicas replica
event_replica replicas (did.Join replica published) = replica_name replicas replica
event_replica replicas (did.Leave replica) = replica_name replicas replica

-- the path, and for a replace also the revision of the row that it replaced
abbrev pub did_object : Did → List ℕ
did_object (did.Adopt replica) = path_text []
did_object (did.Fetch path) = path_text path
did_object (did.After path) = path_text path
did_object (did.Put path resource plain) = path_text path
did_object (did.Delete path) = path_text path
did_object (did.Replace path revision) = two (path_text path) (decimal revision)
did_object did.LetGo = path_text []
did_object (did.Reload replica published expect) = path_text []
did_object (did.Join replica published) = path_text []
did_object (did.Leave replica) = path_text []

-- An event by its answer. A revision of 0 says that there was none.
abbrev pub event_text : Replicas → Did → Gave → List ℕ
event_text rs asked (gave.Adopted generation) =
    three (codes "adopt") (event_replica rs asked) (decimal generation)
event_text rs asked (gave.Found revision) =
    three (event_kind asked) (path_text (event_path asked)) (decimal revision)
event_text rs asked gave.Absent = three (event_kind asked) (path_text (event_path asked))
    (codes "0")
event_text rs asked (gave.Written revision) =
    three (event_kind asked) (did_object asked) (decimal revision)
event_text rs asked (gave.Changed revision) =
    three (codes "changed") (did_object asked) (decimal revision)
event_text rs asked gave.Released = codes "letgo"
event_text rs asked (gave.Reloaded generation) =
    three (codes "reload") (event_replica rs asked) (decimal generation)
event_text rs asked (gave.Joined generation) =
    three (codes "join") (event_replica rs asked) (decimal generation)
event_text rs asked (gave.Refused verdict) =
    three (codes "refused") (event_replica rs asked) (verdict_text verdict)
event_text rs asked (gave.Moved generation) =
    three (codes "moved") (event_replica rs asked) (decimal generation)
event_text rs asked (gave.Present generation) =
    three (codes "present") (event_replica rs asked) (decimal generation)
event_text rs asked (gave.Departed generation) =
    three (codes "leave") (event_replica rs asked) (decimal generation)
event_text rs asked (gave.Gone replica) =
    three (codes "gone") (event_kind asked) (replica_name rs replica)
event_text rs asked gave.StoreFailed =
    three (codes "failed") (event_kind asked) (path_text (event_path asked))
event_text rs asked (gave.StoreFull needed) =
    three (codes "full") (event_kind asked) (path_text (event_path asked))
event_text rs asked gave.Nothing = two (codes "nothing") (event_kind asked)

-- the name of the worker of a seat
abbrev pub seat_worker : List Worker → ℕ → List ℕ
seat_worker workers seat =
    (slice_index_or workers seat (record { name = []; replica = 0; lines = [] })).name

-- a line by its number, from 0, the worker and the event
abbrev pub journal_text : Fleet → ℕ → Line → List ℕ
journal_text fleet number line =
    three (decimal number) (seat_worker fleet.workers line.seat)
    (event_text fleet.replicas line.did line.gave)

abbrev pub journal_texts : Fleet → ℕ → List Line → List (List ℕ)
journal_texts fleet number [] = []
journal_texts fleet number (line ∷ lines) =
    journal_text fleet number line ∷ journal_texts fleet (number + 1) lines

-- ---- the replies

-- data in base64, or `-` where there are none
abbrev pub data_text : List ℕ → List ℕ
data_text [] = codes "-"
data_text (byte ∷ bytes) = encode_of standard (byte ∷ bytes)

abbrev pub field_text : Field → List ℕ
field_text Version = codes "version"
field_text Healthz = codes "healthz"
field_text KeyId = codes "key_id"

abbrev pub reply_text : Told → List ℕ
reply_text (told.Put revision) = two (codes "put") (decimal revision)
reply_text (told.Got revision plain) =
    three (codes "get") (decimal revision) (data_text plain)
reply_text (told.Deleted revision) = two (codes "delete") (decimal revision)
reply_text told.Absent = codes "absent"
reply_text (told.Rewritten rewritten fresh changed left) =
    two (codes "rewrite") (four (decimal rewritten) (decimal fresh) (decimal changed)
    (decimal left))
reply_text (told.Reloaded generation) = two (codes "reload") (decimal generation)
reply_text (told.Joined generation) = two (codes "join") (decimal generation)
reply_text (told.Present generation) = two (codes "present") (decimal generation)
reply_text (told.Left generation) = two (codes "leave") (decimal generation)
reply_text told.Gone = codes "gone"
reply_text (told.Refused verdict) = two (codes "refused") (verdict_text verdict)
reply_text (told.Refreshed generation) = two (codes "refresh") (decimal generation)
reply_text told.Unchanged = codes "refresh unchanged"
reply_text (told.Moved generation) = two (codes "refresh moved") (decimal generation)
reply_text (told.Value why) = three (codes "refused") (decimal (number_of why)) (name_of why)
reply_text (told.Unhealthy name field text) =
    four (codes "unhealthy") name (field_text field) (visible text)
reply_text (told.FaultPlugin name) = two (codes "fault plugin") name
reply_text (told.FaultDice seat) = two (codes "fault dice") (decimal seat)
reply_text told.FaultStore = codes "fault store"
reply_text told.Full = codes "full"
reply_text told.Memory = codes "memory"

-- a reply by its worker and the number of its line there, from 1
abbrev pub told_text : List ℕ → ℕ → Told → List ℕ
told_text worker number reply = three worker (decimal number) (reply_text reply)

abbrev pub told_texts : List ℕ → ℕ → List Told → List (List ℕ)
told_texts worker number [] = []
told_texts worker number (reply ∷ replies) =
    told_text worker number reply ∷ told_texts worker (number + 1) replies

-- what each worker told, a list with its spare room
abbrev pub Replies : Type 0
Replies = List (List Told × ℕ)

-- what the worker at this place told
abbrev pub told_at : Replies → ℕ → List Told
told_at replies place = (slice_index_or replies place ([], 0)).0

-- the replies of each worker from this place on, in the order of the file
abbrev pub all_texts : ℕ → Replies → List Worker → List (List ℕ)
all_texts place replies [] = []
all_texts place replies (worker ∷ workers) =
    told_texts worker.name 1 (told_at replies place) ++ all_texts (place + 1) replies workers

-- ---- the whole

-- texts, each ended by an LF
abbrev pub lines_text : List (List ℕ) → List ℕ
lines_text [] = []
lines_text (text ∷ texts) = text ++ (codes "\n" ++ lines_text texts)

abbrev pub output_texts : Fleet → List Line → Replies → List (List ℕ)
output_texts fleet journal replies =
    codes "journal" ∷ (journal_texts fleet 0 journal
    ++ (codes "replies" ∷ (all_texts 0 replies fleet.workers ++ codes "end" ∷ [])))

abbrev pub fleet_output : Fleet → List Line → Replies → List ℕ
fleet_output fleet journal replies = lines_text (output_texts fleet journal replies)

-- whether not all of it was written since the sink failed
abbrev pub write_failed : WriteNo → Bool
write_failed stop.Failed = true
write_failed stop.NoMemory = false
