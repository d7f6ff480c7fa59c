-- How a fleet ended, by its replies.
use Rattle.std.specs.Prelude.{◌≡◌, ◌≢◌, ℕ, ◌==◌, Bool, true, false, if◌then◌else◌, List, [], ◌∷◌, Some}
use Rattle.std.specs.List.{list_any, slice_get}
use Rattle.kr_script.specs.declared.told.Told.{Told}
use Rattle.kr_script.specs.declared.told.Told.TheVariants as told
use Rattle.kr_workers.specs.declared.ending.Ending.{Ending}
use Rattle.kr_workers.specs.declared.ending.Ending.TheVariants as ending

-- what a reply is
abbrev pub reply_ending : Told → Ending
reply_ending (told.Put revision) = ending.Done
reply_ending (told.Got revision plain) = ending.Done
reply_ending (told.Deleted revision) = ending.Done
reply_ending told.Absent = ending.Refused
reply_ending (told.Rewritten rewritten fresh changed left) =
    if left == 0 then ending.Done else ending.Refused
reply_ending (told.Reloaded generation) = ending.Done
reply_ending (told.Joined generation) = ending.Done
reply_ending (told.Present generation) = ending.Refused
reply_ending (told.Left generation) = ending.Done
reply_ending told.Gone = ending.Refused
reply_ending (told.Refused verdict) = ending.Refused
reply_ending (told.Refreshed generation) = ending.Done
reply_ending told.Unchanged = ending.Done
reply_ending (told.Moved generation) = ending.Refused
reply_ending (told.Value why) = ending.Refused
reply_ending (told.Unhealthy name field text) = ending.Unhealthy
reply_ending (told.FaultPlugin name) = ending.Fault
reply_ending (told.FaultDice seat) = ending.Fault
reply_ending told.FaultStore = ending.Fault
reply_ending told.Full = ending.Full
reply_ending told.Memory = ending.Memory

abbrev pub is_same : Ending → Ending → Bool
is_same ending.Done ending.Done = true
is_same ending.Refused ending.Refused = true
is_same ending.Unhealthy ending.Unhealthy = true
is_same ending.Full ending.Full = true
is_same ending.Memory ending.Memory = true
is_same ending.Fault ending.Fault = true
is_same one other = false

-- some reply is that
abbrev pub some_is : Ending → List (List Told × ℕ) → Bool
some_is kind replies =
    list_any (λ told. list_any (λ reply. is_same (reply_ending reply) kind) told.0) replies

-- the first of these kinds that some reply is
abbrev pub first_ending : List Ending → List (List Told × ℕ) → Ending
first_ending [] replies = ending.Done
first_ending (kind ∷ kinds) replies = if some_is kind replies then kind else first_ending kinds
    replies

-- faults, then want of memory, a full store, an unhealthy plugin, a refusal
abbrev pub kinds : List Ending
kinds = ending.Fault ∷ (ending.Memory ∷ (ending.Full ∷ (ending.Unhealthy ∷ (ending.Refused ∷ []))))

abbrev pub gravest_ending : List (List Told × ℕ) → Ending
gravest_ending replies = first_ending kinds replies

-- the program's status
abbrev pub status_of : Ending → ℕ
status_of ending.Done = 0
status_of ending.Refused = 1
status_of ending.Unhealthy = 3
status_of ending.Fault = 4
status_of ending.Memory = 5
status_of ending.Full = 6

-- ---- what an ending tells

-- a worker's reply of this kind
pub record HasReplyOf (kind : Ending) (replies : List (List Told × ℕ)) : Type 0 where
  pub number : ℕ
  pub at : ℕ
  pub told : List Told × ℕ
  pub reply : Told
  pub told_is : slice_get replies number ≡ Some told
  pub reply_is : slice_get told.0 at ≡ Some reply
  pub kind_is : reply_ending reply ≡ kind

-- where not all was done, some reply is of the kind that the ending tells; where all was, no reply
-- is of another kind
pub record EndingsAreTold : Type 0 where
  pub some : (replies : List (List Told × ℕ)) → gravest_ending replies ≢ ending.Done
      → HasReplyOf (gravest_ending replies) replies
  pub none : (replies : List (List Told × ℕ)) → gravest_ending replies ≡ ending.Done
      → (kind : Ending) → kind ≢ ending.Done → HasReplyOf kind replies → ⊥
