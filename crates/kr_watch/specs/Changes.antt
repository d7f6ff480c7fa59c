-- The changes of a history: its written entries, in order.
use Rattle.std.specs.Prelude.{◌≡◌, ℕ, ◌+◌, ◌-◌, nat_lt, List, [], ◌∷◌, length, take, drop, filter, Option, None, Some, ⊤}
use Rattle.std.specs.List.{filter_map}
use Rattle.kr_rollout.specs.Written.{path_written}
use Rattle.kr_rollout.specs.declared.line.Did.{Did}
use Rattle.kr_rollout.specs.declared.line.Did.TheVariants.{Put, Delete}
use Rattle.kr_rollout.specs.declared.line.Gave.{Gave}
use Rattle.kr_rollout.specs.declared.line.Gave.TheVariants.{Written}
use Rattle.kr_rollout.specs.declared.opening.Entry.{Entry}
use Rattle.kr_watch.specs.declared.change.ObjectChange.{ObjectChange}
use Rattle.kr_watch.specs.declared.change.What.{What}
use Rattle.kr_watch.specs.declared.change.What.TheVariants as kind

abbrev pub change_kind : Did → What
change_kind (Put path resource plain) = kind.Put
change_kind (Delete path) = kind.Delete
change_kind did = kind.Replace

abbrev pub told_change : Gave → Did → Option ObjectChange
told_change (Written revision) did =
    Some (record { revision = revision; path = path_written did; what = change_kind did })
told_change gave did = None

abbrev pub changes_in : List Entry → List ObjectChange
changes_in history = filter_map (λ (e : Entry). told_change e.line.gave e.line.did) history

-- the last so many, and those before them
abbrev pub last_ones : {A : Type 0} → ℕ → List A → List A
last_ones keep xs = drop (length xs - keep) xs

abbrev pub earlier_ones : {A : Type 0} → ℕ → List A → List A
earlier_ones keep xs = take (length xs - keep) xs

-- the revision of the last change, or this one where there is none
abbrev pub revision_after : ℕ → List ObjectChange → ℕ
revision_after revision [] = revision
revision_after revision (change ∷ changes) = revision_after change.revision changes

-- those with a greater revision
abbrev pub changes_above : ℕ → List ObjectChange → List ObjectChange
changes_above revision changes =
    filter (λ (change : ObjectChange). nat_lt revision change.revision) changes

-- revisions go up by one, from this one on
abbrev pub FollowOn : ℕ → List ObjectChange → Type 0
FollowOn revision [] = ⊤
FollowOn revision (change ∷ changes) =
    (change.revision ≡ revision + 1) × FollowOn change.revision changes
