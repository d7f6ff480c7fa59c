-- Lines among the bytes that were read and not answered yet.
use Rattle.std.specs.Prelude.{◌≡◌, ◌≢◌, ℕ, ◌+◌, ◌<◌, ◌≤◌, ◌⊎◌, List, [], ◌∷◌, ◌++◌, All, length, take, slice_index, Option, Some, None, Result, Ok, Err}
use Rattle.std.specs.Io.KnownBytes.{Appends, Consumes, IsAtEnd}
use Rattle.kr_keywrap.specs.Answer.{Plugin, answer}
use Rattle.kr_keywrap.specs.Serving.{CountsFaults, HasNoBreak, IsWholeLine, StopsThere, answers, last_line, line_limit, served_text}
use Rattle.kr_keywrap.specs.declared.serving.Next.{Next}
use Rattle.kr_keywrap.specs.declared.serving.Next.TheVariants.{Answered, Ended}
use Rattle.kr_keywrap.specs.declared.serving.Served.{Served}
use Rattle.kr_keywrap.specs.declared.serving.Served.TheVariants.{Done, Failed, NoMemory, TooLong}

-- bytes of the source were put behind those that were pending
pub record Grows (left_old left : Option (List ℕ)) (old new : List ℕ) : Type 0 where
  pub bytes : List ℕ
  pub took : Consumes left_old left bytes
  pub behind : new ≡ old ++ bytes

-- so many were; none only at the source's end
pub record GrowsBy (left_old left : Option (List ℕ)) (old new : List ℕ) (count : ℕ) : Type 0 where
  pub grows : Grows left_old left old new
  pub size : length new ≡ length old + count
  pub ends : count ≡ 0 → IsAtEnd left

-- no LF is among the first bytes, so many
abbrev pub IsUnbroken : List ℕ → ℕ → Type 0
IsUnbroken bytes count = (k : ℕ) → k < count → slice_index bytes k ≢ 0x0A

-- the first LF stands at the place
pub record IsBreak (pending : List ℕ) (place : ℕ) : Type 0 where
  pub within : place < length pending
  pub found : slice_index pending place ≡ 0x0A
  pub unbroken : IsUnbroken pending place

-- the first LF, or there is none
abbrev pub FindsBreak : List ℕ → Option ℕ → Type 0
FindsBreak pending None = IsUnbroken pending (length pending)
FindsBreak pending (Some place) = IsBreak pending place

-- where the next line's LF stands among what is pending; no place at the source's end; or why there
-- is no line
abbrev pub Finds : Option (List ℕ) → List ℕ → Type 0 → Result (Option ℕ) Served → Type 0
Finds left pending Rises (Ok (Some place)) = IsBreak pending place × (place ≤ line_limit)
Finds left pending Rises (Ok None) =
    IsAtEnd left × IsUnbroken pending (length pending) × (length pending ≤ line_limit)
Finds left pending Rises (Err Failed) =
    Rises × IsUnbroken pending (length pending) × (length pending ≤ line_limit)
Finds left pending Rises (Err TooLong) =
    IsUnbroken pending (length pending) × (line_limit < length pending)
Finds left pending Rises (Err Done) = ⊥
Finds left pending Rises (Err NoMemory) = ⊥

-- a line's answer was written, or a prefix of it before a fault, or none of it
abbrev pub WritesAnswer : Plugin → List ℕ → Option (List ℕ) → Option (List ℕ) → Type 0
    → Result (Unit {0}) Served → Type 0
WritesAnswer plugin line held_old held Rises (Ok done) = Appends held_old held (answer plugin line)
WritesAnswer plugin line held_old held Rises (Err Failed) =
    Rises × ((n : ℕ) × Appends held_old held (take n (answer plugin line)))
WritesAnswer plugin line held_old held Rises (Err NoMemory) = Appends held_old held []
WritesAnswer plugin line held_old held Rises (Err Done) = ⊥
WritesAnswer plugin line held_old held Rises (Err TooLong) = ⊥

-- the same of the bytes behind the last LF, which are a line where there are any
abbrev pub WritesLast : Plugin → List ℕ → Option (List ℕ) → Option (List ℕ) → Type 0
    → Result (Unit {0}) Served → Type 0
WritesLast plugin last held_old held Rises (Ok done) =
    Appends held_old held (answers plugin (last_line last))
WritesLast plugin last held_old held Rises (Err why) =
    WritesAnswer plugin last held_old held Rises (Err why)

-- ---- one line, of what was pending and taken: what stays behind it is pending

pub record ServesLine (plugin : Plugin) (held_old held : Option (List ℕ)) (all new : List ℕ)
    : Type 0 where
  pub line : List ℕ
  pub is : all ≡ (line ++ 0x0A ∷ []) ++ new
  pub unbroken : HasNoBreak line
  pub short : length line ≤ line_limit
  pub wrote : Appends held_old held (answer plugin line)

pub record ServesLast (plugin : Plugin) (left held_old held : Option (List ℕ)) (all : List ℕ)
    : Type 0 where
  pub ends : IsAtEnd left
  pub unbroken : HasNoBreak all
  pub short : length all ≤ line_limit
  pub wrote : Appends held_old held (answers plugin (last_line all))

-- the next bytes without an LF, no more than a line may have, and what stands behind them
pub record NextPart (all : List ℕ) : Type 0 where
  pub next : List ℕ
  pub behind : List ℕ
  pub is : all ≡ next ++ behind
  pub unbroken : HasNoBreak next
  pub short : length next ≤ line_limit

pub record Fails (plugin : Plugin) (left held_old held : Option (List ℕ)) (all : List ℕ)
    (SourceRises SinkRises : Type 0) : Type 0 where
  pub part : NextPart all
  pub wrote : (SourceRises × (part.behind ≡ []) × Appends held_old held [])
      ⊎ (SinkRises × IsWholeLine part.behind left
      × ((n : ℕ) × Appends held_old held (take n (answer plugin part.next))))

pub record Starves (held_old held : Option (List ℕ)) (all : List ℕ) : Type 0 where
  pub part : NextPart all
  pub stops : StopsThere part.behind
  pub wrote : Appends held_old held []

pub record Passes (held_old held : Option (List ℕ)) (all : List ℕ) : Type 0 where
  pub unbroken : HasNoBreak all
  pub long : line_limit < length all
  pub wrote : Appends held_old held []

-- a line was answered, or the source is at its end, or why not
abbrev pub ServesNext : Plugin → (left held_old held : Option (List ℕ)) → (all new : List ℕ)
    → (source_rises sink_rises : Type 0) → Result Next Served → Type 0
ServesNext plugin left held_old held all new SourceRises SinkRises (Ok Answered) =
    ServesLine plugin held_old held all new
ServesNext plugin left held_old held all new SourceRises SinkRises (Ok Ended) =
    ServesLast plugin left held_old held all
ServesNext plugin left held_old held all new SourceRises SinkRises (Err Failed) =
    Fails plugin left held_old held all SourceRises SinkRises
ServesNext plugin left held_old held all new SourceRises SinkRises (Err NoMemory) =
    Starves held_old held all
ServesNext plugin left held_old held all new SourceRises SinkRises (Err TooLong) =
    Passes held_old held all
ServesNext plugin left held_old held all new SourceRises SinkRises (Err Done) = ⊥

-- the counts behind it: none rose where it was answered
abbrev pub CountsNext : Result Next Served → (source_old source sink_old sink : ℕ) → Type 0
CountsNext (Ok next) source_old source sink_old sink = (source ≡ source_old) × (sink ≡ sink_old)
CountsNext (Err why) source_old source sink_old sink =
    CountsFaults why source_old source sink_old sink

-- the same with the bytes that were taken
pub record ServesOne (plugin : Plugin) (left_old left held_old held : Option (List ℕ))
    (old new : List ℕ) (SourceRises SinkRises : Type 0) (result : Result Next Served)
    : Type 0 where
  pub all : List ℕ
  pub grows : Grows left_old left old all
  pub serves : ServesNext plugin left held_old held all new SourceRises SinkRises result

-- so many lines were answered, and these bytes are pending
pub record HasServed (plugin : Plugin) (left_old left held_old held : Option (List ℕ))
    (pending : List ℕ) (count : ℕ) : Type 0 where
  pub lines : List (List ℕ)
  pub took : Consumes left_old left (served_text lines ++ pending)
  pub breaks : All HasNoBreak lines
  pub short : All (λ line. length line ≤ line_limit) lines
  pub size : length lines ≡ count
  pub wrote : Appends held_old held (answers plugin lines)
