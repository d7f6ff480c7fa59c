-- A plugin's loop: which lines it answered, what it wrote, and how it ended.
use Rattle.std.specs.Prelude.{◌≡◌, ◌≢◌, ℕ, ◌+◌, ◌<◌, ◌≤◌, ◌⊎◌, Bool, true, false, List, [], ◌∷◌, ◌++◌, All, length, take, Option}
use Rattle.std.specs.List.{flat_map}
use Rattle.std.specs.Io.KnownBytes.{Appends, Consumes, IsAtEnd}
use Rattle.kr_base.specs.Numbering.{next_number}
use Rattle.kr_keywrap.specs.Answer.{Plugin, answer}
use Rattle.kr_keywrap.specs.declared.serving.Served.{Served}
use Rattle.kr_keywrap.specs.declared.serving.Served.TheVariants.{Done, Failed, NoMemory, TooLong}

-- the most bytes of a line, without its LF
abbrev pub line_limit : ℕ
line_limit = 131072

-- the most lines
abbrev pub lines_limit : ℕ
lines_limit = 4294967295

-- no byte is an LF
abbrev pub HasNoBreak : List ℕ → Type 0
HasNoBreak bytes = All (λ byte. byte ≢ 0x0A) bytes

-- the lines, each with its LF
abbrev pub served_text : List (List ℕ) → List ℕ
served_text lines = flat_map (λ line. line ++ 0x0A ∷ []) lines

-- the answers of the lines, one after another
abbrev pub answers : Plugin → List (List ℕ) → List ℕ
answers plugin lines = flat_map (answer plugin) lines

-- bytes behind the last LF are a line where there are any
abbrev pub last_line : List ℕ → List (List ℕ)
last_line [] = []
last_line (byte ∷ bytes) = (byte ∷ bytes) ∷ []

-- lines that may be answered
pub record AreServedLines (lines : List (List ℕ)) : Type 0 where
  pub breaks : All HasNoBreak lines
  pub short : All (λ line. length line ≤ line_limit) lines
  pub few : length lines ≤ lines_limit

-- the bytes are a whole line: an LF stands behind them, or the source's end
abbrev pub IsWholeLine : List ℕ → Option (List ℕ) → Type 0
IsWholeLine behind left =
    ((rest : List ℕ) × (behind ≡ 0x0A ∷ rest)) ⊎ ((behind ≡ []) × IsAtEnd left)

-- nothing was taken behind the bytes, or an LF first
abbrev pub StopsThere : List ℕ → Type 0
StopsThere behind = ((rest : List ℕ) × (behind ≡ 0x0A ∷ rest)) ⊎ (behind ≡ [])

-- how it ends after the answers of the lines, where `next` and `behind` were taken behind them.
-- At the end the last line is answered too. It ends by a fault where the source's count rose, and
-- then each whole line that was taken is answered; or where the sink's count rose, and then a
-- prefix of the next line's answer may have been written. Otherwise no part of it was. So a line
-- that is too long is told before a fault behind it.
abbrev pub ServingEnds : Plugin → (lines : List (List ℕ)) → (next behind : List ℕ)
    → (left held_old held : Option (List ℕ)) → (source_rises sink_rises : Type 0)
    → Served → Type 0
ServingEnds plugin lines next behind left held_old held SourceRises SinkRises Done =
    (behind ≡ []) × IsAtEnd left × AreServedLines (lines ++ last_line next)
    × Appends held_old held (answers plugin (lines ++ last_line next))
ServingEnds plugin lines next behind left held_old held SourceRises SinkRises Failed =
    (length next ≤ line_limit)
    × ((SourceRises × (behind ≡ []) × Appends held_old held (answers plugin lines))
    ⊎ (SinkRises × IsWholeLine behind left
    × ((n : ℕ) × Appends held_old held (answers plugin lines ++ take n (answer plugin next)))))
ServingEnds plugin lines next behind left held_old held SourceRises SinkRises NoMemory =
    (length next ≤ line_limit) × StopsThere behind
    × Appends held_old held (answers plugin lines)
ServingEnds plugin lines next behind left held_old held SourceRises SinkRises TooLong =
    ((line_limit < length next)
    ⊎ ((length lines ≡ lines_limit) × (0 < length next + length behind)))
    × Appends held_old held (answers plugin lines)

-- what was taken of the source, in parts: the lines that were answered, with their LFs, the next
-- bytes without an LF, and what stands behind them
pub record Serves (plugin : Plugin) (left_old left held_old held : Option (List ℕ))
    (SourceRises SinkRises : Type 0) (served : Served) : Type 0 where
  pub lines : List (List ℕ)
  pub next : List ℕ
  pub behind : List ℕ
  pub took : Consumes left_old left (served_text lines ++ (next ++ behind))
  pub are_lines : AreServedLines lines
  pub unbroken : HasNoBreak next
  pub ends : ServingEnds plugin lines next behind left held_old held SourceRises SinkRises served

-- whether the source or the sink failed
abbrev pub serve_failed : Served → Bool
serve_failed Failed = true
serve_failed other = false

-- the counts of the source and of the sink behind it: one of them rose, by one, where it ended by a
-- fault, and none where it ended otherwise. So what failed isn't tried again, and no fault is told
-- as want of memory
abbrev pub CountsFaults : Served → (source_old source sink_old sink : ℕ) → Type 0
CountsFaults Failed source_old source sink_old sink =
    ((source ≡ next_number source_old) × (sink ≡ sink_old))
    ⊎ ((source ≡ source_old) × (sink ≡ next_number sink_old))
CountsFaults other source_old source sink_old sink = (source ≡ source_old) × (sink ≡ sink_old)

-- the exit status
abbrev pub status_of : Served → ℕ
status_of Done = 0
status_of Failed = 4
status_of NoMemory = 5
status_of TooLong = 6
