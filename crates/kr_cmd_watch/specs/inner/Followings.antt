-- What a watch is handed of a fleet, and what is printed of it.
use Rattle.std.specs.Prelude.{◌≡◌, ℕ, ◌<◌, ◌≤◌, ◌⊎◌, List, [], length, map, Option, None, Some}
use Rattle.kr_rollout.specs.Histories.{IsLegal}
use Rattle.kr_rollout.specs.declared.line.Line.{Line}
use Rattle.kr_rollout.specs.declared.opening.Entry.{Entry}
use Rattle.kr_rollout.specs.declared.opening.Opening.{Opening}
use Rattle.kr_watch.specs.Changes.{changes_above}
use Rattle.kr_watch.specs.Laws.{AreLiveItems, PutsAll}
use Rattle.kr_watch.specs.Shown.{AreInOrder}
use Rattle.kr_watch.specs.Watches.{WatchState, new_watch, newest_of}
use Rattle.kr_watch.specs.declared.item.Item.{Item}
use Rattle.kr_workers.specs.declared.ending.Ending.{Ending}
use Rattle.kr_cmd_messages.specs.declared.watch_words.WatchWords.{WatchWords}
use Rattle.kr_cmd_watch.specs.WatchTexts.{ShowsPages, ahead_text, changes_text, gone_text}
use Rattle.kr_cmd_watch.specs.Watchings.{keep, refused_at_least}

-- these are the items of the opening's live rows and the lines of a legal history
pub record AreOf (items : List Item) (revision : ℕ) (lines : List Line) (o : Opening)
    (history : List Entry) : Type 0 where
  pub legal : IsLegal o history
  pub lines_are : lines ≡ map (λ (e : Entry). e.line) history
  pub revision_is : revision ≡ length o.rows
  pub live : AreLiveItems o items

-- of some opening and history
abbrev pub AreOfOne : List Item → (revision : ℕ) → List Line → Type 0
AreOfOne items revision lines =
    (o : Opening) × (history : List Entry) × AreOf items revision lines o history

-- the changes that a watch has since a revision, as a text, and how the call ends
abbrev pub ShowsSince : (revision : ℕ) → WatchState → Ending → (text : List ℕ) → Ending → Type 0
ShowsSince revision watch ended text told =
    ((revision < watch.oldest) × (text ≡ gone_text watch.oldest)
    × (told ≡ refused_at_least ended))
    ⊎ ((newest_of watch < revision) × (text ≡ ahead_text (newest_of watch))
    × (told ≡ refused_at_least ended))
    ⊎ ((watch.oldest ≤ revision) × (revision ≤ newest_of watch)
    × (text ≡ changes_text (changes_above revision watch.changes)) × (told ≡ ended))

-- what a watch gives as a text, and how the call ends
abbrev pub ShowsState : Option ℕ → WatchWords → WatchState → Ending → (text : List ℕ) → Ending
    → Type 0
ShowsState None words watch ended text told =
    ShowsPages words.resource words.limit watch.items text × (told ≡ ended)
ShowsState (Some revision) words watch ended text told = ShowsSince revision watch ended text told

abbrev pub Entries : Type 0
Entries = List Entry

-- a new watch to which these items were handed, each behind the one before it
pub record IsSeeded (items : List Item) (revision : ℕ) (watch : WatchState) : Type 0 where
  pub puts : PutsAll [] items watch.items
  pub in_order : AreInOrder watch.items
  pub rest : watch ≡ record (new_watch keep revision) { items = watch.items }

-- just this text, and just this end
abbrev pub IsText : (own : List ℕ) → Ending → (text : List ℕ) → Ending → Type 0
IsText own ended text told = (text ≡ own) × (told ≡ ended)
