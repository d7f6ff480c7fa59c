-- What `list` writes of a store.
use Rattle.std.specs.Prelude.{◌≡◌, ℕ, List, [], ◌∷◌, ◌++◌, codes, decimal, Result, Ok}
use Rattle.kr_envelope.specs.Prefixes.{IsSplit}
use Rattle.kr_envelope.specs.declared.prefix.Tagged.{Tagged}
use Rattle.kr_envelope.specs.declared.prefix.Tagged.TheVariants.{Plain, Known, Strange}
use Rattle.kr_store.specs.declared.rows.LogRow.{LogRow}
use Rattle.kr_store.specs.declared.rows.Row.{Row}
use Rattle.kr_store.specs.Stores.{IsListing}
use Rattle.kr_cmd_steps.specs.Inspect.{kind_text}
use Rattle.kr_cmd_messages.specs.declared.refusal.Refusal.{Refusal}

-- a provider by its prefix alone
abbrev pub tag_text : Tagged → List ℕ
tag_text (Plain content) = codes "plain"
tag_text (Known kind name body) = kind_text kind ++ (codes ":" ++ name.now)
tag_text Strange = codes "strange"

-- what a stored value's prefix says of who wrote it
abbrev pub IsTag : (stored tag : List ℕ) → Type 0
IsTag stored tag = (tagged : Tagged) × IsSplit stored tagged × (tag ≡ tag_text tagged)

-- a word of a line behind others
abbrev pub spaced_word : List ℕ → List ℕ
spaced_word word = codes " " ++ word

-- `REVISION RESOURCE PATH TAG`
abbrev pub row_line : Row → (tag : List ℕ) → List ℕ
row_line row tag = decimal row.revision ++ (spaced_word row.resource ++ (spaced_word row.path
    ++ (spaced_word tag ++ codes "\n")))

-- a line for each row
abbrev pub AreLines : List Row → List ℕ → Type 0
AreLines [] text = text ≡ []
AreLines (row ∷ rows) text =
    (tag : List ℕ) × (rest : List ℕ) × IsTag row.stored tag × AreLines rows rest
    × (text ≡ row_line row tag ++ rest)

-- a line for each live row, by paths
abbrev pub ShowsRows : List LogRow → Result (List ℕ) Refusal → Type 0
ShowsRows rows shown =
    (listing : List Row) × (text : List ℕ) × IsListing rows listing × AreLines listing text
    × (shown ≡ Ok text)
