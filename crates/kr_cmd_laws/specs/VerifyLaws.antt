-- What `verify` tells of a store, by what `get` and `rewrite` do with it.
use Rattle.std.specs.Prelude.{All, ◌≡◌, ℕ, ◌≤◌, false, List, [], ◌∷◌, Contains, Option, Some, IsSome, Ok, length, ⊤}
use Rattle.kr_kms.specs.Exchanges.{AgreeAll, Exchange}
use Rattle.kr_kms.specs.Opens.{Opens}
use Rattle.kr_cmd_messages.specs.declared.command.Command.{Command}
use Rattle.kr_cmd_steps.specs.Telling.{MayEnd}
use Rattle.std.specs.Io.KnownBytes.{Appends}
use Rattle.kr_base.specs.Limits.{data_limit}
use Rattle.kr_base.specs.Told.{Agrees}
use Rattle.kr_config.specs.Kept.{ConfigEntry}
use Rattle.kr_config.specs.Lists.{list_of}
use Rattle.kr_config.specs.declared.who.Who.{Who}
use Rattle.kr_config.specs.declared.who.Who.TheVariants.{Identity}
use Rattle.kr_envelope.specs.Prefixes.{is_marked}
use Rattle.kr_provider.specs.Readers.{writer_of}
use Rattle.kr_store.specs.declared.rows.Row as stored
use Rattle.kr_store.specs.Stores.{IsListing}
use Rattle.kr_cmd_messages.specs.Command.{Asks}
use Rattle.kr_cmd_messages.specs.Message.{status_of_done}
use Rattle.kr_cmd_messages.specs.Receipts.{Receipt}
use Rattle.kr_cmd_messages.specs.Reports.{report_outcome}
use Rattle.kr_cmd_messages.specs.declared.command.Command.TheVariants.{Get, Rewrite, Verify}
use Rattle.kr_cmd_messages.specs.declared.command.Lookup.{Lookup}
use Rattle.kr_cmd_messages.specs.declared.command.Rewriting.{Rewriting}
use Rattle.kr_cmd_messages.specs.declared.command.Verification.{Verification}
use Rattle.kr_cmd_messages.specs.declared.refusal.Done.TheVariants as done
use Rattle.kr_cmd_messages.specs.declared.refusal.Outcome.{Outcome}
use Rattle.kr_cmd_messages.specs.declared.refusal.Refusal.TheVariants.{Value}
use Rattle.kr_cmd_messages.specs.declared.report.RewriteCounts.{RewriteCounts}
use Rattle.kr_cmd_steps.specs.Environment.{Environment}
use Rattle.kr_cmd_steps.specs.Configuration.{IsConfiguration}
use Rattle.kr_cmd_steps.specs.Ran.{GivesWith}
use Rattle.kr_cmd_steps.specs.RowFindings.{findings_outcome}
use Rattle.kr_cmd_steps.specs.Steps.{Point, gives, refuses}
use Rattle.kr_cmd_steps.specs.StoreFiles.{Stored, IsStored}
use Rattle.kr_cmd_steps.specs.declared.finding.Finding.{Finding}
use Rattle.kr_cmd_steps.specs.declared.finding.Finding.TheVariants.{Fresh, Stale, Refused}

-- the words of `get` and of `rewrite` with the same configuration, store and programs
abbrev pub lookup_as : Verification → (path : List ℕ) → Lookup
lookup_as words path = record {
  config = words.config;
  store = words.store;
  path = path;
  options = words.options;
}

abbrev pub rewriting_as : Verification → Rewriting
rewriting_as words = record {
  config = words.config;
  store = words.store;
  options = words.options;
}

-- these are the live rows of the store
pub record AreLive (words : Verification) (old : Environment) (live : List stored.Row)
    : Type 0 where
  pub bytes : List ℕ
  pub store : Stored
  pub held : Agrees (old.world.tapes.told words.store) (Some bytes)
  pub read : IsStored bytes (Ok store)
  pub listing : IsListing store.rows live

-- ---- what plugins answer

-- no plugin was asked before, and what they are asked is told
abbrev pub listening : Environment → Environment
listening a = record a { heard = Some [] }

-- the steps of a command over the told files, tapes and input, some drawn bytes, and plugins whose
-- exchanges are such, come to this point
abbrev pub WouldComeWhere : (Are : List Exchange → Type 0) → Command → Environment → Point Outcome
    → Type 0
WouldComeWhere Are command old point = (own : List Exchange) × Are own
    × MayEnd (Some own) command (listening old) point

-- ---- get

-- what a value is found to be is what `get` says: it gives data, fresh or stale, or refuses so
abbrev pub IsGot : Finding → Point Outcome → Type 0
IsGot Fresh point = (plain : List ℕ) × (point ≡ gives (record { bytes = plain; done = done.Fresh }))
IsGot Stale point = (plain : List ℕ) × (point ≡ gives (record { bytes = plain; done = done.Stale }))
IsGot (Refused why) point = point ≡ refuses (Value why)

-- from the same beginning, with plugins that answer as they did in these exchanges, `get` of the
-- row's path would come to that
abbrev pub WouldGet : Verification → Environment → List Exchange → stored.Row → Finding → Type 0
WouldGet words old exchanges row finding = (point : Point Outcome) × IsGot finding point
    × WouldComeWhere (All (Contains exchanges)) (Get (lookup_as words row.path)) old point

-- one by one
abbrev pub InPairs : {A B : Type 0} → (A → B → Type 0) → List A → List B → Type 0
InPairs P [] [] = ⊤
InPairs P (x ∷ xs) (y ∷ ys) = P x y × InPairs P xs ys
InPairs P xs ys = ⊥

-- each live row has a line, with what `get` of its path says
pub record IsVerified (words : Verification) (old : Environment) (exchanges : List Exchange)
    (made : Outcome) : Type 0 where
  pub live : List stored.Row
  pub findings : List Finding
  pub are_live : AreLive words old live
  pub made_is : made ≡ findings_outcome live findings
  pub got : InPairs (WouldGet words old exchanges) live findings

abbrev pub VerifyTellsGets : Type 0
VerifyTellsGets = (words : Verification) (old : Environment) (exchanges : List Exchange)
    (made : Outcome) → MayEnd (Some exchanges) (Verify words) (listening old) (gives made)
    → IsVerified words old exchanges made

-- a call of `verify` with these exchanges whose value was written wrote just that
abbrev pub VerifiedRuns : Type 0
VerifiedRuns = (words : List (List ℕ)) (asked : Verification) (old new : Environment)
    (exchanges : List Exchange) (output errors : Receipt) (status : ℕ) → Asks words (Verify asked)
    → GivesWith words (listening old) (record new { heard = Some exchanges }) output errors status
    → (made : Outcome) × IsVerified asked old exchanges made × (status_of_done made.done ≡ status)
    × Appends output.old output.new made.bytes

-- ---- rewrite

-- data that a provider seals: within their limit, and such that a value of identity isn't read as
-- one of another provider
abbrev pub IsSealable : Who → (plain : List ℕ) → Type 0
IsSealable who plain = (length plain ≤ data_limit) × (who ≡ Identity → is_marked plain ≡ false)

-- what `get` gives of each live row, where plugins answer by these openings, is sealed by the
-- writer of its resource
abbrev pub AreSealable : Opens → Verification → Environment → Type 0
AreSealable opens words old = (file : Option (List ℕ)) (rows : List ConfigEntry)
    (live : List stored.Row)
    (row : stored.Row) (made : Outcome) → Agrees (old.world.file words.config) file
    → IsConfiguration words.config file (Ok rows) → AreLive words old live → Contains live row
    → WouldComeWhere (AgreeAll opens) (Get (lookup_as words row.path)) old (gives made)
    → IsSealable (writer_of (list_of rows row.resource)) made.bytes

-- a rewrite that comes to its end leaves no row as it is
abbrev pub LeavesNone : Point Outcome → Type 0
LeavesNone (gives made) =
    (counts : RewriteCounts) × (made ≡ report_outcome counts) × (counts.left ≡ 0)
LeavesNone point = ⊤

-- for any openings with which all agrees that plugins answer to the two: where `verify` would
-- refuse no value, a rewrite from the same beginning would leave none
abbrev pub RewriteLeavesNone : Type 0
RewriteLeavesNone = (words : Verification) (old : Environment) (made : Outcome)
    (point : Point Outcome) (opens : Opens) → IsSome (old.world.file words.config)
    → IsSome (old.world.tapes.told words.store) → AreSealable opens words old
    → WouldComeWhere (AgreeAll opens) (Verify words) old (gives made) → made.done ≡ done.Silent
    → WouldComeWhere (AgreeAll opens) (Rewrite (rewriting_as words)) old point → LeavesNone point
