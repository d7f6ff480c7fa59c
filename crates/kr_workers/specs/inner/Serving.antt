-- What is asked of a worker's line and of its seat and bench, and what a line keeps.
use Rattle.std.specs.Prelude.{◌≡◌, ◌<◌, ◌≤◌, ◌+◌, ℕ, Bool, true, false, List, length, get_or, None, Option, Ok, Err, ⊤}
use Rattle.kr_base.specs.Walks.{Talk, Walk}
use Rattle.kr_kms.specs.Calls.{Link}
use Rattle.kr_kms.specs.Exchanges.{Exchange}
use Rattle.kr_provider.specs.AskedLinks.{Among, AskedOnly}
use Rattle.kr_provider.specs.BenchKeys.{adoption_of}
use Rattle.kr_provider.specs.BenchState.{Adoption, BenchState}
use Rattle.kr_provider.specs.KeyPages.{size_of}
use Rattle.kr_provider.specs.Names.{names_of}
use Rattle.kr_history.specs.Acting.{Caller}
use Rattle.kr_rollout.specs.Callers.{holding, reloads_in}
use Rattle.kr_history.specs.Calls.{AreServed}
use Rattle.kr_rollout.specs.declared.opening.Entry.{Entry}
use Rattle.kr_history.specs.KeyMoments.{Happens, call_moments}
use Rattle.kr_history.specs.Parts.{Adds, IsPartWithin}
use Rattle.kr_script.specs.declared.script.ScriptLine.{ScriptLine}
use Rattle.kr_script.specs.declared.script.ScriptLine.TheVariants as line
use Rattle.kr_workers.specs.declared.files.SettingsFile.{SettingsFile}
use Rattle.kr_workers.specs.Budgets.{brought_count, line_entries, puts_of}
use Rattle.kr_workers.specs.LineExchanges.{DoesBy}
use Rattle.kr_workers.specs.LineMoments.{adopts_published}
use Rattle.kr_workers.specs.Replies.{Reply}
use Rattle.kr_workers.specs.ScriptLines.{Does, MayDo, Workplace}

-- the seat and what the bench has
abbrev pub place_of : {L D : Type 0} → Caller → BenchState L D → Workplace L D
place_of c bench = record {
  caller = c;
  links = bench.links;
  dice = bench.dice;
  cache = bench.cache;
}

-- the line may be done, at a replica that there is; the seat holds nothing and may bring as many
-- more configurations; each plugin has a link, and the bench pages enough
pub record IsReadyFor {L D : Type 0} (link : L → Link) (files : List SettingsFile) (replica : ℕ)
    (asked : ScriptLine) (c : Caller) (bench : BenchState L D) : Type 0 where
  pub may : MayDo c.opening files asked
  pub there : replica < length c.opening.replicas
  pub idle : holding c.mine ≡ None
  pub room : reloads_in c.mine + brought_count asked ≤ get_or c.opening.reloads c.seat 0
  pub links : AreServed c.opening.names (names_of link bench.links)
  pub pages : 64 ≤ size_of bench.pages

-- the seat may add fewer lines than the line may need; of a rewrite nothing is said here
abbrev pub IsShortFor : ScriptLine → Caller → Type 0
IsShortFor (line.Put resource path plain) c = c.left < 3
IsShortFor (line.Get path) c = c.left < 3
IsShortFor (line.Delete path) c = c.left < 1
IsShortFor line.Rewrite c = ⊤
IsShortFor (line.Reload replica file) c = c.left < 1
IsShortFor line.Refresh c = c.left < 3
IsShortFor (line.Join replica file) c = c.left < 1
IsShortFor (line.Leave replica) c = c.left < 1

-- a line is cut short only there
abbrev pub EndsFor : ScriptLine → Caller → Reply → Type 0
EndsFor asked c (Ok reply) = ⊤
EndsFor asked c (Err spent) = IsShortFor asked c

-- what the line adds is within its bounds; of a rewrite no bound of its length is said here
abbrev pub AddsFor : ScriptLine → (old new : Caller) → Type 0
AddsFor asked old new = (part : List Entry) × Adds old part new
    × IsPartWithin (line_entries (length part) asked) (brought_count asked) (puts_of asked) part

-- the seat holds nothing afterwards, unless the line was cut short
abbrev pub IsIdleAt : Reply → Caller → Type 0
IsIdleAt (Ok reply) c = holding c.mine ≡ None
IsIdleAt (Err spent) c = ⊤

-- what its call does to the keys of the bench: all that happens where it takes up what it adopts,
-- or else nothing
abbrev pub MovesKeys : (takes : Bool) → (old : Caller) → (before : Adoption) → (new : Caller)
    → (after : Adoption) → Type 0
MovesKeys true old before new after = Walk Happens before (call_moments old new) after
MovesKeys false old before new after = after ≡ before

-- what a line does and keeps
pub record Serves {L D : Type 0} (link : L → Link)
    (step : L → Exchange → L → Type 0) (left : D → Option (List ℕ)) (count : D → ℕ)
    (files : List SettingsFile) (replica : ℕ) (asked : ScriptLine) (old : Caller)
    (bench : BenchState L D) (reply : Reply) (new : Caller) (after : BenchState L D)
    : Type 0 where
  pub does : Does link left count files replica asked (place_of old bench) reply
      (place_of new after)
  pub asks : Talk (Among step) bench.links after.links
      (DoesBy left count files replica asked (place_of old bench) reply (place_of new after))
  pub adds : AddsFor asked old new
  pub spent : EndsFor asked old reply
  pub idle : IsIdleAt reply new
  pub asked_only : AskedOnly link (names_of link bench.links) bench.links after.links
  pub later : count bench.dice ≤ count after.dice
  pub pages : size_of after.pages ≡ size_of bench.pages
  pub keys : MovesKeys (adopts_published asked) old (adoption_of bench) new (adoption_of after)
