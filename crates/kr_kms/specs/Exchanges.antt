-- Exchanges with plugins: each is one call on a plugin, with its answer. What plugins are supposed
-- to do is said of them.
use Rattle.std.specs.Prelude.{◌≡◌, ℕ, ⊤, Bool, true, false, List, [], ◌∷◌, Option, Some, Result, Ok, Err}
use Rattle.kr_base.specs.Faults.{counted}
use Rattle.kr_base.specs.Told.{Agrees}
use Rattle.kr_kms.specs.Calls.{Link, key_in}
use Rattle.kr_kms.specs.Limits.{IsWithinLimits}
use Rattle.kr_kms.specs.Opens.{Opens}
use Rattle.kr_kms.specs.declared.plugin.Status.{Status}
use Rattle.kr_kms.specs.declared.plugin.Wrapped.{Wrapped}
use Rattle.kr_kms.specs.declared.plugin.KmsNo.{KmsNo}
use Rattle.kr_kms.specs.declared.plugin.KmsNo.TheVariants.{Failed, NoMemory}
use Rattle.kr_kms.specs.declared.seeds.SeedKey.{SeedKey}

-- one call on the plugin of a name, with its answer; the key of an unwrap has the name
pub data Exchange : Type 0 where
  StatusCall : (name : List ℕ) → (answer : Result Status KmsNo) → Exchange
  WrapCall : (name plain : List ℕ) → (answer : Result Wrapped KmsNo) → Exchange
  UnwrapCall : (key : SeedKey) → (answer : Result (List ℕ) KmsNo) → Exchange

-- the name of the plugin that was asked
abbrev pub asked_name : Exchange → List ℕ
asked_name (StatusCall name answer) = name
asked_name (WrapCall name plain answer) = name
asked_name (UnwrapCall key answer) = key.name

-- ---- what plugins are supposed to do

-- what was wrapped opens to the plain bytes, and what was unwrapped to the answer; nothing is
-- supposed of a call that gave no answer
abbrev pub AgreesWith : Opens → Exchange → Type 0
AgreesWith opens (StatusCall name answer) = ⊤
AgreesWith opens (WrapCall name plain (Ok wrapped)) = opens (key_in name wrapped) ≡ Some plain
AgreesWith opens (WrapCall name plain (Err why)) = ⊤
AgreesWith opens (UnwrapCall key (Ok bytes)) = opens key ≡ Some bytes
AgreesWith opens (UnwrapCall key (Err why)) = ⊤

abbrev pub AgreeAll : Opens → List Exchange → Type 0
AgreeAll opens [] = ⊤
AgreeAll opens (exchange ∷ exchanges) = AgreesWith opens exchange × AgreeAll opens exchanges

-- ---- what an exchange does to a link

abbrev pub plugin_failed : {T : Type 0} → Result T KmsNo → Bool
plugin_failed (Ok answer) = false
plugin_failed (Err Failed) = true
plugin_failed (Err NoMemory) = false

-- whether the plugin failed or refused
abbrev pub is_fault : Exchange → Bool
is_fault (StatusCall name answer) = plugin_failed answer
is_fault (WrapCall name plain answer) = plugin_failed answer
is_fault (UnwrapCall key answer) = plugin_failed answer

-- the link asked its own plugin; its name and the status that it tells stay, and a fault counts
-- once
pub record KeepsLink (old : Link) (exchange : Exchange) (new : Link) : Type 0 where
  pub own : asked_name exchange ≡ old.name
  pub named : new.name ≡ old.name
  pub tells : new.status ≡ old.status
  pub counts : new.count ≡ counted (is_fault exchange) old.count

-- a status is the one that the link tells, where it tells one; what was wrapped is within the
-- limits
abbrev pub TellsAnswer : (status : Option Status) → Exchange → Type 0
TellsAnswer status (StatusCall name (Ok answer)) = Agrees status answer
TellsAnswer status (StatusCall name (Err why)) = ⊤
TellsAnswer status (WrapCall name plain (Ok wrapped)) = IsWithinLimits wrapped
TellsAnswer status (WrapCall name plain (Err why)) = ⊤
TellsAnswer status (UnwrapCall key answer) = ⊤

-- a link's count of faults behind these exchanges
abbrev pub counted_all : List Exchange → ℕ → ℕ
counted_all [] count = count
counted_all (exchange ∷ exchanges) count =
    counted_all exchanges (counted (is_fault exchange) count)
