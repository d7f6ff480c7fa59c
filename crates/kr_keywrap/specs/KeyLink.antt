-- A link in memory that wraps under the keys of a ring.
use Rattle.std.specs.Prelude.{◌≡◌, ℕ, ◌<◌, ◌⊎◌, ⊤, Bool, true, false, if◌then◌else◌, List, [], codes, length, All, Some, IsSome, Result, Ok, Err, refl}
use Rattle.std.proofs.Common.{◌∙◌, ap}
use Rattle.kr_base.specs.Faults.{counted}
use Rattle.kr_base.specs.InMemory.{Calls, IsListed, after_call, after_fault}
use Rattle.kr_kms.specs.Calls.{Link}
use Rattle.kr_kms.specs.Exchanges.{Exchange, StatusCall, WrapCall, UnwrapCall, KeepsLink, TellsAnswer}
use Rattle.kr_kms.specs.Exchanges.{AgreesWith, asked_name, plugin_failed, is_fault}
use Rattle.kr_kms.specs.Opens.{Opens}
use Rattle.kr_kms.specs.declared.plugin.Status.{Status}
use Rattle.kr_kms.specs.declared.plugin.Wrapped.{Wrapped}
use Rattle.kr_kms.specs.declared.plugin.KmsNo.{KmsNo}
use Rattle.kr_kms.specs.declared.plugin.KmsNo.TheVariants.{Failed, NoMemory}
use Rattle.kr_keywrap.specs.KeyWrap.{IsWrappable}
use Rattle.kr_keywrap.specs.Keys.{Keys, opened_by, wrapped_under}

-- its plugin's name, the id of the key that it wraps under, and which of its calls fail
pub record KeyLinkState : Type 0 where
  pub name : List ℕ
  pub key_id : List ℕ
  pub calls : Calls

-- what sources open to over links of one type of rings: a source opens under the ring's key of its
-- key id, whatever the plugin's name and the annotations are
abbrev pub ring_opens : Keys → Opens
ring_opens keys key = opened_by keys key.key_id key.source

abbrev pub status_of : List ℕ → Status
status_of key_id = record { version = codes "v2"; healthz = codes "ok"; key_id = key_id }

abbrev pub link_seen : KeyLinkState → Link
link_seen link = record {
  name = link.name;
  count = link.calls.faults;
  status = Some (status_of link.key_id);
}

-- what plain bytes are wrapped into under a key and its id: there are no annotations
abbrev pub wrapped_by : List ℕ → List ℕ → List ℕ → Wrapped
wrapped_by kek key_id plain = record {
  cipher = wrapped_under kek plain;
  key_id = key_id;
  annotations = [];
}

-- the plain bytes are wrapped under the ring's key of the link's key id
abbrev pub IsWrapBy : Keys → KeyLinkState → List ℕ → Wrapped → Type 0
IsWrapBy keys link plain wrapped =
    (kek : List ℕ) × (keys link.key_id ≡ Some kek) × (wrapped ≡ wrapped_by kek link.key_id plain)

-- a call has a right answer where it can be served, as far as there is memory for it; it fails
-- exactly where its number is listed or it can't be served
abbrev pub AnswersByKeys : {T : Type 0} → KeyLinkState → Type 0 → (T → Type 0) → Result T KmsNo
    → KeyLinkState → Type 0
AnswersByKeys old Served IsRight (Ok given) new =
    (IsListed old.calls → ⊥) × Served × IsRight given
    × (new ≡ record old { calls = after_call old.calls })
AnswersByKeys old Served IsRight (Err Failed) new =
    (IsListed old.calls ⊎ (Served → ⊥)) × (new ≡ record old { calls = after_fault old.calls })
AnswersByKeys old Served IsRight (Err NoMemory) new =
    (IsListed old.calls → ⊥) × Served
    × (new ≡ record old { calls = after_call old.calls })

-- ---- exchanges

-- what the link answers, by the call
abbrev pub AnswersKeyCall : Keys → KeyLinkState → Exchange → KeyLinkState → Type 0
AnswersKeyCall keys old (StatusCall name answer) new =
    AnswersByKeys old (Unit {0}) (λ status. status ≡ status_of old.key_id) answer new
AnswersKeyCall keys old (WrapCall name plain answer) new =
    AnswersByKeys old (IsWrappable (length plain)) (IsWrapBy keys old plain) answer new
AnswersKeyCall keys old (UnwrapCall key answer) new =
    AnswersByKeys old (IsSome (opened_by keys key.key_id key.source))
    (λ bytes. opened_by keys key.key_id key.source ≡ Some bytes) answer new

-- what one call does; a status that it answers is what is told, and what it wraps is within the
-- limits
pub record KeyLinkStep (keys : Keys) (old : KeyLinkState) (exchange : Exchange) (new : KeyLinkState)
    : Type 0 where
  pub own : asked_name exchange ≡ old.name
  pub answers : AnswersKeyCall keys old exchange new
  pub tells : TellsAnswer (link_seen old).status exchange

abbrev calls_after : Bool → Calls → Calls
calls_after failed calls = if failed then after_fault calls else after_call calls

faults_after : (failed : Bool) (calls : Calls)
    → (calls_after failed calls).faults ≡ counted failed calls.faults
faults_after true calls = refl
faults_after false calls = refl

after_answer : {T : Type 0} (old new : KeyLinkState) (Served : Type 0) (IsRight : T → Type 0)
    (result : Result T KmsNo) → AnswersByKeys old Served IsRight result new
    → new ≡ record old { calls = calls_after (plugin_failed result) old.calls }
after_answer old new Served IsRight (Ok given) h = h.3
after_answer old new Served IsRight (Err Failed) h = h.1
after_answer old new Served IsRight (Err NoMemory) h = h.2

after_exchange : (keys : Keys) (old : KeyLinkState) (exchange : Exchange) (new : KeyLinkState)
    → AnswersKeyCall keys old exchange new
    → new ≡ record old { calls = calls_after (is_fault exchange) old.calls }
after_exchange keys old (StatusCall name answer) new h =
    after_answer old new (Unit {0}) (λ status. status ≡ status_of old.key_id) answer h
after_exchange keys old (WrapCall name plain answer) new h =
    after_answer old new (IsWrappable (length plain)) (IsWrapBy keys old plain) answer h
after_exchange keys old (UnwrapCall key answer) new h =
    after_answer old new (IsSome (opened_by keys key.key_id key.source))
    (λ bytes. opened_by keys key.key_id key.source ≡ Some bytes) answer h

pub key_link_keeps : (keys : Keys) (old : KeyLinkState) (exchange : Exchange) (new : KeyLinkState)
    → KeyLinkStep keys old exchange new → KeepsLink (link_seen old) exchange (link_seen new)
key_link_keeps keys old exchange new h =
    let is = after_exchange keys old exchange new h.answers in
    record {
      own = h.own;
      named = ap (λ (l : KeyLinkState). l.name) is;
      tells = ap (λ (l : KeyLinkState). Some (status_of l.key_id)) is;
      counts = ap (λ (l : KeyLinkState). l.calls.faults) is
          ∙ faults_after (is_fault exchange) old.calls;
    }

pub key_link_tells : (keys : Keys) (old : KeyLinkState) (exchange : Exchange) (new : KeyLinkState)
    → KeyLinkStep keys old exchange new → TellsAnswer (link_seen old).status exchange
key_link_tells keys old exchange new h = h.tells

-- what was to be wrapped are bytes
abbrev pub IsOfBytes : Exchange → Type 0
IsOfBytes (StatusCall name answer) = ⊤
IsOfBytes (WrapCall name plain answer) = All (λ byte. byte < 256) plain
IsOfBytes (UnwrapCall key answer) = ⊤

-- what such links answer agrees with what the ring's keys open
abbrev pub KeyLinksAgree : Keys → Type 0
KeyLinksAgree keys = (old : KeyLinkState) (exchange : Exchange) (new : KeyLinkState)
    → KeyLinkStep keys old exchange new → IsOfBytes exchange
    → AgreesWith (ring_opens keys) exchange
