-- The plugin in memory: a table of texts, whose wrapped sources are masked by the sum of a key id
-- and a salt.
use Rattle.std.specs.Prelude.{◌≡◌, ℕ, ◌+◌, ◌%◌, ◌⊎◌, Bool, true, false, if◌then◌else◌, List, [], ◌∷◌, map, sum, codes, bit_xor, Some, Result, Ok, Err, refl}
use Rattle.std.proofs.Common.{◌∙◌, ap, subst, sym}
use Rattle.std.specs.Option.{unwrap_or}
use Rattle.std.specs.Str.{bytes_eq}
use Rattle.std.specs.Map.{lookup}
use Rattle.kr_base.specs.Faults.{counted}
use Rattle.kr_base.specs.Pairs.{Pairs}
use Rattle.kr_base.specs.InMemory.{Calls, IsListed, after_call, after_fault}
use Rattle.kr_kms.specs.Calls.{Link}
use Rattle.kr_kms.specs.Exchanges.{Exchange, StatusCall, WrapCall, UnwrapCall, KeepsLink, TellsAnswer}
use Rattle.kr_kms.specs.Exchanges.{asked_name, plugin_failed, is_fault}
use Rattle.kr_kms.specs.Limits.{IsWithinLimits}
use Rattle.kr_kms.specs.Opens.{Opens}
use Rattle.kr_kms.specs.declared.plugin.Status.{Status}
use Rattle.kr_kms.specs.declared.plugin.Wrapped.{Wrapped}
use Rattle.kr_kms.specs.declared.plugin.KmsNo.{KmsNo}
use Rattle.kr_kms.specs.declared.plugin.KmsNo.TheVariants.{Failed, NoMemory}

-- its name, the id of its current key, its salt of one byte, what its status says, and which of its
-- calls fail
pub record Table : Type 0 where
  pub name : List ℕ
  pub key_id : List ℕ
  pub salt : ℕ
  pub version : List ℕ
  pub healthz : List ℕ
  pub calls : Calls

-- the annotation that has the salt as its value
abbrev pub salt_key : List ℕ
salt_key = codes "test.kmsrest/salt"

-- the value of that annotation; none has no bytes
abbrev pub annotated_salt : Pairs → List ℕ
annotated_salt annotations = unwrap_or (lookup (bytes_eq salt_key) annotations) []

-- the sum of all bytes of the key id and of the salt, modulo 256
abbrev pub annotations_mask : List ℕ → Pairs → ℕ
annotations_mask key_id annotations = (sum key_id + sum (annotated_salt annotations)) % 256

-- each byte xor the mask
abbrev pub xor_of : ℕ → List ℕ → List ℕ
xor_of mask bytes = map (λ byte. bit_xor byte mask) bytes

-- what sources open to over plugins in memory: each is masked by what stands with it
abbrev pub table_opens : Opens
table_opens key = Some (xor_of (annotations_mask key.key_id key.annotations) key.source)

-- the one annotation with the salt
abbrev pub salt_pair : ℕ → Pairs
salt_pair salt = (salt_key, salt ∷ []) ∷ []

-- what it makes of plain bytes
abbrev pub wrapped_by_table : Table → List ℕ → Wrapped
wrapped_by_table table plain = record {
  cipher = xor_of (annotations_mask table.key_id (salt_pair table.salt)) plain;
  key_id = table.key_id;
  annotations = salt_pair table.salt;
}

abbrev pub table_status : Table → Status
table_status table = record {
  version = table.version;
  healthz = table.healthz;
  key_id = table.key_id;
}

abbrev pub link_of : Table → Link
link_of table = record {
  name = table.name;
  count = table.calls.faults;
  status = Some (table_status table);
}

-- a call has this answer where it can be served, as far as there is memory for it; it fails exactly
-- where its number is listed or it can't be served
abbrev pub AnswersByTable : {T : Type 0} → Table → Type 0 → T → Result T KmsNo → Table → Type 0
AnswersByTable old Served answer (Ok given) new =
    (IsListed old.calls → ⊥) × Served × (given ≡ answer)
    × (new ≡ record old { calls = after_call old.calls })
AnswersByTable old Served answer (Err Failed) new =
    (IsListed old.calls ⊎ (Served → ⊥)) × (new ≡ record old { calls = after_fault old.calls })
AnswersByTable old Served answer (Err NoMemory) new =
    (IsListed old.calls → ⊥) × Served
    × (new ≡ record old { calls = after_call old.calls })

-- ---- exchanges

-- what the plugin answers, by the call
abbrev pub AnswersTableCall : Table → Exchange → Table → Type 0
AnswersTableCall old (StatusCall name answer) new = AnswersByTable old (Unit {0}) (table_status old)
    answer new
AnswersTableCall old (WrapCall name plain answer) new =
    AnswersByTable old (IsWithinLimits (wrapped_by_table old plain)) (wrapped_by_table old plain)
    answer new
AnswersTableCall old (UnwrapCall key answer) new = AnswersByTable old (Unit {0})
    (xor_of (annotations_mask key.key_id key.annotations) key.source) answer new

-- exactly what one call does
pub record TableStep (old : Table) (exchange : Exchange) (new : Table) : Type 0 where
  pub own : asked_name exchange ≡ old.name
  pub answers : AnswersTableCall old exchange new

abbrev calls_after : Bool → Calls → Calls
calls_after failed calls = if failed then after_fault calls else after_call calls

faults_after : (failed : Bool) (calls : Calls)
    → (calls_after failed calls).faults ≡ counted failed calls.faults
faults_after true calls = refl
faults_after false calls = refl

after_answer : {T : Type 0} (old new : Table) (Served : Type 0) (answer : T)
    (result : Result T KmsNo) → AnswersByTable old Served answer result new
    → new ≡ record old { calls = calls_after (plugin_failed result) old.calls }
after_answer old new Served answer (Ok given) h = h.3
after_answer old new Served answer (Err Failed) h = h.1
after_answer old new Served answer (Err NoMemory) h = h.2

after_exchange : (old : Table) (exchange : Exchange) (new : Table)
    → AnswersTableCall old exchange new
    → new ≡ record old { calls = calls_after (is_fault exchange) old.calls }
after_exchange old (StatusCall name answer) new h =
    after_answer old new (Unit {0}) (table_status old) answer h
after_exchange old (WrapCall name plain answer) new h =
    after_answer old new (IsWithinLimits (wrapped_by_table old plain)) (wrapped_by_table old plain)
    answer h
after_exchange old (UnwrapCall key answer) new h = after_answer old new (Unit {0})
    (xor_of (annotations_mask key.key_id key.annotations) key.source) answer h

pub table_keeps : (old : Table) (exchange : Exchange) (new : Table) → TableStep old exchange new
    → KeepsLink (link_of old) exchange (link_of new)
table_keeps old exchange new h = let is = after_exchange old exchange new h.answers in record {
  own = h.own;
  named = ap (λ (t : Table). t.name) is;
  tells = ap (λ (t : Table). Some (table_status t)) is;
  counts = ap (λ (t : Table). t.calls.faults) is ∙ faults_after (is_fault exchange) old.calls;
}

pub table_tells : (old : Table) (exchange : Exchange) (new : Table) → TableStep old exchange new
    → TellsAnswer (link_of old).status exchange
table_tells old (StatusCall name (Ok status)) new h = sym h.answers.2
table_tells old (StatusCall name (Err why)) new h = tt
table_tells old (WrapCall name plain (Ok wrapped)) new h =
    subst IsWithinLimits (sym h.answers.2) h.answers.1
table_tells old (WrapCall name plain (Err why)) new h = tt
table_tells old (UnwrapCall key answer) new h = tt
