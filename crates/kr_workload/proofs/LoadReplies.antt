-- What the replies of a load can be: each line was done, or memory lacked.
use Rattle.std.specs.Prelude.{Contains, if◌then◌else◌, ⊤}
use Rattle.std.proofs.Common.{◌≡◌, ℕ, ◌==◌, ◌⊎◌, Bool, true, false, List, [], ◌∷◌, ◌++◌, length, Option, None, Some, inl, inr, refl, ap, sym, subst, ◌∙◌, arith}
use Rattle.std.proofs.lemmas.Bool.{false≢true}
use Rattle.std.proofs.lemmas.List.{length-map}
use Rattle.kr_base.specs.Faults.{Rose}
use Rattle.kr_base.specs.Lines.{of_seat}
use Rattle.kr_config.specs.declared.who.Who.{Who}
use Rattle.kr_config.specs.declared.who.Who.TheVariants.{Aesgcm, Identity}
use Rattle.kr_kms.specs.Calls.{Link}
use Rattle.kr_kms.specs.Opens.{Opens}
use Rattle.kr_provider.specs.Names.{names_of}
use Rattle.kr_provider.specs.Publication.{Publication}
use Rattle.kr_provider.specs.Reading.{Reading, data_of, refused}
use Rattle.kr_provider.specs.declared.refusal.ValueNo.{ValueNo}
use Rattle.kr_provider.specs.declared.refusal.ValueNo.TheVariants as value
use Rattle.kr_history.specs.ContentLaws.{NamesNoPlugin}
use Rattle.kr_history.specs.Contents.{ContentBy, IsContent, last_change, puts}
use Rattle.kr_rollout.specs.Entries.{seat_of}
use Rattle.kr_rollout.specs.declared.line.Gave.TheVariants as gave
use Rattle.kr_rollout.specs.declared.opening.Entry.{Entry}
use Rattle.kr_rollout.specs.declared.opening.Opening.{Opening}
use Rattle.kr_script.specs.declared.script.ScriptLine.{ScriptLine}
use Rattle.kr_script.specs.declared.script.ScriptLine.TheVariants as line
use Rattle.kr_script.specs.declared.told.Told.{Told}
use Rattle.kr_script.specs.declared.told.Told.TheVariants as told
use Rattle.kr_workers.specs.Causes.{HasCause, OwnGave, StoreFails, TellsAnswer}
use Rattle.kr_workers.specs.Endings.{is_same, reply_ending}
use Rattle.kr_workers.specs.Gets.{TellsGotContent}
use Rattle.kr_workers.specs.Heard.{Heard}
use Rattle.kr_workers.specs.ScriptLines.{Workplace}
use Rattle.kr_workers.specs.declared.ending.Ending.TheVariants as ending
use Rattle.kr_workload.proofs.LoadHistories.{WritesByKey, secrets}
use Rattle.kr_workload.proofs.PutParts.{TellsPut}

-- ---- what a line is replied

-- it was done, and a `get` tells this of its path; a verdict on a reload may be any
abbrev pub IsFullReply : (Said : List ℕ → List ℕ → Type 0) → ScriptLine → Told → Type 0
IsFullReply Said (line.Put resource path plain) (told.Put revision) = ⊤
IsFullReply Said (line.Get path) (told.Got revision plain) = Said path plain
IsFullReply Said (line.Reload replica file) (told.Reloaded generation) = ⊤
IsFullReply Said (line.Reload replica file) (told.Refused verdict) = ⊤
IsFullReply Said asked reply = ⊥

-- or memory lacked
abbrev pub IsReply : (Said : List ℕ → List ℕ → Type 0) → ScriptLine → Told → Type 0
IsReply Said asked reply = (reply ≡ told.Memory) ⊎ IsFullReply Said asked reply

-- ---- what a load's history rules out

pub record IsCalm {L D : Type 0} (link : L → Link) (count : D → ℕ) (history : List Entry)
    (first : Workplace L D) (dice : D) : Type 0 where
  pub here : (front : List Entry) (e : Entry) (rest : List Entry) → history ≡ front ++ e ∷ rest
      → (replica : ℕ) → e.line.gave ≡ gave.Gone replica → ⊥
  pub room : (front : List Entry) (e : Entry) (rest : List Entry) → history ≡ front ++ e ∷ rest
      → (needed : ℕ) → e.line.gave ≡ gave.StoreFull needed → ⊥
  pub stored : (front : List Entry) (e : Entry) (rest : List Entry) → history ≡ front ++ e ∷ rest
      → e.line.gave ≡ gave.StoreFailed → ⊥
  pub keyed : (e : Entry) → Contains history e → (p : Publication) → e.published ≡ Some p
      → WritesByKey p.rows
  pub bare : names_of link first.links ≡ []
  pub drawn : Rose (count first.dice) (count dice) → ⊥

no_identity : (name secret : List ℕ) → Aesgcm name secret ≡ Identity → ⊥
no_identity name secret e = absurd (false≢true (sym (ap is_named e)))
  where
    is_named : Who → Bool
    is_named Identity = false
    is_named other = true

module _ {L D : Type 0} (link : L → Link) (count : D → ℕ) (history : List Entry)
    (first : Workplace L D) (links : List L) (dice : D)
    (calm : IsCalm link count history first dice)
  where
    no_link : (it : L) → Contains first.links it → ⊥
    no_link it (k, below, is) =
        let e = ap length calm.bare in
        let many = length-map first.links (λ l. (link l).name) in
        absurd (omega (arith, below, e, many))

    abbrev Caused : ScriptLine → Told → Type 0
    Caused asked reply = HasCause link count asked first reply history links dice

    none_gone : OwnGave first.caller history (TellsAnswer told.Gone) → ⊥
    none_gone own = calm.here (first.caller.seen ++ own.before) own.entry own.behind own.there
        own.says.0 own.says.1

    none_full : OwnGave first.caller history (TellsAnswer told.Full) → ⊥
    none_full own = calm.room (first.caller.seen ++ own.before) own.entry own.behind own.there
        own.says.0 own.says.1

    none_failed : StoreFails first.caller history → ⊥
    none_failed f = calm.stored (first.caller.seen ++ f.before) f.entry f.behind f.there f.says

    -- ---- no reply is a fault

    by_left : (b : Bool)
        → is_same (if b then ending.Done else ending.Refused) ending.Fault ≡ false
    by_left true = refl
    by_left false = refl

    pub no_fault : (asked : ScriptLine) (reply : Told) → Caused asked reply
        → is_same (reply_ending reply) ending.Fault ≡ false
    no_fault asked (told.Rewritten rewritten fresh changed left) c = by_left (left == 0)
    no_fault asked (told.FaultPlugin name) c = absurd (no_link c.1.old c.1.old_there)
    no_fault asked (told.FaultDice seat) c = absurd (calm.drawn c.2)
    no_fault asked told.FaultStore c = absurd (none_failed c.1)
    no_fault asked other c = refl

    -- ---- a put

    module _ (Said : List ℕ → List ℕ → Type 0) where
      module _ (path plain : List ℕ) (long : length plain ≡ 32) (part : List Entry)
          (inside : (e : Entry) → Contains part e → Contains history e) where
        value_ends : (why : ValueNo) → Caused (line.Put secrets path plain) (told.Value why)
            → TellsPut secrets path plain part (told.Value why) → ⊥
        value_ends value.LooksEncrypted c t =
            let w = calm.keyed t.entry (inside t.entry t.there) t.p t.published in
            no_identity w.name w.secret (sym w.writer ∙ t.writer)
        value_ends value.TooLarge c t = omega (arith, c, long)
        value_ends other c t = c

        pub put_ends : (reply : Told) → Caused (line.Put secrets path plain) reply
            → TellsPut secrets path plain part reply
            → IsReply Said (line.Put secrets path plain) reply
        put_ends (told.Put revision) c t = inr tt
        put_ends (told.Rewritten rewritten fresh changed left) c t = absurd c
        put_ends told.Gone c t = absurd (none_gone c.1)
        put_ends (told.Value why) c t = absurd (value_ends why c t)
        put_ends (told.FaultDice seat) c t = absurd (calm.drawn c.2)
        put_ends told.FaultStore c t = absurd (none_failed c.1)
        put_ends told.Full c t = absurd (none_full c.1)
        put_ends told.Memory c t = inl refl
        put_ends other c t = absurd c.0

      -- ---- a reload

      pub reload_ends : (replica : ℕ) (file : List ℕ) (reply : Told)
          → Caused (line.Reload replica file) reply → IsReply Said (line.Reload replica file) reply
      reload_ends replica file (told.Rewritten rewritten fresh changed left) c = absurd c
      reload_ends replica file (told.Reloaded generation) c = inr tt
      reload_ends replica file told.Gone c = absurd (none_gone c.1)
      reload_ends replica file (told.Refused verdict) c = inr tt
      reload_ends replica file (told.Value why) c = absurd c
      reload_ends replica file (told.Unhealthy name field text) c =
          absurd (no_link c.1.it c.1.there)
      reload_ends replica file (told.FaultPlugin name) c = absurd (no_link c.1.old c.1.old_there)
      reload_ends replica file (told.FaultDice seat) c = absurd (calm.drawn c.2)
      reload_ends replica file told.Memory c = inl refl
      reload_ends replica file other c = absurd c.0

      -- ---- a get

      module _ (heard : Heard) (o : Opening) (seat : ℕ) (path plain : List ℕ)
          (ahead part : List Entry)
          (no_names : (front rest : List Entry) → history ≡ front ++ rest → NamesNoPlugin o front)
          (known : (front : List Entry) (fetch : Entry) (rest : List Entry) (adopt : Entry)
          → history ≡ front ++ fetch ∷ rest
          → of_seat seat_of seat front ≡ ahead ++ adopt ∷ []
          → last_change front path ≡ Some (puts plain))
          (says : Said path plain) where
        -- what sources open to doesn't matter
        any : Opens
        any key = None

        content_is : (front : List Entry) (content : Option Reading)
            → last_change front path ≡ Some (puts plain) → IsContent any o front path content
            → content ≡ Some (data_of plain)
        content_is front content put is =
            subst (λ change. ContentBy change any o path content) put is

        abbrev data_in : List ℕ → Option Reading → List ℕ
        data_in other (Some (data_of found)) = found
        data_in other content = other

        abbrev has_data : Option Reading → Bool
        has_data (Some (data_of found)) = true
        has_data other = false

        pub get_ends : (reply : Told) → Caused (line.Get path) reply
            → TellsGotContent heard o history seat path ahead part reply
            → IsReply Said (line.Get path) reply
        get_ends (told.Got revision found) c t =
            let now = known t.front t.fetch t.rest t.adopt t.there t.its in
            let same : plain ≡ found = sym (ap (data_in plain) (content_is t.front
            (Some (data_of found)) now
            (t.holds.1.known any (no_names t.front (t.fetch ∷ t.rest) t.there)))) in
            inr (subst (λ d. Said path d) same says)
        get_ends told.Absent c t =
            let now = known t.front t.fetch t.rest t.adopt t.there t.its in
            absurd (false≢true (ap has_data (content_is t.front None now (t.holds.1 any))))
        get_ends (told.Rewritten rewritten fresh changed left) c t = absurd c
        get_ends told.Gone c t = absurd (none_gone c.1)
        get_ends (told.Value why) c t =
            let now = known t.front t.fetch t.rest t.adopt t.there t.its in
            absurd (false≢true (ap has_data (content_is t.front (Some (refused why)) now
            (t.holds.2.known any (no_names t.front (t.fetch ∷ t.rest) t.there)))))
        get_ends (told.FaultPlugin name) c t = absurd (no_link c.1.old c.1.old_there)
        get_ends told.Memory c t = inl refl
        get_ends other c t = absurd c.0
