-- What a reply to a put tells of the line's part of the history, by the call's relation.
use Rattle.std.specs.Prelude.{Contains, ⊤}
use Rattle.std.proofs.Common.{◌≡◌, ℕ, List, [], ◌∷◌, ◌++◌, Option, Some, Result, Ok, Err, inl, inr, refl, ap, sym, subst, ◌∙◌, arith}
use Rattle.std.proofs.lemmas.List.{append_assoc, append_cancel_left}
use Rattle.kr_config.specs.declared.who.Who.TheVariants.{Identity}
use Rattle.kr_provider.specs.Publication.{Publication, writer_at}
use Rattle.kr_provider.specs.declared.refusal.ValueNo.{ValueNo}
use Rattle.kr_provider.specs.declared.refusal.ValueNo.TheVariants as value
use Rattle.kr_rollout.specs.declared.answer.Answer.TheVariants as answer
use Rattle.kr_history.specs.declared.call.CallNo.{CallNo}
use Rattle.kr_history.specs.declared.call.CallNo.TheVariants as refusal
use Rattle.kr_rollout.specs.declared.event.Event.TheVariants as event
use Rattle.kr_rollout.specs.declared.line.Did.TheVariants as did
use Rattle.kr_rollout.specs.declared.line.Gave.TheVariants as gave
use Rattle.kr_rollout.specs.declared.opening.Entry.{Entry}
use Rattle.kr_history.specs.Acting.{AddsEntry, Caller}
use Rattle.kr_history.specs.Calls.{LetsGo}
use Rattle.kr_history.specs.Parts.{Adds}
use Rattle.kr_fleet.specs.WriteCalls.{IsWrite, Puts}
use Rattle.kr_script.specs.declared.told.Told.{Told}
use Rattle.kr_script.specs.declared.told.Told.TheVariants as told
use Rattle.kr_workers.specs.Replies.{Reply, told_of_refusal, told_of_write}

-- ---- what is told

module _ (resource path plain : List ℕ) (part : List Entry) where
  -- an entry of the part wrote the object
  pub record HasWritten (revision : ℕ) : Type 0 where
    pub entry : Entry
    pub there : Contains part entry
    pub did_is : entry.line.did ≡ did.Put path resource plain
    pub gave_is : entry.line.gave ≡ gave.Written revision

  -- one adopted a configuration that writes the resource as it stands
  pub record HasBare : Type 0 where
    pub entry : Entry
    pub p : Publication
    pub there : Contains part entry
    pub published : entry.published ≡ Some p
    pub writer : writer_at p resource ≡ Identity

  abbrev pub TellsValue : ValueNo → Type 0
  TellsValue value.LooksEncrypted = HasBare
  TellsValue why = ⊤

  abbrev pub TellsPut : Told → Type 0
  TellsPut (told.Put revision) = HasWritten revision
  TellsPut (told.Value why) = TellsValue why
  TellsPut reply = ⊤

  abbrev TellsRefusal : CallNo → Type 0
  TellsRefusal (refusal.Value why) = TellsValue why
  TellsRefusal why = ⊤

  abbrev TellsWrite : Result ℕ CallNo → Type 0
  TellsWrite (Ok revision) = HasWritten revision
  TellsWrite (Err why) = TellsRefusal why

-- ---- entries in a part

two_behind : (m : List Entry) (a b : Entry)
    → (m ++ a ∷ []) ++ b ∷ [] ≡ m ++ (a ∷ (b ∷ []))
two_behind m a b = append_assoc m (a ∷ []) (b ∷ [])

three_behind : (m : List Entry) (a b c : Entry)
    → ((m ++ a ∷ []) ++ b ∷ []) ++ c ∷ [] ≡ m ++ (a ∷ (b ∷ (c ∷ [])))
three_behind m a b c = ap (λ (l : List Entry). l ++ c ∷ []) (two_behind m a b)
    ∙ append_assoc m (a ∷ (b ∷ [])) (c ∷ [])

first_there : (part : List Entry) (a : Entry) (rest : List Entry) → part ≡ a ∷ rest
    → Contains part a
first_there part a rest is =
    subst (λ (l : List Entry). Contains l a) (sym is) (0, omega arith, refl)

second_there : (part : List Entry) (a b : Entry) (rest : List Entry) → part ≡ a ∷ (b ∷ rest)
    → Contains part b
second_there part a b rest is =
    subst (λ (l : List Entry). Contains l b) (sym is) (1, omega arith, refl)

-- what a caller adds is one part alone
pub part_is : (old new : Caller) (part other : List Entry) → Adds old part new
    → new.mine ≡ old.mine ++ other → part ≡ other
part_is old new part other a is = append_cancel_left old.mine part other
    (sym (ap (λ (c : Caller). c.mine) a.new_is) ∙ is)

-- ---- by the call

module _ {D : Type 0} (left : D → Option (List ℕ)) (count : D → ℕ)
    (resource path plain : List ℕ) (replica : ℕ) (old new : Caller) (part : List Entry)
    (adds : Adds old part new) (dice after : D) where
  abbrev Says : Result ℕ CallNo → Type 0
  Says result = TellsWrite resource path plain part result

  module _ (number : ℕ) (p : Publication) (adopted acted : Caller)
      (adopts : AddsEntry old (event.Adopt replica) (answer.Adopted number p) adopted)
      (lets_go : AddsEntry acted event.LetGo answer.Released new) where
    puts_tell : (done : Result ℕ CallNo)
        → Puts left count resource path plain p adopted dice done acted after → Says done
    puts_tell (Ok revision) d =
        let part_so : part ≡ adopts.entry ∷ (d.put.entry ∷ (lets_go.entry ∷ [])) =
        part_is old new part (adopts.entry ∷ (d.put.entry ∷ (lets_go.entry ∷ []))) adds
        (ap (λ (c : Caller). c.mine) lets_go.new_is
        ∙ ap (λ (c : Caller). c.mine ++ lets_go.entry ∷ []) d.put.new_is
        ∙ ap (λ (c : Caller). (c.mine ++ d.put.entry ∷ []) ++ lets_go.entry ∷ []) adopts.new_is
        ∙ three_behind old.mine adopts.entry d.put.entry lets_go.entry) in record {
          entry = d.put.entry;
          there = second_there part adopts.entry d.put.entry (lets_go.entry ∷ []) part_so;
          did_is = d.put.records.did_is;
          gave_is = d.put.records.gave_is;
        }
    puts_tell (Err (refusal.Value value.LooksEncrypted)) d =
        let part_so : part ≡ adopts.entry ∷ (lets_go.entry ∷ []) =
        part_is old new part (adopts.entry ∷ (lets_go.entry ∷ [])) adds
        (ap (λ (c : Caller). c.mine) lets_go.new_is
        ∙ ap (λ (c : Caller). c.mine ++ lets_go.entry ∷ []) d.1
        ∙ ap (λ (c : Caller). c.mine ++ lets_go.entry ∷ []) adopts.new_is
        ∙ two_behind old.mine adopts.entry lets_go.entry) in record {
          entry = adopts.entry;
          p = p;
          there = first_there part adopts.entry (lets_go.entry ∷ []) part_so;
          published = adopts.records.shows;
          writer = d.0.1;
        }
    puts_tell (Err other) d = tt

  let_go_tells : (number : ℕ) (p : Publication) (adopted acted : Caller)
      (done result : Result ℕ CallNo)
      → AddsEntry old (event.Adopt replica) (answer.Adopted number p) adopted
      → Puts left count resource path plain p adopted dice done acted after
      → LetsGo acted done result new → Says result
  let_go_tells number p adopted acted done result adopts d (inl g) =
      subst (λ (r : Result ℕ CallNo). Says r) (sym g.1)
      (puts_tell number p adopted acted adopts g.0 done d)
  let_go_tells number p adopted acted done result adopts d (inr n) =
      subst (λ (r : Result ℕ CallNo). Says r) (sym n.1) tt

  write_tells : (result : Result ℕ CallNo)
      → IsWrite left count resource path plain replica old dice result new after → Says result
  write_tells (Ok revision) (inl e) = absurd e
  write_tells (Err (refusal.Value why)) (inl e) = absurd e.0
  write_tells result (inr h) = let_go_tells h.number h.p h.adopted h.acted h.done result h.adopts
      h.does h.lets_go
  write_tells (Err other) (inl e) = tt

  -- ---- by the reply

  abbrev reply_in : Told → Reply → Told
  reply_in other (Ok reply) = reply
  reply_in other (Err spent) = other

  abbrev is_ok : Reply → Type 0
  is_ok (Ok reply) = ⊤
  is_ok (Err spent) = ⊥

  abbrev Tells : Told → Type 0
  Tells reply = TellsPut resource path plain part reply

  refused_tells : (seat : ℕ) (why : CallNo) (reply : Told)
      → Ok reply ≡ told_of_refusal seat why → TellsRefusal resource path plain part why
      → Tells reply
  refused_tells seat (refusal.Value why) reply is t =
      subst (λ r. Tells r) (sym (ap (reply_in reply) is)) t
  refused_tells seat refusal.Spent reply is t =
      absurd (subst is_ok is tt)
  refused_tells seat other reply is t = subst (λ r. Tells r) (sym (ap (reply_in reply) is)) tt

  pub put_tells : (seat : ℕ) (result : Result ℕ CallNo) (reply : Told)
      → Ok reply ≡ told_of_write seat result
      → IsWrite left count resource path plain replica old dice result new after → Tells reply
  put_tells seat (Ok revision) reply is w =
      subst (λ r. Tells r) (sym (ap (reply_in reply) is)) (write_tells (Ok revision) w)
  put_tells seat (Err why) reply is w =
      refused_tells seat why reply is (write_tells (Err why) w)
