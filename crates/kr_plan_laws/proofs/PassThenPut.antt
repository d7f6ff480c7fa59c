-- A history in which a verdict passes, and a value is put that the settings don't read.
use Rattle.std.proofs.Common.{zero, suc, List, [], ◌∷◌, replicate, None, Some, refl, sym, ap, inl, inr, arith, lit≤, IsTrue}
use Rattle.std.proofs.lemmas.List.Elements.{All-nil}
use Rattle.std.proofs.lemmas.Option.{none-some}
use Rattle.kr_envelope.specs.Prefixes.{prefix}
use Rattle.kr_store.specs.Rows.{put_of}
use Rattle.kr_config.specs.declared.who.Who.TheVariants.{Identity, Aescbc}
use Rattle.kr_config.specs.Kept.{ConfigEntry, keeps}
use Rattle.kr_config.proofs.ListParts.{cases}
use Rattle.kr_provider.specs.Publication.{Publication}
use Rattle.kr_rollout.specs.declared.line.Did.TheVariants.{Adopt, Put}
use Rattle.kr_rollout.specs.declared.line.Gave.TheVariants.{Adopted, Written}
use Rattle.kr_rollout.specs.declared.opening.Entry.{Entry}
use Rattle.kr_rollout.specs.declared.opening.Opening.{Opening}
use Rattle.kr_rollout.specs.Callers.{brings_settings}
use Rattle.kr_rollout.specs.Histories.{IsRun, IsLegal}
use Rattle.kr_rollout.specs.Openings.{start_of}
use Rattle.kr_rollout.specs.Steps.{IsStep, after}
use Rattle.kr_history.specs.LackLaws.{AreBeside}
use Rattle.kr_plan_laws.specs.PassLaws.{ReadAt, PassThenLoss}
use Rattle.kr_plan_laws.proofs.OneReplica.{all_by, opening_with, legal_by, Path, Resource, Stored, is_path, is_resource, empty_sealed}
use Rattle.kr_plan_laws.proofs.Passes.{pass_means_read}

-- ---- the settings: all as they stand, and all by one key

abbrev Plain : Publication
Plain = all_by (Identity ∷ [])

abbrev Keyed : List ConfigEntry
Keyed = (all_by (Aescbc (0x6B ∷ []) (replicate 32 0) ∷ [])).rows

abbrev Alone : Opening
Alone = opening_with (Identity ∷ []) 0

plain_kept : IsTrue (keeps Plain.rows)
unfolding keeps
plain_kept = refl

legal : (history : List Entry) → IsRun Alone (start_of Alone) history → IsLegal Alone history
legal history run = legal_by (Identity ∷ []) plain_kept refl 0 history run

-- ---- the entries

abbrev Adopting : Entry
Adopting = record {
  line = record { seat = 0; did = Adopt 0; held = None; gave = Adopted 0; faults = 0 };
  published = Some Plain;
  row = None;
  replaced = None;
}

abbrev Putting : Entry
Putting = record {
  line = record {
    seat = 0;
    did = Put Path Resource [];
    held = Some 0;
    gave = Written 1;
    faults = 0;
  };
  published = Some Plain;
  row = Some Stored;
  replaced = None;
}

adopting_steps : IsStep Alone (start_of Alone) Adopting
adopting_steps = record {
  seat = omega arith;
  held = refl;
  rules = omega arith;
  answer = (refl, refl);
  writes = tt;
  counted = omega arith;
  faults = refl;
  payload = refl;
  reaches = record { row = omega arith; replaced = omega arith; generation = omega arith };
}

putting_steps : IsStep Alone (after (start_of Alone) Adopting) Putting
putting_steps = record {
  seat = omega arith;
  held = refl;
  rules = (is_path, is_resource, All-nil _);
  answer = (refl, refl);
  writes = (
    put_of Path Resource [] None,
    (Plain, refl, record { stored = []; sealing = empty_sealed []; row_is = refl }),
    lit≤ tt,
    refl,
  );
  counted = omega arith;
  faults = refl;
  payload = refl;
  reaches = record { row = lit≤ tt; replaced = lit≤ tt; generation = omega arith };
}

-- ---- the verdict at the beginning: nothing is stored, and no other is in

alone_beside : (rows : List ConfigEntry) → AreBeside (start_of Alone) 0 rows → ⊥
alone_beside rows (number, inl (zero, other, current), is) = other refl
alone_beside rows (number, inl (suc k, other, current), is) = none-some number current
alone_beside rows (number, inr held, is) = elim (cases None (Some number) [] held) [
  | inl e ↦ none-some number e
  | inr n ↦ absurd (omega (arith, n.1))
]

keyed_reads : ReadAt (start_of Alone) 0 Keyed
keyed_reads = record {
  stored = λ resource who is. absurd (none-some is.1.0 is.1.1);
  written = λ other class beside. absurd (alone_beside other beside);
  are_read = λ other class beside. absurd (alone_beside other beside);
}

pub pass_then_loss : PassThenLoss
unfolding prefix
pass_then_loss = record {
  opening = Alone;
  replica = 0;
  rows = Keyed;
  passes = (pass_means_read Alone [] 0 Keyed (legal [] tt)).1 keyed_reads;
  meanwhile = Adopting ∷ Putting ∷ [];
  legal = legal (Adopting ∷ Putting ∷ []) (adopting_steps, (putting_steps, tt));
  none_brought = λ e c. elim (cases Adopting e (Putting ∷ []) c) [
    | inl is ↦ ap (λ (x : Entry). brings_settings x.line.did) (sym is)
    | inr n ↦ elim (cases Putting e [] n) [
      | inl is ↦ ap (λ (x : Entry). brings_settings x.line.did) (sym is)
      | inr m ↦ absurd (omega (arith, m.1))
    ]
  ];
  path = Path;
  row = Stored;
  stored = refl;
  unread = refl;
}
