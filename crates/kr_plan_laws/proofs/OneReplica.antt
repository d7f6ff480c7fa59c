-- Histories as values begin here: one replica with one list for all resources, over an empty store.
use Rattle.std.proofs.Common.{◌≡◌, ℕ, false, List, [], ◌∷◌, Contains, None, Some, IfSome, IsTrue, refl, sym, subst, inl, inr, lit≤}
use Rattle.std.specs.Prelude.{All}
use Rattle.std.specs.List.Sorted.{IsStrictlySortedBy}
use Rattle.std.proofs.lemmas.List.Elements.{All-cons, All-nil}
use Rattle.std.proofs.lemmas.Option.{none-some, same_Some}
use Rattle.kr_base.specs.Rules.{IsPath, IsGraphic, IsResource, IsLabel, IsLabelByte}
use Rattle.kr_store.specs.declared.format.Format.TheVariants.{One}
use Rattle.kr_store.specs.declared.rows.Row.{Row}
use Rattle.kr_config.specs.declared.pattern.Pattern.TheVariants as pattern
use Rattle.kr_config.specs.declared.who.Who.{Who}
use Rattle.kr_config.specs.declared.who.Who.TheVariants.{Identity}
use Rattle.kr_config.specs.Kept.{ConfigEntry, keeps, plugins_in}
use Rattle.kr_config.specs.Lists.{class_list}
use Rattle.kr_config.proofs.ListParts.{cases}
use Rattle.kr_provider.specs.Publication.{Publication, IsPublished}
use Rattle.kr_provider.specs.Sealing.{IsSealing}
use Rattle.kr_judge.specs.Fits.{ReadsWriter}
use Rattle.kr_judge.proofs.Lacking.{reads_own}
use Rattle.kr_opening.specs.Replicas.{settings_of}
use Rattle.kr_opening.specs.Starts.{AllFit}
use Rattle.kr_rollout.specs.declared.opening.Entry.{Entry}
use Rattle.kr_rollout.specs.declared.opening.Opening.{Opening}
use Rattle.kr_rollout.specs.Fits.{IsFit}
use Rattle.kr_rollout.specs.Histories.{IsRun, IsLegal}
use Rattle.kr_rollout.specs.Openings.{start_of, IsOpening, IsAdmitted}
use Rattle.kr_history.proofs.Judging.{opening_fits}
use Rattle.kr_plan_laws.proofs.Lives.{none_in}

-- ---- a configuration of one list for all resources

abbrev pub all_by : List Who → Publication
all_by list = record {
  rows = record { patterns = pattern.All ∷ []; providers = list } ∷ [];
  seeds = [];
}

module _ (list : List Who) (kept : IsTrue (keeps (all_by list).rows))
    (none : plugins_in (all_by list).rows ≡ []) where
  pub published : IsPublished (all_by list)
  unfolding IsStrictlySortedBy
  published = record {
    kept = kept;
    ascend = tt;
    names = λ name. (
      (λ c. absurd (none_in name c)),
      (λ c. absurd (none_in name (subst (λ l. Contains l name) none c))),
    );
    seeds = All-nil _;
  }

  pub admitted : IsAdmitted [] (all_by list)
  admitted = (
    published,
    subst (All (λ name. Contains [] name)) (sym none) (All-nil (λ name. Contains [] name)),
  )

-- ---- the opening: one seat, which may bring so many configurations

abbrev pub opening_with : List Who → (reloads : ℕ) → Opening
opening_with list reloads = record {
  format = One;
  rows = [];
  replicas = Some (all_by list) ∷ [];
  names = [];
  reloads = reloads ∷ [];
  limit = 1048576;
  count = 0;
  torn = false;
}

module _ (list : List Who) (kept : IsTrue (keeps (all_by list).rows))
    (none : plugins_in (all_by list).rows ≡ []) (reloads : ℕ) where
  opens : IsOpening (opening_with list reloads)
  opens = record {
    rows = tt;
    first = refl;
    admitted = All-cons (λ replica. IfSome replica (IsAdmitted [])) (Some (all_by list)) []
        (admitted list kept none) (All-nil _);
    readable = λ path row is. absurd (none-some row is);
    secrets = λ path other. absurd (none-some other.0 other.2);
  }

  only : (rows : List ConfigEntry) → Contains (settings_of (Some (all_by list) ∷ [])) (Some rows)
      → (all_by list).rows ≡ rows
  only rows c = elim (cases (Some (all_by list).rows) (Some rows) [] c) [
    | inl e ↦ same_Some (all_by list).rows rows e
    | inr n ↦ absurd (none_in (Some rows) n)
  ]

  all_fit : AllFit (settings_of (Some (all_by list) ∷ [])) []
  all_fit = record {
    writers = λ rows other class a b.
        subst (λ (x : List ConfigEntry). ReadsWriter (class_list x class) (class_list rows class))
        (only other b)
        (subst (λ (x : List ConfigEntry). ReadsWriter (class_list (all_by list).rows class)
        (class_list x class)) (only rows a) (reads_own (class_list (all_by list).rows class)));
    stored = λ rows need live there. absurd (none_in need there);
  }

  fits : IsFit (start_of (opening_with list reloads))
  fits = (opening_fits (opening_with list reloads)).0 all_fit

  pub legal_by : (history : List Entry)
      → IsRun (opening_with list reloads) (start_of (opening_with list reloads)) history
      → IsLegal (opening_with list reloads) history
  legal_by history run = record { opens = opens; fit = fits; runs = run }

-- ---- an object: its data are empty, as they stand

abbrev pub Path : List ℕ
Path = 0x2F ∷ 0x73 ∷ []

abbrev pub Resource : List ℕ
Resource = 0x73 ∷ []

abbrev pub Stored : Row
Stored = record { path = Path; resource = Resource; revision = 1; stored = []; check = None }

pub is_path : IsPath Path
is_path = (
  lit≤ tt,
  lit≤ tt,
  All-cons IsGraphic 0x2F (0x73 ∷ []) (lit≤ tt, lit≤ tt)
      (All-cons IsGraphic 0x73 [] (lit≤ tt, lit≤ tt) (All-nil IsGraphic)),
)

pub is_resource : IsResource Resource
is_resource = (
  lit≤ tt,
  record {
    labels = Resource ∷ [];
    some = lit≤ tt;
    each = All-cons IsLabel Resource [] (
      lit≤ tt,
      All-cons IsLabelByte 0x73 [] (inl (lit≤ tt, lit≤ tt)) (All-nil IsLabelByte),
    ) (All-nil IsLabel);
    parted = refl;
  },
)

pub empty_sealed : (list : List Who) → IsSealing (all_by (Identity ∷ list)) Resource Path [] []
empty_sealed list = record {
  plain_is = All-nil _;
  drawn = [];
  fits = (refl, All-nil _);
  is = refl;
}
