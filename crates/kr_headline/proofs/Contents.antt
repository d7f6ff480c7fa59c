-- What stands at a path behind some entries reads as the content there.
use Rattle.std.specs.Prelude.{if◌then◌else◌}
use Rattle.std.specs.Option.{option_map}
use Rattle.std.specs.Str.{bytes_eq}
use Rattle.std.proofs.Common.{◌≡◌, ℕ, Bool, true, false, List, [], ◌∷◌, Option, None, Some, refl, ap, sym, subst, ◌∙◌}
use Rattle.kr_kms.specs.Opens.{Opens}
use Rattle.kr_provider.specs.Reading.{Reading}
use Rattle.kr_store.specs.Rows.{later, live}
use Rattle.kr_store.specs.declared.rows.Row.{Row}
use Rattle.kr_config.specs.Kept.{ConfigEntry as setting}
use Rattle.kr_history.specs.Contents.{ContentBy, ContentChange, IsContent, OpeningContent, change_at, deletes, last_change, puts}
use Rattle.kr_rollout.specs.Openings.{first_of}
use Rattle.kr_rollout.specs.declared.line.Did.{Did}
use Rattle.kr_rollout.specs.declared.line.Did.TheVariants as did
use Rattle.kr_rollout.specs.declared.line.Gave.{Gave}
use Rattle.kr_rollout.specs.declared.line.Gave.TheVariants as gave
use Rattle.kr_rollout.specs.declared.opening.Entry.{Entry}
use Rattle.kr_rollout.specs.declared.opening.Opening.{Opening}
use Rattle.kr_headline.specs.Headline.{Object, object_after}
use Rattle.kr_headline.proofs.Folds.{object_from, reading_of}

-- ---- data

-- whether something stands there, and the data that were put
abbrev pub data_in : Option Object → Option (Option (List ℕ))
data_in now = option_map (λ (it : Object). it.data_put) now

abbrev pub by_change : Option ContentChange → Option (Option (List ℕ)) → Option (Option (List ℕ))
by_change None now = now
by_change (Some (puts plain)) now = Some (Some plain)
by_change (Some deletes) now = None

later_change : (a b : Option ContentChange) (now : Option (Option (List ℕ)))
    → by_change (later a b) now ≡ by_change a (by_change b now)
later_change None b now = refl
later_change (Some (puts plain)) b now = refl
later_change (Some deletes) b now = refl

put_changed : (plain : List ℕ) (revision : ℕ) (now : Option Object) (b : Bool)
    → data_in (if b then Some (record { revision = revision; data_put = Some plain }) else now)
    ≡ by_change (if b then Some (puts plain) else None) (data_in now)
put_changed plain revision now true = refl
put_changed plain revision now false = refl

delete_changed : (now : Option Object) (b : Bool)
    → data_in (if b then None else now)
    ≡ by_change (if b then Some deletes else None) (data_in now)
delete_changed now true = refl
delete_changed now false = refl

renewed_same : (revision : ℕ) (now : Option Object)
    → data_in (option_map (λ (it : Object). record it { revision = revision }) now) ≡ data_in now
renewed_same revision None = refl
renewed_same revision (Some object) = refl

replace_changed : (revision : ℕ) (now : Option Object) (b : Bool)
    → data_in (if b then option_map (λ (it : Object). record it { revision = revision }) now
    else now) ≡ data_in now
replace_changed revision now true = renewed_same revision now
replace_changed revision now false = refl

changed_is : (given : Gave) (done : Did) (path : List ℕ) (now : Option Object)
    → data_in (object_after given done path now)
    ≡ by_change (change_at given done path) (data_in now)
changed_is (gave.Written revision) (did.Put own resource plain) path now =
    put_changed plain revision now (bytes_eq own path)
changed_is (gave.Written revision) (did.Delete own) path now =
    delete_changed now (bytes_eq own path)
changed_is (gave.Written revision) (did.Replace own from) path now =
    replace_changed revision now (bytes_eq own path)
changed_is given done path now = refl

pub data_from : (path : List ℕ) (front : List Entry) (now : Option Object)
    → data_in (object_from path now front) ≡ by_change (last_change front path) (data_in now)
data_from path [] now = refl
data_from path (e ∷ front) now =
    data_from path front (object_after e.line.gave e.line.did path now)
    ∙ ap (by_change (last_change front path)) (changed_is e.line.gave e.line.did path now)
    ∙ sym (later_change (last_change front path) (change_at e.line.gave e.line.did path)
    (data_in now))

-- ---- the content

-- how it reads
abbrev pub content_of : Option (Option (List ℕ)) → (at_start : Option Reading) → Option Reading
content_of None at_start = None
content_of (Some those) at_start = reading_of those at_start

abbrev pub object_of : Option Row → Option Object
object_of row = option_map (λ revision. record { revision = revision; data_put = None })
    (option_map (λ (it : Row). it.revision) row)

opening_content : (opens : Opens) (first : List setting) (path : List ℕ) (row : Option Row)
    (at_start : Option Reading) → OpeningContent opens first path row at_start
    → OpeningContent opens first path row (content_of (data_in (object_of row)) at_start)
opening_content opens first path None at_start reads = refl
opening_content opens first path (Some row) at_start reads = reads

content_by : (opens : Opens) (o : Opening) (path : List ℕ) (at_start : Option Reading)
    → OpeningContent opens (first_of o) path (live o.rows path) at_start
    → (change : Option ContentChange) → ContentBy change opens o path
    (content_of (by_change change (data_in (object_of (live o.rows path)))) at_start)
content_by opens o path at_start reads None =
    opening_content opens (first_of o) path (live o.rows path) at_start reads
content_by opens o path at_start reads (Some (puts plain)) = refl
content_by opens o path at_start reads (Some deletes) = refl

pub content_holds : (opens : Opens) (o : Opening) (path : List ℕ) (at_start : Option Reading)
    → OpeningContent opens (first_of o) path (live o.rows path) at_start → (front : List Entry)
    → IsContent opens o front path (content_of
    (data_in (object_from path (object_of (live o.rows path)) front)) at_start)
content_holds opens o path at_start reads front =
    subst (λ d. IsContent opens o front path (content_of d at_start))
    (sym (data_from path front (object_of (live o.rows path))))
    (content_by opens o path at_start reads (last_change front path))
