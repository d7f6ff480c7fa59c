-- Two lists of steps that go on alike: they ask for the same, but for what one of them unwraps or
-- finds alone, and give what is related. So a source may be unwrapped here and be kept there.
use Rattle.std.proofs.Common.{◌≡◌, ℕ, List, Option, Ok, refl, subst}
use Rattle.kr_kms.specs.Exchanges.{Exchange, UnwrapCall}
use Rattle.kr_kms.specs.declared.plugin.Status.{Status}
use Rattle.kr_kms.specs.declared.plugin.Wrapped.{Wrapped}
use Rattle.kr_kms.specs.declared.seeds.SeedKey.{SeedKey}
use Rattle.kr_kms.specs.declared.world.Access.{Access}
use Rattle.kr_store.specs.declared.rows.LogRow.{LogRow}
use Rattle.kr_cmd_messages.specs.declared.refusal.Object.{Object}
use Rattle.kr_cmd_messages.specs.declared.refusal.Refusal.{Refusal}
use Rattle.kr_cmd_steps.specs.Steps.{Steps, load, take_input, borrow_dice, borrow_tape, read_tape, write_row, keep_rows, settle, give_back, draw, borrow_link, ask_status, wrap, unwrap, note, find, refuse, give, and_then}
use Rattle.kr_cmd_steps.specs.StoreFiles.{Stored}
use Rattle.kr_cmd_steps.specs.Telling.{AnswersOnce, IsAmong}
use Rattle.kr_cmd_laws.proofs.Plain.{IsPlain}

abbrev pub Same : {A : Type 0} → A → A → Type 0
Same x y = x ≡ y

pub data GoAlike (exchanges : Option (List Exchange)) {A B : Type 0} (R : A → B → Type 0)
    : Steps A → Steps B → Type 1 where
  loads : (name : List ℕ) (next : Option (List ℕ) → Steps A)
      (more : Option (List ℕ) → Steps B)
      → ((bytes : Option (List ℕ)) → GoAlike exchanges R (next bytes) (more bytes))
      → GoAlike exchanges R (load name next) (load name more)
  takes : (limit : ℕ) (long : Refusal) (next : List ℕ → Steps A)
      (more : List ℕ → Steps B)
      → ((bytes : List ℕ) → GoAlike exchanges R (next bytes) (more bytes))
      → GoAlike exchanges R (take_input limit long next) (take_input limit long more)
  borrows_dice : (seat : ℕ) (next : Steps A) (more : Steps B)
      → GoAlike exchanges R next more
      → GoAlike exchanges R (borrow_dice seat next) (borrow_dice seat more)
  borrows_tape : (name : List ℕ) (access : Access) (absent : Refusal) (next : Steps A) (more : Steps B)
      → GoAlike exchanges R next more
      → GoAlike exchanges R (borrow_tape name access absent next) (borrow_tape name access absent more)
  reads_tape : (object : Object) (name : List ℕ) (next : List ℕ → Steps A)
      (more : List ℕ → Steps B)
      → ((bytes : List ℕ) → GoAlike exchanges R (next bytes) (more bytes))
      → GoAlike exchanges R (read_tape object name next) (read_tape object name more)
  writes_row : (object : Object) (name : List ℕ) (store : Stored) (row : LogRow) (next : Steps A) (more : Steps B)
      → GoAlike exchanges R next more
      → GoAlike exchanges R (write_row object name store row next) (write_row object name store row more)
  keeps_rows : (name : List ℕ) (store : Stored) (next : Steps A) (more : Steps B)
      → GoAlike exchanges R next more
      → GoAlike exchanges R (keep_rows name store next) (keep_rows name store more)
  settles : (object : Object) (name : List ℕ) (next : Steps A) (more : Steps B)
      → GoAlike exchanges R next more
      → GoAlike exchanges R (settle object name next) (settle object name more)
  gives_back : (name : List ℕ) (next : Steps A) (more : Steps B)
      → GoAlike exchanges R next more
      → GoAlike exchanges R (give_back name next) (give_back name more)
  draws : (seat size : ℕ) (next : List ℕ → Steps A)
      (more : List ℕ → Steps B)
      → ((bytes : List ℕ) → GoAlike exchanges R (next bytes) (more bytes))
      → GoAlike exchanges R (draw seat size next) (draw seat size more)
  borrows_link : (seat : ℕ) (plugin program : List ℕ) (next : Steps A) (more : Steps B)
      → GoAlike exchanges R next more
      → GoAlike exchanges R (borrow_link seat plugin program next) (borrow_link seat plugin program more)
  asks : (seat : ℕ) (plugin : List ℕ) (next : Status → Steps A)
      (more : Status → Steps B)
      → ((status : Status) → GoAlike exchanges R (next status) (more status))
      → GoAlike exchanges R (ask_status seat plugin next) (ask_status seat plugin more)
  wraps : (seat : ℕ) (plugin plain : List ℕ) (next : Wrapped → Steps A)
      (more : Wrapped → Steps B)
      → ((wrapped : Wrapped) → GoAlike exchanges R (next wrapped) (more wrapped))
      → GoAlike exchanges R (wrap seat plugin plain next) (wrap seat plugin plain more)
  notes : (text : List ℕ) (next : Steps A) (more : Steps B)
      → GoAlike exchanges R next more
      → GoAlike exchanges R (note text next) (note text more)
  first_unwraps : (seat : ℕ) (key : SeedKey) (next : List ℕ → Steps A) (other : Steps B)
      → ((bytes : List ℕ) → IsAmong exchanges (UnwrapCall key (Ok bytes))
      → GoAlike exchanges R (next bytes) other)
      → GoAlike exchanges R (unwrap seat key next) other
  second_unwraps : (seat : ℕ) (key : SeedKey) (other : Steps A) (more : List ℕ → Steps B)
      → ((bytes : List ℕ) → IsAmong exchanges (UnwrapCall key (Ok bytes))
      → GoAlike exchanges R other (more bytes))
      → GoAlike exchanges R other (unwrap seat key more)
  first_finds : (C : Type 0) (P : C → Type 0) (next : C → Steps A) (other : Steps B)
      → ((c : C) → P c → GoAlike exchanges R (next c) other)
      → GoAlike exchanges R (find C P next) other
  second_finds : (C : Type 0) (P : C → Type 0) (other : Steps A) (more : C → Steps B)
      → ((c : C) → P c → GoAlike exchanges R other (more c))
      → GoAlike exchanges R other (find C P more)
  refuse_both : (why : Refusal) → GoAlike exchanges R (refuse why) (refuse why)
  give_both : (x : A) (y : B) → R x y → GoAlike exchanges R (give x) (give y)

-- ---- steps that go on alike from whatever they find

abbrev pub IsOne : {A : Type 0} → Steps A → Type 1
IsOne (load name next) = (bytes : Option (List ℕ)) → IsOne (next bytes)
IsOne (take_input limit long next) = (bytes : List ℕ) → IsOne (next bytes)
IsOne (borrow_dice seat next) = IsOne next
IsOne (borrow_tape name access absent next) = IsOne next
IsOne (read_tape object name next) = (bytes : List ℕ) → IsOne (next bytes)
IsOne (write_row object name store row next) = IsOne next
IsOne (keep_rows name store next) = IsOne next
IsOne (settle object name next) = IsOne next
IsOne (draw seat size next) = (bytes : List ℕ) → IsOne (next bytes)
IsOne (borrow_link seat plugin program next) = IsOne next
IsOne (ask_status seat plugin next) = (status : Status) → IsOne (next status)
IsOne (wrap seat plugin plain next) = (wrapped : Wrapped) → IsOne (next wrapped)
IsOne (unwrap seat key next) = (bytes : List ℕ) → IsOne (next bytes)
IsOne (give_back name next) = IsOne next
IsOne (note text next) = IsOne next
IsOne (find B P next) =
    ((b c : B) → P b → P c → next b ≡ next c) × ((b : B) → P b → IsOne (next b))
IsOne (refuse why) = Unit {1}
IsOne (give x) = Unit {1}

-- steps that read alone do
pub plain_finds : {A : Type 0} (s : Steps A) → IsPlain s → IsOne s
plain_finds (load name next) p = λ bytes. plain_finds (next bytes) (p bytes)
plain_finds (take_input limit long next) p = λ bytes. plain_finds (next bytes) (p bytes)
plain_finds (borrow_tape name access absent next) p = plain_finds next p.1
plain_finds (read_tape object name next) p = λ bytes. plain_finds (next bytes) (p bytes)
plain_finds (give_back name next) p = plain_finds next p
plain_finds (find B P next) p = (p.0, λ b is. plain_finds (next b) (p.1 b))
plain_finds (refuse why) p = tt
plain_finds (give x) p = tt
plain_finds next p = absurd (p tt)

module _ (exchanges : Option (List Exchange)) where
  -- such steps go on alike with themselves
  pub itself : AnswersOnce exchanges → {A : Type 0} (s : Steps A) → IsOne s
      → GoAlike exchanges Same s s
  itself once (load name next) one =
      loads name next next (λ bytes. itself once (next bytes) (one bytes))
  itself once (take_input limit long next) one =
      takes limit long next next (λ bytes. itself once (next bytes) (one bytes))
  itself once (borrow_dice seat next) one =
      borrows_dice seat next next (itself once next one)
  itself once (borrow_tape name access absent next) one =
      borrows_tape name access absent next next (itself once next one)
  itself once (read_tape object name next) one =
      reads_tape object name next next (λ bytes. itself once (next bytes) (one bytes))
  itself once (write_row object name store row next) one =
      writes_row object name store row next next (itself once next one)
  itself once (keep_rows name store next) one =
      keeps_rows name store next next (itself once next one)
  itself once (settle object name next) one =
      settles object name next next (itself once next one)
  itself once (give_back name next) one =
      gives_back name next next (itself once next one)
  itself once (draw seat size next) one =
      draws seat size next next (λ bytes. itself once (next bytes) (one bytes))
  itself once (borrow_link seat plugin program next) one =
      borrows_link seat plugin program next next (itself once next one)
  itself once (ask_status seat plugin next) one =
      asks seat plugin next next (λ status. itself once (next status) (one status))
  itself once (wrap seat plugin plain next) one =
      wraps seat plugin plain next next (λ wrapped. itself once (next wrapped) (one wrapped))
  itself once (note text next) one =
      notes text next next (itself once next one)
  itself once (unwrap seat key next) one =
      first_unwraps seat key next (unwrap seat key next) (λ a is.
      second_unwraps seat key (next a) next (λ b also.
      subst (λ v. GoAlike exchanges Same (next a) (next v)) (once key b a also is)
      (itself once (next a) (one a))))
  itself once (find B P next) one = first_finds B P next (find B P next) (λ b x.
      second_finds B P (next b) next (λ c y. subst (λ v. GoAlike exchanges Same (next b) v)
      (one.0 b c x y) (itself once (next b) (one.1 b x))))
  itself once (refuse why) one = refuse_both why
  itself once (give x) one = give_both x x refl

  -- ---- and what follows them

  module _ {A B C D : Type 0} (R : A → B → Type 0) (S : C → D → Type 0) (f : A → Steps C)
      (g : B → Steps D) (on : (x : A) (y : B) → R x y → GoAlike exchanges S (f x) (g y)) where
    pub alike_then : (s : Steps A) (t : Steps B) → GoAlike exchanges R s t
        → GoAlike exchanges S (and_then s f) (and_then t g)
    alike_then _ _ (loads name next more each) = loads name _ _
        (λ bytes. alike_then (next bytes) (more bytes) (each bytes))
    alike_then _ _ (takes limit long next more each) = takes limit long _ _
        (λ bytes. alike_then (next bytes) (more bytes) (each bytes))
    alike_then _ _ (borrows_dice seat next more each) =
        borrows_dice seat _ _ (alike_then next more each)
    alike_then _ _ (borrows_tape name access absent next more each) =
        borrows_tape name access absent _ _ (alike_then next more each)
    alike_then _ _ (reads_tape object name next more each) = reads_tape object name _ _
        (λ bytes. alike_then (next bytes) (more bytes) (each bytes))
    alike_then _ _ (writes_row object name store row next more each) =
        writes_row object name store row _ _ (alike_then next more each)
    alike_then _ _ (keeps_rows name store next more each) =
        keeps_rows name store _ _ (alike_then next more each)
    alike_then _ _ (settles object name next more each) =
        settles object name _ _ (alike_then next more each)
    alike_then _ _ (gives_back name next more each) =
        gives_back name _ _ (alike_then next more each)
    alike_then _ _ (draws seat size next more each) = draws seat size _ _
        (λ bytes. alike_then (next bytes) (more bytes) (each bytes))
    alike_then _ _ (borrows_link seat plugin program next more each) =
        borrows_link seat plugin program _ _ (alike_then next more each)
    alike_then _ _ (asks seat plugin next more each) = asks seat plugin _ _
        (λ status. alike_then (next status) (more status) (each status))
    alike_then _ _ (wraps seat plugin plain next more each) = wraps seat plugin plain _ _
        (λ wrapped. alike_then (next wrapped) (more wrapped) (each wrapped))
    alike_then _ _ (notes text next more each) =
        notes text _ _ (alike_then next more each)
    alike_then _ t (first_unwraps seat key next other each) = first_unwraps seat key _ _
        (λ bytes is. alike_then (next bytes) other (each bytes is))
    alike_then s _ (second_unwraps seat key other more each) = second_unwraps seat key _ _
        (λ bytes is. alike_then other (more bytes) (each bytes is))
    alike_then _ t (first_finds E P next other each) = first_finds E P _ _
        (λ c is. alike_then (next c) other (each c is))
    alike_then s _ (second_finds E P other more each) = second_finds E P _ _
        (λ c is. alike_then other (more c) (each c is))
    alike_then _ _ (refuse_both why) = refuse_both why
    alike_then _ _ (give_both x y is) = on x y is
