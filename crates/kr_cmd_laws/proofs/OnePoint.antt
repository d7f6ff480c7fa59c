-- Over told files and a told input the steps of a command come to one point, but for what is drawn
-- and for what cuts them short.
use Rattle.std.proofs.Common.{◌≡◌, ℕ, ◌≤◌, List, ◌++◌, length, Option, None, Some, Result, Ok, Err, refl, sym, ◌∙◌, ap, subst, inl, inr, append-nil, length-append, arith}
use Rattle.std.specs.Prelude.{◌⊎◌, Bool, true, false, IsSome}
use Rattle.std.specs.Io.KnownBytes.{Consumes, IsAtEnd}
use Rattle.kr_base.specs.Told.{Agrees}
use Rattle.kr_kms.specs.declared.world.WorldCall.TheVariants.{File, Tape, RandomSource, Link, Settled, Returned}
use Rattle.kr_cmd_steps.specs.Steps.{Steps, load, take_input, borrow_dice, borrow_tape, read_tape, write_row, keep_rows, settle, give_back, draw, note, find, refuse, give, Call, Point, amid, awaits, refuses, gives, IsAt, StepState, with_input, with_dice, with_tape, with_told, with_asked, with_heard, with_said, RunTo, borrow_link, ask_status, wrap, unwrap}
use Rattle.kr_kms.specs.Exchanges.{Exchange, StatusCall}
use Rattle.kr_kms.specs.Limits.{IsWithinLimits}
use Rattle.kr_kms.specs.declared.plugin.Status.{Status}
use Rattle.kr_kms.specs.declared.plugin.Wrapped.{Wrapped}
use Rattle.kr_kms.specs.Outside.{makes}
use Rattle.kr_cmd_steps.specs.Ran.{end_at}
use Rattle.kr_cmd_messages.specs.declared.refusal.Stop.{Stop}
use Rattle.kr_cmd_messages.specs.declared.refusal.Stop.TheVariants.{Refused}
use Rattle.kr_cmd_messages.specs.declared.refusal.Done.{Done}
use Rattle.kr_cmd_messages.specs.declared.refusal.Outcome.{Outcome}

-- two points don't end a command in two ways
abbrev pub Alike : Point Outcome → Point Outcome → Type 0
Alike p q = (m n : Result Done Stop) → end_at p ≡ Some m → end_at q ≡ Some n → m ≡ n

no_first : (p q a : Point Outcome) → end_at a ≡ None → p ≡ a → Alike p q
no_first p q a none e m n x y =
    absurd (let x_at : end_at a ≡ Some m = ap end_at (sym e) ∙ x in cc)

no_second : (p q b : Point Outcome) → end_at b ≡ None → q ≡ b → Alike p q
no_second p q b none f m n x y =
    absurd (let y_at : end_at b ≡ Some n = ap end_at (sym f) ∙ y in cc)

pub alike_at : {p q : Point Outcome} (a b : Point Outcome) → end_at a ≡ end_at b → p ≡ a → q ≡ b
    → Alike p q
alike_at a b h e f m n x y =
    let both : Some m ≡ Some n = sym x ∙ ap end_at e ∙ h ∙ sym (ap end_at f) ∙ y in cc

-- two lists of steps go one way over what is told, whatever they draw and find, to one refusal or
-- to values that end alike
abbrev pub IsSettled : (first second : Steps Outcome) → (left right : StepState) → Type 0
IsSettled (load name next) (load other more) left right =
    IsSome (left.file name) × (right.file other ≡ left.file name)
    × ((bytes : Option (List ℕ)) → Agrees (left.file name) bytes → IsSettled (next bytes) (more bytes)
    (with_asked (File name) left) (with_asked (File other) right))
IsSettled (take_input limit long next) (take_input most much more) left right =
    (most ≡ limit) × (much ≡ long) × IsSome left.input × (right.input ≡ left.input)
    × ((bytes : List ℕ) (rest : Option (List ℕ)) → IsSettled (next bytes) (more bytes)
    (with_input rest left) (with_input rest right))
IsSettled (borrow_dice seat next) (borrow_dice other more) left right =
    IsSettled next more (with_asked (RandomSource seat) left) (with_asked (RandomSource other) right)
IsSettled (borrow_tape name access absent next) (borrow_tape other also cause more) left right =
    IsSome (left.tapes name) × (right.tapes other ≡ left.tapes name) × (also ≡ access)
    × (cause ≡ absent)
    × IsSettled next more (with_tape (makes access) name (with_asked (Tape name access) left))
    (with_tape (makes also) other (with_asked (Tape other also) right))
IsSettled (read_tape object name next) (read_tape thing other more) left right =
    IsSome (left.tapes name) × (right.tapes other ≡ left.tapes name)
    × ((bytes : List ℕ) → IsSettled (next bytes) (more bytes) left right)
IsSettled (write_row object name store row next) (write_row thing other held line more) left right =
    (a b : Option (List ℕ)) → IsSettled next more (with_told name a left) (with_told other b right)
IsSettled (keep_rows name store next) (keep_rows other held more) left right =
    (a b : Option (List ℕ)) → IsSettled next more (with_told name a left) (with_told other b right)
IsSettled (settle object name next) (settle thing other more) left right =
    IsSettled next more (with_asked (Settled name) left) (with_asked (Settled other) right)
IsSettled (draw seat size next) (draw other count more) left right =
    (a b : List ℕ) (ra rb : Option (List ℕ)) → length a ≡ size → length b ≡ count
    → IsSettled (next a) (more b) (with_dice seat ra left) (with_dice other rb right)
IsSettled (borrow_link seat plugin program next) (borrow_link other name file more) left right =
    IsSettled next more (with_asked (Link seat plugin program) left)
    (with_asked (Link other name file) right)
IsSettled (ask_status seat plugin next) (ask_status other name more) left right =
    IsSome (left.links (seat, plugin)) × (right.links (other, name) ≡ left.links (seat, plugin))
    × ((status : Status) (h k : Option (List Exchange)) → IsSettled (next status) (more status)
    (record left { heard = h }) (record right { heard = k }))
IsSettled (wrap seat plugin plain next) (wrap other name bytes more) left right =
    (a b : Wrapped) → IsWithinLimits a → IsWithinLimits b → (h k : Option (List Exchange))
    → IsSettled (next a) (more b) (record left { heard = h }) (record right { heard = k })
IsSettled (unwrap seat key next) (unwrap other name more) left right =
    (a b : List ℕ) (h k : Option (List Exchange))
    → IsSettled (next a) (more b) (record left { heard = h }) (record right { heard = k })
IsSettled (give_back name next) (give_back other more) left right =
    IsSettled next more (with_asked (Returned name) left) (with_asked (Returned other) right)
IsSettled (note text next) (note other more) left right =
    IsSettled next more (with_said text left) (with_said other right)
IsSettled (find B P next) (find C Q more) left right =
    (b : B) (c : C) → P b → Q c → IsSettled (next b) (more c) left right
IsSettled (refuse why) (refuse cause) left right = cause ≡ why
IsSettled (give made) (give other) left right = other.done ≡ made.done
IsSettled first second left right = ⊥

pub one_file : (told : Option (Option (List ℕ))) (a b : Option (List ℕ)) → IsSome told → Agrees told a
    → Agrees told b → b ≡ a
one_file None a b t x y = absurd cc
one_file (Some f) a b t x y = sym y ∙ x

-- a told tape that may not be made isn't borrowed where it is absent
no_tape : (told : Option (Option (List ℕ))) (make also : Bool) → IsSome told → Agrees told None
    → (told ≡ Some None → also ≡ true) → also ≡ make → make ≡ false → ⊥
no_tape None make also t x may e f = absurd cc
no_tape (Some tape) make also t x may e f =
    absurd (let y : true ≡ false = sym (may (ap Some x)) ∙ e ∙ f in cc)

pub one_tape : (told : Option (Option (List ℕ))) (a b : List ℕ) → IsSome told → Agrees told (Some a)
    → Agrees told (Some b) → b ≡ a
one_tape None a b t x y = absurd cc
one_tape (Some tape) a b t x y = let e : Some b ≡ Some a = sym y ∙ x in cc

one_status : (told : Option Status) (a b : Status) → IsSome told → Agrees told a
    → Agrees told b → b ≡ a
one_status None a b t x y = absurd cc
one_status (Some s) a b t x y = sym y ∙ x

by_input : {a b : Option (List ℕ)} (rest : Option (List ℕ)) (bytes : List ℕ) → b ≡ a
    → Consumes b rest bytes → Consumes a rest bytes
by_input rest bytes e c = subst (λ o. Consumes o rest bytes) e c

-- what is taken of a told input is no longer than the whole, which is one
part : (a b : List ℕ) (old ra rb : Option (List ℕ)) → IsSome old → Consumes old ra a
    → Consumes old rb b → IsAtEnd rb → length a ≤ length b
part a b (Some x) (Some r) (Some s) told c d e =
    omega (arith, ap length c, ap length d, ap length e, length-append a r, length-append b s)
part a b None ra rb told c d e = absurd cc
part a b (Some x) None rb told c d e = absurd c
part a b (Some x) (Some r) None told c d e = absurd d

whole : (a b : List ℕ) (old ra rb : Option (List ℕ)) → IsSome old → Consumes old ra a
    → Consumes old rb b → IsAtEnd ra → IsAtEnd rb → (b ≡ a) × (rb ≡ ra)
whole a b (Some x) (Some r) (Some s) told c d e f = (
  sym (append-nil b) ∙ ap (λ l. b ++ l) (sym f) ∙ sym d ∙ c ∙ ap (λ l. a ++ l) e ∙ append-nil a,
  ap (λ l. Some l) (f ∙ sym e),
)
whole a b None ra rb told c d e f = absurd cc
whole a b (Some x) None rb told c d e f = absurd c
whole a b (Some x) (Some r) None told c d e f = absurd d

module _ (p q : Point Outcome) (end last : StepState) where
  -- where steps stop before a call or at it they end nothing, so what follows it decides
  past_two : {G K : Type 0} {x y : Call} {before at under there : StepState}
      → IsAt p end amid before ⊎ IsAt p end (awaits x) at ⊎ G
      → IsAt q last amid under ⊎ IsAt q last (awaits y) there ⊎ K
      → (G → K → Alike p q) → Alike p q
  past_two (inl e) k both = no_first p q _ refl e.0
  past_two (inr (inl e)) k both = no_first p q _ refl e.0
  past_two (inr (inr g)) (inl f) both = no_second p q _ refl f.0
  past_two (inr (inr g)) (inr (inl f)) both = no_second p q _ refl f.0
  past_two (inr (inr g)) (inr (inr k)) both = both g k

  pub one_point : (first second : Steps Outcome) (left right : StepState)
      → IsSettled first second left right → RunTo p end first left → RunTo q last second right
      → Alike p q
  one_point (load name next) (load other more) left right s g k = past_two g k (λ g k.
      one_point (next g.0) (more g.0) _ _ (s.2 g.0 g.1) g.2
      (subst (λ c. RunTo q last (more c) (with_asked (File other) right))
      (one_file (left.file name) g.0 k.0 s.0 g.1 (subst (λ t. Agrees t k.0) s.1 k.1)) k.2))
  one_point (take_input limit long next) (take_input most much more) left right s
      (a, ra, ca, inl (x, e)) k =
      no_first p q _ refl e.0
  one_point (take_input limit long next) (take_input most much more) left right s
      (a, ra, ca, inr g) (b, rb, cb, inl (y, f)) =
      no_second p q _ refl f.0
  one_point (take_input limit long next) (take_input most much more) left right s
      (a, ra, ca, inr (inl (x, e))) (b, rb, cb, inr (inl (y, f))) =
      alike_at (refuses long) (refuses much) (ap (λ w. Some (Err (Refused w))) (sym s.1)) e.0 f.0
  one_point (take_input limit long next) (take_input most much more) left right s
      (a, ra, ca, inr (inl (x, e))) (b, rb, cb, inr (inr (y, f, k))) =
      absurd (let h = part a b left.input ra rb s.2 ca (by_input rb b s.3 cb) f in
      omega (arith, x, y, h, s.0))
  one_point (take_input limit long next) (take_input most much more) left right s
      (a, ra, ca, inr (inr (x, e, g))) (b, rb, cb, inr (inl (y, f))) =
      absurd (let h = part b a left.input rb ra s.2 (by_input rb b s.3 cb) ca e in
      omega (arith, x, y, h, s.0))
  one_point (take_input limit long next) (take_input most much more) left right s
      (a, ra, ca, inr (inr (x, e, g))) (b, rb, cb, inr (inr (y, f, k))) =
      let h = whole a b left.input ra rb s.2 ca (by_input rb b s.3 cb) e f in
      one_point (next a) (more a) _ _ (s.4 a ra) g
      (subst (λ r. RunTo q last (more a) (with_input r right)) h.1
      (subst (λ c. RunTo q last (more c) (with_input rb right)) h.0 k))
  one_point (borrow_dice seat next) (borrow_dice other more) left right s g k =
      past_two g k (λ g k. one_point next more _ _ s g k)
  one_point (borrow_tape name access absent next) (borrow_tape other also cause more) left right s
      (inl e) k =
      no_first p q _ refl e.0
  one_point (borrow_tape name access absent next) (borrow_tape other also cause more) left right s
      (inr (inl e)) k =
      no_first p q _ refl e.0
  one_point (borrow_tape name access absent next) (borrow_tape other also cause more) left right s
      (inr (inr g)) (inl f) =
      no_second p q _ refl f.0
  one_point (borrow_tape name access absent next) (borrow_tape other also cause more) left right s
      (inr (inr g)) (inr (inl f)) =
      no_second p q _ refl f.0
  one_point (borrow_tape name access absent next) (borrow_tape other also cause more) left right s
      (inr (inr (inl (asked, x, e)))) (inr (inr (inl (none, y, f)))) =
      alike_at (refuses absent) (refuses cause) (ap (λ w. Some (Err (Refused w))) (sym s.3)) e.0 f.0
  one_point (borrow_tape name access absent next) (borrow_tape other also cause more) left right s
      (inr (inr (inl (asked, x, e)))) (inr (inr (inr (may, k)))) =
      absurd (no_tape (left.tapes name) (makes access) (makes also) s.0 x (λ n. may (s.1 ∙ n))
      (ap makes s.2) asked)
  one_point (borrow_tape name access absent next) (borrow_tape other also cause more) left right s
      (inr (inr (inr (may, g)))) (inr (inr (inl (asked, y, f)))) =
      absurd (no_tape (left.tapes name) (makes also) (makes access) s.0
      (subst (λ t. Agrees t None) s.1 y) may (ap makes (sym s.2)) asked)
  one_point (borrow_tape name access absent next) (borrow_tape other also cause more) left right s
      (inr (inr (inr (may, g)))) (inr (inr (inr (can, k)))) =
      one_point next more _ _ s.4 g k
  one_point (read_tape object name next) (read_tape thing other more) left right s (inl e) k =
      no_first p q _ refl e.0
  one_point (read_tape object name next) (read_tape thing other more) left right s (inr g)
      (inl f) =
      no_second p q _ refl f.0
  one_point (read_tape object name next) (read_tape thing other more) left right s
      (inr (a, x, g)) (inr (b, y, k)) =
      one_point (next a) (more a) left right (s.2 a) g
      (subst (λ c. RunTo q last (more c) right)
      (one_tape (left.tapes name) a b s.0 x (subst (λ t. Agrees t (Some b)) s.1 y)) k)
  one_point (write_row object name store row next) (write_row thing other held line more) left right
      s (inl (told, begins, e)) k =
      no_first p q _ refl e.0
  one_point (write_row object name store row next) (write_row thing other held line more) left right
      s (inr g) (inl (told, begins, f)) =
      no_second p q _ refl f.0
  one_point (write_row object name store row next) (write_row thing other held line more) left right
      s (inr (a, x, g)) (inr (b, y, k)) =
      one_point next more _ _ (s a b) g k
  one_point (keep_rows name store next) (keep_rows other held more) left right s
      (a, x, g) (b, y, k) =
      one_point next more _ _ (s a b) g k
  one_point (settle object name next) (settle thing other more) left right s (inl e) k =
      no_first p q _ refl e.0
  one_point (settle object name next) (settle thing other more) left right s (inr g) (inl f) =
      no_second p q _ refl f.0
  one_point (settle object name next) (settle thing other more) left right s (inr g) (inr k) =
      one_point next more _ _ s g k
  one_point (draw seat size next) (draw other count more) left right s (inl e) k =
      no_first p q _ refl e.0
  one_point (draw seat size next) (draw other count more) left right s (inr g) (inl f) =
      no_second p q _ refl f.0
  one_point (draw seat size next) (draw other count more) left right s (inr (a, ra, ca, x, g))
      (inr (b, rb, cb, y, k)) =
      one_point (next a) (more b) _ _ (s a b ra rb x y) g k
  one_point (borrow_link seat plugin program next) (borrow_link other name file more) left right s
      g k =
      past_two g k (λ g k. one_point next more _ _ s g k)
  one_point (ask_status seat plugin next) (ask_status other name more) left right s (inl e) k =
      no_first p q _ refl e.0
  one_point (ask_status seat plugin next) (ask_status other name more) left right s
      (inr (inl (answer, e))) k =
      no_first p q _ refl e.0
  one_point (ask_status seat plugin next) (ask_status other name more) left right s
      (inr (inr (inl e))) k =
      no_first p q _ refl e.0
  one_point (ask_status seat plugin next) (ask_status other name more) left right s
      (inr (inr (inr g))) (inl f) =
      no_second p q _ refl f.0
  one_point (ask_status seat plugin next) (ask_status other name more) left right s
      (inr (inr (inr g))) (inr (inl (answer, f))) =
      no_second p q _ refl f.0
  one_point (ask_status seat plugin next) (ask_status other name more) left right s
      (inr (inr (inr g))) (inr (inr (inl f))) =
      no_second p q _ refl f.0
  one_point (ask_status seat plugin next) (ask_status other name more) left right s
      (inr (inr (inr (a, x, g)))) (inr (inr (inr (b, y, k)))) =
      one_point (next a) (more a) _ _ (s.2 a _ _) g
      (subst (λ c. RunTo q last (more c) (with_heard (StatusCall name (Ok b)) right))
      (one_status (left.links (seat, plugin)) a b s.0 x (subst (λ t. Agrees t b) s.1 y)) k)
  one_point (wrap seat plugin plain next) (wrap other name bytes more) left right s (inl e) k =
      no_first p q _ refl e.0
  one_point (wrap seat plugin plain next) (wrap other name bytes more) left right s
      (inr (inl (answer, e))) k =
      no_first p q _ refl e.0
  one_point (wrap seat plugin plain next) (wrap other name bytes more) left right s
      (inr (inr (inl e))) k =
      no_first p q _ refl e.0
  one_point (wrap seat plugin plain next) (wrap other name bytes more) left right s
      (inr (inr (inr g))) (inl f) =
      no_second p q _ refl f.0
  one_point (wrap seat plugin plain next) (wrap other name bytes more) left right s
      (inr (inr (inr g))) (inr (inl (answer, f))) =
      no_second p q _ refl f.0
  one_point (wrap seat plugin plain next) (wrap other name bytes more) left right s
      (inr (inr (inr g))) (inr (inr (inl f))) =
      no_second p q _ refl f.0
  one_point (wrap seat plugin plain next) (wrap other name bytes more) left right s
      (inr (inr (inr (a, within, g)))) (inr (inr (inr (b, short, k)))) =
      one_point (next a) (more b) _ _ (s a b within short _ _) g k
  one_point (unwrap seat key next) (unwrap other name more) left right s (inl e) k =
      no_first p q _ refl e.0
  one_point (unwrap seat key next) (unwrap other name more) left right s
      (inr (inl (answer, e))) k =
      no_first p q _ refl e.0
  one_point (unwrap seat key next) (unwrap other name more) left right s (inr (inr (inl e))) k =
      no_first p q _ refl e.0
  one_point (unwrap seat key next) (unwrap other name more) left right s (inr (inr (inr g)))
      (inl f) =
      no_second p q _ refl f.0
  one_point (unwrap seat key next) (unwrap other name more) left right s (inr (inr (inr g)))
      (inr (inl (answer, f))) =
      no_second p q _ refl f.0
  one_point (unwrap seat key next) (unwrap other name more) left right s (inr (inr (inr g)))
      (inr (inr (inl f))) =
      no_second p q _ refl f.0
  one_point (unwrap seat key next) (unwrap other name more) left right s
      (inr (inr (inr (a, g)))) (inr (inr (inr (b, k)))) =
      one_point (next a) (more b) _ _ (s a b _ _) g k
  one_point (give_back name next) (give_back other more) left right s g k =
      one_point next more _ _ s g k
  one_point (note text next) (note other more) left right s g k = one_point next more _ _ s g k
  one_point (find B P next) (find C Q more) left right s (inl e) k = no_first p q _ refl e.0
  one_point (find B P next) (find C Q more) left right s (inr g) (inl f) =
      no_second p q _ refl f.0
  one_point (find B P next) (find C Q more) left right s (inr (a, x, g)) (inr (b, y, k)) =
      one_point (next a) (more b) left right (s a b x y) g k
  one_point (refuse why) (refuse cause) left right s e f =
      alike_at (refuses why) (refuses cause) (ap (λ w. Some (Err (Refused w))) (sym s)) e.0 f.0
  one_point (give made) (give other) left right s e f =
      alike_at (gives made) (gives other) (ap (λ d. Some (Ok d)) (sym s)) e.0 f.0
  one_point first second left right s e f = absurd s
