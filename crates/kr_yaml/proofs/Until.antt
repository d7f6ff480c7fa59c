-- The first place where something stands.
use Rattle.std.proofs.Common.{◌≡◌, ℕ, ◌+◌, ◌-◌, ◌<◌, ◌≤◌, Bool, true, false, List, [], ◌∷◌, length}
use Rattle.std.proofs.Common.{drop, take, get_or, refl, sym, ap, ◌∙◌, arith, suc, add-one}
use Rattle.std.proofs.Common.{drop-cons}
use Rattle.std.specs.Prelude.{if◌then◌else◌}
use Rattle.std.proofs.lemmas.List.{drop_all, take_all, length-drop}
use Rattle.kr_yaml.specs.inner.Stops.{stops, length_before_stop, at_stop}
use Rattle.kr_yaml.specs.declared.bytes.ScanStop.{ScanStop}
use Rattle.kr_yaml.specs.declared.bytes.ScanStop.TheVariants.{Colon}

more_at : (t : List ℕ → Bool) (b : ℕ) (r w : List ℕ) → w ≡ b ∷ r → t w ≡ false
    → length_before_stop t w ≡ suc (length_before_stop t r)
more_at t b r w e off = ap (length_before_stop t) e ∙ ap (λ v. if v then 0 else suc (length_before_stop t r))
    (sym (ap t e) ∙ off)

stops_at : (t : List ℕ → Bool) (b : ℕ) (r w : List ℕ) → w ≡ b ∷ r → t w ≡ true
    → length_before_stop t w ≡ 0
stops_at t b r w e on = ap (length_before_stop t) e ∙ ap (λ v. if v then 0 else suc (length_before_stop t r))
    (sym (ap t e) ∙ on)

pub until_more : (t : List ℕ → Bool) (bs : List ℕ) (i : ℕ) → i < length bs → t (drop i bs) ≡ false
    → length_before_stop t (drop i bs) ≡ suc (length_before_stop t (drop (i + 1) bs))
until_more t bs i h off = more_at t (get_or bs i 0) (drop (suc i) bs) (drop i bs)
    (drop-cons bs i 0 h) off ∙ ap (λ n. suc (length_before_stop t (drop n bs))) (sym (add-one i))

pub until_stops : (t : List ℕ → Bool) (bs : List ℕ) (i : ℕ) → i < length bs → t (drop i bs) ≡ true
    → length_before_stop t (drop i bs) ≡ 0
until_stops t bs i h on = stops_at t (get_or bs i 0) (drop (suc i) bs) (drop i bs)
    (drop-cons bs i 0 h) on

pub until_ends : (t : List ℕ → Bool) (bs : List ℕ) (i : ℕ) → length bs ≤ i
    → length_before_stop t (drop i bs) ≡ 0
until_ends t bs i h = ap (length_before_stop t) (drop_all i bs h)

stop_ascii : (stop : ScanStop) (b : ℕ) (bs : List ℕ) → stops stop (b ∷ bs) ≡ true → b < 128
stop_ascii Colon b bs h = grind arith
stop_ascii other b bs h = grind arith

at_first : (stop : ScanStop) (b : ℕ) (bs : List ℕ) (v : Bool) → stops stop (b ∷ bs) ≡ v
    → (length_before_stop (stops stop) bs < length bs → get_or bs (length_before_stop (stops stop) bs) 0 < 128)
    → (if v then 0 else suc (length_before_stop (stops stop) bs)) < suc (length bs)
    → get_or (b ∷ bs) (if v then 0 else suc (length_before_stop (stops stop) bs)) 0 < 128
at_first stop b bs true e rest h = stop_ascii stop b bs e
at_first stop b bs false e rest h = rest (omega arith)

pub until_ascii : (stop : ScanStop) (bs : List ℕ) → length_before_stop (stops stop) bs < length bs
    → get_or bs (length_before_stop (stops stop) bs) 0 < 128
until_ascii stop [] h = absurd (omega arith)
until_ascii stop (b ∷ bs) h = at_first stop b bs (stops stop (b ∷ bs)) refl (until_ascii stop bs) h

pub tail_is : (i : ℕ) (bs : List ℕ) → take (length bs - i) (drop i bs) ≡ drop i bs
tail_is i bs = take_all (length bs - i) (drop i bs) (omega (arith, length-drop i bs))

there_at : (stop : ScanStop) (b : ℕ) (bs : List ℕ) (v : Bool) → stops stop (b ∷ bs) ≡ v
    → at_stop stop (drop (length_before_stop (stops stop) bs) bs) ≡ true
    → at_stop stop (drop (if v then 0 else suc (length_before_stop (stops stop) bs)) (b ∷ bs)) ≡ true
there_at stop b bs true e rest = e
there_at stop b bs false e rest = rest

pub until_there : (stop : ScanStop) (bs : List ℕ)
    → at_stop stop (drop (length_before_stop (stops stop) bs) bs) ≡ true
until_there stop [] = refl
until_there stop (b ∷ bs) = there_at stop b bs (stops stop (b ∷ bs)) refl (until_there stop bs)
