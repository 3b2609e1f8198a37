-- What is found for each of a list, one at a time.
use Rattle.std.proofs.Common.{◌≡◌, ℕ, ◌+◌, ◌<◌, ◌≤◌, List, [], ◌∷◌, ◌++◌, Result, Ok, Err, length, drop, map, refl, sym, ap, ◌∙◌, arith, get_or, append-nil, append_assoc, suc, Bool, true, false}
use Rattle.std.proofs.lemmas.List.{map-append}
use Rattle.std.proofs.Math.ListN.{drop_of_length-le}
use Rattle.std.proofs.Math.Seq.{drop-cons}
use Rattle.std.specs.Prelude.{OnOk}
use Rattle.log_fields.specs.Steps.{◌>>=◌, Gives, Stops, unless}
use Rattle.log_fields.specs.declared.fault.Stop.{Stop}
use Rattle.log_fields.specs.declared.fault.Stop.TheVariants as stop
use Rattle.log_fields.specs.declared.fault.Cause.{Cause}
use Rattle.mission_log.specs.Found.{appended, each}

appended-one : {B : Type 0} (ys : List B) (y : B) (rest : Result (List B) Cause) → appended ys (rest >>= (λ zs. Ok (y ∷ zs))) ≡ appended (ys ++ y ∷ []) rest
appended-one ys y (Ok zs) = ap (λ (l : List _). Ok l) (sym (append_assoc ys (y ∷ []) zs))
appended-one ys y (Err c) = refl

pub appended-none : {B : Type 0} (r : Result (List B) Cause) → r ≡ appended [] r
appended-none (Ok zs) = refl
appended-none (Err c) = refl

-- the others of a mapped list
left : {Z A : Type 0} (g : Z → A) (zs : List Z) (i : ℕ) (z : Z) → i < length zs → z ≡ get_or zs i z → map g (drop i zs) ≡ g z ∷ map g (drop (i + 1) zs)
left g zs i z h e =
    let next : suc i ≡ i + 1 = omega arith in
    ap (map g) (drop-cons zs i z h) ∙ (ap (λ (k : ℕ). g (get_or zs i z) ∷ map g (drop k zs)) next ∙ ap (λ (w : _). g w ∷ map g (drop (i + 1) zs)) (sym e))

pub each-more : {Z A B : Type 0} (f : A → Result B Cause) (g : Z → A) (zs : List Z) (i : ℕ) (z : Z) (y : B) (ys : List B) (all : Result (List B) Cause) → i < length zs → z ≡ get_or zs i z
    → all ≡ appended ys (each f (map g (drop i zs))) → f (g z) ≡ Ok y → all ≡ appended (ys ++ y ∷ []) (each f (map g (drop (i + 1) zs)))
each-more f g zs i z y ys all h e so_far found =
    so_far
    ∙ (ap (λ (l : List _). appended ys (each f l)) (left g zs i z h e)
    ∙ (ap (λ (r : Result _ Cause). appended ys (r >>= (λ b. each f (map g (drop (i + 1) zs)) >>= (λ bs. Ok (b ∷ bs))))) found
    ∙ appended-one ys y (each f (map g (drop (i + 1) zs)))))

pub each-stops : {Z A B : Type 0} (f : A → Result B Cause) (g : Z → A) (zs : List Z) (i : ℕ) (z : Z) (c : Cause) (ys : List B) (all : Result (List B) Cause) → i < length zs → z ≡ get_or zs i z
    → all ≡ appended ys (each f (map g (drop i zs))) → f (g z) ≡ Err c → all ≡ Err c
each-stops f g zs i z c ys all h e so_far found =
    so_far
    ∙ (ap (λ (l : List _). appended ys (each f l)) (left g zs i z h e)
    ∙ ap (λ (r : Result _ Cause). appended ys (r >>= (λ b. each f (map g (drop (i + 1) zs)) >>= (λ bs. Ok (b ∷ bs))))) found)

pub each-ends : {Z A B : Type 0} (f : A → Result B Cause) (g : Z → A) (zs : List Z) (i : ℕ) (ys : List B) (all : Result (List B) Cause) → length zs ≤ i
    → all ≡ appended ys (each f (map g (drop i zs))) → all ≡ Ok ys
each-ends f g zs i ys all h so_far =
    so_far ∙ (ap (λ (l : List _). appended ys (each f (map g l))) (drop_of_length-le zs {i = i} h) ∙ ap (λ (l : List _). Ok l) (append-nil ys))

-- ---- one list after another

pushed : {B : Type 0} (b : B) (r s : Result (List B) Cause) → ((r >>= (λ cs. appended cs s)) >>= (λ ds. Ok (b ∷ ds))) ≡ ((r >>= (λ ds. Ok (b ∷ ds))) >>= (λ cs. appended cs s))
pushed b (Ok cs) (Ok ds) = refl
pushed b (Ok cs) (Err c) = refl
pushed b (Err c) s = refl

first-joined : {B : Type 0} (r : Result B Cause) (all xs ys : Result (List B) Cause) → all ≡ (xs >>= (λ cs. appended cs ys))
    → (r >>= (λ b. all >>= (λ bs. Ok (b ∷ bs)))) ≡ ((r >>= (λ b. xs >>= (λ bs. Ok (b ∷ bs)))) >>= (λ cs. appended cs ys))
first-joined (Ok b) all xs ys e = ap (λ (r : Result _ Cause). r >>= (λ bs. Ok (b ∷ bs))) e ∙ pushed b xs ys
first-joined (Err c) all xs ys e = refl

joined : {A B : Type 0} (f : A → Result B Cause) (xs ys : List A) → each f (xs ++ ys) ≡ (each f xs >>= (λ cs. appended cs (each f ys)))
joined f [] ys = appended-none (each f ys)
joined f (x ∷ xs) ys = first-joined (f x) (each f (xs ++ ys)) (each f xs) (each f ys) (joined f xs ys)

pub each-append : {A B : Type 0} (f : A → Result B Cause) (xs ys : List A) (bs : List B) → each f xs ≡ Ok bs → each f (xs ++ ys) ≡ appended bs (each f ys)
each-append f xs ys bs e = joined f xs ys ∙ ap (λ (r : Result _ Cause). r >>= (λ cs. appended cs (each f ys))) e

pub each-append_stops : {A B : Type 0} (f : A → Result B Cause) (xs ys : List A) (c : Cause) → each f xs ≡ Err c → each f (xs ++ ys) ≡ Err c
each-append_stops f xs ys c e = joined f xs ys ∙ ap (λ (r : Result _ Cause). r >>= (λ cs. appended cs (each f ys))) e

-- which ones were found after others
record Found {B : Type 0} (xs : List B) (r : Result (List B) Cause) (ys : List B) : Type 0 where
  more : List B
  found : r ≡ Ok more
  all : xs ++ more ≡ ys

found-after : {B : Type 0} (xs : List B) (r : Result (List B) Cause) (ys : List B) → appended xs r ≡ Ok ys → Found xs r ys
found-after xs (Ok zs) ys e = record { more = zs; found = refl; all = cc e }
found-after xs (Err c) ys e = cc e

appended-twice : {B : Type 0} (xs zs ys : List B) (r : Result (List B) Cause) → xs ++ zs ≡ ys → appended xs (appended zs r) ≡ appended ys r
appended-twice xs zs ys (Ok more) e = ap (λ (l : List _). Ok l) (sym (append_assoc xs zs more) ∙ ap (λ (l : List _). l ++ more) e)
appended-twice xs zs ys (Err c) e = refl

pub both-goes : {Z A B : Type 0} (f : A → Result B Cause) (g : Z → A) (xs ys : List B) (us ws : List Z) → appended xs (each f (map g us)) ≡ Ok ys
    → appended xs (each f (map g (us ++ ws))) ≡ appended ys (each f (map g ws))
both-goes f g xs ys us ws e =
    let first = found-after xs (each f (map g us)) ys e in
    ap (λ (l : List _). appended xs (each f l)) (map-append g us ws)
    ∙ (ap (appended xs) (each-append f (map g us) (map g ws) first.more first.found) ∙ appended-twice xs first.more ys (each f (map g ws)) first.all)

stopped : {B : Type 0} (xs : List B) (r : Result (List B) Cause) (c : Cause) → appended xs r ≡ Err c → r ≡ Err c
stopped xs (Ok zs) c e = cc e
stopped xs (Err d) c e = let same : d ≡ c = cc e in ap (λ (x : Cause). Err x) same

pub both-stops : {Z A B : Type 0} (f : A → Result B Cause) (g : Z → A) (xs : List B) (us ws : List Z) (e : Stop) → Stops e (appended xs (each f (map g us))) → Stops e (appended xs (each f (map g (us ++ ws))))
both-stops f g xs us ws stop.Memory h = tt
both-stops f g xs us ws (stop.Because c) h =
    ap (λ (l : List _). appended xs (each f l)) (map-append g us ws)
    ∙ ap (appended xs) (each-append_stops f (map g us) (map g ws) c (stopped xs (each f (map g us)) c h))

-- ---- tests that pass

pub passes : (r : Result (Unit {0}) Stop) (b : Bool) (c : Cause) (P : Type 0) → Gives {Y = Unit {0}} (λ (x : Unit {0}). tt) r (unless b c) → (b ≡ true → P) → OnOk r P
passes (Ok x) true c P h k = k refl
passes (Ok x) false c P h k = cc h
passes (Err e) b c P h k = tt
