-- What the names of a record stand for, one after the other: all have to be declared, and then each has to stand for what its place wants.
use Rattle.std.proofs.Common.{◌≡◌, ℕ, ◌&&◌, ◌||◌, Bool, true, false, List, [], ◌∷◌, Option, Some, None, Result, Ok, Err, refl, ap, ◌∙◌, if◌then◌else◌, map}
use Rattle.std.specs.Prelude.{is_some, unwrap_or, option_and_then}
use Rattle.std.specs.List.{list_all}
use Rattle.tube_store.specs.declared.SignalId.{SignalId}
use Rattle.tube_store.specs.declared.VarId.{VarId}
use Rattle.log_spelling.specs.declared.reference.Part.{Part}
use Rattle.log_fields.specs.Steps.{◌>>=◌, found_or}
use Rattle.log_fields.specs.declared.fault.Cause.{Cause}
use Rattle.log_fields.specs.declared.fault.Cause.TheVariants as cause
use Rattle.mission_items.specs.Names.{beacon_of, declaration_of, signal_of, variable_of}
use Rattle.mission_items.specs.declared.decl.Decl.{Decl}
use Rattle.mission_items.specs.declared.item.Item.{Item}
use Rattle.log_draft.specs.Names.{signal_in, variable_in}
use Rattle.mission_log.specs.Found.{declared_part, each, mark_declared, mark_in}
use Rattle.log_causes.specs.Laws.{judged}
use Rattle.log_causes.proofs.Chains.{failing, in_line, same_then}

-- the causes of names, and then what comes later
abbrev pub named_cause : Bool → Bool → Option Cause → Option Cause
named_cause known right later = failing known cause.Unknown (failing right cause.WrongKind later)

-- ---- the signals and variables of declarations

abbrev pub signal_found : Option Decl → Option SignalId
signal_found o = option_and_then signal_of o

abbrev pub variable_found : Part → Option Decl → Option VarId
variable_found p o = option_and_then (λ d. variable_of d p) o

abbrev pub signal_or : Option SignalId → SignalId
signal_or s = unwrap_or s (record { 0 = 0 })

abbrev pub variable_or : Option VarId → VarId
variable_or v = unwrap_or v (record { 0 = 0 })

-- ---- one signal

one_right : {A : Type 0} (s : Option SignalId) (f : SignalId → Result A Cause) (rest : SignalId → Option Cause) (e : SignalId → A)
    → ((x : SignalId) → f x ≡ judged (rest x) (e x))
    → (found_or s cause.WrongKind >>= f) ≡ judged (failing (is_some s && true) cause.WrongKind (rest (signal_or s))) (e (signal_or s))
one_right None f rest e h = refl
one_right (Some x) f rest e h = h x

pub one_signal : {A : Type 0} (o : Option Decl) (f : SignalId → Result A Cause) (rest : SignalId → Option Cause) (e : SignalId → A)
    → ((x : SignalId) → f x ≡ judged (rest x) (e x))
    → (found_or o cause.Unknown >>= (λ a. signal_in a >>= f)) ≡ judged (named_cause (is_some o && true) (is_some (signal_found o) && true) (rest (signal_or (signal_found o)))) (e (signal_or (signal_found o)))
one_signal None f rest e h = refl
one_signal (Some a) f rest e h = one_right (signal_of a) f rest e h

-- ---- two signals

two_right : {A : Type 0} (s t : Option SignalId) (f : SignalId → SignalId → Result A Cause) (rest : SignalId → SignalId → Option Cause) (e : SignalId → SignalId → A)
    → ((x y : SignalId) → f x y ≡ judged (rest x y) (e x y))
    → (found_or s cause.WrongKind >>= (λ x. found_or t cause.WrongKind >>= (λ y. f x y)))
    ≡ judged (failing (is_some s && (is_some t && true)) cause.WrongKind (rest (signal_or s) (signal_or t))) (e (signal_or s) (signal_or t))
two_right None t f rest e h = refl
two_right (Some x) None f rest e h = refl
two_right (Some x) (Some y) f rest e h = h x y

pub two_signals : {A : Type 0} (o p : Option Decl) (f : SignalId → SignalId → Result A Cause) (rest : SignalId → SignalId → Option Cause) (e : SignalId → SignalId → A)
    → ((x y : SignalId) → f x y ≡ judged (rest x y) (e x y))
    → (found_or o cause.Unknown >>= (λ a. found_or p cause.Unknown >>= (λ b. signal_in a >>= (λ x. signal_in b >>= (λ y. f x y)))))
    ≡ judged (named_cause (is_some o && (is_some p && true)) (is_some (signal_found o) && (is_some (signal_found p) && true)) (rest (signal_or (signal_found o)) (signal_or (signal_found p))))
    (e (signal_or (signal_found o)) (signal_or (signal_found p)))
two_signals None p f rest e h = refl
two_signals (Some a) None f rest e h = refl
two_signals (Some a) (Some b) f rest e h = two_right (signal_of a) (signal_of b) f rest e h

-- ---- a signal and two variables

mixed_right : {A : Type 0} (s : Option SignalId) (v w : Option VarId) (f : SignalId → VarId → VarId → Result A Cause) (rest : SignalId → VarId → VarId → Option Cause) (e : SignalId → VarId → VarId → A)
    → ((x : SignalId) (t z : VarId) → f x t z ≡ judged (rest x t z) (e x t z))
    → (found_or s cause.WrongKind >>= (λ x. found_or v cause.WrongKind >>= (λ t. found_or w cause.WrongKind >>= (λ z. f x t z))))
    ≡ judged (failing (is_some s && (is_some v && (is_some w && true))) cause.WrongKind (rest (signal_or s) (variable_or v) (variable_or w))) (e (signal_or s) (variable_or v) (variable_or w))
mixed_right None v w f rest e h = refl
mixed_right (Some x) None w f rest e h = refl
mixed_right (Some x) (Some t) None f rest e h = refl
mixed_right (Some x) (Some t) (Some z) f rest e h = h x t z

pub signal_and_variables : {A : Type 0} (o p q : Option Decl) (i j : Part) (f : SignalId → VarId → VarId → Result A Cause) (rest : SignalId → VarId → VarId → Option Cause) (e : SignalId → VarId → VarId → A)
    → ((x : SignalId) (t z : VarId) → f x t z ≡ judged (rest x t z) (e x t z))
    → (found_or o cause.Unknown >>= (λ a. found_or p cause.Unknown >>= (λ b. found_or q cause.Unknown >>= (λ c.
    signal_in a >>= (λ x. variable_in b i >>= (λ t. variable_in c j >>= (λ z. f x t z)))))))
    ≡ judged (named_cause (is_some o && (is_some p && (is_some q && true))) (is_some (signal_found o) && (is_some (variable_found i p) && (is_some (variable_found j q) && true)))
    (rest (signal_or (signal_found o)) (variable_or (variable_found i p)) (variable_or (variable_found j q))))
    (e (signal_or (signal_found o)) (variable_or (variable_found i p)) (variable_or (variable_found j q)))
signal_and_variables None p q i j f rest e h = refl
signal_and_variables (Some a) None q i j f rest e h = refl
signal_and_variables (Some a) (Some b) None i j f rest e h = refl
signal_and_variables (Some a) (Some b) (Some c) i j f rest e h = mixed_right (signal_of a) (variable_of b i) (variable_of c j) f rest e h

-- ---- two signals and a variable

delayed_right : {A : Type 0} (s t : Option SignalId) (v : Option VarId) (f : SignalId → SignalId → VarId → Result A Cause) (rest : SignalId → SignalId → VarId → Option Cause) (e : SignalId → SignalId → VarId → A)
    → ((x y : SignalId) (z : VarId) → f x y z ≡ judged (rest x y z) (e x y z))
    → (found_or s cause.WrongKind >>= (λ x. found_or t cause.WrongKind >>= (λ y. found_or v cause.WrongKind >>= (λ z. f x y z))))
    ≡ judged (failing (is_some s && (is_some t && (is_some v && true))) cause.WrongKind (rest (signal_or s) (signal_or t) (variable_or v))) (e (signal_or s) (signal_or t) (variable_or v))
delayed_right None t v f rest e h = refl
delayed_right (Some x) None v f rest e h = refl
delayed_right (Some x) (Some y) None f rest e h = refl
delayed_right (Some x) (Some y) (Some z) f rest e h = h x y z

pub signals_and_variable : {A : Type 0} (o p q : Option Decl) (i : Part) (f : SignalId → SignalId → VarId → Result A Cause) (rest : SignalId → SignalId → VarId → Option Cause) (e : SignalId → SignalId → VarId → A)
    → ((x y : SignalId) (z : VarId) → f x y z ≡ judged (rest x y z) (e x y z))
    → (found_or o cause.Unknown >>= (λ a. found_or p cause.Unknown >>= (λ b. found_or q cause.Unknown >>= (λ c.
    signal_in a >>= (λ x. signal_in b >>= (λ y. variable_in c i >>= (λ z. f x y z)))))))
    ≡ judged (named_cause (is_some o && (is_some p && (is_some q && true))) (is_some (signal_found o) && (is_some (signal_found p) && (is_some (variable_found i q) && true)))
    (rest (signal_or (signal_found o)) (signal_or (signal_found p)) (variable_or (variable_found i q))))
    (e (signal_or (signal_found o)) (signal_or (signal_found p)) (variable_or (variable_found i q)))
signals_and_variable None p q i f rest e h = refl
signals_and_variable (Some a) None q i f rest e h = refl
signals_and_variable (Some a) (Some b) None i f rest e h = refl
signals_and_variable (Some a) (Some b) (Some c) i f rest e h = delayed_right (signal_of a) (signal_of b) (variable_of c i) f rest e h

-- ---- two signals and a beacon, which may be any

abbrev pub mark_found : Bool → Option Decl → Option ℕ
mark_found any q = if any then None else Some (unwrap_or (option_and_then beacon_of q) 0)

pinged_right : {A : Type 0} (s t : Option SignalId) (b : Option ℕ) (f : SignalId → SignalId → Option ℕ → Result A Cause) (rest : SignalId → SignalId → Option ℕ → Option Cause) (e : SignalId → SignalId → Option ℕ → A)
    → ((x y : SignalId) (k : Option ℕ) → f x y k ≡ judged (rest x y k) (e x y k))
    → (found_or s cause.WrongKind >>= (λ x. found_or t cause.WrongKind >>= (λ y. (found_or b cause.WrongKind >>= (λ place. Ok (Some place))) >>= (λ k. f x y k))))
    ≡ judged (failing (is_some s && (is_some t && (is_some b && true))) cause.WrongKind (rest (signal_or s) (signal_or t) (Some (unwrap_or b 0)))) (e (signal_or s) (signal_or t) (Some (unwrap_or b 0)))
pinged_right None t b f rest e h = refl
pinged_right (Some x) None b f rest e h = refl
pinged_right (Some x) (Some y) None f rest e h = refl
pinged_right (Some x) (Some y) (Some k) f rest e h = h x y (Some k)

abbrev mark_given : Bool → Option Decl → Result (Option Decl) Cause
mark_given any q = if any then Ok None else (found_or q cause.Unknown >>= (λ d. Ok (Some d)))

given : {A : Type 0} (any : Bool) (o p q : Option Decl) (f : SignalId → SignalId → Option ℕ → Result A Cause) (rest : SignalId → SignalId → Option ℕ → Option Cause) (e : SignalId → SignalId → Option ℕ → A)
    → ((x y : SignalId) (k : Option ℕ) → f x y k ≡ judged (rest x y k) (e x y k))
    → (found_or o cause.Unknown >>= (λ a. found_or p cause.Unknown >>= (λ b. mark_given any q >>= (λ c.
    signal_in a >>= (λ x. signal_in b >>= (λ y. mark_in c >>= (λ k. f x y k)))))))
    ≡ judged (named_cause (is_some o && (is_some p && ((any || is_some q) && true))) (is_some (signal_found o) && (is_some (signal_found p) && ((any || is_some (option_and_then beacon_of q)) && true)))
    (rest (signal_or (signal_found o)) (signal_or (signal_found p)) (mark_found any q)))
    (e (signal_or (signal_found o)) (signal_or (signal_found p)) (mark_found any q))
given any None p q f rest e h = refl
given any (Some a) None q f rest e h = refl
given false (Some a) (Some b) None f rest e h = refl
given false (Some a) (Some b) (Some c) f rest e h = pinged_right (signal_of a) (signal_of b) (beacon_of c) f rest e h
given true (Some a) (Some b) q f rest e h = two_right (signal_of a) (signal_of b) (λ x y. f x y None) (λ x y. rest x y None) (λ x y. e x y None) (λ x y. h x y None)

mark_is : (items : List Item) (text : List ℕ) (any : Bool) → mark_declared items (if any then None else Some text) ≡ mark_given any (declaration_of text items)
mark_is items text true = refl
mark_is items text false = refl

pub signals_and_mark : {A : Type 0} (items : List Item) (text : List ℕ) (any : Bool) (o p : Option Decl) (f : SignalId → SignalId → Option ℕ → Result A Cause) (rest : SignalId → SignalId → Option ℕ → Option Cause) (e : SignalId → SignalId → Option ℕ → A)
    → ((x y : SignalId) (k : Option ℕ) → f x y k ≡ judged (rest x y k) (e x y k))
    → (found_or o cause.Unknown >>= (λ a. found_or p cause.Unknown >>= (λ b. mark_declared items (if any then None else Some text) >>= (λ c.
    signal_in a >>= (λ x. signal_in b >>= (λ y. mark_in c >>= (λ k. f x y k)))))))
    ≡ judged (named_cause (is_some o && (is_some p && ((any || is_some (declaration_of text items)) && true)))
    (is_some (signal_found o) && (is_some (signal_found p) && ((any || is_some (option_and_then beacon_of (declaration_of text items))) && true)))
    (rest (signal_or (signal_found o)) (signal_or (signal_found p)) (mark_found any (declaration_of text items))))
    (e (signal_or (signal_found o)) (signal_or (signal_found p)) (mark_found any (declaration_of text items)))
signals_and_mark items text any o p f rest e h =
    ap (λ m. found_or o cause.Unknown >>= (λ a. found_or p cause.Unknown >>= (λ b. m >>= (λ c. signal_in a >>= (λ x. signal_in b >>= (λ y. mark_in c >>= (λ k. f x y k))))))) (mark_is items text any)
    ∙ given any o p (declaration_of text items) f rest e h

-- ---- a list of names

-- what a reference stands for, as a variable or as a leaf
abbrev pub found_by : {Y : Type 0} → (Decl → Part → Option Y) → List Item → List ℕ × Part → Option Y
found_by value items ref = option_and_then (λ d. value d ref.1) (declaration_of ref.0 items)

abbrev pub is_found : List Item → List ℕ × Part → Bool
is_found items ref = is_some (declaration_of ref.0 items)

abbrev right_by : {Y : Type 0} → (Decl → Part → Option Y) → Decl × Part → Result Y Cause
right_by value d = found_or (value d.0 d.1) cause.WrongKind

-- where all names are declared, what comes behind counts
declared_then : {A : Type 0} (items : List Item) (refs : List (List ℕ × Part)) (f : List (Decl × Part) → Result A Cause) (s : Result A Cause) → ((ds : List (Decl × Part)) → f ds ≡ s)
    → (each (declared_part items) refs >>= f) ≡ (if list_all (is_found items) refs then s else Err cause.Unknown)
declared_then items [] f s h = h []
declared_then {A} items (ref ∷ refs) f s h = by (declaration_of ref.0 items) (λ d. declared_then items refs (λ ys. f ((d, ref.1) ∷ ys)) s (λ ys. h ((d, ref.1) ∷ ys)))
  where
    by : (o : Option Decl) → ((d : Decl) → (each (declared_part items) refs >>= (λ ys. f ((d, ref.1) ∷ ys))) ≡ (if list_all (is_found items) refs then s else Err cause.Unknown))
        → (((found_or o cause.Unknown >>= (λ d. Ok (d, ref.1))) >>= (λ y. each (declared_part items) refs >>= (λ ys. Ok (y ∷ ys)))) >>= f)
        ≡ (if is_some o && list_all (is_found items) refs then s else Err cause.Unknown)
    by None more = refl
    by (Some d) more = in_line (each (declared_part items) refs) (λ ys. Ok ((d, ref.1) ∷ ys)) f ∙ more d

pub all_found : {A Y : Type 0} (value : Decl → Part → Option Y) (nobody : Y) (items : List Item) (refs : List (List ℕ × Part)) (f : List Y → Result A Cause)
    → (each (declared_part items) refs >>= (λ ds. each (right_by value) ds >>= f))
    ≡ (if list_all (is_found items) refs then (if list_all (λ ref. is_some (found_by value items ref)) refs then f (map (λ ref. unwrap_or (found_by value items ref) nobody) refs) else Err cause.WrongKind) else Err cause.Unknown)
all_found value nobody items [] f = refl
all_found {A} {Y} value nobody items (ref ∷ refs) f = by (declaration_of ref.0 items) (λ y. all_found value nobody items refs (λ zs. f (y ∷ zs)))
  where
    rest : Bool
    rest = list_all (is_found items) refs

    right : Bool
    right = list_all (λ r. is_some (found_by value items r)) refs

    ys : List Y
    ys = map (λ r. unwrap_or (found_by value items r) nobody) refs

    Ends : Type 0
    Ends = (y : Y) → (each (declared_part items) refs >>= (λ ds. each (right_by value) ds >>= (λ zs. f (y ∷ zs)))) ≡ (if rest then (if right then f (y ∷ ys) else Err cause.WrongKind) else Err cause.Unknown)

    last : (v : Option Y) → Ends
        → (each (declared_part items) refs >>= (λ ds. (found_or v cause.WrongKind >>= (λ y. each (right_by value) ds >>= (λ zs. Ok (y ∷ zs)))) >>= f))
        ≡ (if rest then (if is_some v && right then f (unwrap_or v nobody ∷ ys) else Err cause.WrongKind) else Err cause.Unknown)
    last None more = declared_then items refs _ (Err cause.WrongKind) (λ ds. refl)
    last (Some y) more =
        same_then (each (declared_part items) refs) _ _ (λ ds. in_line (each (right_by value) ds) (λ zs. Ok (y ∷ zs)) f) ∙ more y

    by : (o : Option Decl) → Ends
        → (((found_or o cause.Unknown >>= (λ d. Ok (d, ref.1))) >>= (λ y. each (declared_part items) refs >>= (λ zs. Ok (y ∷ zs)))) >>= (λ ds. each (right_by value) ds >>= f))
        ≡ (if is_some o && rest then (if is_some (option_and_then (λ d. value d ref.1) o) && right then f (unwrap_or (option_and_then (λ d. value d ref.1) o) nobody ∷ ys) else Err cause.WrongKind) else Err cause.Unknown)
    by None more = refl
    by (Some d) more = in_line (each (declared_part items) refs) (λ zs. Ok ((d, ref.1) ∷ zs)) (λ ds. each (right_by value) ds >>= f) ∙ last (value d ref.1) more

-- a nest of two tests that is judged
pub nest_judged : {A : Type 0} (known right : Bool) (s : Result A Cause) (o : Option Cause) (e : A) → s ≡ judged o e
    → (if known then (if right then s else Err cause.WrongKind) else Err cause.Unknown) ≡ judged (named_cause known right o) e
nest_judged false right s o e h = refl
nest_judged true false s o e h = refl
nest_judged true true s o e h = h

-- ---- lists of names, each cut into its bare name and its part

pub all_map : {X Y : Type 0} (p : Y → Bool) (v : X → Y) (xs : List X) → list_all p (map v xs) ≡ list_all (λ x. p (v x)) xs
all_map p v [] = refl
all_map p v (x ∷ xs) = ap (λ b. p (v x) && b) (all_map p v xs)

pub map_map : {X Y Z : Type 0} (w : Y → Z) (v : X → Y) (xs : List X) → map w (map v xs) ≡ map (λ x. w (v x)) xs
map_map w v [] = refl
map_map w v (x ∷ xs) = ap (λ zs. w (v x) ∷ zs) (map_map w v xs)
