-- Steps tick by tick, and their greatest sums over runs of cells.
use Rattle.std.proofs.Common.{Bool, true, false, ◌≡◌, ℕ, zero, suc, ◌+◌, ◌-◌, ◌<◌, ◌≤◌, Option, Some, None, List, [], ◌∷◌, ◌++◌, map, take, length, length-append, ℤ, pos, ◌+ℤ◌, ◌≤ℤ◌, arith, refl, sym, ap, subst, ◌∙◌, IfSome}
use Rattle.std.specs.Bool.{OnTrue}
use Rattle.std.specs.Int.{int_max}
use Rattle.std.specs.List.{fold, range_with_len}
use Rattle.std.proofs.lemmas.Int.{ints, clamps}
use Rattle.std.proofs.lemmas.List.FromFn.{map-range_with_len_more}
use Rattle.tube_spec.specs.Span.{Span}
use Rattle.tplane_paver.specs.declared.runs.Run.{Run}
use Rattle.tplane_paver.specs.Runs.{run_at}
use Rattle.tube_spec.specs.Span.{sub_of}
use Rattle.tube_spec.specs.Shape.{Shape}
use Rattle.tube_spec.specs.Grid.{last_tick}
use Rattle.tube_spec.specs.Box.{cell_at}
use Rattle.tube_spec.specs.Tick.{at_tick}
use Rattle.hull_tree.specs.Plane.{tube_of}
use Rattle.hull_tree.proofs.Nearness.{tube_of-tick}
use Rattle.loop_degree.specs.Steps.{greatest_sum, greatest_in, step_of}
use Rattle.loop_prover.specs.Steps.{left_of}
use Rattle.loop_sets.specs.Cells.{column, ticks_in, pairs_in}
use Rattle.loop_sets.specs.Bounds.{step_at, AreSteps, AreTopped, greater_sum}
use Rattle.loop_sets.specs.Tables.{AreSmall, IsTop}
use Rattle.loop_sets.proofs.Pairs.{pairs-more}

-- one tick more
pub made-more : {X : Type 0} (box : Option (List Span)) (f : List Span → ℕ → X) (k : ℕ) (items more : List X) (x : X) → IfSome box (λ xs. items ≡ map (f xs) (range_with_len 0 k))
    → IfSome box (λ xs. x ≡ f xs k) → more ≡ items ++ x ∷ [] → IfSome box (λ xs. more ≡ map (f xs) (range_with_len 0 (k + 1)))
made-more None f k items more x h e m = tt
made-more {X} (Some xs) f k items more x h e m =
    m ∙ ap (λ (l : List X). l ++ x ∷ []) h ∙ ap (λ (y : X). map (f xs) (range_with_len 0 k) ++ y ∷ []) e
    ∙ sym (map-range_with_len_more (f xs) 0 k k (omega arith))

fold-append : {A X : Type 0} (f : A → X → A) (a : A) (xs ys : List X) → fold f a (xs ++ ys) ≡ fold f (fold f a xs) ys
fold-append f a [] ys = refl
fold-append f a (x ∷ xs) ys = fold-append f (f a x) xs ys

-- a range that raises nothing, one tick, and two halves
pub fold-topped : (f : ℕ → ℤ) (top : ℤ) (a b n : ℕ) → ((k : ℕ) → b ≤ k → k < b + n → (f a +ℤ f k) ≤ℤ top) → top ≡ fold (greater_sum f) top (column a b n)
fold-topped f top a b zero h = refl
fold-topped f top a b (suc n) h =
    let e : top ≡ int_max top (f a +ℤ f b) = omega (arith, ints, clamps, h b (omega arith) (omega arith)) in
    fold-topped f top a (b + 1) n (λ k l m. h k (omega (arith, l)) (omega (arith, m))) ∙ ap (λ (z : ℤ). fold (greater_sum f) z (column a (b + 1) n)) e

pub topped-range : (f : ℕ → ℤ) (top : ℤ) (a first last : ℕ) → first ≤ last → AreTopped f a top first last → top ≡ fold (greater_sum f) top (column a first (last + 1 - first))
topped-range f top a first last l h = fold-topped f top a first (last + 1 - first) (λ k low high. h k low (omega (arith, high, l)))

pub fold-one : (f : ℕ → ℤ) (top next : ℤ) (a first last : ℕ) → first ≡ last → next ≡ int_max top (f a +ℤ f first) → next ≡ fold (greater_sum f) top (column a first (last + 1 - first))
fold-one f top next a first last e h = let n : last + 1 - first ≡ suc zero = omega (arith, e) in h ∙ ap (λ (k : ℕ). fold (greater_sum f) top (column a first k)) (sym n)

column-split : (a b n m : ℕ) → column a b (n + m) ≡ column a b n ++ column a (b + n) m
column-split a b zero m = let e : b + 0 ≡ b = omega arith in let d : 0 + m ≡ m = omega arith in rw (d, e) refl
column-split a b (suc n) m =
    let e : suc n + m ≡ suc (n + m) = omega arith in
    let d : b + 1 + n ≡ b + suc n = omega arith in
    rw e (ap (λ (ps : List (ℕ × ℕ)). (a, b) ∷ ps) (column-split a (b + 1) n m ∙ ap (λ (k : ℕ). column a (b + 1) n ++ column a k m) d))

pub fold-halves : (f : ℕ → ℤ) (top higher higher' next : ℤ) (a first middle last : ℕ) → first ≤ middle → middle < last → higher ≡ fold (greater_sum f) top (column a first (middle + 1 - first)) → higher' ≡ higher
    → next ≡ fold (greater_sum f) higher' (column a (middle + 1) (last + 1 - (middle + 1))) → next ≡ fold (greater_sum f) top (column a first (last + 1 - first))
fold-halves f top higher higher' next a first middle last l m h same e =
    let n : middle + 1 - first + (last + 1 - (middle + 1)) ≡ last + 1 - first = omega (arith, l, m) in
    let k : first + (middle + 1 - first) ≡ middle + 1 = omega (arith, l) in
    e ∙ ap (λ (z : ℤ). fold (greater_sum f) z (column a (middle + 1) (last + 1 - (middle + 1)))) (same ∙ h)
    ∙ sym (fold-append (greater_sum f) top (column a first (middle + 1 - first)) (column a (middle + 1) (last + 1 - (middle + 1))))
    ∙ ap (λ (j : ℕ). fold (greater_sum f) top (column a first (middle + 1 - first) ++ column a j (last + 1 - (middle + 1)))) (sym k)
    ∙ ap (fold (greater_sum f) top) (sym (column-split a first (middle + 1 - first) (last + 1 - (middle + 1))))
    ∙ ap (λ (j : ℕ). fold (greater_sum f) top (column a first j)) n

-- a step by the tube of a signal
pub step-told : (box : Option (List Span)) (s : Shape) (x k : ℕ) (rates : List ℕ) (ticks : List Span) (change : Span) (r : ℤ) → k < last_tick s.grid → IfSome box (λ xs. ticks ≡ tube_of s xs x)
    → change ≡ sub_of (cell_at ticks (k + 1)) (cell_at ticks k) → IfSome box (λ xs. r ≡ greatest_in (left_of (at_tick s xs) change rates k)) → IfSome box (λ xs. r ≡ greatest_in (step_of (at_tick s xs) x rates k))
step-told None s x k rates ticks change r l e d h = tt
step-told (Some xs) s x k rates ticks change r l e d h =
    let later : cell_at ticks (k + 1) ≡ at_tick s xs x (k + 1) = ap (λ (t : List Span). cell_at t (k + 1)) e ∙ tube_of-tick s xs x (k + 1) (omega (arith, l)) in
    let now : cell_at ticks k ≡ at_tick s xs x k = ap (λ (t : List Span). cell_at t k) e ∙ tube_of-tick s xs x k (omega (arith, l)) in
    let g = λ (t : Span). greatest_in (left_of (at_tick s xs) t rates k) in
    h ∙ ap g (d ∙ ap (λ (t : Span). sub_of t (cell_at ticks k)) later ∙ ap (λ (t : Span). sub_of (at_tick s xs x (k + 1)) t) now)

-- one run
pub bound-run : (f : ℕ → ℤ) (runs : List Run) (i : ℕ) (top next : ℤ) → i < length runs → top ≡ greatest_sum f (pairs_in (take i runs))
    → next ≡ fold (greater_sum f) top (column (run_at runs i).a (run_at runs i).first (ticks_in (run_at runs i))) → next ≡ greatest_sum f (pairs_in (take (i + 1) runs))
bound-run f runs i top next l h e =
    e ∙ ap (λ (z : ℤ). fold (greater_sum f) z (column (run_at runs i).a (run_at runs i).first (ticks_in (run_at runs i)))) h
    ∙ sym (fold-append (greater_sum f) (pos 1) (pairs_in (take i runs)) (column (run_at runs i).a (run_at runs i).first (ticks_in (run_at runs i))))
    ∙ ap (fold (greater_sum f) (pos 1)) (sym (pairs-more runs i l))

-- one step more
pub steps-more : (steps : List ℤ) (x : ℤ) → AreSteps steps → pos 0 ≤ℤ x → x ≤ℤ pos 1000000000 → AreSteps (steps ++ x ∷ [])
steps-more [] x h least most zero = (least, most)
steps-more [] x h least most (suc k) = (omega (arith, ints), omega (arith, ints))
steps-more (y ∷ ys) x h least most zero = h 0
steps-more (y ∷ ys) x h least most (suc k) = steps-more ys x (λ j. h (suc j)) least most k

pub length-step : (steps more : List ℤ) (x : ℤ) (k : ℕ) → length steps ≡ k → more ≡ steps ++ x ∷ [] → length more ≡ k + 1
length-step steps more x k h e = ap (length {A = ℤ}) e ∙ length-append steps (x ∷ []) ∙ ap (λ (n : ℕ). n + 1) h

pub made-all : {X : Type 0} (box : Option (List Span)) (f : List Span → ℕ → X) (k n : ℕ) (items : List X) → k ≡ n → IfSome box (λ xs. items ≡ map (f xs) (range_with_len 0 k)) → IfSome box (λ xs. items ≡ map (f xs) (range_with_len 0 n))
made-all box f k n items e h = subst (λ (m : ℕ). IfSome box (λ xs. items ≡ map (f xs) (range_with_len 0 m))) e h

pub steps-small : (steps : List ℤ) → AreSteps steps → AreSmall steps
steps-small steps h k = let s = h k in (omega (arith, ints, s.0), s.1)

pub topped-by : (steps : List ℤ) (a first last : ℕ) (top greatest sum : ℤ) → IsTop steps first last greatest → sum ≡ step_at steps a +ℤ greatest → sum ≤ℤ top → AreTopped (step_at steps) a top first last
topped-by steps a first last top greatest sum is e l k low high = omega (arith, ints, is.over k low high, e, l)

pub topped-true : (f : ℕ → ℤ) (a : ℕ) (top' top : ℤ) (first last : ℕ) (b : Bool) → top' ≡ top → b ≡ true → OnTrue b (AreTopped f a top' first last) → AreTopped f a top first last
topped-true f a top' top first last true e h k = subst (λ (z : ℤ). AreTopped f a z first last) e k
topped-true f a top' top first last false e h k = absurd (cc)
