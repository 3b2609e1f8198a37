-- Blanks at the end of a text.
use Rattle.std.proofs.Common.{◌≡◌, ℕ, ◌+◌, ◌-◌, ◌<◌, true, false, cond, List, [], ◌∷◌, ◌++◌, length, take, get_or, refl, sym, ap, ◌∙◌, arith, ◌&&◌}
use Rattle.std.proofs.Math.Seq.{take-length}
use Rattle.std.proofs.lemmas.List.{take_more}
use Rattle.log_spelling.specs.Blanks.{is_blank, is_empty, without_back}

not_empty : (xs : List ℕ) (c : ℕ) → is_empty (xs ++ c ∷ []) ≡ false
not_empty [] c = refl
not_empty (x ∷ xs) c = refl

-- a blank at the end goes
back_blank : (xs : List ℕ) (c : ℕ) → is_blank c ≡ true → without_back (xs ++ c ∷ []) ≡ without_back xs
back_blank [] c h = rw h refl
back_blank (x ∷ xs) c h = rw (back_blank xs c h) refl

-- and nothing else does
back_kept : (xs : List ℕ) (c : ℕ) → is_blank c ≡ false → without_back (xs ++ c ∷ []) ≡ xs ++ c ∷ []
back_kept [] c h = rw h refl
back_kept (x ∷ xs) c h = rw (back_kept xs c h, not_empty xs c) (elim (is_blank x) as (λ b. cond (b && false) [] (x ∷ (xs ++ c ∷ [])) ≡ x ∷ (xs ++ c ∷ [])) [ true ↦ refl | false ↦ refl ])

-- a text is what stands before its last byte, and that byte
last_split : (ys : List ℕ) → 0 < length ys → ys ≡ take (length ys - 1) ys ++ get_or ys (length ys - 1) 0 ∷ []
last_split ys h =
    let more = take_more ys (length ys - 1) 0 (omega arith) in
    let all : (length ys - 1) + 1 ≡ length ys = omega arith in
    sym (take-length ys) ∙ (ap (λ (n : ℕ). take n ys) (sym all) ∙ more)

pub last_blank : (ys : List ℕ) → 0 < length ys → is_blank (get_or ys (length ys - 1) 0) ≡ true → without_back (take (length ys - 1) ys) ≡ without_back ys
last_blank ys h b = sym (ap without_back (last_split ys h) ∙ back_blank (take (length ys - 1) ys) (get_or ys (length ys - 1) 0) b)

pub last_kept : (ys : List ℕ) → 0 < length ys → is_blank (get_or ys (length ys - 1) 0) ≡ false → ys ≡ without_back ys
last_kept ys h b = last_split ys h ∙ (sym (back_kept (take (length ys - 1) ys) (get_or ys (length ys - 1) 0) b) ∙ sym (ap without_back (last_split ys h)))
