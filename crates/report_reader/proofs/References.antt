-- Names with `.x` or `.y` behind them.
use Rattle.std.proofs.Common.{◌≡◌, ℕ, ◌+◌, ◌-◌, ◌<◌, inl, inr, true, false, List, ◌++◌, length, take, drop, sym, ap, ◌∙◌, subst, arith, length-append}
use Rattle.std.proofs.Math.Seq.{drop-append_seam, take-append_seam}
use Rattle.std.proofs.lemmas.Bool.{both_ways}
use Rattle.std.proofs.lemmas.List.{take-append-drop}
use Rattle.log_spelling.specs.Names.{is_name}
use Rattle.report_reader.specs.Words.{IsAxis, IsReference}

axis_two : (axis : List ℕ) → IsAxis axis → length axis ≡ 2
axis_two axis (inl e) = ap length e
axis_two axis (inr e) = ap length e

-- the parts of a name with an axis behind it stand before and after the second byte from the end
parts_at : (word beacon axis : List ℕ) → IsAxis axis → beacon ++ axis ≡ word → (take (length word - 2) word ≡ beacon) × (drop (length word - 2) word ≡ axis)
parts_at word beacon axis h e =
    let total : length beacon + length axis ≡ length word = sym (length-append beacon axis) ∙ ap length e in
    let two = axis_two axis h in
    let at : length word - 2 ≡ length beacon = omega arith in (
      ap (λ (n : ℕ). take n word) at ∙ (ap (take (length beacon)) (sym e) ∙ take-append_seam beacon axis),
      ap (λ (n : ℕ). drop n word) at ∙ (ap (drop (length beacon)) (sym e) ∙ drop-append_seam beacon axis),
    )

pub no_short_reference : (word : List ℕ) → is_name word ≡ false → length word < 2 → IsReference word → ⊥
no_short_reference word bare short (inl e) = both_ways (is_name word) bare e
no_short_reference word bare short (inr h) =
    let total : length h.0 + length h.1 ≡ length word = sym (length-append h.0 h.1) ∙ ap length h.4 in
    let two = axis_two h.1 h.3 in
    omega arith

pub no_other_reference : (word axis : List ℕ) → is_name word ≡ false → axis ≡ drop (length word - 2) word → (IsAxis axis → ⊥) → IsReference word → ⊥
no_other_reference word axis bare e other (inl k) = both_ways (is_name word) bare k
no_other_reference word axis bare e other (inr h) = other (subst IsAxis (sym (e ∙ (parts_at word h.0 h.1 h.3 h.4).1)) h.3)

pub reference_by_axis : (word beacon axis : List ℕ) → is_name word ≡ false → beacon ≡ take (length word - 2) word → axis ≡ drop (length word - 2) word → IsAxis axis → (is_name beacon ≡ true → IsReference word) × (IsReference word → is_name beacon ≡ true)
reference_by_axis word beacon axis bare b a h = (λ e. inr (beacon, axis, e, h, whole), back)
  where
    whole : beacon ++ axis ≡ word
    whole = ap (λ (t : List ℕ). t ++ axis) b ∙ (ap (λ (t : List ℕ). take (length word - 2) word ++ t) a ∙ take-append-drop (length word - 2) word)

    back : IsReference word → is_name beacon ≡ true
    back (inl k) = absurd (both_ways (is_name word) bare k)
    back (inr k) = ap is_name (b ∙ (parts_at word k.0 k.1 k.3 k.4).0) ∙ k.2
