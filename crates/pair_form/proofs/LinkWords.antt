-- The eight words of a link's line.
use Rattle.std.proofs.Common.{◌≡◌, ℕ, ℤ, ◌<◌, ◌≤◌, ◌^◌, List, [], ◌∷◌, length, get_or, map, sym, ap, ◌∙◌, arith, Some, Bor, SFits, w64}
use Rattle.std.specs.Prelude.{codes, unsigned_abs}
use Rattle.std.specs.List.{AllByRecursion}
use Rattle.std.proofs.lemmas.Int.{fits_signed_from_abs}
use Rattle.std.proofs.lemmas.List.{length-map}
use Rattle.log_spelling.specs.Numbers.{number_of}
use Rattle.pair_form.specs.Forms.{IsLink, LinkForm}
use Rattle.pair_form.specs.Words.{IsWord}

pub small_fits : (z : ℤ) → unsigned_abs z < 10 ^ 18 → SFits w64 z
small_fits z h = fits_signed_from_abs w64 z (omega arith)

abbrev texts : List (Bor (List ℕ)) → List (List ℕ)
texts words = map (λ w. w.now) words

abbrev link_at : List (Bor (List ℕ)) → Bor (List ℕ) → ℤ → ℤ → ℤ → LinkForm
link_at ws d tick near far = record {
  tick = tick;
  radii = (near, far);
  first = ((get_or ws 4 d).now, (get_or ws 5 d).now);
  second = ((get_or ws 6 d).now, (get_or ws 7 d).now);
}

pub link_read : (ws : List (Bor (List ℕ))) (d : Bor (List ℕ)) (tick near far : ℤ) → 8 ≤ length ws → length ws < 9 → AllByRecursion IsWord (map (λ w. w.now) ws) → (get_or ws 0 d).now ≡ codes "link"
    → number_of (get_or ws 1 d).now ≡ Some tick → number_of (get_or ws 2 d).now ≡ Some near → number_of (get_or ws 3 d).now ≡ Some far
    → IsLink (map (λ w. w.now) ws) (link_at ws d tick near far)
link_read [] d tick near far low high words kind t n f = absurd (omega arith)
link_read (a ∷ []) d tick near far low high words kind t n f = absurd (omega arith)
link_read (a ∷ b ∷ []) d tick near far low high words kind t n f = absurd (omega arith)
link_read (a ∷ b ∷ c ∷ []) d tick near far low high words kind t n f = absurd (omega arith)
link_read (a ∷ b ∷ c ∷ e ∷ []) d tick near far low high words kind t n f = absurd (omega arith)
link_read (a ∷ b ∷ c ∷ e ∷ g ∷ []) d tick near far low high words kind t n f = absurd (omega arith)
link_read (a ∷ b ∷ c ∷ e ∷ g ∷ h ∷ []) d tick near far low high words kind t n f = absurd (omega arith)
link_read (a ∷ b ∷ c ∷ e ∷ g ∷ h ∷ i ∷ []) d tick near far low high words kind t n f = absurd (omega arith)
link_read (a ∷ b ∷ c ∷ e ∷ g ∷ h ∷ i ∷ j ∷ []) d tick near far low high words kind t n f = record {
  tick = b.now;
  near = c.now;
  far = e.now;
  spelled = ap (λ (w : List ℕ). w ∷ b.now ∷ c.now ∷ e.now ∷ g.now ∷ h.now ∷ i.now ∷ j.now ∷ []) kind;
  tick_is = t;
  near_is = n;
  far_is = f;
  names = words.1.1.1.1;
}
link_read (a ∷ b ∷ c ∷ e ∷ g ∷ h ∷ i ∷ j ∷ k ∷ ws) d tick near far low high words kind t n f = absurd (omega arith)

-- a line of a link has eight words
pub not_eight : (ws : List (Bor (List ℕ))) → (length ws ≡ 8 → ⊥) → (link : LinkForm) → IsLink (map (λ w. w.now) ws) link → ⊥
not_eight ws other link h = other (sym (length-map ws (λ w. w.now)) ∙ ap length h.spelled)
