use Rattle.std.proofs.Common.{◌≡◌, ◌++◌, ◌∷◌, [], List, ℕ, subst, arith, length, codes, ℤ, to_z, of_z, w64}
use Rattle.std.proofs.lemmas.Int.{to_z-of_z}
use Rattle.std.specs.Prelude.{OnOk}
use Rattle.std.specs.Fmt.{signed_decimal}
use Rattle.csv_rows.specs.Lines.{line}
use Rattle.log_text.specs.Written.{field_text}
use Rattle.log_text.proofs.Places.{six_places}
use Rattle.log_text.proofs.points.append_range3.Goals as goal

pub returns : goal.returns
returns c =
    let p : length c.args.p ≡ 3 = omega arith in
    let b : length c.args.b ≡ 3 = omega arith in
    let e = six_places c.args.names.now c.args.p c.args.b (field_text c.variable.result) (field_text c.variable-2.result) (field_text c.variable-3.result) (field_text c.variable-4.result) (field_text c.variable-5.result) (field_text c.variable-6.result) p b c.variable.ensures c.variable-2.ensures c.variable-3.ensures c.variable-4.ensures c.variable-5.ensures c.variable-6.ensures in
    let near : to_z w64 (of_z w64 c.args.near) ≡ c.args.near = to_z-of_z w64 c.args.near c.ranges.near in
    let far : to_z w64 (of_z w64 c.args.far) ≡ c.args.far = to_z-of_z w64 c.args.far c.ranges.far in
    let Says : ℤ → ℤ → List (List ℕ) → Type 0 = λ m n vs. OnOk c.append_line.result (c.append_line.new.out.items ≡ c.args.out.now.items ++ line (codes "range3" ∷ signed_decimal m ∷ signed_decimal n ∷ vs)) in
    let texts : List (List ℕ) = field_text c.variable.result ∷ field_text c.variable-2.result ∷ field_text c.variable-3.result ∷ field_text c.variable-4.result ∷ field_text c.variable-5.result ∷ field_text c.variable-6.result ∷ [] in
    subst (Says c.args.near c.args.far) e (subst (λ (m : ℤ). Says m c.args.far texts) near (subst (λ (n : ℤ). Says (to_z w64 (of_z w64 c.args.near)) n texts) far c.append_line.ensures))
