use Rattle.std.proofs.Common.{◌≡◌, ◌++◌, ◌∷◌, List, ℕ, subst, arith, length, codes}
use Rattle.std.specs.Prelude.{OnOk}
use Rattle.csv_rows.specs.Lines.{line}
use Rattle.log_text.specs.Written.{field_text}
use Rattle.log_text.proofs.Places.{two_places}
use Rattle.log_text.proofs.points.append_constell.Goals as goal

pub returns : goal.returns
returns c =
    let p : length c.args.p ≡ 2 = omega arith in
    let e = two_places c.args.names.now c.args.p (field_text c.variable.result) (field_text c.variable-2.result) p c.variable.ensures c.variable-2.ensures in
    subst (λ (vs : List (List ℕ)). OnOk c.append_line.result (c.append_line.new.out.items ≡ c.args.out.now.items ++ line (codes "constell" ∷ vs))) e c.append_line.ensures
