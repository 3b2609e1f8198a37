use Rattle.std.proofs.Common.{◌≡◌, ◌+◌, ◌*◌, ◌∙◌, ℕ, arith, sym, ap, length, map}
use Rattle.tube_names.specs.Points.{numbers}
use Rattle.ctc_constell.proofs.Reading.{scope-length, alike-at}
use Rattle.ctc_constell.proofs.constell.ConstellCtcContractor.reads.Goals as goal

pub returns : goal.returns
returns g c =
    let me = c.args.self.now in
    let s = c.args._store.now.shape in
    let marks : c.len.result ≡ length me.marks.items = omega arith in
    ap (λ (k : ℕ). g.row.N + g.row.N * k) marks
    ∙ sym (scope-length s g.row.N me.p me.marks.items (omega arith) (alike-at g.row.N me.p (map numbers me.marks.items) (omega arith) c.requires.alike))
