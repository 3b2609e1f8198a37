use Rattle.std.proofs.Common.{◌≡◌, ◌+◌, ◌<◌, ◌≤◌, ◌++◌, [], ◌∷◌, ℕ, Option, Some, List, Bool, length, map, sym, subst, ap, ◌∙◌, arith}
use Rattle.part_marks.specs.Marks.{Marked}
use Rattle.ctc_network.specs.Nets.{NetState, IsNetKept, HasMarks, IsTableOf, of_place, fits_place, entries_of}
use Rattle.ctc_network.proofs.Keeping.{kept-added}
use Rattle.ctc_network.proofs.Holes.{below, covered, there-more, count-more}
use Rattle.ctc_network.proofs.Waking.{table-covered, sum-scopes}
use Rattle.ctc_network.proofs.Marks.{marks-added}
use Rattle.ctc_network.proofs.net.Net.add.Goals as goal

pub invariant_of-self-in_err-cover : goal.invariant_of-self-in_err-cover
invariant_of-self-in_err-cover g c =
    let K = g.C.Contractor in
    let T = g.row.C.Denot in
    let n = c.self.inside in
    record {
      net = subst (λ (cs : List (Option T)). IsNetKept K.projections K.scope K.fits (record { store = n.store; contractors = cs; waiting = n.waiting }) c.cover.new.self n.entries n.count) (sym {A = List (Option T)} c.reserve.ensures.items)
          (covered g.row.C.Denot K.projections K.scope K.fits n.store n.contractors.items n.waiting n.readers c.cover.new.self n.entries n.count c.self.invariant.net c.cover.ensures.same c.cover.ensures.contractors);
      marks = subst (λ (cs : List (Option T)). HasMarks g.C.Parted.parts g.C.Parted.part n.store cs c.reserve-2.new.self.items) (sym {A = List (Option T)} c.reserve.ensures.items)
          (subst (λ (ms : List Marked). HasMarks g.C.Parted.parts g.C.Parted.part n.store n.contractors.items ms) (sym {A = List Marked} c.reserve-2.ensures.items) c.self.invariant.marks);
    }

pub invariant_of-self-in_err-push_number : goal.invariant_of-self-in_err-push_number
invariant_of-self-in_err-push_number g c =
    let K = g.C.Contractor in
    let T = g.row.C.Denot in
    let n = c.self.inside in
    record {
      net = subst (λ (ws : List Bool). IsNetKept K.projections K.scope K.fits (record { store = n.store; contractors = c.reserve.new.self.items; waiting = ws }) c.cover.new.self n.entries n.count) (sym c.in_err-push_number.ensures.err)
          (subst (λ (cs : List (Option T)). IsNetKept K.projections K.scope K.fits (record { store = n.store; contractors = cs; waiting = n.waiting }) c.cover.new.self n.entries n.count) (sym {A = List (Option T)} c.reserve.ensures.items)
          (covered g.row.C.Denot K.projections K.scope K.fits n.store n.contractors.items n.waiting n.readers c.cover.new.self n.entries n.count c.self.invariant.net c.cover.ensures.same c.cover.ensures.contractors));
      marks = subst (λ (cs : List (Option T)). HasMarks g.C.Parted.parts g.C.Parted.part n.store cs c.reserve-2.new.self.items) (sym {A = List (Option T)} c.reserve.ensures.items)
          (subst (λ (ms : List Marked). HasMarks g.C.Parted.parts g.C.Parted.part n.store n.contractors.items ms) (sym {A = List Marked} c.reserve-2.ensures.items) c.self.invariant.marks);
    }

pub invariant_of-self-2 : goal.invariant_of-self-2
invariant_of-self-2 g c =
    let K = g.C.Contractor in
    let T = g.row.C.Denot in
    let n = c.self.inside in
    let cs = n.contractors.items in
    let scopes : List (List ℕ) = map (λ x. of_place K.scope x n.store.shape) cs in
    let few : length cs < 4000000000 = subst (λ (v : NetState T). length v.contractors < 4000000000) (sym c.self.view_is) c.requires.few in
    let fit : K.fits c.args.c n.store.shape n.store.box = subst (λ (v : NetState T). K.fits c.args.c v.store.shape v.store.box) (sym c.self.view_is) c.requires.fits in
    let items : c.push_reserved.new.self.items ≡ cs ++ Some c.args.c ∷ [] = c.push_reserved.ensures.items ∙ ap (λ (ks : List (Option T)). ks ++ Some c.args.c ∷ []) c.reserve.ensures.items in
    let sum : c.entries-entries.result ≡ n.entries =
    c.entries-entries.ensures.sum ∙ sym (c.self.invariant.net.kept.table_of.sum ∙ sum-scopes (λ x. of_place K.scope x n.store.shape) cs ∙ ap (λ (v : NetState T). entries_of (of_place K.scope) v.store.shape v.contractors) c.self.view_is) in
    let low : n.entries ≤ 20000000 = subst (λ m. m ≤ 20000000) (sym (c.self.invariant.net.kept.table_of.sum ∙ sum-scopes (λ x. of_place K.scope x n.store.shape) cs)) c.self.invariant.net.kept.state.net.entries in
    let covered : IsTableOf scopes c.cover.new.self n.entries = table-covered scopes n.readers c.cover.new.self n.entries c.self.invariant.net.kept.table_of c.cover.ensures.same c.cover.ensures.contractors in
    let marks : c.push_reserved-2.new.self.items ≡ n.marks.items ++ c.in_ok-marks.marks ∷ [] = c.push_reserved-2.ensures.items ∙ ap (λ (ms : List Marked). ms ++ c.in_ok-marks.marks ∷ []) c.reserve-2.ensures.items in
    record {
      net = subst (λ (ks : List (Option T)). IsNetKept K.projections K.scope K.fits (record { store = n.store; contractors = ks; waiting = c.push_number.new.self }) c.add.new.self (n.entries + c.reads-reads.result) (n.count + 1)) (sym items)
          (subst (λ (ws : List Bool). IsNetKept K.projections K.scope K.fits (record { store = n.store; contractors = cs ++ Some c.args.c ∷ []; waiting = ws }) c.add.new.self (n.entries + c.reads-reads.result) (n.count + 1)) (sym c.in_ok-push_number.ensures.ok) record {
            there = there-more cs n.waiting c.args.c c.self.invariant.net.kept.state.net.beside c.self.invariant.net.there;
            count = omega (arith, c.self.invariant.net.count, count-more cs c.args.c);
            kept = kept-added (Option T) (of_place K.projections) (of_place K.scope) (fits_place K.fits) (below T K.projections K.scope K.fits g.met.C.Contractor.fits_below) n.store cs n.waiting n.readers c.add.new.self n.entries (n.entries + c.reads-reads.result) (Some c.args.c) c.self.invariant.net.kept
                few fit (omega (arith, c.if-reads-entries.false, low, sum)) (ap (λ r. n.entries + r) c.reads-reads.ensures)
                (c.add.ensures.exact scopes covered.contractors covered.readers) (c.add.ensures.contractors ∙ ap (λ m. m + 1) c.cover.ensures.contractors);
          });
      marks = subst (λ (ks : List (Option T)). HasMarks g.C.Parted.parts g.C.Parted.part n.store ks c.push_reserved-2.new.self.items) (sym items)
          (subst (λ (ms : List Marked). HasMarks g.C.Parted.parts g.C.Parted.part n.store (cs ++ Some c.args.c ∷ []) ms) (sym marks)
          (marks-added g.C.Parted.parts g.C.Parted.part n.store cs c.args.c n.marks.items c.in_ok-marks.marks c.self.invariant.marks (subst (λ (q : ℕ). q ≤ length c.in_ok-marks.marks.flags) c.parts.ensures c.in_ok-marks.ensures.0) (λ i b. c.in_ok-marks.ensures.1 i (subst (λ (q : ℕ). i < q) (sym c.parts.ensures) b))));
    }
