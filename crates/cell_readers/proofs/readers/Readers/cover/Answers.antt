use Rattle.std.proofs.Common.{refl, ap}
use Rattle.cell_readers.specs.Entries.{Table}
use Rattle.cell_readers.proofs.Noted.{covered}
use Rattle.cell_readers.proofs.readers.Readers.cover.Goals as goal

pub returns-clause-same : goal.returns-clause-same
returns-clause-same c cell =
    let r = c.self.inside in
    covered r.entries.items c.reserve.new.self.items r.heads.items c.lengthen.new.list.items c.args.self.now cell c.reserve.ensures.items (c.lengthen.ensures.same cell) (ap (λ (t : Table). t.readers) c.self.view_is)

pub returns-in_err-reserve-clause-same : goal.returns-in_err-reserve-clause-same
returns-in_err-reserve-clause-same c cell =
    let r = c.self.inside in
    covered r.entries.items c.reserve.new.self.items r.heads.items c.lengthen.new.list.items c.args.self.now cell c.reserve.ensures.items (c.lengthen.ensures.same cell) (ap (λ (t : Table). t.readers) c.self.view_is)

pub returns-in_err-lengthen-clause-same : goal.returns-in_err-lengthen-clause-same
returns-in_err-lengthen-clause-same c cell =
    let r = c.self.inside in
    covered r.entries.items r.entries.items r.heads.items c.lengthen.new.list.items c.args.self.now cell refl (c.lengthen.ensures.same cell) (ap (λ (t : Table). t.readers) c.self.view_is)

pub returns-then-entries-len-clause-same : goal.returns-then-entries-len-clause-same
returns-then-entries-len-clause-same c cell =
    let r = c.self.inside in
    covered r.entries.items r.entries.items r.heads.items c.lengthen.new.list.items c.args.self.now cell refl (c.lengthen.ensures.same cell) (ap (λ (t : Table). t.readers) c.self.view_is)
