use Rattle.std.proofs.Common.{refl}
use Rattle.area_paver.proofs.Tables.{named-turned, named-straight}
use Rattle.area_paver.proofs.chart.Area.mark.Goals as goal

pub mark_in-requires : goal.mark_in-requires
mark_in-requires c =
    let h = named-turned _ _ c.self.inside.lines.items c.deref.result.now c.args.column c.args.row c.self.invariant c.self.view_is refl c.if-self.true c.deref.ensures.value c.requires.column c.requires.row in
    record { line = h.0; place = h.1 }

pub mark_in-requires-else-self : goal.mark_in-requires-else-self
mark_in-requires-else-self c =
    let h = named-straight _ _ c.self.inside.lines.items c.deref-else-self.result.now c.args.column c.args.row c.self.invariant c.self.view_is refl c.if-self.false c.deref-else-self.ensures.value c.requires.column c.requires.row in
    record { line = h.0; place = h.1 }
