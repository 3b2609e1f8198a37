use Rattle.std.proofs.Common.{◌≡◌, ℕ, ◌+◌, ◌<◌, List, [], ◌∷◌, ◌++◌, Result, Ok, Err, OnErr, arith, sym, ap, ◌∙◌, subst, length, take, get_or}
use Rattle.std.proofs.lemmas.List.{take_more}
use Rattle.mission_items.specs.declared.item.Item.{Item}
use Rattle.section_tracer.specs.Leaving.{IsCutShort}
use Rattle.section_tracer.proofs.Tracing.{IsTracedUpTo, traced-none, traced-past, traced-more, cut-short, traced-early, traced-last}
use Rattle.section_tracer.proofs.sections.trace_sections.Goals as goal
use Rattle.section_tracer.proofs.sections.trace_sections.Goals.{then-is_settle+in_ok-traced+else-ends_trace, else-is_settle}

-- the records before a place, with the one there
longer : (items all : List Item) → items ≡ all → (i : ℕ) (x : Item) → x ≡ get_or items i x → i < length all → take (i + 1) all ≡ take i all ++ x ∷ []
longer items all same i x is inside = take_more all i x inside ∙ ap (λ (r : Item). take i all ++ r ∷ []) (sym (is ∙ ap (λ (l : List Item). get_or l i x) same))

on-err : {S E : Type 0} (r : Result S E) (P : Type 0) → P → OnErr r P
on-err (Ok s) P p = tt
on-err (Err e) P p = p

pub loop-upto-init : goal.loop-upto-init
loop-upto-init g c = record {
  sections = traced-none g.K.Sink.written g.K.Sink.flushed g.K.Sink.faults c.args.mission.now c.args.sink.now c.args.net.now c.requires.fresh;
  places = c.new-places.ensures;
  table = c.new-table.ensures;
}

pub returns-in_err-traced-clause-cut_short : goal.returns-in_err-traced-clause-cut_short
returns-in_err-traced-clause-cut_short g c =
    let m = c.args.mission.now in
    on-err c.from_residual.result (IsCutShort g.K.Sink.written g.K.Sink.flushed g.K.Sink.faults m c.args.sink.now c.trace_part.new.sink)
    (cut-short g.K.Sink.written g.K.Sink.flushed g.K.Sink.faults m c.args.sink.now c.loop-upto.upto c.loop-upto.first c.loop-upto.number c.loop-upto.net c.loop-upto.sink c.trace_part.new.sink c.in_err-traced.ensures.silent c.loop-upto.invariant.sections)

pub returns-then-ends_trace-clause-traced : goal.returns-then-ends_trace-clause-traced
returns-then-ends_trace-clause-traced g c =
    let m = c.args.mission.now in
    let i = c.loop-upto.upto in
    let x = c.index-items-upto.result in
    let inside : i < length m.items = omega (arith, c.loop-upto-test.true, ap length c.as_slice-items.ensures) in
    let e = c.in_ok-traced.ensures in
    traced-early g.K.Sink.written g.K.Sink.flushed g.K.Sink.faults m c.args.sink.now i c.loop-upto.first c.loop-upto.number c.loop-upto.net c.trace_part.new.net c.loop-upto.sink c.trace_part.new.sink c.in_ok-traced.traced.section c.in_ok-traced.traced.fired.items
    c.loop-upto.invariant.sections e.holds e.section e.goes_on e.firings e.place e.writes
    x inside (longer c.as_slice-items.result.now m.items c.as_slice-items.ensures i x c.index-items-upto.is inside) (sym c.is_settle.ensures ∙ c.if-is_settle.true) (sym c.ends_trace.ensures ∙ c.if-ends_trace.true)

pub loop-upto-preserved : goal.loop-upto-preserved
loop-upto-preserved g c =
    let m = c.args.mission.now in
    let i = c.loop-upto.upto in
    let x = c.index-items-upto.result in
    let inside : i < length m.items = omega (arith, c.loop-upto-test.true, ap length c.as_slice-items.ensures) in
    let more = longer c.as_slice-items.result.now m.items c.as_slice-items.ensures i x c.index-items-upto.is inside in
    elim c.if-is_settle.branch [
      | then-is_settle+in_ok-traced+else-ends_trace w ↦
          let e = w.in_ok-traced.ensures in
          rw (w.first-is, w.number-is, w.net-is, w.sink-is, w.table-is, w.places-is)
          (record {
            sections = traced-more g.K.Sink.written g.K.Sink.flushed g.K.Sink.faults m c.args.sink.now i c.loop-upto.first c.loop-upto.number c.loop-upto.net w.trace_part.new.net c.loop-upto.sink w.trace_part.new.sink w.in_ok-traced.traced.section w.in_ok-traced.traced.fired.items
                c.loop-upto.invariant.sections e.holds e.section e.goes_on e.firings e.place e.writes
                x inside more (sym c.is_settle.ensures ∙ w.if-is_settle.true) (sym w.ends_trace.ensures ∙ w.if-ends_trace.false);
            places = e.places;
            table = e.table;
          })
      | else-is_settle w ↦
          rw (w.first-is, w.number-is, w.net-is, w.sink-is, w.table-is, w.places-is)
          (record {
            sections = traced-past g.K.Sink.written g.K.Sink.flushed g.K.Sink.faults m c.args.sink.now i c.loop-upto.first c.loop-upto.number c.loop-upto.net c.loop-upto.sink x inside more (sym c.is_settle.ensures ∙ w.if-is_settle.false) c.loop-upto.invariant.sections;
            places = c.loop-upto.invariant.places;
            table = c.loop-upto.invariant.table;
          })
    ]

pub returns-in_err-traced-2-clause-cut_short : goal.returns-in_err-traced-2-clause-cut_short
returns-in_err-traced-2-clause-cut_short g c =
    let m = c.args.mission.now in
    on-err c.from_residual-in_err-traced-2.result (IsCutShort g.K.Sink.written g.K.Sink.flushed g.K.Sink.faults m c.args.sink.now c.trace_part-2.new.sink)
    (cut-short g.K.Sink.written g.K.Sink.flushed g.K.Sink.faults m c.args.sink.now c.loop-upto.upto c.loop-upto.first c.loop-upto.number c.loop-upto.net c.loop-upto.sink c.trace_part-2.new.sink c.in_err-traced-2.ensures.silent c.loop-upto.invariant.sections)

pub returns-clause-traced : goal.returns-clause-traced
returns-clause-traced g c =
    let m = c.args.mission.now in
    let n = length c.as_slice-items.result.now in
    let end : c.loop-upto.upto ≡ n = omega (arith, c.loop-upto-test.false, c.loop-upto.auto.upto-end) in
    let w = subst (λ (k : ℕ). IsTracedUpTo g.K.Sink.written g.K.Sink.flushed g.K.Sink.faults m c.args.sink.now k c.loop-upto.first c.loop-upto.number c.loop-upto.net c.loop-upto.sink) end c.loop-upto.invariant.sections in
    let e = c.in_ok-traced-2.ensures in
    traced-last g.K.Sink.written g.K.Sink.flushed g.K.Sink.faults m c.args.sink.now n c.loop-upto.first c.loop-upto.number c.loop-upto.net c.trace_part-2.new.net c.loop-upto.sink c.trace_part-2.new.sink c.in_ok-traced-2.traced.section c.in_ok-traced-2.traced.fired.items
    w e.holds e.section e.goes_on e.firings e.place e.writes (ap length c.as_slice-items.ensures)
