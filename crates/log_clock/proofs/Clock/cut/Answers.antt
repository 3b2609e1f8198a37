use Rattle.std.proofs.Common.{◌∙◌, sym, false, arith}
use Rattle.std.proofs.lemmas.List.{get_or_read}
use Rattle.log_clock.proofs.Marking.{IsCut, cut-grid, cut-inside, cut-last, cut-running, cut-same, cut-value}
use Rattle.log_clock.proofs.Clock.cut.Goals as goal

pub index-requires : goal.index-requires
index-requires c =
    omega (
      arith,
      c.self.inside.marks.ok.0,
      cut-inside c.self.inside.marks.items c.self.inside.slices c.self.inside.grid c.args.tick c.args.self.now
          (record { view = c.self.view_is; running = c.self.invariant; rises = c.requires.started; within = c.requires.within }),
    )

pub returns-then-index-clause-value : goal.returns-then-index-clause-value
returns-then-index-clause-value c =
    let bs = c.self.inside.marks.items in
    let cut : IsCut bs c.self.inside.slices c.self.inside.grid c.args.tick c.args.self.now =
    record { view = c.self.view_is; running = c.self.invariant; rises = c.requires.started; within = c.requires.within } in
    let inside = cut-inside bs c.self.inside.slices c.self.inside.grid c.args.tick c.args.self.now cut in
    cut-same bs c.self.inside.slices c.self.inside.grid c.args.tick c.args.self.now cut
    (sym (get_or_read bs c.args.tick c.index.result.now inside c.index.ensures false) ∙ c.if-index.true)

pub index_mut-requires : goal.index_mut-requires
index_mut-requires c =
    omega (
      arith,
      c.self.inside.marks.ok.0,
      cut-inside c.self.inside.marks.items c.self.inside.slices c.self.inside.grid c.args.tick c.args.self.now
          (record { view = c.self.view_is; running = c.self.invariant; rises = c.requires.started; within = c.requires.within }),
    )

pub invariant_of-self : goal.invariant_of-self
invariant_of-self c =
    let bs = c.self.inside.marks.items in
    let cut : IsCut bs c.self.inside.slices c.self.inside.grid c.args.tick c.args.self.now =
    record { view = c.self.view_is; running = c.self.invariant; rises = c.requires.started; within = c.requires.within } in
    let inside = cut-inside bs c.self.inside.slices c.self.inside.grid c.args.tick c.args.self.now cut in
    cut-running bs c.self.inside.slices c.self.inside.grid c.args.tick c.args.self.now cut
    (sym (get_or_read bs c.args.tick c.index.result.now inside c.index.ensures false) ∙ c.if-index.false)

pub returns-clause-value : goal.returns-clause-value
returns-clause-value c =
    cut-value c.self.inside.marks.items c.self.inside.slices c.self.inside.grid c.args.tick c.args.self.now
    (record { view = c.self.view_is; running = c.self.invariant; rises = c.requires.started; within = c.requires.within })

pub returns-clause-grid : goal.returns-clause-grid
returns-clause-grid c =
    cut-grid c.self.inside.marks.items c.self.inside.slices c.self.inside.grid c.args.tick c.args.self.now
    (record { view = c.self.view_is; running = c.self.invariant; rises = c.requires.started; within = c.requires.within })

pub returns-clause-ends : goal.returns-clause-ends
returns-clause-ends c =
    cut-last c.self.inside.marks.items c.self.inside.slices c.self.inside.grid c.args.tick c.args.self.now
    (record { view = c.self.view_is; running = c.self.invariant; rises = c.requires.started; within = c.requires.within })
