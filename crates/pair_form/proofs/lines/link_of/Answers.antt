use Rattle.std.proofs.Common.{w64, rules}
use Rattle.std.proofs.lemmas.Int.{to_z-of_z}
use Rattle.pair_form.proofs.LinkWords.{link_read, not_eight, small_fits}
use Rattle.pair_form.proofs.lines.link_of.Goals as goal
use Rattle.pair_form.proofs.lines.link_of.Goals.{in_default-via-then-words-lt8, in_default-via-else-words-lt8+else-words-lt9}

pub returns-in_default : goal.returns-in_default
returns-in_default c = elim c.in_default.branch [
  | in_default-via-then-words-lt8 w ↦ not_eight c.args.words.now (λ e. search rules)
  | in_default-via-else-words-lt8+else-words-lt9 w ↦ not_eight c.args.words.now (λ e. search rules)
]

pub returns : goal.returns
returns c =
    let tick = to_z-of_z w64 c.in_ok-tick.tick (small_fits c.in_ok-tick.tick c.in_ok-tick.ensures.small) in
    let near = to_z-of_z w64 c.in_ok-near.near (small_fits c.in_ok-near.near c.in_ok-near.ensures.small) in
    let far = to_z-of_z w64 c.in_ok-far.far (small_fits c.in_ok-far.far c.in_ok-far.ensures.small) in
    rw (tick, near, far)
    (link_read c.args.words.now _ c.in_ok-tick.tick c.in_ok-near.near c.in_ok-far.far c.in-len8.len_at_least c.in-len8.len_below c.requires (c.same.ensures.0 c.if-not-same.false)
    c.in_ok-tick.ensures.value c.in_ok-near.ensures.value c.in_ok-far.ensures.value)
