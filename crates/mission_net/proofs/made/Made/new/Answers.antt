use Rattle.std.proofs.Common.{◌∙◌, ap, refl, map}
use Rattle.std.proofs.lemmas.List.{length-map}
use Rattle.tube_names.specs.Points.{numbers}
use Rattle.ctc_eval.specs.Held.{rate_of}
use Rattle.mission_net.proofs.made.Made.new.Goals as goal

pub returns : goal.returns
returns c = record {
  signals = c.new.ensures.items;
  variables = c.new-2.ensures.items;
  many = length-map c.no_rates.result rate_of ∙ c.no_rates.ensures.many;
  rates = λ x small. c.no_rates.ensures.none x;
  marks = ap (map numbers) c.new-3.ensures.items;
  hull = refl;
}
