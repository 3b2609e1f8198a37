use Rattle.ctc_core.proofs.FiringLaws.{Revises-on_empty, Revises-same, Revises-narrowed, Revises-lost, Revises-nothing, Revises-both}
use Rattle.ctc_core.proofs.laws.firing_law.Goals as goal

pub returns : goal.returns
returns c = record {
  on_empty = Revises-on_empty;
  same = Revises-same;
  narrowed = Revises-narrowed;
  empty = Revises-lost;
  nothing = Revises-nothing;
  then = Revises-both;
}
