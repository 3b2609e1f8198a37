use Rattle.mission_net.proofs.Sections.{started-keeps, settled-is, section-covers}
use Rattle.mission_net.proofs.laws.settled_section_law.Goals as goal

pub returns-clause-starts : goal.returns-clause-starts
returns-clause-starts c = started-keeps

pub returns-clause-settled : goal.returns-clause-settled
returns-clause-settled c = settled-is

pub returns-clause-encloses : goal.returns-clause-encloses
returns-clause-encloses c = section-covers
