-- What a run writes and hands out, and what its report says.
use Rattle.std.specs.Prelude.{◌≡◌, ℕ, ◌⊎◌, Bool, true, List, Option, Some, None, IsSomeAnd, option_map, IsFalse, Result, Ok, Err, All, [], ◌∷◌, ◌++◌, ◌+◌, ◌<◌, ◌≤◌, length}
use Rattle.tube_spec.specs.Limits.{most_bytes}
use Rattle.tube_spec.specs.Span.{Span}
use Rattle.tube_spec.specs.Box.{measure_of}
use Rattle.tube_io.specs.Moves.{AllFlushed}
use Rattle.tube_io.specs.Sends.{AppendsPrefix}
use Rattle.std.specs.Io.KnownBytes.{Appends}
use Rattle.ctc_network.specs.Nets.{NetState}
use Rattle.ctc_network.specs.declared.answers.Settled.{Settled}
use Rattle.ctc_network.specs.declared.answers.Settled.TheVariants as answer
use Rattle.loop_report.specs.declared.found.Found.{Found}
use Rattle.mission_items.specs.declared.mission.Mission.{Mission}
use Rattle.mission_items.specs.Valid.{IsMission}
use Rattle.mission_net.specs.Building.{IsNetOf, IsSpentAs}
use Rattle.mission_net.specs.Records.{shape_by}
use Rattle.any_ctc.specs.declared.AnyCtc.{AnyCtc}
use Rattle.cli_words.specs.Usage.{usage_line}
use Rattle.section_report.specs.Sections.{Section, items_of, AreSections, AreSectionsTo, AreUnspent, AreAll, sections_cost}
use Rattle.section_report.specs.Texts.{verdict_of, report_text}
use Rattle.tube_report.specs.declared.section.Verdict.{Verdict}
use Rattle.tube_report.specs.declared.section.Verdict.TheVariants as verdict
use Rattle.demo_spec.specs.Mission.{demo_mission}
use Rattle.mission_log.specs.Log.{log_of}
use Rattle.codac_run.specs.Hearing.{Hears, TellsLowest, judged, log_heard}
use Rattle.codac_run.specs.Told.{Told, count_told, told_text, last_sets}
use Rattle.codac_run.specs.Tails.{AreToldOf, AreAllTold, AreStepsOf}
use Rattle.codac_run.specs.declared.plan.Origin.{Origin}
use Rattle.codac_run.specs.declared.plan.Origin.TheVariants as origin
use Rattle.codac_run.specs.declared.plan.Plan.{Plan}
use Rattle.codac_run.specs.declared.ended.Status.{Status}
use Rattle.codac_run.specs.declared.ended.Status.TheVariants as status
use Rattle.codac_run.specs.declared.ended.SpentAt.{SpentAt}
use Rattle.codac_run.specs.declared.ended.Ended.{Ended}

-- ---- what is asked

-- the log that a plan is for: the demo mission of the seed, which is accepted, or what the bytes of the source are, if they are told
abbrev pub log_from : Origin → Option (List ℕ) → Option (Result Mission (List ℕ))
log_from (origin.Demo seed) left = Some (Ok (demo_mission seed))
log_from origin.Source left = option_map (λ bytes. judged (log_of bytes)) left

abbrev pub log_planned : Plan → Option (List ℕ) → Option (Result Mission (List ℕ))
log_planned plan left = log_from plan.origin left

-- the words are wrong, or the log is made
abbrev pub IsUnread : Option Plan → Type 0
IsUnread None = Unit {0}
IsUnread (Some plan) = (seed : ℕ) × (plan.origin ≡ origin.Demo seed)

-- ---- what is handed out

-- where the budget was spent: in the last section, whose measure fell by it at least, and the contractor named still narrows its box, which is
-- handed out in the shape of its records
pub record IsSpent (m : Mission) (budget number : ℕ) (last : Section) (at : SpentAt) : Type 0 where
  pub numbered : at.section ≡ number
  pub held : at.store.box ≡ last.box
  pub shape : at.store.shape ≡ shape_by m.cuts (items_of m last)
  pub before : at.began ≡ last.began
  pub after : at.now ≡ measure_of last.box
  pub cause : IsSpentAs m.cuts (items_of m last) last.box at.began budget (answer.Spent at.ctc)

-- it is handed out exactly where the last section was spent
abbrev pub HandsSpent : Mission → ℕ → ℕ → Section → Settled → Option SpentAt → Type 0
HandsSpent m budget number last (answer.Spent id) spent = IsSomeAnd spent (λ at. (at.ctc ≡ id) × IsSpent m budget number last at)
HandsSpent m budget number last other spent = spent ≡ None

-- the net of all records at that box, in which no contractor waits
pub record IsSettledNet (m : Mission) (box : Option (List Span)) (net : NetState AnyCtc) : Type 0 where
  pub holds : IsNetOf m.cuts m.items net
  pub held : net.store.box ≡ box
  pub rests : All IsFalse net.waiting

-- the net is handed out exactly where the plan hands out and the status is Settled
abbrev pub HandsNet : Bool → Mission → Option (List Span) → Status → Option (NetState AnyCtc) → Type 0
HandsNet true m box status.Settled net = IsSomeAnd net (IsSettledNet m box)
HandsNet hands_out m box other net = net ≡ None

-- what is told of the last query is handed out where the plan hands out and the status is Settled
abbrev pub HandsFound : Bool → Status → Option (List Found) → Option (List Found) → Type 0
HandsFound true status.Settled found handed = handed ≡ found
HandsFound hands_out other found handed = handed ≡ None

-- what is handed out of a net whose last settling ended so
abbrev pub HandsWhere : Settled → ℕ → ℕ → NetState AnyCtc → Option SpentAt → Type 0
HandsWhere (answer.Spent id) number began net spent = spent ≡ Some (record { section = number; ctc = id; began = began; now = measure_of net.store.box; store = net.store })
HandsWhere other number began net spent = spent ≡ None

-- the net is handed out where the plan hands out and the status is Settled
abbrev pub HandsNetWhere : Bool → Status → NetState AnyCtc → Option (NetState AnyCtc) → Type 0
HandsNetWhere true status.Settled net handed = handed ≡ Some net
HandsNetWhere hands_out other net handed = handed ≡ None

-- a run whose section was spent does not end as settled
abbrev pub IsSettledOnly : Settled → Status → Type 0
IsSettledOnly (answer.Spent id) s = s ≡ status.Settled → ⊥
IsSettledOnly other s = Unit {0}

-- ---- what is written

abbrev pub status_of : Verdict → Status
status_of verdict.Settled = status.Settled
status_of verdict.Empty = status.Empty
status_of verdict.Spent = status.Spent

-- a text was written and flushed, and the status is the planned one; or the sink failed, and a prefix was written
abbrev pub Writes : List ℕ → Status → Option (List ℕ) → Option (List ℕ) → Option ℕ → Status → Type 0
Writes text planned old new flushed ended =
    ((ended ≡ planned) × Appends old new text × AllFlushed flushed new) ⊎ ((ended ≡ status.WriteFault) × AppendsPrefix old new text)

-- the texts of sections, and of what is told of queries
abbrev pub run_text : Mission → Plan → List Section → Told → List ℕ
run_text m plan sections told = report_text m plan.sections.brief sections ++ told_text plan.sections.brief told

-- nothing is handed out
pub record IsBare (e : Ended) : Type 0 where
  pub spent : e.spent ≡ None
  pub net : e.net ≡ None
  pub found : e.found ≡ None

-- the run stopped with a status before anything was written and any step was taken
abbrev pub Stops : Status → Option (List ℕ) → Option (List ℕ) → Ended → ℕ → Type 0
Stops s old new e used = (e.status ≡ s) × (new ≡ old) × IsBare e × (used ≡ 0)

-- only a line was written, of this status, and no step was taken
abbrev pub WritesLine : List ℕ → Status → Option (List ℕ) → Option (List ℕ) → Option ℕ → Ended → ℕ → Type 0
WritesLine line s old new flushed e used = Writes line s old new flushed e.status × IsBare e × (used ≡ 0)

-- ---- how a run ends

-- Over an accepted log: its sections up to a last one, and over the box of this what is told of the queries, of which the texts were written. Where
-- anything is told, all sections are there. So what was written of it is a prefix of the whole report, also where the sink failed. And so many steps
-- were used, no more than they may cost.
pub record Reports (m : Mission) (plan : Plan) (old new : Option (List ℕ)) (flushed : Option ℕ) (e : Ended) (used : ℕ) : Type 0 where
  pub accepted : IsMission m
  pub earlier : List Section
  pub last : Section
  pub sections : AreSectionsTo m plan.sections.budget earlier last
  pub told : Told
  pub findings : AreToldOf m plan last told
  pub told_last : (count_told told ≡ 0) ⊎ AreAll m earlier last
  pub writes : Writes (run_text m plan (earlier ++ last ∷ []) told) (status_of (verdict_of last.answer)) old new flushed e.status
  pub all : (e.status ≡ status.WriteFault → ⊥) → AreAll m earlier last × AreAllTold m plan last told
  pub spent : HandsSpent m plan.sections.budget (length earlier + 1) last last.answer e.spent
  pub net : HandsNet plan.hands_out m last.box e.status e.net
  pub found : HandsFound plan.hands_out e.status (last_sets told) e.found
  pub cost : AreStepsOf m plan (earlier ++ last ∷ []) last used

-- What a run over an accepted log begins to write: the texts of its first sections, and after all of them of what is told of the first queries.
pub record IsBeginning (m : Mission) (plan : Plan) (text : List ℕ) : Type 0 where
  pub earlier : List Section
  pub last : Section
  pub sections : AreSectionsTo m plan.sections.budget earlier last
  pub told : Told
  pub findings : AreToldOf m plan last told
  pub told_last : (count_told told ≡ 0) ⊎ AreAll m earlier last
  pub is : text ≡ run_text m plan (earlier ++ last ∷ []) told

-- each of these texts, and so the whole report, is shorter than so many bytes
abbrev pub IsShorter : Mission → Plan → ℕ → Type 0
IsShorter m plan n = (text : List ℕ) → IsBeginning m plan text → length text < n

-- over an accepted log where memory ran out: the texts of its first sections were written, of which none was spent
pub record RunsOut (m : Mission) (plan : Plan) (old new : Option (List ℕ)) (e : Ended) (used : ℕ) : Type 0 where
  pub accepted : IsMission m
  pub ended : e.status ≡ status.NoMemory
  pub bare : IsBare e
  pub done : List Section
  pub sections : AreSections m plan.sections.budget done
  pub unspent : AreUnspent done
  pub writes : Appends old new (report_text m plan.sections.brief done)
  pub cost : used ≤ sections_cost m done

-- over an accepted log where memory ran out among the queries: the texts of all sections and of the first queries were written
pub record RunsOutAfter (m : Mission) (plan : Plan) (old new : Option (List ℕ)) (e : Ended) (used : ℕ) : Type 0 where
  pub accepted : IsMission m
  pub ended : e.status ≡ status.NoMemory
  pub earlier : List Section
  pub last : Section
  pub sections : AreSectionsTo m plan.sections.budget earlier last
  pub all : AreAll m earlier last
  pub told : Told
  pub findings : AreToldOf m plan last told
  pub writes : Appends old new (run_text m plan (earlier ++ last ∷ []) told)
  pub spent : HandsSpent m plan.sections.budget (length earlier + 1) last last.answer e.spent
  pub net : e.net ≡ None
  pub found : e.found ≡ None
  pub cost : AreStepsOf m plan (earlier ++ last ∷ []) last used

-- over a log: its report, or the line that refuses it
abbrev pub EndsBy : Result Mission (List ℕ) → Plan → Option (List ℕ) → Option (List ℕ) → Option ℕ → Ended → ℕ → Type 0
EndsBy (Ok m) plan old new flushed e used = RunsOut m plan old new e used ⊎ RunsOutAfter m plan old new e used ⊎ Reports m plan old new flushed e used
EndsBy (Err line) plan old new flushed e used = WritesLine line status.Refused old new flushed e used

-- over the demo mission, or over what was heard of the source, of which nothing is left then, unless the run stopped before
abbrev pub EndsFrom : Origin → Plan → Option (List ℕ) → Option (List ℕ) → Option (List ℕ) → Option (List ℕ) → Option ℕ → Ended → ℕ → Type 0
EndsFrom (origin.Demo seed) plan left rest old new flushed e used = Stops status.NoMemory old new e used ⊎ EndsBy (Ok (demo_mission seed)) plan old new flushed e used
EndsFrom origin.Source plan left rest old new flushed e used =
    Stops status.NoMemory old new e used ⊎ Stops status.ReadFault old new e used
    ⊎ ((heard : Option (List ℕ)) × Hears most_bytes left rest heard × TellsLowest heard × EndsBy (log_heard heard) plan old new flushed e used)

-- with wrong words the usage line; with right ones what their plan is for; and so many steps were used
abbrev pub Ends : Option Plan → Option (List ℕ) → Option (List ℕ) → Option (List ℕ) → Option (List ℕ) → Option ℕ → Ended → ℕ → Type 0
Ends None left rest old new flushed e used = Stops status.NoMemory old new e used ⊎ WritesLine usage_line status.Usage old new flushed e used
Ends (Some plan) left rest old new flushed e used = EndsFrom plan.origin plan left rest old new flushed e used
