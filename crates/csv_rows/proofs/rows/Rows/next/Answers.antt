use Rattle.std.proofs.Common.{◌∙◌, refl, sym, subst}
use Rattle.csv.specs.Records.{fields_of}
use Rattle.csv_rows.specs.Left.{IsBetween}
use Rattle.csv_rows.specs.declared.rows.Rows.TheInside.{Inside}
use Rattle.csv_rows.proofs.Next.{IsOpen, begun, none-view, on-ok, read_none, read_one, taken-view}
use Rattle.csv_rows.proofs.rows.Rows.next.Goals as goal
use Rattle.csv_rows.proofs.rows.Rows.next.Goals.{then-not-self+else-is_err, else-not-self}

pub invariant_of-self-in-Ok-true : goal.invariant_of-self-in-Ok-true
invariant_of-self-in-Ok-true c =
    let opened : IsOpen c.self.inside.reader c.if-not-self.self-inside.reader c.if-not-self.self-inside.is_begun c.if-not-self.self-inside.is_done = elim c.if-not-self.branch [
      | then-not-self+else-is_err w ↦
          let given = on-ok w.name_no_columns.result _ w.if-is_err.ensures.value w.name_no_columns.ensures in
          subst (λ (i : Inside). IsOpen c.self.inside.reader i.reader i.is_begun i.is_done) (sym w.self-inside-is)
          (let now = begun c.self.inside.reader w.name_no_columns.new.reader (subst (IsBetween c.self.inside.reader) w.if-not-self.true (c.self.invariant c.if-self.false)) given.0 given.1 in
          record { same = now.0; between = now.1; is_begun = refl; is_done = c.if-self.false })
      | else-not-self w ↦
          subst (λ (i : Inside). IsOpen c.self.inside.reader i.reader i.is_begun i.is_done) (sym w.self-inside-is)
          (record { same = refl; between = subst (IsBetween c.self.inside.reader) w.if-not-self.false (c.self.invariant c.if-self.false); is_begun = w.if-not-self.false; is_done = c.if-self.false })
    ] in
    let read = rw c.in-Ok-true.field-0-test at (c.in-Ok-true.ensures.reads opened.between.trim (opened.between.ready refl)) in
    let one = read_one c.if-not-self.self-inside.reader c.read_byte_record.new.self (fields_of c.read_byte_record.new.row) opened.between
    (c.in-Ok-true.ensures.ready opened.between.trim) c.in-Ok-true.ensures.flexible read in
    λ _. subst (IsBetween c.read_byte_record.new.self) (sym opened.is_begun) one.1

pub returns-in-Ok-true-clause-next : goal.returns-in-Ok-true-clause-next
returns-in-Ok-true-clause-next c =
    let opened : IsOpen c.self.inside.reader c.if-not-self.self-inside.reader c.if-not-self.self-inside.is_begun c.if-not-self.self-inside.is_done = elim c.if-not-self.branch [
      | then-not-self+else-is_err w ↦
          let given = on-ok w.name_no_columns.result _ w.if-is_err.ensures.value w.name_no_columns.ensures in
          subst (λ (i : Inside). IsOpen c.self.inside.reader i.reader i.is_begun i.is_done) (sym w.self-inside-is)
          (let now = begun c.self.inside.reader w.name_no_columns.new.reader (subst (IsBetween c.self.inside.reader) w.if-not-self.true (c.self.invariant c.if-self.false)) given.0 given.1 in
          record { same = now.0; between = now.1; is_begun = refl; is_done = c.if-self.false })
      | else-not-self w ↦
          subst (λ (i : Inside). IsOpen c.self.inside.reader i.reader i.is_begun i.is_done) (sym w.self-inside-is)
          (record { same = refl; between = subst (IsBetween c.self.inside.reader) w.if-not-self.false (c.self.invariant c.if-self.false); is_begun = w.if-not-self.false; is_done = c.if-self.false })
    ] in
    let read = rw c.in-Ok-true.field-0-test at (c.in-Ok-true.ensures.reads opened.between.trim (opened.between.ready refl)) in
    let one = read_one c.if-not-self.self-inside.reader c.read_byte_record.new.self (fields_of c.read_byte_record.new.row) opened.between
    (c.in-Ok-true.ensures.ready opened.between.trim) c.in-Ok-true.ensures.flexible read in
    sym c.self.view_is ∙ taken-view c.self.inside.reader c.if-not-self.self-inside.reader c.read_byte_record.new.self (fields_of c.read_byte_record.new.row) c.self.inside.is_done c.if-not-self.self-inside.is_done c.if-self.false opened.is_done opened.same one.0

pub returns-in-Ok-false-clause-next : goal.returns-in-Ok-false-clause-next
returns-in-Ok-false-clause-next c =
    let opened : IsOpen c.self.inside.reader c.if-not-self.self-inside.reader c.if-not-self.self-inside.is_begun c.if-not-self.self-inside.is_done = elim c.if-not-self.branch [
      | then-not-self+else-is_err w ↦
          let given = on-ok w.name_no_columns.result _ w.if-is_err.ensures.value w.name_no_columns.ensures in
          subst (λ (i : Inside). IsOpen c.self.inside.reader i.reader i.is_begun i.is_done) (sym w.self-inside-is)
          (let now = begun c.self.inside.reader w.name_no_columns.new.reader (subst (IsBetween c.self.inside.reader) w.if-not-self.true (c.self.invariant c.if-self.false)) given.0 given.1 in
          record { same = now.0; between = now.1; is_begun = refl; is_done = c.if-self.false })
      | else-not-self w ↦
          subst (λ (i : Inside). IsOpen c.self.inside.reader i.reader i.is_begun i.is_done) (sym w.self-inside-is)
          (record { same = refl; between = subst (IsBetween c.self.inside.reader) w.if-not-self.false (c.self.invariant c.if-self.false); is_begun = w.if-not-self.false; is_done = c.if-self.false })
    ] in
    let read = rw c.in-Ok-false.field-0-test at (c.in-Ok-false.ensures.reads opened.between.trim (opened.between.ready refl)) in
    sym c.self.view_is ∙ none-view c.self.inside.reader c.if-not-self.self-inside.reader c.self.inside.is_done c.if-self.false opened.same
    (read_none c.if-not-self.self-inside.reader c.read_byte_record.new.self (fields_of c.read_byte_record.new.row) opened.between read)
