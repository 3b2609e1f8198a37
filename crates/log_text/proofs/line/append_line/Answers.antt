use Rattle.std.proofs.Common.{◌∙◌, ◌++◌, []}
use Rattle.log_spelling.specs.Kinds.{word_of}
use Rattle.log_text.specs.Written.{field_text}
use Rattle.log_text.specs.declared.field.Field.TheVariants as field
use Rattle.log_text.proofs.Taking.{field_goes}
use Rattle.log_text.proofs.line.append_line.Goals as goal

pub loop-field-preserved : goal.loop-field-preserved
loop-field-preserved c =
    c.in_ok-append_field.ensures
    ∙ field_goes field_text c.args.fields.now c.loop-field.field-index (field.Text (record { ref_ptr = (0, 0); now = [] })) (c.args.out.now.items ++ word_of c.args.kind) c.loop-field.out.items c.append-in-loop-field.new.out.items c.loop-field.invariant c.in_ok-append-2.ensures c.loop-field-test.true
