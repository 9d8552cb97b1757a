use Rattle.std.proofs.Common.{◌∙◌, ap, drop, sym}
use Rattle.std.specs.Str.Lossy.{utf8_error_len}
use Rattle.irc_door.proofs.Cutting.{is_cut, is_other, is_whole, well_formed}
use Rattle.irc_door.proofs.letters.whole_letters.Goals as goal

pub returns-in-Err : goal.returns-in-Err
returns-in-Err c = is_cut c.args.text.now c.valid_up_to.result c.error_len.result
    (c.valid_up_to.ensures ∙ c.in-Err.ensures.valid_len)
    (c.error_len.ensures ∙ c.in-Err.ensures.fault
    ∙ ap (λ n. utf8_error_len (drop n c.args.text.now)) (sym c.valid_up_to.ensures))
    c.is_none.result c.is_none.ensures c.if-is_none.true

pub returns-in_default : goal.returns-in_default
returns-in_default c = is_other c.args.text.now c.error_len.result c.in-Err.ensures.valid_len
    (c.error_len.ensures ∙ c.in-Err.ensures.fault)
    c.is_none.result c.is_none.ensures c.if-is_none.false

pub returns-in_default-2 : goal.returns-in_default-2
returns-in_default-2 c = is_whole c.args.text.now
    (well_formed _ c.args.text.now c.from_utf8.result c.in_default.field-0 c.in_default.is
    c.from_utf8.ensures.cases)
