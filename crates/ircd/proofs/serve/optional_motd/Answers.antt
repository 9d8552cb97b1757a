use Rattle.std.proofs.Common.{Bor, Option, String, ap, is_some, option_map, string_bytes}
use Rattle.std.specs.declared.alloc.Global.{Global}
use Rattle.ircd.proofs.MotdFound.{named_unread}
use Rattle.ircd.proofs.serve.optional_motd.Goals as goal

pub returns-in_err-read_motd-in-Some : goal.returns-in_err-read_motd-in-Some
returns-in_err-read_motd-in-Some g c =
    let named = λ (file : Option (Bor (String Global))).
    option_map (λ file. string_bytes file.now) file in
    named_unread (named c.args.file) c.args.room c.from_residual.result
    c.in_err-read_motd-in-Some.field-0.0
    (ap (λ (file : Option (Bor (String Global))). is_some (named file)) c.in-Some.is)
    c.in_err-read_motd-in-Some.ensures c.from_residual.ensures.1
