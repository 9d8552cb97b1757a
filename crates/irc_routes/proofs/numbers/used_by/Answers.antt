use Rattle.std.proofs.Common.{◌||◌, false, ap, arith}
use Rattle.std.proofs.lemmas.List.{get_or-replicate}
use Rattle.irc_routes.specs.Known.{is_used_in}
use Rattle.irc_routes.proofs.numbers.used_by.Goals as goal

pub loop-row-init : goal.loop-row-init
loop-row-init c = λ n low. ap (λ b. b || is_used_in c.args.rows.now n)
    (get_or-replicate 257 n false false (omega arith))
