use Rattle.std.proofs.Common.{◌∙◌}
use Rattle.irc_users.specs.UserTable.{is_home}
use Rattle.irc_users.proofs.Finding.{none_so_far}
use Rattle.irc_users.proofs.Heads.{rest_full}
use Rattle.irc_users.proofs.users.homed_at.Goals as goal

pub loop-head-init : goal.loop-head-init
loop-head-init c =
    let all = c.into_iter-head-iterator.ensures.into_iter_gives ∙ c.values-head-items.ensures in
    record {
      found = none_so_far
          (is_home c.args.home.now) c.args.seats.now c.args.heads.now c.new-found.result.items
          c.into_iter-head-iterator.result c.new-found.ensures.items all;
      sat = rest_full c.args.seats.now c.args.heads.now c.requires
          c.into_iter-head-iterator.result all;
      more = tt;
      ends = tt;
    }
