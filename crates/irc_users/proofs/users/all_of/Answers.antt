use Rattle.std.proofs.Common.{◌∙◌, ◌++◌, List, ap, map}
use Rattle.std.specs.Borrow.{Bor}
use Rattle.irc_users.specs.declared.user.User.{User}
use Rattle.irc_users.specs.Rosters.{sitter}
use Rattle.irc_users.proofs.Heads.{rest_full}
use Rattle.irc_users.proofs.users.all_of.Goals as goal

pub loop-head-init : goal.loop-head-init
loop-head-init c =
    let all = c.into_iter-head-iterator.ensures.into_iter_gives ∙ c.values-head-items.ensures in
    record {
      found =
          ap (λ (users : List (Bor User)). map (λ user. user.now) users ++ map (sitter
          c.args.seats.now) c.into_iter-head-iterator.result) c.new-found.ensures.items
          ∙ ap (λ hs. map (sitter c.args.seats.now) hs) all;
      sat = rest_full c.args.seats.now c.args.heads.now c.requires
          c.into_iter-head-iterator.result all;
      more = tt;
      ends = tt;
    }
