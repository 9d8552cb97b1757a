-- The examples.
use Rattle.std.proofs.Common.{refl}
use Rattle.irc_names.specs.Fold.{fold, fold_table}
use Rattle.irc_crossed_edits.specs.Examples.{KickIsFollowed, TwoTakeOneName}

pub kick_is_followed : KickIsFollowed
unfolding fold fold_table
kick_is_followed = record {
  is_left = refl;
  users_by_edits = refl;
  users_by_change = refl;
  members_by_edits = refl;
  members_by_change = refl;
}

pub two_take_one_name : TwoTakeOneName
unfolding fold fold_table
two_take_one_name = record {
  is_left = refl;
  users_by_edits = refl;
  users_by_change = refl;
  members_by_edits = refl;
  members_by_change = refl;
}
