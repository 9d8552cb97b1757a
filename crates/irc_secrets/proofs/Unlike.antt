-- Names that are not the same, and rows of rooms that are alike but for one channel.
use Rattle.std.proofs.Common.{◌≡◌, ℕ, Bool, true, false, List, refl, sym}
use Rattle.std.specs.Prelude.{◌≢◌}
use Rattle.irc_names.specs.Fold.{key, same}
use Rattle.irc_names.specs.FoldLaws.{same-tells}
use Rattle.irc_names.specs.Tables.{row}
use Rattle.irc_names.specs.TableLaws.{same_fold, one_fold}
use Rattle.irc_effects.specs.Room.{Room}
use Rattle.irc_secrets.specs.ButForOne.{AreAlikeButFor}

pub not_both : (b : Bool) → b ≡ true → b ≡ false → ⊥
not_both true is none = cc none
not_both false is none = cc is

-- two names that are not the same have two folds
pub unlike : (one other : List ℕ) → same one other ≡ false → key other ≢ key one
unlike one other two equal = not_both (same one other) ((same-tells one other).1 (sym equal)) two

pub not_one_fold : (q fold : List ℕ) → q ≢ fold → same_fold q fold ≡ false
not_one_fold q fold two = by (same_fold q fold) refl
  where
    by : (b : Bool) → same_fold q fold ≡ b → b ≡ false
    by true one = absurd (two (one_fold q fold one))
    by false apart = refl

-- two rooms that are alike but for a channel have each other channel alike
pub other_row : (channel : List ℕ) (one other : Room) → AreAlikeButFor channel one other
    → (name : List ℕ) → same channel name ≡ false
    → row one.channels (key name) ≡ row other.channels (key name)
other_row channel one other alike name two = alike.channels (key name) (unlike channel name two)
