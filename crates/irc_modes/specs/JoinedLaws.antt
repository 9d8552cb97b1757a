-- What holds of two channels' modes, joined: in whichever order sides of a network join theirs,
-- they come to the same modes, and a side that comes again changes nothing.
use Rattle.std.proofs.Common.{◌≡◌, Bool, true, false, cond, Option, Some, None, IfSome, refl}
use Rattle.std.proofs.Math.Bool.{or_self, or_comm, or_assoc}
use Rattle.std.specs.declared.cmp.Ordering.{Ordering}
use Rattle.std.specs.Ordering.{is_lt, nat_cmp}
use Rattle.irc_names.specs.Greater.{bytes_cmp, greater_of}
use Rattle.irc_names.specs.GreaterLaws.{greater_of-itself, greater_text-even}
use Rattle.irc_names.specs.GreaterLaws.{greater_text-associates, greater_number-even}
use Rattle.irc_names.specs.GreaterLaws.{greater_number-associates}
use Rattle.irc_names.specs.Names.{is_ban_mask, IsKey}
use Rattle.irc_modes.specs.Bans.{IsBanList}
use Rattle.irc_modes.specs.Joined.{joined_privacy, joined_modes}
use Rattle.irc_modes.specs.Lemmas.JoinedBans.{rises-joined_bans, all-joined_bans, joined_bans-even}
use Rattle.irc_modes.specs.Lemmas.JoinedBans.{joined_bans-associates, joined_bans-itself}
use Rattle.irc_modes.specs.ModesSet.{AreWithinLimits, IsLimit}
use Rattle.irc_modes.specs.declared.modes.Modes.{Modes}
use Rattle.irc_modes.specs.declared.modes.Privacy.{Privacy}
use Rattle.irc_modes.specs.declared.modes.Privacy.TheVariants.{Public, Private, Secret}

-- which of two is named first makes no difference, whatever their bans are
abbrev pub JoinedIsEven : Type 0
JoinedIsEven = (one other : Modes) → joined_modes one other ≡ joined_modes other one

-- nor does it which two of three are joined first
abbrev pub JoinedAssociates : Type 0
JoinedAssociates = (one next last : Modes)
    → joined_modes (joined_modes one next) last ≡ joined_modes one (joined_modes next last)

-- modes whose bans are in order, joined with themselves, are what they are
abbrev pub JoinedWithItself : Type 0
JoinedWithItself = (modes : Modes) → IsBanList modes.bans → joined_modes modes modes ≡ modes

-- modes within limits are joined to modes within limits; there may be as many bans as both have
abbrev pub JoinedIsWithinLimits : Type 0
JoinedIsWithinLimits = (one other : Modes) → AreWithinLimits one → AreWithinLimits other
    → AreWithinLimits (joined_modes one other)

-- ---- p and s

privacy-even : (one other : Privacy) → joined_privacy one other ≡ joined_privacy other one
privacy-even Public Public = refl
privacy-even Public Private = refl
privacy-even Public Secret = refl
privacy-even Private Public = refl
privacy-even Private Private = refl
privacy-even Private Secret = refl
privacy-even Secret Public = refl
privacy-even Secret Private = refl
privacy-even Secret Secret = refl

privacy-associates : (one next last : Privacy)
    → joined_privacy (joined_privacy one next) last ≡ joined_privacy one (joined_privacy next last)
privacy-associates Public next last = refl
privacy-associates Private Public last = refl
privacy-associates Private Private Public = refl
privacy-associates Private Private Private = refl
privacy-associates Private Private Secret = refl
privacy-associates Private Secret last = refl
privacy-associates Secret next last = refl

privacy-itself : (one : Privacy) → joined_privacy one one ≡ one
privacy-itself Public = refl
privacy-itself Private = refl
privacy-itself Secret = refl

-- ---- all modes

pub joined_is_even : JoinedIsEven
joined_is_even one other = λ i. record {
  invite_only = or_comm one.invite_only other.invite_only i;
  moderated = or_comm one.moderated other.moderated i;
  no_outside = or_comm one.no_outside other.no_outside i;
  topic_locked = or_comm one.topic_locked other.topic_locked i;
  privacy = privacy-even one.privacy other.privacy i;
  key = greater_text-even one.key other.key i;
  limit = greater_number-even one.limit other.limit i;
  bans = joined_bans-even one.bans other.bans i;
}

pub joined_associates : JoinedAssociates
joined_associates one next last = λ i. record {
  invite_only = or_assoc one.invite_only next.invite_only last.invite_only i;
  moderated = or_assoc one.moderated next.moderated last.moderated i;
  no_outside = or_assoc one.no_outside next.no_outside last.no_outside i;
  topic_locked = or_assoc one.topic_locked next.topic_locked last.topic_locked i;
  privacy = privacy-associates one.privacy next.privacy last.privacy i;
  key = greater_text-associates one.key next.key last.key i;
  limit = greater_number-associates one.limit next.limit last.limit i;
  bans = joined_bans-associates one.bans next.bans last.bans i;
}

pub joined_with_itself : JoinedWithItself
joined_with_itself modes rising = λ i. record {
  invite_only = or_self modes.invite_only i;
  moderated = or_self modes.moderated i;
  no_outside = or_self modes.no_outside i;
  topic_locked = or_self modes.topic_locked i;
  privacy = privacy-itself modes.privacy i;
  key = greater_of-itself bytes_cmp modes.key i;
  limit = greater_of-itself nat_cmp modes.limit i;
  bans = joined_bans-itself modes.bans rising i;
}

-- ---- limits

-- what is so of both, where they are there, is so of the greater
greater_so : {X : Type 0} (order : X → X → Ordering) (P : X → Type 0) (one other : Option X)
    → IfSome one P → IfSome other P → IfSome (greater_of order one other) P
greater_so order P None other so so_too = so_too
greater_so order P (Some one) None so so_too = so
greater_so order P (Some one) (Some other) so so_too = by (is_lt (order one other))
  where
    by : (b : Bool) → P (cond b other one)
    by true = so_too
    by false = so

pub joined_is_within_limits : JoinedIsWithinLimits
joined_is_within_limits one other within within_too = record {
  key = greater_so bytes_cmp IsKey one.key other.key within.key within_too.key;
  limit = greater_so nat_cmp IsLimit one.limit other.limit within.limit within_too.limit;
  in_order = rises-joined_bans one.bans other.bans;
  masks = all-joined_bans is_ban_mask one.bans other.bans within.masks within_too.masks;
}
