-- What the calls on the channels leave where they are refused.
use Rattle.std.specs.Prelude.{OnOk, OnErr}
use Rattle.std.proofs.Common.{◌≡◌, ℕ, Bool, true, false, not, Option, Some, None, Result, Ok, Err}
use Rattle.std.proofs.Common.{List, refl, sym, ◌∙◌, ap}
use Rattle.std.specs.Option.{option_map, option_and_then}
use Rattle.std.specs.Result.{result_err}
use Rattle.std.proofs.lemmas.Bool.{cond-true}
use Rattle.std.proofs.lemmas.Option.{none-some}
use Rattle.irc_channels.specs.declared.channel.Channel.{Channel}
use Rattle.irc_channels.specs.declared.fault.ChannelsFault.{ChannelsFault}
use Rattle.irc_channels.specs.declared.fault.ChannelsFault.TheVariants.{NoSuchChannel, NotMember}
use Rattle.irc_channels.specs.declared.fault.ChannelsFault.TheVariants.{Memory}
use Rattle.irc_channels.specs.Channels.{has_member, left}
use Rattle.irc_channels.specs.ChannelTable.{channel_fault, leaving_fault, IsOwedOrMemory}
use Rattle.irc_effects.specs.Lemmas.Rows.{if_not}

-- whichever way a call went, the table is as the change makes it, where a refusal means that it
-- makes nothing of it
pub either_way : {U X : Type 0} (result : Result U ChannelsFault) (new old changed : X)
    → OnOk result (new ≡ changed) → OnErr result (new ≡ old)
    → ((fault : ChannelsFault) → result_err result ≡ Some fault → changed ≡ old) → new ≡ changed
either_way (Ok u) new old changed ok refused same = ok
either_way (Err fault) new old changed ok refused same = refused ∙ sym (same fault refl)

out_stays : (nick : List ℕ) (channel : Channel) (fault : ChannelsFault) (b : Bool)
    → has_member nick channel ≡ b → Some fault ≡ leaving_fault nick (Some channel)
    → left nick channel ≡ Some channel
out_stays nick channel fault true in_it is =
    absurd (none-some fault
    (sym (is ∙ cond-true (has_member nick channel) None (Some NotMember) in_it)))
out_stays nick channel fault false out is = if_not (has_member nick channel) _ _ (ap not out)

-- a member who does not leave leaves all as it is
pub left_stays : (nick : List ℕ) (channel : Option Channel) (fault : ChannelsFault)
    → Some fault ≡ leaving_fault nick channel → option_and_then (left nick) channel ≡ channel
left_stays nick None fault is = refl
left_stays nick (Some channel) fault is =
    out_stays nick channel fault (has_member nick channel) refl is

-- where there is no channel none is changed
pub absent_stays : (change : Channel → Channel) (channel : Option Channel) (fault : ChannelsFault)
    → Some fault ≡ channel_fault channel → option_map change channel ≡ channel
absent_stays change None fault is = refl
absent_stays change (Some channel) fault is = absurd (none-some fault (sym is))

-- the same for a call that may want memory too
pub owed_stays : (change : Channel → Channel) (channel : Option Channel) (fault : ChannelsFault)
    → IsOwedOrMemory (channel_fault channel) (Some fault) → (fault ≡ Memory → ⊥)
    → option_map change channel ≡ channel
owed_stays change None fault owed other = refl
owed_stays change (Some channel) fault owed other = absurd (other owed)

pub none_is_memory : NoSuchChannel ≡ Memory → ⊥
none_is_memory e = cc
