use Rattle.irc_numerics.specs.Replies.{table}
use Rattle.irc_numerics.proofs.table.table_line.Goals as goal

pub returns-in-Created : goal.returns-in-Created
unfolding table
returns-in-Created c = rw (c.in-Created.is, ← c.deref.ensures.0) c.row-in-Created.ensures

pub returns-in-MyInfo : goal.returns-in-MyInfo
unfolding table
returns-in-MyInfo c =
    rw (c.in-MyInfo.is, ← c.as_bytes-in-MyInfo.ensures.value)
    c.row-in-MyInfo.ensures

pub returns-in-LuserClient : goal.returns-in-LuserClient
unfolding table
returns-in-LuserClient c = rw c.in-LuserClient.is c.row-in-LuserClient.ensures

pub returns-in-LuserChannels : goal.returns-in-LuserChannels
unfolding table
returns-in-LuserChannels c = rw c.in-LuserChannels.is c.says.ensures

pub returns-in-Away : goal.returns-in-Away
unfolding table
returns-in-Away c =
    rw (
      c.in-Away.is,
      ← c.as_bytes-in-Away.ensures.value,
      ← c.as_bytes-in-Away-2.ensures.value,
    )
    c.row-in-Away.ensures

pub returns-in-UnAway : goal.returns-in-UnAway
unfolding table
returns-in-UnAway c = rw c.in-UnAway.is c.said.ensures

pub returns-in-NowAway : goal.returns-in-NowAway
unfolding table
returns-in-NowAway c = rw c.in-NowAway.is c.said-in-NowAway.ensures

pub returns-in-EndOfWho : goal.returns-in-EndOfWho
unfolding table
returns-in-EndOfWho c = rw c.in-EndOfWho.is c.about.ensures

pub returns-in-EndOfWhois : goal.returns-in-EndOfWhois
unfolding table
returns-in-EndOfWhois c = rw c.in-EndOfWhois.is c.about-in-EndOfWhois.ensures

pub returns-in-ListEnd : goal.returns-in-ListEnd
unfolding table
returns-in-ListEnd c = rw c.in-ListEnd.is c.said-in-ListEnd.ensures

pub returns-in-NoTopic : goal.returns-in-NoTopic
unfolding table
returns-in-NoTopic c = rw c.in-NoTopic.is c.on.ensures

pub returns-in-EndOfNames : goal.returns-in-EndOfNames
unfolding table
returns-in-EndOfNames c = rw c.in-EndOfNames.is c.about-in-EndOfNames.ensures

pub returns-in-EndOfBanList : goal.returns-in-EndOfBanList
unfolding table
returns-in-EndOfBanList c = rw c.in-EndOfBanList.is c.on-in-EndOfBanList.ensures

pub returns-in-EndOfWhoWas : goal.returns-in-EndOfWhoWas
unfolding table
returns-in-EndOfWhoWas c = rw c.in-EndOfWhoWas.is c.about-in-EndOfWhoWas.ensures

pub returns-in-NoSuchNick : goal.returns-in-NoSuchNick
unfolding table
returns-in-NoSuchNick c = rw c.in-NoSuchNick.is c.about-in-NoSuchNick.ensures

pub returns-in-NoSuchChannel : goal.returns-in-NoSuchChannel
unfolding table
returns-in-NoSuchChannel c = rw c.in-NoSuchChannel.is c.about-in-NoSuchChannel.ensures

pub returns-in-CannotSendToChan : goal.returns-in-CannotSendToChan
unfolding table
returns-in-CannotSendToChan c = rw c.in-CannotSendToChan.is c.on-in-CannotSendToChan.ensures

pub returns-in-TooManyChannels : goal.returns-in-TooManyChannels
unfolding table
returns-in-TooManyChannels c = rw c.in-TooManyChannels.is c.on-in-TooManyChannels.ensures

pub returns-in-WasNoSuchNick : goal.returns-in-WasNoSuchNick
unfolding table
returns-in-WasNoSuchNick c = rw c.in-WasNoSuchNick.is c.about-in-WasNoSuchNick.ensures

pub returns-in-TooManyTargets : goal.returns-in-TooManyTargets
unfolding table
returns-in-TooManyTargets c = rw c.in-TooManyTargets.is c.about-in-TooManyTargets.ensures

pub returns-in-NoOrigin : goal.returns-in-NoOrigin
unfolding table
returns-in-NoOrigin c = rw c.in-NoOrigin.is c.said-in-NoOrigin.ensures

pub returns-in-NoRecipient : goal.returns-in-NoRecipient
unfolding table
returns-in-NoRecipient c =
    rw (c.in-NoRecipient.is, ← c.deref-in-NoRecipient.ensures.0)
    c.row-in-NoRecipient.ensures

pub returns-in-NoMotd : goal.returns-in-NoMotd
unfolding table
returns-in-NoMotd c = rw c.in-NoMotd.is c.said-in-NoMotd.ensures

pub returns-in-NoNicknameGiven : goal.returns-in-NoNicknameGiven
unfolding table
returns-in-NoNicknameGiven c = rw c.in-NoNicknameGiven.is c.said-in-NoNicknameGiven.ensures

pub returns-in-ErroneousNickname : goal.returns-in-ErroneousNickname
unfolding table
returns-in-ErroneousNickname c = rw c.in-ErroneousNickname.is c.about-in-ErroneousNickname.ensures

pub returns-in-NicknameInUse : goal.returns-in-NicknameInUse
unfolding table
returns-in-NicknameInUse c =
    rw (c.in-NicknameInUse.is, ← c.as_bytes-in-NicknameInUse.ensures.value)
    c.says-in-NicknameInUse.ensures

pub returns-in-UserNotInChannel : goal.returns-in-UserNotInChannel
unfolding table
returns-in-UserNotInChannel c =
    rw (
      c.in-UserNotInChannel.is,
      ← c.deref-in-UserNotInChannel.ensures.0,
      ← c.as_bytes-in-UserNotInChannel.ensures.value,
    )
    c.says-in-UserNotInChannel.ensures

pub returns-in-NotOnChannel : goal.returns-in-NotOnChannel
unfolding table
returns-in-NotOnChannel c = rw c.in-NotOnChannel.is c.on-in-NotOnChannel.ensures

pub returns-in-UserOnChannel : goal.returns-in-UserOnChannel
unfolding table
returns-in-UserOnChannel c =
    rw (
      c.in-UserOnChannel.is,
      ← c.as_bytes-in-UserOnChannel.ensures.value,
      ← c.as_bytes-in-UserOnChannel-2.ensures.value,
    )
    c.says-in-UserOnChannel.ensures

pub returns-in-NotRegistered : goal.returns-in-NotRegistered
unfolding table
returns-in-NotRegistered c = rw c.in-NotRegistered.is c.said-in-NotRegistered.ensures

pub returns-in-NeedMoreParams : goal.returns-in-NeedMoreParams
unfolding table
returns-in-NeedMoreParams c = rw c.in-NeedMoreParams.is c.about-in-NeedMoreParams.ensures

pub returns-in-AlreadyRegistered : goal.returns-in-AlreadyRegistered
unfolding table
returns-in-AlreadyRegistered c = rw c.in-AlreadyRegistered.is c.said-in-AlreadyRegistered.ensures

pub returns-in-KeySet : goal.returns-in-KeySet
unfolding table
returns-in-KeySet c = rw c.in-KeySet.is c.on-in-KeySet.ensures

pub returns-in-ChannelIsFull : goal.returns-in-ChannelIsFull
unfolding table
returns-in-ChannelIsFull c = rw c.in-ChannelIsFull.is c.on-in-ChannelIsFull.ensures

pub returns-in-InviteOnlyChan : goal.returns-in-InviteOnlyChan
unfolding table
returns-in-InviteOnlyChan c = rw c.in-InviteOnlyChan.is c.on-in-InviteOnlyChan.ensures

pub returns-in-BannedFromChan : goal.returns-in-BannedFromChan
unfolding table
returns-in-BannedFromChan c = rw c.in-BannedFromChan.is c.on-in-BannedFromChan.ensures

pub returns-in-BadChannelKey : goal.returns-in-BadChannelKey
unfolding table
returns-in-BadChannelKey c = rw c.in-BadChannelKey.is c.on-in-BadChannelKey.ensures

pub returns-in-BanListFull : goal.returns-in-BanListFull
unfolding table
returns-in-BanListFull c =
    rw (c.in-BanListFull.is, ← c.as_bytes-in-BanListFull.ensures.value)
    c.says-in-BanListFull.ensures

pub returns-in-ChanOPrivsNeeded : goal.returns-in-ChanOPrivsNeeded
unfolding table
returns-in-ChanOPrivsNeeded c = rw c.in-ChanOPrivsNeeded.is c.on-in-ChanOPrivsNeeded.ensures

pub returns-in-UModeUnknownFlag : goal.returns-in-UModeUnknownFlag
unfolding table
returns-in-UModeUnknownFlag c = rw c.in-UModeUnknownFlag.is c.said-in-UModeUnknownFlag.ensures

pub returns-in-UsersDontMatch : goal.returns-in-UsersDontMatch
unfolding table
returns-in-UsersDontMatch c = rw c.in-UsersDontMatch.is c.said-in-UsersDontMatch.ensures
