-- Edits that are alike lead to the same, and what becomes of them is alike.
use Rattle.std.proofs.Common.{◌≡◌, Bool, true, false, Option, Some, None, List}
use Rattle.std.proofs.Common.{refl, sym, ap, subst, ◌∙◌, is_some, true≢false}
use Rattle.std.proofs.Math.Bool.{false≢true}
use Rattle.irc_edited_rooms.specs.Alike.{AlikeFates, AlikeUpdates, IsIdle, equal, idle}
use Rattle.irc_edited_rooms.specs.Writes.{Row, Writes, written}
use Rattle.irc_edited_rooms.specs.Fates.{Fate, stays, goes, comes, is_coming}
use Rattle.irc_edited_rooms.specs.Fates.{after_fate, both_go, fate_behind, is_one, member_behind}
use Rattle.irc_edited_rooms.specs.Fates.{user_behind}
use Rattle.irc_edited_rooms.specs.Documents.{ChannelName, Document, Nick, Update, lives}
use Rattle.irc_edited_rooms.specs.Documents.{members_after, row_while, updated}
use Rattle.irc_edited_rooms.specs.Crossing.{IsFitting, lives_by, member_left}
use Rattle.irc_edited_rooms.specs.Crossing.{set_left, update_behind}
use Rattle.irc_edited_rooms.specs.Lemmas.FatesMeet.{none_stays}

module _ {Place : Type 0} where
  -- ---- one fate

  pub fates_lead : (row : Option (Row Place)) (one other : Fate Place) → AlikeFates row one other
      → after_fate one row ≡ after_fate other row
  fates_lead row one other (equal is) = ap (λ fate. after_fate fate row) is
  fates_lead None one other (idle stays_so stays_too) =
      none_stays one stays_so ∙ sym (none_stays other stays_too)
  fates_lead (Some row) one other (idle is is_too) =
      ap (λ fate. after_fate fate (Some row)) (is ∙ sym is_too)

  -- behind anything it does nothing still
  pub idle_behind : (meeting : Writes Place → Writes Place → Fate Place) (row : Option (Row Place))
      (theirs ours : Fate Place) → IsIdle row theirs
      → IsIdle (after_fate ours row) (fate_behind meeting (is_some row) theirs ours)
  idle_behind meeting None (stays v) (stays w) is = refl
  idle_behind meeting None (stays v) goes is = refl
  idle_behind meeting None (stays v) (comes w) is = refl
  idle_behind meeting None goes (stays w) is = refl
  idle_behind meeting None goes goes is = refl
  idle_behind meeting None goes (comes w) is = refl
  idle_behind meeting None (comes v) ours is = absurd (true≢false is)
  idle_behind meeting (Some row) theirs (stays w) is =
      ap (λ fate. fate_behind meeting true fate (stays w)) is
  idle_behind meeting (Some row) theirs goes is =
      ap (λ fate. is_coming (fate_behind meeting true fate goes)) is
  idle_behind meeting (Some row) theirs (comes w) is =
      ap (λ fate. fate_behind meeting true fate (comes w)) is

  theirs_alike : (meeting : Writes Place → Writes Place → Fate Place) (row : Option (Row Place))
      (one other ours : Fate Place) → AlikeFates row one other
      → AlikeFates (after_fate ours row) (fate_behind meeting (is_some row) one ours)
      (fate_behind meeting (is_some row) other ours)
  theirs_alike meeting row one other ours (equal is) =
      equal (ap (λ fate. fate_behind meeting (is_some row) fate ours) is)
  theirs_alike meeting row one other ours (idle is is_too) =
      idle (idle_behind meeting row one ours is) (idle_behind meeting row other ours is_too)

  -- and of what it stands behind it changes nothing
  none_alike : (meeting : Writes Place → Writes Place → Fate Place) (theirs one other : Fate Place)
      → is_coming one ≡ false → is_coming other ≡ false
      → AlikeFates None (fate_behind meeting false theirs one)
      (fate_behind meeting false theirs other)
  none_alike meeting theirs (comes v) other is is_too = absurd (true≢false is)
  none_alike meeting theirs one (comes w) is is_too = absurd (true≢false is_too)
  none_alike meeting (stays u) (stays v) (stays w) is is_too = idle refl refl
  none_alike meeting (stays u) (stays v) goes is is_too = idle refl refl
  none_alike meeting (stays u) goes (stays w) is is_too = idle refl refl
  none_alike meeting (stays u) goes goes is is_too = equal refl
  none_alike meeting goes (stays v) (stays w) is is_too = equal refl
  none_alike meeting goes (stays v) goes is is_too = equal refl
  none_alike meeting goes goes (stays w) is is_too = equal refl
  none_alike meeting goes goes goes is is_too = equal refl
  none_alike meeting (comes u) (stays v) (stays w) is is_too = equal refl
  none_alike meeting (comes u) (stays v) goes is is_too = equal refl
  none_alike meeting (comes u) goes (stays w) is is_too = equal refl
  none_alike meeting (comes u) goes goes is is_too = equal refl

  ours_alike : (meeting : Writes Place → Writes Place → Fate Place) (row : Option (Row Place))
      (theirs one other : Fate Place) → AlikeFates row one other
      → AlikeFates (after_fate one row) (fate_behind meeting (is_some row) theirs one)
      (fate_behind meeting (is_some row) theirs other)
  ours_alike meeting row theirs one other (equal is) =
      equal (ap (fate_behind meeting (is_some row) theirs) is)
  ours_alike meeting None theirs one other (idle is is_too) =
      subst (λ after. AlikeFates after (fate_behind meeting false theirs one)
      (fate_behind meeting false theirs other)) (sym (none_stays one is))
      (none_alike meeting theirs one other is is_too)
  ours_alike meeting (Some row) theirs one other (idle is is_too) =
      equal (ap (fate_behind meeting true theirs) (is ∙ sym is_too))

  -- ---- one member, by what becomes of its user

  pub not_coming : (fate : Fate Place) → (is_coming fate ≡ true → false ≡ true)
      → is_coming fate ≡ false
  not_coming (stays v) never = refl
  not_coming goes never = refl
  not_coming (comes v) never = absurd (false≢true (never refl))

  left_alike : (row : Option (Row Place)) (theirs_left ours one other : Fate Place)
      → AlikeFates row one other
      → AlikeFates row (member_left theirs_left ours one) (member_left theirs_left ours other)
  left_alike row goes ours one other alike = equal refl
  left_alike row (stays v) goes one other alike = equal refl
  left_alike row (comes v) goes one other alike = equal refl
  left_alike row (stays v) (stays w) one other alike = alike
  left_alike row (stays v) (comes w) one other alike = alike
  left_alike row (comes v) (stays w) one other alike = alike
  left_alike row (comes v) (comes w) one other alike = alike

  left_stays : (theirs_left ours left : Fate Place) → is_coming left ≡ false
      → is_coming (member_left theirs_left ours left) ≡ false
  left_stays goes ours left is = refl
  left_stays (stays v) goes left is = refl
  left_stays (comes v) goes left is = refl
  left_stays (stays v) (stays w) left is = is
  left_stays (stays v) (comes w) left is = is
  left_stays (comes v) (stays w) left is = is
  left_stays (comes v) (comes w) left is = is

  none_comes : (theirs ours : Fate Place) → is_coming theirs ≡ false
      → is_coming (member_behind false theirs ours) ≡ false
  none_comes (stays v) (stays w) is = refl
  none_comes (stays v) goes is = refl
  none_comes (stays v) (comes w) is = refl
  none_comes goes (stays w) is = refl
  none_comes goes goes is = refl
  none_comes goes (comes w) is = refl
  none_comes (comes v) ours is = absurd (true≢false is)

  -- a member of nobody is none, and none comes
  record IsNobody (user member : Option (Row Place)) (theirs : Fate Place) : Type 0 where
    known : is_some member ≡ true → is_some user ≡ true
    joins : is_coming theirs ≡ true → is_some user ≡ true

  one_user_theirs : (user member : Option (Row Place)) (u1 u2 our_user m1 m2 ours : Fate Place)
      → u1 ≡ u2 → AlikeFates member m1 m2
      → AlikeFates (after_fate ours member)
      (member_left (user_behind (is_some user) u1 our_user) our_user
      (member_behind (is_some member) m1 ours))
      (member_left (user_behind (is_some user) u2 our_user) our_user
      (member_behind (is_some member) m2 ours))
  one_user_theirs user member u1 u2 our_user m1 m2 ours is alike =
      subst (λ u. AlikeFates (after_fate ours member)
      (member_left (user_behind (is_some user) u our_user) our_user
      (member_behind (is_some member) m1 ours))
      (member_left (user_behind (is_some user) u2 our_user) our_user
      (member_behind (is_some member) m2 ours))) (sym is)
      (left_alike (after_fate ours member) (user_behind (is_some user) u2 our_user) our_user
      (member_behind (is_some member) m1 ours) (member_behind (is_some member) m2 ours)
      (theirs_alike is_one member m1 m2 ours alike))

  member_theirs : (user member : Option (Row Place)) (u1 u2 our_user m1 m2 ours : Fate Place)
      → IsNobody user member m1 → IsNobody user member m2 → IsNobody user member ours
      → AlikeFates user u1 u2 → AlikeFates member m1 m2
      → AlikeFates (after_fate ours member)
      (member_left (user_behind (is_some user) u1 our_user) our_user
      (member_behind (is_some member) m1 ours))
      (member_left (user_behind (is_some user) u2 our_user) our_user
      (member_behind (is_some member) m2 ours))
  member_theirs user member u1 u2 our_user m1 m2 ours a b c (equal is) alike =
      one_user_theirs user member u1 u2 our_user m1 m2 ours is alike
  member_theirs (Some row) member u1 u2 our_user m1 m2 ours a b c (idle is is_too) alike =
      one_user_theirs (Some row) member u1 u2 our_user m1 m2 ours (is ∙ sym is_too) alike
  member_theirs None (Some row) u1 u2 our_user m1 m2 ours a b c (idle is is_too) alike =
      absurd (false≢true (a.known refl))
  member_theirs None None u1 u2 our_user m1 m2 ours a b c (idle is is_too) alike =
      subst (λ row. AlikeFates row
      (member_left (user_behind false u1 our_user) our_user (member_behind false m1 ours))
      (member_left (user_behind false u2 our_user) our_user (member_behind false m2 ours)))
      (sym (none_stays ours (not_coming ours c.joins)))
      (idle (left_stays (user_behind false u1 our_user) our_user (member_behind false m1 ours)
      (none_comes m1 ours (not_coming m1 a.joins)))
      (left_stays (user_behind false u2 our_user) our_user (member_behind false m2 ours)
      (none_comes m2 ours (not_coming m2 b.joins))))

  one_user_ours : (user member : Option (Row Place)) (their_user u1 u2 theirs m1 m2 : Fate Place)
      → u1 ≡ u2 → AlikeFates member m1 m2
      → AlikeFates (after_fate m1 member)
      (member_left (user_behind (is_some user) their_user u1) u1
      (member_behind (is_some member) theirs m1))
      (member_left (user_behind (is_some user) their_user u2) u2
      (member_behind (is_some member) theirs m2))
  one_user_ours user member their_user u1 u2 theirs m1 m2 is alike =
      subst (λ u. AlikeFates (after_fate m1 member)
      (member_left (user_behind (is_some user) their_user u) u
      (member_behind (is_some member) theirs m1))
      (member_left (user_behind (is_some user) their_user u2) u2
      (member_behind (is_some member) theirs m2))) (sym is)
      (left_alike (after_fate m1 member) (user_behind (is_some user) their_user u2) u2
      (member_behind (is_some member) theirs m1) (member_behind (is_some member) theirs m2)
      (ours_alike is_one member theirs m1 m2 alike))

  member_ours : (user member : Option (Row Place)) (their_user u1 u2 theirs m1 m2 : Fate Place)
      → IsNobody user member theirs → IsNobody user member m1 → IsNobody user member m2
      → AlikeFates user u1 u2 → AlikeFates member m1 m2
      → AlikeFates (after_fate m1 member)
      (member_left (user_behind (is_some user) their_user u1) u1
      (member_behind (is_some member) theirs m1))
      (member_left (user_behind (is_some user) their_user u2) u2
      (member_behind (is_some member) theirs m2))
  member_ours user member their_user u1 u2 theirs m1 m2 a b c (equal is) alike =
      one_user_ours user member their_user u1 u2 theirs m1 m2 is alike
  member_ours (Some row) member their_user u1 u2 theirs m1 m2 a b c (idle is is_too) alike =
      one_user_ours (Some row) member their_user u1 u2 theirs m1 m2 (is ∙ sym is_too) alike
  member_ours None (Some row) their_user u1 u2 theirs m1 m2 a b c (idle is is_too) alike =
      absurd (false≢true (a.known refl))
  member_ours None None their_user u1 u2 theirs m1 m2 a b c (idle is is_too) alike =
      subst (λ row. AlikeFates row
      (member_left (user_behind false their_user u1) u1 (member_behind false theirs m1))
      (member_left (user_behind false their_user u2) u2 (member_behind false theirs m2)))
      (sym (none_stays m1 (not_coming m1 b.joins)))
      (idle (left_stays (user_behind false their_user u1) u1 (member_behind false theirs m1)
      (none_comes theirs m1 (not_coming theirs a.joins)))
      (left_stays (user_behind false their_user u2) u2 (member_behind false theirs m2)
      (none_comes theirs m2 (not_coming theirs a.joins))))

  -- ---- one channel

  while_alike : (b c : Bool) (row : Row Place) (v w : Writes Place) → b ≡ c
      → (b ≡ true → v ≡ w) → row_while b (written v row) ≡ row_while c (written w row)
  while_alike true c row v w same sets =
      ap (λ it. written it row) (sets refl) ∙ ap (λ it. row_while it (written w row)) same
  while_alike false c row v w same sets = ap (λ it. row_while it (written w row)) same

  set_theirs : (was a b c : Bool) (row : Row Place) (v w ours : Writes Place) → a ≡ b
      → (a ≡ true → v ≡ w) → set_left was a c row v ours ≡ set_left was b c row w ours
  set_theirs was true b c row v w ours same sets =
      ap (λ it. set_left was true c row it ours) (sets refl)
      ∙ ap (λ it. set_left was it c row w ours) same
  set_theirs true false b c row v w ours same sets =
      ap (λ it. set_left true it c row w ours) same
  set_theirs false false b c row v w ours same sets =
      ap (λ it. set_left false it c row w ours) same

  set_ours : (was a b c : Bool) (row : Row Place) (theirs v w : Writes Place) → b ≡ c
      → (b ≡ true → v ≡ w) → set_left was a b row theirs v ≡ set_left was a c row theirs w
  set_ours true false b c row theirs v w same sets = refl
  set_ours false false b c row theirs v w same sets = refl
  set_ours was true true c row theirs v w same sets =
      ap (set_left was true true row theirs) (sets refl)
      ∙ ap (λ it. set_left was true it row theirs w) same
  set_ours true true false c row theirs v w same sets =
      ap (λ it. set_left true true it row theirs w) same
  set_ours false true false c row theirs v w same sets =
      ap (λ it. set_left false true it row theirs w) same

  -- ---- a document

  module _ (names : List Nick) (room : Document Place) where
    pub members_lead : (one other : Update Place) → AlikeUpdates names room one other
        → (name : ChannelName) → members_after (one.member name) (room.member name)
        ≡ members_after (other.member name) (room.member name)
    members_lead one other alike name i nick = fates_lead (room.member name nick)
        (one.member name nick) (other.member name nick) (alike.members name nick) i

    pub lives_alike : (one other : Update Place) → AlikeUpdates names room one other
        → (name : ChannelName) → lives_by names room one name ≡ lives_by names room other name
    lives_alike one other alike name = ap (lives names) (members_lead one other alike name)

    pub updates_lead : (one other : Update Place) → AlikeUpdates names room one other
        → updated names room one ≡ updated names room other
    updates_lead one other alike i = record {
      user = λ nick. fates_lead (room.user nick) (one.user nick) (other.user nick)
          (alike.users nick) i;
      member = λ name. members_lead one other alike name i;
      channel = λ name. while_alike (lives_by names room one name)
          (lives_by names room other name) (room.channel name) (one.set name) (other.set name)
          (lives_alike one other alike name) (alike.sets name) i;
    }

    nobody : (what : Update Place) → IsFitting names room what → (name : ChannelName)
        (nick : Nick) → IsNobody (room.user nick) (room.member name nick) (what.member name nick)
    nobody what may name nick = record {
      known = may.sound.known name nick;
      joins = λ coming. (may.joiners name nick coming).0;
    }

    pub theirs_stay_alike : (one other ours : Update Place) → IsFitting names room one
        → IsFitting names room other → IsFitting names room ours
        → AlikeUpdates names room one other
        → AlikeUpdates names (updated names room ours) (update_behind names room one ours)
        (update_behind names room other ours)
    theirs_stay_alike one other ours may may_too our_may alike = record {
      users = λ nick. theirs_alike both_go (room.user nick) (one.user nick) (other.user nick)
          (ours.user nick) (alike.users nick);
      members = λ name nick. member_theirs (room.user nick) (room.member name nick)
          (one.user nick) (other.user nick) (ours.user nick) (one.member name nick)
          (other.member name nick) (ours.member name nick) (nobody one may name nick)
          (nobody other may_too name nick) (nobody ours our_may name nick) (alike.users nick)
          (alike.members name nick);
      sets =
          λ name living. set_theirs (lives names (room.member name)) (lives_by names room one name)
          (lives_by names room other name) (lives_by names room ours name) (room.channel name)
          (one.set name) (other.set name) (ours.set name) (lives_alike one other alike name)
          (alike.sets name);
    }

    pub ours_stay_alike : (theirs one other : Update Place) → IsFitting names room theirs
        → IsFitting names room one → IsFitting names room other
        → AlikeUpdates names room one other
        → AlikeUpdates names (updated names room one) (update_behind names room theirs one)
        (update_behind names room theirs other)
    ours_stay_alike theirs one other their_may may may_too alike = record {
      users = λ nick. ours_alike both_go (room.user nick) (theirs.user nick) (one.user nick)
          (other.user nick) (alike.users nick);
      members = λ name nick. member_ours (room.user nick) (room.member name nick)
          (theirs.user nick) (one.user nick) (other.user nick) (theirs.member name nick)
          (one.member name nick) (other.member name nick) (nobody theirs their_may name nick)
          (nobody one may name nick) (nobody other may_too name nick) (alike.users nick)
          (alike.members name nick);
      sets =
          λ name living. set_ours (lives names (room.member name)) (lives_by names room theirs name)
          (lives_by names room one name) (lives_by names room other name) (room.channel name)
          (theirs.set name) (one.set name) (other.set name) (lives_alike one other alike name)
          (alike.sets name);
    }
