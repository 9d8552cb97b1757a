-- Two nicknames for two others: it plays no part which is first.
use Rattle.std.proofs.Common.{◌≡◌, Bool, true, false, ◌||◌, cond, Option, None, List}
use Rattle.std.proofs.Common.{refl, sym, ap, ◌∙◌, is_some, true≢false, option_map}
use Rattle.std.proofs.Math.Bool.{false≢true}
use Rattle.irc_names.specs.TableLaws.{same_fold, one_fold}
use Rattle.irc_edited_rooms.specs.Writes.{Row, Writes, no_writes, written}
use Rattle.irc_edited_rooms.specs.Fates.{after_fate}
use Rattle.irc_edited_rooms.specs.Documents.{Nick, ChannelName, Document, lives, pick}
use Rattle.irc_edited_rooms.specs.Documents.{row_while, swapped, updated, renamed, edited}
use Rattle.irc_edited_rooms.specs.Documents.{written_at}
use Rattle.irc_edited_rooms.specs.Crossing.{MayBeRenamed, both_going, going_if}
use Rattle.irc_edited_rooms.specs.Crossing.{rename_behind_rename}
use Rattle.irc_edited_rooms.specs.Lemmas.FatesMeet.{untouched_stays}
use Rattle.irc_edited_rooms.specs.Lemmas.Living.{two_folds}
use Rattle.irc_edited_rooms.specs.Lemmas.RenamesMeet.{nobody_at, still, unnamed}

-- a nickname is not both of two that differ
apart : (nick one other : Nick) → same_fold one other ≡ false → same_fold nick one ≡ true
    → same_fold nick other ≡ false
apart nick one other differ is =
    ap (λ it. same_fold it other) (one_fold nick one is) ∙ differ

picks_turn : {A : Type 0} (a b c d : Bool) (x y x' y' z : A) → (a ≡ true → c ≡ false)
    → (a ≡ true → d ≡ false) → (b ≡ true → c ≡ false) → (b ≡ true → d ≡ false)
    → pick a b x y (pick c d x' y' z) ≡ pick c d x' y' (pick a b x y z)
picks_turn false false c d x y x' y' z ac ad bc bd = refl
picks_turn true b false false x y x' y' z ac ad bc bd = refl
picks_turn false true false false x y x' y' z ac ad bc bd = refl
picks_turn true b true d x y x' y' z ac ad bc bd = absurd (true≢false (ac refl))
picks_turn true b false true x y x' y' z ac ad bc bd = absurd (true≢false (ad refl))
picks_turn false true true d x y x' y' z ac ad bc bd = absurd (true≢false (bc refl))
picks_turn false true false true x y x' y' z ac ad bc bd = absurd (true≢false (bd refl))

none_first : {X : Type 0} (a b : Bool) (x : Option X)
    → cond a None (cond b None x) ≡ cond b None (cond a None x)
none_first true true x = refl
none_first true false x = refl
none_first false b x = refl

module _ {Place : Type 0} where
  -- ---- at one nickname, in rows of which none is at the new one

  module _ (rows : Nick → Option (Row Place)) where
    -- one user who took two nicknames is gone
    one_gone : (old new nick : Nick) (v : Writes Place) → rows new ≡ None → (b c : Bool)
        → (b ≡ true → nick ≡ new)
        → after_fate (going_if (b || b)) (written_at b v (rows (pick b c old new nick)))
        ≡ cond c None (rows nick)
    one_gone old new nick v free true true is = refl
    one_gone old new nick v free true false is = sym (ap rows (is refl) ∙ free)
    one_gone old new nick v free false true is = untouched_stays (rows new) ∙ free
    one_gone old new nick v free false false is = untouched_stays (rows nick)

    -- two who took one nickname are gone
    two_gone : (old new nick : Nick) (v : Writes Place) → rows new ≡ None → (a b c : Bool)
        → (b ≡ true → nick ≡ new)
        → after_fate (going_if (a || b)) (written_at b v (rows (pick b c old new nick)))
        ≡ cond a None (cond c None (rows nick))
    two_gone old new nick v free true true c is = refl
    two_gone old new nick v free true false c is = refl
    two_gone old new nick v free false true true is = refl
    two_gone old new nick v free false true false is = sym (ap rows (is refl) ∙ free)
    two_gone old new nick v free false false true is = untouched_stays (rows new) ∙ free
    two_gone old new nick v free false false false is = untouched_stays (rows nick)

    -- two who took two
    abbrev both_named : (o n : Nick) → Writes Place → (p q : Nick) → Writes Place → Nick
        → Option (Row Place)
    both_named o n w p q v nick = written_at (same_fold nick n) w
        (written_at (same_fold (swapped o n nick) q) v (rows (swapped p q (swapped o n nick))))

    named_once : (p q nick : Nick) (v : Writes Place) (c d : Bool)
        → written_at c v (rows (pick c d p q nick))
        ≡ pick c d (option_map (written v) (rows p)) (rows q) (rows nick)
    named_once p q nick v true d = refl
    named_once p q nick v false true = refl
    named_once p q nick v false false = refl

    -- one who is neither p nor q
    pub elsewhere : (p q nick : Nick) (v : Writes Place) → same_fold nick q ≡ false
        → same_fold nick p ≡ false
        → written_at (same_fold nick q) v (rows (swapped p q nick)) ≡ rows nick
    elsewhere p q nick v not_q not_p =
        named_once p q nick v (same_fold nick q) (same_fold nick p)
        ∙ ap (λ c. pick c (same_fold nick p) (option_map (written v) (rows p)) (rows q)
        (rows nick)) not_q
        ∙ ap (λ d. pick false d (option_map (written v) (rows p)) (rows q) (rows nick)) not_p

    by_first : (o n : Nick) (w : Writes Place) (p q : Nick) (v : Writes Place) (nick : Nick)
        → same_fold o q ≡ false → same_fold o p ≡ false → same_fold n q ≡ false
        → same_fold n p ≡ false → (a b : Bool)
        → written_at a w (written_at (same_fold (pick a b o n nick) q) v
        (rows (swapped p q (pick a b o n nick))))
        ≡ pick a b (option_map (written w) (rows o)) (rows n)
        (pick (same_fold nick q) (same_fold nick p) (option_map (written v) (rows p)) (rows q)
        (rows nick))
    by_first o n w p q v nick oq op nq np true b =
        ap (option_map (written w)) (elsewhere p q o v oq op)
    by_first o n w p q v nick oq op nq np false true = elsewhere p q n v nq np
    by_first o n w p q v nick oq op nq np false false =
        named_once p q nick v (same_fold nick q) (same_fold nick p)

    both_turn : (o n : Nick) (w : Writes Place) (p q : Nick) (v : Writes Place) (nick : Nick)
        → same_fold o q ≡ false → same_fold o p ≡ false → same_fold n q ≡ false
        → same_fold n p ≡ false
        → both_named o n w p q v nick ≡ both_named p q v o n w nick
    both_turn o n w p q v nick oq op nq np =
        by_first o n w p q v nick oq op nq np (same_fold nick n) (same_fold nick o)
        ∙ picks_turn (same_fold nick n) (same_fold nick o) (same_fold nick q) (same_fold nick p)
        (option_map (written w) (rows o)) (rows n) (option_map (written v) (rows p)) (rows q)
        (rows nick) (apart nick n q nq) (apart nick n p np) (apart nick o q oq)
        (apart nick o p op)
        ∙ sym (by_first p q v o n w nick (two_folds p n ∙ np) (two_folds p o ∙ op)
        (two_folds q n ∙ nq) (two_folds q o ∙ oq) (same_fold nick q) (same_fold nick p))

  -- ---- in a document

  module _ (names : List Nick) (room : Document Place) (o n : Nick) (w : Writes Place)
      (p q : Nick) (v : Writes Place) (their_may : MayBeRenamed names room o n)
      (our_may : MayBeRenamed names room p q) where
    pub there_apart : (nick other : Nick) → is_some (room.user nick) ≡ true
        → room.user other ≡ None → same_fold nick other ≡ false
    there_apart nick other there free = by (same_fold nick other) refl
      where
        by : (b : Bool) → same_fold nick other ≡ b → b ≡ false
        by true is = absurd (false≢true (sym (ap is_some (ap room.user (one_fold nick other is)
            ∙ free)) ∙ there))
        by false is = refl

    abbrev ours : Document Place
    ours = renamed names room p q v

    abbrev theirs : Document Place
    theirs = renamed names room o n w

    -- the row of a channel is as it was, while somebody is there
    going_row : (after : Document Place) (one other : Nick) (name : ChannelName)
        → after.channel name ≡ room.channel name
        → (updated names after (both_going one other)).channel name
        ≡ row_while (lives names ((updated names after (both_going one other)).member name))
        (room.channel name)
    going_row after one other name is =
        ap (row_while (lives names ((updated names after (both_going one other)).member name))) is

    alike : (one other : Bool) (name : ChannelName) → one ≡ other
        → row_while one (room.channel name) ≡ row_while other (room.channel name)
    alike one other name is = ap (λ there. row_while there (room.channel name)) is

    free_of : (nick : Nick) → room.user nick ≡ None → (name : ChannelName)
        → room.member name nick ≡ None
    free_of nick free name = nobody_at names room our_may.sound name nick free

    -- ---- one user, by both

    one_user : same_fold o p ≡ true → (nick : Nick)
        → (updated names ours (both_going q q)).user nick
        ≡ (updated names theirs (both_going n n)).user nick
    one_user is nick =
        one_gone room.user p q nick v our_may.free (same_fold nick q) (same_fold nick p)
        (one_fold nick q)
        ∙ ap (λ it. cond (same_fold nick it) None (room.user nick)) (sym (one_fold o p is))
        ∙ sym (one_gone room.user o n nick w their_may.free (same_fold nick n) (same_fold nick o)
        (one_fold nick n))

    one_member_by : (old new nick : Nick) (name : ChannelName) → room.user new ≡ None
        → after_fate (going_if (same_fold nick new || same_fold nick new))
        (room.member name (swapped old new nick))
        ≡ cond (same_fold nick old) None (room.member name nick)
    one_member_by old new nick name free =
        ap (after_fate (going_if (same_fold nick new || same_fold nick new)))
        (sym (unnamed (same_fold nick new) (room.member name (swapped old new nick))))
        ∙ one_gone (room.member name) old new nick no_writes (free_of new free name)
        (same_fold nick new) (same_fold nick old) (one_fold nick new)

    one_member : same_fold o p ≡ true → (name : ChannelName) (nick : Nick)
        → (updated names ours (both_going q q)).member name nick
        ≡ (updated names theirs (both_going n n)).member name nick
    one_member is name nick =
        one_member_by p q nick name our_may.free
        ∙ ap (λ it. cond (same_fold nick it) None (room.member name nick)) (sym (one_fold o p is))
        ∙ sym (one_member_by o n nick name their_may.free)

    one : same_fold o p ≡ true → updated names ours (both_going q q)
        ≡ updated names theirs (both_going n n)
    one is i = record {
      user = λ nick. one_user is nick i;
      member = λ name nick. one_member is name nick i;
      channel = λ name. (going_row ours q q name (still names room p q our_may name)
          ∙ alike (lives names ((updated names ours (both_going q q)).member name))
          (lives names ((updated names theirs (both_going n n)).member name)) name
          (λ j. lives names (λ nick. one_member is name nick j))
          ∙ sym (going_row theirs n n name (still names room o n their_may name))) i;
    }

    -- ---- two users to one nickname

    two_by : (rows : Nick → Option (Row Place)) (old new nick other : Nick) (u : Writes Place)
        (third : Nick) → rows new ≡ None → same_fold third new ≡ true
        → after_fate (going_if (same_fold nick other || same_fold nick third))
        (written_at (same_fold nick new) u (rows (swapped old new nick)))
        ≡ cond (same_fold nick other) None (cond (same_fold nick old) None (rows nick))
    two_by rows old new nick other u third free is =
        ap (λ it. after_fate (going_if (same_fold nick other || same_fold nick it))
        (written_at (same_fold nick new) u (rows (swapped old new nick)))) (one_fold third new is)
        ∙ two_gone rows old new nick u free (same_fold nick other) (same_fold nick new)
        (same_fold nick old) (one_fold nick new)

    two_user : same_fold n q ≡ true → (nick : Nick)
        → (updated names ours (both_going o n)).user nick
        ≡ (updated names theirs (both_going p q)).user nick
    two_user is nick =
        two_by room.user p q nick o v n our_may.free is
        ∙ none_first (same_fold nick o) (same_fold nick p) (room.user nick)
        ∙ sym (two_by room.user o n nick p w q their_may.free (two_folds q n ∙ is))

    two_member_by : (old new nick other third : Nick) (name : ChannelName)
        → room.user new ≡ None → same_fold third new ≡ true
        → after_fate (going_if (same_fold nick other || same_fold nick third))
        (room.member name (swapped old new nick))
        ≡ cond (same_fold nick other) None (cond (same_fold nick old) None
        (room.member name nick))
    two_member_by old new nick other third name free is =
        ap (after_fate (going_if (same_fold nick other || same_fold nick third)))
        (sym (unnamed (same_fold nick new) (room.member name (swapped old new nick))))
        ∙ two_by (room.member name) old new nick other no_writes third (free_of new free name) is

    two_member : same_fold n q ≡ true → (name : ChannelName) (nick : Nick)
        → (updated names ours (both_going o n)).member name nick
        ≡ (updated names theirs (both_going p q)).member name nick
    two_member is name nick =
        two_member_by p q nick o n name our_may.free is
        ∙ none_first (same_fold nick o) (same_fold nick p) (room.member name nick)
        ∙ sym (two_member_by o n nick p q name their_may.free (two_folds q n ∙ is))

    two : same_fold n q ≡ true → updated names ours (both_going o n)
        ≡ updated names theirs (both_going p q)
    two is i = record {
      user = λ nick. two_user is nick i;
      member = λ name nick. two_member is name nick i;
      channel = λ name. (going_row ours o n name (still names room p q our_may name)
          ∙ alike (lives names ((updated names ours (both_going o n)).member name))
          (lives names ((updated names theirs (both_going p q)).member name)) name
          (λ j. lives names (λ nick. two_member is name nick j))
          ∙ sym (going_row theirs p q name (still names room o n their_may name))) i;
    }

    -- ---- two users to two nicknames

    other_user : same_fold o p ≡ false → same_fold n q ≡ false → (nick : Nick)
        → (renamed names ours o n w).user nick ≡ (renamed names theirs p q v).user nick
    other_user op nq nick = both_turn room.user o n w p q v nick
        (there_apart o q their_may.there our_may.free) op nq
        (two_folds n p ∙ there_apart p n our_may.there their_may.free)

    plain_member : (o n p q nick : Nick) (name : ChannelName)
        → room.member name (swapped p q (swapped o n nick))
        ≡ both_named (room.member name) o n no_writes p q no_writes nick
    plain_member o n p q nick name =
        sym (unnamed (same_fold nick n) (written_at (same_fold (swapped o n nick) q) no_writes
        (room.member name (swapped p q (swapped o n nick))))
        ∙ unnamed (same_fold (swapped o n nick) q)
        (room.member name (swapped p q (swapped o n nick))))

    other_member : same_fold o p ≡ false → same_fold n q ≡ false → (name : ChannelName)
        (nick : Nick) → (renamed names ours o n w).member name nick
        ≡ (renamed names theirs p q v).member name nick
    other_member op nq name nick =
        plain_member o n p q nick name
        ∙ both_turn (room.member name) o n no_writes p q no_writes nick
        (there_apart o q their_may.there our_may.free) op nq
        (two_folds n p ∙ there_apart p n our_may.there their_may.free)
        ∙ sym (plain_member p q o n nick name)

    others : same_fold o p ≡ false → same_fold n q ≡ false
        → renamed names ours o n w ≡ renamed names theirs p q v
    others op nq i = record {
      user = λ nick. other_user op nq nick i;
      member = λ name nick. other_member op nq name nick i;
      channel = λ name. (ap (row_while (lives names ((renamed names ours o n w).member name)))
          (still names room p q our_may name)
          ∙ alike (lives names ((renamed names ours o n w).member name))
          (lives names ((renamed names theirs p q v).member name)) name
          (λ j. lives names (λ nick. other_member op nq name nick j))
          ∙ sym (ap (row_while (lives names ((renamed names theirs p q v).member name)))
          (still names room o n their_may name))) i;
    }

    pub renames_meet : (is_one is_met : Bool) → same_fold o p ≡ is_one → same_fold n q ≡ is_met
        → edited names ours (rename_behind_rename is_one is_met o n w q)
        ≡ edited names theirs (rename_behind_rename is_one is_met p q v n)
    renames_meet true is_met op nq = one op
    renames_meet false true op nq = two nq
    renames_meet false false op nq = others op nq
